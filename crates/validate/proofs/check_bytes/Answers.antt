-- `validate::check_bytes` meets its contract: where the walk ends tells whether the bytes are a sheet, and what it found is the verdict.
use Rattle.validate.proofs.CheckLaws as laws
use Rattle.validate.proofs.check_bytes.Goals as goal

pub returns-then-walk-sheet : goal.returns-then-walk-sheet
returns-then-walk-sheet c =
    laws.stops _ _ _ c.requires c.take_field-head.ensures.reads c.validate_nodes-walk.ensures.reads
    c.if-walk-sheet.true

pub returns-in-None : goal.returns-in-None
returns-in-None c =
    rw c.in-None.is at (
    laws.judges _ _ _ c.requires c.take_field-head.ensures.reads c.validate_nodes-walk.ensures.reads
    c.if-walk-sheet.false
    )

pub returns-in-Some : goal.returns-in-Some
returns-in-Some c =
    rw c.in-Some.is at (
    laws.judges _ _ _ c.requires c.take_field-head.ensures.reads c.validate_nodes-walk.ensures.reads
    c.if-walk-sheet.false
    )
