-- `sheet_decode::fields::skip_words` meets its contract: the loop keeps that what is read from here on is read from the start.
use Rattle.sheet.specs.Sheet.{word}
use Rattle.sheet_decode.proofs.ReadLaws as laws
use Rattle.sheet_decode.proofs.fields.skip_words.Goals as goal

pub loop-init : goal.loop-init
loop-init c = laws.walk_start word _ _ _

pub loop-preserved : goal.loop-preserved
loop-preserved c = laws.walk-next word _ _ _ _ _ _ c.loop-test.true c.take_field-next.ensures.reads c.loop.invariant

pub returns : goal.returns
returns c = laws.walk_done word _ _ _ _ _ c.loop-test.false c.loop.invariant
