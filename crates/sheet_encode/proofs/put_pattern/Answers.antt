-- `sheet_encode::put_pattern` meets its contract.
use Rattle.sheet_encode.proofs.OverLaws.{writes_then}
use Rattle.sheet_encode.proofs.put_pattern.Goals as goal

pub returns-in-Grid : goal.returns-in-Grid
returns-in-Grid c =
    rw c.in-Grid.is
    (writes_then c.put_case_word-rows_at.ensures (writes_then c.put_word-origin_at.ensures c.put_byte.ensures))

pub returns-in-Random : goal.returns-in-Random
returns-in-Random c =
    rw c.in-Random.is
    (writes_then c.put_case_word-min_at.ensures
    (writes_then c.put_float-max_at.ensures c.put_float.ensures))
