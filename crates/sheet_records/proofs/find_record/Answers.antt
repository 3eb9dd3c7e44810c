-- `sheet_records::find_record` meets its contract: where the bytes are a sheet, the walk has noted the place behind the records before
-- this one.
use native.Mathlib.Omega.{arith}
use Rattle.sheet_records.proofs.SeekLaws.{a_sheet, head_there, none_there, stands_there, in_sheet}
use Rattle.sheet_records.proofs.find_record.Goals as goal

pub returns-then-ordinal-eq0 : goal.returns-then-ordinal-eq0
returns-then-ordinal-eq0 c =
    let d = a_sheet c.walk_sheet-end.ensures (omega (arith, c.if-end-bytes.false)) in
    in_sheet _ _ d.1 (head_there _ _ d.0 d.1 _ c.if-ordinal-eq0.true)

pub returns-then-bytes-start : goal.returns-then-bytes-start
returns-then-bytes-start c =
    let w = c.walk_sheet-end.ensures in
    let d = a_sheet w (omega (arith, c.if-end-bytes.false)) in
    in_sheet _ _ d.1 (none_there _ _ d.0 d.1 (w.seeks d.0 d.1 (omega arith)) (omega (arith, c.if-bytes-start.true)))

pub returns : goal.returns
returns c =
    let w = c.walk_sheet-end.ensures in
    let d = a_sheet w (omega (arith, c.if-end-bytes.false)) in
    let k = w.seeks d.0 d.1 (omega arith) in
    in_sheet _ _ d.1
    (stands_there _ _ d.0 d.1 k (omega (arith, c.if-end-bytes.false)) (omega (arith, c.if-bytes-start.false))
    c.take_record-r.ensures)
