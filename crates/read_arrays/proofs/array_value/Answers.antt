-- `read_arrays::array_value` meets its contract.
use Rattle.read_arrays.proofs.ArrayLaws.{array_went}
use Rattle.read_arrays.proofs.array_value.Goals as goal

pub returns-in-Is : goal.returns-in-Is
returns-in-Is c =
    let args = c.args in
    let w = rw c.in-Is.is at c.array_items.ensures in
    array_went
    args.text.now
    args.sheet.now
    c.put_byte-first.new.sheet
    c.array_items.new.sheet
    c.patch_count.new.sheet
    args.c
    _
    c.leave_group.result
    args.out
    c.put_byte-first.result
    _
    c.patch_count.result
    _
    c.put_byte-first.ensures
    w.0
    w.1
    c.patch_count.ensures
    c.leave_group.ensures
