-- `sheet_shape::sheet_shape` meets its contract: the walk ends where the bytes do just if they are a sheet.
use Rattle.std.proofs.Common.{arith}
use Rattle.sheet_shape.proofs.ShapeLaws.{sheet_too_long, sheet_of_lem, no_sheet}
use Rattle.sheet_shape.proofs.sheet_shape.Goals as goal

pub returns-then-s-gt65535 : goal.returns-then-s-gt65535
returns-then-s-gt65535 c = sheet_too_long _ _ c.if-s-gt65535.true

pub returns-then-t-s : goal.returns-then-t-s
returns-then-t-s c = no_sheet _ _ c.if-s-gt65535.false c.pass_sheet-t.ensures c.if-t-s.true

pub overflow_mul-result : goal.overflow_mul-result
overflow_mul-result c =
    let z = sheet_of_lem _ _ c.if-s-gt65535.false c.pass_sheet-t.ensures c.if-t-s.false in
    omega (arith, z.1, c.if-s-gt65535.false)

pub overflow_sub-result : goal.overflow_sub-result
overflow_sub-result c =
    let z = sheet_of_lem _ _ c.if-s-gt65535.false c.pass_sheet-t.ensures c.if-t-s.false in
    omega (arith, z.1, c.if-s-gt65535.false)

pub returns : goal.returns
returns c = (sheet_of_lem _ _ c.if-s-gt65535.false c.pass_sheet-t.ensures c.if-t-s.false).0
