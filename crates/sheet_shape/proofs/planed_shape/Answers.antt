-- `sheet_shape::planed_shape` meets its contract: four bytes a number are left just if the bytes are planed.
use Rattle.std.proofs.Common.{arith}
use Rattle.sheet_shape.proofs.ShapeLaws.{planed_too_long, planed_of, no_planed, left_bytes}
use Rattle.sheet_shape.proofs.planed_shape.Goals as goal

pub returns-then-s-gt65535 : goal.returns-then-s-gt65535
returns-then-s-gt65535 c = planed_too_long _ _ c.if-s-gt65535.true

pub returns-then-s-t : goal.returns-then-s-t
returns-then-s-t c = no_planed _ _ c.if-s-gt65535.false c.pass_sheet-t.ensures (λ h g. omega (arith, h, c.if-s-t.true))

pub returns-then-left-t : goal.returns-then-left-t
returns-then-left-t c = no_planed _ _ c.if-s-gt65535.false c.pass_sheet-t.ensures (λ h g. omega (arith, g, c.if-left-t.true))

pub returns-then-left-ne0 : goal.returns-then-left-ne0
returns-then-left-ne0 c = no_planed _ _ c.if-s-gt65535.false c.pass_sheet-t.ensures (λ h g. omega (arith, g, c.if-left-ne0.true))

pub returns : goal.returns
returns c =
    planed_of _ _ c.if-s-gt65535.false c.pass_sheet-t.ensures c.if-s-t.false
    (omega (arith, c.if-left-ne0.false, c.if-left-t.false, c.if-s-t.false))
    (left_bytes c.pass_sheet-t.result.next c.args.s.now (λ i. omega (arith, c.type_inv.s i)))
