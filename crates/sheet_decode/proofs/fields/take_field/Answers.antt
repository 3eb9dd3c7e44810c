-- `sheet_decode::fields::take_field` meets its contract: the loop keeps that k bytes are read and make v.
use Prim.Native.Nat.{◌+◌, ◌<◌}
use native.Mathlib.Omega.{arith}
use lib.ListN.{get_or, length}
use Rattle.sheet_decode.proofs.ReadLaws as laws
use Rattle.sheet_decode.proofs.fields.take_field.Goals as goal

pub returns-then-s-at : goal.returns-then-s-at
returns-then-s-at c = laws.big_lost _ _ c.args.width c.if-s-at.true c.lost.ensures

pub returns-then-s-at-2 : goal.returns-then-s-at-2
returns-then-s-at-2 c = laws.big_short _ _ _ c.if-s-at.false c.if-s-at-2.true c.lost-then-s-at-2.ensures

pub overflow_mul-v : goal.overflow_mul-v
overflow_mul-v c = omega (arith, laws.room c.loop-k.k c.loop-k.v 0 (omega arith) c.loop-k.invariant.1 (omega arith))

pub overflow_add-v-in-loop-k : goal.overflow_add-v-in-loop-k
overflow_add-v-in-loop-k c =
    let i = c.args.at + c.loop-k.k in
    let b : get_or c.args.s.now i 0 < 256 = omega (arith, c.type_inv.s i) in
    omega (arith, laws.room c.loop-k.k c.loop-k.v _ (omega arith) c.loop-k.invariant.1 b)

pub loop-k-preserved : goal.loop-k-preserved
loop-k-preserved c =
    let i = c.args.at + c.loop-k.k in
    let b : get_or c.args.s.now i 0 < 256 = omega (arith, c.type_inv.s i) in
    let h : i < length c.args.s.now = omega (arith, c.loop-k-test.true, c.loop-k.invariant.0) in
    (c.loop-k.invariant.0, laws.grow _ _ _ c.loop-k.invariant.1 b, laws.big-next _ _ _ _ h b c.loop-k.invariant.2)

pub returns : goal.returns
returns c = laws.big_got _ _ _ _ _ (omega arith) c.loop-k.invariant.2 c.loop-k.invariant.0 c.loop-k.invariant.1
