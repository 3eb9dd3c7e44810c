-- `limbs::decimal` meets its contract.
use mathlib.Core.Path.{refl, sym, ◌∙◌, subst}
use Prim.Native.Nat.{ℕ, ◌+◌, ◌*◌, ◌^◌, ◌≤◌}
use native.Mathlib.Omega.{arith}
use lib.ListN.{length}
use lib.Seq.{length-take-le}
use Rattle.text.specs.Bytes.{is_digit}
use Rattle.limbs.specs.LimbMeans.{up_to}
use Rattle.limbs.proofs.LimbLaws.{part_between}
use Rattle.limbs.proofs.DecimalLaws.{enough}
use Rattle.limbs.proofs.NumberLaws.{run_part, part_le}
use Rattle.limbs.proofs.decimal.Goals as goal

pub divided-requires : goal.divided-requires
unfolding up_to
divided-requires c =
    let args = c.args in
    let n = c.wanted-n.result in
    let few = c.wanted-n.ensures.2 in
    let some : 1 ≤ n = omega (arith, c.wanted-n.ensures.0) in
    let whole = c.part-whole.result.now in
    let fraction = c.part-fraction.result.now in
    let w : length whole ≤ args.w = rw c.part-whole.ensures (part_le args.t.now 0 args.w) in
    let q : length fraction ≤ args.q = rw c.part-fraction.ensures (part_le args.t.now args.from args.q) in (
      length-take-le n _ few ∙ sym (length-take-le n _ few),
      part_between n 0 20 _ 0 few (omega arith) few refl refl,
      part_between n 1 20 _ 1 few some few refl refl,
      subst (λ (z : ℕ). z ≤ 20) (sym (length-take-le n _ few)) few,
      rw c.part-whole.ensures (run_part is_digit args.t.now 0 args.w c.requires.0),
      rw c.part-fraction.ensures (run_part is_digit args.t.now args.from args.q c.requires.1),
      subst (λ (z : ℕ). 10 ^ (length whole + length fraction + args.up) * 4 ≤ 4294967296 ^ z) (sym (length-take-le n _ few))
          (enough _ n (omega (arith, w, q, c.wanted-n.ensures.0))),
      subst (λ (z : ℕ). 10 ^ args.down * 4 ≤ 4294967296 ^ z) (sym (length-take-le n _ few)) (enough _ n c.wanted-n.ensures.1),
    )

pub returns : goal.returns
returns c = rw (c.part-whole.ensures, c.part-fraction.ensures) at c.divided.ensures
