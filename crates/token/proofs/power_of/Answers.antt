-- `token::power_of` meets its contract.
use mathlib.Core.Path.{◌≡◌, sym}
use mathlib.Core.List.{List}
use Prim.Native.Nat.{ℕ, ◌≤◌}
use lib.ListN.{length, drop}
use Rattle.text.specs.Bytes.{run, is_digit}
use native.Mathlib.Omega.{arith}
use Rattle.limbs.proofs.NumberLaws.{ten_positive, decimal_nil, run_part, part_le}
use Rattle.token.specs.Token.{power_size}
use Rattle.token.proofs.LexLaws.{PowerIs, power_is, power_small}
use Rattle.token.proofs.power_of.Goals as goal

sized : (t : List ℕ) (n k : ℕ) → k ≡ power_size t n → PowerIs t n k
sized t n k e = rw (sym e) at (power_is t n)

pub returns-then-size-eq0 : goal.returns-then-size-eq0
returns-then-size-eq0 c =
    let args = c.args in
    sym (decimal_nil 0 _ args.size c.if-size-eq0.true)

pub value-requires : goal.value-requires
value-requires c =
    let t = c.args.t.now in
    let from = c.power_from.result in
    let size = c.args.size in
    let p = sized t c.args.n size c.requires.1 in
    let inside : size ≤ run is_digit (drop from t) = rw c.power_from.ensures p.two.run in
    let few : length c.part.result.now ≤ size = rw c.part.ensures (part_le t from size) in
    (rw c.part.ensures (run_part is_digit t from size inside), ten_positive _, omega (arith, p.few, few))

pub overflow_cast-result : goal.overflow_cast-result
overflow_cast-result c =
    let d = power_small c.args.t.now c.args.n c.args.size c.requires.1 in
    omega (arith, rw (c.part.ensures, c.power_from.ensures) at c.value.ensures, d)
