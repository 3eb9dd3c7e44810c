-- `words::packing::packed` meets its contract.
use Prim.Native.Nat.{◌-◌}
use mathlib.Core.Path.{◌∙◌}
use native.Mathlib.Nat.{pow-le-pow_right}
use native.Mathlib.Omega.{arith}
use Rattle.words.proofs.KeyLaws.{least-part}
use Rattle.words.proofs.packing.packed.Goals as goal

pub onto-requires : goal.onto-requires
onto-requires c =
    let n = c.args.n in
    (c.requires.0, omega arith, omega (arith, pow-le-pow_right {n = 256} (omega arith) {i = 1} {j = 8 - n} (omega (arith, c.requires))))

pub returns : goal.returns
returns c =
    let args = c.args in
    c.least.ensures
    ∙ least-part args.text.now args.at args.n _ (omega arith) c.requires.1
    (λ j l. omega (arith, c.type_inv.text j))
    c.eight.ensures
