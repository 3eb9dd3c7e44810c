-- `token::fraction_from` meets its contract.
use native.Mathlib.Omega.{arith}
use Rattle.limbs.proofs.NumberLaws.{whole_small}
use Rattle.token.proofs.fraction_from.Goals as goal

pub digits_from-requires : goal.digits_from-requires
digits_from-requires c =
    let h = c.requires in (
      omega (arith, h.high),
      omega arith,
      whole_small c.args.t.now _ _ 10 h.value h.digits (omega (arith, h.high)),
    )
