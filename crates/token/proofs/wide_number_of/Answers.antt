-- `token::wide_number_of` meets its contract; the number comes from its parts, `Parts`.
use Prim.Native.Nat.{◌≤◌}
use mathlib.Core.Path.{refl, sym, ◌∙◌}
use native.Mathlib.Nat.{zero-add}
use native.Mathlib.Omega.{arith}
use Rattle.token.specs.Token.{past_suffix, past_power}
use Rattle.token.proofs.LexLaws.{Parts, digits_soon, power_is}
use Rattle.token.proofs.LexLaws.{written_point, written_suffix}
use Rattle.token.proofs.wide_number_of.Goals.{After-has_suffix-suffix, After-past_fraction-end}
use Rattle.token.proofs.wide_number_of.Goals as goal

parts : (w : After-has_suffix-suffix) →
    let t = w.args.t.now in
    let e = w.past_fraction-end.result in
    let k = w.power_size-power.result in
    let z = w.has_suffix-suffix.result in
    Parts t w.run_end-w.result w.has_point-point.result e k z (past_suffix z (past_power t e k))
parts w =
    record {
      whole = w.run_end-w.ensures ∙ zero-add _;
      point = w.has_point-point.ensures;
      end = w.past_fraction-end.ensures;
      power = w.power_size-power.ensures;
      suffix = rw (sym w.past_power-stop.ensures) w.has_suffix-suffix.ensures;
      next = refl;
    }

soon : (w : After-past_fraction-end) → w.past_fraction-end.result ≤ 81
soon w =
    let h = digits_soon w.args.t.now _ _ (w.run_end-w.ensures ∙ zero-add _) w.has_point-point.ensures w.requires
    in
    omega (arith, w.past_fraction-end.ensures)

pub past_fraction-end-requires : goal.past_fraction-end-requires
past_fraction-end-requires c =
    let h = digits_soon c.args.t.now _ _ (c.run_end-w.ensures ∙ zero-add _) c.has_point-point.ensures c.requires in
    (c.has_point-point.ensures, omega arith)

pub power_size-power-requires : goal.power_size-power-requires
power_size-power-requires c = omega (arith, soon c)

pub past_power-stop-requires : goal.past_power-stop-requires
past_power-stop-requires c =
    let t = c.args.t.now in (
      omega (arith, soon (goal.at.past_power-stop-requires c).After-past_fraction-end),
      omega (arith, c.power_size-power.ensures, (power_is t c.past_fraction-end.result).few),
    )

pub stretched-requires : goal.stretched-requires
stretched-requires c =
    let p = parts c in
    (c.requires, sym (written_point p), sym (written_suffix p))
