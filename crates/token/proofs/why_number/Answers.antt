-- `token::why_number` meets its contract; each answer comes from the parts of a number, `Parts`.
use Prim.Native.Nat.{◌≤◌}
use mathlib.Core.Path.{sym, ◌∙◌}
use native.Mathlib.Nat.{zero-add}
use native.Mathlib.Omega.{arith}
use lib.ListN.{length}
use Rattle.text.specs.Bytes.{is_digit}
use Rattle.token.specs.Token.{past_fraction}
use Rattle.token.proofs.LexLaws.{Parts, run_fits, fraction-inside, power_is, power_high}
use Rattle.token.proofs.PieceLaws.{number_bad, number-many}
use Rattle.token.proofs.why_number.Goals.{After-clinging, After-has_point-point}
use Rattle.token.proofs.why_number.Goals as goal

-- the number's parts, once each is known
parts : (w : After-clinging) →
    Parts
    w.args.t.now
    w.run_end-w.result
    w.has_point-point.result
    w.past_fraction-end.result
    w.power_size-power.result
    w.has_suffix-suffix.result
    w.past_suffix-n.result
parts w =
    let stop = w.past_power-stop.ensures in
    record {
      whole = w.run_end-w.ensures ∙ zero-add _;
      point = w.has_point-point.ensures;
      end = w.past_fraction-end.ensures;
      power = w.power_size-power.ensures;
      suffix = rw (sym stop) w.has_suffix-suffix.ensures;
      next = rw (sym stop) w.past_suffix-n.ensures;
    }

-- the digits end in the text
ends : (w : After-has_point-point) →
    let t = w.args.t.now in
    past_fraction w.has_point-point.result t w.run_end-w.result ≤ length t
ends w =
    let t = w.args.t.now in
    let whole = run_fits is_digit t 0 (omega arith) in
    fraction-inside t w.run_end-w.result _ w.has_point-point.ensures (omega arith)

pub overflow_cast-w : goal.overflow_cast-w
overflow_cast-w c = omega (arith, run_fits is_digit c.args.t.now 0 (omega arith))

pub past_fraction-end-requires : goal.past_fraction-end-requires
past_fraction-end-requires c = (c.has_point-point.ensures, omega (arith, ends c, c.requires))

pub power_size-power-requires : goal.power_size-power-requires
power_size-power-requires c = omega (arith, c.past_fraction-end.ensures, ends (goal.at.power_size-power-requires c).After-has_point-point, c.requires)

pub past_power-stop-requires : goal.past_power-stop-requires
past_power-stop-requires c = (
  omega (arith, c.past_fraction-end.ensures, ends (goal.at.past_power-stop-requires c).After-has_point-point, c.requires),
  omega (arith, c.power_size-power.ensures, (power_is c.args.t.now c.past_fraction-end.result).few),
)

pub past_suffix-n-requires : goal.past_suffix-n-requires
past_suffix-n-requires c =
    let stop = power_high c.args.t.now _ _ c.power_size-power.ensures
    (omega (arith, c.past_fraction-end.ensures, ends (goal.at.past_suffix-n-requires c).After-has_point-point))
    in
    (c.has_suffix-suffix.ensures, omega (arith, c.past_power-stop.ensures, stop, c.requires))

pub returns-then-clinging : goal.returns-then-clinging
returns-then-clinging c = number_bad (parts (goal.at.returns-then-clinging c).After-clinging) (sym c.clinging.ensures ∙ c.if-clinging.true)

pub returns : goal.returns
returns c = number-many (parts (goal.at.returns c).After-clinging) (sym c.clinging.ensures ∙ c.if-clinging.false)
