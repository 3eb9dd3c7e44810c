-- `digits::percent_of` meets its contract.
use mathlib.Core.Path.{◌≡◌, refl, sym, ap, ◌∙◌}
use mathlib.Core.Bool.{Bool, true, false, cond}
use mathlib.Core.Option.{Option, none}
use Prim.Native.Nat.{ℕ}
use lib.Dec.{ltb}
use Rattle.std.specs.Prelude.{Some}
use Rattle.std.specs.Bool.{then_some}
use Rattle.digits.specs.declared.Decimal.{Decimal}
use native.Mathlib.Omega.{arith}
use Rattle.digits.specs.AnswerMeans.{number_of, whole_of}
use Rattle.digits.proofs.EndLaws.{zero-percent-written, no_percent-below, no_percent_above}
use Rattle.digits.proofs.PercentLaws.{small_answer, percent_24, large_first}
use Rattle.digits.proofs.percent_of.Goals as goal

chosen : (b : Bool) (r : Decimal) {o : Option (ℕ × ℕ)} → number_of (Some r) ≡ o → number_of (then_some b r) ≡ cond b o none
chosen true r e = e
chosen false r e = refl

pub returns-then-bits-eq0-clause-result_value : goal.returns-then-bits-eq0-clause-result_value
returns-then-bits-eq0-clause-result_value c = c.whole.ensures.result_value ∙ sym (ap whole_of (zero-percent-written _ c.if-bits-eq0.true))

pub returns-then-bits-lt-LOWEST-clause-result_value : goal.returns-then-bits-lt-LOWEST-clause-result_value
returns-then-bits-lt-LOWEST-clause-result_value c = sym (ap whole_of (no_percent-below _ c.if-bits-eq0.false c.if-bits-lt-LOWEST.true))

pub returns-then-bits-gt-INFINITY-clause-result_value : goal.returns-then-bits-gt-INFINITY-clause-result_value
returns-then-bits-gt-INFINITY-clause-result_value c = sym (ap whole_of (no_percent_above _ c.if-bits-gt-INFINITY.true))

pub large_percent-requires : goal.large_percent-requires
large_percent-requires c = (c.if-bits-gt-INFINITY.false, omega (arith, percent_24, c.if-bits-gt-HIGHEST.true))

pub returns-then-n-le16777216-clause-result_value : goal.returns-then-n-le16777216-clause-result_value
returns-then-n-le16777216-clause-result_value c =
    ap number_of c.then_some.ensures
    ∙ chosen (ltb c.past-n.result c.past-end.result) _ c.whole-then-n-le16777216.ensures.result_value
    ∙ small_answer (c.past-n.ensures _ c.middle_below.ensures.0)
    (c.past-end.ensures _ c.middle_below-then-n-le16777216.ensures.0)
    c.if-n-le16777216.true

pub large_percent-requires-2 : goal.large_percent-requires-2
large_percent-requires-2 c = (c.if-bits-gt-INFINITY.false, large_first (c.past-n.ensures _ c.middle_below.ensures.0) c.if-n-le16777216.false)
