-- `digits::large_percent` meets its contract.
use Prim.Native.Nat.{ℕ}
use Rattle.std.specs.Prelude.{Some}
use mathlib.Core.Option.{Option, some}
use mathlib.Core.Path.{◌≡◌, sym, ap, ◌∙◌}
use Rattle.digits.specs.AnswerMeans.{number_of, whole_of}
use Rattle.digits.specs.Means.{LeastWhole, whole_over}
use Rattle.digits.specs.declared.Decimal.{Decimal}
use Rattle.digits.proofs.PercentLaws.{float_none, float_answer}
use Rattle.digits.proofs.WholeLaws.{first-whole}
use Rattle.digits.proofs.large_percent.Goals as goal

whole_answer : (b : ℕ) (r : Decimal) → LeastWhole b r → {o : Option (ℕ × ℕ)} → some (whole_over b, 0) ≡ o → number_of (Some r) ≡ o
whole_answer b r l e = rw (l.is, l.places) e

pub returns-then-hundredth-bits-clause-result_value : goal.returns-then-hundredth-bits-clause-result_value
returns-then-hundredth-bits-clause-result_value c =
    sym (ap whole_of
    (float_none c.least_float-y.ensures c.requires.1
    (λ e. c.if-hundredth-bits.true (c.hundredth.ensures ∙ e))))

pub returns-then-y-le-HIGHEST-clause-result_value : goal.returns-then-y-le-HIGHEST-clause-result_value
returns-then-y-le-HIGHEST-clause-result_value c =
    c.whole.ensures.result_value
    ∙ float_answer c.least_float-y.ensures (c.past.ensures _ c.middle_below.ensures.0)
    c.requires.1
    (sym c.hundredth.ensures ∙ c.if-hundredth-bits.false)

pub returns-clause-result_value : goal.returns-clause-result_value
returns-clause-result_value c =
    let f = c.least_float-y.ensures in whole_answer _ _ c.least_whole.ensures.least_whole
    (float_answer f (first-whole _ c.if-y-le-HIGHEST.false f.high) c.requires.1
    (sym c.hundredth.ensures ∙ c.if-hundredth-bits.false))
