-- `digits::fewest` meets its contract: by the range of the bits.
use Prim.Native.Nat.{ℕ}
use Rattle.std.specs.Prelude.{Some}
use mathlib.Core.Option.{Option, some}
use mathlib.Core.Path.{◌≡◌, sym, ap, ◌∙◌}
use Rattle.digits.specs.AnswerMeans.{number_of, decimal_of}
use Rattle.digits.specs.Means.{LeastWhole, whole_over}
use Rattle.digits.specs.declared.Decimal.{Decimal}
use Rattle.digits.proofs.EndLaws.{zero-written, none_below, none_above}
use Rattle.digits.proofs.WholeLaws.{whole_is}
use Rattle.digits.proofs.fewest.Goals as goal

whole_answer : (b : ℕ) (r : Decimal) → LeastWhole b r → {o : Option (ℕ × ℕ)} → some (whole_over b, 0) ≡ o → number_of (Some r) ≡ o
whole_answer b r l e = rw (l.is, l.places) e

pub returns-then-bits-eq0-clause-result_value : goal.returns-then-bits-eq0-clause-result_value
returns-then-bits-eq0-clause-result_value c = c.whole.ensures.result_value ∙ zero-written _ c.if-bits-eq0.true

pub returns-then-bits-lt-LEAST-clause-result_value : goal.returns-then-bits-lt-LEAST-clause-result_value
returns-then-bits-lt-LEAST-clause-result_value c = sym (ap decimal_of (none_below _ c.if-bits-eq0.false c.if-bits-lt-LEAST.true))

pub returns-then-bits-gt-INFINITY-clause-result_value : goal.returns-then-bits-gt-INFINITY-clause-result_value
returns-then-bits-gt-INFINITY-clause-result_value c = sym (ap decimal_of (none_above _ c.if-bits-gt-INFINITY.true))

pub returns-clause-result_value : goal.returns-clause-result_value
returns-clause-result_value c = whole_answer _ _ c.least_whole.ensures.least_whole (whole_is _ c.if-bits-le-HIGHEST.false c.if-bits-gt-INFINITY.false)
