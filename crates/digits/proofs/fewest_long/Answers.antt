-- `digits::fewest_long` meets its contract: the first place with a number between the two middles has the fewest digits.
use mathlib.Core.Path.{◌≡◌, refl, sym, ap, ◌∙◌, subst}
use mathlib.Core.Option.{some}
use Prim.Native.Nat.{ℕ, ◌+◌, ◌^◌, ◌≤◌, ◌<◌}
use native.Mathlib.Nat.{add-zero}
use native.Mathlib.Omega.{arith}
use Rattle.limbs.specs.LimbMeans.{up_to}
use Rattle.digits.specs.AnswerMeans.{decimal_of}
use Rattle.digits.specs.Fewest.{fewest}
use Rattle.digits.proofs.FractionLaws.{past_high, hunt_low, hunt_high, hunt_found, hunt_next, hunt_ends}
use Rattle.digits.proofs.fewest_long.Goals as goal

answer : (n m p x y b : ℕ) → x ≡ n → y ≡ m → x < y → (n < m → some (n, p) ≡ decimal_of (fewest b)) → some (x + 0, p) ≡ decimal_of (fewest b)
answer n m p x y b e f h k = ap (λ (z : ℕ). some (z, p)) (add-zero x ∙ e) ∙ k (subst (λ (z : ℕ). n < z) f (subst (λ (z : ℕ). z < y) e h))

ordered : (x y n m : ℕ) → x ≡ n → y ≡ m → y ≤ x → m ≤ n
ordered x y n m e f h = omega arith

pub prepare-i-requires : goal.prepare-i-requires
unfolding up_to
prepare-i-requires c = (refl, refl, c.requires.long_low)

pub prepare-j-requires : goal.prepare-j-requires
unfolding up_to
prepare-j-requires c = (refl, refl, c.requires.long_high)

pub first_past-n-requires : goal.first_past-n-requires
first_past-n-requires c = (c.loop-places.invariant.fixed_low.long, hunt_low c.requires c.loop-places.invariant)

pub first_past-requires : goal.first_past-requires
first_past-requires c = (c.loop-places.invariant.fixed_high.long, hunt_high c.requires c.loop-places.invariant)

pub returns-then-n-first_past : goal.returns-then-n-first_past
returns-then-n-first_past c =
    record {
      result_value = answer _ _ _ _ _ _ c.first_past-n.ensures c.first_past.ensures c.if-n-first_past.true
          (hunt_found c.requires c.loop-places.invariant c.loop-places-test.true);
      neat = record {
        far = λ h. subst (λ (z : ℕ). z < 10 ^ 10) (sym c.first_past-n.ensures)
            (past_high c.args.low.tie (up_to 5 c.loop-places.f) c.loop-places.i (hunt_low c.requires c.loop-places.invariant));
        parts = λ h. (refl, refl);
        n = λ h. absurd (omega arith);
        middle = omega arith;
        high = omega arith;
      };
    }

pub lift-i-requires : goal.lift-i-requires
lift-i-requires c = (c.loop-places.invariant.fixed_low.long, hunt_low c.requires c.loop-places.invariant, omega arith)

pub lift-j-requires : goal.lift-j-requires
lift-j-requires c = (c.loop-places.invariant.fixed_high.long, hunt_high c.requires c.loop-places.invariant, omega arith)

pub loop-places-preserved : goal.loop-places-preserved
loop-places-preserved c =
    let x = c.loop-places.invariant in
    hunt_next c.requires x c.loop-places-test.true
    (ordered _ _ _ _ c.first_past-n.ensures c.first_past.ensures c.if-n-first_past.false)
    (c.lift-i.auto.f ∙ x.fixed_low.long)
    (c.lift-j.auto.f ∙ x.fixed_high.long)
    c.lift-i.ensures.below
    c.lift-j.ensures.below
    c.lift-i.ensures.f_after
    c.lift-j.ensures.f_after

pub returns-clause-result_value : goal.returns-clause-result_value
returns-clause-result_value c = hunt_ends c.loop-places.invariant c.loop-places-test.false
