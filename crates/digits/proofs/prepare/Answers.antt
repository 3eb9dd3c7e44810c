-- `digits::prepare` meets its contract.
use mathlib.Core.Path.{◌≡◌, refl, sym, ap, ◌∙◌, subst}
use Prim.Native.Nat.{ℕ, ◌+◌, ◌*◌, ◌-◌, ◌^◌, ◌≤◌, ◌<◌}
use native.Mathlib.Nat.{zero-mul, zero-add, lt_of_lt_of_le}
use native.Mathlib.Omega.{arith}
use lib.Dec.{lit≤}
use Rattle.limbs.proofs.DecimalLaws.{carried_none}
use Rattle.digits.specs.Means.{Long, Fixed}
use Rattle.digits.specs.declared.Middle.{Middle}
use Rattle.digits.proofs.FractionLaws.{set_up, fixed_start, fixed_next, whole_low}
use Rattle.digits.proofs.prepare.Goals.{After-lift-a, After-shift_up}
use Rattle.digits.proofs.prepare.Goals as goal

-- limbs that hold 0, times num, and num more
first_limb : (v w o a p : ℕ) → v ≡ 0 → w + o * p ≡ v * a + a → a < p → w ≡ a
first_limb v w o a p z e h = carried_none w o p a (e ∙ ap (λ (x : ℕ). x * a + a) z ∙ ap (λ (x : ℕ). x + a) (zero-mul a) ∙ zero-add a) h

lower : (m : Middle) → Long m → 10 ^ 5 ≤ 10 * 2 ^ m.shift
lower m l = plain (2 ^ m.shift) l.wide
  where
    plain : (s : ℕ) → 10 ^ 10 ≤ 10 * s → 10 ^ 5 ≤ 10 * s
    plain s h = omega arith

placed : (m : Middle) (v w o : ℕ) → Long m → v ≡ 0 → w + o * 4294967296 ^ 5 ≡ v * m.num + m.num → w ≡ m.num
placed m v w o l z e = first_limb v w o m.num (4294967296 ^ 5) z e (lt m.num l.num)
  where
    lt : (a : ℕ) → a < 2 ^ 25 → a < 4294967296 ^ 5
    lt a h = lt_of_lt_of_le h (lit≤ tt)

started : (w : After-shift_up) →
    Fixed w.args.m 0 0 w.shift_up.new.f
started w =
    let m = w.args.m in
    let e = w.shift_up.ensures ∙ ap (λ (z : ℕ). z * 2 ^ (160 - m.shift)) (placed m _ _ w.muladd.result w.requires.2 w.requires.1 (w.muladd.ensures.by_index 5 w.requires.0)) in
    fixed_start {m = m} (w.shift_up.auto.f ∙ w.muladd.auto.a ∙ w.requires.0)
    (subst (λ (z : ℕ). z < 4294967296 ^ 5) (sym e) (set_up w.requires.2)) e

half : (w : After-lift-a) →
    Fixed w.args.m 5 w.lift-a.result w.lift-a.new.f
half w =
    let l = w.requires.2 in
    let s = started (goal.at.After-lift-a w).After-shift_up in
    fixed_next l s 5 100000 refl (w.lift-a.auto.f ∙ s.long) w.lift-a.ensures.below w.lift-a.ensures.f_after

pub shift_up-requires : goal.shift_up-requires
shift_up-requires c =
    let m = c.args.m in (
      c.muladd.auto.a ∙ c.requires.0,
      subst (λ (z : ℕ). z * 2 ^ (160 - m.shift) < 4294967296 ^ 5) (sym (placed m _ _ c.muladd.result c.requires.2 c.requires.1 (c.muladd.ensures.by_index 5 c.requires.0))) (set_up c.requires.2),
    )

pub lift-requires : goal.lift-requires
lift-requires c =
    let l = c.requires.2 in
    let h = half (goal.at.lift-requires c).After-lift-a in
    (h.long, whole_low l h (lower _ l), omega arith)
