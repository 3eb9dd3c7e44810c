-- Bytes set to what they shall be.
use Prim.Native.Nat.{ℕ, zero, suc, ◌+◌, ◌*◌, ◌≤◌, ◌<◌}
use mathlib.Core.List.{List, [], ◌∷◌}
use mathlib.Core.Logic.{◌⊎◌, inl, inr, ⊎_elim}
use mathlib.Core.Bool.{Bool, true, false}
use mathlib.Core.Path.{◌≡◌, refl, ◌∙◌, ap, subst, subst⁻¹}
use borrow.Author.Tests.{eq-eqb, ne_eqb}
use native.Mathlib.Omega.{arith}
use lib.ListN.{length, get_or, set, length-set}
use Rattle.plane.specs.Means.{Right, Betters, Alike, Copies, FourBytes, Puts, NumberAlike, NumberRight, Advances}

-- a byte that is set is there, and no other is changed
set_here : (l : List ℕ) (i x : ℕ) → i < length l → get_or (set l i x) i 0 ≡ x
set_here [] i x h = absurd (omega arith)
set_here (a ∷ l) zero x h = refl
set_here (a ∷ l) (suc i) x h = set_here l i x (omega arith)

set_other : (l : List ℕ) (i j x : ℕ) → (i ≡ j → ⊥) → get_or (set l i x) j 0 ≡ get_or l j 0
set_other [] i j x h = refl
set_other (a ∷ l) zero zero x h = absurd (h refl)
set_other (a ∷ l) zero (suc j) x h = refl
set_other (a ∷ l) (suc i) zero x h = refl
set_other (a ∷ l) (suc i) (suc j) x h = set_other l i j x (λ e. h (ap suc e))

same_or_not : (i j : ℕ) → (i ≡ j) ⊎ (i ≡ j → ⊥)
same_or_not zero zero = inl refl
same_or_not zero (suc j) = inr (λ e. omega arith)
same_or_not (suc i) zero = inr (λ e. omega arith)
same_or_not (suc i) (suc j) = ⊎_elim (λ e. inl (ap suc e)) (λ n. inr (λ e. n (down i j e))) (same_or_not i j)
  where
    down : (i j : ℕ) → suc i ≡ suc j → i ≡ j
    down i j e = omega arith

-- a byte set to f's
pub better : (f out : List ℕ) (i x : ℕ) → i < length out → x ≡ get_or f i 0 → Betters f out (set out i x) × Right f (set out i x) i
better f out i x h e = (
  record {
    same_length = length-set out i x;
    keeps = λ y r. ⊎_elim (λ q. subst (λ (k : ℕ). Right f (set out i x) k) q (set_here out i x h ∙ e))
        (λ q. set_other out i y x q ∙ r) (same_or_not i y);
  },
  set_here out i x h ∙ e,
)

pub better_none : (f out : List ℕ) → Betters f out out
better_none f out = record { same_length = refl; keeps = λ x r. r }

pub better_both : {f a b c : List ℕ} → Betters f a b → Betters f b c → Betters f a c
better_both p q = record { same_length = q.same_length ∙ p.same_length; keeps = λ x r. q.keeps x (p.keeps x r) }

-- ---- so many bytes

-- the first m of them are copied
abbrev pub Copied : List ℕ → ℕ → List ℕ → ℕ → ℕ → ℕ → List ℕ → Type 0
Copied src from out to k m after =
    (length after ≡ length out)
    × ((f : List ℕ) → Alike src from f to k → Betters f out after × ((j : ℕ) → j < m → Right f after (to + j)))

pub copied_none : (src : List ℕ) (from : ℕ) (out : List ℕ) (to k : ℕ) → Copied src from out to k 0 out
copied_none src from out to k = (refl, λ f a. (better_none f out, λ j h. absurd (omega arith)))

pub copied_next : (src : List ℕ) (from : ℕ) (out : List ℕ) (to k m : ℕ) (after : List ℕ) → m < k → to + k ≤ length out
    → Copied src from out to k m after → Copied src from out to k (m + 1) (set after (to + m) (get_or src (from + m) 0))
copied_next src from out to k m after l h c = (
  length-set after (to + m) (get_or src (from + m) 0) ∙ c.0,
  λ f a.
      let r = c.1 f a in
      let b = better f after (to + m) (get_or src (from + m) 0) (omega (arith, c.0)) (a m l) in (
        better_both r.0 b.0,
        λ j q. ⊎_elim (λ e. subst (λ (i : ℕ). Right f (set after (to + m) (get_or src (from + m) 0)) (to + i)) e b.1)
            (λ n. b.0.keeps (to + j) (r.1 j (below j m q n))) (same_or_not m j),
      ),
)
  where
    below : (j m : ℕ) → j < m + 1 → (m ≡ j → ⊥) → j < m
    below j m h n = omega arith

-- ---- the four bytes of a number

pub fours : (src : List ℕ) (from step : ℕ) (out : List ℕ) (to stride : ℕ) → to + 3 * stride < length out
    → (f : List ℕ) → FourBytes src from step f to stride
    → let a = set out to (get_or src from 0) in
    let b = set a (to + stride) (get_or src (from + step) 0) in
    let c = set b (to + 2 * stride) (get_or src (from + 2 * step) 0) in
    let d = set c (to + 3 * stride) (get_or src (from + 3 * step) 0) in
    Betters f out d × FourBytes d to stride f to stride
fours src from step out to stride h f w =
    let a = set out to (get_or src from 0) in
    let b = set a (to + stride) (get_or src (from + step) 0) in
    let c = set b (to + 2 * stride) (get_or src (from + 2 * step) 0) in
    let p = better f out to (get_or src from 0) (omega arith) w.first in
    let q = better f a (to + stride) (get_or src (from + step) 0) (omega (arith, p.0.same_length)) w.second in
    let r = better f b (to + 2 * stride) (get_or src (from + 2 * step) 0) (omega (arith, p.0.same_length, q.0.same_length)) w.third in
    let s = better f c (to + 3 * stride) (get_or src (from + 3 * step) 0)
    (omega (arith, p.0.same_length, q.0.same_length, r.0.same_length)) w.fourth
    in (
      better_both p.0 (better_both q.0 (better_both r.0 s.0)),
      record {
        first = s.0.keeps to (r.0.keeps to (q.0.keeps to p.1));
        second = s.0.keeps (to + stride) (r.0.keeps (to + stride) q.1);
        third = s.0.keeps (to + 2 * stride) r.1;
        fourth = s.1;
      },
    )

-- ---- the bytes before a number, then the number

pub four_kept : {f a b : List ℕ} {q e : ℕ} → Betters f a b → FourBytes a q e f q e → FourBytes b q e f q e
four_kept {q = q} {e = e} b w = record {
  first = b.keeps q w.first;
  second = b.keeps (q + e) w.second;
  third = b.keeps (q + 2 * e) w.third;
  fourth = b.keeps (q + 3 * e) w.fourth;
}

module _ (w : ℕ) (src : List ℕ) (done : ℕ) (out : List ℕ) (to k rest numbers i : ℕ) (mid after : List ℕ) where
  pub advance_wide : w ≡ 4 → Copies src done out to k mid → Puts src (done + k) 1 mid (rest + i) numbers after
      → Advances w src done out to k rest numbers i after
  advance_wide e c p f a x =
      let t = eq-eqb w 4 e in
      let y : NumberAlike true src (done + k) f (to + k) rest numbers i =
      subst (λ (b : Bool). NumberAlike b src (done + k) f (to + k) rest numbers i) t x in
      let r = c f a in
      let q = p f y in (
        better_both r.0 q.0,
        (λ m h. q.0.keeps (to + m) (r.1 m h)),
        subst⁻¹ (λ (b : Bool). NumberRight b after f (to + k) rest numbers i) t q.1,
      )

  pub advance_narrow : (w ≡ 4 → ⊥) → Copies src done out to k mid → Puts src (rest + i) numbers mid (to + k) 1 after
      → Advances w src done out to k rest numbers i after
  advance_narrow e c p f a x =
      let t = ne_eqb w 4 e in
      let y : NumberAlike false src (done + k) f (to + k) rest numbers i =
      subst (λ (b : Bool). NumberAlike b src (done + k) f (to + k) rest numbers i) t x in
      let r = c f a in
      let q = p f y in (
        better_both r.0 q.0,
        (λ m h. q.0.keeps (to + m) (r.1 m h)),
        subst⁻¹ (λ (b : Bool). NumberRight b after f (to + k) rest numbers i) t q.1,
      )
