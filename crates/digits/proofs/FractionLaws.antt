-- A middle times a power of ten, as a whole number and a fraction of 160 binary digits: the first whole number past it, and that it is
-- small as long as no number lies between two middles.
use Prim.Native.Nat.{ℕ, ◌+◌, ◌-◌, ◌*◌, ◌^◌, ◌≤◌, ◌<◌}
use mathlib.Core.Bool.{Bool, true, false, cond}
use mathlib.Core.List.{List}
use mathlib.Core.Logic.{⊎_elim}
use mathlib.Core.Option.{none, some}
use mathlib.Core.Path.{◌≡◌, refl, sym, ap, ◌∙◌, subst}
use native.Mathlib.Nat.{le_trans, le_of_eq, lt_of_lt_of_le, lt_of_le_of_lt, not-le_of_lt, add-zero}
use native.Mathlib.Nat.{mul_comm, mul_assoc, mul_right_comm, mul_left_comm, add-mul, mul-le-mul_right, mul-le-mul_left, mul-one}
use native.Mathlib.Nat.{le_of_mul-le-mul_right, lt_of_mul-lt-mul_right, mul-lt-mul_of_pos_right}
use native.Mathlib.Nat.{add-sub_of_le, div-lt_iff_lt-mul, pow-le-pow_right, le_antisymm}
use native.Mathlib.Omega.{arith}
use lib.Dec.{eqb, lit≤, lit<}
use lib.Pow.{pow-add, pow_pos, pow_mono}
use lib.ListN.{length}
use borrow.Author.Tests.{eqb-true, eqb-false}
use Rattle.limbs.specs.LimbMeans.{up_to}
use Rattle.digits.specs.Fewest.{fewest}
use Rattle.digits.specs.AnswerMeans.{decimal_of}
use Rattle.digits.specs.Means.{long, Halfway, FirstAt, Candidate, Leads, Missed, Long, Fixed, first_past, Lengthy}
use Rattle.digits.specs.declared.Middle.{Middle}
use Rattle.digits.proofs.LeastLaws.{either}
use Rattle.digits.proofs.NumeralLaws.{ten_pos, long_above, long_le}
use Rattle.digits.proofs.MiddleLaws.{none_between}
use Rattle.digits.proofs.SearchLaws.{first_le, first_reads, none_reads, missed_more, leads_is, missed_is}

split : (s : ℕ) → s ≤ 160 → 2 ^ s * 2 ^ (160 - s) ≡ 4294967296 ^ 5
split s h = sym (pow-add 2 s (160 - s)) ∙ ap (λ (x : ℕ). 2 ^ x) (add-sub_of_le h)

low_shift : (s : ℕ) → s ≤ 150 → s ≤ 160
low_shift s h = omega arith

-- ---- doubling
pub shift_next : (v a i : ℕ) → v ≡ a * 2 ^ i → v * 2 ≡ a * 2 ^ (i + 1)
shift_next v a i e = ap (λ (z : ℕ). z * 2) e ∙ mul_assoc a (2 ^ i) 2 ∙ ap (λ (z : ℕ). a * z) (sym (pow-add 2 i 1))

pub shift_below : (v a i n p : ℕ) → v ≡ a * 2 ^ i → i < n → a * 2 ^ n < p → v * 2 < p
shift_below v a i n p e h l =
    lt_of_le_of_lt (le_of_eq (shift_next v a i e)) (lt_of_le_of_lt (mul-le-mul_left a (pow_mono (up i n h))) l)
  where
    up : (i n : ℕ) → i < n → i + 1 ≤ n
    up i n h = omega arith

-- ---- the whole number stays small
module _ {m : Middle} {p whole : ℕ} {f : List ℕ} (l : Long m) (x : Fixed m p whole f) where
  abbrev S : ℕ
  S = 2 ^ m.shift

  abbrev Z : ℕ
  Z = 2 ^ (160 - m.shift)

  unit : S * Z ≡ 4294967296 ^ 5
  unit = split m.shift (low_shift m.shift l.shift)

  pub whole_low : 10 ^ p ≤ 10 * S → whole ≤ 2 ^ 30
  whole_low h = small (le_of_mul-le-mul_right (le_trans under (le_of_eq same)) (lit< {m = 0} {n = 4294967296 ^ 5} tt))
    where
      small : whole ≤ m.num * 10 → whole ≤ 2 ^ 30
      small g = let n = l.num in omega arith

      part : (a b c : ℕ) → a + b ≡ c → a ≤ c
      part a b c e = omega arith

      under : whole * 4294967296 ^ 5 ≤ m.num * Z * (10 * S)
      under = le_trans (part _ _ _ x.is) (mul-le-mul_left (m.num * Z) h)

      same : m.num * Z * (10 * S) ≡ m.num * 10 * 4294967296 ^ 5
      same = regroup m.num Z 10 S ∙ ap (λ (z : ℕ). m.num * 10 * z) unit
        where
          regroup : (a b c d : ℕ) → a * b * (c * d) ≡ a * c * (d * b)
          regroup a b c d = simp (mul_assoc, mul_comm, mul_left_comm)

  -- ---- one more place, or some
  pub fixed_next : (k t : ℕ) {whole2 : ℕ} {f2 : List ℕ} → t ≡ 10 ^ k → length f2 ≡ 5 → up_to 5 f2 < 4294967296 ^ 5
      → whole2 * 4294967296 ^ 5 + up_to 5 f2 ≡ (whole * 4294967296 ^ 5 + up_to 5 f) * t → Fixed m (p + k) whole2 f2
  fixed_next k t e h b g = record {
    long = h;
    below = b;
    is = g ∙ ap (λ (z : ℕ). z * t) x.is ∙ ap (λ (z : ℕ). m.num * Z * 10 ^ p * z) e ∙ mul_assoc (m.num * Z) (10 ^ p) (10 ^ k)
        ∙ ap (λ (z : ℕ). m.num * Z * z) (sym (pow-add 10 p k));
  }

  -- ---- the first whole number past it
  module _ where
    F : up_to 5 f < 4294967296 ^ 5
    F = x.below

    abbrev Y : ℕ
    Y = m.num * 10 ^ p

    scaled : Y * Z ≡ whole * 4294967296 ^ 5 + up_to 5 f
    scaled = mul_right_comm m.num (10 ^ p) Z ∙ sym x.is

    at : (n : ℕ) → n * S * Z ≡ n * 4294967296 ^ 5
    at n = mul_assoc n S Z ∙ ap (λ (z : ℕ). n * z) unit

    -- strictly past
    above : (n : ℕ) → whole + 1 ≤ n → Y < n * S
    above n h =
        lt_of_mul-lt-mul_right Z
        (lt_of_le_of_lt (le_of_eq scaled)
        (lt_of_lt_of_le (add (whole * 4294967296 ^ 5) (up_to 5 f) (4294967296 ^ 5) F)
        (le_trans (le_of_eq (sym (next whole (4294967296 ^ 5)))) (le_trans (mul-le-mul_right (4294967296 ^ 5) h) (le_of_eq (sym (at n)))))))
      where
        add : (a b c : ℕ) → b < c → a + b < a + c
        add a b c h = omega arith

        next : (w p : ℕ) → (w + 1) * p ≡ w * p + p
        next w p = add-mul w 1 p ∙ ap (λ (z : ℕ). w * p + z) (mul_comm 1 p ∙ mul-one p)

    below : (n : ℕ) → n ≤ whole → n * S ≤ Y
    below n h =
        le_of_mul-le-mul_right (le_trans (le_of_eq (at n))
        (le_trans (mul-le-mul_right (4294967296 ^ 5) h)
        (le_trans (more (whole * 4294967296 ^ 5) (up_to 5 f))
        (le_of_eq (sym scaled)))))
        (pow_pos (160 - m.shift))
      where
        more : (a b : ℕ) → a ≤ a + b
        more a b = omega arith

    -- with something behind it, strictly
    below_more : (n : ℕ) → 0 < up_to 5 f → n ≤ whole → n * S < Y
    below_more n g h =
        lt_of_mul-lt-mul_right Z (lt_of_le_of_lt (le_of_eq (at n)) (lt_of_le_of_lt (mul-le-mul_right (4294967296 ^ 5) h)
        (lt_of_lt_of_le (more (whole * 4294967296 ^ 5) (up_to 5 f) g) (le_of_eq (sym scaled)))))
      where
        more : (a b : ℕ) → 0 < b → a < a + b
        more a b h = omega arith

    level : up_to 5 f ≡ 0 → (n : ℕ) → whole ≤ n → Y ≤ n * S
    level e n h =
        le_of_mul-le-mul_right (le_trans
        (le_of_eq (scaled ∙ ap (λ (z : ℕ). whole * 4294967296 ^ 5 + z) e ∙ add-zero (whole * 4294967296 ^ 5)))
        (le_trans (mul-le-mul_right (4294967296 ^ 5) h) (le_of_eq (sym (at n)))))
        (pow_pos (160 - m.shift))

    abbrev Claim : ℕ → Bool → Bool → Type 0
    Claim n a b =
        (cond a (whole + 1) (cond b whole (whole + 1)) ≤ n → Y < n * S + m.tie)
        × (Y < n * S + m.tie → cond a (whole + 1) (cond b whole (whole + 1)) ≤ n)

    past_is : (n : ℕ)
        → (first_past m.tie (up_to 5 f) whole ≤ n → Y < n * S + m.tie) × (Y < n * S + m.tie → first_past m.tie (up_to 5 f) whole ≤ n)
    past_is n = go (eqb m.tie 0) refl (eqb (up_to 5 f) 0) refl
      where
        wider : (a b t : ℕ) → a < b → a < b + t
        wider a b t h = omega arith

        tighter : (a b t : ℕ) → t ≡ 0 → a < b + t → a < b
        tighter a b t e h = omega arith

        one : (t : ℕ) → t ≤ 1 → (t ≡ 0 → ⊥) → t ≡ 1
        one t h e = omega arith

        reach : (a b t : ℕ) → t ≡ 1 → a ≤ b → a < b + t
        reach a b t e h = omega arith

        reached : (a b t : ℕ) → t ≤ 1 → a < b + t → a ≤ b
        reached a b t e h = omega arith

        over : (a : ℕ) → (a ≤ whole → ⊥) → whole + 1 ≤ a
        over a h = ⊎_elim (λ (g : a ≤ whole). absurd (h g)) (λ (g : whole < a). up a g) (either a whole)
          where
            up : (a : ℕ) → whole < a → whole + 1 ≤ a
            up a g = omega arith

        positive : (x : ℕ) → (x ≡ 0 → ⊥) → 0 < x
        positive x h = omega arith

        go : (a : Bool) → eqb m.tie 0 ≡ a → (b : Bool) → eqb (up_to 5 f) 0 ≡ b → Claim n a b
        go true e b g = (
          λ h. wider Y (n * S) m.tie (above n h),
          λ h. over n (λ k. not-le_of_lt (tighter Y (n * S) m.tie (eqb-true m.tie 0 e) h) (below n k)),
        )
        go false e true g =
            let z = eqb-true (up_to 5 f) 0 g in (
              λ h. reach Y (n * S) m.tie (one m.tie l.tie (eqb-false m.tie 0 e)) (level z n h),
              λ h. ⊎_elim (λ (k : whole ≤ n). k)
                  (λ (k : n < whole). absurd (not-le_of_lt (shy n k) (reached Y (n * S) m.tie l.tie h)))
                  (either whole n),
            )
          where
            shy : (n : ℕ) → n < whole → n * S < Y
            shy n k =
                lt_of_mul-lt-mul_right Z
                (lt_of_le_of_lt (le_of_eq (at n))
                (lt_of_lt_of_le (mul-lt-mul_of_pos_right k (lit< {m = 0} {n = 4294967296 ^ 5} tt))
                (le_trans (more (whole * 4294967296 ^ 5) (up_to 5 f)) (le_of_eq (sym scaled)))))
              where
                more : (a b : ℕ) → a ≤ a + b
                more a b = omega arith
        go false e false g = (
          λ h. wider Y (n * S) m.tie (above n h),
          λ h. over n
              (λ k. not-le_of_lt (below_more n (positive (up_to 5 f) (eqb-false (up_to 5 f) 0 g)) k) (reached Y (n * S) m.tie l.tie h)),
        )

    pub first_fixed : {b : ℕ} → Halfway b m → FirstAt b (10 ^ p) (first_past m.tie (up_to 5 f) whole)
    first_fixed h = record {
      reached = λ n g. h.back n (10 ^ p) (ten_pos p) ((past_is n).0 g);
      first = λ n g. (past_is n).1 (h.forth n (10 ^ p) (ten_pos p) g);
    }

pub past_high : (t f whole : ℕ) → whole ≤ 2 ^ 30 → first_past t f whole < 10 ^ 10
past_high t f whole h = go (eqb t 0) (eqb f 0)
  where
    go : (a b : Bool) → cond a (whole + 1) (cond b whole (whole + 1)) < 10 ^ 10
    go true b = omega arith
    go false true = omega arith
    go false false = omega arith

-- ---- the first place with a number
module _ {b p n m : ℕ} (P : 10 ≤ p) (Q : p < 41) (x : Missed b p) (f : FirstAt b (10 ^ p) n) (g : FirstAt (b + 1) (10 ^ p) m)
    (N : n < 10 ^ 10) where
  many : n < 10 ^ (p + 1)
  many = lt_of_lt_of_le N (pow-le-pow_right {n = 10} (lit< tt) {i = 10} {j = p + 1} (omega arith))

  long_is : long n p ≡ p + 1
  long_is = le_antisymm (long_le n p (p + 1) (omega arith) many) (le_trans (omega arith) (long_above n p))

  later : (v j : ℕ) → Candidate b v j → p ≤ j
  later v j c = ⊎_elim (λ (h : p ≤ j). h) (λ (h : j < p). absurd (x.none v j h c)) (either p j)

  candidate : n < m → Candidate b n p
  candidate h = record {
    reads = first_reads p f g h;
    below = (div-lt_iff_lt-mul {k = 10 ^ p} {x = n} {y = 10 ^ 40} (ten_pos p)).1
        (lt_of_lt_of_le (lt_of_lt_of_le N (lit≤ tt))
        (le_trans (le_of_eq (sym (mul-one (10 ^ 40)))) (mul-le-mul_left (10 ^ 40) (ten_pos p))));
  }

  pub place_leads : n < m → Leads b 41 n p (p + 1)
  place_leads h = record {
    low = Q;
    is = candidate h;
    size = long_is;
    fewer = λ v j q c. more p j (long v j) (later v j c) (long_above v j);
    smaller = λ v j q c z. same v j (exact p j (long v j) (later v j c) (long_above v j) z) c;
  }
    where
      more : (p j l : ℕ) → p ≤ j → j < l → p + 1 ≤ l
      more p j l h k = omega arith

      exact : (p j l : ℕ) → p ≤ j → j < l → l ≡ p + 1 → j ≡ p
      exact p j l h k e = omega arith

      same : (v j : ℕ) → j ≡ p → Candidate b v j → n * 10 ^ j ≤ v * 10 ^ p
      same v j e c =
          le_trans (mul-le-mul_right (10 ^ j) (first_le p f (subst (λ (z : ℕ). Candidate b v z) e c)))
          (le_of_eq (ap (λ (z : ℕ). v * 10 ^ z) e))

  pub place_missed : m ≤ n → Missed b (p + 1)
  place_missed h = missed_more x (λ v c. none_reads p f g h c)

-- ---- the search

pub record Hunting (b : ℕ) (low high : Middle) (f g : List ℕ) (i j p : ℕ) : Type 0 where
  pub least : 10 ≤ p
  pub most : p ≤ 41
  pub fixed_low : Fixed low p i f
  pub fixed_high : Fixed high p j g
  pub wide : 10 ^ p ≤ 5 * 2 ^ low.shift
  pub missed : Missed b p

pub hunt_starts : {b : ℕ} {low high : Middle} → Lengthy b low high → {f g : List ℕ} {i j : ℕ} → Fixed low 10 i f → Fixed high 10 j g
    → Hunting b low high f g i j 10
hunt_starts l x y = record { least = lit≤ tt; most = lit≤ tt; fixed_low = x; fixed_high = y; wide = l.wide; missed = l.missed }

module _ {b : ℕ} {low high : Middle} {f g : List ℕ} {i j p : ℕ} (l : Lengthy b low high) (x : Hunting b low high f g i j p) where
  pub hunt_low : i ≤ 2 ^ 30
  hunt_low = whole_low l.long_low x.fixed_low (twice (10 ^ p) (2 ^ low.shift) x.wide)
    where
      twice : (a s : ℕ) → a ≤ 5 * s → a ≤ 10 * s
      twice a s h = omega arith

  pub hunt_high : j ≤ 2 ^ 30
  hunt_high = whole_low l.long_high x.fixed_high (twice (10 ^ p) (2 ^ low.shift) (2 ^ high.shift) x.wide l.near)
    where
      twice : (a s t : ℕ) → a ≤ 5 * s → s ≤ 2 * t → a ≤ 10 * t
      twice a s t h k = omega arith

  abbrev n : ℕ
  n = first_past low.tie (up_to 5 f) i

  abbrev m : ℕ
  m = first_past high.tie (up_to 5 g) j

  first_low : FirstAt b (10 ^ p) n
  first_low = first_fixed l.long_low x.fixed_low l.half_low

  first_high : FirstAt (b + 1) (10 ^ p) m
  first_high = first_fixed l.long_high x.fixed_high l.half_high

  few : n < 10 ^ 10
  few = past_high low.tie (up_to 5 f) i hunt_low

  pub hunt_found : p < 41 → n < m → some (n, p) ≡ decimal_of (fewest b)
  hunt_found h k = leads_is (place_leads x.least h x.missed first_low first_high few k)

  pub hunt_next : p < 41 → m ≤ n → {f2 g2 : List ℕ} {i2 j2 : ℕ} → length f2 ≡ 5 → length g2 ≡ 5
      → up_to 5 f2 < 4294967296 ^ 5 → up_to 5 g2 < 4294967296 ^ 5
      → i2 * 4294967296 ^ 5 + up_to 5 f2 ≡ (i * 4294967296 ^ 5 + up_to 5 f) * 10
      → j2 * 4294967296 ^ 5 + up_to 5 g2 ≡ (j * 4294967296 ^ 5 + up_to 5 g) * 10
      → Hunting b low high f2 g2 i2 j2 (p + 1)
  hunt_next h k a c d e u v = record {
    least = omega (arith, x.least);
    most = omega arith;
    fixed_low = fixed_next l.long_low x.fixed_low 1 10 refl a d u;
    fixed_high = fixed_next l.long_high x.fixed_high 1 10 refl c e v;
    wide = tenfold (none_between (ten_pos p) l.half_low l.half_high l.apart l.long_high.tie first_low first_high k);
    missed = place_missed x.least h x.missed first_low first_high few k;
  }
    where
      plain : (d z : ℕ) → 2 * d ≤ z → d * 10 ≤ 5 * z
      plain d z h = omega arith

      tenfold : 2 * 10 ^ p ≤ 2 ^ low.shift → 10 ^ (p + 1) ≤ 5 * 2 ^ low.shift
      tenfold k = le_trans (le_of_eq (pow-add 10 p 1)) (plain (10 ^ p) (2 ^ low.shift) k)

pub hunt_ends : {b : ℕ} {low high : Middle} {f g : List ℕ} {i j p : ℕ} → Hunting b low high f g i j p → 41 ≤ p → none ≡ decimal_of (fewest b)
hunt_ends {b} {p = p} x h = missed_is (subst (λ (z : ℕ). Missed b z) (le_antisymm x.most h) x.missed)

-- ---- before the search: the middle, doubled so often that its point stands before the limbs
pub set_up : {m : Middle} → Long m → m.num * 2 ^ (160 - m.shift) < 4294967296 ^ 5
set_up {m} l =
    lt_of_lt_of_le (mul-lt-mul_of_pos_right (lt_of_lt_of_le l.num enough) (pow_pos (160 - m.shift)))
    (le_of_eq (split m.shift (low_shift m.shift l.shift)))
  where
    plain : (s : ℕ) → 10 ^ 10 ≤ 10 * s → 2 ^ 25 ≤ s
    plain s h = omega arith

    enough : 2 ^ 25 ≤ 2 ^ m.shift
    enough = plain (2 ^ m.shift) l.wide

pub fixed_start : {m : Middle} {f : List ℕ} → length f ≡ 5 → up_to 5 f < 4294967296 ^ 5
    → up_to 5 f ≡ m.num * 2 ^ (160 - m.shift) → Fixed m 0 0 f
fixed_start {m} {f} h b e = record {
  long = h;
  below = b;
  is = zeroes (4294967296 ^ 5) (up_to 5 f) ∙ e ∙ sym (mul-one (m.num * 2 ^ (160 - m.shift)));
}
  where
    zeroes : (p x : ℕ) → 0 * p + x ≡ x
    zeroes p x = omega arith
