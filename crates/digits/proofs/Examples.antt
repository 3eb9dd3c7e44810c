-- Numbers as they are written, computed: one test decides whether n over 10 ^ p is what `fewest` finds.
use Prim.Native.Nat.{ℕ, zero, suc, ◌+◌, ◌-◌, ◌*◌, ◌/◌, ◌%◌, ◌^◌, ◌≤◌, ◌<◌}
use mathlib.Core.Bool.{Bool, true, false, ◌&&◌, ◌||◌, cond}
use mathlib.Core.List.{[]}
use mathlib.Core.Logic.{⊎_elim}
use mathlib.Core.Option.{Option}
use mathlib.Core.Path.{◌≡◌, refl, ap, ◌∙◌, subst}
use native.Mathlib.Nat.{le_trans, le_of_eq, le_of_lt, lt_irrefl, lt_of_lt_of_le, lt_of_le_of_lt}
use native.Mathlib.Nat.{le_of_suc-le-suc, eq-or-lt_of_le, pow-le-pow_right, not-suc-le-zero, mul-le-mul_right}
use native.Mathlib.Omega.{arith}
use lib.Dec.{leb, ltb, eqb, lit<, lit≤}
use borrow.Author.Tests.{leb-true, ltb-true, ltb-false, eqb-true}
use lib.Ieee.{round, div, to_bits}
use Rattle.text.specs.Bytes.{bytes}
use Rattle.number.specs.Number.{percent, bits}
use Rattle.digits.specs.Numeral.{float, percentage}
use Rattle.digits.specs.Fewest.{whole_digits, last_digits, trimmed, spelled, form, each, numeral}
use Rattle.digits.specs.Means.{percent_bits, lowest, highest, infinity, doublings, digits_of}
use Rattle.digits.specs.Means.{whole_over, long, Halfway, Placed, FirstAt, Candidate, Leads}
use Rattle.digits.specs.declared.Middle.{Middle}
use Rattle.digits.proofs.NumeralLaws.{both, ten_pos, long_above, long_lt, long_le}
use Rattle.digits.proofs.FewestLaws.{shortest_is}
use Rattle.digits.proofs.MiddleLaws.{middle_low, middle_high, past_first, fair_of}
use Rattle.digits.proofs.WholeLaws.{whole_leads, N-reads}
use Rattle.digits.proofs.SearchLaws.{first_le, first_reads, first_below, none_reads, best_trimmed, best_shortest, leads_all}
use Rattle.digits.proofs.PercentLaws.{small_first, first-is}
use Rattle.digits.proofs.EndLaws.{zero-fewest, none_above}

-- ---- the first n over d that reaches the bits b, as `middle_below` and `past` compute it

abbrev middle : ℕ → Middle
middle b =
    let k = doublings (b - 1) in
    let w = digits_of (b - 1) in
    cond (ltb k 150) (record { num = w * 2 + 1; shift = 150 - k; tie = w % 2 })
    (record { num = ((w * 2 + 1) * 2 ^ (k - 150)) % 2 ^ 64; shift = 0; tie = w % 2 })

abbrev first : ℕ → ℕ → ℕ
first b d = let m = middle b in (m.num * d + (1 * 2 ^ m.shift) % 2 ^ 64 - m.tie) / 2 ^ m.shift

halfway : (b : ℕ) → lowest ≤ b → b ≤ highest + 1 → Halfway b (middle b) × Placed b (middle b)
halfway b lo hi = go (ltb k 150) (ltb-true k 150) (ltb-false k 150)
  where
    k : ℕ
    k = doublings (b - 1)

    w : ℕ
    w = digits_of (b - 1)

    some : 0 < b
    some = omega arith

    go : (x : Bool) → (x ≡ true → k < 150) → (x ≡ false → 150 ≤ k)
        →
        let m : Middle = cond x (record { num = w * 2 + 1; shift = 150 - k; tie = w % 2 })
        (record { num = ((w * 2 + 1) * 2 ^ (k - 150)) % 2 ^ 64; shift = 0; tie = w % 2 })
        in
        Halfway b m × Placed b m
    go true f g = middle_low b some hi (f refl)
    go false f g = middle_high b some hi (g refl)

first-at : (b d : ℕ) → lowest ≤ b → b ≤ highest + 1 → 0 < d → d ≤ 10 ^ 9 → FirstAt b d (first b d)
first-at b d lo hi D h = let m = halfway b lo hi in past_first (fair_of lo m.1) D h b m.0

-- ---- the test

unfoldable every : (ℕ → Bool) → ℕ → Bool
every t zero = true
every t (suc n) = t n && every t n

every-at : (t : ℕ → Bool) (n j : ℕ) → every t n ≡ true → j < n → t j ≡ true
unfolding every
every-at t zero j e h = absurd (not-suc-le-zero h)
every-at t (suc n) j e h =
    let x = both (t n) (every t n) e in
    ⊎_elim (λ (q : j ≡ n). ap t q ∙ x.0) (λ (q : j < n). every-at t n j x.1 q) (eq-or-lt_of_le (le_of_suc-le-suc h))

-- with j places none reads to b, or the first has more digits than c, or as many and is no smaller
abbrev later : ℕ → ℕ → ℕ → ℕ → ℕ → Bool
later b n p c j =
    let f = first b (10 ^ j) in
    leb (first (b + 1) (10 ^ j)) f || (ltb c (long f j) || (leb c (long f j) && leb (n * 10 ^ j) (f * 10 ^ p)))

unfoldable is_fewest : ℕ → ℕ → ℕ → Bool
is_fewest b n p =
    leb (long n p) 10
    && (leb lowest b
    && (leb b highest && (ltb p 10 && (eqb (first b (10 ^ p)) n && (ltb n (first (b + 1) (10 ^ p)) && every (later b n p (long n p)) 10)))))

-- one of the three
data Later (b n p c j : ℕ) : Type 0 where
  empty : first (b + 1) (10 ^ j) ≤ first b (10 ^ j) → Later b n p c j
  longer : c < long (first b (10 ^ j)) j → Later b n p c j
  larger : c ≤ long (first b (10 ^ j)) j → n * 10 ^ j ≤ first b (10 ^ j) * 10 ^ p → Later b n p c j

later_is : (b n p c j : ℕ) → later b n p c j ≡ true → Later b n p c j
later_is b n p c j = go (leb e f) (leb-true e f) (ltb c l) (ltb-true c l)
  where
    e : ℕ
    e = first (b + 1) (10 ^ j)

    f : ℕ
    f = first b (10 ^ j)

    l : ℕ
    l = long f j

    go : (x : Bool) → (x ≡ true → e ≤ f) → (y : Bool) → (y ≡ true → c < l)
        → (x || (y || (leb c l && leb (n * 10 ^ j) (f * 10 ^ p)))) ≡ true
        → Later b n p c j
    go true h y k q = empty (h refl)
    go false h true k q = longer (k refl)
    go false h false k q =
        let z = both (leb c l) (leb (n * 10 ^ j) (f * 10 ^ p)) q in larger (leb-true c l z.0) (leb-true (n * 10 ^ j) (f * 10 ^ p) z.1)

record Passes (b n p : ℕ) : Type 0 where
  short : long n p ≤ 10
  low : lowest ≤ b
  high : b ≤ highest
  few : p < 10
  least : first b (10 ^ p) ≡ n
  inside : n < first (b + 1) (10 ^ p)
  best : (j : ℕ) → j < 10 → Later b n p (long n p) j

passes : (b n p : ℕ) → is_fewest b n p ≡ true → Passes b n p
unfolding is_fewest
passes b n p e =
    let z = both _ _ e in
    let a = both _ _ z.1 in
    let c = both _ _ a.1 in
    let d = both _ _ c.1 in
    let f = both _ _ d.1 in
    let g = both _ _ f.1 in
    record {
      short = leb-true (long n p) 10 z.0;
      low = leb-true lowest b a.0;
      high = leb-true b highest c.0;
      few = ltb-true p 10 d.0;
      least = eqb-true (first b (10 ^ p)) n f.0;
      inside = ltb-true n (first (b + 1) (10 ^ p)) g.0;
      best = λ j h. later_is b n p (long n p) j (every-at (later b n p (long n p)) 10 j g.1 h);
    }

module _ {b n p : ℕ} (t : Passes b n p) where
  at : (j : ℕ) → j < 10 → FirstAt b (10 ^ j) (first b (10 ^ j))
  at j h =
      first-at b (10 ^ j) t.low (omega (arith, t.high)) (ten_pos j) (pow-le-pow_right {n = 10} (lit< tt) {j = 9} (le_of_suc-le-suc h))

  above : (j : ℕ) → j < 10 → FirstAt (b + 1) (10 ^ j) (first (b + 1) (10 ^ j))
  above j h =
      first-at (b + 1) (10 ^ j) (omega (arith, t.low)) (omega (arith, t.high)) (ten_pos j)
      (pow-le-pow_right {n = 10} (lit< tt) {j = 9} (le_of_suc-le-suc h))

  mine : FirstAt b (10 ^ p) n
  mine = subst (λ (x : ℕ). FirstAt b (10 ^ p) x) t.least (at p t.few)

  shorter : (v j : ℕ) → j < 10 → Candidate b v j → long (first b (10 ^ j)) j ≤ long v j
  shorter v j h c = long_le _ j (long v j) (long_above v j) (lt_of_le_of_lt (first_le j (at j h) c) (long_lt v j c.below))

  fewer : (v j : ℕ) → j < 10 → Candidate b v j → Later b n p (long n p) j → long n p ≤ long v j
  fewer v j h c (empty x) = absurd (none_reads j (at j h) (above j h) x c)
  fewer v j h c (longer x) = le_trans (le_of_lt x) (shorter v j h c)
  fewer v j h c (larger x y) = le_trans x (shorter v j h c)

  smaller : (v j : ℕ) → j < 10 → Candidate b v j → long v j ≡ long n p → Later b n p (long n p) j → n * 10 ^ j ≤ v * 10 ^ p
  smaller v j h c e (empty x) = absurd (none_reads j (at j h) (above j h) x c)
  smaller v j h c e (longer x) = absurd (lt_irrefl (long n p) (lt_of_lt_of_le x (le_trans (shorter v j h c) (le_of_eq e))))
  smaller v j h c e (larger x y) = le_trans y (mul-le-mul_right (10 ^ p) (first_le j (at j h) c))

  leads : Leads b 10 n p (long n p)
  leads = record {
    low = t.few;
    is = record {
      reads = first_reads p mine (above p t.few) t.inside;
      below = lt_of_lt_of_le (first_below p mine t.high) (lit≤ tt);
    };
    size = refl;
    fewer = λ v j h c. fewer v j h c (t.best j h);
    smaller = λ v j h c e. smaller v j h c e (t.best j h);
  }

-- what passes the test is what is found
tested : (b n p : ℕ) → is_fewest b n p ≡ true → form float b ≡ spelled (n, p)
unfolding form
tested b n p e =
    let x = passes b n p e in
    let l = leads_all (lit≤ tt) x.short (leads x) in
    ap (λ (o : Option ℕ). each o numeral) (shortest_is b _ (best_shortest l)) ∙ ap spelled (best_trimmed l)

-- ---- 10,000,000: `9999999.5` has as many digits as `10000000`, reads to it by the tie, and is smaller
ten_million : form float 0x4b18_9680 ≡ (bytes "9999999", bytes "5")
unfolding is_fewest every long whole_digits last_digits
ten_million = tested 0x4b18_9680 99999995 1 refl

hundred_million : form float 0x4cbe_bc20 ≡ (bytes "99999996", [])
unfolding is_fewest every long whole_digits last_digits
hundred_million = tested 0x4cbe_bc20 99999996 0 refl

two_to_24 : form float 0x4b80_0000 ≡ (bytes "16777216", [])
unfolding is_fewest every long whole_digits last_digits
two_to_24 = tested 0x4b80_0000 16777216 0 refl

two_to_32 : form float 0x4f80_0000 ≡ (bytes "4294967168", [])
unfolding is_fewest every long whole_digits last_digits
two_to_32 = tested 0x4f80_0000 4294967168 0 refl

ten_to_10 : form float 0x5015_02f9 ≡ (bytes "9999999489", [])
unfolding is_fewest every long whole_digits last_digits
ten_to_10 = tested 0x5015_02f9 9999999489 0 refl

tenth : form float 0x3dcc_cccd ≡ (bytes "0", bytes "1")
unfolding is_fewest every long whole_digits last_digits
tenth = tested 0x3dcc_cccd 1 1 refl

billionth : form float 0x3089_705f ≡ (bytes "0", bytes "000000001")
unfolding is_fewest every long whole_digits last_digits
billionth = tested 0x3089_705f 1 9 refl

-- ---- 0, and what no number reads to: -0, a NaN

zero-form : form float 0 ≡ (bytes "0", [])
unfolding form trimmed whole_digits last_digits
zero-form = ap (λ (o : Option ℕ). each o numeral) (zero-fewest 0 refl)

nothing : (b : ℕ) → infinity < b → form float b ≡ ([], [])
unfolding form
nothing b h = ap (λ (o : Option ℕ). each o numeral) (none_above b h)

minus_zero : form float 0x8000_0000 ≡ ([], [])
minus_zero = nothing 0x8000_0000 (lit< tt)

not_a_number : form float 0x7fc0_0000 ≡ ([], [])
not_a_number = nothing 0x7fc0_0000 (lit< tt)

-- ---- above 10 ^ 10: the largest f32, and infinity

large : (b : ℕ) → highest < b → b ≤ infinity → form float b ≡ spelled (whole_over b, 0)
unfolding form
large b lo hi =
    let l = whole_leads b lo hi (N-reads b lo hi) in
    ap (λ (o : Option ℕ). each o numeral) (shortest_is b _ (best_shortest l)) ∙ ap spelled (best_trimmed l)

largest : form float 0x7f7f_ffff ≡ (bytes "340282336497324057985868971510891282433", [])
unfolding whole_digits last_digits
largest = large 0x7f7f_ffff (lit< tt) (lit≤ tt)

infinite : form float 0x7f80_0000 ≡ (bytes "340282356779733661637539395458142568448", [])
unfolding whole_digits last_digits
infinite = large 0x7f80_0000 (lit< tt) (lit≤ tt)

-- ---- a percent

percent-form : (b n : ℕ) → lowest ≤ b → b ≤ highest → first b 100 ≡ n
    → n ≤ 16777216 → percent_bits n ≡ b → form percentage b ≡ (whole_digits 39 n, [])
unfolding form
percent-form b n lo hi e h r =
    ap (λ (o : Option ℕ). each o (λ n. (whole_digits 39 n, [])))
    (first-is (small_first (subst (λ (x : ℕ). FirstAt b 100 x) e (first-at b 100 lo (le_trans hi (lit≤ tt)) (lit< tt) (lit≤ tt))) h)
    (lt_of_le_of_lt h (lit< tt)) r)

half : form percentage 0x3f00_0000 ≡ (bytes "50", [])
unfolding percent_bits bits percent round div to_bits whole_digits
half = percent-form 0x3f00_0000 50 (lit≤ tt) (lit≤ tt) refl (lit≤ tt) refl
