-- The search over the places behind the point finds the number with the fewest digits, and the smallest of these.
-- Of the numbers with p places that read to an f32 the least has the fewest digits; with more places it is no larger.
use Prim.Native.Nat.{ℕ, zero, suc, suc-le-suc, ◌+◌, ◌-◌, ◌*◌, ◌/◌, ◌^◌, ◌≤◌, ◌<◌}
use mathlib.Core.Bool.{false}
use mathlib.Core.Logic.{◌⊎◌, inl, inr, ⊎_elim}
use mathlib.Core.Option.{none, some}
use mathlib.Core.Path.{◌≡◌, refl, sym, ap, ◌∙◌, subst}
use native.Mathlib.Nat.{le_refl, le_trans, le_of_eq, le_of_lt, le_antisymm, lt_of_lt_of_le}
use native.Mathlib.Nat.{lt_of_le_of_lt, lt_of_not-le, not-le_of_lt, eq-or-lt_of_le, le_of_suc-le-suc}
use native.Mathlib.Nat.{zero-add, add-zero, div-one, pow-suc, not-suc-le-zero, pow-le-pow_right, mul_comm}
use native.Mathlib.Nat.{mul_assoc, mul-le-mul_right, eq_of_mul-eq-mul_right, div-lt_iff_lt-mul}
use native.Mathlib.Omega.{arith}
use lib.Dec.{lit<, lit≤}
use lib.Pow.{pow-add, pow_pos}
use lib.Ieee.{binary32, round, to_bits}
use lib.Ieee.Scale.{round_same}
use Rattle.number.specs.Number.{bits}
use Rattle.digits.specs.Fewest.{trimmed, count, limit, fewest}
use Rattle.digits.specs.AnswerMeans.{number_of, Neat, decimal_of}
use Rattle.digits.specs.Means.{bits_of, lowest, highest, long, Wide, FirstAt, Halfway}
use Rattle.digits.specs.Means.{Placed, Spaced, Candidate, Leads, Missed, Ready, Searched}
use Rattle.digits.specs.declared.Middle.{Middle}
use Rattle.digits.specs.declared.Best.{Best}
use Rattle.digits.specs.declared.Decimal.{Decimal}
use Rattle.std.specs.Prelude.{Option as Maybe, Some, None, IfSome}
use Rattle.digits.proofs.LeastLaws.{either}
use Rattle.digits.proofs.DigitLaws.{trim}
use Rattle.digits.proofs.NumeralLaws.{
  Same,
  same_whole,
  same_bits,
  same-below,
  same_low,
  trim_same,
  whole-limit,
  order_same,
  long_above,
  long_lt,
  long_le,
  long_same,
  count_trim,
  ten_pos,
}
use Rattle.digits.proofs.WidthLaws.{ten_times}
use Rattle.digits.proofs.MiddleLaws.{none_between, first_small, fair_of}
use Rattle.digits.proofs.FewestLaws.{Reads, Shortest, shortest_is, none_fewest}

-- ---- the same number with more places

pub finer : (v j e : ℕ) → bits_of (v * 10 ^ e) (10 ^ (j + e)) ≡ bits_of v (10 ^ j)
unfolding bits_of
finer v j e =
    ap bits (round_same binary32 false (v * 10 ^ e) (10 ^ (j + e)) v (10 ^ j) (ten_pos (j + e)) (ten_pos j)
    (mul_assoc v (10 ^ e) (10 ^ j) ∙ ap (λ (x : ℕ). v * x) (mul_comm (10 ^ e) (10 ^ j) ∙ sym (pow-add 10 j e))))

-- the highest whole number
most : bits_of 9999999999 (10 ^ 0) ≡ highest
unfolding bits_of bits round to_bits
most = refl

-- ---- the first n over 10 ^ p that reaches b, and the first that passes it

module _ (p : ℕ) {b n : ℕ} (f : FirstAt b (10 ^ p) n) where
  pub first_le : {v : ℕ} → Candidate b v p → n ≤ v
  first_le c = f.first _ (le_of_eq (sym c.reads))

  -- no larger than any with as many places or fewer
  first_smaller : (v j : ℕ) → j ≤ p → Candidate b v j → n * 10 ^ j ≤ v * 10 ^ p
  first_smaller v j h c =
      let e = p - j in
      let s : j + e ≡ p = omega arith in
      let r : n ≤ v * 10 ^ e = f.first (v * 10 ^ e)
      (le_of_eq (sym (ap (λ (x : ℕ). bits_of (v * 10 ^ e) (10 ^ x)) (sym s) ∙ finer v j e ∙ c.reads)))
      in
      le_trans (mul-le-mul_right (10 ^ j) r)
      (le_of_eq (mul_assoc v (10 ^ e) (10 ^ j)
      ∙ ap (λ (x : ℕ). v * x) (mul_comm (10 ^ e) (10 ^ j) ∙ sym (pow-add 10 j e) ∙ ap (λ (x : ℕ). 10 ^ x) s)))

  pub first_below : b ≤ highest → n / 10 ^ p < 10 ^ 10
  first_below h =
      let x = 9999999999 * 10 ^ p in
      let r : n ≤ x = f.first x (le_trans h (le_of_eq (sym (finer_most p)))) in
      (div-lt_iff_lt-mul {k = 10 ^ p} {x = n} {y = 10 ^ 10} (ten_pos p)).1 (less (10 ^ p) (ten_pos p) r)
    where
      finer_most : (p : ℕ) → bits_of (9999999999 * 10 ^ p) (10 ^ p) ≡ highest
      finer_most p = ap (λ (x : ℕ). bits_of (9999999999 * 10 ^ p) (10 ^ x)) (sym (zero-add p)) ∙ finer 9999999999 0 p ∙ most

      less : (x : ℕ) → 0 < x → n ≤ 9999999999 * x → n < 10000000000 * x
      less x h r = omega arith

  module _ {m : ℕ} (g : FirstAt (b + 1) (10 ^ p) m) where
    pub first_reads : n < m → bits_of n (10 ^ p) ≡ b
    first_reads h =
        ⊎_elim (λ (l : bits_of n (10 ^ p) ≤ b). le_antisymm l (f.reached n (le_refl n)))
        (λ (l : b < bits_of n (10 ^ p)). absurd (not-le_of_lt h (g.first n (up l)))) (either (bits_of n (10 ^ p)) b)
      where
        up : {x : ℕ} → b < x → b + 1 ≤ x
        up l = omega arith

    -- where the two are one, none reads to b
    pub none_reads : m ≤ n → {v : ℕ} → Candidate b v p → ⊥
    none_reads h {v} c = no (g.reached v (le_trans h (first_le c))) c.reads
      where
        no : {x : ℕ} → b + 1 ≤ x → x ≡ b → ⊥
        no a e = omega arith

-- ---- how many digits

pub wide_long : {n p c l : ℕ} → Wide n p c l → n / 10 ^ p < 10 ^ 40 → long n p ≡ c
wide_long {n} {p} {c} w h =
    le_antisymm (long_le n p c w.above (subst (λ (x : ℕ). n < x) w.power w.enough))
    (w.least (long n p) (long_above n p) (long_lt n p h))

-- a number from 10 ^ c on has more than c
more_digits : (v j c : ℕ) → v / 10 ^ j < 10 ^ 40 → 10 ^ c ≤ v → c < long v j
more_digits v j c h l =
    lt_of_not-le (λ (g : long v j ≤ c). not-le_of_lt (long_lt v j h) (le_trans (pow-le-pow_right {n = 10} (lit< tt) g) l))

-- what is below 10 ^ 10 can be written
low_enough : (x : ℕ) → x < 10 ^ 10 → x < 10 ^ 40
low_enough x h = lt_of_lt_of_le h (lit≤ tt)

-- with at most 9 places it is below 10 ^ 19
few_digits : (v j : ℕ) → j ≤ 9 → v / 10 ^ j < 10 ^ 10 → v < 10 ^ 19
few_digits v j h l =
    lt_of_lt_of_le ((div-lt_iff_lt-mul {k = 10 ^ j} {x = v} {y = 10 ^ 10} (ten_pos j)).0 l)
    (le_trans (le_of_eq (sym (pow-add 10 10 j))) (pow-le-pow_right {n = 10} (lit< tt) (most_places j h)))
  where
    most_places : (j : ℕ) → j ≤ 9 → 10 + j ≤ 19
    most_places j h = omega arith

-- ---- one more place

older : (j p : ℕ) → j < p + 1 → (j ≡ p) ⊎ (j < p)
older j p h = eq-or-lt_of_le (less j p h)
  where
    less : (j p : ℕ) → j < p + 1 → j ≤ p
    less j p h = omega arith

pub missed_more : {b p : ℕ} → Missed b p → ((v : ℕ) → Candidate b v p → ⊥) → Missed b (p + 1)
missed_more {b} {p} m f = record {
  none = λ v j g c. ⊎_elim (λ (q : j ≡ p). f v (subst (λ (x : ℕ). Candidate b v x) q c)) (λ (q : j < p). m.none v j q c) (older j p g);
}

-- what has more digits than the best is passed over; where there is no best, there is none
pub passed_over : {b sh p : ℕ} {s : Best}
    → ((r : Decimal) → s.number ≡ Some r → (v : ℕ) → Candidate b v p → s.digits < long v p)
    → (s.number ≡ None → ((v : ℕ) → Candidate b v p → ⊥) × (10 ^ (p + 1) ≤ 5 * 2 ^ sh))
    → Searched b sh p s
    → Searched b sh (p + 1) s
passed_over {b} {sh} {p} {s} more nil h = record {
  bounded = h.bounded;
  plain = h.plain;
  found = λ r e.
      let l = h.found r e in
      record {
        low = up l.low;
        is = l.is;
        size = l.size;
        fewer = λ v j g c. ⊎_elim (λ (q : j ≡ p). le_of_lt (at r e v j q c)) (λ (q : j < p). l.fewer v j q c) (older j p g);
        smaller = λ v j g c z. ⊎_elim (λ (q : j ≡ p). absurd (no (at r e v j q c) z)) (λ (q : j < p). l.smaller v j q c z) (older j p g);
      };
  short = h.short;
  full = h.full;
  missed = λ e. missed_more (h.missed e) (nil e).0;
  wide = λ e. (nil e).1;
}
  where
    at : (r : Decimal) → s.number ≡ Some r → (v j : ℕ) → j ≡ p → Candidate b v j → s.digits < long v j
    at r e v j q c = subst (λ (x : ℕ). s.digits < long v x) (sym q) (more r e v (subst (λ (x : ℕ). Candidate b v x) q c))

    up : {x : ℕ} → x < p → x < p + 1
    up h = omega arith

    no : {x y : ℕ} → x < y → y ≡ x → ⊥
    no a e = omega arith

-- n over 10 ^ p
abbrev pub at_places : ℕ → ℕ → Decimal
at_places n p = record { n = n; middle = 0; high = 0; places = p }

-- the least with p places is taken, if it has no more digits than the best
pub taken : {b sh p n c l : ℕ} {s : Best} → FirstAt b (10 ^ p) n → Candidate b n p
    → Wide n p c l → p < s.digits → n < s.limit → p < 10 → (s.number ≡ None → n < 10 ^ 10) → Searched b sh p s
    → Searched b sh (p + 1) (record { number = Some (at_places n p); digits = c; limit = l })
taken {b} {sh} {p} {n} {c} {l} {s} f k w g i P N h = record {
  bounded = record { digits = le_trans fewer_digits h.bounded.digits; limit = w.power };
  plain = λ r e. let q : at_places n p ≡ r = cc in (sym (ap (λ (z : Decimal). z.middle) q), sym (ap (λ (z : Decimal). z.high) q));
  found = λ r e. let q : at_places n p ≡ r = cc in subst (λ (z : Decimal). Leads b (p + 1) z.n z.places c) q leads;
  short = λ r e. ten s.number refl;
  full = λ e. cc;
  missed = λ e. cc;
  wide = λ e. cc;
}
  where
    up : (p : ℕ) → p < p + 1
    up p = omega arith

    down : (j : ℕ) → j < p + 1 → j ≤ p
    down j h = omega arith

    fewer_digits : c ≤ s.digits
    fewer_digits = w.least s.digits g (subst (λ (x : ℕ). n < x) h.bounded.limit i)

    ten : (x : Maybe Decimal) → s.number ≡ x → c ≤ 10
    ten (Some r) e = le_trans fewer_digits (h.short r e)
    ten None e = w.least 10 P (N e)

    at : (v j : ℕ) → j ≡ p → Candidate b v j → c ≤ long v j
    at v j z d =
        let e : Candidate b v p = subst (λ (x : ℕ). Candidate b v x) z d in
        subst (λ (x : ℕ). c ≤ long v x) (sym z)
        (w.least (long v p) (long_above v p) (lt_of_le_of_lt (first_le p f e) (long_lt v p e.below)))

    before : (v j : ℕ) → j < p → Candidate b v j → c ≤ long v j
    before v j z d = go s.number refl
      where
        go : (x : Maybe Decimal) → s.number ≡ x → c ≤ long v j
        go (Some r) e = le_trans fewer_digits ((h.found r e).fewer v j z d)
        go None e = absurd ((h.missed e).none v j z d)

    leads : Leads b (p + 1) n p c
    leads = record {
      low = up p;
      is = k;
      size = wide_long w k.below;
      fewer = λ v j q d. ⊎_elim (λ (z : j ≡ p). at v j z d) (λ (z : j < p). before v j z d) (older j p q);
      smaller = λ v j q d z. first_smaller p f v j (down j q) d;
    }

-- ---- as the code has it

module _ {s : Best} {low high : Middle} {p scale : ℕ} (r : Ready s low high p scale) where
  pub scale_low : 0 < scale
  scale_low = subst (λ (x : ℕ). 0 < x) (sym r.power) (ten_pos p)

  pub scale_high : scale ≤ 10 ^ 9
  scale_high = le_trans (le_of_eq r.power) (pow-le-pow_right {n = 10} (lit< tt) r.few)

  pub below-limit : {n : ℕ} → n < s.limit → n < 10 ^ 19
  below-limit h = lt_of_lt_of_le h (le_trans (le_of_eq r.bounded.limit) (pow-le-pow_right {n = 10} (lit< tt) r.bounded.digits))

  at_power : {b n : ℕ} → FirstAt b scale n → FirstAt b (10 ^ p) n
  at_power {b} {n} f = subst (λ (x : ℕ). FirstAt b x n) r.power f

  -- too many digits
  pub step_longer : {b n sh : ℕ} → b ≤ highest → FirstAt b scale n → s.limit ≤ n → Searched b sh p s → Searched b sh (p + 1) s
  step_longer {b} {n} {sh} k f h x =
      passed_over
      (λ d e v c. more_digits v p s.digits c.below
      (le_trans (le_of_eq (sym r.bounded.limit)) (le_trans h (first_le p (at_power f) c))))
      (λ e. absurd (not-le_of_lt (few_digits n p r.few (first_below p (at_power f) k))
      (le_trans (le_of_eq (ap (λ (z : ℕ). 10 ^ z) (sym (x.full e)) ∙ sym r.bounded.limit)) h)))
      x

  module _ {b n m : ℕ} (f : FirstAt b scale n) (g : FirstAt (b + 1) scale m) where
    -- none with so many places
    pub step-none : Halfway b low → Halfway (b + 1) high → Spaced low high → m ≤ n
        → Searched b low.shift p s → Searched b low.shift (p + 1) s
    step-none x y q h =
        passed_over (λ d e v c. absurd (none_reads p (at_power f) (at_power g) h c))
        (λ e. (λ v c. none_reads p (at_power f) (at_power g) h c, tenfold (none_between scale_low x y q r.fair_high.tie f g h)))
      where
        plain : (d z : ℕ) → 2 * d ≤ z → d * 10 ≤ 5 * z
        plain d z h = omega arith

        tenfold : 2 * scale ≤ 2 ^ low.shift → 10 ^ (p + 1) ≤ 5 * 2 ^ low.shift
        tenfold k = le_trans (le_of_eq (sym (ten_times scale p r.power))) (plain scale (2 ^ low.shift) k)

    pub step-taken : {c l : ℕ} → b ≤ highest → Halfway b low → n < s.limit → n < m → Wide n p c l
        → Searched b low.shift p s
        → Searched b low.shift (p + 1)
        (record { number = Some (at_places n p); digits = c; limit = l })
    step-taken h x i j w q =
        taken (at_power f)
        (record { reads = first_reads p (at_power f) (at_power g) j; below = low_enough _ (first_below p (at_power f) h) }) w r.fewer i
        (suc-le-suc r.few) (λ e. small low.shift refl (q.wide e)) q
      where
        -- with whole middles there is one with no places
        none_left : (p : ℕ) → 10 ^ p ≤ 5 → p ≡ 0
        none_left zero h = refl
        none_left (suc p) h = absurd (no (10 ^ p) (ten_pos p) (le_trans (le_of_eq (mul_comm 10 (10 ^ p) ∙ sym (pow-suc 10 p))) h))
          where
            no : (x : ℕ) → 0 < x → 10 * x ≤ 5 → ⊥
            no x h l = omega arith

        whole_part : p ≡ 0 → n < 10 ^ 10
        whole_part e = subst (λ (z : ℕ). z < 10 ^ 10) (ap (λ (z : ℕ). n / 10 ^ z) e ∙ div-one n) (first_below p (at_power f) h)

        small : (k : ℕ) → low.shift ≡ k → 10 ^ p ≤ 5 * 2 ^ low.shift → n < 10 ^ 10
        small zero e z = whole_part (none_left p (le_trans z (le_of_eq (ap (λ (k : ℕ). 5 * 2 ^ k) e))))
        small (suc k) e z =
            plain n low.num (first_small scale_low x (le_trans (le_of_eq r.power) z) f)
            (r.small (le_trans (omega arith) (le_of_eq (sym e))))
          where
            plain : (n a : ℕ) → n ≤ 5 * a + 1 → a < 2 ^ 25 → n < 10 ^ 10
            plain n a h l = omega arith

-- ---- the loop

pub record Going (b : ℕ) (low high : Middle) (s : Best) (p : ℕ) : Type 0 where
  pub inside : b ≤ highest
  pub outside : lowest ≤ b
  pub halfway_low : Halfway b low
  pub halfway_high : Halfway (b + 1) high
  pub placed_low : Placed b low
  pub placed_high : Placed (b + 1) high
  pub few : p ≤ 10
  pub searched : Searched b low.shift p s

pub search_starts : {b : ℕ} {low high : Middle} → b ≤ highest → lowest ≤ b
    → Halfway b low × Placed b low → Halfway (b + 1) high × Placed (b + 1) high
    → Going b low high
    (record { number = None; digits = 19; limit = 10000000000000000000 }) 0
search_starts {low = low} h o x y = record {
  inside = h;
  outside = o;
  halfway_low = x.0;
  halfway_high = y.0;
  placed_low = x.1;
  placed_high = y.1;
  few = lit≤ tt;
  searched = record {
    bounded = record { digits = le_refl 19; limit = refl };
    plain = λ r e. cc;
    found = λ r e. cc;
    short = λ r e. cc;
    full = λ e. refl;
    missed = λ e. record { none = λ v j q c. absurd (not-suc-le-zero q) };
    wide = λ e. some (2 ^ low.shift) (pow_pos low.shift);
  };
}
  where
    some : (x : ℕ) → 0 < x → 1 ≤ 5 * x
    some x h = omega arith

module _ {b : ℕ} {low high : Middle} {s : Best} {p : ℕ} (g : Going b low high s p) (h : p < 10) where
  pub search_ready : {scale : ℕ} → scale ≡ 10 ^ p → p < s.digits → Ready s low high p scale
  search_ready e l = record {
    bounded = g.searched.bounded;
    fair_low = fair_of g.outside g.placed_low;
    fair_high = fair_of (le_trans g.outside (omega arith)) g.placed_high;
    few = le_of_suc-le-suc h;
    power = e;
    fewer = l;
    small = g.placed_low.small;
  }

  pub search_goes_on : {t : Best} → Searched b low.shift (p + 1) t → Going b low high t (p + 1)
  search_goes_on x = record {
    inside = g.inside;
    outside = g.outside;
    halfway_low = g.halfway_low;
    halfway_high = g.halfway_high;
    placed_low = g.placed_low;
    placed_high = g.placed_high;
    few = omega arith;
    searched = x;
  }

-- ---- the end of the search

-- m billionths that read to b, with no zero at their end
trim_candidate : (b m : ℕ) → m < limit → Reads b m → Candidate b (trimmed 40 m).0 (trimmed 40 m).1
trim_candidate b m h r =
    let s = trim_same m in
    record { reads = same_bits s ∙ r; below = subst (λ (x : ℕ). x < 10 ^ 40) (sym (same_whole s)) (whole-limit m h) }

-- the best of all places
module _ {b n p c : ℕ} (h : Leads b 41 n p c) where
  abbrev m : ℕ
  m = n * 10 ^ (40 - p)

  is_m : Same n p m
  is_m = record { rest = 40 - p; sums = omega (arith, h.low); value = refl }

  m_below : m < limit
  m_below = same-below is_m h.is.below

  m_reads : Reads b m
  m_reads = sym (same_bits is_m) ∙ h.is.reads

  low_places : (k : ℕ) → (trimmed 40 k).1 < 41
  low_places k = omega (arith, same_low (trim_same k))

  -- it has no zero at its end, which would be a digit too many
  same_places : (trimmed 40 m).1 ≡ p
  same_places =
      let d = trimmed 40 m in
      omega (
        arith,
        h.size,
        long_same (trim_same m) is_m,
        h.fewer d.0 d.1 (low_places m) (trim_candidate b m m_below m_reads),
        (trim 40 m).least n p is_m.rest is_m.sums is_m.value,
      )

  same_digits : (trimmed 40 m).0 ≡ n
  same_digits =
      let t = trim 40 m in
      eq_of_mul-eq-mul_right (10 ^ t.cut) (ten_pos t.cut) (trimmed 40 m).0 n
      (t.value ∙ ap (λ (x : ℕ). n * 10 ^ x) (cut_is t.cut (trimmed 40 m).1 t.sums same_places))
    where
      cut_is : (x y : ℕ) → y + x ≡ 40 → y ≡ p → 40 - p ≡ x
      cut_is x y a e = omega arith

  pub best_trimmed : trimmed 40 m ≡ (n, p)
  best_trimmed = λ i. (same_digits i, same_places i)

  count_is_c : count m ≡ c
  count_is_c = count_trim m ∙ ap (λ (d : ℕ × ℕ). long d.0 d.1) best_trimmed ∙ h.size

  pub best_shortest : Shortest b m
  best_shortest = record {
    below = m_below;
    reads = m_reads;
    fewest = λ k l r. subst (λ (x : ℕ). x ≤ count k) (sym count_is_c)
        (subst (λ (x : ℕ). c ≤ x) (sym (count_trim k)) (h.fewer _ _ (low_places k) (trim_candidate b k l r)));
    smallest = λ k l r e. order_same is_m (trim_same k)
        (h.smaller _ _ (low_places k) (trim_candidate b k l r) (sym (count_trim k) ∙ e ∙ count_is_c));
  }

-- where the search ends early, more places would be more digits
pub leads_all : {b places n p c : ℕ} → places ≤ 41 → c ≤ places → Leads b places n p c → Leads b 41 n p c
leads_all {b} {places} {n} {p} {c} P e h = record {
  low = lt_of_lt_of_le h.low P;
  is = h.is;
  size = h.size;
  fewer = λ v j q d. ⊎_elim (λ (z : j < places). h.fewer v j z d) (λ (z : c < long v j). le_of_lt z) (either_way v j);
  smaller = λ v j q d z. ⊎_elim (λ (y : j < places). h.smaller v j y d z) (λ (y : c < long v j). absurd (no y z)) (either_way v j);
}
  where
    no : {x y : ℕ} → x < y → y ≡ x → ⊥
    no a e = omega arith

    either_way : (v j : ℕ) → (j < places) ⊎ (c < long v j)
    either_way v j =
        ⊎_elim (λ (x : places ≤ j). inr (lt_of_le_of_lt (le_trans e x) (long_above v j))) inl (either places j)

-- the number that leads is the answer
pub leads_is : {b n p c : ℕ} → Leads b 41 n p c → some (n, p) ≡ decimal_of (fewest b)
leads_is {b} l = sym (ap decimal_of (shortest_is b _ (best_shortest l)) ∙ ap some (best_trimmed l))

-- where none reads to b there is none
pub missed_is : {b : ℕ} → Missed b 41 → none ≡ decimal_of (fewest b)
missed_is {b} m = sym (ap decimal_of (none_fewest b (λ k l r. m.none _ _ (up (same_low (trim_same k))) (trim_candidate b k l r))))
  where
    up : {x : ℕ} → x ≤ 40 → x < 41
    up h = omega arith

-- what the search in 64 bits has found
pub search_found : {b sh places : ℕ} {s : Best} → Searched b sh places s → places ≤ 10 → (10 ≤ places) ⊎ (s.digits ≤ places)
    → (r : Decimal) → s.number ≡ Some r → number_of s.number ≡ decimal_of (fewest b)
search_found {b} {sh} {places} {s} h P e r q =
    rw (q, (h.plain r q).0, (h.plain r q).1, add-zero) (leads_is (leads_all (le_trans P (lit≤ tt)) enough (h.found r q)))
  where
    enough : s.digits ≤ places
    enough = ⊎_elim (λ (x : 10 ≤ places). le_trans (h.short r q) x) (λ (x : s.digits ≤ places). x) e

pub search_neat : {b sh places : ℕ} {s : Best} → Searched b sh places s → places ≤ 10 → (r : Decimal) → s.number ≡ Some r → Neat r
search_neat {s = s} h P r q =
    let l = (h.found r q).low in
    let p = h.plain r q in
    record {
      far = λ k. absurd (omega arith);
      parts = λ k. p;
      n = λ k. absurd (nil r.middle r.high p.0 p.1 k);
      middle = subst (λ (z : ℕ). z < 10 ^ 18) (sym p.0) (lit< tt);
      high = subst (λ (z : ℕ). z < 10 ^ 4) (sym p.1) (lit< tt);
    }
  where
    nil : (a b : ℕ) → a ≡ 0 → b ≡ 0 → 0 < a + b → ⊥
    nil a b e f k = omega arith

-- both, of an answer that is some number
pub search_ends : {b sh places : ℕ} {s : Best} → Searched b sh places s → places ≤ 10 → (10 ≤ places) ⊎ (s.digits ≤ places)
    → (s.number ≡ None → ⊥) → (number_of s.number ≡ decimal_of (fewest b)) × IfSome s.number Neat
search_ends {b} {s = s} h P e n = go s.number refl
  where
    go : (x : Maybe Decimal) → s.number ≡ x → (number_of s.number ≡ decimal_of (fewest b)) × IfSome s.number Neat
    go (Some r) q = (search_found h P e r q, subst (λ (z : Maybe Decimal). IfSome z Neat) (sym q) (search_neat h P r q))
    go None q = absurd (n q)

-- and where it has found nothing
pub search_missed : {b sh places : ℕ} {s : Best} → Searched b sh places s → places ≤ 10 → (10 ≤ places) ⊎ (s.digits ≤ places)
    → s.number ≡ None → Missed b 10 × (10 ^ 10 ≤ 5 * 2 ^ sh)
search_missed {b} {sh} {places} {s} h P e q =
    let z : places ≡ 10 = ⊎_elim (λ (x : 10 ≤ places). le_antisymm P x) (λ (x : s.digits ≤ places). absurd (big (h.full q) x P)) e in
    (subst (λ (x : ℕ). Missed b x) z (h.missed q), subst (λ (x : ℕ). 10 ^ x ≤ 5 * 2 ^ sh) z (h.wide q))
  where
    big : s.digits ≡ 19 → s.digits ≤ places → places ≤ 10 → ⊥
    big z x P = omega arith
