-- A percent's f32 rises with the percent, and its sign is the topmost bit; what `least_percent` finds.
use Prim.Native.Nat.{ℕ, zero, suc, ◌+◌, ◌*◌, ◌/◌, ◌-◌, ◌^◌, ◌≤◌, ◌<◌}
use mathlib.Core.Bool.{Bool, true, false, not, cond, true≢false}
use mathlib.Core.Logic.{⊎_elim, inl, inr}
use mathlib.Core.Option.{none, some}
use mathlib.Core.Path.{◌≡◌, refl, sym, ap, ◌∙◌, subst}
use native.Mathlib.Nat.{le_refl, le_trans, le_antisymm, le_of_eq, le_of_lt, lt_irrefl, lt_of_lt_of_le}
use native.Mathlib.Nat.{lt_of_le_of_lt, not-le_of_lt, mul-one, mul_left_comm, mul-pos, mul-le-mul_right, add_comm}
use native.Mathlib.Nat.{mul_assoc, sub-add_cancel}
use lib.Pow.{pow-add, pow_pos}
use native.Mathlib.Omega.{arith}
use lib.Dec.{T, eqb, ltb, lit<, lit≤}
use lib.IntN.{pos}
use borrow.Author.Tests.{eq-eqb, eqb-true, ne_eqb, ltb-true, ltb-false}
use lib.Ieee.{Float, nan, inf, fin, binary32, up, down, size, odd, units, round, div, neg, to_bits, is_nan}
use lib.Ieee.Fits.{round_is, round-fits, down_pos}
use lib.Ieee.Exact.{HasValue}
use lib.Ieee.Nearest.{closest}
use lib.Ieee.Order.{round_mono}
use lib.Ieee.Scale.{round_same}
use Rattle.number.specs.Number.{percent, bits, f32}
use Rattle.number.proofs.Floats.{hundred, percent-number, f32-bits}
use Rattle.number.proofs.Hundredth.{percent_once}
use Rattle.number.proofs.Round.{sign_bit}
use Rattle.digits.specs.Fewest.{least_percent}
use Rattle.digits.specs.AnswerMeans.{whole_of}
use Rattle.digits.specs.Means.{bits_of, percent_bits, infinity, whole24, doublings}
use Rattle.digits.specs.Means.{digits_of, float_whole, FirstAt, FirstFloat, FirstPercent}
use Rattle.digits.proofs.LeastLaws.{least_of, nowhere_of, least_is, nowhere_is, never, either}
use Rattle.digits.proofs.OrderLaws.{pack, pack_mono, Sized, finite, infinite, sized_round}
use Rattle.digits.proofs.OrderLaws.{sized-bits, sized_high, sized_le, bits_mono}
use Rattle.digits.proofs.MiddleLaws.{unit_bits, digits_high, digits_low, digits_sum}

-- ---- a float divided by 100

abbrev hundredth : Float → Float
hundredth x = div binary32 x (fin false 25 (pos 2))

finite_hundredth : (x : Float) (v : ℕ) → HasValue x false v (2 ^ 149) → hundredth x ≡ round binary32 false v (100 * 2 ^ 149)
unfolding div
finite_hundredth nan v h = absurd h
finite_hundredth (inf s) v h = absurd h
finite_hundredth (fin true m e) v h = absurd (true≢false h.0)
finite_hundredth (fin false m e) v h =
    round_same binary32 false (m * up e * 1) (100 * down e) v (100 * 2 ^ 149) (mul-pos (lit< tt) (down_pos e)) (lit< tt)
    (ap (λ (x : ℕ). x * (100 * 2 ^ 149)) (mul-one (m * up e)) ∙ mul_left_comm (m * up e) 100 (2 ^ 149)
    ∙ ap (λ (x : ℕ). 100 * x) h.1 ∙ mul_left_comm 100 v (down e))

infinite_hundredth : hundredth (inf false) ≡ inf false
unfolding div
infinite_hundredth = refl

-- the bits rise with the float
finite_bits : (x : Float) (v : ℕ) → HasValue x false v (2 ^ 149) → bits (hundredth x) ≡ bits_of v (100 * 2 ^ 149)
unfolding bits_of
finite_bits x v h = ap bits (finite_hundredth x v h)

infinite_bits : (x : Float) → x ≡ inf false → bits (hundredth x) ≡ pack (2 ^ 277)
unfolding bits
infinite_bits x e =
    ap (λ (y : Float). to_bits binary32 (hundredth y)) e ∙ ap (to_bits binary32) infinite_hundredth ∙ sized-bits (infinite refl refl)

bits_high : (n d : ℕ) → bits_of n d ≤ pack (2 ^ 277)
unfolding bits_of bits
bits_high n d = let s = sized_round n d in le_trans (le_of_eq (sized-bits s.1)) (pack_mono s.0 (2 ^ 277) (sized_high s.1))

hundredth_mono : (x y : Float) (u v : ℕ) → Sized x u → Sized y v → u ≤ v → bits (hundredth x) ≤ bits (hundredth y)
hundredth_mono x y u v (finite h a) (finite k b) l =
    le_trans (le_of_eq (finite_bits x u a))
    (le_trans (bits_mono u (100 * 2 ^ 149) v (100 * 2 ^ 149) (lit< tt) (lit< tt) (mul-le-mul_right (100 * 2 ^ 149) l))
    (le_of_eq (sym (finite_bits y v b))))
hundredth_mono x y u v (finite h a) (infinite b k) l =
    le_trans (le_of_eq (finite_bits x u a)) (le_trans (bits_high u (100 * 2 ^ 149)) (le_of_eq (sym (infinite_bits y b))))
hundredth_mono x y u v (infinite a h) (finite k b) l = absurd (lt_irrefl v (lt_of_lt_of_le k (le_trans (le_of_eq (sym h)) l)))
hundredth_mono x y u v (infinite a h) (infinite b k) l = le_of_eq (infinite_bits x a ∙ sym (infinite_bits y b))

percent_hundredth : (s : Bool) (n : ℕ) → percent s n ≡ hundredth (round binary32 s n 1)
unfolding percent
percent_hundredth s n = ap (div binary32 (round binary32 s n 1)) hundred

pub percent_mono : (m n : ℕ) → m ≤ n → percent_bits m ≤ percent_bits n
unfolding percent_bits
percent_mono m n h =
    let x = sized_round m 1 in
    let y = sized_round n 1 in
    subst (λ (z : Float). bits z ≤ bits (percent false n)) (sym (percent_hundredth false m))
    (subst (λ (z : Float). bits (hundredth (round binary32 false m 1)) ≤ bits z) (sym (percent_hundredth false n))
    (hundredth_mono _ _ x.0 y.0 x.1 y.1
    (sized_le _ _ x.0 y.0 x.1 y.1 (round_mono binary32 m 1 n 1 (lit< tt) (lit< tt) (mul-le-mul_right 1 h)))))

-- up to 2 ^ 24 it is rounded once
pub percent_small : (n : ℕ) → n ≤ 16777216 → percent_bits n ≡ bits_of n 100
unfolding percent_bits bits_of
percent_small n h = ap bits (percent_once false n h)

-- ---- the sign

neg_odd : (d q k l : ℕ) → odd d true q k l ≡ neg (odd d false q k l)
unfolding odd neg
neg_odd d zero k l = refl
neg_odd d (suc q) k l = refl

neg_units : (q k : ℕ) → units binary32 true q k ≡ neg (units binary32 false q k)
unfolding units neg
neg_units q k = go (ltb (q * 2 ^ k) (2 ^ 277))
  where
    go : (b : Bool) → cond b (odd 25 true q k 149) (inf true) ≡ neg (cond b (odd 25 false q k 149) (inf false))
    go true = neg_odd 25 q k 149
    go false = refl

neg_round : (n d : ℕ) → round binary32 true n d ≡ neg (round binary32 false n d)
neg_round n d =
    let k = size (n * 2 ^ 149 / d) - 24 in
    let q = closest (n * 2 ^ 149) (d * 2 ^ k) in
    round_is binary32 true n d ∙ neg_units q k ∙ ap neg (sym (round_is binary32 false n d))

neg_hundredth : (x : Float) (v : ℕ) → Sized x v → bits (hundredth (neg x)) ≡ bits (hundredth x) + 2147483648
unfolding bits div neg to_bits
neg_hundredth nan v (finite h a) = absurd a
neg_hundredth (inf s) v (finite h a) = absurd a
neg_hundredth (fin true m e) v (finite h a) = absurd (true≢false a.0)
neg_hundredth (fin false m e) v (finite h a) =
    sign_bit (m * up e * 1) (100 * down e) ∙ add_comm (2 ^ 31) (to_bits binary32 (round binary32 false (m * up e * 1) (100 * down e)))
neg_hundredth x v (infinite e h) =
    subst (λ (y : Float). to_bits binary32 (hundredth (neg y)) ≡ to_bits binary32 (hundredth y) + 2147483648) (sym e) refl

pub percent-signs : (n : ℕ) → bits (percent true n) ≡ bits (percent false n) + 2147483648
percent-signs n =
    let x = sized_round n 1 in
    ap bits (percent_hundredth true n) ∙ ap (λ (y : Float). bits (hundredth y)) (neg_round n 1)
    ∙ neg_hundredth (round binary32 false n 1) x.0 x.1
    ∙ ap (λ (y : Float). bits y + 2147483648) (sym (percent_hundredth false n))

-- ---- what is found

abbrev test : ℕ → ℕ → Bool
test b n = eqb (percent_bits n) b

test_no : (b n : ℕ) → (percent_bits n ≡ b → ⊥) → test b n ≡ false
test_no b n h = ne_eqb (percent_bits n) b h

pub record LeastPercent (b n : ℕ) : Type 0 where
  pub below : n < 10 ^ 40
  pub reads : percent_bits n ≡ b
  pub least : (k : ℕ) → percent_bits k ≡ b → n ≤ k

pub percent_of : (b n : ℕ) → least_percent b ≡ some n → LeastPercent b n
unfolding least_percent percent_bits
percent_of b n e =
    let l = least_of (test b) (10 ^ 40) n e in
    record {
      below = l.below;
      reads = eqb-true (percent_bits n) b l.passes;
      least = λ k q. ⊎_elim (λ (h : n ≤ k). h) (λ (h : k < n). never (test b k) (eq-eqb (percent_bits k) b q) (l.before k h)) (either n k);
    }

pub no_percent : (b : ℕ) → least_percent b ≡ none → (n : ℕ) → n < 10 ^ 40 → percent_bits n ≡ b → ⊥
unfolding least_percent percent_bits
no_percent b e n h q = never (test b n) (eq-eqb (percent_bits n) b q) ((nowhere_of (test b) (10 ^ 40) e).fails n h)

module _ {b r : ℕ} (f : FirstPercent b r) where
  not-before : (n : ℕ) → n < r → percent_bits n ≡ b → ⊥
  not-before n h e = lt_irrefl b (lt_of_le_of_lt (le_of_eq (sym e)) (f.before n h))

  pub first-is : r < 10 ^ 40 → percent_bits r ≡ b → least_percent b ≡ some r
  unfolding least_percent percent_bits
  first-is h e =
      least_is (test b) (10 ^ 40) r
      (record { below = h; passes = eq-eqb (percent_bits r) b e; before = λ j l. test_no b j (not-before j l) })

  pub none_is : (r < 10 ^ 40 → percent_bits r ≡ b → ⊥) → least_percent b ≡ none
  unfolding least_percent percent_bits
  none_is h =
      nowhere_is (test b) (10 ^ 40)
      (record { fails = λ j l. test_no b j (λ e. ⊎_elim (λ (g : r ≤ j). later j l g e) (λ (g : j < r). not-before j g e) (either r j)) })
    where
      later : (j : ℕ) → j < 10 ^ 40 → r ≤ j → percent_bits j ≡ b → ⊥
      later j l g e =
          let s : r < 10 ^ 40 = lt_of_le_of_lt g l in
          h s (le_antisymm (le_trans (percent_mono r j g) (le_of_eq e)) (f.reached s))

-- the answer, by a test of the first
pub percent_answer : {b r : ℕ} → FirstPercent b r → r < 10 ^ 40 → (x : Bool)
    → (x ≡ true → percent_bits r ≡ b) → (x ≡ false → percent_bits r ≡ b → ⊥)
    → cond x (some (r, 0)) none ≡ whole_of (least_percent b)
percent_answer f h true y z = sym (ap whole_of (first-is f h (y refl)))
percent_answer f h false y z = sym (ap whole_of (none_is f (λ s. z refl)))

pub percent-nothing : {b r : ℕ} → FirstPercent b r → r ≡ 10 ^ 40 → none ≡ whole_of (least_percent b)
percent-nothing f e = sym (ap whole_of (none_is f (λ s. absurd (lt_irrefl (10 ^ 40) (lt_of_le_of_lt (le_of_eq (sym e)) s)))))

-- ---- up to 2 ^ 24: the first n over 100 that reaches b

pub small_first : {b n : ℕ} → FirstAt b 100 n → n ≤ 16777216 → FirstPercent b n
small_first {b} {n} f h = record {
  top = le_trans h (lit≤ tt);
  before = λ k l. ⊎_elim
      (λ (g : b ≤ percent_bits k). absurd (not-le_of_lt l (f.first k (le_trans g (le_of_eq (percent_small k (le_trans (le_of_lt l) h)))))))
      (λ (g : percent_bits k < b). g) (either b (percent_bits k));
  reached = λ s. le_trans (f.reached n (le_refl n)) (le_of_eq (sym (percent_small n h)));
}

-- it reads to b exactly if it comes before the first that reaches b + 1
pub small_answer : {b n m : ℕ} → FirstAt b 100 n → FirstAt (b + 1) 100 m
    → n ≤ 16777216
    → cond (ltb n m) (some (n, 0)) none ≡ whole_of (least_percent b)
small_answer {b} {n} {m} f g h =
    percent_answer (small_first f h) (lt_of_le_of_lt h (lit< tt)) (ltb n m)
    (λ e. percent_small n h ∙ exactly (bits_of n 100) (f.reached n (le_refl n)) (λ l. not-le_of_lt (ltb-true n m e) (g.first n l)))
    (λ e q. over (g.reached n (ltb-false n m e)) (sym (percent_small n h) ∙ q))
  where
    exactly : (x : ℕ) → b ≤ x → (b + 1 ≤ x → ⊥) → x ≡ b
    exactly x l k = omega arith

    over : b + 1 ≤ bits_of n 100 → bits_of n 100 ≡ b → ⊥
    over l e = omega arith

-- ---- above 2 ^ 24: the first f32 whose hundredth reaches b, and the first whole number that reads to it

-- a percent depends on n's f32 alone
pub percent-same : (n m : ℕ) → bits_of n 1 ≡ bits_of m 1 → percent_bits n ≡ percent_bits m
unfolding percent_bits bits_of
percent-same n m e =
    ap bits (percent_hundredth false n ∙ ap hundredth (same) ∙ sym (percent_hundredth false m))
  where
    same : round binary32 false n 1 ≡ round binary32 false m 1
    same =
        sym (f32-bits (round binary32 false n 1) (round-fits binary32 false n 1)) ∙ ap f32 e
        ∙ f32-bits (round binary32 false m 1) (round-fits binary32 false m 1)

-- each f32 from 2 ^ 24 on is a whole number
module _ (y : ℕ) (lo : whole24 ≤ y) (hi : y ≤ infinity) where
  abbrev k : ℕ
  k = doublings (y - 1)

  abbrev w : ℕ
  w = digits_of (y - 1)

  K : k ≤ 253
  K = omega arith

  k_low : 149 ≤ k
  k_low = omega arith

  is_y : k * 2 ^ 23 + (w + 1) ≡ y
  is_y = let s = digits_sum (y - 1) in omega arith

  pub float_whole_is : bits_of (float_whole y) 1 ≡ y
  unfolding bits_of
  float_whole_is =
      ap bits (round_same binary32 false (float_whole y) 1 ((w + 1) * 2 ^ k) (2 ^ 149) (lit< tt) (pow_pos 149) scaled)
      ∙ unit_bits (w + 1) k (one w (digits_high (y - 1))) (⊎_elim inl (λ (h : 2 ^ 23 ≤ w). inr (le_trans h (more w))) (digits_low (y - 1)))
      K
      ∙ is_y
    where
      one : (w : ℕ) → w < 2 ^ 24 → w + 1 ≤ 2 ^ 24
      one w h = omega arith

      more : (w : ℕ) → w ≤ w + 1
      more w = omega arith

      scaled : float_whole y * 2 ^ 149 ≡ (w + 1) * 2 ^ k * 1
      scaled =
          mul_assoc (w + 1) (2 ^ (k - 149)) (2 ^ 149)
          ∙ ap (λ (z : ℕ). (w + 1) * z) (sym (pow-add 2 (k - 149) 149) ∙ ap (λ (z : ℕ). 2 ^ z) (sub-add_cancel k_low))
          ∙ sym (mul-one ((w + 1) * 2 ^ k))

whole_mono : (m n : ℕ) → m ≤ n → bits_of m 1 ≤ bits_of n 1
whole_mono m n h = bits_mono m 1 n 1 (lit< tt) (lit< tt) (mul-le-mul_right 1 h)

-- what n's f32 says of its percent
module _ (y : ℕ) (lo : whole24 ≤ y) (hi : y ≤ infinity) (n : ℕ) where
  pub percent-below : bits_of n 1 ≤ y → percent_bits n ≤ percent_bits (float_whole y)
  percent-below h =
      ⊎_elim (λ (g : n ≤ float_whole y). percent_mono n (float_whole y) g)
      (λ (g : float_whole y < n). le_of_eq (percent-same n (float_whole y)
      (le_antisymm (le_trans h (le_of_eq (sym (float_whole_is y lo hi)))) (whole_mono (float_whole y) n (le_of_lt g)))))
      (either n (float_whole y))

  pub percent_above : y ≤ bits_of n 1 → percent_bits (float_whole y) ≤ percent_bits n
  percent_above h =
      ⊎_elim (λ (g : float_whole y ≤ n). percent_mono (float_whole y) n g)
      (λ (g : n < float_whole y). le_of_eq (percent-same (float_whole y) n
      (le_antisymm (le_trans (le_of_eq (float_whole_is y lo hi)) h) (whole_mono n (float_whole y) (le_of_lt g)))))
      (either (float_whole y) n)

least_24 : bits_of 16777216 1 ≡ whole24
unfolding bits_of bits round to_bits
least_24 = refl

pub infinity_is : pack (2 ^ 277) ≡ infinity
unfolding size
infinity_is = refl

large_bits : bits_of (10 ^ 39) 1 ≡ infinity
unfolding bits_of bits round to_bits
large_bits = refl

module _ {b r n : ℕ} (f : FirstFloat b r) (g : FirstAt r 1 n) (h : percent_bits 16777216 < b) where
  pub float_top : n < 10 ^ 40
  float_top = lt_of_le_of_lt (g.first (10 ^ 39) (le_trans f.high (le_of_eq (sym large_bits)))) (lit< tt)

  pub float_reads : bits_of n 1 ≡ r
  float_reads =
      le_antisymm (le_trans (whole_mono n (float_whole r) (g.first (float_whole r) (le_of_eq (sym (float_whole_is r f.low f.high)))))
      (le_of_eq (float_whole_is r f.low f.high))) (g.reached n (le_refl n))

  pub float_percent : percent_bits n ≡ percent_bits (float_whole r)
  float_percent = percent-same n (float_whole r) (float_reads ∙ sym (float_whole_is r f.low f.high))

  pub float_first : FirstPercent b n
  float_first = record {
    top = le_of_lt float_top;
    before = λ m l. ⊎_elim (λ (k : m ≤ 16777216). lt_of_le_of_lt (percent_mono m 16777216 k) h) (λ (k : 16777216 < m). later m l k)
        (either m 16777216);
    reached = λ s. le_trans f.reached (le_of_eq (sym float_percent));
  }
    where
      later : (m : ℕ) → m < n → 16777216 < m → percent_bits m < b
      later m l k =
          let y = bits_of m 1 in
          let lo : whole24 ≤ y = le_trans (le_of_eq (sym least_24)) (whole_mono 16777216 m (le_of_lt k)) in
          let below : y < r = ⊎_elim (λ (z : r ≤ y). absurd (not-le_of_lt l (g.first m z))) (λ (z : y < r). z) (either r y) in
          lt_of_le_of_lt (percent-below y lo (le_trans (le_of_lt below) f.high) m (le_refl y)) (f.before y lo below)

-- where the first hundredth is another, there is none
pub float_none : {b r : ℕ} → FirstFloat b r → percent_bits 16777216 < b → (percent_bits (float_whole r) ≡ b → ⊥) → least_percent b ≡ none
unfolding least_percent percent_bits
float_none {b} {r} f h other =
    nowhere_is (test b) (10 ^ 40)
    (record {
      fails = λ n l. test_no b n (λ e. ⊎_elim (λ (k : n ≤ 16777216). small n k e) (λ (k : 16777216 < n). large n k e) (either n 16777216));
    })
  where
    small : (n : ℕ) → n ≤ 16777216 → percent_bits n ≡ b → ⊥
    small n k e = lt_irrefl b (lt_of_le_of_lt (le_trans (le_of_eq (sym e)) (percent_mono n 16777216 k)) h)

    large : (n : ℕ) → 16777216 < n → percent_bits n ≡ b → ⊥
    large n k e =
        let y = bits_of n 1 in
        let lo : whole24 ≤ y = le_trans (le_of_eq (sym least_24)) (whole_mono 16777216 n (le_of_lt k)) in
        ⊎_elim (λ (z : r ≤ y). other (le_antisymm (le_trans (percent_above r f.low f.high n z) (le_of_eq e)) f.reached))
        (λ (z : y < r). lt_irrefl b
        (lt_of_le_of_lt (le_trans (le_of_eq (sym e)) (percent-below y lo (le_trans (le_of_lt z) f.high) n (le_refl y)))
        (f.before y lo z)))
        (either r y)

-- and where it is b, the least number that reads to the f32 is the answer
pub float_answer : {b r n : ℕ} → FirstFloat b r → FirstAt r 1 n → percent_bits 16777216 < b → percent_bits (float_whole r) ≡ b
    → some (n, 0) ≡ whole_of (least_percent b)
float_answer f g h e = sym (ap whole_of (first-is (float_first f g h) (float_top f g h) (float_percent f g h ∙ e)))

-- 2 ^ 24 percent
pub percent_24 : percent_bits 16777216 ≡ 1210308362
unfolding percent_bits bits percent round div to_bits
percent_24 = refl

pub large_first : {b n : ℕ} → FirstAt b 100 n → 16777216 < n → percent_bits 16777216 < b
large_first {b} {n} f h =
    ⊎_elim (λ (g : b ≤ percent_bits 16777216). absurd
    (not-le_of_lt h (f.first 16777216 (le_trans g (le_of_eq (percent_small 16777216 (le_refl 16777216)))))))
    (λ (g : percent_bits 16777216 < b). g) (either b (percent_bits 16777216))

-- ---- a search by halves

-- below lo the hundredths are too small; at hi they are not
pub record Seeking (b lo hi : ℕ) : Type 0 where
  pub low : whole24 ≤ lo
  pub order : lo ≤ hi
  pub top : hi ≤ infinity
  pub before : (y : ℕ) → whole24 ≤ y → y < lo → percent_bits (float_whole y) < b
  pub reached : b ≤ percent_bits (float_whole hi)

infinite_percent : percent_bits (float_whole infinity) ≡ infinity
unfolding percent_bits bits percent round div to_bits
infinite_percent = refl

pub seek_starts : (b : ℕ) → b ≤ infinity → Seeking b whole24 infinity
seek_starts b h = record {
  low = le_refl whole24;
  order = lit≤ tt;
  top = le_refl infinity;
  before = λ y l k. absurd (not-le_of_lt k l);
  reached = le_trans h (le_of_eq (sym infinite_percent));
}

module _ {b lo hi mid : ℕ} (s : Seeking b lo hi) (l : lo ≤ mid) (h : mid < hi) where
  mid_low : whole24 ≤ mid
  mid_low = le_trans s.low l

  mid_high : mid ≤ infinity
  mid_high = le_trans (le_of_lt h) s.top

  pub seek-inside : (whole24 ≤ mid) × (mid ≤ infinity)
  seek-inside = (mid_low, mid_high)

  pub seek_up : percent_bits (float_whole mid) < b → Seeking b (mid + 1) hi
  seek_up g = record {
    low = le_trans mid_low (omega arith);
    order = omega arith;
    top = s.top;
    before = λ y a k.
        let z : y ≤ mid = omega arith in
        lt_of_le_of_lt (percent-below mid mid_low mid_high (float_whole y)
        (le_trans (le_of_eq (float_whole_is y a (le_trans z mid_high))) z)) g;
    reached = s.reached;
  }

  pub seek_down : b ≤ percent_bits (float_whole mid) → Seeking b lo mid
  seek_down g = record { low = s.low; order = l; top = mid_high; before = s.before; reached = g }

pub seek-ends : {b lo hi : ℕ} → Seeking b lo hi → hi ≤ lo → FirstFloat b lo
seek-ends {b} {lo} {hi} s h =
    let e : lo ≡ hi = le_antisymm s.order h in
    record {
      low = s.low;
      high = le_trans s.order s.top;
      before = s.before;
      reached = subst (λ (x : ℕ). b ≤ percent_bits (float_whole x)) (sym e) s.reached;
    }

-- as the code divides it
pub float_is : (y : ℕ) → whole24 ≤ y → y ≤ infinity → f32 y ≡ round binary32 false (float_whole y) 1
unfolding bits_of
float_is y lo hi =
    ap f32 (sym (float_whole_is y lo hi)) ∙ f32-bits (round binary32 false (float_whole y) 1) (round-fits binary32 false (float_whole y) 1)

pub measured : (n : ℕ) {r : ℕ} {x : Float} → r ≡ bits x → x ≡ percent false n → r ≡ percent_bits n
unfolding percent_bits
measured n e f = e ∙ ap bits f

pub not_nan : (n : ℕ) {x : Float} → x ≡ percent false n → T (not (is_nan x))
not_nan n e = subst (λ (y : Float). T (not (is_nan y))) (sym e) (percent-number false n)
