-- The least whole number that reads to an f32 above 10 ^ 10: the middle below it is an even whole number, and more places are more digits.
use Prim.Native.Nat.{ℕ, zero, suc, ◌+◌, ◌-◌, ◌*◌, ◌/◌, ◌%◌, ◌^◌, ◌≤◌, ◌<◌}
use mathlib.Core.Logic.{◌⊎◌, inl, inr, ⊎_elim}
use mathlib.Core.Option.{some}
use mathlib.Core.Path.{◌≡◌, sym, ap, ◌∙◌, subst}
use native.Mathlib.Nat.{le_refl, le_trans, le_of_eq, lt_of_lt_of_le, lt_of_le_of_lt, not-le_of_lt, eq-or-lt_of_le, le_antisymm}
use native.Mathlib.Nat.{mul_comm, mul_assoc, mul_right_comm, mul_left_comm, mul-one, add-zero}
use native.Mathlib.Nat.{add-mul, mul-le-mul_left, mul-le-mul_right, mul-mod_left, pow-suc}
use native.Mathlib.Nat.{le_of_mul-le-mul_right, lt_of_mul-lt-mul_right, mul-lt-mul_of_pos_right, le-div_iff_mul-le, div-one, sub-add_cancel}
use native.Mathlib.Numerals.{add-one}
use native.Mathlib.Omega.{arith}
use lib.Dec.{lit≤, lit<}
use lib.ListN.{length}
use lib.Pow.{pow-add, pow_pos, pow_mono}
use Rattle.digits.specs.Fewest.{fewest, whole_digits}
use Rattle.digits.specs.AnswerMeans.{decimal_of}
use Rattle.digits.specs.Means.{bits_of, highest, infinity, doublings, digits_of, middle_of, whole_over, long, FirstAt, Candidate, Leads}
use Rattle.digits.proofs.DigitLaws.{whole_lt, whole_some}
use Rattle.digits.proofs.NumeralLaws.{ten_pos, digits_le}
use Rattle.digits.proofs.OrderLaws.{bits_mono}
use Rattle.digits.proofs.MiddleLaws.{unit_bits, reaches, digits_high, digits_low, digits_sum}
use Rattle.digits.proofs.SearchLaws.{leads_is}

module _ (b : ℕ) (lo : highest < b) (hi : b ≤ infinity) where
  abbrev k : ℕ
  k = doublings (b - 1)

  abbrev w : ℕ
  w = digits_of (b - 1)

  abbrev t : ℕ
  t = w % 2

  abbrev M : ℕ
  M = middle_of b

  K : k ≤ 253
  K = omega arith

  k_low : 151 ≤ k
  k_low = omega arith

  is_b : k * 2 ^ 23 + (w + 1) ≡ b
  is_b = let s = digits_sum (b - 1) in omega arith

  tie : t ≤ 1
  tie = omega arith

  scaled : M * 2 ^ 150 ≡ (2 * w + 1) * 2 ^ k
  scaled =
      mul_assoc (2 * w + 1) (2 ^ (k - 150)) (2 ^ 150)
      ∙ ap (λ (z : ℕ). (2 * w + 1) * z) (sym (pow-add 2 (k - 150) 150) ∙ ap (λ (z : ℕ). 2 ^ z) (sub-add_cancel (le_trans (lit≤ tt) k_low)))

  -- v / d reaches b exactly if it is past the middle
  left : (d : ℕ) → (2 * w + 1) * (d * 2 ^ k) ≡ M * d * 2 ^ 150
  left d =
      mul_left_comm (2 * w + 1) d (2 ^ k) ∙ ap (λ (z : ℕ). d * z) (sym scaled)
      ∙ sym (mul_assoc d M (2 ^ 150)) ∙ ap (λ (z : ℕ). z * 2 ^ 150) (mul_comm d M)

  right : (v : ℕ) → 2 * (v * 2 ^ 149) ≡ v * 2 ^ 150
  right v = mul_left_comm 2 v (2 ^ 149) ∙ ap (λ (z : ℕ). v * z) (sym (pow-add 2 1 149))

  none_or_one : (t ≡ 0) ⊎ (t ≡ 1)
  none_or_one = ⊎_elim inr (λ (h : t < 1). inl (zero_of t h)) (eq-or-lt_of_le tie)
    where
      zero_of : (t : ℕ) → t < 1 → t ≡ 0
      zero_of t h = omega arith

  past : (v d : ℕ) → 0 < d → b ≤ bits_of v d → M * d < v + t
  past v d D h =
      let x = (reaches k w v d (digits_high (b - 1)) (digits_low (b - 1)) K D).1 (le_trans (le_of_eq is_b) h) in
      let y : M * d * 2 ^ 150 < v * 2 ^ 150 + t = subst (λ (z : ℕ). z < v * 2 ^ 150 + t) (left d)
      (subst (λ (z : ℕ). (2 * w + 1) * (d * 2 ^ k) < z + t) (right v) x)
      in
      ⊎_elim
      (λ (e : t ≡ 0). more (M * d) v t (lt_of_mul-lt-mul_right (2 ^ 150) (none (M * d * 2 ^ 150) (v * 2 ^ 150) t e y)))
      (λ (e : t ≡ 1). up (M * d) v t e (le_of_mul-le-mul_right (one (M * d * 2 ^ 150) (v * 2 ^ 150) t e y) (pow_pos 150)))
      none_or_one
    where
      none : (a c t : ℕ) → t ≡ 0 → a < c + t → a < c
      none a c t e h = omega arith

      one : (a c t : ℕ) → t ≡ 1 → a < c + t → a ≤ c
      one a c t e h = omega arith

      more : (a c t : ℕ) → a < c → a < c + t
      more a c t h = omega arith

      up : (a c t : ℕ) → t ≡ 1 → a ≤ c → a < c + t
      up a c t e h = omega arith

  back : (v d : ℕ) → 0 < d → M * d < v + t → b ≤ bits_of v d
  back v d D h =
      let y : M * d * 2 ^ 150 < v * 2 ^ 150 + t = ⊎_elim
      (λ (e : t ≡ 0). more _ _ t (mul-lt-mul_of_pos_right (none (M * d) v t e h) (pow_pos 150)))
      (λ (e : t ≡ 1). up _ _ t e (mul-le-mul_right (2 ^ 150) (one (M * d) v t e h)))
      none_or_one
      in
      le_trans (le_of_eq (sym is_b))
      ((reaches k w v d (digits_high (b - 1)) (digits_low (b - 1)) K D).0
      (subst (λ (z : ℕ). (2 * w + 1) * (d * 2 ^ k) < z + t) (sym (right v)) (subst (λ (z : ℕ). z < v * 2 ^ 150 + t) (sym (left d)) y)))
    where
      none : (a c t : ℕ) → t ≡ 0 → a < c + t → a < c
      none a c t e h = omega arith

      one : (a c t : ℕ) → t ≡ 1 → a < c + t → a ≤ c
      one a c t e h = omega arith

      more : (a c t : ℕ) → a < c → a < c + t
      more a c t h = omega arith

      up : (a c t : ℕ) → t ≡ 1 → a ≤ c → a < c + t
      up a c t e h = omega arith

  abbrev N : ℕ
  N = whole_over b

  pub first-whole : FirstAt b 1 N
  first-whole = record {
    reached = λ n h. back n 1 (lit< tt) (subst (λ (z : ℕ). z < n + t) (sym (mul-one M)) (reach M n t tie h));
    first = λ n h. least M n t (subst (λ (z : ℕ). z < n + t) (mul-one M) (past n 1 (lit< tt) h));
  }
    where
      reach : (m n t : ℕ) → t ≤ 1 → m + 1 - t ≤ n → m < n + t
      reach m n t e h = omega arith

      least : (m n t : ℕ) → m < n + t → m + 1 - t ≤ n
      least m n t h = omega arith

  -- ---- digits

  M-even : M % 2 ≡ 0
  M-even =
      ap (λ (z : ℕ). z % 2)
      (ap (λ (z : ℕ). (2 * w + 1) * z) (ap (λ (z : ℕ). 2 ^ z) (one_more k k_low) ∙ pow-suc 2 (k - 151))
      ∙ sym (mul_assoc (2 * w + 1) (2 ^ (k - 151)) 2))
      ∙ mul-mod_left ((2 * w + 1) * 2 ^ (k - 151)) 2
    where
      one_more : (k : ℕ) → 151 ≤ k → k - 150 ≡ suc (k - 151)
      one_more k h = omega arith

  M-high : M < 10 ^ 39
  M-high =
      lt_of_lt_of_le (mul-lt-mul_of_pos_right (odd w (digits_high (b - 1))) (pow_pos (k - 150)))
      (le_trans (le_of_eq (sym (pow-add 2 25 (k - 150)))) (le_trans (pow_mono {j = 128} (few k K)) (lit≤ tt)))
    where
      odd : (w : ℕ) → w < 2 ^ 24 → 2 * w + 1 < 2 ^ 25
      odd w h = omega arith

      few : (k : ℕ) → k ≤ 253 → 25 + (k - 150) ≤ 128
      few k h = omega arith

  abbrev len : ℕ → ℕ
  len n = length (whole_digits 39 n)

  N-low : M ≤ N
  N-low = go M t tie
    where
      go : (m t : ℕ) → t ≤ 1 → m ≤ m + 1 - t
      go m t h = omega arith

  N-next : N ≤ M + 1
  N-next = go M t
    where
      go : (m t : ℕ) → m + 1 - t ≤ m + 1
      go m t = omega arith

  N-high : N < 10 ^ 40
  N-high = lt_of_le_of_lt N-next (lt_of_le_of_lt (le_trans (le_of_eq (add-one M)) M-high) (lit< tt))

  -- as many as the middle has
  even_power : (c : ℕ) → 0 < c → 10 ^ c % 2 ≡ 0
  even_power zero h = absurd (not-le_of_lt h (le_refl 0))
  even_power (suc c) h =
      ap (λ (z : ℕ). z % 2) (pow-suc 10 c ∙ sym (mul_assoc (10 ^ c) 5 2)) ∙ mul-mod_left (10 ^ c * 5) 2

  N-few : len N ≤ len M
  N-few = digits_le N (len M) (whole_some 39 M) (lt_of_le_of_lt N-next below)
    where
      up : (m p : ℕ) → m < p → m % 2 ≡ 0 → p % 2 ≡ 0 → m + 1 < p
      up m p h e f = omega arith

      below : M + 1 < 10 ^ len M
      below = up M (10 ^ len M) (whole_lt 39 M (lt_of_lt_of_le M-high (lit≤ tt))) M-even (even_power (len M) (whole_some 39 M))

  grows : (x y : ℕ) → x ≤ y → y < 10 ^ 40 → len x ≤ len y
  grows x y h l = digits_le x (len y) (whole_some 39 y) (lt_of_le_of_lt h (whole_lt 39 y l))

  above : (v j : ℕ) → Candidate b v j → len M ≤ len (v / 10 ^ j)
  above v j c =
      grows M (v / 10 ^ j)
      ((le-div_iff_mul-le (ten_pos j)).1 (under (M * 10 ^ j) v t tie (past v (10 ^ j) (ten_pos j) (le_of_eq (sym c.reads)))))
      c.below
    where
      under : (a v t : ℕ) → t ≤ 1 → a < v + t → a ≤ v
      under a v t e h = omega arith

  pub whole_leads : bits_of N 1 ≡ b → Leads b 41 N 0 (len N)
  unfolding long
  whole_leads e = record {
    low = lit< tt;
    is = record { reads = e; below = subst (λ (z : ℕ). z < 10 ^ 40) (sym (div-one N)) N-high };
    size = ap (λ (z : ℕ). len z + 0) (div-one N) ∙ add-zero (len N);
    fewer = λ v j q c. le_trans N-few (le_trans (above v j c) (more (len (v / 10 ^ j)) j));
    smaller = λ v j q c z. same v j (none (len N) (len (v / 10 ^ j)) j (le_trans N-few (above v j c)) z) c;
  }
    where
      more : (a j : ℕ) → a ≤ a + j
      more a j = omega arith

      none : (a c j : ℕ) → a ≤ c → c + j ≡ a → j ≡ 0
      none a c j h e = omega arith

      same : (v j : ℕ) → j ≡ 0 → Candidate b v j → N * 10 ^ j ≤ v * 10 ^ 0
      same v j z c =
          le_trans (le_of_eq (ap (λ (x : ℕ). N * 10 ^ x) z))
          (mul-le-mul_right 1 (first-whole.first v (le_of_eq (sym (subst (λ (x : ℕ). bits_of v (10 ^ x) ≡ b) z c.reads)))))

  -- it reads to b: it is no larger than the f32 itself
  pub N-reads : bits_of N 1 ≡ b
  N-reads = le_antisymm upper (first-whole.reached N (le_refl N))
    where
      unit : bits_of ((w + 1) * 2 ^ k) (2 ^ 149) ≡ b
      unit =
          unit_bits (w + 1) k (one w (digits_high (b - 1)))
          (⊎_elim inl (λ (h : 2 ^ 23 ≤ w). inr (le_trans h (more w))) (digits_low (b - 1))) K
          ∙ is_b
        where
          one : (w : ℕ) → w < 2 ^ 24 → w + 1 ≤ 2 ^ 24
          one w h = omega arith

          more : (w : ℕ) → w ≤ w + 1
          more w = omega arith

      below : N * 2 ^ 149 ≤ (w + 1) * 2 ^ k * 1
      below =
          le_of_mul-le-mul_right
          (le_trans (le_of_eq (mul_assoc N (2 ^ 149) 2 ∙ ap (λ (z : ℕ). N * z) (sym (pow-add 2 149 1))))
          (le_trans (mul-le-mul_right (2 ^ 150) N-next)
          (le_trans (le_of_eq (add-mul M 1 (2 ^ 150) ∙ ap (λ (z : ℕ). z + 1 * 2 ^ 150) scaled))
          (le_trans (sum ((2 * w + 1) * 2 ^ k) (1 * 2 ^ 150) (1 * 2 ^ k)
          (mul-le-mul_left 1 (pow_mono {i = 150} {j = k} (le_trans (lit≤ {m = 150} {n = 151} tt) k_low))))
          (le_of_eq (sym (add-mul (2 * w + 1) 1 (2 ^ k)) ∙ regroup))))))
          (lit< {m = 0} {n = 2} tt)
        where
          sum : (a b c : ℕ) → b ≤ c → a + b ≤ a + c
          sum a b c h = omega arith

          two : (w : ℕ) → 2 * w + 1 + 1 ≡ (w + 1) * 2
          two w = omega arith

          regroup : (2 * w + 1 + 1) * 2 ^ k ≡ (w + 1) * 2 ^ k * 1 * 2
          regroup =
              ap (λ (z : ℕ). z * 2 ^ k) (two w) ∙ mul_right_comm (w + 1) 2 (2 ^ k) ∙ ap (λ (z : ℕ). z * 2) (sym (mul-one ((w + 1) * 2 ^ k)))

      upper : bits_of N 1 ≤ b
      upper = le_trans (bits_mono N 1 ((w + 1) * 2 ^ k) (2 ^ 149) (lit< tt) (pow_pos 149) below) (le_of_eq unit)

  pub whole_is : some (N, 0) ≡ decimal_of (fewest b)
  whole_is = leads_is (whole_leads N-reads)
