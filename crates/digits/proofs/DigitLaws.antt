-- The digits of a number, what they read as, and how many there are.
use Prim.Native.Nat.{ℕ, zero, suc, ◌+◌, ◌-◌, ◌*◌, ◌/◌, ◌%◌, ◌^◌, ◌≤◌, ◌<◌}
use mathlib.Core.Bool.{Bool, true, false, ◌&&◌, cond}
use mathlib.Core.List.{List, [], ◌∷◌, ◌++◌}
use mathlib.Core.Logic.{◌≢◌}
use mathlib.Core.Path.{◌≡◌, refl, sym, ap, ◌∙◌, subst}
use native.Mathlib.Nat.{zero-add, mod-lt, div-add-mod', div-one, pow-suc, pow-succ', div-div-eq-div-mul, mul_assoc, mul-one}
use native.Mathlib.Nat.{mul-div_cancel, mul-mod_left, div-lt_iff_lt-mul, le_refl}
use native.Mathlib.Omega.{arith}
use lib.Dec.{ltb, eqb, lit<}
use lib.ListN.{length, length-append}
use borrow.Author.Tests.{le-leb, ltb-true, lt-ltb, eqb-true, eqb-false}
use Rattle.text.specs.Bytes.{decimal, is_digit}
use Rattle.digits.specs.Numeral.{all}
use Rattle.digits.specs.Fewest.{last_digits, whole_digits, trimmed}

-- ---- lists with a digit behind them

pub decimal_snoc : (a : ℕ) (l : List ℕ) (d : ℕ) → decimal a (l ++ d ∷ []) ≡ decimal a l * 10 + (d - 48)
unfolding decimal
decimal_snoc a [] d = refl
decimal_snoc a (b ∷ l) d = decimal_snoc (a * 10 + (b - 48)) l d

all_snoc : (p : ℕ → Bool) (l : List ℕ) (d : ℕ) → all p l ≡ true → p d ≡ true → all p (l ++ d ∷ []) ≡ true
unfolding all
all_snoc p [] d h e = rw e
all_snoc p (b ∷ l) d h e = go (p b) h (λ k. all_snoc p l d k e)
  where
    go : (x : Bool) → (x && all p l) ≡ true → (all p l ≡ true → all p (l ++ d ∷ []) ≡ true) → (x && all p (l ++ d ∷ [])) ≡ true
    go true h r = r h
    go false h r = h

pub length_snoc : (l : List ℕ) (d : ℕ) → length (l ++ d ∷ []) ≡ suc (length l)
length_snoc l d = length-append l (d ∷ []) ∙ plus (length l)
  where
    plus : (n : ℕ) → n + 1 ≡ suc n
    plus n = omega arith

-- ---- digits

digit : (d : ℕ) → d < 10 → is_digit (48 + d) ≡ true
digit d h = rw (le-leb 48 (48 + d) (omega arith), le-leb (48 + d) 57 (omega arith))

last-below : (n : ℕ) → n % 10 < 10
last-below n = mod-lt n (lit< tt)

back : (d : ℕ) → 48 + d - 48 ≡ d
back d = omega arith

put_back : (n : ℕ) → n / 10 * 10 + n % 10 ≡ n
put_back n = div-add-mod' n 10

-- the last k digits
pub last-length : (k n : ℕ) → length (last_digits k n) ≡ k
unfolding last_digits
last-length zero n = refl
last-length (suc k) n = length_snoc (last_digits k (n / 10)) (48 + n % 10) ∙ ap suc (last-length k (n / 10))

pub last_digits_lem : (k n : ℕ) → all is_digit (last_digits k n) ≡ true
unfolding last_digits all
last_digits_lem zero n = refl
last_digits_lem (suc k) n = all_snoc is_digit (last_digits k (n / 10)) (48 + n % 10) (last_digits_lem k (n / 10)) (digit (n % 10) (last-below n))

snoc_step : (a n : ℕ) (l : List ℕ) → decimal a l ≡ n / 10 → decimal a (l ++ (48 + n % 10) ∷ []) ≡ n
snoc_step a n l e =
    decimal_snoc a l (48 + n % 10) ∙ ap (λ (x : ℕ). x * 10 + (48 + n % 10 - 48)) e
    ∙ ap (λ (x : ℕ). n / 10 * 10 + x) (back (n % 10)) ∙ put_back n

-- behind the digits of all before them they read as the number
pub last-reads : (k n : ℕ) → decimal (n / 10 ^ k) (last_digits k n) ≡ n
unfolding last_digits decimal
last-reads zero n = div-one n
last-reads (suc k) n =
    snoc_step (n / 10 ^ suc k) n (last_digits k (n / 10))
    (ap (λ (x : ℕ). decimal x (last_digits k (n / 10))) (ap (λ (x : ℕ). n / x) (pow-succ' 10 k) ∙ sym (div-div-eq-div-mul n 10 (10 ^ k)))
    ∙ last-reads k (n / 10))

-- all digits of a whole number: one, or the last behind those of a tenth
abbrev longer : Bool → ℕ → List ℕ → List ℕ
longer b n l = cond b ((48 + n) ∷ []) (l ++ (48 + n % 10) ∷ [])

one-reads : (n : ℕ) → decimal 0 ((48 + n) ∷ []) ≡ n
unfolding decimal
one-reads n = zero-add (48 + n - 48) ∙ back n

pub whole-reads : (k n : ℕ) → decimal 0 (whole_digits k n) ≡ n
unfolding whole_digits
whole-reads zero n = one-reads n
whole-reads (suc k) n = go (ltb n 10) (whole_digits k (n / 10)) (whole-reads k (n / 10))
  where
    go : (b : Bool) (l : List ℕ) → decimal 0 l ≡ n / 10 → decimal 0 (longer b n l) ≡ n
    go true l e = one-reads n
    go false l e = snoc_step 0 n l e

pub tenth_below : (n k : ℕ) → n < 10 ^ suc k → n / 10 < 10 ^ k
tenth_below n k h = (div-lt_iff_lt-mul (lit< tt)).1 (subst (λ (x : ℕ). n < x) (pow-suc 10 k) h)

pub whole_digits_lem : (k n : ℕ) → n < 10 ^ suc k → all is_digit (whole_digits k n) ≡ true
unfolding whole_digits all
whole_digits_lem zero n h = rw (digit n h)
whole_digits_lem (suc k) n h = go (ltb n 10) refl (whole_digits k (n / 10)) (whole_digits_lem k (n / 10) (tenth_below n (suc k) h))
  where
    go : (b : Bool) → ltb n 10 ≡ b → (l : List ℕ) → all is_digit l ≡ true → all is_digit (longer b n l) ≡ true
    go true e l h = rw (digit n (ltb-true n 10 e))
    go false e l h = all_snoc is_digit l (48 + n % 10) h (digit (n % 10) (last-below n))

longer_length : (b : Bool) (n : ℕ) (l : List ℕ) → length (longer b n l) ≡ cond b 1 (suc (length l))
longer_length true n l = refl
longer_length false n l = length_snoc l (48 + n % 10)

pub whole_some : (k n : ℕ) → 0 < length (whole_digits k n)
unfolding whole_digits
whole_some zero n = le_refl 1
whole_some (suc k) n = go (ltb n 10) (whole_digits k (n / 10))
  where
    go : (b : Bool) (l : List ℕ) → 0 < length (longer b n l)
    go true l = le_refl 1
    go false l = rw (longer_length false n l) (omega arith)

-- at most j + 1 of a number below 10 ^ (j + 1)
pub whole_few : (k n j : ℕ) → n < 10 ^ suc j → length (whole_digits k n) ≤ suc j
unfolding whole_digits
whole_few zero n j h = omega arith
whole_few (suc k) n zero h = rw (lt-ltb n 10 h) (le_refl 1)
whole_few (suc k) n (suc j) h = go (ltb n 10) (whole_digits k (n / 10)) (whole_few k (n / 10) j (tenth_below n (suc j) h))
  where
    go : (b : Bool) (l : List ℕ) → length l ≤ suc j → length (longer b n l) ≤ suc (suc j)
    go true l r = omega arith
    go false l r = rw (longer_length false n l) (omega arith)

-- and no fewer than it needs
pub whole_lt : (k n : ℕ) → n < 10 ^ suc k → n < 10 ^ length (whole_digits k n)
unfolding whole_digits
whole_lt zero n h = h
whole_lt (suc k) n h = go (ltb n 10) refl (whole_digits k (n / 10)) (whole_lt k (n / 10) (tenth_below n (suc k) h))
  where
    go : (b : Bool) → ltb n 10 ≡ b → (l : List ℕ) → n / 10 < 10 ^ length l → n < 10 ^ length (longer b n l)
    go true e l r = ltb-true n 10 e
    go false e l r =
        subst (λ (x : ℕ). n < x) (sym (ap (λ (x : ℕ). 10 ^ x) (longer_length false n l) ∙ pow-suc 10 (length l)))
        ((div-lt_iff_lt-mul (lit< tt)).0 r)

-- ---- n over 10 ^ p with the zeros at its end left off

pub record Trimmed (p n : ℕ) (d : ℕ × ℕ) : Type 0 where
  pub cut : ℕ
  pub sums : d.1 + cut ≡ p
  pub value : d.0 * 10 ^ cut ≡ n
  pub least : (v j e : ℕ) → j + e ≡ p → v * 10 ^ e ≡ n → d.1 ≤ j

no_tenth : (v e n : ℕ) → v * 10 ^ suc e ≡ n → n % 10 ≡ 0
no_tenth v e n h =
    ap (λ (x : ℕ). x % 10) (sym h ∙ ap (λ (x : ℕ). v * x) (pow-suc 10 e) ∙ sym (mul_assoc v (10 ^ e) 10)) ∙ mul-mod_left (v * 10 ^ e) 10

by_tenth : (v e n : ℕ) → v * 10 ^ suc e ≡ n → v * 10 ^ e ≡ n / 10
by_tenth v e n h =
    sym (mul-div_cancel (v * 10 ^ e) (lit< tt))
    ∙ ap (λ (x : ℕ). x / 10) (mul_assoc v (10 ^ e) 10 ∙ ap (λ (x : ℕ). v * x) (sym (pow-suc 10 e)) ∙ h)

pub trim : (p n : ℕ) → Trimmed p n (trimmed p n)
unfolding trimmed
trim zero n = record { cut = 0; sums = refl; value = mul-one n; least = λ v j e s h. omega arith }
trim (suc p) n = go (eqb (n % 10) 0) refl (trim p (n / 10))
  where
    ten : (d : ℕ × ℕ) (t : Trimmed p (n / 10) d) → n % 10 ≡ 0 → d.0 * 10 ^ suc t.cut ≡ n
    ten d t z =
        ap (λ (x : ℕ). d.0 * x) (pow-suc 10 t.cut) ∙ sym (mul_assoc d.0 (10 ^ t.cut) 10)
        ∙ ap (λ (x : ℕ). x * 10) t.value ∙ whole (n / 10 * 10) z (put_back n)
      where
        whole : (x : ℕ) → n % 10 ≡ 0 → x + n % 10 ≡ n → x ≡ n
        whole x z h = omega arith

    low : (d : ℕ × ℕ) (t : Trimmed p (n / 10) d) (v j e : ℕ) → j + e ≡ suc p → v * 10 ^ e ≡ n → d.1 ≤ j
    low d t v j zero s h = omega (arith, t.sums)
    low d t v j (suc e) s h = t.least v j e (omega arith) (by_tenth v e n h)

    end : n % 10 ≢ 0 → (v j e : ℕ) → j + e ≡ suc p → v * 10 ^ e ≡ n → suc p ≤ j
    end z v j zero s h = omega arith
    end z v j (suc e) s h = absurd (z (no_tenth v e n h))

    go : (b : Bool) → eqb (n % 10) 0 ≡ b → Trimmed p (n / 10) (trimmed p (n / 10))
        → Trimmed (suc p) n (cond {A = ℕ × ℕ} b (trimmed p (n / 10)) (n, suc p))
    go true e t =
        let d = trimmed p (n / 10) in
        record { cut = suc t.cut; sums = omega (arith, t.sums); value = ten d t (eqb-true (n % 10) 0 e); least = low d t }
    go false e t = record { cut = 0; sums = omega arith; value = mul-one n; least = end (eqb-false (n % 10) 0 e) }
