-- Laws of digits read as one number.
use Prim.Native.Nat.{ℕ, zero, suc, ◌+◌, ◌-◌, ◌*◌, ◌^◌, ◌≤◌, ◌<◌}
use mathlib.Core.List.{List, [], ◌∷◌}
use mathlib.Core.Bool.{Bool, true, false}
use mathlib.Core.Path.{◌≡◌, refl}
use native.Mathlib.Omega.{arith}
use native.Mathlib.Numerals.{add-one}
use Rattle.std.proofs.Common.{zero-le, length-take}
use native.Mathlib.Nat.{min-le_left, pow-suc, pow-le-pow_right, add-zero, sub-zero}
use lib.ListN.{length, get_or, take, drop, length-drop}
use lib.Seq.{drop-cons, get_or-drop, take-length}
use Rattle.text.specs.Bytes.{run, is_digit, decimal, part}
use Rattle.text.proofs.ByteLaws.{run_yes, run_no, run_in, run_at, run_le, within_is}

pub run_in_at : (p : ℕ → Bool) (s : List ℕ) (from i : ℕ) → i < run p (drop from s) → p (get_or s (from + i) 0) ≡ true
run_in_at p s from i h = rw get_or-drop at (run_in p (drop from s) i h)

pub decimal_nil : (v : ℕ) (l : List ℕ) (n : ℕ) → n ≡ 0 → decimal v (take n l) ≡ v
unfolding decimal
decimal_nil v l n e = rw e

pub decimal-at : (v : ℕ) (s : List ℕ) (from n i : ℕ) → from + n ≤ length s
    → i < n
    → decimal v (take (n - i) (drop (from + i) s))
    ≡ decimal (v * 10 + (get_or s (from + i) 0 - 48)) (take (n - (i + 1)) (drop (from + (i + 1)) s))
unfolding decimal
decimal-at v s from n i h g =
    let e : n - i ≡ suc (n - (i + 1)) = omega arith in
    let f : from + (i + 1) ≡ suc (from + i) = omega arith in
    let k : from + i < length s = omega arith in
    rw (e, f, drop-cons s (from + i) 0)

pub ten_more : (v d k : ℕ) → v < 10 ^ k → d ≤ 9 → v * 10 + d < 10 ^ (k + 1)
ten_more v d k h e = rw (add-one, pow-suc) (omega arith)

pub ten_fits : (v k m : ℕ) → v < 10 ^ k → k ≤ m → v < 10 ^ m
ten_fits v k m h e = omega (arith, pow-le-pow_right {n = 10} (omega arith) e)

pub ten_positive : (k : ℕ) → 0 < 10 ^ k
ten_positive k = ten_fits 0 0 k (omega arith) (omega arith)

-- n digits behind a number below 10^k give one below 10^(k + n)
pub digits_small : (l : List ℕ) (n k v : ℕ) → v < 10 ^ k → n ≤ run is_digit l → decimal v (take n l) < 10 ^ (k + n)
unfolding decimal run
digits_small l zero k v h g = rw add-zero h
digits_small [] (suc n) k v h g = absurd (omega arith)
digits_small (b ∷ l) (suc n) k v h g = go (λ d r. digits_small l n (k + 1) (v * 10 + (b - 48)) d r) (is_digit b) refl g
  where
    go : (v * 10 + (b - 48) < 10 ^ (k + 1) → n ≤ run is_digit l → decimal (v * 10 + (b - 48)) (take n l) < 10 ^ (k + 1 + n))
        → (x : Bool) → is_digit b ≡ x → suc n ≤ run is_digit (b ∷ l)
        → decimal (v * 10 + (b - 48)) (take n l) < 10 ^ (k + suc n)
    go ih true e g' =
        let q : k + 1 + n ≡ k + suc n = omega arith in
        let r = ih (ten_more v (b - 48) k h (omega (arith, within_is 48 57 b e))) (omega (arith, run_yes is_digit b l e)) in
        rw q at r
    go ih false e g' = absurd (omega (arith, run_no is_digit b l e))

pub whole_small : (t : List ℕ) (w v k : ℕ) → v ≡ decimal 0 (part t 0 w) → w ≤ run is_digit t → w ≤ k → v < 10 ^ k
whole_small t w v k e h g =
    let z : 0 + w ≤ k = omega arith in
    rw e (ten_fits _ _ k (digits_small t w 0 0 (ten_positive 0) h) z)

-- digits stand in the text
pub digits_inside : (t : List ℕ) (from n : ℕ) → n ≤ run is_digit (drop from t) → 0 < n → from + n ≤ length t
digits_inside t from n h z = omega (arith, run_le is_digit (drop from t), length-drop from t)

-- a run from a later place on
pub run_later : (p : ℕ → Bool) (t : List ℕ) (from n i : ℕ) → n ≤ run p (drop from t) → i ≤ n → n - i ≤ run p (drop (from + i) t)
run_later p t from n zero h g = rw (add-zero, sub-zero) h
run_later p t from n (suc i) h g =
    let r = run_later p t from n i h (omega arith) in
    let some : 0 < run p (drop (from + i) t) = omega arith in
    let inside : from + i < length t = omega (arith, run_le p (drop (from + i) t), length-drop (from + i) t) in
    let here : p (get_or t (from + i) 0) ≡ true = rw add-zero at (run_in_at p t (from + i) 0 some) in
    let next : from + suc i ≡ from + i + 1 = omega arith in
    rw next (omega (arith, run_at p t (from + i) inside here))

-- ---- of digits alone

pub decimal_none : (v : ℕ) (l : List ℕ) → length l ≡ 0 → decimal v l ≡ v
unfolding decimal
decimal_none v [] e = refl
decimal_none v (b ∷ l) e = absurd (omega arith)

pub decimal_next : (v : ℕ) (s : List ℕ) (i : ℕ) → i < length s
    → decimal v (drop i s) ≡ decimal (v * 10 + (get_or s i 0 - 48)) (drop (i + 1) s)
unfolding decimal
decimal_next v s i h = rw (add-one, drop-cons s i 0)

pub digits_below : (l : List ℕ) (k v : ℕ) → v < 10 ^ k → length l ≤ run is_digit l → decimal v l < 10 ^ (k + length l)
digits_below l k v h g = rw take-length at (digits_small l (length l) k v h g)

-- of bytes that all pass, those of a part do
tail_run : (p : ℕ → Bool) (b : ℕ) (l : List ℕ) (n : ℕ) → suc n ≤ run p (b ∷ l) → (p b ≡ true) × (n ≤ run p l)
tail_run p b l n h = go (p b) refl
  where
    go : (x : Bool) → p b ≡ x → (p b ≡ true) × (n ≤ run p l)
    go true e = (e, omega (arith, run_yes p b l e))
    go false e = absurd (omega (arith, run_no p b l e))

pub run-take : (p : ℕ → Bool) (l : List ℕ) (n : ℕ) → n ≤ run p l → length (take n l) ≤ run p (take n l)
run-take p l zero h = zero-le
run-take p [] (suc n) h = zero-le
run-take p (b ∷ l) (suc n) h =
    let t = tail_run p b l n h in
    rw (run_yes p b (take n l) t.0) (omega (arith, run-take p l n t.1))

pub run-drop : (p : ℕ → Bool) (l : List ℕ) (n : ℕ) → length l ≤ run p l → length (drop n l) ≤ run p (drop n l)
run-drop p l zero h = h
run-drop p [] (suc n) h = zero-le
run-drop p (b ∷ l) (suc n) h = run-drop p l n (tail_run p b l (length l) h).1

pub run_part : (p : ℕ → Bool) (t : List ℕ) (from n : ℕ) → n ≤ run p (drop from t) → length (part t from n) ≤ run p (part t from n)
run_part p t from n h = run-take p (drop from t) n h

pub part_le : (t : List ℕ) (from n : ℕ) → length (part t from n) ≤ n
part_le t from n = omega (arith, length-take n (drop from t), min-le_left n (length (drop from t)))
