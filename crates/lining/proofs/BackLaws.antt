-- The digits of some bytes, read back, are those bytes.
use Prim.Native.Nat.{ℕ, zero, suc, ◌+◌, ◌*◌, ◌/◌, ◌%◌, ◌<◌}
use mathlib.Core.Bool.{Bool, true, false}
use mathlib.Core.List.{List, [], ◌∷◌}
use mathlib.Core.Logic.{◌⊎◌, inl, inr}
use mathlib.Core.Option.{Option, none, some}
use mathlib.Core.Path.{◌≡◌, refl, ap, ◌∙◌}
use native.Mathlib.Omega.{arith}
use native.Mathlib.Nat.{eq-or-lt_of_le}
use lib.Dec.{eqb}
use borrow.Author.Tests.{eqb-true}
use Rattle.codec.proofs.Laws.{All}
use Rattle.lining.specs.Line.{digit, hex}
use Rattle.lining.specs.ReadBack.{place_from, value_of, read_back}
use Rattle.lining.proofs.ByteLaws.{Byte}

-- ---- a digit: all sixteen are tried

-- a test passes for each number below n
unfoldable every : (ℕ → Bool) → ℕ → Bool
every p zero = true
every p (suc n) = elim (p n) [ true ↦ every p n | false ↦ false ]

passes : (p : ℕ → Bool) (n : ℕ) → every p n ≡ true → (i : ℕ) → i < n → p i ≡ true
unfolding every
passes p zero e i h = absurd (omega arith)
passes p (suc n) e i h = by (p n) refl e (eq-or-lt_of_le (omega arith)) (passes p n)
  where
    by : (b : Bool) → p n ≡ b → elim b [ true ↦ every p n | false ↦ false ] ≡ true → (i ≡ n) ⊎ (i < n)
        → (every p n ≡ true → (i : ℕ) → i < n → p i ≡ true) → p i ≡ true
    by false q e o r = let z : ◌≡◌ {A = ℕ} 0 1 = cc in absurd (omega arith)
    by true q e (inl k) r = ap p k ∙ q
    by true q e (inr l) r = r e i l

abbrev is : ℕ → Option ℕ → Bool
is n none = false
is n (some m) = eqb m n

is_some : (n : ℕ) (o : Option ℕ) → is n o ≡ true → o ≡ some n
is_some n none e = let z : ◌≡◌ {A = ℕ} 0 1 = cc in absurd (omega arith)
is_some n (some m) e = ap some (eqb-true m n e)

sixteen : every (λ n. is n (value_of (digit n))) 16 ≡ true
unfolding every place_from
sixteen = refl

pub digit_back : (n : ℕ) → n < 16 → value_of (digit n) ≡ some n
digit_back n h = is_some n (value_of (digit n)) (passes (λ n. is n (value_of (digit n))) 16 sixteen n h)

-- ---- bytes

pub hex_back : (bs : List ℕ) → All Byte bs → read_back (hex bs) ≡ some bs
unfolding hex read_back
hex_back [] h = refl
hex_back (b ∷ bs) h =
    let l : b < 256 = h.0 in
    let high = digit_back (b / 16) (omega arith) in
    let low = digit_back (b % 16) (omega arith) in
    let e : b / 16 * 16 + b % 16 ≡ b = omega arith in
    rw (high, low, hex_back bs h.1, e)
