-- The heights by cases, their bounds, the filling of a list, and the operation by cases.
use mathlib.Core.Path.{◌≡◌, refl, ◌∙◌}
use mathlib.Core.Bool.{Bool, true, false, not, cond}
use mathlib.Core.List.{List}
use Prim.Native.Nat.{ℕ, zero, suc, ◌+◌, ◌*◌, ◌-◌, ◌/◌, ◌%◌, ◌<◌, ◌≤◌}
use native.Mathlib.Omega.{arith}
use lib.Dec.{T}
use lib.IntN.{ℤ, pos, ◌-ℤ◌}
use lib.ListN.{length, set, length-set}
use borrow.Author.Tests.{le-leb, lt-leb, lt-ltb, le-ltb, eq-eqb, ne_eqb}
use Rattle.error.specs.declared.Refusal.TheVariants as cause
use Rattle.error.specs.declared.CheckAnswer.TheVariants as answer
use Rattle.drawing.specs.Wave.{sine_at, triangle_at, quarter_of, folded, mirrored, sawtooth, square, height, filled, shifted, drawing}
use Rattle.drawing.proofs.TableLaws.{at_most}

pub fold_low : (p : ℕ) → p ≤ 64 → folded p ≡ p
unfolding folded
fold_low p h = rw (le-leb p 64 h)

pub fold_high : (p : ℕ) → 64 < p → folded p ≡ 128 - p
unfolding folded
fold_high p h = rw (lt-leb p 64 h)

pub is_sine : (kind p : ℕ) → kind ≡ 0 → quarter_of kind p ≡ sine_at p
unfolding quarter_of
is_sine kind p e = rw (eq-eqb kind 0 e)

pub is_triangle : (kind p : ℕ) → (kind ≡ 0 → ⊥) → quarter_of kind p ≡ triangle_at p
unfolding quarter_of
is_triangle kind p e = rw (ne_eqb kind 0 e)

pub sine_most : (p : ℕ) → p ≤ 64 → sine_at p ≤ 32767
unfolding sine_at
sine_most p h = at_most (16 * p) (omega arith)

pub triangle-most : (p : ℕ) → p ≤ 64 → triangle_at p ≤ 32767
unfolding triangle_at
triangle-most p h = omega arith

pub up : (kind p : ℕ) → p < 128 → mirrored kind p ≡ pos (quarter_of kind (folded p)) -ℤ pos 0
unfolding mirrored
up kind p h = rw (lt-ltb p 128 h)

pub down : (kind p : ℕ) → 128 ≤ p → mirrored kind p ≡ pos 0 -ℤ pos (quarter_of kind (folded (p - 128)))
unfolding mirrored
down kind p h = rw (le-ltb p 128 h)

pub is_sawtooth : (kind p : ℕ) → kind ≡ 1 → height kind p ≡ pos (65534 * p / 255) -ℤ pos 32767
unfolding height sawtooth
is_sawtooth kind p e = rw (eq-eqb kind 1 e)

pub is_high : (kind p : ℕ) → (kind ≡ 1 → ⊥) → kind ≡ 2 → p < 128 → height kind p ≡ pos 32767 -ℤ pos 0
unfolding height square
is_high kind p n e h = rw (ne_eqb kind 1 n, eq-eqb kind 2 e, lt-ltb p 128 h)

pub is_low : (kind p : ℕ) → (kind ≡ 1 → ⊥) → kind ≡ 2 → 128 ≤ p → height kind p ≡ pos 0 -ℤ pos 32767
unfolding height square
is_low kind p n e h = rw (ne_eqb kind 1 n, eq-eqb kind 2 e, le-ltb p 128 h)

pub is_mirrored : (kind p : ℕ) → (kind ≡ 1 → ⊥) → (kind ≡ 2 → ⊥) → height kind p ≡ mirrored kind p
unfolding height
is_mirrored kind p n e = rw (ne_eqb kind 1 n, ne_eqb kind 2 e)

-- what holds of both of two values, each where the test picks it, holds of what it picks
pub either : {A : Type 0} (c : Bool) (x y : A) (P : A → Type 0) → (T c → P x) → (T (not c) → P y) → P (cond c x y)
either true x y P f g = f tt
either false x y P f g = g tt

-- ---- filling

pub none_filled : (f : ℕ → ℤ) (hs : List ℤ) → filled f 0 hs ≡ hs
unfolding filled
none_filled f hs = refl

pub one_more : (f : ℕ → ℤ) (n : ℕ) (hs : List ℤ) → filled f (suc n) hs ≡ set (filled f n hs) n (f n)
unfolding filled
one_more f n hs = refl

pub length-filled : (f : ℕ → ℤ) (n : ℕ) (hs : List ℤ) → length (filled f n hs) ≡ length hs
unfolding filled
length-filled f zero hs = refl
length-filled f (suc n) hs = length-set (filled f n hs) n (f n) ∙ length-filled f n hs

pub shifted_is : (kind phase i : ℕ) → shifted kind phase i ≡ height kind ((i + phase) % 256)
unfolding shifted
shifted_is kind phase i = refl

-- ---- the operation by cases

pub no_kind : (kind phase : ℕ) (hs : List ℤ) → 4 ≤ kind → drawing kind phase hs ≡ (answer.Refused cause.NotDrawn 0, hs)
unfolding drawing
no_kind kind phase hs h = rw (le-leb 4 kind h)

pub bad_phase : (kind phase : ℕ) (hs : List ℤ) → kind < 4 → 256 ≤ phase → drawing kind phase hs ≡ (answer.Refused cause.PhaseTooLarge 0, hs)
unfolding drawing
bad_phase kind phase hs g h = rw (lt-leb 4 kind g, le-leb 256 phase h)

pub too_short : (kind phase : ℕ) (hs : List ℤ) → kind < 4 → phase < 256 → length hs < 256 →
    drawing kind phase hs ≡ (answer.Refused cause.OutputTooShort 0, hs)
unfolding drawing
too_short kind phase hs g h l = rw (lt-leb 4 kind g, lt-leb 256 phase h, lt-ltb (length hs) 256 l)

pub is_drawn : (kind phase : ℕ) (hs : List ℤ) → kind < 4 → phase < 256 → 256 ≤ length hs →
    drawing kind phase hs ≡ (answer.Accepted, filled (shifted kind phase) 256 hs)
unfolding drawing
is_drawn kind phase hs g h l = rw (lt-leb 4 kind g, lt-leb 256 phase h, le-ltb (length hs) 256 l)
