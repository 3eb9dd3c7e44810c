-- What the machine subtracts and stores, the loop that fills, and an entry of the table that is lent.
use mathlib.Core.Path.{◌≡◌, sym, ◌∙◌, ap, subst}
use mathlib.Core.List.{List}
use Prim.Native.Nat.{ℕ, zero, suc, ◌+◌, ◌*◌, ◌-◌, ◌%◌, ◌<◌, ◌≤◌}
use native.Mathlib.Omega.{arith}
use lib.Dec.{ltb, ltb→lt, nltb→le}
use lib.IntN.{ℤ, pos, negsuc, ◌-ℤ◌}
use lib.ListN.{length, get_or, set}
use lib.Signed.{mag}
use mir.Syntax.{w16, w32}
use mir.Val.{SFits, to_z, of_z}
use mir.ValLaws.{to_z_pos, to_z-of_z}
use Rattle.error.specs.declared.CheckAnswer.{CheckAnswer}
use Rattle.error.specs.declared.CheckAnswer.TheVariants as answer
use Rattle.drawing.specs.Table.{table}
use Rattle.drawing.specs.Wave.{sine_at, height, filled, shifted, drawing}
use Rattle.drawing.proofs.TableLaws.{long}
use Rattle.drawing.proofs.WaveLaws.{either, one_more, shifted_is, is_drawn}

-- ---- differences

-- a difference within the peak
pub small : (a b : ℕ) → a ≤ b + 32767 → b ≤ 32767 → mag (pos a -ℤ pos b) < 32768
small a zero h k = omega arith
small a (suc b) h k =
    either (ltb a (suc b)) (negsuc (suc b - suc a)) (pos (a - suc b)) (λ (z : ℤ). mag z < 32768)
    (λ t. omega (arith, ltb→lt a (suc b) t)) (λ t. omega (arith, nltb→le a (suc b) t))

pub small16 : (a b : ℕ) → a ≤ b + 32767 → b ≤ 32767 → SFits w16 (pos a -ℤ pos b)
small16 a b h k = record { sfits = small a b h k }

pub small32 : (a b : ℕ) → a ≤ b + 32767 → b ≤ 32767 → SFits w32 (pos a -ℤ pos b)
small32 a b h k = record { sfits = omega (arith, small a b h k) }

-- what the machine reads from the bits of two numbers and subtracts
reads_back : (a b : ℕ) → a ≤ b + 32767 → b ≤ 32767 → to_z w32 a -ℤ to_z w32 b ≡ pos a -ℤ pos b
reads_back a b h k = λ i. to_z_pos w32 a (omega arith) i -ℤ to_z_pos w32 b (omega arith) i

pub sub_fits : (a b : ℕ) → a ≤ b + 32767 → b ≤ 32767 → SFits w32 (to_z w32 a -ℤ to_z w32 b)
sub_fits a b h k = subst (SFits w32) (sym (reads_back a b h k)) (small32 a b h k)

narrows : (a b : ℕ) → a ≤ b + 32767 → b ≤ 32767 → to_z w32 (of_z w32 (to_z w32 a -ℤ to_z w32 b)) ≡ pos a -ℤ pos b
narrows a b h k = to_z-of_z w32 (to_z w32 a -ℤ to_z w32 b) (sub_fits a b h k) ∙ reads_back a b h k

pub cast_fits : (a b : ℕ) → a ≤ b + 32767 → b ≤ 32767 → SFits w16 (to_z w32 (of_z w32 (to_z w32 a -ℤ to_z w32 b)))
cast_fits a b h k = subst (SFits w16) (sym (narrows a b h k)) (small16 a b h k)

pub lessened : (a b : ℕ) → a ≤ b + 32767 → b ≤ 32767 →
    to_z w16 (of_z w16 (to_z w32 (of_z w32 (to_z w32 a -ℤ to_z w32 b)))) ≡ pos a -ℤ pos b
lessened a b h k = to_z-of_z w16 (to_z w32 (of_z w32 (to_z w32 a -ℤ to_z w32 b))) (cast_fits a b h k) ∙ narrows a b h k

-- a height that a call gave, read from its bits
pub given : (z : ℤ) → mag z < 32768 → to_z w16 (of_z w16 z) ≡ z
given z h = to_z-of_z w16 z (record { sfits = h })

-- ---- the loop: a turn, and the end

pub turn : (kind phase i : ℕ) (old hs : List ℤ) (p : ℕ) (z : ℤ) → hs ≡ filled (shifted kind phase) i old → p ≡ (i + phase) % 256 →
    z ≡ height kind p → mag z < 32768 → set hs i (to_z w16 (of_z w16 z)) ≡ filled (shifted kind phase) (i + 1) old
turn kind phase i old hs p z same step is m =
    (λ j. set (same j) i (value j)) ∙ sym (one_more (shifted kind phase) i old)
    ∙ ap (λ (n : ℕ). filled (shifted kind phase) n old) (omega arith)
  where
    value : to_z w16 (of_z w16 z) ≡ shifted kind phase i
    value = given z m ∙ is ∙ ap (height kind) step ∙ sym (shifted_is kind phase i)

pub full : (f : ℕ → ℤ) (i : ℕ) (old hs : List ℤ) → i ≤ 256 → 256 ≤ i → hs ≡ filled f i old → hs ≡ filled f 256 old
full f i old hs m n same = same ∙ ap (λ (n : ℕ). filled f n old) all
  where
    all : i ≡ 256
    all = omega arith

pub accepts : (kind phase : ℕ) (old hs : List ℤ) → kind < 4 → phase < 256 → 256 ≤ length old →
    hs ≡ filled (shifted kind phase) 256 old → ◌≡◌ {A = CheckAnswer × List ℤ} (answer.Accepted, hs) (drawing kind phase old)
accepts kind phase old hs g h l same =
    ap (λ (x : List ℤ). (answer.Accepted, x)) same ∙ sym (is_drawn kind phase old g h l)

-- ---- the table

-- an entry of the table that was lent
pub entry : (t : List ℕ) (p : ℕ) → t ≡ table → get_or t (16 * p) 0 ≡ sine_at p
unfolding sine_at
entry t p e = ap (λ (x : List ℕ). get_or x (16 * p) 0) e

pub inside : (t : List ℕ) (p : ℕ) → t ≡ table → p ≤ 64 → 16 * p < length t
inside t p e h = omega (arith, ap (length {A = ℕ}) e ∙ long)
