-- Laws on the forms' widths: what k bytes hold, and how many bytes a form writes.
use Prim.Native.Nat.{ℕ, zero, suc, ◌*◌, ◌/◌, ◌^◌, ◌<◌}
use mathlib.Core.Bool.{Bool}
use mathlib.Core.List.{List, [], ◌∷◌, ◌++◌, append-nil, append_assoc}
use mathlib.Core.Option.{none, some}
use mathlib.Core.Path.{◌≡◌, refl, ◌∙◌}
use native.Mathlib.Omega.{arith}
use native.Mathlib.Nat.{pow-suc}
use lib.Dec.{T}
use lib.Ieee.{Float, binary32, fits}
use lib.ListN.{length, length-append}
use Rattle.number.specs.Number.{bits}
use Rattle.number.proofs.Floats.{bits_lt}
use Rattle.codec.specs.Codec.{Form, big, opt, each_out}
use Rattle.codec.proofs.Laws.{Small}
use Rattle.ast.specs.Tree.{Span}
use Rattle.sheet.specs.Sheet.{word, flag, span_form}

-- ---- a number in k bytes

pub length-big : (k n : ℕ) → length ((big k).write n) ≡ k
length-big zero n = refl
length-big (suc k) n = length-append ((big k).write (n / 256)) _ ∙ (let e = length-big k (n / 256) in omega arith)

-- what k bytes hold
pub small : (k n : ℕ) → n < 256 ^ k → Small k n
small zero n h = omega arith
small (suc k) n h = small k (n / 256) (quotient (256 ^ k) (rw pow-suc at h))
  where
    quotient : (p : ℕ) → n < p * 256 → n / 256 < p
    quotient p g = omega arith

-- the bits of a float are 4 bytes
pub small_bits : (x : Float) → T (fits binary32 x) → Small 4 (bits x)
small_bits x h = small 4 (bits x) (bits_lt x h)

-- ---- the lengths of the others

pub length-word : (n : ℕ) → length (word.write n) ≡ 4
length-word n = length-big 4 n

pub length-flag : (b : Bool) → length (flag.write b) ≡ 1
length-flag b = refl

pub length_span : (n : ℕ) (s : Span) → length ((span_form n).write s) ≡ 4
length_span n s = refl

pub length_absent : {A : Type 0} (c : Form A) → length ((opt c).write none) ≡ 1
length_absent c = refl

pub length_present : {A : Type 0} (c : Form A) (a : A) → length ((opt c).write (some a)) ≡ suc (length (c.write a))
length_present c a = refl

-- ---- elements, one more at a time

pub each_append : {A : Type 0} (w : A → List ℕ) (xs ys : List A) → each_out w (xs ++ ys) ≡ each_out w xs ++ each_out w ys
each_append w [] ys = refl
each_append w (x ∷ xs) ys = rw (each_append w xs ys, append_assoc)

pub each_more : {A : Type 0} (w : A → List ℕ) (xs : List A) (x : A) → each_out w (xs ++ x ∷ []) ≡ each_out w xs ++ w x
each_more w xs x = each_append w xs (x ∷ []) ∙ (rw append-nil)
