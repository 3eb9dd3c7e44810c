-- Laws of snake case, a byte of a name at a time, and of lookups among the names.
use Prim.Native.Nat.{ℕ, ◌+◌, ◌≤◌, ◌<◌}
use mathlib.Core.Bool.{Bool, true, false, not}
use mathlib.Core.List.{List, [], ◌∷◌, ◌++◌}
use mathlib.Core.Path.{◌≡◌, refl, sym, ap, ◌∙◌}
use native.Mathlib.Omega.{arith}
use native.Mathlib.Numerals.{add-one}
use lib.ListN.{length, get_or, take, drop, drop_of_length-le}
use lib.Seq.{drop-cons}
use borrow.Author.Tests.{not-true, not-false}
use Rattle.text.specs.Bytes.{is_upper, lower}
use Rattle.text.specs.Words.{is_some, words, find}
use Rattle.words.specs.declared.List.TheVariants.{Easings}
use Rattle.words.specs.ListMeans.{list_of}
use Rattle.words.proofs.ListLaws.{list_clip}
use Rattle.easing.specs.Names.{named_easings, snake_byte, snake_rest, snake, is_easing}

pub byte_capital : (b l : ℕ) → is_upper b ≡ true → l ≡ lower b → snake_byte b ≡ (95 ∷ []) ++ (l ∷ [])
byte_capital b l h e = rw (e, h)

pub byte_other : (b : ℕ) → is_upper b ≡ false → snake_byte b ≡ b ∷ []
byte_other b h = rw h

pub snake_nil : (w : List ℕ) → length w ≡ 0 → snake w ≡ []
unfolding snake
snake_nil [] h = refl
snake_nil (b ∷ w) h = absurd (omega arith)

pub snake-first : (w : List ℕ) (b l : ℕ) (t : List ℕ) → w ≡ b ∷ t → l ≡ lower b → snake w ≡ (l ∷ []) ++ snake_rest t
unfolding snake
snake-first w b l t h e = rw (h, e)

pub rest_at : (w : List ℕ) (i : ℕ) → i < length w → snake_rest (drop i w) ≡ snake_byte (get_or w i 0) ++ snake_rest (drop (i + 1) w)
unfolding snake_rest
rest_at w i h = rw (add-one, drop-cons w i 0)

pub rest_end : (w : List ℕ) (i : ℕ) → length w ≤ i → snake_rest (drop i w) ≡ []
unfolding snake_rest
rest_end w i h = rw (drop_of_length-le w h)

-- ---- lookups

-- the code's list has the names: computed
names_are : list_of Easings ≡ words named_easings
unfolding list_of
names_are = refl

module _ (variant r : Bool) (w : List ℕ) where
  pub easing-plain : not variant ≡ true → r ≡ is_some (find (list_of Easings) 0 w) → r ≡ is_easing variant w
  unfolding is_easing
  easing-plain h e = e ∙ (rw (not-true variant h, names_are))

  pub easing_variant : (v front : List ℕ) → not variant ≡ false → v ≡ w → front ≡ take 24 (snake v)
      → r ≡ is_some (find (list_of Easings) 0 front) → r ≡ is_easing variant w
  unfolding is_easing
  easing_variant v front h q f e =
      e ∙ (rw (not-false variant h, f, sym q, sym names_are) (ap is_some (list_clip Easings (snake v))))
