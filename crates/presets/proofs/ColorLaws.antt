-- Laws of colours: what each way out of the code shows.
use Prim.Native.Nat.{ℕ, ◌+◌}
use mathlib.Core.Bool.{true, false}
use mathlib.Core.List.{List}
use mathlib.Core.Path.{◌≡◌, refl, sym, ap, ◌∙◌}
use native.Mathlib.Nat.{zero-add}
use native.Mathlib.Omega.{arith}
use lib.Dec.{eqb}
use lib.ListN.{length, take, drop, length-drop}
use lib.Seq.{take_all}
use borrow.Author.Tests.{eq-eqb, ne_eqb}
use Rattle.text.specs.Bytes.{is_hex, lowered, run, at, part}
use Rattle.text.specs.Words.{is_some, words, find}
use Rattle.words.specs.declared.List.{List as WordList}
use Rattle.words.specs.declared.List.TheVariants.{Colors}
use Rattle.words.specs.ListMeans.{list_of}
use Rattle.words.proofs.ListLaws.{list_clip}
use Rattle.presets.specs.Colors.{colors, hex_size, is_hex_color, is_color_of}

pub hex_digits : (t : List ℕ) (r : ℕ) → hex_size (length t) ≡ true → r ≡ 0 + run is_hex (drop 0 t) → eqb r (length t) ≡ is_hex_color t
unfolding is_hex_color
hex_digits t r h e = rw (h, e, zero-add)

pub hex_no : (t : List ℕ) → hex_size (length t) ≡ false → false ≡ is_hex_color t
unfolding is_hex_color
hex_no t h = rw h

-- the code's list has the Rust's names: computed
pub names_are : list_of Colors ≡ words colors
unfolding list_of
names_are = refl

module _ (list : WordList) (s : List ℕ) (b : ℕ) (e : b ≡ at s 0) where
  pub color_hex : (digits : List ℕ) → b ≡ 35 → digits ≡ part s 1 (length s) → is_hex_color digits ≡ is_color_of (list_of list) s
  unfolding is_color_of
  color_hex digits h q =
      let d : digits ≡ drop 1 s = q ∙ take_all (length s) (drop 1 s) (rw length-drop (omega arith)) in
      rw (d, eq-eqb (at s 0) 35 (sym e ∙ h))

  -- of a name the first 24 bytes decide
  pub color_name : (front : List ℕ) → (b ≡ 35 → ⊥) → front ≡ take 24 (lowered s)
      → is_some (find (list_of list) 0 front) ≡ is_color_of (list_of list) s
  unfolding is_color_of
  color_name front h q = rw (ne_eqb (at s 0) 35 (λ z. h (e ∙ z)), q) (ap is_some (list_clip list (lowered s)))
