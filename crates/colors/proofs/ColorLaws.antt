-- Laws of colours: what each way out of the code shows, and that the four bytes are given exactly for the standard's colours.
use Prim.Native.Nat.{ℕ}
use mathlib.Core.Bool.{Bool, true, false, cond}
use mathlib.Core.List.{List, [], ◌∷◌}
use mathlib.Core.Option.{Option, none, some}
use mathlib.Core.Path.{◌≡◌, refl, sym, ap, ◌∙◌}
use native.Mathlib.Omega.{arith}
use lib.Dec.{eqb}
use lib.ListN.{length, take, drop, length-drop}
use lib.Seq.{take_all}
use borrow.Author.Tests.{eq-eqb, ne_eqb}
use Rattle.error.specs.declared.Refusal.TheVariants.{InvalidColor}
use Rattle.error.specs.declared.CheckAnswer.{CheckAnswer}
use Rattle.error.specs.declared.CheckAnswer.TheVariants.{Accepted, Refused}
use Rattle.text.specs.Bytes.{at, part, lowered}
use Rattle.text.specs.Words.{is_some, under}
use Rattle.presets.specs.Colors.{colors, is_hex_color, is_color_of, is_color}
use Rattle.words.specs.declared.List.TheVariants.{CssColors}
use Rattle.words.specs.ListMeans.{list_of}
use Rattle.colors.specs.Css.{css_colors, css_names, names_of, hex_bytes, with_alpha, hex_color}
use Rattle.colors.specs.Css.{color_of, named_color, color_bytes, answered, coloring}
use Rattle.colors.proofs.NameLaws.{true_is_false, names_are, css_clip, named-found}

-- ---- names

pub named_front : (s front : List ℕ) → front ≡ take 24 (lowered s) → color_of (under css_colors front) ≡ named_color s
unfolding named_color
named_front s front q = rw q (ap color_of (css_clip (lowered s)))

-- ---- strings

module _ (s : List ℕ) (b : ℕ) (e : b ≡ at s 0) where
  pub bytes-hex : (digits : List ℕ) → b ≡ 35 → digits ≡ part s 1 (length s) → hex_color digits ≡ color_bytes s
  unfolding color_bytes
  bytes-hex digits h q =
      let d : digits ≡ drop 1 s = q ∙ take_all (length s) (drop 1 s) (rw length-drop (omega arith)) in
      rw (d, eq-eqb (at s 0) 35 (sym e ∙ h))

  pub bytes_name : (b ≡ 35 → ⊥) → named_color s ≡ color_bytes s
  unfolding color_bytes
  bytes_name h = rw (ne_eqb (at s 0) 35 (λ z. h (e ∙ z)))

named_is : (s : List ℕ) → eqb (at s 0) 35 ≡ false → is_some (named_color s) ≡ is_color css_names s
unfolding named_color is_color_of css_names
named_is s h = rw h (named-found css_colors 0 (lowered s))

hex_is : (s : List ℕ) → eqb (at s 0) 35 ≡ true → is_some (hex_color (drop 1 s)) ≡ is_color css_names s
unfolding hex_color is_color_of
hex_is s h = rw h (go (is_hex_color (drop 1 s)) (with_alpha (hex_bytes (drop 1 s))))
  where
    go : (t : Bool) (bs : List ℕ) → is_some (cond t (some bs) none) ≡ t
    go true bs = refl
    go false bs = refl

-- ---- lists

pub first-list : (list : ℕ) (s : List ℕ) → list ≡ 1 → is_color colors s ≡ is_color (names_of list) s
unfolding names_of
first-list list s h = rw h

pub second_list : (list : ℕ) (s : List ℕ) → (list ≡ 1 → ⊥) → is_color_of (list_of CssColors) s ≡ is_color (names_of list) s
unfolding names_of
second_list list s h = rw (ne_eqb list 1 h, names_are)

-- ---- the four bytes

pub color_given : (s : List ℕ) {bs : List ℕ} → some bs ≡ color_bytes s → (Accepted, bs) ≡ coloring s
unfolding coloring
color_given s h = rw (← h)

pub color_refused : (s : List ℕ) → none ≡ color_bytes s → (Refused InvalidColor 0, 0 ∷ 0 ∷ 0 ∷ 0 ∷ []) ≡ coloring s
unfolding coloring
color_refused s h = rw (← h)

bytes_agree : (s : List ℕ) → is_some (color_bytes s) ≡ is_color css_names s
unfolding color_bytes
bytes_agree s = go (eqb (at s 0) 35) refl
  where
    go : (t : Bool) → eqb (at s 0) 35 ≡ t → is_some (cond t (hex_color (drop 1 s)) (named_color s)) ≡ is_color css_names s
    go true h = hex_is s h
    go false h = named_is s h

abbrev accepts : CheckAnswer → Bool
accepts Accepted = true
accepts (Refused r p) = false

-- a string is given its four bytes exactly if it is one of the standard's colours
pub accepted_exactly : (s : List ℕ)
    → ((coloring s).0 ≡ Accepted → is_color css_names s ≡ true) × (is_color css_names s ≡ true → (coloring s).0 ≡ Accepted)
unfolding coloring
accepted_exactly s = go (color_bytes s) (bytes_agree s)
  where
    go : (x : Option (List ℕ)) → is_some x ≡ is_color css_names s
        → ((answered x).0 ≡ Accepted → is_color css_names s ≡ true) × (is_color css_names s ≡ true → (answered x).0 ≡ Accepted)
    go none e = (λ h. absurd (true_is_false (sym (ap accepts h))), λ h. absurd (true_is_false (sym (e ∙ h))))
    go (some bs) e = (λ h. sym e, λ h. refl)
