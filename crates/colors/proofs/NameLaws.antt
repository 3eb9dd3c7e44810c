-- Laws of names: the place of a name in the code's list tells its colour.
use Prim.Native.Nat.{ℕ, zero, suc, ◌+◌, ◌-◌, ◌≤◌, ◌<◌}
use Prim.Native.String.{String}
use mathlib.Core.Bool.{Bool, true, false}
use mathlib.Core.List.{List, [], ◌∷◌}
use mathlib.Core.Option.{Option, none, some}
use mathlib.Core.Path.{◌≡◌, refl, sym, ap, ◌∙◌}
use native.Mathlib.Nat.{sub-zero}
use native.Mathlib.Omega.{arith}
use lib.Dec.{ltb}
use lib.ListN.{length, get_or, take}
use borrow.Author.Tests.{ltb-true}
use Rattle.std.specs.Prelude as rust
use Rattle.text.specs.Bytes.{bytes, same}
use Rattle.text.specs.Words.{is_some, find, under, words}
use Rattle.text.proofs.WordLaws.{find-here, find_past}
use Rattle.words.specs.declared.List.TheVariants.{CssColors}
use Rattle.words.specs.ListMeans.{list_of}
use Rattle.words.specs.KeyMeans.{place_is}
use Rattle.words.proofs.ListLaws.{list_clip}
use Rattle.words.proofs.KeyLaws.{every, both, place_some, place_none}
use Rattle.colors.specs.Css.{css_colors, css_names, names_in, color_of}
use Rattle.colors.specs.Means.{values_in}

pub true_is_false : true ≡ false → ⊥
true_is_false h = let z : ◌≡◌ {A = ℕ} 0 1 = cc in omega arith

-- the code's list has the standard's names: computed
pub names_are : list_of CssColors ≡ words css_names
unfolding list_of css_names css_colors
names_are = refl

-- ---- rows of names and numbers

module _ (c : String × ℕ) (cs : List (String × ℕ)) (w : List ℕ) where
  named_here : same w (bytes c.0) ≡ true → under (c ∷ cs) w ≡ some c.1
  unfolding under
  named_here h = rw (h, under)

  named_past : same w (bytes c.0) ≡ false → under (c ∷ cs) w ≡ under cs w
  unfolding under
  named_past h = rw (h, under)

-- the number at a place, counted from j
abbrev value_at : List (String × ℕ) → ℕ → Option ℕ → Option ℕ
value_at cs j none = none
value_at cs j (some i) = some (get_or (values_in cs) (i - j) 0)

-- a place among n, counted from j
abbrev Inside : ℕ → ℕ → Option ℕ → Type 0
Inside j n none = Unit {0}
Inside j n (some i) = (j ≤ i) × (i < j + n)

-- the number x is at the place o of a colour, or neither is there
abbrev Placed : List (String × ℕ) → ℕ → Option ℕ → Option ℕ → Type 0
Placed cs j x o = (x ≡ value_at cs j o) × Inside j (length cs) o

module _ (c : String × ℕ) (cs : List (String × ℕ)) (j : ℕ) (x : Option ℕ) where
  first : x ≡ some c.1 → Placed (c ∷ cs) j x (some j)
  unfolding values_in
  first q = let e : j - j ≡ 0 = omega arith in (rw e q, (omega arith, omega arith))

  later : (o : Option ℕ) → Placed cs (suc j) x o → Placed (c ∷ cs) j x o
  unfolding values_in
  later none p = (p.0, tt)
  later (some i) p = let e : i - j ≡ suc (i - suc j) = omega arith in (rw e p.0, (omega arith, omega arith))

-- what stands for a name is the number at its place
by_place : (cs : List (String × ℕ)) (j : ℕ) (w : List ℕ) → Placed cs j (under cs w) (find (words (names_in cs)) j w)
unfolding under find
by_place [] j w = (refl, tt)
by_place (c ∷ cs) j w = go (same w (bytes c.0)) refl (by_place cs (suc j) w)
  where
    go : (t : Bool) → same w (bytes c.0) ≡ t → Placed cs (suc j) (under cs w) (find (words (names_in cs)) (suc j) w)
        → Placed (c ∷ cs) j (under (c ∷ cs) w) (find (words (names_in (c ∷ cs))) j w)
    go true h p = rw (find-here w (bytes c.0) (words (names_in cs)) j h) (first c cs j _ (named_here c cs w h))
    go false h p =
        rw (find_past w (bytes c.0) (words (names_in cs)) j h, named_past c cs w h)
        (later c cs j (under cs w) (find (words (names_in cs)) (suc j) w) p)

-- ---- the standard's

module _ (r : rust.Option ℕ) (w : List ℕ) (h : place_is r ≡ find (list_of CssColors) 0 w) where
  css_found : (i : ℕ) → r ≡ rust.Some i → find (words (names_in css_colors)) 0 w ≡ some i
  unfolding css_names
  css_found i e = rw names_are at (place_some i h e)

  pub css_inside : (i : ℕ) → r ≡ rust.Some i → i < 148
  unfolding css_colors
  css_inside i e = (rw (css_found i e) at (by_place css_colors 0 w).1).1

  pub css_at : (i : ℕ) → r ≡ rust.Some i → color_of (some (get_or (values_in css_colors) i 0)) ≡ color_of (under css_colors w)
  css_at i e = let p = rw (css_found i e) at (by_place css_colors 0 w).0 in rw (p, sub-zero)

  pub css_none : r ≡ rust.None → none ≡ color_of (under css_colors w)
  unfolding css_names
  css_none e = rw ((by_place css_colors 0 w).0, (rw names_are at (place_none h e)))

-- of a name the first 24 bytes decide
pub css_clip : (w : List ℕ) → under css_colors (take 24 w) ≡ under css_colors w
unfolding css_names
css_clip w =
    (by_place css_colors 0 (take 24 w)).0
    ∙ ap (value_at css_colors 0) (rw names_are at (list_clip CssColors w))
    ∙ sym (by_place css_colors 0 w).0

-- a colour's number has three bytes: computed
small : every (λ (v : ℕ). ltb v 16777216) (values_in css_colors) ≡ true
unfolding every values_in css_colors
small = refl

small_at : (vs : List ℕ) (i : ℕ) → every (λ (v : ℕ). ltb v 16777216) vs ≡ true → get_or vs i 0 < 16777216
unfolding every
small_at [] i h = omega arith
small_at (v ∷ vs) zero h = ltb-true v 16777216 (both (ltb v 16777216) _ h).0
small_at (v ∷ vs) (suc i) h = small_at vs i (both (ltb v 16777216) _ h).1

pub value_small : (i v : ℕ) → v ≡ get_or (values_in css_colors) i 0 → v < 16777216
value_small i v e = rw e (small_at (values_in css_colors) i small)

-- a name is found among the names exactly if it stands for a colour
pub named-found : (cs : List (String × ℕ)) (i : ℕ) (w : List ℕ) → is_some (color_of (under cs w)) ≡ is_some (find (words (names_in cs)) i w)
named-found cs i w = rw (by_place cs i w).0 (go (find (words (names_in cs)) i w))
  where
    go : (o : Option ℕ) → is_some (color_of (value_at cs i o)) ≡ is_some o
    go none = refl
    go (some j) = refl
