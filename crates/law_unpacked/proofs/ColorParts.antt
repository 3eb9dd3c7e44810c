-- The four bytes of a colour are below 256, so that none is cut in a packed answer.
use Prim.Native.Nat.{ℕ, zero, suc, ◌+◌, ◌-◌, ◌<◌}
use Prim.Native.String.{String}
use mathlib.Core.Bool.{Bool, true, false, ◌&&◌, cond}
use mathlib.Core.List.{List, [], ◌∷◌}
use mathlib.Core.Option.{Option, none, some}
use mathlib.Core.Path.{◌≡◌, refl}
use native.Mathlib.Omega.{arith}
use lib.Dec.{eqb, leb, ltb}
use lib.ListN.{drop, get_or}
use borrow.Author.Tests.{leb-true, ltb-true}
use Rattle.text.specs.Bytes.{at, bytes, is_digit, lowered, same, within}
use Rattle.text.specs.Words.{under}
use Rattle.token.proofs.WholeLaws.{both}
use Rattle.presets.specs.Colors.{is_hex_color}
use Rattle.colors.specs.Css.{css_colors, digit, hex_bytes, paired, with_alpha, hex_color, three_bytes, color_of}
use Rattle.colors.specs.Css.{named_color, color_bytes, answered, coloring}
use Rattle.error.specs.Refusal.{number_of}
use Rattle.error.specs.declared.Refusal.TheVariants.{InvalidColor}
use Rattle.error.specs.declared.CheckAnswer.{CheckAnswer}
use Rattle.error.specs.declared.CheckAnswer.TheVariants as check
use Rattle.packed.specs.Packed.{color_outcome, number_in, value_in, byte_in}
use Rattle.packed.proofs.PackedLaws.{refusal-number, refusal-place}

-- ---- bytes

abbrev Small : List ℕ → Type 0
Small [] = Unit {0}
Small (b ∷ bs) = (b < 256) × Small bs

abbrev SmallIf : Option (List ℕ) → Type 0
SmallIf none = Unit {0}
SmallIf (some bs) = Small bs

small_at : (d : ℕ) → d < 256 → (bs : List ℕ) (i : ℕ) → Small bs → get_or bs i d < 256
small_at d e [] i h = e
small_at d e (b ∷ bs) zero h = h.0
small_at d e (b ∷ bs) (suc i) h = small_at d e bs i h.1

alpha_small : (bs : List ℕ) → Small bs → Small (with_alpha bs)
alpha_small bs h =
    let k : (i : ℕ) → get_or bs i 255 < 256 = λ i. small_at 255 (omega arith) bs i h in
    (k 0, (k 1, (k 2, (k 3, tt))))

either_small : (b : Bool) (x y : Option (List ℕ)) → SmallIf x → SmallIf y → SmallIf (cond b x y)
either_small true x y h g = h
either_small false x y h g = g

-- ---- digits

digit_small : (b : ℕ) → digit b < 16
digit_small b = decimal (is_digit b) refl
  where
    capital : (c : Bool) → within 65 70 b ≡ c → cond c (b - 65 + 10) 0 < 16
    capital true e = let h = both (leb 65 b) (leb b 70) e in omega (arith, leb-true b 70 h.1)
    capital false e = omega arith

    letter : (c : Bool) → within 97 102 b ≡ c → cond c (b - 97 + 10) (cond (within 65 70 b) (b - 65 + 10) 0) < 16
    letter true e = let h = both (leb 97 b) (leb b 102) e in omega (arith, leb-true b 102 h.1)
    letter false e = capital (within 65 70 b) refl

    decimal : (c : Bool) → is_digit b ≡ c
        → cond c (b - 48) (cond (within 97 102 b) (b - 97 + 10) (cond (within 65 70 b) (b - 65 + 10) 0)) < 16
    decimal true e = let h = both (leb 48 b) (leb b 57) e in omega (arith, leb-true b 57 h.1)
    decimal false e = letter (within 97 102 b) refl

paired_small : (t : List ℕ) → Small (paired t)
unfolding paired
paired_small [] = tt
paired_small (a ∷ []) = tt
paired_small (a ∷ b ∷ t) = (omega (arith, digit_small a, digit_small b), paired_small t)

hex_small : (t : List ℕ) → SmallIf (hex_color t)
unfolding hex_color hex_bytes
hex_small t = either_small (is_hex_color t) (some (with_alpha (hex_bytes t))) none (alpha_small (hex_bytes t) (paired_small _)) tt

-- ---- names

unfoldable values_below : List (String × ℕ) → Bool
values_below [] = true
values_below (c ∷ cs) = ltb c.1 16777216 && values_below cs

three_small : (v : ℕ) → v < 16777216 → Small (three_bytes v)
three_small v h = (omega arith, (omega arith, (omega arith, tt)))

under_small : (cs : List (String × ℕ)) (w : List ℕ) → values_below cs ≡ true → SmallIf (color_of (under cs w))
unfolding under values_below
under_small [] w h = tt
under_small (c ∷ cs) w h =
    let b = both (ltb c.1 16777216) (values_below cs) h in
    go (same w (bytes c.0)) (ltb-true c.1 16777216 b.0) (under_small cs w b.1)
  where
    go : (b : Bool) → c.1 < 16777216 → SmallIf (color_of (under cs w))
        → SmallIf (color_of (elim b [ true ↦ some c.1 | false ↦ under cs w ]))
    go true e g = alpha_small (three_bytes c.1) (three_small c.1 e)
    go false e g = g

table_below : values_below css_colors ≡ true
unfolding values_below css_colors
table_below = refl

named_small : (s : List ℕ) → SmallIf (named_color s)
unfolding named_color
named_small s = under_small css_colors (lowered s) table_below

-- ---- the answer

abbrev pub ColorParts : CheckAnswer × List ℕ → ℕ → Type 0
ColorParts (check.Accepted, bs) w =
    (number_in w ≡ 0) × (byte_in 24 w ≡ get_or bs 0 0) × (byte_in 16 w ≡ get_or bs 1 0) × (byte_in 8 w ≡ get_or bs 2 0) × (byte_in 0 w ≡ get_or bs 3 0)
ColorParts (check.Refused r p, bs) w = (number_in w ≡ number_of r) × (value_in w ≡ p)

pub color_parts : (s : List ℕ) → ColorParts (coloring s) (color_outcome (coloring s))
unfolding coloring color_bytes
color_parts s =
    by (color_bytes s) (either_small (eqb (at s 0) 35) (hex_color (drop 1 s)) (named_color s) (hex_small (drop 1 s)) (named_small s))
  where
    by : (o : Option (List ℕ)) → SmallIf o → ColorParts (answered o) (color_outcome (answered o))
    by none h = (refusal-number InvalidColor 0, refusal-place InvalidColor 0 (omega arith))
    by (some bs) h =
        let k : (i : ℕ) → get_or bs i 0 < 256 = λ i. small_at 0 (omega arith) bs i h in
        let a = k 0 in
        let b = k 1 in
        let c = k 2 in
        let d = k 3 in (
          omega (arith, a, b, c, d),
          omega (arith, a, b, c, d),
          omega (arith, a, b, c, d),
          omega (arith, a, b, c, d),
          omega (arith, a, b, c, d),
        )
