-- Laws of hexadecimal digits and of the bytes that they write.
use Prim.Native.Nat.{ℕ, zero, suc, ◌+◌, ◌*◌, ◌-◌, ◌≤◌, ◌<◌}
use mathlib.Core.Bool.{Bool, true, false, cond}
use mathlib.Core.List.{List, [], ◌∷◌, ◌++◌, append-nil}
use mathlib.Core.Option.{none, some}
use mathlib.Core.Path.{◌≡◌, refl, sym, ap, ◌∙◌}
use native.Mathlib.Omega.{arith}
use lib.ListN.{length, get_or, drop_of_length-le}
use lib.Seq.{sets, sets-eq}
use borrow.Author.Tests.{le-leb, lt-leb, lt-ltb, le-ltb}
use Rattle.text.specs.Bytes.{within}
use Rattle.text.proofs.ByteLaws.{within_is}
use Rattle.presets.specs.Colors.{is_hex_color}
use Rattle.colors.specs.Css.{digit, pair, paired, doubled, hex_bytes, written, with_alpha, hex_color}

-- ---- a digit

within-below : (lo hi b : ℕ) → b < lo → within lo hi b ≡ false
within-below lo hi b h = rw (lt-leb lo b h)

within_above : (lo hi b : ℕ) → lo ≤ b → hi < b → within lo hi b ≡ false
within_above lo hi b h g = rw (le-leb lo b h, lt-leb b hi g)

module _ (b : ℕ) where
  pub digit-decimal : 48 ≤ b → b ≤ 57 → b - 48 ≡ digit b
  digit-decimal h g = rw (le-leb 48 b h, le-leb b 57 g)

  pub digit_capital : 65 ≤ b → b ≤ 70 → b - 65 + 10 ≡ digit b
  digit_capital h g =
      rw (within_above 48 57 b (omega arith) (omega arith), within-below 97 102 b (omega arith), le-leb 65 b h, le-leb b 70 g)

  pub digit_small : 97 ≤ b → b ≤ 102 → b - 97 + 10 ≡ digit b
  digit_small h g = rw (within_above 48 57 b (omega arith) (omega arith), le-leb 97 b h, le-leb b 102 g)

  -- in front of the digits, between them and behind them
  pub digit_front : b < 48 → 0 ≡ digit b
  digit_front h = rw (within-below 48 57 b h, within-below 97 102 b (omega arith), within-below 65 70 b (omega arith))

  pub digit-first : 57 < b → b < 65 → 0 ≡ digit b
  digit-first h g = rw (within_above 48 57 b (omega arith) h, within-below 97 102 b (omega arith), within-below 65 70 b g)

  pub digit_between : 70 < b → b < 97 → 0 ≡ digit b
  digit_between h g =
      rw (within_above 48 57 b (omega arith) (omega arith), within-below 97 102 b g, within_above 65 70 b (omega arith) h)

  pub digit-behind : 102 < b → 0 ≡ digit b
  digit-behind h =
      rw (
        within_above 48 57 b (omega arith) (omega arith),
        within_above 97 102 b (omega arith) h,
        within_above 65 70 b (omega arith) (omega arith),
      )

  pub digit_small_number : digit b < 16
  digit_small_number = go (within 48 57 b) (within 97 102 b) (within 65 70 b) refl refl refl
    where
      go : (x y z : Bool) → within 48 57 b ≡ x → within 97 102 b ≡ y → within 65 70 b ≡ z
          → cond x (b - 48) (cond y (b - 97 + 10) (cond z (b - 65 + 10) 0)) < 16
      go true y z e f g = omega (arith, within_is 48 57 b e)
      go false true z e f g = omega (arith, within_is 97 102 b f)
      go false false true e f g = omega (arith, within_is 65 70 b g)
      go false false false e f g = omega arith

-- ---- the bytes that digits write

doubled-at : (t : List ℕ) (i : ℕ) → i < length t → written (paired (doubled t)) i ≡ pair (get_or t i 0) (get_or t i 0)
unfolding paired doubled
doubled-at [] i h = absurd (omega arith)
doubled-at (a ∷ t) zero h = refl
doubled-at (a ∷ t) (suc i) h = doubled-at t i (omega arith)

doubled_end : (t : List ℕ) (i : ℕ) → length t ≤ i → written (paired (doubled t)) i ≡ 255
unfolding paired doubled
doubled_end [] i h = refl
doubled_end (a ∷ t) zero h = absurd (omega arith)
doubled_end (a ∷ t) (suc i) h = doubled_end t i (omega arith)

paired_at : (t : List ℕ) (i : ℕ) → 2 * i + 1 < length t → written (paired t) i ≡ pair (get_or t (2 * i) 0) (get_or t (2 * i + 1) 0)
unfolding paired
paired_at [] i h = absurd (omega arith)
paired_at (a ∷ []) i h = absurd (omega arith)
paired_at (a ∷ b ∷ t) zero h = refl
paired_at (a ∷ b ∷ t) (suc i) h =
    let e : 2 * suc i ≡ suc (suc (2 * i)) = omega arith in
    let f : 2 * suc i + 1 ≡ suc (suc (2 * i + 1)) = omega arith in
    rw (f, e) (paired_at t i (omega arith))

paired_end : (t : List ℕ) (i : ℕ) → length t ≤ 2 * i + 1 → written (paired t) i ≡ 255
unfolding paired
paired_end [] i h = refl
paired_end (a ∷ []) i h = refl
paired_end (a ∷ b ∷ t) zero h = absurd (omega arith)
paired_end (a ∷ b ∷ t) (suc i) h = paired_end t i (omega arith)

module _ (t : List ℕ) (i : ℕ) where
  pub few_at : length t < 6 → i < length t → pair (get_or t i 0) (get_or t i 0) ≡ written (hex_bytes t) i
  unfolding hex_bytes
  few_at h g = rw (lt-ltb (length t) 6 h) (sym (doubled-at t i g))

  pub few_end : length t < 6 → length t ≤ i → 255 ≡ written (hex_bytes t) i
  unfolding hex_bytes
  few_end h g = rw (lt-ltb (length t) 6 h) (sym (doubled_end t i g))

  pub many-at : 6 ≤ length t → 2 * i + 1 < length t → pair (get_or t (2 * i) 0) (get_or t (2 * i + 1) 0) ≡ written (hex_bytes t) i
  unfolding hex_bytes
  many-at h g = rw (le-ltb (length t) 6 h) (sym (paired_at t i g))

  pub many_end : 6 ≤ length t → length t ≤ 2 * i + 1 → 255 ≡ written (hex_bytes t) i
  unfolding hex_bytes
  many_end h g = rw (le-ltb (length t) 6 h) (sym (paired_end t i g))

-- ---- what stands behind a `#`

pub hex_color_lem : (t : List ℕ) → is_hex_color t ≡ true → some (with_alpha (hex_bytes t)) ≡ hex_color t
unfolding hex_color
hex_color_lem t h = rw h

pub no_hex_color : (t : List ℕ) → is_hex_color t ≡ false → none ≡ hex_color t
unfolding hex_color
no_hex_color t h = rw h

-- ---- a whole list written anew

pub sets_whole : (l vs : List ℕ) → length l ≡ length vs → sets l 0 vs ≡ vs
sets_whole l vs e =
    sets-eq vs l 0 (omega arith)
    ∙ ap (λ (r : List ℕ). vs ++ r) (drop_of_length-le l {i = 0 + length vs} (omega arith)) ∙ append-nil vs
