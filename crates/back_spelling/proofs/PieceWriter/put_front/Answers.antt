-- `back_spelling::PieceWriter::put_front` meets its contract.
use mathlib.Core.Logic.{◌⊎◌, ⊎_elim}
use mathlib.Core.Path.{◌≡◌, sym, ap, ◌∙◌}
use Prim.Native.Nat.{ℕ, ◌+◌, ◌/◌, ◌^◌, ◌<◌}
use native.Mathlib.Nat.{add-zero, div-one, div-eq_of_lt, lt_of_lt_of_le, pow-le-pow_right, eq-zero-or-pos}
use native.Mathlib.Omega.{arith}
use lib.Dec.{lit<}
use Rattle.digits.specs.AnswerMeans.{whole_number, Neat}
use Rattle.digits.specs.declared.Decimal.{Decimal}
use Rattle.digits.specs.Fewest.{whole_digits}
use Rattle.digits.proofs.NumeralLaws.{ten_pos}
use Rattle.back_spelling.specs.Means.{put_on, page_of}
use Rattle.back_spelling.proofs.PieceWriter.put_front.Goals as goal

-- with more than 9 places nothing stands before the point
no_whole : (d : Decimal) → Neat d → 9 < d.places → whole_number d / 10 ^ d.places ≡ 0
no_whole d n h =
    let e = n.parts (low d.places h) in
    let f : whole_number d ≡ d.n = rw (e.0, e.1, add-zero) in
    ap (λ (z : ℕ). z / 10 ^ d.places) f ∙ div-eq_of_lt (lt_of_lt_of_le (n.far h) (pow-le-pow_right {n = 10} (lit< tt) h))
  where
    low : (p : ℕ) → 9 < p → 0 < p
    low p h = omega arith

some_part : (a b : ℕ) → ((a ≡ 0) × (b ≡ 0 → ⊥)) ⊎ (a ≡ 0 → ⊥) → 0 < a + b
some_part a b h = ⊎_elim (λ (x : (a ≡ 0) × (b ≡ 0 → ⊥)). positive a b x.1) (λ (x : a ≡ 0 → ⊥). omega arith) h
  where
    positive : (a b : ℕ) → (b ≡ 0 → ⊥) → 0 < a + b
    positive a b h = omega arith

-- several parts are a whole number
all_whole : (d : Decimal) → Neat d → 0 < d.middle + d.high → whole_number d / 10 ^ d.places ≡ whole_number d
all_whole d n h =
    ⊎_elim (λ (e : d.places ≡ 0). ap (λ (z : ℕ). whole_number d / 10 ^ z) e ∙ div-one (whole_number d))
    (λ (g : 0 < d.places). let z = n.parts g in absurd (no d.middle d.high z.0 z.1 h)) (eq-zero-or-pos d.places)
  where
    no : (a b : ℕ) → a ≡ 0 → b ≡ 0 → 0 < a + b → ⊥
    no a b e f k = omega arith

pub returns-then-d-gt9 : goal.returns-then-d-gt9
returns-then-d-gt9 c =
    let d = c.args.d in
    c.put_whole.ensures 39 (lit< tt)
    ∙ ap (λ (z : ℕ). put_on (whole_digits 39 z) (page_of c.args.self.now))
    (sym (no_whole d c.requires.0 c.if-d-gt9.true))

pub nonzero_div-d : goal.nonzero_div-d
nonzero_div-d c =
    let d = c.args.d in
    let h = ten_pos d.places in
    omega (arith, c.ten_to.ensures)

pub returns : goal.returns
returns c =
    let d = c.args.d in
    c.put_large.ensures
    ∙ ap (λ (z : ℕ). put_on (whole_digits 39 z) (page_of c.args.self.now))
    (sym (all_whole d c.requires.0 (some_part d.middle d.high c.else-d-eq0.either)))
