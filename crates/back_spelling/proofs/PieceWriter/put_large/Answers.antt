-- `back_spelling::PieceWriter::put_large` meets its contract.
use mathlib.Core.List.{List, ◌++◌}
use mathlib.Core.Path.{◌≡◌, sym, ap, ◌∙◌}
use Prim.Native.Nat.{ℕ, ◌<◌}
use native.Mathlib.Nat.{lt_of_lt_of_le}
use native.Mathlib.Omega.{arith}
use lib.Dec.{lit≤}
use Rattle.digits.specs.Fewest.{whole_digits, last_digits}
use Rattle.back_spelling.specs.Means.{put_on, page_of}
use Rattle.back_spelling.proofs.PageLaws.{put_both}
use Rattle.back_spelling.proofs.NumberLaws.{two_parts, three-parts}
use Rattle.back_spelling.proofs.PieceWriter.put_large.Goals as goal

positive : (n : ℕ) → (n ≡ 0 → ⊥) → 0 < n
positive n h = omega arith

pub returns-then-d-eq0 : goal.returns-then-d-eq0
returns-then-d-eq0 c =
    let d = c.args.d in
    let p = page_of c.args.self.now in
    c.put_last.ensures
    ∙ ap (put_on (last_digits 18 d.n)) (c.put_whole.ensures 21 (lt_of_lt_of_le c.requires.middle (lit≤ tt)))
    ∙ put_both (whole_digits 21 d.middle) (last_digits 18 d.n) p
    ∙ ap (λ (z : List ℕ). put_on z p) (sym (two_parts d c.requires c.if-d-eq0.true))

pub returns : goal.returns
returns c =
    let d = c.args.d in
    let p = page_of c.args.self.now in
    let h = whole_digits 3 d.high in
    let m = last_digits 18 d.middle in
    c.put_last-3.ensures
    ∙ ap (put_on (last_digits 18 d.n))
    (c.put_last-2.ensures ∙ ap (put_on m) (c.put_whole-2.ensures 3 c.requires.high) ∙ put_both h m p)
    ∙ put_both (h ++ m) (last_digits 18 d.n) p
    ∙ ap (λ (z : List ℕ). put_on z p) (sym (three-parts d c.requires (positive d.high c.if-d-eq0.false)))
