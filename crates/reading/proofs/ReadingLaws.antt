-- Laws of reading's order and of its buffers.
use Prim.Native.Nat.{ℕ, ◌-◌, ◌≤◌, ◌<◌}
use mathlib.Core.Bool.{Bool, true, false, cond}
use mathlib.Core.List.{List, [], ◌++◌}
use mathlib.Core.Option.{none, some}
use mathlib.Core.Path.{◌≡◌, refl, sym, ap, ◌∙◌}
use native.Mathlib.Nat.{sub-zero}
use native.Mathlib.Omega.{arith}
use borrow.Author.Tests.{le-ltb, lt-ltb}
use lib.Dec.{ltb}
use lib.ListN.{length, replicate}
use Rattle.text.specs.Limits.{text_limit}
use Rattle.token.specs.Split.{unlexed, split}
use Rattle.ast.specs.Tree.{map_times, records}
use Rattle.sheet.specs.Sheet.{encode}
use Rattle.grammar.specs.Grammar.{stored}
use Rattle.error.specs.declared.Refusal.{Refusal}
use Rattle.error.specs.declared.Refusal.TheVariants.{ScratchTooShort, SheetTooShort}
use Rattle.error.specs.declared.ReadAnswer.{ReadAnswer}
use Rattle.error.specs.declared.ReadAnswer.TheVariants.{Accepted, Refused}
use Rattle.reading.specs.Reading.{Parsed, tree, wrong, parsed, parse, answered, scratch_words, early, cleared, unless_early, reading}

-- "2 to 5 .., then 6 to 12": what does not split is refused there
pub unlexed_first : (t : List ℕ) (r : Refusal) (p : ℕ) → split t ≡ unlexed r p → parse t ≡ wrong r p
unfolding parse
unlexed_first t r p e = ap (parsed (length t)) e

-- 02 (j): "16 now means fewer than 64 words"
module _ (size words : ℕ) (short : size ≤ text_limit) where
  pub few_words : words < 64 → early size words ≡ some ScratchTooShort
  unfolding early
  few_words h = rw (le-ltb text_limit size short, lt-ltb words scratch_words h)

  pub enough_words : 64 ≤ words → early size words ≡ none
  unfolding early
  enough_words h = rw (le-ltb text_limit size short, le-ltb words scratch_words h)

-- a refusal has no bytes
fitting_none : (b : Bool) (bs : List ℕ) (n k : ℕ) (r : Refusal) (p : ℕ)
    → (cond {A = ReadAnswer × List ℕ} b (Refused SheetTooShort 0, []) (Accepted (length bs) n k, bs)).0 ≡ Refused r p
    → (cond {A = ReadAnswer × List ℕ} b (Refused SheetTooShort 0, []) (Accepted (length bs) n k, bs)).1 ≡ []
fitting_none true bs n k r p e = refl
fitting_none false bs n k r p e = absurd (let z : ◌≡◌ {A = ℕ} 0 1 = cc in omega arith)

answered_none : (n room : ℕ) (x : Parsed) (r : Refusal) (p : ℕ) → (answered n room x).0 ≡ Refused r p → (answered n room x).1 ≡ []
answered_none n room (wrong q i) r p e = refl
answered_none n room (tree ns k) r p e =
    let bs = encode n (map_times stored ns) in fitting_none (ltb room (length bs)) bs (records ns) k r p e

module _ (t scratch sheet : List ℕ) (e : early (length t) (length scratch) ≡ none) where
  is_cleared : reading t scratch sheet ≡ cleared scratch sheet (answered (length t) (length sheet) (parse t))
  unfolding reading
  is_cleared = ap (unless_early t scratch sheet) e

  -- "After reading, unless 1 or 16, scratch is all zero"
  pub scratch_zero : (reading t scratch sheet).1 ≡ replicate (length scratch) 0
  scratch_zero = ap (λ x. x.1) is_cleared

  -- "the sheet is .. all zero on a refusal"
  pub sheet-zero : (r : Refusal) (p : ℕ) → (reading t scratch sheet).0 ≡ Refused r p
      → (reading t scratch sheet).2 ≡ replicate (length sheet) 0
  sheet-zero r p q =
      ap (λ x. x.2) is_cleared
      ∙ ap (λ (l : List ℕ). l ++ replicate (length sheet - length l) 0)
      (answered_none (length t) (length sheet) (parse t) r p (sym (ap (λ x. x.0) is_cleared) ∙ q))
      ∙ ap (λ (n : ℕ). replicate n 0) (sub-zero (length sheet))
