-- What reading gives for a text, whatever scratch and sheet are lent.
use Rattle.std.specs.Prelude.{ℕ, ◌-◌, ◌≤◌, List, ◌++◌, ◌≡◌, length, replicate}
use Rattle.std.proofs.Math.Option.{some}
use Rattle.ast.specs.Tree.{KeyframeTime}
use Rattle.sheet.specs.Sheet.{Forest, decode}
use Rattle.reading.specs.Reading.{reading, scratch_words}
use Rattle.error.specs.declared.ReadAnswer.TheVariants.{Accepted}
use Rattle.fresh.specs.Meaning.{Sense, sense}

-- With every scratch and sheet slice large enough reading accepts u, and the sheet that it gives holds a tree with the sense x.
pub record Given (u : List ℕ) (x : Sense) : Type 0 where
  -- the sheet, its count of node records and that of the rounded numbers
  pub sheet : List ℕ
  pub count : ℕ
  pub rounded : ℕ
  pub small : length sheet ≤ 49152
  pub accepts : (scratch room : List ℕ) → scratch_words ≤ length scratch → length sheet ≤ length room
      → reading u scratch room
      ≡ (
        Accepted (length sheet) count rounded,
        replicate (length scratch) 0,
        sheet ++ replicate (length room - length sheet) 0,
      )
  -- "the same tree: equal values bit for bit, equal names and strings, though starts may differ"
  pub tree : Forest
  pub decodes : decode (length u) sheet ≡ some tree
  pub same : sense (λ (k : KeyframeTime). k) u tree ≡ x
