-- What the parts of feeding do. Contracts cite this, and no reader needs to believe it.
use Rattle.std.specs.Prelude.{ℕ, suc, ◌≤◌, List, ◌≡◌, length, get_or}
use Rattle.std.proofs.Math.Option.{some}
use Rattle.sheet.specs.Sheet.{Node, Forest, decode}
use Rattle.totals.specs.Totals.{figure_limit, sum_of, added, in_word}
use Rattle.error.specs.declared.CheckAnswer.{CheckAnswer}
use Rattle.feeding.specs.Feed.{node_figure, number_in}

-- 60 words, none above the limit but for the script that is being counted
pub record Words (ws : List ℕ) : Type 0 where
  pub long : length ws ≡ 60
  pub most : (i : ℕ) → get_or ws i 0 ≤ suc figure_limit

-- the bytes are a sheet for a text of n bytes
pub record IsSheet (n : ℕ) (s : List ℕ) : Type 0 where
  pub tree : Forest
  pub decodes : decode n s ≡ some tree

-- what some nodes add to each word
abbrev pub nodes_add : List Node → ℕ → ℕ
nodes_add xs i = sum_of (node_figure i) xs

-- the words after a script that is judged so
abbrev pub judged_add : CheckAnswer → List ℕ → List ℕ
judged_add a ws = added (in_word (number_in a) 1) ws
