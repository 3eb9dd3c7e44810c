-- 02 (f): "no text under 01's rules, its length limit set aside, reads to that tree": when a text reads to one.
use Rattle.std.specs.Prelude.{ℕ, zero, suc, List, ◌≡◌, length}
use Rattle.std.proofs.Math.Option.{none}
use Rattle.number.specs.Time.{Key}
use Rattle.token.specs.Token.{Token}
use Rattle.token.specs.Split.{tokens, split}
use Rattle.ast.specs.Tree.{Nodes}
use Rattle.grammar.specs.Rule.{Notes, got}
use Rattle.grammar.specs.Grammar.{stored, animato_input}
use Rattle.fresh.specs.Meaning.{Sense, no_nodes, leaf, box, sense}

-- what a reader notes at first, as reading has it
abbrev pub start : List ℕ → Notes
start u = record { leftover = none; rounded = 0; bound = suc (length u) }

-- the text u splits into tokens, of which the grammar makes a tree with that sense and has no leftover
pub record ReadsTo (u : List ℕ) (x : Sense) : Type 0 where
  pub cut : List Token
  pub splits : split u ≡ tokens cut
  pub tree : Nodes Key
  pub notes : Notes
  pub left : List Token
  pub gives : animato_input (start u) cut ≡ got tree notes left
  pub whole : notes.leftover ≡ none
  pub same : sense stored u tree ≡ x

-- ---- nesting

abbrev pub below : (ℕ → Type 0) → ℕ → Type 0
below P zero = ⊥
below P (suc d) = P d

-- at most d containers are around each other
abbrev pub Deep : ℕ → Sense → Type 0
Deep d no_nodes = Unit {0}
Deep d (leaf l rest) = Deep d rest
Deep d (box b inner rest) = below (λ e. Deep e inner) d × Deep d rest
