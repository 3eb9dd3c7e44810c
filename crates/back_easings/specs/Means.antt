-- Fields in parentheses, put one by one: what contracts speak of.
use Rattle.std.specs.Prelude.{Bool, true, false, ◌&&◌, List, ◌∷◌, ◌≡◌, ℕ}
use Rattle.std.proofs.Math.Option.{Option, none, some}
use Rattle.pieces.specs.Pieces.{Piece}
use Rattle.fresh.specs.Fresh.{Writer, Pair, spell, mark, f32, pairs, more_pairs, unless}
use Rattle.back_spelling.specs.Means.{Page, run}

abbrev pub comma_unless : Bool → Writer
comma_unless true ps = ps
comma_unless false ps = mark "," ∷ ps

-- fields of which the first stands first in the parentheses, or not
abbrev pub pairs_by : Bool → List Pair → Writer
pairs_by true = pairs
pairs_by false = more_pairs

-- a field has been put, unless it was to be omitted: whatever fields and pieces follow
pub record PairPut (first omitted : Bool) (f : Pair) (p q : Page) : Type 0 where
  pub is : (fs : List Pair) (ps : List Piece) → run (pairs_by first (unless omitted f fs) ps) p ≡ run (pairs_by (first && omitted) fs ps) q

-- `delay`, behind a pattern or not
abbrev pub delay_by : Bool → Option ℕ → Writer
delay_by first none ps = ps
delay_by first (some d) ps = comma_unless first (spell "delay" ∷ mark ":" ∷ f32 d ps)
