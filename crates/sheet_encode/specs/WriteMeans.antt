-- Writing bytes over a list that keeps its length.
use Rattle.std.specs.Prelude.{ℕ, ◌+◌, List, ◌≡◌, length}
use Rattle.std.proofs.lemmas.List.Edits.{sets}

-- bs written over out from a place on. Past the end nothing is written, while the place goes on counting.
pub record Writes (out : List ℕ) (at : ℕ) (bs : List ℕ) (after : List ℕ) (end : ℕ) : Type 0 where
  pub bytes : after ≡ sets out at bs
  pub place : end ≡ at + length bs
