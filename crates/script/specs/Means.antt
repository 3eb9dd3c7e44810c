-- What is printed, by the records of a sheet. Contracts cite this, and no reader needs to believe it.
use Rattle.std.specs.Prelude.{ℕ, suc, true, false, List, [], ◌∷◌, ◌++◌, ltb, length}
use Rattle.error.specs.declared.Refusal.TheVariants.{OutputTooShort}
use Rattle.lining.specs.Line.{line}
use Rattle.script.specs.Output.{refusal, accept}

-- the lines of the records rs from the ordinal i on, each with so much room, then `accept N`
unfoldable pub lines_of : ℕ → ℕ → ℕ → List (List ℕ) → List ℕ
lines_of room n i [] = accept n
lines_of room n i (r ∷ rs) =
    elim (ltb room (length (line r))) [ true ↦ refusal OutputTooShort i | false ↦ line r ++ lines_of room n (suc i) rs ]
