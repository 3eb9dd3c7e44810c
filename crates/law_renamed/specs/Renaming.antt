-- 02 (m), "Renaming can't change a verdict".
use Rattle.std.specs.Prelude.{ℕ, true, List, [], ◌≡◌, take}
use Rattle.token.specs.Token.{tokens_from}
use Rattle.reading.specs.Reading.{Parsed, tree, wrong, parse, reading}
use Rattle.checking.specs.Checking.{is_list, checking}
use Rattle.error.specs.declared.ReadAnswer.TheVariants.{Accepted}
use Rattle.law_renamed.specs.Words.{free_of, Agree}

-- the free places of a script, by the grammar's tree
abbrev pub free_by : Parsed → List ℕ
free_by (tree ns k) = free_of ns
free_by (wrong r p) = []

-- the tokens of the scripts t and u agree, and differ only in the names and strings that (m) frees in t; blanks may differ. Where a token
-- is free in both, it is in t, so no more is asked of u; where reading accepts both, `symmetric` has that either may be the first.
unfoldable pub Renamed : List ℕ → List ℕ → Type 0
Renamed t u = Agree t u (free_by (parse t)) (tokens_from t 0) (tokens_from u 0)

-- "over two scripts that reading accepts: if their tokens agree .., then checking, each with the sheet reading gave it and under one list,
-- gives both the same number and, where it refuses, the same record ordinal": for both lists, and any buffers
abbrev pub Renaming : Type 0
Renaming =
    (list : ℕ) → is_list list ≡ true
    → (t scratch sheet : List ℕ) (n c k : ℕ) → (reading t scratch sheet).0 ≡ Accepted n c k
    → (u scratch' sheet' : List ℕ) (m d j : ℕ) → (reading u scratch' sheet').0 ≡ Accepted m d j
    → Renamed t u
    → checking list t (take n (reading t scratch sheet).2) ≡ checking list u (take m (reading u scratch' sheet').2)
