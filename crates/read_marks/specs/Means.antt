-- What the sign of `at` means. Contracts cite these.
use Rattle.std.specs.Prelude.{ℕ, Bool, List}
use Rattle.grammar.specs.Grammar.{at_sign}
use Rattle.read_cursor.specs.Means.{Took}
use Rattle.read_cursor.specs.declared.Cursor.{Cursor}
use Rattle.read_marks.specs.declared.Sign.{Sign}

-- the sign of `at`
abbrev pub signs : Bool → Bool → Bool × Bool
signs r m = (r, m)

abbrev pub SignMeans : List ℕ → Cursor → Sign → Type 0
SignMeans s c r = Took 0 s c r.next at_sign (signs r.relative r.minus)
