-- 02 (b): "the mean node records per accepted script and mean entries per track, each as an exact fraction in lowest terms, or `none` where
-- there was no such script or track".
use Rattle.std.specs.Prelude.{ℕ, zero, suc, ◌*◌, ◌/◌, ◌%◌, true, false, cond, List, ◌≡◌, eqb, get_or, take, drop}
use Rattle.std.specs.Int.{◌∣◌}
use Rattle.error.specs.declared.Refusal.TheVariants.{TooManyScripts}
use Rattle.totals.specs.Totals.{accepted_word, first_kind_word, entries_word, kind_words, sum_of, itself, over}
use Rattle.error.specs.declared.MeanAnswer.{MeanAnswer}
use Rattle.error.specs.declared.MeanAnswer.TheVariants.{Fraction, Nothing, Refused}

-- Euclid's algorithm, at most k divisions
unfoldable pub gcd_by : ℕ → ℕ → ℕ → ℕ
gcd_by zero a b = a
gcd_by (suc k) a b = elim (eqb b 0) [ true ↦ a | false ↦ gcd_by k b (a % b) ]

-- each division leaves less than it divided by
abbrev pub gcd : ℕ → ℕ → ℕ
gcd a b = gcd_by (suc b) a b

-- a over b
abbrev pub fraction : ℕ → ℕ → MeanAnswer
fraction a zero = Nothing
fraction a (suc b) = Fraction (a / gcd a (suc b)) (suc b / gcd a (suc b))

-- the tracks are the node records of kind 2
abbrev pub tracks_word : ℕ
tracks_word = 46

abbrev pub node_records : List ℕ → ℕ
node_records ws = sum_of itself (take kind_words (drop first_kind_word ws))

-- 0 asks for node records per accepted script, another number for entries per track
abbrev pub mean_of : List ℕ → ℕ → MeanAnswer
mean_of ws zero = fraction (node_records ws) (get_or ws accepted_word 0)
mean_of ws (suc which) = fraction (get_or ws entries_word 0) (get_or ws tracks_word 0)

-- 33 "before all else"
unfoldable pub mean : List ℕ → ℕ → MeanAnswer
mean ws which = cond (over ws) (Refused TooManyScripts 0) (mean_of ws which)

-- what a fraction n / d in lowest terms is of a / b: the quotient is exact, and no number but 1 divides both
pub record Lowest (a b n d : ℕ) : Type 0 where
  pub exact : n * b ≡ a * d
  pub lowest : (c : ℕ) → c ∣ n → c ∣ d → c ≡ 1
