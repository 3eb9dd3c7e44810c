-- The number and the values of each answer: 0 and what is given, or a refusal's number and its place.
use Rattle.std.specs.Prelude.{ℕ, List, [], ◌∷◌}
use Rattle.error.specs.Refusal.{number_of}
use Rattle.error.specs.declared.ReadAnswer.{ReadAnswer}
use Rattle.error.specs.declared.ReadAnswer.TheVariants as read
use Rattle.error.specs.declared.CheckAnswer.{CheckAnswer}
use Rattle.error.specs.declared.CheckAnswer.TheVariants as check
use Rattle.error.specs.declared.LineAnswer.{LineAnswer}
use Rattle.error.specs.declared.LineAnswer.TheVariants as line
use Rattle.error.specs.declared.FeedAnswer.{FeedAnswer}
use Rattle.error.specs.declared.FeedAnswer.TheVariants as feed
use Rattle.error.specs.declared.MeanAnswer.{MeanAnswer}
use Rattle.error.specs.declared.MeanAnswer.TheVariants as mean
use Rattle.error.specs.declared.LookupAnswer.{LookupAnswer}
use Rattle.error.specs.declared.LookupAnswer.TheVariants as lookup
use Rattle.error.specs.declared.OrderAnswer.{OrderAnswer}
use Rattle.error.specs.declared.OrderAnswer.TheVariants as order

-- reading: the sheet's length, its count of node records and that of the rounded numbers; "On a refusal the count is 0"
abbrev pub read_values : ReadAnswer → List ℕ
read_values (read.Accepted length records rounded) = 0 ∷ length ∷ records ∷ rounded ∷ []
read_values (read.Refused refusal place) = number_of refusal ∷ place ∷ 0 ∷ []

-- checking: nothing
abbrev pub check_values : CheckAnswer → List ℕ
check_values check.Accepted = 0 ∷ []
check_values (check.Refused refusal place) = number_of refusal ∷ place ∷ []

-- lining: the line's length
abbrev pub line_values : LineAnswer → List ℕ
line_values (line.Accepted length) = 0 ∷ length ∷ []
line_values (line.Refused refusal place) = number_of refusal ∷ place ∷ []

-- 02 (b), feeding: what the script was judged
abbrev pub feed_values : FeedAnswer → List ℕ
feed_values (feed.Counted answer) = 0 ∷ check_values answer
feed_values (feed.Refused refusal place) = number_of refusal ∷ place ∷ []

-- 02 (b), a mean: its numerator and its denominator; nothing for `none`
abbrev pub mean_values : MeanAnswer → List ℕ
mean_values (mean.Fraction numerator denominator) = 0 ∷ numerator ∷ denominator ∷ []
mean_values mean.Nothing = 0 ∷ []
mean_values (mean.Refused refusal place) = number_of refusal ∷ place ∷ []

-- 02 (g), a colour: its bytes
abbrev pub color_values : CheckAnswer × List ℕ → List ℕ
color_values (check.Accepted, bytes) = 0 ∷ bytes
color_values (check.Refused refusal place, bytes) = number_of refusal ∷ place ∷ []

-- 02 (i), a lookup: the book, 0 for the store's and 1 for the chain's; the body's start and its size
abbrev pub lookup_values : LookupAnswer → List ℕ
lookup_values (lookup.InStore start size) = 0 ∷ 0 ∷ start ∷ size ∷ []
lookup_values (lookup.InChain start size) = 0 ∷ 1 ∷ start ∷ size ∷ []
lookup_values (lookup.Refused refusal place) = number_of refusal ∷ place ∷ []

-- 02 (i), listing: how many items are listed
abbrev pub order_values : OrderAnswer → List ℕ
order_values (order.Listed items) = 0 ∷ items ∷ []
order_values (order.Refused refusal place) = number_of refusal ∷ place ∷ []
