-- An answer as one number, for C and Rust.
-- "Each answers one u64: the refusal's number, 0 for accepted, times 2^56, plus a value below 2^32 that is the place of a refusal (the
-- ordinal in lining), 0 for checking's accept, or lining's line length; reading's accept has its sheet length plus its count of node
-- records times 2^24" plus that of the rounded numbers times 2^40 (the request for the library; 02 (d)).
-- A place or a line's length of 2^32 or more counts by its remainder, as do a sheet's or a body's length and a body's
-- start of 2^24 or more, and 2^16 or more records or rounded numbers.
-- No operation answers with such: the laws of the crate `law_unpacked`.
use Rattle.std.specs.Prelude.{ℕ, ◌+◌, ◌*◌, ◌/◌, ◌%◌, ◌^◌, List, [], ◌∷◌, ℤ, get_or}
use Rattle.error.specs.Refusal.{number_of}
use Rattle.error.specs.declared.Refusal.{Refusal}
use Rattle.error.specs.declared.ReadAnswer.{ReadAnswer}
use Rattle.error.specs.declared.ReadAnswer.TheVariants as read
use Rattle.error.specs.declared.CheckAnswer.{CheckAnswer}
use Rattle.error.specs.declared.CheckAnswer.TheVariants as check
use Rattle.error.specs.declared.LineAnswer.{LineAnswer}
use Rattle.error.specs.declared.LineAnswer.TheVariants as line
use Rattle.error.specs.declared.MeanAnswer.{MeanAnswer}
use Rattle.error.specs.declared.MeanAnswer.TheVariants as mean
use Rattle.error.specs.declared.FeedAnswer.{FeedAnswer}
use Rattle.error.specs.declared.FeedAnswer.TheVariants as feed
use Rattle.error.specs.declared.LookupAnswer.{LookupAnswer}
use Rattle.error.specs.declared.LookupAnswer.TheVariants as lookup
use Rattle.error.specs.declared.OrderAnswer.{OrderAnswer}
use Rattle.error.specs.declared.OrderAnswer.TheVariants as order

-- ---- an answer

abbrev pub packed_refusal : Refusal → ℕ → ℕ
packed_refusal refusal place = number_of refusal * 2 ^ 56 + place % 2 ^ 32

abbrev pub packed_sheet : ℕ → ℕ → ℕ → ℕ
packed_sheet length records rounded = rounded % 2 ^ 16 * 2 ^ 40 + records % 2 ^ 16 * 2 ^ 24 + length % 2 ^ 24

abbrev pub packed_read : ReadAnswer → ℕ
packed_read (read.Accepted length records rounded) = packed_sheet length records rounded
packed_read (read.Refused refusal place) = packed_refusal refusal place

abbrev pub packed_check : CheckAnswer → ℕ
packed_check check.Accepted = 0
packed_check (check.Refused refusal place) = packed_refusal refusal place

abbrev pub packed_line : LineAnswer → ℕ
packed_line (line.Accepted length) = length % 2 ^ 32
packed_line (line.Refused refusal place) = packed_refusal refusal place

-- 02 (b): "0 if the script was accepted, else its refusal number times 2^32 plus its place"
abbrev pub packed_script : CheckAnswer → ℕ
packed_script check.Accepted = 0
packed_script (check.Refused refusal place) = number_of refusal * 2 ^ 32 + place % 2 ^ 32

abbrev pub packed_fed : FeedAnswer → ℕ
packed_fed (feed.Counted answer) = packed_script answer
packed_fed (feed.Refused refusal place) = packed_refusal refusal place

-- 02 (g): "red times 2^24 + green times 2^16 + blue times 2^8 + alpha"
abbrev pub packed_bytes : List ℕ → ℕ
packed_bytes bs = get_or bs 0 0 * 2 ^ 24 + get_or bs 1 0 * 2 ^ 16 + get_or bs 2 0 * 2 ^ 8 + get_or bs 3 0

abbrev pub packed_color : CheckAnswer → List ℕ → ℕ
packed_color check.Accepted bs = packed_bytes bs
packed_color (check.Refused refusal place) bs = packed_refusal refusal place

-- 02 (i): "length + start times 2^24 + (0 store, 1 chain) times 2^48"
abbrev pub packed_body : ℕ → ℕ → ℕ
packed_body start length = start % 2 ^ 24 * 2 ^ 24 + length % 2 ^ 24

abbrev pub packed_lookup : LookupAnswer → ℕ
packed_lookup (lookup.InStore start size) = packed_body start size
packed_lookup (lookup.InChain start size) = 2 ^ 48 + packed_body start size
packed_lookup (lookup.Refused refusal place) = packed_refusal refusal place

-- 02 (i): "the count of items"
abbrev pub packed_order : OrderAnswer → ℕ
packed_order (order.Listed items) = items % 2 ^ 32
packed_order (order.Refused refusal place) = packed_refusal refusal place

-- ---- an answer with the buffers afterwards

abbrev pub read_outcome : ReadAnswer × List ℕ × List ℕ → ℕ × List ℕ × List ℕ
read_outcome x = (packed_read x.0, x.1, x.2)

abbrev pub line_outcome : LineAnswer × List ℕ → ℕ × List ℕ
line_outcome x = (packed_line x.0, x.1)

-- printing answers as lining does: the page's length, or a refusal and its place
abbrev pub print_outcome : LineAnswer × List ℕ × List ℕ × List ℕ → ℕ × List ℕ × List ℕ × List ℕ
print_outcome x = (packed_line x.0, x.1, x.2, x.3)

abbrev pub feed_outcome : FeedAnswer × List ℕ × List ℕ × List ℕ → ℕ × List ℕ × List ℕ × List ℕ
feed_outcome x = (packed_fed x.0, x.1, x.2, x.3)

-- 1, with numerator and denominator; 0 for `none`, and what is lent as it was
abbrev pub mean_outcome : MeanAnswer → List ℕ → ℕ × List ℕ
mean_outcome (mean.Fraction numerator denominator) out = (1, numerator ∷ denominator ∷ [])
mean_outcome mean.Nothing out = (0, out)
mean_outcome (mean.Refused refusal place) out = (packed_refusal refusal place, out)

-- the four bytes are part of the answer
abbrev pub color_outcome : CheckAnswer × List ℕ → ℕ
color_outcome x = packed_color x.0 x.1

-- 02 (h): 0 for a sheet that is converted, and the lent sheet afterwards
abbrev pub convert_outcome : CheckAnswer × List ℕ → ℕ × List ℕ
convert_outcome x = (packed_check x.0, x.1)

-- 02 (i): the count of items, and the lent output afterwards
abbrev pub order_outcome : OrderAnswer × List ℕ → ℕ × List ℕ
order_outcome x = (packed_order x.0, x.1)

-- 02 (l): 0 for a waveform that is drawn, and the lent heights afterwards
abbrev pub wave_outcome : CheckAnswer × List ℤ → ℕ × List ℤ
wave_outcome x = (packed_check x.0, x.1)

-- ---- its parts

abbrev pub number_in : ℕ → ℕ
number_in w = w / 2 ^ 56

abbrev pub value_in : ℕ → ℕ
value_in w = w % 2 ^ 32

abbrev pub length_in : ℕ → ℕ
length_in w = w % 2 ^ 24

abbrev pub records_in : ℕ → ℕ
records_in w = w / 2 ^ 24 % 2 ^ 16

abbrev pub rounded_in : ℕ → ℕ
rounded_in w = w / 2 ^ 40 % 2 ^ 16

-- a byte of a colour: alpha from 0 on, blue from 8, green from 16, red from 24
abbrev pub byte_in : ℕ → ℕ → ℕ
byte_in k w = w / 2 ^ k % 2 ^ 8

-- a body's start
abbrev pub start_in : ℕ → ℕ
start_in w = w / 2 ^ 24 % 2 ^ 24

-- the book that a body stands in: 0 the store's, 1 the chain's
abbrev pub book_in : ℕ → ℕ
book_in w = w / 2 ^ 48 % 2 ^ 8

-- the number of a refused script
abbrev pub script_number_in : ℕ → ℕ
script_number_in w = w / 2 ^ 32
