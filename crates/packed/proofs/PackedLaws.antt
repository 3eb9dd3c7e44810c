-- A packed answer is below 2^64, and its parts come back where they are below 2^32, 2^24 and 2^16.
use Prim.Native.Nat.{ℕ, ◌^◌, ◌<◌}
use mathlib.Core.List.{List, [], ◌∷◌}
use mathlib.Core.Path.{◌≡◌, refl}
use lib.ListN.{length, set}
use native.Mathlib.Omega.{arith}
use Rattle.error.specs.Refusal.{number_of}
use Rattle.error.specs.declared.Refusal.{Refusal}
use Rattle.error.proofs.NumberLaws.{numbered}
use Rattle.error.specs.declared.ReadAnswer.{ReadAnswer}
use Rattle.error.specs.declared.ReadAnswer.TheVariants as read
use Rattle.error.specs.declared.CheckAnswer.{CheckAnswer}
use Rattle.error.specs.declared.CheckAnswer.TheVariants as check
use Rattle.error.specs.declared.LineAnswer.{LineAnswer}
use Rattle.error.specs.declared.LineAnswer.TheVariants as line
use Rattle.packed.specs.Packed.{packed_refusal, packed_sheet, packed_read, packed_check}
use Rattle.packed.specs.Packed.{packed_line, packed_script, packed_fed, number_in, value_in}
use Rattle.packed.specs.Packed.{length_in, records_in, rounded_in, script_number_in}
use Rattle.error.specs.declared.FeedAnswer.{FeedAnswer}
use Rattle.error.specs.declared.FeedAnswer.TheVariants as feed
use Rattle.error.specs.declared.LookupAnswer.{LookupAnswer}
use Rattle.error.specs.declared.LookupAnswer.TheVariants as lookup
use Rattle.error.specs.declared.OrderAnswer.{OrderAnswer}
use Rattle.error.specs.declared.OrderAnswer.TheVariants as order
use Rattle.packed.specs.Packed.{packed_body, packed_lookup, packed_order, start_in, book_in}

-- ---- below 2^64

refusal-fits : (r : Refusal) (p : ℕ) → packed_refusal r p < 2 ^ 64
refusal-fits r p = let n = numbered r in omega (arith, n.most)

sheet-fits : (n k j : ℕ) → packed_sheet n k j < 2 ^ 56
sheet-fits n k j = omega arith

pub read_fits : (a : ReadAnswer) → packed_read a < 2 ^ 64
read_fits (read.Accepted n k j) = omega (arith, sheet-fits n k j)
read_fits (read.Refused r p) = refusal-fits r p

pub check_fits : (a : CheckAnswer) → packed_check a < 2 ^ 64
check_fits check.Accepted = omega arith
check_fits (check.Refused r p) = refusal-fits r p

pub line-fits : (a : LineAnswer) → packed_line a < 2 ^ 64
line-fits (line.Accepted n) = omega arith
line-fits (line.Refused r p) = refusal-fits r p

pub fed-fits : (a : FeedAnswer) → packed_fed a < 2 ^ 64
fed-fits (feed.Counted check.Accepted) = omega arith
fed-fits (feed.Counted (check.Refused r p)) = let n = numbered r in omega (arith, n.most)
fed-fits (feed.Refused r p) = refusal-fits r p

pub body-fits : (start n : ℕ) → packed_body start n < 2 ^ 48
body-fits start n = omega arith

pub lookup_fits : (a : LookupAnswer) → packed_lookup a < 2 ^ 64
lookup_fits (lookup.InStore start n) = omega (arith, body-fits start n)
lookup_fits (lookup.InChain start n) = omega (arith, body-fits start n)
lookup_fits (lookup.Refused r p) = refusal-fits r p

pub order-fits : (a : OrderAnswer) → packed_order a < 2 ^ 64
order-fits (order.Listed n) = omega arith
order-fits (order.Refused r p) = refusal-fits r p

-- ---- the parts

-- the number of a refusal, whatever its place
pub refusal-number : (r : Refusal) (p : ℕ) → number_in (packed_refusal r p) ≡ number_of r
refusal-number r p = omega arith

pub refusal-place : (r : Refusal) (p : ℕ) → p < 2 ^ 32 → value_in (packed_refusal r p) ≡ p
refusal-place r p h = omega arith

-- "On a refusal the count is 0"
pub refusal-rounded : (r : Refusal) (p : ℕ) → rounded_in (packed_refusal r p) ≡ 0
refusal-rounded r p = omega arith

-- of what is accepted the number is 0
pub sheet-number : (n k j : ℕ) → number_in (packed_sheet n k j) ≡ 0
sheet-number n k j = omega arith

pub sheet-length : (n k j : ℕ) → n < 2 ^ 24 → length_in (packed_sheet n k j) ≡ n
sheet-length n k j h = omega arith

pub sheet-records : (n k j : ℕ) → k < 2 ^ 16 → records_in (packed_sheet n k j) ≡ k
sheet-records n k j h = omega arith

pub sheet-rounded : (n k j : ℕ) → j < 2 ^ 16 → rounded_in (packed_sheet n k j) ≡ j
sheet-rounded n k j h = omega arith

pub line-number : (n : ℕ) → number_in (packed_line (line.Accepted n)) ≡ 0
line-number n = omega arith

pub line-length : (n : ℕ) → n < 2 ^ 32 → value_in (packed_line (line.Accepted n)) ≡ n
line-length n h = omega arith

-- of a refused script that is counted the number is 0
pub script-number : (r : Refusal) (p : ℕ) → number_in (packed_script (check.Refused r p)) ≡ 0
script-number r p = let n = numbered r in omega (arith, n.most)

pub script-refusal : (r : Refusal) (p : ℕ) → script_number_in (packed_script (check.Refused r p)) ≡ number_of r
script-refusal r p = omega arith

pub script-place : (r : Refusal) (p : ℕ) → p < 2 ^ 32 → value_in (packed_script (check.Refused r p)) ≡ p
script-place r p h = omega arith

-- a body in the store's book, and one in the chain's
pub record BodyParts (book start n w : ℕ) : Type 0 where
  pub number : number_in w ≡ 0
  pub in_book : book_in w ≡ book
  pub from : start_in w ≡ start
  pub length : length_in w ≡ n

pub store_body : (start n : ℕ) → start < 2 ^ 24 → n < 2 ^ 24 → BodyParts 0 start n (packed_lookup (lookup.InStore start n))
store_body start n h g = record { number = omega arith; in_book = omega arith; from = omega arith; length = omega arith }

pub chain_body : (start n : ℕ) → start < 2 ^ 24 → n < 2 ^ 24 → BodyParts 1 start n (packed_lookup (lookup.InChain start n))
chain_body start n h g = record { number = omega arith; in_book = omega arith; from = omega arith; length = omega arith }

pub order-number : (n : ℕ) → number_in (packed_order (order.Listed n)) ≡ 0
order-number n = omega arith

pub order-items : (n : ℕ) → n < 2 ^ 32 → value_in (packed_order (order.Listed n)) ≡ n
order-items n h = omega arith

-- a numerator and a denominator, in the two words that are lent
pub pair-written : (out : List ℕ) (n d : ℕ) → length out ≡ 2 → set (set out 0 n) 1 d ≡ n ∷ d ∷ []
pair-written [] n d e = absurd (omega arith)
pair-written (a ∷ []) n d e = absurd (omega arith)
pair-written (a ∷ b ∷ []) n d e = refl
pair-written (a ∷ b ∷ c ∷ out) n d e = absurd (omega arith)
