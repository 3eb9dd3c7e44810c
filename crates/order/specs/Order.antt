-- 02 (i): the items of a book in an order in which each stands after all it calls, and rings of calls.
-- An item is its ordinal, from 0; `calls i j` says whether item i calls item j.
use Rattle.std.specs.Prelude.{ℕ, zero, suc, ◌<◌, Bool, true, false, ◌&&◌, ◌||◌, not, List, [], ◌∷◌, ◌++◌, ◌≡◌, length, take, get_or}
use Rattle.std.proofs.Math.Option.{Option, none, some}
use Rattle.text.specs.Bytes.{one_of}
use Rattle.text.specs.Words.{or_else}

abbrev pub Calls : Type 0
Calls = ℕ → ℕ → Bool

-- ---- tests on the numbers below n

-- whether each passes
unfoldable pub every : (ℕ → Bool) → ℕ → Bool
every p zero = true
every p (suc n) = every p n && p n

abbrev pub only : Bool → ℕ → Option ℕ
only true i = some i
only false i = none

-- the first that passes
unfoldable pub first : (ℕ → Bool) → ℕ → Option ℕ
first p zero = none
first p (suc n) = or_else (first p n) (only (p n) n)

-- ---- the listing

-- of n items, l being listed: i is not listed, and all it calls is
abbrev pub free : Calls → ℕ → List ℕ → ℕ → Bool
free calls n l i = not (one_of l i) && every (λ j. not (calls i j) || one_of l j) n

abbrev pub and_then : Option ℕ → (ℕ → Option (List ℕ)) → Option (List ℕ)
and_then none f = none
and_then (some i) f = f i

-- k more behind l, each time "the first by place among those free"; nothing, if none is free
unfoldable pub listed : Calls → ℕ → ℕ → List ℕ → Option (List ℕ)
listed calls n zero l = some l
listed calls n (suc k) l = and_then (first (free calls n l) n) (λ i. listed calls n k (l ++ (i ∷ [])))

-- "list the items' ordinals, from 0, .. so that each stands after all it calls, the first by place among those free"
abbrev pub order : Calls → ℕ → Option (List ℕ)
order calls n = listed calls n n []

-- what a listing l of n items is: every item once, each behind all it calls, each time the first that is free
pub record Listing (calls : Calls) (n : ℕ) (l : List ℕ) : Type 0 where
  pub long : length l ≡ n
  pub items : (m : ℕ) → m < n → get_or l m 0 < n
  pub all : (i : ℕ) → i < n → one_of l i ≡ true
  pub once : (m : ℕ) → m < n → one_of (take m l) (get_or l m 0) ≡ false
  pub after : (m j : ℕ) → m < n → j < n → calls (get_or l m 0) j ≡ true → one_of (take m l) j ≡ true
  pub least : (m i : ℕ) → m < n → i < get_or l m 0 → free calls n (take m l) i ≡ false

-- ---- rings: "any chain of calls comes round to its start"

-- a chain of calls, at least one, among n items
pub data Chain (calls : Calls) (n : ℕ) : ℕ → ℕ → Type 0 where
  one : {i j : ℕ} → i < n → j < n → calls i j ≡ true → Chain calls n i j
  more : {i j k : ℕ} → i < n → calls i j ≡ true → Chain calls n j k → Chain calls n i k

abbrev pub Ring : Calls → ℕ → Type 0
Ring calls n = (i : ℕ) × Chain calls n i i
