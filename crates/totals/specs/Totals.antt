-- 02 (b), "A morning sheet over the whole chain": the totals.
-- 60 words: word 0 counts the accepted scripts, word r from 1 to 43 those refused under r, word 44 + k the node records of kind k from 0 to
-- 14, word 59 the keyframe entries.
use Rattle.std.specs.Prelude.{ℕ, suc, ◌+◌, Bool, false, ◌||◌, cond, List, [], ◌∷◌, eqb, ltb, take, replicate}

abbrev pub accepted_word : ℕ
accepted_word = 0

abbrev pub first_kind_word : ℕ
first_kind_word = 44

abbrev pub entries_word : ℕ
entries_word = 59

-- the words that count scripts, and those that count node records
abbrev pub number_words : ℕ
number_words = 44

abbrev pub kind_words : ℕ
kind_words = 15

-- "empty totals"
abbrev pub empty_totals : List ℕ
empty_totals = replicate 60 0

-- "a 4,097th script", "a figure above 268,431,360", which is 4,096 times 65,535
abbrev pub script_limit : ℕ
script_limit = 4096

abbrev pub figure_limit : ℕ
figure_limit = 268431360

-- what f gives for each of some things, added up
unfoldable pub sum_of : {A : Type 0} → (A → ℕ) → List A → ℕ
sum_of f [] = 0
sum_of f (x ∷ xs) = f x + sum_of f xs

abbrev pub itself : ℕ → ℕ
itself w = w

-- whether a figure is above the limit
unfoldable pub over : List ℕ → Bool
over [] = false
over (w ∷ ws) = ltb figure_limit w || over ws

-- how many scripts were fed
abbrev pub scripts : List ℕ → ℕ
scripts ws = sum_of itself (take number_words ws)

-- the words from i on, each with what f says of it added
unfoldable pub added_from : ℕ → (ℕ → ℕ) → List ℕ → List ℕ
added_from i f [] = []
added_from i f (w ∷ ws) = (w + f i) ∷ added_from (suc i) f ws

abbrev pub added : (ℕ → ℕ) → List ℕ → List ℕ
added f ws = added_from 0 f ws

-- n in word i, and nothing in the others
abbrev pub in_word : ℕ → ℕ → ℕ → ℕ
in_word i n j = cond (eqb j i) n 0
