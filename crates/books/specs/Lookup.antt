-- 02 (i): a name looked up in two books.
use Rattle.std.specs.Prelude.{ℕ, ◌-◌, List, []}
use Rattle.std.proofs.Math.Option.{Option, none, some}
use Rattle.std.proofs.Math.ListN.{get_elem?}
use Rattle.text.specs.Bytes.{part}
use Rattle.text.specs.Words.{find}
use Rattle.books.specs.Book.{Item, Book, held, wrong, names, book}
use Rattle.error.specs.declared.Refusal.TheVariants.{NoSuchItem}
use Rattle.error.specs.declared.LookupAnswer.{LookupAnswer}
use Rattle.error.specs.declared.LookupAnswer.TheVariants as lookup

-- the item of a name
abbrev pub item_at : List Item → Option ℕ → Option Item
item_at xs none = none
item_at xs (some k) = get_elem? xs k

abbrev pub named : List Item → List ℕ → Option Item
named xs w = item_at xs (find (names xs) 0 w)

-- "A name is looked up in the store's book first, then the chain's", "43 last if neither book has the name"
abbrev pub found : Option Item → Option Item → LookupAnswer
found (some x) y = lookup.InStore x.start (x.end - x.start)
found none (some y) = lookup.InChain y.start (y.end - y.start)
found none none = lookup.Refused NoSuchItem 0

-- "Refused, the store's book wholly before the chain's": both are read before the name is looked up
abbrev pub in_books : List ℕ → Book → Book → LookupAnswer
in_books w (wrong r p) c = lookup.Refused r p
in_books w (held xs) (wrong r p) = lookup.Refused r p
in_books w (held xs) (held ys) = found (named xs w) (named ys w)

unfoldable pub looking_up : List ℕ → List ℕ → List ℕ → LookupAnswer
looking_up store chain w = in_books w (book store) (book chain)

-- "the answer is the body text lent from whichever of the two books has it, braces left off", "a refused lookup lends an empty part"
abbrev pub lent : List ℕ → List ℕ → LookupAnswer → List ℕ
lent store chain (lookup.InStore start size) = part store start size
lent store chain (lookup.InChain start size) = part chain start size
lent store chain (lookup.Refused r p) = []
