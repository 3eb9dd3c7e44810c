-- 02 (i): a book of named scripts: "a text of `name = { ... }` items under 01's text rules, the braces holding nodes".
use Rattle.std.specs.Prelude.{ℕ, suc, Bool, false, ◌||◌, cond, List, [], ◌∷◌, ◌++◌, map, ltb, length}
use Rattle.std.proofs.Math.Option.{Option, none, some}
use Rattle.text.specs.Limits.{text_limit}
use Rattle.text.specs.Words.{is_some, find}
use Rattle.number.specs.Time.{Key}
use Rattle.token.specs.Token.{place}
use Rattle.token.specs.Split.{Split, unlexed, tokens, split}
use Rattle.ast.specs.Tree.{Nodes}
use Rattle.grammar.specs.Rule.{Notes, Out, got, refused, Rule, ◌>>=◌, ◌>>◌, give, if, ends, the, word, inside, Next, more, done, repeat}
use Rattle.grammar.specs.Grammar.{animato_input}
use Rattle.error.specs.declared.Refusal.{Refusal}
use Rattle.error.specs.declared.Refusal.TheVariants.{TextTooLong, Leftover, NameTwice, TooManyItems}

-- an item: its name; its body, "braces left off", from a start to an end; and the nodes that stand there
pub record Item : Type 0 where
  pub name : List ℕ
  pub start : ℕ
  pub end : ℕ
  pub nodes : Nodes Key

-- ---- the grammar

-- the cursor's place
abbrev pub here : Rule ℕ
here l ts = got (place ts) l ts

-- the nodes of a body, and where it ends
abbrev pub body : Rule (Nodes Key × ℕ)
body = animato_input >>= λ ns. here >>= λ end. give (ns, end)

-- "`name = { ... }`": the braces are no container
unfoldable pub item : Rule Item
item = do
  w ← word
  the "="
  brace ← here
  b ← inside "{" body
  give (record { name = w.1; start = suc brace; end = b.1; nodes = b.0 })

-- nothing stands between items
unfoldable pub items_step : List Item → Rule (Next (List Item))
items_step xs = if ends (give (done xs)) (item >>= λ x. give (more (xs ++ (x ∷ []))))

unfoldable pub items : Rule (List Item)
items = repeat items_step []

-- ---- a book's items, or the first refusal that is due

pub data Book : Type 0 where
  held : List Item → Book
  wrong : Refusal → ℕ → Book

abbrev pub unless_left : List Item → Option ℕ → Book
unless_left xs none = held xs
unless_left xs (some p) = wrong Leftover p

abbrev pub finished : Out (List Item) → Book
finished (got xs l ts) = unless_left xs l.leftover
finished (refused r p) = wrong r p

-- what is noted before the first token of a text of n bytes
abbrev pub fresh : ℕ → Notes
fresh n = record { leftover = none; rounded = 0; bound = suc n }

-- "a book's text and grammar numbers (1 to 13 and 15)", in reading's order
abbrev pub parsed : ℕ → Split → Book
parsed n (unlexed r p) = wrong r p
parsed n (tokens ts) = finished (items (fresh n) ts)

abbrev pub written : List ℕ → Book
written t = cond (ltb text_limit (length t)) (wrong TextTooLong 0) (parsed (length t) (split t))

abbrev pub names : List Item → List (List ℕ)
names xs = map (λ x. x.name) xs

-- whether a word stands twice in a list
unfoldable pub repeated : List (List ℕ) → Bool
repeated [] = false
repeated (w ∷ ws) = is_some (find ws 0 w) || repeated ws

-- "at most 128 items a book"
abbrev pub item_limit : ℕ
item_limit = 128

-- "then 37 the same name twice, then 38 a 129th item"
abbrev pub settled : Book → Book
settled (wrong r p) = wrong r p
settled (held xs) = cond (repeated (names xs)) (wrong NameTwice 0) (cond (ltb item_limit (length xs)) (wrong TooManyItems 0) (held xs))

unfoldable pub book : List ℕ → Book
book t = settled (written t)
