-- What the grammar's rules are made of: the steps of syn's ParseStream.
-- A rule gets what is noted so far and the tokens from the cursor on. It gives a value, with both as they are then, or a refusal and its
-- place.
use Rattle.std.specs.Prelude.{ℕ, zero, suc, Bool, true, false, ◌&&◌, cond, List, [], ◌∷◌, eqb}
use Prim.Native.Char.{Char, code}
use Prim.Native.String.{String}
use Rattle.std.proofs.Math.Option.{Option, none, some}
use Rattle.text.specs.Bytes.{bytes, same, one_of, among}
use Rattle.text.specs.Words.{is_some, words, find}
use Rattle.number.specs.Number.{Written}
use Rattle.token.specs.Token.{Kind, name, number, quoted, mark, Token, token, place, kind, is_mark, rest}
use Rattle.token.specs.Names.{word_of, name_of, quote_of}
use Rattle.token.specs.Split.{closer}
use Rattle.error.specs.declared.Refusal.{Refusal}
use Rattle.error.specs.declared.Refusal.TheVariants.{Missing}

-- the place of the first leftover, if there was one; how many numbers were rounded; and a number of steps that no repetition in the text
-- exceeds
pub record Notes : Type 0 where
  pub leftover : Option ℕ
  pub rounded : ℕ
  pub bound : ℕ

pub data Out (A : Type 0) : Type 0 where
  got : A → Notes → List Token → Out A
  refused : Refusal → ℕ → Out A

abbrev pub Rule : Type 0 → Type 0
Rule A = Notes → List Token → Out A

-- ---- one after the other

infixl 10 ◌>>=◌
infixl 10 ◌>>◌
abbrev pub after : {A B : Type 0} → Out A → (A → Rule B) → Out B
after (got a l ts) f = f a l ts
after (refused r at) f = refused r at

abbrev pub ◌>>=◌ : {A B : Type 0} → Rule A → (A → Rule B) → Rule B
◌>>=◌ p f l ts = after (p l ts) f

abbrev pub ◌>>◌ : {A B : Type 0} → Rule A → Rule B → Rule B
◌>>◌ p q l ts = after (p l ts) (λ a. q)

abbrev pub give : {A : Type 0} → A → Rule A
give a l ts = got a l ts

-- 01: a refusal at the cursor
abbrev pub refuse : {A : Type 0} → Refusal → Rule A
refuse r l ts = refused r (place ts)

-- what is there, or a refusal
abbrev pub need : {A : Type 0} → Refusal → Option A → Rule A
need r none = refuse r
need r (some a) = give a

-- ---- looking at the next token: `peek`

abbrev pub sees_byte : ℕ → List Token → Bool
sees_byte b ts = is_mark (kind ts) b

-- "A single mark is matched by its first character alone"
abbrev pub sees : Char → List Token → Bool
sees c ts = sees_byte (code c) ts

-- "`=>`, `::` and `..` need their two characters adjacent"
abbrev pub sees_pair : ℕ → ℕ → List Token → Bool
sees_pair b d ts = sees_byte b ts && sees_byte d (rest ts) && eqb (place (rest ts)) (suc (place ts))

abbrev pub sees_two : Char → Char → List Token → Bool
sees_two c d ts = sees_pair (code c) (code d) ts

abbrev pub is_end : Kind → Bool
is_end (name w) = false
is_end (number w) = false
is_end (quoted n) = false
is_end (mark b) = one_of (0 ∷ bytes ")]}") b

-- `is_empty`: the group or the text ends here
abbrev pub ends : List Token → Bool
ends ts = is_end (kind ts)

abbrev pub is_word : Option (List ℕ) → List ℕ → Bool
is_word none v = false
is_word (some w) v = same w v

-- whether the next token is that word, a name or a keyword
abbrev pub sees_bytes : List ℕ → List Token → Bool
sees_bytes v ts = is_word (word_of (kind ts)) v

abbrev pub sees_word : String → List Token → Bool
sees_word s ts = sees_bytes (bytes s) ts

abbrev pub sees_name : List Token → Bool
sees_name ts = is_some (name_of (kind ts))

-- a rule that goes by a test on the tokens
abbrev pub if : {A : Type 0} → (List Token → Bool) → Rule A → Rule A → Rule A
if test p q l ts = cond (test ts) p q l ts

-- ---- taking the next token, or refusing with 6: `parse`

abbrev pub skip : Rule Unit
skip l ts = got tt l (rest ts)

abbrev pub the_byte : ℕ → Rule Unit
the_byte b = if (sees_byte b) skip (refuse Missing)

abbrev pub the : Char → Rule Unit
the c = the_byte (code c)

abbrev pub both_bytes : ℕ → ℕ → Rule Unit
both_bytes b d = if (sees_pair b d) (skip >> skip) (refuse Missing)

abbrev pub both : Char → Char → Rule Unit
both c d = both_bytes (code c) (code d)

-- take a mark if it is there, and say whether it was
abbrev pub eat_byte : ℕ → Rule Bool
eat_byte b = if (sees_byte b) (skip >> give true) (give false)

abbrev pub eat : Char → Rule Bool
eat c = eat_byte (code c)

-- take the next token for what it holds
abbrev pub found : {A B : Type 0} → Option A → (A → B) → Rule B
found none f l ts = refused Missing (place ts)
found (some a) f l ts = got (f a) l (rest ts)

-- a name: its start and its bytes
abbrev pub word : Rule (ℕ × List ℕ)
word l ts = found (name_of (kind ts)) (λ w. (place ts, w)) l ts

-- a string: the start of what stands between its quotes, and the length of that
abbrev pub text : Rule (ℕ × ℕ)
text l ts = found (quote_of (kind ts)) (λ n. (suc (place ts), n)) l ts

-- a name among some, as its position there
abbrev pub choice_in : Refusal → List (List ℕ) → Rule ℕ
choice_in r names = word >>= λ w. need r (find names 0 w.1)

abbrev pub choice : Refusal → List String → Rule ℕ
choice r names = choice_in r (words names)

-- ---- "`-` and the number after it, spaces or not, make one negative number wherever a number is wanted"

pub data Signed : Type 0 where
  absent : Signed
  plus : Written → Signed
  minus : Written → Signed

abbrev pub plain : Kind → Signed
plain (name w) = absent
plain (number w) = plus w
plain (quoted n) = absent
plain (mark b) = absent

abbrev pub negated : Signed → Signed
negated absent = absent
negated (plus w) = minus w
negated (minus w) = absent

abbrev pub sees_number : List Token → Signed
sees_number ts = cond (sees "-" ts) (negated (plain (kind (rest ts)))) (plain (kind ts))

-- one with no point
abbrev pub pointless : Signed → Signed
pointless absent = absent
pointless (plus w) = cond w.point absent (plus w)
pointless (minus w) = cond w.point absent (minus w)

abbrev pub sees_whole : List Token → Signed
sees_whole ts = pointless (sees_number ts)

-- the number that stands next, with its sign (true: negative); with none a refusal r
abbrev pub taken : Refusal → Signed → Rule (Bool × Written)
taken r absent l ts = refused r (place ts)
taken r (plus w) l ts = got (false, w) l (rest ts)
taken r (minus w) l ts = got (true, w) l (rest (rest ts))

abbrev pub signed : (List Token → Signed) → Refusal → Rule (Bool × Written)
signed view r l ts = taken r (view ts) l ts

-- 02 (d): "A number counts once each time it is written": where a rule takes it for an f32, if it was rounded
abbrev pub tally : Bool → Notes → Notes
tally b l = record { leftover = l.leftover; rounded = cond b (suc l.rounded) l.rounded; bound = l.bound }

abbrev pub counted : Bool → Rule Unit
counted b l ts = got tt (tally b l) ts

-- ---- groups: `parenthesized!`, `bracketed!`, `braced!`

-- what a token is to a reader that leaves a group, d deeper groups being open: the text's end, the group's closer, or to be passed
pub data Pass : Type 0 where
  halts : Pass
  closes : Pass
  goes : ℕ → Pass

abbrev pub closing : ℕ → Pass
closing zero = closes
closing (suc d) = goes d

abbrev pub weigh_mark : ℕ → ℕ → Pass
weigh_mark b d = cond (eqb b 0) halts (cond (among ")]}" b) (closing d) (cond (among "([{" b) (goes (suc d)) (goes d)))

unfoldable pub weigh : Kind → ℕ → Pass
weigh (name w) d = goes d
weigh (number w) d = goes d
weigh (quoted n) d = goes d
weigh (mark b) d = weigh_mark b d

abbrev pub depth : Pass → ℕ
depth halts = 0
depth closes = 0
depth (goes d) = d

abbrev pub passed : Pass → List Token → List Token → List Token → List Token
passed halts ts us vs = ts
passed closes ts us vs = us
passed (goes d) ts us vs = vs

-- the tokens behind the closer that ends the group, d deeper groups being open
unfoldable pub behind : ℕ → List Token → List Token
behind d [] = []
behind d (token p k ∷ ts) = passed (weigh k d) (token p k ∷ ts) ts (behind (depth (weigh k d)) ts)

abbrev pub first_of : Option ℕ → ℕ → Option ℕ
first_of none p = some p
first_of (some q) p = some q

abbrev pub noted : Notes → ℕ → Notes
noted l p = record { leftover = first_of l.leftover p; rounded = l.rounded; bound = l.bound }

-- 01: "tokens left inside a delimiter" are passed over, and the place of the first is kept: a later refusal comes first
-- A group is left by its own closer b. On tokens that nest no other closer ends it (`law_rules`, NestLaws: `leave_same`).
abbrev pub leave : ℕ → Rule Unit
leave b l ts = cond (sees_byte b ts) (got tt l (rest ts)) (got tt (noted l (place ts)) (behind 0 ts))

-- a rule inside a group that begins with an opener
abbrev pub inside_byte : {A : Type 0} → ℕ → Rule A → Rule A
inside_byte b p = the_byte b >> (p >>= λ a. leave (closer b) >> give a)

abbrev pub inside : {A : Type 0} → Char → Rule A → Rule A
inside c p = inside_byte (code c) p

-- ---- repetition: a step goes on with what it has so far, or ends

pub data Next (A : Type 0) : Type 0 where
  more : A → Next A
  done : A → Next A

abbrev pub next : {A : Type 0} → (A → Rule A) → Next A → Rule A
next again (more a) = again a
next again (done a) = give a

-- at most k steps
unfoldable pub iterate : {A : Type 0} → (A → Rule (Next A)) → ℕ → A → Rule A
iterate step zero a l ts = got a l ts
iterate step (suc k) a l ts = after (step a l ts) (next (λ b. iterate step k b))

abbrev pub repeat : {A : Type 0} → (A → Rule (Next A)) → A → Rule A
repeat step a l ts = iterate step l.bound a l ts

abbrev pub go_on : {A : Type 0} → Bool → A → Next A
go_on true a = more a
go_on false a = done a

-- items up to the group's end, each but the last followed by `,`; a last `,` is taken too. `item` adds one to those so far.
abbrev pub list_step : {A : Type 0} → (A → Rule A) → A → Rule (Next A)
list_step item a = if ends (give (done a)) (item a >>= λ b. eat "," >>= λ c. give (go_on c b))

abbrev pub list : {A : Type 0} → (A → Rule A) → A → Rule A
list item a = repeat (list_step item) a
