-- What a cursor is, and what the answers of the functions over it mean, in terms of the grammar's rules. Contracts cite these.
use Rattle.std.specs.Prelude.{ℕ, suc, ◌+◌, ◌≤◌, Bool, true, false, not, cond, ◌&&◌, List, [], ◌∷◌, ◌≡◌, T, eqb, length}
use Rattle.std.proofs.Math.Option.{Option, none, some}
use Rattle.std.specs.Float.Ieee.{is_nan}
use Rattle.text.specs.Limits.{text_limit}
use Rattle.text.specs.Bytes.{part}
use Rattle.text.specs.Words.{find}
use Rattle.token.specs.Names.{is_keyword, word_of}
use Rattle.number.specs.Number.{Written, bits}
use Rattle.token.specs.Token.{Token, tokens_from, place, kind, rest}
use Rattle.token.specs.Token as numbers
use Rattle.token.specs.Means.{Lexes, Known, written_in, last_place}
use Rattle.token.specs.declared.Number.{Number}
use Rattle.ast.specs.declared.Span.{Span}
use Rattle.error.specs.declared.Refusal.TheVariants as cause
use Rattle.grammar.specs.Rule.{Notes, Out, got, refused, Rule, Signed, absent, plus, minus}
use Rattle.grammar.specs.Rule.{plain, sees_byte, sees_number, word, text, behind, Pass, halts, closes, goes}
use Rattle.read_cursor.specs.WordMeans.{at_of, end_of, left_at, rounded_of, tok_of}
use Rattle.read_cursor.specs.declared.Left.{Left}
use Rattle.read_cursor.specs.declared.Left.TheVariants as left
use Rattle.read_cursor.specs.declared.Cursor.{Cursor}
use Rattle.read_cursor.specs.declared.MarkRead.{MarkRead}
use Rattle.read_cursor.specs.declared.MarkRead.TheVariants as mark
use Rattle.read_cursor.specs.declared.WordRead.{WordRead}
use Rattle.read_cursor.specs.declared.WordRead.TheVariants as words
use Rattle.read_cursor.specs.declared.NumberRead.{NumberRead}
use Rattle.read_cursor.specs.declared.NumberRead.TheVariants as number
use Rattle.read_cursor.specs.declared.FloatRead.{FloatRead}
use Rattle.read_cursor.specs.declared.FloatRead.TheVariants as float
use Rattle.read_cursor.specs.declared.UintRead.{UintRead}
use Rattle.read_cursor.specs.declared.UintRead.TheVariants as uint
use Rattle.read_cursor.specs.declared.TruthRead.{TruthRead}
use Rattle.read_cursor.specs.declared.TruthRead.TheVariants as truth
use Rattle.read_cursor.specs.declared.CaseRead.{CaseRead}
use Rattle.read_cursor.specs.declared.CaseRead.TheVariants as case
use Rattle.read_cursor.specs.declared.NumberSeen.{NumberSeen}
use Rattle.read_cursor.specs.declared.NumberSeen.TheVariants as seen
use Rattle.read_cursor.specs.declared.Passing.{Passing}
use Rattle.read_cursor.specs.declared.Passing.TheVariants as passing

-- ---- the cursor

-- what a cursor has where nothing was left: no place of a text
abbrev pub nothing : ℕ
nothing = 65535

-- the first place where tokens were left, as a cursor has it
unfoldable pub left_of : ℕ → Option ℕ
left_of p = cond (eqb p nothing) none (some p)

abbrev pub left_is : Left → Option ℕ
left_is left.Nothing = none
left_is (left.At p) = some p

-- the cursor stands in the text s, of at most the limit, on its next token; the tokens from there on end where those of the text do; no
-- more numbers are counted than there are bytes behind it
pub record Ready (s : List ℕ) (c : Cursor) : Type 0 where
  pub head : Lexes s (at_of c) (at_of c) (end_of c) (tok_of c)
  pub high : at_of c ≤ length s
  pub short : length s ≤ text_limit
  pub last : last_place 0 (tokens_from s (at_of c)) ≡ last_place 0 (tokens_from s 0)
  pub few : rounded_of c ≤ at_of c

-- what is noted at a cursor; a repetition takes a byte with each step
abbrev pub notes : List ℕ → Cursor → Notes
notes s c = record { leftover = left_of (left_at c); rounded = rounded_of c; bound = suc (length s) }

abbrev pub tokens : List ℕ → Cursor → List Token
tokens s c = tokens_from s (at_of c)

-- what the rule p gives at the cursor c
abbrev pub run : {A : Type 0} → List ℕ → Cursor → Rule A → Out A
run s c p = p (notes s c) (tokens s c)

-- the rule p takes the value a from the cursor c to the cursor m, at least e bytes on
pub record Took {A : Type 0} (e : ℕ) (s : List ℕ) (c m : Cursor) (p : Rule A) (a : A) : Type 0 where
  pub is : run s c p ≡ got a (notes s m) (tokens s m)
  pub low : at_of c + e ≤ at_of m
  pub ready : Ready s m

-- r stands on the first token from `at` on
pub record Begins (s : List ℕ) (at noted counted : ℕ) (r : Cursor) : Type 0 where
  pub is : tokens_from s at ≡ tokens s r
  pub low : at ≤ at_of r
  pub left : left_at r ≡ noted
  pub rounded : rounded_of r ≡ counted
  pub ready : Ready s r

-- m stands behind the head of c
pub record Follows (s : List ℕ) (c m : Cursor) : Type 0 where
  pub rest : rest (tokens s c) ≡ tokens s m
  pub at : end_of c ≤ at_of m
  pub left : left_at m ≡ left_at c
  pub rounded : rounded_of m ≡ rounded_of c
  pub ready : Ready s m

-- m stands behind the closer of the group that c stands in
pub record Behind (s : List ℕ) (c m : Cursor) : Type 0 where
  pub is : tokens s m ≡ behind 0 (tokens s c)
  pub low : at_of c ≤ at_of m
  pub left : left_at m ≡ left_at c
  pub rounded : rounded_of m ≡ rounded_of c
  pub ready : Ready s m

-- ---- answers

abbrev pub MarkMeans : List ℕ → Cursor → Rule Unit → MarkRead → Type 0
MarkMeans s c p (mark.Is m) = Took 1 s c m p tt
MarkMeans s c p (mark.Missing q) = run s c p ≡ refused cause.Missing q

-- the bytes of a place in the text
abbrev pub spelled : List ℕ → Span → List ℕ
spelled s x = part s x.start x.size

-- a name, which lies in the text
abbrev pub WordMeans : List ℕ → Cursor → WordRead → Type 0
WordMeans s c (words.Is x m) = Took 1 s c m word (x.start, spelled s x) × (x.start + x.size ≤ length s)
WordMeans s c (words.Missing q) = run s c word ≡ refused cause.Missing q

-- what stands between a string's quotes, which lies in the text
abbrev pub StringMeans : List ℕ → Cursor → WordRead → Type 0
StringMeans s c (words.Is x m) = Took 1 s c m text (x.start, x.size) × (x.start + x.size ≤ length s)
StringMeans s c (words.Missing q) = run s c text ≡ refused cause.Missing q

-- a number with its sign, and the tokens behind it
abbrev pub sign : Bool → Written → Signed
sign false w = plus w
sign true w = minus w

abbrev pub past : Bool → List Token → List Token
past false ts = rest ts
past true ts = rest (rest ts)

pub record Numbers (s : List ℕ) (c : Cursor) (b : Bool) (n : Number) (m : Cursor) : Type 0 where
  pub sees : sees_number (tokens s c) ≡ sign b (written_in s n)
  pub past : past b (tokens s c) ≡ tokens s m
  pub left : left_at m ≡ left_at c
  pub rounded : rounded_of m ≡ rounded_of c
  pub low : at_of c + 1 ≤ at_of m
  pub ready : Ready s m
  pub known : Known s n

abbrev pub NumberMeans : List ℕ → Cursor → NumberRead → Type 0
NumberMeans s c (number.Is b n m) = Numbers s c b n m
NumberMeans s c (number.Missing q) = (sees_number (tokens s c) ≡ absent) × (place (tokens s c) ≡ q)

-- m is c, or stands behind the `-` at c
abbrev pub SignAt : List ℕ → Cursor → Cursor → Bool → Type 0
SignAt s c m false = (sees_byte 45 (tokens s c) ≡ false) × (m ≡ c)
SignAt s c m true = (sees_byte 45 (tokens s c) ≡ true) × Follows s c m

-- the next token as a number
abbrev pub NumberView : List ℕ → Cursor → NumberSeen → Type 0
NumberView s c (seen.Is n) = (kind (tokens s c) ≡ numbers.number (written_in s n)) × Known s n
NumberView s c seen.Not = plain (kind (tokens s c)) ≡ absent

abbrev pub FloatMeans : List ℕ → Cursor → Rule ℕ → FloatRead → Type 0
FloatMeans s c p (float.Is v m) = Took 1 s c m p (bits v) × T (not (is_nan v))
FloatMeans s c p (float.Refused r q) = run s c p ≡ refused r q

abbrev pub UintMeans : List ℕ → Cursor → Rule ℕ → UintRead → Type 0
UintMeans s c p (uint.Is v m) = Took 1 s c m p v
UintMeans s c p (uint.Refused r q) = run s c p ≡ refused r q

abbrev pub TruthMeans : List ℕ → Cursor → Rule Bool → TruthRead → Type 0
TruthMeans s c p (truth.Is v m) = Took 1 s c m p v
TruthMeans s c p (truth.Missing q) = run s c p ≡ refused cause.Missing q

-- the position of a word among some
abbrev pub CaseMeans : List ℕ → Cursor → Rule ℕ → CaseRead → Type 0
CaseMeans s c p (case.Is i m) = Took 1 s c m p i
CaseMeans s c p (case.Refused r q) = run s c p ≡ refused r q

-- ---- words in lists

abbrev pub place_in : List (List ℕ) → Option (List ℕ) → Option ℕ
place_in ns none = none
place_in ns (some w) = find ns 0 w

-- the place of the next token in a list, if it is a word that stands there, a name or a keyword
abbrev pub listed_in : List (List ℕ) → List Token → Option ℕ
listed_in ns ts = place_in ns (word_of (kind ts))

-- whether no word of a list is a keyword
unfoldable pub no_keywords : List (List ℕ) → Bool
no_keywords [] = true
no_keywords (n ∷ ns) = not (is_keyword n) && no_keywords ns

abbrev pub pass_of : Passing → Pass
pass_of passing.Halts = halts
pass_of passing.Closes = closes
pass_of (passing.Goes d) = goes d
