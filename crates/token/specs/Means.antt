-- What the answers of the code mean. Contracts cite these.
use Rattle.std.specs.Prelude.{ℕ, zero, suc, ◌+◌, ◌-◌, ◌*◌, ◌^◌, ◌≤◌, ◌<◌, List, [], ◌∷◌, Bool, true, false, cond, ◌≡◌, ltb, eqb, length, get_or, take, drop, replicate, Result, Ok, Err, Option, Some, None}
use Rattle.text.specs.Limits.{text_limit, whole_limit, places_limit}
use Rattle.text.specs.Bytes.{run, part, decimal, is_digit, is_letter}
use Rattle.text.specs.Words.{words}
use Rattle.number.specs.Number.{Written}
use Rattle.number.specs.Means.{Capped}
use Rattle.token.specs.Token.{Kind, name, number, quoted, mark, Token, token, Lexeme, bad, piece, written_at, places_at}
use Rattle.token.specs.Token.{tokens_from, place, kind, is_mark, rest}
use Rattle.error.specs.declared.Refusal.{Refusal}
use Rattle.error.specs.declared.Refusal.TheVariants.{TooManyOpen, ScratchTooShort}
use Rattle.token.specs.Split.{Nest, unfit, awaits, closer, nest, Split, unlexed, tokens, split_from, split}
use Rattle.token.specs.declared.Number.{Number}
use Rattle.token.specs.declared.Figures.{Figures}
use Rattle.token.specs.declared.Run.{Run}
use Rattle.token.specs.declared.Tok.{Tok}
use Rattle.token.specs.declared.Tok.TheVariants as tok
use Rattle.token.specs.declared.SplitAnswer.{SplitAnswer}
use Rattle.token.specs.declared.SplitAnswer.TheVariants as answer

-- ---- a token

-- the kind that a token of n bytes is, t being the text from its start on
abbrev pub kind_of : List ℕ → ℕ → Tok → Kind
kind_of t n tok.Name = name (take n t)
kind_of t n tok.Num = number (written_at t)
kind_of t n tok.Quoted = quoted (n - 2)
kind_of t n (tok.Mark b) = mark b

-- ---- the token that a text begins with

-- how many bytes it has, none where it is no token
abbrev pub lexeme_size : Lexeme → ℕ
lexeme_size (bad r) = 0
lexeme_size (piece k n) = n

-- what it is, if it is a token, by its first byte
unfoldable pub kind_from : ℕ → Tok
kind_from b = cond (is_letter b) tok.Name (cond (is_digit b) tok.Num (cond (eqb b 34) tok.Quoted (tok.Mark b)))

-- what the digit limits leave of the number that t begins with
pub record Digits (t : List ℕ) : Type 0 where
  pub whole : run is_digit t ≤ whole_limit
  pub places : places_at t ≤ places_limit

-- what the code has of the number w; of a long one, the whole number alone
pub record Reads (w : Written) (n : Number) : Type 0 where
  pub point : n.point ≡ w.point
  pub suffix : n.suffix ≡ w.suffix
  pub few : n.places ≤ 9
  pub digits : n.long ≡ false → n.digits ≡ w.digits
  pub places : n.long ≡ false → n.places ≡ w.places
  pub whole : n.point ≡ false → Capped n.digits w.digits

abbrev pub NumberIs : List ℕ → Number → Type 0
NumberIs t n = Reads (written_at t) n

-- the number that stands in a text where the code says
abbrev pub written_in : List ℕ → Number → Written
written_in s n = written_at (drop n.at s)

pub record Known (s : List ℕ) (n : Number) : Type 0 where
  pub inside : n.at ≤ length s
  pub short : length s ≤ text_limit
  pub limits : Digits (drop n.at s)
  pub is : NumberIs (drop n.at s) n

-- the digits of the number that t begins with
pub record FiguresAre (t : List ℕ) (d : Figures) : Type 0 where
  pub w : d.w ≤ run is_digit t
  pub q : d.q ≤ run is_digit (drop d.from t)
  pub w_few : d.w ≤ whole_limit
  pub q_few : d.q ≤ places_limit
  pub up : d.up ≤ 99
  pub down : d.down ≤ 99
  pub digits : (written_at t).digits ≡ decimal (decimal 0 (part t 0 d.w)) (part t d.from d.q) * 10 ^ d.up
  pub places : (written_at t).places ≡ d.q + d.down
  pub whole : (written_at t).point ≡ false → (written_at t).digits ≡ decimal 0 (part t 0 d.w)

-- r has digits from a place on, at most so many, read onto a number
pub record RunIs (t : List ℕ) (seed from most : ℕ) (r : Run) : Type 0 where
  pub low : from ≤ r.end
  pub high : r.end ≤ from + most
  pub digits : r.end - from ≤ run is_digit (drop from t)
  pub value : r.value ≡ decimal seed (part t from (r.end - from))

-- behind the digits h, those of the fraction if there is a point
abbrev pub FractionIs : List ℕ → Run → Bool → Run → Type 0
FractionIs t h true r = RunIs t h.value (h.end + 1) 9 r
FractionIs t h false r = r ≡ h

-- a token of n bytes; the end where it has none
abbrev pub head_tok : Tok → ℕ → Tok
head_tok k zero = tok.Mark 0
head_tok k (suc n) = k

-- what else is known of a token of n bytes that t begins with; of the end, a mark 0, nothing
abbrev pub Stands : List ℕ → ℕ → Tok → Type 0
Stands t n tok.Name = Unit {0}
Stands t n tok.Num = Digits t
Stands t n tok.Quoted = 2 ≤ n
Stands t n (tok.Mark b) = Unit {0}

pub record Pieces (t : List ℕ) (x : Lexeme) (k : Tok) (n : ℕ) : Type 0 where
  pub is : x ≡ piece (kind_of t n k) n
  pub stands : Stands t n k

-- ---- the token at a place

-- a token of the kind k that stands from `start` to `end` is the first of the tokens from `at` on; only the end takes no byte
pub record Lexes (s : List ℕ) (at start end : ℕ) (k : Tok) : Type 0 where
  pub same : tokens_from s at ≡ tokens_from s start
  pub kind : kind (tokens_from s at) ≡ kind_of (drop start s) (end - start) k
  pub place : place (tokens_from s at) ≡ start
  pub rest : rest (tokens_from s at) ≡ tokens_from s end
  pub low : at ≤ start
  pub some : start ≤ end
  pub high : end ≤ length s
  pub moved : is_mark (kind_of (drop start s) (end - start) k) 0 ≡ false → start < end
  pub stands : Stands (drop start s) (end - start) k

-- the place of the last of some tokens, p where there is none; a text's tokens end at its length where each of them can be cut
unfoldable pub last_place : ℕ → List Token → ℕ
last_place p [] = p
last_place p (token q k ∷ ts) = last_place q ts

-- ---- the pass over a whole text

-- the awaited closers, the innermost first, where the first d words have them, the innermost last
unfoldable pub held : List ℕ → ℕ → List ℕ
held s zero = []
held s (suc d) = get_or s d 0 ∷ held s d

-- what an opener makes of the awaited closers: "a 65th opener while 64 are open": 5
abbrev pub after_opener : ℕ → List ℕ → Nest
after_opener b cs = cond (ltb (length cs) 64) (awaits (closer b ∷ cs)) (unfit TooManyOpen)

-- the first d of the words hold the closers that are awaited then
pub record Awaits (x : Nest) (words : List ℕ) (d : ℕ) : Type 0 where
  pub is : x ≡ awaits (held words d)
  pub few : d ≤ 64

-- what a token makes of the awaited closers, x, as the code has it
abbrev pub DepthMeans : Nest → List ℕ → Result ℕ Refusal → Type 0
DepthMeans x words (Err r) = x ≡ unfit r
DepthMeans x words (Ok d) = Awaits x words d

abbrev pub answer_of : Split → SplitAnswer
answer_of (unlexed r p) = answer.Refused r p
answer_of (tokens ts) = answer.Accepted

-- the answer to the caller, of one whose place has 16 bits
abbrev pub wide_answer : {A : Type 0} → Result A (Refusal × ℕ) → SplitAnswer
wide_answer (Ok x) = answer.Accepted
wide_answer (Err e) = answer.Refused e.0 e.1

-- the answer for what stands from a place on, the closers cs being awaited there
abbrev pub answer_from : List ℕ → ℕ → List ℕ → SplitAnswer
answer_from s at cs = answer_of (split_from 0 at cs (drop at s))

-- the pass goes on at next with d closers awaited, and a is the answer from there on
pub record GoesOn (s : List ℕ) (at : ℕ) (a : SplitAnswer) (words : List ℕ) (next d : ℕ) : Type 0 where
  pub is : a ≡ answer_from s next (held words d)
  pub low : at < next
  pub high : next ≤ length s
  pub few : d ≤ 64

-- what a step from `at` makes of the answer a from there on
abbrev pub TurnMeans : List ℕ → ℕ → SplitAnswer → List ℕ → Result (Option (ℕ × ℕ)) (Refusal × ℕ) → Type 0
TurnMeans s at a words (Err e) = answer.Refused e.0 e.1 ≡ a
TurnMeans s at a words (Ok None) = answer.Accepted ≡ a
TurnMeans s at a words (Ok (Some x)) = GoesOn s at a words x.0 x.1

-- an answer, and the scratch then
abbrev pub split_outcome : SplitAnswer → List ℕ → SplitAnswer × List ℕ
split_outcome a s = (a, s)

-- 01: "2 to 5 at the first place left to right"; "After reading, unless 1 or 16, scratch is all zero"; fewer words than 64 do not do
unfoldable pub splitting : List ℕ → List ℕ → SplitAnswer × List ℕ
splitting t s =
    cond (ltb (length s) 64) (split_outcome (answer.Refused ScratchTooShort 0) s)
    (split_outcome (answer_of (split t)) (replicate (length s) 0))

-- ---- the delimiters alone: where each token of a text can be cut, it is split if they fit, and only then (proofs/NestLaws)

-- whether no closer is awaited
abbrev pub none_open : Nest → Bool
none_open (unfit r) = false
none_open (awaits []) = true
none_open (awaits (c ∷ cs)) = false

-- what a token makes of the awaited closers
abbrev pub nest_on : Kind → Nest → Nest
nest_on k (unfit r) = unfit r
nest_on k (awaits cs) = nest k cs

-- whether the delimiters of tokens fit, up to the text's end, x being awaited before them
unfoldable pub fits : Nest → List Token → Bool
fits x [] = none_open x
fits x (token p k ∷ ts) = cond (is_mark k 0) (none_open x) (fits (nest_on k x) ts)
