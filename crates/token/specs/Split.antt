-- 01, "Text rules" and "Limits": a whole text is cut into tokens, or refused with 2 to 5.
use Rattle.std.specs.Prelude.{ℕ, zero, suc, ◌+◌, ◌-◌, cond, List, [], ◌∷◌, ltb, eqb, length}
use Prim.Native.Char.{code}
use Rattle.text.specs.Bytes.{at, among, is_blank}
use Rattle.error.specs.declared.Refusal.{Refusal}
use Rattle.error.specs.declared.Refusal.TheVariants.{Unbalanced, TooManyOpen}
use Rattle.token.specs.Token.{Kind, name, number, quoted, mark, Token, token, Lexeme, bad, piece, lexeme}

-- ---- delimiters: the closers that are awaited, the innermost first

pub data Nest : Type 0 where
  unfit : Refusal → Nest
  awaits : List ℕ → Nest

-- the closer that goes with an opener
abbrev pub closer : ℕ → ℕ
closer b = cond (eqb b (code "(")) (code ")") (b + 2)

-- "closer without its opener": 4
unfoldable pub closed : ℕ → List ℕ → Nest
closed b [] = unfit Unbalanced
closed b (c ∷ cs) = cond (eqb b c) (awaits cs) (unfit Unbalanced)

-- "a 65th opener while 64 are open": 5
unfoldable pub nest_mark : ℕ → List ℕ → Nest
nest_mark b cs =
    cond (among "([{" b) (cond (ltb (length cs) 64) (awaits (closer b ∷ cs)) (unfit TooManyOpen))
    (cond (among ")]}" b) (closed b cs) (awaits cs))

abbrev pub nest : Kind → List ℕ → Nest
nest (name w) cs = awaits cs
nest (number w) cs = awaits cs
nest (quoted n) cs = awaits cs
nest (mark b) cs = nest_mark b cs

-- ---- one step: a blank, a token with its kind, its size and the closers then awaited, or a refusal

pub data Step : Type 0 where
  halt : Refusal → Step
  blank : Step
  takes : Kind → ℕ → List ℕ → Step

abbrev pub nested : Kind → ℕ → Nest → Step
nested k n (unfit r) = halt r
nested k n (awaits cs) = takes k n cs

abbrev pub lexed : List ℕ → Lexeme → Step
lexed cs (bad r) = halt r
lexed cs (piece k n) = nested k n (nest k cs)

unfoldable pub step : List ℕ → List ℕ → Step
step cs t = cond (is_blank (at t 0)) blank (lexed cs (lexeme t))

-- ---- the whole text: "2 to 5 at the first place left to right (an unclosed opener last)"

pub data Split : Type 0 where
  unlexed : Refusal → ℕ → Split
  tokens : List Token → Split

abbrev pub before : Token → Split → Split
before k (unlexed r p) = unlexed r p
before k (tokens ks) = tokens (k ∷ ks)

-- "or opener unclosed": 4, at "the text length"
abbrev pub ended : ℕ → List ℕ → Split
ended p [] = tokens (token p (mark 0) ∷ [])
ended p (c ∷ cs) = unlexed Unbalanced p

-- what a step makes of the tokens behind it; how many bytes more it takes; the closers then awaited
abbrev pub stepped : Step → ℕ → Split → Split
stepped (halt r) p x = unlexed r p
stepped blank p x = x
stepped (takes k n cs) p x = before (token p k) x

abbrev pub more : Step → ℕ
more (halt r) = 0
more blank = 0
more (takes k n cs) = n - 1

abbrev pub awaited : List ℕ → Step → List ℕ
awaited cs (halt r) = cs
awaited cs blank = cs
awaited cs (takes k n cs') = cs'

-- from place p on, t being what is left there and cs the closers awaited; the first k bytes belong to a token before
unfoldable pub split_from : ℕ → ℕ → List ℕ → List ℕ → Split
split_from k p cs [] = ended p cs
split_from (suc k) p cs (b ∷ t) = split_from k (suc p) cs t
split_from zero p cs (b ∷ t) = stepped (step cs (b ∷ t)) p (split_from (more (step cs (b ∷ t))) (suc p) (awaited cs (step cs (b ∷ t))) t)

unfoldable pub split : List ℕ → Split
split t = split_from 0 0 [] t
