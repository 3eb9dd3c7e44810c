-- What token_split gives.
use Rattle.std.specs.Prelude.{ℕ, cond, List, ◌≡◌, ltb, length}
use Rattle.text.specs.Limits.{text_limit}
use Rattle.error.specs.Refusal.{number_of}
use Rattle.error.specs.declared.Refusal.TheVariants.{TextTooLong}
use Rattle.token.specs.Means.{splitting}
use Rattle.token.specs.declared.SplitAnswer.{SplitAnswer}
use Rattle.token.specs.declared.SplitAnswer.TheVariants.{Accepted, Refused}

-- the number of an answer: 0, or the refusal's
abbrev pub answer_number : SplitAnswer → ℕ
answer_number Accepted = 0
answer_number (Refused r p) = number_of r

-- 01: "text over 16,384 bytes", 1, and "everything" is left as it was; of any other text what token::split gives
unfoldable pub limited : List ℕ → List ℕ → SplitAnswer × List ℕ
limited t s = cond (ltb text_limit (length t)) (Refused TextTooLong 0, s) (splitting t s)

-- r is the number of the answer of x, and scratch the scratch of x
pub record Answers (x : SplitAnswer × List ℕ) (r : ℕ) (scratch : List ℕ) : Type 0 where
  pub number : r ≡ answer_number x.0
  pub words : scratch ≡ x.1
