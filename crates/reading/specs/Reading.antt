-- 01, "Reading": the operation, with its buffers.
use Rattle.std.specs.Prelude.{ℕ, suc, ◌-◌, cond, List, [], ◌++◌, ltb, length, replicate}
use Rattle.std.proofs.Math.Option.{Option, none, some}
use Rattle.text.specs.Limits.{text_limit}
use Rattle.token.specs.Split.{Split, unlexed, tokens, split}
use Rattle.number.specs.Time.{Key}
use Rattle.ast.specs.Tree.{Nodes, map_times, records}
use Rattle.sheet.specs.Sheet.{encode}
use Rattle.grammar.specs.Rule.{Out, got, refused}
use Rattle.grammar.specs.Grammar.{stored, animato_input}
use Rattle.error.specs.declared.Refusal.{Refusal}
use Rattle.error.specs.declared.Refusal.TheVariants.{TextTooLong, ScratchTooShort, Leftover, SheetTooShort}
use Rattle.error.specs.declared.ReadAnswer.{ReadAnswer}
use Rattle.error.specs.declared.ReadAnswer.TheVariants.{Accepted, Refused}

-- ---- the grammar's tree of a text and how many of its numbers were rounded, or the first of the refusals 2 to 13

pub data Parsed : Type 0 where
  tree : Nodes Key → ℕ → Parsed
  wrong : Refusal → ℕ → Parsed

abbrev pub unless_left : Nodes Key → ℕ → Option ℕ → Parsed
unless_left ns k none = tree ns k
unless_left ns k (some p) = wrong Leftover p

abbrev pub finished : Out (Nodes Key) → Parsed
finished (got ns l ts) = unless_left ns l.rounded l.leftover
finished (refused r p) = wrong r p

-- "then 2 to 5 .., then 6 to 12 at the first one the Rust meets, then 13"; a repetition takes a byte with each step
abbrev pub parsed : ℕ → Split → Parsed
parsed n (unlexed r p) = wrong r p
parsed n (tokens ts) = finished (animato_input (record { leftover = none; rounded = 0; bound = suc n }) ts)

unfoldable pub parse : List ℕ → Parsed
parse t = parsed (length t) (split t)

-- ---- the operation

-- the answer, and the sheet's bytes from its start; "then 14"
abbrev pub fitting : ℕ → List ℕ → ℕ → ℕ → ReadAnswer × List ℕ
fitting room bs n k = cond (ltb room (length bs)) (Refused SheetTooShort 0, []) (Accepted (length bs) n k, bs)

abbrev pub answered : ℕ → ℕ → Parsed → ReadAnswer × List ℕ
answered n room (wrong r p) = (Refused r p, [])
answered n room (tree ns k) = fitting room (encode n (map_times stored ns)) (records ns) k

-- 02 (j): "16 now means fewer than 64 words"
abbrev pub scratch_words : ℕ
scratch_words = 64

-- "Order in reading: 1, 16", which leave everything as it was
unfoldable pub early : ℕ → ℕ → Option Refusal
early size words = cond (ltb text_limit size) (some TextTooLong) (cond (ltb words scratch_words) (some ScratchTooShort) none)

-- "After reading, unless 1 or 16, scratch is all zero; the sheet is zero past its length, and all zero on a refusal"
abbrev pub cleared : List ℕ → List ℕ → ReadAnswer × List ℕ → ReadAnswer × List ℕ × List ℕ
cleared scratch sheet w = (w.0, replicate (length scratch) 0, w.1 ++ replicate (length sheet - length w.1) 0)

abbrev pub unless_early : List ℕ → List ℕ → List ℕ → Option Refusal → ReadAnswer × List ℕ × List ℕ
unless_early t scratch sheet (some r) = (Refused r 0, scratch, sheet)
unless_early t scratch sheet none = cleared scratch sheet (answered (length t) (length sheet) (parse t))

-- an answer, and the scratch and the sheet afterwards
abbrev pub outcome : ReadAnswer → List ℕ → List ℕ → ReadAnswer × List ℕ × List ℕ
outcome r scratch sheet = (r, scratch, sheet)

unfoldable pub reading : List ℕ → List ℕ → List ℕ → ReadAnswer × List ℕ × List ℕ
reading t scratch sheet = unless_early t scratch sheet (early (length t) (length scratch))
