-- 01, "Checking", and 02 (g), its list of colours: the operation.
use Rattle.std.specs.Prelude.{ℕ, Bool, cond, ◌||◌, List, eqb, length}
use Rattle.std.proofs.Math.Option.{Option, none, some}
use Rattle.ast.specs.Tree.{Nodes, KeyframeTime}
use Rattle.sheet.specs.Sheet.{decode}
use Rattle.sheet.specs.Opening.{Opened, opened, shut, decoded, after_text}
use Rattle.colors.specs.Css.{names_of}
use Rattle.checking.specs.Rules.{validate_nodes}
use Rattle.error.specs.declared.Refusal.{Refusal}
use Rattle.error.specs.declared.Refusal.TheVariants.{UnknownList}
use Rattle.error.specs.declared.CheckAnswer.{CheckAnswer}
use Rattle.error.specs.declared.CheckAnswer.TheVariants.{Accepted, Refused}

abbrev pub answer_of : Option (Refusal × ℕ) → CheckAnswer
answer_of none = Accepted
answer_of (some f) = Refused f.0 f.1

-- the checking rules' answer to a tree: "25 under the chosen list"
unfoldable pub judged : ℕ → List ℕ → Nodes KeyframeTime → CheckAnswer
judged list t ns = answer_of (validate_nodes (names_of list) t 1 ns)

abbrev pub verdict : ℕ → List ℕ → Opened → CheckAnswer
verdict list t (shut r p) = Refused r p
verdict list t (opened ns) = judged list t ns

-- "chosen by the caller as 1 or 2"
unfoldable pub is_list : ℕ → Bool
is_list list = eqb list 1 || eqb list 2

-- "36 for a list other than the two"
abbrev pub unless_unknown : ℕ → Opened → Opened
unless_unknown list o = cond (is_list list) o (shut UnknownList 0)

-- "1, 2 .., 20 for the whole sheet", and 36 "after 1 and 2"
unfoldable pub opening_under : ℕ → List ℕ → List ℕ → Opened
opening_under list t sheet = after_text t (unless_unknown list (decoded (decode (length t) sheet)))

-- "In checking: 1, 2 .., 20 for the whole sheet, then nodes in preorder"
unfoldable pub checking : ℕ → List ℕ → List ℕ → CheckAnswer
checking list t sheet = verdict list t (opening_under list t sheet)
