use Rattle.token.proofs.TokenLaws.{rest_of}
use Rattle.token.proofs.SplitLaws.{held_some, over_end, over_bad, over_unfit, goes_on}
use Rattle.token.proofs.WholeLaws.{whole_of}
use Rattle.token.proofs.PieceLaws.{piece_of, none_of}
use Rattle.token.specs.Token.{lexeme}
use Rattle.token.specs.Means.{Pieces, answer_of, answer_from, held}
use Rattle.token.specs.Split.{ended}
use Rattle.token.specs.declared.SplitAnswer.TheVariants as answer
use Rattle.error.specs.declared.Refusal.TheVariants.{Unbalanced}
use mathlib.Core.List.{List}
use Prim.Native.Nat.{ℕ}
use lib.ListN.{drop, length-drop}
use mathlib.Core.Path.{◌≡◌, sym, ◌∙◌}
use native.Mathlib.Omega.{arith}
use Rattle.token.proofs.step.Goals.{After-kind_of, Then-text-start}
use Rattle.token.proofs.step.Goals as goal

-- the token behind the blanks
piece : (w : After-kind_of) →
    let t = drop w.past_blanks-start.result w.args.text.now in
    Pieces t (lexeme t) w.kind_of.result w.size_of-n.result
piece w =
    let s = w.args.text.now in
    let start = w.past_blanks-start.result in
    let n = rw (rest_of s start) at w.size_of-n.ensures in
    let b = rw (rest_of s start) at w.byte_at.ensures in
    rw (w.kind_of.ensures, b) (piece_of (drop start s) _ n (omega (arith, w.if-n-eq0.false)))

-- the answer at the end
last : (w : Then-text-start) →
    answer_from w.args.text.now w.args.at (held w.args.words.now w.args.depth)
    ≡ answer_of (ended w.past_blanks-start.result (held w.args.words.now w.args.depth))
last w = over_end w.args.text.now w.args.at w.past_blanks-start.result w.past_blanks-start.ensures _ (omega arith)

none_open : (s : List ℕ) (place depth : ℕ) → depth ≡ 0 → answer.Accepted ≡ answer_of (ended place (held s depth))
unfolding held
none_open s place depth e = rw e

some_open : (s : List ℕ) (place depth : ℕ) → (depth ≡ 0 → ⊥) → answer.Refused Unbalanced place ≡ answer_of (ended place (held s depth))
some_open s place depth h = rw (held_some s depth h)

pub returns-then-depth-eq0 : goal.returns-then-depth-eq0
returns-then-depth-eq0 c =
    let args = c.args in
    none_open args.words.now c.past_blanks-start.result args.depth c.if-depth-eq0.true
    ∙ sym (last (goal.at.returns-then-depth-eq0 c).Then-text-start)

pub returns-then-text-start : goal.returns-then-text-start
returns-then-text-start c =
    let args = c.args in
    some_open args.words.now c.past_blanks-start.result args.depth c.if-depth-eq0.false
    ∙ sym (last (goal.at.returns-then-text-start c).Then-text-start)

pub returns-then-n-eq0 : goal.returns-then-n-eq0
returns-then-n-eq0 c =
    let args = c.args in
    let rest = rest_of args.text.now c.past_blanks-start.result in
    let n = rw rest at c.size_of-n.ensures in
    sym (over_bad args.text.now args.at c.past_blanks-start.result c.past_blanks-start.ensures _ (omega arith) _
    (none_of (drop c.past_blanks-start.result args.text.now) c.why.result (sym c.if-n-eq0.true ∙ n)
    (rw rest at c.why.ensures)))

pub overflow_add-result : goal.overflow_add-result
overflow_add-result c =
    let m = piece (goal.at.overflow_add-result c).After-kind_of in
    omega (arith, rw length-drop at (whole_of _ _ _ m.is).high)

pub returns-in-Err : goal.returns-in-Err
returns-in-Err c =
    let args = c.args in
    let m = piece (goal.at.returns-in-Err c).After-kind_of in
    sym (over_unfit args.text.now args.at c.past_blanks-start.result c.past_blanks-start.ensures _
    (omega arith) _ _ m _
    (rw c.in-Err.is
    at (c.nest.ensures (drop c.past_blanks-start.result args.text.now) c.size_of-n.result)))

pub returns-in-Ok : goal.returns-in-Ok
returns-in-Ok c =
    let args = c.args in
    let m = piece (goal.at.returns-in-Ok c).After-kind_of in
    goes_on args.text.now args.at c.past_blanks-start.result c.past_blanks-start.ensures _ (omega arith) _ _ m
    _ _
    (rw c.in-Ok.is
    at (c.nest.ensures (drop c.past_blanks-start.result args.text.now) c.size_of-n.result))
