-- `read_cursor::truth` meets its contract.
use mathlib.Core.Path.{sym, ◌∙◌}
use Rattle.read_cursor.proofs.CursorLaws.{took_true, took_false, no_truth}
use Rattle.read_cursor.proofs.truth.Goals as goal

pub returns-then-sees_word : goal.returns-then-sees_word
returns-then-sees_word c =
    took_true
    c.args.text.now
    c.args.c
    c.advance.result
    c.requires
    c.advance.ensures
    (sym c.sees_word.ensures ∙ c.if-sees_word.true)

pub returns-then-sees_word-2 : goal.returns-then-sees_word-2
returns-then-sees_word-2 c =
    took_false
    c.args.text.now
    c.args.c
    c.advance-then-sees_word-2.result
    c.requires
    c.advance-then-sees_word-2.ensures
    (sym c.sees_word.ensures ∙ c.if-sees_word.false)
    (sym c.sees_word-2.ensures ∙ c.if-sees_word-2.true)

pub returns : goal.returns
returns c =
    rw c.place.ensures
    (no_truth c.args.text.now c.args.c c.requires (sym c.sees_word.ensures ∙ c.if-sees_word.false)
    (sym c.sees_word-2.ensures ∙ c.if-sees_word-2.false))
