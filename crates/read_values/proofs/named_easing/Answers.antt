-- `read_values::named_easing` meets its contract.
use mathlib.Core.Logic.{inl, inr}
use Rattle.read_values.proofs.EasingLaws.{pair_missing, plain_name, tested, variant_refused, variant_took}
use mathlib.Core.Path.{◌∙◌}
use Rattle.read_cursor.proofs.CursorLaws.{stays}
use Rattle.read_values.proofs.named_easing.Goals as goal

pub returns-then-not-is_word : goal.returns-then-not-is_word
returns-then-not-is_word c =
    let args = c.args in (
      stays args.text.now args.c c.requires.0 _ _
          (plain_name args.text.now args.c args.name c.requires.1
          (inl (tested _ _ _ _ c.part.ensures c.is_word.ensures ∙ c.if-not-is_word.true))),
      tt,
    )

pub returns-in-Missing : goal.returns-in-Missing
returns-in-Missing c =
    let args = c.args in (
      stays args.text.now args.c c.requires.0 _ _
          (plain_name args.text.now args.c args.name c.requires.1
          (inr (pair_missing args.text.now args.c 58 58 _ (rw c.in-Missing.is at c.both.ensures)))),
      tt,
    )

pub returns-in-Missing-word : goal.returns-in-Missing-word
returns-in-Missing-word c =
    variant_refused
    c.args.text.now
    c.args.c
    c.args.name
    c.requires.1
    (tested _ _ _ _ c.part.ensures c.is_word.ensures ∙ c.if-not-is_word.false)
    _ _
    (rw c.in-Is.is at c.both.ensures)
    (rw c.in-Missing-word.is at c.word.ensures)

pub returns-in-Is-word : goal.returns-in-Is-word
returns-in-Is-word c =
    let w = rw c.in-Is-word.is at c.word.ensures in (
      variant_took
          c.args.text.now
          c.args.c
          c.args.name
          c.requires.1
          (tested _ _ _ _ c.part.ensures c.is_word.ensures ∙ c.if-not-is_word.false)
          _ _ _
          (rw c.in-Is.is at c.both.ensures)
          w.0
          w.1,
      tt,
    )
