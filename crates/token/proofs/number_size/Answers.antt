use native.Mathlib.Omega.{arith}
use borrow.Author.Tests.{ltb-false}
use mathlib.Core.Path.{sym, ◌∙◌}
use native.Mathlib.Nat.{zero-add}
use Rattle.token.proofs.LexLaws.{run_fits}
use Rattle.token.proofs.WholeLaws.{neither}
use Rattle.token.proofs.PieceLaws.{number_short}
use Rattle.text.specs.Bytes.{is_digit}
use Rattle.token.proofs.number_size.Goals as goal

pub overflow_cast-w : goal.overflow_cast-w
overflow_cast-w c = omega (arith, run_fits is_digit c.args.t.now 0 (omega arith))

pub returns : goal.returns
returns c =
    let few = neither _ _ c.if-b-in_class.false in
    let plain = neither _ _ few.0 in
    number_short c.args.t.now c.run_end-w.result c.byte_at-b.result
    (c.run_end-w.ensures ∙ zero-add _) c.byte_at-b.ensures
    plain.0 (sym c.in_class.ensures ∙ plain.1) (ltb-false 40 _ few.1)
