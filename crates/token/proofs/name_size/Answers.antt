use native.Mathlib.Omega.{arith}
use borrow.Author.Tests.{eq-eqb, ne_eqb}
use mathlib.Core.Bool.{false, true}
use Rattle.text.specs.Bytes.{is_name}
use mathlib.Core.Path.{sym, ◌∙◌}
use native.Mathlib.Nat.{zero-add}
use Rattle.token.proofs.LexLaws.{run_fits, name_is}
use Rattle.token.proofs.name_size.Goals as goal

pub overflow_cast-n : goal.overflow_cast-n
overflow_cast-n c = omega (arith, run_fits is_name c.args.t.now 0 (omega arith))

pub returns-then-byte_at-eq34 : goal.returns-then-byte_at-eq34
returns-then-byte_at-eq34 c =
    rw (name_is c.args.t.now c.run_end-n.result true (c.run_end-n.ensures ∙ zero-add _)
    (eq-eqb _ 34 (sym c.byte_at.ensures ∙ c.if-byte_at-eq34.true)))

pub returns : goal.returns
returns c =
    rw (name_is c.args.t.now c.run_end-n.result false (c.run_end-n.ensures ∙ zero-add _)
    (ne_eqb _ 34 (λ q. c.if-byte_at-eq34.false (c.byte_at.ensures ∙ q))))
