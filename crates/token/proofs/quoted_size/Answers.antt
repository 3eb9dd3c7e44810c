use native.Mathlib.Omega.{arith}
use Rattle.text.specs.Bytes.{is_inside}
use borrow.Author.Tests.{eq-eqb, ne_eqb}
use mathlib.Core.Bool.{false, true}
use mathlib.Core.Path.{refl, sym, ◌∙◌}
use Rattle.token.proofs.LexLaws.{quoted_at_is}
use Rattle.text.proofs.ByteLaws.{run_le}
use lib.ListN.{drop, length-drop}
use Prim.Native.Nat.{◌≤◌}
use Rattle.text.specs.Limits.{text_limit}
use Rattle.token.proofs.quoted_size.Goals.{After-run_end-e}
use Rattle.token.proofs.quoted_size.Goals as goal

-- the bytes inside end in the text, or behind a quote that is all of it
ends : (w : After-run_end-e) → w.run_end-e.result ≤ text_limit
ends w =
    let t = w.args.t.now in
    omega (arith, w.run_end-e.ensures, w.requires, run_le is_inside (drop 1 t), length-drop 1 t)

pub overflow_cast-e : goal.overflow_cast-e
overflow_cast-e c = omega (arith, ends c)

pub returns-then-in_class : goal.returns-then-in_class
returns-then-in_class c =
    rw (quoted_at_is c.args.t.now c.run_end-e.result true true c.run_end-e.ensures
    (eq-eqb _ 34 (sym c.byte_at.ensures ∙ c.if-byte_at-eq34.true))
    (rw (sym c.byte_at-then-byte_at-eq34.ensures) (sym c.in_class.ensures ∙ c.if-in_class.true)))

pub returns-then-byte_at-eq34 : goal.returns-then-byte_at-eq34
returns-then-byte_at-eq34 c =
    rw (quoted_at_is c.args.t.now c.run_end-e.result true false c.run_end-e.ensures
    (eq-eqb _ 34 (sym c.byte_at.ensures ∙ c.if-byte_at-eq34.true))
    (rw (sym c.byte_at-then-byte_at-eq34.ensures) (sym c.in_class.ensures ∙ c.if-in_class.false)))

pub returns : goal.returns
returns c =
    rw (quoted_at_is c.args.t.now c.run_end-e.result false _ c.run_end-e.ensures
    (ne_eqb _ 34 (λ q. c.if-byte_at-eq34.false (c.byte_at.ensures ∙ q))) refl)
