use native.Mathlib.Omega.{arith}
use mathlib.Core.Path.{sym, ◌∙◌}
use Rattle.token.proofs.BlankLaws.{none_blank, one-blank}
use Rattle.token.proofs.past_blanks.Goals as goal

pub returns-then-b-gt32 : goal.returns-then-b-gt32
returns-then-b-gt32 c =
    let args = c.args in
    omega (arith, none_blank args.t.now args.at (omega (arith, c.byte_at-b.ensures, c.if-b-gt32.true)))

pub returns-then-byte_at-gt32 : goal.returns-then-byte_at-gt32
returns-then-byte_at-gt32 c =
    let args = c.args in
    omega (
      arith,
      one-blank args.t.now args.at (sym c.byte_at-b.ensures ∙ c.if-b-eq32.true)
          (omega (arith, c.byte_at.ensures, c.if-byte_at-gt32.true)),
    )
