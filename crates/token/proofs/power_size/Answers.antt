-- `token::power_size` meets its contract.
use mathlib.Core.Path.{sym, ap, ◌∙◌}
use Rattle.token.specs.Token.{power_digits}
use Rattle.token.proofs.LexLaws.{size_is}
use Rattle.token.proofs.power_size.Goals as goal

pub returns-then-b : goal.returns-then-b
returns-then-b c =
    let t = c.args.t.now in
    c.power_digits.ensures ∙ ap (power_digits t) c.power_from.ensures
    ∙ sym (size_is t _ _ c.byte_at-b.ensures _ c.if-b.true)

pub returns : goal.returns
returns c = sym (size_is _ _ _ c.byte_at-b.ensures _ c.if-b.false)
