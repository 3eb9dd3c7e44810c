-- `easing::is_named_easing` meets its contract: in snake case the first 24 bytes decide.
use Rattle.text.proofs.WriteLaws.{puts_front}
use Rattle.easing.proofs.NameLaws.{easing-plain, easing_variant}
use Rattle.easing.proofs.is_named_easing.Goals as goal

pub returns-then-not-variant : goal.returns-then-not-variant
returns-then-not-variant c = easing-plain _ _ _ c.if-not-variant.true-raw c.holds.ensures

pub returns : goal.returns
returns c =
    easing_variant _ _ _ _ _ c.if-not-variant.false-raw c.part.ensures (puts_front c.to_snake_case-n.ensures)
    c.holds-2.ensures
