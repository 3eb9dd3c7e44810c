-- `back_easings::easings::copy_named` meets its contract.
use Rattle.back_easings.proofs.PairLaws.{named-read}
use Rattle.back_easings.proofs.easings.copy_named.Goals as goal

pub returns : goal.returns
returns c =
    named-read c.args.text.now _ c.take_flag-variant.ensures c.take_span-x.ensures c.part.ensures
    c.put_named.ensures
