-- `back_copying::fields::copy_opt_case` meets its contract.
use lib.ListN.{length}
use Rattle.codec.specs.Codec.{below}
use Rattle.fresh.specs.Fresh.{choose}
use Rattle.back_copying.proofs.CopyLaws.{absent_field, present_field}
use Rattle.back_copying.proofs.fields.copy_opt_case.Goals as goal

pub returns-then-k-eq0 : goal.returns-then-k-eq0
returns-then-k-eq0 c = λ f ns e g. absent_field f (choose ns) (below (length c.args.names.now)) c.take_byte-k.ensures c.if-k-eq0.true

pub returns : goal.returns
returns c =
    λ f ns e g. present_field f (choose ns) (below (length c.args.names.now)) c.take_byte-k.ensures c.if-k-eq0.false e
    c.put_field.ensures (c.copy_choice.ensures ns g)
