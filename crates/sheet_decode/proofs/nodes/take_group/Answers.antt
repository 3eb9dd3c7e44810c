-- `sheet_decode::nodes::take_group` meets its contract: one field after the other.
use Rattle.sheet_decode.proofs.ReadLaws.{◌&◌}
use Rattle.sheet_decode.proofs.ReadLaws as laws
use Rattle.sheet_decode.proofs.nodes.take_group.Goals as goal

pub returns : goal.returns
returns c =
    laws.seen (c.take_byte-mode.ensures.reads & c.take_field-nodes.ensures.reads) (λ p e i. record {
      mode = (e i).0;
      nodes = (e i).1;
    })
