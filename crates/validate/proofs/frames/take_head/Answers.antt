-- `validate::frames::take_head` meets its contract: the target, then the count.
use Rattle.sheet_decode.specs.Means.{passed}
use Rattle.sheet_decode.proofs.ReadLaws.{mapped}
use Rattle.validate.proofs.frames.take_head.Goals as goal

pub returns : goal.returns
returns c =
    record {
      between = c.take_span-target.result.next;
      target_at = mapped passed c.take_span-target.ensures;
      count_at = c.take_field-count.ensures.reads;
    }
