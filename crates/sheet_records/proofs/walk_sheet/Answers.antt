-- `sheet_records::walk_sheet` meets its contract: the walk ends where the bytes do just if they decode, and the head is passed first.
use Rattle.sheet_records.proofs.SeekLaws.{seeks_head, no_walk}
use Rattle.sheet_records.proofs.WalkLaws as walks
use Rattle.sheet_records.proofs.walk_sheet.Goals as goal

pub returns-then-bytes-gt65535 : goal.returns-then-bytes-gt65535
returns-then-bytes-gt65535 c = no_walk _ _ c.if-bytes-gt65535.true c.lost.ensures

pub returns : goal.returns
returns c =
    let r = c.take_field-count.ensures.reads in
    let w = c.walk_nodes.ensures in
    record {
      decides = walks.decides _ _ c.if-bytes-gt65535.false r w.reads;
      seeks = λ ns e h. w.seeks ns _ e (seeks_head _ _ ns e c.args.from.now h r c.pass.ensures);
    }
