-- `line::put_clipped` meets its contract; the loop keeps that what is written from here on is written from the start.
use Rattle.std.proofs.Common.{◌∙◌}
use Rattle.lining.proofs.LineLaws.{hex-at, hex_end}
use Rattle.text.proofs.WriteLaws.{puts_none, puts_then}
use Rattle.line.proofs.put_clipped.Goals as goal

pub loop-b-preserved : goal.loop-b-preserved
loop-b-preserved c = (
  c.put_byte-end.auto.out ∙ c.loop-b.invariant.0,
  λ after e p. c.loop-b.invariant.1 after e
      (rw (hex-at c.args.bytes.now c.loop-b.b-index c.loop-b-test.true) (puts_then c.put_byte-end.ensures p)),
)

pub returns : goal.returns
returns c = c.loop-b.invariant.1 _ _ (rw (hex_end c.args.bytes.now c.loop-b.b-index c.loop-b-test.false) (puts_none _ _))
