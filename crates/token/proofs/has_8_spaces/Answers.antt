use native.Mathlib.Omega.{arith}
use Rattle.token.proofs.BlankLaws.{spaces_more}
use Rattle.token.proofs.has_8_spaces.Goals as goal

pub loop-n-preserved : goal.loop-n-preserved
loop-n-preserved c = spaces_more c.args.t.now c.args.at c.loop-n.n c.loop-n.all c.loop-n.invariant (omega (arith, c.requires))
