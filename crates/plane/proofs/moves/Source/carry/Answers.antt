-- `plane::moves::Source::carry` meets its contract: 32, or all is moved.
use Rattle.plane.proofs.AnswerLaws.{carried_all}
use Rattle.plane.proofs.moves.Source.carry.Goals as goal

pub returns : goal.returns
returns c = λ k. carried_all k c.if-out-self.false c.move_all.ensures
