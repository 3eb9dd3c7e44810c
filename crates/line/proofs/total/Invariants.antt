use Rattle.std.proofs.Common.{◌≡◌, ◌+◌, ◌%◌, ◌<◌, drop}
use Rattle.lining.specs.Line.{total}
use Rattle.line.proofs.total.Given as goal

abbrev pub invariant-loop-b : goal.invariant-loop-b
invariant-loop-b l = (l.sum < 256) × ((l.sum + total (drop l.b-index l.part)) % 256 ≡ (l.before + total l.part) % 256)
