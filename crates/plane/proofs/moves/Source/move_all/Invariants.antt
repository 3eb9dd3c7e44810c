use Prim.Native.Nat.{◌+◌, ◌*◌, ◌-◌}
use mathlib.Core.Path.{◌≡◌}
use lib.ListN.{length}
use Rattle.plane.specs.CarryMeans.{Records, BeforeAll}
use Rattle.plane.proofs.moves.Source.move_all.Given as goal

abbrev pub invariant-loop-at : goal.invariant-loop-at
invariant-loop-at l =
    (length l.out ≡ length l.initial.out)
    × ((d : BeforeAll l.self.width l.self.text_len l.self.bytes.now l.initial.out (l.self.rest + l.self.width * l.self.numbers) l.self.rest l.self.numbers)
    → Records d.o l.self.text_len d.xs l.out l.self.rest l.self.numbers l.progress.done l.progress.to l.progress.numbers l.at l.end d.A d.B)

abbrev pub decreases-loop-at : goal.decreases-loop-at
decreases-loop-at l = l.end - l.at
