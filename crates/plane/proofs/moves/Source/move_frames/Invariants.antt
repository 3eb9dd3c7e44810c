use Prim.Native.Nat.{◌-◌}
use mathlib.Core.Path.{◌≡◌}
use lib.ListN.{length}
use Rattle.plane.specs.CarryMeans.{Frames, BeforeFrames}
use Rattle.plane.proofs.moves.Source.move_frames.Given as goal

abbrev pub invariant-loop : goal.invariant-loop
invariant-loop l =
    (length l.out ≡ length l.initial.out)
    × ((d : BeforeFrames l.self.width l.self.text_len l.self.bytes.now l.initial.out l.self.rest l.self.numbers l.fn.progress.done l.fn.progress.to
    l.fn.progress.numbers l.fn.at l.count)
    → Frames d.o l.self.text_len d.xs l.out l.self.rest l.self.numbers l.progress.done l.progress.to l.progress.numbers l.at (l.count - l.counter)
    d.A d.B d.C)
