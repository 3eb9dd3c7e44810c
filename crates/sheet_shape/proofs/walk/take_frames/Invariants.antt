use Rattle.std.proofs.Common.{◌^◌, ◌<◌}
use Rattle.sheet_shape.proofs.FrameLaws.{Frames}
use Rattle.sheet_shape.proofs.walk.take_frames.Given as goal

abbrev pub invariant-loop : goal.invariant-loop
invariant-loop l = (l.numbers < 2 ^ 64) × Frames l.w l.n l.s l.at l.count l.next l.counter l.numbers
