use Prim.Native.Nat.{◌-◌, ◌≤◌}
use mathlib.Core.Path.{◌≡◌}
use lib.ListN.{length}
use mathlib.Core.Option.{none}
use Rattle.node_rules.specs.Means.{fault_of}
use Rattle.validate.proofs.FrameLaws as frames
use Rattle.validate.proofs.frames.validate_frames.Given as goal

abbrev pub invariant-loop-j : goal.invariant-loop-j
invariant-loop-j l = frames.Tried l.times l.entry.time l.i l.j

abbrev pub invariant-frames : goal.invariant-frames
invariant-frames l = (l.i ≤ l.count) × (length l.times ≡ length l.initial.times) × (fault_of l.fault ≡ none) × frames.Going l.text l.s l.first l.count l.times l.i l.at

abbrev pub decreases-frames : goal.decreases-frames
decreases-frames l = l.count - l.i
