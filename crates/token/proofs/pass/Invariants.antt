use Prim.Native.Nat.{◌-◌, ◌≤◌}
use mathlib.Core.Path.{◌≡◌}
use lib.ListN.{length}
use Rattle.token.specs.Means.{answer_from, answer_of, held}
use Rattle.token.specs.Split.{split}
use Rattle.token.proofs.pass.Given as goal

abbrev pub invariant-loop-next : goal.invariant-loop-next
invariant-loop-next l = (length l.words ≡ length l.initial.words) × (l.at ≤ length l.text) × (l.depth ≤ 64) × (answer_of (split l.text) ≡ answer_from l.text l.at (held l.words l.depth))

abbrev pub decreases-loop-next : goal.decreases-loop-next
decreases-loop-next l = length l.text - l.at
