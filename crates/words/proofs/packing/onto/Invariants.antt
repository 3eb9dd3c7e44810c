use Prim.Native.Nat.{◌+◌, ◌-◌, ◌^◌, ◌<◌}
use mathlib.Core.Path.{◌≡◌}
use Rattle.text.specs.Bytes.{part}
use Rattle.words.specs.KeyMeans.{onto}
use Rattle.words.proofs.packing.onto.Given as goal

abbrev pub invariant-loop-k : goal.invariant-loop-k
invariant-loop-k l = (l.v < 256 ^ (8 - l.k)) × (l.v ≡ onto l.top (part l.text (l.at + l.k) (l.n - l.k)))
