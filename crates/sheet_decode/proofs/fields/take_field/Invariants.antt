use Prim.Native.Nat.{◌+◌, ◌<◌, ◌^◌, ◌≤◌}
use mathlib.Core.Option.{some}
use mathlib.Core.Path.{◌≡◌}
use lib.ListN.{drop, length}
use Rattle.codec.specs.Codec.{big}
use Rattle.sheet_decode.proofs.fields.take_field.Given as goal

abbrev pub invariant-loop-k : goal.invariant-loop-k
invariant-loop-k l = (l.at + l.width ≤ length l.s) × (l.v < 256 ^ l.k) × ((big l.k).read (drop l.at l.s) ≡ some (l.v, drop (l.at + l.k) l.s))
