use Prim.Native.Nat.{◌-◌, ◌≤◌}
use mathlib.Core.Path.{◌≡◌}
use lib.ListN.{length, drop}
use Rattle.keywords.specs.Means.{pack}
use Rattle.keywords.proofs.packed.Given as goal

abbrev pub invariant-loop-b : goal.invariant-loop-b
invariant-loop-b l = record {
  short : length l.yielded ≤ length l.word;
  packed : l.v ≡ pack (drop (length l.word - length l.yielded) l.word);
}
