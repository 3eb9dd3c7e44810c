use Rattle.std.proofs.Common.{◌≡◌, ℕ, List, length, drop}
use Rattle.text.specs.WriteMeans.{Puts}
use Rattle.lining.specs.Line.{hex}
use Rattle.line.proofs.put_clipped.Given as goal

abbrev pub invariant-loop-b : goal.invariant-loop-b
invariant-loop-b l = (length l.out ≡ length l.initial.out) × ((after : List ℕ) (e : ℕ) → Puts l.out l.end (hex (drop l.b-index l.bytes)) after e → Puts l.initial.out l.at (hex l.bytes) after e)
