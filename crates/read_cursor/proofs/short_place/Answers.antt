use native.Mathlib.Omega.{arith}
use mathlib.Core.Path.{refl}
use Rattle.read_cursor.proofs.WordLaws.{place-long, place_end, place-mark}
use Rattle.read_cursor.proofs.short_place.Goals as goal

pub returns-then-k-ge256 : goal.returns-then-k-ge256
returns-then-k-ge256 c = place-long c.args.c _ _ c.code-k.ensures refl (omega arith)

pub returns-then-k-e : goal.returns-then-k-e
returns-then-k-e c = place_end c.args.c _ _ c.code-k.ensures c.end-e.ensures (omega arith) c.if-k-e.true

pub returns : goal.returns
returns c = place-mark c.args.c _ _ c.code-k.ensures c.end-e.ensures (omega arith) c.if-k-e.false
