use native.Mathlib.Omega.{arith}
use Rattle.read_cursor.proofs.CursorLaws.{head_last}
use Rattle.read_cursor.proofs.advance.Goals as goal

pub start-requires : goal.start-requires
start-requires c = (
  rw c.end.ensures c.requires.head.high,
  c.requires.short,
  rw c.end.ensures (head_last c.args.text.now c.args.c c.requires),
  omega (arith, c.end.ensures, c.requires.few, c.requires.head.some),
)
