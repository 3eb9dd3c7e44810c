use Rattle.read_cursor.proofs.CursorLaws.{head_told}
use Rattle.words.specs.KeyMeans.{place_is}
use Rattle.read_cursor.proofs.listed.Goals as goal

pub returns-in-Mark : goal.returns-in-Mark
unfolding place_is
returns-in-Mark c = rw (head_told c.args.text.now c.args.c c.requires _ c.kind-k.ensures, c.in-Mark.is)

pub returns-in-Num : goal.returns-in-Num
unfolding place_is
returns-in-Num c = rw (head_told c.args.text.now c.args.c c.requires _ c.kind-k.ensures, c.in-Num.is)

pub returns-in-Quoted : goal.returns-in-Quoted
unfolding place_is
returns-in-Quoted c = rw (head_told c.args.text.now c.args.c c.requires _ c.kind-k.ensures, c.in-Quoted.is)
