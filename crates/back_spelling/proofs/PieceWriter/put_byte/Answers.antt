-- `back_spelling::PieceWriter::put_byte` meets its contract.
use Prim.Native.Nat.{◌+◌}
use mathlib.Core.List.{[], ◌∷◌}
use native.Mathlib.Omega.{arith}
use borrow.Author.Tests.{le-leb, lt-leb}
use Rattle.back_spelling.specs.Means.{most, page_of}
use Rattle.back_spelling.proofs.PageLaws.{with_room, no_room}
use Rattle.back_spelling.proofs.PieceWriter.put_byte.Goals as goal

pub returns-then-self-lt-MOST : goal.returns-then-self-lt-MOST
unfolding page_of
returns-then-self-lt-MOST c =
    let p = c.args.self.now in
    rw c.put.ensures.bytes
    (with_room p.out.ghost_name p.pen.at p.pen.fits p.out.now (c.args.b ∷ []) (le-leb (p.pen.at + 1) most (omega arith)))

pub returns-else-self-lt-MOST : goal.returns-else-self-lt-MOST
unfolding page_of
returns-else-self-lt-MOST c =
    let p = c.args.self.now in
    no_room p.out.ghost_name p.pen.at p.pen.fits p.out.now (c.args.b ∷ []) (lt-leb (p.pen.at + 1) most (omega arith))
