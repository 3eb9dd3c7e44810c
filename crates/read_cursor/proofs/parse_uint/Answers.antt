-- `read_cursor::parse_uint` meets its contract.
use Rattle.text.specs.Bytes.{at}
use mathlib.Core.Path.{sym}
use Rattle.error.specs.declared.Refusal.TheVariants.{Missing}
use Rattle.token.specs.Means.{written_in}
use Rattle.grammar.specs.Values.{parse_uint}
use Rattle.read_cursor.proofs.CursorLaws.{head_place, took_whole, whole_missing}
use Rattle.read_cursor.proofs.parse_uint.Goals as goal

pub returns-then-n : goal.returns-then-n
unfolding parse_uint
returns-then-n c =
    let args = c.args in
    let n = rw c.in-Is.is at c.number.ensures in
    let e = whole_missing args.text.now args.c _ _ _ n Missing c.if-n.true in
    rw (e, head_place args.text.now args.c c.requires, c.place.ensures)

pub returns-in-Missing : goal.returns-in-Missing
unfolding parse_uint
returns-in-Missing c = let n = rw c.in-Missing.is at c.number.ensures in rw (n.0, n.1)

pub returns-in-Some : goal.returns-in-Some
unfolding parse_uint
returns-in-Some c =
    let args = c.args in
    let n = rw c.in-Is.is at c.number.ensures in
    let t = took_whole args.text.now args.c _ _ _ n Missing c.if-n.false in
    let v = rw c.in-Some.is
    at (c.whole.ensures (written_in args.text.now c.in-Is.n)
    (n.known.is.whole c.if-n.false))
    in
    record { is = rw (t.is, sym v); low = t.low; ready = t.ready }

pub returns-in-None : goal.returns-in-None
unfolding parse_uint
returns-in-None c =
    let args = c.args in
    let n = rw c.in-Is.is at c.number.ensures in
    let t = took_whole args.text.now args.c _ _ _ n Missing c.if-n.false in
    let v = rw c.in-None.is
    at (c.whole.ensures (written_in args.text.now c.in-Is.n)
    (n.known.is.whole c.if-n.false))
    in
    rw (t.is, sym v, n.ready.head.place, c.place-in-None.ensures)
