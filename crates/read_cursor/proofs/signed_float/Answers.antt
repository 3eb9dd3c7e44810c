use Rattle.text.specs.Bytes.{at}
use Rattle.error.specs.declared.Refusal.TheVariants.{Malformed}
use Rattle.read_cursor.proofs.CursorLaws.{counts, counted, took_number, signed-number, signed_none, head_place}
use Rattle.grammar.specs.Values.{parse_float}
use Rattle.number.proofs.Floats.{nearest-number}
use Rattle.read_cursor.proofs.signed_float.Goals as goal

pub returns-in-Is : goal.returns-in-Is
unfolding parse_float
returns-in-Is c =
    let args = c.args in
    let n = signed-number args.text.now args.c args.m c.advance.result args.negative _ c.requires.0
    c.requires.2 c.advance.ensures (rw c.in-Is.is at c.number_seen.ensures)
    in
    let t = took_number args.text.now args.c _ _ _ n Malformed in
    let x = c.float_of-x.ensures in
    let k = counted args.text.now c.advance.result n.ready c.float_of-x.result.rounded in (
      record {
        is = rw (t.is, c.count.ensures, k.at, k.left, k.rounded, x.value, x.rounded);
        low = rw (c.count.ensures, k.at) n.low;
        ready = rw c.count.ensures
            (counts args.text.now args.c c.advance.result c.requires.0 n.ready n.rounded n.low
            c.float_of-x.result.rounded);
      },
      rw x.value (nearest-number _ _),
    )

pub returns-in-Not : goal.returns-in-Not
unfolding parse_float
returns-in-Not c =
    let args = c.args in
    let e = signed_none args.text.now args.c args.m args.negative c.requires.0 c.requires.2
    (rw c.in-Not.is at c.number_seen.ensures)
    in
    rw (e, head_place args.text.now args.c c.requires.0, c.place.ensures)
