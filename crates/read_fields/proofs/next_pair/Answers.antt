use Rattle.words.proofs.KeyLaws.{some_place}
use Rattle.text.specs.Bytes.{at}
use mathlib.Core.Path.{refl, sym, ◌∙◌}
use Rattle.words.proofs.KeyLaws.{place_some, place_none}
use Rattle.read_cursor.proofs.ListedLaws.{listed-word}
use Rattle.read_fields.proofs.FieldLaws.{took_pair, started, paired, pairs_end}
use Rattle.read_fields.proofs.next_pair.Goals as goal

pub returns-then-ends : goal.returns-then-ends
returns-then-ends c t e = (
  refl,
  pairs_end c.args.text.now t c.args.c c.requires.0
      (sym (c.ends.ensures c.args.text.now c.requires.0) ∙ c.if-ends.true),
)

pub returns-in-None : goal.returns-in-None
returns-in-None c t e =
    let n = rw (sym e) at (place_none c.listed.ensures c.in-None.is) in
    paired
    c.args.text.now
    t
    c.args.c
    c.requires.0
    (sym (c.ends.ensures c.args.text.now c.requires.0) ∙ c.if-ends.false)
    c.unlisted.result
    (c.unlisted.ensures t n)

pub returns-in-Some : goal.returns-in-Some
returns-in-Some c t e =
    let pre = c.requires in
    let l = listed-word _ _ _ (place_some _ c.listed.ensures c.in-Some.is) in
    paired c.args.text.now t c.args.c pre.0
    (sym (c.ends.ensures c.args.text.now pre.0) ∙ c.if-ends.false) c.after_name.result
    (started t c.after_name.result (took_pair pre.0 c.hop.ensures l pre.1)
    (c.after_name.ensures t _ (some_place (rw e l.found))))
