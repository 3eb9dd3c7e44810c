use Rattle.read_cursor.specs.Means.{tokens}
use Rattle.read_fields.specs.Means.{names}
use Rattle.words.proofs.KeyLaws.{some_place, none_place}
use Rattle.text.specs.Bytes.{at}
use mathlib.Core.Path.{sym, ◌∙◌}
use Rattle.words.proofs.KeyLaws.{place_some, place_none}
use Rattle.read_cursor.proofs.ListedLaws.{listed-word}
use Rattle.read_fields.proofs.FieldLaws.{all_alone, took_loop, took_field, loop_unlisted, plain-start, started}
use Rattle.read_fields.proofs.start_field.Goals as goal

pub returns-then-sees_word : goal.returns-then-sees_word
returns-then-sees_word c t e =
    let n = rw (sym e) at (place_none c.listed.ensures c.in-None.is) in
    let l = sym c.sees_word.ensures ∙ c.if-sees_word.true in
    started t c.after_name.result (took_loop c.requires c.advance.ensures l)
    (c.after_name.ensures t _ (none_place (loop_unlisted (names t) (tokens c.args.text.now c.args.c) n l)))

pub returns-else-sees_word : goal.returns-else-sees_word
returns-else-sees_word c t e =
    let args = c.args in
    let n = rw (sym e) at (place_none c.listed.ensures c.in-None.is) in
    plain-start args.text.now args.c t c.unlisted.result (sym c.sees_word.ensures ∙ c.if-sees_word.false)
    (c.unlisted.ensures t n)

pub returns-in-Some : goal.returns-in-Some
returns-in-Some c t e =
    let l = listed-word _ _ _ (place_some _ c.listed.ensures c.in-Some.is) in
    started t c.after_name-in-Some.result (took_field c.requires c.hop.ensures l (all_alone c.args.list))
    (c.after_name-in-Some.ensures t _ (some_place (rw e l.found)))
