use Rattle.words.proofs.KeyLaws.{none_place}
use mathlib.Core.Path.{sym, ◌∙◌}
use Rattle.grammar.specs.Fields.{pair_name}
use Rattle.read_fields.specs.Means.{names}
use Rattle.read_fields.proofs.FieldLaws.{took_unlisted, no_plain, head_missing, started}
use Rattle.read_fields.proofs.unlisted.Goals as goal

pub returns-then-sees_name : goal.returns-then-sees_name
returns-then-sees_name c t e =
    let u = took_unlisted c.requires c.advance.ensures (names t) e
    (sym c.sees_name.ensures ∙ c.if-sees_name.true)
    in
    started t c.after_name.result u.1 (c.after_name.ensures t u.0 (none_place u.2))

pub returns : goal.returns
returns c t e =
    let args = c.args in
    rw c.place.ensures
    (head_missing args.text.now pair_name args.c t _ _
    (no_plain args.text.now args.c c.requires (sym c.sees_name.ensures ∙ c.if-sees_name.false)))
