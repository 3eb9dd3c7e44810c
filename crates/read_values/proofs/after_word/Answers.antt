-- `read_values::after_word` meets its contract.
use Rattle.grammar.specs.Values.{curves}
use Rattle.words.specs.ListMeans.{list_of}
use Rattle.words.proofs.KeyLaws.{place_some, place_none}
use Rattle.read_values.proofs.NameLaws.{under_row, under_none}
use Rattle.read_values.proofs.EasingLaws.{no_curve, some_curve}
use Rattle.read_values.proofs.after_word.Goals as goal

pub returns-in-None : goal.returns-in-None
unfolding curves list_of
returns-in-None c =
    let args = c.args in
    let u = under_none curves 0 _ (place_none c.find.ensures c.in-None.is) in
    no_curve args.text.now args.c _ c.named_easing.result u c.named_easing.ensures

pub returns-in-Some : goal.returns-in-Some
unfolding curves list_of
returns-in-Some c =
    let args = c.args in
    let u = under_row curves _ _ (place_some _ c.find.ensures c.in-Some.is) in
    some_curve args.text.now args.c _ u.row.1 c.curve.result u.under (c.curve.ensures u.row u.is)
