-- Made by tools/words.py. `words::long_easings_ease_out` meets its contract.
use mathlib.Core.Path.{refl}
use native.Mathlib.Omega.{arith}
use Rattle.text.specs.Bytes.{bytes, one_of}
use Rattle.words.specs.declared.List.TheVariants as list
use Rattle.words.specs.ListMeans.{list_of}
use Rattle.words.specs.KeyMeans.{onto, pack, packs, keys_of, seek}
use Rattle.words.proofs.KeyLaws.{every}
use Rattle.words.proofs.ListLaws.{middle, is_middle, tail_in, tails, tail_at, no_tail}
use Rattle.words.proofs.long_easings_ease_out.Goals as goal

pub returns-in-1530643444063 : goal.returns-in-1530643444063
unfolding list_of keys_of packs onto seek
returns-in-1530643444063 c =
    tail_at (keys_of list.Easings) 8391735936189423973 c.args.rest (pack (bytes "ease_out_quad")) 2 c.in-1530643444063.is refl refl

pub returns-in-390779251286879 : goal.returns-in-390779251286879
unfolding list_of keys_of packs onto seek
returns-in-390779251286879 c =
    tail_at (keys_of list.Easings) 8391735936189423973 c.args.rest (pack (bytes "ease_out_cubic")) 5 c.in-390779251286879.is refl refl

pub returns-in-409509586891103 : goal.returns-in-409509586891103
unfolding list_of keys_of packs onto seek
returns-in-409509586891103 c =
    tail_at (keys_of list.Easings) 8391735936189423973 c.args.rest (pack (bytes "ease_out_quart")) 8 c.in-409509586891103.is refl refl

pub returns-in-409492541239647 : goal.returns-in-409492541239647
unfolding list_of keys_of packs onto seek
returns-in-409492541239647 c =
    tail_at (keys_of list.Easings) 8391735936189423973 c.args.rest (pack (bytes "ease_out_quint")) 11 c.in-409492541239647.is refl refl

pub returns-in-1535155729247 : goal.returns-in-1535155729247
unfolding list_of keys_of packs onto seek
returns-in-1535155729247 c =
    tail_at (keys_of list.Easings) 8391735936189423973 c.args.rest (pack (bytes "ease_out_sine")) 14 c.in-1535155729247.is refl refl

pub returns-in-1578139936095 : goal.returns-in-1578139936095
unfolding list_of keys_of packs onto seek
returns-in-1578139936095 c =
    tail_at (keys_of list.Easings) 8391735936189423973 c.args.rest (pack (bytes "ease_out_expo")) 17 c.in-1578139936095.is refl refl

pub returns-in-1526632899423 : goal.returns-in-1526632899423
unfolding list_of keys_of packs onto seek
returns-in-1526632899423 c =
    tail_at (keys_of list.Easings) 8391735936189423973 c.args.rest (pack (bytes "ease_out_circ")) 20 c.in-1526632899423.is refl refl

pub returns-in-1560740455007 : goal.returns-in-1560740455007
unfolding list_of keys_of packs onto seek
returns-in-1560740455007 c =
    tail_at (keys_of list.Easings) 8391735936189423973 c.args.rest (pack (bytes "ease_out_back")) 23 c.in-1560740455007.is refl refl

pub returns-in-100595892753490527 : goal.returns-in-100595892753490527
unfolding list_of keys_of packs onto seek
returns-in-100595892753490527 c =
    tail_at (keys_of list.Easings) 8391735936189423973 c.args.rest (pack (bytes "ease_out_bounce")) 29 c.in-100595892753490527.is refl refl

pub returns-in_default : goal.returns-in_default
unfolding list_of keys_of packs onto seek every one_of middle tail_in tails
returns-in_default c =
    let args = c.args in
    no_tail middle (keys_of list.Easings) 8391735936189423973 args.rest (omega arith) (is_middle args.rest c.requires (omega arith)) refl
    c.in_default.in_default-own.rest
