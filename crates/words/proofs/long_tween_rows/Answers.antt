-- Made by tools/words.py. `words::long_tween_rows` meets its contract.
use mathlib.Core.Path.{refl}
use native.Mathlib.Omega.{arith}
use Rattle.text.specs.Bytes.{bytes, one_of}
use Rattle.words.specs.declared.List.TheVariants as list
use Rattle.words.specs.ListMeans.{list_of}
use Rattle.words.specs.KeyMeans.{onto, pack, packs, keys_of, seek}
use Rattle.words.proofs.KeyLaws.{every}
use Rattle.words.proofs.ListLaws.{middle, is_middle, tail_in, word-at, head_in, heads, no_head}
use Rattle.words.proofs.long_tween_rows.Goals as goal

pub returns-in-7957695015158969700 : goal.returns-in-7957695015158969700
unfolding list_of keys_of packs onto seek every one_of middle tail_in
returns-in-7957695015158969700 c =
    let args = c.args in
    word-at middle (keys_of list.TweenRows) args.v args.rest (omega arith) (is_middle args.rest c.requires (omega arith)) (pack
    (bytes "duration")) 0 _ c.in-7957695015158969700.is c.if_equal.ensures refl refl

pub returns-in-7017579497934121332 : goal.returns-in-7017579497934121332
unfolding list_of keys_of packs onto seek every one_of middle tail_in
returns-in-7017579497934121332 c =
    let args = c.args in
    word-at middle (keys_of list.TweenRows) args.v args.rest (omega arith) (is_middle args.rest c.requires (omega arith)) (pack
    (bytes "time_scale")) 3 _ c.in-7017579497934121332.is c.if_equal-in-7017579497934121332.ensures refl refl

pub returns-in_default : goal.returns-in_default
unfolding list_of keys_of packs onto seek every one_of middle head_in heads
returns-in_default c =
    let args = c.args in
    no_head middle (keys_of list.TweenRows) args.v args.rest (omega arith) (is_middle args.rest c.requires (omega arith)) refl
    c.in_default.in_default-own.rest
