-- Made by tools/words.py. `words::long_spring_rows` meets its contract.
use mathlib.Core.Path.{refl}
use native.Mathlib.Omega.{arith}
use Rattle.text.specs.Bytes.{bytes, one_of}
use Rattle.words.specs.declared.List.TheVariants as list
use Rattle.words.specs.ListMeans.{list_of}
use Rattle.words.specs.KeyMeans.{onto, pack, packs, keys_of, seek}
use Rattle.words.proofs.KeyLaws.{every}
use Rattle.words.proofs.ListLaws.{middle, is_middle, tail_in, word-at, head_in, heads, no_head}
use Rattle.words.proofs.long_spring_rows.Goals as goal

pub returns-in-8315173673093395571 : goal.returns-in-8315173673093395571
unfolding list_of keys_of packs onto seek every one_of middle tail_in
returns-in-8315173673093395571 c =
    let args = c.args in
    word-at middle (keys_of list.SpringRows) args.v args.rest (omega arith) (is_middle args.rest c.requires (omega arith)) (pack
    (bytes "stiffness")) 1 _ c.in-8315173673093395571.is c.if_equal.ensures refl refl

pub returns-in-8751735851679769974 : goal.returns-in-8751735851679769974
unfolding list_of keys_of packs onto seek every one_of middle tail_in
returns-in-8751735851679769974 c =
    let args = c.args in
    word-at middle (keys_of list.SpringRows) args.v args.rest (omega arith) (is_middle args.rest c.requires (omega arith)) (pack
    (bytes "velocity")) 4 _ c.in-8751735851679769974.is c.if_equal-in-8751735851679769974.ensures refl refl

pub returns-in-8386109769549901417 : goal.returns-in-8386109769549901417
unfolding list_of keys_of packs onto seek every one_of middle tail_in
returns-in-8386109769549901417 c =
    let args = c.args in
    word-at middle (keys_of list.SpringRows) args.v args.rest (omega arith) (is_middle args.rest c.requires (omega arith)) (pack
    (bytes "integrator")) 6 _ c.in-8386109769549901417.is c.if_equal-in-8386109769549901417.ensures refl refl

pub returns-in-8101238388753266287 : goal.returns-in-8101238388753266287
unfolding list_of keys_of packs onto seek every one_of middle tail_in
returns-in-8101238388753266287 c =
    let args = c.args in
    word-at middle (keys_of list.SpringRows) args.v args.rest (omega arith) (is_middle args.rest c.requires (omega arith)) (pack
    (bytes "overdamped")) 8 _ c.in-8101238388753266287.is c.if_equal-in-8101238388753266287.ensures refl refl

pub returns-in-7881691265365208693 : goal.returns-in-7881691265365208693
unfolding list_of keys_of packs onto seek every one_of middle tail_in
returns-in-7881691265365208693 c =
    let args = c.args in
    word-at middle (keys_of list.SpringRows) args.v args.rest (omega arith) (is_middle args.rest c.requires (omega arith)) (pack
    (bytes "underdamped")) 9 _ c.in-7881691265365208693.is c.if_equal-in-7881691265365208693.ensures refl refl

pub returns-in_default : goal.returns-in_default
unfolding list_of keys_of packs onto seek every one_of middle head_in heads
returns-in_default c =
    let args = c.args in
    no_head middle (keys_of list.SpringRows) args.v args.rest (omega arith) (is_middle args.rest c.requires (omega arith)) refl
    c.in_default.in_default-own.rest
