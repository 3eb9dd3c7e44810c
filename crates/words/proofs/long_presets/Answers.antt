-- Made by tools/words.py. `words::long_presets` meets its contract.
use mathlib.Core.Path.{refl}
use native.Mathlib.Omega.{arith}
use Rattle.text.specs.Bytes.{bytes, one_of}
use Rattle.words.specs.declared.List.TheVariants as list
use Rattle.words.specs.ListMeans.{list_of}
use Rattle.words.specs.KeyMeans.{onto, pack, packs, keys_of, seek}
use Rattle.words.proofs.KeyLaws.{every}
use Rattle.words.proofs.ListLaws.{middle, is_middle, tail_in, word-at, head_in, heads, no_head}
use Rattle.words.proofs.long_presets.Goals as goal

pub returns-in-8391735936188440934 : goal.returns-in-8391735936188440934
unfolding list_of keys_of packs onto seek every one_of middle tail_in
returns-in-8391735936188440934 c =
    let args = c.args in
    word-at middle (keys_of list.Presets) args.v args.rest (omega arith) (is_middle args.rest c.requires (omega arith)) (pack
    (bytes "fade_out")) 1 _ c.in-8391735936188440934.is c.if_equal.ensures refl refl

pub returns-in-7955995105807658099 : goal.returns-in-7955995105807658099
unfolding list_of keys_of packs onto seek every one_of middle tail_in
returns-in-7955995105807658099 c =
    let args = c.args in
    word-at middle (keys_of list.Presets) args.v args.rest (omega arith) (is_middle args.rest c.requires (omega arith)) (pack
    (bytes "slide_in")) 2 _ c.in-7955995105807658099.is c.if_equal-in-7955995105807658099.ensures refl refl

pub returns-in-8462087113933417587 : goal.returns-in-8462087113933417587
unfolding list_of keys_of packs onto seek every one_of middle tail_in
returns-in-8462087113933417587 c =
    let args = c.args in
    word-at middle (keys_of list.Presets) args.v args.rest (omega arith) (is_middle args.rest c.requires (omega arith)) (pack
    (bytes "slide_out")) 3 _ c.in-8462087113933417587.is c.if_equal-in-8462087113933417587.ensures refl refl

pub returns-in-7955995105941349235 : goal.returns-in-7955995105941349235
unfolding list_of keys_of packs onto seek every one_of middle tail_in
returns-in-7955995105941349235 c =
    let args = c.args in
    word-at middle (keys_of list.Presets) args.v args.rest (omega arith) (is_middle args.rest c.requires (omega arith)) (pack
    (bytes "scale_in")) 4 _ c.in-7955995105941349235.is c.if_equal-in-7955995105941349235.ensures refl refl

pub returns-in-8462087114067108723 : goal.returns-in-8462087114067108723
unfolding list_of keys_of packs onto seek every one_of middle tail_in
returns-in-8462087114067108723 c =
    let args = c.args in
    word-at middle (keys_of list.Presets) args.v args.rest (omega arith) (is_middle args.rest c.requires (omega arith)) (pack
    (bytes "scale_out")) 5 _ c.in-8462087114067108723.is c.if_equal-in-8462087114067108723.ensures refl refl

pub returns-in-7592898974499303266 : goal.returns-in-7592898974499303266
unfolding list_of keys_of packs onto seek every one_of middle tail_in
returns-in-7592898974499303266 c =
    let args = c.args in
    word-at middle (keys_of list.Presets) args.v args.rest (omega arith) (is_middle args.rest c.requires (omega arith)) (pack
    (bytes "bounce_in")) 6 _ c.in-7592898974499303266.is c.if_equal-in-7592898974499303266.ensures refl refl

pub returns-in-8025244538726870882 : goal.returns-in-8025244538726870882
unfolding list_of keys_of packs onto seek every one_of middle tail_in
returns-in-8025244538726870882 c =
    let args = c.args in
    word-at middle (keys_of list.Presets) args.v args.rest (omega arith) (is_middle args.rest c.requires (omega arith)) (pack
    (bytes "bounce_out")) 7 _ c.in-8025244538726870882.is c.if_equal-in-8025244538726870882.ensures refl refl

pub returns-in-7954869235914927981 : goal.returns-in-7954869235914927981
unfolding list_of keys_of packs onto seek every one_of middle tail_in
returns-in-7954869235914927981 c =
    let args = c.args in
    word-at middle (keys_of list.Presets) args.v args.rest (omega arith) (is_middle args.rest c.requires (omega arith)) (pack
    (bytes "modal_enter")) 8 _ c.in-7954869235914927981.is c.if_equal-in-7954869235914927981.ensures refl refl

pub returns-in-8675445176294207341 : goal.returns-in-8675445176294207341
unfolding list_of keys_of packs onto seek every one_of middle tail_in
returns-in-8675445176294207341 c =
    let args = c.args in
    word-at middle (keys_of list.Presets) args.v args.rest (omega arith) (is_middle args.rest c.requires (omega arith)) (pack
    (bytes "modal_exit")) 9 _ c.in-8675445176294207341.is c.if_equal-in-8675445176294207341.ensures refl refl

pub returns-in-8025258841117651556 : goal.returns-in-8025258841117651556
unfolding list_of keys_of packs onto seek every one_of middle tail_in
returns-in-8025258841117651556 c =
    let args = c.args in
    word-at middle (keys_of list.Presets) args.v args.rest (omega arith) (is_middle args.rest c.requires (omega arith)) (pack
    (bytes "drawer_open")) 10 _ c.in-8025258841117651556.is c.if_equal-in-8025258841117651556.ensures refl refl

pub returns-in-7160567712662516324 : goal.returns-in-7160567712662516324
unfolding list_of keys_of packs onto seek every one_of middle tail_in
returns-in-7160567712662516324 c =
    let args = c.args in
    word-at middle (keys_of list.Presets) args.v args.rest (omega arith) (is_middle args.rest c.requires (omega arith)) (pack
    (bytes "drawer_close")) 11 _ c.in-7160567712662516324.is c.if_equal-in-7160567712662516324.ensures refl refl

pub returns-in-7954869270576459636 : goal.returns-in-7954869270576459636
unfolding list_of keys_of packs onto seek every one_of middle tail_in
returns-in-7954869270576459636 c =
    let args = c.args in
    word-at middle (keys_of list.Presets) args.v args.rest (omega arith) (is_middle args.rest c.requires (omega arith)) (pack
    (bytes "toast_enter")) 12 _ c.in-7954869270576459636.is c.if_equal-in-7954869270576459636.ensures refl refl

pub returns-in-8675445210955738996 : goal.returns-in-8675445210955738996
unfolding list_of keys_of packs onto seek every one_of middle tail_in
returns-in-8675445210955738996 c =
    let args = c.args in
    word-at middle (keys_of list.Presets) args.v args.rest (omega arith) (is_middle args.rest c.requires (omega arith)) (pack
    (bytes "toast_exit")) 13 _ c.in-8675445210955738996.is c.if_equal-in-8675445210955738996.ensures refl refl

pub returns-in-8389754616235385200 : goal.returns-in-8389754616235385200
unfolding list_of keys_of packs onto seek every one_of middle tail_in
returns-in-8389754616235385200 c =
    let args = c.args in
    word-at middle (keys_of list.Presets) args.v args.rest (omega arith) (is_middle args.rest c.requires (omega arith)) (pack
    (bytes "page_enter")) 14 _ c.in-8389754616235385200.is c.if_equal-in-8389754616235385200.ensures refl refl

pub returns-in-7599935831585284464 : goal.returns-in-7599935831585284464
unfolding list_of keys_of packs onto seek every one_of middle tail_in
returns-in-7599935831585284464 c =
    let args = c.args in
    word-at middle (keys_of list.Presets) args.v args.rest (omega arith) (is_middle args.rest c.requires (omega arith)) (pack
    (bytes "page_exit")) 15 _ c.in-7599935831585284464.is c.if_equal-in-7599935831585284464.ensures refl refl

pub returns-in-7018123846601500008 : goal.returns-in-7018123846601500008
unfolding list_of keys_of packs onto seek every one_of middle tail_in
returns-in-7018123846601500008 c =
    let args = c.args in
    word-at middle (keys_of list.Presets) args.v args.rest (omega arith) (is_middle args.rest c.requires (omega arith)) (pack
    (bytes "heartbeat")) 21 _ c.in-7018123846601500008.is c.if_equal-in-7018123846601500008.ensures refl refl

pub returns-in_default : goal.returns-in_default
unfolding list_of keys_of packs onto seek every one_of middle head_in heads
returns-in_default c =
    let args = c.args in
    no_head middle (keys_of list.Presets) args.v args.rest (omega arith) (is_middle args.rest c.requires (omega arith)) refl
    c.in_default.in_default-own.rest
