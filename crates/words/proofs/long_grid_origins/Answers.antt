-- Made by tools/words.py. `words::long_grid_origins` meets its contract.
use mathlib.Core.Path.{refl}
use native.Mathlib.Omega.{arith}
use Rattle.text.specs.Bytes.{bytes, one_of}
use Rattle.words.specs.declared.List.TheVariants as list
use Rattle.words.specs.ListMeans.{list_of}
use Rattle.words.specs.KeyMeans.{onto, pack, packs, keys_of, seek}
use Rattle.words.proofs.KeyLaws.{every}
use Rattle.words.proofs.ListLaws.{middle, is_middle, tail_in, word-at, head_in, heads, no_head}
use Rattle.words.proofs.long_grid_origins.Goals as goal

pub returns-in-8387502872156204916 : goal.returns-in-8387502872156204916
unfolding list_of keys_of packs onto seek every one_of middle tail_in
returns-in-8387502872156204916 c =
    let args = c.args in
    word-at middle (keys_of list.GridOrigins) args.v args.rest (omega arith) (is_middle args.rest c.requires (omega arith)) (pack
    (bytes "top_left")) 0 _ c.in-8387502872156204916.is c.if_equal.ensures refl refl

pub returns-in-7523097642494095220 : goal.returns-in-7523097642494095220
unfolding list_of keys_of packs onto seek every one_of middle tail_in
returns-in-7523097642494095220 c =
    let args = c.args in
    word-at middle (keys_of list.GridOrigins) args.v args.rest (omega arith) (is_middle args.rest c.requires (omega arith)) (pack
    (bytes "top_right")) 1 _ c.in-7523097642494095220.is c.if_equal-in-7523097642494095220.ensures refl refl

pub returns-in-7809080604346314594 : goal.returns-in-7809080604346314594
unfolding list_of keys_of packs onto seek every one_of middle tail_in
returns-in-7809080604346314594 c =
    let args = c.args in
    word-at middle (keys_of list.GridOrigins) args.v args.rest (omega arith) (is_middle args.rest c.requires (omega arith)) (pack
    (bytes "bottom_left")) 2 _ c.in-7809080604346314594.is c.if_equal-in-7809080604346314594.ensures refl refl

pub returns-in-8241426168573882210 : goal.returns-in-8241426168573882210
unfolding list_of keys_of packs onto seek every one_of middle tail_in
returns-in-8241426168573882210 c =
    let args = c.args in
    word-at middle (keys_of list.GridOrigins) args.v args.rest (omega arith) (is_middle args.rest c.requires (omega arith)) (pack
    (bytes "bottom_right")) 3 _ c.in-8241426168573882210.is c.if_equal-in-8241426168573882210.ensures refl refl

pub returns-in_default : goal.returns-in_default
unfolding list_of keys_of packs onto seek every one_of middle head_in heads
returns-in_default c =
    let args = c.args in
    no_head middle (keys_of list.GridOrigins) args.v args.rest (omega arith) (is_middle args.rest c.requires (omega arith)) refl
    c.in_default.in_default-own.rest
