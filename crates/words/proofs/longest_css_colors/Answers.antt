-- Made by tools/words.py. `words::longest_css_colors` meets its contract.
use Prim.Native.Nat.{◌+◌, ◌*◌, ◌/◌}
use mathlib.Core.Path.{refl}
use native.Mathlib.Omega.{arith}
use Rattle.text.specs.Bytes.{bytes, one_of}
use Rattle.words.specs.declared.List.TheVariants as list
use Rattle.words.specs.ListMeans.{list_of}
use Rattle.words.specs.KeyMeans.{onto, pack, packs, keys_of, seek}
use Rattle.words.proofs.KeyLaws.{every}
use Rattle.words.proofs.ListLaws.{limb, far, is_far, tail_in, word-at, pair_is, head_in, heads, no_head}
use Rattle.words.proofs.longest_css_colors.Goals as goal

pub returns-in-7813577628176574828 : goal.returns-in-7813577628176574828
unfolding list_of keys_of packs onto seek every one_of far tail_in
returns-in-7813577628176574828 c =
    let args = c.args in
    word-at far (keys_of list.CssColors) args.v (args.last * limb + args.rest) (omega arith) (is_far args.last args.rest c.requires) (pack
    (bytes "lightgoldenrodyellow")) 70 _ c.in-7813577628176574828.is (pair_is args.rest args.last (pack (bytes "lightgoldenrodyellow") /
    limb) 70 _ (omega arith) c.if_long.ensures) refl refl

pub returns-in-8169931550073578861 : goal.returns-in-8169931550073578861
unfolding list_of keys_of packs onto seek every one_of far tail_in
returns-in-8169931550073578861 c =
    let args = c.args in
    word-at far (keys_of list.CssColors) args.v (args.last * limb + args.rest) (omega arith) (is_far args.last args.rest c.requires) (pack
    (bytes "mediumaquamarine")) 87 _ c.in-8169931550073578861.is (pair_is args.rest args.last (pack (bytes "mediumaquamarine") / limb) 87 _
    (omega arith) c.if_long-in-8169931550073578861.ensures) refl refl

pub returns-in-8102940505616442733 : goal.returns-in-8102940505616442733
unfolding list_of keys_of packs onto seek every one_of far tail_in
returns-in-8102940505616442733 c =
    let args = c.args in
    word-at far (keys_of list.CssColors) args.v (args.last * limb + args.rest) (omega arith) (is_far args.last args.rest c.requires) (pack
    (bytes "mediumspringgreen")) 93 _ c.in-8102940505616442733.is (pair_is args.rest args.last (pack (bytes "mediumspringgreen") / limb) 93
    _ (omega arith) c.if_long-in-8102940505616442733.ensures) refl refl

pub returns-in_default : goal.returns-in_default
unfolding list_of keys_of packs onto seek every one_of far head_in heads
returns-in_default c =
    let args = c.args in
    no_head far (keys_of list.CssColors) args.v (args.last * limb + args.rest) (omega arith) (is_far args.last args.rest c.requires) refl
    c.in_default.in_default-own.rest
