-- Made by tools/words.py. `words::longest_easings` meets its contract.
use Prim.Native.Nat.{◌+◌, ◌*◌, ◌/◌}
use mathlib.Core.Path.{refl}
use native.Mathlib.Omega.{arith}
use Rattle.text.specs.Bytes.{bytes, one_of}
use Rattle.words.specs.declared.List.TheVariants as list
use Rattle.words.specs.ListMeans.{list_of}
use Rattle.words.specs.KeyMeans.{onto, pack, packs, keys_of, seek}
use Rattle.words.proofs.KeyLaws.{every}
use Rattle.words.proofs.ListLaws.{limb, far, is_far, tail_in, word-at, pair_is, head_in, heads, no_head}
use Rattle.words.proofs.longest_easings.Goals as goal

pub returns-in-8391735936189423973 : goal.returns-in-8391735936189423973
unfolding list_of keys_of packs onto seek every one_of far tail_in
returns-in-8391735936189423973 c =
    let args = c.args in
    word-at far (keys_of list.Easings) args.v (args.last * limb + args.rest) (omega arith) (is_far args.last args.rest c.requires) (pack
    (bytes "ease_out_elastic")) 26 _ c.in-8391735936189423973.is (pair_is args.rest args.last (pack (bytes "ease_out_elastic") / limb) 26 _
    (omega arith) c.if_long.ensures) refl refl

pub returns-in_default : goal.returns-in_default
unfolding list_of keys_of packs onto seek every one_of far head_in heads
returns-in_default c =
    let args = c.args in
    no_head far (keys_of list.Easings) args.v (args.last * limb + args.rest) (omega arith) (is_far args.last args.rest c.requires) refl
    c.in_default.in_default-own.rest
