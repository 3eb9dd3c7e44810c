-- Made by tools/words.py. `words::longest_presets` meets its contract.
use Prim.Native.Nat.{◌+◌, ◌*◌, ◌/◌}
use mathlib.Core.Path.{refl}
use native.Mathlib.Omega.{arith}
use Rattle.text.specs.Bytes.{bytes, one_of}
use Rattle.words.specs.declared.List.TheVariants as list
use Rattle.words.specs.ListMeans.{list_of}
use Rattle.words.specs.KeyMeans.{onto, pack, packs, keys_of, seek}
use Rattle.words.proofs.KeyLaws.{every}
use Rattle.words.proofs.ListLaws.{limb, far, is_far, tail_in, word-at, pair_is, head_in, heads, no_head}
use Rattle.words.proofs.longest_presets.Goals as goal

pub returns-in-6877671075738645619 : goal.returns-in-6877671075738645619
unfolding list_of keys_of packs onto seek every one_of far tail_in
returns-in-6877671075738645619 c =
    let args = c.args in
    word-at far (keys_of list.Presets) args.v (args.last * limb + args.rest) (omega arith) (is_far args.last args.rest c.requires) (pack
    (bytes "stagger_children")) 16 _ c.in-6877671075738645619.is (pair_is args.rest args.last (pack (bytes "stagger_children") / limb) 16 _
    (omega arith) c.if_long.ensures) refl refl

pub returns-in_default : goal.returns-in_default
unfolding list_of keys_of packs onto seek every one_of far head_in heads
returns-in_default c =
    let args = c.args in
    no_head far (keys_of list.Presets) args.v (args.last * limb + args.rest) (omega arith) (is_far args.last args.rest c.requires) refl
    c.in_default.in_default-own.rest
