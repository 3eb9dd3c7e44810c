-- Made by tools/words.py. `words::long_easings` meets its contract.
use mathlib.Core.Path.{refl}
use native.Mathlib.Omega.{arith}
use Rattle.text.specs.Bytes.{one_of}
use Rattle.words.specs.declared.List.TheVariants as list
use Rattle.words.specs.ListMeans.{list_of}
use Rattle.words.specs.KeyMeans.{onto, packs, keys_of, seek}
use Rattle.words.proofs.KeyLaws.{every}
use Rattle.words.proofs.ListLaws.{middle, is_middle, head_in, heads, no_head}
use Rattle.words.proofs.long_easings.Goals as goal

pub returns-in_default : goal.returns-in_default
unfolding list_of keys_of packs onto seek every one_of middle head_in heads
returns-in_default c =
    let args = c.args in
    no_head middle (keys_of list.Easings) args.v args.rest (omega arith) (is_middle args.rest c.requires (omega arith)) refl
    c.in_default.in_default-own.rest
