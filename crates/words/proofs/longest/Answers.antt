-- Made by tools/words.py. `words::longest` meets its contract.
use Prim.Native.Nat.{◌+◌, ◌*◌}
use mathlib.Core.List.{[], ◌∷◌}
use mathlib.Core.Path.{refl}
use native.Mathlib.Omega.{arith}
use Rattle.std.proofs.Common.{rules}
use Rattle.text.specs.Bytes.{one_of}
use Rattle.words.specs.declared.List.TheVariants as list
use Rattle.words.specs.ListMeans.{list_of}
use Rattle.words.specs.KeyMeans.{onto, packs}
use Rattle.words.proofs.KeyLaws.{every}
use Rattle.words.proofs.ListLaws.{limb, far, is_far, head_in, none_from, every_list, among, no_word}
use Rattle.words.proofs.longest.Goals as goal

pub returns-in_default : goal.returns-in_default
unfolding list_of packs onto every one_of far head_in none_from every_list among
returns-in_default c =
    let args = c.args in
    no_word (list.SpringRows ∷ list.Integrators ∷ list.Easings ∷ list.Presets ∷ list.CssColors ∷ []) args.list (search rules) far args.v
    (args.last * limb + args.rest) (omega arith) (is_far args.last args.rest c.requires) refl
