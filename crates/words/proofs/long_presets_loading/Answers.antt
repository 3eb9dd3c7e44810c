-- Made by tools/words.py. `words::long_presets_loading` meets its contract.
use mathlib.Core.Path.{refl}
use native.Mathlib.Omega.{arith}
use Rattle.text.specs.Bytes.{bytes, one_of}
use Rattle.words.specs.declared.List.TheVariants as list
use Rattle.words.specs.ListMeans.{list_of}
use Rattle.words.specs.KeyMeans.{onto, pack, packs, keys_of, seek}
use Rattle.words.proofs.KeyLaws.{every}
use Rattle.words.proofs.ListLaws.{middle, is_middle, tail_in, tails, tail_at, no_tail}
use Rattle.words.proofs.long_presets_loading.Goals as goal

pub returns-in-1535239812464 : goal.returns-in-1535239812464
unfolding list_of keys_of packs onto seek
returns-in-1535239812464 c =
    tail_at (keys_of list.Presets) 6874584755139080044 c.args.rest (pack (bytes "loading_pulse")) 17 c.in-1535239812464.is refl refl

pub returns-in-5997224311 : goal.returns-in-5997224311
unfolding list_of keys_of packs onto seek
returns-in-5997224311 c =
    tail_at (keys_of list.Presets) 6874584755139080044 c.args.rest (pack (bytes "loading_wave")) 18 c.in-5997224311.is refl refl

pub returns-in_default : goal.returns-in_default
unfolding list_of keys_of packs onto seek every one_of middle tail_in tails
returns-in_default c =
    let args = c.args in
    no_tail middle (keys_of list.Presets) 6874584755139080044 args.rest (omega arith) (is_middle args.rest c.requires (omega arith)) refl
    c.in_default.in_default-own.rest
