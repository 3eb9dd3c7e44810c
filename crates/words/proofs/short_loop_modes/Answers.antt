-- Made by tools/words.py. `words::short_loop_modes` meets its contract.
use mathlib.Core.Path.{refl}
use native.Mathlib.Omega.{arith}
use Rattle.text.specs.Bytes.{bytes, one_of}
use Rattle.words.specs.declared.List.TheVariants as list
use Rattle.words.specs.ListMeans.{list_of}
use Rattle.words.specs.KeyMeans.{onto, pack, packs, keys_of, seek}
use Rattle.words.proofs.KeyLaws.{every}
use Rattle.words.proofs.ListLaws.{short_in, shorts, key_at, no_key}
use Rattle.words.proofs.short_loop_modes.Goals as goal

pub returns-in-5995982447 : goal.returns-in-5995982447
unfolding list_of keys_of packs onto seek
returns-in-5995982447 c = key_at (keys_of list.LoopModes) c.args.v (pack (bytes "once")) 0 c.in-5995982447.is refl

pub returns-in-104257300565487462 : goal.returns-in-104257300565487462
unfolding list_of keys_of packs onto seek
returns-in-104257300565487462 c = key_at (keys_of list.LoopModes) c.args.v (pack (bytes "forever")) 1 c.in-104257300565487462.is refl

pub returns-in-1595134536052 : goal.returns-in-1595134536052
unfolding list_of keys_of packs onto seek
returns-in-1595134536052 c = key_at (keys_of list.LoopModes) c.args.v (pack (bytes "times")) 3 c.in-1595134536052.is refl

pub returns-in_default : goal.returns-in_default
unfolding list_of keys_of packs onto seek every one_of short_in shorts
returns-in_default c = no_key (keys_of list.LoopModes) c.args.v refl c.in_default.in_default-own.rest (omega arith)
