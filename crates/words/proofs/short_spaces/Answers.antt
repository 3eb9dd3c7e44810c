-- Made by tools/words.py. `words::short_spaces` meets its contract.
use mathlib.Core.Path.{refl}
use native.Mathlib.Omega.{arith}
use Rattle.text.specs.Bytes.{bytes, one_of}
use Rattle.words.specs.declared.List.TheVariants as list
use Rattle.words.specs.ListMeans.{list_of}
use Rattle.words.specs.KeyMeans.{onto, pack, packs, keys_of, seek}
use Rattle.words.proofs.KeyLaws.{every}
use Rattle.words.proofs.ListLaws.{short_in, shorts, key_at, no_key}
use Rattle.words.proofs.short_spaces.Goals as goal

pub returns-in-407237615839596 : goal.returns-in-407237615839596
unfolding list_of keys_of packs onto seek
returns-in-407237615839596 c = key_at (keys_of list.Spaces) c.args.v (pack (bytes "linear")) 0 c.in-407237615839596.is refl

pub returns-in-23224684 : goal.returns-in-23224684
unfolding list_of keys_of packs onto seek
returns-in-23224684 c = key_at (keys_of list.Spaces) c.args.v (pack (bytes "lab")) 1 c.in-23224684.is refl

pub returns-in-1547856276335 : goal.returns-in-1547856276335
unfolding list_of keys_of packs onto seek
returns-in-1547856276335 c = key_at (keys_of list.Spaces) c.args.v (pack (bytes "oklch")) 2 c.in-1547856276335.is refl

pub returns-in_default : goal.returns-in_default
unfolding list_of keys_of packs onto seek every one_of short_in shorts
returns-in_default c = no_key (keys_of list.Spaces) c.args.v refl c.in_default.in_default-own.rest (omega arith)
