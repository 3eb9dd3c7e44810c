-- Made by tools/words.py. `words::short_presets` meets its contract.
use mathlib.Core.Path.{refl}
use native.Mathlib.Omega.{arith}
use Rattle.text.specs.Bytes.{bytes, one_of}
use Rattle.words.specs.declared.List.TheVariants as list
use Rattle.words.specs.ListMeans.{list_of}
use Rattle.words.specs.KeyMeans.{onto, pack, packs, keys_of, seek}
use Rattle.words.proofs.KeyLaws.{every}
use Rattle.words.proofs.ListLaws.{short_in, shorts, key_at, no_key}
use Rattle.words.proofs.short_presets.Goals as goal

pub returns-in-103135699919987046 : goal.returns-in-103135699919987046
unfolding list_of keys_of packs onto seek
returns-in-103135699919987046 c = key_at (keys_of list.Presets) c.args.v (pack (bytes "fade_in")) 0 c.in-103135699919987046.is refl

pub returns-in-1535104870515 : goal.returns-in-1535104870515
unfolding list_of keys_of packs onto seek
returns-in-1535104870515 c = key_at (keys_of list.Presets) c.args.v (pack (bytes "shake")) 19 c.in-1535104870515.is refl

pub returns-in-392991242414455 : goal.returns-in-392991242414455
unfolding list_of keys_of packs onto seek
returns-in-392991242414455 c = key_at (keys_of list.Presets) c.args.v (pack (bytes "wiggle")) 20 c.in-392991242414455.is refl

pub returns-in-1599362526310 : goal.returns-in-1599362526310
unfolding list_of keys_of packs onto seek
returns-in-1599362526310 c = key_at (keys_of list.Presets) c.args.v (pack (bytes "float")) 22 c.in-1599362526310.is refl

pub returns-in-104257262044407923 : goal.returns-in-104257262044407923
unfolding list_of keys_of packs onto seek
returns-in-104257262044407923 c = key_at (keys_of list.Presets) c.args.v (pack (bytes "shimmer")) 23 c.in-104257262044407923.is refl

pub returns-in_default : goal.returns-in_default
unfolding list_of keys_of packs onto seek every one_of short_in shorts
returns-in_default c = no_key (keys_of list.Presets) c.args.v refl c.in_default.in_default-own.rest (omega arith)
