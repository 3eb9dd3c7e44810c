-- Made by tools/words.py. `words::short_spring_presets` meets its contract.
use mathlib.Core.Path.{refl}
use native.Mathlib.Omega.{arith}
use Rattle.text.specs.Bytes.{bytes, one_of}
use Rattle.words.specs.declared.List.TheVariants as list
use Rattle.words.specs.ListMeans.{list_of}
use Rattle.words.specs.KeyMeans.{onto, pack, packs, keys_of, seek}
use Rattle.words.proofs.KeyLaws.{every}
use Rattle.words.proofs.ListLaws.{short_in, shorts, key_at, no_key}
use Rattle.words.proofs.short_spring_presets.Goals as goal

pub returns-in-392991460975975 : goal.returns-in-392991460975975
unfolding list_of keys_of packs onto seek
returns-in-392991460975975 c = key_at (keys_of list.SpringPresets) c.args.v (pack (bytes "gentle")) 0 c.in-392991460975975.is refl

pub returns-in-414981390757751 : goal.returns-in-414981390757751
unfolding list_of keys_of packs onto seek
returns-in-414981390757751 c = key_at (keys_of list.SpringPresets) c.args.v (pack (bytes "wobbly")) 1 c.in-414981390757751.is refl

pub returns-in-1539316479091 : goal.returns-in-1539316479091
unfolding list_of keys_of packs onto seek
returns-in-1539316479091 c = key_at (keys_of list.SpringPresets) c.args.v (pack (bytes "stiff")) 2 c.in-1539316479091.is refl

pub returns-in-6298758259 : goal.returns-in-6298758259
unfolding list_of keys_of packs onto seek
returns-in-6298758259 c = key_at (keys_of list.SpringPresets) c.args.v (pack (bytes "slow")) 3 c.in-6298758259.is refl

pub returns-in-414998805442163 : goal.returns-in-414998805442163
unfolding list_of keys_of packs onto seek
returns-in-414998805442163 c = key_at (keys_of list.SpringPresets) c.args.v (pack (bytes "snappy")) 4 c.in-414998805442163.is refl

pub returns-in_default : goal.returns-in_default
unfolding list_of keys_of packs onto seek every one_of short_in shorts
returns-in_default c = no_key (keys_of list.SpringPresets) c.args.v refl c.in_default.in_default-own.rest (omega arith)
