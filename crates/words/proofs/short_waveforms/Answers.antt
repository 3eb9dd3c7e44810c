-- Made by tools/words.py. `words::short_waveforms` meets its contract.
use mathlib.Core.Path.{refl}
use native.Mathlib.Omega.{arith}
use Rattle.text.specs.Bytes.{bytes, one_of}
use Rattle.words.specs.declared.List.TheVariants as list
use Rattle.words.specs.ListMeans.{list_of}
use Rattle.words.specs.KeyMeans.{onto, pack, packs, keys_of, seek}
use Rattle.words.proofs.KeyLaws.{every}
use Rattle.words.proofs.ListLaws.{short_in, shorts, key_at, no_key}
use Rattle.words.proofs.short_waveforms.Goals as goal

pub returns-in-5996702067 : goal.returns-in-5996702067
unfolding list_of keys_of packs onto seek
returns-in-5996702067 c = key_at (keys_of list.Waveforms) c.args.v (pack (bytes "sine")) 0 c.in-5996702067.is refl

pub returns-in-393016912474483 : goal.returns-in-393016912474483
unfolding list_of keys_of packs onto seek
returns-in-393016912474483 c = key_at (keys_of list.Waveforms) c.args.v (pack (bytes "square")) 2 c.in-393016912474483.is refl

pub returns-in-1535239614318 : goal.returns-in-1535239614318
unfolding list_of keys_of packs onto seek
returns-in-1535239614318 c = key_at (keys_of list.Waveforms) c.args.v (pack (bytes "noise")) 4 c.in-1535239614318.is refl

pub returns-in_default : goal.returns-in_default
unfolding list_of keys_of packs onto seek every one_of short_in shorts
returns-in_default c = no_key (keys_of list.Waveforms) c.args.v refl c.in_default.in_default-own.rest (omega arith)
