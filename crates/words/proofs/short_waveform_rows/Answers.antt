-- Made by tools/words.py. `words::short_waveform_rows` meets its contract.
use mathlib.Core.Path.{refl}
use native.Mathlib.Omega.{arith}
use Rattle.text.specs.Bytes.{bytes, one_of}
use Rattle.words.specs.declared.List.TheVariants as list
use Rattle.words.specs.ListMeans.{list_of}
use Rattle.words.specs.KeyMeans.{onto, pack, packs, keys_of, seek}
use Rattle.words.proofs.KeyLaws.{every}
use Rattle.words.proofs.ListLaws.{short_in, shorts, key_at, no_key}
use Rattle.words.proofs.short_waveform_rows.Goals as goal

pub returns-in-1535239088240 : goal.returns-in-1535239088240
unfolding list_of keys_of packs onto seek
returns-in-1535239088240 c = key_at (keys_of list.WaveformRows) c.args.v (pack (bytes "phase")) 2 c.in-1535239088240.is refl

pub returns-in-5979334003 : goal.returns-in-5979334003
unfolding list_of keys_of packs onto seek
returns-in-5979334003 c = key_at (keys_of list.WaveformRows) c.args.v (pack (bytes "seed")) 4 c.in-5979334003.is refl

pub returns-in_default : goal.returns-in_default
unfolding list_of keys_of packs onto seek every one_of short_in shorts
returns-in_default c = no_key (keys_of list.WaveformRows) c.args.v refl c.in_default.in_default-own.rest (omega arith)
