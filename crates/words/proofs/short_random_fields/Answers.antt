-- Made by tools/words.py. `words::short_random_fields` meets its contract.
use mathlib.Core.Path.{refl}
use native.Mathlib.Omega.{arith}
use Rattle.text.specs.Bytes.{bytes, one_of}
use Rattle.words.specs.declared.List.TheVariants as list
use Rattle.words.specs.ListMeans.{list_of}
use Rattle.words.specs.KeyMeans.{onto, pack, packs, keys_of, seek}
use Rattle.words.proofs.KeyLaws.{every}
use Rattle.words.proofs.ListLaws.{short_in, shorts, key_at, no_key}
use Rattle.words.proofs.short_random_fields.Goals as goal

pub returns-in-5979334003 : goal.returns-in-5979334003
unfolding list_of keys_of packs onto seek
returns-in-5979334003 c = key_at (keys_of list.RandomFields) c.args.v (pack (bytes "seed")) 0 c.in-5979334003.is refl

pub returns-in-24013165 : goal.returns-in-24013165
unfolding list_of keys_of packs onto seek
returns-in-24013165 c = key_at (keys_of list.RandomFields) c.args.v (pack (bytes "min")) 1 c.in-24013165.is refl

pub returns-in-24666477 : goal.returns-in-24666477
unfolding list_of keys_of packs onto seek
returns-in-24666477 c = key_at (keys_of list.RandomFields) c.args.v (pack (bytes "max")) 2 c.in-24666477.is refl

pub returns-in_default : goal.returns-in_default
unfolding list_of keys_of packs onto seek every one_of short_in shorts
returns-in_default c = no_key (keys_of list.RandomFields) c.args.v refl c.in_default.in_default-own.rest (omega arith)
