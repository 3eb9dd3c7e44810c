-- Made by tools/words.py. `words::short_opening_fields` meets its contract.
use mathlib.Core.Path.{refl}
use native.Mathlib.Omega.{arith}
use Rattle.text.specs.Bytes.{bytes, one_of}
use Rattle.words.specs.declared.List.TheVariants as list
use Rattle.words.specs.ListMeans.{list_of}
use Rattle.words.specs.KeyMeans.{onto, pack, packs, keys_of, seek}
use Rattle.words.proofs.KeyLaws.{every}
use Rattle.words.proofs.ListLaws.{short_in, shorts, key_at, no_key}
use Rattle.words.proofs.short_opening_fields.Goals as goal

pub returns-in-103145621547147632 : goal.returns-in-103145621547147632
unfolding list_of keys_of packs onto seek
returns-in-103145621547147632 c = key_at (keys_of list.OpeningFields) c.args.v (pack (bytes "pattern")) 0 c.in-103145621547147632.is refl

pub returns-in-1620837164388 : goal.returns-in-1620837164388
unfolding list_of keys_of packs onto seek
returns-in-1620837164388 c = key_at (keys_of list.OpeningFields) c.args.v (pack (bytes "delay")) 1 c.in-1620837164388.is refl

pub returns-in_default : goal.returns-in_default
unfolding list_of keys_of packs onto seek every one_of short_in shorts
returns-in_default c = no_key (keys_of list.OpeningFields) c.args.v refl c.in_default.in_default-own.rest (omega arith)
