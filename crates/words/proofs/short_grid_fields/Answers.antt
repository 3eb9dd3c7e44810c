-- Made by tools/words.py. `words::short_grid_fields` meets its contract.
use mathlib.Core.Path.{refl}
use native.Mathlib.Omega.{arith}
use Rattle.text.specs.Bytes.{bytes, one_of}
use Rattle.words.specs.declared.List.TheVariants as list
use Rattle.words.specs.ListMeans.{list_of}
use Rattle.words.specs.KeyMeans.{onto, pack, packs, keys_of, seek}
use Rattle.words.proofs.KeyLaws.{every}
use Rattle.words.proofs.ListLaws.{short_in, shorts, key_at, no_key}
use Rattle.words.proofs.short_grid_fields.Goals as goal

pub returns-in-6231453539 : goal.returns-in-6231453539
unfolding list_of keys_of packs onto seek
returns-in-6231453539 c = key_at (keys_of list.GridFields) c.args.v (pack (bytes "cols")) 0 c.in-6231453539.is refl

pub returns-in-6232174450 : goal.returns-in-6232174450
unfolding list_of keys_of packs onto seek
returns-in-6232174450 c = key_at (keys_of list.GridFields) c.args.v (pack (bytes "rows")) 1 c.in-6232174450.is refl

pub returns-in-402873962295919 : goal.returns-in-402873962295919
unfolding list_of keys_of packs onto seek
returns-in-402873962295919 c = key_at (keys_of list.GridFields) c.args.v (pack (bytes "origin")) 2 c.in-402873962295919.is refl

pub returns-in_default : goal.returns-in_default
unfolding list_of keys_of packs onto seek every one_of short_in shorts
returns-in_default c = no_key (keys_of list.GridFields) c.args.v refl c.in_default.in_default-own.rest (omega arith)
