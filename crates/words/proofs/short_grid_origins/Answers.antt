-- Made by tools/words.py. `words::short_grid_origins` meets its contract.
use mathlib.Core.Path.{refl}
use native.Mathlib.Omega.{arith}
use Rattle.text.specs.Bytes.{bytes, one_of}
use Rattle.words.specs.declared.List.TheVariants as list
use Rattle.words.specs.ListMeans.{list_of}
use Rattle.words.specs.KeyMeans.{onto, pack, packs, keys_of, seek}
use Rattle.words.proofs.KeyLaws.{every}
use Rattle.words.proofs.ListLaws.{short_in, shorts, key_at, no_key}
use Rattle.words.proofs.short_grid_origins.Goals as goal

pub returns-in-407255047365987 : goal.returns-in-407255047365987
unfolding list_of keys_of packs onto seek
returns-in-407255047365987 c = key_at (keys_of list.GridOrigins) c.args.v (pack (bytes "center")) 4 c.in-407255047365987.is refl

pub returns-in-24145780 : goal.returns-in-24145780
unfolding list_of keys_of packs onto seek
returns-in-24145780 c = key_at (keys_of list.GridOrigins) c.args.v (pack (bytes "top")) 5 c.in-24145780.is refl

pub returns-in-401800439295842 : goal.returns-in-401800439295842
unfolding list_of keys_of packs onto seek
returns-in-401800439295842 c = key_at (keys_of list.GridOrigins) c.args.v (pack (bytes "bottom")) 6 c.in-401800439295842.is refl

pub returns-in-6247834988 : goal.returns-in-6247834988
unfolding list_of keys_of packs onto seek
returns-in-6247834988 c = key_at (keys_of list.GridOrigins) c.args.v (pack (bytes "left")) 7 c.in-6247834988.is refl

pub returns-in-1599479441778 : goal.returns-in-1599479441778
unfolding list_of keys_of packs onto seek
returns-in-1599479441778 c = key_at (keys_of list.GridOrigins) c.args.v (pack (bytes "right")) 8 c.in-1599479441778.is refl

pub returns-in_default : goal.returns-in_default
unfolding list_of keys_of packs onto seek every one_of short_in shorts
returns-in_default c = no_key (keys_of list.GridOrigins) c.args.v refl c.in_default.in_default-own.rest (omega arith)
