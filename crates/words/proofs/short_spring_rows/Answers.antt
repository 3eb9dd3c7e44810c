-- Made by tools/words.py. `words::short_spring_rows` meets its contract.
use mathlib.Core.Path.{refl}
use native.Mathlib.Omega.{arith}
use Rattle.text.specs.Bytes.{bytes, one_of}
use Rattle.words.specs.declared.List.TheVariants as list
use Rattle.words.specs.ListMeans.{list_of}
use Rattle.words.specs.KeyMeans.{onto, pack, packs, keys_of, seek}
use Rattle.words.proofs.KeyLaws.{every}
use Rattle.words.proofs.ListLaws.{short_in, shorts, key_at, no_key}
use Rattle.words.proofs.short_spring_rows.Goals as goal

pub returns-in-409454053257840 : goal.returns-in-409454053257840
unfolding list_of keys_of packs onto seek
returns-in-409454053257840 c = key_at (keys_of list.SpringRows) c.args.v (pack (bytes "preset")) 0 c.in-409454053257840.is refl

pub returns-in-101170915775963492 : goal.returns-in-101170915775963492
unfolding list_of keys_of packs onto seek
returns-in-101170915775963492 c = key_at (keys_of list.SpringRows) c.args.v (pack (bytes "damping")) 2 c.in-101170915775963492.is refl

pub returns-in-6231908717 : goal.returns-in-6231908717
unfolding list_of keys_of packs onto seek
returns-in-6231908717 c = key_at (keys_of list.SpringRows) c.args.v (pack (bytes "mass")) 3 c.in-6231908717.is refl

pub returns-in-103142352892424293 : goal.returns-in-103142352892424293
unfolding list_of keys_of packs onto seek
returns-in-103142352892424293 c = key_at (keys_of list.SpringRows) c.args.v (pack (bytes "epsilon")) 5 c.in-103142352892424293.is refl

pub returns-in_default : goal.returns-in_default
unfolding list_of keys_of packs onto seek every one_of short_in shorts
returns-in_default c = no_key (keys_of list.SpringRows) c.args.v refl c.in_default.in_default-own.rest (omega arith)
