-- Made by tools/words.py. `words::short_nodes` meets its contract.
use mathlib.Core.Path.{refl}
use native.Mathlib.Omega.{arith}
use Rattle.text.specs.Bytes.{bytes, one_of}
use Rattle.words.specs.declared.List.TheVariants as list
use Rattle.words.specs.ListMeans.{list_of}
use Rattle.words.specs.KeyMeans.{onto, pack, packs, keys_of, seek}
use Rattle.words.proofs.KeyLaws.{every}
use Rattle.words.proofs.ListLaws.{short_in, shorts, key_at, no_key}
use Rattle.words.proofs.short_nodes.Goals as goal

pub returns-in-1573659178868 : goal.returns-in-1573659178868
unfolding list_of keys_of packs onto seek
returns-in-1573659178868 c = key_at (keys_of list.Nodes) c.args.v (pack (bytes "tween")) 0 c.in-1573659178868.is refl

pub returns-in-395198889881715 : goal.returns-in-395198889881715
unfolding list_of keys_of packs onto seek
returns-in-395198889881715 c = key_at (keys_of list.Nodes) c.args.v (pack (bytes "spring")) 1 c.in-395198889881715.is refl

pub returns-in-6047424880 : goal.returns-in-6047424880
unfolding list_of keys_of packs onto seek
returns-in-6047424880 c = key_at (keys_of list.Nodes) c.args.v (pack (bytes "path")) 3 c.in-6047424880.is refl

pub returns-in-1548074774381 : goal.returns-in-1548074774381
unfolding list_of keys_of packs onto seek
returns-in-1548074774381 c = key_at (keys_of list.Nodes) c.args.v (pack (bytes "morph")) 4 c.in-1548074774381.is refl

pub returns-in-6297842276 : goal.returns-in-6297842276
unfolding list_of keys_of packs onto seek
returns-in-6297842276 c = key_at (keys_of list.Nodes) c.args.v (pack (bytes "draw")) 5 c.in-6297842276.is refl

pub returns-in-1591007276899 : goal.returns-in-1591007276899
unfolding list_of keys_of packs onto seek
returns-in-1591007276899 c = key_at (keys_of list.Nodes) c.args.v (pack (bytes "color")) 6 c.in-1591007276899.is refl

pub returns-in-409454053257840 : goal.returns-in-409454053257840
unfolding list_of keys_of packs onto seek
returns-in-409454053257840 c = key_at (keys_of list.Nodes) c.args.v (pack (bytes "preset")) 8 c.in-409454053257840.is refl

pub returns-in-1565069042028 : goal.returns-in-1565069042028
unfolding list_of keys_of packs onto seek
returns-in-1565069042028 c = key_at (keys_of list.Nodes) c.args.v (pack (bytes "label")) 9 c.in-1565069042028.is refl

pub returns-in-95329 : goal.returns-in-95329
unfolding list_of keys_of packs onto seek
returns-in-95329 c = key_at (keys_of list.Nodes) c.args.v (pack (bytes "at")) 10 c.in-95329.is refl

pub returns-in-1582518202983 : goal.returns-in-1582518202983
unfolding list_of keys_of packs onto seek
returns-in-1582518202983 c = key_at (keys_of list.Nodes) c.args.v (pack (bytes "group")) 13 c.in-1582518202983.is refl

pub returns-in-104257236173419635 : goal.returns-in-104257236173419635
unfolding list_of keys_of packs onto seek
returns-in-104257236173419635 c = key_at (keys_of list.Nodes) c.args.v (pack (bytes "stagger")) 14 c.in-104257236173419635.is refl

pub returns-in_default : goal.returns-in_default
unfolding list_of keys_of packs onto seek every one_of short_in shorts
returns-in_default c = no_key (keys_of list.Nodes) c.args.v refl c.in_default.in_default-own.rest (omega arith)
