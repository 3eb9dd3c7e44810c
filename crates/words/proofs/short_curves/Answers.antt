-- Made by tools/words.py. `words::short_curves` meets its contract.
use mathlib.Core.Path.{refl}
use native.Mathlib.Omega.{arith}
use Rattle.text.specs.Bytes.{bytes, one_of}
use Rattle.words.specs.declared.List.TheVariants as list
use Rattle.words.specs.ListMeans.{list_of}
use Rattle.words.specs.KeyMeans.{onto, pack, packs, keys_of, seek}
use Rattle.words.proofs.KeyLaws.{every}
use Rattle.words.proofs.ListLaws.{short_in, shorts, key_at, no_key}
use Rattle.words.proofs.short_curves.Goals as goal

pub returns-in-1595318563955 : goal.returns-in-1595318563955
unfolding list_of keys_of packs onto seek
returns-in-1595318563955 c = key_at (keys_of list.Curves) c.args.v (pack (bytes "steps")) 1 c.in-1595318563955.is refl

pub returns-in-392991242414455 : goal.returns-in-392991242414455
unfolding list_of keys_of packs onto seek
returns-in-392991242414455 c = key_at (keys_of list.Curves) c.args.v (pack (bytes "wiggle")) 2 c.in-392991242414455.is refl

pub returns-in-1547923976050 : goal.returns-in-1547923976050
unfolding list_of keys_of packs onto seek
returns-in-1547923976050 c = key_at (keys_of list.Curves) c.args.v (pack (bytes "rough")) 3 c.in-1547923976050.is refl

pub returns-in-403990922620019 : goal.returns-in-403990922620019
unfolding list_of keys_of packs onto seek
returns-in-403990922620019 c = key_at (keys_of list.Curves) c.args.v (pack (bytes "slowmo")) 4 c.in-403990922620019.is refl

pub returns-in_default : goal.returns-in_default
unfolding list_of keys_of packs onto seek every one_of short_in shorts
returns-in_default c = no_key (keys_of list.Curves) c.args.v refl c.in_default.in_default-own.rest (omega arith)
