-- Made by tools/words.py. `words::short_morph_rows` meets its contract.
use mathlib.Core.Path.{refl}
use native.Mathlib.Omega.{arith}
use Rattle.text.specs.Bytes.{bytes, one_of}
use Rattle.words.specs.declared.List.TheVariants as list
use Rattle.words.specs.ListMeans.{list_of}
use Rattle.words.specs.KeyMeans.{onto, pack, packs, keys_of, seek}
use Rattle.words.proofs.KeyLaws.{every}
use Rattle.words.proofs.ListLaws.{short_in, shorts, key_at, no_key}
use Rattle.words.proofs.short_morph_rows.Goals as goal

pub returns-in-104538732776743283 : goal.returns-in-104538732776743283
unfolding list_of keys_of packs onto seek
returns-in-104538732776743283 c = key_at (keys_of list.MorphRows) c.args.v (pack (bytes "samples")) 0 c.in-104538732776743283.is refl

pub returns-in-395198889943397 : goal.returns-in-395198889943397
unfolding list_of keys_of packs onto seek
returns-in-395198889943397 c = key_at (keys_of list.MorphRows) c.args.v (pack (bytes "easing")) 2 c.in-395198889943397.is refl

pub returns-in_default : goal.returns-in_default
unfolding list_of keys_of packs onto seek every one_of short_in shorts
returns-in_default c = no_key (keys_of list.MorphRows) c.args.v refl c.in_default.in_default-own.rest (omega arith)
