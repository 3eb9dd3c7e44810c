-- Made by tools/words.py. `words::short_tween_rows` meets its contract.
use mathlib.Core.Path.{refl}
use native.Mathlib.Omega.{arith}
use Rattle.text.specs.Bytes.{bytes, one_of}
use Rattle.words.specs.declared.List.TheVariants as list
use Rattle.words.specs.ListMeans.{list_of}
use Rattle.words.specs.KeyMeans.{onto, pack, packs, keys_of, seek}
use Rattle.words.proofs.KeyLaws.{every}
use Rattle.words.proofs.ListLaws.{short_in, shorts, key_at, no_key}
use Rattle.words.proofs.short_tween_rows.Goals as goal

pub returns-in-395198889943397 : goal.returns-in-395198889943397
unfolding list_of keys_of packs onto seek
returns-in-395198889943397 c = key_at (keys_of list.TweenRows) c.args.v (pack (bytes "easing")) 1 c.in-395198889943397.is refl

pub returns-in-1620837164388 : goal.returns-in-1620837164388
unfolding list_of keys_of packs onto seek
returns-in-1620837164388 c = key_at (keys_of list.TweenRows) c.args.v (pack (bytes "delay")) 2 c.in-1620837164388.is refl

pub returns-in-6181318508 : goal.returns-in-6181318508
unfolding list_of keys_of packs onto seek
returns-in-6181318508 c = key_at (keys_of list.TweenRows) c.args.v (pack (bytes "loop")) 4 c.in-6181318508.is refl

pub returns-in-6180400755 : goal.returns-in-6180400755
unfolding list_of keys_of packs onto seek
returns-in-6180400755 c = key_at (keys_of list.TweenRows) c.args.v (pack (bytes "snap")) 5 c.in-6180400755.is refl

pub returns-in-1530861547378 : goal.returns-in-1530861547378
unfolding list_of keys_of packs onto seek
returns-in-1530861547378 c = key_at (keys_of list.TweenRows) c.args.v (pack (bytes "round")) 6 c.in-1530861547378.is refl

pub returns-in-100613501851428210 : goal.returns-in-100613501851428210
unfolding list_of keys_of packs onto seek
returns-in-100613501851428210 c = key_at (keys_of list.TweenRows) c.args.v (pack (bytes "reverse")) 7 c.in-100613501851428210.is refl

pub returns-in_default : goal.returns-in_default
unfolding list_of keys_of packs onto seek every one_of short_in shorts
returns-in_default c = no_key (keys_of list.TweenRows) c.args.v refl c.in_default.in_default-own.rest (omega arith)
