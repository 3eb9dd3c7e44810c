-- Made by tools/words.py. `words::short_colors` meets its contract.
use mathlib.Core.Path.{refl}
use native.Mathlib.Omega.{arith}
use Rattle.text.specs.Bytes.{bytes, one_of}
use Rattle.words.specs.declared.List.TheVariants as list
use Rattle.words.specs.ListMeans.{list_of}
use Rattle.words.specs.KeyMeans.{onto, pack, packs, keys_of, seek}
use Rattle.words.proofs.KeyLaws.{every}
use Rattle.words.proofs.ListLaws.{short_in, shorts, key_at, no_key}
use Rattle.words.proofs.short_colors.Goals as goal

pub returns-in-1560740457570 : goal.returns-in-1560740457570
unfolding list_of keys_of packs onto seek
returns-in-1560740457570 c = key_at (keys_of list.Colors) c.args.v (pack (bytes "black")) 0 c.in-1560740457570.is refl

pub returns-in-1535256389751 : goal.returns-in-1535256389751
unfolding list_of keys_of packs onto seek
returns-in-1535256389751 c = key_at (keys_of list.Colors) c.args.v (pack (bytes "white")) 1 c.in-1535256389751.is refl

pub returns-in-23356786 : goal.returns-in-23356786
unfolding list_of keys_of packs onto seek
returns-in-23356786 c = key_at (keys_of list.Colors) c.args.v (pack (bytes "red")) 2 c.in-23356786.is refl

pub returns-in-1573659177575 : goal.returns-in-1573659177575
unfolding list_of keys_of packs onto seek
returns-in-1573659177575 c = key_at (keys_of list.Colors) c.args.v (pack (bytes "green")) 3 c.in-1573659177575.is refl

pub returns-in-5997161570 : goal.returns-in-5997161570
unfolding list_of keys_of packs onto seek
returns-in-5997161570 c = key_at (keys_of list.Colors) c.args.v (pack (bytes "blue")) 4 c.in-5997161570.is refl

pub returns-in-412795420829049 : goal.returns-in-412795420829049
unfolding list_of keys_of packs onto seek
returns-in-412795420829049 c = key_at (keys_of list.Colors) c.args.v (pack (bytes "yellow")) 5 c.in-412795420829049.is refl

pub returns-in-6146849123 : goal.returns-in-6146849123
unfolding list_of keys_of packs onto seek
returns-in-6146849123 c = key_at (keys_of list.Colors) c.args.v (pack (bytes "cyan")) 6 c.in-6146849123.is refl

pub returns-in-99488684275360109 : goal.returns-in-99488684275360109
unfolding list_of keys_of packs onto seek
returns-in-99488684275360109 c = key_at (keys_of list.Colors) c.args.v (pack (bytes "magenta")) 7 c.in-99488684275360109.is refl

pub returns-in-6331396711 : goal.returns-in-6331396711
unfolding list_of keys_of packs onto seek
returns-in-6331396711 c = key_at (keys_of list.Colors) c.args.v (pack (bytes "gray")) 8 c.in-6331396711.is refl

pub returns-in-6331658855 : goal.returns-in-6331658855
unfolding list_of keys_of packs onto seek
returns-in-6331658855 c = key_at (keys_of list.Colors) c.args.v (pack (bytes "grey")) 9 c.in-6331658855.is refl

pub returns-in-392969884627567 : goal.returns-in-392969884627567
unfolding list_of keys_of packs onto seek
returns-in-392969884627567 c = key_at (keys_of list.Colors) c.args.v (pack (bytes "orange")) 10 c.in-392969884627567.is refl

pub returns-in-392991394133360 : goal.returns-in-392991394133360
unfolding list_of keys_of packs onto seek
returns-in-392991394133360 c = key_at (keys_of list.Colors) c.args.v (pack (bytes "purple")) 11 c.in-392991394133360.is refl

pub returns-in-6097365360 : goal.returns-in-6097365360
unfolding list_of keys_of packs onto seek
returns-in-6097365360 c = key_at (keys_of list.Colors) c.args.v (pack (bytes "pink")) 12 c.in-6097365360.is refl

pub returns-in-1573961822818 : goal.returns-in-1573961822818
unfolding list_of keys_of packs onto seek
returns-in-1573961822818 c = key_at (keys_of list.Colors) c.args.v (pack (bytes "brown")) 13 c.in-1573961822818.is refl

pub returns-in-5996636524 : goal.returns-in-5996636524
unfolding list_of keys_of packs onto seek
returns-in-5996636524 c = key_at (keys_of list.Colors) c.args.v (pack (bytes "lime")) 14 c.in-5996636524.is refl

pub returns-in-6113289588 : goal.returns-in-6113289588
unfolding list_of keys_of packs onto seek
returns-in-6113289588 c = key_at (keys_of list.Colors) c.args.v (pack (bytes "teal")) 15 c.in-6113289588.is refl

pub returns-in-6332768622 : goal.returns-in-6332768622
unfolding list_of keys_of packs onto seek
returns-in-6332768622 c = key_at (keys_of list.Colors) c.args.v (pack (bytes "navy")) 16 c.in-6332768622.is refl

pub returns-in-402899866902893 : goal.returns-in-402899866902893
unfolding list_of keys_of packs onto seek
returns-in-402899866902893 c = key_at (keys_of list.Colors) c.args.v (pack (bytes "maroon")) 17 c.in-402899866902893.is refl

pub returns-in-1535289945199 : goal.returns-in-1535289945199
unfolding list_of keys_of packs onto seek
returns-in-1535289945199 c = key_at (keys_of list.Colors) c.args.v (pack (bytes "olive")) 18 c.in-1535289945199.is refl

pub returns-in-407255080790387 : goal.returns-in-407255080790387
unfolding list_of keys_of packs onto seek
returns-in-407255080790387 c = key_at (keys_of list.Colors) c.args.v (pack (bytes "silver")) 19 c.in-407255080790387.is refl

pub returns-in-5930053985 : goal.returns-in-5930053985
unfolding list_of keys_of packs onto seek
returns-in-5930053985 c = key_at (keys_of list.Colors) c.args.v (pack (bytes "aqua")) 20 c.in-5930053985.is refl

pub returns-in-99476611172365670 : goal.returns-in-99476611172365670
unfolding list_of keys_of packs onto seek
returns-in-99476611172365670 c = key_at (keys_of list.Colors) c.args.v (pack (bytes "fuchsia")) 21 c.in-99476611172365670.is refl

pub returns-in_default : goal.returns-in_default
unfolding list_of keys_of packs onto seek every one_of short_in shorts
returns-in_default c = no_key (keys_of list.Colors) c.args.v refl c.in_default.in_default-own.rest (omega arith)
