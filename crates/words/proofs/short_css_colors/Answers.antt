-- Made by tools/words.py. `words::short_css_colors` meets its contract.
use mathlib.Core.Path.{refl}
use native.Mathlib.Omega.{arith}
use Rattle.text.specs.Bytes.{bytes, one_of}
use Rattle.words.specs.declared.List.TheVariants as list
use Rattle.words.specs.ListMeans.{list_of}
use Rattle.words.specs.KeyMeans.{onto, pack, packs, keys_of, seek}
use Rattle.words.proofs.KeyLaws.{every}
use Rattle.words.proofs.ListLaws.{short_in, shorts, key_at, no_key}
use Rattle.words.proofs.short_css_colors.Goals as goal

pub returns-in-5930053985 : goal.returns-in-5930053985
unfolding list_of keys_of packs onto seek
returns-in-5930053985 c = key_at (keys_of list.CssColors) c.args.v (pack (bytes "aqua")) 2 c.in-5930053985.is refl

pub returns-in-1535223626337 : goal.returns-in-1535223626337
unfolding list_of keys_of packs onto seek
returns-in-1535223626337 c = key_at (keys_of list.CssColors) c.args.v (pack (bytes "azure")) 4 c.in-1535223626337.is refl

pub returns-in-1535038285154 : goal.returns-in-1535038285154
unfolding list_of keys_of packs onto seek
returns-in-1535038285154 c = key_at (keys_of list.CssColors) c.args.v (pack (bytes "beige")) 5 c.in-1535038285154.is refl

pub returns-in-393030065678690 : goal.returns-in-393030065678690
unfolding list_of keys_of packs onto seek
returns-in-393030065678690 c = key_at (keys_of list.CssColors) c.args.v (pack (bytes "bisque")) 6 c.in-393030065678690.is refl

pub returns-in-1560740457570 : goal.returns-in-1560740457570
unfolding list_of keys_of packs onto seek
returns-in-1560740457570 c = key_at (keys_of list.CssColors) c.args.v (pack (bytes "black")) 7 c.in-1560740457570.is refl

pub returns-in-5997161570 : goal.returns-in-5997161570
unfolding list_of keys_of packs onto seek
returns-in-5997161570 c = key_at (keys_of list.CssColors) c.args.v (pack (bytes "blue")) 9 c.in-5997161570.is refl

pub returns-in-1573961822818 : goal.returns-in-1573961822818
unfolding list_of keys_of packs onto seek
returns-in-1573961822818 c = key_at (keys_of list.CssColors) c.args.v (pack (bytes "brown")) 11 c.in-1573961822818.is refl

pub returns-in-1565002985315 : goal.returns-in-1565002985315
unfolding list_of keys_of packs onto seek
returns-in-1565002985315 c = key_at (keys_of list.CssColors) c.args.v (pack (bytes "coral")) 16 c.in-1565002985315.is refl

pub returns-in-103142383023649379 : goal.returns-in-103142383023649379
unfolding list_of keys_of packs onto seek
returns-in-103142383023649379 c = key_at (keys_of list.CssColors) c.args.v (pack (bytes "crimson")) 19 c.in-103142383023649379.is refl

pub returns-in-6146849123 : goal.returns-in-6146849123
unfolding list_of keys_of packs onto seek
returns-in-6146849123 c = key_at (keys_of list.CssColors) c.args.v (pack (bytes "cyan")) 20 c.in-6146849123.is refl

pub returns-in-100316633812328804 : goal.returns-in-100316633812328804
unfolding list_of keys_of packs onto seek
returns-in-100316633812328804 c = key_at (keys_of list.CssColors) c.args.v (pack (bytes "darkred")) 32 c.in-100316633812328804.is refl

pub returns-in-106223210209306980 : goal.returns-in-106223210209306980
unfolding list_of keys_of packs onto seek
returns-in-106223210209306980 c = key_at (keys_of list.CssColors) c.args.v (pack (bytes "dimgray")) 42 c.in-106223210209306980.is refl

pub returns-in-106227608255818084 : goal.returns-in-106227608255818084
unfolding list_of keys_of packs onto seek
returns-in-106227608255818084 c = key_at (keys_of list.CssColors) c.args.v (pack (bytes "dimgrey")) 43 c.in-106227608255818084.is refl

pub returns-in-99476611172365670 : goal.returns-in-99476611172365670
unfolding list_of keys_of packs onto seek
returns-in-99476611172365670 c = key_at (keys_of list.CssColors) c.args.v (pack (bytes "fuchsia")) 48 c.in-99476611172365670.is refl

pub returns-in-5979795303 : goal.returns-in-5979795303
unfolding list_of keys_of packs onto seek
returns-in-5979795303 c = key_at (keys_of list.CssColors) c.args.v (pack (bytes "gold")) 51 c.in-5979795303.is refl

pub returns-in-6331396711 : goal.returns-in-6331396711
unfolding list_of keys_of packs onto seek
returns-in-6331396711 c = key_at (keys_of list.CssColors) c.args.v (pack (bytes "gray")) 53 c.in-6331396711.is refl

pub returns-in-1573659177575 : goal.returns-in-1573659177575
unfolding list_of keys_of packs onto seek
returns-in-1573659177575 c = key_at (keys_of list.CssColors) c.args.v (pack (bytes "green")) 54 c.in-1573659177575.is refl

pub returns-in-6331658855 : goal.returns-in-6331658855
unfolding list_of keys_of packs onto seek
returns-in-6331658855 c = key_at (keys_of list.CssColors) c.args.v (pack (bytes "grey")) 56 c.in-6331658855.is refl

pub returns-in-102296815683268456 : goal.returns-in-102296815683268456
unfolding list_of keys_of packs onto seek
returns-in-102296815683268456 c = key_at (keys_of list.CssColors) c.args.v (pack (bytes "hotpink")) 58 c.in-102296815683268456.is refl

pub returns-in-403964917214825 : goal.returns-in-403964917214825
unfolding list_of keys_of packs onto seek
returns-in-403964917214825 c = key_at (keys_of list.CssColors) c.args.v (pack (bytes "indigo")) 60 c.in-403964917214825.is refl

pub returns-in-1621122578025 : goal.returns-in-1621122578025
unfolding list_of keys_of packs onto seek
returns-in-1621122578025 c = key_at (keys_of list.CssColors) c.args.v (pack (bytes "ivory")) 61 c.in-1621122578025.is refl

pub returns-in-1552284739691 : goal.returns-in-1552284739691
unfolding list_of keys_of packs onto seek
returns-in-1552284739691 c = key_at (keys_of list.CssColors) c.args.v (pack (bytes "khaki")) 62 c.in-1552284739691.is refl

pub returns-in-5996636524 : goal.returns-in-5996636524
unfolding list_of keys_of packs onto seek
returns-in-5996636524 c = key_at (keys_of list.CssColors) c.args.v (pack (bytes "lime")) 82 c.in-5996636524.is refl

pub returns-in-1573659765100 : goal.returns-in-1573659765100
unfolding list_of keys_of packs onto seek
returns-in-1573659765100 c = key_at (keys_of list.CssColors) c.args.v (pack (bytes "linen")) 84 c.in-1573659765100.is refl

pub returns-in-99488684275360109 : goal.returns-in-99488684275360109
unfolding list_of keys_of packs onto seek
returns-in-99488684275360109 c = key_at (keys_of list.CssColors) c.args.v (pack (bytes "magenta")) 85 c.in-99488684275360109.is refl

pub returns-in-402899866902893 : goal.returns-in-402899866902893
unfolding list_of keys_of packs onto seek
returns-in-402899866902893 c = key_at (keys_of list.CssColors) c.args.v (pack (bytes "maroon")) 86 c.in-402899866902893.is refl

pub returns-in-6332768622 : goal.returns-in-6332768622
unfolding list_of keys_of packs onto seek
returns-in-6332768622 c = key_at (keys_of list.CssColors) c.args.v (pack (bytes "navy")) 101 c.in-6332768622.is refl

pub returns-in-100595836767202415 : goal.returns-in-100595836767202415
unfolding list_of keys_of packs onto seek
returns-in-100595836767202415 c = key_at (keys_of list.CssColors) c.args.v (pack (bytes "oldlace")) 102 c.in-100595836767202415.is refl

pub returns-in-1535289945199 : goal.returns-in-1535289945199
unfolding list_of keys_of packs onto seek
returns-in-1535289945199 c = key_at (keys_of list.CssColors) c.args.v (pack (bytes "olive")) 103 c.in-1535289945199.is refl

pub returns-in-392969884627567 : goal.returns-in-392969884627567
unfolding list_of keys_of packs onto seek
returns-in-392969884627567 c = key_at (keys_of list.CssColors) c.args.v (pack (bytes "orange")) 105 c.in-392969884627567.is refl

pub returns-in-391878862402159 : goal.returns-in-391878862402159
unfolding list_of keys_of packs onto seek
returns-in-391878862402159 c = key_at (keys_of list.CssColors) c.args.v (pack (bytes "orchid")) 107 c.in-391878862402159.is refl

pub returns-in-6265398640 : goal.returns-in-6265398640
unfolding list_of keys_of packs onto seek
returns-in-6265398640 c = key_at (keys_of list.CssColors) c.args.v (pack (bytes "peru")) 114 c.in-6265398640.is refl

pub returns-in-6097365360 : goal.returns-in-6097365360
unfolding list_of keys_of packs onto seek
returns-in-6097365360 c = key_at (keys_of list.CssColors) c.args.v (pack (bytes "pink")) 115 c.in-6097365360.is refl

pub returns-in-6131379312 : goal.returns-in-6131379312
unfolding list_of keys_of packs onto seek
returns-in-6131379312 c = key_at (keys_of list.CssColors) c.args.v (pack (bytes "plum")) 116 c.in-6131379312.is refl

pub returns-in-392991394133360 : goal.returns-in-392991394133360
unfolding list_of keys_of packs onto seek
returns-in-392991394133360 c = key_at (keys_of list.CssColors) c.args.v (pack (bytes "purple")) 118 c.in-392991394133360.is refl

pub returns-in-23356786 : goal.returns-in-23356786
unfolding list_of keys_of packs onto seek
returns-in-23356786 c = key_at (keys_of list.CssColors) c.args.v (pack (bytes "red")) 120 c.in-23356786.is refl

pub returns-in-402899832955251 : goal.returns-in-402899832955251
unfolding list_of keys_of packs onto seek
returns-in-402899832955251 c = key_at (keys_of list.CssColors) c.args.v (pack (bytes "salmon")) 124 c.in-402899832955251.is refl

pub returns-in-388601903147379 : goal.returns-in-388601903147379
unfolding list_of keys_of packs onto seek
returns-in-388601903147379 c = key_at (keys_of list.CssColors) c.args.v (pack (bytes "sienna")) 128 c.in-388601903147379.is refl

pub returns-in-407255080790387 : goal.returns-in-407255080790387
unfolding list_of keys_of packs onto seek
returns-in-407255080790387 c = key_at (keys_of list.CssColors) c.args.v (pack (bytes "silver")) 129 c.in-407255080790387.is refl

pub returns-in-100615675054746483 : goal.returns-in-100615675054746483
unfolding list_of keys_of packs onto seek
returns-in-100615675054746483 c = key_at (keys_of list.CssColors) c.args.v (pack (bytes "skyblue")) 130 c.in-100615675054746483.is refl

pub returns-in-6298758771 : goal.returns-in-6298758771
unfolding list_of keys_of packs onto seek
returns-in-6298758771 c = key_at (keys_of list.CssColors) c.args.v (pack (bytes "snow")) 134 c.in-6298758771.is refl

pub returns-in-24011124 : goal.returns-in-24011124
unfolding list_of keys_of packs onto seek
returns-in-24011124 c = key_at (keys_of list.CssColors) c.args.v (pack (bytes "tan")) 137 c.in-24011124.is refl

pub returns-in-6113289588 : goal.returns-in-6113289588
unfolding list_of keys_of packs onto seek
returns-in-6113289588 c = key_at (keys_of list.CssColors) c.args.v (pack (bytes "teal")) 138 c.in-6113289588.is refl

pub returns-in-100605814093998196 : goal.returns-in-100605814093998196
unfolding list_of keys_of packs onto seek
returns-in-100605814093998196 c = key_at (keys_of list.CssColors) c.args.v (pack (bytes "thistle")) 139 c.in-100605814093998196.is refl

pub returns-in-404020618162036 : goal.returns-in-404020618162036
unfolding list_of keys_of packs onto seek
returns-in-404020618162036 c = key_at (keys_of list.CssColors) c.args.v (pack (bytes "tomato")) 140 c.in-404020618162036.is refl

pub returns-in-409453936470390 : goal.returns-in-409453936470390
unfolding list_of keys_of packs onto seek
returns-in-409453936470390 c = key_at (keys_of list.CssColors) c.args.v (pack (bytes "violet")) 142 c.in-409453936470390.is refl

pub returns-in-1599361869943 : goal.returns-in-1599361869943
unfolding list_of keys_of packs onto seek
returns-in-1599361869943 c = key_at (keys_of list.CssColors) c.args.v (pack (bytes "wheat")) 143 c.in-1599361869943.is refl

pub returns-in-1535256389751 : goal.returns-in-1535256389751
unfolding list_of keys_of packs onto seek
returns-in-1535256389751 c = key_at (keys_of list.CssColors) c.args.v (pack (bytes "white")) 144 c.in-1535256389751.is refl

pub returns-in-412795420829049 : goal.returns-in-412795420829049
unfolding list_of keys_of packs onto seek
returns-in-412795420829049 c = key_at (keys_of list.CssColors) c.args.v (pack (bytes "yellow")) 146 c.in-412795420829049.is refl

pub returns-in_default : goal.returns-in_default
unfolding list_of keys_of packs onto seek every one_of short_in shorts
returns-in_default c = no_key (keys_of list.CssColors) c.args.v refl c.in_default.in_default-own.rest (omega arith)
