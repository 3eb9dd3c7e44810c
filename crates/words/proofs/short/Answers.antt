-- Made by tools/words.py. `words::short` meets its contract.
use mathlib.Core.List.{[], ◌∷◌}
use mathlib.Core.Path.{refl, ◌∙◌}
use native.Mathlib.Omega.{arith}
use Rattle.std.proofs.Common.{rules}
use Rattle.text.specs.Bytes.{bytes, one_of}
use Rattle.words.specs.declared.List.TheVariants as list
use Rattle.words.specs.ListMeans.{list_of}
use Rattle.words.specs.KeyMeans.{onto, pack, packs, keys_of, seek}
use Rattle.words.proofs.KeyLaws.{every}
use Rattle.words.proofs.ListLaws.{short_in, none_short, every_list, among, one_key, no_short, by_list}
use Rattle.words.proofs.short.Goals as goal

pub returns-in-DrawRows : goal.returns-in-DrawRows
unfolding list_of keys_of packs onto seek every one_of short_in
returns-in-DrawRows c =
    by_list _ list.DrawRows _ _ c.in-DrawRows.is (c.if_equal.ensures ∙ one_key (keys_of list.DrawRows) c.args.v (pack (bytes "easing")) 1
    refl refl (omega arith))

pub returns-in-RoughFields : goal.returns-in-RoughFields
unfolding list_of keys_of packs onto seek every one_of short_in
returns-in-RoughFields c =
    by_list _ list.RoughFields _ _ c.in-RoughFields.is (c.if_equal-in-RoughFields.ensures ∙ one_key (keys_of list.RoughFields) c.args.v
    (pack (bytes "points")) 1 refl refl (omega arith))

pub returns-in-SlowMoFields : goal.returns-in-SlowMoFields
unfolding list_of keys_of packs onto seek every one_of short_in
returns-in-SlowMoFields c =
    by_list _ list.SlowMoFields _ _ c.in-SlowMoFields.is (c.if_equal-in-SlowMoFields.ensures ∙ one_key (keys_of list.SlowMoFields) c.args.v
    (pack (bytes "power")) 1 refl refl (omega arith))

pub returns-in-Along : goal.returns-in-Along
unfolding list_of keys_of packs onto seek every one_of short_in
returns-in-Along c =
    by_list _ list.Along _ _ c.in-Along.is (c.if_equal-in-Along.ensures ∙ one_key (keys_of list.Along) c.args.v (pack (bytes "along")) 0
    refl refl (omega arith))

pub returns-in-Integrators : goal.returns-in-Integrators
unfolding list_of keys_of packs onto seek every one_of short_in
returns-in-Integrators c =
    by_list _ list.Integrators _ _ c.in-Integrators.is (c.if_equal-in-Integrators.ensures ∙ one_key (keys_of list.Integrators) c.args.v
    (pack (bytes "rk4")) 1 refl refl (omega arith))

pub returns-in-Easings : goal.returns-in-Easings
unfolding list_of keys_of packs onto seek every one_of short_in
returns-in-Easings c =
    by_list _ list.Easings _ _ c.in-Easings.is (c.if_equal-in-Easings.ensures ∙ one_key (keys_of list.Easings) c.args.v (pack
    (bytes "linear")) 0 refl refl (omega arith))

pub returns-in_default : goal.returns-in_default
unfolding list_of packs onto every one_of short_in none_short every_list among
returns-in_default c =
    no_short (list.Nodes ∷ list.TweenRows ∷ list.SpringRows ∷ list.WaveformRows ∷ list.DrawRows ∷ list.MorphRows ∷ list.ColorRows ∷
    list.PathRows ∷ list.RoughFields ∷ list.SlowMoFields ∷ list.GridFields ∷ list.RandomFields ∷ list.OpeningFields ∷ list.Curves ∷
    list.LoopModes ∷ list.GridOrigins ∷ list.Patterns ∷ list.Spaces ∷ list.Waveforms ∷ list.Along ∷ list.SpringPresets ∷ list.Integrators ∷
    list.Easings ∷ list.Presets ∷ list.Colors ∷ list.CssColors ∷ []) c.args.list (search rules) c.args.v refl (omega arith)
