-- Made by tools/words.py. `words::long` meets its contract.
use mathlib.Core.List.{[], ◌∷◌}
use mathlib.Core.Path.{refl}
use native.Mathlib.Omega.{arith}
use Rattle.std.proofs.Common.{rules}
use Rattle.text.specs.Bytes.{bytes, one_of}
use Rattle.words.specs.declared.List.TheVariants as list
use Rattle.words.specs.ListMeans.{list_of}
use Rattle.words.specs.KeyMeans.{onto, pack, packs, keys_of, seek}
use Rattle.words.proofs.KeyLaws.{every}
use Rattle.words.proofs.ListLaws.{middle, is_middle, tail_in, head_in, one_word, none_from, every_list, among, no_word, by_list}
use Rattle.words.proofs.long.Goals as goal

pub returns-in-DrawRows : goal.returns-in-DrawRows
unfolding list_of keys_of packs onto seek every one_of middle tail_in head_in
returns-in-DrawRows c =
    let args = c.args in
    by_list _ list.DrawRows _ _ c.in-DrawRows.is (one_word middle (keys_of list.DrawRows) args.v args.rest (omega arith) (is_middle
    args.rest c.requires (omega arith)) (pack (bytes "duration")) 0 _ c.if_long.ensures refl refl refl)

pub returns-in-MorphRows : goal.returns-in-MorphRows
unfolding list_of keys_of packs onto seek every one_of middle tail_in head_in
returns-in-MorphRows c =
    let args = c.args in
    by_list _ list.MorphRows _ _ c.in-MorphRows.is (one_word middle (keys_of list.MorphRows) args.v args.rest (omega arith) (is_middle
    args.rest c.requires (omega arith)) (pack (bytes "duration")) 1 _ c.if_long-in-MorphRows.ensures refl refl refl)

pub returns-in-ColorRows : goal.returns-in-ColorRows
unfolding list_of keys_of packs onto seek every one_of middle tail_in head_in
returns-in-ColorRows c =
    let args = c.args in
    by_list _ list.ColorRows _ _ c.in-ColorRows.is (one_word middle (keys_of list.ColorRows) args.v args.rest (omega arith) (is_middle
    args.rest c.requires (omega arith)) (pack (bytes "duration")) 0 _ c.if_long-in-ColorRows.ensures refl refl refl)

pub returns-in-RoughFields : goal.returns-in-RoughFields
unfolding list_of keys_of packs onto seek every one_of middle tail_in head_in
returns-in-RoughFields c =
    let args = c.args in
    by_list _ list.RoughFields _ _ c.in-RoughFields.is (one_word middle (keys_of list.RoughFields) args.v args.rest (omega arith) (is_middle
    args.rest c.requires (omega arith)) (pack (bytes "strength")) 0 _ c.if_long-in-RoughFields.ensures refl refl refl)

pub returns-in-SlowMoFields : goal.returns-in-SlowMoFields
unfolding list_of keys_of packs onto seek every one_of middle tail_in head_in
returns-in-SlowMoFields c =
    let args = c.args in
    by_list _ list.SlowMoFields _ _ c.in-SlowMoFields.is (one_word middle (keys_of list.SlowMoFields) args.v args.rest (omega arith)
    (is_middle args.rest c.requires (omega arith)) (pack (bytes "linear_ratio")) 0 _ c.if_long-in-SlowMoFields.ensures refl refl refl)

pub returns-in-Curves : goal.returns-in-Curves
unfolding list_of keys_of packs onto seek every one_of middle tail_in head_in
returns-in-Curves c =
    let args = c.args in
    by_list _ list.Curves _ _ c.in-Curves.is (one_word middle (keys_of list.Curves) args.v args.rest (omega arith) (is_middle args.rest
    c.requires (omega arith)) (pack (bytes "cubic_bezier")) 0 _ c.if_long-in-Curves.ensures refl refl refl)

pub returns-in-LoopModes : goal.returns-in-LoopModes
unfolding list_of keys_of packs onto seek every one_of middle tail_in head_in
returns-in-LoopModes c =
    let args = c.args in
    by_list _ list.LoopModes _ _ c.in-LoopModes.is (one_word middle (keys_of list.LoopModes) args.v args.rest (omega arith) (is_middle
    args.rest c.requires (omega arith)) (pack (bytes "ping_pong")) 2 _ c.if_long-in-LoopModes.ensures refl refl refl)

pub returns-in_default : goal.returns-in_default
unfolding list_of packs onto every one_of middle head_in none_from every_list among
returns-in_default c =
    let args = c.args in
    no_word (list.Nodes ∷ list.TweenRows ∷ list.SpringRows ∷ list.WaveformRows ∷ list.DrawRows ∷ list.MorphRows ∷ list.ColorRows ∷
    list.PathRows ∷ list.RoughFields ∷ list.SlowMoFields ∷ list.Curves ∷ list.LoopModes ∷ list.GroupModes ∷ list.GridOrigins ∷ list.Patterns
    ∷ list.Waveforms ∷ list.Easings ∷ list.Presets ∷ list.CssColors ∷ []) args.list (search rules) middle args.v args.rest (omega arith)
    (is_middle args.rest c.requires (omega arith)) refl
