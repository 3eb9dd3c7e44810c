-- Made by tools/words.py. The place of each list in the row of them.
use Prim.Native.Nat.{ℕ}
use mathlib.Core.Path.{◌≡◌, refl}
use lib.ListN.{get_or}
use Rattle.words.specs.ListMeans.{all_lists}
use Rattle.words.specs.declared.List.{List as WordList}
use Rattle.words.specs.declared.List.TheVariants as list

abbrev pub number : WordList → ℕ
number list.Nodes = 0
number list.TweenRows = 1
number list.SpringRows = 2
number list.WaveformRows = 3
number list.DrawRows = 4
number list.MorphRows = 5
number list.ColorRows = 6
number list.PathRows = 7
number list.RoughFields = 8
number list.SlowMoFields = 9
number list.GridFields = 10
number list.RandomFields = 11
number list.OpeningFields = 12
number list.Curves = 13
number list.LoopModes = 14
number list.GroupModes = 15
number list.GridOrigins = 16
number list.Patterns = 17
number list.Spaces = 18
number list.Waveforms = 19
number list.Along = 20
number list.SpringPresets = 21
number list.Integrators = 22
number list.Easings = 23
number list.Presets = 24
number list.Colors = 25
number list.CssColors = 26
number list.Empty = 27

pub at_number : (k : WordList) → get_or all_lists (number k) list.Nodes ≡ k
at_number list.Nodes = refl
at_number list.TweenRows = refl
at_number list.SpringRows = refl
at_number list.WaveformRows = refl
at_number list.DrawRows = refl
at_number list.MorphRows = refl
at_number list.ColorRows = refl
at_number list.PathRows = refl
at_number list.RoughFields = refl
at_number list.SlowMoFields = refl
at_number list.GridFields = refl
at_number list.RandomFields = refl
at_number list.OpeningFields = refl
at_number list.Curves = refl
at_number list.LoopModes = refl
at_number list.GroupModes = refl
at_number list.GridOrigins = refl
at_number list.Patterns = refl
at_number list.Spaces = refl
at_number list.Waveforms = refl
at_number list.Along = refl
at_number list.SpringPresets = refl
at_number list.Integrators = refl
at_number list.Easings = refl
at_number list.Presets = refl
at_number list.Colors = refl
at_number list.CssColors = refl
at_number list.Empty = refl
