-- `presets::is_known_preset` meets its contract: the code's list has the presets, which is computed.
use mathlib.Core.Path.{◌≡◌, refl}
use Rattle.text.specs.Words.{words}
use Rattle.words.specs.declared.List.TheVariants.{Presets}
use Rattle.words.specs.ListMeans.{list_of}
use Rattle.presets.specs.Presets.{presets, is_preset}
use Rattle.presets.proofs.is_known_preset.Goals as goal

names_are : list_of Presets ≡ words presets
unfolding list_of
names_are = refl

pub returns : goal.returns
unfolding is_preset
returns c = rw names_are at c.holds.ensures
