-- Made by tools/words.py. `words::long_css_colors_lightgre` meets its contract.
use mathlib.Core.Path.{refl}
use native.Mathlib.Omega.{arith}
use Rattle.text.specs.Bytes.{bytes, one_of}
use Rattle.words.specs.declared.List.TheVariants as list
use Rattle.words.specs.ListMeans.{list_of}
use Rattle.words.specs.KeyMeans.{onto, pack, packs, keys_of, seek}
use Rattle.words.proofs.KeyLaws.{every}
use Rattle.words.proofs.ListLaws.{middle, is_middle, tail_in, tails, tail_at, no_tail}
use Rattle.words.proofs.long_css_colors_lightgre.Goals as goal

pub returns-in-93797 : goal.returns-in-93797
unfolding list_of keys_of packs onto seek
returns-in-93797 c = tail_at (keys_of list.CssColors) 7310018894841211244 c.args.rest (pack (bytes "lightgreen")) 72 c.in-93797.is refl refl

pub returns-in-377 : goal.returns-in-377
unfolding list_of keys_of packs onto seek
returns-in-377 c = tail_at (keys_of list.CssColors) 7310018894841211244 c.args.rest (pack (bytes "lightgrey")) 73 c.in-377.is refl refl

pub returns-in_default : goal.returns-in_default
unfolding list_of keys_of packs onto seek every one_of middle tail_in tails
returns-in_default c =
    let args = c.args in
    no_tail middle (keys_of list.CssColors) 7310018894841211244 args.rest (omega arith) (is_middle args.rest c.requires (omega arith)) refl
    c.in_default.in_default-own.rest
