-- Made by tools/words.py. `words::long_css_colors_darkslat` meets its contract.
use mathlib.Core.Path.{refl}
use native.Mathlib.Omega.{arith}
use Rattle.text.specs.Bytes.{bytes, one_of}
use Rattle.words.specs.declared.List.TheVariants as list
use Rattle.words.specs.ListMeans.{list_of}
use Rattle.words.specs.KeyMeans.{onto, pack, packs, keys_of, seek}
use Rattle.words.proofs.KeyLaws.{every}
use Rattle.words.proofs.ListLaws.{middle, is_middle, tail_in, tails, tail_at, no_tail}
use Rattle.words.proofs.long_css_colors_darkslat.Goals as goal

pub returns-in-1535273362021 : goal.returns-in-1535273362021
unfolding list_of keys_of packs onto seek
returns-in-1535273362021 c =
    tail_at (keys_of list.CssColors) 8386103224120271204 c.args.rest (pack (bytes "darkslateblue")) 35 c.in-1535273362021.is refl refl

pub returns-in-1620837558117 : goal.returns-in-1620837558117
unfolding list_of keys_of packs onto seek
returns-in-1620837558117 c =
    tail_at (keys_of list.CssColors) 8386103224120271204 c.args.rest (pack (bytes "darkslategray")) 36 c.in-1620837558117.is refl refl

pub returns-in-1620904666981 : goal.returns-in-1620904666981
unfolding list_of keys_of packs onto seek
returns-in-1620904666981 c =
    tail_at (keys_of list.CssColors) 8386103224120271204 c.args.rest (pack (bytes "darkslategrey")) 37 c.in-1620904666981.is refl refl

pub returns-in_default : goal.returns-in_default
unfolding list_of keys_of packs onto seek every one_of middle tail_in tails
returns-in_default c =
    let args = c.args in
    no_tail middle (keys_of list.CssColors) 8386103224120271204 args.rest (omega arith) (is_middle args.rest c.requires (omega arith)) refl
    c.in_default.in_default-own.rest
