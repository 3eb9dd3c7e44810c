-- Made by tools/words.py. `words::long_css_colors_lightsla` meets its contract.
use mathlib.Core.Path.{refl}
use native.Mathlib.Omega.{arith}
use Rattle.text.specs.Bytes.{bytes, one_of}
use Rattle.words.specs.declared.List.TheVariants as list
use Rattle.words.specs.ListMeans.{list_of}
use Rattle.words.specs.KeyMeans.{onto, pack, packs, keys_of, seek}
use Rattle.words.proofs.KeyLaws.{every}
use Rattle.words.proofs.ListLaws.{middle, is_middle, tail_in, tails, tail_at, no_tail}
use Rattle.words.proofs.long_css_colors_lightsla.Goals as goal

pub returns-in-414934414878068 : goal.returns-in-414934414878068
unfolding list_of keys_of packs onto seek
returns-in-414934414878068 c =
    tail_at (keys_of list.CssColors) 7020112862968768876 c.args.rest (pack (bytes "lightslategray")) 78 c.in-414934414878068.is refl refl

pub returns-in-414951594747252 : goal.returns-in-414951594747252
unfolding list_of keys_of packs onto seek
returns-in-414951594747252 c =
    tail_at (keys_of list.CssColors) 7020112862968768876 c.args.rest (pack (bytes "lightslategrey")) 79 c.in-414951594747252.is refl refl

pub returns-in_default : goal.returns-in_default
unfolding list_of keys_of packs onto seek every one_of middle tail_in tails
returns-in_default c =
    let args = c.args in
    no_tail middle (keys_of list.CssColors) 7020112862968768876 args.rest (omega arith) (is_middle args.rest c.requires (omega arith)) refl
    c.in_default.in_default-own.rest
