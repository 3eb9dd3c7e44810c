-- Made by tools/words.py. `words::long_css_colors` meets its contract.
use mathlib.Core.Path.{refl}
use native.Mathlib.Omega.{arith}
use Rattle.text.specs.Bytes.{bytes, one_of}
use Rattle.words.specs.declared.List.TheVariants as list
use Rattle.words.specs.ListMeans.{list_of}
use Rattle.words.specs.KeyMeans.{onto, pack, packs, keys_of, seek}
use Rattle.words.proofs.KeyLaws.{every}
use Rattle.words.proofs.ListLaws.{middle, is_middle, tail_in, word-at, head_in, heads, no_head}
use Rattle.words.proofs.long_css_colors.Goals as goal

pub returns-in-8461245987521391713 : goal.returns-in-8461245987521391713
unfolding list_of keys_of packs onto seek every one_of middle tail_in
returns-in-8461245987521391713 c =
    let args = c.args in
    word-at middle (keys_of list.CssColors) args.v args.rest (omega arith) (is_middle args.rest c.requires (omega arith)) (pack
    (bytes "aliceblue")) 0 _ c.in-8461245987521391713.is c.if_equal.ensures refl refl

pub returns-in-8603411793122192993 : goal.returns-in-8603411793122192993
unfolding list_of keys_of packs onto seek every one_of middle tail_in
returns-in-8603411793122192993 c =
    let args = c.args in
    word-at middle (keys_of list.CssColors) args.v args.rest (omega arith) (is_middle args.rest c.requires (omega arith)) (pack
    (bytes "antiquewhite")) 1 _ c.in-8603411793122192993.is c.if_equal-in-8603411793122192993.ensures refl refl

pub returns-in-7598242643741864289 : goal.returns-in-7598242643741864289
unfolding list_of keys_of packs onto seek every one_of middle tail_in
returns-in-7598242643741864289 c =
    let args = c.args in
    word-at middle (keys_of list.CssColors) args.v args.rest (omega arith) (is_middle args.rest c.requires (omega arith)) (pack
    (bytes "aquamarine")) 3 _ c.in-7598242643741864289.is c.if_equal-in-7598242643741864289.ensures refl refl

pub returns-in-7234303152703499362 : goal.returns-in-7234303152703499362
unfolding list_of keys_of packs onto seek every one_of middle tail_in
returns-in-7234303152703499362 c =
    let args = c.args in
    word-at middle (keys_of list.CssColors) args.v args.rest (omega arith) (is_middle args.rest c.requires (omega arith)) (pack
    (bytes "blanchedalmond")) 8 _ c.in-7234303152703499362.is c.if_equal-in-7234303152703499362.ensures refl refl

pub returns-in-7813579835740351586 : goal.returns-in-7813579835740351586
unfolding list_of keys_of packs onto seek every one_of middle tail_in
returns-in-7813579835740351586 c =
    let args = c.args in
    word-at middle (keys_of list.CssColors) args.v args.rest (omega arith) (is_middle args.rest c.requires (omega arith)) (pack
    (bytes "blueviolet")) 10 _ c.in-7813579835740351586.is c.if_equal-in-7813579835740351586.ensures refl refl

pub returns-in-8029768024019072354 : goal.returns-in-8029768024019072354
unfolding list_of keys_of packs onto seek every one_of middle tail_in
returns-in-8029768024019072354 c =
    let args = c.args in
    word-at middle (keys_of list.CssColors) args.v args.rest (omega arith) (is_middle args.rest c.requires (omega arith)) (pack
    (bytes "burlywood")) 12 _ c.in-8029768024019072354.is c.if_equal-in-8029768024019072354.ensures refl refl

pub returns-in-8461246051979125091 : goal.returns-in-8461246051979125091
unfolding list_of keys_of packs onto seek every one_of middle tail_in
returns-in-8461246051979125091 c =
    let args = c.args in
    word-at middle (keys_of list.CssColors) args.v args.rest (omega arith) (is_middle args.rest c.requires (omega arith)) (pack
    (bytes "cadetblue")) 13 _ c.in-8461246051979125091.is c.if_equal-in-8461246051979125091.ensures refl refl

pub returns-in-8459293319546103907 : goal.returns-in-8459293319546103907
unfolding list_of keys_of packs onto seek every one_of middle tail_in
returns-in-8459293319546103907 c =
    let args = c.args in
    word-at middle (keys_of list.CssColors) args.v args.rest (omega arith) (is_middle args.rest c.requires (omega arith)) (pack
    (bytes "chartreuse")) 14 _ c.in-8459293319546103907.is c.if_equal-in-8459293319546103907.ensures refl refl

pub returns-in-8386103206805989475 : goal.returns-in-8386103206805989475
unfolding list_of keys_of packs onto seek every one_of middle tail_in
returns-in-8386103206805989475 c =
    let args = c.args in
    word-at middle (keys_of list.CssColors) args.v args.rest (omega arith) (is_middle args.rest c.requires (omega arith)) (pack
    (bytes "chocolate")) 15 _ c.in-8386103206805989475.is c.if_equal-in-8386103206805989475.ensures refl refl

pub returns-in-8606216600123764579 : goal.returns-in-8606216600123764579
unfolding list_of keys_of packs onto seek every one_of middle tail_in
returns-in-8606216600123764579 c =
    let args = c.args in
    word-at middle (keys_of list.CssColors) args.v args.rest (omega arith) (is_middle args.rest c.requires (omega arith)) (pack
    (bytes "cornflowerblue")) 17 _ c.in-8606216600123764579.is c.if_equal-in-8606216600123764579.ensures refl refl

pub returns-in-7740677804038188899 : goal.returns-in-7740677804038188899
unfolding list_of keys_of packs onto seek every one_of middle tail_in
returns-in-7740677804038188899 c =
    let args = c.args in
    word-at middle (keys_of list.CssColors) args.v args.rest (omega arith) (is_middle args.rest c.requires (omega arith)) (pack
    (bytes "cornsilk")) 18 _ c.in-7740677804038188899.is c.if_equal-in-7740677804038188899.ensures refl refl

pub returns-in-7310868740071121252 : goal.returns-in-7310868740071121252
unfolding list_of keys_of packs onto seek every one_of middle tail_in
returns-in-7310868740071121252 c =
    let args = c.args in
    word-at middle (keys_of list.CssColors) args.v args.rest (omega arith) (is_middle args.rest c.requires (omega arith)) (pack
    (bytes "darkblue")) 21 _ c.in-7310868740071121252.is c.if_equal-in-7310868740071121252.ensures refl refl

pub returns-in-7953771884824387940 : goal.returns-in-7953771884824387940
unfolding list_of keys_of packs onto seek every one_of middle tail_in
returns-in-7953771884824387940 c =
    let args = c.args in
    word-at middle (keys_of list.CssColors) args.v args.rest (omega arith) (is_middle args.rest c.requires (omega arith)) (pack
    (bytes "darkcyan")) 22 _ c.in-7953771884824387940.is c.if_equal-in-7953771884824387940.ensures refl refl

pub returns-in-7236281191252517220 : goal.returns-in-7236281191252517220
unfolding list_of keys_of packs onto seek every one_of middle tail_in
returns-in-7236281191252517220 c =
    let args = c.args in
    word-at middle (keys_of list.CssColors) args.v args.rest (omega arith) (is_middle args.rest c.requires (omega arith)) (pack
    (bytes "darkgoldenrod")) 23 _ c.in-7236281191252517220.is c.if_equal-in-7236281191252517220.ensures refl refl

pub returns-in-8746397739840069988 : goal.returns-in-8746397739840069988
unfolding list_of keys_of packs onto seek every one_of middle tail_in
returns-in-8746397739840069988 c =
    let args = c.args in
    word-at middle (keys_of list.CssColors) args.v args.rest (omega arith) (is_middle args.rest c.requires (omega arith)) (pack
    (bytes "darkgray")) 24 _ c.in-8746397739840069988.is c.if_equal-in-8746397739840069988.ensures refl refl

pub returns-in-7306371758988353892 : goal.returns-in-7306371758988353892
unfolding list_of keys_of packs onto seek every one_of middle tail_in
returns-in-7306371758988353892 c =
    let args = c.args in
    word-at middle (keys_of list.CssColors) args.v args.rest (omega arith) (is_middle args.rest c.requires (omega arith)) (pack
    (bytes "darkgreen")) 25 _ c.in-7306371758988353892.is c.if_equal-in-7306371758988353892.ensures refl refl

pub returns-in-8747523639746912612 : goal.returns-in-8747523639746912612
unfolding list_of keys_of packs onto seek every one_of middle tail_in
returns-in-8747523639746912612 c =
    let args = c.args in
    word-at middle (keys_of list.CssColors) args.v args.rest (omega arith) (is_middle args.rest c.requires (omega arith)) (pack
    (bytes "darkgrey")) 26 _ c.in-8747523639746912612.is c.if_equal-in-8747523639746912612.ensures refl refl

pub returns-in-7737580445372670308 : goal.returns-in-7737580445372670308
unfolding list_of keys_of packs onto seek every one_of middle tail_in
returns-in-7737580445372670308 c =
    let args = c.args in
    word-at middle (keys_of list.CssColors) args.v args.rest (omega arith) (is_middle args.rest c.requires (omega arith)) (pack
    (bytes "darkkhaki")) 27 _ c.in-7737580445372670308.is c.if_equal-in-7737580445372670308.ensures refl refl

pub returns-in-7306916043013906788 : goal.returns-in-7306916043013906788
unfolding list_of keys_of packs onto seek every one_of middle tail_in
returns-in-7306916043013906788 c =
    let args = c.args in
    word-at middle (keys_of list.CssColors) args.v args.rest (omega arith) (is_middle args.rest c.requires (omega arith)) (pack
    (bytes "darkmagenta")) 28 _ c.in-7306916043013906788.is c.if_equal-in-7306916043013906788.ensures refl refl

pub returns-in-8532470194829943140 : goal.returns-in-8532470194829943140
unfolding list_of keys_of packs onto seek every one_of middle tail_in
returns-in-8532470194829943140 c =
    let args = c.args in
    word-at middle (keys_of list.CssColors) args.v args.rest (omega arith) (is_middle args.rest c.requires (omega arith)) (pack
    (bytes "darkolivegreen")) 29 _ c.in-8532470194829943140.is c.if_equal-in-8532470194829943140.ensures refl refl

pub returns-in-7953764239782601060 : goal.returns-in-7953764239782601060
unfolding list_of keys_of packs onto seek every one_of middle tail_in
returns-in-7953764239782601060 c =
    let args = c.args in
    word-at middle (keys_of list.CssColors) args.v args.rest (omega arith) (is_middle args.rest c.requires (omega arith)) (pack
    (bytes "darkorange")) 30 _ c.in-7953764239782601060.is c.if_equal-in-7953764239782601060.ensures refl refl

pub returns-in-7521981625508454756 : goal.returns-in-7521981625508454756
unfolding list_of keys_of packs onto seek every one_of middle tail_in
returns-in-7521981625508454756 c =
    let args = c.args in
    word-at middle (keys_of list.CssColors) args.v args.rest (omega arith) (is_middle args.rest c.requires (omega arith)) (pack
    (bytes "darkorchid")) 31 _ c.in-7521981625508454756.is c.if_equal-in-7521981625508454756.ensures refl refl

pub returns-in-7884784195970687332 : goal.returns-in-7884784195970687332
unfolding list_of keys_of packs onto seek every one_of middle tail_in
returns-in-7884784195970687332 c =
    let args = c.args in
    word-at middle (keys_of list.CssColors) args.v args.rest (omega arith) (is_middle args.rest c.requires (omega arith)) (pack
    (bytes "darksalmon")) 33 _ c.in-7884784195970687332.is c.if_equal-in-7884784195970687332.ensures refl refl

pub returns-in-7449346805045813604 : goal.returns-in-7449346805045813604
unfolding list_of keys_of packs onto seek every one_of middle tail_in
returns-in-7449346805045813604 c =
    let args = c.args in
    word-at middle (keys_of list.CssColors) args.v args.rest (omega arith) (is_middle args.rest c.requires (omega arith)) (pack
    (bytes "darkseagreen")) 34 _ c.in-7449346805045813604.is c.if_equal-in-7449346805045813604.ensures refl refl

pub returns-in-8174725416510185828 : goal.returns-in-8174725416510185828
unfolding list_of keys_of packs onto seek every one_of middle tail_in
returns-in-8174725416510185828 c =
    let args = c.args in
    word-at middle (keys_of list.CssColors) args.v args.rest (omega arith) (is_middle args.rest c.requires (omega arith)) (pack
    (bytes "darkturquoise")) 38 _ c.in-8174725416510185828.is c.if_equal-in-8174725416510185828.ensures refl refl

pub returns-in-7813579835840815460 : goal.returns-in-7813579835840815460
unfolding list_of keys_of packs onto seek every one_of middle tail_in
returns-in-7813579835840815460 c =
    let args = c.args in
    word-at middle (keys_of list.CssColors) args.v args.rest (omega arith) (is_middle args.rest c.requires (omega arith)) (pack
    (bytes "darkviolet")) 39 _ c.in-7813579835840815460.is c.if_equal-in-7813579835840815460.ensures refl refl

pub returns-in-7741240741139408228 : goal.returns-in-7741240741139408228
unfolding list_of keys_of packs onto seek every one_of middle tail_in
returns-in-7741240741139408228 c =
    let args = c.args in
    word-at middle (keys_of list.CssColors) args.v args.rest (omega arith) (is_middle args.rest c.requires (omega arith)) (pack
    (bytes "deeppink")) 40 _ c.in-7741240741139408228.is c.if_equal-in-7741240741139408228.ensures refl refl

pub returns-in-7095820831450031460 : goal.returns-in-7095820831450031460
unfolding list_of keys_of packs onto seek every one_of middle tail_in
returns-in-7095820831450031460 c =
    let args = c.args in
    word-at middle (keys_of list.CssColors) args.v args.rest (omega arith) (is_middle args.rest c.requires (omega arith)) (pack
    (bytes "deepskyblue")) 41 _ c.in-7095820831450031460.is c.if_equal-in-7095820831450031460.ensures refl refl

pub returns-in-7809930483665760100 : goal.returns-in-7809930483665760100
unfolding list_of keys_of packs onto seek every one_of middle tail_in
returns-in-7809930483665760100 c =
    let args = c.args in
    word-at middle (keys_of list.CssColors) args.v args.rest (omega arith) (is_middle args.rest c.requires (omega arith)) (pack
    (bytes "dodgerblue")) 44 _ c.in-7809930483665760100.is c.if_equal-in-7809930483665760100.ensures refl refl

pub returns-in-7163382449243842918 : goal.returns-in-7163382449243842918
unfolding list_of keys_of packs onto seek every one_of middle tail_in
returns-in-7163382449243842918 c =
    let args = c.args in
    word-at middle (keys_of list.CssColors) args.v args.rest (omega arith) (is_middle args.rest c.requires (omega arith)) (pack
    (bytes "firebrick")) 45 _ c.in-7163382449243842918.is c.if_equal-in-7163382449243842918.ensures refl refl

pub returns-in-7527604467960605798 : goal.returns-in-7527604467960605798
unfolding list_of keys_of packs onto seek every one_of middle tail_in
returns-in-7527604467960605798 c =
    let args = c.args in
    word-at middle (keys_of list.CssColors) args.v args.rest (omega arith) (is_middle args.rest c.requires (omega arith)) (pack
    (bytes "floralwhite")) 46 _ c.in-7527604467960605798.is c.if_equal-in-7527604467960605798.ensures refl refl

pub returns-in-8243685681897041766 : goal.returns-in-8243685681897041766
unfolding list_of keys_of packs onto seek every one_of middle tail_in
returns-in-8243685681897041766 c =
    let args = c.args in
    word-at middle (keys_of list.CssColors) args.v args.rest (omega arith) (is_middle args.rest c.requires (omega arith)) (pack
    (bytes "forestgreen")) 47 _ c.in-8243685681897041766.is c.if_equal-in-8243685681897041766.ensures refl refl

pub returns-in-8245917690651828583 : goal.returns-in-8245917690651828583
unfolding list_of keys_of packs onto seek every one_of middle tail_in
returns-in-8245917690651828583 c =
    let args = c.args in
    word-at middle (keys_of list.CssColors) args.v args.rest (omega arith) (is_middle args.rest c.requires (omega arith)) (pack
    (bytes "gainsboro")) 49 _ c.in-8245917690651828583.is c.if_equal-in-8245917690651828583.ensures refl refl

pub returns-in-7595452113596934247 : goal.returns-in-7595452113596934247
unfolding list_of keys_of packs onto seek every one_of middle tail_in
returns-in-7595452113596934247 c =
    let args = c.args in
    word-at middle (keys_of list.CssColors) args.v args.rest (omega arith) (is_middle args.rest c.requires (omega arith)) (pack
    (bytes "ghostwhite")) 50 _ c.in-7595452113596934247.is c.if_equal-in-7595452113596934247.ensures refl refl

pub returns-in-8030602467310595943 : goal.returns-in-8030602467310595943
unfolding list_of keys_of packs onto seek every one_of middle tail_in
returns-in-8030602467310595943 c =
    let args = c.args in
    word-at middle (keys_of list.CssColors) args.v args.rest (omega arith) (is_middle args.rest c.requires (omega arith)) (pack
    (bytes "goldenrod")) 52 _ c.in-8030602467310595943.is c.if_equal-in-8030602467310595943.ensures refl refl

pub returns-in-7810782643798504039 : goal.returns-in-7810782643798504039
unfolding list_of keys_of packs onto seek every one_of middle tail_in
returns-in-7810782643798504039 c =
    let args = c.args in
    word-at middle (keys_of list.CssColors) args.v args.rest (omega arith) (is_middle args.rest c.requires (omega arith)) (pack
    (bytes "greenyellow")) 55 _ c.in-7810782643798504039.is c.if_equal-in-7810782643798504039.ensures refl refl

pub returns-in-8603393135716757352 : goal.returns-in-8603393135716757352
unfolding list_of keys_of packs onto seek every one_of middle tail_in
returns-in-8603393135716757352 c =
    let args = c.args in
    word-at middle (keys_of list.CssColors) args.v args.rest (omega arith) (is_middle args.rest c.requires (omega arith)) (pack
    (bytes "honeydew")) 57 _ c.in-8603393135716757352.is c.if_equal-in-8603393135716757352.ensures refl refl

pub returns-in-7310026509834808937 : goal.returns-in-7310026509834808937
unfolding list_of keys_of packs onto seek every one_of middle tail_in
returns-in-7310026509834808937 c =
    let args = c.args in
    word-at middle (keys_of list.CssColors) args.v args.rest (omega arith) (is_middle args.rest c.requires (omega arith)) (pack
    (bytes "indianred")) 59 _ c.in-7310026509834808937.is c.if_equal-in-7310026509834808937.ensures refl refl

pub returns-in-7306371759039013228 : goal.returns-in-7306371759039013228
unfolding list_of keys_of packs onto seek every one_of middle tail_in
returns-in-7306371759039013228 c =
    let args = c.args in
    word-at middle (keys_of list.CssColors) args.v args.rest (omega arith) (is_middle args.rest c.requires (omega arith)) (pack
    (bytes "lawngreen")) 65 _ c.in-7306371759039013228.is c.if_equal-in-7306371759039013228.ensures refl refl

pub returns-in-7595430097527334252 : goal.returns-in-7595430097527334252
unfolding list_of keys_of packs onto seek every one_of middle tail_in
returns-in-7595430097527334252 c =
    let args = c.args in
    word-at middle (keys_of list.CssColors) args.v args.rest (omega arith) (is_middle args.rest c.requires (omega arith)) (pack
    (bytes "lemonchiffon")) 66 _ c.in-7595430097527334252.is c.if_equal-in-7595430097527334252.ensures refl refl

pub returns-in-8461246052029655404 : goal.returns-in-8461246052029655404
unfolding list_of keys_of packs onto seek every one_of middle tail_in
returns-in-8461246052029655404 c =
    let args = c.args in
    word-at middle (keys_of list.CssColors) args.v args.rest (omega arith) (is_middle args.rest c.requires (omega arith)) (pack
    (bytes "lightblue")) 67 _ c.in-8461246052029655404.is c.if_equal-in-8461246052029655404.ensures refl refl

pub returns-in-8245918794357631340 : goal.returns-in-8245918794357631340
unfolding list_of keys_of packs onto seek every one_of middle tail_in
returns-in-8245918794357631340 c =
    let args = c.args in
    word-at middle (keys_of list.CssColors) args.v args.rest (omega arith) (is_middle args.rest c.requires (omega arith)) (pack
    (bytes "lightcoral")) 68 _ c.in-8245918794357631340.is c.if_equal-in-8245918794357631340.ensures refl refl

pub returns-in-7023754445479962988 : goal.returns-in-7023754445479962988
unfolding list_of keys_of packs onto seek every one_of middle tail_in
returns-in-7023754445479962988 c =
    let args = c.args in
    word-at middle (keys_of list.CssColors) args.v args.rest (omega arith) (is_middle args.rest c.requires (omega arith)) (pack
    (bytes "lightcyan")) 69 _ c.in-7023754445479962988.is c.if_equal-in-7023754445479962988.ensures refl refl

pub returns-in-7021788518689499500 : goal.returns-in-7021788518689499500
unfolding list_of keys_of packs onto seek every one_of middle tail_in
returns-in-7021788518689499500 c =
    let args = c.args in
    word-at middle (keys_of list.CssColors) args.v args.rest (omega arith) (is_middle args.rest c.requires (omega arith)) (pack
    (bytes "lightgray")) 71 _ c.in-7021788518689499500.is c.if_equal-in-7021788518689499500.ensures refl refl

pub returns-in-7956013861996816748 : goal.returns-in-7956013861996816748
unfolding list_of keys_of packs onto seek every one_of middle tail_in
returns-in-7956013861996816748 c =
    let args = c.args in
    word-at middle (keys_of list.CssColors) args.v args.rest (omega arith) (is_middle args.rest c.requires (omega arith)) (pack
    (bytes "lightpink")) 74 _ c.in-7956013861996816748.is c.if_equal-in-7956013861996816748.ensures refl refl

pub returns-in-7809650172642158956 : goal.returns-in-7809650172642158956
unfolding list_of keys_of packs onto seek every one_of middle tail_in
returns-in-7809650172642158956 c =
    let args = c.args in
    word-at middle (keys_of list.CssColors) args.v args.rest (omega arith) (is_middle args.rest c.requires (omega arith)) (pack
    (bytes "lightsalmon")) 75 _ c.in-7809650172642158956.is c.if_equal-in-7809650172642158956.ensures refl refl

pub returns-in-7018142538131794284 : goal.returns-in-7018142538131794284
unfolding list_of keys_of packs onto seek every one_of middle tail_in
returns-in-7018142538131794284 c =
    let args = c.args in
    word-at middle (keys_of list.CssColors) args.v args.rest (omega arith) (is_middle args.rest c.requires (omega arith)) (pack
    (bytes "lightseagreen")) 76 _ c.in-7018142538131794284.is c.if_equal-in-7018142538131794284.ensures refl refl

pub returns-in-8749213644902328684 : goal.returns-in-8749213644902328684
unfolding list_of keys_of packs onto seek every one_of middle tail_in
returns-in-8749213644902328684 c =
    let args = c.args in
    word-at middle (keys_of list.CssColors) args.v args.rest (omega arith) (is_middle args.rest c.requires (omega arith)) (pack
    (bytes "lightskyblue")) 77 _ c.in-8749213644902328684.is c.if_equal-in-8749213644902328684.ensures refl refl

pub returns-in-7310595038934165868 : goal.returns-in-7310595038934165868
unfolding list_of keys_of packs onto seek every one_of middle tail_in
returns-in-7310595038934165868 c =
    let args = c.args in
    word-at middle (keys_of list.CssColors) args.v args.rest (omega arith) (is_middle args.rest c.requires (omega arith)) (pack
    (bytes "lightsteelblue")) 80 _ c.in-7310595038934165868.is c.if_equal-in-7310595038934165868.ensures refl refl

pub returns-in-7810782669618768236 : goal.returns-in-7810782669618768236
unfolding list_of keys_of packs onto seek every one_of middle tail_in
returns-in-7810782669618768236 c =
    let args = c.args in
    word-at middle (keys_of list.CssColors) args.v args.rest (omega arith) (is_middle args.rest c.requires (omega arith)) (pack
    (bytes "lightyellow")) 81 _ c.in-7810782669618768236.is c.if_equal-in-7810782669618768236.ensures refl refl

pub returns-in-7306371758887364972 : goal.returns-in-7306371758887364972
unfolding list_of keys_of packs onto seek every one_of middle tail_in
returns-in-7306371758887364972 c =
    let args = c.args in
    word-at middle (keys_of list.CssColors) args.v args.rest (omega arith) (is_middle args.rest c.requires (omega arith)) (pack
    (bytes "limegreen")) 83 _ c.in-7306371758887364972.is c.if_equal-in-7306371758887364972.ensures refl refl

pub returns-in-7809925054860649837 : goal.returns-in-7809925054860649837
unfolding list_of keys_of packs onto seek every one_of middle tail_in
returns-in-7809925054860649837 c =
    let args = c.args in
    word-at middle (keys_of list.CssColors) args.v args.rest (omega arith) (is_middle args.rest c.requires (omega arith)) (pack
    (bytes "mediumblue")) 88 _ c.in-7809925054860649837.is c.if_equal-in-7809925054860649837.ensures refl refl

pub returns-in-8245929793785455981 : goal.returns-in-8245929793785455981
unfolding list_of keys_of packs onto seek every one_of middle tail_in
returns-in-8245929793785455981 c =
    let args = c.args in
    word-at middle (keys_of list.CssColors) args.v args.rest (omega arith) (is_middle args.rest c.requires (omega arith)) (pack
    (bytes "mediumorchid")) 89 _ c.in-8245929793785455981.is c.if_equal-in-8245929793785455981.ensures refl refl

pub returns-in-8462384050875950445 : goal.returns-in-8462384050875950445
unfolding list_of keys_of packs onto seek every one_of middle tail_in
returns-in-8462384050875950445 c =
    let args = c.args in
    word-at middle (keys_of list.CssColors) args.v args.rest (omega arith) (is_middle args.rest c.requires (omega arith)) (pack
    (bytes "mediumpurple")) 90 _ c.in-8462384050875950445.is c.if_equal-in-8462384050875950445.ensures refl refl

pub returns-in-7310306971199235437 : goal.returns-in-7310306971199235437
unfolding list_of keys_of packs onto seek every one_of middle tail_in
returns-in-7310306971199235437 c =
    let args = c.args in
    word-at middle (keys_of list.CssColors) args.v args.rest (omega arith) (is_middle args.rest c.requires (omega arith)) (pack
    (bytes "mediumseagreen")) 91 _ c.in-7310306971199235437.is c.if_equal-in-7310306971199235437.ensures refl refl

pub returns-in-7814710129464730989 : goal.returns-in-7814710129464730989
unfolding list_of keys_of packs onto seek every one_of middle tail_in
returns-in-7814710129464730989 c =
    let args = c.args in
    word-at middle (keys_of list.CssColors) args.v args.rest (omega arith) (is_middle args.rest c.requires (omega arith)) (pack
    (bytes "mediumslateblue")) 92 _ c.in-7814710129464730989.is c.if_equal-in-7814710129464730989.ensures refl refl

pub returns-in-8463509950782793069 : goal.returns-in-8463509950782793069
unfolding list_of keys_of packs onto seek every one_of middle tail_in
returns-in-8463509950782793069 c =
    let args = c.args in
    word-at middle (keys_of list.CssColors) args.v args.rest (omega arith) (is_middle args.rest c.requires (omega arith)) (pack
    (bytes "mediumturquoise")) 94 _ c.in-8463509950782793069.is c.if_equal-in-8463509950782793069.ensures refl refl

pub returns-in-7599381772281079149 : goal.returns-in-7599381772281079149
unfolding list_of keys_of packs onto seek every one_of middle tail_in
returns-in-7599381772281079149 c =
    let args = c.args in
    word-at middle (keys_of list.CssColors) args.v args.rest (omega arith) (is_middle args.rest c.requires (omega arith)) (pack
    (bytes "mediumvioletred")) 95 _ c.in-7599381772281079149.is c.if_equal-in-7599381772281079149.ensures refl refl

pub returns-in-8388068008498850157 : goal.returns-in-8388068008498850157
unfolding list_of keys_of packs onto seek every one_of middle tail_in
returns-in-8388068008498850157 c =
    let args = c.args in
    word-at middle (keys_of list.CssColors) args.v args.rest (omega arith) (is_middle args.rest c.requires (omega arith)) (pack
    (bytes "midnightblue")) 96 _ c.in-8388068008498850157.is c.if_equal-in-8388068008498850157.ensures refl refl

pub returns-in-7018141365807507821 : goal.returns-in-7018141365807507821
unfolding list_of keys_of packs onto seek every one_of middle tail_in
returns-in-7018141365807507821 c =
    let args = c.args in
    word-at middle (keys_of list.CssColors) args.v args.rest (omega arith) (is_middle args.rest c.requires (omega arith)) (pack
    (bytes "mintcream")) 97 _ c.in-7018141365807507821.is c.if_equal-in-7018141365807507821.ensures refl refl

pub returns-in-8317992902746925421 : goal.returns-in-8317992902746925421
unfolding list_of keys_of packs onto seek every one_of middle tail_in
returns-in-8317992902746925421 c =
    let args = c.args in
    word-at middle (keys_of list.CssColors) args.v args.rest (omega arith) (is_middle args.rest c.requires (omega arith)) (pack
    (bytes "mistyrose")) 98 _ c.in-8317992902746925421.is c.if_equal-in-8317992902746925421.ensures refl refl

pub returns-in-7956017078843174765 : goal.returns-in-7956017078843174765
unfolding list_of keys_of packs onto seek every one_of middle tail_in
returns-in-7956017078843174765 c =
    let args = c.args in
    word-at middle (keys_of list.CssColors) args.v args.rest (omega arith) (is_middle args.rest c.requires (omega arith)) (pack
    (bytes "moccasin")) 99 _ c.in-7956017078843174765.is c.if_equal-in-7956017078843174765.ensures refl refl

pub returns-in-7527607804865438062 : goal.returns-in-7527607804865438062
unfolding list_of keys_of packs onto seek every one_of middle tail_in
returns-in-7527607804865438062 c =
    let args = c.args in
    word-at middle (keys_of list.CssColors) args.v args.rest (omega arith) (is_middle args.rest c.requires (omega arith)) (pack
    (bytes "navajowhite")) 100 _ c.in-7527607804865438062.is c.if_equal-in-7527607804865438062.ensures refl refl

pub returns-in-7021785155965119599 : goal.returns-in-7021785155965119599
unfolding list_of keys_of packs onto seek every one_of middle tail_in
returns-in-7021785155965119599 c =
    let args = c.args in
    word-at middle (keys_of list.CssColors) args.v args.rest (omega arith) (is_middle args.rest c.requires (omega arith)) (pack
    (bytes "olivedrab")) 104 _ c.in-7021785155965119599.is c.if_equal-in-7021785155965119599.ensures refl refl

pub returns-in-7310016640083653231 : goal.returns-in-7310016640083653231
unfolding list_of keys_of packs onto seek every one_of middle tail_in
returns-in-7310016640083653231 c =
    let args = c.args in
    word-at middle (keys_of list.CssColors) args.v args.rest (omega arith) (is_middle args.rest c.requires (omega arith)) (pack
    (bytes "orangered")) 106 _ c.in-7310016640083653231.is c.if_equal-in-7310016640083653231.ensures refl refl

pub returns-in-7236281191151460720 : goal.returns-in-7236281191151460720
unfolding list_of keys_of packs onto seek every one_of middle tail_in
returns-in-7236281191151460720 c =
    let args = c.args in
    word-at middle (keys_of list.CssColors) args.v args.rest (omega arith) (is_middle args.rest c.requires (omega arith)) (pack
    (bytes "palegoldenrod")) 108 _ c.in-7236281191151460720.is c.if_equal-in-7236281191151460720.ensures refl refl

pub returns-in-7306371758887297392 : goal.returns-in-7306371758887297392
unfolding list_of keys_of packs onto seek every one_of middle tail_in
returns-in-7306371758887297392 c =
    let args = c.args in
    word-at middle (keys_of list.CssColors) args.v args.rest (omega arith) (is_middle args.rest c.requires (omega arith)) (pack
    (bytes "palegreen")) 109 _ c.in-7306371758887297392.is c.if_equal-in-7306371758887297392.ensures refl refl

pub returns-in-8174725416409129328 : goal.returns-in-8174725416409129328
unfolding list_of keys_of packs onto seek every one_of middle tail_in
returns-in-8174725416409129328 c =
    let args = c.args in
    word-at middle (keys_of list.CssColors) args.v args.rest (omega arith) (is_middle args.rest c.requires (omega arith)) (pack
    (bytes "paleturquoise")) 110 _ c.in-8174725416409129328.is c.if_equal-in-8174725416409129328.ensures refl refl

pub returns-in-7813579835739758960 : goal.returns-in-7813579835739758960
unfolding list_of keys_of packs onto seek every one_of middle tail_in
returns-in-7813579835739758960 c =
    let args = c.args in
    word-at middle (keys_of list.CssColors) args.v args.rest (omega arith) (is_middle args.rest c.requires (omega arith)) (pack
    (bytes "palevioletred")) 111 _ c.in-7813579835739758960.is c.if_equal-in-7813579835739758960.ensures refl refl

pub returns-in-7527592476126765424 : goal.returns-in-7527592476126765424
unfolding list_of keys_of packs onto seek every one_of middle tail_in
returns-in-7527592476126765424 c =
    let args = c.args in
    word-at middle (keys_of list.CssColors) args.v args.rest (omega arith) (is_middle args.rest c.requires (omega arith)) (pack
    (bytes "papayawhip")) 112 _ c.in-7527592476126765424.is c.if_equal-in-7527592476126765424.ensures refl refl

pub returns-in-7382930757790033264 : goal.returns-in-7382930757790033264
unfolding list_of keys_of packs onto seek every one_of middle tail_in
returns-in-7382930757790033264 c =
    let args = c.args in
    word-at middle (keys_of list.CssColors) args.v args.rest (omega arith) (is_middle args.rest c.requires (omega arith)) (pack
    (bytes "peachpuff")) 113 _ c.in-7382930757790033264.is c.if_equal-in-7382930757790033264.ensures refl refl

pub returns-in-7809930483616673648 : goal.returns-in-7809930483616673648
unfolding list_of keys_of packs onto seek every one_of middle tail_in
returns-in-7809930483616673648 c =
    let args = c.args in
    word-at middle (keys_of list.CssColors) args.v args.rest (omega arith) (is_middle args.rest c.requires (omega arith)) (pack
    (bytes "powderblue")) 117 _ c.in-7809930483616673648.is c.if_equal-in-7809930483616673648.ensures refl refl

pub returns-in-8097862883542721906 : goal.returns-in-8097862883542721906
unfolding list_of keys_of packs onto seek every one_of middle tail_in
returns-in-8097862883542721906 c =
    let args = c.args in
    word-at middle (keys_of list.CssColors) args.v args.rest (omega arith) (is_middle args.rest c.requires (omega arith)) (pack
    (bytes "rebeccapurple")) 119 _ c.in-8097862883542721906.is c.if_equal-in-8097862883542721906.ensures refl refl

pub returns-in-8606223180198276978 : goal.returns-in-8606223180198276978
unfolding list_of keys_of packs onto seek every one_of middle tail_in
returns-in-8606223180198276978 c =
    let args = c.args in
    word-at middle (keys_of list.CssColors) args.v args.rest (omega arith) (is_middle args.rest c.requires (omega arith)) (pack
    (bytes "rosybrown")) 121 _ c.in-8606223180198276978.is c.if_equal-in-8606223180198276978.ensures refl refl

pub returns-in-8461246017553657714 : goal.returns-in-8461246017553657714
unfolding list_of keys_of packs onto seek every one_of middle tail_in
returns-in-8461246017553657714 c =
    let args = c.args in
    word-at middle (keys_of list.CssColors) args.v args.rest (omega arith) (is_middle args.rest c.requires (omega arith)) (pack
    (bytes "royalblue")) 122 _ c.in-8461246017553657714.is c.if_equal-in-8461246017553657714.ensures refl refl

pub returns-in-8242261784256602483 : goal.returns-in-8242261784256602483
unfolding list_of keys_of packs onto seek every one_of middle tail_in
returns-in-8242261784256602483 c =
    let args = c.args in
    word-at middle (keys_of list.CssColors) args.v args.rest (omega arith) (is_middle args.rest c.requires (omega arith)) (pack
    (bytes "saddlebrown")) 123 _ c.in-8242261784256602483.is c.if_equal-in-8242261784256602483.ensures refl refl

pub returns-in-8030589359070536051 : goal.returns-in-8030589359070536051
unfolding list_of keys_of packs onto seek every one_of middle tail_in
returns-in-8030589359070536051 c =
    let args = c.args in
    word-at middle (keys_of list.CssColors) args.v args.rest (omega arith) (is_middle args.rest c.requires (omega arith)) (pack
    (bytes "sandybrown")) 125 _ c.in-8030589359070536051.is c.if_equal-in-8030589359070536051.ensures refl refl

pub returns-in-7954875858854962547 : goal.returns-in-7954875858854962547
unfolding list_of keys_of packs onto seek every one_of middle tail_in
returns-in-7954875858854962547 c =
    let args = c.args in
    word-at middle (keys_of list.CssColors) args.v args.rest (omega arith) (is_middle args.rest c.requires (omega arith)) (pack
    (bytes "seagreen")) 126 _ c.in-7954875858854962547.is c.if_equal-in-7954875858854962547.ensures refl refl

pub returns-in-7812730952867734899 : goal.returns-in-7812730952867734899
unfolding list_of keys_of packs onto seek every one_of middle tail_in
returns-in-7812730952867734899 c =
    let args = c.args in
    word-at middle (keys_of list.CssColors) args.v args.rest (omega arith) (is_middle args.rest c.requires (omega arith)) (pack
    (bytes "seashell")) 127 _ c.in-7812730952867734899.is c.if_equal-in-7812730952867734899.ensures refl refl

pub returns-in-8461245987806080115 : goal.returns-in-8461245987806080115
unfolding list_of keys_of packs onto seek every one_of middle tail_in
returns-in-8461245987806080115 c =
    let args = c.args in
    word-at middle (keys_of list.CssColors) args.v args.rest (omega arith) (is_middle args.rest c.requires (omega arith)) (pack
    (bytes "slateblue")) 131 _ c.in-8461245987806080115.is c.if_equal-in-8461245987806080115.ensures refl refl

pub returns-in-7021788454465924211 : goal.returns-in-7021788454465924211
unfolding list_of keys_of packs onto seek every one_of middle tail_in
returns-in-7021788454465924211 c =
    let args = c.args in
    word-at middle (keys_of list.CssColors) args.v args.rest (omega arith) (is_middle args.rest c.requires (omega arith)) (pack
    (bytes "slategray")) 132 _ c.in-7021788454465924211.is c.if_equal-in-7021788454465924211.ensures refl refl

pub returns-in-7310018830617635955 : goal.returns-in-7310018830617635955
unfolding list_of keys_of packs onto seek every one_of middle tail_in
returns-in-7310018830617635955 c =
    let args = c.args in
    word-at middle (keys_of list.CssColors) args.v args.rest (omega arith) (is_middle args.rest c.requires (omega arith)) (pack
    (bytes "slategrey")) 133 _ c.in-7310018830617635955.is c.if_equal-in-7310018830617635955.ensures refl refl

pub returns-in-8243671366838153331 : goal.returns-in-8243671366838153331
unfolding list_of keys_of packs onto seek every one_of middle tail_in
returns-in-8243671366838153331 c =
    let args = c.args in
    word-at middle (keys_of list.CssColors) args.v args.rest (omega arith) (is_middle args.rest c.requires (omega arith)) (pack
    (bytes "springgreen")) 135 _ c.in-8243671366838153331.is c.if_equal-in-8243671366838153331.ensures refl refl

pub returns-in-8461246017619457139 : goal.returns-in-8461246017619457139
unfolding list_of keys_of packs onto seek every one_of middle tail_in
returns-in-8461246017619457139 c =
    let args = c.args in
    word-at middle (keys_of list.CssColors) args.v args.rest (omega arith) (is_middle args.rest c.requires (omega arith)) (pack
    (bytes "steelblue")) 136 _ c.in-8461246017619457139.is c.if_equal-in-8461246017619457139.ensures refl refl

pub returns-in-8316300737121514868 : goal.returns-in-8316300737121514868
unfolding list_of keys_of packs onto seek every one_of middle tail_in
returns-in-8316300737121514868 c =
    let args = c.args in
    word-at middle (keys_of list.CssColors) args.v args.rest (omega arith) (is_middle args.rest c.requires (omega arith)) (pack
    (bytes "turquoise")) 141 _ c.in-8316300737121514868.is c.if_equal-in-8316300737121514868.ensures refl refl

pub returns-in-8029200590253418615 : goal.returns-in-8029200590253418615
unfolding list_of keys_of packs onto seek every one_of middle tail_in
returns-in-8029200590253418615 c =
    let args = c.args in
    word-at middle (keys_of list.CssColors) args.v args.rest (omega arith) (is_middle args.rest c.requires (omega arith)) (pack
    (bytes "whitesmoke")) 145 _ c.in-8029200590253418615.is c.if_equal-in-8029200590253418615.ensures refl refl

pub returns-in-8243688963369100665 : goal.returns-in-8243688963369100665
unfolding list_of keys_of packs onto seek every one_of middle tail_in
returns-in-8243688963369100665 c =
    let args = c.args in
    word-at middle (keys_of list.CssColors) args.v args.rest (omega arith) (is_middle args.rest c.requires (omega arith)) (pack
    (bytes "yellowgreen")) 147 _ c.in-8243688963369100665.is c.if_equal-in-8243688963369100665.ensures refl refl

pub returns-in_default : goal.returns-in_default
unfolding list_of keys_of packs onto seek every one_of middle head_in heads
returns-in_default c =
    let args = c.args in
    no_head middle (keys_of list.CssColors) args.v args.rest (omega arith) (is_middle args.rest c.requires (omega arith)) refl
    c.in_default.in_default-own.rest
