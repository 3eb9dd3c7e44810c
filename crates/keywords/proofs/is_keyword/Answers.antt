-- `keywords::is_keyword` meets its contract: a word of at most 7 bytes is found by its number, one of 8 byte by byte.
use mathlib.Core.Path.{refl, ◌∙◌}
use native.Mathlib.Omega.{arith}
use borrow.Author.Tests.{lt-ltb}
use lib.ListN.{length}
use Rattle.law_lengths.specs.Means.{sized}
use Rattle.keywords.specs.Means.{up_to4, up_to7}
use Rattle.token.proofs.WholeLaws.{every}
use Rattle.keywords.proofs.NameLaws.{all_bytes, keyword_packed, keyword_eight, keyword_long}
use Rattle.keywords.proofs.is_keyword.Goals as goal

pub returns-in-0-to-4 : goal.returns-in-0-to-4
unfolding all_bytes every sized
returns-in-0-to-4 c =
    let w = c.args.word.now in
    c.is_keyword_upto_4.ensures
    ∙ keyword_packed up_to4 w (lt-ltb (length w) 5 (omega arith)) refl (λ j l. omega (arith, c.type_inv.word j)) _
    c.packed.ensures

pub returns-in-5-to-7 : goal.returns-in-5-to-7
unfolding all_bytes every sized
returns-in-5-to-7 c =
    let w = c.args.word.now in
    c.is_keyword_upto_7.ensures
    ∙ keyword_packed up_to7 w (rw (lt-ltb 4 (length w) (omega arith), lt-ltb (length w) 8 (omega arith))) refl
    (λ j l. omega (arith, c.type_inv.word j)) _ c.packed-in-5-to-7.ensures

pub returns-in-8 : goal.returns-in-8
returns-in-8 c = c.is_keyword_of_8.ensures ∙ keyword_eight _ c.in-8.is

pub returns-in_default : goal.returns-in_default
returns-in_default c = keyword_long c.args.word.now (omega arith)
