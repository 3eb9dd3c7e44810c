-- `back_copying::fields::copy_space` meets its contract.
use borrow.Author.Tests.{eq-eqb, ne_eqb}
use Rattle.text.specs.Words.{entries}
use Rattle.grammar.specs.Grammar.{space_names}
use Rattle.back_copying.specs.WordMeans.{all_words}
use mathlib.Core.Path.{refl}
use native.Mathlib.Omega.{arith}
use Rattle.digits.specs.Numeral.{all}
use Rattle.pieces.specs.Pieces.{word_like}
use Rattle.fresh.specs.Fresh.{choose, field, unless_is}
use Rattle.back_copying.proofs.CopyLaws.{no_piece, ◌and◌, called, read-put}
use Rattle.back_copying.proofs.fields.copy_space.Goals as goal

pub returns-then-x-eq0 : goal.returns-then-x-eq0
unfolding field unless_is
returns-then-x-eq0 c =
    read-put (λ k. field "space" (choose space_names) (unless_is 0 k)) c.take_byte-x.ensures.reads
    (called no_piece (λ ps. rw (eq-eqb _ 0 c.if-x-eq0.true) refl))

pub put_choice-requires : goal.put_choice-requires
unfolding all_words entries word_like all
put_choice-requires c = (refl, omega (arith, c.take_byte-x.ensures.small))

pub returns : goal.returns
unfolding field unless_is entries
returns c =
    read-put (λ k. field "space" (choose space_names) (unless_is 0 k)) c.take_byte-x.ensures.reads
    (called (c.put_field.ensures and c.put_choice.ensures space_names refl)
    (λ ps. rw (ne_eqb _ 0 c.if-x-eq0.false) refl))
