-- `back_easings::patterns::put_origin` meets its contract.
use mathlib.Core.Bool.{false}
use mathlib.Core.Path.{refl}
use native.Mathlib.Omega.{arith}
use borrow.Author.Tests.{eq-eqb, ne_eqb}
use Rattle.text.specs.Words.{entries}
use Rattle.digits.specs.Numeral.{all}
use Rattle.pieces.specs.Pieces.{word_like}
use Rattle.fresh.specs.Fresh.{choose}
use Rattle.grammar.specs.Grammar.{origin_names}
use Rattle.back_copying.specs.WordMeans.{all_words}
use Rattle.back_easings.proofs.PairLaws.{omitted, not_omitted}
use Rattle.back_easings.proofs.patterns.put_origin.Goals as goal

pub returns-else-origin-ne4 : goal.returns-else-origin-ne4
returns-else-origin-ne4 c = omitted false ("origin", choose origin_names c.args.origin) (eq-eqb _ _ c.if-origin-ne4.false)

pub put_choice-requires : goal.put_choice-requires
unfolding all_words entries word_like all
put_choice-requires c = (refl, omega (arith, c.requires))

pub returns-then-origin-ne4 : goal.returns-then-origin-ne4
unfolding entries
returns-then-origin-ne4 c =
    not_omitted false "origin" (choose origin_names c.args.origin) (ne_eqb _ _ c.if-origin-ne4.true) refl
    c.put_pair_name.ensures (c.put_choice.ensures origin_names refl)
