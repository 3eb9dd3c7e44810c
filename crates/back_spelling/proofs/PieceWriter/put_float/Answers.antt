-- `back_spelling::PieceWriter::put_float` meets its contract.
use Rattle.back_spelling.proofs.NumberLaws.{found_float, float_spellable}
use Rattle.back_spelling.specs.Means.{page_of, Spellable}
use mathlib.Core.Path.{sym, subst}
use Rattle.back_spelling.proofs.PieceWriter.put_float.Goals as goal

pub put_decimal-requires : goal.put_decimal-requires
put_decimal-requires c = (subst Spellable (sym c.fewest.ensures.result_value) (float_spellable _), c.fewest.ensures.neat)

pub returns : goal.returns
returns c =
    let args = c.args in
    found_float args.bits (page_of args.self.now) _ c.fewest.ensures.result_value c.put_decimal.ensures
