-- `back_spelling::PieceWriter::put_decimal` meets its contract.
use Rattle.std.specs.Prelude.{Some}
use Rattle.digits.specs.AnswerMeans.{number_of, Neat}
use Rattle.back_spelling.proofs.NumberLaws.{not_found, found-put, found_below}
use Rattle.back_spelling.specs.Means.{page_of, Spellable}
use Rattle.back_spelling.proofs.PieceWriter.put_decimal.Goals.{In-Some}
use Rattle.back_spelling.proofs.PieceWriter.put_decimal.Goals as goal

-- what is asked of the number that is there
known : (w : In-Some) → Spellable (number_of (Some w.in-Some.d)) × Neat w.in-Some.d
known w = (rw w.in-Some.is at w.requires.0, rw w.in-Some.is at w.requires.1)

pub put_front-requires : goal.put_front-requires
put_front-requires c =
    let k = known (goal.at.put_front-requires c).In-Some in
    (k.1, found_below c.in-Some.d k.0)

pub returns-in-None : goal.returns-in-None
unfolding page_of
returns-in-None c = rw c.in-None.is (not_found c.args.self.now)

pub returns-in-Some : goal.returns-in-Some
returns-in-Some c =
    let k = known (goal.at.returns-in-Some c).In-Some in
    rw c.in-Some.is
    (found-put c.in-Some.d k.0 k.1 (page_of c.args.self.now) c.put_front.ensures c.put_fraction.ensures c.put_byte.ensures)
