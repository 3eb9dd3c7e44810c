-- `sheet_encode::put_opt_word` meets its contract.
use Rattle.sheet_encode.proofs.put_opt_word.Goals as goal

pub returns-in-Some : goal.returns-in-Some
returns-in-Some c = rw c.in-Some.is c.put_case_word.ensures
