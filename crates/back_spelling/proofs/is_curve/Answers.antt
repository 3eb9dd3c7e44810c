-- `back_spelling::is_curve` meets its contract: the table's words are the names, which is computed.
use Rattle.back_spelling.proofs.is_curve.Goals as goal

pub returns : goal.returns
returns c = c.is_among.ensures
