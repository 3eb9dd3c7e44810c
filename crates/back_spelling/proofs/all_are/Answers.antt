-- `back_spelling::all_are` meets its contract.
use Rattle.back_spelling.proofs.PageLaws.{all_is}
use Rattle.back_spelling.proofs.all_are.Goals as goal

pub returns : goal.returns
returns c = all_is _ c.args.part.now _ c.run_end.ensures
