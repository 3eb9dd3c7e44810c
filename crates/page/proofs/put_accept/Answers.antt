-- `page::put_accept` meets its contract.
use Rattle.text.proofs.WriteLaws.{puts_then}
use Rattle.script.specs.Output.{accept}
use Rattle.page.proofs.put_accept.Goals as goal

pub returns : goal.returns
unfolding accept
returns c = puts_then (puts_then c.put_word-number.ensures c.put_decimal-end.ensures) c.put.ensures
