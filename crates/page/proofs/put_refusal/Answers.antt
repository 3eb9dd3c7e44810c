-- `page::put_refusal` meets its contract.
use Rattle.text.proofs.WriteLaws.{puts_then}
use Rattle.script.specs.Output.{refusal}
use Rattle.page.proofs.put_refusal.Goals as goal

pub returns : goal.returns
unfolding refusal
returns c =
    puts_then
    (puts_then (puts_then (puts_then c.put_word-number.ensures (rw c.number_of.ensures at c.put_decimal-word.ensures))
    c.put_word-from.ensures)
    c.put_decimal-end.ensures)
    c.put.ensures
