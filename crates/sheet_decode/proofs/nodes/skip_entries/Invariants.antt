use Rattle.sheet.specs.Sheet.{entry_form}
use Rattle.sheet_decode.proofs.ReadLaws as laws
use Rattle.sheet_decode.proofs.nodes.skip_entries.Given as goal

abbrev pub invariant-loop : goal.invariant-loop
invariant-loop l = laws.Walk (entry_form l.n) l.s l.at l.count l.next l.counter
