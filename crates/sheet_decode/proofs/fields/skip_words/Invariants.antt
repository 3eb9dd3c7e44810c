use Rattle.sheet.specs.Sheet.{word}
use Rattle.sheet_decode.proofs.ReadLaws as laws
use Rattle.sheet_decode.proofs.fields.skip_words.Given as goal

abbrev pub invariant-loop : goal.invariant-loop
invariant-loop l = laws.Walk word l.s l.at l.n l.next l.counter
