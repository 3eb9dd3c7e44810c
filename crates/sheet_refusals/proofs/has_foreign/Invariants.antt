use Rattle.sheet_refusals.proofs.OpenLaws as laws
use Rattle.sheet_refusals.proofs.has_foreign.Given as goal

abbrev pub invariant-loop-b : goal.invariant-loop-b
invariant-loop-b l = laws.Asked l.text l.b-index l.any
