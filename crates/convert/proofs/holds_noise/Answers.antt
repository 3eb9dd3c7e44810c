-- `convert::holds_noise` meets its contract: the two bytes at the record's place.
use Rattle.convert.proofs.WalkLaws.{another_kind, its_wave}
use Rattle.convert.proofs.holds_noise.Goals as goal

pub returns-then-sheet-at-eq-WAVEFORM : goal.returns-then-sheet-at-eq-WAVEFORM
returns-then-sheet-at-eq-WAVEFORM c = its_wave c.args.sheet.now c.args.at c.if-sheet-at-eq-WAVEFORM.true

pub returns-else-sheet-at-eq-WAVEFORM : goal.returns-else-sheet-at-eq-WAVEFORM
returns-else-sheet-at-eq-WAVEFORM c = another_kind c.args.sheet.now c.args.at c.if-sheet-at-eq-WAVEFORM.false
