-- `read_waveform::parse_waveform` meets its contract.
use mathlib.Core.Path.{refl}
use Rattle.error.specs.declared.Refusal.TheVariants.{Malformed}
use Rattle.text.specs.Bytes.{same}
use Rattle.text.specs.Words.{find}
use Rattle.token.specs.Names.{is_keyword}
use Rattle.words.specs.ListMeans.{list_of}
use Rattle.read_cursor.specs.Means.{no_keywords}
use Rattle.read_values.proofs.NameLaws.{choice-below}
use Rattle.read_waveform.proofs.WaveformLaws.{no_waveform, noise_refused, waveform_node}
use native.Mathlib.Omega.{arith}
use Rattle.read_waveform.proofs.parse_waveform.Goals as goal

pub choice-requires : goal.choice-requires
unfolding list_of no_keywords is_keyword find same
choice-requires c = (c.requires.0, refl)

pub returns-then-i-eq-NOISE : goal.returns-then-i-eq-NOISE
unfolding list_of
returns-then-i-eq-NOISE c = rw c.place.ensures (noise_refused (rw c.in-Is.is at c.choice.ensures) c.if-i-eq-NOISE.true)

pub overflow_cast-i : goal.overflow_cast-i
unfolding list_of
overflow_cast-i c =
    let args = c.args in
    let b = choice-below args.text.now args.c _ Malformed _ _ (rw c.in-Is.is at c.choice.ensures) in
    omega arith

pub returns-in-Refused : goal.returns-in-Refused
unfolding list_of
returns-in-Refused c = no_waveform (rw c.in-Refused.is at c.choice.ensures)

pub returns-else-i-eq-NOISE : goal.returns-else-i-eq-NOISE
unfolding list_of
returns-else-i-eq-NOISE c = waveform_node (rw c.in-Is.is at c.choice.ensures) c.if-i-eq-NOISE.false c.waveform_end.ensures
