-- `plane::moves::Source::move_record` meets its contract: a track, or a record that is the same in both forms.
use Rattle.plane.proofs.RecordMoveLaws.{inside_record, is_track, passed_record}
use Rattle.plane.proofs.moves.Source.move_record.Goals as goal

pub bounds-self-at : goal.bounds-self-at
bounds-self-at c = inside_record c.requires

pub move_track-requires : goal.move_track-requires
move_track-requires c = (is_track c.requires c.if-self-at-eq2.true).before

pub returns-then-self-at-eq2 : goal.returns-then-self-at-eq2
returns-then-self-at-eq2 c = λ d. let t = is_track d c.if-self-at-eq2.true in t.same_pair (c.move_track.ensures t.before)

pub returns : goal.returns
returns c = λ d. passed_record d c.if-self-at-eq2.false c.take_record-record.ensures
