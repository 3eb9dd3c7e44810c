-- `calls::note_record` meets its contract.
use Rattle.books.specs.Book.{names}
use Rattle.calls.proofs.BodyLaws.{no_call, a_call}
use Rattle.calls.proofs.note_record.Goals as goal

pub returns-then-kind-ne-PRESET_KIND : goal.returns-then-kind-ne-PRESET_KIND
returns-then-kind-ne-PRESET_KIND c xs e x h =
    let args = c.args in
    no_call args.text.now args.calls.now args.i (names xs) x h c.if-kind-ne-PRESET_KIND.true

pub returns : goal.returns
returns c xs e x h =
    let args = c.args in
    a_call
    args.text.now
    args.calls.now
    args.i
    (names xs)
    x h
    c.if-kind-ne-PRESET_KIND.false
    c.take_span-name.ensures
    (c.note.ensures xs e)
