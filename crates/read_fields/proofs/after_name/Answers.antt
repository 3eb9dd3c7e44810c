use Rattle.text.specs.Bytes.{at}
use Rattle.words.proofs.KeyLaws.{place_some, place_none}
use Rattle.read_fields.proofs.FieldLaws.{row_found, row_none}
use Rattle.read_fields.proofs.after_name.Goals as goal

pub returns-in-None : goal.returns-in-None
returns-in-None c t w e =
    let m = rw c.in-Is.is at c.mark.ensures in
    rw (m.is, row_none t w (place_none e c.in-None.is), m.ready.head.place, c.place.ensures)

pub returns-in-Some : goal.returns-in-Some
returns-in-Some c t w e =
    let m = rw c.in-Is.is at c.mark.ensures in
    let f = row_found t _ w (place_some _ e c.in-Some.is) in
    record { row = f.row; is = f.is; took = record { is = rw (m.is, f.under); low = m.low; ready = m.ready } }
