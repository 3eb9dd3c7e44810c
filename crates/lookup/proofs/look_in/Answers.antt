-- `lookup::look_in` meets its contract.
use native.Mathlib.Omega.{arith}
use Rattle.book.proofs.HeldLaws.{found_in, found_low}
use Rattle.lookup.proofs.LookupLaws.{looked_wrong, looked_none, looked-at}
use Rattle.lookup.proofs.look_in.Goals as goal

pub find_name-requires : goal.find_name-requires
find_name-requires c =
    let h = rw c.in-Is.is at c.read.ensures in
    omega (arith, h.rows.few, h.count)

pub offset_bounds-table-k : goal.offset_bounds-table-k
offset_bounds-table-k c =
    let args = c.args in
    let h = rw c.in-Is.is at c.read.ensures in
    let f = rw c.in-Some.is at (found_in h c.find_name.result args.name.now c.find_name.ensures) in
    omega (arith, found_low h args.name.now f, h.rows.few, h.count)

pub bounds-table-k : goal.bounds-table-k
bounds-table-k c =
    let args = c.args in
    let h = rw c.in-Is.is at c.read.ensures in
    let f = rw c.in-Some.is at (found_in h c.find_name.result args.name.now c.find_name.ensures) in
    omega (arith, found_low h args.name.now f, h.rows.few, h.count)

pub returns-in-Refused : goal.returns-in-Refused
returns-in-Refused c =
    let args = c.args in
    looked_wrong args.text.now args.name.now (rw c.in-Refused.is at c.read.ensures)

pub returns-in-None : goal.returns-in-None
returns-in-None c =
    let args = c.args in
    let h = rw c.in-Is.is at c.read.ensures in
    looked_none h args.name.now
    (rw c.in-None.is at (found_in h c.find_name.result args.name.now c.find_name.ensures))

pub returns-in-Some : goal.returns-in-Some
returns-in-Some c =
    let args = c.args in
    let h = rw c.in-Is.is at c.read.ensures in
    looked-at h
    args.name.now
    (rw c.in-Some.is at (found_in h c.find_name.result args.name.now c.find_name.ensures))
    c.from.ensures
    c.from-in-Some.ensures
