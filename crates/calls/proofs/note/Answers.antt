-- `calls::note` meets its contract.
use mathlib.Core.Path.{ap}
use native.Mathlib.Omega.{arith}
use Rattle.calls.specs.Means.{mark}
use Rattle.book.proofs.HeldLaws.{found_in, found_for, found_low}
use Rattle.calls.proofs.note.Goals as goal

pub find_name-requires : goal.find_name-requires
find_name-requires c =
    let pre = c.requires in
    omega (arith, pre.0.rows.few, pre.0.count)

pub overflow_add-calls : goal.overflow_add-calls
overflow_add-calls c =
    let pre = c.requires in
    let f = rw c.in-Some.is
    at (found_in pre.0 c.find_name.result c.part.result.now c.find_name.ensures)
    in
    omega (arith, found_low pre.0 c.part.result.now f, pre.1, pre.2)

pub bounds-calls-i : goal.bounds-calls-i
bounds-calls-i c =
    let pre = c.requires in
    let f = rw c.in-Some.is
    at (found_in pre.0 c.find_name.result c.part.result.now c.find_name.ensures)
    in
    omega (arith, found_low pre.0 c.part.result.now f, pre.1, pre.2, pre.3)

pub returns-in-Some : goal.returns-in-Some
returns-in-Some c xs e =
    let f = rw (c.in-Some.is, c.part.ensures)
    at (found_for c.requires.0 c.find_name.result c.part.result.now c.find_name.ensures xs e)
    in
    ap (mark c.args.calls.now c.args.i) f

pub returns-in-None : goal.returns-in-None
returns-in-None c xs e =
    let f = rw (c.in-None.is, c.part.ensures)
    at (found_for c.requires.0 c.find_name.result c.part.result.now c.find_name.ensures xs e)
    in
    ap (mark c.args.calls.now c.args.i) f
