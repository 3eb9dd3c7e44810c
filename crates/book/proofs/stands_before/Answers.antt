-- `book::stands_before` meets its contract.
use mathlib.Core.Path.{ap}
use native.Mathlib.Omega.{arith}
use Rattle.text.specs.Words.{is_some}
use Rattle.book.proofs.TableLaws.{name_of}
use Rattle.book.proofs.stands_before.Goals as goal

pub returns-in-Some : goal.returns-in-Some
returns-in-Some c xs r y e =
    let args = c.args in
    let f = c.find_name.ensures xs r (omega (arith, (name_of xs args.k y e).0)) in
    ap is_some (rw (c.in-Some.is, c.name.ensures, (r.row args.k y e).name) at f)

pub returns-in-None : goal.returns-in-None
returns-in-None c xs r y e =
    let args = c.args in
    let f = c.find_name.ensures xs r (omega (arith, (name_of xs args.k y e).0)) in
    ap is_some (rw (c.in-None.is, c.name.ensures, (r.row args.k y e).name) at f)
