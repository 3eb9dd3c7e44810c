-- `lookup::find` meets its contract.
use mathlib.Core.Path.{refl}
use Rattle.error.specs.Answer.{lookup_values}
use Rattle.error.proofs.AnswerLaws.{and_values}
use Rattle.books.specs.Book.{book}
use Rattle.book_answers.proofs.AnswerLaws.{answers}
use Rattle.lookup.proofs.LookupLaws.{looked_up}
use Rattle.lookup.proofs.find.Goals as goal

pub returns-in-Refused : goal.returns-in-Refused
returns-in-Refused c =
    let args = c.args in
    let w = args.name.now in
    let e = rw c.in-Refused.is at c.look_in.ensures in
    let the_parts = and_values lookup_values
    (looked_up args.store.now args.chain.now w (answers w (book args.store.now) (book args.chain.now) e refl)) in record {
      value = the_parts.0;
      values = the_parts.1;
    }

pub returns-in-At : goal.returns-in-At
returns-in-At c =
    let args = c.args in
    let w = args.name.now in
    let e = rw c.in-At.is at c.look_in.ensures in
    let f = c.join.ensures w (book args.store.now) (book args.chain.now) e c.look_in-in-At.ensures in
    let the_parts = and_values lookup_values (looked_up args.store.now args.chain.now w f) in record {
      value = the_parts.0;
      values = the_parts.1;
    }

pub returns-in-Nothing : goal.returns-in-Nothing
returns-in-Nothing c =
    let args = c.args in
    let w = args.name.now in
    let e = rw c.in-Nothing.is at c.look_in.ensures in
    let f = c.join-in-Nothing.ensures w (book args.store.now) (book args.chain.now) e c.look_in-in-Nothing.ensures in
    let the_parts = and_values lookup_values (looked_up args.store.now args.chain.now w f) in record {
      value = the_parts.0;
      values = the_parts.1;
    }
