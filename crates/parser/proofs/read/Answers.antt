-- `parser::read` meets its contract.
use Prim.Native.Nat.{ℕ}
use mathlib.Core.List.{List}
use Rattle.error.specs.declared.ReadAnswer.{ReadAnswer}
use Rattle.error.specs.Answer.{read_values}
use Rattle.error.proofs.AnswerLaws.{and_values}
use Rattle.parser.proofs.ReadLaws.{read-refused, read_tree, split_accepted, split_refused}
use Rattle.parser.proofs.ReadLaws.{split-zero, too_few, too_long}
use mathlib.Core.Path.{sym}
use Rattle.parser.proofs.read.Goals as goal

abbrev values : ReadAnswer × List ℕ × List ℕ → List ℕ
values x = read_values x.0

pub returns-then-text-gt-TEXT_LIMIT : goal.returns-then-text-gt-TEXT_LIMIT
returns-then-text-gt-TEXT_LIMIT c =
    let the_parts = and_values values (sym (too_long c.args.text.now c.args.scratch.now c.args.sheet.now c.if-text-gt-TEXT_LIMIT.true)) in record {
      sheet_after = the_parts.0;
      values = the_parts.1;
    }

pub returns-then-scratch-lt-SCRATCH_WORDS : goal.returns-then-scratch-lt-SCRATCH_WORDS
returns-then-scratch-lt-SCRATCH_WORDS c =
    let the_parts = and_values values
    (sym (too_few c.args.text.now c.args.scratch.now c.args.sheet.now c.if-text-gt-TEXT_LIMIT.false c.if-scratch-lt-SCRATCH_WORDS.true)) in record {
      sheet_after = the_parts.0;
      values = the_parts.1;
    }

pub returns-in-Refused : goal.returns-in-Refused
returns-in-Refused c =
    let args = c.args in
    let z = split-zero args.text.now args.scratch.now c.judge.new.scratch c.judge.result c.if-scratch-lt-SCRATCH_WORDS.false c.judge.ensures in
    let e = split_refused args.text.now args.scratch.now c.judge.new.scratch c.judge.result c.if-scratch-lt-SCRATCH_WORDS.false c.judge.ensures _
    _ c.in-Refused.is
    in
    let the_parts = and_values values
    (read-refused
    args.text.now
    args.scratch.now
    args.sheet.now
    c.if-text-gt-TEXT_LIMIT.false
    c.if-scratch-lt-SCRATCH_WORDS.false
    c.judge.new.scratch
    c.settle.new.sheet
    c.parse_input-input.new.sheet
    c.settle.result
    _ _ z e
    c.parse_input-input.auto.sheet
    c.settle.ensures) in record {
      sheet_after = the_parts.0;
      values = the_parts.1;
    }

pub returns-in-Accepted : goal.returns-in-Accepted
returns-in-Accepted c =
    let args = c.args in
    let z = split-zero args.text.now args.scratch.now c.judge.new.scratch c.judge.result c.if-scratch-lt-SCRATCH_WORDS.false c.judge.ensures in
    let e = split_accepted args.text.now args.scratch.now c.judge.new.scratch c.judge.result c.if-scratch-lt-SCRATCH_WORDS.false c.judge.ensures
    c.in-Accepted.is
    in
    let the_parts = and_values values
    (read_tree
    args.text.now
    args.scratch.now
    args.sheet.now
    c.if-text-gt-TEXT_LIMIT.false
    c.if-scratch-lt-SCRATCH_WORDS.false
    c.judge.new.scratch
    c.settle-in-Accepted.new.sheet
    c.parse_input-input.new.sheet
    c.settle-in-Accepted.result
    c.parse_input-input.result.answer
    z e
    c.parse_input-input.auto.sheet
    c.parse_input-input.ensures.tree
    c.settle-in-Accepted.ensures) in record {
      sheet_after = the_parts.0;
      values = the_parts.1;
    }
