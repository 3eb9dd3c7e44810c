-- `read_keyframes::time_of` meets its contract.
use Rattle.read_keyframes.proofs.TimeLaws.{rounds_percent, rounds_seconds, stores_percent, stores_seconds}
use Rattle.read_keyframes.proofs.time_of.Goals as goal

pub returns-then-percent : goal.returns-then-percent
returns-then-percent c =
    let args = c.args in
    let e = c.if-percent.true in record {
      value = stores_percent args.percent args.negative _ e c.percent_of.ensures.value;
      rounded = rounds_percent args.percent args.negative _ e c.percent_of.ensures.rounded;
    }

pub returns : goal.returns
returns c =
    let args = c.args in
    let e = c.if-percent.false in record {
      value = stores_seconds args.percent args.negative _ e c.float_of.ensures.value;
      rounded = rounds_seconds args.percent args.negative _ e c.float_of.ensures.rounded;
    }
