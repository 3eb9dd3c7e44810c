use native.Mathlib.Omega.{arith}
use Rattle.token.proofs.BlankLaws.{spaces_behind}
use Rattle.token.proofs.LexLaws.{run_fits}
use Rattle.text.specs.Bytes.{is_blank}
use Rattle.token.proofs.blanks_end.Goals as goal

pub overflow_cast-result : goal.overflow_cast-result
overflow_cast-result c = omega (arith, c.run_end.ensures, run_fits is_blank c.args.t.now c.loop-i.i c.loop-i.invariant.0, c.requires.1)

pub loop-i-preserved : goal.loop-i-preserved
loop-i-preserved c = (
  omega arith,
  omega (
    arith,
    c.loop-i.invariant.1,
    spaces_behind c.args.t.now c.loop-i.i (c.has_8_spaces.ensures c.if-not-has_8_spaces.false),
  ),
)

pub overflow_cast-result-2 : goal.overflow_cast-result-2
overflow_cast-result-2 c = omega (arith, c.run_end-2.ensures, run_fits is_blank c.args.t.now c.loop-i.i c.loop-i.invariant.0, c.requires.1)
