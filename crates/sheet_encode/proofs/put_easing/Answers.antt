-- `sheet_encode::put_easing` meets its contract.
use Rattle.sheet_encode.proofs.OverLaws.{writes_then}
use Rattle.sheet_encode.proofs.put_easing.Goals as goal

pub returns-in-Named : goal.returns-in-Named
returns-in-Named c = λ n. rw c.in-Named.is (c.put_named.ensures n)

pub returns-in-CubicBezier : goal.returns-in-CubicBezier
returns-in-CubicBezier c = λ n. rw c.in-CubicBezier.is (c.put_bezier.ensures n)

pub returns-in-Steps : goal.returns-in-Steps
returns-in-Steps c = λ n. rw c.in-Steps.is c.put_case_word.ensures

pub returns-in-Wiggle : goal.returns-in-Wiggle
returns-in-Wiggle c = λ n. rw c.in-Wiggle.is c.put_case_word-in-Wiggle.ensures

pub returns-in-Rough : goal.returns-in-Rough
returns-in-Rough c = λ n. rw c.in-Rough.is (writes_then c.put_case_float-points_at.ensures c.put_word.ensures)

pub returns-in-SlowMo : goal.returns-in-SlowMo
returns-in-SlowMo c = λ n. rw c.in-SlowMo.is c.put_case_floats.ensures
