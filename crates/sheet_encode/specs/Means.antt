-- The tree's value of what the code holds, each float as its bits; and that no float in it is a NaN.
use Rattle.std.specs.Prelude.{ℕ, Bool, true, false, not, T, Float, Some, None, Option as Optional}
use Rattle.std.proofs.Math.Option.{Option, none, some}
use Rattle.std.specs.Float.Ieee.{is_nan}
use Rattle.number.specs.Number.{bits}
use Rattle.ast.specs.Tree as tree
use Rattle.ast.specs.declared.Span as spans
use Rattle.ast.specs.declared.EasingSpec as easings
use Rattle.ast.specs.declared.EasingSpec.TheVariants as easing
use Rattle.ast.specs.declared.LoopSpec as loops
use Rattle.ast.specs.declared.LoopSpec.TheVariants as loop
use Rattle.ast.specs.declared.DampingMode as dampings
use Rattle.ast.specs.declared.DampingMode.TheVariants as damping
use Rattle.ast.specs.declared.KeyframeEntry as entries
use Rattle.ast.specs.declared.StaggerPatternSpec as patterns
use Rattle.ast.specs.declared.StaggerPatternSpec.TheVariants as pattern

abbrev pub span_of : spans.Span → tree.Span
span_of s = record { start = s.start; size = s.size }

abbrev pub easing_of : easings.EasingSpec → tree.EasingSpec
easing_of (easing.Named v s) = tree.named v (span_of s)
easing_of (easing.CubicBezier a b c d) = tree.cubic_bezier (bits a) (bits b) (bits c) (bits d)
easing_of (easing.Steps n) = tree.steps n
easing_of (easing.Wiggle n) = tree.wiggle n
easing_of (easing.Rough s n) = tree.rough (bits s) n
easing_of (easing.SlowMo r p) = tree.slow_mo (bits r) (bits p)

abbrev pub loop_of : loops.LoopSpec → tree.LoopSpec
loop_of loop.Once = tree.once
loop_of (loop.Times n) = tree.times n
loop_of loop.Forever = tree.forever
loop_of loop.PingPong = tree.ping_pong
loop_of (loop.PingPongTimes n) = tree.ping_pong_times n

abbrev pub damping_of : dampings.DampingMode → tree.DampingMode
damping_of (damping.CriticallyDamped s) = tree.critically_damped (bits s)
damping_of (damping.Overdamped s r) = tree.overdamped (bits s) (bits r)
damping_of (damping.Underdamped s r) = tree.underdamped (bits s) (bits r)

-- of whether it is a percent, and the time
abbrev pub key_time_of : Bool → Float → tree.KeyframeTime
key_time_of true x = tree.percent (bits x)
key_time_of false x = tree.seconds (bits x)

abbrev pub pattern_of : patterns.StaggerPatternSpec → tree.StaggerPatternSpec
pattern_of (pattern.Grid c r o) = tree.grid c r o
pattern_of (pattern.Random s a b) = tree.random s (bits a) (bits b)
pattern_of pattern.CenterOut = tree.center_out
pattern_of pattern.EdgesIn = tree.edges_in

-- ---- what is absent or present

abbrev pub opt_float_of : Optional Float → Option ℕ
opt_float_of None = none
opt_float_of (Some x) = some (bits x)

abbrev pub opt_word_of : Optional ℕ → Option ℕ
opt_word_of None = none
opt_word_of (Some n) = some n

abbrev pub opt_bool_of : Optional Bool → Option Bool
opt_bool_of None = none
opt_bool_of (Some b) = some b

abbrev pub opt_case_of : Optional ℕ → Option ℕ
opt_case_of None = none
opt_case_of (Some i) = some i

abbrev pub opt_range_of : Optional (Float × Float) → Option (ℕ × ℕ)
opt_range_of None = none
opt_range_of (Some (a, b)) = some (bits a, bits b)

abbrev pub opt_easing_of : Optional easings.EasingSpec → Option tree.EasingSpec
opt_easing_of None = none
opt_easing_of (Some e) = some (easing_of e)

abbrev pub opt_loop_of : Optional loops.LoopSpec → Option tree.LoopSpec
opt_loop_of None = none
opt_loop_of (Some m) = some (loop_of m)

abbrev pub opt_damping_of : Optional dampings.DampingMode → Option tree.DampingMode
opt_damping_of None = none
opt_damping_of (Some d) = some (damping_of d)

abbrev pub opt_pattern_of : Optional patterns.StaggerPatternSpec → Option tree.StaggerPatternSpec
opt_pattern_of None = none
opt_pattern_of (Some p) = some (pattern_of p)

-- ---- no NaN

abbrev pub Plain : Float → Type 0
Plain x = T (not (is_nan x))

abbrev pub PlainEasing : easings.EasingSpec → Type 0
PlainEasing (easing.Named v s) = Unit {0}
PlainEasing (easing.CubicBezier a b c d) = Plain a × Plain b × Plain c × Plain d
PlainEasing (easing.Steps n) = Unit {0}
PlainEasing (easing.Wiggle n) = Unit {0}
PlainEasing (easing.Rough s n) = Plain s
PlainEasing (easing.SlowMo r p) = Plain r × Plain p

abbrev pub PlainDamping : dampings.DampingMode → Type 0
PlainDamping (damping.CriticallyDamped s) = Plain s
PlainDamping (damping.Overdamped s r) = Plain s × Plain r
PlainDamping (damping.Underdamped s r) = Plain s × Plain r

abbrev pub PlainPattern : patterns.StaggerPatternSpec → Type 0
PlainPattern (pattern.Grid c r o) = Unit {0}
PlainPattern (pattern.Random s a b) = Plain a × Plain b
PlainPattern pattern.CenterOut = Unit {0}
PlainPattern pattern.EdgesIn = Unit {0}

abbrev pub PlainOptFloat : Optional Float → Type 0
PlainOptFloat None = Unit {0}
PlainOptFloat (Some x) = Plain x

abbrev pub PlainOptRange : Optional (Float × Float) → Type 0
PlainOptRange None = Unit {0}
PlainOptRange (Some (a, b)) = Plain a × Plain b

abbrev pub PlainOptEasing : Optional easings.EasingSpec → Type 0
PlainOptEasing None = Unit {0}
PlainOptEasing (Some e) = PlainEasing e

abbrev pub PlainOptDamping : Optional dampings.DampingMode → Type 0
PlainOptDamping None = Unit {0}
PlainOptDamping (Some d) = PlainDamping d

abbrev pub PlainOptPattern : Optional patterns.StaggerPatternSpec → Type 0
PlainOptPattern None = Unit {0}
PlainOptPattern (Some p) = PlainPattern p

abbrev pub PlainEntry : entries.KeyframeEntry → Type 0
PlainEntry e = Plain e.time × Plain e.value × PlainOptEasing e.easing
