-- How the code holds a tree's values: floats for bit patterns, counts for arrays and frames.
use Rattle.std.specs.Prelude.{ℕ, Bool, true, false, Float, length, Some, None, Option as Optional}
use Rattle.std.proofs.Math.Option.{Option, none, some}
use Rattle.number.specs.Number.{f32}
use Rattle.ast.specs.Tree as tree
use Rattle.ast.specs.declared.Span as spans
use Rattle.ast.specs.declared.ValueExpr as values
use Rattle.ast.specs.declared.ValueExpr.TheVariants as value
use Rattle.ast.specs.declared.EasingSpec as easings
use Rattle.ast.specs.declared.EasingSpec.TheVariants as easing
use Rattle.ast.specs.declared.LoopSpec as loops
use Rattle.ast.specs.declared.LoopSpec.TheVariants as loop
use Rattle.ast.specs.declared.DampingMode as dampings
use Rattle.ast.specs.declared.DampingMode.TheVariants as damping
use Rattle.ast.specs.declared.StaggerPatternSpec as patterns
use Rattle.ast.specs.declared.StaggerPatternSpec.TheVariants as pattern
use Rattle.ast.specs.declared.TweenSpec as tweens
use Rattle.ast.specs.declared.SpringSpec as springs
use Rattle.ast.specs.declared.KeyframeEntry as entries
use Rattle.ast.specs.declared.KeyframeSpec as tracks
use Rattle.ast.specs.declared.StaggerSpec as staggers
use Rattle.ast.specs.declared.GroupSpec as groups
use Rattle.ast.specs.declared.PathSpec as paths
use Rattle.ast.specs.declared.MorphSpec as morphs
use Rattle.ast.specs.declared.DrawSpec as draws
use Rattle.ast.specs.declared.ColorSpec as colors
use Rattle.ast.specs.declared.WaveformSpec as waveforms
use Rattle.ast.specs.declared.PresetCall as presets
use Rattle.ast.specs.declared.AtSpec as ats

abbrev pub span_view : tree.Span → spans.Span
span_view s = record { start = s.start; size = s.size }

abbrev pub value_view : tree.ValueExpr → values.ValueExpr
value_view (tree.scalar x) = value.Scalar (f32 x)
value_view (tree.array xs) = value.Array (length xs)

-- component_count
abbrev pub count_of : values.ValueExpr → ℕ
count_of (value.Scalar x) = 1
count_of (value.Array n) = n

abbrev pub is_array : values.ValueExpr → Bool
is_array (value.Scalar x) = false
is_array (value.Array n) = true

-- the f32 of a scalar; 0.0 for an array
abbrev pub scalar_of : values.ValueExpr → Float
scalar_of (value.Scalar x) = x
scalar_of (value.Array n) = f32 0

abbrev pub easing_view : tree.EasingSpec → easings.EasingSpec
easing_view (tree.named v s) = easing.Named v (span_view s)
easing_view (tree.cubic_bezier a b c d) = easing.CubicBezier (f32 a) (f32 b) (f32 c) (f32 d)
easing_view (tree.steps n) = easing.Steps n
easing_view (tree.wiggle n) = easing.Wiggle n
easing_view (tree.rough s n) = easing.Rough (f32 s) n
easing_view (tree.slow_mo r p) = easing.SlowMo (f32 r) (f32 p)

abbrev pub loop_view : tree.LoopSpec → loops.LoopSpec
loop_view tree.once = loop.Once
loop_view (tree.times n) = loop.Times n
loop_view tree.forever = loop.Forever
loop_view tree.ping_pong = loop.PingPong
loop_view (tree.ping_pong_times n) = loop.PingPongTimes n

abbrev pub damping_view : tree.DampingMode → dampings.DampingMode
damping_view (tree.critically_damped s) = damping.CriticallyDamped (f32 s)
damping_view (tree.overdamped s r) = damping.Overdamped (f32 s) (f32 r)
damping_view (tree.underdamped s r) = damping.Underdamped (f32 s) (f32 r)

-- whether it is a percent, and the time
abbrev pub time_view : tree.KeyframeTime → Bool × Float
time_view (tree.percent x) = (true, f32 x)
time_view (tree.seconds x) = (false, f32 x)

abbrev pub pattern_view : tree.StaggerPatternSpec → patterns.StaggerPatternSpec
pattern_view (tree.grid c r o) = pattern.Grid c r o
pattern_view (tree.random s a b) = pattern.Random s (f32 a) (f32 b)
pattern_view tree.center_out = pattern.CenterOut
pattern_view tree.edges_in = pattern.EdgesIn

-- ---- what is absent or present

abbrev pub opt_float_view : Option ℕ → Optional Float
opt_float_view none = None
opt_float_view (some x) = Some (f32 x)

abbrev pub opt_word_view : Option ℕ → Optional ℕ
opt_word_view none = None
opt_word_view (some n) = Some n

abbrev pub opt_bool_view : Option Bool → Optional Bool
opt_bool_view none = None
opt_bool_view (some b) = Some b

abbrev pub opt_case_view : Option ℕ → Optional ℕ
opt_case_view none = None
opt_case_view (some i) = Some i

abbrev pub opt_range_view : Option (ℕ × ℕ) → Optional (Float × Float)
opt_range_view none = None
opt_range_view (some p) = Some (f32 p.0, f32 p.1)

abbrev pub opt_value_view : Option tree.ValueExpr → Optional values.ValueExpr
opt_value_view none = None
opt_value_view (some v) = Some (value_view v)

abbrev pub opt_easing_view : Option tree.EasingSpec → Optional easings.EasingSpec
opt_easing_view none = None
opt_easing_view (some e) = Some (easing_view e)

abbrev pub opt_loop_view : Option tree.LoopSpec → Optional loops.LoopSpec
opt_loop_view none = None
opt_loop_view (some m) = Some (loop_view m)

abbrev pub opt_damping_view : Option tree.DampingMode → Optional dampings.DampingMode
opt_damping_view none = None
opt_damping_view (some d) = Some (damping_view d)

abbrev pub opt_pattern_view : Option tree.StaggerPatternSpec → Optional patterns.StaggerPatternSpec
opt_pattern_view none = None
opt_pattern_view (some p) = Some (pattern_view p)

-- ---- the nodes

abbrev pub tween_view : tree.TweenSpec → tweens.TweenSpec
tween_view x = record {
  target = span_view x.target;
  from = value_view x.from;
  to = value_view x.to;
  duration = f32 x.duration;
  easing = opt_easing_view x.easing;
  delay = opt_float_view x.delay;
  time_scale = opt_float_view x.time_scale;
  loop_mode = opt_loop_view x.loop_mode;
  snap = opt_float_view x.snap;
  round = opt_word_view x.round;
  reverse = x.reverse;
}

abbrev pub spring_view : tree.SpringSpec → springs.SpringSpec
spring_view x = record {
  target = span_view x.target;
  from = value_view x.from;
  to = value_view x.to;
  preset = opt_case_view x.preset;
  stiffness = opt_float_view x.stiffness;
  damping = opt_float_view x.damping;
  mass = opt_float_view x.mass;
  velocity = opt_value_view x.velocity;
  epsilon = opt_float_view x.epsilon;
  integrator = opt_case_view x.integrator;
  damping_mode = opt_damping_view x.damping_mode;
}

-- an entry of a time, percent or not, a value and an easing
abbrev pub entry_of : Bool → Float → values.ValueExpr → Optional easings.EasingSpec → entries.KeyframeEntry
entry_of percent time v easing = record {
  percent = percent;
  time = time;
  array = is_array v;
  value = scalar_of v;
  count = count_of v;
  easing = easing;
}

abbrev pub entry_view : tree.KeyframeEntry tree.KeyframeTime → entries.KeyframeEntry
entry_view x = entry_of (time_view x.time).0 (time_view x.time).1 (value_view x.value) (opt_easing_view x.easing)

abbrev pub keyframes_view : tree.KeyframeSpec tree.KeyframeTime → tracks.KeyframeSpec
keyframes_view x = record { target = span_view x.target; frames = length x.frames; loop_mode = opt_loop_view x.loop_mode }

abbrev pub path_view : tree.PathSpec → paths.PathSpec
path_view x = record {
  target = span_view x.target;
  svg = span_view x.svg;
  duration = f32 x.duration;
  easing = opt_easing_view x.easing;
  auto_rotate = opt_bool_view x.auto_rotate;
  offset = opt_range_view x.offset;
  loop_mode = opt_loop_view x.loop_mode;
}

abbrev pub morph_view : tree.MorphSpec → morphs.MorphSpec
morph_view x = record {
  from = span_view x.from;
  to = span_view x.to;
  samples = x.samples;
  duration = f32 x.duration;
  easing = opt_easing_view x.easing;
}

abbrev pub draw_view : tree.DrawSpec → draws.DrawSpec
draw_view x = record { svg = span_view x.svg; duration = f32 x.duration; easing = opt_easing_view x.easing }

abbrev pub color_view : tree.ColorSpec → colors.ColorSpec
color_view x = record {
  target = span_view x.target;
  from = span_view x.from;
  to = span_view x.to;
  duration = f32 x.duration;
  space = x.space;
  easing = opt_easing_view x.easing;
}

abbrev pub waveform_view : tree.WaveformSpec → waveforms.WaveformSpec
waveform_view x = record {
  kind = x.kind;
  frequency = opt_float_view x.frequency;
  amplitude = opt_float_view x.amplitude;
  phase = opt_float_view x.phase;
  duty_cycle = opt_float_view x.duty_cycle;
  seed = opt_word_view x.seed;
  smoothness = opt_float_view x.smoothness;
  duration = opt_float_view x.duration;
}

abbrev pub preset_view : tree.PresetCall → presets.PresetCall
preset_view x = record { name = span_view x.name; duration = opt_float_view x.duration; easing = opt_easing_view x.easing }

abbrev pub at_view : tree.AtSpec → ats.AtSpec
at_view x = record { value = f32 x.value; relative = x.relative }

-- a container, and how many nodes it holds
abbrev pub group_view : ℕ → ℕ → groups.GroupSpec
group_view mode nodes = record { mode = mode; nodes = nodes }

abbrev pub stagger_view : Option tree.StaggerPatternSpec → Option ℕ → ℕ → staggers.StaggerSpec
stagger_view p d nodes = record { pattern = opt_pattern_view p; delay = opt_float_view d; nodes = nodes }
