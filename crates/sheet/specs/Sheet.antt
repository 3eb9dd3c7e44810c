-- 01, "The sheet": each type of ast.rs as a form of bytes. n is the text's length.
-- 02 (k) takes the numbers of frames out of a sheet, so a frame's time and scalar value have w bytes each (`..Of w`): 4 in a sheet, 0 where
-- they are taken out.
use Rattle.std.specs.Prelude.{ℕ, zero, suc, ◌+◌, Bool, cond, List, [], ◌∷◌, leb, ltb, eqb, length}
use Rattle.std.proofs.Math.Option.{Option, none, some}
use Rattle.codec.specs.Codec.{Form, empty, never, such, below, ◌▹◌, via, big, Case, case, FieldsAt, enum, opt, sized, many}
use Rattle.ast.specs.Tree.{
  Span,
  ValueExpr,
  scalar,
  array,
  EasingSpec,
  named,
  cubic_bezier,
  steps,
  wiggle,
  rough,
  slow_mo,
  LoopSpec,
  once,
  times,
  forever,
  ping_pong,
  ping_pong_times,
  DampingMode,
  critically_damped,
  overdamped,
  underdamped,
  KeyframeTime,
  percent,
  seconds,
  StaggerPatternSpec,
  grid,
  random,
  center_out,
  edges_in,
  KeyframeEntry,
  KeyframeSpec,
  TweenSpec,
  SpringSpec,
  PathSpec,
  MorphSpec,
  DrawSpec,
  ColorSpec,
  WaveformSpec,
  PresetCall,
  AtSpec,
  tween,
  spring,
  keyframes,
  path,
  morph,
  draw,
  color,
  waveform,
  preset,
  label,
  at,
  sequence,
  parallel,
  group,
  stagger,
  Nodes,
  leaf,
  box,
  MotionNode,
  single,
  holding,
  push,
  width,
}

-- "Numbers are big-endian: f32 bits and u32 in 4 bytes"
abbrev pub word : Form ℕ
word = big 4

-- "truth values 0 or 1 in 1"
abbrev pub flag : Form Bool
flag = via (below 2) (λ b. eqb b 1) (λ b. cond b 1 0)

-- "A name or string (quotes left off): start and length in the text, 2 bytes each", "every start plus length at most the text's length"
abbrev pub in_text : ℕ → Span → Bool
in_text n s = leb (s.start + s.size) n

abbrev pub to_span : ℕ × ℕ → Span
to_span (start, size) = record { start = start; size = size }

abbrev pub of_span : Span → ℕ × ℕ
of_span s = (s.start, s.size)

abbrev pub span_form : ℕ → Form Span
span_form n = such (in_text n) (via (big 2 ▹ big 2) to_span of_span)

-- ---- "An enum: a byte, its case's position, then its fields"

-- "An array ..: count, then elements"
abbrev pub values_of : ℕ → List (Case ValueExpr)
values_of w = case (big w) scalar ∷ case (many word) array ∷ []

abbrev pub split_value_of : (w : ℕ) → ValueExpr → (i : ℕ) × FieldsAt (values_of w) i
split_value_of w (scalar x) = (0, x)
split_value_of w (array xs) = (1, xs)

abbrev pub value_form_of : ℕ → Form ValueExpr
value_form_of w = enum (values_of w) (split_value_of w)

abbrev pub values : List (Case ValueExpr)
values = values_of 4

abbrev pub split_value : ValueExpr → (i : ℕ) × FieldsAt values i
split_value = split_value_of 4

abbrev pub value_form : Form ValueExpr
value_form = value_form_of 4

-- "`Named` also has, before its start, 1 if written `Easing::`, else 0"
abbrev pub easings : ℕ → List (Case EasingSpec)
easings n =
    case (flag ▹ span_form n) (λ p. named p.0 p.1)
    ∷ case (word ▹ word ▹ word ▹ word) (λ p. cubic_bezier p.0 p.1.0 p.1.1.0 p.1.1.1)
    ∷ case word steps
    ∷ case word wiggle
    ∷ case (word ▹ word) (λ p. rough p.0 p.1)
    ∷ case (word ▹ word) (λ p. slow_mo p.0 p.1)
    ∷ []

abbrev pub split_easing : (n : ℕ) → EasingSpec → (i : ℕ) × FieldsAt (easings n) i
split_easing n (named variant s) = (0, (variant, s))
split_easing n (cubic_bezier x1 y1 x2 y2) = (1, (x1, (y1, (x2, y2))))
split_easing n (steps k) = (2, k)
split_easing n (wiggle k) = (3, k)
split_easing n (rough strength points) = (4, (strength, points))
split_easing n (slow_mo ratio power) = (5, (ratio, power))

abbrev pub easing_form : ℕ → Form EasingSpec
easing_form n = enum (easings n) (split_easing n)

abbrev pub loops : List (Case LoopSpec)
loops = case empty (λ u. once) ∷ case word times ∷ case empty (λ u. forever) ∷ case empty (λ u. ping_pong) ∷ case word ping_pong_times ∷ []

abbrev pub split_loop : LoopSpec → (i : ℕ) × FieldsAt loops i
split_loop once = (0, tt)
split_loop (times k) = (1, k)
split_loop forever = (2, tt)
split_loop ping_pong = (3, tt)
split_loop (ping_pong_times k) = (4, k)

abbrev pub loop_form : Form LoopSpec
loop_form = enum loops split_loop

abbrev pub dampings : List (Case DampingMode)
dampings =
    case word critically_damped
    ∷ case (word ▹ word) (λ p. overdamped p.0 p.1)
    ∷ case (word ▹ word) (λ p. underdamped p.0 p.1)
    ∷ []

abbrev pub split_damping : DampingMode → (i : ℕ) × FieldsAt dampings i
split_damping (critically_damped s) = (0, s)
split_damping (overdamped s r) = (1, (s, r))
split_damping (underdamped s r) = (2, (s, r))

abbrev pub damping_form : Form DampingMode
damping_form = enum dampings split_damping

abbrev pub times_of : ℕ → List (Case KeyframeTime)
times_of w = case (big w) percent ∷ case (big w) seconds ∷ []

abbrev pub split_time_of : (w : ℕ) → KeyframeTime → (i : ℕ) × FieldsAt (times_of w) i
split_time_of w (percent x) = (0, x)
split_time_of w (seconds x) = (1, x)

abbrev pub time_form_of : ℕ → Form KeyframeTime
time_form_of w = enum (times_of w) (split_time_of w)

abbrev pub time_cases : List (Case KeyframeTime)
time_cases = times_of 4

abbrev pub split_time : KeyframeTime → (i : ℕ) × FieldsAt time_cases i
split_time = split_time_of 4

abbrev pub time_form : Form KeyframeTime
time_form = time_form_of 4

abbrev pub patterns : List (Case StaggerPatternSpec)
patterns =
    case (word ▹ word ▹ below 9) (λ p. grid p.0 p.1.0 p.1.1)
    ∷ case (word ▹ word ▹ word) (λ p. random p.0 p.1.0 p.1.1)
    ∷ case empty (λ u. center_out)
    ∷ case empty (λ u. edges_in)
    ∷ []

abbrev pub split_pattern : StaggerPatternSpec → (i : ℕ) × FieldsAt patterns i
split_pattern (grid cols rows origin) = (0, (cols, (rows, origin)))
split_pattern (random seed min max) = (1, (seed, (min, max)))
split_pattern center_out = (2, tt)
split_pattern edges_in = (3, tt)

abbrev pub pattern_form : Form StaggerPatternSpec
pattern_form = enum patterns split_pattern

-- ---- "the fields in ast.rs order": each struct as its fields, and back

abbrev pub to_entry : KeyframeTime × (ValueExpr × Option EasingSpec) → KeyframeEntry KeyframeTime
to_entry (time, (value, easing)) = record { time = time; value = value; easing = easing }

abbrev pub of_entry : KeyframeEntry KeyframeTime → KeyframeTime × (ValueExpr × Option EasingSpec)
of_entry x = (x.time, (x.value, x.easing))

abbrev pub entry_form_of : ℕ → ℕ → Form (KeyframeEntry KeyframeTime)
entry_form_of w n = via (time_form_of w ▹ value_form_of w ▹ opt (easing_form n)) to_entry of_entry

abbrev pub entry_form : ℕ → Form (KeyframeEntry KeyframeTime)
entry_form = entry_form_of 4

abbrev pub TweenFields : Type 0
TweenFields =
    Span
    × (ValueExpr × (ValueExpr × (ℕ × (Option EasingSpec × (Option ℕ × (Option ℕ × (Option LoopSpec × (Option ℕ × (Option ℕ × Bool)))))))))

abbrev pub to_tween : TweenFields → TweenSpec
to_tween (target, (from, (to, (duration, (easing, (delay, (time_scale, (loop_mode, (snap, (round, reverse)))))))))) = record {
  target = target;
  from = from;
  to = to;
  duration = duration;
  easing = easing;
  delay = delay;
  time_scale = time_scale;
  loop_mode = loop_mode;
  snap = snap;
  round = round;
  reverse = reverse;
}

abbrev pub of_tween : TweenSpec → TweenFields
of_tween x = (
  x.target,
  (x.from, (x.to, (x.duration, (x.easing, (x.delay, (x.time_scale, (x.loop_mode, (x.snap, (x.round, x.reverse))))))))),
)

abbrev pub tween_form : ℕ → Form TweenSpec
tween_form n =
    via (
    span_form n ▹ value_form ▹ value_form ▹ word ▹ opt (easing_form n) ▹ opt word ▹ opt word ▹ opt loop_form ▹ opt word ▹ opt word ▹ flag)
    to_tween of_tween

abbrev pub SpringFields : Type 0
SpringFields =
    Span
    × (ValueExpr
    × (ValueExpr × (Option ℕ × (Option ℕ × (Option ℕ × (Option ℕ × (Option ValueExpr × (Option ℕ × (Option ℕ × Option DampingMode)))))))))

abbrev pub to_spring : SpringFields → SpringSpec
to_spring (target, (from, (to, (spring_preset, (stiffness, (damping, (mass, (velocity, (epsilon, (integrator, damping_mode)))))))))) = record {
  target = target;
  from = from;
  to = to;
  preset = spring_preset;
  stiffness = stiffness;
  damping = damping;
  mass = mass;
  velocity = velocity;
  epsilon = epsilon;
  integrator = integrator;
  damping_mode = damping_mode;
}

abbrev pub of_spring : SpringSpec → SpringFields
of_spring x = (
  x.target,
  (x.from, (x.to, (x.preset, (x.stiffness, (x.damping, (x.mass, (x.velocity, (x.epsilon, (x.integrator, x.damping_mode))))))))),
)

abbrev pub spring_form : ℕ → Form SpringSpec
spring_form n =
    via (
    span_form n ▹ value_form ▹ value_form ▹ opt (below 5) ▹ opt word ▹ opt word ▹ opt word ▹ opt value_form ▹ opt word ▹ opt (below 2)
    ▹ opt damping_form)
    to_spring of_spring

abbrev pub to_keyframes : Span × (List (KeyframeEntry KeyframeTime) × Option LoopSpec) → KeyframeSpec KeyframeTime
to_keyframes (target, (frames, loop_mode)) = record { target = target; frames = frames; loop_mode = loop_mode }

abbrev pub of_keyframes : KeyframeSpec KeyframeTime → Span × (List (KeyframeEntry KeyframeTime) × Option LoopSpec)
of_keyframes x = (x.target, (x.frames, x.loop_mode))

abbrev pub keyframes_form_of : ℕ → ℕ → Form (KeyframeSpec KeyframeTime)
keyframes_form_of w n = via (span_form n ▹ many (entry_form_of w n) ▹ opt loop_form) to_keyframes of_keyframes

abbrev pub keyframes_form : ℕ → Form (KeyframeSpec KeyframeTime)
keyframes_form = keyframes_form_of 4

abbrev pub PathFields : Type 0
PathFields = Span × (Span × (ℕ × (Option EasingSpec × (Option Bool × (Option (ℕ × ℕ) × Option LoopSpec)))))

abbrev pub to_path : PathFields → PathSpec
to_path (target, (svg, (duration, (easing, (auto_rotate, (offset, loop_mode)))))) = record {
  target = target;
  svg = svg;
  duration = duration;
  easing = easing;
  auto_rotate = auto_rotate;
  offset = offset;
  loop_mode = loop_mode;
}

abbrev pub of_path : PathSpec → PathFields
of_path x = (x.target, (x.svg, (x.duration, (x.easing, (x.auto_rotate, (x.offset, x.loop_mode))))))

abbrev pub path_form : ℕ → Form PathSpec
path_form n = via (span_form n ▹ span_form n ▹ word ▹ opt (easing_form n) ▹ opt flag ▹ opt (word ▹ word) ▹ opt loop_form) to_path of_path

abbrev pub to_morph : Span × (Span × (ℕ × (ℕ × Option EasingSpec))) → MorphSpec
to_morph (from, (to, (samples, (duration, easing)))) = record {
  from = from;
  to = to;
  samples = samples;
  duration = duration;
  easing = easing;
}

abbrev pub of_morph : MorphSpec → Span × (Span × (ℕ × (ℕ × Option EasingSpec)))
of_morph x = (x.from, (x.to, (x.samples, (x.duration, x.easing))))

abbrev pub morph_form : ℕ → Form MorphSpec
morph_form n = via (span_form n ▹ span_form n ▹ word ▹ word ▹ opt (easing_form n)) to_morph of_morph

abbrev pub to_draw : Span × (ℕ × Option EasingSpec) → DrawSpec
to_draw (svg, (duration, easing)) = record { svg = svg; duration = duration; easing = easing }

abbrev pub of_draw : DrawSpec → Span × (ℕ × Option EasingSpec)
of_draw x = (x.svg, (x.duration, x.easing))

abbrev pub draw_form : ℕ → Form DrawSpec
draw_form n = via (span_form n ▹ word ▹ opt (easing_form n)) to_draw of_draw

abbrev pub ColorFields : Type 0
ColorFields = Span × (Span × (Span × (ℕ × (ℕ × Option EasingSpec))))

abbrev pub to_color : ColorFields → ColorSpec
to_color (target, (from, (to, (duration, (space, easing))))) = record {
  target = target;
  from = from;
  to = to;
  duration = duration;
  space = space;
  easing = easing;
}

abbrev pub of_color : ColorSpec → ColorFields
of_color x = (x.target, (x.from, (x.to, (x.duration, (x.space, x.easing)))))

abbrev pub color_form : ℕ → Form ColorSpec
color_form n = via (span_form n ▹ span_form n ▹ span_form n ▹ word ▹ below 3 ▹ opt (easing_form n)) to_color of_color

abbrev pub WaveformFields : Type 0
WaveformFields = ℕ × (Option ℕ × (Option ℕ × (Option ℕ × (Option ℕ × (Option ℕ × (Option ℕ × Option ℕ))))))

abbrev pub to_waveform : WaveformFields → WaveformSpec
to_waveform (kind, (frequency, (amplitude, (phase, (duty_cycle, (seed, (smoothness, duration))))))) = record {
  kind = kind;
  frequency = frequency;
  amplitude = amplitude;
  phase = phase;
  duty_cycle = duty_cycle;
  seed = seed;
  smoothness = smoothness;
  duration = duration;
}

abbrev pub of_waveform : WaveformSpec → WaveformFields
of_waveform x = (x.kind, (x.frequency, (x.amplitude, (x.phase, (x.duty_cycle, (x.seed, (x.smoothness, x.duration)))))))

abbrev pub waveform_form : Form WaveformSpec
waveform_form = via (below 5 ▹ opt word ▹ opt word ▹ opt word ▹ opt word ▹ opt word ▹ opt word ▹ opt word) to_waveform of_waveform

abbrev pub to_preset : Span × (Option ℕ × Option EasingSpec) → PresetCall
to_preset (name, (duration, easing)) = record { name = name; duration = duration; easing = easing }

abbrev pub of_preset : PresetCall → Span × (Option ℕ × Option EasingSpec)
of_preset x = (x.name, (x.duration, x.easing))

abbrev pub preset_form : ℕ → Form PresetCall
preset_form n = via (span_form n ▹ opt word ▹ opt (easing_form n)) to_preset of_preset

abbrev pub to_at : ℕ × Bool → AtSpec
to_at (value, relative) = record { value = value; relative = relative }

abbrev pub of_at : AtSpec → ℕ × Bool
of_at x = (x.value, x.relative)

abbrev pub at_form : Form AtSpec
at_form = via (word ▹ flag) to_at of_at

-- ---- nodes

abbrev pub Node : Type 0
Node = MotionNode KeyframeTime

abbrev pub Forest : Type 0
Forest = Nodes KeyframeTime

-- 02 (a): "Every node record gets, right after its kind, two bytes: the start of the node's keyword", "a sheet whose new field lies at or
-- past the text's end is no sheet"
abbrev pub start_form : ℕ → Form ℕ
start_form n = such (λ p. ltb p n) (big 2)

-- a case of a node: its start, then its fields
abbrev pub node_case : {A : Type 0} → ℕ → Form A → (ℕ → A → Node) → Case Node
node_case n fields make = case (start_form n ▹ fields) (λ x. make x.0 x.1)

-- "A record is the kind (position in `MotionNode`, tween 0 to at 14), then the fields"; `inner` is the form of the nodes in a container
abbrev pub kinds_of : ℕ → ℕ → Form Forest → List (Case Node)
kinds_of w n inner =
    node_case n (tween_form n) (λ p x. single p (tween x))
    ∷ node_case n (spring_form n) (λ p x. single p (spring x))
    ∷ node_case n (keyframes_form_of w n) (λ p x. single p (keyframes x))
    ∷ node_case n inner (λ p ns. holding p sequence ns)
    ∷ node_case n inner (λ p ns. holding p parallel ns)
    ∷ node_case n (below 2 ▹ inner) (λ p x. holding p (group x.0) x.1)
    ∷ node_case n (opt pattern_form ▹ opt word ▹ inner) (λ p x. holding p (stagger x.0 x.1.0) x.1.1)
    ∷ node_case n (path_form n) (λ p x. single p (path x))
    ∷ node_case n (morph_form n) (λ p x. single p (morph x))
    ∷ node_case n (draw_form n) (λ p x. single p (draw x))
    ∷ node_case n (color_form n) (λ p x. single p (color x))
    ∷ node_case n waveform_form (λ p x. single p (waveform x))
    ∷ node_case n (preset_form n) (λ p x. single p (preset x))
    ∷ node_case n (span_form n) (λ p s. single p (label s))
    ∷ node_case n at_form (λ p x. single p (at x))
    ∷ []

abbrev pub split_node_of : (w n : ℕ) (inner : Form Forest) → Node → (i : ℕ) × FieldsAt (kinds_of w n inner) i
split_node_of w n inner (single p (tween x)) = (0, (p, x))
split_node_of w n inner (single p (spring x)) = (1, (p, x))
split_node_of w n inner (single p (keyframes x)) = (2, (p, x))
split_node_of w n inner (holding p sequence ns) = (3, (p, ns))
split_node_of w n inner (holding p parallel ns) = (4, (p, ns))
split_node_of w n inner (holding p (group mode) ns) = (5, (p, (mode, ns)))
split_node_of w n inner (holding p (stagger pattern delay) ns) = (6, (p, (pattern, (delay, ns))))
split_node_of w n inner (single p (path x)) = (7, (p, x))
split_node_of w n inner (single p (morph x)) = (8, (p, x))
split_node_of w n inner (single p (draw x)) = (9, (p, x))
split_node_of w n inner (single p (color x)) = (10, (p, x))
split_node_of w n inner (single p (waveform x)) = (11, (p, x))
split_node_of w n inner (single p (preset x)) = (12, (p, x))
split_node_of w n inner (single p (label s)) = (13, (p, s))
split_node_of w n inner (single p (at x)) = (14, (p, x))

abbrev pub node_form_of : ℕ → ℕ → Form Forest → Form Node
node_form_of w n inner = enum (kinds_of w n inner) (split_node_of w n inner)

abbrev pub kinds : ℕ → Form Forest → List (Case Node)
kinds = kinds_of 4

abbrev pub split_node : (n : ℕ) (inner : Form Forest) → Node → (i : ℕ) × FieldsAt (kinds n inner) i
split_node = split_node_of 4

abbrev pub node_form : ℕ → Form Forest → Form Node
node_form = node_form_of 4

abbrev pub to_forest : Node × Forest → Forest
to_forest (x, rest) = push x rest

-- the first node and the others; a forest of no nodes has no first, and is not asked for one
abbrev pub of_forest : Forest → Node × Forest
of_forest Nodes.none = (holding 0 sequence Nodes.none, Nodes.none)
of_forest (leaf p l rest) = (single p l, rest)
of_forest (box p b ns rest) = (holding p b ns, rest)

-- so many nodes
abbrev pub forest_of : ℕ → ℕ → Form Forest → ℕ → Form Forest
forest_of w n inner zero = via empty (λ u. Nodes.none) (λ ns. tt)
forest_of w n inner (suc c) = via (node_form_of w n inner ▹ forest_of w n inner c) to_forest of_forest

abbrev pub forest : ℕ → Form Forest → ℕ → Form Forest
forest = forest_of 4

-- "nodes inside a container appear as their count, and their records follow"; d containers more may nest
abbrev pub inner_of : ℕ → ℕ → ℕ → Form Forest
inner_of w n zero = never
inner_of w n (suc d) = sized width (forest_of w n (inner_of w n d))

abbrev pub inner : ℕ → ℕ → Form Forest
inner = inner_of 4

-- "Head record: count of top nodes. Then one record a node, preorder", "at most 16 containers nested"
abbrev pub sheet_of : ℕ → ℕ → Form Forest
sheet_of w n = inner_of w n 17

abbrev pub sheet : ℕ → Form Forest
sheet = sheet_of 4

-- ---- encoding and decoding

-- the sheet of a tree, for a text of n bytes
unfoldable pub encode : ℕ → Forest → List ℕ
encode n ns = (sheet n).write ns

-- all the bytes are read
abbrev pub whole : {A : Type 0} → Option (A × List ℕ) → Option A
whole none = none
whole (some r) = cond (eqb (length r.1) 0) (some r.0) none

-- "Bytes are a sheet for a text if they are at most 65,535 and the encoding of some tree": that tree
unfoldable pub decode : ℕ → List ℕ → Option Forest
decode n bs = cond (ltb 65535 (length bs)) none (whole ((sheet n).read bs))
