-- parser.rs: a rule for each function that parses a node, under its name. A rule stands behind what it uses, else in parser.rs's order
-- (docs/PORT-OTHER.md).
use Rattle.std.specs.Prelude.{ℕ, zero, suc, Bool, true, false, ◌&&◌, ◌||◌, not, cond, List, [], ◌∷◌, ◌++◌, eqb}
use Prim.Native.String.{String}
use Rattle.std.proofs.Math.Option.{Option, none, some}
use Rattle.text.specs.Words.{default}
use Rattle.text.specs.Words as words
use Rattle.number.specs.Number.{nearest, bits}
use Rattle.number.specs.Rounded.{number_rounded, time_rounded}
use Rattle.number.specs.Time.{Key, stored_time}
use Rattle.ast.specs.Tree.{
  noise,
  critically_damped,
  overdamped,
  underdamped,
  LoopSpec,
  KeyframeTime,
  percent,
  seconds,
  KeyframeEntry,
  StaggerPatternSpec,
  grid,
  random,
  center_out,
  edges_in,
  Leaf,
  Container,
  sequence,
  parallel,
  group,
  stagger,
  Nodes,
  MotionNode,
  single,
  holding,
  push,
  append,
}
use Rattle.grammar.specs.Fields.{Content, a_number, a_damping, a_range, Table, pairs, parse_field_list}
use Rattle.grammar.specs.Fields.{last_number, last_truth, last_easing, last_loop_mode, last_value, last_damping, last_range, ever}
use Rattle.grammar.specs.Values.{ident, string, parse_float, parse_float_in_parens, parse_two_floats_in_parens}
use Rattle.grammar.specs.Values.{parse_value, f32_of, parse_easing, parse_loop_mode, number, count, flag, value, easing, loop_mode}
use Rattle.grammar.specs.Rule.{Rule, ◌>>=◌, ◌>>◌, give, refuse, need, if, sees, sees_word, sees_name, sees_number, ends}
use Rattle.grammar.specs.Rule.{skip, the, both, eat, word, choice, signed, counted, inside, repeat, Next, more, done, go_on}
use Rattle.error.specs.declared.Refusal.TheVariants.{Missing, UnknownKeyword, Malformed, UnknownSpringPreset}
use Rattle.error.specs.declared.Refusal.TheVariants.{MissingDuration, StaggerGridIncomplete, TooManyNested, NoiseWritten}

-- ---- tween

unfoldable pub tween_fields : Table
tween_fields =
    ("duration", number) ∷ ("easing", easing) ∷ ("delay", number)
    ∷ ("time_scale", number) ∷ ("loop", loop_mode) ∷ ("snap", number)
    ∷ ("round", count) ∷ ("reverse", flag) ∷ []

-- parse_tween
unfoldable pub parse_tween : Rule (Leaf Key)
parse_tween = do
  target ← ident
  the ":"
  from ← parse_value
  both "=" ">"
  to ← parse_value
  fs ← parse_field_list tween_fields []
  duration ← need MissingDuration (last_number "duration" fs)
  give (Leaf.tween (record {
    target = target;
    from = from;
    to = to;
    duration = duration;
    easing = last_easing fs;
    delay = last_number "delay" fs;
    time_scale = last_number "time_scale" fs;
    loop_mode = last_loop_mode fs;
    snap = last_number "snap" fs;
    round = last_number "round" fs;
    reverse = ever "reverse" fs;
  }))

-- ---- spring

abbrev pub preset_names : List String
preset_names = "gentle" ∷ "wobbly" ∷ "stiff" ∷ "slow" ∷ "snappy" ∷ []

-- parse_spring_preset, behind its name
unfoldable pub parse_spring_preset : Rule ℕ
parse_spring_preset = choice UnknownSpringPreset preset_names

unfoldable pub spring_preset : Rule Content
spring_preset = parse_spring_preset >>= λ k. give (a_number k)

abbrev pub integrator_names : List String
integrator_names = "semi_implicit_euler" ∷ "rk4" ∷ []

unfoldable pub integrator : Rule Content
integrator = choice Malformed integrator_names >>= λ k. give (a_number k)

unfoldable pub critical_damping : Rule Content
critical_damping = parse_float_in_parens >>= λ s. give (a_damping (critically_damped s))

unfoldable pub over_damping : Rule Content
over_damping = parse_two_floats_in_parens >>= λ p. give (a_damping (overdamped p.0 p.1))

unfoldable pub under_damping : Rule Content
under_damping = parse_two_floats_in_parens >>= λ p. give (a_damping (underdamped p.0 p.1))

unfoldable pub spring_fields : Table
spring_fields =
    ("preset", spring_preset) ∷ ("stiffness", number) ∷ ("damping", number)
    ∷ ("mass", number) ∷ ("velocity", value) ∷ ("epsilon", number)
    ∷ ("integrator", integrator) ∷ ("critically_damped", critical_damping)
    ∷ ("overdamped", over_damping)
    ∷ ("underdamped", under_damping) ∷ []

-- parse_spring
unfoldable pub parse_spring : Rule (Leaf Key)
parse_spring = do
  target ← ident
  the ":"
  from ← parse_value
  both "=" ">"
  to ← parse_value
  fs ← parse_field_list spring_fields []
  give (Leaf.spring (record {
    target = target;
    from = from;
    to = to;
    preset = last_number "preset" fs;
    stiffness = last_number "stiffness" fs;
    damping = last_number "damping" fs;
    mass = last_number "mass" fs;
    velocity = last_value fs;
    epsilon = last_number "epsilon" fs;
    integrator = last_number "integrator" fs;
    damping_mode = last_damping fs;
  }))

-- ---- keyframes

-- the time that the sheet has for a key
unfoldable pub stored : Key → KeyframeTime
stored k = cond k.percent (percent (bits (stored_time k))) (seconds (bits (stored_time k)))

-- a key, counted
unfoldable pub keyed : Key → Rule Key
keyed k = counted (time_rounded k) >> give k

-- parse_keyframe_time
unfoldable pub parse_keyframe_time : Rule Key
parse_keyframe_time = do
  w ← signed sees_number Malformed
  p ← cond w.1.point (give false) (eat "%")
  cond (p && w.1.suffix) (refuse Malformed) (keyed (record { percent = p; negative = w.0; written = w.1 }))

-- a frame: a time, `:`, a value, and an easing where a name follows
unfoldable pub keyframe_entry : Rule (KeyframeEntry Key)
keyframe_entry = do
  t ← parse_keyframe_time
  the ":"
  v ← parse_value
  e ← if sees_name (parse_easing >>= λ e. give (some e)) (give none)
  give (record { time = t; value = v; easing = e })

-- the frames so far, and the loop mode
abbrev pub Track : Type 0
Track = List (KeyframeEntry Key) × Option LoopSpec

-- `loop: ..`, and a `,` if there is one
unfoldable pub track_loop : Track → Rule (Next Track)
track_loop s = do
  skip
  the ":"
  m ← parse_loop_mode
  eat ","
  give (more (s.0, some m))

-- a frame, which the last of the track has no `,` or `;` behind
unfoldable pub track_frame : Track → Rule (Next Track)
track_frame s = do
  f ← keyframe_entry
  c ← if (sees ",") (skip >> give true) (eat ";")
  give (go_on c (s.0 ++ f ∷ [], s.1))

unfoldable pub track_step : Track → Rule (Next Track)
track_step s = if ends (give (done s)) (if (sees_word "loop") (track_loop s) (track_frame s))

-- parse_keyframes
unfoldable pub parse_keyframes : Rule (Leaf Key)
parse_keyframes = do
  target ← ident
  s ← inside "{" (repeat track_step ([], none))
  give (Leaf.keyframes (record { target = target; frames = s.0; loop_mode = s.1 }))

-- ---- sequence, parallel, group: what stands between the keyword and the block

-- parse_sequence
unfoldable pub parse_sequence : Rule Container
parse_sequence = give sequence

-- parse_parallel
unfoldable pub parse_parallel : Rule Container
parse_parallel = give parallel

abbrev pub mode_names : List String
mode_names = "sequence" ∷ "parallel" ∷ []

-- parse_group
unfoldable pub parse_group : Rule Container
parse_group = do
  mode ← choice Malformed mode_names
  give (group mode)

-- ---- stagger

abbrev pub origin_names : List String
origin_names = "top_left" ∷ "top_right" ∷ "bottom_left" ∷ "bottom_right" ∷ "center" ∷ "top" ∷ "bottom" ∷ "left" ∷ "right" ∷ []

-- where it is absent: `center`
abbrev pub origin_default : ℕ
origin_default = 4

-- parse_grid_origin
unfoldable pub parse_grid_origin : Rule ℕ
parse_grid_origin = choice Malformed origin_names

unfoldable pub origin : Rule Content
origin = parse_grid_origin >>= λ k. give (a_number k)

unfoldable pub grid_fields : Table
grid_fields = ("cols", count) ∷ ("rows", count) ∷ ("origin", origin) ∷ []

-- `grid(..)`: a missing count is refused inside the parentheses
unfoldable pub grid_pattern : Rule StaggerPatternSpec
grid_pattern = inside "(" (do
  fs ← pairs grid_fields
  cols ← need StaggerGridIncomplete (last_number "cols" fs)
  rows ← need StaggerGridIncomplete (last_number "rows" fs)
  give (grid cols rows (default (last_number "origin" fs) origin_default)))

unfoldable pub random_fields : Table
random_fields = ("seed", count) ∷ ("min", number) ∷ ("max", number) ∷ []

-- where they are absent
abbrev pub seed_default : ℕ
seed_default = 0

abbrev pub min_default : ℕ
min_default = f32_of 0 1

abbrev pub max_default : ℕ
max_default = f32_of 1 10

-- `random(..)`
unfoldable pub random_pattern : Rule StaggerPatternSpec
random_pattern = do
  fs ← inside "(" (pairs random_fields)
  give (random (default (last_number "seed" fs) seed_default) (default (last_number "min" fs) min_default)
      (default (last_number "max" fs) max_default))

unfoldable pub patterns : List (String × Rule StaggerPatternSpec)
patterns = ("grid", grid_pattern) ∷ ("random", random_pattern) ∷ ("center_out", give center_out) ∷ ("edges_in", give edges_in) ∷ []

-- parse_stagger_pattern
unfoldable pub parse_stagger_pattern : Rule StaggerPatternSpec
parse_stagger_pattern = do
  w ← word
  p ← need Malformed (words.under patterns w.1)
  p

-- the pattern and the delay so far
abbrev pub Opening : Type 0
Opening = Option StaggerPatternSpec × Option ℕ

unfoldable pub opening_fields : Opening → List (String × Rule Opening)
opening_fields s =
    ("pattern", the ":" >> (parse_stagger_pattern >>= λ p. give (some p, s.1)))
    ∷ ("delay", the ":" >> (parse_float >>= λ d. give (s.0, some d)))
    ∷ []

unfoldable pub opening_field : Opening → Rule (Next Opening)
opening_field s = do
  w ← word
  p ← need UnknownKeyword (words.under (opening_fields s) w.1)
  s' ← p
  c ← eat ","
  give (go_on c s')

unfoldable pub opening_step : Opening → Rule (Next Opening)
opening_step s = if (sees "{") (give (done s)) (opening_field s)

-- parse_stagger
unfoldable pub parse_stagger : Rule Container
parse_stagger = do
  s ← repeat opening_step (none, none)
  give (stagger s.0 s.1)

-- ---- path, morph, draw

-- `start..end`
unfoldable pub offset : Rule Content
offset = do
  start ← parse_float
  both "." "."
  end ← parse_float
  give (a_range (start, end))

unfoldable pub path_fields : Table
path_fields =
    ("duration", number) ∷ ("easing", easing) ∷ ("auto_rotate", flag)
    ∷ ("offset", offset) ∷ ("loop", loop_mode) ∷ []

-- parse_path
unfoldable pub parse_path : Rule (Leaf Key)
parse_path = do
  target ← ident
  choice Malformed ("along" ∷ [])
  svg ← string
  fs ← parse_field_list path_fields []
  duration ← need MissingDuration (last_number "duration" fs)
  give (Leaf.path (record {
    target = target;
    svg = svg;
    duration = duration;
    easing = last_easing fs;
    auto_rotate = last_truth "auto_rotate" fs;
    offset = last_range fs;
    loop_mode = last_loop_mode fs;
  }))

-- where it is absent
abbrev pub samples_default : ℕ
samples_default = 32

unfoldable pub morph_fields : Table
morph_fields = ("samples", count) ∷ ("duration", number) ∷ ("easing", easing) ∷ []

-- parse_morph
unfoldable pub parse_morph : Rule (Leaf Key)
parse_morph = do
  from ← string
  both "=" ">"
  to ← string
  fs ← parse_field_list morph_fields []
  duration ← need MissingDuration (last_number "duration" fs)
  give (Leaf.morph (record {
    from = from;
    to = to;
    samples = default (last_number "samples" fs) samples_default;
    duration = duration;
    easing = last_easing fs;
  }))

-- the fields of draw, and of preset
unfoldable pub draw_fields : Table
draw_fields = ("duration", number) ∷ ("easing", easing) ∷ []

-- parse_draw
unfoldable pub parse_draw : Rule (Leaf Key)
parse_draw = do
  svg ← string
  fs ← parse_field_list draw_fields []
  duration ← need MissingDuration (last_number "duration" fs)
  give (Leaf.draw (record { svg = svg; duration = duration; easing = last_easing fs }))

-- ---- color

abbrev pub space_names : List String
space_names = "linear" ∷ "lab" ∷ "oklch" ∷ []

-- where it is absent: `linear`
abbrev pub space_default : ℕ
space_default = 0

unfoldable pub space : Rule Content
space = choice Malformed space_names >>= λ k. give (a_number k)

unfoldable pub color_fields : Table
color_fields = ("duration", number) ∷ ("space", space) ∷ ("easing", easing) ∷ []

-- parse_color
unfoldable pub parse_color : Rule (Leaf Key)
parse_color = do
  target ← ident
  the ":"
  from ← string
  both "=" ">"
  to ← string
  fs ← parse_field_list color_fields []
  duration ← need MissingDuration (last_number "duration" fs)
  give (Leaf.color (record {
    target = target;
    from = from;
    to = to;
    duration = duration;
    space = default (last_number "space" fs) space_default;
    easing = last_easing fs;
  }))

-- ---- waveform

-- 02 (h): "Reading refuses `noise` as a waveform kind", "15 in reading, raised where 8 would be for a bad kind"
unfoldable pub unless_noise : ℕ → Rule ℕ
unless_noise k = cond (eqb k noise) (refuse NoiseWritten) (give k)

abbrev pub waveform_names : List String
waveform_names = "sine" ∷ "sawtooth" ∷ "square" ∷ "triangle" ∷ "noise" ∷ []

-- a kind of the Rust's, but for the last
unfoldable pub waveform_kind : Rule ℕ
waveform_kind = choice Malformed waveform_names >>= unless_noise

unfoldable pub waveform_fields : Table
waveform_fields =
    ("frequency", number) ∷ ("amplitude", number) ∷ ("phase", number)
    ∷ ("duty_cycle", number) ∷ ("seed", count) ∷ ("smoothness", number)
    ∷ ("duration", number) ∷ []

-- parse_waveform
unfoldable pub parse_waveform : Rule (Leaf Key)
parse_waveform = do
  kind ← waveform_kind
  fs ← parse_field_list waveform_fields []
  give (Leaf.waveform (record {
    kind = kind;
    frequency = last_number "frequency" fs;
    amplitude = last_number "amplitude" fs;
    phase = last_number "phase" fs;
    duty_cycle = last_number "duty_cycle" fs;
    seed = last_number "seed" fs;
    smoothness = last_number "smoothness" fs;
    duration = last_number "duration" fs;
  }))

-- ---- preset, label, at

-- parse_preset_call: fields in parentheses or not, and more of them behind a `,` or not
unfoldable pub parse_preset_call : Rule (Leaf Key)
parse_preset_call = do
  name ← ident
  fs ← if (sees "(") (inside "(" (pairs draw_fields)) (give [])
  gs ← if (sees ",") (skip >> parse_field_list draw_fields fs) (give fs)
  give (Leaf.preset (record { name = name; duration = last_number "duration" gs; easing = last_easing gs }))

-- parse_label
unfoldable pub parse_label : Rule (Leaf Key)
parse_label = do
  s ← string
  the ";"
  give (Leaf.label s)

-- the sign that `at` takes first, `+` or `-`: whether there is one, and whether it is `-`
unfoldable pub at_sign : Rule (Bool × Bool)
at_sign = do
  plus ← eat "+"
  minus ← cond plus (give false) (eat "-")
  give (plus || minus, minus)

-- the number's sign behind `at`'s own
abbrev pub turned : Bool → Bool → Bool
turned minus negative = cond minus (not negative) negative

-- parse_at: "`at` takes its own sign first"
unfoldable pub parse_at : Rule (Leaf Key)
parse_at = do
  sign ← at_sign
  w ← signed sees_number Malformed
  counted (number_rounded (turned sign.1 w.0) w.1)
  eat ";"
  give (Leaf.at (record { value = bits (nearest (turned sign.1 w.0) w.1); relative = sign.0 }))

-- ---- nodes

unfoldable pub leaves : List (String × Rule (Leaf Key))
leaves =
    ("tween", parse_tween) ∷ ("spring", parse_spring) ∷ ("keyframes", parse_keyframes) ∷ ("path", parse_path) ∷ ("morph", parse_morph)
    ∷ ("draw", parse_draw) ∷ ("color", parse_color) ∷ ("waveform", parse_waveform) ∷ ("preset", parse_preset_call) ∷ ("label", parse_label)
    ∷ ("at", parse_at) ∷ []

unfoldable pub containers : List (String × Rule Container)
containers = ("sequence", parse_sequence) ∷ ("parallel", parse_parallel) ∷ ("group", parse_group) ∷ ("stagger", parse_stagger) ∷ []

-- what a node's keyword begins: a leaf, a container, or nothing known
pub data Begins : Type 0 where
  a_leaf : Rule (Leaf Key) → Begins
  a_container : Rule Container → Begins
  unknown : Begins

abbrev pub or_container : Option (Rule (Leaf Key)) → Option (Rule Container) → Begins
or_container (some p) c = a_leaf p
or_container none (some p) = a_container p
or_container none none = unknown

unfoldable pub beginning : List ℕ → Begins
beginning w = or_container (words.under leaves w) (words.under containers w)

-- `block` is the rule for a container's block, `start` the start of the keyword
abbrev pub node_by : Rule (Nodes Key) → ℕ → Begins → Rule (MotionNode Key)
node_by block start (a_leaf p) = p >>= λ l. give (single start l)
node_by block start (a_container p) = p >>= λ b. block >>= λ ns. give (holding start b ns)
node_by block start unknown = refuse UnknownKeyword

-- parse_node
unfoldable pub parse_node : Rule (Nodes Key) → Rule (MotionNode Key)
parse_node block = do
  w ← word
  node_by block w.0 (beginning w.1)

unfoldable pub one_node : Rule (Nodes Key) → Nodes Key → Rule (Next (Nodes Key))
one_node block ns = do
  n ← parse_node block
  give (more (append ns (push n Nodes.none)))

-- nodes up to the group's end, `;` between them or not
unfoldable pub nodes_step : Rule (Nodes Key) → Nodes Key → Rule (Next (Nodes Key))
nodes_step block ns = if ends (give (done ns)) (if (sees ";") (skip >> give (more ns)) (one_node block ns))

-- a container's block, d containers more being allowed: 01, "a 17th container inside 16 others", "its `{`"
unfoldable pub block : ℕ → Rule (Nodes Key)
block zero l ts = if (sees "{") (refuse TooManyNested) (refuse Missing) l ts
block (suc d) l ts = inside "{" (repeat (nodes_step (block d)) Nodes.none) l ts

-- `AnimatoInput`
unfoldable pub animato_input : Rule (Nodes Key)
animato_input = repeat (nodes_step (block 16)) Nodes.none
