-- 02 (f): the pieces of a fresh script for a tree.
-- Each writer puts its pieces in front of those that follow. Fields stand "in ast.rs order where the grammar leaves it free".
use Rattle.std.specs.Prelude.{ℕ, zero, suc, ◌-◌, Bool, true, false, cond, List, [], ◌∷◌, leb, eqb, take}
use Prim.Native.Char.{Char, code}
use Prim.Native.String.{String}
use Rattle.std.proofs.Math.Option.{Option, none, some}
use Rattle.digits.specs.Numeral.{Sort, counted, float, percentage}
use Rattle.text.specs.Bytes.{bytes}
use Rattle.ast.specs.Tree.{ValueExpr, scalar, array, LoopSpec, once, times, forever, ping_pong, ping_pong_times}
use Rattle.ast.specs.Tree.{noise, KeyframeTime, percent, seconds, DampingMode, critically_damped, overdamped, underdamped}
use Rattle.ast.specs.Tree.{StaggerPatternSpec, grid, random, center_out, edges_in, Container, sequence, parallel, group, stagger}
use Rattle.grammar.specs.Values.{strength_default, points_default, ratio_default, power_default}
use Rattle.grammar.specs.Grammar.{preset_names, integrator_names, space_names, mode_names, origin_names, waveform_names}
use Rattle.grammar.specs.Grammar.{origin_default, seed_default, min_default, max_default, samples_default, space_default}
use Rattle.pieces.specs.Pieces.{Piece, a_word, a_name, a_plain, a_numeral, a_string, a_mark, a_pair, Form, joined, all_fit}
use Rattle.fresh.specs.Meaning.{EasingSense, named, cubic_bezier, steps, wiggle, rough, slow_mo, FrameSense}
use Rattle.fresh.specs.Meaning.{LeafSense, tween, spring, keyframes, path, morph, draw, color, waveform, preset, label, at}
use Rattle.fresh.specs.Meaning.{Sense, no_nodes, leaf, box}

abbrev pub Writer : Type 0
Writer = List Piece → List Piece

abbrev pub spell : String → Piece
spell s = a_word (bytes s)

abbrev pub mark : Char → Piece
mark c = a_mark (code c)

abbrev pub two : Char → Char → Piece
two c d = a_pair (code c) (code d)

-- ---- numbers

-- the sign bit of an f32
unfoldable pub negative : ℕ → Bool
negative b = leb 2147483648 b

-- "each sign a token"
unfoldable pub minus_if : Bool → Writer
minus_if true ps = mark "-" ∷ ps
minus_if false ps = ps

-- the f32 without its sign bit
unfoldable pub size_of : Bool → ℕ → ℕ
size_of true b = b - 2147483648
size_of false b = b

unfoldable pub signed_by : Sort → Bool → ℕ → Writer
signed_by k s b ps = minus_if s (a_numeral k (size_of s b) ∷ ps)

unfoldable pub f32 : ℕ → Writer
f32 b ps = signed_by float (negative b) b ps

unfoldable pub u32 : ℕ → Writer
u32 n ps = a_numeral counted n ∷ ps

-- "commas only where the grammar needs them": between the elements of an array
unfoldable pub more_floats : List ℕ → Writer
more_floats [] ps = ps
more_floats (x ∷ xs) ps = mark "," ∷ f32 x (more_floats xs ps)

unfoldable pub floats : List ℕ → Writer
floats [] ps = ps
floats (x ∷ xs) ps = f32 x (more_floats xs ps)

unfoldable pub value : ValueExpr → Writer
value (scalar x) ps = f32 x ps
value (array xs) ps = mark "[" ∷ floats xs (mark "]" ∷ ps)

unfoldable pub truth : Bool → Writer
truth true ps = spell "true" ∷ ps
truth false ps = spell "false" ∷ ps

-- ---- fields in parentheses, which the grammar needs a `,` between

-- a field's name, and what writes its value
abbrev pub Pair : Type 0
Pair = String × Writer

unfoldable pub more_pairs : List Pair → Writer
more_pairs [] ps = ps
more_pairs (f ∷ fs) ps = mark "," ∷ spell f.0 ∷ mark ":" ∷ f.1 (more_pairs fs ps)

unfoldable pub pairs : List Pair → Writer
pairs [] ps = ps
pairs (f ∷ fs) ps = spell f.0 ∷ mark ":" ∷ f.1 (more_pairs fs ps)

-- "those omitted whose absence reads the same"
unfoldable pub unless : {A : Type 0} → Bool → A → List A → List A
unless true a as' = as'
unless false a as' = a ∷ as'

-- ---- easings and loop modes

-- "`Easing::` kept". What absence reads to is the grammar's default, bit for bit.
unfoldable pub easing : EasingSense → Writer
easing (named true x) ps = spell "Easing" ∷ two ":" ":" ∷ a_name x ∷ ps
easing (named false x) ps = a_plain x ∷ ps
easing (cubic_bezier a b c d) ps =
    spell "cubic_bezier" ∷ mark "("
    ∷ f32 a (mark "," ∷ f32 b (mark "," ∷ f32 c (mark "," ∷ f32 d (mark ")" ∷ ps))))
easing (steps n) ps = spell "steps" ∷ mark "(" ∷ u32 n (mark ")" ∷ ps)
easing (wiggle n) ps = spell "wiggle" ∷ mark "(" ∷ u32 n (mark ")" ∷ ps)
easing (rough a n) ps =
    spell "rough" ∷ mark "("
    ∷ pairs (unless (eqb a strength_default) ("strength", f32 a) (unless (eqb n points_default) ("points", u32 n) [])) (mark ")" ∷ ps)
easing (slow_mo a b) ps =
    spell "slowmo" ∷ mark "("
    ∷ pairs (unless (eqb a ratio_default) ("linear_ratio", f32 a) (unless (eqb b power_default) ("power", f32 b) [])) (mark ")" ∷ ps)

unfoldable pub loop_mode : LoopSpec → Writer
loop_mode once ps = spell "once" ∷ ps
loop_mode (times n) ps = spell "times" ∷ mark "(" ∷ u32 n (mark ")" ∷ ps)
loop_mode forever ps = spell "forever" ∷ ps
loop_mode ping_pong ps = spell "ping_pong" ∷ ps
loop_mode (ping_pong_times n) ps = spell "ping_pong" ∷ mark "(" ∷ u32 n (mark ")" ∷ ps)

-- ---- fields of a list, which needs no `,`

-- one that is absent is omitted; `loop : once` and `auto_rotate : false` are there
unfoldable pub field : {A : Type 0} → String → (A → Writer) → Option A → Writer
field s w none ps = ps
field s w (some a) ps = spell s ∷ mark ":" ∷ w a ps

-- absence reads to d
unfoldable pub unless_is : ℕ → ℕ → Option ℕ
unless_is d n = cond (eqb n d) none (some n)

-- absence reads to false
abbrev pub only_true : Bool → Option Bool
only_true true = some true
only_true false = none

-- a case by its word; past the last no text has it
unfoldable pub word_at : List String → ℕ → Piece
word_at [] k = a_name []
word_at (n ∷ ns) zero = spell n
word_at (n ∷ ns) (suc k) = word_at ns k

unfoldable pub choose : List String → ℕ → Writer
choose names k ps = word_at names k ∷ ps

-- 02 (h): reading refuses `noise`, so that no text has it
abbrev pub wave_names : List String
wave_names = take noise waveform_names

unfoldable pub offset : ℕ × ℕ → Writer
offset r ps = f32 r.0 (two "." "." ∷ f32 r.1 ps)

-- a damping mode is a field under its own name
unfoldable pub damping : Option DampingMode → Writer
damping none ps = ps
damping (some (critically_damped a)) ps = spell "critically_damped" ∷ mark ":" ∷ mark "(" ∷ f32 a (mark ")" ∷ ps)
damping (some (overdamped a b)) ps = spell "overdamped" ∷ mark ":" ∷ mark "(" ∷ f32 a (mark "," ∷ f32 b (mark ")" ∷ ps))
damping (some (underdamped a b)) ps = spell "underdamped" ∷ mark ":" ∷ mark "(" ∷ f32 a (mark "," ∷ f32 b (mark ")" ∷ ps))

-- ---- tracks

-- "A time is written as a percent exactly if its frame in the sheet says it was one"
unfoldable pub time : KeyframeTime → Writer
time (percent b) ps = signed_by percentage (negative b) b (mark "%" ∷ ps)
time (seconds b) ps = f32 b ps

unfoldable pub frame_easing : Option EasingSense → Writer
frame_easing none ps = ps
frame_easing (some e) ps = easing e ps

unfoldable pub frame : FrameSense → Writer
frame f ps = time f.time (mark ":" ∷ value f.value (frame_easing f.easing ps))

unfoldable pub track_loop : LoopSpec → Writer
track_loop m ps = spell "loop" ∷ mark ":" ∷ loop_mode m ps

-- what stands behind the first frame: the grammar needs `,` or `;` there, and `,` is "the first in byte order"
unfoldable pub more_frames : List FrameSense → Option LoopSpec → Writer
more_frames [] none ps = ps
more_frames [] (some m) ps = mark "," ∷ track_loop m ps
more_frames (f ∷ fs) o ps = mark "," ∷ frame f (more_frames fs o ps)

-- the loop mode stands last, as in ast.rs
unfoldable pub track : List FrameSense → Option LoopSpec → Writer
track [] none ps = ps
track [] (some m) ps = track_loop m ps
track (f ∷ fs) o ps = frame f (more_frames fs o ps)

-- ---- leaves

-- "a preset's fields after a comma"
unfoldable pub comma_if : Option ℕ → Option EasingSense → Writer
comma_if none none ps = ps
comma_if none (some e) ps = mark "," ∷ ps
comma_if (some d) e ps = mark "," ∷ ps

-- "a relative `at` starts with `+`"; an absolute one has no sign, so that one with its sign bit set is written by no text
unfoldable pub at_value : Bool → ℕ → Writer
at_value true b ps = mark "+" ∷ f32 b ps
at_value false b ps = a_numeral float b ∷ ps

unfoldable pub leaf_word : LeafSense → String
leaf_word (tween d) = "tween"
leaf_word (spring d) = "spring"
leaf_word (keyframes d) = "keyframes"
leaf_word (path d) = "path"
leaf_word (morph d) = "morph"
leaf_word (draw d) = "draw"
leaf_word (color d) = "color"
leaf_word (waveform d) = "waveform"
leaf_word (preset d) = "preset"
leaf_word (label x) = "label"
leaf_word (at d) = "at"

-- what stands behind its word: "`;` after every node"
unfoldable pub leaf_body : LeafSense → Writer
leaf_body (tween d) ps =
    a_name d.target ∷ mark ":" ∷ value d.from (two "=" ">"
    ∷ value d.to (field "duration" f32 (some d.duration) (field "easing" easing d.easing
    (field "delay" f32 d.delay (field "time_scale" f32 d.time_scale (field "loop" loop_mode d.loop_mode
    (field "snap" f32 d.snap (field "round" u32 d.round (field "reverse" truth (only_true d.reverse)
    (mark ";" ∷ ps))))))))))
leaf_body (spring d) ps =
    a_name d.target ∷ mark ":" ∷ value d.from (two "=" ">"
    ∷ value d.to (field "preset" (choose preset_names) d.preset (field "stiffness" f32 d.stiffness
    (field "damping" f32 d.damping (field "mass" f32 d.mass (field "velocity" value d.velocity
    (field "epsilon" f32 d.epsilon (field "integrator" (choose integrator_names) d.integrator
    (damping d.damping_mode (mark ";" ∷ ps))))))))))
leaf_body (keyframes d) ps = a_name d.target ∷ mark "{" ∷ track d.frames d.loop_mode (mark "}" ∷ mark ";" ∷ ps)
leaf_body (path d) ps =
    a_name d.target ∷ spell "along" ∷ a_string d.svg
    ∷ field "duration" f32 (some d.duration) (field "easing" easing d.easing (field "auto_rotate" truth d.auto_rotate
    (field "offset" offset d.offset (field "loop" loop_mode d.loop_mode (mark ";" ∷ ps)))))
leaf_body (morph d) ps =
    a_string d.from ∷ two "=" ">" ∷ a_string d.to
    ∷ field "samples" u32 (unless_is samples_default d.samples) (field "duration" f32 (some d.duration)
    (field "easing" easing d.easing (mark ";" ∷ ps)))
leaf_body (draw d) ps = a_string d.svg ∷ field "duration" f32 (some d.duration) (field "easing" easing d.easing (mark ";" ∷ ps))
leaf_body (color d) ps =
    a_name d.target ∷ mark ":" ∷ a_string d.from ∷ two "=" ">" ∷ a_string d.to
    ∷ field "duration" f32 (some d.duration) (field "space" (choose space_names) (unless_is space_default d.space)
    (field "easing" easing d.easing (mark ";" ∷ ps)))
leaf_body (waveform d) ps =
    word_at wave_names d.kind
    ∷ field "frequency" f32 d.frequency (field "amplitude" f32 d.amplitude (field "phase" f32 d.phase
    (field "duty_cycle" f32 d.duty_cycle (field "seed" u32 d.seed (field "smoothness" f32 d.smoothness
    (field "duration" f32 d.duration (mark ";" ∷ ps)))))))
leaf_body (preset d) ps =
    a_name d.name
    ∷ comma_if d.duration d.easing (field "duration" f32 d.duration (field "easing" easing d.easing (mark ";" ∷ ps)))
leaf_body (label x) ps = a_string x ∷ mark ";" ∷ ps
leaf_body (at d) ps = at_value d.relative d.value (mark ";" ∷ ps)

-- ---- containers

unfoldable pub box_word : Container → String
box_word sequence = "sequence"
box_word parallel = "parallel"
box_word (group m) = "group"
box_word (stagger p d) = "stagger"

-- what absence reads to is the grammar's default, bit for bit
unfoldable pub pattern : StaggerPatternSpec → Writer
pattern (grid c r o) ps =
    spell "grid" ∷ mark "("
    ∷ pairs (("cols", u32 c) ∷ ("rows", u32 r) ∷ unless (eqb o origin_default) ("origin", choose origin_names o) []) (mark ")" ∷ ps)
pattern (random n a b) ps =
    spell "random" ∷ mark "("
    ∷ pairs (unless (eqb n seed_default) ("seed", u32 n)
    (unless (eqb a min_default) ("min", f32 a) (unless (eqb b max_default) ("max", f32 b) []))) (mark ")" ∷ ps)
pattern center_out ps = spell "center_out" ∷ ps
pattern edges_in ps = spell "edges_in" ∷ ps

-- the fields of `stagger`, which the grammar needs a `,` between
unfoldable pub opening : Option StaggerPatternSpec → Option ℕ → Writer
opening none none ps = ps
opening none (some d) ps = spell "delay" ∷ mark ":" ∷ f32 d ps
opening (some p) none ps = spell "pattern" ∷ mark ":" ∷ pattern p ps
opening (some p) (some d) ps = spell "pattern" ∷ mark ":" ∷ pattern p (mark "," ∷ spell "delay" ∷ mark ":" ∷ f32 d ps)

-- what stands between its word and its block
unfoldable pub box_body : Container → Writer
box_body sequence ps = ps
box_body parallel ps = ps
box_body (group m) ps = word_at mode_names m ∷ ps
box_body (stagger p d) ps = opening p d ps

-- ---- nodes: "`;` after every node"

unfoldable pub pieces : Sense → Writer
pieces no_nodes ps = ps
pieces (leaf l rest) ps = spell (leaf_word l) ∷ leaf_body l (pieces rest ps)
pieces (box b inner rest) ps =
    spell (box_word b) ∷ box_body b (mark "{" ∷ pieces inner (mark "}" ∷ mark ";" ∷ pieces rest ps))

-- ---- the script, and 34

abbrev pub script : Form → Sense → List ℕ
script form x = joined form (pieces x [])

-- "34 exactly if no text under 01's rules .. reads to that tree": each of its causes is a piece that no text has
abbrev pub has_text : Form → Sense → Bool
has_text form x = all_fit form (pieces x [])
