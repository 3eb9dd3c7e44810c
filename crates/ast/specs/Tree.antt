-- ast.rs: the types of the tree, under its names, spans for diagnostics left out.
-- An f32 is its bit pattern. An enum whose cases hold nothing is the position of the case. A name or a string is its place in the text.
use Rattle.std.specs.Prelude.{ℕ, suc, ◌+◌, Bool, List, [], ◌∷◌, ◌++◌, length}
use Rattle.std.proofs.Math.Option.{Option, some}
use Rattle.text.specs.Bytes.{part}

-- where a name or a string stands in the text, quotes left off
pub record Span : Type 0 where
  pub start : ℕ
  pub size : ℕ

-- its bytes
abbrev pub span_bytes : List ℕ → Span → List ℕ
span_bytes t x = part t x.start x.size

pub data ValueExpr : Type 0 where
  scalar : ℕ → ValueExpr
  array : List ℕ → ValueExpr

-- component_count
abbrev pub component_count : ValueExpr → ℕ
component_count (scalar x) = 1
component_count (array xs) = length xs

-- `named` says first whether it is written `Easing::`
pub data EasingSpec : Type 0 where
  named : Bool → Span → EasingSpec
  cubic_bezier : ℕ → ℕ → ℕ → ℕ → EasingSpec
  steps : ℕ → EasingSpec
  wiggle : ℕ → EasingSpec
  rough : ℕ → ℕ → EasingSpec
  slow_mo : ℕ → ℕ → EasingSpec

pub data LoopSpec : Type 0 where
  once : LoopSpec
  times : ℕ → LoopSpec
  forever : LoopSpec
  ping_pong : LoopSpec
  ping_pong_times : ℕ → LoopSpec

pub data DampingMode : Type 0 where
  critically_damped : ℕ → DampingMode
  overdamped : ℕ → ℕ → DampingMode
  underdamped : ℕ → ℕ → DampingMode

pub data KeyframeTime : Type 0 where
  percent : ℕ → KeyframeTime
  seconds : ℕ → KeyframeTime

pub data StaggerPatternSpec : Type 0 where
  grid : ℕ → ℕ → ℕ → StaggerPatternSpec
  random : ℕ → ℕ → ℕ → StaggerPatternSpec
  center_out : StaggerPatternSpec
  edges_in : StaggerPatternSpec

pub record TweenSpec : Type 0 where
  pub target : Span
  pub from : ValueExpr
  pub to : ValueExpr
  pub duration : ℕ
  pub easing : Option EasingSpec
  pub delay : Option ℕ
  pub time_scale : Option ℕ
  pub loop_mode : Option LoopSpec
  pub snap : Option ℕ
  pub round : Option ℕ
  pub reverse : Bool

pub record SpringSpec : Type 0 where
  pub target : Span
  pub from : ValueExpr
  pub to : ValueExpr
  pub preset : Option ℕ
  pub stiffness : Option ℕ
  pub damping : Option ℕ
  pub mass : Option ℕ
  pub velocity : Option ValueExpr
  pub epsilon : Option ℕ
  pub integrator : Option ℕ
  pub damping_mode : Option DampingMode

-- K is what stands for a time: in the grammar's tree the key as written, in a sheet's tree a `KeyframeTime`
pub record KeyframeEntry (K : Type 0) : Type 0 where
  pub time : K
  pub value : ValueExpr
  pub easing : Option EasingSpec

pub record KeyframeSpec (K : Type 0) : Type 0 where
  pub target : Span
  pub frames : List (KeyframeEntry K)
  pub loop_mode : Option LoopSpec

pub record PathSpec : Type 0 where
  pub target : Span
  pub svg : Span
  pub duration : ℕ
  pub easing : Option EasingSpec
  pub auto_rotate : Option Bool
  pub offset : Option (ℕ × ℕ)
  pub loop_mode : Option LoopSpec

pub record MorphSpec : Type 0 where
  pub from : Span
  pub to : Span
  pub samples : ℕ
  pub duration : ℕ
  pub easing : Option EasingSpec

pub record DrawSpec : Type 0 where
  pub svg : Span
  pub duration : ℕ
  pub easing : Option EasingSpec

pub record ColorSpec : Type 0 where
  pub target : Span
  pub from : Span
  pub to : Span
  pub duration : ℕ
  pub space : ℕ
  pub easing : Option EasingSpec

-- WaveformKind's last case, which 02 (h) retires
abbrev pub noise : ℕ
noise = 4

pub record WaveformSpec : Type 0 where
  pub kind : ℕ
  pub frequency : Option ℕ
  pub amplitude : Option ℕ
  pub phase : Option ℕ
  pub duty_cycle : Option ℕ
  pub seed : Option ℕ
  pub smoothness : Option ℕ
  pub duration : Option ℕ

pub record PresetCall : Type 0 where
  pub name : Span
  pub duration : Option ℕ
  pub easing : Option EasingSpec

pub record AtSpec : Type 0 where
  pub value : ℕ
  pub relative : Bool

-- a node of `MotionNode` that holds no others
pub data Leaf (K : Type 0) : Type 0 where
  tween : TweenSpec → Leaf K
  spring : SpringSpec → Leaf K
  keyframes : KeyframeSpec K → Leaf K
  path : PathSpec → Leaf K
  morph : MorphSpec → Leaf K
  draw : DrawSpec → Leaf K
  color : ColorSpec → Leaf K
  waveform : WaveformSpec → Leaf K
  preset : PresetCall → Leaf K
  label : Span → Leaf K
  at : AtSpec → Leaf K

-- 01: "Containers are sequence, parallel, group and stagger", without the nodes in them
pub data Container : Type 0 where
  sequence : Container
  parallel : Container
  group : ℕ → Container
  stagger : Option StaggerPatternSpec → Option ℕ → Container

-- nodes in order: none; a leaf and those after it; a container, the nodes in it and those after it. Each has first, 02 (a), "the start of
-- the node's keyword in the text".
pub data Nodes (K : Type 0) : Type 0 where
  none : Nodes K
  leaf : ℕ → Leaf K → Nodes K → Nodes K
  box : ℕ → Container → Nodes K → Nodes K → Nodes K

-- `MotionNode`: one node, with the start of its keyword and the nodes in it
pub data MotionNode (K : Type 0) : Type 0 where
  single : ℕ → Leaf K → MotionNode K
  holding : ℕ → Container → Nodes K → MotionNode K

-- a node in front of others
abbrev pub push : {K : Type 0} → MotionNode K → Nodes K → Nodes K
push (single p l) rest = leaf p l rest
push (holding p b inner) rest = box p b inner rest

-- one list of nodes after another
abbrev pub append : {K : Type 0} → Nodes K → Nodes K → Nodes K
append none ns = ns
append (leaf p l rest) ns = leaf p l (append rest ns)
append (box p b inner rest) ns = box p b inner (append rest ns)

-- how many stand beside each other
abbrev pub width : {K : Type 0} → Nodes K → ℕ
width none = 0
width (leaf p l rest) = suc (width rest)
width (box p b inner rest) = suc (width rest)

-- how many records they have
abbrev pub records : {K : Type 0} → Nodes K → ℕ
records none = 0
records (leaf p l rest) = suc (records rest)
records (box p b inner rest) = suc (records inner + records rest)

-- the leaves in preorder, none for a container: the place in the list is the record's ordinal less one
abbrev pub preorder : {K : Type 0} → Nodes K → List (Option (Leaf K))
preorder Nodes.none = []
preorder (leaf p l rest) = some l ∷ preorder rest
preorder (box p b inner rest) = Option.none ∷ preorder inner ++ preorder rest

-- ---- the same tree with other times

abbrev pub map_frames : {K L : Type 0} → (K → L) → List (KeyframeEntry K) → List (KeyframeEntry L)
map_frames f [] = []
map_frames f (x ∷ xs) = record { time = f x.time; value = x.value; easing = x.easing } ∷ map_frames f xs

abbrev pub map_leaf : {K L : Type 0} → (K → L) → Leaf K → Leaf L
map_leaf f (tween t) = tween t
map_leaf f (spring t) = spring t
map_leaf f (keyframes t) = keyframes (record { target = t.target; frames = map_frames f t.frames; loop_mode = t.loop_mode })
map_leaf f (path t) = path t
map_leaf f (morph t) = morph t
map_leaf f (draw t) = draw t
map_leaf f (color t) = color t
map_leaf f (waveform t) = waveform t
map_leaf f (preset t) = preset t
map_leaf f (label t) = label t
map_leaf f (at t) = at t

abbrev pub map_times : {K L : Type 0} → (K → L) → Nodes K → Nodes L
map_times f none = none
map_times f (leaf p l rest) = leaf p (map_leaf f l) (map_times f rest)
map_times f (box p b inner rest) = box p b (map_times f inner) (map_times f rest)
