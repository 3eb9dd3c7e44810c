-- 02 (f): "the same tree: equal values bit for bit, equal names and strings, though starts may differ". The sense of a tree is the tree
-- without starts, with the bytes of its names and strings: two trees are the same if their senses are equal.
use Rattle.std.specs.Prelude.{ℕ, Bool, List, [], ◌∷◌}
use Rattle.std.proofs.Math.Option.{Option, none, some}
use Rattle.ast.specs.Tree.{span_bytes, ValueExpr, EasingSpec, LoopSpec, DampingMode, KeyframeTime}
use Rattle.ast.specs.Tree.{KeyframeEntry, Leaf, WaveformSpec, AtSpec, Container, Nodes}

pub data EasingSense : Type 0 where
  named : Bool → List ℕ → EasingSense
  cubic_bezier : ℕ → ℕ → ℕ → ℕ → EasingSense
  steps : ℕ → EasingSense
  wiggle : ℕ → EasingSense
  rough : ℕ → ℕ → EasingSense
  slow_mo : ℕ → ℕ → EasingSense

pub record TweenSense : Type 0 where
  pub target : List ℕ
  pub from : ValueExpr
  pub to : ValueExpr
  pub duration : ℕ
  pub easing : Option EasingSense
  pub delay : Option ℕ
  pub time_scale : Option ℕ
  pub loop_mode : Option LoopSpec
  pub snap : Option ℕ
  pub round : Option ℕ
  pub reverse : Bool

pub record SpringSense : Type 0 where
  pub target : List ℕ
  pub from : ValueExpr
  pub to : ValueExpr
  pub preset : Option ℕ
  pub stiffness : Option ℕ
  pub damping : Option ℕ
  pub mass : Option ℕ
  pub velocity : Option ValueExpr
  pub epsilon : Option ℕ
  pub integrator : Option ℕ
  pub damping_mode : Option DampingMode

pub record FrameSense : Type 0 where
  pub time : KeyframeTime
  pub value : ValueExpr
  pub easing : Option EasingSense

pub record TrackSense : Type 0 where
  pub target : List ℕ
  pub frames : List FrameSense
  pub loop_mode : Option LoopSpec

pub record PathSense : Type 0 where
  pub target : List ℕ
  pub svg : List ℕ
  pub duration : ℕ
  pub easing : Option EasingSense
  pub auto_rotate : Option Bool
  pub offset : Option (ℕ × ℕ)
  pub loop_mode : Option LoopSpec

pub record MorphSense : Type 0 where
  pub from : List ℕ
  pub to : List ℕ
  pub samples : ℕ
  pub duration : ℕ
  pub easing : Option EasingSense

pub record DrawSense : Type 0 where
  pub svg : List ℕ
  pub duration : ℕ
  pub easing : Option EasingSense

pub record ColorSense : Type 0 where
  pub target : List ℕ
  pub from : List ℕ
  pub to : List ℕ
  pub duration : ℕ
  pub space : ℕ
  pub easing : Option EasingSense

pub record PresetSense : Type 0 where
  pub name : List ℕ
  pub duration : Option ℕ
  pub easing : Option EasingSense

pub data LeafSense : Type 0 where
  tween : TweenSense → LeafSense
  spring : SpringSense → LeafSense
  keyframes : TrackSense → LeafSense
  path : PathSense → LeafSense
  morph : MorphSense → LeafSense
  draw : DrawSense → LeafSense
  color : ColorSense → LeafSense
  waveform : WaveformSpec → LeafSense
  preset : PresetSense → LeafSense
  label : List ℕ → LeafSense
  at : AtSpec → LeafSense

pub data Sense : Type 0 where
  no_nodes : Sense
  leaf : LeafSense → Sense → Sense
  box : Container → Sense → Sense → Sense

-- ---- the sense of a tree, t being the text that its spans lie in; f gives its times, `stored` for the grammar's tree

abbrev pub easing_sense : List ℕ → EasingSpec → EasingSense
easing_sense t (EasingSpec.named v x) = named v (span_bytes t x)
easing_sense t (EasingSpec.cubic_bezier a b c d) = cubic_bezier a b c d
easing_sense t (EasingSpec.steps n) = steps n
easing_sense t (EasingSpec.wiggle n) = wiggle n
easing_sense t (EasingSpec.rough a n) = rough a n
easing_sense t (EasingSpec.slow_mo a b) = slow_mo a b

abbrev pub option_sense : List ℕ → Option EasingSpec → Option EasingSense
option_sense t none = none
option_sense t (some e) = some (easing_sense t e)

module _ {K : Type 0} (f : K → KeyframeTime) (t : List ℕ) where
  abbrev pub frames_sense : List (KeyframeEntry K) → List FrameSense
  frames_sense [] = []
  frames_sense (x ∷ xs) = record { time = f x.time; value = x.value; easing = option_sense t x.easing } ∷ frames_sense xs

  abbrev pub leaf_sense : Leaf K → LeafSense
  leaf_sense (Leaf.tween d) = tween (record {
    target = span_bytes t d.target;
    from = d.from;
    to = d.to;
    duration = d.duration;
    easing = option_sense t d.easing;
    delay = d.delay;
    time_scale = d.time_scale;
    loop_mode = d.loop_mode;
    snap = d.snap;
    round = d.round;
    reverse = d.reverse;
  })
  leaf_sense (Leaf.spring d) = spring (record {
    target = span_bytes t d.target;
    from = d.from;
    to = d.to;
    preset = d.preset;
    stiffness = d.stiffness;
    damping = d.damping;
    mass = d.mass;
    velocity = d.velocity;
    epsilon = d.epsilon;
    integrator = d.integrator;
    damping_mode = d.damping_mode;
  })
  leaf_sense (Leaf.keyframes d) = keyframes (record {
    target = span_bytes t d.target;
    frames = frames_sense d.frames;
    loop_mode = d.loop_mode;
  })
  leaf_sense (Leaf.path d) = path (record {
    target = span_bytes t d.target;
    svg = span_bytes t d.svg;
    duration = d.duration;
    easing = option_sense t d.easing;
    auto_rotate = d.auto_rotate;
    offset = d.offset;
    loop_mode = d.loop_mode;
  })
  leaf_sense (Leaf.morph d) = morph (record {
    from = span_bytes t d.from;
    to = span_bytes t d.to;
    samples = d.samples;
    duration = d.duration;
    easing = option_sense t d.easing;
  })
  leaf_sense (Leaf.draw d) = draw (record { svg = span_bytes t d.svg; duration = d.duration; easing = option_sense t d.easing })
  leaf_sense (Leaf.color d) = color (record {
    target = span_bytes t d.target;
    from = span_bytes t d.from;
    to = span_bytes t d.to;
    duration = d.duration;
    space = d.space;
    easing = option_sense t d.easing;
  })
  leaf_sense (Leaf.waveform d) = waveform d
  leaf_sense (Leaf.preset d) = preset (record { name = span_bytes t d.name; duration = d.duration; easing = option_sense t d.easing })
  leaf_sense (Leaf.label x) = label (span_bytes t x)
  leaf_sense (Leaf.at d) = at d

  abbrev pub sense : Nodes K → Sense
  sense Nodes.none = no_nodes
  sense (Nodes.leaf p l rest) = leaf (leaf_sense l) (sense rest)
  sense (Nodes.box p b inner rest) = box b (sense inner) (sense rest)
