-- 02 (f): "those omitted whose absence reads the same": what has fields, what the absence of each reads to, and that none of those which
-- are written could be left out.
use Rattle.std.specs.Prelude.{ℕ, zero, suc, Bool, true, false, List, [], ◌∷◌, ◌++◌, ◌≢◌, ◌≡◌}
use Rattle.std.proofs.Math.Option.{Option, none, some}
use Rattle.text.specs.Words.{default}
use Rattle.digits.specs.Fewest.{form}
use Rattle.ast.specs.Tree.{ValueExpr, LoopSpec, DampingMode, WaveformSpec, StaggerPatternSpec, grid, random, Container, stagger}
use Rattle.grammar.specs.Values.{strength_default, points_default, ratio_default, power_default}
use Rattle.grammar.specs.Grammar.{origin_default, seed_default, min_default, max_default, samples_default, space_default}
use Rattle.pieces.specs.Pieces.{Piece}
use Rattle.fresh.specs.Meaning.{EasingSense, rough, slow_mo, FrameSense, TweenSense, SpringSense, TrackSense, PathSense, MorphSense}
use Rattle.fresh.specs.Meaning.{DrawSense, ColorSense, PresetSense}
use Rattle.fresh.specs.Meaning.{LeafSense, tween, spring, keyframes, path, morph, draw, color, waveform, preset}
use Rattle.fresh.specs.Meaning.{Sense, leaf, box}
use Rattle.fresh.specs.Fresh.{Writer, easing, frame, leaf_word, leaf_body, pattern, box_word, box_body, pieces, script, has_text}
use Rattle.fresh.specs.Reads.{ReadsTo, Deep}

-- ---- fields

-- what a tree may have for a field, and what the field's absence reads to; none, where the grammar needs the field
pub record Slot : Type 1 where
  pub Value : Type 0
  pub absent : Option Value

abbrev pub required : Type 0 → Slot
required A = record { Value = A; absent = none }

abbrev pub optional : Type 0 → Slot
optional A = record { Value = Option A; absent = some none }

abbrev pub unless : ℕ → Slot
unless d = record { Value = ℕ; absent = some d }

abbrev pub flag : Slot
flag = record { Value = Bool; absent = some false }

-- a value for each
abbrev pub Values : List Slot → Type 0
Values [] = Unit {0}
Values (s ∷ ss) = s.Value × Values ss

-- the i-th is there, and is not what its absence reads to
abbrev pub Differs : {A : Type 0} → Option A → A → Type 0
Differs none a = ⊥
Differs (some d) a = a ≢ d

abbrev pub Given : (ss : List Slot) → ℕ → Values ss → Type 0
Given [] i v = ⊥
Given (s ∷ ss) zero v = Differs s.absent v.0
Given (s ∷ ss) (suc i) v = Given ss i v.1

-- the values with what the absence of the i-th reads to in its place
abbrev pub without : (ss : List Slot) → ℕ → Values ss → Values ss
without [] i v = v
without (s ∷ ss) zero v = (default s.absent v.0, v.1)
without (s ∷ ss) (suc i) v = (v.0, without ss i v.1)

-- ---- what has such fields, in the order in which they are written

pub record FieldList (X : Type 0) : Type 1 where
  pub Parts : Type 0
  pub make : Parts → X
  pub slots : List Slot
  pub values : Parts → Values slots
  -- the parts with these values
  pub having : Parts → Values slots → Parts

abbrev pub tweens : FieldList LeafSense
tweens = record {
  Parts = TweenSense;
  make = tween;
  slots = required ℕ ∷ optional EasingSense ∷ optional ℕ ∷ optional ℕ ∷ optional LoopSpec ∷ optional ℕ ∷ optional ℕ ∷ flag ∷ [];
  values = λ d. (d.duration, (d.easing, (d.delay, (d.time_scale, (d.loop_mode, (d.snap, (d.round, (d.reverse, tt))))))));
  having = λ d v. record {
    target = d.target;
    from = d.from;
    to = d.to;
    duration = v.0;
    easing = v.1.0;
    delay = v.1.1.0;
    time_scale = v.1.1.1.0;
    loop_mode = v.1.1.1.1.0;
    snap = v.1.1.1.1.1.0;
    round = v.1.1.1.1.1.1.0;
    reverse = v.1.1.1.1.1.1.1.0;
  };
}

abbrev pub springs : FieldList LeafSense
springs = record {
  Parts = SpringSense;
  make = spring;
  slots = optional ℕ ∷ optional ℕ ∷ optional ℕ ∷ optional ℕ ∷ optional ValueExpr ∷ optional ℕ ∷ optional ℕ ∷ optional DampingMode ∷ [];
  values = λ d. (d.preset, (d.stiffness, (d.damping, (d.mass, (d.velocity, (d.epsilon, (d.integrator, (d.damping_mode, tt))))))));
  having = λ d v. record {
    target = d.target;
    from = d.from;
    to = d.to;
    preset = v.0;
    stiffness = v.1.0;
    damping = v.1.1.0;
    mass = v.1.1.1.0;
    velocity = v.1.1.1.1.0;
    epsilon = v.1.1.1.1.1.0;
    integrator = v.1.1.1.1.1.1.0;
    damping_mode = v.1.1.1.1.1.1.1.0;
  };
}

abbrev pub tracks : FieldList LeafSense
tracks = record {
  Parts = TrackSense;
  make = keyframes;
  slots = optional LoopSpec ∷ [];
  values = λ d. (d.loop_mode, tt);
  having = λ d v. record { target = d.target; frames = d.frames; loop_mode = v.0 };
}

abbrev pub paths : FieldList LeafSense
paths = record {
  Parts = PathSense;
  make = path;
  slots = required ℕ ∷ optional EasingSense ∷ optional Bool ∷ optional (ℕ × ℕ) ∷ optional LoopSpec ∷ [];
  values = λ d. (d.duration, (d.easing, (d.auto_rotate, (d.offset, (d.loop_mode, tt)))));
  having = λ d v. record {
    target = d.target;
    svg = d.svg;
    duration = v.0;
    easing = v.1.0;
    auto_rotate = v.1.1.0;
    offset = v.1.1.1.0;
    loop_mode = v.1.1.1.1.0;
  };
}

abbrev pub morphs : FieldList LeafSense
morphs = record {
  Parts = MorphSense;
  make = morph;
  slots = unless samples_default ∷ required ℕ ∷ optional EasingSense ∷ [];
  values = λ d. (d.samples, (d.duration, (d.easing, tt)));
  having = λ d v. record { from = d.from; to = d.to; samples = v.0; duration = v.1.0; easing = v.1.1.0 };
}

abbrev pub draws : FieldList LeafSense
draws = record {
  Parts = DrawSense;
  make = draw;
  slots = required ℕ ∷ optional EasingSense ∷ [];
  values = λ d. (d.duration, (d.easing, tt));
  having = λ d v. record { svg = d.svg; duration = v.0; easing = v.1.0 };
}

abbrev pub colors : FieldList LeafSense
colors = record {
  Parts = ColorSense;
  make = color;
  slots = required ℕ ∷ unless space_default ∷ optional EasingSense ∷ [];
  values = λ d. (d.duration, (d.space, (d.easing, tt)));
  having = λ d v. record {
    target = d.target;
    from = d.from;
    to = d.to;
    duration = v.0;
    space = v.1.0;
    easing = v.1.1.0;
  };
}

abbrev pub waveforms : FieldList LeafSense
waveforms = record {
  Parts = WaveformSpec;
  make = waveform;
  slots = optional ℕ ∷ optional ℕ ∷ optional ℕ ∷ optional ℕ ∷ optional ℕ ∷ optional ℕ ∷ optional ℕ ∷ [];
  values = λ d. (d.frequency, (d.amplitude, (d.phase, (d.duty_cycle, (d.seed, (d.smoothness, (d.duration, tt)))))));
  having = λ d v. record {
    kind = d.kind;
    frequency = v.0;
    amplitude = v.1.0;
    phase = v.1.1.0;
    duty_cycle = v.1.1.1.0;
    seed = v.1.1.1.1.0;
    smoothness = v.1.1.1.1.1.0;
    duration = v.1.1.1.1.1.1.0;
  };
}

abbrev pub presets : FieldList LeafSense
presets = record {
  Parts = PresetSense;
  make = preset;
  slots = optional ℕ ∷ optional EasingSense ∷ [];
  values = λ d. (d.duration, (d.easing, tt));
  having = λ d v. record { name = d.name; duration = v.0; easing = v.1.0 };
}

abbrev pub frames : FieldList FrameSense
frames = record {
  Parts = FrameSense;
  make = λ d. d;
  slots = optional EasingSense ∷ [];
  values = λ d. (d.easing, tt);
  having = λ d v. record { time = d.time; value = d.value; easing = v.0 };
}

-- a stagger's pattern and delay
abbrev pub staggers : FieldList Container
staggers = record {
  Parts = Option StaggerPatternSpec × Option ℕ;
  make = λ d. stagger d.0 d.1;
  slots = optional StaggerPatternSpec ∷ optional ℕ ∷ [];
  values = λ d. (d.0, (d.1, tt));
  having = λ d v. (v.0, v.1.0);
}

-- strength and points; the linear ratio and the power
abbrev pub roughs : FieldList EasingSense
roughs = record {
  Parts = ℕ × ℕ;
  make = λ d. rough d.0 d.1;
  slots = unless strength_default ∷ unless points_default ∷ [];
  values = λ d. (d.0, (d.1, tt));
  having = λ d v. (v.0, v.1.0);
}

abbrev pub slow_mos : FieldList EasingSense
slow_mos = record {
  Parts = ℕ × ℕ;
  make = λ d. slow_mo d.0 d.1;
  slots = unless ratio_default ∷ unless power_default ∷ [];
  values = λ d. (d.0, (d.1, tt));
  having = λ d v. (v.0, v.1.0);
}

-- columns, rows and the origin; the seed, the least and the greatest delay
abbrev pub grids : FieldList StaggerPatternSpec
grids = record {
  Parts = ℕ × ℕ × ℕ;
  make = λ d. grid d.0 d.1 d.2;
  slots = required ℕ ∷ required ℕ ∷ unless origin_default ∷ [];
  values = λ d. (d.0, (d.1, (d.2, tt)));
  having = λ d v. (v.0, v.1.0, v.1.1.0);
}

abbrev pub randoms : FieldList StaggerPatternSpec
randoms = record {
  Parts = ℕ × ℕ × ℕ;
  make = λ d. random d.0 d.1 d.2;
  slots = unless seed_default ∷ unless min_default ∷ unless max_default ∷ [];
  values = λ d. (d.0, (d.1, (d.2, tt)));
  having = λ d v. (v.0, v.1.0, v.1.1.0);
}

-- ---- leaving one out

-- qs are ps with a run of pieces left out
pub record LeftOut (ps qs : List Piece) : Type 0 where
  pub before : List Piece
  pub first : Piece
  pub more : List Piece
  pub behind : List Piece
  pub whole : ps ≡ before ++ (first ∷ more ++ behind)
  pub rest : qs ≡ before ++ behind

-- y is another value than x, and its pieces are those of x with some left out
abbrev pub Shortens : {X : Type 0} → (X → Writer) → X → X → Type 0
Shortens w x y = (y ≢ x) × ((us : List Piece) → LeftOut (w x us) (w y us))

-- every field that is not what its absence reads to is written, and the pieces without it are those of something else, which has what the
-- absence reads to: so the absence does not read the same
abbrev pub Omits : {X : Type 0} → (X → Writer) → FieldList X → Type 0
Omits w f =
    (d : f.Parts) (i : ℕ) → Given f.slots i (f.values d)
    → Shortens w (f.make d) (f.make (f.having d (without f.slots i (f.values d))))

pub record OmitsAll : Type 0 where
  pub of_tweens : Omits leaf_body tweens
  pub of_springs : Omits leaf_body springs
  pub of_tracks : Omits leaf_body tracks
  pub of_paths : Omits leaf_body paths
  pub of_morphs : Omits leaf_body morphs
  pub of_draws : Omits leaf_body draws
  pub of_colors : Omits leaf_body colors
  pub of_waveforms : Omits leaf_body waveforms
  pub of_presets : Omits leaf_body presets
  pub of_frames : Omits frame frames
  pub of_staggers : Omits box_body staggers
  pub of_roughs : Omits easing roughs
  pub of_slow_mos : Omits easing slow_mos
  pub of_grids : Omits pattern grids
  pub of_randoms : Omits pattern randoms

-- ---- in a tree

-- the tree y is x with a leaf or a container, at any depth, in the place of one of the same kind that has more pieces
pub data Shorter : Sense → Sense → Type 0 where
  a_leaf : (l m : LeafSense) (rest : Sense) → leaf_word l ≡ leaf_word m → Shortens leaf_body l m → Shorter (leaf l rest) (leaf m rest)
  a_box : (b c : Container) (inner rest : Sense) → box_word b ≡ box_word c → Shortens box_body b c
      → Shorter (box b inner rest) (box c inner rest)
  behind_leaf : (l : LeafSense) (x y : Sense) → Shorter x y → Shorter (leaf l x) (leaf l y)
  inside : (b : Container) (x y rest : Sense) → Shorter x y → Shorter (box b x rest) (box b y rest)
  behind_box : (b : Container) (inner x y : Sense) → Shorter x y → Shorter (box b inner x) (box b inner y)

-- the script of x with these pieces left out is that of y, another tree, and reads to it
pub record ReadsOtherwise (x y : Sense) : Type 0 where
  pub shortens : Shortens pieces x y
  pub reads : ReadsTo (script form y) y

abbrev pub NoneOmitted : Type 0
NoneOmitted = (x y : Sense) → Shorter x y → Deep 16 x → has_text form x ≡ true → ReadsOtherwise x y
