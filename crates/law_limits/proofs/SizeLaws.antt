-- How many bytes the forms of the sheet write at most.
use Prim.Native.Nat.{ℕ, suc, ◌+◌, ◌≤◌}
use mathlib.Core.Bool.{Bool}
use mathlib.Core.List.{List, ◌++◌}
use mathlib.Core.Option.{Option, none, some}
use native.Mathlib.Omega.{arith}
use lib.ListN.{length, length-append}
use Rattle.codec.specs.Codec.{Form, ◌▹◌, opt, below, big, each_out}
use Rattle.sheet.proofs.FormLaws.{length-big, length-word}
use Rattle.ast.specs.Tree.{
  Span,
  TweenSpec,
  SpringSpec,
  KeyframeEntry,
  KeyframeSpec,
  PathSpec,
  MorphSpec,
  DrawSpec,
  ColorSpec,
  WaveformSpec,
  PresetCall,
  EasingSpec,
  named,
  cubic_bezier,
  steps,
  wiggle,
  rough,
  slow_mo,
  LoopSpec,
  once,
  times,
  forever,
  ping_pong,
  ping_pong_times,
  DampingMode,
  critically_damped,
  overdamped,
  underdamped,
  KeyframeTime,
  percent,
  seconds,
  StaggerPatternSpec,
  grid,
  random,
  center_out,
  edges_in,
}
use Rattle.sheet.specs.Sheet.{word, flag, span_form, entry_form, tween_form, spring_form, keyframes_form, path_form, morph_form, draw_form}
use Rattle.sheet.specs.Sheet.{color_form, waveform_form, preset_form, value_form, easing_form, loop_form, damping_form, time_form, pattern_form}

-- these are at most k bytes
pub record Most (x : List ℕ) (k : ℕ) : Type 0 where
  pub most : length x ≤ k

-- as many as they are
pub all : (x : List ℕ) → Most x (length x)
all x = record { most = omega arith }

infixr 20 ◌⊕◌
pub ◌⊕◌ : {x y : List ℕ} {j k : ℕ} → Most x j → Most y k → Most (x ++ y) (j + k)
◌⊕◌ {x = x} {y = y} h g = record { most = rw (length-append x y) (omega (arith, h.most, g.most)) }

pub opt-most : {A : Type 0} (c : Form A) (k : ℕ) → ((a : A) → Most (c.write a) k) → (o : Option A) → Most ((opt c).write o) (suc k)
opt-most c k h none = record { most = omega arith }
opt-most c k h (some a) = record { most = omega (arith, (h a).most) }

word-most : (n : ℕ) → Most (word.write n) 4
word-most n = record { most = omega (arith, length-word n) }

pub easing-most : (n : ℕ) (e : EasingSpec) → Most ((easing_form n).write e) 17
easing-most n (named v s) = record { most = omega arith }
easing-most n (cubic_bezier a b c d) = record { most = omega arith }
easing-most n (steps k) = record { most = omega arith }
easing-most n (wiggle k) = record { most = omega arith }
easing-most n (rough a b) = record { most = omega arith }
easing-most n (slow_mo a b) = record { most = omega arith }

loop_most : (m : LoopSpec) → Most (loop_form.write m) 5
loop_most once = record { most = omega arith }
loop_most (times k) = record { most = omega arith }
loop_most forever = record { most = omega arith }
loop_most ping_pong = record { most = omega arith }
loop_most (ping_pong_times k) = record { most = omega arith }

damping-most : (d : DampingMode) → Most (damping_form.write d) 9
damping-most (critically_damped a) = record { most = omega arith }
damping-most (overdamped a b) = record { most = omega arith }
damping-most (underdamped a b) = record { most = omega arith }

time-most : (t : KeyframeTime) → Most (time_form.write t) 5
time-most (percent x) = record { most = omega arith }
time-most (seconds x) = record { most = omega arith }

pub pattern-most : (p : StaggerPatternSpec) → Most (pattern_form.write p) 13
pattern-most (grid a b c) = record { most = omega arith }
pattern-most (random a b c) = record { most = omega arith }
pattern-most center_out = record { most = omega arith }
pattern-most edges_in = record { most = omega arith }

-- ---- structs

module _ (n : ℕ) where
  pub span_most : (s : Span) → Most ((span_form n).write s) 4
  span_most s = record { most = omega arith }

  pub opt-word : (o : Option ℕ) → Most ((opt word).write o) 5
  opt-word o = opt-most word 4 word-most o

  opt-easing : (o : Option EasingSpec) → Most ((opt (easing_form n)).write o) 18
  opt-easing o = opt-most (easing_form n) 17 (easing-most n) o

  opt_loop : (o : Option LoopSpec) → Most ((opt loop_form).write o) 6
  opt_loop o = opt-most loop_form 5 loop_most o

  flag-most : (b : Bool) → Most (flag.write b) 1
  flag-most b = record { most = omega arith }

  pub tween_size : (x : TweenSpec)
      → length ((tween_form n).write x) ≤ 53 + length (value_form.write x.from) + length (value_form.write x.to)
  tween_size x = omega (arith, sum.most)
    where
      sum : Most ((tween_form n).write x) (4 + (length (value_form.write x.from) + (length (value_form.write x.to) + 49)))
      sum =
          span_most x.target ⊕ all (value_form.write x.from)
          ⊕ all (value_form.write x.to) ⊕ word-most x.duration
          ⊕ opt-easing x.easing ⊕ opt-word x.delay ⊕ opt-word x.time_scale
          ⊕ opt_loop x.loop_mode ⊕ opt-word x.snap ⊕ opt-word x.round
          ⊕ flag-most x.reverse

  -- the same, the delay counted as it is
  pub tween_rest : (x : TweenSpec)
      → length ((tween_form n).write x)
      ≤ 48 + length (value_form.write x.from) + length (value_form.write x.to) + length ((opt word).write x.delay)
  tween_rest x = omega (arith, sum.most)
    where
      sum : Most ((tween_form n).write x)
          (4
          + (length (value_form.write x.from)
          + (length (value_form.write x.to) + (4 + (18 + (length ((opt word).write x.delay) + 22))))))
      sum =
          span_most x.target ⊕ all (value_form.write x.from)
          ⊕ all (value_form.write x.to) ⊕ word-most x.duration
          ⊕ opt-easing x.easing ⊕ all ((opt word).write x.delay) ⊕ opt-word x.time_scale
          ⊕ opt_loop x.loop_mode ⊕ opt-word x.snap ⊕ opt-word x.round
          ⊕ flag-most x.reverse

  below-most : (k b : ℕ) → Most ((below k).write b) 1
  below-most k b = record { most = omega arith }

  pub spring_size : (x : SpringSpec)
      → length ((spring_form n).write x)
      ≤ 38 + length (value_form.write x.from) + length (value_form.write x.to) + length ((opt value_form).write x.velocity)
  spring_size x = omega (arith, sum.most)
    where
      sum : Most ((spring_form n).write x)
          (4
          + (length (value_form.write x.from)
          + (length (value_form.write x.to) + (2 + (5 + (5 + (5 + (length ((opt value_form).write x.velocity) + 17))))))))
      sum =
          span_most x.target ⊕ all (value_form.write x.from)
          ⊕ all (value_form.write x.to) ⊕ opt-most (below 5) 1 (below-most 5) x.preset
          ⊕ opt-word x.stiffness ⊕ opt-word x.damping ⊕ opt-word x.mass
          ⊕ all ((opt value_form).write x.velocity) ⊕ opt-word x.epsilon
          ⊕ opt-most (below 2) 1 (below-most 2) x.integrator
          ⊕ opt-most damping_form 9 damping-most x.damping_mode

  pub path_size : (x : PathSpec) → length ((path_form n).write x) ≤ 47
  path_size x = sum.most
    where
      sum : Most ((path_form n).write x) 47
      sum =
          span_most x.target ⊕ span_most x.svg ⊕ word-most x.duration
          ⊕ opt-easing x.easing ⊕ opt-most flag 1 flag-most x.auto_rotate
          ⊕ opt-most (word ▹ word) 8 (λ p. word-most p.0 ⊕ word-most p.1) x.offset ⊕ opt_loop x.loop_mode

  pub morph_size : (x : MorphSpec) → length ((morph_form n).write x) ≤ 34
  morph_size x = sum.most
    where
      sum : Most ((morph_form n).write x) 34
      sum = span_most x.from ⊕ span_most x.to ⊕ word-most x.samples ⊕ word-most x.duration ⊕ opt-easing x.easing

  pub draw_size : (x : DrawSpec) → length ((draw_form n).write x) ≤ 26
  draw_size x = sum.most
    where
      sum : Most ((draw_form n).write x) 26
      sum = span_most x.svg ⊕ word-most x.duration ⊕ opt-easing x.easing

  pub color_size : (x : ColorSpec) → length ((color_form n).write x) ≤ 35
  color_size x = sum.most
    where
      sum : Most ((color_form n).write x) 35
      sum =
          span_most x.target ⊕ span_most x.from ⊕ span_most x.to
          ⊕ word-most x.duration ⊕ below-most 3 x.space
          ⊕ opt-easing x.easing

  pub waveform_size : (x : WaveformSpec) → length (waveform_form.write x) ≤ 36
  waveform_size x = sum.most
    where
      sum : Most (waveform_form.write x) 36
      sum =
          below-most 5 x.kind ⊕ opt-word x.frequency ⊕ opt-word x.amplitude
          ⊕ opt-word x.phase ⊕ opt-word x.duty_cycle ⊕ opt-word x.seed
          ⊕ opt-word x.smoothness
          ⊕ opt-word x.duration

  pub preset_size : (x : PresetCall) → length ((preset_form n).write x) ≤ 27
  preset_size x = sum.most
    where
      sum : Most ((preset_form n).write x) 27
      sum = span_most x.name ⊕ opt-word x.duration ⊕ opt-easing x.easing

  pub entry-size : (x : KeyframeEntry KeyframeTime)
      → length ((entry_form n).write x) ≤ 5 + length (value_form.write x.value) + length ((opt (easing_form n)).write x.easing)
  entry-size x = omega (arith, sum.most)
    where
      sum : Most ((entry_form n).write x) (5 + (length (value_form.write x.value) + length ((opt (easing_form n)).write x.easing)))
      sum = time-most x.time ⊕ all (value_form.write x.value) ⊕ all ((opt (easing_form n)).write x.easing)

  pub keyframes_size : (x : KeyframeSpec KeyframeTime)
      → length ((keyframes_form n).write x) ≤ 12 + length (each_out (entry_form n).write x.frames)
  keyframes_size x = omega (arith, sum.most)
    where
      count : Most ((big 2).write (length x.frames)) 2
      count = record { most = omega (arith, length-big 2 (length x.frames)) }

      sum : Most ((keyframes_form n).write x) (4 + ((2 + length (each_out (entry_form n).write x.frames)) + 6))
      sum = span_most x.target ⊕ (count ⊕ all (each_out (entry_form n).write x.frames)) ⊕ opt_loop x.loop_mode
