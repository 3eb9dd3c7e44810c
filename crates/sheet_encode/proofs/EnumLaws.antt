-- The bytes of each case of an enum, by computing, and how long they are at most.
use Prim.Native.Nat.{ℕ, suc, ◌≤◌}
use mathlib.Core.Bool.{Bool}
use mathlib.Core.List.{[], ◌∷◌, ◌++◌}
use mathlib.Core.Option.{Option, none, some}
use mathlib.Core.Path.{◌≡◌, refl}
use native.Mathlib.Omega.{arith}
use lib.Dec.{lit≤}
use lib.ListN.{length}
use Rattle.codec.specs.Codec.{Form, opt}
use Rattle.ast.specs.Tree
use Rattle.ast.specs.Tree.{Span, EasingSpec, LoopSpec, DampingMode, KeyframeTime, StaggerPatternSpec}
use Rattle.sheet.specs.Sheet.{word, flag, span_form, value_form, easing_form, loop_form, damping_form, time_form, pattern_form}

-- ---- the bytes of each case

pub easing-bytes : (n a b c d : ℕ) (v : Bool) (s : Span)
    → ((easing_form n).write (Tree.named v s) ≡ 0 ∷ (flag.write v ++ (span_form n).write s))
    × ((easing_form n).write (Tree.cubic_bezier a b c d) ≡ 1 ∷ (word.write a ++ (word.write b ++ (word.write c ++ word.write d))))
    × ((easing_form n).write (Tree.steps a) ≡ 2 ∷ word.write a)
    × ((easing_form n).write (Tree.wiggle a) ≡ 3 ∷ word.write a)
    × ((easing_form n).write (Tree.rough a b) ≡ 4 ∷ (word.write a ++ word.write b))
    × ((easing_form n).write (Tree.slow_mo a b) ≡ 5 ∷ (word.write a ++ word.write b))
easing-bytes n a b c d v s = (refl, refl, refl, refl, refl, refl)

pub loop_bytes : (k : ℕ)
    → (loop_form.write Tree.once ≡ 0 ∷ [])
    × (loop_form.write (Tree.times k) ≡ 1 ∷ word.write k)
    × (loop_form.write Tree.forever ≡ 2 ∷ [])
    × (loop_form.write Tree.ping_pong ≡ 3 ∷ [])
    × (loop_form.write (Tree.ping_pong_times k) ≡ 4 ∷ word.write k)
loop_bytes k = (refl, refl, refl, refl, refl)

pub damping-bytes : (s r : ℕ)
    → (damping_form.write (Tree.critically_damped s) ≡ 0 ∷ word.write s)
    × (damping_form.write (Tree.overdamped s r) ≡ 1 ∷ (word.write s ++ word.write r))
    × (damping_form.write (Tree.underdamped s r) ≡ 2 ∷ (word.write s ++ word.write r))
damping-bytes s r = (refl, refl, refl)

pub time-bytes : (x : ℕ)
    → (time_form.write (Tree.percent x) ≡ 0 ∷ word.write x)
    × (time_form.write (Tree.seconds x) ≡ 1 ∷ word.write x)
time-bytes x = (refl, refl)

pub pattern-bytes : (a b c : ℕ)
    → (pattern_form.write (Tree.grid a b c) ≡ 0 ∷ (word.write a ++ (word.write b ++ c ∷ [])))
    × (pattern_form.write (Tree.random a b c) ≡ 1 ∷ (word.write a ++ (word.write b ++ word.write c)))
    × (pattern_form.write Tree.center_out ≡ 2 ∷ [])
    × (pattern_form.write Tree.edges_in ≡ 3 ∷ [])
pattern-bytes a b c = (refl, refl, refl, refl)

pub scalar_bytes : (x : ℕ) → value_form.write (Tree.scalar x) ≡ 0 ∷ word.write x
scalar_bytes x = refl

-- ---- how long they are at most

pub easing-most : (n : ℕ) (e : EasingSpec) → length ((easing_form n).write e) ≤ 17
easing-most n (Tree.named v s) = lit≤ tt
easing-most n (Tree.cubic_bezier a b c d) = lit≤ tt
easing-most n (Tree.steps k) = lit≤ tt
easing-most n (Tree.wiggle k) = lit≤ tt
easing-most n (Tree.rough s k) = lit≤ tt
easing-most n (Tree.slow_mo r p) = lit≤ tt

pub loop_most : (m : LoopSpec) → length (loop_form.write m) ≤ 5
loop_most Tree.once = lit≤ tt
loop_most (Tree.times k) = lit≤ tt
loop_most Tree.forever = lit≤ tt
loop_most Tree.ping_pong = lit≤ tt
loop_most (Tree.ping_pong_times k) = lit≤ tt

pub damping-most : (d : DampingMode) → length (damping_form.write d) ≤ 9
damping-most (Tree.critically_damped s) = lit≤ tt
damping-most (Tree.overdamped s r) = lit≤ tt
damping-most (Tree.underdamped s r) = lit≤ tt

pub length-time : (t : KeyframeTime) → length (time_form.write t) ≡ 5
length-time (Tree.percent x) = refl
length-time (Tree.seconds x) = refl

pub pattern-most : (p : StaggerPatternSpec) → length (pattern_form.write p) ≤ 13
pattern-most (Tree.grid c r o) = lit≤ tt
pattern-most (Tree.random s a b) = lit≤ tt
pattern-most Tree.center_out = lit≤ tt
pattern-most Tree.edges_in = lit≤ tt

-- what may be absent has one byte more
pub opt-most : {A : Type 0} (c : Form A) (k : ℕ) → ((a : A) → length (c.write a) ≤ k) → (o : Option A) → length ((opt c).write o) ≤ suc k
opt-most c k h none = omega arith
opt-most c k h (some a) = let g = h a in omega arith
