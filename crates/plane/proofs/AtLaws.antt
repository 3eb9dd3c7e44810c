-- A walk that carries: what stands where it stands, bytes that are passed, a frame that is carried.
use Prim.Native.Nat.{ℕ, suc, ◌+◌, ◌*◌, ◌≤◌, ◌<◌}
use mathlib.Core.Bool.{Bool, true}
use mathlib.Core.List.{List, ◌++◌}
use mathlib.Core.Option.{Option, none, some}
use mathlib.Core.Path.{◌≡◌, refl, sym, ◌∙◌, ap, subst}
use native.Mathlib.Omega.{arith}
use lib.ListN.{length, drop, length-append, length-drop}
use Rattle.codec.specs.Codec.{Form, big, opt, each_out}
use Rattle.ast.specs.Tree.{ValueExpr, scalar, array, EasingSpec, KeyframeTime, percent, seconds, KeyframeEntry}
use Rattle.sheet.specs.Sheet.{word, easing_form, time_form_of, value_form_of, entry_form_of}
use Rattle.planed.specs.Planes.{value_numbers, entry_numbers}
use Rattle.sheet_decode.specs.Means.{Reads}
use Rattle.sheet_shape.specs.Means.{is_scalar, scalar_frame}
use Rattle.plane.specs.CarryMeans.{Side, wide, narrow, tail_of, FrameMoved, FrameMoves, Pair, At, Back, FrameFine}
use Rattle.plane.proofs.GapLaws.{passes}
use Rattle.plane.proofs.LandLaws.{landed, wide_there, narrow_there}

-- ---- what stands there

-- what is to come in what is read
abbrev pub Here : {w : ℕ} {src s p : List ℕ} → Side w src s p → List ℕ → List ℕ → List ℕ
Here (wide e q) A B = A
Here (narrow e q) A B = B

pub there : {w : ℕ} {src s p xs out : List ℕ} (o : Side w src s p) {rest numbers done to i a : ℕ} {A B C : List ℕ}
    → At o xs out rest numbers done to i a A B C → drop a src ≡ Here o A B
there {s = s} (wide e q) {i = i} {a = a} h =
    let z = ap (λ (v : ℕ). h.b + v * i) e in
    let k : a ≡ h.b + 4 * i + length h.g = omega (arith, h.place, h.done_is, z) in
    ap (drop a) q ∙ ap (λ (v : ℕ). drop v s) k ∙ wide_there h.gap
there {p = p} (narrow e q) {i = i} {a = a} h =
    let z = ap (λ (v : ℕ). h.b + v * i) e in
    let k : a ≡ h.b + length h.g = omega (arith, h.place, h.done_is, z) in
    ap (drop a) q ∙ ap (λ (v : ℕ). drop v p) k ∙ narrow_there h.gap

-- a place and what stands behind it
pub within : (s : List ℕ) (a : ℕ) (r : List ℕ) → drop a s ≡ r → a ≤ length s → a + length r ≡ length s
within s a r e h = let z : length (drop a s) ≡ length r = ap length e in omega (arith, length-drop a s, z, h)

-- one behind which something stands lies within
inside_of : (s : List ℕ) (a : ℕ) (r : List ℕ) → drop a s ≡ r → 1 ≤ length r → a + length r ≡ length s
inside_of s a r e h = let z : length (drop a s) ≡ length r = ap length e in omega (arith, length-drop a s, z, h)

here-long : {w : ℕ} {src s p : List ℕ} (o : Side w src s p) (r A B : List ℕ) → length r ≤ length (Here o (r ++ A) (r ++ B))
here-long (wide e q) r A B = omega (arith, length-append r A)
here-long (narrow e q) r A B = omega (arith, length-append r B)

-- bytes that are the same in both forms are passed
pub pass : {w : ℕ} {src s p xs out : List ℕ} {o : Side w src s p} {rest numbers done to i a : ℕ} {A B C : List ℕ} (r : List ℕ) (next : ℕ)
    → next ≡ a + length r → At o xs out rest numbers done to i a (r ++ A) (r ++ B) C → At o xs out rest numbers done to i next A B C
pass {src = src} {o = o} {a = a} {A = A} {B = B} r next e h = record {
  b = h.b;
  g = h.g ++ r;
  done_is = h.done_is;
  to_is = h.to_is;
  place = omega (arith, e, h.place, length-append h.g r);
  inside = omega (arith, e, within src a (Here o (r ++ A) (r ++ B)) (there o h) h.inside, here-long o r A B);
  few = h.few;
  gap = passes r h.gap;
  so = h.so;
}

-- and a reader of them lands behind them
pub lands : {T X : Type 0} {w : ℕ} {src s p xs out : List ℕ} (o : Side w src s p) {rest numbers done to i a : ℕ} (c : Form T)
    {view : T → X} {v : X}
    {m : ℕ} (r A B : List ℕ) {C : List ℕ}
    → At o xs out rest numbers done to i a (r ++ A) (r ++ B) C → Back c r → Reads c view src a v m → m ≡ a + length r
lands (wide e q) c r A B h f x =
    (landed c r A h.inside (there (wide e q) h) (f A) x).0
lands (narrow e q) c r A B h f x =
    (landed c r B h.inside (there (narrow e q) h) (f B) x).0

-- ---- how long a frame is

easing-long : (n : ℕ) (x : Option EasingSpec) → 1 ≤ length ((opt (easing_form n)).write x)
easing-long n none = omega arith
easing-long n (some x) = omega arith

time_wide : (t : KeyframeTime) → length ((time_form_of 4).write t) ≡ 5
time_wide (percent x) = refl
time_wide (seconds x) = refl

time_narrow : (t : KeyframeTime) → length ((time_form_of 0).write t) ≡ 1
time_narrow (percent x) = refl
time_narrow (seconds x) = refl

value_wide : (v : ValueExpr) → 3 ≤ length ((value_form_of 4).write v)
value_wide (scalar x) = let e : length ((value_form_of 4).write (scalar x)) ≡ 5 = refl in omega (arith, e)
value_wide (array xs) =
    let e : length ((value_form_of 4).write (array xs)) ≡ suc (length ((big 2).write (length xs) ++ each_out word.write xs)) = refl in
    omega (arith, e, length-append ((big 2).write (length xs)) (each_out word.write xs))

value_narrow : (v : ValueExpr) → 1 ≤ length ((value_form_of 0).write v)
value_narrow (scalar x) = omega arith
value_narrow (array xs) = omega arith

pub frame_wide : (n : ℕ) (e : KeyframeEntry KeyframeTime) → 9 ≤ length ((entry_form_of 4 n).write e)
frame_wide n e =
    let E = (opt (easing_form n)).write e.easing in
    let U = (value_form_of 4).write e.value in
    omega (
      arith,
      length-append ((time_form_of 4).write e.time) (U ++ E),
      length-append U E,
      time_wide e.time,
      value_wide e.value,
      easing-long n e.easing,
    )

pub frame_narrow : (n : ℕ) (e : KeyframeEntry KeyframeTime) → 3 ≤ length ((entry_form_of 0 n).write e)
frame_narrow n e =
    let E = (opt (easing_form n)).write e.easing in
    let U = (value_form_of 0).write e.value in
    omega (
      arith,
      length-append ((time_form_of 0).write e.time) (U ++ E),
      length-append U E,
      time_narrow e.time,
      value_narrow e.value,
      easing-long n e.easing,
    )

two_numbers : (v : ValueExpr) → is_scalar v ≡ true → length (value_numbers v) ≡ 1
two_numbers (scalar x) h = refl
two_numbers (array xs) h = let z : ◌≡◌ {A = ℕ} 0 1 = cc in absurd (omega arith)

-- ---- a frame

-- what carrying a frame asks for
pub record FrameNeeds (w : ℕ) (src : List ℕ) (room numbers done to i a : ℕ) (b : Bool) : Type 0 where
  pub before : done ≤ a
  pub inside : a + 2 + 2 * w ≤ length src
  pub fits : to + a + 10 ≤ room + done + 2 * w
  pub one : i < numbers
  pub two : b ≡ true → i + 1 < numbers

module _ {w : ℕ} {src s p xs out : List ℕ} (o : Side w src s p) (n : ℕ) {rest numbers done to i a : ℕ} (e : KeyframeEntry KeyframeTime)
    (A B C : List ℕ)
    (h : At o xs out rest numbers done to i a ((entry_form_of 4 n).write e ++ A) ((entry_form_of 0 n).write e ++ B) (entry_numbers e ++ C)) where
  abbrev Wide : List ℕ
  Wide = (entry_form_of 4 n).write e

  abbrev Narrow : List ℕ
  Narrow = (entry_form_of 0 n).write e

  -- where the gap ends in both
  ends_wide : h.b + 4 * i + length h.g + length Wide + length A ≡ length s
  ends_wide =
      let k = inside_of s (h.b + 4 * i + length h.g) (Wide ++ A) (wide_there h.gap)
      (omega (arith, length-append Wide A, frame_wide n e)) in
      omega (arith, k, length-append Wide A)

  ends_narrow : h.b + length h.g + length Narrow + length B ≡ length p
  ends_narrow =
      let k = inside_of p (h.b + length h.g) (Narrow ++ B) (narrow_there h.gap)
      (omega (arith, length-append Narrow B, frame_narrow n e)) in
      omega (arith, k, length-append Narrow B)

  left : i + (1 + length (value_numbers e.value) + length C) ≡ length xs
  left =
      let k = inside_of xs i (entry_numbers e ++ C) h.gap.left (omega arith) in
      omega (arith, k, length-append (value_numbers e.value) C)

  pub frame_needs : {room : ℕ} → Pair o xs rest numbers room → 1 ≤ length A → 1 ≤ length B
      → FrameNeeds w src room numbers done to i a (scalar_frame e)
  frame_needs {room} q x y = go o refl q
    where
      u : 9 ≤ length Wide
      u = frame_wide n e

      v : 3 ≤ length Narrow
      v = frame_narrow n e

      go : (c : Side w src s p) → c ≡ o → Pair c xs rest numbers room → FrameNeeds w src room numbers done to i a (scalar_frame e)
      go (wide d r) z q =
          let m = ap (λ (t : ℕ). t * i) d in
          let l : length src ≡ length s = ap length r in
          record {
            before = omega (arith, h.place);
            inside = omega (arith, h.place, h.done_is, m, d, l, ends_wide, u, x);
            fits = omega (arith, h.place, h.done_is, h.to_is, m, d, q.goal_long, ends_narrow, v, y);
            one = omega (arith, left, q.count);
            two = λ t. omega (arith, left, q.count, two_numbers e.value t);
          }
      go (narrow d r) z q =
          let m = ap (λ (t : ℕ). t * i) d in
          let l : length src ≡ length p = ap length r in
          record {
            before = omega (arith, h.place);
            inside = omega (arith, h.place, h.done_is, m, d, l, ends_narrow, v, y);
            fits = omega (arith, h.place, h.done_is, h.to_is, m, d, q.goal_long, ends_wide, u, x);
            one = omega (arith, left, q.count);
            two = λ t. omega (arith, left, q.count, two_numbers e.value t);
          }

  -- a reader lands behind the frame
  pub frame_lands : FrameFine n e → {v : Bool} {m : ℕ} → Reads (entry_form_of w n) scalar_frame src a v m
      → (m + length (Here o A B) ≡ length src) × (scalar_frame e ≡ v)
  frame_lands f {v} {m} x = go o h x
    where
      go : (c : Side w src s p) → At c xs out rest numbers done to i a (Wide ++ A) (Narrow ++ B) (entry_numbers e ++ C)
          → Reads (entry_form_of w n) scalar_frame src a v m → (m + length (Here c A B) ≡ length src) × (scalar_frame e ≡ v)
      go (wide d r) h x =
          let t = there (wide d r) h in
          let k = within src a (Wide ++ A) t h.inside in
          let y = f.wide A in
          let z = landed (entry_form_of 4 n) Wide A h.inside t (y.0, y.1)
          (subst (λ (t : ℕ). Reads (entry_form_of t n) scalar_frame src a v m) d x) in
          (omega (arith, k, length-append Wide A, z.0), sym y.2 ∙ z.2)
      go (narrow d r) h x =
          let t = there (narrow d r) h in
          let k = within src a (Narrow ++ B) t h.inside in
          let y = f.narrow B in
          let z = landed (entry_form_of 0 n) Narrow B h.inside t (y.0, y.1)
          (subst (λ (t : ℕ). Reads (entry_form_of t n) scalar_frame src a v m) d x) in
          (omega (arith, k, length-append Narrow B, z.0), sym y.2 ∙ z.2)

  -- behind it the walk stands on
  pub frame_moved : {room : ℕ} → Pair o xs rest numbers room → 1 ≤ length A → 1 ≤ length B → FrameFine n e
      → {v : Bool} {m : ℕ} → Reads (entry_form_of w n) scalar_frame src a v m
      → {after : List ℕ} {done' to' i' : ℕ} → FrameMoves w n src out after rest numbers done to i a v done' to' i'
      → At o xs after rest numbers done' to' i' m A B C
  frame_moved q x y f {v} {m} r {after} {done'} {to'} {i'} moves =
      let z = frame_lands f r in
      let t = moves s p xs o q.planes h.b h.g e A B C h.done_is h.to_is h.place z.1 h.gap h.so in
      record {
        b = t.b;
        g = tail_of n e;
        done_is = t.done_is;
        to_is = t.to_is;
        place = go o t z.0;
        inside = omega (arith, z.0);
        few = t.few;
        gap = passes (tail_of n e) t.gap;
        so = t.so;
      }
    where
      go : (c : Side w src s p) → FrameMoved c n xs after rest numbers e A B C done' to' i' → m + length (Here c A B) ≡ length src
          → m ≡ done' + length (tail_of n e)
      go (wide d u) t z =
          let l : length src ≡ length s = ap length u in
          let m = ap (λ (v : ℕ). v * i') d in
          let k = inside_of s (t.b + 4 * i') (tail_of n e ++ A) t.gap.wide (omega (arith, length-append (tail_of n e) A, x)) in
          omega (arith, z, l, m, k, t.done_is, length-append (tail_of n e) A)
      go (narrow d u) t z =
          let l : length src ≡ length p = ap length u in
          let m = ap (λ (v : ℕ). v * i') d in
          let k = inside_of p t.b (tail_of n e ++ B) t.gap.narrow (omega (arith, length-append (tail_of n e) B, y)) in
          omega (arith, z, l, m, k, t.done_is, length-append (tail_of n e) B)

-- ---- the two sides

pub side_small : {w : ℕ} {src s p : List ℕ} → Side w src s p → w ≤ 4
side_small (wide e q) = omega (arith, e)
side_small (narrow e q) = omega (arith, e)

pub side_other : {w : ℕ} {src s p : List ℕ} → Side w src s p → (w ≡ 4 → ⊥) → w ≡ 0
side_other (wide e q) n = absurd (n e)
side_other (narrow e q) n = e
