-- Records, carried one after the other: a track's frames, and what is the same in both forms.
use Prim.Native.Nat.{ℕ, zero, suc, ◌+◌, ◌≤◌, ◌<◌}
use mathlib.Core.List.{List, [], ◌∷◌, ◌++◌, append_assoc}
use mathlib.Core.Option.{Option, none, some}
use mathlib.Core.Path.{◌≡◌, refl, sym, ◌∙◌, ap, subst}
use native.Mathlib.Omega.{arith}
use lib.ListN.{length, drop, get_or, length-append}
use lib.Seq.{get_or-drop}
use Rattle.codec.specs.Codec.{Form, big, opt}
use Rattle.codec.proofs.Laws.{Law, All, big_lawful, opt_l}
use Rattle.ast.specs.Tree as tree
use Rattle.ast.specs.Tree.{KeyframeTime, KeyframeEntry, KeyframeSpec, LoopSpec, keyframes, Nodes, leaf, box, single, holding}
use Rattle.sheet.specs.Sheet.{span_form, loop_form, Node, Forest}
use Rattle.sheet.specs.Records.{record_as, kind_of, nodes_of}
use Rattle.sheet.proofs.Laws.{entry_l_of, node_l_of, OkNodesOf, inner_l_of, loop_l}
use Rattle.sheet.proofs.Flat.{inside}
use Rattle.sheet_decode.specs.Means.{Reads, same}
use Rattle.sheet_records.specs.Means.{record_form}
use Rattle.sheet_records.proofs.PlaceLaws.{AloneAs, all_alone}
use Rattle.planed.specs.Planes.{frame_numbers}
use Rattle.plane.specs.CarryMeans.{Side, wide, narrow, At, EachFine, frames_of, BeforeFrames}
use Rattle.plane.specs.CarryMeans.{own_numbers, BeforeTrack, Coming, track, other, BeforeRecord, EachComing}
use Rattle.plane.proofs.LandLaws.{landed, wide_back, narrow_back}
use Rattle.plane.proofs.AtLaws.{there, within, pass, lands}
use Rattle.plane.proofs.FramesMoveLaws.{at_as}

-- ---- a track: seven bytes, the count of its frames, the frames, its loop mode

abbrev pub front : ℕ → ℕ → KeyframeSpec KeyframeTime → List ℕ
front n p t = 2 ∷ (big 2).write p ++ (span_form n).write t.target

abbrev pub counted : KeyframeSpec KeyframeTime → List ℕ
counted t = (big 2).write (length t.frames)

abbrev pub looped : KeyframeSpec KeyframeTime → List ℕ
looped t = (opt loop_form).write t.loop_mode

parts : (w n p : ℕ) (t : KeyframeSpec KeyframeTime) (A : List ℕ)
    → record_as w n (single p (keyframes t)) ++ A ≡ front n p t ++ (counted t ++ (frames_of w n t.frames ++ (looped t ++ A)))
parts w n p t A = ap (λ (l : List ℕ). front n p t ++ (counted t ++ l)) (append_assoc (frames_of w n t.frames) (looped t) A)

pub loop_long : (x : Option LoopSpec) → 1 ≤ length ((opt loop_form).write x)
loop_long none = omega arith
loop_long (some x) = omega arith

module _ {w n : ℕ} {src out : List ℕ} {rest numbers done to i a : ℕ} (d : BeforeTrack w n src out rest numbers done to i a) where
  abbrev pub Wide : List ℕ
  Wide = frames_of 4 n d.t.frames ++ (looped d.t ++ d.A)

  abbrev pub Narrow : List ℕ
  Narrow = frames_of 0 n d.t.frames ++ (looped d.t ++ d.B)

  pub at_count : At d.o d.xs out rest numbers done to i (a + 7) (counted d.t ++ Wide) (counted d.t ++ Narrow)
      (frame_numbers d.t.frames ++ d.C)
  at_count =
      pass (front n d.start d.t) (a + 7) refl
      (at_as (parts 4 n d.start d.t d.A) (parts 0 n d.start d.t d.B) refl d.at)

  -- the place of the count lies within
  pub count-inside : a + 9 ≤ length src
  count-inside = go d.o at_count
    where
      go : (o : Side w src d.s d.p)
          → At o d.xs out rest numbers done to i (a + 7) (counted d.t ++ Wide) (counted d.t ++ Narrow)
          (frame_numbers d.t.frames ++ d.C)
          → a + 9 ≤ length src
      go (wide e q) h =
          let k = within src (a + 7) (counted d.t ++ Wide) (there (wide e q) h) h.inside in
          omega (arith, k, length-append (counted d.t) Wide)
      go (narrow e q) h =
          let k = within src (a + 7) (counted d.t ++ Narrow) (there (narrow e q) h) h.inside in
          omega (arith, k, length-append (counted d.t) Narrow)

  pub count_is : {v m : ℕ} → Reads (big 2) same src (a + 7) v m → length d.t.frames ≡ v
  count_is {v} {m} x = go d.o at_count
    where
      go : (o : Side w src d.s d.p)
          → At o d.xs out rest numbers done to i (a + 7) (counted d.t ++ Wide) (counted d.t ++ Narrow)
          (frame_numbers d.t.frames ++ d.C)
          → length d.t.frames ≡ v
      go (wide e q) h =
          (landed (big 2) (counted d.t) Wide (omega (arith, count-inside)) (there (wide e q) h)
          (length d.t.frames, d.fine.count Wide) x).2
      go (narrow e q) h =
          (landed (big 2) (counted d.t) Narrow (omega (arith, count-inside)) (there (narrow e q) h)
          (length d.t.frames, d.fine.count Narrow) x).2

  abbrev pub frames-before : {v m : ℕ} → Reads (big 2) same src (a + 7) v m → BeforeFrames w n src out rest numbers done to i (a + 9) v
  frames-before x = record {
    s = d.s;
    p = d.p;
    xs = d.xs;
    o = d.o;
    pair = d.pair;
    A = looped d.t ++ d.A;
    B = looped d.t ++ d.B;
    C = d.C;
    more_wide = omega (arith, length-append (looped d.t) d.A, loop_long d.t.loop_mode);
    more_narrow = omega (arith, length-append (looped d.t) d.B, loop_long d.t.loop_mode);
    frames = record {
      es = d.t.frames;
      long = count_is x;
      fine = d.fine.fine;
      at = pass (counted d.t) (a + 9) (omega arith) at_count;
    };
  }

  -- behind the frames its loop mode is passed
  pub loop_passed : {X : Type 0} {view : Option LoopSpec → X} {v : X} {after : List ℕ} {done' to' i' next m : ℕ}
      → At d.o d.xs after rest numbers done' to' i' next (looped d.t ++ d.A) (looped d.t ++ d.B) d.C
      → Reads (opt loop_form) view src next v m → At d.o d.xs after rest numbers done' to' i' m d.A d.B d.C
  loop_passed h x =
      pass (looped d.t) _ (lands d.o (opt loop_form) (looped d.t) d.A d.B h d.fine.loops x) h

-- ---- a record

-- it begins with its kind
kind-first : (w n : ℕ) (x : Node) → (r : List ℕ) × (record_as w n x ≡ kind_of x ∷ r)
kind-first w n (single p (tree.tween x)) = (_, refl)
kind-first w n (single p (tree.spring x)) = (_, refl)
kind-first w n (single p (tree.keyframes x)) = (_, refl)
kind-first w n (single p (tree.path x)) = (_, refl)
kind-first w n (single p (tree.morph x)) = (_, refl)
kind-first w n (single p (tree.draw x)) = (_, refl)
kind-first w n (single p (tree.color x)) = (_, refl)
kind-first w n (single p (tree.waveform x)) = (_, refl)
kind-first w n (single p (tree.preset x)) = (_, refl)
kind-first w n (single p (tree.label x)) = (_, refl)
kind-first w n (single p (tree.at x)) = (_, refl)
kind-first w n (holding p tree.sequence ns) = (_, refl)
kind-first w n (holding p tree.parallel ns) = (_, refl)
kind-first w n (holding p (tree.group m) ns) = (_, refl)
kind-first w n (holding p (tree.stagger q e) ns) = (_, refl)

pub record_long : (w n : ℕ) (x : Node) → 1 ≤ length (record_as w n x)
record_long w n x = let k = kind-first w n x in let z : length (record_as w n x) ≡ suc (length k.0) = ap length k.1 in omega (arith, z)

byte_there : (s r : List ℕ) (a x : ℕ) → drop a s ≡ x ∷ r → get_or s a 0 ≡ x
byte_there s r a x e = ap (λ (k : ℕ). get_or s k 0) z ∙ sym (get_or-drop a s 0 0) ∙ ap (λ (l : List ℕ). get_or l 0 0) e
  where
    z : a ≡ a + 0
    z = omega arith

module _ {w n : ℕ} {src out : List ℕ} {rest numbers done to i a : ℕ} (d : BeforeRecord w n src out rest numbers done to i a) where
  abbrev Ahead : Side w src d.s d.p → Type 0
  Ahead o =
      At o d.xs out rest numbers done to i a (record_as 4 n d.x ++ d.A) (record_as 0 n d.x ++ d.B) (own_numbers d.x ++ d.C)

  pub inside_record : a < length src
  inside_record = go d.o d.at
    where
      go : (o : Side w src d.s d.p) → Ahead o → a < length src
      go (wide e q) h =
          let l = length-append (record_as 4 n d.x) d.A in
          let k = within src a (record_as 4 n d.x ++ d.A) (there (wide e q) h) h.inside in
          omega (arith, k, l, record_long 4 n d.x)
      go (narrow e q) h =
          let l = length-append (record_as 0 n d.x) d.B in
          let k = within src a (record_as 0 n d.x ++ d.B) (there (narrow e q) h) h.inside in
          omega (arith, k, l, record_long 0 n d.x)

  kind_there : get_or src a 0 ≡ kind_of d.x
  kind_there = go d.o d.at
    where
      go : (o : Side w src d.s d.p) → Ahead o → get_or src a 0 ≡ kind_of d.x
      go (wide e q) h =
          let k = kind-first 4 n d.x in
          byte_there src (k.0 ++ d.A) a (kind_of d.x) (there (wide e q) h ∙ ap (λ (l : List ℕ). l ++ d.A) k.1)
      go (narrow e q) h =
          let k = kind-first 0 n d.x in
          byte_there src (k.0 ++ d.B) a (kind_of d.x) (there (narrow e q) h ∙ ap (λ (l : List ℕ). l ++ d.B) k.1)

  -- a track, with the same behind it
  pub record IsTrack : Type 0 where
    pub before : BeforeTrack w n src out rest numbers done to i a
    pub same_pair : {after : List ℕ} {done' to' i' next : ℕ}
        → At before.o before.xs after rest numbers done' to' i' next before.A before.B before.C
        → At d.o d.xs after rest numbers done' to' i' next d.A d.B d.C

  pub is_track : get_or src a 0 ≡ 2 → IsTrack
  is_track e = go d.coming
    where
      go : Coming n d.x → IsTrack
      go (other u q r f) = absurd (u (sym kind_there ∙ e))
      go (track p t q f) = record {
        before = record {
          s = d.s;
          p = d.p;
          xs = d.xs;
          o = d.o;
          pair = d.pair;
          start = p;
          t = t;
          A = d.A;
          B = d.B;
          C = d.C;
          fine = f;
          at = subst (λ (x : Node). At d.o d.xs out rest numbers done to i a (record_as 4 n x ++ d.A) (record_as 0 n x ++ d.B)
              (own_numbers x ++ d.C))
              q d.at;
        };
        same_pair = λ h. h;
      }

  -- another record is passed
  pub passed_record : (get_or src a 0 ≡ 2 → ⊥) → {X : Type 0} {view : Node → X} {v : X} {m : ℕ} → Reads (record_form n) view src a v m
      → At d.o d.xs out rest numbers done to i m d.A d.B d.C
  passed_record u {m = m} x = go d.coming
    where
      go : Coming n d.x → At d.o d.xs out rest numbers done to i m d.A d.B d.C
      go (track p t q f) = absurd (u (kind_there ∙ ap kind_of q))
      go (other v q r f) =
          let bytes = record_as 4 n d.x in
          let h = at_as {A = bytes ++ d.A} refl (ap (λ (l : List ℕ). l ++ d.B) q) (ap (λ (l : List ℕ). l ++ d.C) r) d.at in
          pass bytes m (lands d.o (record_form n) bytes d.A d.B h f x) h

-- ---- the records of a tree within the limits

module _ (n : ℕ) where
  each_fine : (es : List (KeyframeEntry KeyframeTime)) → All (entry_l_of 4 n).ok es → EachFine n es
  each_fine [] h = tt
  each_fine (e ∷ es) h = (
    record { wide = λ r. wide_back n e r h.0; narrow = λ r. narrow_back n e r h.0 },
    each_fine es h.1,
  )

  module _ {inner : Form Forest} (b : Law inner) where
    coming : (x : Node) → (node_l_of 4 n b).ok x → AloneAs n x → Coming n x
    coming (single p (tree.tween x)) h f = other (λ e. omega arith) refl refl (λ r. let a = f r in (a.0, a.1))
    coming (single p (tree.spring x)) h f = other (λ e. omega arith) refl refl (λ r. let a = f r in (a.0, a.1))
    coming (single p (tree.keyframes x)) h f =
        track p x refl
        (record {
          count = λ r. (big_lawful 2).back (length x.frames) h.1.1.0.0 r;
          fine = each_fine x.frames h.1.1.0.1;
          loops = λ r. (x.loop_mode, (opt_l loop_l).law.back x.loop_mode h.1.1.1 r);
        })
    coming (single p (tree.path x)) h f = other (λ e. omega arith) refl refl (λ r. let a = f r in (a.0, a.1))
    coming (single p (tree.morph x)) h f = other (λ e. omega arith) refl refl (λ r. let a = f r in (a.0, a.1))
    coming (single p (tree.draw x)) h f = other (λ e. omega arith) refl refl (λ r. let a = f r in (a.0, a.1))
    coming (single p (tree.color x)) h f = other (λ e. omega arith) refl refl (λ r. let a = f r in (a.0, a.1))
    coming (single p (tree.waveform x)) h f = other (λ e. omega arith) refl refl (λ r. let a = f r in (a.0, a.1))
    coming (single p (tree.preset x)) h f = other (λ e. omega arith) refl refl (λ r. let a = f r in (a.0, a.1))
    coming (single p (tree.label x)) h f = other (λ e. omega arith) refl refl (λ r. let a = f r in (a.0, a.1))
    coming (single p (tree.at x)) h f = other (λ e. omega arith) refl refl (λ r. let a = f r in (a.0, a.1))
    coming (holding p tree.sequence ns) h f = other (λ e. omega arith) refl refl (λ r. let a = f r in (a.0, a.1))
    coming (holding p tree.parallel ns) h f = other (λ e. omega arith) refl refl (λ r. let a = f r in (a.0, a.1))
    coming (holding p (tree.group m) ns) h f = other (λ e. omega arith) refl refl (λ r. let a = f r in (a.0, a.1))
    coming (holding p (tree.stagger q e) ns) h f = other (λ e. omega arith) refl refl (λ r. let a = f r in (a.0, a.1))

  each_append : (xs ys : List Node) → EachComing n xs → EachComing n ys → EachComing n (xs ++ ys)
  each_append [] ys h g = g
  each_append (x ∷ xs) ys h g = (h.0, each_append xs ys h.1 g)

  all_front : (P : Node → Type 0) (xs ys : List Node) → All P (xs ++ ys) → All P xs × All P ys
  all_front P [] ys h = (tt, h)
  all_front P (x ∷ xs) ys h = let r = all_front P xs ys h.1 in ((h.0, r.0), r.1)

  each_coming : (d : ℕ) (ns : Forest) → OkNodesOf 4 n (inner_l_of 4 n d) ns → All (AloneAs n) (nodes_of ns) → EachComing n (nodes_of ns)
  each_coming d Nodes.none h f = tt
  each_coming d (leaf p l rest) h f = (coming (inner_l_of 4 n d) (single p l) h.0 f.0, each_coming d rest h.1 f.1)
  each_coming zero (box p k ns rest) h f = absurd (inside 4 n (inner_l_of 4 n 0) p k ns h.0)
  each_coming (suc d) (box p k ns rest) h f =
      let g = all_front (AloneAs n) (nodes_of ns) (nodes_of rest) f.1 in (
        coming (inner_l_of 4 n (suc d)) (holding p k ns) h.0 f.0,
        each_append (nodes_of ns) (nodes_of rest) (each_coming d ns (inside 4 n (inner_l_of 4 n (suc d)) p k ns h.0).1 g.0)
            (each_coming (suc d) rest h.1 g.1),
      )

  pub all_coming : (d : ℕ) (ns : Forest) → OkNodesOf 4 n (inner_l_of 4 n d) ns → EachComing n (nodes_of ns)
  all_coming d ns h = each_coming d ns h (all_alone n d ns h)
