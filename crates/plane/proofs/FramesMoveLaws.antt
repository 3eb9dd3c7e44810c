-- Frames and tracks, carried one after the other.
use Prim.Native.Nat.{ℕ, suc, ◌+◌, ◌-◌, ◌≤◌, ◌<◌}
use mathlib.Core.Bool.{Bool}
use mathlib.Core.List.{List, [], ◌∷◌, ◌++◌, append_assoc}
use mathlib.Core.Path.{◌≡◌, ◌∙◌, ap}
use native.Mathlib.Omega.{arith}
use lib.ListN.{length, length-append}
use Rattle.ast.specs.Tree.{KeyframeTime, KeyframeEntry}
use Rattle.sheet.specs.Sheet.{entry_form_of}
use Rattle.planed.specs.Planes.{entry_numbers, frame_numbers}
use Rattle.sheet_decode.specs.Means.{Reads}
use Rattle.sheet_shape.specs.Means.{scalar_frame}
use Rattle.plane.specs.CarryMeans.{Side, FrameMoves, Pair, At, FrameFine, EachFine, frames_of, Frames, BeforeFrames}
use Rattle.plane.proofs.AtLaws.{FrameNeeds, frame_needs, frame_lands, frame_moved}

-- what is to come, put in other words
pub at_as : {w : ℕ} {src s p xs out : List ℕ} {o : Side w src s p} {rest numbers done to i a : ℕ} {A B C A' B' C' : List ℕ}
    → A ≡ A' → B ≡ B' → C ≡ C' → At o xs out rest numbers done to i a A B C → At o xs out rest numbers done to i a A' B' C'
at_as x y z h = record {
  b = h.b;
  g = h.g;
  done_is = h.done_is;
  to_is = h.to_is;
  place = h.place;
  inside = h.inside;
  few = h.few;
  gap = record {
    wide = h.gap.wide ∙ ap (λ (l : List ℕ). h.g ++ l) x;
    narrow = h.gap.narrow ∙ ap (λ (l : List ℕ). h.g ++ l) y;
    left = h.gap.left ∙ z;
  };
  so = h.so;
}

-- the first of the frames to come, and the others
pub record First {w : ℕ} {src s p : List ℕ} (o : Side w src s p) (n : ℕ) (xs out : List ℕ) (rest numbers done to i a count : ℕ)
    (A B C : List ℕ) : Type 0 where
  pub e : KeyframeEntry KeyframeTime
  pub es : List (KeyframeEntry KeyframeTime)
  pub long : suc (length es) ≡ count
  pub fine : FrameFine n e
  pub others : EachFine n es
  pub at : At o xs out rest numbers done to i a ((entry_form_of 4 n).write e ++ (frames_of 4 n es ++ A))
      ((entry_form_of 0 n).write e ++ (frames_of 0 n es ++ B)) (entry_numbers e ++ (frame_numbers es ++ C))

more : (x y : List ℕ) → 1 ≤ length y → 1 ≤ length (x ++ y)
more x y h = omega (arith, length-append x y)

module _ {w : ℕ} {src s p : List ℕ} {o : Side w src s p} {n : ℕ} {xs out : List ℕ} {rest numbers done to i a count : ℕ}
    {A B C : List ℕ} where
  pub first : 0 < count → Frames o n xs out rest numbers done to i a count A B C → First o n xs out rest numbers done to i a count A B C
  unfolding frame_numbers
  first c f = go f.es f.long f.fine f.at
    where
      go : (es : List (KeyframeEntry KeyframeTime)) → length es ≡ count → EachFine n es
          → At o xs out rest numbers done to i a (frames_of 4 n es ++ A) (frames_of 0 n es ++ B) (frame_numbers es ++ C)
          → First o n xs out rest numbers done to i a count A B C
      go [] l g h = absurd (omega arith)
      go (e ∷ es) l g h = record {
        e = e;
        es = es;
        long = l;
        fine = g.0;
        others = g.1;
        at = at_as (append_assoc ((entry_form_of 4 n).write e) (frames_of 4 n es) A)
            (append_assoc ((entry_form_of 0 n).write e) (frames_of 0 n es) B) (append_assoc (entry_numbers e) (frame_numbers es) C) h;
      }

  -- none is passed
  pub none_yet : Frames o n xs out rest numbers done to i a count A B C → Frames o n xs out rest numbers done to i a (count - 0) A B C
  none_yet f = record { es = f.es; long = omega (arith, f.long); fine = f.fine; at = f.at }

  -- no frame is left
  pub last : count ≡ 0 → Frames o n xs out rest numbers done to i a count A B C → At o xs out rest numbers done to i a A B C
  unfolding frame_numbers
  last c f = go f.es f.long f.at
    where
      go : (es : List (KeyframeEntry KeyframeTime)) → length es ≡ count
          → At o xs out rest numbers done to i a (frames_of 4 n es ++ A) (frames_of 0 n es ++ B) (frame_numbers es ++ C)
          → At o xs out rest numbers done to i a A B C
      go [] l h = h
      go (e ∷ es) l h = absurd (omega arith)

  module _ {room : ℕ} (q : Pair o xs rest numbers room) (x : 1 ≤ length A) (y : 1 ≤ length B)
      (f : First o n xs out rest numbers done to i a count A B C) where
    -- what carrying it asks for, whatever a reader told of its value
    pub first_needs : FrameNeeds w src room numbers done to i a (scalar_frame f.e)
    first_needs =
        frame_needs o n f.e _ _ _ f.at q (more (frames_of 4 n f.es) A x) (more (frames_of 0 n f.es) B y)

    pub first_moved : {v : Bool} {m : ℕ} → Reads (entry_form_of w n) scalar_frame src a v m
        → {after : List ℕ} {done' to' i' k : ℕ} → FrameMoves w n src out after rest numbers done to i a v done' to' i'
        → suc k ≡ count → Frames o n xs after rest numbers done' to' i' m k A B C
    first_moved r moves l = record {
      es = f.es;
      long = omega (arith, f.long, l);
      fine = f.others;
      at = frame_moved o n f.e _ _ _ f.at q (more (frames_of 4 n f.es) A x) (more (frames_of 0 n f.es) B y) f.fine r moves;
    }

-- in a loop over the frames: what carrying the next one asks for, and where the walk stands behind it
module _ {w n : ℕ} {src lent : List ℕ} {rest numbers done₀ to₀ i₀ start count : ℕ}
    (d : BeforeFrames w n src lent rest numbers done₀ to₀ i₀ start count) {out : List ℕ} {done to i a k : ℕ} (l : k < count)
    (f : Frames d.o n d.xs out rest numbers done to i a (count - k) d.A d.B d.C)
    {v : Bool} {m : ℕ} (r : Reads (entry_form_of w n) scalar_frame src a v m) where
  now : First d.o n d.xs out rest numbers done to i a (count - k) d.A d.B d.C
  now = first (omega arith) f

  pub frame_ready : FrameNeeds w src (length lent) numbers done to i a v
  frame_ready =
      let h = first_needs d.pair d.more_wide d.more_narrow now in
      let z = frame_lands d.o n now.e _ _ _ now.at now.fine r in
      record { before = h.before; inside = h.inside; fits = h.fits; one = h.one; two = λ t. h.two (z.1 ∙ t) }

  pub frame_done : {after : List ℕ} {done' to' i' : ℕ} → FrameMoves w n src out after rest numbers done to i a v done' to' i'
      → Frames d.o n d.xs after rest numbers done' to' i' m (count - (k + 1)) d.A d.B d.C
  frame_done moves = first_moved d.pair d.more_wide d.more_narrow now r moves (omega arith)
