-- The items of a track.
use Rattle.std.specs.Prelude.{Some, None}
use Prim.Native.Nat.{ℕ, ◌+◌, ◌*◌, ◌-◌, ◌≤◌}
use mathlib.Core.Bool.{Bool, true, false}
use mathlib.Core.List.{List, [], ◌∷◌, ◌++◌, append-nil}
use mathlib.Core.Option.{none}
use mathlib.Core.Path.{◌≡◌, refl, sym, ◌∙◌}
use native.Mathlib.Omega.{arith}
use lib.ListN.{length, length-append}
use Rattle.number.specs.Time.{Key}
use Rattle.text.specs.Bytes.{bytes}
use Rattle.codec.specs.Codec.{big, opt}
use Rattle.ast.specs.Tree.{KeyframeEntry, map_frames, keyframes}
use Rattle.ast.specs.declared.Span.{Span}
use Rattle.ast.specs.declared.LoopSpec as loops
use Rattle.sheet.specs.Sheet.{entry_form, loop_form, span_form}
use Rattle.sheet_encode.specs.Means.{span_of, loop_of, opt_loop_of}
use Rattle.sheet_encode.specs.WriteMeans.{Writes}
use Rattle.sheet_encode.proofs.OverLaws.{writes_none, writes_then, writes_counted}
use Rattle.sheet.proofs.FormLaws.{each_append, length_span}
use Rattle.sheet_encode.proofs.EnumLaws.{loop_most, opt-most}
use Rattle.error.specs.declared.Refusal.{Refusal}
use Rattle.error.specs.declared.Refusal.TheVariants.{Missing}
use Rattle.grammar.specs.Rule.{Rule, refused, Next, more, done, go_on, sees_byte, sees_bytes, ends, the_byte, eat_byte, word, leave, repeat}
use Rattle.grammar.specs.Values.{ident, parse_loop_mode}
use Rattle.grammar.specs.Grammar.{stored, keyframe_entry, Track, track_loop, track_frame, track_step, parse_keyframes}
use Rattle.read_cursor.specs.WordMeans.{at_of}
use Rattle.read_cursor.specs.Means.{Ready, tokens, run, Took, Follows, spelled}
use Rattle.read_cursor.specs.declared.Cursor.{Cursor}
use Rattle.read_cursor.proofs.CursorLaws.{moved_low}
use Rattle.read_fields.proofs.FieldLaws.{by_step}
use Rattle.read_fields.proofs.ListLaws.{Listed, listed_start, listed_gives}
use Rattle.read_values.proofs.EasingLaws.{spelled-length}
use Rattle.read_arrays.specs.Means.{Went}
use Rattle.read_node.specs.Means.{LeafSays, LeafMeans}
use Rattle.read_node.specs.declared.NodeRead.{NodeRead}
use Rattle.read_node.specs.declared.NodeRead.TheVariants as node
use Rattle.read_keyframes.specs.Means.{Inner, frames_bytes, separator, track_of, Stepped, Standing}
use Rattle.read_keyframes.specs.Means.{StepMeans, TrackWent, BlockSays, BlockMeans}
use Rattle.read_keyframes.specs.declared.Track as tracks
use Rattle.read_keyframes.specs.declared.TrackNext.{TrackNext}
use Rattle.read_keyframes.specs.declared.TrackNext.TheVariants as turn

-- ---- `,` or `;`

pub by_comma : (s : List ℕ) (c m : Cursor) (b : Bool) → sees_byte 44 (tokens s c) ≡ true
    → Took 0 s c m (eat_byte 44) b → Took 0 s c m separator b
by_comma s c m b e t = record { is = rw e (rw e at t.is); low = t.low; ready = t.ready }

pub by_semicolon : (s : List ℕ) (c m : Cursor) (b : Bool) → sees_byte 44 (tokens s c) ≡ false
    → Took 0 s c m (eat_byte 59) b → Took 0 s c m separator b
by_semicolon s c m b e t = record { is = rw e t.is; low = t.low; ready = t.ready }

-- ---- `loop: ..`

module _ (s b : List ℕ) (t : tracks.Track) (m : Cursor) (f : Follows s t.next m) where
  pub loop_no_colon : (q : ℕ) → run s m (the_byte 58) ≡ refused Missing q → (fs : List (KeyframeEntry Key))
      → run s t.next (track_loop (track_of fs t)) ≡ refused Missing q
  unfolding track_loop
  loop_no_colon q h fs = rw (f.rest, sym f.left, sym f.rounded, h)

  module _ (n : Cursor) (o : Took 1 s m n (the_byte 58) tt) where
    pub loop_refused : (r : Refusal) (q : ℕ) → run s n parse_loop_mode ≡ refused r q
        → (fs : List (KeyframeEntry Key))
        → run s t.next (track_loop (track_of fs t)) ≡ refused r q
    unfolding track_loop
    loop_refused r q h fs = rw (f.rest, sym f.left, sym f.rounded, o.is, h)

    pub loop-step : Ready s t.next → (v u : Cursor) (x : loops.LoopSpec) (y : Bool)
        → Took 1 s n v parse_loop_mode (loop_of x) → Took 0 s v u (eat_byte 44) y
        → Stepped 1 s b b t (record { frames = t.frames; end = t.end; loop_mode = Some x; next = u }) track_loop more
    unfolding track_loop
    loop-step r v u x y l e = record {
      added = [];
      is = λ fs. rw (f.rest, sym f.left, sym f.rounded, o.is, l.is, e.is, append-nil);
      low = let a = moved_low s t.next m r f in omega (arith, o.low, l.low, e.low);
      ready = e.ready;
      count = omega arith;
      writes = writes_none b t.end;
      paid = omega arith;
    }

-- ---- a frame

module _ (s : List ℕ) (t : tracks.Track) where
  pub frame_refused : (r : Refusal) (q : ℕ) → run s t.next keyframe_entry ≡ refused r q
      → (fs : List (KeyframeEntry Key))
      → run s t.next (track_frame (track_of fs t)) ≡ refused r q
  unfolding track_frame
  frame_refused r q h fs = rw h

  module _ (b a : List ℕ) (m u : Cursor) (q : ℕ)
      (w : Went 1 s b a t.next m t.end q keyframe_entry (λ f. frames_bytes (length s) (f ∷ []))) (x : Bool)
      (z : Took 0 s m u separator x) where
    pub frame_step : (e : ℕ) → e ≤ 1 → (y : Bool) → x ≡ y
        → Stepped e s b a t (record { frames = t.frames + 1; end = q; loop_mode = t.loop_mode; next = u }) track_frame (go_on y)
    unfolding track_frame
    frame_step e l y g = record {
      added = w.value ∷ [];
      is = λ fs. rw (w.took.is, z.is, g);
      low = omega (arith, w.took.low, z.low);
      ready = z.ready;
      count = refl;
      writes = w.writes;
      paid = omega (arith, w.paid, w.took.low, z.low);
    }

-- ---- an item

pub step_end : (s b : List ℕ) (t : tracks.Track) → Ready s t.next → ends (tokens s t.next) ≡ true → Stepped 0 s b b t t track_step done
unfolding track_step
step_end s b t r e = record {
  added = [];
  is = λ fs. rw (e, append-nil);
  low = omega arith;
  ready = r;
  count = omega arith;
  writes = writes_none b t.end;
  paid = omega arith;
}

-- the step is another
other_step : (s b a : List ℕ) (t : tracks.Track) (p : Track → Rule (Next Track))
    → ((x : Track) → run s t.next (track_step x) ≡ run s t.next (p x))
    → (r : TrackNext) → StepMeans s b a t p r → StepMeans s b a t track_step r
other_step s b a t p g (turn.More u) h = record {
  added = h.added;
  is = λ fs. g _ ∙ h.is fs;
  low = h.low;
  ready = h.ready;
  count = h.count;
  writes = h.writes;
  paid = h.paid;
}
other_step s b a t p g (turn.Done u) h = record {
  added = h.added;
  is = λ fs. g _ ∙ h.is fs;
  low = h.low;
  ready = h.ready;
  count = h.count;
  writes = h.writes;
  paid = h.paid;
}
other_step s b a t p g (turn.Refused r q) h = λ fs. g _ ∙ h fs

module _ (s b a : List ℕ) (t : tracks.Track) (e : ends (tokens s t.next) ≡ false) (r : TrackNext) where
  pub step_loop : sees_bytes (bytes "loop") (tokens s t.next) ≡ true → StepMeans s b a t track_loop r → StepMeans s b a t track_step r
  unfolding track_step
  step_loop d h = other_step s b a t track_loop (λ x. rw (e, d)) r h

  pub step-frame : sees_bytes (bytes "loop") (tokens s t.next) ≡ false → StepMeans s b a t track_frame r → StepMeans s b a t track_step r
  unfolding track_step
  step-frame d h = other_step s b a t track_frame (λ x. rw (e, d)) r h

-- ---- the items

map-append : (xs ys : List (KeyframeEntry Key)) → map_frames stored (xs ++ ys) ≡ map_frames stored xs ++ map_frames stored ys
map-append [] ys = refl
map-append (x ∷ xs) ys = rw (map-append xs ys)

map-length : (xs : List (KeyframeEntry Key)) → length (map_frames stored xs) ≡ length xs
map-length [] = refl
map-length (x ∷ xs) = rw (map-length xs)

frames-append : (n : ℕ) (xs ys : List (KeyframeEntry Key)) → frames_bytes n (xs ++ ys) ≡ frames_bytes n xs ++ frames_bytes n ys
frames-append n xs ys = rw (map-append xs ys) (each_append (entry_form n).write (map_frames stored xs) (map_frames stored ys))

-- a frame has a byte or more
frames_few : (n : ℕ) (xs : List (KeyframeEntry Key)) → length xs ≤ length (frames_bytes n xs)
frames_few n [] = omega arith
frames_few n (x ∷ xs) = rw length-append (let h = frames_few n xs in omega arith)

-- the track that began at c stands at t with some frames, written from out on: b has become a
pub record Tracked (s b a : List ℕ) (c : Cursor) (out : ℕ) (t : tracks.Track) : Type 0 where
  pub frames : List (KeyframeEntry Key)
  pub listed : Listed track_step s c t.next ([], none) (track_of frames t)
  pub count : t.frames ≡ length frames
  pub writes : Writes b out (frames_bytes (length s) frames) a t.end
  pub paid : t.end ≤ out + 64 * (at_of t.next - at_of c)

pub tracked_start : (s b : List ℕ) (c : Cursor) (out : ℕ) → Ready s c
    → Tracked s b b c out (record { frames = 0; end = out; loop_mode = None; next = c })
tracked_start s b c out r = record {
  frames = [];
  listed = listed_start track_step s c ([], none) r;
  count = refl;
  writes = writes_none b out;
  paid = omega arith;
}

module _ (s b a : List ℕ) (c : Cursor) (out : ℕ) (t : tracks.Track) (i : Tracked s b a c out t) where
  pub tracked_standing : Inner 16 s out → Standing s t
  tracked_standing n = record {
    ready = i.listed.ready;
    inner = record { short = n.short; low = omega (arith, i.paid, n.low, n.short, i.listed.ready.high) };
    few = let h = frames_few (length s) i.frames in omega (arith, i.count, i.writes.place);
  }

  pub tracked_refused : (r : Refusal) (q : ℕ)
      → ((fs : List (KeyframeEntry Key)) → run s t.next (track_step (track_of fs t)) ≡ refused r q)
      → run s c (repeat track_step ([], none)) ≡ refused r q
  tracked_refused r q h =
      listed_gives track_step s c t.next ([], none) _ i.listed _
      (by_step track_step _ s t.next _ i.listed.ready (λ k l. rw (h i.frames)))

  module _ (a' : List ℕ) (u : tracks.Track) where
    all-written : (added : List (KeyframeEntry Key))
        → Writes a t.end (frames_bytes (length s) added) a' u.end
        → Writes b out (frames_bytes (length s) (i.frames ++ added)) a' u.end
    all-written added w = rw (frames-append (length s) i.frames added) (writes_then i.writes w)

    pub tracked_more : Stepped 1 s a a' t u track_step more → Tracked s b a' c out u
    tracked_more z = record {
      frames = i.frames ++ z.added;
      listed = record {
        low = omega (arith, i.listed.low, z.low);
        ready = z.ready;
        goes = λ o h. i.listed.goes o
            (by_step track_step _ s t.next o i.listed.ready (λ k l. rw (z.is i.frames) (h k (omega (arith, z.low)))));
      };
      count = rw length-append (omega (arith, i.count, z.count));
      writes = all-written z.added z.writes;
      paid = omega (arith, i.paid, z.paid, i.listed.low, z.low);
    }

    pub tracked_last : Stepped 0 s a a' t u track_step done → TrackWent s b a' c out u
    tracked_last z = record {
      frames = i.frames ++ z.added;
      took = record {
        is = listed_gives track_step s c t.next ([], none) _ i.listed _
            (by_step track_step _ s t.next _ i.listed.ready (λ k l. rw (z.is i.frames)));
        low = omega (arith, i.listed.low, z.low);
        ready = z.ready;
      };
      count = rw length-append (omega (arith, i.count, z.count));
      writes = all-written z.added z.writes;
      paid = omega (arith, i.paid, z.paid, i.listed.low, z.low);
    }

-- ---- the whole of a track

module _ {s b : List ℕ} {c : Cursor} {out : ℕ} where
  pub block_refused : {a : List ℕ} {r : Refusal} {q : ℕ} → run s c (repeat track_step ([], none)) ≡ refused r q
      → BlockMeans s b a c out (node.Refused r q)
  block_refused h = record { by = rw h }

  -- two bytes are left open, the frames are written, their count is put there, and the loop mode behind them
  pub block_went : {a a₁ a₂ : List ℕ} {u : Cursor} {e q : ℕ} {t : tracks.Track}
      → TrackWent s b a c (out + 2) t → Writes a out ((big 2).write t.frames) a₁ e
      → Writes a₁ t.end ((opt loop_form).write (opt_loop_of t.loop_mode)) a₂ q
      → Took 0 s t.next u (leave 125) tt → BlockMeans s b a₂ c out (node.Is q u)
  block_went {t = t} w p l v = record {
    by = record {
      value = track_of w.frames t;
      took = record { is = rw (w.took.is, v.is); low = omega (arith, w.took.low, v.low); ready = v.ready };
      writes = writes_then (writes_counted (length w.frames) refl w.writes (rw w.count at p)) l;
      paid = let x = opt-most loop_form 5 loop_most (opt_loop_of t.loop_mode) in omega (arith, w.paid, l.place, v.low, w.took.low);
    };
  }

-- ---- the node

module _ {s b : List ℕ} {c : Cursor} {out : ℕ} where
  pub no_target : {a : List ℕ} {q : ℕ} → run s c word ≡ refused Missing q → LeafMeans s b a c out parse_keyframes (node.Refused Missing q)
  unfolding parse_keyframes ident
  no_target h = record { by = rw h }

  module _ {m : Cursor} (x : Span) (t : Took 1 s c m word (x.start, spelled s x)) where
    pub no_brace : {a : List ℕ} {q : ℕ} → run s m (the_byte 123) ≡ refused Missing q
        → LeafMeans s b a c out parse_keyframes (node.Refused Missing q)
    unfolding parse_keyframes ident
    no_brace h = record { by = rw (t.is, h) }

    module _ (h : x.start + x.size ≤ length s) {n : Cursor} (o : Took 1 s m n (the_byte 123) tt)
        {b₁ : List ℕ} {g : ℕ} (j : Writes b out ((span_form (length s)).write (span_of x)) b₁ g) where
      keyframes_say : (a : List ℕ) (y : NodeRead) → BlockSays s b₁ a n g y → LeafSays s b a c out parse_keyframes y
      unfolding parse_keyframes ident
      keyframes_say a (node.Is q u) w = record {
        value = keyframes (record { target = span_of x; frames = w.value.0; loop_mode = w.value.1 });
        took = record {
          is = rw (t.is, o.is, w.took.is, spelled-length s x h);
          low = omega (arith, t.low, o.low, w.took.low);
          ready = w.took.ready;
        };
        writes = rw (map-length w.value.0) (writes_then j w.writes);
        paid = let r = j.place in
            let l = length_span (length s) (span_of x) in
            omega (arith, t.low, o.low, w.took.low, w.paid);
      }
      keyframes_say a (node.Refused r q) w = rw (t.is, o.is, w)

      -- the answer behind the opener is the answer of the node
      pub keyframes_node : {a : List ℕ} {y : NodeRead} → BlockMeans s b₁ a n g y → LeafMeans s b a c out parse_keyframes y
      keyframes_node {a} {y} w = record { by = keyframes_say a y w.by }
