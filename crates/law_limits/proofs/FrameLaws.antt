-- A track of keyframes fits the sheet, and the text pays for its frames.
use Prim.Native.Nat.{ℕ, ◌+◌, ◌*◌, ◌≤◌, ◌<◌}
use mathlib.Core.Bool.{Bool, true, false, ◌&&◌, cond}
use mathlib.Core.List.{List, [], ◌∷◌, ◌++◌}
use mathlib.Core.Option.{Option, none, some}
use mathlib.Core.Path.{◌≡◌, refl, ap}
use native.Mathlib.Omega.{arith}
use lib.ListN.{length, length-append}
use Rattle.text.specs.Limits.{text_limit}
use Rattle.text.specs.Bytes.{bytes}
use Rattle.text.specs.Words.{is_some}
use Rattle.number.specs.Number.{bits}
use Rattle.number.specs.Time.{Key, stored_time}
use Rattle.number.specs.Rounded.{time_rounded}
use Rattle.number.proofs.Floats.{bits_lt, stored-fits}
use Rattle.codec.specs.Codec.{Form, opt, each_out}
use Rattle.codec.proofs.Laws.{Small, All, Law, opt_l}
use Rattle.sheet.proofs.FormLaws.{small, each_more}
use Rattle.ast.specs.Tree.{ValueExpr, EasingSpec, KeyframeTime, percent, seconds, KeyframeEntry, KeyframeSpec, Leaf, map_frames}
use Rattle.sheet.specs.Sheet.{Forest, value_form, easing_form, entry_form}
use Rattle.sheet.proofs.Laws.{time_l, value_l, entry_l, easing_l, loop_l, keyframes_l}
use Rattle.token.specs.Token.{Kind, name, number, quoted, mark, tokens_from, kind}
use Rattle.token.specs.Names.{name_of}
use Rattle.error.specs.declared.Refusal.TheVariants.{Malformed}
use Rattle.grammar.specs.Rule.{give, ◌>>=◌, ◌>>◌, if, sees, sees_name, sees_word, ends, skip, the, eat, go_on, repeat, more}
use Rattle.grammar.specs.Values.{parse_loop_mode}
use Rattle.grammar.specs.Grammar.{stored, keyed, parse_keyframe_time, keyframe_entry, Track, track_loop, track_frame, track_step, parse_keyframes}
use Rattle.law_rules.proofs.RunLaws.{Runs, gives, refuses, then, and, tallies, weaken, tests, conds, Onto, repeats}
use Rattle.law_rules.proofs.TakeLaws.{a_number_lem, the-mark, skips_mark, skips_word, Eaten, eats, eaten, in_group}
use Rattle.law_rules.proofs.ListLaws.{◌also◌}
use Rattle.law_limits.proofs.SizeLaws.{entry-size, keyframes_size}
use Rattle.law_limits.proofs.FieldLaws.{on_ok}
use Rattle.law_rules.proofs.FieldLaws.{On}
use Rattle.law_limits.proofs.ValueLaws.{all_more, value_runs, ident_runs}
use Rattle.law_limits.proofs.CurveLaws.{easing_runs, loop_runs}
use Rattle.law_limits.proofs.LeafLaws.{Leafed, LeafRule}

-- ---- a key

time-fits : (k : Key) → time_l.ok (stored k)
unfolding stored
time-fits k = go k.percent
  where
    small_time : Small 4 (bits (stored_time k))
    small_time = small 4 (bits (stored_time k)) (bits_lt (stored_time k) (stored-fits k))

    go : (b : Bool) → time_l.ok (cond b (percent (bits (stored_time k))) (seconds (bits (stored_time k))))
    go true = small_time
    go false = small_time

abbrev frame : KeyframeEntry Key → KeyframeEntry KeyframeTime
frame x = record { time = stored x.time; value = x.value; easing = x.easing }

frames-more : (xs : List (KeyframeEntry Key)) (x : KeyframeEntry Key)
    → map_frames stored (xs ++ x ∷ []) ≡ map_frames stored xs ++ frame x ∷ []
frames-more [] x = refl
frames-more (y ∷ xs) x = ap (λ (fs : List (KeyframeEntry KeyframeTime)). frame y ∷ fs) (frames-more xs x)

-- a name, if one is seen
seen_name : (k : Kind) → is_some (name_of k) ≡ true → (w : List ℕ) × (k ≡ name w)
seen_name (name w) e = (w, refl)
seen_name (number w) e = absurd (let z : ◌≡◌ {A = ℕ} 0 1 = cc in omega arith)
seen_name (quoted n) e = absurd (let z : ◌≡◌ {A = ℕ} 0 1 = cc in omega arith)
seen_name (mark b) e = absurd (let z : ◌≡◌ {A = ℕ} 0 1 = cc in omega arith)

module _ (s : List ℕ) (short : length s ≤ text_limit) where
  time_runs : (q : ℕ) → q ≤ length s → Runs s parse_keyframe_time q (λ k m. q < m)
  unfolding parse_keyframe_time keyed
  time_runs q h =
      then (a_number_lem h Malformed)
      (λ w m g x.
      then (conds {Q = λ c n. m ≤ n} w.1.point (λ e. gives g (omega arith)) (λ e. weaken (eats g 37 refl) (λ c n y. eaten m c n y)))
      (λ c n f y.
      conds (c && w.1.suffix) (λ e. refuses) (λ e. tallies (time_rounded _) (gives f (omega (arith, x.is.on))))))

  -- ---- a frame: 2 bytes over, which a `,` behind it pays for

  pub record Framed (q : ℕ) (x : KeyframeEntry Key) (m : ℕ) : Type 0 where
    pub ok : (entry_l (length s)).ok (frame x)
    pub on : q < m
    pub paid : length ((entry_form (length s)).write (frame x)) + 3 * q ≤ 3 * m + 2

  framed : (x : KeyframeEntry Key) (q m : ℕ) → value_l.ok x.value → (opt_l (easing_l (length s))).ok x.easing → q < m
      → 5 + length (value_form.write x.value) + length ((opt (easing_form (length s))).write x.easing) + 3 * q ≤ 3 * m + 2
      → Framed q x m
  framed x q m v e h p = record { ok = (time-fits x.time, (v, e)); on = h; paid = omega (arith, entry-size (length s) (frame x)) }

  frame_runs : (q : ℕ) → q ≤ length s → Runs s keyframe_entry q (Framed q)
  unfolding keyframe_entry
  frame_runs q h =
      then (time_runs q h)
      (λ t m1 g1 x1.
      and (the-mark g1 58 refl)
      (λ m2 g2 u x2.
      then (value_runs s short m2 g2)
      (λ v m3 g3 x3.
      then (tests sees_name
      (λ e.
      let (w, f) = seen_name (kind (tokens_from s m3)) e in
      then (easing_runs s short m3 g3)
      (λ c n g y. gives {Q = Opt v m2} g (y.ok, omega (arith, x3.on, y.on), omega (arith, y.paid, x3.before w f))))
      (λ e. gives {Q = Opt v m2} g3 (tt, x3.on, omega (arith, x3.paid))))
      (λ o m4 g4 x4.
      gives g4 (framed _ q m4 x3.ok x4.0 (omega (arith, x1, x2, x4.1)) (omega (arith, x1, x2, x4.2)))))))
    where
      -- an easing or none, behind a value v from i on
      Opt : ValueExpr → ℕ → Option EasingSpec → ℕ → Type 0
      Opt v i o m =
          (opt_l (easing_l (length s))).ok o × (i < m)
          × (length (value_form.write v) + length ((opt (easing_form (length s))).write o) + 3 * i ≤ 3 * m + 3)

  -- ---- a track

  abbrev bytes_of : Track → ℕ
  bytes_of x = length (each_out (entry_form (length s)).write (map_frames stored x.0))

  -- what a track that begins at q has at m; k bytes are over
  pub record Tracked (k q : ℕ) (x : Track) (m : ℕ) : Type 0 where
    pub ok : All (entry_l (length s)).ok (map_frames stored x.0)
    pub loop_mode : On loop_l.ok x.1
    pub count : length (map_frames stored x.0) + q ≤ m
    pub paid : bytes_of x + 3 * q ≤ 3 * m + k

  -- one frame more, and what stands behind it
  framed_more : (q : ℕ) (x : Track) (m : ℕ) (f : KeyframeEntry Key) (n : ℕ)
      → Tracked 0 q x m → Framed m f n → Tracked 2 q (x.0 ++ f ∷ [], x.1) n
  framed_more q x m f n t y =
      let e = frames-more x.0 f in
      record {
        ok = rw e (all_more s short (entry_l (length s)).ok (map_frames stored x.0) (frame f) t.ok y.ok);
        loop_mode = t.loop_mode;
        count = rw (e, length-append) (omega (arith, t.count, y.on));
        paid = rw (e, each_more, length-append) (omega (arith, t.paid, y.paid));
      }

  later : (q : ℕ) (x : Track) (j k m n : ℕ) → Tracked j q x m → m ≤ n → 3 * m + j ≤ 3 * n + k → Tracked k q x n
  later q x j k m n t h g = record { ok = t.ok; loop_mode = t.loop_mode; count = omega (arith, t.count); paid = omega (arith, t.paid) }

  module _ (q : ℕ) where
    loop-step : (x : Track) (m : ℕ) → m ≤ length s → sees_word "loop" (tokens_from s m) ≡ true
        → Tracked 0 q x m
        → Runs s (track_loop x) m (Onto (Tracked 0 q) (Tracked 2 q))
    unfolding track_loop
    loop-step x m g e t =
        and {f = the ":" >> (parse_loop_mode >>= λ l. eat "," >> give (more (x.0, some l)))} (skips_word g (bytes "loop") e) (λ m1 g1 u x1.
        and (the-mark g1 58 refl) (λ m2 g2 u x2.
        then (loop_runs s short m2 g2) (λ l m3 g3 x3.
        and (eats g3 44 refl) (λ m4 g4 c x4.
        gives g4 (record {
          ok = t.ok;
          loop_mode = x3.ok;
          count = omega (arith, t.count, x1, x2, x3.on, eaten m3 c m4 x4);
          paid = omega (arith, t.paid, x1, x2, x3.on, eaten m3 c m4 x4);
        })))))

    frame_step : (x : Track) (m : ℕ) → m ≤ length s → Tracked 0 q x m → Runs s (track_frame x) m (Onto (Tracked 0 q) (Tracked 2 q))
    unfolding track_frame
    frame_step x m g t =
        then (frame_runs m g) (λ f m1 g1 x1.
        then (mark_runs m1 g1) (λ c m2 g2 x2. on (x.0 ++ f ∷ [], x.1) m1 (framed_more q x m f m1 t x1) c m2 g2 x2))
      where
        mark_runs : (i : ℕ) → i ≤ length s → Runs s (if (sees ",") (skip >> give true) (eat ";")) i (Eaten i)
        mark_runs i h =
            tests (sees ",") (λ e. and {f = give true} (skips_mark h 44 refl e) (λ n f u y. gives f y.on)) (λ e. eats h 59 refl)

        on : (y : Track) (i : ℕ) → Tracked 2 q y i → (c : Bool) (n : ℕ)
            → n ≤ length s → Eaten i c n
            → Runs s (give (go_on c y)) n (Onto (Tracked 0 q) (Tracked 2 q))
        on y i z true n h e = gives h (later q y 2 0 i n z (omega arith) (omega arith))
        on y i z false n h e = gives h (later q y 2 2 i n z (omega arith) (omega arith))

    track_runs : q ≤ length s → Runs s (repeat track_step ([], none)) q (Tracked 2 q)
    unfolding track_step
    track_runs h =
        repeats (Tracked 0 q) (Tracked 2 q) (λ x m t. later q x 0 2 m m t (omega arith) (omega arith)) track_step
        (λ x m g t. tests ends (λ e. gives g (later q x 0 2 m m t (omega arith) (omega arith)))
        (λ e. tests (sees_word "loop") (λ f. loop-step x m g f t) (λ f. frame_step x m g t)))
        h (record { ok = tt; loop_mode = tt; count = omega arith; paid = omega arith })

  module _ {inner : Form Forest} (b : Law inner) where
    track_leafed : (x : KeyframeSpec Key) (q m : ℕ)
        → (keyframes_l (length s)).ok (record { target = x.target; frames = map_frames stored x.frames; loop_mode = x.loop_mode })
        → 17 + length (each_out (entry_form (length s)).write (map_frames stored x.frames)) + 3 * q ≤ 3 * m + 27
        → Leafed s short b 9 q (Leaf.keyframes x) m
    track_leafed x q m o p = record {
      ok = λ start i. (i, o);
      paid = λ start. omega
          (arith, keyframes_size (length s) (record { target = x.target; frames = map_frames stored x.frames; loop_mode = x.loop_mode }));
    }

    pub keyframes_runs : LeafRule s short b 9 parse_keyframes
    unfolding parse_keyframes
    keyframes_runs q h e =
        then (ident_runs s short q h)
        (λ t m1 g1 x1.
        then (in_group (repeat track_step ([], none)) (λ i. Tracked 2 i) g1 123 refl track_runs)
        (λ x m2 g2 x2.
        gives g2
        (track_leafed _ q m2
        (x1.ok
        also (small 2 (length (map_frames stored x.0)) (omega (arith, x2.inner.count, x2.left.low, short)), x2.inner.ok)
        also on_ok loop_l x.1 x2.inner.loop_mode)
        (omega (arith, x1.on, x2.low, x2.inner.paid, x2.left.low)))))
