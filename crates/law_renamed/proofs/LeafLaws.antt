-- Leaves and heads of containers at two lists of tokens that agree: checking says the same of them.
use Prim.Native.Nat.{ℕ, suc, ◌+◌, ◌-◌}
use Prim.Native.String.{String}
use mathlib.Core.Bool.{Bool, true, false, ◌&&◌, ◌||◌}
use mathlib.Core.List.{List, [], ◌∷◌, ◌++◌, map}
use mathlib.Core.Logic.{◌⊎◌, inl, inr}
use mathlib.Core.Option.{none, some}
use mathlib.Core.Path.{◌≡◌, refl, ap, subst}
use native.Mathlib.Omega.{arith}
use lib.Dec.{eqb}
use lib.Ieee.{Float}
use lib.ListN.{length}
use Rattle.text.specs.Bytes.{bytes, one_of}
use Rattle.text.specs.Words.{words}
use Rattle.number.specs.Number.{nearest, bits}
use Rattle.number.specs.Rounded.{number_rounded, time_rounded}
use Rattle.number.specs.Time.{Key}
use Rattle.token.specs.Token.{Token, kind, is_mark}
use Rattle.ast.specs.Tree.{Leaf, KeyframeEntry, map_frames, map_leaf}
use Rattle.checking.specs.Rules.{validate_tween, validate_spring, validate_frames, validate_keyframes, validate_path}
use Rattle.checking.specs.Rules.{validate_morph, validate_draw, validate_color, validate_waveform, validate_preset_call, validate_leaf}
use Rattle.error.specs.declared.Refusal.TheVariants.{UnknownKeyword, Malformed, UnknownSpringPreset}
use Rattle.error.specs.declared.Refusal.TheVariants.{MissingDuration, StaggerGridIncomplete}
use Rattle.grammar.specs.Rule.{Notes, Out, got, refused, Rule, give, need, if}
use Rattle.grammar.specs.Rule.{◌>>=◌, ◌>>◌, skip, sees, sees_word, sees_name, sees_number}
use Rattle.grammar.specs.Rule.{ends, eat, inside, more, go_on}
use Rattle.grammar.specs.Fields.{a_number, a_range, Fields, pairs, parse_field_list, last_number}
use Rattle.grammar.specs.Values.{ident, string, parse_easing}
use Rattle.grammar.specs.Grammar.{tween_fields, parse_tween, parse_spring_preset, spring_preset, integrator, critical_damping, over_damping}
use Rattle.grammar.specs.Grammar.{spring_fields, parse_spring, stored, keyed, parse_keyframe_time, keyframe_entry, Track, track_loop, track_frame}
use Rattle.grammar.specs.Grammar.{track_step, parse_keyframes, parse_group, parse_grid_origin, origin}
use Rattle.grammar.specs.Grammar.{grid_fields, grid_pattern, random_fields, random_pattern, patterns, parse_stagger_pattern, Opening}
use Rattle.grammar.specs.Grammar.{opening_fields, opening_field, opening_step, parse_stagger, offset, path_fields, parse_path}
use Rattle.grammar.specs.Grammar.{morph_fields, parse_morph, draw_fields, parse_draw, space, color_fields, parse_color, unless_noise, waveform_kind}
use Rattle.grammar.specs.Grammar.{waveform_fields, parse_waveform, parse_preset_call, parse_label, at_sign, turned, parse_at, under_damping}
use Rattle.grammar.specs.Grammar.{parse_sequence, parse_parallel, leaves, containers}
use Rattle.grammar.specs.Grammar.{preset_names, integrator_names, mode_names, origin_names, space_names, waveform_names}
use Rattle.codec.proofs.Laws.{All}
use Rattle.law_rules.proofs.ListLaws.{◌also◌}
use Rattle.law_renamed.specs.Words.{name_at, quote_at, free_in}
use Rattle.law_renamed.proofs.StreamLaws.{never, Scripts, byte_agrees, ends_agrees}
use Rattle.law_renamed.proofs.StreamLaws.{word_agrees, name_agrees, number_agrees, arrow_agrees}
use Rattle.law_renamed.proofs.StreamLaws.{dots_agree}
use Rattle.law_renamed.proofs.StepLaws.{Moves, Twins, Alike, none_free}
use Rattle.law_renamed.proofs.StepLaws.{Any, Alikes, Parts, no_place, joins, then-plain, then-free, then_on, then}
use Rattle.law_renamed.proofs.StepLaws.{within, by_equal, same_on, same_then, and_on, and, gives, refuses, conds, tests, needs}
use Rattle.law_renamed.proofs.StepLaws.{skips, skips_on, eats, the-mark, two-marks, a_word_lem, free-word, free-text, a_choice, a_number_lem}
use Rattle.law_renamed.proofs.StepLaws.{not-zero, counts, Steps, NextAlike, repeats, goes_steps, goes_alike, Rows, by_word}
use Rattle.law_renamed.proofs.FieldLaws.{Asked, given_alike, ContentAlike}
use Rattle.law_renamed.proofs.FieldLaws.{FieldsAlike, nil, number_alike, range_alike}
use Rattle.law_renamed.proofs.FieldLaws.{easing_says, loop_keyword, pairs_alike, fields_alike}
use Rattle.law_renamed.proofs.ValueLaws.{group, content, ident_alike, string_alike, float_alike, value_alike}
use Rattle.law_renamed.proofs.ValueLaws.{two_in_parens, float_in_parens, number_row}
use Rattle.law_renamed.proofs.ValueLaws.{count_row, flag_row, value_row, easing_row, loop-row}
use Rattle.law_renamed.proofs.ValueLaws.{easing_alike, loop_alike}

-- ---- free names and strings

among-both : (d e : List ℕ) (y : ℕ) → one_of (d ++ e) y ≡ true → (one_of d y ≡ true) ⊎ (one_of e y ≡ true)
unfolding one_of
among-both [] e y h = inr h
among-both (c ∷ d) e y h = go (eqb y c) h (λ k. among-both d e y k)
  where
    go : (b : Bool) → (b || one_of (d ++ e) y) ≡ true
        → (one_of (d ++ e) y ≡ true → (one_of d y ≡ true) ⊎ (one_of e y ≡ true))
        → ((b || one_of d y) ≡ true) ⊎ (one_of e y ≡ true)
    go true k ih = inl refl
    go false k ih = ih k

pub parts_both : (d c e : List ℕ) → e ≡ d ++ c → Parts d c e
parts_both d c e h y k = among-both d c y (subst (λ (e : List ℕ). one_of e y ≡ true) h k)

module _ {A B : Type 0} {x : Scripts} {H : Type 0} {P : A → ℕ → Type 0} {R : A → A → Type 0} {S : B → B → Type 0} {p q : Rule A} where
  -- the places D that the first value holds, then those that the rest holds
  pub free-then : (D : A → List ℕ) (E E' : B → List ℕ) {f g : A → Rule B} {Q : B → Type 0} → Alike x H p q P D R
      → ((a b : A) → Alike x (H × R a b) (f a) (g b) (λ c k. Q c × (E c ≡ D a ++ E' c)) E' S)
      → Alike x H (p >>= f) (q >>= g) (λ c k. Q c) E S
  free-then D E E' {Q = Q} y k =
      joins x P D R (λ a j c k. Q c × (E c ≡ D a ++ E' c)) E' (λ c k. Q c) E S (λ a j c k h g. g.0)
      (λ a j c k h g. parts_both (D a) (E' c) (E c) g.1) y (λ a b j h. k a b)

  -- a rule that holds none, then one that does
  pub and_free : (E : B → List ℕ) {f g : Rule B} {Q : B → Type 0} → Alike x H p q P none_free R → Alike x H f g (λ c k. Q c) E S
      → Alike x H (p >> f) (q >> g) (λ c k. Q c) E S
  and_free E y k = then-free E y (λ a b j h. within (λ h. h.0) k)

-- a rule that holds none
pub plainly : {A : Type 0} {x : Scripts} {H : Type 0} {p q : Rule A} {R : A → A → Type 0} (E : A → List ℕ)
    → Alike x H p q (λ a k. E a ≡ []) none_free R → Alike x H p q Any E R
plainly {A = A} {x = x} {p = p} {q = q} {R = R} E y = record {
  moves = λ l ts h. go l ts (p l ts) (y.moves l ts h);
  twins = λ h l m ts us i c d. both l m ts (p l ts) (q m us) (y.moves l ts i.fine) (y.twins h l m ts us i c d);
}
  where
    go : (l : Notes) (ts : List Token) (o : Out A) → Moves x (λ a k. E a ≡ []) none_free l ts o → Moves x Any E l ts o
    go l ts (got a m us) v = record {
      bound = v.bound;
      gone = v.gone;
      post = tt;
      held = λ y e. no_place y (subst (λ (e : List ℕ). one_of e y ≡ true) v.post e);
    }
    go l ts (refused r p) v = tt

    both : (l m : Notes) (ts : List Token) (o o' : Out A) → Moves x (λ a k. E a ≡ []) none_free l ts o → Twins x none_free R ts m o o'
        → Twins x E R ts m o o'
    both l m ts (got a n us) (got b n' vs) v t =
        λ only. t (λ y e lo hi. subst (λ (e : List ℕ). one_of e y ≡ true) v.post (only y e lo hi))
    both l m ts (got a n us) (refused r p) v t = tt
    both l m ts (refused r p) o' v t = tt

module _ (x : Scripts) where
  free-ident : {H : Type 0} → Alike x H ident ident Any (λ s. name_at s ∷ []) (λ s r. name_at r ≡ x.across (name_at s))
  unfolding ident
  free-ident = then-plain (λ a. a.0 ∷ []) (λ s. name_at s ∷ []) free-word (λ a b. gives refl (λ h. h.1))

  free-string : {H : Type 0} → Alike x H string string Any (λ s. quote_at s ∷ []) (λ s r. quote_at r ≡ x.across (quote_at s))
  unfolding string
  free-string = then-plain (λ a. (a.0 - 1) ∷ []) (λ s. quote_at s ∷ []) free-text (λ a b. gives refl (λ h. h.1))

  -- ---- what checking says of a leaf, and where its free names and strings stand

  pub record LeafAlike (l m : Leaf Key) : Type 0 where
    pub says : (names : List String)
        → validate_leaf names x.text (map_leaf stored l) ≡ validate_leaf names x.other (map_leaf stored m)
    pub free : free_in m ≡ map x.across (free_in l)

  one_place : {p q : ℕ} → p ≡ q → p ∷ [] ≡ q ∷ []
  one_place e = rw e

  two_places : {p q r s : ℕ} → p ≡ q → r ≡ s → p ∷ r ∷ [] ≡ q ∷ s ∷ []
  two_places e g = rw (e, g)

  -- a leaf with its free names and strings
  abbrev pub LeafRule : Type 0 → Rule (Leaf Key) → Type 0
  LeafRule H p = Alike x H p p Any free_in LeafAlike

  -- ---- tween, spring

  duration_alike : {H : Type 0} (fs gs : Fields) → (H → FieldsAlike x fs gs)
      → Alikes x H (need MissingDuration (last_number "duration" fs)) (need MissingDuration (last_number "duration" gs)) ◌≡◌
  duration_alike fs gs h =
      needs MissingDuration (last_number "duration" fs) (last_number "duration" gs) (λ k. number_alike x (h k) "duration")

  tween_alike : {H : Type 0} → LeafRule H parse_tween
  unfolding parse_tween tween_fields free_in validate_leaf validate_tween
  tween_alike =
      free-then (λ s. name_at s ∷ []) free_in none_free free-ident
      (λ a b. and (the-mark 58 refl)
      (same_then (value_alike x)
      (λ v. and (two-marks 61 62 (λ ts us i. arrow_agrees i))
      (same_then (value_alike x)
      (λ w.
      then (fields_alike x tween_fields
      (number_row x also easing_row x also number_row x also number_row x also loop-row x also number_row x also count_row x also flag_row x
      also tt)
      [] [] (λ h. nil))
      (λ fs gs. same_then (duration_alike fs gs (λ h. h.1))
      (λ d. gives (tt, refl)
      (λ h. record {
        says = λ names. rw (easing_says x h.1, number_alike x h.1 "time_scale", number_alike x h.1 "delay");
        free = one_place h.0.1;
      }))))))))

  number_content : (n : ℕ) → ContentAlike x (a_number n) (a_number n)
  number_content n = content x (a_number n) refl

  spring_rows : Rows x (ContentAlike x) spring_fields
  unfolding spring_fields spring_preset parse_spring_preset integrator critical_damping over_damping under_damping
  spring_rows =
      same_then (a_choice UnknownSpringPreset (words preset_names))
      (λ k. gives tt (λ h. number_content k))
      also number_row x
      also number_row x
      also number_row x
      also value_row x
      also number_row x
      also same_then (a_choice Malformed (words integrator_names)) (λ k. gives tt (λ h. number_content k))
      also same_then (float_in_parens x) (λ s. gives tt (λ h. content x _ refl))
      also same_then (two_in_parens x) (λ p. gives tt (λ h. content x _ refl))
      also same_then (two_in_parens x) (λ p. gives tt (λ h. content x _ refl))
      also tt

  spring_alike : {H : Type 0} → LeafRule H parse_spring
  unfolding parse_spring free_in validate_leaf validate_spring
  spring_alike =
      free-then (λ s. name_at s ∷ []) free_in none_free free-ident
      (λ a b. and (the-mark 58 refl)
      (same_then (value_alike x)
      (λ v. and (two-marks 61 62 (λ ts us i. arrow_agrees i))
      (same_then (value_alike x)
      (λ w.
      then (fields_alike x spring_fields spring_rows [] [] (λ h. nil))
      (λ fs gs. gives (tt, refl)
      (λ h. record {
        says = λ names. rw (number_alike x h.1 "stiffness", number_alike x h.1 "mass", number_alike x h.1 "epsilon");
        free = one_place h.0.1;
      })))))))

  -- ---- keyframes

  time_alike : {H : Type 0} → Alikes x H parse_keyframe_time parse_keyframe_time ◌≡◌
  unfolding parse_keyframe_time keyed
  time_alike =
      same_then (a_number_lem sees_number Malformed (λ ts us i. number_agrees i))
      (λ w. same_then (conds w.1.point w.1.point (λ h. refl) (gives (λ e. never e) (λ h. refl)) (eats 37 refl))
      (λ p. conds (p && w.1.suffix) (p && w.1.suffix) (λ h. refl) refuses
      (let k : Key = record { percent = p; negative = w.0; written = w.1 } in
      and (counts (time_rounded k) (time_rounded k)) (gives tt (λ h. refl)))))

  -- what checking asks of a frame
  abbrev FrameAlike : KeyframeEntry Key → KeyframeEntry Key → Type 0
  FrameAlike f g = (f.time ≡ g.time) × Asked x f.easing g.easing

  data FramesAlike : List (KeyframeEntry Key) → List (KeyframeEntry Key) → Type 0 where
    no_frames : FramesAlike [] []
    a_frame : {f g : KeyframeEntry Key} {fs gs : List (KeyframeEntry Key)}
        → FrameAlike f g → FramesAlike fs gs → FramesAlike (f ∷ fs) (g ∷ gs)

  one_more : {fs gs : List (KeyframeEntry Key)} (f g : KeyframeEntry Key) → FramesAlike fs gs → FrameAlike f g
      → FramesAlike (fs ++ f ∷ []) (gs ++ g ∷ [])
  one_more f g no_frames k = a_frame k no_frames
  one_more f g (a_frame h r) k = a_frame h (one_more f g r k)

  frames-length : {fs gs : List (KeyframeEntry Key)} → FramesAlike fs gs → length (map_frames stored fs) ≡ length (map_frames stored gs)
  frames-length no_frames = refl
  frames-length (a_frame h r) = ap suc (frames-length r)

  frames_say : {fs gs : List (KeyframeEntry Key)} (seen : List Float) → FramesAlike fs gs
      → validate_frames x.text seen (map_frames stored fs) ≡ validate_frames x.other seen (map_frames stored gs)
  unfolding validate_frames
  frames_say seen no_frames = refl
  frames_say seen (a_frame {f = f} {g = g} h r) =
      rw (h.0, given_alike x f.easing g.easing h.1, frames_say _ r)

  maybe_easing : {H : Type 0}
      → Alikes x H (if sees_name (parse_easing >>= λ e. give (some e)) (give none))
      (if sees_name (parse_easing >>= λ e. give (some e)) (give none))
      (Asked x)
  maybe_easing =
      tests sees_name sees_name (λ h ts us i. name_agrees i) (then (easing_alike x) (λ e d. gives tt (λ h. ap some h.1)))
      (gives tt (λ h. refl))

  frame_alike : {H : Type 0} → Alikes x H keyframe_entry keyframe_entry FrameAlike
  unfolding keyframe_entry
  frame_alike =
      same_then time_alike
      (λ t. and (the-mark 58 refl)
      (same_then (value_alike x)
      (λ v.
      then maybe_easing (λ e d. gives tt (λ h. (refl, h.1))))))

  abbrev TrackAlike : Track → Track → Type 0
  TrackAlike s r = FramesAlike s.0 r.0

  track_loop_lem : (s r : Track) → Alike x (TrackAlike s r) (track_loop s) (track_loop r) Steps none_free (NextAlike TrackAlike)
  unfolding track_loop
  track_loop_lem s r =
      and_on skips
      (λ a j z. and_on (the-mark 58 refl)
      (λ b k y. same_on (loop_alike x)
      (λ m i w. and_on {f = give (more (s.0, some m))} {g = give (more (r.0, some m))} (eats 44 refl)
      (λ c n v. gives (omega arith) (λ h. h)))))

  comma_seen : (ts : List Token) → sees "," ts ≡ true → is_mark (kind ts) 0 ≡ false
  comma_seen ts e = not-zero (kind ts) 44 refl e

  track-frame : (s r : Track) → Alike x (TrackAlike s r) (track_frame s) (track_frame r) Steps none_free (NextAlike TrackAlike)
  unfolding track_frame
  track-frame s r =
      then_on frame_alike
      (λ f g j z.
      same_on
      (skips_on (sees ",") (sees ",") comma_seen (λ h ts us i. byte_agrees i 44) true true (λ e. omega arith) (λ h. refl) (eats 59 refl))
      (λ c k q. gives (goes_steps c (s.0 ++ f ∷ [], s.1) (j + (k + 0)) (λ e. let w = q e in omega arith))
      (λ h. goes_alike TrackAlike c (s.0 ++ f ∷ [], s.1) (r.0 ++ g ∷ [], r.1) (one_more f g h.0 h.1))))

  track-step : (s r : Track) → Alike x (TrackAlike s r) (track_step s) (track_step r) Steps none_free (NextAlike TrackAlike)
  unfolding track_step
  track-step s r =
      tests ends ends (λ h ts us i. ends_agrees i) (gives tt (λ h. h))
      (tests (sees_word "loop") (sees_word "loop") (λ h ts us i. word_agrees i (bytes "loop") loop_keyword) (track_loop_lem s r)
      (track-frame s r))

  keyframes_alike : {H : Type 0} → LeafRule H parse_keyframes
  unfolding parse_keyframes free_in validate_leaf validate_keyframes
  keyframes_alike =
      free-then (λ s. name_at s ∷ []) free_in none_free free-ident
      (λ a b.
      then (group 123 refl (repeats TrackAlike track_step track-step ([], none) ([], none) (λ h. no_frames)))
      (λ s r. gives (tt, refl)
      (λ h. record { says = λ names. rw (frames-length h.1, frames_say [] h.1); free = one_place h.0.1 })))

  -- ---- heads of containers

  pub group_alike : {H : Type 0} → Alikes x H parse_group parse_group ◌≡◌
  unfolding parse_group
  group_alike = same_then (a_choice Malformed (words mode_names)) (λ m. gives tt (λ h. refl))

  origin_row : {H : Type 0} → Alikes x H origin origin (ContentAlike x)
  unfolding origin parse_grid_origin
  origin_row =
      same_then
      (a_choice Malformed
      (words origin_names))
      (λ k. gives tt (λ h. number_content k))

  grid_alike : {H : Type 0} → Alikes x H grid_pattern grid_pattern ◌≡◌
  unfolding grid_pattern grid_fields
  grid_alike =
      group 40 refl
      (then (pairs_alike x grid_fields (count_row x also count_row x also origin_row also tt))
      (λ fs gs.
      same_then (needs StaggerGridIncomplete (last_number "cols" fs) (last_number "cols" gs) (λ h. number_alike x h.1 "cols"))
      (λ c.
      same_then (needs StaggerGridIncomplete (last_number "rows" fs) (last_number "rows" gs) (λ h. number_alike x h.1 "rows"))
      (λ r. gives tt (λ h. rw (number_alike x h.1 "origin"))))))

  random_alike : {H : Type 0} → Alikes x H random_pattern random_pattern ◌≡◌
  unfolding random_pattern random_fields
  random_alike =
      then (group 40 refl (pairs_alike x random_fields (count_row x also number_row x also number_row x also tt)))
      (λ fs gs. gives tt (λ h. rw (number_alike x h.1 "seed", number_alike x h.1 "min", number_alike x h.1 "max")))

  pattern_rows : Rows x ◌≡◌ patterns
  unfolding patterns
  pattern_rows = grid_alike also random_alike also gives tt (λ h. refl) also gives tt (λ h. refl) also tt

  pattern_alike : {H : Type 0} → Alikes x H parse_stagger_pattern parse_stagger_pattern ◌≡◌
  unfolding parse_stagger_pattern
  pattern_alike =
      then a_word_lem (λ w v. by_word Malformed patterns w.1 v.1 (λ p. p) (λ h. h.1.0) pattern_rows (λ p y. within (λ h. tt) y))

  opening_rows : (s : Opening) → Rows x ◌≡◌ (opening_fields s)
  unfolding opening_fields
  opening_rows s =
      and (the-mark 58 refl) (same_then pattern_alike (λ p. gives tt (λ h. refl)))
      also and (the-mark 58 refl) (same_then (float_alike x) (λ d. gives tt (λ h. refl)))
      also tt

  opening-step : (s r : Opening) → Alike x (s ≡ r) (opening_step s) (opening_step r) Steps none_free (NextAlike ◌≡◌)
  unfolding opening_step opening_field
  opening-step s r = by_equal opening_step opening_step s r (λ h. h) by
    where
      by : Alike x (s ≡ r) (opening_step s) (opening_step s) Steps none_free (NextAlike ◌≡◌)
      by =
          tests (sees "{") (sees "{") (λ h ts us i. byte_agrees i 123) (gives tt (λ h. refl))
          (then_on a_word_lem
          (λ w v j z.
          by_word UnknownKeyword (opening_fields s) w.1 v.1 (λ p. p >>= λ s'. eat "," >>= λ c. give (go_on c s')) (λ h. h.1.0)
          (opening_rows s)
          (λ p y. same_on (within (λ h. tt) y)
          (λ s' k q. same_on (eats 44 refl)
          (λ c n u. gives (goes_steps c s' (j + (k + (n + 0))) (λ e. let t = u e in omega arith)) (λ h. goes_alike ◌≡◌ c s' s' refl))))))

  pub stagger_alike : {H : Type 0} → Alikes x H parse_stagger parse_stagger ◌≡◌
  unfolding parse_stagger
  stagger_alike = same_then (repeats ◌≡◌ opening_step opening-step (none, none) (none, none) (λ h. refl)) (λ s. gives tt (λ h. refl))

  -- ---- path, morph, draw, color

  -- what stands behind the first of some places
  abbrev others : List ℕ → List ℕ
  others [] = []
  others (p ∷ ps) = ps

  abbrev second : Leaf Key → List ℕ
  second l = others (free_in l)

  offset_row : {H : Type 0} → Alikes x H offset offset (ContentAlike x)
  unfolding offset
  offset_row =
      same_then (float_alike x)
      (λ a. and (two-marks 46 46 (λ ts us i. dots_agree i))
      (same_then (float_alike x) (λ b. gives tt (λ h. content x (a_range (a, b)) refl))))

  path_alike : {H : Type 0} → LeafRule H parse_path
  unfolding parse_path path_fields free_in validate_leaf validate_path
  path_alike =
      free-then (λ s. name_at s ∷ []) free_in second free-ident
      (λ a b. and_free second (a_choice Malformed (words ("along" ∷ [])))
      (free-then (λ s. quote_at s ∷ []) second none_free free-string
      (λ s d.
      then
      (fields_alike x path_fields (number_row x also easing_row x also flag_row x also offset_row also loop-row x also tt) [] [] (λ h. nil))
      (λ fs gs. same_then (duration_alike fs gs (λ h. h.1))
      (λ n. gives ((tt, refl), refl)
      (λ h. record {
        says = λ names. rw (easing_says x h.1, range_alike x h.1);
        free = two_places h.0.0.1 h.0.1;
      }))))))

  morph_alike : {H : Type 0} → LeafRule H parse_morph
  unfolding parse_morph morph_fields free_in validate_leaf validate_morph
  morph_alike =
      free-then (λ s. quote_at s ∷ []) free_in second free-string
      (λ a b. and_free second (two-marks 61 62 (λ ts us i. arrow_agrees i))
      (free-then (λ s. quote_at s ∷ []) second none_free free-string
      (λ s d.
      then (fields_alike x morph_fields (count_row x also number_row x also easing_row x also tt) [] [] (λ h. nil))
      (λ fs gs. same_then (duration_alike fs gs (λ h. h.1))
      (λ n. gives ((tt, refl), refl)
      (λ h. record {
        says = λ names. rw (easing_says x h.1, number_alike x h.1 "samples");
        free = two_places h.0.0.1 h.0.1;
      }))))))

  draw_rows : Rows x (ContentAlike x) draw_fields
  unfolding draw_fields
  draw_rows = number_row x also easing_row x also tt

  draw_alike : {H : Type 0} → LeafRule H parse_draw
  unfolding parse_draw free_in validate_leaf validate_draw
  draw_alike =
      free-then (λ s. quote_at s ∷ []) free_in none_free free-string
      (λ s d.
      then (fields_alike x draw_fields draw_rows [] [] (λ h. nil))
      (λ fs gs. same_then (duration_alike fs gs (λ h. h.1))
      (λ n. gives (tt, refl) (λ h. record { says = λ names. rw (easing_says x h.1); free = one_place h.0.1 }))))

  space_row : {H : Type 0} → Alikes x H space space (ContentAlike x)
  unfolding space
  space_row = same_then (a_choice Malformed (words space_names)) (λ k. gives tt (λ h. number_content k))

  color_alike : {H : Type 0} → LeafRule H parse_color
  unfolding parse_color color_fields free_in validate_leaf validate_color
  color_alike =
      free-then (λ s. name_at s ∷ []) free_in none_free free-ident
      (λ a b. and (the-mark 58 refl)
      (then (string_alike x)
      (λ s d. and (two-marks 61 62 (λ ts us i. arrow_agrees i))
      (then (string_alike x)
      (λ s' d'.
      then (fields_alike x color_fields (number_row x also space_row also easing_row x also tt) [] [] (λ h. nil))
      (λ fs gs. same_then (duration_alike fs gs (λ h. h.1))
      (λ n. gives (tt, refl)
      (λ h. record { says = λ names. rw (h.0.0.1, h.0.1, easing_says x h.1); free = one_place h.0.0.0.1 }))))))))

  -- ---- waveform, preset, label, at

  kind_alike : {H : Type 0} → Alikes x H waveform_kind waveform_kind ◌≡◌
  unfolding waveform_kind unless_noise
  kind_alike =
      same_then (a_choice Malformed (words waveform_names))
      (λ k. conds (eqb k 4) (eqb k 4) (λ h. refl) refuses (gives tt (λ h. refl)))

  waveform_alike : {H : Type 0} → LeafRule H parse_waveform
  unfolding parse_waveform waveform_fields free_in validate_leaf validate_waveform
  waveform_alike =
      plainly free_in
      (same_then kind_alike
      (λ k.
      then (fields_alike x waveform_fields
      (number_row x also number_row x also number_row x also number_row x also count_row x also number_row x also number_row x also tt)
      [] [] (λ h. nil))
      (λ fs gs. gives refl (λ h. record { says = λ names. rw (number_alike x h.1 "frequency"); free = refl }))))

  label_alike : {H : Type 0} → LeafRule H parse_label
  unfolding parse_label free_in validate_leaf
  label_alike =
      free-then (λ s. quote_at s ∷ []) free_in none_free free-string
      (λ s d. and (the-mark 59 refl) (gives (tt, refl) (λ h. record { says = λ names. refl; free = one_place h.1 })))

  sign_alike : {H : Type 0} → Alikes x H at_sign at_sign ◌≡◌
  unfolding at_sign
  sign_alike =
      same_then (eats 43 refl)
      (λ p. same_then (conds p p (λ h. refl) (gives (λ e. never e) (λ h. refl)) (eats 45 refl)) (λ m. gives tt (λ h. refl)))

  at_alike : {H : Type 0} → LeafRule H parse_at
  unfolding parse_at free_in validate_leaf
  at_alike =
      plainly free_in
      (same_then sign_alike
      (λ s. same_then (a_number_lem sees_number Malformed (λ ts us i. number_agrees i))
      (λ w.
      let n : Leaf Key = Leaf.at (record { value = bits (nearest (turned s.1 w.0) w.1); relative = s.0 }) in
      let r : Bool = number_rounded (turned s.1 w.0) w.1 in
      and (counts r r)
      (and {f = give n} {g = give n} (eats 59 refl) (gives refl (λ h. record { says = λ names. refl; free = refl }))))))

  pairs_or : {H : Type 0}
      → Alikes x H (if (sees "(") (inside "(" (pairs draw_fields)) (give [])) (if (sees "(") (inside "(" (pairs draw_fields)) (give []))
      (FieldsAlike x)
  pairs_or =
      tests (sees "(") (sees "(") (λ h ts us i. byte_agrees i 40) (group 40 refl (pairs_alike x draw_fields draw_rows)) (gives tt (λ h. nil))

  fields_or : {H : Type 0} (fs gs : Fields) → (H → FieldsAlike x fs gs)
      → Alikes x H (if (sees ",") (skip >> parse_field_list draw_fields fs) (give fs))
      (if (sees ",") (skip >> parse_field_list draw_fields gs) (give gs))
      (FieldsAlike x)
  fields_or fs gs r =
      tests (sees ",") (sees ",") (λ h ts us i. byte_agrees i 44)
      (and {f = parse_field_list draw_fields fs} {g = parse_field_list draw_fields gs} skips (fields_alike x draw_fields draw_rows fs gs r))
      (gives tt r)

  preset_alike : {H : Type 0} → LeafRule H parse_preset_call
  unfolding parse_preset_call free_in validate_leaf validate_preset_call
  preset_alike =
      plainly free_in
      (then (ident_alike x)
      (λ s d.
      then pairs_or
      (λ fs gs.
      then (fields_or fs gs (λ h. h.1))
      (λ fs' gs'. gives refl
      (λ h. record {
        says = λ names. rw (h.0.0.1, easing_says x h.1, number_alike x h.1 "duration");
        free = refl;
      })))))

  -- ---- all of them

  abbrev pub LeafRows : List (String × Rule (Leaf Key)) → Type 0
  LeafRows t = All (λ f. LeafRule Unit f.1) t

  pub leaf_rows : LeafRows leaves
  unfolding leaves
  leaf_rows =
      tween_alike also spring_alike also keyframes_alike also path_alike also morph_alike
      also draw_alike also color_alike also waveform_alike also preset_alike also label_alike
      also at_alike also tt

  pub container_rows : Rows x ◌≡◌ containers
  unfolding containers parse_sequence parse_parallel
  container_rows = gives tt (λ h. refl) also gives tt (λ h. refl) also group_alike also stagger_alike also tt
