-- The leaves spring, path, morph, color and waveform, as they are written, are read.
use Prim.Native.Nat.{ℕ}
use mathlib.Core.List.{List, [], ◌∷◌}
use mathlib.Core.Option.{Option, some}
use mathlib.Core.Path.{◌≡◌, refl}
use native.Mathlib.Omega.{arith}
use borrow.Author.Tests.{ne_eqb}
use Rattle.text.specs.Bytes.{same}
use Rattle.text.specs.Words.{find}
use Rattle.token.specs.Names.{is_keyword}
use Rattle.ast.specs.Tree.{EasingSpec, WaveformSpec}
use Rattle.error.specs.declared.Refusal.TheVariants.{Malformed, MissingDuration, UnknownSpringPreset}
use Rattle.grammar.specs.Fields.{a_number, a_truth, an_easing, a_loop_mode, a_value, a_range, Fields, row_of, parse_field_list}
use Rattle.grammar.specs.Fields.{last, last_number, last_truth, last_easing, last_loop_mode, last_value, last_damping, last_range}
use Rattle.grammar.specs.Values.{number, count, flag, loop_mode}
use Rattle.grammar.specs.Values.{value as value_field}
use Rattle.grammar.specs.Grammar.{stored, parse_spring_preset, spring_preset, integrator, spring_fields, parse_spring, path_fields, parse_path}
use Rattle.grammar.specs.Grammar.{morph_fields, parse_morph, space, color_fields, parse_color}
use Rattle.grammar.specs.Grammar.{unless_noise, waveform_kind, waveform_fields, parse_waveform}
use Rattle.grammar.specs.Grammar.{offset as offset_field}
use Rattle.pieces.specs.Pieces.{Piece, Form}
use Rattle.fresh.specs.Meaning.{option_sense, leaf_sense, SpringSense, PathSense, MorphSense}
use Rattle.fresh.specs.Meaning.{ColorSense, spring, path, morph, color, waveform}
use Rattle.fresh.specs.Fresh.{f32, u32, truth, value, offset, choose, word_at}
use Rattle.fresh.specs.Fresh.{wave_names, unless_is, leaf_body}
use Rattle.grammar.specs.Grammar.{preset_names, integrator_names, space_names}
use Rattle.grammar.specs.Grammar.{waveform_names}
use Rattle.fresh.specs.Fresh.{loop_mode as loop_pieces}
use Rattle.fresh.proofs.ReadLaws.{Reads, gives, then, and, the-mark, two-marks, needs, loops}
use Rattle.fresh.proofs.ValueLaws.{quiet_mark, quiet_field, reads-value, reads-ident, reads-string, a_float, a_count, a_truth_lem}
use Rattle.fresh.proofs.EntryLaws.{put, opt, damp, number_past, number-here, truth-past, truth-here, easing-past}
use Rattle.fresh.proofs.EntryLaws.{easing-here, loop_past, loop_here, value-past, value-here, range_past, range_here}
use Rattle.fresh.proofs.EntryLaws.{damping-past, number_damp, value_damp, damp_here, or_none, unless-default}
use Rattle.fresh.proofs.FieldLaws.{plain_name, loop-name, closes_list, exact, eased, damped, a_loop, a_value_lem, a_range_lem}
use Rattle.fresh.proofs.FieldLaws.{reads_word, reads-choice}

-- ---- what the lists of fields say

abbrev pathed : PathSense → Option EasingSpec → Fields
pathed d o =
    put "loop" (opt a_loop_mode d.loop_mode) (put "offset" (opt a_range d.offset) (put "auto_rotate" (opt a_truth d.auto_rotate)
    (put "easing" (opt an_easing o) (put "duration" (some (a_number d.duration)) []))))

record PathSays (d : PathSense) (o : Option EasingSpec) (fs : Fields) : Type 0 where
  duration : last_number "duration" fs ≡ some d.duration
  easing : last_easing fs ≡ o
  auto_rotate : last_truth "auto_rotate" fs ≡ d.auto_rotate
  offset : last_range fs ≡ d.offset
  loop_mode : last_loop_mode fs ≡ d.loop_mode

path_says : (d : PathSense) (o : Option EasingSpec) → PathSays d o (pathed d o)
unfolding last same
path_says d o = record {
  duration = simp number_past;
  easing = simp (easing-past, easing-here) (or_none o);
  auto_rotate = simp (truth-past, truth-here) (or_none d.auto_rotate);
  offset = simp (range_past, range_here) (or_none d.offset);
  loop_mode = simp loop_here (simp loop_past (or_none d.loop_mode));
}

abbrev morphed : MorphSense → Option EasingSpec → Fields
morphed d o =
    put "easing" (opt an_easing o)
    (put "duration" (some (a_number d.duration)) (put "samples" (opt a_number (unless_is 32 d.samples)) []))

record MorphSays (d : MorphSense) (o : Option EasingSpec) (fs : Fields) : Type 0 where
  samples : last_number "samples" fs ≡ unless_is 32 d.samples
  duration : last_number "duration" fs ≡ some d.duration
  easing : last_easing fs ≡ o

morph_says : (d : MorphSense) (o : Option EasingSpec) → MorphSays d o (morphed d o)
unfolding last same
morph_says d o = record {
  samples = simp (number_past, number-here) (or_none (unless_is 32 d.samples));
  duration = simp number_past;
  easing = simp (easing-past, easing-here) (or_none o);
}

abbrev colored : ColorSense → Option EasingSpec → Fields
colored d o =
    put "easing" (opt an_easing o) (put "space" (opt a_number (unless_is 0 d.space)) (put "duration" (some (a_number d.duration)) []))

record ColorSays (d : ColorSense) (o : Option EasingSpec) (fs : Fields) : Type 0 where
  duration : last_number "duration" fs ≡ some d.duration
  space : last_number "space" fs ≡ unless_is 0 d.space
  easing : last_easing fs ≡ o

color_says : (d : ColorSense) (o : Option EasingSpec) → ColorSays d o (colored d o)
unfolding last same
color_says d o = record {
  duration = simp number_past;
  space = simp (number_past, number-here) (or_none (unless_is 0 d.space));
  easing = simp (easing-past, easing-here) (or_none o);
}

abbrev waved : WaveformSpec → Fields
waved d =
    put "duration" (opt a_number d.duration)
    (put "smoothness" (opt a_number d.smoothness)
    (put "seed" (opt a_number d.seed)
    (put "duty_cycle" (opt a_number d.duty_cycle)
    (put "phase" (opt a_number d.phase)
    (put "amplitude" (opt a_number d.amplitude) (put "frequency" (opt a_number d.frequency) []))))))

record WaveSays (d : WaveformSpec) (fs : Fields) : Type 0 where
  frequency : last_number "frequency" fs ≡ d.frequency
  amplitude : last_number "amplitude" fs ≡ d.amplitude
  phase : last_number "phase" fs ≡ d.phase
  duty_cycle : last_number "duty_cycle" fs ≡ d.duty_cycle
  seed : last_number "seed" fs ≡ d.seed
  smoothness : last_number "smoothness" fs ≡ d.smoothness
  duration : last_number "duration" fs ≡ d.duration

wave_says : (d : WaveformSpec) → WaveSays d (waved d)
unfolding last same
wave_says d = record {
  frequency = simp (number_past, number-here) (or_none d.frequency);
  amplitude = simp (number_past, number-here) (or_none d.amplitude);
  phase = simp (number_past, number-here) (or_none d.phase);
  duty_cycle = simp (number_past, number-here) (or_none d.duty_cycle);
  seed = simp (number_past, number-here) (or_none d.seed);
  smoothness = simp (number_past, number-here) (or_none d.smoothness);
  duration = simp (number_past, number-here) (or_none d.duration);
}

abbrev sprung : SpringSense → Fields
sprung d =
    damp d.damping_mode
    (put "integrator" (opt a_number d.integrator)
    (put "epsilon" (opt a_number d.epsilon)
    (put "velocity" (opt a_value d.velocity)
    (put "mass" (opt a_number d.mass)
    (put "damping" (opt a_number d.damping)
    (put "stiffness" (opt a_number d.stiffness) (put "preset" (opt a_number d.preset) [])))))))

record SpringSays (d : SpringSense) (fs : Fields) : Type 0 where
  preset : last_number "preset" fs ≡ d.preset
  stiffness : last_number "stiffness" fs ≡ d.stiffness
  damping : last_number "damping" fs ≡ d.damping
  mass : last_number "mass" fs ≡ d.mass
  velocity : last_value fs ≡ d.velocity
  epsilon : last_number "epsilon" fs ≡ d.epsilon
  integrator : last_number "integrator" fs ≡ d.integrator
  damping_mode : last_damping fs ≡ d.damping_mode

spring_says : (d : SpringSense) → SpringSays d (sprung d)
unfolding last same
spring_says d = record {
  preset = simp (number_damp, number_past, number-here) (or_none d.preset);
  stiffness = simp (number_damp, number_past, number-here) (or_none d.stiffness);
  damping = simp (number_damp, number_past, number-here) (or_none d.damping);
  mass = simp (number_damp, number_past, number-here) (or_none d.mass);
  velocity = simp (value_damp, value-past, value-here) (or_none d.velocity);
  epsilon = simp (number_damp, number_past, number-here) (or_none d.epsilon);
  integrator = simp (number_damp, number_past, number-here) (or_none d.integrator);
  damping_mode = simp (damp_here, damping-past) (or_none d.damping_mode);
}

module _ {form : Form} {s : List ℕ} where
  -- ---- path

  pub reads_path : (d : PathSense) (us : List Piece)
      → Reads form s 1 parse_path (leaf_body (path d) us) us (λ l. leaf_sense stored s l ≡ path d)
  unfolding word_at leaf_body parse_path parse_field_list path_fields row_of same is_keyword find
  reads_path d us =
      let q = quiet_mark form 59 us refl refl in
      let q5 = quiet_field form "loop" loop_pieces d.loop_mode _ q in
      let q4 = quiet_field form "offset" offset d.offset _ q5 in
      let q3 = quiet_field form "auto_rotate" truth d.auto_rotate _ q4 in
      then (reads-ident d.target _)
      (λ x h.
      and (reads-choice Malformed ("along" ∷ []) 0 _ (refl, refl, tt))
      (then (reads-string d.svg _)
      (λ y i.
      then {R = λ fs. (o : Option EasingSpec) × (option_sense s o ≡ d.easing) × (fs ≡ pathed d o)}
      (loops (exact path_fields [] "duration" number f32 a_number (some d.duration) (plain_name "duration" refl refl) refl
      (λ b. a_float b _)
      (eased path_fields _ d.easing refl q3
      (λ o g.
      exact path_fields _ "auto_rotate" flag truth a_truth d.auto_rotate (plain_name "auto_rotate" refl refl) refl (λ b. a_truth_lem b _)
      (exact path_fields _ "offset" offset_field offset a_range d.offset (plain_name "offset" refl refl) refl (λ r. a_range_lem r _)
      (exact path_fields _ "loop" loop_mode loop_pieces a_loop_mode d.loop_mode loop-name refl (λ m. a_loop m _ q)
      (closes_list path_fields _ us (o, g, refl))))))))
      (λ fs g.
      let e = path_says d g.0 in
      then (needs MissingDuration (last_number "duration" fs) d.duration (rw g.2 e.duration))
      (λ n k. gives (rw (k, g.2, e.easing, g.1, e.auto_rotate, e.offset, e.loop_mode, h, i)))))))

  -- ---- morph

  pub reads_morph : (d : MorphSense) (us : List Piece)
      → Reads form s 1 parse_morph (leaf_body (morph d) us) us (λ l. leaf_sense stored s l ≡ morph d)
  unfolding leaf_body parse_morph parse_field_list morph_fields row_of same is_keyword find
  reads_morph d us =
      then (reads-string d.from _)
      (λ x h.
      and (two-marks 61 62 _ refl refl)
      (then (reads-string d.to _)
      (λ y i.
      then {R = λ fs. (o : Option EasingSpec) × (option_sense s o ≡ d.easing) × (fs ≡ morphed d o)}
      (loops (exact morph_fields [] "samples" count u32 a_number (unless_is 32 d.samples) (plain_name "samples" refl refl) refl
      (λ b. a_count b _)
      (exact morph_fields _ "duration" number f32 a_number (some d.duration) (plain_name "duration" refl refl) refl (λ b. a_float b _)
      (eased morph_fields _ d.easing refl (quiet_mark form 59 us refl refl)
      (λ o g.
      closes_list morph_fields _ us (o, g, refl))))))
      (λ fs g.
      let e = morph_says d g.0 in
      then (needs MissingDuration (last_number "duration" fs) d.duration (rw g.2 e.duration))
      (λ n k. gives (rw (k, g.2, e.easing, g.1, e.samples, unless-default 32 d.samples, h, i)))))))

  -- ---- color

  a_space : (k : ℕ) (us : List Piece) → Reads form s 1 space (choose space_names k us) us (λ c. c ≡ a_number k)
  unfolding space choose same is_keyword find
  a_space k us = then (reads-choice Malformed space_names k us (refl, refl, (refl, refl, (refl, refl, tt)))) (λ j h. gives (rw h))

  pub reads_color : (d : ColorSense) (us : List Piece)
      → Reads form s 1 parse_color (leaf_body (color d) us) us (λ l. leaf_sense stored s l ≡ color d)
  unfolding leaf_body parse_color parse_field_list color_fields row_of same is_keyword find
  reads_color d us =
      then (reads-ident d.target _)
      (λ z j.
      and (the-mark 58 _ refl)
      (then (reads-string d.from _)
      (λ x h.
      and (two-marks 61 62 _ refl refl)
      (then (reads-string d.to _)
      (λ y i.
      then {R = λ fs. (o : Option EasingSpec) × (option_sense s o ≡ d.easing) × (fs ≡ colored d o)}
      (loops (exact color_fields [] "duration" number f32 a_number (some d.duration) (plain_name "duration" refl refl) refl
      (λ b. a_float b _)
      (exact color_fields _ "space" space (choose space_names) a_number (unless_is 0 d.space) (plain_name "space" refl refl) refl
      (λ b. a_space b _)
      (eased color_fields _ d.easing refl (quiet_mark form 59 us refl refl)
      (λ o g.
      closes_list color_fields _ us (o, g, refl))))))
      (λ fs g.
      let e = color_says d g.0 in
      then (needs MissingDuration (last_number "duration" fs) d.duration (rw g.2 e.duration))
      (λ n k. gives (rw (k, g.2, e.easing, g.1, e.space, unless-default 0 d.space, j, h, i)))))))))

  -- ---- waveform

  -- a kind that has a word is not noise
  reads-kind : (k : ℕ) (us : List Piece) → Reads form s 1 waveform_kind (word_at wave_names k ∷ us) us (λ j. j ≡ k)
  unfolding waveform_kind unless_noise same is_keyword find
  reads-kind k us =
      then {d = 0} (reads_word Malformed waveform_names wave_names 0 k us
      (refl, refl, (refl, refl, (refl, refl, (refl, refl, tt)))))
      (λ j h. let e = h.0 in let l = h.1 in rw (ne_eqb j 4 (λ f. omega arith)) (gives (omega arith)))

  pub reads_waveform : (d : WaveformSpec) (us : List Piece)
      → Reads form s 1 parse_waveform (leaf_body (waveform d) us) us (λ l. leaf_sense stored s l ≡ waveform d)
  unfolding leaf_body parse_waveform parse_field_list waveform_fields row_of same is_keyword find
  reads_waveform d us =
      then (reads-kind d.kind _)
      (λ k h.
      then {R = λ fs. fs ≡ waved d}
      (loops (exact waveform_fields [] "frequency" number f32 a_number d.frequency (plain_name "frequency" refl refl) refl
      (λ b. a_float b _)
      (exact waveform_fields _ "amplitude" number f32 a_number d.amplitude (plain_name "amplitude" refl refl) refl (λ b. a_float b _)
      (exact waveform_fields _ "phase" number f32 a_number d.phase (plain_name "phase" refl refl) refl (λ b. a_float b _)
      (exact waveform_fields _ "duty_cycle" number f32 a_number d.duty_cycle (plain_name "duty_cycle" refl refl) refl (λ b. a_float b _)
      (exact waveform_fields _ "seed" count u32 a_number d.seed (plain_name "seed" refl refl) refl (λ b. a_count b _)
      (exact waveform_fields _ "smoothness" number f32 a_number d.smoothness (plain_name "smoothness" refl refl) refl (λ b. a_float b _)
      (exact waveform_fields _ "duration" number f32 a_number d.duration (plain_name "duration" refl refl) refl (λ b. a_float b _)
      (closes_list waveform_fields _ us refl)))))))))
      (λ fs g.
      let e = wave_says d in
      gives (rw (h, g, e.frequency, e.amplitude, e.phase, e.duty_cycle, e.seed, e.smoothness, e.duration))))

  -- ---- spring

  a_preset : (k : ℕ) (us : List Piece) → Reads form s 1 spring_preset (choose preset_names k us) us (λ c. c ≡ a_number k)
  unfolding spring_preset parse_spring_preset choose same is_keyword find
  a_preset k us =
      then (reads-choice UnknownSpringPreset preset_names k us (refl, refl, (refl, refl, (refl, refl, (refl, refl, (refl, refl, tt))))))
      (λ j h. gives (rw h))

  an_integrator : (k : ℕ) (us : List Piece) → Reads form s 1 integrator (choose integrator_names k us) us (λ c. c ≡ a_number k)
  unfolding integrator choose same is_keyword find
  an_integrator k us = then (reads-choice Malformed integrator_names k us (refl, refl, (refl, refl, tt))) (λ j h. gives (rw h))

  pub reads_spring : (d : SpringSense) (us : List Piece)
      → Reads form s 1 parse_spring (leaf_body (spring d) us) us (λ l. leaf_sense stored s l ≡ spring d)
  unfolding leaf_body parse_spring parse_field_list spring_fields row_of same is_keyword find
  reads_spring d us =
      then (reads-ident d.target _)
      (λ x h.
      and (the-mark 58 _ refl)
      (then (reads-value d.from _)
      (λ a i.
      and (two-marks 61 62 _ refl refl)
      (then (reads-value d.to _)
      (λ b j.
      then {R = λ fs. fs ≡ sprung d}
      (loops (exact spring_fields [] "preset" spring_preset (choose preset_names) a_number d.preset (plain_name "preset" refl refl) refl
      (λ b. a_preset b _)
      (exact spring_fields _ "stiffness" number f32 a_number d.stiffness (plain_name "stiffness" refl refl) refl (λ b. a_float b _)
      (exact spring_fields _ "damping" number f32 a_number d.damping (plain_name "damping" refl refl) refl (λ b. a_float b _)
      (exact spring_fields _ "mass" number f32 a_number d.mass (plain_name "mass" refl refl) refl (λ b. a_float b _)
      (exact spring_fields _ "velocity" value_field value a_value d.velocity (plain_name "velocity" refl refl) refl (λ v. a_value_lem v _)
      (exact spring_fields _ "epsilon" number f32 a_number d.epsilon (plain_name "epsilon" refl refl) refl (λ b. a_float b _)
      (exact spring_fields _ "integrator" integrator (choose integrator_names) a_number d.integrator (plain_name "integrator" refl refl)
      refl (λ b. an_integrator b _)
      (damped _ d.damping_mode
      (closes_list spring_fields _ us refl))))))))))
      (λ fs g.
      let e = spring_says d in
      gives (rw (i, j, g, e.preset, e.stiffness, e.damping, e.mass, e.velocity, e.epsilon, e.integrator, e.damping_mode, h))))))))
