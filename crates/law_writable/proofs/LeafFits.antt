-- The leaves that a rule reads can be written, but for tracks.
use Prim.Native.Nat.{ℕ, ◌≤◌, ◌<◌}
use Prim.Native.String.{String}
use mathlib.Core.Bool.{Bool, true, false, cond}
use mathlib.Core.List.{List, [], ◌∷◌}
use mathlib.Core.Option.{Option, none, some}
use mathlib.Core.Path.{◌≡◌, refl, sym}
use native.Mathlib.Omega.{arith}
use borrow.Author.Tests.{eqb-false}
use lib.Dec.{eqb}
use lib.ListN.{length, drop}
use Rattle.text.specs.Bytes.{same, one_of}
use Rattle.text.specs.Words.{words, find, default}
use Rattle.number.specs.Number.{Written, nearest, bits}
use Rattle.number.specs.Rounded.{number_rounded}
use Rattle.number.specs.Time.{Key}
use Rattle.codec.proofs.Laws.{All}
use Rattle.token.specs.Token.{tokens_from}
use Rattle.token.proofs.WholeLaws.{never, neither}
use Rattle.ast.specs.Tree.{DampingMode, critically_damped, overdamped, underdamped, Leaf}
use Rattle.error.specs.declared.Refusal.TheVariants.{Malformed, UnknownSpringPreset, MissingDuration}
use Rattle.grammar.specs.Rule.{Rule, give, eat, sees, sees_byte}
use Rattle.grammar.specs.Fields.{Content, a_damping, Fields, last_number, last_truth, last_easing}
use Rattle.grammar.specs.Fields.{last_loop_mode, last_value, last_damping, last_range, ever}
use Rattle.grammar.specs.Grammar.{stored, tween_fields, parse_tween, spring_fields, parse_spring_preset, spring_preset, integrator}
use Rattle.grammar.specs.Grammar.{critical_damping, over_damping, under_damping, parse_spring, offset, path_fields, parse_path}
use Rattle.grammar.specs.Grammar.{morph_fields, parse_morph, draw_fields, parse_draw, space, color_fields, parse_color}
use Rattle.grammar.specs.Grammar.{unless_noise, waveform_kind, waveform_fields, parse_waveform, parse_preset_call, parse_label}
use Rattle.grammar.specs.Grammar.{at_sign, turned, parse_at}
use Rattle.digits.specs.Numeral.{all}
use Rattle.pieces.specs.Pieces.{Form, word_like}
use Rattle.pieces.specs.Means.{InText, Complete}
use Rattle.pieces.proofs.TextLaws.{lexeme_fine}
use Rattle.fresh.specs.Meaning.{EasingSense, option_sense, leaf_sense}
use Rattle.fresh.specs.Fresh as pieces
use Rattle.fresh.specs.Fresh.{f32, u32, field, only_true, unless_is, choose, comma_if, at_value, leaf_body}
use Rattle.fresh.specs.Fresh.{wave_names}
use Rattle.grammar.specs.Grammar.{preset_names, integrator_names, space_names}
use Rattle.grammar.specs.Grammar.{waveform_names}
use Rattle.law_rules.proofs.RunLaws as run
use Rattle.law_rules.proofs.TakeLaws as tokens
use Rattle.law_rules.proofs.ListLaws.{◌also◌}
use Rattle.law_rules.proofs.FieldLaws.{On}
use Rattle.law_rules.proofs.AlwaysLaws.{Always, gives, refuses, then, and, tests, conds, needs, skips, weaken}
use Rattle.law_rules.proofs.AlwaysLaws.{the-mark, two-marks, in_group, a_choice, Row, pairs_of, fields-of}
use Rattle.law_writable.proofs.ValueFits.{Fit, ◌▸◌, fit-one, fit_none, fit_mark, ident-fits, string-fits, nearest-fits}
use Rattle.law_writable.proofs.ValueFits.{float_fits, float_in_parens, two_in_parens, value-fits, truth-fits}
use Rattle.law_writable.proofs.FieldFits.{field_fits, unless-fits, word_fits, numeric}
use Rattle.law_writable.proofs.FieldFits.{Fair, number_on, number_is, easing_on, loop_on}
use Rattle.law_writable.proofs.FieldFits.{value_on, damping_on, range_on, number_row, count_row}
use Rattle.law_writable.proofs.FieldFits.{case_row, value_row, loop-row, flag_row, easing_row}

truth_on : (form : Form) (o : Option Bool) → On (λ b. Fit form (pieces.truth b)) o
truth_on form none = tt
truth_on form (some b) = truth-fits form b

module _ {form : Form} where
  semi : Fit form (λ us. pieces.mark ";" ∷ us)
  unfolding one_of
  semi = fit_mark 59 refl

  damping-fits : (o : Option DampingMode) → On (λ d. Fit form (pieces.damping (some d))) o → Fit form (pieces.damping o)
  unfolding pieces.damping
  damping-fits none h = fit_none
  damping-fits (some d) h = h

  comma_fits : (a : Option ℕ) (e : Option EasingSense) → Fit form (comma_if a e)
  unfolding comma_if one_of
  comma_fits none none = fit_none
  comma_fits none (some e) = fit_mark 44 refl
  comma_fits (some a) e = fit_mark 44 refl

module _ {form : Form} (complete : Complete form) (u : List ℕ) where
  abbrev Fields-of : Fields → Type 0
  Fields-of fs = All (Fair form u) fs

  abbrev pub LeafFits : Rule (Leaf Key) → Type 0
  LeafFits p = Always u p (λ l. Fit form (leaf_body (leaf_sense stored u l)))

  -- a duration that there must be
  needed : (fs : Fields) → Fields-of fs → (d : ℕ) → last_number "duration" fs ≡ some d → Fit form (field "duration" f32 (some d))
  unfolding numeric same find word_like all
  needed fs h d e = field_fits form "duration" f32 (some d) refl (number_is form u fs h "duration" f32 d refl e)

  eased : (fs : Fields) → Fields-of fs → Fit form (field "easing" pieces.easing (option_sense u (last_easing fs)))
  unfolding word_like all
  eased fs h = field_fits form "easing" pieces.easing _ refl (easing_on form u fs h)

  -- ---- tween

  tween_rows : All (Row u (Fair form u)) tween_fields
  unfolding tween_fields numeric same find
  tween_rows =
      number_row complete u "duration" refl also easing_row complete u "easing" also number_row complete u "delay" refl
      also number_row complete u "time_scale" refl also loop-row complete u "loop" also number_row complete u "snap" refl
      also count_row complete u "round" refl also flag_row complete u "reverse" also tt

  tween_written : (fs : Fields) → Fields-of fs
      → Fit form (λ us. field "delay" f32 (last_number "delay" fs) (field "time_scale" f32 (last_number "time_scale" fs)
      (field "loop" pieces.loop_mode (last_loop_mode fs) (field "snap" f32 (last_number "snap" fs) (field "round" u32 (last_number "round" fs)
      (field "reverse" pieces.truth (only_true (ever "reverse" fs)) us))))))
  unfolding numeric same find word_like all
  tween_written fs h =
      field_fits form "delay" f32 _ refl (number_on form u fs h "delay" f32 refl)
      ▸ field_fits form "time_scale" f32 _ refl (number_on form u fs h "time_scale" f32 refl)
      ▸ field_fits form "loop" pieces.loop_mode _ refl (loop_on form u fs h)
      ▸ field_fits form "snap" f32 _ refl (number_on form u fs h "snap" f32 refl)
      ▸ field_fits form "round" u32 _ refl (number_on form u fs h "round" u32 refl)
      ▸ field_fits form "reverse" pieces.truth _ refl (truth_on form (only_true (ever "reverse" fs)))

  pub tween_fits : LeafFits parse_tween
  unfolding parse_tween leaf_body one_of
  tween_fits =
      then ident-fits (λ x a. and (the-mark 58)
      (then (value-fits complete) (λ v b. and (two-marks 61 62)
      (then (value-fits complete) (λ w c.
      then (fields-of u (Fair form u) tween_fields tween_rows [] tt) (λ fs h.
      then (needs MissingDuration (last_number "duration" fs)) (λ d e.
      gives (a ▸ fit_mark 58 refl ▸ b ▸ fit-one (refl, refl) ▸ c ▸ needed fs h d e ▸ eased fs h ▸ tween_written fs h ▸ semi))))))))

  -- ---- spring

  damped_row : (w : String) (p : Rule Content) → Always u p (λ c. (d : DampingMode) × (c ≡ a_damping d) × Fit form (pieces.damping (some d)))
      → Row u (Fair form u) (w, p)
  damped_row w p x =
      weaken x (λ c y. rw y.1 (record { number = tt; easing = tt; loop_mode = tt; value = tt; damping = y.2; range = tt }))

  critical_fits : Row u (Fair form u) ("critically_damped", critical_damping)
  unfolding critical_damping pieces.damping word_like all one_of
  critical_fits = damped_row "critically_damped" _ (then (float_in_parens complete) (λ a x.
      gives (critically_damped a, refl, fit-one refl ▸ fit_mark 58 refl ▸ fit_mark 40 refl ▸ x ▸ fit_mark 41 refl)))

  over-fits : Row u (Fair form u) ("overdamped", over_damping)
  unfolding over_damping pieces.damping word_like all one_of
  over-fits =
      damped_row "overdamped" _
      (then (two_in_parens complete)
      (λ p x.
      gives (
        overdamped p.0 p.1,
        refl,
        fit-one refl ▸ fit_mark 58 refl ▸ fit_mark 40 refl ▸ x.0 ▸ fit_mark 44 refl ▸ x.1 ▸ fit_mark 41 refl,
      )))

  under-fits : Row u (Fair form u) ("underdamped", under_damping)
  unfolding under_damping pieces.damping word_like all one_of
  under-fits =
      damped_row "underdamped" _
      (then (two_in_parens complete)
      (λ p x.
      gives (
        underdamped p.0 p.1,
        refl,
        fit-one refl ▸ fit_mark 58 refl ▸ fit_mark 40 refl ▸ x.0 ▸ fit_mark 44 refl ▸ x.1 ▸ fit_mark 41 refl,
      )))

  spring_rows : All (Row u (Fair form u)) spring_fields
  unfolding spring_fields spring_preset parse_spring_preset integrator numeric same find word_like all
  spring_rows =
      case_row complete u "preset" UnknownSpringPreset preset_names refl (refl also refl also refl also refl also refl also tt)
      also number_row complete u "stiffness" refl also number_row complete u "damping" refl also number_row complete u "mass" refl
      also value_row complete u "velocity" also number_row complete u "epsilon" refl
      also case_row complete u "integrator" Malformed integrator_names refl (refl also refl also tt)
      also critical_fits also over-fits also under-fits also tt

  spring_written : (fs : Fields) → Fields-of fs
      → Fit form (λ us. field "preset" (choose preset_names) (last_number "preset" fs) (field "stiffness" f32 (last_number "stiffness" fs)
      (field "damping" f32 (last_number "damping" fs) (field "mass" f32 (last_number "mass" fs) (field "velocity" pieces.value (last_value fs)
      (field "epsilon" f32 (last_number "epsilon" fs) (field "integrator" (choose integrator_names) (last_number "integrator" fs)
      (pieces.damping (last_damping fs) us))))))))
  unfolding numeric same find word_like all
  spring_written fs h =
      field_fits form "preset" (choose preset_names) _ refl (number_on form u fs h "preset" (choose preset_names) refl)
      ▸ field_fits form "stiffness" f32 _ refl (number_on form u fs h "stiffness" f32 refl)
      ▸ field_fits form "damping" f32 _ refl (number_on form u fs h "damping" f32 refl)
      ▸ field_fits form "mass" f32 _ refl (number_on form u fs h "mass" f32 refl)
      ▸ field_fits form "velocity" pieces.value _ refl (value_on form u fs h)
      ▸ field_fits form "epsilon" f32 _ refl (number_on form u fs h "epsilon" f32 refl)
      ▸ field_fits form "integrator" (choose integrator_names) _ refl (number_on form u fs h "integrator" (choose integrator_names) refl)
      ▸ damping-fits (last_damping fs) (damping_on form u fs h)

  pub spring_fits : LeafFits parse_spring
  unfolding parse_spring leaf_body one_of
  spring_fits =
      then ident-fits (λ x a. and (the-mark 58)
      (then (value-fits complete) (λ v b. and (two-marks 61 62)
      (then (value-fits complete) (λ w c.
      then (fields-of u (Fair form u) spring_fields spring_rows [] tt) (λ fs h.
      gives (a ▸ fit_mark 58 refl ▸ b ▸ fit-one (refl, refl) ▸ c ▸ spring_written fs h ▸ semi)))))))

  -- ---- path

  range_row : Row u (Fair form u) ("offset", offset)
  unfolding offset pieces.offset one_of
  range_row = then (float_fits complete) (λ a x. and (two-marks 46 46) (then (float_fits complete) (λ b y.
      gives (record { number = tt; easing = tt; loop_mode = tt; value = tt; damping = tt; range = x ▸ fit-one (refl, refl) ▸ y }))))

  path_rows : All (Row u (Fair form u)) path_fields
  unfolding path_fields numeric same find
  path_rows =
      number_row complete u "duration" refl also easing_row complete u "easing" also flag_row complete u "auto_rotate"
      also range_row also loop-row complete u "loop" also tt

  path_written : (fs : Fields) → Fields-of fs
      → Fit form (λ us. field "auto_rotate" pieces.truth (last_truth "auto_rotate" fs) (field "offset" pieces.offset (last_range fs)
      (field "loop" pieces.loop_mode (last_loop_mode fs) us)))
  unfolding word_like all
  path_written fs h =
      field_fits form "auto_rotate" pieces.truth _ refl (truth_on form (last_truth "auto_rotate" fs))
      ▸ field_fits form "offset" pieces.offset _ refl (range_on form u fs h)
      ▸ field_fits form "loop" pieces.loop_mode _ refl (loop_on form u fs h)

  pub path_fits : LeafFits parse_path
  unfolding parse_path leaf_body word_like all
  path_fits =
      then ident-fits (λ x a. and (a_choice Malformed ("along" ∷ []))
      (then string-fits (λ y b.
      then (fields-of u (Fair form u) path_fields path_rows [] tt) (λ fs h.
      then (needs MissingDuration (last_number "duration" fs)) (λ d e.
      gives (a ▸ fit-one refl ▸ b ▸ needed fs h d e ▸ eased fs h ▸ path_written fs h ▸ semi))))))

  -- ---- morph and draw

  morph_rows : All (Row u (Fair form u)) morph_fields
  unfolding morph_fields numeric same find
  morph_rows = count_row complete u "samples" refl also number_row complete u "duration" refl also easing_row complete u "easing" also tt

  sampled : (fs : Fields) → Fields-of fs → Fit form (field "samples" u32 (unless_is 32 (default (last_number "samples" fs) 32)))
  unfolding numeric same find word_like all
  sampled fs h =
      field_fits form "samples" u32 _ refl (unless-fits form u32 32 (last_number "samples" fs) (number_on form u fs h "samples" u32 refl))

  pub morph_fits : LeafFits parse_morph
  unfolding parse_morph leaf_body one_of
  morph_fits =
      then string-fits (λ x a. and (two-marks 61 62)
      (then string-fits (λ y b.
      then (fields-of u (Fair form u) morph_fields morph_rows [] tt) (λ fs h.
      then (needs MissingDuration (last_number "duration" fs)) (λ d e.
      gives (a ▸ fit-one (refl, refl) ▸ b ▸ sampled fs h ▸ needed fs h d e ▸ eased fs h ▸ semi))))))

  draw_rows : All (Row u (Fair form u)) draw_fields
  unfolding draw_fields numeric same find
  draw_rows = number_row complete u "duration" refl also easing_row complete u "easing" also tt

  pub draw_fits : LeafFits parse_draw
  unfolding parse_draw leaf_body
  draw_fits =
      then string-fits (λ x a.
      then (fields-of u (Fair form u) draw_fields draw_rows [] tt) (λ fs h.
      then (needs MissingDuration (last_number "duration" fs)) (λ d e. gives (a ▸ needed fs h d e ▸ eased fs h ▸ semi))))

  -- ---- color

  color_rows : All (Row u (Fair form u)) color_fields
  unfolding color_fields space numeric same find word_like all
  color_rows =
      number_row complete u "duration" refl also case_row complete u "space" Malformed space_names refl (refl also refl also refl also tt)
      also easing_row complete u "easing" also tt

  spaced : (fs : Fields) → Fields-of fs → Fit form (field "space" (choose space_names) (unless_is 0 (default (last_number "space" fs) 0)))
  unfolding numeric same find word_like all
  spaced fs h =
      field_fits form "space" (choose space_names) _ refl
      (unless-fits form (choose space_names) 0 (last_number "space" fs) (number_on form u fs h "space" (choose space_names) refl))

  pub color_fits : LeafFits parse_color
  unfolding parse_color leaf_body one_of
  color_fits =
      then ident-fits (λ x a. and (the-mark 58)
      (then string-fits (λ y b. and (two-marks 61 62)
      (then string-fits (λ z c.
      then (fields-of u (Fair form u) color_fields color_rows [] tt) (λ fs h.
      then (needs MissingDuration (last_number "duration" fs)) (λ d e.
      gives (a ▸ fit_mark 58 refl ▸ b ▸ fit-one (refl, refl) ▸ c ▸ needed fs h d e ▸ spaced fs h ▸ eased fs h ▸ semi))))))))

  -- ---- waveform

  waveform_rows : All (Row u (Fair form u)) waveform_fields
  unfolding waveform_fields numeric same find
  waveform_rows =
      number_row complete u "frequency" refl also number_row complete u "amplitude" refl also number_row complete u "phase" refl
      also number_row complete u "duty_cycle" refl also count_row complete u "seed" refl also number_row complete u "smoothness" refl
      also number_row complete u "duration" refl also tt

  waveform_written : (fs : Fields) → Fields-of fs
      → Fit form
      (λ us. field "frequency" f32 (last_number "frequency" fs)
      (field "amplitude" f32 (last_number "amplitude" fs)
      (field "phase" f32 (last_number "phase" fs)
      (field "duty_cycle" f32 (last_number "duty_cycle" fs)
      (field "seed" u32 (last_number "seed" fs)
      (field "smoothness" f32 (last_number "smoothness" fs) (field "duration" f32 (last_number "duration" fs) us)))))))
  unfolding numeric same find word_like all
  waveform_written fs h =
      field_fits form "frequency" f32 _ refl (number_on form u fs h "frequency" f32 refl)
      ▸ field_fits form "amplitude" f32 _ refl (number_on form u fs h "amplitude" f32 refl)
      ▸ field_fits form "phase" f32 _ refl (number_on form u fs h "phase" f32 refl)
      ▸ field_fits form "duty_cycle" f32 _ refl (number_on form u fs h "duty_cycle" f32 refl)
      ▸ field_fits form "seed" u32 _ refl (number_on form u fs h "seed" u32 refl)
      ▸ field_fits form "smoothness" f32 _ refl (number_on form u fs h "smoothness" f32 refl)
      ▸ field_fits form "duration" f32 _ refl (number_on form u fs h "duration" f32 refl)

  -- a kind that is not noise has a word
  waveform_kind_lem : Always u waveform_kind (λ k. k < length (words wave_names))
  unfolding waveform_kind unless_noise
  waveform_kind_lem =
      then (a_choice Malformed waveform_names)
      (λ k l. conds (eqb k 4) (λ e. refuses) (λ e. gives (let n = eqb-false k 4 e in omega arith)))

  pub waveform_fits : LeafFits parse_waveform
  unfolding parse_waveform leaf_body word_like all
  waveform_fits =
      then waveform_kind_lem (λ k l.
      then (fields-of u (Fair form u) waveform_fields waveform_rows [] tt) (λ fs h.
      gives (fit-one (word_fits form wave_names k (refl also refl also refl also refl also tt) l) ▸ waveform_written fs h ▸ semi)))

  -- ---- preset, label

  preset_written : (fs : Fields) → Fields-of fs → Fit form (field "duration" f32 (last_number "duration" fs))
  unfolding numeric same find word_like all
  preset_written fs h = field_fits form "duration" f32 _ refl (number_on form u fs h "duration" f32 refl)

  pub preset_fits : LeafFits parse_preset_call
  unfolding parse_preset_call leaf_body
  preset_fits =
      then ident-fits (λ x a.
      then (tests (sees "(") (in_group 40 refl (pairs_of u (Fair form u) draw_fields draw_rows)) (gives tt)) (λ fs h.
      then (tests (sees ",") (and skips (fields-of u (Fair form u) draw_fields draw_rows fs h)) (gives h)) (λ gs k.
      gives (a ▸ comma_fits _ _ ▸ preset_written gs k ▸ eased gs k ▸ semi))))

  pub label_fits : LeafFits parse_label
  unfolding parse_label leaf_body
  label_fits = then string-fits (λ x a. and (the-mark 59) (gives (a ▸ semi)))

  -- ---- at

  -- the sign that `at` takes first: where there is none, no `-` stands next
  record Unsigned (v : Bool × Bool) (m : ℕ) : Type 0 where
    minus : v.0 ≡ false → v.1 ≡ false
    next : v.0 ≡ false → sees_byte 45 (tokens_from u m) ≡ false

  abbrev NoMinus : Bool → Bool → ℕ → Type 0
  NoMinus plus minus m = plus ≡ false → minus ≡ false → sees_byte 45 (tokens_from u m) ≡ false

  minus_runs : (plus : Bool) (q : ℕ) → q ≤ length u → run.Runs u (cond plus (give false) (eat "-")) q (NoMinus plus)
  minus_runs true q h = run.gives h (λ e f. absurd (never (sym e)))
  minus_runs false q h =
      run.tests (sees_byte 45)
      (λ e. run.and {f = give true} (tokens.skips_mark h 45 refl e) (λ m g a x. run.gives g (λ y z. absurd (never (sym z)))))
      (λ e. run.gives h (λ y z. e))

  sign_runs : (q : ℕ) → q ≤ length u → run.Runs u at_sign q Unsigned
  unfolding at_sign
  sign_runs q h =
      run.then (tokens.eats h 43 refl)
      (λ p m g x. run.then (minus_runs p m g)
      (λ d n f y. run.gives f (record { minus = λ e. (neither p d e).1; next = λ e. y (neither p d e).0 (neither p d e).1 })))

  at-written : (relative minus negative : Bool) (w : Written) → InText w → (relative ≡ false → (minus ≡ false) × (negative ≡ false))
      → Fit form (at_value relative (bits (nearest (turned minus negative) w)))
  unfolding at_value one_of
  at-written true m n w x e = fit_mark 43 refl ▸ nearest-fits complete (turned m n) w x
  at-written false m n w x e = let h = e refl in rw (h.0, h.1) (fit-one (complete.floats w x))

  pub at-fits : LeafFits parse_at
  unfolding parse_at leaf_body
  at-fits = record {
    runs = λ q h b.
        run.then (run.carries (sign_runs q h)) (λ v m g s.
        let x = s.0 in
        run.then (tokens.a_number_lem g Malformed) (λ w n f y.
        let number : InText w.1 = (rw y.lexed at (lexeme_fine (drop y.start u))) (y.free (s.1 b)) in
        run.tallies (number_rounded (turned v.1 w.0) w.1)
        (run.and (tokens.eats f 59 refl) (λ o i c z.
        run.gives i (at-written v.0 v.1 w.0 w.1 number (λ e. (x.minus e, y.plain (x.next e))) ▸ semi)))));
  }
