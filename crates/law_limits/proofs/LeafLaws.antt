-- Each rule for a node that holds no others gives one that fits the sheet, and whose record the text pays for.
use Prim.Native.Nat.{ℕ, ◌+◌, ◌*◌, ◌≤◌, ◌<◌}
use mathlib.Core.Bool.{Bool, true, false, cond}
use mathlib.Core.List.{List, [], ◌∷◌}
use mathlib.Core.Option.{Option, none, some}
use mathlib.Core.Path.{◌≡◌, refl, ap, ◌∙◌}
use mathlib.Core.Logic.{◌⊎◌, inl, inr}
use native.Mathlib.Omega.{arith}
use lib.Dec.{eqb}
use lib.ListN.{length, get_or}
use Rattle.text.specs.Limits.{text_limit}
use Rattle.text.specs.Bytes.{bytes, same, is_name}
use Rattle.text.specs.Words.{or_else, words}
use Rattle.text.proofs.WordLaws.{same_eq}
use Rattle.codec.specs.Codec.{Form, opt}
use Rattle.codec.proofs.Laws.{All, Law, opt_l}
use Rattle.sheet.proofs.FormLaws.{small}
use Rattle.number.proofs.Floats.{nearest-fits, bits_lt}
use Rattle.number.specs.Number.{nearest, bits}
use Rattle.number.specs.Rounded.{number_rounded}
use Rattle.number.specs.Time.{Key}
use Rattle.ast.specs.Tree.{Span, ValueExpr, DampingMode, critically_damped, overdamped, underdamped, TweenSpec, SpringSpec}
use Rattle.ast.specs.Tree.{PathSpec, MorphSpec, DrawSpec, ColorSpec, WaveformSpec, PresetCall, Leaf, single, map_leaf}
use Rattle.sheet.specs.Sheet.{Forest, word, value_form, node_form, tween_form, spring_form, waveform_form, preset_form}
use Rattle.sheet.proofs.Laws.{flag_l, damping_l, path_l, morph_l, draw_l, color_l, start_l, node_l}
use Rattle.error.specs.declared.Refusal.TheVariants.{MissingDuration, Malformed, UnknownSpringPreset}
use Rattle.grammar.specs.Rule.{Rule, ◌>>◌, give, if, sees, skip, inside}
use Rattle.grammar.specs.Fields.{Fields, a_damping, pairs, parse_field_list, last_number}
use Rattle.grammar.specs.Fields.{last_truth, last_easing, last_loop_mode, last_value, last_damping, ever, last}
use Rattle.grammar.specs.Grammar.{stored, tween_fields, parse_tween, spring_fields, parse_spring_preset, spring_preset}
use Rattle.grammar.specs.Grammar.{integrator, critical_damping, over_damping, under_damping, parse_spring, offset, path_fields, parse_path}
use Rattle.grammar.specs.Grammar.{morph_fields, parse_morph, draw_fields, parse_draw, space, color_fields, parse_color}
use Rattle.grammar.specs.Grammar.{unless_noise, waveform_kind, waveform_fields, parse_waveform, parse_preset_call, parse_label}
use Rattle.grammar.specs.Grammar.{at_sign, turned, parse_at}
use Rattle.grammar.specs.Grammar.{preset_names, integrator_names, space_names, waveform_names}
use Rattle.law_rules.proofs.RunLaws.{Runs, gives, refuses, then, and, tallies, weaken, tests, conds, needs}
use Rattle.law_rules.proofs.TakeLaws.{the-mark, two-marks, skips_mark, Eaten, eats, eaten, Number, a_number_lem, in_group}
use Rattle.law_rules.proofs.ListLaws.{◌also◌, a_choice}
use Rattle.law_limits.proofs.SizeLaws.{Most, all, ◌⊕◌, span_most, tween_size, tween_rest, spring_size, path_size}
use Rattle.law_limits.proofs.SizeLaws.{morph_size, draw_size, color_size, waveform_size, preset_size}
use Rattle.law_limits.proofs.FieldLaws.{limit, AllFair, total, Held, Row, Listed, pairs-run, fields_run}
use Rattle.law_limits.proofs.FieldLaws.{word_is, word_or, case_or, word-opt, case-opt, easing-opt, loop_opt}
use Rattle.law_limits.proofs.FieldLaws.{value-opt, damping-opt, range_opt, total-number, total-value, total_some, total-two}
use Rattle.law_limits.proofs.ValueLaws.{ident_runs, string_runs, float_runs, float_in_parens, two_in_parens, value_runs}
use Rattle.law_limits.proofs.CurveLaws.{number_row, count_row, easing_row, loop-row, flag_row, value_row, case_row}

flag_ok : (b : Bool) → flag_l.ok b
flag_ok true = omega arith
flag_ok false = omega arith

-- `b` is the law of the form of the nodes in a container
module _ (s : List ℕ) (short : length s ≤ text_limit) {inner : Form Forest} (b : Law inner) where
  -- a leaf from q to m, behind its keyword of k bytes, wherever that starts; with 2 bytes to spare
  pub record Leafed (k q : ℕ) (l : Leaf Key) (m : ℕ) : Type 0 where
    pub ok : (start : ℕ) → (start_l (length s)).ok start → (node_l (length s) b).ok (single start (map_leaf stored l))
    pub paid : (start : ℕ) → length ((node_form (length s) inner).write (single start (map_leaf stored l))) + 2 + 3 * q ≤ 3 * m + 3 * k

  abbrev pub LeafRule : ℕ → Rule (Leaf Key) → Type 0
  LeafRule k p = (q : ℕ) → q ≤ length s → is_name (get_or s q 0) ≡ false → Runs s p q (Leafed k q)

  -- ---- tween

  tween_rows : All (Row s) tween_fields
  unfolding tween_fields limit same
  tween_rows =
      number_row s short "duration" (omega arith) refl
      also easing_row s short "easing" (omega arith)
      also number_row s short "delay" (omega arith) refl
      also number_row s short "time_scale" (omega arith) refl
      also loop-row s short "loop" (omega arith)
      also number_row s short "snap" (omega arith) refl
      also count_row s short "round" (omega arith) refl
      also flag_row s short "reverse" (omega arith)
      also tt

  abbrev tween_of : Span → ValueExpr → ValueExpr → ℕ → Fields → TweenSpec
  tween_of t v w d fs = record {
    target = t;
    from = v;
    to = w;
    duration = d;
    easing = last_easing fs;
    delay = last_number "delay" fs;
    time_scale = last_number "time_scale" fs;
    loop_mode = last_loop_mode fs;
    snap = last_number "snap" fs;
    round = last_number "round" fs;
    reverse = ever "reverse" fs;
  }

  -- a duration alone leaves out the delay; with more fields, these pay
  tween_total : (t : Span) (v w : ValueExpr) (d : ℕ) (fs : Fields) → AllFair (length s) fs → last_number "duration" fs ≡ some d
      → length ((tween_form (length s)).write (tween_of t v w d fs))
      ≤ 21 + length (value_form.write v) + length (value_form.write w) + total fs
  unfolding last same
  tween_total t v w d [] f e = absurd (let z : ◌≡◌ {A = ℕ} 0 1 = cc in omega arith)
  tween_total t v w d (x ∷ []) f e = go (same x.0 (bytes "duration")) refl e
    where
      go : (b : Bool) → same x.0 (bytes "duration") ≡ b → or_else (cond {A = Option ℕ} b x.1.number none) none ≡ some d
          → length ((tween_form (length s)).write (tween_of t v w d (x ∷ [])))
          ≤ 21 + length (value_form.write v) + length (value_form.write w) + total (x ∷ [])
      go true q g =
          let n = same_eq x.0 (bytes "duration") q in
          let z : last_number "delay" (x ∷ []) ≡ none = rw n in
          let y = ap (λ (o : Option ℕ). length ((opt word).write o)) z in
          omega (arith, tween_rest (length s) (tween_of t v w d (x ∷ [])), total-number (length s) (x ∷ []) f "duration" d e)
      go false q g = absurd (let z : ◌≡◌ {A = ℕ} 0 1 = cc in omega arith)
  tween_total t v w d (x ∷ y ∷ fs) f e =
      omega (arith, tween_size (length s) (tween_of t v w d (x ∷ y ∷ fs)), total-two (length s) x y fs f "duration" d e)

  pub tween_runs : LeafRule 5 parse_tween
  unfolding parse_tween limit same
  tween_runs q h e =
      then (ident_runs s short q h) (λ t m1 g1 x1.
      and (the-mark g1 58 refl) (λ m2 g2 u x2.
      then (value_runs s short m2 g2) (λ v m3 g3 x3.
      and (two-marks g3 61 62 refl refl) (λ m4 g4 u x4.
      then (value_runs s short m4 g4) (λ w m5 g5 x5.
      then (fields_run s tween_fields tween_rows [] m5 g5 tt) (λ fs m6 g6 x6.
      then (needs MissingDuration (last_number "duration" fs) g6) (λ d m7 g7 x7.
      let n = length s in
      let f = x6.fair in
      gives g7 (record {
        ok = λ start i. i
            also x1.ok
            also x3.ok
            also x5.ok
            also word_is n fs f "duration" refl d x7.1
            also easing-opt n fs f
            also word-opt n fs f "delay" refl
            also word-opt n fs f "time_scale" refl
            also loop_opt n fs f
            also word-opt n fs f "snap" refl
            also word-opt n fs f "round" refl
            also flag_ok (ever "reverse" fs);
        paid = λ start. omega (arith, tween_total t v w d fs f x7.1, x1.apart e, x2, x3.paid, x4, x5.paid, x6.paid, x7.0);
      }))))))))

  -- ---- spring

  damping-held : (w : List ℕ) (q m : ℕ) (d : DampingMode) → 3 ≤ length w → damping_l.ok d → q < m → Held s w q (a_damping d) m
  damping-held w q m d l h g = record {
    fair = record { long = l; number = tt; easing = tt; loop_mode = tt; value = tt; damping = h; range = tt };
    paid = omega arith;
  }

  spring_rows : All (Row s) spring_fields
  unfolding spring_fields spring_preset parse_spring_preset integrator critical_damping over_damping under_damping limit same
  spring_rows =
      case_row s short "preset" UnknownSpringPreset preset_names (omega arith) (omega arith)
      also number_row s short "stiffness" (omega arith) refl
      also number_row s short "damping" (omega arith) refl
      also number_row s short "mass" (omega arith) refl
      also value_row s short "velocity" (omega arith)
      also number_row s short "epsilon" (omega arith) refl
      also case_row s short "integrator" Malformed integrator_names (omega arith) (omega arith)
      also (λ q h. then (float_in_parens s short q h)
      (λ x m g y. gives g (damping-held (bytes "critically_damped") q m (critically_damped x) (omega arith) y.0 y.1)))
      also (λ q h. then (two_in_parens s short q h)
      (λ p m g y. gives g (damping-held (bytes "overdamped") q m (overdamped p.0 p.1) (omega arith) y.0 y.1)))
      also (λ q h. then (two_in_parens s short q h)
      (λ p m g y. gives g (damping-held (bytes "underdamped") q m (underdamped p.0 p.1) (omega arith) y.0 y.1)))
      also tt

  abbrev spring_of : Span → ValueExpr → ValueExpr → Fields → SpringSpec
  spring_of t v w fs = record {
    target = t;
    from = v;
    to = w;
    preset = last_number "preset" fs;
    stiffness = last_number "stiffness" fs;
    damping = last_number "damping" fs;
    mass = last_number "mass" fs;
    velocity = last_value fs;
    epsilon = last_number "epsilon" fs;
    integrator = last_number "integrator" fs;
    damping_mode = last_damping fs;
  }

  -- a spring without fields is short; with some, these pay
  spring_total : (t : Span) (v w : ValueExpr) (fs : Fields) → AllFair (length s) fs
      → length ((spring_form (length s)).write (spring_of t v w fs))
      ≤ 24 + length (value_form.write v) + length (value_form.write w) + total fs
  unfolding last
  spring_total t v w [] f = omega (arith, bare.most)
    where
      bare : Most ((spring_form (length s)).write (spring_of t v w [])) (4 + (length (value_form.write v) + (length (value_form.write w) + 8)))
      bare = span_most (length s) t ⊕ all (value_form.write v) ⊕ all (value_form.write w) ⊕ all (0 ∷ 0 ∷ 0 ∷ 0 ∷ 0 ∷ 0 ∷ 0 ∷ 0 ∷ [])
  spring_total t v w (e ∷ fs) f = go (last_value (e ∷ fs)) refl
    where
      go : (o : Option ValueExpr) → last_value (e ∷ fs) ≡ o
          → length ((spring_form (length s)).write (spring_of t v w (e ∷ fs)))
          ≤ 24 + length (value_form.write v) + length (value_form.write w) + total (e ∷ fs)
      go none q =
          let z = ap (λ (o : Option ValueExpr). length ((opt value_form).write o)) q in
          omega (arith, spring_size (length s) (spring_of t v w (e ∷ fs)), total_some (length s) e fs f)
      go (some a) q =
          let z = ap (λ (o : Option ValueExpr). length ((opt value_form).write o)) q in
          omega (arith, spring_size (length s) (spring_of t v w (e ∷ fs)), total-value (length s) (e ∷ fs) f a q)

  pub spring_runs : LeafRule 6 parse_spring
  unfolding parse_spring limit same
  spring_runs q h e =
      then (ident_runs s short q h) (λ t m1 g1 x1.
      and (the-mark g1 58 refl) (λ m2 g2 u x2.
      then (value_runs s short m2 g2) (λ v m3 g3 x3.
      and (two-marks g3 61 62 refl refl) (λ m4 g4 u x4.
      then (value_runs s short m4 g4) (λ w m5 g5 x5.
      then (fields_run s spring_fields spring_rows [] m5 g5 tt) (λ fs m6 g6 x6.
      let n = length s in
      let f = x6.fair in
      gives g6 (record {
        ok = λ start i. i
            also x1.ok
            also x3.ok
            also x5.ok
            also case-opt n fs f "preset" 5 refl
            also word-opt n fs f "stiffness" refl
            also word-opt n fs f "damping" refl
            also word-opt n fs f "mass" refl
            also value-opt n fs f
            also word-opt n fs f "epsilon" refl
            also case-opt n fs f "integrator" 2 refl
            also damping-opt n fs f;
        paid = λ start. omega (arith, spring_total t v w fs f, x1.apart e, x2, x3.paid, x4, x5.paid, x6.paid);
      })))))))

  -- ---- path, morph, draw, color: their duration pays

  offset_row : Row s ("offset", offset)
  unfolding offset
  offset_row q h =
      then (float_runs s short q h)
      (λ a m g x.
      and (two-marks g 46 46 refl refl)
      (λ n f u y.
      then (float_runs s short n f)
      (λ c o i z.
      gives i
      (record {
        fair = record {
          long = omega arith;
          number = tt;
          easing = tt;
          loop_mode = tt;
          value = tt;
          damping = tt;
          range = (small 4 a x.ok, small 4 c z.ok);
        };
        paid = omega (arith, x.is.on, y, z.is.on);
      }))))

  path_rows : All (Row s) path_fields
  unfolding path_fields limit same
  path_rows =
      number_row s short "duration" (omega arith) refl
      also easing_row s short "easing" (omega arith)
      also flag_row s short "auto_rotate" (omega arith)
      also offset_row
      also loop-row s short "loop" (omega arith)
      also tt

  path_leafed : (x : PathSpec) (q m : ℕ) → (path_l (length s)).ok x → 52 + 3 * q ≤ 3 * m + 12 → Leafed 4 q (Leaf.path x) m
  path_leafed x q m o p = record { ok = λ start i. (i, o); paid = λ start. omega (arith, path_size (length s) x) }

  opt-flag_ok : (o : Option Bool) → (opt_l flag_l).ok o
  opt-flag_ok none = tt
  opt-flag_ok (some v) = flag_ok v

  pub path_runs : LeafRule 4 parse_path
  unfolding parse_path limit same
  path_runs q h e =
      then (ident_runs s short q h) (λ t m1 g1 x1.
      and (a_choice g1 Malformed (words ("along" ∷ []))) (λ m2 g2 u x2.
      then (string_runs s short m2 g2) (λ v m3 g3 x3.
      then (fields_run s path_fields path_rows [] m3 g3 tt) (λ fs m4 g4 x4.
      then (needs MissingDuration (last_number "duration" fs) g4) (λ d m5 g5 x5.
      let n = length s in
      let f = x4.fair in
      gives g5 (path_leafed _ q m5
      (x1.ok
      also x3.0
      also word_is n fs f "duration" refl d x5.1
      also easing-opt n fs f
      also opt-flag_ok (last_truth "auto_rotate" fs)
      also range_opt n fs f
      also loop_opt n fs f)
      (omega (arith, total-number n fs f "duration" d x5.1, x1.on, x2.1, x3.1, x4.paid, x5.0))))))))

  morph_rows : All (Row s) morph_fields
  unfolding morph_fields limit same
  morph_rows =
      count_row s short "samples" (omega arith) refl
      also number_row s short "duration" (omega arith) refl
      also easing_row s short "easing" (omega arith)
      also tt

  morph_leafed : (x : MorphSpec) (q m : ℕ) → (morph_l (length s)).ok x → 39 + 3 * q ≤ 3 * m + 15 → Leafed 5 q (Leaf.morph x) m
  morph_leafed x q m o p = record { ok = λ start i. (i, o); paid = λ start. omega (arith, morph_size (length s) x) }

  pub morph_runs : LeafRule 5 parse_morph
  unfolding parse_morph limit same
  morph_runs q h e =
      then (string_runs s short q h) (λ v m1 g1 x1.
      and (two-marks g1 61 62 refl refl) (λ m2 g2 u x2.
      then (string_runs s short m2 g2) (λ w m3 g3 x3.
      then (fields_run s morph_fields morph_rows [] m3 g3 tt) (λ fs m4 g4 x4.
      then (needs MissingDuration (last_number "duration" fs) g4) (λ d m5 g5 x5.
      let n = length s in
      let f = x4.fair in
      gives g5 (morph_leafed _ q m5
      (x1.0 also x3.0 also word_or n fs f "samples" refl 32 refl also word_is n fs f "duration" refl d x5.1 also easing-opt n fs f)
      (omega (arith, total-number n fs f "duration" d x5.1, x1.1, x2, x3.1, x4.paid, x5.0))))))))

  draw_rows : All (Row s) draw_fields
  unfolding draw_fields limit same
  draw_rows =
      number_row s short "duration" (omega arith) refl
      also easing_row s short "easing" (omega arith)
      also tt

  draw_leafed : (x : DrawSpec) (q m : ℕ) → (draw_l (length s)).ok x → 31 + 3 * q ≤ 3 * m + 12 → Leafed 4 q (Leaf.draw x) m
  draw_leafed x q m o p = record { ok = λ start i. (i, o); paid = λ start. omega (arith, draw_size (length s) x) }

  pub draw_runs : LeafRule 4 parse_draw
  unfolding parse_draw limit same
  draw_runs q h e =
      then (string_runs s short q h) (λ v m1 g1 x1.
      then (fields_run s draw_fields draw_rows [] m1 g1 tt) (λ fs m2 g2 x2.
      then (needs MissingDuration (last_number "duration" fs) g2) (λ d m3 g3 x3.
      let n = length s in
      let f = x2.fair in
      gives g3 (draw_leafed _ q m3
      (x1.0 also word_is n fs f "duration" refl d x3.1 also easing-opt n fs f)
      (omega (arith, total-number n fs f "duration" d x3.1, x1.1, x2.paid, x3.0))))))

  color_rows : All (Row s) color_fields
  unfolding color_fields space limit same
  color_rows =
      number_row s short "duration" (omega arith) refl
      also case_row s short "space" Malformed space_names (omega arith) (omega arith)
      also easing_row s short "easing" (omega arith)
      also tt

  color_leafed : (x : ColorSpec) (q m : ℕ) → (color_l (length s)).ok x → 40 + 3 * q ≤ 3 * m + 15 → Leafed 5 q (Leaf.color x) m
  color_leafed x q m o p = record { ok = λ start i. (i, o); paid = λ start. omega (arith, color_size (length s) x) }

  pub color_runs : LeafRule 5 parse_color
  unfolding parse_color limit same
  color_runs q h e =
      then (ident_runs s short q h) (λ t m1 g1 x1.
      and (the-mark g1 58 refl) (λ m2 g2 u x2.
      then (string_runs s short m2 g2) (λ v m3 g3 x3.
      and (two-marks g3 61 62 refl refl) (λ m4 g4 u x4.
      then (string_runs s short m4 g4) (λ w m5 g5 x5.
      then (fields_run s color_fields color_rows [] m5 g5 tt) (λ fs m6 g6 x6.
      then (needs MissingDuration (last_number "duration" fs) g6) (λ d m7 g7 x7.
      let n = length s in
      let f = x6.fair in
      gives g7 (color_leafed _ q m7
      (x1.ok
      also x3.0
      also x5.0
      also word_is n fs f "duration" refl d x7.1
      also case_or n fs f "space" 3 refl 0 (omega arith)
      also easing-opt n fs f)
      (omega (arith, total-number n fs f "duration" d x7.1, x1.on, x2, x3.1, x4, x5.1, x6.paid, x7.0))))))))))

  -- ---- waveform

  waveform_rows : All (Row s) waveform_fields
  unfolding waveform_fields limit same
  waveform_rows =
      number_row s short "frequency" (omega arith) refl
      also number_row s short "amplitude" (omega arith) refl
      also number_row s short "phase" (omega arith) refl
      also number_row s short "duty_cycle" (omega arith) refl
      also count_row s short "seed" (omega arith) refl
      also number_row s short "smoothness" (omega arith) refl
      also number_row s short "duration" (omega arith) refl
      also tt

  abbrev waveform_of : ℕ → Fields → WaveformSpec
  waveform_of k fs = record {
    kind = k;
    frequency = last_number "frequency" fs;
    amplitude = last_number "amplitude" fs;
    phase = last_number "phase" fs;
    duty_cycle = last_number "duty_cycle" fs;
    seed = last_number "seed" fs;
    smoothness = last_number "smoothness" fs;
    duration = last_number "duration" fs;
  }

  waveform_total : (k : ℕ) (fs : Fields) → AllFair (length s) fs → length (waveform_form.write (waveform_of k fs)) ≤ 22 + total fs
  unfolding last
  waveform_total k [] f = omega arith
  waveform_total k (e ∷ fs) f = omega (arith, waveform_size (length s) (waveform_of k (e ∷ fs)), total_some (length s) e fs f)

  waveform_kind_lem : {q : ℕ} → q ≤ length s → Runs s waveform_kind q (λ k m. (k < 5) × (q < m))
  unfolding waveform_kind unless_noise
  waveform_kind_lem h =
      then (a_choice h Malformed (words waveform_names))
      (λ k m g x. conds (eqb k 4) (λ e. refuses) (λ e. gives g x))

  pub waveform_runs : LeafRule 8 parse_waveform
  unfolding parse_waveform limit same
  waveform_runs q h e =
      then (waveform_kind_lem h) (λ k m1 g1 x1.
      then (fields_run s waveform_fields waveform_rows [] m1 g1 tt) (λ fs m2 g2 x2.
      let n = length s in
      let f = x2.fair in
      gives g2 (record {
        ok = λ start i. i
            also x1.0
            also word-opt n fs f "frequency" refl
            also word-opt n fs f "amplitude" refl
            also word-opt n fs f "phase" refl
            also word-opt n fs f "duty_cycle" refl
            also word-opt n fs f "seed" refl
            also word-opt n fs f "smoothness" refl
            also word-opt n fs f "duration" refl;
        paid = λ start. omega (arith, waveform_total k fs f, x1.1, x2.paid);
      })))

  -- ---- preset, label, at

  abbrev preset_of : Span → Fields → PresetCall
  preset_of t fs = record { name = t; duration = last_number "duration" fs; easing = last_easing fs }

  preset_total : (t : Span) (fs : Fields) → AllFair (length s) fs → length ((preset_form (length s)).write (preset_of t fs)) ≤ 16 + total fs
  unfolding last
  preset_total t [] f = omega arith
  preset_total t (e ∷ fs) f = omega (arith, preset_size (length s) (preset_of t (e ∷ fs)), total_some (length s) e fs f)

  -- the fields in parentheses, and those behind a `,`
  in_parens : (q : ℕ) → q ≤ length s → Runs s (if (sees "(") (inside "(" (pairs draw_fields)) (give [])) q (Listed s [] q)
  in_parens q h =
      tests (sees "(")
      (λ e. weaken (in_group (pairs draw_fields) (Listed s []) h 40 refl (pairs-run s draw_fields draw_rows))
      (λ fs m x.
      record {
        fair = x.inner.fair;
        low = omega (arith, x.low, x.inner.low, x.left.low);
        paid = omega (arith, x.low, x.inner.paid, x.left.low);
      }))
      (λ e. gives h (record { fair = tt; low = omega arith; paid = omega arith }))

  behind_comma : (fs : Fields) → AllFair (length s) fs → (q : ℕ) → q ≤ length s
      → Runs s (if (sees ",") (skip >> parse_field_list draw_fields fs) (give fs)) q (Listed s fs q)
  behind_comma fs f q h =
      tests (sees ",")
      (λ e. and {f = parse_field_list draw_fields fs} (skips_mark h 44 refl e)
      (λ m g u x. weaken (fields_run s draw_fields draw_rows fs m g f)
      (λ gs n y. record { fair = y.fair; low = omega (arith, x.on, y.low); paid = omega (arith, x.on, y.paid) })))
      (λ e. gives h (record { fair = f; low = omega arith; paid = omega arith }))

  pub preset_runs : LeafRule 6 parse_preset_call
  unfolding parse_preset_call limit same
  preset_runs q h e =
      then (ident_runs s short q h) (λ t m1 g1 x1.
      then (in_parens m1 g1) (λ fs m2 g2 x2.
      then (behind_comma fs x2.fair m2 g2) (λ gs m3 g3 x3.
      let n = length s in
      let f = x3.fair in
      gives g3 (record {
        ok = λ start i. i also x1.ok also word-opt n gs f "duration" refl also easing-opt n gs f;
        paid = λ start. omega (arith, preset_total t gs f, x1.on, x2.paid, x3.paid);
      }))))

  pub label_runs : LeafRule 5 parse_label
  unfolding parse_label
  label_runs q h e =
      then (string_runs s short q h)
      (λ t m g x. and (the-mark g 59 refl)
      (λ n f u y. gives f (record { ok = λ start i. (i, x.0); paid = λ start. omega (arith, x.1, y) })))

  -- a sign or none
  abbrev Passed : ℕ → ℕ → Type 0
  Passed q m = (m ≡ q) ⊎ (q < m)

  passed : (q : ℕ) (c : Bool) (m : ℕ) → Eaten q c m → Passed q m
  passed q true m x = inr x
  passed q false m x = inl x

  both-passed : (q m n : ℕ) → Passed q m → Passed m n → Passed q n
  both-passed q m n (inl x) (inl y) = inl (y ∙ x)
  both-passed q m n (inl x) (inr y) = inr (omega arith)
  both-passed q m n (inr x) (inl y) = inr (omega arith)
  both-passed q m n (inr x) (inr y) = inr (omega arith)

  sign_runs : (q : ℕ) → q ≤ length s → Runs s at_sign q (λ v m. Passed q m)
  unfolding at_sign
  sign_runs q h =
      then (eats h 43 refl) (λ c m g x.
      then (conds {Q = λ d n. Passed m n} c (λ e. gives g (inl refl)) (λ e. weaken (eats g 45 refl) (λ d n y. passed m d n y))) (λ d n f y.
      gives f (both-passed q m n (passed q c m x) y)))

  -- a number behind a sign, or apart from the name before it
  behind-sign : (q m n : ℕ) → is_name (get_or s q 0) ≡ false → Passed q m → Number s m n → q + 1 < n
  behind-sign q m n e (inl x) y = let z = y.apart (rw x e) in omega arith
  behind-sign q m n e (inr x) y = omega (arith, y.on)

  pub at_runs : LeafRule 2 parse_at
  unfolding parse_at
  at_runs q h e =
      then (sign_runs q h) (λ v m g x.
      then (a_number_lem g Malformed) (λ w n f y.
      let a : Leaf Key = Leaf.at (record { value = bits (nearest (turned v.1 w.0) w.1); relative = v.0 }) in
      tallies (number_rounded (turned v.1 w.0) w.1) (and (eats f 59 refl) (λ o i c z.
      gives {a = a} i (record {
        ok = λ start j. (j, (small 4 _ (bits_lt _ (nearest-fits _ _)), flag_ok v.0));
        paid = λ start. omega (arith, behind-sign q m n e x y.is, eaten n c o z);
      })))))
