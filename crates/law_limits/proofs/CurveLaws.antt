-- Easings, loop modes, and the rules for what a field holds.
use Prim.Native.Nat.{ℕ, ◌+◌, ◌*◌, ◌≤◌, ◌<◌}
use Prim.Native.String.{String}
use mathlib.Core.Bool.{◌&&◌}
use mathlib.Core.List.{List, []}
use mathlib.Core.Path.{◌≡◌, refl, ap}
use native.Mathlib.Omega.{arith}
use lib.ListN.{length}
use Rattle.text.specs.Limits.{text_limit}
use Rattle.text.specs.Bytes.{bytes, same}
use Rattle.text.specs.Words.{words}
use Rattle.sheet.proofs.FormLaws.{small}
use Rattle.ast.specs.Tree.{EasingSpec, LoopSpec}
use Rattle.sheet.specs.Sheet.{easing_form}
use Rattle.sheet.proofs.Laws.{easing_l, loop_l}
use Rattle.token.specs.Token.{tokens_from, place}
use Rattle.error.specs.declared.Refusal.{Refusal}
use Rattle.error.specs.declared.Refusal.TheVariants.{Malformed}
use Rattle.grammar.specs.Rule.{Rule, give, ◌>>=◌, choice, sees, sees_two}
use Rattle.grammar.specs.Fields.{a_number, pairs}
use Rattle.grammar.specs.Values.{
  number,
  count,
  flag,
  value,
  easing,
  loop_mode,
  f32_of,
  comma_floats,
  four_floats,
  bezier_curve,
  rough_fields,
  rough_curve,
  slow_mo_fields,
  slow_mo_curve,
  steps_curve,
  wiggle_curve,
  curves,
  variant_easing,
  named_easing,
  curve_or,
  parse_easing,
  times_mode,
  ping_pong_mode,
  loop_modes,
  parse_loop_mode,
}
use Rattle.law_rules.proofs.RunLaws.{Runs, gives, refuses, then, and, weaken, tests}
use Rattle.law_rules.proofs.TakeLaws.{Word, a_word_lem, the-mark, two-marks, in_group}
use Rattle.law_rules.proofs.ListLaws.{◌also◌, a_choice, by_word, by_word_or}
use Rattle.law_limits.proofs.SizeLaws.{easing-most}
use Rattle.law_limits.proofs.FieldLaws.{limit, Held, Row, Listed, pairs-run, word_or}
use Rattle.law_limits.proofs.ValueLaws.{f32_of_small, span_fits, ident_runs, truth_runs, float_runs}
use Rattle.law_limits.proofs.ValueLaws.{uint_runs, uint_in_parens, Two, two-floats, value_runs}

module _ (s : List ℕ) (short : length s ≤ text_limit) where
  -- ---- numbers as fields

  number-held : (w : List ℕ) (q n m : ℕ) → 3 ≤ length w → n < limit w → q < m → Held s w q (a_number n) m
  number-held w q n m l h g = record {
    fair = record { long = l; number = h; easing = tt; loop_mode = tt; value = tt; damping = tt; range = tt };
    paid = omega arith;
  }

  pub number_row : (w : String) → 3 ≤ length (bytes w) → limit (bytes w) ≡ 4294967296 → Row s (w, number)
  unfolding number
  number_row w l e q h =
      then (float_runs s short q h) (λ n m g x. gives g (number-held (bytes w) q n m l (omega (arith, x.ok)) x.is.on))

  pub count_row : (w : String) → 3 ≤ length (bytes w) → limit (bytes w) ≡ 4294967296 → Row s (w, count)
  unfolding count
  count_row w l e q h = then (uint_runs s short q h) (λ n m g x. gives g (number-held (bytes w) q n m l (omega (arith, x.0)) x.1))

  -- ---- easings

  -- a curve from q to m
  abbrev Curve : ℕ → EasingSpec → ℕ → Type 0
  Curve q e m = (easing_l (length s)).ok e × (q < m)

  comma_floats_lem : (q : ℕ) → q ≤ length s → Runs s comma_floats q (Two s short q)
  unfolding comma_floats
  comma_floats_lem q h = and (the-mark h 44 refl) (λ m g u x. weaken (two-floats s short m g) (λ p n y. (y.0, omega (arith, x, y.1))))

  four_floats_lem : (q : ℕ) → q ≤ length s → Runs s four_floats q (Curve q)
  unfolding four_floats
  four_floats_lem q h =
      then (two-floats s short q h)
      (λ a m g x. then (comma_floats_lem m g) (λ b n f y. gives f ((x.0.0, (x.0.1, (y.0.0, y.0.1))), omega (arith, x.1, y.1))))

  bezier_runs : (q : ℕ) → q ≤ length s → Runs s bezier_curve q (Curve q)
  unfolding bezier_curve
  bezier_runs q h =
      weaken (in_group four_floats Curve h 40 refl four_floats_lem) (λ e m x. (x.inner.0, omega (arith, x.low, x.inner.1, x.left.low)))

  rough_runs : (q : ℕ) → q ≤ length s → Runs s rough_curve q (Curve q)
  unfolding rough_curve rough_fields limit same
  rough_runs q h =
      then (in_group (pairs rough_fields) (Listed s []) h 40 refl
      (pairs-run s rough_fields (number_row "strength" (omega arith) refl also count_row "points" (omega arith) refl also tt)))
      (λ fs m g x.
      let i = x.inner in
      gives g (
        (
          word_or (length s) fs i.fair "strength" refl (f32_of 1 2) (f32_of_small 1 2),
          word_or (length s) fs i.fair "points" refl 8 refl,
        ),
        omega (arith, x.low, i.low, x.left.low),
      ))

  slow_runs : (q : ℕ) → q ≤ length s → Runs s slow_mo_curve q (Curve q)
  unfolding slow_mo_curve slow_mo_fields limit same
  slow_runs q h =
      then (in_group (pairs slow_mo_fields) (Listed s []) h 40 refl
      (pairs-run s slow_mo_fields (number_row "linear_ratio" (omega arith) refl also number_row "power" (omega arith) refl also tt)))
      (λ fs m g x.
      let i = x.inner in
      gives g (
        (
          word_or (length s) fs i.fair "linear_ratio" refl (f32_of 7 10) (f32_of_small 7 10),
          word_or (length s) fs i.fair "power" refl (f32_of 2 1) (f32_of_small 2 1),
        ),
        omega (arith, x.low, i.low, x.left.low),
      ))

  steps_curve_runs : (q : ℕ) → q ≤ length s → Runs s steps_curve q (Curve q)
  unfolding steps_curve
  steps_curve_runs q h = then (uint_in_parens s short q h) (λ n m g x. gives g (small 4 n x.0, x.1))

  wiggle_runs : (q : ℕ) → q ≤ length s → Runs s wiggle_curve q (Curve q)
  unfolding wiggle_curve
  wiggle_runs q h = then (uint_in_parens s short q h) (λ n m g x. gives g (small 4 n x.0, x.1))

  -- an easing from q to m: a lone name is 3 bytes over
  pub record Eased (q : ℕ) (e : EasingSpec) (m : ℕ) : Type 0 where
    pub ok : (easing_l (length s)).ok e
    pub on : q < m
    pub paid : length ((easing_form (length s)).write e) + 3 * place (tokens_from s q) ≤ 3 * m + 3

  -- behind the name w, i is the place of what follows
  module _ (q i : ℕ) (w : ℕ × List ℕ) (x : Word s q w i) (h : i ≤ length s) where
    curved : (p : Rule EasingSpec) (v : String) → 5 ≤ length (bytes v) → Runs s p i (Curve i) → w.1 ≡ bytes v → Runs s p i (Eased q)
    curved p v l r e =
        weaken r (λ c m y. let z = ap length e in record {
          ok = y.0;
          on = omega (arith, x.low, x.end, y.1);
          paid = omega (arith, (easing-most (length s) c).most, x.place, x.end, y.1);
        })

    named_runs : Runs s (named_easing w) i (Eased q)
    unfolding named_easing variant_easing
    named_runs =
        tests (λ ts. same w.1 (bytes "Easing") && sees_two ":" ":" ts)
        (λ e. and (two-marks h 58 58 refl refl) (λ m g u y. then (ident_runs s short m g) (λ t n f z. gives f (record {
          ok = (omega arith, z.ok);
          on = omega (arith, x.low, x.end, y, z.on);
          paid = omega (arith, x.place, x.end, y, z.on);
        }))))
        (λ e. gives h (record {
          ok = (omega arith, span_fits s short w.0 (length w.1) (omega (arith, x.end)));
          on = omega (arith, x.low, x.end, x.some);
          paid = omega (arith, x.place, x.end, x.some);
        }))

    curve_or_runs : Runs s (curve_or w) i (Eased q)
    unfolding curve_or curves
    curve_or_runs =
        by_word_or curves w.1 (named_easing w)
        (curved bezier_curve "cubic_bezier" (omega arith) (bezier_runs i h)
        also curved steps_curve "steps" (omega arith) (steps_curve_runs i h)
        also curved wiggle_curve "wiggle" (omega arith) (wiggle_runs i h)
        also curved rough_curve "rough" (omega arith) (rough_runs i h)
        also curved slow_mo_curve "slowmo" (omega arith) (slow_runs i h)
        also tt)
        named_runs

  pub easing_runs : (q : ℕ) → q ≤ length s → Runs s parse_easing q (Eased q)
  unfolding parse_easing
  easing_runs q h = tests (sees "(") (λ e. refuses) (λ e. then (a_word_lem h) (λ w m g x. curve_or_runs q m w x g))

  -- ---- loop modes

  pub record Looped (q : ℕ) (m : LoopSpec) (n : ℕ) : Type 0 where
    pub ok : loop_l.ok m
    pub on : q < n

  times_runs : (q : ℕ) → q ≤ length s → Runs s times_mode q (λ m n. loop_l.ok m × (q ≤ n))
  unfolding times_mode
  times_runs q h = then (uint_in_parens s short q h) (λ k m g x. gives g (small 4 k x.0, omega (arith, x.1)))

  ping_pong_runs : (q : ℕ) → q ≤ length s → Runs s ping_pong_mode q (λ m n. loop_l.ok m × (q ≤ n))
  unfolding ping_pong_mode
  ping_pong_runs q h =
      tests (sees "(") (λ e. then (uint_in_parens s short q h) (λ k m g x. gives g (small 4 k x.0, omega (arith, x.1))))
      (λ e. gives h (tt, omega arith))

  pub loop_runs : (q : ℕ) → q ≤ length s → Runs s parse_loop_mode q (Looped q)
  unfolding parse_loop_mode loop_modes
  loop_runs q h =
      then (a_word_lem h)
      (λ w m g x. weaken
      (by_word {Q = λ l n. loop_l.ok l × (m ≤ n)} Malformed loop_modes w.1 (λ p. p) g
      ((λ e. gives g (tt, omega arith)) also (λ e. gives g (tt, omega arith))
      also (λ e. ping_pong_runs m g) also (λ e. times_runs m g)
      also tt))
      (λ l n y. record { ok = y.0; on = omega (arith, x.low, x.end, x.some, y.1) }))

  -- ---- the other fields

  pub easing_row : (w : String) → 3 ≤ length (bytes w) → Row s (w, easing)
  unfolding easing
  easing_row w l q h =
      then (easing_runs q h)
      (λ e m g x. gives g
      (record {
        fair = record { long = l; number = tt; easing = x.ok; loop_mode = tt; value = tt; damping = tt; range = tt };
        paid = omega (arith, x.on);
      }))

  pub loop-row : (w : String) → 3 ≤ length (bytes w) → Row s (w, loop_mode)
  unfolding loop_mode
  loop-row w l q h =
      then (loop_runs q h)
      (λ e m g x. gives g
      (record {
        fair = record { long = l; number = tt; easing = tt; loop_mode = x.ok; value = tt; damping = tt; range = tt };
        paid = omega (arith, x.on);
      }))

  pub flag_row : (w : String) → 3 ≤ length (bytes w) → Row s (w, flag)
  unfolding flag
  flag_row w l q h =
      then (truth_runs s short q h)
      (λ b m g x. gives g
      (record {
        fair = record { long = l; number = tt; easing = tt; loop_mode = tt; value = tt; damping = tt; range = tt };
        paid = omega (arith, x);
      }))

  pub value_row : (w : String) → 8 ≤ length (bytes w) → Row s (w, value)
  unfolding value
  value_row w l q h =
      then (value_runs s short q h)
      (λ v m g x. gives g
      (record {
        fair = record { long = omega arith; number = tt; easing = tt; loop_mode = tt; value = (x.ok, l); damping = tt; range = tt };
        paid = omega (arith, x.on, x.paid);
      }))

  -- ---- the position of a word

  pub case_row : (w : String) (r : Refusal) (ns : List String) → 3 ≤ length (bytes w)
      → length (words ns) ≤ limit (bytes w)
      → Row s (w, (choice r ns >>= λ k. give (a_number k)))
  case_row w r ns l g q h = then (a_choice h r (words ns)) (λ k m f x. gives f (number-held (bytes w) q k m l (omega (arith, x.0)) x.1))
