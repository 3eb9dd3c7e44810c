-- What a list of fields says can be written; and easings.
use Prim.Native.Nat.{ℕ, zero, suc, ◌<◌}
use Prim.Native.String.{String}
use mathlib.Core.Bool.{Bool, true, false, cond, ◌&&◌}
use mathlib.Core.List.{List, [], ◌∷◌}
use mathlib.Core.Option.{Option, none, some}
use mathlib.Core.Path.{◌≡◌, refl, sym, ap, ◌∙◌, subst}
use native.Mathlib.Omega.{arith}
use lib.Dec.{eqb}
use lib.ListN.{length}
use borrow.Author.Tests.{eq-eqb}
use Rattle.text.specs.Bytes.{bytes, same, one_of}
use Rattle.text.specs.Words.{is_some, words, find, is_one_of, under, default}
use Rattle.codec.proofs.Laws.{All}
use Rattle.ast.specs.Tree.{EasingSpec}
use Rattle.error.specs.declared.Refusal.{Refusal}
use Rattle.grammar.specs.Rule.{sees, sees_two, sees_word, choice, give, ◌>>=◌}
use Rattle.grammar.specs.Fields.{a_number, Entry, Fields, last_number, last_easing, last_loop_mode, last_value, last_damping, last_range}
use Rattle.grammar.specs.Values.{number, count, flag, value, easing, loop_mode, f32_of, comma_floats, four_floats, bezier_curve}
use Rattle.grammar.specs.Values.{rough_fields, rough_curve, slow_mo_fields, slow_mo_curve, steps_curve, wiggle_curve, curves, variant_easing}
use Rattle.grammar.specs.Values.{named_easing, curve_or, parse_easing, truth}
use Rattle.digits.specs.Numeral.{all}
use Rattle.pieces.specs.Pieces.{Form, word_like, curve_names}
use Rattle.pieces.specs.Means.{Fits, Complete}
use Rattle.fresh.specs.Meaning.{easing_sense, option_sense}
use Rattle.fresh.specs.Fresh as pieces
use Rattle.fresh.specs.Fresh.{Writer, Pair, more_pairs, pairs, unless, field, unless_is, word_at, choose, f32, u32}
use Rattle.grammar.specs.Grammar.{preset_names, integrator_names, origin_names, space_names}
use Rattle.law_rules.proofs.ListLaws.{none≢some, ◌also◌}
use Rattle.law_rules.proofs.FieldLaws.{On, on_is, last-in, number_in}
use Rattle.law_rules.proofs.AlwaysLaws.{Always, gives, refuses, then, and, tests, skips, the-mark, two-marks, in_group, a_choice}
use Rattle.law_rules.proofs.AlwaysLaws.{by_word_or, Row, pairs_of}
use Rattle.law_writable.proofs.ValueFits.{Fit, ◌▸◌, fit-one, fit_none, fit_mark, NameIn, a_name_lem, ident-fits, float_fits, count_fits}
use Rattle.law_writable.proofs.ValueFits.{count_in_parens, two-floats, value-fits, loop_fits}

-- ---- how fields are written

module _ (form : Form) where
  pub field_fits : {A : Type 0} (n : String) (w : A → Writer) (o : Option A) → word_like (bytes n) ≡ true → On (λ a. Fit form (w a)) o
      → Fit form (field n w o)
  unfolding field one_of
  field_fits n w none e h = fit_none
  field_fits n w (some a) e h = fit-one e ▸ fit_mark 58 refl ▸ h

  -- one that is written unless it is d
  pub unless-fits : (w : ℕ → Writer) (d : ℕ) (o : Option ℕ) → On (λ b. Fit form (w b)) o
      → On (λ b. Fit form (w b)) (unless_is d (default o d))
  unfolding unless_is
  unless-fits w d none h = rw (eq-eqb d d refl) tt
  unless-fits w d (some n) h = go (eqb n d)
    where
      go : (b : Bool) → On (λ b. Fit form (w b)) (cond b none (some n))
      go true = tt
      go false = h

  -- fields in parentheses
  pub record PairFits (f : Pair) : Type 0 where
    pub name : word_like (bytes f.0) ≡ true
    pub value : Fit form f.1

  more_fit : (fs : List Pair) → All PairFits fs → Fit form (more_pairs fs)
  unfolding more_pairs one_of
  more_fit [] h = fit_none
  more_fit (f ∷ fs) h = fit_mark 44 refl ▸ fit-one h.0.name ▸ fit_mark 58 refl ▸ h.0.value ▸ more_fit fs h.1

  pub pairs_fit : (fs : List Pair) → All PairFits fs → Fit form (pairs fs)
  unfolding pairs one_of
  pairs_fit [] h = fit_none
  pairs_fit (f ∷ fs) h = fit-one h.0.name ▸ fit_mark 58 refl ▸ h.0.value ▸ more_fit fs h.1

  pub unless-pair : (n : String) (w : ℕ → Writer) (d : ℕ) (o : Option ℕ) (fs : List Pair) → word_like (bytes n) ≡ true
      → On (λ b. Fit form (w b)) o → All PairFits fs
      → All PairFits (unless (eqb (default o d) d) (n, w (default o d)) fs)
  unfolding unless
  unless-pair n w d none fs e h k = rw (eq-eqb d d refl) k
  unless-pair n w d (some a) fs e h k = go (eqb a d)
    where
      go : (b : Bool) → All PairFits (unless b (n, w a) fs)
      go true = k
      go false = (record { name = e; value = h }, k)

  -- a case by its word
  pub word_fits : (ns : List String) (k : ℕ) → All (λ n. word_like (bytes n) ≡ true) ns → k < length (words ns) → Fits form (word_at ns k)
  unfolding word_at
  word_fits [] k h l = absurd (omega arith)
  word_fits (n ∷ ns) zero h l = h.0
  word_fits (n ∷ ns) (suc k) h l = word_fits ns k h.1 (omega arith)

  pub choice-fits : (ns : List String) (k : ℕ) → All (λ n. word_like (bytes n) ≡ true) ns → k < length (words ns) → Fit form (choose ns k)
  unfolding choose
  choice-fits ns k h l = fit-one (word_fits ns k h l)

-- ---- contents

-- how the number of a field is written
unfoldable pub numeric : List ℕ → ℕ → Writer
numeric w =
    cond {A = ℕ → Writer} (is_one_of ("round" ∷ "points" ∷ "samples" ∷ "seed" ∷ "cols" ∷ "rows" ∷ []) w) u32
    (cond (same w (bytes "preset")) (choose preset_names)
    (cond (same w (bytes "integrator")) (choose integrator_names)
    (cond (same w (bytes "origin")) (choose origin_names)
    (cond (same w (bytes "space")) (choose space_names) f32))))

-- the content of a field can be written
pub record Fair (form : Form) (u : List ℕ) (e : Entry) : Type 0 where
  pub number : On (λ b. Fit form (numeric e.0 b)) e.1.number
  pub easing : On (λ x. Fit form (pieces.easing (easing_sense u x))) e.1.easing
  pub loop_mode : On (λ m. Fit form (pieces.loop_mode m)) e.1.loop_mode
  pub value : On (λ v. Fit form (pieces.value v)) e.1.value
  pub damping : On (λ d. Fit form (pieces.damping (some d))) e.1.damping
  pub range : On (λ r. Fit form (pieces.offset r)) e.1.range

module _ (form : Form) (u : List ℕ) where
  pub number_fair : (w : List ℕ) (f : ℕ → Writer) (b : ℕ) → numeric w ≡ f → Fit form (f b) → Fair form u (w, a_number b)
  number_fair w f b e h = record {
    number = subst (λ (g : ℕ → Writer). Fit form (g b)) (sym e) h;
    easing = tt;
    loop_mode = tt;
    value = tt;
    damping = tt;
    range = tt;
  }

  -- ---- what a list of such fields says

  module _ (fs : Fields) (h : All (Fair form u) fs) where
    pub number_on : (w : String) (f : ℕ → Writer) → numeric (bytes w) ≡ f → On (λ b. Fit form (f b)) (last_number w fs)
    number_on w f e = number_in (Fair form u) w (λ b. Fit form (f b)) go fs h
      where
        go : (x : Entry) → Fair form u x → x.0 ≡ bytes w → On (λ b. Fit form (f b)) x.1.number
        go x y q = subst (λ (g : ℕ → Writer). On (λ b. Fit form (g b)) x.1.number) (ap numeric q ∙ e) y.number

    pub number_is : (w : String) (f : ℕ → Writer) (b : ℕ) → numeric (bytes w) ≡ f → last_number w fs ≡ some b → Fit form (f b)
    number_is w f b e g = on_is (λ b. Fit form (f b)) (last_number w fs) b g (number_on w f e)

    pub easing_on : On (λ x. Fit form (pieces.easing x)) (option_sense u (last_easing fs))
    easing_on = go (last_easing fs) (last-in (Fair form u) (λ e. e.1.easing) _ (λ e x. x.easing) fs h)
      where
        go : (o : Option EasingSpec) → On (λ x. Fit form (pieces.easing (easing_sense u x))) o
            → On (λ x. Fit form (pieces.easing x)) (option_sense u o)
        go none x = tt
        go (some e) x = x

    pub loop_on : On (λ m. Fit form (pieces.loop_mode m)) (last_loop_mode fs)
    loop_on = last-in (Fair form u) (λ e. e.1.loop_mode) _ (λ e x. x.loop_mode) fs h

    pub value_on : On (λ v. Fit form (pieces.value v)) (last_value fs)
    value_on = last-in (Fair form u) (λ e. e.1.value) _ (λ e x. x.value) fs h

    pub damping_on : On (λ d. Fit form (pieces.damping (some d))) (last_damping fs)
    damping_on = last-in (Fair form u) (λ e. e.1.damping) _ (λ e x. x.damping) fs h

    pub range_on : On (λ r. Fit form (pieces.offset r)) (last_range fs)
    range_on = last-in (Fair form u) (λ e. e.1.range) _ (λ e x. x.range) fs h

-- ---- no curve's word

abbrev firsts : {A : Type 0} → List (String × A) → List (List ℕ)
firsts [] = []
firsts (f ∷ fs) = bytes f.0 ∷ firsts fs

not_found : {A : Type 0} (fs : List (String × A)) (i : ℕ) (w : List ℕ) → under fs w ≡ none → is_some (find (firsts fs) i w) ≡ false
unfolding under find
not_found [] i w e = refl
not_found (f ∷ fs) i w e = go (same w (bytes f.0)) refl (λ h. not_found fs (suc i) w h)
  where
    go : (a : Bool) → same w (bytes f.0) ≡ a → (under fs w ≡ none → is_some (find (firsts fs) (suc i) w) ≡ false)
        → is_some (find (firsts (f ∷ fs)) i w) ≡ false
    go true q ih = none≢some (sym (rw (q, under) at e))
    go false q ih = rw (q, find) (ih (rw (q, under) at e))

no_curve : (w : List ℕ) → under curves w ≡ none → is_one_of curve_names w ≡ false
unfolding curves
no_curve w e = not_found curves 0 w e

-- ---- the rules of fields

module _ {form : Form} (complete : Complete form) (u : List ℕ) where
  pub number_row : (w : String) → numeric (bytes w) ≡ f32 → Row u (Fair form u) (w, number)
  unfolding number
  number_row w e = then (float_fits complete) (λ b h. gives (number_fair form u (bytes w) f32 b e h))

  pub count_row : (w : String) → numeric (bytes w) ≡ u32 → Row u (Fair form u) (w, count)
  unfolding count
  count_row w e = then (count_fits complete) (λ b h. gives (number_fair form u (bytes w) u32 b e h))

  pub case_row : (w : String) (r : Refusal) (ns : List String) → numeric (bytes w) ≡ choose ns → All (λ n. word_like (bytes n) ≡ true) ns
      → Row u (Fair form u) (w, (choice r ns >>= λ k. give (a_number k)))
  case_row w r ns e h = then (a_choice r ns) (λ k l. gives (number_fair form u (bytes w) (choose ns) k e (choice-fits form ns k h l)))

  pub value_row : (w : String) → Row u (Fair form u) (w, value)
  unfolding value
  value_row w =
      then (value-fits complete) (λ v h. gives (record { number = tt; easing = tt; loop_mode = tt; value = h; damping = tt; range = tt }))

  pub loop-row : (w : String) → Row u (Fair form u) (w, loop_mode)
  unfolding loop_mode
  loop-row w =
      then (loop_fits complete) (λ m h. gives (record { number = tt; easing = tt; loop_mode = h; value = tt; damping = tt; range = tt }))

  truth-reads : Always u truth (λ b. Unit {0})
  unfolding truth
  truth-reads =
      tests (sees_word "true") (and skips (gives {a = true} tt)) (tests (sees_word "false") (and skips (gives {a = false} tt)) refuses)

  pub flag_row : (w : String) → Row u (Fair form u) (w, flag)
  unfolding flag
  flag_row w = then truth-reads (λ b h. gives (record { number = tt; easing = tt; loop_mode = tt; value = tt; damping = tt; range = tt }))

  -- ---- easings

  abbrev pub Eased : EasingSpec → Type 0
  Eased e = Fit form (pieces.easing (easing_sense u e))

  bezier_fits : Always u bezier_curve Eased
  unfolding bezier_curve four_floats comma_floats pieces.easing word_like all one_of
  bezier_fits =
      in_group 40 refl
      (then (two-floats complete) (λ p x. then (and (the-mark 44) (two-floats complete)) (λ q y.
      gives (fit-one refl ▸ fit_mark 40 refl ▸ x.0 ▸ fit_mark 44 refl ▸ x.1 ▸ fit_mark 44 refl ▸ y.0 ▸ fit_mark 44 refl ▸ y.1
      ▸ fit_mark 41 refl))))

  steps_fits : Always u steps_curve Eased
  unfolding steps_curve pieces.easing word_like all one_of
  steps_fits = then (count_in_parens complete) (λ n x. gives (fit-one refl ▸ fit_mark 40 refl ▸ x ▸ fit_mark 41 refl))

  wiggle_fits : Always u wiggle_curve Eased
  unfolding wiggle_curve pieces.easing word_like all one_of
  wiggle_fits = then (count_in_parens complete) (λ n x. gives (fit-one refl ▸ fit_mark 40 refl ▸ x ▸ fit_mark 41 refl))

  rough_fits : Always u rough_curve Eased
  unfolding rough_curve rough_fields numeric same find pieces.easing word_like all one_of
  rough_fits =
      then (in_group 40 refl (pairs_of u (Fair form u) rough_fields (number_row "strength" refl also count_row "points" refl also tt)))
      (λ fs h. gives (fit-one refl ▸ fit_mark 40 refl
      ▸ pairs_fit form _
      (unless-pair form "strength" f32 (f32_of 1 2) (last_number "strength" fs) _ refl (number_on form u fs h "strength" f32 refl)
      (unless-pair form "points" u32 8 (last_number "points" fs) [] refl (number_on form u fs h "points" u32 refl) tt))
      ▸ fit_mark 41 refl))

  slow_fits : Always u slow_mo_curve Eased
  unfolding slow_mo_curve slow_mo_fields numeric same find pieces.easing word_like all one_of
  slow_fits =
      then (in_group 40 refl (pairs_of u (Fair form u) slow_mo_fields (number_row "linear_ratio" refl also number_row "power" refl also tt)))
      (λ fs h. gives (fit-one refl ▸ fit_mark 40 refl
      ▸ pairs_fit form _
      (unless-pair form "linear_ratio" f32 (f32_of 7 10) (last_number "linear_ratio" fs) _ refl
      (number_on form u fs h "linear_ratio" f32 refl)
      (unless-pair form "power" f32 (f32_of 2 1) (last_number "power" fs) [] refl (number_on form u fs h "power" f32 refl) tt))
      ▸ fit_mark 41 refl))

  named-fits : (w : ℕ × List ℕ) → NameIn u w → under curves w.1 ≡ none → Always u (named_easing w) Eased
  unfolding named_easing variant_easing pieces.easing word_like all one_of
  named-fits w x e =
      tests (λ ts. same w.1 (bytes "Easing") && sees_two ":" ":" ts)
      (and (two-marks 58 58) (then (ident-fits {form = form}) (λ s y. gives (fit-one refl ▸ fit-one (refl, refl) ▸ y))))
      (gives (fit-one (rw x.bytes (x.word, x.plain, no_curve w.1 e))))

  pub easing-fits : Always u parse_easing Eased
  unfolding parse_easing curve_or curves
  easing-fits =
      tests (sees "(") refuses
      (then a_name_lem (λ w x.
      by_word_or curves w.1 (named_easing w)
      (bezier_fits also steps_fits also wiggle_fits also rough_fits also slow_fits also tt) (named-fits w x)))

  pub easing_row : (w : String) → Row u (Fair form u) (w, easing)
  unfolding easing
  easing_row w = then easing-fits (λ e h. gives (record { number = tt; easing = h; loop_mode = tt; value = tt; damping = tt; range = tt }))
