-- Values, easings and loop modes at two lists of tokens that agree.
use Prim.Native.Nat.{ℕ}
use mathlib.Core.Bool.{Bool, true, false, ◌&&◌, not}
use mathlib.Core.List.{List, [], ◌∷◌, ◌++◌}
use mathlib.Core.Option.{none, some}
use mathlib.Core.Path.{◌≡◌, refl, ap}
use lib.Dec.{eqb}
use lib.ListN.{length}
use Rattle.text.specs.Bytes.{bytes, same}
use Rattle.text.specs.Words.{find}
use Rattle.number.specs.Number.{whole}
use Rattle.number.specs.Rounded.{number_rounded}
use Rattle.token.specs.Names.{is_keyword}
use Rattle.easing.specs.Names.{is_easing}
use Rattle.ast.specs.Tree.{Span, named}
use Rattle.ast.specs.Tree.{span_bytes}
use Rattle.checking.specs.Rules.{unknown_easing}
use Rattle.error.specs.declared.Refusal.TheVariants.{Missing, Malformed}
use Rattle.grammar.specs.Rule.{Rule, give, sees, sees_two, sees_word, sees_number, sees_whole, inside_byte}
use Rattle.grammar.specs.Fields.{Content, a_number, a_truth, a_loop_mode, a_value}
use Rattle.grammar.specs.Values.{ident, string, truth, parse_float, parse_uint, parse_float_in_parens, comma_float, two_floats}
use Rattle.grammar.specs.Values.{parse_two_floats_in_parens, parse_uint_in_parens, array_item, array_items, parse_value, number}
use Rattle.grammar.specs.Values.{count, flag, value, comma_floats, four_floats, bezier_curve, rough_fields, rough_curve}
use Rattle.grammar.specs.Values.{slow_mo_fields, slow_mo_curve, steps_curve, wiggle_curve, curves, variant_easing, named_easing}
use Rattle.grammar.specs.Values.{curve_or, parse_easing, times_mode, ping_pong_mode, loop_modes, parse_loop_mode, easing, loop_mode}
use Rattle.law_rules.proofs.ListLaws.{◌also◌}
use Rattle.law_renamed.proofs.StreamLaws.{Scripts, byte_agrees, word_agrees, number_agrees, whole_agrees, colons_agree}
use Rattle.law_renamed.proofs.StepLaws.{Alikes, then, within, weaken, same_then, and, gives, refuses, tests, needs}
use Rattle.law_renamed.proofs.StepLaws.{skips, the-mark, two-marks, WordAlike}
use Rattle.law_renamed.proofs.StepLaws.{a_word_lem, a_text, a_number_lem, counts, in_group, lists}
use Rattle.law_renamed.proofs.StepLaws.{Rows, by_word, by_word_or}
use Rattle.law_renamed.proofs.FieldLaws.{EasingAlike, ContentAlike, pairs_alike}

pub true_keyword : is_keyword (bytes "true") ≡ true
unfolding is_keyword find same
true_keyword = refl

pub false_keyword : is_keyword (bytes "false") ≡ true
unfolding is_keyword find same
false_keyword = refl

-- equal names or strings
abbrev pub SpanAlike : Scripts → Span → Span → Type 0
SpanAlike x s d = span_bytes x.text s ≡ span_bytes x.other d

pub group : {A : Type 0} {x : Scripts} {H : Type 0} {p q : Rule A} {R : A → A → Type 0} (b : ℕ) → eqb b 0 ≡ false
    → Alikes x H p q R → Alikes x H (inside_byte b p) (inside_byte b q) R
group b z y = weaken (λ a j h. tt) (in_group b z y)

-- a field that holds no easing
pub content : (x : Scripts) (c : Content) → c.easing ≡ none → ContentAlike x c c
content x c e = record {
  number = refl;
  truth = refl;
  easing = rw e;
  loop_mode = refl;
  value = refl;
  damping = refl;
  range = refl;
}

module _ (x : Scripts) where
  pub ident_alike : {H : Type 0} → Alikes x H ident ident (SpanAlike x)
  unfolding ident
  ident_alike = then a_word_lem (λ w v. gives tt (λ h. h.1.1))

  pub string_alike : {H : Type 0} → Alikes x H string string (SpanAlike x)
  unfolding string
  string_alike = then a_text (λ a b. gives tt (λ h. h.1))

  truth_alike : {H : Type 0} → Alikes x H truth truth ◌≡◌
  unfolding truth
  truth_alike =
      tests (sees_word "true") (sees_word "true") (λ h ts us i. word_agrees i (bytes "true") true_keyword)
      (and {f = give true} {g = give true} skips (gives tt (λ h. refl)))
      (tests (sees_word "false") (sees_word "false") (λ h ts us i. word_agrees i (bytes "false") false_keyword)
      (and {f = give false} {g = give false} skips (gives tt (λ h. refl))) refuses)

  pub float_alike : {H : Type 0} → Alikes x H parse_float parse_float ◌≡◌
  unfolding parse_float
  float_alike = same_then (a_number_lem sees_number Malformed (λ ts us i. number_agrees i))
      (λ w. and (counts (number_rounded w.0 w.1) (number_rounded w.0 w.1)) (gives tt (λ h. refl)))

  uint_alike : {H : Type 0} → Alikes x H parse_uint parse_uint ◌≡◌
  unfolding parse_uint
  uint_alike =
      same_then (a_number_lem sees_whole Missing (λ ts us i. whole_agrees i))
      (λ w. needs Malformed (whole w.0 w.1) (whole w.0 w.1) (λ h. refl))

  comma_float_lem : {H : Type 0} → Alikes x H comma_float comma_float ◌≡◌
  unfolding comma_float
  comma_float_lem = and (the-mark 44 refl) float_alike

  two-floats : {H : Type 0} → Alikes x H two_floats two_floats ◌≡◌
  unfolding two_floats
  two-floats = same_then float_alike (λ a. same_then comma_float_lem (λ b. gives tt (λ h. refl)))

  pub two_in_parens : {H : Type 0} → Alikes x H parse_two_floats_in_parens parse_two_floats_in_parens ◌≡◌
  unfolding parse_two_floats_in_parens
  two_in_parens = group 40 refl two-floats

  pub float_in_parens : {H : Type 0} → Alikes x H parse_float_in_parens parse_float_in_parens ◌≡◌
  unfolding parse_float_in_parens
  float_in_parens = group 40 refl float_alike

  uint_in_parens : {H : Type 0} → Alikes x H parse_uint_in_parens parse_uint_in_parens ◌≡◌
  unfolding parse_uint_in_parens
  uint_in_parens = group 40 refl uint_alike

  items_alike : {H : Type 0} → Alikes x H array_items array_items ◌≡◌
  unfolding array_items array_item
  items_alike =
      lists ◌≡◌ array_item (λ xs ys. same_then float_alike (λ z. gives tt (λ h. ap (λ (zs : List ℕ). zs ++ z ∷ []) h))) [] [] (λ h. refl)

  pub value_alike : {H : Type 0} → Alikes x H parse_value parse_value ◌≡◌
  unfolding parse_value
  value_alike =
      tests (sees "[") (sees "[") (λ h ts us i. byte_agrees i 91) (same_then (group 91 refl items_alike) (λ xs. gives tt (λ h. refl)))
      (same_then float_alike (λ z. gives tt (λ h. refl)))

  -- ---- fields of these

  pub number_row : {H : Type 0} → Alikes x H number number (ContentAlike x)
  unfolding number
  number_row = same_then float_alike (λ n. gives tt (λ h. content x (a_number n) refl))

  pub count_row : {H : Type 0} → Alikes x H count count (ContentAlike x)
  unfolding count
  count_row = same_then uint_alike (λ n. gives tt (λ h. content x (a_number n) refl))

  pub flag_row : {H : Type 0} → Alikes x H flag flag (ContentAlike x)
  unfolding flag
  flag_row = same_then truth_alike (λ b. gives tt (λ h. content x (a_truth b) refl))

  pub value_row : {H : Type 0} → Alikes x H value value (ContentAlike x)
  unfolding value
  value_row = same_then value_alike (λ v. gives tt (λ h. content x (a_value v) refl))

  -- ---- easings

  bezier_alike : {H : Type 0} → Alikes x H bezier_curve bezier_curve (EasingAlike x)
  unfolding bezier_curve four_floats comma_floats unknown_easing
  bezier_alike = group 40 refl (same_then two-floats (λ p. same_then (and (the-mark 44 refl) two-floats) (λ q. gives tt (λ h. refl))))

  rough_alike : {H : Type 0} → Alikes x H rough_curve rough_curve (EasingAlike x)
  unfolding rough_curve rough_fields unknown_easing
  rough_alike = then (group 40 refl (pairs_alike x rough_fields (number_row also count_row also tt))) (λ fs gs. gives tt (λ h. refl))

  slow_alike : {H : Type 0} → Alikes x H slow_mo_curve slow_mo_curve (EasingAlike x)
  unfolding slow_mo_curve slow_mo_fields unknown_easing
  slow_alike = then (group 40 refl (pairs_alike x slow_mo_fields (number_row also number_row also tt))) (λ fs gs. gives tt (λ h. refl))

  steps_alike : {H : Type 0} → Alikes x H steps_curve steps_curve (EasingAlike x)
  unfolding steps_curve unknown_easing
  steps_alike = same_then uint_in_parens (λ n. gives tt (λ h. refl))

  wiggle_alike : {H : Type 0} → Alikes x H wiggle_curve wiggle_curve (EasingAlike x)
  unfolding wiggle_curve unknown_easing
  wiggle_alike = same_then uint_in_parens (λ n. gives tt (λ h. refl))

  curve_rows : Rows x (EasingAlike x) curves
  unfolding curves
  curve_rows = bezier_alike also steps_alike also wiggle_alike also rough_alike also slow_alike also tt

  named-same : (b : Bool) (s d : Span) → SpanAlike x s d → EasingAlike x (named b s) (named b d)
  unfolding unknown_easing
  named-same b s d e = ap (λ (w : List ℕ). not (is_easing b w)) e

  variant_alike : {H : Type 0} → Alikes x H variant_easing variant_easing (EasingAlike x)
  unfolding variant_easing
  variant_alike =
      and (two-marks 58 58 (λ ts us i. colons_agree i)) (then ident_alike (λ s d. gives tt (λ h. named-same true s d h.1)))

  named_alike : {H : Type 0} (w v : ℕ × List ℕ) → (H → WordAlike x w v) → Alikes x H (named_easing w) (named_easing v) (EasingAlike x)
  unfolding named_easing
  named_alike w v e =
      tests (λ ts. same w.1 (bytes "Easing") && sees_two ":" ":" ts) (λ ts. same v.1 (bytes "Easing") && sees_two ":" ":" ts)
      (λ h ts us i. rw ((e h).0, colons_agree i)) variant_alike
      (gives tt
      (λ h. named-same false (record { start = w.0; size = length w.1 }) (record { start = v.0; size = length v.1 }) (e h).1))

  pub easing_alike : {H : Type 0} → Alikes x H parse_easing parse_easing (EasingAlike x)
  unfolding parse_easing curve_or
  easing_alike =
      tests (sees "(") (sees "(") (λ h ts us i. byte_agrees i 40) refuses
      (then a_word_lem
      (λ w v. by_word_or curves w.1 v.1 (named_easing w) (named_easing v) (λ h. h.1.0) curve_rows (named_alike w v (λ h. h.1))))

  pub easing_row : {H : Type 0} → Alikes x H easing easing (ContentAlike x)
  unfolding easing
  easing_row =
      then easing_alike
      (λ e d. gives tt
      (λ h. record {
        number = refl;
        truth = refl;
        easing = ap some h.1;
        loop_mode = refl;
        value = refl;
        damping = refl;
        range = refl;
      }))

  -- ---- loop modes

  times_alike : {H : Type 0} → Alikes x H times_mode times_mode ◌≡◌
  unfolding times_mode
  times_alike = same_then uint_in_parens (λ n. gives tt (λ h. refl))

  ping_alike : {H : Type 0} → Alikes x H ping_pong_mode ping_pong_mode ◌≡◌
  unfolding ping_pong_mode
  ping_alike =
      tests (sees "(") (sees "(") (λ h ts us i. byte_agrees i 40) (same_then uint_in_parens (λ n. gives tt (λ h. refl)))
      (gives tt (λ h. refl))

  mode_rows : Rows x ◌≡◌ loop_modes
  unfolding loop_modes
  mode_rows = gives tt (λ h. refl) also gives tt (λ h. refl) also ping_alike also times_alike also tt

  pub loop_alike : {H : Type 0} → Alikes x H parse_loop_mode parse_loop_mode ◌≡◌
  unfolding parse_loop_mode
  loop_alike =
      then a_word_lem (λ w v. by_word Malformed loop_modes w.1 v.1 (λ p. p) (λ h. h.1.0) mode_rows (λ p y. within (λ h. tt) y))

  pub loop-row : {H : Type 0} → Alikes x H loop_mode loop_mode (ContentAlike x)
  unfolding loop_mode
  loop-row = same_then loop_alike (λ m. gives tt (λ h. content x (a_loop_mode m) refl))
