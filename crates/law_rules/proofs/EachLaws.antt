-- A law on each rule of the grammar: what its steps pass on holds of every rule. P n p: it holds of p, which opens at most n groups in one
-- another; S n p: it holds of p behind a number that is not counted yet.
use Prim.Native.Nat.{ℕ, zero, suc}
use Prim.Native.String.{String}
use mathlib.Core.Bool.{Bool, true, false, ◌&&◌, ◌||◌, not, cond}
use mathlib.Core.List.{List, [], ◌∷◌}
use mathlib.Core.Option.{Option, none, some}
use mathlib.Core.Path.{◌≡◌, refl}
use lib.Dec.{eqb}
use Rattle.text.specs.Bytes.{bytes, same}
use Rattle.text.specs.Words.{words, under, default, find}
use Rattle.codec.proofs.Laws.{All}
use Rattle.number.specs.Number.{Written, whole, nearest, bits}
use Rattle.number.specs.Rounded.{number_rounded, time_rounded}
use Rattle.number.specs.Time.{Key}
use Rattle.token.specs.Token.{Token}
use Rattle.ast.specs.Tree.{Nodes, Leaf, Container}
use Rattle.error.specs.declared.Refusal.{Refusal}
use Rattle.error.specs.declared.Refusal.TheVariants.{Missing, UnknownKeyword, Malformed, UnknownSpringPreset}
use Rattle.error.specs.declared.Refusal.TheVariants.{MissingDuration, StaggerGridIncomplete, TooManyNested}
use Rattle.grammar.specs.Rule.{Notes, Out, got, refused, Rule, after, give, need, refuse, if, ◌>>=◌, ◌>>◌, sees_byte, sees_bytes, sees}
use Rattle.grammar.specs.Rule.{sees_two, sees_name, sees_number, sees_whole, ends, skip, the_byte, both_bytes, eat_byte, the, eat, word}
use Rattle.grammar.specs.Rule.{text, choice_in, signed, counted, inside_byte, Next, more, go_on, repeat, list_step, list}
use Rattle.grammar.specs.Fields.{Content, Fields, Table, row_of, field_head, field_value, entry}
use Rattle.grammar.specs.Fields.{pair_name, one_pair, pairs, field_name, one_field, fields_step, parse_field_list, last_number}
use Rattle.grammar.specs.Values.{ident, string, truth, parse_float, parse_uint, parse_float_in_parens, comma_float, two_floats}
use Rattle.grammar.specs.Values.{parse_two_floats_in_parens, parse_uint_in_parens, array_item, array_items, parse_value, number}
use Rattle.grammar.specs.Values.{count, flag, value, comma_floats, four_floats, bezier_curve, rough_fields, rough_curve}
use Rattle.grammar.specs.Values.{slow_mo_fields, slow_mo_curve, steps_curve, wiggle_curve, curves, variant_easing, named_easing}
use Rattle.grammar.specs.Values.{curve_or, parse_easing, times_mode, ping_pong_mode, loop_modes, parse_loop_mode, easing, loop_mode}
use Rattle.grammar.specs.Grammar.{tween_fields, parse_tween, parse_spring_preset, spring_preset, integrator, critical_damping, over_damping}
use Rattle.grammar.specs.Grammar.{spring_fields, parse_spring, keyed, parse_keyframe_time, keyframe_entry, Track, track_loop, track_frame}
use Rattle.grammar.specs.Grammar.{track_step, parse_keyframes, parse_sequence, parse_parallel, parse_group, parse_grid_origin, origin}
use Rattle.grammar.specs.Grammar.{grid_fields, grid_pattern, random_fields, random_pattern, patterns, parse_stagger_pattern, Opening}
use Rattle.grammar.specs.Grammar.{opening_fields, opening_field, opening_step, parse_stagger, offset, path_fields, parse_path}
use Rattle.grammar.specs.Grammar.{morph_fields, parse_morph, draw_fields, parse_draw, space, color_fields, parse_color, unless_noise, waveform_kind}
use Rattle.grammar.specs.Grammar.{waveform_fields, parse_waveform, parse_preset_call, parse_label, at_sign, turned, parse_at, leaves}
use Rattle.grammar.specs.Grammar.{containers, or_container, beginning, node_by, parse_node}
use Rattle.grammar.specs.Grammar.{one_node, nodes_step, block, animato_input, under_damping}
use Rattle.grammar.specs.Grammar.{preset_names, integrator_names, mode_names, origin_names, space_names, waveform_names}
use Rattle.law_rules.proofs.ListLaws.{◌also◌}

-- ---- delimiters

abbrev pub is_opener : ℕ → Bool
is_opener b = eqb b 40 || (eqb b 91 || (eqb b 123 || false))

abbrev pub is_closer : ℕ → Bool
is_closer b = eqb b 41 || (eqb b 93 || (eqb b 125 || false))

-- no delimiter
abbrev pub is_plain : ℕ → Bool
is_plain b = not (is_opener b) && not (is_closer b)

-- ---- what the steps of the grammar pass on

pub record Closed (P S : ℕ → (A : Type 0) → Rule A → Type 0) : Type 1 where
  pub equal : {n : ℕ} {A : Type 0} {p q : Rule A} → P n A p → ((l : Notes) (ts : List Token) → p l ts ≡ q l ts) → P n A q
  pub gives : {n : ℕ} {A : Type 0} {a : A} → P n A (give a)
  pub refuses : {n : ℕ} {A : Type 0} {r : Refusal} → P n A (refuse r)
  pub then : {n : ℕ} {A B : Type 0} {p : Rule A} {f : A → Rule B} → P n A p → ((a : A) → P n B (f a)) → P n B (p >>= f)
  pub tests : {n : ℕ} {A : Type 0} {p q : Rule A} (test : List Token → Bool) → P n A p → P n A q → P n A (if test p q)
  -- a mark that is no delimiter, or a word, is passed
  pub marks : {n : ℕ} {A : Type 0} {p q : Rule A} (b : ℕ) → is_plain b ≡ true → P n A p → P n A q → P n A (if (sees_byte b) (skip >> p) q)
  pub known : {n : ℕ} {A : Type 0} {p q : Rule A} (v : List ℕ) → P n A p → P n A q → P n A (if (sees_bytes v) (skip >> p) q)
  pub the-mark : {n : ℕ} (b : ℕ) → is_plain b ≡ true → P n (Unit {0}) (the_byte b)
  pub two-marks : {n : ℕ} (b d : ℕ) → is_plain b ≡ true → is_plain d ≡ true → P n (Unit {0}) (both_bytes b d)
  pub a_word : {n : ℕ} → P n (ℕ × List ℕ) word
  pub a_text : {n : ℕ} → P n (ℕ × ℕ) text
  pub a_whole : {n : ℕ} (r : Refusal) → P n (Bool × Written) (signed sees_whole r)
  -- numbers that are counted behind them
  pub a_float : {n : ℕ} {A : Type 0} {f : Bool × Written → Rule A} (r : Refusal) → ((w : Bool × Written) → S n A (f w))
      → P n A (signed sees_number r >>= f)
  pub tallies : {n : ℕ} {A : Type 0} {p : Rule A} (b : Bool) → P n A p → S n A (counted b >> p)
  pub refuses_too : {n : ℕ} {A : Type 0} {r : Refusal} → S n A (refuse r)
  pub eats_too : {n : ℕ} {A : Type 0} {f : Bool → Rule A} (b : Bool) (c : ℕ) → is_plain c ≡ true → ((x : Bool) → S n A (f x))
      → S n A (cond b (give false) (eat_byte c) >>= f)
  pub fields : {n : ℕ} (t : Table) (fs : Fields) → P n (Next Fields) (one_field t fs) → P n (Next Fields) (fields_step t fs)
  pub in_group : {n : ℕ} {A : Type 0} {p : Rule A} (b : ℕ) → is_opener b ≡ true → P n A p → P (suc n) A (inside_byte b p)
  pub repeats : {n : ℕ} {A : Type 0} (step : A → Rule (Next A)) → ((a : A) → P n (Next A) (step a)) → (a : A) → P n A (repeat step a)

regroup : {A B C : Type 0} (f : A → Rule B) (g : B → Rule C) (o : Out A) → after o (λ a. f a >>= g) ≡ after (after o f) g
regroup f g (got a l ts) = refl
regroup f g (refused r p) = refl

module _ (P S : ℕ → (A : Type 0) → Rule A → Type 0) (K : Closed P S) where
  abbrev Q : {A : Type 0} → ℕ → Rule A → Type 0
  Q {A} n p = P n A p

  -- ---- steps made of these

  and : {n : ℕ} {A B : Type 0} {p : Rule A} {q : Rule B} → Q n p → Q n q → Q n (p >> q)
  and {q = q} x y = K.then {f = λ a. q} x (λ a. y)

  grouped : {n : ℕ} {A B C : Type 0} (p : Rule A) (f : A → Rule B) (g : B → Rule C)
      → Q n (p >>= λ a. f a >>= g) → Q n (p >>= f >>= g)
  grouped p f g x = K.equal x (λ l ts. regroup f g (p l ts))

  needs : {n : ℕ} {A : Type 0} (r : Refusal) (o : Option A) → Q n (need r o)
  needs r none = K.refuses
  needs r (some a) = K.gives

  conds : {n : ℕ} {A : Type 0} {p q : Rule A} (b : Bool) → Q n p → Q n q → Q n (cond b p q)
  conds true x y = x
  conds false x y = y

  conds_too : {n : ℕ} {A : Type 0} {p q : Rule A} (b : Bool) → S n A p → S n A q → S n A (cond b p q)
  conds_too true x y = x
  conds_too false x y = y

  eats : {n : ℕ} (b : ℕ) → is_plain b ≡ true → Q n (eat_byte b)
  eats b e = K.marks {p = give true} {q = give false} b e K.gives K.gives

  a_choice : {n : ℕ} (r : Refusal) (ns : List (List ℕ)) → Q n (choice_in r ns)
  a_choice r ns = K.then K.a_word (λ w. needs r (find ns 0 w.1))

  lists : {n : ℕ} {A : Type 0} (item : A → Rule A) → ((a : A) → Q n (item a)) → (a : A) → Q n (list item a)
  lists item h a =
      K.repeats (list_step item) (λ a. K.tests ends K.gives (K.then (h a) (λ b. K.then (eats 44 refl) (λ c. K.gives)))) a

  -- ---- a rule by its word

  abbrev Found : {A : Type 0} → ℕ → Option (Rule A) → Type 0
  Found n none = Unit {0}
  Found n (some p) = Q n p

  abbrev Rows : {A : Type 0} → ℕ → List (String × Rule A) → Type 0
  Rows n t = All (λ f. Q n f.1) t

  picks : {A : Type 0} (n : ℕ) (b : Bool) (p : Rule A) (o : Option (Rule A)) → Q n p → Found n o
      → Found {A = A} n (elim b [ true ↦ some p | false ↦ o ])
  picks n true p o x y = x
  picks n false p o x y = y

  under-found : {A : Type 0} (n : ℕ) (t : List (String × Rule A)) (w : List ℕ) → Rows n t → Found n (under t w)
  unfolding under
  under-found n [] w h = tt
  under-found n (f ∷ t) w h = picks n (same w (bytes f.0)) f.1 (under t w) h.0 (under-found n t w h.1)

  needs_rule : {A B : Type 0} (n : ℕ) (r : Refusal) (o : Option (Rule A)) (f : Rule A → Rule B)
      → Found n o → ((p : Rule A) → Q n p → Q n (f p)) → Q n (need r o >>= f)
  needs_rule n r none f x k = K.equal (K.refuses {r = r}) (λ l ts. refl)
  needs_rule n r (some p) f x k = K.equal (k p x) (λ l ts. refl)

  by_word : {A B : Type 0} {n : ℕ} (r : Refusal) (t : List (String × Rule A)) (w : List ℕ) (f : Rule A → Rule B)
      → Rows n t → ((p : Rule A) → Q n p → Q n (f p)) → Q n (need r (under t w) >>= f)
  by_word {n = n} r t w f rows k = needs_rule n r (under t w) f (under-found n t w rows) k

  or_rule : {A : Type 0} (n : ℕ) (o : Option (Rule A)) (p : Rule A) → Found n o → Q n p → Q n (default o p)
  or_rule n none p x y = y
  or_rule n (some q) p x y = x

  by_word_or : {A : Type 0} {n : ℕ} (t : List (String × Rule A)) (w : List ℕ) (p : Rule A) → Rows n t → Q n p → Q n (default (under t w) p)
  by_word_or {n = n} t w p rows x = or_rule n (under t w) p (under-found n t w rows) x

  -- ---- fields

  abbrev RowFound : ℕ → Option (String × Rule Content) → Type 0
  RowFound n none = Unit {0}
  RowFound n (some f) = Q n f.1

  row_pick : (n : ℕ) (b : Bool) (f : String × Rule Content) (o : Option (String × Rule Content))
      → Q n f.1 → RowFound n o → RowFound n (elim b [ true ↦ some f | false ↦ o ])
  row_pick n true f o x y = x
  row_pick n false f o x y = y

  row_found : (n : ℕ) (t : Table) (w : List ℕ) → Rows n t → RowFound n (row_of t w)
  unfolding row_of
  row_found n [] w h = tt
  row_found n (f ∷ t) w h = row_pick n (same w (bytes f.0)) f (row_of t w) h.0 (row_found n t w h.1)

  needs_row : (n : ℕ) (o : Option (String × Rule Content)) → RowFound n o → Q n (need UnknownKeyword o >>= field_value)
  unfolding field_value
  needs_row n none x = K.equal (K.refuses {r = UnknownKeyword}) (λ l ts. refl)
  needs_row n (some f) x = K.equal (K.then {B = List ℕ × Content} {f = λ c. give (bytes f.0, c)} x (λ c. K.gives)) (λ l ts. refl)

  entry-each : (n : ℕ) (p : Rule (List ℕ)) (t : Table) → Q n p → Rows n t → Q n (entry p t)
  unfolding entry field_head
  entry-each n p t x rows =
      grouped p (λ w. the ":" >> need UnknownKeyword (row_of t w)) field_value
      (K.then x
      (λ w. grouped (the ":") (λ u. need UnknownKeyword (row_of t w)) field_value
      (K.then (K.the-mark 58 refl) (λ u. needs_row n (row_of t w) (row_found n t w rows)))))

  pair_name_lem : {n : ℕ} → Q n pair_name
  unfolding pair_name
  pair_name_lem = K.then K.a_word (λ w. K.gives)

  field_name_lem : {n : ℕ} → Q n field_name
  unfolding field_name
  field_name_lem = K.known {p = give (bytes "loop")} (bytes "loop") K.gives pair_name_lem

  pairs-each : {n : ℕ} (t : Table) → Rows n t → Q n (pairs t)
  unfolding pairs one_pair
  pairs-each {n} t rows = lists (one_pair t) (λ fs. K.then (entry-each n pair_name t pair_name_lem rows) (λ f. K.gives)) []

  field-each : {n : ℕ} (t : Table) (fs : Fields) → Rows n t → Q n (one_field t fs)
  unfolding one_field
  field-each {n} t fs rows = K.then (entry-each n field_name t field_name_lem rows) (λ f. K.gives)

  fields_each : {n : ℕ} (t : Table) → Rows n t → (fs : Fields) → Q n (parse_field_list t fs)
  unfolding parse_field_list
  fields_each t rows fs = K.repeats (fields_step t) (λ gs. K.fields t gs (field-each t gs rows)) fs

  -- ---- names, numbers, values

  ident-each : {n : ℕ} → Q n ident
  unfolding ident
  ident-each = K.then K.a_word (λ w. K.gives)

  string-each : {n : ℕ} → Q n string
  unfolding string
  string-each = K.then K.a_text (λ s. K.gives)

  truth-each : {n : ℕ} → Q n truth
  unfolding truth
  truth-each = K.known {p = give true} (bytes "true") K.gives (K.known {p = give false} (bytes "false") K.gives K.refuses)

  float_each : {n : ℕ} → Q n parse_float
  unfolding parse_float
  float_each = K.a_float Malformed (λ w. K.tallies (number_rounded w.0 w.1) K.gives)

  uint_each : {n : ℕ} → Q n parse_uint
  unfolding parse_uint
  uint_each = K.then (K.a_whole Missing) (λ w. needs Malformed (whole w.0 w.1))

  comma_float_lem : {n : ℕ} → Q n comma_float
  unfolding comma_float
  comma_float_lem = and (K.the-mark 44 refl) float_each

  two-floats : {n : ℕ} → Q n two_floats
  unfolding two_floats
  two-floats = K.then float_each (λ a. K.then comma_float_lem (λ b. K.gives))

  two_in_parens : {n : ℕ} → Q (suc n) parse_two_floats_in_parens
  unfolding parse_two_floats_in_parens
  two_in_parens = K.in_group 40 refl two-floats

  float_in_parens : {n : ℕ} → Q (suc n) parse_float_in_parens
  unfolding parse_float_in_parens
  float_in_parens = K.in_group 40 refl float_each

  uint_in_parens : {n : ℕ} → Q (suc n) parse_uint_in_parens
  unfolding parse_uint_in_parens
  uint_in_parens = K.in_group 40 refl uint_each

  items-each : {n : ℕ} → Q n array_items
  unfolding array_items array_item
  items-each = lists array_item (λ xs. K.then float_each (λ x. K.gives)) []

  value-each : {n : ℕ} → Q (suc n) parse_value
  unfolding parse_value
  value-each = K.tests (sees "[") (K.then (K.in_group 91 refl items-each) (λ xs. K.gives)) (K.then float_each (λ x. K.gives))

  number_row : {n : ℕ} → Q n number
  unfolding number
  number_row = K.then float_each (λ x. K.gives)

  count_row : {n : ℕ} → Q n count
  unfolding count
  count_row = K.then uint_each (λ x. K.gives)

  flag_row : {n : ℕ} → Q n flag
  unfolding flag
  flag_row = K.then truth-each (λ x. K.gives)

  value_row : {n : ℕ} → Q (suc n) value
  unfolding value
  value_row = K.then value-each (λ x. K.gives)

  -- ---- easings, loop modes

  four_floats_lem : {n : ℕ} → Q n four_floats
  unfolding four_floats comma_floats
  four_floats_lem = K.then two-floats (λ p. K.then (and (K.the-mark 44 refl) two-floats) (λ q. K.gives))

  bezier_each : {n : ℕ} → Q (suc n) bezier_curve
  unfolding bezier_curve
  bezier_each = K.in_group 40 refl four_floats_lem

  rough_each : {n : ℕ} → Q (suc n) rough_curve
  unfolding rough_curve rough_fields
  rough_each = K.then (K.in_group 40 refl (pairs-each rough_fields (number_row also count_row also tt))) (λ fs. K.gives)

  slow_each : {n : ℕ} → Q (suc n) slow_mo_curve
  unfolding slow_mo_curve slow_mo_fields
  slow_each = K.then (K.in_group 40 refl (pairs-each slow_mo_fields (number_row also number_row also tt))) (λ fs. K.gives)

  steps_each : {n : ℕ} → Q (suc n) steps_curve
  unfolding steps_curve
  steps_each = K.then uint_in_parens (λ x. K.gives)

  wiggle_each : {n : ℕ} → Q (suc n) wiggle_curve
  unfolding wiggle_curve
  wiggle_each = K.then uint_in_parens (λ x. K.gives)

  curve_rows : (n : ℕ) → Rows (suc n) curves
  unfolding curves
  curve_rows n = bezier_each also steps_each also wiggle_each also rough_each also slow_each also tt

  variant_each : {n : ℕ} → Q n variant_easing
  unfolding variant_easing
  variant_each = and (K.two-marks 58 58 refl refl) (K.then ident-each (λ s. K.gives))

  named-each : {n : ℕ} (w : ℕ × List ℕ) → Q n (named_easing w)
  unfolding named_easing
  named-each w = K.tests (λ ts. same w.1 (bytes "Easing") && sees_two ":" ":" ts) variant_each K.gives

  easing-each : {n : ℕ} → Q (suc n) parse_easing
  unfolding parse_easing curve_or
  easing-each {n} =
      K.tests (sees "(") K.refuses (K.then K.a_word (λ w. by_word_or curves w.1 (named_easing w) (curve_rows n) (named-each w)))

  times-each : {n : ℕ} → Q (suc n) times_mode
  unfolding times_mode
  times-each = K.then uint_in_parens (λ x. K.gives)

  ping_each : {n : ℕ} → Q (suc n) ping_pong_mode
  unfolding ping_pong_mode
  ping_each = K.tests (sees "(") (K.then uint_in_parens (λ x. K.gives)) K.gives

  mode_rows : (n : ℕ) → Rows (suc n) loop_modes
  unfolding loop_modes
  mode_rows n = K.gives also K.gives also ping_each also times-each also tt

  loop_each : {n : ℕ} → Q (suc n) parse_loop_mode
  unfolding parse_loop_mode
  loop_each {n} = K.then K.a_word (λ w. by_word Malformed loop_modes w.1 (λ p. p) (mode_rows n) (λ p x. x))

  easing_row : {n : ℕ} → Q (suc n) easing
  unfolding easing
  easing_row = K.then easing-each (λ x. K.gives)

  loop-row : {n : ℕ} → Q (suc n) loop_mode
  unfolding loop_mode
  loop-row = K.then loop_each (λ x. K.gives)

  -- ---- tween, spring

  arrow : {n : ℕ} → Q n (both_bytes 61 62)
  arrow = K.two-marks 61 62 refl refl

  tween_rows : (n : ℕ) → Rows (suc n) tween_fields
  unfolding tween_fields
  tween_rows n =
      number_row also easing_row also number_row also number_row also loop-row also number_row also count_row also flag_row also tt

  tween_each : {n : ℕ} → Q (suc n) parse_tween
  unfolding parse_tween
  tween_each {n} =
      K.then ident-each (λ t. and (K.the-mark 58 refl) (K.then value-each (λ v. and arrow (K.then value-each (λ w.
      K.then (fields_each tween_fields (tween_rows n) []) (λ fs.
      K.then (needs MissingDuration (last_number "duration" fs)) (λ d. K.gives)))))))

  spring_rows : (n : ℕ) → Rows (suc n) spring_fields
  unfolding spring_fields spring_preset parse_spring_preset integrator critical_damping over_damping under_damping
  spring_rows n =
      K.then (a_choice UnknownSpringPreset (words preset_names)) (λ k. K.gives)
      also number_row
      also number_row
      also number_row
      also value_row
      also number_row
      also K.then (a_choice Malformed (words integrator_names)) (λ k. K.gives)
      also K.then float_in_parens (λ x. K.gives)
      also K.then two_in_parens (λ p. K.gives)
      also K.then two_in_parens (λ p. K.gives)
      also tt

  spring_each : {n : ℕ} → Q (suc n) parse_spring
  unfolding parse_spring
  spring_each {n} =
      K.then ident-each (λ t. and (K.the-mark 58 refl) (K.then value-each (λ v. and arrow (K.then value-each (λ w.
      K.then (fields_each spring_fields (spring_rows n) []) (λ fs. K.gives))))))

  -- ---- keyframes

  time-each : {n : ℕ} → Q n parse_keyframe_time
  unfolding parse_keyframe_time keyed
  time-each =
      K.a_float Malformed
      (λ w. K.eats_too w.1.point 37 refl
      (λ p. conds_too (p && w.1.suffix) K.refuses_too (K.tallies (time_rounded _) K.gives)))

  frame-each : {n : ℕ} → Q (suc n) keyframe_entry
  unfolding keyframe_entry
  frame-each =
      K.then time-each (λ t. and (K.the-mark 58 refl) (K.then value-each (λ v.
      K.then (K.tests sees_name (K.then easing-each (λ e. K.gives)) K.gives) (λ e. K.gives))))

  track-each : {n : ℕ} (s : Track) → Q (suc n) (track_step s)
  unfolding track_step track_loop track_frame
  track-each s =
      K.tests ends K.gives (K.known (bytes "loop")
      (and (K.the-mark 58 refl) (K.then loop_each (λ m. and (eats 44 refl) K.gives)))
      (K.then frame-each (λ f. K.then (K.marks {p = give true} 44 refl K.gives (eats 59 refl)) (λ c. K.gives))))

  keyframes_each : {n : ℕ} → Q (suc (suc n)) parse_keyframes
  unfolding parse_keyframes
  keyframes_each = K.then ident-each (λ t. K.then (K.in_group 123 refl (K.repeats track_step track-each ([], none))) (λ s. K.gives))

  -- ---- containers

  group_each : {n : ℕ} → Q n parse_group
  unfolding parse_group
  group_each = K.then (a_choice Malformed (words mode_names)) (λ m. K.gives)

  origin_row : {n : ℕ} → Q n origin
  unfolding origin parse_grid_origin
  origin_row = K.then (a_choice Malformed (words origin_names)) (λ k. K.gives)

  grid_each : {n : ℕ} → Q (suc n) grid_pattern
  unfolding grid_pattern grid_fields
  grid_each =
      K.in_group 40 refl
      (K.then (pairs-each grid_fields (count_row also count_row also origin_row also tt)) (λ fs.
      K.then (needs StaggerGridIncomplete (last_number "cols" fs)) (λ c.
      K.then (needs StaggerGridIncomplete (last_number "rows" fs)) (λ r. K.gives))))

  random_each : {n : ℕ} → Q (suc n) random_pattern
  unfolding random_pattern random_fields
  random_each = K.then (K.in_group 40 refl (pairs-each random_fields (count_row also number_row also number_row also tt))) (λ fs. K.gives)

  pattern_rows : (n : ℕ) → Rows (suc n) patterns
  unfolding patterns
  pattern_rows n = grid_each also random_each also K.gives also K.gives also tt

  pattern-each : {n : ℕ} → Q (suc n) parse_stagger_pattern
  unfolding parse_stagger_pattern
  pattern-each {n} = K.then K.a_word (λ w. by_word Malformed patterns w.1 (λ p. p) (pattern_rows n) (λ p x. x))

  opening_rows : (n : ℕ) (s : Opening) → Rows (suc n) (opening_fields s)
  unfolding opening_fields
  opening_rows n s =
      and (K.the-mark 58 refl) (K.then pattern-each (λ p. K.gives))
      also and (K.the-mark 58 refl) (K.then float_each (λ d. K.gives))
      also tt

  opening-each : {n : ℕ} (s : Opening) → Q (suc n) (opening_step s)
  unfolding opening_step opening_field
  opening-each {n} s =
      K.tests (sees "{") K.gives
      (K.then K.a_word
      (λ w. by_word UnknownKeyword (opening_fields s) w.1 (λ p. p >>= λ s'. eat "," >>= λ c. give (go_on c s')) (opening_rows n s)
      (λ p x. K.then x (λ s'. K.then (eats 44 refl) (λ c. K.gives)))))

  stagger_each : {n : ℕ} → Q (suc n) parse_stagger
  unfolding parse_stagger
  stagger_each = K.then (K.repeats opening_step opening-each (none, none)) (λ s. K.gives)

  -- ---- path, morph, draw, color, waveform

  offset_row : {n : ℕ} → Q n offset
  unfolding offset
  offset_row = K.then float_each (λ a. and (K.two-marks 46 46 refl refl) (K.then float_each (λ b. K.gives)))

  path_rows : (n : ℕ) → Rows (suc n) path_fields
  unfolding path_fields
  path_rows n = number_row also easing_row also flag_row also offset_row also loop-row also tt

  path_each : {n : ℕ} → Q (suc n) parse_path
  unfolding parse_path
  path_each {n} =
      K.then ident-each (λ t. and (a_choice Malformed (words ("along" ∷ []))) (K.then string-each (λ s.
      K.then (fields_each path_fields (path_rows n) []) (λ fs.
      K.then (needs MissingDuration (last_number "duration" fs)) (λ d. K.gives)))))

  morph_rows : (n : ℕ) → Rows (suc n) morph_fields
  unfolding morph_fields
  morph_rows n = count_row also number_row also easing_row also tt

  morph_each : {n : ℕ} → Q (suc n) parse_morph
  unfolding parse_morph
  morph_each {n} =
      K.then string-each (λ a. and arrow (K.then string-each (λ b.
      K.then (fields_each morph_fields (morph_rows n) []) (λ fs.
      K.then (needs MissingDuration (last_number "duration" fs)) (λ d. K.gives)))))

  draw_rows : (n : ℕ) → Rows (suc n) draw_fields
  unfolding draw_fields
  draw_rows n = number_row also easing_row also tt

  draw_each : {n : ℕ} → Q (suc n) parse_draw
  unfolding parse_draw
  draw_each {n} =
      K.then string-each (λ s. K.then (fields_each draw_fields (draw_rows n) []) (λ fs.
      K.then (needs MissingDuration (last_number "duration" fs)) (λ d. K.gives)))

  space_row : {n : ℕ} → Q n space
  unfolding space
  space_row = K.then (a_choice Malformed (words space_names)) (λ k. K.gives)

  color_rows : (n : ℕ) → Rows (suc n) color_fields
  unfolding color_fields
  color_rows n = number_row also space_row also easing_row also tt

  color_each : {n : ℕ} → Q (suc n) parse_color
  unfolding parse_color
  color_each {n} =
      K.then ident-each (λ t. and (K.the-mark 58 refl) (K.then string-each (λ a. and arrow (K.then string-each (λ b.
      K.then (fields_each color_fields (color_rows n) []) (λ fs.
      K.then (needs MissingDuration (last_number "duration" fs)) (λ d. K.gives)))))))

  waveform_rows : (n : ℕ) → Rows n waveform_fields
  unfolding waveform_fields
  waveform_rows n = number_row also number_row also number_row also number_row also count_row also number_row also number_row also tt

  waveform_each : {n : ℕ} → Q n parse_waveform
  unfolding parse_waveform waveform_kind unless_noise
  waveform_each {n} =
      K.then (K.then (a_choice Malformed (words waveform_names)) (λ k. conds (eqb k 4) K.refuses K.gives)) (λ k.
      K.then (fields_each waveform_fields (waveform_rows n) []) (λ fs. K.gives))

  -- ---- preset, label, at

  preset_each : {n : ℕ} → Q (suc (suc n)) parse_preset_call
  unfolding parse_preset_call
  preset_each {n} =
      K.then ident-each
      (λ w. K.then (K.tests (sees "(") (K.in_group 40 refl (pairs-each draw_fields (draw_rows n))) K.gives)
      (λ fs.
      K.then (K.marks {p = parse_field_list draw_fields fs} 44 refl (fields_each draw_fields (draw_rows (suc n)) fs) K.gives)
      (λ gs. K.gives)))

  label_each : {n : ℕ} → Q n parse_label
  unfolding parse_label
  label_each = K.then string-each (λ s. and (K.the-mark 59 refl) K.gives)

  at_sign_lem : {n : ℕ} → Q n at_sign
  unfolding at_sign
  at_sign_lem = K.then (eats 43 refl) (λ p. K.then (conds p K.gives (eats 45 refl)) (λ m. K.gives))

  at_each : {n : ℕ} → Q n parse_at
  unfolding parse_at
  at_each =
      K.then at_sign_lem (λ s. K.a_float Malformed (λ w.
      let x : Leaf Key = Leaf.at (record { value = bits (nearest (turned s.1 w.0) w.1); relative = s.0 }) in
      K.tallies (number_rounded (turned s.1 w.0) w.1) (and (eats 59 refl) (K.gives {a = x}))))

  -- ---- nodes: an easing in a preset's parentheses and a frame's array are two groups deep

  leaf_rows : (n : ℕ) → Rows (suc (suc n)) leaves
  unfolding leaves
  leaf_rows n =
      tween_each also spring_each also keyframes_each also path_each also morph_each
      also draw_each also color_each also waveform_each also preset_each also label_each
      also at_each also tt

  container_rows : (n : ℕ) → Rows (suc (suc n)) containers
  unfolding containers parse_sequence parse_parallel
  container_rows n = K.gives also K.gives also group_each also stagger_each also tt

  module _ {n : ℕ} (b : Rule (Nodes Key)) (inner : Q (suc (suc n)) b) where
    begun_each : (start : ℕ) (x : Option (Rule (Leaf Key))) (y : Option (Rule Container))
        → Found (suc (suc n)) x → Found (suc (suc n)) y → Q (suc (suc n)) (node_by b start (or_container x y))
    begun_each start (some p) y f g = K.then f (λ l. K.gives)
    begun_each start none (some p) f g = K.then g (λ c. K.then inner (λ ns. K.gives))
    begun_each start none none f g = K.refuses

    node_each : Q (suc (suc n)) (parse_node b)
    unfolding parse_node beginning
    node_each =
        K.then K.a_word
        (λ w. begun_each w.0 (under leaves w.1) (under containers w.1) (under-found (suc (suc n)) leaves w.1 (leaf_rows n))
        (under-found (suc (suc n)) containers w.1 (container_rows n)))

    pub nodes-each : (ns : Nodes Key) → Q (suc (suc n)) (nodes_step b ns)
    unfolding nodes_step one_node
    nodes-each ns = K.tests ends K.gives (K.marks {p = give (more ns)} 59 refl K.gives (K.then node_each (λ x. K.gives)))

  -- a block with d containers more is at most d + 2 groups deep
  pub block-each : (d : ℕ) → Q (suc (suc d)) (block d)
  unfolding block
  block-each zero =
      K.equal (K.tests {p = refuse TooManyNested} {q = refuse Missing} (sees "{") K.refuses K.refuses) (λ l ts. refl)
  block-each (suc d) =
      K.equal (K.in_group 123 refl (K.repeats (nodes_step (block d)) (nodes-each (block d) (block-each d)) Nodes.none)) (λ l ts. refl)

  pub input_each : Q 18 animato_input
  unfolding animato_input
  input_each = K.repeats (nodes_step (block 16)) (nodes-each (block 16) (block-each 16)) Nodes.none
