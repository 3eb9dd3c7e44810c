-- The nodes that the grammar reads can be written.
use Prim.Native.Nat.{ℕ, zero, suc}
use mathlib.Core.Bool.{Bool, true, false}
use mathlib.Core.List.{List, []}
use mathlib.Core.Option.{Option, none, some}
use mathlib.Core.Path.{◌≡◌, refl}
use Rattle.text.specs.Bytes.{same, one_of}
use Rattle.text.specs.Words.{find, under}
use Rattle.number.specs.Time.{Key}
use Rattle.codec.proofs.Laws.{All}
use Rattle.ast.specs.Tree.{StaggerPatternSpec, Leaf, Container, sequence, parallel, group, stagger}
use Rattle.ast.specs.Tree.{Nodes, MotionNode, single, holding, push, append}
use Rattle.error.specs.declared.Refusal.TheVariants.{Missing, Malformed, UnknownKeyword, StaggerGridIncomplete, TooManyNested}
use Rattle.grammar.specs.Rule.{Rule, if, ◌>>=◌, give, refuse, eat, sees, ends, inside, go_on, repeat}
use Rattle.grammar.specs.Fields.{last_number}
use Rattle.grammar.specs.Values.{f32_of}
use Rattle.grammar.specs.Grammar.{stored, parse_sequence, parse_parallel, parse_group, parse_grid_origin, origin, grid_fields, grid_pattern}
use Rattle.grammar.specs.Grammar.{random_fields, random_pattern, patterns, parse_stagger_pattern, Opening, opening_fields, opening_field}
use Rattle.grammar.specs.Grammar.{opening_step, parse_stagger, leaves, containers, a_leaf, a_container, or_container, beginning, node_by}
use Rattle.grammar.specs.Grammar.{parse_node, one_node, nodes_step, block, animato_input}
use Rattle.digits.specs.Numeral.{all}
use Rattle.pieces.specs.Pieces.{Piece, Form, word_like}
use Rattle.pieces.specs.Means.{Fits, Complete}
use Rattle.fresh.specs.Meaning.{LeafSense, tween, spring, keyframes, path, morph, draw}
use Rattle.fresh.specs.Meaning.{color, waveform, preset, label, at, leaf_sense, sense}
use Rattle.fresh.specs.Fresh as fresh
use Rattle.fresh.specs.Fresh.{f32, u32, choose, leaf_word, leaf_body, box_word, box_body, pieces}
use Rattle.grammar.specs.Grammar.{mode_names, origin_names}
use Rattle.law_rules.proofs.ListLaws.{◌also◌, under_row}
use Rattle.law_rules.proofs.FieldLaws.{On}
use Rattle.law_rules.proofs.AlwaysLaws.{Always, Next-of, gives, refuses, then, and, tests, needs, skips, the-mark, eats, in_group, a_choice}
use Rattle.law_rules.proofs.AlwaysLaws.{repeats, each, by_word, pairs_of}
use Rattle.law_writable.proofs.ValueFits.{Fit, ◌▸◌, fit-one, fit_none, fit_mark, a_name_lem, float_fits}
use Rattle.law_writable.proofs.FieldFits.{pairs_fit, unless-pair, word_fits, numeric, Fair}
use Rattle.law_writable.proofs.FieldFits.{number_on, number_is, number_row, count_row, case_row}
use Rattle.law_writable.proofs.LeafFits.{LeafFits, tween_fits, spring_fits, path_fits, morph_fits, draw_fits, color_fits}
use Rattle.law_writable.proofs.LeafFits.{waveform_fits, preset_fits, label_fits, at-fits}
use Rattle.law_writable.proofs.TrackFits.{keyframes_fits}

-- ---- how a container's head is written

module _ (form : Form) where
  opening-written : (p : Option StaggerPatternSpec) (d : Option ℕ) → On (λ x. Fit form (fresh.pattern x)) p → On (λ b. Fit form (f32 b)) d
      → Fit form (fresh.opening p d)
  unfolding fresh.opening word_like all one_of
  opening-written none none h k = fit_none
  opening-written none (some d) h k = fit-one refl ▸ fit_mark 58 refl ▸ k
  opening-written (some p) none h k = fit-one refl ▸ fit_mark 58 refl ▸ h
  opening-written (some p) (some d) h k =
      fit-one refl ▸ fit_mark 58 refl ▸ h ▸ fit_mark 44 refl ▸ fit-one refl ▸ fit_mark 58 refl ▸ k

module _ {form : Form} (complete : Complete form) (u : List ℕ) where
  abbrev HeadFits : Rule Container → Type 0
  HeadFits p = Always u p (λ b. Fit form (box_body b))

  sequence_fits : HeadFits parse_sequence
  unfolding parse_sequence box_body
  sequence_fits = gives fit_none

  parallel_fits : HeadFits parse_parallel
  unfolding parse_parallel box_body
  parallel_fits = gives fit_none

  group_fits : HeadFits parse_group
  unfolding parse_group box_body word_like all
  group_fits = then (a_choice Malformed mode_names) (λ k l. gives (fit-one (word_fits form mode_names k (refl also refl also tt) l)))

  -- ---- stagger

  abbrev PatternFits : Rule StaggerPatternSpec → Type 0
  PatternFits p = Always u p (λ x. Fit form (fresh.pattern x))

  grid_fits : PatternFits grid_pattern
  unfolding grid_pattern grid_fields origin parse_grid_origin fresh.pattern numeric same find word_like all one_of
  grid_fits =
      in_group 40 refl
      (then (pairs_of u (Fair form u) grid_fields
      (count_row complete u "cols" refl also count_row complete u "rows" refl
      also case_row complete u "origin" Malformed origin_names refl
      (refl also refl also refl also refl also refl also refl also refl also refl also refl also tt) also tt)) (λ fs h.
      then (needs StaggerGridIncomplete (last_number "cols" fs)) (λ c d.
      then (needs StaggerGridIncomplete (last_number "rows" fs)) (λ r e.
      gives (fit-one refl ▸ fit_mark 40 refl
      ▸ pairs_fit form _
      (record { name = refl; value = number_is form u fs h "cols" u32 c refl d }
      also record { name = refl; value = number_is form u fs h "rows" u32 r refl e }
      also unless-pair form "origin" (choose origin_names) 4 (last_number "origin" fs) [] refl
      (number_on form u fs h "origin" (choose origin_names) refl) tt)
      ▸ fit_mark 41 refl)))))

  random_fits : PatternFits random_pattern
  unfolding random_pattern random_fields fresh.pattern numeric same find word_like all one_of
  random_fits =
      then (in_group 40 refl (pairs_of u (Fair form u) random_fields
      (count_row complete u "seed" refl also number_row complete u "min" refl also number_row complete u "max" refl also tt))) (λ fs h.
      gives (fit-one refl ▸ fit_mark 40 refl
      ▸ pairs_fit form _
      (unless-pair form "seed" u32 0 (last_number "seed" fs) _ refl (number_on form u fs h "seed" u32 refl)
      (unless-pair form "min" f32 (f32_of 0 1) (last_number "min" fs) _ refl (number_on form u fs h "min" f32 refl)
      (unless-pair form "max" f32 (f32_of 1 10) (last_number "max" fs) [] refl (number_on form u fs h "max" f32 refl) tt)))
      ▸ fit_mark 41 refl))

  pattern-fits : PatternFits parse_stagger_pattern
  unfolding parse_stagger_pattern patterns fresh.pattern word_like all
  pattern-fits =
      then a_name_lem (λ w x.
      by_word Malformed patterns w.1 (λ p. p)
      (grid_fits also random_fits also gives (fit-one refl) also gives (fit-one refl) also tt))

  record Opened (s : Opening) : Type 0 where
    pattern : On (λ x. Fit form (fresh.pattern x)) s.0
    delay : On (λ b. Fit form (f32 b)) s.1

  goes_on : (c : Bool) (s : Opening) → Opened s → Next-of Opened (go_on c s)
  goes_on true s h = h
  goes_on false s h = h

  comma_fits : (s : Opening) → Opened s → Always u (eat "," >>= λ c. give (go_on c s)) (Next-of Opened)
  comma_fits s h = then (eats 44) (λ c x. gives (goes_on c s h))

  field_fits : (s : Opening) → Opened s → Always u (opening_field s) (Next-of Opened)
  unfolding opening_field opening_fields
  field_fits s h =
      then a_name_lem (λ w x.
      by_word UnknownKeyword (opening_fields s) w.1 (λ p. p >>= λ y. eat "," >>= λ c. give (go_on c y))
      (then (and (the-mark 58) (then pattern-fits (λ p y. gives (record { pattern = y; delay = h.delay })))) comma_fits
      also then (and (the-mark 58) (then (float_fits complete) (λ d y. gives (record { pattern = h.pattern; delay = y })))) comma_fits
      also tt))

  stagger_fits : HeadFits parse_stagger
  unfolding parse_stagger opening_step box_body
  stagger_fits =
      then (repeats Opened opening_step (λ s h. tests (sees "{") (gives h) (field_fits s h)) (record { pattern = tt; delay = tt }))
      (λ s h. gives (opening-written form s.0 s.1 h.pattern h.delay))

  -- ---- nodes

  abbrev pub NodesFit : Nodes Key → Type 0
  NodesFit ns = Fit form (pieces (sense stored u ns))

  leaf_spelt : (l : LeafSense) → Fits form (fresh.spell (leaf_word l))
  unfolding leaf_word word_like all
  leaf_spelt (tween d) = refl
  leaf_spelt (spring d) = refl
  leaf_spelt (keyframes d) = refl
  leaf_spelt (path d) = refl
  leaf_spelt (morph d) = refl
  leaf_spelt (draw d) = refl
  leaf_spelt (color d) = refl
  leaf_spelt (waveform d) = refl
  leaf_spelt (preset d) = refl
  leaf_spelt (label x) = refl
  leaf_spelt (at d) = refl

  box_spelt : (b : Container) → Fits form (fresh.spell (box_word b))
  unfolding box_word word_like all
  box_spelt sequence = refl
  box_spelt parallel = refl
  box_spelt (group m) = refl
  box_spelt (stagger p d) = refl

  abbrev NodeFits : MotionNode Key → Type 0
  NodeFits n = NodesFit (push n Nodes.none)

  leaf_written : (p : ℕ) (l : Leaf Key) → Fit form (leaf_body (leaf_sense stored u l)) → NodeFits (single p l)
  unfolding pieces
  leaf_written p l h = fit-one (leaf_spelt (leaf_sense stored u l)) ▸ h

  box_written : (p : ℕ) (b : Container) (ns : Nodes Key) → Fit form (box_body b) → NodesFit ns → NodeFits (holding p b ns)
  unfolding pieces one_of
  box_written p b ns h k = fit-one (box_spelt b) ▸ h ▸ fit_mark 123 refl ▸ k ▸ fit_mark 125 refl ▸ fit_mark 59 refl

  -- ---- nodes beside each other

  behind : (ns ms : Nodes Key) (us : List Piece)
      → pieces (sense stored u (append ns ms)) us ≡ pieces (sense stored u ns) (pieces (sense stored u ms) us)
  unfolding pieces
  behind Nodes.none ms us = refl
  behind (Nodes.leaf p l rest) ms us = rw (behind rest ms us)
  behind (Nodes.box p b inner rest) ms us = rw (behind rest ms us)

  appended : (ns ms : Nodes Key) → NodesFit ns → NodesFit ms → NodesFit (append ns ms)
  appended ns ms h k = record { fits = λ us f. rw (behind ns ms us) ((h ▸ k).fits us f) }

  none_written : NodesFit Nodes.none
  unfolding pieces
  none_written = fit_none

  module _ (p : Rule (Nodes Key)) (blocks : Always u p NodesFit) where
    leaf_by : (start : ℕ) (r : Rule (Leaf Key)) → LeafFits complete u r → Always u (node_by p start (a_leaf r)) NodeFits
    leaf_by start r x = then x (λ l h. gives (leaf_written start l h))

    box_by : (start : ℕ) (r : Rule Container) → HeadFits r → Always u (node_by p start (a_container r)) NodeFits
    box_by start r x = then x (λ b h. then blocks (λ ns k. gives (box_written start b ns h k)))

    all-leaves : All (λ f. LeafFits complete u f.1) leaves
    unfolding leaves
    all-leaves =
        tween_fits complete u also spring_fits complete u also keyframes_fits complete u also path_fits complete u
        also morph_fits complete u also draw_fits complete u also color_fits complete u also waveform_fits complete u
        also preset_fits complete u also label_fits complete u also at-fits complete u also tt

    all-containers : All (λ f. HeadFits f.1) containers
    unfolding containers
    all-containers = sequence_fits also parallel_fits also group_fits also stagger_fits also tt

    begins : (start : ℕ) (w : List ℕ) → Always u (node_by p start (beginning w)) NodeFits
    unfolding beginning
    begins start w = go (under leaves w) (under containers w) refl refl
      where
        go : (o : Option (Rule (Leaf Key))) (c : Option (Rule Container)) → under leaves w ≡ o → under containers w ≡ c
            → Always u (node_by p start (or_container o c)) NodeFits
        go (some r) c e f = leaf_by start r (under_row (LeafFits complete u) leaves w r (each (LeafFits complete u) leaves w all-leaves) e)
        go none (some r) e f = box_by start r (under_row HeadFits containers w r (each HeadFits containers w all-containers) f)
        go none none e f = refuses

    node_fits : Always u (parse_node p) NodeFits
    unfolding parse_node
    node_fits = then a_name_lem (λ w x. begins w.0 w.1)

    step_fits : (ns : Nodes Key) → NodesFit ns → Always u (nodes_step p ns) (Next-of NodesFit)
    unfolding nodes_step one_node
    step_fits ns h =
        tests ends (gives h)
        (tests (sees ";") (and skips (gives h)) (then node_fits (λ n k. gives (appended ns (push n Nodes.none) h k))))

    nodes_fit : Always u (repeat (nodes_step p) Nodes.none) NodesFit
    nodes_fit = repeats NodesFit (nodes_step p) step_fits none_written

  block-fits : (d : ℕ) → Always u (block d) NodesFit
  unfolding block
  block-fits zero = record {
    runs = λ q h b. record { run = λ l. (none_allowed.runs q h b).run l; keeps = λ l. (none_allowed.runs q h b).keeps l };
  }
    where
      none_allowed : Always u (if (sees "{") (refuse TooManyNested) (refuse Missing)) NodesFit
      none_allowed = tests (sees "{") refuses refuses
  block-fits (suc d) = record {
    runs = λ q h b.
        record { run = λ l. ((in_braces (block-fits d)).runs q h b).run l; keeps = λ l. ((in_braces (block-fits d)).runs q h b).keeps l };
  }
    where
      in_braces : Always u (block d) NodesFit → Always u (inside "{" (repeat (nodes_step (block d)) Nodes.none)) NodesFit
      in_braces x = in_group 123 refl (nodes_fit (block d) x)

  pub input_fits : Always u animato_input NodesFit
  unfolding animato_input
  input_fits = nodes_fit (block 16) (block-fits 16)
