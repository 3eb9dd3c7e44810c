-- What stands between a container's keyword and its block fits the sheet.
use Prim.Native.Nat.{ℕ, ◌+◌, ◌*◌, ◌≤◌, ◌<◌}
use mathlib.Core.Bool.{Bool, true, false}
use mathlib.Core.List.{List, [], ◌++◌}
use mathlib.Core.Option.{Option, none, some}
use mathlib.Core.Path.{refl}
use native.Mathlib.Omega.{arith}
use lib.ListN.{length}
use Rattle.text.specs.Limits.{text_limit}
use Rattle.text.specs.Bytes.{same}
use Rattle.text.specs.Words.{words, default}
use Rattle.codec.specs.Codec.{Form, opt}
use Rattle.codec.proofs.Laws.{Small, All, Law, opt_l}
use Rattle.sheet.proofs.FormLaws.{small}
use Rattle.ast.specs.Tree.{StaggerPatternSpec, grid, Container, sequence, parallel, group, stagger, holding}
use Rattle.sheet.specs.Sheet.{Forest, word, node_form, pattern_form}
use Rattle.sheet.proofs.Laws.{word_l, pattern_l, start_l, node_l}
use Rattle.error.specs.declared.Refusal.TheVariants.{Malformed, UnknownKeyword, StaggerGridIncomplete}
use Rattle.grammar.specs.Rule.{Rule, give, need, ◌>>=◌, eat, sees, go_on}
use Rattle.grammar.specs.Fields.{last_number, pairs}
use Rattle.grammar.specs.Values.{f32_of}
use Rattle.grammar.specs.Grammar.{
  mode_names,
  origin_names,
  parse_sequence,
  parse_parallel,
  parse_group,
  parse_grid_origin,
  origin,
  grid_fields,
  grid_pattern,
  random_fields,
  random_pattern,
  patterns,
  parse_stagger_pattern,
  Opening,
  opening_fields,
  opening_field,
  opening_step,
  parse_stagger,
}
use Rattle.law_rules.proofs.RunLaws.{Runs, gives, then, and, weaken, tests, needs, Onto, repeats}
use Rattle.law_rules.proofs.TakeLaws.{a_word_lem, the-mark, eats, eaten, in_group}
use Rattle.law_rules.proofs.FieldLaws.{On}
use Rattle.law_rules.proofs.ListLaws.{◌also◌, a_choice, by_word}
use Rattle.law_limits.proofs.SizeLaws.{Most, all, ◌⊕◌, opt-most, opt-word, pattern-most}
use Rattle.law_limits.proofs.FieldLaws.{on_ok, limit, Row, Listed, pairs-run, word_is, word_or, case_or}
use Rattle.law_limits.proofs.ValueLaws.{f32_of_small, float_runs}
use Rattle.law_limits.proofs.CurveLaws.{number_row, count_row, case_row}

-- ---- a container without its nodes

abbrev pub HeadOk : Container → Type 0
HeadOk sequence = Unit {0}
HeadOk parallel = Unit {0}
HeadOk (group mode) = mode < 2
HeadOk (stagger p d) = (opt_l pattern_l).ok p × (opt_l word_l).ok d

-- how many bytes of its record stand before the nodes at most
abbrev pub head_size : Container → ℕ
head_size sequence = 3
head_size parallel = 3
head_size (group mode) = 4
head_size (stagger none none) = 5
head_size (stagger none (some d)) = 22
head_size (stagger (some p) d) = 22

stagger_most : (p : Option StaggerPatternSpec) (d : Option ℕ) → head_size (stagger p d) ≤ 22
stagger_most none none = omega arith
stagger_most none (some d) = omega arith
stagger_most (some p) d = omega arith

pub head_ok : (n : ℕ) {inner : Form Forest} (b : Law inner) (start : ℕ) (c : Container) (ns : Forest)
    → (start_l n).ok start → HeadOk c → b.ok ns → (node_l n b).ok (holding start c ns)
head_ok n b start sequence ns i h o = (i, o)
head_ok n b start parallel ns i h o = (i, o)
head_ok n b start (group mode) ns i h o = (i, (h, o))
head_ok n b start (stagger p d) ns i h o = (i, (h.0, (h.1, o)))

stagger_size : (n : ℕ) (inner : Form Forest) (p : Option StaggerPatternSpec) (d : Option ℕ) (ns : Forest)
    → Most ((opt pattern_form).write p ++ ((opt word).write d ++ inner.write ns)) (14 + (5 + length (inner.write ns)))
stagger_size n inner p d ns = opt-most pattern_form 13 pattern-most p ⊕ opt-word n d ⊕ all (inner.write ns)

pub head_size_lem : (n : ℕ) (inner : Form Forest) (start : ℕ) (c : Container) (ns : Forest)
    → length ((node_form n inner).write (holding start c ns)) ≤ head_size c + length (inner.write ns)
head_size_lem n inner start sequence ns = omega arith
head_size_lem n inner start parallel ns = omega arith
head_size_lem n inner start (group mode) ns = omega arith
head_size_lem n inner start (stagger none none) ns = omega arith
head_size_lem n inner start (stagger none (some d)) ns = omega (arith, (stagger_size n inner none (some d) ns).most)
head_size_lem n inner start (stagger (some p) d) ns = omega (arith, (stagger_size n inner (some p) d ns).most)

module _ (s : List ℕ) (short : length s ≤ text_limit) where
  -- a head from q to m, behind its keyword of k bytes; with 1 byte to spare
  pub record Headed (k q : ℕ) (c : Container) (m : ℕ) : Type 0 where
    pub ok : HeadOk c
    pub paid : head_size c + 1 + 3 * q ≤ 3 * m + 3 * k
    pub on : q ≤ m

  abbrev pub HeadRule : ℕ → Rule Container → Type 0
  HeadRule k p = (q : ℕ) → q ≤ length s → Runs s p q (Headed k q)

  pub sequence_runs : HeadRule 8 parse_sequence
  unfolding parse_sequence
  sequence_runs q h = gives h (record { ok = tt; paid = omega arith; on = omega arith })

  pub parallel_runs : HeadRule 8 parse_parallel
  unfolding parse_parallel
  parallel_runs q h = gives h (record { ok = tt; paid = omega arith; on = omega arith })

  pub group_runs : HeadRule 5 parse_group
  unfolding parse_group
  group_runs q h =
      then (a_choice h Malformed (words mode_names))
      (λ k m g x. gives g (record { ok = x.0; paid = omega (arith, x.1); on = omega (arith, x.1) }))

  -- ---- stagger

  -- a pattern from q to m
  abbrev Patterned : ℕ → StaggerPatternSpec → ℕ → Type 0
  Patterned q p m = pattern_l.ok p × (q ≤ m)

  grid_rows : All (Row s) grid_fields
  unfolding grid_fields origin parse_grid_origin limit same
  grid_rows =
      count_row s short "cols" (omega arith) refl
      also count_row s short "rows" (omega arith) refl
      also case_row s short "origin" Malformed
      origin_names (omega arith)
      (omega arith)
      also tt

  -- the rule in the parentheses of `grid`
  abbrev grid_inside : Rule StaggerPatternSpec
  grid_inside = do
    fs ← pairs grid_fields
    cols ← need StaggerGridIncomplete (last_number "cols" fs)
    rows ← need StaggerGridIncomplete (last_number "rows" fs)
    give (grid cols rows (default (last_number "origin" fs) 4))

  grid_inside_lem : (q : ℕ) → q ≤ length s → Runs s grid_inside q (Patterned q)
  unfolding limit same
  grid_inside_lem q h =
      then (pairs-run s grid_fields grid_rows q h) (λ fs m1 g1 x1.
      then (needs StaggerGridIncomplete (last_number "cols" fs) g1) (λ c m2 g2 x2.
      then (needs StaggerGridIncomplete (last_number "rows" fs) g2) (λ r m3 g3 x3.
      let n = length s in
      let f = x1.fair in
      gives g3 (
        (
          word_is n fs f "cols" refl c x2.1,
          (word_is n fs f "rows" refl r x3.1, case_or n fs f "origin" 9 refl 4 (omega arith)),
        ),
        omega (arith, x1.low, x2.0, x3.0),
      ))))

  grid_runs : (q : ℕ) → q ≤ length s → Runs s grid_pattern q (Patterned q)
  unfolding grid_pattern
  grid_runs q h =
      weaken (in_group grid_inside Patterned h 40 refl grid_inside_lem)
      (λ p m x. (x.inner.0, omega (arith, x.low, x.inner.1, x.left.low)))

  random_rows : All (Row s) random_fields
  unfolding random_fields limit same
  random_rows =
      count_row s short "seed" (omega arith) refl
      also number_row s short "min" (omega arith) refl
      also number_row s short "max" (omega arith) refl
      also tt

  random_runs : (q : ℕ) → q ≤ length s → Runs s random_pattern q (Patterned q)
  unfolding random_pattern limit same
  random_runs q h =
      then (in_group (pairs random_fields) (Listed s []) h 40 refl (pairs-run s random_fields random_rows)) (λ fs m g x.
      let n = length s in
      let f = x.inner.fair in
      gives g (
        (
          word_or n fs f "seed" refl 0 refl,
          (word_or n fs f "min" refl (f32_of 0 1) (f32_of_small 0 1), word_or n fs f "max" refl (f32_of 1 10) (f32_of_small 1 10)),
        ),
        omega (arith, x.low, x.inner.low, x.left.low),
      ))

  pattern_runs : (q : ℕ) → q ≤ length s → Runs s parse_stagger_pattern q (Patterned q)
  unfolding parse_stagger_pattern patterns
  pattern_runs q h =
      then (a_word_lem h)
      (λ w m g x. weaken
      (by_word {Q = Patterned m} Malformed patterns w.1 (λ p. p) g
      ((λ e. grid_runs m g) also (λ e. random_runs m g) also (λ e. gives g (tt, omega arith))
      also (λ e. gives g (tt, omega arith)) also tt))
      (λ p n y. (y.0, omega (arith, x.low, x.end, y.1))))

  -- the pattern and the delay so far
  record Opened (q : ℕ) (x : Opening) (m : ℕ) : Type 0 where
    pattern : On pattern_l.ok x.0
    delay : On (Small 4) x.1
    low : q ≤ m
    paid : head_size (stagger x.0 x.1) + 3 * q ≤ 3 * m + 20

  module _ (q : ℕ) where
    rest_runs : (x : Opening) (m : ℕ) → Opened q x m → m ≤ length s
        → Runs s (eat "," >>= λ c. give (go_on c x)) m (Onto (Opened q) (Opened q))
    rest_runs x m o h =
        then (eats h 44 refl)
        (λ c n g y. on c n g
        (record {
          pattern = o.pattern;
          delay = o.delay;
          low = omega (arith, o.low, eaten m c n y);
          paid = omega (arith, o.paid, eaten m c n y);
        }))
      where
        on : (c : Bool) (n : ℕ) → n ≤ length s → Opened q x n → Runs s (give (go_on c x)) n (Onto (Opened q) (Opened q))
        on true n g z = gives g z
        on false n g z = gives g z

    field_runs : (x : Opening) (m : ℕ) → m ≤ length s → Opened q x m → Runs s (opening_field x) m (Onto (Opened q) (Opened q))
    unfolding opening_field opening_fields
    field_runs x m h o =
        then (a_word_lem h)
        (λ w m1 g1 x1.
        by_word UnknownKeyword (opening_fields x) w.1 (λ p. p >>= λ y. eat "," >>= λ c. give (go_on c y)) g1
        ((λ e. then (and (the-mark g1 58 refl)
        (λ m2 g2 u x2. then (pattern_runs m2 g2)
        (λ p m3 g3 x3.
        gives {Q = Opened q} g3
        (record {
          pattern = x3.0;
          delay = o.delay;
          low = omega (arith, o.low, x1.low, x1.end, x2, x3.1);
          paid = omega (arith, o.low, x1.low, x1.end, x2, x3.1);
        }))))
        (λ y n g z. rest_runs y n z g))
        also (λ e. then (and (the-mark g1 58 refl)
        (λ m2 g2 u x2. then (float_runs s short m2 g2)
        (λ d m3 g3 x3.
        gives {Q = Opened q} g3
        (record {
          pattern = o.pattern;
          delay = small 4 d x3.ok;
          low = omega (arith, o.low, x1.low, x1.end, x2, x3.is.on);
          paid = omega (arith, o.low, x1.low, x1.end, x2, x3.is.on, stagger_most x.0 (some d));
        }))))
        (λ y n g z. rest_runs y n z g))
        also tt))

  pub stagger_runs : HeadRule 7 parse_stagger
  unfolding parse_stagger opening_step
  stagger_runs q h =
      then (repeats (Opened q) (Opened q) (λ x m o. o) opening_step
      (λ x m g o. tests (sees "{") (λ e. gives g o) (λ e. field_runs q x m g o)) h
      (record { pattern = tt; delay = tt; low = omega arith; paid = omega arith }))
      (λ x m g o. gives g
      (record {
        ok = (on_ok pattern_l x.0 o.pattern, on_ok word_l x.1 o.delay);
        paid = omega (arith, o.paid);
        on = o.low;
      }))
