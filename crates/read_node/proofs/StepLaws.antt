-- A step and the loop of any kind.
use Rattle.std.specs.Prelude.{Some, Option as Optional}
use Prim.Native.Nat.{ℕ, zero, suc, ◌*◌, ◌-◌, ◌≤◌, ◌<◌}
use Prim.Native.String.{String}
use mathlib.Core.Bool.{Bool, true, false, ◌||◌}
use mathlib.Core.List.{List, [], ◌∷◌}
use mathlib.Core.Option.{some}
use mathlib.Core.Path.{◌≡◌, refl, subst}
use native.Mathlib.Omega.{arith}
use lib.Ieee.{Float}
use lib.ListN.{length, get_elem?, set}
use Rattle.text.specs.Bytes.{bytes}
use Rattle.text.proofs.WordLaws.{same_refl}
use Rattle.number.specs.Number.{bits}
use Rattle.error.specs.declared.Refusal.{Refusal}
use Rattle.ast.specs.declared.DampingMode.{DampingMode}
use Rattle.ast.specs.Tree as tree
use Rattle.sheet.specs.Sheet.{value_form}
use Rattle.ast.specs.declared.EasingSpec.{EasingSpec}
use Rattle.ast.specs.declared.LoopSpec.{LoopSpec}
use Rattle.sheet_encode.specs.Means as of
use Rattle.grammar.specs.Rule.{Rule, Next, refused, list_step, eat_byte, give, ◌>>=◌}
use Rattle.grammar.specs.Fields as fields
use Rattle.grammar.specs.Fields.{Table, Fields, Content, a_number, a_truth, an_easing, a_loop_mode, a_damping, a_range, a_value}
use Rattle.grammar.specs.Fields.{last, fields_step, one_pair, parse_field_list, pairs}
use Rattle.grammar.specs.Values.{truth as truth_rule, number, count, flag, easing as easing_rule, loop_mode as loop_rule, value as value_rule}
use Rattle.grammar.specs.Values.{parse_value, parse_float, parse_uint, parse_easing, parse_loop_mode}
use Rattle.read_cursor.specs.WordMeans.{at_of}
use Rattle.read_cursor.specs.Means.{Ready, run, Took}
use Rattle.read_cursor.specs.declared.Cursor.{Cursor}
use Rattle.read_fields.specs.Means.{FieldAt, FieldMeans, PairAt, PairMeans}
use Rattle.read_fields.specs.declared.NextField.TheVariants as found
use Rattle.read_fields.proofs.ListLaws.{Listed, listed_start, listed_gives, listed_done, field_refused, field-more}
use Rattle.read_fields.proofs.ListLaws.{pair_refused, pair-more, pair-last}
use Rattle.read_values.proofs.RowLaws.{row_at, elem_lt}
use Rattle.read_node.specs.CellMeans.{Cell, float, whole, case, truth, ever, easing, loop_mode, range, damping, place}
use Rattle.read_node.specs.CellMeans.{CellSays, AllSay, RowTook, StepTook, StepRefused, ListTook}
use Rattle.read_node.proofs.CellLaws.{quiet_but, put, all_wider}

-- ---- the last arm of a match: what is left after n keys

abbrev pub Past : ℕ → ℕ → Type 0
Past zero i = Unit {0}
Past (suc n) i = Past n i × (i ≡ n → ⊥)

pub past : (n i : ℕ) → Past n i → n ≤ i
past zero i h = omega arith
past (suc n) i h = let z = past n i h.0 in let y = h.1 in omega (arith, z, y)

pub last_row : (n i : ℕ) → Past n i → i < suc n → i ≡ n
last_row n i h l = let z = past n i h in omega (arith, z, l)

-- ---- a step: the row j of the table goes to the cell k

module _ {s : List ℕ} {c : Cursor} {t : Table} {i : ℕ} (j : ℕ) (n : String) (at : i < length t → i ≡ j) where
  -- by any rule
  pub row_refused : {p : Rule Content} {r : Refusal} {q : ℕ} → get_elem? t j ≡ some (n, p)
      → run s c p ≡ refused r q → StepRefused s c t i r q
  row_refused {p} {r} {q} e h = record {
    by = λ row g.
        subst (λ (w : String × Rule Content). run s c w.1 ≡ refused r q) (row_at t i j row _ (at (elem_lt t i row g)) e g) h;
  }

  row_took : {p : Rule Content} {m : Cursor} {y : Content} {xs : List Cell} (k : ℕ) (old new : Cell)
      → get_elem? t j ≡ some (n, p) → get_elem? xs k ≡ some old → quiet_but xs k (bytes n) y ≡ true
      → ((lo : ℕ) (fs : Fields) → lo ≤ at_of c → CellSays s lo (at_of m) old fs → CellSays s lo (at_of m) new ((bytes n, y) ∷ fs))
      → Took 1 s c m p y → StepTook s c m t i xs (set xs k new)
  row_took {p} {m} {y} {xs} k old new e o q u h = record {
    by = λ row g.
        subst (RowTook s c m xs (set xs k new)) (row_at t i j row _ (at (elem_lt t i row g)) e g) (
          y,
          h,
          λ lo fs b z. put s lo (at_of m) (bytes n) y fs xs k old new q o (u lo fs b)
              (all_wider s lo (at_of c) (at_of m) (omega (arith, h.low)) fs xs z),
        );
  }

  -- by a rule whose value makes a content
  pub step_refused : {A : Type 0} (p : Rule A) (f : A → Content) {r : Refusal} {q : ℕ}
      → get_elem? t j ≡ some (n, (p >>= λ a. give (f a))) → run s c p ≡ refused r q → StepRefused s c t i r q
  step_refused p f e h = row_refused e (rw h)

  step_took : {A : Type 0} (p : Rule A) (f : A → Content) {m : Cursor} {a : A} {xs : List Cell} (k : ℕ) (old new : Cell)
      → get_elem? t j ≡ some (n, (p >>= λ a. give (f a))) → get_elem? xs k ≡ some old → quiet_but xs k (bytes n) (f a) ≡ true
      → ((lo : ℕ) (fs : Fields) → lo ≤ at_of c → CellSays s lo (at_of m) old fs → CellSays s lo (at_of m) new ((bytes n, f a) ∷ fs))
      → Took 1 s c m p a → StepTook s c m t i xs (set xs k new)
  step_took p f k old new e o q u h = row_took k old new e o q u (record { is = rw h.is; low = h.low; ready = h.ready })

  pub no_float : {r : Refusal} {q : ℕ} → get_elem? t j ≡ some (n, number) → run s c parse_float ≡ refused r q → StepRefused s c t i r q
  unfolding number
  no_float e h = step_refused parse_float a_number e h

  pub a_float : {m : Cursor} {xs : List Cell} (k : ℕ) (x : Float) {o : Optional Float}
      → get_elem? t j ≡ some (n, number) → get_elem? xs k ≡ some (float n o)
      → quiet_but xs k (bytes n) (a_number (bits x)) ≡ true
      → Took 1 s c m parse_float (bits x) × of.Plain x → StepTook s c m t i xs (set xs k (float n (Some x)))
  unfolding number last
  a_float k x {o} e z q h =
      step_took parse_float a_number k (float n o) (float n (Some x)) e z q (λ lo fs b u. (rw (same_refl (bytes n)), h.1)) h.0

  pub no_whole : {r : Refusal} {q : ℕ} → get_elem? t j ≡ some (n, count) → run s c parse_uint ≡ refused r q → StepRefused s c t i r q
  unfolding count
  no_whole e h = step_refused parse_uint a_number e h

  pub a_whole : {m : Cursor} {xs : List Cell} (k : ℕ) (x : ℕ) {o : Optional ℕ}
      → get_elem? t j ≡ some (n, count) → get_elem? xs k ≡ some (whole n o)
      → quiet_but xs k (bytes n) (a_number x) ≡ true
      → Took 1 s c m parse_uint x → StepTook s c m t i xs (set xs k (whole n (Some x)))
  unfolding count last
  a_whole k x {o} e z q h =
      step_took parse_uint a_number k (whole n o) (whole n (Some x)) e z q (λ lo fs b u. rw (same_refl (bytes n))) h

  pub no_truth : {r : Refusal} {q : ℕ} → get_elem? t j ≡ some (n, flag) → run s c truth_rule ≡ refused r q → StepRefused s c t i r q
  unfolding flag
  no_truth e h = step_refused truth_rule a_truth e h

  pub a_truth_lem : {m : Cursor} {xs : List Cell} (k : ℕ) (b : Bool) {o : Optional Bool} → get_elem? t j ≡ some (n, flag)
      → get_elem? xs k ≡ some (truth n o) → quiet_but xs k (bytes n) (a_truth b) ≡ true
      → Took 1 s c m truth_rule b → StepTook s c m t i xs (set xs k (truth n (Some b)))
  unfolding flag last
  a_truth_lem k b {o} e z q h =
      step_took truth_rule a_truth k (truth n o) (truth n (Some b)) e z q (λ lo fs l u. rw (same_refl (bytes n))) h

  -- a truth value that stays true once it is
  pub ever-truth : {m : Cursor} {xs : List Cell} (k : ℕ) (b : Bool) {o : Bool}
      → get_elem? t j ≡ some (n, flag) → get_elem? xs k ≡ some (ever n o)
      → quiet_but xs k (bytes n) (a_truth b) ≡ true
      → Took 1 s c m truth_rule b → StepTook s c m t i xs (set xs k (ever n (b || o)))
  unfolding flag fields.ever
  ever-truth k b {o} e z q h = step_took truth_rule a_truth k (ever n o) (ever n (b || o)) e z q (λ lo fs l u. rw (same_refl (bytes n), u)) h

  pub no_easing : {r : Refusal} {q : ℕ} → get_elem? t j ≡ some (n, easing_rule) → run s c parse_easing ≡ refused r q → StepRefused s c t i r q
  unfolding easing_rule
  no_easing e h = step_refused parse_easing an_easing e h

  pub an_easing_lem : {m : Cursor} {xs : List Cell} (k : ℕ) (x : EasingSpec) {o : Optional EasingSpec}
      → get_elem? t j ≡ some (n, easing_rule) → get_elem? xs k ≡ some (easing o)
      → quiet_but xs k (bytes n) (an_easing (of.easing_of x)) ≡ true
      → Took 1 s c m parse_easing (of.easing_of x) × of.PlainEasing x → StepTook s c m t i xs (set xs k (easing (Some x)))
  unfolding easing_rule last
  an_easing_lem k x {o} e z q h =
      step_took parse_easing an_easing k (easing o) (easing (Some x)) e z q (λ lo fs b u. (refl, h.1)) h.0

  pub no_loop : {r : Refusal} {q : ℕ} → get_elem? t j ≡ some (n, loop_rule) → run s c parse_loop_mode ≡ refused r q → StepRefused s c t i r q
  unfolding loop_rule
  no_loop e h = step_refused parse_loop_mode a_loop_mode e h

  pub a_loop : {m : Cursor} {xs : List Cell} (k : ℕ) (x : LoopSpec) {o : Optional LoopSpec}
      → get_elem? t j ≡ some (n, loop_rule) → get_elem? xs k ≡ some (loop_mode o)
      → quiet_but xs k (bytes n) (a_loop_mode (of.loop_of x)) ≡ true
      → Took 1 s c m parse_loop_mode (of.loop_of x) → StepTook s c m t i xs (set xs k (loop_mode (Some x)))
  unfolding loop_rule last
  a_loop k x {o} e z q h = step_took parse_loop_mode a_loop_mode k (loop_mode o) (loop_mode (Some x)) e z q (λ lo fs b u. refl) h

  -- a name among some
  pub a_case : {m : Cursor} {xs : List Cell} (p : Rule ℕ) (k x : ℕ) {o : Optional ℕ}
      → get_elem? t j ≡ some (n, (p >>= λ a. give (a_number a)))
      → get_elem? xs k ≡ some (case n o) → quiet_but xs k (bytes n) (a_number x) ≡ true
      → Took 1 s c m p x → StepTook s c m t i xs (set xs k (case n (Some x)))
  unfolding last
  a_case p k x {o} e z q h = step_took p a_number k (case n o) (case n (Some x)) e z q (λ lo fs b u. rw (same_refl (bytes n))) h

  -- `start..end`
  pub a_range_lem : {p : Rule Content} {m : Cursor} {xs : List Cell} (k : ℕ) (x y : Float) {o : Optional (Float × Float)} → get_elem? t j ≡ some (n, p)
      → get_elem? xs k ≡ some (range o) → quiet_but xs k (bytes n) (a_range (bits x, bits y)) ≡ true
      → Took 1 s c m p (a_range (bits x, bits y)) → of.Plain x → of.Plain y → StepTook s c m t i xs (set xs k (range (Some (x, y))))
  unfolding last
  a_range_lem k x y {o} e z q h f g = row_took k (range o) (range (Some (x, y))) e z q (λ lo fs b u. (refl, (f, g))) h

  -- a damping, by a rule that gives the parts of it
  pub a_damping_lem : {A : Type 0} {m : Cursor} {xs : List Cell} (p : Rule A) (f : A → tree.DampingMode) (k : ℕ) (a : A) (x : DampingMode)
      {o : Optional DampingMode}
      → f a ≡ of.damping_of x
      → get_elem? t j ≡ some (n, (p >>= λ a. give (a_damping (f a))))
      → get_elem? xs k ≡ some (damping o)
      → quiet_but xs k (bytes n) (a_damping (f a)) ≡ true → Took 1 s c m p a
      → of.PlainDamping x
      → StepTook s c m t i xs (set xs k (damping (Some x)))
  unfolding last
  a_damping_lem p f k a x {o} d e z q h g =
      step_took p (λ a. a_damping (f a)) k (damping o) (damping (Some x)) e z q (λ lo fs b u. (rw d, g)) h

  pub no_value : {r : Refusal} {q : ℕ} → get_elem? t j ≡ some (n, value_rule) → run s c parse_value ≡ refused r q → StepRefused s c t i r q
  unfolding value_rule
  no_value e h = step_refused parse_value a_value e h

  -- a value, kept as the cursor before it
  pub a_value_lem : {m : Cursor} {xs : List Cell} (k : ℕ) (v : tree.ValueExpr) {o : Optional Cursor}
      → get_elem? t j ≡ some (n, value_rule) → get_elem? xs k ≡ some (place o)
      → quiet_but xs k (bytes n) (a_value v) ≡ true
      → Ready s c → Took 1 s c m parse_value v
      → length (value_form.write v) ≤ 64 * (at_of m - at_of c)
      → StepTook s c m t i xs (set xs k (place (Some c)))
  unfolding value_rule last
  a_value_lem {m} k v {o} e z q r h g =
      step_took parse_value a_value k (place o) (place (Some c)) e z q
      (λ lo fs b u. (v, refl, record { ready = r; next = m; took = h; low = b; high = omega arith; paid = g })) h

-- ---- the loop

-- the list that began at c with fs stands at m, and xs holds what its fields say
pub record Gathering (step : Table → Fields → Rule (Next Fields)) (s : List ℕ) (c m : Cursor) (t : Table) (fs : Fields) (xs : List Cell)
    : Type 0 where
  pub fields : Fields
  pub listed : Listed (step t) s c m fs fields
  pub say : AllSay s (at_of c) (at_of m) xs fields

pub gathering_start : {step : Table → Fields → Rule (Next Fields)} {s : List ℕ} {c : Cursor} {t : Table} {fs : Fields}
    {xs : List Cell}
    → Ready s c → AllSay s (at_of c) (at_of c) xs fs → Gathering step s c c t fs xs
gathering_start {step} {s} {c} {t} {fs} r h = record { fields = fs; listed = listed_start (step t) s c fs r; say = h }

-- a field list
module _ {s : List ℕ} {c m : Cursor} {t : Table} {fs : Fields} {xs : List Cell} (k : Gathering fields_step s c m t fs xs) where
  pub list_refused : {r : Refusal} {q : ℕ} → FieldMeans s m t (found.Refused r q) → run s c (parse_field_list t fs) ≡ refused r q
  unfolding parse_field_list
  list_refused n = listed_gives (fields_step t) s c m fs k.fields k.listed _ (n k.fields)

  pub list_done : {e : Cursor} → FieldMeans s m t (found.Done e) → ListTook s c e (parse_field_list t fs) xs
  unfolding parse_field_list
  list_done {e} n = record {
    fields = k.fields;
    took = listed_done (fields_step t) s c m fs k.fields k.listed e n.0 n.1 (n.2 k.fields);
    say = all_wider s (at_of c) (at_of m) (at_of e) n.1 k.fields xs k.say;
  }

  module _ {i : ℕ} {v : Cursor} (f : FieldAt s m t i v) where
    pub value_refused : {r : Refusal} {q : ℕ} → StepRefused s v t i r q → run s c (parse_field_list t fs) ≡ refused r q
    unfolding parse_field_list
    value_refused {r} {q} u = field_refused s t c m v fs k.fields k.listed i f r q (u.by f.row f.is)

    pub list-more : {w : Cursor} {ys : List Cell} → StepTook s v w t i xs ys → Gathering fields_step s c w t fs ys
    list-more {w} u =
        let y = u.by f.row f.is in
        record {
          fields = (bytes f.row.0, y.0) ∷ k.fields;
          listed = field-more s t c m v fs k.fields k.listed i f w y.0 y.1;
          say = y.2 (at_of c) k.fields (omega (arith, k.listed.low, f.low))
              (all_wider s (at_of c) (at_of m) (at_of v) (omega (arith, f.low)) k.fields xs k.say);
        }

-- the loop goes on: behind a value that was taken
pub list_moves : {s : List ℕ} {m v w : Cursor} {t : Table} {i : ℕ} {xs ys : List Cell} → FieldAt s m t i v → StepTook s v w t i xs ys
    → Ready s w × (at_of m < at_of w)
list_moves f u = let y = u.by f.row f.is in (y.1.ready, omega (arith, f.low, y.1.low))

-- fields in parentheses
abbrev pub pair_step : Table → Fields → Rule (Next Fields)
pair_step t = list_step (one_pair t)

module _ {s : List ℕ} {c m : Cursor} {t : Table} {xs : List Cell} (k : Gathering pair_step s c m t [] xs) where
  pub pairs_refused : {r : Refusal} {q : ℕ} → PairMeans s m t (found.Refused r q) → run s c (pairs t) ≡ refused r q
  unfolding pairs
  pairs_refused n = listed_gives (pair_step t) s c m [] k.fields k.listed _ (n k.fields)

  pub pairs_done : {e : Cursor} → PairMeans s m t (found.Done e) → ListTook s c e (pairs t) xs
  unfolding pairs
  pairs_done {e} n = record {
    fields = k.fields;
    took = listed_done
        (pair_step t)
        s c m []
        k.fields
        k.listed
        e
        (rw n.0 k.listed.ready)
        (rw n.0 (omega arith))
        (rw n.0 (n.1 k.fields));
    say = rw n.0 k.say;
  }

  module _ {i : ℕ} {v : Cursor} (f : PairAt s m t i v) where
    pub pairs-value_refused : {r : Refusal} {q : ℕ} → StepRefused s v t i r q → run s c (pairs t) ≡ refused r q
    unfolding pairs
    pairs-value_refused {r} {q} u = pair_refused s t c m v [] k.fields k.listed i f r q (u.by f.row f.is)

    module _ {w e : Cursor} {ys : List Cell} (u : StepTook s v w t i xs ys) where
      say_more : {b : Bool} → Took 0 s w e (eat_byte 44) b
          → AllSay s (at_of c) (at_of e) ys ((bytes f.row.0, (u.by f.row f.is).0) ∷ k.fields)
      say_more z =
          let y = u.by f.row f.is in
          all_wider s (at_of c) (at_of w) (at_of e) (omega (arith, z.low)) _ ys
          (y.2 (at_of c) k.fields (omega (arith, k.listed.low, f.low))
          (all_wider s (at_of c) (at_of m) (at_of v) (omega (arith, f.low)) k.fields xs k.say))

      pub pairs-more : Took 0 s w e (eat_byte 44) true → Gathering pair_step s c e t [] ys
      pairs-more z =
          let y = u.by f.row f.is in
          record {
            fields = _;
            listed = pair-more s t c m v [] k.fields k.listed i f w e y.0 y.1 z;
            say = say_more z;
          }

      pub pairs-last : Took 0 s w e (eat_byte 44) false → ListTook s c e (pairs t) ys
      unfolding pairs
      pairs-last z =
          let y = u.by f.row f.is in
          record { fields = _; took = pair-last s t c m v [] k.fields k.listed i f w e y.0 y.1 z; say = say_more z }

pub pairs_moves : {s : List ℕ} {m v w e : Cursor} {t : Table} {i : ℕ} {xs ys : List Cell} {b : Bool} → PairAt s m t i v
    → StepTook s v w t i xs ys → Took 0 s w e (eat_byte 44) b → Ready s e × (at_of m < at_of e)
pairs_moves f u z = let y = u.by f.row f.is in (z.ready, omega (arith, f.low, y.1.low, z.low))
