-- Lists of fields, as they are written, are read.
use Prim.Native.Nat.{ℕ, zero, suc, ◌+◌, ◌<◌}
use Prim.Native.String.{String}
use mathlib.Core.Bool.{true, false}
use mathlib.Core.List.{List, [], ◌∷◌}
use mathlib.Core.Option.{Option, none, some}
use mathlib.Core.Path.{◌≡◌, refl, ap, ◌∙◌}
use native.Mathlib.Omega.{arith}
use lib.ListN.{length}
use Rattle.text.specs.Bytes.{bytes, same, one_of}
use Rattle.text.specs.Words.{words, find}
use Rattle.token.specs.Names.{is_keyword}
use Rattle.ast.specs.Tree.{EasingSpec, LoopSpec, ValueExpr, DampingMode, critically_damped, overdamped, underdamped}
use Rattle.error.specs.declared.Refusal.{Refusal}
use Rattle.grammar.specs.Rule.{Rule, choice, sees_word, done}
use Rattle.grammar.specs.Fields.{Content, an_easing, a_loop_mode, a_value, a_damping, a_range, Fields}
use Rattle.grammar.specs.Fields.{Table, row_of, pair_name, item_of, field_name, one_field}
use Rattle.grammar.specs.Fields.{fields_step}
use Rattle.grammar.specs.Values.{parse_float_in_parens, parse_two_floats_in_parens}
use Rattle.grammar.specs.Values.{value as value_field}
use Rattle.grammar.specs.Grammar.{spring_fields, critical_damping, over_damping, under_damping}
use Rattle.grammar.specs.Grammar.{offset as offset_field}
use Rattle.grammar.specs.Values.{easing as easing_field, loop_mode as loop_field}
use Rattle.pieces.specs.Pieces.{word_like, Piece, Form, ahead, laid}
use Rattle.fresh.specs.Meaning.{EasingSense, easing_sense, option_sense}
use Rattle.fresh.specs.Fresh.{value, offset, word_at, damping, Writer, spell, mark, f32, easing, loop_mode, field}
use Rattle.fresh.proofs.ReadLaws.{Reads, Loops, IsMore, IsDone, gives, then, and, yes_if, no_if, weaken}
use Rattle.fresh.proofs.ReadLaws.{two-marks, in_group, skips_mark, skips_word, needs, a_word_lem, ends_at, again}
use Rattle.fresh.proofs.EntryLaws.{damp, put, opt, reads-entry}
use Rattle.fresh.proofs.ValueLaws.{Quiet, reads_float, reads_two, reads-value, reads_loop, reads-easing}

-- the name of a field is read
abbrev pub Named : Form → List ℕ → String → Type 0
Named form s n = (us : List Piece) → Reads form s 1 field_name (spell n ∷ us) us (λ x. x ≡ bytes n)

-- each word of a list is found at its position
abbrev pub AllFound : List String → List String → ℕ → Type 0
AllFound names [] i = Unit {0}
AllFound names (n ∷ ns) i = (is_keyword (bytes n) ≡ false) × (find (words names) 0 (bytes n) ≡ some i) × AllFound names ns (suc i)

-- what a field adds
abbrev pub Adds : String → Fields → (Content → Type 0) → Fields → Type 0
Adds n fs R gs = (c : Content) × (gs ≡ (bytes n, c) ∷ fs) × R c

module _ {form : Form} {s : List ℕ} where
  -- ---- a field's name

  pub plain_name : (n : String) → same (bytes n) (bytes "loop") ≡ false → is_keyword (bytes n) ≡ false → Named form s n
  unfolding field_name pair_name laid ahead
  plain_name n e f us = no_if (sees_word "loop") _ _ (λ q. e) (then (a_word_lem (bytes n) us f) (λ w h. gives h))

  pub loop-name : Named form s "loop"
  unfolding field_name laid ahead same
  loop-name us = yes_if (sees_word "loop") _ _ (λ q. refl) (and (skips_word (bytes "loop") us) (gives refl))

  -- ---- a field

  one_field_lem : {d : ℕ} {R : Content → Type 0} (table : Table) (fs : Fields) (n : String) (rule : Rule Content) {ps us : List Piece}
      → Named form s n → row_of table (bytes n) ≡ some (n, rule)
      → Reads form s d rule ps us R
      → Reads form s 1 (fields_step table fs) (spell n ∷ mark ":" ∷ ps) us (IsMore (Adds n fs R))
  unfolding fields_step one_field item_of laid ahead
  one_field_lem {d = d} {R = R} table fs n rule {ps = ps} {us = us} name row y = record { run = λ l q b g f. x.run l q b g f }
    where
      x : Reads form s 1 (one_field table fs) (spell n ∷ mark ":" ∷ ps) us (IsMore (Adds n fs R))
      x =
          then (reads-entry field_name table n rule (name (mark ":" ∷ ps)) row y)
          (λ e r. gives (e.1, ap (λ (m : List ℕ). (m, e.1) ∷ fs) r.0, r.1))

  -- the list ends with a `;`
  pub closes_list : (table : Table) (fs : Fields) (us : List Piece) {Q : Fields → Type 0}
      → Q fs
      → Loops form s (fields_step table) fs (mark ";" ∷ us) us Q
  unfolding fields_step item_of one_of laid ahead
  closes_list table fs us {Q = Q} h =
      ends_at (record { run = λ l q b g f. (and (skips_mark 59 us refl) (gives {Q = IsDone Q} {a = done fs} h)).run l q b g f })

  -- a field whose value is f of what is written, and those after it
  pub exact : {A : Type 0} {d : ℕ} (table : Table) (fs : Fields) (n : String) (rule : Rule Content) (w : A → Writer) (f : A → Content)
      (o : Option A) {us vs : List Piece} {Q : Fields → Type 0}
      → Named form s n → row_of table (bytes n) ≡ some (n, rule)
      → ((a : A) → Reads form s d rule (w a us) us (λ c. c ≡ f a))
      → Loops form s (fields_step table) (put n (opt f o) fs) us vs Q
      → Loops form s (fields_step table) fs (field n w o us) vs Q
  unfolding field
  exact table fs n rule w f none name row x k = k
  exact table fs n rule w f (some a) name row x k = again (one_field_lem table fs n rule name row (x a)) (λ gs h. rw (h.1, h.2) k)

  -- an easing: what is read is the same but for its start
  pub eased : (table : Table) (fs : Fields) (o : Option EasingSense) {us vs : List Piece} {Q : Fields → Type 0}
      → row_of table (bytes "easing") ≡ some ("easing", easing_field)
      → Quiet form us
      → ((o' : Option EasingSpec) → option_sense s o' ≡ o → Loops form s (fields_step table) (put "easing" (opt an_easing o') fs) us vs Q)
      → Loops form s (fields_step table) fs (field "easing" easing o us) vs Q
  unfolding field easing_field same is_keyword find
  eased table fs none row quiet k = k none refl
  eased table fs (some e) {us = us} row quiet k =
      again (one_field_lem table fs "easing" easing_field (plain_name "easing" refl refl) row
      (then (reads-easing e us quiet) (λ x h. gives {Q = λ c. (y : EasingSpec) × (c ≡ an_easing y) × (easing_sense s y ≡ e)} (x, refl, h))))
      (λ gs h. rw (h.1, h.2.1) (k (some h.2.0) (ap some h.2.2)))

  pub a_loop : (m : LoopSpec) (us : List Piece) → Quiet form us → Reads form s 1 loop_field (loop_mode m us) us (λ c. c ≡ a_loop_mode m)
  unfolding loop_field
  a_loop m us quiet = then (reads_loop m us quiet) (λ n h. gives (rw h))

  pub a_value_lem : (v : ValueExpr) (us : List Piece) → Reads form s 1 value_field (value v us) us (λ c. c ≡ a_value v)
  unfolding value_field
  a_value_lem v us = then (reads-value v us) (λ n h. gives (rw h))

  pub a_range_lem : (r : ℕ × ℕ) (us : List Piece) → Reads form s 1 offset_field (offset r us) us (λ c. c ≡ a_range r)
  unfolding offset_field offset
  a_range_lem r us =
      then (reads_float r.0 _) (λ a h. and (two-marks 46 46 _ refl refl) (then (reads_float r.1 us) (λ b g. gives (rw (h, g)))))

  -- ---- choices

  -- a word of some of the names
  pub reads_word : (r : Refusal) (names : List String) (ns : List String) (i k : ℕ) (us : List Piece)
      → AllFound names ns i
      → Reads form s 1 (choice r names) (word_at ns k ∷ us) us (λ j. (j ≡ i + k) × (k < length ns))
  unfolding word_at word_like
  reads_word r names [] i k us f = record {
    run = λ l q b d g. absurd (let e : false ≡ true = g.0.0 in let z : ◌≡◌ {A = ℕ} 0 1 = cc in omega arith);
  }
  reads_word r names (n ∷ ns) i zero us f =
      then (a_word_lem (bytes n) us f.0)
      (λ w h. weaken (needs r (find (words names) 0 w.1) i (rw h f.1)) (λ j g. (g ∙ (omega arith), omega arith)))
  reads_word r names (n ∷ ns) i (suc k) us f =
      weaken (reads_word r names ns (suc i) k us f.2) (λ j g. (g.0 ∙ (omega arith), let l = g.1 in omega arith))

  pub reads-choice : (r : Refusal) (names : List String) (k : ℕ) (us : List Piece)
      → AllFound names names 0
      → Reads form s 1 (choice r names) (word_at names k ∷ us) us (λ j. j ≡ k)
  reads-choice r names k us f = weaken (reads_word r names names 0 k us f) (λ j g. g.0 ∙ (omega arith))

  -- ---- a damping mode

  two_in : (a b : ℕ) (us : List Piece)
      → Reads form s 1 parse_two_floats_in_parens (mark "(" ∷ f32 a (mark "," ∷ f32 b (mark ")" ∷ us))) us (λ p. p ≡ (a, b))
  unfolding parse_two_floats_in_parens one_of
  two_in a b us = in_group 40 41 refl refl refl (reads_two a b _)

  one_in : (a : ℕ) (us : List Piece) → Reads form s 1 parse_float_in_parens (mark "(" ∷ f32 a (mark ")" ∷ us)) us (λ n. n ≡ a)
  unfolding parse_float_in_parens one_of
  one_in a us = in_group 40 41 refl refl refl (reads_float a _)

  pub damped : (fs : Fields) (o : Option DampingMode) {us vs : List Piece} {Q : Fields → Type 0}
      → Loops form s (fields_step spring_fields) (damp o fs) us vs Q
      → Loops form s (fields_step spring_fields) fs (damping o us) vs Q
  unfolding damping spring_fields row_of same is_keyword find critical_damping over_damping under_damping
  damped fs none k = k
  damped fs (some (critically_damped a)) {us = us} k =
      again (one_field_lem spring_fields fs "critically_damped" critical_damping (plain_name "critically_damped" refl refl) refl
      (then (one_in a us) (λ n h. gives {Q = λ c. c ≡ a_damping (critically_damped a)} (rw h))))
      (λ gs h. rw (h.1, h.2) k)
  damped fs (some (overdamped a b)) {us = us} k =
      again (one_field_lem spring_fields fs "overdamped" over_damping (plain_name "overdamped" refl refl) refl
      (then (two_in a b us) (λ n h. gives {Q = λ c. c ≡ a_damping (overdamped a b)} (rw h))))
      (λ gs h. rw (h.1, h.2) k)
  damped fs (some (underdamped a b)) {us = us} k =
      again (one_field_lem spring_fields fs "underdamped" under_damping (plain_name "underdamped" refl refl) refl
      (then (two_in a b us) (λ n h. gives {Q = λ c. c ≡ a_damping (underdamped a b)} (rw h))))
      (λ gs h. rw (h.1, h.2) k)
