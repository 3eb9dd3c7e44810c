-- Lists of fields: what their contents are, and what text they take.
use Prim.Native.Nat.{ℕ, ◌+◌, ◌-◌, ◌*◌, ◌≤◌, ◌<◌}
use Prim.Native.String.{String}
use mathlib.Core.Bool.{Bool, true, false, cond}
use mathlib.Core.List.{List, [], ◌∷◌}
use mathlib.Core.Option.{Option, none, some}
use mathlib.Core.Path.{◌≡◌, refl, ap, ◌∙◌}
use native.Mathlib.Omega.{arith}
use lib.ListN.{length}
use Rattle.text.specs.Bytes.{bytes, same}
use Rattle.text.specs.Words.{or_else, default}
use Rattle.text.proofs.WordLaws.{same_eq}
use Rattle.codec.specs.Codec.{Form, opt}
use Rattle.codec.proofs.Laws.{Small, All, Law, ◌&◌, opt_l, below_l}
use Rattle.sheet.proofs.FormLaws.{small}
use Rattle.ast.specs.Tree.{ValueExpr}
use Rattle.sheet.specs.Sheet.{value_form}
use Rattle.sheet.proofs.Laws.{word_l, value_l, easing_l, loop_l, damping_l}
use Rattle.grammar.specs.Rule.{Rule}
use Rattle.grammar.specs.Fields.{Content, Entry, Fields, Table, pairs}
use Rattle.grammar.specs.Fields.{parse_field_list, last, called, last_number, last_easing, last_loop_mode, last_value, last_damping, last_range}
use Rattle.law_rules.proofs.RunLaws.{Carry, Runs}
use Rattle.law_rules.proofs.ListLaws.{all_map}
use Rattle.law_rules.proofs.FieldLaws as fields
use Rattle.law_rules.proofs.FieldLaws.{On, on_map, on_is, default_in, last-in}

pub on_ok : {A : Type 0} {c : Form A} (l : Law c) (o : Option A) → On l.ok o → (opt_l l).ok o
on_ok l none h = tt
on_ok l (some a) h = h

-- ---- contents

-- what the number of a field is below: the number of cases, where it is the position of one
unfoldable pub limit : List ℕ → ℕ
limit w =
    cond (same w (bytes "preset")) 5
    (cond (same w (bytes "integrator")) 2
    (cond (same w (bytes "origin")) 9
    (cond (same w (bytes "space")) 3 4294967296)))

-- the content c of a field named w, in a text of n bytes; an array is found under a long name alone
pub record Fair (n : ℕ) (w : List ℕ) (c : Content) : Type 0 where
  pub long : 3 ≤ length w
  pub number : On (λ x. x < limit w) c.number
  pub easing : On (easing_l n).ok c.easing
  pub loop_mode : On loop_l.ok c.loop_mode
  pub value : On (λ v. value_l.ok v × (8 ≤ length w)) c.value
  pub damping : On damping_l.ok c.damping
  pub range : On (λ p. Small 4 p.0 × Small 4 p.1) c.range

-- what a content takes of the text, 3 for each byte: an array of more than a number counts with its elements
abbrev pub weight : Content → ℕ
weight c = 3 + (length ((opt value_form).write c.value) - 6)

abbrev pub price : Entry → ℕ
price e = 3 * length e.0 + 3 + weight e.1

abbrev pub total : Fields → ℕ
total [] = 0
total (e ∷ es) = price e + total es

abbrev pub AllFair : ℕ → Fields → Type 0
AllFair n fs = All (λ e. Fair n e.0 e.1) fs

-- ---- tables

module _ (s : List ℕ) where
  pub record Held (w : List ℕ) (q : ℕ) (c : Content) (m : ℕ) : Type 0 where
    pub fair : Fair (length s) w c
    pub paid : weight c + 3 * q ≤ 3 * m

  abbrev pub Row : String × Rule Content → Type 0
  Row f = (q : ℕ) → q ≤ length s → Runs s f.1 q (Held (bytes f.0) q)

  abbrev Free : ℕ → Type 0
  Free q = Unit {0}

  free : (q m : ℕ) → Carry s q m → Free q → Free m
  free q m c x = tt

  all_rows : (t : Table) → All Row t → All (fields.Row s Free free Held) t
  all_rows t rows = all_map Row (fields.Row s Free free Held) (λ f x q h b. x q h) t rows

  -- the fields fs, which were gs at q
  pub record Listed (gs : Fields) (q : ℕ) (fs : Fields) (m : ℕ) : Type 0 where
    pub fair : AllFair (length s) fs
    pub low : q ≤ m
    pub paid : total fs + 3 * q ≤ 3 * m + total gs

  start : (fs : Fields) (q : ℕ) → AllFair (length s) fs → Listed fs q fs q
  start fs q h = record { fair = h; low = omega arith; paid = omega arith }

  later : (gs : Fields) (q : ℕ) (fs : Fields) (m n : ℕ) → m ≤ n → Carry s m n → Listed gs q fs m → Listed gs q fs n
  later gs q fs m n h c i = record { fair = i.fair; low = omega (arith, i.low); paid = omega (arith, i.paid) }

  one_more : (gs : Fields) (q : ℕ) (fs : Fields) (e : Entry) (m n : ℕ)
      → Listed gs q fs m → fields.Entered s Free free Held m e n → Carry s m n → Listed gs q (e ∷ fs) n
  one_more gs q fs e m n i x c = record {
    fair = (x.held.fair, i.fair);
    low = omega (arith, i.low, x.low, x.held.paid);
    paid = omega (arith, i.paid, x.low, x.held.paid);
  }

  pub pairs-run : (t : Table) → All Row t → (q : ℕ) → q ≤ length s → Runs s (pairs t) q (Listed [] q)
  pairs-run t rows q h =
      fields.pairs-run s Free free Held (Listed [] q) (λ fs m x. tt) (later [] q) (one_more [] q) t (all_rows t rows) h (start [] q tt)

  pub fields_run : (t : Table) → All Row t → (gs : Fields) (q : ℕ) → q ≤ length s → AllFair (length s) gs
      → Runs s (parse_field_list t gs) q (Listed gs q)
  fields_run t rows gs q h f =
      fields.fields_run s Free free Held (Listed gs q) (λ fs m x. tt) (later gs q) (one_more gs q) t (all_rows t rows) gs h (start gs q f)

-- ---- what a list says

module _ (n : ℕ) where
  -- an entry that is fair
  abbrev Entire : Entry → Type 0
  Entire e = Fair n e.0 e.1

  module _ (fs : Fields) (h : AllFair n fs) where
    number_in : (w : String) (k : ℕ) → limit (bytes w) ≡ k → On (λ x. x < k) (last_number w fs)
    number_in w k l = fields.number_in Entire w (λ x. x < k) go fs h
      where
        go : (e : Entry) → Entire e → e.0 ≡ bytes w → On (λ x. x < k) e.1.number
        go e f q =
            let z : limit e.0 ≡ k = ap limit q ∙ l in
            on_map (λ x. x < limit e.0) (λ x. x < k) (λ x y. omega arith) e.1.number f.number

    word_in : (w : String) → limit (bytes w) ≡ 4294967296 → On (Small 4) (last_number w fs)
    word_in w l = on_map (λ x. x < 4294967296) (Small 4) (λ x y. small 4 x y) (last_number w fs) (number_in w 4294967296 l)

    pub word_is : (w : String) → limit (bytes w) ≡ 4294967296 → (d : ℕ) → last_number w fs ≡ some d → Small 4 d
    word_is w l d e = on_is (Small 4) (last_number w fs) d e (word_in w l)

    pub case_or : (w : String) (k : ℕ) → limit (bytes w) ≡ k → (d : ℕ) → d < k → default (last_number w fs) d < k
    case_or w k l d h = default_in (λ x. x < k) (last_number w fs) d (number_in w k l) h

    pub word_or : (w : String) → limit (bytes w) ≡ 4294967296 → (d : ℕ) → Small 4 d → Small 4 (default (last_number w fs) d)
    word_or w l d h = default_in (Small 4) (last_number w fs) d (word_in w l) h

    pub word-opt : (w : String) → limit (bytes w) ≡ 4294967296 → (opt_l word_l).ok (last_number w fs)
    word-opt w l = on_ok word_l (last_number w fs) (word_in w l)

    pub case-opt : (w : String) (k : ℕ) → limit (bytes w) ≡ k → (opt_l (below_l k)).ok (last_number w fs)
    case-opt w k l = on_ok (below_l k) (last_number w fs) (number_in w k l)

    pub easing-opt : (opt_l (easing_l n)).ok (last_easing fs)
    easing-opt = on_ok (easing_l n) (last_easing fs) (last-in Entire (λ e. e.1.easing) (easing_l n).ok (λ e f. f.easing) fs h)

    pub loop_opt : (opt_l loop_l).ok (last_loop_mode fs)
    loop_opt = on_ok loop_l (last_loop_mode fs) (last-in Entire (λ e. e.1.loop_mode) loop_l.ok (λ e f. f.loop_mode) fs h)

    pub value-opt : (opt_l value_l).ok (last_value fs)
    value-opt =
        on_ok value_l (last_value fs)
        (last-in Entire (λ e. e.1.value) value_l.ok
        (λ e f. on_map (λ v. value_l.ok v × (8 ≤ length e.0)) value_l.ok (λ v x. x.0) e.1.value f.value) fs h)

    pub damping-opt : (opt_l damping_l).ok (last_damping fs)
    damping-opt = on_ok damping_l (last_damping fs) (last-in Entire (λ e. e.1.damping) damping_l.ok (λ e f. f.damping) fs h)

    pub range_opt : (opt_l (word_l & word_l)).ok (last_range fs)
    range_opt =
        on_ok (word_l & word_l) (last_range fs)
        (last-in Entire (λ e. e.1.range) (λ p. Small 4 p.0 × Small 4 p.1) (λ e f. f.range) fs h)

  -- ---- what text a list takes at least

  -- what an entry that is selected takes, the list takes
  total-last : {A : Type 0} (f : Entry → Option A) (cost : A → ℕ)
      → ((e : Entry) (a : A) → Fair n e.0 e.1 → f e ≡ some a → cost a ≤ price e)
      → (fs : Fields) → AllFair n fs → (a : A) → last f fs ≡ some a
      → cost a ≤ total fs
  unfolding last
  total-last f cost k [] h a e = absurd (let z : ◌≡◌ {A = ℕ} 0 1 = cc in omega arith)
  total-last {A = A} f cost k (x ∷ fs) h a e = go (f x) refl e (λ g. total-last f cost k fs h.1 a g)
    where
      go : (o : Option A) → f x ≡ o → or_else o (last f fs) ≡ some a → (last f fs ≡ some a → cost a ≤ total fs) → cost a ≤ price x + total fs
      go none q g ih = let z = ih g in omega arith
      go (some b) q g ih = let z = k x a h.0 (q ∙ g) in omega arith

  module _ (fs : Fields) (h : AllFair n fs) where
    pub total-number : (w : String) (d : ℕ) → last_number w fs ≡ some d → 3 * length (bytes w) + 6 ≤ total fs
    total-number w d e =
        total-last (called w (λ c. c.number)) (λ x. 3 * length (bytes w) + 6) (λ x a f g. go x a (same x.0 (bytes w)) refl g) fs h d e
      where
        go : (x : Entry) (a : ℕ) (b : Bool) → same x.0 (bytes w) ≡ b
            → cond {A = Option ℕ} b x.1.number none ≡ some a
            → 3 * length (bytes w) + 6 ≤ price x
        go x a true q g = let z = ap length (same_eq x.0 (bytes w) q) in omega arith
        go x a false q g = absurd (let z : ◌≡◌ {A = ℕ} 0 1 = cc in omega arith)

    pub total-value : (v : ValueExpr) → last_value fs ≡ some v → 25 + length (value_form.write v) ≤ total fs
    total-value v e = total-last (λ x. x.1.value) (λ a. 25 + length (value_form.write a)) (λ x a f g. go x a g f.value) fs h v e
      where
        go : (x : Entry) (a : ValueExpr) → x.1.value ≡ some a
            → On (λ b. value_l.ok b × (8 ≤ length x.0)) x.1.value
            → 25 + length (value_form.write a) ≤ price x
        go x a g f =
            let l = (on_is (λ b. value_l.ok b × (8 ≤ length x.0)) x.1.value a g f).1 in
            let z = ap (λ (o : Option ValueExpr). length ((opt value_form).write o)) g in
            omega arith

  pub total_some : (e : Entry) (fs : Fields) → AllFair n (e ∷ fs) → 15 ≤ total (e ∷ fs)
  total_some e fs h = omega (arith, h.0.long)

  -- a number's field and another
  pub total-two : (x y : Entry) (fs : Fields) → AllFair n (x ∷ y ∷ fs) → (w : String) (d : ℕ) → last_number w (x ∷ y ∷ fs) ≡ some d
      → 3 * length (bytes w) + 21 ≤ total (x ∷ y ∷ fs)
  unfolding last
  total-two x y fs h w d e = go (same x.0 (bytes w)) refl e
    where
      go : (b : Bool) → same x.0 (bytes w) ≡ b → or_else (cond {A = Option ℕ} b x.1.number none) (last_number w (y ∷ fs)) ≡ some d
          → 3 * length (bytes w) + 21 ≤ total (x ∷ y ∷ fs)
      go true q g = let z = ap length (same_eq x.0 (bytes w) q) in omega (arith, total_some y fs h.1)
      go false q g = omega (arith, total-number (y ∷ fs) h.1 w d g, h.0.long)
