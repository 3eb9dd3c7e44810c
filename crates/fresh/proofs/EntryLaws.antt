-- A field and its value, as they are written, are read; and what a list of fields says.
use Prim.Native.Nat.{ℕ}
use Prim.Native.String.{String}
use mathlib.Core.Bool.{Bool, true, false, ◌||◌, cond}
use mathlib.Core.List.{List, [], ◌∷◌}
use mathlib.Core.Option.{Option, none, some}
use mathlib.Core.Path.{◌≡◌, refl, sym, ap}
use lib.Dec.{eqb}
use borrow.Author.Tests.{eqb-true}
use Rattle.text.specs.Bytes.{bytes, same, one_of}
use Rattle.text.proofs.WordLaws.{same_refl}
use Rattle.text.specs.Words.{or_else, default}
use Rattle.token.specs.Names.{is_keyword}
use Rattle.ast.specs.Tree.{EasingSpec, LoopSpec, ValueExpr, DampingMode, critically_damped, overdamped, underdamped}
use Rattle.error.specs.declared.Refusal.TheVariants.{UnknownKeyword}
use Rattle.grammar.specs.Rule.{Rule, ends, list_step}
use Rattle.grammar.specs.Fields.{Content, a_number, a_truth, an_easing, a_loop_mode, a_value, a_damping, a_range, Fields}
use Rattle.grammar.specs.Fields.{Table, row_of, field_head, field_value, entry, pair_name, one_pair, pairs, last, last_number}
use Rattle.grammar.specs.Fields.{last_truth, last_easing, last_loop_mode, last_value, last_damping, last_range, ever}
use Rattle.pieces.specs.Pieces.{Piece, Form, ahead, laid}
use Rattle.fresh.specs.Fresh.{spell, mark, Pair, more_pairs, unless, only_true, unless_is}
use Rattle.fresh.specs.Fresh.{pairs as pair_pieces}
use Rattle.fresh.proofs.ReadLaws.{Reads, Loops, gives, then, and, yes_if, no_if}
use Rattle.fresh.proofs.ReadLaws.{the-mark, eats_mark, eats_none, needs, a_word_lem, loops, ends_at, again}

-- fields with one more, or not
abbrev pub put : String → Option Content → Fields → Fields
put n none fs = fs
put n (some c) fs = (bytes n, c) ∷ fs

abbrev pub opt : {A : Type 0} → (A → Content) → Option A → Option Content
opt f none = none
opt f (some a) = some (f a)

-- the row of a table for a field that holds c
pub record Row (form : Form) (s : List ℕ) (table : Table) (f : Pair) (c : Content) : Type 0 where
  pub rule : Rule Content
  pub row : row_of table (bytes f.0) ≡ some (f.0, rule)
  pub plain : is_keyword (bytes f.0) ≡ false
  pub reads : (us : List Piece) → Reads form s 1 rule (f.1 us) us (λ x. x ≡ c)

abbrev pub Rows : Form → List ℕ → Table → List Pair → List Content → Type 0
Rows form s table [] cs = Unit {0}
Rows form s table (f ∷ fs) [] = ⊥
Rows form s table (f ∷ fs) (c ∷ cs) = Row form s table f c × Rows form s table fs cs

-- the fields of such a list, onto others
abbrev pub puts : List Pair → List Content → Fields → Fields
puts [] cs acc = acc
puts (f ∷ fs) [] acc = acc
puts (f ∷ fs) (c ∷ cs) acc = puts fs cs ((bytes f.0, c) ∷ acc)

-- what is written of a value
abbrev pub keep : {A : Type 0} → Bool → A → Option A
keep true a = none
keep false a = some a

pub rows_unless : (form : Form) (s : List ℕ) (table : Table) (b : Bool) (f : Pair) (c : Content) (fs : List Pair) (cs : List Content)
    → Row form s table f c → Rows form s table fs cs
    → Rows form s table (unless b f fs) (unless b c cs)
unfolding unless
rows_unless form s table true f c fs cs r rs = rs
rows_unless form s table false f c fs cs r rs = (r, rs)

pub puts_unless : {A : Type 0} (b : Bool) (f : Pair) (g : A → Content) (a : A) (fs : List Pair) (cs : List Content) (acc : Fields)
    → puts (unless b f fs) (unless b (g a) cs) acc ≡ puts fs cs (put f.0 (opt g (keep b a)) acc)
unfolding unless
puts_unless true f g a fs cs acc = refl
puts_unless false f g a fs cs acc = refl

pub keep_default : (a d : ℕ) → default (keep (eqb a d) a) d ≡ a
keep_default a d = go (eqb a d) refl
  where
    go : (b : Bool) → eqb a d ≡ b → default (keep b a) d ≡ a
    go true e = sym (eqb-true a d e)
    go false e = refl

module _ {form : Form} {s : List ℕ} where
  pub reads-entry : {d : ℕ} {R : Content → Type 0} (names : Rule (List ℕ)) (table : Table) (n : String) (rule : Rule Content)
      {ps us : List Piece}
      → Reads form s 1 names (spell n ∷ mark ":" ∷ ps) (mark ":" ∷ ps) (λ x. x ≡ bytes n)
      → row_of table (bytes n) ≡ some (n, rule) → Reads form s d rule ps us R
      → Reads form s 1 (entry names table) (spell n ∷ mark ":" ∷ ps) us (λ f. (f.0 ≡ bytes n) × R f.1)
  unfolding entry field_head field_value
  reads-entry {d = d} names table n rule {ps = ps} x row y =
      then {d = d} (then x (λ w h. and (the-mark 58 ps refl) (needs UnknownKeyword (row_of table w) (n, rule) (rw h row))))
      (λ f g. rw g (then y (λ c r. gives (refl, r))))

  -- ---- fields in parentheses

  one-pair : (table : Table) (f : Pair) (c : Content) (acc : Fields) (us : List Piece)
      → Row form s table f c
      → Reads form s 1 (one_pair table acc) (spell f.0 ∷ mark ":" ∷ f.1 us) us (λ gs. gs ≡ (bytes f.0, c) ∷ acc)
  unfolding one_pair pair_name
  one-pair table f c acc us r =
      then (reads-entry pair_name table f.0 r.rule (then (a_word_lem (bytes f.0) _ r.plain) (λ w h. gives h)) r.row (r.reads us))
      (λ e h. gives (rw (← h.1) (ap (λ (m : List ℕ). (m, e.1) ∷ acc) h.0)))

  pair-items : (table : Table) (fs : List Pair) (cs : List Content) (f : Pair) (c : Content) (acc : Fields) (us : List Piece)
      → Row form s table f c → Rows form s table fs cs
      → Loops form s (list_step (one_pair table)) acc (spell f.0 ∷ mark ":" ∷ f.1 (more_pairs fs (mark ")" ∷ us))) (mark ")" ∷ us)
      (λ gs. gs ≡ puts fs cs ((bytes f.0, c) ∷ acc))
  unfolding more_pairs one_of laid ahead
  pair-items table [] cs f c acc us r rs =
      ends_at (no_if ends _ _ (λ q. refl)
      (then (one-pair table f c acc _ r) (λ b h. then (eats_none 44 (mark ")" ∷ us) (λ q. refl)) (λ x g. gives (rw g h)))))
  pair-items table (g ∷ fs) [] f c acc us r rs = absurd rs
  pair-items table (g ∷ fs) (d ∷ cs) f c acc us r rs =
      again {R = λ b. b ≡ (bytes f.0, c) ∷ acc}
      (no_if ends _ _ (λ q. refl) (then (one-pair table f c acc _ r) (λ b h. then (eats_mark 44 _ refl) (λ x i. gives (rw i h)))))
      (λ b h. rw h (pair-items table fs cs g d ((bytes f.0, c) ∷ acc) us rs.0 rs.1))

  pub reads-pairs : (table : Table) (fs : List Pair) (cs : List Content) (us : List Piece)
      → Rows form s table fs cs
      → Reads form s 0 (pairs table) (pair_pieces fs (mark ")" ∷ us)) (mark ")" ∷ us) (λ gs. gs ≡ puts fs cs [])
  unfolding pairs pair_pieces one_of laid ahead
  reads-pairs table [] cs us rs = loops (ends_at (yes_if ends _ _ (λ q. refl) (gives refl)))
  reads-pairs table (f ∷ fs) [] us rs = absurd rs
  reads-pairs table (f ∷ fs) (c ∷ cs) us rs = loops (pair-items table fs cs f c [] us rs.0 rs.1)

-- ---- what such a list says

module _ (n m : String) (fs : Fields) where
  pub number_past : (o : Option Content) → same (bytes m) (bytes n) ≡ false → last_number n (put m o fs) ≡ last_number n fs
  unfolding last
  number_past none e = refl
  number_past (some c) e = rw e

  pub truth-past : (o : Option Content) → same (bytes m) (bytes n) ≡ false → last_truth n (put m o fs) ≡ last_truth n fs
  unfolding last
  truth-past none e = refl
  truth-past (some c) e = rw e

  pub ever-past : (o : Option Content) → same (bytes m) (bytes n) ≡ false → ever n (put m o fs) ≡ ever n fs
  unfolding ever
  ever-past none e = refl
  ever-past (some c) e = rw e

module _ (n : String) (fs : Fields) where
  pub number-here : (o : Option ℕ) → last_number n (put n (opt a_number o) fs) ≡ or_else o (last_number n fs)
  unfolding last
  number-here none = refl
  number-here (some a) = rw (same_refl (bytes n))

  pub ever-here : (b : Bool) → ever n (put n (opt a_truth (only_true b)) fs) ≡ (b || ever n fs)
  unfolding ever
  ever-here true = rw (same_refl (bytes n))
  ever-here false = refl

-- fields of another sort
module _ {A : Type 0} (m : String) (f : A → Content) (o : Option A) (fs : Fields) where
  pub easing-past : ((a : A) → (f a).easing ≡ none) → last_easing (put m (opt f o) fs) ≡ last_easing fs
  unfolding last
  easing-past h = go o
    where
      go : (o : Option A) → last_easing (put m (opt f o) fs) ≡ last_easing fs
      go none = refl
      go (some a) = rw (h a)

  pub loop_past : ((a : A) → (f a).loop_mode ≡ none) → last_loop_mode (put m (opt f o) fs) ≡ last_loop_mode fs
  unfolding last
  loop_past h = go o
    where
      go : (o : Option A) → last_loop_mode (put m (opt f o) fs) ≡ last_loop_mode fs
      go none = refl
      go (some a) = rw (h a)

pub easing-here : (m : String) (o : Option EasingSpec) (fs : Fields) → last_easing (put m (opt an_easing o) fs) ≡ or_else o (last_easing fs)
unfolding last
easing-here m none fs = refl
easing-here m (some a) fs = refl

pub loop_here : (m : String) (o : Option LoopSpec) (fs : Fields) → last_loop_mode (put m (opt a_loop_mode o) fs) ≡ or_else o (last_loop_mode fs)
unfolding last
loop_here m none fs = refl
loop_here m (some a) fs = refl

pub or_none : {A : Type 0} (o : Option A) → or_else o none ≡ o
or_none none = refl
or_none (some a) = refl

pub truth-here : (n : String) (o : Option Bool) (fs : Fields) → last_truth n (put n (opt a_truth o) fs) ≡ or_else o (last_truth n fs)
unfolding last
truth-here n none fs = refl
truth-here n (some b) fs = rw (same_refl (bytes n))

module _ {A : Type 0} (m : String) (f : A → Content) (o : Option A) (fs : Fields) where
  pub value-past : ((a : A) → (f a).value ≡ none) → last_value (put m (opt f o) fs) ≡ last_value fs
  unfolding last
  value-past h = go o
    where
      go : (o : Option A) → last_value (put m (opt f o) fs) ≡ last_value fs
      go none = refl
      go (some a) = rw (h a)

  pub range_past : ((a : A) → (f a).range ≡ none) → last_range (put m (opt f o) fs) ≡ last_range fs
  unfolding last
  range_past h = go o
    where
      go : (o : Option A) → last_range (put m (opt f o) fs) ≡ last_range fs
      go none = refl
      go (some a) = rw (h a)

  pub damping-past : ((a : A) → (f a).damping ≡ none) → last_damping (put m (opt f o) fs) ≡ last_damping fs
  unfolding last
  damping-past h = go o
    where
      go : (o : Option A) → last_damping (put m (opt f o) fs) ≡ last_damping fs
      go none = refl
      go (some a) = rw (h a)

pub value-here : (m : String) (o : Option ValueExpr) (fs : Fields) → last_value (put m (opt a_value o) fs) ≡ or_else o (last_value fs)
unfolding last
value-here m none fs = refl
value-here m (some a) fs = refl

pub range_here : (m : String) (o : Option (ℕ × ℕ)) (fs : Fields) → last_range (put m (opt a_range o) fs) ≡ or_else o (last_range fs)
unfolding last
range_here m none fs = refl
range_here m (some a) fs = refl

-- the field of a damping mode, under one of three names
abbrev pub damp_name : DampingMode → String
damp_name (critically_damped a) = "critically_damped"
damp_name (overdamped a b) = "overdamped"
damp_name (underdamped a b) = "underdamped"

abbrev pub damp : Option DampingMode → Fields → Fields
damp none fs = fs
damp (some m) fs = (bytes (damp_name m), a_damping m) ∷ fs

both_none : {A : Type 0} (b : Bool) (x : Option A) → or_else (cond b none none) x ≡ x
both_none true x = refl
both_none false x = refl

pub number_damp : (n : String) (o : Option DampingMode) (fs : Fields) → last_number n (damp o fs) ≡ last_number n fs
unfolding last
number_damp n none fs = refl
number_damp n (some m) fs = both_none (same (bytes (damp_name m)) (bytes n)) (last_number n fs)

pub value_damp : (o : Option DampingMode) (fs : Fields) → last_value (damp o fs) ≡ last_value fs
unfolding last
value_damp none fs = refl
value_damp (some m) fs = refl

pub damp_here : (o : Option DampingMode) (fs : Fields) → last_damping (damp o fs) ≡ or_else o (last_damping fs)
unfolding last
damp_here none fs = refl
damp_here (some m) fs = refl

pub unless-default : (d n : ℕ) → default (unless_is d n) d ≡ n
unfolding unless_is
unless-default d n = go (eqb n d) refl
  where
    go : (b : Bool) → eqb n d ≡ b → default (cond b none (some n)) d ≡ n
    go true e = sym (eqb-true n d e)
    go false e = refl
