-- Lists of fields at two lists of tokens that agree.
use Prim.Native.Nat.{ℕ, ◌+◌, ◌≤◌}
use Prim.Native.String.{String}
use mathlib.Core.Bool.{Bool, true, false}
use mathlib.Core.List.{List, [], ◌∷◌}
use mathlib.Core.Option.{Option, none, some}
use mathlib.Core.Path.{◌≡◌, refl, sym, ap, ◌∙◌, subst}
use native.Mathlib.Omega.{arith}
use lib.Dec.{eqb}
use lib.ListN.{length}
use Rattle.text.specs.Bytes.{bytes, same, one_of}
use Rattle.text.specs.Words.{or_else, find}
use Rattle.token.specs.Token.{Kind, name, number, quoted, mark, Token, kind, is_mark}
use Rattle.token.specs.Names.{is_keyword}
use Rattle.ast.specs.Tree.{EasingSpec}
use Rattle.checking.specs.Rules.{unknown_easing, given}
use Rattle.error.specs.declared.Refusal.TheVariants.{UnknownKeyword}
use Rattle.grammar.specs.Rule.{Notes, Rule, give, need, sees_word}
use Rattle.grammar.specs.Fields.{Content, Entry, Fields, Table, Item, halts, closes, passes, starts, row_of, field_head, field_value, entry}
use Rattle.grammar.specs.Fields.{pair_name, one_pair, pairs, item_of, field_name, one_field, by_item, fields_step, parse_field_list}
use Rattle.grammar.specs.Fields.{last, called, last_number, last_truth, last_easing}
use Rattle.grammar.specs.Fields.{last_loop_mode, last_value, last_damping, last_range}
use Rattle.law_renamed.proofs.StreamLaws.{Fine, stay, past, Scripts, Pair, item_agrees, word_agrees, rest-pair}
use Rattle.law_renamed.proofs.StepLaws.{Moves, Twins, Alike, none_free, Alikes, then_on, then, within, weaken}
use Rattle.law_renamed.proofs.StepLaws.{same_on, and_on, and, gives, refuses, tests, no_place, skips, the-mark, a_word_lem}
use Rattle.law_renamed.proofs.StepLaws.{Steps, NextAlike, repeats, lists, Rows}

-- ---- what checking asks of an easing: whether it is unknown

abbrev pub EasingAlike : Scripts → EasingSpec → EasingSpec → Type 0
EasingAlike x e d = unknown_easing x.text e ≡ unknown_easing x.other d

abbrev pub asked : List ℕ → Option EasingSpec → Option Bool
asked t none = none
asked t (some e) = some (unknown_easing t e)

abbrev pub Asked : Scripts → Option EasingSpec → Option EasingSpec → Type 0
Asked x o o' = asked x.text o ≡ asked x.other o'

given_is : (t : List ℕ) (o : Option EasingSpec) → given (unknown_easing t) o ≡ given (λ b. b) (asked t o)
given_is t none = refl
given_is t (some e) = refl

pub given_alike : (x : Scripts) (o o' : Option EasingSpec) → Asked x o o'
    → given (unknown_easing x.text) o ≡ given (unknown_easing x.other) o'
given_alike x o o' e = given_is x.text o ∙ ap (given (λ b. b)) e ∙ sym (given_is x.other o')

-- ---- fields

pub record ContentAlike (x : Scripts) (c d : Content) : Type 0 where
  pub number : c.number ≡ d.number
  pub truth : c.truth ≡ d.truth
  pub easing : Asked x c.easing d.easing
  pub loop_mode : c.loop_mode ≡ d.loop_mode
  pub value : c.value ≡ d.value
  pub damping : c.damping ≡ d.damping
  pub range : c.range ≡ d.range

abbrev pub EntryAlike : Scripts → Entry → Entry → Type 0
EntryAlike x e g = (e.0 ≡ g.0) × ContentAlike x e.1 g.1

pub data FieldsAlike (x : Scripts) : Fields → Fields → Type 0 where
  nil : FieldsAlike x [] []
  cons : {e g : Entry} {fs gs : Fields} → EntryAlike x e g → FieldsAlike x fs gs → FieldsAlike x (e ∷ fs) (g ∷ gs)

pub last_alike : {A : Type 0} (x : Scripts) (f : Entry → Option A) → ((e g : Entry) → EntryAlike x e g → f e ≡ f g)
    → {fs gs : Fields} → FieldsAlike x fs gs → last f fs ≡ last f gs
unfolding last
last_alike x f k nil = refl
last_alike x f k (cons {e = e} {g = g} h r) = rw (k e g h, last_alike x f k r)

module _ (x : Scripts) {fs gs : Fields} (h : FieldsAlike x fs gs) where
  pub number_alike : (s : String) → last_number s fs ≡ last_number s gs
  number_alike s = last_alike x (called s (λ c. c.number)) (λ e g k. rw (k.0, k.1.number)) h

  pub truth_alike : (s : String) → last_truth s fs ≡ last_truth s gs
  truth_alike s = last_alike x (called s (λ c. c.truth)) (λ e g k. rw (k.0, k.1.truth)) h

  pub loop_alike : last_loop_mode fs ≡ last_loop_mode gs
  loop_alike = last_alike x (λ e. e.1.loop_mode) (λ e g k. k.1.loop_mode) h

  pub value_alike : last_value fs ≡ last_value gs
  value_alike = last_alike x (λ e. e.1.value) (λ e g k. k.1.value) h

  pub damping_alike : last_damping fs ≡ last_damping gs
  damping_alike = last_alike x (λ e. e.1.damping) (λ e g k. k.1.damping) h

  pub range_alike : last_range fs ≡ last_range gs
  range_alike = last_alike x (λ e. e.1.range) (λ e g k. k.1.range) h

asked_or : (t : List ℕ) (o p : Option EasingSpec) → asked t (or_else o p) ≡ or_else (asked t o) (asked t p)
asked_or t none p = refl
asked_or t (some e) p = refl

pub easing_alike : (x : Scripts) {fs gs : Fields} → FieldsAlike x fs gs → Asked x (last_easing fs) (last_easing gs)
unfolding last
easing_alike x nil = refl
easing_alike x (cons {e = e} {g = g} {fs = fs} {gs = gs} h r) =
    asked_or x.text e.1.easing (last_easing fs)
    ∙ (rw (h.1.easing, easing_alike x r))
    ∙ sym (asked_or x.other g.1.easing (last_easing gs))

pub easing_says : (x : Scripts) {fs gs : Fields} → FieldsAlike x fs gs
    → given (unknown_easing x.text) (last_easing fs) ≡ given (unknown_easing x.other) (last_easing gs)
easing_says x {fs = fs} {gs = gs} h = given_alike x (last_easing fs) (last_easing gs) (easing_alike x h)

-- ---- keywords

pub loop_keyword : is_keyword (bytes "loop") ≡ true
unfolding is_keyword find same
loop_keyword = refl

-- ---- rules

passes_real : (k : Kind) → item_of k ≡ passes → is_mark k 0 ≡ false
unfolding item_of one_of
passes_real (name w) e = refl
passes_real (number w) e = refl
passes_real (quoted n) e = refl
passes_real (mark b) e = go (eqb b 0) refl
  where
    go : (y : Bool) → eqb b 0 ≡ y → y ≡ false
    go true f = absurd (let w : halts ≡ passes = sym (rw f) ∙ e in let z : ◌≡◌ {A = ℕ} 0 1 = cc in omega arith)
    go false f = refl

module _ (x : Scripts) where
  abbrev Row : String × Rule Content → Type 0
  Row f = Alikes x Unit f.1 f.1 (ContentAlike x)

  abbrev RowFound : Option (String × Rule Content) → Type 0
  RowFound none = Unit {0}
  RowFound (some f) = Row f

  row_pick : (b : Bool) (f : String × Rule Content) (o : Option (String × Rule Content))
      → Row f → RowFound o → RowFound (elim b [ true ↦ some f | false ↦ o ])
  row_pick true f o y z = y
  row_pick false f o y z = z

  row_found : (t : Table) (w : List ℕ) → Rows x (ContentAlike x) t → RowFound (row_of t w)
  unfolding row_of
  row_found [] w h = tt
  row_found (f ∷ t) w h = row_pick (same w (bytes f.0)) f (row_of t w) h.0 (row_found t w h.1)

  needs_row : {H : Type 0} (n : ℕ) → 1 ≤ n → (o : Option (String × Rule Content)) → RowFound o
      → Alike x H (need UnknownKeyword o) (need UnknownKeyword o) (λ f k. Row f × (1 ≤ n + k)) none_free ◌≡◌
  needs_row n h none y = refuses
  needs_row n h (some f) y = gives (y, omega arith) (λ h. refl)

  pub pair_name_lem : {H : Type 0} → Alikes x H pair_name pair_name ◌≡◌
  unfolding pair_name
  pair_name_lem = then a_word_lem (λ w v. gives tt (λ h. h.1.0))

  pub field_name_lem : {H : Type 0} → Alikes x H field_name field_name ◌≡◌
  unfolding field_name
  field_name_lem =
      tests (sees_word "loop") (sees_word "loop") (λ h ts us i. word_agrees i (bytes "loop") loop_keyword)
      (and {f = give (bytes "loop")} {g = give (bytes "loop")} skips (gives tt (λ h. refl))) pair_name_lem

  module _ (t : Table) (rows : Rows x (ContentAlike x) t) where
    entry_alike : {H : Type 0} (p : Rule (List ℕ)) → Alikes x H p p ◌≡◌
        → Alike x H (entry p t) (entry p t) (λ e j. 1 ≤ j) none_free (EntryAlike x)
    unfolding entry field_head field_value
    entry_alike {H = H} p y =
        same_on head (λ f j q. then_on (within (λ h. tt) q.0) (λ c d k r. gives (let z = q.1 in omega arith) (λ h. (refl, h.1))))
      where
        head : Alike x H (field_head p t) (field_head p t) (λ f j. Row f × (1 ≤ j)) none_free ◌≡◌
        head =
            same_on y
            (λ w j q. and_on (the-mark 58 refl)
            (λ u k r.
            weaken (λ f n z. (z.0, let v = z.1 in omega arith)) (needs_row k r (row_of t w) (row_found t w rows))))

    pub pairs_alike : {H : Type 0} → Alikes x H (pairs t) (pairs t) (FieldsAlike x)
    unfolding pairs one_pair
    pairs_alike =
        lists (FieldsAlike x) (one_pair t)
        (λ fs gs. then (entry_alike pair_name pair_name_lem) (λ e g. gives tt (λ h. cons h.1 h.0))) [] [] (λ h. nil)

    one_field_lem : (fs gs : Fields)
        → Alike x (FieldsAlike x fs gs) (one_field t fs) (one_field t gs) Steps none_free (NextAlike (FieldsAlike x))
    unfolding one_field
    one_field_lem fs gs = then_on (entry_alike field_name field_name_lem) (λ e g j p. gives (omega arith) (λ h. cons h.1 h.0))

    fields_step_lem : (fs gs : Fields)
        → Alike x (FieldsAlike x fs gs) (fields_step t fs) (fields_step t gs) Steps none_free (NextAlike (FieldsAlike x))
    unfolding fields_step
    fields_step_lem fs gs = record {
      moves = λ l ts h. go l ts h (item_of (kind ts)) refl;
      twins = λ h l m ts us i c d. subst
          (λ (z : Item).
          Twins x none_free (NextAlike (FieldsAlike x)) ts m (by_item (item_of (kind ts)) t fs l ts) (by_item z t gs m us))
          (item_agrees i)
          (on h l m ts us i c d (item_of (kind ts)));
    }
      where
        go : (l : Notes) (ts : List Token) → Fine x.text ts → (z : Item) → item_of (kind ts) ≡ z
            → Moves x Steps none_free l ts (by_item z t fs l ts)
        go l ts h halts e = record { bound = refl; gone = stay h; post = tt; held = λ y e. no_place y e }
        go l ts h closes e = record { bound = refl; gone = (past x.text ts h).gone; post = tt; held = λ y e. no_place y e }
        go l ts h passes e =
            let v = past x.text ts h in
            record {
              bound = refl;
              gone = v.gone;
              post = omega (arith, (v.on (passes_real (kind ts) e)).1);
              held = λ y e. no_place y e;
            }
        go l ts h starts e = (one_field_lem fs gs).moves l ts h

        on : FieldsAlike x fs gs → (l m : Notes) (ts us : List Token) → Pair x ts us → length ts ≤ l.bound → length us ≤ m.bound
            → (z : Item) → Twins x none_free (NextAlike (FieldsAlike x)) ts m (by_item z t fs l ts) (by_item z t gs m us)
        on h l m ts us i c d halts = λ only. record { related = h; pair = i; bound = refl }
        on h l m ts us i c d closes = λ only. record { related = h; pair = rest-pair i; bound = refl }
        on h l m ts us i c d passes = λ only. record { related = h; pair = rest-pair i; bound = refl }
        on h l m ts us i c d starts = (one_field_lem fs gs).twins h l m ts us i c d

    pub fields_alike : {H : Type 0} (fs gs : Fields) → (H → FieldsAlike x fs gs)
        → Alikes x H (parse_field_list t fs) (parse_field_list t gs) (FieldsAlike x)
    unfolding parse_field_list
    fields_alike fs gs h = repeats (FieldsAlike x) (fields_step t) fields_step_lem fs gs h
