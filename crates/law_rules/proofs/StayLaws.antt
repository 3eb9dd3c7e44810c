-- Each rule of the grammar refuses at the place of a token, counts a number at most for each token, and counts it onto what was counted
-- before.
use Prim.Native.Nat.{ℕ, zero, suc, ◌+◌, ◌≤◌}
use mathlib.Core.Bool.{Bool, true, false, cond}
use mathlib.Core.List.{List, [], ◌∷◌}
use mathlib.Core.Option.{Option, none, some}
use mathlib.Core.Path.{◌≡◌, refl, sym, ap, ◌∙◌, subst}
use native.Mathlib.Omega.{arith}
use lib.ListN.{length}
use Rattle.number.specs.Number.{Written}
use Rattle.token.specs.Token.{name, number, quoted, mark, Token, token, place, kind, is_mark, rest}
use Rattle.token.specs.Split.{closer}
use Rattle.token.specs.Names.{name_of, quote_of}
use Rattle.error.specs.declared.Refusal.{Refusal}
use Rattle.grammar.specs.Rule.{Notes, Out, got, refused, Rule, after, give, refuse, if, ◌>>=◌, ◌>>◌, skip}
use Rattle.grammar.specs.Rule.{sees_byte, sees_bytes, sees_pair, sees_whole, the_byte, both_bytes, eat_byte, found, word}
use Rattle.grammar.specs.Rule.{text, Signed, plain, negated, sees_number, tally, counted}
use Rattle.grammar.specs.Rule.{absent, minus, taken, signed, Pass, halts, closes, goes, weigh, depth, passed}
use Rattle.grammar.specs.Rule.{behind, first_of, noted, leave, inside_byte, Next, more, done, iterate, repeat}
use Rattle.grammar.specs.Rule.{next as following}
use Rattle.grammar.specs.Fields.{Fields, Table, item_of, one_field, by_item, fields_step}
use Rattle.grammar.specs.Fields as item
use Rattle.number.specs.Time.{Key}
use Rattle.ast.specs.Tree.{Nodes}
use Rattle.grammar.specs.Grammar.{nodes_step, block, animato_input}
use Rattle.law_rules.proofs.EachLaws.{Closed, nodes-each, block-each, input_each}

-- ---- tokens at places up to n

unfoldable pub Near : ℕ → List Token → Type 0
Near n [] = Unit {0}
Near n (token p k ∷ ts) = (p ≤ n) × Near n ts

pub place-near : (n : ℕ) (ts : List Token) → Near n ts → place ts ≤ n
unfolding Near
place-near n [] h = omega arith
place-near n (token p k ∷ ts) h = h.0

rest-near : (n : ℕ) (ts : List Token) → Near n ts → Near n (rest ts)
unfolding Near
rest-near n [] h = tt
rest-near n (token p k ∷ ts) h = go (is_mark k 0)
  where
    go : (b : Bool) → Near n (cond b (token p k ∷ ts) ts)
    go true = h
    go false = h.1

passed-near : (n : ℕ) (x : Pass) (ts us vs : List Token) → Near n ts → Near n us → Near n vs → Near n (passed x ts us vs)
passed-near n halts ts us vs f g h = f
passed-near n closes ts us vs f g h = g
passed-near n (goes d) ts us vs f g h = h

behind-near : (n d : ℕ) (ts : List Token) → Near n ts → Near n (behind d ts)
unfolding Near behind
behind-near n d [] h = tt
behind-near n d (token p k ∷ ts) h =
    passed-near n (weigh k d) (token p k ∷ ts) ts (behind (depth (weigh k d)) ts) h h.1 (behind-near n (depth (weigh k d)) ts h.1)

-- ---- how many tokens are left

rest_fewer : (ts : List Token) → length (rest ts) ≤ length ts
rest_fewer [] = omega arith
rest_fewer (token p k ∷ ts) = go (is_mark k 0)
  where
    go : (b : Bool) → length (cond b (token p k ∷ ts) ts) ≤ suc (length ts)
    go true = omega arith
    go false = omega arith

passed_fewer : (m : ℕ) (x : Pass) (ts us vs : List Token) → length ts ≤ m → length us ≤ m → length vs ≤ m → length (passed x ts us vs) ≤ m
passed_fewer m halts ts us vs f g h = f
passed_fewer m closes ts us vs f g h = g
passed_fewer m (goes d) ts us vs f g h = h

behind_fewer : (d : ℕ) (ts : List Token) → length (behind d ts) ≤ length ts
unfolding behind
behind_fewer d [] = omega arith
behind_fewer d (token p k ∷ ts) =
    passed_fewer (suc (length ts)) (weigh k d) (token p k ∷ ts) ts (behind (depth (weigh k d)) ts) (omega arith) (omega arith)
    (omega (arith, behind_fewer (depth (weigh k d)) ts))

-- ---- the state of a rule, and what it comes to

abbrev pub LeftNear : ℕ → Option ℕ → Type 0
LeftNear n none = Unit {0}
LeftNear n (some p) = p ≤ n

-- a text of n bytes has at most n + 1 tokens, of which those behind the cursor may be counted
pub record State (n : ℕ) (l : Notes) (ts : List Token) : Type 0 where
  pub left : LeftNear n l.leftover
  pub near : Near n ts
  pub few : l.rounded + length ts ≤ suc n

abbrev pub OutNear : {A : Type 0} → ℕ → Out A → Type 0
OutNear n (got a l ts) = State n l ts
OutNear n (refused r p) = p ≤ n

-- with c numbers counted before
abbrev pub plus : ℕ → Notes → Notes
plus c l = record { leftover = l.leftover; rounded = c + l.rounded; bound = l.bound }

abbrev pub plus_out : {A : Type 0} → ℕ → Out A → Out A
plus_out c (got a l ts) = got a (plus c l) ts
plus_out c (refused r p) = refused r p

-- a rule counts onto what was counted before, which changes nothing else
abbrev pub Adds : {A : Type 0} → Rule A → Type 0
Adds p = (c : ℕ) (l : Notes) (ts : List Token) → p (plus c l) ts ≡ plus_out c (p l ts)

-- whatever the tokens, a rule refuses at a place up to n, and leaves such tokens
pub record Stays {A : Type 0} (n : ℕ) (p : Rule A) : Type 0 where
  pub run : (l : Notes) (ts : List Token) → State n l ts → OutNear n (p l ts)
  pub adds : Adds p

moved : (n : ℕ) (l : Notes) (ts : List Token) → State n l ts → State n l (rest ts)
moved n l ts h = record { left = h.left; near = rest-near n ts h.near; few = omega (arith, h.few, rest_fewer ts) }

-- ---- one after the other

pub gives : {A : Type 0} {n : ℕ} {a : A} → Stays n (give a)
gives = record { run = λ l ts h. h; adds = λ c l ts. refl }

pub refuses : {A : Type 0} {n : ℕ} {r : Refusal} → Stays {A = A} n (refuse r)
refuses {n = n} = record { run = λ l ts h. place-near n ts h.near; adds = λ c l ts. refl }

goes_on : {A B : Type 0} (n : ℕ) (f : A → Rule B) → ((a : A) → Stays n (f a)) → (o : Out A) → OutNear n o → OutNear n (after o f)
goes_on n f k (got a l ts) h = (k a).run l ts h
goes_on n f k (refused r p) h = h

after_adds : {A B : Type 0} (c : ℕ) (f : A → Rule B) → ((a : A) → Adds (f a)) → (o : Out A) → after (plus_out c o) f ≡ plus_out c (after o f)
after_adds c f k (got a l ts) = k a c l ts
after_adds c f k (refused r p) = refl

then_adds : {A B : Type 0} (p : Rule A) (f : A → Rule B) → Adds p → ((a : A) → Adds (f a)) → Adds (p >>= f)
then_adds p f x k c l ts = ap (λ (o : Out _). after o f) (x c l ts) ∙ after_adds c f k (p l ts)

pub then : {A B : Type 0} {n : ℕ} {p : Rule A} {f : A → Rule B} → Stays n p → ((a : A) → Stays n (f a)) → Stays n (p >>= f)
then {n = n} {p = p} {f = f} x k =
    record { run = λ l ts h. goes_on n f k (p l ts) (x.run l ts h); adds = then_adds p f x.adds (λ a. (k a).adds) }

pub and : {A B : Type 0} {n : ℕ} {p : Rule A} {f : Rule B} → Stays n p → Stays n f → Stays n (p >> f)
and {n = n} {p = p} {f = f} x k =
    record { run = λ l ts h. goes_on n (λ a. f) (λ a. k) (p l ts) (x.run l ts h); adds = then_adds p (λ a. f) x.adds (λ a. k.adds) }

conds : {A : Type 0} {n : ℕ} (b : Bool) {p q : Rule A} → Stays n p → Stays n q → Stays n (cond b p q)
conds true x y = x
conds false x y = y

pub tests : {A : Type 0} {n : ℕ} (test : List Token → Bool) {p q : Rule A} → Stays n p → Stays n q → Stays n (if test p q)
tests test x y = record { run = λ l ts h. (conds (test ts) x y).run l ts h; adds = λ c l ts. (conds (test ts) x y).adds c l ts }

-- ---- tokens

pub skips : {n : ℕ} → Stays n skip
skips {n = n} = record { run = λ l ts h. moved n l ts h; adds = λ c l ts. refl }

pub the-mark : {n : ℕ} (b : ℕ) → Stays n (the_byte b)
the-mark b = tests (sees_byte b) skips refuses

pub two-marks : {n : ℕ} (b d : ℕ) → Stays n (both_bytes b d)
two-marks b d = tests (sees_pair b d) (and {f = skip} skips skips) refuses

finds : {A B : Type 0} (n : ℕ) (o : Option A) (f : A → B) (l : Notes) (ts : List Token) → State n l ts → OutNear n (found o f l ts)
finds n none f l ts h = place-near n ts h.near
finds n (some a) f l ts h = moved n l ts h

finds_adds : {A B : Type 0} (o : Option A) (f : A → B) → Adds (found o f)
finds_adds none f c l ts = refl
finds_adds (some a) f c l ts = refl

pub a_word_lem : {n : ℕ} → Stays n word
a_word_lem {n = n} = record {
  run = λ l ts h. finds n (name_of (kind ts)) (λ w. (place ts, w)) l ts h;
  adds = λ c l ts. finds_adds (name_of (kind ts)) (λ w. (place ts, w)) c l ts;
}

pub a_text : {n : ℕ} → Stays n text
a_text {n = n} = record {
  run = λ l ts h. finds n (quote_of (kind ts)) (λ m. (suc (place ts), m)) l ts h;
  adds = λ c l ts. finds_adds (quote_of (kind ts)) (λ m. (suc (place ts), m)) c l ts;
}

takes : (n : ℕ) (r : Refusal) (x : Signed) (l : Notes) (ts : List Token) → State n l ts → OutNear n (taken r x l ts)
takes n r absent l ts h = place-near n ts h.near
takes n r (Signed.plus w) l ts h = moved n l ts h
takes n r (minus w) l ts h = moved n l (rest ts) (moved n l ts h)

takes_adds : (r : Refusal) (x : Signed) → Adds (taken r x)
takes_adds r absent c l ts = refl
takes_adds r (Signed.plus w) c l ts = refl
takes_adds r (minus w) c l ts = refl

pub a_number_lem : {n : ℕ} (view : List Token → Signed) (r : Refusal) → Stays n (signed view r)
a_number_lem {n = n} view r = record { run = λ l ts h. takes n r (view ts) l ts h; adds = λ c l ts. takes_adds r (view ts) c l ts }

-- ---- counting

-- the state behind a number that is not counted yet
pub record Spare (n : ℕ) (l : Notes) (ts : List Token) : Type 0 where
  pub left : LeftNear n l.leftover
  pub near : Near n ts
  pub few : suc (l.rounded + length ts) ≤ suc n

pub record Spends {A : Type 0} (n : ℕ) (p : Rule A) : Type 0 where
  pub run : (l : Notes) (ts : List Token) → Spare n l ts → OutNear n (p l ts)
  pub adds : Adds p

pub refuses_too : {A : Type 0} {n : ℕ} {r : Refusal} → Spends {A = A} n (refuse r)
refuses_too {n = n} = record { run = λ l ts h. place-near n ts h.near; adds = λ c l ts. refl }

tally_plus : (b : Bool) (c : ℕ) (l : Notes) → tally b (plus c l) ≡ plus c (tally b l)
tally_plus true c l = ap (λ (k : ℕ). record_of k) (omega arith)
  where
    record_of : ℕ → Notes
    record_of k = record { leftover = l.leftover; rounded = k; bound = l.bound }
tally_plus false c l = refl

pub tallies : {A : Type 0} {n : ℕ} {p : Rule A} (b : Bool) → Stays n p → Spends n (counted b >> p)
tallies {n = n} {p = p} b x = record {
  run = λ l ts h. x.run (tally b l) ts (record { left = h.left; near = h.near; few = few b l ts h });
  adds = λ c l ts. ap (λ (m : Notes). p m ts) (tally_plus b c l) ∙ x.adds c (tally b l) ts;
}
  where
    few : (b : Bool) (l : Notes) (ts : List Token) → Spare n l ts → (tally b l).rounded + length ts ≤ suc n
    few true l ts h = omega (arith, h.few)
    few false l ts h = omega (arith, h.few)

-- a mark that may stand there, but not where b holds
pub eats_too : {A : Type 0} {n : ℕ} {f : Bool → Rule A} (b : Bool) (c : ℕ) → ((x : Bool) → Spends n (f x))
    → Spends n (cond b (give false) (eat_byte c) >>= f)
eats_too {n = n} {f = f} true c k = record { run = λ l ts h. (k false).run l ts h; adds = λ d l ts. (k false).adds d l ts }
eats_too {n = n} {f = f} false c k = record {
  run = λ l ts h. go l ts h (sees_byte c ts);
  adds = λ d l ts. same_count d l ts (sees_byte c ts);
}
  where
    go : (l : Notes) (ts : List Token) → Spare n l ts → (y : Bool) → OutNear n (after (cond y (skip >> give true) (give false) l ts) f)
    go l ts h true =
        (k true).run l (rest ts)
        (record { left = h.left; near = rest-near n ts h.near; few = omega (arith, h.few, rest_fewer ts) })
    go l ts h false = (k false).run l ts h

    same_count : (d : ℕ) (l : Notes) (ts : List Token) (y : Bool)
        → after (cond y (skip >> give true) (give false) (plus d l) ts) f
        ≡ plus_out d (after (cond y (skip >> give true) (give false) l ts) f)
    same_count d l ts true = (k true).adds d l (rest ts)
    same_count d l ts false = (k false).adds d l ts

-- behind a number the tokens are one fewer
module _ {A : Type 0} (n : ℕ) (r : Refusal) (f : Bool × Written → Rule A) (k : (w : Bool × Written) → Spends n (f w)) where
  plus_near : (l : Notes) (ts : List Token) → State n l ts
      → OutNear n (after (taken r (plain (kind ts)) l ts) f)
  plus_near l [] h = place-near n [] h.near
  plus_near l (token q (name w) ∷ ts) h = place-near n (token q (name w) ∷ ts) h.near
  plus_near l (token q (number w) ∷ ts) h =
      (k (false, w)).run l ts
      (record { left = h.left; near = rest-near n (token q (number w) ∷ ts) h.near; few = omega (arith, h.few) })
  plus_near l (token q (quoted m) ∷ ts) h = place-near n (token q (quoted m) ∷ ts) h.near
  plus_near l (token q (mark b) ∷ ts) h = place-near n (token q (mark b) ∷ ts) h.near

  minus_near : (l : Notes) (ts us : List Token) → place ts ≤ n → rest ts ≡ us → State n l us
      → OutNear n (after (taken r (negated (plain (kind us))) l ts) f)
  minus_near l ts [] g e h = g
  minus_near l ts (token q (name w) ∷ us) g e h = g
  minus_near l ts (token q (number w) ∷ us) g e h =
      rw e
      ((k (true, w)).run l us
      (record { left = h.left; near = rest-near n (token q (number w) ∷ us) h.near; few = omega (arith, h.few) }))
  minus_near l ts (token q (quoted m) ∷ us) g e h = g
  minus_near l ts (token q (mark b) ∷ us) g e h = g

  pub a_float : Stays n (signed sees_number r >>= f)
  a_float = record { run = λ l ts h. go l ts h (sees_byte 45 ts); adds = λ c l ts. same_count c l ts (sees_number ts) }
    where
      same_count : (c : ℕ) (l : Notes) (ts : List Token) (x : Signed)
          → after (taken r x (plus c l) ts) f ≡ plus_out c (after (taken r x l ts) f)
      same_count c l ts absent = refl
      same_count c l ts (Signed.plus w) = (k (false, w)).adds c l (rest ts)
      same_count c l ts (minus w) = (k (true, w)).adds c l (rest (rest ts))

      go : (l : Notes) (ts : List Token) → State n l ts → (b : Bool)
          → OutNear n (after (taken r (cond b (negated (plain (kind (rest ts)))) (plain (kind ts))) l ts) f)
      go l ts h true = minus_near l ts (rest ts) (place-near n ts h.near) refl (moved n l ts h)
      go l ts h false = plus_near l ts h

-- ---- groups

first-near : (n : ℕ) (o : Option ℕ) (p : ℕ) → LeftNear n o → p ≤ n → LeftNear n (first_of o p)
first-near n none p h g = g
first-near n (some q) p h g = h

pub leaves : {n : ℕ} (e : ℕ) → Stays n (leave e)
leaves {n = n} e = record { run = λ l ts h. go l ts h (sees_byte e ts); adds = λ c l ts. same_count c l ts (sees_byte e ts) }
  where
    same_count : (c : ℕ) (l : Notes) (ts : List Token) (b : Bool)
        → cond {A = Out Unit} b (got tt (plus c l) (rest ts)) (got tt (noted (plus c l) (place ts)) (behind 0 ts))
        ≡ plus_out c (cond {A = Out Unit} b (got tt l (rest ts)) (got tt (noted l (place ts)) (behind 0 ts)))
    same_count c l ts true = refl
    same_count c l ts false = refl

    go : (l : Notes) (ts : List Token) → State n l ts → (b : Bool)
        → OutNear n (cond {A = Out Unit} b (got tt l (rest ts)) (got tt (noted l (place ts)) (behind 0 ts)))
    go l ts h true = moved n l ts h
    go l ts h false = record {
      left = first-near n l.leftover (place ts) h.left (place-near n ts h.near);
      near = behind-near n 0 ts h.near;
      few = omega (arith, h.few, behind_fewer 0 ts);
    }

pub in_group : {A : Type 0} {n : ℕ} {p : Rule A} (b : ℕ) → Stays n p → Stays n (inside_byte b p)
in_group {p = p} b x =
    and {f = p >>= λ a. leave (closer b) >> give a} (the-mark b) (then x (λ a. and {f = give a} (leaves (closer b)) gives))

-- ---- repetition

on : {A : Type 0} (n : ℕ) (again : A → Rule A) → ((b : A) → Stays n (again b)) → (x : Next A) → Stays n (following again x)
on n again k (more b) = k b
on n again k (done b) = gives

pub steps_stay : {A : Type 0} (n : ℕ) (step : A → Rule (Next A)) → ((a : A) → Stays n (step a))
    → (k : ℕ) (a : A) → Stays n (iterate step k a)
unfolding iterate
steps_stay n step h zero a = record { run = λ l ts g. g; adds = λ c l ts. refl }
steps_stay n step h (suc k) a = record {
  run = λ l ts g. goes_on n (following (λ b. iterate step k b)) (on n (λ b. iterate step k b) (λ b. steps_stay n step h k b)) (step a l ts)
      ((h a).run l ts g);
  adds = then_adds (step a) (following (λ b. iterate step k b)) (h a).adds
      (λ x. (on n (λ b. iterate step k b) (λ b. steps_stay n step h k b) x).adds);
}

pub repeats : {A : Type 0} {n : ℕ} (step : A → Rule (Next A)) → ((a : A) → Stays n (step a)) → (a : A) → Stays n (repeat step a)
repeats {n = n} step h a = record {
  run = λ l ts g. (steps_stay n step h l.bound a).run l ts g;
  adds = λ c l ts. (steps_stay n step h l.bound a).adds c l ts;
}

-- ---- each rule of the grammar

equal : {A : Type 0} {n : ℕ} {p q : Rule A} → Stays n p → ((l : Notes) (ts : List Token) → p l ts ≡ q l ts) → Stays n q
equal {n = n} x e = record {
  run = λ l ts h. subst (λ (o : Out _). OutNear n o) (e l ts) (x.run l ts h);
  adds = λ c l ts. sym (e (plus c l) ts) ∙ x.adds c l ts ∙ ap (plus_out c) (e l ts);
}

by_item_lem : {n : ℕ} (t : Table) (fs : Fields) → Stays n (one_field t fs) → (i : item.Item) → Stays n (by_item i t fs)
by_item_lem t fs x item.halts = gives
by_item_lem t fs x item.closes = and {f = give (done fs)} skips gives
by_item_lem t fs x item.passes = and {f = give (more fs)} skips gives
by_item_lem t fs x item.starts = x

fields : {n : ℕ} (t : Table) (fs : Fields) → Stays n (one_field t fs) → Stays n (fields_step t fs)
unfolding fields_step
fields t fs x = record {
  run = λ l ts h. (by_item_lem t fs x (item_of (kind ts))).run l ts h;
  adds = λ c l ts. (by_item_lem t fs x (item_of (kind ts))).adds c l ts;
}

module _ (n : ℕ) where
  abbrev StaysAll : ℕ → (A : Type 0) → Rule A → Type 0
  StaysAll d A p = Stays n p

  abbrev SpendsAll : ℕ → (A : Type 0) → Rule A → Type 0
  SpendsAll d A p = Spends n p

  staying : Closed StaysAll SpendsAll
  staying = record {
    equal = λ x e. equal x e;
    gives = gives;
    refuses = refuses;
    then = λ x k. then x k;
    tests = λ test x y. tests test x y;
    marks = λ {p = p} b e x y. tests (sees_byte b) (and {f = p} skips x) y;
    known = λ {p = p} v x y. tests (sees_bytes v) (and {f = p} skips x) y;
    the-mark = λ b e. the-mark b;
    two-marks = λ b d e f. two-marks b d;
    a_word = a_word_lem;
    a_text = a_text;
    a_whole = λ r. a_number_lem sees_whole r;
    a_float = λ r k. a_float n r _ k;
    tallies = λ b x. tallies b x;
    refuses_too = refuses_too;
    eats_too = λ b c e k. eats_too b c k;
    fields = λ t fs x. fields t fs x;
    in_group = λ b e x. in_group b x;
    repeats = λ step h a. repeats step h a;
  }

  pub nodes_stay : (d : ℕ) (ns : Nodes Key) → Stays n (nodes_step (block d) ns)
  nodes_stay d ns = nodes-each StaysAll SpendsAll staying {n = d} (block d) (block-each StaysAll SpendsAll staying d) ns

  pub input_stays : Stays n animato_input
  input_stays = input_each StaysAll SpendsAll staying
