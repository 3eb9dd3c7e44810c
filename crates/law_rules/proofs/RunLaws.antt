-- Rules at a place of a text: what holds of the value that one gives, and of the place it comes to.
use Prim.Native.Nat.{ℕ, zero, suc, ◌≤◌}
use mathlib.Core.Bool.{Bool, true, false, cond}
use mathlib.Core.List.{List}
use mathlib.Core.Option.{Option, none, some}
use mathlib.Core.Path.{◌≡◌, refl, sym, subst}
use lib.ListN.{length}
use Rattle.law_rules.specs.Bare.{bare}
use Rattle.token.specs.Token.{Token, tokens_from}
use Rattle.error.specs.declared.Refusal.{Refusal}
use Rattle.grammar.specs.Rule.{Notes, Out, got, refused, Rule, after, give, need, refuse, tally, counted}
use Rattle.grammar.specs.Rule.{if, ◌>>=◌, ◌>>◌, Next, more, done, iterate, repeat}
use Rattle.grammar.specs.Rule.{next as following}

-- the tokens ts are those at a place of the text s, of which Q holds
pub record Ends (s : List ℕ) (ts : List Token) (Q : ℕ → Type 0) : Type 0 where
  pub at : ℕ
  pub is : ts ≡ tokens_from s at
  pub high : at ≤ length s
  pub post : Q at

abbrev pub Outcome : {A : Type 0} → List ℕ → Out A → (A → ℕ → Type 0) → Type 0
Outcome s (got a l ts) Q = Ends s ts (Q a)
Outcome s (refused r p) Q = Unit {0}

-- the tokens that a rule leaves have no exponent, if those before it have none (b)
abbrev pub Keeps : {A : Type 0} → Out A → Bool → Type 0
Keeps (got a l ts) b = b ≡ true → bare ts ≡ true
Keeps (refused r p) b = Unit {0}

keeps_from : {A : Type 0} (o : Out A) (b c : Bool) → Keeps o c → (b ≡ true → c ≡ true) → Keeps o b
keeps_from (got a l ts) b c h k = λ e. h (k e)
keeps_from (refused r p) b c h k = tt

-- wherever the rule p gives a value at q, Q holds of the value and of the place that p comes to
pub record Runs {A : Type 0} (s : List ℕ) (p : Rule A) (q : ℕ) (Q : A → ℕ → Type 0) : Type 0 where
  pub run : (l : Notes) → Outcome s (p l (tokens_from s q)) Q
  pub keeps : (l : Notes) → Keeps (p l (tokens_from s q)) (bare (tokens_from s q))

-- ---- one after the other

pub gives : {A : Type 0} {s : List ℕ} {Q : A → ℕ → Type 0} {a : A} {q : ℕ} → q ≤ length s → Q a q → Runs s (give a) q Q
gives {q = q} h p = record { run = λ l. record { at = q; is = refl; high = h; post = p }; keeps = λ l e. e }

pub refuses : {A : Type 0} {s : List ℕ} {Q : A → ℕ → Type 0} {r : Refusal} {q : ℕ} → Runs s (refuse r) q Q
refuses = record { run = λ l. tt; keeps = λ l. tt }

-- f goes on from whatever p gives
module _ {A B : Type 0} (s : List ℕ) (f : A → Rule B) (R : A → ℕ → Type 0) (Q : B → ℕ → Type 0)
    (k : (a : A) (m : ℕ) → m ≤ length s → R a m → Runs s (f a) m Q) where
  goes_on : (o : Out A) → Outcome s o R → Outcome s (after o f) Q
  goes_on (got a l ts) e = subst (λ (us : List Token). Outcome s (f a l us) Q) (sym e.is) ((k a e.at e.high e.post).run l)
  goes_on (refused r p) e = tt

  keeps_on : (o : Out A) → Outcome s o R → (b : Bool) → Keeps o b → Keeps (after o f) b
  keeps_on (got a l ts) e b h =
      keeps_from (f a l ts) b (bare ts)
      (subst (λ (us : List Token). Keeps (f a l us) (bare us)) (sym e.is) ((k a e.at e.high e.post).keeps l)) h
  keeps_on (refused r p) e b h = tt

pub then : {A B : Type 0} {s : List ℕ} {p : Rule A} {f : A → Rule B} {q : ℕ} {R : A → ℕ → Type 0} {Q : B → ℕ → Type 0}
    → Runs s p q R → ((a : A) (m : ℕ) → m ≤ length s → R a m → Runs s (f a) m Q) → Runs s (p >>= f) q Q
then {s = s} {p = p} {f = f} {q = q} {R = R} {Q = Q} x k = record {
  run = λ l. goes_on s f R Q k (p l (tokens_from s q)) (x.run l);
  keeps = λ l. keeps_on s f R Q k (p l (tokens_from s q)) (x.run l) (bare (tokens_from s q)) (x.keeps l);
}

pub and : {A B : Type 0} {s : List ℕ} {p : Rule A} {f : Rule B} {q : ℕ} {R : A → ℕ → Type 0} {Q : B → ℕ → Type 0}
    → Runs s p q R → ((m : ℕ) → m ≤ length s → (a : A) → R a m → Runs s f m Q) → Runs s (p >> f) q Q
and {s = s} {p = p} {f = f} {q = q} {R = R} {Q = Q} x k = record {
  run = λ l. goes_on s (λ a. f) R Q (λ a m h r. k m h a r) (p l (tokens_from s q)) (x.run l);
  keeps = λ l. keeps_on s (λ a. f) R Q (λ a m h r. k m h a r) (p l (tokens_from s q)) (x.run l) (bare (tokens_from s q)) (x.keeps l);
}

-- from q to m: where no number behind q has an exponent, none behind m has
abbrev pub Carry : List ℕ → ℕ → ℕ → Type 0
Carry s q m = bare (tokens_from s q) ≡ true → bare (tokens_from s m) ≡ true

carry_outcome : {A : Type 0} (s : List ℕ) (q : ℕ) (Q : A → ℕ → Type 0) (o : Out A) → Outcome s o Q → Keeps o (bare (tokens_from s q))
    → Outcome s o (λ a m. Q a m × Carry s q m)
carry_outcome s q Q (got a l ts) x h = record {
  at = x.at;
  is = x.is;
  high = x.high;
  post = (x.post, λ e. subst (λ (us : List Token). bare us ≡ true) x.is (h e));
}
carry_outcome s q Q (refused r p) x h = tt

pub carries : {A : Type 0} {s : List ℕ} {p : Rule A} {q : ℕ} {Q : A → ℕ → Type 0} → Runs s p q Q → Runs s p q (λ a m. Q a m × Carry s q m)
carries {s = s} {p = p} {q = q} {Q = Q} x = record {
  run = λ l. carry_outcome s q Q (p l (tokens_from s q)) (x.run l) (x.keeps l);
  keeps = x.keeps;
}

-- a number may be counted on the way
pub tallies : {A : Type 0} {s : List ℕ} {p : Rule A} {q : ℕ} {Q : A → ℕ → Type 0} (b : Bool) → Runs s p q Q → Runs s (counted b >> p) q Q
tallies b x = record { run = λ l. x.run (tally b l); keeps = λ l. x.keeps (tally b l) }

weaker : {A : Type 0} (s : List ℕ) (R Q : A → ℕ → Type 0) → ((a : A) (m : ℕ) → m ≤ length s → R a m → Q a m)
    → (o : Out A) → Outcome s o R → Outcome s o Q
weaker s R Q k (got a l ts) e = record { at = e.at; is = e.is; high = e.high; post = k a e.at e.high e.post }
weaker s R Q k (refused r p) e = tt

pub weaken_in : {A : Type 0} {s : List ℕ} {p : Rule A} {q : ℕ} {R Q : A → ℕ → Type 0}
    → Runs s p q R → ((a : A) (m : ℕ) → m ≤ length s → R a m → Q a m)
    → Runs s p q Q
weaken_in {s = s} {p = p} {q = q} {R = R} {Q = Q} x k = record {
  run = λ l. weaker s R Q k (p l (tokens_from s q)) (x.run l);
  keeps = x.keeps;
}

pub weaken : {A : Type 0} {s : List ℕ} {p : Rule A} {q : ℕ} {R Q : A → ℕ → Type 0}
    → Runs s p q R → ((a : A) (m : ℕ) → R a m → Q a m) → Runs s p q Q
weaken x k = weaken_in x (λ a m h r. k a m r)

-- ---- tests

by_test : {A : Type 0} (s : List ℕ) (Q : A → ℕ → Type 0) (l : Notes) (ts : List Token) (p r : Rule A) (b : Bool)
    → (b ≡ true → Outcome s (p l ts) Q) → (b ≡ false → Outcome s (r l ts) Q)
    → Outcome s (cond b p r l ts) Q
by_test s Q l ts p r true x y = x refl
by_test s Q l ts p r false x y = y refl

keeps_test : {A : Type 0} (l : Notes) (ts : List Token) (p r : Rule A) (b c : Bool)
    → (b ≡ true → Keeps (p l ts) c) → (b ≡ false → Keeps (r l ts) c)
    → Keeps (cond b p r l ts) c
keeps_test l ts p r true c x y = x refl
keeps_test l ts p r false c x y = y refl

pub tests : {A : Type 0} {s : List ℕ} {q : ℕ} {Q : A → ℕ → Type 0} (test : List Token → Bool) {p r : Rule A}
    → (test (tokens_from s q) ≡ true → Runs s p q Q) → (test (tokens_from s q) ≡ false → Runs s r q Q) → Runs s (if test p r) q Q
tests {s = s} {q = q} {Q = Q} test {p = p} {r = r} x y = record {
  run = λ l. by_test s Q l (tokens_from s q) p r (test (tokens_from s q)) (λ e. (x e).run l) (λ e. (y e).run l);
  keeps = λ l. keeps_test l (tokens_from s q) p r (test (tokens_from s q)) (bare (tokens_from s q)) (λ e. (x e).keeps l) (λ e. (y e).keeps l);
}

pub conds : {A : Type 0} {s : List ℕ} {q : ℕ} {Q : A → ℕ → Type 0} (b : Bool) {p r : Rule A}
    → (b ≡ true → Runs s p q Q) → (b ≡ false → Runs s r q Q)
    → Runs s (cond b p r) q Q
conds true x y = x refl
conds false x y = y refl

-- what is needed is there
pub needs : {A : Type 0} {s : List ℕ} {q : ℕ} (r : Refusal) (o : Option A)
    → q ≤ length s
    → Runs s (need r o) q (λ a m. (m ≡ q) × (o ≡ some a))
needs r none h = refuses
needs r (some a) h = gives h (refl, refl)

-- ---- repetition: I holds of what there is before each step, J of what the last gives

abbrev pub Onto : {A : Type 0} → (A → ℕ → Type 0) → (A → ℕ → Type 0) → Next A → ℕ → Type 0
Onto I J (more a) m = I a m
Onto I J (done a) m = J a m

module _ {A : Type 0} {s : List ℕ} (I J : A → ℕ → Type 0) (end : (a : A) (m : ℕ) → I a m → J a m) where
  on : (again : A → Rule A)
      → ((b : A) (m : ℕ) → m ≤ length s → I b m → Runs s (again b) m J)
      → (n : Next A) (m : ℕ) → m ≤ length s → Onto I J n m
      → Runs s (following again n) m J
  on again k (more b) m g j = k b m g j
  on again k (done b) m g j = gives g j

  steps_run : (step : A → Rule (Next A)) → ((a : A) (m : ℕ) → m ≤ length s → I a m → Runs s (step a) m (Onto I J))
      → (k : ℕ) (a : A) (q : ℕ) → q ≤ length s → I a q → Runs s (iterate step k a) q J
  unfolding iterate
  steps_run step h zero a q g i = record { run = λ l. record { at = q; is = refl; high = g; post = end a q i }; keeps = λ l e. e }
  steps_run step h (suc k) a q g i = record {
    run = λ l. goes_on s (following (λ b. iterate step k b)) (Onto I J) J
        (on (λ b. iterate step k b) (λ b m g j. steps_run step h k b m g j)) (step a l (tokens_from s q)) ((h a q g i).run l);
    keeps = λ l. keeps_on s (following (λ b. iterate step k b)) (Onto I J) J
        (on (λ b. iterate step k b) (λ b m g j. steps_run step h k b m g j)) (step a l (tokens_from s q)) ((h a q g i).run l)
        (bare (tokens_from s q)) ((h a q g i).keeps l);
  }

  pub repeats : (step : A → Rule (Next A)) → ((a : A) (m : ℕ) → m ≤ length s → I a m → Runs s (step a) m (Onto I J))
      → {a : A} {q : ℕ} → q ≤ length s → I a q → Runs s (repeat step a) q J
  repeats step h {a = a} {q = q} g i = record {
    run = λ l. (steps_run step h l.bound a q g i).run l;
    keeps = λ l. (steps_run step h l.bound a q g i).keeps l;
  }
