-- Rules at two lists of tokens that agree: the steps of the grammar.
use Prim.Native.Nat.{ℕ, zero, suc, ◌+◌, ◌-◌, ◌≤◌, ◌<◌}
use Prim.Native.String.{String}
use mathlib.Core.Bool.{Bool, true, false, ◌||◌, cond}
use mathlib.Core.List.{List, [], ◌∷◌}
use mathlib.Core.Logic.{◌⊎◌, inl, inr}
use mathlib.Core.Option.{Option, none, some}
use mathlib.Core.Path.{◌≡◌, refl, sym, ap, ◌∙◌, subst}
use native.Mathlib.Omega.{arith}
use lib.Dec.{eqb}
use lib.ListN.{length}
use borrow.Author.Tests.{eqb-true}
use Rattle.text.specs.Bytes.{bytes, part, one_of, same}
use Rattle.text.specs.Words.{under, default, find}
use Rattle.codec.proofs.Laws.{All}
use Rattle.token.specs.Token.{Kind, name, number, quoted, mark, Token, token, place, kind, is_mark, rest}
use Rattle.token.specs.Split.{closer}
use Rattle.token.specs.Names.{is_keyword, unless, name_of, quote_of}
use Rattle.error.specs.declared.Refusal.{Refusal}
use Rattle.grammar.specs.Rule.{Notes, Out, got, refused, Rule, after, give, need, refuse, if, ◌>>=◌, ◌>>◌, ends, skip}
use Rattle.grammar.specs.Rule.{sees_byte, sees_pair, the_byte, both_bytes, eat_byte, found, word}
use Rattle.grammar.specs.Rule.{text, choice_in, Signed, counted}
use Rattle.grammar.specs.Rule.{absent, plus, minus, taken, signed}
use Rattle.grammar.specs.Rule.{behind, noted, leave, inside_byte, Next, more, done, iterate, repeat, list_step, list, go_on}
use Rattle.grammar.specs.Rule.{next as following}
use Rattle.law_renamed.proofs.StreamLaws.{never, Fine, Named, fine_some, Gone, stay, past, gone_on, behind_gone}
use Rattle.law_renamed.proofs.StreamLaws.{Scripts, Pair, first_across, Kin, equals, names, strings, kin, byte_agrees, ends_agrees}
use Rattle.law_renamed.proofs.StreamLaws.{rest-pair, same_length, behind-pair}

-- ---- what one rule does

-- p has come from ts to us and gives a, of which, and of how many tokens were taken, P holds; the places E a lie between the two
pub record Moved {A : Type 0} (x : Scripts) (P : A → ℕ → Type 0) (E : A → List ℕ) (l : Notes) (ts : List Token) (a : A) (m : Notes)
    (us : List Token) : Type 0 where
  pub bound : m.bound ≡ l.bound
  pub gone : Gone x.text ts us
  pub post : P a gone.taken
  pub held : (y : ℕ) → one_of (E a) y ≡ true → (place ts ≤ y) × (y < place us)

abbrev pub Moves : {A : Type 0} → Scripts → (A → ℕ → Type 0) → (A → List ℕ) → Notes → List Token → Out A → Type 0
Moves x P E l ts (got a m us) = Moved x P E l ts a m us
Moves x P E l ts (refused r p) = Unit {0}

-- ---- what it does at both lists

-- the free places between ts and us are among E
abbrev pub Only : Scripts → List ℕ → List Token → List Token → Type 0
Only x e ts us = (y : ℕ) → one_of x.free y ≡ true → place ts ≤ y → y < place us → one_of e y ≡ true

pub record Twin {A : Type 0} (x : Scripts) (R : A → A → Type 0) (l : Notes) (a b : A) (m : Notes) (ts us : List Token) : Type 0 where
  pub related : R a b
  pub pair : Pair x ts us
  pub bound : m.bound ≡ l.bound

-- where both give a value and no other place is free than those that the first value holds, the values are related
abbrev pub Twins : {A : Type 0} → Scripts → (A → List ℕ) → (A → A → Type 0) → List Token → Notes → Out A → Out A → Type 0
Twins x E R ts l (got a m us) (got b n vs) = Only x (E a) ts us → Twin x R l a b n us vs
Twins x E R ts l (got a m us) (refused r p) = Unit {0}
Twins x E R ts l (refused r p) o = Unit {0}

-- p at the first list and q at the second, H being what relates the values that were read before. What `moves` says of p it says without H:
-- which places are free is known of the whole tree alone, so how far a rule goes must be known before its values are related.
pub record Alike {A : Type 0} (x : Scripts) (H : Type 0) (p q : Rule A) (P : A → ℕ → Type 0) (E : A → List ℕ)
    (R : A → A → Type 0) : Type 0 where
  pub moves : (l : Notes) (ts : List Token) → Fine x.text ts → Moves x P E l ts (p l ts)
  pub twins : H → (l m : Notes) (ts us : List Token) → Pair x ts us → length ts ≤ l.bound → length us ≤ m.bound
      → Twins x E R ts m (p l ts) (q m us)

-- a value that holds no free places
abbrev pub none_free : {A : Type 0} → A → List ℕ
none_free a = []

abbrev pub Any : {A : Type 0} → A → ℕ → Type 0
Any a j = Unit {0}

abbrev pub Alikes : {A : Type 0} → Scripts → Type 0 → Rule A → Rule A → (A → A → Type 0) → Type 0
Alikes x H p q R = Alike x H p q Any none_free R

-- ---- one after the other

-- the places e are among d and c
abbrev pub Parts : List ℕ → List ℕ → List ℕ → Type 0
Parts d c e = (y : ℕ) → one_of e y ≡ true → (one_of d y ≡ true) ⊎ (one_of c y ≡ true)

pub no_place : {A : Type 0} (y : ℕ) → one_of [] y ≡ true → A
unfolding one_of
no_place y e = never e

no_twin : {A : Type 0} (x : Scripts) (E : A → List ℕ) (R : A → A → Type 0) (ts : List Token) (l : Notes) (o : Out A) (r : Refusal) (p : ℕ)
    → Twins x E R ts l o (refused r p)
no_twin x E R ts l (got a m us) r p = tt
no_twin x E R ts l (refused s q) r p = tt

module _ {A B : Type 0} (x : Scripts) (P : A → ℕ → Type 0) (D : A → List ℕ) (R : A → A → Type 0)
    (P' : A → ℕ → B → ℕ → Type 0) (E' : B → List ℕ) (Q : B → ℕ → Type 0) (E : B → List ℕ) (S : B → B → Type 0)
    (posts : (a : A) (j : ℕ) (c : B) (k : ℕ) → P a j → P' a j c k → Q c (j + k))
    (parts : (a : A) (j : ℕ) (c : B) (k : ℕ) → P a j → P' a j c k → Parts (D a) (E' c) (E c)) where
  on_moves : (l : Notes) (ts : List Token) (a : A) (m : Notes) (us : List Token) (v : Moved x P D l ts a m us) (o : Out B)
      → Moves x (P' a v.gone.taken) E' m us o → Moves x Q E l ts o
  on_moves l ts a m us v (got c n vs) w = record {
    bound = w.bound ∙ v.bound;
    gone = gone_on v.gone w.gone;
    post = posts a v.gone.taken c w.gone.taken v.post w.post;
    held = λ y e. by y (parts a v.gone.taken c w.gone.taken v.post w.post y e);
  }
    where
      by : (y : ℕ) → (one_of (D a) y ≡ true) ⊎ (one_of (E' c) y ≡ true) → (place ts ≤ y) × (y < place vs)
      by y (inl e) = let h = v.held y e in (h.0, omega (arith, h.1, w.gone.low))
      by y (inr e) = let h = w.held y e in (omega (arith, h.0, v.gone.low), h.1)
  on_moves l ts a m us v (refused r p) w = tt

  -- f goes on from whatever o gives
  pub after_moves : (l : Notes) (ts : List Token) (f : A → Rule B) (o : Out A) → Moves x P D l ts o
      → ((a : A) (m : Notes) (us : List Token) (v : Moved x P D l ts a m us) → Moves x (P' a v.gone.taken) E' m us (f a m us))
      → Moves x Q E l ts (after o f)
  after_moves l ts f (got a m us) v k = on_moves l ts a m us v (f a m us) (k a m us v)
  after_moves l ts f (refused r p) v k = tt

  on_twins : (l n : Notes) (ts : List Token) (a b : A) (m o : Notes) (us vs : List Token) (v : Moved x P D l ts a m us)
      → (Only x (D a) ts us → Twin x R n a b o us vs)
      → (y z : Out B) → Moves x (P' a v.gone.taken) E' m us y
      → (Twin x R n a b o us vs → Twins x E' S us o y z)
      → Twins x E S ts n y z
  on_twins l n ts a b m o us vs v t (got c m' us') (got d o' vs') w k =
      λ only.
      let split = parts a v.gone.taken c w.gone.taken v.post w.post in
      let first : Twin x R n a b o us vs = t (λ y e lo hi. left y hi (split y (only y e lo (omega (arith, w.gone.low))))) in
      let second : Twin x S o c d o' us' vs' =
      k first (λ y e lo hi. right y lo (split y (only y e (omega (arith, v.gone.low)) hi))) in
      record { related = second.related; pair = second.pair; bound = second.bound ∙ first.bound }
    where
      left : (y : ℕ) → y < place us → (one_of (D a) y ≡ true) ⊎ (one_of (E' c) y ≡ true) → one_of (D a) y ≡ true
      left y hi (inl e) = e
      left y hi (inr e) = absurd (omega (arith, (w.held y e).0))

      right : (y : ℕ) → place us ≤ y → (one_of (D a) y ≡ true) ⊎ (one_of (E' c) y ≡ true) → one_of (E' c) y ≡ true
      right y lo (inl e) = absurd (omega (arith, (v.held y e).1))
      right y lo (inr e) = e
  on_twins l n ts a b m o us vs v t (got c m' us') (refused r p) w k = tt
  on_twins l n ts a b m o us vs v t (refused r p) z w k = tt

  pub after_twins : (l n : Notes) (ts : List Token) (f g : A → Rule B) (o o' : Out A) → Moves x P D l ts o → Twins x D R ts n o o'
      → ((a : A) (m : Notes) (us : List Token) (v : Moved x P D l ts a m us) → Moves x (P' a v.gone.taken) E' m us (f a m us))
      → ((a b : A) (m m' : Notes) (us vs : List Token) (v : Moved x P D l ts a m us) → Twin x R n a b m' us vs
      → Twins x E' S us m' (f a m us) (g b m' vs))
      → Twins x E S ts n (after o f) (after o' g)
  after_twins l n ts f g (got a m us) (got b m' vs) v t k h =
      on_twins l n ts a b m m' us vs v t (f a m us) (g b m' vs) (k a m us v) (λ w. h a b m m' us vs v w)
  after_twins l n ts f g (got a m us) (refused r p) v t k h = no_twin x E S ts n (f a m us) r p
  after_twins l n ts f g (refused r p) o' v t k h = tt

  pub joins : {H : Type 0} {p q : Rule A} {f g : A → Rule B} → Alike x H p q P D R
      → ((a b : A) (j : ℕ) → P a j → Alike x (H × R a b) (f a) (g b) (P' a j) E' S)
      → Alike x H (p >>= f) (q >>= g) Q E S
  joins {p = p} {q = q} {f = f} {g = g} y k = record {
    moves = λ l ts h. after_moves l ts f (p l ts) (y.moves l ts h)
        (λ a m us v. (k a a v.gone.taken v.post).moves m us v.gone.fine);
    twins = λ i l n ts us h b c. after_twins l n ts f g (p l ts) (q n us) (y.moves l ts h.fine) (y.twins i l n ts us h b c)
        (λ a m us v. (k a a v.gone.taken v.post).moves m us v.gone.fine)
        (λ a d m m' ts' us' v w. (k a d v.gone.taken v.post).twins (i, w.related) m m' ts' us' w.pair
        (omega (arith, v.gone.count, v.bound))
        (omega (arith, v.gone.count, w.bound, same_length h, same_length w.pair)));
  }

-- ---- rules that hold no free places

module _ {A B : Type 0} {x : Scripts} {H : Type 0} {P : A → ℕ → Type 0} {S : B → B → Type 0} where
  -- with what holds of the first value and of how many tokens were taken
  pub then_on : {p q : Rule A} {f g : A → Rule B} {Q : B → ℕ → Type 0} {R : A → A → Type 0} → Alike x H p q P none_free R
      → ((a b : A) (j : ℕ) → P a j → Alike x (H × R a b) (f a) (g b) (λ c k. Q c (j + k)) none_free S)
      → Alike x H (p >>= f) (q >>= g) Q none_free S
  then_on {Q = Q} {R = R} y k =
      joins x P none_free R (λ a j c k. Q c (j + k)) none_free Q none_free S (λ a j c k p q. q) (λ a j c k p q y e. no_place y e) y k

  pub then : {p q : Rule A} {f g : A → Rule B} {Q : B → Type 0} {R : A → A → Type 0} → Alike x H p q P none_free R
      → ((a b : A) → Alike x (H × R a b) (f a) (g b) (λ c k. Q c) none_free S)
      → Alike x H (p >>= f) (q >>= g) (λ c k. Q c) none_free S
  then {Q = Q} {R = R} y k =
      joins x P none_free R (λ a j c k. Q c) none_free (λ c k. Q c) none_free S (λ a j c k p q. q) (λ a j c k p q y e. no_place y e) y
      (λ a b j p. k a b)

pub within : {A : Type 0} {x : Scripts} {H K : Type 0} {p q : Rule A} {P : A → ℕ → Type 0} {E : A → List ℕ} {R : A → A → Type 0}
    → (K → H) → Alike x H p q P E R → Alike x K p q P E R
within f y = record { moves = y.moves; twins = λ k l m ts us h b c. y.twins (f k) l m ts us h b c }

pub weaken : {A : Type 0} {x : Scripts} {H : Type 0} {p q : Rule A} {P Q : A → ℕ → Type 0} {E : A → List ℕ} {R : A → A → Type 0}
    → ((a : A) (j : ℕ) → P a j → Q a j) → Alike x H p q P E R → Alike x H p q Q E R
weaken {x = x} {p = p} {P = P} {Q = Q} {E = E} f y =
    record { moves = λ l ts h. go l ts (p l ts) (y.moves l ts h); twins = y.twins }
  where
    go : (l : Notes) (ts : List Token) (o : Out _) → Moves x P E l ts o → Moves x Q E l ts o
    go l ts (got a m us) v = record { bound = v.bound; gone = v.gone; post = f a v.gone.taken v.post; held = v.held }
    go l ts (refused r p) v = tt

-- ---- rules that hold free places, and what stands before or behind them

module _ {A B : Type 0} {x : Scripts} {H : Type 0} {P : A → ℕ → Type 0} {R : A → A → Type 0} {S : B → B → Type 0} {p q : Rule A} where
  -- the places D of the first value are those of the last
  pub then-plain : (D : A → List ℕ) (E : B → List ℕ) {f g : A → Rule B} → Alike x H p q P D R
      → ((a b : A) → Alike x (H × R a b) (f a) (g b) (λ c k. E c ≡ D a) none_free S)
      → Alike x H (p >>= f) (q >>= g) Any E S
  then-plain D E y k =
      joins x P D R (λ a j c k. E c ≡ D a) none_free Any E S (λ a j c k h g. tt)
      (λ a j c k h g y e. inl (subst (λ (e : List ℕ). one_of e y ≡ true) g e)) y (λ a b j h. k a b)

  -- the first holds none
  pub then-free : (E : B → List ℕ) {f g : A → Rule B} {Q : B → ℕ → Type 0} → Alike x H p q P none_free R
      → ((a b : A) (j : ℕ) → P a j → Alike x (H × R a b) (f a) (g b) (λ c k. Q c (j + k)) E S)
      → Alike x H (p >>= f) (q >>= g) Q E S
  then-free E {Q = Q} y k =
      joins x P none_free R (λ a j c k. Q c (j + k)) E Q E S (λ a j c k h g. g) (λ a j c k h g y e. inr e) y k

-- ---- rules over equal values

pub by_equal : {A B : Type 0} {x : Scripts} {H : Type 0} {P : B → ℕ → Type 0} {E : B → List ℕ} {R : B → B → Type 0} (f g : A → Rule B)
    (a b : A) → (H → a ≡ b)
    → Alike x H (f a) (g a) P E R → Alike x H (f a) (g b) P E R
by_equal {x = x} {E = E} {R = R} f g a b e y = record {
  moves = y.moves;
  twins = λ h l m ts us i c d. subst (λ b. Twins x E R ts m (f a l ts) (g b m us)) (e h) (y.twins h l m ts us i c d);
}

module _ {A B : Type 0} {x : Scripts} {H : Type 0} {P : A → ℕ → Type 0} {S : B → B → Type 0} where
  pub same_on : {p q : Rule A} {f g : A → Rule B} {Q : B → ℕ → Type 0} → Alike x H p q P none_free ◌≡◌
      → ((a : A) (j : ℕ) → P a j → Alike x H (f a) (g a) (λ c k. Q c (j + k)) none_free S)
      → Alike x H (p >>= f) (q >>= g) Q none_free S
  same_on {f = f} {g = g} y k = then_on y (λ a b j p. by_equal f g a b (λ h. h.1) (within (λ h. h.0) (k a j p)))

  pub same_then : {p q : Rule A} {f g : A → Rule B} {Q : B → Type 0} → Alike x H p q P none_free ◌≡◌
      → ((a : A) → Alike x H (f a) (g a) (λ c k. Q c) none_free S)
      → Alike x H (p >>= f) (q >>= g) (λ c k. Q c) none_free S
  same_then {f = f} {g = g} y k = then y (λ a b. by_equal f g a b (λ h. h.1) (within (λ h. h.0) (k a)))

  pub and_on : {p q : Rule A} {f g : Rule B} {Q : B → ℕ → Type 0} {R : A → A → Type 0} → Alike x H p q P none_free R
      → ((a : A) (j : ℕ) → P a j → Alike x H f g (λ c k. Q c (j + k)) none_free S)
      → Alike x H (p >> f) (q >> g) Q none_free S
  and_on y k = then_on y (λ a b j p. within (λ h. h.0) (k a j p))

  pub and : {p q : Rule A} {f g : Rule B} {Q : B → Type 0} {R : A → A → Type 0} → Alike x H p q P none_free R
      → Alike x H f g (λ c k. Q c) none_free S
      → Alike x H (p >> f) (q >> g) (λ c k. Q c) none_free S
  and y k = then y (λ a b. within (λ h. h.0) k)

module _ {A : Type 0} {x : Scripts} {H : Type 0} where
  pub gives : {a b : A} {P : A → ℕ → Type 0} {R : A → A → Type 0} → P a 0 → (H → R a b) → Alike x H (give a) (give b) P none_free R
  gives p r = record {
    moves = λ l ts h. record { bound = refl; gone = stay h; post = p; held = λ y e. no_place y e };
    twins = λ h l m ts us i c d only. record { related = r h; pair = i; bound = refl };
  }

  module _ {P : A → ℕ → Type 0} {E : A → List ℕ} {R : A → A → Type 0} where
    pub refuses : {r s : Refusal} → Alike x H (refuse r) (refuse s) P E R
    refuses = record { moves = λ l ts h. tt; twins = λ h l m ts us i c d. tt }

    pub conds : (b c : Bool) {p q p' q' : Rule A} → (H → b ≡ c) → Alike x H p q P E R → Alike x H p' q' P E R
        → Alike x H (cond b p p') (cond c q q') P E R
    conds b c {p = p} {q = q} {p' = p'} {q' = q'} e y z =
        by_equal (λ (b : Bool). cond b p p') (λ (b : Bool). cond b q q') b c e (go b)
      where
        go : (b : Bool) → Alike x H (cond b p p') (cond b q q') P E R
        go true = y
        go false = z

    -- rules by a test on which both agree
    pub tests : (test test' : List Token → Bool) {p q p' q' : Rule A}
        → (H → (ts us : List Token) → Pair x ts us → test ts ≡ test' us)
        → Alike x H p q P E R → Alike x H p' q' P E R
        → Alike x H (if test p p') (if test' q q') P E R
    tests test test' {p = p} {q = q} {p' = p'} {q' = q'} e y z = record {
      moves = λ l ts h. (conds (test ts) (test ts) (λ k. refl) y z).moves l ts h;
      twins = λ h l m ts us i c d. (conds (test ts) (test' us) (λ k. e k ts us i) y z).twins h l m ts us i c d;
    }

  pub needs : (r : Refusal) (o o' : Option A) → (H → o ≡ o') → Alikes x H (need r o) (need r o') ◌≡◌
  needs r o o' e = by_equal (need r) (need r) o o' e (go o)
    where
      go : (o : Option A) → Alikes x H (need r o) (need r o) ◌≡◌
      go none = refuses
      go (some a) = gives tt (λ h. refl)

-- ---- tokens

pub not-zero : (k : Kind) (b : ℕ) → eqb b 0 ≡ false → is_mark k b ≡ true → is_mark k 0 ≡ false
not-zero (name w) b e f = refl
not-zero (number w) b e f = refl
not-zero (quoted w) b e f = refl
not-zero (mark c) b e f = rw (eqb-true c b f) e

module _ {x : Scripts} {H : Type 0} where
  pub skips : Alikes x H skip skip (λ a b. Unit {0})
  skips = record {
    moves = λ l ts h. record { bound = refl; gone = (past x.text ts h).gone; post = tt; held = λ y e. no_place y e };
    twins = λ h l m ts us i c d only. record { related = tt; pair = rest-pair i; bound = refl };
  }

  -- one token that is not the end
  pub skips_on : (test test' : List Token → Bool) → ((ts : List Token) → test ts ≡ true → is_mark (kind ts) 0 ≡ false)
      → (H → (ts us : List Token) → Pair x ts us → test ts ≡ test' us)
      → {A : Type 0} {P : A → ℕ → Type 0} {R : A → A → Type 0} {p q : Rule A} (a b : A) → P a 1 → (H → R a b)
      → Alike x H p q P none_free R
      → Alike x H (if test (skip >> give a) p) (if test' (skip >> give b) q) P none_free R
  skips_on test test' real e {A = A} {P = P} {R = R} {p = p} {q = q} a b u r y = record {
    moves = λ l ts h. go l ts h (test ts) refl;
    twins = λ h l m ts us i c d. subst
        (λ (z : Bool). Twins x none_free R ts m (cond (test ts) (skip >> give a) p l ts) (cond z (skip >> give b) q m us)) (e h ts us i)
        (both h l m ts us i c d (test ts));
  }
    where
      go : (l : Notes) (ts : List Token) → Fine x.text ts → (z : Bool) → test ts ≡ z
          → Moves x P none_free l ts (cond z (skip >> give a) p l ts)
      go l ts h true f =
          let v = past x.text ts h in
          record {
            bound = refl;
            gone = v.gone;
            post = subst (P a) (sym (v.on (real ts f)).1) u;
            held = λ y e. no_place y e;
          }
      go l ts h false f = y.moves l ts h

      both : H → (l m : Notes) (ts us : List Token) → Pair x ts us → length ts ≤ l.bound → length us ≤ m.bound → (z : Bool)
          → Twins x none_free R ts m (cond z (skip >> give a) p l ts) (cond z (skip >> give b) q m us)
      both h l m ts us i c d true = λ only. record { related = r h; pair = rest-pair i; bound = refl }
      both h l m ts us i c d false = y.twins h l m ts us i c d

  pub eats : (b : ℕ) → eqb b 0 ≡ false → Alike x H (eat_byte b) (eat_byte b) (λ c j. c ≡ true → 1 ≤ j) none_free ◌≡◌
  eats b z =
      skips_on
      (sees_byte b)
      (sees_byte b)
      (λ ts f. not-zero (kind ts) b z f)
      (λ h ts us i. byte_agrees i b)
      true true
      (λ e. omega arith)
      (λ h. refl)
      (gives (λ e. never e) (λ h. refl))

  pub the-mark : (b : ℕ) → eqb b 0 ≡ false → Alike x H (the_byte b) (the_byte b) (λ a j. 1 ≤ j) none_free (λ a b. Unit {0})
  the-mark b z =
      skips_on (sees_byte b) (sees_byte b) (λ ts f. not-zero (kind ts) b z f) (λ h ts us i. byte_agrees i b) tt tt (omega arith) (λ h. tt)
      refuses

  pub two-marks : (b d : ℕ) → ((ts us : List Token) → Pair x ts us → sees_pair b d ts ≡ sees_pair b d us)
      → Alikes x H (both_bytes b d) (both_bytes b d) (λ a b. Unit {0})
  two-marks b d e = tests (sees_pair b d) (sees_pair b d) (λ h ts us i. e ts us i) (and {f = skip} {g = skip} skips skips) refuses

-- ---- names and strings

-- equal names, which stand in their texts
abbrev pub WordAlike : Scripts → ℕ × List ℕ → ℕ × List ℕ → Type 0
WordAlike x a b = (a.1 ≡ b.1) × (part x.text a.0 (length a.1) ≡ part x.other b.0 (length b.1))

-- equal strings
abbrev pub TextAlike : Scripts → ℕ × ℕ → ℕ × ℕ → Type 0
TextAlike x a b = part x.text a.0 a.1 ≡ part x.other b.0 b.1

fine_named : (t : List ℕ) (ts : List Token) → Fine t ts → Named t (place ts) (kind ts)
unfolding Fine
fine_named t [] h = absurd h
fine_named t (token p k ∷ ts) h = h.0

abbrev name_in : Kind → List ℕ
name_in (name w) = w
name_in (number w) = []
name_in (quoted n) = []
name_in (mark b) = []

one_place : (y p : ℕ) → one_of (p ∷ []) y ≡ true → y ≡ p
unfolding one_of
one_place y p e = go (eqb y p) refl e
  where
    go : (b : Bool) → eqb y p ≡ b → (b || false) ≡ true → y ≡ p
    go true f e = eqb-true y p f
    go false f e = never e

-- what a token is taken for: f of the place and of what its kind shows
module _ {A B : Type 0} (x : Scripts) (view : Kind → Option A) (f : ℕ → A → B) (R : B → B → Type 0) (E : B → List ℕ)
    (real : (k : Kind) (a : A) → view k ≡ some a → is_mark k 0 ≡ false)
    (place_of : (p : ℕ) (a : A) (y : ℕ) → one_of (E (f p a)) y ≡ true → y ≡ p)
    (alike : (ts us : List Token) → Pair x ts us → (a b : A) → view (kind ts) ≡ some a → view (kind us) ≡ some b
    → Only x (E (f (place ts) a)) ts (rest ts) → R (f (place ts) a) (f (place us) b)) where
  pub one_token : {H : Type 0} → Alike x H (λ l ts. found (view (kind ts)) (f (place ts)) l ts)
      (λ l ts. found (view (kind ts)) (f (place ts)) l ts) (λ a j. 1 ≤ j) E R
  one_token = record {
    moves = λ l ts h. go l ts h (view (kind ts)) refl;
    twins = λ h l m ts us i c d. both l m ts us i (view (kind ts)) refl (view (kind us)) refl;
  }
    where
      go : (l : Notes) (ts : List Token) → Fine x.text ts → (o : Option A) → view (kind ts) ≡ o
          → Moves x (λ a j. 1 ≤ j) E l ts (found o (f (place ts)) l ts)
      go l ts h none e = tt
      go l ts h (some a) e =
          let v = past x.text ts h in
          let z = v.on (real (kind ts) a e) in
          record {
            bound = refl;
            gone = v.gone;
            post = omega (arith, z.1);
            held = λ y g. let w = place_of (place ts) a y g in (omega arith, omega (arith, z.0));
          }

      both : (l m : Notes) (ts us : List Token) → Pair x ts us → (o : Option A) → view (kind ts) ≡ o
          → (o' : Option A) → view (kind us) ≡ o'
          → Twins x E R ts m (found o (f (place ts)) l ts) (found o' (f (place us)) m us)
      both l m ts us i none e o' e' = tt
      both l m ts us i (some a) e none e' = tt
      both l m ts us i (some a) e (some b) e' =
          λ only. record { related = alike ts us i a b e e' only; pair = rest-pair i; bound = refl }

some_name : (k : Kind) (a : List ℕ) → name_of k ≡ some a → (k ≡ name a) × (is_keyword a ≡ false)
some_name (name w) a e = go (is_keyword w) refl e
  where
    go : (b : Bool) → is_keyword w ≡ b → unless b w ≡ some a → (name w ≡ name a) × (is_keyword a ≡ false)
    go true f g = absurd (let z : ◌≡◌ {A = ℕ} 0 1 = cc in omega arith)
    go false f g = let z : w ≡ a = cc in (ap name z, ap is_keyword (sym z) ∙ f)
some_name (number w) a e = absurd (let z : ◌≡◌ {A = ℕ} 0 1 = cc in omega arith)
some_name (quoted n) a e = absurd (let z : ◌≡◌ {A = ℕ} 0 1 = cc in omega arith)
some_name (mark b) a e = absurd (let z : ◌≡◌ {A = ℕ} 0 1 = cc in omega arith)

some_quote : (k : Kind) (n : ℕ) → quote_of k ≡ some n → k ≡ quoted n
some_quote (name w) a e = absurd (let z : ◌≡◌ {A = ℕ} 0 1 = cc in omega arith)
some_quote (number w) a e = absurd (let z : ◌≡◌ {A = ℕ} 0 1 = cc in omega arith)
some_quote (quoted n) a e = let z : n ≡ a = cc in ap quoted z
some_quote (mark b) a e = absurd (let z : ◌≡◌ {A = ℕ} 0 1 = cc in omega arith)

real_name : (k : Kind) (a : List ℕ) → name_of k ≡ some a → is_mark k 0 ≡ false
real_name k a e = rw (some_name k a e).0

real_quote : (k : Kind) (n : ℕ) → quote_of k ≡ some n → is_mark k 0 ≡ false
real_quote k n e = rw (some_quote k n e)

-- a name that is not free
pub a_word_lem : {x : Scripts} {H : Type 0} → Alike x H word word (λ a j. 1 ≤ j) none_free (WordAlike x)
a_word_lem {x = x} =
    one_token x name_of (λ p w. (p, w)) (WordAlike x) none_free real_name (λ p a y e. no_place y e)
    (λ ts us i a b e g only. rel ts us i a b (some_name (kind ts) a e) (some_name (kind us) b g) only (kin ts us i))
  where
    rel : (ts us : List Token) → Pair x ts us → (a b : List ℕ) → (kind ts ≡ name a) × (is_keyword a ≡ false)
        → (kind us ≡ name b) × (is_keyword b ≡ false) → Only x [] ts (rest ts) → Kin x ts us → WordAlike x (place ts, a) (place us, b)
    rel ts us i a b e g only (equals k s j) =
        let z : a ≡ b = ap name_in (sym e.0 ∙ k ∙ g.0) in
        (z, (rw e.0 at (fine_named x.text ts i.fine)) ∙ z ∙ sym (rw g.0 at (fine_named x.other us i.also)))
    rel ts us i a b e g only (names w v k s j l free) =
        no_place (place ts)
        (only (place ts) free (omega arith) ((past x.text ts i.fine).on (rw e.0)).0)
    rel ts us i a b e g only (strings n m k s free) = absurd (let y = sym e.0 ∙ k in let z : ◌≡◌ {A = ℕ} 0 1 = cc in omega arith)

-- one that may be
pub free-word : {x : Scripts} {H : Type 0}
    → Alike x H word word (λ a j. 1 ≤ j) (λ a. a.0 ∷ []) (λ a b. b.0 ≡ x.across a.0)
free-word {x = x} =
    one_token x name_of (λ p w. (p, w)) (λ a b. b.0 ≡ x.across a.0) (λ a. a.0 ∷ []) real_name (λ p a y e. one_place y p e)
    (λ ts us i a b e g only. first_across i)

pub a_text : {x : Scripts} {H : Type 0} → Alike x H text text (λ a j. 1 ≤ j) none_free (TextAlike x)
a_text {x = x} =
    one_token x quote_of (λ p n. (suc p, n)) (TextAlike x) none_free real_quote (λ p a y e. no_place y e)
    (λ ts us i a b e g only. rel ts us i a b (some_quote (kind ts) a e) (some_quote (kind us) b g) only (kin ts us i))
  where
    rel : (ts us : List Token) → Pair x ts us → (a b : ℕ) → kind ts ≡ quoted a
        → kind us ≡ quoted b → Only x [] ts (rest ts) → Kin x ts us → TextAlike x (suc (place ts), a) (suc (place us), b)
    rel ts us i a b e g only (equals k s j) = rw (e, g) at s
    rel ts us i a b e g only (names w v k s j l free) = absurd (let y = sym e ∙ k in let z : ◌≡◌ {A = ℕ} 0 1 = cc in omega arith)
    rel ts us i a b e g only (strings n m k s free) =
        no_place (place ts) (only (place ts) free (omega arith) ((past x.text ts i.fine).on (rw e)).0)

one_less : (p : ℕ) → suc p - 1 ≡ p
one_less p = omega arith

pub free-text : {x : Scripts} {H : Type 0}
    → Alike x H text text (λ a j. 1 ≤ j) (λ a. (a.0 - 1) ∷ []) (λ a b. b.0 - 1 ≡ x.across (a.0 - 1))
free-text {x = x} =
    one_token x quote_of (λ p n. (suc p, n)) (λ a b. b.0 - 1 ≡ x.across (a.0 - 1)) (λ a. (a.0 - 1) ∷ []) real_quote
    (λ p a y e. let z = one_place y (suc p - 1) e in omega arith)
    (λ ts us i a b e g only. one_less (place us) ∙ first_across i ∙ ap x.across (sym (one_less (place ts))))

pub a_choice : {x : Scripts} {H : Type 0} (r : Refusal) (ns : List (List ℕ)) → Alikes x H (choice_in r ns) (choice_in r ns) ◌≡◌
a_choice r ns = then a_word_lem (λ w v. needs r (find ns 0 w.1) (find ns 0 v.1) (λ h. ap (find ns 0) h.1.0))

-- ---- numbers

pub a_number_lem : {x : Scripts} {H : Type 0} (view : List Token → Signed) (r : Refusal)
    → ((ts us : List Token) → Pair x ts us → view ts ≡ view us)
    → Alikes x H (signed view r) (signed view r) ◌≡◌
a_number_lem {x = x} view r e = record {
  moves = λ l ts h. go l ts h (view ts);
  twins = λ h l m ts us i c d. subst (λ (s : Signed). Twins x none_free ◌≡◌ ts m (taken r (view ts) l ts) (taken r s m us)) (e ts us i)
      (both l m ts us i (view ts));
}
  where
    go : (l : Notes) (ts : List Token) → Fine x.text ts → (s : Signed) → Moves x Any none_free l ts (taken r s l ts)
    go l ts h absent = tt
    go l ts h (plus w) = record { bound = refl; gone = (past x.text ts h).gone; post = tt; held = λ y e. no_place y e }
    go l ts h (minus w) =
        let v = (past x.text ts h).gone in
        record { bound = refl; gone = gone_on v (past x.text (rest ts) v.fine).gone; post = tt; held = λ y e. no_place y e }

    both : (l m : Notes) (ts us : List Token) → Pair x ts us → (s : Signed)
        → Twins x none_free ◌≡◌ ts m (taken r s l ts) (taken r s m us)
    both l m ts us i absent = tt
    both l m ts us i (plus w) = λ only. record { related = refl; pair = rest-pair i; bound = refl }
    both l m ts us i (minus w) = λ only. record { related = refl; pair = rest-pair (rest-pair i); bound = refl }

pub counts : {x : Scripts} {H : Type 0} (b c : Bool) → Alikes x H (counted b) (counted c) (λ a b. Unit {0})
counts b c = record {
  moves = λ l ts h. record { bound = refl; gone = stay h; post = tt; held = λ y e. no_place y e };
  twins = λ h l m ts us i e d only. record { related = tt; pair = i; bound = refl };
}

-- ---- groups

pub leaves : {x : Scripts} {H : Type 0} (e : ℕ) → Alikes x H (leave e) (leave e) (λ a b. Unit {0})
leaves {x = x} e = record {
  moves = λ l ts h. go l ts h (sees_byte e ts);
  twins = λ h l m ts us i c d. subst
      (λ (b : Bool). Twins x none_free (λ a b. Unit {0}) ts m (out (sees_byte e ts) l ts) (out b m us)) (byte_agrees i e)
      (both l m ts us i (sees_byte e ts));
}
  where
    out : Bool → Notes → List Token → Out Unit
    out b l ts = cond b (got tt l (rest ts)) (got tt (noted l (place ts)) (behind 0 ts))

    go : (l : Notes) (ts : List Token) → Fine x.text ts → (b : Bool) → Moves x Any none_free l ts (out b l ts)
    go l ts h true = record { bound = refl; gone = (past x.text ts h).gone; post = tt; held = λ y e. no_place y e }
    go l ts h false = record { bound = refl; gone = behind_gone x.text 0 ts h; post = tt; held = λ y e. no_place y e }

    both : (l m : Notes) (ts us : List Token) → Pair x ts us → (b : Bool)
        → Twins x none_free (λ a b. Unit {0}) ts m (out b l ts) (out b m us)
    both l m ts us i true = λ only. record { related = tt; pair = rest-pair i; bound = refl }
    both l m ts us i false = λ only. record { related = tt; pair = behind-pair x 0 ts us i; bound = refl }

pub in_group : {A : Type 0} {x : Scripts} {H : Type 0} {p q : Rule A} {P : A → ℕ → Type 0} {E : A → List ℕ} {R : A → A → Type 0}
    (b : ℕ) → eqb b 0 ≡ false → Alike x H p q P E R → Alike x H (inside_byte b p) (inside_byte b q) (λ a j. 1 ≤ j) E R
in_group {x = x} {H = H} {p = p} {q = q} {E = E} {R = R} b z y =
    then-free E (the-mark b z) (λ a b j h. weaken (λ c k w. omega arith) (within (λ h. h.0) inner))
  where
    inner : Alike x H (p >>= λ a. leave (closer b) >> give a) (q >>= λ a. leave (closer b) >> give a) Any E R
    inner = then-plain E E y (λ a c. and {f = give a} {g = give c} (leaves (closer b)) (gives refl (λ h. h.1)))

-- ---- repetition

abbrev pub Steps : {A : Type 0} → Next A → ℕ → Type 0
Steps (more a) j = 1 ≤ j
Steps (done a) j = Unit {0}

abbrev pub NextAlike : {A : Type 0} → (A → A → Type 0) → Next A → Next A → Type 0
NextAlike I (more a) (more b) = I a b
NextAlike I (more a) (done b) = ⊥
NextAlike I (done a) (more b) = ⊥
NextAlike I (done a) (done b) = I a b

module _ {A : Type 0} {x : Scripts} (I : A → A → Type 0) (step : A → Rule (Next A))
    (k : (a b : A) → Alike x (I a b) (step a) (step b) Steps none_free (NextAlike I)) where
  goes_moves : (again : A → Rule A)
      → ((a : A) (l : Notes) (ts : List Token) → Fine x.text ts → Moves x Any none_free l ts (again a l ts))
      → (c : Next A) (l : Notes) (ts : List Token) → Fine x.text ts → Moves x Any none_free l ts (following again c l ts)
  goes_moves again h (more a) l ts f = h a l ts f
  goes_moves again h (done a) l ts f = record { bound = refl; gone = stay f; post = tt; held = λ y e. no_place y e }

  steps_moves : (n : ℕ) (a : A) (l : Notes) (ts : List Token) → Fine x.text ts → Moves x Any none_free l ts (iterate step n a l ts)
  unfolding iterate
  steps_moves zero a l ts h = record { bound = refl; gone = stay h; post = tt; held = λ y e. no_place y e }
  steps_moves (suc n) a l ts h =
      after_moves x Steps none_free (NextAlike I) (λ a j c k. Unit {0}) none_free Any none_free I (λ a j c k p q. tt)
      (λ a j c k p q y e. no_place y e) l ts (following (λ b. iterate step n b)) (step a l ts) ((k a a).moves l ts h)
      (λ c m us v. goes_moves (λ b. iterate step n b) (λ b m us f. steps_moves n b m us f) c m us v.gone.fine)

  steps_twins : (n n' : ℕ) (a b : A) → I a b → (l m : Notes) (ts us : List Token) → Pair x ts us
      → length ts ≤ n → length us ≤ n' → length ts ≤ l.bound → length us ≤ m.bound
      → Twins x none_free I ts m (iterate step n a l ts) (iterate step n' b m us)
  unfolding iterate
  steps_twins zero n' a b r l m ts us i f g c d = absurd (omega (arith, fine_some x.text ts i.fine))
  steps_twins (suc n) zero a b r l m ts us i f g c d = absurd (omega (arith, fine_some x.other us i.also))
  steps_twins (suc n) (suc n') a b r l m ts us i f g c d =
      after_twins x Steps none_free (NextAlike I) (λ a j c k. Unit {0}) none_free Any none_free I (λ a j c k p q. tt)
      (λ a j c k p q y e. no_place y e) l m ts (following (λ b. iterate step n b)) (following (λ b. iterate step n' b))
      (step a l ts) (step b m us) ((k a a).moves l ts i.fine) ((k a b).twins r l m ts us i c d)
      (λ c m us v. goes_moves (λ b. iterate step n b) (λ b m us f. steps_moves n b m us f) c m us v.gone.fine)
      (λ y z l' m' ts' us' v w. on (λ a b r l m ts us i f g c d. steps_twins n n' a b r l m ts us i f g c d) y z l' m' ts' us' v w)
    where
      on : ((a b : A) → I a b → (l m : Notes) (ts us : List Token) → Pair x ts us
          → length ts ≤ n → length us ≤ n' → length ts ≤ l.bound → length us ≤ m.bound
          → Twins x none_free I ts m (iterate step n a l ts) (iterate step n' b m us))
          → (y z : Next A) (l' m' : Notes) (ts' us' : List Token) → Moved x Steps none_free l ts y l' ts'
          → Twin x (NextAlike I) m y z m' ts' us'
          → Twins x none_free I ts' m' (following (λ b. iterate step n b) y l' ts') (following (λ b. iterate step n' b) z m' us')
      on ih (more y) (more z) l' m' ts' us' v w =
          ih y z w.related l' m' ts' us' w.pair (omega (arith, v.gone.count, v.post))
          (omega (arith, v.gone.count, v.post, same_length i, same_length w.pair)) (omega (arith, v.gone.count, v.bound))
          (omega (arith, v.gone.count, w.bound, same_length i, same_length w.pair))
      on ih (more y) (done z) l' m' ts' us' v w = absurd w.related
      on ih (done y) (more z) l' m' ts' us' v w = absurd w.related
      on ih (done y) (done z) l' m' ts' us' v w = λ only. record { related = w.related; pair = w.pair; bound = refl }

  pub repeats : {H : Type 0} (a b : A) → (H → I a b) → Alikes x H (repeat step a) (repeat step b) I
  repeats a b r = record {
    moves = λ l ts h. steps_moves l.bound a l ts h;
    twins = λ h l m ts us i c d. steps_twins l.bound m.bound a b (r h) l m ts us i c d c d;
  }

pub goes_steps : {A : Type 0} (c : Bool) (a : A) (n : ℕ) → (c ≡ true → 1 ≤ n) → Steps (go_on c a) n
goes_steps true a n h = h refl
goes_steps false a n h = tt

pub goes_alike : {A : Type 0} (I : A → A → Type 0) (c : Bool) (a b : A) → I a b → NextAlike I (go_on c a) (go_on c b)
goes_alike I true a b h = h
goes_alike I false a b h = h

pub lists : {A : Type 0} {x : Scripts} {H : Type 0} (I : A → A → Type 0) (item : A → Rule A)
    → ((a b : A) → Alikes x (I a b) (item a) (item b) I)
    → (a b : A) → (H → I a b) → Alikes x H (list item a) (list item b) I
lists I item k a b r =
    repeats I (list_step item)
    (λ a b. tests ends ends (λ h ts us i. ends_agrees i) (gives tt (λ h. h))
    (then_on (k a b)
    (λ c d j p. same_on (eats 44 refl)
    (λ e j' q. gives (goes_steps e c (j + (j' + 0)) (λ z. let w = q z in omega arith)) (λ h. goes_alike I e c d h.1)))))
    a b r

-- ---- a rule by its word

abbrev pub Found : {A : Type 0} → Scripts → (A → A → Type 0) → Option (Rule A) → Type 0
Found x R none = Unit {0}
Found x R (some p) = Alikes x Unit p p R

abbrev pub Rows : {A : Type 0} → Scripts → (A → A → Type 0) → List (String × Rule A) → Type 0
Rows x R t = All (λ f. Alikes x Unit f.1 f.1 R) t

picks : {A : Type 0} (x : Scripts) (R : A → A → Type 0) (b : Bool) (p : Rule A) (o : Option (Rule A))
    → Alikes x Unit p p R → Found x R o
    → Found {A = A} x R (elim b [ true ↦ some p | false ↦ o ])
picks x R true p o y z = y
picks x R false p o y z = z

pub under-found : {A : Type 0} (x : Scripts) (R : A → A → Type 0) (t : List (String × Rule A)) (w : List ℕ)
    → Rows x R t → Found x R (under t w)
unfolding under
under-found x R [] w h = tt
under-found x R (f ∷ t) w h = picks x R (same w (bytes f.0)) f.1 (under t w) h.0 (under-found x R t w h.1)

needs_rule : {A B : Type 0} (x : Scripts) (H : Type 0) (R : A → A → Type 0) (S : B → B → Type 0) (Q : B → ℕ → Type 0) (r : Refusal)
    (o : Option (Rule A)) (f : Rule A → Rule B)
    → Found x R o → ((p : Rule A) → Alikes x Unit p p R → Alike x H (f p) (f p) Q none_free S)
    → Alike x H (need r o >>= f) (need r o >>= f) Q none_free S
needs_rule x H R S Q r none f y k = record { moves = λ l ts h. tt; twins = λ h l m ts us i c d. tt }
needs_rule x H R S Q r (some p) f y k = record { moves = (k p y).moves; twins = (k p y).twins }

-- f goes on with the rule that is found
pub by_word : {A B : Type 0} {x : Scripts} {H : Type 0} {R : A → A → Type 0} {S : B → B → Type 0} {Q : B → ℕ → Type 0} (r : Refusal)
    (t : List (String × Rule A)) (w v : List ℕ) (f : Rule A → Rule B) → (H → w ≡ v)
    → Rows x R t → ((p : Rule A) → Alikes x Unit p p R → Alike x H (f p) (f p) Q none_free S)
    → Alike x H (need r (under t w) >>= f) (need r (under t v) >>= f) Q none_free S
by_word {x = x} {H = H} {R = R} {S = S} {Q = Q} r t w v f e rows k =
    by_equal (λ (w : List ℕ). need r (under t w) >>= f) (λ (w : List ℕ). need r (under t w) >>= f) w v e
    (needs_rule x H R S Q r (under t w) f (under-found x R t w rows) k)

pub by_word_or : {A : Type 0} {x : Scripts} {H : Type 0} {R : A → A → Type 0} (t : List (String × Rule A)) (w v : List ℕ) (p q : Rule A)
    → (H → w ≡ v) → Rows x R t → Alikes x H p q R → Alikes x H (default (under t w) p) (default (under t v) q) R
by_word_or {x = x} {H = H} {R = R} t w v p q e rows y =
    by_equal (λ (w : List ℕ). default (under t w) p) (λ (w : List ℕ). default (under t w) q) w v e
    (go (under t w) (under-found x R t w rows))
  where
    go : (o : Option (Rule _)) → Found x R o → Alikes x H (default o p) (default o q) R
    go none z = y
    go (some r) z = within (λ h. tt) z
