-- Each group is left by its own closer: what the grammar takes with nothing left in a group nests, at most 18 deep (`input_nests`). On
-- tokens that nest, no other closer ends a group, so that it is left there as at any closer (`leave_same`, `inside-same`).
use Prim.Native.Nat.{ℕ, zero, suc, ◌+◌, ◌≤◌, ◌<◌}
use mathlib.Core.Bool.{Bool, true, false, ◌&&◌, ◌||◌, not, cond}
use mathlib.Core.List.{List, [], ◌∷◌, ◌++◌}
use mathlib.Core.Option.{Option, none, some}
use mathlib.Core.Path.{◌≡◌, refl, sym, ap, ◌∙◌, subst}
use native.Mathlib.Omega.{arith}
use lib.Dec.{ltb, eqb}
use lib.ListN.{length, drop_of_length-le}
use borrow.Author.Tests.{eq-eqb, eqb-true, lt-ltb}
use Rattle.text.specs.Bytes.{bytes, one_of, among}
use Rattle.token.specs.Token.{Kind, name, number, quoted, mark, Token, token, cut, tokens_from, place, kind, is_mark, rest}
use Rattle.token.specs.Names.{word_of, name_of, quote_of}
use Rattle.token.specs.Split.{Nest, unfit, awaits, closer, closed, nest_mark, nest, tokens, split}
use Rattle.token.specs.Means.{fits, none_open}
use Rattle.token.proofs.WholeLaws.{never, either, every, every_in}
use Rattle.token.proofs.NestLaws.{unfit_fits, splits_fit}
use Rattle.error.specs.declared.Refusal.{Refusal}
use Rattle.error.specs.declared.Refusal.TheVariants.{Missing, TooManyOpen}
use Rattle.grammar.specs.Rule.{Notes, Out, got, refused, Rule, after, give, refuse, if, ◌>>=◌, ◌>>◌, sees_byte, sees_pair, sees_bytes, is_word}
use Rattle.grammar.specs.Rule.{ends, skip, the_byte, both_bytes, eat_byte, found, word, text, Signed, absent, plus, minus, plain}
use Rattle.grammar.specs.Rule.{negated, sees_number, pointless, sees_whole, taken, signed, tally, counted, halts, goes, closing}
use Rattle.grammar.specs.Rule.{weigh, depth, passed, behind, first_of, noted, leave, inside_byte, Next, more, done, iterate, repeat}
use Rattle.grammar.specs.Rule.{next as following}
use Rattle.grammar.specs.Fields.{Fields, Table, item_of, one_field, by_item, fields_step}
use Rattle.grammar.specs.Fields as item
use Rattle.grammar.specs.Grammar.{animato_input}
use Rattle.law_rules.proofs.EachLaws.{is_opener, is_closer, is_plain, Closed, input_each}

-- ---- what a token makes of the awaited closers

abbrev plain_kind : Kind → Bool
plain_kind (name w) = true
plain_kind (number w) = true
plain_kind (quoted n) = true
plain_kind (mark b) = is_plain b

neither : {A : Type 0} (x y : Bool) (a b c : A) → (not x && not y) ≡ true → cond x a (cond y b c) ≡ c
neither true y a b c e = absurd (never e)
neither false true a b c e = absurd (never e)
neither false false a b c e = refl

plain-nest : (k : Kind) (cs : List ℕ) → plain_kind k ≡ true → nest k cs ≡ awaits cs
unfolding nest_mark one_of
plain-nest (name w) cs e = refl
plain-nest (number w) cs e = refl
plain-nest (quoted n) cs e = refl
plain-nest (mark b) cs e = neither (among "([{" b) (among ")]}" b) _ _ _ e

-- the three pairs of delimiters
by_opener : (Q : ℕ → Type 0) (b : ℕ) → is_opener b ≡ true → Q 40 → Q 91 → Q 123 → Q b
by_opener Q b e x y z =
    either (eqb b 40) _ (λ f. subst Q (sym (eqb-true b 40 f)) x)
    (λ g. either (eqb b 91) _ (λ f. subst Q (sym (eqb-true b 91 f)) y)
    (λ h. either (eqb b 123) false (λ f. subst Q (sym (eqb-true b 123 f)) z) (λ f. absurd (never f)) h) g) e

opener_some : (b : ℕ) → is_opener b ≡ true → eqb b 0 ≡ false
opener_some b e = by_opener (λ b. eqb b 0 ≡ false) b e refl refl refl

closer_some : (b : ℕ) → is_opener b ≡ true → eqb (closer b) 0 ≡ false
closer_some b e = by_opener (λ b. eqb (closer b) 0 ≡ false) b e refl refl refl

closer_is : (b : ℕ) → is_opener b ≡ true → is_closer (closer b) ≡ true
closer_is b e = by_opener (λ b. is_closer (closer b) ≡ true) b e refl refl refl

opens : (b : ℕ) (cs : List ℕ) → is_opener b ≡ true
    → nest_mark b cs ≡ cond (ltb (length cs) 64) (awaits (closer b ∷ cs)) (unfit TooManyOpen)
unfolding nest_mark one_of
opens b cs e = rw e

-- a closer opens nothing
no_opener : (b : ℕ) → among ")]}" b ≡ true → among "([{" b ≡ false
unfolding one_of every
no_opener b e = go (among "([{" b) (every_in (λ (c : ℕ). not (among "([{" c)) (bytes ")]}") b refl e)
  where
    go : (x : Bool) → not x ≡ true → x ≡ false
    go true f = absurd (never f)
    go false f = refl

shuts : (b : ℕ) (cs : List ℕ) → is_closer b ≡ true → nest_mark b cs ≡ closed b cs
unfolding nest_mark one_of
shuts b cs e = rw (no_opener b e, e)

own_closed : (b : ℕ) (cs : List ℕ) → is_closer b ≡ true → nest_mark b (b ∷ cs) ≡ awaits cs
unfolding closed
own_closed b cs e = shuts b (b ∷ cs) e ∙ (rw (eq-eqb b b refl))

-- ---- a mark at the front of tokens

record Front (b : ℕ) (ts : List Token) : Type 0 where
  at : ℕ
  tail : List Token
  is : ts ≡ token at (mark b) ∷ tail

front : (b : ℕ) (ts : List Token) → eqb b 0 ≡ false → sees_byte b ts ≡ true → Front b ts
front b [] z e = absurd (never (sym z ∙ (rw (← eqb-true 0 b e))))
front b (token p (name w) ∷ ts) z e = absurd (never e)
front b (token p (number w) ∷ ts) z e = absurd (never e)
front b (token p (quoted n) ∷ ts) z e = absurd (never e)
front b (token p (mark c) ∷ ts) z e = record { at = p; tail = ts; is = rw (eqb-true c b e) }

mark-fits : (b : ℕ) (cs : List ℕ) (ts : List Token) → eqb b 0 ≡ false → sees_byte b ts ≡ true
    → fits (awaits cs) ts ≡ fits (nest_mark b cs) (rest ts)
unfolding fits
mark-fits b cs ts z e = let f = front b ts z e in rw (f.is, z)

rest-fits : (cs : List ℕ) (ts : List Token) → plain_kind (kind ts) ≡ true → fits (awaits cs) ts ≡ fits (awaits cs) (rest ts)
unfolding fits
rest-fits cs [] e = refl
rest-fits cs (token p k ∷ ts) e = go (is_mark k 0) refl
  where
    go : (b : Bool) → is_mark k 0 ≡ b → fits (awaits cs) (token p k ∷ ts) ≡ fits (awaits cs) (cond b (token p k ∷ ts) ts)
    go true f = refl
    go false f = rw (f, plain-nest k cs e)

-- ---- behind the closer of a group, c being awaited under the closers ds

module _ (c : ℕ) (cs : List ℕ) where
  abbrev Leaves : List Token → List ℕ → Type 0
  Leaves ts ds = fits (awaits (ds ++ (c ∷ cs))) ts ≡ true → fits (awaits cs) (behind (length ds) ts) ≡ true

  some_open : (ds : List ℕ) → none_open (awaits (ds ++ (c ∷ cs))) ≡ false
  some_open [] = refl
  some_open (d ∷ ds) = refl

  if_awaits : (b : Bool) (r : Refusal) (ds : List ℕ) (ts : List Token) → fits (cond b (awaits ds) (unfit r)) ts ≡ true
      → fits (awaits ds) ts ≡ true
  if_awaits true r ds ts h = h
  if_awaits false r ds ts h = absurd (never (sym (unfit_fits r ts) ∙ h))

  closed-behind : (b : ℕ) (ts us : List Token) → ((ds : List ℕ) → Leaves ts ds) → (ds : List ℕ)
      → fits (closed b (ds ++ (c ∷ cs))) ts ≡ true
      → fits (awaits cs) (passed (closing (length ds)) us ts (behind (depth (closing (length ds))) ts)) ≡ true
  unfolding closed
  closed-behind b ts us ih [] h = if_awaits (eqb b c) _ cs ts h
  closed-behind b ts us ih (d ∷ ds) h = ih ds (if_awaits (eqb b d) _ (ds ++ (c ∷ cs)) ts h)

  mark-behind : (b : ℕ) (ts us : List Token) → ((ds : List ℕ) → Leaves ts ds) → (ds : List ℕ) (x y z : Bool) → (y ≡ true → z ≡ false)
      → cond x (none_open (awaits (ds ++ (c ∷ cs))))
      (fits (cond z (cond (ltb (length (ds ++ (c ∷ cs))) 64) (awaits (closer b ∷ (ds ++ (c ∷ cs)))) (unfit TooManyOpen))
      (cond y (closed b (ds ++ (c ∷ cs))) (awaits (ds ++ (c ∷ cs))))) ts) ≡ true
      → fits (awaits cs)
      (passed (cond x halts (cond y (closing (length ds)) (cond z (goes (suc (length ds))) (goes (length ds))))) us ts
      (behind (depth (cond x halts (cond y (closing (length ds)) (cond z (goes (suc (length ds))) (goes (length ds)))))) ts)) ≡ true
  mark-behind b ts us ih ds true y z f h = absurd (never (sym (some_open ds) ∙ h))
  mark-behind b ts us ih ds false true true f h = absurd (never (sym (f refl)))
  mark-behind b ts us ih ds false true false f h = closed-behind b ts us ih ds h
  mark-behind b ts us ih ds false false true f h = ih (closer b ∷ ds) (if_awaits (ltb (length (ds ++ (c ∷ cs))) 64) _ _ ts h)
  mark-behind b ts us ih ds false false false f h = ih ds h

  behind-fits : (ts : List Token) (ds : List ℕ) → Leaves ts ds
  unfolding fits behind weigh nest_mark
  behind-fits [] ds h = absurd (never (sym (some_open ds) ∙ h))
  behind-fits (token p (name w) ∷ ts) ds h = behind-fits ts ds h
  behind-fits (token p (number w) ∷ ts) ds h = behind-fits ts ds h
  behind-fits (token p (quoted n) ∷ ts) ds h = behind-fits ts ds h
  behind-fits (token p (mark b) ∷ ts) ds h =
      mark-behind b ts (token p (mark b) ∷ ts) (behind-fits ts) ds (eqb b 0) (among ")]}" b) (among "([{" b) (no_opener b) h

-- ---- what a rule does to the delimiters

-- from ts to us, with the notes l and m: what nests before nests behind; and where nothing was left in a group the delimiters between the
-- two fit, if there is room for n more
pub record Between (n : ℕ) (l : Notes) (ts : List Token) (m : Notes) (us : List Token) : Type 0 where
  pub keeps : (cs : List ℕ) → fits (awaits cs) ts ≡ true → fits (awaits cs) us ≡ true
  pub clean : m.leftover ≡ none → l.leftover ≡ none
  pub same : m.leftover ≡ none → (cs : List ℕ) → length cs + n ≤ 64 → fits (awaits cs) ts ≡ fits (awaits cs) us

abbrev pub OutNests : {A : Type 0} → ℕ → Notes → List Token → Out A → Type 0
OutNests n l ts (got a m us) = Between n l ts m us
OutNests n l ts (refused r p) = Unit {0}

pub record Nests {A : Type 0} (n : ℕ) (p : Rule A) : Type 0 where
  pub run : (l : Notes) (ts : List Token) → OutNests n l ts (p l ts)

stays : {n : ℕ} {l : Notes} {ts : List Token} → Between n l ts l ts
stays = record { keeps = λ cs h. h; clean = λ e. e; same = λ e cs h. refl }

-- a token that is no delimiter
skipped : {n : ℕ} {l : Notes} {ts : List Token} → plain_kind (kind ts) ≡ true → Between n l ts l (rest ts)
skipped {ts = ts} e = record {
  keeps = λ cs h. sym (rest-fits cs ts e) ∙ h;
  clean = λ f. f;
  same = λ f cs h. rest-fits cs ts e;
}

onward : {n : ℕ} {l m o : Notes} {ts us vs : List Token} → Between n l ts m us → Between n m us o vs → Between n l ts o vs
onward x y = record {
  keeps = λ cs h. y.keeps cs (x.keeps cs h);
  clean = λ e. x.clean (y.clean e);
  same = λ e cs h. x.same (y.clean e) cs h ∙ y.same e cs h;
}

out_onward : {A : Type 0} {n : ℕ} {l m : Notes} {ts us : List Token} (o : Out A)
    → Between n l ts m us → OutNests n m us o → OutNests n l ts o
out_onward (got a k vs) x y = onward x y
out_onward (refused r p) x y = tt

goes_on : {A B : Type 0} (n : ℕ) (l : Notes) (ts : List Token) (f : A → Rule B) → ((a : A) → Nests n (f a)) → (o : Out A)
    → OutNests n l ts o → OutNests n l ts (after o f)
goes_on n l ts f k (got a m us) x = out_onward (f a m us) x ((k a).run m us)
goes_on n l ts f k (refused r p) x = tt

then : {n : ℕ} {A B : Type 0} {p : Rule A} {f : A → Rule B} → Nests n p → ((a : A) → Nests n (f a)) → Nests n (p >>= f)
then {n = n} {p = p} {f = f} x k = record { run = λ l ts. goes_on n l ts f k (p l ts) (x.run l ts) }

gives : {n : ℕ} {A : Type 0} {a : A} → Nests n (give a)
gives = record { run = λ l ts. stays }

refuses : {n : ℕ} {A : Type 0} {r : Refusal} → Nests {A = A} n (refuse r)
refuses = record { run = λ l ts. tt }

equal : {n : ℕ} {A : Type 0} {p q : Rule A} → Nests n p → ((l : Notes) (ts : List Token) → p l ts ≡ q l ts) → Nests n q
equal {n} {A} {p} {q} x e = record { run = λ l ts. subst (λ (o : Out A). OutNests n l ts o) (e l ts) (x.run l ts) }

-- by a test of the tokens
chosen : {A : Type 0} (n : ℕ) (p q : Rule A) (l : Notes) (ts : List Token) (b : Bool)
    → (b ≡ true → OutNests n l ts (p l ts)) → (b ≡ false → OutNests n l ts (q l ts))
    → OutNests n l ts (cond b p q l ts)
chosen n p q l ts true x y = x refl
chosen n p q l ts false x y = y refl

tests : {n : ℕ} {A : Type 0} {p q : Rule A} (test : List Token → Bool) → Nests n p → Nests n q → Nests n (if test p q)
tests {n = n} {p = p} {q = q} test x y = record { run = λ l ts. chosen n p q l ts (test ts) (λ e. x.run l ts) (λ e. y.run l ts) }

-- ---- tokens that are passed

mark-plain : (k : Kind) (b : ℕ) → is_plain b ≡ true → is_mark k b ≡ true → plain_kind k ≡ true
mark-plain (name w) b z e = refl
mark-plain (number w) b z e = refl
mark-plain (quoted n) b z e = refl
mark-plain (mark c) b z e = rw (eqb-true c b e) z

word-plain : (k : Kind) (v : List ℕ) → is_word (word_of k) v ≡ true → plain_kind k ≡ true
word-plain (name w) v e = refl
word-plain (number w) v e = refl
word-plain (quoted n) v e = refl
word-plain (mark b) v e = absurd (never e)

marks : {n : ℕ} {A : Type 0} {p q : Rule A} (b : ℕ) → is_plain b ≡ true → Nests n p → Nests n q → Nests n (if (sees_byte b) (skip >> p) q)
marks {n = n} {p = p} {q = q} b z x y = record {
  run = λ l ts. chosen n (skip >> p) q l ts (sees_byte b ts)
      (λ e. out_onward (p l (rest ts)) (skipped (mark-plain (kind ts) b z e)) (x.run l (rest ts))) (λ e. y.run l ts);
}

known : {n : ℕ} {A : Type 0} {p q : Rule A} (v : List ℕ) → Nests n p → Nests n q → Nests n (if (sees_bytes v) (skip >> p) q)
known {n = n} {p = p} {q = q} v x y = record {
  run = λ l ts. chosen n (skip >> p) q l ts (sees_bytes v ts)
      (λ e. out_onward (p l (rest ts)) (skipped (word-plain (kind ts) v e)) (x.run l (rest ts))) (λ e. y.run l ts);
}

the-mark : {n : ℕ} (b : ℕ) → is_plain b ≡ true → Nests n (the_byte b)
the-mark {n} b z = record {
  run = λ l ts. chosen n skip (refuse Missing) l ts (sees_byte b ts) (λ e. skipped (mark-plain (kind ts) b z e)) (λ e. tt);
}

two-marks : {n : ℕ} (b d : ℕ) → is_plain b ≡ true → is_plain d ≡ true → Nests n (both_bytes b d)
two-marks {n} b d z y = record { run = λ l ts. chosen n (skip >> skip) (refuse Missing) l ts (sees_pair b d ts) (by l ts) (λ e. tt) }
  where
    first : (x y z : Bool) → (x && y && z) ≡ true → (x ≡ true) × (y ≡ true)
    first true true z e = (refl, refl)
    first true false z e = absurd (never e)
    first false y z e = absurd (never e)

    by : (l : Notes) (ts : List Token) → sees_pair b d ts ≡ true → Between n l ts l (rest (rest ts))
    by l ts e =
        let f = first (sees_byte b ts) (sees_byte d (rest ts)) _ e in
        onward (skipped (mark-plain (kind ts) b z f.0)) (skipped (mark-plain (kind (rest ts)) d y f.1))

a_word_lem : {n : ℕ} → Nests n word
a_word_lem {n} = record { run = λ l ts. go l ts (kind ts) refl }
  where
    on : (l : Notes) (ts : List Token) (o : Option (List ℕ)) → plain_kind (kind ts) ≡ true
        → OutNests {A = ℕ × List ℕ} n l ts (found o (λ w. (place ts, w)) l ts)
    on l ts none e = tt
    on l ts (some w) e = skipped e

    go : (l : Notes) (ts : List Token) (k : Kind) → kind ts ≡ k
        → OutNests {A = ℕ × List ℕ} n l ts (found (name_of k) (λ w. (place ts, w)) l ts)
    go l ts (name w) e = on l ts (name_of (name w)) (rw e)
    go l ts (number w) e = tt
    go l ts (quoted m) e = tt
    go l ts (mark b) e = tt

a_text : {n : ℕ} → Nests n text
a_text {n} = record { run = λ l ts. go l ts (kind ts) refl }
  where
    go : (l : Notes) (ts : List Token) (k : Kind) → kind ts ≡ k
        → OutNests {A = ℕ × ℕ} n l ts (found (quote_of k) (λ m. (suc (place ts), m)) l ts)
    go l ts (name w) e = tt
    go l ts (number w) e = tt
    go l ts (quoted m) e = skipped (rw e)
    go l ts (mark b) e = tt

a_number_lem : {n : ℕ} (r : Refusal) → Nests n (signed sees_number r)
a_number_lem {n} r = record { run = λ l ts. go l ts (sees_byte 45 ts) refl }
  where
    first : (l : Notes) (ts : List Token) (k : Kind) → kind ts ≡ k → OutNests n l ts (taken r (plain k) l ts)
    first l ts (name w) e = tt
    first l ts (number w) e = skipped (rw e)
    first l ts (quoted m) e = tt
    first l ts (mark b) e = tt

    second : (l : Notes) (ts : List Token) → plain_kind (kind ts) ≡ true → (k : Kind) → kind (rest ts) ≡ k
        → OutNests n l ts (taken r (negated (plain k)) l ts)
    second l ts z (name w) e = tt
    second l ts z (number w) e = onward (skipped z) (skipped (rw e))
    second l ts z (quoted m) e = tt
    second l ts z (mark b) e = tt

    go : (l : Notes) (ts : List Token) (b : Bool) → sees_byte 45 ts ≡ b
        → OutNests n l ts (taken r (cond b (negated (plain (kind (rest ts)))) (plain (kind ts))) l ts)
    go l ts true e = second l ts (mark-plain (kind ts) 45 refl e) (kind (rest ts)) refl
    go l ts false e = first l ts (kind ts) refl

a_whole : {n : ℕ} (r : Refusal) → Nests n (signed sees_whole r)
a_whole {n} r = record { run = λ l ts. go l ts (sees_number ts) ((a_number_lem r).run l ts) }
  where
    go : (l : Notes) (ts : List Token) (v : Signed) → OutNests n l ts (taken r v l ts) → OutNests n l ts (taken r (pointless v) l ts)
    go l ts absent x = tt
    go l ts (plus w) x = by w.point
      where
        by : (b : Bool) → OutNests n l ts (taken r (cond b absent (plus w)) l ts)
        by true = tt
        by false = x
    go l ts (minus w) x = by w.point
      where
        by : (b : Bool) → OutNests n l ts (taken r (cond b absent (minus w)) l ts)
        by true = tt
        by false = x

counts : {n : ℕ} {A : Type 0} {p : Rule A} (b : Bool) → Nests n p → Nests n (counted b >> p)
counts {n} {A} {p} b x = record { run = λ l ts. out_onward (p (tally b l) ts) (tallied l ts) (x.run (tally b l) ts) }
  where
    tallied : (l : Notes) (ts : List Token) → Between n l ts (tally b l) ts
    tallied l ts = record { keeps = λ cs h. h; clean = λ e. e; same = λ e cs h. refl }

eats : {n : ℕ} {A : Type 0} {f : Bool → Rule A} (b : Bool) (c : ℕ) → is_plain c ≡ true → ((x : Bool) → Nests n (f x))
    → Nests n (cond b (give false) (eat_byte c) >>= f)
eats true c z k = then gives k
eats false c z k = then (marks {p = give true} {q = give false} c z gives gives) k

-- the next token of a list of fields: only a `,` or a `;` is passed
fields : {n : ℕ} (t : Table) (fs : Fields) → Nests n (one_field t fs) → Nests n (fields_step t fs)
unfolding fields_step item_of
fields {n} t fs x = record { run = λ l ts. go l ts (kind ts) refl }
  where
    by : (l : Notes) (ts : List Token) (b : ℕ) → kind ts ≡ mark b → (u v w : Bool) → eqb b 44 ≡ v → eqb b 59 ≡ w
        → OutNests n l ts (by_item (cond u item.halts (cond v item.passes (cond w item.closes item.starts))) t fs l ts)
    by l ts b e true v w f g = stays
    by l ts b e false true w f g = skipped (rw (e, eqb-true b 44 f))
    by l ts b e false false true f g = skipped (rw (e, eqb-true b 59 g))
    by l ts b e false false false f g = x.run l ts

    go : (l : Notes) (ts : List Token) (k : Kind) → kind ts ≡ k → OutNests n l ts (by_item (item_of k) t fs l ts)
    go l ts (name w) e = x.run l ts
    go l ts (number w) e = x.run l ts
    go l ts (quoted m) e = x.run l ts
    go l ts (mark b) e = by l ts b e (one_of (0 ∷ bytes ")]}{") b) (eqb b 44) (eqb b 59) refl refl

-- ---- groups

no_first : {A : Type 0} (o : Option ℕ) (p : ℕ) → first_of o p ≡ none → A
no_first none p e = absurd (let z : ◌≡◌ {A = ℕ} 0 1 = cc in omega arith)
no_first (some q) p e = absurd (let z : ◌≡◌ {A = ℕ} 0 1 = cc in omega arith)

module _ (b : ℕ) (z : is_opener b ≡ true) where
  -- behind its opener a group awaits its closer
  opened_fits : (cs : List ℕ) (ts : List Token) → sees_byte b ts ≡ true → length cs < 64
      → fits (awaits cs) ts ≡ fits (awaits (closer b ∷ cs)) (rest ts)
  opened_fits cs ts e h = mark-fits b cs ts (opener_some b z) e ∙ (rw (opens b cs z, lt-ltb (length cs) 64 h))

  opened_keeps : (cs : List ℕ) (ts : List Token) → sees_byte b ts ≡ true → fits (awaits cs) ts ≡ true
      → fits (awaits (closer b ∷ cs)) (rest ts) ≡ true
  opened_keeps cs ts e h =
      if_awaits 0 [] (ltb (length cs) 64) TooManyOpen (closer b ∷ cs) (rest ts)
      (sym (ap (λ (x : Nest). fits x (rest ts)) (opens b cs z)) ∙ sym (mark-fits b cs ts (opener_some b z) e) ∙ h)

  closed-fits : (cs : List ℕ) (ts : List Token) → sees_byte (closer b) ts ≡ true
      → fits (awaits (closer b ∷ cs)) ts ≡ fits (awaits cs) (rest ts)
  closed-fits cs ts e = mark-fits (closer b) (closer b ∷ cs) ts (closer_some b z) e ∙ (rw (own_closed (closer b) cs (closer_is b z)))

  module _ {A : Type 0} (n : ℕ) (l : Notes) (ts : List Token) (e : sees_byte b ts ≡ true) where
    left : (a : A) (m : Notes) (us : List Token) → Between n l (rest ts) m us → (x : Bool) → sees_byte (closer b) us ≡ x
        → OutNests (suc n) l ts
        (after (cond {A = Out Unit} x (got tt m (rest us)) (got tt (noted m (place us)) (behind 0 us))) (λ u. give a))
    left a m us y true f = record {
      keeps = λ cs h. sym (closed-fits cs us f) ∙ y.keeps (closer b ∷ cs) (opened_keeps cs ts e h);
      clean = y.clean;
      same = λ g cs h. opened_fits cs ts e (omega arith) ∙ y.same g (closer b ∷ cs) (omega arith) ∙ closed-fits cs us f;
    }
    left a m us y false f = record {
      keeps = λ cs h. behind-fits (closer b) cs us [] (y.keeps (closer b ∷ cs) (opened_keeps cs ts e h));
      clean = λ g. no_first m.leftover (place us) g;
      same = λ g. no_first m.leftover (place us) g;
    }

    inner : (o : Out A) → OutNests n l (rest ts) o → OutNests (suc n) l ts (after o (λ a. leave (closer b) >> give a))
    inner (got a m us) y = left a m us y (sees_byte (closer b) us) refl
    inner (refused r p) y = tt

  in_group : {n : ℕ} {A : Type 0} {p : Rule A} → Nests n p → Nests (suc n) (inside_byte b p)
  in_group {n} {A} {p} x = record { run = λ l ts. go l ts (sees_byte b ts) refl }
    where
      go : (l : Notes) (ts : List Token) (v : Bool) → sees_byte b ts ≡ v
          → OutNests (suc n) l ts (after (cond v skip (refuse Missing) l ts) (λ u. p >>= λ a. leave (closer b) >> give a))
      go l ts true e = inner n l ts e (p l (rest ts)) (x.run l (rest ts))
      go l ts false e = tt

-- ---- repetition

steps : {n : ℕ} {A : Type 0} (step : A → Rule (Next A)) → ((a : A) → Nests n (step a)) → (k : ℕ) (a : A) → Nests n (iterate step k a)
unfolding iterate
steps step h zero a = record { run = λ l ts. stays }
steps {n} {A} step h (suc k) a = record {
  run = λ l ts. goes_on n l ts (following (λ b. iterate step k b)) (on (steps step h k)) (step a l ts) ((h a).run l ts);
}
  where
    on : ((b : A) → Nests n (iterate step k b)) → (x : Next A) → Nests n (following (λ b. iterate step k b) x)
    on ih (more b) = ih b
    on ih (done b) = gives

repeats : {n : ℕ} {A : Type 0} (step : A → Rule (Next A)) → ((a : A) → Nests n (step a)) → (a : A) → Nests n (repeat step a)
repeats step h a = record { run = λ l ts. (steps step h l.bound a).run l ts }

-- ---- each rule of the grammar

abbrev NestsAll : ℕ → (A : Type 0) → Rule A → Type 0
NestsAll n A p = Nests n p

nesting : Closed NestsAll NestsAll
nesting = record {
  equal = λ x e. equal x e;
  gives = gives;
  refuses = refuses;
  then = λ x k. then x k;
  tests = λ test x y. tests test x y;
  marks = λ b e x y. marks b e x y;
  known = λ v x y. known v x y;
  the-mark = λ b e. the-mark b e;
  two-marks = λ b d e f. two-marks b d e f;
  a_word = a_word_lem;
  a_text = a_text;
  a_whole = λ r. a_whole r;
  a_float = λ r k. then (a_number_lem r) k;
  tallies = λ b x. counts b x;
  refuses_too = refuses;
  eats_too = λ b c e k. eats b c e k;
  fields = λ t fs x. fields t fs x;
  in_group = λ b e x. in_group b e x;
  repeats = λ step h a. repeats step h a;
}

-- what the grammar takes nests, if nothing was left in a group: each group was left by its own closer
pub input_nests : Nests 18 animato_input
input_nests = input_each NestsAll NestsAll nesting

-- at the text's end nothing is awaited
pub end_fits : (s : List ℕ) (p : ℕ) → p ≡ length s → fits (awaits []) (tokens_from s p) ≡ true
unfolding tokens_from cut fits
end_fits s p e = rw (drop_of_length-le s {i = p} (omega arith))

-- ---- leaving a group on tokens that nest, by its own closer or by any

-- the group ends at any closer, or at the text's end
abbrev pub leave_any : Rule Unit
leave_any l ts = cond (ends ts) (got tt l (rest ts)) (got tt (noted l (place ts)) (behind 0 ts))

mark_own : (b c : ℕ) (cs : List ℕ) (ts : List Token) → is_closer b ≡ true → (x y v : Bool) → eqb c b ≡ x → is_closer c ≡ v
    → cond y false (fits (nest_mark c (b ∷ cs)) ts) ≡ true → x ≡ (y || v)
unfolding closed
mark_own b c cs ts z x true v f k h = absurd (never h)
mark_own b c cs ts z true false true f k h = refl
mark_own b c cs ts z true false false f k h = absurd (never (sym k ∙ (rw (eqb-true c b f) z)))
mark_own b c cs ts z false false true f k h = absurd (never (sym (unfit_fits _ ts) ∙ (rw (shuts c (b ∷ cs) k, f) at h)))
mark_own b c cs ts z false false false f k h = refl

ends_own : (b : ℕ) (cs : List ℕ) (ts : List Token) → is_closer b ≡ true → fits (awaits (b ∷ cs)) ts ≡ true → sees_byte b ts ≡ ends ts
unfolding fits one_of
ends_own b cs [] z h = absurd (never h)
ends_own b cs (token p (name w) ∷ ts) z h = refl
ends_own b cs (token p (number w) ∷ ts) z h = refl
ends_own b cs (token p (quoted n) ∷ ts) z h = refl
ends_own b cs (token p (mark c) ∷ ts) z h = mark_own b c cs ts z (eqb c b) (eqb c 0) (is_closer c) refl refl h

-- where tokens nest and the closer b is awaited
pub leave_same : (b : ℕ) (cs : List ℕ) → is_closer b ≡ true → (l : Notes) (ts : List Token) → fits (awaits (b ∷ cs)) ts ≡ true
    → leave b l ts ≡ leave_any l ts
leave_same b cs z l ts h = rw (ends_own b cs ts z h)

-- a group that is entered where tokens nest
module _ {A : Type 0} {n : ℕ} {p : Rule A} (b : ℕ) (z : is_opener b ≡ true) (x : Nests n p) where
  pub inside-same : (cs : List ℕ) (l : Notes) (ts : List Token) → fits (awaits cs) ts ≡ true
      → inside_byte b p l ts ≡ (the_byte b >> (p >>= λ a. leave_any >> give a)) l ts
  inside-same cs l ts h = go (sees_byte b ts) refl
    where
      by : sees_byte b ts ≡ true → (o : Out A) → OutNests n l (rest ts) o
          → after o (λ a. leave (closer b) >> give a) ≡ after o (λ a. leave_any >> give a)
      by e (got a m us) y =
          ap (λ (o : Out Unit). after o (λ u. give a))
          (leave_same (closer b) cs (closer_is b z) m us (y.keeps (closer b ∷ cs) (opened_keeps b z cs ts e h)))
      by e (refused r q) y = refl

      go : (v : Bool) → sees_byte b ts ≡ v
          → after (cond v skip (refuse Missing) l ts) (λ u. p >>= λ a. leave (closer b) >> give a)
          ≡ after (cond v skip (refuse Missing) l ts) (λ u. p >>= λ a. leave_any >> give a)
      go true e = by e (p l (rest ts)) (x.run l (rest ts))
      go false e = refl

-- the tokens of a text that is split nest
pub split_nests : (t : List ℕ) (ts : List Token) → split t ≡ tokens ts → fits (awaits []) ts ≡ true
split_nests t ts e = splits_fit t ts e
