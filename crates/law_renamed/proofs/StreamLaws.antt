-- Two lists of tokens that agree but for free names and strings: what rules see of them.
use Prim.Native.Nat.{ℕ, suc, ◌+◌, ◌≤◌, ◌<◌}
use mathlib.Core.Bool.{Bool, true, false, ◌||◌, cond}
use mathlib.Core.List.{List, [], ◌∷◌}
use mathlib.Core.Path.{◌≡◌, refl, sym, ap, ◌∙◌}
use native.Mathlib.Omega.{arith}
use lib.Dec.{eqb}
use lib.ListN.{length}
use borrow.Author.Tests.{eqb-true, eq-eqb, ne_eqb}
use Rattle.text.specs.Bytes.{part, one_of, same}
use Rattle.text.specs.Words.{is_some}
use Rattle.text.proofs.WordLaws.{same_eq}
use Rattle.token.specs.Token.{Kind, name, number, quoted, mark, Token, token, place, kind, is_mark, rest}
use Rattle.token.specs.Names.{is_keyword, name_of}
use Rattle.grammar.specs.Rule.{sees_byte, sees_pair, sees_bytes, sees_name, is_end, ends}
use Rattle.grammar.specs.Rule.{plain, sees_number, sees_whole, pointless}
use Rattle.grammar.specs.Rule.{Pass, halts, closes, goes, weigh, depth, passed, behind}
use Rattle.grammar.specs.Fields.{item_of}
use Rattle.law_renamed.specs.Words.{Word, a_name, a_string, kept, inside_of, joined, blanked, place_of, Agree}

pub never : {A : Type 0} → (false ≡ true) → A
never e = absurd (let z : ◌≡◌ {A = ℕ} 0 1 = cc in omega arith)

-- ---- the tokens of one text: places rise, a name stands in the text, and the end is the last

abbrev pub Named : List ℕ → ℕ → Kind → Type 0
Named t p (name w) = part t p (length w) ≡ w
Named t p (number w) = Unit {0}
Named t p (quoted n) = Unit {0}
Named t p (mark b) = Unit {0}

abbrev pub Onward : ℕ → Kind → List Token → Type 0 → Type 0
Onward p k [] X = is_mark k 0 ≡ true
Onward p k (u ∷ us) X = (is_mark k 0 ≡ false) × (p < place (u ∷ us)) × X

unfoldable pub Fine : List ℕ → List Token → Type 0
Fine t [] = ⊥
Fine t (token p k ∷ ts) = Named t p k × Onward p k ts (Fine t ts)

pub fine_some : (t : List ℕ) (ts : List Token) → Fine t ts → 1 ≤ length ts
unfolding Fine
fine_some t [] h = absurd h
fine_some t (token p k ∷ ts) h = omega arith

-- a reader has gone from ts to us
pub record Gone (t : List ℕ) (ts us : List Token) : Type 0 where
  pub fine : Fine t us
  pub low : place ts ≤ place us
  pub taken : ℕ
  pub count : length ts ≡ taken + length us

abbrev pub stay : {t : List ℕ} {ts : List Token} → Fine t ts → Gone t ts ts
stay h = record { fine = h; low = omega arith; taken = 0; count = omega arith }

-- past a token that is not the end
pub record Past (t : List ℕ) (ts : List Token) : Type 0 where
  pub gone : Gone t ts (rest ts)
  pub on : is_mark (kind ts) 0 ≡ false → (place ts < place (rest ts)) × (gone.taken ≡ 1)

pub past : (t : List ℕ) (ts : List Token) → Fine t ts → Past t ts
unfolding Fine
past t [] h = absurd h
past t (token p k ∷ []) h = record {
  gone = record { fine = rw h.1 h; low = rw h.1 (omega arith); taken = 0; count = rw h.1 };
  on = λ f. never (sym f ∙ h.1);
}
past t (token p k ∷ token q j ∷ ts) h = record {
  gone = record {
    fine = rw h.1.0 h.1.2;
    low = rw h.1.0 (omega (arith, h.1.1));
    taken = 1;
    count = rw h.1.0 (omega arith);
  };
  on = λ f. (rw h.1.0 h.1.1, refl);
}

abbrev pub gone_on : {t : List ℕ} {ts us vs : List Token} → Gone t ts us → Gone t us vs → Gone t ts vs
gone_on g h = record {
  fine = h.fine;
  low = omega (arith, g.low, h.low);
  taken = g.taken + h.taken;
  count = omega (arith, g.count, h.count);
}

-- the reader that leaves a group halts at the end
end_halts : (k : Kind) (d : ℕ) → is_mark k 0 ≡ true → weigh k d ≡ halts
unfolding weigh
end_halts (name w) d e = never e
end_halts (number w) d e = never e
end_halts (quoted n) d e = never e
end_halts (mark b) d e = rw e

passed_on : {t : List ℕ} (x : Pass) (ts us vs : List Token) → Gone t ts ts → Gone t ts us → Gone t ts vs → Gone t ts (passed x ts us vs)
passed_on halts ts us vs f g h = f
passed_on closes ts us vs f g h = g
passed_on (goes d) ts us vs f g h = h

pub behind_gone : (t : List ℕ) (d : ℕ) (ts : List Token) → Fine t ts → Gone t ts (behind d ts)
unfolding Fine behind
behind_gone t d [] h = absurd h
behind_gone t d (token p k ∷ []) h = rw (end_halts k d h.1) (stay h)
behind_gone t d (token p k ∷ token q j ∷ ts) h =
    let g : Gone t (token p k ∷ token q j ∷ ts) (token q j ∷ ts) = record {
      fine = h.1.2;
      low = omega (arith, h.1.1);
      taken = 1;
      count = omega arith;
    } in
    passed_on (weigh k d) (token p k ∷ token q j ∷ ts) (token q j ∷ ts) (behind (depth (weigh k d)) (token q j ∷ ts)) (stay h) g
    (gone_on g (behind_gone t (depth (weigh k d)) (token q j ∷ ts) h.1.2))

-- ---- the places of two lists of tokens, one by one

-- f takes each place of the first to that of the second
unfoldable pub Across : (ℕ → ℕ) → List Token → List Token → Type 0
Across f [] us = Unit {0}
Across f (a ∷ ts) [] = Unit {0}
Across f (a ∷ ts) (b ∷ us) = (place_of b ≡ f (place_of a)) × Across f ts us

unfoldable pub across_of : List Token → List Token → ℕ → ℕ
across_of [] us p = 0
across_of (a ∷ ts) [] p = 0
across_of (a ∷ ts) (b ∷ us) p = cond (eqb p (place_of a)) (place_of b) (across_of ts us p)

-- places rise, so no token hides another
pub across_from : (t : List ℕ) (f : ℕ → ℕ) (ts us : List Token) → Fine t ts → ((p : ℕ) → place ts ≤ p → f p ≡ across_of ts us p)
    → Across f ts us
unfolding Fine Across across_of
across_from t f [] us h e = tt
across_from t f (a ∷ ts) [] h e = tt
across_from t f (token p k ∷ []) (token q j ∷ us) h e = (sym (e p (omega arith) ∙ (rw (eq-eqb p p refl))), tt)
across_from t f (token p k ∷ token p' k' ∷ ts) (token q j ∷ us) h e = (
  sym (e p (omega arith) ∙ (rw (eq-eqb p p refl))),
  across_from t f (token p' k' ∷ ts) us h.1.2
      (λ r g. e r (omega (arith, h.1.1)) ∙ (rw (ne_eqb r p (λ z. omega (arith, h.1.1))))),
)

across_first : (f : ℕ → ℕ) (t u : List ℕ) (ts us : List Token) → Fine t ts → Fine u us → Across f ts us → place us ≡ f (place ts)
unfolding Fine Across
across_first f t u [] us h g e = absurd h
across_first f t u (token p k ∷ ts) [] h g e = absurd g
across_first f t u (token p k ∷ ts) (token q j ∷ us) h g e = e.0

-- ---- two texts, the places that are free in the first, and those of the second that stand where places of the first do

pub record Scripts : Type 0 where
  pub text : List ℕ
  pub other : List ℕ
  pub free : List ℕ
  pub across : ℕ → ℕ

-- tokens of both that agree
pub record Pair (x : Scripts) (ts us : List Token) : Type 0 where
  pub fine : Fine x.text ts
  pub also : Fine x.other us
  pub agrees : Agree x.text x.other x.free ts us
  pub places : Across x.across ts us

pub first_across : {x : Scripts} {ts us : List Token} → Pair x ts us → place us ≡ x.across (place ts)
first_across {x = x} {ts = ts} {us = us} h = across_first x.across x.text x.other ts us h.fine h.also h.places

-- what is left of a token
data Side (b : Bool) (k : Kind) (y z : Word) : Type 0 where
  stays : z ≡ y → Side b k y z
  nameless : (w : List ℕ) → k ≡ name w → is_keyword w ≡ false → b ≡ true → z ≡ a_name → Side b k y z
  stringless : (n : ℕ) → k ≡ quoted n → b ≡ true → z ≡ a_string → Side b k y z

side : (b : Bool) (k : Kind) (y : Word) → Side b k y (blanked b k y)
side false k y = stays refl
side true (name w) y = go (is_keyword w) refl
  where
    go : (c : Bool) → is_keyword w ≡ c → Side true (name w) y (cond c y a_name)
    go true e = stays refl
    go false e = nameless w refl e refl refl
side true (number w) y = stays refl
side true (quoted n) y = stringless n refl refl refl
side true (mark b) y = stays refl

-- the first tokens: equal, or both free
pub data Kin (x : Scripts) (ts us : List Token) : Type 0 where
  equals : kind ts ≡ kind us
      → inside_of x.text (place ts) (kind ts) ≡ inside_of x.other (place us) (kind us)
      → joined ts ≡ joined us
      → Kin x ts us
  names : (w v : List ℕ) → kind ts ≡ name w → kind us ≡ name v → is_keyword w ≡ false → is_keyword v ≡ false
      → one_of x.free (place ts) ≡ true
      → Kin x ts us
  strings : (n m : ℕ) → kind ts ≡ quoted n → kind us ≡ quoted m → one_of x.free (place ts) ≡ true → Kin x ts us

abbrev pub kind_in : Word → Kind
kind_in a_name = mark 0
kind_in a_string = mark 0
kind_in (kept k c b) = k

abbrev pub text_in : Word → List ℕ
text_in a_name = []
text_in a_string = []
text_in (kept k c b) = c

abbrev pub flag_in : Word → Bool
flag_in a_name = false
flag_in a_string = false
flag_in (kept k c b) = b

pub same_word : {k l : Kind} {i j : List ℕ} {b c : Bool} (free : Bool) → k ≡ l → i ≡ j → b ≡ c
    → blanked free k (kept k i b) ≡ blanked free l (kept l j c)
same_word free e g h = rw (e, g, h)

meets : (x : Scripts) (ts us : List Token) (b : Bool) (y z : Word)
    → Side b (kind ts) (kept (kind ts) (inside_of x.text (place ts) (kind ts)) (joined ts)) y
    → Side b (kind us) (kept (kind us) (inside_of x.other (place us) (kind us)) (joined us)) z
    → (b ≡ true → one_of x.free (place ts) ≡ true) → y ≡ z → Kin x ts us
meets x ts us b y z (stays f) (stays g) h e =
    let k = sym f ∙ e ∙ g in
    equals (ap kind_in k) (ap text_in k) (ap flag_in k)
meets x ts us b y z (stays f) (nameless w g i j l) h e = absurd (let z : ◌≡◌ {A = ℕ} 0 1 = cc in omega arith)
meets x ts us b y z (stays f) (stringless n g j l) h e = absurd (let z : ◌≡◌ {A = ℕ} 0 1 = cc in omega arith)
meets x ts us b y z (nameless w g i j l) (stays f) h e = absurd (let z : ◌≡◌ {A = ℕ} 0 1 = cc in omega arith)
meets x ts us b y z (nameless w g i j l) (nameless v g' i' j' l') h e = names w v g g' i i' (h j)
meets x ts us b y z (nameless w g i j l) (stringless n g' j' l') h e = absurd (let z : ◌≡◌ {A = ℕ} 0 1 = cc in omega arith)
meets x ts us b y z (stringless n g j l) (stays f) h e = absurd (let z : ◌≡◌ {A = ℕ} 0 1 = cc in omega arith)
meets x ts us b y z (stringless n g j l) (nameless w g' i' j' l') h e = absurd (let z : ◌≡◌ {A = ℕ} 0 1 = cc in omega arith)
meets x ts us b y z (stringless n g j l) (stringless m g' j' l') h e = strings n m g g' (h j)

pub kin : {x : Scripts} (ts us : List Token) → Pair x ts us → Kin x ts us
unfolding Fine Agree
kin [] us h = absurd h.fine
kin (token p k ∷ ts) [] h = absurd h.also
kin {x = x} (token p k ∷ ts) (token q j ∷ us) h =
    meets x (token p k ∷ ts) (token q j ∷ us) (one_of x.free p) _ _
    (side (one_of x.free p) k (kept k (inside_of x.text p k) (joined (token p k ∷ ts))))
    (side (one_of x.free p) j (kept j (inside_of x.other q j) (joined (token q j ∷ us))))
    (λ e. e)
    h.agrees.0

-- ---- what rules see of the first token

by_kin : {B : Type 0} (f : Kind → B) (x : Scripts) (ts us : List Token)
    → ((w v : List ℕ) → is_keyword w ≡ false → is_keyword v ≡ false → f (name w) ≡ f (name v))
    → ((n m : ℕ) → f (quoted n) ≡ f (quoted m))
    → Kin x ts us → f (kind ts) ≡ f (kind us)
by_kin f x ts us k l (equals e g h) = ap f e
by_kin f x ts us k l (names w v e g i j h) = rw (e, g) (k w v i j)
by_kin f x ts us k l (strings n m e g h) = rw (e, g) (l n m)

pub agree : {B : Type 0} (f : Kind → B) {x : Scripts} {ts us : List Token}
    → ((w v : List ℕ) → is_keyword w ≡ false → is_keyword v ≡ false → f (name w) ≡ f (name v))
    → ((n m : ℕ) → f (quoted n) ≡ f (quoted m))
    → Pair x ts us → f (kind ts) ≡ f (kind us)
agree f {x = x} {ts = ts} {us = us} k l h = by_kin f x ts us k l (kin ts us h)

module _ {x : Scripts} {ts us : List Token} (h : Pair x ts us) where
  pub byte_agrees : (b : ℕ) → sees_byte b ts ≡ sees_byte b us
  byte_agrees b = agree (λ k. is_mark k b) (λ w v e g. refl) (λ n m. refl) h

  pub ends_agrees : ends ts ≡ ends us
  ends_agrees = agree is_end (λ w v e g. refl) (λ n m. refl) h

  pub item_agrees : item_of (kind ts) ≡ item_of (kind us)
  unfolding item_of
  item_agrees = agree item_of (λ w v e g. refl) (λ n m. refl) h

  pub weight_agrees : (d : ℕ) → weigh (kind ts) d ≡ weigh (kind us) d
  unfolding weigh
  weight_agrees d = agree (λ k. weigh k d) (λ w v e g. refl) (λ n m. refl) h

  pub plain_agrees : plain (kind ts) ≡ plain (kind us)
  plain_agrees = agree plain (λ w v e g. refl) (λ n m. refl) h

  pub name_agrees : sees_name ts ≡ sees_name us
  name_agrees = agree (λ k. is_some (name_of k)) (λ w v e g. rw (e, g)) (λ n m. refl) h

  -- a keyword is never free
  pub word_agrees : (v : List ℕ) → is_keyword v ≡ true → sees_bytes v ts ≡ sees_bytes v us
  word_agrees v y = agree (λ k. sees_bytes v (token 0 k ∷ [])) (λ w u e g. rw (other w e, other u g)) (λ n m. refl) h
    where
      other : (w : List ℕ) → is_keyword w ≡ false → same w v ≡ false
      other w e = go (same w v) refl
        where
          go : (b : Bool) → same w v ≡ b → b ≡ false
          go true f = never (sym e ∙ ap is_keyword (same_eq w v f) ∙ y)
          go false f = refl

-- ---- behind the first token

tails : (x : Scripts) (ts us : List Token) → Pair x ts us → Agree x.text x.other x.free (rest ts) (rest us)
unfolding Fine Agree
tails x [] us h = absurd h.fine
tails x (token p k ∷ ts) [] h = absurd h.also
tails x (token p k ∷ ts) (token q j ∷ us) h = rw (byte_agrees h 0) (go (is_mark j 0))
  where
    go : (b : Bool) → Agree x.text x.other x.free (cond b (token p k ∷ ts) ts) (cond b (token q j ∷ us) us)
    go true = h.agrees
    go false = h.agrees.1

tails_across : (x : Scripts) (ts us : List Token) → Pair x ts us → Across x.across (rest ts) (rest us)
unfolding Fine Across
tails_across x [] us h = absurd h.fine
tails_across x (token p k ∷ ts) [] h = absurd h.also
tails_across x (token p k ∷ ts) (token q j ∷ us) h = rw (byte_agrees h 0) (go (is_mark j 0))
  where
    go : (b : Bool) → Across x.across (cond b (token p k ∷ ts) ts) (cond b (token q j ∷ us) us)
    go true = h.places
    go false = h.places.1

pub rest-pair : {x : Scripts} {ts us : List Token} → Pair x ts us → Pair x (rest ts) (rest us)
rest-pair {x = x} {ts = ts} {us = us} h = record {
  fine = (past x.text ts h.fine).gone.fine;
  also = (past x.other us h.also).gone.fine;
  agrees = tails x ts us h;
  places = tails_across x ts us h;
}

agree_length : (t u free : List ℕ) (ts us : List Token) → Agree t u free ts us → length ts ≡ length us
unfolding Agree
agree_length t u free [] [] h = refl
agree_length t u free [] (b ∷ us) h = absurd h
agree_length t u free (a ∷ ts) [] h = absurd h
agree_length t u free (a ∷ ts) (b ∷ us) h = ap suc (agree_length t u free ts us h.1)

pub same_length : {x : Scripts} {ts us : List Token} → Pair x ts us → length ts ≡ length us
same_length {x = x} {ts = ts} {us = us} h = agree_length x.text x.other x.free ts us h.agrees

passed-pair : (x : Scripts) (y : Pass) (ts us vs ts' us' vs' : List Token) → Pair x ts ts' → Pair x us us' → Pair x vs vs'
    → Pair x (passed y ts us vs) (passed y ts' us' vs')
passed-pair x halts ts us vs ts' us' vs' f g h = f
passed-pair x closes ts us vs ts' us' vs' f g h = g
passed-pair x (goes d) ts us vs ts' us' vs' f g h = h

pub behind-pair : (x : Scripts) (d : ℕ) (ts us : List Token) → Pair x ts us → Pair x (behind d ts) (behind d us)
unfolding Fine behind Agree Across
behind-pair x d [] us h = absurd h.fine
behind-pair x d (token p k ∷ ts) [] h = absurd h.also
behind-pair x d (token p k ∷ []) (token q j ∷ us) h =
    let e = end_halts k d h.fine.1 in
    rw (e, sym (weight_agrees h d) ∙ e) h
behind-pair x d (token p k ∷ token p' k' ∷ ts) (token q j ∷ []) h = never (sym h.fine.1.0 ∙ byte_agrees h 0 ∙ h.also.1)
behind-pair x d (token p k ∷ token p' k' ∷ ts) (token q j ∷ token q' j' ∷ us) h =
    rw (weight_agrees h d)
    (passed-pair x (weigh j d) _ _ _ _ _ _ h (tail h)
    (behind-pair x (depth (weigh j d)) (token p' k' ∷ ts) (token q' j' ∷ us) (tail h)))
  where
    tail : Pair x (token p k ∷ token p' k' ∷ ts) (token q j ∷ token q' j' ∷ us) → Pair x (token p' k' ∷ ts) (token q' j' ∷ us)
    tail h = record { fine = h.fine.1.2; also = h.also.1.2; agrees = h.agrees.1; places = h.places.1 }

-- ---- numbers, and marks of two characters

pub number_agrees : {x : Scripts} {ts us : List Token} → Pair x ts us → sees_number ts ≡ sees_number us
number_agrees {ts = ts} {us = us} h =
    rw (byte_agrees h 45, plain_agrees h, plain_agrees (rest-pair h))

pub whole_agrees : {x : Scripts} {ts us : List Token} → Pair x ts us → sees_whole ts ≡ sees_whole us
whole_agrees h = ap pointless (number_agrees h)

or_false : (b : Bool) → (b || false) ≡ b
or_false true = refl
or_false false = refl

-- a pair of marks that is one token where it stands together
abbrev Two : ℕ → ℕ → Type 0
Two b d =
    (ts us : List Token) → kind ts ≡ mark b → kind us ≡ mark b → joined ts ≡ joined us → sees_pair b d ts ≡ sees_pair b d us

arrow : Two 61 62
arrow ts us e g j = rw (e, g) (sym (or_false _) ∙ (rw (e, g) at j) ∙ or_false _)

colons : Two 58 58
colons ts us e g j = rw (e, g) (sym (or_false _) ∙ (rw (e, g) at j) ∙ or_false _)

dots : Two 46 46
dots ts us e g j = rw (e, g) (rw (e, g) at j)

two_agree : (b d : ℕ) → Two b d → (x : Scripts) (ts us : List Token) → Kin x ts us → sees_pair b d ts ≡ sees_pair b d us
two_agree b d two x ts us (names w v e g i j h) = rw (e, g)
two_agree b d two x ts us (strings n m e g h) = rw (e, g)
two_agree b d two x ts us (equals e g j) = go (kind ts) refl
  where
    by : (c : ℕ) → kind ts ≡ mark c → (y : Bool) → eqb c b ≡ y → sees_pair b d ts ≡ sees_pair b d us
    by c f true z = let q = f ∙ ap mark (eqb-true c b z) in two ts us q (sym e ∙ q) j
    by c f false z = rw (f, sym e ∙ f, z)

    go : (k : Kind) → kind ts ≡ k → sees_pair b d ts ≡ sees_pair b d us
    go (name w) f = rw (f, sym e ∙ f)
    go (number w) f = rw (f, sym e ∙ f)
    go (quoted n) f = rw (f, sym e ∙ f)
    go (mark c) f = by c f (eqb c b) refl

module _ {x : Scripts} {ts us : List Token} (h : Pair x ts us) where
  pub arrow_agrees : sees_pair 61 62 ts ≡ sees_pair 61 62 us
  arrow_agrees = two_agree 61 62 arrow x ts us (kin ts us h)

  pub colons_agree : sees_pair 58 58 ts ≡ sees_pair 58 58 us
  colons_agree = two_agree 58 58 colons x ts us (kin ts us h)

  pub dots_agree : sees_pair 46 46 ts ≡ sees_pair 46 46 us
  dots_agree = two_agree 46 46 dots x ts us (kin ts us h)
