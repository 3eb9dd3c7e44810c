-- Rules that take tokens: how far each moves.
use Prim.Native.Nat.{ℕ, zero, suc, ◌+◌, ◌≤◌, ◌<◌}
use mathlib.Core.Bool.{Bool, true, false, ◌&&◌, not, cond}
use mathlib.Core.List.{List, [], ◌∷◌}
use mathlib.Core.Option.{Option, none, some}
use mathlib.Core.Path.{◌≡◌, refl, sym, ap, ◌∙◌, subst}
use native.Mathlib.Omega.{arith}
use lib.Dec.{eqb}
use lib.ListN.{length, get_or, drop}
use borrow.Author.Tests.{eqb-true, eqb-false}
use Rattle.text.specs.Bytes.{is_name, among}
use Rattle.text.proofs.WordLaws.{same_eq}
use Rattle.number.specs.Number.{Written}
use Rattle.token.specs.Token.{Kind, name, number, quoted, mark, Token, token, piece, lexeme, tokens_from, place, kind, is_mark, rest}
use Rattle.token.specs.Split.{closer}
use Rattle.token.specs.Names.{is_keyword, unless, word_of, name_of, quote_of}
use Rattle.error.specs.declared.Refusal.{Refusal}
use Rattle.grammar.specs.Rule.{
  Notes,
  Out,
  got,
  Rule,
  give,
  ◌>>◌,
  sees_byte,
  sees_pair,
  sees_bytes,
  is_word,
  skip,
  the_byte,
  both_bytes,
  eat_byte,
  word,
  text,
  found,
  Signed,
  absent,
  plus,
  minus,
  plain,
  negated,
  sees_number,
  pointless,
  sees_whole,
  taken,
  signed,
  Pass,
  halts,
  closes,
  goes,
  closing,
  weigh,
  depth,
  passed,
  behind,
  noted,
  leave,
  inside_byte,
}
use Rattle.law_rules.proofs.PlaceLaws.{Stands, Front, over, next, front, name_first, name_last, number-first, number-last}
use Rattle.law_rules.specs.Bare.{bare_kind, bare}
use Rattle.token.proofs.WholeLaws.{both}
use Rattle.law_rules.proofs.RunLaws.{Ends, Outcome, Keeps, Carry, carries, Runs, gives, refuses, then, and, weaken, tests}

never : {A : Type 0} → (false ≡ true) → A
never e = absurd (let z : ◌≡◌ {A = ℕ} 0 1 = cc in omega arith)

-- ---- exponents: what is left of tokens has none where they have none

bare_tail : (k : Kind) (ts : List Token) → (bare_kind k && bare ts) ≡ true → bare ts ≡ true
bare_tail k ts e = (both (bare_kind k) (bare ts) e).1

pub bare-rest : (ts : List Token) → bare ts ≡ true → bare (rest ts) ≡ true
unfolding bare
bare-rest [] e = e
bare-rest (token p k ∷ ts) e = go (is_mark k 0)
  where
    go : (b : Bool) → bare (cond b (token p k ∷ ts) ts) ≡ true
    go true = e
    go false = bare_tail k ts e

bare-behind : (d : ℕ) (ts : List Token) → bare ts ≡ true → bare (behind d ts) ≡ true
unfolding bare behind
bare-behind d [] e = e
bare-behind d (token p k ∷ ts) e = go (weigh k d) (λ x. bare-behind x ts (bare_tail k ts e))
  where
    go : (x : Pass) → ((y : ℕ) → bare (behind y ts) ≡ true) → bare (passed x (token p k ∷ ts) ts (behind (depth x) ts)) ≡ true
    go halts f = e
    go closes f = bare_tail k ts e
    go (goes y) f = f y

found_keeps : {A B : Type 0} (o : Option A) (f : A → B) (l : Notes) (ts : List Token) → Keeps (found o f l ts) (bare ts)
found_keeps none f l ts = tt
found_keeps (some a) f l ts = bare-rest ts

taken_keeps : (r : Refusal) (v : Signed) (l : Notes) (ts : List Token) → Keeps (taken r v l ts) (bare ts)
taken_keeps r absent l ts = tt
taken_keeps r (plus w) l ts = bare-rest ts
taken_keeps r (minus w) l ts = λ e. bare-rest (rest ts) (bare-rest ts e)

leave_keeps : (b : ℕ) (l : Notes) (ts : List Token) → Keeps (leave b l ts) (bare ts)
leave_keeps b l ts = go (sees_byte b ts)
  where
    go : (b : Bool) → Keeps (cond b (got (tt {0}) l (rest ts)) (got (tt {0}) (noted l (place ts)) (behind 0 ts))) (bare ts)
    go true = bare-rest ts
    go false = bare-behind 0 ts

-- a rule by what stands next: the end, or a token
by_front : {A : Type 0} (s : List ℕ) (q : ℕ) (p : List Token → Out A) (Q : A → ℕ → Type 0) → q ≤ length s
    → ((b : ℕ) → tokens_from s q ≡ token b (mark 0) ∷ [] → Outcome s (p (token b (mark 0) ∷ [])) Q)
    → ((start : ℕ) (k : Kind) (n : ℕ) → Stands s q start k n → Outcome s (p (token start k ∷ tokens_from s (start + n))) Q)
    → Outcome s (p (tokens_from s q)) Q
by_front {A = A} s q p Q h x y = go (front s q h)
  where
    go : Front s q → Outcome s (p (tokens_from s q)) Q
    go (over b e) = subst (λ (ts : List Token). Outcome s (p ts) Q) (sym e) (x b e)
    go (next start k n w) = subst (λ (ts : List Token). Outcome s (p ts) Q) (sym w.is) (y start k n w)

-- ---- the next token is passed

past : {A : Type 0} (s : List ℕ) (q : ℕ) (a : A) (l : Notes) (Q : A → ℕ → Type 0) (start : ℕ) (k : Kind) (n : ℕ)
    → Stands s q start k n → is_mark k 0 ≡ false → Q a (start + n)
    → Outcome s (got a l (rest (token start k ∷ tokens_from s (start + n)))) Q
past s q a l Q start k n x e p = record { at = start + n; is = rw e; high = x.high; post = p }

no_mark : (k : Kind) (b : ℕ) → eqb b 0 ≡ false → is_mark k b ≡ true → is_mark k 0 ≡ false
no_mark (name w) b e f = refl
no_mark (number w) b e f = refl
no_mark (quoted w) b e f = refl
no_mark (mark c) b e f = rw (eqb-true c b f) e

-- m stands behind the token next at q
pub record Skipped (s : List ℕ) (q m : ℕ) : Type 0 where
  pub on : q < m
  pub rest : rest (tokens_from s q) ≡ tokens_from s m

no_end : {s : List ℕ} {q start n : ℕ} {k : Kind} → Stands s q start k n → is_mark k 0 ≡ false
no_end {k = name w} x = refl
no_end {k = number w} x = refl
no_end {k = quoted w} x = refl
no_end {k = mark b} x = x.whole.fits

skipped : {s : List ℕ} {q start n : ℕ} {k : Kind} → Stands s q start k n → is_mark k 0 ≡ false → Skipped s q (start + n)
skipped x e = record { on = omega (arith, x.low, x.whole.some); rest = rw (x.is, e) }

-- any token but the end
pub skips : {s : List ℕ} {q : ℕ} → q ≤ length s → is_mark (kind (tokens_from s q)) 0 ≡ false → Runs s skip q (λ u m. Skipped s q m)
skips {s = s} {q = q} h e = record {
  run = λ l. by_front s q (λ ts. skip l ts) (λ u m. Skipped s q m) h (λ b f. never (sym e ∙ (rw f)))
      (λ start k n x. let z = sym (rw x.is) ∙ e in past s q (tt {0}) l (λ u m. Skipped s q m) start k n x z (skipped x z));
  keeps = λ l. bare-rest (tokens_from s q);
}

-- any token, or the end, which stays
pub passes : {s : List ℕ} {q : ℕ} → q ≤ length s → Runs s skip q (λ u m. q ≤ m)
passes {s = s} {q = q} h = record {
  run = λ l. by_front s q (λ ts. skip l ts) (λ u m. q ≤ m) h (λ b f. record { at = q; is = sym f; high = h; post = omega arith })
      (λ start k n x. past s q (tt {0}) l (λ u m. q ≤ m) start k n x (no_end x) (omega (arith, x.low)));
  keeps = λ l. bare-rest (tokens_from s q);
}

pub skips_mark : {s : List ℕ} {q : ℕ} → q ≤ length s → (b : ℕ) → eqb b 0 ≡ false
    → sees_byte b (tokens_from s q) ≡ true → Runs s skip q (λ u m. Skipped s q m)
skips_mark {s = s} {q = q} h b e f = skips h (no_mark (kind (tokens_from s q)) b e f)

-- a word, which takes as many bytes as it has
pub skips_word : {s : List ℕ} {q : ℕ} → q ≤ length s → (v : List ℕ) → sees_bytes v (tokens_from s q) ≡ true
    → Runs s skip q (λ u m. q + length v ≤ m)
skips_word {s = s} {q = q} h v e = record {
  run = λ l. by_front s q (λ ts. skip l ts) (λ u m. q + length v ≤ m) h (λ b f. never (sym (rw f) ∙ e))
      (λ start k n x. go l start k n x (sym (rw x.is) ∙ e));
  keeps = λ l. bare-rest (tokens_from s q);
}
  where
    go : (l : Notes) (start : ℕ) (k : Kind) (n : ℕ) → Stands s q start k n
        → is_word (word_of k) v ≡ true
        → Outcome s (skip l (token start k ∷ tokens_from s (start + n))) (λ u m. q + length v ≤ m)
    go l start (name w) n x f =
        let z = ap length (same_eq w v f) in
        past s q (tt {0}) l (λ u m. q + length v ≤ m) start (name w) n x refl (omega (arith, x.low, x.whole.fits))
    go l start (number w) n x f = never f
    go l start (quoted w) n x f = never f
    go l start (mark b) n x f = never f

-- ---- marks

pub the-mark : {s : List ℕ} {q : ℕ} → q ≤ length s → (b : ℕ) → eqb b 0 ≡ false → Runs s (the_byte b) q (λ u m. q < m)
the-mark h b e = tests (sees_byte b) (λ f. weaken (skips_mark h b e f) (λ u m x. x.on)) (λ f. refuses)

pub two-marks : {s : List ℕ} {q : ℕ} → q ≤ length s → (b d : ℕ) → eqb b 0 ≡ false
    → eqb d 0 ≡ false → Runs s (both_bytes b d) q (λ u m. q + 2 ≤ m)
two-marks {s = s} {q = q} h b d e f = tests (sees_pair b d) go (λ g. refuses)
  where
    first : (x y z : Bool) → (x && y && z) ≡ true → (x ≡ true) × (y ≡ true)
    first true true z g = (refl, refl)
    first true false z g = never g
    first false y z g = never g

    go : sees_pair b d (tokens_from s q) ≡ true → Runs s (skip >> skip) q (λ u m. q + 2 ≤ m)
    go g =
        let k = first (sees_byte b (tokens_from s q)) (sees_byte d (rest (tokens_from s q))) _ g in
        and (skips_mark h b e k.0) (λ m i u x. weaken (skips_mark i d f (rw x.rest at k.1)) (λ u n y. omega (arith, x.on, y.on)))

-- a mark that may stand there
abbrev pub Eaten : ℕ → Bool → ℕ → Type 0
Eaten q true m = q < m
Eaten q false m = m ≡ q

pub eaten : (q : ℕ) (c : Bool) (m : ℕ) → Eaten q c m → q ≤ m
eaten q true m x = omega arith
eaten q false m x = omega arith

pub eats : {s : List ℕ} {q : ℕ} → q ≤ length s → (b : ℕ) → eqb b 0 ≡ false → Runs s (eat_byte b) q (Eaten q)
eats h b e = tests (sees_byte b) (λ f. and {f = give true} (skips_mark h b e f) (λ m i u x. gives i x.on)) (λ f. gives h refl)

-- ---- names and strings

-- a name x, with its place, from q to m
pub record Word (s : List ℕ) (q : ℕ) (x : ℕ × List ℕ) (m : ℕ) : Type 0 where
  pub low : q ≤ x.0
  pub end : m ≡ x.0 + length x.1
  pub some : 0 < length x.1
  pub place : place (tokens_from s q) ≡ x.0
  -- a name directly behind a name or a number has a blank before it
  pub apart : is_name (get_or s q 0) ≡ false → q < x.0
  pub behind : is_name (get_or s m 0) ≡ false
  pub lexed : lexeme (drop x.0 s) ≡ piece (name x.1) (length x.1)
  pub plain : is_keyword x.1 ≡ false

name_apart : (s : List ℕ) (q start : ℕ) → q ≤ start → is_name (get_or s start 0) ≡ true → is_name (get_or s q 0) ≡ false → q < start
name_apart s q start h e f = go (eqb q start) refl
  where
    go : (b : Bool) → eqb q start ≡ b → q < start
    go true g = never (sym f ∙ (rw (eqb-true q start g) e))
    go false g = let z = eqb-false q start g in omega arith

word_of_lem : {s : List ℕ} {q start n : ℕ} {w : List ℕ} → Stands s q start (name w) n → is_keyword w ≡ false → Word s q (start, w) (start + n)
word_of_lem {s = s} {q = q} {start = start} {w = w} x e = record {
  low = x.low;
  end = let z = x.whole.fits in omega arith;
  some = let z = x.whole.fits in omega (arith, x.whole.some);
  place = rw x.is;
  apart = λ e. name_apart s q start x.low (name_first x) e;
  behind = name_last x;
  lexed = x.lexed ∙ ap (piece (name w)) (sym x.whole.fits);
  plain = e;
}

-- where a name stands next
pub next_name : (s : List ℕ) (m : ℕ) → m ≤ length s → (w : List ℕ) → kind (tokens_from s m) ≡ name w
    → (m ≤ place (tokens_from s m)) × (is_name (get_or s m 0) ≡ false → m < place (tokens_from s m))
next_name s m h w e = go (front s m h)
  where
    by : (start : ℕ) (k : Kind) (n : ℕ) → Stands s m start k n
        → k ≡ name w
        → (m ≤ place (tokens_from s m)) × (is_name (get_or s m 0) ≡ false → m < place (tokens_from s m))
    by start (name v) n x f =
        let y : place (tokens_from s m) ≡ start = rw x.is in
        (omega (arith, x.low), λ z. omega (arith, name_apart s m start x.low (name_first x) z))
    by start (number v) n x f = absurd (let z : ◌≡◌ {A = ℕ} 0 1 = cc in omega arith)
    by start (quoted v) n x f = absurd (let z : ◌≡◌ {A = ℕ} 0 1 = cc in omega arith)
    by start (mark b) n x f = absurd (let z : ◌≡◌ {A = ℕ} 0 1 = cc in omega arith)

    go : Front s m → (m ≤ place (tokens_from s m)) × (is_name (get_or s m 0) ≡ false → m < place (tokens_from s m))
    go (over b f) = let g : mark 0 ≡ name w = sym (ap kind f) ∙ e in absurd (let z : ◌≡◌ {A = ℕ} 0 1 = cc in omega arith)
    go (next start k n x) = by start k n x (sym (ap kind x.is) ∙ e)

pub a_word_lem : {s : List ℕ} {q : ℕ} → q ≤ length s → Runs s word q (Word s q)
a_word_lem {s = s} {q = q} h = record {
  run = λ l. by_front s q (λ ts. word l ts) (Word s q) h (λ b f. tt) (λ start k n x. go l start k n x);
  keeps = λ l. found_keeps (name_of (kind (tokens_from s q))) _ l (tokens_from s q);
}
  where
    by : (l : Notes) (start : ℕ) (w : List ℕ) (n : ℕ) → Stands s q start (name w) n
        → (b : Bool) → is_keyword w ≡ b
        → Outcome s (found (unless b w) (λ v. (start, v)) l (token start (name w) ∷ tokens_from s (start + n))) (Word s q)
    by l start w n x true e = tt
    by l start w n x false e = past s q (start, w) l (Word s q) start (name w) n x refl (word_of_lem x e)

    go : (l : Notes) (start : ℕ) (k : Kind) (n : ℕ) → Stands s q start k n
        → Outcome s (word l (token start k ∷ tokens_from s (start + n))) (Word s q)
    go l start (name w) n x = by l start w n x (is_keyword w) refl
    go l start (number w) n x = tt
    go l start (quoted w) n x = tt
    go l start (mark b) n x = tt

-- what stands between the quotes, from q to m
pub record Text (s : List ℕ) (q : ℕ) (x : ℕ × ℕ) (m : ℕ) : Type 0 where
  pub low : q < x.0
  pub end : m ≡ suc (x.0 + x.1)
  pub quote : ℕ
  pub start : x.0 ≡ suc quote
  pub lexed : lexeme (drop quote s) ≡ piece (quoted x.1) (x.1 + 2)

pub a_text : {s : List ℕ} {q : ℕ} → q ≤ length s → Runs s text q (Text s q)
a_text {s = s} {q = q} h = record {
  run = λ l. by_front s q (λ ts. text l ts) (Text s q) h (λ b f. tt) (λ start k n x. go l start k n x);
  keeps = λ l. found_keeps (quote_of (kind (tokens_from s q))) _ l (tokens_from s q);
}
  where
    go : (l : Notes) (start : ℕ) (k : Kind) (n : ℕ) → Stands s q start k n
        → Outcome s (text l (token start k ∷ tokens_from s (start + n))) (Text s q)
    go l start (name w) n x = tt
    go l start (number w) n x = tt
    go l start (quoted w) n x =
        past s q (suc start, w) l (Text s q) start (quoted w) n x refl
        (record {
          low = omega (arith, x.low);
          end = let z = x.whole.fits in omega arith;
          quote = start;
          start = refl;
          lexed = x.lexed ∙ ap (piece (quoted w)) x.whole.fits;
        })
    go l start (mark b) n x = tt

-- ---- numbers

pub record Number (s : List ℕ) (q m : ℕ) : Type 0 where
  pub on : q < m
  -- one without a sign has a blank between it and a name before it
  pub apart : is_name (get_or s q 0) ≡ false → q + 1 < m
  pub behind : is_name (get_or s m 0) ≡ false

-- the number w, with its sign, from q to m; where no `-` stands next it has none
pub record Numbered (s : List ℕ) (q : ℕ) (w : Bool × Written) (m : ℕ) : Type 0 where
  pub is : Number s q m
  pub start : ℕ
  pub size : ℕ
  pub lexed : lexeme (drop start s) ≡ piece (number w.1) size
  pub plain : sees_byte 45 (tokens_from s q) ≡ false → w.0 ≡ false
  pub free : bare (tokens_from s q) ≡ true → w.1.exponent ≡ false

bare-number : (s : List ℕ) (q start : ℕ) (w : Written) (n : ℕ) → Stands s q start (number w) n
    → bare (tokens_from s q) ≡ true → w.exponent ≡ false
unfolding bare
bare-number s q start w n x e =
    let z : bare (token start (number w) ∷ tokens_from s (start + n)) ≡ true = rw x.is at e in
    go w.exponent (both (not w.exponent) (bare (tokens_from s (start + n))) z).0
  where
    go : (b : Bool) → not b ≡ true → b ≡ false
    go true f = never f
    go false f = refl

bare-mark : (s : List ℕ) (q start b n : ℕ) → Stands s q start (mark b) n → Carry s q (start + n)
unfolding bare
bare-mark s q start b n x e =
    let z : bare (token start (mark b) ∷ tokens_from s (start + n)) ≡ true = rw x.is at e in
    bare_tail (mark b) (tokens_from s (start + n)) z

-- one without a point
abbrev pub Counted : List ℕ → ℕ → Bool × Written → ℕ → Type 0
Counted s q w m = Numbered s q w m × (w.1.point ≡ false)

with_point : (s : List ℕ) (q : ℕ) (b : Bool × Written) (l : Notes) (ts : List Token) → b.1.point ≡ false
    → Outcome s (got b l ts) (Numbered s q) → Outcome s (got b l ts) (Counted s q)
with_point s q b l ts e x = record { at = x.at; is = x.is; high = x.high; post = (x.post, e) }

no_point : (s : List ℕ) (q : ℕ) (r : Refusal) (v : Signed) (l : Notes) (ts : List Token)
    → Outcome s (taken r v l ts) (Numbered s q) → Outcome s (taken r (pointless v) l ts) (Counted s q)
no_point s q r absent l ts x = tt
no_point s q r (plus w) l ts x = go w.point refl
  where
    go : (b : Bool) → w.point ≡ b → Outcome s (taken r (cond b absent (plus w)) l ts) (Counted s q)
    go true e = tt
    go false e = with_point s q (false, w) l (rest ts) e x
no_point s q r (minus w) l ts x = go w.point refl
  where
    go : (b : Bool) → w.point ≡ b → Outcome s (taken r (cond b absent (minus w)) l ts) (Counted s q)
    go true e = tt
    go false e = with_point s q (true, w) l (rest (rest ts)) e x

-- behind a `-`, which stands before i
minus_number : (s : List ℕ) (q i : ℕ) (r : Refusal) (l : Notes) (ts : List Token)
    → q < i → i ≤ length s → rest ts ≡ tokens_from s i
    → sees_byte 45 (tokens_from s q) ≡ true → Carry s q i
    → Outcome s (taken r (negated (plain (kind (rest ts)))) l ts) (Numbered s q)
minus_number s q i r l ts h g e seen carry =
    subst (λ (us : List Token). Outcome s (taken r (negated (plain (kind us))) l ts) (Numbered s q)) (sym e) (go (front s i g))
  where
    by : (start : ℕ) (k : Kind) (n : ℕ) → Stands s i start k n → Outcome s (taken r (negated (plain k)) l ts) (Numbered s q)
    by start (name w) n x = tt
    by start (number w) n x = record {
      at = start + n;
      is = rw (e, x.is);
      high = x.high;
      post = record {
        is = record { on = omega (arith, x.low); apart = λ f. omega (arith, x.low, x.whole.some); behind = number-last x };
        start = start;
        size = n;
        lexed = x.lexed;
        plain = λ f. never (sym f ∙ seen);
        free = λ f. bare-number s i start w n x (carry f);
      };
    }
    by start (quoted w) n x = tt
    by start (mark b) n x = tt

    go : Front s i → Outcome s (taken r (negated (plain (kind (tokens_from s i)))) l ts) (Numbered s q)
    go (over b f) = rw f tt
    go (next start k n x) = rw x.is (by start k n x)

pub a_number_lem : {s : List ℕ} {q : ℕ} → q ≤ length s → (r : Refusal) → Runs s (signed sees_number r) q (Numbered s q)
a_number_lem {s = s} {q = q} h r = record {
  run = λ l. by_front s q (λ ts. taken r (sees_number ts) l ts) (Numbered s q) h (λ b f. tt) (λ start k n x. go l start k n x);
  keeps = λ l. taken_keeps r (sees_number (tokens_from s q)) l (tokens_from s q);
}
  where
    by : (l : Notes) (start b n : ℕ) → Stands s q start (mark b) n
        → (c : Bool) → eqb b 45 ≡ c → (ts : List Token)
        → rest ts ≡ tokens_from s (start + n)
        → Outcome s (taken r (cond c (negated (plain (kind (rest ts)))) absent) l ts) (Numbered s q)
    by l start b n x true e ts g = minus_number s q (start + n) r l ts (omega (arith, x.low, x.whole.some)) x.high g (rw x.is e)
        (bare-mark s q start b n x)
    by l start b n x false e ts g = tt

    go : (l : Notes) (start : ℕ) (k : Kind) (n : ℕ) → Stands s q start k n
        → Outcome s (taken r (sees_number (token start k ∷ tokens_from s (start + n))) l (token start k ∷ tokens_from s (start + n)))
        (Numbered s q)
    go l start (name w) n x = tt
    go l start (number w) n x =
        past {A = Bool × Written} s q (false, w) l (Numbered s q) start (number w) n x refl
        (record {
          is = record {
            on = omega (arith, x.low, x.whole.some);
            apart = λ e. omega (arith, name_apart s q start x.low (number-first x) e, x.whole.some);
            behind = number-last x;
          };
          start = start;
          size = n;
          lexed = x.lexed;
          plain = λ e. refl;
          free = bare-number s q start w n x;
        })
    go l start (quoted w) n x = tt
    go l start (mark b) n x =
        let z = x.whole.fits in by l start b n x (eqb b 45) refl (token start (mark b) ∷ tokens_from s (start + n)) (rw z)

pub a_whole : {s : List ℕ} {q : ℕ} → q ≤ length s → (r : Refusal) → Runs s (signed sees_whole r) q (Counted s q)
a_whole {s = s} {q = q} h r = record {
  run = λ l. no_point s q r (sees_number (tokens_from s q)) l (tokens_from s q) ((a_number_lem h r).run l);
  keeps = λ l. taken_keeps r (pointless (sees_number (tokens_from s q))) l (tokens_from s q);
}

-- ---- groups

-- a rule that leaves a group at q has come to m: only at the end it has not moved
pub record Left (s : List ℕ) (q m : ℕ) : Type 0 where
  pub low : q ≤ m
  pub on : is_mark (kind (tokens_from s m)) 0 ≡ false → q < m

halted : (b : ℕ) (x y z : Bool) (d : ℕ) → cond x halts (cond y (closing d) (cond z (goes (suc d)) (goes d))) ≡ halts → x ≡ true
halted b true y z d e = refl
halted b false true z zero e = absurd (let w : ◌≡◌ {A = ℕ} 0 1 = cc in omega arith)
halted b false true z (suc d) e = absurd (let w : ◌≡◌ {A = ℕ} 0 1 = cc in omega arith)
halted b false false true d e = absurd (let w : ◌≡◌ {A = ℕ} 0 1 = cc in omega arith)
halted b false false false d e = absurd (let w : ◌≡◌ {A = ℕ} 0 1 = cc in omega arith)

-- the reader halts at the end alone
halts_at : (k : Kind) (d : ℕ) → weigh k d ≡ halts → is_mark k 0 ≡ true
unfolding weigh
halts_at (name w) d e = absurd (let w : ◌≡◌ {A = ℕ} 0 1 = cc in omega arith)
halts_at (number w) d e = absurd (let w : ◌≡◌ {A = ℕ} 0 1 = cc in omega arith)
halts_at (quoted w) d e = absurd (let w : ◌≡◌ {A = ℕ} 0 1 = cc in omega arith)
halts_at (mark b) d e = halted b (eqb b 0) (among ")]}" b) (among "([{" b) d e

-- m is behind the closer of the group; only at the end it is no further than q
abbrev Behind : Kind → ℕ → ℕ → Type 0
Behind k q m = (q ≤ m) × (is_mark k 0 ≡ false → q < m)

abbrev others : List Token → List Token
others [] = []
others (t ∷ ts) = ts

behind_from : (s : List ℕ) (ts : List Token) (q d : ℕ) → ts ≡ tokens_from s q → q ≤ length s → Ends s (behind d ts) (Behind (kind ts) q)
unfolding behind weigh
behind_from s [] q d e h = record { at = q; is = e; high = h; post = (omega arith, λ f. never (sym f)) }
behind_from s (token p k ∷ ts) q d e h = go (front s q h) (λ m x f g. behind_from s ts m x f g)
  where
    by : (start : ℕ) (j : Kind) (n : ℕ) → Stands s q start j n
        → ts ≡ tokens_from s (start + n)
        → ((m x : ℕ) → ts ≡ tokens_from s m → m ≤ length s → Ends s (behind x ts) (Behind (kind ts) m))
        → (x : Pass) → weigh k d ≡ x → Ends s (passed x (token p k ∷ ts) ts (behind (depth x) ts)) (Behind k q)
    by start j n y f ih halts g = record { at = q; is = e; high = h; post = (omega arith, λ z. never (sym z ∙ halts_at k d g)) }
    by start j n y f ih closes g = record {
      at = start + n;
      is = f;
      high = y.high;
      post = (omega (arith, y.low), λ z. omega (arith, y.low, y.whole.some));
    }
    by start j n y f ih (goes x) g =
        let r = ih (start + n) x f y.high in
        record {
          at = r.at;
          is = r.is;
          high = r.high;
          post = (omega (arith, y.low, r.post.0), λ z. omega (arith, y.low, y.whole.some, r.post.0));
        }

    go : Front s q
        → ((m x : ℕ) → ts ≡ tokens_from s m → m ≤ length s → Ends s (behind x ts) (Behind (kind ts) m))
        → Ends s (behind d (token p k ∷ ts)) (Behind k q)
    go (over b f) ih =
        subst (λ (us : List Token). Ends s (behind d us) (Behind (kind us) q)) (sym (e ∙ f))
        (record { at = q; is = sym f; high = h; post = (omega arith, λ z. never (sym z)) })
    go (next start j n y) ih = by start j n y (ap others (e ∙ y.is)) ih (weigh k d) refl

-- at the end a reader stays
behind_end : (d : ℕ) (ts : List Token) → is_mark (kind ts) 0 ≡ true → is_mark (kind (behind d ts)) 0 ≡ true
unfolding behind weigh
behind_end d [] e = refl
behind_end d (token p (name w) ∷ ts) e = never e
behind_end d (token p (number w) ∷ ts) e = never e
behind_end d (token p (quoted w) ∷ ts) e = never e
behind_end d (token p (mark b) ∷ ts) e = rw (e, e)

pub leaves : {s : List ℕ} {q : ℕ} (c : ℕ) → q ≤ length s → Runs s (leave c) q (λ u m. Left s q m)
leaves {s = s} {q = q} c h = record { run = λ l. by l (sees_byte c (tokens_from s q)); keeps = λ l. leave_keeps c l (tokens_from s q) }
  where
    passes : (l : Notes) → Front s q → Outcome s (got (tt {0}) l (rest (tokens_from s q))) (λ u m. Left s q m)
    passes l (over b e) = record { at = q; is = rw e; high = h; post = record { low = omega arith; on = λ f. never (sym f ∙ (rw e)) } }
    passes l (next start k n x) =
        let y = skipped x (no_end x) in
        record { at = start + n; is = y.rest; high = x.high; post = record { low = omega (arith, y.on); on = λ f. y.on } }

    ahead : (m : ℕ) → behind 0 (tokens_from s q) ≡ tokens_from s m → (is_mark (kind (tokens_from s q)) 0 ≡ false → q < m)
        → (b : Bool) → is_mark (kind (tokens_from s q)) 0 ≡ b
        → is_mark (kind (tokens_from s m)) 0 ≡ false → q < m
    ahead m i g true e f = never (sym f ∙ (rw (← i) (behind_end 0 (tokens_from s q) e)))
    ahead m i g false e f = g e

    by : (l : Notes) (b : Bool)
        → Outcome s
        (cond b (got (tt {0}) l (rest (tokens_from s q))) (got (tt {0}) (noted l (place (tokens_from s q))) (behind 0 (tokens_from s q))))
        (λ u m. Left s q m)
    by l true = passes l (front s q h)
    by l false =
        let r = behind_from s (tokens_from s q) q 0 refl h in
        record {
          at = r.at;
          is = r.is;
          high = r.high;
          post = record { low = r.post.0; on = λ f. ahead r.at r.is r.post.1 (is_mark (kind (tokens_from s q)) 0) refl f };
        }

-- a rule in a group: from start to mid, where the group is left
pub record Inside {A : Type 0} (s : List ℕ) (R : ℕ → A → ℕ → Type 0) (q : ℕ) (a : A) (m : ℕ) : Type 0 where
  pub start : ℕ
  pub mid : ℕ
  pub low : q < start
  pub inner : R start a mid
  pub left : Left s mid m

pub in_group_on : {A : Type 0} {s : List ℕ} {q : ℕ} (p : Rule A) (R : ℕ → A → ℕ → Type 0) → q ≤ length s → (b : ℕ) → eqb b 0 ≡ false
    → ((m : ℕ) → m ≤ length s → Carry s q m → Runs s p m (R m)) → Runs s (inside_byte b p) q (Inside s R q)
in_group_on p R h b e k =
    and (carries (the-mark h b e))
    (λ m i u x. then (k m i x.1)
    (λ a n j y. and (leaves (closer b) j) (λ o f v z. gives f (record { start = m; mid = n; low = x.0; inner = y; left = z }))))

pub in_group : {A : Type 0} {s : List ℕ} {q : ℕ} (p : Rule A) (R : ℕ → A → ℕ → Type 0) → q ≤ length s → (b : ℕ) → eqb b 0 ≡ false
    → ((m : ℕ) → m ≤ length s → Runs s p m (R m)) → Runs s (inside_byte b p) q (Inside s R q)
in_group p R h b e k = in_group_on p R h b e (λ m i c. k m i)
