-- Laws of a cursor, and of the grammar's rules at one.
use Prim.Native.Nat.{ℕ, zero, suc, ◌+◌, ◌-◌, ◌≤◌, ◌<◌}
use mathlib.Core.Bool.{Bool, true, false, not, cond, ◌&&◌}
use mathlib.Core.List.{List, [], ◌∷◌}
use mathlib.Core.Option.{Option, none, some}
use mathlib.Core.Path.{◌≡◌, refl, sym, ap, ◌∙◌, subst}
use mathlib.Core.Logic.{◌⊎◌, inl, inr, ⊎_elim}
use native.Mathlib.Nat.{add-zero}
use native.Mathlib.Numerals.{add-one}
use lib.Seq.{get_or-drop}
use native.Mathlib.Omega.{arith}
use borrow.Author.Tests.{eqb-true, ne_eqb, eq-eqb}
use lib.Dec.{eqb}
use lib.ListN.{length, get_or, drop}
use Rattle.text.specs.Bytes as R
use Rattle.text.specs.Bytes.{bytes, part, among, is_blank}
use Rattle.text.specs.Words.{is_some}
use Rattle.token.specs.Token.{Kind, name, number, quoted, mark, Token, token, tokens_from, place, kind, is_mark, rest, written_at, lexeme}
use Rattle.token.specs.Means.{Lexes, Digits, NumberIs, Known, kind_of, written_in, last_place, lexeme_size, kind_from, head_tok}
use Rattle.text.specs.Limits.{text_limit}
use Rattle.token.proofs.NestLaws.{last_rest}
use Rattle.token.specs.declared.Number.{Number}
use Rattle.token.specs.declared.Tok.{Tok}
use Rattle.token.specs.declared.Tok.TheVariants.{Name, Num, Quoted, Mark}
use Rattle.token.proofs.WholeLaws.{never}
use Rattle.token.proofs.PieceLaws.{mark_piece, mark_small, mark_no_letter, mark_no_digit}
use Rattle.token.proofs.PieceLaws.{mark_no_quote, mark_no_blank, first-mark, lexes_head}
use Rattle.token.proofs.LexLaws.{inside}
use Rattle.text.proofs.ByteLaws.{run_end}
use Rattle.token.specs.Names.{is_keyword, unless, word_of, name_of, quote_of}
use Rattle.grammar.specs.Values.{truth}
use Rattle.grammar.specs.Rule.{is_word, sees_bytes, sees_name, word, text, Rule, got, refused, sees_byte, sees_pair, the_byte, both_bytes}
use Rattle.grammar.specs.Rule.{eat_byte, Signed, absent, plain, pointless, sees_number, sees_whole}
use Rattle.grammar.specs.Rule.{taken, signed, Pass, halts, closes, goes, closing, depth, weigh, behind, first_of, leave}
use Rattle.error.specs.declared.Refusal.{Refusal}
use Rattle.error.specs.declared.Refusal.TheVariants.{Missing}
use Rattle.read_cursor.specs.WordMeans.{at_of, end_of, left_at, rounded_of, tok_of, notes_of, head_word, noting, tallied}
use Rattle.read_cursor.specs.Means.{nothing, left_of, Ready, notes, tokens, run, Took}
use Rattle.read_cursor.specs.Means.{Begins, Follows, Behind, sign, past, Numbers, SignAt}
use Rattle.read_cursor.specs.declared.Cursor.{Cursor}
use Rattle.read_cursor.proofs.WordLaws.{Marked, head_end, head_left, head_rounded, head_tok_lem, head_at}
use Rattle.read_cursor.proofs.WordLaws.{noting_end, noting_left, noting-rounded, noting_tok, noting-at}
use Rattle.read_cursor.proofs.WordLaws.{tallied_end, tallied_left, tallied-rounded, tallied_tok, tallied-at}

-- ---- the head

pub head_kind : (s : List ℕ) (c : Cursor) → Ready s c → kind (tokens s c) ≡ kind_of (drop (at_of c) s) (end_of c - at_of c) (tok_of c)
head_kind s c r = r.head.kind

-- the same, by what the code has of it
pub head_told : (s : List ℕ) (c : Cursor) → Ready s c → (k : Tok) → k ≡ tok_of c
    → kind (tokens s c) ≡ kind_of (drop (at_of c) s) (end_of c - at_of c) k
head_told s c r k e = rw e r.head.kind

pub head_place : (s : List ℕ) (c : Cursor) → Ready s c → place (tokens s c) ≡ at_of c
head_place s c r = r.head.place

-- a token that was cut from `at` on, as the next of a cursor
pub begins : (s : List ℕ) (at start end : ℕ) (k : Tok) (c : Cursor) → length s ≤ text_limit
    → last_place 0 (tokens_from s at) ≡ last_place 0 (tokens_from s 0)
    → rounded_of c ≤ at → Lexes s at start end k
    → at_of c ≡ start → end_of c ≡ end → tok_of c ≡ k
    → Begins s at (left_at c) (rounded_of c) c
begins s at start end k c h e f l x y z = record {
  is = rw x l.same;
  low = rw x l.low;
  left = refl;
  rounded = refl;
  ready = record {
    head = rw (x, y, z)
        (record {
          same = refl;
          kind = rw (sym l.same) l.kind;
          place = rw (sym l.same) l.place;
          rest = rw (sym l.same) l.rest;
          low = omega arith;
          some = l.some;
          high = l.high;
          moved = l.moved;
          stands = l.stands;
        });
    high = omega (arith, l.some, l.high);
    short = h;
    last = rw x (rw (sym l.same) e);
    few = omega (arith, l.low);
  };
}

-- the first token from p on, which stands behind the blanks
marked : (t : List ℕ) (n : ℕ) → n ≡ lexeme_size (lexeme t) → 0 < n → Marked (kind_from (get_or t 0 0)) n
marked t n e h = go (kind_from (get_or t 0 0)) refl
  where
    go : (k : Tok) → kind_from (get_or t 0 0) ≡ k → Marked k n
    go Name q = tt
    go Num q = tt
    go Quoted q = tt
    go (Mark b) q = let m = mark_piece t n b e h q in let z = mark_small b m.0 in (z.0, z.1, m.1)

pub starts : (s : List ℕ) (p start : ℕ) (c : Cursor) → start ≡ p + R.run is_blank (drop p s) → p ≤ length s → length s ≤ text_limit
    → last_place 0 (tokens_from s p) ≡ last_place 0 (tokens_from s 0) → rounded_of c ≤ p
    → Begins s p (left_at c) (rounded_of c)
    (record { word = head_word (notes_of c) start (kind_from (get_or (drop start s) 0 0)) (lexeme_size (lexeme (drop start s))) })
starts s p start c r h g e f =
    let t = drop start s in
    let n = lexeme_size (lexeme t) in
    let k = kind_from (get_or t 0 0) in
    let l = lexes_head s p start r h n refl in
    let i : start + n ≤ 16384 = omega (arith, l.high) in
    let m = marked t n refl in
    rw (sym (head_left c k start n i), sym (head_rounded c k start n i))
    (begins s p start (start + n) (head_tok k n) _ g e (rw (head_rounded c k start n i) f) l (head_at c k start n i m)
    (head_end c k start n i)
    (head_tok_lem c k start n i m))

pub no_end : (k : Kind) (b : ℕ) → is_mark k b ≡ true → 0 < b → is_mark k 0 ≡ false
no_end (name w) b e h = refl
no_end (number w) b e h = refl
no_end (quoted w) b e h = refl
no_end (mark d) b e h = ne_eqb d 0 (λ z. let q = eqb-true d b e in omega arith)

-- a head that is not the text's end takes a byte
pub head_moves : (s : List ℕ) (c : Cursor) → Ready s c → is_mark (kind (tokens s c)) 0 ≡ false → at_of c < end_of c
head_moves s c r e = r.head.moved (sym (ap (λ (k : Kind). is_mark k 0) r.head.kind) ∙ e)

-- the tokens behind a head end where those of the text do
pub head_last : (s : List ℕ) (c : Cursor) → Ready s c → last_place 0 (tokens_from s (end_of c)) ≡ last_place 0 (tokens_from s 0)
head_last s c r = ap (last_place 0) (sym r.head.rest) ∙ last_rest s (at_of c) ∙ r.last

-- and no head goes back
pub head_low : (s : List ℕ) (c : Cursor) → Ready s c → at_of c ≤ end_of c
head_low s c r = r.head.some

-- the first token from the end of the head of c on
pub follows : {s : List ℕ} {c m : Cursor} → Ready s c → Begins s (end_of c) (left_at c) (rounded_of c) m → Follows s c m
follows r b = record { rest = r.head.rest ∙ b.is; at = b.low; left = b.left; rounded = b.rounded; ready = b.ready }

-- a mark right behind the head of c
pub hops : (s : List ℕ) (c : Cursor) (b : ℕ) → Ready s c → among ":;,=>.+-%([{)]}" b ≡ true → get_or s (end_of c) 0 ≡ b
    → Follows s c (record { word = head_word (notes_of c) (end_of c) (Mark b) 1 })
hops s c b r h e =
    let t = drop (end_of c) s in
    let d : get_or t 0 0 ≡ b = rw (get_or-drop, add-zero) e in
    let q = first-mark t (rw d (mark_no_letter b h)) (rw d (mark_no_digit b h)) (rw d (mark_no_quote b h)) (rw d h) in
    let i = inside s (end_of c) b e (mark_small b h).0 in
    let n = run_end is_blank s (end_of c) i (rw e (mark_no_blank b h)) in
    let z = starts s (end_of c) (end_of c) c (omega (arith, n)) (omega arith) r.short (head_last s c r)
    (omega (arith, r.few, r.head.some))
    in
    follows r (rw (q.0, q.1, d) at z)

-- ---- m stands behind the head of c

module _ (s : List ℕ) (c m : Cursor) (r : Ready s c) (f : Follows s c m) where
  -- a rule that takes the head
  pub took : {A : Type 0} (p : Rule A) (x : A) → is_mark (kind (tokens s c)) 0 ≡ false
      → run s c p ≡ got x (notes s c) (rest (tokens s c))
      → Took 1 s c m p x
  took p x e h = record {
    is = h ∙ (rw (f.rest, f.left, f.rounded));
    low = let a = head_moves s c r e in omega (arith, f.at);
    ready = f.ready;
  }

  pub took_mark : (d : ℕ) → 0 < d → sees_byte d (tokens s c) ≡ true → Took 1 s c m (the_byte d) tt
  took_mark d h e = took (the_byte d) tt (no_end (kind (tokens s c)) d e h) (rw e)

  pub took_eaten : (d : ℕ) → 0 < d → sees_byte d (tokens s c) ≡ true → Took 1 s c m (eat_byte d) true
  took_eaten d h e = took (eat_byte d) true (no_end (kind (tokens s c)) d e h) (rw e)

  pub moved_low : at_of c ≤ at_of m
  moved_low = let a = head_low s c r in omega (arith, f.at)

-- a rule that takes nothing
pub stays : {A : Type 0} (s : List ℕ) (c : Cursor) → Ready s c → (p : Rule A) (x : A)
    → run s c p ≡ got x (notes s c) (tokens s c) → Took 0 s c c p x
stays s c r p x h = record { is = h; low = omega arith; ready = r }

-- more bytes are enough bytes
pub fewer : {A : Type 0} {s : List ℕ} {c m : Cursor} {p : Rule A} {x : A} → Took 1 s c m p x → Took 0 s c m p x
fewer t = record { is = t.is; low = omega (arith, t.low); ready = t.ready }

pub mark_missing : (s : List ℕ) (c : Cursor) → Ready s c → (d : ℕ) → sees_byte d (tokens s c) ≡ false
    → run s c (the_byte d) ≡ refused Missing (at_of c)
mark_missing s c r d e = rw (e, r.head.place)

-- ---- words and strings

-- the size of the next token
pub sized : (s : List ℕ) (c : Cursor) → Ready s c → at_of c + (end_of c - at_of c) ≤ length s
sized s c r = omega (arith, r.head.some, r.head.high)

pub took_word : (s : List ℕ) (c m : Cursor) (r : Ready s c) (f : Follows s c m)
    → tok_of c ≡ Name → is_keyword (part s (at_of c) (end_of c - at_of c)) ≡ false
    → Took 1 s c m word (at_of c, part s (at_of c) (end_of c - at_of c))
took_word s c m r f k e = took s c m r f word _ (rw (r.head.kind, k)) (rw (r.head.kind, k, e, r.head.place))

pub no_word : (s : List ℕ) (c : Cursor) → Ready s c → name_of (kind (tokens s c)) ≡ none → run s c word ≡ refused Missing (at_of c)
no_word s c r e = rw (e, r.head.place)

-- what `sees_name` tells
some_name : (b : Bool) (w : List ℕ) → is_some (unless b w) ≡ true → b ≡ false
some_name true w e = absurd (never e)
some_name false w e = refl

pub took_name : (s : List ℕ) (c m : Cursor) (r : Ready s c) (f : Follows s c m) → sees_name (tokens s c) ≡ true
    → Took 1 s c m word (at_of c, part s (at_of c) (end_of c - at_of c))
took_name s c m r f e = go (tok_of c) refl
  where
    go : (k : Tok) → tok_of c ≡ k → Took 1 s c m word (at_of c, part s (at_of c) (end_of c - at_of c))
    go Name q = took_word s c m r f q (some_name _ _ (rw (r.head.kind, q) at e))
    go Num q = absurd (never (rw (r.head.kind, q) at e))
    go Quoted q = absurd (never (rw (r.head.kind, q) at e))
    go (Mark b) q = absurd (never (rw (r.head.kind, q) at e))

no_some : (x : Option (List ℕ)) → is_some x ≡ false → x ≡ none
no_some none e = refl
no_some (some w) e = absurd (never (sym e))

pub no_name : (s : List ℕ) (c : Cursor) → Ready s c → sees_name (tokens s c) ≡ false → run s c word ≡ refused Missing (at_of c)
no_name s c r e = no_word s c r (no_some _ e)

-- what stands between the quotes of a string, in the text
pub quotes : (s : List ℕ) (c : Cursor) → Ready s c → tok_of c ≡ Quoted → 2 ≤ end_of c - at_of c
quotes s c r k = rw k at r.head.stands

pub string_in : (s : List ℕ) (c : Cursor) → Ready s c → tok_of c ≡ Quoted → at_of c + 1 + (end_of c - at_of c - 2) ≤ length s
string_in s c r k = let a = quotes s c r k in omega (arith, sized s c r)

pub took_string : (s : List ℕ) (c m : Cursor) (r : Ready s c) (f : Follows s c m)
    → tok_of c ≡ Quoted → Took 1 s c m text (at_of c + 1, end_of c - at_of c - 2)
took_string s c m r f k = took s c m r f text _ (rw (r.head.kind, k)) (rw (r.head.kind, k, r.head.place, add-one))

pub no_string : (s : List ℕ) (c : Cursor) → Ready s c → quote_of (kind (tokens s c)) ≡ none → run s c text ≡ refused Missing (at_of c)
no_string s c r e = rw (e, r.head.place)

-- the word of the head is no end
word_end : (k : Kind) (v : List ℕ) → is_word (word_of k) v ≡ true → is_mark k 0 ≡ false
word_end (name w) v e = refl
word_end (number w) v e = refl
word_end (quoted w) v e = refl
word_end (mark b) v e = absurd (let z : ◌≡◌ {A = ℕ} 0 1 = cc in omega arith)

pub took_true : (s : List ℕ) (c m : Cursor) (r : Ready s c) (f : Follows s c m)
    → sees_bytes (bytes "true") (tokens s c) ≡ true → Took 1 s c m truth true
unfolding truth
took_true s c m r f e = took s c m r f truth true (word_end (kind (tokens s c)) (bytes "true") e) (rw e)

pub took_false : (s : List ℕ) (c m : Cursor) (r : Ready s c) (f : Follows s c m)
    → sees_bytes (bytes "true") (tokens s c) ≡ false → sees_bytes (bytes "false") (tokens s c) ≡ true
    → Took 1 s c m truth false
unfolding truth
took_false s c m r f d e = took s c m r f truth false (word_end (kind (tokens s c)) (bytes "false") e) (rw (d, e))

pub no_truth : (s : List ℕ) (c : Cursor) → Ready s c → sees_bytes (bytes "true") (tokens s c) ≡ false
    → sees_bytes (bytes "false") (tokens s c) ≡ false → run s c truth ≡ refused Missing (at_of c)
unfolding truth
no_truth s c r d e = rw (d, e, r.head.place)

-- whether there is a name, but for keywords
pub some_unless : (b : Bool) (w : List ℕ) → not b ≡ is_some (unless b w)
some_unless true w = refl
some_unless false w = refl

-- ---- two marks

-- u stands behind the second of two marks
pub took_both : (s : List ℕ) (c m u : Cursor) (r : Ready s c) (f : Follows s c m) (g : Follows s m u) (a b : ℕ) → 0 < a
    → sees_byte a (tokens s c) ≡ true → sees_byte b (tokens s m) ≡ true
    → at_of m ≡ at_of c + 1 → Took 1 s c u (both_bytes a b) tt
took_both s c m u r f g a b h x y e =
    let q : place (tokens s m) ≡ suc (place (tokens s c)) = head_place s m f.ready ∙ e ∙ (rw (add-one, r.head.place)) in
    record {
      is = rw (
        x,
        f.rest,
        y,
        eq-eqb (place (tokens s m)) (suc (place (tokens s c))) q,
        f.rest,
        g.rest,
        g.left,
        f.left,
        g.rounded,
        f.rounded,
      );
      low = let i = head_moves s c r (no_end (kind (tokens s c)) a x h) in let j = moved_low s m u f.ready g in omega (arith, f.at);
      ready = g.ready;
    }

no_pair : (x y z : Bool) → (x ≡ false) ⊎ ((y ≡ false) ⊎ (z ≡ false)) → (x && y && z) ≡ false
no_pair true true true h = ⊎_elim (λ e. e) (λ g. ⊎_elim (λ e. e) (λ e. e) g) h
no_pair true true false h = refl
no_pair true false z h = refl
no_pair false y z h = refl

pub both_missing : (s : List ℕ) (c : Cursor) → Ready s c → (a b : ℕ) → sees_pair a b (tokens s c) ≡ false
    → run s c (both_bytes a b) ≡ refused Missing (at_of c)
both_missing s c r a b e = rw (e, r.head.place)

-- the first is not there; or the second; or they are not adjacent
pub pair-first : (s : List ℕ) (c : Cursor) (a b : ℕ) → sees_byte a (tokens s c) ≡ false → sees_pair a b (tokens s c) ≡ false
pair-first s c a b e = no_pair _ _ _ (inl e)

pub pair_second : (s : List ℕ) (c m : Cursor) (f : Follows s c m) (a b : ℕ)
    → sees_byte b (tokens s m) ≡ false → sees_pair a b (tokens s c) ≡ false
pair_second s c m f a b e = no_pair (sees_byte a (tokens s c)) _ _ (inr (inl (rw (f.rest, e))))

pub pair-apart : (s : List ℕ) (c m : Cursor) (r : Ready s c) (f : Follows s c m) (a b : ℕ)
    → (at_of m ≡ at_of c + 1 → ⊥) → sees_pair a b (tokens s c) ≡ false
pair-apart s c m r f a b n =
    no_pair (sees_byte a (tokens s c)) (sees_byte b (rest (tokens s c))) _
    (inr
    (inr (rw (f.rest, head_place s m f.ready, r.head.place) (ne_eqb (at_of m) (suc (at_of c)) (λ e. n (omega arith))))))

-- ---- numbers

-- the number at a place p, as the code has it
pub seen_known : (s : List ℕ) (p : ℕ) (n : Number) → n.at ≡ p → p ≤ length s
    → length s ≤ text_limit → Digits (drop p s) → NumberIs (drop p s) n
    → (number (written_at (drop p s)) ≡ number (written_in s n)) × Known s n
seen_known s p n e h g d i =
    let f : drop p s ≡ drop n.at s = ap (λ (z : ℕ). drop z s) (sym e) in (
      ap (λ (t : List ℕ). number (written_at t)) f,
      record { inside = omega arith; short = g; limits = subst Digits f d; is = subst (λ (t : List ℕ). NumberIs t n) f i },
    )

module _ (s : List ℕ) (c m : Cursor) (r : Ready s c) (f : Follows s c m) where
  pub plus_number : (n : Number) → sees_byte 45 (tokens s c) ≡ false → (kind (tokens s c) ≡ number (written_in s n)) × Known s n
      → Numbers s c false n m
  plus_number n e k = record {
    sees = rw (e, k.0);
    past = f.rest;
    left = f.left;
    rounded = f.rounded;
    low = let a = head_moves s c r (rw k.0) in omega (arith, f.at);
    ready = f.ready;
    known = k.1;
  }

  pub minus_number : (u : Cursor) → Follows s m u → (n : Number) → sees_byte 45 (tokens s c) ≡ true
      → (kind (tokens s m) ≡ number (written_in s n)) × Known s n → Numbers s c true n u
  minus_number u g n e k = record {
    sees = rw (e, f.rest, k.0);
    past = rw (f.rest, g.rest);
    left = g.left ∙ f.left;
    rounded = g.rounded ∙ f.rounded;
    low = let a = head_moves s c r (no_end (kind (tokens s c)) 45 e (omega arith)) in
        let b = moved_low s m u f.ready g in
        omega (arith, f.at);
    ready = g.ready;
    known = k.1;
  }

  pub no_minus : sees_byte 45 (tokens s c) ≡ true → plain (kind (tokens s m)) ≡ absent → sees_number (tokens s c) ≡ absent
  no_minus e k = rw (e, f.rest, k)

pub no_number : (s : List ℕ) (c : Cursor) → Ready s c → sees_byte 45 (tokens s c) ≡ false
    → plain (kind (tokens s c)) ≡ absent → sees_number (tokens s c) ≡ absent
no_number s c r e k = rw (e, k)

-- of either sign
pub signed-number : (s : List ℕ) (c m u : Cursor) (b : Bool) (n : Number) → Ready s c → SignAt s c m b → Follows s m u
    → (kind (tokens s m) ≡ number (written_in s n)) × Known s n → Numbers s c b n u
signed-number s c m u false n r (e, q) g k =
    plus_number s c u r (subst (λ (x : Cursor). Follows s x u) q g) n e
    (subst (λ (x : Cursor). (kind (tokens s x) ≡ number (written_in s n)) × Known s n) q k)
signed-number s c m u true n r (e, f) g k = minus_number s c m r f u g n e k

pub signed_none : (s : List ℕ) (c m : Cursor) (b : Bool) → Ready s c → SignAt s c m b → plain (kind (tokens s m)) ≡ absent
    → sees_number (tokens s c) ≡ absent
signed_none s c m false r (e, q) k = no_number s c r e (subst (λ (x : Cursor). plain (kind (tokens s x)) ≡ absent) q k)
signed_none s c m true r (e, f) k = no_minus s c m r f e k

module _ (s : List ℕ) (c m : Cursor) (b : Bool) (n : Number) (h : Numbers s c b n m) where
  by_sign : (r : Refusal) (x : Bool) (v : Signed) → v ≡ sign x (written_in s n)
      → (us : List Token) → past x (tokens s c) ≡ us
      → taken r v (notes s c) (tokens s c) ≡ got (x, written_in s n) (notes s c) us
  by_sign r false v e us q = rw (e, q)
  by_sign r true v e us q = rw (e, q)

  whole-sign : (x : Bool) → n.point ≡ false → pointless (sign x (written_in s n)) ≡ sign x (written_in s n)
  whole-sign false e = rw (sym h.known.is.point, e)
  whole-sign true e = rw (sym h.known.is.point, e)

  whole_none : (x : Bool) → n.point ≡ true → pointless (sign x (written_in s n)) ≡ absent
  whole_none false e = rw (sym h.known.is.point, e)
  whole_none true e = rw (sym h.known.is.point, e)

  pub took_number : (r : Refusal) → Took 1 s c m (signed sees_number r) (b, written_in s n)
  took_number r = record { is = by_sign r b _ h.sees _ h.past ∙ (rw (h.left, h.rounded)); low = h.low; ready = h.ready }

  pub took_whole : (r : Refusal) → n.point ≡ false → Took 1 s c m (signed sees_whole r) (b, written_in s n)
  took_whole r e = record {
    is = by_sign r b _ (ap pointless h.sees ∙ whole-sign b e) _ h.past ∙ (rw (h.left, h.rounded));
    low = h.low;
    ready = h.ready;
  }

  pub whole_missing : (r : Refusal) → n.point ≡ true → run s c (signed sees_whole r) ≡ refused r (place (tokens s c))
  whole_missing r e = ap (λ (v : Signed). taken r v (notes s c) (tokens s c)) (ap pointless h.sees ∙ whole_none b e)

-- ---- counting

-- few numbers are counted
pub rounded_few : (s : List ℕ) (c : Cursor) → Ready s c → rounded_of c ≤ 16384
rounded_few s c r = omega (arith, r.few, r.high, r.short)

-- c with a number counted, or not
pub record Counted (b : Bool) (c : Cursor) : Type 0 where
  pub at : at_of (tallied b c) ≡ at_of c
  pub left : left_at (tallied b c) ≡ left_at c
  pub rounded : rounded_of (tallied b c) ≡ cond b (suc (rounded_of c)) (rounded_of c)

pub counted : (s : List ℕ) (c : Cursor) → Ready s c → (b : Bool) → Counted b c
counted s c r b =
    let f = rounded_few s c r in
    record { at = tallied-at c f b; left = tallied_left c f b; rounded = tallied-rounded c f b }

-- a number that took a byte since c may be counted
pub counts : (s : List ℕ) (c m : Cursor) → Ready s c → Ready s m → rounded_of m ≡ rounded_of c → at_of c + 1 ≤ at_of m
    → (b : Bool) → Ready s (tallied b m)
counts s c m r q e l b =
    let f = rounded_few s m q in
    record {
      head = rw (tallied-at m f b, tallied_end m f b, tallied_tok m f b) q.head;
      high = rw (tallied-at m f b) q.high;
      short = q.short;
      last = rw (tallied-at m f b) q.last;
      few = rw (tallied-rounded m f b, tallied-at m f b) (few b);
    }
  where
    few : (b : Bool) → cond b (suc (rounded_of m)) (rounded_of m) ≤ at_of m
    few true = omega (arith, r.few)
    few false = q.few

-- ---- leaving a group

behind_halts : (d : ℕ) (ts : List Token) → weigh (kind ts) d ≡ halts → behind d ts ≡ ts
unfolding behind
behind_halts d [] e = refl
behind_halts d (token p k ∷ ts) e = rw e

-- the end of a text is passed by nobody, so what is behind a token is what `rest` gives
weighed : (k : Kind) (d : ℕ) → is_mark k 0 ≡ true → weigh k d ≡ halts
unfolding weigh
weighed (name w) d e = absurd (let z : ◌≡◌ {A = ℕ} 0 1 = cc in omega arith)
weighed (number w) d e = absurd (let z : ◌≡◌ {A = ℕ} 0 1 = cc in omega arith)
weighed (quoted w) d e = absurd (let z : ◌≡◌ {A = ℕ} 0 1 = cc in omega arith)
weighed (mark b) d e = rw e

not_halted : (k : Kind) (d : ℕ) (x : Pass) → weigh k d ≡ x → (x ≡ halts → ⊥) → is_mark k 0 ≡ false
not_halted k d x e n = go (is_mark k 0) refl
  where
    go : (b : Bool) → is_mark k 0 ≡ b → b ≡ false
    go true q = absurd (n (sym e ∙ weighed k d q))
    go false q = refl

behind_closes : (d : ℕ) (ts : List Token) → weigh (kind ts) d ≡ closes → is_mark (kind ts) 0 ≡ false → behind d ts ≡ rest ts
unfolding behind
behind_closes d [] e f = refl
behind_closes d (token p k ∷ ts) e f = rw (e, f)

behind_goes : (d x : ℕ) (ts : List Token) → weigh (kind ts) d ≡ goes x → is_mark (kind ts) 0 ≡ false → behind d ts ≡ behind x (rest ts)
unfolding behind
behind_goes d x [] e f = absurd (let z : ◌≡◌ {A = ℕ} 0 1 = cc in omega arith)
behind_goes d x (token p k ∷ ts) e f = rw (e, f)

not_goes : (x : ℕ) → goes x ≡ halts → ⊥
not_goes x e = let z : ◌≡◌ {A = ℕ} 0 1 = cc in omega arith

not_closes : closes ≡ halts → ⊥
not_closes e = let z : ◌≡◌ {A = ℕ} 0 1 = cc in omega arith

pub closing_some : (d : ℕ) → (d ≡ 0 → ⊥) → closing d ≡ goes (d - 1)
closing_some zero n = absurd (n refl)
closing_some (suc d) n = ap goes (omega arith)

-- a walk out of the group of c has come to m, d deeper groups being open
pub record Leaving (s : List ℕ) (c m : Cursor) (d : ℕ) : Type 0 where
  pub is : behind 0 (tokens s c) ≡ behind d (tokens s m)
  pub low : at_of c ≤ at_of m
  pub deep : d ≤ at_of m
  pub left : left_at m ≡ left_at c
  pub rounded : rounded_of m ≡ rounded_of c
  pub ready : Ready s m

pub leaving_start : (s : List ℕ) (c : Cursor) → Ready s c → Leaving s c c 0
leaving_start s c r = record { is = refl; low = omega arith; deep = omega arith; left = refl; rounded = refl; ready = r }

depth-mark : (a b c : Bool) (d : ℕ) → depth (cond a halts (cond b (closing d) (cond c (goes (suc d)) (goes d)))) ≤ d + 1
depth-mark true b c d = omega arith
depth-mark false true c zero = omega arith
depth-mark false true c (suc d) = omega arith
depth-mark false false true d = omega arith
depth-mark false false false d = omega arith

depth_small : (k : Kind) (d : ℕ) → depth (weigh k d) ≤ d + 1
unfolding weigh
depth_small (name w) d = omega arith
depth_small (number w) d = omega arith
depth_small (quoted w) d = omega arith
depth_small (mark b) d = depth-mark (eqb b 0) (among ")]}" b) (among "([{" b) d

module _ (s : List ℕ) (c m : Cursor) (d : ℕ) (w : Leaving s c m d) where
  pub leaving_halts : weigh (kind (tokens s m)) d ≡ halts → Behind s c m
  leaving_halts e = record {
    is = sym (w.is ∙ behind_halts d (tokens s m) e);
    low = w.low;
    left = w.left;
    rounded = w.rounded;
    ready = w.ready;
  }

  pub leaving_closes : (u : Cursor) → Follows s m u → weigh (kind (tokens s m)) d ≡ closes → Behind s c u
  leaving_closes u f e = record {
    is = sym (w.is ∙ behind_closes d (tokens s m) e (not_halted (kind (tokens s m)) d closes e not_closes) ∙ f.rest);
    low = let a = moved_low s m u w.ready f in omega (arith, w.low);
    left = f.left ∙ w.left;
    rounded = f.rounded ∙ w.rounded;
    ready = f.ready;
  }

  pub leaving_moves : (u : Cursor) → Follows s m u → (x : ℕ) → weigh (kind (tokens s m)) d ≡ goes x → at_of m < at_of u
  leaving_moves u f x e =
      let a = head_moves s m w.ready (not_halted (kind (tokens s m)) d (goes x) e (not_goes x)) in omega (arith, f.at)

  pub leaving_goes : (u : Cursor) → Follows s m u → (x : ℕ) → weigh (kind (tokens s m)) d ≡ goes x → Leaving s c u x
  leaving_goes u f x e = record {
    is = w.is ∙ behind_goes d x (tokens s m) e (not_halted (kind (tokens s m)) d (goes x) e (not_goes x)) ∙ ap (behind x) f.rest;
    low = let a = leaving_moves u f x e in omega (arith, w.low);
    deep = let a = leaving_moves u f x e in
        let b : depth (goes x) ≤ d + 1 = subst (λ (p : Pass). depth p ≤ d + 1) e (depth_small (kind (tokens s m)) d) in
        omega (arith, w.deep);
    left = f.left ∙ w.left;
    rounded = f.rounded ∙ w.rounded;
    ready = f.ready;
  }

-- leaving a group by its closer b, and with something left
pub leave_end : (s : List ℕ) (c m : Cursor) (b : ℕ) → Ready s c → Follows s c m → sees_byte b (tokens s c) ≡ true → Took 0 s c m (leave b) tt
leave_end s c m b r f e = record {
  is = rw (e, f.rest, f.left, f.rounded);
  low = let a = moved_low s c m r f in omega arith;
  ready = f.ready;
}

pub leave_left : (s : List ℕ) (c m : Cursor) (p b : ℕ) → Ready s c → Behind s c m
    → sees_byte b (tokens s c) ≡ false → p < 65536 → left_of p ≡ first_of (left_of (left_at c)) (at_of c)
    → Took 0 s c (noting m p) (leave b) tt
leave_left s c m p b r h e g l = record {
  is = rw (e, r.head.place, noting_left m p g, l, noting-rounded m p g, h.rounded, noting-at m p g, h.is);
  low = omega (arith, h.low, noting-at m p g);
  ready = record {
    head = rw (noting-at m p g, noting_end m p g, noting_tok m p g) h.ready.head;
    high = rw (noting-at m p g) h.ready.high;
    short = h.ready.short;
    last = rw (noting-at m p g) h.ready.last;
    few = rw (noting-rounded m p g, noting-at m p g) h.ready.few;
  };
}

-- what is noted, where something was left before or not
pub left_none : (p : ℕ) → p ≡ nothing → left_of p ≡ none
unfolding left_of
left_none p e = rw e

pub left_some : (p : ℕ) → (p ≡ nothing → ⊥) → left_of p ≡ some p
unfolding left_of
left_some p n = rw (ne_eqb p nothing n)
