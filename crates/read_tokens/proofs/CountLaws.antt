-- Laws of counting the tokens from a cursor on.
use Prim.Native.Nat.{ℕ, zero, suc, ◌+◌, ◌≤◌, ◌<◌}
use mathlib.Core.Bool.{Bool, true, false, not, cond}
use mathlib.Core.List.{List, [], ◌∷◌}
use mathlib.Core.Path.{◌≡◌, refl, sym, ap, ◌∙◌}
use native.Mathlib.Omega.{arith}
use borrow.Author.Tests.{lt-ltb, le-ltb, ltb-false}
use lib.Dec.{eqb, ltb}
use lib.ListN.{length, drop}
use Rattle.text.specs.Bytes.{is_blank}
use Rattle.token.specs.Token.{Kind, name, number, quoted, mark, Token, token, Lexeme, bad}
use Rattle.token.specs.Token.{piece, lexeme, cut_by, further, cut, tokens_from, is_mark, rest}
use Rattle.token.specs.Split.{split}
use Rattle.token.specs.Split as tokenized
use Rattle.token.proofs.WholeLaws.{Fits, whole_of}
use Rattle.token.proofs.StreamLaws.{split-reads}
use Rattle.grammar.specs.Rule.{sees_byte}
use Rattle.read_cursor.specs.WordMeans.{at_of}
use Rattle.read_cursor.specs.Means.{Ready, tokens, Follows}
use Rattle.read_cursor.specs.declared.Cursor.{Cursor}
use Rattle.read_cursor.proofs.CursorLaws.{head_moves}
use Rattle.text.specs.Limits.{text_limit}
use Rattle.read_tokens.specs.Reader.{readable, token_count, is_blank as is_blank_text}

-- ---- the text that is read

pub readable_short : (t : List ℕ) → length (readable t) ≤ text_limit
unfolding readable
readable_short t = go (ltb text_limit (length t)) refl
  where
    go : (b : Bool) → ltb text_limit (length t) ≡ b → length (cond b [] t) ≤ text_limit
    go true e = omega arith
    go false e = omega (arith, ltb-false)

pub readable-whole : (t : List ℕ) → length t ≤ text_limit → readable t ≡ t
unfolding readable
readable-whole t h = rw (le-ltb _ _ h)

pub readable-empty : (t : List ℕ) → text_limit < length t → readable t ≡ []
unfolding readable
readable-empty t h = rw (lt-ltb _ _ h)

-- a text over the limit is not blank
pub blank-long : (t : List ℕ) → text_limit < length t → false ≡ is_blank_text t
unfolding is_blank_text
blank-long t h = rw (lt-ltb _ _ h)

pub blank-counted : (t : List ℕ) (n : ℕ) → length t ≤ text_limit → n ≡ token_count (tokens_from (readable t) 0) → eqb n 0 ≡ is_blank_text t
unfolding is_blank_text
blank-counted t n h e = rw (e, readable-whole t h, le-ltb _ _ h)

-- ---- tests

pub not-true : (b : Bool) → not b ≡ true → b ≡ false
not-true true e = sym e
not-true false e = refl

pub not-false : (b : Bool) → not b ≡ false → b ≡ true
not-false true e = refl
not-false false e = sym e

-- no token stands before the end, and one before what follows any other
pub none_left : (ts : List Token) → sees_byte 0 ts ≡ true → token_count ts ≡ 0
unfolding token_count
none_left [] e = refl
none_left (token p k ∷ ts) e = rw e

pub one_more : (ts : List Token) → sees_byte 0 ts ≡ false → token_count ts ≡ suc (token_count (rest ts))
unfolding token_count
one_more [] e = absurd (let z : ◌≡◌ {A = ℕ} 0 1 = cc in omega arith)
one_more (token p k ∷ ts) e = rw e

-- n tokens stand from c up to m
pub record Counted (s : List ℕ) (c m : Cursor) (n : ℕ) : Type 0 where
  pub is : n + token_count (tokens s m) ≡ token_count (tokens s c)
  pub few : n ≤ at_of m
  pub ready : Ready s m

pub counted_none : (s : List ℕ) (c : Cursor) → Ready s c → Counted s c c 0
counted_none s c r = record { is = omega arith; few = omega arith; ready = r }

module _ (s : List ℕ) (c m : Cursor) (n : ℕ) (h : Counted s c m n) where
  pub counted-below : sees_byte 0 (tokens s m) ≡ false → at_of m < length s
  counted-below e = let a = head_moves s m h.ready e in omega (arith, h.ready.head.high)

  pub counted-all : sees_byte 0 (tokens s m) ≡ true → n ≡ token_count (tokens s c)
  counted-all e = let a = none_left (tokens s m) e in omega (arith, h.is)

  module _ (u : Cursor) (f : Follows s m u) (e : sees_byte 0 (tokens s m) ≡ false) where
    pub counted_moves : at_of m < at_of u
    counted_moves = let a = head_moves s m h.ready e in omega (arith, f.at)

    pub counted_next : Counted s c u (n + 1)
    counted_next = record {
      is = let a = one_more (tokens s m) e in let b = ap token_count f.rest in omega (arith, h.is);
      few = let a = counted_moves in omega (arith, h.few);
      ready = f.ready;
    }

-- ---- every token but the end is counted

no_end : (k : Kind) (n : ℕ) → Fits k n → is_mark k 0 ≡ false
no_end (name w) n h = refl
no_end (number w) n h = refl
no_end (quoted m) n h = refl
no_end (mark b) n h = h

cut_counts : (l : List ℕ) (k p : ℕ) → suc (token_count (cut k p l)) ≡ length (cut k p l)
unfolding cut token_count
cut_counts [] k p = refl
cut_counts (b ∷ l) (suc k) p = cut_counts l k (suc p)
cut_counts (b ∷ l) zero p = go (is_blank b) (lexeme (b ∷ l)) refl _ (cut_counts l (further (is_blank b) (lexeme (b ∷ l))) (suc p))
  where
    go : (x : Bool) (y : Lexeme) → lexeme (b ∷ l) ≡ y → (ts : List Token)
        → suc (token_count ts) ≡ length ts
        → suc (token_count (cut_by x y p ts)) ≡ length (cut_by x y p ts)
    go true y f ts h = h
    go false (bad r) f ts h = refl
    go false (piece k m) f ts h = rw (no_end k m (whole_of (b ∷ l) k m f).fits) (ap suc h)

-- of a text that the text rules accept, the count is that of its tokens without the end
pub split_counts : (s : List ℕ) (ts : List Token) → split s ≡ tokenized.tokens ts → suc (token_count (tokens_from s 0)) ≡ length ts
unfolding tokens_from
split_counts s ts e = cut_counts (drop 0 s) 0 0 ∙ ap length (split-reads s ts e)
