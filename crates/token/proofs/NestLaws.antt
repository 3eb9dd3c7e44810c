-- The delimiters alone: where each token of a text can be cut and the delimiters fit, the text is split (`fits_splits`), and only then
-- (`splits_fit`). The place of the last token, which tells that each can be cut, is the same wherever a reader stands (`last_rest`).
use Prim.Native.Nat.{ℕ, zero, suc, ◌+◌, ◌-◌}
use mathlib.Core.List.{List, [], ◌∷◌}
use mathlib.Core.Bool.{Bool, true, false, cond}
use mathlib.Core.Path.{◌≡◌, refl, sym, ◌∙◌, subst}
use native.Mathlib.Omega.{arith}
use lib.ListN.{length, drop, drop_of_length-le}
use Rattle.text.specs.Bytes.{is_blank}
use Rattle.error.specs.declared.Refusal.{Refusal}
use Rattle.token.specs.Token.{Kind, name, number, quoted, mark, Token, token, Lexeme, bad}
use Rattle.token.specs.Token.{piece, lexeme, cut_by, further, cut, tokens_from, is_mark, rest}
use Rattle.token.specs.Split.{Nest, unfit, awaits, nest, blank, nested, lexed, step, Split}
use Rattle.token.specs.Split.{unlexed, tokens, before, stepped, more, awaited, split_from, split}
use Rattle.token.specs.Means.{last_place, fits, answer_of}
use Rattle.token.specs.declared.SplitAnswer.TheVariants.{Accepted}
use Rattle.token.proofs.WholeLaws.{never, Fits, whole_of}
use Rattle.token.proofs.StreamLaws.{IsTokens, split-reads}

-- ---- the place of the last token

-- some token is always cut, so the place for none does not count
cut-last : (l : List ℕ) (k p q r : ℕ) → last_place q (cut k p l) ≡ last_place r (cut k p l)
unfolding cut last_place
cut-last [] k p q r = refl
cut-last (b ∷ l) (suc k) p q r = cut-last l k (suc p) q r
cut-last (b ∷ l) zero p q r = go (is_blank b) (lexeme (b ∷ l)) (λ k. cut-last l k (suc p) q r)
  where
    go : (x : Bool) (y : Lexeme) → ((k : ℕ) → last_place q (cut k (suc p) l) ≡ last_place r (cut k (suc p) l))
        → last_place q (cut_by x y p (cut (further x y) (suc p) l)) ≡ last_place r (cut_by x y p (cut (further x y) (suc p) l))
    go true y ih = ih 0
    go false (bad r) ih = refl
    go false (piece k n) ih = refl

rest-last : (l : List ℕ) (k p : ℕ) → last_place 0 (rest (cut k p l)) ≡ last_place 0 (cut k p l)
unfolding cut last_place
rest-last [] k p = refl
rest-last (b ∷ l) (suc k) p = rest-last l k (suc p)
rest-last (b ∷ l) zero p = go (is_blank b) (lexeme (b ∷ l)) (rest-last l 0 (suc p))
  where
    by : (k : Kind) (x : Bool) (ts : List Token) → last_place 0 ts ≡ last_place p ts
        → last_place 0 (cond x (token p k ∷ ts) ts) ≡ last_place p ts
    by k true ts e = refl
    by k false ts e = e

    go : (x : Bool) (y : Lexeme) → last_place 0 (rest (cut 0 (suc p) l)) ≡ last_place 0 (cut 0 (suc p) l)
        → last_place 0 (rest (cut_by x y p (cut (further x y) (suc p) l))) ≡ last_place 0 (cut_by x y p (cut (further x y) (suc p) l))
    go true y ih = ih
    go false (bad r) ih = refl
    go false (piece k n) ih = by k (is_mark k 0) (cut (n - 1) (suc p) l) (cut-last l (n - 1) (suc p) 0 p)

-- the tokens behind the first end where they do
pub last_rest : (s : List ℕ) (p : ℕ) → last_place 0 (rest (tokens_from s p)) ≡ last_place 0 (tokens_from s p)
unfolding tokens_from
last_rest s p = rest-last (drop p s) 0 p

-- at the text's end
pub last_end : (s : List ℕ) (p : ℕ) → p ≡ length s → last_place 0 (tokens_from s p) ≡ length s
unfolding tokens_from cut last_place
last_end s p e = rw (drop_of_length-le s {i = p} (omega arith)) e

-- ---- a text whose tokens are all cut is split exactly if its delimiters fit

tokens-before : (k : Token) (x : Split) → IsTokens x → IsTokens (before k x)
tokens-before k (unlexed r p) h = h
tokens-before k (tokens ts) h = tt

before-tokens : (k : Token) (x : Split) → IsTokens (before k x) → IsTokens x
before-tokens k (unlexed r p) h = h
before-tokens k (tokens ts) h = tt

-- the text's end is cut nowhere before it
no_end : (k : Kind) (n : ℕ) → Fits k n → is_mark k 0 ≡ false
no_end (name w) n h = refl
no_end (number w) n h = refl
no_end (quoted m) n h = refl
no_end (mark b) n h = h

pub unfit_fits : (r : Refusal) (ts : List Token) → fits (unfit r) ts ≡ false
unfolding fits
unfit_fits r [] = refl
unfit_fits r (token p k ∷ ts) = go (is_mark k 0) (unfit_fits r ts)
  where
    go : (b : Bool) → fits (unfit r) ts ≡ false → cond b false (fits (unfit r) ts) ≡ false
    go true e = refl
    go false e = e

-- the first k bytes belong to a token before
split_from_lem : (t : List ℕ) (k p : ℕ) (cs : List ℕ) → last_place 0 (cut k p t) ≡ p + length t
    → fits (awaits cs) (cut k p t) ≡ true → IsTokens (split_from k p cs t)
unfolding cut split_from step last_place fits
split_from_lem [] k p [] l h = tt
split_from_lem [] k p (c ∷ cs) l h = absurd (never h)
split_from_lem (b ∷ t) (suc k) p cs l h = split_from_lem t k (suc p) cs (omega arith) h
split_from_lem (b ∷ t) zero p cs l h = by (is_blank b) (lexeme (b ∷ t)) refl (λ k cs l h. split_from_lem t k (suc p) cs l h) l h
  where
    by : (x : Bool) (y : Lexeme) → lexeme (b ∷ t) ≡ y
        → ((k : ℕ) (cs : List ℕ) → last_place 0 (cut k (suc p) t) ≡ suc p + length t → fits (awaits cs) (cut k (suc p) t) ≡ true
        → IsTokens (split_from k (suc p) cs t))
        → last_place 0 (cut_by x y p (cut (further x y) (suc p) t)) ≡ p + length (b ∷ t)
        → fits (awaits cs) (cut_by x y p (cut (further x y) (suc p) t)) ≡ true
        → IsTokens (stepped (cond x blank (lexed cs y)) p
        (split_from (more (cond x blank (lexed cs y))) (suc p) (awaited cs (cond x blank (lexed cs y))) t))
    by true y f ih l h = ih 0 cs (omega arith) h
    by false (bad r) f ih l h = absurd (omega arith)
    by false (piece k n) f ih l h = on (nest k cs) (rw (no_end k n (whole_of (b ∷ t) k n f).fits) at h)
      where
        on : (z : Nest) → fits z (cut (n - 1) (suc p) t) ≡ true
            → IsTokens (stepped (nested k n z) p (split_from (more (nested k n z)) (suc p) (awaited cs (nested k n z)) t))
        on (unfit r) g = absurd (never (sym (unfit_fits r (cut (n - 1) (suc p) t)) ∙ g))
        on (awaits ds) g =
            tokens-before (token p k) (split_from (n - 1) (suc p) ds t)
            (ih (n - 1) ds (cut-last t (n - 1) (suc p) 0 p ∙ l ∙ (omega arith)) g)

pub fits_splits : (t : List ℕ) → last_place 0 (tokens_from t 0) ≡ length t → fits (awaits []) (tokens_from t 0) ≡ true
    → answer_of (split t) ≡ Accepted
unfolding split tokens_from
fits_splits t l h = go (split_from 0 0 [] t) (split_from_lem t 0 0 [] (omega arith) h)
  where
    go : (x : Split) → IsTokens x → answer_of x ≡ Accepted
    go (unlexed r p) i = absurd i
    go (tokens ts) i = refl

fits_from : (t : List ℕ) (k p : ℕ) (cs : List ℕ) → IsTokens (split_from k p cs t) → fits (awaits cs) (cut k p t) ≡ true
unfolding cut split_from step fits
fits_from [] k p [] h = refl
fits_from [] k p (c ∷ cs) h = absurd h
fits_from (b ∷ t) (suc k) p cs h = fits_from t k (suc p) cs h
fits_from (b ∷ t) zero p cs h = by (is_blank b) (lexeme (b ∷ t)) refl (λ k cs h. fits_from t k (suc p) cs h) h
  where
    by : (x : Bool) (y : Lexeme) → lexeme (b ∷ t) ≡ y
        → ((k : ℕ) (cs : List ℕ) → IsTokens (split_from k (suc p) cs t) → fits (awaits cs) (cut k (suc p) t) ≡ true)
        → IsTokens (stepped (cond x blank (lexed cs y)) p
        (split_from (more (cond x blank (lexed cs y))) (suc p) (awaited cs (cond x blank (lexed cs y))) t))
        → fits (awaits cs) (cut_by x y p (cut (further x y) (suc p) t)) ≡ true
    by true y f ih h = ih 0 cs h
    by false (bad r) f ih h = absurd h
    by false (piece k n) f ih h = rw (no_end k n (whole_of (b ∷ t) k n f).fits) (on (nest k cs) h)
      where
        on : (z : Nest) → IsTokens (stepped (nested k n z) p (split_from (more (nested k n z)) (suc p) (awaited cs (nested k n z)) t))
            → fits z (cut (n - 1) (suc p) t) ≡ true
        on (unfit r) g = absurd g
        on (awaits ds) g = ih (n - 1) ds (before-tokens (token p k) (split_from (n - 1) (suc p) ds t) g)

-- the delimiters of the tokens that a text is split into fit
pub splits_fit : (t : List ℕ) (ts : List Token) → split t ≡ tokens ts → fits (awaits []) ts ≡ true
unfolding split tokens_from
splits_fit t ts e = rw (← split-reads t ts e) (fits_from t 0 0 [] (subst IsTokens (sym e) tt))
