-- What the grammar's proofs stand on: the tokens of a text that is split are those that a reader comes to, its bytes are none of the
-- foreign ones, and tokens lie in the text.
use Prim.Native.Nat.{ℕ, zero, suc, ◌-◌, ◌<◌}
use mathlib.Core.List.{List, [], ◌∷◌}
use mathlib.Core.Bool.{Bool, true, false, cond}
use mathlib.Core.Path.{◌≡◌, refl, sym, ap, ◌∙◌, subst}
use native.Mathlib.Omega.{arith}
use lib.ListN.{length, get_or}
use Rattle.text.specs.Bytes.{is_blank, is_foreign}
use Rattle.token.specs.Token.{Token, token, Lexeme, bad}
use Rattle.token.specs.Token.{piece, lexeme, cut_by, further, cut, tokens_from}
use Rattle.token.specs.Split.{Nest, unfit, awaits, nest, blank, nested, lexed, step, Split}
use Rattle.token.specs.Split.{unlexed, tokens, before, stepped, more, awaited, split_from, split}
use Rattle.token.proofs.WholeLaws.{whole_of, blank_clean}

abbrev split-tokens : Split → List Token
split-tokens (unlexed r p) = []
split-tokens (tokens ts) = ts

abbrev pub IsTokens : Split → Type 0
IsTokens (unlexed r p) = ⊥
IsTokens (tokens ts) = Unit {0}

is_tokens : (x : Split) (ts : List Token) → x ≡ tokens ts → IsTokens x
is_tokens x ts e = subst IsTokens (sym e) tt

-- ---- a reader comes to the tokens that a text is split into

-- one step of both, where the rest agrees
join_step : (p : ℕ) (b : Bool) (x : Lexeme) (cs : List ℕ) (y : Split) (us : List Token) → (IsTokens y → us ≡ split-tokens y)
    → IsTokens (stepped (cond b blank (lexed cs x)) p y) → cut_by b x p us ≡ split-tokens (stepped (cond b blank (lexed cs x)) p y)
join_step p true x cs y us ih h = ih h
join_step p false (bad r) cs y us ih h = absurd h
join_step p false (piece k n) cs y us ih h = on (nest k cs) y ih h
  where
    on : (z : Nest) (y : Split) → (IsTokens y → us ≡ split-tokens y)
        → IsTokens (stepped (nested k n z) p y)
        → token p k ∷ us ≡ split-tokens (stepped (nested k n z) p y)
    on (unfit r) y ih h = absurd h
    on (awaits ds) (unlexed r q) ih h = absurd h
    on (awaits ds) (tokens ts) ih h = ap (λ (vs : List Token). token p k ∷ vs) (ih h)

-- the bytes that a step takes beyond the first are the same
join_more : (b : Bool) (x : Lexeme) (cs : List ℕ) (y : Split) (p : ℕ)
    → IsTokens (stepped (cond b blank (lexed cs x)) p y)
    → further b x ≡ more (cond b blank (lexed cs x))
join_more true x cs y p h = refl
join_more false (bad r) cs y p h = absurd h
join_more false (piece k n) cs y p h = on (nest k cs) h
  where
    on : (z : Nest) → IsTokens (stepped (nested k n z) p y) → n - 1 ≡ more (nested k n z)
    on (unfit r) h = absurd h
    on (awaits ds) h = refl

joined : (t : List ℕ) (k p : ℕ) (cs : List ℕ) → IsTokens (split_from k p cs t) → cut k p t ≡ split-tokens (split_from k p cs t)
unfolding cut split_from step
joined [] k p [] h = refl
joined [] k p (c ∷ cs) h = absurd h
joined (b ∷ t) (suc k) p cs h = joined t k (suc p) cs h
joined (b ∷ t) zero p cs h =
    let st = cond (is_blank b) blank (lexed cs (lexeme (b ∷ t))) in
    let y = split_from (more st) (suc p) (awaited cs st) t in
    ap (λ (n : ℕ). cut_by (is_blank b) (lexeme (b ∷ t)) p (cut n (suc p) t)) (join_more (is_blank b) (lexeme (b ∷ t)) cs y p h)
    ∙ join_step p (is_blank b) (lexeme (b ∷ t)) cs y (cut (more st) (suc p) t) (λ g. joined t (more st) (suc p) (awaited cs st) g) h

pub split-reads : (s : List ℕ) (ts : List Token) → split s ≡ tokens ts → tokens_from s 0 ≡ ts
unfolding split tokens_from
split-reads s ts e = joined s 0 0 [] (is_tokens _ ts e) ∙ ap split-tokens e

-- ---- a text that is split has no foreign byte

abbrev Clean : List ℕ → Type 0
Clean t = (i : ℕ) → i < length t → is_foreign (get_or t i 0) ≡ false

clean_cons : (b : ℕ) (t : List ℕ) → is_foreign b ≡ false → Clean t → Clean (b ∷ t)
clean_cons b t h r zero l = h
clean_cons b t h r (suc i) l = r i (omega arith)

before-tokens : (t : Token) (x : Split) → IsTokens (before t x) → IsTokens x
before-tokens t (unlexed r p) h = h
before-tokens t (tokens ts) h = tt

-- the first k bytes belong to a token before
clean_from : (t : List ℕ) (k p : ℕ) (cs : List ℕ) → IsTokens (split_from k p cs t)
    → ((j : ℕ) → j < k → is_foreign (get_or t j 0) ≡ false)
    → Clean t
unfolding split_from step
clean_from [] k p cs g h = λ i l. absurd (omega arith)
clean_from (b ∷ t) (suc k) p cs g h = clean_cons b t (h 0 (omega arith)) (clean_from t k (suc p) cs g (λ j q. h (suc j) (omega arith)))
clean_from (b ∷ t) zero p cs g h = by (is_blank b) refl (lexeme (b ∷ t)) refl (λ k p cs g h. clean_from t k p cs g h) g
  where
    by : (x : Bool) → is_blank b ≡ x → (y : Lexeme) → lexeme (b ∷ t) ≡ y
        → ((k p : ℕ) (cs : List ℕ) → IsTokens (split_from k p cs t) → ((j : ℕ) → j < k → is_foreign (get_or t j 0) ≡ false) → Clean t)
        → IsTokens (stepped (cond x blank (lexed cs y)) p
        (split_from (more (cond x blank (lexed cs y))) (suc p) (awaited cs (cond x blank (lexed cs y))) t))
        → Clean (b ∷ t)
    by true e y f ih g = clean_cons b t (blank_clean b e) (ih 0 (suc p) cs g (λ j q. absurd (omega arith)))
    by false e (bad r) f ih g = absurd g
    by false e (piece k n) f ih g = on (nest k cs) g
      where
        on : (z : Nest)
            → IsTokens (stepped (nested k n z) p (split_from (more (nested k n z)) (suc p) (awaited cs (nested k n z)) t))
            → Clean (b ∷ t)
        on (unfit r) g = absurd g
        on (awaits ds) g =
            let w = whole_of (b ∷ t) k n f in
            clean_cons b t (w.clean 0 w.some)
            (ih (n - 1) (suc p) ds (before-tokens (token p k) (split_from (n - 1) (suc p) ds t) g) (λ j q. w.clean (suc j) (omega arith)))

pub clean : (t : List ℕ) (ts : List Token) → split t ≡ tokens ts → (i : ℕ) → i < length t → is_foreign (get_or t i 0) ≡ false
unfolding split
clean t ts e = clean_from t 0 0 [] (is_tokens _ ts e) (λ j q. absurd (omega arith))
