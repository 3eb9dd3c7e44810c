-- The tokens of a text: their places rise, and a name stands in the text.
use Prim.Native.Nat.{ℕ, zero, suc, ◌+◌, ◌≤◌, ◌<◌}
use mathlib.Core.Bool.{Bool, true, false, ◌&&◌, ◌||◌, not, cond}
use mathlib.Core.List.{List, [], ◌∷◌}
use mathlib.Core.Path.{◌≡◌, refl, sym, ap, subst}
use native.Mathlib.Omega.{arith}
use lib.Dec.{ltb, eqb}
use lib.ListN.{length, get_or, take, drop}
use lib.Seq.{length-take-le}
use Rattle.text.specs.Limits.{whole_limit, places_limit}
use Rattle.text.specs.Bytes.{run, among, is_blank, is_name, is_letter, is_digit, is_inside}
use Rattle.text.proofs.ByteLaws.{run_le}
use Rattle.number.specs.Number.{Written}
use Rattle.error.specs.declared.Refusal.TheVariants.{BadForm, TooManyDigits}
use Rattle.token.specs.Token.{Kind, name, number, quoted, mark, Token, token, Lexeme, bad, piece, lexeme, place, is_mark}
use Rattle.token.specs.Token.{name_at, clings, places_of, Power, is_power, number_by, number_at, quoted_at, cut, cut_by, further, tokens_from}
use Rattle.law_rules.proofs.PlaceLaws.{Stands, Front, over, next, front}
use Rattle.law_renamed.proofs.StreamLaws.{Named, Fine}

-- ---- tokens from a place on stand there or behind it

abbrev Late : ℕ → List Token → Type 0
Late p ts = p ≤ place ts

cut_by_late : (b : Bool) (x : Lexeme) (p : ℕ) (ts : List Token) → suc p ≤ place ts → p ≤ place (cut_by b x p ts)
cut_by_late true x p ts h = omega arith
cut_by_late false (bad r) p ts h = omega arith
cut_by_late false (piece k n) p ts h = omega arith

cut_late : (k p : ℕ) (t : List ℕ) → p ≤ place (cut k p t)
unfolding cut
cut_late k p [] = omega arith
cut_late (suc k) p (b ∷ t) = omega (arith, cut_late k (suc p) t)
cut_late zero p (b ∷ t) =
    cut_by_late (is_blank b) (lexeme (b ∷ t)) p (cut (further (is_blank b) (lexeme (b ∷ t))) (suc p) t)
    (cut_late (further (is_blank b) (lexeme (b ∷ t))) (suc p) t)

pub late : (s : List ℕ) (q : ℕ) → q ≤ place (tokens_from s q)
unfolding tokens_from
late s q = cut_late 0 q (drop q s)

-- ---- a name is a part of the text

abbrev NameIn : List ℕ → Lexeme → Type 0
NameIn t (bad r) = Unit {0}
NameIn t (piece (name w) n) = take (length w) t ≡ w
NameIn t (piece (number w) n) = Unit {0}
NameIn t (piece (quoted m) n) = Unit {0}
NameIn t (piece (mark b) n) = Unit {0}

name_in : (t : List ℕ) → NameIn t (name_at t)
unfolding name_at
name_in t = go (eqb (get_or t (run is_name t) 0) 34)
  where
    go : (b : Bool) → NameIn t (cond b (bad BadForm) (piece (name (take (run is_name t) t)) (run is_name t)))
    go true = tt
    go false = ap (λ (n : ℕ). take n t) (length-take-le (run is_name t) t (run_le is_name t))

number_in : (t : List ℕ) (w : ℕ) (point : Bool) (end : ℕ) (x : Power) (s : Bool) (n : ℕ) → NameIn t (number_by t w point end x s n)
unfolding number_by
number_in t w point end x s n =
    go (clings t (not ((point || is_power x) || s)) n) (ltb whole_limit w || ltb places_limit (places_of point w end)) _
  where
    go : (b c : Bool) (v : Written) → NameIn t (cond b (bad BadForm) (cond c (bad TooManyDigits) (piece (number v) n)))
    go true c v = tt
    go false true v = tt
    go false false v = tt

quoted_in : (t : List ℕ) → NameIn t (quoted_at t)
unfolding quoted_at
quoted_in t =
    let m = run is_inside (drop 1 t) in
    go (eqb (get_or t (suc m) 0) 34 && not (is_name (get_or t (m + 2) 0))) m (m + 2)
  where
    go : (b : Bool) (m n : ℕ) → NameIn t (cond b (piece (quoted m) n) (bad BadForm))
    go true m n = tt
    go false m n = tt

lexeme_in : (t : List ℕ) → NameIn t (lexeme t)
unfolding lexeme number_at
lexeme_in t = go (is_letter (get_or t 0 0)) (is_digit (get_or t 0 0)) (eqb (get_or t 0 0) 34) (among ":;,=>.+-%([{)]}" (get_or t 0 0))
  where
    go : (a b c d : Bool)
        → NameIn t (cond a (name_at t) (cond b (number_at t) (cond c (quoted_at t) (cond d (piece (mark (get_or t 0 0)) 1) (bad BadForm)))))
    go true b c d = name_in t
    go false true c d = number_in t _ _ _ _ _ _
    go false false true d = quoted_in t
    go false false false true = tt
    go false false false false = tt

named : (s : List ℕ) (p : ℕ) (k : Kind) (n : ℕ) → lexeme (drop p s) ≡ piece k n → Named s p k
named s p (name w) n e = rw e at (lexeme_in (drop p s))
named s p (number w) n e = tt
named s p (quoted m) n e = tt
named s p (mark b) n e = tt

-- ---- the tokens of a text

no_end : {s : List ℕ} {q start n : ℕ} {k : Kind} → Stands s q start k n → is_mark k 0 ≡ false
no_end {k = name w} x = refl
no_end {k = number w} x = refl
no_end {k = quoted w} x = refl
no_end {k = mark b} x = x.whole.fits

onto : (s : List ℕ) (p : ℕ) (k : Kind) (ts : List Token) → Named s p k → is_mark k 0 ≡ false → p < place ts → Fine s ts
    → Fine s (token p k ∷ ts)
unfolding Fine
onto s p k [] f e g h = absurd h
onto s p k (token q j ∷ ts) f e g h = (f, (e, g, h))

fine_from : (s : List ℕ) (n q : ℕ) → q ≤ length s → length s < q + n → Fine s (tokens_from s q)
unfolding Fine
fine_from s zero q h g = absurd (omega arith)
fine_from s (suc n) q h g = go (front s q h) (λ m z y. fine_from s n m z y)
  where
    ended : (p : ℕ) → Fine s (token p (mark 0) ∷ [])
    ended p = (tt, refl)

    go : Front s q → ((m : ℕ) → m ≤ length s → length s < m + n → Fine s (tokens_from s m)) → Fine s (tokens_from s q)
    go (over p e) ih = subst (Fine s) (sym e) (ended p)
    go (next start k m x) ih =
        subst (Fine s) (sym x.is)
        (onto s start k (tokens_from s (start + m)) (named s start k m x.lexed) (no_end x)
        (omega (arith, late s (start + m), x.whole.some)) (ih (start + m) x.high (omega (arith, x.low, x.whole.some))))

pub fine_all : (s : List ℕ) → Fine s (tokens_from s 0)
fine_all s = fine_from s (suc (length s)) 0 (omega arith) (omega arith)

-- at most one for each byte, and the end
few_from : (s : List ℕ) (n q : ℕ) → q ≤ length s → length s < q + n → q + length (tokens_from s q) ≤ suc (length s)
few_from s zero q h g = absurd (omega arith)
few_from s (suc n) q h g = go (front s q h) (λ m z y. few_from s n m z y)
  where
    go : Front s q → ((m : ℕ) → m ≤ length s → length s < m + n → m + length (tokens_from s m) ≤ suc (length s))
        → q + length (tokens_from s q) ≤ suc (length s)
    go (over p e) ih = let z : length (tokens_from s q) ≡ 1 = ap length e in omega arith
    go (next start k m x) ih =
        let z : length (tokens_from s q) ≡ suc (length (tokens_from s (start + m))) = ap length x.is in
        omega (arith, ih (start + m) x.high (omega (arith, x.low, x.whole.some)), x.low, x.whole.some)

pub few_all : (s : List ℕ) → length (tokens_from s 0) ≤ suc (length s)
few_all s = omega (arith, few_from s (suc (length s)) 0 (omega arith) (omega arith))
