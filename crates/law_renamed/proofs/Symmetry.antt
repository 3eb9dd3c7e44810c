-- 02 (m): of two scripts that agree either may be the first.
use Prim.Native.Nat.{ℕ}
use mathlib.Core.Bool.{Bool, true, false, ◌||◌}
use mathlib.Core.List.{List, [], ◌∷◌, map}
use mathlib.Core.Path.{◌≡◌, refl, sym, ap, subst}
use lib.Dec.{eqb}
use borrow.Author.Tests.{eqb-true, eq-eqb}
use Rattle.text.specs.Bytes.{one_of}
use Rattle.token.specs.Token.{Kind, Token, token, tokens_from}
use Rattle.reading.specs.Reading.{reading}
use Rattle.error.specs.declared.ReadAnswer.TheVariants.{Accepted}
use Rattle.script.proofs.Reading.{due}
use Rattle.law_renamed.specs.Words.{free_of, shown, Agree}
use Rattle.law_renamed.specs.Renaming.{Renamed}
use Rattle.law_renamed.proofs.StreamLaws.{Across, kind_in, text_in, flag_in, same_word}
use Rattle.law_renamed.proofs.Renamed.{across_to, across_all, alike}

or_true : (a b : Bool) → b ≡ true → (a || b) ≡ true
or_true true b e = refl
or_true false b e = e

among_across : (f : ℕ → ℕ) (ps : List ℕ) (p : ℕ) → one_of ps p ≡ true → one_of (map f ps) (f p) ≡ true
unfolding one_of
among_across f [] p h = h
among_across f (q ∷ ps) p h = go (eqb p q) refl h (λ g. among_across f ps p g)
  where
    go : (b : Bool) → eqb p q ≡ b → (b || one_of ps p) ≡ true → (one_of ps p ≡ true → one_of (map f ps) (f p) ≡ true)
        → (eqb (f p) (f q) || one_of (map f ps) (f p)) ≡ true
    go true e h ih = rw (eq-eqb (f p) (f q) (ap f (eqb-true p q e)))
    go false e h ih = or_true (eqb (f p) (f q)) (one_of (map f ps) (f p)) (ih h)

-- tokens that are equal where they are free in the first are equal where they are free in the second
turn_one : (b c : Bool) (t u : List ℕ) (p q : ℕ) (k l : Kind) (ts us : List Token) → (b ≡ true → c ≡ true)
    → shown b t (token p k) ts ≡ shown b u (token q l) us
    → shown c u (token q l) us ≡ shown c t (token p k) ts
turn_one true c t u p q k l ts us h e = rw (h refl) (sym e)
turn_one false c t u p q k l ts us h e = sym (same_word c (ap kind_in e) (ap text_in e) (ap flag_in e))

turn : (t u free : List ℕ) (f : ℕ → ℕ) (ts us : List Token) → Across f ts us → Agree t u free ts us → Agree u t (map f free) us ts
unfolding Across Agree
turn t u free f [] [] e h = tt
turn t u free f [] (b ∷ us) e h = absurd h
turn t u free f (a ∷ ts) [] e h = absurd h
turn t u free f (token p k ∷ ts) (token q l ∷ us) e h = (
  turn_one (one_of free p) (one_of (map f free) q) t u p q k l ts us
      (λ z. subst (λ (y : ℕ). one_of (map f free) y ≡ true) (sym e.0) (among_across f free p z))
      h.0,
  turn t u free f ts us e.1 h.1,
)

pub symmetric : (t scratch sheet : List ℕ) (n c k : ℕ) → (reading t scratch sheet).0 ≡ Accepted n c k
    → (u scratch' sheet' : List ℕ) (m d j : ℕ) → (reading u scratch' sheet').0 ≡ Accepted m d j
    → Renamed t u → Renamed u t
unfolding Renamed
symmetric t scratch sheet n c k e u scratch' sheet' m d j g h =
    let a = due t scratch sheet n c k e in
    let b = due u scratch' sheet' m d j g in
    let r = alike t u a.0 b.0 k j a.1.parses b.1.parses h in
    rw (b.1.parses, r.free)
    (turn t u (free_of a.0) (across_to t u) (tokens_from t 0) (tokens_from u 0) (across_all t u) (rw a.1.parses at h))
