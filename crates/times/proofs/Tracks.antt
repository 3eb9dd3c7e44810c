-- Demand 3's numeric laws, of a list of written times.
use mathlib.Core.Path.{◌≡◌, refl, sym, ap, ◌∙◌, subst}
use mathlib.Core.Logic.{◌⊎◌, ⊎_elim}
use mathlib.Core.Bool.{Bool, true, false, ◌||◌}
use mathlib.Core.List.{List, [], ◌∷◌, ◌++◌, map, map-append, append_assoc}
use mathlib.Core.Option.{none, some}
use Prim.Native.Nat.{ℕ, zero, suc, ◌≤◌, ◌<◌, zero-le, suc-le-suc}
use native.Mathlib.Nat.{add-zero, eq-or-lt_of_le, zero-lt-suc, le_of_suc-le-suc, not-suc-le-zero}
use native.Mathlib.Numerals.{add-one}
use native.Mathlib.Omega.{arith}
use lib.ListN.{get_elem?, length, length-append}
use lib.Ieee.{Float}
use Rattle.number.specs.Time.{Key, stored_time, near, any_near, duplicates}
use Rattle.times.specs.Terms.{FairPercent, AtMost, Far, Equal, Close, Each, Pairs}
use Rattle.times.proofs.Times.{far_not-near, same-near}

-- ---- some pair is near
or_false : (a b : Bool) → a ≡ false → b ≡ false → (a || b) ≡ false
or_false true b p q = p
or_false false b p q = q

or_left : (a b : Bool) → a ≡ true → (a || b) ≡ true
or_left true b p = refl
or_left false true p = refl
or_left false false p = p

or_right : (a b : Bool) → b ≡ true → (a || b) ≡ true
or_right true b p = refl
or_right false b p = p

-- ---- places of a list
place_lt : (ks : List Key) (i : ℕ) (t : Key) → get_elem? ks i ≡ some t → i < length ks
place_lt [] i t e = absurd (no e)
  where
    no : none ≡ some t → ⊥
    no e = let z : ◌≡◌ {A = ℕ} 0 1 = cc in omega arith
place_lt (v ∷ vs) zero t e = zero-lt-suc (length vs)
place_lt (v ∷ vs) (suc i) t e = suc-le-suc (place_lt vs i t e)

place_left : (ss ks : List Key) (i : ℕ) → i < length ss → get_elem? (ss ++ ks) i ≡ get_elem? ss i
place_left [] ks i h = absurd (not-suc-le-zero h)
place_left (v ∷ vs) ks zero h = refl
place_left (v ∷ vs) ks (suc i) h = place_left vs ks i (le_of_suc-le-suc h)

place-next : (ss : List Key) (t : Key) (ks : List Key) → get_elem? (ss ++ t ∷ ks) (length ss) ≡ some t
place-next [] t ks = refl
place-next (v ∷ vs) t ks = place-next vs t ks

inner : (t u : Key) → some t ≡ some u → t ≡ u
inner t u e = cc

-- ---- one time against those before it
all_far : (x : Float) (ss : List Key)
    → ((i : ℕ) (s : Key) → get_elem? ss i ≡ some s → near (stored_time s) x ≡ false)
    → any_near x (map stored_time ss) ≡ false
unfolding any_near
all_far x [] f = refl
all_far x (v ∷ vs) f = or_false (near (stored_time v) x) (any_near x (map stored_time vs)) (f 0 v refl) (all_far x vs (λ i. f (suc i)))

one-near : (x : Float) (ss : List Key) (i : ℕ) (s : Key) → get_elem? ss i ≡ some s
    → near (stored_time s) x ≡ true → any_near x (map stored_time ss) ≡ true
unfolding any_near
one-near x [] i s e h = cc
one-near x (v ∷ vs) zero s e h = or_left (near (stored_time v) x) (any_near x (map stored_time vs)) (rw (inner v s e) h)
one-near x (v ∷ vs) (suc i) s e h = or_right (near (stored_time v) x) (any_near x (map stored_time vs)) (one-near x vs i s e h)

-- ---- those of a list against each other, some before them being given
abbrev Unlike : Key → Key → Type 0
Unlike t u = near (stored_time t) (stored_time u) ≡ false

-- the next one goes to those before
shifted : (ss : List Key) (t : Key) (ks : List Key) (b : Bool)
    → duplicates (map stored_time (ss ++ t ∷ [])) (map stored_time ks) ≡ b
    → duplicates (map stored_time ss ++ stored_time t ∷ []) (map stored_time ks) ≡ b
shifted ss t ks b h = subst (λ (l : List Float). duplicates l (map stored_time ks) ≡ b) (map-append stored_time ss (t ∷ [])) h

never_from : (ss ks : List Key) → Pairs Unlike (ss ++ ks) → duplicates (map stored_time ss) (map stored_time ks) ≡ false
unfolding duplicates
never_from ss [] f = refl
never_from ss (t ∷ ts) f =
    or_false (any_near (stored_time t) (map stored_time ss)) _
    (all_far (stored_time t) ss (λ i s e.
    let h = place_lt ss i s e in
    f i (length ss) s t h (place_left ss (t ∷ ts) i h ∙ e) (place-next ss t ts)))
    (shifted ss t ts false (never_from (ss ++ t ∷ []) ts (subst (Pairs Unlike) (sym (append_assoc ss (t ∷ []) ts)) f)))

always_from : (ss ks : List Key) (i j : ℕ) (t u : Key) → i < j → length ss ≤ j
    → get_elem? (ss ++ ks) i ≡ some t → get_elem? (ss ++ ks) j ≡ some u
    → near (stored_time t) (stored_time u) ≡ true
    → duplicates (map stored_time ss) (map stored_time ks) ≡ true
unfolding duplicates
always_from ss [] i j t u l h p q n =
    absurd (no (length ss) j (length (ss ++ [])) h (place_lt (ss ++ []) j u q) (simp (length-append) (add-zero (length ss))))
  where
    no : (a j b : ℕ) → a ≤ j → j < b → b ≡ a → ⊥
    no a j b h l e = omega arith
always_from ss (v ∷ vs) i j t u l h p q n =
    ⊎_elim here
    (λ (g : length ss < j).
    or_right (any_near (stored_time v) (map stored_time ss)) _
    (shifted ss v vs true
    (always_from (ss ++ v ∷ []) vs i j t u l (simp length-append (subst (λ (x : ℕ). x ≤ j) (sym (add-one (length ss))) g))
    (rw append_assoc p) (rw append_assoc q) n)))
    (eq-or-lt_of_le h)
  where
    here : length ss ≡ j
        → (any_near (stored_time v) (map stored_time ss) || duplicates (map stored_time ss ++ stored_time v ∷ []) (map stored_time vs)) ≡ true
    here e =
        let v-is : v ≡ u = inner v u (sym (place-next ss v vs) ∙ ap (get_elem? (ss ++ v ∷ vs)) e ∙ q) in
        or_left (any_near (stored_time v) (map stored_time ss)) _
        (one-near (stored_time v) ss i t (sym (place_left ss (v ∷ vs) i (subst (λ (x : ℕ). i < x) (sym e) l)) ∙ p) (rw v-is n))

-- ---- "its written times differ pairwise ..": checking never finds a duplicate; two equal, or too close: it always does
module _ (k : ℕ) (K : k ≤ 34) (ks : List Key) (F : Each FairPercent ks) (A : Each (AtMost k) ks) where
  pub never : Pairs (Far k) ks → duplicates [] (map stored_time ks) ≡ false
  never f = never_from [] ks (λ i j t u l p q. far_not-near k K t u (F i t p) (F j u q) (A i t p) (A j u q) (f i j t u l p q))

  pub always : (i j : ℕ) (t u : Key) → i < j → get_elem? ks i ≡ some t
      → get_elem? ks j ≡ some u → Equal t u ⊎ ((k ≡ 0) × Close t u)
      → duplicates [] (map stored_time ks) ≡ true
  always i j t u l p q e = always_from [] ks i j t u l zero-le p q (same-near k K t u (F i t p) (F j u q) (A i t p) (A j u q) e)
