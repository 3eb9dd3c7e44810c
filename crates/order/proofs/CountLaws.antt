-- Tests on the numbers below n: each passes, the first that passes, how many pass.
use Prim.Native.Nat.{ℕ, zero, suc, ◌≤◌, ◌<◌}
use mathlib.Core.Bool.{Bool, true, false, ◌&&◌, ◌||◌}
use mathlib.Core.Logic.{⊎_elim}
use mathlib.Core.Option.{Option, none, some}
use mathlib.Core.Path.{◌≡◌, refl, sym, ◌∙◌, subst}
use native.Mathlib.Nat.{eq-or-lt_of_le, zero-add}
use native.Mathlib.Omega.{arith}
use borrow.Author.Tests.{eq-eqb, ne_eqb}
use lib.Dec.{eqb}
use Rattle.std.specs.Prelude.{Option as Found, Some, None}
use Rattle.std.specs.List.{list_all, range_with_len}
use Rattle.std.specs.Option.{MatchOption}
use Rattle.std.proofs.lemmas.List.FromFn.{length-range_with_len, get_or-range_with_len}
use Rattle.std.proofs.lemmas.List.Recursion.{and_from_places, and_fails_at}
use Rattle.text.specs.Means.{place_of}
use Rattle.text.specs.Words.{or_else}
use Rattle.text.proofs.CaseLaws.{Case, yes!, no!, case}
use Rattle.order.specs.Order.{every, only, first}

pub both : {a b : Bool} → (a && b) ≡ true → (a ≡ true) × (b ≡ true)
both {a} {b} = go a b
  where
    go : (a b : Bool) → (a && b) ≡ true → (a ≡ true) × (b ≡ true)
    go true b e = (refl, e)
    go false b e = absurd (let z : ◌≡◌ {A = ℕ} 0 1 = cc in omega arith)

pub clash {ℓ} : {A : Type ℓ} {b : Bool} → b ≡ true → b ≡ false → A
clash t f = absurd (let z : ◌≡◌ {A = ℕ} 0 1 = cc in omega arith)

-- the numbers below n + 1
pub below : {P : ℕ → Type 0} {n : ℕ} → ((j : ℕ) → j < n → P j) → P n → (j : ℕ) → j < suc n → P j
below {P} {n} h x j l = ⊎_elim (λ e. subst P (sym e) x) (λ g. h j g) (let g : j ≤ n = omega arith in eq-or-lt_of_le g)

-- ---- each passes

module _ (p : ℕ → Bool) where
  pub every-at : (n : ℕ) → every p n ≡ true → (j : ℕ) → j < n → p j ≡ true
  unfolding every
  every-at zero e j l = absurd (omega arith)
  every-at (suc n) e j l = let x = both e in below {P = λ j. p j ≡ true} (every-at n x.0) x.1 j l

  pub every-all : (n : ℕ) → ((j : ℕ) → j < n → p j ≡ true) → every p n ≡ true
  unfolding every
  every-all zero h = refl
  every-all (suc n) h = rw (every-all n (λ j l. h j (omega arith)), h n (omega arith))

  pub every-not : (n j : ℕ) → j < n → p j ≡ false → every p n ≡ false
  every-not n j l e = go (case (every p n))
    where
      go : Case (every p n) → every p n ≡ false
      go (yes! t) = clash (every-at n t j l) e
      go (no! f) = f

  -- one that does not
  pub failing : (n : ℕ) → every p n ≡ false → (j : ℕ) × (j < n) × (p j ≡ false)
  unfolding every
  failing zero e = clash refl e
  failing (suc n) e = go (λ f. failing n f) (case (every p n)) (case (p n))
    where
      go : (every p n ≡ false → (j : ℕ) × (j < n) × (p j ≡ false)) → Case (every p n) → Case (p n)
          → (j : ℕ) × (j < suc n) × (p j ≡ false)
      go ih (no! f) x = let r = ih f in (r.0, omega (arith, r.1), r.2)
      go ih (yes! t) (no! f) = (n, omega arith, f)
      go ih (yes! t) (yes! u) = clash {b = every p n && p n} (rw (t, u)) e

-- ---- the first that passes

module _ (p : ℕ → Bool) where
  pub record First (n i : ℕ) : Type 0 where
    pub low : i < n
    pub passes : p i ≡ true
    pub others : (j : ℕ) → j < i → p j ≡ false

  pub first-none : (n : ℕ) → ((j : ℕ) → j < n → p j ≡ false) → first p n ≡ none
  unfolding first
  first-none zero h = refl
  first-none (suc n) h = rw (first-none n (λ j l. h j (omega arith)), h n (omega arith))

  pub none_first : (n : ℕ) → first p n ≡ none → (j : ℕ) → j < n → p j ≡ false
  unfolding first
  none_first zero e j l = absurd (omega arith)
  none_first (suc n) e j l = go (λ f. none_first n f) (first p n) refl (case (p n)) e j l
    where
      go : (first p n ≡ none → (j : ℕ) → j < n → p j ≡ false) → (o : Option ℕ) → first p n ≡ o → Case (p n)
          → or_else o (only (p n) n) ≡ none → (j : ℕ) → j < suc n → p j ≡ false
      go ih none f (no! q) e j l = below {P = λ j. p j ≡ false} (ih f) q j l
      go ih none f (yes! q) e j l = absurd (let r = rw q at e in let z : ◌≡◌ {A = ℕ} 0 1 = cc in omega arith)
      go ih (some i) f c e j l = absurd (let z : ◌≡◌ {A = ℕ} 0 1 = cc in omega arith)

  pub first-is : (n i : ℕ) → First n i → first p n ≡ some i
  unfolding first
  first-is zero i f = absurd (omega (arith, f.low))
  first-is (suc n) i f = ⊎_elim at (past (λ g. first-is n i g)) (let g : i ≤ n = omega (arith, f.low) in eq-or-lt_of_le g)
    where
      at : i ≡ n → or_else (first p n) (only (p n) n) ≡ some i
      at e = rw (first-none n (λ j l. f.others j (omega arith)), subst (λ (k : ℕ). p k ≡ true) e f.passes, e)

      past : (First n i → first p n ≡ some i) → i < n → or_else (first p n) (only (p n) n) ≡ some i
      past ih l = rw (ih (record { low = l; passes = f.passes; others = f.others }))

  pub is_first : (n i : ℕ) → first p n ≡ some i → First n i
  unfolding first
  is_first zero i e = absurd (let z : ◌≡◌ {A = ℕ} 0 1 = cc in omega arith)
  is_first (suc n) i e = go (λ f. is_first n i f) (first p n) refl (case (p n)) e
    where
      go : (first p n ≡ some i → First n i) → (o : Option ℕ) → first p n ≡ o → Case (p n) → or_else o (only (p n) n) ≡ some i
          → First (suc n) i
      go ih none f (yes! q) e =
          let r : n ≡ i = cc (rw q at e) in
          record { low = omega arith; passes = subst (λ (k : ℕ). p k ≡ true) r q; others = λ j l. none_first n f j (omega arith) }
      go ih none f (no! q) e = absurd (let r = rw q at e in let z : ◌≡◌ {A = ℕ} 0 1 = cc in omega arith)
      go ih (some k) f c e = let r = ih (f ∙ e) in record { low = omega (arith, r.low); passes = r.passes; others = r.others }

-- ---- how many pass

abbrev plus : Bool → ℕ → ℕ
plus true k = suc k
plus false k = k

pub tally : (ℕ → Bool) → ℕ → ℕ
tally p zero = 0
tally p (suc n) = plus (p n) (tally p n)

plus_most : (b : Bool) {k n : ℕ} → k ≤ n → plus b k ≤ suc n
plus_most true h = omega arith
plus_most false h = omega arith

plus_less : (b : Bool) {k n : ℕ} → k < n → plus b k < suc n
plus_less true h = omega arith
plus_less false h = omega arith

plus_suc : (b : Bool) (k : ℕ) → plus b (suc k) ≡ suc (plus b k)
plus_suc true k = refl
plus_suc false k = refl

pub tally_none : (n : ℕ) → tally (λ i. false) n ≡ 0
unfolding tally
tally_none zero = refl
tally_none (suc n) = tally_none n

module _ (p : ℕ → Bool) where
  pub tally-most : (n : ℕ) → tally p n ≤ n
  unfolding tally
  tally-most zero = omega arith
  tally-most (suc n) = plus_most (p n) (tally-most n)

  -- fewer than all: one does not
  pub tally_less : (n : ℕ) → tally p n < n → (j : ℕ) × (j < n) × (p j ≡ false)
  unfolding tally
  tally_less zero l = absurd (omega arith)
  tally_less (suc n) l = go (λ h. tally_less n h) (case (p n))
    where
      go : (tally p n < n → (j : ℕ) × (j < n) × (p j ≡ false)) → Case (p n) → (j : ℕ) × (j < suc n) × (p j ≡ false)
      go ih (no! f) = (n, omega arith, f)
      go ih (yes! t) =
          let h : suc (tally p n) < suc n = subst (λ (b : Bool). plus b (tally p n) < suc n) t l in
          let r = ih (omega arith) in
          (r.0, omega (arith, r.1), r.2)

  tally_short : (n j : ℕ) → j < n → p j ≡ false → tally p n < n
  unfolding tally
  tally_short zero j l f = absurd (omega arith)
  tally_short (suc n) j l f =
      ⊎_elim at (λ h. plus_less (p n) (tally_short n j h f)) (let g : j ≤ n = omega arith in eq-or-lt_of_le g)
    where
      at : j ≡ n → plus (p n) (tally p n) < suc n
      at e = rw (subst (λ (k : ℕ). p k ≡ false) e f) (omega (arith, tally-most n))

  -- all of them
  pub tally-full : (n : ℕ) → tally p n ≡ n → (j : ℕ) → j < n → p j ≡ true
  tally-full n e j l = go (case (p j))
    where
      go : Case (p j) → p j ≡ true
      go (yes! t) = t
      go (no! f) = absurd (omega (arith, tally_short n j l f))

-- one more passes
module _ (p q : ℕ → Bool) (i : ℕ) (also : (j : ℕ) → q j ≡ (eqb j i || p j)) where
  tally-same : (n : ℕ) → n ≤ i → tally q n ≡ tally p n
  unfolding tally
  tally-same zero l = refl
  tally-same (suc n) l = rw (also n, ne_eqb n i (λ e. omega arith), tally-same n (omega arith))

  pub tally-more : (n : ℕ) → i < n → p i ≡ false → tally q n ≡ suc (tally p n)
  unfolding tally
  tally-more zero l f = absurd (omega arith)
  tally-more (suc n) l f = ⊎_elim at (past (λ h. tally-more n h f)) (let g : i ≤ n = omega arith in eq-or-lt_of_le g)
    where
      at : i ≡ n → plus (q n) (tally q n) ≡ suc (plus (p n) (tally p n))
      at e = rw (also n, eq-eqb n i (sym e), subst (λ (k : ℕ). p k ≡ false) e f, tally-same n (omega arith))

      past : (i < n → tally q n ≡ suc (tally p n)) → i < n → plus (q n) (tally q n) ≡ suc (plus (p n) (tally p n))
      past ih l = rw (also n, ne_eqb n i (λ e. omega arith), ih l) (plus_suc (p n) (tally p n))

-- ---- what `all` and `find` answer on the numbers below n

module _ (p : ℕ → Bool) (n : ℕ) where
  pub all-every : list_all p (range_with_len 0 n) ≡ every p n
  all-every = go (case (every p n))
    where
      go : Case (every p n) → list_all p (range_with_len 0 n) ≡ every p n
      go (yes! t) =
          and_from_places (list_all p) p refl (λ x xs. refl) (range_with_len 0 n) 0
          (λ i l.
          let h : i < n = omega (arith, length-range_with_len 0 n) in
          rw (get_or-range_with_len 0 n i 0 h, zero-add i) (every-at p n t i h))
          ∙ sym t
      go (no! f) =
          let x = failing p n f in
          and_fails_at (list_all p) p refl (λ x xs. refl) (range_with_len 0 n) x.0 0
          (omega (arith, x.1, length-range_with_len 0 n)) (rw (get_or-range_with_len 0 n x.0 0 x.1, zero-add x.0) x.2)
          ∙ sym f

  pub find-first : (r : Found ℕ)
      → MatchOption r
      ((k : ℕ) → 0 ≤ k → k < n → p k ≡ false)
      (λ i. (0 ≤ i) × (i < n) × (p i ≡ true) × ((k : ℕ) → 0 ≤ k → k < i → p k ≡ false))
      → place_of r ≡ first p n
  find-first None h = sym (first-none p n (λ j l. h j (omega arith) l))
  find-first (Some i) h = sym (first-is p n i (record { low = h.1; passes = h.2; others = λ j l. h.3 j (omega arith) l }))
