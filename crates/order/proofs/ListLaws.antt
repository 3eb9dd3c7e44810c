-- What the loops keep, in terms of the definitions.
use Prim.Native.Nat.{ℕ, suc, ◌+◌, ◌*◌, ◌-◌, ◌≤◌, ◌<◌}
use mathlib.Core.Bool.{Bool, true, false, not}
use mathlib.Core.List.{List, [], ◌∷◌, ◌++◌}
use mathlib.Core.Option.{Option, none, some}
use mathlib.Core.Path.{◌≡◌, sym, ap, ◌∙◌}
use native.Mathlib.Omega.{arith}
use native.Mathlib.Numerals.{add-one}
use borrow.Author.Tests.{eq-eqb, ne_eqb, not-true, not-false}
use lib.ListN.{length, take, set}
use lib.Seq.{take-suc-set}
use Rattle.text.specs.Bytes.{at, one_of}
use Rattle.order.specs.Order.{Calls, every, first, free, and_then, listed, order}
use Rattle.order.specs.Means.{calls_in, not_waiting}
use Rattle.order.proofs.CountLaws.{is_first}

-- ---- waiting

module _ (m l : List ℕ) (i j : ℕ) where
  pub waits_not : at m (i * 128 + j) ≡ 0 → false ≡ not (not_waiting (calls_in m) l i j)
  unfolding calls_in
  waits_not e = rw (eq-eqb (at m (i * 128 + j)) 0 e)

  pub waits_if : (at m (i * 128 + j) ≡ 0 → ⊥) → {r : Bool} → r ≡ one_of l j → not r ≡ not (not_waiting (calls_in m) l i j)
  unfolding calls_in
  waits_if e h = rw (ne_eqb (at m (i * 128 + j)) 0 e, h)

pub not_waiting-not : {b r : Bool} → r ≡ not b → r ≡ true → b ≡ false
not_waiting-not {b} e h = not-true b (sym e ∙ h)

pub not_waiting_on : {b r : Bool} → r ≡ not b → r ≡ false → b ≡ true
not_waiting_on {b} e h = not-false b (sym e ∙ h)

-- ---- free

module _ (calls : Calls) (n : ℕ) (l : List ℕ) (i : ℕ) where
  pub listed-not-free : {r : Bool} → r ≡ one_of l i → r ≡ true → false ≡ free calls n l i
  listed-not-free e h = rw (sym e ∙ h)

  pub free-if_ready : {r q : Bool} → r ≡ one_of l i → r ≡ false → q ≡ every (not_waiting calls l i) n → q ≡ free calls n l i
  free-if_ready e h f = rw (sym e ∙ h) f

-- ---- the listing

module _ (calls : Calls) (n : ℕ) where
  -- with k listed, what is still to come gives the whole
  pub record Coming (k : ℕ) (l : List ℕ) : Type 0 where
    pub is : listed calls n (n - k) l ≡ order calls n

  step : (d : ℕ) (l : List ℕ) {o : Option ℕ} → first (free calls n l) n ≡ o
      → listed calls n (suc d) l ≡ and_then o (λ i. listed calls n d (l ++ (i ∷ [])))
  unfolding listed
  step d l e = rw e

  pub coming_start : Coming 0 []
  coming_start = record { is = let q : n - 0 ≡ n = omega arith in rw q }

  pub coming_none : {k : ℕ} {l : List ℕ} → k < n → Coming k l → none ≡ first (free calls n l) n → none ≡ order calls n
  coming_none {k} {l} h c e =
      sym (step (n - suc k) l (sym e)) ∙ (let q : suc (n - suc k) ≡ n - k = omega arith in ap (λ (d : ℕ). listed calls n d l) q) ∙ c.is

  pub coming_next : (out : List ℕ) {k i : ℕ} → k < n → n ≤ length out → Coming k (take k out) → some i ≡ first (free calls n (take k out)) n
      → Coming (k + 1) (take (k + 1) (set out k i))
  coming_next out {k} {i} h g c e = record {
    is = rw (add-one k, take-suc-set out k i (omega arith))
        (sym (step (n - suc k) (take k out) (sym e))
        ∙ (let q : suc (n - suc k) ≡ n - k = omega arith in ap (λ (d : ℕ). listed calls n d (take k out)) q)
        ∙ c.is);
  }

  pub coming_done : (out : List ℕ) {k : ℕ} → k ≡ n → Coming k (take k out) → some (take n out) ≡ order calls n
  unfolding listed
  coming_done out {k} e c = let q : n - k ≡ 0 = omega arith in rw (q, e) at c.is

pub first_low : (p : ℕ → Bool) (n i : ℕ) → some i ≡ first p n → i < n
first_low p n i e = (is_first p n i (sym e)).low
