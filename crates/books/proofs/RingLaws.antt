-- 02 (i): "39 exactly if a ring of calls exists", and what an accepted listing is: statements on the definitions.
use Prim.Native.Nat.{ℕ}
use mathlib.Core.Bool.{Bool, true, false, cond}
use mathlib.Core.List.{List, ◌++◌}
use mathlib.Core.Option.{Option, none, some}
use mathlib.Core.Path.{◌≡◌, refl, sym, ap, ◌∙◌}
use native.Mathlib.Omega.{arith}
use lib.Dec.{ltb}
use lib.ListN.{length, drop}
use Rattle.error.specs.declared.Refusal.TheVariants.{RingOfCalls, OutputTooShort}
use Rattle.books.specs.Book.{Item, held, book}
use Rattle.order.specs.Order.{order, Ring, Listing}
use Rattle.order.proofs.OrderLaws as order
use Rattle.books.specs.Calls.{calls}
use Rattle.books.specs.Listing.{put, ordered, listing}
use Rattle.error.specs.declared.OrderAnswer.{OrderAnswer}
use Rattle.error.specs.declared.OrderAnswer.TheVariants as answer

-- a book whose items are xs
module _ (t out : List ℕ) (xs : List Item) (e : book t ≡ held xs) where
  listing_is : listing t out ≡ ordered out (order (calls t xs) (length xs))
  unfolding listing
  listing_is = rw e

  -- a ring of calls is refused with 39
  pub ring_refused : Ring (calls t xs) (length xs) → Prim.Path (OrderAnswer × List ℕ) (listing t out) (answer.Refused RingOfCalls 0, out)
  ring_refused r = listing_is ∙ ap (ordered out) (order.ring_none (calls t xs) (length xs) r)

  put_no_ring : (l : List ℕ) → (put out l).0 ≡ answer.Refused RingOfCalls 0 → ⊥
  put_no_ring l f = go (ltb (length out) (length l)) f
    where
      short : answer.Refused OutputTooShort 0 ≡ answer.Refused RingOfCalls 0 → ⊥
      short f = let z : ◌≡◌ {A = ℕ} 0 1 = cc in omega arith

      whole : answer.Listed (length l) ≡ answer.Refused RingOfCalls 0 → ⊥
      whole f = let z : ◌≡◌ {A = ℕ} 0 1 = cc in omega arith

      go : (b : Bool)
          → (cond {A = OrderAnswer × List ℕ} b (answer.Refused OutputTooShort 0, out)
          (answer.Listed (length l), l ++ drop (length l) out)).0
          ≡ answer.Refused RingOfCalls 0
          → ⊥
      go true f = short f
      go false f = whole f

  -- and 39 is given for nothing else
  pub refused_ring : (listing t out).0 ≡ answer.Refused RingOfCalls 0 → Ring (calls t xs) (length xs)
  refused_ring f = go (order (calls t xs) (length xs)) refl (sym (ap (λ (p : OrderAnswer × List ℕ). p.0) listing_is) ∙ f)
    where
      go : (o : Option (List ℕ)) → order (calls t xs) (length xs) ≡ o → (ordered out o).0 ≡ answer.Refused RingOfCalls 0
          → Ring (calls t xs) (length xs)
      go none g f = order.ring (calls t xs) (length xs) g
      go (some l) g f = absurd (put_no_ring l f)

  -- what is listed: every item once, each behind all it calls, each time the first that is free
  pub record Listed (k : ℕ) (a : List ℕ) : Type 0 where
    pub list : List ℕ
    pub is : Listing (calls t xs) (length xs) list
    pub count : k ≡ length list
    pub output : a ≡ list ++ drop (length list) out

  pub listed : (k : ℕ) (a : List ℕ) → Prim.Path (OrderAnswer × List ℕ) (listing t out) (answer.Listed k, a) → Listed k a
  listed k a f = go (order (calls t xs) (length xs)) refl (sym listing_is ∙ f)
    where
      whole : (l : List ℕ) → order (calls t xs) (length xs) ≡ some l → (b : Bool)
          → Prim.Path (OrderAnswer × List ℕ)
          (cond {A = OrderAnswer × List ℕ} b (answer.Refused OutputTooShort 0, out) (answer.Listed (length l), l ++ drop (length l) out))
          (answer.Listed k, a)
          → Listed k a
      whole l g true f = absurd (let h = ap (λ (p : OrderAnswer × List ℕ). p.0) f in let z : ◌≡◌ {A = ℕ} 0 1 = cc h in omega arith)
      whole l g false f =
          let h = ap (λ (p : OrderAnswer × List ℕ). p.0) f in
          record {
            list = l;
            is = order.listing (calls t xs) (length xs) l g;
            count = cc h;
            output = sym (ap (λ (p : OrderAnswer × List ℕ). p.1) f);
          }

      go : (o : Option (List ℕ)) → order (calls t xs) (length xs) ≡ o
          → Prim.Path (OrderAnswer × List ℕ) (ordered out o) (answer.Listed k, a)
          → Listed k a
      go none g f = absurd (let h = ap (λ (p : OrderAnswer × List ℕ). p.0) f in let z : ◌≡◌ {A = ℕ} 0 1 = cc h in omega arith)
      go (some l) g f = whole l g (ltb (length out) (length l)) f
