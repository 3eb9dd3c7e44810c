-- 02 (i): the listing has each item once, behind all it calls, each time the first that is free; and there is none exactly if a chain of
-- calls comes round to its start. Over any calls among n items.
use Prim.Native.Nat.{ℕ, zero, suc, ◌+◌, ◌≤◌, ◌<◌}
use mathlib.Core.Bool.{Bool, true, false, ◌&&◌, ◌||◌, not}
use mathlib.Core.List.{List, [], ◌∷◌, ◌++◌}
use mathlib.Core.Logic.{◌⊎◌, inl, inr, ⊎_elim}
use mathlib.Core.Option.{Option, none, some}
use mathlib.Core.Path.{◌≡◌, refl, sym, ap, ◌∙◌, subst}
use native.Mathlib.Nat.{eq-or-lt_of_le}
use native.Mathlib.Omega.{arith}
use borrow.Author.Tests.{eqb-true, not-true}
use lib.Dec.{eqb}
use lib.ListN.{length, get_or, take, length-append, get_or-append}
use lib.Seq.{take-append-le, take-append_seam, get_or-append_seam}
use Rattle.text.specs.Bytes.{one_of}
use Rattle.order.specs.Order.{Calls, every, first, free, and_then, listed, order, Listing, Chain, one, more, Ring}
use Rattle.text.proofs.CaseLaws.{Case, yes!, no!, case}
use Rattle.order.proofs.CountLaws.{both, clash, every-at, failing, is_first, none_first}
use Rattle.order.proofs.CountLaws.{tally, tally_none, tally-most, tally_less, tally-full, tally-more}

-- ---- members of a list

or_assoc : (a b c : Bool) → ((a || b) || c) ≡ (a || (b || c))
or_assoc true b c = refl
or_assoc false b c = refl

or_false : (a : Bool) → (a || false) ≡ a
or_false true = refl
or_false false = refl

or_comm : (a b : Bool) → (a || b) ≡ (b || a)
or_comm true true = refl
or_comm true false = refl
or_comm false true = refl
or_comm false false = refl

pub member_append : (l m : List ℕ) (j : ℕ) → one_of (l ++ m) j ≡ (one_of l j || one_of m j)
unfolding one_of
member_append [] m j = refl
member_append (x ∷ l) m j = rw (member_append l m j) (sym (or_assoc (eqb j x) (one_of l j) (one_of m j)))

pub member_more : (l : List ℕ) (i j : ℕ) → one_of (l ++ (i ∷ [])) j ≡ (eqb j i || one_of l j)
unfolding one_of
member_more l i j = member_append l (i ∷ []) j ∙ rw (or_false (eqb j i)) (or_comm (one_of l j) (eqb j i))

-- the first place of a number in a list
abbrev next_place : Bool → ℕ → ℕ
next_place true k = 0
next_place false k = suc k

place_in : List ℕ → ℕ → ℕ
place_in [] i = 0
place_in (x ∷ l) i = next_place (eqb i x) (place_in l i)

place_low : (l : List ℕ) (m i : ℕ) → one_of (take m l) i ≡ true → place_in l i < m
unfolding one_of place_in
place_low [] zero i e = clash e refl
place_low [] (suc m) i e = clash e refl
place_low (x ∷ l) zero i e = clash e refl
place_low (x ∷ l) (suc m) i e = go (λ f. place_low l m i f) (case (eqb i x))
  where
    go : (one_of (take m l) i ≡ true → place_in l i < m) → Case (eqb i x) → next_place (eqb i x) (place_in l i) < suc m
    go ih (yes! t) = rw t (omega arith)
    go ih (no! f) = rw f (omega (arith, ih (subst (λ (b : Bool). (b || one_of (take m l) i) ≡ true) f e)))

place_is : (l : List ℕ) (i : ℕ) → one_of l i ≡ true → (place_in l i < length l) × (get_or l (place_in l i) 0 ≡ i)
unfolding one_of place_in
place_is [] i e = clash e refl
place_is (x ∷ l) i e = go (λ f. place_is l i f) (case (eqb i x))
  where
    go : (one_of l i ≡ true → (place_in l i < length l) × (get_or l (place_in l i) 0 ≡ i)) → Case (eqb i x)
        → (next_place (eqb i x) (place_in l i) < suc (length l)) × (get_or (x ∷ l) (next_place (eqb i x) (place_in l i)) 0 ≡ i)
    go ih (yes! t) = rw t (omega arith, sym (eqb-true i x t))
    go ih (no! f) =
        let r = ih (subst (λ (b : Bool). (b || one_of l i) ≡ true) f e) in
        rw f (omega (arith, r.0), r.1)

module _ (calls : Calls) (n : ℕ) where
  -- ---- what is listed

  -- a part of the listing: each is the first that was free, and no two are the same
  pub record Sound (l : List ℕ) : Type 0 where
    pub each : (m : ℕ) → m < length l → first (free calls n (take m l)) n ≡ some (get_or l m 0)
    pub count : tally (one_of l) n ≡ length l

  sound_none : Sound []
  unfolding one_of
  sound_none = record { each = λ m l. absurd (omega arith); count = tally_none n }

  free-at : (l : List ℕ) {i : ℕ} → first (free calls n l) n ≡ some i
      → (i < n) × (one_of l i ≡ false) × ((j : ℕ) → j < n → calls i j ≡ true → one_of l j ≡ true)
  free-at l {i} e =
      let f = is_first (free calls n l) n i e in
      let b = both f.passes in
      (f.low, not-true (one_of l i) b.0, λ j h c. go j (every-at _ n b.1 j h) c)
    where
      go : (j : ℕ) → (not (calls i j) || one_of l j) ≡ true → calls i j ≡ true → one_of l j ≡ true
      go j h c = subst (λ (b : Bool). (not b || one_of l j) ≡ true) c h

  sound_more : {l : List ℕ} {i : ℕ} → Sound l → first (free calls n l) n ≡ some i → Sound (l ++ (i ∷ []))
  sound_more {l} {i} s e =
      let f = free-at l e in
      record {
        each = λ m h. ⊎_elim (at m) (before m) (let g : m ≤ length l = omega (arith, h, length-append l (i ∷ [])) in eq-or-lt_of_le g);
        count = tally-more (one_of l) (one_of (l ++ (i ∷ []))) i (member_more l i) n f.0 f.1
            ∙ ap suc s.count ∙ (let g = length-append l (i ∷ []) in omega arith);
      }
    where
      at : (m : ℕ) → m ≡ length l → first (free calls n (take m (l ++ (i ∷ [])))) n ≡ some (get_or (l ++ (i ∷ [])) m 0)
      at m h = rw (h, take-append_seam, get_or-append_seam) e

      before : (m : ℕ) → m < length l → first (free calls n (take m (l ++ (i ∷ [])))) n ≡ some (get_or (l ++ (i ∷ [])) m 0)
      before m h = rw (take-append-le m l (i ∷ []) (omega arith), get_or-append l (i ∷ []) 0 m h) (s.each m h)

  listed_sound : (k : ℕ) (l r : List ℕ) → Sound l → listed calls n k l ≡ some r → Sound r × (length r ≡ length l + k)
  unfolding listed
  listed_sound zero l r s e = let q : l ≡ r = cc in (subst Sound q s, ap length (sym q) ∙ (omega arith))
  listed_sound (suc k) l r s e = go (λ m. listed_sound k m r) (first (free calls n l) n) refl e
    where
      go : ((m : List ℕ) → Sound m → listed calls n k m ≡ some r → Sound r × (length r ≡ length m + k))
          → (o : Option ℕ) → first (free calls n l) n ≡ o → and_then o (λ i. listed calls n k (l ++ (i ∷ []))) ≡ some r
          → Sound r × (length r ≡ length l + suc k)
      go ih none f e = absurd (let z : ◌≡◌ {A = ℕ} 0 1 = cc in omega arith)
      go ih (some i) f e =
          let x = ih (l ++ (i ∷ [])) (sound_more s f) e in
          (x.0, omega (arith, x.1, length-append l (i ∷ [])))

  -- fewer than n are listed, and none is free
  record Stuck : Type 0 where
    list : List ℕ
    sound : Sound list
    few : length list < n
    stuck : first (free calls n list) n ≡ none

  listed_stuck : (k : ℕ) (l : List ℕ) → Sound l → length l + k ≡ n → listed calls n k l ≡ none → Stuck
  unfolding listed
  listed_stuck zero l s h e = absurd (let z : ◌≡◌ {A = ℕ} 0 1 = cc in omega arith)
  listed_stuck (suc k) l s h e = go (λ m. listed_stuck k m) (first (free calls n l) n) refl e
    where
      go : ((m : List ℕ) → Sound m → length m + k ≡ n → listed calls n k m ≡ none → Stuck)
          → (o : Option ℕ) → first (free calls n l) n ≡ o → and_then o (λ i. listed calls n k (l ++ (i ∷ []))) ≡ none → Stuck
      go ih none f e = record { list = l; sound = s; few = omega arith; stuck = f }
      go ih (some i) f e = ih (l ++ (i ∷ [])) (sound_more s f) (omega (arith, length-append l (i ∷ []))) e

  -- ---- the listing

  pub listing : (l : List ℕ) → order calls n ≡ some l → Listing calls n l
  listing l e =
      let s = listed_sound n [] l sound_none e in
      let h : length l ≡ n = omega (arith, s.1) in
      record {
        long = h;
        items = λ m g. (free-at (take m l) (s.0.each m (omega arith))).0;
        all = tally-full (one_of l) n (s.0.count ∙ h);
        once = λ m g. (free-at (take m l) (s.0.each m (omega arith))).1;
        after = λ m j g k c. (free-at (take m l) (s.0.each m (omega arith))).2 j k c;
        least = λ m i g k. (is_first (free calls n (take m l)) n (get_or l m 0) (s.0.each m (omega arith))).others i k;
      }

  -- ---- where there is a listing, no chain comes round

  chain_ends : {i j : ℕ} → Chain calls n i j → (i < n) × (j < n)
  chain_ends (one a b c) = (a, b)
  chain_ends (more a c x) = (a, (chain_ends x).1)

  call_down : {l : List ℕ} → Listing calls n l → {i j : ℕ} → i < n → j < n → calls i j ≡ true → place_in l j < place_in l i
  call_down {l} s {i} {j} a b c =
      let p = place_is l i (s.all i a) in
      place_low l (place_in l i) j
      (s.after (place_in l i) j (omega (arith, p.0, s.long)) b (subst (λ (k : ℕ). calls k j ≡ true) (sym p.1) c))

  chain_down : {l : List ℕ} → Listing calls n l → {i j : ℕ} → Chain calls n i j → place_in l j < place_in l i
  chain_down s (one a b c) = call_down s a b c
  chain_down s (more a c x) = let g = call_down s a (chain_ends x).0 c in omega (arith, chain_down s x)

  pub no_ring : (l : List ℕ) → order calls n ≡ some l → Ring calls n → ⊥
  no_ring l e r = omega (arith, chain_down (listing l e) r.1)

  -- ---- where there is none, one does: each item that is not listed calls one that is not listed

  chain_on : {i j k : ℕ} → Chain calls n i j → k < n → calls j k ≡ true → Chain calls n i k
  chain_on (one a b c) h d = more a c (one b h d)
  chain_on (more a c x) h d = more a c (chain_on x h d)

  module _ (s : Stuck) where
    next : (i : ℕ) → i < n → one_of s.list i ≡ false → (j : ℕ) × (j < n) × (one_of s.list j ≡ false) × (calls i j ≡ true)
    next i h u =
        let f : every (λ j. not (calls i j) || one_of s.list j) n ≡ false =
        subst (λ (b : Bool). (not b && every (λ j. not (calls i j) || one_of s.list j) n) ≡ false) u
        (none_first (free calls n s.list) n s.stuck i h) in
        let x = failing (λ j. not (calls i j) || one_of s.list j) n f in
        let y = parts (calls i x.0) (one_of s.list x.0) x.2 in
        (x.0, x.1, y.1, y.0)
      where
        parts : (a b : Bool) → (not a || b) ≡ false → (a ≡ true) × (b ≡ false)
        parts true b e = (refl, e)
        parts false b e = clash refl e

    -- a walk along such calls: from each item passed a chain leads to the last
    record Walk (v : List ℕ) (i : ℕ) : Type 0 where
      low : i < n
      left : one_of s.list i ≡ false
      leads : (j : ℕ) → one_of v j ≡ true → (j ≡ i) ⊎ Chain calls n j i
      count : tally (one_of v) n ≡ length v

    walk_on : {v : List ℕ} {i j : ℕ} → Walk v i → j < n → one_of s.list j ≡ false → calls i j ≡ true → one_of v j ≡ false
        → Walk (j ∷ v) j
    unfolding one_of
    walk_on {v} {i} {j} w h u c f = record {
      low = h;
      left = u;
      leads = λ k e. leads k e (case (eqb k j));
      count = tally-more (one_of v) (one_of (j ∷ v)) j (λ k. refl) n h f ∙ ap suc w.count;
    }
      where
        leads : (k : ℕ) → (eqb k j || one_of v k) ≡ true → Case (eqb k j) → (k ≡ j) ⊎ Chain calls n k j
        leads k e (yes! t) = inl (eqb-true k j t)
        leads k e (no! g) =
            ⊎_elim
            (λ q. inr (subst (λ (x : ℕ). Chain calls n x j) (sym q) (one w.low h c)))
            (λ x. inr (chain_on x h c))
            (w.leads k (subst (λ (b : Bool). (b || one_of v k) ≡ true) g e))

    -- it cannot pass more than n items
    walk : (k : ℕ) (v : List ℕ) (i : ℕ) → Walk v i → length v + k ≡ suc n → Ring calls n
    walk zero v i w h = absurd (omega (arith, w.count, tally-most (one_of v) n))
    walk (suc k) v i w h =
        let x = next i w.low w.left in go x.0 (λ u. walk k (x.0 ∷ v) x.0 u (omega arith)) x.1 x.2 x.3
      where
        go : (j : ℕ) → (Walk (j ∷ v) j → Ring calls n) → j < n → one_of s.list j ≡ false → calls i j ≡ true → Ring calls n
        go j ih l u c = by (case (one_of v j))
          where
            by : Case (one_of v j) → Ring calls n
            by (no! f) = ih (walk_on w l u c f)
            by (yes! t) =
                ⊎_elim
                (λ q. (i, one w.low w.low (subst (λ (x : ℕ). calls i x ≡ true) q c)))
                (λ x. (i, more w.low c x))
                (w.leads j t)

    round : Ring calls n
    unfolding one_of
    round =
        let x = tally_less (one_of s.list) n (omega (arith, s.few, s.sound.count)) in
        walk n (x.0 ∷ []) x.0
        (record {
          low = x.1;
          left = x.2;
          leads = λ j e. inl (eqb-true j x.0 (rw (or_false (eqb j x.0)) at e));
          count = tally-more (one_of []) (one_of (x.0 ∷ [])) x.0 (λ k. refl) n x.1 refl ∙ ap suc (tally_none n);
        })
        (omega arith)

  pub ring : order calls n ≡ none → Ring calls n
  ring e = round (listed_stuck n [] sound_none (omega arith) e)

  -- 39 "exactly if a ring of calls exists"
  pub ring_none : Ring calls n → order calls n ≡ none
  ring_none r = go (order calls n) refl
    where
      go : (o : Option (List ℕ)) → order calls n ≡ o → order calls n ≡ none
      go none e = e
      go (some l) e = absurd (no_ring l e r)
