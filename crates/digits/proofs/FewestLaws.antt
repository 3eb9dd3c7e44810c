-- What `fewest` finds: a number that reads to the f32, with the fewest digits, and the smallest of these, if any reads to it.
use Prim.Native.Nat.{ℕ, ◌+◌, ◌*◌, ◌^◌, ◌≤◌, ◌<◌}
use mathlib.Core.Bool.{Bool, true, false, ◌&&◌}
use mathlib.Core.List.{List}
use mathlib.Core.Logic.{⊎_elim}
use mathlib.Core.Option.{Option, none, some}
use mathlib.Core.Path.{◌≡◌, refl, sym, ap, ◌∙◌, subst}
use native.Mathlib.Nat.{le_of_lt, lt_of_lt_of_le, not-le_of_lt}
use native.Mathlib.Omega.{arith}
use lib.Dec.{eqb}
use lib.ListN.{length}
use borrow.Author.Tests.{eq-eqb, eqb-true}
use Rattle.number.specs.Number.{nearest, bits}
use Rattle.digits.specs.Numeral.{Numeral, written}
use Rattle.digits.specs.Fewest.{least_below, is_some, then, numeral, count, reads, limit, smallest, fewest_digits, fewest}
use Rattle.digits.specs.Means.{bits_of}
use Rattle.digits.proofs.LeastLaws.{Least, Nowhere, least_of, nowhere_of, least_is, nowhere_is, never, either}
use Rattle.digits.proofs.NumeralLaws.{parts, reads_is, count-below, numeral-fits, numeral-same, numeral-bits, same-order, both}

-- m parts read to b
abbrev pub Reads : ℕ → ℕ → Type 0
Reads b m = bits_of m (10 ^ 40) ≡ b

pub record Shortest (b m : ℕ) : Type 0 where
  pub below : m < limit
  pub reads : Reads b m
  pub fewest : (k : ℕ) → k < limit → Reads b k → count m ≤ count k
  pub smallest : (k : ℕ) → k < limit → Reads b k → count k ≡ count m → m ≤ k

-- ---- one count of digits

abbrev test : ℕ → ℕ → ℕ → Bool
test b c m = eqb (count m) c && reads b m

test_true : (b c m : ℕ) → test b c m ≡ true → (count m ≡ c) × Reads b m
test_true b c m h =
    let t = both (eqb (count m) c) (reads b m) h in
    (eqb-true (count m) c t.0, eqb-true (bits_of m (10 ^ 40)) b (sym (reads_is b m) ∙ t.1))

test_is : (b c m : ℕ) → count m ≡ c → Reads b m → test b c m ≡ true
test_is b c m e r = rw (eq-eqb (count m) c e, reads_is b m, eq-eqb (bits_of m (10 ^ 40)) b r)

-- a test that cannot pass fails
fails : (x : Bool) → (x ≡ true → ⊥) → x ≡ false
fails true f = absurd (f refl)
fails false f = refl

module _ (b c : ℕ) where
  small_of : (m : ℕ) → smallest b c ≡ some m → Least (test b c) limit m
  unfolding smallest
  small_of m e = least_of (test b c) limit m e

  none_of : smallest b c ≡ none → (k : ℕ) → k < limit → Reads b k → count k ≡ c → ⊥
  unfolding smallest
  none_of e k h r q = never (test b c k) (test_is b c k q r) ((nowhere_of (test b c) limit e).fails k h)

  small_is : (m : ℕ) → Least (test b c) limit m → smallest b c ≡ some m
  unfolding smallest
  small_is m l = least_is (test b c) limit m l

  none_is : Nowhere (test b c) limit → smallest b c ≡ none
  unfolding smallest
  none_is f = nowhere_is (test b c) limit f

is_none : (o : Option ℕ) → is_some o ≡ false → o ≡ none
is_none none e = refl
is_none (some n) e = absurd (let z : ◌≡◌ {A = ℕ} 0 1 = cc in omega arith)

-- ---- the fewest

abbrev tried : ℕ → ℕ → Bool
tried b c = is_some (smallest b c)

module _ (b : ℕ) where
  shortest_by : (c m : ℕ) → Least (tried b) 81 c → smallest b c ≡ some m → Shortest b m
  shortest_by c m f e =
      let l = small_of b c m e in
      let t = test_true b c m l.passes in
      record {
        below = l.below;
        reads = t.1;
        fewest = λ k h r. subst (λ (x : ℕ). x ≤ count k) (sym t.0) (at_least k h r);
        smallest = λ k h r q. not-before k h (test_is b c k (q ∙ t.0) r);
      }
    where
      at_least : (k : ℕ) → k < limit → Reads b k → c ≤ count k
      at_least k h r =
          ⊎_elim (λ (g : c ≤ count k). g)
          (λ (g : count k < c). absurd (none_of b (count k) (is_none (smallest b (count k)) (f.before (count k) g)) k h r refl))
          (either c (count k))

      not-before : (k : ℕ) → k < limit → test b c k ≡ true → m ≤ k
      not-before k h q =
          ⊎_elim (λ (g : m ≤ k). g) (λ (g : k < m). never (test b c k) q ((small_of b c m e).before k g)) (either m k)

  pub fewest_of : (m : ℕ) → fewest b ≡ some m → Shortest b m
  unfolding fewest fewest_digits
  fewest_of m e = go (least_below (tried b) 81) refl e
    where
      go : (o : Option ℕ) → least_below (tried b) 81 ≡ o → then o (smallest b) ≡ some m → Shortest b m
      go none q e = absurd (let z : ◌≡◌ {A = ℕ} 0 1 = cc in omega arith)
      go (some c) q e = shortest_by c m (least_of (tried b) 81 c q) e

  pub shortest_is : (m : ℕ) → Shortest b m → fewest b ≡ some m
  unfolding fewest fewest_digits
  shortest_is m s = ap (λ (o : Option ℕ). then o (smallest b)) digits ∙ found
    where
      found : smallest b (count m) ≡ some m
      found =
          small_is b (count m) m
          (record {
            below = s.below;
            passes = test_is b (count m) m refl s.reads;
            before = λ j h. fails (test b (count m) j)
                (λ q.
                let t = test_true b (count m) j q in not-le_of_lt h (s.smallest j (lt_of_lt_of_le h (le_of_lt s.below)) t.1 t.0));
          })

      digits : least_below (tried b) 81 ≡ some (count m)
      digits =
          least_is (tried b) 81 (count m)
          (record {
            below = count-below m s.below;
            passes = ap is_some found;
            before = λ c h. ap is_some
                (none_is b c
                (record {
                  fails = λ k l. fails (test b c k)
                      (λ q. let t = test_true b c k q in not-le_of_lt h (subst (λ (x : ℕ). count m ≤ x) t.0 (s.fewest k l t.1)));
                }));
          })

  pub fewest_none : fewest b ≡ none → (k : ℕ) → k < limit → Reads b k → ⊥
  unfolding fewest fewest_digits
  fewest_none e k h r = go (least_below (tried b) 81) refl e
    where
      go : (o : Option ℕ) → least_below (tried b) 81 ≡ o → then o (smallest b) ≡ none → ⊥
      go none q e =
          none_of b (count k) (is_none (smallest b (count k)) ((nowhere_of (tried b) 81 q).fails (count k) (count-below k h))) k h r refl
      go (some c) q e = never (tried b c) (least_of (tried b) 81 c q).passes (ap is_some e)

  pub none_fewest : ((k : ℕ) → k < limit → Reads b k → ⊥) → fewest b ≡ none
  none_fewest f = go (fewest b) refl
    where
      go : (o : Option ℕ) → fewest b ≡ o → fewest b ≡ none
      go none e = e
      go (some m) e = let s = fewest_of m e in absurd (f m s.below s.reads)

-- ---- of all numbers that can be written

-- it has fewer digits, or as many and is no larger
pub record Ahead (u w : List ℕ × List ℕ) : Type 0 where
  pub fewer : length u.0 + length u.1 ≤ length w.0 + length w.1
  pub smaller : length w.0 + length w.1 ≡ length u.0 + length u.1
      → (written u).digits * 10 ^ (written w).places ≤ (written w).digits * 10 ^ (written u).places

lengths : (m : ℕ) → count m ≡ length (numeral m).0 + length (numeral m).1
unfolding count
lengths m = refl

module _ (b m : ℕ) (e : fewest b ≡ some m) where
  pub fewest-numeral : Numeral (numeral m)
  fewest-numeral = numeral-fits m (fewest_of b m e).below

  pub fewest-reads : bits (nearest false (written (numeral m))) ≡ b
  fewest-reads = numeral-bits m ∙ (fewest_of b m e).reads

  pub fewest_ahead : (w : List ℕ × List ℕ) → Numeral w → bits (nearest false (written w)) ≡ b → Ahead (numeral m) w
  fewest_ahead w u r =
      let s = fewest_of b m e in
      let k = (parts w u).0 in
      let i = (parts w u).1 in
      let q : Reads b k = sym i.bits ∙ r in
      record {
        fewer = omega (arith, lengths m, s.fewest k i.below q, i.fewer);
        smaller = λ h. same-order (numeral-same m) i.same
            (s.smallest k i.below q (omega (arith, lengths m, s.fewest k i.below q, i.fewer)));
      }

-- where any number reads to b, one is found
pub fewest_some : (b : ℕ) (w : List ℕ × List ℕ) → Numeral w → bits (nearest false (written w)) ≡ b → (m : ℕ) × (fewest b ≡ some m)
fewest_some b w u r = go (fewest b) refl
  where
    go : (o : Option ℕ) → fewest b ≡ o → (m : ℕ) × (fewest b ≡ some m)
    go none e = let i = (parts w u).1 in absurd (fewest_none b e (parts w u).0 i.below (sym i.bits ∙ r))
    go (some m) e = (m, e)
