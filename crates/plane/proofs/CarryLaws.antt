-- One step of carrying, in either direction: what is right so far stays right, and the bytes and the number carried are right too.
use Prim.Native.Nat.{ℕ, zero, suc, ◌+◌, ◌*◌, ◌<◌}
use mathlib.Core.Bool.{Bool}
use mathlib.Core.List.{List, ◌∷◌, ◌++◌, map, map-append}
use mathlib.Core.Logic.{◌⊎◌, inl, inr, ⊎_elim}
use mathlib.Core.Path.{◌≡◌, refl, sym, ◌∙◌, ap, subst, subst⁻¹}
use native.Mathlib.Omega.{arith}
use borrow.Author.Tests.{eq-eqb, ne_eqb}
use lib.ListN.{length, get_or}
use Rattle.codec.specs.Codec.{big}
use Rattle.ast.specs.Tree.{Nodes, leaf, box}
use Rattle.sheet.specs.Sheet.{Forest}
use Rattle.sheet.specs.Records.{nodes_of}
use Rattle.sheet.proofs.Flat.{concat, concat_append}
use Rattle.planed.specs.Planes.{leaf_numbers, numbers_of}
use Rattle.plane.specs.Means.{Right, Alike, FourBytes, NumberAlike, NumberRight, Advances}
use Rattle.plane.proofs.MoveLaws.{four_kept}
use Rattle.plane.specs.CarryMeans.{Gap, Side, wide, narrow, Done, own_numbers}
use Rattle.plane.proofs.GapLaws.{alike, number_alike}

-- ---- a step

turned : {l f : List ℕ} {p d q e : ℕ} → FourBytes l p d f q e → FourBytes f q e l p d
turned h = record { first = sym h.first; second = sym h.second; third = sym h.third; fourth = sym h.fourth }

pub split : (b x k : ℕ) → x < b + k → (x < b) ⊎ ((m : ℕ) × (m < k) × (x ≡ b + m))
split zero x k h = inr (x, omega arith, omega arith)
split (suc b) zero k h = inl (omega arith)
split (suc b) (suc x) k h = ⊎_elim (λ l. inl (up x b l)) (λ m. inr (m.0, m.1, ap suc m.2 ∙ back b m.0)) (split b x k (omega arith))
  where
    up : (x b : ℕ) → x < b → suc x < suc b
    up x b h = omega arith

    back : (b m : ℕ) → suc (b + m) ≡ suc b + m
    back b m = omega arith

four_cases : (m : ℕ) → m < 4 → (m ≡ 0) ⊎ ((m ≡ 1) ⊎ ((m ≡ 2) ⊎ (m ≡ 3)))
four_cases zero h = inl refl
four_cases (suc zero) h = inr (inl refl)
four_cases (suc (suc zero)) h = inr (inr (inl refl))
four_cases (suc (suc (suc zero))) h = inr (inr (inr refl))
four_cases (suc (suc (suc (suc m)))) h = absurd (omega arith)

four_right : {f out : List ℕ} (q : ℕ) → FourBytes out q 1 f q 1 → (m : ℕ) → m < 4 → Right f out (q + m)
four_right {f} {out} q h m l =
    ⊎_elim (λ e. at m 0 e (subst (Right f out) (omega arith) h.first))
    (⊎_elim (λ e. at m 1 e h.second)
    (⊎_elim (λ e. at m 2 e (subst (Right f out) (omega arith) h.third)) (λ e. at m 3 e (subst (Right f out) (omega arith) h.fourth))))
    (four_cases m l)
  where
    at : (m j : ℕ) → m ≡ j → Right f out (q + j) → Right f out (q + m)
    at m j e r = subst⁻¹ (λ (k : ℕ). Right f out (q + k)) e r

module _ {w : ℕ} {src s p xs : List ℕ} (out after : List ℕ) (b i x done to k rest numbers : ℕ) {g A B C : List ℕ} where
  pub carried : (o : Side w src s p) → Gap s p xs b i g ((big 4).write x ++ A) B (x ∷ C)
      → FourBytes ((big 4).write (get_or xs i 0)) 0 1 p (rest + i) numbers
      → done ≡ b + w * i → to + w * i ≡ b + 4 * i → k ≡ length g
      → Advances w src done out to k rest numbers i after
      → Done o out rest numbers b i → Done o after rest numbers (b + k) (i + 1)
  carried (wide e q) h f d t l a r =
      let place : done ≡ b + 4 * i = d ∙ ap (λ (v : ℕ). b + v * i) e in
      let there : to ≡ b = let z = ap (λ (v : ℕ). to + v * i) e in omega (arith, t, z) in
      let bytes : Alike src done p to k =
      λ m c. ap (λ (v : List ℕ). get_or v (done + m) 0) q ∙ ap (λ (v : ℕ). get_or s (v + m) 0) place ∙ alike h m (omega (arith, c, l))
      ∙ ap (λ (v : ℕ). get_or p (v + m) 0) (sym there) in
      let four : FourBytes src (done + k) 1 p (rest + i) numbers =
      subst⁻¹ (λ (v : List ℕ). FourBytes v (done + k) 1 p (rest + i) numbers) q
      (subst (λ (v : ℕ). FourBytes s v 1 p (rest + i) numbers) (omega (arith, place, l)) (number_alike x rest numbers h f)) in
      let y = a p bytes (subst⁻¹ (λ (v : Bool). NumberAlike v src (done + k) p (to + k) rest numbers i) (eq-eqb w 4 e) four) in
      let z : FourBytes after (rest + i) numbers p (rest + i) numbers =
      subst (λ (v : Bool). NumberRight v after p (to + k) rest numbers i) (eq-eqb w 4 e) y.2 in (
        λ j c. ⊎_elim (λ u. y.0.keeps j (r.0 j u))
            (λ u. subst (Right p after) (omega (arith, there, u.2)) (y.1 u.0 u.1)) (split b j k c),
        λ j c. ⊎_elim (λ u. four_kept y.0 (r.1 j u))
            (λ u. subst (λ (v : ℕ). FourBytes after (rest + v) numbers p (rest + v) numbers) (omega (arith, u.1, u.2)) z) (split i j 1 c),
        λ j c. y.0.keeps j (r.2 j c),
      )
  carried (narrow e q) h f d t l a r =
      let place : done ≡ b = let z = ap (λ (v : ℕ). b + v * i) e in omega (arith, d, z) in
      let there : to ≡ b + 4 * i = let z = ap (λ (v : ℕ). to + v * i) e in omega (arith, t, z) in
      let bytes : Alike src done s to k =
      λ m c. ap (λ (v : List ℕ). get_or v (done + m) 0) q ∙ ap (λ (v : ℕ). get_or p (v + m) 0) place ∙ sym (alike h m (omega (arith, c, l)))
      ∙ ap (λ (v : ℕ). get_or s (v + m) 0) (sym there) in
      let four : FourBytes src (rest + i) numbers s (to + k) 1 =
      subst⁻¹ (λ (v : List ℕ). FourBytes v (rest + i) numbers s (to + k) 1) q
      (subst (λ (v : ℕ). FourBytes p (rest + i) numbers s v 1) (omega (arith, there, l)) (turned (number_alike x rest numbers h f))) in
      let n : w ≡ 4 → ⊥ = λ u. omega (arith, e, u) in
      let y = a s bytes (subst⁻¹ (λ (v : Bool). NumberAlike v src (done + k) s (to + k) rest numbers i) (ne_eqb w 4 n) four) in
      let z : FourBytes after (to + k) 1 s (to + k) 1 =
      subst (λ (v : Bool). NumberRight v after s (to + k) rest numbers i) (ne_eqb w 4 n) y.2 in (
        λ j c. ⊎_elim (λ u. y.0.keeps j (r.0 j u))
            (λ u. ⊎_elim (λ v. subst (Right s after) (omega (arith, there, u.2)) (y.1 u.0 v))
            (λ v. subst (Right s after) (omega (arith, there, u.2, v.2)) (four_right (to + k) z v.0 v.1)) (split k u.0 4 u.1))
            (split (b + 4 * i) j (k + 4) (omega (arith, c))),
        λ j c. y.0.keeps j (r.1 j c),
      )

-- ---- the numbers of a tree are those of its records, one behind the other

pub flat_numbers : (ns : Forest) → numbers_of ns ≡ concat (map own_numbers (nodes_of ns))
unfolding numbers_of
flat_numbers Nodes.none = refl
flat_numbers (leaf p l rest) = ap (λ (xs : List ℕ). leaf_numbers l ++ xs) (flat_numbers rest)
flat_numbers (box p b ns rest) =
    (λ i. flat_numbers ns i ++ flat_numbers rest i)
    ∙ sym (concat_append (map own_numbers (nodes_of ns)) (map own_numbers (nodes_of rest)))
    ∙ ap concat (sym (map-append own_numbers (nodes_of ns) (nodes_of rest)))
