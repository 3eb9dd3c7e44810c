-- The numbers of a frame, carried.
use Prim.Native.Nat.{ℕ, ◌+◌, ◌*◌, ◌<◌}
use mathlib.Core.Bool.{true, false}
use mathlib.Core.List.{List, [], ◌∷◌, ◌++◌}
use mathlib.Core.Path.{◌≡◌, refl, sym, ◌∙◌, ap, subst, subst⁻¹}
use native.Mathlib.Nat.{mul-add}
use native.Mathlib.Omega.{arith}
use lib.ListN.{length, length-append}
use Rattle.codec.specs.Codec.{big, opt}
use Rattle.ast.specs.Tree.{ValueExpr, scalar, array, KeyframeTime, percent, seconds, KeyframeEntry}
use Rattle.sheet.specs.Sheet.{easing_form}
use Rattle.sheet.specs.Sheet.{time_form_of, value_form_of, entry_form_of}
use Rattle.planed.specs.Planes.{time_number, value_numbers, entry_numbers}
use Rattle.plane.specs.Means.{Advances}
use Rattle.sheet_shape.specs.Means.{is_scalar, scalar_frame}
use Rattle.plane.specs.CarryMeans.{Gap, Side, Done, value_tail, tail_of, InPlanes, FrameMoved}
use Rattle.plane.proofs.GapLaws.{passes, jumps}
use Rattle.plane.proofs.CarryLaws.{carried}

abbrev tag_of : KeyframeTime → ℕ
tag_of (percent x) = 0
tag_of (seconds x) = 1

wide_time : (t : KeyframeTime) (vs A : List ℕ)
    → ((time_form_of 4).write t ++ vs) ++ A ≡ (tag_of t ∷ []) ++ ((big 4).write (time_number t) ++ (vs ++ A))
wide_time (percent x) vs A = refl
wide_time (seconds x) vs A = refl

narrow_time : (t : KeyframeTime) (vs A : List ℕ) → ((time_form_of 0).write t ++ vs) ++ A ≡ (tag_of t ∷ []) ++ (vs ++ A)
narrow_time (percent x) vs A = refl
narrow_time (seconds x) vs A = refl

-- a value that is no number is the same in both
value_tail_lem : (w : ℕ) (v : ValueExpr) → is_scalar v ≡ false → (value_form_of w).write v ≡ value_tail v
value_tail_lem w (scalar x) h = let z : ◌≡◌ {A = ℕ} 0 1 = cc in absurd (omega arith)
value_tail_lem w (array xs) h = refl

no_number : (v : ValueExpr) → is_scalar v ≡ false → value_numbers v ≡ []
no_number (scalar x) h = let z : ◌≡◌ {A = ℕ} 0 1 = cc in absurd (omega arith)
no_number (array xs) h = refl

-- a scalar's tag and number
abbrev number_of : ValueExpr → ℕ
number_of (scalar x) = x
number_of (array xs) = 0

wide_value : (v : ValueExpr) (E A : List ℕ) → is_scalar v ≡ true
    → ((value_form_of 4).write v ++ E) ++ A ≡ (0 ∷ []) ++ ((big 4).write (number_of v) ++ ((value_tail v ++ E) ++ A))
wide_value (scalar x) E A h = refl
wide_value (array xs) E A h = let z : ◌≡◌ {A = ℕ} 0 1 = cc in absurd (omega arith)

narrow_value : (v : ValueExpr) (E A : List ℕ) → is_scalar v ≡ true
    → ((value_form_of 0).write v ++ E) ++ A ≡ (0 ∷ []) ++ ((value_tail v ++ E) ++ A)
narrow_value (scalar x) E A h = refl
narrow_value (array xs) E A h = let z : ◌≡◌ {A = ℕ} 0 1 = cc in absurd (omega arith)

its_number : (v : ValueExpr) (C : List ℕ) → is_scalar v ≡ true → value_numbers v ++ C ≡ number_of v ∷ C
its_number (scalar x) C h = refl
its_number (array xs) C h = let z : ◌≡◌ {A = ℕ} 0 1 = cc in absurd (omega arith)

mul_next : (w i j : ℕ) → w * (i + j) ≡ w * i + w * j
mul_next w i j = mul-add w i j

module _ {w : ℕ} {src s p : List ℕ} (o : Side w src s p) (n : ℕ) (xs out mid : List ℕ) (rest numbers k b i done to : ℕ)
    (small : i < numbers) (planes : InPlanes p xs rest numbers) (g : List ℕ) (e : KeyframeEntry KeyframeTime) (A B C : List ℕ)
    (d : done ≡ b + w * i) (t : to + w * i ≡ b + 4 * i) (l : k ≡ length g + 1)
    (h : Gap s p xs b i g ((entry_form_of 4 n).write e ++ A) ((entry_form_of 0 n).write e ++ B) (entry_numbers e ++ C))
    (a : Advances w src done out to k rest numbers i mid) (r : Done o out rest numbers b i) where
  abbrev easing : List ℕ
  easing = (opt (easing_form n)).write e.easing

  abbrev tagged : List ℕ
  tagged = g ++ (tag_of e.time ∷ [])

  before : Gap s p xs b i tagged ((big 4).write (time_number e.time) ++ (((value_form_of 4).write e.value ++ easing) ++ A))
      (((value_form_of 0).write e.value ++ easing) ++ B) (time_number e.time ∷ (value_numbers e.value ++ C))
  before =
      passes {g = g} (tag_of e.time ∷ []) (record {
        wide = h.wide ∙ ap (λ (v : List ℕ). g ++ v) (wide_time e.time ((value_form_of 4).write e.value ++ easing) A);
        narrow = h.narrow ∙ ap (λ (v : List ℕ). g ++ v) (narrow_time e.time ((value_form_of 0).write e.value ++ easing) B);
        left = h.left;
      })

  long : k ≡ length tagged
  long = omega (arith, l, length-append g (tag_of e.time ∷ []))

  pub time_so : Done o mid rest numbers (b + k) (i + 1)
  time_so = carried out mid b i (time_number e.time) done to k rest numbers o before (planes i small) d t long a r

  pub time-gap : Gap s p xs (b + k) (i + 1) [] (((value_form_of 4).write e.value ++ easing) ++ A)
      (((value_form_of 0).write e.value ++ easing) ++ B) (value_numbers e.value ++ C)
  time-gap =
      subst (λ (v : ℕ). Gap s p xs (b + v) (i + 1) [] (((value_form_of 4).write e.value ++ easing) ++ A)
      (((value_form_of 0).write e.value ++ easing) ++ B) (value_numbers e.value ++ C)) (sym long) (jumps (time_number e.time) before)

  -- an array: no other number
  pub moved_array : (done' to' i' : ℕ) → scalar_frame e ≡ false → done' ≡ done + k + w → to' + w ≡ to + k + 4 → i' ≡ i + 1
      → FrameMoved o n xs mid rest numbers e A B C done' to' i'
  moved_array done' to' i' q u v j =
      let f : (x : ℕ) → ((value_form_of x).write e.value ++ easing) ≡ tail_of n e = λ x. ap (λ (y : List ℕ). y ++ easing)
      (value_tail_lem x e.value q)
      in
      let m = mul_next w i 1 in
      subst⁻¹ (λ (x : ℕ). FrameMoved o n xs mid rest numbers e A B C done' to' x) j
      (record {
        b = b + k;
        done_is = omega (arith, u, d, m);
        to_is = omega (arith, v, t, m);
        few = omega (arith, small);
        gap = record {
          wide = time-gap.wide ∙ ap (λ (y : List ℕ). y ++ A) (f 4);
          narrow = time-gap.narrow ∙ ap (λ (y : List ℕ). y ++ B) (f 0);
          left = time-gap.left ∙ ap (λ (y : List ℕ). y ++ C) (no_number e.value q);
        };
        so = time_so;
      })

  -- a scalar: a tag and its number
  pub moved_scalar : (after : List ℕ) (from place j done' to' i' : ℕ) → scalar_frame e ≡ true → i + 1 < numbers
      → from ≡ done + k + w → place + w ≡ to + k + 4 → j ≡ i + 1
      → Advances w src from mid place 1 rest numbers j after
      → done' ≡ from + 1 + w → to' + w ≡ place + 1 + 4 → i' ≡ j + 1
      → FrameMoved o n xs after rest numbers e A B C done' to' i'
  moved_scalar after from place j done' to' i' q fit u v x y u' v' x' =
      let m = mul_next w i 1 in
      let m₂ = mul_next w i 2 in
      let gap₁ : Gap s p xs (b + k) (i + 1) [] ((0 ∷ []) ++ ((big 4).write (number_of e.value) ++ (tail_of n e ++ A)))
      ((0 ∷ []) ++ (tail_of n e ++ B)) (number_of e.value ∷ C) = record {
        wide = time-gap.wide ∙ wide_value e.value easing A q;
        narrow = time-gap.narrow ∙ narrow_value e.value easing B q;
        left = time-gap.left ∙ its_number e.value C q;
      }
      in
      let gap₂ = passes (0 ∷ []) gap₁ in
      let so₂ = carried mid after (b + k) (i + 1) (number_of e.value) from place 1 rest numbers o gap₂ (planes (i + 1) fit)
      (omega (arith, u, d, m)) (omega (arith, v, t, m)) refl (subst (λ (z : ℕ). Advances w src from mid place 1 rest numbers z after) x y) r₁
      in
      let two : (i + 1) + 1 ≡ i + 2 = omega arith in
      let last : i' ≡ i + 2 = omega (arith, x, x') in
      subst⁻¹ (λ (z : ℕ). FrameMoved o n xs after rest numbers e A B C done' to' z) last
      (record {
        b = b + k + 1;
        done_is = omega (arith, u, u', d, m₂);
        to_is = omega (arith, v, v', t, m₂);
        few = omega (arith, fit);
        gap = subst (λ (j : ℕ). Gap s p xs (b + k + 1) j [] (tail_of n e ++ A) (tail_of n e ++ B) C) two (jumps (number_of e.value) gap₂);
        so = subst (λ (j : ℕ). Done o after rest numbers (b + k + 1) j) two so₂;
      })
    where
      r₁ : Done o mid rest numbers (b + k) (i + 1)
      r₁ = time_so
