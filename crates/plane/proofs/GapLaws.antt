-- A sheet and its planed form, side by side: where the same bytes and the same numbers stand in both.
use Prim.Native.Nat.{ℕ, zero, suc, ◌+◌, ◌*◌, ◌/◌, ◌%◌, ◌<◌}
use mathlib.Core.List.{List, [], ◌∷◌, ◌++◌, append_assoc}
use mathlib.Core.Path.{◌≡◌, refl, sym, ◌∙◌, ap}
use native.Mathlib.Omega.{arith}
use lib.ListN.{length, drop, get_or, length-append}
use lib.Seq.{get_or-drop, drop-drop, drop-append_seam}
use Rattle.codec.specs.Codec.{big, below, each_out}
use Rattle.planed.specs.Planes.{highs, lows, planes_form}
use Rattle.plane.specs.Means.{Alike, FourBytes}
use Rattle.plane.specs.CarryMeans.{Gap}

-- ---- lists

pub get_d_left : (a b : List ℕ) (i : ℕ) → i < length a → get_or (a ++ b) i 0 ≡ get_or a i 0
get_d_left [] b i h = absurd (omega arith)
get_d_left (x ∷ a) b zero h = refl
get_d_left (x ∷ a) b (suc i) h = get_d_left a b i (omega arith)

pub get_d_right : (a b : List ℕ) (i j : ℕ) → j ≡ length a + i → get_or (a ++ b) j 0 ≡ get_or b i 0
get_d_right [] b i j e = let z : j ≡ i = omega arith in ap (λ (k : ℕ). get_or b k 0) z
get_d_right (x ∷ a) b i zero e = absurd (omega arith)
get_d_right (x ∷ a) b i (suc j) e = get_d_right a b i j (omega arith)

-- ---- the places of a number's bytes in the planes

length-lows : (xs : List ℕ) → length (lows xs) ≡ length xs
length-lows [] = refl
length-lows (x ∷ xs) = ap suc (length-lows xs)

length-highs : (xs : List ℕ) → length (highs xs) ≡ length xs
length-highs [] = refl
length-highs (x ∷ xs) = ap suc (length-highs xs)

low_at : (xs : List ℕ) (i : ℕ) → get_or (lows xs) i 0 ≡ get_or xs i 0 % 256
low_at [] i = refl
low_at (x ∷ xs) zero = refl
low_at (x ∷ xs) (suc i) = low_at xs i

high_at : (xs : List ℕ) (i : ℕ) → get_or (highs xs) i 0 ≡ get_or xs i 0 / 256
high_at [] i = refl
high_at (x ∷ xs) zero = refl
high_at (x ∷ xs) (suc i) = high_at xs i

bytes_out : (xs : List ℕ) → each_out (below 256).write xs ≡ xs
bytes_out [] = refl
bytes_out (x ∷ xs) = ap (λ (l : List ℕ). x ∷ l) (bytes_out xs)

nothing_out : (xs : List ℕ) → each_out (big 0).write xs ≡ []
nothing_out [] = refl
nothing_out (x ∷ xs) = nothing_out xs

-- all first bytes to all fourth
abbrev four_planes : List ℕ → List ℕ
four_planes xs = ((lows (highs (highs (highs xs))) ++ lows (highs (highs xs))) ++ lows (highs xs)) ++ lows xs

planes_are : (c : ℕ) (xs : List ℕ) → (planes_form 4 c).write xs ≡ four_planes xs
planes_are c xs =
    λ i. (((nothing_out (highs (highs (highs (highs xs)))) i ++ bytes_out (lows (highs (highs (highs xs)))) i)
    ++ bytes_out (lows (highs (highs xs))) i)
    ++ bytes_out (lows (highs xs)) i)
    ++ bytes_out (lows xs) i

-- the bytes of the i-th number, one behind the other and in the planes behind `front`
pub number_planes : (front : List ℕ) (c : ℕ) (xs : List ℕ) (i : ℕ) → length xs ≡ c → i < c
    → FourBytes ((big 4).write (get_or xs i 0)) 0 1 (front ++ (planes_form 4 c).write xs) (length front + i) c
number_planes front c xs i e h =
    let p3 = lows (highs (highs (highs xs))) in
    let p2 = lows (highs (highs xs)) in
    let p1 = lows (highs xs) in
    let p0 = lows xs in
    let l3 : length p3 ≡ c = length-lows (highs (highs (highs xs))) ∙ length-highs (highs (highs xs))
    ∙ length-highs (highs xs) ∙ length-highs xs ∙ e
    in
    let l2 : length p2 ≡ c = length-lows (highs (highs xs)) ∙ length-highs (highs xs) ∙ length-highs xs ∙ e in
    let l1 : length p1 ≡ c = length-lows (highs xs) ∙ length-highs xs ∙ e in
    let l0 : length p0 ≡ c = length-lows xs ∙ e in
    let a = length-append p3 p2 in
    let b = length-append (p3 ++ p2) p1 in
    let in_front : (j k : ℕ) → k ≡ length front + j → get_or (front ++ (planes_form 4 c).write xs) k 0 ≡ get_or (four_planes xs) j 0 = λ j k q.
    get_d_right front ((planes_form 4 c).write xs) j k q ∙ ap (λ (l : List ℕ). get_or l j 0) (planes_are c xs)
    in
    record {
      first = sym (in_front i (length front + i) refl
          ∙ get_d_left ((p3 ++ p2) ++ p1) p0 i (omega (arith, a, b, l3))
          ∙ get_d_left (p3 ++ p2) p1 i (omega (arith, a, l3))
          ∙ get_d_left p3 p2 i (omega (arith, l3))
          ∙ low_at (highs (highs (highs xs))) i
          ∙ ap (λ (x : ℕ). x % 256)
          (high_at (highs (highs xs)) i ∙ ap (λ (x : ℕ). x / 256) (high_at (highs xs) i ∙ ap (λ (x : ℕ). x / 256) (high_at xs i))));
      second = sym (in_front (c + i) (length front + i + c) (omega arith)
          ∙ get_d_left ((p3 ++ p2) ++ p1) p0 (c + i) (omega (arith, a, b, l3, l2, l1))
          ∙ get_d_left (p3 ++ p2) p1 (c + i) (omega (arith, a, l3, l2))
          ∙ get_d_right p3 p2 i (c + i) (omega (arith, l3))
          ∙ low_at (highs (highs xs)) i
          ∙ ap (λ (x : ℕ). x % 256) (high_at (highs xs) i ∙ ap (λ (x : ℕ). x / 256) (high_at xs i)));
      third = sym (in_front (2 * c + i) (length front + i + 2 * c) (omega arith)
          ∙ get_d_left ((p3 ++ p2) ++ p1) p0 (2 * c + i) (omega (arith, a, b, l3, l2, l1))
          ∙ get_d_right (p3 ++ p2) p1 i (2 * c + i) (omega (arith, a, l3, l2))
          ∙ low_at (highs xs) i
          ∙ ap (λ (x : ℕ). x % 256) (high_at xs i));
      fourth = sym (in_front (3 * c + i) (length front + i + 3 * c) (omega arith)
          ∙ get_d_right ((p3 ++ p2) ++ p1) p0 i (3 * c + i) (omega (arith, a, b, l3, l2, l1))
          ∙ low_at xs i);
    }

-- ---- the two side by side

module _ {s p xs : List ℕ} {b i : ℕ} {g A B C : List ℕ} where
  -- bytes that stay are passed
  pub passes : (r : List ℕ) → Gap s p xs b i g (r ++ A) (r ++ B) C → Gap s p xs b i (g ++ r) A B C
  passes r h = record { wide = h.wide ∙ sym (append_assoc g r A); narrow = h.narrow ∙ sym (append_assoc g r B); left = h.left }

  -- they are the same in both
  pub alike : Gap s p xs b i g A B C → Alike s (b + 4 * i) p b (length g)
  alike h m l =
      sym (get_or-drop (b + 4 * i) s m 0) ∙ ap (λ (l : List ℕ). get_or l m 0) h.wide ∙ get_d_left g A m l
      ∙ sym (get_d_left g B m l) ∙ sym (ap (λ (l : List ℕ). get_or l m 0) h.narrow) ∙ get_or-drop b p m 0

  -- a number is taken
  pub jumps : (x : ℕ) → Gap s p xs b i g ((big 4).write x ++ A) B (x ∷ C) → Gap s p xs (b + length g) (i + 1) [] A B C
  jumps x h =
      let w = (big 4).write x in
      let e : b + length g + 4 * (i + 1) ≡ (b + 4 * i) + (length g + 4) = omega arith in
      let n : length (g ++ w) ≡ length g + 4 = length-append g w in
      record {
        wide = ap (λ (k : ℕ). drop k s) e ∙ sym (drop-drop (length g + 4) (b + 4 * i) s)
            ∙ ap (drop (length g + 4)) (h.wide ∙ sym (append_assoc g w A))
            ∙ ap (λ (k : ℕ). drop k ((g ++ w) ++ A)) (sym n) ∙ drop-append_seam (g ++ w) A;
        narrow = sym (drop-drop (length g) b p) ∙ ap (drop (length g)) h.narrow ∙ drop-append_seam g B;
        left = sym (drop-drop 1 i xs) ∙ ap (drop 1) h.left;
      }

  -- its bytes are the same in both
  pub number_alike : (x : ℕ) (rest c : ℕ) → Gap s p xs b i g ((big 4).write x ++ A) B (x ∷ C)
      → FourBytes ((big 4).write (get_or xs i 0)) 0 1 p (rest + i) c → FourBytes s (b + 4 * i + length g) 1 p (rest + i) c
  number_alike x rest c h f =
      let w = (big 4).write x in
      let q : get_or xs i 0 ≡ x = sym (ap (λ (k : ℕ). get_or xs k 0) z) ∙ sym (get_or-drop i xs 0 0) ∙ ap (λ (l : List ℕ). get_or l 0 0) h.left
      in
      let there : (j k : ℕ) → j < 4 → k ≡ b + 4 * i + length g + j → get_or s k 0 ≡ get_or ((big 4).write (get_or xs i 0)) j 0 = λ j k l e.
      ap (λ (k : ℕ). get_or s k 0) (e ∙ omega arith) ∙ sym (get_or-drop (b + 4 * i) s (length g + j) 0)
      ∙ ap (λ (l : List ℕ). get_or l (length g + j) 0) h.wide ∙ get_d_right g (w ++ A) j (length g + j) refl
      ∙ get_d_left w A j l ∙ ap (λ (y : ℕ). get_or ((big 4).write y) j 0) (sym q)
      in
      record {
        first = there 0 (b + 4 * i + length g) (omega arith) (omega arith) ∙ f.first;
        second = there 1 (b + 4 * i + length g + 1) (omega arith) (omega arith) ∙ f.second;
        third = there 2 (b + 4 * i + length g + 2 * 1) (omega arith) (omega arith) ∙ f.third;
        fourth = there 3 (b + 4 * i + length g + 3 * 1) (omega arith) (omega arith) ∙ f.fourth;
      }
    where
      z : i + 0 ≡ i
      z = omega arith
