-- The planed form is lawful for the trees that a sheet's form is lawful for.
use Prim.Native.Nat.{ℕ, zero, suc, ◌+◌, ◌*◌, ◌/◌, ◌%◌, ◌<◌, ◌≤◌}
use mathlib.Core.List.{List, [], ◌∷◌}
use mathlib.Core.Option.{some}
use mathlib.Core.Path.{◌≡◌, refl, sym, ◌∙◌, ap, subst⁻¹}
use native.Mathlib.Nat.{mod-lt, div-add-mod', suc_inj, suc-mul}
use native.Mathlib.Omega.{arith}
use borrow.Author.Tests.{lt-ltb}
use lib.Dec.{lit<}
use lib.ListN.{length, length-append}
use Rattle.codec.specs.Codec.{below, ◌▹◌, big, each, each_out}
use Rattle.codec.proofs.Laws.{Lawful, Small, All, below_lawful, both_lawful, via_lawful, big_lawful, each_lawful}
use Rattle.planed.specs.Planes.{plane_form, highs, lows, joined, planes_form}

-- ---- planes of numbers

length-highs : (xs : List ℕ) → length (highs xs) ≡ length xs
length-highs [] = refl
length-highs (x ∷ xs) = ap suc (length-highs xs)

length-lows : (xs : List ℕ) → length (lows xs) ≡ length xs
length-lows [] = refl
length-lows (x ∷ xs) = ap suc (length-lows xs)

highs_small : (k : ℕ) (xs : List ℕ) → All (Small (suc k)) xs → All (Small k) (highs xs)
highs_small k [] h = tt
highs_small k (x ∷ xs) h = (h.0, highs_small k xs h.1)

lows_small : (xs : List ℕ) → All (λ b. b < 256) (lows xs)
lows_small [] = tt
lows_small (x ∷ xs) = (mod-lt x (lit< tt), lows_small xs)

joins : (xs : List ℕ) → joined (highs xs) (lows xs) ≡ xs
joins [] = refl
joins (x ∷ xs) = λ i. div-add-mod' x 256 i ∷ joins xs i

quot : (a b : ℕ) → b < 256 → (a * 256 + b) / 256 ≡ a
quot a b h = omega arith

rest : (a b : ℕ) → b < 256 → (a * 256 + b) % 256 ≡ b
rest a b h = omega arith

no : {A : Type 0} {m : ℕ} → 0 ≡ suc m → A
no {m = m} e = absurd (go m e)
  where
    go : (m : ℕ) → 0 ≡ suc m → ⊥
    go m e = omega arith

length-joined : (hs bs : List ℕ) → length hs ≡ length bs → length (joined hs bs) ≡ length hs
length-joined [] bs e = refl
length-joined (a ∷ hs) [] e = no (sym e)
length-joined (a ∷ hs) (b ∷ bs) e = ap suc (length-joined hs bs (suc_inj e))

joined_small : (k : ℕ) (hs bs : List ℕ) → All (Small k) hs → All (λ b. b < 256) bs → All (Small (suc k)) (joined hs bs)
joined_small k [] bs h g = tt
joined_small k (a ∷ hs) [] h g = tt
joined_small k (a ∷ hs) (b ∷ bs) h g = (subst⁻¹ (Small k) (quot a b g.0) h.0, joined_small k hs bs h.1 g.1)

highs-joined : (hs bs : List ℕ) → length hs ≡ length bs → All (λ b. b < 256) bs → highs (joined hs bs) ≡ hs
highs-joined [] bs e g = refl
highs-joined (a ∷ hs) [] e g = no (sym e)
highs-joined (a ∷ hs) (b ∷ bs) e g = λ i. quot a b g.0 i ∷ highs-joined hs bs (suc_inj e) g.1 i

lows-joined : (hs bs : List ℕ) → length hs ≡ length bs → All (λ b. b < 256) bs → lows (joined hs bs) ≡ bs
lows-joined [] [] e g = refl
lows-joined [] (b ∷ bs) e g = no e
lows-joined (a ∷ hs) [] e g = no (sym e)
lows-joined (a ∷ hs) (b ∷ bs) e g = λ i. rest a b g.0 i ∷ lows-joined hs bs (suc_inj e) g.1 i

abbrev pub Numbers : ℕ → ℕ → List ℕ → Type 0
Numbers k c xs = (length xs ≡ c) × All (Small k) xs

pub planes_lawful : (k c : ℕ) → Lawful (planes_form k c) (Numbers k c)
planes_lawful zero c = each_lawful (big 0) (Small 0) (big_lawful 0) c
planes_lawful (suc k) c =
    via_lawful (planes_form k c ▹ plane_form c) (λ p. joined p.0 p.1) (λ xs. (highs xs, lows xs))
    (λ p. Numbers k c p.0 × ((length p.1 ≡ c) × All (λ b. b < 256) p.1))
    (Numbers (suc k) c)
    (both_lawful (planes_form k c) (plane_form c) (Numbers k c) (λ bs. (length bs ≡ c) × All (λ b. b < 256) bs) (planes_lawful k c)
    (each_lawful (below 256) (λ b. b < 256) (below_lawful 256) c))
    (λ xs h. ((length-highs xs ∙ h.0, highs_small k xs h.1), (length-lows xs ∙ h.0, lows_small xs)))
    (λ xs h. joins xs)
    (λ p h. (length-joined p.0 p.1 (h.0.0 ∙ sym h.1.0) ∙ h.0.0, joined_small k p.0 p.1 h.0.1 h.1.1))
    (λ p h. λ i. (
      highs-joined p.0 p.1 (h.0.0 ∙ sym h.1.0) h.1.1 i,
      lows-joined p.0 p.1 (h.0.0 ∙ sym h.1.0) h.1.1 i,
    ))

-- four bytes a number
plane_long : (xs : List ℕ) → length (each_out (below 256).write xs) ≡ length xs
plane_long [] = refl
plane_long (x ∷ xs) = ap suc (plane_long xs)

none_long : (xs : List ℕ) → length (each_out (big 0).write xs) ≡ 0
none_long [] = refl
none_long (x ∷ xs) = none_long xs

pub planes_long : (k c : ℕ) (xs : List ℕ) → length ((planes_form k c).write xs) ≡ k * length xs
planes_long zero c xs = none_long xs ∙ omega arith
planes_long (suc k) c xs =
    length-append ((planes_form k c).write (highs xs)) (each_out (below 256).write (lows xs))
    ∙ (λ i. planes_long k c (highs xs) i + plane_long (lows xs) i)
    ∙ (λ i. k * length-highs xs i + length-lows xs i) ∙ sym (suc-mul k (length xs))

-- ---- enough bytes are planes

plane_some : (c : ℕ) (bs : List ℕ) → c ≤ length bs → All (λ b. b < 256) bs
    → (xs : List ℕ) × (r : List ℕ) × ((plane_form c).read bs ≡ some (xs, r)) × (length r + c ≡ length bs) × All (λ b. b < 256) r
plane_some zero bs h g = ([], bs, refl, omega arith, g)
plane_some (suc c) [] h g = absurd (omega arith)
plane_some (suc c) (b ∷ bs) h g =
    let (xs, r, e, l, k) = plane_some c bs (omega arith) g.1 in (b ∷ xs, r, rw (lt-ltb b 256 g.0, e), omega arith, k)

nothing_some : (c : ℕ) (bs : List ℕ) → (xs : List ℕ) × ((each (big 0) c).read bs ≡ some (xs, bs))
nothing_some zero bs = ([], refl)
nothing_some (suc c) bs = let (xs, e) = nothing_some c bs in (0 ∷ xs, rw e refl)

pub planes_some : (k c : ℕ) (bs : List ℕ) → k * c ≤ length bs → All (λ b. b < 256) bs
    → (xs : List ℕ) × (r : List ℕ) × ((planes_form k c).read bs ≡ some (xs, r)) × (length r + k * c ≡ length bs) × All (λ b. b < 256) r
planes_some zero c bs h g = let (xs, e) = nothing_some c bs in (xs, bs, e, omega arith, g)
planes_some (suc k) c bs h g =
    let q = suc-mul k c in
    let (xs, r, e, l, i) = planes_some k c bs (omega (arith, q)) g in
    let (ys, t, e₁, l₁, i₁) = plane_some c r (omega (arith, q)) i in
    (joined xs ys, t, rw (e, e₁), omega (arith, q, l, l₁), i₁)
