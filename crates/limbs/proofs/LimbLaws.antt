-- Laws of limbs: one limb of a product, of a difference, and the order.
use mathlib.Core.Path.{◌≡◌, refl, sym, ap, ◌∙◌, subst}
use mathlib.Core.List.{List}
use Prim.Native.Nat.{ℕ, zero, suc, ◌+◌, ◌-◌, ◌*◌, ◌/◌, ◌%◌, ◌^◌, ◌≤◌, ◌<◌}
use native.Mathlib.Nat.{le_refl, le_trans, le_of_eq, lt_of_lt_of_le, mul_comm, mul_assoc, mul_right_comm, add-mul}
use native.Mathlib.Nat.{mul-le-mul_right, zero-lt-suc, pow-suc, suc-mul, zero-mul, add-zero, zero-add, suc-add, div-add-mod'}
use native.Mathlib.Numerals.{add-one}
use native.Mathlib.Omega.{arith}
use lib.ListN.{length, get_or, set, take}
use lib.Seq.{get_or-set_same, get_or-set_other, get_or-take, length-take-le}
use lib.Pow.{pow-add}
use mathlib.Core.Logic.{◌⊎◌, inl, inr}
use native.Mathlib.Nat.{mul-pos, eq-or-lt_of_le, one-le-pow}
use lib.Dec.{lit<}
use Rattle.limbs.specs.LimbMeans.{up_to, val}
use Rattle.limbs.proofs.DecimalLaws.{carried_none, scale_next, scale_below}

pub up_to-next : (i : ℕ) (xs : List ℕ) → up_to (i + 1) xs ≡ up_to i xs + get_or xs i 0 * 4294967296 ^ i
unfolding up_to
up_to-next i xs = ap (λ (z : ℕ). up_to z xs) (add-one i)

-- only those limbs count
pub up_to-same : (i : ℕ) (xs ys : List ℕ) → ((k : ℕ) → k < i → get_or xs k 0 ≡ get_or ys k 0) → up_to i xs ≡ up_to i ys
unfolding up_to
up_to-same zero xs ys h = refl
up_to-same (suc i) xs ys h =
    ap (λ (z : ℕ). z + get_or xs i 0 * 4294967296 ^ i) (up_to-same i xs ys (λ k l. h k (later k i l)))
    ∙ ap (λ (z : ℕ). up_to i ys + z * 4294967296 ^ i) (h i (le_refl (suc i)))
  where
    later : (k i : ℕ) → k < i → k < suc i
    later k i h = omega arith

no_eq : (k i : ℕ) → k < i → k ≡ i → ⊥
no_eq k i h e = omega arith

pub up_to-set : (i : ℕ) (xs : List ℕ) (v : ℕ) → up_to i (set xs i v) ≡ up_to i xs
up_to-set i xs v = up_to-same i (set xs i v) xs (λ k l. get_or-set_other xs i k v 0 (no_eq k i l))

-- with the limb at i written
pub up_to_write : (i : ℕ) (xs : List ℕ) (v : ℕ) → i < length xs → up_to (i + 1) (set xs i v) ≡ up_to i xs + v * 4294967296 ^ i
up_to_write i xs v h =
    up_to-next i (set xs i v)
    ∙ ap (λ (z : ℕ). z + get_or (set xs i v) i 0 * 4294967296 ^ i) (up_to-set i xs v)
    ∙ ap (λ (z : ℕ). up_to i xs + z * 4294967296 ^ i) (get_or-set_same xs i v 0 h)

pub pow_next : (i : ℕ) → 4294967296 ^ (i + 1) ≡ 4294967296 ^ i * 4294967296
pow_next i = pow-add 4294967296 i 1

-- ---- one limb of a * m + c
mul_plain : (U l_p hP tP xm_p cP Vm c : ℕ) → hP + l_p ≡ tP → tP ≡ xm_p + cP → U + cP ≡ Vm + c → U + l_p + hP ≡ Vm + xm_p + c
mul_plain U l_p hP tP xm_p cP Vm c p q r = omega arith

pub mul_step : (i : ℕ) (xs ys : List ℕ) (m c carry t : ℕ) → i < length xs → get_or xs i 0 ≡ get_or ys i 0 → t ≡ get_or xs i 0 * m + carry
    → up_to i xs + carry * 4294967296 ^ i ≡ up_to i ys * m + c
    → up_to (i + 1) (set xs i (t % 4294967296)) + t / 4294967296 * 4294967296 ^ (i + 1) ≡ up_to (i + 1) ys * m + c
mul_step i xs ys m c carry t h e q r =
    let P = 4294967296 ^ i in
    let x = get_or ys i 0 in
    let hi = t / 4294967296 in
    let lo = t % 4294967296 in
    ap (λ (z : ℕ). z + hi * 4294967296 ^ (i + 1)) (up_to_write i xs lo h)
    ∙ mul_plain (up_to i xs) (lo * P) (hi * 4294967296 ^ (i + 1)) (t * P) (x * m * P) (carry * P) (up_to i ys * m) c
    (ap (λ (z : ℕ). z + lo * P) (ap (λ (z : ℕ). hi * z) (pow_next i ∙ mul_comm P 4294967296) ∙ sym (mul_assoc hi 4294967296 P))
    ∙ sym (add-mul (hi * 4294967296) lo P)
    ∙ ap (λ (z : ℕ). z * P) (div-add-mod' t 4294967296))
    (ap (λ (z : ℕ). z * P) (q ∙ ap (λ (z : ℕ). z * m + carry) e) ∙ add-mul (x * m) carry P)
    r
    ∙ ap (λ (z : ℕ). z + c)
    (ap (λ (z : ℕ). up_to i ys * m + z) (mul_right_comm x m P)
    ∙ sym (add-mul (up_to i ys) (x * P) m) ∙ ap (λ (z : ℕ). z * m) (sym (up_to-next i ys)))

-- ---- the order, from the highest limb down
pub below_pow : (i : ℕ) (xs : List ℕ) → ((k : ℕ) → get_or xs k 0 < 4294967296) → up_to i xs < 4294967296 ^ i
unfolding up_to
below_pow zero xs h = zero-lt-suc 0
below_pow (suc i) xs h =
    lt_of_lt_of_le (grow (up_to i xs) (4294967296 ^ i) (get_or xs i 0 * 4294967296 ^ i) (below_pow i xs h))
    (le_trans (le_of_eq (sym (suc-mul (get_or xs i 0) (4294967296 ^ i))))
    (le_trans (mul-le-mul_right (4294967296 ^ i) (h i)) (le_of_eq (mul_comm 4294967296 (4294967296 ^ i) ∙ sym (pow-suc 4294967296 i)))))
  where
    grow : (a p b : ℕ) → a < p → a + b < b + p
    grow a p b h = omega arith

-- a smaller limb decides
pub decides : (i : ℕ) (xs ys : List ℕ) → ((k : ℕ) → get_or xs k 0 < 4294967296)
    → get_or xs i 0 < get_or ys i 0 → up_to (i + 1) xs < up_to (i + 1) ys
decides i xs ys h l =
    let P = 4294967296 ^ i in
    plain
    (up_to (i + 1) xs)
    (up_to (i + 1) ys)
    (up_to i xs)
    (up_to i ys)
    (get_or xs i 0 * P)
    (get_or ys i 0 * P)
    P
    (up_to-next i xs)
    (up_to-next i ys)
    (below_pow i xs h)
    (le_trans (le_of_eq (sym (suc-mul (get_or xs i 0) P))) (mul-le-mul_right P l))
  where
    plain : (A B a b x y p : ℕ) → A ≡ a + x → B ≡ b + y → a < p → x + p ≤ y → A < B
    plain A B a b x y p e f g h = omega arith

-- equal limbs leave it to the rest
pub passes : (i : ℕ) (xs ys : List ℕ) → get_or xs i 0 ≡ get_or ys i 0
    → (up_to i xs < up_to i ys → up_to (i + 1) xs < up_to (i + 1) ys) × (up_to i ys ≤ up_to i xs → up_to (i + 1) ys ≤ up_to (i + 1) xs)
passes i xs ys e = (
  plain
      (up_to (i + 1) xs)
      (up_to (i + 1) ys)
      (up_to i xs)
      (up_to i ys)
      (get_or xs i 0 * 4294967296 ^ i)
      (get_or ys i 0 * 4294967296 ^ i)
      (up_to-next i xs)
      (up_to-next i ys)
      (ap (λ (z : ℕ). z * 4294967296 ^ i) e),
  plain'
      (up_to (i + 1) xs)
      (up_to (i + 1) ys)
      (up_to i xs)
      (up_to i ys)
      (get_or xs i 0 * 4294967296 ^ i)
      (get_or ys i 0 * 4294967296 ^ i)
      (up_to-next i xs)
      (up_to-next i ys)
      (ap (λ (z : ℕ). z * 4294967296 ^ i) e),
)
  where
    plain : (A B a b x y : ℕ) → A ≡ a + x → B ≡ b + y → x ≡ y → a < b → A < B
    plain A B a b x y e f g h = omega arith

    plain' : (A B a b x y : ℕ) → A ≡ a + x → B ≡ b + y → x ≡ y → b ≤ a → B ≤ A
    plain' A B a b x y e f g h = omega arith

-- ---- one limb of a difference
sub_plain : (U W Y b v_p y_p x_p bP cP : ℕ) → v_p + y_p + bP ≡ x_p + cP → U + W ≡ Y + bP → U + v_p + (W + y_p) ≡ Y + x_p + cP
sub_plain U W Y b v_p y_p x_p bP cP p r = omega arith

pub sub_step : (i : ℕ) (xs ys bs : List ℕ) (v borrow next : ℕ) → i < length xs
    → get_or xs i 0 ≡ get_or ys i 0
    → v + get_or bs i 0 + borrow ≡ get_or xs i 0 + next * 4294967296
    → up_to i xs + up_to i bs ≡ up_to i ys + borrow * 4294967296 ^ i
    → up_to (i + 1) (set xs i v) + up_to (i + 1) bs ≡ up_to (i + 1) ys + next * 4294967296 ^ (i + 1)
sub_step i xs ys bs v borrow next h e q r =
    let P = 4294967296 ^ i in
    let y = get_or bs i 0 in
    let x = get_or ys i 0 in
    let d : v * P + y * P + borrow * P ≡ x * P + next * 4294967296 ^ (i + 1) =
    ap (λ (z : ℕ). z + borrow * P) (sym (add-mul v y P))
    ∙ sym (add-mul (v + y) borrow P)
    ∙ ap (λ (z : ℕ). z * P) (q ∙ ap (λ (z : ℕ). z + next * 4294967296) e)
    ∙ add-mul x (next * 4294967296) P
    ∙ ap (λ (z : ℕ). x * P + z) (mul_assoc next 4294967296 P ∙ ap (λ (z : ℕ). next * z) (mul_comm 4294967296 P ∙ sym (pow_next i))) in
    ap (λ (z : ℕ). z + up_to (i + 1) bs) (up_to_write i xs v h)
    ∙ ap (λ (z : ℕ). up_to i xs + v * P + z) (up_to-next i bs)
    ∙ sub_plain (up_to i xs) (up_to i bs) (up_to i ys) 0 (v * P) (y * P) (x * P) (borrow * P) (next * 4294967296 ^ (i + 1)) d r
    ∙ ap (λ (z : ℕ). z + next * 4294967296 ^ (i + 1)) (sym (up_to-next i ys))

-- ---- a place from the other side
pub down_lt : (i : ℕ) (xs ys : List ℕ) (P : Type 0) → 0 < i → (up_to i xs < up_to i ys → P) → up_to (i - 1 + 1) xs < up_to (i - 1 + 1) ys → P
down_lt i xs ys P h f l = f (subst (λ (z : ℕ). up_to z xs < up_to z ys) (go i h) l)
  where
    go : (i : ℕ) → 0 < i → i - 1 + 1 ≡ i
    go i h = omega arith

pub down_le : (i : ℕ) (xs ys : List ℕ) (P : Type 0) → 0 < i → (up_to i ys ≤ up_to i xs → P) → up_to (i - 1 + 1) ys ≤ up_to (i - 1 + 1) xs → P
down_le i xs ys P h f l = f (subst (λ (z : ℕ). up_to z ys ≤ up_to z xs) (go i h) l)
  where
    go : (i : ℕ) → 0 < i → i - 1 + 1 ≡ i
    go i h = omega arith

-- nothing is borrowed at the end
pub nothing_borrowed : (a b c q p : ℕ) → a + b ≡ c + q * p → b ≤ c → a < p → a + b ≡ c
nothing_borrowed a b c zero p e h l = e ∙ ap (λ (z : ℕ). c + z) (zero-mul p) ∙ add-zero c
nothing_borrowed a b c (suc q) p e h l = absurd (no a b c (q * p) p (e ∙ ap (λ (z : ℕ). c + z) (suc-mul q p)) h l)
  where
    no : (a b c r p : ℕ) → a + b ≡ c + (r + p) → b ≤ c → a < p → ⊥
    no a b c r p e h l = omega arith

-- with the limb at i written, the lowest i + 1 limbs are still below their power
pub write_below : (i : ℕ) (xs : List ℕ) (v : ℕ) → i < length xs → v < 4294967296
    → up_to i xs < 4294967296 ^ i → up_to (i + 1) (set xs i v) < 4294967296 ^ (i + 1)
write_below i xs v h l k =
    let P = 4294967296 ^ i in
    plain
    (up_to (i + 1) (set xs i v))
    (4294967296 ^ (i + 1))
    (up_to i xs)
    (v * P)
    P
    (4294967296 * P)
    (up_to_write i xs v h)
    (pow_next i ∙ mul_comm P 4294967296)
    k
    (le_trans (le_of_eq (sym (suc-mul v P))) (mul-le-mul_right P l))
  where
    plain : (A B a x p q : ℕ) → A ≡ a + x → B ≡ q → a < p → x + p ≤ q → A < B
    plain A B a x p q e f g h = omega arith

-- ---- a product that fits
pub product : (xs ys : List ℕ) (r m c : ℕ) → length ys ≡ length xs
    → up_to (length xs) ys + r * 4294967296 ^ length xs ≡ up_to (length xs) xs * m + c
    → val xs * m + c < 4294967296 ^ length xs
    → val ys ≡ val xs * m + c
product xs ys r m c l e h = ap (λ (z : ℕ). up_to z ys) l ∙ carried_none (up_to (length xs) ys) r (4294967296 ^ length xs) (val xs * m + c) e h

-- xs times b^i are ys, and those times b^s are zs
pub scaled_on : (b : ℕ) → 0 < b → (xs ys zs : List ℕ) (i s n r m : ℕ)
    → length zs ≡ length ys → length ys ≡ length xs → m ≡ b ^ s → i + s ≤ n
    → val ys ≡ val xs * b ^ i → val xs * b ^ n < 4294967296 ^ length xs
    → ((k : ℕ) → length ys ≡ k → up_to k zs + r * 4294967296 ^ k ≡ up_to k ys * m + 0)
    → val zs ≡ val xs * b ^ (i + s)
scaled_on b B xs ys zs i s n r m l k e h v p f =
    let small : val ys * b ^ s + 0 < 4294967296 ^ length ys = subst (λ (z : ℕ). val ys * b ^ s + 0 < 4294967296 ^ z) (sym k)
    (scale_below b (val ys) (val xs) i s n (4294967296 ^ length xs) B v h p)
    in
    product ys zs r m 0 l (f (length ys) refl) (subst (λ (z : ℕ). val ys * z + 0 < 4294967296 ^ length ys) (sym e) small)
    ∙ add-zero (val ys * m) ∙ ap (λ (z : ℕ). val ys * z) e ∙ scale_next b (val ys) (val xs) i s v

-- ---- binary digits
pub limb_power : (i : ℕ) → 4294967296 ^ i ≡ 2 ^ (i * 32)
limb_power zero = refl
limb_power (suc i) =
    pow-suc 4294967296 i ∙ ap (λ (z : ℕ). z * 4294967296) (limb_power i)
    ∙ sym (pow-add 2 (i * 32) 32) ∙ ap (λ (z : ℕ). 2 ^ z) (sym (suc-mul i 32))

-- the limb at i is the highest one, and has t + 1 binary digits
pub top_size : (i : ℕ) (xs : List ℕ) (t : ℕ) → up_to i xs < 4294967296 ^ i → 2 ^ t ≤ get_or xs i 0 → get_or xs i 0 < 2 ^ suc t
    → (up_to (i + 1) xs < 2 ^ (i * 32 + suc t)) × (2 ^ (i * 32 + suc t) ≤ up_to (i + 1) xs * 2)
top_size i xs t h l g = (upper, lower)
  where
    q : ℕ
    q = 4294967296 ^ i

    x : ℕ
    x = get_or xs i 0

    is : 2 ^ (i * 32 + suc t) ≡ 2 ^ suc t * q
    is = pow-add 2 (i * 32) (suc t) ∙ ap (λ (z : ℕ). z * 2 ^ suc t) (sym (limb_power i)) ∙ mul_comm q (2 ^ suc t)

    sum : (u y p : ℕ) → u < p → u + y < y + p
    sum u y p h = omega arith

    part : (u y w : ℕ) → w ≤ y → w * 2 ≤ (u + y) * 2
    part u y w h = omega arith

    upper : up_to (i + 1) xs < 2 ^ (i * 32 + suc t)
    upper = subst (λ (z : ℕ). z < 2 ^ (i * 32 + suc t)) (sym (up_to-next i xs)) (subst (λ (z : ℕ). up_to i xs + x * q < z) (sym is)
        (lt_of_lt_of_le (sum (up_to i xs) (x * q) q h) (le_trans (le_of_eq (sym (suc-mul x q))) (mul-le-mul_right q g))))

    twice : 2 ^ (i * 32 + suc t) ≡ 2 ^ t * q * 2
    twice = is ∙ ap (λ (z : ℕ). z * q) (pow-suc 2 t) ∙ mul_right_comm (2 ^ t) 2 q

    lower : 2 ^ (i * 32 + suc t) ≤ up_to (i + 1) xs * 2
    lower = subst (λ (z : ℕ). 2 ^ (i * 32 + suc t) ≤ z * 2) (sym (up_to-next i xs))
        (le_trans (le_of_eq twice) (part (up_to i xs) (x * q) (2 ^ t * q) (mul-le-mul_right q l)))

-- a highest limb that is 0
pub top_zero : (i : ℕ) (xs : List ℕ) → 0 < i → get_or xs (i - 1) 0 ≡ 0 → up_to i xs ≡ up_to (i - 1) xs
top_zero i xs h e =
    ap (λ (z : ℕ). up_to z xs) (go i h) ∙ up_to-next (i - 1) xs
    ∙ ap (λ (z : ℕ). up_to (i - 1) xs + z * 4294967296 ^ (i - 1)) e
    ∙ ap (λ (z : ℕ). up_to (i - 1) xs + z) (zero-mul (4294967296 ^ (i - 1))) ∙ add-zero (up_to (i - 1) xs)
  where
    go : (i : ℕ) → 0 < i → i ≡ i - 1 + 1
    go i h = omega arith

pub dbl_lt : (a b p : ℕ) → a < b → b * 2 < p → a * 2 < p
dbl_lt a b p h k = omega arith

pub digit-zero : (x a b : ℕ) → x ≡ a * 2 → a < b → (x + 0 * (b * 2) ≡ a * 2) × (x < b * 2)
digit-zero x a b e h = (omega arith, omega arith)

pub digit-one : (x a b y : ℕ) → x ≡ y * 2 → y + b ≡ a → a < b * 2 → (x + 1 * (b * 2) ≡ a * 2) × (x < b * 2)
digit-one x a b y e f h = (omega arith, omega arith)

pub rest_lt : (a b y : ℕ) → y + b ≡ a → a < b * 2 → y < b
rest_lt a b y e h = omega arith

-- ---- 0
pow_pos_of : (n : ℕ) → 0 < 4294967296 ^ n
pow_pos_of n = one-le-pow n 4294967296 (lit< tt)

pub some_limb : (n i : ℕ) (xs : List ℕ) → i < n → 0 < get_or xs i 0 → 0 < up_to n xs
unfolding up_to
some_limb zero i xs h l = absurd (omega arith)
some_limb (suc n) i xs h l = go (eq-or-lt_of_le h) (λ k. some_limb n i xs k l)
  where
    more : (a b : ℕ) → 0 < a → 0 < a + b
    more a b h = omega arith

    last : (a b : ℕ) → 0 < b → 0 < a + b
    last a b h = omega arith

    below : suc i < suc n → i < n
    below h = omega arith

    same : suc i ≡ suc n → i ≡ n
    same h = omega arith

    go : (suc i ≡ suc n) ⊎ (suc i < suc n) → (i < n → 0 < up_to n xs) → 0 < up_to n xs + get_or xs n 0 * 4294967296 ^ n
    go (inl e) f = last (up_to n xs) _ (mul-pos (subst (λ (z : ℕ). 0 < get_or xs z 0) (same e) l) (pow_pos_of n))
    go (inr k) f = more (up_to n xs) _ (f (below k))

pub zero-next : (i : ℕ) (xs : List ℕ) → up_to i xs ≡ 0 → get_or xs i 0 ≡ 0 → up_to (i + 1) xs ≡ 0
zero-next i xs e h =
    up_to-next i xs
    ∙ ap (λ (z : ℕ). z + get_or xs i 0 * 4294967296 ^ i) e
    ∙ ap (λ (z : ℕ). 0 + z * 4294967296 ^ i) h
    ∙ ap (λ (z : ℕ). 0 + z) (zero-mul (4294967296 ^ i))

pub zero_limbs : (n : ℕ) (xs : List ℕ) → ((k : ℕ) → k < n → get_or xs k 0 ≡ 0) → up_to n xs ≡ 0
unfolding up_to
zero_limbs zero xs f = refl
zero_limbs (suc n) xs f =
    ap (λ (z : ℕ). z + get_or xs n 0 * 4294967296 ^ n) (zero_limbs n xs (λ k l. f k (omega arith)))
    ∙ ap (λ (z : ℕ). 0 + z * 4294967296 ^ n) (f n (le_refl (suc n)))
    ∙ ap (λ (z : ℕ). 0 + z) (zero-mul (4294967296 ^ n))

pub zero_limb : (n k : ℕ) (xs : List ℕ) → up_to n xs ≡ 0 → k < n → get_or xs k 0 ≡ 0
zero_limb n k xs e h = go (get_or xs k 0) (λ p. some_limb n k xs h p)
  where
    go : (x : ℕ) → (0 < x → 0 < up_to n xs) → x ≡ 0
    go zero f = refl
    go (suc x) f = absurd (omega (arith, f (zero-lt-suc x)))

-- ---- a part of a number

more_limbs : (k n : ℕ) (xs : List ℕ) → up_to n xs ≤ up_to (k + n) xs
unfolding up_to
more_limbs zero n xs = le_of_eq (ap (λ (z : ℕ). up_to z xs) (sym (zero-add n)))
more_limbs (suc k) n xs =
    le_trans (more_limbs k n xs)
    (le_trans (more (up_to (k + n) xs) (get_or xs (k + n) 0 * 4294967296 ^ (k + n)))
    (le_of_eq (ap (λ (z : ℕ). up_to z xs) (sym (suc-add k n)))))
  where
    more : (x y : ℕ) → x ≤ x + y
    more x y = omega arith

up_to_mono : (n m : ℕ) (xs : List ℕ) → n ≤ m → up_to n xs ≤ up_to m xs
up_to_mono n m xs h = le_trans (more_limbs (m - n) n xs) (le_of_eq (ap (λ (z : ℕ). up_to z xs) (whole n m h)))
  where
    whole : (n m : ℕ) → n ≤ m → m - n + n ≡ m
    whole n m h = omega arith

-- the lowest n limbs say v, where both fewer and more do
pub part_between : (n i j : ℕ) (xs : List ℕ) (v : ℕ) → n ≤ length xs → i ≤ n → n ≤ j → up_to i xs ≡ v → up_to j xs ≡ v → val (take n xs) ≡ v
part_between n i j xs v h a b e f =
    ap (λ (z : ℕ). up_to z (take n xs)) (length-take-le n xs h)
    ∙ up_to-same n (take n xs) xs (λ k l. get_or-take n xs k 0 l)
    ∙ between (up_to i xs) (up_to n xs) (up_to j xs) v (up_to_mono i n xs a) (up_to_mono n j xs b) e f
  where
    between : (x y z v : ℕ) → x ≤ y → y ≤ z → x ≡ v → z ≡ v → y ≡ v
    between x y z v a b e f = omega arith
