-- The rules of the quarter-wave table: one computed test over all its entries, and what it tells of each.
use mathlib.Core.Path.{◌≡◌, refl, subst}
use native.Mathlib.Omega.{arith}
use mathlib.Core.Bool.{Bool}
use mathlib.Core.List.{List, [], ◌∷◌}
use Prim.Native.Nat.{ℕ, zero, suc, ◌+◌, ◌*◌, ◌-◌, ◌<◌, ◌≤◌}
use native.Mathlib.Nat.{le_of_suc-le-suc}
use lib.Dec.{T, leb, leb→le}
use lib.ListN.{length, get_or}
use Rattle.drawing.specs.Table.{table}
use Rattle.drawing.proofs.Every.{both, every, at, both_left, both_right}

abbrev under : ℕ → ℕ → Bool
under k x = leb x 32767

abbrev step : ℕ → ℕ → Bool
step k x = leb x (get_or table (suc k) 32767)

-- the squares of an entry and of its opposite
abbrev pub sum : ℕ → ℕ → ℕ
sum k x = x * x + get_or table (1024 - k) 0 * get_or table (1024 - k) 0

abbrev not_above : ℕ → ℕ → Bool
not_above k x = leb (sum k x) (32767 * 32767 + 65536)

abbrev not-below : ℕ → ℕ → Bool
not-below k x = leb (32767 * 32767) (sum k x + 65536)

-- all that is tested of an entry
abbrev test : ℕ → ℕ → Bool
test k x = both (both (under k x) (step k x)) (both (not_above k x) (not-below k x))

pub passes : T (every test 0 table)
unfolding every table
passes = tt

pub long : length table ≡ 1025
unfolding table
long = refl

tested : (k : ℕ) → k < 1025 → T (test k (get_or table k 0))
tested k h = at test table passes k (rw long h)

parts : (a b x y : Bool) → T (both (both a b) (both x y)) → (T a × T b) × (T x × T y)
parts a b x y t =
    let l = both_left (both a b) (both x y) t in
    let r = both_right (both a b) (both x y) t in
    ((both_left a b l, both_right a b l), (both_left x y r, both_right x y r))

facts : (k : ℕ) → k < 1025 → let x = get_or table k 0 in (T (under k x) × T (step k x)) × (T (not_above k x) × T (not-below k x))
facts k h =
    let x = get_or table k 0 in
    parts (under k x) (step k x) (not_above k x) (not-below k x) (tested k h)

-- no entry exceeds the peak
pub at_most : (k : ℕ) → k < 1025 → get_or table k 0 ≤ 32767
at_most k h = leb→le (get_or table k 0) 32767 (facts k h).0.0

any_default : (xs : List ℕ) (k d e : ℕ) → k < length xs → get_or xs k d ≡ get_or xs k e
any_default [] k d e h = absurd (omega arith)
any_default (x ∷ xs) zero d e h = refl
any_default (x ∷ xs) (suc k) d e h = any_default xs k d e (le_of_suc-le-suc h)

-- "no entry is smaller than the one before"
pub rises : (k : ℕ) → k < 1024 → get_or table k 0 ≤ get_or table (suc k) 0
rises k h =
    subst (λ (n : ℕ). get_or table k 0 ≤ n) (any_default table (suc k) 32767 0 (rw long (omega arith)))
    (leb→le (get_or table k 0) (get_or table (suc k) 32767) (facts k (omega arith)).0.1)

-- "the squares of entries i and 1,024 - i sum to within 65,536 of 32,767 squared"
pub squares : (k : ℕ) → k < 1025 →
    (sum k (get_or table k 0) ≤ 32767 * 32767 + 65536) × (32767 * 32767 ≤ sum k (get_or table k 0) + 65536)
squares k h =
    let x = get_or table k 0 in
    (leb→le (sum k x) (32767 * 32767 + 65536) (facts k h).1.0, leb→le (32767 * 32767) (sum k x + 65536) (facts k h).1.1)
