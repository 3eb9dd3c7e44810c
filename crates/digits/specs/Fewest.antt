-- 02 (f): "a number has no suffix and the fewest digits that read to it, the smallest in size of these".
-- A number without sign is so many of 10 ^ -40, here called parts. The searches are never computed: proofs/FewestLaws.antt says what they
-- find.
use Rattle.std.specs.Prelude.{ℕ, zero, suc, ◌+◌, ◌-◌, ◌/◌, ◌%◌, ◌^◌, Bool, true, false, ◌&&◌, cond, List, [], ◌∷◌, ◌++◌, ltb, eqb, length}
use Rattle.std.proofs.Math.Option.{Option, none, some}
use Rattle.text.specs.Limits.{whole_limit, places_limit}
use Rattle.number.specs.Number.{nearest, percent, bits}
use Rattle.digits.specs.Numeral.{Sort, float, percentage, counted, written}

-- ---- the least number below n that passes a test

abbrev pub or_last : Option ℕ → Bool → ℕ → Option ℕ
or_last (some k) b n = some k
or_last none true n = some n
or_last none false n = none

unfoldable pub least_below : (ℕ → Bool) → ℕ → Option ℕ
least_below p zero = none
least_below p (suc n) = or_last (least_below p n) (p n) n

abbrev pub is_some : Option ℕ → Bool
is_some none = false
is_some (some n) = true

-- ---- digits

-- the last k digits of n
unfoldable pub last_digits : ℕ → ℕ → List ℕ
last_digits zero n = []
last_digits (suc k) n = last_digits k (n / 10) ++ (48 + n % 10) ∷ []

-- all digits of n, which is below 10 ^ (k + 1), with no zero before the first; one for 0
unfoldable pub whole_digits : ℕ → ℕ → List ℕ
whole_digits zero n = (48 + n) ∷ []
whole_digits (suc k) n = cond (ltb n 10) ((48 + n) ∷ []) (whole_digits k (n / 10) ++ (48 + n % 10) ∷ [])

-- of n over 10 ^ p the same number with no zero at its end: digits, and how many of them stand behind the point
unfoldable pub trimmed : ℕ → ℕ → ℕ × ℕ
trimmed zero n = (n, 0)
trimmed (suc p) n = cond {A = ℕ × ℕ} (eqb (n % 10) 0) (trimmed p (n / 10)) (n, suc p)

-- n over 10 ^ p
abbrev pub spelled : ℕ × ℕ → List ℕ × List ℕ
spelled d = (whole_digits (whole_limit - 1) (d.0 / 10 ^ d.1), last_digits d.1 d.0)

-- ---- m parts

-- written with no zero too many
abbrev pub numeral : ℕ → List ℕ × List ℕ
numeral m = spelled (trimmed places_limit m)

-- all digits count, a 0 before the point too
unfoldable pub count : ℕ → ℕ
count m = length (numeral m).0 + length (numeral m).1

-- whether they read to the f32 with the bits b
unfoldable pub reads : ℕ → ℕ → Bool
reads b m = eqb (bits (nearest false (written (numeral m)))) b

-- 02 (n): at most 40 digits before the point and 40 behind it
unfoldable pub limit : ℕ
limit = 10 ^ (whole_limit + places_limit)

-- "the smallest in size of these": of the numbers of c digits that read to b
unfoldable pub smallest : ℕ → ℕ → Option ℕ
smallest b c = least_below (λ m. eqb (count m) c && reads b m) limit

-- "the fewest digits that read to it", at most 80
unfoldable pub fewest_digits : ℕ → Option ℕ
fewest_digits b = least_below (λ c. is_some (smallest b c)) (suc (whole_limit + places_limit))

abbrev pub then : Option ℕ → (ℕ → Option ℕ) → Option ℕ
then none f = none
then (some n) f = f n

unfoldable pub fewest : ℕ → Option ℕ
fewest b = then (fewest_digits b) (smallest b)

-- a percent is written as a whole number, so the fewest digits are those of the least
unfoldable pub least_percent : ℕ → Option ℕ
least_percent b = least_below (λ n. eqb (bits (percent false n)) b) (10 ^ whole_limit)

-- ---- the digits before the point, and those behind it; none where nothing reads to the bits

abbrev pub each : Option ℕ → (ℕ → List ℕ × List ℕ) → List ℕ × List ℕ
each none f = ([], [])
each (some n) f = f n

unfoldable pub form : Sort → ℕ → List ℕ × List ℕ
form float b = each (fewest b) numeral
form percentage b = each (least_percent b) (λ n. (whole_digits (whole_limit - 1) n, []))
form counted n = (whole_digits (whole_limit - 1) n, [])
