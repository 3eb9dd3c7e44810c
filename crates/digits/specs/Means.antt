-- What private functions ensure: words of contracts, which a reader need not believe.
use Rattle.std.specs.Prelude.{ℕ, ◌+◌, ◌-◌, ◌*◌, ◌/◌, ◌%◌, ◌^◌, ◌<◌, ◌≤◌, false, cond, Some, None, List, eqb, ◌≡◌, length}
use Rattle.limbs.specs.LimbMeans.{up_to}
use Rattle.std.specs.Float.{binary32}
use Rattle.std.specs.Float.Ieee.{round}
use Rattle.text.specs.Limits.{whole_limit}
use Rattle.number.specs.Number.{bits, percent}
use Rattle.digits.specs.Fewest.{whole_digits}
use Rattle.digits.specs.declared.Middle.{Middle}
use Rattle.digits.specs.declared.Best.{Best}
use Rattle.digits.specs.declared.Parts.{Parts}
use Rattle.digits.specs.declared.Decimal.{Decimal}
use Rattle.digits.specs.AnswerMeans.{whole_number}

-- the bits of the nearest f32 to n / d, and those of n percent
unfoldable pub bits_of : ℕ → ℕ → ℕ
bits_of n d = bits (round binary32 false n d)

unfoldable pub percent_bits : ℕ → ℕ
percent_bits n = bits (percent false n)

-- the bits of the f32 next to 10 ^ -9 and of the f32 10 ^ 10: between them the search goes in 64 bits
abbrev pub lowest : ℕ
lowest = 814313567

abbrev pub highest : ℕ
highest = 1343554297

-- the bits of the f32 next to 10 ^ -40, the smallest that a number above 0 reads to, and of infinity, the largest
abbrev pub least : ℕ
least = 71362

abbrev pub infinity : ℕ
infinity = 2139095040

-- the f32 with the bits b is digits_of b, doubled so often, times 2 ^ -149
abbrev pub doublings : ℕ → ℕ
doublings b = b / 8388608 - 1

abbrev pub digits_of : ℕ → ℕ
digits_of b = b - doublings b * 8388608

-- ---- n / d reaches the f32 with the bits b

-- what keeps the products below 2 ^ 64
pub record Fair (m : Middle) : Type 0 where
  pub num : m.num < 2 ^ 34
  pub shift : m.shift ≤ 54
  pub tie : m.tie ≤ 1

-- exactly past the middle m, or at it where the tie goes up
pub record Halfway (b : ℕ) (m : Middle) : Type 0 where
  pub forth : (n d : ℕ) → 0 < d → b ≤ bits_of n d → m.num * d < n * 2 ^ m.shift + m.tie
  pub back : (n d : ℕ) → 0 < d → m.num * d < n * 2 ^ m.shift + m.tie → b ≤ bits_of n d

-- m is the middle below the f32 with the bits b
pub record Placed (b : ℕ) (m : Middle) : Type 0 where
  pub tie : m.tie ≤ 1
  pub num : m.num < 2 ^ 34
  pub small : 0 < m.shift → m.num < 2 ^ 25
  pub shift : m.shift ≤ 150
  pub fair : lowest ≤ b → m.shift ≤ 54
  pub is : m.num * 2 ^ 150 ≡ (2 * digits_of (b - 1) + 1) * 2 ^ doublings (b - 1) * 2 ^ m.shift
  pub reach : 150 ≤ doublings (b - 1) + m.shift
  pub tight : m.shift ≤ 150 - doublings (b - 1)

-- the middles below two neighbours are at least two halves of a unit apart
pub record Spaced (low high : Middle) : Type 0 where
  pub apart : (low.num + 2) * 2 ^ high.shift ≤ high.num * 2 ^ low.shift

-- exactly from r on
pub record FirstAt (b d r : ℕ) : Type 0 where
  pub reached : (n : ℕ) → r ≤ n → b ≤ bits_of n d
  pub first : (n : ℕ) → b ≤ bits_of n d → r ≤ n

-- ---- how many digits n over 10 ^ p is written with

unfoldable pub long : ℕ → ℕ → ℕ
long n p = length (whole_digits (whole_limit - 1) (n / 10 ^ p)) + p

-- c is the least number above p such that n has c digits
pub record Wide (n p c limit : ℕ) : Type 0 where
  pub above : p < c
  pub power : limit ≡ 10 ^ c
  pub enough : n < limit
  pub least : (e : ℕ) → p < e → n < 10 ^ e → c ≤ e

-- ---- the search over the places, from 0 up to some

-- v over 10 ^ j reads to b, and can be written
pub record Candidate (b v j : ℕ) : Type 0 where
  pub reads : bits_of v (10 ^ j) ≡ b
  pub below : v / 10 ^ j < 10 ^ whole_limit

-- n over 10 ^ p has the fewest digits, c, of those with fewer than `places` places, and is the smallest of these
pub record Leads (b places n p c : ℕ) : Type 0 where
  pub low : p < places
  pub is : Candidate b n p
  pub size : long n p ≡ c
  pub fewer : (v j : ℕ) → j < places → Candidate b v j → c ≤ long v j
  pub smaller : (v j : ℕ) → j < places → Candidate b v j → long v j ≡ c → n * 10 ^ j ≤ v * 10 ^ p

-- what a search holds, whatever it has found
pub record Bounded (s : Best) : Type 0 where
  pub digits : s.digits ≤ 19
  pub limit : s.limit ≡ 10 ^ s.digits

-- none with fewer places reads to b
pub record Missed (b places : ℕ) : Type 0 where
  pub none : (v j : ℕ) → j < places → Candidate b v j → ⊥

-- where nothing is found, a place's worth is no more than 5 / 2 units, so that the next number is small
pub record Searched (b shift places : ℕ) (s : Best) : Type 0 where
  pub bounded : Bounded s
  pub plain : (r : Decimal) → s.number ≡ Some r → (r.middle ≡ 0) × (r.high ≡ 0)
  pub found : (r : Decimal) → s.number ≡ Some r → Leads b places r.n r.places s.digits
  pub short : (r : Decimal) → s.number ≡ Some r → s.digits ≤ 10
  pub full : s.number ≡ None → s.digits ≡ 19
  pub missed : s.number ≡ None → Missed b places
  pub wide : s.number ≡ None → 10 ^ places ≤ 5 * 2 ^ shift

-- what one more step asks
pub record Ready (s : Best) (low high : Middle) (places scale : ℕ) : Type 0 where
  pub bounded : Bounded s
  pub fair_low : Fair low
  pub fair_high : Fair high
  pub few : places ≤ 9
  pub power : scale ≡ 10 ^ places
  pub fewer : places < s.digits
  pub small : 0 < low.shift → low.num < 2 ^ 25

-- ---- more than 9 places: a whole number, and behind it a fraction of 160 binary digits, in 5 limbs

-- what keeps a middle and its multiples small
pub record Long (m : Middle) : Type 0 where
  pub tie : m.tie ≤ 1
  pub num : m.num < 2 ^ 25
  pub shift : m.shift ≤ 150
  pub wide : 10 ^ 10 ≤ 10 * 2 ^ m.shift

-- whole and f are the middle m times 10 ^ p
pub record Fixed (m : Middle) (p whole : ℕ) (f : List ℕ) : Type 0 where
  pub long : length f ≡ 5
  pub below : up_to 5 f < 4294967296 ^ 5
  pub is : whole * 4294967296 ^ 5 + up_to 5 f ≡ m.num * 2 ^ (160 - m.shift) * 10 ^ p

-- the least whole number past it, f being what stands behind the point
abbrev pub first_past : ℕ → ℕ → ℕ → ℕ
first_past tie f whole = cond (eqb tie 0) (whole + 1) (cond (eqb f 0) whole (whole + 1))

-- what the search from 10 places on asks
pub record Lengthy (b : ℕ) (low high : Middle) : Type 0 where
  pub long_low : Long low
  pub long_high : Long high
  pub half_low : Halfway b low
  pub half_high : Halfway (b + 1) high
  pub apart : Spaced low high
  pub near : 2 ^ low.shift ≤ 2 * 2 ^ high.shift
  pub wide : 10 ^ 10 ≤ 5 * 2 ^ low.shift
  pub missed : Missed b 10

-- ---- whole numbers above 10 ^ 10

abbrev pub parts_number : Parts → ℕ
parts_number p = p.n + (p.middle + p.high * 10 ^ 18) * 10 ^ 18

pub record Doubled (p r : Parts) : Type 0 where
  pub is : parts_number r ≡ parts_number p * 2
  pub n : r.n < 10 ^ 18
  pub middle : r.middle < 10 ^ 18

-- the middle below the f32 with the bits b, a whole number; the least number past it
abbrev pub middle_of : ℕ → ℕ
middle_of b = (2 * digits_of (b - 1) + 1) * 2 ^ (doublings (b - 1) - 150)

abbrev pub whole_over : ℕ → ℕ
whole_over b = middle_of b + 1 - digits_of (b - 1) % 2

pub record LeastWhole (b : ℕ) (r : Decimal) : Type 0 where
  pub places : r.places ≡ 0
  pub is : whole_number r ≡ whole_over b

-- ---- percents

-- the bits of 2 ^ 24; the f32 with the bits y, from there on, as a whole number
abbrev pub whole24 : ℕ
whole24 = 1266679808

abbrev pub float_whole : ℕ → ℕ
float_whole y = (digits_of (y - 1) + 1) * 2 ^ (doublings (y - 1) - 149)

-- r is the least f32 from 2 ^ 24 on whose hundredth has the bits b or more
pub record FirstFloat (b r : ℕ) : Type 0 where
  pub low : whole24 ≤ r
  pub high : r ≤ infinity
  pub before : (y : ℕ) → whole24 ≤ y → y < r → percent_bits (float_whole y) < b
  pub reached : b ≤ percent_bits (float_whole r)

-- r is the least number whose percent has the bits b or more, or 10 ^ 40 where no smaller one has
pub record FirstPercent (b r : ℕ) : Type 0 where
  pub top : r ≤ 10 ^ whole_limit
  pub before : (n : ℕ) → n < r → percent_bits n < b
  pub reached : r < 10 ^ whole_limit → b ≤ percent_bits r
