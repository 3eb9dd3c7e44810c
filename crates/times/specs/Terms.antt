-- The terms of demand 3, on keys as they are written.
use Rattle.std.specs.Prelude.{ℕ, ◌+◌, ◌*◌, ◌^◌, ◌≤◌, ◌<◌, true, List, ◌≡◌, Float}
use Rattle.std.proofs.Math.Option.{some}
use Rattle.std.proofs.Math.ListN.{get_elem?}
use Rattle.number.specs.Exact.{Exact, exact_of, apart, dens}
use Rattle.number.specs.Time.{Key, written_time}

-- "no percent above 16,777,216 in size"
abbrev pub FairPercent : Key → Type 0
FairPercent t = t.percent ≡ true → t.written.digits ≤ 16777216

-- "no written time of the track above 2^k in size"
abbrev pub AtMost : ℕ → Key → Type 0
AtMost k t = (written_time t).num ≤ 2 ^ k * (written_time t).den

-- a float is "within 2^(k-25) of the written one"
abbrev pub Within : ℕ → Key → Float → Type 0
Within k t x = (y : Exact) × (exact_of x ≡ some y) × (apart y (written_time t) * 2 ^ 25 ≤ 2 ^ k * dens y (written_time t))

-- "differ .. by 2^-23 + 2^(k-24) or more"
abbrev pub Far : ℕ → Key → Key → Type 0
Far k t u = (2 + 2 ^ k) * dens (written_time t) (written_time u) ≤ apart (written_time t) (written_time u) * 2 ^ 24

-- "equal written times"
abbrev pub Equal : Key → Key → Type 0
Equal t u = apart (written_time t) (written_time u) ≡ 0

-- "differ by less than 2^-24"
abbrev pub Close : Key → Key → Type 0
Close t u = apart (written_time t) (written_time u) * 2 ^ 24 < dens (written_time t) (written_time u)

-- every one; every two, the earlier first
abbrev pub Each : (Key → Type 0) → List Key → Type 0
Each P ks = (i : ℕ) (t : Key) → get_elem? ks i ≡ some t → P t

abbrev pub Pairs : (Key → Key → Type 0) → List Key → Type 0
Pairs P ks = (i j : ℕ) (t u : Key) → i < j → get_elem? ks i ≡ some t → get_elem? ks j ≡ some u → P t u
