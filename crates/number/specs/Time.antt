-- A keyframe's time: as written, as stored, and when two are duplicates.
use Rattle.std.specs.Prelude.{◌^◌, Bool, false, ◌||◌, cond, List, [], ◌∷◌, ◌++◌, negsuc, Float}
use Rattle.std.specs.Float.{nan, inf, fin, binary32}
use Rattle.std.specs.Float.Ieee.{sub, lt}
use Rattle.number.specs.Number.{Written, nearest, percent}
use Rattle.number.specs.Exact.{Exact}

-- a keyframe's key, as it is written: with `%` or not, with `-` or not, the number
pub record Key : Type 0 where
  pub percent : Bool
  pub negative : Bool
  pub written : Written

-- 01, "For demand 3": "An entry's written time is its key's number in the text, sign included, `s` left off, a percent n being n/100"
-- A percent is a whole number: n is its digits, here and in `stored_time`, and `places` counts for seconds alone.
abbrev pub written_time : Key → Exact
written_time k = record { negative = k.negative; num = k.written.digits; den = cond k.percent 100 (10 ^ k.written.places) }

-- the f32 that is stored for it
unfoldable pub stored_time : Key → Float
stored_time k = cond k.percent (percent k.negative k.written.digits) (nearest k.negative k.written)

-- ---- 01, "Duplicates"

-- a float without its sign
abbrev pub size : Float → Float
size nan = nan
size (inf s) = inf false
size (fin s m e) = fin false m e

-- "a pair is a duplicate if the size of the f32 difference is below 2^-23"
unfoldable pub near : Float → Float → Bool
near x y = lt (size (sub binary32 x y)) (fin false 1 (negsuc 22))

-- "for each frame in order, every earlier time is tried"
unfoldable pub any_near : Float → List Float → Bool
any_near t [] = false
any_near t (s ∷ ss) = near s t || any_near t ss

-- whether a time is near one before it, some being given
unfoldable pub duplicates : List Float → List Float → Bool
duplicates seen [] = false
duplicates seen (t ∷ ts) = any_near t seen || duplicates (seen ++ t ∷ []) ts
