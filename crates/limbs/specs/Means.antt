-- What the functions ensure: words of contracts, which a reader need not believe.
use Rattle.std.specs.Prelude.{◌≡◌, ◌⊎◌, Bool, false, ℕ, ◌*◌, ◌^◌, ◌≤◌, ◌<◌}
use Rattle.std.specs.Float.{binary32}
use Rattle.std.specs.Float.Ieee.{round}
use Rattle.number.specs.Number.{bits}
use Rattle.number.specs.Rounded.{fraction, rounded}
use Rattle.number.specs.declared.Bits.{Bits}

-- b was doubled k - 150 times, to c, whose double is below p: until it was above a, or 150 times
pub record Raised (p a b c k : ℕ) : Type 0 where
  pub least : 150 ≤ k
  pub most : k ≤ 300
  pub scaled : c * 2 ^ 150 ≡ b * 2 ^ k
  pub above : k < 300 → a < c
  pub near : (k ≡ 150) ⊎ (c ≤ a * 2)
  pub fits : c * 2 < p

-- the bits of the nearest f32 to n / d, and whether it is another number
pub record Nearest (n d : ℕ) (r : Bits) : Type 0 where
  pub bits : r.bits ≡ bits (round binary32 false n d)
  pub rounded : (s : Bool) → r.rounded ≡ rounded (round binary32 s n d) (fraction s n d)
