-- When the search from 10 places on is asked.
use Prim.Native.Nat.{ℕ, zero-le, ◌+◌, ◌-◌, ◌*◌, ◌^◌, ◌≤◌, ◌<◌}
use mathlib.Core.Logic.{⊎_elim}
use mathlib.Core.Path.{◌≡◌, refl, sym, ap, ◌∙◌}
use native.Mathlib.Nat.{le_trans, le_of_eq, lt_irrefl, lt_of_lt_of_le, lt_of_le_of_lt, eq-zero-or-pos, mul-le-mul, pow-le-pow_right}
use native.Mathlib.Omega.{arith}
use lib.Dec.{lit<}
use lib.Pow.{pow-add, pow_mono}
use lib.Ieee.{round, to_bits}
use Rattle.number.specs.Number.{bits}
use Rattle.digits.specs.Means.{bits_of, lowest, doublings, Halfway, Placed, Missed, Long, Lengthy}
use Rattle.digits.specs.declared.Middle.{Middle}
use Rattle.digits.proofs.NumeralLaws.{ten_pos}
use Rattle.digits.proofs.OrderLaws.{bits_mono}
use Rattle.digits.proofs.MiddleLaws.{spaced}

module _ {b : ℕ} {low high : Middle} (B : 0 < b) (x : Halfway b low × Placed b low) (y : Halfway (b + 1) high × Placed (b + 1) high) where
  close : low.shift ≤ 1 + high.shift
  close = go b low.shift high.shift B x.1.tight y.1.reach
    where
      go : (b s t : ℕ) → 0 < b → s ≤ 150 - doublings (b - 1) → 150 ≤ doublings (b + 1 - 1) + t → s ≤ 1 + t
      go b s t h k l = omega arith

  near : 2 ^ low.shift ≤ 2 * 2 ^ high.shift
  near = le_trans (pow_mono close) (le_of_eq (pow-add 2 1 high.shift))

  some_shift : (s : ℕ) → 10 ^ 10 ≤ 10 * 2 ^ s → 0 < s
  some_shift s h =
      ⊎_elim (λ (e : s ≡ 0). absurd (no (le_trans h (le_of_eq (ap (λ (z : ℕ). 10 * 2 ^ z) e))))) (λ (g : 0 < s). g) (eq-zero-or-pos s)
    where
      no : 10 ^ 10 ≤ 10 * 1 → ⊥
      no h = omega arith

  long_of : {c : ℕ} {m : Middle} → Placed c m → 10 ^ 10 ≤ 10 * 2 ^ m.shift → Long m
  long_of {m = m} p h = record { tie = p.tie; num = p.small (some_shift m.shift h); shift = p.shift; wide = h }

  pub lengthy : 10 ^ 10 ≤ 5 * 2 ^ low.shift → Missed b 10 → Lengthy b low high
  lengthy w m = record {
    long_low = long_of x.1 (once (2 ^ low.shift) w);
    long_high = long_of y.1 (twice (2 ^ low.shift) (2 ^ high.shift) w near);
    half_low = x.0;
    half_high = y.0;
    apart = spaced B x.1 y.1;
    near = near;
    wide = w;
    missed = m;
  }
    where
      once : (s : ℕ) → 10 ^ 10 ≤ 5 * s → 10 ^ 10 ≤ 10 * s
      once s h = omega arith

      twice : (s t : ℕ) → 10 ^ 10 ≤ 5 * s → s ≤ 2 * t → 10 ^ 10 ≤ 10 * t
      twice s t h k = omega arith

-- ---- below 10 ^ -9

nano_bits : bits_of 1 (10 ^ 9) ≡ lowest
unfolding bits_of bits round to_bits
nano_bits = refl

nothing-bits : (j : ℕ) → bits_of 0 (10 ^ j) ≤ bits_of 0 1
nothing-bits j = bits_mono 0 (10 ^ j) 0 1 (ten_pos j) (lit< tt) zero-le

zero_bits : bits_of 0 1 ≡ 0
unfolding bits_of bits round to_bits
zero_bits = refl

module _ (b : ℕ) (lo : 0 < b) (hi : b < lowest) where
  pub tiny_missed : Missed b 10
  tiny_missed = record {
    none = λ v j g c. ⊎_elim
        (λ (e : v ≡ 0). lt_irrefl b
        (lt_of_le_of_lt (le_trans (le_of_eq (sym c.reads ∙ ap (λ (z : ℕ). bits_of z (10 ^ j)) e))
        (le_trans (nothing-bits j) (le_of_eq zero_bits)))
        lo))
        (λ (e : 0 < v). lt_irrefl b
        (lt_of_lt_of_le hi (le_trans (le_of_eq (sym nano_bits)) (le_trans (reach v j g e) (le_of_eq c.reads)))))
        (eq-zero-or-pos v);
  }
    where
      few : (j : ℕ) → j < 10 → j ≤ 9
      few j h = omega arith

      reach : (v j : ℕ) → j < 10 → 0 < v → bits_of 1 (10 ^ 9) ≤ bits_of v (10 ^ j)
      reach v j g e =
          bits_mono 1 (10 ^ 9) v (10 ^ j) (ten_pos 9) (ten_pos j) (mul-le-mul e (pow-le-pow_right {n = 10} (lit< tt) (few j g)))

  pub tiny_wide : {low : Middle} → Placed b low → 10 ^ 10 ≤ 5 * 2 ^ low.shift
  tiny_wide {low} p = plain (2 ^ low.shift) (pow_mono {i = 54} (many b low.shift hi p.reach))
    where
      many : (b s : ℕ) → b < lowest → 150 ≤ doublings (b - 1) + s → 54 ≤ s
      many b s h k = omega arith

      plain : (s : ℕ) → 2 ^ 54 ≤ s → 10 ^ 10 ≤ 5 * s
      plain s h = omega arith
