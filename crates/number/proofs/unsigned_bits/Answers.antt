-- `number::unsigned_bits` meets its contract.
use Prim.Native.Nat.{ℕ, ◌^◌, ◌≤◌}
use native.Mathlib.Nat.{one-le-pow, pow-le-pow_right}
use native.Mathlib.Omega.{arith}
use lib.Dec.{lit<}
use Rattle.number.proofs.unsigned_bits.Goals as goal

bound : (p : ℕ) → p ≤ 9 → 10 ^ p ≤ 1000000000
bound p h = pow-le-pow_right {n = 10} (lit< tt) h

pub nearest_bits-requires : goal.nearest_bits-requires
nearest_bits-requires c =
    let p = c.args.places in
    omega (arith, c.ten_to.ensures, one-le-pow p 10 (lit< tt), bound p c.requires)
