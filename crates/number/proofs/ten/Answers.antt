-- `number::ten` meets its contract: each number of the table is its power of ten.
use mathlib.Core.Path.{refl}
use mathlib.Core.List.{List, [], ◌∷◌}
use mathlib.Core.Bool.{false}
use Prim.Native.Nat.{ℕ, zero, suc, ◌^◌, ◌≤◌}
use native.Mathlib.Omega.{arith}
use lib.ListN.{get_or}
use lib.Ieee.{Float, nan, binary32, of_bits}
use lib.Ieee.Exact.{HasValue}
use Rattle.number.proofs.ten.Goals as goal

abbrev table : List Float
table =
    of_bits binary32 0x3f80_0000 ∷ of_bits binary32 0x4120_0000 ∷ of_bits binary32 0x42c8_0000 ∷ of_bits binary32 0x447a_0000
    ∷ of_bits binary32 0x461c_4000 ∷ of_bits binary32 0x47c3_5000 ∷ of_bits binary32 0x4974_2400 ∷ of_bits binary32 0x4b18_9680
    ∷ of_bits binary32 0x4cbe_bc20 ∷ of_bits binary32 0x4e6e_6b28 ∷ []

exactly : (p : ℕ) → p ≤ 9 → HasValue (get_or table p nan) false (10 ^ p) 1
unfolding of_bits
exactly zero h = (refl, refl)
exactly (suc zero) h = (refl, refl)
exactly (suc (suc zero)) h = (refl, refl)
exactly (suc (suc (suc zero))) h = (refl, refl)
exactly (suc (suc (suc (suc zero)))) h = (refl, refl)
exactly (suc (suc (suc (suc (suc zero))))) h = (refl, refl)
exactly (suc (suc (suc (suc (suc (suc zero)))))) h = (refl, refl)
exactly (suc (suc (suc (suc (suc (suc (suc zero))))))) h = (refl, refl)
exactly (suc (suc (suc (suc (suc (suc (suc (suc zero)))))))) h = (refl, refl)
exactly (suc (suc (suc (suc (suc (suc (suc (suc (suc zero))))))))) h = (refl, refl)
exactly (suc (suc (suc (suc (suc (suc (suc (suc (suc (suc p)))))))))) h = absurd (omega arith)

pub returns : goal.returns
returns c = exactly c.args.places c.requires
