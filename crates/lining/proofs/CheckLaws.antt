-- The check byte tells one byte changed, and never two swapped.
use Prim.Native.Nat.{ℕ, zero, suc, ◌+◌, ◌/◌, ◌%◌, ◌<◌}
use mathlib.Core.List.{List, [], ◌∷◌, ◌++◌}
use mathlib.Core.Logic.{◌≢◌}
use mathlib.Core.Path.{◌≡◌, refl}
use native.Mathlib.Omega.{arith}
use lib.ListN.{length, get_or, set, take, drop, length-set}
use lib.Seq.{take-append_seam}
use Rattle.error.specs.declared.LineAnswer.TheVariants.{Accepted}
use Rattle.codec.proofs.Laws.{All}
use Rattle.lining.specs.Line.{hex, total, covered, check_byte, spelled, line}
use Rattle.lining.specs.Lining.{lining}
use Rattle.lining.specs.ReadBack.{Spells, Lined}
use Rattle.lining.proofs.LineLaws.{given}
use Rattle.lining.proofs.ByteLaws.{Byte, all_append, all-at, Recorded, recorded}
use Rattle.lining.proofs.BackLaws.{hex_back}

total-append : (a b : List ℕ) → total (a ++ b) ≡ total a + total b
unfolding total
total-append [] b = omega arith
total-append (x ∷ a) b = let e = total-append a b in omega arith

-- 02 (c): "length, record and check byte together sum to zero modulo 256"
pub zero-sum : (r : List ℕ) → total (spelled r) % 256 ≡ 0
unfolding check_byte total
zero-sum r = omega (arith, total-append (covered r) (check_byte r ∷ []))

-- ---- bytes changed and swapped

total-set : (bs : List ℕ) (i b : ℕ) → i < length bs → total (set bs i b) + get_or bs i 0 ≡ total bs + b
unfolding total
total-set [] i b h = absurd (omega arith)
total-set (x ∷ bs) zero b h = omega arith
total-set (x ∷ bs) (suc i) b h = let e = total-set bs i b (omega arith) in omega arith

-- "so that the sum tells any one of these bytes changed"
pub one_changed : (bs : List ℕ) (i b : ℕ) → i < length bs → get_or bs i 0 < 256 → b < 256 → b ≢ get_or bs i 0
    → total bs % 256 ≡ 0 → total (set bs i b) % 256 ≢ 0
one_changed bs i b h x y e z w = e (omega (arith, total-set bs i b h))

at_set : (bs : List ℕ) (i j : ℕ) → i < length bs → j < length bs → get_or (set bs i (get_or bs j 0)) j 0 ≡ get_or bs j 0
at_set [] i j h g = absurd (omega arith)
at_set (x ∷ bs) zero zero h g = refl
at_set (x ∷ bs) zero (suc j) h g = refl
at_set (x ∷ bs) (suc i) zero h g = refl
at_set (x ∷ bs) (suc i) (suc j) h g = at_set bs i j (omega arith) (omega arith)

-- "and never two swapped"
pub two_swapped : (bs : List ℕ) (i j : ℕ) → i < length bs → j < length bs
    → total (set (set bs i (get_or bs j 0)) j (get_or bs i 0)) ≡ total bs
two_swapped bs i j h g =
    let cs = set bs i (get_or bs j 0) in
    omega (
      arith,
      total-set bs i (get_or bs j 0) h,
      total-set cs j (get_or bs i 0) (omega (arith, length-set bs i (get_or bs j 0))),
      at_set bs i j h g,
    )

-- ---- the line of a record

spelled-bytes : (r : List ℕ) → Recorded r → All Byte (spelled r)
unfolding check_byte
spelled-bytes r h = (omega arith, (omega arith, all_append r (check_byte r ∷ []) h.bytes (omega arith, tt)))

spells : (r : List ℕ) → Recorded r → Spells r (hex (spelled r))
spells r h = record {
  high = length r / 256 % 256;
  low = length r % 256;
  check = check_byte r;
  back = hex_back (spelled r) bytes;
  long = let l = h.short in omega arith;
  small = all-at (spelled r) bytes;
  tells = record {
    zero = zero-sum r;
    changed = λ i b l k n. one_changed (spelled r) i b l (all-at (spelled r) bytes i) k n (zero-sum r);
    swapped = λ i j l k. rw (two_swapped (spelled r) i j l k) (zero-sum r);
  };
}
  where
    bytes : All Byte (spelled r)
    bytes = spelled-bytes r h

-- ---- what lining accepts

at_front : {n : ℕ} (l rest after : List ℕ) → n ≡ length l → after ≡ l ++ rest → take n after ≡ l
at_front l rest after e f = rw (e, f) (take-append_seam l rest)

-- "the sum tells any one of these bytes changed and never two swapped", of the line that is given
pub lined : (t s : List ℕ) (i : ℕ) (out : List ℕ) {n : ℕ} {after : List ℕ} → lining t s i out ≡ (Accepted n, after) → Lined t s i n after
unfolding line
lined t s i out {n} {after} e =
    let g = given t s i out e in
    let r = g.bytes in
    record {
      tree = g.tree;
      decodes = g.decodes;
      bytes = r;
      found = g.found;
      digits = hex (spelled r);
      is = at_front (line r) (drop n out) after g.long g.is;
      spells = spells r (recorded (length t) s g.tree g.decodes i g.found);
    }
