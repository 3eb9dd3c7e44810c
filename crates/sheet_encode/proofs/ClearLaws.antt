-- Laws of a sheet that is zeroed from a place on, and of one that is written from its start and zeroed behind.
use Prim.Native.Nat.{ℕ, ◌+◌, ◌-◌, ◌≤◌}
use mathlib.Core.Bool.{Bool, true, false}
use mathlib.Core.List.{List, [], ◌∷◌, ◌++◌, append-nil}
use mathlib.Core.Path.{◌≡◌, refl, sym, ◌∙◌}
use native.Mathlib.Omega.{arith}
use native.Mathlib.Nat.{zero-add}
use lib.Dec.{leb}
use lib.ListN.{length, set, take, drop, replicate, length-replicate, replicate-append-replicate, drop_of_length-le}
use lib.Seq.{sets, sets-eq, take_all, take_at}
use borrow.Author.Tests.{leb-true, leb-false}
use Rattle.text.proofs.WriteLaws.{sets_append}
use Rattle.sheet_encode.specs.WriteMeans.{Writes}
use Rattle.sheet_encode.proofs.OverLaws.{writes_keeps}

-- one zero more
pub zeros_more : (l : List ℕ) (i k j : ℕ) → j ≡ i + k → set (sets l i (replicate k 0)) j 0 ≡ sets l i (replicate (k + 1) 0)
zeros_more l i k j e =
    rw (← replicate-append-replicate {A = ℕ} k 1 0, sets_append l i (replicate k 0) (0 ∷ []), length-replicate, e)

-- zeros from a place to the end
pub zeros_all : (l : List ℕ) (i : ℕ) → sets l i (replicate (length l - i) 0) ≡ take i l ++ replicate (length l - i) 0
zeros_all l i = go (leb (length l) i) refl
  where
    go : (t : Bool) → leb (length l) i ≡ t → sets l i (replicate (length l - i) 0) ≡ take i l ++ replicate (length l - i) 0
    go true e =
        let h = leb-true (length l) i e in
        let z : length l - i ≡ 0 = omega arith in
        rw (z, take_all i l h, append-nil)
    go false e =
        let h = leb-false (length l) i e in
        let zs : List ℕ = replicate (length l - i) 0 in
        let n : length zs ≡ length l - i = length-replicate (length l - i) 0 in
        sets-eq zs l i (omega arith) ∙ (rw (drop_of_length-le l {i = i + length zs} (omega arith), append-nil))

-- ---- bytes from the start on, and zeros behind them, whatever the sheet held before

module _ {out after bs : List ℕ} {end : ℕ} (w : Writes out 0 bs after end) (h : length bs ≤ length out) where
  pub from_zero : after ≡ bs ++ drop (length bs) out
  from_zero = w.bytes ∙ sets-eq bs out 0 (rw zero-add h) ∙ (rw zero-add)

  pub written : take end after ≡ bs
  written = rw from_zero (take_at bs (drop (length bs) out) end (sym (w.place ∙ zero-add (length bs))))

  pub cleared : take end after ++ replicate (length after - end) 0 ≡ bs ++ replicate (length out - length bs) 0
  cleared = rw (written, writes_keeps w, w.place, zero-add)
