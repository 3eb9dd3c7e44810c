-- Laws of bytes that are written as far as there is room.
use Prim.Native.Nat.{ℕ, suc, ◌+◌, ◌-◌, ◌≤◌, ◌<◌, min}
use mathlib.Core.List.{List, [], ◌∷◌, ◌++◌}
use mathlib.Core.Bool.{Bool, true, false}
use mathlib.Core.Path.{◌≡◌, refl, sym, ap, ◌∙◌}
use native.Mathlib.Omega.{arith}
use native.Mathlib.Nat.{add-zero, zero-add, sub-zero}
use lib.Dec.{leb}
use lib.ListN.{length, set, take, drop, length-append, length-set, length-take}
use lib.Seq.{sets, set_out, length-sets, sets-eq, take-append_seam, take-nil, take_all}
use borrow.Author.Tests.{leb-true, leb-false}
use Rattle.text.specs.WriteMeans.{Puts}

-- from the end on nothing is written
pub sets_out : (l : List ℕ) (i : ℕ) (bs : List ℕ) → length l ≤ i → sets l i bs ≡ l
sets_out l i [] h = refl
sets_out l i (b ∷ bs) h = rw (set_out l i b h) (sets_out l (suc i) bs (omega arith))

pub sets_append : (l : List ℕ) (i : ℕ) (xs bs : List ℕ) → sets l i (xs ++ bs) ≡ sets (sets l i xs) (i + length xs) bs
sets_append l i [] bs = rw (add-zero i)
sets_append l i (a ∷ xs) bs = sets_append (set l i a) (suc i) xs bs ∙ ap (λ (n : ℕ). sets (sets (set l i a) (suc i) xs) n bs) (omega arith)

-- only the bytes that there is room for are written
sets_clip : (l : List ℕ) (i : ℕ) (bs : List ℕ) → sets l i (take (length l - i) bs) ≡ sets l i bs
sets_clip l i [] = rw take-nil
sets_clip l i (b ∷ bs) = go (leb (length l) i) refl (sets_clip (set l i b) (suc i) bs)
  where
    go : (t : Bool) → leb (length l) i ≡ t → sets (set l i b) (suc i) (take (length (set l i b) - suc i) bs) ≡ sets (set l i b) (suc i) bs
        → sets l i (take (length l - i) (b ∷ bs)) ≡ sets l i (b ∷ bs)
    go true e q =
        let h = leb-true (length l) i e in
        sets_out l i (take (length l - i) (b ∷ bs)) h ∙ sym (sets_out l i (b ∷ bs) h)
    go false e q =
        let h = leb-false (length l) i e in
        let n : length l - i ≡ suc (length (set l i b) - suc i) = rw length-set (omega arith) in
        rw n q

-- ---- Puts

module _ (out : List ℕ) (n : ℕ) where
  -- past the end nothing is written
  pub puts_full : (bs : List ℕ) → length out ≤ n → Puts out n bs out n
  puts_full bs h = record { bytes = sym (sets_out out n bs h); place = rw length-take (omega arith) }

  pub puts_none : Puts out n [] out n
  puts_none = record { bytes = refl; place = rw length-take (omega arith) }

  pub puts_one : (b : ℕ) → n < length out → Puts out n (b ∷ []) (set out n b) (n + 1)
  puts_one b h = record { bytes = refl; place = rw length-take (omega arith) }

-- at the front, as many bytes as there are and there is room for
pub puts_upto : (out bs : List ℕ) (n : ℕ) → n ≡ min (length bs) (length out) → Puts out 0 bs (sets out 0 (take n bs)) n
puts_upto out bs n h = record { bytes = go (leb (length out) (length bs)) refl; place = rw length-take (omega arith) }
  where
    go : (t : Bool) → leb (length out) (length bs) ≡ t → sets out 0 (take n bs) ≡ sets out 0 bs
    go true e = let k : n ≡ length out - 0 = omega (arith, leb-true (length out) (length bs) e) in rw k (sets_clip out 0 bs)
    go false e = rw (take_all n bs (omega (arith, leb-false (length out) (length bs) e)))

-- one more byte behind those at the front
pub sets_more : (l xs : List ℕ) (b : ℕ) → sets l 0 (xs ++ b ∷ []) ≡ set (sets l 0 xs) (length xs) b
sets_more l xs b = sets_append l 0 xs (b ∷ []) ∙ ap (λ (n : ℕ). set (sets l 0 xs) n b) (zero-add (length xs))

-- bytes, and others behind them
pub puts_then : {out mid after : List ℕ} {n m end : ℕ} {bs cs : List ℕ}
    → Puts out n bs mid m → Puts mid m cs after end → Puts out n (bs ++ cs) after end
puts_then {out} {mid} {after} {n} {m} {end} {bs} {cs} p q =
    let l : length mid ≡ length out = ap length p.bytes ∙ length-sets out n bs in
    let k : m ≡ n + min (length out - n) (length bs) = rw length-take at p.place in
    let j : end ≡ m + min (length mid - m) (length cs) = rw length-take at q.place in
    record {
      bytes = q.bytes ∙ (rw p.bytes (go l k (leb (length bs) (length out - n)) refl)) ∙ sym (sets_append out n bs cs);
      place = rw (length-take, length-append) (omega arith);
    }
  where
    go : length mid ≡ length out → m ≡ n + min (length out - n) (length bs)
        → (t : Bool) → leb (length bs) (length out - n) ≡ t
        → sets (sets out n bs) m cs ≡ sets (sets out n bs) (n + length bs) cs
    go l k true e = let z : m ≡ n + length bs = omega (arith, leb-true (length bs) (length out - n) e) in rw z
    go l k false e =
        let h = leb-false (length bs) (length out - n) e in
        let s = length-sets out n bs in
        sets_out (sets out n bs) m cs (omega arith) ∙ sym (sets_out (sets out n bs) (n + length bs) cs (omega arith))

-- what is written at the front is there
pub puts_front : {out after : List ℕ} {bs : List ℕ} {end : ℕ} → Puts out 0 bs after end → take end after ≡ take (length out) bs
puts_front {out} {after} {bs} {end} p =
    let vs = take (length out) bs in
    let e : end ≡ length vs = p.place ∙ zero-add _ ∙ (rw sub-zero) in
    let s : sets out 0 vs ≡ vs ++ drop (0 + length vs) out = sets-eq vs out 0 (rw (zero-add, length-take) (omega arith)) in
    rw (e, p.bytes, sym (sets_clip out 0 bs), sub-zero, s) (take-append_seam vs _)

-- and no more than there is room for
pub puts_fits : {out after : List ℕ} {bs : List ℕ} {end : ℕ} → Puts out 0 bs after end → end ≤ length after
puts_fits {out} {after} {bs} {end} p =
    let e : end ≡ 0 + min (length out - 0) (length bs) = rw length-take at p.place in
    omega (arith, ap length p.bytes ∙ length-sets out 0 bs)
