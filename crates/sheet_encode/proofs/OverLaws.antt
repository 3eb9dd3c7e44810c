-- Laws of bytes that are written over a list.
use Prim.Native.Nat.{ℕ, suc, ◌+◌, ◌≤◌}
use mathlib.Core.List.{List, [], ◌∷◌, ◌++◌}
use mathlib.Core.Path.{◌≡◌, refl, sym, ap, ◌∙◌, subst}
use native.Mathlib.Omega.{arith}
use lib.ListN.{length, set, length-append}
use lib.Seq.{sets, set-set, set_comm, length-sets}
use Rattle.text.proofs.WriteLaws.{sets_append}
use Rattle.codec.specs.Codec.{big}
use Rattle.sheet_encode.specs.WriteMeans.{Writes}

-- ---- one overlay and another

-- a byte behind an overlay may be written before it
pub set_sets : (l : List ℕ) (i : ℕ) (xs : List ℕ) (j x : ℕ) → i + length xs ≤ j → set (sets l i xs) j x ≡ sets (set l j x) i xs
set_sets l i [] j x h = refl
set_sets l i (a ∷ xs) j x h =
    set_sets (set l i a) (suc i) xs j x (omega arith) ∙ ap (λ (m : List ℕ). sets m (suc i) xs) (set_comm l i j a x (λ e. omega arith))

-- and so may several
pub sets_comm : (l : List ℕ) (i : ℕ) (xs : List ℕ) (j : ℕ) (bs : List ℕ)
    → i + length xs ≤ j
    → sets (sets l i xs) j bs ≡ sets (sets l j bs) i xs
sets_comm l i xs j [] h = refl
sets_comm l i xs j (b ∷ bs) h =
    ap (λ (m : List ℕ). sets m (suc j) bs) (set_sets l i xs j b h) ∙ sets_comm (set l j b) i xs (suc j) bs (omega arith)

-- the later of two overlays of one length and place is left
pub sets_again : (l : List ℕ) (i : ℕ) (xs ys : List ℕ) → length xs ≡ length ys → sets (sets l i xs) i ys ≡ sets l i ys
sets_again l i [] [] h = refl
sets_again l i [] (y ∷ ys) h = absurd (omega arith)
sets_again l i (x ∷ xs) [] h = absurd (omega arith)
sets_again l i (x ∷ xs) (y ∷ ys) h =
    ap (λ (m : List ℕ). sets m (suc i) ys) (later ∙ (rw set-set)) ∙ sets_again (set l i y) (suc i) xs ys (omega arith)
  where
    later : set (sets (set l i x) (suc i) xs) i y ≡ sets (set (set l i x) i y) (suc i) xs
    later = sym (sets_comm (set l i x) i (y ∷ []) (suc i) xs (omega arith))

-- three parts, one behind the other
pub sets_three : (l : List ℕ) (i : ℕ) (xs ys zs : List ℕ)
    → sets l i (xs ++ (ys ++ zs)) ≡ sets (sets (sets l i xs) (i + length xs) ys) (i + length xs + length ys) zs
sets_three l i xs ys zs = sets_append l i xs (ys ++ zs) ∙ sets_append (sets l i xs) (i + length xs) ys zs

-- a patch inside an overlay: the part ys becomes ys' of the same length
pub sets_patch : (l : List ℕ) (i : ℕ) (xs ys zs ys' : List ℕ) → length ys ≡ length ys'
    → sets (sets l i (xs ++ (ys ++ zs))) (i + length xs) ys' ≡ sets l i (xs ++ (ys' ++ zs))
sets_patch l i xs ys zs ys' h =
    let j = i + length xs in
    let m = sets l i xs in
    ap (λ (s : List ℕ). sets s j ys') (sets_three l i xs ys zs)
    ∙ sym (sets_comm (sets m j ys) j ys' (j + length ys) zs (omega arith))
    ∙ (rw h (ap (λ (s : List ℕ). sets s (j + length ys') zs) (sets_again m j ys ys' h)))
    ∙ sym (sets_three l i xs ys' zs)

-- a gap of k bytes inside an overlay, filled in after what stands behind it
pub sets_fill : (l : List ℕ) (i : ℕ) (xs ys zs : List ℕ)
    → sets (sets (sets l i xs) (i + length xs + length ys) zs) (i + length xs) ys ≡ sets l i (xs ++ (ys ++ zs))
sets_fill l i xs ys zs =
    sym (sets_comm (sets l i xs) (i + length xs) ys (i + length xs + length ys) zs (omega arith)) ∙ sym (sets_three l i xs ys zs)

-- ---- Writes

pub writes_none : (out : List ℕ) (at : ℕ) → Writes out at [] out at
writes_none out at = record { bytes = refl; place = omega arith }

pub writes_as : {out after : List ℕ} {at end : ℕ} {bs cs : List ℕ} → bs ≡ cs → Writes out at bs after end → Writes out at cs after end
writes_as {out} {after} {at} {end} e w = subst (λ (z : List ℕ). Writes out at z after end) e w

-- bytes, and others behind them
pub writes_then : {out mid after : List ℕ} {at m end : ℕ} {bs cs : List ℕ}
    → Writes out at bs mid m → Writes mid m cs after end
    → Writes out at (bs ++ cs) after end
writes_then {out} {mid} {after} {at} {m} {end} {bs} {cs} p q = record {
  bytes = q.bytes ∙ (rw (p.bytes, p.place) (sym (sets_append out at bs cs)));
  place = rw length-append (omega (arith, p.place, q.place));
}

pub writes_keeps : {out after bs : List ℕ} {at end : ℕ} → Writes out at bs after end → length after ≡ length out
writes_keeps {out} {after} {bs} {at} p = ap length p.bytes ∙ length-sets out at bs

-- a part of what was written is written again
pub writes_patch : {out mid after ys' : List ℕ} {at j end e : ℕ} (xs ys zs : List ℕ)
    → Writes out at (xs ++ (ys ++ zs)) mid end → j ≡ at + length xs
    → Writes mid j ys' after e → length ys ≡ length ys' → Writes out at (xs ++ (ys' ++ zs)) after end
writes_patch {out} {ys' = ys'} {at} xs ys zs p g q h = record {
  bytes = q.bytes ∙ (rw (p.bytes, g) (sets_patch out at xs ys zs ys' h));
  place = rw (length-append, length-append, ← h, ← length-append ys zs, ← length-append xs (ys ++ zs)) p.place;
}

-- a part that was passed over is written last
pub writes_fill : {out mid late after xs ys zs : List ℕ} {at j m end e : ℕ}
    → Writes out at xs mid j → m ≡ j + length ys → Writes mid m zs late end
    → Writes late j ys after e → Writes out at (xs ++ (ys ++ zs)) after end
writes_fill {out} {xs = xs} {ys = ys} {zs = zs} {at} p g q f = record {
  bytes = f.bytes ∙ (rw (q.bytes, g, p.bytes, p.place) (sets_fill out at xs ys zs));
  place = rw (length-append, length-append) (omega (arith, p.place, q.place));
}

-- what stands behind a count of two bytes, then the count
pub writes_counted : {out late after bs : List ℕ} {at m end e : ℕ} (n : ℕ)
    → m ≡ at + 2 → Writes out m bs late end → Writes late at ((big 2).write n) after e
    → Writes out at ((big 2).write n ++ bs) after end
writes_counted {out} {at = at} n g q f = writes_fill (writes_none out at) g q f
