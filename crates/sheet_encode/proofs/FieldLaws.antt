-- Laws of the fields' widths: a number in k bytes, written and read, over any k.
use Prim.Native.Nat.{ℕ, zero, suc, ◌+◌, ◌-◌, ◌*◌, ◌/◌, ◌%◌, ◌^◌, ◌≤◌, ◌<◌}
use mathlib.Core.List.{List, [], ◌∷◌, ◌++◌, append-nil, append_assoc}
use mathlib.Core.Option.{some}
use mathlib.Core.Path.{◌≡◌, refl, sym, ap, ◌∙◌}
use native.Mathlib.Omega.{arith}
use native.Mathlib.Nat.{pow-suc, mul_assoc, add-zero, add-suc, mod-eq_of_lt}
use lib.ListN.{length, set, length-set}
use lib.Seq.{sets}
use Rattle.text.proofs.WriteLaws.{sets_append}
use Rattle.codec.specs.Codec.{big}
use Rattle.codec.proofs.Laws.{big_lawful}
use Rattle.sheet.specs.Sheet.{word}
use Rattle.sheet_encode.specs.WriteMeans.{Writes}
use Rattle.sheet_encode.proofs.OverLaws.{set_sets}
use Rattle.sheet.proofs.FormLaws.{length-big, small}

-- ---- a number in k bytes

-- its last byte is written first
pub big-last : (l : List ℕ) (at k v : ℕ) → 0 < k
    → sets l at ((big k).write v) ≡ sets (set l (at + (k - 1)) (v % 256)) at ((big (k - 1)).write (v / 256))
big-last l at zero v h = absurd (omega arith)
big-last l at (suc k) v h =
    let e = length-big k (v / 256) in
    let s : suc k - 1 ≡ k = omega arith in
    sets_append l at ((big k).write (v / 256)) (v % 256 ∷ [])
    ∙ (rw (e, s) (set_sets l at ((big k).write (v / 256)) (at + k) (v % 256) (omega arith)))

-- a field of `width` bytes for v on its way: with its first k bytes written for w, the sheet is that of the whole field
pub record Filling (out : List ℕ) (at width v : ℕ) (after : List ℕ) (k w : ℕ) : Type 0 where
  pub most : k ≤ width
  pub kept : length after ≡ length out
  pub rest : sets after at ((big k).write w) ≡ sets out at ((big width).write v)

pub filling_none : (out : List ℕ) (at width v : ℕ) → Filling out at width v out width v
filling_none out at width v = record { most = omega arith; kept = refl; rest = refl }

pub filling_more : {out after : List ℕ} {at width v k w : ℕ} → Filling out at width v after k w → 0 < k
    → Filling out at width v (set after (at + (k - 1)) (w % 256)) (k - 1) (w / 256)
filling_more {after = after} {at} {k = k} {w} f h = record {
  most = omega (arith, f.most);
  kept = (rw length-set) ∙ f.kept;
  rest = sym (big-last after at k w h) ∙ f.rest;
}

pub filling_all : {out after : List ℕ} {at width v k w : ℕ} → Filling out at width v after k w → k ≡ 0
    → Writes out at ((big width).write v) after (at + width)
filling_all {width = width} {v} f e = record { bytes = rw e at f.rest; place = rw length-big }

-- two numbers in one field: a in j bytes and b in k, b below 256 ^ k
big-joined : (j k a b : ℕ) → b < 256 ^ k → (big (j + k)).write (a * 256 ^ k + b) ≡ (big j).write a ++ (big k).write b
big-joined j zero a b h =
    let z : a * 1 + b ≡ a = omega arith in
    rw (z, add-zero, append-nil)
big-joined j (suc k) a b h =
    let p = 256 ^ k in
    let n = a * p * 256 + b in
    let d : n / 256 ≡ a * p + b / 256 = over (a * p) in
    let m : n % 256 ≡ b % 256 = left (a * p) in
    let e : a * 256 ^ suc k + b ≡ n = ap (λ (z : ℕ). z + b) (ap (λ (z : ℕ). a * z) (pow-suc 256 k) ∙ sym (mul_assoc a p 256)) in
    rw (e, add-suc, d, m, big-joined j k a (b / 256) (low p (rw pow-suc at h)), append_assoc)
  where
    over : (y : ℕ) → (y * 256 + b) / 256 ≡ y + b / 256
    over y = omega arith

    left : (y : ℕ) → (y * 256 + b) % 256 ≡ b % 256
    left y = omega arith

    low : (q : ℕ) → b < q * 256 → b / 256 < q
    low q g = omega arith

-- what does not fit in two bytes is left off
two_bytes : (n : ℕ) → (big 2).write (n % 65536) ≡ (big 2).write n
two_bytes n =
    let d : n % 65536 / 256 % 256 ≡ n / 256 % 256 = omega arith in
    let m : n % 65536 % 256 ≡ n % 256 = omega arith in
    rw (d, m)

one_byte : (n : ℕ) → n < 256 → (big 1).write n ≡ n ∷ []
one_byte n h = rw (mod-eq_of_lt h)

-- a record's kind and the start of its keyword; a case and a number; a start and a size
pub front_bytes : (kind start : ℕ) → kind < 256 → (big 3).write (kind * 65536 + start % 65536) ≡ kind ∷ (big 2).write start
front_bytes kind start h =
    big-joined 1 2 kind (start % 65536) (omega arith)
    ∙ ap (λ (z : List ℕ). z ++ (big 2).write (start % 65536)) (one_byte kind h)
    ∙ ap (λ (z : List ℕ). kind ∷ z) (two_bytes start)

pub case-bytes : (case n : ℕ) → case < 256 → n < 4294967296 → (big 5).write (case * 4294967296 + n) ≡ case ∷ word.write n
case-bytes case n h g = big-joined 1 4 case n g ∙ ap (λ (z : List ℕ). z ++ word.write n) (one_byte case h)

pub span_bytes : (start size : ℕ)
    → (big 4).write (start % 65536 * 65536 + size % 65536) ≡ (big 2).write start ++ (big 2).write size
span_bytes start size =
    big-joined 2 2 (start % 65536) (size % 65536) (omega arith)
    ∙ ap (λ (z : List ℕ). z ++ (big 2).write (size % 65536)) (two_bytes start)
    ∙ ap (λ (z : List ℕ). (big 2).write start ++ z) (two_bytes size)

-- it is read back
pub big_back : (k n : ℕ) → n < 256 ^ k → (r : List ℕ) → (big k).read ((big k).write n ++ r) ≡ some (n, r)
big_back k n h r = (big_lawful k).back n (small k n h) r
