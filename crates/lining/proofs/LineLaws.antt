-- Laws of a line: its check byte, its digits, its length; and what lining accepts.
use Prim.Native.Nat.{ℕ, ◌+◌, ◌*◌, ◌/◌, ◌%◌, ◌≤◌, ◌<◌}
use mathlib.Core.Bool.{Bool, true, false, cond}
use mathlib.Core.List.{List, [], ◌∷◌, ◌++◌, append_assoc}
use mathlib.Core.Option.{Option, none, some}
use mathlib.Core.Path.{◌≡◌, refl, sym, ap}
use native.Mathlib.Omega.{arith}
use native.Mathlib.Numerals.{add-one}
use lib.Dec.{ltb}
use lib.ListN.{length, get_or, drop, get_elem?, drop_of_length-le, length-append}
use lib.Seq.{drop-cons}
use Rattle.error.specs.declared.Refusal.{Refusal}
use Rattle.error.specs.declared.Refusal.TheVariants.{OutputTooShort}
use Rattle.error.specs.declared.LineAnswer.{LineAnswer}
use Rattle.error.specs.declared.LineAnswer.TheVariants.{Accepted, Refused}
use Rattle.codec.specs.Codec.{big}
use Rattle.sheet.specs.Sheet.{Forest, decode}
use Rattle.sheet.specs.Records.{all_records}
use Rattle.sheet.specs.Opening.{Opened, opened, shut, opening}
use Rattle.law_opened.proofs.OpenedLaws.{holds_tree}
use Rattle.lining.specs.Line.{digit, hex, total, covered, check_byte, spelled, line}
use Rattle.lining.specs.Lining.{of_record, of_opened, lining}

-- ---- the check byte

pub total-at : (s : List ℕ) (i : ℕ) → i < length s → total (drop i s) ≡ get_or s i 0 + total (drop (i + 1) s)
unfolding total
total-at s i h = rw (add-one, drop-cons s i 0)

pub total_end : (s : List ℕ) (i : ℕ) → length s ≤ i → total (drop i s) ≡ 0
unfolding total
total_end s i h = rw (drop_of_length-le s h)

pub total-covered : (r : List ℕ) → total (covered r) ≡ length r / 256 % 256 + (length r % 256 + total r)
unfolding total
total-covered r = refl

-- what with the sum gives zero is the check byte
pub check_is : (r : List ℕ) (c : ℕ) → c < 256 → (c + total (covered r)) % 256 ≡ 0 → c ≡ check_byte r
unfolding check_byte
check_is r c h e = omega arith

-- ---- hexadecimal

pub hex-at : (s : List ℕ) (i : ℕ) → i < length s → hex (drop i s) ≡ hex (get_or s i 0 ∷ []) ++ hex (drop (i + 1) s)
unfolding hex
hex-at s i h = rw (add-one, drop-cons s i 0)

pub hex_end : (s : List ℕ) (i : ℕ) → length s ≤ i → hex (drop i s) ≡ []
unfolding hex
hex_end s i h = rw (drop_of_length-le s h)

pub hex-append : (a b : List ℕ) → hex (a ++ b) ≡ hex a ++ hex b
unfolding hex
hex-append [] b = refl
hex-append (x ∷ a) b = ap (λ (l : List ℕ). digit (x / 16) ∷ digit (x % 16) ∷ l) (hex-append a b)

pub length-hex : (s : List ℕ) → length (hex s) ≡ 2 * length s
unfolding hex
length-hex [] = refl
length-hex (b ∷ s) = let e = length-hex s in omega arith

-- "A record of n bytes needs 2n + 7 bytes of output"
pub length-line : (r : List ℕ) → length (line r) ≡ 2 * length r + 7
unfolding line
length-line r =
    let a : length (line r) ≡ length (hex (spelled r)) + 1 = length-append (hex (spelled r)) (10 ∷ []) in
    let b : length (spelled r) ≡ length (covered r) + 1 = length-append (covered r) (check_byte r ∷ []) in
    let d : length (covered r) ≡ 2 + length r = length-append ((big 2).write (length r)) r in
    omega (arith, length-hex (spelled r))

-- a line in the parts that are written one after the other
pub line_parts : (r : List ℕ)
    → line r ≡ hex (length r / 256 % 256 ∷ []) ++ (hex (length r % 256 ∷ []) ++ (hex r ++ (hex (check_byte r ∷ []) ++ 10 ∷ [])))
unfolding line hex
line_parts r = rw (hex-append r (check_byte r ∷ []), append_assoc (hex r) (hex (check_byte r ∷ [])) (10 ∷ []))

-- ---- what lining accepts

-- the record with the ordinal, and the output afterwards: its line, then what stood there
pub record Given (t s : List ℕ) (i : ℕ) (out : List ℕ) (n : ℕ) (after : List ℕ) : Type 0 where
  pub tree : Forest
  pub decodes : decode (length t) s ≡ some tree
  pub bytes : List ℕ
  pub found : get_elem? (all_records (length t) tree) i ≡ some bytes
  pub long : n ≡ length (line bytes)
  pub is : after ≡ line bytes ++ drop n out

module _ (t s : List ℕ) (i : ℕ) (out : List ℕ) {n : ℕ} {after : List ℕ} where
  no : {A : Type 0} {r : Refusal} {p : ℕ} → Prim.Path (LineAnswer × List ℕ) (Refused r p, out) (Accepted n, after) → A
  no q = let z : ◌≡◌ {A = ℕ} 0 1 = cc (ap (λ (a : LineAnswer × List ℕ). a.0) q) in absurd (omega arith)

  room : (l : List ℕ) (b : Bool)
      → cond {A = LineAnswer × List ℕ} b (Refused OutputTooShort i, out) (Accepted (length l), l ++ drop (length l) out)
      ≡ (Accepted n, after)
      → (n ≡ length l) × (after ≡ l ++ drop n out)
  room l true q = no q
  room l false q =
      let h : Accepted (length l) ≡ Accepted n = ap (λ (a : LineAnswer × List ℕ). a.0) q in
      let k : length l ≡ n = cc in
      (sym k, rw (← k) (sym (ap (λ (a : LineAnswer × List ℕ). a.1) q)))

  record_of : (tree : Forest) → decode (length t) s ≡ some tree → (o : Option (List ℕ)) → get_elem? (all_records (length t) tree) i ≡ o
      → of_record i out o ≡ (Accepted n, after) → Given t s i out n after
  record_of tree d none f q = no q
  record_of tree d (some r) f q =
      let w = room (line r) (ltb (length out) (length (line r))) q in
      record { tree = tree; decodes = d; bytes = r; found = f; long = w.0; is = w.1 }

  pub given : lining t s i out ≡ (Accepted n, after) → Given t s i out n after
  unfolding lining
  given e = opens (opening t s) refl e
    where
      opens : (o : Opened) → opening t s ≡ o → of_opened (length t) i out o ≡ (Accepted n, after) → Given t s i out n after
      opens (shut r p) o q = no q
      opens (opened ns) o q = record_of ns (holds_tree t s ns o) (get_elem? (all_records (length t) ns) i) refl q
