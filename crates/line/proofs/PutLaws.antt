-- Where a line is written, the test for its room, and lining from what the code finds.
use Rattle.std.proofs.Common.{◌≡◌, ℕ, ◌+◌, ◌-◌, ◌*◌, ◌/◌, ◌%◌, ◌<◌, ◌≤◌, Bool, true, false, leb, List, ◌++◌, length, get_or, drop, set, sym, refl, ◌∙◌, zero-add, arith, length-set, take_all, le-ltb, lt-ltb, le-leb, leb-false, leb-true}
use mathlib.Core.Option.{Option, none, some}
use native.Mathlib.Nat.{sub-zero}
use lib.Seq.{sets, sets-eq}
use borrow.Author.Tests.{lt-leb}
use Rattle.error.specs.declared.Refusal.{Refusal}
use Rattle.error.specs.declared.Refusal.TheVariants.{NotASheet, OutputTooShort}
use Rattle.error.specs.declared.LineAnswer.{LineAnswer}
use Rattle.error.specs.declared.LineAnswer.TheVariants.{Accepted, Refused}
use Rattle.text.specs.WriteMeans.{Puts}
use Rattle.text.proofs.WriteLaws.{puts_none, puts_one, puts_then}
use Rattle.sheet.specs.Sheet.{Forest, decode}
use Rattle.sheet.specs.Opening.{decoded, opening}
use Rattle.sheet_records.specs.Means.{record_in}
use Rattle.sheet_refusals.specs.declared.Opening.TheVariants.{Open, Shut}
use Rattle.sheet_refusals.specs.Means.{text_answer}
use Rattle.sheet_refusals.proofs.OpenLaws.{first_shut, text_open, the-refusal}
use Rattle.lining.specs.Line.{digit, hex, line}
use Rattle.lining.specs.Lining.{placed, of_record, of_opened, lining}
use Rattle.lining.proofs.LineLaws.{hex-at, hex_end, length-line}

-- ---- hexadecimal

-- where there is room for all of it: what is written from i on is written from the start
module _ (out₀ : List ℕ) (at : ℕ) (bs : List ℕ) where
  abbrev pub Writing : List ℕ → ℕ → Type 0
  Writing out i = (after : List ℕ) (e : ℕ) → Puts out (at + 2 * i) (hex (drop i bs)) after e → Puts out₀ at (hex bs) after e

  pub writing_start : Writing out₀ 0
  writing_start after e p = let z : at + 2 * 0 ≡ at = omega arith in rw z at p

  pub writing-next : (out : List ℕ) (i : ℕ) {h l : ℕ} → i < length bs → at + 2 * i + 1 < length out
      → h ≡ digit (get_or bs i 0 / 16) → l ≡ digit (get_or bs i 0 % 16) → Writing out i
      → Writing (set (set out (at + 2 * i) h) (at + 2 * i + 1) l) (i + 1)
  unfolding hex
  writing-next out i {h} {l} k m dh dl w after e p =
      let z : at + 2 * (i + 1) ≡ at + 2 * i + 1 + 1 = omega arith in
      let q : Puts (set (set out (at + 2 * i) h) (at + 2 * i + 1) l) (at + 2 * i + 1 + 1) (hex (drop (i + 1) bs)) after e = rw z at p in
      let r = puts_one (set out (at + 2 * i) h) (at + 2 * i + 1) l (rw length-set m) in
      let u = puts_then (puts_one out (at + 2 * i) h (omega arith)) (puts_then r q) in
      w after e (rw (hex-at bs i k, ← dh, ← dl) u)

  pub writing_done : (out : List ℕ) (i : ℕ) → length bs ≤ i → i ≤ length bs → Writing out i → Puts out₀ at (hex bs) out (at + 2 * length bs)
  writing_done out i h l w =
      let z : i ≡ length bs = omega arith in rw (← z) (w out (at + 2 * i) (rw (hex_end bs i h) (puts_none out (at + 2 * i))))

-- the test for room, in which no number wraps
pub room_for : (n room : ℕ) → 7 ≤ room → leb n ((room - 7) / 2) ≡ leb (2 * n + 7) room
room_for n room h = go (leb n ((room - 7) / 2)) refl
  where
    go : (t : Bool) → leb n ((room - 7) / 2) ≡ t → t ≡ leb (2 * n + 7) room
    go true e = sym (le-leb (2 * n + 7) room (omega (arith, leb-true n ((room - 7) / 2) e)))
    go false e = sym (lt-leb (2 * n + 7) room (omega (arith, leb-false n ((room - 7) / 2) e)))

-- ---- lining

-- what is written where there is room for all of it
pub puts_whole : {out bs after : List ℕ} {end : ℕ} → length bs ≤ length out → Puts out 0 bs after end
    → (end ≡ length bs) × (after ≡ bs ++ drop (length bs) out)
puts_whole {out} {bs} h p =
    let b : sets out 0 bs ≡ bs ++ drop (0 + length bs) out = sets-eq bs out 0 (rw zero-add h) in
    (p.place ∙ (rw (zero-add, sub-zero, take_all (length out) bs h)), p.bytes ∙ b ∙ (rw zero-add))

module _ (i : ℕ) (out r : List ℕ) where
  pub with_room : {after : List ℕ} {end : ℕ} → leb (2 * length r + 7) (length out) ≡ true
      → Puts out 0 (line r) after end → placed i out (line r) ≡ (Accepted end, after)
  with_room {after} {end} e p =
      let h : length (line r) ≤ length out = omega (arith, length-line r, leb-true (2 * length r + 7) (length out) e) in
      let w = puts_whole h p in
      rw (le-ltb _ _ h, w.0, w.1)

  pub without_room : leb (2 * length r + 7) (length out) ≡ false → placed i out (line r) ≡ (Refused OutputTooShort i, out)
  without_room e =
      let h : length out < length (line r) = omega (arith, length-line r, leb-false (2 * length r + 7) (length out) e) in rw (lt-ltb _ _ h)

-- 20, or what is done with a record or none
abbrev pub of_found : ℕ → List ℕ → Option (Option (List ℕ)) → LineAnswer × List ℕ
of_found i out none = (Refused NotASheet 0, out)
of_found i out (some r) = of_record i out r

of_tree : (n i : ℕ) (out : List ℕ) (o : Option Forest) → of_opened n i out (decoded o) ≡ of_found i out (record_in n i o)
of_tree n i out none = refl
of_tree n i out (some ns) = refl

module _ (t s : List ℕ) (i : ℕ) (out : List ℕ) where
  pub refused : {r : Refusal} {p : ℕ} → Shut r p ≡ text_answer t → lining t s i out ≡ (Refused r p, out)
  unfolding lining
  refused e = rw (the-refusal (opening t s) (first_shut t s e refl))

  -- 20, or what is found at the ordinal is lined
  pub found : {f : Option (Option (List ℕ))} → Open ≡ text_answer t → f ≡ record_in (length t) i (decode (length t) s)
      → lining t s i out ≡ of_found i out f
  unfolding lining
  found e l = rw (text_open t s e, l) (of_tree (length t) i out (decode (length t) s))
