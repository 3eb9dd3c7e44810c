-- What is printed by the records of a sheet, and how long it is at most.
use Prim.Native.Nat.{ℕ, zero, suc, ◌+◌, ◌*◌, ◌-◌, ◌/◌, ◌%◌, ◌≤◌}
use mathlib.Core.Bool.{Bool, true, false, cond}
use mathlib.Core.List.{List, [], ◌∷◌, ◌++◌}
use mathlib.Core.Option.{some}
use mathlib.Core.Path.{◌≡◌, refl, sym, ap, ◌∙◌}
use native.Mathlib.Omega.{arith}
use lib.Dec.{ltb}
use lib.ListN.{length, take, drop, get_elem?, replicate, length-append, length-drop}
use lib.Seq.{take-append_seam, take_at}
use borrow.Author.Tests.{ltb-false}
use Rattle.text.specs.Limits.{text_limit}
use Rattle.text.specs.Bytes.{bytes}
use Rattle.error.specs.Refusal.{number_of}
use Rattle.error.specs.declared.Refusal.{Refusal}
use Rattle.error.specs.declared.Refusal.TheVariants.{OutputTooShort}
use Rattle.error.specs.declared.ReadAnswer.{ReadAnswer}
use Rattle.error.specs.declared.ReadAnswer.TheVariants as read
use Rattle.error.specs.declared.CheckAnswer.{CheckAnswer}
use Rattle.error.specs.declared.CheckAnswer.TheVariants as check
use Rattle.error.specs.declared.LineAnswer.{LineAnswer}
use Rattle.error.specs.declared.LineAnswer.TheVariants as lined
use Rattle.ast.specs.Tree.{Nodes, leaf, box, records, map_times}
use Rattle.sheet.specs.Sheet.{Forest, decode}
use Rattle.sheet.specs.Records.{records_of, all_records}
use Rattle.sheet.specs.Opening.{opened, opening}
use Rattle.sheet.proofs.Laws.{decodes}
use Rattle.sheet.proofs.Flat.{concat, sheet_flat}
use Rattle.grammar.specs.Grammar.{stored}
use Rattle.reading.specs.Reading.{reading}
use Rattle.law_limits.proofs.Limits.{parses_fits, parses_small, parses_few, parses_opens}
use Rattle.checking.specs.Checking.{checking}
use Rattle.lining.specs.Line.{line}
use Rattle.lining.specs.Lining.{placed, lining}
use Rattle.lining.proofs.LineLaws.{length-line}
use Rattle.script.specs.Output.{decimal_out, refusal, accept, line_then, lines, when_checked, when_read, printed, sheet_bytes, page_bytes}
use Rattle.script.specs.Means.{lines_of}
use Rattle.script.proofs.Reading.{sheet_of, accepts, due}

-- ---- short words

decimal_short : (k n : ℕ) → length (decimal_out k n) ≤ k
unfolding decimal_out
decimal_short zero n = omega arith
decimal_short (suc k) n = go (ltb n 10) (decimal_short k (n / 10))
  where
    go : (b : Bool) → length (decimal_out k (n / 10)) ≤ k
        → length {A = ℕ} (elim b [ true ↦ (48 + n) ∷ [] | false ↦ decimal_out k (n / 10) ++ (48 + n % 10) ∷ [] ]) ≤ suc k
    go true h = omega arith
    go false h = omega (arith, length-append (decimal_out k (n / 10)) ((48 + n % 10) ∷ []))

accept_short : (n : ℕ) → length (accept n) ≤ 32
unfolding accept
accept_short n =
    omega (
      arith,
      decimal_short 10 n,
      length-append (bytes "accept ") (decimal_out 10 n),
      length-append (bytes "accept " ++ decimal_out 10 n) (10 ∷ []),
    )

refusal_short : (r : Refusal) (p : ℕ) → length (refusal r p) ≤ 32
unfolding refusal
refusal_short r p =
    let a = bytes "refuse " in
    let b = decimal_out 10 (number_of r) in
    let c = bytes " at " in
    let d = decimal_out 10 p in
    omega (
      arith,
      decimal_short 10 (number_of r),
      decimal_short 10 p,
      length-append a b,
      length-append (a ++ b) c,
      length-append (a ++ b ++ c) d,
      length-append (a ++ b ++ c ++ d) (10 ∷ []),
    )

-- ---- the lines, by the records

-- the records from the ordinal i on: the one there, and those behind it
dropped : (rs : List (List ℕ)) (i : ℕ) (r : List ℕ) (qs : List (List ℕ)) → drop i rs ≡ r ∷ qs
    → (get_elem? rs i ≡ some r) × (drop (suc i) rs ≡ qs)
dropped [] zero r qs e = let z : 0 ≡ suc (length qs) = ap length e in absurd (omega arith)
dropped [] (suc i) r qs e = let z : 0 ≡ suc (length qs) = ap length e in absurd (omega arith)
dropped (q ∷ rs) zero r qs e = (ap (λ (l : List (List ℕ)). get_elem? l 0) e, ap (drop 1) e)
dropped (q ∷ rs) (suc i) r qs e = dropped rs i r qs e

module _ (t sheet : List ℕ) (ns : Forest) (o : opening t sheet ≡ opened ns) (n : ℕ) where
  lined_at : (i : ℕ) (out : List ℕ) {r : List ℕ} → get_elem? (all_records (length t) ns) i ≡ some r
      → lining t sheet i out ≡ placed i out (line r)
  unfolding lining
  lined_at i out e = rw (o, e)

  -- what lining writes depends on the output's length, and not on what stands in it
  lines_are : (k i : ℕ) (out : List ℕ) (qs : List (List ℕ)) → drop i (all_records (length t) ns) ≡ qs → length qs ≡ k
      → lines t sheet n k i out ≡ lines_of (length out) n i qs
  unfolding lines lines_of
  lines_are zero i out [] d e = refl
  lines_are zero i out (r ∷ qs) d e = absurd (omega arith)
  lines_are (suc k) i out [] d e = absurd (omega arith)
  lines_are (suc k) i out (r ∷ qs) d e =
      let x = dropped (all_records (length t) ns) i r qs d in
      ap (λ (x : LineAnswer × List ℕ). line_then x (λ after. lines t sheet n k (suc i) after)) (lined_at i out x.0)
      ∙ go (ltb (length out) (length (line r))) refl (λ after. lines_are k (suc i) after qs x.1 (omega arith))
    where
      go : (b : Bool) → ltb (length out) (length (line r)) ≡ b
          → ((after : List ℕ) → lines t sheet n k (suc i) after ≡ lines_of (length after) n (suc i) qs)
          → line_then (cond {A = LineAnswer × List ℕ} b (lined.Refused OutputTooShort i, out)
          (lined.Accepted (length (line r)), line r ++ drop (length (line r)) out)) (λ after. lines t sheet n k (suc i) after)
          ≡ elim b [ true ↦ refusal OutputTooShort i | false ↦ line r ++ lines_of (length out) n (suc i) qs ]
      go true q h = refl
      go false q h =
          let l = line r in
          let m : length (l ++ drop (length l) out) ≡ length out =
          length-append l (drop (length l) out) ∙ (rw length-drop (omega (arith, ltb-false (length out) (length l) q))) in
          rw (take-append_seam l (drop (length l) out), h (l ++ drop (length l) out), m)

-- a line for each record, of 2n + 7 bytes
lines_short : (room n i : ℕ) (rs : List (List ℕ)) → length (lines_of room n i rs) ≤ 2 * length (concat rs) + 7 * length rs + 32
unfolding lines_of
lines_short room n i [] = accept_short n
lines_short room n i (r ∷ rs) = go (ltb room (length (line r))) (lines_short room n (suc i) rs)
  where
    go : (b : Bool) → length (lines_of room n (suc i) rs) ≤ 2 * length (concat rs) + 7 * length rs + 32
        → length {A = ℕ} (elim b [ true ↦ refusal OutputTooShort i | false ↦ line r ++ lines_of room n (suc i) rs ])
        ≤ 2 * length (r ++ concat rs) + 7 * suc (length rs) + 32
    go true h = omega (arith, refusal_short OutputTooShort i)
    go false h =
        omega (arith, length-line r, length-append (line r) (lines_of room n (suc i) rs), length-append r (concat rs))

-- ---- the sheet that reading gives

pub records-same : {A B : Type 0} (f : A → B) (ns : Nodes A) → records (map_times f ns) ≡ records ns
records-same f Nodes.none = refl
records-same f (leaf p l rest) = ap suc (records-same f rest)
records-same f (box p k ns rest) = (λ i. suc (records-same f ns i + records-same f rest i))

count-records : (n : ℕ) (ns : Forest) → length (records_of n ns) ≡ records ns
count-records n Nodes.none = refl
count-records n (leaf p l rest) = ap suc (count-records n rest)
count-records n (box p k ns rest) =
    ap suc (length-append (records_of n ns) (records_of n rest) ∙ (λ i. count-records n ns i + count-records n rest i))

-- the sheet s of c node records that reading gave for the text t
pub record Held (t s : List ℕ) (c : ℕ) : Type 0 where
  pub nodes : Forest
  pub opens : opening t s ≡ opened nodes
  pub decodes : decode (length t) s ≡ some nodes
  pub count : length (all_records (length t) nodes) ≡ suc c
  pub few : 3 * c ≤ text_limit
  pub small : length (concat (all_records (length t) nodes)) ≤ sheet_bytes

pub held : (t scratch sheet : List ℕ) {n c k : ℕ} {words left : List ℕ} → (read.Accepted n c k, words, left) ≡ reading t scratch sheet
    → Held t (take n left) c
unfolding all_records
held t scratch sheet {n} {c} {k = j} {words} {left} e =
    let d = due t scratch sheet n c j (ap (λ (r : ReadAnswer × List ℕ × List ℕ). r.0) (sym e)) in
    let ns = d.0 in
    let u = d.1 in
    let bs = sheet_of t ns in
    let q = e ∙ accepts t scratch sheet ns j u in
    let a : read.Accepted n c j ≡ read.Accepted (length bs) (records ns) j = ap (λ (r : ReadAnswer × List ℕ × List ℕ). r.0) q in
    let l : left ≡ bs ++ replicate (length sheet - length bs) 0 = ap (λ (r : ReadAnswer × List ℕ × List ℕ). r.2) q in
    let m : n ≡ length bs = cc in
    let k : c ≡ records ns = cc in
    let s : take n left ≡ bs = ap (take n) l ∙ take_at bs (replicate (length sheet - length bs) 0) n (sym m) in
    let fits = parses_fits t ns u.short u.parses in
    let small = parses_small t ns u.short u.parses in
    record {
      nodes = map_times stored ns;
      opens = rw s (parses_opens t ns u.short u.parses);
      decodes = rw s (decodes (length t) (map_times stored ns) fits (omega arith));
      count = ap suc (count-records (length t) (map_times stored ns) ∙ records-same stored ns ∙ sym k);
      few = omega (arith, parses_few t ns u.short u.parses, u.short, k);
      small = omega (arith, ap length (sheet_flat (length t) (map_times stored ns) fits));
    }

-- ---- what is printed

module _ (t out : List ℕ) {s : List ℕ} {c : ℕ} (h : Held t s c) where
  -- the lines of an accepted script
  pub lines-held : lines t s c (suc c) 0 out ≡ lines_of (length out) c 0 (all_records (length t) h.nodes)
  lines-held = lines_are t s h.nodes h.opens c (suc c) 0 out (all_records (length t) h.nodes) refl h.count

  checked_small : (v : CheckAnswer) → length (when_checked t s c out v) ≤ page_bytes
  checked_small check.Accepted =
      rw lines-held
      (omega (arith, lines_short (length out) c 0 (all_records (length t) h.nodes), h.count, h.few, h.small))
  checked_small (check.Refused r p) = omega (arith, refusal_short r p)

-- nine bytes for each byte that a text may have are enough
pub printed_small : (list : ℕ) (t scratch sheet out : List ℕ) → length (printed list t scratch sheet out) ≤ page_bytes
printed_small list t scratch sheet out = by (reading t scratch sheet) refl
  where
    by : (x : ReadAnswer × List ℕ × List ℕ) → x ≡ reading t scratch sheet → length (when_read list t out x) ≤ page_bytes
    by (read.Accepted n c k, words, left) e =
        checked_small t out (held t scratch sheet e) (checking list t (take n left))
    by (read.Refused r p, words, left) e = omega (arith, refusal_short r p)
