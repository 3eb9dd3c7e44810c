-- Demand 3, entire, from three laws of the grammar. The laws are parameters.
use Prim.Native.Nat.{ℕ, ◌-◌, ◌≤◌}
use mathlib.Core.Bool.{true}
use mathlib.Core.List.{List, ◌++◌}
use mathlib.Core.Option.{none, some}
use mathlib.Core.Path.{◌≡◌, refl, sym, ap, ◌∙◌}
use native.Mathlib.Omega.{arith}
use borrow.Author.Tests.{le-ltb}
use lib.ListN.{length, take, replicate}
use lib.Seq.{take_at}
use Rattle.text.specs.Limits.{text_limit}
use Rattle.number.specs.Time.{Key}
use Rattle.ast.specs.Tree.{Nodes, KeyframeTime, map_times, records}
use Rattle.sheet.specs.Sheet.{encode, decode}
use Rattle.sheet.specs.Opening.{foreign_from}
use Rattle.sheet.proofs.Laws.{Fits, decodes}
use Rattle.grammar.specs.Grammar.{stored}
use Rattle.reading.specs.Reading.{tree, parse, reading}
use Rattle.checking.specs.Checking.{judged, is_list, opening_under, checking}
use Rattle.error.specs.declared.ReadAnswer.{ReadAnswer}
use Rattle.error.specs.declared.ReadAnswer.TheVariants as read
use Rattle.error.specs.declared.CheckAnswer.{CheckAnswer}
use Rattle.script.specs.Claim.{Unrefused, Agreed, Claim, Demand3}
use Rattle.script.proofs.Reading.{sheet_of, accepts, due}
use Rattle.script.proofs.Tracks.{tracks}

-- checking a tree's own sheet under either list
checks : (list : ℕ) → is_list list ≡ true → (t : List ℕ) (ns : Nodes KeyframeTime) → length t ≤ text_limit
    → foreign_from 0 t ≡ none
    → decode (length t) (encode (length t) ns) ≡ some ns
    → checking list t (encode (length t) ns) ≡ judged list t ns
unfolding checking opening_under
checks list known t ns h f d = rw (le-ltb text_limit (length t) h, f, known, d)

-- whoever has made both calls, under either list: `left` is what reading answered and left behind, v what checking answered to the sheet up
-- to the length that reading gave; where reading refuses, v is anything
abbrev pub Claimed : Type 0
Claimed =
    (list : ℕ) → is_list list ≡ true
    → (t scratch sheet : List ℕ) (left : ReadAnswer × List ℕ × List ℕ) (v : CheckAnswer)
    → left ≡ reading t scratch sheet
    → ((n c k : ℕ) → left.0 ≡ read.Accepted n c k → v ≡ checking list t (take n left.2))
    → Claim list t (length scratch) (length sheet) left.0 left.2 v

module _
    (clean : (t : List ℕ) (ns : Nodes Key) (k : ℕ) → parse t ≡ tree ns k → foreign_from 0 t ≡ none)
    (fits : (t : List ℕ) (ns : Nodes Key) (k : ℕ) → length t ≤ text_limit → parse t ≡ tree ns k → Fits (length t) (map_times stored ns))
    (small : (t : List ℕ) (ns : Nodes Key) (k : ℕ) → length t ≤ text_limit → parse t ≡ tree ns k
    → length (encode (length t) (map_times stored ns)) ≤ 49152) where
  back : (t : List ℕ) (ns : Nodes Key) (k : ℕ) → length t ≤ text_limit
      → parse t ≡ tree ns k
      → decode (length t) (sheet_of t ns) ≡ some (map_times stored ns)
  back t ns k h p = decodes (length t) (map_times stored ns) (fits t ns k h p) (let s = small t ns k h p in omega arith)

  pub claim : Claimed
  claim list known t scratch sheet left v e g = record {
    only = λ n c k a. due t scratch sheet n c k (ap (λ (r : ReadAnswer × List ℕ × List ℕ). r.0) (sym e) ∙ a);
    whenever = λ ns k h. agreed ns k h (e ∙ accepts t scratch sheet ns k h);
  }
    where
      agreed : (ns : Nodes Key) (k : ℕ) → Unrefused t (length scratch) (length sheet) ns k
          → left
          ≡ (
            read.Accepted (length (sheet_of t ns)) (records ns) k,
            replicate (length scratch) 0,
            sheet_of t ns ++ replicate (length sheet - length (sheet_of t ns)) 0,
          )
          → Agreed list t left.0 left.2 v ns k
      agreed ns k h q =
          let bs : List ℕ = sheet_of t ns in
          let a : left.0 ≡ read.Accepted (length bs) (records ns) k = ap (λ (r : ReadAnswer × List ℕ × List ℕ). r.0) q in
          let s : take (length bs) left.2 ≡ bs = rw q (take_at bs (replicate (length sheet - length bs) 0) (length bs) refl) in
          let d = back t ns k h.short h.parses in
          let w : v ≡ judged list t (map_times stored ns) = g _ _ _ a
          ∙ (rw s (checks list known t (map_times stored ns) h.short (clean t ns k h.parses) d))
          in
          record {
            held = map_times stored ns;
            answer = a;
            encodes = s;
            decodes = rw s d;
            same = refl;
            checked = w;
            tracks = λ i x m. rw w (tracks list t ns i x m);
          }

  pub demand3 : Demand3
  demand3 list known t scratch sheet v g = claim list known t scratch sheet (reading t scratch sheet) v refl g
