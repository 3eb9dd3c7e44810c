-- The walk over a sheet's records: what those that are left still add to the totals.
use Prim.Native.Nat.{ℕ, ◌+◌, ◌≤◌, ◌<◌}
use mathlib.Core.Bool.{Bool, true, false, cond}
use mathlib.Core.List.{List, ◌∷◌}
use mathlib.Core.Option.{Option, none, some}
use mathlib.Core.Path.{◌≡◌, refl, sym, ap, ◌∙◌, subst}
use native.Mathlib.Omega.{arith}
use lib.Dec.{ltb}
use lib.ListN.{length, get_or, length-drop}
use borrow.Author.Tests.{ltb-false, eq-eqb}
use Rattle.codec.specs.Codec.{big}
use Rattle.sheet.specs.Sheet.{Node, Forest, sheet, whole, decode}
use Rattle.sheet.specs.Records.{nodes_of, kind_of, entries_of}
use Rattle.sheet_decode.specs.Means.{Reads, same}
use Rattle.sheet_records.specs.Means.{record_form, record_view}
use Rattle.sheet_records.specs.declared.Kind.{Kind}
use Rattle.sheet_records.proofs.PlaceLaws.{Behind, behind_head, behind-next, behind-last}
use Rattle.totals.specs.Totals.{sum_of, added, in_word}
use Rattle.totals.proofs.TotalsLaws.{length-added, word-added, added-same, added_twice, added_none}
use Rattle.feeding.specs.Feed.{nodes_in}
use Rattle.feeding.specs.Means.{Words, IsSheet, nodes_add}
use Rattle.feeding.proofs.FeedLaws.{kind_small, nodes_add_long}

-- behind the records that stand from `end` on, all are counted
pub record Counting (n : ℕ) (s : List ℕ) (all : List Node) (before ws : List ℕ) (end : ℕ) : Type 0 where
  pub rest : List Node
  pub behind : Behind n s rest end
  pub sums : added (nodes_add rest) ws ≡ added (nodes_add all) before
  pub words : Words before
  pub small : (j : ℕ) → nodes_add all j ≤ 65535

sheet_short : (n : ℕ) (s : List ℕ) (ns : Forest) → decode n s ≡ some ns → length s ≤ 65535
unfolding decode
sheet_short n s ns e = go (ltb 65535 (length s)) refl e
  where
    go : (b : Bool) → ltb 65535 (length s) ≡ b → cond {A = Option Forest} b none (whole ((sheet n).read s)) ≡ some ns → length s ≤ 65535
    go true q e = absurd (let z : ◌≡◌ {A = ℕ} 0 1 = cc in omega arith)
    go false q e = ltb-false 65535 (length s) q

pub counting_start : {n : ℕ} {s before : List ℕ} {c end : ℕ} → Words before → (t : IsSheet n s) → Reads (big 2) same s 0 c end
    → Counting n s (nodes_in (decode n s)) before before end
counting_start {n} {s} {before} {c} {end} w t r =
    subst (λ (o : Option Forest). Counting n s (nodes_in o) before before end) (sym t.decodes)
    (let b = behind_head t.tree t.decodes r in
    record {
      rest = nodes_of t.tree;
      behind = b;
      sums = refl;
      words = w;
      small = λ j. omega (
        arith,
        nodes_add_long n (nodes_of t.tree) j,
        ap length b.here,
        length-drop end s,
        sheet_short n s t.tree t.decodes,
      );
    })

module _ {n : ℕ} {s : List ℕ} {all : List Node} {before ws : List ℕ} {end : ℕ} (x : Counting n s all before ws end) where
  pub counting_long : length ws ≡ 60
  counting_long =
      let e = ap length x.sums in omega (
        arith,
        length-added 0 (nodes_add x.rest) ws,
        length-added 0 (nodes_add all) before,
        x.words.long,
      )

  -- a word, and what is still to be added to it
  room : (j : ℕ) → j < 60 → get_or ws j 0 + nodes_add x.rest j ≤ 268496896
  room j h =
      omega (
        arith,
        ap (λ (l : List ℕ). get_or l j 0) x.sums,
        word-added (nodes_add x.rest) ws j (omega (arith, counting_long)),
        word-added (nodes_add all) before j (omega (arith, x.words.long)),
        x.words.most j,
        x.small j,
      )

  -- no record is left
  pub counting_done : length s ≤ end → ws ≡ added (nodes_add all) before
  unfolding sum_of
  counting_done h =
      let e = behind-last x.rest x.behind h in
      sym (added_none 0 ws) ∙ ap (λ (r : List Node). added (nodes_add r) ws) (sym e) ∙ x.sums

-- a record is taken: its kind and its entries are added
pub record Step (n : ℕ) (s : List ℕ) (all : List Node) (before ws : List ℕ) (kind entries next : ℕ) : Type 0 where
  pub kinds : kind < 15
  pub long : length ws ≡ 60
  pub kind_room : get_or ws (44 + kind) 0 + 1 < 4294967296
  pub entries-long : 59 < length (added (in_word (44 + kind) 1) ws)
  pub entries_room : get_or (added (in_word (44 + kind) 1) ws) 59 0 + entries < 4294967296
  pub after : Counting n s all before (added (in_word 59 entries) (added (in_word (44 + kind) 1) ws)) next

pub counting_next : {n : ℕ} {s : List ℕ} {all : List Node} {before ws : List ℕ} {end kind entries next : ℕ} {w : Kind}
    → Counting n s all before ws end → end < length s → Reads (record_form n) record_view s end (w, kind, entries) next
    → Step n s all before ws kind entries next
unfolding sum_of
counting_next {n} {s} {all} {before} {ws} {end} {kind} {entries} {next} x h r =
    let y = behind-next x.rest x.behind h r in
    step y.0 y.1 y.2 y.3 y.4 y.5
  where
    step : (z : Node) (ys : List Node) → x.rest ≡ z ∷ ys → kind_of z ≡ kind → entries_of z ≡ entries → Behind n s ys next
        → Step n s all before ws kind entries next
    step z ys e k l b =
        let long = counting_long x in
        let adds : (j : ℕ) → nodes_add x.rest j ≡ (in_word (44 + kind) 1 j + in_word 59 entries j) + nodes_add ys j =
        λ j. ap (λ (r : List Node). nodes_add r j) e ∙ rw (k, l) refl in
        let few = kind_small z in
        let own : in_word (44 + kind) 1 (44 + kind) ≡ 1 = rw (eq-eqb (44 + kind) (44 + kind) refl) refl in
        let last : in_word 59 entries 59 ≡ entries = refl in
        record {
          kinds = omega (arith, k);
          long = long;
          kind_room = omega (arith, room x (44 + kind) (omega (arith, k)), adds (44 + kind), own);
          entries-long = omega (arith, long, length-added 0 (in_word (44 + kind) 1) ws);
          entries_room = omega (arith, room x 59 (omega arith), adds 59, last, word-added (in_word (44 + kind) 1) ws 59 (omega arith));
          after = record {
            rest = ys;
            behind = b;
            sums = added_twice 0 (nodes_add ys) (in_word 59 entries) (added (in_word (44 + kind) 1) ws)
                ∙ added_twice 0 (λ j. in_word 59 entries j + nodes_add ys j) (in_word (44 + kind) 1) ws
                ∙ added-same 0 _ (nodes_add x.rest)
                (λ j. let q = adds j in omega arith) ws
                ∙ x.sums;
            words = x.words;
            small = x.small;
          };
        }
