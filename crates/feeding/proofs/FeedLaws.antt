-- Laws of feeding: what records add to the totals, and the operation by cases of the answers.
use Prim.Native.Nat.{ℕ, suc, ◌+◌, ◌-◌, ◌≤◌, ◌<◌}
use mathlib.Core.Bool.{Bool, true, false, ◌||◌, cond}
use mathlib.Core.List.{List, [], ◌∷◌, ◌++◌, map}
use mathlib.Core.Logic.{◌⊎◌, inl, inr}
use mathlib.Core.Path.{◌≡◌, refl, sym, ap, ◌∙◌}
use native.Mathlib.Omega.{arith}
use native.Mathlib.Nat.{eq-zero-or-pos}
use lib.Dec.{eqb, leb}
use lib.ListN.{length, get_or, take, length-append, get_or-eq_default}
use Rattle.error.specs.Refusal.{number_of}
use Rattle.error.specs.declared.Refusal.{Refusal}
use Rattle.error.specs.declared.Refusal.TheVariants.{TooManyScripts}
use Rattle.error.specs.declared.ReadAnswer.{ReadAnswer}
use Rattle.error.specs.declared.ReadAnswer.TheVariants as read
use Rattle.error.specs.declared.CheckAnswer.{CheckAnswer}
use Rattle.error.specs.declared.CheckAnswer.TheVariants as check
use Rattle.codec.specs.Codec.{big, opt, each_out}
use Rattle.ast.specs.Tree as tree
use Rattle.ast.specs.Tree.{KeyframeTime, KeyframeEntry, single, holding}
use Rattle.sheet.specs.Sheet.{Node, span_form, value_form, easing_form, loop_form, time_form, entry_form, decode}
use Rattle.sheet.specs.Records.{record_of, kind_of, entries_of}
use Rattle.sheet.proofs.Flat.{concat}
use Rattle.reading.specs.Reading.{reading}
use Rattle.checking.specs.Checking.{checking}
use Rattle.totals.specs.Totals.{first_kind_word, entries_word, figure_limit, sum_of, over, scripts, added, in_word}
use Rattle.error.proofs.NumberLaws.{numbered}
use Rattle.totals.proofs.TotalsLaws.{length-added, word-added, added-same, added_twice, within}
use Rattle.script.proofs.OutputLaws.{held}
use Rattle.feeding.specs.Feed.{fed, read_of, when_read, judgement, number_in, nodes_in}
use Rattle.feeding.specs.Feed.{sheet_nodes, if_accepted, nodes, full, feeding}
use Rattle.feeding.specs.Means.{Words, IsSheet, nodes_add, judged_add}
use Rattle.error.specs.declared.FeedAnswer.{FeedAnswer}
use Rattle.error.specs.declared.FeedAnswer.TheVariants.{Counted, Refused}

-- ---- what a record adds is no more than its bytes

pub kind_small : (x : Node) → kind_of x < 15
kind_small (single p (tree.tween x)) = omega arith
kind_small (single p (tree.spring x)) = omega arith
kind_small (single p (tree.keyframes x)) = omega arith
kind_small (single p (tree.path x)) = omega arith
kind_small (single p (tree.morph x)) = omega arith
kind_small (single p (tree.draw x)) = omega arith
kind_small (single p (tree.color x)) = omega arith
kind_small (single p (tree.waveform x)) = omega arith
kind_small (single p (tree.preset x)) = omega arith
kind_small (single p (tree.label x)) = omega arith
kind_small (single p (tree.at x)) = omega arith
kind_small (holding p tree.sequence ns) = omega arith
kind_small (holding p tree.parallel ns) = omega arith
kind_small (holding p (tree.group m) ns) = omega arith
kind_small (holding p (tree.stagger q d) ns) = omega arith

-- a frame has at least a byte
frames-long : (n : ℕ) (xs : List (KeyframeEntry KeyframeTime)) → length xs ≤ length (each_out (entry_form n).write xs)
frames-long n [] = omega arith
frames-long n (x ∷ xs) =
    let h : 1 ≤ length ((entry_form n).write x) = a_byte x.time (value_form.write x.value ++ (opt (easing_form n)).write x.easing) in
    omega (arith, frames-long n xs, length-append ((entry_form n).write x) (each_out (entry_form n).write xs))
  where
    a_byte : (t : KeyframeTime) (r : List ℕ) → 1 ≤ length (time_form.write t ++ r)
    a_byte (tree.percent w) r = omega arith
    a_byte (tree.seconds w) r = omega arith

-- its kind and a byte for each entry
track-long : (n p : ℕ) (x : tree.KeyframeSpec KeyframeTime) → suc (length x.frames) ≤ length (record_of n (single p (tree.keyframes x)))
track-long n p x =
    let fs = each_out (entry_form n).write x.frames in
    let c = (big 2).write (length x.frames) in
    let l = (opt loop_form).write x.loop_mode in
    let t = (span_form n).write x.target in
    omega (
      arith,
      frames-long n x.frames,
      length-append ((big 2).write p) (t ++ ((c ++ fs) ++ l)),
      length-append t ((c ++ fs) ++ l),
      length-append (c ++ fs) l,
      length-append c fs,
    )

pub record_long : (n : ℕ) (x : Node) → suc (entries_of x) ≤ length (record_of n x)
record_long n (single p (tree.tween x)) = omega arith
record_long n (single p (tree.spring x)) = omega arith
record_long n (single p (tree.keyframes x)) = track-long n p x
record_long n (single p (tree.path x)) = omega arith
record_long n (single p (tree.morph x)) = omega arith
record_long n (single p (tree.draw x)) = omega arith
record_long n (single p (tree.color x)) = omega arith
record_long n (single p (tree.waveform x)) = omega arith
record_long n (single p (tree.preset x)) = omega arith
record_long n (single p (tree.label x)) = omega arith
record_long n (single p (tree.at x)) = omega arith
record_long n (holding p b ns) = omega arith

pub in_word-most : (i m j : ℕ) → in_word i m j ≤ m
in_word-most i m j = go (eqb j i)
  where
    go : (b : Bool) → cond b m 0 ≤ m
    go true = omega arith
    go false = omega arith

pub nodes_add_long : (n : ℕ) (xs : List Node) (j : ℕ) → nodes_add xs j ≤ length (concat (map (record_of n) xs))
unfolding sum_of
nodes_add_long n [] j = omega arith
nodes_add_long n (x ∷ xs) j =
    omega (
      arith,
      nodes_add_long n xs j,
      record_long n x,
      in_word-most (first_kind_word + kind_of x) 1 j,
      in_word-most entries_word (entries_of x) j,
      length-append (record_of n x) (concat (map (record_of n) xs)),
    )

-- ---- the operation

pub full-over : (ws : List ℕ) → over ws ≡ true → true ≡ full ws
full-over ws e = rw e refl

pub full-count : (ws : List ℕ) → over ws ≡ false → {n : ℕ} → n ≡ scripts ws → leb 4096 n ≡ full ws
full-count ws e q = rw (e, q) refl

within-limit : (ws : List ℕ) → full ws ≡ false → over ws ≡ false
within-limit ws e = go (over ws) e
  where
    go : (b : Bool) → (b || leb 4096 (scripts ws)) ≡ false → b ≡ false
    go true q = absurd (let z : ◌≡◌ {A = ℕ} 0 1 = cc in omega arith)
    go false q = refl

pub words_of : (ws : List ℕ) → length ws ≡ 60 → full ws ≡ false → Words ws
words_of ws l e = record { long = l; most = λ i. omega (arith, within ws (within-limit ws e) i) }

-- a word for the number of a refusal
pub refused_room : {ws : List ℕ} → Words ws → (r : Refusal) {n : ℕ} → n ≡ number_of r → (n < length ws) × (get_or ws n 0 + 1 < 4294967296)
refused_room w r {n} e = (omega (arith, (numbered r).most, w.long), omega (arith, w.most n))

pub accepted_room : {ws : List ℕ} → Words ws → (0 < length ws) × (get_or ws 0 0 + 1 < 4294967296)
accepted_room w = (omega (arith, w.long), omega (arith, w.most 0))

-- the words once the accepted script is counted
pub accepted_words : (ws : List ℕ) → length ws ≡ 60 → full ws ≡ false → {vs : List ℕ} → vs ≡ added (in_word 0 1) ws → Words vs
accepted_words ws l e q = rw q (record {
  long = length-added 0 (in_word 0 1) ws ∙ l;
  most = λ i. most i (eq-zero-or-pos (60 - i));
})
  where
    most : (i : ℕ) → (60 - i ≡ 0) ⊎ (0 < 60 - i) → get_or (added (in_word 0 1) ws) i 0 ≤ suc figure_limit
    most i (inl h) =
        rw (get_or-eq_default (added (in_word 0 1) ws) 0 {n = i} (omega (arith, length-added 0 (in_word 0 1) ws))) (omega arith)
    most i (inr h) =
        omega (
          arith,
          word-added (in_word 0 1) ws i (omega (arith, h, l)),
          in_word-most 0 1 i,
          within ws (within-limit ws e) i,
        )

-- a refused script adds one to the word of its number, and no more
refused_adds : (ws : List ℕ) (r : Refusal) (p : ℕ) {after : List ℕ} → after ≡ judged_add (check.Refused r p) ws
    → after ≡ added (λ i. in_word (number_of r) 1 i + nodes_add [] i) ws
unfolding sum_of
refused_adds ws r p q = q ∙ added-same 0 (in_word (number_of r) 1) (λ i. in_word (number_of r) 1 i + 0) (λ i. omega arith) ws

module _ (t scratch sheet : List ℕ) {n c j : ℕ} {words left : List ℕ}
    (q : (read.Accepted n c j, words, left) ≡ reading t scratch sheet) where
  -- the sheet that reading gave is one
  pub is_sheet : {s : List ℕ} → s ≡ take n left → IsSheet (length t) s
  is_sheet e = rw e (let h = held t scratch sheet q in record { tree = h.nodes; decodes = h.decodes })

module _ (list : ℕ) (t scratch sheet : List ℕ) {n c j : ℕ} {words left : List ℕ}
    (q : (read.Accepted n c j, words, left) ≡ reading t scratch sheet) where
  judged_as : {v : CheckAnswer} → v ≡ checking list t (take n left) → judgement (fed list t scratch sheet) ≡ v
  judged_as f = ap (when_read list t) (sym q) ∙ sym f

  nodes_as : {v : CheckAnswer} → v ≡ checking list t (take n left)
      → nodes (fed list t scratch sheet) ≡ if_accepted v (nodes_in (decode (length t) (take n left)))
  nodes_as f =
      ap (λ (x : ReadAnswer × List ℕ × List ℕ). if_accepted (when_read list t x) (sheet_nodes t x)) (sym q)
      ∙ ap (λ (v : CheckAnswer). if_accepted v (nodes_in (decode (length t) (take n left)))) (sym f)

module _ (ws : List ℕ) (list : ℕ) (t scratch sheet : List ℕ) where
  pub feed_full : full ws ≡ true → (Refused TooManyScripts 0, ws, scratch, sheet) ≡ feeding ws (fed list t scratch sheet)
  unfolding feeding
  feed_full e = rw (feeding, e) refl

  module _ (e : full ws ≡ false) {words left after : List ℕ} where
    -- a script that is judged a, and whose nodes are xs
    counted : {r : FeedAnswer} (a : CheckAnswer) (xs : List Node) {b : ReadAnswer} → (b, words, left) ≡ reading t scratch sheet
        → judgement (fed list t scratch sheet) ≡ a → nodes (fed list t scratch sheet) ≡ xs → r ≡ Counted a
        → after ≡ added (λ i. in_word (number_in a) 1 i + nodes_add xs i) ws
        → (r, after, words, left) ≡ feeding ws (fed list t scratch sheet)
    unfolding feeding
    counted a xs u j x w q =
        (λ i. (w i, q i, (u i).1, (u i).2))
        ∙ (λ i. (
          Counted (sym j i),
          added (λ k. in_word (number_in (sym j i)) 1 k + nodes_add (sym x i) k) ws,
          (read_of (fed list t scratch sheet)).1,
          (read_of (fed list t scratch sheet)).2,
        ))
        ∙ sym (rw (feeding, e) refl)

    pub feed_unread : {r : Refusal} {p : ℕ} {a : FeedAnswer} → (read.Refused r p, words, left) ≡ reading t scratch sheet
        → after ≡ judged_add (check.Refused r p) ws → a ≡ Counted (check.Refused r p)
        → (a, after, words, left) ≡ feeding ws (fed list t scratch sheet)
    feed_unread {r} {p} q s a =
        counted (check.Refused r p) [] q (ap (when_read list t) (sym q))
        (ap (λ (x : ReadAnswer × List ℕ × List ℕ). if_accepted (when_read list t x) (sheet_nodes t x)) (sym q)) a (refused_adds ws r p s)

    pub feed_refused : {n c j : ℕ} (q : (read.Accepted n c j, words, left) ≡ reading t scratch sheet) {r : Refusal} {p : ℕ} {a : FeedAnswer}
        → check.Refused r p ≡ checking list t (take n left) → after ≡ judged_add (check.Refused r p) ws → a ≡ Counted (check.Refused r p)
        → (a, after, words, left) ≡ feeding ws (fed list t scratch sheet)
    feed_refused q {r} {p} f s a =
        counted (check.Refused r p) [] q (judged_as list t scratch sheet q f) (nodes_as list t scratch sheet q f) a (refused_adds ws r p s)

    pub feed_accepted : {n c j : ℕ} (q : (read.Accepted n c j, words, left) ≡ reading t scratch sheet) {vs : List ℕ}
        → check.Accepted ≡ checking list t (take n left) → vs ≡ added (in_word 0 1) ws
        → after ≡ added (nodes_add (nodes_in (decode (length t) (take n left)))) vs
        → (Counted check.Accepted, after, words, left) ≡ feeding ws (fed list t scratch sheet)
    feed_accepted {n} q f g h =
        let xs = nodes_in (decode (length t) (take n left)) in
        counted check.Accepted xs q (judged_as list t scratch sheet q f) (nodes_as list t scratch sheet q f) refl
        (h ∙ ap (added (nodes_add xs)) g ∙ added_twice 0 (nodes_add xs) (in_word 0 1) ws)
