-- What one script adds to each word.
use Prim.Native.Nat.{ℕ, zero, suc, ◌+◌, ◌≤◌, ◌<◌}
use mathlib.Core.Bool.{Bool, true, false}
use mathlib.Core.List.{List, [], ◌∷◌}
use mathlib.Core.Logic.{◌⊎◌, inl, inr}
use mathlib.Core.Path.{◌≡◌, refl, sym, ap, ◌∙◌}
use native.Mathlib.Nat.{le_of_suc-le-suc}
use native.Mathlib.Omega.{arith}
use lib.Dec.{eqb}
use lib.ListN.{length, take, drop, length-append, length-drop, length-map}
use borrow.Author.Tests.{eq-eqb, ne_eqb, eqb-true, eqb-false}
use Rattle.error.specs.declared.Refusal.TheVariants.{UnknownList}
use Rattle.error.specs.declared.ReadAnswer.{ReadAnswer}
use Rattle.error.specs.declared.ReadAnswer.TheVariants as read
use Rattle.error.specs.declared.CheckAnswer.{CheckAnswer}
use Rattle.error.specs.declared.CheckAnswer.TheVariants as check
use Rattle.codec.specs.Codec.{big}
use Rattle.ast.specs.Tree.{width}
use Rattle.sheet.specs.Sheet.{Node, decode}
use Rattle.sheet.specs.Records.{record_of, records_of, nodes_of, all_records, kind_of, entries_of}
use Rattle.sheet.proofs.Flat.{concat, records_are}
use Rattle.reading.specs.Reading.{reading}
use Rattle.checking.specs.Checking.{is_list, checking}
use Rattle.checking.proofs.ListLaws.{unlisted_opened as checking-unlisted}
use Rattle.script.proofs.OutputLaws.{held}
use Rattle.totals.specs.Totals.{sum_of, itself, added_from, added, in_word}
use Rattle.error.proofs.NumberLaws.{numbered}
use Rattle.feeding.specs.Feed.{Fed, read_of, when_read, judgement, number_in, nodes_in, sheet_nodes, nodes, node_figure, figure}
use Rattle.feeding.specs.Feed as feed
use Rattle.feeding.specs.Means.{nodes_add}
use Rattle.feeding.proofs.FeedLaws.{kind_small, in_word-most, nodes_add_long}
use Rattle.law_feeds.specs.Morning.{under, of_kind, kind_count, entry_count, records_read, if_accepted, accept_count}

-- ---- one word

pub in_word_lem : (i m j : ℕ) → j ≡ i → in_word i m j ≡ m
in_word_lem i m j e = rw (eq-eqb j i e) refl

pub in_another : (i m j : ℕ) → (j ≡ i → ⊥) → in_word i m j ≡ 0
in_another i m j n = rw (ne_eqb j i n) refl

-- the same for each
pub sum_same : {A : Type 0} (f g : A → ℕ) → ((x : A) → f x ≡ g x) → (xs : List A) → sum_of f xs ≡ sum_of g xs
unfolding sum_of
sum_same f g h [] = refl
sum_same f g h (x ∷ xs) = (λ i. h x i + sum_same f g h xs i)

sum_none : {A : Type 0} (f : A → ℕ) → ((x : A) → f x ≡ 0) → (xs : List A) → sum_of f xs ≡ 0
unfolding sum_of
sum_none f h [] = refl
sum_none f h (x ∷ xs) = omega (arith, h x, sum_none f h xs)

sum_ones : {A : Type 0} (f : A → ℕ) → ((x : A) → f x ≡ 1) → (xs : List A) → sum_of f xs ≡ length xs
unfolding sum_of
sum_ones f h [] = refl
sum_ones f h (x ∷ xs) = omega (arith, h x, sum_ones f h xs)

-- a node adds nothing below word 44, its kind to words 44 to 58, its entries to word 59
node_below : (i : ℕ) → i < 44 → (x : Node) → node_figure i x ≡ 0
node_below i h x =
    omega (arith, in_another (44 + kind_of x) 1 i (λ e. omega arith), in_another 59 (entries_of x) i (λ e. omega arith))

node_kind : (k : ℕ) → k < 15 → (x : Node) → node_figure (44 + k) x ≡ of_kind k x
node_kind k h x = omega (arith, shift (eqb k (kind_of x)) refl, in_another 59 (entries_of x) (44 + k) (λ e. omega arith))
  where
    shift : (b : Bool) → eqb k (kind_of x) ≡ b → in_word (44 + kind_of x) 1 (44 + k) ≡ of_kind k x
    shift true q = in_word_lem (44 + kind_of x) 1 (44 + k) (let e = eqb-true k (kind_of x) q in omega arith) ∙ sym (rw q refl)
    shift false q =
        in_another (44 + kind_of x) 1 (44 + k) (λ e. eqb-false k (kind_of x) q (omega arith)) ∙ sym (rw q refl)

node_entries : (x : Node) → node_figure 59 x ≡ entries_of x
node_entries x =
    omega
    (arith, kind_small x, in_another (44 + kind_of x) 1 59 (λ e. let h = kind_small x in omega arith), in_word_lem 59 (entries_of x) 59 refl)

-- the number of a script is below 44
number_small : (a : CheckAnswer) → number_in a < 44
number_small check.Accepted = omega arith
number_small (check.Refused r p) = omega (arith, (numbered r).most)

pub figure-number : (r : ℕ) → r < 44 → (x : Fed) → figure r x ≡ under r x
figure-number r h x = omega (arith, sum_none (node_figure r) (node_below r h) (nodes x))

figure-past : (i : ℕ) → 44 ≤ i → (x : Fed) → figure i x ≡ nodes_add (nodes x) i
figure-past i h x =
    omega (arith, in_another (number_in (judgement x)) 1 i (λ e. let l = number_small (judgement x) in omega arith))

pub figure-kind : (k : ℕ) → k < 15 → (x : Fed) → figure (44 + k) x ≡ kind_count k x
figure-kind k h x = figure-past (44 + k) (omega arith) x ∙ sum_same (node_figure (44 + k)) (of_kind k) (node_kind k h) (nodes x)

pub figure-entries : (x : Fed) → figure 59 x ≡ entry_count x
figure-entries x = figure-past 59 (omega arith) x ∙ sum_same (node_figure 59) entries_of node_entries (nodes x)

-- ---- several words

-- what f gives for so many words from i on
unfoldable pub range : (ℕ → ℕ) → ℕ → ℕ → ℕ
range f i zero = 0
range f i (suc n) = f i + range f (suc i) n

range_same : (f g : ℕ → ℕ) → ((j : ℕ) → f j ≡ g j) → (i n : ℕ) → range f i n ≡ range g i n
unfolding range
range_same f g h i zero = refl
range_same f g h i (suc n) = (λ k. h i k + range_same f g h (suc i) n k)

range_sum : (f g : ℕ → ℕ) (i n : ℕ) → range (λ j. f j + g j) i n ≡ range f i n + range g i n
unfolding range
range_sum f g i zero = refl
range_sum f g i (suc n) = omega (arith, range_sum f g (suc i) n)

range_none : (k m i n : ℕ) → (k < i) ⊎ (i + n ≤ k) → range (in_word k m) i n ≡ 0
unfolding range
range_none k m i zero h = refl
range_none k m i (suc n) (inl h) =
    omega (arith, in_another k m i (λ e. omega arith), range_none k m (suc i) n (inl (omega arith)))
range_none k m i (suc n) (inr h) =
    omega (arith, in_another k m i (λ e. omega arith), range_none k m (suc i) n (inr (omega arith)))

range_one : (k m i n : ℕ) → i ≤ k → k < i + n → range (in_word k m) i n ≡ m
unfolding range
range_one k m i zero h l = absurd (omega arith)
range_one k m i (suc n) h l = go (eqb i k) refl (λ h. range_one k m (suc i) n h (omega arith))
  where
    go : (b : Bool) → eqb i k ≡ b → (suc i ≤ k → range (in_word k m) (suc i) n ≡ m) → in_word k m i + range (in_word k m) (suc i) n ≡ m
    go true q r =
        let e = eqb-true i k q in omega (arith, in_word_lem k m i e, range_none k m (suc i) n (inl (omega arith)))
    go false q r = let e = eqb-false i k q in omega (arith, in_another k m i e, r (omega arith))

range_zero : (i n : ℕ) → range (λ j. 0) i n ≡ 0
unfolding range
range_zero i zero = refl
range_zero i (suc n) = omega (arith, range_zero (suc i) n)

range_nodes : (i n : ℕ) (xs : List Node) → range (nodes_add xs) i n ≡ sum_of (λ x. range (λ j. node_figure j x) i n) xs
unfolding sum_of
range_nodes i n [] = range_zero i n
range_nodes i n (x ∷ xs) =
    range_sum (λ j. node_figure j x) (nodes_add xs) i n ∙ ap (λ (k : ℕ). range (λ j. node_figure j x) i n + k) (range_nodes i n xs)

-- a node adds 1 to the words of the kinds, and nothing to those of the numbers
node_in_kinds : (x : Node) → range (λ j. node_figure j x) 44 15 ≡ 1
node_in_kinds x =
    omega (
      arith,
      range_sum (in_word (44 + kind_of x) 1) (in_word 59 (entries_of x)) 44 15,
      range_one (44 + kind_of x) 1 44 15 (omega arith) (omega (arith, kind_small x)),
      range_none 59 (entries_of x) 44 15 (inr (omega arith)),
    )

node_in_numbers : (x : Node) → range (λ j. node_figure j x) 0 44 ≡ 0
node_in_numbers x =
    omega (
      arith,
      range_sum (in_word (44 + kind_of x) 1) (in_word 59 (entries_of x)) 0 44,
      range_none (44 + kind_of x) 1 0 44 (inr (omega arith)),
      range_none 59 (entries_of x) 0 44 (inr (omega arith)),
    )

-- a script adds 1 to the words of the numbers, and its count of nodes to those of the kinds
pub figure_in_numbers : (x : Fed) → range (λ j. figure j x) 0 44 ≡ 1
figure_in_numbers x =
    let n = number_in (judgement x) in
    omega (
      arith,
      range_sum (in_word n 1) (nodes_add (nodes x)) 0 44,
      range_one n 1 0 44 (omega arith) (omega (arith, number_small (judgement x))),
      range_nodes 0 44 (nodes x),
      sum_none (λ y. range (λ j. node_figure j y) 0 44) node_in_numbers (nodes x),
    )

pub figure_in_kinds : (x : Fed) → range (λ j. figure j x) 44 15 ≡ length (nodes x)
figure_in_kinds x =
    let n = number_in (judgement x) in
    omega (
      arith,
      range_sum (in_word n 1) (nodes_add (nodes x)) 44 15,
      range_none n 1 44 15 (inl (number_small (judgement x))),
      range_nodes 44 15 (nodes x),
      sum_ones (λ y. range (λ j. node_figure j y) 44 15) node_in_kinds (nodes x),
    )

-- the sum of some words, with what f adds to them
front_added : (k n : ℕ) (f : ℕ → ℕ) (ws : List ℕ) → n ≤ length ws
    → sum_of itself (take n (added_from k f ws)) ≡ sum_of itself (take n ws) + range f k n
unfolding sum_of range added_from
front_added k zero f ws h = refl
front_added k (suc n) f [] h = absurd (omega arith)
front_added k (suc n) f (w ∷ ws) h = omega (arith, front_added (suc k) n f ws (le_of_suc-le-suc h))

drop-added : (k i : ℕ) (f : ℕ → ℕ) (ws : List ℕ) → drop i (added_from k f ws) ≡ added_from (k + i) f (drop i ws)
unfolding added_from
drop-added k zero f ws = let e : k + 0 ≡ k = omega arith in ap (λ (j : ℕ). added_from j f ws) (sym e)
drop-added k (suc i) f [] = refl
drop-added k (suc i) f (w ∷ ws) =
    let e : suc k + i ≡ k + suc i = omega arith in drop-added (suc k) i f ws ∙ ap (λ (j : ℕ). added_from j f (drop i ws)) e

pub sum_added : (i n : ℕ) (f : ℕ → ℕ) (ws : List ℕ) → i + n ≤ length ws
    → sum_of itself (take n (drop i (added f ws))) ≡ sum_of itself (take n (drop i ws)) + range f i n
sum_added i n f ws h =
    ap (λ (l : List ℕ). sum_of itself (take n l))
    (drop-added 0 i f ws ∙ (let e : 0 + i ≡ i = omega arith in ap (λ (j : ℕ). added_from j f (drop i ws)) e))
    ∙ front_added i n f (drop i ws) (omega (arith, length-drop i ws))

-- ---- the nodes of a script

module _ (t scratch sheet : List ℕ) {n c j : ℕ} {words left : List ℕ}
    (q : (read.Accepted n c j, words, left) ≡ reading t scratch sheet) where
  nodes-counted : length (nodes_in (decode (length t) (take n left))) ≡ c
  unfolding all_records
  nodes-counted =
      let h = held t scratch sheet q in
      let xs = nodes_of h.nodes in
      rw h.decodes
      (omega (arith, h.count, ap length (records_are (length t) h.nodes), length-map xs (record_of (length t))))

  nodes_short : (i : ℕ) → nodes_add (nodes_in (decode (length t) (take n left))) i ≤ 49152
  unfolding all_records
  nodes_short i =
      let h = held t scratch sheet q in
      let xs = nodes_of h.nodes in
      let rs = records_of (length t) h.nodes in
      rw h.decodes
      (omega (
        arith,
        h.small,
        nodes_add_long (length t) xs i,
        ap (λ (l : List (List ℕ)). length (concat l)) (records_are (length t) h.nodes),
        length-append ((big 2).write (width h.nodes)) (concat rs),
      ))

-- a script has as many node records as `accept N` says
pub nodes_are : (x : Fed) → length (nodes x) ≡ accept_count x
nodes_are x = by (read_of x) refl
  where
    judged : (n c j : ℕ) (words left : List ℕ) → (read.Accepted n c j, words, left) ≡ read_of x → (v : CheckAnswer)
        → length (feed.if_accepted v (nodes_in (decode (length x.text) (take n left)))) ≡ if_accepted v c
    judged n c j words left q check.Accepted = nodes-counted x.text x.scratch x.sheet q
    judged n c j words left q (check.Refused r p) = refl

    by : (y : ReadAnswer × List ℕ × List ℕ) → y ≡ read_of x
        → length (feed.if_accepted (when_read x.list x.text y) (sheet_nodes x.text y))
        ≡ if_accepted (when_read x.list x.text y) (records_read y)
    by (read.Accepted n c j, words, left) q = judged n c j words left q (checking x.list x.text (take n left))
    by (read.Refused r p, words, left) q = refl

no_nodes : (i : ℕ) → nodes_add [] i ≤ 49152
unfolding sum_of
no_nodes i = omega arith

-- no script adds more than 65,535 to a word
pub figure_small : (i : ℕ) (x : Fed) → figure i x ≤ 65535
figure_small i x = omega (arith, in_word-most (number_in (judgement x)) 1 i, by (read_of x) refl)
  where
    judged : (n c j : ℕ) (words left : List ℕ) → (read.Accepted n c j, words, left) ≡ read_of x → (v : CheckAnswer)
        → nodes_add (feed.if_accepted v (nodes_in (decode (length x.text) (take n left)))) i ≤ 49152
    judged n c j words left q check.Accepted = nodes_short x.text x.scratch x.sheet q i
    judged n c j words left q (check.Refused r p) = no_nodes i

    by : (y : ReadAnswer × List ℕ × List ℕ) → y ≡ read_of x
        → nodes_add (feed.if_accepted (when_read x.list x.text y) (sheet_nodes x.text y)) i ≤ 49152
    by (read.Accepted n c j, words, left) q = judged n c j words left q (checking x.list x.text (take n left))
    by (read.Refused r p, words, left) q = no_nodes i

-- ---- 02 (g): "36 for a list other than the two, after 1 and 2"

-- so counts a script that reading accepts, with such a list
pub unlisted : (x : Fed) {n c k : ℕ} → (read_of x).0 ≡ read.Accepted n c k → is_list x.list ≡ false → number_in (judgement x) ≡ 36
unlisted x e l = ap number_in (by (read_of x) refl e)
  where
    by : (y : ReadAnswer × List ℕ × List ℕ) → y ≡ read_of x → {n c k : ℕ} → y.0 ≡ read.Accepted n c k
        → when_read x.list x.text y ≡ check.Refused UnknownList 0
    by (read.Accepted n c j, words, left) q e =
        checking-unlisted x.text (take n left) x.list l (held x.text x.scratch x.sheet q).opens
    by (read.Refused r p, words, left) q e = absurd (let z : ◌≡◌ {A = ℕ} 0 1 = cc in omega arith)
