-- Laws of reading: its parts, and the whole in its order.
use Prim.Native.Nat.{ℕ, ◌-◌, ◌≤◌, ◌<◌}
use mathlib.Core.Bool.{Bool, true, false}
use mathlib.Core.List.{List, [], ◌++◌}
use mathlib.Core.Option.{none, some}
use mathlib.Core.Path.{◌≡◌, refl, sym, ap, ◌∙◌, subst}
use native.Mathlib.Omega.{arith}
use native.Mathlib.Nat.{zero-add, sub-zero}
use borrow.Author.Tests.{lt-ltb, le-ltb, ltb-false, eqb-true}
use lib.Dec.{ltb, eqb}
use lib.ListN.{length, take, replicate}
use Rattle.text.specs.Limits.{text_limit}
use Rattle.codec.specs.Codec.{big}
use Rattle.token.specs.Split.{Split, unlexed, tokens, split}
use Rattle.token.specs.Means.{answer_of, splitting}
use Rattle.token.specs.Means as lexing
use Rattle.token.specs.declared.SplitAnswer.{SplitAnswer}
use Rattle.token.specs.declared.SplitAnswer.TheVariants as answer
use Rattle.token.proofs.StreamLaws.{split-reads}
use Rattle.token.proofs.NestLaws.{last_end, fits_splits}
use Rattle.law_rules.proofs.NestLaws.{OutNests, input_nests, end_fits}
use Rattle.number.specs.Time.{Key}
use Rattle.ast.specs.Tree.{Nodes, width, map_times}
use Rattle.sheet.specs.Sheet.{encode}
use Rattle.sheet_encode.specs.WriteMeans.{Writes}
use Rattle.sheet_encode.proofs.OverLaws.{writes_counted}
use Rattle.sheet_encode.proofs.ClearLaws.{written}
use Rattle.grammar.specs.Rule.{Out, refused}
use Rattle.grammar.specs.Grammar.{stored, animato_input}
use Rattle.read_cursor.specs.WordMeans.{at_of, left_at, rounded_of}
use Rattle.read_cursor.specs.Means.{nothing, left_of, notes, run, Begins}
use Rattle.read_cursor.specs.Means as cursor
use Rattle.read_cursor.specs.declared.Cursor.{Cursor}
use Rattle.read_cursor.proofs.CursorLaws.{left_none}
use Rattle.read_blocks.specs.Means.{parse_nodes, NodesWent}
use Rattle.read_blocks.specs.declared.Siblings.{Siblings}
use Rattle.read_blocks.proofs.BlockLaws.{block-bytes}
use Rattle.error.specs.declared.Refusal.{Refusal}
use Rattle.error.specs.declared.Refusal.TheVariants.{TextTooLong, ScratchTooShort, Leftover, SheetTooShort}
use Rattle.error.specs.declared.ReadAnswer.{ReadAnswer}
use Rattle.error.specs.declared.ReadAnswer.TheVariants.{Accepted, Refused}
use Rattle.reading.specs.Reading as reads
use Rattle.reading.specs.Reading.{wrong, finished, parse, early, reading, outcome, scratch_words}
use Rattle.parser.specs.Means.{tree_of, Encoded, TreeMeans, input_of, Allowed, InputMeans, settled}
use Rattle.parser.specs.declared.Input.{Input}

-- ---- the grammar, from the text's start on

module _ (t : List ℕ) (c : Cursor) (i : Begins t 0 nothing 0 c) where
  input_run : tree_of t ≡ finished (run t c (parse_nodes 16))
  unfolding animato_input
  input_run = rw (i.is, left_none (left_at c) i.left, i.rounded)

  -- a refusal tells nothing of the text's end
  input_wrong : (b a : List ℕ) (r : Refusal) (p : ℕ) (x : Input) → x ≡ input_of (Refused r p) false
      → tree_of t ≡ wrong r p → InputMeans t b a x
  input_wrong b a r p x e h = rw e (record { tree = h; allowed = λ q. absurd (let z : ◌≡◌ {A = ℕ} 0 1 = cc in omega arith) })

  pub input_refused : {b a : List ℕ} (r : Refusal) (p : ℕ) (x : Input) → x ≡ input_of (Refused r p) false
      → run t c (parse_nodes 16) ≡ refused r p → InputMeans t b a x
  input_refused r p x e h = input_wrong _ _ r p x e (input_run ∙ (rw h))

  module _ {b a : List ℕ} {u : Siblings} (g : NodesWent t b a c 2 16 u) where
    -- "tokens left inside a delimiter": 13, at "the first"
    pub input_left : (p : ℕ) (x : Input) → x ≡ input_of (Refused Leftover p) false → left_of (left_at u.next) ≡ some p → InputMeans t b a x
    input_left p x e h = input_wrong _ _ Leftover p x e (input_run ∙ (rw (g.went.took.is, h)))

    -- behind the last node stands the text's end: each token was cut, and with nothing left in a group all nest
    input_allowed : (p : ℕ) → left_of (left_at u.next) ≡ none → p ≡ at_of u.next → Allowed t (eqb p (length t))
    unfolding animato_input
    input_allowed p h e q =
        let end : at_of u.next ≡ length t = sym e ∙ eqb-true p (length t) q in
        let x = input_nests.run (notes t c) (cursor.tokens t c) in
        let y = subst (λ (o : Out (Nodes Key)). OutNests 18 (notes t c) (cursor.tokens t c) o) g.went.took.is x in
        let same = y.same h [] (omega arith) in
        fits_splits t (sym g.went.took.ready.last ∙ last_end t (at_of u.next) end)
        (rw i.is (same ∙ end_fits t (at_of u.next) end))

    input_encoded : {a' : List ℕ} {f : ℕ} → left_of (left_at u.next) ≡ none → Writes a 0 ((big 2).write u.width) a' f
        → Encoded t b a' u.end u.records (rounded_of u.next)
    unfolding encode
    input_encoded h o = record {
      nodes = g.went.value;
      is = input_run ∙ (rw (g.went.took.is, h));
      writes = rw (← block-bytes (length t) 16 g.went.value)
          (writes_counted (width g.went.value) refl g.went.writes (rw g.wide at o));
      count = g.count;
    }

    pub input_done : {a' : List ℕ} {f : ℕ} (p k : ℕ) → left_of (left_at u.next) ≡ none → Writes a 0 ((big 2).write u.width) a' f
        → p ≡ at_of u.next → k ≡ rounded_of u.next
        → InputMeans t b a' (input_of (Accepted u.end u.records k) (eqb p (length t)))
    input_done p k h o e q = record { tree = rw q (input_encoded h o); allowed = input_allowed p h e }

-- ---- the sheet

module _ (bs a : List ℕ) where
  pub settled_refused : (r : Refusal) (p : ℕ) → a ≡ take 0 bs ++ replicate (length bs - 0) 0
      → Prim.Path (ReadAnswer × List ℕ) (Refused r p, a) (settled (Refused r p) bs)
  settled_refused r p h = rw (h, sub-zero)

  pub settled_short : (n k j : ℕ) → length bs < n → a ≡ take 0 bs ++ replicate (length bs - 0) 0
      → Prim.Path (ReadAnswer × List ℕ) (Refused SheetTooShort 0, a) (settled (Accepted n k j) bs)
  settled_short n k j l h = rw (lt-ltb (length bs) n l, h, sub-zero)

  pub settled_accepted : (n k j : ℕ) → n ≤ length bs → a ≡ take n bs ++ replicate (length bs - n) 0
      → Prim.Path (ReadAnswer × List ℕ) (Accepted n k j, a) (settled (Accepted n k j) bs)
  settled_accepted n k j l h = rw (le-ltb (length bs) n l, h)

-- an encoding of the tree, as far as there is room for it
module _ (s b a bs : List ℕ) (n k j : ℕ) (z : length a ≡ length b) (w : Writes b 0 bs a n) where
  size : n ≡ length bs
  size = w.place ∙ zero-add (length bs)

  by_room : (v : Bool) → ltb (length b) (length bs) ≡ v
      → outcome (settled (Accepted n k j) a).0 (replicate (length s) 0) (settled (Accepted n k j) a).1
      ≡ reads.cleared s b (reads.fitting (length b) bs k j)
  by_room true e = rw (size, z, e, sub-zero)
  by_room false e = let c : take (length bs) a ≡ bs = rw size at (written w (ltb-false (length b) (length bs) e)) in rw (size, z, e, c)

-- the settled answer to the tree
tree_settled : (t s b a : List ℕ) (x : ReadAnswer) → length a ≡ length b → TreeMeans t b a x
    → outcome (settled x a).0 (replicate (length s) 0) (settled x a).1
    ≡ reads.cleared s b (reads.answered (length t) (length b) (tree_of t))
tree_settled t s b a (Refused r p) z m = rw (m, z, sub-zero)
tree_settled t s b a (Accepted n k j) z m =
    let bs = encode (length t) (map_times stored m.nodes) in
    rw (m.is, ← m.count) (by_room s b a bs n k j z m.writes (ltb (length b) (length bs)) refl)

-- ---- the text rules

module _ (t s : List ℕ) (l : 64 ≤ length s) where
  pub allowed : (s' : List ℕ) → answer_of (split t) ≡ answer.Accepted → s' ≡ replicate (length s) 0
      → lexing.split_outcome answer.Accepted s' ≡ splitting t s
  unfolding splitting
  allowed s' h z = rw (le-ltb (length s) 64 l, h, z)

-- the pass over the text, where the scratch is long enough
module _ (t s s' : List ℕ) (x : SplitAnswer) (l : scratch_words ≤ length s) (e : lexing.split_outcome x s' ≡ splitting t s) where
  split-both : lexing.split_outcome x s' ≡ lexing.split_outcome (answer_of (split t)) (replicate (length s) 0)
  unfolding splitting
  split-both = e ∙ (rw (le-ltb (length s) 64 l))

  pub split-zero : s' ≡ replicate (length s) 0
  split-zero = ap (λ (p : SplitAnswer × List ℕ). p.1) split-both

  split_answer : x ≡ answer_of (split t)
  split_answer = ap (λ (p : SplitAnswer × List ℕ). p.0) split-both

  pub split_refused : (r : Refusal) (p : ℕ) → x ≡ answer.Refused r p → parse t ≡ wrong r p
  unfolding parse
  split_refused r p q = go (split t) (sym split_answer ∙ q)
    where
      go : (y : Split) → answer_of y ≡ answer.Refused r p → reads.parsed (length t) y ≡ wrong r p
      go (unlexed r' p') q = let i : r' ≡ r = cc in let j : p' ≡ p = cc in rw (i, j)
      go (tokens ts) q = absurd (let z : ◌≡◌ {A = ℕ} 0 1 = cc in omega arith)

  pub split_accepted : x ≡ answer.Accepted → parse t ≡ tree_of t
  unfolding parse
  split_accepted q = go (split t) refl (sym split_answer ∙ q)
    where
      go : (y : Split) → split t ≡ y → answer_of y ≡ answer.Accepted → reads.parsed (length t) y ≡ tree_of t
      go (unlexed r' p') i q = absurd (let z : ◌≡◌ {A = ℕ} 0 1 = cc in omega arith)
      go (tokens ts) i q = rw (split-reads t ts i)

-- ---- reading

module _ (t s b : List ℕ) where
  pub too_long : text_limit < length t → reading t s b ≡ outcome (Refused TextTooLong 0) s b
  unfolding reading early
  too_long h = rw (lt-ltb text_limit (length t) h)

  module _ (h : length t ≤ text_limit) where
    pub too_few : length s < scratch_words → reading t s b ≡ outcome (Refused ScratchTooShort 0) s b
    unfolding reading early
    too_few l = rw (le-ltb text_limit (length t) h, lt-ltb (length s) scratch_words l)

    module _ (l : scratch_words ≤ length s) where
      by_parse : reading t s b ≡ reads.cleared s b (reads.answered (length t) (length b) (parse t))
      unfolding reading early
      by_parse = rw (le-ltb text_limit (length t) h, le-ltb (length s) scratch_words l)

      pub read-refused : (s' b' a : List ℕ) (x : ReadAnswer) (r : Refusal) (p : ℕ) → s' ≡ replicate (length s) 0
          → parse t ≡ wrong r p → length a ≡ length b
          → Prim.Path (ReadAnswer × List ℕ) (x, b') (settled (Refused r p) a) → outcome x s' b' ≡ reading t s b
      read-refused s' b' a x r p z e i q =
          rw (z, by_parse, e, sub-zero, sym i) (ap (λ (y : ReadAnswer × List ℕ). outcome y.0 (replicate (length s) 0) y.1) q)

      pub read_tree : (s' b' a : List ℕ) (x y : ReadAnswer) → s' ≡ replicate (length s) 0
          → parse t ≡ tree_of t → length a ≡ length b → TreeMeans t b a y
          → Prim.Path (ReadAnswer × List ℕ) (x, b') (settled y a) → outcome x s' b' ≡ reading t s b
      read_tree s' b' a x y z e i m q =
          rw (z, by_parse, e)
          (ap (λ (v : ReadAnswer × List ℕ). outcome v.0 (replicate (length s) 0) v.1) q ∙ tree_settled t s b a y i m)

-- ---- what equals reading has its values
