-- Demand 3, one claim over both calls.
use Rattle.std.specs.Prelude.{ℕ, suc, ◌≤◌, true, List, [], ◌∷◌, ◌≡◌, ◌≢◌, length, take}
use Rattle.std.proofs.Math.Option.{some}
use Rattle.std.proofs.Math.ListN.{get_elem?}
use Rattle.text.specs.Limits.{text_limit}
use Rattle.number.specs.Number.{f32}
use Rattle.number.specs.Time.{Key}
use Rattle.times.specs.Terms.{FairPercent, AtMost, Within, Far, Equal, Close, Each, Pairs}
use Rattle.ast.specs.Tree.{Nodes, KeyframeTime, KeyframeEntry, KeyframeSpec, keyframes, map_times, records, preorder}
use Rattle.sheet.specs.Sheet.{encode, decode}
use Rattle.grammar.specs.Grammar.{stored}
use Rattle.reading.specs.Reading.{parse, tree, reading, scratch_words}
use Rattle.checking.specs.Rules.{time_of}
use Rattle.checking.specs.Checking.{judged, is_list, checking}
use Rattle.error.specs.declared.Refusal.TheVariants.{DuplicateTime}
use Rattle.error.specs.declared.ReadAnswer.{ReadAnswer}
use Rattle.error.specs.declared.ReadAnswer.TheVariants as read
use Rattle.error.specs.declared.CheckAnswer.{CheckAnswer}
use Rattle.error.specs.declared.CheckAnswer.TheVariants as check

-- ---- one track: its keys in the grammar's tree, its times in the sheet's

abbrev pub times : {K : Type 0} → List (KeyframeEntry K) → List K
times [] = []
times (x ∷ xs) = x.time ∷ times xs

-- "each time stored for the track is within 2^(k-25) of the written one": every key has its stored time, which is that near
abbrev pub StoredWithin : ℕ → List Key → List KeyframeTime → Type 0
StoredWithin k keys ts =
    (i : ℕ) (t : Key) → get_elem? keys i ≡ some t → (u : KeyframeTime) × (get_elem? ts i ≡ some u) × Within k t (f32 (time_of u))

-- what holds of the track x, which the sheet has as y, at the ordinal n, where checking answers v
abbrev pub TrackClaim : KeyframeSpec Key → KeyframeSpec KeyframeTime → ℕ → CheckAnswer → Type 0
TrackClaim x y n v =
    2 ≤ length x.frames → Each FairPercent (times x.frames) → (k : ℕ) → k ≤ 34 → Each (AtMost k) (times x.frames)
    → StoredWithin k (times x.frames) (times y.frames)
    × (Pairs (Far k) (times x.frames) → v ≢ check.Refused DuplicateTime n)
    × Pairs (λ t u. Equal t u → v ≢ check.Accepted) (times x.frames)
    × (k ≡ 0 → Pairs (λ t u. Close t u → v ≢ check.Accepted) (times x.frames))

-- ---- the whole claim

-- the encoding of the grammar's tree
abbrev pub encoding : List ℕ → Nodes Key → List ℕ
encoding t ns = encode (length t) (map_times stored ns)

-- none of reading's refusals is due: the grammar's tree of the text is ns, with c rounded numbers, and its encoding has room
pub record Unrefused (t : List ℕ) (words room : ℕ) (ns : Nodes Key) (c : ℕ) : Type 0 where
  pub short : length t ≤ text_limit
  pub scratch : scratch_words ≤ words
  pub parses : parse t ≡ tree ns c
  pub fits : length (encoding t ns) ≤ room

-- what is so of reading's answer a, the sheet s that it left and checking's answer v under a list, where ns is the grammar's tree, with c
-- rounded numbers
pub record Agreed (list : ℕ) (t : List ℕ) (a : ReadAnswer) (s : List ℕ) (v : CheckAnswer) (ns : Nodes Key) (c : ℕ) : Type 0 where
  -- the sheet's length is the encoding's
  pub answer : a ≡ read.Accepted (length (encoding t ns)) (records ns) c
  pub encodes : take (length (encoding t ns)) s ≡ encoding t ns
  -- the tree of the sheet
  pub held : Nodes KeyframeTime
  pub decodes : decode (length t) (take (length (encoding t ns)) s) ≡ some held
  -- "it answers, number and ordinal included, as the checking rules do for that tree"
  pub same : held ≡ map_times stored ns
  pub checked : v ≡ judged list t held
  pub tracks : (i : ℕ) (x : KeyframeSpec Key) → get_elem? (preorder ns) i ≡ some (some (keyframes x))
      → (y : KeyframeSpec KeyframeTime) × (get_elem? (preorder held) i ≡ some (some (keyframes y))) × TrackClaim x y (suc i) v

-- t is the text, words and room the lengths of scratch and sheet; a is what reading answered, s the sheet's bytes then, v what checking
-- answered under a list
pub record Claim (list : ℕ) (t : List ℕ) (words room : ℕ) (a : ReadAnswer) (s : List ℕ) (v : CheckAnswer) : Type 0 where
  -- "Reading accepts exactly where none of its refusals is due"
  pub only : (n m c : ℕ) → a ≡ read.Accepted n m c → (ns : Nodes Key) × Unrefused t words room ns c
  -- "and its sheet then encodes the grammar's tree", and the rest
  pub whenever : (ns : Nodes Key) (c : ℕ) → Unrefused t words room ns c → Agreed list t a s v ns c

-- 02 (g): "Demand 3 speaks of these two lists"; for every text, scratch and sheet slice, and for the answer of checking, under the list, to
-- the text and the sheet up to the length that reading gave
abbrev pub Demand3 : Type 0
Demand3 =
    (list : ℕ) → is_list list ≡ true → (t scratch sheet : List ℕ) (v : CheckAnswer)
    → ((n m c : ℕ) → (reading t scratch sheet).0 ≡ read.Accepted n m c → v ≡ checking list t (take n (reading t scratch sheet).2))
    → Claim list t (length scratch) (length sheet) (reading t scratch sheet).0 (reading t scratch sheet).2 v
