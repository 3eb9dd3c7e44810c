-- 02 (b): "From empty totals on, every figure equals its count defined from the scripts and buffers fed and not from the stored sums, and
-- the kinds add up to all those node records".
use Rattle.std.specs.Prelude.{ℕ, ◌+◌, ◌≤◌, ◌<◌, cond, List, [], ◌∷◌, ◌++◌, ◌↔◌, ◌≡◌, eqb, length, get_or}
use Rattle.error.specs.declared.Refusal.TheVariants.{TooManyScripts}
use Rattle.error.specs.declared.ReadAnswer.{ReadAnswer}
use Rattle.error.specs.declared.ReadAnswer.TheVariants as read
use Rattle.error.specs.declared.CheckAnswer.{CheckAnswer}
use Rattle.error.specs.declared.CheckAnswer.TheVariants as check
use Rattle.error.specs.declared.MeanAnswer.{MeanAnswer}
use Rattle.error.specs.declared.MeanAnswer.TheVariants.{Fraction, Nothing}
use Rattle.ast.specs.Tree as tree
use Rattle.ast.specs.Tree.{KeyframeTime, Leaf, single, holding}
use Rattle.sheet.specs.Sheet.{Node}
use Rattle.sheet.specs.Records.{kind_of, entries_of}
use Rattle.totals.specs.Totals.{script_limit, figure_limit, empty_totals, sum_of}
use Rattle.totals.specs.Mean.{node_records, mean, Lowest}
use Rattle.feeding.specs.Feed.{Fed, read_of, judgement, number_in, nodes, feeding}
use Rattle.error.specs.declared.FeedAnswer.TheVariants.{Counted, Refused}

-- the totals after some feeds, one after the other
unfoldable pub after : List ℕ → List Fed → List ℕ
after ws [] = ws
after ws (x ∷ xs) = after (feeding ws x).1 xs

-- ---- counts over what was fed

-- 1 for a script that counts under the number r, 0 for the accepted ones
abbrev pub under : ℕ → Fed → ℕ
under r x = cond (eqb r (number_in (judgement x))) 1 0

-- 1 for a node of kind k
abbrev pub of_kind : ℕ → Node → ℕ
of_kind k x = cond (eqb k (kind_of x)) 1 0

-- the node records of kind k in a script, if it is accepted, and its keyframe entries
abbrev pub kind_count : ℕ → Fed → ℕ
kind_count k x = sum_of (of_kind k) (nodes x)

abbrev pub entry_count : Fed → ℕ
entry_count x = sum_of entries_of (nodes x)

-- the N of `accept N`: the count of node records that reading answers, of an accepted script
abbrev pub records_read : ReadAnswer × List ℕ × List ℕ → ℕ
records_read (read.Accepted n c j, words, s) = c
records_read (read.Refused r p, words, s) = 0

abbrev pub if_accepted : CheckAnswer → ℕ → ℕ
if_accepted check.Accepted c = c
if_accepted (check.Refused r p) c = 0

abbrev pub accept_count : Fed → ℕ
accept_count x = if_accepted (judgement x) (records_read (read_of x))

-- 1 for an accepted script
abbrev pub accepted_count : Fed → ℕ
accepted_count x = if_accepted (judgement x) 1

-- 1 for a track, a `keyframes` node
abbrev pub leaf_tracks : Leaf KeyframeTime → ℕ
leaf_tracks (tree.tween x) = 0
leaf_tracks (tree.spring x) = 0
leaf_tracks (tree.keyframes x) = 1
leaf_tracks (tree.path x) = 0
leaf_tracks (tree.morph x) = 0
leaf_tracks (tree.draw x) = 0
leaf_tracks (tree.color x) = 0
leaf_tracks (tree.waveform x) = 0
leaf_tracks (tree.preset x) = 0
leaf_tracks (tree.label x) = 0
leaf_tracks (tree.at x) = 0

abbrev pub tracks_of : Node → ℕ
tracks_of (single p l) = leaf_tracks l
tracks_of (holding p b ns) = 0

-- the tracks in a script, if it is accepted
abbrev pub track_count : Fed → ℕ
track_count x = sum_of tracks_of (nodes x)

-- ---- the promise

-- every figure of the totals ws is its count over the scripts xs
pub record Figures (xs : List Fed) (ws : List ℕ) : Type 0 where
  pub long : length ws ≡ 60
  pub accepted : get_or ws 0 0 ≡ sum_of (under 0) xs
  pub refused : (r : ℕ) → 1 ≤ r → r < 44 → get_or ws r 0 ≡ sum_of (under r) xs
  pub kinds : (k : ℕ) → k < 15 → get_or ws (44 + k) 0 ≡ sum_of (kind_count k) xs
  pub entries : get_or ws 59 0 ≡ sum_of entry_count xs
  -- "the kinds add up to all those node records"
  pub all : node_records ws ≡ sum_of accept_count xs
  -- "a figure above 268,431,360, which no feed reaches"
  pub most : (i : ℕ) → get_or ws i 0 ≤ figure_limit

-- after the feeds xs: the figures; one more is counted, unless there were 4,096
pub record Morning (xs : List Fed) : Type 0 where
  pub figures : Figures xs (after empty_totals xs)
  pub next : length xs < script_limit → (x : Fed)
      → feeding (after empty_totals xs) x ≡ (Counted (judgement x), after empty_totals (xs ++ x ∷ []), (read_of x).1, (read_of x).2)
  pub last : length xs ≡ script_limit → (x : Fed)
      → feeding (after empty_totals xs) x ≡ (Refused TooManyScripts 0, after empty_totals xs, x.scratch, x.sheet)

-- "each as an exact fraction in lowest terms, or `none` where there was no such script or track": the answer for a over b
pub record MeanIs (a b : ℕ) (answer : MeanAnswer) : Type 0 where
  pub none : (answer ≡ Nothing) ↔ (b ≡ 0)
  pub lowest : 0 < b → (n : ℕ) × (d : ℕ) × (answer ≡ Fraction n d) × Lowest a b n d

-- "the mean node records per accepted script and mean entries per track", after the feeds xs
pub record Means (xs : List Fed) : Type 0 where
  pub records : MeanIs (sum_of accept_count xs) (sum_of accepted_count xs) (mean (after empty_totals xs) 0)
  pub entries : (which : ℕ) → 0 < which → MeanIs (sum_of entry_count xs) (sum_of track_count xs) (mean (after empty_totals xs) which)
