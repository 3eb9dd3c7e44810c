-- 02 (j), of feeding: all scratches of 64 words or more give the same answer, totals and sheet.
use Prim.Native.Nat.{ℕ, ◌≤◌}
use mathlib.Core.Bool.{Bool, true, false, cond}
use mathlib.Core.List.{List}
use mathlib.Core.Path.{◌≡◌, refl}
use lib.ListN.{length}
use Rattle.error.specs.declared.Refusal.TheVariants.{TooManyScripts}
use Rattle.error.specs.declared.ReadAnswer.{ReadAnswer}
use Rattle.error.specs.declared.ReadAnswer.TheVariants.{Accepted, Refused}
use Rattle.error.specs.declared.FeedAnswer.{FeedAnswer}
use Rattle.error.specs.declared.FeedAnswer.TheVariants as answers
use Rattle.reading.specs.Reading.{reading}
use Rattle.script.proofs.ScratchLaws.{SameRead, reading-same}
use Rattle.totals.specs.Totals.{added}
use Rattle.feeding.specs.Feed.{fed, read_of, when_read, judgement, sheet_nodes, figure, full, feeding}

-- what feeding leaves in two cases differs in the scratch at most
pub record SameFed (x y : FeedAnswer × List ℕ × List ℕ × List ℕ) : Type 0 where
  pub answer : x.0 ≡ y.0
  pub totals : x.1 ≡ y.1
  pub sheet : x.3 ≡ y.3

module _ (list : ℕ) (t s s' b : List ℕ) (h : 64 ≤ length s) (h' : 64 ≤ length s') where
  judgement-same : judgement (fed list t s b) ≡ judgement (fed list t s' b)
  judgement-same = go (reading t s b) (reading t s' b) (reading-same t s s' b h h')
    where
      by : (a : ReadAnswer) (w w' c : List ℕ) → when_read list t (a, w, c) ≡ when_read list t (a, w', c)
      by (Accepted n k j) w w' c = refl
      by (Refused r p) w w' c = refl

      go : (x y : ReadAnswer × List ℕ × List ℕ) → SameRead x y → when_read list t x ≡ when_read list t y
      go (a, w, c) (a', w', c') e = rw (e.answer, e.sheet) (by a' w w' c')

  nodes-same : sheet_nodes t (reading t s b) ≡ sheet_nodes t (reading t s' b)
  nodes-same = go (reading t s b) (reading t s' b) (reading-same t s s' b h h')
    where
      by : (a : ReadAnswer) (w w' c : List ℕ) → sheet_nodes t (a, w, c) ≡ sheet_nodes t (a, w', c)
      by (Accepted n k j) w w' c = refl
      by (Refused r p) w w' c = refl

      go : (x y : ReadAnswer × List ℕ × List ℕ) → SameRead x y → sheet_nodes t x ≡ sheet_nodes t y
      go (a, w, c) (a', w', c') e = rw (e.answer, e.sheet) (by a' w w' c')

  pub feeding-same : (ws : List ℕ) → SameFed (feeding ws (fed list t s b)) (feeding ws (fed list t s' b))
  unfolding feeding
  feeding-same ws = go (full ws)
    where
      after : (s : List ℕ) → FeedAnswer × List ℕ × List ℕ × List ℕ
      after s =
          let x = fed list t s b in
          (answers.Counted (judgement x), added (λ i. figure i x) ws, (read_of x).1, (read_of x).2)

      go : (shut : Bool)
          → SameFed
          (cond shut (answers.Refused TooManyScripts 0, ws, s, b) (after s))
          (cond shut (answers.Refused TooManyScripts 0, ws, s', b) (after s'))
      go true = record { answer = refl; totals = refl; sheet = refl }
      go false = record {
        answer = rw judgement-same;
        totals = rw (judgement-same, nodes-same);
        sheet = (reading-same t s s' b h h').sheet;
      }
