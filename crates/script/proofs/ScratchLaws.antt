-- 02 (j): "Reading must give the same answers, places and sheets from a scratch of 64 words": all scratches of 64 words or more give the
-- same, and so printing does too.
use Prim.Native.Nat.{ℕ, ◌≤◌}
use mathlib.Core.Bool.{Bool, true, false, cond}
use mathlib.Core.List.{List}
use mathlib.Core.Option.{Option, none, some}
use mathlib.Core.Path.{◌≡◌, refl}
use borrow.Author.Tests.{le-ltb}
use lib.Dec.{ltb}
use lib.ListN.{length, replicate}
use Rattle.error.specs.declared.Refusal.{Refusal}
use Rattle.error.specs.declared.Refusal.TheVariants.{OutputTooShort}
use Rattle.error.specs.declared.ReadAnswer.{ReadAnswer}
use Rattle.error.specs.declared.ReadAnswer.TheVariants.{Accepted, Refused}
use Rattle.error.specs.declared.LineAnswer.{LineAnswer}
use Rattle.error.specs.declared.LineAnswer.TheVariants as lined
use Rattle.reading.specs.Reading.{early, unless_early, reading}
use Rattle.script.specs.Output.{when_read, printed, line_bytes, page_bytes, paged, printing}

-- what reading leaves in two cases differs in the scratch at most
pub record SameRead (x y : ReadAnswer × List ℕ × List ℕ) : Type 0 where
  pub answer : x.0 ≡ y.0
  pub sheet : x.2 ≡ y.2

-- what printing leaves likewise
pub record SamePrinted (x y : LineAnswer × List ℕ × List ℕ × List ℕ) : Type 0 where
  pub answer : x.0 ≡ y.0
  pub sheet : x.2 ≡ y.2
  pub page : x.3 ≡ y.3

module _ (t s s' b : List ℕ) (h : 64 ≤ length s) (h' : 64 ≤ length s') where
  -- ---- reading

  early-same : early (length t) (length s) ≡ early (length t) (length s')
  unfolding early
  early-same = rw (le-ltb (length s) 64 h, le-ltb (length s') 64 h')

  pub reading-same : SameRead (reading t s b) (reading t s' b)
  unfolding reading
  reading-same = rw early-same (go (early (length t) (length s')))
    where
      go : (o : Option Refusal) → SameRead (unless_early t s b o) (unless_early t s' b o)
      go none = record { answer = refl; sheet = refl }
      go (some r) = record { answer = refl; sheet = refl }

  -- ---- printing

  printed-same : (list : ℕ) (out : List ℕ) → printed list t s b out ≡ printed list t s' b out
  printed-same list out = go (reading t s b) (reading t s' b) reading-same
    where
      by : (a : ReadAnswer) (w w' c : List ℕ) → when_read list t out (a, w, c) ≡ when_read list t out (a, w', c)
      by (Accepted n k j) w w' c = refl
      by (Refused r p) w w' c = refl

      go : (x y : ReadAnswer × List ℕ × List ℕ) → SameRead x y → when_read list t out x ≡ when_read list t out y
      go (a, w, c) (a', w', c') e = rw (e.answer, e.sheet) (by a' w w' c')

  pub printing-same : (list : ℕ) (page : List ℕ) → SamePrinted (printing list t s b page) (printing list t s' b page)
  unfolding printing
  printing-same list page = go (ltb (length page) page_bytes)
    where
      go : (short : Bool)
          → SamePrinted
          (cond short (lined.Refused OutputTooShort 0, s, b, page)
          (paged (reading t s b) (printed list t s b (replicate line_bytes 0)) page))
          (cond short (lined.Refused OutputTooShort 0, s', b, page)
          (paged (reading t s' b) (printed list t s' b (replicate line_bytes 0)) page))
      go true = record { answer = refl; sheet = refl; page = refl }
      go false =
          let e = printed-same list (replicate line_bytes 0) in
          record { answer = rw e; sheet = reading-same.sheet; page = rw e }
