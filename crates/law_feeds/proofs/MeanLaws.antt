-- The means after at most 4,096 feeds: fractions of counts over what was fed.
use Prim.Native.Nat.{ℕ, zero, suc, ◌/◌, ◌≤◌, ◌<◌}
use mathlib.Core.Bool.{cond}
use mathlib.Core.List.{List}
use mathlib.Core.Path.{◌≡◌, refl, ◌∙◌}
use native.Mathlib.Omega.{arith}
use lib.Dec.{eqb}
use lib.ListN.{length, get_or}
use borrow.Author.Tests.{ne_eqb}
use Rattle.error.specs.Refusal.{number_of}
use Rattle.error.specs.declared.CheckAnswer.{CheckAnswer}
use Rattle.error.specs.declared.CheckAnswer.TheVariants as check
use Rattle.error.specs.declared.MeanAnswer.{MeanAnswer}
use Rattle.error.proofs.NumberLaws.{numbered}
use Rattle.ast.specs.Tree as tree
use Rattle.ast.specs.Tree.{single, holding}
use Rattle.sheet.specs.Sheet.{Node}
use Rattle.totals.specs.Totals.{script_limit, empty_totals, sum_of}
use Rattle.totals.specs.Mean.{gcd, fraction, mean_of, mean}
use Rattle.totals.proofs.MeanLaws.{lowest_terms}
use Rattle.feeding.specs.Feed.{Fed, judgement, number_in, nodes}
use Rattle.law_feeds.specs.Morning.{after, under, of_kind, kind_count, if_accepted, accepted_count, entry_count, tracks_of, track_count}
use Rattle.law_feeds.specs.Morning.{Figures, MeanIs, Means}
use Rattle.law_feeds.proofs.FigureLaws.{sum_same}
use Rattle.law_feeds.proofs.History.{not-over, morning}

-- a over b
fraction_is : (a b : ℕ) → MeanIs a b (fraction a b)
fraction_is a zero = record { none = (λ e. refl, λ e. refl); lowest = λ h. absurd (omega arith) }
fraction_is a (suc b) = record {
  none = (λ e. let z : ◌≡◌ {A = ℕ} 0 1 = cc in absurd (omega arith), λ e. absurd (omega arith));
  lowest = λ h. (a / gcd a (suc b), suc b / gcd a (suc b), refl, lowest_terms a (suc b) h);
}

mean_is : {answer : MeanAnswer} {a b c d : ℕ} → answer ≡ fraction a b → a ≡ c → b ≡ d → MeanIs c d answer
mean_is {c = c} {d = d} e p q = rw (e, p, q) (fraction_is c d)

-- word 0 counts the accepted scripts
under_accepted : (x : Fed) → under 0 x ≡ accepted_count x
under_accepted x = by (judgement x)
  where
    by : (v : CheckAnswer) → cond (eqb 0 (number_in v)) 1 0 ≡ if_accepted v 1
    by check.Accepted = refl
    by (check.Refused r p) = rw (ne_eqb 0 (number_of r) (λ e. let h = (numbered r).some in omega arith)) refl

-- kind 2 is a track
track-kind : (x : Node) → of_kind 2 x ≡ tracks_of x
track-kind (single p (tree.tween x)) = refl
track-kind (single p (tree.spring x)) = refl
track-kind (single p (tree.keyframes x)) = refl
track-kind (single p (tree.path x)) = refl
track-kind (single p (tree.morph x)) = refl
track-kind (single p (tree.draw x)) = refl
track-kind (single p (tree.color x)) = refl
track-kind (single p (tree.waveform x)) = refl
track-kind (single p (tree.preset x)) = refl
track-kind (single p (tree.label x)) = refl
track-kind (single p (tree.at x)) = refl
track-kind (holding p tree.sequence ns) = refl
track-kind (holding p tree.parallel ns) = refl
track-kind (holding p (tree.group m) ns) = refl
track-kind (holding p (tree.stagger q d) ns) = refl

module _ (xs : List Fed) (h : length xs ≤ script_limit) where
  abbrev figures : Figures xs (after empty_totals xs)
  figures = (morning xs h).figures

  -- no figure is above the limit
  mean_goes : (which : ℕ) → mean (after empty_totals xs) which ≡ mean_of (after empty_totals xs) which
  unfolding mean
  mean_goes which = rw (not-over (after empty_totals xs) (λ i l. figures.most i))

  accepted_is : get_or (after empty_totals xs) 0 0 ≡ sum_of accepted_count xs
  accepted_is = figures.accepted ∙ sum_same (under 0) accepted_count under_accepted xs

  tracks_are : get_or (after empty_totals xs) 46 0 ≡ sum_of track_count xs
  tracks_are =
      figures.kinds 2 (omega arith) ∙ sum_same (kind_count 2) track_count (λ x. sum_same (of_kind 2) tracks_of track-kind (nodes x)) xs

  entries_are : (which : ℕ) → 0 < which → MeanIs (sum_of entry_count xs) (sum_of track_count xs) (mean (after empty_totals xs) which)
  entries_are zero l = absurd (omega arith)
  entries_are (suc which) l = mean_is (mean_goes (suc which)) figures.entries tracks_are

  -- "for every list of at most 4,096 feeds .. from empty totals"
  pub means : Means xs
  means = record { records = mean_is (mean_goes 0) figures.all accepted_is; entries = entries_are }
