-- The totals after at most 4,096 feeds.
use Prim.Native.Nat.{ℕ, suc, ◌+◌, ◌*◌, ◌-◌, ◌≤◌, ◌<◌}
use mathlib.Core.Bool.{true, false}
use mathlib.Core.List.{List, [], ◌∷◌, ◌++◌, append-nil}
use mathlib.Core.Logic.{◌⊎◌, inl, inr}
use mathlib.Core.Path.{◌≡◌, refl, sym, ap, ◌∙◌}
use native.Mathlib.Nat.{suc-mul, eq-zero-or-pos}
use native.Mathlib.Omega.{arith}
use lib.ListN.{length, get_or, length-append, length-replicate, get_or-replicate, get_or-eq_default}
use lib.Seq.{append_snoc}
use borrow.Author.Tests.{le-ltb, lt-leb}
use Rattle.error.specs.declared.Refusal.TheVariants.{TooManyScripts}
use Rattle.totals.specs.Totals.{script_limit, figure_limit, empty_totals, sum_of, over, scripts, added}
use Rattle.totals.specs.Mean.{node_records}
use Rattle.totals.proofs.TotalsLaws.{length-added, word-added}
use Rattle.feeding.specs.Feed.{Fed, read_of, judgement, figure, full, feeding}
use Rattle.error.specs.declared.FeedAnswer.{FeedAnswer}
use Rattle.error.specs.declared.FeedAnswer.TheVariants.{Counted, Refused}
use Rattle.law_feeds.specs.Morning.{after, under, kind_count, entry_count, accept_count, Morning}
use Rattle.law_feeds.proofs.FigureLaws.{sum_same, figure-number, figure-kind, figure-entries, figure_small, sum_added}
use Rattle.law_feeds.proofs.FigureLaws.{figure_in_numbers, figure_in_kinds, nodes_are}

-- ---- sums over a list

sum-last : {A : Type 0} (f : A → ℕ) (xs : List A) (x : A) → sum_of f (xs ++ x ∷ []) ≡ sum_of f xs + f x
unfolding sum_of
sum-last f [] x = omega arith
sum-last f (y ∷ xs) x = omega (arith, sum-last f xs x)

sum-most : {A : Type 0} (f : A → ℕ) (m : ℕ) → ((x : A) → f x ≤ m) → (xs : List A) → sum_of f xs ≤ length xs * m
unfolding sum_of
sum-most f m h [] = omega arith
sum-most f m h (x ∷ xs) = more m (f x) (sum_of f xs) (length xs * m) (length xs) (h x) (sum-most f m h xs) refl
  where
    more : (m a b p n : ℕ) → a ≤ m → b ≤ p → p ≡ n * m → a + b ≤ suc n * m
    more m a b p n h k e = rw (suc-mul n m, sym e) (omega arith)

pub not-over : (ws : List ℕ) → ((i : ℕ) → i < length ws → get_or ws i 0 ≤ figure_limit) → over ws ≡ false
unfolding over
not-over [] h = refl
not-over (w ∷ ws) h = rw (le-ltb figure_limit w (h 0 (omega arith))) (not-over ws (λ i l. h (suc i) (omega arith)))

-- ---- the totals after the feeds xs

record So (xs : List Fed) (ws : List ℕ) : Type 0 where
  long : length ws ≡ 60
  words : (i : ℕ) → i < 60 → get_or ws i 0 ≡ sum_of (figure i) xs
  fed : scripts ws ≡ length xs
  nodes : node_records ws ≡ sum_of accept_count xs

empty : So [] empty_totals
unfolding sum_of
empty = record { long = length-replicate {A = ℕ} 60 0; words = λ i h. get_or-replicate 60 i 0 0 h; fed = refl; nodes = refl }

module _ {xs : List Fed} {ws : List ℕ} (s : So xs ws) where
  word-most : length xs ≤ script_limit → (i : ℕ) → get_or ws i 0 ≤ figure_limit
  word-most h i = go (eq-zero-or-pos (60 - i))
    where
      go : (60 - i ≡ 0) ⊎ (0 < 60 - i) → get_or ws i 0 ≤ figure_limit
      go (inl z) = rw (get_or-eq_default ws 0 {n = i} (omega (arith, z, s.long))) (omega arith)
      go (inr z) = omega (arith, s.words i (omega (arith, z)), sum-most (figure i) 65535 (figure_small i) xs)

  open_for : length xs < script_limit → full ws ≡ false
  open_for h =
      rw (not-over ws (λ i l. word-most (omega arith) i), s.fed, lt-leb script_limit (length xs) h) refl

  shut_at : length xs ≡ script_limit → full ws ≡ true
  shut_at h = rw (not-over ws (λ i l. word-most (omega arith) i), s.fed, h) refl

  -- one more feed
  module _ (x : Fed) where
    feeds : length xs < script_limit
        → feeding ws x ≡ (Counted (judgement x), added (λ i. figure i x) ws, (read_of x).1, (read_of x).2)
    unfolding feeding
    feeds h = rw (feeding, open_for h) refl

    refuses : length xs ≡ script_limit → feeding ws x ≡ (Refused TooManyScripts 0, ws, x.scratch, x.sheet)
    unfolding feeding
    refuses h = rw (feeding, shut_at h) refl

    goes_on : So (xs ++ x ∷ []) (added (λ i. figure i x) ws)
    goes_on = record {
      long = length-added 0 (λ i. figure i x) ws ∙ s.long;
      words = λ i h. omega (
        arith,
        word-added (λ i. figure i x) ws i (omega (arith, s.long)),
        s.words i h,
        sum-last (figure i) xs x,
      );
      fed = omega (
        arith,
        sum_added 0 44 (λ i. figure i x) ws (omega (arith, s.long)),
        s.fed,
        figure_in_numbers x,
        length-append xs (x ∷ []),
      );
      nodes = omega (
        arith,
        sum_added 44 15 (λ i. figure i x) ws (omega (arith, s.long)),
        s.nodes,
        figure_in_kinds x,
        nodes_are x,
        sum-last accept_count xs x,
      );
    }

-- xs first, then ys
so_after : (xs : List Fed) (ws : List ℕ) (ys : List Fed) → So xs ws → length xs + length ys ≤ script_limit → So (xs ++ ys) (after ws ys)
unfolding after
so_after xs ws [] s h = rw (append-nil xs) s
so_after xs ws (y ∷ ys) s h =
    let e : (feeding ws y).1 ≡ added (λ i. figure i y) ws =
    ap (λ (r : FeedAnswer × List ℕ × List ℕ × List ℕ). r.1) (feeds s y (omega arith)) in
    let n = so_after (xs ++ y ∷ []) (feeding ws y).1 ys (rw e (goes_on s y)) (omega (arith, length-append xs (y ∷ []))) in
    rw (append_snoc xs y ys) at n

after_last : (ws : List ℕ) (xs : List Fed) (x : Fed) → after ws (xs ++ x ∷ []) ≡ (feeding (after ws xs) x).1
unfolding after
after_last ws [] x = refl
after_last ws (y ∷ xs) x = after_last (feeding ws y).1 xs x

-- "for every list of at most 4,096 feeds .. from empty totals"
pub morning : (xs : List Fed) → length xs ≤ script_limit → Morning xs
morning xs h = record {
  figures = record {
    long = s.long;
    accepted = s.words 0 (omega arith) ∙ sum_same (figure 0) (under 0) (figure-number 0 (omega arith)) xs;
    refused = λ r l m. s.words r (omega arith) ∙ sum_same (figure r) (under r) (figure-number r m) xs;
    kinds = λ k l. s.words (44 + k) (omega arith) ∙ sum_same (figure (44 + k)) (kind_count k) (figure-kind k l) xs;
    entries = s.words 59 (omega arith) ∙ sum_same (figure 59) entry_count figure-entries xs;
    all = s.nodes;
    most = word-most s h;
  };
  next = λ l x. feeds s x l ∙ ap (λ (ws : List ℕ). (Counted (judgement x), ws, (read_of x).1, (read_of x).2))
      (sym (after_last empty_totals xs x ∙ ap (λ (r : FeedAnswer × List ℕ × List ℕ × List ℕ). r.1) (feeds s x l)));
  last = λ l x. refuses s x l;
}
  where
    s : So xs (after empty_totals xs)
    s = so_after [] empty_totals xs empty (omega arith)
