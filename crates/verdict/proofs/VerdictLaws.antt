-- Demand 3 of the two answers, and their values, by cases of reading's.
use Prim.Native.Nat.{ℕ}
use mathlib.Core.List.{List}
use mathlib.Core.Path.{◌≡◌, ap, sym, ◌∙◌}
use native.Mathlib.Omega.{arith}
use lib.ListN.{length, take}
use Rattle.error.specs.declared.Refusal.{Refusal}
use Rattle.error.specs.declared.ReadAnswer.TheVariants as read
use Rattle.error.specs.declared.CheckAnswer.{CheckAnswer}
use Rattle.reading.specs.Reading.{reading, outcome}
use Rattle.checking.specs.Checking.{checking}
use Rattle.script.proofs.Closed.{claim}
use Rattle.verdict.specs.Verdict.{Claims, both_answers, verdict_values}
use Rattle.verdict.specs.declared.Verdict.TheVariants.{Unread, Checked}

module _ (list : ℕ) (t scratch sheet words s : List ℕ) where
  pub unread : (r : Refusal) (p : ℕ)
      → outcome (read.Refused r p) words s ≡ reading t scratch sheet
      → Claims list t (length scratch) (length sheet) s (Unread r p)
  unread r p e known v =
      claim list known t scratch sheet (read.Refused r p, words, s) v e (λ n c k q. absurd (let z : ◌≡◌ {A = ℕ} 0 1 = cc in omega arith))

  pub checked : (n c k : ℕ) (v : CheckAnswer) → outcome (read.Accepted n c k) words s ≡ reading t scratch sheet
      → v ≡ checking list t (take n s)
      → Claims list t (length scratch) (length sheet) s (Checked n c k v)
  checked n c k v e f known =
      claim list known t scratch sheet (read.Accepted n c k, words, s) v e (λ m d j q. let z : n ≡ m = cc in rw (sym z) f)

  pub unread_values : (r : Refusal) (p : ℕ) → outcome (read.Refused r p) words s ≡ reading t scratch sheet
      → verdict_values (Unread r p) ≡ verdict_values (both_answers list t (reading t scratch sheet))
  unread_values r p e = ap (λ x. verdict_values (both_answers list t x)) e

  pub checked_values : (n c k : ℕ) (v : CheckAnswer) → outcome (read.Accepted n c k) words s ≡ reading t scratch sheet
      → v ≡ checking list t (take n s)
      → verdict_values (Checked n c k v) ≡ verdict_values (both_answers list t (reading t scratch sheet))
  checked_values n c k v e f = ap (λ a. verdict_values (Checked n c k a)) f ∙ ap (λ x. verdict_values (both_answers list t x)) e
