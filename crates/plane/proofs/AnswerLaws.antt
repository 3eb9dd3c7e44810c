-- What the two operations answer, from what their parts tell.
use Prim.Native.Nat.{ℕ, ◌+◌, ◌*◌, ◌≤◌, ◌<◌}
use mathlib.Core.Bool.{Bool, true, false, cond}
use mathlib.Core.List.{List, ◌++◌}
use mathlib.Core.Option.{Option, none, some}
use mathlib.Core.Path.{◌≡◌, refl, sym, ◌∙◌, ap}
use native.Mathlib.Omega.{arith}
use borrow.Author.Tests.{le-ltb, lt-ltb}
use lib.Dec.{ltb}
use lib.ListN.{length, drop}
use Rattle.text.specs.Limits.{text_limit}
use Rattle.sheet.specs.Sheet.{Forest, encode, decode}
use Rattle.sheet.specs.Opening.{foreign_from, unless_foreign, shut}
use Rattle.sheet_refusals.specs.Means.{text_answer, foreign_answer}
use Rattle.sheet_refusals.specs.declared.Opening.{Opening}
use Rattle.sheet_refusals.specs.declared.Opening.TheVariants.{Open, Shut}
use Rattle.planed.specs.Planes.{planed, unplaned}
use Rattle.error.specs.declared.Refusal.{Refusal}
use Rattle.error.specs.declared.Refusal.TheVariants.{TextTooLong, NotASheet, NotPlaned, OutputTooShort}
use Rattle.error.specs.declared.LineAnswer.{LineAnswer}
use Rattle.error.specs.declared.LineAnswer.TheVariants.{Accepted, Refused}
use Rattle.planed.specs.Planing.{placed, tree_or, opened_as, answered, planing, unplaning, Plain}
use Rattle.plane.specs.CarryMeans.{Carries, AllMove}
use Rattle.planed.proofs.PlaningLaws.{refuses}

abbrev Result : Type 0
Result = LineAnswer × List ℕ

-- ---- the text

open≢shut : {B : Type 0} {r : Refusal} {p : ℕ} → Open ≡ Shut r p → B
open≢shut e = let z : ◌≡◌ {A = ℕ} 0 1 = cc in absurd (omega arith)

pub open_plain : (t : List ℕ) → Open ≡ text_answer t → Plain t
unfolding text_answer
open_plain t e = go (ltb text_limit (length t)) (foreign_from 0 t) refl refl e
  where
    go : (b : Bool) (f : Option ℕ) → ltb text_limit (length t) ≡ b → foreign_from 0 t ≡ f
        → Open ≡ cond b (Shut TextTooLong 0) (foreign_answer f) → Plain t
    go true f x y e = open≢shut e
    go false none x y e = record { short = x; clean = y }
    go false (some i) x y e = open≢shut e

module _ (t : List ℕ) (r : Refusal) (o : Option Forest) (write : Forest → List ℕ) (out : List ℕ) where
  shut_first : {q : Refusal} {p : ℕ} → Shut q p ≡ text_answer t → Prim.Path Result (Refused q p, out) (answered write out (opened_as t r o))
  unfolding text_answer
  shut_first {q} {p} e = go (ltb text_limit (length t)) (foreign_from 0 t) e
    where
      go : (b : Bool) (f : Option ℕ) → Shut q p ≡ cond b (Shut TextTooLong 0) (foreign_answer f)
          → Prim.Path Result (Refused q p, out) (answered write out (cond b (shut TextTooLong 0) (unless_foreign f (tree_or r o))))
      go true f e = same e
        where
          same : {a b : Refusal} {i j : ℕ} → Shut a i ≡ Shut b j → Prim.Path Result (Refused a i, out) (Refused b j, out)
          same e = ap (λ (x : Opening). elim x as (λ y. Result) [ Open ↦ (Accepted 0, out) | Shut a i ↦ (Refused a i, out) ]) e
      go false (some i) e =
          ap (λ (x : Opening). elim x as (λ y. Result) [ Open ↦ (Accepted 0, out) | Shut a i ↦ (Refused a i, out) ]) e
      go false none e = open≢shut (sym e)

  opens : (ns : Forest) → Plain t → o ≡ some ns → placed out (write ns) ≡ answered write out (opened_as t r o)
  opens ns p e = sym (rw (p.short, p.clean, e) refl)

-- ---- what is carried

pub too_short : (src out target : List ℕ) → length target ≡ length src → length out < length src
    → Prim.Path Result (Refused OutputTooShort 0, out) (placed out target)
too_short src out target e h = sym (rw (lt-ltb (length out) (length target) (omega (arith, e, h))) refl)

pub fits : (src out target : List ℕ) → length target ≡ length src → length src ≤ length out
    → Prim.Path Result (Accepted (length src), target ++ drop (length target) out) (placed out target)
fits src out target e h =
    ap (λ (k : ℕ). (Accepted k, target ++ drop (length target) out)) (sym e)
    ∙ sym (rw (le-ltb (length out) (length target) (omega (arith, e, h))) refl)

module _ {w n : ℕ} {src out : List ℕ} {end rest numbers : ℕ} (c : Carries w n src end rest numbers) where
  pub carried_all : length src ≤ length out → {after : List ℕ} → AllMove w n src out after end rest numbers
      → Prim.Path Result (Accepted (length src), after) (placed out c.target)
  carried_all h m =
      let d = c.before out h in
      ap (λ (l : List ℕ). (Accepted (length src), l)) (m d.0 ∙ d.1) ∙ fits src out c.target c.long h

-- the planes stand within
pub planes_within : {w n : ℕ} {src : List ℕ} {end rest numbers : ℕ} → Carries w n src end rest numbers → rest + 4 * numbers ≤ length src
planes_within {src = src} c = let d = c.before src (omega arith) in omega (arith, d.0.pair.long)

-- ---- planing and its inverse

module _ (t s out : List ℕ) where
  pub plane_shut : {q : Refusal} {p : ℕ} → Shut q p ≡ text_answer t → Prim.Path Result (Refused q p, out) (planing t s out)
  unfolding planing
  plane_shut e = shut_first t NotASheet (decode (length t) s) (planed (length t)) out e

  pub plane_none : Open ≡ text_answer t → decode (length t) s ≡ none → Prim.Path Result (Refused NotASheet 0, out) (planing t s out)
  unfolding planing
  plane_none e o = sym (refuses t NotASheet (decode (length t) s) (planed (length t)) out (open_plain t e) o)

  pub plane_some : (ns : Forest) → Open ≡ text_answer t → decode (length t) s ≡ some ns → placed out (planed (length t) ns) ≡ planing t s out
  unfolding planing
  plane_some ns e o = opens t NotASheet (decode (length t) s) (planed (length t)) out ns (open_plain t e) o

  pub unplane_shut : {q : Refusal} {p : ℕ} → Shut q p ≡ text_answer t → Prim.Path Result (Refused q p, out) (unplaning t s out)
  unfolding unplaning
  unplane_shut e = shut_first t NotPlaned (unplaned (length t) s) (encode (length t)) out e

  pub unplane_none : Open ≡ text_answer t → unplaned (length t) s ≡ none → Prim.Path Result (Refused NotPlaned 0, out) (unplaning t s out)
  unfolding unplaning
  unplane_none e o = sym (refuses t NotPlaned (unplaned (length t) s) (encode (length t)) out (open_plain t e) o)

  pub unplane_some : (ns : Forest) → Open ≡ text_answer t → unplaned (length t) s ≡ some ns
      → placed out (encode (length t) ns) ≡ unplaning t s out
  unfolding unplaning
  unplane_some ns e o = opens t NotPlaned (unplaned (length t) s) (encode (length t)) out ns (open_plain t e) o
