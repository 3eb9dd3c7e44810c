-- Laws of planing and its inverse, 02 (k), for every text, input and output.
use Prim.Native.Nat.{ℕ, ◌≤◌}
use mathlib.Core.Bool.{Bool, true, false, cond}
use mathlib.Core.List.{List, ◌++◌}
use mathlib.Core.Option.{Option, none, some}
use mathlib.Core.Path.{◌≡◌, refl, sym, ◌∙◌, ap, subst}
use native.Mathlib.Omega.{arith}
use borrow.Author.Tests.{le-ltb, ltb-false}
use lib.Dec.{ltb}
use lib.ListN.{length, take, drop}
use lib.Seq.{take_at}
use Rattle.text.specs.Limits.{text_limit}
use Rattle.sheet.specs.Sheet.{Forest, encode, decode}
use Rattle.sheet.specs.Opening.{foreign_from, shut, unless_foreign}
use Rattle.sheet.proofs.Laws.{decoded}
use Rattle.planed.specs.Planes.{planed, unplaned}
use Rattle.planed.proofs.PlanedLaws.{sheet_there_and_back, planed_there_and_back, none_planes, some_planes, length-planed}
use Rattle.error.specs.declared.Refusal.{Refusal}
use Rattle.error.specs.declared.Refusal.TheVariants.{NotASheet, NotPlaned, TextTooLong, OutputTooShort}
use Rattle.error.specs.declared.LineAnswer.{LineAnswer}
use Rattle.error.specs.declared.LineAnswer.TheVariants.{Accepted, Refused}
use Rattle.planed.specs.Planing.{tree_or, opened_as, answered, planing, unplaning, Plain, PlanesTo}

-- what an answer that accepts has gone through
pub record Took (t : List ℕ) (o : Option Forest) (write : Forest → List ℕ) (out : List ℕ) (k : ℕ) (after : List ℕ) : Type 0 where
  pub plain : Plain t
  pub tree : Forest
  pub is : o ≡ some tree
  pub room : length (write tree) ≤ length out
  pub long : k ≡ length (write tree)
  pub wrote : after ≡ write tree ++ drop (length (write tree)) out

refused≢ : {B : Type 0} {r : Refusal} {p k : ℕ} → Refused r p ≡ Accepted k → B
refused≢ e = let z : ◌≡◌ {A = ℕ} 0 1 = cc in absurd (omega arith)

module _ (t : List ℕ) (r : Refusal) (o : Option Forest) (write : Forest → List ℕ) (out : List ℕ) where
  abbrev answer : LineAnswer × List ℕ
  answer = answered write out (opened_as t r o)

  pub took : (k : ℕ) (after : List ℕ) → answer ≡ (Accepted k, after) → Took t o write out k after
  took k after e = go (ltb text_limit (length t)) (foreign_from 0 t) o refl refl refl e
    where
      put : (ns : Forest) (b : Bool) → ltb (length out) (length (write ns)) ≡ b
          → cond {A = LineAnswer × List ℕ} b (Refused OutputTooShort 0, out)
          (Accepted (length (write ns)), write ns ++ drop (length (write ns)) out)
          ≡ (Accepted k, after)
          → (length (write ns) ≤ length out) × (k ≡ length (write ns)) × (after ≡ write ns ++ drop (length (write ns)) out)
      put ns true h q = refused≢ (ap (λ (a : LineAnswer × List ℕ). a.0) q)
      put ns false h q = (
        ltb-false (length out) (length (write ns)) h,
        cc (ap (λ (a : LineAnswer × List ℕ). a.0) q),
        sym (ap (λ (a : LineAnswer × List ℕ). a.1) q),
      )

      go : (b : Bool) (f : Option ℕ) (x : Option Forest) → ltb text_limit (length t) ≡ b → foreign_from 0 t ≡ f → o ≡ x
          → answered write out (cond b (shut TextTooLong 0) (unless_foreign f (tree_or r x))) ≡ (Accepted k, after)
          → Took t o write out k after
      go true f x h g z q = refused≢ (ap (λ (a : LineAnswer × List ℕ). a.0) q)
      go false (some i) x h g z q = refused≢ (ap (λ (a : LineAnswer × List ℕ). a.0) q)
      go false none none h g z q = refused≢ (ap (λ (a : LineAnswer × List ℕ). a.0) q)
      go false none (some ns) h g z q =
          let p = put ns (ltb (length out) (length (write ns))) refl q in
          record { plain = record { short = h; clean = g }; tree = ns; is = z; room = p.0; long = p.1; wrote = p.2 }

  -- and what is accepted
  pub takes : (ns : Forest) → Plain t → o ≡ some ns → length (write ns) ≤ length out
      → answer ≡ (Accepted (length (write ns)), write ns ++ drop (length (write ns)) out)
  takes ns p e h = rw (p.short, p.clean, e, le-ltb (length out) (length (write ns)) h) refl

  -- r is given just where no tree stands behind the input
  pub refuses : Plain t → o ≡ none → answer ≡ (Refused r 0, out)
  refuses p e = rw (p.short, p.clean, e) refl

-- "For every sheet, back and forth gives the same bytes"
pub there_and_back : (t s out lent after : List ℕ) (k : ℕ) → planing t s out ≡ (Accepted k, after) → length s ≤ length lent
    → unplaning t (take k after) lent ≡ (Accepted (length s), s ++ drop (length s) lent)
unfolding planing unplaning
there_and_back t s out lent after k e h =
    let n = length t in
    let w = took t NotASheet (decode n s) (planed n) out k after e in
    let b = sheet_there_and_back n s w.tree w.is in
    let p : take k after ≡ planed n w.tree =
    ap (take k) w.wrote ∙ take_at (planed n w.tree) (drop (length (planed n w.tree)) out) k (sym w.long) in
    ap (λ (l : List ℕ). unplaning t l lent) p
    ∙ takes t NotPlaned (unplaned n (planed n w.tree)) (encode n) lent w.tree w.plain b.0
    (subst (λ (l : List ℕ). length l ≤ length lent) (sym b.1) h)
    ∙ ap (λ (l : List ℕ). (Accepted (length l), l ++ drop (length l) lent)) b.1

-- "for every planed input the inverse takes, forth and back does"
pub back_and_there : (t bs out lent after : List ℕ) (k : ℕ) → unplaning t bs out ≡ (Accepted k, after) → length bs ≤ length lent
    → planing t (take k after) lent ≡ (Accepted (length bs), bs ++ drop (length bs) lent)
unfolding planing unplaning
back_and_there t bs out lent after k e h =
    let n = length t in
    let w = took t NotPlaned (unplaned n bs) (encode n) out k after e in
    let b = planed_there_and_back n bs w.tree w.is in
    let p : take k after ≡ encode n w.tree =
    ap (take k) w.wrote ∙ take_at (encode n w.tree) (drop (length (encode n w.tree)) out) k (sym w.long) in
    ap (λ (l : List ℕ). planing t l lent) p
    ∙ takes t NotASheet (decode n (encode n w.tree)) (planed n) lent w.tree w.plain b.0
    (subst (λ (l : List ℕ). length l ≤ length lent) (sym b.1) h)
    ∙ ap (λ (l : List ℕ). (Accepted (length l), l ++ drop (length l) lent)) b.1

-- "40 exactly if no sheet for that text planes to those bytes"
pub not-planed_refused : (t bs out : List ℕ) → Plain t → (PlanesTo t bs → ⊥) → unplaning t bs out ≡ (Refused NotPlaned 0, out)
unfolding unplaning
not-planed_refused t bs out p h =
    refuses t NotPlaned (unplaned (length t) bs) (encode (length t)) out p (some_planes (length t) bs (λ s ns d q. h (s, ns, d, q)))

pub refused_not-planed : (t bs out : List ℕ) → (unplaning t bs out).0 ≡ Refused NotPlaned 0 → PlanesTo t bs → ⊥
unfolding unplaning
refused_not-planed t bs out e (s, ns, d, q) = go (ltb text_limit (length t)) (foreign_from 0 t) (unplaned (length t) bs) refl e
  where
    n : ℕ
    n = length t

    go : (b : Bool) (f : Option ℕ) (x : Option Forest) → unplaned n bs ≡ x
        → (answered (encode n) out (cond b (shut TextTooLong 0) (unless_foreign f (tree_or NotPlaned x)))).0 ≡ Refused NotPlaned 0 → ⊥
    go true f x z e = let z : ◌≡◌ {A = ℕ} 0 1 = cc in omega arith
    go false (some i) x z e = let z : ◌≡◌ {A = ℕ} 0 1 = cc in omega arith
    go false none none z e = none_planes n bs z s ns d q
    go false none (some ms) z e = put (ltb (length out) (length (encode n ms))) e
      where
        put : (b : Bool)
            → (cond {A = LineAnswer × List ℕ} b (Refused OutputTooShort 0, out)
            (Accepted (length (encode n ms)), encode n ms ++ drop (length (encode n ms)) out)).0
            ≡ Refused NotPlaned 0
            → ⊥
        put true e = let z : ◌≡◌ {A = ℕ} 0 1 = cc in omega arith
        put false e = let z : ◌≡◌ {A = ℕ} 0 1 = cc in omega arith

-- lengths are equal
pub as_long : (t s out after : List ℕ) (k : ℕ) → planing t s out ≡ (Accepted k, after) → k ≡ length s
unfolding planing
as_long t s out after k e =
    let n = length t in
    let w = took t NotASheet (decode n s) (planed n) out k after e in
    let d = decoded n s w.tree w.is in
    w.long ∙ length-planed n w.tree d.fits ∙ sym (ap length d.encodes)
