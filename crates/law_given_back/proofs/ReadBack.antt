-- 02 (f), the two laws on writing.
use Prim.Native.Nat.{ℕ, ◌-◌, ◌≤◌}
use mathlib.Core.Bool.{Bool, true, false, ◌||◌, cond}
use mathlib.Core.List.{List, ◌++◌}
use mathlib.Core.Option.{Option, none, some}
use mathlib.Core.Path.{◌≡◌, refl, sym, ap, ◌∙◌, subst}
use native.Mathlib.Omega.{arith}
use borrow.Author.Tests.{ltb-false}
use lib.Dec.{ltb}
use lib.ListN.{length, take, replicate}
use lib.Seq.{take_at}
use Rattle.text.specs.Limits.{text_limit}
use Rattle.digits.specs.Fewest.{form}
use Rattle.sheet.specs.Sheet.{Forest, decode}
use Rattle.checking.specs.Checking.{checking}
use Rattle.error.specs.declared.Refusal.{Refusal}
use Rattle.error.specs.declared.Refusal.TheVariants.{Unwritable, ScriptTooLong}
use Rattle.error.specs.declared.CheckAnswer.{CheckAnswer}
use Rattle.error.specs.declared.CheckAnswer.TheVariants as check
use Rattle.error.specs.declared.LineAnswer.{LineAnswer}
use Rattle.error.specs.declared.LineAnswer.TheVariants.{Accepted, Refused}
use Rattle.fresh.specs.Meaning.{Sense}
use Rattle.fresh.specs.Fresh.{script, has_text}
use Rattle.fresh.specs.Reads.{ReadsTo}
use Rattle.writing.specs.Back.{refusal, fitted, written, sense_of, of_tree, of_verdict, writing}
use Rattle.law_given_back.specs.ReadBack.{ReadBack, NoText, Exactly34}
use Rattle.law_given_back.proofs.ReadLaws.{parses_to, reads_to, given}
use Rattle.law_given_back.proofs.ScriptLaws.{script_back, no_text}
use Rattle.law_converted.proofs.RefusalLaws.{never_unwritable}

-- ---- answers

abbrev Written : Type 0
Written = LineAnswer × List ℕ

accepts_not : {A : Type 0} {r : Refusal} {p n : ℕ} {a b : List ℕ} → Prim.Path Written (Refused r p, a) (Accepted n, b) → A
accepts_not e = let q = ap (λ (w : Written). w.0) e in absurd (let z : ◌≡◌ {A = ℕ} 0 1 = cc in omega arith)

-- ---- the read-back

-- the script stands at the start of the buffer, and is short
record Stands (u : List ℕ) (n : ℕ) (after : List ℕ) : Type 0 where
  is : take n after ≡ u
  short : length u ≤ text_limit

or_false : (a b : Bool) → (a || b) ≡ false → a ≡ false
or_false true b e = e
or_false false b e = refl

stands : (out u : List ℕ) (n : ℕ) (after : List ℕ) → fitted out u ≡ (Accepted n, after) → Stands u n after
stands out u n after e = go (ltb text_limit (length u) || ltb (length out) (length u)) refl e
  where
    zeros : List ℕ
    zeros = replicate (length out - length u) 0

    go : (b : Bool) → (ltb text_limit (length u) || ltb (length out) (length u)) ≡ b
        → cond {A = Written} b (refusal ScriptTooLong 0 out) (Accepted (length u), u ++ zeros) ≡ (Accepted n, after)
        → Stands u n after
    go true q e = accepts_not e
    go false q e =
        let a = ap (λ (w : Written). w.0) e in
        let b = ap (λ (w : Written). w.1) e in
        let n-is : length u ≡ n = cc in
        record {
          is = subst (λ (l : List ℕ). take n l ≡ u) b (take_at u zeros n n-is);
          short = ltb-false text_limit (length u) (or_false (ltb text_limit (length u)) (ltb (length out) (length u)) q);
        }

-- a pair that writing accepts, and the fresh script u
pub record Fresh (list : ℕ) (t s u : List ℕ) : Type 0 where
  pub checks : checking list t s ≡ check.Accepted
  pub tree : Forest
  pub decodes : decode (length t) s ≡ some tree
  pub reads : ReadsTo u (sense_of t tree)
  pub short : length u ≤ text_limit

module _ (list : ℕ) (t s out : List ℕ) (n : ℕ) (after : List ℕ) where
  of_tree_lem : checking list t s ≡ check.Accepted → (ns : Forest) → decode (length t) s ≡ some ns
      → written out (sense_of t ns) ≡ (Accepted n, after) → Fresh list t s (take n after)
  of_tree_lem c ns d e = go (has_text form (sense_of t ns)) refl e
    where
      go : (b : Bool) → has_text form (sense_of t ns) ≡ b
          → cond {A = Written} b (fitted out (script form (sense_of t ns))) (refusal Unwritable 0 out) ≡ (Accepted n, after)
          → Fresh list t s (take n after)
      go true q e =
          let x = stands out (script form (sense_of t ns)) n after e in
          record {
            checks = c;
            tree = ns;
            decodes = d;
            reads = subst (λ (u : List ℕ). ReadsTo u (sense_of t ns)) (sym x.is) (script_back t s ns d q);
            short = subst (λ (u : List ℕ). length u ≤ text_limit) (sym x.is) x.short;
          }
      go false q e = accepts_not e

  pub fresh : writing list t s out ≡ (Accepted n, after) → Fresh list t s (take n after)
  unfolding writing
  fresh e = on (checking list t s) refl e
    where
      at : checking list t s ≡ check.Accepted → (o : Option Forest) → decode (length t) s ≡ o → of_tree t out o ≡ (Accepted n, after)
          → Fresh list t s (take n after)
      at c none d e = accepts_not e
      at c (some ns) d e = of_tree_lem c ns d e

      on : (v : CheckAnswer) → checking list t s ≡ v → of_verdict t s out v ≡ (Accepted n, after) → Fresh list t s (take n after)
      on (check.Refused r p) c e = accepts_not e
      on check.Accepted c e = at c (decode (length t) s) refl e

pub read_back : ReadBack
read_back list t s out n after e =
    let f = fresh list t s out n after e in
    record { tree = f.tree; decodes = f.decodes; reads = given f.short f.reads }

-- ---- 34

fitted-not : (out u : List ℕ) (p : ℕ) → (fitted out u).0 ≡ Refused Unwritable p → ⊥
fitted-not out u p e = go (ltb text_limit (length u) || ltb (length out) (length u)) e
  where
    go : (b : Bool)
        → (cond {A = Written} b (refusal ScriptTooLong 0 out) (Accepted (length u), u ++ replicate (length out - length u) 0)).0
        ≡ Refused Unwritable p → ⊥
    go true e = let z : ◌≡◌ {A = ℕ} 0 1 = cc in omega arith
    go false e = let z : ◌≡◌ {A = ℕ} 0 1 = cc in omega arith

module _ (list : ℕ) (t s out : List ℕ) where
  none_at : (ns : Forest) → checking list t s ≡ check.Accepted → decode (length t) s ≡ some ns → (p : ℕ)
      → (written out (sense_of t ns)).0 ≡ Refused Unwritable p → NoText list t s
  none_at ns c d p e = go (has_text form (sense_of t ns)) refl e
    where
      go : (b : Bool) → has_text form (sense_of t ns) ≡ b
          → (cond {A = Written} b (fitted out (script form (sense_of t ns))) (refusal Unwritable 0 out)).0 ≡ Refused Unwritable p
          → NoText list t s
      go true q e = absurd (fitted-not out (script form (sense_of t ns)) p e)
      go false q e = record {
        checks = c;
        tree = ns;
        decodes = d;
        never = λ u ms k h same b. (no_text t s ns d).0 q u (subst (λ (x : Sense). ReadsTo u x) same (reads_to u ms k h)) b;
      }

  only_where : (p : ℕ) → (writing list t s out).0 ≡ Refused Unwritable p → NoText list t s
  unfolding writing
  only_where p e = on (checking list t s) refl e
    where
      at : checking list t s ≡ check.Accepted → (o : Option Forest) → decode (length t) s ≡ o
          → (of_tree t out o).0 ≡ Refused Unwritable p → NoText list t s
      at c none d e = absurd (let z : ◌≡◌ {A = ℕ} 0 1 = cc in omega arith)
      at c (some ns) d e = none_at ns c d p e

      on : (v : CheckAnswer) → checking list t s ≡ v → (of_verdict t s out v).0 ≡ Refused Unwritable p → NoText list t s
      on (check.Refused r q) c e =
          let z : r ≡ Unwritable = cc in absurd (never_unwritable list t s q (c ∙ ap (λ (x : Refusal). check.Refused x q) z))
      on check.Accepted c e = at c (decode (length t) s) refl e

  pub exactly_34 : Exactly34 list t s out
  unfolding writing
  exactly_34 = record {
    only = only_where;
    whenever = λ h. rw (
      h.checks,
      h.decodes,
      (no_text t s h.tree h.decodes).1 (λ u r b. h.never u r.tree r.notes.rounded (parses_to r) r.same b),
    );
  }
