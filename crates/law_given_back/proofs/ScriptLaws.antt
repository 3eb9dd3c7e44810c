-- The fresh script of a sheet's tree reads to that tree, and no text does where there is none.
use Prim.Native.Nat.{ℕ}
use mathlib.Core.Bool.{Bool, true, false, true≢false}
use mathlib.Core.List.{List}
use mathlib.Core.Logic.{◌↔◌}
use mathlib.Core.Option.{some}
use mathlib.Core.Path.{◌≡◌, refl, sym, ◌∙◌}
use lib.ListN.{length}
use Rattle.digits.specs.Fewest.{form}
use Rattle.ast.specs.Tree.{KeyframeTime}
use Rattle.sheet.specs.Sheet.{Forest, decode}
use Rattle.law_rules.specs.Bare.{NoExponent}
use Rattle.fresh.specs.Meaning.{Sense, sense}
use Rattle.fresh.specs.Fresh.{script, has_text}
use Rattle.fresh.specs.Reads.{ReadsTo}
use Rattle.law_writable.proofs.Nesting.{decoded_nests}
use Rattle.law_writable.proofs.Exact.{script-reads, written_exactly}

false_of : (b : Bool) → (b ≡ true → ⊥) → b ≡ false
false_of true f = absurd (f refl)
false_of false f = refl

-- ns is the tree of the sheet s for the text t
module _ (t s : List ℕ) (ns : Forest) (e : decode (length t) s ≡ some ns) where
  abbrev meant : Sense
  meant = sense (λ (k : KeyframeTime). k) t ns

  pub script_back : has_text form meant ≡ true → ReadsTo (script form meant) meant
  script_back h = script-reads form meant (decoded_nests t (length t) s ns e) h

  pub no_text : (has_text form meant ≡ false) ↔ ((u : List ℕ) → ReadsTo u meant → NoExponent u → ⊥)
  no_text =
      let exact = written_exactly meant (decoded_nests t (length t) s ns e) in (
        λ h u r b. true≢false (sym (exact.1 (u, (r, b))) ∙ h),
        λ f. false_of (has_text form meant) (λ h. let r = exact.0 h in f r.0 r.1.0 r.1.1),
      )
