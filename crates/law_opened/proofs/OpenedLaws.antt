-- A text that is not refused, and the tree of a sheet that is opened.
use Prim.Native.Nat.{ℕ}
use mathlib.Core.Bool.{Bool, true, false, cond}
use mathlib.Core.List.{List}
use mathlib.Core.Option.{Option, none, some}
use mathlib.Core.Path.{◌≡◌, refl, sym, ◌∙◌, ap}
use native.Mathlib.Omega.{arith}
use lib.Dec.{ltb}
use lib.ListN.{length}
use Rattle.text.specs.Limits.{text_limit}
use Rattle.error.specs.declared.Refusal.{Refusal}
use Rattle.error.specs.declared.Refusal.TheVariants.{TextTooLong}
use Rattle.sheet.specs.Sheet.{Forest, decode}
use Rattle.sheet.specs.Opening.{foreign_from, Opened, opened, shut, decoded, unless_foreign, after_text, opening}

-- a text behind which something is opened: 1 and 2 do not refuse it, whatever comes behind
pub text-passes : (t : List ℕ) (o : Opened) (ns : Forest) → after_text t o ≡ opened ns → (x : Opened) → after_text t x ≡ x
text-passes t o ns e x = long (ltb text_limit (length t)) refl e
  where
    no : {r : Refusal} {p : ℕ} {A : Type 0} → shut r p ≡ opened ns → A
    no q = let z : ◌≡◌ {A = ℕ} 0 1 = cc in absurd (omega arith)

    foreign : (f : Option ℕ) → foreign_from 0 t ≡ f → ltb text_limit (length t) ≡ false → unless_foreign f o ≡ opened ns → after_text t x ≡ x
    foreign none f l q = rw (l, f) refl
    foreign (some i) f l q = no q

    long : (b : Bool) → ltb text_limit (length t) ≡ b → cond b (shut TextTooLong 0) (unless_foreign (foreign_from 0 t) o) ≡ opened ns
        → after_text t x ≡ x
    long true l q = no q
    long false l q = foreign (foreign_from 0 t) refl l q

decoded_opened : (o : Option Forest) (ns : Forest) → decoded o ≡ opened ns → o ≡ some ns
decoded_opened none ns e = let z : ◌≡◌ {A = ℕ} 0 1 = cc in absurd (omega arith)
decoded_opened (some ms) ns e = let z : ms ≡ ns = cc in ap some z

module _ (t s : List ℕ) (ns : Forest) (o : opening t s ≡ opened ns) where
  -- with the same text other bytes are opened by themselves
  pub opened_text : (x : List ℕ) → opening t x ≡ decoded (decode (length t) x)
  unfolding opening
  opened_text x = text-passes t (decoded (decode (length t) s)) ns o (decoded (decode (length t) x))

  pub holds_tree : decode (length t) s ≡ some ns
  holds_tree = decoded_opened (decode (length t) s) ns (sym (opened_text s) ∙ o)
