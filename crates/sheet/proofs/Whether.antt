-- What it means that bytes are a sheet: some tree within the limits encodes to them, and they are at most 65,535.
use Prim.Native.Nat.{ℕ, ◌≤◌}
use mathlib.Core.Bool.{true}
use mathlib.Core.List.{List}
use mathlib.Core.Option.{Option, none, some}
use mathlib.Core.Path.{◌≡◌, refl, ◌∙◌, ap, subst}
use native.Mathlib.Omega.{arith}
use lib.ListN.{length}
use Rattle.text.specs.Words.{is_some}
use Rattle.sheet.specs.Sheet.{Forest, decode}
use Rattle.sheet.proofs.Laws.{Decoded, decoded, decodes}

pub some_tree : (n : ℕ) (bs : List ℕ) → is_some (decode n bs) ≡ true → (ns : Forest) × Decoded n bs ns
some_tree n bs e = go (decode n bs) refl e
  where
    go : (o : Option Forest) → decode n bs ≡ o → is_some o ≡ true → (ns : Forest) × Decoded n bs ns
    go none p q = let z : ◌≡◌ {A = ℕ} 0 1 = cc in absurd (omega arith)
    go (some ns) p q = (ns, decoded n bs ns p)

pub a_sheet : (n : ℕ) (bs : List ℕ) (ns : Forest) → Decoded n bs ns → is_some (decode n bs) ≡ true
a_sheet n bs ns d =
    ap (λ (l : List ℕ). is_some (decode n l)) d.encodes
    ∙ ap is_some (decodes n ns d.fits (subst (λ (l : List ℕ). length l ≤ 65535) d.encodes d.short))
