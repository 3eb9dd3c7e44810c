-- Where a reader lands: behind what is written there.
use Prim.Native.Nat.{ℕ, ◌+◌, ◌*◌, ◌≤◌}
use mathlib.Core.List.{List, [], ◌++◌}
use mathlib.Core.Option.{Option, none, some, some-injective}
use mathlib.Core.Path.{◌≡◌, refl, sym, ◌∙◌, ap}
use native.Mathlib.Omega.{arith}
use lib.ListN.{length, drop, length-append, length-drop}
use lib.Seq.{drop-drop, drop-append_seam}
use Rattle.codec.specs.Codec.{Form}
use Rattle.ast.specs.Tree.{ValueExpr, scalar, array, KeyframeTime, KeyframeEntry}
use Rattle.sheet_decode.specs.Means.{Reads, got, bad}
use Rattle.sheet.specs.Sheet.{entry_form_of}
use Rattle.planed.specs.Planes.{fill_value, fill_entry}
use Rattle.sheet.proofs.Laws.{entry_l_of}
use Rattle.planed.proofs.TakenLaws.{entry_stays, entry-fits}
use Rattle.sheet_shape.specs.Means.{is_scalar, scalar_frame}
use Rattle.plane.specs.CarryMeans.{Gap}

-- what is read where something stands that is read back (as in records' PlaceLaws)
pub landed : {A X : Type 0} (c : Form A) {f : A → X} {s : List ℕ} {start m : ℕ} {v : X} (r rest : List ℕ)
    → start ≤ length s → drop start s ≡ r ++ rest → (b : (y : A) × (c.read (r ++ rest) ≡ some (y, rest)))
    → Reads c f s start v m → (m ≡ start + length r) × (m ≤ length s) × (f b.0 ≡ v)
landed {A} c {f} {s} {start} {m} {v} r rest h e b (got a g q i l) =
    let z : Prim.Path (Option (A × List ℕ)) (some (a, drop m s)) (some (b.0, rest)) = sym g ∙ ap c.read e ∙ b.1 in
    let p : ◌≡◌ {A = A × List ℕ} (a, drop m s) (b.0, rest) = some-injective (a, drop m s) (b.0, rest) z in
    let w : drop m s ≡ rest = ap (λ (p : A × List ℕ). p.1) p in
    let x : length (drop start s) ≡ length r + length rest = ap length e ∙ length-append r rest in
    let y : length (drop m s) ≡ length rest = ap length w in
    (omega (arith, length-drop start s, length-drop m s), l, sym (ap (λ (p : A × List ℕ). f p.0) p) ∙ q)
landed {A} c {s = s} {start = start} r rest h e b (bad o k) =
    let z : Prim.Path (Option (A × List ℕ)) none (some (b.0, rest)) = sym (k h) ∙ ap c.read e ∙ b.1 in
    let x : ◌≡◌ {A = ℕ} 0 1 = cc in
    absurd (omega arith)

-- a frame of a sheet is read back in either form, as one with the same kind of value
pub wide_back : (n : ℕ) (e : KeyframeEntry KeyframeTime) (r : List ℕ) → (entry_l_of 4 n).ok e
    → (y : KeyframeEntry KeyframeTime)
    × ((entry_form_of 4 n).read ((entry_form_of 4 n).write e ++ r) ≡ some (y, r))
    × (scalar_frame y ≡ scalar_frame e)
wide_back n e r h = (e, (entry_l_of 4 n).law.back e h r, refl)

pub narrow_back : (n : ℕ) (e : KeyframeEntry KeyframeTime) (r : List ℕ) → (entry_l_of 4 n).ok e
    → (y : KeyframeEntry KeyframeTime)
    × ((entry_form_of 0 n).read ((entry_form_of 0 n).write e ++ r) ≡ some (y, r))
    × (scalar_frame y ≡ scalar_frame e)
narrow_back n e r h = (
  fill_entry e [],
  ap (λ (l : List ℕ). (entry_form_of 0 n).read (l ++ r)) (sym (entry_stays n e []))
      ∙ (entry_l_of 0 n).law.back (fill_entry e []) (entry-fits 4 0 n e [] (λ i. refl) h) r,
  go e.value,
)
  where
    go : (v : ValueExpr) → is_scalar (fill_value v 0) ≡ is_scalar v
    go (scalar x) = refl
    go (array xs) = refl

-- what stands behind the gap, in the sheet and in its planed form
module _ {s p xs : List ℕ} {b i : ℕ} {g A B C : List ℕ} (h : Gap s p xs b i g A B C) where
  pub wide_there : drop (b + 4 * i + length g) s ≡ A
  wide_there = sym (drop-drop (length g) (b + 4 * i) s) ∙ ap (drop (length g)) h.wide ∙ drop-append_seam g A

  pub narrow_there : drop (b + length g) p ≡ B
  narrow_there = sym (drop-drop (length g) b p) ∙ ap (drop (length g)) h.narrow ∙ drop-append_seam g B
