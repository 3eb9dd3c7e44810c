-- A planed sheet is another form of the same trees: reading undoes writing, only what writing gives is read, and it is as long as the
-- sheet.
use Prim.Native.Nat.{ℕ, zero, suc, ◌≤◌}
use mathlib.Core.Bool.{Bool, true, false, cond}
use mathlib.Core.List.{List, [], ◌∷◌, ◌++◌, append_assoc, append-nil}
use mathlib.Core.Option.{Option, none, some, some-injective}
use mathlib.Core.Path.{◌≡◌, refl, sym, ◌∙◌, ap, subst}
use native.Mathlib.Omega.{arith}
use borrow.Author.Tests.{eqb-true, le-ltb, ltb-false}
use lib.Dec.{ltb, eqb}
use lib.ListN.{length, length-append, get_or}
use Rattle.codec.specs.Codec.{and_then, step}
use Rattle.codec.proofs.Laws.{Lawful, Small, All, inverse}
use Rattle.sheet.specs.Sheet.{Forest, encode, decode, whole}
use Rattle.sheet.proofs.Laws.{Fits, decoded, decodes}
use Rattle.sheet.specs.Sheet.{sheet_of}
use Rattle.planed.specs.Planes.{numbers_of, count, filled, planes_form, planed_form, planed, unplaned}
use Rattle.sheet.proofs.Laws.{inner_l_of}
use Rattle.planed.proofs.FillLaws.{put_back, numbers_put, count-filled}
use Rattle.planed.proofs.TakenLaws.{stays, filled-fits, nodes_small, sheet-long}
use Rattle.planed.proofs.PlaneLaws.{planes_lawful, planes_long}

small_at : (xs : List ℕ) → All (Small 4) xs → (i : ℕ) → Small 4 (get_or xs i 0)
small_at [] h i = refl
small_at (x ∷ xs) h zero = h.0
small_at (x ∷ xs) h (suc i) = small_at xs h.1 i

-- ---- there and back

module _ (n : ℕ) where
  planed_back : (ns : Forest) → Fits n ns → (r : List ℕ) → (planed_form n).read ((planed_form n).write ns ++ r) ≡ some (ns, r)
  unfolding Fits
  planed_back ns h r =
      let zs = filled ns [] in
      let P = (planes_form 4 (count ns)).write (numbers_of ns) in
      let g : Forest → List ℕ → Option (Forest × List ℕ) =
      λ ms. step (planes_form 4 (count ms)).read (λ xs bs. some (filled ms xs, bs)) in
      let k : List ℕ → ℕ → Option (Forest × List ℕ) =
      λ bs c. and_then ((planes_form 4 c).read bs) (λ xs rs. some (filled zs xs, rs)) in
      ap (λ (l : List ℕ). (planed_form n).read l) (append_assoc ((sheet_of 0 n).write ns) P r)
      ∙ ap (λ (l : List ℕ). (planed_form n).read (l ++ (P ++ r))) (sym (stays n ns []))
      ∙ ap (λ (q : Option (Forest × List ℕ)). and_then q g)
      ((inner_l_of 0 n 17).law.back zs (filled-fits 4 0 n ns [] (λ i. refl) h) (P ++ r))
      ∙ ap (k (P ++ r)) (count-filled ns [])
      ∙ ap (λ (q : Option (List ℕ × List ℕ)). and_then q (λ xs rs. some (filled zs xs, rs)))
      ((planes_lawful 4 (count ns)).back (numbers_of ns) (refl, nodes_small 4 n 16 ns h.1) r)
      ∙ ap {B = Option (Forest × List ℕ)} (λ (ms : Forest). some (ms, r))
      (ap (filled zs) (sym (append-nil (numbers_of ns))) ∙ put_back ns [] [])

  planed_forth : (bs : List ℕ) (z : Forest × List ℕ) → (planed_form n).read bs ≡ some z
      → (bs ≡ (planed_form n).write z.0 ++ z.1) × Fits n z.0
  unfolding Fits
  planed_forth bs z e =
      let (y, o, e₁) = inverse ((sheet_of 0 n).read bs) (λ ms. step (planes_form 4 (count ms)).read (λ xs rs. some (filled ms xs, rs))) z e in
      let (x, o₁, e₂) = inverse ((planes_form 4 (count y.0)).read y.1) (λ xs rs. some (filled y.0 xs, rs)) z e₁ in
      let f = (inner_l_of 0 n 17).law.forth bs y o in
      let g = (planes_lawful 4 (count y.0)).forth y.1 x o₁ in
      let ms = y.0 in
      let xs = x.0 in
      subst (λ (w : Forest × List ℕ). (bs ≡ (planed_form n).write w.0 ++ w.1) × Fits n w.0)
      (some-injective (filled ms xs, x.1) z e₂) (
        f.0
            ∙ ap (λ (l : List ℕ). (sheet_of 0 n).write ms ++ l) g.0
            ∙ sym (append_assoc ((sheet_of 0 n).write ms) ((planes_form 4 (count ms)).write xs) x.1)
            ∙ sym (λ i. (stays n ms xs i ++ (planes_form 4 (count ms)).write (numbers_put ms xs g.1.0 i)) ++ x.1),
        filled-fits 0 4 n ms xs (small_at xs g.1.1) f.1,
      )

  pub planed_lawful : Lawful (planed_form n) (Fits n)
  planed_lawful = record { back = planed_back; forth = planed_forth }

-- the first part alone, and the planes behind it
pub planed_front : (n : ℕ) (ns : Forest) → Fits n ns
    → (sheet_of 0 n).read (planed n ns) ≡ some (filled ns [], (planes_form 4 (count ns)).write (numbers_of ns))
unfolding planed Fits
planed_front n ns h =
    ap (λ (l : List ℕ). (sheet_of 0 n).read (l ++ (planes_form 4 (count ns)).write (numbers_of ns))) (sym (stays n ns []))
    ∙ (inner_l_of 0 n 17).law.back (filled ns []) (filled-fits 4 0 n ns [] (λ i. refl) h)
    ((planes_form 4 (count ns)).write (numbers_of ns))

-- ---- lengths

pub length-planed : (n : ℕ) (ns : Forest) → Fits n ns → length (planed n ns) ≡ length (encode n ns)
unfolding planed encode Fits
length-planed n ns h =
    let a = sheet-long n ns h in
    let b = planes_long 4 (count ns) (numbers_of ns) in
    let c = length-append ((sheet_of 0 n).write ns) ((planes_form 4 (count ns)).write (numbers_of ns)) in
    omega (arith, a, b, c)

-- ---- the whole input

none≢some : {A B : Type 0} {a : A} → Prim.Path (Option A) none (some a) → B
none≢some e = let z : ◌≡◌ {A = ℕ} 0 1 = cc in absurd (omega arith)

no_bytes : (bs : List ℕ) → eqb (length bs) 0 ≡ true → bs ≡ []
no_bytes [] e = refl
no_bytes (b ∷ bs) e = absurd (let z = eqb-true (suc (length bs)) 0 e in omega arith)

whole_of : {A : Type 0} (o : Option (A × List ℕ)) (a : A) → whole o ≡ some a → (r : A × List ℕ) × (o ≡ some r) × (r.0 ≡ a) × (r.1 ≡ [])
whole_of none a e = none≢some e
whole_of {A = A} (some r) a e = go (eqb (length r.1) 0) refl e
  where
    go : (b : Bool) → eqb (length r.1) 0 ≡ b
        → cond {A = Option A} b (some r.0) none ≡ some a
        → (q : A × List ℕ) × (some r ≡ some q) × (q.0 ≡ a) × (q.1 ≡ [])
    go true p q = (r, refl, some-injective r.0 a q, no_bytes r.1 p)
    go false p q = none≢some q

pub unplanes : (n : ℕ) (ns : Forest) → Fits n ns → length (planed n ns) ≤ 65535 → unplaned n (planed n ns) ≡ some ns
unfolding planed unplaned
unplanes n ns h g =
    rw (le-ltb 65535 (length ((planed_form n).write ns)) g)
    (ap whole
    (ap (λ (l : List ℕ). (planed_form n).read l) (sym (append-nil ((planed_form n).write ns))) ∙ (planed_lawful n).back ns h []))

-- the bytes are the planed form of a sheet
pub record Planed (n : ℕ) (bs : List ℕ) (ns : Forest) : Type 0 where
  pub short : length bs ≤ 65535
  pub planes : bs ≡ planed n ns
  pub fits : Fits n ns

pub unplaned_is : (n : ℕ) (bs : List ℕ) (ns : Forest) → unplaned n bs ≡ some ns → Planed n bs ns
unfolding planed unplaned
unplaned_is n bs ns e = go (ltb 65535 (length bs)) refl e
  where
    go : (b : Bool) → ltb 65535 (length bs) ≡ b
        → cond {A = Option Forest} b none (whole ((planed_form n).read bs)) ≡ some ns
        → Planed n bs ns
    go true p q = none≢some q
    go false p q =
        let (r, o, x, y) = whole_of ((planed_form n).read bs) ns q in
        let f = (planed_lawful n).forth bs r o in
        record {
          short = ltb-false 65535 (length bs) p;
          planes = f.0
              ∙ ap (λ (l : List ℕ). (planed_form n).write r.0 ++ l) y
              ∙ append-nil ((planed_form n).write r.0) ∙ ap (planed_form n).write x;
          fits = subst (Fits n) x f.1;
        }

-- ---- sheets and planed sheets

module _ (n : ℕ) where
  -- for every sheet, back and forth gives the same bytes
  pub sheet_there_and_back : (s : List ℕ) (ns : Forest) → decode n s ≡ some ns → (unplaned n (planed n ns) ≡ some ns) × (encode n ns ≡ s)
  sheet_there_and_back s ns e =
      let d = decoded n s ns e in
      let l = ap length d.encodes in
      (unplanes n ns d.fits (omega (arith, length-planed n ns d.fits, d.short)), sym d.encodes)

  -- for every planed input that the inverse takes, forth and back does
  pub planed_there_and_back : (bs : List ℕ) (ns : Forest) → unplaned n bs ≡ some ns
      → (decode n (encode n ns) ≡ some ns) × (planed n ns ≡ bs)
  planed_there_and_back bs ns e =
      let d = unplaned_is n bs ns e in
      let l = ap length d.planes in
      (decodes n ns d.fits (omega (arith, length-planed n ns d.fits, d.short)), sym d.planes)

  -- none is unplaned exactly if no sheet planes to the bytes
  pub none_planes : (bs : List ℕ) → unplaned n bs ≡ none → (s : List ℕ) (ns : Forest) → decode n s ≡ some ns → planed n ns ≡ bs → ⊥
  none_planes bs e s ns d p = none≢some (sym e ∙ ap (unplaned n) (sym p) ∙ (sheet_there_and_back s ns d).0)

  pub some_planes : (bs : List ℕ) → ((s : List ℕ) (ns : Forest) → decode n s ≡ some ns → planed n ns ≡ bs → ⊥) → unplaned n bs ≡ none
  some_planes bs h = go (unplaned n bs) refl
    where
      go : (o : Option Forest) → unplaned n bs ≡ o → o ≡ none
      go none e = refl
      go (some ns) e = let p = planed_there_and_back bs ns e in absurd (h (encode n ns) ns p.0 p.1)
