-- Whether bytes are a sheet, or a planed one, by one walk over them.
use Rattle.std.proofs.Common.{◌≡◌, ℕ, suc, ◌+◌, ◌-◌, ◌*◌, ◌<◌, ◌≤◌, Bool, cond, List, [], ◌∷◌, ◌++◌, length, get_or, drop, sym, refl, ap, ◌∙◌, subst, append-nil, arith, length-append, length-drop, drop_of_length-le, get_or-drop, le-ltb, lt-ltb}
use mathlib.Core.Option.{Option, none, some, some-injective}
use Rattle.codec.proofs.Laws.{All}
use Rattle.sheet.specs.Sheet.{Forest, sheet, encode, decode, whole}
use Rattle.sheet.proofs.Laws.{Fits, sheet_lawful, decoded, decodes}
use Rattle.sheet_decode.specs.Means.{Reads, got, bad}
use Rattle.sheet.specs.Sheet.{sheet_of}
use Rattle.planed.specs.Planes.{numbers_of, count, filled, planes_form, planed_form, planed, unplaned}
use Rattle.sheet.proofs.Laws.{inner_l_of}
use Rattle.planed.proofs.FillLaws.{count-filled}
use Rattle.planed.proofs.TakenLaws.{stays, sheet-long, sheet_room}
use Rattle.planed.proofs.PlaneLaws.{planes_some, planes_long}
use Rattle.planed.proofs.PlanedLaws.{planed_front, unplaned_is}
use Rattle.sheet_shape.specs.Means.{wrapped, tally}

none≢some : {A B : Type 0} {a : A} → Prim.Path (Option A) none (some a) → B
none≢some e = let z : ◌≡◌ {A = ℕ} 0 1 = cc in absurd (omega arith)

-- a tree with what stays of its sheet and the count of its numbers
abbrev pub Sized : ℕ → Option Forest → ℕ → ℕ → Type 0
Sized n o rest t = (ns : Forest) × (o ≡ some ns) × (rest ≡ length ((sheet_of 0 n).write ns)) × (t ≡ count ns)

too_long : {A : Type 0} (l : ℕ) (o : Option A) → 65535 < l → cond {A = Option A} (lib.Dec.ltb 65535 l) none o ≡ none
too_long {A} l o h = ap (λ (b : Bool). cond {A = Option A} b none o) (lt-ltb 65535 l h)

module _ (n : ℕ) (s : List ℕ) where
  pub sheet_too_long : 65535 < length s → decode n s ≡ none
  unfolding decode
  sheet_too_long h = too_long (length s) (whole ((sheet n).read s)) h

  pub planed_too_long : 65535 < length s → unplaned n s ≡ none
  unfolding unplaned
  planed_too_long h = too_long (length s) (whole ((planed_form n).read s)) h

  -- ---- a sheet

  module _ {t m : ℕ} (short : length s ≤ 65535) (r : Reads (sheet_of 4 n) tally s 0 t m) where
    pub sheet_of_lem : m ≡ length s → Sized n (decode n s) (length s - 4 * t) t × (4 * t ≤ length s)
    unfolding tally encode Fits
    sheet_of_lem h = go r
      where
        go : Reads (sheet_of 4 n) tally s 0 t m → Sized n (decode n s) (length s - 4 * t) t × (4 * t ≤ length s)
        go (got ns e q a l) =
            let f = (inner_l_of 4 n 17).law.forth s (ns, drop m s) e in
            let z : drop m s ≡ [] = drop_of_length-le s {i = m} (omega arith) in
            let w : s ≡ (sheet_of 4 n).write ns = f.0
            ∙ ap (λ (l : List ℕ). (sheet_of 4 n).write ns ++ l) z
            ∙ append-nil ((sheet_of 4 n).write ns)
            in
            let v : s ≡ encode n ns = w in
            let long = sheet-long n ns f.1 in
            let k = ap length w in
            let c : t ≡ count ns = fits (count ns) t (omega (arith, long, k, short)) q in (
              (
                ns,
                ap (decode n) v ∙ decodes n ns f.1 (subst (λ (l : List ℕ). length l ≤ 65535) v short),
                omega (arith, long, k, c),
                c,
              ),
              omega (arith, long, k, c),
            )
          where
            fits : (c t : ℕ) → c ≤ 65535 → wrapped c ≡ t → t ≡ c
            fits c t h q = omega arith
        go (bad o k) = absurd (omega arith)

    pub no_sheet : (m ≡ length s → ⊥) → decode n s ≡ none
    unfolding encode
    no_sheet h = go (decode n s) refl
      where
        go : (o : Option Forest) → decode n s ≡ o → o ≡ none
        go none e = refl
        go (some ns) e =
            let d = decoded n s ns e in
            let x : (sheet_of 4 n).read s ≡ some (ns, []) =
            ap (λ (l : List ℕ). (sheet n).read l) (d.encodes ∙ sym (append-nil (encode n ns)))
            ∙ (sheet_lawful n).back ns d.fits [] in
            absurd (ends r x)
          where
            ends : Reads (sheet_of 4 n) tally s 0 t m → (sheet_of 4 n).read s ≡ some (ns, []) → ⊥
            ends (got a g q i l) x =
                let p = some-injective (a, drop m s) (ns, []) (sym g ∙ x) in
                let z : length (drop m s) ≡ 0 = ap (λ (p : Forest × List ℕ). length p.1) p in
                h (omega (arith, length-drop m s))
            ends (bad o k) x = none≢some (sym (k (omega arith)) ∙ x)

  -- ---- a planed sheet

  module _ {t m : ℕ} (short : length s ≤ 65535) (r : Reads (sheet_of 0 n) tally s 0 t m) where
    pub planed_of : m ≤ length s → length s - m ≡ 4 * t → All (λ b. b < 256) (drop m s) → Sized n (unplaned n s) m t
    unfolding tally unplaned
    planed_of h g bytes = go r
      where
        fits : (c t : ℕ) → c ≤ 65535 → wrapped c ≡ t → t ≡ c
        fits c t h q = omega arith

        go : Reads (sheet_of 0 n) tally s 0 t m → Sized n (unplaned n s) m t
        go (got ms e q a l) =
            let f = (inner_l_of 0 n 17).law.forth s (ms, drop m s) e in
            let k = ap length f.0 ∙ length-append ((sheet_of 0 n).write ms) (drop m s) in
            let d = length-drop m s in
            let c : t ≡ count ms = fits (count ms) t (omega (arith, sheet_room 0 n ms f.1, k, short)) q in
            let (xs, u, e₁, l₁, b) = planes_some 4 (count ms) (drop m s) (omega (arith, d, g, c)) bytes in
            let z : u ≡ [] = empty u (omega (arith, d, g, c, l₁)) in
            let ns = filled ms xs in (
              ns,
              rw (le-ltb 65535 (length s) short) (ap whole (read e (e₁ ∙ ap (λ (v : List ℕ). some (xs, v)) z))),
              omega (arith, k, d, ap length (stays n ms xs)),
              c ∙ sym (count-filled ms xs),
            )
          where
            empty : (u : List ℕ) → length u ≡ 0 → u ≡ []
            empty [] h = refl
            empty (x ∷ u) h = absurd (omega arith)

            read : {xs : List ℕ} → (sheet_of 0 n).read s ≡ some (ms, drop m s) → (planes_form 4 (count ms)).read (drop m s) ≡ some (xs, [])
                → (planed_form n).read s ≡ some (filled ms xs, [])
            read e e₁ = rw (e, e₁)
        go (bad o k) = absurd (omega arith)

    pub no_planed : (m ≤ length s → length s - m ≡ 4 * t → ⊥) → unplaned n s ≡ none
    unfolding tally planed
    no_planed h = go (unplaned n s) refl
      where
        fits : (c d t : ℕ) → c ≤ 65535 → d ≡ c → wrapped d ≡ t → t ≡ c
        fits c d t h e q = omega arith

        go : (o : Option Forest) → unplaned n s ≡ o → o ≡ none
        go none e = refl
        go (some ns) e =
            let d = unplaned_is n s ns e in
            absurd (ends d r (ap (λ (l : List ℕ). (sheet_of 0 n).read l) d.planes ∙ planed_front n ns d.fits))
          where
            P : List ℕ
            P = (planes_form 4 (count ns)).write (numbers_of ns)

            ends : Rattle.planed.proofs.PlanedLaws.Planed n s ns → Reads (sheet_of 0 n) tally s 0 t m
                → (sheet_of 0 n).read s ≡ some (filled ns [], P) → ⊥
            ends d (got a g q i l) x =
                let p = some-injective (a, drop m s) (filled ns [], P) (sym g ∙ x) in
                let z : length (drop m s) ≡ length P = ap (λ (p : Forest × List ℕ). length p.1) p in
                let y = planes_long 4 (count ns) (numbers_of ns) in
                let k : count a ≡ count ns = ap (λ (p : Forest × List ℕ). count p.0) p ∙ count-filled ns [] in
                let j = length-drop m s in
                let c : t ≡ count ns = fits (count ns) (count a) t (omega (arith, z, y, j, short)) k q in
                h l (omega (arith, z, y, j, c))
            ends d (bad o k) x = none≢some (sym (k (omega arith)) ∙ x)

-- each of some bytes
pub all-bytes : (bs : List ℕ) → ((i : ℕ) → get_or bs i 0 < 256) → All (λ b. b < 256) bs
all-bytes [] h = tt
all-bytes (b ∷ bs) h = (h 0, all-bytes bs (λ i. h (suc i)))

pub left_bytes : (m : ℕ) (bs : List ℕ) → ((i : ℕ) → get_or bs i 0 < 256) → All (λ b. b < 256) (drop m bs)
left_bytes m bs h = all-bytes (drop m bs) (λ i. subst (λ (x : ℕ). x < 256) (sym (get_or-drop m bs i 0)) (h (m + i)))
