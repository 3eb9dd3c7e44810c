-- A walk that looks for a record: where the records of a sheet begin, and what each step of the walk keeps.
use Prim.Native.Nat.{ℕ, zero, suc, ◌+◌, ◌-◌, ◌≤◌, ◌<◌}
use mathlib.Core.Bool.{Bool, true, false}
use mathlib.Core.List.{List, [], ◌∷◌, ◌++◌}
use mathlib.Core.Option.{Option, none, some}
use mathlib.Core.Path.{◌≡◌, refl, sym, ◌∙◌, ap, subst}
use native.Mathlib.Numerals.{add-one}
use native.Mathlib.Omega.{arith}
use borrow.Author.Tests.{eq-eqb, ne_eqb, eqb-true, eqb-false}
use lib.Dec.{eqb}
use lib.ListN.{length, take, drop, get_elem?, length-append, length-drop}
use lib.Seq.{drop-drop, drop-append_seam}
use Rattle.text.specs.Words.{is_some}
use Rattle.codec.specs.Codec.{big}
use Rattle.codec.proofs.Laws.{All}
use Rattle.sheet.specs.Sheet.{Node, Forest, decode}
use Rattle.sheet.specs.Records.{records_of, nodes_of, all_records}
use Rattle.sheet.proofs.Laws.{Fits, decoded}
use Rattle.sheet.proofs.Flat.{concat, records_are, sheet_flat}
use Rattle.sheet_decode.specs.Means.{Lost, Reads, same}
use Rattle.sheet_records.specs.Means.{record_form, record_in, begins, Seeks, pass, WalksAll}
use Rattle.sheet_records.proofs.PlaceLaws.{Alone, Stands, all_alone, alone_records, drop-next, first, next, no_more, this_one}
use Rattle.sheet_records.proofs.WalkLaws.{too_long}

-- ---- where records begin

at-begins : (k : ℕ) (rs : List (List ℕ)) → drop (begins k rs) (concat rs) ≡ concat (drop k rs)
unfolding begins
at-begins zero rs = refl
at-begins (suc k) [] = refl
at-begins (suc k) (r ∷ rs) =
    sym (drop-drop (begins k rs) (length r) (r ++ concat rs)) ∙ ap (drop (begins k rs)) (drop-append_seam r (concat rs)) ∙ at-begins k rs

begins-next : (k : ℕ) (rs : List (List ℕ)) {q : List ℕ} {qs : List (List ℕ)}
    → drop k rs ≡ q ∷ qs → begins (suc k) rs ≡ begins k rs + length q
unfolding begins
begins-next zero [] e = absurd (let z : 0 ≡ suc _ = ap length e in omega arith)
begins-next zero (r ∷ rs) {q} e = let z : r ≡ q = cc in let y = ap length z in omega arith
begins-next (suc k) [] e = absurd (let z : 0 ≡ suc _ = ap length e in omega arith)
begins-next (suc k) (r ∷ rs) e = let z = begins-next k rs e in omega arith

begins-within : (k : ℕ) (rs : List (List ℕ)) → begins k rs ≤ length (concat rs)
unfolding begins
begins-within zero rs = omega arith
begins-within (suc k) [] = omega arith
begins-within (suc k) (r ∷ rs) = omega (arith, begins-within k rs, length-append r (concat rs))

all_drop : (P : List ℕ → Type 0) (k : ℕ) (rs : List (List ℕ)) → All P rs → All P (drop k rs)
all_drop P zero rs h = h
all_drop P (suc k) [] h = tt
all_drop P (suc k) (r ∷ rs) h = all_drop P k rs h.1

module _ (n : ℕ) (s : List ℕ) (ns : Forest) (e : decode n s ≡ some ns) where
  flat : s ≡ concat (all_records n ns)
  unfolding all_records Fits
  flat = let d = decoded n s ns e in d.encodes ∙ sheet_flat n ns d.fits

  nodes_alone : (k : ℕ) → All (Alone n) (drop (k + 1) (all_records n ns))
  unfolding all_records Fits
  nodes_alone k =
      rw add-one
      (all_drop (Alone n) k (records_of n ns)
      (rw (records_are n ns) (alone_records n (nodes_of ns) (all_alone n 16 ns (decoded n s ns e).fits.1))))

  -- each record stands from where it begins to where the next one does
  stands_at : (k : ℕ) → k < length (all_records n ns)
      → Stands n s (all_records n ns) k (begins k (all_records n ns)) (begins (suc k) (all_records n ns))
  stands_at k h = go (drop k (all_records n ns)) refl
    where
      go : (l : List (List ℕ)) → drop k (all_records n ns) ≡ l
          → Stands n s (all_records n ns) k (begins k (all_records n ns)) (begins (suc k) (all_records n ns))
      go [] q = absurd (let z : length (drop k (all_records n ns)) ≡ 0 = ap length q in omega (arith, length-drop k (all_records n ns)))
      go (r ∷ l) q = record {
        this = r;
        those = l;
        listed = q;
        here = ap (drop (begins k (all_records n ns))) flat ∙ at-begins k (all_records n ns) ∙ ap concat q;
        long = begins-next k (all_records n ns) q;
        within = let z = ap length flat in omega (arith, begins-within (suc k) (all_records n ns));
        alone = subst (All (Alone n)) (drop-next (all_records n ns) k q) (nodes_alone k);
      }

  -- ---- the steps of a walk

  -- behind a record that stands there, so many being left
  seeks_behind : {ordinal start m left : ℕ} (k : ℕ) → Stands n s (all_records n ns) k start m → start ≡ begins k (all_records n ns)
      → suc k + left ≡ ordinal → Seeks n s ns ordinal m left m
  seeks_behind k t b c = record {
    last = k;
    listed = let z = ap length t.listed in omega (arith, length-drop k (all_records n ns));
    count = c;
    behind = let z = begins-next k (all_records n ns) t.listed in omega (arith, t.long);
    here = λ h l. refl;
  }

  -- the head is passed
  pub seeks_head : {c m ordinal left' from' : ℕ} (from : ℕ) → 0 < ordinal → Reads (big 2) same s 0 c m
      → (left', from') ≡ pass m ordinal from → Seeks n s ns ordinal m left' from'
  unfolding begins
  seeks_head {m = m} {ordinal = ordinal} {left' = left'} {from' = from'} from h r p =
      let z : Prim.Path (ℕ × ℕ) (left', from') (ordinal - 1, m) = p ∙ (rw (ne_eqb ordinal 0 (λ q. omega arith))) in
      let l : left' ≡ ordinal - 1 = ap (λ (p : ℕ × ℕ). p.0) z in
      let f : from' ≡ m = ap (λ (p : ℕ × ℕ). p.1) z in
      rw (l, f) (seeks_behind 0 (first n s ns e r) refl (omega arith))

  module _ {ordinal at left from : ℕ} (k : Seeks n s ns ordinal at left from) where
    -- the last record counted
    counted : Stands n s (all_records n ns) k.last (begins k.last (all_records n ns)) from
    counted = rw k.behind (stands_at k.last k.listed)

    -- a record is passed
    pub seeks_pass : {X : Type 0} {f : Node → X} {v : X} {m left' from' : ℕ} → at < length s → Reads (record_form n) f s at v m
        → (left', from') ≡ pass m left from → Seeks n s ns ordinal m left' from'
    seeks_pass {f = view} {v = v} {m = m} {left' = left'} {from' = from'} h r p = go (eqb left 0) refl
      where
        go : (b : Bool) → eqb left 0 ≡ b → Seeks n s ns ordinal m left' from'
        go true q =
            let z : Prim.Path (ℕ × ℕ) (left', from') (left, from) = p ∙ (rw q) in
            let l : left' ≡ left = ap (λ (p : ℕ × ℕ). p.0) z in
            let f : from' ≡ from = ap (λ (p : ℕ × ℕ). p.1) z in
            rw (l, f) (record {
              last = k.last;
              listed = k.listed;
              count = k.count;
              behind = k.behind;
              here = λ i o. absurd (omega (arith, eqb-true left 0 q));
            })
        go false q =
            let z : Prim.Path (ℕ × ℕ) (left', from') (left - 1, m) = p ∙ (rw q) in
            let l : left' ≡ left - 1 = ap (λ (p : ℕ × ℕ). p.0) z in
            let f : from' ≡ m = ap (λ (p : ℕ × ℕ). p.1) z in
            let o : 0 < left = omega (arith, eqb-false left 0 q) in
            let i : at ≡ from = k.here (omega arith) o in
            let r' : Reads (record_form n) view s from v m = rw (← i) r in
            let t = next n s (all_records n ns) counted (rw (← i) h) r' in
            rw (l, f) (seeks_behind (k.last + 1) t (rw add-one k.behind) (omega (arith, k.count)))

    -- the walk is lost
    pub seeks_lost : {m : ℕ} → Lost s m → Seeks n s ns ordinal m left from
    seeks_lost o = record {
      last = k.last;
      listed = k.listed;
      count = k.count;
      behind = k.behind;
      here = λ i l. absurd (omega arith);
    }

    -- ---- the walk's end

    pub none_there : length s ≤ from → none ≡ get_elem? (all_records n ns) ordinal
    none_there h = no_more n s (all_records n ns) counted ordinal h (omega (arith, k.count))

    pub stands_there : {X : Type 0} {f : Node → X} {v : X} {m : ℕ} → at ≡ length s → from < length s → Reads (record_form n) f s from v m
        → some (take (m - from) (drop from s)) ≡ get_elem? (all_records n ns) ordinal
    stands_there i h r = this_one n s (all_records n ns) (next n s (all_records n ns) counted h r) ordinal (last_one left refl)
      where
        last_one : (l : ℕ) → l ≡ left → ordinal ≡ k.last + 1
        last_one zero q = omega (arith, k.count)
        last_one (suc l) q = absurd (let z = k.here (omega arith) (omega arith) in omega arith)

  pub head_there : (o : ℕ) → o ≡ 0 → some (take 2 (drop 0 s)) ≡ get_elem? (all_records n ns) o
  unfolding begins all_records
  head_there = this_one n s (all_records n ns) (stands_at 0 (omega arith))

-- ---- a sheet or not

-- too long for one
pub no_walk : (n : ℕ) (s : List ℕ) {ordinal m left from : ℕ} → 65535 < length s → Lost s m → WalksAll n s ordinal m left from
no_walk n s {m = m} h o =
    let d = too_long n s h in
    let out : m ≡ length s → ⊥ = λ e. omega arith in
    record {
      decides = ne_eqb m (length s) out ∙ d;
      seeks = λ ns e p. let q : false ≡ true = d ∙ ap is_some e in let z : ◌≡◌ {A = ℕ} 0 1 = cc in absurd (omega arith);
    }

module _ {n : ℕ} {s : List ℕ} {ordinal m left from : ℕ} (w : WalksAll n s ordinal m left from) where
  pub no_sheet : (m ≡ length s → ⊥) → none ≡ record_in n ordinal (decode n s)
  no_sheet h = go (decode n s) (sym (ne_eqb m (length s) h) ∙ w.decides)
    where
      go : (o : Option Forest) → false ≡ is_some o → none ≡ record_in n ordinal o
      go none q = refl
      go (some ns) q = let z : ◌≡◌ {A = ℕ} 0 1 = cc in absurd (omega arith)

  pub a_sheet : m ≡ length s → (ns : Forest) × (decode n s ≡ some ns)
  a_sheet h = go (decode n s) refl (sym (eq-eqb m (length s) h) ∙ w.decides)
    where
      go : (o : Option Forest) → decode n s ≡ o → true ≡ is_some o → (ns : Forest) × (decode n s ≡ some ns)
      go none e q = let z : ◌≡◌ {A = ℕ} 0 1 = cc in absurd (omega arith)
      go (some ns) e q = (ns, e)

-- what is found in a sheet
pub in_sheet : (n ordinal : ℕ) {o : Option Forest} {ns : Forest} {f : Option (List ℕ)}
    → o ≡ some ns → f ≡ get_elem? (all_records n ns) ordinal
    → some f ≡ record_in n ordinal o
in_sheet n ordinal e q = ap some q ∙ sym (ap (record_in n ordinal) e)
