-- All records of a sheet, carried, and the bytes behind the last number: the output is what was to be written.
use Prim.Native.Nat.{ℕ, zero, suc, ◌+◌, ◌*◌, ◌-◌, ◌≤◌, ◌<◌}
use mathlib.Core.List.{List, [], ◌∷◌, ◌++◌, append_assoc}
use mathlib.Core.Logic.{◌⊎◌, inl, inr, ⊎_elim}
use mathlib.Core.Path.{◌≡◌, refl, sym, ◌∙◌, ap, subst}
use native.Mathlib.Omega.{arith}
use lib.ListN.{length, drop, get_or, length-append, length-drop}
use lib.Seq.{ext_get_or}
use Rattle.codec.specs.Codec.{each_out}
use Rattle.sheet.specs.Sheet.{Node}
use Rattle.sheet.specs.Records.{record_as}
use Rattle.plane.specs.Means.{Right, Copies, FourBytes}
use Rattle.plane.specs.CarryMeans.{Side, wide, narrow, Goal, Pair, At, own_numbers, Coming, BeforeRecord}
use Rattle.plane.specs.CarryMeans.{RecordMoves, EachComing, records_as, Records, BeforeAll}
use Rattle.plane.proofs.MoveLaws.{four_kept}
use Rattle.plane.proofs.GapLaws.{alike}
use Rattle.plane.proofs.CarryLaws.{split}
use Rattle.plane.proofs.AtLaws.{there, within}
use Rattle.plane.proofs.FramesMoveLaws.{at_as}
use Rattle.plane.proofs.RecordMoveLaws.{record_long}

module _ {w : ℕ} {src s p : List ℕ} (o : Side w src s p) (n : ℕ) (xs out : List ℕ) (rest numbers done to i a end : ℕ) (A B : List ℕ) where
  -- the first of the records to come
  pub record Next : Type 0 where
    pub x : Node
    pub ns : List Node
    pub coming : Coming n x
    pub others : EachComing n ns
    pub ends : a + (length (record_as w n x) + length (records_as w n ns)) ≡ end
    pub at : At o xs out rest numbers done to i a (record_as 4 n x ++ (records_as 4 n ns ++ A)) (record_as 0 n x ++ (records_as 0 n ns ++ B))
        (own_numbers x ++ each_out own_numbers ns)

  -- behind the last record all numbers are carried, and the gap reaches to the end of what stays
  pub record Last : Type 0 where
    pub at : At o xs out rest numbers done to i a A B []
    pub place : a ≡ end
    pub numbers_all : i ≡ numbers
    pub rest_all : at.b + length at.g ≡ rest

module _ {w : ℕ} {src s p : List ℕ} {o : Side w src s p} {n : ℕ} {xs out : List ℕ} {rest numbers done to i a end : ℕ} {A B : List ℕ} where
  pub next_record : a < end → Records o n xs out rest numbers done to i a end A B → Next o n xs out rest numbers done to i a end A B
  next_record l r = go r.ns r.fine r.ends r.at
    where
      go : (ns : List Node) → EachComing n ns → a + length (records_as w n ns) ≡ end
          → At o xs out rest numbers done to i a (records_as 4 n ns ++ A) (records_as 0 n ns ++ B) (each_out own_numbers ns)
          → Next o n xs out rest numbers done to i a end A B
      go [] f e h = absurd (omega arith)
      go (x ∷ ns) f e h = record {
        x = x;
        ns = ns;
        coming = f.0;
        others = f.1;
        ends = ap (λ (k : ℕ). a + k) (sym (length-append (record_as w n x) (records_as w n ns))) ∙ e;
        at = at_as (append_assoc (record_as 4 n x) (records_as 4 n ns) A) (append_assoc (record_as 0 n x) (records_as 0 n ns) B) refl h;
      }

  abbrev pub before_record : Pair o xs rest numbers (length out)
      → (k : Next o n xs out rest numbers done to i a end A B)
      → BeforeRecord w n src out rest numbers done to i a
  before_record q k = record {
    s = s;
    p = p;
    xs = xs;
    o = o;
    pair = q;
    x = k.x;
    A = records_as 4 n k.ns ++ A;
    B = records_as 0 n k.ns ++ B;
    C = each_out own_numbers k.ns;
    coming = k.coming;
    at = k.at;
  }

  -- the reader's place behind it
  behind : (k : Next o n xs out rest numbers done to i a end A B) {after : List ℕ} {done' to' i' m : ℕ}
      → At o xs after rest numbers done' to' i' m (records_as 4 n k.ns ++ A) (records_as 0 n k.ns ++ B) (each_out own_numbers k.ns)
      → m ≡ a + length (record_as w n k.x)
  behind k {after} {done'} {to'} {i'} {m} h = go o k.at h
    where
      go : (c : Side w src s p)
          → At c xs out rest numbers done to i a (record_as 4 n k.x ++ (records_as 4 n k.ns ++ A))
          (record_as 0 n k.x ++ (records_as 0 n k.ns ++ B)) (own_numbers k.x ++ each_out own_numbers k.ns)
          → At c xs after rest numbers done' to' i' m (records_as 4 n k.ns ++ A) (records_as 0 n k.ns ++ B) (each_out own_numbers k.ns)
          → m ≡ a + length (record_as w n k.x)
      go (wide e q) f g =
          let r = record_as 4 n k.x in
          let t = records_as 4 n k.ns ++ A in
          let u = within src a (r ++ t) (there (wide e q) f) f.inside in
          let v = within src m t (there (wide e q) g) g.inside in
          let z : length r ≡ length (record_as w n k.x) = ap (λ (j : ℕ). length (record_as j n k.x)) (sym e) in
          omega (arith, u, v, z, length-append r t)
      go (narrow e q) f g =
          let r = record_as 0 n k.x in
          let t = records_as 0 n k.ns ++ B in
          let u = within src a (r ++ t) (there (narrow e q) f) f.inside in
          let v = within src m t (there (narrow e q) g) g.inside in
          let z : length r ≡ length (record_as w n k.x) = ap (λ (j : ℕ). length (record_as j n k.x)) (sym e) in
          omega (arith, u, v, z, length-append r t)

  pub next_moved : (k : Next o n xs out rest numbers done to i a end A B) {after : List ℕ} {done' to' i' m : ℕ}
      → At o xs after rest numbers done' to' i' m (records_as 4 n k.ns ++ A) (records_as 0 n k.ns ++ B) (each_out own_numbers k.ns)
      → Records o n xs after rest numbers done' to' i' m end A B
  next_moved k h = record { ns = k.ns; fine = k.others; ends = omega (arith, k.ends, behind k h); at = h }

  -- the walk goes on
  pub next-further : (k : Next o n xs out rest numbers done to i a end A B) {after : List ℕ} {done' to' i' m : ℕ}
      → At o xs after rest numbers done' to' i' m (records_as 4 n k.ns ++ A) (records_as 0 n k.ns ++ B) (each_out own_numbers k.ns)
      → a < m
  next-further k h = omega (arith, behind k h, record_long w n k.x)

  -- ---- behind the last record

  pub last_record : Pair o xs rest numbers (length out) → end ≡ rest + w * numbers → end ≤ a
      → Records o n xs out rest numbers done to i a end A B → Last o n xs out rest numbers done to i a end A B
  last_record q e l r = go r.ns r.ends r.at
    where
      go : (ns : List Node) → a + length (records_as w n ns) ≡ end
          → At o xs out rest numbers done to i a (records_as 4 n ns ++ A) (records_as 0 n ns ++ B) (each_out own_numbers ns)
          → Last o n xs out rest numbers done to i a end A B
      go [] z h =
          let c : i ≡ numbers = let y : length (drop i xs) ≡ 0 = ap length h.gap.left in
          omega (arith, length-drop i xs, y, h.few, q.count) in
          let m = ap (λ (k : ℕ). w * k) c in
          record {
            at = h;
            place = omega (arith, z);
            numbers_all = c;
            rest_all = omega (arith, z, e, m, h.place, h.done_is);
          }
      go (x ∷ ns) z h = absurd (omega (arith, z, l, length-append (record_as w n x) (records_as w n ns), record_long w n x))

  module _ (q : Pair o xs rest numbers (length out)) (k : Last o n xs out rest numbers done to i a end A B) where
    pub tail_needs : (done ≤ end) × (end ≤ length src) × (to + (end - done) ≤ length out)
    tail_needs =
        let h = k.at in
        let m = ap (λ (j : ℕ). w * j) k.numbers_all in (
          omega (arith, k.place, h.place),
          omega (arith, k.place, h.inside),
          omega (arith, k.place, h.place, h.to_is, k.numbers_all, k.rest_all, m, q.fits),
        )

-- ---- what stands behind the last number is copied

below_or : (x y : ℕ) → (x < y) ⊎ (y ≤ x)
below_or x zero = inr (omega arith)
below_or zero (suc y) = inl (omega arith)
below_or (suc x) (suc y) = ⊎_elim (λ l. inl (up x y l)) (λ l. inr (over x y l)) (below_or x y)
  where
    up : (x y : ℕ) → x < y → suc x < suc y
    up x y h = omega arith

    over : (x y : ℕ) → y ≤ x → suc y ≤ suc x
    over x y h = omega arith

-- a place of the planes is one of a number's four
in_planes : {f after : List ℕ} (rest numbers : ℕ) → ((x : ℕ) → x < numbers → FourBytes after (rest + x) numbers f (rest + x) numbers)
    → (x : ℕ) → rest ≤ x → x < rest + 4 * numbers → Right f after x
in_planes {f} {after} rest numbers h x l u =
    ⊎_elim (λ c. at 0 (x - rest) (omega (arith, l, c)) (omega (arith, l, c)) (λ t. t.first))
    (λ c. ⊎_elim (λ d. at 1 (x - rest - numbers) (omega (arith, l, c, d)) (omega (arith, l, c, d)) (λ t. t.second))
    (λ d. ⊎_elim (λ e. at 2 (x - rest - 2 * numbers) (omega (arith, l, d, e)) (omega (arith, l, d, e)) (λ t. t.third))
    (λ e. at 3 (x - rest - 3 * numbers) (omega (arith, l, u, e)) (omega (arith, l, u, e)) (λ t. t.fourth))
    (below_or x (rest + 3 * numbers)))
    (below_or x (rest + 2 * numbers)))
    (below_or x (rest + numbers))
  where
    plane : ℕ → ℕ → ℕ
    plane zero j = rest + j
    plane (suc zero) j = rest + j + numbers
    plane (suc (suc zero)) j = rest + j + 2 * numbers
    plane (suc (suc (suc k))) j = rest + j + 3 * numbers

    at : (k j : ℕ) → j < numbers → plane k j ≡ x
        → (FourBytes after (rest + j) numbers f (rest + j) numbers → Right f after (plane k j)) → Right f after x
    at k j c e g = subst (Right f after) e (g (h j c))

finish : {w : ℕ} {src s p xs out : List ℕ} (o : Side w src s p) {rest numbers done to i a : ℕ} {A B : List ℕ} (after : List ℕ) (k : ℕ)
    (h : At o xs out rest numbers done to i a A B []) → Pair o xs rest numbers (length out) → i ≡ numbers → h.b + length h.g ≡ rest
    → k ≡ length h.g → Copies src done out to k after → after ≡ Goal o
finish {w = w} {src = src} {s = s} {p = p} {out = out} (wide e q) {rest} {numbers} {done} {to} {i} after k h x c d l f =
    let z = ap (λ (v : ℕ). v * i) e in
    let place : done ≡ h.b + 4 * i = omega (arith, h.done_is, z) in
    let there : to ≡ h.b = omega (arith, h.to_is, z) in
    let y = f p (λ m t. ap (λ (v : List ℕ). get_or v (done + m) 0) q ∙ ap (λ (v : ℕ). get_or s (v + m) 0) place
    ∙ alike h.gap m (omega (arith, t, l)) ∙ ap (λ (v : ℕ). get_or p (v + m) 0) (sym there)) in
    let right : (j : ℕ) → Right p after j =
    λ j. ⊎_elim (λ t. ⊎_elim (λ u. y.0.keeps j (h.so.0 j u))
    (λ u. subst (Right p after) (omega (arith, there, u.2)) (y.1 u.0 u.1)) (split h.b j k (omega (arith, t, d, l))))
    (λ t. ⊎_elim (in_planes rest numbers (λ v g. four_kept y.0 (h.so.1 v (omega (arith, g, c)))) j t)
    (λ u. y.0.keeps j (h.so.2 j u)) (below_or j (rest + 4 * numbers))) (below_or j rest) in
    ext_get_or 0 after p (y.0.same_length ∙ sym x.goal_long) (λ j t. right j)
finish {w = w} {src = src} {s = s} {p = p} {out = out} (narrow e q) {rest} {numbers} {done} {to} {i} after k h x c d l f =
    let z = ap (λ (v : ℕ). v * i) e in
    let place : done ≡ h.b = omega (arith, h.done_is, z) in
    let there : to ≡ h.b + 4 * i = omega (arith, h.to_is, z) in
    let y = f s (λ m t. ap (λ (v : List ℕ). get_or v (done + m) 0) q ∙ ap (λ (v : ℕ). get_or p (v + m) 0) place
    ∙ sym (alike h.gap m (omega (arith, t, l))) ∙ ap (λ (v : ℕ). get_or s (v + m) 0) (sym there)) in
    let right : (j : ℕ) → Right s after j =
    λ j. ⊎_elim (λ t. ⊎_elim (λ u. y.0.keeps j (h.so.0 j u))
    (λ u. subst (Right s after) (omega (arith, there, u.2)) (y.1 u.0 u.1)) (split (h.b + 4 * i) j k (omega (arith, t, d, l, c))))
    (λ t. y.0.keeps j (h.so.1 j t)) (below_or j (rest + 4 * numbers)) in
    ext_get_or 0 after s (y.0.same_length ∙ sym x.goal_long) (λ j t. right j)

pub finished : {w : ℕ} {src s p : List ℕ} {o : Side w src s p} {n : ℕ} {xs out : List ℕ} {rest numbers done to i a end : ℕ} {A B : List ℕ}
    (after : List ℕ) → Pair o xs rest numbers (length out)
    → (k : Last o n xs out rest numbers done to i a end A B)
    → Copies src done out to (end - done) after → after ≡ Goal o
finished {o = o} after q k f =
    finish o after _ k.at q k.numbers_all k.rest_all (omega (arith, k.place, k.at.place)) f

-- ---- in a loop over the records

pub pair_as : {w : ℕ} {src s p xs : List ℕ} {o : Side w src s p} {rest numbers k m : ℕ} → m ≡ k → Pair o xs rest numbers k
    → Pair o xs rest numbers m
pair_as e q = record {
  planes = q.planes;
  count = q.count;
  long = q.long;
  goal_long = q.goal_long ∙ sym e;
  fits = omega (arith, q.fits, e);
}

module _ {w n : ℕ} {src lent : List ℕ} {end rest numbers : ℕ} (d : BeforeAll w n src lent end rest numbers) {out : List ℕ} {done to i a : ℕ}
    (e : length out ≡ length lent) (r : Records d.o n d.xs out rest numbers done to i a end d.A d.B) where
  pub here : Pair d.o d.xs rest numbers (length out)
  here = pair_as e d.pair

  module _ (l : a < end) where
    pub next : Next d.o n d.xs out rest numbers done to i a end d.A d.B
    next = next_record l r

    abbrev pub ready : BeforeRecord w n src out rest numbers done to i a
    ready = before_record here next

    module _ {after : List ℕ} {done' to' i' m : ℕ} (moves : RecordMoves w n src out after rest numbers done to i a done' to' i' m) where
      pub moved : Records d.o n d.xs after rest numbers done' to' i' m end d.A d.B
      moved = next_moved next (moves ready)

      pub further : a < m
      further = next-further next (moves ready)

  module _ (l : end ≤ a) where
    done_all : Last d.o n d.xs out rest numbers done to i a end d.A d.B
    done_all = last_record here d.end_is l r

    pub tail : (done ≤ end) × (end ≤ length src) × (to + (end - done) ≤ length out)
    tail = tail_needs here done_all

    pub ended : {after : List ℕ} → Copies src done out to (end - done) after → after ≡ Goal d.o
    ended {after} f = finished after here done_all f
