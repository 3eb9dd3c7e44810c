-- Where a walk that carries begins: a sheet and its planed form, behind their heads.
use Prim.Native.Nat.{ℕ, ◌+◌, ◌*◌, ◌-◌, ◌≤◌, ◌<◌}
use mathlib.Core.List.{List, [], ◌∷◌, ◌++◌, append_assoc, append-nil, map}
use mathlib.Core.Option.{some}
use mathlib.Core.Path.{◌≡◌, refl, sym, ◌∙◌, ap, subst}
use native.Mathlib.Omega.{arith}
use lib.ListN.{length, drop, get_or, length-append, length-drop}
use lib.Seq.{get_or-drop}
use Rattle.codec.specs.Codec.{big, each_out}
use Rattle.ast.specs.Tree.{width}
use Rattle.sheet.specs.Sheet.{Node, Forest, sheet_of, encode, decode}
use Rattle.sheet.specs.Records.{record_as, nodes_of}
use Rattle.sheet.proofs.Laws.{Fits, decoded}
use Rattle.sheet.proofs.Flat.{concat, flat}
use Rattle.planed.specs.Planes.{numbers_of, planes_form, count, planed, unplaned}
use Rattle.planed.proofs.PlanedLaws.{length-planed, unplaned_is}
use Rattle.planed.proofs.PlaneLaws.{planes_long}
use Rattle.planed.proofs.TakenLaws.{sheet-long}
use Rattle.plane.specs.Means.{FourBytes}
use Rattle.plane.specs.CarryMeans.{Gap, Side, wide, narrow, Goal, Past, Done, InPlanes, own_numbers, records_as}
use Rattle.plane.specs.CarryMeans.{EachComing, BeforeAll, Carries}
use Rattle.plane.proofs.GapLaws.{get_d_left, get_d_right, number_planes}
use Rattle.plane.proofs.CarryLaws.{flat_numbers}
use Rattle.plane.proofs.RecordMoveLaws.{all_coming}

-- ---- lists

joined : (f : Node → List ℕ) (ns : List Node) → concat (map f ns) ≡ each_out f ns
joined f [] = refl
joined f (x ∷ ns) = ap (λ (l : List ℕ). f x ++ l) (joined f ns)

-- what stands past the bytes that are written
past_right : (f out : List ℕ) (rest numbers : ℕ) → length f ≡ rest + 4 * numbers → Past (f ++ drop (length f) out) out rest numbers
past_right f out rest numbers e x h =
    ap (λ (k : ℕ). get_or out k 0) (omega (arith, e, h)) ∙ sym (get_or-drop (length f) out (x - length f) 0)
    ∙ sym (get_d_right f (drop (length f) out) (x - length f) x (omega (arith, e, h)))

more_fours : {l f : List ℕ} {p d q e : ℕ} (g : List ℕ) → q + 3 * e < length f → FourBytes l p d f q e → FourBytes l p d (f ++ g) q e
more_fours {f = f} {q = q} {e = e} g h t = record {
  first = t.first ∙ sym (get_d_left f g q (omega (arith, h)));
  second = t.second ∙ sym (get_d_left f g (q + e) (omega (arith, h)));
  third = t.third ∙ sym (get_d_left f g (q + 2 * e) (omega (arith, h)));
  fourth = t.fourth ∙ sym (get_d_left f g (q + 3 * e) (omega (arith, h)));
}

-- ---- a tree within the limits, as a sheet with X behind it and in its planed form with Y behind that

module _ (n : ℕ) (ns : Forest) (ok : Fits n ns) (X Y : List ℕ) where
  abbrev pub wide_of : List ℕ
  wide_of = encode n ns ++ X

  abbrev pub narrow_of : List ℕ
  narrow_of = planed n ns ++ Y

  abbrev pub planes_of : List ℕ
  planes_of = (planes_form 4 (count ns)).write (numbers_of ns)

  abbrev pub stay : ℕ
  stay = length ((sheet_of 0 n).write ns)

  abbrev pub head : List ℕ
  head = (big 2).write (width ns)

  flat_at : (w : ℕ) → (sheet_of w n).write ns ≡ head ++ records_as w n (nodes_of ns)
  unfolding Fits
  flat_at w = ap (λ (l : List ℕ). head ++ l) (flat 4 w n 16 ns ok.1 ∙ joined (record_as w n) (nodes_of ns))

  numbers_at : numbers_of ns ≡ each_out own_numbers (nodes_of ns)
  numbers_at = flat_numbers ns ∙ joined own_numbers (nodes_of ns)

  pub gap : Gap wide_of narrow_of (numbers_of ns) 0 0 head (records_as 4 n (nodes_of ns) ++ X) (records_as 0 n (nodes_of ns) ++ (planes_of ++ Y))
      (each_out own_numbers (nodes_of ns))
  unfolding encode planed
  gap = record {
    wide = ap (λ (l : List ℕ). l ++ X) (flat_at 4) ∙ append_assoc head (records_as 4 n (nodes_of ns)) X;
    narrow = append_assoc ((sheet_of 0 n).write ns) planes_of Y ∙ ap (λ (l : List ℕ). l ++ (planes_of ++ Y)) (flat_at 0)
        ∙ append_assoc head (records_as 0 n (nodes_of ns)) (planes_of ++ Y);
    left = numbers_at;
  }

  sheet-size : length (encode n ns) ≡ stay + 4 * count ns
  unfolding encode Fits
  sheet-size = sheet-long n ns ok

  planed-size : length (planed n ns) ≡ stay + 4 * count ns
  planed-size = length-planed n ns ok ∙ sheet-size

  pub in_planes : InPlanes narrow_of (numbers_of ns) stay (count ns)
  unfolding planed
  in_planes j h =
      let l = length-append ((sheet_of 0 n).write ns) planes_of in
      let m = planes_long 4 (count ns) (numbers_of ns) in
      more_fours Y (omega (arith, l, m, h)) (number_planes ((sheet_of 0 n).write ns) (count ns) (numbers_of ns) j refl h)

  pub each_coming : EachComing n (nodes_of ns)
  unfolding Fits
  each_coming = all_coming n 16 ns ok.1

  pub head_inside : 2 ≤ stay
  head_inside = let e = ap length (flat_at 0) in omega (arith, e, length-append head (records_as 0 n (nodes_of ns)))

  -- from either side
  module _ {w : ℕ} {src out : List ℕ} (o : Side w src wide_of narrow_of) (long : length src ≡ stay + 4 * count ns)
      (goal : length (Goal o) ≡ length out) (room : length src ≤ length out) (so : Done o out stay (count ns) 0 0)
      (ends : 2 + length (records_as w n (nodes_of ns)) ≡ stay + w * count ns) where
    abbrev pub begins : BeforeAll w n src out (stay + w * count ns) stay (count ns)
    begins = record {
      s = wide_of;
      p = narrow_of;
      xs = numbers_of ns;
      o = o;
      pair = record { planes = in_planes; count = refl; long = long; goal_long = goal; fits = omega (arith, long, room) };
      A = X;
      B = planes_of ++ Y;
      end_is = refl;
      records = record {
        ns = nodes_of ns;
        fine = each_coming;
        ends = ends;
        at = record {
          b = 0;
          g = head;
          done_is = omega arith;
          to_is = omega arith;
          place = refl;
          inside = omega (arith, long, head_inside);
          few = omega arith;
          gap = gap;
          so = so;
        };
      };
    }

-- ---- from a sheet to its planed form

module _ (n : ℕ) (s : List ℕ) (ns : Forest) (ok : Fits n ns) (q : s ≡ encode n ns) (out : List ℕ) (room : length s ≤ length out) where
  abbrev past_wide : List ℕ
  past_wide = drop (length (planed n ns)) out

  size_wide : length s ≡ length ((sheet_of 0 n).write ns) + 4 * count ns
  size_wide = ap length q ∙ sheet-size n ns ok [] past_wide

  before_wide : (d : BeforeAll 4 n s out (length ((sheet_of 0 n).write ns) + 4 * count ns) (length ((sheet_of 0 n).write ns)) (count ns))
      × (Goal d.o ≡ planed n ns ++ past_wide)
  unfolding encode
  before_wide =
      let size = planed-size n ns ok [] past_wide in
      let o : Side 4 s (encode n ns ++ []) (planed n ns ++ past_wide) = wide refl (q ∙ sym (append-nil (encode n ns))) in
      let goal : length (planed n ns ++ past_wide) ≡ length out =
      omega (arith, length-append (planed n ns) past_wide, length-drop (length (planed n ns)) out, size, size_wide, room) in
      let ends : 2 + length (records_as 4 n (nodes_of ns)) ≡ length ((sheet_of 0 n).write ns) + 4 * count ns =
      let e = ap length (flat_at n ns ok [] past_wide 4) in
      let l = length-append ((big 2).write (width ns)) (records_as 4 n (nodes_of ns)) in
      omega (arith, e, l, sheet-size n ns ok [] past_wide) in (
        begins n ns ok [] past_wide o size_wide goal room
            (λ x h. absurd (omega arith), λ x h. absurd (omega arith), past_right (planed n ns) out _ _ size) ends,
        refl,
      )

-- ---- and back

module _ (n : ℕ) (p : List ℕ) (ns : Forest) (ok : Fits n ns) (q : p ≡ planed n ns) (out : List ℕ) (room : length p ≤ length out) where
  abbrev past_narrow : List ℕ
  past_narrow = drop (length (encode n ns)) out

  size_narrow : length p ≡ length ((sheet_of 0 n).write ns) + 4 * count ns
  size_narrow = ap length q ∙ planed-size n ns ok past_narrow []

  before_narrow : (d : BeforeAll 0 n p out (length ((sheet_of 0 n).write ns) + 0 * count ns) (length ((sheet_of 0 n).write ns)) (count ns))
      × (Goal d.o ≡ encode n ns ++ past_narrow)
  before_narrow =
      let size = sheet-size n ns ok past_narrow [] in
      let o : Side 0 p (encode n ns ++ past_narrow) (planed n ns ++ []) = narrow refl (q ∙ sym (append-nil (planed n ns))) in
      let goal : length (encode n ns ++ past_narrow) ≡ length out =
      omega (arith, length-append (encode n ns) past_narrow, length-drop (length (encode n ns)) out, size, size_narrow, room) in
      let ends : 2 + length (records_as 0 n (nodes_of ns)) ≡ length ((sheet_of 0 n).write ns) + 0 * count ns =
      let e = ap length (flat_at n ns ok past_narrow [] 0) in
      let l = length-append ((big 2).write (width ns)) (records_as 0 n (nodes_of ns)) in
      omega (arith, e, l) in (
        begins n ns ok past_narrow [] o size_narrow goal room (λ x h. absurd (omega arith), past_right (encode n ns) out _ _ size) ends,
        refl,
      )

-- ---- what bytes whose shape is known are carried to

abbrev Way : ℕ → ℕ → List ℕ → List ℕ → List ℕ → ℕ → ℕ → ℕ → Type 0
Way w n src out f end rest numbers = (d : BeforeAll w n src out end rest numbers) × (Goal d.o ≡ f ++ drop (length f) out)

put_in : {w n : ℕ} {src out : List ℕ} (f : List ℕ) {a b a' b' e e' : ℕ} → e ≡ e' → a ≡ a' → b ≡ b' → Way w n src out f e a b
    → Way w n src out f e' a' b'
put_in {w} {n} {src} {out} f {a} {b} {a'} {b'} {e} {e'} x y z h =
    subst (λ (k : ℕ). Way w n src out f e' a' k) z
    (subst (λ (k : ℕ). Way w n src out f e' k b) y (subst (λ (k : ℕ). Way w n src out f k a b) x h))

pub wide_long : (n : ℕ) (s : List ℕ) (ns : Forest) → decode n s ≡ some ns → length (planed n ns) ≡ length s
wide_long n s ns e = let d = decoded n s ns e in length-planed n ns d.fits ∙ sym (ap length d.encodes)

pub wide_before : (n : ℕ) (s : List ℕ) (ns : Forest) (rest numbers : ℕ) → decode n s ≡ some ns
    → rest ≡ length ((sheet_of 0 n).write ns) → numbers ≡ count ns → (out : List ℕ) → length s ≤ length out
    → (d : BeforeAll 4 n s out (rest + 4 * numbers) rest numbers) × (Goal d.o ≡ planed n ns ++ drop (length (planed n ns)) out)
wide_before n s ns rest numbers e x y out h =
    let d = decoded n s ns e in
    put_in (planed n ns) (omega (arith, x, y)) (sym x) (sym y)
    (before_wide n s ns d.fits d.encodes out h)

abbrev pub carries_wide : (n : ℕ) (s : List ℕ) (ns : Forest) (rest numbers : ℕ) → decode n s ≡ some ns
    → rest ≡ length ((sheet_of 0 n).write ns) → numbers ≡ count ns → Carries 4 n s (rest + 4 * numbers) rest numbers
carries_wide n s ns rest numbers e x y = record {
  target = planed n ns;
  long = wide_long n s ns e;
  before = wide_before n s ns rest numbers e x y;
}

pub narrow_long : (n : ℕ) (p : List ℕ) (ns : Forest) → unplaned n p ≡ some ns → length (encode n ns) ≡ length p
narrow_long n p ns e = let d = unplaned_is n p ns e in sym (length-planed n ns d.fits) ∙ sym (ap length d.planes)

pub narrow_before : (n : ℕ) (p : List ℕ) (ns : Forest) (rest numbers : ℕ) → unplaned n p ≡ some ns
    → rest ≡ length ((sheet_of 0 n).write ns) → numbers ≡ count ns → (out : List ℕ) → length p ≤ length out
    → (d : BeforeAll 0 n p out (rest + 0 * numbers) rest numbers) × (Goal d.o ≡ encode n ns ++ drop (length (encode n ns)) out)
narrow_before n p ns rest numbers e x y out h =
    let d = unplaned_is n p ns e in
    put_in (encode n ns) (omega (arith, x)) (sym x) (sym y) (before_narrow n p ns d.fits d.planes out h)

abbrev pub carries_narrow : (n : ℕ) (p : List ℕ) (ns : Forest) (rest numbers : ℕ) → unplaned n p ≡ some ns
    → rest ≡ length ((sheet_of 0 n).write ns) → numbers ≡ count ns → Carries 0 n p (rest + 0 * numbers) rest numbers
carries_narrow n p ns rest numbers e x y = record {
  target = encode n ns;
  long = narrow_long n p ns e;
  before = narrow_before n p ns rest numbers e x y;
}
