-- The walk of the converter: a record is changed, and those behind it are as they were. Then the operation's ways out.
use Prim.Native.Nat.{ℕ, ◌+◌, ◌≤◌, ◌<◌}
use mathlib.Core.Bool.{Bool, true, false, cond}
use mathlib.Core.List.{List, [], ◌∷◌, ◌++◌, map, append_assoc, append-nil}
use mathlib.Core.Option.{some-injective}
use mathlib.Core.Path.{◌≡◌, refl, sym, ◌∙◌, ap}
use native.Mathlib.Nat.{add-zero, sub-zero}
use native.Mathlib.Omega.{arith}
use borrow.Author.Tests.{ne_eqb}
use lib.Dec.{eqb}
use lib.ListN.{length, get_or, take, drop, set, length-append, length-drop, take-append-drop, get_or-append}
use lib.Seq.{get_or-drop, length-take-le, take_all, take_at, drop_at, set-append_left, take-set-le, drop-set-add}
use Rattle.codec.specs.Codec.{big, each_out}
use Rattle.ast.specs.Tree as tree
use Rattle.ast.specs.Tree.{single, holding, width}
use Rattle.sheet.specs.Sheet.{Node}
use Rattle.sheet.specs.Records.{record_of, nodes_of, all_records}
use Rattle.sheet.proofs.Flat.{concat, records_are}
use Rattle.sheet_decode.specs.Means.{Reads, same}
use Rattle.sheet_records.proofs.PlaceLaws.{Behind, behind_head, behind-next, behind-last, first, this_one}
use Rattle.sheet_refusals.specs.declared.Opening.TheVariants.{Open, Shut}
use Rattle.sheet_refusals.specs.Means.{answer_of}
use Rattle.sheet_refusals.proofs.OpenLaws.{the_tree, the-refusal}
use Rattle.error.specs.declared.Refusal.{Refusal}
use Rattle.error.specs.declared.CheckAnswer.TheVariants.{Accepted, Refused}
use Rattle.sheet.specs.Opening.{opening}
use Rattle.ast.specs.Tree.{noise}
use Rattle.converting.specs.Convert.{waveform_kind, triangle, wave_at, holds_noise, converted_record, converted_sheet, converting}
use Rattle.converting.proofs.ConvertLaws.{length_converted, head_stays, leaves, refused_stays}
use Rattle.convert.specs.Means.{IsSheet, PassesRecord, Converts}

-- ---- a record at a place

module _ (s : List ℕ) (at : ℕ) where
  kind_there : get_or (drop at s) 0 0 ≡ get_or s at 0
  kind_there = get_or-drop at s 0 0 ∙ rw add-zero refl

  -- a record of another kind holds none
  pub another_kind : (get_or s at 0 ≡ waveform_kind → ⊥) → eqb (get_or s at 0) waveform_kind ≡ holds_noise (drop at s)
  unfolding holds_noise
  another_kind h = rw (kind_there, ne_eqb (get_or s at 0) waveform_kind h) refl

  -- a waveform's does if the byte behind its start says so
  pub its_wave : get_or s at 0 ≡ waveform_kind → eqb (get_or s (at + wave_at) 0) noise ≡ holds_noise (drop at s)
  unfolding holds_noise
  its_wave h = rw (kind_there, h, get_or-drop at s wave_at 0) refl

  -- noise is overwritten
  pub overwritten : holds_noise (drop at s) ≡ true → set s (at + 3) 3 ≡ take at s ++ converted_record (drop at s)
  unfolding converted_record
  overwritten e =
      sym (take-append-drop at (set s (at + 3) 3))
      ∙ (λ i. take-set-le at s (at + 3) 3 (omega arith) i ++ drop-set-add at s 3 3 i)
      ∙ rw e refl

  -- what is no noise stays
  pub as_it_was : holds_noise (drop at s) ≡ false → s ≡ take at s ++ converted_record (drop at s)
  unfolding converted_record
  as_it_was e = sym (take-append-drop at s) ∙ rw e refl

-- ---- a record and what stands behind it

-- what stands behind it is as it was
front : (r q : List ℕ) → 4 ≤ length r → converted_record (r ++ q) ≡ converted_record r ++ q
unfolding converted_record holds_noise
front r q h =
    rw (
      get_or-append r q 0 0 (omega arith),
      get_or-append r q 0 wave_at (omega arith),
      set-append_left r q wave_at triangle (omega arith),
    )
    (go (holds_noise r))
  where
    go : (b : Bool) → cond b (set r wave_at triangle ++ q) (r ++ q) ≡ cond b (set r wave_at triangle) r ++ q
    go true = refl
    go false = refl

-- a record has its kind, its start and at least a byte more
long : (n : ℕ) (x : Node) → 4 ≤ length (record_of n x)
long n (single p (tree.tween x)) = omega arith
long n (single p (tree.spring x)) = omega arith
long n (single p (tree.keyframes x)) = omega arith
long n (single p (tree.path x)) = omega arith
long n (single p (tree.morph x)) = omega arith
long n (single p (tree.draw x)) = omega arith
long n (single p (tree.color x)) = omega arith
long n (single p (tree.waveform x)) = omega arith
long n (single p (tree.preset x)) = omega arith
long n (single p (tree.label x)) = omega arith
long n (single p (tree.at x)) = omega arith
long n (holding p tree.sequence ns) = omega arith
long n (holding p tree.parallel ns) = omega arith
long n (holding p (tree.group m) ns) = omega arith
long n (holding p (tree.stagger q d) ns) = omega arith

-- ---- the walk

-- of a sheet `before`, the records up to `end` are converted, and those of `rest` stand from there on
pub record Walked (n : ℕ) (before s : List ℕ) (end : ℕ) : Type 0 where
  pub sheet : IsSheet n before
  pub rest : List Node
  pub behind : Behind n s rest end
  pub whole : take end s ++ each_out converted_record (map (record_of n) rest) ≡ converted_sheet n sheet.tree
  pub same_size : length s ≡ length before

pub walked_start : {n : ℕ} {s : List ℕ} {c end : ℕ} → IsSheet n s → Reads (big 2) same s 0 c end → Walked n s s end
unfolding converted_sheet all_records
walked_start {n} {s} {c} {end} t r =
    let ns = t.tree in
    let w = (big 2).write (width ns) in
    let e : take end s ≡ w =
    some-injective _ _ (rw sub-zero at (this_one n s (all_records n ns) (first n s ns t.decodes r) 0 refl)) in
    record {
      sheet = t;
      rest = nodes_of ns;
      behind = behind_head ns t.decodes r;
      whole = (λ i. (e ∙ sym (head_stays (width ns))) i ++ each_out converted_record (sym (records_are n ns) i));
      same_size = refl;
    }

module _ {n : ℕ} {before s : List ℕ} {end : ℕ} (x : Walked n before s end) where
  -- the record there has the byte of a waveform's kind
  pub walked_room : end < length s → end + 3 < length s
  walked_room h = go x.rest x.behind.here
    where
      go : (xs : List Node) → drop end s ≡ concat (map (record_of n) xs) → end + 3 < length s
      go [] e = absurd (let z : length (drop end s) ≡ 0 = ap length e in omega (arith, length-drop end s))
      go (y ∷ ys) e =
          let z = ap length e in
          omega (arith, length-drop end s, long n y, length-append (record_of n y) (concat (map (record_of n) ys)))

  -- none is left
  pub walked_all : length s ≤ end → Converts n before s
  walked_all h ns d =
      sym (take_all end s h) ∙ sym (append-nil (take end s))
      ∙ ap (λ (l : List Node). take end s ++ each_out converted_record (map (record_of n) l)) (sym (behind-last x.rest x.behind h))
      ∙ x.whole
      ∙ ap (converted_sheet n) (some-injective x.sheet.tree ns (sym x.sheet.decodes ∙ d))

-- the record there is converted, and the place behind it is `next`
pub walked_next : {n : ℕ} {before s after : List ℕ} {end next : ℕ} → Walked n before s end → end < length s → PassesRecord n s end next
    → after ≡ take end s ++ converted_record (drop end s) → Walked n before after next
walked_next {n} {before} {s} {after} {end} {next} x h p e =
    let y = behind-next x.rest x.behind h p.reads in
    step y.0 y.1 y.2 y.5
  where
    step : (z : Node) (ys : List Node) → x.rest ≡ z ∷ ys → Behind n s ys next → Walked n before after next
    step z ys l b =
        let r = record_of n z in
        let q = concat (map (record_of n) ys) in
        let done = take end s ++ converted_record r in
        let there : drop end s ≡ r ++ q = x.behind.here ∙ ap (λ (xs : List Node). concat (map (record_of n) xs)) l in
        let parts : after ≡ done ++ q =
        e ∙ ap (λ (d : List ℕ). take end s ++ converted_record d) there
        ∙ ap (λ (d : List ℕ). take end s ++ d) (front r q (long n z))
        ∙ sym (append_assoc (take end s) (converted_record r) q) in
        let size : length s ≡ end + length r + length q = omega (arith, h, ap length there, length-append r q, length-drop end s) in
        let place : length done ≡ next =
        omega (
          arith,
          size,
          b.within,
          length-append (take end s) (converted_record r),
          length-take-le end s x.behind.within,
          length_converted r,
          ap length b.here,
          length-drop next s,
        ) in
        let kept : length after ≡ length s =
        omega (
          arith,
          size,
          ap length parts,
          length-append done q,
          length-append (take end s) (converted_record r),
          length-take-le end s x.behind.within,
          length_converted r,
        ) in
        let all = each_out converted_record (map (record_of n) ys) in
        record {
          sheet = x.sheet;
          rest = ys;
          behind = record {
            here = ap (drop next) parts ∙ drop_at done q next place;
            within = omega (arith, kept, b.within);
            alone = b.alone;
          };
          whole = ap (λ (d : List ℕ). take next d ++ all) parts
              ∙ ap (λ (d : List ℕ). d ++ all) (take_at done q next place)
              ∙ append_assoc (take end s) (converted_record r) all
              ∙ ap (λ (xs : List Node). take end s ++ each_out converted_record (map (record_of n) xs)) (sym l)
              ∙ x.whole;
          same_size = kept ∙ x.same_size;
        }

-- ---- the operation's ways out

module _ (t s : List ℕ) where
  pub is_refused : {r : Refusal} {p : ℕ} → Shut r p ≡ answer_of (opening t s) → (Refused r p, s) ≡ converting t s
  is_refused e = sym (refused_stays t s (the-refusal (opening t s) e))

  pub is_sheet : Open ≡ answer_of (opening t s) → IsSheet (length t) s
  is_sheet e = let o = the_tree t s e in record { tree = o.nodes; decodes = o.decodes }

  pub is_converted : {after : List ℕ} → Open ≡ answer_of (opening t s) → Converts (length t) s after → (Accepted, after) ≡ converting t s
  is_converted e h =
      let o = the_tree t s e in
      ap (λ (l : List ℕ). (Accepted, l)) (h o.nodes o.decodes) ∙ sym (leaves t s o.nodes o.opens)
