-- 02 (h): only the kind of a waveform of noise changes.
use Prim.Native.Nat.{ℕ, ◌+◌, ◌-◌, ◌≤◌, ◌<◌}
use mathlib.Core.Bool.{Bool, true, false, ◌&&◌, cond, true≢false}
use mathlib.Core.List.{List, [], ◌∷◌, ◌++◌}
use mathlib.Core.Logic.{◌⊎◌, inl, inr, ⊎_elim}
use mathlib.Core.Path.{◌≡◌, refl, sym, ◌∙◌, ap, subst}
use native.Mathlib.Omega.{arith}
use native.Mathlib.Nat.{eq-zero-or-pos}
use borrow.Author.Tests.{eqb-true, eqb-false}
use lib.Dec.{eqb}
use lib.ListN.{length, get_or, set, length-append, get_or-append}
use lib.Seq.{get_or-append-add, get_or-set_same, get_or-set_other}
use Rattle.error.specs.declared.CheckAnswer.TheVariants.{Accepted}
use Rattle.codec.specs.Codec.{big, each_out}
use Rattle.codec.proofs.Laws.{All}
use Rattle.ast.specs.Tree as tree
use Rattle.ast.specs.Tree.{Nodes, KeyframeTime, WaveformSpec, Leaf, Container, leaf, box, single, holding, width}
use Rattle.sheet.specs.Sheet.{Forest}
use Rattle.sheet.specs.Records.{record_of, records_of, all_records}
use Rattle.sheet.specs.Opening.{opened, opening}
use Rattle.sheet.proofs.Flat.{concat}
use Rattle.law_opened.proofs.OpenedLaws.{holds_tree}
use Rattle.ast.specs.Tree.{noise}
use Rattle.converting.specs.Convert.{waveform_kind, triangle, wave_at, holds_noise, converted_record, converted_sheet, converting}
use Rattle.converting.specs.Kept.{NoiseAt, Kept}
use Rattle.converting.proofs.ConvertLaws.{length_converted, leaves, is_records, as_long, converts}

-- ---- a record

-- a byte is as it was; or the record holds noise, and the byte is the one that says so
in_record : (r : List ℕ) (i : ℕ) → i < length r → (get_or (converted_record r) i 0 ≡ get_or r i 0) ⊎ ((holds_noise r ≡ true) × (i ≡ wave_at))
unfolding converted_record
in_record r i h = go (holds_noise r) (eqb i wave_at) refl refl
  where
    go : (b c : Bool) → holds_noise r ≡ b → eqb i wave_at ≡ c
        → (get_or (cond b (set r wave_at triangle) r) i 0 ≡ get_or r i 0) ⊎ ((holds_noise r ≡ true) × (i ≡ wave_at))
    go false c e d = inl refl
    go true true e d = inr (e, eqb-true i wave_at d)
    go true false e d = inl (get_or-set_other r wave_at i triangle 0 (eqb-false i wave_at d))

-- which is noise, and becomes triangle
the-noise : (r : List ℕ) → holds_noise r ≡ true → (get_or r wave_at 0 ≡ noise) × (get_or (converted_record r) wave_at 0 ≡ triangle)
unfolding converted_record holds_noise
the-noise r h = (is, rw h (get_or-set_same r wave_at triangle 0 (inside r is)))
  where
    second : (a b : Bool) → (a && b) ≡ true → b ≡ true
    second true b e = e
    second false b e = absurd (true≢false (sym e))

    is : get_or r wave_at 0 ≡ noise
    is = eqb-true (get_or r wave_at 0) noise (second (eqb (get_or r 0 0) waveform_kind) (eqb (get_or r wave_at 0) noise) h)

    inside : (r : List ℕ) → get_or r wave_at 0 ≡ noise → wave_at < length r
    inside [] e = absurd (omega (arith, e))
    inside (a ∷ []) e = absurd (omega (arith, e))
    inside (a ∷ b ∷ []) e = absurd (omega (arith, e))
    inside (a ∷ b ∷ c ∷ []) e = absurd (omega (arith, e))
    inside (a ∷ b ∷ c ∷ d ∷ r) e = omega arith

-- ---- records, one behind the other

-- the byte at i is the one of a record that says that it holds noise
record Changed (rs : List (List ℕ)) (i : ℕ) : Type 0 where
  front : List (List ℕ)
  record' : List ℕ
  behind : List (List ℕ)
  records : rs ≡ front ++ record' ∷ behind
  holds : holds_noise record' ≡ true
  place : i ≡ length (concat front) + wave_at

further : (r : List ℕ) (rs : List (List ℕ)) (i j : ℕ) → i ≡ length r + j → Changed rs j → Changed (r ∷ rs) i
further r rs i j e c = record {
  front = r ∷ c.front;
  record' = c.record';
  behind = c.behind;
  records = ap (λ (l : List (List ℕ)). r ∷ l) c.records;
  holds = c.holds;
  place = omega (arith, e, c.place, length-append r (concat c.front));
}

abbrev Byte : List (List ℕ) → ℕ → Type 0
Byte rs i = (get_or (each_out converted_record rs) i 0 ≡ get_or (concat rs) i 0) ⊎ Changed rs i

each_of : (rs : List (List ℕ)) (i : ℕ) → Byte rs i
each_of [] i = inl refl
each_of (r ∷ rs) i =
    ⊎_elim (λ z. behind (omega (arith, z)) (each_of rs (i - length r))) (λ p. here (omega (arith, p))) (eq-zero-or-pos (length r - i))
  where
    all : List ℕ
    all = each_out converted_record rs

    here : i < length r → Byte (r ∷ rs) i
    here h =
        let a = get_or-append (converted_record r) all 0 i (omega (arith, h, length_converted r)) in
        let b = get_or-append r (concat rs) 0 i h in
        ⊎_elim (λ e. inl (a ∙ e ∙ sym b))
        (λ e. inr (record { front = []; record' = r; behind = rs; records = refl; holds = e.0; place = omega (arith, e.1) }))
        (in_record r i h)

    behind : length r ≤ i → Byte rs (i - length r) → Byte (r ∷ rs) i
    behind h x =
        let j = i - length r in
        let e : i ≡ length r + j = omega (arith, h) in
        let a : get_or (converted_record r ++ all) i 0 ≡ get_or all j 0 =
        ap (λ (k : ℕ). get_or (converted_record r ++ all) k 0) (omega (arith, e, length_converted r))
        ∙ get_or-append-add (converted_record r) all j 0 in
        let b : get_or (r ++ concat rs) i 0 ≡ get_or (concat rs) j 0 =
        ap (λ (k : ℕ). get_or (r ++ concat rs) k 0) e ∙ get_or-append-add r (concat rs) j 0 in
        ⊎_elim (λ q. inl (a ∙ q ∙ sym b)) (λ c. inr (further r rs i j e c)) x

-- what a list of records is at a place in one of them
at_record : (w : List ℕ → List ℕ) → ((r : List ℕ) → length (w r) ≡ length r)
    → (front : List (List ℕ)) (r : List ℕ) (behind : List (List ℕ)) (k : ℕ) → k < length r
    → get_or (each_out w (front ++ r ∷ behind)) (length (concat front) + k) 0 ≡ get_or (w r) k 0
at_record w l [] r behind k h =
    ap (λ (i : ℕ). get_or (w r ++ each_out w behind) i 0) (omega arith) ∙ get_or-append (w r) (each_out w behind) 0 k (omega (arith, h, l r))
at_record w l (f ∷ front) r behind k h =
    let all = each_out w (front ++ r ∷ behind) in
    ap (λ (i : ℕ). get_or (w f ++ all) i 0) (omega (arith, l f, length-append f (concat front)))
    ∙ get_or-append-add (w f) all (length (concat front) + k) 0 ∙ at_record w l front r behind k h

-- ---- the records of a tree

-- one that holds noise is a waveform's
abbrev Wave : ℕ → List ℕ → Type 0
Wave n r = (p : ℕ) × (x : WaveformSpec) × (r ≡ record_of n (single p (tree.waveform x))) × (x.kind ≡ noise)

abbrev Fine : ℕ → List ℕ → Type 0
Fine n r = holds_noise r ≡ true → Wave n r

none_held : {A : Type 0} {b : Bool} → b ≡ false → b ≡ true → A
none_held e h = absurd (true≢false (sym h ∙ e))

leaf_fine : (n p : ℕ) (l : Leaf KeyframeTime) → Fine n (record_of n (single p l))
unfolding holds_noise
leaf_fine n p (tree.tween x) = none_held refl
leaf_fine n p (tree.spring x) = none_held refl
leaf_fine n p (tree.keyframes x) = none_held refl
leaf_fine n p (tree.path x) = none_held refl
leaf_fine n p (tree.morph x) = none_held refl
leaf_fine n p (tree.draw x) = none_held refl
leaf_fine n p (tree.color x) = none_held refl
leaf_fine n p (tree.waveform x) = λ h. (p, x, refl, eqb-true x.kind noise h)
leaf_fine n p (tree.preset x) = none_held refl
leaf_fine n p (tree.label x) = none_held refl
leaf_fine n p (tree.at x) = none_held refl

box_fine : (n p : ℕ) (k : Container) (ns : Forest) → Fine n (record_of n (holding p k ns))
unfolding holds_noise
box_fine n p tree.sequence ns = none_held refl
box_fine n p tree.parallel ns = none_held refl
box_fine n p (tree.group m) ns = none_held refl
box_fine n p (tree.stagger q d) ns = none_held refl

head_fine : (n w : ℕ) → Fine n ((big 2).write w)
unfolding holds_noise
head_fine n w = none_held (go (eqb (get_or ((big 2).write w) 0 0) waveform_kind))
  where
    go : (b : Bool) → (b && false) ≡ false
    go true = refl
    go false = refl

all_append : {A : Type 0} (P : A → Type 0) (xs ys : List A) → All P xs → All P ys → All P (xs ++ ys)
all_append P [] ys h g = g
all_append P (x ∷ xs) ys h g = (h.0, all_append P xs ys h.1 g)

records_fine : (n : ℕ) (ns : Forest) → All (Fine n) (records_of n ns)
records_fine n Nodes.none = tt
records_fine n (leaf p l rest) = (leaf_fine n p l, records_fine n rest)
records_fine n (box p k ns rest) =
    (box_fine n p k ns, all_append (Fine n) (records_of n ns) (records_of n rest) (records_fine n ns) (records_fine n rest))

all-at : {A : Type 0} (P : A → Type 0) (front : List A) (x : A) (behind : List A) → All P (front ++ x ∷ behind) → P x
all-at P [] x behind h = h.0
all-at P (f ∷ front) x behind h = all-at P front x behind h.1

same_bytes : (rs : List (List ℕ)) → concat rs ≡ each_out (λ r. r) rs
same_bytes [] = refl
same_bytes (r ∷ rs) = ap (λ (l : List ℕ). r ++ l) (same_bytes rs)

noise-at : (n : ℕ) (ns : Forest) (i : ℕ) → Changed (all_records n ns) i → NoiseAt n ns i
unfolding all_records
noise-at n ns i c =
    let fine : All (Fine n) (all_records n ns) = (head_fine n (width ns), records_fine n ns) in
    let w = all-at (Fine n) c.front c.record' c.behind (subst (All (Fine n)) c.records fine) c.holds in
    record {
      front = c.front;
      start = w.0;
      wave = w.1;
      behind = c.behind;
      records = c.records ∙ ap (λ (r : List ℕ). c.front ++ r ∷ c.behind) w.2;
      noisy = w.3;
      place = c.place ∙ ap (λ (l : List ℕ). length l + wave_at) (same_bytes c.front);
    }

-- ---- every sheet that is converted

module _ (t s : List ℕ) (ns : Forest) (o : opening t s ≡ opened ns) where
  after_is : (converting t s).1 ≡ each_out converted_record (all_records (length t) ns)
  unfolding converted_sheet
  after_is = rw (leaves t s ns o)

  each : (i : ℕ) → (get_or (converting t s).1 i 0 ≡ get_or s i 0) ⊎ Changed (all_records (length t) ns) i
  each i =
      ⊎_elim
      (λ e. inl (ap (λ (l : List ℕ). get_or l i 0) after_is ∙ e ∙ ap (λ (l : List ℕ). get_or l i 0) (sym (is_records t s ns o)))) inr
      (each_of (all_records (length t) ns) i)

  each-noise : (i : ℕ) → NoiseAt (length t) ns i → (get_or s i 0 ≡ noise) × (get_or (converting t s).1 i 0 ≡ triangle)
  unfolding holds_noise
  each-noise i a =
      let r = record_of (length t) (single a.start (tree.waveform a.wave)) in
      let h : holds_noise r ≡ true = rw a.noisy in
      let is = the-noise r h in
      let here : i ≡ length (concat a.front) + wave_at =
      a.place ∙ ap (λ (l : List ℕ). length l + wave_at) (sym (same_bytes a.front)) in (
        ap (λ (l : List ℕ). get_or l i 0) (is_records t s ns o ∙ same_bytes (all_records (length t) ns) ∙ ap (each_out (λ r. r)) a.records)
            ∙ ap (get_d' (each_out (λ r. r) (a.front ++ r ∷ a.behind))) here
            ∙ at_record (λ r. r) (λ r. refl) a.front r a.behind wave_at (omega arith) ∙ is.0,
        ap (λ (l : List ℕ). get_or l i 0) (after_is ∙ ap (each_out converted_record) a.records)
            ∙ ap (get_d' (each_out converted_record (a.front ++ r ∷ a.behind))) here
            ∙ at_record converted_record length_converted a.front r a.behind wave_at (omega arith) ∙ is.1,
      )
    where
      get_d' : List ℕ → ℕ → ℕ
      get_d' l i = get_or l i 0

pub kept : (t s : List ℕ) → (converting t s).0 ≡ Accepted → Kept t s (converting t s).1
kept t s e =
    let c = converts t s e in
    let noises = each-noise t s c.0 c.1 in
    record {
      tree = c.0;
      decodes = holds_tree t s c.0 c.1;
      as_long = as_long t s;
      each_byte = λ i. ⊎_elim inl
          (λ x. let a = noise-at (length t) c.0 i x in inr (a, (noises i a).1)) (each t s c.0 c.1 i);
      each-noise = noises;
    }
