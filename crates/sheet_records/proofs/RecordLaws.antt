-- Reading a node is reading its record and then the nodes in it.
use Prim.Native.Nat.{ℕ, zero, suc, ◌≤◌, ◌<◌}
use mathlib.Core.List.{List, [], ◌∷◌, ◌++◌}
use mathlib.Core.Option.{Option, none, some}
use mathlib.Core.Logic.{◌⊎◌, inl, inr, ⊎_elim}
use mathlib.Core.Path.{◌≡◌, refl, sym, ◌∙◌, ap, subst⁻¹}
use native.Mathlib.Omega.{arith}
use lib.ListN.{length, drop, length-append, length-drop}
use Rattle.sheet_decode.specs.Means.{Reads, got, bad, KindAndStart}
use Rattle.sheet_decode.proofs.ReadLaws.{le_or_lt, form_at, chosen}
use Rattle.codec.specs.Codec.{Form, Reader, and_then, ◌▹◌, below, big, opt, Case, FieldsAt, write_at, read_at}
use Rattle.codec.proofs.Laws.{Law, Small, make_at, via_lawful, big_lawful}
use Rattle.sheet.proofs.Laws.{node_l}
use Rattle.ast.specs.Tree as tree
use Rattle.ast.specs.Tree.{Leaf, Container, KeyframeTime, single, holding, width}
use Rattle.sheet.specs.Sheet.{word, start_form, span_form, pattern_form, tween_form, spring_form, keyframes_form, path_form, morph_form}
use Rattle.sheet.specs.Sheet.{draw_form, color_form, waveform_form, preset_form, at_form, Node, Forest, node_form, kinds, split_node}
use Rattle.sheet_records.specs.Means.{blank, count_form, record_form, record_view}
use Rattle.sheet_records.specs.declared.Kind.{Kind}

pub width-blank : (c : ℕ) → width (blank c) ≡ c
width-blank zero = refl
width-blank (suc c) = ap suc (width-blank c)

-- what stands behind a record: nothing, or the nodes in the container, which K reads
abbrev pub behind : (ℕ → Reader Forest) → Node → Reader Node
behind K (single p l) bs = some (single p l, bs)
behind K (holding p k ns) bs = and_then (K (width ns) bs) (λ ms r. some (holding p k ms, r))

fuse : {A B C : Type 0} (o : Option (A × List ℕ)) (f : A → B) (g : B → C)
    → and_then (and_then o (λ a r. some (f a, r))) (λ b r. some (g b, r)) ≡ and_then o (λ a r. some (g (f a), r))
fuse none f g = refl
fuse (some z) f g = refl

module _ (inside : Form Forest) (K : ℕ → Reader Forest) (splits : (bs : List ℕ) → inside.read bs ≡ and_then ((big 2).read bs) K) where
  -- d reads what c reads, then what stands behind it
  abbrev Goes : {A : Type 0} → Form A → Form A → (A → Node) → Type 0
  Goes c d f =
      (bs : List ℕ) → and_then (d.read bs) (λ x r. some (f x, r)) ≡ and_then (and_then (c.read bs) (λ x r. some (f x, r))) (behind K)

  leaf : {A : Type 0} (c : Form A) (l : A → Leaf KeyframeTime) (p : ℕ) → Goes c c (λ x. single p (l x))
  leaf {A} c l p bs = go (c.read bs)
    where
      go : (o : Option (A × List ℕ))
          → and_then o (λ x r. some (single p (l x), r)) ≡ and_then (and_then o (λ x r. some (single p (l x), r))) (behind K)
      go none = refl
      go (some z) = refl

  nested : (k : Container) (p : ℕ) → Goes count_form inside (holding p k)
  nested k p bs = ap (λ (o : Option (Forest × List ℕ)). and_then o (λ x r. some (holding p k x, r))) (splits bs) ∙ go ((big 2).read bs)
    where
      go : (o : Option (ℕ × List ℕ))
          → and_then (and_then o K) (λ x r. some (holding p k x, r))
          ≡ and_then (and_then (and_then o (λ c r. some (blank c, r))) (λ x r. some (holding p k x, r))) (behind K)
      go none = refl
      go (some z) = ap (λ (c : ℕ). and_then (K c z.1) (λ x r. some (holding p k x, r))) (sym (width-blank z.0))

  -- another field first
  ahead : {A B : Type 0} (e : Form A) (c d : Form B) (f : A × B → Node) → ((a : A) → Goes c d (λ b. f (a, b))) → Goes (e ▹ c) (e ▹ d) f
  ahead {A} {B} e c d f h bs = go (e.read bs)
    where
      go : (o : Option (A × List ℕ))
          → and_then (and_then o (λ a r. and_then (d.read r) (λ b t. some ((a, b), t)))) (λ x r. some (f x, r))
          ≡ and_then (and_then (and_then o (λ a r. and_then (c.read r) (λ b t. some ((a, b), t)))) (λ x r. some (f x, r))) (behind K)
      go none = refl
      go (some z) =
          fuse (d.read z.1) (λ b. (z.0, b)) f ∙ h z.0 z.1
          ∙ ap (λ (o : Option (Node × List ℕ)). and_then o (behind K)) (sym (fuse (c.read z.1) (λ b. (z.0, b)) f))

  -- one case after the other
  abbrev Cases : List (Case Node) → List (Case Node) → Type 0
  Cases [] [] = Unit {0}
  Cases [] (d ∷ ds) = ⊥
  Cases (c ∷ cs) [] = ⊥
  Cases (c ∷ cs) (d ∷ ds) =
      ((bs : List ℕ)
      → and_then (d.form.read bs) (λ x r. some (d.make x, r))
      ≡ and_then (and_then (c.form.read bs) (λ x r. some (c.make x, r))) (behind K))
      × Cases cs ds

  each-case : (cs ds : List (Case Node)) → Cases cs ds → (i : ℕ) (bs : List ℕ) → read_at ds i bs ≡ and_then (read_at cs i bs) (behind K)
  each-case [] [] h i bs = refl
  each-case [] (d ∷ ds) h i bs = absurd h
  each-case (c ∷ cs) [] h i bs = absurd h
  each-case (c ∷ cs) (d ∷ ds) h zero bs = h.0 bs
  each-case (c ∷ cs) (d ∷ ds) h (suc i) bs = each-case cs ds h.1 i bs

  pub node_read : (n : ℕ) (bs : List ℕ) → (node_form n inside).read bs ≡ and_then ((record_form n).read bs) (behind K)
  node_read n [] = refl
  node_read n (i ∷ bs) = each-case (kinds n count_form) (kinds n inside) all i bs
    where
      -- the start first
      started : {A : Type 0} (c d : Form A) (make : ℕ → A → Node) → ((p : ℕ) → Goes c d (make p))
          → Goes (start_form n ▹ c) (start_form n ▹ d) (λ x. make x.0 x.1)
      started c d make h = ahead (start_form n) c d (λ x. make x.0 x.1) h

      plain : {A : Type 0} (c : Form A) (l : A → Leaf KeyframeTime)
          → Goes (start_form n ▹ c) (start_form n ▹ c) (λ x. single x.0 (l x.1))
      plain c l = started c c (λ p x. single p (l x)) (leaf c l)

      counted : (k : Container) → Goes (start_form n ▹ count_form) (start_form n ▹ inside) (λ x. holding x.0 k x.1)
      counted k = started count_form inside (λ p ns. holding p k ns) (nested k)

      group : (p : ℕ) → Goes (below 2 ▹ count_form) (below 2 ▹ inside) (λ x. holding p (tree.group x.0) x.1)
      group p = ahead (below 2) count_form inside (λ x. holding p (tree.group x.0) x.1) (λ m. nested (tree.group m) p)

      stagger : (p : ℕ) → Goes (opt pattern_form ▹ opt word ▹ count_form) (opt pattern_form ▹ opt word ▹ inside)
          (λ x. holding p (tree.stagger x.0 x.1.0) x.1.1)
      stagger p =
          ahead (opt pattern_form) (opt word ▹ count_form) (opt word ▹ inside) (λ x. holding p (tree.stagger x.0 x.1.0) x.1.1)
          (λ q. ahead (opt word) count_form inside (λ x. holding p (tree.stagger q x.0) x.1) (λ d. nested (tree.stagger q d) p))

      all : Cases (kinds n count_form) (kinds n inside)
      all = (
        plain (tween_form n) tree.tween,
        (
          plain (spring_form n) tree.spring,
          (
            plain (keyframes_form n) tree.keyframes,
            (
              counted tree.sequence,
              (
                counted tree.parallel,
                (
                  started (below 2 ▹ count_form) (below 2 ▹ inside) (λ p x. holding p (tree.group x.0) x.1) group,
                  (
                    started (opt pattern_form ▹ opt word ▹ count_form) (opt pattern_form ▹ opt word ▹ inside)
                        (λ p x. holding p (tree.stagger x.0 x.1.0) x.1.1) stagger,
                    (
                      plain (path_form n) tree.path,
                      (
                        plain (morph_form n) tree.morph,
                        (
                          plain (draw_form n) tree.draw,
                          (
                            plain (color_form n) tree.color,
                            (
                              plain waveform_form tree.waveform,
                              (plain (preset_form n) tree.preset, (plain (span_form n) tree.label, (plain at_form tree.at, tt))),
                            ),
                          ),
                        ),
                      ),
                    ),
                  ),
                ),
              ),
            ),
          ),
        ),
      )

-- ---- a count for the nodes in a container

-- d reads what c reads and makes h of it
abbrev pub Makes : {A B : Type 0} → Form A → Form B → (A → B) → Type 0
Makes c d h = (bs : List ℕ) → d.read bs ≡ and_then (c.read bs) (λ x r. some (h x, r))

pub counts : Makes (big 2) count_form blank
counts bs = refl

pub after : {A B C : Type 0} (e : Form A) (c : Form B) (d : Form C) (h : B → C)
    → Makes c d h → Makes (e ▹ c) (e ▹ d) (λ p. (p.0, h p.1))
after {A} {B} {C} e c d h m bs = go (e.read bs)
  where
    pair : {D : Type 0} → A → D → Reader (A × D)
    pair a b r = some ((a, b), r)

    remake : A × B → Reader (A × C)
    remake p r = some ((p.0, h p.1), r)

    one : (a : A) (o : Option (B × List ℕ))
        → and_then (and_then o (λ x r. some (h x, r))) (pair a) ≡ and_then (and_then o (pair a)) remake
    one a none = refl
    one a (some z) = refl

    go : (o : Option (A × List ℕ))
        → and_then o (λ a r. and_then (d.read r) (pair a)) ≡ and_then (and_then o (λ a r. and_then (c.read r) (pair a))) remake
    go none = refl
    go (some z) =
        ap (λ (o : Option (C × List ℕ)). and_then o (pair z.0)) (m z.1) ∙ one z.0 (c.read z.1)

pub made : {A B X Y : Type 0} (c : Form A) (d : Form B) (h : A → B) {f : A → X} {g : B → Y} {s : List ℕ} {at m : ℕ} {v : X} {w : Y}
    → Makes c d h → Reads c f s at v m → ((a : A) → f a ≡ v → g (h a) ≡ w) → Reads d g s at w m
made c d h {s = s} {at = at} k (got a e q i l) t = got (h a) (k (drop at s) ∙ rw e) (t a q) i l
made c d h {s = s} {at = at} k (bad o n) t = bad o (λ i. k (drop at s) ∙ rw (n i))

-- ---- kinds

-- a record of the kind i: its kind, then its start and its fields
pub of_kind : {n : ℕ} {X Y : Type 0} {view : Node → Y} {s : List ℕ} {at kind start m k : ℕ} {v : X} {w : Y} (i : ℕ)
    {f : FieldsAt (kinds n count_form) i → X} (b : KindAndStart n s at kind start m) → kind ≡ i
    → Reads (form_at (kinds n count_form) i) f s b.between v k
    → ((x : FieldsAt (kinds n count_form) i) → f x ≡ v → view (make_at (kinds n count_form) i x) ≡ w)
    → Reads (record_form n) view s at w k
of_kind {n = n} i b e r t = chosen (kinds n count_form) (split_node n count_form) i b.kind_at.reads e r t

-- and what it says of its node
pub told : {n : ℕ} {X : Type 0} {s : List ℕ} {at kind start m k entries : ℕ} {v : X} {w : Kind} (i : ℕ)
    {f : FieldsAt (kinds n count_form) i → X} (b : KindAndStart n s at kind start m) → kind ≡ i
    → Reads (form_at (kinds n count_form) i) f s b.between v k
    → ((x : FieldsAt (kinds n count_form) i) → f x ≡ v → record_view (make_at (kinds n count_form) i x) ≡ (w, i, entries))
    → Reads (record_form n) record_view s at (w, kind, entries) k
told {entries = entries} {w = w} i b e r t = of_kind i b e r (λ x h. t x h ∙ sym (ap (λ (j : ℕ). (w, j, entries)) e))

pub three_or_four : (b : ℕ) → b < 5 → (b ≡ 0 → ⊥) → (b ≡ 1 → ⊥) → (b ≡ 2 → ⊥) → (b ≡ 3) ⊎ (b ≡ 4)
three_or_four b h n0 n1 n2 = ⊎_elim (λ l. inl (omega arith)) (λ l. inr (omega arith)) (le_or_lt b 3)

-- of the kinds from 5 on, the only one that is none of these
pub only_at : (b : ℕ) → 5 ≤ b → b < 15 → (b ≡ 5 → ⊥) → (b ≡ 6 → ⊥)
    → (b ≡ 7 → ⊥) → (b ≡ 8 → ⊥) → (b ≡ 9 → ⊥) → (b ≡ 10 → ⊥)
    → (b ≡ 11 → ⊥) → (b ≡ 12 → ⊥) → (b ≡ 13 → ⊥) → b ≡ 14
only_at b l h n5 n6 n7 n8 n9 n10 n11 n12 n13 = upper b h (lower b l n5 n6 n7 n8 n9) n10 n11 n12 n13
  where
    lower : (b : ℕ) → 5 ≤ b → (b ≡ 5 → ⊥) → (b ≡ 6 → ⊥) → (b ≡ 7 → ⊥) → (b ≡ 8 → ⊥) → (b ≡ 9 → ⊥) → 10 ≤ b
    lower b l n5 n6 n7 n8 n9 = omega arith

    upper : (b : ℕ) → b < 15 → 10 ≤ b → (b ≡ 10 → ⊥) → (b ≡ 11 → ⊥) → (b ≡ 12 → ⊥) → (b ≡ 13 → ⊥) → b ≡ 14
    upper b h l n10 n11 n12 n13 = omega arith

-- ---- a record is lawful

abbrev pub count_l : Law count_form
count_l = record {
  ok = λ ns. Small 2 (width ns) × (blank (width ns) ≡ ns);
  law = via_lawful
      (big 2)
      blank width
      (Small 2)
      (λ ns. Small 2 (width ns) × (blank (width ns) ≡ ns))
      (big_lawful 2)
      (λ ns h. h.0)
      (λ ns h. h.1)
      (λ c h. (subst⁻¹ (Small 2) (width-blank c) h, ap blank (width-blank c))) (λ c h. width-blank c);
}

abbrev pub record_l : (n : ℕ) → Law (record_form n)
record_l n = node_l n count_l

-- it has at least its kind
pub moves : {X : Type 0} (n : ℕ) {f : Node → X} {s : List ℕ} {at m : ℕ} {v : X} → Reads (record_form n) f s at v m → at < length s → at < m
moves n {s = s} {at = at} {m = m} (got x e q h l) i =
    let z : length (drop m s) < length (drop at s) =
    longer (split_node n count_form x).0 (write_at (kinds n count_form) (split_node n count_form x).0 (split_node n count_form x).1) (drop m s)
    ((record_l n).law.forth (drop at s) (x, drop m s) e).0 in
    omega (arith, length-drop at s, length-drop m s)
  where
    longer : (k : ℕ) (w r : List ℕ) {b : List ℕ} → b ≡ k ∷ w ++ r → length r < length b
    longer k w r e = rw e (omega (arith, length-append w r))
moves n (bad o k) i = omega arith
