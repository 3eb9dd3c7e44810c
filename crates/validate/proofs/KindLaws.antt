-- A record of each kind: its kind, its start, then its fields.
use Rattle.std.specs.Prelude.{Result}
use Prim.Native.Nat.{ℕ, ◌≤◌, ◌<◌}
use mathlib.Core.List.{List}
use mathlib.Core.Option.{Option, none}
use mathlib.Core.Logic.{⊎_elim}
use mathlib.Core.Path.{◌≡◌, sym, ◌∙◌, ap}
use native.Mathlib.Omega.{arith}
use lib.ListN.{length}
use Rattle.codec.specs.Codec.{◌▹◌, below, big, opt}
use Rattle.ast.specs.Tree as tree
use Rattle.ast.specs.Tree.{Leaf, KeyframeTime, single, holding, width}
use Rattle.ast.specs.Means.{group_view, stagger_view}
use Rattle.ast.specs.declared.GroupSpec as groups
use Rattle.ast.specs.declared.StaggerSpec as staggers
use Rattle.sheet.specs.Sheet.{word, pattern_form, keyframes_form}
use Rattle.sheet_decode.specs.Means.{Reads, same, KindAndStart}
use Rattle.sheet_records.specs.Means.{blank, count_form, record_form}
use Rattle.sheet_records.specs.declared.Kind.{Kind}
use Rattle.sheet_records.specs.declared.Kind.TheVariants as kind
use Rattle.colors.specs.Css.{names_of}
use Rattle.error.specs.declared.Refusal.{Refusal}
use Rattle.sheet_decode.proofs.ReadLaws.{◌&◌}
use Rattle.sheet_records.proofs.RecordLaws.{made, after, counts, width-blank, of_kind, three_or_four}
use Rattle.checking.specs.Rules.{validate_keyframes, validate_leaf, validate_container}
use Rattle.sheet_nodes.specs.Means.{ContainerKind}
use Rattle.node_rules.specs.Means.{fault_of, StaggerTells}
use Rattle.validate.specs.WalkMeans.{record_view}

-- ---- a leaf

pub leaf_is : (list : ℕ) (t : List ℕ) (p : ℕ) (l : Leaf KeyframeTime) {o : Option Refusal}
    → o ≡ validate_leaf (names_of list) t l
    → Prim.Path (Option Refusal × Kind) (record_view list t (single p l)) (o, kind.Leaf)
leaf_is list t p l e = λ i. (sym e i, kind.Leaf)

-- a track
pub track_record : (list : ℕ) (t : List ℕ) {s : List ℕ} {from start at k m : ℕ} {o : Option Refusal}
    → KindAndStart (length t) s from k start at
    → k ≡ 2 → Reads (keyframes_form (length t)) (validate_keyframes t) s at o m
    → Reads {X = Option Refusal × Kind} (record_form (length t)) (record_view list t) s from (o, kind.Leaf) m
unfolding validate_leaf
track_record list t b e r =
    of_kind 2 b e (b.start_at & r) (λ x h. leaf_is list t x.0 (tree.keyframes x.1) (sym (λ i. (h i).1)))

-- ---- a container: its own fields and its count of nodes

-- the fault of the record at `from` is o, and it holds c nodes
abbrev Holding : ℕ → List ℕ → List ℕ → ℕ → ℕ → Option Refusal → ℕ → Type 0
Holding list t s from m o c = Reads {X = Option Refusal × Kind} (record_form (length t)) (record_view list t) s from (o, kind.Container c) m

module _ (list : ℕ) (t : List ℕ) {s : List ℕ} {from start at k : ℕ} (b : KindAndStart (length t) s from k start at) where
  pub count_record : {c m : ℕ} → ContainerKind k → (k ≡ 5 → ⊥) → (k ≡ 6 → ⊥) → Reads (big 2) same s at c m → Holding list t s from m none c
  unfolding validate_container
  count_record {c} {m} h n5 n6 r =
      ⊎_elim (λ e. of_kind 3 b e (b.start_at & nodes) (λ x e i. (e i).1))
      (λ e. of_kind 4 b e (b.start_at & nodes) (λ x e i. (e i).1))
      (three_or_four k (omega arith) (no k 0 h.0 (omega arith)) (no k 1 h.0 (omega arith)) (no k 2 h.0 (omega arith)))
    where
      no : (k j : ℕ) → 3 ≤ k → j < 3 → k ≡ j → ⊥
      no k j h l e = omega arith

      nodes : Reads {X = Option Refusal × Kind} count_form (λ ns. (none, kind.Container (width ns))) s at (none, kind.Container c) m
      nodes = made (big 2) count_form blank counts r (λ a e i. (none, kind.Container ((width-blank a ∙ e) i)))

  pub group_record : {m : ℕ} {v : groups.GroupSpec} → k ≡ 5
      → Reads (below 2 ▹ big 2) (λ p. group_view p.0 p.1) s at v m
      → Holding list t s from m none v.nodes
  unfolding validate_container
  group_record e r =
      of_kind 5 b e
      (b.start_at
      & made (below 2 ▹ big 2) (below 2 ▹ count_form) (λ p. (p.0, blank p.1))
      {g = λ p. record_view list t (holding start (tree.group p.0) p.1)}
      (after (below 2) (big 2) count_form blank counts) r
      (λ p e i. (none, kind.Container ((width-blank p.1 ∙ ap (λ (g : groups.GroupSpec). g.nodes) e) i))))
      (λ x e i. (e i).1)

  pub stagger_record : (f : Result Unit Refusal) {m : ℕ} {v : staggers.StaggerSpec} → k ≡ 6
      → Reads (opt pattern_form ▹ opt word ▹ big 2) (λ p. stagger_view p.0 p.1.0 p.1.1) s at v m
      → StaggerTells v f → Holding list t s from m (fault_of f) v.nodes
  stagger_record f e r g =
      of_kind 6 b e
      (b.start_at
      & made (opt pattern_form ▹ opt word ▹ big 2) (opt pattern_form ▹ opt word ▹ count_form) (λ p. (p.0, (p.1.0, blank p.1.1)))
      {g = λ p. record_view list t (holding start (tree.stagger p.0 p.1.0) p.1.1)}
      (after (opt pattern_form) (opt word ▹ big 2) (opt word ▹ count_form) (λ q. (q.0, blank q.1))
      (after (opt word) (big 2) count_form blank counts))
      r
      (λ p e i.
      (sym (g p.0 p.1.0 p.1.1 e) i, kind.Container ((width-blank p.1.1 ∙ ap (λ (g : staggers.StaggerSpec). g.nodes) e) i))))
      (λ x e i. (e i).1)
