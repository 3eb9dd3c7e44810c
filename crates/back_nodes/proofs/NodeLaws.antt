-- Records and nodes written one after the other.
use Prim.Native.Nat.{ℕ, suc, ◌+◌, ◌-◌, ◌≤◌, ◌<◌}
use Prim.Native.String.{String}
use mathlib.Core.List.{List, ◌∷◌}
use mathlib.Core.Option.{Option, none, some, some-injective}
use mathlib.Core.Path.{◌≡◌, refl, sym, ◌∙◌, ap, subst}
use native.Mathlib.Omega.{arith}
use lib.ListN.{length, drop}
use Rattle.codec.specs.Codec.{Form, Reader, ◌▹◌, and_then, below, big, opt}
use Rattle.ast.specs.Tree as tree
use Rattle.ast.specs.Tree.{Nodes, Leaf, Container, KeyframeTime, single, holding, push, width}
use Rattle.sheet.specs.Sheet.{Node, Forest, word, start_form, pattern_form, forest, inner}
use Rattle.sheet_decode.specs.Means.{Reads, same, KindAndStart}
use Rattle.sheet_decode.proofs.ReadLaws.{◌&◌, seen}
use Rattle.sheet_records.specs.Means.{blank, count_form}
use Rattle.sheet_records.specs.declared.Kind.{Kind}
use Rattle.sheet_records.specs.declared.Kind.TheVariants as kind
use Rattle.sheet_records.proofs.RecordLaws.{Makes, made, after, counts, width-blank, of_kind}
use Rattle.sheet_nodes.specs.Means.{Stands, ContainerKind}
use Rattle.sheet_nodes.proofs.StandLaws.{Opened, plain, boxed, front}
use Rattle.pieces.specs.Pieces.{Piece}
use Rattle.fresh.specs.Fresh.{Writer, spell, mark, word_at, leaf_word, box_word, box_body, pieces}
use Rattle.grammar.specs.Grammar.{mode_names}
use Rattle.fresh.specs.Fresh as fresh
use Rattle.back_spelling.specs.Means.{Page, lent, put, run}
use Rattle.back_copying.specs.Means.{Written, Copies}
use Rattle.back_copying.proofs.CopyLaws.{one_piece, ◌and◌, called, in_front, written_kept}
use Rattle.fresh.specs.Meaning.{leaf_sense, sense}
use Rattle.back_leaves.specs.Means.{stored, body}
use Rattle.back_nodes.specs.Means.{record_page, RecordTold, Begun, Placed, NodePut}

-- a record's pages, and its kind
abbrev Seen : Type 0
Seen = (List Piece → Page) × Kind

-- ---- a leaf: its start, its word, and its fields

pub leaf_told : (t : List ℕ) (p : Page) {A : Type 0} {c : Form A} (l : A → Leaf KeyframeTime) (w : String)
    {s : List ℕ} {from start at k m : ℕ} {q r : Page}
    → (b : KindAndStart (length t) s from k start at) → ((x : A) → leaf_word (leaf_sense stored t (l x)) ≡ w)
    → q ≡ put (spell w) p → Copies c (λ x. body t (l x)) s at q r m
    → Reads {X = Seen} (start_form (length t) ▹ c) (λ y. (record_page t p (single y.0 (l y.1)), kind.Leaf)) s b.between
    ((λ ps. run ps r), kind.Leaf) m
leaf_told t p l w b h e y =
    seen (b.start_at & (in_front (spell w) e y).reads)
    (λ z u. ap (λ (v : String). ((λ ps. run (spell v ∷ body t (l z.1) ps) p), kind.Leaf)) (h z.1) ∙ (λ i. ((u i).1, kind.Leaf)))

pub leaf_kept : (x : Piece) (p : Page) {A : Type 0} {c : Form A} {w : A → Writer} {s : List ℕ} {at m : ℕ} {q r : Page}
    → q ≡ put x p → Copies c w s at q r m → lent r ≡ lent p
leaf_kept x p h y = y.kept ∙ written_kept (one_piece x h)

-- ---- a container: its own fields, its count of nodes and its `{`

-- no fields
counted : (t : List ℕ) (b : Container) {s : List ℕ} {at m count : ℕ} {p r : Page}
    → Written (λ ps. spell (box_word b) ∷ box_body b (mark "{" ∷ ps)) p r → Reads (big 2) same s at count m
    → Reads {X = Seen} count_form (λ ns. (record_page t p (holding 0 b ns), kind.Container (width ns))) s at
    ((λ ps. run ps r), kind.Container count) m
counted t b w g = made (big 2) count_form blank counts g (λ a e i. ((λ ps. w.is ps i), kind.Container ((width-blank a ∙ e) i)))

-- fields, then the count
with-count : {A : Type 0} {c : Form A} {w : A → Writer} {s : List ℕ} {at m n : ℕ} {p q r : Page} {k : Kind}
    → Copies c w s at p q m → (g : Begun s m q r k n)
    → Reads {X = Seen} (c ▹ big 2) (λ x. ((λ ps. run (w x.0 (mark "{" ∷ ps)) p), kind.Container x.1)) s at
    ((λ ps. run ps r), kind.Container g.count) n
with-count y g =
    seen (y.reads & g.reads)
    (λ x e i. (
      (λ ps. (ap (λ (f : (List Piece → Page) × ℕ). f.0 (mark "{" ∷ ps)) e ∙ (one_piece (mark "{") g.puts).is ps) i),
      kind.Container (e i).1,
    ))

-- three fields, however they are grouped
grouped : {A B C : Type 0} (c : Form A) (d : Form B) (e : Form C) → Makes ((c ▹ d) ▹ e) (c ▹ d ▹ e) (λ p. (p.0.0, (p.0.1, p.1)))
grouped {A} {B} {C} c d e bs = first (c.read bs)
  where
    pair : {D E : Type 0} → D → E → Reader (D × E)
    pair x y r = some ((x, y), r)

    regroup : (A × B) × C → Reader (A × (B × C))
    regroup p r = some ((p.0.0, (p.0.1, p.1)), r)

    third : (a : A) (b : B) (o : Option (C × List ℕ))
        → and_then (and_then o (pair b)) (pair a) ≡ and_then (and_then o (pair (a, b))) regroup
    third a b none = refl
    third a b (some z) = refl

    second : (a : A) (o : Option (B × List ℕ))
        → and_then (and_then o (λ b r. and_then (e.read r) (pair b))) (pair a)
        ≡ and_then (and_then (and_then o (pair a)) (λ y r. and_then (e.read r) (pair y))) regroup
    second a none = refl
    second a (some b) = third a b.0 (e.read b.1)

    first : (o : Option (A × List ℕ))
        → and_then o (λ a r. and_then (and_then (d.read r) (λ b q. and_then (e.read q) (pair b))) (pair a))
        ≡ and_then (and_then (and_then o (λ a r. and_then (d.read r) (pair a))) (λ y r. and_then (e.read r) (pair y))) regroup
    first none = refl
    first (some a) = second a.0 (d.read a.1)

pub six : (k : ℕ) → ContainerKind k → (k ≡ 3 → ⊥) → (k ≡ 4 → ⊥) → (k ≡ 5 → ⊥) → k ≡ 6
six k h n3 n4 n5 = omega arith

module _ (t : List ℕ) {s : List ℕ} {from start at k : ℕ} (b : KindAndStart (length t) s from k start at) where
  module _ {p q r : Page} {h : Kind} {m : ℕ} where
    pub sequence_told : k ≡ 3 → q ≡ put (spell "sequence") p → Begun s at q r h m → RecordTold t s from p r h m
    unfolding box_word box_body
    sequence_told e w g = record {
      reads = rw g.holds
          (of_kind 3 b e (b.start_at & counted t tree.sequence (called (one_piece _ w and one_piece _ g.puts) (λ ps. refl)) g.reads)
          (λ x u i. (u i).1));
      kept = written_kept (one_piece _ w and one_piece _ g.puts);
    }

    pub parallel_told : k ≡ 4 → q ≡ put (spell "parallel") p → Begun s at q r h m → RecordTold t s from p r h m
    unfolding box_word box_body
    parallel_told e w g = record {
      reads = rw g.holds
          (of_kind 4 b e (b.start_at & counted t tree.parallel (called (one_piece _ w and one_piece _ g.puts) (λ ps. refl)) g.reads)
          (λ x u i. (u i).1));
      kept = written_kept (one_piece _ w and one_piece _ g.puts);
    }

  module _ {p q r : Page} {h : Kind} {n m : ℕ} where
    pub group_told : k ≡ 5 → Copies (below 2) (λ j ps. spell "group" ∷ word_at mode_names j ∷ ps) s at p q n → Begun s n q r h m
        → RecordTold t s from p r h m
    unfolding box_word box_body
    group_told e w g = record {
      reads = rw g.holds
          (of_kind 5 b e
          (b.start_at
          & made (below 2 ▹ big 2) (below 2 ▹ count_form) (λ y. (y.0, blank y.1))
          {g = λ y. (record_page t p (holding 0 (tree.group y.0) y.1), kind.Container (width y.1))}
          (after (below 2) (big 2) count_form blank counts) (with-count w g)
          (λ y u i. ((u i).0, (ap kind.Container (width-blank y.1) ∙ (λ j. (u j).1)) i)))
          (λ x u i. (u i).1));
      kept = written_kept (one_piece _ g.puts) ∙ w.kept;
    }

    pub stagger_told : k ≡ 6 → Copies (opt pattern_form ▹ opt word) (λ x ps. spell "stagger" ∷ fresh.opening x.0 x.1 ps) s at p q n
        → Begun s n q r h m → RecordTold t s from p r h m
    unfolding box_word box_body
    stagger_told e w g = record {
      reads = rw g.holds
          (of_kind 6 b e
          (b.start_at
          & made (opt pattern_form ▹ opt word ▹ big 2) (opt pattern_form ▹ opt word ▹ count_form) (λ y. (y.0, (y.1.0, blank y.1.1)))
          {g = λ y. (record_page t p (holding 0 (tree.stagger y.0 y.1.0) y.1.1), kind.Container (width y.1.1))}
          (after (opt pattern_form) (opt word ▹ big 2) (opt word ▹ count_form) (λ y. (y.0, blank y.1))
          (after (opt word) (big 2) count_form blank counts))
          (made ((opt pattern_form ▹ opt word) ▹ big 2) (opt pattern_form ▹ opt word ▹ big 2) (λ y. (y.0.0, (y.0.1, y.1)))
          {g = λ y. ((λ ps. run (spell "stagger" ∷ fresh.opening y.0 y.1.0 (mark "{" ∷ ps)) p), kind.Container y.1.1)}
          (grouped (opt pattern_form) (opt word) (big 2)) (with-count w g) (λ y u. u))
          (λ y u i. ((u i).0, (ap kind.Container (width-blank y.1.1) ∙ (λ j. (u j).1)) i)))
          (λ x u i. (u i).1));
      kept = written_kept (one_piece _ g.puts) ∙ w.kept;
    }

-- ---- a node: its record, then the nodes in it, a `}` and a `;`

module _ (t s : List ℕ) where
  -- what stands where a record was written by which the page p became q
  abbrev Begins : Page → Page → ℕ → Kind → Node → List ℕ → Type 0
  Begins p q m k x rest = Opened (record_page t p) (length t) s m (λ ps. run ps q) k x rest

  pub leaf_placed : {p q : Page} {m : ℕ} {x : Node} {rest : List ℕ} → Begins p q m kind.Leaf x rest
      → Placed t s (push x Nodes.none) rest p q m
  unfolding pieces
  leaf_placed (plain j l e k h b w) = rw e (record { puts = record { is = λ ps i. h i ps }; behind = b; within = w })
  leaf_placed (boxed j b ms ns c d e k h g u) = let z : ◌≡◌ {A = ℕ} 0 1 = cc in absurd (omega arith)

  module _ {p q₀ q₁ q₂ r : Page} {next : ℕ} {rest : List ℕ} where
    inside-placed : (j : ℕ) (b : Container) (ms ns : Forest) → q₂ ≡ put (mark "}") q₁ → r ≡ put (mark ";") q₂
        → record_page t p (holding j b ms) ≡ (λ ps. run ps q₀)
        → Placed t s ns rest q₀ q₁ next
        → Placed t s (push (holding j b ns) Nodes.none) rest p r next
    unfolding pieces
    inside-placed j b ms ns e₁ e₂ h f = record {
      puts = record {
        is = λ ps.
            ap (λ (y : List Piece → Page). y (pieces (sense stored t ns) (mark "}" ∷ mark ";" ∷ ps))) h
            ∙ (f.puts and one_piece (mark "}") e₁ and one_piece (mark ";") e₂).is ps;
      };
      behind = f.behind;
      within = f.within;
    }

    pub box_placed : {m c : ℕ} {x : Node} → q₂ ≡ put (mark "}") q₁ → r ≡ put (mark ";") q₂ → Begins p q₀ m (kind.Container c) x rest
        → ((d : ℕ) (ns : Forest) (g : Stands (forest (length t) (inner (length t) d) c) s m ns) → Placed t s ns g.rest q₀ q₁ next)
        → Placed t s (push x Nodes.none) rest p r next
    box_placed e₁ e₂ (plain j l e k h b w) f = let z : ◌≡◌ {A = ℕ} 0 1 = cc in absurd (omega arith)
    box_placed {m} {c} e₁ e₂ (boxed j b ms ns k d e o h g u) f =
        let z : c ≡ k = cc in
        let f' = subst
        (λ (c : ℕ). (d : ℕ) (ns : Forest) (g : Stands (forest (length t) (inner (length t) d) c) s m ns)
        → Placed t s ns g.rest q₀ q₁ next)
        z
        f
        in
        rw e (inside-placed j b ms ns e₁ e₂ h (subst (λ (y : List ℕ). Placed t s ns y q₀ q₁ next) u (f' d ns g)))

-- ---- nodes beside each other

split : (t : List ℕ) (x : Node) (ns : Forest) (ps : List Piece)
    → pieces (sense stored t (push x ns)) ps ≡ pieces (sense stored t (push x Nodes.none)) (pieces (sense stored t ns) ps)
unfolding pieces
split t (single p l) ns ps = refl
split t (holding p b inside) ns ps = refl

-- a walk over nodes that began with the page p₀
module _ (t s : List ℕ) (p₀ : Page) where
  -- the last j of ns stand at a, the page is p, and where these are placed ns are
  pub record Left (d j a : ℕ) (p : Page) (ns : Forest) (rest : List ℕ) : Type 0 where
    pub nodes : Forest
    pub stand : Stands (forest (length t) (inner (length t) d) j) s a nodes
    pub ends : stand.rest ≡ rest
    pub tells : (q : Page) (next : ℕ) → Placed t s nodes rest p q next → Placed t s ns rest p₀ q next

  left_next : {d j a next : ℕ} {p q : Page} {ns : Forest} {rest : List ℕ}
      → Left d (suc j) a p ns rest → NodePut t s a p q next → Left d j next q ns rest
  left_next {d} {j} {a} {next} {p} {q} {rest = rest} l w =
      let f = front (length t) (inner (length t) d) j s a l.nodes l.stand in
      let c = w.is d f.node f.stands in
      record {
        nodes = f.others;
        stand = record {
          within = c.within;
          rest = l.stand.rest;
          reads = ap (λ (r : List ℕ). (forest (length t) (inner (length t) d) j).read r) (sym c.behind) ∙ f.reads;
        };
        ends = l.ends;
        tells = λ r m h. l.tells r m
            (subst (λ (ns : Forest). Placed t s ns rest p r m) f.these
            (record {
              puts = called (c.puts and h.puts) (split t f.node f.others);
              behind = h.behind;
              within = h.within;
            }));
      }

  left_done : {d a : ℕ} {p : Page} {ns : Forest} {rest : List ℕ} → Left d 0 a p ns rest → Placed t s ns rest p₀ p a
  unfolding pieces
  left_done {a = a} {p = p} {rest = rest} l =
      let e = some-injective (Nodes.none, drop a s) (l.nodes, l.stand.rest) l.stand.reads in
      l.tells p a (over l.nodes (λ j. (e j).0) (sym l.ends ∙ sym (λ j. (e j).1)))
    where
      over : (ns : Forest) → Nodes.none ≡ ns → rest ≡ drop a s → Placed t s ns rest p p a
      over ns e b = rw (← e) (record { puts = record { is = λ ps. refl }; behind = b; within = l.stand.within })

  -- the walk has come to a behind k of `count` nodes
  pub record Going (at count a : ℕ) (p : Page) (k : ℕ) : Type 0 where
    pub left : (d : ℕ) (ns : Forest) (h : Stands (forest (length t) (inner (length t) d) count) s at ns)
        → Left d (count - k) a p ns h.rest
    pub kept : lent p ≡ lent p₀

  pub going_start : (at count : ℕ) → Going at count at p₀ 0
  going_start at count = record {
    left = λ d ns h.
        let e : count ≡ count - 0 = omega arith in
        subst (λ (j : ℕ). Left d j at p₀ ns h.rest) e (record { nodes = ns; stand = h; ends = refl; tells = λ q m y. y });
    kept = refl;
  }

  module _ {at count a k : ℕ} {p : Page} (g : Going at count a p k) where
    pub going_next : {next : ℕ} {q : Page} → k < count → NodePut t s a p q next → Going at count next q (k + 1)
    going_next l w = record {
      left = λ d ns h.
          let e : count - k ≡ suc (count - (k + 1)) = omega arith in
          left_next (subst (λ (j : ℕ). Left d j a p ns h.rest) e (g.left d ns h)) w;
      kept = w.kept ∙ g.kept;
    }

    pub going_done : count ≤ k → (d : ℕ) (ns : Forest) (h : Stands (forest (length t) (inner (length t) d) count) s at ns)
        → Placed t s ns h.rest p₀ p a
    going_done l d ns h = let e : count - k ≡ 0 = omega arith in left_done (subst (λ (j : ℕ). Left d j a p ns h.rest) e (g.left d ns h))
