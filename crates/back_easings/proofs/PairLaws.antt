-- Fields in parentheses, put one by one.
use Prim.Native.Nat.{ℕ}
use Prim.Native.String.{String}
use mathlib.Core.Bool.{Bool, true, false, ◌&&◌, true≢false}
use mathlib.Core.List.{List, [], ◌∷◌}
use mathlib.Core.Option.{Option, none, some}
use mathlib.Core.Path.{◌≡◌, refl, sym, ap, ◌∙◌}
use lib.Dec.{eqb}
use lib.ListN.{length}
use lib.Ieee.{round, to_bits}
use Rattle.text.specs.Bytes.{bytes, part}
use Rattle.number.specs.Number.{bits}
use Rattle.codec.specs.Codec.{Form, ◌▹◌, empty, below, opt}
use Rattle.sheet_decode.specs.Means.{Reads, Number, same}
use Rattle.codec.proofs.Laws.{make_at}
use Rattle.sheet_decode.proofs.ReadLaws.{form_at, ◌&◌, seen, nothing, absent, present}
use Rattle.grammar.specs.Values.{f32_of}
use Rattle.pieces.specs.Pieces.{Piece, a_word}
use Rattle.ast.specs.Means.{span_view}
use Rattle.ast.specs.declared.Span as spans
use Rattle.ast.specs.Tree.{StaggerPatternSpec}
use Rattle.sheet.specs.Sheet.{word, flag, span_form, easings, split_easing, easing_form, pattern_form}
use Rattle.back_copying.proofs.CopyLaws.{written_kept, in_case, put-before}
use Rattle.ast.specs.Tree.{span_bytes}
use Rattle.fresh.specs.Meaning.{named, easing_sense}
use Rattle.fresh.specs.Fresh.{Writer, Pair, spell, mark, u32, easing, pairs, more_pairs, unless, choose, pattern, opening}
use Rattle.grammar.specs.Grammar.{origin_names}
use Rattle.back_spelling.specs.Means.{Page, run}
use Rattle.back_copying.specs.Means.{Written, Copies}
use Rattle.back_easings.specs.Means.{comma_unless, pairs_by, delay_by, PairPut}

-- ---- what is read before anything is put

same_page : {p q : List Piece → Page} → ((ps : List Piece) → p ps ≡ q ps) → p ≡ q
same_page h = λ i ps. h ps i

pub nothing_read : {w : Writer} {s : List ℕ} {at : ℕ} {p q : Page} → Written w p q → Copies empty (λ u. w) s at p q at
nothing_read {s = s} {at = at} x =
    record { reads = seen (nothing {view = λ u. u} s at) (λ a e. same_page x.is); kept = written_kept x }

pub two-read : {A B : Type 0} {c : Form A} {d : Form B} {s : List ℕ} {at m k : ℕ} {a : A} {b : B} (w : A × B → Writer) {p q : Page}
    → Reads c same s at a m → Reads d same s m b k → Written (w (a, b)) p q → Copies (c ▹ d) w s at p q k
two-read w {p = p} r t x =
    record { reads = seen (r & t) (λ y e. same_page (λ ps. ap (λ z. run (w z ps) p) e ∙ x.is ps)); kept = written_kept x }

pub three_read : {A B C : Type 0} {c : Form A} {d : Form B} {f : Form C} {s : List ℕ} {at m k j : ℕ} {a : A} {b : B} {g : C}
    (w : A × (B × C) → Writer) {p q : Page}
    → Reads c same s at a m → Reads d same s m b k → Reads f same s k g j → Written (w (a, (b, g))) p q → Copies (c ▹ d ▹ f) w s at p q j
three_read w {p = p} r t u x =
    record { reads = seen (r & t & u) (λ y e. same_page (λ ps. ap (λ z. run (w z ps) p) e ∙ x.is ps)); kept = written_kept x }

-- ---- what absence reads to

pub half : f32_of 1 2 ≡ 1056964608
unfolding f32_of bits round to_bits
half = refl

pub seven_tenths : f32_of 7 10 ≡ 1060320051
unfolding f32_of bits round to_bits
seven_tenths = refl

pub two : f32_of 2 1 ≡ 1073741824
unfolding f32_of bits round to_bits
two = refl

pub no_number : f32_of 0 1 ≡ 0
unfolding f32_of bits round to_bits
no_number = refl

pub tenth : f32_of 1 10 ≡ 1036831949
unfolding f32_of bits round to_bits
tenth = refl

-- ---- pairs

and_true : (b : Bool) → (b && true) ≡ b
and_true true = refl
and_true false = refl

and_false : (b : Bool) → (b && false) ≡ false
and_false true = refl
and_false false = refl

pub omitted : (first : Bool) {x : Bool} (f : Pair) {p : Page} → x ≡ true → PairPut first x f p p
unfolding unless
omitted first f {p = p} e = record { is = λ fs ps. rw (e, and_true first) refl }

shown : (b : Bool) (n : String) (w : Writer) {name : List ℕ} → bytes n ≡ name → (fs : List Pair) (ps : List Piece)
    → pairs_by b ((n, w) ∷ fs) ps ≡ comma_unless b (a_word name ∷ mark ":" ∷ w (more_pairs fs ps))
unfolding pairs more_pairs
shown true n w h fs ps = ap (λ (b : List ℕ). a_word b ∷ mark ":" ∷ w (more_pairs fs ps)) h
shown false n w h fs ps = ap (λ (b : List ℕ). mark "," ∷ a_word b ∷ mark ":" ∷ w (more_pairs fs ps)) h

-- a field that is there
pub here : (first : Bool) (n : String) (w : Writer) {name : List ℕ} {p q r : Page} → bytes n ≡ name
    → Written (λ ps. comma_unless first (a_word name ∷ mark ":" ∷ ps)) p q → Written w q r
    → (fs : List Pair) (ps : List Piece) → run (pairs_by first ((n, w) ∷ fs) ps) p ≡ run (more_pairs fs ps) r
here first n w {p = p} h y z fs ps =
    ap (λ (xs : List Piece). run xs p) (shown first n w h fs ps) ∙ y.is (w (more_pairs fs ps)) ∙ z.is (more_pairs fs ps)

pub not_omitted : (first : Bool) {x : Bool} (n : String) (w : Writer) {name : List ℕ} {p q r : Page} → x ≡ false → bytes n ≡ name
    → Written (λ ps. comma_unless first (a_word name ∷ mark ":" ∷ ps)) p q → Written w q r → PairPut first x (n, w) p r
unfolding unless
not_omitted first n w e h y z = record { is = λ fs ps. rw (e, and_false first) (here first n w h y z fs ps) }

no_pairs : (b : Bool) (ps : List Piece) → pairs_by b [] ps ≡ ps
unfolding pairs more_pairs
no_pairs true ps = refl
no_pairs false ps = refl

pub last-pair : {b x : Bool} {f : Pair} {p q : Page} → PairPut b x f p q → Written (pairs_by b (unless x f [])) p q
last-pair {b = b} {x = x} {q = q} y = record { is = λ ps. y.is [] ps ∙ ap (λ (xs : List Piece). run xs q) (no_pairs (b && x) ps) }

pub two-pairs : {x y : Bool} {f g : Pair} {p q r : Page} → PairPut true x f p q → PairPut x y g q r
    → Written (pairs (unless x f (unless y g []))) p r
two-pairs {y = y} {g = g} i j = record { is = λ ps. i.is (unless y g []) ps ∙ (last-pair j).is ps }

pub three_pairs : {x y z : Bool} {f g h : Pair} {p q r o : Page} → PairPut true x f p q → PairPut x y g q r → PairPut (x && y) z h r o
    → Written (pairs (unless x f (unless y g (unless z h [])))) p o
three_pairs {y = y} {z = z} {g = g} {h = h} i j k = record {
  is = λ ps. i.is (unless y g (unless z h [])) ps ∙ j.is (unless z h []) ps ∙ (last-pair k).is ps;
}

-- `cols` and `rows`, and `origin` or not
pub grid_pairs : (c r o : ℕ) {p q t u v y : Page}
    → Written (λ ps. comma_unless true (spell "cols" ∷ mark ":" ∷ ps)) p q
    → Written (u32 c) q t
    → Written (λ ps. comma_unless false (spell "rows" ∷ mark ":" ∷ ps)) t u → Written (u32 r) u v
    → PairPut false (eqb o 4) ("origin", choose origin_names o) v y
    → Written (pairs (("cols", u32 c) ∷ ("rows", u32 r) ∷ unless {A = Pair} (eqb o 4) ("origin", choose origin_names o) [])) p y
grid_pairs c r o a b d e f = record {
  is = λ ps.
      let os : List Pair = unless {A = Pair} (eqb o 4) ("origin", choose origin_names o) [] in
      here true "cols" (u32 c) refl a b (("rows", u32 r) ∷ os) ps ∙ here false "rows" (u32 r) refl d e os ps ∙ (last-pair f).is ps;
}

-- the name of an easing, with `Easing::` or not
pub named-read : (t : List ℕ) (n : ℕ) {s : List ℕ} {at m k : ℕ} {v : Bool} {x : spans.Span} {w : List ℕ} {p q : Page}
    → Reads flag same s at v m → Reads (span_form n) span_view s m x k → w ≡ part t x.start x.size → Written (easing (named v w)) p q
    → Copies (flag ▹ span_form n) (λ y. easing (named y.0 (span_bytes t y.1))) s at p q k
named-read t n {v = v} {p = p} r u h y = record {
  reads = seen (r & u) (λ a e. same_page (λ ps.
      ap (λ (z : Bool × spans.Span). run (easing (named z.0 (part t z.1.start z.1.size)) ps) p) e
      ∙ ap (λ (z : List ℕ). run (easing (named v z) ps) p) (sym h) ∙ y.is ps));
  kept = written_kept y;
}

-- the easing at a position of their list
pub easing-case : (t : List ℕ) (i : ℕ) {s : List ℕ} {at m k b : ℕ} {p q : Page} → Reads (below 6) same s at b m → b ≡ i
    → Copies (form_at (easings (length t)) i) (λ x. easing (easing_sense t (make_at (easings (length t)) i x))) s m p q k
    → Copies (easing_form (length t)) (λ x. easing (easing_sense t x)) s at p q k
easing-case t i r e y = in_case (easings (length t)) (split_easing (length t)) (λ x. easing (easing_sense t x)) i r e y

-- what stands before the block of a `stagger`: no pattern, or one, and then `delay` or not
opening_delay : (d : Option ℕ) (ps : List Piece) → opening none d ps ≡ delay_by true d ps
unfolding opening
opening_delay none ps = refl
opening_delay (some d) ps = refl

opening-both : (x : StaggerPatternSpec) (d : Option ℕ) (ps : List Piece)
    → opening (some x) d ps ≡ spell "pattern" ∷ mark ":" ∷ pattern x (delay_by false d ps)
unfolding opening
opening-both x none ps = refl
opening-both x (some d) ps = refl

abbrev Shown : Type 0
Shown = (Bool × (List Piece → Page)) × (List Piece → Page)

-- whether there is a pattern, and the page behind it
abbrev shown-pattern : Page → Option StaggerPatternSpec → Bool × (List Piece → Page)
shown-pattern p none = (false, λ ps. run ps p)
shown-pattern p (some x) = (true, λ ps. run (spell "pattern" ∷ mark ":" ∷ pattern x ps) p)

no_pattern : (p u : Page) (o : Option StaggerPatternSpec) (d : Option ℕ)
    → Prim.Path Shown (shown-pattern p o, λ ps. run (delay_by true d ps) p) ((false, λ ps. run ps p), λ ps. run ps u)
    → (ps : List Piece) → run (opening o d ps) p ≡ run ps u
no_pattern p u none d h ps = ap (λ (xs : List Piece). run xs p) (opening_delay d ps) ∙ ap (λ (z : Shown). z.1 ps) h
no_pattern p u (some w) d h ps = absurd (true≢false (ap (λ (z : Shown). z.0.0) h))

a_pattern : (p t u : Page) (o : Option StaggerPatternSpec) (d : Option ℕ)
    → Prim.Path Shown (shown-pattern p o, λ ps. run (delay_by false d ps) t) ((true, λ ps. run ps t), λ ps. run ps u)
    → (ps : List Piece) → run (opening o d ps) p ≡ run ps u
a_pattern p t u none d h ps = absurd (true≢false (sym (ap (λ (z : Shown). z.0.0) h)))
a_pattern p t u (some w) d h ps =
    ap (λ (xs : List Piece). run xs p) (opening-both w d ps)
    ∙ ap (λ (z : Shown). z.0.1 (delay_by false d ps)) h
    ∙ ap (λ (z : Shown). z.1 ps) h

pub opening_absent : {s : List ℕ} {at m k b : ℕ} {p q : Page} → Number (below 2) 2 s at b m
    → b ≡ 0 → Copies (opt word) (delay_by true) s m p q k
    → Copies (opt pattern_form ▹ opt word) (λ x. opening x.0 x.1) s at p q k
opening_absent {p = p} {q = q} r e y = record {
  reads = seen (absent pattern_form {view = shown-pattern p} r e refl & y.reads)
      (λ z h. same_page (λ ps. no_pattern p q z.0 z.1 h ps));
  kept = y.kept;
}

pub opening_present : {s : List ℕ} {at m k j b : ℕ} {p q t u : Page} → Number (below 2) 2 s at b m → (b ≡ 0 → ⊥)
    → Written (λ ps. spell "pattern" ∷ mark ":" ∷ ps) p q
    → Copies pattern_form pattern s m q t j → Copies (opt word) (delay_by false) s j t u k
    → Copies (opt pattern_form ▹ opt word) (λ x. opening x.0 x.1) s at p u k
opening_present {p = p} {t = t} {u = u} r n a x y = record {
  reads = seen (present pattern_form {view = shown-pattern p} r n (put-before a x).reads (λ z h i. (true, h i)) & y.reads)
      (λ z h. same_page (λ ps. a_pattern p t u z.0 z.1 h ps));
  kept = y.kept ∙ x.kept ∙ written_kept a;
}
