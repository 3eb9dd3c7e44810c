-- Values copied one after the other.
use Prim.Native.Nat.{ℕ, suc, ◌+◌, ◌-◌, ◌≤◌, ◌<◌}
use Prim.Native.String.{String}
use native.Mathlib.Omega.{arith}
use mathlib.Core.List.{List, [], ◌∷◌}
use mathlib.Core.Option.{Option, none, some}
use mathlib.Core.Path.{◌≡◌, refl, sym, ap, ◌∙◌}
use borrow.Author.Tests.{lt-leb, le-leb}
use Rattle.codec.specs.Codec.{Form, ◌▹◌, via, opt, Case, FieldsAt, enum, big, sized, each}
use Rattle.codec.proofs.Laws.{make_at}
use Rattle.sheet_decode.specs.Means.{Reads, Number, same}
use Rattle.sheet_decode.proofs.ReadLaws.{◌&◌, seen, through, counted, form_at, chosen, each_none, each_next}
use Rattle.sheet_decode.proofs.ReadLaws as read
use lib.ListN.{length}
use Rattle.codec.specs.Codec.{below}
use Rattle.text.specs.Bytes.{bytes, part}
use Rattle.digits.specs.Numeral.{float}
use Rattle.ast.specs.Means.{span_view}
use Rattle.ast.specs.declared.Span as spans
use Rattle.sheet.specs.Sheet.{span_form}
use Rattle.pieces.specs.Pieces.{Piece, a_word, a_numeral}
use Rattle.ast.specs.Tree.{span_bytes}
use Rattle.fresh.specs.Fresh.{Writer, mark, negative, minus_if, size_of, signed_by, f32, field}
use Rattle.back_spelling.specs.Means.{Page, lent, put, run, page_of}
use Rattle.back_spelling.specs.declared.PieceWriter.{PieceWriter}
use Rattle.back_spelling.proofs.PageLaws.{same_buffer, lent-run}
use Rattle.back_copying.specs.Means.{Written, Copies}
use Rattle.back_copying.specs.WordMeans.{Step, FieldPut, absent, present}
use denote.MutBor.{MutBor}

-- the same page whatever follows
same_page : {p q : List Piece → Page} → ((ps : List Piece) → p ps ≡ q ps) → p ≡ q
same_page h = λ i ps. h ps i

-- ---- what is put, with nothing read

pub no_piece : {p : Page} → Written (λ ps. ps) p p
no_piece = record { is = λ ps. refl }

pub one_piece : (x : Piece) {p q : Page} → q ≡ put x p → Written (λ ps. x ∷ ps) p q
unfolding run
one_piece x h = record { is = λ ps. ap (run ps) (sym h) }

infixr 20 ◌and◌
pub ◌and◌ : {w v : Writer} {p q r : Page} → Written w p q → Written v q r → Written (λ ps. w (v ps)) p r
◌and◌ {v = v} x y = record { is = λ ps. x.is (v ps) ∙ y.is ps }

pub called : {w v : Writer} {p q : Page} → Written v p q → ((ps : List Piece) → w ps ≡ v ps) → Written w p q
called {p = p} x h = record { is = λ ps. ap (λ (xs : List Piece). run xs p) (h ps) ∙ x.is ps }

-- ---- the buffer stays the same, and keeps its length

pub written_kept : {w : Writer} {p q : Page} → Written w p q → lent q ≡ lent p
unfolding run
written_kept {w} {p} {q} x = ap lent (sym (x.is [])) ∙ lent-run (w []) p

module _ (c d : PieceWriter) where
  pub put_keeps : {w : Writer} → Written w (page_of c) (page_of d)
      → (d.out.ghost_name ≡ c.out.ghost_name) × (length d.out.now ≡ length c.out.now)
  put_keeps x = same_buffer c d (written_kept x)

  pub copy_keeps : {A : Type 0} {f : Form A} {w : A → Writer} {s : List ℕ} {at m : ℕ} → Copies f w s at (page_of c) (page_of d) m
      → (d.out.ghost_name ≡ c.out.ghost_name) × (length d.out.now ≡ length c.out.now)
  copy_keeps y = same_buffer c d y.kept

-- an f32 without a sign, and with one
pub positive : (b : ℕ) → b < 2147483648 → (ps : List Piece) → f32 b ps ≡ a_numeral float b ∷ ps
unfolding f32 signed_by negative minus_if size_of
positive b h ps = rw (lt-leb 2147483648 b h) refl

pub negated : (b : ℕ) → 2147483648 ≤ b → (ps : List Piece) → f32 b ps ≡ mark "-" ∷ a_numeral float (b - 2147483648) ∷ ps
unfolding f32 signed_by negative minus_if size_of
negated b h ps = rw (le-leb 2147483648 b h) refl

-- ---- what is read, and put

-- a value, and its pieces
pub read-put : {A : Type 0} {c : Form A} {s : List ℕ} {at m : ℕ} {v : A} (w : A → Writer) {p q : Page}
    → Reads c same s at v m → Written (w v) p q → Copies c w s at p q m
read-put w {p = p} r x =
    record { reads = seen r (λ a e. same_page (λ ps. ap (λ y. run (w y ps) p) e ∙ x.is ps)); kept = written_kept x }

-- a name or a string
pub span_put : (x : List ℕ → Piece) (t : List ℕ) (n : ℕ) {s : List ℕ} {at m : ℕ} {v : spans.Span} {w : List ℕ} {p q : Page}
    → Reads (span_form n) span_view s at v m → w ≡ part t v.start v.size → q ≡ put (x w) p
    → Copies (span_form n) (λ y ps. x (span_bytes t y) ∷ ps) s at p q m
unfolding run
span_put x t n {p = p} r h g = record {
  reads = seen r (λ a e. same_page (λ ps.
      ap (run ps) (ap (λ (y : spans.Span). put (x (part t y.start y.size)) p) e ∙ ap (λ (y : List ℕ). put (x y) p) (sym h) ∙ sym g)));
  kept = written_kept (one_piece _ g);
}

-- ---- the pieces of one writer and those of another

-- the same pieces by another name
pub renamed : {A : Type 0} {c : Form A} {s : List ℕ} {at m : ℕ} {p q : Page} {v w : A → Writer}
    → Copies c v s at p q m → ((a : A) (ps : List Piece) → w a ps ≡ v a ps) → Copies c w s at p q m
renamed {p = p} y h =
    record { reads = seen y.reads (λ a e. same_page (λ ps. ap (λ (xs : List Piece). run xs p) (h a ps)) ∙ e); kept = y.kept }

-- a piece in front, and a piece behind
pub in_front : {A : Type 0} {c : Form A} {s : List ℕ} {at m : ℕ} {p q r : Page} {w : A → Writer} (x : Piece)
    → q ≡ put x p → Copies c w s at q r m → Copies c (λ a ps. x ∷ w a ps) s at p r m
unfolding run
in_front {w = w} x h y = record {
  reads = seen y.reads (λ a e. same_page (λ ps. ap (run (w a ps)) (sym h)) ∙ e);
  kept = y.kept ∙ written_kept (one_piece x h);
}

pub behind : {A : Type 0} {c : Form A} {s : List ℕ} {at m : ℕ} {p q r : Page} {w : A → Writer} (x : Piece)
    → Copies c w s at p q m → r ≡ put x q → Copies c (λ a ps. w a (x ∷ ps)) s at p r m
unfolding run
behind x y h =
    record {
      reads = seen y.reads (λ a e. same_page (λ ps. ap (λ (f : List Piece → Page). f (x ∷ ps)) e ∙ ap (run ps) (sym h)));
      kept = written_kept (one_piece x h) ∙ y.kept;
    }

-- one value behind another
infixr 20 ◌then◌
pub ◌then◌ : {A B : Type 0} {c : Form A} {d : Form B} {s : List ℕ} {at m k : ℕ} {p q r : Page} {w : A → Writer} {v : B → Writer}
    → Copies c w s at p q m → Copies d v s m q r k → Copies (c ▹ d) (λ x ps. w x.0 (v x.1 ps)) s at p r k
◌then◌ {v = v} y z = record {
  reads = seen (y.reads & z.reads) (λ x e. same_page (λ ps.
      ap (λ (f : (List Piece → Page) × (List Piece → Page)). f.0 (v x.1 ps)) e
      ∙ ap (λ (f : (List Piece → Page) × (List Piece → Page)). f.1 ps) e));
  kept = z.kept ∙ y.kept;
}

-- another type
pub made : {A B : Type 0} {c : Form A} (f : A → B) (g : B → A) (w : B → Writer) {s : List ℕ} {at m : ℕ} {p q : Page}
    → Copies c (λ a. w (f a)) s at p q m → Copies (via c f g) w s at p q m
made f g w y = record { reads = through f g y.reads; kept = y.kept }

-- ---- enums

module _ {B : Type 0} (cs : List (Case B)) (split : B → (i : ℕ) × FieldsAt cs i) (w : B → Writer) where
  -- the position i, then the fields of the case there
  pub in_case : {s : List ℕ} {at m k b : ℕ} {p q : Page} (i : ℕ)
      → Reads (below (length cs)) same s at b m → b ≡ i → Copies (form_at cs i) (λ x. w (make_at cs i x)) s m p q k
      → Copies (enum cs split) w s at p q k
  in_case i r e y = record { reads = chosen cs split i r e y.reads (λ x h. h); kept = y.kept }

-- an optional value
pub is_absent : {A : Type 0} (c : Form A) {s : List ℕ} {at m b : ℕ} {p : Page} (w : Option A → Writer)
    → Number (below 2) 2 s at b m → b ≡ 0 → ((ps : List Piece) → w none ps ≡ ps) → Copies (opt c) w s at p p m
is_absent c {p = p} w r e h = record { reads = read.absent c r e (same_page (λ ps. ap (λ (xs : List Piece). run xs p) (h ps))); kept = refl }

pub is_present : {A : Type 0} (c : Form A) {s : List ℕ} {at m k b : ℕ} {p q : Page} (w : Option A → Writer)
    → Number (below 2) 2 s at b m → (b ≡ 0 → ⊥) → Copies c (λ a. w (some a)) s m p q k → Copies (opt c) w s at p q k
is_present c w r n y = record { reads = read.present c r n y.reads (λ a h. h); kept = y.kept }

-- a size, then what has that size
pub sized_copied : {A : Type 0} (size : A → ℕ) (c : ℕ → Form A) {w : A → Writer} {s : List ℕ} {at m k n : ℕ} {p q : Page}
    → Reads (big 2) same s at n m → Copies (c n) w s m p q k → Copies (sized size c) w s at p q k
sized_copied size c r y = record { reads = counted size c r y.reads; kept = y.kept }

-- what is put before a value is read
pub put-before : {A : Type 0} {c : Form A} {s : List ℕ} {at m : ℕ} {p q r : Page} {v : Writer} {w : A → Writer}
    → Written v p q → Copies c w s at q r m → Copies c (λ a ps. v (w a ps)) s at p r m
put-before {w = w} x y =
    record { reads = seen y.reads (λ a e. same_page (λ ps. x.is (w a ps)) ∙ e); kept = y.kept ∙ written_kept x }

-- ---- fields

field-named : {A : Type 0} (n : String) (w : A → Writer) {name : List ℕ} → bytes n ≡ name → (a : A) (ps : List Piece)
    → field n w (some a) ps ≡ a_word name ∷ mark ":" ∷ w a ps
unfolding field
field-named n w e a ps = ap (λ (b : List ℕ). a_word b ∷ mark ":" ∷ w a ps) e

-- a value under a name that is handed over
pub under_name : {A : Type 0} (n : String) (w : A → Writer) {c : Form A} {name s : List ℕ} {at m : ℕ} {p q r : Page} → bytes n ≡ name
    → Written (λ ps. a_word name ∷ mark ":" ∷ ps) p q → Copies c w s at q r m → Copies c (λ a. field n w (some a)) s at p r m
under_name n w e x y = renamed (put-before x y) (field-named n w e)

pub absent_field : {A : Type 0} (n : String) (w : A → Writer) (c : Form A) {s : List ℕ} {at m b : ℕ} {p : Page}
    → Number (below 2) 2 s at b m → b ≡ 0 → Copies (opt c) (field n w) s at p p m
unfolding field
absent_field n w c r e = is_absent c (field n w) r e (λ ps. refl)

pub present_field : {A : Type 0} (n : String) (w : A → Writer) (c : Form A) {name s : List ℕ} {at m k b : ℕ} {p q r : Page}
    → Number (below 2) 2 s at b m → (b ≡ 0 → ⊥) → bytes n ≡ name
    → Written (λ ps. a_word name ∷ mark ":" ∷ ps) p q → Copies c w s m q r k → Copies (opt c) (field n w) s at p r k
present_field n w c r h e x y = is_present c (field n w) r h (under_name n w e x y)

-- a field that may be absent, by what is told of the step that writes its value
pub field_put : {A : Type 0} (n : String) (w : A → Writer) (c : Form A) {step : Step} {name s : List ℕ} {at next : ℕ} {p q : PieceWriter} → bytes n ≡ name
    → FieldPut name step s at p q next
    → ((m k : ℕ) (o r : MutBor PieceWriter) → step m o k r → Copies c w s m (page_of o.now) (page_of r.now) k)
    → Copies (opt c) (field n w) s at (page_of p) (page_of q) next
field_put n w c e (absent h z) f = absent_field n w c h z
field_put n w c e (present o r h z x y) f = present_field n w c h z e x (f _ _ o r y)

-- ---- so many of a form

pub none_copied : {A : Type 0} (c : Form A) (ws : List A → Writer) (s : List ℕ) (at : ℕ) (p : Page) → ((ps : List Piece) → ws [] ps ≡ ps)
    → Copies (each c 0) ws s at p p at
none_copied c ws s at p h = record {
  reads = seen (each_none c same s at) (λ a e. same_page (λ ps. ap (λ xs. run (ws xs ps) p) e ∙ ap (λ (ys : List Piece). run ys p) (h ps)));
  kept = refl;
}

pub one_copied : {A : Type 0} {c : Form A} {w : A → Writer} (vs ws : List A → Writer) {s : List ℕ} {at m k : ℕ} {p q r : Page} (j : ℕ)
    → ((x : A) (xs : List A) (ps : List Piece) → ws (x ∷ xs) ps ≡ w x (vs xs ps))
    → Copies c w s at p q m → Copies (each c j) vs s m q r k → Copies (each c (suc j)) ws s at p r k
one_copied vs ws {p = p} j h y z = record {
  reads = each_next j _ y.reads z.reads
      (λ x xs e f. same_page (λ ps.
      ap (λ (ys : List Piece). run ys p) (h x xs ps)
      ∙ ap (λ (g : List Piece → Page). g (vs xs ps)) e
      ∙ ap (λ (g : List Piece → Page). g ps) f));
  kept = z.kept ∙ y.kept;
}

-- a walk over n of them that has come to the place a behind k, with the page p
module _ {A : Type 0} (c : Form A) (ws : List A → Writer) (s : List ℕ) (at n : ℕ) (start : Page) where
  pub record Walked (p : Page) (a k : ℕ) : Type 0 where
    pub on : (q : Page) (m : ℕ) → Copies (each c (n - k)) ws s a p q m → Copies (each c n) ws s at start q m
    pub kept : lent p ≡ lent start

  pub walk_start : Walked start at 0
  walk_start = record { on = λ q m y. let e : n - 0 ≡ n = omega arith in rw e at y; kept = refl }

  pub walk-next : {w : A → Writer} {p q : Page} {a b : ℕ} (k : ℕ)
      → ((x : A) (xs : List A) (ps : List Piece) → ws (x ∷ xs) ps ≡ w x (ws xs ps))
      → k < n → Copies c w s a p q b → Walked p a k → Walked q b (k + 1)
  walk-next k h l y x = record {
    on = λ q m z. let e : n - k ≡ suc (n - (k + 1)) = omega arith in x.on q m (rw e (one_copied ws ws (n - (k + 1)) h y z));
    kept = y.kept ∙ x.kept;
  }

  pub walk_done : {p : Page} {a : ℕ} (k : ℕ) → ((ps : List Piece) → ws [] ps ≡ ps)
      → n ≤ k → Walked p a k → Copies (each c n) ws s at start p a
  walk_done {p = p} {a = a} k h l x = let e : n - k ≡ 0 = omega arith in x.on p a (rw e (none_copied c ws s a p h))
