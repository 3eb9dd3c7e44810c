-- One form behind another, where what is written for the second hangs on the first.
use Prim.Native.Nat.{ℕ, suc, ◌-◌, ◌≤◌, ◌<◌}
use mathlib.Core.Bool.{Bool, true, false, true≢false}
use mathlib.Core.List.{List, [], ◌∷◌}
use mathlib.Core.Option.{Option, none, some}
use mathlib.Core.Path.{◌≡◌, refl, sym, ap, ◌∙◌}
use native.Mathlib.Omega.{arith}
use borrow.Author.Tests.{lt-leb, le-leb}
use Rattle.digits.specs.Numeral.{percentage}
use Rattle.codec.specs.Codec.{Form, ◌▹◌, below, opt, each}
use Rattle.sheet_decode.specs.Means.{Reads, Number, same}
use Rattle.sheet_decode.proofs.ReadLaws.{◌&◌, seen, absent, present, each_next}
use Rattle.ast.specs.Tree.{LoopSpec, KeyframeTime, KeyframeEntry, percent}
use Rattle.pieces.specs.Pieces.{Piece, a_name, a_numeral}
use Rattle.fresh.specs.Meaning.{FrameSense}
use Rattle.fresh.specs.Fresh.{wave_names, word_at}
use Rattle.fresh.specs.Fresh.{Writer, mark, negative, minus_if, size_of, signed_by, time, frame, more_frames, track}
use Rattle.back_spelling.specs.Means.{Page, lent, run}
use Rattle.back_copying.specs.Means.{Copies}
use Rattle.back_leaves.specs.Means.{frames_of, comma_frames, joined_frames, loop_by}

same_page : {p q : List Piece → Page} → ((ps : List Piece) → p ps ≡ q ps) → p ≡ q
same_page h = λ i ps. h ps i

-- a value that is known, then another form
pub known_then : {A B : Type 0} {c : Form A} {d : Form B} {v : A} (w : A × B → Writer) {s : List ℕ} {at m k : ℕ} {p q : Page}
    → Reads c same s at v m → Copies d (λ y. w (v, y)) s m p q k → Copies (c ▹ d) w s at p q k
known_then {A = A} w {p = p} r y = record {
  reads = seen (r & y.reads) (λ x h. same_page (λ ps.
      ap (λ (z : A × (List Piece → Page)). run (w (z.0, x.1) ps) p) h ∙ ap (λ (z : A × (List Piece → Page)). z.1 ps) h));
  kept = y.kept;
}

abbrev Keyed : Type 0 → Type 0
Keyed K = (K × (List Piece → Page)) × (List Piece → Page)

-- what is written for the second hangs on a key of the first
pub keyed-then : {A B K : Type 0} {c : Form A} {d : Form B} (key : A → K) (v : A → Writer) (u : K → B → Writer) (w : A × B → Writer)
    {s : List ℕ} {at m k : ℕ} {x : K} {p q r : Page}
    → ((a : A) (b : B) (ps : List Piece) → w (a, b) ps ≡ v a (u (key a) b ps))
    → Reads {X = K × (List Piece → Page)} c (λ a. (key a, λ ps. run (v a ps) p)) s at (x, λ ps. run ps q) m
    → lent q ≡ lent p → Copies d (u x) s m q r k → Copies (c ▹ d) w s at p r k
keyed-then {K = K} key v u w {x = x} {p = p} {q = q} {r = r} e y l z = record {
  reads = seen (y & z.reads) (λ a h. same_page (λ ps.
      ap (λ (xs : List Piece). run xs p) (e a.0 a.1 ps)
      ∙ ap (λ (g : Keyed K). g.0.1 (u (key a.0) a.1 ps)) h
      ∙ ap (λ (j : K). run (u j a.1 ps) q) (ap (λ (g : Keyed K). g.0.0) h)
      ∙ ap (λ (g : Keyed K). g.1 ps) h));
  kept = z.kept ∙ l;
}

-- ---- an optional value, then another form

pub none_then : {A B : Type 0} (c : Form A) {d : Form B} (w : Option A × B → Writer) {s : List ℕ} {at m k b : ℕ} {p q : Page}
    → Number (below 2) 2 s at b m → b ≡ 0 → Copies d (λ y. w (none, y)) s m p q k → Copies (opt c ▹ d) w s at p q k
none_then c w r e y = known_then w (absent c r e refl) y

abbrev is_there : {A : Type 0} → Option A → Bool
is_there none = false
is_there (some a) = true

abbrev if_there : {A : Type 0} → (A → Writer) → Option A → Writer
if_there v none ps = ps
if_there v (some a) ps = v a ps

pub some_then : {A B : Type 0} (c : Form A) {d : Form B} (v : A → Writer) (u : B → Writer) (w : Option A × B → Writer)
    {s : List ℕ} {at m j k b : ℕ} {p q r : Page}
    → ((a : A) (y : B) (ps : List Piece) → w (some a, y) ps ≡ v a (u y ps))
    → Number (below 2) 2 s at b m → (b ≡ 0 → ⊥) → Copies c v s m p q j → Copies d u s j q r k → Copies (opt c ▹ d) w s at p r k
some_then {A = A} {B = B} c v u w {p = p} {q = q} {r = r} e t n x y = record {
  reads = seen (present c {view = shown} t n x.reads (λ a h i. (true, h i)) & y.reads) (λ z h. same_page (λ ps. by z.0 z.1 h ps));
  kept = y.kept ∙ x.kept;
}
  where
    shown : Option A → Bool × (List Piece → Page)
    shown o = (is_there o, λ ps. run (if_there v o ps) p)

    by : (o : Option A) (z : B)
        → Prim.Path (Keyed Bool) (shown o, λ ps. run (u z ps) q) ((true, λ ps. run ps q), λ ps. run ps r)
        → (ps : List Piece) → run (w (o, z) ps) p ≡ run ps r
    by none z h ps = absurd (true≢false (sym (ap (λ (g : Keyed Bool). g.0.0) h)))
    by (some a) z h ps =
        ap (λ (xs : List Piece). run xs p) (e a z ps)
        ∙ ap (λ (g : Keyed Bool). g.0.1 (u z ps)) h
        ∙ ap (λ (g : Keyed Bool). g.1 ps) h

-- ---- frames

abbrev pub is_empty : {A : Type 0} → List A → Bool
is_empty [] = true
is_empty (x ∷ xs) = false

-- one and more of a form: they are not none
pub some_copied : {A : Type 0} {c : Form A} {w : A → Writer} (vs ws : List A → Writer) {s : List ℕ} {at m k : ℕ} {p q r : Page} (j : ℕ)
    → ((x : A) (xs : List A) (ps : List Piece) → ws (x ∷ xs) ps ≡ w x (vs xs ps))
    → Copies c w s at p q m → Copies (each c j) vs s m q r k
    → Reads {X = Bool × (List Piece → Page)} (each c (suc j)) (λ xs. (is_empty xs, λ ps. run (ws xs ps) p)) s at (false, λ ps. run ps r) k
some_copied vs ws {p = p} j h y z =
    each_next j _ y.reads z.reads
    (λ x xs e f i. (
      false,
      same_page (λ ps.
          ap (λ (ys : List Piece). run ys p) (h x xs ps)
          ∙ ap (λ (g : List Piece → Page). g (vs xs ps)) e
          ∙ ap (λ (g : List Piece → Page). g ps) f) i,
    ))

more-frames : (fs : List FrameSense) (o : Option LoopSpec) (ps : List Piece) → more_frames fs o ps ≡ comma_frames fs (loop_by false o ps)
unfolding more_frames comma_frames
more-frames [] none ps = refl
more-frames [] (some m) ps = refl
more-frames (f ∷ fs) o ps = ap (λ (xs : List Piece). mark "," ∷ frame f xs) (more-frames fs o ps)

pub track_is : (fs : List FrameSense) (o : Option LoopSpec) (ps : List Piece) → track fs o ps ≡ joined_frames fs (loop_by (is_empty fs) o ps)
unfolding track
track_is [] none ps = refl
track_is [] (some m) ps = refl
track_is (f ∷ fs) o ps = ap (λ (xs : List Piece). frame f xs) (more-frames fs o ps)

-- of a sheet's frames
pub track_of : (t : List ℕ) (xs : List (KeyframeEntry KeyframeTime)) (o : Option LoopSpec) (ps : List Piece)
    → track (frames_of t xs) o ps ≡ joined_frames (frames_of t xs) (loop_by (is_empty xs) o ps)
track_of t [] o ps = track_is [] o ps
track_of t (x ∷ xs) o ps = track_is (frames_of t (x ∷ xs)) o ps

-- ---- percents

pub percent-plain : (b : ℕ) → b < 2147483648 → (ps : List Piece) → time (percent b) ps ≡ a_numeral percentage b ∷ mark "%" ∷ ps
unfolding time signed_by negative minus_if size_of
percent-plain b h ps = rw (lt-leb 2147483648 b h) refl

pub percent-negated : (b : ℕ) → 2147483648 ≤ b → (ps : List Piece)
    → time (percent b) ps ≡ mark "-" ∷ a_numeral percentage (b - 2147483648) ∷ mark "%" ∷ ps
unfolding time signed_by negative minus_if size_of
percent-negated b h ps = rw (le-leb 2147483648 b h) refl

-- ---- waveforms

-- 02 (h): noise has no word
pub noise_wordless : (k : ℕ) → 4 ≤ k → word_at wave_names k ≡ a_name []
unfolding word_at
noise_wordless k h =
    let e : k ≡ suc (suc (suc (suc (k - 4)))) = omega arith in
    ap (λ (j : ℕ). word_at wave_names j) e
