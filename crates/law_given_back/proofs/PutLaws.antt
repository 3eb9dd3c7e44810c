-- What each writer of a fresh script puts in front of the pieces that follow, and that some of it is left out.
use Prim.Native.Nat.{ℕ}
use Prim.Native.String.{String}
use mathlib.Core.Bool.{Bool, true, false}
use mathlib.Core.List.{List, [], ◌∷◌, ◌++◌, append_assoc, append-nil}
use mathlib.Core.Option.{Option, none, some}
use mathlib.Core.Path.{◌≡◌, refl, sym, ap, ◌∙◌}
use Rattle.ast.specs.Tree.{ValueExpr, scalar, array, LoopSpec, once, times, forever, ping_pong, ping_pong_times}
use Rattle.ast.specs.Tree.{KeyframeTime, percent, seconds, StaggerPatternSpec, grid, random, center_out, edges_in}
use Rattle.codec.proofs.Laws.{All}
use Rattle.pieces.specs.Pieces.{Piece}
use Rattle.fresh.specs.Meaning.{EasingSense, named, cubic_bezier, steps, wiggle, rough, slow_mo, FrameSense}
use Rattle.fresh.specs.Fresh.{Writer, negative, minus_if, signed_by, f32, u32, more_floats}
use Rattle.fresh.specs.Fresh.{floats, value, truth, Pair, more_pairs, pairs, unless}
use Rattle.fresh.specs.Fresh.{easing, loop_mode, choose, offset, time, frame_easing, frame, pattern}
use Rattle.grammar.specs.Grammar.{origin_names}
use Rattle.law_rules.proofs.ListLaws.{◌also◌}
use Rattle.law_given_back.specs.Omitted.{LeftOut}

-- ---- a writer puts its own pieces in front of those that follow

pub record Puts (w : Writer) : Type 0 where
  pub fronts : (us : List Piece) → w us ≡ w [] ++ us

infixr 5 ◌▹◌
pub ◌▹◌ : {v w : Writer} → Puts v → Puts w → Puts (λ us. v (w us))
◌▹◌ {v} {w} x y = record {
  fronts = λ us. x.fronts (w us) ∙ ap (λ (l : List Piece). v [] ++ l) (y.fronts us)
      ∙ sym (append_assoc (v []) (w []) us) ∙ ap (λ (l : List Piece). l ++ us) (sym (x.fronts (w [])));
}

pub one : {p : Piece} → Puts (λ us. p ∷ us)
one = record { fronts = λ us. refl }

pub nothing : Puts (λ us. us)
nothing = record { fronts = λ us. refl }

-- ---- a writer that puts some piece, and more

pub record Some (w : Writer) : Type 0 where
  pub first : Piece
  pub more : List Piece
  pub puts : (us : List Piece) → w us ≡ first ∷ more ++ us

pub starts : {w : Writer} {p : Piece} → Puts w → Some (λ us. p ∷ w us)
starts {w} {p} h = record { first = p; more = w []; puts = λ us. ap (λ (l : List Piece). p ∷ l) (h.fronts us) }

pub some_puts : {w : Writer} → Some w → Puts w
some_puts x = record {
  fronts = λ us. x.puts us ∙ ap (λ (l : List Piece). x.first ∷ l ++ us) (sym (append-nil x.more))
      ∙ ap (λ (l : List Piece). l ++ us) (sym (x.puts []));
}

-- ---- values

minus_puts : (b : Bool) → Puts (minus_if b)
unfolding minus_if
minus_puts true = one
minus_puts false = nothing

pub f32_puts : (b : ℕ) → Puts (f32 b)
unfolding f32 signed_by
f32_puts b = minus_puts (negative b) ▹ one

pub u32_puts : (n : ℕ) → Puts (u32 n)
unfolding u32
u32_puts n = one

more_puts : (xs : List ℕ) → Puts (more_floats xs)
unfolding more_floats
more_puts [] = nothing
more_puts (x ∷ xs) = one ▹ f32_puts x ▹ more_puts xs

floats_puts : (xs : List ℕ) → Puts (floats xs)
unfolding floats
floats_puts [] = nothing
floats_puts (x ∷ xs) = f32_puts x ▹ more_puts xs

pub value_puts : (v : ValueExpr) → Puts (value v)
unfolding value
value_puts (scalar x) = f32_puts x
value_puts (array xs) = one ▹ floats_puts xs ▹ one

pub truth_puts : (b : Bool) → Puts (truth b)
unfolding truth
truth_puts true = one
truth_puts false = one

-- fields in parentheses, each of which puts its own
abbrev pub PairPuts : Pair → Type 0
PairPuts f = Puts f.1

more-pairs_puts : (fs : List Pair) → All PairPuts fs → Puts (more_pairs fs)
unfolding more_pairs
more-pairs_puts [] h = nothing
more-pairs_puts (f ∷ fs) h = one ▹ one ▹ one ▹ h.0 ▹ more-pairs_puts fs h.1

pairs_puts : (fs : List Pair) → All PairPuts fs → Puts (pairs fs)
unfolding pairs
pairs_puts [] h = nothing
pairs_puts (f ∷ fs) h = one ▹ one ▹ h.0 ▹ more-pairs_puts fs h.1

unless_puts : (b : Bool) (f : Pair) (fs : List Pair) → PairPuts f → All PairPuts fs → All PairPuts (unless b f fs)
unfolding unless
unless_puts true f fs h g = g
unless_puts false f fs h g = (h, g)

pub choose_puts : (names : List String) (k : ℕ) → Puts (choose names k)
unfolding choose
choose_puts names k = one

pub loop_puts : (m : LoopSpec) → Puts (loop_mode m)
unfolding loop_mode
loop_puts once = one
loop_puts (times n) = one ▹ one ▹ u32_puts n ▹ one
loop_puts forever = one
loop_puts ping_pong = one
loop_puts (ping_pong_times n) = one ▹ one ▹ u32_puts n ▹ one

pub offset_puts : (r : ℕ × ℕ) → Puts (offset r)
unfolding offset
offset_puts r = f32_puts r.0 ▹ one ▹ f32_puts r.1

pub easing_some : (e : EasingSense) → Some (easing e)
unfolding easing
easing_some (named true x) = starts (one ▹ one)
easing_some (named false x) = starts nothing
easing_some (cubic_bezier a b c d) = starts (one ▹ f32_puts a ▹ one ▹ f32_puts b ▹ one ▹ f32_puts c ▹ one ▹ f32_puts d ▹ one)
easing_some (steps n) = starts (one ▹ u32_puts n ▹ one)
easing_some (wiggle n) = starts (one ▹ u32_puts n ▹ one)
easing_some (rough a n) =
    starts (one ▹ pairs_puts _ (unless_puts _ _ _ (f32_puts a) (unless_puts _ _ _ (u32_puts n) tt)) ▹ one)
easing_some (slow_mo a b) =
    starts (one ▹ pairs_puts _ (unless_puts _ _ _ (f32_puts a) (unless_puts _ _ _ (f32_puts b) tt)) ▹ one)

pub easing_puts : (e : EasingSense) → Puts (easing e)
easing_puts e = some_puts (easing_some e)

pub pattern_puts : (p : StaggerPatternSpec) → Puts (pattern p)
unfolding pattern
pattern_puts (grid c r o) =
    one ▹ one ▹ pairs_puts _ (u32_puts c also u32_puts r also unless_puts _ _ _ (choose_puts origin_names o) tt) ▹ one
pattern_puts (random n a b) =
    one ▹ one
    ▹ pairs_puts _ (unless_puts _ _ _ (u32_puts n) (unless_puts _ _ _ (f32_puts a) (unless_puts _ _ _ (f32_puts b) tt))) ▹ one
pattern_puts center_out = one
pattern_puts edges_in = one

-- ---- frames

pub time_puts : (k : KeyframeTime) → Puts (time k)
unfolding time signed_by
time_puts (percent b) = minus_puts (negative b) ▹ one ▹ one
time_puts (seconds b) = f32_puts b

frame-easing_puts : (o : Option EasingSense) → Puts (frame_easing o)
unfolding frame_easing
frame-easing_puts none = nothing
frame-easing_puts (some e) = easing_puts e

pub frame_puts : (f : FrameSense) → Puts (frame f)
unfolding frame
frame_puts f = time_puts f.time ▹ one ▹ value_puts f.value ▹ frame-easing_puts f.easing

-- ---- the pieces that are left out

-- it is left out
pub drops : {w : Writer} → Some w → (us : List Piece) → LeftOut (w us) us
drops x us = record { before = []; first = x.first; more = x.more; behind = us; whole = x.puts us; rest = refl }

-- what is left out behind some pieces
pub further : {w : Writer} → Puts w → {ps qs : List Piece} → LeftOut ps qs → LeftOut (w ps) (w qs)
further {w} h {ps} {qs} x = record {
  before = w [] ++ x.before;
  first = x.first;
  more = x.more;
  behind = x.behind;
  whole = h.fronts ps ∙ ap (λ (l : List Piece). w [] ++ l) x.whole
      ∙ sym (append_assoc (w []) x.before (x.first ∷ x.more ++ x.behind));
  rest = h.fronts qs ∙ ap (λ (l : List Piece). w [] ++ l) x.rest ∙ sym (append_assoc (w []) x.before x.behind);
}
