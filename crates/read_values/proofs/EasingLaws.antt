-- A word in an easing's place: a name, a name behind `Easing::`, or a curve.
use Prim.Native.Nat.{ℕ, ◌+◌, ◌≤◌}
use mathlib.Core.Bool.{Bool, true, false, ◌&&◌, cond}
use mathlib.Core.List.{List}
use mathlib.Core.Option.{none, some}
use mathlib.Core.Logic.{◌⊎◌, inl, inr}
use mathlib.Core.Path.{◌≡◌, refl, sym}
use native.Mathlib.Omega.{arith}
use lib.ListN.{length, drop, length-drop}
use lib.Seq.{length-take-le}
use Rattle.text.specs.Bytes.{bytes, same}
use Rattle.text.specs.Words.{under}
use Rattle.error.specs.declared.Refusal.TheVariants.{Missing}
use Rattle.ast.specs.Tree.{EasingSpec, LoopSpec, named}
use Rattle.ast.specs.declared.Span.{Span}
use Rattle.sheet_encode.specs.Means.{span_of}
use Rattle.grammar.specs.Rule.{got, refused, Rule, skip, refuse, ◌>>◌, sees_pair, both_bytes, word}
use Rattle.grammar.specs.Rule.{sees_byte}
use Rattle.grammar.specs.Values.{loop_modes, parse_loop_mode, parse_easing, ident, named_easing, variant_easing, curves, curve_or}
use Rattle.read_cursor.specs.Means.{notes, tokens, run, Took, spelled}
use Rattle.read_cursor.specs.declared.Cursor.{Cursor}
use Rattle.read_cursor.proofs.CursorLaws.{fewer}
use Rattle.read_values.specs.Means.{EasingMeans, NamedMeans, LoopMeans, ModeMeans}
use Rattle.read_values.specs.declared.EasingRead.{EasingRead}
use Rattle.read_values.specs.declared.EasingRead.TheVariants as easing
use Rattle.read_values.specs.declared.LoopRead.{LoopRead}
use Rattle.read_values.specs.declared.LoopRead.TheVariants as loop

-- two marks are there exactly if they are taken
pub pair_took : (s : List ℕ) (c m : Cursor) (a b : ℕ) → Took 1 s c m (both_bytes a b) tt → sees_pair a b (tokens s c) ≡ true
pair_took s c m a b t = go (sees_pair a b (tokens s c)) t.is
  where
    go : (x : Bool) → cond x (skip >> skip) (refuse Missing) (notes s c) (tokens s c) ≡ got tt (notes s m) (tokens s m) → x ≡ true
    go true e = refl
    go false e = absurd (let y : ◌≡◌ {A = ℕ} 0 1 = cc in omega arith)

pub pair_missing : (s : List ℕ) (c : Cursor) (a b q : ℕ) → run s c (both_bytes a b) ≡ refused Missing q → sees_pair a b (tokens s c) ≡ false
pair_missing s c a b q h = go (sees_pair a b (tokens s c)) h
  where
    go : (x : Bool) → cond x (skip >> skip) (refuse Missing) (notes s c) (tokens s c) ≡ refused Missing q → x ≡ false
    go true e = absurd (let y : ◌≡◌ {A = ℕ} 0 1 = cc in omega arith)
    go false e = refl

-- a name's length
pub spelled-length : (s : List ℕ) (x : Span) → x.start + x.size ≤ length s → length (spelled s x) ≡ x.size
spelled-length s x h = length-take-le x.size (drop x.start s) (rw length-drop (omega arith))

not-both : (x y : Bool) → (x ≡ false) ⊎ (y ≡ false) → (x && y) ≡ false
not-both true true (inl e) = e
not-both true true (inr e) = e
not-both true false h = refl
not-both false y h = refl

module _ (s : List ℕ) (c : Cursor) (x : Span) (l : x.start + x.size ≤ length s) where
  pub plain_name : (same (spelled s x) (bytes "Easing") ≡ false) ⊎ (sees_pair 58 58 (tokens s c) ≡ false)
      → run s c (named_easing (x.start, spelled s x)) ≡ got (named false (span_of x)) (notes s c) (tokens s c)
  unfolding named_easing
  plain_name h = rw (not-both _ _ h, spelled-length s x l)

  pub variant_took : same (spelled s x) (bytes "Easing") ≡ true → (m n : Cursor) (v : Span)
      → Took 1 s c m (both_bytes 58 58) tt → Took 1 s m n word (v.start, spelled s v)
      → v.start + v.size ≤ length s
      → Took 0 s c n (named_easing (x.start, spelled s x)) (named true (span_of v))
  unfolding named_easing variant_easing ident
  variant_took e m n v o t k = record {
    is = rw (e, pair_took s c m 58 58 o, o.is, t.is, spelled-length s v k);
    low = omega (arith, o.low, t.low);
    ready = t.ready;
  }

  pub variant_refused : same (spelled s x) (bytes "Easing") ≡ true → (m : Cursor) (q : ℕ)
      → Took 1 s c m (both_bytes 58 58) tt → run s m word ≡ refused Missing q
      → run s c (named_easing (x.start, spelled s x)) ≡ refused Missing q
  unfolding named_easing variant_easing ident
  variant_refused e m q o h = rw (e, pair_took s c m 58 58 o, o.is, h)

-- the code's test of a word
pub tested : (w v k : List ℕ) (b : Bool) → v ≡ w → b ≡ same v k → same w k ≡ b
tested w v k b e h = rw (← e) (sym h)

-- ---- a curve by its word, or a name

pub no_curve : (s : List ℕ) (c : Cursor) (w : ℕ × List ℕ) (a : EasingRead)
    → under curves w.1 ≡ none → NamedMeans s c (named_easing w) a
    → NamedMeans s c (curve_or w) a
unfolding curve_or
no_curve s c w (easing.Is e m) u h = rw u h
no_curve s c w (easing.Refused r q) u h = rw u h

pub some_curve : (s : List ℕ) (c : Cursor) (w : ℕ × List ℕ) (p : Rule EasingSpec) (a : EasingRead)
    → under curves w.1 ≡ some p → EasingMeans s c p a
    → NamedMeans s c (curve_or w) a
unfolding curve_or
some_curve s c w p (easing.Is e m) u h = (rw u (fewer h.0), h.1)
some_curve s c w p (easing.Refused r q) u h = rw u h

-- ---- a loop mode by its word

pub mode_found : (s : List ℕ) (c m : Cursor) (a : ℕ) (w : List ℕ) (p : Rule LoopSpec) (x : LoopRead)
    → Took 1 s c m word (a, w) → under loop_modes w ≡ some p
    → ModeMeans s m p x → LoopMeans s c parse_loop_mode x
unfolding parse_loop_mode
mode_found s c m a w p (loop.Is v n) t u h = record { is = rw (t.is, u, h.is); low = omega (arith, t.low, h.low); ready = h.ready }
mode_found s c m a w p (loop.Refused r q) t u h = rw (t.is, u, h)

-- a mode that takes something
pub mode_some : (s : List ℕ) (c : Cursor) (p : Rule LoopSpec) (x : LoopRead) → LoopMeans s c p x → ModeMeans s c p x
mode_some s c p (loop.Is v n) t = fewer t
mode_some s c p (loop.Refused r q) h = h

-- ---- an easing

pub easing-behind : (s : List ℕ) (c m : Cursor) (w : ℕ × List ℕ) (a : EasingRead)
    → sees_byte 40 (tokens s c) ≡ false → Took 1 s c m word w
    → NamedMeans s m (curve_or w) a → EasingMeans s c parse_easing a
unfolding parse_easing
easing-behind s c m w (easing.Is e n) b t h = (
  record { is = rw (b, t.is, h.0.is); low = omega (arith, t.low, h.0.low); ready = h.0.ready },
  h.1,
)
easing-behind s c m w (easing.Refused r q) b t h = rw (b, t.is, h)
