-- Laws of the fields of `grid` and `random`, and of patterns.
use Rattle.std.specs.Prelude.{Some, None}
use Prim.Native.Nat.{ℕ}
use Prim.Native.String.{String}
use mathlib.Core.List.{List, []}
use mathlib.Core.Path.{◌≡◌, refl}
use native.Mathlib.Omega.{arith}
use lib.Ieee.{Float, binary32, of_bits, to_bits, round}
use Rattle.text.specs.Bytes.{bytes, same}
use Rattle.text.specs.Words.{default}
use Rattle.number.specs.Number.{bits}
use Rattle.ast.specs.Tree.{StaggerPatternSpec, grid, random}
use Rattle.sheet_encode.specs.Means.{Plain, opt_word_of, opt_case_of, pattern_of}
use Rattle.error.specs.declared.Refusal.{Refusal}
use Rattle.error.specs.declared.Refusal.TheVariants.{Malformed, StaggerGridIncomplete}
use Rattle.grammar.specs.Rule.{Rule, refused, the_byte, inside_byte, leave, choice_in}
use Rattle.grammar.specs.Fields.{a_number, last, pairs}
use Rattle.grammar.specs.Values.{f32_of}
use Rattle.grammar.specs.Grammar.{parse_grid_origin, origin, grid_fields, random_fields, random_pattern, patterns, parse_stagger_pattern}
use Rattle.read_cursor.specs.WordMeans.{at_of}
use Rattle.read_cursor.specs.Means.{run, Took}
use Rattle.read_cursor.specs.declared.Cursor.{Cursor}
use Rattle.read_cursor.proofs.CursorLaws.{fewer}
use Rattle.read_values.specs.Means.{Holds}
use Rattle.read_values.proofs.ValueLaws.{inside_any}
use Rattle.read_values.proofs.CurveLaws.{float_or}
use Rattle.read_values.specs.Means.{FloatOr, names_of}
use Rattle.read_heads.specs.Means.{GridHeld, RandomHeld, TookRows, grid_inside, PatternMeans, NamedMeans}
use Rattle.read_heads.specs.declared.GridFields.{GridFields}
use Rattle.read_heads.specs.declared.RandomFields.{RandomFields}
use Rattle.read_heads.specs.declared.PatternRead.{PatternRead}
use Rattle.read_heads.specs.declared.PatternRead.TheVariants as read
use Rattle.read_values.proofs.NameLaws.{named_row, named_took, named_refused}
use Rattle.read_heads.proofs.RowLaws.{Each, by_row}

-- ---- grid

pub took_origin : (s : List ℕ) (c m : Cursor) (k : ℕ) → Took 1 s c m parse_grid_origin k → Took 1 s c m origin (a_number k)
unfolding origin
took_origin s c m k t = record { is = rw t.is; low = t.low; ready = t.ready }

pub no_origin : (s : List ℕ) (c : Cursor) (r : Refusal) (q : ℕ) → run s c parse_grid_origin ≡ refused r q → run s c origin ≡ refused r q
unfolding origin
no_origin s c r q h = rw h

pub grid_none : GridHeld (record { cols = None; rows = None; origin = None }) []
unfolding last
grid_none = record { cols = refl; rows = refl; origin = refl }

pub grid_cols : (f : GridFields) (n : ℕ)
    → Holds GridHeld f (record { cols = Some n; rows = f.rows; origin = f.origin }) (bytes "cols") (a_number n)
unfolding last same
grid_cols f n fs h = record { cols = refl; rows = h.rows; origin = h.origin }

pub grid_rows : (f : GridFields) (n : ℕ)
    → Holds GridHeld f (record { cols = f.cols; rows = Some n; origin = f.origin }) (bytes "rows") (a_number n)
unfolding last same
grid_rows f n fs h = record { cols = h.cols; rows = refl; origin = h.origin }

pub grid_origin : (f : GridFields) (k : ℕ)
    → Holds GridHeld f (record { cols = f.cols; rows = f.rows; origin = Some k }) (bytes "origin") (a_number k)
unfolding last same
grid_origin f k fs h = record { cols = h.cols; rows = h.rows; origin = refl }

-- ---- random

pub random_none : RandomHeld (record { seed = None; min = None; max = None }) []
unfolding last
random_none = record { seed = refl; min = refl; plain-min = tt; max = refl; plain-max = tt }

pub random_seed : (f : RandomFields) (n : ℕ)
    → Holds RandomHeld f (record { seed = Some n; min = f.min; max = f.max }) (bytes "seed") (a_number n)
unfolding last same
random_seed f n fs h = record { seed = refl; min = h.min; plain-min = h.plain-min; max = h.max; plain-max = h.plain-max }

pub random_min : (f : RandomFields) (x : Float) → Plain x
    → Holds RandomHeld f (record { seed = f.seed; min = Some x; max = f.max }) (bytes "min") (a_number (bits x))
unfolding last same
random_min f x p fs h = record { seed = h.seed; min = refl; plain-min = p; max = h.max; plain-max = h.plain-max }

pub random_max : (f : RandomFields) (x : Float) → Plain x
    → Holds RandomHeld f (record { seed = f.seed; min = f.min; max = Some x }) (bytes "max") (a_number (bits x))
unfolding last same
random_max f x p fs h = record { seed = h.seed; min = h.min; plain-min = h.plain-min; max = refl; plain-max = p }

-- ---- patterns

module _ (s : List ℕ) (c m : Cursor) (f : GridFields) (h : TookRows GridHeld grid_fields s c m f) where
  pub no_cols : f.cols ≡ None → run s c grid_inside ≡ refused StaggerGridIncomplete (at_of m)
  unfolding grid_inside
  no_cols e = rw (h.1.is, ← h.2.cols, e, h.1.ready.head.place)

  pub no_rows : (a : ℕ) → f.cols ≡ Some a → f.rows ≡ None
      → run s c grid_inside ≡ refused StaggerGridIncomplete (at_of m)
  unfolding grid_inside
  no_rows a d e = rw (h.1.is, ← h.2.cols, d, ← h.2.rows, e, h.1.ready.head.place)

  pub took_grid : (a b k : ℕ) → f.cols ≡ Some a → f.rows ≡ Some b
      → k ≡ default (opt_case_of f.origin) 4 → Took 0 s c m grid_inside (grid a b k)
  unfolding grid_inside
  took_grid a b k d e o = record {
    is = rw (h.1.is, ← h.2.cols, d, ← h.2.rows, e, ← h.2.origin, o);
    low = h.1.low;
    ready = h.1.ready;
  }

-- the defaults of `random`: 0.0 and 0.1
pub nought : bits (of_bits binary32 0) ≡ f32_of 0 1
unfolding bits f32_of round to_bits of_bits
nought = refl

pub tenth : bits (of_bits binary32 1036831949) ≡ f32_of 1 10
unfolding bits f32_of round to_bits of_bits
tenth = refl

module _ (s : List ℕ) (c m n u : Cursor) (f : RandomFields) (o : Took 1 s c m (the_byte 40) tt)
    (h : TookRows RandomHeld random_fields s m n f) (l : Took 0 s n u (leave 41) tt) where
  pub took_random : (k : ℕ) (x y a b : Float) → k ≡ default (opt_word_of f.seed) 0
      → FloatOr f.min a x → FloatOr f.max b y → bits a ≡ f32_of 0 1
      → bits b ≡ f32_of 1 10 → Plain a → Plain b
      → Took 1 s c u random_pattern (random k (bits x) (bits y)) × (Plain x × Plain y)
  unfolding random_pattern
  took_random k x y a b e i j p q v w = (
    record {
      is = rw (
        (inside_any s 40 (pairs random_fields) c m o n u h.0 h.1 l).is,
        float_or i h.2.min p,
        float_or j h.2.max q,
        e,
        h.2.seed,
      );
      low = omega (arith, o.low, h.1.low, l.low);
      ready = l.ready;
    },
    (i.plain h.2.plain-min v, j.plain h.2.plain-max w),
  )

pub no_random : (s : List ℕ) (c : Cursor) (r : Refusal) (q : ℕ)
    → run s c (inside_byte 40 (pairs random_fields)) ≡ refused r q
    → run s c random_pattern ≡ refused r q
unfolding random_pattern
no_random s c r q h = rw h

-- a pattern at least a byte long, or any
pub any_pattern : (s : List ℕ) (c : Cursor) (p : Rule StaggerPatternSpec) (a : PatternRead)
    → PatternMeans 1 s c p a → PatternMeans 0 s c p a
any_pattern s c p (read.Is x m) h = (fewer h.0, h.1)
any_pattern s c p (read.Refused r q) h = h

-- behind a name, at the row that it names
pub by_pattern : (s : List ℕ) (c : Cursor) (i : ℕ) (a : PatternRead)
    → Each (λ (row : String × Rule StaggerPatternSpec). PatternMeans 0 s c row.1 a) i 0 patterns
    → NamedMeans s c i a
by_pattern s c i a h row e = by_row (λ (row : String × Rule StaggerPatternSpec). PatternMeans 0 s c row.1 a) i patterns row e h

-- from the name on
pub named-pattern : (s : List ℕ) (c m : Cursor) (i : ℕ) (a : PatternRead)
    → Took 1 s c m (choice_in Malformed (names_of patterns)) i
    → NamedMeans s m i a → PatternMeans 1 s c parse_stagger_pattern a
unfolding parse_stagger_pattern
named-pattern s c m i (read.Is x n) k h = (
  named_took s c Malformed patterns m i k 0 n (pattern_of x) (λ row e. (h row e).0),
  let y = named_row s c Malformed patterns m i k in (h y.0 y.1).1,
)
named-pattern s c m i (read.Refused r q) k h = named_refused s c Malformed patterns m i k r q h
