-- parser.rs, "Numeric helpers" and "Value / Easing / Loop primitives", callees first.
use Rattle.std.specs.Prelude.{ℕ, Bool, true, false, ◌&&◌, List, [], ◌∷◌, ◌++◌, length}
use Prim.Native.String.{String}
use Rattle.std.specs.Float.{binary32}
use Rattle.std.specs.Float.Ieee.{round}
use Rattle.text.specs.Bytes.{bytes, same}
use Rattle.text.specs.Words.{under, default}
use Rattle.number.specs.Number.{nearest, whole, bits}
use Rattle.number.specs.Rounded.{number_rounded}
use Rattle.ast.specs.Tree.{
  Span,
  ValueExpr,
  scalar,
  array,
  EasingSpec,
  named,
  cubic_bezier,
  steps,
  wiggle,
  rough,
  slow_mo,
  LoopSpec,
  once,
  times,
  forever,
  ping_pong,
  ping_pong_times,
}
use Rattle.grammar.specs.Fields.{Content, a_number, a_truth, an_easing, a_loop_mode, a_value, Table, pairs, last_number}
use Rattle.grammar.specs.Rule.{Rule, ◌>>=◌, ◌>>◌, give, refuse, need, if, sees, sees_two, sees_word, sees_number}
use Rattle.grammar.specs.Rule.{sees_whole, skip, the, both, word, text, signed, counted, inside, list}
use Rattle.error.specs.declared.Refusal.TheVariants.{Missing, Malformed}

-- a name as its place
unfoldable pub ident : Rule Span
ident = do
  w ← word
  give (record { start = w.0; size = length w.1 })

-- a string as the place of what stands between its quotes
unfoldable pub string : Rule Span
string = do
  s ← text
  give (record { start = s.0; size = s.1 })

-- `LitBool`
unfoldable pub truth : Rule Bool
truth = if (sees_word "true") (skip >> give true) (if (sees_word "false") (skip >> give false) (refuse Missing))

-- ---- numeric helpers

-- parse_float
unfoldable pub parse_float : Rule ℕ
parse_float = do
  w ← signed sees_number Malformed
  counted (number_rounded w.0 w.1)
  give (bits (nearest w.0 w.1))

-- parse_uint
unfoldable pub parse_uint : Rule ℕ
parse_uint = do
  w ← signed sees_whole Missing
  need Malformed (whole w.0 w.1)

-- parse_float_in_parens
unfoldable pub parse_float_in_parens : Rule ℕ
parse_float_in_parens = inside "(" parse_float

-- `,` and an f32
unfoldable pub comma_float : Rule ℕ
comma_float = the "," >> parse_float

-- two f32 with a `,` between them
unfoldable pub two_floats : Rule (ℕ × ℕ)
two_floats = do
  a ← parse_float
  b ← comma_float
  give (a, b)

-- parse_two_floats_in_parens
unfoldable pub parse_two_floats_in_parens : Rule (ℕ × ℕ)
parse_two_floats_in_parens = inside "(" two_floats

-- `parse_uint` in parentheses
unfoldable pub parse_uint_in_parens : Rule ℕ
parse_uint_in_parens = inside "(" parse_uint

-- ---- value, easing, loop

-- an element of an array, onto those before it
unfoldable pub array_item : List ℕ → Rule (List ℕ)
array_item xs = do
  x ← parse_float
  give (xs ++ x ∷ [])

unfoldable pub array_items : Rule (List ℕ)
array_items = list array_item []

-- parse_value
unfoldable pub parse_value : Rule ValueExpr
parse_value = if (sees "[") (do
  xs ← inside "[" array_items
  give (array xs)) (do
    x ← parse_float
    give (scalar x))

-- ---- fields of these

-- an f32
unfoldable pub number : Rule Content
number = parse_float >>= λ n. give (a_number n)

-- a u32
unfoldable pub count : Rule Content
count = parse_uint >>= λ n. give (a_number n)

unfoldable pub flag : Rule Content
flag = truth >>= λ b. give (a_truth b)

unfoldable pub value : Rule Content
value = parse_value >>= λ v. give (a_value v)

-- the f32 of a small fraction
unfoldable pub f32_of : ℕ → ℕ → ℕ
f32_of n d = bits (round binary32 false n d)

-- `,` and two f32
unfoldable pub comma_floats : Rule (ℕ × ℕ)
comma_floats = the "," >> two_floats

unfoldable pub four_floats : Rule EasingSpec
four_floats = do
  p ← two_floats
  q ← comma_floats
  give (cubic_bezier p.0 p.1 q.0 q.1)

-- `cubic_bezier(x1, y1, x2, y2)`
unfoldable pub bezier_curve : Rule EasingSpec
bezier_curve = inside "(" four_floats

unfoldable pub rough_fields : Table
rough_fields = ("strength", number) ∷ ("points", count) ∷ []

-- where they are absent: 0.5 and 8
abbrev pub strength_default : ℕ
strength_default = f32_of 1 2

abbrev pub points_default : ℕ
points_default = 8

-- `rough(strength: s, points: n)`
unfoldable pub rough_curve : Rule EasingSpec
rough_curve = do
  fs ← inside "(" (pairs rough_fields)
  give (rough (default (last_number "strength" fs) strength_default) (default (last_number "points" fs) points_default))

unfoldable pub slow_mo_fields : Table
slow_mo_fields = ("linear_ratio", number) ∷ ("power", number) ∷ []

-- where they are absent: 0.7 and 2
abbrev pub ratio_default : ℕ
ratio_default = f32_of 7 10

abbrev pub power_default : ℕ
power_default = f32_of 2 1

-- `slowmo(linear_ratio: r, power: p)`
unfoldable pub slow_mo_curve : Rule EasingSpec
slow_mo_curve = do
  fs ← inside "(" (pairs slow_mo_fields)
  give (slow_mo (default (last_number "linear_ratio" fs) ratio_default) (default (last_number "power" fs) power_default))

-- `steps(n)`
unfoldable pub steps_curve : Rule EasingSpec
steps_curve = parse_uint_in_parens >>= λ n. give (steps n)

-- `wiggle(n)`
unfoldable pub wiggle_curve : Rule EasingSpec
wiggle_curve = parse_uint_in_parens >>= λ n. give (wiggle n)

unfoldable pub curves : List (String × Rule EasingSpec)
curves =
    ("cubic_bezier", bezier_curve) ∷ ("steps", steps_curve) ∷ ("wiggle", wiggle_curve) ∷ ("rough", rough_curve) ∷ ("slowmo", slow_mo_curve) ∷ []

-- `Easing::Name`, behind `Easing`
unfoldable pub variant_easing : Rule EasingSpec
variant_easing = do
  both ":" ":"
  s ← ident
  give (named true s)

-- a name that is no curve's
unfoldable pub named_easing : ℕ × List ℕ → Rule EasingSpec
named_easing w =
    if (λ ts. same w.1 (bytes "Easing") && sees_two ":" ":" ts) variant_easing
    (give (named false (record { start = w.0; size = length w.1 })))

-- a curve by its word, or a name
unfoldable pub curve_or : ℕ × List ℕ → Rule EasingSpec
curve_or w = default (under curves w.1) (named_easing w)

-- parse_easing
unfoldable pub parse_easing : Rule EasingSpec
parse_easing = if (sees "(") (refuse Malformed) (word >>= curve_or)

-- `times(n)`
unfoldable pub times_mode : Rule LoopSpec
times_mode = parse_uint_in_parens >>= λ n. give (times n)

-- `ping_pong` and `ping_pong(n)`
unfoldable pub ping_pong_mode : Rule LoopSpec
ping_pong_mode = if (sees "(") (parse_uint_in_parens >>= λ n. give (ping_pong_times n)) (give ping_pong)

unfoldable pub loop_modes : List (String × Rule LoopSpec)
loop_modes = ("once", give once) ∷ ("forever", give forever) ∷ ("ping_pong", ping_pong_mode) ∷ ("times", times_mode) ∷ []

-- parse_loop_mode: "`ping_pong_times(n)` is refused with 8"
unfoldable pub parse_loop_mode : Rule LoopSpec
parse_loop_mode = do
  w ← word
  p ← need Malformed (under loop_modes w.1)
  p

unfoldable pub easing : Rule Content
easing = parse_easing >>= λ e. give (an_easing e)

unfoldable pub loop_mode : Rule Content
loop_mode = parse_loop_mode >>= λ m. give (a_loop_mode m)
