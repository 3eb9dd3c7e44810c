-- What the walk over a sheet, planed or not, tells. Contracts cite this, and no reader needs to believe it.
use Rattle.std.specs.Prelude.{◌≡◌, ℕ, ◌%◌, ◌^◌, Bool, true, false, List, length, Some, None, Option as Optional}
use Rattle.std.proofs.Math.Option.{Option, none, some}
use Rattle.codec.specs.Codec.{Form}
use Rattle.ast.specs.Tree.{ValueExpr, scalar, array, KeyframeTime, KeyframeEntry, single, holding}
use Rattle.sheet.specs.Sheet.{Node, Forest}
use Rattle.sheet_records.specs.Means.{count_form, kind_view}
use Rattle.sheet_records.specs.declared.Kind.{Kind}
use Rattle.sheet.specs.Sheet.{node_form_of, sheet_of}
use Rattle.planed.specs.Planes.{frame_numbers, leaf_numbers, numbers_of}
use Rattle.sheet_shape.specs.declared.Shape.{Shape}

-- whether a frame's value is one of its numbers
abbrev pub is_scalar : ValueExpr → Bool
is_scalar (scalar x) = true
is_scalar (array xs) = false

abbrev pub scalar_frame : KeyframeEntry KeyframeTime → Bool
scalar_frame e = is_scalar e.value

-- how many numbers there are, as a machine word counts them
abbrev pub wrapped : ℕ → ℕ
wrapped x = x % 2 ^ 64

unfoldable pub frame_tally : List (KeyframeEntry KeyframeTime) → ℕ
frame_tally es = wrapped (length (frame_numbers es))

abbrev pub node_numbers : Node → List ℕ
node_numbers (single p l) = leaf_numbers l
node_numbers (holding p b ns) = numbers_of ns

unfoldable pub node_tally : Node → ℕ
node_tally x = wrapped (length (node_numbers x))

unfoldable pub tally : Forest → ℕ
tally ns = wrapped (length (numbers_of ns))

-- a record whose frames' numbers have w bytes each
abbrev pub record_form_of : ℕ → ℕ → Form Node
record_form_of w n = node_form_of w n count_form

-- what a record says of its node
abbrev pub node_view : Node → Kind × ℕ
node_view x = (kind_view x, node_tally x)

-- what bytes stand for: nothing, or a tree, with the length of what stays of its sheet and the count of its numbers
abbrev pub ShapeMeans : ℕ → Option Forest → Optional Shape → Type 0
ShapeMeans n o None = o ≡ none
ShapeMeans n o (Some x) =
    (ns : Forest) × (o ≡ some ns) × (x.rest ≡ length ((sheet_of 0 n).write ns)) × (x.numbers ≡ length (numbers_of ns))
