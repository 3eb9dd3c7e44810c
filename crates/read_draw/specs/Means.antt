-- What the fields of draw and preset keep, and the ends of these nodes. Contracts cite these.
use Rattle.std.specs.Prelude.{ℕ, List, [], ◌∷◌, ◌≡◌, None}
use Rattle.number.specs.Number.{bits}
use Rattle.sheet_encode.specs.Means.{Plain, PlainOptFloat, PlainOptEasing, span_of, opt_float_of, opt_easing_of}
use Rattle.grammar.specs.Rule.{Rule, refused, give, ◌>>=◌, ◌>>◌, if, sees, skip, inside}
use Rattle.grammar.specs.Fields.{Fields, parse_field_list, last_number, last_easing, pairs}
use Rattle.grammar.specs.Grammar.{draw_fields}
use Rattle.read_cursor.specs.Means.{run}
use Rattle.read_cursor.specs.declared.Cursor.{Cursor}
use Rattle.read_node.specs.CellMeans.{Cell, float, easing, StepTook, StepRefused, ListTook}
use Rattle.read_draw.specs.declared.DrawFields.{DrawFields}
use Rattle.read_draw.specs.declared.DrawStep.{DrawStep}
use Rattle.read_draw.specs.declared.DrawStep.TheVariants as draw
use Rattle.number.specs.Time.{Key}
use Rattle.ast.specs.Tree.{Leaf}
use Rattle.ast.specs.declared.DrawSpec.{DrawSpec}
use Rattle.ast.specs.declared.PresetCall.{PresetCall}
use Rattle.ast.specs.Tree as tree
use Rattle.read_node.specs.Means.{timed_end}

abbrev pub draw_cells : DrawFields → List Cell
draw_cells f = float "duration" f.duration ∷ easing f.easing ∷ []

abbrev pub no_draw_fields : DrawFields
no_draw_fields = record { duration = None; easing = None }

abbrev pub DrawStepMeans : List ℕ → Cursor → ℕ → DrawFields → DrawStep → Type 0
DrawStepMeans s c i f (draw.Is g m) = StepTook s c m draw_fields i (draw_cells f) (draw_cells g)
DrawStepMeans s c i f (draw.Refused r q) = StepRefused s c draw_fields i r q

-- fields that the rule p takes
abbrev pub DrawListMeans : List ℕ → Cursor → Rule Fields → DrawStep → Type 0
DrawListMeans s c p (draw.Is f m) = ListTook s c m p (draw_cells f)
DrawListMeans s c p (draw.Refused r q) = run s c p ≡ refused r q

-- ---- draw

abbrev pub PlainDraw : DrawSpec → Type 0
PlainDraw x = Plain x.duration × PlainOptEasing x.easing

abbrev pub draw_of : DrawSpec → Leaf Key
draw_of x = Leaf.draw (record { svg = span_of x.svg; duration = bits x.duration; easing = opt_easing_of x.easing })

-- draw
abbrev pub draw_leaf : tree.Span → Fields → ℕ → Leaf Key
draw_leaf svg fs d = Leaf.draw (record { svg = svg; duration = d; easing = last_easing fs })

abbrev pub draw_end : tree.Span → Rule (Leaf Key)
draw_end svg = timed_end draw_fields (draw_leaf svg)

-- ---- preset

abbrev pub PlainPreset : PresetCall → Type 0
PlainPreset x = PlainOptFloat x.duration × PlainOptEasing x.easing

abbrev pub preset_of : PresetCall → Leaf Key
preset_of x = Leaf.preset (record { name = span_of x.name; duration = opt_float_of x.duration; easing = opt_easing_of x.easing })

-- preset: fields in parentheses or not, and more of them behind a `,` or not
abbrev pub preset_pairs : Rule Fields
preset_pairs = if (sees "(") (inside "(" (pairs draw_fields)) (give [])

abbrev pub preset_fields : Rule Fields
preset_fields = preset_pairs >>= λ fs. if (sees ",") (skip >> parse_field_list draw_fields fs) (give fs)

abbrev pub preset_leaf : tree.Span → Fields → Leaf Key
preset_leaf name fs = Leaf.preset (record { name = name; duration = last_number "duration" fs; easing = last_easing fs })

abbrev pub preset_end : tree.Span → Rule (Leaf Key)
preset_end name = preset_fields >>= λ fs. give (preset_leaf name fs)
