-- What a color's fields keep, its record and its end. Contracts cite these.
use Rattle.std.specs.Prelude.{ℕ, List, [], ◌∷◌, ◌≡◌}
use Rattle.number.specs.Number.{bits}
use Rattle.sheet_encode.specs.Means.{Plain, PlainOptEasing, span_of, opt_easing_of}
use Rattle.grammar.specs.Rule.{Rule, refused, ◌>>=◌, ◌>>◌, both}
use Rattle.grammar.specs.Fields.{Fields, parse_field_list, last_number, last_easing}
use Rattle.grammar.specs.Grammar.{color_fields}
use Rattle.read_cursor.specs.Means.{run}
use Rattle.read_cursor.specs.declared.Cursor.{Cursor}
use Rattle.read_node.specs.CellMeans.{Cell, float, case, easing, StepTook, StepRefused, ListTook}
use Rattle.read_color.specs.declared.ColorFields.{ColorFields}
use Rattle.read_color.specs.declared.ColorStep.{ColorStep}
use Rattle.read_color.specs.declared.ColorStep.TheVariants as color
use Rattle.number.specs.Time.{Key}
use Rattle.ast.specs.Tree.{Leaf}
use Rattle.ast.specs.declared.ColorSpec.{ColorSpec}
use Rattle.text.specs.Words.{default}
use Rattle.ast.specs.Tree as tree
use Rattle.grammar.specs.Values.{string}
use Rattle.read_node.specs.Means.{timed_end}

abbrev pub color_cells : ColorFields → List Cell
color_cells f = float "duration" f.duration ∷ case "space" f.space ∷ easing f.easing ∷ []

abbrev pub ColorStepMeans : List ℕ → Cursor → ℕ → ColorFields → ColorStep → Type 0
ColorStepMeans s c i f (color.Is g m) = StepTook s c m color_fields i (color_cells f) (color_cells g)
ColorStepMeans s c i f (color.Refused r q) = StepRefused s c color_fields i r q

abbrev pub ColorListMeans : List ℕ → Cursor → ColorStep → Type 0
ColorListMeans s c (color.Is f m) = ListTook s c m (parse_field_list color_fields []) (color_cells f)
ColorListMeans s c (color.Refused r q) = run s c (parse_field_list color_fields []) ≡ refused r q

abbrev pub PlainColor : ColorSpec → Type 0
PlainColor x = Plain x.duration × PlainOptEasing x.easing

abbrev pub color_of : ColorSpec → Leaf Key
color_of x = Leaf.color (record {
  target = span_of x.target;
  from = span_of x.from;
  to = span_of x.to;
  duration = bits x.duration;
  space = x.space;
  easing = opt_easing_of x.easing;
})

-- color
abbrev pub color_leaf : tree.Span → tree.Span → tree.Span → Fields → ℕ → Leaf Key
color_leaf target from to fs d =
    Leaf.color
    (record { target = target; from = from; to = to; duration = d; space = default (last_number "space" fs) 0; easing = last_easing fs })

abbrev pub color_end : tree.Span → tree.Span → tree.Span → Rule (Leaf Key)
color_end target from to = timed_end color_fields (color_leaf target from to)

-- behind the `:`
abbrev pub color_strings : tree.Span → Rule (Leaf Key)
color_strings target = string >>= λ from. both "=" ">" >> (string >>= λ to. color_end target from to)
