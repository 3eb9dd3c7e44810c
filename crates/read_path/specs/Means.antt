-- What a path's fields keep, its record and its end. Contracts cite these.
use Rattle.std.specs.Prelude.{ℕ, List, [], ◌∷◌, ◌≡◌}
use Rattle.number.specs.Number.{bits}
use Rattle.sheet_encode.specs.Means.{Plain, PlainOptRange, PlainOptEasing, span_of, opt_bool_of, opt_range_of, opt_easing_of, opt_loop_of}
use Rattle.grammar.specs.Rule.{Rule, refused}
use Rattle.grammar.specs.Fields.{Fields, a_range, parse_field_list, last_truth, last_easing, last_loop_mode, last_range}
use Rattle.grammar.specs.Grammar.{offset, path_fields}
use Rattle.read_cursor.specs.Means.{run, Took}
use Rattle.read_cursor.specs.declared.Cursor.{Cursor}
use Rattle.read_values.specs.declared.PairRead.{PairRead}
use Rattle.read_values.specs.declared.PairRead.TheVariants as pair
use Rattle.read_node.specs.CellMeans.{Cell, float, truth, easing, loop_mode, range, StepTook, StepRefused, ListTook}
use Rattle.read_path.specs.declared.PathFields.{PathFields}
use Rattle.read_path.specs.declared.PathStep.{PathStep}
use Rattle.read_path.specs.declared.PathStep.TheVariants as path
use Rattle.number.specs.Time.{Key}
use Rattle.ast.specs.Tree.{Leaf}
use Rattle.ast.specs.declared.PathSpec.{PathSpec}
use Rattle.ast.specs.Tree as tree
use Rattle.read_node.specs.Means.{timed_end}

abbrev pub path_cells : PathFields → List Cell
path_cells f =
    float "duration" f.duration ∷ easing f.easing
    ∷ truth "auto_rotate" f.auto_rotate ∷ range f.offset
    ∷ loop_mode f.loop_mode ∷ []

-- `start..end`
abbrev pub OffsetMeans : List ℕ → Cursor → PairRead → Type 0
OffsetMeans s c (pair.Is a b m) = Took 1 s c m offset (a_range (bits a, bits b)) × Plain a × Plain b
OffsetMeans s c (pair.Refused r q) = run s c offset ≡ refused r q

abbrev pub PathStepMeans : List ℕ → Cursor → ℕ → PathFields → PathStep → Type 0
PathStepMeans s c i f (path.Is g m) = StepTook s c m path_fields i (path_cells f) (path_cells g)
PathStepMeans s c i f (path.Refused r q) = StepRefused s c path_fields i r q

abbrev pub PathListMeans : List ℕ → Cursor → PathStep → Type 0
PathListMeans s c (path.Is f m) = ListTook s c m (parse_field_list path_fields []) (path_cells f)
PathListMeans s c (path.Refused r q) = run s c (parse_field_list path_fields []) ≡ refused r q

abbrev pub PlainPath : PathSpec → Type 0
PlainPath x = Plain x.duration × PlainOptEasing x.easing × PlainOptRange x.offset

abbrev pub path_of : PathSpec → Leaf Key
path_of x = Leaf.path (record {
  target = span_of x.target;
  svg = span_of x.svg;
  duration = bits x.duration;
  easing = opt_easing_of x.easing;
  auto_rotate = opt_bool_of x.auto_rotate;
  offset = opt_range_of x.offset;
  loop_mode = opt_loop_of x.loop_mode;
})

-- path
abbrev pub path_leaf : tree.Span → tree.Span → Fields → ℕ → Leaf Key
path_leaf target svg fs d = Leaf.path (record {
  target = target;
  svg = svg;
  duration = d;
  easing = last_easing fs;
  auto_rotate = last_truth "auto_rotate" fs;
  offset = last_range fs;
  loop_mode = last_loop_mode fs;
})

abbrev pub path_end : tree.Span → tree.Span → Rule (Leaf Key)
path_end target svg = timed_end path_fields (path_leaf target svg)
