-- What a morph's fields keep, its record and its end. Contracts cite these.
use Rattle.std.specs.Prelude.{ℕ, List, [], ◌∷◌, ◌≡◌}
use Rattle.number.specs.Number.{bits}
use Rattle.sheet_encode.specs.Means.{Plain, PlainOptEasing, span_of, opt_easing_of}
use Rattle.grammar.specs.Rule.{Rule, refused}
use Rattle.grammar.specs.Fields.{Fields, parse_field_list, last_number, last_easing}
use Rattle.grammar.specs.Grammar.{morph_fields}
use Rattle.read_cursor.specs.Means.{run}
use Rattle.read_cursor.specs.declared.Cursor.{Cursor}
use Rattle.read_node.specs.CellMeans.{Cell, float, whole, easing, StepTook, StepRefused, ListTook}
use Rattle.read_morph.specs.declared.MorphFields.{MorphFields}
use Rattle.read_morph.specs.declared.MorphStep.{MorphStep}
use Rattle.read_morph.specs.declared.MorphStep.TheVariants as morph
use Rattle.number.specs.Time.{Key}
use Rattle.ast.specs.Tree.{Leaf}
use Rattle.ast.specs.declared.MorphSpec.{MorphSpec}
use Rattle.text.specs.Words.{default}
use Rattle.ast.specs.Tree as tree
use Rattle.read_node.specs.Means.{timed_end}

abbrev pub morph_cells : MorphFields → List Cell
morph_cells f = whole "samples" f.samples ∷ float "duration" f.duration ∷ easing f.easing ∷ []

abbrev pub MorphStepMeans : List ℕ → Cursor → ℕ → MorphFields → MorphStep → Type 0
MorphStepMeans s c i f (morph.Is g m) = StepTook s c m morph_fields i (morph_cells f) (morph_cells g)
MorphStepMeans s c i f (morph.Refused r q) = StepRefused s c morph_fields i r q

abbrev pub MorphListMeans : List ℕ → Cursor → MorphStep → Type 0
MorphListMeans s c (morph.Is f m) = ListTook s c m (parse_field_list morph_fields []) (morph_cells f)
MorphListMeans s c (morph.Refused r q) = run s c (parse_field_list morph_fields []) ≡ refused r q

abbrev pub PlainMorph : MorphSpec → Type 0
PlainMorph x = Plain x.duration × PlainOptEasing x.easing

abbrev pub morph_of : MorphSpec → Leaf Key
morph_of x =
    Leaf.morph (record {
      from = span_of x.from;
      to = span_of x.to;
      samples = x.samples;
      duration = bits x.duration;
      easing = opt_easing_of x.easing;
    })

-- morph
abbrev pub morph_leaf : tree.Span → tree.Span → Fields → ℕ → Leaf Key
morph_leaf from to fs d =
    Leaf.morph (record { from = from; to = to; samples = default (last_number "samples" fs) 32; duration = d; easing = last_easing fs })

abbrev pub morph_end : tree.Span → tree.Span → Rule (Leaf Key)
morph_end from to = timed_end morph_fields (morph_leaf from to)
