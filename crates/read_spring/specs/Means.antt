-- What a spring's fields keep, and what is written of them. Contracts cite these.
use Rattle.std.specs.Prelude.{ℕ, ◌*◌, ◌-◌, ◌≤◌, ◌+◌, List, [], ◌∷◌, ◌++◌, ◌≡◌, length, Option as Optional}
use Rattle.ast.specs.Tree.{ValueExpr}
use Rattle.sheet.specs.Sheet.{value_form, word, damping_form}
use Rattle.grammar.specs.Rule.{refused}
use Rattle.grammar.specs.Fields.{parse_field_list}
use Rattle.grammar.specs.Values.{parse_value}
use Rattle.grammar.specs.Grammar.{spring_fields}
use Rattle.read_cursor.specs.WordMeans.{at_of}
use Rattle.read_cursor.specs.Means.{run, Took}
use Rattle.read_cursor.specs.declared.Cursor.{Cursor}
use Rattle.read_node.specs.CellMeans.{Cell, float, case, damping, place, StepTook, StepRefused, ListTook, PlaceSays}
use Rattle.read_spring.specs.declared.SpringFields.{SpringFields}
use Rattle.read_spring.specs.declared.SpringStep.{SpringStep}
use Rattle.read_spring.specs.declared.SpringStep.TheVariants as step
use Rattle.read_spring.specs.declared.PastRead.{PastRead}
use Rattle.read_spring.specs.declared.PastRead.TheVariants as past
use Rattle.std.proofs.Math.Option.{Option}
use Rattle.text.specs.Limits.{text_limit}
use Rattle.codec.specs.Codec.{opt, below}
use Rattle.sheet_encode.specs.Means.{PlainOptFloat, PlainOptDamping, opt_float_of, opt_case_of, opt_damping_of}
use Rattle.sheet_encode.specs.WriteMeans.{Writes}

-- a number or an array is passed, and its text pays for its bytes
abbrev pub PastMeans : List ℕ → Cursor → PastRead → Type 0
PastMeans s c (past.Is m) = (v : ValueExpr) × Took 1 s c m parse_value v × (length (value_form.write v) ≤ 64 * (at_of m - at_of c))
PastMeans s c (past.Refused r q) = run s c parse_value ≡ refused r q

abbrev pub spring_cells : SpringFields → List Cell
spring_cells f =
    case "preset" f.preset ∷ float "stiffness" f.stiffness ∷ float "damping" f.damping ∷ float "mass" f.mass
    ∷ place f.velocity ∷ float "epsilon" f.epsilon ∷ case "integrator" f.integrator ∷ damping f.damping_mode ∷ []

abbrev pub SpringStepMeans : List ℕ → Cursor → ℕ → SpringFields → SpringStep → Type 0
SpringStepMeans s c i f (step.Is g m) = StepTook s c m spring_fields i (spring_cells f) (spring_cells g)
SpringStepMeans s c i f (step.Refused r q) = StepRefused s c spring_fields i r q

abbrev pub SpringListMeans : List ℕ → Cursor → SpringStep → Type 0
SpringListMeans s c (step.Is f m) = ListTook s c m (parse_field_list spring_fields []) (spring_cells f)
SpringListMeans s c (step.Refused r q) = run s c (parse_field_list spring_fields []) ≡ refused r q

-- ---- the record

-- a value stands at the place that is kept of one
abbrev pub Told : List ℕ → Optional Cursor → Type 0
Told s p = (v : Option ValueExpr) × (lo : ℕ) × (hi : ℕ) × PlaceSays s lo hi p v

-- the velocity v is written; a text of 16,384 bytes has none of more
pub record VelocityPut (b a : List ℕ) (at : ℕ) (v : Option ValueExpr) (q : ℕ) : Type 0 where
  pub writes : Writes b at ((opt value_form).write v) a q
  pub most : q ≤ at + 1 + 64 * text_limit

abbrev pub PlainSpring : SpringFields → Type 0
PlainSpring x =
    PlainOptFloat x.stiffness × PlainOptFloat x.damping
    × PlainOptFloat x.mass × PlainOptFloat x.epsilon
    × PlainOptDamping x.damping_mode

-- the end of a spring's record, v being the velocity
abbrev pub spring_bytes : SpringFields → Option ValueExpr → List ℕ
spring_bytes x v =
    (opt (below 5)).write (opt_case_of x.preset)
    ++ ((opt word).write (opt_float_of x.stiffness)
    ++ ((opt word).write (opt_float_of x.damping)
    ++ ((opt word).write (opt_float_of x.mass)
    ++ ((opt value_form).write v
    ++ ((opt word).write (opt_float_of x.epsilon)
    ++ ((opt (below 2)).write (opt_case_of x.integrator)
    ++ (opt damping_form).write (opt_damping_of x.damping_mode)))))))
