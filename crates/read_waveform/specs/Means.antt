-- What a waveform's fields keep, its record and its end. Contracts cite these.
use Rattle.std.specs.Prelude.{ℕ, List, [], ◌∷◌, ◌≡◌}
use Rattle.grammar.specs.Rule.{refused, Rule, give, ◌>>=◌}
use Rattle.grammar.specs.Fields.{parse_field_list, Fields, last_number}
use Rattle.grammar.specs.Grammar.{waveform_fields}
use Rattle.read_cursor.specs.Means.{run}
use Rattle.read_cursor.specs.declared.Cursor.{Cursor}
use Rattle.read_node.specs.CellMeans.{Cell, float, whole, StepTook, StepRefused, ListTook}
use Rattle.read_waveform.specs.declared.WaveformFields.{WaveformFields}
use Rattle.read_waveform.specs.declared.WaveformStep.{WaveformStep}
use Rattle.read_waveform.specs.declared.WaveformStep.TheVariants as step
use Rattle.number.specs.Time.{Key}
use Rattle.ast.specs.Tree.{Leaf}
use Rattle.ast.specs.declared.WaveformSpec.{WaveformSpec}
use Rattle.sheet_encode.specs.Means.{PlainOptFloat, opt_float_of, opt_word_of}

abbrev pub waveform_cells : WaveformFields → List Cell
waveform_cells f =
    float "frequency" f.frequency ∷ float "amplitude" f.amplitude
    ∷ float "phase" f.phase ∷ float "duty_cycle" f.duty_cycle
    ∷ whole "seed" f.seed ∷ float "smoothness" f.smoothness
    ∷ float "duration" f.duration ∷ []

abbrev pub WaveformStepMeans : List ℕ → Cursor → ℕ → WaveformFields → WaveformStep → Type 0
WaveformStepMeans s c i f (step.Is g m) = StepTook s c m waveform_fields i (waveform_cells f) (waveform_cells g)
WaveformStepMeans s c i f (step.Refused r q) = StepRefused s c waveform_fields i r q

abbrev pub WaveformListMeans : List ℕ → Cursor → WaveformStep → Type 0
WaveformListMeans s c (step.Is f m) = ListTook s c m (parse_field_list waveform_fields []) (waveform_cells f)
WaveformListMeans s c (step.Refused r q) = run s c (parse_field_list waveform_fields []) ≡ refused r q

abbrev pub PlainWaveform : WaveformSpec → Type 0
PlainWaveform x =
    PlainOptFloat x.frequency × PlainOptFloat x.amplitude
    × PlainOptFloat x.phase × PlainOptFloat x.duty_cycle
    × PlainOptFloat x.smoothness
    × PlainOptFloat x.duration

abbrev pub waveform_of : WaveformSpec → Leaf Key
waveform_of x = Leaf.waveform (record {
  kind = x.kind;
  frequency = opt_float_of x.frequency;
  amplitude = opt_float_of x.amplitude;
  phase = opt_float_of x.phase;
  duty_cycle = opt_float_of x.duty_cycle;
  seed = opt_word_of x.seed;
  smoothness = opt_float_of x.smoothness;
  duration = opt_float_of x.duration;
})

-- waveform
abbrev pub waveform_leaf : ℕ → Fields → Leaf Key
waveform_leaf kind fs = Leaf.waveform (record {
  kind = kind;
  frequency = last_number "frequency" fs;
  amplitude = last_number "amplitude" fs;
  phase = last_number "phase" fs;
  duty_cycle = last_number "duty_cycle" fs;
  seed = last_number "seed" fs;
  smoothness = last_number "smoothness" fs;
  duration = last_number "duration" fs;
})

abbrev pub waveform_end : ℕ → Rule (Leaf Key)
waveform_end kind = parse_field_list waveform_fields [] >>= λ fs. give (waveform_leaf kind fs)
