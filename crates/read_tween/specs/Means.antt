-- What a tween's fields keep, and what is written of them. Contracts cite these.
use Rattle.std.specs.Prelude.{ℕ, List, [], ◌∷◌, ◌++◌, ◌≡◌, Float}
use Rattle.grammar.specs.Rule.{refused}
use Rattle.grammar.specs.Fields.{parse_field_list}
use Rattle.grammar.specs.Grammar.{tween_fields}
use Rattle.read_cursor.specs.Means.{run}
use Rattle.read_cursor.specs.declared.Cursor.{Cursor}
use Rattle.read_node.specs.CellMeans.{Cell, float, whole, ever, easing, loop_mode, StepTook, StepRefused, ListTook}
use Rattle.read_tween.specs.declared.TweenFields.{TweenFields}
use Rattle.read_tween.specs.declared.TweenStep.{TweenStep}
use Rattle.read_tween.specs.declared.TweenStep.TheVariants as step
use Rattle.number.specs.Number.{bits}
use Rattle.codec.specs.Codec.{opt}
use Rattle.sheet.specs.Sheet.{word, flag, easing_form, loop_form}
use Rattle.sheet_encode.specs.Means.{Plain, PlainOptFloat, PlainOptEasing, opt_float_of, opt_word_of, opt_easing_of, opt_loop_of}

abbrev pub tween_cells : TweenFields → List Cell
tween_cells f =
    float "duration" f.duration ∷ easing f.easing ∷ float "delay" f.delay ∷ float "time_scale" f.time_scale
    ∷ loop_mode f.loop_mode ∷ float "snap" f.snap ∷ whole "round" f.round ∷ ever "reverse" f.reverse ∷ []

abbrev pub TweenStepMeans : List ℕ → Cursor → ℕ → TweenFields → TweenStep → Type 0
TweenStepMeans s c i f (step.Is g m) = StepTook s c m tween_fields i (tween_cells f) (tween_cells g)
TweenStepMeans s c i f (step.Refused r q) = StepRefused s c tween_fields i r q

abbrev pub TweenListMeans : List ℕ → Cursor → TweenStep → Type 0
TweenListMeans s c (step.Is f m) = ListTook s c m (parse_field_list tween_fields []) (tween_cells f)
TweenListMeans s c (step.Refused r q) = run s c (parse_field_list tween_fields []) ≡ refused r q

-- ---- the record

abbrev pub PlainTween : Float → TweenFields → Type 0
PlainTween d x =
    Plain d × PlainOptEasing x.easing × PlainOptFloat x.delay × PlainOptFloat x.time_scale × PlainOptFloat x.snap

-- the end of a tween's record, d being the duration, for a text of n bytes
abbrev pub tween_bytes : ℕ → Float → TweenFields → List ℕ
tween_bytes n d x =
    word.write (bits d)
    ++ ((opt (easing_form n)).write (opt_easing_of x.easing)
    ++ ((opt word).write (opt_float_of x.delay)
    ++ ((opt word).write (opt_float_of x.time_scale)
    ++ ((opt loop_form).write (opt_loop_of x.loop_mode)
    ++ ((opt word).write (opt_float_of x.snap)
    ++ ((opt word).write (opt_word_of x.round)
    ++ flag.write x.reverse))))))
