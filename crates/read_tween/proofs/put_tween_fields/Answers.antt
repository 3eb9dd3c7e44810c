-- `read_tween::put_tween_fields` meets its contract.
use Prim.Native.Nat.{◌+◌, ◌<◌, ◌^◌}
use native.Mathlib.Omega.{arith}
use Rattle.number.specs.Number.{bits}
use Rattle.sheet_encode.proofs.EnumLaws.{easing-most, loop_most, opt-most}
use Rattle.sheet.specs.Sheet.{easing_form, loop_form}
use Rattle.sheet.proofs.FormLaws.{length-word}
use Rattle.sheet_encode.specs.Means.{opt_easing_of, opt_float_of, opt_loop_of, opt_word_of}
use Rattle.read_node.proofs.EndsLaws.{word-most}
use Rattle.sheet_encode.proofs.OverLaws.{writes_then}
use Rattle.read_tween.proofs.put_tween_fields.Goals.{After-put_float-easing_at, After-put_opt_easing-delay_at, After-put_opt_float-loop_at, After-put_opt_float-round_at, After-put_opt_float-scale_at, After-put_opt_loop-snap_at, After-put_opt_word-reverse_at}
use Rattle.read_tween.proofs.put_tween_fields.Goals as goal

-- how far each field ends at most
put_float_end : (w : After-put_float-easing_at) → w.put_float-easing_at.result + 60 < 2 ^ 31
put_float_end w = omega (arith, w.requires.0, w.put_float-easing_at.ensures.place, length-word (bits w.args.duration))

put-opt-easing_end : (w : After-put_opt_easing-delay_at) → w.put_opt_easing-delay_at.result + 42 < 2 ^ 31
put-opt-easing_end w =
    omega (
      arith,
      put_float_end (goal.at.After-put_opt_easing-delay_at w).After-put_float-easing_at,
      (w.put_opt_easing-delay_at.ensures 0).place,
      opt-most (easing_form 0) 17 (easing-most 0) (opt_easing_of w.args.x.easing),
    )

put-opt_float_end : (w : After-put_opt_float-scale_at) → w.put_opt_float-scale_at.result + 37 < 2 ^ 31
put-opt_float_end w = omega (arith, put-opt-easing_end (goal.at.After-put_opt_float-scale_at w).After-put_opt_easing-delay_at, w.put_opt_float-scale_at.ensures.place, word-most (opt_float_of w.args.x.delay))

put-opt_float2_end : (w : After-put_opt_float-loop_at) → w.put_opt_float-loop_at.result + 32 < 2 ^ 31
put-opt_float2_end w = omega (arith, put-opt_float_end (goal.at.After-put_opt_float-loop_at w).After-put_opt_float-scale_at, w.put_opt_float-loop_at.ensures.place, word-most (opt_float_of w.args.x.time_scale))

put-opt_loop_end : (w : After-put_opt_loop-snap_at) → w.put_opt_loop-snap_at.result + 26 < 2 ^ 31
put-opt_loop_end w =
    omega
    (arith, put-opt_float2_end (goal.at.After-put_opt_loop-snap_at w).After-put_opt_float-loop_at, w.put_opt_loop-snap_at.ensures.place, opt-most loop_form 5 loop_most (opt_loop_of w.args.x.loop_mode))

put-opt_float3_end : (w : After-put_opt_float-round_at) → w.put_opt_float-round_at.result + 21 < 2 ^ 31
put-opt_float3_end w = omega (arith, put-opt_loop_end (goal.at.After-put_opt_float-round_at w).After-put_opt_loop-snap_at, w.put_opt_float-round_at.ensures.place, word-most (opt_float_of w.args.x.snap))

put-opt-word_end : (w : After-put_opt_word-reverse_at) → w.put_opt_word-reverse_at.result + 16 < 2 ^ 31
put-opt-word_end w = omega (arith, put-opt_float3_end (goal.at.After-put_opt_word-reverse_at w).After-put_opt_float-round_at, w.put_opt_word-reverse_at.ensures.place, word-most (opt_word_of w.args.x.round))

pub put_opt_float-scale_at-requires : goal.put_opt_float-scale_at-requires
put_opt_float-scale_at-requires c = (omega (arith, put-opt-easing_end (goal.at.put_opt_float-scale_at-requires c).After-put_opt_easing-delay_at), c.requires.1.2)

pub put_opt_float-loop_at-requires : goal.put_opt_float-loop_at-requires
put_opt_float-loop_at-requires c = (omega (arith, put-opt_float_end (goal.at.put_opt_float-loop_at-requires c).After-put_opt_float-scale_at), c.requires.1.3)

pub put_opt_loop-snap_at-requires : goal.put_opt_loop-snap_at-requires
put_opt_loop-snap_at-requires c = omega (arith, put-opt_float2_end (goal.at.put_opt_loop-snap_at-requires c).After-put_opt_float-loop_at)

pub put_opt_float-round_at-requires : goal.put_opt_float-round_at-requires
put_opt_float-round_at-requires c = (omega (arith, put-opt_loop_end (goal.at.put_opt_float-round_at-requires c).After-put_opt_loop-snap_at), c.requires.1.4)

pub put_opt_word-reverse_at-requires : goal.put_opt_word-reverse_at-requires
put_opt_word-reverse_at-requires c = omega (arith, put-opt_float3_end (goal.at.put_opt_word-reverse_at-requires c).After-put_opt_float-round_at)

pub put_flag-requires : goal.put_flag-requires
put_flag-requires c = omega (arith, put-opt-word_end (goal.at.put_flag-requires c).After-put_opt_word-reverse_at)

pub returns : goal.returns
returns c =
    λ n. writes_then c.put_float-easing_at.ensures
    (writes_then (c.put_opt_easing-delay_at.ensures n)
    (writes_then c.put_opt_float-scale_at.ensures
    (writes_then c.put_opt_float-loop_at.ensures
    (writes_then c.put_opt_loop-snap_at.ensures
    (writes_then c.put_opt_float-round_at.ensures
    (writes_then c.put_opt_word-reverse_at.ensures c.put_flag.ensures))))))
