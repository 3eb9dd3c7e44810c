-- `read_path::put_path` meets its contract.
use native.Mathlib.Omega.{arith}
use Rattle.number.specs.Number.{bits}
use Rattle.sheet_encode.specs.Means.{span_of, opt_bool_of, opt_range_of, opt_easing_of, opt_loop_of}
use Rattle.sheet_encode.proofs.OverLaws.{writes_then}
use Rattle.sheet.proofs.FormLaws.{length-word, length_span}
use Rattle.read_node.proofs.PutLaws.{opt-flag, opt_range, opt-easing, opt_loop}
use Rattle.read_path.proofs.put_path.Goals as goal

pub put_span-duration_at-requires : goal.put_span-duration_at-requires
put_span-duration_at-requires c =
    let z = c.requires.0 in
    let p1 = (c.put_span-svg_at.ensures 0).place in
    let l1 = length_span 0 (span_of c.args.x.target) in
    omega arith

pub put_float-easing_at-requires : goal.put_float-easing_at-requires
put_float-easing_at-requires c = (
  let z = c.requires.0 in
      let p1 = (c.put_span-svg_at.ensures 0).place in
      let l1 = length_span 0 (span_of c.args.x.target) in
      let p2 = (c.put_span-duration_at.ensures 0).place in
      let l2 = length_span 0 (span_of c.args.x.svg) in
      omega arith,
  c.requires.1.0,
)

pub put_opt_easing-auto_rotate_at-requires : goal.put_opt_easing-auto_rotate_at-requires
put_opt_easing-auto_rotate_at-requires c = (
  let z = c.requires.0 in
      let p1 = (c.put_span-svg_at.ensures 0).place in
      let l1 = length_span 0 (span_of c.args.x.target) in
      let p2 = (c.put_span-duration_at.ensures 0).place in
      let l2 = length_span 0 (span_of c.args.x.svg) in
      let p3 = c.put_float-easing_at.ensures.place in
      let l3 = length-word (bits c.args.x.duration) in
      omega arith,
  c.requires.1.1,
)

pub put_opt_bool-offset_at-requires : goal.put_opt_bool-offset_at-requires
put_opt_bool-offset_at-requires c =
    let args = c.args in
    let z = c.requires.0 in
    let p1 = (c.put_span-svg_at.ensures 0).place in
    let l1 = length_span 0 (span_of args.x.target) in
    let p2 = (c.put_span-duration_at.ensures 0).place in
    let l2 = length_span 0 (span_of args.x.svg) in
    let p3 = c.put_float-easing_at.ensures.place in
    let l3 = length-word (bits args.x.duration) in
    let p4 = (c.put_opt_easing-auto_rotate_at.ensures 0).place in
    let l4 = opt-easing 0 (opt_easing_of args.x.easing) in
    omega arith

pub put_opt_range-loop_at-requires : goal.put_opt_range-loop_at-requires
put_opt_range-loop_at-requires c =
    let args = c.args in (
      let z = c.requires.0 in
          let p1 = (c.put_span-svg_at.ensures 0).place in
          let l1 = length_span 0 (span_of args.x.target) in
          let p2 = (c.put_span-duration_at.ensures 0).place in
          let l2 = length_span 0 (span_of args.x.svg) in
          let p3 = c.put_float-easing_at.ensures.place in
          let l3 = length-word (bits args.x.duration) in
          let p4 = (c.put_opt_easing-auto_rotate_at.ensures 0).place in
          let l4 = opt-easing 0 (opt_easing_of args.x.easing) in
          let p5 = c.put_opt_bool-offset_at.ensures.place in
          let l5 = opt-flag (opt_bool_of args.x.auto_rotate) in
          omega arith,
      c.requires.1.2,
    )

pub put_opt_loop-requires : goal.put_opt_loop-requires
put_opt_loop-requires c =
    let args = c.args in
    let z = c.requires.0 in
    let p1 = (c.put_span-svg_at.ensures 0).place in
    let l1 = length_span 0 (span_of args.x.target) in
    let p2 = (c.put_span-duration_at.ensures 0).place in
    let l2 = length_span 0 (span_of args.x.svg) in
    let p3 = c.put_float-easing_at.ensures.place in
    let l3 = length-word (bits args.x.duration) in
    let p4 = (c.put_opt_easing-auto_rotate_at.ensures 0).place in
    let l4 = opt-easing 0 (opt_easing_of args.x.easing) in
    let p5 = c.put_opt_bool-offset_at.ensures.place in
    let l5 = opt-flag (opt_bool_of args.x.auto_rotate) in
    let p6 = c.put_opt_range-loop_at.ensures.place in
    let l6 = opt_range (opt_range_of args.x.offset) in
    omega arith

pub returns : goal.returns
returns c =
    let args = c.args in
    record {
      writes = λ n. (writes_then (c.put_span-svg_at.ensures n)
          (writes_then (c.put_span-duration_at.ensures n)
          (writes_then c.put_float-easing_at.ensures
          (writes_then (c.put_opt_easing-auto_rotate_at.ensures n)
          (writes_then c.put_opt_bool-offset_at.ensures
          (writes_then c.put_opt_range-loop_at.ensures c.put_opt_loop.ensures))))));
      most = let z = c.requires.0 in
          let p1 = (c.put_span-svg_at.ensures 0).place in
          let l1 = length_span 0 (span_of args.x.target) in
          let p2 = (c.put_span-duration_at.ensures 0).place in
          let l2 = length_span 0 (span_of args.x.svg) in
          let p3 = c.put_float-easing_at.ensures.place in
          let l3 = length-word (bits args.x.duration) in
          let p4 = (c.put_opt_easing-auto_rotate_at.ensures 0).place in
          let l4 = opt-easing 0 (opt_easing_of args.x.easing) in
          let p5 = c.put_opt_bool-offset_at.ensures.place in
          let l5 = opt-flag (opt_bool_of args.x.auto_rotate) in
          let p6 = c.put_opt_range-loop_at.ensures.place in
          let l6 = opt_range (opt_range_of args.x.offset) in
          let p7 = c.put_opt_loop.ensures.place in
          let l7 = opt_loop (opt_loop_of args.x.loop_mode) in
          omega arith;
    }
