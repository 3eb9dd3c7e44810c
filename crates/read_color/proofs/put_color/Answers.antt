-- `read_color::put_color` meets its contract.
use native.Mathlib.Omega.{arith}
use Rattle.number.specs.Number.{bits}
use Rattle.sheet_encode.specs.Means.{span_of, opt_easing_of}
use Rattle.sheet_encode.proofs.OverLaws.{writes_then}
use Rattle.sheet.proofs.FormLaws.{length-word, length_span}
use Rattle.read_node.proofs.PutLaws.{opt-easing}
use Rattle.read_color.proofs.put_color.Goals as goal

pub put_span-to_at-requires : goal.put_span-to_at-requires
put_span-to_at-requires c =
    let z = c.requires.0 in
    let p1 = (c.put_span-from_at.ensures 0).place in
    let l1 = length_span 0 (span_of c.args.x.target) in
    omega arith

pub put_span-duration_at-requires : goal.put_span-duration_at-requires
put_span-duration_at-requires c =
    let z = c.requires.0 in
    let p1 = (c.put_span-from_at.ensures 0).place in
    let l1 = length_span 0 (span_of c.args.x.target) in
    let p2 = (c.put_span-to_at.ensures 0).place in
    let l2 = length_span 0 (span_of c.args.x.from) in
    omega arith

pub put_float-space_at-requires : goal.put_float-space_at-requires
put_float-space_at-requires c = (
  let z = c.requires.0 in
      let p1 = (c.put_span-from_at.ensures 0).place in
      let l1 = length_span 0 (span_of c.args.x.target) in
      let p2 = (c.put_span-to_at.ensures 0).place in
      let l2 = length_span 0 (span_of c.args.x.from) in
      let p3 = (c.put_span-duration_at.ensures 0).place in
      let l3 = length_span 0 (span_of c.args.x.to) in
      omega arith,
  c.requires.1.0,
)

pub put_byte-easing_at-requires : goal.put_byte-easing_at-requires
put_byte-easing_at-requires c =
    let args = c.args in
    let z = c.requires.0 in
    let p1 = (c.put_span-from_at.ensures 0).place in
    let l1 = length_span 0 (span_of args.x.target) in
    let p2 = (c.put_span-to_at.ensures 0).place in
    let l2 = length_span 0 (span_of args.x.from) in
    let p3 = (c.put_span-duration_at.ensures 0).place in
    let l3 = length_span 0 (span_of args.x.to) in
    let p4 = c.put_float-space_at.ensures.place in
    let l4 = length-word (bits args.x.duration) in
    omega arith

pub put_opt_easing-requires : goal.put_opt_easing-requires
put_opt_easing-requires c =
    let args = c.args in (
      let z = c.requires.0 in
          let p1 = (c.put_span-from_at.ensures 0).place in
          let l1 = length_span 0 (span_of args.x.target) in
          let p2 = (c.put_span-to_at.ensures 0).place in
          let l2 = length_span 0 (span_of args.x.from) in
          let p3 = (c.put_span-duration_at.ensures 0).place in
          let l3 = length_span 0 (span_of args.x.to) in
          let p4 = c.put_float-space_at.ensures.place in
          let l4 = length-word (bits args.x.duration) in
          let p5 = c.put_byte-easing_at.ensures.place in
          omega arith,
      c.requires.1.1,
    )

pub returns : goal.returns
returns c =
    let args = c.args in
    record {
      writes = λ n. (writes_then (c.put_span-from_at.ensures n)
          (writes_then (c.put_span-to_at.ensures n)
          (writes_then (c.put_span-duration_at.ensures n)
          (writes_then c.put_float-space_at.ensures
          (writes_then c.put_byte-easing_at.ensures (c.put_opt_easing.ensures n))))));
      most = let z = c.requires.0 in
          let p1 = (c.put_span-from_at.ensures 0).place in
          let l1 = length_span 0 (span_of args.x.target) in
          let p2 = (c.put_span-to_at.ensures 0).place in
          let l2 = length_span 0 (span_of args.x.from) in
          let p3 = (c.put_span-duration_at.ensures 0).place in
          let l3 = length_span 0 (span_of args.x.to) in
          let p4 = c.put_float-space_at.ensures.place in
          let l4 = length-word (bits args.x.duration) in
          let p5 = c.put_byte-easing_at.ensures.place in
          let p6 = (c.put_opt_easing.ensures 0).place in
          let l6 = opt-easing 0 (opt_easing_of args.x.easing) in
          omega arith;
    }
