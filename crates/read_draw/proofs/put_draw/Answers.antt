-- `read_draw::put_draw` meets its contract.
use native.Mathlib.Omega.{arith}
use Rattle.number.specs.Number.{bits}
use Rattle.sheet_encode.specs.Means.{span_of, opt_easing_of}
use Rattle.sheet_encode.proofs.OverLaws.{writes_then}
use Rattle.sheet.proofs.FormLaws.{length-word, length_span}
use Rattle.read_node.proofs.PutLaws.{opt-easing}
use Rattle.read_draw.proofs.put_draw.Goals as goal

pub put_float-easing_at-requires : goal.put_float-easing_at-requires
put_float-easing_at-requires c = (
  let z = c.requires.0 in
      let p1 = (c.put_span-duration_at.ensures 0).place in
      let l1 = length_span 0 (span_of c.args.x.svg) in
      omega arith,
  c.requires.1.0,
)

pub put_opt_easing-requires : goal.put_opt_easing-requires
put_opt_easing-requires c = (
  let z = c.requires.0 in
      let p1 = (c.put_span-duration_at.ensures 0).place in
      let l1 = length_span 0 (span_of c.args.x.svg) in
      let p2 = c.put_float-easing_at.ensures.place in
      let l2 = length-word (bits c.args.x.duration) in
      omega arith,
  c.requires.1.1,
)

pub returns : goal.returns
returns c =
    record {
      writes = λ n. (writes_then (c.put_span-duration_at.ensures n)
          (writes_then c.put_float-easing_at.ensures (c.put_opt_easing.ensures n)));
      most = let z = c.requires.0 in
          let p1 = (c.put_span-duration_at.ensures 0).place in
          let l1 = length_span 0 (span_of c.args.x.svg) in
          let p2 = c.put_float-easing_at.ensures.place in
          let l2 = length-word (bits c.args.x.duration) in
          let p3 = (c.put_opt_easing.ensures 0).place in
          let l3 = opt-easing 0 (opt_easing_of c.args.x.easing) in
          omega arith;
    }
