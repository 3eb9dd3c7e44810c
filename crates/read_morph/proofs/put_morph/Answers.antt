-- `read_morph::put_morph` meets its contract.
use native.Mathlib.Omega.{arith}
use Rattle.number.specs.Number.{bits}
use Rattle.sheet_encode.specs.Means.{span_of, opt_easing_of}
use Rattle.sheet_encode.proofs.OverLaws.{writes_then}
use Rattle.sheet.proofs.FormLaws.{length-word, length_span}
use Rattle.read_node.proofs.PutLaws.{opt-easing}
use Rattle.read_morph.proofs.put_morph.Goals as goal

pub put_span-samples_at-requires : goal.put_span-samples_at-requires
put_span-samples_at-requires c =
    let z = c.requires.0 in
    let p1 = (c.put_span-to_at.ensures 0).place in
    let l1 = length_span 0 (span_of c.args.x.from) in
    omega arith

pub put_word-duration_at-requires : goal.put_word-duration_at-requires
put_word-duration_at-requires c =
    let z = c.requires.0 in
    let p1 = (c.put_span-to_at.ensures 0).place in
    let l1 = length_span 0 (span_of c.args.x.from) in
    let p2 = (c.put_span-samples_at.ensures 0).place in
    let l2 = length_span 0 (span_of c.args.x.to) in
    omega arith

pub put_float-easing_at-requires : goal.put_float-easing_at-requires
put_float-easing_at-requires c = (
  let z = c.requires.0 in
      let p1 = (c.put_span-to_at.ensures 0).place in
      let l1 = length_span 0 (span_of c.args.x.from) in
      let p2 = (c.put_span-samples_at.ensures 0).place in
      let l2 = length_span 0 (span_of c.args.x.to) in
      let p3 = c.put_word-duration_at.ensures.place in
      let l3 = length-word c.args.x.samples in
      omega arith,
  c.requires.1.0,
)

pub put_opt_easing-requires : goal.put_opt_easing-requires
put_opt_easing-requires c =
    let args = c.args in (
      let z = c.requires.0 in
          let p1 = (c.put_span-to_at.ensures 0).place in
          let l1 = length_span 0 (span_of args.x.from) in
          let p2 = (c.put_span-samples_at.ensures 0).place in
          let l2 = length_span 0 (span_of args.x.to) in
          let p3 = c.put_word-duration_at.ensures.place in
          let l3 = length-word args.x.samples in
          let p4 = c.put_float-easing_at.ensures.place in
          let l4 = length-word (bits args.x.duration) in
          omega arith,
      c.requires.1.1,
    )

pub returns : goal.returns
returns c =
    let args = c.args in
    record {
      writes = λ n. (writes_then (c.put_span-to_at.ensures n)
          (writes_then (c.put_span-samples_at.ensures n)
          (writes_then c.put_word-duration_at.ensures
          (writes_then c.put_float-easing_at.ensures (c.put_opt_easing.ensures n)))));
      most = let z = c.requires.0 in
          let p1 = (c.put_span-to_at.ensures 0).place in
          let l1 = length_span 0 (span_of args.x.from) in
          let p2 = (c.put_span-samples_at.ensures 0).place in
          let l2 = length_span 0 (span_of args.x.to) in
          let p3 = c.put_word-duration_at.ensures.place in
          let l3 = length-word args.x.samples in
          let p4 = c.put_float-easing_at.ensures.place in
          let l4 = length-word (bits args.x.duration) in
          let p5 = (c.put_opt_easing.ensures 0).place in
          let l5 = opt-easing 0 (opt_easing_of args.x.easing) in
          omega arith;
    }
