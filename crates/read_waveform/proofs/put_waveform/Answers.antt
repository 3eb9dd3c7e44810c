-- `read_waveform::put_waveform` meets its contract.
use Rattle.sheet_encode.proofs.OverLaws.{writes_then}
use native.Mathlib.Omega.{arith}
use Rattle.sheet_encode.specs.Means.{opt_float_of, opt_word_of}
use Rattle.read_node.proofs.PutLaws.{opt-word}
use Rattle.read_waveform.proofs.put_waveform.Goals as goal

pub returns : goal.returns
returns c =
    let args = c.args in
    record {
      writes = λ n. (writes_then c.put_byte-frequency_at.ensures
          (writes_then c.put_opt_float-amplitude_at.ensures
          (writes_then c.put_opt_float-phase_at.ensures
          (writes_then c.put_opt_float-duty_cycle_at.ensures
          (writes_then c.put_opt_float-seed_at.ensures
          (writes_then c.put_opt_word-smoothness_at.ensures
          (writes_then c.put_opt_float-duration_at.ensures c.put_opt_float.ensures)))))));
      most = let z = c.requires.0 in
          let p1 = c.put_byte-frequency_at.ensures.place in
          let p2 = c.put_opt_float-amplitude_at.ensures.place in
          let l2 = opt-word (opt_float_of args.x.frequency) in
          let p3 = c.put_opt_float-phase_at.ensures.place in
          let l3 = opt-word (opt_float_of args.x.amplitude) in
          let p4 = c.put_opt_float-duty_cycle_at.ensures.place in
          let l4 = opt-word (opt_float_of args.x.phase) in
          let p5 = c.put_opt_float-seed_at.ensures.place in
          let l5 = opt-word (opt_float_of args.x.duty_cycle) in
          let p6 = c.put_opt_word-smoothness_at.ensures.place in
          let l6 = opt-word (opt_word_of args.x.seed) in
          let p7 = c.put_opt_float-duration_at.ensures.place in
          let l7 = opt-word (opt_float_of args.x.smoothness) in
          let p8 = c.put_opt_float.ensures.place in
          let l8 = opt-word (opt_float_of args.x.duration) in
          omega arith;
    }
