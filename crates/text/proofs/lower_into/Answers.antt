-- `text::lower_into` meets its contract; the loop keeps that the word's first `i` bytes are written.
use mathlib.Core.Path.{◌≡◌, refl, ap, sym, ◌∙◌}
use native.Mathlib.Omega.{arith}
use lib.ListN.{length, get_or, set, take}
use lib.Seq.{sets, length-take-le}
use Rattle.text.specs.Bytes.{lower, lowered}
use Rattle.text.proofs.ByteLaws.{lowered_more, lowered-take, length-lowered}
use Rattle.text.proofs.WriteLaws.{puts_upto, sets_more}
use Rattle.text.proofs.lower_into.Goals as goal

pub loop-i-init : goal.loop-i-init
unfolding lowered
loop-i-init c = refl

pub loop-i-preserved : goal.loop-i-preserved
loop-i-preserved c =
    let out = c.args.out.now in
    let w = c.args.w.now in
    let i = c.loop-i.i in
    let b = lower (get_or w i 0) in
    let k : length (lowered (take i w)) ≡ i = length-lowered (take i w) ∙ length-take-le i w (omega arith) in
    ap (λ l. set l i c.lower.result) c.loop-i.invariant
    ∙ ap (λ b. set (sets out 0 (lowered (take i w))) i b) c.lower.ensures
    ∙ sym (ap (sets out 0) (lowered_more w i (omega arith))
    ∙ sets_more out (lowered (take i w)) b
    ∙ ap (λ n. set (sets out 0 (lowered (take i w))) n b) k)

pub returns : goal.returns
returns c =
    let out = c.args.out.now in
    let w = c.args.w.now in
    let n = c.min-n.result in
    let z : c.loop-i.i ≡ n = omega arith in
    let e : c.loop-i.out ≡ sets out 0 (take n (lowered w)) =
    c.loop-i.invariant ∙ ap (λ k. sets out 0 (lowered (take k w))) z ∙ ap (sets out 0) (lowered-take n w)
    in
    rw e (puts_upto out (lowered w) n (rw length-lowered c.min-n.ensures))
