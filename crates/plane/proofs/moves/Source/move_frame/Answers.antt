-- `plane::moves::Source::move_frame` meets its contract: the time, and a scalar.
use Prim.Native.Nat.{◌+◌, ◌-◌}
use mathlib.Core.Path.{◌∙◌}
use native.Mathlib.Omega.{arith}
use Rattle.plane.proofs.FrameMoveLaws.{moved_array, moved_scalar}
use Rattle.plane.proofs.moves.Source.move_frame.Goals as goal

pub returns-then-not-scalar : goal.returns-then-not-scalar
returns-then-not-scalar c =
    let args = c.args in
    let q = c.requires in
    let z = c.advance-behind_time.ensures in
    λ s p xs o planes k g e A B C d t l f h r.
    moved_array o args.self.text_len xs args.out.now _ args.self.rest args.self.numbers
    (args.at + 1 - args.progress.done) k args.progress.numbers args.progress.done args.progress.to
    q.number_left planes g e A B C d t (omega (arith, l, q.done_le_at)) h z.advances r _ _ _ (f ∙ c.if-not-scalar.true) z.done z.to z.numbers

pub returns : goal.returns
returns c =
    let args = c.args in
    let q = c.requires in
    let z = c.advance-behind_time.ensures in
    λ s p xs o planes k g e A B C d t l f h r.
    moved_scalar o args.self.text_len xs args.out.now _ args.self.rest args.self.numbers
    (args.at + 1 - args.progress.done) k args.progress.numbers args.progress.done args.progress.to
    q.number_left planes g e A B C d t (omega (arith, l, q.done_le_at)) h z.advances r _ _ _ _ _ _ _ (f ∙ c.if-not-scalar.false)
    (q.two_left c.if-not-scalar.false) z.done z.to z.numbers c.advance.ensures.advances c.advance.ensures.done
    c.advance.ensures.to c.advance.ensures.numbers
