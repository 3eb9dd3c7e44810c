-- `back_copying::values::copy_floats` meets its contract.
use Prim.Native.Nat.{◌-◌, suc}
use Prim.Native.Nat.{suc, ◌-◌}
use mathlib.Core.Path.{◌≡◌}
use mathlib.Core.Path.{refl}
use native.Mathlib.Omega.{arith}
use Rattle.sheet.specs.Sheet.{word}
use Rattle.fresh.specs.Fresh.{floats, more_floats}
use Rattle.back_copying.proofs.CopyLaws.{none_copied, one_copied}
use Rattle.back_copying.proofs.values.copy_floats.Goals as goal

pub returns-then-n-eq0 : goal.returns-then-n-eq0
unfolding floats
returns-then-n-eq0 c = rw c.if-n-eq0.true (none_copied word floats _ _ _ (λ ps. refl))

pub returns : goal.returns
unfolding floats
returns c =
    let args = c.args in
    let h : args.n ≡ suc (args.n - 1) = omega (arith, c.if-n-eq0.false) in
    rw h
    (one_copied more_floats floats (args.n - 1) (λ x xs ps. refl) c.copy_f32-next.ensures
    c.copy_more_floats.ensures)
