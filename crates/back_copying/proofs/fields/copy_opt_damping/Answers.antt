-- `back_copying::fields::copy_opt_damping` meets its contract.
use mathlib.Core.Path.{refl}
use Rattle.sheet.specs.Sheet.{damping_form}
use Rattle.fresh.specs.Fresh.{damping}
use Rattle.back_copying.proofs.CopyLaws.{is_absent, is_present}
use Rattle.back_copying.proofs.fields.copy_opt_damping.Goals as goal

pub returns-then-k-eq0 : goal.returns-then-k-eq0
unfolding damping
returns-then-k-eq0 c = is_absent damping_form damping c.take_byte-k.ensures c.if-k-eq0.true (λ ps. refl)

pub returns : goal.returns
returns c = is_present damping_form damping c.take_byte-k.ensures c.if-k-eq0.false c.copy_damping.ensures
