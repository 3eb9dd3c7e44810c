-- `validate::open_list` meets its contract.
use native.Mathlib.Omega.{arith}
use Rattle.validate.proofs.CheckLaws as laws
use Rattle.validate.proofs.open_list.Goals as goal

pub returns-in-1 : goal.returns-in-1
returns-in-1 c = laws.a_list _ (omega arith) (omega arith)

pub returns-in_default : goal.returns-in_default
returns-in_default c = laws.no_list _ (λ e. omega arith) (λ e. omega arith)

pub returns-in_default-2 : goal.returns-in_default-2
returns-in_default-2 c = laws.no_list _ (λ e. omega arith) (λ e. omega arith)
