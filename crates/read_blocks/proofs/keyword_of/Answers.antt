-- `read_blocks::keyword_of` meets its contract.
use native.Mathlib.Omega.{arith}
use Rattle.read_blocks.proofs.NameLaws.{leaf_of, container_of}
use Rattle.read_blocks.proofs.keyword_of.Goals as goal

pub returns-then-i-lt11 : goal.returns-then-i-lt11
returns-then-i-lt11 c w e = leaf_of w _ e c.if-i-lt11.true

pub returns : goal.returns
returns c w e = container_of w _ e (omega arith)
