-- `sheet_decode::fields::take_kind` meets its contract: a byte, a field, and the test that the start lies in the text.
use Prim.Native.Nat.{ℕ}
use mathlib.Core.Path.{ap, ◌∙◌}
use lib.Dec.{ltb}
use borrow.Author.Tests.{lt-ltb, le-ltb}
use Rattle.sheet_decode.proofs.ReadLaws as laws
use Rattle.sheet_decode.proofs.fields.take_kind.Goals as goal

pub returns-then-start-n : goal.returns-then-start-n
returns-then-start-n c =
    let n = c.args.n in
    record {
      between = c.take_byte-k.result.next;
      kind_at = c.take_byte-k.ensures;
      start_at = laws.kept c.take_field-a.ensures.reads
          (λ a e. ap (λ (p : ℕ). ltb p n) e ∙ lt-ltb _ _ c.if-start-n.true);
    }

pub returns-else-start-n : goal.returns-else-start-n
returns-else-start-n c =
    let n = c.args.n in
    record {
      between = c.take_byte-k.result.next;
      kind_at = c.take_byte-k.ensures;
      start_at = laws.dropped c.take_field-a.ensures.reads
          (λ a e. ap (λ (p : ℕ). ltb p n) e ∙ le-ltb _ _ c.if-start-n.false) c.lost.ensures;
    }
