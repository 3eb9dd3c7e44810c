-- `sheet_decode::fields::take_span` meets its contract: two fields, and the test that they lie in the text.
use Prim.Native.Nat.{◌+◌}
use mathlib.Core.Path.{ap, ◌∙◌}
use lib.Dec.{leb}
use borrow.Author.Tests.{le-leb}
use Rattle.ast.specs.declared.Span.{Span}
use Rattle.sheet.specs.Sheet.{of_span, to_span}
use Rattle.sheet_decode.proofs.ReadLaws.{◌&◌}
use Rattle.sheet_decode.proofs.ReadLaws as laws
use Rattle.sheet_decode.proofs.fields.take_span.Goals as goal

pub returns-then-start-size : goal.returns-then-start-size
returns-then-start-size c =
    let n = c.args.n in
    laws.kept (laws.through to_span of_span
    (laws.seen (c.take_field-a.ensures.reads & c.take_field-b.ensures.reads)
    (λ p e i. record {
      start = (e i).0;
      size = (e i).1;
    })))
    (λ a e. ap (λ (p : Span). leb (p.start + p.size) n) e ∙ le-leb _ _ c.if-start-size.true)
