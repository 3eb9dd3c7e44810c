-- `sheet_encode::put_named` meets its contract.
use Rattle.sheet_encode.proofs.OverLaws.{writes_then}
use Rattle.sheet_encode.proofs.put_named.Goals as goal

pub returns : goal.returns
returns c = λ n. writes_then c.put_byte-variant_at.ensures (writes_then c.put_flag-name_at.ensures (c.put_span.ensures n))
