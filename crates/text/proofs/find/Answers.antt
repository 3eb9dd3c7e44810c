-- `text::find` meets its contract; the loop keeps the lookup in what is left of the table, with `i` words passed.
use mathlib.Core.Path.{◌≡◌, ap, sym, ◌∙◌}
use mathlib.Core.List.{◌∷◌}
use mathlib.Core.Bool.{true, false}
use Prim.Native.Nat.{◌+◌, ◌≤◌}
use native.Mathlib.Omega.{arith}
use lib.ListN.{length}
use Rattle.text.proofs.ByteLaws.{part_le}
use Rattle.text.proofs.WordLaws.{pointwise-same, table_here, table-past, table_end}
use Rattle.text.specs.Bytes.{same, part}
use Rattle.text.specs.Words.{find, entries}
use Rattle.text.proofs.find.Goals as goal

pub returns-then-eq : goal.returns-then-eq
returns-then-eq c =
    let t = c.in-Some.behind.now in
    let w = c.args.word.now in
    let e : same w (part t 0 c.from-size.result) ≡ true =
    rw (← c.part.ensures) (sym (pointwise-same w c.part.result.now) ∙ sym c.eq.ensures ∙ c.if-eq.true)
    in
    let s : c.loop-size.rest.now ≡ c.from-size.result ∷ t = rw c.from-size.ensures c.in-Some.ensures.cases.0 in
    sym (c.loop-size.invariant.rest
    ∙ ap (λ r. find (entries 0 r) c.loop-size.i w) s
    ∙ table_here t c.from-size.result c.loop-size.i w e)

pub loop-size-preserved : goal.loop-size-preserved
loop-size-preserved c =
    let t = c.in-Some.behind.now in
    let w = c.args.word.now in
    let e : same w (part t 0 c.from-size.result) ≡ false =
    rw (← c.part.ensures) (sym (pointwise-same w c.part.result.now) ∙ sym c.eq.ensures ∙ c.if-eq.false)
    in
    let s : c.loop-size.rest.now ≡ c.from-size.result ∷ t = rw c.from-size.ensures c.in-Some.ensures.cases.0 in
    record {
      within =
          let m : length c.part-rest.result.now ≤ length t = rw c.part-rest.ensures (part_le t c.from-size.result (length t)) in
          omega (arith, c.in-Some.ensures.cases.1);
      rest =
          c.loop-size.invariant.rest
          ∙ ap (λ r. find (entries 0 r) c.loop-size.i w) s
          ∙ table-past t c.from-size.result c.loop-size.i w e
          ∙ ap (λ r. find (entries 0 r) (c.loop-size.i + 1) w) (sym c.part-rest.ensures);
    }

pub returns : goal.returns
returns c =
    sym (c.loop-size.invariant.rest ∙ table_end c.loop-size.rest.now c.loop-size.i c.args.word.now c.in_default.ensures.cases)
