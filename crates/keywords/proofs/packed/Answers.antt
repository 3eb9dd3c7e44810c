-- `keywords::packed` meets its contract: the loop keeps that the last bytes are packed.
use Prim.Native.Nat.{suc, ◌+◌, ◌*◌, ◌-◌, ◌<◌}
use mathlib.Core.List.{[], ◌∷◌, ◌++◌}
use native.Mathlib.Numerals.{add-one}
use mathlib.Core.Path.{◌≡◌, refl, sym, ap, ◌∙◌}
use native.Mathlib.Nat.{sub-zero}
use native.Mathlib.Omega.{arith}
use lib.ListN.{length, get_or, drop}
use Rattle.std.proofs.lemmas.Iterator.Adapters.{YieldsList-from_rev_slice}
use Rattle.std.proofs.lemmas.Iterator.Consumers.{YieldsList-turn}
use Rattle.std.proofs.lemmas.List.{length_push}
use Rattle.keywords.specs.Means.{pack}
use Rattle.keywords.proofs.NameLaws.{pack_small, pack-at, pack_end, from-end}
use Rattle.keywords.proofs.packed.Goals.{In-Some}
use Rattle.keywords.proofs.packed.Goals as goal

-- the byte of a step is the next one from the end
turn : (c : In-Some) → (length c.loop-b.yielded < length c.args.word.now)
    × (c.in-Some.field-0.now ≡ get_or c.args.word.now (length c.args.word.now - suc (length c.loop-b.yielded)) 0)
turn c =
    from-end c.args.word.now (length c.loop-b.yielded) _
    (YieldsList-turn (YieldsList-from_rev_slice c.args.word.now cc) c.loop-b.yielded _ c.loop-b.yielded_by _ _ c.in-Some.field-0 c.in-Some.is c.next.ensures.steps)

-- one byte more fits
small : (c : In-Some) → c.loop-b.v < 72057594037927936
small c =
    let word = c.args.word.now in
    let n = length c.loop-b.yielded in
    let h = pack_small word (λ j l. omega (arith, c.type_inv.word j)) (length word - n) (omega (arith, (turn c).0)) c.requires in
    omega (arith, c.loop-b.invariant.packed)

pub loop-b-init : goal.loop-b-init
loop-b-init c = record { short = omega arith; packed = rw sub-zero (pack_end c.args.word.now) }

pub overflow_mul-v : goal.overflow_mul-v
overflow_mul-v c = omega (arith, small (goal.at.overflow_mul-v c).In-Some)

pub overflow_add-v : goal.overflow_add-v
overflow_add-v c =
    let word = c.args.word.now in
    let t = turn (goal.at.overflow_add-v c).In-Some in
    omega (
      arith,
      small (goal.at.overflow_add-v c).In-Some,
      c.from.ensures,
      t.1,
      c.type_inv.word (length word - suc (length c.loop-b.yielded)),
    )

pub loop-b-preserved : goal.loop-b-preserved
loop-b-preserved c =
    let word = c.args.word.now in
    let n = length c.loop-b.yielded in
    let t = turn (goal.at.loop-b-preserved c).In-Some in
    let i = length word - suc n in
    let more : length (c.loop-b.yielded ++ c.in-Some.field-0 ∷ []) ≡ suc n = length_push _ _ ∙ add-one n in
    let e : length word - n ≡ suc i = omega (arith, t.0) in
    let p : c.loop-b.v * 256 + c.from.result ≡ pack (drop i word) =
    rw (pack-at word i (omega (arith, t.0)), ← e, ← c.loop-b.invariant.packed, ← t.1) (rw c.from.ensures refl)
    in
    record { short = omega (arith, more, t.0); packed = p ∙ ap (λ k. pack (drop (length word - k) word)) (sym more) }
