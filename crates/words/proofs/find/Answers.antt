-- `words::find` meets its contract: a word is told by its length and its number.
use native.Mathlib.Omega.{arith}
use Rattle.words.proofs.KeyLaws.{pack_some, part_length, part_bytes, split-part, split_twice}
use Rattle.words.proofs.ListLaws.{key_found, too_long}
use Rattle.words.proofs.find.Goals as goal

pub returns-in-0-to-7 : goal.returns-in-0-to-7
returns-in-0-to-7 c =
    let args = c.args in
    key_found args.list _ _ _
    (part_bytes args.text.now args.at args.n c.requires (λ j l. omega (arith, c.type_inv.text j)))
    c.packed.ensures c.short.ensures

pub long-requires : goal.long-requires
long-requires c = rw c.packed-in-8-to-15.ensures (pack_some _)

pub returns-in-8-to-15 : goal.returns-in-8-to-15
returns-in-8-to-15 c =
    let args = c.args in
    key_found args.list _ _ _
    (part_bytes args.text.now args.at args.n c.requires (λ j l. omega (arith, c.type_inv.text j)))
    (split-part args.text.now args.at args.n _ _ (omega arith) c.requires c.eight.ensures
    c.packed-in-8-to-15.ensures)
    c.long.ensures

pub longest-requires : goal.longest-requires
longest-requires c = rw c.packed-in-16-to-23.ensures (pack_some _)

pub returns-in-16-to-23 : goal.returns-in-16-to-23
returns-in-16-to-23 c =
    let args = c.args in
    key_found args.list _ _ _
    (part_bytes args.text.now args.at args.n c.requires (λ j l. omega (arith, c.type_inv.text j)))
    (split_twice args.text.now args.at args.n _ _ _ (omega arith) c.requires c.eight-in-16-to-23.ensures
    c.eight-in-16-to-23-2.ensures c.packed-in-16-to-23.ensures)
    c.longest.ensures

pub returns-in_default : goal.returns-in_default
returns-in_default c =
    let args = c.args in
    too_long args.list _ (omega (arith, part_length args.text.now args.at args.n c.requires))
