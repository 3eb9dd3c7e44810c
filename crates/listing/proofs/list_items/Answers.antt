-- `listing::list_items` meets its contract.
use Prim.Native.Nat.{ℕ}
use native.Mathlib.Omega.{arith}
use lib.ListN.{length-replicate}
use Rattle.book.proofs.HeldLaws.{few_items}
use Rattle.listing.proofs.ListingLaws.{square, listed}
use Rattle.listing.proofs.list_items.Goals as goal

pub list-ordered-requires : goal.list-ordered-requires
list-ordered-requires c =
    let h = c.requires in
    (square h (c.fill.ensures h.items h.is), length-replicate {A = ℕ} 128 0)

pub list-requires : goal.list-requires
list-requires c = omega (arith, few_items c.requires, c.list-ordered.auto.out, length-replicate {A = ℕ} 128 0)

pub returns : goal.returns
returns c =
    let h = c.requires in
    listed h (c.fill.ensures h.items h.is) c.args.out.now c.list-ordered.ensures c.list.ensures
