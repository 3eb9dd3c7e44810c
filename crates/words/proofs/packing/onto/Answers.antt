-- `words::packing::onto` meets its contract; the last n - k bytes are packed.
use Prim.Native.Nat.{◌+◌, ◌-◌, ◌<◌}
use mathlib.Core.Path.{◌≡◌, sym}
use native.Mathlib.Nat.{sub_self}
use native.Mathlib.Omega.{arith}
use lib.ListN.{get_or}
use Rattle.words.proofs.KeyLaws.{onto_end, onto-more, onto_room, onto-fits}
use Rattle.words.proofs.packing.onto.Goals as goal

pub loop-k-init : goal.loop-k-init
loop-k-init c =
    let args = c.args in
    (c.requires.2, rw sub_self (onto_end args.top args.text.now (args.at + args.n)))

pub overflow_mul-v : goal.overflow_mul-v
overflow_mul-v c = omega (arith, onto_room c.loop-k.v c.loop-k.k (omega arith) c.loop-k.invariant.0)

pub overflow_add-v : goal.overflow_add-v
overflow_add-v c =
    let args = c.args in
    omega
    (arith, onto_room c.loop-k.v c.loop-k.k (omega arith) c.loop-k.invariant.0, c.type_inv.text (args.at + (c.loop-k.k - 1)))

pub loop-k-preserved : goal.loop-k-preserved
loop-k-preserved c =
    let args = c.args in
    let s = args.text.now in
    let k = c.loop-k.k in
    let e : c.from.result ≡ get_or s (args.at + (k - 1)) 0 = cc in
    let b : c.from.result < 256 = omega (arith, c.type_inv.text (args.at + (k - 1))) in (
      onto-fits c.loop-k.v k (omega arith) c.loop-k.invariant.0 _ b (omega (arith, c.requires)),
      rw (e, c.loop-k.invariant.1) (sym (onto-more args.top s args.at args.n k (omega arith) c.loop-k.auto.k c.requires.0)),
    )
