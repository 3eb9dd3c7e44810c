-- `limbs::divided` meets its contract.
use mathlib.Core.Path.{◌≡◌, sym, ap, ◌∙◌, subst}
use mathlib.Core.List.{List}
use Prim.Native.Nat.{ℕ, ◌+◌, ◌*◌, ◌^◌, ◌<◌, ◌≤◌}
use native.Mathlib.Nat.{zero-add, one-mul, one-le-pow}
use native.Mathlib.Omega.{arith}
use lib.ListN.{length}
use lib.Dec.{lit<}
use Rattle.text.specs.Bytes.{decimal}
use Rattle.limbs.specs.LimbMeans.{val}
use Rattle.limbs.proofs.NumberLaws.{digits_below}
use Rattle.limbs.proofs.DecimalLaws.{first_room, next_room, product_below, product_room, twice_room}
use Rattle.limbs.proofs.divided.Goals.{After-read, After-read-2, After-scale-2}
use Rattle.limbs.proofs.divided.Goals as goal

-- the digits that were read, v of them
record Read (n v : ℕ) (a z : List ℕ) : Type 0 where
  is : val a ≡ n
  below : val a < 10 ^ v
  long : length a ≡ length z

first : (w : After-read) → Read (decimal 0 w.args.whole.now) (length w.args.whole.now) w.read.new.a w.args.a.now
first w =
    let whole = w.args.whole.now in
    let is = w.read.ensures ∙ ap (λ (z : ℕ). decimal z whole) w.requires.1 in
    record {
      is = is;
      below = subst (λ (z : ℕ). z < 10 ^ length whole) (sym is) (rw zero-add at (digits_below whole 0 0 (lit< tt) w.requires.4));
      long = w.read.auto.a;
    }

second : (w : After-read-2) →
    let args = w.args in
    Read (decimal (decimal 0 args.whole.now) args.fraction.now) (length args.whole.now + length args.fraction.now) w.read-2.new.a args.a.now
second w =
    let f = first (goal.at.After-read-2 w).After-read in
    let fraction = w.args.fraction.now in
    let is = w.read-2.ensures in
    record {
      is = is ∙ ap (λ (z : ℕ). decimal z fraction) f.is;
      below = subst (λ (z : ℕ). z < 10 ^ (length w.args.whole.now + length fraction)) (sym is)
          (digits_below fraction (length w.args.whole.now) _ f.below w.requires.5);
      long = w.read-2.auto.a ∙ f.long;
    }

-- with the power above the line, four times it has room
top : (w : After-read-2) →
    let args = w.args in
    val w.read-2.new.a * 10 ^ args.up * 4 < 4294967296 ^ length args.a.now
top w = product_below _ (length w.args.whole.now + length w.args.fraction.now) w.args.up _ (second w).below w.requires.6

-- the power below the line
lower : (w : After-scale-2) →
    val w.scale-2.new.a ≡ 10 ^ w.args.down
lower w = w.scale-2.ensures ∙ ap (λ (z : ℕ). z * 10 ^ w.args.down) w.requires.2 ∙ one-mul _

pub read-requires : goal.read-requires
read-requires c =
    let args = c.args in (
      c.requires.4,
      first_room (val args.a.now) (length args.whole.now) (length args.fraction.now + args.up) _ c.requires.1
          (subst (λ (z : ℕ). 10 ^ z * 4 ≤ 4294967296 ^ length args.a.now) (omega arith) c.requires.6),
    )

pub read-requires-2 : goal.read-requires-2
read-requires-2 c =
    let f = first (goal.at.read-requires-2 c).After-read in (
      c.requires.5,
      subst (λ (z : ℕ). (val c.read.new.a + 1) * 10 ^ length c.args.fraction.now ≤ 4294967296 ^ z) (sym f.long)
          (next_room _ (length c.args.whole.now) (length c.args.fraction.now) c.args.up _ f.below c.requires.6),
    )

pub scale-requires : goal.scale-requires
scale-requires c =
    let g = second (goal.at.scale-requires c).After-read-2 in (
      omega arith,
      omega arith,
      omega arith,
      subst (λ (z : ℕ). val c.read-2.new.a * 10 ^ c.args.up < 4294967296 ^ z) (sym g.long)
          (product_room _ 4 _ (top (goal.at.scale-requires c).After-read-2) (lit< tt)),
    )

pub scale-requires-2 : goal.scale-requires-2
scale-requires-2 c =
    let args = c.args in (
      omega arith,
      omega arith,
      omega arith,
      subst (λ (z : ℕ). val args.b.now * 10 ^ args.down < 4294967296 ^ z) (sym c.requires.0)
          (subst (λ (z : ℕ). z * 10 ^ args.down < 4294967296 ^ length args.a.now) (sym c.requires.2)
          (subst (λ (z : ℕ). z < 4294967296 ^ length args.a.now) (sym (one-mul (10 ^ args.down)))
          (product_room _ 2 _ (twice_room args.down _ c.requires.7) (lit< tt)))),
    )

pub nearest-requires : goal.nearest-requires
nearest-requires c =
    let long : length c.scale.new.a ≡ length c.args.a.now = c.scale.auto.a ∙ (second (goal.at.nearest-requires c).After-read-2).long in
    let low = lower (goal.at.nearest-requires c).After-scale-2 in (
      c.scale-2.auto.a ∙ c.requires.0 ∙ sym long,
      subst (λ (z : ℕ). val c.scale.new.a * 4 < 4294967296 ^ z) (sym long)
          (subst (λ (z : ℕ). z * 4 < 4294967296 ^ length c.args.a.now) (sym c.scale.ensures) (top (goal.at.nearest-requires c).After-read-2)),
      subst (λ (z : ℕ). val c.scale-2.new.a * 2 < 4294967296 ^ z) (sym long)
          (subst (λ (z : ℕ). z * 2 < 4294967296 ^ length c.args.a.now) (sym low) (twice_room c.args.down _ c.requires.7)),
      subst (λ (z : ℕ). 0 < z) (sym low) (one-le-pow c.args.down 10 (lit< tt)),
      omega (arith, long, c.requires.3),
    )
