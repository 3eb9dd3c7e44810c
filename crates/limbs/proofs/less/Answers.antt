-- `limbs::less` meets its contract: from the highest limb down.
use borrow.Author.Tests.{lt-ltb, le-ltb, ltb-true, ltb-false}
use mathlib.Core.Path.{◌≡◌, refl, sym, subst}
use mathlib.Core.List.{List}
use mathlib.Core.Bool.{Bool, true, false}
use lib.Dec.{ltb}
use Prim.Native.Nat.{ℕ, ◌-◌, ◌<◌, ◌≤◌}
use native.Mathlib.Nat.{le_of_lt}
use native.Mathlib.Omega.{arith}
use lib.ListN.{length, get_or}
use Rattle.limbs.specs.LimbMeans.{up_to, val}
use Rattle.limbs.proofs.LimbLaws.{decides, passes, down_lt, down_le}
use Rattle.limbs.proofs.less.Goals as goal

none : (a b : List ℕ) → up_to 0 b ≤ up_to 0 a
unfolding up_to
none a b = omega arith

smaller : (a b : List ℕ) → length b ≡ length a → up_to (length a) a < up_to (length a) b → true ≡ ltb (val a) (val b)
smaller a b l h = sym (lt-ltb (val a) (val b) (subst (λ (z : ℕ). val a < up_to z b) (sym l) h))

larger : (a b : List ℕ) → length b ≡ length a → up_to (length a) b ≤ up_to (length a) a → false ≡ ltb (val a) (val b)
larger a b l h = sym (le-ltb (val a) (val b) (subst (λ (z : ℕ). up_to z b ≤ val a) (sym l) h))

-- the highest limbs that differ decide
pub returns-then-a-i : goal.returns-then-a-i
returns-then-a-i c = go (ltb x y) refl
  where
    a : List ℕ
    a = c.args.a.now

    b : List ℕ
    b = c.args.b.now

    i : ℕ
    i = c.loop-i.i

    x : ℕ
    x = get_or a (i - 1) 0

    y : ℕ
    y = get_or b (i - 1) 0

    go : (t : Bool) → ltb x y ≡ t → t ≡ ltb (val a) (val b)
    go true e =
        smaller a b c.requires
        (down_lt i a b (up_to (length a) a < up_to (length a) b) (omega arith) c.loop-i.invariant.0
        (decides (i - 1) a b (λ k. omega (arith, c.type_inv.a k)) (ltb-true x y e)))
    go false e =
        let le : y ≤ x = ltb-false x y e in
        larger a b c.requires
        (down_le i a b (up_to (length a) b ≤ up_to (length a) a) (omega arith) c.loop-i.invariant.1
        (le_of_lt (decides (i - 1) b a (λ k. omega (arith, c.type_inv.b k)) (omega (arith, c.if-a-i.true)))))

pub loop-i-preserved : goal.loop-i-preserved
loop-i-preserved c =
    let a = c.args.a.now in
    let b = c.args.b.now in
    let i = c.loop-i.i in
    let p = passes (i - 1) a b c.if-a-i.false in (
      (λ h. down_lt i a b (up_to (length a) a < up_to (length a) b) (omega arith) c.loop-i.invariant.0 (p.0 h)),
      (λ h. down_le i a b (up_to (length a) b ≤ up_to (length a) a) (omega arith) c.loop-i.invariant.1 (p.1 h)),
    )

pub returns : goal.returns
returns c =
    let a = c.args.a.now in
    let b = c.args.b.now in
    let e : c.loop-i.i ≡ 0 = omega arith in
    larger a b c.requires
    (subst (λ (z : ℕ). up_to z b ≤ up_to z a → up_to (length a) b ≤ up_to (length a) a) e c.loop-i.invariant.1 (none a b))
