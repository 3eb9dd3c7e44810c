-- `limbs::raise` meets its contract.
use borrow.Author.Tests.{ltb-true, ltb-false}
use mathlib.Core.Path.{◌≡◌, refl, sym, ◌∙◌, subst}
use mathlib.Core.Logic.{◌⊎◌, inl, inr, ⊎_elim}
use Prim.Native.Nat.{ℕ, ◌+◌, ◌*◌, ◌^◌, ◌<◌, ◌≤◌}
use native.Mathlib.Nat.{min-le_left, min-le_right, mul-le-mul_right, le_of_eq, le_trans, le_refl}
use native.Mathlib.Omega.{arith}
use lib.ListN.{length}
use Rattle.limbs.specs.LimbMeans.{val}
use Rattle.limbs.proofs.LongLaws.{shifted_room, half_below, raise_first, raise_step, raise_scaled, raise_fits}
use Rattle.limbs.proofs.raise.Goals.{After-min-n}
use Rattle.limbs.proofs.raise.Goals as goal

-- b doubled at first has room
record Room (p a b n : ℕ) : Type 0 where
  fits : b * 2 ^ n * 2 < p
  near : (n ≡ 0) ⊎ (b * 2 ^ n ≤ a * 2)
  few : n ≤ 150

room : (w : After-min-n) →
    Room (4294967296 ^ length w.args.a.now) (val w.args.a.now) (val w.args.b.now) w.min-n.result
room w =
    let z = shifted_room (val w.args.a.now) (val w.args.b.now) w.size.result w.size-2.result
    w.min-n.result
    (4294967296 ^ length w.args.a.now)
    w.size-2.ensures.0
    w.size.ensures.1
    (omega (arith, w.min-n.ensures, w.saturating_sub.ensures, min-le_left w.saturating_sub.result 150))
    w.requires.1
    w.requires.2
    in
    record { fits = z.0; near = z.1; few = omega (arith, w.min-n.ensures, min-le_right w.saturating_sub.result 150) }

pub scale-requires : goal.scale-requires
scale-requires c = (
  omega arith,
  omega arith,
  omega arith,
  subst (λ (z : ℕ). val c.args.b.now * 2 ^ c.min-n.result < 4294967296 ^ z) (sym c.requires.0)
      (half_below _ _ (room (goal.at.scale-requires c).After-min-n).fits),
)

pub loop-k-init : goal.loop-k-init
loop-k-init c =
    let r = room (goal.at.loop-k-init c).After-min-n in
    let n = c.min-n.result in (
      omega arith,
      omega (arith, r.few),
      refl,
      le_refl _,
      raise_first (val c.scale.new.a) (150 + n),
      ⊎_elim (λ e. inl (omega arith)) (λ h. inr (le_trans (le_of_eq c.scale.ensures) h)) r.near,
      subst (λ (z : ℕ). z * 2 < 4294967296 ^ length c.args.a.now) (sym c.scale.ensures) r.fits,
    )

pub loop-k-preserved : goal.loop-k-preserved
loop-k-preserved c =
    let a = val c.args.a.now in
    let b = val c.loop-k.b in
    let w : b ≤ a = ltb-false a b (sym c.less.ensures ∙ c.if-not-less.true) in (
      omega arith,
      omega arith,
      c.double.auto.a ∙ c.loop-k.invariant.2,
      omega (arith, c.loop-k.invariant.3),
      c.double.ensures ∙ raise_step _ b c.loop-k.k _ c.loop-k.invariant.3 c.loop-k.invariant.4,
      inr (le_trans (le_of_eq c.double.ensures) (mul-le-mul_right 2 w)),
      subst (λ (z : ℕ). z * 2 < 4294967296 ^ length c.args.a.now) (sym c.double.ensures) (raise_fits a b _ w c.requires.1),
    )

pub returns-else-not-less : goal.returns-else-not-less
returns-else-not-less c =
    let a = val c.args.a.now in
    let b = val c.loop-k.b in
    record {
      least = c.loop-k.invariant.0;
      most = c.loop-k.invariant.1;
      scaled = raise_scaled (val c.args.b.now) _ _ b c.loop-k.k c.scale.ensures c.loop-k.invariant.3 c.loop-k.invariant.4;
      above = λ h. ltb-true a b (sym c.less.ensures ∙ c.if-not-less.false);
      near = c.loop-k.invariant.5;
      fits = c.loop-k.invariant.6;
    }

pub returns-after-loop-k : goal.returns-after-loop-k
returns-after-loop-k c =
    record {
      least = c.loop-k.invariant.0;
      most = c.loop-k.invariant.1;
      scaled = raise_scaled (val c.args.b.now) _ _ (val c.loop-k.b) c.loop-k.k c.scale.ensures c.loop-k.invariant.3 c.loop-k.invariant.4;
      above = λ h. absurd (omega arith);
      near = c.loop-k.invariant.5;
      fits = c.loop-k.invariant.6;
    }
