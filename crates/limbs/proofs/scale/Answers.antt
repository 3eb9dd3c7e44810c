-- `limbs::scale` meets its contract: the limbs are what they were times a power.
use mathlib.Core.Path.{◌≡◌, ap, ◌∙◌}
use Prim.Native.Nat.{ℕ, ◌+◌, ◌*◌, ◌/◌, ◌%◌, ◌^◌, ◌≤◌, ◌<◌}
use native.Mathlib.Nat.{le_of_eq, pow-le-pow_right, mod-lt, div-add-mod', suc-mul, le-div_iff_mul-le}
use native.Mathlib.Numerals.{add-one}
use native.Mathlib.Omega.{arith}
use Rattle.limbs.specs.LimbMeans.{val}
use Rattle.limbs.proofs.LimbLaws.{scaled_on}
use Rattle.limbs.proofs.scale.Goals as goal

-- one round more
once_more : (k m : ℕ) → k * m + m ≡ (k + 1) * m
once_more k m = rw (add-one, suc-mul)

rounds_fit : (k m n : ℕ) → 0 < m → k < n / m → k * m + m ≤ n
rounds_fit k m n h l = rw once_more ((le-div_iff_mul-le h).0 (omega arith))

pub loop-round-preserved : goal.loop-round-preserved
loop-round-preserved c =
    let k = c.loop-round._round in
    let m = c.args.most in
    let on : k * m + m ≤ c.args.n = rounds_fit k m c.args.n c.requires.1 c.loop-round-test.true in (
      c.muladd.auto.a ∙ c.loop-round.invariant.0,
      scaled_on c.args.base c.requires.0 c.args.a.now c.loop-round.a c.muladd.new.a (k * m) m c.args.n c.muladd.result c.pow.result
          c.muladd.auto.a c.loop-round.invariant.0 c.pow.ensures on c.loop-round.invariant.1 c.requires.3 c.muladd.ensures.by_index
          ∙ ap (λ (z : ℕ). val c.args.a.now * c.args.base ^ z) (once_more k m),
    )

pub pow-requires-2 : goal.pow-requires-2
pow-requires-2 c =
    let few : c.args.n % c.args.most ≤ c.args.most = omega (arith, mod-lt c.args.n c.requires.1) in
    omega (arith, pow-le-pow_right {n = c.args.base} c.requires.0 few, c.requires.2)

pub returns : goal.returns
returns c =
    let n = c.args.n in
    let m = c.args.most in
    let k = c.loop-round._round in
    let all : k ≡ n / m = omega arith in
    let e : k * m + n % m ≡ n = ap (λ (z : ℕ). z * m + n % m) all ∙ div-add-mod' n m in
    scaled_on c.args.base c.requires.0 c.args.a.now c.loop-round.a c.muladd-2.new.a (k * m) (n % m) n c.muladd-2.result c.pow-2.result
    c.muladd-2.auto.a c.loop-round.invariant.0 c.pow-2.ensures (le_of_eq e) c.loop-round.invariant.1 c.requires.3 c.muladd-2.ensures.by_index
    ∙ ap (λ (z : ℕ). val c.args.a.now * c.args.base ^ z) e
