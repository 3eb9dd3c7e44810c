-- `limbs::read` meets its contract: the loop keeps the number that the digits left make of the limbs.
use Rattle.std.proofs.Common.{rules}
use mathlib.Core.Path.{◌≡◌, refl, sym, ap, ◌∙◌, subst}
use mathlib.Core.List.{List}
use Prim.Native.Nat.{ℕ, ◌+◌, ◌*◌, ◌^◌, ◌<◌, ◌≤◌}
use native.Mathlib.Nat.{min-le_left, min-le_right}
use native.Mathlib.Omega.{arith}
use lib.ListN.{length, take, drop, length-drop}
use lib.Seq.{length-take-le}
use Rattle.text.specs.Bytes.{decimal, run, is_digit}
use Rattle.limbs.specs.LimbMeans.{val}
use Rattle.limbs.proofs.NumberLaws.{run-take, run-drop, decimal_none}
use Rattle.limbs.proofs.DecimalLaws.{read_next, read_room, read_fits}
use Rattle.limbs.proofs.LimbLaws.{product}
use Rattle.limbs.proofs.read.Goals.{After-split_at}
use Rattle.limbs.proofs.read.Goals as goal

-- the first digits, s of them, and the rest
record Cut (s : ℕ) (l front back : List ℕ) : Type 0 where
  first : front ≡ take s l
  after : back ≡ drop s l
  size : length front ≡ s
  inside : s ≤ length l
  few : s ≤ 9
  left : length l ≡ s + length back

cut : (w : After-split_at) → Cut w.min.result w.loop-rest.rest.now w.split_at.result.0.now w.split_at.result.1.now
cut w =
    let l = w.loop-rest.rest.now in
    let s = w.min.result in
    let inside : s ≤ length l = omega (arith, w.min.ensures, min-le_left (length l) 9) in
    record {
      first = w.split_at.ensures.front;
      after = w.split_at.ensures.back;
      size = ap length w.split_at.ensures.front ∙ length-take-le s l inside;
      inside = inside;
      few = omega (arith, w.min.ensures, min-le_right (length l) 9);
      left = omega (arith, inside, ap length w.split_at.ensures.back, length-drop s l);
    }

pub few-requires : goal.few-requires
few-requires c =
    let f = cut (goal.at.few-requires c).After-split_at in (
      subst (λ (z : List ℕ). length z ≤ run is_digit z) (sym f.first)
          (run-take is_digit c.loop-rest.rest.now c.min.result (omega (arith, f.inside, c.loop-rest.invariant.0))),
      omega (arith, f.size, f.few),
    )

pub loop-rest-preserved : goal.loop-rest-preserved
loop-rest-preserved c =
    let f = cut (goal.at.loop-rest-preserved c).After-split_at in
    let l = c.loop-rest.rest.now in
    let after = c.split_at.result.1.now in
    let s = length c.split_at.result.0.now in
    let a = val c.loop-rest.a in
    let p = 4294967296 ^ length c.args.a.now in
    let r = c.few.result in
    let room : (a * 10 ^ s + r + 1) * 10 ^ length after ≤ p =
    read_room a r s (length after) p c.few.ensures.1
    (subst (λ (z : ℕ). (a + 1) * 10 ^ z ≤ p) (omega (arith, f.left, f.size)) c.loop-rest.invariant.3)
    in
    let small : a * c.ten_to.result + r < 4294967296 ^ length c.loop-rest.a = subst (λ (z : ℕ). a * c.ten_to.result + r < 4294967296 ^ z)
    (sym c.loop-rest.invariant.1)
    (subst (λ (z : ℕ). a * z + r < p) (sym c.ten_to.ensures) (read_fits _ _ _ room))
    in
    let is : val c.muladd.new.a ≡ a * 10 ^ s + r = product c.loop-rest.a c.muladd.new.a c.muladd.result c.ten_to.result r c.muladd.auto.a
    (c.muladd.ensures.by_index (length c.loop-rest.a) refl) small
    ∙ ap (λ (z : ℕ). a * z + r) c.ten_to.ensures
    in (
      subst (λ (z : List ℕ). length z ≤ run is_digit z) (sym f.after) (run-drop is_digit l c.min.result c.loop-rest.invariant.0),
      c.muladd.auto.a ∙ c.loop-rest.invariant.1,
      ap (λ (z : ℕ). decimal z after) is
          ∙ ap (λ (z : ℕ). decimal (a * 10 ^ z + r) after) f.size
          ∙ ap (λ (z : List ℕ). decimal (a * 10 ^ c.min.result + r) z) f.after
          ∙ read_next l c.min.result a r f.inside (c.few.ensures.0 ∙ ap (decimal 0) f.first) ∙ c.loop-rest.invariant.2,
      subst (λ (z : ℕ). (z + 1) * 10 ^ length after ≤ p) (sym is) room,
    )

pub returns : goal.returns
returns c =
    let l = c.loop-rest.rest.now in
    let none : length l ≡ 0 = search rules in
    sym (decimal_none (val c.loop-rest.a) l none) ∙ c.loop-rest.invariant.2
