-- `token::stretched` meets its contract: from the number's figures.
use Prim.Native.Nat.{ℕ, ◌+◌, ◌*◌, ◌^◌, ◌≤◌, ◌<◌}
use mathlib.Core.Bool.{true, ◌&&◌}
use mathlib.Core.Path.{◌≡◌, sym, subst}
use native.Mathlib.Nat.{le_refl, le_of_eq, lt_of_lt_of_le, mul-lt-mul_of_pos_right}
use native.Mathlib.Omega.{arith}
use lib.Dec.{leb}
use lib.ListN.{length, drop}
use Rattle.text.specs.Bytes.{is_digit}
use lib.Pow.{pow-add}
use borrow.Author.Tests.{leb-true}
use Rattle.limbs.proofs.NumberLaws.{ten_fits, ten_positive, whole_small, digits_small, run_part, part_le}
use Rattle.token.specs.declared.Figures.{Figures}
use Rattle.token.proofs.WholeLaws.{both}
use Rattle.token.proofs.stretched.Goals.{After-value-all, After-value-whole, Then-d-places}
use Rattle.token.proofs.stretched.Goals as goal

-- the figures of a number that is multiplied out in 64 bits
record Fits (d : Figures) : Type 0 where
  up : d.up ≤ 9
  all : d.w + d.q + d.up ≤ 19
  places : d.q + d.down ≤ 9

fits : (d : Figures) → ((leb d.up 9 && leb (d.w + d.q + d.up) 19) && leb (d.q + d.down) 9) ≡ true → Fits d
fits d h =
    let a = both (leb d.up 9 && leb (d.w + d.q + d.up) 19) (leb (d.q + d.down) 9) h in
    let b = both (leb d.up 9) (leb (d.w + d.q + d.up) 19) a.0 in
    record { up = leb-true d.up 9 b.0; all = leb-true (d.w + d.q + d.up) 19 b.1; places = leb-true (d.q + d.down) 9 a.1 }

small : (w : Then-d-places) →
    Fits w.figures_of-d.result
small w = fits w.figures_of-d.result w.if-d-places.true

-- the digits before the point
whole : (w : After-value-whole) →
    w.value-whole.result < 10 ^ w.figures_of-d.result.w
whole w = whole_small w.args.t.now w.figures_of-d.result.w _ w.figures_of-d.result.w (rw w.part.ensures at w.value-whole.ensures) w.figures_of-d.ensures.w (le_refl _)

-- and those behind it
all : (w : After-value-all) →
    let d = w.figures_of-d.result in
    w.value-all.result < 10 ^ (d.w + d.q)
all w =
    let t = w.args.t.now in
    subst (λ (z : ℕ). z < 10 ^ (w.figures_of-d.result.w + w.figures_of-d.result.q)) (sym (rw w.part-then-d-places.ensures at w.value-all.ensures))
    (digits_small (drop w.figures_of-d.result.from t) w.figures_of-d.result.q w.figures_of-d.result.w _ (whole (goal.at.After-value-all w).After-value-whole) w.figures_of-d.ensures.q)

times_below : (v x u r : ℕ) → v < 10 ^ x → r ≡ 10 ^ u → x + u ≤ 19 → v * r < 10 ^ 19
times_below v x u r h e l =
    subst (λ (z : ℕ). v * z < 10 ^ 19) (sym e)
    (ten_fits (v * 10 ^ u) (x + u) 19 (lt_of_lt_of_le (mul-lt-mul_of_pos_right h (ten_positive u)) (le_of_eq (sym (pow-add 10 x u)))) l)

pub value-whole-requires : goal.value-whole-requires
value-whole-requires c =
    let t = c.args.t.now in
    let d = c.figures_of-d.result in
    let s = small (goal.at.value-whole-requires c).Then-d-places in
    let few : length c.part.result.now ≤ d.w = rw c.part.ensures (part_le t 0 d.w) in
    (rw c.part.ensures (run_part is_digit t 0 d.w c.figures_of-d.ensures.w), ten_positive _, omega (arith, s.all, few))

pub value-all-requires : goal.value-all-requires
value-all-requires c =
    let t = c.args.t.now in
    let d = c.figures_of-d.result in
    let s = small (goal.at.value-all-requires c).Then-d-places in
    let few : length c.part-then-d-places.result.now ≤ d.q = rw c.part-then-d-places.ensures (part_le t d.from d.q) in (
      rw c.part-then-d-places.ensures (run_part is_digit t d.from d.q c.figures_of-d.ensures.q),
      ten_fits c.value-whole.result d.w _ (whole (goal.at.value-all-requires c).After-value-whole) (omega (arith, s.all, few)),
      omega (arith, s.all, few),
    )

pub capped-requires : goal.capped-requires
capped-requires c = rw c.part-2.ensures (run_part is_digit c.args.t.now 0 c.figures_of-d.result.w c.figures_of-d.ensures.w)

pub overflow_mul-digits : goal.overflow_mul-digits
overflow_mul-digits c =
    let d = c.figures_of-d.result in
    omega (
      arith,
      times_below
          c.value-all.result
          (d.w + d.q)
          d.up
          c.ten_to.result
          (all (goal.at.overflow_mul-digits c).After-value-all)
          c.ten_to.ensures
          (small (goal.at.overflow_mul-digits c).Then-d-places).all,
    )
