-- `token::digits_from` meets its contract; the loop keeps what is read so far, `Reading`.
use mathlib.Core.Path.{◌≡◌, sym, ◌∙◌}
use mathlib.Core.Bool.{true}
use native.Mathlib.Omega.{arith}
use Prim.Native.Nat.{ℕ, ◌<◌}
use Rattle.text.specs.Bytes.{is_digit}
use Rattle.text.proofs.ByteLaws.{within_is}
use Rattle.limbs.proofs.NumberLaws.{ten_fits}
use Rattle.token.proofs.ShortLaws.{reading_none, reading-more}
use Rattle.token.proofs.digits_from.Goals.{Else-not-in_class}
use Rattle.token.proofs.digits_from.Goals as goal

-- at a digit: there is room for it
record Next (value b : ℕ) : Type 0 where
  digit : is_digit b ≡ true
  small : value < 1000000000000000000

next : (w : Else-not-in_class) → Next w.loop-i.value w.byte_at-b.result
next w =
    let r = w.loop-i.invariant in
    record {
      digit = sym w.in_class.ensures ∙ w.if-not-in_class.false;
      small = ten_fits w.loop-i.value _ 18 r.small (omega (arith, r.is.low, w.requires));
    }

pub loop-i-init : goal.loop-i-init
loop-i-init c = reading_none c.requires.2

pub overflow_mul-value : goal.overflow_mul-value
overflow_mul-value c = let n = next c in omega (arith, n.small)

pub overflow_add-value : goal.overflow_add-value
overflow_add-value c = let n = next c in omega (arith, n.small, within_is 48 57 c.byte_at-b.result n.digit)

pub loop-i-preserved : goal.loop-i-preserved
loop-i-preserved c =
    reading-more c.byte_at-b.result c.loop-i.invariant c.requires.1 (omega arith)
    c.byte_at-b.ensures (next c).digit
