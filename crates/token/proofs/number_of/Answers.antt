-- `token::number_of` meets its contract: of few digits and with no exponent, the number is read from its digits.
use mathlib.Core.Logic.{inl}
use mathlib.Core.Path.{◌≡◌, refl, sym, ap, ◌∙◌}
use Prim.Native.Nat.{◌≤◌}
use native.Mathlib.Omega.{arith}
use Rattle.number.specs.Number.{Written}
use Rattle.token.specs.Means.{Reads}
use Rattle.token.specs.declared.Number as numbers
use Rattle.token.proofs.ShortLaws.{short_number}
use Rattle.token.proofs.number_of.Goals as goal

-- what equal numbers say of the code's
same_number : (w v : Written) (n : numbers.Number) → v ≡ w → n.point ≡ v.point → n.suffix ≡ v.suffix → n.digits ≡ v.digits
    → n.places ≡ v.places → n.places ≤ 9
    → Reads w n
same_number w v n e a b c d f = record {
  point = a ∙ ap (λ (x : Written). x.point) e;
  suffix = b ∙ ap (λ (x : Written). x.suffix) e;
  few = f;
  digits = λ h. c ∙ ap (λ (x : Written). x.digits) e;
  places = λ h. d ∙ ap (λ (x : Written). x.places) e;
  whole = λ h. inl (c ∙ ap (λ (x : Written). x.digits) e);
}

pub returns : goal.returns
returns c =
    let s = short_number c.has_point-point.result c.digits_from-whole.ensures c.has_point-point.ensures
    c.fraction_from-all.ensures c.byte_at-b.ensures
    (rw (sym c.in_class.ensures) c.if-b-in_class.false)
    in
    let q = c.places_of-places.ensures in
    (refl, same_number _ _ _ s.is refl refl refl q (omega (arith, s.few, q)))
