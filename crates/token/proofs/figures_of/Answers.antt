-- `token::figures_of` meets its contract; the number's parts are its figures.
use Prim.Native.Nat.{ℕ, suc, ◌+◌, ◌≤◌}
use mathlib.Core.Bool.{Bool}
use mathlib.Core.List.{List, []}
use mathlib.Core.Path.{◌≡◌, refl, sym, ap, ◌∙◌}
use native.Mathlib.Nat.{zero-add}
use native.Mathlib.Numerals.{add-one}
use native.Mathlib.Omega.{arith}
use lib.Dec.{eqb}
use lib.ListN.{get_or}
use borrow.Author.Tests.{eq-eqb, ne_eqb}
use Rattle.token.specs.Token.{places_of, suffix_at, past_suffix, past_power}
use Rattle.token.proofs.LexLaws.{Parts, digits_few, digits_soon, fraction_low, fraction-run}
use Rattle.token.proofs.LexLaws.{power_small, written_up, written_down, written-plain}
use Rattle.token.proofs.figures_of.Goals.{After-past_fraction-end, After-places_of-q}
use Rattle.token.proofs.figures_of.Goals as goal

-- the number's parts, few enough of each
record Few (t : List ℕ) (w : ℕ) (x : Bool) (e k q : ℕ) : Type 0 where
  parts : Parts t w x e k (suffix_at t (past_power t e k)) (past_suffix (suffix_at t (past_power t e k)) (past_power t e k))
  whole : w ≤ 40
  places : q ≡ places_of x w e
  few : q ≤ 40

few : (w : After-places_of-q) →
    Few
    w.args.t.now
    w.run_end-w.result
    w.has_point-point.result
    w.past_fraction-end.result
    w.power_size-power.result
    w.places_of-q.result
few w =
    let p : Parts _ _ _ _ _ _ _ = record {
      whole = w.run_end-w.ensures ∙ zero-add _;
      point = w.has_point-point.ensures;
      end = w.past_fraction-end.ensures;
      power = w.power_size-power.ensures;
      suffix = refl;
      next = refl;
    }
    in
    record {
      parts = p;
      whole = omega (arith, p.whole, w.requires.whole);
      places = w.places_of-q.ensures;
      few = digits_few p _ w.places_of-q.ensures w.requires;
    }

soon : (w : After-past_fraction-end) → w.past_fraction-end.result ≤ 81
soon w =
    let h = digits_soon w.args.t.now _ _ (w.run_end-w.ensures ∙ zero-add _) w.has_point-point.ensures w.requires
    in
    omega (arith, w.past_fraction-end.ensures)

sign : (t : List ℕ) (n b : ℕ) (x : Bool) → b ≡ get_or t (n + 1) 0 → eqb b 45 ≡ x → eqb (get_or t (suc n) 0) 45 ≡ x
sign t n b x e h = ap (λ (z : ℕ). eqb (get_or t z 0) 45) (sym (add-one n)) ∙ ap (λ (z : ℕ). eqb z 45) (sym e) ∙ h

pub past_fraction-end-requires : goal.past_fraction-end-requires
past_fraction-end-requires c =
    let h = digits_soon c.args.t.now _ _ (c.run_end-w.ensures ∙ zero-add _) c.has_point-point.ensures c.requires in
    (c.has_point-point.ensures, omega arith)

pub power_size-power-requires : goal.power_size-power-requires
power_size-power-requires c = omega (arith, soon c)

pub overflow_sub-from : goal.overflow_sub-from
overflow_sub-from c = let f = few c in fraction_low [] _ _ _ _ f.places

pub power_of-e-requires : goal.power_of-e-requires
power_of-e-requires c = (omega (arith, soon (goal.at.power_of-e-requires c).After-past_fraction-end), c.power_size-power.ensures)

pub returns-then-byte_at-eq45 : goal.returns-then-byte_at-eq45
returns-then-byte_at-eq45 c =
    let t = c.args.t.now in
    let f = few (goal.at.returns-then-byte_at-eq45 c).After-places_of-q in
    let e = c.power_of-e.ensures in
    let small = power_small t _ _ f.parts.power in
    let v = written_down f.parts
    (sign t c.past_fraction-end.result _ _ c.byte_at.ensures (eq-eqb _ 45 c.if-byte_at-eq45.true)) _ f.places _ e
    in
    record {
      w = omega (arith, f.parts.whole);
      q = fraction-run t _ _ _ _ f.parts.end f.places;
      w_few = f.whole;
      q_few = f.few;
      up = omega arith;
      down = omega (arith, small, e);
      digits = v.0;
      places = v.1;
      whole = written-plain f.parts;
    }

pub returns : goal.returns
returns c =
    let t = c.args.t.now in
    let f = few (goal.at.returns c).After-places_of-q in
    let e = c.power_of-e.ensures in
    let small = power_small t _ _ f.parts.power in
    let v = written_up f.parts
    (sign t c.past_fraction-end.result _ _ c.byte_at.ensures (ne_eqb _ 45 c.if-byte_at-eq45.false)) _ f.places _ e
    in
    record {
      w = omega (arith, f.parts.whole);
      q = fraction-run t _ _ _ _ f.parts.end f.places;
      w_few = f.whole;
      q_few = f.few;
      up = omega (arith, small, e);
      down = omega arith;
      digits = v.0;
      places = v.1;
      whole = written-plain f.parts;
    }
