-- A number of few digits and with no exponent: its digits, read one by one, and what stands behind them.
use Prim.Native.Nat.{ℕ, zero, suc, ◌+◌, ◌-◌, ◌*◌, ◌^◌, ◌≤◌, ◌<◌}
use mathlib.Core.List.{List, [], ◌∷◌}
use mathlib.Core.Bool.{Bool, true, false, ◌&&◌, ◌||◌}
use mathlib.Core.Path.{◌≡◌, refl, sym, ap, ◌∙◌}
use native.Mathlib.Nat.{zero-add, sub-zero}
use native.Mathlib.Omega.{arith}
use native.Mathlib.Numerals.{add-one}
use lib.Dec.{eqb, ltb}
use lib.ListN.{length, get_or, take, drop}
use lib.Seq.{get_or-drop}
use borrow.Author.Tests.{eqb-true, ltb-true, ltb-false}
use Rattle.text.specs.Bytes.{run, decimal, is_digit}
use Rattle.text.proofs.ByteLaws.{run_yes, run_no, run_in, run_le, within_is}
use Rattle.limbs.proofs.NumberLaws.{decimal_nil, ten_more}
use Rattle.token.specs.Token.{point_at, past_fraction, suffix_at, past_power, past_suffix, places_of, written_at}
use Rattle.token.specs.Means.{RunIs, FractionIs}
use Rattle.token.specs.declared.Run.{Run}
use Rattle.token.proofs.LexLaws.{Parts, size_is, written_parts}
use Rattle.token.proofs.WholeLaws.{never, both, neither}

-- ---- a run of digits, of which n are known

run_more : (l : List ℕ) (n : ℕ) → n ≤ run is_digit l → is_digit (get_or l n 0) ≡ true → n < run is_digit l
unfolding run
run_more [] n h e = absurd (never e)
run_more (b ∷ l) zero h e = omega (arith, run_yes is_digit b l e)
run_more (b ∷ l) (suc n) h e = go (λ g. run_more l n g e) (is_digit b) refl
  where
    go : (n ≤ run is_digit l → n < run is_digit l) → (x : Bool) → is_digit b ≡ x → suc n < run is_digit (b ∷ l)
    go more true p = let k = run_yes is_digit b l p in let m = more (omega arith) in omega arith
    go more false p = absurd (omega (arith, run_no is_digit b l p))

run_ends : (l : List ℕ) (n : ℕ) → n ≤ run is_digit l → is_digit (get_or l n 0) ≡ false → n ≡ run is_digit l
run_ends l n h e = go (ltb n (run is_digit l)) refl
  where
    go : (x : Bool) → ltb n (run is_digit l) ≡ x → n ≡ run is_digit l
    go true p = absurd (never (sym e ∙ run_in is_digit l n (ltb-true n (run is_digit l) p)))
    go false p = omega (arith, ltb-false n (run is_digit l) p)

decimal-more : (v : ℕ) (l : List ℕ) (n : ℕ) → n < length l → decimal v (take (suc n) l) ≡ decimal v (take n l) * 10 + (get_or l n 0 - 48)
unfolding decimal
decimal-more v [] n h = absurd (omega arith)
decimal-more v (b ∷ l) zero h = refl
decimal-more v (b ∷ l) (suc n) h = decimal-more (v * 10 + (b - 48)) l n (omega arith)

-- ---- digits read one by one

pub record Reading (t : List ℕ) (seed from most v i : ℕ) : Type 0 where
  pub is : RunIs t seed from most (record { value = v; end = i })
  pub small : v < 10 ^ (19 - most + (i - from))

module _ {t : List ℕ} {seed from most : ℕ} where
  pub reading_none : seed < 10 ^ (19 - most) → Reading t seed from most seed from
  reading_none h =
      let z : from - from ≡ 0 = omega arith in
      let k : 19 - most + (from - from) ≡ 19 - most = omega arith in
      record {
        is = record {
          low = omega arith;
          high = omega arith;
          digits = omega arith;
          value = sym (decimal_nil seed (drop from t) (from - from) z);
        };
        small = rw k h;
      }

  pub reading-more : {v i : ℕ} (b : ℕ) → Reading t seed from most v i → most ≤ 19 → i < from + most
      → b ≡ get_or t i 0 → is_digit b ≡ true → Reading t seed from most (v * 10 + (b - 48)) (i + 1)
  reading-more {v} {i} b r m l e d =
      let n = i - from in
      let at : get_or (drop from t) n 0 ≡ b = here r.is.low in
      let some = run_more (drop from t) n r.is.digits (ap is_digit at ∙ d) in
      let next : i + 1 - from ≡ suc n = after r.is.low in
      let more = decimal-more seed (drop from t) n (omega (arith, run_le is_digit (drop from t))) in
      let power : 19 - most + (i + 1 - from) ≡ 19 - most + n + 1 = omega (arith, next) in
      record {
        is = record {
          low = omega (arith, r.is.low);
          high = omega arith;
          digits = rw next some;
          value = rw (next, more, at, sym r.is.value);
        };
        small = rw power (ten_more v (b - 48) (19 - most + n) r.small (omega (arith, within_is 48 57 b d)));
      }
    where
      here : from ≤ i → get_or (drop from t) (i - from) 0 ≡ b
      here g = let z : from + (i - from) ≡ i = omega arith in rw (get_or-drop, z) (sym e)

      after : from ≤ i → i + 1 - from ≡ suc (i - from)
      after g = omega arith

-- ---- the number that they are

-- digits with none behind them are all
all_of : {t : List ℕ} {seed from most : ℕ} (r : Run) → RunIs t seed from most r → is_digit (get_or t r.end 0) ≡ false
    → r.end ≡ from + run is_digit (drop from t)
all_of {t} {seed} {from} r h e =
    let z : from + (r.end - from) ≡ r.end = omega (arith, h.low) in
    omega (arith, h.low, run_ends (drop from t) (r.end - from) h.digits (rw (get_or-drop, z) e))

point_no_digit : (b : ℕ) (c : Bool) → (eqb b 46 && c) ≡ true → is_digit b ≡ false
point_no_digit b c h = rw (eqb-true b 46 (both (eqb b 46) c h).0)

-- the number of the digits h, those of the fraction r behind a point (x), and the byte b behind them
pub record Short (t : List ℕ) (h r : Run) (x : Bool) (b : ℕ) : Type 0 where
  pub is : record { digits = r.value; places = places_of x h.end r.end; point = x; exponent = false; suffix = eqb b 115 }
      ≡ written_at t
  pub few : places_of x h.end r.end ≤ 9

parts_of : {t : List ℕ} {w e b : ℕ} {x : Bool} → w ≡ run is_digit t → x ≡ point_at t w → e ≡ past_fraction x t w → b ≡ get_or t e 0
    → (eqb b 101 || eqb b 69) ≡ false
    → Parts t w x e 0 (eqb b 115) (past_suffix (eqb b 115) (past_power t e 0))
unfolding suffix_at past_power
parts_of {t} {w} {e} {b} p q f g n = record {
  whole = p;
  point = q;
  end = f;
  power = sym (size_is t e b g false n);
  suffix = rw g;
  next = refl;
}

pub short_number : {t : List ℕ} {h r : Run} (x : Bool) {b : ℕ} → RunIs t 0 0 10 h → x ≡ point_at t h.end → FractionIs t h x r
    → b ≡ get_or t r.end 0 → ((eqb b 101 || eqb b 69) || is_digit b) ≡ false
    → Short t h r x b
unfolding past_fraction places_of point_at decimal
short_number {t} {h} {r} true {b} d p f g n =
    let no = neither (eqb b 101 || eqb b 69) (is_digit b) n in
    let w : h.end ≡ run is_digit t = all_of h d (point_no_digit (get_or t h.end 0) _ (sym p)) ∙ zero-add _ in
    let e = all_of r f (ap is_digit (sym g) ∙ no.1) in
    let whole : h.value ≡ decimal 0 (take h.end t) = d.value ∙ (rw sub-zero) in
    let s : h.end + 1 ≡ suc h.end = add-one h.end in
    record {
      is = written_parts (parts_of w p (rw s at e) g no.0) r.value (r.end - suc h.end) refl refl
          ((rw s at f.value) ∙ (rw whole));
      few = omega (arith, f.high);
    }
short_number {t} {h} {r} false {b} d p f g n =
    let no = neither (eqb b 101 || eqb b 69) (is_digit b) n in
    let end : r.end ≡ h.end = ap (λ (z : Run). z.end) f in
    let w : h.end ≡ run is_digit t = all_of h d (rw (sym end, sym g) no.1) ∙ zero-add _ in
    let value : r.value ≡ decimal 0 (take h.end t) = ap (λ (z : Run). z.value) f ∙ d.value ∙ (rw sub-zero) in
    record { is = written_parts (parts_of w p end g no.0) r.value 0 refl refl value; few = omega arith }
