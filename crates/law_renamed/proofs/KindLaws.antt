-- A token's bytes, cut alone, are that token again: tokens of equal bytes have equal kinds.
use Prim.Native.Nat.{ℕ, zero, suc, ◌+◌, ◌-◌, ◌≤◌, ◌<◌}
use mathlib.Core.Bool.{Bool, true, false, ◌&&◌, ◌||◌, not, cond}
use mathlib.Core.List.{List, [], ◌∷◌}
use mathlib.Core.Path.{◌≡◌, refl, sym, ap, ◌∙◌}
use native.Mathlib.Omega.{arith}
use native.Mathlib.Nat.{add-zero, min-le_left}
use lib.Dec.{ltb, eqb}
use lib.ListN.{length, get_or, take, drop, length-take}
use lib.Seq.{take-nil, take-take, get_or-take, get_or-drop}
use borrow.Author.Tests.{ltb-true, ltb-false}
use Rattle.text.specs.Limits.{whole_limit, places_limit, power_limit}
use Rattle.text.specs.Bytes.{run, part, among, is_name, is_letter, is_digit, is_inside}
use Rattle.text.proofs.ByteLaws.{run_yes, run_no}
use Rattle.number.specs.Number.{Written}
use Rattle.error.specs.declared.Refusal.TheVariants.{BadForm}
use Rattle.token.specs.Token.{Kind, name, number, quoted, mark, Lexeme, bad, piece, lexeme, name_at, point_at, past_fraction, suffix_at}
use Rattle.token.specs.Token.{past_suffix, clings, places_of, power_from, power_digits, power_size, power_by, power_at, past_power}
use Rattle.token.specs.Token.{written_by, written_at, number_at, quoted_at}
use Rattle.token.proofs.LexLaws.{Parts, name_is, quoted_is, number-clings, number-long, number-written, written_is, lex_is}
use Rattle.token.proofs.LexLaws.{PowerIs, power_is, from_low, digits_are}
use Rattle.token.proofs.WholeLaws.{both, neither, whole_of}
use Rattle.law_renamed.specs.Bytewise.{size_of}
use Rattle.law_renamed.proofs.StreamLaws.{never}

-- ---- the first n bytes of a text

run_take : (p : ℕ → Bool) (n : ℕ) (t : List ℕ) → run p t ≤ n → run p (take n t) ≡ run p t
unfolding run
run_take p zero t h = omega arith
run_take p (suc n) [] h = refl
run_take p (suc n) (b ∷ t) h = go (λ g. run_take p n t g) (p b) refl
  where
    go : (run p t ≤ n → run p (take n t) ≡ run p t) → (x : Bool) → p b ≡ x → run p (b ∷ take n t) ≡ run p (b ∷ t)
    go ih true e = run_yes p b (take n t) e ∙ ap suc (ih (omega (arith, run_yes p b t e))) ∙ sym (run_yes p b t e)
    go ih false e = run_no p b (take n t) e ∙ sym (run_no p b t e)

first_run : (p : ℕ → Bool) (t : List ℕ) → p 0 ≡ false → p (get_or t 0 0) ≡ true → 0 < run p t
first_run p [] z e = never (sym z ∙ e)
first_run p (b ∷ t) z e = rw (run_yes p b t e) (omega arith)

past-taken : (n : ℕ) (t : List ℕ) → get_or (take n t) n 0 ≡ 0
past-taken zero t = refl
past-taken (suc n) [] = refl
past-taken (suc n) (b ∷ t) = past-taken n t

-- a byte that is not of a class, as 0 is not, is not of it there
class_no : (p : ℕ → Bool) → p 0 ≡ false → (n : ℕ) (t : List ℕ) (i : ℕ) → p (get_or t i 0) ≡ false → p (get_or (take n t) i 0) ≡ false
class_no p z zero t i h = z
class_no p z (suc n) [] i h = z
class_no p z (suc n) (b ∷ t) zero h = h
class_no p z (suc n) (b ∷ t) (suc i) h = class_no p z n t i h

drop-take : (i m n : ℕ) (t : List ℕ) → m ≡ i + n → drop i (take m t) ≡ take n (drop i t)
drop-take zero m n t e = let z : m ≡ n = omega arith in ap (λ (k : ℕ). take k t) z
drop-take (suc i) zero n t e = absurd (omega arith)
drop-take (suc i) (suc m) n [] e = sym (take-nil n)
drop-take (suc i) (suc m) n (b ∷ t) e = drop-take i m n t (omega arith)

-- a part of them
pub part-take : (i m n : ℕ) (t : List ℕ) → i + m ≤ n → part (take n t) i m ≡ part t i m
part-take i m n t h =
    rw (drop-take i n (n - i) t (omega arith)) (take-take m (n - i) (drop i t) (omega arith))

-- ---- cut alone

-- f makes of the bytes of the token what it makes of the text
abbrev Again : (List ℕ → Lexeme) → List ℕ → Lexeme → Type 0
Again f t (bad r) = Unit {0}
Again f t (piece k n) = f (take n t) ≡ piece k n

name_again : (t : List ℕ) → Again name_at t (name_at t)
unfolding name_at
name_again t = go (eqb (get_or t (run is_name t) 0) 34)
  where
    n : ℕ
    n = run is_name t

    go : (b : Bool) → Again name_at t (cond b (bad BadForm) (piece (name (take n t)) n))
    go true = tt
    go false =
        name_is (take n t) n false (sym (run_take is_name n t (omega arith))) (rw (past-taken n t))
        ∙ ap (λ (w : List ℕ). piece (name w) n) (take-take n n t (omega arith))

quoted_again : (t : List ℕ) → Again quoted_at t (quoted_at t)
unfolding quoted_at
quoted_again t = go (eqb (get_or t (suc m) 0) 34) refl (is_name (get_or t (m + 2) 0))
  where
    m : ℕ
    m = run is_inside (drop 1 t)

    inner : m ≡ run is_inside (drop 1 (take (m + 2) t))
    inner =
        sym (ap (run is_inside) (drop-take 1 (m + 2) (m + 1) t (omega arith)) ∙ run_take is_inside (m + 1) (drop 1 t) (omega arith))

    go : (b : Bool) → eqb (get_or t (suc m) 0) 34 ≡ b → (c : Bool)
        → Again quoted_at t (cond (b && not c) (piece (quoted m) (m + 2)) (bad BadForm))
    go false e c = tt
    go true e true = tt
    go true e false =
        quoted_is (take (m + 2) t) m true false inner (rw (get_or-take (m + 2) t (suc m) 0 (omega arith)) e) (rw (past-taken (m + 2) t))

-- ---- numbers

fraction_low : (t : List ℕ) (w : ℕ) (x : Bool) → w ≤ past_fraction x t w
unfolding past_fraction
fraction_low t w true = omega arith
fraction_low t w false = omega arith

suffix_low : (z : Bool) (e : ℕ) → e ≤ past_suffix z e
unfolding past_suffix
suffix_low true e = omega arith
suffix_low false e = omega arith

suffix_high : (z : Bool) (e : ℕ) → past_suffix z e ≤ e + 1
unfolding past_suffix
suffix_high true e = omega arith
suffix_high false e = omega arith

and_no : (b c : Bool) → c ≡ false → (b && c) ≡ false
and_no true c e = e
and_no false c e = refl

point_no : (t : List ℕ) (w n : ℕ) → point_at t w ≡ false → point_at (take n t) w ≡ false
unfolding point_at
point_no t w n h = go (eqb (get_or t w 0) 46) refl h
  where
    go : (b : Bool) → eqb (get_or t w 0) 46 ≡ b → (b && is_digit (get_or t (suc w) 0)) ≡ false
        → (eqb (get_or (take n t) w 0) 46 && is_digit (get_or (take n t) (suc w) 0)) ≡ false
    go true e h = and_no (eqb (get_or (take n t) w 0) 46) (is_digit (get_or (take n t) (suc w) 0)) (class_no is_digit refl n t (suc w) h)
    go false e h = rw (class_no (λ (y : ℕ). eqb y 46) refl n t w e)

point_taken : (t : List ℕ) (w n : ℕ) (x : Bool) → x ≡ point_at t w → past_fraction x t w ≤ n → x ≡ point_at (take n t) w
unfolding past_fraction point_at
point_taken t w n true h l =
    let b = both (eqb (get_or t w 0) 46) (is_digit (get_or t (suc w) 0)) (sym h) in
    let d : is_digit (get_or (drop (suc w) t) 0 0) ≡ true = rw (get_or-drop, add-zero) b.1 in
    let r = first_run is_digit (drop (suc w) t) refl d in
    rw (get_or-take n t w 0 (omega arith), get_or-take n t (suc w) 0 (omega arith)) h
point_taken t w n false h l = sym (point_no t w n (sym h))

fraction-taken : (t : List ℕ) (w n : ℕ) (x : Bool) → past_fraction x t w ≤ n → past_fraction x (take n t) w ≡ past_fraction x t w
unfolding past_fraction
fraction-taken t w n false h = refl
fraction-taken t w n true h =
    rw (drop-take (suc w) n (n - suc w) t (omega arith), run_take is_digit (n - suc w) (drop (suc w) t) (omega arith))

suffix_taken : (t : List ℕ) (e : ℕ) (z : Bool) → z ≡ suffix_at t e → z ≡ suffix_at (take (past_suffix z e) t) e
unfolding past_suffix suffix_at
suffix_taken t e true h = rw (get_or-take (suc e) t e 0 (omega arith)) h
suffix_taken t e false h = sym (class_no (λ (y : ℕ). eqb y 115) refl e t e (sym h))

no_more : (t : List ℕ) (b : Bool) (n : ℕ) → clings (take n t) b n ≡ false
unfolding clings
no_more t true n = rw (past-taken n t)
no_more t false n = rw (past-taken n t)

places_in : (t : List ℕ) (w n : ℕ) (x : Bool) → past_fraction x t w ≤ n
    → part (take n t) (suc w) (places_of x w (past_fraction x t w)) ≡ part t (suc w) (places_of x w (past_fraction x t w))
unfolding past_fraction places_of
places_in t w n true h = part-take (suc w) (suc w + run is_digit (drop (suc w) t) - suc w) n t (omega arith)
places_in t w n false h = refl

-- ---- their exponents

-- k bytes of a run, where as many are taken
run_some : (p : ℕ → Bool) (k n : ℕ) (t : List ℕ) → k ≤ n → k ≤ run p t → k ≤ run p (take n t)
unfolding run
run_some p zero n t h g = omega arith
run_some p (suc k) zero t h g = absurd (omega arith)
run_some p (suc k) (suc n) [] h g = g
run_some p (suc k) (suc n) (b ∷ t) h g = go (λ z. run_some p k n t (omega arith) z) (p b) refl
  where
    go : (k ≤ run p t → k ≤ run p (take n t)) → (x : Bool) → p b ≡ x → suc k ≤ run p (b ∷ take n t)
    go ih true e = rw (run_yes p b (take n t) e) (omega (arith, ih (omega (arith, run_yes p b t e))))
    go ih false e = absurd (omega (arith, run_no p b t e))

digits_taken : (t : List ℕ) (m n : ℕ) → m + power_digits t m ≤ n → power_digits (take n t) m ≡ power_digits t m
digits_taken t m n h = go (ltb power_limit (run is_digit (drop m t))) refl
  where
    cut : drop m (take n t) ≡ take (n - m) (drop m t)
    cut = drop-take m n (n - m) t (omega arith)

    -- where as many digits are taken as an exponent may have
    most : (r : ℕ) → r ≡ run is_digit (drop m (take n t)) → power_limit ≤ r
        → (x : Bool) → ltb power_limit r ≡ x → power_digits (take n t) m ≡ power_limit
    most r e g true q = digits_are (take n t) m r e true q
    most r e g false q = digits_are (take n t) m r e false q ∙ (let z = ltb-false power_limit r q in omega arith)

    go : (x : Bool) → ltb power_limit (run is_digit (drop m t)) ≡ x → power_digits (take n t) m ≡ power_digits t m
    go true q =
        let d = digits_are t m (run is_digit (drop m t)) refl true q in
        let z = ltb-true power_limit (run is_digit (drop m t)) q in
        most _ refl (rw cut (run_some is_digit power_limit (n - m) (drop m t) (omega arith) (omega arith))) _ refl ∙ sym d
    go false q =
        let d = digits_are t m (run is_digit (drop m t)) refl false q in
        let r = run_take is_digit (n - m) (drop m t) (omega arith) in
        digits_are (take n t) m (run is_digit (drop m t)) (sym (ap (run is_digit) cut ∙ r)) false q ∙ sym d

from_taken : (t : List ℕ) (e n : ℕ) → e + 2 ≤ n → power_from (take n t) e ≡ power_from t e
unfolding power_from
from_taken t e n h = rw (get_or-take n t (suc e) 0 (omega arith))

-- an `e` that stands last has no digits
size_none : (t : List ℕ) (e n : ℕ) → n ≤ e + 1 → power_size (take n t) e ≡ 0
size_none t e n h = go (power_size (take n t) e) refl
  where
    go : (k : ℕ) → k ≡ power_size (take n t) e → k ≡ 0
    go zero q = refl
    go (suc k) q =
        let p : PowerIs (take n t) e (suc k) = rw (sym q) at (power_is (take n t) e) in
        absurd (omega (arith, p.two.high (omega arith), from_low (take n t) e, length-take n t, min-le_left n (length t)))

size_some : (t : List ℕ) (e n k : ℕ) → suc k ≡ power_size t e → power_from t e + suc k ≤ n → suc k ≡ power_size (take n t) e
unfolding power_size
size_some t e n k q h =
    let p : PowerIs t e (suc k) = rw (sym q) at (power_is t e) in
    let low = from_low t e in
    let m = p.mark (omega arith) in
    let d : suc k ≡ power_digits t (power_from t e) = rw m at q in
    rw (get_or-take n t e 0 (omega arith), m, from_taken t e n (omega arith)) (d ∙ sym (digits_taken t (power_from t e) n (omega arith)))

-- the same exponent, where the text taken ends behind it or behind the byte that follows it
size-taken : (t : List ℕ) (e n k : ℕ) → k ≡ power_size t e → past_power t e k ≤ n → n ≤ past_power t e k + 1 → k ≡ power_size (take n t) e
unfolding past_power
size-taken t e n zero q h g = sym (size_none t e n g)
size-taken t e n (suc k) q h g = size_some t e n k q h

-- where it ends, and what it says
past_again : (t : List ℕ) (e n k : ℕ) → past_power t e k ≤ n → past_power (take n t) e k ≡ past_power t e k
unfolding past_power
past_again t e n zero h = refl
past_again t e n (suc k) h = rw (from_taken t e n (omega (arith, from_low t e)))

power_again : (t : List ℕ) (e n k : ℕ) → past_power t e k ≤ n → power_by (take n t) e k ≡ power_by t e k
unfolding past_power power_by
power_again t e n zero h = refl
power_again t e n (suc k) h =
    let low = from_low t e in
    rw (from_taken t e n (omega arith), get_or-take n t (suc e) 0 (omega arith), part-take (power_from t e) (suc k) n t h)

-- ---- a number by its parts

past_low : (t : List ℕ) (e k : ℕ) → e ≤ past_power t e k
unfolding past_power
past_low t e zero = omega arith
past_low t e (suc k) = omega (arith, from_low t e)

module _ {t : List ℕ} {w : ℕ} {x : Bool} {e k : ℕ} {z : Bool} {n : ℕ} (p : Parts t w x e k z n) where
  -- n lies behind each part, and behind the exponent by the `s` at most
  behind : past_power t e k ≤ n
  behind = omega (arith, p.next, suffix_low z (past_power t e k))

  end_in : past_fraction x t w ≤ n
  end_in = omega (arith, behind, p.end, past_low t e k)

  whole_in : w ≤ n
  whole_in = omega (arith, end_in, fraction_low t w x)

  soon : n ≤ past_power t e k + 1
  soon = omega (arith, p.next, suffix_high z (past_power t e k))

  -- the same parts
  alone : Parts (take n t) w x e k z n
  alone = record {
    whole = p.whole ∙ sym (run_take is_digit n t (omega (arith, p.whole, whole_in)));
    point = point_taken t w n x p.point end_in;
    end = p.end ∙ sym (fraction-taken t w n x end_in);
    power = size-taken t e n k p.power behind soon;
    suffix = rw (past_again t e n k behind, p.next) (suffix_taken t (past_power t e k) z p.suffix);
    next = rw (past_again t e n k behind) p.next;
  }

  same_power : power_at (take n t) e ≡ power_at t e
  unfolding power_at
  same_power = rw (sym alone.power, sym p.power) (power_again t e n k behind)

  same-written : written_at (take n t) ≡ written_at t
  unfolding written_by
  same-written =
      let f = rw (sym p.end) at (places_in t w n x end_in) in
      rw (written_is alone, written_is p, same_power, take-take w n t whole_in, f)

  cut_again : Again number_at t (number_at t)
  cut_again = by (clings t (not ((x || ltb 0 k) || z)) n) refl (ltb whole_limit w || ltb places_limit (places_of x w e)) refl
    where
      by : (a : Bool) → clings t (not ((x || ltb 0 k) || z)) n ≡ a
          → (b : Bool) → (ltb whole_limit w || ltb places_limit (places_of x w e)) ≡ b
          → Again number_at t (number_at t)
      by true h b g = rw (number-clings p h) tt
      by false h true g = rw (number-long p h g) tt
      by false h false g =
          let few = neither (ltb whole_limit w) (ltb places_limit (places_of x w e)) g in
          let a = ltb-false whole_limit w few.0 in
          let b = ltb-false places_limit (places_of x w e) few.1 in
          let again = number-written alone _ (no_more t (not ((x || ltb 0 k) || z)) n) a refl b in
          rw (number-written p _ h a refl b) (again ∙ ap (λ (v : Written). piece (number v) n) same-written)

number_again : (t : List ℕ) → Again number_at t (number_at t)
number_again t = cut_again (record { whole = refl; point = refl; end = refl; power = refl; suffix = refl; next = refl })

-- ---- each token

same_first : (t : List ℕ) (k : Kind) (n : ℕ) → lexeme t ≡ piece k n → get_or (take n t) 0 0 ≡ get_or t 0 0
same_first t k n e = get_or-take n t 0 0 (whole_of t k n e).some

again_of : (f : List ℕ → Lexeme) (t : List ℕ) (k : Kind) (n : ℕ) → lexeme t ≡ piece k n → lexeme t ≡ f t
    → Again f t (f t) → lexeme (take n t) ≡ f (take n t) → lexeme (take n t) ≡ piece k n
again_of f t k n e g h i = i ∙ (rw (sym g ∙ e) at h)

pub again : (t : List ℕ) (k : Kind) (n : ℕ) → lexeme t ≡ piece k n → lexeme (take n t) ≡ piece k n
again t k n e =
    go (is_letter (get_or t 0 0)) refl (is_digit (get_or t 0 0)) refl (eqb (get_or t 0 0) 34) refl (among ":;,=>.+-%([{)]}" (get_or t 0 0)) refl
  where
    u : List ℕ
    u = take n t

    here : (p : ℕ → Bool) (b : Bool) → p (get_or t 0 0) ≡ b → p (get_or u 0 0) ≡ b
    here p b h = ap p (same_first t k n e) ∙ h

    go : (a : Bool) → is_letter (get_or t 0 0) ≡ a → (b : Bool)
        → is_digit (get_or t 0 0) ≡ b → (c : Bool) → eqb (get_or t 0 0) 34 ≡ c
        → (d : Bool) → among ":;,=>.+-%([{)]}" (get_or t 0 0) ≡ d
        → lexeme u ≡ piece k n
    go true f b g c h d i =
        again_of name_at t k n e (lex_is t true b c d f g h i) (name_again t)
        (lex_is u true b c d (here is_letter true f) (here is_digit b g) (here (λ (y : ℕ). eqb y 34) c h)
        (here (among ":;,=>.+-%([{)]}") d i))
    go false f true g c h d i =
        again_of number_at t k n e (lex_is t false true c d f g h i) (number_again t)
        (lex_is u false true c d (here is_letter false f) (here is_digit true g) (here (λ (y : ℕ). eqb y 34) c h)
        (here (among ":;,=>.+-%([{)]}") d i))
    go false f false g true h d i =
        again_of quoted_at t k n e (lex_is t false false true d f g h i) (quoted_again t)
        (lex_is u false false true d (here is_letter false f) (here is_digit false g) (here (λ (y : ℕ). eqb y 34) true h)
        (here (among ":;,=>.+-%([{)]}") d i))
    go false f false g false h d i =
        lex_is u false false false d (here is_letter false f) (here is_digit false g) (here (λ (y : ℕ). eqb y 34) false h)
        (here (among ":;,=>.+-%([{)]}") d i)
        ∙ ap (λ (y : ℕ). cond d (piece (mark y) 1) (bad BadForm)) (same_first t k n e)
        ∙ sym (lex_is t false false false d f g h i)
        ∙ e

-- ---- tokens of equal bytes

abbrev pub kind_cut : Lexeme → Kind
kind_cut (bad r) = mark 0
kind_cut (piece k n) = k

pub same_bytes : (t u : List ℕ) (k l : Kind) (n m : ℕ) → lexeme t ≡ piece k n → lexeme u ≡ piece l m → take n t ≡ take m u
    → (k ≡ l) × (n ≡ m)
same_bytes t u k l n m e g h =
    let z : piece k n ≡ piece l m = sym (again t k n e) ∙ ap lexeme h ∙ again u l m g in
    (ap kind_cut z, ap size_of z)
