-- The names, numbers and strings that a text has fit.
use Prim.Native.Nat.{ℕ, suc, ◌+◌, ◌-◌, ◌<◌}
use mathlib.Core.Bool.{Bool, true, false, ◌&&◌, ◌||◌, not, cond}
use mathlib.Core.List.{List, [], ◌∷◌}
use mathlib.Core.Path.{◌≡◌, refl, sym, ◌∙◌}
use native.Mathlib.Omega.{arith}
use lib.Dec.{eqb, ltb}
use lib.ListN.{length, get_or, take, drop}
use native.Mathlib.Nat.{add-zero}
use lib.Seq.{length-take-le, get_or-drop}
use borrow.Author.Tests.{ltb-false}
use Rattle.digits.specs.Numeral.{all, pointed}
use Rattle.text.specs.Bytes.{run, part, among, is_name, is_letter, is_digit, is_inside}
use Rattle.text.proofs.ByteLaws.{run_le}
use Rattle.number.specs.Number.{Written}
use Rattle.error.specs.declared.Refusal.TheVariants.{BadForm, TooManyDigits}
use Rattle.token.specs.Token.{name, number, quoted, mark, Lexeme, bad, piece, lexeme, name_at, clings}
use Rattle.token.specs.Token.{Power, none, up, down, is_power}
use Rattle.token.specs.Token.{places_of, written_by, number_by, number_at, quoted_at, point_at, past_fraction}
use Rattle.pieces.specs.Pieces.{word_like}
use Rattle.pieces.specs.Means.{InText}
use Rattle.token.proofs.WholeLaws.{both, never}

run-passes : (p : ℕ → Bool) (t : List ℕ) → all p (take (run p t) t) ≡ true
unfolding run all
run-passes p [] = refl
run-passes p (b ∷ t) = go (p b) refl (run-passes p t)
  where
    go : (x : Bool) → p b ≡ x → all p (take (run p t) t) ≡ true → all p (take (elim x [ true ↦ suc (run p t) | false ↦ 0 ]) (b ∷ t)) ≡ true
    go true e ih = rw (e, ih)
    go false e ih = refl

-- a run that begins with a letter
word-run : (t : List ℕ) → is_letter (get_or t 0 0) ≡ true → word_like (take (run is_name t) t) ≡ true
unfolding run word_like all
word-run [] e = absurd (never e)
word-run (b ∷ t) e =
    let n : is_name b ≡ true = rw e in
    let r : run is_name (b ∷ t) ≡ suc (run is_name t) = rw (n, run) in
    rw r (rw (e, run-passes is_name t))

-- the digits behind the point
fraction_fine : (t : List ℕ) (w : ℕ) (x : Bool)
    → (all is_digit (part t (suc w) (places_of x w (past_fraction x t w))) ≡ true)
    × (length (part t (suc w) (places_of x w (past_fraction x t w))) ≡ places_of x w (past_fraction x t w))
unfolding places_of past_fraction all
fraction_fine t w false = (refl, refl)
fraction_fine t w true =
    let e : suc w + run is_digit (drop (suc w) t) - suc w ≡ run is_digit (drop (suc w) t) = omega arith in
    rw e
    (run-passes is_digit (drop (suc w) t), length-take-le (run is_digit (drop (suc w) t)) (drop (suc w) t) (run_le is_digit (drop (suc w) t)))

some_digit : (l : List ℕ) → 0 < length l → true ≡ pointed l
unfolding pointed
some_digit [] h = absurd (omega arith)
some_digit (d ∷ ds) h = refl

first-digit : (t : List ℕ) → is_digit (get_or t 0 0) ≡ true → 0 < run is_digit t
unfolding run
first-digit [] h = absurd (never h)
first-digit (b ∷ t) h = rw (h, run) (omega arith)

-- there are some exactly if there is a point
fraction-pointed : (t : List ℕ) (w : ℕ) (x : Bool) → (x ≡ true → is_digit (get_or t (suc w) 0) ≡ true)
    → x ≡ pointed (part t (suc w) (places_of x w (past_fraction x t w)))
unfolding places_of past_fraction pointed
fraction-pointed t w false h = refl
fraction-pointed t w true h =
    let d : is_digit (get_or (drop (suc w) t) 0 0) ≡ true = rw (get_or-drop, add-zero) (h refl) in
    let l = (fraction_fine t w true).1 in
    some_digit (part t (suc w) (suc w + run is_digit (drop (suc w) t) - suc w)) (omega (arith, l, first-digit (drop (suc w) t) d))

or_false : (x : Bool) → (x || false) ≡ x
or_false true = refl
or_false false = refl

-- what the text has for a name, a number without an exponent or a string
abbrev pub Fine : List ℕ → Lexeme → Type 0
Fine t (bad r) = Unit {0}
Fine t (piece (name w) n) = (word_like w ≡ true) × (take (length w) t ≡ w)
Fine t (piece (number w) n) = w.exponent ≡ false → InText w
Fine t (piece (quoted m) n) = all is_inside (take m (drop 1 t)) ≡ true
Fine t (piece (mark b) n) = Unit {0}

name_fine : (t : List ℕ) → is_letter (get_or t 0 0) ≡ true → Fine t (name_at t)
unfolding name_at
name_fine t h = go (eqb (get_or t (run is_name t) 0) 34)
  where
    go : (b : Bool) → Fine t (cond b (bad BadForm) (piece (name (take (run is_name t) t)) (run is_name t)))
    go true = tt
    go false = (word-run t h, rw (length-take-le (run is_name t) t (run_le is_name t)))

number_by_lem : (t : List ℕ) (w : ℕ) (x : Bool) (y : Power) (s : Bool) (n : ℕ) → w ≡ run is_digit t
    → 0 < w → (x ≡ true → is_digit (get_or t (suc w) 0) ≡ true)
    → Fine t (number_by t w x (past_fraction x t w) y s n)
unfolding number_by written_by
number_by_lem t w x y s n e z point =
    go (clings t (not ((x || is_power y) || s)) n) (ltb 40 w) refl (ltb 40 (places_of x w (past_fraction x t w))) refl
  where
    bare : (y : Power) → ltb 40 w ≡ false → ltb 40 (places_of x w (past_fraction x t w)) ≡ false → is_power y ≡ false
        → InText (written_by t w x (past_fraction x t w) y s)
    bare (up k) p q i = absurd (never (sym i))
    bare (down k) p q i = absurd (never (sym i))
    bare none p q i =
        let f = fraction_fine t w x in
        let l : length (take w t) ≡ w = length-take-le w t (omega (arith, run_le is_digit t)) in
        record {
          form = (take w t, part t (suc w) (places_of x w (past_fraction x t w)));
          numeral = record {
            whole = rw e (run-passes is_digit t);
            part = f.0;
            some = omega (arith, l);
            few = omega (arith, l, ltb-false 40 w p);
            short = omega (arith, f.1, ltb-false 40 (places_of x w (past_fraction x t w)) q);
          };
          digits = refl;
          places = sym f.1;
          point = or_false x ∙ fraction-pointed t w x point;
        }

    v : Written
    v = written_by t w x (past_fraction x t w) y s

    go : (a b : Bool) → ltb 40 w ≡ b → (c : Bool) → ltb 40 (places_of x w (past_fraction x t w)) ≡ c
        → Fine t (cond a (bad BadForm) (cond (b || c) (bad TooManyDigits) (piece (number v) n)))
    go true b p c q = tt
    go false true p c q = tt
    go false false p true q = tt
    go false false p false q = λ i. bare y p q i

number_fine : (t : List ℕ) → is_digit (get_or t 0 0) ≡ true → Fine t (number_at t)
unfolding number_at point_at
number_fine t h =
    number_by_lem t (run is_digit t) (point_at t (run is_digit t)) _ _ _ refl (first-digit t h)
    (λ e. (both (eqb (get_or t (run is_digit t) 0) 46) (is_digit (get_or t (suc (run is_digit t)) 0)) e).1)

quoted_fine : (t : List ℕ) → Fine t (quoted_at t)
unfolding quoted_at
quoted_fine t = go (eqb (get_or t (suc (run is_inside (drop 1 t))) 0) 34 && not (is_name (get_or t (run is_inside (drop 1 t) + 2) 0)))
  where
    go : (b : Bool) → Fine t (cond b (piece (quoted (run is_inside (drop 1 t))) (run is_inside (drop 1 t) + 2)) (bad BadForm))
    go true = run-passes is_inside (drop 1 t)
    go false = tt

pub lexeme_fine : (t : List ℕ) → Fine t (lexeme t)
unfolding lexeme
lexeme_fine t = go (is_letter (get_or t 0 0)) refl (is_digit (get_or t 0 0)) refl (eqb (get_or t 0 0) 34) (among ":;,=>.+-%([{)]}" (get_or t 0 0))
  where
    go : (a : Bool) → is_letter (get_or t 0 0) ≡ a → (b : Bool)
        → is_digit (get_or t 0 0) ≡ b → (c d : Bool)
        → Fine t (cond a (name_at t) (cond b (number_at t) (cond c (quoted_at t) (cond d (piece (mark (get_or t 0 0)) 1) (bad BadForm)))))
    go true e b i c d = name_fine t e
    go false e true i c d = number_fine t i
    go false e false i true d = quoted_fine t
    go false e false i false true = tt
    go false e false i false false = tt
