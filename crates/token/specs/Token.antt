-- 01, "Text rules": the token that a text begins with, and the tokens from a place on.
use Rattle.std.specs.Prelude.{ℕ, zero, suc, ◌+◌, ◌-◌, ◌*◌, ◌^◌, Bool, true, false, ◌&&◌, ◌||◌, not, cond, List, [], ◌∷◌, ltb, eqb, take, drop}
use Prim.Native.Char.{code}
use Rattle.text.specs.Limits.{whole_limit, places_limit, power_limit}
use Rattle.text.specs.Bytes.{at, run, part, among, decimal, is_digit, is_letter, is_name, is_blank, is_inside}
use Rattle.number.specs.Number.{Written}
use Rattle.error.specs.declared.Refusal.{Refusal}
use Rattle.error.specs.declared.Refusal.TheVariants.{BadForm, TooManyDigits}

-- A name has its bytes, a string the length of what stands between its quotes. A mark is its byte, each delimiter too; the text's end is
-- the mark 0.
pub data Kind : Type 0 where
  name : List ℕ → Kind
  number : Written → Kind
  quoted : ℕ → Kind
  mark : ℕ → Kind

-- a token: its place, and its kind
pub data Token : Type 0 where
  token : ℕ → Kind → Token

-- ---- the token that a text begins with: its kind and its size, or a refusal; no blank stands first

pub data Lexeme : Type 0 where
  bad : Refusal → Lexeme
  piece : Kind → ℕ → Lexeme

-- "A name is a letter or `_`, then letters, digits, `_`. Directly followed by `"`: refusal 2"
unfoldable pub name_at : List ℕ → Lexeme
name_at t =
    let n = run is_name t in
    cond (eqb (at t n) 34) (bad BadForm) (piece (name (take n t)) n)

-- whether a point and a digit stand at w
unfoldable pub point_at : List ℕ → ℕ → Bool
point_at t w = eqb (at t w) (code ".") && is_digit (at t (suc w))

-- where the digits end, w of them standing before the point
unfoldable pub past_fraction : Bool → List ℕ → ℕ → ℕ
past_fraction true t w = suc w + run is_digit (drop (suc w) t)
past_fraction false t w = w

-- "possibly a single `s`"
unfoldable pub suffix_at : List ℕ → ℕ → Bool
suffix_at t n = eqb (at t n) (code "s")

unfoldable pub past_suffix : Bool → ℕ → ℕ
past_suffix s n = cond s (suc n) n

-- "A following name character, or after whole digits a point followed by neither a digit nor a point"
unfoldable pub clings : List ℕ → Bool → ℕ → Bool
clings t plain n = is_name (at t n) || (plain && eqb (at t n) (code ".") && not (eqb (at t (suc n)) (code ".")))

-- how many digits stand after the point
unfoldable pub places_of : Bool → ℕ → ℕ → ℕ
places_of point w end = cond point (end - suc w) 0

-- ---- 02 (n): "after these an `e` or `E`, a sign or none, and one or two digits"

-- none; or its number, to multiply by that power of ten, or to divide
pub data Power : Type 0 where
  none : Power
  up : ℕ → Power
  down : ℕ → Power

-- where the digits of an exponent at n begin
unfoldable pub power_from : List ℕ → ℕ → ℕ
power_from t n = cond (among "+-" (at t (suc n))) (n + 2) (n + 1)

-- how many of the digits at m are an exponent's
unfoldable pub power_digits : List ℕ → ℕ → ℕ
power_digits t m = let n = run is_digit (drop m t) in cond (ltb power_limit n) power_limit n

-- how many digits an exponent at n has; where there is none, none. An `e` without digits, as a third digit, is then a following name
-- character: "2 an exponent without digits or with three".
unfoldable pub power_size : List ℕ → ℕ → ℕ
power_size t n = cond (among "eE" (at t n)) (power_digits t (power_from t n)) 0

-- the exponent at n, its number having k digits
unfoldable pub power_by : List ℕ → ℕ → ℕ → Power
power_by t n zero = none
power_by t n (suc k) =
    let e = decimal 0 (part t (power_from t n) (suc k)) in
    cond (eqb (at t (suc n)) (code "-")) (down e) (up e)

unfoldable pub power_at : List ℕ → ℕ → Power
power_at t n = power_by t n (power_size t n)

unfoldable pub past_power : List ℕ → ℕ → ℕ → ℕ
past_power t n zero = n
past_power t n (suc k) = power_from t n + suc k

abbrev pub is_power : Power → Bool
is_power none = false
is_power (up e) = true
is_power (down e) = true

-- "multiplied out": the digits d, and p of them behind the point
abbrev pub times : Power → ℕ → ℕ
times none d = d
times (up e) d = d * 10 ^ e
times (down e) d = d

abbrev pub over : Power → ℕ → ℕ
over none p = p
over (up e) p = p
over (down e) p = p + e

-- ---- numbers

-- the number of w digits, a point and more digits up to end or not, an exponent or not, an `s` or not
unfoldable pub written_by : List ℕ → ℕ → Bool → ℕ → Power → Bool → Written
written_by t w point end x s = record {
  digits = times x (decimal (decimal 0 (take w t)) (part t (suc w) (places_of point w end)));
  places = over x (places_of point w end);
  point = point || is_power x;
  exponent = is_power x;
  suffix = s;
}

-- "More than 10 digits before or 9 after the point, leading zeros counted: refusal 3. Both: 2."; 02 (n): "up to 40 digits before and 40
-- after the point"
-- w digits, a point and more digits up to end or not, an exponent or not, an `s` or not, up to n
unfoldable pub number_by : List ℕ → ℕ → Bool → ℕ → Power → Bool → ℕ → Lexeme
number_by t w point end x s n =
    cond (clings t (not ((point || is_power x) || s)) n) (bad BadForm)
    (cond (ltb whole_limit w || ltb places_limit (places_of point w end)) (bad TooManyDigits) (piece (number (written_by t w point end x s)) n))

-- "A number is 1 or more digits, then possibly a point and 1 or more digits, then possibly a single `s`."; 02 (n): "after these" an
-- exponent, "the suffix `s` last"
unfoldable pub number_at : List ℕ → Lexeme
number_at t =
    let w = run is_digit t in
    let point = point_at t w in
    let end = past_fraction point t w in
    let stop = past_power t end (power_size t end) in
    let s = suffix_at t stop in
    number_by t w point end (power_at t end) s (past_suffix s stop)

-- how many digits it has behind its point
unfoldable pub places_at : List ℕ → ℕ
places_at t =
    let w = run is_digit t in
    let point = point_at t w in
    places_of point w (past_fraction point t w)

-- the number that a text begins with, whatever follows it
unfoldable pub written_at : List ℕ → Written
written_at t =
    let w = run is_digit t in
    let point = point_at t w in
    let end = past_fraction point t w in
    written_by t w point end (power_at t end) (suffix_at t (past_power t end (power_size t end)))

-- "A string holds printable ASCII without `"` and `\`. Any other byte, no closing `"` or a name character right after it: 2, at its opening
-- `"`."
unfoldable pub quoted_at : List ℕ → Lexeme
quoted_at t =
    let n = run is_inside (drop 1 t) in
    cond (eqb (at t (suc n)) (code "\"") && not (is_name (at t (n + 2)))) (piece (quoted n) (n + 2)) (bad BadForm)

unfoldable pub lexeme : List ℕ → Lexeme
lexeme t =
    let b = at t 0 in
    cond (is_letter b) (name_at t)
    (cond (is_digit b) (number_at t)
    (cond (eqb b (code "\"")) (quoted_at t)
    (cond (among ":;,=>.+-%([{)]}" b) (piece (mark b) 1) (bad BadForm))))

-- ---- the tokens from a place on; where none can be cut the text ends for the reader

abbrev pub cut_by : Bool → Lexeme → ℕ → List Token → List Token
cut_by true x p ts = ts
cut_by false (bad r) p ts = token p (mark 0) ∷ []
cut_by false (piece k n) p ts = token p k ∷ ts

-- how many bytes more the token takes
abbrev pub further : Bool → Lexeme → ℕ
further true x = 0
further false (bad r) = 0
further false (piece k n) = n - 1

-- the first k bytes belong to a token before; p is the place
unfoldable pub cut : ℕ → ℕ → List ℕ → List Token
cut k p [] = token p (mark 0) ∷ []
cut (suc k) p (b ∷ t) = cut k (suc p) t
cut zero p (b ∷ t) = cut_by (is_blank b) (lexeme (b ∷ t)) p (cut (further (is_blank b) (lexeme (b ∷ t))) (suc p) t)

unfoldable pub tokens_from : List ℕ → ℕ → List Token
tokens_from s p = cut 0 p (drop p s)

-- ---- the first token, and those behind it; the text's end stays

-- 01: "the start of the first token not yet taken", "the text length at the end of the text"
abbrev pub place : List Token → ℕ
place [] = 0
place (token p k ∷ ts) = p

abbrev pub kind : List Token → Kind
kind [] = mark 0
kind (token p k ∷ ts) = k

abbrev pub is_mark : Kind → ℕ → Bool
is_mark (name w) b = false
is_mark (number w) b = false
is_mark (quoted n) b = false
is_mark (mark c) b = eqb c b

abbrev pub rest : List Token → List Token
rest [] = []
rest (token p k ∷ ts) = cond (is_mark k 0) (token p k ∷ ts) ts
