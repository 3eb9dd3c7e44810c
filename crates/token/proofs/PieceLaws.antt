-- The token that a text begins with, by its first byte and its size.
use Prim.Native.Nat.{ℕ, zero, suc, ◌+◌, ◌-◌, ◌≤◌, ◌<◌}
use mathlib.Core.List.{List}
use mathlib.Core.Bool.{Bool, true, false, ◌&&◌, ◌||◌, not, cond}
use mathlib.Core.Path.{◌≡◌, refl, sym, ap, ◌∙◌}
use native.Mathlib.Omega.{arith}
use lib.Dec.{ltb, eqb}
use lib.ListN.{length, get_or, drop, length-drop}
use borrow.Author.Tests.{ltb-true, ltb-false, lt-leb, ne_eqb, eqb-false, not-true}
use Rattle.text.specs.Bytes.{bytes, run, one_of, among, is_name, is_digit, is_letter, is_inside, is_blank}
use Rattle.text.proofs.ByteLaws.{within_is}
use Rattle.error.specs.declared.Refusal.{Refusal}
use Rattle.error.specs.declared.Refusal.TheVariants.{BadForm, TooManyDigits}
use Rattle.token.specs.Token.{Kind, quoted, mark, Lexeme, bad, piece, name_at, quoted_at, point_at}
use Rattle.token.specs.Token.{past_fraction, power_size, past_power, suffix_at, past_suffix}
use Rattle.token.specs.Token.{clings, places_of, number_at, lexeme}
use Rattle.token.specs.Means.{lexeme_size, kind_from, head_tok, Pieces, Lexes}
use Rattle.token.specs.declared.Tok.{Tok}
use Rattle.token.specs.declared.Tok.TheVariants.{Name, Num, Quoted, Mark}
use Rattle.token.proofs.LexLaws.{Parts, or_false, name_is, quoted_is, number-clings}
use Rattle.token.proofs.LexLaws.{number-long, number-written, number_digits, lex_is}
use Rattle.token.proofs.WholeLaws.{never, neither, every, every_in, whole_of}
use Rattle.token.proofs.TokenLaws.{lexes_end, lexes_bad, lexes_piece}

-- ---- the size of a number, and why there is none

abbrev is_bad : Lexeme → Bool
is_bad (bad r) = true
is_bad (piece k n) = false

abbrev refusal_in : Lexeme → Refusal
refusal_in (bad r) = r
refusal_in (piece k n) = BadForm

why_is : {x : Lexeme} {r q : Refusal} → x ≡ bad r → x ≡ bad q → r ≡ q
why_is e f = ap refusal_in (sym e ∙ f)

no_piece : {x : Lexeme} {r : Refusal} (k : Kind) (n : ℕ) → x ≡ piece k n → x ≡ bad r → ⊥
no_piece k n e f = never (ap is_bad (sym e ∙ f))

module _ {t : List ℕ} {w : ℕ} {x : Bool} {e k : ℕ} {z : Bool} {n : ℕ} (p : Parts t w x e k z n) where
  pub number-none : (c : Bool) → c ≡ clings t (not ((x || ltb 0 k) || z)) n → (q : ℕ) → q ≡ places_of x w e
      → ((ltb 40 w || ltb 40 q) || c) ≡ true → 0 ≡ lexeme_size (number_at t)
  number-none true h q g f = rw (number-clings p (sym h))
  number-none false h q g f = rw (number-long p (sym h) (rw (sym g) (sym (or_false (ltb 40 w || ltb 40 q)) ∙ f)))

  pub number_size : (c : Bool) → c ≡ clings t (not ((x || ltb 0 k) || z)) n → (q : ℕ) → q ≡ places_of x w e
      → ((ltb 40 w || ltb 40 q) || c) ≡ false → n ≡ lexeme_size (number_at t)
  number_size c h q g f =
      let a = neither (ltb 40 w || ltb 40 q) c f in
      let b = neither (ltb 40 w) (ltb 40 q) a.0 in
      rw (number-written p q (sym h ∙ a.1) (ltb-false 40 w b.0) g (ltb-false 40 q b.1))

  pub number_bad : clings t (not ((x || ltb 0 k) || z)) n ≡ true → (r : Refusal) → number_at t ≡ bad r → BadForm ≡ r
  number_bad h r f = why_is (number-clings p h) f

  pub number-many : clings t (not ((x || ltb 0 k) || z)) n ≡ false → (r : Refusal) → number_at t ≡ bad r → TooManyDigits ≡ r
  number-many h r f = go (ltb 40 w || ltb 40 (places_of x w e)) refl
    where
      go : (b : Bool) → (ltb 40 w || ltb 40 (places_of x w e)) ≡ b → TooManyDigits ≡ r
      go true q = why_is (number-long p h q) f
      go false q =
          let few = neither (ltb 40 w) (ltb 40 (places_of x w e)) q in
          let l = number-written p _ h (ltb-false 40 w few.0) refl (ltb-false 40 (places_of x w e) few.1) in
          absurd (no_piece _ n l f)

-- neither a point nor a name's byte behind the digits: they are all of it
module _ (t : List ℕ) (w b : ℕ) (d : w ≡ run is_digit t) (a : b ≡ get_or t w 0) (h : eqb b 46 ≡ false) (g : is_name b ≡ false) where
  no_name : (c : ℕ) → is_name c ≡ true → eqb b c ≡ false
  no_name c e = ne_eqb b c (λ q. never (sym g ∙ (rw q) ∙ e))

  plain_parts : Parts t w false w 0 false w
  unfolding point_at past_fraction power_size one_of past_power suffix_at past_suffix
  plain_parts = record {
    whole = d;
    point = rw (sym a, h);
    end = refl;
    power = rw (sym a, no_name 101 refl, no_name 69 refl);
    suffix = rw (sym a, no_name 115 refl);
    next = refl;
  }

  pub number_short : w ≤ 40 → w ≡ lexeme_size (number_at t)
  unfolding clings places_of
  number_short l = rw (number-written plain_parts 0 (rw (sym a, g, h)) l refl (omega arith))

digit_no_letter : (b : ℕ) → is_digit b ≡ true → is_letter b ≡ false
digit_no_letter b h =
    let r = within_is 48 57 b h in
    rw (lt-leb 97 b (omega arith), lt-leb 65 b (omega arith), ne_eqb b 95 (λ q. omega arith))

pub why_digit : (t : List ℕ) → is_digit (get_or t 0 0) ≡ true → (r : Refusal) → lexeme t ≡ bad r → number_at t ≡ bad r
why_digit t h r e = sym (lex_is t false true _ _ (digit_no_letter (get_or t 0 0) h) h refl refl) ∙ e

name_why : (t : List ℕ) (r : Refusal) → name_at t ≡ bad r → BadForm ≡ r
name_why t r f = go (eqb (get_or t (run is_name t) 0) 34) refl
  where
    go : (x : Bool) → eqb (get_or t (run is_name t) 0) 34 ≡ x → BadForm ≡ r
    go true e = why_is (name_is t (run is_name t) true refl e) f
    go false e = absurd (no_piece _ _ (name_is t (run is_name t) false refl e) f)

quoted_why : (t : List ℕ) (r : Refusal) → quoted_at t ≡ bad r → BadForm ≡ r
quoted_why t r f =
    let n = run is_inside (drop 1 t) in
    go (eqb (get_or t (suc n) 0) 34 && not (is_name (get_or t (n + 2) 0))) (quoted_is t n _ _ refl refl refl)
  where
    go : (x : Bool)
        → quoted_at t ≡ cond x (piece (quoted (run is_inside (drop 1 t))) (run is_inside (drop 1 t) + 2)) (bad BadForm)
        → BadForm ≡ r
    go true e = absurd (no_piece _ _ e f)
    go false e = why_is e f

-- what is no number is refused for its form
pub why_other : (t : List ℕ) → is_digit (get_or t 0 0) ≡ false → (r : Refusal) → lexeme t ≡ bad r → BadForm ≡ r
why_other t h r f =
    go (is_letter (get_or t 0 0)) refl (eqb (get_or t 0 0) 34) refl (among ":;,=>.+-%([{)]}" (get_or t 0 0)) refl
  where
    go : (a : Bool) → is_letter (get_or t 0 0) ≡ a → (c : Bool) → eqb (get_or t 0 0) 34 ≡ c
        → (d : Bool) → among ":;,=>.+-%([{)]}" (get_or t 0 0) ≡ d → BadForm ≡ r
    go true e c g d k = name_why t r (sym (lex_is t true false c d e h g k) ∙ f)
    go false e true g d k = quoted_why t r (sym (lex_is t false false true d e h g k) ∙ f)
    go false e false g true k = absurd (no_piece _ _ (lex_is t false false false true e h g k) f)
    go false e false g false k = why_is (lex_is t false false false false e h g k) f

-- ---- the token

abbrev PieceOf : List ℕ → Lexeme → Tok → Type 0
PieceOf t (bad r) k = Unit {0}
PieceOf t (piece x n) k = Pieces t (piece x n) k n

name_piece : (t : List ℕ) → PieceOf t (name_at t) Name
name_piece t = go (eqb (get_or t (run is_name t) 0) 34) refl
  where
    go : (x : Bool) → eqb (get_or t (run is_name t) 0) 34 ≡ x → PieceOf t (name_at t) Name
    go true e = rw (name_is t (run is_name t) true refl e) tt
    go false e = rw (name_is t (run is_name t) false refl e) (record { is = refl; stands = tt })

quoted_piece : (t : List ℕ) → PieceOf t (quoted_at t) Quoted
quoted_piece t =
    go (run is_inside (drop 1 t)) refl (eqb (get_or t (suc (run is_inside (drop 1 t))) 0) 34) refl
    (is_name (get_or t (run is_inside (drop 1 t) + 2) 0)) refl
  where
    go : (n : ℕ) → n ≡ run is_inside (drop 1 t) → (x : Bool) → eqb (get_or t (suc n) 0) 34 ≡ x
        → (y : Bool) → is_name (get_or t (n + 2) 0) ≡ y → PieceOf t (quoted_at t) Quoted
    go n k false e y f = rw (quoted_is t n false y k e f) tt
    go n k true e true f = rw (quoted_is t n true true k e f) tt
    go n k true e false f =
        let z : n + 2 - 2 ≡ n = omega arith in
        rw (quoted_is t n true false k e f) (record { is = rw z; stands = omega arith })

number_piece : (t : List ℕ) → PieceOf t (number_at t) Num
number_piece t = by (clings t (not ((x || ltb 0 m) || suffix_at t stop)) n) refl (ltb 40 w || ltb 40 (places_of x w e)) refl
  where
    w : ℕ
    w = run is_digit t

    x : Bool
    x = point_at t w

    e : ℕ
    e = past_fraction x t w

    m : ℕ
    m = power_size t e

    stop : ℕ
    stop = past_power t e m

    n : ℕ
    n = past_suffix (suffix_at t stop) stop

    parts : Parts t w x e m (suffix_at t stop) n
    parts = record { whole = refl; point = refl; end = refl; power = refl; suffix = refl; next = refl }

    by : (a : Bool) → clings t (not ((x || ltb 0 m) || suffix_at t stop)) n ≡ a
        → (b : Bool) → (ltb 40 w || ltb 40 (places_of x w e)) ≡ b
        → PieceOf t (number_at t) Num
    by true p b q = rw (number-clings parts p) tt
    by false p true q = rw (number-long parts p q) tt
    by false p false q =
        let few = neither (ltb 40 w) (ltb 40 (places_of x w e)) q in
        let a = ltb-false 40 w few.0 in
        let b = ltb-false 40 (places_of x w e) few.1 in
        rw (number-written parts _ p a refl b) (record { is = refl; stands = number_digits parts _ a refl b })

-- the first byte tells the kind
pub kind_is : (b : ℕ) (x y z : Bool) → is_letter b ≡ x → is_digit b ≡ y → eqb b 34 ≡ z
    → kind_from b ≡ cond x Name (cond y Num (cond z Quoted (Mark b)))
unfolding kind_from
kind_is b x y z h g k = rw (h, g, k)

-- what a text begins with, by its first byte
module _ (t : List ℕ) where
  pub first_name : is_letter (get_or t 0 0) ≡ true → (kind_from (get_or t 0 0) ≡ Name) × (lexeme t ≡ name_at t)
  first_name h = (kind_is (get_or t 0 0) true _ _ h refl refl, lex_is t true _ _ _ h refl refl refl)

  module _ (h : is_letter (get_or t 0 0) ≡ false) where
    pub first-number : is_digit (get_or t 0 0) ≡ true → (kind_from (get_or t 0 0) ≡ Num) × (lexeme t ≡ number_at t)
    first-number g = (kind_is (get_or t 0 0) false true _ h g refl, lex_is t false true _ _ h g refl refl)

    module _ (g : is_digit (get_or t 0 0) ≡ false) where
      pub first-quoted : eqb (get_or t 0 0) 34 ≡ true → (kind_from (get_or t 0 0) ≡ Quoted) × (lexeme t ≡ quoted_at t)
      first-quoted e = (kind_is (get_or t 0 0) false false true h g e, lex_is t false false true _ h g e refl)

      module _ (e : eqb (get_or t 0 0) 34 ≡ false) where
        pub first-mark : among ":;,=>.+-%([{)]}" (get_or t 0 0) ≡ true
            → (kind_from (get_or t 0 0) ≡ Mark (get_or t 0 0)) × (lexeme t ≡ piece (mark (get_or t 0 0)) 1)
        first-mark f = (kind_is (get_or t 0 0) false false false h g e, lex_is t false false false true h g e f)

        pub first-none : among ":;,=>.+-%([{)]}" (get_or t 0 0) ≡ false → lexeme t ≡ bad BadForm
        first-none f = lex_is t false false false false h g e f

-- a mark's byte is of no other class
module _ (b : ℕ) (h : among ":;,=>.+-%([{)]}" b ≡ true) where
  no_other : (p : ℕ → Bool) → every (λ (c : ℕ). not (p c)) (bytes ":;,=>.+-%([{)]}") ≡ true → p b ≡ false
  no_other p e = not-true (p b) (every_in (λ (c : ℕ). not (p c)) (bytes ":;,=>.+-%([{)]}") b e h)

  pub mark_no_letter : is_letter b ≡ false
  unfolding every one_of
  mark_no_letter = no_other is_letter refl

  pub mark_no_digit : is_digit b ≡ false
  unfolding every one_of
  mark_no_digit = no_other is_digit refl

  pub mark_no_quote : eqb b 34 ≡ false
  unfolding every one_of
  mark_no_quote = no_other (λ (c : ℕ). eqb c 34) refl

  pub mark_no_blank : is_blank b ≡ false
  unfolding every one_of
  mark_no_blank = no_other is_blank refl

  pub mark_small : (0 < b) × (b < 256)
  unfolding every one_of
  mark_small =
      let f = eqb-false b 0 (no_other (λ (c : ℕ). eqb c 0) refl) in
      let g = ltb-false 255 b (no_other (λ (c : ℕ). ltb 255 c) refl) in
      (positive b f, omega arith)
    where
      positive : (c : ℕ) → (c ≡ 0 → ⊥) → 0 < c
      positive zero f = absurd (f refl)
      positive (suc c) f = omega arith

lexeme_piece : (t : List ℕ) → PieceOf t (lexeme t) (kind_from (get_or t 0 0))
lexeme_piece t =
    go (is_letter (get_or t 0 0)) refl (is_digit (get_or t 0 0)) refl (eqb (get_or t 0 0) 34) refl (among ":;,=>.+-%([{)]}" (get_or t 0 0)) refl
  where
    go : (a : Bool) → is_letter (get_or t 0 0) ≡ a → (b : Bool)
        → is_digit (get_or t 0 0) ≡ b → (c : Bool) → eqb (get_or t 0 0) 34 ≡ c
        → (d : Bool) → among ":;,=>.+-%([{)]}" (get_or t 0 0) ≡ d
        → PieceOf t (lexeme t) (kind_from (get_or t 0 0))
    go true e b f c g d h = rw (lex_is t true b c d e f g h, kind_is _ true b c e f g) (name_piece t)
    go false e true f c g d h = rw (lex_is t false true c d e f g h, kind_is _ false true c e f g) (number_piece t)
    go false e false f true g d h = rw (lex_is t false false true d e f g h, kind_is _ false false true e f g) (quoted_piece t)
    go false e false f false g true h =
        rw (lex_is t false false false true e f g h, kind_is _ false false false e f g) (record { is = refl; stands = tt })
    go false e false f false g false h = rw (lex_is t false false false false e f g h) tt

-- a token of n bytes
pub piece_of : (t : List ℕ) (n : ℕ) → n ≡ lexeme_size (lexeme t) → 0 < n → Pieces t (lexeme t) (kind_from (get_or t 0 0)) n
piece_of t n h z = go (lexeme t) refl (lexeme_piece t)
  where
    go : (x : Lexeme) → lexeme t ≡ x → PieceOf t x (kind_from (get_or t 0 0)) → Pieces t (lexeme t) (kind_from (get_or t 0 0)) n
    go (bad r) e p = absurd (let y : n ≡ 0 = rw e at h in omega arith)
    go (piece k m) e p = let y : n ≡ m = rw e at h in rw (e, y) p

-- its bytes stand in the text
pub size_high : (t : List ℕ) → lexeme_size (lexeme t) ≤ length t
size_high t = go (lexeme t) refl
  where
    go : (x : Lexeme) → lexeme t ≡ x → lexeme_size x ≤ length t
    go (bad r) e = omega arith
    go (piece k n) e = (whole_of t k n e).high

-- a mark has one byte
pub mark_piece : (t : List ℕ) (n b : ℕ) → n ≡ lexeme_size (lexeme t) → 0 < n → kind_from (get_or t 0 0) ≡ Mark b
    → (among ":;,=>.+-%([{)]}" b ≡ true) × (n ≡ 1)
mark_piece t n b h z e =
    let p = whole_of t (mark b) n (rw e at (piece_of t n h z)).is in (p.spelled.2, p.spelled.1)

-- no token, for a reason
pub none_of : (t : List ℕ) (r : Refusal) → 0 ≡ lexeme_size (lexeme t) → ((x : Refusal) → lexeme t ≡ bad x → r ≡ x) → lexeme t ≡ bad r
none_of t r h f = go (lexeme t) refl
  where
    go : (x : Lexeme) → lexeme t ≡ x → lexeme t ≡ bad r
    go (bad x) e = e ∙ (rw (f x e))
    go (piece k m) e = absurd (let y : 0 ≡ m = rw e at h in omega (arith, (whole_of t k m e).some))

-- the first of the tokens from p on stands behind the blanks
module _ (s : List ℕ) (p start : ℕ) (r : start ≡ p + run is_blank (drop p s)) (h : p ≤ length s) where
  pub lexes_head : (n : ℕ) → n ≡ lexeme_size (lexeme (drop start s))
      → Lexes s p start (start + n) (head_tok (kind_from (get_or (drop start s) 0 0)) n)
  lexes_head n q = go (lexeme (drop start s)) refl (ltb start (length s)) refl
    where
      k : Tok
      k = kind_from (get_or (drop start s) 0 0)

      none : n ≡ 0 → Lexes s p start start (Mark 0) → Lexes s p start (start + n) (head_tok k n)
      none z l = let y : start + 0 ≡ start = omega arith in rw (z, y) l

      some : (m : ℕ) → n ≡ m → 0 < m → Lexes s p start (start + n) k → Lexes s p start (start + n) (head_tok k n)
      some zero e g l = absurd (omega arith)
      some (suc m) e g l = rw e (rw e at l)

      go : (x : Lexeme) → lexeme (drop start s) ≡ x → (b : Bool) → ltb start (length s) ≡ b → Lexes s p start (start + n) (head_tok k n)
      go (bad x) e true f = none (rw e at q) (lexes_bad s p start r h (ltb-true start (length s) f) x e)
      go (bad x) e false f = none (rw e at q) (lexes_end s p start r h (ltb-false start (length s) f))
      go (piece y m) e b f =
          let u : n ≡ m = rw e at q in
          let w = whole_of (drop start s) y m e in
          let l : start < length s = omega (arith, w.some, w.high, length-drop start s) in
          some n refl (omega (arith, w.some)) (lexes_piece s p start r l k n (piece_of (drop start s) n q (omega (arith, w.some))))
