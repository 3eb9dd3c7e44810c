-- Scripts whose tokens agree by their bytes are `Renamed`: the law asks for no more than 02 (m)'s sentence.
use Prim.Native.Nat.{ℕ, zero, suc, ◌+◌, ◌≤◌}
use mathlib.Core.Bool.{Bool, true, false, cond}
use mathlib.Core.List.{List, [], ◌∷◌}
use mathlib.Core.Option.{some}
use mathlib.Core.Path.{◌≡◌, refl, sym, ap, ◌∙◌}
use native.Mathlib.Numerals.{add-one}
use native.Mathlib.Omega.{arith}
use lib.ListN.{length, take, drop}
use lib.Seq.{drop-drop, length-take-le}
use Rattle.text.specs.Bytes.{part, one_of, is_blank}
use Rattle.token.specs.Token.{Kind, name, number, quoted, mark, Token, token, Lexeme, bad, piece, lexeme, cut, cut_by, further, tokens_from}
use Rattle.token.specs.Names.{is_keyword, unless, name_of, quote_of}
use Rattle.token.proofs.WholeLaws.{whole_of}
use Rattle.reading.specs.Reading.{parse}
use Rattle.law_renamed.specs.Words.{Word, a_name, a_string, inside_of, blanked, shown, Agree}
use Rattle.law_renamed.specs.Renaming.{free_by, Renamed}
use Rattle.law_renamed.specs.Bytewise.{size_of, Matches, equal, names, strings, AllMatch, Bytewise}
use Rattle.law_renamed.proofs.StreamLaws.{same_word}
use Rattle.law_renamed.proofs.KindLaws.{part-take, kind_cut, same_bytes}

-- ---- each token of a text is the one that is cut where it stands

unfoldable AsCut : List ℕ → List Token → Type 0
AsCut s [] = Unit {0}
AsCut s (token p k ∷ ts) = (k ≡ kind_cut (lexeme (drop p s))) × AsCut s ts

none_left : mark 0 ≡ kind_cut (lexeme [])
unfolding lexeme one_of
none_left = refl

behind-one : (s : List ℕ) (p b : ℕ) (t : List ℕ) → b ∷ t ≡ drop p s → t ≡ drop (suc p) s
behind-one s p b t e = ap (drop 1) e ∙ drop-drop 1 p s ∙ ap (λ (i : ℕ). drop i s) (add-one p)

cut_by_is : (s : List ℕ) (b : Bool) (x : Lexeme) (p : ℕ) (ts : List Token) → x ≡ lexeme (drop p s) → AsCut s ts → AsCut s (cut_by b x p ts)
unfolding AsCut
cut_by_is s true x p ts e h = h
cut_by_is s false (bad r) p ts e h = (ap kind_cut e, tt)
cut_by_is s false (piece k n) p ts e h = (ap kind_cut e, h)

cut_is : (s : List ℕ) (k p : ℕ) (t : List ℕ) → t ≡ drop p s → AsCut s (cut k p t)
unfolding AsCut cut
cut_is s k p [] e = (none_left ∙ ap (λ (t : List ℕ). kind_cut (lexeme t)) e, tt)
cut_is s (suc k) p (b ∷ t) e = cut_is s k (suc p) t (behind-one s p b t e)
cut_is s zero p (b ∷ t) e =
    cut_by_is s (is_blank b) (lexeme (b ∷ t)) p (cut (further (is_blank b) (lexeme (b ∷ t))) (suc p) t) (ap lexeme e)
    (cut_is s (further (is_blank b) (lexeme (b ∷ t))) (suc p) t (behind-one s p b t e))

all-cut : (s : List ℕ) → AsCut s (tokens_from s 0)
unfolding tokens_from
all-cut s = cut_is s 0 0 (drop 0 s) refl

-- ---- two tokens of equal bytes

-- the bytes of a string, among those of its token
inside_is : (t : List ℕ) (p j n : ℕ) → 1 + j ≤ n → part t (suc p) j ≡ part (part t p n) 1 j
inside_is t p j n h =
    sym (part-take 1 j n (drop p t) h ∙ ap (take j) (drop-drop 1 p t ∙ ap (λ (i : ℕ). drop i t) (add-one p)))

same-inside : (t u : List ℕ) (p q n m : ℕ) (k : Kind) → lexeme (drop p t) ≡ piece k n → n ≡ m → part t p n ≡ part u q m
    → inside_of t p k ≡ inside_of u q k
same-inside t u p q n m (name w) e g h = refl
same-inside t u p q n m (number w) e g h = refl
same-inside t u p q n m (mark b) e g h = refl
same-inside t u p q n m (quoted j) e g h =
    let f : n ≡ j + 2 = (whole_of (drop p t) (quoted j) n e).fits in
    inside_is t p j n (omega arith) ∙ ap (λ (l : List ℕ). part l 1 j) h ∙ sym (inside_is u q j m (omega arith))

-- the text's end has no bytes
none_cut : {A : Type 0} (u : List ℕ) (q m : ℕ) (l : Kind) → lexeme (drop q u) ≡ piece l m → [] ≡ part u q m → A
none_cut u q m l e h =
    let w = whole_of (drop q u) l m e in
    absurd (omega (arith, w.some, length-take-le m (drop q u) w.high, ap length h))

same_token : (t u : List ℕ) (p q : ℕ) (x y : Lexeme) → lexeme (drop p t) ≡ x → lexeme (drop q u) ≡ y
    → part t p (size_of x) ≡ part u q (size_of y)
    → (kind_cut x ≡ kind_cut y) × (inside_of t p (kind_cut x) ≡ inside_of u q (kind_cut y))
same_token t u p q (bad r) (bad s) e g h = (refl, refl)
same_token t u p q (bad r) (piece l m) e g h = none_cut u q m l g h
same_token t u p q (piece k n) (bad s) e g h = none_cut t p n k e (sym h)
same_token t u p q (piece k n) (piece l m) e g h =
    let z = same_bytes (drop p t) (drop q u) k l n m e g h in
    (z.0, same-inside t u p q n m k e z.1 h ∙ ap (inside_of u q) z.0)

-- ---- as they are compared

a_name_lem : (k : Kind) (x : Word) (w : List ℕ) → name_of k ≡ some w → blanked true k x ≡ a_name
a_name_lem (name v) x w e = go (is_keyword v) e
  where
    go : (b : Bool) → unless b v ≡ some w → cond b x a_name ≡ a_name
    go true e = absurd (let z : ◌≡◌ {A = ℕ} 0 1 = cc in omega arith)
    go false e = refl
a_name_lem (number v) x w e = absurd (let z : ◌≡◌ {A = ℕ} 0 1 = cc in omega arith)
a_name_lem (quoted n) x w e = absurd (let z : ◌≡◌ {A = ℕ} 0 1 = cc in omega arith)
a_name_lem (mark b) x w e = absurd (let z : ◌≡◌ {A = ℕ} 0 1 = cc in omega arith)

a_string_lem : (k : Kind) (x : Word) (n : ℕ) → quote_of k ≡ some n → blanked true k x ≡ a_string
a_string_lem (name v) x n e = absurd (let z : ◌≡◌ {A = ℕ} 0 1 = cc in omega arith)
a_string_lem (number v) x n e = absurd (let z : ◌≡◌ {A = ℕ} 0 1 = cc in omega arith)
a_string_lem (quoted m) x n e = refl
a_string_lem (mark b) x n e = absurd (let z : ◌≡◌ {A = ℕ} 0 1 = cc in omega arith)

module _ (t u : List ℕ) (p q : ℕ) (k l : Kind) (ts us : List Token) where
  match : (free : Bool) → k ≡ kind_cut (lexeme (drop p t)) → l ≡ kind_cut (lexeme (drop q u))
      → Matches t u free (token p k ∷ ts) (token q l ∷ us)
      → shown free t (token p k) ts ≡ shown free u (token q l) us
  match free e g (equal h j) =
      let z = same_token t u p q (lexeme (drop p t)) (lexeme (drop q u)) refl refl h in
      same_word free (e ∙ z.0 ∙ sym g) (ap (inside_of t p) e ∙ z.1 ∙ sym (ap (inside_of u q) g)) j
  match free e g (names w v f h i) = rw f (a_name_lem k _ w h ∙ sym (a_name_lem l _ v i))
  match free e g (strings n m f h i) = rw f (a_string_lem k _ n h ∙ sym (a_string_lem l _ m i))

all_match : (t u free : List ℕ) (ts us : List Token) → AsCut t ts → AsCut u us → AllMatch t u free ts us → Agree t u free ts us
unfolding AsCut AllMatch Agree
all_match t u free [] [] e g h = tt
all_match t u free [] (b ∷ us) e g h = absurd h
all_match t u free (a ∷ ts) [] e g h = absurd h
all_match t u free (token p k ∷ ts) (token q l ∷ us) e g h =
    (match t u p q k l ts us (one_of free p) e.0 g.0 h.0, all_match t u free ts us e.1 g.1 h.1)

pub bytewise : (t u : List ℕ) → Bytewise t u → Renamed t u
unfolding Bytewise Renamed
bytewise t u h = all_match t u (free_by (parse t)) (tokens_from t 0) (tokens_from u 0) (all-cut t) (all-cut u) h
