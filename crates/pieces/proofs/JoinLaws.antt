-- Pieces one blank apart split into themselves.
use Prim.Native.Nat.{ℕ, suc, ◌+◌, ◌-◌, ◌≤◌, ◌<◌}
use mathlib.Core.Bool.{true, false}
use mathlib.Core.List.{List, [], ◌∷◌, ◌++◌, append_assoc}
use mathlib.Core.Path.{◌≡◌, refl, ap, ◌∙◌}
use native.Mathlib.Omega.{arith}
use lib.ListN.{length, get_or, drop, length-append, length-drop}
use lib.Seq.{drop-append_seam}
use Rattle.digits.specs.Numeral.{all, fraction, written}
use Rattle.text.specs.Bytes.{one_of, is_blank, is_letter, is_digit, is_name}
use Rattle.token.specs.Token.{Kind, name, number, quoted, mark, Token, token, piece, lexeme}
use Rattle.token.specs.Split.{Nest, unfit, awaits, nest, step, tokens, before, split_from, split}
use Rattle.token.proofs.WholeLaws.{whole_of}
use Rattle.token.proofs.TokenLaws.{skips}
use Rattle.pieces.specs.Pieces.{Piece, a_word, a_name, a_plain, a_numeral, a_string, a_mark, a_pair, Form}
use Rattle.pieces.specs.Pieces.{word_like, spelt, spaced, joined, ahead, laid}
use Rattle.pieces.specs.Means.{Fits, AllFit, nest_of, fitly, Nests}
use Rattle.token.proofs.WholeLaws.{both, never}
use Rattle.pieces.proofs.PieceLaws.{Clear, clear, word-lexed, string-lexed, mark-blank, mark-lexed}
use Rattle.pieces.proofs.PieceLaws.{plain_known, plain_nests, number-lexed, digit-blank, letter_blank}

-- ---- one token

split-skip : (cs : List ℕ) (k p b : ℕ) (bs : List ℕ) → split_from (suc k) p cs (b ∷ bs) ≡ split_from k (suc p) cs bs
unfolding split_from
split-skip cs k p b bs = refl

split-blank : (cs : List ℕ) (p : ℕ) (bs : List ℕ) → split_from 0 p cs (32 ∷ bs) ≡ split_from 0 (suc p) cs bs
unfolding split_from step one_of
split-blank cs p bs = refl

takes_one : (p n : ℕ) (cs ds l : List ℕ) (k : Kind) → is_blank (get_or l 0 0) ≡ false
    → lexeme l ≡ piece k n → nest k cs ≡ awaits ds
    → split_from 0 p cs l ≡ before (token p k) (split_from 0 (p + n) ds (drop n l))
unfolding split_from step
takes_one p n cs ds [] k e q z = let w = whole_of [] k n q in absurd (omega (arith, w.some, w.high))
takes_one p n cs ds (b ∷ l) k e q z =
    let w = whole_of (b ∷ l) k n q in
    let s : suc (n - 1) ≡ n = omega (arith, w.some) in
    let a : suc p + (n - 1) ≡ p + n = omega (arith, w.some) in
    let m : n - 1 ≤ length l = omega (arith, w.some, w.high) in
    let i : split_from 0 (p + n) ds (drop (suc (n - 1)) (b ∷ l)) ≡ split_from 0 (p + n) ds (drop n (b ∷ l)) = rw s in
    let f : split_from (n - 1) (suc p) ds l ≡ split_from 0 (p + n) ds (drop (n - 1) l) = skips (λ i o t. split_from i o ds t) (split-skip ds)
    (n - 1) (suc p) l m
    ∙ (rw a)
    in
    rw (e, q, z) (rw f (ap (before (token p k)) i))

-- the bytes w are a token, and t is behind them
takes_bytes : (p : ℕ) (cs ds w t : List ℕ) (k : Kind) (n : ℕ) → is_blank (get_or (w ++ t) 0 0) ≡ false
    → lexeme (w ++ t) ≡ piece k n → n ≡ length w → nest k cs ≡ awaits ds
    → split_from 0 p cs (w ++ t) ≡ before (token p k) (split_from 0 (p + length w) ds t)
takes_bytes p cs ds w t k n b e l z = takes_one p n cs ds (w ++ t) k b e z ∙ (rw (l, drop-append_seam w t))

-- ---- one piece

word_first : (w t : List ℕ) → word_like w ≡ true → is_blank (get_or (w ++ t) 0 0) ≡ false
unfolding word_like
word_first [] t e = absurd (never e)
word_first (b ∷ w) t e = letter_blank b (both (is_letter b) (all is_name w) e).0

digits_first : (d t : List ℕ) → all is_digit d ≡ true → 0 < length d → is_blank (get_or (d ++ t) 0 0) ≡ false
unfolding all
digits_first [] t e h = absurd (omega arith)
digits_first (b ∷ d) t e h = digit-blank b (both (is_digit b) (all is_digit d) e).0

same-list : {cs ds : List ℕ} → awaits cs ≡ awaits ds → cs ≡ ds
same-list e = cc

some_word : (w : List ℕ) → word_like w ≡ true → 1 ≤ length w
unfolding word_like
some_word [] e = absurd (never e)
some_word (b ∷ w) e = omega arith

module _ (form : Form) where
  -- x stands at p, and the tokens behind it are ts
  takes_piece : (p : ℕ) (cs ds : List ℕ) (x : Piece) (t : List ℕ) (ts : List Token)
      → Fits form x → Clear t → nest_of x cs ≡ awaits ds
      → split_from 0 (p + length (spelt form x)) ds t ≡ tokens ts
      → split_from 0 p cs (spelt form x ++ t) ≡ tokens (ahead form p x ts)
  unfolding spelt ahead one_of
  takes_piece p cs ds (a_word w) t ts f c z e =
      takes_bytes p cs ds w t (name w) (length w) (word_first w t f) (word-lexed w t f c) refl z ∙ ap (before (token p (name w))) e
  takes_piece p cs ds (a_name w) t ts f c z e =
      takes_bytes p cs ds w t (name w) (length w) (word_first w t f.0) (word-lexed w t f.0 c) refl z
      ∙ ap (before (token p (name w))) e
  takes_piece p cs ds (a_plain w) t ts f c z e =
      takes_bytes p cs ds w t (name w) (length w) (word_first w t f.0) (word-lexed w t f.0 c) refl z
      ∙ ap (before (token p (name w))) e
  takes_piece p cs ds (a_numeral k b) t ts f c z e =
      let w = (form k b).0 ++ fraction (form k b).1 in
      takes_bytes p cs ds w t
      (number (written (form k b)))
      (length w)
      (rw (append_assoc (form k b).0 (fraction (form k b).1) t)
      (digits_first (form k b).0 (fraction (form k b).1 ++ t) f.0.whole f.0.some))
      (number-lexed (form k b) t f.0 c)
      refl z
      ∙ ap (before (token p (number (written (form k b))))) e
  takes_piece p cs ds (a_string s) t ts f c z e =
      takes_bytes p cs ds (34 ∷ s ++ 34 ∷ []) t (quoted (length s)) (length s + 2) refl (string-lexed s t f c)
      (rw length-append (omega arith)) z
      ∙ ap (before (token p (quoted (length s)))) e
  takes_piece p cs ds (a_mark b) t ts f c z e =
      takes_bytes p cs ds (b ∷ []) t (mark b) 1 (mark-blank b f) (mark-lexed b t f) refl z ∙ ap (before (token p (mark b))) e
  takes_piece p cs ds (a_pair b d) t ts f c z e =
      let one : p + 1 ≡ suc p = omega arith in
      let two : suc p + 1 ≡ p + 2 = omega arith in
      let far : split_from 0 (suc p + 1) cs t ≡ tokens ts = rw (two, same-list z) e in
      let last : split_from 0 (suc p) cs (d ∷ t) ≡ tokens (token (suc p) (mark d) ∷ ts) = takes_bytes (suc p) cs cs (d ∷ []) t (mark d) 1
      (mark-blank d (plain_known d f.1)) (mark-lexed d t (plain_known d f.1)) refl (plain_nests d cs f.1)
      ∙ ap (before (token (suc p) (mark d))) far
      in
      let near : split_from 0 (p + 1) cs (d ∷ t) ≡ tokens (token (suc p) (mark d) ∷ ts) = rw one last in
      takes_bytes p cs cs
      (b ∷ [])
      (d ∷ t)
      (mark b)
      1
      (mark-blank b (plain_known b f.0))
      (mark-lexed b (d ∷ t) (plain_known b f.0))
      refl
      (plain_nests b cs f.0)
      ∙ ap (before (token p (mark b))) near

  -- ---- all of them

  front : (x : Piece) (xs : List Piece) (p : ℕ) (cs : List ℕ) → Fits form x → fitly (λ ds. Nests ds xs) (nest_of x cs)
      → ((ds : List ℕ) → Nests ds xs
      → split_from 0 (p + length (spelt form x)) ds (spaced form xs) ≡ tokens (laid form (suc (p + length (spelt form x))) xs))
      → split_from 0 p cs (spelt form x ++ spaced form xs) ≡ tokens (laid form p (x ∷ xs))
  unfolding laid
  front x xs p cs f n ih = go (nest_of x cs) refl n
    where
      go : (m : Nest) → nest_of x cs ≡ m → fitly (λ ds. Nests ds xs) m
          → split_from 0 p cs (spelt form x ++ spaced form xs) ≡ tokens (laid form p (x ∷ xs))
      go (unfit r) e k = absurd k
      go (awaits ds) e k =
          takes_piece p cs ds x (spaced form xs) (laid form (suc (p + length (spelt form x))) xs) f (clear form xs) e (ih ds k)

  spaced_splits : (xs : List Piece) (p : ℕ) (cs : List ℕ) → AllFit form xs
      → Nests cs xs
      → split_from 0 p cs (spaced form xs) ≡ tokens (laid form (suc p) xs)
  unfolding spaced laid split_from
  spaced_splits [] p cs f n = let e : suc p - 1 ≡ p = omega arith in rw (n, e)
  spaced_splits (x ∷ xs) p cs f n =
      split-blank cs p (spelt form x ++ spaced form xs)
      ∙ front x xs (suc p) cs f.0 n (λ ds k. spaced_splits xs (suc p + length (spelt form x)) ds f.1 k)

  -- Law A
  pub joined_splits : (xs : List Piece) → AllFit form xs → Nests [] xs → split (joined form xs) ≡ tokens (laid form 0 xs)
  unfolding split joined spaced laid split_from
  joined_splits [] f n = refl
  joined_splits (x ∷ xs) f n = front x xs 0 [] f.0 n (λ ds k. spaced_splits xs (0 + length (spelt form x)) ds f.1 k)

  -- ---- a piece has a byte or more

  some_byte : (x : Piece) → Fits form x → 1 ≤ length (spelt form x)
  unfolding spelt
  some_byte (a_word w) f = some_word w f
  some_byte (a_name w) f = some_word w f.0
  some_byte (a_plain w) f = some_word w f.0
  some_byte (a_numeral k b) f = rw length-append (omega (arith, f.0.some))
  some_byte (a_string s) f = omega arith
  some_byte (a_mark b) f = omega arith
  some_byte (a_pair b c) f = omega arith

  spaced_bytes : (xs : List Piece) → AllFit form xs → length xs + length xs ≤ length (spaced form xs)
  unfolding spaced
  spaced_bytes [] f = omega arith
  spaced_bytes (x ∷ xs) f = rw length-append (omega (arith, some_byte x f.0, spaced_bytes xs f.1))

  pub joined_bytes : (xs : List Piece) → AllFit form xs → length xs ≤ length (joined form xs)
  unfolding joined
  joined_bytes xs f = rw length-drop (omega (arith, spaced_bytes xs f))
