-- Laws of a cursor's word: each function over it gives what was put there.
use Prim.Native.Nat.{ℕ, zero, suc, ◌+◌, ◌-◌, ◌*◌, ◌/◌, ◌%◌, ◌≤◌, ◌<◌}
use mathlib.Core.Bool.{Bool, true, false, ◌||◌, cond}
use mathlib.Core.Path.{◌≡◌, refl, sym}
use native.Mathlib.Omega.{arith}
use borrow.Author.Tests.{lt-ltb, le-ltb, ne_eqb, eqb-true, eqb-false}
use lib.Dec.{ltb, eqb}
use Rattle.token.specs.Means.{head_tok}
use Rattle.token.proofs.WholeLaws.{neither}
use Rattle.token.specs.declared.Tok.{Tok}
use Rattle.token.specs.declared.Tok.TheVariants.{Name, Num, Quoted, Mark}
use Rattle.read_cursor.specs.WordMeans.{end_of, left_at, rounded_of, code_of, code_tok, code_place}
use Rattle.read_cursor.specs.WordMeans.{tok_of, at_of, tok_code, notes_of, head_word, noting, tallied}
use Rattle.read_cursor.specs.declared.Cursor.{Cursor}

-- a word by its parts
abbrev packed : ℕ → ℕ → ℕ → ℕ → ℕ
packed k r l e = k * 140737488355328 + r * 4294967296 + l * 65536 + e

module _ (k r l e : ℕ) (f : r < 32768) (g : l < 65536) (h : e < 65536) where
  packed_end : packed k r l e % 65536 ≡ e
  packed_end = omega arith

  packed_left : packed k r l e / 65536 % 65536 ≡ l
  packed_left = omega arith

  packed_rounded : packed k r l e / 4294967296 % 32768 ≡ r
  packed_rounded = omega arith

  packed_code : packed k r l e / 140737488355328 ≡ k
  packed_code = omega arith

-- ---- the word of a token, over the notes of c

-- a mark has one byte, which is not 0
abbrev pub Marked : Tok → ℕ → Type 0
Marked Name n = Unit {0}
Marked Num n = Unit {0}
Marked Quoted n = Unit {0}
Marked (Mark b) n = (0 < b) × (b < 256) × (n ≡ 1)

abbrev head_code : Tok → ℕ → ℕ → ℕ
head_code k p zero = 0
head_code k p (suc n) = tok_code k p

code_tok_lem : (k : Tok) (p n : ℕ) → p ≤ 16384 → (0 < n → Marked k n) → code_tok (head_code k p n) ≡ head_tok k n
unfolding code_tok tok_code
code_tok_lem k p zero h m = refl
code_tok_lem Name p (suc n) h m = rw (le-ltb (32768 + p) 256 (omega arith), lt-ltb (32768 + p) 65536 (omega arith))
code_tok_lem Num p (suc n) h m =
    rw (le-ltb (65536 + p) 256 (omega arith), le-ltb (65536 + p) 65536 (omega arith), lt-ltb (65536 + p) 98304 (omega arith))
code_tok_lem Quoted p (suc n) h m =
    rw (le-ltb (98304 + p) 256 (omega arith), le-ltb (98304 + p) 65536 (omega arith), le-ltb (98304 + p) 98304 (omega arith))
code_tok_lem (Mark b) p (suc n) h m = rw (lt-ltb b 256 (m (omega arith)).1)

code_place_lem : (k : Tok) (p n : ℕ) → p ≤ 16384 → (0 < n → Marked k n) → code_place (head_code k p n) (p + n) ≡ p
unfolding code_place tok_code
code_place_lem k p zero h m = omega arith
code_place_lem Name p (suc n) h m = rw (le-ltb (32768 + p) 256 (omega arith)) (omega arith)
code_place_lem Num p (suc n) h m = rw (le-ltb (65536 + p) 256 (omega arith)) (omega arith)
code_place_lem Quoted p (suc n) h m = rw (le-ltb (98304 + p) 256 (omega arith)) (omega arith)
code_place_lem (Mark b) p (suc n) h m =
    let q = m (omega arith) in
    rw (lt-ltb b 256 q.1, ne_eqb b 0 (λ e. omega (arith, q.0))) (omega (arith, q.2))

rounded_small : (c : Cursor) → rounded_of c < 32768
unfolding rounded_of
rounded_small c = omega arith

left_small : (c : Cursor) → left_at c < 65536
unfolding left_at
left_small c = omega arith

pub notes_small : (c : Cursor) → notes_of c + 65536 ≤ 140737488355328
unfolding notes_of
notes_small c = omega arith

notes_are : (c : Cursor) → notes_of c ≡ rounded_of c * 4294967296 + left_at c * 65536
unfolding notes_of rounded_of left_at
notes_are c = omega arith

head_packed : (c : Cursor) (k : Tok) (p n : ℕ)
    → head_word (notes_of c) p k n ≡ packed (head_code k p n) (rounded_of c) (left_at c) (p + n)
unfolding head_word
head_packed c k p zero = omega (arith, notes_are c)
head_packed c k p (suc n) = omega (arith, notes_are c)

module _ (c : Cursor) (k : Tok) (p n : ℕ) (h : p + n ≤ 16384) where
  abbrev at_head : Cursor
  at_head = record { word = head_word (notes_of c) p k n }

  head_code_lem : code_of at_head ≡ head_code k p n
  unfolding code_of
  head_code_lem = rw (head_packed c k p n) (packed_code (head_code k p n) _ _ _ (rounded_small c) (left_small c) (omega arith))

  pub head_end : end_of at_head ≡ p + n
  unfolding end_of
  head_end = rw (head_packed c k p n) (packed_end (head_code k p n) _ _ _ (rounded_small c) (left_small c) (omega arith))

  pub head_left : left_at at_head ≡ left_at c
  unfolding left_at
  head_left = rw (head_packed c k p n) (packed_left (head_code k p n) _ _ _ (rounded_small c) (left_small c) (omega arith))

  pub head_rounded : rounded_of at_head ≡ rounded_of c
  unfolding rounded_of
  head_rounded = rw (head_packed c k p n) (packed_rounded (head_code k p n) _ _ _ (rounded_small c) (left_small c) (omega arith))

  module _ (m : 0 < n → Marked k n) where
    pub head_tok_lem : tok_of at_head ≡ head_tok k n
    unfolding tok_of
    head_tok_lem = rw head_code_lem (code_tok_lem k p n (omega arith) m)

    pub head_at : at_of at_head ≡ p
    unfolding at_of
    head_at = rw (head_code_lem, head_end) (code_place_lem k p n (omega arith) m)

-- ---- a cursor with another place noted

module _ (c : Cursor) (p : ℕ) (h : p < 65536) where
  noting_code : code_of (noting c p) ≡ code_of c
  unfolding code_of noting
  noting_code = omega arith

  pub noting_end : end_of (noting c p) ≡ end_of c
  unfolding end_of noting
  noting_end = omega arith

  pub noting_left : left_at (noting c p) ≡ p
  unfolding left_at noting
  noting_left = omega arith

  pub noting-rounded : rounded_of (noting c p) ≡ rounded_of c
  unfolding rounded_of noting
  noting-rounded = omega arith

  pub noting_tok : tok_of (noting c p) ≡ tok_of c
  unfolding tok_of
  noting_tok = rw noting_code

  pub noting-at : at_of (noting c p) ≡ at_of c
  unfolding at_of
  noting-at = rw (noting_code, noting_end)

-- ---- a cursor with a number counted

module _ (c : Cursor) (h : rounded_of c ≤ 16384) where
  tallied_code : (b : Bool) → code_of (tallied b c) ≡ code_of c
  unfolding code_of tallied rounded_of
  tallied_code true = omega arith
  tallied_code false = refl

  pub tallied_end : (b : Bool) → end_of (tallied b c) ≡ end_of c
  unfolding end_of tallied
  tallied_end true = omega arith
  tallied_end false = refl

  pub tallied_left : (b : Bool) → left_at (tallied b c) ≡ left_at c
  unfolding left_at tallied
  tallied_left true = omega arith
  tallied_left false = refl

  pub tallied-rounded : (b : Bool) → rounded_of (tallied b c) ≡ cond b (suc (rounded_of c)) (rounded_of c)
  unfolding rounded_of tallied
  tallied-rounded true = omega arith
  tallied-rounded false = refl

  pub tallied_tok : (b : Bool) → tok_of (tallied b c) ≡ tok_of c
  unfolding tok_of
  tallied_tok b = rw (tallied_code b)

  pub tallied-at : (b : Bool) → at_of (tallied b c) ≡ at_of c
  unfolding at_of
  tallied-at b = rw (tallied_code b, tallied_end b)

-- ---- the code's answers

pub long_head : (m p x : ℕ) (k : Tok) (n : ℕ) → (n ≡ 0 → ⊥) → tok_code k p ≡ x + p
    → (x + p) * 140737488355328 + m + (p + n) ≡ head_word m p k n
unfolding head_word
long_head m p x k zero h e = absurd (h refl)
long_head m p x k (suc n) h e = rw e

pub tok_is : (c : Cursor) (k : ℕ) → k ≡ code_of c → (x y z : Bool) → ltb k 256 ≡ x → ltb k 65536 ≡ y → ltb k 98304 ≡ z
    → tok_of c ≡ cond x (Mark k) (cond y Name (cond z Num Quoted))
unfolding tok_of code_tok
tok_is c k e x y z h g f = rw (sym e, h, g, f)

module _ (c : Cursor) (k e : ℕ) (f : k ≡ code_of c) (g : e ≡ end_of c) where
  place_is : (x y : Bool) → ltb k 256 ≡ x → eqb k 0 ≡ y → at_of c ≡ cond x (cond y e (e - 1)) (k % 32768)
  unfolding at_of code_place
  place_is x y h i = rw (sym f, sym g, h, i)

  pub place-long : 256 ≤ k → k % 32768 ≡ at_of c
  place-long h = sym (place_is false _ (le-ltb k 256 h) refl)

  pub place_end : k < 256 → (eqb k 0 || eqb e 0) ≡ true → e ≡ at_of c
  place_end h i = go (eqb k 0) refl i
    where
      go : (y : Bool) → eqb k 0 ≡ y → (y || eqb e 0) ≡ true → e ≡ at_of c
      go true q i = sym (place_is true true (lt-ltb k 256 h) q)
      go false q i = omega (arith, place_is true false (lt-ltb k 256 h) q, eqb-true e 0 i)

  pub place-mark : k < 256 → (eqb k 0 || eqb e 0) ≡ false → e - 1 ≡ at_of c
  place-mark h i = sym (place_is true false (lt-ltb k 256 h) (neither (eqb k 0) (eqb e 0) i).0)

pub some_end : (k e : ℕ) → (eqb k 0 || eqb e 0) ≡ false → 1 ≤ e
some_end k zero i = absurd (eqb-false 0 0 (neither (eqb k 0) (eqb 0 0) i).1 refl)
some_end k (suc e) i = omega arith

-- before the first token
pub first_left : left_at (record { word = 4294901760 }) ≡ 65535
unfolding left_at
first_left = refl

pub first-rounded : rounded_of (record { word = 4294901760 }) ≡ 0
unfolding rounded_of
first-rounded = refl
