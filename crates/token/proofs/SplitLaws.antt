-- Laws of the pass over a whole text, and of the closers that the scratch holds.
use Prim.Native.Nat.{ℕ, zero, suc, ◌+◌, ◌-◌, ◌≤◌, ◌<◌}
use mathlib.Core.List.{List, [], ◌∷◌, ◌++◌, append-nil}
use mathlib.Core.Bool.{Bool, true, false, cond}
use mathlib.Core.Path.{◌≡◌, refl, sym, ap, ◌∙◌}
use native.Mathlib.Omega.{arith}
use native.Mathlib.Numerals.{add-one}
use lib.Dec.{eqb}
use lib.ListN.{length, get_or, set, drop, replicate, drop_of_length-le, length-drop}
use lib.Seq.{drop-drop, get_or-set_same, get_or-set_other}
use borrow.Author.Tests.{lt-ltb, le-ltb}
use Rattle.text.specs.Bytes.{run, among, is_blank}
use Rattle.error.specs.declared.Refusal.{Refusal}
use Rattle.error.specs.declared.Refusal.TheVariants.{Unbalanced, TooManyOpen, ScratchTooShort}
use Rattle.token.specs.Token.{Kind, Token, token, bad, piece, lexeme}
use Rattle.token.specs.Split.{Nest, unfit, awaits, closer, closed, nest_mark, nest, halt, takes}
use Rattle.token.specs.Split.{nested, step, Split, unlexed, tokens, before, ended, split_from, split}
use Rattle.token.specs.Means.{kind_of, Pieces, held, after_opener, Awaits, DepthMeans}
use Rattle.token.specs.Means.{answer_of, answer_from, GoesOn, split_outcome, splitting}
use Rattle.std.specs.Prelude.{Result}
use Rattle.error.specs.declared.Refusal.{Refusal}
use Rattle.token.specs.declared.SplitAnswer.{SplitAnswer}
use Rattle.token.specs.declared.SplitAnswer.TheVariants.{Refused}
use Rattle.token.specs.declared.Tok.{Tok}
use Rattle.token.proofs.WholeLaws.{whole_of}
use Rattle.token.proofs.TokenLaws.{skips, blanks, past_blanks}

-- ---- the closers that the scratch holds

held-length : (s : List ℕ) (d : ℕ) → length (held s d) ≡ d
unfolding held
held-length s zero = refl
held-length s (suc d) = ap suc (held-length s d)

-- a word past them does not count
held_other : (s : List ℕ) (d i v : ℕ) → d ≤ i → held (set s i v) d ≡ held s d
unfolding held
held_other s zero i v h = refl
held_other s (suc d) i v h = rw (get_or-set_other s i d v 0 (λ e. omega arith), held_other s d i v (omega arith))

held-set : (s : List ℕ) (d v : ℕ) → d < length s → held (set s d v) (d + 1) ≡ v ∷ held s d
unfolding held
held-set s d v h = rw (add-one, get_or-set_same s d v 0 h, held_other s d d v (omega arith))

held_none : (s : List ℕ) (d : ℕ) → d ≡ 0 → held s d ≡ []
unfolding held
held_none s d h = rw h

pub held_some : (s : List ℕ) (d : ℕ) → (d ≡ 0 → ⊥) → held s d ≡ get_or s (d - 1) 0 ∷ held s (d - 1)
unfolding held
held_some s zero h = absurd (h refl)
held_some s (suc d) h = let e : suc d - 1 ≡ d = omega arith in rw e

-- ---- what a mark makes of them

module _ (s : List ℕ) (d b : ℕ) where
  pub opens : (v : ℕ) → v ≡ closer b → d < 64 → d < length s → Awaits (after_opener b (held s d)) (set s d v) (d + 1)
  opens v e h g = record { is = rw (held-length s d, lt-ltb d 64 h, held-set s d v g, e); few = omega arith }

  pub full : 64 ≤ d → after_opener b (held s d) ≡ unfit TooManyOpen
  full h = rw (held-length s d, le-ltb d 64 h)

  pub closes_none : d ≡ 0 → closed b (held s d) ≡ unfit Unbalanced
  unfolding closed
  closes_none h = rw (held_none s d h)

  pub closes_by : (t : Bool) → (d ≡ 0 → ⊥) → eqb b (get_or s (d - 1) 0) ≡ t
      → closed b (held s d) ≡ cond t (awaits (held s (d - 1))) (unfit Unbalanced)
  unfolding closed
  closes_by t h e = rw (held_some s d h, e)

pub mark_is : (b : ℕ) (cs : List ℕ) (t u : Bool) → among "([{" b ≡ t
    → among ")]}" b ≡ u
    → nest_mark b cs ≡ cond t (after_opener b cs) (cond u (closed b cs) (awaits cs))
unfolding nest_mark
mark_is b cs t u h g = rw (h, g)

pub depth_is : (x y : Nest) → x ≡ y → (words : List ℕ) (r : Result ℕ Refusal) → DepthMeans y words r → DepthMeans x words r
depth_is x y e words r m = rw e m

-- ---- one step

answer_before : (t : Token) (x : Split) → answer_of (before t x) ≡ answer_of x
answer_before t (unlexed r p) = refl
answer_before t (tokens ts) = refl

split-skip : (cs : List ℕ) (k p b : ℕ) (bs : List ℕ) → split_from (suc k) p cs (b ∷ bs) ≡ split_from k (suc p) cs bs
unfolding split_from
split-skip cs k p b bs = refl

split-blank : (cs : List ℕ) (p b : ℕ) (bs : List ℕ) → is_blank b ≡ true → split_from 0 p cs (b ∷ bs) ≡ split_from 0 (suc p) cs bs
unfolding split_from step
split-blank cs p b bs e = rw e

step_halt : (p : ℕ) (cs l : List ℕ) (r : Refusal) → 0 < length l → step cs l ≡ halt r → split_from 0 p cs l ≡ unlexed r p
unfolding split_from
step_halt p cs [] r h q = absurd (omega arith)
step_halt p cs (b ∷ l) r h q = rw q

step_takes : (p n : ℕ) (cs ds l : List ℕ) (k : Kind) → 0 < n → n ≤ length l
    → step cs l ≡ takes k n ds
    → split_from 0 p cs l ≡ before (token p k) (split_from 0 (p + n) ds (drop n l))
unfolding split_from
step_takes p n cs ds [] k z h q = absurd (omega arith)
step_takes p n cs ds (b ∷ l) k z h q =
    let s : suc (n - 1) ≡ n = omega arith in
    let a : suc p + (n - 1) ≡ p + n = omega arith in
    let e : split_from 0 (p + n) ds (drop (suc (n - 1)) (b ∷ l)) ≡ split_from 0 (p + n) ds (drop n (b ∷ l)) = rw s in
    let f : split_from (n - 1) (suc p) ds l ≡ split_from 0 (p + n) ds (drop (n - 1) l) = skips (λ i o t. split_from i o ds t) (split-skip ds)
    (n - 1) (suc p) l (omega arith)
    ∙ (rw a)
    in
    rw q (rw f (ap (before (token p k)) e))

step_bad : (cs l : List ℕ) (r : Refusal) → is_blank (get_or l 0 0) ≡ false → lexeme l ≡ bad r → step cs l ≡ halt r
unfolding step
step_bad cs l r e q = rw (e, q)

step_piece : (cs l : List ℕ) (k : Kind) (n : ℕ) (x : Nest) → is_blank (get_or l 0 0) ≡ false
    → lexeme l ≡ piece k n → nest k cs ≡ x → step cs l ≡ nested k n x
unfolding step
step_piece cs l k n x e q z = rw (e, q, z)

module _ (s : List ℕ) (p start : ℕ) (r : start ≡ p + run is_blank (drop p s)) (cs : List ℕ) where
  to_start : split_from 0 p cs (drop p s) ≡ split_from 0 start cs (drop start s)
  to_start = blanks (λ o t. split_from 0 o cs t) (split-blank cs) p (drop p s) ∙ (rw drop-drop (rw (sym r)))

  pub over_end : length s ≤ start → answer_from s p cs ≡ answer_of (ended start cs)
  unfolding split_from
  over_end h = let e : split_from 0 p cs (drop p s) ≡ ended start cs = to_start ∙ (rw (drop_of_length-le s h)) in ap answer_of e

  module _ (h : start < length s) where
    some_left : 0 < length (drop start s)
    some_left = rw length-drop (omega arith)

    pub over_bad : (x : Refusal) → lexeme (drop start s) ≡ bad x → answer_from s p cs ≡ Refused x start
    over_bad x e = ap answer_of (to_start ∙ step_halt start cs _ x some_left (step_bad cs _ x (past_blanks s p start r h) e))

    module _ (k : Tok) (n : ℕ) (m : Pieces (drop start s) (lexeme (drop start s)) k n) where
      pub over_unfit : (x : Refusal) → nest (kind_of (drop start s) n k) cs ≡ unfit x → answer_from s p cs ≡ Refused x start
      over_unfit x e =
          ap answer_of (to_start ∙ step_halt start cs _ x some_left (step_piece cs _ _ n _ (past_blanks s p start r h) m.is e))

      pub goes_on : (words : List ℕ) (d : ℕ)
          → Awaits (nest (kind_of (drop start s) n k) cs) words d
          → GoesOn s p (answer_from s p cs) words (start + n) d
      goes_on words d a =
          let x = whole_of (drop start s) _ n m.is in
          let g : n ≤ length s - start = rw length-drop at x.high in
          let q = step_takes start n cs _ _ _ x.some x.high (step_piece cs _ _ n _ (past_blanks s p start r h) m.is a.is) in
          record {
            is = ap answer_of (to_start ∙ q)
                ∙ answer_before (token start (kind_of (drop start s) n k)) (split_from 0 (start + n) (held words d) (drop n (drop start s)))
                ∙ (rw drop-drop);
            low = omega (arith, x.some);
            high = omega arith;
            few = a.few;
          }

-- ---- the whole pass

pub all-cleared : (i : ℕ) (d words : List ℕ) → length d ≤ i → i ≤ length d
    → words ≡ replicate i 0 ++ drop i d → words ≡ replicate (length d) 0
all-cleared i d words h g e =
    let q : i ≡ length d = omega arith in
    e ∙ (rw (drop_of_length-le d h, q, append-nil))

pub from_zero : (s words : List ℕ) → answer_of (split s) ≡ answer_from s 0 (held words 0)
unfolding split held
from_zero s words = refl

module _ (t s : List ℕ) where
  pub too_short : length s < 64 → split_outcome (Refused ScratchTooShort 0) s ≡ splitting t s
  unfolding splitting
  too_short h = rw (lt-ltb (length s) 64 h)

  pub split_by : (a : SplitAnswer) (mid after : List ℕ) → 64 ≤ length s
      → a ≡ answer_of (split t) → length mid ≡ length s → after ≡ replicate (length mid) 0
      → split_outcome a after ≡ splitting t s
  unfolding splitting
  split_by a mid after h e l q = rw (le-ltb (length s) 64 h, e, q, l)
