-- Laws of the tokens from a place on.
use Prim.Native.Nat.{ℕ, zero, suc, ◌+◌, ◌-◌, ◌≤◌, ◌<◌}
use mathlib.Core.List.{List, [], ◌∷◌}
use mathlib.Core.Bool.{Bool, true, false}
use mathlib.Core.Path.{◌≡◌, refl, sym, ap, ◌∙◌}
use native.Mathlib.Omega.{arith}
use native.Mathlib.Nat.{add-zero}
use lib.ListN.{length, get_or, take, drop, drop_of_length-le, length-drop}
use lib.Seq.{drop-drop, get_or-drop, take-length}
use Rattle.text.specs.Bytes.{run, is_blank}
use Rattle.text.proofs.ByteLaws.{run_yes, run_no, run_stop}
use Rattle.error.specs.declared.Refusal.{Refusal}
use Rattle.token.specs.Token.{Kind, name, number, quoted, mark, Token, token, bad, piece, lexeme, cut, tokens_from, is_mark}
use Rattle.token.specs.Means.{kind_of, Pieces, Lexes}
use Rattle.token.specs.declared.Tok.{Tok}
use Rattle.token.specs.declared.Tok.TheVariants.{Mark}
use Rattle.token.proofs.LexLaws.{run_fits}
use Rattle.token.proofs.WholeLaws.{Fits, whole_of}

-- the rest of a text, as the code's `&s[i..]` is
pub rest_of : (s : List ℕ) (i : ℕ) → take (length s - i) (drop i s) ≡ drop i s
rest_of s i = ap (λ (n : ℕ). take n (drop i s)) (sym (length-drop i s)) ∙ take-length (drop i s)

-- ---- the token at the front

-- what passes over the bytes of a token before one at a time passes over them all
pub skips : {A : Type 0} (f : ℕ → ℕ → List ℕ → A)
    → ((k p b : ℕ) (bs : List ℕ) → f (suc k) p (b ∷ bs) ≡ f k (suc p) bs)
    → (k p : ℕ) (l : List ℕ) → k ≤ length l → f k p l ≡ f 0 (p + k) (drop k l)
skips f h zero p l g = rw (add-zero p)
skips f h (suc k) p [] g = absurd (omega arith)
skips f h (suc k) p (b ∷ bs) g = h k p b bs ∙ skips f h k (suc p) bs (omega arith) ∙ ap (λ (n : ℕ). f 0 n (drop k bs)) (omega arith)

cut-skip : (k p b : ℕ) (bs : List ℕ) → cut (suc k) p (b ∷ bs) ≡ cut k (suc p) bs
unfolding cut
cut-skip k p b bs = refl

cut-blank : (p b : ℕ) (bs : List ℕ) → is_blank b ≡ true → cut 0 p (b ∷ bs) ≡ cut 0 (suc p) bs
unfolding cut
cut-blank p b bs e = rw e

-- what is passed one blank at a time is passed a run at a time
pub blanks : {A : Type 0} (f : ℕ → List ℕ → A)
    → ((p b : ℕ) (bs : List ℕ) → is_blank b ≡ true → f p (b ∷ bs) ≡ f (suc p) bs)
    → (p : ℕ) (l : List ℕ)
    → f p l ≡ f (p + run is_blank l) (drop (run is_blank l) l)
unfolding run
blanks f h p [] = rw (add-zero p)
blanks {A} f h p (b ∷ bs) = go (blanks f h (suc p) bs) (is_blank b) refl
  where
    by : (n : ℕ) → run is_blank (b ∷ bs) ≡ n → f p (b ∷ bs) ≡ f (p + n) (drop n (b ∷ bs))
        → f p (b ∷ bs) ≡ f (p + run is_blank (b ∷ bs)) (drop (run is_blank (b ∷ bs)) (b ∷ bs))
    by n e q = q ∙ sym (ap (λ (k : ℕ). f (p + k) (drop k (b ∷ bs))) e)

    go : f (suc p) bs ≡ f (suc p + run is_blank bs) (drop (run is_blank bs) bs)
        → (t : Bool) → is_blank b ≡ t
        → f p (b ∷ bs) ≡ f (p + run is_blank (b ∷ bs)) (drop (run is_blank (b ∷ bs)) (b ∷ bs))
    go r true e = by _ (run_yes is_blank b bs e) (h p b bs e ∙ r ∙ ap (λ (n : ℕ). f n (drop (run is_blank bs) bs)) (omega arith))
    go r false e = by _ (run_no is_blank b bs e) (ap (λ (n : ℕ). f n (b ∷ bs)) (omega arith))

cut_bad : (p : ℕ) (r : Refusal) (l : List ℕ) → 0 < length l → is_blank (get_or l 0 0) ≡ false
    → lexeme l ≡ bad r → cut 0 p l ≡ token p (mark 0) ∷ []
unfolding cut
cut_bad p r [] h e q = absurd (omega arith)
cut_bad p r (b ∷ l) h e q = rw (e, q)

cut_piece : (p n : ℕ) (k : Kind) (l : List ℕ) → 0 < length l → is_blank (get_or l 0 0) ≡ false
    → lexeme l ≡ piece k n → 0 < n → n ≤ length l → cut 0 p l ≡ token p k ∷ cut 0 (p + n) (drop n l)
unfolding cut
cut_piece p n k [] h e q z m = absurd (omega arith)
cut_piece p n k (b ∷ l) h e q z m =
    let s : suc (n - 1) ≡ n = omega arith in
    let a : suc p + (n - 1) ≡ p + n = omega arith in
    rw (e, q)
    (ap (λ (ts : List Token). token p k ∷ ts)
    (skips cut cut-skip (n - 1) (suc p) l (omega arith) ∙ (rw a (ap (λ (m : ℕ). cut 0 (p + n) (drop m (b ∷ l))) s))))

-- ---- Lexes

no : (true ≡ false) → ⊥
no q = let z : ◌≡◌ {A = ℕ} 0 1 = cc in omega arith

no_end : (k : Kind) (n : ℕ) → Fits k n → is_mark k 0 ≡ false
no_end (name w) n h = refl
no_end (number w) n h = refl
no_end (quoted m) n h = refl
no_end (mark b) n h = h

-- no blank stands behind a run of blanks
pub past_blanks : (s : List ℕ) (p start : ℕ) → start ≡ p + run is_blank (drop p s)
    → start < length s → is_blank (get_or (drop start s) 0 0) ≡ false
past_blanks s p start e h =
    let g : run is_blank (drop p s) < length (drop p s) = rw length-drop (omega arith) in
    rw (get_or-drop, add-zero, e) (rw get_or-drop at (run_stop is_blank (drop p s) g))

-- from the end on there is only the end
pub past_end : (s : List ℕ) (p : ℕ) → length s ≤ p → tokens_from s p ≡ token p (mark 0) ∷ []
unfolding tokens_from cut
past_end s p h = rw (drop_of_length-le s h)

module _ (s : List ℕ) (p start : ℕ) (r : start ≡ p + run is_blank (drop p s)) where
  from_start : tokens_from s p ≡ tokens_from s start
  unfolding tokens_from
  from_start = blanks (cut 0) cut-blank p (drop p s) ∙ (rw drop-drop (rw (sym r)))

  pub start_high : p ≤ length s → start ≤ length s
  start_high h = omega (arith, run_fits is_blank s p h)

  -- no token can be cut at start
  none_at : p ≤ length s → tokens_from s start ≡ token start (mark 0) ∷ [] → Lexes s p start start (Mark 0)
  none_at h q' =
      let q : tokens_from s p ≡ token start (mark 0) ∷ [] = from_start ∙ q' in
      record {
        same = from_start;
        kind = rw q;
        place = rw q;
        rest = rw (q, q');
        low = omega arith;
        some = omega arith;
        high = start_high h;
        moved = λ e. absurd (no e);
        stands = tt;
      }

  module _ (h : p ≤ length s) where
    pub lexes_end : length s ≤ start → Lexes s p start start (Mark 0)
    lexes_end g = none_at h (past_end s start g)

    pub lexes_bad : start < length s → (x : Refusal) → lexeme (drop start s) ≡ bad x → Lexes s p start start (Mark 0)
    unfolding tokens_from
    lexes_bad g x e = none_at h (cut_bad start x (drop start s) (rw length-drop (omega arith)) (past_blanks s p start r g) e)

  module _ (h : start < length s) (k : Tok) (n : ℕ) (m : Pieces (drop start s) (lexeme (drop start s)) k n) where
    pub piece_high : start + n ≤ length s
    piece_high = omega (arith, rw length-drop at (whole_of (drop start s) _ n m.is).high)

    pub lexes_piece : Lexes s p start (start + n) k
    unfolding tokens_from
    lexes_piece =
        let x = whole_of (drop start s) _ n m.is in
        let z : start + n - start ≡ n = omega arith in
        let q : tokens_from s p ≡ token start (kind_of (drop start s) n k) ∷ tokens_from s (start + n) = from_start
        ∙ cut_piece start n _ (drop start s) (rw length-drop (omega arith)) (past_blanks s p start r h) m.is x.some x.high
        ∙ (rw drop-drop)
        in
        record {
          same = from_start;
          kind = rw (q, z);
          place = rw q;
          rest = rw (q, no_end (kind_of (drop start s) n k) n x.fits);
          low = omega arith;
          some = omega arith;
          high = piece_high;
          moved = λ e. omega (arith, x.some);
          stands = rw z m.stands;
        }
