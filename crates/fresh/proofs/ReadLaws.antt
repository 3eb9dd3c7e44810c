-- Rules over the tokens of pieces: a rule takes the pieces up to some that follow, and gives a value with a property.
-- s is the text of the pieces.
use Prim.Native.Nat.{ℕ, zero, suc, ◌+◌, ◌≤◌, ◌<◌}
use mathlib.Core.Bool.{Bool, true, false}
use mathlib.Core.List.{List, [], ◌∷◌, ◌++◌, append_assoc}
use mathlib.Core.Option.{Option, some}
use mathlib.Core.Path.{◌≡◌, refl, sym, ◌∙◌, subst}
use native.Mathlib.Omega.{arith}
use lib.Dec.{eqb}
use borrow.Author.Tests.{eq-eqb}
use lib.ListN.{length, drop}
use lib.Seq.{drop-drop, drop-append_seam, take-append_seam}
use Rattle.digits.specs.Numeral.{Sort, counted, written}
use Rattle.text.specs.Bytes.{part}
use Rattle.text.specs.Words.{is_one_of}
use Rattle.token.specs.Token.{Token}
use Rattle.token.specs.Split.{closer}
use Rattle.token.specs.Names.{is_keyword}
use Rattle.error.specs.declared.Refusal.{Refusal}
use Rattle.grammar.specs.Rule.{Notes, Out, got, Rule, after, give, need, if, ◌>>=◌, ◌>>◌, Next}
use Rattle.grammar.specs.Rule.{more, done, iterate, repeat, sees_byte, skip, the_byte, eat_byte, both_bytes}
use Rattle.grammar.specs.Rule.{word, text, signed, sees_number, sees_whole, leave, inside_byte}
use Rattle.grammar.specs.Rule.{tally}
use Rattle.grammar.specs.Rule.{next as following, counted as counted_as}
use Rattle.pieces.specs.Pieces.{Piece, a_word, a_name, a_plain, a_numeral, a_string, a_mark, a_pair}
use Rattle.pieces.specs.Pieces.{Form, spelt, spaced, joined, ahead, laid, curve_names}
use Rattle.pieces.specs.Means.{Means, Fits, AllFit}

abbrev pub IsMore : {A : Type 0} → (A → Type 0) → Next A → Type 0
IsMore R (more a) = R a
IsMore R (done a) = ⊥

abbrev pub IsDone : {A : Type 0} → (A → Type 0) → Next A → Type 0
IsDone R (more a) = ⊥
IsDone R (done a) = R a

-- the notes m are l but for the count of rounded numbers
pub record Kept (l m : Notes) : Type 0 where
  pub leftover : m.leftover ≡ l.leftover
  pub bound : m.bound ≡ l.bound

as_before : {l : Notes} → Kept l l
as_before = record { leftover = refl; bound = refl }

kept_on : {l m n : Notes} → Kept l m → Kept m n → Kept l n
kept_on x y = record { leftover = y.leftover ∙ x.leftover; bound = y.bound ∙ x.bound }

module _ (form : Form) (s : List ℕ) where
  -- from n pieces on, the rule's outcome is a value of which Q holds, at the place of the pieces us; e of the n are taken, or more
  pub record Taken {A : Type 0} (e n : ℕ) (l : Notes) (us : List Piece) (Q : A → Type 0) (o : Out A) : Type 0 where
    pub value : A
    pub notes : Notes
    pub place : ℕ
    pub is : o ≡ got value notes (laid form place us)
    pub kept : Kept l notes
    pub stands : drop place s ≡ joined form us
    pub fits : AllFit form us
    pub fewer : e + length us ≤ n
    pub post : Q value

  -- the rule p takes the pieces ps up to us, e of them or more, and Q holds of its value
  pub record Reads {A : Type 0} (e : ℕ) (p : Rule A) (ps us : List Piece) (Q : A → Type 0) : Type 0 where
    pub run : (l : Notes) (q : ℕ) → length ps < l.bound → drop q s ≡ joined form ps
        → AllFit form ps
        → Taken e (length ps) l us Q (p l (laid form q ps))

  -- with more iterate allowed than there are pieces
  pub record Loops {A : Type 0} (step : A → Rule (Next A)) (a : A) (ps us : List Piece) (Q : A → Type 0) : Type 0 where
    pub run : (k : ℕ) → length ps < k → Reads 0 (iterate step k a) ps us Q

  -- behind a piece
  next_stands : (q : ℕ) (x : Piece) (us : List Piece) → drop q s ≡ joined form (x ∷ us)
      → drop (suc (q + length (spelt form x))) s ≡ joined form us
  unfolding joined spaced
  next_stands q x us h =
      let n = length (spelt form x) in
      let e : suc (q + n) ≡ q + (n + 1) = omega arith in
      let a : drop (q + (n + 1)) s ≡ drop (n + 1) (drop q s) = sym (drop-drop (n + 1) q s) in
      let b : drop (n + 1) (spelt form x ++ spaced form us) ≡ drop 1 (drop n (spelt form x ++ spaced form us)) = sym
      (drop-drop 1 n (spelt form x ++ spaced form us))
      in
      rw e (a ∙ (rw (h, b, drop-append_seam (spelt form x) (spaced form us))))

  -- the bytes of a piece
  piece_bytes : (q : ℕ) (x : Piece) (us : List Piece) → drop q s ≡ joined form (x ∷ us) → part s q (length (spelt form x)) ≡ spelt form x
  unfolding joined spaced
  piece_bytes q x us h = rw h (take-append_seam (spelt form x) (spaced form us))

module _ {form : Form} {s : List ℕ} where
  -- ---- one after the other

  pub gives : {A : Type 0} {ps : List Piece} {Q : A → Type 0} {a : A} → Q a → Reads form s 0 (give a) ps ps Q
  gives {a = a} h = record {
    run = λ l q b d f.
        record { value = a; notes = l; place = q; is = refl; kept = as_before; stands = d; fits = f; fewer = omega arith; post = h };
  }

  goes_on : {A B : Type 0} (e d n : ℕ) (l : Notes) (us vs : List Piece) (f : A → Rule B) (R : A → Type 0) (Q : B → Type 0)
      → ((a : A) → R a → Reads form s d (f a) us vs Q) → n < l.bound
      → (o : Out A) → Taken form s e n l us R o → Taken form s e n l vs Q (after o f)
  goes_on e d n l us vs f R Q k b o x =
      let y = (k x.value x.post).run x.notes x.place (omega (arith, x.fewer, x.kept.bound)) x.stands x.fits in
      record {
        value = y.value;
        notes = y.notes;
        place = y.place;
        is = rw x.is y.is;
        kept = kept_on x.kept y.kept;
        stands = y.stands;
        fits = y.fits;
        fewer = omega (arith, x.fewer, y.fewer);
        post = y.post;
      }

  pub then : {A B : Type 0} {e d : ℕ} {p : Rule A} {f : A → Rule B} {ps us vs : List Piece} {R : A → Type 0} {Q : B → Type 0}
      → Reads form s e p ps us R → ((a : A) → R a → Reads form s d (f a) us vs Q)
      → Reads form s e (p >>= f) ps vs Q
  then {e = e} {d = d} {p = p} {f = f} {ps = ps} {us = us} {vs = vs} {R = R} {Q = Q} x k = record {
    run = λ l q b g h. goes_on e d (length ps) l us vs f R Q k b (p l (laid form q ps)) (x.run l q b g h);
  }

  -- p takes nothing
  pub first : {A B : Type 0} {e : ℕ} {p : Rule A} {f : A → Rule B} {ps vs : List Piece} {R : A → Type 0} {Q : B → Type 0}
      → Reads form s 0 p ps ps R → ((a : A) → R a → Reads form s e (f a) ps vs Q)
      → Reads form s e (p >>= f) ps vs Q
  first {A = A} {e = e} {p = p} {f = f} {ps = ps} {vs = vs} {R = R} {Q = Q} x k = record {
    run = λ l q b g h. go l b (p l (laid form q ps)) (x.run l q b g h);
  }
    where
      go : (l : Notes) → length ps < l.bound → (o : Out A) → Taken form s 0 (length ps) l ps R o
          → Taken form s e (length ps) l vs Q (after o f)
      go l b o x =
          let y = (k x.value x.post).run x.notes x.place (omega (arith, x.kept.bound)) x.stands x.fits in
          record {
            value = y.value;
            notes = y.notes;
            place = y.place;
            is = rw x.is y.is;
            kept = kept_on x.kept y.kept;
            stands = y.stands;
            fits = y.fits;
            fewer = y.fewer;
            post = y.post;
          }

  pub and : {A B : Type 0} {e d : ℕ} {p : Rule A} {f : Rule B} {ps us vs : List Piece} {R : A → Type 0} {Q : B → Type 0}
      → Reads form s e p ps us R → Reads form s d f us vs Q
      → Reads form s e (p >> f) ps vs Q
  and {e = e} {d = d} {p = p} {f = f} {ps = ps} {us = us} {vs = vs} {R = R} {Q = Q} x k = record {
    run = λ l q b g h. goes_on e d (length ps) l us vs (λ a. f) R Q (λ a r. k) b (p l (laid form q ps)) (x.run l q b g h);
  }

  -- a number may be counted on the way
  pub tallies : {A : Type 0} {e : ℕ} {p : Rule A} {ps us : List Piece} {Q : A → Type 0} (c : Bool)
      → Reads form s e p ps us Q → Reads form s e (counted_as c >> p) ps us Q
  tallies c x = record {
    run = λ l q b g h.
        let y = x.run (tally c l) q b g h in
        record {
          value = y.value;
          notes = y.notes;
          place = y.place;
          is = y.is;
          kept = record { leftover = y.kept.leftover; bound = y.kept.bound };
          stands = y.stands;
          fits = y.fits;
          fewer = y.fewer;
          post = y.post;
        };
  }

  -- a test that comes out the same wherever the pieces stand
  pub yes_if : {A : Type 0} {e : ℕ} (test : List Token → Bool) (p r : Rule A) {ps us : List Piece} {Q : A → Type 0}
      → ((q : ℕ) → test (laid form q ps) ≡ true) → Reads form s e p ps us Q
      → Reads form s e (if test p r) ps us Q
  yes_if test p r h x = record { run = λ l q b g f. rw (h q) (x.run l q b g f) }

  pub no_if : {A : Type 0} {e : ℕ} (test : List Token → Bool) (p r : Rule A) {ps us : List Piece} {Q : A → Type 0}
      → ((q : ℕ) → test (laid form q ps) ≡ false) → Reads form s e r ps us Q
      → Reads form s e (if test p r) ps us Q
  no_if test p r h x = record { run = λ l q b g f. rw (h q) (x.run l q b g f) }

  -- one that holds of pieces that a text can have
  pub yes_fit : {A : Type 0} {e : ℕ} (test : List Token → Bool) (p r : Rule A) {ps us : List Piece} {Q : A → Type 0}
      → ((q : ℕ) → AllFit form ps → test (laid form q ps) ≡ true)
      → Reads form s e p ps us Q → Reads form s e (if test p r) ps us Q
  yes_fit test p r h x = record { run = λ l q b g f. rw (h q f) (x.run l q b g f) }

  -- ---- one piece

  -- a rule that takes one piece
  one : {A : Type 0} (p : Rule A) (x : Piece) (us : List Piece) (Q : A → Type 0) (f : ℕ → A)
      → ((l : Notes) (q : ℕ) → Fits form x → p l (laid form q (x ∷ us)) ≡ got (f q) l (laid form (suc (q + length (spelt form x))) us))
      → ((q : ℕ) → drop q s ≡ joined form (x ∷ us) → Q (f q)) → Reads form s 1 p (x ∷ us) us Q
  one p x us Q f h g = record {
    run = λ l q b d i.
        record {
          value = f q;
          notes = l;
          place = suc (q + length (spelt form x));
          is = h l q i.0;
          kept = as_before;
          stands = next_stands form s q x us d;
          fits = i.1;
          fewer = omega arith;
          post = g q d;
        };
  }

  pub weaken : {A : Type 0} {e : ℕ} {p : Rule A} {ps us : List Piece} {R Q : A → Type 0}
      → Reads form s e p ps us R → ((a : A) → R a → Q a) → Reads form s e p ps us Q
  weaken x k = record {
    run = λ l q b g h.
        let y = x.run l q b g h in
        record {
          value = y.value;
          notes = y.notes;
          place = y.place;
          is = y.is;
          kept = y.kept;
          stands = y.stands;
          fits = y.fits;
          fewer = y.fewer;
          post = k y.value y.post;
        };
  }

  -- ---- marks

  -- the mark b is the next piece; a pair begins with it
  pub the-mark : (b : ℕ) (us : List Piece) → eqb b 0 ≡ false → Reads form s 1 (the_byte b) (a_mark b ∷ us) us (λ u. Unit {0})
  unfolding laid ahead spelt
  the-mark b us e = one (the_byte b) (a_mark b) us (λ u. Unit {0}) (λ q. tt) (λ l q f. rw (eq-eqb b b refl, e)) (λ q d. tt)

  pub eats_mark : (b : ℕ) (us : List Piece) → eqb b 0 ≡ false → Reads form s 1 (eat_byte b) (a_mark b ∷ us) us (λ c. c ≡ true)
  unfolding laid ahead spelt
  eats_mark b us e = one (eat_byte b) (a_mark b) us (λ c. c ≡ true) (λ q. true) (λ l q f. rw (eq-eqb b b refl, e)) (λ q d. refl)

  pub skips_mark : (b : ℕ) (us : List Piece) → eqb b 0 ≡ false → Reads form s 1 skip (a_mark b ∷ us) us (λ u. Unit {0})
  unfolding laid ahead spelt
  skips_mark b us e = one skip (a_mark b) us (λ u. Unit {0}) (λ q. tt) (λ l q f. rw e) (λ q d. tt)

  pub skips_word : (w : List ℕ) (us : List Piece) → Reads form s 1 skip (a_word w ∷ us) us (λ u. Unit {0})
  unfolding laid ahead spelt
  skips_word w us = one skip (a_word w) us (λ u. Unit {0}) (λ q. tt) (λ l q f. refl) (λ q d. tt)

  -- a mark that does not stand next
  pub eats_none : (b : ℕ) (us : List Piece) → ((q : ℕ) → sees_byte b (laid form q us) ≡ false)
      → Reads form s 0 (eat_byte b) us us (λ c. c ≡ false)
  eats_none b us h = record {
    run = λ l q i d f.
        record {
          value = false;
          notes = l;
          place = q;
          is = rw (h q);
          kept = as_before;
          stands = d;
          fits = f;
          fewer = omega arith;
          post = refl;
        };
  }

  pub two-marks : (b c : ℕ) (us : List Piece) → eqb b 0 ≡ false → eqb c 0 ≡ false
      → Reads form s 1 (both_bytes b c) (a_pair b c ∷ us) us (λ u. Unit {0})
  unfolding laid ahead spelt
  two-marks b c us e f =
      one
      (both_bytes b c)
      (a_pair b c)
      us
      (λ u. Unit {0})
      (λ q. tt)
      (λ l q g. rw (eq-eqb b b refl, e, eq-eqb c c refl, eq-eqb (suc q) (suc q) refl, e, f))
      (λ q d. tt)

  -- what is needed is there
  pub needs : {A : Type 0} {ps : List Piece} (r : Refusal) (o : Option A) (a : A)
      → o ≡ some a → Reads form s 0 (need r o) ps ps (λ x. x ≡ a)
  needs r o a e = rw e (gives refl)

  -- ---- names and strings

  -- a name that the tree has
  pub a_name_lem : (w : List ℕ) (us : List Piece) → Reads form s 1 word (a_name w ∷ us) us (λ x. (x.1 ≡ w) × (part s x.0 (length w) ≡ w))
  unfolding laid ahead spelt
  a_name_lem w us =
      one word (a_name w) us (λ x. (x.1 ≡ w) × (part s x.0 (length w) ≡ w)) (λ q. (q, w)) (λ l q f. rw f.1)
      (λ q d. (refl, piece_bytes form s q (a_name w) us d))

  -- a name that is no curve's
  pub a_plain_lem : (w : List ℕ) (us : List Piece)
      → Reads form s 1 word (a_plain w ∷ us) us (λ x. (x.1 ≡ w) × (part s x.0 (length w) ≡ w) × (is_one_of curve_names w ≡ false))
  unfolding laid ahead spelt
  a_plain_lem w us = record {
    run = λ l q b d f.
        record {
          value = (q, w);
          notes = l;
          place = suc (q + length w);
          is = rw f.0.1;
          kept = as_before;
          stands = next_stands form s q (a_plain w) us d;
          fits = f.1;
          fewer = omega arith;
          post = (refl, piece_bytes form s q (a_plain w) us d, f.0.2);
        };
  }

  -- a word of the grammar
  pub a_word_lem : (w : List ℕ) (us : List Piece) → is_keyword w ≡ false → Reads form s 1 word (a_word w ∷ us) us (λ x. x.1 ≡ w)
  unfolding laid ahead spelt
  a_word_lem w us e = one word (a_word w) us (λ x. x.1 ≡ w) (λ q. (q, w)) (λ l q f. rw e) (λ q d. refl)

  pub a_text : (w : List ℕ) (us : List Piece)
      → Reads form s 1 text (a_string w ∷ us) us (λ x. (x.1 ≡ length w) × (part s x.0 x.1 ≡ w))
  unfolding laid ahead spelt joined spaced
  a_text w us =
      one text (a_string w) us (λ x. (x.1 ≡ length w) × (part s x.0 x.1 ≡ w)) (λ q. (suc q, length w)) (λ l q f. refl)
      (λ q d. (refl, inner q d))
    where
      inner : (q : ℕ) → drop q s ≡ joined form (a_string w ∷ us) → part s (suc q) (length w) ≡ w
      inner q d =
          let e : suc q ≡ q + 1 = omega arith in
          let a : drop (q + 1) s ≡ drop 1 (drop q s) = sym (drop-drop 1 q s) in
          let b : drop 1 (drop q s) ≡ w ++ (34 ∷ [] ++ spaced form us) = rw d (append_assoc w (34 ∷ []) (spaced form us)) in
          rw (e, a, b) (take-append_seam w (34 ∷ [] ++ spaced form us))

  -- ---- numbers

  -- no sign stands before it
  pub a_number_lem : (k : Sort) (m : ℕ) (r : Refusal) (us : List Piece)
      → Reads form s 1 (signed sees_number r) (a_numeral k m ∷ us) us
      (λ x. (x.0 ≡ false) × (x.1 ≡ written (form k m)) × Means k m (written (form k m)))
  unfolding laid ahead spelt
  a_number_lem k m r us = record {
    run = λ l q b d f.
        record {
          value = (false, written (form k m));
          notes = l;
          place = suc (q + length (spelt form (a_numeral k m)));
          is = refl;
          kept = as_before;
          stands = next_stands form s q (a_numeral k m) us d;
          fits = f.1;
          fewer = omega arith;
          post = (refl, refl, f.0.1);
        };
  }

  pub a_minus : (k : Sort) (m : ℕ) (r : Refusal) (us : List Piece)
      → Reads form s 1 (signed sees_number r) (a_mark 45 ∷ a_numeral k m ∷ us) us
      (λ x. (x.0 ≡ true) × (x.1 ≡ written (form k m)) × Means k m (written (form k m)))
  unfolding laid ahead spelt
  a_minus k m r us = record {
    run = λ l q b d f.
        record {
          value = (true, written (form k m));
          notes = l;
          place = suc (suc (q + 1) + length (spelt form (a_numeral k m)));
          is = refl;
          kept = as_before;
          stands = next_stands form s (suc (q + 1)) (a_numeral k m) us (next_stands form s q (a_mark 45) (a_numeral k m ∷ us) d);
          fits = f.1.1;
          fewer = omega arith;
          post = (refl, refl, f.1.0.1);
        };
  }

  pub a_whole : (m : ℕ) (r : Refusal) (us : List Piece)
      → Reads form s 1 (signed sees_whole r) (a_numeral counted m ∷ us) us
      (λ x. (x.0 ≡ false) × (x.1 ≡ written (form counted m)) × Means counted m (written (form counted m)))
  unfolding laid ahead spelt
  a_whole m r us = record {
    run = λ l q b d f.
        record {
          value = (false, written (form counted m));
          notes = l;
          place = suc (q + length (spelt form (a_numeral counted m)));
          is = rw f.0.1.0;
          kept = as_before;
          stands = next_stands form s q (a_numeral counted m) us d;
          fits = f.1;
          fewer = omega arith;
          post = (refl, refl, f.0.1);
        };
  }

  -- ---- groups

  -- a rule that comes to the group's closer c
  pub leaves : (c : ℕ) (us : List Piece) → eqb c 0 ≡ false → Reads form s 1 (leave c) (a_mark c ∷ us) us (λ u. Unit {0})
  unfolding laid ahead spelt
  leaves c us f = one (leave c) (a_mark c) us (λ u. Unit {0}) (λ q. tt) (λ l q g. rw (eq-eqb c c refl, f)) (λ q d. tt)

  pub in_group : {A : Type 0} {d : ℕ} {p : Rule A} {ps us : List Piece} {Q : A → Type 0} (b c : ℕ)
      → eqb b 0 ≡ false → c ≡ closer b → eqb c 0 ≡ false
      → Reads form s d p ps (a_mark c ∷ us) Q
      → Reads form s 1 (inside_byte b p) (a_mark b ∷ ps) us Q
  in_group {ps = ps} {us = us} b c e f g x =
      and (the-mark b ps e)
      (then x (λ a r. and (subst (λ (e : ℕ). Reads form s 1 (leave e) (a_mark c ∷ us) us (λ u. Unit {0})) f (leaves c us g)) (gives r)))

  -- ---- repetition

  pub loops : {A : Type 0} {step : A → Rule (Next A)} {a : A} {ps us : List Piece} {Q : A → Type 0}
      → Loops form s step a ps us Q → Reads form s 0 (repeat step a) ps us Q
  loops x = record { run = λ l q b d f. (x.run l.bound b).run l q b d f }

  -- at least one piece fewer, where e is 1
  fewer_left : {A : Type 0} {e n : ℕ} {l : Notes} {us : List Piece} {Q : A → Type 0} {o : Out A}
      → Taken form s e n l us Q o → Taken form s 0 n l us Q o
  fewer_left y = record {
    value = y.value;
    notes = y.notes;
    place = y.place;
    is = y.is;
    kept = y.kept;
    stands = y.stands;
    fits = y.fits;
    fewer = omega (arith, y.fewer);
    post = y.post;
  }

  pub less : {A : Type 0} {e : ℕ} {p : Rule A} {ps us : List Piece} {Q : A → Type 0} → Reads form s e p ps us Q → Reads form s 0 p ps us Q
  less x = record { run = λ l q b g h. fewer_left (x.run l q b g h) }

  -- one step, and those after it, for which it leaves k pieces or fewer
  first_step : {A : Type 0} (e d : ℕ) (step : A → Rule (Next A)) (k : ℕ) (a : A) (ps us vs : List Piece) (R : Next A → Type 0)
      (Q : A → Type 0)
      → Reads form s e (step a) ps us R
      → ((n : Next A) → R n → e + length us ≤ length ps → Reads form s d (following (λ b. iterate step k b) n) us vs Q)
      → Reads form s 0 (iterate step (suc k) a) ps vs Q
  unfolding iterate
  first_step e d step k a ps us vs R Q x f = record {
    run = λ l q b g h.
        let y = x.run l q b g h in
        fewer_left
        (goes_on e d (length ps) l us vs (following (λ b. iterate step k b)) R Q (λ n r. f n r y.fewer) b (step a l (laid form q ps)) y);
  }

  -- the last step
  pub ends_at : {A : Type 0} {e : ℕ} {step : A → Rule (Next A)} {a : A} {ps us : List Piece} {Q : A → Type 0}
      → Reads form s e (step a) ps us (IsDone Q) → Loops form s step a ps us Q
  ends_at {A = A} {e = e} {step = step} {a = a} {ps = ps} {us = us} {Q = Q} x = record { run = λ k h. go k h }
    where
      last : (k : ℕ) (n : Next A) → IsDone Q n → Reads form s 0 (following (λ b. iterate step k b) n) us us Q
      last k (more b) r = absurd r
      last k (done b) r = gives r

      go : (k : ℕ) → length ps < k → Reads form s 0 (iterate step k a) ps us Q
      go zero h = absurd (omega arith)
      go (suc k) h = first_step e 0 step k a ps us us (IsDone Q) Q x (λ n r i. last k n r)

  -- a step before others
  pub again : {A : Type 0} {step : A → Rule (Next A)} {a : A} {ps us vs : List Piece} {R Q : A → Type 0}
      → Reads form s 1 (step a) ps us (IsMore R) → ((b : A) → R b → Loops form s step b us vs Q)
      → Loops form s step a ps vs Q
  again {A = A} {step = step} {a = a} {ps = ps} {us = us} {vs = vs} {R = R} {Q = Q} x f = record { run = λ k h. go k h }
    where
      on : (k : ℕ) → length us < k → (n : Next A) → IsMore R n → Reads form s 0 (following (λ b. iterate step k b) n) us vs Q
      on k h (more b) r = (f b r).run k h
      on k h (done b) r = absurd r

      go : (k : ℕ) → length ps < k → Reads form s 0 (iterate step k a) ps vs Q
      go zero h = absurd (omega arith)
      go (suc k) h = first_step 1 0 step k a ps us vs (IsMore R) Q x (λ n r i. on k (omega arith) n r)

  pub weaken_loops : {A : Type 0} {step : A → Rule (Next A)} {a : A} {ps us : List Piece} {R Q : A → Type 0}
      → Loops form s step a ps us R → ((b : A) → R b → Q b)
      → Loops form s step a ps us Q
  weaken_loops x f = record { run = λ k h. weaken (x.run k h) f }
