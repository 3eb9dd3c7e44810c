-- The bytes of a script on a page, and what is answered of it.
use Prim.Native.Nat.{ℕ, zero, suc, ◌+◌, ◌-◌, ◌≤◌, ◌<◌}
use mathlib.Core.Bool.{Bool, true, false, ◌&&◌, cond, true≢false}
use mathlib.Core.List.{List, [], ◌∷◌, ◌++◌, append-nil, append_assoc}
use mathlib.Core.Logic.{◌⊎◌, inl, inr, ⊎_elim}
use mathlib.Core.Option.{some}
use mathlib.Core.Path.{◌≡◌, refl, sym, ◌∙◌, ap}
use native.Mathlib.Nat.{zero-add, sub-zero}
use native.Mathlib.Omega.{arith}
use base.Fml.{GName}
use lib.Dec.{leb}
use lib.ListN.{length, length-append, set, take, drop, replicate}
use lib.Seq.{sets, length-sets, sets-eq, take_at}
use borrow.Author.Tests.{lt-ltb, le-ltb, le-leb, lt-leb, leb-false}
use Rattle.text.specs.Limits.{text_limit}
use Rattle.text.proofs.WriteLaws.{sets_append}
use Rattle.digits.specs.Fewest.{form}
use Rattle.digits.proofs.NumeralLaws.{both}
use Rattle.pieces.specs.Pieces.{Piece, spelt, spaced, joined, fits, all_fit}
use Rattle.fresh.specs.Meaning.{Sense}
use Rattle.fresh.specs.Fresh.{pieces}
use Rattle.back_spelling.specs.Means.{Lent, Page, spoiled, full, page, lent, spoil, most, put_on, put, run, on_page}
use Rattle.back_spelling.proofs.PageLaws.{lent_of_page, lent-run, put_both}
use Rattle.back_copying.specs.Means.{Written}
use Rattle.error.specs.declared.Refusal.TheVariants.{Unwritable, ScriptTooLong}
use Rattle.error.specs.declared.CheckAnswer.TheVariants as check
use Rattle.error.specs.declared.LineAnswer.{LineAnswer}
use Rattle.error.specs.declared.LineAnswer.TheVariants.{Accepted}
use Rattle.sheet.specs.Opening.{Opened, opened, shut}
use Rattle.sheet_refusals.specs.Means.{answer_of}
use Rattle.sheet_refusals.specs.declared.Opening.TheVariants.{Open}
use Rattle.sheet_refusals.proofs.OpenLaws.{Tree}
use Rattle.sheet.specs.Sheet.{Forest, decode}
use Rattle.codec.specs.Codec.{big}
use Rattle.sheet_decode.specs.Means.{Reads, same}
use Rattle.error.specs.declared.Refusal.{Refusal}
use Rattle.checking.specs.Checking.{verdict, opening_under, checking}
use Rattle.validate.proofs.CheckLaws.{its_tree}
use Rattle.sheet_nodes.proofs.StandLaws.{head}
use Rattle.writing.specs.Back.{refusal, written, sense_of, writing}
use Rattle.back_nodes.specs.Means.{NodesPut}

-- ---- the bytes of pieces, each with a blank behind it

abbrev ended : List Piece → List ℕ
ended ps = drop 1 (spaced form ps ++ 32 ∷ [])

blank-first : (ps : List Piece) → 32 ∷ ended ps ≡ spaced form ps ++ 32 ∷ []
unfolding spaced
blank-first [] = refl
blank-first (x ∷ xs) = refl

ended-next : (x : Piece) (xs : List Piece) → (spelt form x ++ 32 ∷ []) ++ ended xs ≡ ended (x ∷ xs)
unfolding spaced
ended-next x xs =
    append_assoc (spelt form x) (32 ∷ []) (ended xs)
    ∙ ap (λ (l : List ℕ). spelt form x ++ l) (blank-first xs)
    ∙ sym (append_assoc (spelt form x) (spaced form xs) (32 ∷ []))

-- no pieces; or the script and a blank
shape : (ps : List Piece) → ((ended ps ≡ []) × (joined form ps ≡ [])) ⊎ (ended ps ≡ joined form ps ++ 32 ∷ [])
unfolding spaced joined
shape [] = inl (refl, refl)
shape (x ∷ xs) = inr refl

-- ---- all pieces on a page

put_fit : (x : Piece) (p : Page) → fits form x ≡ true → put x p ≡ put_on (spelt form x ++ 32 ∷ []) p
unfolding put
put_fit x p h = rw h

put_unfit : (x : Piece) (p : Page) → fits form x ≡ false → put x p ≡ spoil p
unfolding put
put_unfit x p h = rw h

put_spoiled : (x : Piece) (n : Lent) → put x (spoiled n) ≡ spoiled n
unfolding put put_on
put_spoiled x n = go (fits form x)
  where
    go : (b : Bool) → cond b (spoiled n) (spoiled n) ≡ spoiled n
    go true = refl
    go false = refl

run_spoiled : (ps : List Piece) (n : Lent) → run ps (spoiled n) ≡ spoiled n
unfolding run
run_spoiled [] n = refl
run_spoiled (x ∷ xs) n = ap (run xs) (put_spoiled x n) ∙ run_spoiled xs n

run_fit : (ps : List Piece) (p : Page) → put_on [] p ≡ p → all_fit form ps ≡ true → run ps p ≡ put_on (ended ps) p
unfolding run all_fit spaced
run_fit [] p h e = sym h
run_fit (x ∷ xs) p h e =
    let b = both (fits form x) (all_fit form xs) e in
    let c : List ℕ = spelt form x ++ 32 ∷ [] in
    ap (run xs) (put_fit x p b.0)
    ∙ run_fit xs (put_on c p) (put_both c [] p ∙ ap (λ (l : List ℕ). put_on l p) (append-nil c)) b.1
    ∙ put_both c (ended xs) p
    ∙ ap (λ (l : List ℕ). put_on l p) (ended-next x xs)

-- ---- pages told apart

abbrev sort : Page → ℕ
sort (spoiled n) = 0
sort (full n) = 1
sort (page g o n) = 2

abbrev bytes_on : Page → List ℕ
bytes_on (spoiled n) = []
bytes_on (full n) = []
bytes_on (page g o n) = o

abbrev place : Page → ℕ
place (spoiled n) = 0
place (full n) = 0
place (page g o n) = n

run_unfit : (ps : List Piece) (p : Page) → all_fit form ps ≡ false → sort (run ps p) ≡ 0
unfolding run all_fit
run_unfit [] p e = absurd (true≢false e)
run_unfit (x ∷ xs) p e = go (fits form x) refl e (run_unfit xs (put x p))
  where
    go : (b : Bool) → fits form x ≡ b → (b && all_fit form xs) ≡ false → (all_fit form xs ≡ false → sort (run xs (put x p)) ≡ 0)
        → sort (run xs (put x p)) ≡ 0
    go true h q f = f q
    go false h q f = ap sort (ap (run xs) (put_unfit x p h) ∙ run_spoiled xs (lent p))

-- what a pen that fits has is not spoiled
sorted : (b : Bool) (g : GName) (o : List ℕ) (n : ℕ) (m : Lent) → 1 ≤ sort (cond b (page g o n) (full m))
sorted true g o n m = omega arith
sorted false g o n m = omega arith

-- bytes over the start, of which the last may lie past the end
take-set : (n : ℕ) (o : List ℕ) (b : ℕ) → take n (set o n b) ≡ take n o
take-set zero o b = refl
take-set (suc n) [] b = refl
take-set (suc n) (a ∷ o) b = ap (λ (r : List ℕ). a ∷ r) (take-set n o b)

first-bytes : (o u : List ℕ) → length u ≤ length o → take (length u) (sets o 0 (u ++ 32 ∷ [])) ≡ u
first-bytes o u h =
    let a : sets o 0 (u ++ 32 ∷ []) ≡ set (sets o 0 u) (length u) 32 = rw (sets_append o 0 u (32 ∷ []), zero-add) in
    let b : sets o 0 u ≡ u ++ drop (length u) o = sets-eq u o 0 (rw zero-add h) ∙ (rw zero-add) in
    rw (a, take-set (length u) (sets o 0 u) 32, b) (take_at u (drop (length u) o) (length u) refl)

put_page : (g : GName) (bs out : List ℕ) (n : ℕ)
    → put_on bs (page g out n) ≡ cond (leb (n + length bs) most) (page g (sets out n bs) (n + length bs)) (full (g, length out))
unfolding put_on
put_page g bs out n = refl

-- ---- what was written of the script of x: from the page `start` on a pen has come to out

module _ (start out : List ℕ) (g : GName) (at : ℕ) (fit : Bool) (x : Sense) (w : Written (pieces x) (page g start 0) (on_page g out at fit)) where
  abbrev ps : List Piece
  ps = pieces x []

  abbrev bs : List ℕ
  bs = ended ps

  came : run ps (page g start 0) ≡ on_page g out at fit
  unfolding run
  came = w.is []

  l : length start ≡ length out
  l = ap (λ (b : Lent). b.1) (sym (lent-run ps (page g start 0)) ∙ ap lent came ∙ lent_of_page g out at fit)

  -- the page with all of it
  abbrev ending : Page
  ending = cond (leb (0 + length bs) most) (page g (sets start 0 bs) (0 + length bs)) (full (g, length start))

  fit_came : all_fit form ps ≡ true → ending ≡ on_page g out at fit
  unfolding put_on
  fit_came e = sym (put_page g bs start 0) ∙ sym (run_fit ps (page g start 0) refl e) ∙ came

  -- 34
  pub unwritable : fit ≡ false → refusal Unwritable 0 out ≡ written start x
  unwritable h = go (all_fit form ps) refl
    where
      none_fits : all_fit form ps ≡ true → ⊥
      none_fits e =
          let k : sort ending ≡ 0 = ap sort (rw h at fit_came e) in
          let m = sorted (leb (0 + length bs) most) g (sets start 0 bs) (0 + length bs) (g, length start) in
          omega (arith, k, m)

      go : (b : Bool) → all_fit form ps ≡ b → refusal Unwritable 0 out ≡ written start x
      go true e = absurd (none_fits e)
      go false e = rw (e, l)

  module _ (f : fit ≡ true) where
    fitting : all_fit form ps ≡ true
    fitting = go (all_fit form ps) refl
      where
        go : (b : Bool) → all_fit form ps ≡ b → all_fit form ps ≡ true
        go true e = e
        go false e =
            let k : sort (cond (leb at most) (page g out at) (full (g, length out))) ≡ 0 =
            ap sort (sym (rw f at came)) ∙ run_unfit ps (page g start 0) e in
            let m = sorted (leb at most) g out at (g, length out) in
            absurd (omega (arith, k, m))

    both_pages : ending ≡ cond (leb at most) (page g out at) (full (g, length out))
    both_pages = rw f at fit_came fitting

    -- the page is full where the script is too long
    too_much : most < at → most < length bs
    too_much h = go (leb (0 + length bs) most) refl (rw (lt-leb at most h) at both_pages)
      where
        go : (b : Bool) → leb (0 + length bs) most ≡ b
            → cond b (page g (sets start 0 bs) (0 + length bs)) (full (g, length start)) ≡ full (g, length out) → most < length bs
        go true e q = absurd (let k : ◌≡◌ {A = ℕ} 2 1 = ap sort q in omega (arith, k))
        go false e q = omega (arith, leb-false (0 + length bs) most e)

    pub too_long : most < at → refusal ScriptTooLong 0 out ≡ written start x
    too_long h = ⊎_elim none_there there (shape ps)
      where
        none_there : (bs ≡ []) × (joined form ps ≡ []) → refusal ScriptTooLong 0 out ≡ written start x
        none_there e = absurd (omega (arith, too_much h, ap length e.0))

        there : bs ≡ joined form ps ++ 32 ∷ [] → refusal ScriptTooLong 0 out ≡ written start x
        there e =
            let n : text_limit < length (joined form ps) =
            omega (arith, too_much h, ap length e, length-append (joined form ps) (32 ∷ [])) in
            rw (fitting, lt-ltb text_limit (length (joined form ps)) n, l)

    -- else what is written are the script and a blank
    pub all_there : at ≤ most → (sets start 0 bs ≡ out) × (length bs ≡ at)
    all_there h = go (leb (0 + length bs) most) (rw (le-leb at most h) at both_pages)
      where
        go : (b : Bool)
            → cond b (page g (sets start 0 bs) (0 + length bs)) (full (g, length start)) ≡ page g out at
            → (sets start 0 bs ≡ out) × (length bs ≡ at)
        go true q = (ap bytes_on q, sym (zero-add (length bs)) ∙ ap place q)
        go false q = absurd (let k : ◌≡◌ {A = ℕ} 1 2 = ap sort q in omega (arith, k))

    pub nothing_there : at ≡ 0 → (Accepted 0, replicate (length out) 0) ≡ written start x
    nothing_there h = ⊎_elim none_there there (shape ps)
      where
        n : length bs ≡ 0
        n = (all_there (omega arith)).1 ∙ h

        none_there : (bs ≡ []) × (joined form ps ≡ []) → (Accepted 0, replicate (length out) 0) ≡ written start x
        none_there e = rw (fitting, e.1, le-ltb (length start) 0 (omega arith), sub-zero, l)

        there : bs ≡ joined form ps ++ 32 ∷ [] → (Accepted 0, replicate (length out) 0) ≡ written start x
        there e = absurd (omega (arith, n, ap length e, length-append (joined form ps) (32 ∷ [])))

    module _ (h : at ≤ most) (n : at ≡ 0 → ⊥) where
      -- the script, and its length
      told : (bs ≡ joined form ps ++ 32 ∷ []) × (at ≡ length (joined form ps) + 1)
      told = ⊎_elim none_there there (shape ps)
        where
          none_there : (bs ≡ []) × (joined form ps ≡ []) → (bs ≡ joined form ps ++ 32 ∷ []) × (at ≡ length (joined form ps) + 1)
          none_there e = absurd (n (sym (all_there h).1 ∙ ap length e.0))

          there : bs ≡ joined form ps ++ 32 ∷ [] → (bs ≡ joined form ps ++ 32 ∷ []) × (at ≡ length (joined form ps) + 1)
          there e = (e, omega (arith, (all_there h).1, ap length e, length-append (joined form ps) (32 ∷ [])))

      pub no_space : length out < at - 1 → refusal ScriptTooLong 0 out ≡ written start x
      no_space k =
          let u : List ℕ = joined form ps in
          let a : length u ≤ text_limit = omega (arith, told.1) in
          let b : length start < length u = omega (arith, told.1, l) in
          rw (fitting, le-ltb text_limit (length u) a, lt-ltb (length start) (length u) b, l)

      pub space : at - 1 ≤ length out
          → (Accepted (at - 1), take (at - 1) out ++ replicate (length out - (at - 1)) 0) ≡ written start x
      space k =
          let u : List ℕ = joined form ps in
          let n : at - 1 ≡ length u = omega (arith, told.1) in
          let a : length u ≤ text_limit = omega (arith, told.1) in
          let b : length u ≤ length start = omega (arith, n, l) in
          let o : sets start 0 (u ++ 32 ∷ []) ≡ out = rw told.0 at (all_there h).0 in
          rw (fitting, le-ltb text_limit (length u) a, le-ltb (length start) (length u) b, n, ← o, first-bytes start u b, length-sets)

-- ---- the operation

module _ (list : ℕ) (t s out : List ℕ) where
  pub shut_answer : {r : Refusal} {p : ℕ} → check.Refused r p ≡ checking list t s → refusal r p out ≡ writing list t s out
  unfolding writing
  shut_answer e = rw (← e)

  -- an accepted sheet is open, and has a tree
  is_open : (o : Opened) → check.Accepted ≡ verdict list t o → Open ≡ answer_of o
  is_open (opened ns) e = refl
  is_open (shut r p) e = let z : ◌≡◌ {A = ℕ} 0 1 = cc in absurd (omega arith)

  the_tree : check.Accepted ≡ checking list t s → Tree t s
  unfolding checking
  the_tree e = its_tree list t s (is_open (opening_under list t s) e)

  of_tree : {ns : Forest} → check.Accepted ≡ checking list t s → decode (length t) s ≡ some ns
      → written out (sense_of t ns) ≡ writing list t s out
  unfolding writing
  of_tree e d = rw (← e, d)

  pub open_answer : {c m next : ℕ} {b : GName} {q : Page} → check.Accepted ≡ checking list t s → Reads (big 2) same s 0 c m
      → NodesPut t s m c (page b out 0) q next
      → {r : LineAnswer} {after : List ℕ} → ((x : Sense) → Written (pieces x) (page b out 0) q → (r, after) ≡ written out x)
      → (r, after) ≡ writing list t s out
  open_answer e h g f =
      let o = the_tree e in
      f (sense_of t o.nodes) (g.is 16 o.nodes (head (length t) s o.nodes o.decodes h)).puts ∙ of_tree e o.decodes
