-- The first foreign byte, and the first refusal.
use Prim.Native.Nat.{ℕ, suc, ◌+◌, ◌≤◌, ◌<◌}
use mathlib.Core.Bool.{Bool, true, false, ◌||◌, not, cond}
use mathlib.Core.List.{List, [], ◌∷◌}
use mathlib.Core.Option.{Option, none, some}
use mathlib.Core.Path.{◌≡◌, refl, sym, ◌∙◌, ap}
use native.Mathlib.Numerals.{add-one, one-add}
use native.Mathlib.Omega.{arith}
use lib.Dec.{ltb}
use lib.ListN.{length, drop, get_or, drop_of_length-le}
use lib.Seq.{drop-cons}
use borrow.Author.Tests.{lt-ltb, le-ltb, ltb-true, ltb-false}
use native.Mathlib.Nat.{add-zero, zero-add}
use Rattle.std.specs.Prelude.{Some, None}
use Rattle.std.specs.List.{position_or_len}
use Rattle.text.specs.Means.{place_of}
use Rattle.text.specs.Limits.{text_limit}
use Rattle.text.specs.Bytes.{is_foreign}
use Rattle.text.specs.Words.{is_some}
use Rattle.error.specs.declared.Refusal.{Refusal}
use Rattle.error.specs.declared.Refusal.TheVariants.{TextTooLong, NotASheet}
use Rattle.sheet.specs.Sheet.{Forest, decode}
use Rattle.sheet.specs.Opening.{foreign_from, Opened, opened, shut, decoded, unless_foreign, opening}
use Rattle.sheet_refusals.specs.Means.{answer_of, earlier, foreign_answer, text_answer, bytes_answer}
use Rattle.sheet_refusals.specs.declared.Opening.{Opening}
use Rattle.sheet_refusals.specs.declared.Opening.TheVariants.{Open, Shut}

-- ---- the first foreign byte

module _ (t : List ℕ) (i : ℕ) where
  next : i < length t → {b : Bool} → is_foreign (get_or t i 0) ≡ b
      → foreign_from i (drop i t) ≡ elim b [ true ↦ some i | false ↦ foreign_from (suc i) (drop (suc i) t) ]
  unfolding foreign_from
  next h e =
      ap (foreign_from i) (drop-cons t i 0 h)
      ∙ ap {B = Option ℕ} (λ (b : Bool). elim b [ true ↦ some i | false ↦ foreign_from (suc i) (drop (suc i) t) ]) e

  pub foreign_here : i < length t → is_foreign (get_or t i 0) ≡ true → foreign_from i (drop i t) ≡ some i
  foreign_here h e = next h e

  pub foreign_later : i < length t → is_foreign (get_or t i 0) ≡ false → foreign_from i (drop i t) ≡ foreign_from (i + 1) (drop (i + 1) t)
  foreign_later h e = next h e ∙ rw add-one

  pub foreign_none : length t ≤ i → foreign_from i (drop i t) ≡ none
  unfolding foreign_from
  foreign_none h = rw (drop_of_length-le t {i = i} h)

both_more : (p n : ℕ) → ltb (suc p) (suc n) ≡ ltb p n
both_more p n = go (ltb p n) refl
  where
    go : (x : Bool) → ltb p n ≡ x → ltb (suc p) (suc n) ≡ x
    go true e = lt-ltb (suc p) (suc n) (omega (arith, ltb-true p n e))
    go false e = le-ltb (suc p) (suc n) (omega (arith, ltb-false p n e))

-- where the first one is, as `position` gives it
position : (t : List ℕ) (i : ℕ)
    → cond (ltb (position_or_len is_foreign t) (length t)) (some (i + position_or_len is_foreign t)) none ≡ foreign_from i t
unfolding foreign_from
position [] i = refl
position (b ∷ t) i = go (is_foreign b) (position t (suc i))
  where
    go : (x : Bool)
        → cond (ltb (position_or_len is_foreign t) (length t)) (some (suc i + position_or_len is_foreign t)) none ≡ foreign_from (suc i) t
        → cond (ltb (cond (not x) (1 + position_or_len is_foreign t) 0) (suc (length t))) (some (i + cond (not x) (1 + position_or_len is_foreign t) 0)) none
        ≡ elim x [ true ↦ some i | false ↦ foreign_from (suc i) t ]
    go true e = rw (add-zero i, lt-ltb 0 (suc (length t)) (omega arith))
    go false e =
        let q : i + (1 + position_or_len is_foreign t) ≡ suc i + position_or_len is_foreign t = omega arith in
        rw (q, one-add, both_more (position_or_len is_foreign t) (length t)) e

pub first-foreign : (t : List ℕ)
    → place_of (cond (ltb (position_or_len is_foreign t) (length t)) (Some (position_or_len is_foreign t)) None) ≡ foreign_from 0 t
first-foreign t = go (ltb (position_or_len is_foreign t) (length t)) ∙ position t 0
  where
    go : (x : Bool) → place_of (cond x (Some (position_or_len is_foreign t)) None) ≡ cond x (some (0 + position_or_len is_foreign t)) none
    go true = rw zero-add
    go false = refl

-- ---- whether there is one

or_assoc : (a b c : Bool) → ((a || b) || c) ≡ (a || (b || c))
or_assoc true b c = refl
or_assoc false b c = refl

module _ (t : List ℕ) (i : ℕ) (any : Bool) where
  -- it is among those before i, or from there on
  abbrev pub Asked : Type 0
  Asked = (any || is_some (foreign_from i (drop i t))) ≡ is_some (foreign_from 0 t)

  pub asked_next : i < length t → {b : Bool} → b ≡ is_foreign (get_or t i 0) → Asked
      → ((any || b) || is_some (foreign_from (i + 1) (drop (i + 1) t))) ≡ is_some (foreign_from 0 t)
  asked_next h {b} e g = or_assoc any b _ ∙ ap (λ (x : Bool). any || x) (go b (sym e)) ∙ g
    where
      go : (b : Bool) → is_foreign (get_or t i 0) ≡ b
          → (b || is_some (foreign_from (i + 1) (drop (i + 1) t))) ≡ is_some (foreign_from i (drop i t))
      go true q = sym (ap is_some (foreign_here t i h q))
      go false q = sym (ap is_some (foreign_later t i h q))

  pub asked_all : length t ≤ i → Asked → any ≡ is_some (foreign_from 0 t)
  asked_all h g = sym (or_false any) ∙ ap (λ (o : Option ℕ). any || is_some o) (sym (foreign_none t i h)) ∙ g
    where
      or_false : (a : Bool) → (a || false) ≡ a
      or_false true = refl
      or_false false = refl

pub not_there : (o : Option ℕ) → false ≡ is_some o → none ≡ o
not_there none e = refl
not_there (some i) e = let z : ◌≡◌ {A = ℕ} 0 1 = cc in absurd (omega arith)

-- ---- the text's refusal

module _ (t : List ℕ) where
  pub too_long : text_limit < length t → Shut TextTooLong 0 ≡ text_answer t
  unfolding text_answer
  too_long h = rw (lt-ltb text_limit (length t) h)

  pub not-long : length t ≤ text_limit → {f : Option ℕ} → f ≡ foreign_from 0 t → foreign_answer f ≡ text_answer t
  unfolding text_answer
  not-long h e = rw (le-ltb text_limit (length t) h, ← e)

-- ---- the bytes' refusal

pub sheet_or_not : (n : ℕ) (s : List ℕ) {b : Bool} → b ≡ is_some (decode n s) → cond b Open (Shut NotASheet 0) ≡ bytes_answer n s
unfolding bytes_answer
sheet_or_not n s e = go (decode n s) e
  where
    go : (o : Option Forest) {b : Bool} → b ≡ is_some o → cond b Open (Shut NotASheet 0) ≡ answer_of (decoded o)
    go none e = rw e
    go (some ns) e = rw e

-- ---- the first of the refusals

-- 1 and 2, then whatever comes behind them
pub text-first : (t : List ℕ) (o : Opened)
    → earlier (text_answer t) (answer_of o)
    ≡ answer_of (cond (ltb text_limit (length t)) (shut TextTooLong 0) (unless_foreign (foreign_from 0 t) o))
unfolding text_answer
text-first t o = go (ltb text_limit (length t)) (foreign_from 0 t)
  where
    go : (b : Bool) (f : Option ℕ)
        → earlier (cond b (Shut TextTooLong 0) (foreign_answer f)) (answer_of o) ≡ answer_of (cond b (shut TextTooLong 0) (unless_foreign f o))
    go true f = refl
    go false none = refl
    go false (some i) = refl

pub first_shut : (t s : List ℕ) {a b : Opening} → a ≡ text_answer t → b ≡ bytes_answer (length t) s → earlier a b ≡ answer_of (opening t s)
unfolding opening bytes_answer
first_shut t s e g = rw (e, g) (text-first t (decoded (decode (length t) s)))

-- a refusal of the text stands before all others
pub stays_shut : (a b : Opening) → (a ≡ Open → ⊥) → a ≡ earlier a b
stays_shut Open b n = absurd (n refl)
stays_shut (Shut r p) b n = refl

-- behind an open text it is the bytes'
pub text_open : (t s : List ℕ) → Open ≡ text_answer t → opening t s ≡ decoded (decode (length t) s)
unfolding opening text_answer
text_open t s e = go (ltb text_limit (length t)) (foreign_from 0 t) (decoded (decode (length t) s)) e
  where
    go : (b : Bool) (f : Option ℕ) (o : Opened) → Open ≡ cond b (Shut TextTooLong 0) (foreign_answer f)
        → cond b (shut TextTooLong 0) (unless_foreign f o) ≡ o
    go true f o e = let z : ◌≡◌ {A = ℕ} 0 1 = cc in absurd (omega arith)
    go false none o e = refl
    go false (some i) o e = let z : ◌≡◌ {A = ℕ} 0 1 = cc in absurd (omega arith)

-- ---- what an answer tells

pub record Tree (t s : List ℕ) : Type 0 where
  pub nodes : Forest
  pub opens : opening t s ≡ opened nodes
  pub decodes : decode (length t) s ≡ some nodes

-- an open sheet has a tree
pub the_tree : (t s : List ℕ) → Open ≡ answer_of (opening t s) → Tree t s
unfolding opening
the_tree t s e = long (ltb text_limit (length t)) refl e
  where
    tree : (f : Option ℕ) → foreign_from 0 t ≡ f → (d : Option Forest)
        → decode (length t) s ≡ d → ltb text_limit (length t) ≡ false
        → Open ≡ answer_of (unless_foreign f (decoded d)) → Tree t s
    tree (some i) p d q l e = let z : ◌≡◌ {A = ℕ} 0 1 = cc in absurd (omega arith)
    tree none p none q l e = let z : ◌≡◌ {A = ℕ} 0 1 = cc in absurd (omega arith)
    tree none p (some ns) q l e = record { nodes = ns; opens = rw (l, p, q); decodes = q }

    long : (b : Bool) → ltb text_limit (length t) ≡ b
        → Open ≡ answer_of (cond b (shut TextTooLong 0) (unless_foreign (foreign_from 0 t) (decoded (decode (length t) s))))
        → Tree t s
    long true p e = let z : ◌≡◌ {A = ℕ} 0 1 = cc in absurd (omega arith)
    long false p e = tree (foreign_from 0 t) refl (decode (length t) s) refl p e

-- a shut one has its refusal
pub the-refusal : (o : Opened) {r : Refusal} {p : ℕ} → Shut r p ≡ answer_of o → o ≡ shut r p
the-refusal (opened ns) e = let z : ◌≡◌ {A = ℕ} 0 1 = cc in absurd (omega arith)
the-refusal (shut r p) e = cc
