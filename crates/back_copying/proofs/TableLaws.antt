-- The words of a table, and those of a row of names.
use Prim.Native.Nat.{ℕ, zero, suc, ◌+◌, ◌≤◌, ◌<◌}
use Prim.Native.String.{String}
use mathlib.Core.Bool.{true}
use mathlib.Core.List.{List, [], ◌∷◌}
use mathlib.Core.Logic.{⊎_elim}
use mathlib.Core.Path.{◌≡◌, refl, sym, ap, ◌∙◌}
use denote.Bor.{Bor}
use native.Mathlib.Numerals.{add-one}
use native.Mathlib.Omega.{arith}
use lib.ListN.{length, length-drop, take, drop, get_or, drop_of_length-le}
use lib.Seq.{drop-cons, drop-drop}
use Rattle.text.specs.Bytes.{part}
use Rattle.text.specs.Words.{words, entries, table}
use Rattle.sheet_decode.proofs.ReadLaws.{le_or_lt}
use Rattle.digits.proofs.NumeralLaws.{both}
use Rattle.pieces.specs.Pieces.{Piece, a_word, word_like}
use Rattle.fresh.specs.Fresh.{word_at, choose}
use Rattle.back_copying.specs.WordMeans.{texts, all_words}

-- ---- the words of a table, one after the other

entries-behind : (b : ℕ) (t : List ℕ) → entries b t ≡ entries 0 (drop b t)
unfolding entries
entries-behind zero t = refl
entries-behind (suc b) [] = refl
entries-behind (suc b) (x ∷ t) = entries-behind b t

-- the words from the place `at` on are those from the position k on
pub record From (names : List ℕ) (at k : ℕ) : Type 0 where
  pub is : entries 0 (drop at names) ≡ drop k (table names)

pub from_start : (names : List ℕ) → From names 0 0
from_start names = record { is = refl }

abbrev first : List (List ℕ) → List ℕ
first [] = []
first (w ∷ ws) = w

abbrev others : List (List ℕ) → List (List ℕ)
others [] = []
others (w ∷ ws) = ws

pub record Here (names : List ℕ) (at k : ℕ) : Type 0 where
  pub low : at < length names
  pub word : part names (at + 1) (get_or names at 0) ≡ get_or (table names) k []
  pub next : From names (at + 1 + get_or names at 0) (k + 1)

pub here : (names : List ℕ) (at k : ℕ) → From names at k → k < length (table names) → Here names at k
unfolding entries
here names at k f l = ⊎_elim no yes (le_or_lt (length names) at)
  where
    ws : List (List ℕ)
    ws = table names

    no : length names ≤ at → Here names at k
    no h =
        let e : [] ≡ drop k ws = rw (drop_of_length-le names {i = at} h) at f.is in
        let n : 0 ≡ length (drop k ws) = ap length e in
        absurd (omega (arith, length-drop k ws))

    yes : at < length names → Here names at k
    yes h =
        let b = get_or names at 0 in
        let t = drop (suc at) names in
        let e : take b t ∷ entries b t ≡ get_or ws k [] ∷ drop (suc k) ws = rw (drop-cons names at 0 h, drop-cons ws k [] l) at f.is in
        let a : at + 1 ≡ suc at = add-one at in
        record {
          low = h;
          word = rw a (ap first e);
          next = record {
            is = rw (a, add-one k)
                (ap (λ (x : List ℕ). entries 0 x) (sym (drop-drop b (suc at) names)) ∙ sym (entries-behind b t) ∙ ap others e);
          };
        }

-- ---- the names in a row

-- their number, and each as it is read
pub length-texts : (names : List (Bor (List ℕ))) → length (texts names) ≡ length names
length-texts [] = refl
length-texts (n ∷ ns) = ap suc (length-texts ns)

pub text_at : (names : List (Bor (List ℕ))) (k : ℕ) (d : Bor (List ℕ)) → k < length names
    → (get_or names k d).now ≡ get_or (texts names) k []
text_at [] k d l = absurd (omega arith)
text_at (n ∷ ns) zero d l = refl
text_at (n ∷ ns) (suc k) d l = text_at ns k d (omega arith)

-- ---- each is a word of the grammar

pub word-at : (ws : List (List ℕ)) (k : ℕ) → all_words ws ≡ true → k < length ws → word_like (get_or ws k []) ≡ true
unfolding all_words
word-at [] k h l = absurd (omega arith)
word-at (w ∷ ws) zero h l = (both (word_like w) (all_words ws) h).0
word-at (w ∷ ws) (suc k) h l = word-at ws k (both (word_like w) (all_words ws) h).1 (omega arith)

pub choice_is : (ns : List String) (k : ℕ) → k < length (words ns) → word_at ns k ≡ a_word (get_or (words ns) k [])
unfolding word_at
choice_is [] k h = absurd (omega arith)
choice_is (n ∷ ns) zero h = refl
choice_is (n ∷ ns) (suc k) h = choice_is ns k (omega arith)

-- the word that is chosen
pub chosen_word : (ns : List String) (names : List (List ℕ)) (k : ℕ) {w : List ℕ} → words ns ≡ names → k < length names
    → w ≡ get_or names k [] → (ps : List Piece) → choose ns k ps ≡ a_word w ∷ ps
unfolding choose
chosen_word ns names k e l h ps =
    let n : k < length (words ns) = rw e l in
    ap (λ (x : Piece). x ∷ ps) (choice_is ns k n ∙ ap (λ (ws : List (List ℕ)). a_word (get_or ws k [])) e ∙ ap a_word (sym h))
