-- What a keyword begins, by its place in the list of nodes: the leaves stand first, the containers behind them.
use Prim.Native.Nat.{ℕ, suc, ◌+◌, ◌-◌, ◌≤◌, ◌<◌}
use mathlib.Core.Bool.{Bool, true, false}
use mathlib.Core.List.{List, [], ◌∷◌, ◌++◌}
use mathlib.Core.Logic.{◌⊎◌, inl, inr, ⊎_elim}
use mathlib.Core.Option.{Option, none, some, some-injective}
use mathlib.Core.Path.{◌≡◌, refl, sym, ap, ◌∙◌}
use native.Mathlib.Omega.{arith}
use lib.ListN.{length}
use Rattle.text.specs.Bytes.{same}
use Rattle.text.specs.Words.{find, under}
use Rattle.text.proofs.WordLaws.{find-here, find_past}
use Rattle.words.specs.ListMeans.{list_of}
use Rattle.token.specs.Names.{is_keyword}
use Rattle.read_cursor.specs.Means.{no_keywords}
use Rattle.grammar.specs.Grammar.{leaves, containers, unknown, beginning}
use Rattle.read_values.specs.Means.{names_of}
use Rattle.read_values.proofs.NameLaws.{none≢some, under_row, under_none}
use Rattle.read_blocks.specs.Means.{node_words, KeywordMeans}
use Rattle.read_blocks.specs.declared.Keyword.TheVariants as keyword
use Rattle.read_blocks.proofs.KindLaws.{place_low}

-- ---- a word in two lists, one behind the other

-- the same lookup, counted from another number
shift : (bs : List (List ℕ)) (k m i : ℕ) (w : List ℕ) → find bs k w ≡ some i → (d : ℕ) × (i ≡ k + d) × (find bs m w ≡ some (m + d))
unfolding find
shift [] k m i w e = none≢some e
shift (n ∷ ns) k m i w e = go (same w n) refl (λ q. shift ns (suc k) (suc m) i w q)
  where
    go : (b : Bool) → same w n ≡ b → (find ns (suc k) w ≡ some i → (d : ℕ) × (i ≡ suc k + d) × (find ns (suc m) w ≡ some (suc m + d)))
        → (d : ℕ) × (i ≡ k + d) × (find (n ∷ ns) m w ≡ some (m + d))
    go true q ih = (
      0,
      (let z = some-injective k i (sym (find-here w n ns k q) ∙ e) in omega arith),
      find-here w n ns m q ∙ ap {B = Option ℕ} some (let z : m ≡ m + 0 = omega arith in z),
    )
    go false q ih =
        let (d, p, f) = ih (sym (find_past w n ns k q) ∙ e) in
        (suc d, omega arith, find_past w n ns m q ∙ f ∙ ap {B = Option ℕ} some (let z : suc m + d ≡ m + suc d = omega arith in z))

shift_none : (bs : List (List ℕ)) (k m : ℕ) (w : List ℕ) → find bs k w ≡ none → find bs m w ≡ none
unfolding find
shift_none [] k m w e = refl
shift_none (n ∷ ns) k m w e = go (same w n) refl (λ q. shift_none ns (suc k) (suc m) w q)
  where
    go : (b : Bool) → same w n ≡ b → (find ns (suc k) w ≡ none → find ns (suc m) w ≡ none) → find (n ∷ ns) m w ≡ none
    go true q ih = none≢some (sym e ∙ find-here w n ns k q)
    go false q ih = find_past w n ns m q ∙ ih (sym (find_past w n ns k q) ∙ e)

in_front : (xs bs : List (List ℕ)) (k j : ℕ) (w : List ℕ) → find xs k w ≡ some j → find (xs ++ bs) k w ≡ some j
unfolding find
in_front [] bs k j w e = none≢some e
in_front (n ∷ xs) bs k j w e = go (same w n) refl (λ q. in_front xs bs (suc k) j w q)
  where
    go : (b : Bool) → same w n ≡ b → (find xs (suc k) w ≡ some j → find (xs ++ bs) (suc k) w ≡ some j) → find (n ∷ (xs ++ bs)) k w ≡ some j
    go true q ih = find-here w n (xs ++ bs) k q ∙ sym (find-here w n xs k q) ∙ e
    go false q ih = find_past w n (xs ++ bs) k q ∙ ih (sym (find_past w n xs k q) ∙ e)

behind : (xs bs : List (List ℕ)) (k : ℕ) (w : List ℕ) → find xs k w ≡ none → find (xs ++ bs) k w ≡ find bs (k + length xs) w
unfolding find
behind [] bs k w e = let z : k ≡ k + 0 = omega arith in ap (λ (x : ℕ). find bs x w) z
behind (n ∷ xs) bs k w e = go (same w n) refl (λ q. behind xs bs (suc k) w q)
  where
    go : (b : Bool) → same w n ≡ b → (find xs (suc k) w ≡ none → find (xs ++ bs) (suc k) w ≡ find bs (suc k + length xs) w)
        → find (n ∷ (xs ++ bs)) k w ≡ find bs (k + suc (length xs)) w
    go true q ih = none≢some (sym e ∙ find-here w n xs k q)
    go false q ih =
        let z : suc k + length xs ≡ k + suc (length xs) = omega arith in
        find_past w n (xs ++ bs) k q ∙ ih (sym (find_past w n xs k q) ∙ e) ∙ ap (λ (x : ℕ). find bs x w) z

-- ---- the list of nodes

split-words : node_words ≡ names_of leaves ++ names_of containers
unfolding leaves containers list_of
split-words = refl

leaf_count : length (names_of leaves) ≡ 11
unfolding leaves
leaf_count = refl

leaf_word : (w : List ℕ) (i : ℕ) → find (names_of leaves) 0 w ≡ some i → (i < 11) × KeywordMeans w (keyword.Leaf i)
unfolding beginning leaves
leaf_word w i e = let u = under_row leaves i w e in (place_low leaves i u.row u.is, (u.row, u.is, rw u.under))

module _ (w : List ℕ) (e : find (names_of leaves) 0 w ≡ none) where
  no_leaf : under leaves w ≡ none
  no_leaf = under_none leaves 0 w e

  container_word : (i : ℕ) → find (names_of containers) 0 w ≡ some i → KeywordMeans w (keyword.Container i)
  unfolding beginning
  container_word i f = let u = under_row containers i w f in (u.row, u.is, rw (no_leaf, u.under))

  unknown_word : find (names_of containers) 0 w ≡ none → beginning w ≡ unknown
  unfolding beginning
  unknown_word f = rw (no_leaf, under_none containers 0 w f)

  past-leaves : find node_words 0 w ≡ find (names_of containers) 11 w
  past-leaves =
      ap (λ (ns : List (List ℕ)). find ns 0 w) split-words ∙ behind (names_of leaves) (names_of containers) 0 w e
      ∙ ap (λ (x : ℕ). find (names_of containers) x w) (let z : 0 + length (names_of leaves) ≡ 11 = omega (arith, leaf_count) in z)

  container_at : (i : ℕ) → find node_words 0 w ≡ some i → (11 ≤ i) × KeywordMeans w (keyword.Container (i - 11))
  container_at i f =
      let (d, p, q) = shift (names_of containers) 11 0 i w (sym past-leaves ∙ f) in
      let z : 0 + d ≡ i - 11 = omega arith in
      (omega arith, container_word (i - 11) (q ∙ ap {B = Option ℕ} some z))

-- what the word at i begins
node_word : (w : List ℕ) (i : ℕ) → find node_words 0 w ≡ some i
    → ((i < 11) × KeywordMeans w (keyword.Leaf i)) ⊎ ((11 ≤ i) × KeywordMeans w (keyword.Container (i - 11)))
node_word w i f = go (find (names_of leaves) 0 w) refl
  where
    go : (o : Option ℕ) → find (names_of leaves) 0 w ≡ o
        → ((i < 11) × KeywordMeans w (keyword.Leaf i)) ⊎ ((11 ≤ i) × KeywordMeans w (keyword.Container (i - 11)))
    go none e = inr (container_at w e i f)
    go (some j) e =
        let q = in_front (names_of leaves) (names_of containers) 0 j w e in
        let z = some-injective j i (sym q ∙ sym (ap (λ (ns : List (List ℕ)). find ns 0 w) split-words) ∙ f) in
        inl (leaf_word w i (e ∙ ap {B = Option ℕ} some z))

-- a word that is none of them
pub no_node_word : (w : List ℕ) → find node_words 0 w ≡ none → beginning w ≡ unknown
no_node_word w f = go (find (names_of leaves) 0 w) refl
  where
    go : (o : Option ℕ) → find (names_of leaves) 0 w ≡ o → beginning w ≡ unknown
    go none e = unknown_word w e (shift_none (names_of containers) 11 0 w (sym (past-leaves w e) ∙ f))
    go (some j) e =
        let q = in_front (names_of leaves) (names_of containers) 0 j w e in
        none≢some (sym f ∙ ap (λ (ns : List (List ℕ)). find ns 0 w) split-words ∙ q)

module _ (w : List ℕ) (i : ℕ) (f : find node_words 0 w ≡ some i) where
  pub leaf_of : i < 11 → KeywordMeans w (keyword.Leaf i)
  leaf_of l = ⊎_elim (λ x. x.1) (λ y. absurd (omega (arith, y.0))) (node_word w i f)

  pub container_of : 11 ≤ i → KeywordMeans w (keyword.Container (i - 11))
  container_of l = ⊎_elim (λ x. absurd (omega (arith, x.0))) (λ y. y.1) (node_word w i f)

-- none of them is a keyword of Rust
pub nodes-free : no_keywords node_words ≡ true
unfolding list_of no_keywords is_keyword find same
nodes-free = refl
