-- Lists of items, words and rows.
use Prim.Native.Nat.{ℕ, suc, ◌+◌, ◌≤◌, ◌<◌}
use Prim.Native.String.{String}
use mathlib.Core.Bool.{Bool, true, false}
use mathlib.Core.List.{List, [], ◌∷◌}
use mathlib.Core.Option.{Option, none, some, some-injective}
use mathlib.Core.Path.{◌≡◌, refl, sym, subst}
use native.Mathlib.Omega.{arith}
use lib.ListN.{length}
use Rattle.text.specs.Bytes.{bytes, same}
use Rattle.text.specs.Words.{find, under, default}
use Rattle.text.proofs.WordLaws.{same_eq}
use Rattle.codec.proofs.Laws.{All}
use Rattle.error.specs.declared.Refusal.{Refusal}
use Rattle.grammar.specs.Rule.{Rule, give, ◌>>=◌, need, choice_in, go_on, ends, list, list_step}
use Rattle.law_rules.proofs.RunLaws.{Carry, carries, Runs, gives, then, weaken, tests, needs, Onto, repeats}
use Rattle.law_rules.proofs.TakeLaws.{a_word_lem, Eaten, eats}

pub none≢some : {A B : Type 0} {a : A} → Prim.Path (Option A) none (some a) → B
none≢some e = absurd (let z : ◌≡◌ {A = ℕ} 0 1 = cc in omega arith)

pub all_map : {A : Type 0} (P Q : A → Type 0) → ((a : A) → P a → Q a) → (xs : List A) → All P xs → All Q xs
all_map P Q f [] h = tt
all_map P Q f (x ∷ xs) h = (f x h.0, all_map P Q f xs h.1)

-- one fact and those that follow
infixr 3 ◌also◌
abbrev pub ◌also◌ : {X Y : Type 0} → X → Y → X × Y
x also y = (x, y)

-- ---- items with a `,` between them: I holds before an item, J behind one

module _ {A : Type 0} {s : List ℕ} (I J : A → ℕ → Type 0) (end : (a : A) (m : ℕ) → I a m → J a m)
    (comma : (a : A) (m n : ℕ) → m < n → Carry s m n → J a m → I a n) where
  on_comma : (b : A) (m : ℕ) → J b m → (c : Bool) (n : ℕ) → n ≤ length s → Eaten m c n × Carry s m n → Runs s (give (go_on c b)) n (Onto I J)
  on_comma b m j true n h e = gives h (comma b m n e.0 e.1 j)
  on_comma b m j false n h e = gives h (subst (J b) (sym e.0) j)

  pub lists : (item : A → Rule A) → ((a : A) (m : ℕ) → m ≤ length s → I a m → Runs s (item a) m J)
      → {a : A} {q : ℕ} → q ≤ length s → I a q → Runs s (list item a) q J
  lists item k h i =
      repeats I J end (list_step item)
      (λ a m g j. tests ends (λ e. gives g (end a m j))
      (λ e. then (k a m g j) (λ b n f x. then (carries (eats f 44 refl)) (λ c o z y. on_comma b n x c o z y))))
      h i

-- ---- a word among some

find-below : (ns : List (List ℕ)) (i k : ℕ) (w : List ℕ) → find ns i w ≡ some k → k < i + length ns
unfolding find
find-below [] i k w e = none≢some e
find-below (n ∷ ns) i k w e = go (same w n) e (λ f. find-below ns (suc i) k w f)
  where
    go : (b : Bool)
        → elim b [ true ↦ some i | false ↦ find ns (suc i) w ] ≡ some k
        → (find ns (suc i) w ≡ some k → k < suc i + length ns)
        → k < i + length (n ∷ ns)
    go true f ih = let z = some-injective i k f in omega arith
    go false f ih = let z = ih f in omega arith

-- its position, which is below their number
pub a_choice : {s : List ℕ} {q : ℕ} → q ≤ length s → (r : Refusal) (ns : List (List ℕ))
    → Runs s (choice_in r ns) q (λ k m. (k < length ns) × (q < m))
a_choice h r ns =
    then (a_word_lem h)
    (λ w m g x. weaken (needs r (find ns 0 w.1) g)
    (λ k n y. (omega (arith, find-below ns 0 k w.1 y.1), let z = y.0 in omega (arith, x.low, x.end, x.some))))

-- ---- a rule by its word

pub under_row : {A : Type 0} (P : A → Type 0) (t : List (String × A)) (w : List ℕ) (a : A)
    → All (λ f. w ≡ bytes f.0 → P f.1) t → under t w ≡ some a
    → P a
unfolding under
under_row P [] w a h e = none≢some e
under_row {A = A} P (f ∷ t) w a h e = go (same w (bytes f.0)) refl e (λ x. under_row P t w a h.1 x)
  where
    go : (b : Bool) → same w (bytes f.0) ≡ b
        → elim b as (λ x. Option A) [ true ↦ some f.1 | false ↦ under t w ] ≡ some a
        → (under t w ≡ some a → P a) → P a
    go true q x ih = subst P (some-injective f.1 a x) (h.0 (same_eq w (bytes f.0) q))
    go false q x ih = ih x

-- f goes on with the rule that is found
pub by_word : {A B : Type 0} {s : List ℕ} {q : ℕ} {Q : B → ℕ → Type 0} (r : Refusal) (t : List (String × A)) (w : List ℕ) (f : A → Rule B)
    → q ≤ length s
    → All (λ g. w ≡ bytes g.0 → Runs s (f g.1) q Q) t → Runs s (need r (under t w) >>= f) q Q
by_word {s = s} {q = q} {Q = Q} r t w f h x =
    then (needs r (under t w) h)
    (λ p m g e. subst (λ (n : ℕ). Runs s (f p) n Q) (sym e.0) (under_row (λ p. Runs s (f p) q Q) t w p x e.1))

pub by_word_or : {A : Type 0} {s : List ℕ} {q : ℕ} {Q : A → ℕ → Type 0} (t : List (String × Rule A)) (w : List ℕ) (p : Rule A)
    → All (λ f. w ≡ bytes f.0 → Runs s f.1 q Q) t → Runs s p q Q → Runs s (default (under t w) p) q Q
by_word_or {A = A} {s = s} {q = q} {Q = Q} t w p x y = go (under t w) refl
  where
    go : (o : Option (Rule A)) → under t w ≡ o → Runs s (default o p) q Q
    go none e = y
    go (some r) e = under_row (λ r. Runs s r q Q) t w r x e
