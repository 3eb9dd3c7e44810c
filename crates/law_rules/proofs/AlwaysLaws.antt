-- Rules of whose values something holds, at whatever place of a text.
use Prim.Native.Nat.{ℕ, ◌≤◌, ◌<◌}
use Prim.Native.String.{String}
use mathlib.Core.Bool.{Bool, true, false, cond}
use mathlib.Core.List.{List}
use mathlib.Core.Option.{Option, none, some}
use mathlib.Core.Path.{◌≡◌, refl}
use lib.Dec.{eqb}
use lib.ListN.{length}
use Rattle.text.specs.Bytes.{bytes}
use Rattle.text.specs.Words.{words, under, default}
use Rattle.codec.proofs.Laws.{All}
use Rattle.token.specs.Token.{Token, tokens_from}
use Rattle.law_rules.specs.Bare.{bare}
use Rattle.error.specs.declared.Refusal.{Refusal}
use Rattle.error.specs.declared.Refusal.TheVariants.{Missing}
use Rattle.grammar.specs.Rule.{Rule, give, need, refuse, counted, if, ◌>>=◌, ◌>>◌, skip, the_byte, both_bytes, eat_byte, choice, inside_byte}
use Rattle.grammar.specs.Rule.{sees_byte, sees_pair, Next, more, done, repeat, list}
use Rattle.grammar.specs.Fields.{Content, Entry, Fields, Table, pairs, parse_field_list}
use Rattle.law_rules.proofs.RunLaws as run
use Rattle.law_rules.proofs.RunLaws.{Runs, Carry, Onto}
use Rattle.law_rules.proofs.TakeLaws as take
use Rattle.law_rules.proofs.ListLaws as lists
use Rattle.law_rules.proofs.FieldLaws as fields

-- P holds of each value that the rule p gives where no number has an exponent
pub record Always {A : Type 0} (s : List ℕ) (p : Rule A) (P : A → Type 0) : Type 0 where
  pub runs : (q : ℕ) → q ≤ length s → bare (tokens_from s q) ≡ true → Runs s p q (λ a m. P a)

abbrev pub Next-of : {A : Type 0} → (A → Type 0) → Next A → Type 0
Next-of P (more a) = P a
Next-of P (done a) = P a

onto : {A : Type 0} (s : List ℕ) (P : A → Type 0) (n : Next A) (m : ℕ) → Next-of P n → bare (tokens_from s m) ≡ true
    → Onto (λ a m. P a × (bare (tokens_from s m) ≡ true)) (λ a m. P a × (bare (tokens_from s m) ≡ true)) n m
onto s P (more a) m x e = (x, e)
onto s P (done a) m x e = (x, e)

pub each : {A : Type 0} (P : A → Type 0) (t : List (String × A)) (w : List ℕ) → All (λ f. P f.1) t
    → All (λ f. w ≡ bytes f.0 → P f.1) t
each P t w x = lists.all_map (λ f. P f.1) (λ f. w ≡ bytes f.0 → P f.1) (λ f y e. y) t x

module _ {s : List ℕ} where
  -- ---- one after the other

  pub gives : {A : Type 0} {P : A → Type 0} {a : A} → P a → Always s (give a) P
  gives p = record { runs = λ q h b. run.gives h p }

  pub refuses : {A : Type 0} {P : A → Type 0} {r : Refusal} → Always s (refuse r) P
  refuses = record { runs = λ q h b. run.refuses }

  pub then : {A B : Type 0} {p : Rule A} {f : A → Rule B} {R : A → Type 0} {P : B → Type 0}
      → Always s p R → ((a : A) → R a → Always s (f a) P) → Always s (p >>= f) P
  then x k = record { runs = λ q h b. run.then (run.carries (x.runs q h b)) (λ a m g r. (k a r.0).runs m g (r.1 b)) }

  pub and : {A B : Type 0} {p : Rule A} {f : Rule B} {R : A → Type 0} {P : B → Type 0}
      → Always s p R → Always s f P → Always s (p >> f) P
  and x y = record { runs = λ q h b. run.and (run.carries (x.runs q h b)) (λ m g a r. y.runs m g (r.1 b)) }

  pub tallies : {A : Type 0} {p : Rule A} {P : A → Type 0} (b : Bool) → Always s p P → Always s (counted b >> p) P
  tallies c x = record { runs = λ q h b. run.tallies c (x.runs q h b) }

  pub weaken : {A : Type 0} {p : Rule A} {R P : A → Type 0} → Always s p R → ((a : A) → R a → P a) → Always s p P
  weaken x k = record { runs = λ q h b. run.weaken (x.runs q h b) (λ a m r. k a r) }

  pub tests : {A : Type 0} {P : A → Type 0} (test : List Token → Bool) {p r : Rule A}
      → Always s p P → Always s r P → Always s (if test p r) P
  tests test x y = record { runs = λ q h b. run.tests test (λ e. x.runs q h b) (λ e. y.runs q h b) }

  pub conds : {A : Type 0} {P : A → Type 0} (b : Bool) {p r : Rule A}
      → (b ≡ true → Always s p P) → (b ≡ false → Always s r P) → Always s (cond b p r) P
  conds true x y = x refl
  conds false x y = y refl

  pub needs : {A : Type 0} (r : Refusal) (o : Option A) → Always s (need r o) (λ a. o ≡ some a)
  needs r o = record { runs = λ q h b. run.weaken (run.needs r o h) (λ a m e. e.1) }

  -- ---- tokens

  pub skips : Always s skip (λ u. Unit {0})
  skips = record { runs = λ q h b. run.weaken (take.passes h) (λ u m x. tt) }

  pub the-mark : (b : ℕ) → Always s (the_byte b) (λ u. Unit {0})
  the-mark b = tests (sees_byte b) skips (refuses {r = Missing})

  pub two-marks : (b d : ℕ) → Always s (both_bytes b d) (λ u. Unit {0})
  two-marks b d = tests (sees_pair b d) (and skips skips) (refuses {r = Missing})

  pub eats : (b : ℕ) → Always s (eat_byte b) (λ c. Unit {0})
  eats b = tests (sees_byte b) (and skips (gives {a = true} tt)) (gives {a = false} tt)

  pub in_group : {A : Type 0} {p : Rule A} {P : A → Type 0} (b : ℕ) → eqb b 0 ≡ false → Always s p P → Always s (inside_byte b p) P
  in_group {p = p} {P = P} b e x = record {
    runs = λ q h c. run.weaken (take.in_group_on p (λ i a m. P a) h b e (λ m g y. x.runs m g (y c))) (λ a m y. y.inner);
  }

  pub a_choice : (r : Refusal) (ns : List String) → Always s (choice r ns) (λ k. k < length (words ns))
  a_choice r ns = record { runs = λ q h b. run.weaken (lists.a_choice h r (words ns)) (λ k m x. x.0) }

  -- ---- repetition: P holds of what there is before and behind each step

  module _ {A : Type 0} (P : A → Type 0) where
    pub repeats : (step : A → Rule (Next A)) → ((a : A) → P a → Always s (step a) (Next-of P)) → {a : A} → P a → Always s (repeat step a) P
    repeats step k i = record {
      runs = λ q h b. run.weaken
          (run.repeats (λ a m. P a × (bare (tokens_from s m) ≡ true)) (λ a m. P a × (bare (tokens_from s m) ≡ true)) (λ a m x. x) step
          (λ a m g x. run.weaken (run.carries ((k a x.0).runs m g x.1)) (λ n o y. onto s P n o y.0 (y.1 x.1))) h (i, b))
          (λ a m x. x.0);
    }

    pub items : (item : A → Rule A) → ((a : A) → P a → Always s (item a) P) → {a : A} → P a → Always s (list item a) P
    items item k i = record {
      runs = λ q h b. run.weaken
          (lists.lists (λ a m. P a × (bare (tokens_from s m) ≡ true)) (λ a m. P a × (bare (tokens_from s m) ≡ true)) (λ a m x. x)
          (λ a m n l c x. (x.0, c x.1)) item
          (λ a m g x. run.weaken (run.carries ((k a x.0).runs m g x.1)) (λ c o y. (y.0, y.1 x.1))) h (i, b)) (λ a m x. x.0);
    }

  -- ---- rules by their words

  pub by_word : {A B : Type 0} {P : B → Type 0} (r : Refusal) (t : List (String × A)) (w : List ℕ) (f : A → Rule B)
      → All (λ g. Always s (f g.1) P) t → Always s (need r (under t w) >>= f) P
  by_word {P = P} r t w f x =
      then (needs r (under t w)) (λ p e. lists.under_row (λ p. Always s (f p) P) t w p (each (λ p. Always s (f p) P) t w x) e)

  pub by_word_or : {A : Type 0} {P : A → Type 0} (t : List (String × Rule A)) (w : List ℕ) (p : Rule A)
      → All (λ f. Always s f.1 P) t → (under t w ≡ none → Always s p P) → Always s (default (under t w) p) P
  by_word_or {A = A} {P = P} t w p x y = go (under t w) refl
    where
      go : (o : Option (Rule A)) → under t w ≡ o → Always s (default o p) P
      go none e = y e
      go (some r) e = lists.under_row (λ r. Always s r P) t w r (each (λ r. Always s r P) t w x) e

-- ---- lists of fields: F holds of each

module _ (s : List ℕ) (F : Entry → Type 0) where
  abbrev pub Row : String × Rule Content → Type 0
  Row f = Always s f.1 (λ c. F (bytes f.0, c))

  abbrev Held : List ℕ → ℕ → Content → ℕ → Type 0
  Held w q c m = F (w, c)

  module _ (t : Table) (rows : All Row t) where
    abbrev Good : ℕ → Type 0
    Good q = bare (tokens_from s q) ≡ true

    abbrev onward : (q m : ℕ) → Carry s q m → Good q → Good m
    onward q m c b = c b

    all_rows : All (fields.Row s Good onward Held) t
    all_rows = lists.all_map Row (fields.Row s Good onward Held) (λ f x q h b. x.runs q h b) t rows

    pub pairs_of : Always s (pairs t) (All F)
    pairs_of = record {
      runs = λ q h b. run.weaken
          (fields.pairs-run s Good onward Held (λ fs m. All F fs × Good m) (λ fs m x. x.1) (λ fs m n l c x. (x.0, c x.1))
          (λ fs e m n i x c. ((x.held, i.0), c i.1)) t all_rows h (tt, b)) (λ fs m x. x.0);
    }

    pub fields-of : (gs : Fields) → All F gs → Always s (parse_field_list t gs) (All F)
    fields-of gs i = record {
      runs = λ q h b. run.weaken
          (fields.fields_run s Good onward Held (λ fs m. All F fs × Good m) (λ fs m x. x.1) (λ fs m n l c x. (x.0, c x.1))
          (λ fs e m n i x c. ((x.held, i.0), c i.1)) t all_rows gs h (i, b)) (λ fs m x. x.0);
    }
