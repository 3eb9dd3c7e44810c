-- Lists of fields: what holds of a list as its fields are read, and of what it says.
use Prim.Native.Nat.{ℕ, ◌+◌, ◌≤◌, ◌<◌}
use Prim.Native.String.{String}
use mathlib.Core.Bool.{Bool, true, false, cond}
use mathlib.Core.List.{List, [], ◌∷◌}
use mathlib.Core.Option.{Option, none, some, some-injective}
use mathlib.Core.Path.{◌≡◌, refl, sym, ap, ◌∙◌, subst}
use native.Mathlib.Omega.{arith}
use lib.Dec.{eqb}
use lib.ListN.{length}
use Rattle.text.specs.Bytes.{bytes, same, one_of}
use Rattle.text.specs.Words.{or_else, default}
use Rattle.text.proofs.WordLaws.{same_eq}
use Rattle.codec.proofs.Laws.{All}
use Rattle.token.specs.Token.{Kind, name, number, quoted, mark, tokens_from, kind, is_mark}
use Rattle.error.specs.declared.Refusal.TheVariants.{UnknownKeyword}
use Rattle.grammar.specs.Rule.{Rule, more, done, give, sees_word}
use Rattle.grammar.specs.Fields.{Content, Entry, Fields, Table, row_of, field_head, field_value, entry, pair_name, one_pair}
use Rattle.grammar.specs.Fields.{pairs, Item, halts, closes, passes, starts, item_of, field_name, one_field, by_item, fields_step}
use Rattle.grammar.specs.Fields.{parse_field_list, last, called, last_number}
use Rattle.law_rules.proofs.RunLaws.{Carry, carries, Runs, gives, then, and, weaken, tests, needs, Onto, repeats}
use Rattle.law_rules.proofs.TakeLaws.{a_word_lem, the-mark, skips, skips_word}
use Rattle.law_rules.proofs.ListLaws.{none≢some, lists}

-- ---- what is there

abbrev pub On : {A : Type 0} → (A → Type 0) → Option A → Type 0
On P none = Unit {0}
On P (some a) = P a

pub on_map : {A : Type 0} (P Q : A → Type 0) → ((a : A) → P a → Q a) → (o : Option A) → On P o → On Q o
on_map P Q f none h = tt
on_map P Q f (some a) h = f a h

pub on_is : {A : Type 0} (P : A → Type 0) (o : Option A) (a : A) → o ≡ some a → On P o → P a
on_is P o a e h = subst (On P) e h

pub default_in : {A : Type 0} (P : A → Type 0) (o : Option A) (d : A) → On P o → P d → P (default o d)
default_in P none d h p = p
default_in P (some a) d h p = h

-- ---- the next token of parse_field_list

-- an item that does not halt is not the text's end
goes : (k : Kind) (x : Item) → item_of k ≡ x → (x ≡ halts → ⊥) → is_mark k 0 ≡ false
unfolding item_of one_of
goes (name w) x e n = refl
goes (number w) x e n = refl
goes (quoted w) x e n = refl
goes (mark b) x e n = go (eqb b 0) refl
  where
    go : (y : Bool) → eqb b 0 ≡ y → y ≡ false
    go true f = absurd (n (sym e ∙ (rw f)))
    go false f = refl

not_closes : closes ≡ halts → ⊥
not_closes e = let z : ◌≡◌ {A = ℕ} 0 1 = cc in omega arith

not-passes : passes ≡ halts → ⊥
not-passes e = let z : ◌≡◌ {A = ℕ} 0 1 = cc in omega arith

-- ---- tables: H holds of a field's name, the place behind its `:`, its content and the place behind that

-- G holds of the places where a field may begin
module _ (s : List ℕ) (G : ℕ → Type 0) (onward : (q m : ℕ) → Carry s q m → G q → G m) (H : List ℕ → ℕ → Content → ℕ → Type 0) where
  abbrev pub Row : String × Rule Content → Type 0
  Row f = (q : ℕ) → q ≤ length s → G q → Runs s f.1 q (H (bytes f.0) q)

  row_in : (t : Table) (w : List ℕ) (f : String × Rule Content) → All Row t → row_of t w ≡ some f → (w ≡ bytes f.0) × Row f
  unfolding row_of
  row_in [] w f h e = none≢some e
  row_in (g ∷ t) w f h e = go (same w (bytes g.0)) refl e (λ x. row_in t w f h.1 x)
    where
      go : (b : Bool) → same w (bytes g.0) ≡ b
          → elim b as (λ x. Option (String × Rule Content)) [ true ↦ some g | false ↦ row_of t w ] ≡ some f
          → (row_of t w ≡ some f → (w ≡ bytes f.0) × Row f)
          → (w ≡ bytes f.0) × Row f
      go true q x ih =
          subst (λ (y : String × Rule Content). (w ≡ bytes y.0) × Row y) (some-injective g f x) (same_eq w (bytes g.0) q, h.0)
      go false q x ih = ih x

  -- a field's name, which takes as many bytes as it has
  abbrev Names : Rule (List ℕ) → Type 0
  Names p = (q : ℕ) → q ≤ length s → Runs s p q (λ w m. q + length w ≤ m)

  pair_name_lem : Names pair_name
  unfolding pair_name
  pair_name_lem q h = then (a_word_lem h) (λ w m g x. gives g (omega (arith, x.low, x.end)))

  field_name_lem : Names field_name
  unfolding field_name
  field_name_lem q h =
      tests (sees_word "loop") (λ e. and {f = give (bytes "loop")} (skips_word h (bytes "loop") e) (λ m g u x. gives g x))
      (λ e. pair_name_lem q h)

  -- a field from q to m
  pub record Entered (q : ℕ) (e : Entry) (m : ℕ) : Type 0 where
    pub colon : ℕ
    pub low : q + length e.0 < colon
    pub held : H e.0 colon e.1 m

  entry_runs : (p : Rule (List ℕ)) (t : Table) → Names p → All Row t → (q : ℕ) → q ≤ length s → G q → Runs s (entry p t) q (Entered q)
  unfolding entry field_head field_value
  entry_runs p t names rows q h b =
      then (carries (head q h))
      (λ f m g x. then (x.0.1 m g (onward q m x.1 b)) (λ c n i y. gives i (record { colon = m; low = x.0.0; held = y })))
    where
      Head : ℕ → String × Rule Content → ℕ → Type 0
      Head q f m = (q + length (bytes f.0) < m) × Row f

      head : (q : ℕ) → q ≤ length s → Runs s (field_head p t) q (Head q)
      head q h =
          then (names q h)
          (λ w m g x. and (the-mark g 58 refl)
          (λ n i u y. weaken (needs UnknownKeyword (row_of t w) i)
          (λ f o z. let r = row_in t w f rows z.1 in (let e = ap length r.0 in let k = z.0 in omega arith, r.1))))

  -- ---- lists: I holds of the fields so far and of the place behind them

  module _ (I : Fields → ℕ → Type 0) (good : (fs : Fields) (m : ℕ) → I fs m → G m)
      (later : (fs : Fields) (m n : ℕ) → m ≤ n → Carry s m n → I fs m → I fs n)
      (onto : (fs : Fields) (e : Entry) (m n : ℕ) → I fs m → Entered m e n → Carry s m n → I (e ∷ fs) n) (t : Table)
      (rows : All Row t) where
    pub pairs-run : {q : ℕ} → q ≤ length s → I [] q → Runs s (pairs t) q I
    unfolding pairs one_pair
    pairs-run h i =
        lists I I (λ fs m x. x) (λ fs m n l c x. later fs m n (omega arith) c x) (one_pair t)
        (λ fs m g x. then (carries (entry_runs pair_name t pair_name_lem rows m g (good fs m x)))
        (λ e n f y. gives f (onto fs e m n x y.0 y.1)))
        h i

    step_runs : (fs : Fields) (m : ℕ) → m ≤ length s → I fs m → Runs s (fields_step t fs) m (Onto I I)
    unfolding fields_step one_field
    step_runs fs m g i = record {
      run = λ l. (by (item_of (kind (tokens_from s m))) refl).run l;
      keeps = λ l. (by (item_of (kind (tokens_from s m))) refl).keeps l;
    }
      where
        by : (x : Item) → item_of (kind (tokens_from s m)) ≡ x → Runs s (by_item x t fs) m (Onto I I)
        by halts e = gives g i
        by closes e =
            and {f = give (done fs)} (carries (skips g (goes (kind (tokens_from s m)) closes e not_closes)))
            (λ n f u x. gives f (later fs m n (omega (arith, x.0.on)) x.1 i))
        by passes e =
            and {f = give (more fs)} (carries (skips g (goes (kind (tokens_from s m)) passes e not-passes)))
            (λ n f u x. gives f (later fs m n (omega (arith, x.0.on)) x.1 i))
        by starts e =
            then (carries (entry_runs field_name t field_name_lem rows m g (good fs m i))) (λ e n f x. gives f (onto fs e m n i x.0 x.1))

    pub fields_run : (gs : Fields) {q : ℕ} → q ≤ length s → I gs q → Runs s (parse_field_list t gs) q I
    unfolding parse_field_list
    fields_run gs h i = repeats I I (λ fs m x. x) (fields_step t) step_runs h i

-- ---- what a list says, of whose entries F holds

module _ (F : Entry → Type 0) where
  pub last-in : {A : Type 0} (f : Entry → Option A) (P : A → Type 0) → ((e : Entry) → F e → On P (f e))
      → (fs : Fields) → All F fs → On P (last f fs)
  unfolding last
  last-in f P k [] h = tt
  last-in {A = A} f P k (e ∷ fs) h = go (f e) (k e h.0) (last-in f P k fs h.1)
    where
      go : (o : Option A) → On P o → On P (last f fs) → On P (or_else o (last f fs))
      go none x y = y
      go (some a) x y = x

  -- a number, by the name of its field
  pub number_in : (w : String) (P : ℕ → Type 0) → ((e : Entry) → F e → e.0 ≡ bytes w → On P e.1.number)
      → (fs : Fields) → All F fs → On P (last_number w fs)
  number_in w P k fs h = last-in (called w (λ c. c.number)) P (λ e f. go e f (same e.0 (bytes w)) refl) fs h
    where
      go : (e : Entry) → F e → (b : Bool) → same e.0 (bytes w) ≡ b → On P (cond b e.1.number none)
      go e f true q = k e f (same_eq e.0 (bytes w) q)
      go e f false q = tt
