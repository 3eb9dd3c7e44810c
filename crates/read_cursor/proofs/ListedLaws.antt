-- Laws of words in lists: a word of a list at a cursor, and none.
use Prim.Native.Nat.{ℕ, suc}
use mathlib.Core.Bool.{Bool, true, false, not, ◌&&◌}
use mathlib.Core.List.{List, [], ◌∷◌}
use mathlib.Core.Option.{Option, none, some}
use mathlib.Core.Path.{◌≡◌, refl, sym, ap, ◌∙◌}
use native.Mathlib.Omega.{arith}
use Rattle.text.specs.Bytes.{same}
use Rattle.text.specs.Words.{is_some, find}
use Rattle.text.proofs.WordLaws.{same_eq, find_past}
use Rattle.token.specs.Token.{Kind, name, number, quoted, mark, kind, is_mark}
use Rattle.token.specs.Names.{is_keyword, unless, word_of, name_of}
use Rattle.grammar.specs.Rule.{refused, word, sees_name, choice_in}
use Rattle.error.specs.declared.Refusal.{Refusal}
use Rattle.error.specs.declared.Refusal.TheVariants.{Missing}
use Rattle.read_cursor.specs.WordMeans.{at_of}
use Rattle.read_cursor.specs.Means.{Ready, tokens, run, Took, Follows, place_in, listed_in, no_keywords}
use Rattle.read_cursor.specs.declared.Cursor.{Cursor}
use Rattle.read_cursor.proofs.CursorLaws.{took}

pub never : {A : Type 0} → false ≡ true → A
never e = let z : ◌≡◌ {A = ℕ} 0 1 = cc in absurd (omega arith)

-- ---- the next token is the word i of a list

pub record Listed (ns : List (List ℕ)) (k : Kind) (i : ℕ) : Type 0 where
  pub word : List ℕ
  pub is : k ≡ name word
  pub found : find ns 0 word ≡ some i

pub none_some : {A B : Type 0} {x : B} → none ≡ some x → A
none_some e = never (ap is_some e)

pub listed-word : (ns : List (List ℕ)) (k : Kind) (i : ℕ) → place_in ns (word_of k) ≡ some i → Listed ns k i
listed-word ns (name w) i e = record { word = w; is = refl; found = e }
listed-word ns (number w) i e = none_some e
listed-word ns (quoted n) i e = none_some e
listed-word ns (mark b) i e = none_some e

-- which is no keyword, where the list has none
pub free-word : (ns : List (List ℕ)) (j : ℕ) (w : List ℕ) (i : ℕ) → no_keywords ns ≡ true → find ns j w ≡ some i → is_keyword w ≡ false
unfolding no_keywords find
free-word [] j w i h e = none_some e
free-word (n ∷ ns) j w i h e = go (same w n) refl (is_keyword n) refl h (λ g f. free-word ns (suc j) w i g f)
  where
    go : (a : Bool) → same w n ≡ a → (b : Bool) → is_keyword n ≡ b → (not b && no_keywords ns) ≡ true
        → (no_keywords ns ≡ true → find ns (suc j) w ≡ some i → is_keyword w ≡ false)
        → is_keyword w ≡ false
    go a q true z g ih = never g
    go true q false z g ih = rw (same_eq w n q) z
    go false q false z g ih = ih g (sym (find_past w n ns j q) ∙ e)

module _ {s : List ℕ} {c m : Cursor} (r : Ready s c) (f : Follows s c m) {ns : List (List ℕ)} {i : ℕ}
    (l : Listed ns (kind (tokens s c)) i) where
  pub took_listed : no_keywords ns ≡ true → Took 1 s c m word (at_of c, l.word)
  took_listed h = took s c m r f word _ (rw l.is) (rw (l.is, free-word ns 0 l.word i h l.found, r.head.place))

  pub took_choice : (q : Refusal) → no_keywords ns ≡ true → Took 1 s c m (choice_in q ns) i
  took_choice q h = took s c m r f (choice_in q ns) i (rw l.is) (rw (l.is, free-word ns 0 l.word i h l.found, l.found))

-- ---- it is none

pub unlisted_kind : (k : Kind) (ns : List (List ℕ)) → place_in ns (word_of k) ≡ none → is_some (name_of k) ≡ true
    → (w : List ℕ) × (name_of k ≡ some w) × (find ns 0 w ≡ none)
unlisted_kind (name w) ns e h = go (is_keyword w) refl h
  where
    go : (b : Bool) → is_keyword w ≡ b → is_some (unless b w) ≡ true → (v : List ℕ) × (unless b w ≡ some v) × (find ns 0 v ≡ none)
    go true q g = never g
    go false q g = (w, refl, e)
unlisted_kind (number w) ns e h = never h
unlisted_kind (quoted n) ns e h = never h
unlisted_kind (mark b) ns e h = never h

-- a name is not the text's end
pub name_no_end : (k : Kind) (w : List ℕ) → name_of k ≡ some w → is_mark k 0 ≡ false
name_no_end (name v) w e = refl
name_no_end (number v) w e = refl
name_no_end (quoted n) w e = refl
name_no_end (mark b) w e = none_some e

pub no_name : (k : Kind) → is_some (name_of k) ≡ false → name_of k ≡ none
no_name k h = go (name_of k) h
  where
    go : (o : Option (List ℕ)) → is_some o ≡ false → o ≡ none
    go none e = refl
    go (some w) e = never (sym e)

module _ {s : List ℕ} {c : Cursor} (r : Ready s c) where
  pub unlisted_name : {m : Cursor} → Follows s c m → (ns : List (List ℕ)) (q : Refusal)
      → listed_in ns (tokens s c) ≡ none → sees_name (tokens s c) ≡ true → run s c (choice_in q ns) ≡ refused q (at_of m)
  unlisted_name {m} f ns q e h =
      let u = unlisted_kind (kind (tokens s c)) ns e h in
      rw (u.1, u.2, f.rest, f.ready.head.place)

  pub unlisted_other : (ns : List (List ℕ)) (q : Refusal) → sees_name (tokens s c) ≡ false
      → run s c (choice_in q ns) ≡ refused Missing (at_of c)
  unlisted_other ns q h = rw (no_name (kind (tokens s c)) h, r.head.place)
