-- Laws of lists of fields, whatever their table.
use Prim.Native.Nat.{ℕ, zero, suc, ◌+◌, ◌≤◌, ◌<◌}
use Prim.Native.String.{String}
use mathlib.Core.Bool.{Bool, true, false, not, ◌&&◌, ◌||◌}
use mathlib.Core.List.{List, [], ◌∷◌}
use mathlib.Core.Option.{Option, none, some, some-injective}
use mathlib.Core.Path.{◌≡◌, refl, sym, ap, ◌∙◌, subst}
use native.Mathlib.Omega.{arith}
use lib.Dec.{eqb}
use lib.ListN.{length, get_elem?}
use Rattle.text.specs.Bytes.{bytes, same, one_of}
use Rattle.text.specs.Words.{find}
use Rattle.text.proofs.WordLaws.{find-here, find_past, same_eq}
use Rattle.token.specs.Token.{Kind, name, number, quoted, mark, Token, kind, is_mark}
use Rattle.token.specs.Names.{word_of, is_keyword}
use Rattle.error.specs.declared.Refusal.{Refusal}
use Rattle.error.specs.declared.Refusal.TheVariants.{Missing}
use Rattle.grammar.specs.Rule.{is_word, sees_bytes, sees_name, Out, got, refused, after, Rule, Next}
use Rattle.grammar.specs.Rule.{more, next, iterate, list_step, eat, go_on, give, ◌>>=◌, ends}
use Rattle.grammar.specs.Fields.{Item, halts, closes, passes, starts, item_of, Table, Fields, Entry, Content, row_of}
use Rattle.grammar.specs.Fields.{field_head, field_value, field_name, pair_name, entry, one_field, fields_step, one_pair}
use Rattle.read_cursor.specs.WordMeans.{at_of}
use Rattle.read_cursor.specs.Means.{Ready, notes, tokens, run, Took, Follows, listed_in, no_keywords}
use Rattle.read_cursor.specs.declared.Cursor.{Cursor}
use Rattle.read_fields.specs.declared.NextField.{NextField}
use Rattle.read_fields.specs.declared.NextField.TheVariants as found
use Rattle.read_cursor.proofs.CursorLaws.{took, head_moves}
use Rattle.read_cursor.proofs.ListedLaws.{never, none_some, Listed, took_listed, unlisted_kind, no_name, name_no_end}
use Rattle.words.specs.declared.List.{List as WordList}
use Rattle.words.specs.ListMeans.{list_of}
use Rattle.words.proofs.KeyLaws.{every}
use Rattle.words.proofs.ListLaws.{every_list, each-list}
use Rattle.read_fields.specs.Means.{HeadMeans, StartMeans, FieldMeans, PairMeans}
use Rattle.read_fields.specs.Means.{names, head_behind, RowAt, Gives, FieldAt, PairAt}

none≢some : {A B : Type 0} {a : A} → Prim.Path (Option A) none (some a) → B
none≢some e = absurd (let z : ◌≡◌ {A = ℕ} 0 1 = cc in omega arith)

-- ---- rows

-- a row that a lookup of its name finds at d
pub record RowFound (t : Table) (w : List ℕ) (d : ℕ) : Type 0 where
  pub row : String × Rule Content
  pub is : get_elem? t d ≡ some row
  pub under : row_of t w ≡ some row

row_by : (f : String × Rule Content) (fs : Table) (i m : ℕ) (w : List ℕ) → find (names (f ∷ fs)) i w ≡ some m
    → (find (names fs) (suc i) w ≡ some m → (d : ℕ) × (m ≡ suc i + d) × RowFound fs w d)
    → (b : Bool) → same w (bytes f.0) ≡ b → (d : ℕ) × (m ≡ i + d) × RowFound (f ∷ fs) w d
unfolding row_of
row_by f fs i m w e ih true q = (
  0,
  let z = some-injective i m (sym (find-here w (bytes f.0) (names fs) i q) ∙ e) in omega arith,
  record { row = f; is = refl; under = rw (q, row_of) },
)
row_by f fs i m w e ih false q =
    let (d, p, r) = ih (sym (find_past w (bytes f.0) (names fs) i q) ∙ e) in
    (suc d, omega arith, record { row = r.row; is = r.is; under = rw (q, row_of) r.under })

row_from : (t : Table) (i m : ℕ) (w : List ℕ) → find (names t) i w ≡ some m → (d : ℕ) × (m ≡ i + d) × RowFound t w d
unfolding find
row_from [] i m w e = none≢some e
row_from (f ∷ fs) i m w e = row_by f fs i m w e (λ q. row_from fs (suc i) m w q) (same w (bytes f.0)) refl

pub row_found : (t : Table) (m : ℕ) (w : List ℕ) → find (names t) 0 w ≡ some m → RowFound t w m
row_found t m w e = let (d, p, r) = row_from t 0 m w e in let q : m ≡ d = omega arith in subst (RowFound t w) (sym q) r

row_none_by : (f : String × Rule Content) (fs : Table) (i : ℕ) (w : List ℕ) → find (names (f ∷ fs)) i w ≡ none
    → (find (names fs) (suc i) w ≡ none → row_of fs w ≡ none) → (b : Bool) → same w (bytes f.0) ≡ b → row_of (f ∷ fs) w ≡ none
unfolding row_of
row_none_by f fs i w e ih true q = none≢some (sym e ∙ find-here w (bytes f.0) (names fs) i q)
row_none_by f fs i w e ih false q = rw (q, row_of) (ih (sym (find_past w (bytes f.0) (names fs) i q) ∙ e))

row_none_from : (t : Table) (i : ℕ) (w : List ℕ) → find (names t) i w ≡ none → row_of t w ≡ none
unfolding row_of
row_none_from [] i w e = refl
row_none_from (f ∷ fs) i w e = row_none_by f fs i w e (λ q. row_none_from fs (suc i) w q) (same w (bytes f.0)) refl

pub row_none : (t : Table) (w : List ℕ) → find (names t) 0 w ≡ none → row_of t w ≡ none
row_none t w e = row_none_from t 0 w e

-- ---- a list of fields, from a cursor on

-- an item that does not halt is not the text's end
no_halt : (k : Kind) (x : Item) → item_of k ≡ x → (x ≡ halts → ⊥) → is_mark k 0 ≡ false
unfolding item_of one_of
no_halt (name w) x e n = refl
no_halt (number w) x e n = refl
no_halt (quoted w) x e n = refl
no_halt (mark b) x e n = go (eqb b 0) refl
  where
    go : (y : Bool) → eqb b 0 ≡ y → y ≡ false
    go true q = absurd (n (sym e ∙ (rw q)))
    go false q = refl

not-passes : passes ≡ halts → ⊥
not-passes e = let z : ◌≡◌ {A = ℕ} 0 1 = cc in omega arith

-- with some steps left there is one
pub by_step : {A : Type 0} (step : A → Rule (Next A)) (a : A) (s : List ℕ) (c : Cursor) (out : Out A) → Ready s c
    → ((k : ℕ) → length s < at_of c + suc k → after (step a (notes s c) (tokens s c)) (next (λ b. iterate step k b)) ≡ out)
    → Gives step s c a out
unfolding iterate
by_step step a s c out r h zero l = absurd (let z = r.high in omega arith)
by_step step a s c out r h (suc k) l = h k l

module _ (s : List ℕ) (t : Table) (c : Cursor) (r : Ready s c) where
  pub gives_halts : item_of (kind (tokens s c)) ≡ halts → (fs : Fields) → Gives (fields_step t) s c fs (got fs (notes s c) (tokens s c))
  unfolding fields_step
  gives_halts e fs = by_step (fields_step t) fs s c _ r (λ k l. rw e)

  pub gives_closes : (m : Cursor) → Follows s c m → item_of (kind (tokens s c)) ≡ closes
      → (fs : Fields)
      → Gives (fields_step t) s c fs (got fs (notes s m) (tokens s m))
  unfolding fields_step
  gives_closes m f e fs = by_step (fields_step t) fs s c _ r (λ k l. rw (e, f.rest, f.left, f.rounded))

  pub passes_moves : (m : Cursor) → Follows s c m → item_of (kind (tokens s c)) ≡ passes → at_of c < at_of m
  passes_moves m f e = let a = head_moves s c r (no_halt (kind (tokens s c)) passes e not-passes) in omega (arith, f.at)

  pub gives_passes : (m : Cursor) → Follows s c m → item_of (kind (tokens s c)) ≡ passes
      → (fs : Fields) (out : Out Fields) → Gives (fields_step t) s m fs out
      → Gives (fields_step t) s c fs out
  unfolding fields_step
  gives_passes m f e fs out h =
      by_step (fields_step t) fs s c _ r
      (λ k l. rw (e, f.rest, sym f.left, sym f.rounded) (h k (let a = passes_moves m f e in omega arith)))

  pub gives_refused : (x : Refusal) (q : ℕ) → item_of (kind (tokens s c)) ≡ starts
      → run s c (field_head field_name t) ≡ refused x q → (fs : Fields)
      → Gives (fields_step t) s c fs (refused x q)
  unfolding fields_step one_field entry
  gives_refused x q e h fs = by_step (fields_step t) fs s c _ r (λ k l. rw (e, h))

  after_more : (fs : Fields) (g : Fields → Rule Fields) (o : Out Entry)
      → after (after o (λ f. give (more (f ∷ fs)))) (next g) ≡ after o (λ f. g (f ∷ fs))
  after_more fs g (got f l ts) = refl
  after_more fs g (refused x q) = refl

  pub gives_field : (i : ℕ) (m : Cursor) → item_of (kind (tokens s c)) ≡ starts
      → RowAt 1 s c (field_head field_name t) t i m → FieldAt s c t i m
  unfolding fields_step one_field entry
  gives_field i m e f = record {
    row = f.row;
    is = f.is;
    low = f.took.low;
    ready = f.took.ready;
    goes = λ fs out h. by_step (fields_step t) fs s c out r
        (λ k l. rw (e, f.took.is)
        (after_more fs (λ gs. iterate (fields_step t) k gs) (run s m (field_value f.row)) ∙ h k (let a = f.took.low in omega arith)));
  }

-- a field behind what was passed before it
pub field-behind : (s : List ℕ) (t : Table) (c m : Cursor) → at_of c ≤ at_of m
    → ((fs : Fields) (out : Out Fields) → Gives (fields_step t) s m fs out → Gives (fields_step t) s c fs out)
    → (i : ℕ) (u : Cursor) → FieldAt s m t i u → FieldAt s c t i u
field-behind s t c m l g i u f = record {
  row = f.row;
  is = f.is;
  low = omega (arith, f.low);
  ready = f.ready;
  goes = λ fs out h. g fs out (f.goes fs out h);
}

-- ---- fields in parentheses

module _ (s : List ℕ) (t : Table) (c : Cursor) (r : Ready s c) where
  pub pairs_end : ends (tokens s c) ≡ true → (fs : Fields) → Gives (list_step (one_pair t)) s c fs (got fs (notes s c) (tokens s c))
  pairs_end e fs = by_step (list_step (one_pair t)) fs s c _ r (λ k l. rw e)

  pub pairs_refused : (x : Refusal) (q : ℕ) → ends (tokens s c) ≡ false → run s c (field_head pair_name t) ≡ refused x q
      → (fs : Fields)
      → Gives (list_step (one_pair t)) s c fs (refused x q)
  unfolding one_pair entry
  pairs_refused x q e h fs = by_step (list_step (one_pair t)) fs s c _ r (λ k l. rw (e, h))

  after-give : (g : Fields → Rule Fields) (gs : Fields) (o : Out Bool)
      → after (after o (λ b. give (go_on b gs))) (next g) ≡ after o (λ b. next g (go_on b gs))
  after-give g gs (got b l ts) = refl
  after-give g gs (refused x q) = refl

  after-pair : (fs : Fields) (g : Fields → Rule Fields) (o : Out Entry)
      → after (after (after o (λ f. give (f ∷ fs))) (λ gs. eat "," >>= λ b. give (go_on b gs))) (next g)
      ≡ after o (λ f. eat "," >>= λ b. next g (go_on b (f ∷ fs)))
  after-pair fs g (got f l ts) = after-give g (f ∷ fs) (eat "," l ts)
  after-pair fs g (refused x q) = refl

  pub pairs-field : (i : ℕ) (m : Cursor) → ends (tokens s c) ≡ false → RowAt 1 s c (field_head pair_name t) t i m → PairAt s c t i m
  unfolding one_pair entry
  pairs-field i m e f = record {
    row = f.row;
    is = f.is;
    low = f.took.low;
    ready = f.took.ready;
    goes = λ fs out h. by_step (list_step (one_pair t)) fs s c out r
        (λ k l. rw (e, f.took.is)
        (after-pair fs (λ gs. iterate (list_step (one_pair t)) k gs) (run s m (field_value f.row))
        ∙ h k (let a = f.took.low in omega arith)));
  }

-- ---- a field's name

-- whether no word of a list is a keyword but `loop`, and that it is so
unfoldable pub loop_alone : List (List ℕ) → Bool
loop_alone [] = true
loop_alone (n ∷ ns) = (not (is_keyword n) || same n (bytes "loop")) && loop_alone ns

pub all_alone : (k : WordList) → loop_alone (list_of k) ≡ true
unfolding loop_alone every every_list list_of is_keyword find same
all_alone k = each-list loop_alone k refl

loop_or_free : (ns : List (List ℕ)) (j : ℕ) (w : List ℕ) (i : ℕ) → loop_alone ns ≡ true → find ns j w ≡ some i
    → same w (bytes "loop") ≡ false
    → is_keyword w ≡ false
unfolding loop_alone find
loop_or_free [] j w i h e q = none_some e
loop_or_free (n ∷ ns) j w i h e q =
    go (same w n) refl (not (is_keyword n) || same n (bytes "loop")) refl h (λ g f. loop_or_free ns (suc j) w i g f q)
  where
    free : (a : Bool) → is_keyword n ≡ a → (not a || same n (bytes "loop")) ≡ true → w ≡ n → is_keyword w ≡ false
    free true z g p = never (sym (rw (sym p) q) ∙ g)
    free false z g p = rw p z

    go : (a : Bool) → same w n ≡ a → (b : Bool) → (not (is_keyword n) || same n (bytes "loop")) ≡ b → (b && loop_alone ns) ≡ true
        → (loop_alone ns ≡ true → find ns (suc j) w ≡ some i → is_keyword w ≡ false)
        → is_keyword w ≡ false
    go a p false z g ih = never g
    go true p true z g ih = free (is_keyword n) refl z (same_eq w n p)
    go false p true z g ih = ih g (sym (find_past w n ns j p) ∙ e)

word_name : (k : Kind) (v : List ℕ) → is_word (word_of k) v ≡ true → k ≡ name v
word_name (name w) v e = ap name (same_eq w v e)
word_name (number w) v e = never e
word_name (quoted w) v e = never e
word_name (mark b) v e = never e

module _ {s : List ℕ} {c m : Cursor} (r : Ready s c) (f : Follows s c m) where
  -- a word of a list
  module _ {ns : List (List ℕ)} {i : ℕ} (l : Listed ns (kind (tokens s c)) i) where
    pub took_field : loop_alone ns ≡ true → Took 1 s c m field_name l.word
    unfolding field_name pair_name
    took_field h = go (same l.word (bytes "loop")) refl
      where
        go : (a : Bool) → same l.word (bytes "loop") ≡ a → Took 1 s c m field_name l.word
        go true q = took s c m r f field_name l.word (rw l.is) (rw (l.is, q, same_eq l.word (bytes "loop") q))
        go false q =
            took s c m r f field_name l.word (rw l.is) (rw (l.is, q, l.is, loop_or_free ns 0 l.word i h l.found q))

    pub took_pair : no_keywords ns ≡ true → Took 1 s c m pair_name l.word
    unfolding pair_name
    took_pair h = let t = took_listed r f l h in record { is = rw t.is; low = t.low; ready = t.ready }

  -- `loop`, which is in no row
  pub took_loop : sees_bytes (bytes "loop") (tokens s c) ≡ true → Took 1 s c m field_name (bytes "loop")
  unfolding field_name
  took_loop e =
      let k = word_name (kind (tokens s c)) (bytes "loop") e in
      took s c m r f field_name (bytes "loop") (rw k) (rw e)

  -- a name that is in no row
  pub took_unlisted : (ns : List (List ℕ)) → listed_in ns (tokens s c) ≡ none → sees_name (tokens s c) ≡ true
      → (w : List ℕ) × Took 1 s c m pair_name w × (find ns 0 w ≡ none)
  unfolding pair_name
  took_unlisted ns e h =
      let u = unlisted_kind (kind (tokens s c)) ns e h in
      (u.0, took s c m r f pair_name u.0 (name_no_end (kind (tokens s c)) u.0 u.1) (rw u.1), u.2)

pub loop_unlisted : (ns : List (List ℕ)) (ts : List Token) → listed_in ns ts ≡ none → sees_bytes (bytes "loop") ts ≡ true
    → find ns 0 (bytes "loop") ≡ none
loop_unlisted ns ts e h = rw (word_name (kind ts) (bytes "loop") h) at e

pub no_plain : (s : List ℕ) (c : Cursor) → Ready s c → sees_name (tokens s c) ≡ false → run s c pair_name ≡ refused Missing (at_of c)
unfolding pair_name
no_plain s c r h = rw (no_name (kind (tokens s c)) h, r.head.place)

-- a name, and what stands behind it
pub head_took : (s : List ℕ) (p : Rule (List ℕ)) (c m u : Cursor) (w : List ℕ) (t : Table) (i : ℕ)
    → Took 1 s c m p w → RowAt 1 s m (head_behind w t) t i u
    → RowAt 1 s c (field_head p t) t i u
unfolding field_head
head_took s p c m u w t i n f = record {
  row = f.row;
  is = f.is;
  took = record { is = rw (n.is, f.took.is); low = omega (arith, n.low, f.took.low); ready = f.took.ready };
}

pub head_refused : (s : List ℕ) (p : Rule (List ℕ)) (c m : Cursor) (w : List ℕ) (t : Table) (x : Refusal) (q : ℕ)
    → Took 1 s c m p w → run s m (head_behind w t) ≡ refused x q
    → run s c (field_head p t) ≡ refused x q
unfolding field_head
head_refused s p c m w t x q n h = rw (n.is, h)

pub head_missing : (s : List ℕ) (p : Rule (List ℕ)) (c : Cursor) (t : Table) (x : Refusal) (q : ℕ)
    → run s c p ≡ refused x q → run s c (field_head p t) ≡ refused x q
unfolding field_head
head_missing s p c t x q h = rw h

-- where `loop` is not seen, a field's name is a name
pub plain-start : (s : List ℕ) (c : Cursor) (t : Table) (a : NextField) → sees_bytes (bytes "loop") (tokens s c) ≡ false
    → StartMeans s pair_name c t a → StartMeans s field_name c t a
unfolding field_head field_name
plain-start s c t (found.Field i u) e h =
    record { row = h.row; is = h.is; took = record { is = rw e h.took.is; low = h.took.low; ready = h.took.ready } }
plain-start s c t (found.Done u) e h = h
plain-start s c t (found.Refused x q) e h = rw e h

-- the answer behind a name is the answer from the name on
pub started : {s : List ℕ} {p : Rule (List ℕ)} {c m : Cursor} {w : List ℕ} (t : Table) (a : NextField)
    → Took 1 s c m p w → HeadMeans s w m t a
    → StartMeans s p c t a
started {s} {p} {c} {m} {w} t (found.Field i u) n h = head_took s p c m u w t i n h
started {s} {p} {c} {m} {w} t (found.Done u) n h = h
started {s} {p} {c} {m} {w} t (found.Refused r q) n h = head_refused s p c m w t r q n h

-- the next of the fields in parentheses, where the group does not end
pub paired : (s : List ℕ) (t : Table) (c : Cursor) → Ready s c → ends (tokens s c) ≡ false
    → (a : NextField) → StartMeans s pair_name c t a → PairMeans s c t a
paired s t c r e (found.Field i u) h = pairs-field s t c r i u e h
paired s t c r e (found.Done u) h = absurd h
paired s t c r e (found.Refused x q) h = pairs_refused s t c r x q e h

-- a list that was read from c on stands at m
pub record Passed (s : List ℕ) (c m : Cursor) : Type 0 where
  pub low : at_of c ≤ at_of m
  pub ready : Ready s m
  pub goes : (t : Table) (fs : Fields) (out : Out Fields) → Gives (fields_step t) s m fs out → Gives (fields_step t) s c fs out

pub passed_start : (s : List ℕ) (c : Cursor) → Ready s c → Passed s c c
passed_start s c r = record { low = omega arith; ready = r; goes = λ t fs out h. h }

pub passed_on : (s : List ℕ) (c m u : Cursor) → Passed s c m → Follows s m u → item_of (kind (tokens s m)) ≡ passes → Passed s c u
passed_on s c m u p f e = record {
  low = let a = passes_moves s [] m p.ready u f e in omega (arith, p.low);
  ready = f.ready;
  goes = λ t fs out h. p.goes t fs out (gives_passes s t m p.ready u f e fs out h);
}

pub passed-field : (s : List ℕ) (t : Table) (c m : Cursor) → Passed s c m
    → item_of (kind (tokens s m)) ≡ starts → (a : NextField)
    → StartMeans s field_name m t a → FieldMeans s c t a
passed-field s t c m p e (found.Field i u) h = field-behind s t c m p.low (p.goes t) i u (gives_field s t m p.ready i u e h)
passed-field s t c m p e (found.Done u) h = absurd h
passed-field s t c m p e (found.Refused x q) h = λ fs. p.goes t fs _ (gives_refused s t m p.ready x q e h fs)
