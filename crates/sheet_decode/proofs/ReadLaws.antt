-- One law for each combinator of forms: what reading its parts gives is what reading it gives.
use Prim.Native.Nat.{ℕ, zero, suc, ◌+◌, ◌*◌, ◌-◌, ◌/◌, ◌^◌, ◌≤◌, ◌<◌}
use mathlib.Core.Bool.{Bool, true, false, cond}
use mathlib.Core.List.{List, [], ◌∷◌}
use mathlib.Core.Option.{Option, none, some}
use mathlib.Core.Path.{◌≡◌, refl, ◌∙◌, ap, subst, sym}
use mathlib.Core.Logic.{◌⊎◌, inl, inr, ⊎_elim}
use native.Mathlib.Nat.{le_trans, le_of_suc-le-suc, pow-suc}
use native.Mathlib.Numerals.{add-one}
use native.Mathlib.Omega.{arith}
use borrow.Author.Tests.{lt-ltb, le-ltb, ltb-false}
use lib.Dec.{ltb}
use lib.ListN.{length, length-append, length-drop, drop, get_or, drop_of_length-le}
use lib.Seq.{drop-cons}
use Rattle.codec.specs.Codec.{
  Form,
  and_then,
  empty,
  never,
  such,
  below,
  below_in,
  ◌▹◌,
  via,
  big,
  Case,
  FieldsAt,
  read_at,
  read_case,
  enum,
  options,
  split_option,
  opt,
  sized,
  each,
}
use Rattle.codec.proofs.Laws.{make_at, below_lawful, big_lawful}
use Rattle.std.specs.Prelude.{Some, None, Option as Optional, Float, eqb}
use Rattle.number.specs.Number.{f32}
use Rattle.ast.specs.Means.{time_view}
use Rattle.sheet.specs.Sheet.{word, time_form, time_cases, split_time}
use Rattle.sheet_decode.specs.Means.{Lost, Reads, got, bad, Number, same}
use Rattle.sheet_decode.specs.OptionalMeans.{ReadsOption, missing, there}
use Rattle.sheet_decode.specs.declared.fields.Taken.{Taken}

-- ---- places

beyond : {B : Type 0} (n a b : ℕ) → n < a → a ≤ b → b ≤ n → B
beyond n a b h g l = absurd (no n a b h g l)
  where
    no : (n a b : ℕ) → n < a → a ≤ b → b ≤ n → ⊥
    no n a b h g l = omega arith

pub le_or_lt : (a b : ℕ) → (a ≤ b) ⊎ (b < a)
le_or_lt zero b = inl (omega arith)
le_or_lt (suc a) zero = inr (omega arith)
le_or_lt (suc a) (suc b) = ⊎_elim (λ h. inl (up a b h)) (λ h. inr (up (suc b) a h)) (le_or_lt a b)
  where
    up : (a b : ℕ) → a ≤ b → suc a ≤ suc b
    up a b h = omega arith

-- at a lost place there is no value
pub stays_lost : {A X : Type 0} (c : Form A) {f : A → X} (s : List ℕ) {at m : ℕ} {v : X} → Lost s at → Lost s m → Reads c f s at v m
stays_lost c s {at = at} h o = bad o (λ i. beyond (length s) at at h (omega arith) i)

-- ---- views

-- the same bytes under another view
pub seen : {A X Y : Type 0} {c : Form A} {f : A → X} {g : A → Y} {s : List ℕ} {at m : ℕ} {v : X} {w : Y}
    → Reads c f s at v m → ((a : A) → f a ≡ v → g a ≡ w) → Reads c g s at w m
seen (got a e q h l) k = got a e (k a q) h l
seen (bad o n) k = bad o n

-- a function of what is seen
pub mapped : {A X Y : Type 0} {c : Form A} {f : A → X} {s : List ℕ} {at m : ℕ} {v : X} (g : X → Y)
    → Reads c f s at v m → Reads c (λ a. g (f a)) s at (g v) m
mapped g r = seen r (λ a e. ap g e)

-- ---- structs

-- no bytes
pub nothing : {X : Type 0} {view : Unit {0} → X} (s : List ℕ) (at : ℕ) → Reads empty view s at (view tt) at
nothing s at = ⊎_elim (λ h. got tt refl refl (omega arith) h) (λ h. stays_lost empty s h h) (le_or_lt at (length s))

-- one after the other
infixr 20 ◌&◌
pub ◌&◌ : {A B X Y : Type 0} {c : Form A} {d : Form B} {f : A → X} {g : B → Y} {s : List ℕ} {at m k : ℕ} {v : X} {w : Y}
    → Reads c f s at v m → Reads d g s m w k → Reads {X = X × Y} (c ▹ d) (λ p. (f p.0, g p.1)) s at (v, w) k
got a e q h l & got b e' q' h' l' = got (a, b) (rw (e, e')) (λ i. (q i, q' i)) (le_trans h h') l'
got a e q h l & bad o n = bad o (λ i. rw (e, n l))
◌&◌ {m = m} {k = k} (bad o n) (got b e' q' h' l') = beyond _ m k o h' l'
bad o n & bad o' n' = bad o' (λ i. rw (n i))

-- another type
pub through : {A B X : Type 0} {c : Form A} (f : A → B) (g : B → A) {view : B → X} {s : List ℕ} {at m : ℕ} {v : X}
    → Reads c (λ a. view (f a)) s at v m → Reads (via c f g) view s at v m
through f g (got a e q h l) = got (f a) (rw e) q h l
through f g (bad o n) = bad o (λ i. rw (n i))

-- a test that is passed, and one that is not
pub kept : {A X : Type 0} {c : Form A} {f : A → X} {test : A → Bool} {s : List ℕ} {at m : ℕ} {v : X}
    → Reads c f s at v m → ((a : A) → f a ≡ v → test a ≡ true) → Reads (such test c) f s at v m
kept (got a e q h l) k = got a (rw (e, k a q)) q h l
kept (bad o n) k = bad o (λ i. rw (n i))

pub dropped : {A X Y : Type 0} {c : Form A} {f : A → X} {g : A → Y} {test : A → Bool} {s : List ℕ} {at m k : ℕ} {v : X} {w : Y}
    → Reads c f s at v m → ((a : A) → f a ≡ v → test a ≡ false) → Lost s k → Reads (such test c) g s at w k
dropped (got a e q h l) t o' = bad o' (λ i. rw (e, t a q))
dropped (bad o n) t o' = bad o' (λ i. rw (n i))

-- a size, then what has that size
pub counted : {A X : Type 0} (size : A → ℕ) (c : ℕ → Form A) {f : A → X} {s : List ℕ} {at m k n : ℕ} {v : X}
    → Reads (big 2) same s at n m → Reads (c n) f s m v k → Reads (sized size c) f s at v k
counted size c (got a e q h l) (got x e' q' h' l') = got x (rw (e, q, e')) q' (le_trans h h') l'
counted size c (got a e q h l) (bad o n) = bad o (λ i. rw (e, q, n l))
counted size c {m = m} {k = k} (bad o n) (got x e' q' h' l') = beyond _ m k o h' l'
counted size c (bad o n) (bad o' n') = bad o' (λ i. rw (n i))

-- ---- a byte

module _ (s : List ℕ) (at n : ℕ) where
  pub byte_got : at < length s → get_or s at 0 < n → Reads (below n) same s at (get_or s at 0) (at + 1)
  byte_got h b = got (get_or s at 0) (rw (drop-cons s at 0 h, lt-ltb _ _ b, add-one)) refl (omega arith) (omega arith)

  pub byte_over : {v k : ℕ} → Lost s k → n ≤ get_or s at 0 → Reads (below n) same s at v k
  byte_over o b =
      bad o (λ i. ⊎_elim (λ e. rw (drop_of_length-le s {i = at} e)) (λ h. rw (drop-cons s at 0 h, le-ltb _ _ b)) (le_or_lt (length s) at))

  pub byte_end : {v k : ℕ} → Lost s k → length s ≤ at → Reads (below n) same s at v k
  byte_end o h = bad o (λ i. rw (drop_of_length-le s {i = at} h))

-- ---- enums

-- the form of the case at a position
abbrev pub form_at : {B : Type 0} (cs : List (Case B)) (i : ℕ) → Form (FieldsAt cs i)
form_at [] i = never
form_at (c ∷ cs) zero = c.form
form_at (c ∷ cs) (suc i) = form_at cs i

read_at_lem : {B : Type 0} (cs : List (Case B)) (i : ℕ) (bs : List ℕ)
    → read_at cs i bs ≡ and_then ((form_at cs i).read bs) (λ x r. some (make_at cs i x, r))
read_at_lem [] i bs = refl
read_at_lem (c ∷ cs) zero bs = refl
read_at_lem (c ∷ cs) (suc i) bs = read_at_lem cs i bs

no_case : {B : Type 0} (cs : List (Case B)) (i : ℕ) (bs : List ℕ) → length cs ≤ i → read_at cs i bs ≡ none
no_case [] i bs h = refl
no_case (c ∷ cs) zero bs h = absurd (no (length cs) h)
  where
    no : (n : ℕ) → suc n ≤ 0 → ⊥
    no n h = omega arith
no_case (c ∷ cs) (suc i) bs h = no_case cs i bs (le_of_suc-le-suc h)

module _ {B : Type 0} (cs : List (Case B)) (split : B → (i : ℕ) × FieldsAt cs i) where
  no_byte : (bs : List ℕ) → below_in (length cs) bs ≡ none → read_case cs bs ≡ none
  no_byte [] e = refl
  no_byte (b ∷ bs) e = go (ltb b (length cs)) refl e
    where
      go : (t : Bool) → ltb b (length cs) ≡ t → cond {A = Option (ℕ × List ℕ)} t (some (b, bs)) none ≡ none → read_at cs b bs ≡ none
      go true p q = absurd (let z : ◌≡◌ {A = ℕ} 0 1 = cc in omega arith)
      go false p q = no_case cs b bs (ltb-false b (length cs) p)

  a_byte : (bs : List ℕ) (i : ℕ) (r : List ℕ) → below_in (length cs) bs ≡ some (i, r)
      → read_case cs bs ≡ and_then ((form_at cs i).read r) (λ x t. some (make_at cs i x, t))
  a_byte bs i r e = ap (read_case cs) ((below_lawful (length cs)).forth bs (i, r) e).0 ∙ read_at_lem cs i r

  -- the position i, then the fields of the case there
  pub chosen : {X Y : Type 0} {view : B → Y} {s : List ℕ} {at m k b : ℕ} {v : X} {w : Y} (i : ℕ) {f : FieldsAt cs i → X}
      → Reads (below (length cs)) same s at b m → b ≡ i → Reads (form_at cs i) f s m v k
      → ((x : FieldsAt cs i) → f x ≡ v → view (make_at cs i x) ≡ w)
      → Reads (enum cs split) view s at w k
  chosen {s = s} {at = at} {m = m} i (got a e q h l) p (got x e' q' h' l') t =
      let z : below_in (length cs) (drop at s) ≡ some (i, drop m s) = e ∙ ap (λ (j : ℕ). some (j, drop m s)) (q ∙ p) in
      got (make_at cs i x) (a_byte (drop at s) i (drop m s) z ∙ rw e') (t x q') (le_trans h h') l'
  chosen {s = s} {at = at} {m = m} i (got a e q h l) p (bad o n) t =
      let z : below_in (length cs) (drop at s) ≡ some (i, drop m s) = e ∙ ap (λ (j : ℕ). some (j, drop m s)) (q ∙ p) in
      bad o (λ j. a_byte (drop at s) i (drop m s) z ∙ rw (n l))
  chosen {m = m} {k = k} i (bad o n) p (got x e' q' h' l') t = beyond _ m k o h' l'
  chosen {s = s} {at = at} i (bad o n) p (bad o' n') t = bad o' (λ j. no_byte (drop at s) (n j))

-- an optional value: a byte 0, or 1 and the value
module _ {A : Type 0} (c : Form A) {X : Type 0} {view : Option A → X} {s : List ℕ} {at m b : ℕ} where
  pub absent : {w : X} → Number (below 2) 2 s at b m → b ≡ 0 → view none ≡ w → Reads (opt c) view s at w m
  absent r p q = chosen (options c) (split_option c) 0 {f = λ (u : Unit {0}). u} r.reads p (nothing s m) (λ x e. q)

  pub present : {Y : Type 0} {f : A → Y} {k : ℕ} {v : Y} {w : X}
      → Number (below 2) 2 s at b m → (b ≡ 0 → ⊥) → Reads c f s m v k
      → ((a : A) → f a ≡ v → view (some a) ≡ w) → Reads (opt c) view s at w k
  present r n g t = chosen (options c) (split_option c) 1 r.reads (one b r.small n) g t
    where
      one : (b : ℕ) → b < 2 → (b ≡ 0 → ⊥) → b ≡ 1
      one b h n = omega arith

-- what `take_opt` gives, where `take` reads a form
pub optional : {A X : Type 0} (c : Form A) {f : A → X} (view : Option A → Optional X) {take : ℕ → Taken X → Type 0} {s : List ℕ}
    {at next : ℕ} {v : Optional X}
    → view none ≡ None → ((a : A) → view (some a) ≡ Some (f a)) → ReadsOption take s at v next
    → ((m : ℕ) (x : Taken X) → take m x → Reads c f s m x.v x.next) → Reads (opt c) view s at v next
optional c view n t (missing r p q) g = absent c r p (n ∙ sym q)
optional c view {s = s} {at = at} {v = v} n t (there {m = m} {x = x} r p y q e) g =
    subst (λ (k : ℕ). Reads (opt c) view s at v k) (sym e) (present c r p (g m x y) (λ a i. t a ∙ ap Some i ∙ sym q))

-- the same for what is equal
pub given : {A X : Type 0} {c : Form A} {f : A → X} {s : List ℕ} {m : ℕ} {x y : Taken X} → x ≡ y → Reads c f s m y.v y.next
    → Reads c f s m x.v x.next
given {c = c} {f = f} {s = s} {m = m} e r = subst (λ (z : Taken _). Reads c f s m z.v z.next) (sym e) r

-- a keyframe's time: the first case is a percent
pub time : {s : List ℕ} {at m b k : ℕ} {v : Float} → Number (below 2) 2 s at b m → Reads word f32 s m v k
    → Reads time_form time_view s at (eqb b 0, v) k
time {b = zero} r x = chosen time_cases split_time 0 r.reads refl x (λ y e i. (true, e i))
time {b = suc zero} r x = chosen time_cases split_time 1 r.reads refl x (λ y e i. (false, e i))
time {b = suc (suc b)} r x = absurd (no b r.small)
  where
    no : (b : ℕ) → suc (suc b) < 2 → ⊥
    no b h = omega arith

-- ---- a number in bytes: one law for every width

some_room : (k : ℕ) → 0 < 256 ^ k
some_room zero = omega arith
some_room (suc k) = rw pow-suc (more (256 ^ k) (some_room k))
  where
    more : (p : ℕ) → 0 < p → 0 < p * 256
    more p h = omega arith

pub grow : (k v b : ℕ) → v < 256 ^ k → b < 256 → v * 256 + b < 256 ^ (k + 1)
grow k v b h l = rw (add-one, pow-suc) (more (256 ^ k) v b h l)
  where
    more : (p v b : ℕ) → v < p → b < 256 → v * 256 + b < p * 256
    more p v b h l = omega arith

-- one more byte fits a u32
pub room : (k v b : ℕ) → k < 4 → v < 256 ^ k → b < 256 → v * 256 + b < 4294967296
room zero v b l h q = omega arith
room (suc zero) v b l h q = omega arith
room (suc (suc zero)) v b l h q = omega arith
room (suc (suc (suc zero))) v b l h q = omega arith
room (suc (suc (suc (suc k)))) v b l h q = omega arith

length-big : (j v : ℕ) → length ((big j).write v) ≡ j
length-big zero v = refl
length-big (suc j) v = rw length-append (let h = length-big j (v / 256) in omega arith)

-- it has as many bytes as it is wide
big_needs : (j : ℕ) (bs : List ℕ) → length bs < j → (big j).read bs ≡ none
big_needs j bs h = go ((big j).read bs) refl
  where
    go : (o : Option (ℕ × List ℕ)) → (big j).read bs ≡ o → o ≡ none
    go none e = refl
    go (some z) e =
        let b = ap length ((big_lawful j).forth bs z e).0 ∙ length-append ((big j).write z.0) z.1 in
        let c = length-big j z.0 in
        absurd (omega arith)

module _ (s : List ℕ) (at : ℕ) where
  pub big-next : (k v : ℕ) → at + k < length s → get_or s (at + k) 0 < 256 → (big k).read (drop at s) ≡ some (v, drop (at + k) s)
      → (big (k + 1)).read (drop at s) ≡ some (v * 256 + get_or s (at + k) 0, drop (at + (k + 1)) s)
  big-next k v h b e =
      let q : at + (k + 1) ≡ suc (at + k) = omega arith in
      rw (q, add-one, e, drop-cons s (at + k) 0 h, lt-ltb _ _ b)

  -- j bytes are wanted: the bytes ended before; they end behind less than j; k are read, and that is all
  pub big_lost : (j : ℕ) {m : ℕ} → Lost s at → Lost s m → Number (big j) (256 ^ j) s at 0 m
  big_lost j h o = record { reads = stays_lost (big j) s h o; small = some_room j }

  pub big_short : (j : ℕ) {m : ℕ} → at ≤ length s → length s - at < j → Lost s m → Number (big j) (256 ^ j) s at 0 m
  big_short j h l o = record { reads = bad o (λ i. big_needs j (drop at s) (rw length-drop l)); small = some_room j }

  pub big_got : (j k v : ℕ) → k ≡ j → (big k).read (drop at s) ≡ some (v, drop (at + k) s) → at + j ≤ length s → v < 256 ^ k
      → Number (big j) (256 ^ j) s at v (at + j)
  big_got j k v q e l r = subst (λ (k : ℕ). Number (big k) (256 ^ k) s at v (at + k)) q
      (record { reads = got v e refl (omega arith) (omega (arith, q, l)); small = r })

-- ---- so many of a form

pub each_none : {A X : Type 0} (c : Form A) (h : List A → X) (s : List ℕ) (at : ℕ) → Reads (each c 0) h s at (h []) at
each_none c h s at = ⊎_elim (λ l. got [] refl refl (omega arith) l) (λ l. stays_lost (each c 0) s l l) (le_or_lt at (length s))

pub each_next : {A X Y Z : Type 0} {c : Form A} {f : A → X} (j : ℕ) {g : List A → Y} (h : List A → Z) {s : List ℕ} {at m k : ℕ} {v : X}
    {w : Y} {z : Z}
    → Reads c f s at v m → Reads (each c j) g s m w k
    → ((x : A) (xs : List A) → f x ≡ v → g xs ≡ w → h (x ∷ xs) ≡ z)
    → Reads (each c (suc j)) h s at z k
each_next j h (got a e q l r) (got b e' q' l' r') t = got (a ∷ b) (rw (e, e')) (t a b q q') (le_trans l l') r'
each_next j h (got a e q l r) (bad o n) t = bad o (λ i. rw (e, n r))
each_next j h {m = m} {k = k} (bad o n) (got b e' q' l' r') t = beyond _ m k o l' r'
each_next j h (bad o n) (bad o' n') t = bad o' (λ i. rw (n i))

-- a walk over n of them that has come to the place a behind k
module _ {A : Type 0} (c : Form A) (s : List ℕ) (at n : ℕ) where
  abbrev pub Walk : ℕ → ℕ → Type 0
  Walk a k = (m : ℕ) → Reads (each c (n - k)) length s a (n - k) m → Reads (each c n) length s at n m

  pub walk_start : Walk at 0
  walk_start m r = let e : n - 0 ≡ n = omega arith in rw e at r

  pub walk-next : {X : Type 0} {f : A → X} {v : X} (a k b : ℕ) → k < n → Reads c f s a v b → Walk a k → Walk b (k + 1)
  walk-next a k b l r w m q =
      let e : n - k ≡ suc (n - (k + 1)) = omega arith in
      w m (rw e (each_next (n - (k + 1)) length r q (λ x xs h g. ap suc g)))

  pub walk_done : (a k : ℕ) → n ≤ k → Walk a k → Reads (each c n) length s at n a
  walk_done a k l w = let e : n - k ≡ 0 = omega arith in w a (rw e (each_none c length s a))
