-- A form is lawful for the values that pass `ok`: what it writes it reads back, and whatever it reads it would have written.
use Prim.Native.Nat.{ℕ, zero, suc, ◌+◌, ◌*◌, ◌/◌, ◌%◌, ◌<◌}
use mathlib.Core.Bool.{Bool, true, false, cond}
use mathlib.Core.List.{List, [], ◌∷◌, ◌++◌, append_assoc}
use mathlib.Core.Option.{Option, none, some, some-injective}
use mathlib.Core.Path.{◌≡◌, refl, sym, ◌∙◌, ap, subst, subst⁻¹}
use native.Mathlib.Nat.{mod-lt, div-add-mod'}
use native.Mathlib.Omega.{arith}
use lib.Dec.{T, ltb, ltb→lt, lt→ltb, lit<}
use lib.ListN.{length}
use Rattle.codec.specs.Codec.{
  Reader,
  Form,
  and_then,
  step,
  empty,
  never,
  such,
  below,
  below_in,
  ◌▹◌,
  via,
  big,
  Case,
  FieldsAt,
  write_at,
  read_at,
  read_case,
  enum,
  options,
  split_option,
  opt,
  sized,
  each,
  each_in,
  each_out,
  many,
}

pub record Lawful {A : Type 0} (c : Form A) (ok : A → Type 0) : Type 0 where
  pub back : (a : A) → ok a → (r : List ℕ) → c.read (c.write a ++ r) ≡ some (a, r)
  pub forth : (bs : List ℕ) (z : A × List ℕ) → c.read bs ≡ some z → (bs ≡ c.write z.0 ++ z.1) × ok z.0

abbrev is_some : {A : Type 0} → Option A → Type 0
is_some none = ⊥
is_some (some a) = Unit {0}

none≢ : {A : Type 0} {B : Type 0} {a : A} → Path (Option A) none (some a) → B
none≢ {a = a} e = absurd (subst⁻¹ is_some e tt)

-- what a step that succeeds has gone through
pub inverse : {A B : Type 0} (o : Option (A × List ℕ)) (f : A → Reader B) (z : B × List ℕ) → and_then o f ≡ some z
    → (y : A × List ℕ) × (o ≡ some y) × (f y.0 y.1 ≡ some z)
inverse none f z e = none≢ e
inverse (some y) f z e = (y, refl, e)

pub empty_lawful : Lawful empty (λ u. Unit {0})
empty_lawful = record {
  back = λ a h r. refl;
  forth = λ bs z e. subst (λ (y : Unit {0} × List ℕ). (bs ≡ y.1) × Unit {0}) (some-injective (tt, bs) z e) (refl, tt);
}

is_true : (b : Bool) → T b → b ≡ true
is_true true t = refl
is_true false t = absurd t

below_back : (n b : ℕ) → b < n → (r : List ℕ) → below_in n (b ∷ r) ≡ some (b, r)
below_back n b h r = ap (λ (t : Bool). cond t (some (b, r)) none) (is_true (ltb b n) (lt→ltb b n h))

cond_forth : (t : Bool) (n b : ℕ) (bs : List ℕ) (z : ℕ × List ℕ) → (T t → b < n) → cond t (some (b, bs)) none ≡ some z
    → (b ∷ bs ≡ z.0 ∷ [] ++ z.1) × (z.0 < n)
cond_forth true n b bs z h e =
    subst (λ (y : ℕ × List ℕ). (b ∷ bs ≡ y.0 ∷ [] ++ y.1) × (y.0 < n)) (some-injective (b, bs) z e) (refl, h tt)
cond_forth false n b bs z h e = none≢ e

below_forth : (n : ℕ) (bs : List ℕ) (z : ℕ × List ℕ) → below_in n bs ≡ some z → (bs ≡ z.0 ∷ [] ++ z.1) × (z.0 < n)
below_forth n [] z e = none≢ e
below_forth n (b ∷ bs) z e = cond_forth (ltb b n) n b bs z (ltb→lt b n) e

pub below_lawful : (n : ℕ) → Lawful (below n) (λ b. b < n)
below_lawful n = record { back = below_back n; forth = below_forth n }

module _ {A B : Type 0} (c : Form A) (d : Form B) (P : A → Type 0) (Q : B → Type 0) (lc : Lawful c P) (ld : Lawful d Q) where
  after : A → Reader (A × B)
  after a = step d.read (λ b bs. some ((a, b), bs))

  pub both_back : (p : A × B) → P p.0 × Q p.1 → (r : List ℕ) → (c ▹ d).read ((c ▹ d).write p ++ r) ≡ some (p, r)
  both_back p h r =
      ap (λ (l : List ℕ). (c ▹ d).read l) (append_assoc (c.write p.0) (d.write p.1) r)
      ∙ ap (λ (o : Option (A × List ℕ)). and_then o (λ a. step d.read (λ b bs. some ((a, b), bs))))
      (lc.back p.0 h.0 (d.write p.1 ++ r))
      ∙ ap (λ (o : Option (B × List ℕ)). and_then o (λ b bs. some ((p.0, b), bs))) (ld.back p.1 h.1 r)

  pub both_forth : (bs : List ℕ) (z : (A × B) × List ℕ) → (c ▹ d).read bs ≡ some z
      → (bs ≡ (c ▹ d).write z.0 ++ z.1) × (P z.0.0 × Q z.0.1)
  both_forth bs z e =
      let (y, o, e₁) = inverse (c.read bs) (λ a. step d.read (λ b cs. some ((a, b), cs))) z e in
      let (x, o₁, e₂) = inverse (d.read y.1) (λ b cs. some ((y.0, b), cs)) z e₁ in
      let f = lc.forth bs y o in
      let g = ld.forth y.1 x o₁ in
      subst (λ (w : (A × B) × List ℕ). (bs ≡ (c ▹ d).write w.0 ++ w.1) × (P w.0.0 × Q w.0.1))
      (some-injective ((y.0, x.0), x.1) z e₂) (
        f.0 ∙ ap (λ (l : List ℕ). c.write y.0 ++ l) g.0 ∙ sym (append_assoc (c.write y.0) (d.write x.0) x.1),
        (f.1, g.1),
      )

  pub both_lawful : Lawful (c ▹ d) (λ p. P p.0 × Q p.1)
  both_lawful = record { back = both_back; forth = both_forth }

-- another type: g and f undo each other where the values are ok
module _ {A B : Type 0} (c : Form A) (f : A → B) (g : B → A) (P : A → Type 0) (Q : B → Type 0) (lc : Lawful c P)
    (there : (b : B) → Q b → P (g b)) (same : (b : B) → Q b → f (g b) ≡ b)
    (ok : (a : A) → P a → Q (f a)) (again : (a : A) → P a → g (f a) ≡ a) where
  via_back : (b : B) → Q b → (r : List ℕ) → (via c f g).read ((via c f g).write b ++ r) ≡ some (b, r)
  via_back b h r =
      ap (λ (o : Option (A × List ℕ)). and_then o (λ a bs. some (f a, bs))) (lc.back (g b) (there b h) r)
      ∙ ap {B = Option (B × List ℕ)} (λ (x : B). some (x, r)) (same b h)

  via_forth : (bs : List ℕ) (z : B × List ℕ) → (via c f g).read bs ≡ some z → (bs ≡ (via c f g).write z.0 ++ z.1) × Q z.0
  via_forth bs z e = go (inverse (c.read bs) (λ a cs. some (f a, cs)) z e)
    where
      go : (y : A × List ℕ) × (c.read bs ≡ some y) × (some (f y.0, y.1) ≡ some z) → (bs ≡ (via c f g).write z.0 ++ z.1) × Q z.0
      go w =
          subst (λ (v : B × List ℕ). (bs ≡ c.write (g v.0) ++ v.1) × Q v.0)
          (some-injective (f w.0.0, w.0.1) z w.2) (
            (lc.forth bs w.0 w.1).0 ∙ ap (λ (a : A). c.write a ++ w.0.1) (sym (again w.0.0 (lc.forth bs w.0 w.1).1)),
            ok w.0.0 (lc.forth bs w.0 w.1).1,
          )

  pub via_lawful : Lawful (via c f g) Q
  via_lawful = record { back = via_back; forth = via_forth }

-- a record: taken apart and put together again it is the same
pub same_lawful : {A B : Type 0} (c : Form A) (f : A → B) (g : B → A) (P : A → Type 0) → Lawful c P
    → ((b : B) → P (g b) → f (g b) ≡ b) → ((a : A) → P a → g (f a) ≡ a) → Lawful (via c f g) (λ b. P (g b))
same_lawful c f g P lc same again = via_lawful c f g P (λ b. P (g b)) lc (λ b h. h) same (λ a h. subst⁻¹ P (again a h) h) again

such_back : {A : Type 0} (test : A → Bool) (c : Form A) (P : A → Type 0) → Lawful c P → (a : A) → P a × T (test a) → (r : List ℕ)
    → (such test c).read ((such test c).write a ++ r) ≡ some (a, r)
such_back {A} test c P lc a h r =
    ap (λ (o : Option (A × List ℕ)). and_then o (λ x bs. cond (test x) (some (x, bs)) none)) (lc.back a h.0 r)
    ∙ ap (λ (t : Bool). cond t (some (a, r)) none) (is_true (test a) h.1)

cond-such : {A : Type 0} (t : Bool) (y z : A × List ℕ) → cond t (some y) none ≡ some z → T t × (y ≡ z)
cond-such true y z e = (tt, some-injective y z e)
cond-such false y z e = none≢ e

such_forth : {A : Type 0} (test : A → Bool) (c : Form A) (P : A → Type 0) → Lawful c P → (bs : List ℕ) (z : A × List ℕ)
    → (such test c).read bs ≡ some z → (bs ≡ c.write z.0 ++ z.1) × (P z.0 × T (test z.0))
such_forth {A} test c P lc bs z e = go (inverse (c.read bs) (λ x cs. cond (test x) (some (x, cs)) none) z e)
  where
    go : (y : A × List ℕ) × (c.read bs ≡ some y) × (cond (test y.0) (some (y.0, y.1)) none ≡ some z)
        → (bs ≡ c.write z.0 ++ z.1) × (P z.0 × T (test z.0))
    go w =
        let q = cond-such (test w.0.0) w.0 z w.2 in
        let f = lc.forth bs w.0 w.1 in
        subst (λ (v : A × List ℕ). (bs ≡ c.write v.0 ++ v.1) × (P v.0 × T (test v.0))) q.1 (f.0, (f.1, q.0))

pub such_lawful : {A : Type 0} (test : A → Bool) (c : Form A) (P : A → Type 0) → Lawful c P → Lawful (such test c) (λ a. P a × T (test a))
such_lawful test c P lc = record { back = such_back test c P lc; forth = such_forth test c P lc }

pub never_lawful : {A : Type 0} → Lawful (never {A = A}) (λ a. ⊥)
never_lawful = record { back = λ a h r. absurd h; forth = λ bs z e. none≢ e }

-- ---- whole numbers: a number in k bytes is below 256 ^ k, over any width

abbrev pub Small : ℕ → ℕ → Type 0
Small zero n = n ≡ 0
Small (suc k) n = Small k (n / 256)

pub big_lawful : (k : ℕ) → Lawful (big k) (Small k)
big_lawful zero =
    via_lawful empty (λ u. 0) (λ n. tt) (λ u. Unit {0}) (λ n. n ≡ 0) empty_lawful (λ b h. tt) (λ b h. sym h) (λ a h. refl) (λ a h. refl)
big_lawful (suc k) =
    via_lawful (big k ▹ below 256) (λ p. p.0 * 256 + p.1) (λ n. (n / 256, n % 256)) (λ p. Small k p.0 × (p.1 < 256))
    (λ n. Small k (n / 256))
    (both_lawful (big k) (below 256) (Small k) (λ b. b < 256) (big_lawful k) (below_lawful 256))
    (λ b h. (h, mod-lt b (lit< tt))) (λ b h. div-add-mod' b 256)
    (λ p h. subst⁻¹ (Small k) (quot p h.1) h.0) (λ p h. λ i. (quot p h.1 i, rest p h.1 i))
  where
    quot : (p : ℕ × ℕ) → p.1 < 256 → (p.0 * 256 + p.1) / 256 ≡ p.0
    quot p h = omega arith

    rest : (p : ℕ × ℕ) → p.1 < 256 → (p.0 * 256 + p.1) % 256 ≡ p.1
    rest p h = omega arith

-- ---- a size, then what has that size

module _ {A : Type 0} (size : A → ℕ) (c : ℕ → Form A) (ok : A → Type 0) (lc : (n : ℕ) → Lawful (c n) (λ a. (size a ≡ n) × ok a)) where
  sized_back : (a : A) → Small 2 (size a) × ok a → (r : List ℕ) → (sized size c).read ((sized size c).write a ++ r) ≡ some (a, r)
  sized_back a h r =
      ap (λ (l : List ℕ). (sized size c).read l) (append_assoc ((big 2).write (size a)) ((c (size a)).write a) r)
      ∙ ap (λ (o : Option (ℕ × List ℕ)). and_then o (λ n. (c n).read)) ((big_lawful 2).back (size a) h.0 ((c (size a)).write a ++ r))
      ∙ (lc (size a)).back a (refl, h.1) r

  sized_forth : (bs : List ℕ) (z : A × List ℕ) → (sized size c).read bs ≡ some z
      → (bs ≡ (sized size c).write z.0 ++ z.1) × (Small 2 (size z.0) × ok z.0)
  sized_forth bs z e = go (inverse ((big 2).read bs) (λ n. (c n).read) z e)
    where
      go : (y : ℕ × List ℕ) × ((big 2).read bs ≡ some y) × ((c y.0).read y.1 ≡ some z)
          → (bs ≡ (sized size c).write z.0 ++ z.1) × (Small 2 (size z.0) × ok z.0)
      go w =
          let f = (big_lawful 2).forth bs w.0 w.1 in
          let g = (lc w.0.0).forth w.0.1 z w.2 in (
            f.0 ∙ ap (λ (l : List ℕ). (big 2).write w.0.0 ++ l) g.0
                ∙ ap (λ (n : ℕ). (big 2).write n ++ ((c n).write z.0 ++ z.1)) (sym g.1.0)
                ∙ sym (append_assoc ((big 2).write (size z.0)) ((c (size z.0)).write z.0) z.1),
            (subst⁻¹ (Small 2) g.1.0 f.1, g.1.1),
          )

  pub sized_lawful : Lawful (sized size c) (λ a. Small 2 (size a) × ok a)
  sized_lawful = record { back = sized_back; forth = sized_forth }

-- ---- lists

abbrev pub All : {A : Type 0} → (A → Type 0) → List A → Type 0
All P [] = Unit {0}
All P (x ∷ xs) = P x × All P xs

module _ {A : Type 0} (c : Form A) (P : A → Type 0) (lc : Lawful c P) where
  each_back : (xs : List A) (n : ℕ) → (length xs ≡ n) × All P xs → (r : List ℕ)
      → each_in c.read n (each_out c.write xs ++ r) ≡ some (xs, r)
  each_back xs n h r = subst (λ (m : ℕ). each_in c.read m (each_out c.write xs ++ r) ≡ some (xs, r)) h.0 (go xs h.1 r)
    where
      go : (xs : List A) → All P xs → (r : List ℕ) → each_in c.read (length xs) (each_out c.write xs ++ r) ≡ some (xs, r)
      go [] h r = refl
      go (x ∷ xs) h r =
          ap (λ (l : List ℕ). each_in c.read (suc (length xs)) l) (append_assoc (c.write x) (each_out c.write xs) r)
          ∙ ap (λ (o : Option (A × List ℕ)). and_then o (λ y. step (each_in c.read (length xs)) (λ ys cs. some (y ∷ ys, cs))))
          (lc.back x h.0 (each_out c.write xs ++ r))
          ∙ ap (λ (o : Option (List A × List ℕ)). and_then o (λ ys cs. some (x ∷ ys, cs))) (go xs h.1 r)

  each_forth : (n : ℕ) (bs : List ℕ) (z : List A × List ℕ) → each_in c.read n bs ≡ some z
      → (bs ≡ each_out c.write z.0 ++ z.1) × ((length z.0 ≡ n) × All P z.0)
  each_forth zero bs z e =
      subst (λ (y : List A × List ℕ). (bs ≡ each_out c.write y.0 ++ y.1) × ((length y.0 ≡ 0) × All P y.0))
      (some-injective ([], bs) z e) (refl, (refl, tt))
  each_forth (suc n) bs z e =
      go (inverse (c.read bs) (λ y. step (each_in c.read n) (λ ys cs. some (y ∷ ys, cs))) z e) (λ b w. each_forth n b w)
    where
      Goal : List A × List ℕ → Type 0
      Goal y = (bs ≡ each_out c.write y.0 ++ y.1) × ((length y.0 ≡ suc n) × All P y.0)

      end : (y : A × List ℕ) → c.read bs ≡ some y
          → ((b : List ℕ) (w : List A × List ℕ) → each_in c.read n b ≡ some w
          → (b ≡ each_out c.write w.0 ++ w.1) × ((length w.0 ≡ n) × All P w.0))
          → (x : List A × List ℕ) × (each_in c.read n y.1 ≡ some x) × (some (y.0 ∷ x.0, x.1) ≡ some z) → Goal z
      end y o ih w =
          let f = lc.forth bs y o in
          let g = ih y.1 w.0 w.1 in
          subst Goal (some-injective (y.0 ∷ w.0.0, w.0.1) z w.2) (
            f.0 ∙ ap (λ (l : List ℕ). c.write y.0 ++ l) g.0
                ∙ sym (append_assoc (c.write y.0) (each_out c.write w.0.0) w.0.1),
            (ap suc g.1.0, (f.1, g.1.1)),
          )

      go : (y : A × List ℕ) × (c.read bs ≡ some y) × (step (each_in c.read n) (λ ys cs. some (y.0 ∷ ys, cs)) y.1 ≡ some z)
          → ((b : List ℕ) (w : List A × List ℕ) → each_in c.read n b ≡ some w
          → (b ≡ each_out c.write w.0 ++ w.1) × ((length w.0 ≡ n) × All P w.0))
          → Goal z
      go w ih = end w.0 w.1 ih (inverse (each_in c.read n w.0.1) (λ ys cs. some (w.0.0 ∷ ys, cs)) z w.2)

  pub each_lawful : (n : ℕ) → Lawful (each c n) (λ xs. (length xs ≡ n) × All P xs)
  each_lawful n = record { back = λ xs h r. each_back xs n h r; forth = each_forth n }

  pub many_lawful : Lawful (many c) (λ xs. Small 2 (length xs) × All P xs)
  many_lawful = sized_lawful length (each c) (All P) each_lawful

-- ---- what a form takes, with the proof that it is lawful for that: one law for each way to make a form

pub record Law {A : Type 0} (c : Form A) : Type 1 where
  pub ok : A → Type 0
  pub law : Lawful c ok

abbrev pub empty_l : Law empty
empty_l = record { ok = λ u. Unit {0}; law = empty_lawful }

abbrev pub never_l : {A : Type 0} → Law (never {A = A})
never_l = record { ok = λ a. ⊥; law = never_lawful }

abbrev pub below_l : (n : ℕ) → Law (below n)
below_l n = record { ok = λ b. b < n; law = below_lawful n }

abbrev pub big_l : (k : ℕ) → Law (big k)
big_l k = record { ok = Small k; law = big_lawful k }

infixr 20 ◌&◌
abbrev pub ◌&◌ : {A B : Type 0} {c : Form A} {d : Form B} → Law c → Law d → Law (c ▹ d)
◌&◌ {c = c} {d = d} l m = record { ok = λ p. l.ok p.0 × m.ok p.1; law = both_lawful c d l.ok m.ok l.law m.law }

abbrev pub such_l : {A : Type 0} {c : Form A} (test : A → Bool) → Law c → Law (such test c)
such_l {c = c} test l = record { ok = λ a. l.ok a × T (test a); law = such_lawful test c l.ok l.law }

abbrev pub many_l : {A : Type 0} {c : Form A} → Law c → Law (many c)
many_l {c = c} l = record { ok = λ xs. Small 2 (length xs) × All l.ok xs; law = many_lawful c l.ok l.law }

-- a struct: taken apart and put together again it is the same
abbrev pub struct_l : {A B : Type 0} {c : Form A} (f : A → B) (g : B → A)
    → Law c → ((b : B) → f (g b) ≡ b) → ((a : A) → g (f a) ≡ a)
    → Law (via c f g)
struct_l {c = c} f g l s t = record { ok = λ b. l.ok (g b); law = same_lawful c f g l.ok l.law (λ b h. s b) (λ a h. t a) }

-- ---- enums

-- a law for the fields of each case
abbrev pub CaseLaws : {B : Type 0} → List (Case B) → Type 1
CaseLaws [] = Unit {1}
CaseLaws (c ∷ cs) = Law c.form × CaseLaws cs

abbrev pub ok_at : {B : Type 0} (cs : List (Case B)) → CaseLaws cs → (i : ℕ) → FieldsAt cs i → Type 0
ok_at [] l i x = ⊥
ok_at (c ∷ cs) l zero x = l.0.ok x
ok_at (c ∷ cs) l (suc i) x = ok_at cs l.1 i x

-- the value of the case at a position
abbrev pub make_at : {B : Type 0} (cs : List (Case B)) (i : ℕ) → FieldsAt cs i → B
make_at [] i x = absurd x
make_at (c ∷ cs) zero x = c.make x
make_at (c ∷ cs) (suc i) x = make_at cs i x

-- what holds of each case, one after the other
abbrev pub EachCase : {B : Type 0} (cs : List (Case B)) → ((i : ℕ) → FieldsAt cs i → Type 0) → Type 0
EachCase [] P = Unit {0}
EachCase (c ∷ cs) P = ((x : c.Fields) → P zero x) × EachCase cs (λ i x. P (suc i) x)

pub each-case : {B : Type 0} (cs : List (Case B)) (P : (i : ℕ) → FieldsAt cs i → Type 0)
    → EachCase cs P → (i : ℕ) (x : FieldsAt cs i) → P i x
each-case [] P h i x = absurd x
each-case (c ∷ cs) P h zero x = h.0 x
each-case (c ∷ cs) P h (suc i) x = each-case cs (λ j y. P (suc j) y) h.1 i x

case_back : {B : Type 0} (cs : List (Case B)) (l : CaseLaws cs) (i : ℕ) (x : FieldsAt cs i) → ok_at cs l i x → (r : List ℕ)
    → read_at cs i (write_at cs i x ++ r) ≡ some (make_at cs i x, r)
case_back [] l i x h r = absurd x
case_back (c ∷ cs) l zero x h r = ap (λ (o : Option (c.Fields × List ℕ)). and_then o (λ y bs. some (c.make y, bs))) (l.0.law.back x h r)
case_back (c ∷ cs) l (suc i) x h r = case_back cs l.1 i x h r

case_forth : {B : Type 0} (cs : List (Case B)) (l : CaseLaws cs) (i : ℕ) (bs : List ℕ) (z : B × List ℕ) → read_at cs i bs ≡ some z
    → (x : FieldsAt cs i) × (bs ≡ write_at cs i x ++ z.1) × ok_at cs l i x × (make_at cs i x ≡ z.0)
case_forth [] l i bs z e = none≢ e
case_forth (c ∷ cs) l zero bs z e =
    let (y, o, q) = inverse (c.form.read bs) (λ x r. some (c.make x, r)) z e in
    let f = l.0.law.forth bs y o in
    let w = some-injective (c.make y.0, y.1) z q in
    (y.0, f.0 ∙ ap (λ v. c.form.write y.0 ++ v.1) w, f.1, ap (λ v. v.0) w)
case_forth (c ∷ cs) l (suc i) bs z e = case_forth cs l.1 i bs z e

module _ {B : Type 0} (cs : List (Case B)) (split : B → (i : ℕ) × FieldsAt cs i) (l : CaseLaws cs)
    (same : (b : B) → make_at cs (split b).0 (split b).1 ≡ b)
    (again : EachCase cs (λ i x. Prim.Path ((j : ℕ) × FieldsAt cs j) (split (make_at cs i x)) (i, x))) where
  abbrev pub Ok : B → Type 0
  Ok b = ok_at cs l (split b).0 (split b).1

  pub enum_back : (b : B) → Ok b → (r : List ℕ) → (enum cs split).read ((enum cs split).write b ++ r) ≡ some (b, r)
  enum_back b h r = case_back cs l (split b).0 (split b).1 h r ∙ ap {B = Option (B × List ℕ)} (λ x. some (x, r)) (same b)

  pub enum_forth : (bs : List ℕ) (z : B × List ℕ) → read_case cs bs ≡ some z → (bs ≡ (enum cs split).write z.0 ++ z.1) × Ok z.0
  enum_forth [] z e = none≢ e
  enum_forth (i ∷ bs) z e = go (case_forth cs l i bs z e)
    where
      Goal : (j : ℕ) × FieldsAt cs j → Type 0
      Goal p = (i ∷ bs ≡ p.0 ∷ write_at cs p.0 p.1 ++ z.1) × ok_at cs l p.0 p.1

      go : (x : FieldsAt cs i) × (bs ≡ write_at cs i x ++ z.1) × ok_at cs l i x × (make_at cs i x ≡ z.0)
          → (i ∷ bs ≡ (enum cs split).write z.0 ++ z.1) × Ok z.0
      go w =
          subst (λ (b : B). Goal (split b)) w.3
          (subst⁻¹ Goal (each-case cs (λ j y. Prim.Path ((k : ℕ) × FieldsAt cs k) (split (make_at cs j y)) (j, y)) again i w.0)
          (ap (λ (t : List ℕ). i ∷ t) w.1, w.2))

  abbrev pub enum_l : Law (enum cs split)
  enum_l = record { ok = Ok; law = record { back = enum_back; forth = enum_forth } }

pub option-same : {A : Type 0} (c : Form A) (b : Option A) → make_at (options c) (split_option c b).0 (split_option c b).1 ≡ b
option-same c none = refl
option-same c (some a) = refl

abbrev pub opt_l : {A : Type 0} {c : Form A} → Law c → Law (opt c)
opt_l {c = c} l = enum_l (options c) (split_option c) (empty_l, (l, tt)) (option-same c) ((λ u. refl), ((λ a. refl), tt))
