-- Forms of bytes: how a value is written, and how it is read back.
use Rattle.std.specs.Prelude.{ℕ, zero, suc, ◌+◌, ◌*◌, ◌/◌, ◌%◌, Bool, cond, List, [], ◌∷◌, ◌++◌, ltb, length}
use Rattle.std.proofs.Math.Option.{Option, none, some}

-- what stands at the front of some bytes, and the bytes behind it
abbrev pub Reader : Type 0 → Type 0
Reader A = List ℕ → Option (A × List ℕ)

pub record Form (A : Type 0) : Type 0 where
  pub write : A → List ℕ
  pub read : Reader A

abbrev pub and_then : {A B : Type 0} → Option (A × List ℕ) → (A → Reader B) → Option (B × List ℕ)
and_then none f = none
and_then (some r) f = f r.0 r.1

abbrev pub step : {A B : Type 0} → Reader A → (A → Reader B) → Reader B
step p f bs = and_then (p bs) f

-- no bytes
abbrev pub empty : Form (Unit {0})
empty = record { write = λ u. []; read = λ bs. some (tt, bs) }

-- no value
abbrev pub never : {A : Type 0} → Form A
never = record { write = λ a. []; read = λ bs. none }

-- one byte below n
abbrev pub below_in : ℕ → Reader ℕ
below_in n [] = none
below_in n (b ∷ bs) = cond (ltb b n) (some (b, bs)) none

abbrev pub below : ℕ → Form ℕ
below n = record { write = λ b. b ∷ []; read = below_in n }

-- one after the other
infixr 20 ◌▹◌
abbrev pub ◌▹◌ : {A B : Type 0} → Form A → Form B → Form (A × B)
c ▹ d = record {
  write = λ p. c.write p.0 ++ d.write p.1;
  read = step c.read (λ a. step d.read (λ b bs. some ((a, b), bs)));
}

-- the same bytes for another type
abbrev pub via : {A B : Type 0} → Form A → (A → B) → (B → A) → Form B
via c f g = record { write = λ b. c.write (g b); read = step c.read (λ a bs. some (f a, bs)) }

-- only values that pass a test
abbrev pub passing : {A : Type 0} → (A → Bool) → A → List ℕ → Option (A × List ℕ)
passing test a bs = cond (test a) (some (a, bs)) none

abbrev pub such : {A : Type 0} → (A → Bool) → Form A → Form A
such test c = record { write = c.write; read = step c.read (passing test) }

-- a whole number in k bytes, the highest first
abbrev pub big : ℕ → Form ℕ
big zero = via empty (λ u. 0) (λ n. tt)
big (suc k) = via (big k ▹ below 256) (λ p. p.0 * 256 + p.1) (λ n. (n / 256, n % 256))

-- ---- enums: a byte, the case's position, then its fields

-- a case: the form of its fields, and its constructor
pub record Case (B : Type 0) : Type 1 where
  pub Fields : Type 0
  pub form : Form Fields
  pub make : Fields → B

abbrev pub case : {A B : Type 0} → Form A → (A → B) → Case B
case {A = A} c make = record { Fields = A; form = c; make = make }

-- the fields of the case at a position
abbrev pub FieldsAt : {B : Type 0} → List (Case B) → ℕ → Type 0
FieldsAt [] i = ⊥
FieldsAt (c ∷ cs) zero = c.Fields
FieldsAt (c ∷ cs) (suc i) = FieldsAt cs i

abbrev pub write_at : {B : Type 0} (cs : List (Case B)) (i : ℕ) → FieldsAt cs i → List ℕ
write_at [] i x = absurd x
write_at (c ∷ cs) zero x = c.form.write x
write_at (c ∷ cs) (suc i) x = write_at cs i x

abbrev pub read_at : {B : Type 0} → List (Case B) → ℕ → Reader B
read_at [] i bs = none
read_at (c ∷ cs) zero bs = step c.form.read (λ x r. some (c.make x, r)) bs
read_at (c ∷ cs) (suc i) bs = read_at cs i bs

abbrev pub read_case : {B : Type 0} → List (Case B) → Reader B
read_case cs [] = none
read_case cs (i ∷ bs) = read_at cs i bs

-- `split` takes a value apart: the position of its case, and its fields
abbrev pub enum : {B : Type 0} (cs : List (Case B)) → (B → (i : ℕ) × FieldsAt cs i) → Form B
enum cs split = record { write = λ b. (split b).0 ∷ write_at cs (split b).0 (split b).1; read = read_case cs }

-- "Optional: a byte 0, or 1 and the value"
abbrev pub options : {A : Type 0} → Form A → List (Case (Option A))
options c = case empty (λ u. none) ∷ case c some ∷ []

abbrev pub split_option : {A : Type 0} (c : Form A) → Option A → (i : ℕ) × FieldsAt (options c) i
split_option c none = (0, tt)
split_option c (some a) = (1, a)

abbrev pub opt : {A : Type 0} → Form A → Form (Option A)
opt c = enum (options c) (split_option c)

-- ---- lists: a count in two bytes, then the elements

-- a size in two bytes, then what has that size
abbrev pub sized : {A : Type 0} → (A → ℕ) → (ℕ → Form A) → Form A
sized size c = record { write = λ a. (big 2).write (size a) ++ (c (size a)).write a; read = step (big 2).read (λ n. (c n).read) }

abbrev pub each_in : {A : Type 0} → Reader A → ℕ → Reader (List A)
each_in p zero bs = some ([], bs)
each_in p (suc n) bs = and_then (p bs) (λ x. step (each_in p n) (λ xs r. some (x ∷ xs, r)))

abbrev pub each_out : {A : Type 0} → (A → List ℕ) → List A → List ℕ
each_out w [] = []
each_out w (x ∷ xs) = w x ++ each_out w xs

-- n of them
abbrev pub each : {A : Type 0} → Form A → ℕ → Form (List A)
each c n = record { write = each_out c.write; read = each_in c.read n }

abbrev pub many : {A : Type 0} → Form A → Form (List A)
many c = sized length (each c)
