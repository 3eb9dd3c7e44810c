-- What the answers of the functions mean, in terms of the grammar's rules. Contracts cite these.
use Rattle.std.specs.Prelude.{ℕ, List, [], ◌∷◌, ◌≡◌, Float, Option as Optional}
use Prim.Native.String.{String}
use Rattle.std.proofs.Math.Option.{some}
use Rattle.std.proofs.Math.ListN.{get_elem?}
use Rattle.number.specs.Number.{bits}
use Rattle.ast.specs.Tree as tree
use Rattle.sheet_encode.specs.Means.{Plain, PlainEasing, PlainOptFloat, easing_of, loop_of, opt_float_of, opt_word_of}
use Rattle.grammar.specs.Rule.{refused, Rule, ◌>>=◌, need, word}
use Rattle.grammar.specs.Fields.{Content, Fields, pairs, last_number}
use Rattle.grammar.specs.Values.{rough_fields, slow_mo_fields, curves, loop_modes}
use Rattle.text.specs.Bytes.{bytes}
use Rattle.text.specs.Words.{default, under}
use Rattle.error.specs.declared.Refusal.{Refusal}
use Rattle.read_cursor.specs.Means.{run, Took}
use Rattle.read_cursor.specs.declared.Cursor.{Cursor}
use Rattle.read_values.specs.declared.PairRead.{PairRead}
use Rattle.read_values.specs.declared.PairRead.TheVariants as pair
use Rattle.read_values.specs.declared.EasingRead.{EasingRead}
use Rattle.read_values.specs.declared.EasingRead.TheVariants as easing
use Rattle.read_values.specs.declared.SlowMoFields.{SlowMoFields}
use Rattle.read_values.specs.declared.SlowMoRead.{SlowMoRead}
use Rattle.read_values.specs.declared.SlowMoRead.TheVariants as slow_mo
use Rattle.read_values.specs.declared.RoughFields.{RoughFields}
use Rattle.read_values.specs.declared.RoughRead.{RoughRead}
use Rattle.read_values.specs.declared.RoughRead.TheVariants as rough
use Rattle.read_values.specs.declared.LoopRead.{LoopRead}
use Rattle.read_values.specs.declared.LoopRead.TheVariants as loop

-- the bits of two floats
abbrev pub both_bits : ℕ → ℕ → ℕ × ℕ
both_bits a b = (a, b)

-- two floats, neither of which is a NaN
pub record TookPair (s : List ℕ) (c m : Cursor) (p : Rule (ℕ × ℕ)) (a b : Float) : Type 0 where
  pub took : Took 1 s c m p (both_bits (bits a) (bits b))
  pub first : Plain a
  pub second : Plain b

abbrev pub PairMeans : List ℕ → Cursor → Rule (ℕ × ℕ) → PairRead → Type 0
PairMeans s c p (pair.Is a b m) = TookPair s c m p a b
PairMeans s c p (pair.Refused r q) = run s c p ≡ refused r q

abbrev pub EasingMeans : List ℕ → Cursor → Rule tree.EasingSpec → EasingRead → Type 0
EasingMeans s c p (easing.Is e m) = Took 1 s c m p (easing_of e) × PlainEasing e
EasingMeans s c p (easing.Refused r q) = run s c p ≡ refused r q

-- the same, where nothing may be taken
abbrev pub NamedMeans : List ℕ → Cursor → Rule tree.EasingSpec → EasingRead → Type 0
NamedMeans s c p (easing.Is e m) = Took 0 s c m p (easing_of e) × PlainEasing e
NamedMeans s c p (easing.Refused r q) = run s c p ≡ refused r q

abbrev pub LoopMeans : List ℕ → Cursor → Rule tree.LoopSpec → LoopRead → Type 0
LoopMeans s c p (loop.Is x m) = Took 1 s c m p (loop_of x)
LoopMeans s c p (loop.Refused r q) = run s c p ≡ refused r q

abbrev pub ModeMeans : List ℕ → Cursor → Rule tree.LoopSpec → LoopRead → Type 0
ModeMeans s c p (loop.Is x m) = Took 0 s c m p (loop_of x)
ModeMeans s c p (loop.Refused r q) = run s c p ≡ refused r q

-- the curve, and the mode, at a place of their tables
abbrev pub CurveMeans : List ℕ → Cursor → ℕ → EasingRead → Type 0
CurveMeans s c i a = (row : String × Rule tree.EasingSpec) → get_elem? curves i ≡ some row → EasingMeans s c row.1 a

abbrev pub ModeAtMeans : List ℕ → Cursor → ℕ → LoopRead → Type 0
ModeAtMeans s c i a = (row : String × Rule tree.LoopSpec) → get_elem? loop_modes i ≡ some row → ModeMeans s c row.1 a

-- the float of o, or else d
pub record FloatOr (o : Optional Float) (d r : Float) : Type 0 where
  pub is : bits r ≡ default (opt_float_of o) (bits d)
  pub plain : PlainOptFloat o → Plain d → Plain r

-- ---- by name

-- the names of some rows
abbrev pub names_of : {A : Type 0} → List (String × A) → List (List ℕ)
names_of [] = []
names_of (f ∷ fs) = bytes f.0 ∷ names_of fs

-- the rule that a word names, or a refusal where none does
abbrev pub by_name : {A : Type 0} → Refusal → List (String × Rule A) → Rule A
by_name r t = word >>= λ w. need r (under t w.1) >>= λ p. p

-- ---- fields of a curve

-- the value of the row i of a table, onto the fields that f holds: `held` says which fields they are
abbrev pub Holds : {F : Type 0} → (F → Fields → Type 0) → F → F → List ℕ → Content → Type 0
Holds held f g n x = (fs : Fields) → held f fs → held g ((n, x) ∷ fs)

-- f holds what the fields of `rough` say
pub record RoughHeld (f : RoughFields) (fs : Fields) : Type 0 where
  pub strength : opt_float_of f.strength ≡ last_number "strength" fs
  pub plain : PlainOptFloat f.strength
  pub points : opt_word_of f.points ≡ last_number "points" fs

abbrev pub RoughFieldMeans : List ℕ → Cursor → RoughFields → ℕ → RoughRead → Type 0
RoughFieldMeans s c f i (rough.Is g m) =
    (row : String × Rule Content) → get_elem? rough_fields i ≡ some row
    → (x : Content) × Took 1 s c m row.1 x × Holds RoughHeld f g (bytes row.0) x
RoughFieldMeans s c f i (rough.Refused r q) =
    (row : String × Rule Content) → get_elem? rough_fields i ≡ some row → run s c row.1 ≡ refused r q

abbrev pub RoughMeans : List ℕ → Cursor → RoughRead → Type 0
RoughMeans s c (rough.Is g m) = (gs : Fields) × Took 0 s c m (pairs rough_fields) gs × RoughHeld g gs
RoughMeans s c (rough.Refused r q) = run s c (pairs rough_fields) ≡ refused r q

-- f holds what the fields of `slowmo` say
pub record SlowMoHeld (f : SlowMoFields) (fs : Fields) : Type 0 where
  pub linear_ratio : opt_float_of f.linear_ratio ≡ last_number "linear_ratio" fs
  pub plain_ratio : PlainOptFloat f.linear_ratio
  pub power : opt_float_of f.power ≡ last_number "power" fs
  pub plain_power : PlainOptFloat f.power

abbrev pub SlowMoFieldMeans : List ℕ → Cursor → SlowMoFields → ℕ → SlowMoRead → Type 0
SlowMoFieldMeans s c f i (slow_mo.Is g m) =
    (row : String × Rule Content) → get_elem? slow_mo_fields i ≡ some row
    → (x : Content) × Took 1 s c m row.1 x × Holds SlowMoHeld f g (bytes row.0) x
SlowMoFieldMeans s c f i (slow_mo.Refused r q) =
    (row : String × Rule Content) → get_elem? slow_mo_fields i ≡ some row → run s c row.1 ≡ refused r q

abbrev pub SlowMoMeans : List ℕ → Cursor → SlowMoRead → Type 0
SlowMoMeans s c (slow_mo.Is g m) = (gs : Fields) × Took 0 s c m (pairs slow_mo_fields) gs × SlowMoHeld g gs
SlowMoMeans s c (slow_mo.Refused r q) = run s c (pairs slow_mo_fields) ≡ refused r q
