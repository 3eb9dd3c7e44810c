-- Laws of rules one after the other, at cursors.
use Prim.Native.Nat.{ℕ}
use mathlib.Core.List.{List}
use mathlib.Core.Path.{◌≡◌}
use native.Mathlib.Omega.{arith}
use Rattle.error.specs.declared.Refusal.{Refusal}
use Rattle.error.specs.declared.Refusal.TheVariants.{Missing}
use Rattle.token.specs.Split.{closer}
use Rattle.grammar.specs.Rule.{Rule, refused, the_byte, inside_byte, leave, ◌>>◌}
use Rattle.read_cursor.specs.Means.{run, Took, FloatMeans}
use Rattle.read_cursor.specs.declared.Cursor.{Cursor}
use Rattle.read_cursor.specs.declared.FloatRead.{FloatRead}
use Rattle.read_cursor.specs.declared.FloatRead.TheVariants as float
use Rattle.read_values.specs.Means.{PairMeans}
use Rattle.read_values.specs.declared.PairRead.{PairRead}
use Rattle.read_values.specs.declared.PairRead.TheVariants as pair

-- a rule inside a group: its opener, the rule, and leaving
module _ {A : Type 0} (s : List ℕ) (b : ℕ) (p : Rule A) (c m : Cursor) (o : Took 1 s c m (the_byte b) tt) where
  pub inside_took : (n u : Cursor) (x : A) → Took 1 s m n p x → Took 0 s n u (leave (closer b)) tt → Took 1 s c u (inside_byte b p) x
  inside_took n u x t l = record { is = rw (o.is, t.is, l.is); low = omega (arith, o.low, t.low, l.low); ready = l.ready }

  -- a rule that may take nothing
  pub inside_any : (n u : Cursor) (x : A) → Took 0 s m n p x → Took 0 s n u (leave (closer b)) tt → Took 1 s c u (inside_byte b p) x
  inside_any n u x t l = record { is = rw (o.is, t.is, l.is); low = omega (arith, o.low, t.low, l.low); ready = l.ready }

  pub inside_refused : (r : Refusal) (q : ℕ) → run s m p ≡ refused r q → run s c (inside_byte b p) ≡ refused r q
  inside_refused r q h = rw (o.is, h)

pub inside_missing : {A : Type 0} (s : List ℕ) (b : ℕ) (p : Rule A) (c : Cursor) (q : ℕ)
    → run s c (the_byte b) ≡ refused Missing q → run s c (inside_byte b p) ≡ refused Missing q
inside_missing s b p c q h = rw h

-- a rule behind a mark
behind_took : {A : Type 0} (s : List ℕ) (b : ℕ) (p : Rule A) (c m n : Cursor) (x : A)
    → Took 1 s c m (the_byte b) tt → Took 1 s m n p x → Took 1 s c n (the_byte b >> p) x
behind_took s b p c m n x o t = record { is = rw (o.is, t.is); low = omega (arith, o.low, t.low); ready = t.ready }

behind_refused : {A : Type 0} (s : List ℕ) (b : ℕ) (p : Rule A) (c m : Cursor) (r : Refusal) (q : ℕ)
    → Took 1 s c m (the_byte b) tt → run s m p ≡ refused r q
    → run s c (the_byte b >> p) ≡ refused r q
behind_refused s b p c m r q o h = rw (o.is, h)

pub float_behind : (s : List ℕ) (b : ℕ) (p : Rule ℕ) (c m : Cursor) (a : FloatRead)
    → Took 1 s c m (the_byte b) tt → FloatMeans s m p a → FloatMeans s c (the_byte b >> p) a
float_behind s b p c m (float.Is v n) o t = (behind_took s b p c m n _ o t.0, t.1)
float_behind s b p c m (float.Refused r q) o h = behind_refused s b p c m r q o h

pub pair-behind : (s : List ℕ) (b : ℕ) (p : Rule (ℕ × ℕ)) (c m : Cursor) (a : PairRead)
    → Took 1 s c m (the_byte b) tt → PairMeans s m p a → PairMeans s c (the_byte b >> p) a
pair-behind s b p c m (pair.Is x y n) o t = record { took = behind_took s b p c m n _ o t.took; first = t.first; second = t.second }
pair-behind s b p c m (pair.Refused r q) o h = behind_refused s b p c m r q o h
