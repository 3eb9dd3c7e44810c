-- `start..end` is read.
use Prim.Native.Nat.{ℕ}
use mathlib.Core.List.{List}
use mathlib.Core.Path.{◌≡◌}
use native.Mathlib.Omega.{arith}
use Rattle.error.specs.declared.Refusal.{Refusal}
use Rattle.error.specs.declared.Refusal.TheVariants.{Missing}
use Rattle.grammar.specs.Rule.{refused, both_bytes}
use Rattle.grammar.specs.Fields.{a_range}
use Rattle.grammar.specs.Values.{parse_float}
use Rattle.grammar.specs.Grammar.{offset}
use Rattle.read_cursor.specs.Means.{run, Took}
use Rattle.read_cursor.specs.declared.Cursor.{Cursor}

pub no_start : (s : List ℕ) (c : Cursor) {r : Refusal} {q : ℕ} → run s c parse_float ≡ refused r q → run s c offset ≡ refused r q
unfolding offset
no_start s c h = rw h

module _ {s : List ℕ} {c m : Cursor} {a : ℕ} (t : Took 1 s c m parse_float a) where
  pub no_points : {q : ℕ} → run s m (both_bytes 46 46) ≡ refused Missing q → run s c offset ≡ refused Missing q
  unfolding offset
  no_points h = rw (t.is, h)

  module _ {n : Cursor} (u : Took 1 s m n (both_bytes 46 46) tt) where
    pub no_end : {r : Refusal} {q : ℕ} → run s n parse_float ≡ refused r q → run s c offset ≡ refused r q
    unfolding offset
    no_end h = rw (t.is, u.is, h)

    pub range_taken : {e : Cursor} {b : ℕ} → Took 1 s n e parse_float b → Took 1 s c e offset (a_range (a, b))
    unfolding offset
    range_taken v = record { is = rw (t.is, u.is, v.is); low = omega (arith, t.low, u.low, v.low); ready = v.ready }
