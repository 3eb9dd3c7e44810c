-- A key's time, and an easing.
use Prim.Native.Nat.{ℕ, ◌+◌, ◌≤◌}
use mathlib.Core.Bool.{Bool, true, false, ◌&&◌, cond}
use mathlib.Core.List.{List}
use mathlib.Core.Option.{none, some}
use mathlib.Core.Path.{◌≡◌, refl, sym, ap, ◌∙◌, subst}
use native.Mathlib.Omega.{arith}
use lib.Ieee.{Float}
use Rattle.number.specs.Number.{Written, nearest}
use Rattle.number.specs.Number as Number
use Rattle.number.specs.Time.{stored_time}
use Rattle.number.specs.Rounded.{fraction, rounded, number_rounded, time_rounded}
use Rattle.number.proofs.Floats.{nearest-number, percent-number}
use Rattle.ast.specs.Tree.{EasingSpec}
use Rattle.error.specs.declared.Refusal.{Refusal}
use Rattle.error.specs.declared.Refusal.TheVariants.{Missing, Malformed}
use Rattle.token.specs.Token.{place}
use Rattle.token.specs.Means.{written_in}
use Rattle.token.specs.declared.Number as numbers
use Rattle.grammar.specs.Rule.{Out, got, refused, give, skip, ◌>>◌, sees_byte, sees_number, sees_name, absent, the_byte, eat_byte}
use Rattle.grammar.specs.Values.{parse_easing}
use Rattle.grammar.specs.Grammar.{stored, keyed, parse_keyframe_time}
use Rattle.read_cursor.specs.WordMeans.{at_of, rounded_of, tallied}
use Rattle.read_cursor.specs.Means.{Ready, notes, tokens, run, Took, Numbers}
use Rattle.read_cursor.specs.declared.Cursor.{Cursor}
use Rattle.read_cursor.proofs.CursorLaws.{counts, counted, took_number, stays, head_place}
use Rattle.read_keyframes.specs.Means.{percent_sign, key_of, Stores, TookTime, key_mark, easing_if}

-- ---- a key's time

pub no_sign : (s : List ℕ) (c : Cursor) → Ready s c → (b : Bool) → b ≡ true → Took 0 s c c (percent_sign b) false
no_sign s c r b e = stays s c r (percent_sign b) false (rw e)

pub a_sign : (s : List ℕ) (c m : Cursor) (b x : Bool) → b ≡ false → Took 0 s c m (eat_byte 37) x → Took 0 s c m (percent_sign b) x
a_sign s c m b x e t = record { is = rw e t.is; low = t.low; ready = t.ready }

module _ (b negative : Bool) (w : Written) where
  pub stores_percent : {x : Float} → b ≡ true → x ≡ Number.percent negative w.digits → Stores (key_of b negative w) b x
  unfolding stored stored_time
  stores_percent e h = rw (e, h) (record { is = refl; plain = percent-number negative w.digits })

  pub stores_seconds : {x : Float} → b ≡ false → x ≡ nearest negative w → Stores (key_of b negative w) b x
  unfolding stored stored_time
  stores_seconds e h = rw (e, h) (record { is = refl; plain = nearest-number negative w })

  -- whether it was rounded
  pub rounds_percent : {y : Bool} → b ≡ true → y ≡ rounded (Number.percent negative w.digits) (fraction negative w.digits 100)
      → y ≡ time_rounded (key_of b negative w)
  unfolding time_rounded stored_time
  rounds_percent e h = rw e h

  pub rounds_seconds : {y : Bool} → b ≡ false → y ≡ number_rounded negative w → y ≡ time_rounded (key_of b negative w)
  unfolding time_rounded stored_time number_rounded
  rounds_seconds e h = rw e h

-- a `%` counts nothing
abbrev count_of : {A : Type 0} → Out A → ℕ
count_of (got a l ts) = l.rounded
count_of (refused r q) = 0

sign_counts : (s : List ℕ) (c m : Cursor) (b x : Bool) → Took 0 s c m (percent_sign b) x → rounded_of m ≡ rounded_of c
sign_counts s c m b x t = go b t.is
  where
    by : (y : Bool) → cond y (skip >> give true) (give false) (notes s c) (tokens s c) ≡ got x (notes s m) (tokens s m)
        → rounded_of m ≡ rounded_of c
    by true e = sym (ap count_of e)
    by false e = sym (ap count_of e)

    go : (b : Bool) → percent_sign b (notes s c) (tokens s c) ≡ got x (notes s m) (tokens s m) → rounded_of m ≡ rounded_of c
    go true e = sym (ap count_of e)
    go false e = by (sees_byte 37 (tokens s c)) e

pub no_time : (s : List ℕ) (c : Cursor) (q : ℕ)
    → (sees_number (tokens s c) ≡ absent) × (place (tokens s c) ≡ q)
    → run s c parse_keyframe_time ≡ refused Malformed q
unfolding parse_keyframe_time
no_time s c q e = rw (e.0, e.1)

module _ (s : List ℕ) (c m u : Cursor) (negative : Bool) (n : numbers.Number) (v : Numbers s c negative n m) (p : Bool)
    (t : Took 0 s m u (percent_sign n.point) p) where
  as_written : Took 0 s m u (percent_sign (written_in s n).point) p
  as_written = subst (λ (x : Bool). Took 0 s m u (percent_sign x) p) v.known.is.point t

  pub percent_suffix : (p && n.suffix) ≡ true → run s c parse_keyframe_time ≡ refused Malformed (at_of u)
  unfolding parse_keyframe_time
  percent_suffix e =
      rw ((took_number s c m negative n v Malformed).is, as_written.is, sym v.known.is.suffix, e, head_place s u t.ready)

  pub took_time : (p && n.suffix) ≡ false → Ready s c → {x : Float} → Stores (key_of p negative (written_in s n)) p x
      → {y : Bool} → y ≡ time_rounded (key_of p negative (written_in s n)) → {w : Cursor} → w ≡ tallied y u
      → TookTime s c w parse_keyframe_time p x
  unfolding parse_keyframe_time keyed
  took_time e r h {y = y} q z =
      let far : at_of c + 1 ≤ at_of u = omega (arith, v.low, t.low) in
      let k = counted s u t.ready y in
      record {
        key = key_of p negative (written_in s n);
        took = record {
          is = rw (
            (took_number s c m negative n v Malformed).is,
            as_written.is,
            subst (λ (x : Bool). (p && x) ≡ false) v.known.is.suffix e,
            z,
            k.at,
            k.left,
            k.rounded,
            sym q,
          );
          low = rw (z, k.at) far;
          ready = rw z (counts s c u r t.ready (sign_counts s m u n.point p t ∙ v.rounded) far y);
        };
        stores = h;
      }

-- ---- a key and its `:`

pub no_key : (s : List ℕ) (c : Cursor) (r : Refusal) (q : ℕ) → run s c parse_keyframe_time ≡ refused r q → run s c key_mark ≡ refused r q
no_key s c r q h = rw h

module _ {s : List ℕ} {c m : Cursor} {p : Bool} {x : Float} (t : TookTime s c m parse_keyframe_time p x) where
  pub no_colon : (q : ℕ) → run s m (the_byte 58) ≡ refused Missing q → run s c key_mark ≡ refused Missing q
  no_colon q h = rw (t.took.is, h)

  pub took_key : {n : Cursor} → Took 1 s m n (the_byte 58) tt → TookTime s c n key_mark p x
  took_key u = record {
    key = t.key;
    took = record { is = rw (t.took.is, u.is); low = omega (arith, t.took.low, u.low); ready = u.ready };
    stores = t.stores;
  }

-- ---- an easing where a name follows

pub no_easing : (s : List ℕ) (c : Cursor) → Ready s c → sees_name (tokens s c) ≡ false → Took 0 s c c easing_if none
no_easing s c r e = stays s c r easing_if none (rw e)

module _ (s : List ℕ) (c : Cursor) (e : sees_name (tokens s c) ≡ true) where
  pub easing_refused : (r : Refusal) (q : ℕ) → run s c parse_easing ≡ refused r q → run s c easing_if ≡ refused r q
  easing_refused r q h = rw (e, h)

  pub easing_took : (m : Cursor) (x : EasingSpec) → Took 1 s c m parse_easing x → Took 0 s c m easing_if (some x)
  easing_took m x t = record { is = rw (e, t.is); low = omega (arith, t.low); ready = t.ready }
