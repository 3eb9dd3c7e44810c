-- The node waveform is its kind and its end.
use Prim.Native.Nat.{ℕ}
use mathlib.Core.List.{List}
use mathlib.Core.Path.{◌≡◌}
use borrow.Author.Tests.{eq-eqb, ne_eqb}
use native.Mathlib.Omega.{arith}
use Rattle.error.specs.declared.Refusal.{Refusal}
use Rattle.error.specs.declared.Refusal.TheVariants.{Malformed, NoiseWritten}
use Rattle.grammar.specs.Rule.{Rule, refused, choice}
use Rattle.grammar.specs.Grammar.{unless_noise, waveform_kind, parse_waveform}
use Rattle.grammar.specs.Grammar.{waveform_names}
use Rattle.read_cursor.specs.WordMeans.{at_of}
use Rattle.read_cursor.specs.Means.{run, Took}
use Rattle.read_cursor.specs.declared.Cursor.{Cursor}
use Rattle.read_node.specs.Means.{LeafMeans, EndMeans}
use Rattle.read_node.specs.declared.NodeRead.{NodeRead}
use Rattle.read_node.specs.declared.NodeRead.TheVariants as node
use Rattle.read_waveform.specs.Means.{waveform_end}
use Rattle.read_node.proofs.EndLaws.{whole_node}

-- the Rust's kinds
abbrev any_kind : Rule ℕ
any_kind = choice Malformed waveform_names

module _ {s b a : List ℕ} {c : Cursor} {out : ℕ} where
  pub no_waveform : {r : Refusal} {q : ℕ} → run s c any_kind ≡ refused r q → LeafMeans s b a c out parse_waveform (node.Refused r q)
  unfolding parse_waveform waveform_kind
  no_waveform h = record { by = rw h }

  module _ {m : Cursor} {i : ℕ} (t : Took 1 s c m any_kind i) where
    pub noise_refused : i ≡ 4 → LeafMeans s b a c out parse_waveform (node.Refused NoiseWritten (at_of m))
    unfolding parse_waveform waveform_kind unless_noise
    noise_refused e = record { by = rw (t.is, eq-eqb i 4 e, t.ready.head.place) }

    pub waveform_node : (i ≡ 4 → ⊥) → {r : NodeRead} → EndMeans s b a m out (waveform_end i) r → LeafMeans s b a c out parse_waveform r
    unfolding parse_waveform waveform_kind unless_noise
    waveform_node n =
        let e = ne_eqb i 4 n in
        whole_node parse_waveform (waveform_end i)
        (λ v u z. record { is = rw (t.is, e, z.is); low = omega (arith, t.low, z.low); ready = z.ready })
        (λ r q h. rw (t.is, e, h)) t.low
