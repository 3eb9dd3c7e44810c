-- A leaf is taken, and its fields are written.
use Prim.Native.Nat.{ℕ}
use mathlib.Core.Bool.{Bool, true, false, not, cond}
use mathlib.Core.List.{List}
use mathlib.Core.Path.{◌≡◌, sym}
use native.Mathlib.Omega.{arith}
use lib.ListN.{length}
use Rattle.number.specs.Number.{nearest, bits}
use Rattle.number.specs.Rounded.{number_rounded}
use Rattle.token.specs.Means.{written_in}
use Rattle.token.specs.declared.Number.{Number}
use Rattle.ast.specs.Tree.{label, at}
use Rattle.ast.specs.declared.Span.{Span}
use Rattle.sheet.specs.Sheet.{word, flag, span_form}
use Rattle.sheet_encode.specs.Means.{span_of}
use Rattle.sheet_encode.specs.WriteMeans.{Writes}
use Rattle.sheet_encode.proofs.OverLaws.{writes_then}
use Rattle.sheet.proofs.FormLaws.{length-word, length_span}
use Rattle.error.specs.declared.Refusal.TheVariants.{Missing, Malformed}
use Rattle.grammar.specs.Rule.{refused, text, the_byte, eat_byte, sees_number, absent}
use Rattle.grammar.specs.Values.{string}
use Rattle.grammar.specs.Grammar.{parse_label, at_sign, turned, parse_at}
use Rattle.read_cursor.specs.WordMeans.{tallied}
use Rattle.read_cursor.specs.Means.{run, tokens, Took, Numbers}
use Rattle.read_cursor.specs.declared.Cursor.{Cursor}
use Rattle.read_cursor.proofs.CursorLaws.{counted, took_number}
use Rattle.read_node.specs.Means.{LeafMeans}
use Rattle.read_node.specs.declared.NodeRead.TheVariants as node
use Rattle.read_marks.specs.Means.{signs}
use Rattle.token.specs.Token.{place}

-- ---- label

module _ {s b a : List ℕ} {c : Cursor} {out : ℕ} where
  pub no_string : {q : ℕ} → run s c text ≡ refused Missing q → LeafMeans s b a c out parse_label (node.Refused Missing q)
  unfolding parse_label string
  no_string e = record { by = rw e }

  module _ {m : Cursor} {x : Span} (t : Took 1 s c m text (x.start, x.size)) where
    pub no_semicolon : {q : ℕ} → run s m (the_byte 59) ≡ refused Missing q → LeafMeans s b a c out parse_label (node.Refused Missing q)
    unfolding parse_label string
    no_semicolon e = record { by = rw (t.is, e) }

    pub label_went : {q : ℕ} {n : Cursor} → Took 1 s m n (the_byte 59) tt
        → Writes b out ((span_form (length s)).write (span_of x)) a q
        → LeafMeans s b a c out parse_label (node.Is q n)
    unfolding parse_label string
    label_went u w = record {
      by = record {
        value = label (span_of x);
        took = record { is = rw (t.is, u.is); low = omega (arith, t.low, u.low); ready = u.ready };
        writes = w;
        paid = let r = w.place in let l = length_span (length s) (span_of x) in omega (arith, t.low, u.low);
      };
    }

-- ---- at

module _ (s : List ℕ) (c m : Cursor) where
  pub plus_sign : Took 0 s c m (eat_byte 43) true → Took 0 s c m at_sign (signs true false)
  unfolding at_sign
  plus_sign t = record { is = rw t.is; low = t.low; ready = t.ready }

  pub other_sign : Took 0 s c m (eat_byte 43) false → (n : Cursor) (b : Bool) → Took 0 s m n (eat_byte 45) b → Took 0 s c n at_sign (signs b b)
  unfolding at_sign
  other_sign t n b u = record { is = rw (t.is, u.is); low = omega (arith, t.low, u.low); ready = u.ready }

module _ {s b a : List ℕ} {c m : Cursor} {out : ℕ} {p i : Bool} (t : Took 0 s c m at_sign (signs p i)) where
  pub no_value : {q : ℕ} → (sees_number (tokens s m) ≡ absent) × (place (tokens s m) ≡ q)
      → LeafMeans s b a c out parse_at (node.Refused Malformed q)
  unfolding parse_at
  no_value e = record { by = rw (t.is, e.0, e.1) }

  pub at_went : {b₁ : List ℕ} {f q : ℕ} {g? : Bool} {k : Number} {e n : Cursor} {d y : Bool}
      → Numbers s m g? k e → y ≡ number_rounded (turned i g?) (written_in s k) → Took 0 s (tallied y e) n (eat_byte 59) d
      → Writes b out (word.write (bits (nearest (cond i (not g?) g?) (written_in s k)))) b₁ f
      → Writes b₁ f (flag.write p) a q
      → LeafMeans s b a c out parse_at (node.Is q n)
  unfolding parse_at
  at_went {g? = g?} {k} {e} {y = y} v j u w z =
      let r = took_number s m _ _ _ v Malformed in
      let h = counted s e v.ready y in
      let x = bits (nearest (cond i (not g?) g?) (written_in s k)) in
      record {
        by = record {
          value = at (record { value = x; relative = p });
          took = record {
            is = rw (t.is, r.is, sym j, rw (h.at, h.left, h.rounded) at u.is);
            low = omega (arith, t.low, r.low, u.low, h.at);
            ready = u.ready;
          };
          writes = writes_then w z;
          paid = let a2 = w.place in
              let a3 = z.place in
              let l = length-word x in
              omega (arith, t.low, r.low, u.low, h.at);
        };
      }
