-- What tween and spring begin with is read and written.
use Prim.Native.Nat.{ℕ, ◌+◌, ◌≤◌, ◌<◌, ◌^◌}
use mathlib.Core.List.{List, ◌++◌, append_assoc}
use mathlib.Core.Option.{Option}
use mathlib.Core.Path.{◌≡◌, refl, sym, ap, subst, ◌∙◌}
use native.Mathlib.Omega.{arith}
use lib.ListN.{length, length-append}
use Rattle.ast.specs.Tree as tree
use Rattle.ast.specs.Tree.{ValueExpr}
use Rattle.ast.specs.declared.Span.{Span}
use Rattle.codec.specs.Codec.{opt, below}
use Rattle.sheet.specs.Sheet.{span_form, value_form}
use Rattle.sheet_encode.specs.Means.{span_of}
use Rattle.sheet_encode.specs.WriteMeans.{Writes}
use Rattle.sheet_encode.proofs.OverLaws.{writes_then}
use Rattle.sheet.proofs.FormLaws.{length_span, length-word}
use Rattle.sheet_encode.proofs.EnumLaws.{opt-most}
use Rattle.error.specs.declared.Refusal.{Refusal}
use Rattle.error.specs.declared.Refusal.TheVariants.{Missing}
use Rattle.grammar.specs.Rule.{Rule, Out, got, refused, after, give, the_byte, both_bytes, word, ◌>>=◌, ◌>>◌}
use Rattle.grammar.specs.Values.{ident, parse_value}
use Rattle.read_cursor.specs.Means.{run, Took, spelled}
use Rattle.read_cursor.specs.declared.Cursor.{Cursor}
use Rattle.read_values.proofs.EasingLaws.{spelled-length}
use Rattle.read_arrays.specs.Means.{Room, Went, ValueMeans}
use Rattle.read_arrays.specs.declared.ValueRead.{ValueRead}
use Rattle.read_arrays.specs.declared.ValueRead.TheVariants as value
use Rattle.read_node.specs.Means.{target_mark, value_pair, Ends, the_ends, EndsWent, PairMeans, EndsMeans}
use Rattle.sheet.specs.Sheet

-- ---- the target

module _ (s : List ℕ) (c : Cursor) where
  pub no_target : (q : ℕ) → run s c word ≡ refused Missing q → run s c target_mark ≡ refused Missing q
  unfolding ident
  no_target q h = rw h

  module _ (m : Cursor) (x : Span) (t : Took 1 s c m word (x.start, spelled s x)) where
    pub no_colon : (q : ℕ) → run s m (the_byte 58) ≡ refused Missing q → run s c target_mark ≡ refused Missing q
    unfolding ident
    no_colon q h = rw (t.is, h)

    pub target_took : (n : Cursor) → x.start + x.size ≤ length s → Took 1 s m n (the_byte 58) tt → Took 2 s c n target_mark (span_of x)
    unfolding ident
    target_took n h o = record { is = rw (t.is, o.is, spelled-length s x h); low = omega (arith, t.low, o.low); ready = o.ready }

-- ---- the values

module _ (s : List ℕ) (c : Cursor) where
  pub no_from : (r : Refusal) (q : ℕ) → run s c parse_value ≡ refused r q → run s c value_pair ≡ refused r q
  no_from r q h = rw h

  module _ (b a : List ℕ) (m : Cursor) (out at : ℕ) (v : Went 1 s b a c m out at parse_value value_form.write) where
    pub no_arrow : (q : ℕ) → run s m (both_bytes 61 62) ≡ refused Missing q → run s c value_pair ≡ refused Missing q
    no_arrow q h = rw (v.took.is, h)

    -- the answer behind the `=>` is the answer of both values
    module _ (n : Cursor) (o : Took 1 s m n (both_bytes 61 62) tt) where
      pub pair-behind : (a' : List ℕ) (x : ValueRead) → ValueMeans s a a' n at x → PairMeans s b a' c out x
      pair-behind a' (value.Is q u) w = record {
        value = (v.value, w.value);
        took = record {
          is = rw (v.took.is, o.is, w.took.is);
          low = omega (arith, v.took.low, o.low, w.took.low);
          ready = w.took.ready;
        };
        writes = writes_then v.writes w.writes;
        paid = omega (arith, v.paid, w.paid, v.took.low, o.low, w.took.low);
      }
      pair-behind a' (value.Refused r q) h = rw (v.took.is, o.is, h)

-- ---- both

module _ (s : List ℕ) (c : Cursor) where
  pub no_ends : (q : ℕ) → run s c target_mark ≡ refused Missing q → run s c the_ends ≡ refused Missing q
  no_ends q h = rw h

  -- the answer behind the target is the answer of all
  module _ (m : Cursor) (x : Span) (t : Took 2 s c m target_mark (span_of x)) (b b₁ a : List ℕ) (out g : ℕ)
      (j : Writes b out ((span_form (length s)).write (span_of x)) b₁ g) where
    pub ends-behind : (y : ValueRead) → PairMeans s b₁ a m g y → EndsMeans s b a c out y
    ends-behind (value.Is q u) w = record {
      value = (span_of x, w.value);
      took = record { is = rw (t.is, w.took.is); low = omega (arith, t.low, w.took.low); ready = w.took.ready };
      writes = writes_then j w.writes;
      paid = let r = j.place in
          let l = length_span (length s) (span_of x) in
          omega (arith, t.low, w.took.low, w.paid);
    }
    ends-behind (value.Refused r q) h = rw (t.is, h)

-- the place behind them leaves room
pub ends_room : (s b a : List ℕ) (c m : Cursor) (out q : ℕ) → Room s out → EndsWent s b a c m out q → q + 64 < 2 ^ 30 + 2 ^ 20
ends_room s b a c m out q r e = omega (arith, r.short, r.low, e.paid, e.took.ready.high)

-- ---- a rule that begins with them

module _ {B : Type 0} (k : Ends → Rule B) where
  abbrev behind_from : tree.Span → ValueExpr → Rule B
  behind_from t v = both_bytes 61 62 >> (parse_value >>= λ w. k (t, (v, w)))

  -- as a node's rule has it
  abbrev pub flat : Rule B
  flat = ident >>= λ t. the_byte 58 >> (parse_value >>= behind_from t)

  by_to : (t : tree.Span) (v : ValueExpr) (o : Out ValueExpr)
      → after (after (after o (λ w. give (v, w))) (λ p. give (t, p))) k ≡ after o (λ w. k (t, (v, w)))
  by_to t v (got w l ts) = refl
  by_to t v (refused r q) = refl

  by_arrow : (t : tree.Span) (v : ValueExpr) (o : Out Unit)
      → after (after (after o (λ u. parse_value >>= λ w. give (v, w))) (λ p. give (t, p))) k
      ≡ after o (λ u. parse_value >>= λ w. k (t, (v, w)))
  by_arrow t v (got u l ts) = by_to t v (parse_value l ts)
  by_arrow t v (refused r q) = refl

  by_from : (t : tree.Span) (o : Out ValueExpr)
      → after (after (after o (λ v. both_bytes 61 62 >> (parse_value >>= λ w. give (v, w)))) (λ p. give (t, p))) k ≡ after o (behind_from t)
  by_from t (got v l ts) = by_arrow t v (both_bytes 61 62 l ts)
  by_from t (refused r q) = refl

  by_colon : (t : tree.Span) (o : Out Unit)
      → after (after (after o (λ u. give t)) (λ x. value_pair >>= λ p. give (x, p))) k ≡ after o (λ u. parse_value >>= behind_from t)
  by_colon t (got u l ts) = by_from t (parse_value l ts)
  by_colon t (refused r q) = refl

  by_target : (o : Out tree.Span)
      → after (after (after o (λ t. the_byte 58 >> give t)) (λ x. value_pair >>= λ p. give (x, p))) k
      ≡ after o (λ t. the_byte 58 >> (parse_value >>= behind_from t))
  by_target (got t l ts) = by_colon t (the_byte 58 l ts)
  by_target (refused r q) = refl

  pub flat_run : (s : List ℕ) (c : Cursor) → run s c flat ≡ after (run s c the_ends) k
  flat_run s c = sym (by_target (run s c ident))

-- a record's end is written behind its beginning
pub record_written : {b a a' : List ℕ} {out at q : ℕ} (xs vs ws es : List ℕ)
    → Writes b out (xs ++ (vs ++ ws)) a at → Writes a at es a' q
    → Writes b out (xs ++ (vs ++ (ws ++ es))) a' q
record_written {b} {a} {a'} {out} {at} {q} xs vs ws es i j =
    subst (λ (ys : List ℕ). Writes b out ys a' q)
    (append_assoc xs (vs ++ ws) es ∙ ap (λ (ys : List ℕ). xs ++ ys) (append_assoc vs ws es)) (writes_then i j)

-- ---- how long the fields of a record are

pub eight : (a b c d e f g h : List ℕ)
    → length (a ++ (b ++ (c ++ (d ++ (e ++ (f ++ (g ++ h)))))))
    ≡ length a + length b + length c + length d + length e + length f + length g + length h
eight a b c d e f g h =
    rw (length-append, length-append, length-append, length-append, length-append, length-append, length-append) (omega arith)

pub word-most : (o : Option ℕ) → length ((opt Sheet.word).write o) ≤ 5
word-most o = opt-most Sheet.word 4 (λ v. omega (arith, length-word v)) o

pub case-most : (n : ℕ) (o : Option ℕ) → length ((opt (below n)).write o) ≤ 2
case-most n o = opt-most (below n) 1 (λ v. omega arith) o
