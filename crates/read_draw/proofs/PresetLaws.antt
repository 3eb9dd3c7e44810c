-- The fields of preset, in parentheses and behind a `,`.
use Prim.Native.Nat.{ℕ, ◌+◌, ◌≤◌}
use mathlib.Core.Bool.{true, false}
use mathlib.Core.List.{List, []}
use mathlib.Core.Path.{◌≡◌, refl, sym, ◌∙◌}
use native.Mathlib.Omega.{arith}
use lib.ListN.{length}
use Rattle.ast.specs.declared.Span.{Span}
use Rattle.sheet_encode.specs.Means.{span_of}
use Rattle.error.specs.declared.Refusal.{Refusal}
use Rattle.error.specs.declared.Refusal.TheVariants.{Missing}
use Rattle.grammar.specs.Rule.{Rule, Out, got, refused, after, ◌>>=◌, word, sees_byte, leave, the_byte}
use Rattle.grammar.specs.Fields.{last, pairs, parse_field_list}
use Rattle.grammar.specs.Values.{ident}
use Rattle.grammar.specs.Grammar.{draw_fields, parse_preset_call}
use Rattle.read_cursor.specs.Means.{Ready, tokens, run, Took, Follows, spelled}
use Rattle.read_cursor.specs.declared.Cursor.{Cursor}
use Rattle.read_cursor.proofs.CursorLaws.{took_mark}
use Rattle.read_values.proofs.EasingLaws.{spelled-length}
use Rattle.read_node.specs.Means.{LeafMeans, EndMeans}
use Rattle.read_node.specs.declared.NodeRead.{NodeRead}
use Rattle.read_node.specs.declared.NodeRead.TheVariants as node
use Rattle.read_draw.specs.Means.{preset_pairs, preset_fields, preset_end}
use Rattle.read_draw.specs.Means.{no_draw_fields, DrawListMeans}
use Rattle.read_draw.specs.declared.DrawFields.{DrawFields}
use Rattle.read_draw.specs.declared.DrawStep.{DrawStep}
use Rattle.read_draw.specs.declared.DrawStep.TheVariants as draw
use Rattle.read_node.proofs.EndLaws.{whole_node}

assoc : {A B C : Type 0} (o : Out A) (f : A → Rule B) (g : B → Rule C) → after o (λ a. f a >>= g) ≡ after (after o f) g
assoc (got a l ts) f g = refl
assoc (refused r q) f g = refl

-- ---- in parentheses

module _ {s : List ℕ} {c : Cursor} (r : Ready s c) where
  pub no_pairs : sees_byte 40 (tokens s c) ≡ false → DrawListMeans s c preset_pairs (draw.Is no_draw_fields c)
  unfolding last
  no_pairs e = record {
    fields = [];
    took = record { is = rw e; low = omega arith; ready = r };
    say = ((refl, tt), ((refl, tt), tt));
  }

  module _ {m : Cursor} (f : Follows s c m) (e : sees_byte 40 (tokens s c) ≡ true) where
    opened : Took 1 s c m (the_byte 40) tt
    opened = took_mark s c m r f 40 (omega arith) e

    pub pairs_refused : {a : Refusal} {q : ℕ} → run s m (pairs draw_fields) ≡ refused a q → run s c preset_pairs ≡ refused a q
    pairs_refused h = rw (e, opened.is, h)

    pub pairs-taken : {n u : Cursor} {x : DrawFields} → DrawListMeans s m (pairs draw_fields) (draw.Is x n) → Took 0 s n u (leave 41) tt
        → DrawListMeans s c preset_pairs (draw.Is x u)
    pairs-taken h v = record {
      fields = h.fields;
      took = record {
        is = rw (e, opened.is, h.took.is, v.is);
        low = omega (arith, opened.low, h.took.low, v.low);
        ready = v.ready;
      };
      say = h.say;
    }

-- ---- behind a `,`

module _ {s : List ℕ} {c e : Cursor} {x : DrawFields} (h : DrawListMeans s c preset_pairs (draw.Is x e)) where
  pub no_comma : sees_byte 44 (tokens s e) ≡ false → DrawListMeans s c preset_fields (draw.Is x e)
  no_comma z = record {
    fields = h.fields;
    took = record { is = rw (h.took.is, z); low = h.took.low; ready = h.took.ready };
    say = h.say;
  }

  module _ {m : Cursor} (f : Follows s e m) (z : sees_byte 44 (tokens s e) ≡ true) where
    comma : Took 1 s e m (the_byte 44) tt
    comma = took_mark s e m h.took.ready f 44 (omega arith) z

    pub list_end : (y : DrawStep) → DrawListMeans s m (parse_field_list draw_fields h.fields) y → DrawListMeans s c preset_fields y
    list_end (draw.Is g u) w = record {
      fields = w.fields;
      took = record {
        is = rw (h.took.is, z, f.rest, sym f.left, sym f.rounded, w.took.is);
        low = omega (arith, h.took.low, comma.low, w.took.low);
        ready = w.took.ready;
      };
      say = w.say;
    }
    list_end (draw.Refused a q) w = rw (h.took.is, z, f.rest, sym f.left, sym f.rounded, w)

-- a refusal in parentheses is one of all
pub all_refused : (s : List ℕ) (c : Cursor) (a : Refusal) (q : ℕ) → run s c preset_pairs ≡ refused a q → run s c preset_fields ≡ refused a q
all_refused s c a q h = rw h

-- ---- the node

pub no_preset : {s b a : List ℕ} {c : Cursor} {out q : ℕ} → run s c word ≡ refused Missing q
    → LeafMeans s b a c out parse_preset_call (node.Refused Missing q)
unfolding parse_preset_call ident
no_preset h = record { by = rw h }

module _ {s : List ℕ} {c m : Cursor} (x : Span) (t : Took 1 s c m word (x.start, spelled s x)) (l : x.start + x.size ≤ length s) where
  behind_name : run s c parse_preset_call ≡ run s m (preset_end (span_of x))
  unfolding parse_preset_call ident
  behind_name = rw (t.is, spelled-length s x l) (assoc (run s m preset_pairs) _ _)

  pub preset_node : {b a : List ℕ} {out : ℕ} {y : NodeRead}
      → EndMeans s b a m out (preset_end (span_of x)) y → LeafMeans s b a c out parse_preset_call y
  preset_node =
      whole_node parse_preset_call (preset_end (span_of x))
      (λ v u z. record { is = behind_name ∙ z.is; low = omega (arith, t.low, z.low); ready = z.ready })
      (λ r q h. behind_name ∙ h)
      t.low
