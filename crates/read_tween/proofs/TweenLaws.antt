-- A tween is read and written.
use Rattle.std.specs.Prelude.{Some, None}
use Prim.Native.Nat.{ℕ, ◌≤◌}
use mathlib.Core.List.{List, []}
use mathlib.Core.Path.{◌≡◌, sym, subst, ◌∙◌}
use native.Mathlib.Omega.{arith}
use lib.Ieee.{Float}
use lib.ListN.{length}
use Rattle.number.specs.Number.{bits}
use Rattle.number.specs.Time.{Key}
use Rattle.codec.specs.Codec.{opt}
use Rattle.ast.specs.Tree.{Leaf}
use Rattle.sheet.specs.Sheet.{word, flag, span_form, value_form, easing_form, loop_form}
use Rattle.sheet_encode.specs.Means.{PlainOptFloat, opt_float_of, opt_word_of, opt_easing_of, opt_loop_of}
use Rattle.sheet_encode.specs.WriteMeans.{Writes}
use Rattle.sheet.proofs.FormLaws.{length-word}
use Rattle.sheet_encode.proofs.EnumLaws.{opt-most, easing-most, loop_most}
use Rattle.error.specs.declared.Refusal.{Refusal}
use Rattle.error.specs.declared.Refusal.TheVariants.{MissingDuration}
use Rattle.grammar.specs.Rule.{Rule, refused, after, give, need, ◌>>=◌}
use Rattle.grammar.specs.Fields.{Fields, last_number, last_easing, last_loop_mode, ever, parse_field_list}
use Rattle.grammar.specs.Grammar.{parse_tween, tween_fields}
use Rattle.read_cursor.specs.WordMeans.{at_of}
use Rattle.read_cursor.specs.Means.{run}
use Rattle.read_cursor.specs.declared.Cursor.{Cursor}
use Rattle.read_node.specs.CellMeans.{ListTook}
use Rattle.read_tween.specs.Means.{tween_cells}
use Rattle.read_tween.specs.declared.TweenFields.{TweenFields}
use Rattle.read_node.specs.Means.{LeafMeans, Ends, the_ends, EndsWent}
use Rattle.read_node.specs.declared.NodeRead.TheVariants as node
use Rattle.read_tween.specs.Means.{PlainTween, tween_bytes}
use Rattle.read_node.proofs.EndsLaws.{flat_run, record_written, eight, word-most}

abbrev tween_leaf : Ends → Fields → ℕ → Leaf Key
tween_leaf e fs d = Leaf.tween (record {
  target = e.0;
  from = e.1.0;
  to = e.1.1;
  duration = d;
  easing = last_easing fs;
  delay = last_number "delay" fs;
  time_scale = last_number "time_scale" fs;
  loop_mode = last_loop_mode fs;
  snap = last_number "snap" fs;
  round = last_number "round" fs;
  reverse = ever "reverse" fs;
})

-- what stands behind the values
abbrev tween_end : Ends → Rule (Leaf Key)
tween_end e = parse_field_list tween_fields [] >>= λ fs. need MissingDuration (last_number "duration" fs) >>= λ d. give (tween_leaf e fs d)

tween_run : (s : List ℕ) (c : Cursor) → run s c parse_tween ≡ after (run s c the_ends) tween_end
unfolding parse_tween
tween_run s c = flat_run tween_end s c

pub tween_no_ends : {s b a : List ℕ} {c : Cursor} {out : ℕ} {r : Refusal} {q : ℕ} → run s c the_ends ≡ refused r q
    → LeafMeans s b a c out parse_tween (node.Refused r q)
tween_no_ends {s} {c = c} h = record { by = tween_run s c ∙ (rw h) }

-- its fields have so many bytes at most
tween_most : (n : ℕ) (d : Float) (x : TweenFields) → length (tween_bytes n d x) ≤ 64
tween_most n d x =
    let all = eight (word.write (bits d)) ((opt (easing_form n)).write (opt_easing_of x.easing))
    ((opt word).write (opt_float_of x.delay)) ((opt word).write (opt_float_of x.time_scale))
    ((opt loop_form).write (opt_loop_of x.loop_mode)) ((opt word).write (opt_float_of x.snap)) ((opt word).write (opt_word_of x.round))
    (flag.write x.reverse)
    in
    omega (
      arith,
      all,
      length-word (bits d),
      opt-most (easing_form n) 17 (easing-most n) (opt_easing_of x.easing),
      word-most (opt_float_of x.delay),
      word-most (opt_float_of x.time_scale),
      opt-most loop_form 5 loop_most (opt_loop_of x.loop_mode),
      word-most (opt_float_of x.snap),
      word-most (opt_word_of x.round),
    )

module _ {s b a : List ℕ} {c m : Cursor} {out at : ℕ} (e : EndsWent s b a c m out at) where
  pub tween_no_fields : {a' : List ℕ} {r : Refusal} {q : ℕ} → run s m (parse_field_list tween_fields []) ≡ refused r q
      → LeafMeans s b a' c out parse_tween (node.Refused r q)
  tween_no_fields h = record { by = tween_run s c ∙ (rw (e.took.is, h)) }

  module _ {u : Cursor} {f : TweenFields} (t : ListTook s m u (parse_field_list tween_fields []) (tween_cells f)) where
    pub tween_untimed : {a' : List ℕ} → f.duration ≡ None
        → LeafMeans s b a' c out parse_tween (node.Refused MissingDuration (at_of u))
    tween_untimed d =
        record { by = tween_run s c ∙ (rw (e.took.is, t.took.is, sym t.say.0.0, d, t.took.ready.head.place)) }

    module _ {x : Float} (d : f.duration ≡ Some x) where
      pub tween_plain : PlainTween x f
      tween_plain =
          let easing = t.say.1 in
          let scale = easing.1.1 in
          (subst PlainOptFloat d t.say.0.1, easing.0.1, easing.1.0.1, scale.0.1, scale.1.1.0.1)

      pub tween_went : {a' : List ℕ} {q : ℕ} → ((n : ℕ) → Writes a at (tween_bytes n x f) a' q)
          → LeafMeans s b a' c out parse_tween (node.Is q u)
      tween_went {a'} {q} w =
          let easing = t.say.1 in
          let scale = easing.1.1 in
          let snap = scale.1.1 in
          record {
            by = record {
              value = tween_leaf e.value t.fields (bits x);
              took = record {
                is = tween_run s c ∙ (rw (e.took.is, t.took.is, sym t.say.0.0, d));
                low = omega (arith, e.took.low, t.took.low);
                ready = t.took.ready;
              };
              writes = record_written
                  ((span_form (length s)).write e.value.0)
                  (value_form.write e.value.1.0)
                  (value_form.write e.value.1.1)
                  _
                  e.writes
                  (rw (easing.0.0, easing.1.0.0, scale.0.0, scale.1.0, snap.0.0, snap.1.0, snap.1.1.0) at (w (length s)));
              paid = let z = tween_most (length s) x f in
                  let y = (w (length s)).place in
                  omega (arith, e.paid, e.took.low, t.took.low);
            };
          }
