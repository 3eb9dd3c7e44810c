-- A spring is read and written.
use Rattle.std.specs.Prelude.{Some, None, Option as Optional}
use Prim.Native.Nat.{ℕ, ◌+◌, ◌*◌, ◌-◌, ◌≤◌}
use mathlib.Core.List.{List, [], ◌∷◌}
use mathlib.Core.Option.{Option}
use mathlib.Core.Path.{◌≡◌, sym, ◌∙◌}
use native.Mathlib.Omega.{arith}
use lib.ListN.{length}
use Rattle.text.specs.Limits.{text_limit}
use Rattle.number.specs.Time.{Key}
use Rattle.codec.specs.Codec.{opt, below}
use Rattle.ast.specs.Tree.{Leaf, ValueExpr}
use Rattle.sheet.specs.Sheet.{word, span_form, value_form, damping_form}
use Rattle.sheet_encode.specs.Means.{opt_float_of, opt_case_of, opt_damping_of}
use Rattle.sheet_encode.specs.WriteMeans.{Writes}
use Rattle.sheet_encode.proofs.OverLaws.{writes_then}
use Rattle.sheet_encode.proofs.EnumLaws.{opt-most, damping-most}
use Rattle.error.specs.declared.Refusal.{Refusal}
use Rattle.grammar.specs.Rule.{Rule, refused, after, give, ◌>>=◌}
use Rattle.grammar.specs.Fields.{Fields, last_number, last_value, last_damping, parse_field_list}
use Rattle.grammar.specs.Values.{parse_value}
use Rattle.grammar.specs.Grammar.{parse_spring, spring_fields}
use Rattle.read_cursor.specs.WordMeans.{at_of}
use Rattle.read_cursor.specs.Means.{run}
use Rattle.read_cursor.specs.declared.Cursor.{Cursor}
use Rattle.read_node.specs.CellMeans.{PlaceSays, ListTook}
use Rattle.read_spring.specs.Means.{spring_cells}
use Rattle.read_spring.specs.declared.SpringFields.{SpringFields}
use Rattle.read_arrays.specs.Means.{Went}
use Rattle.read_node.specs.Means.{LeafMeans, Ends, the_ends, EndsWent}
use Rattle.read_node.specs.declared.NodeRead.TheVariants as node
use Rattle.read_spring.specs.Means.{Told, VelocityPut, PlainSpring, spring_bytes}
use Rattle.read_node.proofs.EndsLaws.{flat_run, record_written, eight, word-most, case-most}

-- ---- the velocity

module _ (s : List ℕ) (at : ℕ) (lo hi : ℕ) (v : Option ValueExpr) where
  pub velocity_absent : {b a : List ℕ} {q : ℕ} → Writes b at (0 ∷ []) a q → PlaceSays s lo hi None v → VelocityPut b a at v q
  velocity_absent w e = record { writes = rw e w; most = let p = w.place in omega arith }

  module _ (c : Cursor) (h : PlaceSays s lo hi (Some c) v) where
    pub velocity_present : {b b' a : List ℕ} {f q : ℕ} (m : Cursor) → length s ≤ text_limit
        → Writes b at (1 ∷ []) b' f
        → Went 1 s b' a c m f q parse_value value_form.write
        → VelocityPut b a at v q
    velocity_present m k i w =
        let z = sym w.took.is ∙ h.2.took.is in
        let e : w.value ≡ h.0 = cc in
        record {
          writes = rw (h.1, sym e) (writes_then i w.writes);
          most = let p = i.place in omega (arith, k, w.paid, w.took.ready.high);
        }

    pub velocity_refused : {A : Type 0} (r : Refusal) (q : ℕ) → run s c parse_value ≡ refused r q → A
    velocity_refused r q e = let z = sym e ∙ h.2.took.is in absurd (let y : ◌≡◌ {A = ℕ} 0 1 = cc in omega arith)

velocity_paid : (s : List ℕ) (lo hi : ℕ) (p : Optional Cursor) (v : Option ValueExpr)
    → PlaceSays s lo hi p v
    → length ((opt value_form).write v) ≤ 1 + 64 * (hi - lo)
velocity_paid s lo hi None v e = rw e (omega arith)
velocity_paid s lo hi (Some c) v h =
    rw h.1 (omega (arith, h.2.paid, h.2.low, h.2.high))

-- ---- the fields

abbrev spring_leaf : Ends → Fields → Leaf Key
spring_leaf e fs = Leaf.spring (record {
  target = e.0;
  from = e.1.0;
  to = e.1.1;
  preset = last_number "preset" fs;
  stiffness = last_number "stiffness" fs;
  damping = last_number "damping" fs;
  mass = last_number "mass" fs;
  velocity = last_value fs;
  epsilon = last_number "epsilon" fs;
  integrator = last_number "integrator" fs;
  damping_mode = last_damping fs;
})

-- what stands behind the values
abbrev spring_end : Ends → Rule (Leaf Key)
spring_end e = parse_field_list spring_fields [] >>= λ fs. give (spring_leaf e fs)

spring_run : (s : List ℕ) (c : Cursor) → run s c parse_spring ≡ after (run s c the_ends) spring_end
unfolding parse_spring
spring_run s c = flat_run spring_end s c

pub spring_no_ends : {s b a : List ℕ} {c : Cursor} {out : ℕ} {r : Refusal} {q : ℕ} → run s c the_ends ≡ refused r q
    → LeafMeans s b a c out parse_spring (node.Refused r q)
spring_no_ends {s} {c = c} h = record { by = spring_run s c ∙ (rw h) }

-- they have so many bytes at most, but for the velocity
spring_most : (x : SpringFields) (v : Option ValueExpr) → length (spring_bytes x v) ≤ 34 + length ((opt value_form).write v)
spring_most x v =
    let all = eight ((opt (below 5)).write (opt_case_of x.preset)) ((opt word).write (opt_float_of x.stiffness))
    ((opt word).write (opt_float_of x.damping)) ((opt word).write (opt_float_of x.mass)) ((opt value_form).write v)
    ((opt word).write (opt_float_of x.epsilon)) ((opt (below 2)).write (opt_case_of x.integrator))
    ((opt damping_form).write (opt_damping_of x.damping_mode))
    in
    omega (
      arith,
      all,
      case-most 5 (opt_case_of x.preset),
      word-most (opt_float_of x.stiffness),
      word-most (opt_float_of x.damping),
      word-most (opt_float_of x.mass),
      word-most (opt_float_of x.epsilon),
      case-most 2 (opt_case_of x.integrator),
      opt-most damping_form 9 damping-most (opt_damping_of x.damping_mode),
    )

module _ {s b a : List ℕ} {c m : Cursor} {out at : ℕ} (e : EndsWent s b a c m out at) where
  pub spring_refused : {a' : List ℕ} {r : Refusal} {q : ℕ} → run s m (parse_field_list spring_fields []) ≡ refused r q
      → LeafMeans s b a' c out parse_spring (node.Refused r q)
  spring_refused h = record { by = spring_run s c ∙ (rw (e.took.is, h)) }

  module _ {u : Cursor} {f : SpringFields} (t : ListTook s m u (parse_field_list spring_fields []) (spring_cells f)) where
    pub spring_plain : PlainSpring f
    spring_plain =
        let stiffness = t.say.1 in
        let mass = stiffness.1.1 in
        let epsilon = mass.1.1 in
        (stiffness.0.1, stiffness.1.0.1, mass.0.1, epsilon.0.1, epsilon.1.1.0.1)

    velocity_said : PlaceSays s (at_of m) (at_of u) f.velocity (last_value t.fields)
    velocity_said = let mass = t.say.1.1.1 in mass.1.0

    pub spring_told : Told s f.velocity
    spring_told = (last_value t.fields, at_of m, at_of u, velocity_said)

    pub spring_went : {a' : List ℕ} {q : ℕ}
        → ((lo hi : ℕ) (v : Option ValueExpr) → PlaceSays s lo hi f.velocity v → Writes a at (spring_bytes f v) a' q)
        → LeafMeans s b a' c out parse_spring (node.Is q u)
    spring_went {a'} {q} put =
        let stiffness = t.say.1 in
        let mass = stiffness.1.1 in
        let epsilon = mass.1.1 in
        let w = put (at_of m) (at_of u) (last_value t.fields) velocity_said in
        record {
          by = record {
            value = spring_leaf e.value t.fields;
            took = record {
              is = spring_run s c ∙ (rw (e.took.is, t.took.is));
              low = omega (arith, e.took.low, t.took.low);
              ready = t.took.ready;
            };
            writes = record_written
                ((span_form (length s)).write e.value.0)
                (value_form.write e.value.1.0)
                (value_form.write e.value.1.1)
                _
                e.writes
                (rw (
                  t.say.0,
                  stiffness.0.0,
                  stiffness.1.0.0,
                  mass.0.0,
                  epsilon.0.0,
                  epsilon.1.0,
                  epsilon.1.1.0.0,
                )
                at w);
            paid = let y = w.place in
                let z = spring_most f (last_value t.fields) in
                let p = velocity_paid s (at_of m) (at_of u) f.velocity (last_value t.fields) velocity_said in
                omega (arith, e.paid, e.took.low, t.took.low);
          };
        }
