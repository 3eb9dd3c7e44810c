-- A frame's entry, read and written.
use Rattle.ast.specs.declared.EasingSpec.{EasingSpec}
use Rattle.std.specs.Prelude.{Option as Optional}
use Prim.Native.Nat.{ℕ, ◌+◌, ◌*◌, ◌-◌, ◌≤◌}
use mathlib.Core.Bool.{Bool, true, false}
use mathlib.Core.List.{List, [], ◌∷◌, ◌++◌, append-nil, append_assoc}
use mathlib.Core.Path.{◌≡◌, refl, sym, ap, ◌∙◌}
use mathlib.Core.Logic.{◌⊎◌, inl, inr, ⊎_elim}
use native.Mathlib.Omega.{arith}
use lib.Ieee.{Float, of_bits, is_nan}
use lib.ListN.{length}
use Rattle.number.specs.Number.{f32}
use Rattle.number.specs.Time.{Key}
use Rattle.ast.specs.Tree.{KeyframeEntry, ValueExpr}
use Rattle.ast.specs.Means.{is_array, scalar_of, entry_of}
use Rattle.ast.specs.declared.ValueExpr as values
use Rattle.ast.specs.declared.ValueExpr.TheVariants.{Scalar, Array}
use Rattle.ast.specs.declared.KeyframeEntry as entries
use Rattle.sheet.specs.Sheet.{time_form, value_form, easing_form}
use Rattle.sheet_encode.specs.Means.{key_time_of, opt_easing_of, Plain, PlainOptEasing}
use Rattle.sheet_encode.specs.WriteMeans.{Writes}
use Rattle.sheet_encode.proofs.OverLaws.{writes_none, writes_then, writes_fill}
use Rattle.sheet_encode.proofs.EnumLaws.{length-time, easing-most, opt-most}
use Rattle.error.specs.declared.Refusal.{Refusal}
use Rattle.grammar.specs.Rule.{Rule, Out, got, refused, after, give, the_byte, ◌>>◌}
use Rattle.grammar.specs.Values.{parse_value}
use Rattle.grammar.specs.Grammar.{parse_keyframe_time, keyframe_entry}
use Rattle.read_cursor.specs.WordMeans.{at_of}
use Rattle.read_cursor.specs.Means.{run, Took}
use Rattle.read_cursor.specs.declared.Cursor.{Cursor}
use Rattle.read_arrays.specs.Means.{Went, Held, HeldWent}
use Rattle.read_keyframes.specs.Means.{TookTime, key_mark, easing_if, frames_bytes, EntryWent, ValuePut, EntryPut}

-- ---- an entry is read

marked : {B : Type 0} (k : Key) (f : Key → Rule B) (o : Out Unit) → after (after o (λ u. give k)) f ≡ after o (λ u. f k)
marked k f (got u l ts) = refl
marked k f (refused r q) = refl

regroup : {B : Type 0} (f : Key → Rule B) (o : Out Key) → after (after o (λ k. the_byte 58 >> give k)) f ≡ after o (λ k. the_byte 58 >> f k)
regroup f (got k l ts) = marked k f (the_byte 58 l ts)
regroup f (refused r q) = refl

-- what stands behind a key's `:`
behind_key : Key → Rule (KeyframeEntry Key)
behind_key k l ts = after (parse_value l ts) (λ v. λ l ts. after (easing_if l ts) (λ e. give (record { time = k; value = v; easing = e })))

frame-run : (s : List ℕ) (c : Cursor) → run s c keyframe_entry ≡ after (run s c key_mark) behind_key
unfolding keyframe_entry behind_key
frame-run s c = sym (regroup behind_key (run s c parse_keyframe_time))

pub frame_no_key : (s : List ℕ) (c : Cursor) {r : Refusal} {q : ℕ} → run s c key_mark ≡ refused r q → run s c keyframe_entry ≡ refused r q
frame_no_key s c h = frame-run s c ∙ (rw h)

-- no value that an entry holds is a NaN
plain_value : (b a : List ℕ) (at end : ℕ) (value : ValueExpr) (v : values.ValueExpr) → Held b a at end value v → Plain (scalar_of v)
unfolding f32 of_bits is_nan
plain_value b a at end value (Scalar x) h = h.1
plain_value b a at end value (Array n) h = tt

module _ {s : List ℕ} {c m : Cursor} {p : Bool} {x : Float} (t : TookTime s c m key_mark p x) where
  pub frame_no_value : {r : Refusal} {q : ℕ} → run s m parse_value ≡ refused r q → run s c keyframe_entry ≡ refused r q
  unfolding behind_key
  frame_no_value h = frame-run s c ∙ (rw (t.took.is, h))

  module _ {b a : List ℕ} {n : Cursor} (out : ℕ) {end : ℕ} {v : values.ValueExpr} (w : HeldWent s b a m n (out + 5) end v) where
    pub frame_no_easing : {r : Refusal} {q : ℕ} → run s n easing_if ≡ refused r q → run s c keyframe_entry ≡ refused r q
    unfolding behind_key
    frame_no_easing h = frame-run s c ∙ (rw (t.took.is, w.took.is, h))

    pub entry_went : {u : Cursor} {e : Optional EasingSpec} → Took 0 s n u easing_if (opt_easing_of e) → PlainOptEasing e
        → EntryWent s b a c u out end (entry_of p x v e)
    unfolding behind_key
    entry_went {e = e} y z = record {
      frame = record { time = t.key; value = w.value; easing = opt_easing_of e };
      took = record {
        is = frame-run s c ∙ (rw (t.took.is, w.took.is, y.is));
        low = omega (arith, t.took.low, w.took.low, y.low);
        ready = y.ready;
      };
      value = v;
      holds = refl;
      time = t.stores.is;
      held = w.held;
      easing = refl;
      plain = (t.stores.plain, plain_value b a (out + 5) end w.value v w.held, z);
      paid = omega (arith, w.paid, t.took.low, w.took.low, y.low);
    }

-- ---- an entry is written

-- an array has its own end; a scalar has 5 bytes
pub value_end : (b a : List ℕ) (at end : ℕ) (x : Float) (q : ℕ) (array : Bool) → ValuePut array b a at end x q → (q ≡ end) ⊎ (q ≡ at + 5)
value_end b a at end x q true p = inl p.1
value_end b a at end x q false p = inr p.place

module _ {s b a a' : List ℕ} {c m : Cursor} {out end q : ℕ} {e : entries.KeyframeEntry} (w : EntryWent s b a c m out end e)
    (p : EntryPut a a' out end e q) where
  abbrev time_bytes : List ℕ
  time_bytes = time_form.write (key_time_of e.percent e.time)

  abbrev value_bytes : List ℕ
  value_bytes = value_form.write w.frame.value

  -- a scalar stands behind the time; an array was there before it
  time-value : (v : values.ValueExpr) → e.array ≡ is_array v → e.value ≡ scalar_of v → Held b a (out + 5) end w.frame.value v
      → Writes b out (time_bytes ++ value_bytes) p.valued p.easing_at
  time-value (Scalar x) k g h = rw h.0 (writes_then (rw h.2 at p.time) (rw (k, g) at p.value))
  time-value (Array n) k g h =
      let y = rw k at p.value in
      rw (y.0, y.1) (writes_fill (writes_none b out) (rw (length-time (key_time_of e.percent e.time))) h.1 p.time)

  frame-bytes : Writes b out (frames_bytes (length s) (w.frame ∷ [])) a' q
  frame-bytes =
      let y = time-value w.value (ap (λ x. x.array) w.holds) (ap (λ x. x.value) w.holds) w.held in
      rw append-nil (rw (append_assoc, w.time, w.easing) at (writes_then y (p.easing (length s))))

  frame_paid : q ≤ out + 64 * (at_of m - at_of c)
  frame_paid =
      let i = opt-most (easing_form (length s)) 17 (easing-most (length s)) (opt_easing_of e.easing) in
      let j = length-time (key_time_of e.percent e.time) in
      let k = (p.easing (length s)).place in
      ⊎_elim (λ h. omega (arith, w.paid)) (λ h. omega (arith, p.time.place, w.took.low))
      (value_end p.timed p.valued p.value_at end e.value p.easing_at e.array p.value)

  pub frame_went : Went 1 s b a' c m out q keyframe_entry (λ f. frames_bytes (length s) (f ∷ []))
  frame_went = record { value = w.frame; took = w.took; writes = frame-bytes; paid = frame_paid }
