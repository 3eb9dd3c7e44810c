-- The elements of an array, read and written one at a time.
use Prim.Native.Nat.{ℕ, ◌+◌, ◌*◌, ◌-◌, ◌≤◌, ◌<◌}
use mathlib.Core.Bool.{Bool, true, false, cond}
use mathlib.Core.List.{List, [], ◌∷◌, ◌++◌}
use mathlib.Core.Path.{◌≡◌, refl, ◌∙◌}
use native.Mathlib.Omega.{arith}
use lib.Ieee.{Float}
use lib.ListN.{length, length-append}
use Rattle.codec.specs.Codec.{each_out, big}
use Rattle.number.specs.Number.{bits}
use Rattle.ast.specs.Tree.{array, scalar}
use Rattle.ast.specs.declared.ValueExpr.TheVariants.{Scalar, Array}
use Rattle.sheet.specs.Sheet.{word, value_form}
use Rattle.sheet_encode.specs.Means.{Plain}
use Rattle.sheet_encode.specs.WriteMeans.{Writes}
use Rattle.sheet_encode.proofs.OverLaws.{writes_none, writes_then, writes_counted}
use Rattle.sheet.proofs.FormLaws.{each_more, length-word}
use Rattle.error.specs.declared.Refusal.{Refusal}
use Rattle.error.specs.declared.Refusal.TheVariants.{Missing}
use Rattle.grammar.specs.Rule.{leave, the_byte, sees_byte, skip, refuse, after, give, ◌>>◌}
use Rattle.grammar.specs.Rule.{Out, got, refused, list_step, eat_byte, ends}
use Rattle.grammar.specs.Values.{parse_float, array_item, array_items, parse_value}
use Rattle.read_cursor.specs.WordMeans.{at_of}
use Rattle.read_cursor.specs.Means.{Ready, notes, tokens, run, Took}
use Rattle.read_cursor.specs.declared.Cursor.{Cursor}
use Rattle.read_fields.proofs.FieldLaws.{by_step}
use Rattle.read_fields.proofs.ListLaws.{Listed, listed_start, listed_gives, listed_done}
use Rattle.read_arrays.specs.Means.{Went, ArrayWent, array_behind, HeldWent}

-- the array that began at c stands at m with xs, written from out to at: b has become a
pub record Items (s b a : List ℕ) (c m : Cursor) (out at n : ℕ) : Type 0 where
  pub xs : List ℕ
  pub listed : Listed (list_step array_item) s c m [] xs
  pub count : n ≡ length xs
  pub writes : Writes b out (each_out word.write xs) a at
  pub paid : at ≤ out + 64 * (at_of m - at_of c)

pub items-start : (s b : List ℕ) (c : Cursor) (out : ℕ) → Ready s c → Items s b b c c out out 0
items-start s b c out r = record {
  xs = [];
  listed = listed_start (list_step array_item) s c [] r;
  count = refl;
  writes = writes_none b out;
  paid = omega arith;
}

module _ (s b a : List ℕ) (c m : Cursor) (out at n : ℕ) (i : Items s b a c m out at n) where
  -- the group ends
  pub items_end : ends (tokens s m) ≡ true → (y : Went 0 s b a c m out at array_items (each_out word.write)) × (n ≡ length y.value)
  unfolding array_items
  items_end e = (
    record {
      value = i.xs;
      took = listed_done
          (list_step array_item)
          s c m []
          i.xs
          i.listed
          m
          i.listed.ready
          (omega arith)
          (by_step (list_step array_item) i.xs s m _ i.listed.ready (λ k l. rw e));
      writes = i.writes;
      paid = i.paid;
    },
    i.count,
  )

  pub items_refused : (r : Refusal) (q : ℕ) → ends (tokens s m) ≡ false → run s m parse_float ≡ refused r q
      → run s c array_items ≡ refused r q
  unfolding array_items array_item
  items_refused r q e h =
      listed_gives (list_step array_item) s c m [] i.xs i.listed _
      (by_step (list_step array_item) i.xs s m _ i.listed.ready (λ k l. rw (e, h)))

  module _ (e : ends (tokens s m) ≡ false) (v u : Cursor) (x : ℕ) (t : Took 1 s m v parse_float x) (a' : List ℕ) (at' : ℕ)
      (w : Writes a at (word.write x) a' at') where
    more-written : Writes b out (each_out word.write (i.xs ++ x ∷ [])) a' at'
    more-written = rw each_more (writes_then i.writes w)

    more_paid : at_of c ≤ at_of m → at_of m + 1 ≤ at_of v → at_of v ≤ at_of u → at' ≤ out + 64 * (at_of u - at_of c)
    more_paid p q r = let z = w.place in let y = length-word x in omega (arith, i.paid)

    pub items_more : Took 0 s v u (eat_byte 44) true → Items s b a' c u out at' (n + 1)
    unfolding array_item
    items_more z = record {
      xs = i.xs ++ x ∷ [];
      listed = record {
        low = omega (arith, i.listed.low, t.low, z.low);
        ready = z.ready;
        goes = λ o h. i.listed.goes o
            (by_step (list_step array_item) i.xs s m o i.listed.ready
            (λ k l. rw (e, t.is, z.is) (h k (omega (arith, t.low, z.low)))));
      };
      count = rw (length-append) (omega (arith, i.count));
      writes = more-written;
      paid = more_paid i.listed.low t.low (omega (arith, z.low));
    }

    pub items_moves : Took 0 s v u (eat_byte 44) true → at_of m < at_of u
    items_moves z = omega (arith, t.low, z.low)

    pub items-last : Took 0 s v u (eat_byte 44) false
        → (y : Went 0 s b a' c u out at' array_items (each_out word.write)) × (n + 1 ≡ length y.value)
    unfolding array_item array_items
    items-last z = (
      record {
        value = i.xs ++ x ∷ [];
        took = record {
          is = listed_gives (list_step array_item) s c m [] i.xs i.listed _
              (by_step (list_step array_item) i.xs s m _ i.listed.ready (λ k l. rw (e, t.is, z.is)));
          low = omega (arith, i.listed.low, t.low, z.low);
          ready = z.ready;
        };
        writes = more-written;
        paid = more_paid i.listed.low t.low (omega (arith, z.low));
      },
      rw (length-append) (omega (arith, i.count)),
    )

-- an array has no more elements than bytes
pub few : {b a : List ℕ} {out at : ℕ} (xs : List ℕ) → Writes b out (each_out word.write xs) a at → out + length xs ≤ at
few xs w = let h = go xs in omega (arith, w.place)
  where
    go : (ys : List ℕ) → length ys ≤ length (each_out word.write ys)
    go [] = omega arith
    go (y ∷ ys) = rw length-append (let h = go ys in let k = length-word y in omega arith)

-- ---- the whole of an array

-- its case is written, two bytes are left open, its elements are written, and their count is put there
pub array_went : (s b b' a a' : List ℕ) (c m u : Cursor) (out f q e n : ℕ)
    → Writes b out (1 ∷ []) b' f
    → (w : Went 0 s b' a c m (f + 2) q array_items (each_out word.write))
    → n ≡ length w.value
    → Writes a f ((big 2).write n) a' e → Took 0 s m u (leave 93) tt → ArrayWent s b a' c u out n q
array_went s b b' a a' c m u out f q e n o w k p l = record {
  xs = w.value;
  count = k;
  took = record { is = rw (w.took.is, l.is); low = omega (arith, w.took.low, l.low); ready = l.ready };
  writes = writes_then o (writes_counted (length w.value) refl w.writes (rw k at p));
  paid = let x = o.place in omega (arith, w.paid, l.low, w.took.low);
}

pub array_refused : (s : List ℕ) (c : Cursor) (r : Refusal) (q : ℕ) → run s c array_items ≡ refused r q → run s c array_behind ≡ refused r q
array_refused s c r q h = rw h

-- a mark is there exactly if it is taken
pub mark_seen : (s : List ℕ) (c m : Cursor) (b : ℕ) → Took 1 s c m (the_byte b) tt → sees_byte b (tokens s c) ≡ true
mark_seen s c m b t = go (sees_byte b (tokens s c)) t.is
  where
    go : (x : Bool) → cond x skip (refuse Missing) (notes s c) (tokens s c) ≡ got tt (notes s m) (tokens s m) → x ≡ true
    go true e = refl
    go false e = absurd (let y : ◌≡◌ {A = ℕ} 0 1 = cc in omega arith)

pub mark_unseen : (s : List ℕ) (c : Cursor) (b q : ℕ) → run s c (the_byte b) ≡ refused Missing q → sees_byte b (tokens s c) ≡ false
mark_unseen s c b q h = go (sees_byte b (tokens s c)) h
  where
    go : (x : Bool) → cond x skip (refuse Missing) (notes s c) (tokens s c) ≡ refused Missing q → x ≡ false
    go true e = absurd (let y : ◌≡◌ {A = ℕ} 0 1 = cc in omega arith)
    go false e = refl

left_with : (xs : List ℕ) (o : Out Unit) → after (after o (λ u. give xs)) (λ ys. give (array ys)) ≡ after o (λ u. give (array xs))
left_with xs (got u l ts) = refl
left_with xs (refused r q) = refl

regroup : (o : Out (List ℕ))
    → after (after o (λ xs. leave 93 >> give xs)) (λ xs. give (array xs)) ≡ after o (λ xs. leave 93 >> give (array xs))
regroup (got xs l ts) = left_with xs (leave 93 l ts)
regroup (refused r q) = refl

-- a value that is an array, and one that is a number
module _ {s : List ℕ} {c m : Cursor} (o : Took 1 s c m (the_byte 91) tt) where
  array_run : run s c parse_value ≡ run s m array_behind
  unfolding parse_value
  array_run = rw (mark_seen s c m 91 o, o.is) (regroup (run s m array_items))

  pub array_held : {b a : List ℕ} {out n q : ℕ} {u : Cursor} → ArrayWent s b a m u out n q → HeldWent s b a c u out q (Array n)
  array_held w = record {
    value = array w.xs;
    took = record { is = array_run ∙ w.took.is; low = omega (arith, o.low, w.took.low); ready = w.took.ready };
    held = (w.count, w.writes);
    paid = omega (arith, w.paid, o.low, w.took.low);
  }

  pub value_refused : {r : Refusal} {q : ℕ} → run s m array_behind ≡ refused r q → run s c parse_value ≡ refused r q
  value_refused h = array_run ∙ h

module _ (s : List ℕ) (c : Cursor) (e : sees_byte 91 (tokens s c) ≡ false) where
  pub scalar_held : (b : List ℕ) (out : ℕ) {m : Cursor} {x : Float} → Took 1 s c m parse_float (bits x) → Plain x
      → HeldWent s b b c m out out (Scalar x)
  unfolding parse_value
  scalar_held b out {x = x} t p = record {
    value = scalar (bits x);
    took = record { is = rw (e, t.is); low = t.low; ready = t.ready };
    held = (refl, p, refl);
    paid = omega arith;
  }

  pub scalar_refused : {r : Refusal} {q : ℕ} → run s c parse_float ≡ refused r q → run s c parse_value ≡ refused r q
  unfolding parse_value
  scalar_refused h = rw (e, h)

-- ---- what is held, and then written

module _ {s b a : List ℕ} {c m : Cursor} {out q : ℕ} where
  pub array_written : {n : ℕ} → HeldWent s b a c m out q (Array n) → Went 1 s b a c m out q parse_value value_form.write
  array_written w = record { value = w.value; took = w.took; writes = w.held.1; paid = w.paid }

  pub scalar_written : {x : Float} {a' : List ℕ} {q' : ℕ} → HeldWent s b a c m out q (Scalar x)
      → Writes a out (value_form.write (scalar (bits x))) a' q'
      → Went 1 s b a' c m out q' parse_value value_form.write
  scalar_written {x} w p = record {
    value = scalar (bits x);
    took = rw w.held.0 at w.took;
    writes = rw w.held.2 at p;
    paid = let y = p.place in let z = length-word (bits x) in omega (arith, w.took.low);
  }
