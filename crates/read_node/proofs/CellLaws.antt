-- An entry onto fields: the cell of its row takes its value, and the others stay.
use Rattle.read_cursor.specs.declared.Cursor.{Cursor}
use Rattle.std.specs.Prelude.{Some, None, Option as Optional}
use Prim.Native.Nat.{ℕ, zero, suc, ◌≤◌}
use mathlib.Core.Bool.{Bool, true, false, not, ◌&&◌}
use mathlib.Core.List.{List, [], ◌∷◌}
use mathlib.Core.Option.{Option, none, some, some-injective}
use mathlib.Core.Path.{◌≡◌, refl, subst}
use native.Mathlib.Omega.{arith}
use lib.ListN.{get_elem?, set}
use Rattle.text.specs.Bytes.{bytes, same}
use Rattle.grammar.specs.Fields as fields
use Rattle.grammar.specs.Fields.{Fields, Content, last}
use Rattle.ast.specs.Tree.{ValueExpr}
use Rattle.read_node.specs.CellMeans.{Cell, float, whole, case, truth, ever, easing, loop_mode, range, damping, place}
use Rattle.read_node.specs.CellMeans.{ValueAt, PlaceSays, CellSays, AllSay}

-- ---- cells that an entry, by its name w and its content y, says nothing of

abbrev pub is_none : {A : Type 0} → Option A → Bool
is_none none = true
is_none (some a) = false

abbrev pub quiet : Cell → List ℕ → Content → Bool
quiet (float n o) w y = not (same w (bytes n))
quiet (whole n o) w y = not (same w (bytes n))
quiet (case n o) w y = not (same w (bytes n))
quiet (truth n o) w y = not (same w (bytes n))
quiet (ever n b) w y = not (same w (bytes n))
quiet (easing o) w y = is_none y.easing
quiet (loop_mode o) w y = is_none y.loop_mode
quiet (range o) w y = is_none y.range
quiet (damping o) w y = is_none y.damping
quiet (place o) w y = is_none y.value

abbrev pub all_quiet : List Cell → List ℕ → Content → Bool
all_quiet [] w y = true
all_quiet (x ∷ xs) w y = quiet x w y && all_quiet xs w y

-- all but that at the place k
abbrev pub quiet_but : List Cell → ℕ → List ℕ → Content → Bool
quiet_but [] k w y = true
quiet_but (x ∷ xs) zero w y = all_quiet xs w y
quiet_but (x ∷ xs) (suc k) w y = quiet x w y && quiet_but xs k w y

and_left : (a b : Bool) → (a && b) ≡ true → a ≡ true
and_left true b e = refl
and_left false b e = e

and_right : (a b : Bool) → (a && b) ≡ true → b ≡ true
and_right true b e = e
and_right false b e = absurd (let z : ◌≡◌ {A = ℕ} 0 1 = cc in omega arith)

unlike : (b : Bool) → not b ≡ true → b ≡ false
unlike true e = absurd (let z : ◌≡◌ {A = ℕ} 0 1 = cc in omega arith)
unlike false e = refl

absent : {A : Type 0} (o : Option A) → is_none o ≡ true → o ≡ none
absent none e = refl
absent (some a) e = absurd (let z : ◌≡◌ {A = ℕ} 0 1 = cc in omega arith)

none≢some : {A B : Type 0} {a : A} → Prim.Path (Option A) none (some a) → B
none≢some {A = A} e = absurd (let z : ◌≡◌ {A = ℕ} 0 1 = cc in omega arith)

-- between wider places
module _ (s : List ℕ) (lo hi hi' : ℕ) (b : hi ≤ hi') (fs : Fields) where
  place_wider : (p : Optional Cursor) (v : Option ValueExpr) → PlaceSays s lo hi p v → PlaceSays s lo hi' p v
  place_wider None v h = h
  place_wider (Some c) v h =
      let z = h.2 in
      let at : ValueAt s lo hi' c h.0 = record {
        ready = z.ready;
        next = z.next;
        took = z.took;
        low = z.low;
        high = omega (arith, b, z.high);
        paid = z.paid;
      }
      in
      (h.0, h.1, at)

  wider : (x : Cell) → CellSays s lo hi x fs → CellSays s lo hi' x fs
  wider (float n o) h = h
  wider (whole n o) h = h
  wider (case n o) h = h
  wider (truth n o) h = h
  wider (ever n b) h = h
  wider (easing o) h = h
  wider (loop_mode o) h = h
  wider (range o) h = h
  wider (damping o) h = h
  wider (place o) h = place_wider o _ h

  pub all_wider : (xs : List Cell) → AllSay s lo hi xs fs → AllSay s lo hi' xs fs
  all_wider [] h = tt
  all_wider (x ∷ xs) h = (wider x h.0, all_wider xs h.1)

module _ (s : List ℕ) (lo hi : ℕ) (w : List ℕ) (y : Content) (fs : Fields) where
  -- what an entry says nothing of stays
  keeps : (x : Cell) → quiet x w y ≡ true → CellSays s lo hi x fs → CellSays s lo hi x ((w, y) ∷ fs)
  unfolding last fields.ever
  keeps (float n o) q h = (rw (unlike (same w (bytes n)) q) h.0, h.1)
  keeps (whole n o) q h = rw (unlike (same w (bytes n)) q) h
  keeps (case n o) q h = rw (unlike (same w (bytes n)) q) h
  keeps (truth n o) q h = rw (unlike (same w (bytes n)) q) h
  keeps (ever n b) q h = rw (unlike (same w (bytes n)) q) h
  keeps (easing o) q h = (rw (absent y.easing q) h.0, h.1)
  keeps (loop_mode o) q h = rw (absent y.loop_mode q) h
  keeps (range o) q h = (rw (absent y.range q) h.0, h.1)
  keeps (damping o) q h = (rw (absent y.damping q) h.0, h.1)
  keeps (place o) q h = rw (absent y.value q) h

  all_keep : (xs : List Cell) → all_quiet xs w y ≡ true → AllSay s lo hi xs fs → AllSay s lo hi xs ((w, y) ∷ fs)
  all_keep [] q h = tt
  all_keep (x ∷ xs) q h = (
    keeps x (and_left (quiet x w y) (all_quiet xs w y) q) h.0,
    all_keep xs (and_right (quiet x w y) (all_quiet xs w y) q) h.1,
  )

  -- the shared law: the cell at the place k takes what the entry says, and the entry says nothing of the others
  pub put : (xs : List Cell) (k : ℕ) (old new : Cell) → quiet_but xs k w y ≡ true
      → get_elem? xs k ≡ some old → (CellSays s lo hi old fs → CellSays s lo hi new ((w, y) ∷ fs))
      → AllSay s lo hi xs fs → AllSay s lo hi (set xs k new) ((w, y) ∷ fs)
  put [] k old new q e f h = none≢some e
  put (x ∷ xs) zero old new q e f h = (
    f (subst (λ (z : Cell). CellSays s lo hi z fs) (some-injective x old e) h.0),
    all_keep xs q h.1,
  )
  put (x ∷ xs) (suc k) old new q e f h = (
    keeps x (and_left (quiet x w y) (quiet_but xs k w y) q) h.0,
    put xs k old new (and_right (quiet x w y) (quiet_but xs k w y) q) e f h.1,
  )
