-- What stands before a container's block is taken, and written up to the count.
use Prim.Native.Nat.{ℕ, ◌≤◌}
use mathlib.Core.List.{List, [], ◌∷◌, ◌++◌, append_assoc}
use mathlib.Core.Option.{Option, none, some}
use mathlib.Core.Path.{◌≡◌, refl, sym, ap}
use native.Mathlib.Omega.{arith}
use lib.ListN.{length}
use Rattle.codec.specs.Codec.{Form, opt}
use Rattle.ast.specs.Tree.{Container, sequence, parallel, group, stagger, StaggerPatternSpec, grid, random, center_out, edges_in, holding}
use Rattle.sheet.specs.Sheet.{Forest, word, pattern_form, node_form}
use Rattle.sheet_encode.specs.WriteMeans.{Writes}
use Rattle.sheet_encode.proofs.OverLaws.{writes_none, writes_then}
use Rattle.sheet.proofs.FormLaws.{length-word}
use Rattle.grammar.specs.Grammar.{parse_sequence, parse_parallel, parse_group, parse_stagger}
use Rattle.read_cursor.specs.Means.{Ready, Took}
use Rattle.read_cursor.specs.declared.Cursor.{Cursor}
use Rattle.read_cursor.proofs.CursorLaws.{stays, fewer}
use Rattle.read_blocks.specs.Means.{container_kind, front_bytes, head_bytes, HeadWent}

-- a container is the front of its record, its head, and then the nodes in it
pub head_then : (n start : ℕ) (blk : Form Forest) (k : Container) (ns : Forest)
    → (node_form n blk).write (holding start k ns) ≡ front_bytes (container_kind k) start ++ (head_bytes k ++ blk.write ns)
head_then n start blk sequence ns = refl
head_then n start blk parallel ns = refl
head_then n start blk (group m) ns = refl
head_then n start blk (stagger p d) ns =
    let P = (opt pattern_form).write p in
    let D = (opt word).write d in
    ap (λ (l : List ℕ). front_bytes 6 start ++ l) (sym (append_assoc P D (blk.write ns)))

-- ---- the lengths of what a stagger has

pub length-pattern : (x : Option StaggerPatternSpec) → length ((opt pattern_form).write x) ≤ 14
length-pattern none = omega arith
length-pattern (some (grid c r o)) = let e : length ((opt pattern_form).write (some (grid c r o))) ≡ 11 = refl in omega arith
length-pattern (some (random s a b)) = let e : length ((opt pattern_form).write (some (random s a b))) ≡ 14 = refl in omega arith
length-pattern (some center_out) = omega arith
length-pattern (some edges_in) = omega arith

length_delay : (x : Option ℕ) → length ((opt word).write x) ≤ 5
length_delay none = omega arith
length_delay (some d) = let a = length-word d in omega arith

-- ---- each container's

module _ {s : List ℕ} {c : Cursor} (b : List ℕ) (out : ℕ) (r : Ready s c) where
  pub sequence_went : HeadWent s b b c c out out parse_sequence
  unfolding parse_sequence
  sequence_went = record {
    value = sequence;
    took = stays s c r parse_sequence sequence refl;
    writes = writes_none b out;
    small = omega arith;
  }

  pub parallel_went : HeadWent s b b c c out out parse_parallel
  unfolding parse_parallel
  parallel_went = record {
    value = parallel;
    took = stays s c r parse_parallel parallel refl;
    writes = writes_none b out;
    small = omega arith;
  }

pub group_went : {s b a : List ℕ} {c m : Cursor} {out q k : ℕ} → Took 1 s c m parse_group (group k)
    → Writes b out (k ∷ []) a q
    → HeadWent s b a c m out q parse_group
group_went {k = k} t w = record { value = group k; took = fewer t; writes = w; small = omega (arith, w.place) }

pub stagger_went : {s b b₁ a : List ℕ} {c m : Cursor} {out f q : ℕ} (p : Option StaggerPatternSpec) (d : Option ℕ)
    → Took 0 s c m parse_stagger (stagger p d)
    → Writes b out ((opt pattern_form).write p) b₁ f → Writes b₁ f ((opt word).write d) a q → HeadWent s b a c m out q parse_stagger
stagger_went p d t w z = record {
  value = stagger p d;
  took = t;
  writes = writes_then w z;
  small = let x = length-pattern p in let y = length_delay d in omega (arith, w.place, z.place);
}
