-- What a node's reader answers, whatever the kind: the node is taken, and its fields are written. Contracts cite these.
use Rattle.std.specs.Prelude.{ℕ, ◌+◌, ◌≤◌, ◌*◌, ◌-◌, List, [], ◌++◌, ◌≡◌, length}
use Rattle.number.specs.Time.{Key}
use Rattle.ast.specs.Tree.{Leaf, tween, spring, keyframes, path, morph, draw, color}
use Rattle.ast.specs.Tree.{waveform, preset, label, at, KeyframeTime, map_leaf, Span}
use Rattle.ast.specs.Tree.{ValueExpr}
use Rattle.sheet.specs.Sheet.{tween_form, spring_form, keyframes_form, path_form, morph_form}
use Rattle.sheet.specs.Sheet.{draw_form, color_form, waveform_form, preset_form, span_form}
use Rattle.sheet.specs.Sheet.{at_form, value_form}
use Rattle.grammar.specs.Rule.{Rule, refused, give, need, ◌>>=◌, ◌>>◌, both, the}
use Rattle.grammar.specs.Grammar.{stored}
use Rattle.read_cursor.specs.Means.{run, Took}
use Rattle.read_cursor.specs.declared.Cursor.{Cursor}
use Rattle.read_arrays.specs.Means.{Went}
use Rattle.read_node.specs.declared.NodeRead.{NodeRead}
use Rattle.read_node.specs.declared.NodeRead.TheVariants as node
use Rattle.sheet_encode.specs.Means.{span_of}
use Rattle.sheet_encode.specs.WriteMeans.{Writes}
use Rattle.error.specs.declared.Refusal.TheVariants.{MissingDuration, Missing}
use Rattle.grammar.specs.Fields.{Table, Fields, last_number, parse_field_list}
use Rattle.read_cursor.specs.WordMeans.{at_of}
use Rattle.grammar.specs.Values.{ident, parse_value}
use Rattle.read_cursor.specs.declared.WordRead.{WordRead}
use Rattle.read_cursor.specs.declared.WordRead.TheVariants as words
use Rattle.read_arrays.specs.declared.ValueRead.{ValueRead}
use Rattle.read_arrays.specs.declared.ValueRead.TheVariants as value

-- the kind of a leaf: its "position in `MotionNode`"
abbrev pub leaf_kind : {K : Type 0} → Leaf K → ℕ
leaf_kind (tween x) = 0
leaf_kind (spring x) = 1
leaf_kind (keyframes x) = 2
leaf_kind (path x) = 7
leaf_kind (morph x) = 8
leaf_kind (draw x) = 9
leaf_kind (color x) = 10
leaf_kind (waveform x) = 11
leaf_kind (preset x) = 12
leaf_kind (label x) = 13
leaf_kind (at x) = 14

-- what stands in a leaf's record behind its kind and its start, for a text of n bytes
abbrev pub leaf_fields : ℕ → Leaf KeyframeTime → List ℕ
leaf_fields n (tween x) = (tween_form n).write x
leaf_fields n (spring x) = (spring_form n).write x
leaf_fields n (keyframes x) = (keyframes_form n).write x
leaf_fields n (path x) = (path_form n).write x
leaf_fields n (morph x) = (morph_form n).write x
leaf_fields n (draw x) = (draw_form n).write x
leaf_fields n (color x) = (color_form n).write x
leaf_fields n (waveform x) = waveform_form.write x
leaf_fields n (preset x) = (preset_form n).write x
leaf_fields n (label x) = (span_form n).write x
leaf_fields n (at x) = at_form.write x

-- the same of a leaf of the grammar's tree
abbrev pub leaf_bytes : ℕ → Leaf Key → List ℕ
leaf_bytes n l = leaf_fields n (map_leaf stored l)

-- the leaf is taken and its fields are written, or it is refused
abbrev pub LeafSays : (s b a : List ℕ) → Cursor → ℕ → Rule (Leaf Key) → NodeRead → Type 0
LeafSays s b a c out p (node.Is q m) = Went 1 s b a c m out q p (leaf_bytes (length s))
LeafSays s b a c out p (node.Refused r q) = run s c p ≡ refused r q

pub record LeafMeans (s b a : List ℕ) (c : Cursor) (out : ℕ) (p : Rule (Leaf Key)) (r : NodeRead) : Type 0 where
  pub by : LeafSays s b a c out p r

-- ---- a record, and the end of a node

-- the record of a leaf, of at most 64 bytes
pub record Put (b : List ℕ) (out : ℕ) (l : Leaf Key) (a : List ℕ) (q : ℕ) : Type 0 where
  pub writes : (n : ℕ) → Writes b out (leaf_bytes n l) a q
  pub most : q ≤ out + 64

-- the end of a node is taken, and the node's record written: 64 bytes are not paid for by the end
pub record EndWent (s b a : List ℕ) (c m : Cursor) (out q : ℕ) (p : Rule (Leaf Key)) : Type 0 where
  pub value : Leaf Key
  pub took : Took 0 s c m p value
  pub writes : Writes b out (leaf_bytes (length s) value) a q
  pub paid : q ≤ out + 64 + 64 * (at_of m - at_of c)

abbrev pub EndSays : (s b a : List ℕ) → Cursor → ℕ → Rule (Leaf Key) → NodeRead → Type 0
EndSays s b a c out p (node.Is q m) = EndWent s b a c m out q p
EndSays s b a c out p (node.Refused r q) = run s c p ≡ refused r q

pub record EndMeans (s b a : List ℕ) (c : Cursor) (out : ℕ) (p : Rule (Leaf Key)) (r : NodeRead) : Type 0 where
  pub by : EndSays s b a c out p r

-- fields with a duration, which must be there
abbrev pub timed_end : Table → (Fields → ℕ → Leaf Key) → Rule (Leaf Key)
timed_end t k = parse_field_list t [] >>= λ fs. need MissingDuration (last_number "duration" fs) >>= λ d. give (k fs d)

-- ---- what tween and spring begin with

-- the target and its `:`
abbrev pub target_mark : Rule Span
target_mark = ident >>= λ t. the ":" >> give t

abbrev pub TargetMeans : List ℕ → Cursor → WordRead → Type 0
TargetMeans s c (words.Is x m) = Took 2 s c m target_mark (span_of x)
TargetMeans s c (words.Missing q) = run s c target_mark ≡ refused Missing q

abbrev pub Pair : Type 0
Pair = ValueExpr × ValueExpr

-- `from => to`
abbrev pub value_pair : Rule Pair
value_pair = parse_value >>= λ v. both "=" ">" >> (parse_value >>= λ w. give (v, w))

abbrev pub pair_bytes : Pair → List ℕ
pair_bytes p = value_form.write p.0 ++ value_form.write p.1

abbrev pub PairMeans : List ℕ → List ℕ → List ℕ → Cursor → ℕ → ValueRead → Type 0
PairMeans s b a c out (value.Is q m) = Went 1 s b a c m out q value_pair pair_bytes
PairMeans s b a c out (value.Refused r q) = run s c value_pair ≡ refused r q

abbrev pub Ends : Type 0
Ends = Span × Pair

-- `target: from => to`
abbrev pub the_ends : Rule Ends
the_ends = target_mark >>= λ t. value_pair >>= λ p. give (t, p)

-- the first fields of such a record, for a text of n bytes
abbrev pub ends_bytes : ℕ → Ends → List ℕ
ends_bytes n e = (span_form n).write e.0 ++ pair_bytes e.1

-- 64 bytes more are paid for
pub record EndsWent (s b a : List ℕ) (c m : Cursor) (out q : ℕ) : Type 0 where
  pub value : Ends
  pub took : Took 1 s c m the_ends value
  pub writes : Writes b out (ends_bytes (length s) value) a q
  pub paid : q + 64 ≤ out + 64 * (at_of m - at_of c)

abbrev pub EndsMeans : List ℕ → List ℕ → List ℕ → Cursor → ℕ → ValueRead → Type 0
EndsMeans s b a c out (value.Is q m) = EndsWent s b a c m out q
EndsMeans s b a c out (value.Refused r q) = run s c the_ends ≡ refused r q
