-- The forms of the sheet are lawful: decoding undoes encoding, and only what encoding gives is decoded.
use Prim.Native.Nat.{ℕ, zero, suc, ◌<◌, ◌≤◌}
use mathlib.Core.Bool.{Bool, true, false, cond}
use mathlib.Core.List.{List, [], ◌∷◌, ◌++◌, append-nil}
use mathlib.Core.Option.{Option, none, some, some-injective}
use mathlib.Core.Path.{◌≡◌, refl, sym, ◌∙◌, ap, subst, subst⁻¹}
use native.Mathlib.Nat.{suc_inj}
use native.Mathlib.Omega.{arith}
use borrow.Author.Tests.{eqb-true, le-ltb, ltb-false}
use lib.Dec.{ltb, eqb}
use lib.ListN.{length}
use Rattle.codec.specs.Codec.{Form, empty, below, ◌▹◌, sized}
use Rattle.codec.proofs.Laws.{Lawful, Law, Small, make_at, empty_l, never_l, below_l, big_l, ◌&◌, such_l, many_l, opt_l}
use Rattle.codec.proofs.Laws.{struct_l, enum_l, same_lawful, via_lawful, both_lawful, sized_lawful, empty_lawful, below_lawful}
use Rattle.ast.specs.Tree.{
  ValueExpr,
  scalar,
  array,
  EasingSpec,
  named,
  cubic_bezier,
  steps,
  wiggle,
  rough,
  slow_mo,
  LoopSpec,
  once,
  times,
  forever,
  ping_pong,
  ping_pong_times,
  DampingMode,
  critically_damped,
  overdamped,
  underdamped,
  KeyframeTime,
  percent,
  seconds,
  StaggerPatternSpec,
  grid,
  random,
  center_out,
  edges_in,
  tween,
  spring,
  keyframes,
  path,
  morph,
  draw,
  color,
  waveform,
  preset,
  label,
  at,
  sequence,
  parallel,
  group,
  stagger,
  Nodes,
  leaf,
  box,
  single,
  holding,
  push,
  width,
}
use Rattle.sheet.specs.Sheet

-- ---- small forms

abbrev pub word_l : Law Sheet.word
word_l = big_l 4

flag_same : (b : Bool) → eqb (cond b 1 0) 1 ≡ b
flag_same true = refl
flag_same false = refl

flag_again : (b : ℕ) → b < 2 → cond (eqb b 1) 1 0 ≡ b
flag_again zero h = refl
flag_again (suc zero) h = refl
flag_again (suc (suc b)) h = absurd (no b h)
  where
    no : (b : ℕ) → suc (suc b) < 2 → ⊥
    no b h = omega arith

pub flag_lawful : Lawful Sheet.flag (λ b. cond b 1 0 < 2)
flag_lawful = same_lawful (below 2) (λ b. eqb b 1) (λ b. cond b 1 0) (λ b. b < 2) (below_lawful 2) (λ b h. flag_same b) flag_again

abbrev pub flag_l : Law Sheet.flag
flag_l = record { ok = λ b. cond b 1 0 < 2; law = flag_lawful }

abbrev pub span_l : (n : ℕ) → Law (Sheet.span_form n)
span_l n = such_l (Sheet.in_text n) (struct_l Sheet.to_span Sheet.of_span (big_l 2 & big_l 2) (λ s. refl) (λ p. refl))

-- ---- enums: each value is its case's, and each case's value is told apart again

pub value_same : (w : ℕ) (v : ValueExpr) → make_at (Sheet.values_of w) (Sheet.split_value_of w v).0 (Sheet.split_value_of w v).1 ≡ v
value_same w (scalar x) = refl
value_same w (array xs) = refl

abbrev pub value_l_of : (w : ℕ) → Law (Sheet.value_form_of w)
value_l_of w = enum_l (Sheet.values_of w) (Sheet.split_value_of w) (big_l w, (many_l word_l, tt)) (value_same w) ((λ x. refl), ((λ x. refl), tt))

abbrev pub value_l : Law Sheet.value_form
value_l = value_l_of 4

pub easing-same : (n : ℕ) (e : EasingSpec) → make_at (Sheet.easings n) (Sheet.split_easing n e).0 (Sheet.split_easing n e).1 ≡ e
easing-same n (named v s) = refl
easing-same n (cubic_bezier a b c d) = refl
easing-same n (steps k) = refl
easing-same n (wiggle k) = refl
easing-same n (rough s k) = refl
easing-same n (slow_mo r p) = refl

abbrev pub easing_l : (n : ℕ) → Law (Sheet.easing_form n)
easing_l n =
    enum_l (Sheet.easings n) (Sheet.split_easing n)
    (flag_l & span_l n, (word_l & word_l & word_l & word_l, (word_l, (word_l, (word_l & word_l, (word_l & word_l, tt)))))) (easing-same n)
    ((λ x. refl), ((λ x. refl), ((λ x. refl), ((λ x. refl), ((λ x. refl), ((λ x. refl), tt))))))

pub loop_same : (m : LoopSpec) → make_at Sheet.loops (Sheet.split_loop m).0 (Sheet.split_loop m).1 ≡ m
loop_same once = refl
loop_same (times k) = refl
loop_same forever = refl
loop_same ping_pong = refl
loop_same (ping_pong_times k) = refl

abbrev pub loop_l : Law Sheet.loop_form
loop_l =
    enum_l Sheet.loops Sheet.split_loop (empty_l, (word_l, (empty_l, (empty_l, (word_l, tt))))) loop_same
    ((λ x. refl), ((λ x. refl), ((λ x. refl), ((λ x. refl), ((λ x. refl), tt)))))

pub damping-same : (d : DampingMode) → make_at Sheet.dampings (Sheet.split_damping d).0 (Sheet.split_damping d).1 ≡ d
damping-same (critically_damped s) = refl
damping-same (overdamped s r) = refl
damping-same (underdamped s r) = refl

abbrev pub damping_l : Law Sheet.damping_form
damping_l =
    enum_l Sheet.dampings Sheet.split_damping (word_l, (word_l & word_l, (word_l & word_l, tt))) damping-same
    ((λ x. refl), ((λ x. refl), ((λ x. refl), tt)))

pub time-same : (w : ℕ) (t : KeyframeTime) → make_at (Sheet.times_of w) (Sheet.split_time_of w t).0 (Sheet.split_time_of w t).1 ≡ t
time-same w (percent x) = refl
time-same w (seconds x) = refl

abbrev pub time_l_of : (w : ℕ) → Law (Sheet.time_form_of w)
time_l_of w = enum_l (Sheet.times_of w) (Sheet.split_time_of w) (big_l w, (big_l w, tt)) (time-same w) ((λ x. refl), ((λ x. refl), tt))

abbrev pub time_l : Law Sheet.time_form
time_l = time_l_of 4

pub pattern-same : (p : StaggerPatternSpec) → make_at Sheet.patterns (Sheet.split_pattern p).0 (Sheet.split_pattern p).1 ≡ p
pattern-same (grid c r o) = refl
pattern-same (random s a b) = refl
pattern-same center_out = refl
pattern-same edges_in = refl

abbrev pub pattern_l : Law Sheet.pattern_form
pattern_l =
    enum_l Sheet.patterns Sheet.split_pattern (word_l & word_l & below_l 9, (word_l & word_l & word_l, (empty_l, (empty_l, tt)))) pattern-same
    ((λ x. refl), ((λ x. refl), ((λ x. refl), ((λ x. refl), tt))))

-- ---- structs

abbrev pub entry_l_of : (w n : ℕ) → Law (Sheet.entry_form_of w n)
entry_l_of w n = struct_l Sheet.to_entry Sheet.of_entry (time_l_of w & value_l_of w & opt_l (easing_l n)) (λ b. refl) (λ a. refl)

abbrev pub entry_l : (n : ℕ) → Law (Sheet.entry_form n)
entry_l = entry_l_of 4

abbrev pub tween_l : (n : ℕ) → Law (Sheet.tween_form n)
tween_l n =
    struct_l Sheet.to_tween Sheet.of_tween
    (span_l n & value_l & value_l & word_l & opt_l (easing_l n) & opt_l word_l & opt_l word_l & opt_l loop_l & opt_l word_l & opt_l word_l & flag_l)
    (λ b. refl) (λ a. refl)

abbrev pub spring_l : (n : ℕ) → Law (Sheet.spring_form n)
spring_l n =
    struct_l Sheet.to_spring Sheet.of_spring
    (span_l n & value_l & value_l & opt_l (below_l 5) & opt_l word_l
    & opt_l word_l & opt_l word_l & opt_l value_l & opt_l word_l
    & opt_l (below_l 2) & opt_l damping_l)
    (λ b. refl) (λ a. refl)

abbrev pub keyframes_l_of : (w n : ℕ) → Law (Sheet.keyframes_form_of w n)
keyframes_l_of w n = struct_l Sheet.to_keyframes Sheet.of_keyframes (span_l n & many_l (entry_l_of w n) & opt_l loop_l) (λ b. refl) (λ a. refl)

abbrev pub keyframes_l : (n : ℕ) → Law (Sheet.keyframes_form n)
keyframes_l = keyframes_l_of 4

abbrev pub path_l : (n : ℕ) → Law (Sheet.path_form n)
path_l n =
    struct_l Sheet.to_path Sheet.of_path (span_l n & span_l n & word_l & opt_l (easing_l n) & opt_l flag_l & opt_l (word_l & word_l) & opt_l loop_l)
    (λ b. refl) (λ a. refl)

abbrev pub morph_l : (n : ℕ) → Law (Sheet.morph_form n)
morph_l n = struct_l Sheet.to_morph Sheet.of_morph (span_l n & span_l n & word_l & word_l & opt_l (easing_l n)) (λ b. refl) (λ a. refl)

abbrev pub draw_l : (n : ℕ) → Law (Sheet.draw_form n)
draw_l n = struct_l Sheet.to_draw Sheet.of_draw (span_l n & word_l & opt_l (easing_l n)) (λ b. refl) (λ a. refl)

abbrev pub color_l : (n : ℕ) → Law (Sheet.color_form n)
color_l n = struct_l Sheet.to_color Sheet.of_color (span_l n & span_l n & span_l n & word_l & below_l 3 & opt_l (easing_l n)) (λ b. refl) (λ a. refl)

abbrev pub waveform_l : Law Sheet.waveform_form
waveform_l =
    struct_l Sheet.to_waveform Sheet.of_waveform
    (below_l 5 & opt_l word_l & opt_l word_l & opt_l word_l & opt_l word_l & opt_l word_l & opt_l word_l & opt_l word_l)
    (λ b. refl) (λ a. refl)

abbrev pub preset_l : (n : ℕ) → Law (Sheet.preset_form n)
preset_l n = struct_l Sheet.to_preset Sheet.of_preset (span_l n & opt_l word_l & opt_l (easing_l n)) (λ b. refl) (λ a. refl)

abbrev pub at_l : Law Sheet.at_form
at_l = struct_l Sheet.to_at Sheet.of_at (word_l & flag_l) (λ b. refl) (λ a. refl)

-- ---- nodes

pub node_same : (w n : ℕ) (inner : Form Sheet.Forest) (x : Sheet.Node)
    → make_at (Sheet.kinds_of w n inner) (Sheet.split_node_of w n inner x).0 (Sheet.split_node_of w n inner x).1 ≡ x
node_same w n inner (single p (tween x)) = refl
node_same w n inner (single p (spring x)) = refl
node_same w n inner (single p (keyframes x)) = refl
node_same w n inner (holding p sequence ns) = refl
node_same w n inner (holding p parallel ns) = refl
node_same w n inner (holding p (group m) ns) = refl
node_same w n inner (holding p (stagger q d) ns) = refl
node_same w n inner (single p (path x)) = refl
node_same w n inner (single p (morph x)) = refl
node_same w n inner (single p (draw x)) = refl
node_same w n inner (single p (color x)) = refl
node_same w n inner (single p (waveform x)) = refl
node_same w n inner (single p (preset x)) = refl
node_same w n inner (single p (label s)) = refl
node_same w n inner (single p (at x)) = refl

abbrev pub start_l : (n : ℕ) → Law (Sheet.start_form n)
start_l n = such_l (λ p. ltb p n) (big_l 2)

-- `b` is the law of the form of the nodes in a container
module _ (w n : ℕ) {inner : Form Sheet.Forest} (b : Law inner) where
  abbrev pub node_l_of : Law (Sheet.node_form_of w n inner)
  node_l_of =
      enum_l (Sheet.kinds_of w n inner) (Sheet.split_node_of w n inner) (
        start_l n & tween_l n,
        (
          start_l n & spring_l n,
          (
            start_l n & keyframes_l_of w n,
            (
              start_l n & b,
              (
                start_l n & b,
                (
                  start_l n & below_l 2 & b,
                  (
                    start_l n & opt_l pattern_l & opt_l word_l & b,
                    (
                      start_l n & path_l n,
                      (
                        start_l n & morph_l n,
                        (
                          start_l n & draw_l n,
                          (
                            start_l n & color_l n,
                            (start_l n & waveform_l, (start_l n & preset_l n, (start_l n & span_l n, (start_l n & at_l, tt)))),
                          ),
                        ),
                      ),
                    ),
                  ),
                ),
              ),
            ),
          ),
        ),
      )
      (node_same w n inner) (
        (λ x. refl),
        (
          (λ x. refl),
          (
            (λ x. refl),
            (
              (λ x. refl),
              (
                (λ x. refl),
                (
                  (λ x. refl),
                  (
                    (λ x. refl),
                    (
                      (λ x. refl),
                      ((λ x. refl), ((λ x. refl), ((λ x. refl), ((λ x. refl), ((λ x. refl), ((λ x. refl), ((λ x. refl), tt))))))),
                    ),
                  ),
                ),
              ),
            ),
          ),
        ),
      )

  -- every one of some nodes
  abbrev pub OkNodesOf : Sheet.Forest → Type 0
  OkNodesOf Nodes.none = Unit {0}
  OkNodesOf (leaf p l rest) = node_l_of.ok (single p l) × OkNodesOf rest
  OkNodesOf (box p k ns rest) = node_l_of.ok (holding p k ns) × OkNodesOf rest

  abbrev Some : ℕ → Sheet.Forest → Type 0
  Some c ns = (width ns ≡ c) × OkNodesOf ns

  zero≢suc : {A : Type 0} (c : ℕ) → 0 ≡ suc c → A
  zero≢suc c h = absurd (no c h)
    where
      no : (c : ℕ) → 0 ≡ suc c → ⊥
      no c h = omega arith

  no_nodes : (ns : Sheet.Forest) → width ns ≡ 0 → Nodes.none ≡ ns
  no_nodes Nodes.none h = refl
  no_nodes (leaf p l rest) h = zero≢suc (width rest) (sym h)
  no_nodes (box p k ns rest) h = zero≢suc (width rest) (sym h)

  there : (c : ℕ) (ns : Sheet.Forest) → Some (suc c) ns → node_l_of.ok (Sheet.of_forest ns).0 × Some c (Sheet.of_forest ns).1
  there c Nodes.none h = zero≢suc c h.0
  there c (leaf p l rest) h = (h.1.0, (suc_inj h.0, h.1.1))
  there c (box p k ns rest) h = (h.1.0, (suc_inj h.0, h.1.1))

  same : (c : ℕ) (ns : Sheet.Forest) → Some (suc c) ns → Sheet.to_forest (Sheet.of_forest ns) ≡ ns
  same c Nodes.none h = zero≢suc c h.0
  same c (leaf p l rest) h = refl
  same c (box p k ns rest) h = refl

  fine : (c : ℕ) (x : Sheet.Node) (rest : Sheet.Forest) → node_l_of.ok x → Some c rest → Some (suc c) (push x rest)
  fine c (single p l) rest h o = (ap suc o.0, (h, o.1))
  fine c (holding p k ns) rest h o = (ap suc o.0, (h, o.1))

  again : (x : Sheet.Node) (rest : Sheet.Forest) → Prim.Path (Sheet.Node × Sheet.Forest) (Sheet.of_forest (push x rest)) (x, rest)
  again (single p l) rest = refl
  again (holding p k ns) rest = refl

  forest_lawful : (c : ℕ) → Lawful (Sheet.forest_of w n inner c) (Some c)
  forest_lawful zero =
      via_lawful empty
      (λ u. Nodes.none)
      (λ ns. tt)
      (λ u. Unit {0})
      (Some 0)
      empty_lawful
      (λ ns h. tt)
      (λ ns h. no_nodes ns h.0)
      (λ u h. (refl, tt))
      (λ u h. refl)
  forest_lawful (suc c) =
      via_lawful (Sheet.node_form_of w n inner ▹ Sheet.forest_of w n inner c) Sheet.to_forest Sheet.of_forest
      (λ p. node_l_of.ok p.0 × Some c p.1)
      (Some (suc c))
      (both_lawful (Sheet.node_form_of w n inner) (Sheet.forest_of w n inner c) node_l_of.ok (Some c) node_l_of.law (forest_lawful c))
      (there c) (same c) (λ p h. fine c p.0 p.1 h.0 h.1) (λ p h. again p.0 p.1)

  pub sized-nodes : Lawful (sized width (Sheet.forest_of w n inner)) (λ ns. Small 2 (width ns) × OkNodesOf ns)
  sized-nodes = sized_lawful width (Sheet.forest_of w n inner) OkNodesOf forest_lawful

  abbrev pub sized_l_of : Law (sized width (Sheet.forest_of w n inner))
  sized_l_of = record { ok = λ ns. Small 2 (width ns) × OkNodesOf ns; law = sized-nodes }

abbrev pub inner_l_of : (w n d : ℕ) → Law (Sheet.inner_of w n d)
inner_l_of w n zero = never_l
inner_l_of w n (suc d) = sized_l_of w n (inner_l_of w n d)

abbrev pub node_l : (n : ℕ) {inner : Form Sheet.Forest} (b : Law inner) → Law (Sheet.node_form n inner)
node_l n b = node_l_of 4 n b

abbrev pub OkNodes : (n : ℕ) {inner : Form Sheet.Forest} (b : Law inner) → Sheet.Forest → Type 0
OkNodes n b = OkNodesOf 4 n b

abbrev pub inner_l : (n d : ℕ) → Law (Sheet.inner n d)
inner_l = inner_l_of 4

-- ---- the whole sheet

-- a tree that some sheet for a text of n bytes holds: its counts, numbers, positions, spans and nesting are within the limits
unfoldable pub Fits : ℕ → Sheet.Forest → Type 0
Fits n ns = (inner_l n 17).ok ns

pub sheet_lawful : (n : ℕ) → Lawful (Sheet.sheet n) (Fits n)
unfolding Fits
sheet_lawful n = (inner_l n 17).law

-- decoding undoes encoding
pub decodes : (n : ℕ) (ns : Sheet.Forest) → Fits n ns → length (Sheet.encode n ns) ≤ 65535 → Sheet.decode n (Sheet.encode n ns) ≡ some ns
unfolding Sheet.encode Sheet.decode
decodes n ns h g =
    rw (le-ltb 65535 (length ((Sheet.sheet n).write ns)) g)
    (ap Sheet.whole
    (ap (λ (l : List ℕ). (Sheet.sheet n).read l) (sym (append-nil ((Sheet.sheet n).write ns))) ∙ (sheet_lawful n).back ns h []))

-- and only encodings are decoded
pub record Decoded (n : ℕ) (bs : List ℕ) (ns : Sheet.Forest) : Type 0 where
  pub short : length bs ≤ 65535
  pub encodes : bs ≡ Sheet.encode n ns
  pub fits : Fits n ns

none≢some : {A B : Type 0} {a : A} → Prim.Path (Option A) none (some a) → B
none≢some {A = A} e = absurd (subst⁻¹ (λ (o : Option A). elim o as (λ x. Type 0) [ none ↦ ⊥ | some r ↦ Unit {0} ]) e tt)

no_bytes : (bs : List ℕ) → eqb (length bs) 0 ≡ true → bs ≡ []
no_bytes [] e = refl
no_bytes (b ∷ bs) e = absurd (let z = eqb-true (suc (length bs)) 0 e in omega arith)

whole_of : {A : Type 0} (o : Option (A × List ℕ)) (a : A) → Sheet.whole o ≡ some a
    → (r : A × List ℕ) × (o ≡ some r) × (r.0 ≡ a) × (r.1 ≡ [])
whole_of none a e = none≢some e
whole_of {A = A} (some r) a e = go (eqb (length r.1) 0) refl e
  where
    go : (b : Bool) → eqb (length r.1) 0 ≡ b
        → cond {A = Option A} b (some r.0) none ≡ some a
        → (q : A × List ℕ) × (some r ≡ some q) × (q.0 ≡ a) × (q.1 ≡ [])
    go true p q = (r, refl, some-injective r.0 a q, no_bytes r.1 p)
    go false p q = none≢some q

pub decoded : (n : ℕ) (bs : List ℕ) (ns : Sheet.Forest) → Sheet.decode n bs ≡ some ns → Decoded n bs ns
unfolding Sheet.encode Sheet.decode
decoded n bs ns e = go (ltb 65535 (length bs)) refl e
  where
    go : (b : Bool) → ltb 65535 (length bs) ≡ b
        → cond {A = Option Sheet.Forest} b none (Sheet.whole ((Sheet.sheet n).read bs)) ≡ some ns
        → Decoded n bs ns
    go true p q = none≢some q
    go false p q =
        let (r, o, x, y) = whole_of ((Sheet.sheet n).read bs) ns q in
        let f = (sheet_lawful n).forth bs r o in
        record {
          short = ltb-false 65535 (length bs) p;
          encodes = f.0
              ∙ ap (λ (l : List ℕ). (Sheet.sheet n).write r.0 ++ l) y
              ∙ append-nil ((Sheet.sheet n).write r.0) ∙ ap (Sheet.sheet n).write x;
          fits = subst (Fits n) x f.1;
        }
