-- A sheet and each of its records are bytes: what reads a sheet tests each byte that it takes.
use Prim.Native.Nat.{ℕ, zero, suc, ◌+◌, ◌*◌, ◌/◌, ◌%◌, ◌≤◌, ◌<◌}
use mathlib.Core.Bool.{Bool, true, false, cond}
use mathlib.Core.List.{List, [], ◌∷◌, ◌++◌, append-nil}
use mathlib.Core.Option.{Option, none, some, some-injective}
use mathlib.Core.Path.{◌≡◌, refl, sym, ap, ◌∙◌, subst, subst⁻¹}
use native.Mathlib.Omega.{arith}
use lib.Dec.{eqb, ltb}
use lib.ListN.{length, get_or, drop, get_elem?, length-append}
use borrow.Author.Tests.{ltb-true}
use Rattle.codec.specs.Codec.{Form, Case, FieldsAt, empty, never, below, below_in, such, passing, via, ◌▹◌, big, sized, each, each_in}
use Rattle.codec.specs.Codec.{many, enum, read_at, read_case, options, split_option, opt, step}
use Rattle.codec.proofs.Laws.{All, inverse}
use Rattle.ast.specs.Tree.{Nodes, width}
use Rattle.sheet.specs.Sheet
use Rattle.sheet.specs.Records.{all_records}
use Rattle.sheet.proofs.Laws.{sheet_lawful, Decoded, decoded}
use Rattle.sheet.proofs.Flat.{concat, sheet_flat}

abbrev pub Byte : ℕ → Type 0
Byte b = b < 256

-- ---- forms

-- if the bytes that a form leaves are below 256, so are those that it was given
record Tests {A : Type 0} (c : Form A) : Type 0 where
  bytes : (bs : List ℕ) (z : A × List ℕ) → c.read bs ≡ some z → All Byte z.1 → All Byte bs

no : {A B : Type 0} {a : A} → Prim.Path (Option A) none (some a) → B
no e = let z : ◌≡◌ {A = ℕ} 0 1 = cc in absurd (omega arith)

left : {A : Type 0} {a : A} {bs : List ℕ} (z : A × List ℕ) → some (a, bs) ≡ some z → All Byte z.1 → All Byte bs
left {A} {a} {bs} z e h = subst⁻¹ (λ (y : A × List ℕ). All Byte y.1) (some-injective (a, bs) z e) h

empty_t : Tests empty
empty_t = record { bytes = λ bs z e h. left z e h }

never_t : {A : Type 0} → Tests (never {A = A})
never_t = record { bytes = λ bs z e h. no e }

below_t : (n : ℕ) → n ≤ 256 → Tests (below n)
below_t n l = record { bytes = go }
  where
    tested : (t : Bool) (b : ℕ) (bs : List ℕ) (z : ℕ × List ℕ) → ltb b n ≡ t → cond {A = Option (ℕ × List ℕ)} t (some (b, bs)) none ≡ some z
        → All Byte z.1 → Byte b × All Byte bs
    tested true b bs z q e h = (omega (arith, ltb-true b n q), left z e h)
    tested false b bs z q e h = no e

    go : (bs : List ℕ) (z : ℕ × List ℕ) → below_in n bs ≡ some z → All Byte z.1 → All Byte bs
    go [] z e h = tt
    go (b ∷ bs) z e h = tested (ltb b n) b bs z refl e h

infixr 20 ◌&◌
◌&◌ : {A B : Type 0} {c : Form A} {d : Form B} → Tests c → Tests d → Tests (c ▹ d)
◌&◌ {c = c} {d = d} l m = record {
  bytes = λ bs z e h.
      let (y, o, f) = inverse (c.read bs) (λ a. step d.read (λ b cs. some ((a, b), cs))) z e in
      let (x, p, g) = inverse (d.read y.1) (λ b cs. some ((y.0, b), cs)) z f in
      l.bytes bs y o (m.bytes y.1 x p (left z g h));
}

via_t : {A B : Type 0} {c : Form A} (f : A → B) (g : B → A) → Tests c → Tests (via c f g)
via_t {c = c} f g l = record {
  bytes = λ bs z e h.
      let (y, o, q) = inverse (c.read bs) (λ a cs. some (f a, cs)) z e in
      l.bytes bs y o (left z q h);
}

such_t : {A : Type 0} {c : Form A} (test : A → Bool) → Tests c → Tests (such test c)
such_t {A} {c} test l = record {
  bytes = λ bs z e h. let (y, o, q) = inverse (c.read bs) (passing test) z e in l.bytes bs y o (passed (test y.0) y z q h);
}
  where
    passed : (t : Bool) (y z : A × List ℕ) → cond {A = Option (A × List ℕ)} t (some (y.0, y.1)) none ≡ some z
        → All Byte z.1 → All Byte y.1
    passed true y z e h = left z e h
    passed false y z e h = no e

big_t : (k : ℕ) → Tests (big k)
big_t zero = via_t (λ u. 0) (λ n. tt) empty_t
big_t (suc k) = via_t (λ p. p.0 * 256 + p.1) (λ n. (n / 256, n % 256)) (big_t k & below_t 256 (omega arith))

sized_t : {A : Type 0} (size : A → ℕ) (c : ℕ → Form A) → ((n : ℕ) → Tests (c n)) → Tests (sized size c)
sized_t size c l = record {
  bytes = λ bs z e h.
      let (y, o, q) = inverse ((big 2).read bs) (λ n. (c n).read) z e in
      (big_t 2).bytes bs y o ((l y.0).bytes y.1 z q h);
}

each_t : {A : Type 0} {c : Form A} → Tests c → (n : ℕ) → Tests (each c n)
each_t {A} {c} l n = record { bytes = go n }
  where
    go : (n : ℕ) (bs : List ℕ) (z : List A × List ℕ) → each_in c.read n bs ≡ some z → All Byte z.1 → All Byte bs
    go zero bs z e h = left z e h
    go (suc n) bs z e h =
        let (y, o, q) = inverse (c.read bs) (λ x. step (each_in c.read n) (λ xs r. some (x ∷ xs, r))) z e in
        let (x, p, g) = inverse (each_in c.read n y.1) (λ xs r. some (y.0 ∷ xs, r)) z q in
        l.bytes bs y o (go n y.1 x p (left z g h))

many_t : {A : Type 0} {c : Form A} → Tests c → Tests (many c)
many_t {c = c} l = sized_t length (each c) (each_t l)

-- ---- enums

abbrev EachTests : {B : Type 0} → List (Case B) → Type 0
EachTests [] = Unit {0}
EachTests (c ∷ cs) = Tests c.form × EachTests cs

case-bytes : {B : Type 0} (cs : List (Case B)) → EachTests cs → (i : ℕ) (bs : List ℕ) (z : B × List ℕ) → read_at cs i bs ≡ some z
    → All Byte z.1 → (i < length cs) × All Byte bs
case-bytes [] l i bs z e h = no e
case-bytes (c ∷ cs) l zero bs z e h =
    let (y, o, q) = inverse (c.form.read bs) (λ x r. some (c.make x, r)) z e in
    (omega arith, l.0.bytes bs y o (left z q h))
case-bytes (c ∷ cs) l (suc i) bs z e h = let w = case-bytes cs l.1 i bs z e h in (omega (arith, w.0), w.1)

enum_t : {B : Type 0} (cs : List (Case B)) (split : B → (i : ℕ) × FieldsAt cs i) → length cs ≤ 256 → EachTests cs → Tests (enum cs split)
enum_t {B} cs split m l = record { bytes = go }
  where
    go : (bs : List ℕ) (z : B × List ℕ) → read_case cs bs ≡ some z → All Byte z.1 → All Byte bs
    go [] z e h = tt
    go (i ∷ bs) z e h = let w = case-bytes cs l i bs z e h in (omega (arith, w.0), w.1)

opt_t : {A : Type 0} {c : Form A} → Tests c → Tests (opt c)
opt_t {c = c} l = enum_t (options c) (split_option c) (omega arith) (empty_t, (l, tt))

-- ---- the forms of a sheet

word_t : Tests Sheet.word
word_t = big_t 4

flag_t : Tests Sheet.flag
flag_t = via_t (λ b. eqb b 1) (λ b. cond b 1 0) (below_t 2 (omega arith))

span_t : (n : ℕ) → Tests (Sheet.span_form n)
span_t n = such_t (Sheet.in_text n) (via_t Sheet.to_span Sheet.of_span (big_t 2 & big_t 2))

value_t : Tests Sheet.value_form
value_t = enum_t Sheet.values Sheet.split_value (omega arith) (word_t, (many_t word_t, tt))

easing_t : (n : ℕ) → Tests (Sheet.easing_form n)
easing_t n =
    enum_t (Sheet.easings n) (Sheet.split_easing n) (omega arith)
    (flag_t & span_t n, (word_t & word_t & word_t & word_t, (word_t, (word_t, (word_t & word_t, (word_t & word_t, tt))))))

loop_t : Tests Sheet.loop_form
loop_t = enum_t Sheet.loops Sheet.split_loop (omega arith) (empty_t, (word_t, (empty_t, (empty_t, (word_t, tt)))))

damping_t : Tests Sheet.damping_form
damping_t = enum_t Sheet.dampings Sheet.split_damping (omega arith) (word_t, (word_t & word_t, (word_t & word_t, tt)))

time_t : Tests Sheet.time_form
time_t = enum_t Sheet.time_cases Sheet.split_time (omega arith) (word_t, (word_t, tt))

pattern_t : Tests Sheet.pattern_form
pattern_t =
    enum_t Sheet.patterns Sheet.split_pattern (omega arith)
    (word_t & word_t & below_t 9 (omega arith), (word_t & word_t & word_t, (empty_t, (empty_t, tt))))

entry_t : (n : ℕ) → Tests (Sheet.entry_form n)
entry_t n = via_t Sheet.to_entry Sheet.of_entry (time_t & value_t & opt_t (easing_t n))

tween_t : (n : ℕ) → Tests (Sheet.tween_form n)
tween_t n =
    via_t Sheet.to_tween Sheet.of_tween
    (span_t n & value_t & value_t & word_t & opt_t (easing_t n) & opt_t word_t & opt_t word_t & opt_t loop_t & opt_t word_t & opt_t word_t & flag_t)

spring_t : (n : ℕ) → Tests (Sheet.spring_form n)
spring_t n =
    via_t Sheet.to_spring Sheet.of_spring
    (span_t n & value_t & value_t & opt_t (below_t 5 (omega arith)) & opt_t word_t & opt_t word_t & opt_t word_t & opt_t value_t & opt_t word_t
    & opt_t (below_t 2 (omega arith)) & opt_t damping_t)

keyframes_t : (n : ℕ) → Tests (Sheet.keyframes_form n)
keyframes_t n = via_t Sheet.to_keyframes Sheet.of_keyframes (span_t n & many_t (entry_t n) & opt_t loop_t)

path_t : (n : ℕ) → Tests (Sheet.path_form n)
path_t n =
    via_t Sheet.to_path Sheet.of_path (span_t n & span_t n & word_t & opt_t (easing_t n) & opt_t flag_t & opt_t (word_t & word_t) & opt_t loop_t)

morph_t : (n : ℕ) → Tests (Sheet.morph_form n)
morph_t n = via_t Sheet.to_morph Sheet.of_morph (span_t n & span_t n & word_t & word_t & opt_t (easing_t n))

draw_t : (n : ℕ) → Tests (Sheet.draw_form n)
draw_t n = via_t Sheet.to_draw Sheet.of_draw (span_t n & word_t & opt_t (easing_t n))

color_t : (n : ℕ) → Tests (Sheet.color_form n)
color_t n = via_t Sheet.to_color Sheet.of_color (span_t n & span_t n & span_t n & word_t & below_t 3 (omega arith) & opt_t (easing_t n))

waveform_t : Tests Sheet.waveform_form
waveform_t =
    via_t Sheet.to_waveform Sheet.of_waveform
    (below_t 5 (omega arith) & opt_t word_t & opt_t word_t & opt_t word_t & opt_t word_t & opt_t word_t & opt_t word_t & opt_t word_t)

preset_t : (n : ℕ) → Tests (Sheet.preset_form n)
preset_t n = via_t Sheet.to_preset Sheet.of_preset (span_t n & opt_t word_t & opt_t (easing_t n))

at_t : Tests Sheet.at_form
at_t = via_t Sheet.to_at Sheet.of_at (word_t & flag_t)

start_t : (n : ℕ) → Tests (Sheet.start_form n)
start_t n = such_t (λ p. ltb p n) (big_t 2)

-- `b` is for the form of the nodes in a container
module _ (n : ℕ) {inner : Form Sheet.Forest} (b : Tests inner) where
  marks_t : EachTests (drop 11 (Sheet.kinds n inner))
  marks_t = (start_t n & waveform_t, (start_t n & preset_t n, (start_t n & span_t n, (start_t n & at_t, tt))))

  drawn_t : EachTests (drop 7 (Sheet.kinds n inner))
  drawn_t = (start_t n & path_t n, (start_t n & morph_t n, (start_t n & draw_t n, (start_t n & color_t n, marks_t))))

  held_t : EachTests (drop 3 (Sheet.kinds n inner))
  held_t = (
    start_t n & b,
    (start_t n & b, (start_t n & below_t 2 (omega arith) & b, (start_t n & opt_t pattern_t & opt_t word_t & b, drawn_t))),
  )

  node_t : Tests (Sheet.node_form n inner)
  node_t =
      enum_t (Sheet.kinds n inner) (Sheet.split_node n inner) (omega arith)
      (start_t n & tween_t n, (start_t n & spring_t n, (start_t n & keyframes_t n, held_t)))

  forest_t : (c : ℕ) → Tests (Sheet.forest n inner c)
  forest_t zero = via_t (λ u. Nodes.none) (λ ns. tt) empty_t
  forest_t (suc c) = via_t Sheet.to_forest Sheet.of_forest (node_t & forest_t c)

inner_t : (n d : ℕ) → Tests (Sheet.inner n d)
inner_t n zero = never_t
inner_t n (suc d) = sized_t width (Sheet.forest n (Sheet.inner n d)) (forest_t n (inner_t n d))

-- ---- a sheet, and its records

sheet-bytes : (n : ℕ) (s : List ℕ) (ns : Sheet.Forest) → Decoded n s ns → All Byte s
unfolding Sheet.encode
sheet-bytes n s ns d =
    let same = d.encodes ∙ sym (append-nil ((Sheet.sheet n).write ns)) in
    (inner_t n 17).bytes s (ns, []) (ap (λ (l : List ℕ). (Sheet.sheet n).read l) same ∙ (sheet_lawful n).back ns d.fits []) tt

pub all_append : (a b : List ℕ) → All Byte a → All Byte b → All Byte (a ++ b)
all_append [] b h g = g
all_append (x ∷ a) b h g = (h.0, all_append a b h.1 g)

-- what stands in front, and what behind
all_parts : (a b : List ℕ) → All Byte (a ++ b) → All Byte a × All Byte b
all_parts [] b h = (tt, h)
all_parts (x ∷ a) b h = let w = all_parts a b h.1 in ((h.0, w.0), w.1)

pub all-at : (bs : List ℕ) → All Byte bs → (i : ℕ) → get_or bs i 0 < 256
all-at [] h i = omega arith
all-at (b ∷ bs) h zero = h.0
all-at (b ∷ bs) h (suc i) = all-at bs h.1 i

one_of : (rs : List (List ℕ)) (i : ℕ) {r : List ℕ} → get_elem? rs i ≡ some r → All Byte (concat rs)
    → All Byte r × (length r ≤ length (concat rs))
one_of [] i e h = no e
one_of (q ∷ rs) zero {r} e h =
    let w = some-injective q r e in
    rw (← w) ((all_parts q (concat rs) h).0, omega (arith, length-append q (concat rs)))
one_of (q ∷ rs) (suc i) e h =
    let w = one_of rs i e (all_parts q (concat rs) h).1 in
    (w.0, omega (arith, w.1, length-append q (concat rs)))

-- a record of a sheet: its bytes, and its length in two of them
pub record Recorded (r : List ℕ) : Type 0 where
  pub bytes : All Byte r
  pub short : length r ≤ 65535

pub recorded : (n : ℕ) (s : List ℕ) (ns : Sheet.Forest) → Sheet.decode n s ≡ some ns
    → (i : ℕ) {r : List ℕ} → get_elem? (all_records n ns) i ≡ some r → Recorded r
recorded n s ns e i f =
    let d = decoded n s ns e in
    let same = d.encodes ∙ sheet_flat n ns d.fits in
    let w = one_of (all_records n ns) i f (subst (All Byte) same (sheet-bytes n s ns d)) in
    record { bytes = w.0; short = omega (arith, w.1, ap length same, d.short) }
