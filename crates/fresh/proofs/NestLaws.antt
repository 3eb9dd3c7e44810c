-- The delimiters of a fresh script are in pairs, and not too deep.
use Prim.Native.Nat.{ℕ, zero, suc, ◌+◌, ◌≤◌, ◌<◌}
use Prim.Native.String.{String}
use mathlib.Core.Bool.{Bool, true, false}
use mathlib.Core.List.{List, [], ◌∷◌}
use mathlib.Core.Option.{Option, none, some}
use mathlib.Core.Path.{◌≡◌, refl}
use native.Mathlib.Omega.{arith}
use lib.Dec.{eqb}
use lib.ListN.{length}
use borrow.Author.Tests.{lt-ltb}
use Rattle.digits.specs.Numeral.{Sort}
use Rattle.text.specs.Bytes.{one_of}
use Rattle.token.specs.Split.{awaits, closed, nest_mark}
use Rattle.ast.specs.Tree.{ValueExpr, scalar, array, LoopSpec, once, times, forever, ping_pong, ping_pong_times, KeyframeTime}
use Rattle.ast.specs.Tree.{percent, seconds, DampingMode, critically_damped, overdamped, underdamped, StaggerPatternSpec}
use Rattle.ast.specs.Tree.{grid, random, center_out, edges_in, Container, sequence, parallel, group, stagger}
use Rattle.fresh.specs.Meaning.{EasingSense, named, cubic_bezier, steps, wiggle, rough, slow_mo, FrameSense, LeafSense, tween}
use Rattle.fresh.specs.Meaning.{spring, keyframes, path, morph, draw, color, waveform, preset, label, at, Sense, no_nodes, leaf, box}
use Rattle.grammar.specs.Values.{f32_of}
use Rattle.pieces.specs.Pieces.{Piece, a_word, a_mark}
use Rattle.pieces.specs.Means.{nest_of, Nests}
use Rattle.fresh.specs.Fresh.{Pair, more_pairs, pairs, unless, Writer, negative, minus_if, signed_by, f32, u32}
use Rattle.fresh.specs.Fresh.{more_floats, floats, value, truth, easing, loop_mode, field, only_true, at_value, leaf_word}
use Rattle.fresh.specs.Fresh.{leaf_body, box_word, box_body, pieces, mark, spell, word_at, choose}
use Rattle.grammar.specs.Grammar.{preset_names}
use Rattle.fresh.specs.Fresh.{wave_names, unless_is, offset, damping}
use Rattle.grammar.specs.Grammar.{integrator_names, space_names, mode_names, origin_names}
use Rattle.fresh.specs.Fresh.{time, frame_easing, frame, track_loop, more_frames, track, comma_if, pattern, opening}
use Rattle.fresh.specs.Reads.{Deep}

-- as a record, so that the pieces can be inferred
pub record Closes (cs : List ℕ) (ps : List Piece) : Type 0 where
  pub is : Nests cs ps

pass : {x : Piece} {cs : List ℕ} {ps : List Piece} → nest_of x cs ≡ awaits cs → Closes cs ps → Closes cs (x ∷ ps)
pass {ps = ps} e n = record { is = rw e n.is }

-- an opener with its closer, c
opens : {b c : ℕ} {cs : List ℕ} {ps : List Piece} → nest_mark b cs ≡ awaits (c ∷ cs) → Closes (c ∷ cs) ps → Closes cs (a_mark b ∷ ps)
opens e n = record { is = rw e n.is }

shut : {c : ℕ} {cs : List ℕ} {ps : List Piece} → nest_mark c (c ∷ cs) ≡ awaits cs → Closes cs ps → Closes (c ∷ cs) (a_mark c ∷ ps)
shut e n = record { is = rw e n.is }

module _ (cs : List ℕ) (h : length cs < 64) where
  round : nest_mark 40 cs ≡ awaits (41 ∷ cs)
  unfolding nest_mark one_of
  round = rw (lt-ltb (length cs) 64 h)

  square : nest_mark 91 cs ≡ awaits (93 ∷ cs)
  unfolding nest_mark one_of
  square = rw (lt-ltb (length cs) 64 h)

  curly : nest_mark 123 cs ≡ awaits (125 ∷ cs)
  unfolding nest_mark one_of
  curly = rw (lt-ltb (length cs) 64 h)

-- w keeps the nesting of what follows, while k closers more may be awaited
pub record Keeps (k : ℕ) (w : Writer) : Type 0 where
  pub nests : {cs : List ℕ} {us : List Piece} → length cs + k ≤ 64 → Closes cs us → Closes cs (w us)

float : (b : ℕ) {cs : List ℕ} {us : List Piece} → Closes cs us → Closes cs (f32 b us)
unfolding f32 signed_by minus_if nest_mark one_of
float b {cs = cs} {us = us} n = go (negative b)
  where
    go : (x : Bool) → Closes cs (signed_by Sort.float x b us)
    go true = pass refl (pass refl n)
    go false = pass refl n

many : (xs : List ℕ) {cs : List ℕ} {us : List Piece} → Closes cs us → Closes cs (more_floats xs us)
unfolding more_floats nest_mark one_of
many [] n = n
many (x ∷ xs) n = pass refl (float x (many xs n))

all : (xs : List ℕ) {cs : List ℕ} {us : List Piece} → Closes cs us → Closes cs (floats xs us)
unfolding floats
all [] n = n
all (x ∷ xs) n = float x (many xs n)

-- in parentheses
parens : {cs : List ℕ} {ps : List Piece} → length cs + 1 ≤ 64 → Closes (41 ∷ cs) ps → Closes cs (mark "(" ∷ ps)
parens {cs = cs} h n = opens (round cs (omega arith)) n

close : {cs : List ℕ} {ps : List Piece} → Closes cs ps → Closes (41 ∷ cs) (mark ")" ∷ ps)
unfolding nest_mark closed one_of
close n = shut refl n

keeps_float : {k : ℕ} (b : ℕ) → Keeps k (f32 b)
keeps_float b = record { nests = λ h n. float b n }

keeps_count : {k : ℕ} (b : ℕ) → Keeps k (u32 b)
unfolding u32
keeps_count b = record { nests = λ h n. pass refl n }

keeps_value : (v : ValueExpr) → Keeps 3 (value v)
unfolding value nest_mark closed one_of
keeps_value (scalar x) = record { nests = λ h n. float x n }
keeps_value (array xs) = record { nests = λ {cs} h n. opens (square cs (omega arith)) (all xs (shut refl n)) }

keeps_truth : {k : ℕ} (b : Bool) → Keeps k (truth b)
unfolding truth
keeps_truth true = record { nests = λ h n. pass refl n }
keeps_truth false = record { nests = λ h n. pass refl n }

-- a word and a count in parentheses
word_count : (m : ℕ) {w : List ℕ} {cs : List ℕ} {us : List Piece}
    → length cs + 1 ≤ 64 → Closes cs us
    → Closes cs (a_word w ∷ mark "(" ∷ u32 m (mark ")" ∷ us))
unfolding u32
word_count m h n = pass refl (parens h (pass refl (close n)))

-- fields in parentheses
abbrev KeepAll : List Pair → Type 0
KeepAll [] = Unit {0}
KeepAll (f ∷ fs) = Keeps 1 f.1 × KeepAll fs

unless_keeps : (b : Bool) (f : Pair) (fs : List Pair) → Keeps 1 f.1 → KeepAll fs → KeepAll (unless b f fs)
unfolding unless
unless_keeps true f fs x y = y
unless_keeps false f fs x y = (x, y)

more-listed : (fs : List Pair) {cs : List ℕ} {us : List Piece} → KeepAll fs
    → length cs + 1 ≤ 64 → Closes cs us → Closes cs (more_pairs fs us)
unfolding more_pairs nest_mark one_of
more-listed [] k h n = n
more-listed (f ∷ fs) k h n = pass refl (pass refl (pass refl (k.0.nests h (more-listed fs k.1 h n))))

listed : (fs : List Pair) {cs : List ℕ} {us : List Piece} → KeepAll fs → length cs + 1 ≤ 64 → Closes cs us → Closes cs (pairs fs us)
unfolding pairs nest_mark one_of
listed [] k h n = n
listed (f ∷ fs) k h n = pass refl (pass refl (k.0.nests h (more-listed fs k.1 h n)))

keeps_easing : (e : EasingSense) → Keeps 3 (easing e)
unfolding easing u32 nest_mark one_of
keeps_easing (named true x) = record { nests = λ h n. pass refl (pass refl (pass refl n)) }
keeps_easing (named false x) = record { nests = λ h n. pass refl n }
keeps_easing (cubic_bezier a b c d) = record {
  nests = λ h n. pass refl (parens (omega arith) (float a (pass refl (float b (pass refl (float c (pass refl (float d (close n)))))))));
}
keeps_easing (steps m) = record { nests = λ h n. word_count m (omega arith) n }
keeps_easing (wiggle m) = record { nests = λ h n. word_count m (omega arith) n }
keeps_easing (rough a m) = record {
  nests = λ h n. pass refl
      (parens (omega arith)
      (listed _ (unless_keeps (eqb a (f32_of 1 2)) _ _ (keeps_float a) (unless_keeps (eqb m 8) _ _ (keeps_count m) tt)) (omega arith)
      (close n)));
}
keeps_easing (slow_mo a b) = record {
  nests = λ h n. pass refl
      (parens (omega arith)
      (listed _ (unless_keeps (eqb a (f32_of 7 10)) _ _ (keeps_float a) (unless_keeps (eqb b (f32_of 2 1)) _ _ (keeps_float b) tt))
      (omega arith) (close n)));
}

keeps_loop : (m : LoopSpec) → Keeps 3 (loop_mode m)
unfolding loop_mode
keeps_loop once = record { nests = λ h n. pass refl n }
keeps_loop (times m) = record { nests = λ h n. word_count m (omega arith) n }
keeps_loop forever = record { nests = λ h n. pass refl n }
keeps_loop ping_pong = record { nests = λ h n. pass refl n }
keeps_loop (ping_pong_times m) = record { nests = λ h n. word_count m (omega arith) n }

keeps_field : {A : Type 0} {k : ℕ} (n : String) (w : A → Writer) → ((a : A) → Keeps k (w a)) → (o : Option A) → Keeps k (field n w o)
unfolding field nest_mark one_of
keeps_field n w h none = record { nests = λ g m. m }
keeps_field n w h (some a) = record { nests = λ g m. pass refl (pass refl ((h a).nests g m)) }

keeps_at : (r : Bool) (b : ℕ) → Keeps 3 (at_value r b)
unfolding at_value nest_mark one_of
keeps_at true b = record { nests = λ h n. pass refl (float b n) }
keeps_at false b = record { nests = λ h n. pass refl n }

-- a word by its position
word-at : (ns : List String) (k : ℕ) {cs : List ℕ} {us : List Piece} → Closes cs us → Closes cs (word_at ns k ∷ us)
unfolding word_at
word-at [] k n = pass refl n
word-at (m ∷ ms) zero n = pass refl n
word-at (m ∷ ms) (suc k) n = word-at ms k n

keeps_choice : {k : ℕ} (ns : List String) (j : ℕ) → Keeps k (choose ns j)
unfolding choose
keeps_choice ns j = record { nests = λ h n. word-at ns j n }

keeps_offset : {k : ℕ} (r : ℕ × ℕ) → Keeps k (offset r)
unfolding offset
keeps_offset r = record { nests = λ h n. float r.0 (pass refl (float r.1 n)) }

keeps_damping : (o : Option DampingMode) → Keeps 3 (damping o)
unfolding damping nest_mark one_of
keeps_damping none = record { nests = λ h n. n }
keeps_damping (some (critically_damped a)) = record { nests = λ h n. pass refl (pass refl (parens (omega arith) (float a (close n)))) }
keeps_damping (some (overdamped a b)) = record {
  nests = λ h n. pass refl (pass refl (parens (omega arith) (float a (pass refl (float b (close n))))));
}
keeps_damping (some (underdamped a b)) = record {
  nests = λ h n. pass refl (pass refl (parens (omega arith) (float a (pass refl (float b (close n))))));
}

-- ---- tracks

keeps_time : (k : KeyframeTime) {cs : List ℕ} {us : List Piece} → Closes cs us → Closes cs (time k us)
unfolding time signed_by minus_if nest_mark one_of
keeps_time (percent b) {cs = cs} {us = us} n = go (negative b)
  where
    go : (x : Bool) → Closes cs (signed_by Sort.percentage x b (mark "%" ∷ us))
    go true = pass refl (pass refl (pass refl n))
    go false = pass refl (pass refl n)
keeps_time (seconds b) n = float b n

less : (cs : List ℕ) → length cs + 4 ≤ 64 → length cs + 3 ≤ 64
less cs h = omega arith

keeps_frame-easing : (o : Option EasingSense) → Keeps 3 (frame_easing o)
unfolding frame_easing
keeps_frame-easing none = record { nests = λ h n. n }
keeps_frame-easing (some e) = keeps_easing e

keeps_frame : (f : FrameSense) → Keeps 3 (frame f)
unfolding frame nest_mark one_of
keeps_frame f = record {
  nests = λ h n. keeps_time f.time (pass refl ((keeps_value f.value).nests h ((keeps_frame-easing f.easing).nests h n)));
}

keeps_track_loop : (m : LoopSpec) → Keeps 3 (track_loop m)
unfolding track_loop nest_mark one_of
keeps_track_loop m = record { nests = λ h n. pass refl (pass refl ((keeps_loop m).nests h n)) }

keeps_more : (fs : List FrameSense) (o : Option LoopSpec) → Keeps 3 (more_frames fs o)
unfolding more_frames nest_mark one_of
keeps_more [] none = record { nests = λ h n. n }
keeps_more [] (some m) = record { nests = λ h n. pass refl ((keeps_track_loop m).nests h n) }
keeps_more (f ∷ fs) o = record { nests = λ h n. pass refl ((keeps_frame f).nests h ((keeps_more fs o).nests h n)) }

keeps_track : (fs : List FrameSense) (o : Option LoopSpec) → Keeps 3 (track fs o)
unfolding track
keeps_track [] none = record { nests = λ h n. n }
keeps_track [] (some m) = keeps_track_loop m
keeps_track (f ∷ fs) o = record { nests = λ h n. (keeps_frame f).nests h ((keeps_more fs o).nests h n) }

keeps_comma : {k : ℕ} (a : Option ℕ) (e : Option EasingSense) → Keeps k (comma_if a e)
unfolding comma_if nest_mark one_of
keeps_comma none none = record { nests = λ h n. n }
keeps_comma none (some e) = record { nests = λ h n. pass refl n }
keeps_comma (some a) e = record { nests = λ h n. pass refl n }

-- ---- leaves

keeps_leaf : (l : LeafSense) → Keeps 4 (leaf_body l)
unfolding leaf_body nest_mark closed one_of
keeps_leaf (tween d) = record {
  nests = λ {cs} g n.
      let h = less cs g in
      pass refl
      (pass refl
      ((keeps_value d.from).nests h
      (pass refl
      ((keeps_value d.to).nests h
      ((keeps_field "duration" f32 keeps_float (some d.duration)).nests h
      ((keeps_field "easing" easing keeps_easing d.easing).nests h
      ((keeps_field "delay" f32 keeps_float d.delay).nests h
      ((keeps_field "time_scale" f32 keeps_float d.time_scale).nests h
      ((keeps_field "loop" loop_mode keeps_loop d.loop_mode).nests h
      ((keeps_field "snap" f32 keeps_float d.snap).nests h
      ((keeps_field "round" u32 keeps_count d.round).nests h
      ((keeps_field "reverse" truth keeps_truth (only_true d.reverse)).nests h (pass refl n)))))))))))));
}
keeps_leaf (spring d) = record {
  nests = λ {cs} g n.
      let h = less cs g in
      pass refl
      (pass refl
      ((keeps_value d.from).nests h
      (pass refl
      ((keeps_value d.to).nests h
      ((keeps_field "preset" (choose preset_names) (keeps_choice preset_names) d.preset).nests h
      ((keeps_field "stiffness" f32 keeps_float d.stiffness).nests h
      ((keeps_field "damping" f32 keeps_float d.damping).nests h
      ((keeps_field "mass" f32 keeps_float d.mass).nests h
      ((keeps_field "velocity" value keeps_value d.velocity).nests h
      ((keeps_field "epsilon" f32 keeps_float d.epsilon).nests h
      ((keeps_field "integrator" (choose integrator_names) (keeps_choice integrator_names) d.integrator).nests h
      ((keeps_damping d.damping_mode).nests h (pass refl n)))))))))))));
}
keeps_leaf (keyframes d) = record {
  nests = λ {cs} g n. pass refl
      (opens (curly cs (omega arith)) ((keeps_track d.frames d.loop_mode).nests (omega arith) (shut refl (pass refl n))));
}
keeps_leaf (path d) = record {
  nests = λ {cs} g n.
      let h = less cs g in
      pass refl
      (pass refl
      (pass refl
      ((keeps_field "duration" f32 keeps_float (some d.duration)).nests h
      ((keeps_field "easing" easing keeps_easing d.easing).nests h
      ((keeps_field "auto_rotate" truth keeps_truth d.auto_rotate).nests h
      ((keeps_field "offset" offset keeps_offset d.offset).nests h
      ((keeps_field "loop" loop_mode keeps_loop d.loop_mode).nests h (pass refl n))))))));
}
keeps_leaf (morph d) = record {
  nests = λ {cs} g n.
      let h = less cs g in
      pass refl
      (pass refl
      (pass refl
      ((keeps_field "samples" u32 keeps_count (unless_is 32 d.samples)).nests h
      ((keeps_field "duration" f32 keeps_float (some d.duration)).nests h
      ((keeps_field "easing" easing keeps_easing d.easing).nests h (pass refl n))))));
}
keeps_leaf (draw d) = record {
  nests = λ {cs} g n.
      let h = less cs g in
      pass refl
      ((keeps_field "duration" f32 keeps_float (some d.duration)).nests h
      ((keeps_field "easing" easing keeps_easing d.easing).nests h (pass refl n)));
}
keeps_leaf (color d) = record {
  nests = λ {cs} g n.
      let h = less cs g in
      pass refl
      (pass refl
      (pass refl
      (pass refl
      (pass refl
      ((keeps_field "duration" f32 keeps_float (some d.duration)).nests h
      ((keeps_field "space" (choose space_names) (keeps_choice space_names) (unless_is 0 d.space)).nests h
      ((keeps_field "easing" easing keeps_easing d.easing).nests h (pass refl n))))))));
}
keeps_leaf (waveform d) = record {
  nests = λ {cs} g n.
      let h = less cs g in
      word-at wave_names d.kind
      ((keeps_field "frequency" f32 keeps_float d.frequency).nests h
      ((keeps_field "amplitude" f32 keeps_float d.amplitude).nests h
      ((keeps_field "phase" f32 keeps_float d.phase).nests h
      ((keeps_field "duty_cycle" f32 keeps_float d.duty_cycle).nests h
      ((keeps_field "seed" u32 keeps_count d.seed).nests h
      ((keeps_field "smoothness" f32 keeps_float d.smoothness).nests h
      ((keeps_field "duration" f32 keeps_float d.duration).nests h (pass refl n))))))));
}
keeps_leaf (preset d) = record {
  nests = λ {cs} g n.
      let h = less cs g in
      pass refl
      ((keeps_comma d.duration d.easing).nests h
      ((keeps_field "duration" f32 keeps_float d.duration).nests h
      ((keeps_field "easing" easing keeps_easing d.easing).nests h (pass refl n))));
}
keeps_leaf (label x) = record { nests = λ h n. pass refl (pass refl n) }
keeps_leaf (at d) = record { nests = λ {cs} g n. (keeps_at d.relative d.value).nests (less cs g) (pass refl n) }

-- ---- containers

keeps_pattern : (p : StaggerPatternSpec) → Keeps 3 (pattern p)
unfolding pattern
keeps_pattern (grid c r o) = record {
  nests = λ h n. pass refl
      (parens (omega arith)
      (listed _ (keeps_count c, (keeps_count r, unless_keeps (eqb o 4) _ _ (keeps_choice origin_names o) tt)) (omega arith) (close n)));
}
keeps_pattern (random m a b) = record {
  nests = λ h n. pass refl
      (parens (omega arith)
      (listed _
      (unless_keeps (eqb m 0) _ _ (keeps_count m)
      (unless_keeps (eqb a (f32_of 0 1)) _ _ (keeps_float a) (unless_keeps (eqb b (f32_of 1 10)) _ _ (keeps_float b) tt)))
      (omega arith) (close n)));
}
keeps_pattern center_out = record { nests = λ h n. pass refl n }
keeps_pattern edges_in = record { nests = λ h n. pass refl n }

keeps_opening : (p : Option StaggerPatternSpec) (d : Option ℕ) → Keeps 3 (opening p d)
unfolding opening nest_mark one_of
keeps_opening none none = record { nests = λ h n. n }
keeps_opening none (some d) = record { nests = λ h n. pass refl (pass refl (float d n)) }
keeps_opening (some p) none = record { nests = λ h n. pass refl (pass refl ((keeps_pattern p).nests h n)) }
keeps_opening (some p) (some d) = record {
  nests = λ h n. pass refl (pass refl ((keeps_pattern p).nests h (pass refl (pass refl (pass refl (float d n))))));
}

keeps_box : (b : Container) → Keeps 3 (box_body b)
unfolding box_body
keeps_box sequence = record { nests = λ h n. n }
keeps_box parallel = record { nests = λ h n. n }
keeps_box (group m) = record { nests = λ h n. word-at mode_names m n }
keeps_box (stagger p d) = keeps_opening p d

-- ---- nodes

leaf_nest : (l : LeafSense) (d : ℕ) {cs : List ℕ} {us : List Piece}
    → length cs + (d + 4) ≤ 64 → Closes cs us → Closes cs (spell (leaf_word l) ∷ leaf_body l us)
leaf_nest l d g n = pass refl ((keeps_leaf l).nests (omega arith) n)

box_nest : (b : Container) (d : ℕ) {cs : List ℕ} {ps : List Piece}
    → length cs + (suc d + 4) ≤ 64 → Closes (125 ∷ cs) ps
    → Closes cs (spell (box_word b) ∷ box_body b (mark "{" ∷ ps))
box_nest b d {cs = cs} g n = pass refl ((keeps_box b).nests (omega arith) (opens (curly cs (omega arith)) n))

shut_semi : {cs : List ℕ} {us : List Piece} → Closes cs us → Closes (125 ∷ cs) (mark "}" ∷ mark ";" ∷ us)
unfolding nest_mark closed one_of
shut_semi n = shut refl (pass refl n)

pub nodes-nest : (x : Sense) (d : ℕ) {cs : List ℕ} {us : List Piece}
    → Deep d x → length cs + (d + 4) ≤ 64 → Closes cs us
    → Closes cs (pieces x us)
unfolding pieces
nodes-nest no_nodes d h g n = n
nodes-nest (leaf l rest) d h g n = leaf_nest l d g (nodes-nest rest d h g n)
nodes-nest (box b inner rest) zero h g n = absurd h.0
nodes-nest (box b inner rest) (suc d) h g n =
    box_nest b d g (nodes-nest inner d h.0 (omega arith) (shut_semi (nodes-nest rest (suc d) h.1 g n)))
