-- Fresh scripts as 02 has them, computed with a `form` that knows a few numbers.
use Prim.Native.Nat.{ℕ}
use mathlib.Core.Bool.{Bool, true, false, cond}
use mathlib.Core.List.{[], ◌∷◌}
use mathlib.Core.Option.{none, some}
use mathlib.Core.Path.{◌≡◌, refl}
use native.Mathlib.Omega.{arith}
use lib.Dec.{eqb}
use Rattle.digits.specs.Numeral.{all, counted, float, fraction, percentage, pointed}
use Rattle.text.specs.Bytes.{bytes, decimal, one_of}
use Rattle.number.specs.Number.{nearest, bits}
use Rattle.ast.specs.Tree.{scalar, array, once, seconds, sequence, stagger, grid, random}
use Rattle.ast.specs.Tree.{percent as hundredths}
use Rattle.grammar.specs.Values.{f32_of}
use Rattle.pieces.specs.Pieces.{Form, spelt, spaced, joined, word_like, fits, all_fit}
use Rattle.fresh.specs.Meaning.{named, rough, FrameSense, LeafSense, keyframes, path, preset, at, Sense, no_nodes, leaf, box}
use Rattle.fresh.specs.Fresh.{negative, minus_if, size_of, signed_by, f32, u32, floats, value, truth, easing, loop_mode}
use Rattle.fresh.specs.Fresh.{field, time, frame_easing, frame, track_loop, more_frames, track, comma_if, at_value, leaf_word}
use Rattle.fresh.specs.Fresh.{leaf_body, box_word, box_body, pattern, opening, pairs, more_pairs, unless, pieces, script, has_text}
use Rattle.fresh.specs.Reads.{ReadsTo}
use Rattle.fresh.proofs.Back.{reads_back}

abbrev toy : Form
toy float m = cond (eqb m 1065353216) (bytes "1", []) (cond (eqb m 1056964608) (bytes "0", bytes "5") (bytes "0", []))
toy percentage m = (bytes "50", [])
toy counted m = cond (eqb m 3) (bytes "3", []) (bytes "2", [])

abbrev alone : LeafSense → Sense
alone l = leaf l no_nodes

abbrev an_at : Bool → ℕ → Sense
an_at r b = alone (at (record { value = b; relative = r }))

in_a_container : script toy (box sequence (an_at false 1065353216) no_nodes) ≡ bytes "sequence { at 1 ; } ;"
unfolding pieces box_word box_body leaf_word leaf_body at_value joined spaced spelt fraction
in_a_container = refl

relative : script toy (an_at true 3212836864) ≡ bytes "at + - 1 ;"
unfolding pieces leaf_word leaf_body at_value joined spaced spelt fraction f32 signed_by negative minus_if size_of
relative = refl

abbrev a_frame : ℕ → FrameSense
a_frame b = record { time = seconds b; value = scalar b; easing = none }

loop_last : script toy
    (alone (keyframes (record { target = bytes "p"; frames = a_frame 0 ∷ a_frame 1065353216 ∷ []; loop_mode = some once })))
    ≡ bytes "keyframes p { 0 : 0 , 1 : 1 , loop : once } ;"
unfolding pieces leaf_word leaf_body track frame time frame_easing more_frames track_loop loop_mode value joined spaced spelt fraction f32
    signed_by negative minus_if size_of
loop_last = refl

abbrev half : FrameSense
half = record { time = hundredths 1056964608; value = array []; easing = some (named true (bytes "EaseInQuad")) }

percents : script toy (alone (keyframes (record { target = bytes "p"; frames = half ∷ []; loop_mode = none })))
    ≡ bytes "keyframes p { 50 % : [ ] Easing :: EaseInQuad } ;"
unfolding pieces leaf_word leaf_body track frame time frame_easing more_frames value floats easing joined spaced spelt fraction signed_by
    negative minus_if size_of
percents = refl

with_fields : script toy
    (alone (preset (record { name = bytes "fade_in"; duration = some 1065353216; easing = some (named false (bytes "linear")) })))
    ≡ bytes "preset fade_in , duration : 1 easing : linear ;"
unfolding pieces leaf_word leaf_body comma_if field easing joined spaced spelt fraction f32 signed_by negative minus_if size_of
with_fields = refl

in_parentheses : script toy (box (stagger (some (grid 3 2 4)) (some 1065353216)) no_nodes no_nodes)
    ≡ bytes "stagger pattern : grid ( cols : 3 , rows : 2 ) , delay : 1 { } ;"
unfolding pieces box_word box_body opening pattern pairs more_pairs unless joined spaced spelt fraction f32 u32 signed_by negative minus_if
    size_of
in_parentheses = refl

-- `min : - 0` stays, `max : 0.1` goes
bit_for_bit : script toy (box (stagger (some (random 0 2147483648 (f32_of 1 10))) none) no_nodes no_nodes)
    ≡ bytes "stagger pattern : random ( min : - 0 ) { } ;"
unfolding pieces box_word box_body opening pattern pairs more_pairs unless f32_of bits joined spaced spelt fraction f32 u32 signed_by negative
    minus_if size_of lib.Ieee.to_bits lib.Ieee.round
bit_for_bit = refl

abbrev a_path : LeafSense
a_path = path (record {
  target = bytes "p";
  svg = bytes "M0 0";
  duration = 0;
  easing = some (rough 1056964608 3);
  auto_rotate = some false;
  offset = none;
  loop_mode = some once;
})

-- `auto_rotate : false` and `loop : once` stay
present : script toy (alone a_path)
    ≡ bytes "path p along \"M0 0\" duration : 0 easing : rough ( points : 3 ) auto_rotate : false loop : once ;"
unfolding pieces leaf_word leaf_body field easing pairs more_pairs unless truth loop_mode f32_of bits joined spaced spelt fraction f32 u32
    signed_by negative minus_if size_of lib.Ieee.to_bits lib.Ieee.round
present = refl

-- an absolute `at` with its sign bit set
no_text : has_text toy (an_at false 2147483648) ≡ false
unfolding pieces leaf_word leaf_body at_value all_fit fits nearest bits pointed decimal all one_of word_like lib.Ieee.to_bits lib.Ieee.round
no_text = refl

some_text : ReadsTo (script toy (an_at false 1065353216)) (an_at false 1065353216)
unfolding pieces leaf_word leaf_body at_value nearest bits pointed decimal all one_of word_like lib.Ieee.to_bits lib.Ieee.round
some_text =
    reads_back toy (an_at false 1065353216) tt
    (refl, ((record { whole = refl; part = refl; some = omega arith; few = omega arith; short = omega arith }, refl), (refl, tt)))
