-- Leaves, as they are written, are read.
use Prim.Native.Nat.{ℕ}
use mathlib.Core.Bool.{Bool, true, false, ◌||◌}
use mathlib.Core.List.{List, [], ◌∷◌}
use mathlib.Core.Option.{Option, some}
use mathlib.Core.Path.{◌≡◌, refl, ap, ◌∙◌}
use Rattle.digits.specs.Numeral.{float}
use Rattle.text.specs.Bytes.{same}
use Rattle.text.specs.Words.{find}
use Rattle.token.specs.Names.{is_keyword}
use Rattle.ast.specs.Tree.{EasingSpec, Leaf, AtSpec}
use Rattle.error.specs.declared.Refusal.TheVariants.{Malformed, MissingDuration}
use Rattle.grammar.specs.Fields.{a_number, a_truth, an_easing, a_loop_mode, Fields, row_of}
use Rattle.grammar.specs.Fields.{parse_field_list, last, last_number, last_easing, last_loop_mode, ever}
use Rattle.grammar.specs.Values.{number, count, flag, loop_mode}
use Rattle.number.specs.Rounded.{number_rounded}
use Rattle.grammar.specs.Grammar.{turned, stored, tween_fields, parse_tween, draw_fields, parse_draw, parse_label, at_sign, parse_at}
use Rattle.pieces.specs.Pieces.{Piece, a_name, a_string, Form, ahead, laid}
use Rattle.fresh.specs.Meaning.{option_sense, leaf_sense, TweenSense, DrawSense, tween, draw, label, at}
use Rattle.fresh.specs.Fresh.{mark, two, field, f32, u32, truth, only_true, value, at_value}
use Rattle.fresh.specs.Fresh.{easing as easing_pieces, loop_mode as loop_pieces}
use Rattle.fresh.proofs.ReadLaws.{Reads, gives, then, first, and, tallies, weaken}
use Rattle.fresh.proofs.ReadLaws.{the-mark, eats_mark, eats_none, two-marks, needs, a_number_lem, loops}
use Rattle.fresh.proofs.ValueLaws.{a_float, a_count, a_truth_lem, quiet_mark, quiet_field}
use Rattle.fresh.proofs.ValueLaws.{reads-signed, reads-value, reads-ident, reads-string}
use Rattle.fresh.proofs.EntryLaws.{put, opt, number_past, number-here, ever-past, ever-here}
use Rattle.fresh.proofs.EntryLaws.{easing-past, easing-here, loop_past, loop_here, or_none}
use Rattle.fresh.proofs.FieldLaws.{plain_name, loop-name, closes_list, exact, eased, a_loop}

-- ---- what the lists of fields say

abbrev drawn : DrawSense → Option EasingSpec → Fields
drawn d o = put "easing" (opt an_easing o) (put "duration" (some (a_number d.duration)) [])

draw_says : (d : DrawSense) (o : Option EasingSpec)
    → (last_number "duration" (drawn d o) ≡ some d.duration) × (last_easing (drawn d o) ≡ o)
unfolding last same
draw_says d o = (number_past "duration" "easing" _ (opt an_easing o) refl, easing-here "easing" o _ ∙ or_none o)

abbrev tweened : TweenSense → Option EasingSpec → Fields
tweened d o =
    put "reverse" (opt a_truth (only_true d.reverse)) (put "round" (opt a_number d.round) (put "snap" (opt a_number d.snap)
    (put "loop" (opt a_loop_mode d.loop_mode) (put "time_scale" (opt a_number d.time_scale) (put "delay" (opt a_number d.delay)
    (put "easing" (opt an_easing o) (put "duration" (some (a_number d.duration)) [])))))))

record TweenSays (d : TweenSense) (o : Option EasingSpec) (fs : Fields) : Type 0 where
  duration : last_number "duration" fs ≡ some d.duration
  easing : last_easing fs ≡ o
  delay : last_number "delay" fs ≡ d.delay
  time_scale : last_number "time_scale" fs ≡ d.time_scale
  loop_mode : last_loop_mode fs ≡ d.loop_mode
  snap : last_number "snap" fs ≡ d.snap
  round : last_number "round" fs ≡ d.round
  reverse : ever "reverse" fs ≡ d.reverse

or_false : (b : Bool) → (b || false) ≡ b
or_false true = refl
or_false false = refl

tween_says : (d : TweenSense) (o : Option EasingSpec) → TweenSays d o (tweened d o)
unfolding last same ever
tween_says d o = record {
  duration = simp number_past;
  easing = simp (easing-past, easing-here) (or_none o);
  delay = simp (number_past, number-here) (or_none d.delay);
  time_scale = simp (number_past, number-here) (or_none d.time_scale);
  loop_mode = simp (loop_past, loop_here) (or_none d.loop_mode);
  snap = simp (number_past, number-here) (or_none d.snap);
  round = simp (number_past, number-here) (or_none d.round);
  reverse = simp (ever-past, ever-here) (or_false d.reverse);
}

module _ {form : Form} {s : List ℕ} where
  -- ---- label

  pub reads_label : (v : List ℕ) (us : List Piece)
      → Reads form s 1 parse_label (a_string v ∷ mark ";" ∷ us) us (λ l. leaf_sense stored s l ≡ label v)
  unfolding parse_label
  reads_label v us = then (reads-string v _) (λ y h. and (the-mark 59 us refl) (gives (ap label h)))

  -- ---- draw

  pub reads_draw : (d : DrawSense) (us : List Piece)
      → Reads form s 1 parse_draw
      (a_string d.svg ∷ field "duration" f32 (some d.duration) (field "easing" easing_pieces d.easing (mark ";" ∷ us))) us
      (λ l. leaf_sense stored s l ≡ draw d)
  unfolding parse_draw parse_field_list draw_fields row_of same is_keyword find
  reads_draw d us =
      then (reads-string d.svg _)
      (λ y h.
      then {R = λ fs. (o : Option EasingSpec) × (option_sense s o ≡ d.easing) × (fs ≡ drawn d o)}
      (loops (exact draw_fields [] "duration" number f32 a_number (some d.duration) (plain_name "duration" refl refl) refl
      (λ b. a_float b _)
      (eased draw_fields _ d.easing refl (quiet_mark form 59 us refl refl)
      (λ o g.
      closes_list draw_fields _ us (o, g, refl)))))
      (λ fs g.
      let e = draw_says d g.0 in
      then (needs MissingDuration (last_number "duration" fs) d.duration (rw g.2 e.0))
      (λ n k. gives (rw (k, g.2, e.1, g.1, h)))))

  -- ---- at

  at_value_lem : (r : Bool) (b : ℕ) (us : List Piece)
      → Reads form s 1 parse_at (at_value r b (mark ";" ∷ us)) us (λ l. l ≡ Leaf.at (record { value = b; relative = r }))
  unfolding parse_at at_sign at_value laid ahead
  at_value_lem true b us =
      then {R = λ (x : Bool × Bool). x ≡ (true, false)} (then {d = 0} (eats_mark 43 _ refl) (λ p h. rw h (gives {a = (true, false)} refl)))
      (λ x h. then (reads-signed Malformed b _)
      (λ w g. tallies (number_rounded (turned x.1 w.0) w.1) (then (eats_mark 59 us refl) (λ c k. gives (rw (h, g))))))
  at_value_lem false b us =
      first {R = λ (x : Bool × Bool). x ≡ (false, false)}
      (first (eats_none 43 _ (λ q. refl)) (λ p h. rw h (first (eats_none 45 _ (λ q. refl)) (λ m g. gives (rw g)))))
      (λ x h. then (a_number_lem float b Malformed _)
      (λ w g. tallies (number_rounded (turned x.1 w.0) w.1)
      (then (eats_mark 59 us refl) (λ c k. gives (rw (h, g.0, g.1, g.2))))))

  pub reads_at : (d : AtSpec) (us : List Piece)
      → Reads form s 1 parse_at (at_value d.relative d.value (mark ";" ∷ us)) us (λ l. leaf_sense stored s l ≡ at d)
  reads_at d us = weaken (go d.relative d.value) (λ l h. rw h)
    where
      go : (r : Bool) (b : ℕ)
          → Reads form s 1 parse_at (at_value r b (mark ";" ∷ us)) us (λ l. l ≡ Leaf.at (record { value = b; relative = r }))
      go r b = at_value_lem r b us

  -- ---- tween

  tween_fields_lem : (d : TweenSense) (us : List Piece)
      → Reads form s 0 (parse_field_list tween_fields [])
      (field "duration" f32 (some d.duration)
      (field "easing" easing_pieces d.easing
      (field "delay" f32 d.delay
      (field "time_scale" f32 d.time_scale
      (field "loop" loop_pieces d.loop_mode
      (field "snap" f32 d.snap
      (field "round" u32 d.round (field "reverse" truth (only_true d.reverse) (mark ";" ∷ us)))))))))
      us (λ fs. (o : Option EasingSpec) × (option_sense s o ≡ d.easing) × (fs ≡ tweened d o))
  unfolding parse_field_list tween_fields row_of same is_keyword find
  tween_fields_lem d us =
      let q = quiet_mark form 59 us refl refl in
      let q8 = quiet_field form "reverse" truth (only_true d.reverse) _ q in
      let q7 = quiet_field form "round" u32 d.round _ q8 in
      let q6 = quiet_field form "snap" f32 d.snap _ q7 in
      let q5 = quiet_field form "loop" loop_pieces d.loop_mode _ q6 in
      let q4 = quiet_field form "time_scale" f32 d.time_scale _ q5 in
      let q3 = quiet_field form "delay" f32 d.delay _ q4 in
      loops (exact tween_fields [] "duration" number f32 a_number (some d.duration) (plain_name "duration" refl refl) refl
      (λ b. a_float b _)
      (eased tween_fields _ d.easing refl q3
      (λ o g.
      exact tween_fields _ "delay" number f32 a_number d.delay (plain_name "delay" refl refl) refl (λ b. a_float b _)
      (exact tween_fields _ "time_scale" number f32 a_number d.time_scale (plain_name "time_scale" refl refl) refl (λ b. a_float b _)
      (exact tween_fields _ "loop" loop_mode loop_pieces a_loop_mode d.loop_mode loop-name refl (λ m. a_loop m _ q6)
      (exact tween_fields _ "snap" number f32 a_number d.snap (plain_name "snap" refl refl) refl (λ b. a_float b _)
      (exact tween_fields _ "round" count u32 a_number d.round (plain_name "round" refl refl) refl (λ b. a_count b _)
      (exact tween_fields _ "reverse" flag truth a_truth (only_true d.reverse) (plain_name "reverse" refl refl) refl (λ b. a_truth_lem b _)
      (closes_list tween_fields _ us (o, g, refl))))))))))

  pub reads_tween : (d : TweenSense) (us : List Piece)
      → Reads form s 1 parse_tween
      (a_name d.target ∷ mark ":"
      ∷ value d.from
      (two "=" ">" ∷ value d.to
      (field "duration" f32 (some d.duration)
      (field "easing" easing_pieces d.easing
      (field "delay" f32 d.delay
      (field "time_scale" f32 d.time_scale
      (field "loop" loop_pieces d.loop_mode
      (field "snap" f32 d.snap
      (field "round" u32 d.round (field "reverse" truth (only_true d.reverse) (mark ";" ∷ us)))))))))))
      us (λ l. leaf_sense stored s l ≡ tween d)
  unfolding parse_tween
  reads_tween d us =
      then (reads-ident d.target _) (λ x h.
      and (the-mark 58 _ refl)
      (then (reads-value d.from _) (λ a i.
      and (two-marks 61 62 _ refl refl)
      (then (reads-value d.to _) (λ b j.
      then (tween_fields_lem d us)
      (λ fs g. let e = tween_says d g.0 in
      then (needs MissingDuration (last_number "duration" fs) d.duration (rw g.2 e.duration))
      (λ n k. gives (rw (k, g.2, i, j, e.easing, g.1, e.delay, e.time_scale, e.loop_mode, e.snap, e.round, e.reverse, h)))))))))
