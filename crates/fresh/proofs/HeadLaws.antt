-- Presets, and what stands before a container's block, as they are written, are read.
use Prim.Native.Nat.{ℕ}
use Prim.Native.String.{String}
use mathlib.Core.Bool.{Bool, true, false}
use mathlib.Core.List.{List, [], ◌∷◌}
use mathlib.Core.Option.{Option, none, some}
use mathlib.Core.Path.{◌≡◌, refl}
use lib.Dec.{eqb}
use Rattle.text.specs.Bytes.{bytes, same, one_of}
use Rattle.text.specs.Words.{find, under}
use Rattle.token.specs.Names.{is_keyword}
use Rattle.ast.specs.Tree.{EasingSpec, StaggerPatternSpec, grid, random, center_out}
use Rattle.ast.specs.Tree.{edges_in, group, stagger}
use Rattle.error.specs.declared.Refusal.TheVariants.{Malformed, UnknownKeyword, StaggerGridIncomplete}
use Rattle.grammar.specs.Rule.{Rule, sees_byte, give}
use Rattle.grammar.specs.Fields.{a_number, an_easing, Fields, row_of, parse_field_list, last, last_number, last_easing}
use Rattle.grammar.specs.Values.{number, f32_of}
use Rattle.grammar.specs.Grammar.{stored, draw_fields, parse_preset_call, parse_group}
use Rattle.grammar.specs.Grammar.{parse_grid_origin, origin, grid_fields, grid_pattern, random_fields, random_pattern, patterns}
use Rattle.grammar.specs.Grammar.{parse_stagger_pattern, Opening, opening_fields, opening_field, opening_step, parse_stagger}
use Rattle.pieces.specs.Pieces.{Piece, a_name, Form, ahead, laid}
use Rattle.fresh.specs.Meaning.{option_sense, leaf_sense, PresetSense, preset}
use Rattle.fresh.specs.Fresh.{mark, spell, field, f32, u32, pairs, unless, choose}
use Rattle.fresh.specs.Fresh.{word_at, pattern, opening}
use Rattle.grammar.specs.Grammar.{mode_names, origin_names}
use Rattle.fresh.specs.Fresh.{easing as easing_pieces}
use Rattle.fresh.proofs.ReadLaws.{Reads, Loops, IsMore, IsDone, gives, then, first, and, yes_if, no_if, the-mark}
use Rattle.fresh.proofs.ReadLaws.{skips_mark, eats_mark, eats_none, in_group, a_word_lem, needs, loops, ends_at, again}
use Rattle.fresh.proofs.ValueLaws.{quiet_mark, reads_float, reads-ident, a_float, float_row, count_row, under-word}
use Rattle.fresh.proofs.EntryLaws.{put, opt, Row, puts, keep, rows_unless, keep_default}
use Rattle.fresh.proofs.EntryLaws.{reads-pairs, number_past, number-here, easing-past, easing-here, or_none}
use Rattle.fresh.proofs.FieldLaws.{plain_name, closes_list, exact, eased, reads-choice}

-- ---- preset

abbrev preset_fields : Option ℕ → Option EasingSpec → Fields
preset_fields a o = put "easing" (opt an_easing o) (put "duration" (opt a_number a) [])

preset_says : (a : Option ℕ) (o : Option EasingSpec)
    → (last_number "duration" (preset_fields a o) ≡ a) × (last_easing (preset_fields a o) ≡ o)
unfolding last same
preset_says a o = (simp (number_past, number-here) (or_none a), simp (easing-past, easing-here) (or_none o))

-- ---- fields in parentheses

abbrev grid_fields_lem : ℕ → ℕ → ℕ → Bool → Fields
grid_fields_lem c r o b =
    puts (("cols", u32 c) ∷ ("rows", u32 r) ∷ unless b ("origin", choose origin_names o) [])
    (a_number c ∷ a_number r ∷ unless b (a_number o) []) []

grid_says : (c r o : ℕ) (b : Bool)
    → (last_number "cols" (grid_fields_lem c r o b) ≡ some c)
    × (last_number "rows" (grid_fields_lem c r o b) ≡ some r)
    × (last_number "origin" (grid_fields_lem c r o b) ≡ keep b o)
unfolding last same unless
grid_says c r o true = (refl, refl, refl)
grid_says c r o false = (refl, refl, refl)

abbrev random_fields_lem : ℕ → ℕ → ℕ → Bool → Bool → Bool → Fields
random_fields_lem n a b x y z =
    puts (unless x ("seed", u32 n) (unless y ("min", f32 a) (unless z ("max", f32 b) [])))
    (unless x (a_number n) (unless y (a_number a) (unless z (a_number b) []))) []

random_says : (n a b : ℕ) (x y z : Bool)
    → (last_number "seed" (random_fields_lem n a b x y z) ≡ keep x n)
    × (last_number "min" (random_fields_lem n a b x y z) ≡ keep y a)
    × (last_number "max" (random_fields_lem n a b x y z) ≡ keep z b)
unfolding last same unless
random_says n a b true true true = (refl, refl, refl)
random_says n a b true true false = (refl, refl, refl)
random_says n a b true false true = (refl, refl, refl)
random_says n a b true false false = (refl, refl, refl)
random_says n a b false true true = (refl, refl, refl)
random_says n a b false true false = (refl, refl, refl)
random_says n a b false false true = (refl, refl, refl)
random_says n a b false false false = (refl, refl, refl)

module _ {form : Form} {s : List ℕ} where
  -- without fields its `;` is left
  pub reads_preset_alone : (d : PresetSense) (us : List Piece) → d.duration ≡ none
      → d.easing ≡ none
      → Reads form s 1 parse_preset_call (a_name d.name ∷ mark ";" ∷ us) (mark ";" ∷ us) (λ l. leaf_sense stored s l ≡ preset d)
  unfolding parse_preset_call laid ahead last
  reads_preset_alone d us a e =
      then (reads-ident d.name _) (λ x h.
      first {R = λ (fs : Fields). fs ≡ []} (no_if (sees_byte 40) _ _ (λ q. refl) (gives refl)) (λ fs g.
      first {R = λ (gs : Fields). gs ≡ []} (no_if (sees_byte 44) _ _ (λ q. refl) (gives g)) (λ gs k.
      gives (rw (k, a, e, h)))))

  pub reads_preset : (d : PresetSense) (us : List Piece)
      → Reads form s 1 parse_preset_call
      (a_name d.name ∷ mark "," ∷ field "duration" f32 d.duration (field "easing" easing_pieces d.easing (mark ";" ∷ us))) us
      (λ l. leaf_sense stored s l ≡ preset d)
  unfolding parse_preset_call parse_field_list draw_fields row_of same is_keyword find laid ahead
  reads_preset d us =
      then (reads-ident d.name _) (λ x h.
      first {R = λ (fs : Fields). fs ≡ []} (no_if (sees_byte 40) _ _ (λ q. refl) (gives refl)) (λ fs g.
      then {R = λ gs. (o : Option EasingSpec) × (option_sense s o ≡ d.easing) × (gs ≡ preset_fields d.duration o)}
      (yes_if (sees_byte 44) _ _ (λ q. refl) (and {d = 0} {f = parse_field_list draw_fields fs} (skips_mark 44 _ refl) (rw g
      (loops (exact draw_fields [] "duration" number f32 a_number d.duration (plain_name "duration" refl refl) refl (λ b. a_float b _)
      (eased draw_fields _ d.easing refl (quiet_mark form 59 us refl refl) (λ o k.
      closes_list draw_fields _ us (o, k, refl))))))))
      (λ gs k. let e = preset_says d.duration k.0 in
      gives (rw (k.2, e.0, e.1, k.1, h)))))

  -- ---- group

  pub reads_group : (m : ℕ) (us : List Piece) → Reads form s 1 parse_group (word_at mode_names m ∷ us) us (λ b. b ≡ group m)
  unfolding parse_group same is_keyword find
  reads_group m us = then (reads-choice Malformed mode_names m us (refl, refl, (refl, refl, tt))) (λ j h. gives (rw h))

  -- ---- stagger's patterns

  origin_row : (o : ℕ) → Row form s grid_fields ("origin", choose origin_names o) (a_number o)
  unfolding grid_fields row_of same is_keyword find origin parse_grid_origin choose
  origin_row o = record {
    rule = origin;
    row = refl;
    plain = refl;
    reads = λ us. then (reads-choice Malformed origin_names o us
        (refl, refl, (refl, refl, (refl, refl, (refl, refl, (refl, refl, (refl, refl, (refl, refl, (refl, refl, (refl, refl, tt))))))))))
        (λ j h. gives (rw h));
  }

  reads_grid : (c r o : ℕ) (us : List Piece)
      → Reads form s 1 grid_pattern
      (mark "(" ∷ pairs (("cols", u32 c) ∷ ("rows", u32 r) ∷ unless (eqb o 4) ("origin", choose origin_names o) []) (mark ")" ∷ us)) us
      (λ p. p ≡ grid c r o)
  unfolding grid_pattern one_of grid_fields row_of same is_keyword find
  reads_grid c r o us =
      in_group 40 41 refl refl refl
      (then (reads-pairs grid_fields _ (a_number c ∷ a_number r ∷ unless (eqb o 4) (a_number o) []) us (
        count_row grid_fields "cols" c refl refl,
        (count_row grid_fields "rows" r refl refl, rows_unless form s grid_fields (eqb o 4) _ _ _ _ (origin_row o) tt),
      ))
      (λ fs h.
      let g = grid_says c r o (eqb o 4) in
      first (needs StaggerGridIncomplete (last_number "cols" fs) c (rw h g.0))
      (λ x i.
      first (needs StaggerGridIncomplete (last_number "rows" fs) r (rw h g.1))
      (λ y j.
      gives (rw (i, j, h, g.2, keep_default o 4))))))

  reads_random : (n a b : ℕ) (us : List Piece)
      → Reads form s 1 random_pattern
      (mark "("
      ∷ pairs
      (unless (eqb n 0) ("seed", u32 n) (unless (eqb a (f32_of 0 1)) ("min", f32 a) (unless (eqb b (f32_of 1 10)) ("max", f32 b) [])))
      (mark ")" ∷ us))
      us (λ p. p ≡ random n a b)
  unfolding random_pattern one_of random_fields row_of same is_keyword find
  reads_random n a b us =
      then (in_group 40 41 refl refl refl
      (reads-pairs random_fields _
      (unless (eqb n 0) (a_number n) (unless (eqb a (f32_of 0 1)) (a_number a) (unless (eqb b (f32_of 1 10)) (a_number b) []))) us
      (rows_unless form s random_fields (eqb n 0) _ _ _ _ (count_row random_fields "seed" n refl refl)
      (rows_unless form s random_fields (eqb a (f32_of 0 1)) _ _ _ _ (float_row random_fields "min" a refl refl)
      (rows_unless form s random_fields (eqb b (f32_of 1 10)) _ _ _ _ (float_row random_fields "max" b refl refl) tt)))))
      (λ fs h.
      let g = random_says n a b (eqb n 0) (eqb a (f32_of 0 1)) (eqb b (f32_of 1 10)) in
      gives (rw (h, g.0, g.1, g.2, keep_default n 0, keep_default a (f32_of 0 1), keep_default b (f32_of 1 10))))

  reads-pattern : (p : StaggerPatternSpec) (us : List Piece) → Reads form s 1 parse_stagger_pattern (pattern p us) us (λ q. q ≡ p)
  unfolding parse_stagger_pattern pattern patterns under same is_keyword find
  reads-pattern (grid c r o) us = under-word "grid" Malformed patterns grid_pattern refl refl (reads_grid c r o us)
  reads-pattern (random n a b) us = under-word "random" Malformed patterns random_pattern refl refl (reads_random n a b us)
  reads-pattern center_out us = under-word "center_out" Malformed patterns (give center_out) refl refl (gives refl)
  reads-pattern edges_in us = under-word "edges_in" Malformed patterns (give edges_in) refl refl (gives refl)

  -- ---- stagger

  -- a field, and a `,` or not
  opening_comma : (st st' : Opening) (n : String) (p : Rule Opening) {d : ℕ} {ps us : List Piece}
      → is_keyword (bytes n) ≡ false → under (opening_fields st) (bytes n) ≡ some p
      → Reads form s d p ps (mark "," ∷ us) (λ x. x ≡ st')
      → Reads form s 1 (opening_step st) (spell n ∷ ps) us (IsMore (λ x. x ≡ st'))
  unfolding opening_step opening_field laid ahead
  opening_comma st st' n p {d = d} e f x =
      no_if (sees_byte 123) _ _ (λ q. refl)
      (then (a_word_lem (bytes n) _ e)
      (λ w h. then {d = d} (needs UnknownKeyword (under (opening_fields st) w.1) p (rw h f))
      (λ r g. rw g (then x (λ y i. then (eats_mark 44 _ refl) (λ c k. gives (rw k i)))))))

  opening-last : (st st' : Opening) (n : String) (p : Rule Opening) {d : ℕ} {ps us : List Piece}
      → is_keyword (bytes n) ≡ false → under (opening_fields st) (bytes n) ≡ some p
      → Reads form s d p ps (mark "{" ∷ us) (λ x. x ≡ st')
      → Reads form s 1 (opening_step st) (spell n ∷ ps) (mark "{" ∷ us) (IsDone (λ x. x ≡ st'))
  unfolding opening_step opening_field laid ahead
  opening-last st st' n p {d = d} e f x =
      no_if (sees_byte 123) _ _ (λ q. refl)
      (then (a_word_lem (bytes n) _ e)
      (λ w h. then {d = d} (needs UnknownKeyword (under (opening_fields st) w.1) p (rw h f))
      (λ r g. rw g (then x (λ y i. then (eats_none 44 _ (λ q. refl)) (λ c k. gives (rw k i)))))))

  opens : (p : Option StaggerPatternSpec) (d : Option ℕ) (us : List Piece)
      → Loops form s opening_step (none, none) (opening p d (mark "{" ∷ us)) (mark "{" ∷ us) (λ x. x ≡ (p, d))
  unfolding opening opening_step opening_fields under same is_keyword find laid ahead
  opens none none us = ends_at (yes_if (sees_byte 123) _ _ (λ q. refl) (gives refl))
  opens none (some d) us =
      ends_at (opening-last _ _ "delay" _ refl refl (and (the-mark 58 _ refl) (then (reads_float d _) (λ x h. gives (rw h)))))
  opens (some p) none us =
      ends_at (opening-last _ _ "pattern" _ refl refl (and (the-mark 58 _ refl) (then (reads-pattern p _) (λ x h. gives (rw h)))))
  opens (some p) (some d) us =
      again
      (opening_comma _ (some p, none) "pattern" _ refl refl (and (the-mark 58 _ refl) (then (reads-pattern p _) (λ x h. gives (rw h)))))
      (λ st h. rw h
      (ends_at (opening-last (some p, none) (some p, some d) "delay" _ refl refl
      (and (the-mark 58 _ refl) (then (reads_float d _) (λ x h. gives (rw h)))))))

  pub reads_stagger : (p : Option StaggerPatternSpec) (d : Option ℕ) (us : List Piece)
      → Reads form s 0 parse_stagger (opening p d (mark "{" ∷ us)) (mark "{" ∷ us) (λ b. b ≡ stagger p d)
  unfolding parse_stagger
  reads_stagger p d us = then (loops (go p d)) (λ x h. gives (rw h))
    where
      go : (p : Option StaggerPatternSpec) (d : Option ℕ)
          → Loops form s opening_step (none, none) (opening p d (mark "{" ∷ us)) (mark "{" ∷ us) (λ x. x ≡ (p, d))
      go p d = opens p d us
