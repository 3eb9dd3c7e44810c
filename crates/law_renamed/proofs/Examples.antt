-- Scripts that agree but for what 02 (m) frees, and scripts that do not, computed.
use Prim.Native.Nat.{ℕ}
use Prim.Native.String.{String}
use mathlib.Core.Bool.{Bool, true, false, ◌&&◌, not}
use mathlib.Core.List.{List, [], ◌∷◌}
use mathlib.Core.Path.{◌≡◌, refl, sym, ap, ◌∙◌}
use lib.Dec.{T, eqb}
use borrow.Author.Tests.{eqb-true, eq-eqb}
use Rattle.text.specs.Bytes.{bytes, same, one_of}
use Rattle.text.proofs.WordLaws.{same_eq, same_refl}
use Rattle.number.specs.Number.{Written}
use Rattle.token.specs.Token.{Kind, name, number, quoted, mark, Token, tokens_from}
use Rattle.token.proofs.WholeLaws.{both}
use Rattle.reading.specs.Reading.{parse}
use Rattle.law_renamed.specs.Words.{Word, a_name, a_string, kept, free_in, free_of, place_of, shown, Agree}
use Rattle.law_renamed.specs.Renaming.{free_by, Renamed}
use Rattle.law_renamed.proofs.StreamLaws.{never}

-- ---- a test of two words

abbrev pub same_bool : Bool → Bool → Bool
same_bool true b = b
same_bool false b = not b

abbrev pub same_written : Written → Written → Bool
same_written v w =
    eqb v.digits w.digits
    && (eqb v.places w.places
    && (same_bool v.point w.point && (same_bool v.exponent w.exponent && same_bool v.suffix w.suffix)))

abbrev pub same_kind : Kind → Kind → Bool
same_kind (name v) (name w) = same v w
same_kind (name v) (number w) = false
same_kind (name v) (quoted m) = false
same_kind (name v) (mark c) = false
same_kind (number v) (name w) = false
same_kind (number v) (number w) = same_written v w
same_kind (number v) (quoted m) = false
same_kind (number v) (mark c) = false
same_kind (quoted n) (name w) = false
same_kind (quoted n) (number w) = false
same_kind (quoted n) (quoted m) = eqb n m
same_kind (quoted n) (mark c) = false
same_kind (mark b) (name w) = false
same_kind (mark b) (number w) = false
same_kind (mark b) (quoted m) = false
same_kind (mark b) (mark c) = eqb b c

abbrev pub same_word : Word → Word → Bool
same_word a_name a_name = true
same_word a_name a_string = false
same_word a_name (kept k c b) = false
same_word a_string a_name = false
same_word a_string a_string = true
same_word a_string (kept k c b) = false
same_word (kept k c b) a_name = false
same_word (kept k c b) a_string = false
same_word (kept k c b) (kept l d e) = same_kind k l && (same c d && same_bool b e)

bool_is : (a b : Bool) → same_bool a b ≡ true → a ≡ b
bool_is true true e = refl
bool_is true false e = never e
bool_is false true e = never e
bool_is false false e = refl

written_is : (v w : Written) → same_written v w ≡ true → v ≡ w
written_is v w e =
    let a = both (eqb v.digits w.digits) _ e in
    let b = both (eqb v.places w.places) _ a.1 in
    let c = both (same_bool v.point w.point) _ b.1 in
    let d = both (same_bool v.exponent w.exponent) _ c.1 in
    by (eqb-true v.digits w.digits a.0) (eqb-true v.places w.places b.0) (bool_is v.point w.point c.0)
    (bool_is v.exponent w.exponent d.0) (bool_is v.suffix w.suffix d.1)
  where
    by : v.digits ≡ w.digits → v.places ≡ w.places → v.point ≡ w.point → v.exponent ≡ w.exponent → v.suffix ≡ w.suffix
        → ◌≡◌ {A = Written}
        (record { digits = v.digits; places = v.places; point = v.point; exponent = v.exponent; suffix = v.suffix })
        (record { digits = w.digits; places = w.places; point = w.point; exponent = w.exponent; suffix = w.suffix })
    by a b c d e = rw (a, b, c, d, e)

kind_is : (k l : Kind) → same_kind k l ≡ true → k ≡ l
kind_is (name v) (name w) e = ap name (same_eq v w e)
kind_is (name v) (number w) e = never e
kind_is (name v) (quoted m) e = never e
kind_is (name v) (mark c) e = never e
kind_is (number v) (name w) e = never e
kind_is (number v) (number w) e = ap number (written_is v w e)
kind_is (number v) (quoted m) e = never e
kind_is (number v) (mark c) e = never e
kind_is (quoted n) (name w) e = never e
kind_is (quoted n) (number w) e = never e
kind_is (quoted n) (quoted m) e = ap quoted (eqb-true n m e)
kind_is (quoted n) (mark c) e = never e
kind_is (mark b) (name w) e = never e
kind_is (mark b) (number w) e = never e
kind_is (mark b) (quoted m) e = never e
kind_is (mark b) (mark c) e = ap mark (eqb-true b c e)

word_is : (v w : Word) → same_word v w ≡ true → v ≡ w
word_is a_name a_name e = refl
word_is a_name a_string e = never e
word_is a_name (kept k c b) e = never e
word_is a_string a_name e = never e
word_is a_string a_string e = refl
word_is a_string (kept k c b) e = never e
word_is (kept k c b) a_name e = never e
word_is (kept k c b) a_string e = never e
word_is (kept k c b) (kept l d f) e =
    let x = both (same_kind k l) _ e in
    let y = both (same c d) _ x.1 in
    rw (kind_is k l x.0, same_eq c d y.0, bool_is b f y.1)

bool_self : (a : Bool) → same_bool a a ≡ true
bool_self true = refl
bool_self false = refl

kind_self : (k : Kind) → same_kind k k ≡ true
kind_self (name w) = same_refl w
kind_self (number w) =
    rw (
      eq-eqb w.digits w.digits refl,
      eq-eqb w.places w.places refl,
      bool_self w.point,
      bool_self w.exponent,
      bool_self w.suffix,
    )
kind_self (quoted n) = eq-eqb n n refl
kind_self (mark b) = eq-eqb b b refl

word_self : (w : Word) → same_word w w ≡ true
word_self a_name = refl
word_self a_string = refl
word_self (kept k c b) = rw (kind_self k, same_refl c, bool_self b)

-- ---- a test of `Renamed`

unfoldable pub agree : List ℕ → List ℕ → List ℕ → List Token → List Token → Bool
agree t u free [] [] = true
agree t u free [] (b ∷ us) = false
agree t u free (a ∷ ts) [] = false
agree t u free (a ∷ ts) (b ∷ us) =
    same_word (shown (one_of free (place_of a)) t a ts) (shown (one_of free (place_of a)) u b us) && agree t u free ts us

agree_is : (t u free : List ℕ) (ts us : List Token) → agree t u free ts us ≡ true → Agree t u free ts us
unfolding agree Agree
agree_is t u free [] [] e = tt
agree_is t u free [] (b ∷ us) e = never e
agree_is t u free (a ∷ ts) [] e = never e
agree_is t u free (a ∷ ts) (b ∷ us) e =
    let x = both (same_word (shown (one_of free (place_of a)) t a ts) (shown (one_of free (place_of a)) u b us)) _ e in
    (word_is _ _ x.0, agree_is t u free ts us x.1)

is_agree : (t u free : List ℕ) (ts us : List Token) → Agree t u free ts us → agree t u free ts us ≡ true
unfolding agree Agree
is_agree t u free [] [] h = refl
is_agree t u free [] (b ∷ us) h = absurd h
is_agree t u free (a ∷ ts) [] h = absurd h
is_agree t u free (a ∷ ts) (b ∷ us) h =
    let w = shown (one_of free (place_of a)) u b us in
    rw (h.0, word_self w, is_agree t u free ts us h.1)

abbrev pub renamed : String → String → Bool
renamed s r = agree (bytes s) (bytes r) (free_by (parse (bytes s))) (tokens_from (bytes s) 0) (tokens_from (bytes r) 0)

pub data Case : Type 0 where
  yes : String → String → Case
  no : String → String → Case

abbrev pub holds : Case → Bool
holds (yes s r) = renamed s r
holds (no s r) = not (renamed s r)

-- what a case says
abbrev pub Says : Case → Type 0
Says (yes s r) = Renamed (bytes s) (bytes r)
Says (no s r) = Renamed (bytes s) (bytes r) → ⊥

unfoldable pub every : List Case → Bool
every [] = true
every (c ∷ cs) = holds c && every cs

unfoldable pub table : List Case
table =
    -- a target's name; blanks may differ
    yes "tween a: 0 => 1 duration: 1 easing: linear"
    "tween box_2 :0=>1  duration:1 easing : linear"
    -- strings of path, label and morph
    ∷ yes "path p along \"M0 0\" duration: 1; label \"x\"; morph \"a\" => \"b\" duration: 1"
    "path q along \"L1\" duration: 1; label \"\"; morph \"cc\" => \"a b\" duration: 1"
    -- targets of spring, color and keyframes, and a string of draw, in a container
    ∷ yes "sequence { spring a: 0 => 1; color c: \"red\" => \"blue\" duration: 1; keyframes k {0: 0, 1: 1} draw \"d\" duration: 1 }"
    "sequence { spring tween: 0 => 1; color d: \"red\" => \"blue\" duration: 1; keyframes a {0: 0, 1: 1} draw \"dd\" duration: 1 }"
    -- and back
    ∷ yes "tween box_2 :0=>1  duration:1 easing : linear"
    "tween a: 0 => 1 duration: 1 easing: linear"
    ∷ yes "path q along \"L1\" duration: 1; label \"\"; morph \"cc\" => \"a b\" duration: 1"
    "path p along \"M0 0\" duration: 1; label \"x\"; morph \"a\" => \"b\" duration: 1"
    ∷ yes "sequence { spring tween: 0 => 1; color d: \"red\" => \"blue\" duration: 1; keyframes a {0: 0, 1: 1} draw \"dd\" duration: 1 }"
    "sequence { spring a: 0 => 1; color c: \"red\" => \"blue\" duration: 1; keyframes k {0: 0, 1: 1} draw \"d\" duration: 1 }"
    -- numbers with an exponent and of many digits stay
    ∷ yes "tween a: 1e3 => 12345678901.5 duration: 2.5E-1s easing: linear; label \"e5\";"
    "tween e5 : 1e3=>12345678901.5 duration:2.5E-1s easing: linear; label \"\";"
    -- an exponent is multiplied out: the same number, written with other signs, zeros and letters, or with another exponent
    ∷ yes "at 1e2"
    "at 01e+02"
    ∷ yes "at 1e2"
    "at 10E1"
    -- a color's strings
    ∷ no "color c: \"red\" => \"blue\" duration: 1"
    "color c: \"red\" => \"azure\" duration: 1"
    -- an easing
    ∷ no "tween a: 0 => 1 duration: 1 easing: linear"
    "tween a: 0 => 1 duration: 1 easing: ease_in"
    -- a preset
    ∷ no "preset fade_in"
    "preset bounce"
    -- a number
    ∷ no "at 1"
    "at 1.0"
    -- a number with an exponent and one without
    ∷ no "at 1e2"
    "at 100"
    ∷ no "at 1e-1"
    "at 0.1"
    -- no blank stands in a number
    ∷ no "at 1e2"
    "at 1 e2"
    -- the last of 40 digits
    ∷ no "at 0.0123456789012345678901234567890123456789"
    "at 0.0123456789012345678901234567890123456788"
    -- a keyword is no name
    ∷ no "spring a: 0 => 1"
    "spring loop: 0 => 1"
    -- a field behind the word `path`
    ∷ no "tween a: 0 => 1 duration: 1 easing: path delay: 1"
    "tween a: 0 => 1 duration: 1 easing: path snap: 1"
    -- the order
    ∷ no "label \"a\"; at 1"
    "at 1 label \"a\";"
    -- a token more
    ∷ no "at 1"
    "at 1;"
    -- `=>`, `::` and `..` in two
    ∷ no "spring a: 0 => 1"
    "spring a: 0 = > 1"
    ∷ no "draw \"d\" duration: 1 easing: Easing::Linear"
    "draw \"d\" duration: 1 easing: Easing: :Linear"
    ∷ no "path p along \"M\" duration: 1 offset: 0 .. 1"
    "path p along \"M\" duration: 1 offset: 0 . . 1"
    -- a suffix; zeros in front, which change no number
    ∷ no "at 1"
    "at 1s"
    ∷ yes "at 1"
    "at 01"
    -- the letter case of a color, though checking ignores it
    ∷ no "color c: \"red\" => \"blue\" duration: 1"
    "color c: \"Red\" => \"blue\" duration: 1"
    -- a spring's preset, a waveform, a node's own word
    ∷ no "spring a: 0 => 1 preset: stiff"
    "spring a: 0 => 1 preset: slow"
    ∷ no "waveform sine"
    "waveform square"
    ∷ no "sequence { at 1; }"
    "parallel { at 1; }"
    -- names that are colors, easings and presets, as targets; strings that are colors
    ∷ yes "tween a: 0 => 1 duration: 1 easing: linear; draw \"red\" duration: 1; preset fade_in"
    "tween linear: 0 => 1 duration: 1 easing: linear; draw \"\" duration: 1; preset fade_in"
    -- two scripts alike but for an easing beside a target that is renamed
    ∷ no "tween a: 0 => 1 duration: 1 easing: linear"
    "tween b: 0 => 1 duration: 1 easing: ease_in_quad"
    ∷ []

-- whatever the test finds is so
pub means : (c : Case) → holds c ≡ true → Says c
unfolding Renamed
means (yes s r) e = agree_is _ _ _ _ _ e
means (no s r) e = λ h. never (ap not (sym (is_agree _ _ _ _ _ h)) ∙ e)

pub lemma : T (every table)
unfolding Rattle.text.specs.Bytes.same Rattle.text.specs.Bytes.one_of Rattle.text.specs.Bytes.lowered Rattle.text.specs.Bytes.run
    Rattle.text.specs.Bytes.decimal Rattle.text.specs.Words.find Rattle.text.specs.Words.under Rattle.text.specs.Words.entries
    Rattle.text.specs.Words.shorter Rattle.number.specs.Number.nearest Rattle.number.specs.Number.percent Rattle.number.specs.Number.whole
    Rattle.number.specs.Number.bits Rattle.number.specs.Number.f32 Rattle.number.specs.Time.stored_time Rattle.number.specs.Time.near
    Rattle.number.specs.Time.any_near Rattle.number.specs.Time.duplicates Rattle.token.specs.Names.is_keyword
    Rattle.token.specs.Split.closed Rattle.token.specs.Split.nest_mark Rattle.token.specs.Split.step Rattle.token.specs.Split.split_from
    Rattle.token.specs.Split.split Rattle.token.specs.Token.name_at Rattle.token.specs.Token.point_at Rattle.token.specs.Token.past_fraction
    Rattle.token.specs.Token.suffix_at Rattle.token.specs.Token.past_suffix Rattle.token.specs.Token.clings
    Rattle.token.specs.Token.places_of Rattle.token.specs.Token.written_by Rattle.token.specs.Token.written_at
    Rattle.token.specs.Token.power_from Rattle.token.specs.Token.power_digits Rattle.token.specs.Token.power_size
    Rattle.token.specs.Token.power_by Rattle.token.specs.Token.power_at Rattle.token.specs.Token.past_power
    Rattle.token.specs.Token.number_by Rattle.token.specs.Token.number_at Rattle.token.specs.Token.quoted_at Rattle.token.specs.Token.lexeme
    Rattle.token.specs.Token.cut Rattle.token.specs.Token.tokens_from Rattle.grammar.specs.Fields.row_of
    Rattle.grammar.specs.Fields.field_head Rattle.grammar.specs.Fields.field_value Rattle.grammar.specs.Fields.entry
    Rattle.grammar.specs.Fields.pair_name Rattle.grammar.specs.Fields.one_pair Rattle.grammar.specs.Fields.pairs
    Rattle.grammar.specs.Fields.item_of Rattle.grammar.specs.Fields.field_name Rattle.grammar.specs.Fields.one_field
    Rattle.grammar.specs.Fields.fields_step Rattle.grammar.specs.Fields.parse_field_list Rattle.grammar.specs.Fields.last
    Rattle.grammar.specs.Fields.ever Rattle.grammar.specs.Grammar.tween_fields Rattle.grammar.specs.Grammar.parse_tween
    Rattle.grammar.specs.Grammar.parse_spring_preset Rattle.grammar.specs.Grammar.spring_preset Rattle.grammar.specs.Grammar.integrator
    Rattle.grammar.specs.Grammar.critical_damping Rattle.grammar.specs.Grammar.over_damping Rattle.grammar.specs.Grammar.under_damping
    Rattle.grammar.specs.Grammar.spring_fields Rattle.grammar.specs.Grammar.parse_spring Rattle.grammar.specs.Grammar.stored
    Rattle.grammar.specs.Grammar.keyed Rattle.grammar.specs.Grammar.parse_keyframe_time Rattle.grammar.specs.Grammar.keyframe_entry
    Rattle.grammar.specs.Grammar.track_loop Rattle.grammar.specs.Grammar.track_frame Rattle.grammar.specs.Grammar.track_step
    Rattle.grammar.specs.Grammar.parse_keyframes Rattle.grammar.specs.Grammar.parse_sequence Rattle.grammar.specs.Grammar.parse_parallel
    Rattle.grammar.specs.Grammar.parse_group Rattle.grammar.specs.Grammar.parse_grid_origin Rattle.grammar.specs.Grammar.origin
    Rattle.grammar.specs.Grammar.grid_fields Rattle.grammar.specs.Grammar.grid_pattern Rattle.grammar.specs.Grammar.random_fields
    Rattle.grammar.specs.Grammar.random_pattern Rattle.grammar.specs.Grammar.patterns Rattle.grammar.specs.Grammar.parse_stagger_pattern
    Rattle.grammar.specs.Grammar.opening_fields Rattle.grammar.specs.Grammar.opening_field Rattle.grammar.specs.Grammar.opening_step
    Rattle.grammar.specs.Grammar.parse_stagger Rattle.grammar.specs.Grammar.offset Rattle.grammar.specs.Grammar.path_fields
    Rattle.grammar.specs.Grammar.parse_path Rattle.grammar.specs.Grammar.morph_fields Rattle.grammar.specs.Grammar.parse_morph
    Rattle.grammar.specs.Grammar.draw_fields Rattle.grammar.specs.Grammar.parse_draw Rattle.grammar.specs.Grammar.space
    Rattle.grammar.specs.Grammar.color_fields Rattle.grammar.specs.Grammar.parse_color Rattle.grammar.specs.Grammar.unless_noise
    Rattle.grammar.specs.Grammar.waveform_kind Rattle.grammar.specs.Grammar.waveform_fields Rattle.grammar.specs.Grammar.parse_waveform
    Rattle.grammar.specs.Grammar.parse_preset_call Rattle.grammar.specs.Grammar.parse_label Rattle.grammar.specs.Grammar.at_sign
    Rattle.grammar.specs.Grammar.parse_at Rattle.grammar.specs.Grammar.leaves Rattle.grammar.specs.Grammar.containers
    Rattle.grammar.specs.Grammar.beginning Rattle.grammar.specs.Grammar.parse_node Rattle.grammar.specs.Grammar.one_node
    Rattle.grammar.specs.Grammar.nodes_step Rattle.grammar.specs.Grammar.block Rattle.grammar.specs.Grammar.animato_input
    Rattle.grammar.specs.Rule.weigh Rattle.grammar.specs.Rule.behind Rattle.grammar.specs.Rule.iterate Rattle.grammar.specs.Values.ident
    Rattle.grammar.specs.Values.string Rattle.grammar.specs.Values.truth Rattle.grammar.specs.Values.parse_float
    Rattle.grammar.specs.Values.parse_uint Rattle.grammar.specs.Values.parse_float_in_parens Rattle.grammar.specs.Values.comma_float
    Rattle.grammar.specs.Values.two_floats Rattle.grammar.specs.Values.parse_two_floats_in_parens Rattle.grammar.specs.Values.parse_uint_in_parens
    Rattle.grammar.specs.Values.array_item Rattle.grammar.specs.Values.array_items Rattle.grammar.specs.Values.parse_value
    Rattle.grammar.specs.Values.number Rattle.grammar.specs.Values.count Rattle.grammar.specs.Values.flag
    Rattle.grammar.specs.Values.value Rattle.grammar.specs.Values.f32_of Rattle.grammar.specs.Values.comma_floats
    Rattle.grammar.specs.Values.four_floats Rattle.grammar.specs.Values.bezier_curve Rattle.grammar.specs.Values.rough_fields
    Rattle.grammar.specs.Values.rough_curve Rattle.grammar.specs.Values.slow_mo_fields Rattle.grammar.specs.Values.slow_mo_curve
    Rattle.grammar.specs.Values.steps_curve Rattle.grammar.specs.Values.wiggle_curve Rattle.grammar.specs.Values.curves
    Rattle.grammar.specs.Values.variant_easing Rattle.grammar.specs.Values.named_easing Rattle.grammar.specs.Values.curve_or
    Rattle.grammar.specs.Values.parse_easing Rattle.grammar.specs.Values.times_mode Rattle.grammar.specs.Values.ping_pong_mode
    Rattle.grammar.specs.Values.loop_modes Rattle.grammar.specs.Values.parse_loop_mode Rattle.grammar.specs.Values.easing
    Rattle.grammar.specs.Values.loop_mode lib.Ieee.round lib.Ieee.div lib.Ieee.to_bits lib.Ieee.of_bits lib.Ieee.lt lib.Ieee.le lib.Ieee.sub
    Rattle.reading.specs.Reading.parse free_in free_of agree every table
lemma = tt

-- every script agrees with itself
self : (t free : List ℕ) (ts : List Token) → Agree t t free ts ts
unfolding Agree
self t free [] = tt
self t free (a ∷ ts) = (refl, self t free ts)

pub to_itself : (t : List ℕ) → Renamed t t
unfolding Renamed
to_itself t = self t (free_by (parse t)) (tokens_from t 0)
