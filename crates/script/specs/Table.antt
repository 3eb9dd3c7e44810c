-- 01, "Shelf tests": the entries P1 to P14, rows of 02's own, and the lemma that covers them.
use Rattle.std.specs.Prelude.{ℕ, ◌+◌, ◌*◌, ◌-◌, Bool, true, ◌&&◌, cond, List, [], ◌∷◌, T, ltb, take, replicate}
use Prim.Native.String.{String}
use Rattle.text.specs.Bytes.{bytes, same}
use Rattle.reading.specs.Reading.{reading, scratch_words}
use Rattle.checking.specs.Checking.{checking}
use Rattle.script.specs.Output.{sheet_bytes, output}
use Rattle.error.specs.Answer.{read_values, check_values}
use Rattle.error.specs.declared.ReadAnswer.{ReadAnswer}
use Rattle.error.specs.declared.ReadAnswer.TheVariants.{Accepted, Refused}

-- for a script: what the program prints; the sheet that reading gives; its counts of node records and of rounded numbers; reading's refusal
-- and its place; checking's values for reading's sheet; and checking's values for a sheet that is given
pub data Case : Type 0 where
  prints : String → String → Case
  gives : String → String → Case
  counts : String → ℕ → ℕ → Case
  refuses : String → ℕ → ℕ → Case
  checks : String → List ℕ → Case
  checks_sheet : String → String → List ℕ → Case

-- two hexadecimal digits to a byte
abbrev pub digit_of : ℕ → ℕ
digit_of b = cond (ltb b 58) (b - 48) (b - 55)

abbrev pub hex_bytes : List ℕ → List ℕ
hex_bytes [] = []
hex_bytes (a ∷ []) = []
hex_bytes (a ∷ b ∷ bs) = (digit_of a * 16 + digit_of b) ∷ hex_bytes bs

-- the sheet that reading gives, behind a 0; or the values of its refusal
abbrev pub sheet_values : ReadAnswer × List ℕ × List ℕ → List ℕ
sheet_values (Accepted n c k, scratch, sheet) = 0 ∷ take n sheet
sheet_values (Refused r p, scratch, sheet) = read_values (Refused r p)

-- the two counts that reading gives; of a refusal none
abbrev pub count_values : ReadAnswer → List ℕ
count_values (Accepted n c k) = c ∷ k ∷ []
count_values (Refused r p) = []

-- reading with the program's buffers
abbrev pub read_of : String → ReadAnswer × List ℕ × List ℕ
read_of s = reading (bytes s) (replicate scratch_words 0) (replicate sheet_bytes 0)

abbrev pub read : String → List ℕ
read s = sheet_values (read_of s)

-- checking what reading gave, under the first list; of a refusal nothing
abbrev pub check_read : List ℕ → List ℕ → List ℕ
check_read t [] = []
check_read t (r ∷ bs) = cond (ltb r 1) (check_values (checking 1 t bs)) []

-- whether the definitions give what a case says
unfoldable pub holds : Case → Bool
holds (prints s o) = same (output (bytes s)) (bytes o)
holds (gives s h) = same (read s) (0 ∷ hex_bytes (bytes h))
holds (counts s c k) = same (count_values (read_of s).0) (c ∷ k ∷ [])
holds (refuses s r p) = same (read s) (r ∷ p ∷ 0 ∷ [])
holds (checks s v) = same (check_read (bytes s) (read s)) v
holds (checks_sheet s h v) = same (check_values (checking 1 (bytes s) (hex_bytes (bytes h)))) v

unfoldable pub every : List Case → Bool
every [] = true
every (c ∷ cs) = holds c && every cs

unfoldable pub table : List Case
table =
    -- P1 to P4
    gives "" "0000"
    ∷ prints "at 0.5;" "00020001FD\n00080E00003F00000000AB\naccept 1\n"
    ∷ gives "at -0" "00010E00008000000001"
    ∷ gives "at --1" "00010E00003F80000001"
    -- P5 to P8
    ∷ checks "tween p: 0 => 1 duration: 0.5s easing: linear" (0 ∷ [])
    ∷ gives "tween p: 0 => 1 duration: 1 reverse: true reverse: false" "0001000000000600010000000000003F8000003F80000000000000000001"
    ∷ refuses "tween p: 0 => 1 duration: 1 easing: steps(3, 4)" 13 43
    ∷ refuses "keyframes p {50s%: 0}" 8 17
    ∷ refuses "keyframes p {2.5%: 0}" 6 16
    -- P9 to P12
    ∷ checks "keyframes p {50%: 0, 0.5s: 1}" (26 ∷ 1 ∷ [])
    ∷ checks "keyframes p {0: 0, 0.000000119: 1}" (26 ∷ 1 ∷ [])
    ∷ checks "keyframes p {0: 0, 0.00000012: 1}" (0 ∷ [])
    ∷ checks "tween p: 0 => 1 duration: -0" (0 ∷ [])
    ∷ checks "tween p: 0 => 1 duration: -1" (21 ∷ 1 ∷ [])
    ∷ checks "keyframes p {16777216: 0, 16777217: 1}" (26 ∷ 1 ∷ [])
    -- P13, P14
    ∷ checks_sheet "p" "0001020000000000010002017F800000000000000000017F80000000000000000000" (0 ∷ [])
    ∷ gives "at 0.1" "00010E00003DCCCCCD00"
    -- 02 (a): a start other than 0
    ∷ gives "at 1; at 2" "00020E00003F800000000E00064000000000"
    -- 02 (d): a written number that another f32 stands for counts, also where a later field overrides it; a whole percent by its hundredth;
    -- a whole number never
    ∷ counts "at 1; at 2" 2 0
    ∷ counts "at 0.1" 1 1
    ∷ counts "tween p: 0 => 1 duration: 0.1 duration: 1" 1 1
    ∷ counts "keyframes p {1677721500%: 0}" 1 0
    ∷ counts "keyframes p {1677721400%: 0}" 1 1
    ∷ counts "tween p: 0 => 1 duration: 1 round: 16777217" 1 0
    -- 02 (n)
    ∷ gives "at 1.25e2s" "00010E000042FA000000"
    ∷ counts "at 1e2; at 1e-1" 2 1
    ∷ refuses "at 1e005" 2 3
    ∷ []

pub lemma : T (every table)
unfolding Rattle.text.specs.Bytes.same Rattle.text.specs.Bytes.one_of Rattle.text.specs.Bytes.lowered Rattle.text.specs.Bytes.run
    Rattle.text.specs.Bytes.decimal Rattle.text.specs.Words.find Rattle.text.specs.Words.under Rattle.text.specs.Words.entries
    Rattle.text.specs.Words.shorter Rattle.number.specs.Number.nearest Rattle.number.specs.Number.percent Rattle.number.specs.Number.whole
    Rattle.number.specs.Number.bits Rattle.number.specs.Number.f32 Rattle.number.specs.Rounded.rounded
    Rattle.number.specs.Rounded.number_rounded Rattle.number.specs.Rounded.time_rounded Rattle.number.specs.Time.stored_time
    Rattle.number.specs.Time.near Rattle.number.specs.Time.any_near Rattle.number.specs.Time.duplicates Rattle.token.specs.Means.held
    Rattle.token.specs.Means.splitting Rattle.token.specs.Names.is_keyword Rattle.token.specs.Split.closed Rattle.token.specs.Split.nest_mark
    Rattle.token.specs.Split.step Rattle.token.specs.Split.split_from Rattle.token.specs.Split.split Rattle.token.specs.Token.name_at
    Rattle.token.specs.Token.point_at Rattle.token.specs.Token.past_fraction Rattle.token.specs.Token.suffix_at
    Rattle.token.specs.Token.past_suffix Rattle.token.specs.Token.clings Rattle.token.specs.Token.places_of Rattle.token.specs.Token.written_by
    Rattle.token.specs.Token.written_at Rattle.token.specs.Token.power_from Rattle.token.specs.Token.power_digits
    Rattle.token.specs.Token.power_size Rattle.token.specs.Token.power_by Rattle.token.specs.Token.power_at Rattle.token.specs.Token.past_power
    Rattle.token.specs.Token.number_by Rattle.token.specs.Token.number_at Rattle.token.specs.Token.quoted_at Rattle.token.specs.Token.lexeme
    Rattle.token.specs.Token.cut Rattle.token.specs.Token.tokens_from Rattle.sheet.specs.Opening.foreign_from
    Rattle.sheet.specs.Opening.opening Rattle.sheet.specs.Records.all_records Rattle.sheet.specs.Sheet.encode Rattle.sheet.specs.Sheet.decode
    Rattle.easing.specs.Names.snake_rest Rattle.easing.specs.Names.snake Rattle.easing.specs.Names.is_easing
    Rattle.presets.specs.Colors.is_hex_color Rattle.presets.specs.Colors.is_color_of Rattle.presets.specs.Presets.is_preset
    Rattle.grammar.specs.Fields.row_of Rattle.grammar.specs.Fields.field_head Rattle.grammar.specs.Fields.field_value
    Rattle.grammar.specs.Fields.entry Rattle.grammar.specs.Fields.pair_name Rattle.grammar.specs.Fields.one_pair
    Rattle.grammar.specs.Fields.pairs Rattle.grammar.specs.Fields.item_of Rattle.grammar.specs.Fields.field_name
    Rattle.grammar.specs.Fields.one_field Rattle.grammar.specs.Fields.fields_step Rattle.grammar.specs.Fields.parse_field_list
    Rattle.grammar.specs.Fields.last Rattle.grammar.specs.Fields.ever Rattle.grammar.specs.Grammar.tween_fields
    Rattle.grammar.specs.Grammar.parse_tween Rattle.grammar.specs.Grammar.parse_spring_preset Rattle.grammar.specs.Grammar.spring_preset
    Rattle.grammar.specs.Grammar.integrator Rattle.grammar.specs.Grammar.critical_damping Rattle.grammar.specs.Grammar.over_damping
    Rattle.grammar.specs.Grammar.under_damping Rattle.grammar.specs.Grammar.spring_fields Rattle.grammar.specs.Grammar.parse_spring
    Rattle.grammar.specs.Grammar.stored Rattle.grammar.specs.Grammar.keyed Rattle.grammar.specs.Grammar.parse_keyframe_time
    Rattle.grammar.specs.Grammar.keyframe_entry Rattle.grammar.specs.Grammar.track_loop Rattle.grammar.specs.Grammar.track_frame
    Rattle.grammar.specs.Grammar.track_step Rattle.grammar.specs.Grammar.parse_keyframes Rattle.grammar.specs.Grammar.parse_sequence
    Rattle.grammar.specs.Grammar.parse_parallel Rattle.grammar.specs.Grammar.parse_group Rattle.grammar.specs.Grammar.parse_grid_origin
    Rattle.grammar.specs.Grammar.origin Rattle.grammar.specs.Grammar.grid_fields Rattle.grammar.specs.Grammar.grid_pattern
    Rattle.grammar.specs.Grammar.random_fields Rattle.grammar.specs.Grammar.random_pattern Rattle.grammar.specs.Grammar.patterns
    Rattle.grammar.specs.Grammar.parse_stagger_pattern Rattle.grammar.specs.Grammar.opening_fields Rattle.grammar.specs.Grammar.opening_field
    Rattle.grammar.specs.Grammar.opening_step Rattle.grammar.specs.Grammar.parse_stagger Rattle.grammar.specs.Grammar.offset
    Rattle.grammar.specs.Grammar.path_fields Rattle.grammar.specs.Grammar.parse_path Rattle.grammar.specs.Grammar.morph_fields
    Rattle.grammar.specs.Grammar.parse_morph Rattle.grammar.specs.Grammar.draw_fields Rattle.grammar.specs.Grammar.parse_draw
    Rattle.grammar.specs.Grammar.space Rattle.grammar.specs.Grammar.color_fields Rattle.grammar.specs.Grammar.parse_color
    Rattle.grammar.specs.Grammar.unless_noise Rattle.grammar.specs.Grammar.waveform_kind Rattle.grammar.specs.Grammar.waveform_fields
    Rattle.grammar.specs.Grammar.parse_waveform Rattle.grammar.specs.Grammar.parse_preset_call Rattle.grammar.specs.Grammar.parse_label
    Rattle.grammar.specs.Grammar.at_sign Rattle.grammar.specs.Grammar.parse_at Rattle.grammar.specs.Grammar.leaves
    Rattle.grammar.specs.Grammar.containers Rattle.grammar.specs.Grammar.beginning Rattle.grammar.specs.Grammar.parse_node
    Rattle.grammar.specs.Grammar.one_node Rattle.grammar.specs.Grammar.nodes_step Rattle.grammar.specs.Grammar.block
    Rattle.grammar.specs.Grammar.animato_input Rattle.grammar.specs.Rule.weigh Rattle.grammar.specs.Rule.behind
    Rattle.grammar.specs.Rule.iterate Rattle.grammar.specs.Values.ident Rattle.grammar.specs.Values.string Rattle.grammar.specs.Values.truth
    Rattle.grammar.specs.Values.parse_float Rattle.grammar.specs.Values.parse_uint Rattle.grammar.specs.Values.parse_float_in_parens
    Rattle.grammar.specs.Values.comma_float Rattle.grammar.specs.Values.two_floats Rattle.grammar.specs.Values.parse_two_floats_in_parens
    Rattle.grammar.specs.Values.parse_uint_in_parens Rattle.grammar.specs.Values.array_item Rattle.grammar.specs.Values.array_items
    Rattle.grammar.specs.Values.parse_value Rattle.grammar.specs.Values.number Rattle.grammar.specs.Values.count
    Rattle.grammar.specs.Values.flag Rattle.grammar.specs.Values.value Rattle.grammar.specs.Values.f32_of
    Rattle.grammar.specs.Values.comma_floats Rattle.grammar.specs.Values.four_floats Rattle.grammar.specs.Values.bezier_curve
    Rattle.grammar.specs.Values.rough_fields Rattle.grammar.specs.Values.rough_curve Rattle.grammar.specs.Values.slow_mo_fields
    Rattle.grammar.specs.Values.slow_mo_curve Rattle.grammar.specs.Values.steps_curve Rattle.grammar.specs.Values.wiggle_curve
    Rattle.grammar.specs.Values.curves Rattle.grammar.specs.Values.variant_easing Rattle.grammar.specs.Values.named_easing
    Rattle.grammar.specs.Values.curve_or Rattle.grammar.specs.Values.parse_easing Rattle.grammar.specs.Values.times_mode
    Rattle.grammar.specs.Values.ping_pong_mode Rattle.grammar.specs.Values.loop_modes Rattle.grammar.specs.Values.parse_loop_mode
    Rattle.grammar.specs.Values.easing Rattle.grammar.specs.Values.loop_mode Rattle.reading.specs.Reading.parse
    Rattle.reading.specs.Reading.early Rattle.reading.specs.Reading.reading Rattle.colors.specs.Css.names_of
    Rattle.checking.specs.Checking.judged Rattle.checking.specs.Checking.is_list Rattle.checking.specs.Checking.opening_under
    Rattle.checking.specs.Checking.checking Rattle.checking.specs.Rules.negative Rattle.checking.specs.Rules.not_positive
    Rattle.checking.specs.Rules.outside_unit Rattle.checking.specs.Rules.unknown_easing Rattle.checking.specs.Rules.first
    Rattle.checking.specs.Rules.validate_tween Rattle.checking.specs.Rules.validate_spring Rattle.checking.specs.Rules.validate_frames
    Rattle.checking.specs.Rules.validate_keyframes Rattle.checking.specs.Rules.validate_path Rattle.checking.specs.Rules.validate_morph
    Rattle.checking.specs.Rules.validate_draw Rattle.checking.specs.Rules.validate_color Rattle.checking.specs.Rules.validate_waveform
    Rattle.checking.specs.Rules.validate_preset_call Rattle.checking.specs.Rules.validate_leaf Rattle.checking.specs.Rules.empty_grid
    Rattle.checking.specs.Rules.validate_container Rattle.checking.specs.Rules.validate_nodes Rattle.lining.specs.Line.hex
    Rattle.lining.specs.Line.total Rattle.lining.specs.Line.check_byte Rattle.lining.specs.Line.line Rattle.lining.specs.Lining.lining
    Rattle.script.specs.Output.decimal_out Rattle.script.specs.Output.refusal Rattle.script.specs.Output.accept
    Rattle.script.specs.Output.lines Rattle.script.specs.Output.output holds every table lib.Ieee.round lib.Ieee.div
    lib.Ieee.to_bits lib.Ieee.of_bits lib.Ieee.lt lib.Ieee.le lib.Ieee.sub
lemma = tt
