-- 02 (h), "Noise goes": the converter.
use Rattle.std.specs.Prelude.{ℕ, Bool, ◌&&◌, cond, List, eqb, length, get_or, set}
use Rattle.codec.specs.Codec.{each_out}
use Rattle.ast.specs.Tree.{noise}
use Rattle.sheet.specs.Sheet.{Forest}
use Rattle.sheet.specs.Records.{all_records}
use Rattle.sheet.specs.Opening.{Opened, opened, shut, opening}
use Rattle.error.specs.declared.CheckAnswer.{CheckAnswer}
use Rattle.error.specs.declared.CheckAnswer.TheVariants.{Accepted, Refused}

-- 01: "A record is the kind (position in `MotionNode` ..)": a waveform's
abbrev pub waveform_kind : ℕ
waveform_kind = 11

-- 01: "An enum: a byte, its case's position", in `WaveformKind`
abbrev pub triangle : ℕ
triangle = 3

-- where a waveform's record has that byte: behind its kind and, 02 (a), two bytes of its start
abbrev pub wave_at : ℕ
wave_at = 3

-- "Sheets in the stores still hold it": a record that does
unfoldable pub holds_noise : List ℕ → Bool
holds_noise r = eqb (get_or r 0 0) waveform_kind && eqb (get_or r wave_at 0) noise

-- "one that has triangle in its place and every other byte equal": of a record
unfoldable pub converted_record : List ℕ → List ℕ
converted_record r = cond (holds_noise r) (set r wave_at triangle) r

-- and of a sheet, which is its records one behind the other; the first is the head, of two bytes
unfoldable pub converted_sheet : ℕ → Forest → List ℕ
converted_sheet n ns = each_out converted_record (all_records n ns)

-- the answer, and the lent sheet afterwards: "the converter gives 1, 2, 20 as checking does, and otherwise converts"
abbrev pub convert_opened : ℕ → List ℕ → Opened → CheckAnswer × List ℕ
convert_opened n sheet (shut r p) = (Refused r p, sheet)
convert_opened n sheet (opened ns) = (Accepted, converted_sheet n ns)

unfoldable pub converting : List ℕ → List ℕ → CheckAnswer × List ℕ
converting t sheet = convert_opened (length t) sheet (opening t sheet)
