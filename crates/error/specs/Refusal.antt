-- 01, "Refusals": the number of each cause in the table.
use Rattle.std.specs.Prelude.{ℕ}
use Rattle.error.specs.declared.Refusal.{Refusal}
use Rattle.error.specs.declared.Refusal.TheVariants as cause

abbrev pub number_of : Refusal → ℕ
number_of cause.TextTooLong = 1
number_of cause.BadForm = 2
number_of cause.TooManyDigits = 3
number_of cause.Unbalanced = 4
number_of cause.TooManyOpen = 5
number_of cause.Missing = 6
number_of cause.UnknownKeyword = 7
number_of cause.Malformed = 8
number_of cause.UnknownSpringPreset = 9
number_of cause.MissingDuration = 10
number_of cause.StaggerGridIncomplete = 11
number_of cause.TooManyNested = 12
number_of cause.Leftover = 13
number_of cause.SheetTooShort = 14
number_of cause.NoiseWritten = 15
number_of cause.ScratchTooShort = 16
number_of cause.NotASheet = 20
number_of cause.OutOfRange = 21
number_of cause.ValueTypeMismatch = 22
number_of cause.UnknownEasing = 23
number_of cause.UnknownPreset = 24
number_of cause.InvalidColor = 25
number_of cause.DuplicateTime = 26
number_of cause.TooFewFrames = 27
number_of cause.NoiseHeld = 28
number_of cause.NoSuchRecord = 31
number_of cause.OutputTooShort = 32
number_of cause.TooManyScripts = 33
number_of cause.Unwritable = 34
number_of cause.ScriptTooLong = 35
number_of cause.UnknownList = 36
number_of cause.NameTwice = 37
number_of cause.TooManyItems = 38
number_of cause.RingOfCalls = 39
number_of cause.NotPlaned = 40
number_of cause.NotDrawn = 41
number_of cause.PhaseTooLarge = 42
number_of cause.NoSuchItem = 43
