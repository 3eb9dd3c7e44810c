-- The number of a refusal is that of a word that counts scripts.
use Prim.Native.Nat.{ℕ, ◌≤◌}
use native.Mathlib.Omega.{arith}
use Rattle.error.specs.Refusal.{number_of}
use Rattle.error.specs.declared.Refusal.{Refusal}
use Rattle.error.specs.declared.Refusal.TheVariants as cause

-- "word r, from 1 to 43"
pub record Numbered (n : ℕ) : Type 0 where
  pub some : 1 ≤ n
  pub most : n ≤ 43

pub numbered : (r : Refusal) → Numbered (number_of r)
numbered cause.TextTooLong = record { some = omega arith; most = omega arith }
numbered cause.BadForm = record { some = omega arith; most = omega arith }
numbered cause.TooManyDigits = record { some = omega arith; most = omega arith }
numbered cause.Unbalanced = record { some = omega arith; most = omega arith }
numbered cause.TooManyOpen = record { some = omega arith; most = omega arith }
numbered cause.Missing = record { some = omega arith; most = omega arith }
numbered cause.UnknownKeyword = record { some = omega arith; most = omega arith }
numbered cause.Malformed = record { some = omega arith; most = omega arith }
numbered cause.UnknownSpringPreset = record { some = omega arith; most = omega arith }
numbered cause.MissingDuration = record { some = omega arith; most = omega arith }
numbered cause.StaggerGridIncomplete = record { some = omega arith; most = omega arith }
numbered cause.TooManyNested = record { some = omega arith; most = omega arith }
numbered cause.Leftover = record { some = omega arith; most = omega arith }
numbered cause.SheetTooShort = record { some = omega arith; most = omega arith }
numbered cause.NoiseWritten = record { some = omega arith; most = omega arith }
numbered cause.ScratchTooShort = record { some = omega arith; most = omega arith }
numbered cause.NotASheet = record { some = omega arith; most = omega arith }
numbered cause.OutOfRange = record { some = omega arith; most = omega arith }
numbered cause.ValueTypeMismatch = record { some = omega arith; most = omega arith }
numbered cause.UnknownEasing = record { some = omega arith; most = omega arith }
numbered cause.UnknownPreset = record { some = omega arith; most = omega arith }
numbered cause.InvalidColor = record { some = omega arith; most = omega arith }
numbered cause.DuplicateTime = record { some = omega arith; most = omega arith }
numbered cause.TooFewFrames = record { some = omega arith; most = omega arith }
numbered cause.NoiseHeld = record { some = omega arith; most = omega arith }
numbered cause.NoSuchRecord = record { some = omega arith; most = omega arith }
numbered cause.OutputTooShort = record { some = omega arith; most = omega arith }
numbered cause.TooManyScripts = record { some = omega arith; most = omega arith }
numbered cause.Unwritable = record { some = omega arith; most = omega arith }
numbered cause.ScriptTooLong = record { some = omega arith; most = omega arith }
numbered cause.UnknownList = record { some = omega arith; most = omega arith }
numbered cause.NameTwice = record { some = omega arith; most = omega arith }
numbered cause.TooManyItems = record { some = omega arith; most = omega arith }
numbered cause.RingOfCalls = record { some = omega arith; most = omega arith }
numbered cause.NotPlaned = record { some = omega arith; most = omega arith }
numbered cause.NotDrawn = record { some = omega arith; most = omega arith }
numbered cause.PhaseTooLarge = record { some = omega arith; most = omega arith }
numbered cause.NoSuchItem = record { some = omega arith; most = omega arith }
