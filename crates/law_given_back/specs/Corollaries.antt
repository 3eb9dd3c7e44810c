-- 02 (f) and (h): what follows for a text and the sheet that reading gave for it.
use Rattle.std.specs.Prelude.{ℕ, List, ◌≢◌, ◌≡◌, length, take}
use Rattle.std.proofs.Math.Option.{some}
use Rattle.number.specs.Time.{Key}
use Rattle.ast.specs.Tree.{Nodes}
use Rattle.sheet.specs.Sheet.{Forest, decode}
use Rattle.reading.specs.Reading.{tree, parse, reading}
use Rattle.checking.specs.Checking.{checking}
use Rattle.error.specs.declared.Refusal.TheVariants.{NoiseHeld, Unwritable}
use Rattle.error.specs.declared.ReadAnswer.TheVariants as read
use Rattle.error.specs.declared.CheckAnswer.TheVariants as check
use Rattle.error.specs.declared.LineAnswer.TheVariants.{Accepted, Refused}
use Rattle.law_rules.specs.Bare.{NoExponent}
use Rattle.law_converted.specs.NoNoise.{NoNoise}
use Rattle.writing.specs.Back.{writing}

-- (f): a text without exponents, with the sheet that reading gave for it, is never 34, whatever the list and the buffers
abbrev pub NeverUnwritable : Type 0
NeverUnwritable =
    (list : ℕ) (t scratch room : List ℕ) (n c k : ℕ) → (reading t scratch room).0 ≡ read.Accepted n c k → NoExponent t
    → (out : List ℕ) (p : ℕ) → (writing list t (take n (reading t scratch room).2) out).0 ≢ Refused Unwritable p

-- (f): a fresh script and the sheet that reading gives for it are accepted again, under the list that the pair was written under
abbrev pub AcceptedAgain : Type 0
AcceptedAgain =
    (list : ℕ) (t s out : List ℕ) (n : ℕ) (after : List ℕ) → writing list t s out ≡ (Accepted n, after)
    → (scratch room : List ℕ) (m c k : ℕ) → (reading (take n after) scratch room).0 ≡ read.Accepted m c k
    → checking list (take n after) (take m (reading (take n after) scratch room).2) ≡ check.Accepted

-- (h), "Reading refuses `noise` as a waveform kind": the grammar's tree of a text holds none
abbrev pub ParsesNoNoise : Type 0
ParsesNoNoise = (t : List ℕ) (ns : Nodes Key) (k : ℕ) → parse t ≡ tree ns k → NoNoise ns

-- so the sheet that reading gives holds none, and checking it never gives 28, whatever the list
pub record Quiet (t s : List ℕ) : Type 0 where
  pub held : Forest
  pub decodes : decode (length t) s ≡ some held
  pub none : NoNoise held
  pub never : (list p : ℕ) → checking list t s ≢ check.Refused NoiseHeld p

abbrev pub ReadsNoNoise : Type 0
ReadsNoNoise =
    (t scratch room : List ℕ) (n c k : ℕ) → (reading t scratch room).0 ≡ read.Accepted n c k → Quiet t (take n (reading t scratch room).2)
