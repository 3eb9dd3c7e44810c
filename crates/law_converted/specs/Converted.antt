-- 02 (h), the laws on checking a converted sheet.
use Rattle.std.specs.Prelude.{ℕ, true, List, ◌≢◌, ◌≡◌}
use Rattle.sheet.specs.Sheet.{Forest}
use Rattle.sheet.specs.Opening.{opened, opening}
use Rattle.checking.specs.Checking.{judged, is_list, checking}
use Rattle.error.specs.declared.Refusal.TheVariants.{NoiseHeld}
use Rattle.error.specs.declared.CheckAnswer.TheVariants.{Accepted, Refused}
use Rattle.converting.specs.Convert.{converting}
use Rattle.converting.specs.Triangled.{triangled}

-- "Checking a converted sheet answers, under either list, as the checking rules do for the tree with triangle": ns is the tree of the sheet
-- s that was lent, for a text that 1 and 2 do not refuse
abbrev pub AsWithTriangle : Type 0
AsWithTriangle =
    (list : ℕ) (t s : List ℕ) (ns : Forest) → is_list list ≡ true → opening t s ≡ opened ns
    → checking list t (converting t s).1 ≡ judged list t (triangled ns)

-- what a converted sheet holds is no longer retired: checking it never gives 28, for every text, list and sheet that is converted
abbrev pub NeverRetired : Type 0
NeverRetired =
    (list : ℕ) (t s : List ℕ) (p : ℕ) → (converting t s).0 ≡ Accepted → checking list t (converting t s).1 ≢ Refused NoiseHeld p
