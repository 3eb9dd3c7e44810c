-- What the answers of the code mean. Contracts cite these, and no reader needs to believe it.
use Rattle.std.specs.Prelude.{ℕ, ◌+◌, ◌*◌, ◌≤◌, Bool, true, false, ◌||◌, not, List, ◌≡◌, eqb, length}
use Rattle.std.proofs.Math.Option.{Option, none, some}
use Rattle.text.specs.Bytes.{at, one_of}
use Rattle.order.specs.Order.{Calls}

-- calls as bytes: byte 128 i + j is not 0 where item i calls item j
unfoldable pub calls_in : List ℕ → Calls
calls_in m i j = not (eqb (at m (i * 128 + j)) 0)

-- all of them, for n items
pub record Square (m : List ℕ) (n : ℕ) : Type 0 where
  pub size : length m ≡ 16384
  pub few : n ≤ 128

-- item i does not wait for item j
abbrev pub not_waiting : Calls → List ℕ → ℕ → ℕ → Bool
not_waiting calls l i j = not (calls i j) || one_of l j

abbrev pub list_of : Bool → List ℕ → Option (List ℕ)
list_of true l = some l
list_of false l = none
