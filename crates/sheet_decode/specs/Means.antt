-- What reading a form at a place of some bytes gives.
use Rattle.std.specs.Prelude.{ℕ, ◌≤◌, ◌<◌, List, ◌≡◌, length, drop}
use Rattle.std.proofs.Math.Option.{none, some}
use Rattle.codec.specs.Codec.{Form, below}
use Rattle.sheet.specs.Sheet.{start_form}

-- the place behind a value that is none: past the end
abbrev pub Lost : List ℕ → ℕ → Type 0
Lost s next = length s < next

-- a value that `view` shows as v, and the place behind it; or no value, and a lost place. What is read at a lost place is none.
pub data Reads {A X : Type 0} (c : Form A) (view : A → X) (s : List ℕ) (at : ℕ) (v : X) (next : ℕ) : Type 0 where
  got : (a : A) → c.read (drop at s) ≡ some (a, drop next s) → view a ≡ v → at ≤ next → next ≤ length s → Reads c view s at v next
  bad : Lost s next → (at ≤ length s → c.read (drop at s) ≡ none) → Reads c view s at v next

-- the value itself
abbrev pub same : {A : Type 0} → A → A
same a = a

-- a value that is only passed
abbrev pub passed : {A : Type 0} → A → Unit {0}
passed a = tt

-- a number below a limit, which a number that stands for none is too
pub record Number (c : Form ℕ) (limit : ℕ) (s : List ℕ) (at v next : ℕ) : Type 0 where
  pub reads : Reads c same s at v next
  pub small : v < limit

-- a record's kind, then, from `between` on, the start of its node's keyword in a text of n bytes
pub record KindAndStart (n : ℕ) (s : List ℕ) (at kind start next : ℕ) : Type 0 where
  pub between : ℕ
  pub kind_at : Number (below 15) 15 s at kind between
  pub start_at : Reads (start_form n) same s between start next
