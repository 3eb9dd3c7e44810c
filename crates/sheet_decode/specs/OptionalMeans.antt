-- What reading a value that may be absent gives.
use Rattle.std.specs.Prelude.{ℕ, List, ◌≡◌, Some, None, Option as Optional}
use Rattle.codec.specs.Codec.{below}
use Rattle.sheet_decode.specs.Means.{Number}
use Rattle.sheet_decode.specs.declared.fields.Taken.{Taken}

-- a byte 0; or 1, and what `take` gives at the place behind it
pub data ReadsOption {X : Type 0} (take : ℕ → Taken X → Type 0) (s : List ℕ) (at : ℕ) (v : Optional X) (next : ℕ) : Type 0 where
  missing : {b : ℕ} → Number (below 2) 2 s at b next → b ≡ 0 → v ≡ None → ReadsOption take s at v next
  there : {b m : ℕ} {x : Taken X} → Number (below 2) 2 s at b m → (b ≡ 0 → ⊥) → take m x → v ≡ Some x.v → next ≡ x.next
      → ReadsOption take s at v next
