-- What stands at a place of some bytes, and the kinds of records. Contracts cite these.
use Rattle.std.specs.Prelude.{ℕ, ◌≤◌, ◌<◌, List, ◌⊎◌, ◌≡◌, length, drop}
use Rattle.std.proofs.Math.Option.{some}
use Rattle.codec.specs.Codec.{Form}

-- a stands at a place of some bytes, in the form c
pub record Stands {A : Type 0} (c : Form A) (s : List ℕ) (at : ℕ) (a : A) : Type 0 where
  pub within : at ≤ length s
  pub rest : List ℕ
  pub reads : c.read (drop at s) ≡ some (a, rest)

-- 01: "Containers are sequence, parallel, group and stagger"
abbrev pub ContainerKind : ℕ → Type 0
ContainerKind k = (3 ≤ k) × (k < 7)

abbrev pub LeafKind : ℕ → Type 0
LeafKind k = ((k < 3) ⊎ (7 ≤ k)) × (k < 15)
