-- What the parts of planing do. Contracts cite this, and no reader needs to believe it.
use Rattle.std.specs.Prelude.{ℕ, ◌+◌, ◌*◌, ◌<◌, Bool, true, false, List, ◌≡◌, eqb, length, get_or}

-- out has the byte of f at x
abbrev pub Right : List ℕ → List ℕ → ℕ → Type 0
Right f out x = get_or out x 0 ≡ get_or f x 0

-- as many bytes, and none that was f's is another now
pub record Betters (f out after : List ℕ) : Type 0 where
  pub same_length : length after ≡ length out
  pub keeps : (x : ℕ) → Right f out x → Right f after x

-- k bytes of src from a place on are f's from another place on
abbrev pub Alike : List ℕ → ℕ → List ℕ → ℕ → ℕ → Type 0
Alike src from f to k = (m : ℕ) → m < k → get_or src (from + m) 0 ≡ get_or f (to + m) 0

-- whatever f is that has these bytes there: k places are written, and no other
abbrev pub Copies : List ℕ → ℕ → List ℕ → ℕ → ℕ → List ℕ → Type 0
Copies src from out to k after =
    (f : List ℕ) → Alike src from f to k → Betters f out after × ((m : ℕ) → m < k → Right f after (to + m))

-- four bytes, each `step` behind the one before, to places `stride` apart
pub record FourBytes (l : List ℕ) (p d : ℕ) (f : List ℕ) (q e : ℕ) : Type 0 where
  pub first : get_or l p 0 ≡ get_or f q 0
  pub second : get_or l (p + d) 0 ≡ get_or f (q + e) 0
  pub third : get_or l (p + 2 * d) 0 ≡ get_or f (q + 2 * e) 0
  pub fourth : get_or l (p + 3 * d) 0 ≡ get_or f (q + 3 * e) 0

abbrev pub Puts : List ℕ → ℕ → ℕ → List ℕ → ℕ → ℕ → List ℕ → Type 0
Puts src from step out to stride after =
    (f : List ℕ) → FourBytes src from step f to stride → Betters f out after × FourBytes after to stride f to stride

-- a number from its place p in a sheet to its places in the planes, or from there to its place q in a sheet
abbrev pub NumberAlike : Bool → List ℕ → ℕ → List ℕ → ℕ → ℕ → ℕ → ℕ → Type 0
NumberAlike true src p f q rest numbers i = FourBytes src p 1 f (rest + i) numbers
NumberAlike false src p f q rest numbers i = FourBytes src (rest + i) numbers f q 1

abbrev pub NumberRight : Bool → List ℕ → List ℕ → ℕ → ℕ → ℕ → ℕ → Type 0
NumberRight true after f q rest numbers i = FourBytes after (rest + i) numbers f (rest + i) numbers
NumberRight false after f q rest numbers i = FourBytes after q 1 f q 1

-- the k bytes before a number, then the number, the i-th
abbrev pub Advances : ℕ → List ℕ → ℕ → List ℕ → ℕ → ℕ → ℕ → ℕ → ℕ → List ℕ → Type 0
Advances w src done out to k rest numbers i after =
    (f : List ℕ) → Alike src done f to k → NumberAlike (eqb w 4) src (done + k) f (to + k) rest numbers i
    → Betters f out after × ((m : ℕ) → m < k → Right f after (to + m)) × NumberRight (eqb w 4) after f (to + k) rest numbers i
