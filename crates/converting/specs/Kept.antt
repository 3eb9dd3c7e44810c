-- 02 (h): "triangle in its place and every other byte equal": which bytes of a sheet change.
use Rattle.std.specs.Prelude.{ℕ, ◌+◌, List, ◌∷◌, ◌++◌, ◌⊎◌, ◌≡◌, length, get_or}
use Rattle.std.proofs.Math.Option.{some}
use Rattle.codec.specs.Codec.{each_out}
use Rattle.ast.specs.Tree.{WaveformSpec, waveform, single}
use Rattle.sheet.specs.Sheet.{Forest, decode}
use Rattle.sheet.specs.Records.{record_of, all_records}
use Rattle.ast.specs.Tree.{noise}
use Rattle.converting.specs.Convert.{triangle, wave_at}

-- the place i in the sheet of a tree, for a text of n bytes, is the kind of a waveform, which is noise: some records stand in front of the
-- waveform's own, and the byte is the one of its record that has the kind
pub record NoiseAt (n : ℕ) (ns : Forest) (i : ℕ) : Type 0 where
  pub front : List (List ℕ)
  pub start : ℕ
  pub wave : WaveformSpec
  pub behind : List (List ℕ)
  pub records : all_records n ns ≡ front ++ record_of n (single start (waveform wave)) ∷ behind
  pub noisy : wave.kind ≡ noise
  pub place : i ≡ length (each_out (λ r. r) front) + wave_at

-- of a sheet s for the text t: each byte is as it was, or is the kind of a waveform of noise and becomes triangle, as every such byte does
pub record Kept (t s after : List ℕ) : Type 0 where
  pub tree : Forest
  pub decodes : decode (length t) s ≡ some tree
  pub as_long : length after ≡ length s
  pub each_byte : (i : ℕ) → (get_or after i 0 ≡ get_or s i 0) ⊎ (NoiseAt (length t) tree i × (get_or after i 0 ≡ triangle))
  pub each-noise : (i : ℕ) → NoiseAt (length t) tree i → (get_or s i 0 ≡ noise) × (get_or after i 0 ≡ triangle)
