-- 02 (h): a tree that holds no waveform of noise.
use Rattle.std.specs.Prelude.{◌≢◌}
use Rattle.ast.specs.Tree.{Leaf, tween, spring, keyframes, path, morph, draw, color, waveform, preset, label, at, Nodes, none, leaf, box}
use Rattle.ast.specs.Tree.{noise}

-- P holds of each leaf, at any depth
unfoldable pub EachLeaf : {K : Type 0} → (Leaf K → Type 0) → Nodes K → Type 0
EachLeaf P none = Unit {0}
EachLeaf P (leaf p l rest) = P l × EachLeaf P rest
EachLeaf P (box p b inner rest) = EachLeaf P inner × EachLeaf P rest

abbrev pub NotNoise : {K : Type 0} → Leaf K → Type 0
NotNoise (tween x) = Unit {0}
NotNoise (spring x) = Unit {0}
NotNoise (keyframes x) = Unit {0}
NotNoise (path x) = Unit {0}
NotNoise (morph x) = Unit {0}
NotNoise (draw x) = Unit {0}
NotNoise (color x) = Unit {0}
NotNoise (waveform x) = x.kind ≢ noise
NotNoise (preset x) = Unit {0}
NotNoise (label x) = Unit {0}
NotNoise (at x) = Unit {0}

abbrev pub NoNoise : {K : Type 0} → Nodes K → Type 0
NoNoise ns = EachLeaf NotNoise ns
