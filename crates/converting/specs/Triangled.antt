-- 02 (h): "the tree with triangle".
use Rattle.std.specs.Prelude.{ℕ, cond, eqb}
use Rattle.ast.specs.Tree.{
  WaveformSpec,
  Leaf,
  tween,
  spring,
  keyframes,
  path,
  morph,
  draw,
  color,
  waveform,
  preset,
  label,
  at,
  Nodes,
  none,
  leaf,
  box,
}
use Rattle.ast.specs.Tree.{noise}
use Rattle.converting.specs.Convert.{triangle}

-- triangle for noise, any other kind as it is
abbrev pub triangled_kind : ℕ → ℕ
triangled_kind k = cond (eqb k noise) triangle k

abbrev pub triangled_waveform : WaveformSpec → WaveformSpec
triangled_waveform x = record {
  kind = triangled_kind x.kind;
  frequency = x.frequency;
  amplitude = x.amplitude;
  phase = x.phase;
  duty_cycle = x.duty_cycle;
  seed = x.seed;
  smoothness = x.smoothness;
  duration = x.duration;
}

abbrev pub triangled_leaf : {K : Type 0} → Leaf K → Leaf K
triangled_leaf (tween x) = tween x
triangled_leaf (spring x) = spring x
triangled_leaf (keyframes x) = keyframes x
triangled_leaf (path x) = path x
triangled_leaf (morph x) = morph x
triangled_leaf (draw x) = draw x
triangled_leaf (color x) = color x
triangled_leaf (waveform x) = waveform (triangled_waveform x)
triangled_leaf (preset x) = preset x
triangled_leaf (label x) = label x
triangled_leaf (at x) = at x

-- in the nodes and, at any depth, in the nodes in them
unfoldable pub triangled : {K : Type 0} → Nodes K → Nodes K
triangled none = none
triangled (leaf p l rest) = leaf p (triangled_leaf l) (triangled rest)
triangled (box p b inner rest) = box p b (triangled inner) (triangled rest)
