-- A tree with its times stored has the same sense.
use Prim.Native.Nat.{ℕ}
use mathlib.Core.List.{List, [], ◌∷◌}
use mathlib.Core.Path.{◌≡◌, refl}
use Rattle.ast.specs.Tree.{KeyframeTime, KeyframeEntry, Leaf, Nodes, map_frames, map_leaf, map_times}
use Rattle.fresh.specs.Meaning.{frames_sense, leaf_sense, sense}

module _ {K : Type 0} (f : K → KeyframeTime) (t : List ℕ) where
  frames-same : (xs : List (KeyframeEntry K)) → frames_sense (λ (k : KeyframeTime). k) t (map_frames f xs) ≡ frames_sense f t xs
  frames-same [] = refl
  frames-same (x ∷ xs) = rw (frames-same xs)

  leaf_same : (l : Leaf K) → leaf_sense (λ (k : KeyframeTime). k) t (map_leaf f l) ≡ leaf_sense f t l
  leaf_same (Leaf.tween d) = refl
  leaf_same (Leaf.spring d) = refl
  leaf_same (Leaf.keyframes d) = rw (frames-same d.frames)
  leaf_same (Leaf.path d) = refl
  leaf_same (Leaf.morph d) = refl
  leaf_same (Leaf.draw d) = refl
  leaf_same (Leaf.color d) = refl
  leaf_same (Leaf.waveform d) = refl
  leaf_same (Leaf.preset d) = refl
  leaf_same (Leaf.label x) = refl
  leaf_same (Leaf.at d) = refl

  pub stored_same : (ns : Nodes K) → sense (λ (k : KeyframeTime). k) t (map_times f ns) ≡ sense f t ns
  stored_same Nodes.none = refl
  stored_same (Nodes.leaf p l rest) = rw (leaf_same l, stored_same rest)
  stored_same (Nodes.box p b inner rest) = rw (stored_same inner, stored_same rest)
