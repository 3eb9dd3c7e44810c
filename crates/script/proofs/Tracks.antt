-- Demand 3's facts on keyframe times, for every track of a tree.
use Prim.Native.Nat.{ℕ, zero, suc}
use mathlib.Core.Bool.{Bool, true, false, cond}
use mathlib.Core.List.{List, [], ◌∷◌, map, map-append}
use mathlib.Core.Option.{Option, none, some, some-injective}
use mathlib.Core.Path.{◌≡◌, refl, sym, ap, ◌∙◌}
use mathlib.Core.Logic.{inl, inr}
use native.Mathlib.Omega.{arith}
use lib.ListN.{get_elem?}
use Rattle.number.specs.Number.{f32, bits}
use Rattle.number.specs.Time.{Key, stored_time, duplicates}
use Rattle.number.proofs.Floats.{f32-bits, stored-fits}
use Rattle.times.proofs.Times.{stored-within}
use Rattle.times.proofs.Tracks.{never, always}
use Rattle.ast.specs.Tree.{KeyframeTime, percent, seconds, KeyframeEntry, KeyframeSpec, Leaf}
use Rattle.ast.specs.Tree.{keyframes, Nodes, leaf, box, map_frames, map_leaf, map_times, preorder}
use Rattle.grammar.specs.Grammar.{stored}
use Rattle.colors.specs.Css.{names_of}
use Rattle.checking.specs.Rules.{time_of}
use Rattle.checking.specs.Checking.{answer_of, judged}
use Rattle.checking.proofs.FrameLaws.{stamps}
use Rattle.law_rules.proofs.ListLaws.{none≢some}
use Rattle.error.specs.declared.Refusal.{Refusal}
use Rattle.error.specs.declared.Refusal.TheVariants.{DuplicateTime}
use Rattle.error.specs.declared.CheckAnswer.TheVariants.{Accepted, Refused}
use Rattle.script.specs.Claim.{times, TrackClaim}
use Rattle.script.proofs.Faults.{track_clear, track-near, clear, locate}

-- ---- the stored times of a track

-- the track as the sheet has it
abbrev pub stored_track : KeyframeSpec Key → KeyframeSpec KeyframeTime
stored_track x = record { target = x.target; frames = map_frames stored x.frames; loop_mode = x.loop_mode }

-- the time that the sheet holds is the one that the key is stored as
stored_is : (t : Key) → f32 (time_of (stored t)) ≡ stored_time t
unfolding stored
stored_is t = go t.percent
  where
    go : (b : Bool) → f32 (time_of (cond b (percent (bits (stored_time t))) (seconds (bits (stored_time t))))) ≡ stored_time t
    go true = f32-bits (stored_time t) (stored-fits t)
    go false = f32-bits (stored_time t) (stored-fits t)

stored_at : (fs : List (KeyframeEntry Key)) (i : ℕ) (t : Key) → get_elem? (times fs) i ≡ some t
    → get_elem? (times (map_frames stored fs)) i ≡ some (stored t)
stored_at [] i t e = none≢some e
stored_at (x ∷ fs) zero t e = ap (λ (k : Key). some (stored k)) (some-injective x.time t e)
stored_at (x ∷ fs) (suc i) t e = stored_at fs i t e

stored_stamps : (fs : List (KeyframeEntry Key)) → stamps (map_frames stored fs) ≡ map stored_time (times fs)
stored_stamps [] = refl
stored_stamps (x ∷ fs) = rw (stored_is x.time, stored_stamps fs)

-- ---- the tracks of the sheet's tree

-- a node of the grammar's tree as the sheet has it
abbrev stored_node : Option (Leaf Key) → Option (Leaf KeyframeTime)
stored_node none = none
stored_node (some l) = some (map_leaf stored l)

preorder-stored : (ns : Nodes Key) → preorder (map_times stored ns) ≡ map stored_node (preorder ns)
preorder-stored Nodes.none = refl
preorder-stored (leaf p l rest) = rw (preorder-stored rest)
preorder-stored (box p b inner rest) =
    rw (preorder-stored inner, preorder-stored rest, map-append stored_node (preorder inner) (preorder rest))

node_at : (ns : List (Option (Leaf Key))) (i : ℕ) (n : Option (Leaf Key))
    → get_elem? ns i ≡ some n
    → get_elem? (map stored_node ns) i ≡ some (stored_node n)
node_at [] i n e = none≢some e
node_at (m ∷ ns) zero n e = ap (λ (x : Option (Leaf Key)). some (stored_node x)) (some-injective m n e)
node_at (m ∷ ns) (suc i) n e = node_at ns i n e

-- ---- what checking's answer says of a tree

answered_none : (o : Option (Refusal × ℕ)) → answer_of o ≡ Accepted → o ≡ none
answered_none none e = refl
answered_none (some f) e = absurd (let z : ◌≡◌ {A = ℕ} 0 1 = cc in omega arith)

answered_some : (o : Option (Refusal × ℕ)) (r : Refusal) (n : ℕ) → answer_of o ≡ Refused r n → o ≡ some (r, n)
answered_some none r n e = absurd (let z : ◌≡◌ {A = ℕ} 0 1 = cc in omega arith)
answered_some (some (s, m)) r n e = let p : s ≡ r = cc in let q : m ≡ n = cc in rw (p, q)

true≢false : true ≡ false → ⊥
true≢false e = let z : ◌≡◌ {A = ℕ} 0 1 = cc in omega arith

module _ (list : ℕ) (t : List ℕ) (ns : Nodes Key) (i : ℕ) (x : KeyframeSpec Key)
    (e : get_elem? (preorder ns) i ≡ some (some (keyframes x))) where
  pub track-at : get_elem? (preorder (map_times stored ns)) i ≡ some (some (keyframes (stored_track x)))
  track-at = rw (preorder-stored ns) (node_at (preorder ns) i _ e)

  -- the track has no duplicates where checking accepts, and some where it refuses the track for one
  accepted_clear : judged list t (map_times stored ns) ≡ Accepted → duplicates [] (map stored_time (times x.frames)) ≡ false
  unfolding judged
  accepted_clear a =
      rw (sym (stored_stamps x.frames))
      (track_clear t (names_of list) (stored_track x) (clear (names_of list) t 1 (map_times stored ns) (answered_none _ a) i _ track-at))

  refused_near : judged list t (map_times stored ns) ≡ Refused DuplicateTime (suc i)
      → duplicates [] (map stored_time (times x.frames)) ≡ true
  unfolding judged
  refused_near a =
      let w = locate (names_of list) t 1 (map_times stored ns) DuplicateTime (suc i) (answered_some _ DuplicateTime (suc i) a) in
      let same : w.at ≡ i = omega (arith, w.is) in
      rw (sym (stored_stamps x.frames)) (track-near t (names_of list) (stored_track x) (w.fault _ (rw same track-at)))

  -- "each time stored for the track is within 2^(k-25) of the written one", and the rest
  pub track_claim : TrackClaim x (stored_track x) (suc i) (judged list t (map_times stored ns))
  track_claim two fair k K most = (
    λ j u h. (stored u, stored_at x.frames j u h, rw (stored_is u) (stored-within k K u (fair j u h) (most j u h))),
    λ far a. true≢false (sym (refused_near a) ∙ never k K (times x.frames) fair most far),
    λ j l u w h p q same a. true≢false (sym (always k K (times x.frames) fair most j l u w h p q (inl same)) ∙ accepted_clear a),
    λ z j l u w h p q near a. true≢false (sym (always k K (times x.frames) fair most j l u w h p q (inr (z, near))) ∙ accepted_clear a),
  )

-- every track of a tree: it stands at the same place in the sheet's tree, with what demand 3 says of it
pub tracks : (list : ℕ) (t : List ℕ) (ns : Nodes Key) (i : ℕ) (x : KeyframeSpec Key) → get_elem? (preorder ns) i ≡ some (some (keyframes x))
    → (y : KeyframeSpec KeyframeTime)
    × (get_elem? (preorder (map_times stored ns)) i ≡ some (some (keyframes y)))
    × TrackClaim x y (suc i) (judged list t (map_times stored ns))
tracks list t ns i x e = (stored_track x, track-at list t ns i x e, track_claim list t ns i x e)
