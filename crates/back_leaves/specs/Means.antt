-- What stands behind a leaf's word, by the tree of a sheet: words of contracts, which a reader need not believe.
use Rattle.std.specs.Prelude.{ℕ, Bool, List, [], ◌∷◌}
use Rattle.std.proofs.Math.Option.{Option, none, some}
use Rattle.ast.specs.Tree.{KeyframeTime, KeyframeEntry, Leaf, LoopSpec}
use Rattle.fresh.specs.Meaning.{EasingSense, FrameSense, option_sense, frames_sense, leaf_sense}
use Rattle.fresh.specs.Fresh.{Writer, mark, frame, f32, easing, field, comma_if, track_loop, leaf_body}
use Rattle.back_easings.specs.Means.{comma_unless}

-- a sheet's times are as they are stored
abbrev pub stored : KeyframeTime → KeyframeTime
stored k = k

abbrev pub frame_of : List ℕ → KeyframeEntry KeyframeTime → FrameSense
frame_of t x = record { time = x.time; value = x.value; easing = option_sense t x.easing }

abbrev pub frames_of : List ℕ → List (KeyframeEntry KeyframeTime) → List FrameSense
frames_of t xs = frames_sense stored t xs

-- frames with a `,` before each, and without one before the first
unfoldable pub comma_frames : List FrameSense → Writer
comma_frames [] ps = ps
comma_frames (f ∷ fs) ps = mark "," ∷ frame f (comma_frames fs ps)

abbrev pub joined_frames : List FrameSense → Writer
joined_frames [] ps = ps
joined_frames (f ∷ fs) ps = frame f (comma_frames fs ps)

-- a track's loop mode, behind a frame or not
abbrev pub loop_by : Bool → Option LoopSpec → Writer
loop_by first none ps = ps
loop_by first (some m) ps = comma_unless first (track_loop m ps)

abbrev pub preset_fields : Option ℕ → Option EasingSense → Writer
preset_fields d e ps = comma_if d e (field "duration" f32 d (field "easing" easing e ps))

-- what stands behind the word of the leaf l
abbrev pub body : List ℕ → Leaf KeyframeTime → Writer
body t l = leaf_body (leaf_sense stored t l)
