-- What the answers of the code mean. Contracts cite these.
use Rattle.std.specs.Prelude.{ℕ, ◌≤◌, cond, List, [], length}
use Rattle.std.proofs.Math.Option.{Option}
use Rattle.codec.specs.Codec.{big, each}
use Rattle.ast.specs.Tree.{KeyframeEntry, KeyframeTime}
use Rattle.sheet.specs.Sheet.{span_form, entry_form, keyframes_form}
use Rattle.sheet_decode.specs.Means.{Reads, same, passed}
use Rattle.sheet_refusals.specs.declared.Opening.{Opening}
use Rattle.sheet_refusals.specs.declared.Opening.TheVariants.{Open, Shut}
use Rattle.error.specs.declared.Refusal.{Refusal}
use Rattle.error.specs.declared.Refusal.TheVariants.{UnknownList}
use Rattle.checking.specs.Rules.{validate_frames, validate_keyframes}
use Rattle.node_rules.specs.Means.{fault_of}
use Rattle.checking.specs.Checking.{is_list}
use Rattle.validate.specs.declared.frames.FramesCheck.{FramesCheck}
use Rattle.validate.specs.declared.frames.TrackCheck.{TrackCheck}

-- the answer to a list of colours: 36
abbrev pub list_answer : ℕ → Opening
list_answer list = cond (is_list list) Open (Shut UnknownList 0)

-- 01: "Bytes are a sheet for a text if they are at most 65,535"
abbrev pub InLimit : List ℕ → Type 0
InLimit s = length s ≤ 65535

-- ---- tracks

-- how many frames there are, and their first fault
abbrev pub frames_view : List ℕ → List (KeyframeEntry KeyframeTime) → ℕ × Option Refusal
frames_view t fs = (length fs, validate_frames t [] fs)

-- r tells of `count` frames from a place on, m being the place behind those that are left
abbrev pub FramesTell : List ℕ → List ℕ → ℕ → ℕ → FramesCheck → Type 0
FramesTell t s at count r =
    (m : ℕ) → Reads (each (entry_form (length t)) r.left) length s r.at r.left m
    → Reads (each (entry_form (length t)) count) (frames_view t) s at (count, fault_of r.fault) m

-- a track's target, then, from `between` on, its count of frames
pub record HeadStands (n : ℕ) (s : List ℕ) (at count first : ℕ) : Type 0 where
  pub between : ℕ
  pub target_at : Reads (span_form n) passed s at tt between
  pub count_at : Reads (big 2) same s between count first

-- r tells of the track whose fields stand at a place
abbrev pub TrackTells : List ℕ → List ℕ → ℕ → TrackCheck → Type 0
TrackTells t s at r = Reads (keyframes_form (length t)) (validate_keyframes t) s at (fault_of r.fault) r.next
