-- A sheet and its planed form side by side, and what is carried from one to the other. Contracts cite this, and no reader needs to
-- believe it.
use Rattle.std.specs.Prelude.{ℕ, ◌+◌, ◌*◌, ◌≤◌, ◌<◌, Bool, List, [], ◌∷◌, ◌++◌, ◌≡◌, length, drop, get_or}
use Rattle.std.proofs.Math.Option.{some}
use Rattle.codec.specs.Codec.{Form, big, opt, many, each_out}
use Rattle.ast.specs.Tree.{ValueExpr, scalar, array, KeyframeTime, KeyframeEntry, KeyframeSpec, keyframes, single, holding}
use Rattle.sheet.specs.Sheet.{word, easing_form, loop_form, entry_form_of, Node}
use Rattle.sheet.specs.Records.{record_as, kind_of}
use Rattle.sheet_records.specs.Means.{record_form}
use Rattle.planed.specs.Planes.{entry_numbers, frame_numbers, leaf_numbers}
use Rattle.error.specs.declared.LineAnswer.{LineAnswer}
use Rattle.plane.specs.Means.{Right, FourBytes}
use Rattle.sheet_shape.specs.Means.{scalar_frame}
use Rattle.planed.specs.Planing.{placed}

-- behind b bytes that stay and i numbers: the bytes g in both, then A in the sheet s and B in the planed p; and the numbers C are left
pub record Gap (s p xs : List ℕ) (b i : ℕ) (g A B C : List ℕ) : Type 0 where
  pub wide : drop (b + 4 * i) s ≡ g ++ A
  pub narrow : drop b p ≡ g ++ B
  pub left : drop i xs ≡ C

-- a sheet s and its planed form p, from one of which is read and as the other is written
pub data Side (w : ℕ) (src s p : List ℕ) : Type 0 where
  wide : w ≡ 4 → src ≡ s → Side w src s p
  narrow : w ≡ 0 → src ≡ p → Side w src s p

-- what is written
abbrev pub Goal : {w : ℕ} {src s p : List ℕ} → Side w src s p → List ℕ
Goal {s = s} {p = p} (wide e q) = p
Goal {s = s} {p = p} (narrow e q) = s

-- the bytes past a sheet
abbrev pub Past : List ℕ → List ℕ → ℕ → ℕ → Type 0
Past f out rest numbers = (x : ℕ) → rest + 4 * numbers ≤ x → Right f out x

-- right so far: of a planed form the bytes before b and i of each plane's, of a sheet the bytes before their places; and all past it
abbrev pub Done : {w : ℕ} {src s p : List ℕ} → Side w src s p → List ℕ → ℕ → ℕ → ℕ → ℕ → Type 0
Done {p = p} (wide e q) out rest numbers b i =
    ((x : ℕ) → x < b → Right p out x) × ((x : ℕ) → x < i → FourBytes out (rest + x) numbers p (rest + x) numbers) × Past p out rest numbers
Done {s = s} (narrow e q) out rest numbers b i = ((x : ℕ) → x < b + 4 * i → Right s out x) × Past s out rest numbers

-- what of a frame stands behind its last number
abbrev pub value_tail : ValueExpr → List ℕ
value_tail (scalar x) = []
value_tail (array xs) = 1 ∷ (many word).write xs

abbrev pub tail_of : ℕ → KeyframeEntry KeyframeTime → List ℕ
tail_of n e = value_tail e.value ++ (opt (easing_form n)).write e.easing

-- every number's bytes in the planes
abbrev pub InPlanes : List ℕ → List ℕ → ℕ → ℕ → Type 0
InPlanes p xs rest numbers = (j : ℕ) → j < numbers → FourBytes ((big 4).write (get_or xs j 0)) 0 1 p (rest + j) numbers

-- behind a frame's last number
pub record FrameMoved {w : ℕ} {src s p : List ℕ} (o : Side w src s p) (n : ℕ) (xs after : List ℕ) (rest numbers : ℕ)
    (e : KeyframeEntry KeyframeTime) (A B C : List ℕ) (done to i : ℕ) : Type 0 where
  pub b : ℕ
  pub done_is : done ≡ b + w * i
  pub to_is : to + w * i ≡ b + 4 * i
  pub few : i ≤ numbers
  pub gap : Gap s p xs b i [] (tail_of n e ++ A) (tail_of n e ++ B) C
  pub so : Done o after rest numbers b i

-- whatever stands before and behind the frame at a
abbrev pub FrameMoves : ℕ → ℕ → List ℕ → List ℕ → List ℕ → ℕ → ℕ → ℕ → ℕ → ℕ → ℕ → Bool → ℕ → ℕ → ℕ → Type 0
FrameMoves w n src out after rest numbers done to i a b done' to' i' =
    (s p xs : List ℕ) (o : Side w src s p) → InPlanes p xs rest numbers
    → (k : ℕ) (g : List ℕ) (e : KeyframeEntry KeyframeTime) (A B C : List ℕ)
    → done ≡ k + w * i → to + w * i ≡ k + 4 * i → a ≡ done + length g → scalar_frame e ≡ b
    → Gap s p xs k i g ((entry_form_of 4 n).write e ++ A) ((entry_form_of 0 n).write e ++ B) (entry_numbers e ++ C)
    → Done o out rest numbers k i
    → FrameMoved o n xs after rest numbers e A B C done' to' i'

-- ---- a walk that carries

-- a sheet s and its planed form p, of which `rest` bytes stay; of the two the one that is written has as many bytes as the output
pub record Pair {w : ℕ} {src s p : List ℕ} (o : Side w src s p) (xs : List ℕ) (rest numbers room : ℕ) : Type 0 where
  pub planes : InPlanes p xs rest numbers
  pub count : length xs ≡ numbers
  pub long : length src ≡ rest + 4 * numbers
  pub goal_long : length (Goal o) ≡ room
  pub fits : rest + 4 * numbers ≤ room

-- the walk stands at place a of src: A is to come in the sheet, B in its planed form, C of the numbers
pub record At {w : ℕ} {src s p : List ℕ} (o : Side w src s p) (xs out : List ℕ) (rest numbers done to i a : ℕ)
    (A B C : List ℕ) : Type 0 where
  pub b : ℕ
  pub g : List ℕ
  pub done_is : done ≡ b + w * i
  pub to_is : to + w * i ≡ b + 4 * i
  pub place : a ≡ done + length g
  pub inside : a ≤ length src
  pub few : i ≤ numbers
  pub gap : Gap s p xs b i g A B C
  pub so : Done o out rest numbers b i

-- bytes are read as a form's, whatever stands behind them
abbrev pub Back : {A : Type 0} → Form A → List ℕ → Type 0
Back {A} c bs = (r : List ℕ) → (y : A) × (c.read (bs ++ r) ≡ some (y, r))

-- a frame within the limits: with its numbers and without it is read as one with the same kind of value
abbrev pub FrameBack : ℕ → ℕ → KeyframeEntry KeyframeTime → Type 0
FrameBack w n e =
    (r : List ℕ)
    → (y : KeyframeEntry KeyframeTime)
    × ((entry_form_of w n).read ((entry_form_of w n).write e ++ r) ≡ some (y, r))
    × (scalar_frame y ≡ scalar_frame e)

pub record FrameFine (n : ℕ) (e : KeyframeEntry KeyframeTime) : Type 0 where
  pub wide : FrameBack 4 n e
  pub narrow : FrameBack 0 n e

abbrev pub EachFine : ℕ → List (KeyframeEntry KeyframeTime) → Type 0
EachFine n [] = Unit {0}
EachFine n (e ∷ es) = FrameFine n e × EachFine n es

abbrev pub frames_of : ℕ → ℕ → List (KeyframeEntry KeyframeTime) → List ℕ
frames_of w n es = each_out (entry_form_of w n).write es

-- so many frames are to come
pub record Frames {w : ℕ} {src s p : List ℕ} (o : Side w src s p) (n : ℕ) (xs out : List ℕ) (rest numbers done to i a count : ℕ)
    (A B C : List ℕ) : Type 0 where
  pub es : List (KeyframeEntry KeyframeTime)
  pub long : length es ≡ count
  pub fine : EachFine n es
  pub at : At o xs out rest numbers done to i a (frames_of 4 n es ++ A) (frames_of 0 n es ++ B) (frame_numbers es ++ C)

-- and something stands behind them
pub record BeforeFrames (w n : ℕ) (src out : List ℕ) (rest numbers done to i a count : ℕ) : Type 0 where
  pub s : List ℕ
  pub p : List ℕ
  pub xs : List ℕ
  pub o : Side w src s p
  pub pair : Pair o xs rest numbers (length out)
  pub A : List ℕ
  pub B : List ℕ
  pub C : List ℕ
  pub more_wide : 1 ≤ length A
  pub more_narrow : 1 ≤ length B
  pub frames : Frames o n xs out rest numbers done to i a count A B C

-- whatever stands before, after and behind: the frames are passed
abbrev pub FramesMove : ℕ → ℕ → List ℕ → List ℕ → List ℕ → ℕ → ℕ → ℕ → ℕ → ℕ → ℕ → ℕ → ℕ → ℕ → ℕ → ℕ → Type 0
FramesMove w n src out after rest numbers done to i a count done' to' i' next =
    (d : BeforeFrames w n src out rest numbers done to i a count)
    → At d.o d.xs after rest numbers done' to' i' next d.A d.B d.C

-- ---- records

-- the numbers of a record, those of the nodes in it left out
abbrev pub own_numbers : Node → List ℕ
own_numbers (single p l) = leaf_numbers l
own_numbers (holding p b ns) = []

-- a track within the limits
pub record TrackFine (n : ℕ) (t : KeyframeSpec KeyframeTime) : Type 0 where
  pub count : (r : List ℕ) → (big 2).read ((big 2).write (length t.frames) ++ r) ≡ some (length t.frames, r)
  pub fine : EachFine n t.frames
  pub loops : Back (opt loop_form) ((opt loop_form).write t.loop_mode)

pub record BeforeTrack (w n : ℕ) (src out : List ℕ) (rest numbers done to i a : ℕ) : Type 0 where
  pub s : List ℕ
  pub p : List ℕ
  pub xs : List ℕ
  pub o : Side w src s p
  pub pair : Pair o xs rest numbers (length out)
  pub start : ℕ
  pub t : KeyframeSpec KeyframeTime
  pub A : List ℕ
  pub B : List ℕ
  pub C : List ℕ
  pub fine : TrackFine n t
  pub at : At o xs out rest numbers done to i a (record_as 4 n (single start (keyframes t)) ++ A)
      (record_as 0 n (single start (keyframes t)) ++ B) (frame_numbers t.frames ++ C)

abbrev pub TrackMoves : ℕ → ℕ → List ℕ → List ℕ → List ℕ → ℕ → ℕ → ℕ → ℕ → ℕ → ℕ → ℕ → ℕ → ℕ → ℕ → Type 0
TrackMoves w n src out after rest numbers done to i a done' to' i' next =
    (d : BeforeTrack w n src out rest numbers done to i a)
    → At d.o d.xs after rest numbers done' to' i' next d.A d.B d.C

-- a record within the limits: a track; or another, which is the same in both forms
pub data Coming (n : ℕ) (x : Node) : Type 0 where
  track : (p : ℕ) (t : KeyframeSpec KeyframeTime) → x ≡ single p (keyframes t) → TrackFine n t → Coming n x
  other : (kind_of x ≡ 2 → ⊥) → record_as 0 n x ≡ record_as 4 n x → own_numbers x ≡ []
      → Back (record_form n) (record_as 4 n x) → Coming n x

pub record BeforeRecord (w n : ℕ) (src out : List ℕ) (rest numbers done to i a : ℕ) : Type 0 where
  pub s : List ℕ
  pub p : List ℕ
  pub xs : List ℕ
  pub o : Side w src s p
  pub pair : Pair o xs rest numbers (length out)
  pub x : Node
  pub A : List ℕ
  pub B : List ℕ
  pub C : List ℕ
  pub coming : Coming n x
  pub at : At o xs out rest numbers done to i a (record_as 4 n x ++ A) (record_as 0 n x ++ B) (own_numbers x ++ C)

abbrev pub RecordMoves : ℕ → ℕ → List ℕ → List ℕ → List ℕ → ℕ → ℕ → ℕ → ℕ → ℕ → ℕ → ℕ → ℕ → ℕ → ℕ → Type 0
RecordMoves w n src out after rest numbers done to i a done' to' i' next =
    (d : BeforeRecord w n src out rest numbers done to i a)
    → At d.o d.xs after rest numbers done' to' i' next d.A d.B d.C

-- ---- all records

abbrev pub EachComing : ℕ → List Node → Type 0
EachComing n [] = Unit {0}
EachComing n (x ∷ ns) = Coming n x × EachComing n ns

abbrev pub records_as : ℕ → ℕ → List Node → List ℕ
records_as w n ns = each_out (record_as w n) ns

-- the records of ns are to come, the last of which ends at a place
pub record Records {w : ℕ} {src s p : List ℕ} (o : Side w src s p) (n : ℕ) (xs out : List ℕ) (rest numbers done to i a end : ℕ)
    (A B : List ℕ) : Type 0 where
  pub ns : List Node
  pub fine : EachComing n ns
  pub ends : a + length (records_as w n ns) ≡ end
  pub at : At o xs out rest numbers done to i a (records_as 4 n ns ++ A) (records_as 0 n ns ++ B) (each_out own_numbers ns)

-- those of a sheet, or of the first part of a planed one
pub record BeforeAll (w n : ℕ) (src out : List ℕ) (end rest numbers : ℕ) : Type 0 where
  pub s : List ℕ
  pub p : List ℕ
  pub xs : List ℕ
  pub o : Side w src s p
  pub pair : Pair o xs rest numbers (length out)
  pub A : List ℕ
  pub B : List ℕ
  pub end_is : end ≡ rest + w * numbers
  pub records : Records o n xs out rest numbers 0 0 0 2 end A B

-- the output is then what was to be written
abbrev pub AllMove : ℕ → ℕ → List ℕ → List ℕ → List ℕ → ℕ → ℕ → ℕ → Type 0
AllMove w n src out after end rest numbers = (d : BeforeAll w n src out end rest numbers) → after ≡ Goal d.o

-- ---- a sheet or a planed one, whole

-- what src is to be carried to is `target`, whatever the output
pub record Carries (w n : ℕ) (src : List ℕ) (end rest numbers : ℕ) : Type 0 where
  pub target : List ℕ
  pub long : length target ≡ length src
  pub before : (out : List ℕ) → length src ≤ length out
      → (d : BeforeAll w n src out end rest numbers) × (Goal d.o ≡ target ++ drop (length target) out)

abbrev pub Carried : ℕ → ℕ → List ℕ → List ℕ → ℕ → ℕ → ℕ → LineAnswer → List ℕ → Type 0
Carried w n src out end rest numbers r after = (c : Carries w n src end rest numbers) → (r, after) ≡ placed out c.target
