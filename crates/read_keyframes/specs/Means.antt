-- What the functions of a track answer. Contracts cite these.
use Rattle.std.specs.Prelude.{ℕ, ◌+◌, ◌*◌, ◌-◌, ◌^◌, ◌≤◌, ◌<◌, Bool, true, false, cond, List, [], ◌++◌, ◌≡◌, Float, length}
use Rattle.std.proofs.Math.Option.{Option, none, some}
use Rattle.text.specs.Limits.{text_limit}
use Rattle.number.specs.Number.{Written, bits}
use Rattle.number.specs.Time.{Key}
use Rattle.codec.specs.Codec.{each_out, big, opt}
use Rattle.ast.specs.Tree.{KeyframeEntry, EasingSpec, scalar, map_frames}
use Rattle.ast.specs.Means.{entry_of}
use Rattle.ast.specs.declared.ValueExpr as values
use Rattle.ast.specs.declared.KeyframeEntry as entries
use Rattle.sheet.specs.Sheet.{time_form, value_form, easing_form, loop_form, entry_form}
use Rattle.sheet_encode.specs.Means.{key_time_of, opt_easing_of, opt_loop_of, Plain, PlainOptEasing, PlainEntry}
use Rattle.sheet_encode.specs.WriteMeans.{Writes}
use Rattle.grammar.specs.Rule.{Rule, got, refused, give, if, sees, sees_name, skip, eat, the, leave, repeat, Next, more, done, ◌>>=◌, ◌>>◌}
use Rattle.grammar.specs.Values.{parse_easing}
use Rattle.grammar.specs.Grammar.{stored, parse_keyframe_time, keyframe_entry, track_step, Track}
use Rattle.read_cursor.specs.WordMeans.{at_of}
use Rattle.read_cursor.specs.Means.{Ready, notes, tokens, run, Took}
use Rattle.read_cursor.specs.declared.Cursor.{Cursor}
use Rattle.read_arrays.specs.Means.{Held}
use Rattle.read_node.specs.declared.NodeRead.{NodeRead}
use Rattle.read_node.specs.declared.NodeRead.TheVariants as node
use Rattle.read_keyframes.specs.declared.TimeRead.{TimeRead}
use Rattle.read_keyframes.specs.declared.TimeRead.TheVariants as time
use Rattle.read_keyframes.specs.declared.EasingIf.{EasingIf}
use Rattle.read_keyframes.specs.declared.EasingIf.TheVariants as easing
use Rattle.read_keyframes.specs.declared.EntryRead.{EntryRead}
use Rattle.read_keyframes.specs.declared.EntryRead.TheVariants as entry
use Rattle.read_keyframes.specs.declared.Track as tracks
use Rattle.read_keyframes.specs.declared.TrackNext.{TrackNext}
use Rattle.read_keyframes.specs.declared.TrackNext.TheVariants as turn
use Rattle.read_keyframes.specs.declared.TrackRead.{TrackRead}
use Rattle.read_keyframes.specs.declared.TrackRead.TheVariants as track

-- a text, and a place inside the record, at most k bytes behind its start
pub record Inner (k : ℕ) (s : List ℕ) (out : ℕ) : Type 0 where
  pub short : length s ≤ text_limit
  pub low : out < 2 ^ 30 + k

-- ---- a key's time

-- a `%`, which does not follow a number with a point
abbrev pub percent_sign : Bool → Rule Bool
percent_sign point = cond point (give false) (eat "%")

abbrev pub key_of : Bool → Bool → Written → Key
key_of p negative w = record { percent = p; negative = negative; written = w }

-- the time that is stored for the key k, and whether it is a percent
pub record Stores (k : Key) (percent : Bool) (x : Float) : Type 0 where
  pub is : key_time_of percent x ≡ stored k
  pub plain : Plain x

-- the rule p takes a key, whose time is x
pub record TookTime (s : List ℕ) (c m : Cursor) (p : Rule Key) (percent : Bool) (x : Float) : Type 0 where
  pub key : Key
  pub took : Took 1 s c m p key
  pub stores : Stores key percent x

abbrev pub TimeMeans : List ℕ → Cursor → Rule Key → TimeRead → Type 0
TimeMeans s c p (time.Is percent x m) = TookTime s c m p percent x
TimeMeans s c p (time.Refused r q) = run s c p ≡ refused r q

-- ---- a frame

-- a key and its `:`
abbrev pub key_mark : Rule Key
key_mark = parse_keyframe_time >>= λ k. the ":" >> give k

-- an easing where a name follows
abbrev pub easing_if : Rule (Option EasingSpec)
easing_if = if sees_name (parse_easing >>= λ e. give (some e)) (give none)

abbrev pub EasingMeans : List ℕ → Cursor → EasingIf → Type 0
EasingMeans s c (easing.Is e m) = Took 0 s c m easing_if (opt_easing_of e) × PlainOptEasing e
EasingMeans s c (easing.Refused r q) = run s c easing_if ≡ refused r q

-- the bytes of frames, for a text of n bytes
abbrev pub frames_bytes : ℕ → List (KeyframeEntry Key) → List ℕ
frames_bytes n fs = each_out (entry_form n).write (map_frames stored fs)

-- the grammar takes a frame, and e holds it; its array, if it has one, is written behind the place of its time, and ends at `end`: b
-- becomes a. The text pays for the 18 bytes of an easing too.
pub record EntryWent (s b a : List ℕ) (c m : Cursor) (out end : ℕ) (e : entries.KeyframeEntry) : Type 0 where
  pub frame : KeyframeEntry Key
  pub took : Took 1 s c m keyframe_entry frame
  pub value : values.ValueExpr
  pub holds : e ≡ entry_of e.percent e.time value e.easing
  pub time : key_time_of e.percent e.time ≡ stored frame.time
  pub held : Held b a (out + 5) end frame.value value
  pub easing : opt_easing_of e.easing ≡ frame.easing
  pub plain : PlainEntry e
  pub paid : end + 18 ≤ out + 64 * (at_of m - at_of c)

abbrev pub EntryMeans : List ℕ → List ℕ → List ℕ → Cursor → ℕ → EntryRead → Type 0
EntryMeans s b a c out (entry.Is e end m) = EntryWent s b a c m out end e
EntryMeans s b a c out (entry.Refused r q) = run s c keyframe_entry ≡ refused r q

-- a value is an array, which ends at `end`; or the scalar x, which is written
abbrev pub ValuePut : Bool → List ℕ → List ℕ → ℕ → ℕ → Float → ℕ → Type 0
ValuePut true b a at end x q = (a ≡ b) × (q ≡ end)
ValuePut false b a at end x q = Writes b at (value_form.write (scalar (bits x))) a q

-- a time is written at `out`, then a value and an easing: b becomes a
pub record EntryPut (b a : List ℕ) (out end : ℕ) (e : entries.KeyframeEntry) (q : ℕ) : Type 0 where
  pub timed : List ℕ
  pub value_at : ℕ
  pub valued : List ℕ
  pub easing_at : ℕ
  pub time : Writes b out (time_form.write (key_time_of e.percent e.time)) timed value_at
  pub value : ValuePut e.array timed valued value_at end e.value easing_at
  pub easing : (n : ℕ) → Writes valued easing_at ((opt (easing_form n)).write (opt_easing_of e.easing)) a q

-- ---- a track

-- `,` or `;`
abbrev pub separator : Rule Bool
separator = if (sees ",") (skip >> give true) (eat ";")

-- the track of the grammar, with some frames
abbrev pub track_of : List (KeyframeEntry Key) → tracks.Track → Track
track_of fs t = (fs, opt_loop_of t.loop_mode)

-- the step p makes u of the track t, at least e bytes on: it adds some frames, and they are written
pub record Stepped (e : ℕ) (s b a : List ℕ) (t u : tracks.Track) (p : Track → Rule (Next Track)) (goes : Track → Next Track) : Type 0 where
  pub added : List (KeyframeEntry Key)
  pub is : (fs : List (KeyframeEntry Key))
      → run s t.next (p (track_of fs t)) ≡ got (goes (track_of (fs ++ added) u)) (notes s u.next) (tokens s u.next)
  pub low : at_of t.next + e ≤ at_of u.next
  pub ready : Ready s u.next
  pub count : u.frames ≡ t.frames + length added
  pub writes : Writes b t.end (frames_bytes (length s) added) a u.end
  pub paid : u.end ≤ t.end + 64 * (at_of u.next - at_of t.next)

abbrev pub StepMeans : List ℕ → List ℕ → List ℕ → tracks.Track → (Track → Rule (Next Track)) → TrackNext → Type 0
StepMeans s b a t p (turn.More u) = Stepped 1 s b a t u p more
StepMeans s b a t p (turn.Done u) = Stepped 0 s b a t u p done
StepMeans s b a t p (turn.Refused r q) = (fs : List (KeyframeEntry Key)) → run s t.next (p (track_of fs t)) ≡ refused r q

-- what a step asks of a track
pub record Standing (s : List ℕ) (t : tracks.Track) : Type 0 where
  pub ready : Ready s t.next
  pub inner : Inner 2097152 s t.end
  pub few : t.frames ≤ t.end

-- the whole track, whose frames are written from `out` on
pub record TrackWent (s b a : List ℕ) (c : Cursor) (out : ℕ) (t : tracks.Track) : Type 0 where
  pub frames : List (KeyframeEntry Key)
  pub took : Took 0 s c t.next (repeat track_step ([], none)) (track_of frames t)
  pub count : t.frames ≡ length frames
  pub writes : Writes b out (frames_bytes (length s) frames) a t.end
  pub paid : t.end ≤ out + 64 * (at_of t.next - at_of c)

abbrev pub TrackMeans : List ℕ → List ℕ → List ℕ → Cursor → ℕ → TrackRead → Type 0
TrackMeans s b a c out (track.Is t) = TrackWent s b a c out t
TrackMeans s b a c out (track.Refused r q) = run s c (repeat track_step ([], none)) ≡ refused r q

-- a track behind its `{`, with its `}`
abbrev pub track_behind : Rule Track
track_behind = repeat track_step ([], none) >>= λ t. leave 125 >> give t

-- its bytes: the count, the frames, the loop mode
abbrev pub track_bytes : ℕ → Track → List ℕ
track_bytes n t = ((big 2).write (length t.0) ++ frames_bytes n t.0) ++ (opt loop_form).write t.1

-- up to 8 bytes more than the text pays for: the count and the loop mode
pub record BlockWent (s b a : List ℕ) (c m : Cursor) (out q : ℕ) : Type 0 where
  pub value : Track
  pub took : Took 0 s c m track_behind value
  pub writes : Writes b out (track_bytes (length s) value) a q
  pub paid : q ≤ out + 8 + 64 * (at_of m - at_of c)

abbrev pub BlockSays : List ℕ → List ℕ → List ℕ → Cursor → ℕ → NodeRead → Type 0
BlockSays s b a c out (node.Is q m) = BlockWent s b a c m out q
BlockSays s b a c out (node.Refused r q) = run s c track_behind ≡ refused r q

pub record BlockMeans (s b a : List ℕ) (c : Cursor) (out : ℕ) (r : NodeRead) : Type 0 where
  pub by : BlockSays s b a c out r
