-- The search over a track's frames, and a track.
use Rattle.std.specs.Prelude.{Result, Ok, Err}
use Rattle.std.specs.Result.{is_err}
use Prim.Native.Nat.{ℕ, suc, ◌+◌, ◌*◌, ◌-◌, ◌≤◌, ◌<◌}
use mathlib.Core.Bool.{Bool, true, false, ◌||◌}
use mathlib.Core.List.{List, [], ◌∷◌, ◌++◌}
use mathlib.Core.Option.{Option, none, some, some-injective}
use mathlib.Core.Path.{◌≡◌, refl, sym, ◌∙◌, ap, subst, subst⁻¹}
use native.Mathlib.Nat.{le_trans}
use native.Mathlib.Omega.{arith}
use lib.ListN.{length, length-append, length-drop, take, drop, get_or, set, length-set}
use lib.Seq.{drop-cons, take-add, take-set-le, get_or-set_same}
use lib.Dec.{lit≤}
use lib.Ieee.{Float}
use borrow.Author.Tests.{lt-ltb, le-ltb}
use Rattle.number.specs.Number.{f32}
use Rattle.number.specs.Time.{near, any_near}
use Rattle.codec.specs.Codec.{Form, and_then, each, each_in, each_out, opt}
use Rattle.ast.specs.Tree.{ValueExpr, scalar, array, EasingSpec}
use Rattle.ast.specs.Tree.{KeyframeSpec, KeyframeTime, percent, seconds, LoopSpec}
use Rattle.ast.specs.Means.{time_view, entry_view, opt_easing_view}
use Rattle.ast.specs.declared.KeyframeEntry as entries
use Rattle.sheet.specs.Sheet.{time_form, value_form, easing_form, entry_form, keyframes_form, to_keyframes, of_keyframes, loop_form}
use Rattle.sheet_decode.specs.Means.{Lost, Reads, got, bad}
use Rattle.error.specs.declared.Refusal.{Refusal}
use Rattle.error.specs.declared.Refusal.TheVariants.{UnknownEasing, DuplicateTime, TooFewFrames}
use Rattle.codec.proofs.Laws.{inverse, each_lawful}
use Rattle.sheet.proofs.Laws.{entry_l}
use Rattle.sheet_decode.proofs.ReadLaws.{◌&◌, seen, through, counted, each_next}
use Rattle.checking.specs.Rules.{given, unknown_easing, first, time_of, validate_frames, validate_keyframes}
use Rattle.checking.proofs.FrameLaws.{Entry, stamp}
use Rattle.node_rules.specs.Means.{Tells, fault_of}
use Rattle.sheet_nodes.proofs.StandLaws.{none≢some}
use Rattle.validate.specs.Means.{InLimit, frames_view, HeadStands}

-- ---- times

-- percent and seconds share one scale
time_is : (x : KeyframeTime) → (time_view x).1 ≡ f32 (time_of x)
time_is (percent x) = refl
time_is (seconds x) = refl

-- what is seen of an entry has its time
stamp_is : (x : Entry) {v : entries.KeyframeEntry} → entry_view x ≡ v → stamp x ≡ v.time
stamp_is x e = sym (time_is x.time) ∙ ap (λ v. v.time) e

any_cons : (time u : Float) (us : List Float) → any_near time (u ∷ us) ≡ (near u time || any_near time us)
unfolding any_near
any_cons time u us = refl

any_nil : (time : Float) → any_near time [] ≡ false
unfolding any_near
any_nil time = refl

-- ---- the search, over the times that are kept

module _ (us : List Float) (time : Float) where
  -- of the first i times those from j on are left to be tried
  abbrev pub Tried : ℕ → ℕ → Type 0
  Tried i j = any_near time (take i us) ≡ any_near time (take (i - j) (drop j us))

  pub tried_start : (i : ℕ) → Tried i 0
  tried_start i = let z : i - 0 ≡ i = omega arith in rw z

  or_rest : (a b : Bool) → a ≡ false → (a || b) ≡ b
  or_rest a b e = rw e

  or_first : (a b : Bool) → a ≡ true → (a || b) ≡ true
  or_first a b e = rw e

  module _ {i j : ℕ} (d : Float) (l : j < i) (k : i ≤ length us) where
    -- one more of them
    unroll : any_near time (take (i - j) (drop j us)) ≡ (near (get_or us j d) time || any_near time (take (i - (j + 1)) (drop (j + 1) us)))
    unroll =
        let z : i - j ≡ suc (i - (j + 1)) = omega arith in
        let y : suc j ≡ j + 1 = omega arith in
        ap (λ (l : List Float). any_near time (take (i - j) l)) (drop-cons us j d (omega arith))
        ∙ ap (λ (m : ℕ). any_near time (take m (get_or us j d ∷ drop (suc j) us))) z
        ∙ any_cons time (get_or us j d) (take (i - (j + 1)) (drop (suc j) us))
        ∙ ap (λ (m : ℕ). near (get_or us j d) time || any_near time (take (i - (j + 1)) (drop m us))) y

    pub tried_next : near (get_or us j d) time ≡ false → Tried i j → Tried i (j + 1)
    tried_next e g = g ∙ unroll ∙ or_rest (near (get_or us j d) time) _ e

    pub tried_hit : near (get_or us j d) time ≡ true → Tried i j → any_near time (take i us) ≡ true
    tried_hit e g = g ∙ unroll ∙ or_first (near (get_or us j d) time) _ e

  pub tried_end : {i j : ℕ} → i ≤ j → Tried i j → any_near time (take i us) ≡ false
  tried_end {i} {j} l g =
      let z : i - j ≡ 0 = omega arith in g ∙ ap (λ (m : ℕ). any_near time (take m (drop j us))) z ∙ any_nil time

-- one more time is kept
kept_more : (us : List Float) (i : ℕ) (x : Float) → i < length us → take (i + 1) (set us i x) ≡ take i us ++ x ∷ []
kept_more us i x h =
    let k : i < length (set us i x) = rw length-set h in
    take-add i 1 (set us i x)
    ∙ ap (λ (l : List Float). take i (set us i x) ++ take 1 l) (drop-cons (set us i x) i x k)
    ∙ ap (λ (l : List Float). l ++ get_or (set us i x) i x ∷ []) (take-set-le i us i x (omega arith))
    ∙ ap (λ (y : Float). take i us ++ y ∷ []) (get_or-set_same us i x x h)

-- ---- a frame's easing, r being the answer to it

pub held : (r : Result Unit Refusal) → is_err r ≡ false → fault_of r ≡ none
held (Ok u) e = refl
held (Err q) e = let z : ◌≡◌ {A = ℕ} 0 1 = cc in absurd (omega arith)

is_broken : (r : Result Unit Refusal) (b : Bool) → fault_of r ≡ first ((b, UnknownEasing) ∷ []) → is_err r ≡ b
unfolding first
is_broken (Ok u) true e = let z : ◌≡◌ {A = ℕ} 0 1 = cc in absurd (omega arith)
is_broken (Ok u) false e = refl
is_broken (Err q) true e = refl
is_broken (Err q) false e = let z : ◌≡◌ {A = ℕ} 0 1 = cc in absurd (omega arith)

pub broken : (r : Result Unit Refusal) (b : Bool) → fault_of r ≡ first ((b, UnknownEasing) ∷ []) → is_err r ≡ true
    → fault_of r ≡ some UnknownEasing
unfolding first
broken r true e h = e
broken (Ok u) false e h = let z : ◌≡◌ {A = ℕ} 0 1 = cc in absurd (omega arith)
broken (Err q) false e h = let z : ◌≡◌ {A = ℕ} 0 1 = cc in absurd (omega arith)

pub entry_tells : (r : Result Unit Refusal) (t : List ℕ) (e : entries.KeyframeEntry) {b : Bool} → b ≡ is_err r
    → Tells opt_easing_view (λ o. first ((given (unknown_easing t) o, UnknownEasing) ∷ [])) e.easing (fault_of r)
    → Tells entry_view (λ x. given (unknown_easing t) x.easing) e b
entry_tells r t e h u x q = h ∙ is_broken r (given (unknown_easing t) x.easing) (u x.easing (ap (λ v. v.easing) q))

-- ---- frames, one after the other

-- what is read first decides, whatever is read behind it
decided : {A X Y Z : Type 0} {c : Form A} {f : A → X} (j : ℕ) {g : List A → Y} (h : List A → Z) {s : List ℕ} {at b m : ℕ} {v : X} {w : Y}
    {z : Z}
    → Reads c f s at v b → Reads (each c (suc j)) g s at w m
    → ((x : A) (xs : List A) → f x ≡ v → g (x ∷ xs) ≡ w → h (x ∷ xs) ≡ z)
    → Reads (each c (suc j)) h s at z m
decided j h r (bad o n) t = bad o n
decided j h (bad o n) (got fs e q l k) t = none≢some (rw (n (le_trans l k)) at e)
decided {A} {c = c} j {g = g} h {s} {at} {b} {m} {w = w} {z = z} (got x e p l k) (got fs e' q l' k') t =
    let e₁ : and_then (each_in c.read j (drop b s)) (λ ys cs. some (x ∷ ys, cs)) ≡ some (fs, drop m s) = rw e at e' in
    let (y, o, e₂) = inverse (each_in c.read j (drop b s)) (λ ys cs. some (x ∷ ys, cs)) (fs, drop m s) e₁ in
    let d : x ∷ y.0 ≡ fs = ap (λ (u : List A × List ℕ). u.0) (some-injective (x ∷ y.0, y.1) (fs, drop m s) e₂) in
    got fs e' (subst (λ (l : List A). h l ≡ z) d (t x y.0 p (subst⁻¹ (λ (l : List A). g l ≡ w) d q))) l' k'

module _ (t : List ℕ) where
  -- how many frames there are, and their first fault behind frames of the times `seen`
  abbrev view : List Float → List Entry → ℕ × Option Refusal
  view seen fs = (length fs, validate_frames t seen fs)

  no_frames : (seen : List Float) (fs : List Entry) → length fs ≡ 0 → validate_frames t seen fs ≡ none
  unfolding validate_frames
  no_frames seen [] e = refl
  no_frames seen (x ∷ fs) e = absurd (omega arith)

  module _ (seen : List Float) (x : Entry) (fs : List Entry) where
    near-one : any_near (stamp x) seen ≡ true → validate_frames t seen (x ∷ fs) ≡ some DuplicateTime
    unfolding validate_frames first
    near-one e = rw e

    no_easing : any_near (stamp x) seen ≡ false → given (unknown_easing t) x.easing ≡ true
        → validate_frames t seen (x ∷ fs) ≡ some UnknownEasing
    unfolding validate_frames first
    no_easing e q = rw (e, q)

    no_fault : any_near (stamp x) seen ≡ false → given (unknown_easing t) x.easing ≡ false
        → validate_frames t seen (x ∷ fs) ≡ validate_frames t (seen ++ stamp x ∷ []) fs
    unfolding validate_frames first
    no_fault e q = rw (e, q)

-- ---- what the two loops keep

module _ (t s : List ℕ) (from count : ℕ) where
  abbrev form : Form Entry
  form = entry_form (length t)

  -- i frames are passed, and the first i of the times us are theirs: what is told of those from a on is told of all
  pub record Going (us : List Float) (i a : ℕ) : Type 0 where
    pub tells : (m : ℕ) (o : Option Refusal) → Reads (each form (count - i)) (view t (take i us)) s a (count - i, o) m
        → Reads (each form count) (frames_view t) s from (count, o) m

  pub going_start : (us : List Float) → Going us 0 from
  going_start us = record { tells = λ m o r. let e : count - 0 ≡ count = omega arith in rw e at r }

module _ {t s : List ℕ} {from count : ℕ} {us : List Float} {i a : ℕ} (g : Going t s from count us i a) where
  -- the frame at i is e
  module _ {b : ℕ} {e : entries.KeyframeEntry} (l : i < count) (r : Reads (entry_form (length t)) entry_view s a e b) where
    -- a fault of the frame at i, whatever stands behind it
    faulty : {m : ℕ} {o : Refusal} → ((x : Entry) (fs : List Entry) → entry_view x ≡ e → validate_frames t (take i us) (x ∷ fs) ≡ some o)
        → Reads (each (entry_form (length t)) (count - i)) length s a (count - i) m
        → Reads (each (entry_form (length t)) count) (frames_view t) s from (count, some o) m
    faulty {m} {o} f q =
        let z : count - i ≡ suc (count - (i + 1)) = omega arith in
        g.tells m (some o)
        (rw z (decided (count - (i + 1)) (view t (take i us)) r (rw z at q) (λ x fs h k j. (k j, f x fs h j))))

    pub duplicate_found : {m : ℕ} → any_near e.time (take i us) ≡ true
        → Reads (each (entry_form (length t)) (count - i)) length s a (count - i) m
        → Reads (each (entry_form (length t)) count) (frames_view t) s from (count, some DuplicateTime) m
    duplicate_found z q = faulty (λ x fs h. near-one t (take i us) x fs (ap (λ (y : Float). any_near y (take i us)) (stamp_is x h) ∙ z)) q

    -- none was near
    module _ (z : any_near e.time (take i us) ≡ false) {q : Bool}
        (u : Tells entry_view (λ x. given (unknown_easing t) x.easing) e q) where
      far : (x : Entry) → entry_view x ≡ e → any_near (stamp x) (take i us) ≡ false
      far x h = ap (λ (y : Float). any_near y (take i us)) (stamp_is x h) ∙ z

      pub easing_unknown : {m : ℕ} → q ≡ true
          → Reads (each (entry_form (length t)) (count - i)) length s a (count - i) m
          → Reads (each (entry_form (length t)) count) (frames_view t) s from (count, some UnknownEasing) m
      easing_unknown y p = faulty (λ x fs h. no_easing t (take i us) x fs (far x h) (sym (u x h) ∙ y)) p

      pub going_next : q ≡ false → i < length us → Going t s from count (set us i e.time) (i + 1) b
      going_next y k = record {
        tells = λ m o p.
            let w : count - i ≡ suc (count - (i + 1)) = omega arith in
            g.tells m o
            (rw w (each_next (count - (i + 1)) (view t (take i us)) r p (λ x fs h f j. (suc (f j).0, (behind x fs h ∙ (λ j. (f j).1)) j))));
      }
        where
          behind : (x : Entry) (fs : List Entry) → entry_view x ≡ e
              → validate_frames t (take i us) (x ∷ fs) ≡ validate_frames t (take (i + 1) (set us i e.time)) fs
          behind x fs h =
              no_fault t (take i us) x fs (far x h) (sym (u x h) ∙ y)
              ∙ ap (λ (y : Float). validate_frames t (take i us ++ y ∷ []) fs) (stamp_is x h)
              ∙ ap (λ (l : List Float). validate_frames t l fs) (sym (kept_more us i e.time k))

  pub going_done : {m : ℕ} → count ≤ i → Reads (each (entry_form (length t)) (count - i)) length s a (count - i) m
      → Reads (each (entry_form (length t)) count) (frames_view t) s from (count, none) m
  going_done {m} l q =
      let z : count - i ≡ 0 = omega arith in
      g.tells m none (seen q (λ fs e j. (e j, no_frames t (take i us) fs (e ∙ z) j)))

-- ---- how many frames a sheet holds

-- an entry has at least 9 bytes
entry-bytes : (n : ℕ) (x : Entry) → 9 ≤ length ((entry_form n).write x)
entry-bytes n x =
    rw (length-append (time_form.write x.time), length-append (value_form.write x.value))
    (let a = time-bytes x.time in let b = value-bytes x.value in let c = easing-bytes x.easing in omega arith)
  where
    time-bytes : (y : KeyframeTime) → 5 ≤ length (time_form.write y)
    time-bytes (percent y) = lit≤ tt
    time-bytes (seconds y) = lit≤ tt

    value-bytes : (v : ValueExpr) → 3 ≤ length (value_form.write v)
    value-bytes (scalar y) = lit≤ tt
    value-bytes (array ys) = omega arith

    easing-bytes : (o : Option EasingSpec) → 1 ≤ length ((opt (easing_form n)).write o)
    easing-bytes none = lit≤ tt
    easing-bytes (some e) = omega arith

entries-bytes : (n : ℕ) (fs : List Entry) → 9 * length fs ≤ length (each_out (entry_form n).write fs)
entries-bytes n [] = omega arith
entries-bytes n (x ∷ fs) = rw (length-append ((entry_form n).write x)) (let a = entry-bytes n x in let b = entries-bytes n fs in omega arith)

-- no sheet holds more than 7,281: then nothing is read from a lost place on
pub too_many : (t : List ℕ) {s : List ℕ} {at count a k m : ℕ} {o : Option Refusal} → InLimit s → 7281 < count → Lost s a
    → Reads (each (entry_form (length t)) k) length s a k m
    → Reads (each (entry_form (length t)) count) (frames_view t) s at (count, o) m
too_many t {s} {at} {count} {m = m} short many lost r =
    bad (still lost r) (λ h. go ((each (entry_form (length t)) count).read (drop at s)) refl)
  where
    still : {A X : Type 0} {c : Form A} {f : A → X} {a : ℕ} {v : X} → Lost s a → Reads c f s a v m → Lost s m
    still o (got x e q h l) = omega arith
    still o (bad p n) = p

    go : (o : Option (List Entry × List ℕ)) → (each (entry_form (length t)) count).read (drop at s) ≡ o → o ≡ none
    go none e = refl
    go (some z) e =
        let (q, k) = (each_lawful (entry_form (length t)) (entry_l (length t)).ok (entry_l (length t)).law count).forth (drop at s) z e in
        let a = ap length q ∙ length-append (each_out (entry_form (length t)).write z.0) z.1 in
        let b = entries-bytes (length t) z.0 in
        let c = length-drop at s in
        let d : length z.0 ≡ count = k.0 in
        absurd (omega arith)

-- ---- a track: its target, its count of frames, the frames, its loop mode

module _ (t : List ℕ) {s : List ℕ} {at count first m k : ℕ} {o : Option Refusal} (h : HeadStands (length t) s at count first)
    (r : Reads (each (entry_form (length t)) count) (frames_view t) s first (count, o) m)
    {X : Type 0} {f : Option LoopSpec → X} {v : X} (q : Reads (opt loop_form) f s m v k) where
  track : {p : Option Refusal}
      → ((x : KeyframeSpec KeyframeTime) → length x.frames ≡ count → validate_frames t [] x.frames ≡ o → validate_keyframes t x ≡ p)
      → Reads (keyframes_form (length t)) (validate_keyframes t) s at p k
  track g =
      through to_keyframes of_keyframes
      (seen (h.target_at & counted length (each (entry_form (length t))) h.count_at r & q)
      (λ x e. g (to_keyframes x) (λ i. (e i).1.0.0) (λ i. (e i).1.0.1)))

  pub few : count < 2 → Reads (keyframes_form (length t)) (validate_keyframes t) s at (some TooFewFrames) k
  unfolding validate_keyframes first
  few l = track (λ x e p. rw (e, lt-ltb count 2 l))

  pub enough : 2 ≤ count → Reads (keyframes_form (length t)) (validate_keyframes t) s at o k
  unfolding validate_keyframes first
  enough l = track (λ x e p. rw (e, le-ltb count 2 l) p)
