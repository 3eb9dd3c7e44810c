-- Frames: what reading the parts of one gives, and a walk over many that counts their numbers.
use Rattle.std.proofs.Common.{◌≡◌, ℕ, zero, suc, ◌+◌, ◌-◌, ◌%◌, ◌^◌, ◌<◌, ◌≤◌, Bool, cond, ◌⊎◌, List, ◌∷◌, ◌++◌, length, refl, ap, ◌∙◌, inl, inr, ⊎_elim, arith, length-append}
use Rattle.codec.specs.Codec.{below, big, each}
use Rattle.ast.specs.Tree.{ValueExpr, scalar, array, KeyframeTime, KeyframeEntry}
use Rattle.sheet_decode.specs.Means.{Reads, Number, passed}
use Rattle.sheet_decode.proofs.ReadLaws as laws
use Rattle.sheet.specs.Sheet.{times_of, split_time_of, time_form_of, entry_form_of}
use Rattle.planed.specs.Planes.{entry_numbers, value_numbers, frame_numbers}
use Rattle.sheet_shape.specs.Means.{is_scalar, scalar_frame, wrapped, frame_tally}

zero_or_one : (b : ℕ) → b < 2 → (b ≡ 0) ⊎ (b ≡ 1)
zero_or_one zero h = inl refl
zero_or_one (suc zero) h = inr refl
zero_or_one (suc (suc b)) h = absurd (no b h)
  where
    no : (b : ℕ) → suc (suc b) < 2 → ⊥
    no b h = omega arith

-- a time, either case
pub time-read : {X : Type 0} (w : ℕ) {f : ℕ → X} {s : List ℕ} {at b m k : ℕ} {v : X} → Number (below 2) 2 s at b m → Reads (big w) f s m v k
    → Reads (time_form_of w) passed s at tt k
time-read w r q =
    ⊎_elim (λ e. laws.chosen (times_of w) (split_time_of w) 0 r.reads e q (λ x h. refl))
    (λ e. laws.chosen (times_of w) (split_time_of w) 1 r.reads e q (λ x h. refl)) (zero_or_one _ r.small)

-- ---- sums that wrap

pub wrap_none : (x v : ℕ) → wrapped x ≡ v → wrapped x ≡ wrapped (0 + v)
wrap_none x v e = omega arith

pub wrap_sum : (a b x y : ℕ) → wrapped x ≡ a → wrapped y ≡ b → wrapped (x + y) ≡ wrapped (a + b)
wrap_sum a b x y e g = omega arith

pub wrap_assoc : (t c v u : ℕ) → u ≡ wrapped (t + c) → wrapped (t + wrapped (c + v)) ≡ wrapped (u + v)
wrap_assoc t c v u e = omega arith

pub wrap_small : (t : ℕ) → t < 2 ^ 64 → wrapped (t + 0) ≡ t
wrap_small t h = omega arith

pub wrap_lt : (t u : ℕ) → u ≡ t % 2 ^ 64 → u < 2 ^ 64
wrap_lt t u e = omega arith

-- ---- so many frames

frame_numbers_lem : (e : KeyframeEntry KeyframeTime) → length (entry_numbers e) ≡ cond (scalar_frame e) 2 1
frame_numbers_lem e = go e.value
  where
    go : (v : ValueExpr) → suc (length (value_numbers v)) ≡ cond (is_scalar v) 2 1
    go (scalar x) = refl
    go (array xs) = refl

more-frames : (b : Bool) (v : ℕ) (e : KeyframeEntry KeyframeTime) (es : List (KeyframeEntry KeyframeTime)) → scalar_frame e ≡ b
    → frame_tally es ≡ v → frame_tally (e ∷ es) ≡ wrapped (cond b 2 1 + v)
unfolding frame_tally frame_numbers
more-frames b v e es h g =
    let c = frame_numbers_lem e ∙ ap (λ (t : Bool). cond t 2 1) h in
    let l = length-append (entry_numbers e) (frame_numbers es) in
    count (length (entry_numbers e ++ frame_numbers es)) (length (entry_numbers e)) (length (frame_numbers es)) (cond b 2 1) v c l g
  where
    count : (z x y c v : ℕ) → x ≡ c → z ≡ x + y → wrapped y ≡ v → wrapped z ≡ wrapped (c + v)
    count z x y c v e l g = omega arith

module _ (w n : ℕ) (s : List ℕ) (at count : ℕ) where
  -- behind k of them, of t numbers, at the place a
  abbrev pub Frames : ℕ → ℕ → ℕ → Type 0
  Frames a k t =
      (m v : ℕ) → Reads (each (entry_form_of w n) (count - k)) frame_tally s a v m
      → Reads (each (entry_form_of w n) count) frame_tally s at (wrapped (t + v)) m

  pub frames-start : Frames at 0 0
  unfolding frame_tally
  frames-start m v r =
      let e : count - 0 ≡ count = omega arith in
      rw e at (laws.seen r (λ es h. wrap_none (length (frame_numbers es)) v h))

  pub frames-next : (a k b t u : ℕ) (c : Bool) → k < count → Reads (entry_form_of w n) scalar_frame s a c b → u ≡ wrapped (t + cond c 2 1)
      → Frames a k t → Frames b (k + 1) u
  frames-next a k b t u c l r h f m v q =
      let e : count - k ≡ suc (count - (k + 1)) = omega arith in
      laws.seen (f m (wrapped (cond c 2 1 + v)) (rw e (laws.each_next (count - (k + 1)) frame_tally r q (more-frames c v))))
      (λ es g. g ∙ wrap_assoc t (cond c 2 1) v u h)

  pub frames_done : (a k t : ℕ) → count ≤ k → t < 2 ^ 64 → Frames a k t → Reads (each (entry_form_of w n) count) frame_tally s at t a
  unfolding frame_tally frame_numbers
  frames_done a k t l h f =
      let e : count - k ≡ 0 = omega arith in
      laws.seen (f a 0 (rw e (laws.each_none (entry_form_of w n) frame_tally s a))) (λ es g. g ∙ wrap_small t h)
