-- 02 (l): what holds of the heights, and of those that are drawn. They stay within the peak; the phase rotates them; half a period on the
-- sine and the triangle change their sign, and their first half is its own mirror image.
use mathlib.Core.Path.{◌≡◌, refl, sym, ◌∙◌, ap, subst}
use mathlib.Core.Bool.{cond}
use mathlib.Core.List.{List}
use Prim.Native.Nat.{ℕ, zero, suc, ◌+◌, ◌*◌, ◌-◌, ◌/◌, ◌%◌, ◌<◌, ◌≤◌}
use native.Mathlib.Omega.{arith}
use lib.Dec.{leb, ltb, eqb, ltb→lt, nltb→le, leb→le, nleb→lt}
use lib.IntN.{ℤ, pos, negsuc, neg_ℤ, nat_abs, ◌-ℤ◌, neg_ℤ-neg_ℤ, +ℤ_idl, +ℤ_idr}
use lib.ListN.{length, get_or, set}
use mathlib.Core.Logic.{◌⊎◌, inl, inr, ⊎_elim}
use Rattle.error.specs.declared.CheckAnswer.{CheckAnswer}
use Rattle.drawing.specs.Table.{table}
use lib.Seq.{get_or-set_same, get_or-set_other}
use Rattle.drawing.specs.Wave.{sine_at, triangle_at, quarter_of, folded, mirrored, sawtooth, square, height, filled, shifted, drawing}
use Rattle.drawing.proofs.WaveLaws as laws
use Rattle.drawing.proofs.WaveLaws.{either}

-- ---- range

near : (a b : ℕ) → a ≤ b + 32767 → b ≤ a + 32767 → nat_abs (pos a -ℤ pos b) ≤ 32767
near a zero h k = omega arith
near a (suc b) h k =
    either (ltb a (suc b)) (negsuc (suc b - suc a)) (pos (a - suc b)) (λ (z : ℤ). nat_abs z ≤ 32767)
    (λ t. omega (arith, ltb→lt a (suc b) t)) (λ t. omega (arith, nltb→le a (suc b) t))

fold-most : (p : ℕ) → p < 128 → folded p ≤ 64
unfolding folded
fold-most p h = either (leb p 64) p (128 - p) (λ (n : ℕ). n ≤ 64) (λ t. leb→le p 64 t) (λ t. omega (arith, nleb→lt p 64 t))

pub quarter_most : (kind p : ℕ) → p ≤ 64 → quarter_of kind p ≤ 32767
unfolding quarter_of
quarter_most kind p h =
    either (eqb kind 0) (sine_at p) (triangle_at p) (λ (n : ℕ). n ≤ 32767) (λ t. laws.sine_most p h) (λ t. laws.triangle-most p h)

mirrored-within : (kind p : ℕ) → p < 256 → nat_abs (mirrored kind p) ≤ 32767
unfolding mirrored
mirrored-within kind p h =
    either (ltb p 128) (pos (quarter_of kind (folded p)) -ℤ pos 0) (pos 0 -ℤ pos (quarter_of kind (folded (p - 128))))
    (λ (z : ℤ). nat_abs z ≤ 32767)
    (λ t. near (quarter_of kind (folded p)) 0 (omega (arith, quarter_most kind (folded p) (fold-most p (ltb→lt p 128 t)))) (omega arith))
    (λ t. near 0 (quarter_of kind (folded (p - 128))) (omega arith)
    (omega (arith, quarter_most kind (folded (p - 128)) (fold-most (p - 128) (omega (arith, nltb→le p 128 t))))))

sawtooth-within : (p : ℕ) → p < 256 → nat_abs (sawtooth p) ≤ 32767
unfolding sawtooth
sawtooth-within p h = near (65534 * p / 255) 32767 (omega arith) (omega arith)

square-within : (p : ℕ) → nat_abs (square p) ≤ 32767
unfolding square
square-within p =
    either (ltb p 128) (pos 32767 -ℤ pos 0) (pos 0 -ℤ pos 32767) (λ (z : ℤ). nat_abs z ≤ 32767)
    (λ t. near 32767 0 (omega arith) (omega arith)) (λ t. near 0 32767 (omega arith) (omega arith))

-- "peak 32,767", "down to -32,767"
pub within : (kind p : ℕ) → p < 256 → nat_abs (height kind p) ≤ 32767
unfolding height
within kind p h =
    either (eqb kind 1) (sawtooth p) (cond (eqb kind 2) (square p) (mirrored kind p)) (λ (z : ℤ). nat_abs z ≤ 32767)
    (λ t. sawtooth-within p h)
    (λ t. either (eqb kind 2) (square p) (mirrored kind p) (λ (z : ℤ). nat_abs z ≤ 32767)
    (λ u. square-within p) (λ u. mirrored-within kind p h))

-- ---- sign and mirror

zero_less : (n : ℕ) → pos 0 -ℤ pos n ≡ neg_ℤ (pos n -ℤ pos 0)
zero_less n = +ℤ_idl (neg_ℤ (pos n)) ∙ ap neg_ℤ (sym (+ℤ_idr (pos n)))

-- the sine's and the triangle's second half is the first with its sign changed
pub half : (kind p : ℕ) → p < 128 → mirrored kind (p + 128) ≡ neg_ℤ (mirrored kind p)
half kind p h =
    laws.down kind (p + 128) (omega arith)
    ∙ ap (λ (n : ℕ). pos 0 -ℤ pos (quarter_of kind (folded n))) (omega arith)
    ∙ zero_less (quarter_of kind (folded p))
    ∙ ap neg_ℤ (sym (laws.up kind p h))

pub half_period : (kind p : ℕ) → (kind ≡ 1 → ⊥) → (kind ≡ 2 → ⊥) → p < 128 → height kind (p + 128) ≡ neg_ℤ (height kind p)
half_period kind p n m h = laws.is_mirrored kind (p + 128) n m ∙ half kind p h ∙ ap neg_ℤ (sym (laws.is_mirrored kind p n m))

fold_back : (p : ℕ) → 0 < p → p ≤ 64 → folded (128 - p) ≡ p
unfolding folded
fold_back p g h =
    either (leb (128 - p) 64) (128 - p) (128 - (128 - p)) (λ (n : ℕ). n ≡ p) (λ t. omega (arith, leb→le (128 - p) 64 t)) (λ t. omega arith)

-- the second quarter is the first, mirrored
mirror : (kind p : ℕ) → 0 < p → p ≤ 64 → mirrored kind (128 - p) ≡ mirrored kind p
mirror kind p g h =
    laws.up kind (128 - p) (omega arith)
    ∙ ap (λ (n : ℕ). pos (quarter_of kind n) -ℤ pos 0) (fold_back p g h ∙ sym (laws.fold_low p h))
    ∙ sym (laws.up kind p (omega arith))

le_or_lt : (a b : ℕ) → (a ≤ b) ⊎ (b < a)
le_or_lt zero b = inl (omega arith)
le_or_lt (suc a) zero = inr (omega arith)
le_or_lt (suc a) (suc b) = ⊎_elim (λ h. inl (omega (arith, h))) (λ h. inr (omega (arith, h))) (le_or_lt a b)

-- the first half is its own mirror image
pub mirror_image : (kind p : ℕ) → (kind ≡ 1 → ⊥) → (kind ≡ 2 → ⊥) → 0 < p → p < 128 → height kind (128 - p) ≡ height kind p
mirror_image kind p n m g h =
    laws.is_mirrored kind (128 - p) n m ∙ ⊎_elim (mirror kind p g) later (le_or_lt p 64) ∙ sym (laws.is_mirrored kind p n m)
  where
    later : 64 < p → mirrored kind (128 - p) ≡ mirrored kind p
    later l = sym (mirror kind (128 - p) (omega arith) (omega arith)) ∙ ap (mirrored kind) (omega arith)

-- half a period on, round the period's end too
pub opposite : (kind p : ℕ) → (kind ≡ 1 → ⊥) → (kind ≡ 2 → ⊥) → p < 256 → height kind ((p + 128) % 256) ≡ neg_ℤ (height kind p)
opposite kind p n m h = ⊎_elim second first (le_or_lt 128 p)
  where
    first : p < 128 → height kind ((p + 128) % 256) ≡ neg_ℤ (height kind p)
    first l = ap (height kind) (omega arith) ∙ half_period kind p n m l

    second : 128 ≤ p → height kind ((p + 128) % 256) ≡ neg_ℤ (height kind p)
    second l =
        ap (height kind) (omega arith) ∙ sym (neg_ℤ-neg_ℤ (height kind (p - 128)))
        ∙ ap neg_ℤ (sym (half_period kind (p - 128) n m (omega arith)) ∙ ap (height kind) (omega arith))

-- ---- the phase

-- a shift by the phase is a rotation
pub rotates : (kind phase i : ℕ) → shifted kind phase i ≡ shifted kind 0 ((i + phase) % 256)
rotates kind phase i =
    laws.shifted_is kind phase i ∙ ap (height kind) (omega arith) ∙ sym (laws.shifted_is kind 0 ((i + phase) % 256))

-- ---- what is drawn

-- what a filled list holds: the numbers at the first places, and what it held behind them
pub holds : (f : ℕ → ℤ) (n : ℕ) (hs : List ℤ) (d : ℤ) (k : ℕ) → k < n → n ≤ length hs → get_or (filled f n hs) k d ≡ f k
holds f zero hs d k h l = absurd (omega arith)
holds f (suc n) hs d k h l =
    ap (λ (x : List ℤ). get_or x k d) (laws.one_more f n hs) ∙ ⊎_elim last (λ g. other g ∙ holds f n hs d k g (omega arith)) (le_or_lt n k)
  where
    room : n < length (filled f n hs)
    room = omega (arith, laws.length-filled f n hs)

    last : n ≤ k → get_or (set (filled f n hs) n (f n)) k d ≡ f k
    last g = subst (λ (m : ℕ). get_or (set (filled f n hs) n (f n)) m d ≡ f m) (omega arith) (get_or-set_same (filled f n hs) n (f n) d room)

    other : k < n → get_or (set (filled f n hs) n (f n)) k d ≡ get_or (filled f n hs) k d
    other g = get_or-set_other (filled f n hs) n k (f n) d (λ e. omega arith)

pub keeps : (f : ℕ → ℤ) (n : ℕ) (hs : List ℤ) (d : ℤ) (k : ℕ) → n ≤ k → get_or (filled f n hs) k d ≡ get_or hs k d
keeps f zero hs d k h = ap (λ (x : List ℤ). get_or x k d) (laws.none_filled f hs)
keeps f (suc n) hs d k h =
    ap (λ (x : List ℤ). get_or x k d) (laws.one_more f n hs)
    ∙ get_or-set_other (filled f n hs) n k (f n) d (λ e. omega arith) ∙ keeps f n hs d k (omega arith)

-- each height
pub drawn_at : (kind phase : ℕ) (hs : List ℤ) (d : ℤ) (k : ℕ) → kind < 4 → phase < 256 → 256 ≤ length hs → k < 256 →
    get_or (drawing kind phase hs).1 k d ≡ height kind ((k + phase) % 256)
drawn_at kind phase hs d k g h l m =
    ap (λ (x : CheckAnswer × List ℤ). get_or x.1 k d) (laws.is_drawn kind phase hs g h l)
    ∙ holds (shifted kind phase) 256 hs d k m l ∙ laws.shifted_is kind phase k

-- and what stays as lent
pub stays : (kind phase : ℕ) (hs : List ℤ) (d : ℤ) (k : ℕ) → kind < 4 → phase < 256 → 256 ≤ length hs → 256 ≤ k →
    get_or (drawing kind phase hs).1 k d ≡ get_or hs k d
stays kind phase hs d k g h l m =
    ap (λ (x : CheckAnswer × List ℤ). get_or x.1 k d) (laws.is_drawn kind phase hs g h l) ∙ keeps (shifted kind phase) 256 hs d k m

-- the period drawn at a phase is the one drawn at phase 0, rotated
pub rotation : (kind phase : ℕ) (hs : List ℤ) (d : ℤ) (k : ℕ) → kind < 4 → phase < 256 → 256 ≤ length hs → k < 256 →
    get_or (drawing kind phase hs).1 k d ≡ get_or (drawing kind 0 hs).1 ((k + phase) % 256) d
rotation kind phase hs d k g h l m =
    drawn_at kind phase hs d k g h l m ∙ ap (height kind) (omega arith)
    ∙ sym (drawn_at kind 0 hs d ((k + phase) % 256) g (omega arith) l (omega arith))

-- "peak 32,767", "down to -32,767"
pub drawn_within : (kind phase : ℕ) (hs : List ℤ) (d : ℤ) (k : ℕ) → kind < 4 → phase < 256 → 256 ≤ length hs → k < 256 →
    nat_abs (get_or (drawing kind phase hs).1 k d) ≤ 32767
drawn_within kind phase hs d k g h l m =
    subst (λ (z : ℤ). nat_abs z ≤ 32767) (sym (drawn_at kind phase hs d k g h l m)) (within kind ((k + phase) % 256) (omega arith))

-- the sine and the triangle, at any phase: the second half is the first with the other sign
pub drawn_half : (kind phase : ℕ) (hs : List ℤ) (d : ℤ) (k : ℕ) → kind < 4 → (kind ≡ 1 → ⊥) → (kind ≡ 2 → ⊥) → phase < 256 →
    256 ≤ length hs → k < 128 → get_or (drawing kind phase hs).1 (k + 128) d ≡ neg_ℤ (get_or (drawing kind phase hs).1 k d)
drawn_half kind phase hs d k g a b h l m =
    drawn_at kind phase hs d (k + 128) g h l (omega arith) ∙ ap (height kind) (omega arith)
    ∙ opposite kind ((k + phase) % 256) a b (omega arith) ∙ ap neg_ℤ (sym (drawn_at kind phase hs d k g h l (omega arith)))

-- the sine and the triangle, drawn from the period's start: the first half is its own mirror image
pub drawn_mirror : (kind : ℕ) (hs : List ℤ) (d : ℤ) (k : ℕ) → kind < 4 → (kind ≡ 1 → ⊥) → (kind ≡ 2 → ⊥) → 256 ≤ length hs → 0 < k →
    k < 128 → get_or (drawing kind 0 hs).1 (128 - k) d ≡ get_or (drawing kind 0 hs).1 k d
drawn_mirror kind hs d k g a b l p m =
    drawn_at kind 0 hs d (128 - k) g (omega arith) l (omega arith) ∙ ap (height kind) (omega arith)
    ∙ mirror_image kind k a b p m ∙ ap (height kind) (omega arith) ∙ sym (drawn_at kind 0 hs d k g (omega arith) l (omega arith))

-- "down to -32,767": sign after rounding, at the triangle's step 129; and the ends of the sawtooth
pub examples : (height 3 129 ≡ negsuc 510) × ((height 0 64 ≡ pos 32767) × ((height 0 192 ≡ negsuc 32766)
    × ((height 1 0 ≡ negsuc 32766) × ((height 1 255 ≡ pos 32767) × (height 0 1 ≡ pos 804)))))
unfolding height sawtooth square mirrored quarter_of sine_at triangle_at folded table
examples = (refl, (refl, (refl, (refl, (refl, refl)))))
