-- 02 (l), "Show the wave on the bench screen": the heights of one period, and drawing.
use Rattle.std.specs.Prelude.{ℕ, zero, suc, ◌+◌, ◌*◌, ◌-◌, ◌/◌, ◌%◌, cond, List, eqb, ltb, leb, ℤ, pos, ◌-ℤ◌, length, get_or, set}
use Rattle.drawing.specs.Table.{table}
use Rattle.error.specs.declared.Refusal.TheVariants as cause
use Rattle.error.specs.declared.CheckAnswer.{CheckAnswer}
use Rattle.error.specs.declared.CheckAnswer.TheVariants as answer

-- the sine: "Step p to 64 takes entry 16 times p"
unfoldable pub sine_at : ℕ → ℕ
sine_at p = get_or table (16 * p) 0

-- the triangle: "32,767 times p divided by 64, rounded down, for step p from 0 to 64"
unfoldable pub triangle_at : ℕ → ℕ
triangle_at p = 32767 * p / 64

-- the first quarter of either
unfoldable pub quarter_of : ℕ → ℕ → ℕ
quarter_of kind p = cond (eqb kind 0) (sine_at p) (triangle_at p)

-- the step of the first quarter that a step of the first half mirrors: "beyond, heights follow by mirror"
unfoldable pub folded : ℕ → ℕ
folded p = cond (leb p 64) p (128 - p)

-- "and sign, down to -32,767": the sign comes after the rounding
unfoldable pub mirrored : ℕ → ℕ → ℤ
mirrored kind p = cond (ltb p 128) (pos (quarter_of kind (folded p)) -ℤ pos 0) (pos 0 -ℤ pos (quarter_of kind (folded (p - 128))))

-- "65,534 times p divided by 255, rounded down, less 32,767"
unfoldable pub sawtooth : ℕ → ℤ
sawtooth p = pos (65534 * p / 255) -ℤ pos 32767

-- "32,767 for steps 0 to 127 and -32,767 after"
unfoldable pub square : ℕ → ℤ
square p = cond (ltb p 128) (pos 32767 -ℤ pos 0) (pos 0 -ℤ pos 32767)

-- the kinds as WaveformKind has them: 0 sine, 1 sawtooth, 2 square, 3 triangle; 4, noise, is not drawn
unfoldable pub height : ℕ → ℕ → ℤ
height kind p = cond (eqb kind 1) (sawtooth p) (cond (eqb kind 2) (square p) (mirrored kind p))

-- the first n places hold what f gives for each
unfoldable pub filled : (ℕ → ℤ) → ℕ → List ℤ → List ℤ
filled f zero hs = hs
filled f (suc n) hs = set (filled f n hs) n (f n)

-- "The drawn phase is a whole number of 256ths, added to the step modulo 256"
unfoldable pub shifted : ℕ → ℕ → ℕ → ℤ
shifted kind phase i = height kind ((i + phase) % 256)

-- "Refused: 41 for `noise`; then 42 for a phase of 256 or more; then 32 with place 0 for fewer than 256 lent heights"; a number that is no
-- kind is refused as noise is
unfoldable pub drawing : ℕ → ℕ → List ℤ → CheckAnswer × List ℤ
drawing kind phase hs =
    cond (leb 4 kind) (answer.Refused cause.NotDrawn 0, hs)
    (cond (leb 256 phase) (answer.Refused cause.PhaseTooLarge 0, hs)
    (cond (ltb (length hs) 256) (answer.Refused cause.OutputTooShort 0, hs)
    (answer.Accepted, filled (shifted kind phase) 256 hs)))
