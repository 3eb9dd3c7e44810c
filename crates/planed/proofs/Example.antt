-- One computed example, made by the model of document 02.
use Prim.Native.Nat.{ℕ}
use mathlib.Core.List.{List, [], ◌∷◌}
use mathlib.Core.Option.{Option, none, some}
use mathlib.Core.Path.{◌≡◌, refl}
use Rattle.sheet.specs.Sheet.{Forest, encode, decode}
use Rattle.planed.specs.Planes.{planed, unplaned, numbers_of, filled, frame_numbers, fill_frames}

abbrev through : (Forest → List ℕ) → Option Forest → List ℕ
through f none = []
through f (some ns) = f ns

pub planes_so : through (planed 8)
    (decode 8
    (0 ∷ 2 ∷ 3 ∷ 0 ∷ 0 ∷ 0 ∷ 1 ∷ 2 ∷ 0 ∷ 1 ∷ 0 ∷ 0 ∷ 0 ∷ 1
    ∷ 0 ∷ 3 ∷ 0 ∷ 63 ∷ 0 ∷ 0 ∷ 0 ∷ 0 ∷ 127 ∷ 192 ∷ 0 ∷ 1
    ∷ 0 ∷ 1 ∷ 64 ∷ 73 ∷ 15 ∷ 219 ∷ 1 ∷ 0 ∷ 1 ∷ 64 ∷ 160
    ∷ 0 ∷ 0 ∷ 1 ∷ 2 ∷ 0 ∷ 0 ∷ 0 ∷ 3 ∷ 1 ∷ 1 ∷ 2 ∷ 3 ∷ 4
    ∷ 0 ∷ 255 ∷ 254 ∷ 253 ∷ 252 ∷ 0 ∷ 1 ∷ 1 ∷ 0 ∷ 0 ∷ 0
    ∷ 7 ∷ 14 ∷ 0 ∷ 2 ∷ 63 ∷ 0 ∷ 0 ∷ 0 ∷ 0 ∷ []))
    ≡ 0 ∷ 2 ∷ 3 ∷ 0 ∷ 0 ∷ 0 ∷ 1 ∷ 2 ∷ 0 ∷ 1 ∷ 0 ∷ 0 ∷ 0 ∷ 1
    ∷ 0 ∷ 3 ∷ 0 ∷ 0 ∷ 0 ∷ 1 ∷ 1 ∷ 0 ∷ 1 ∷ 64 ∷ 160 ∷ 0 ∷ 0
    ∷ 1 ∷ 2 ∷ 0 ∷ 0 ∷ 0 ∷ 3 ∷ 1 ∷ 0 ∷ 0 ∷ 1 ∷ 1 ∷ 0 ∷ 0
    ∷ 0 ∷ 7 ∷ 14 ∷ 0 ∷ 2 ∷ 63 ∷ 0 ∷ 0 ∷ 0 ∷ 0 ∷ 63 ∷ 127
    ∷ 64 ∷ 1 ∷ 255 ∷ 0 ∷ 192 ∷ 73 ∷ 2 ∷ 254 ∷ 0 ∷ 0 ∷ 15
    ∷ 3 ∷ 253 ∷ 0 ∷ 1 ∷ 219 ∷ 4 ∷ 252 ∷ []
unfolding planed decode numbers_of frame_numbers
planes_so = refl

pub unplanes_so : through (encode 8)
    (unplaned 8
    (0 ∷ 2 ∷ 3 ∷ 0 ∷ 0 ∷ 0 ∷ 1 ∷ 2 ∷ 0 ∷ 1 ∷ 0 ∷ 0 ∷ 0 ∷ 1
    ∷ 0 ∷ 3 ∷ 0 ∷ 0 ∷ 0 ∷ 1 ∷ 1 ∷ 0 ∷ 1 ∷ 64 ∷ 160 ∷ 0 ∷ 0
    ∷ 1 ∷ 2 ∷ 0 ∷ 0 ∷ 0 ∷ 3 ∷ 1 ∷ 0 ∷ 0 ∷ 1 ∷ 1 ∷ 0 ∷ 0
    ∷ 0 ∷ 7 ∷ 14 ∷ 0 ∷ 2 ∷ 63 ∷ 0 ∷ 0 ∷ 0 ∷ 0 ∷ 63 ∷ 127
    ∷ 64 ∷ 1 ∷ 255 ∷ 0 ∷ 192 ∷ 73 ∷ 2 ∷ 254 ∷ 0 ∷ 0 ∷ 15
    ∷ 3 ∷ 253 ∷ 0 ∷ 1 ∷ 219 ∷ 4 ∷ 252 ∷ []))
    ≡ 0 ∷ 2 ∷ 3 ∷ 0 ∷ 0 ∷ 0 ∷ 1 ∷ 2 ∷ 0 ∷ 1 ∷ 0 ∷ 0 ∷ 0 ∷ 1
    ∷ 0 ∷ 3 ∷ 0 ∷ 63 ∷ 0 ∷ 0 ∷ 0 ∷ 0 ∷ 127 ∷ 192 ∷ 0 ∷ 1
    ∷ 0 ∷ 1 ∷ 64 ∷ 73 ∷ 15 ∷ 219 ∷ 1 ∷ 0 ∷ 1 ∷ 64 ∷ 160
    ∷ 0 ∷ 0 ∷ 1 ∷ 2 ∷ 0 ∷ 0 ∷ 0 ∷ 3 ∷ 1 ∷ 1 ∷ 2 ∷ 3 ∷ 4
    ∷ 0 ∷ 255 ∷ 254 ∷ 253 ∷ 252 ∷ 0 ∷ 1 ∷ 1 ∷ 0 ∷ 0 ∷ 0
    ∷ 7 ∷ 14 ∷ 0 ∷ 2 ∷ 63 ∷ 0 ∷ 0 ∷ 0 ∷ 0 ∷ []
unfolding unplaned encode numbers_of frame_numbers filled fill_frames
unplanes_so = refl
