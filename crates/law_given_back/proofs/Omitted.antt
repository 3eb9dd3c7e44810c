-- 02 (f): nothing that could be omitted is written.
use Prim.Native.Nat.{ℕ, zero, suc}
use Prim.Native.String.{String}
use mathlib.Core.Bool.{Bool, true, false}
use mathlib.Core.List.{List, [], ◌∷◌}
use mathlib.Core.Option.{Option, none, some}
use mathlib.Core.Path.{◌≡◌, refl, ap}
use borrow.Author.Tests.{ne_eqb, eq-eqb}
use lib.Dec.{eqb}
use Rattle.text.specs.Words.{default}
use Rattle.ast.specs.Tree.{LoopSpec, StaggerPatternSpec}
use Rattle.grammar.specs.Values.{strength_default, points_default, ratio_default, power_default}
use Rattle.grammar.specs.Grammar.{seed_default, min_default, max_default}
use Rattle.pieces.specs.Pieces.{Piece}
use Rattle.fresh.specs.Meaning.{EasingSense, FrameSense}
use Rattle.fresh.specs.Fresh as pieces
use Rattle.fresh.specs.Fresh.{Writer, mark, f32, u32, Pair, more_pairs, pairs, easing, field, choose, frame_easing, frame}
use Rattle.grammar.specs.Grammar.{origin_names}
use Rattle.fresh.specs.Fresh.{track_loop, more_frames, track, comma_if, leaf_body, pattern, opening, box_body}
use Rattle.law_given_back.specs.Omitted.{Slot, Values, Differs, Given, without, tracks, presets, frames, staggers}
use Rattle.law_given_back.specs.Omitted.{roughs, slow_mos, grids, randoms, LeftOut, OmitsAll}
use Rattle.law_given_back.proofs.PutLaws.{Puts, ◌▹◌, one, starts, f32_puts, u32_puts, value_puts, PairPuts, loop_puts, choose_puts}
use Rattle.law_given_back.proofs.PutLaws.{easing_some, easing_puts, pattern_puts, time_puts, frame_puts, drops, further}
use Rattle.law_given_back.proofs.OmitLaws.{Made, Leaves, omits, field_puts, field_some}
use Rattle.law_given_back.proofs.OmitLaws.{laid_omits, tweens_laid, springs_laid, paths_laid}
use Rattle.law_given_back.proofs.OmitLaws.{morphs_laid, draws_laid, colors_laid, waveforms_laid}

-- ---- a preset's fields, behind a comma

preset_leaves : Leaves leaf_body presets
unfolding leaf_body comma_if field
preset_leaves d i g us = further one (go d.duration d.easing i g)
  where
    ps : List Piece
    ps = mark ";" ∷ us

    go : (a : Option ℕ) (e : Option EasingSense) (i : ℕ) → Given presets.slots i (a, (e, tt))
        → let v = without presets.slots i (a, (e, tt)) in
        LeftOut (comma_if a e (field "duration" f32 a (field "easing" easing e ps)))
        (comma_if v.0 v.1.0 (field "duration" f32 v.0 (field "easing" easing v.1.0 ps)))
    go none e zero g = absurd (g refl)
    go (some a) none zero g = drops (starts (field_puts "duration" f32 f32_puts (some a))) ps
    go (some a) (some e) zero g = further one (drops (field_some "duration" f32 a (f32_puts a)) (field "easing" easing (some e) ps))
    go none none (suc zero) g = absurd (g refl)
    go (some a) none (suc zero) g = absurd (g refl)
    go none (some e) (suc zero) g = drops (starts (field_puts "easing" easing easing_puts (some e))) ps
    go (some a) (some e) (suc zero) g =
        further (one ▹ field_puts "duration" f32 f32_puts (some a)) (drops (field_some "easing" easing e (easing_puts e)) ps)
    go none e (suc (suc i)) g = absurd g
    go (some a) e (suc (suc i)) g = absurd g

-- ---- a track's loop mode, and a frame's easing

module _ (m : LoopSpec) (ps : List Piece) where
  more_left : (fs : List FrameSense) → LeftOut (more_frames fs (some m) ps) (more_frames fs none ps)
  unfolding more_frames track_loop
  more_left [] = drops (starts (one ▹ one ▹ loop_puts m)) ps
  more_left (f ∷ fs) = further (one ▹ frame_puts f) (more_left fs)

  track_left : (fs : List FrameSense) → LeftOut (track fs (some m) ps) (track fs none ps)
  unfolding track track_loop
  track_left [] = drops (starts (one ▹ loop_puts m)) ps
  track_left (f ∷ fs) = further (frame_puts f) (more_left fs)

track-leaves : Leaves leaf_body tracks
unfolding leaf_body
track-leaves d i g us = further (one ▹ one) (go d.loop_mode i g)
  where
    ps : List Piece
    ps = mark "}" ∷ mark ";" ∷ us

    go : (o : Option LoopSpec) (i : ℕ) → Given tracks.slots i (o, tt)
        → LeftOut (track d.frames o ps) (track d.frames (without tracks.slots i (o, tt)).0 ps)
    go none zero g = absurd (g refl)
    go (some m) zero g = track_left m ps d.frames
    go none (suc i) g = absurd g
    go (some m) (suc i) g = absurd g

frame-leaves : Leaves frame frames
unfolding frame frame_easing
frame-leaves d i g us = further (time_puts d.time ▹ one ▹ value_puts d.value) (go d.easing i g)
  where
    go : (o : Option EasingSense) (i : ℕ) → Given frames.slots i (o, tt)
        → LeftOut (frame_easing o us) (frame_easing (without frames.slots i (o, tt)).0 us)
    go none zero g = absurd (g refl)
    go (some e) zero g = drops (easing_some e) us
    go none (suc i) g = absurd g
    go (some e) (suc i) g = absurd g

-- ---- a stagger's pattern and delay

stagger_leaves : Leaves box_body staggers
unfolding box_body opening
stagger_leaves d i g us = go d.0 d.1 i g
  where
    go : (p : Option StaggerPatternSpec) (a : Option ℕ) (i : ℕ) → Given staggers.slots i (p, (a, tt))
        → let v = without staggers.slots i (p, (a, tt)) in LeftOut (opening p a us) (opening v.0 v.1.0 us)
    go none a zero g = absurd (g refl)
    go (some p) none zero g = drops (starts (one ▹ pattern_puts p)) us
    go (some p) (some a) zero g = drops (starts (one ▹ pattern_puts p ▹ one)) (opening none (some a) us)
    go none none (suc zero) g = absurd (g refl)
    go (some p) none (suc zero) g = absurd (g refl)
    go none (some a) (suc zero) g = drops (starts (one ▹ f32_puts a)) us
    go (some p) (some a) (suc zero) g =
        further (one ▹ one ▹ pattern_puts p) (drops (starts (one ▹ one ▹ f32_puts a)) us)
    go none a (suc (suc i)) g = absurd g
    go (some p) a (suc (suc i)) g = absurd g

-- ---- fields in parentheses

record PairField : Type 0 where
  name : String
  write : ℕ → Writer
  own : (n : ℕ) → Puts (write n)
  absent : Option ℕ

abbrev slots_of : List PairField → List Slot
slots_of [] = []
slots_of (p ∷ ps) = record { Value = ℕ; absent = p.absent } ∷ slots_of ps

abbrev omitted : Option ℕ → ℕ → Bool
omitted none n = false
omitted (some d) n = eqb n d

abbrev pairs_of : (ps : List PairField) → Values (slots_of ps) → List Pair
pairs_of [] v = []
pairs_of (p ∷ ps) v = pieces.unless (omitted p.absent v.0) (p.name, p.write v.0) (pairs_of ps v.1)

-- a field that differs from what its absence reads to is there, and is not there with that
stands : (o : Option ℕ) (n : ℕ) → Differs o n → (omitted o n ≡ false) × (omitted o (default o n) ≡ true)
stands none n g = absurd g
stands (some d) n g = (ne_eqb n d g, eq-eqb d d refl)

first_left : (f : Pair) → PairPuts f → (fs : List Pair) (us : List Piece) → LeftOut (pairs (f ∷ fs) us) (pairs fs us)
unfolding pairs more_pairs
first_left f h [] us = drops (starts (one ▹ h)) us
first_left f h (g ∷ gs) us = drops (starts (one ▹ h ▹ one)) (pairs (g ∷ gs) us)

more-pairs_left : (ps : List PairField) (i : ℕ) (v : Values (slots_of ps)) → Given (slots_of ps) i v → (us : List Piece)
    → LeftOut (more_pairs (pairs_of ps v) us) (more_pairs (pairs_of ps (without (slots_of ps) i v)) us)
unfolding more_pairs pieces.unless
more-pairs_left [] i v g us = absurd g
more-pairs_left (p ∷ ps) zero v g us =
    let e = stands p.absent v.0 g in
    rw (e.0, e.1) (drops (starts (one ▹ one ▹ p.own v.0)) (more_pairs (pairs_of ps v.1) us))
more-pairs_left (p ∷ ps) (suc i) v g us = go (omitted p.absent v.0) (more-pairs_left ps i v.1 g us)
  where
    fs : List Pair
    fs = pairs_of ps v.1

    gs : List Pair
    gs = pairs_of ps (without (slots_of ps) i v.1)

    go : (b : Bool) → LeftOut (more_pairs fs us) (more_pairs gs us)
        → LeftOut (more_pairs (pieces.unless b (p.name, p.write v.0) fs) us)
        (more_pairs (pieces.unless b (p.name, p.write v.0) gs) us)
    go true x = x
    go false x = further (one ▹ one ▹ one ▹ p.own v.0) x

pairs_left : (ps : List PairField) (i : ℕ) (v : Values (slots_of ps)) → Given (slots_of ps) i v → (us : List Piece)
    → LeftOut (pairs (pairs_of ps v) us) (pairs (pairs_of ps (without (slots_of ps) i v)) us)
unfolding pairs pieces.unless
pairs_left [] i v g us = absurd g
pairs_left (p ∷ ps) zero v g us =
    let e = stands p.absent v.0 g in
    rw (e.0, e.1) (first_left (p.name, p.write v.0) (p.own v.0) (pairs_of ps v.1) us)
pairs_left (p ∷ ps) (suc i) v g us =
    go (omitted p.absent v.0) (pairs_left ps i v.1 g us) (more-pairs_left ps i v.1 g us)
  where
    fs : List Pair
    fs = pairs_of ps v.1

    gs : List Pair
    gs = pairs_of ps (without (slots_of ps) i v.1)

    go : (b : Bool) → LeftOut (pairs fs us) (pairs gs us) → LeftOut (more_pairs fs us) (more_pairs gs us)
        → LeftOut (pairs (pieces.unless b (p.name, p.write v.0) fs) us) (pairs (pieces.unless b (p.name, p.write v.0) gs) us)
    go true x y = x
    go false x y = further (one ▹ one ▹ p.own v.0) y

abbrev a_float : String → Option ℕ → PairField
a_float s o = record { name = s; write = f32; own = f32_puts; absent = o }

abbrev a_count : String → Option ℕ → PairField
a_count s o = record { name = s; write = u32; own = u32_puts; absent = o }

rough_leaves : Leaves easing roughs
unfolding easing
rough_leaves d i g us =
    further (one ▹ one)
    (pairs_left (a_float "strength" (some strength_default) ∷ a_count "points" (some points_default) ∷ []) i (d.0, (d.1, tt)) g
    (mark ")" ∷ us))

slow_mo_leaves : Leaves easing slow_mos
unfolding easing
slow_mo_leaves d i g us =
    further (one ▹ one)
    (pairs_left (a_float "linear_ratio" (some ratio_default) ∷ a_float "power" (some power_default) ∷ []) i (d.0, (d.1, tt)) g
    (mark ")" ∷ us))

grid_leaves : Leaves pattern grids
unfolding pattern pieces.unless
grid_leaves d i g us =
    let origin : PairField = record { name = "origin"; write = choose origin_names; own = choose_puts origin_names; absent = some 4 } in
    further (one ▹ one)
    (pairs_left (a_count "cols" none ∷ a_count "rows" none ∷ origin ∷ []) i (d.0, (d.1, (d.2, tt))) g (mark ")" ∷ us))

random_leaves : Leaves pattern randoms
unfolding pattern
random_leaves d i g us =
    further (one ▹ one)
    (pairs_left (a_count "seed" (some seed_default) ∷ a_float "min" (some min_default) ∷ a_float "max" (some max_default) ∷ []) i
    (d.0, (d.1, (d.2, tt))) g (mark ")" ∷ us))

-- ---- what is made tells its parts

tracks_made : Made tracks
tracks_made = record {
  has = λ d v. refl;
  injective = λ d e q. let z : d ≡ e = cc in ap tracks.values z;
}

presets_made : Made presets
presets_made = record {
  has = λ d v. refl;
  injective = λ d e q. let z : d ≡ e = cc in ap presets.values z;
}

frames_made : Made frames
frames_made = record {
  has = λ d v. refl;
  injective = λ d e q. ap frames.values q;
}

staggers_made : Made staggers
staggers_made = record {
  has = λ d v. refl;
  injective = λ d e q. let a : d.0 ≡ e.0 = cc in let b : d.1 ≡ e.1 = cc in (λ i. (a i, (b i, tt)));
}

roughs_made : Made roughs
roughs_made = record {
  has = λ d v. refl;
  injective = λ d e q. let a : d.0 ≡ e.0 = cc in let b : d.1 ≡ e.1 = cc in (λ i. (a i, (b i, tt)));
}

slow_mos_made : Made slow_mos
slow_mos_made = record {
  has = λ d v. refl;
  injective = λ d e q. let a : d.0 ≡ e.0 = cc in let b : d.1 ≡ e.1 = cc in (λ i. (a i, (b i, tt)));
}

grids_made : Made grids
grids_made = record {
  has = λ d v. refl;
  injective = λ d e q.
      let a : d.0 ≡ e.0 = cc in let b : d.1 ≡ e.1 = cc in let c : d.2 ≡ e.2 = cc in (λ i. (a i, (b i, (c i, tt))));
}

randoms_made : Made randoms
randoms_made = record {
  has = λ d v. refl;
  injective = λ d e q.
      let a : d.0 ≡ e.0 = cc in let b : d.1 ≡ e.1 = cc in let c : d.2 ≡ e.2 = cc in (λ i. (a i, (b i, (c i, tt))));
}

-- ---- all of them

pub omits_all : OmitsAll
omits_all = record {
  of_tweens = laid_omits tweens_laid;
  of_springs = laid_omits springs_laid;
  of_tracks = omits leaf_body tracks_made track-leaves;
  of_paths = laid_omits paths_laid;
  of_morphs = laid_omits morphs_laid;
  of_draws = laid_omits draws_laid;
  of_colors = laid_omits colors_laid;
  of_waveforms = laid_omits waveforms_laid;
  of_presets = omits leaf_body presets_made preset_leaves;
  of_frames = omits frame frames_made frame-leaves;
  of_staggers = omits box_body staggers_made stagger_leaves;
  of_roughs = omits easing roughs_made rough_leaves;
  of_slow_mos = omits easing slow_mos_made slow_mo_leaves;
  of_grids = omits pattern grids_made grid_leaves;
  of_randoms = omits pattern randoms_made random_leaves;
}
