-- 02 (f): in a tree, the pieces without a field that is written read to another tree.
use Prim.Native.Nat.{ℕ, zero, suc}
use mathlib.Core.Bool.{Bool, true, false}
use mathlib.Core.List.{List, [], ◌∷◌, ◌++◌}
use mathlib.Core.Logic.{◌≢◌}
use mathlib.Core.Option.{Option, none, some}
use mathlib.Core.Path.{◌≡◌, sym, subst}
use Rattle.digits.specs.Fewest.{form}
use Rattle.ast.specs.Tree.{LoopSpec, StaggerPatternSpec, Container, sequence, parallel, group, stagger}
use Rattle.pieces.specs.Pieces.{Piece}
use Rattle.pieces.specs.Means.{AllFit}
use Rattle.pieces.proofs.FitLaws.{all_fit_lem, fit_all}
use Rattle.fresh.specs.Meaning.{EasingSense, FrameSense, LeafSense, tween, spring, keyframes, path, morph, draw, color, waveform, preset}
use Rattle.fresh.specs.Meaning.{label, at, Sense, no_nodes, leaf, box}
use Rattle.fresh.specs.Fresh.{f32, easing, track_loop, more_frames, track, comma_if, at_value, leaf_word, leaf_body, opening, box_word}
use Rattle.fresh.specs.Fresh.{box_body, pieces, has_text, spell, mark}
use Rattle.fresh.specs.Reads.{Deep}
use Rattle.law_writable.proofs.Exact.{script-reads}
use Rattle.law_given_back.specs.Omitted.{LeftOut, Shorter, a_leaf, a_box, behind_leaf, inside, behind_box, NoneOmitted}
use Rattle.law_given_back.proofs.PutLaws.{Puts, ◌▹◌, one, nothing, f32_puts, loop_puts}
use Rattle.law_given_back.proofs.PutLaws.{easing_puts, pattern_puts, frame_puts, further}
use Rattle.law_given_back.proofs.OmitLaws.{field_puts, laid_puts, tweens_laid, springs_laid, paths_laid, morphs_laid, draws_laid}
use Rattle.law_given_back.proofs.OmitLaws.{colors_laid, waveforms_laid}

-- ---- nodes put their own pieces in front

more-frames_puts : (fs : List FrameSense) (o : Option LoopSpec) → Puts (more_frames fs o)
unfolding more_frames track_loop
more-frames_puts [] none = nothing
more-frames_puts [] (some m) = one ▹ one ▹ one ▹ loop_puts m
more-frames_puts (f ∷ fs) o = one ▹ frame_puts f ▹ more-frames_puts fs o

track_puts : (fs : List FrameSense) (o : Option LoopSpec) → Puts (track fs o)
unfolding track track_loop
track_puts [] none = nothing
track_puts [] (some m) = one ▹ one ▹ loop_puts m
track_puts (f ∷ fs) o = frame_puts f ▹ more-frames_puts fs o

comma_puts : (a : Option ℕ) (e : Option EasingSense) → Puts (comma_if a e)
unfolding comma_if
comma_puts none none = nothing
comma_puts none (some e) = one
comma_puts (some a) e = one

at_puts : (r : Bool) (b : ℕ) → Puts (at_value r b)
unfolding at_value
at_puts true b = one ▹ f32_puts b
at_puts false b = one

leaf_puts : (l : LeafSense) → Puts (leaf_body l)
unfolding leaf_body
leaf_puts (tween d) = laid_puts tweens_laid d
leaf_puts (spring d) = laid_puts springs_laid d
leaf_puts (keyframes d) = one ▹ one ▹ track_puts d.frames d.loop_mode ▹ one ▹ one
leaf_puts (path d) = laid_puts paths_laid d
leaf_puts (morph d) = laid_puts morphs_laid d
leaf_puts (draw d) = laid_puts draws_laid d
leaf_puts (color d) = laid_puts colors_laid d
leaf_puts (waveform d) = laid_puts waveforms_laid d
leaf_puts (preset d) =
    one ▹ comma_puts d.duration d.easing ▹ field_puts "duration" f32 f32_puts d.duration
    ▹ field_puts "easing" easing easing_puts d.easing ▹ one
leaf_puts (label x) = one ▹ one
leaf_puts (at d) = at_puts d.relative d.value ▹ one

opening_puts : (p : Option StaggerPatternSpec) (d : Option ℕ) → Puts (opening p d)
unfolding opening
opening_puts none none = nothing
opening_puts none (some d) = one ▹ one ▹ f32_puts d
opening_puts (some p) none = one ▹ one ▹ pattern_puts p
opening_puts (some p) (some d) = one ▹ one ▹ pattern_puts p ▹ one ▹ one ▹ one ▹ f32_puts d

box_puts : (b : Container) → Puts (box_body b)
unfolding box_body
box_puts sequence = nothing
box_puts parallel = nothing
box_puts (group m) = one
box_puts (stagger p d) = opening_puts p d

pieces_puts : (x : Sense) → Puts (pieces x)
unfolding pieces
pieces_puts no_nodes = nothing
pieces_puts (leaf l rest) = one ▹ leaf_puts l ▹ pieces_puts rest
pieces_puts (box b inner rest) = one ▹ box_puts b ▹ one ▹ pieces_puts inner ▹ one ▹ one ▹ pieces_puts rest

-- ---- another tree

another : (x y : Sense) → Shorter x y → y ≢ x
another _ _ (a_leaf l m rest w s) = λ e. s.0 cc
another _ _ (a_box b c inner rest w s) = λ e. s.0 cc
another _ _ (behind_leaf l x y s) = λ e. another x y s cc
another _ _ (inside b x y rest s) = λ e. another x y s cc
another _ _ (behind_box b inner x y s) = λ e. another x y s cc

left : (x y : Sense) → Shorter x y → (us : List Piece) → LeftOut (pieces x us) (pieces y us)
unfolding pieces
left _ _ (a_leaf l m rest w s) us =
    subst (λ n. LeftOut (spell (leaf_word l) ∷ leaf_body l (pieces rest us)) (spell n ∷ leaf_body m (pieces rest us))) w
    (further one (s.1 (pieces rest us)))
left _ _ (a_box b c inner rest w s) us =
    let ps = inner-pieces inner rest us in
    subst (λ n. LeftOut (spell (box_word b) ∷ box_body b ps) (spell n ∷ box_body c ps)) w (further one (s.1 ps))
  where
    inner-pieces : Sense → Sense → List Piece → List Piece
    inner-pieces inner rest us = mark "{" ∷ pieces inner (mark "}" ∷ mark ";" ∷ pieces rest us)
left _ _ (behind_leaf l x y s) us = further (one ▹ leaf_puts l) (left x y s us)
left _ _ (inside b x y rest s) us = further (one ▹ box_puts b ▹ one) (left x y s (mark "}" ∷ mark ";" ∷ pieces rest us))
left _ _ (behind_box b inner x y s) us =
    further (one ▹ box_puts b ▹ one ▹ pieces_puts inner ▹ one ▹ one) (left x y s us)

-- ---- which its pieces read to

deep : (d : ℕ) (x y : Sense) → Shorter x y → Deep d x → Deep d y
deep d _ _ (a_leaf l m rest w s) h = h
deep d _ _ (a_box b c inner rest w s) h = h
deep d _ _ (behind_leaf l x y s) h = deep d x y s h
deep zero _ _ (inside b x y rest s) h = absurd h.0
deep (suc d) _ _ (inside b x y rest s) h = (deep d x y s h.0, h.1)
deep d _ _ (behind_box b inner x y s) h = (h.0, deep d x y s h.1)

still_fit : (before run behind : List Piece) → AllFit form (before ++ (run ++ behind)) → AllFit form (before ++ behind)
still_fit [] [] behind h = h
still_fit [] (p ∷ run) behind h = still_fit [] run behind h.1
still_fit (p ∷ before) run behind h = (h.0, still_fit before run behind h.1)

still_has : (x y : Sense) → Shorter x y → has_text form x ≡ true → has_text form y ≡ true
still_has x y s h =
    let o = left x y s [] in
    fit_all form (pieces y [])
    (subst (AllFit form) (sym o.rest)
    (still_fit o.before (o.first ∷ o.more) o.behind (subst (AllFit form) o.whole (all_fit_lem form (pieces x []) h))))

pub none_omitted : NoneOmitted
none_omitted x y s h e = record {
  shortens = (another x y s, left x y s);
  reads = script-reads form y (deep 16 x y s h) (still_has x y s e);
}
