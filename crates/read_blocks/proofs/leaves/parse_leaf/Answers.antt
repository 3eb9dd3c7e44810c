-- `read_blocks::leaves::parse_leaf` meets its contract.
use mathlib.Core.Path.{refl}
use Rattle.grammar.specs.Grammar.{leaves, parse_tween, parse_spring, parse_keyframes, parse_path, parse_morph}
use Rattle.grammar.specs.Grammar.{parse_draw, parse_color, parse_waveform, parse_preset_call, parse_label}
use Rattle.read_node.proofs.StepLaws.{past}
use Rattle.read_blocks.proofs.LeafLaws.{row_at, last_row}
use Rattle.read_blocks.proofs.leaves.parse_leaf.Goals as goal

pub returns-in-0 : goal.returns-in-0
unfolding leaves
returns-in-0 c = row_at 0 ("tween", parse_tween) refl c.in-0.is c.parse_tween.ensures

pub returns-in-1 : goal.returns-in-1
unfolding leaves
returns-in-1 c = row_at 1 ("spring", parse_spring) refl c.in-1.is c.parse_spring.ensures

pub returns-in-2 : goal.returns-in-2
unfolding leaves
returns-in-2 c = row_at 2 ("keyframes", parse_keyframes) refl c.in-2.is c.parse_keyframes.ensures

pub returns-in-3 : goal.returns-in-3
unfolding leaves
returns-in-3 c = row_at 3 ("path", parse_path) refl c.in-3.is c.parse_path.ensures

pub returns-in-4 : goal.returns-in-4
unfolding leaves
returns-in-4 c = row_at 4 ("morph", parse_morph) refl c.in-4.is c.parse_morph.ensures

pub returns-in-5 : goal.returns-in-5
unfolding leaves
returns-in-5 c = row_at 5 ("draw", parse_draw) refl c.in-5.is c.parse_draw.ensures

pub returns-in-6 : goal.returns-in-6
unfolding leaves
returns-in-6 c = row_at 6 ("color", parse_color) refl c.in-6.is c.parse_color.ensures

pub returns-in-7 : goal.returns-in-7
unfolding leaves
returns-in-7 c = row_at 7 ("waveform", parse_waveform) refl c.in-7.is c.parse_waveform.ensures

pub returns-in-8 : goal.returns-in-8
unfolding leaves
returns-in-8 c = row_at 8 ("preset", parse_preset_call) refl c.in-8.is c.parse_preset_call.ensures

pub returns-in-9 : goal.returns-in-9
unfolding leaves
returns-in-9 c = row_at 9 ("label", parse_label) refl c.in-9.is c.parse_label.ensures

pub returns-in_default : goal.returns-in_default
returns-in_default c = last_row (past 10 c.args.i c.in_default.in_default-own.rest) c.parse_at.ensures
