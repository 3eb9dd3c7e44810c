use Rattle.grammar.specs.Rule.{give}
use Rattle.ast.specs.Tree.{center_out, edges_in}
use Rattle.ast.specs.declared.StaggerPatternSpec.TheVariants.{CenterOut, EdgesIn}
use Rattle.read_heads.specs.declared.PatternRead.TheVariants.{Is}
use Rattle.read_heads.proofs.HeadLaws.{any_pattern, by_pattern}
use native.Mathlib.Omega.{arith}
use Rattle.grammar.specs.Grammar.{grid_pattern, patterns, random_pattern}
use mathlib.Core.Path.{refl}
use Rattle.read_cursor.proofs.CursorLaws.{stays}
use Rattle.read_heads.proofs.named_pattern.Goals as goal

pub returns-in-0 : goal.returns-in-0
unfolding patterns
returns-in-0 c =
    let args = c.args in
    by_pattern args.text.now args.c args.i c.grid_pattern.result (
      λ z. any_pattern args.text.now args.c grid_pattern c.grid_pattern.result c.grid_pattern.ensures,
      (λ z. absurd (omega arith), (λ z. absurd (omega arith), (λ z. absurd (omega arith), tt))),
    )

pub returns-in-1 : goal.returns-in-1
unfolding patterns
returns-in-1 c =
    let args = c.args in
    by_pattern args.text.now args.c args.i c.random_pattern.result (
      λ z. absurd (omega arith),
      (
        λ z. any_pattern args.text.now args.c random_pattern c.random_pattern.result c.random_pattern.ensures,
        (λ z. absurd (omega arith), (λ z. absurd (omega arith), tt)),
      ),
    )

pub returns-in-2 : goal.returns-in-2
unfolding patterns
returns-in-2 c =
    let args = c.args in
    by_pattern args.text.now args.c args.i (Is CenterOut args.c) (
      λ z. absurd (omega arith),
      (
        λ z. absurd (omega arith),
        (λ z. (stays args.text.now args.c c.requires (give center_out) center_out refl, tt), (λ z. absurd (omega arith), tt)),
      ),
    )

pub returns-in_default : goal.returns-in_default
unfolding patterns
returns-in_default c =
    let args = c.args in
    by_pattern args.text.now args.c args.i (Is EdgesIn args.c) (
      λ z. absurd (omega arith),
      (
        λ z. absurd (omega arith),
        (λ z. absurd (omega arith), (λ z. (stays args.text.now args.c c.requires (give edges_in) edges_in refl, tt), tt)),
      ),
    )
