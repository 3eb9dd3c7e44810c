-- `read_spring::damping_step` meets its contract.
use Rattle.read_node.proofs.StepLaws.{step_refused, a_damping_lem}
use mathlib.Core.Path.{refl}
use Prim.Native.Nat.{ℕ}
use native.Mathlib.Omega.{arith}
use Rattle.ast.specs.Tree as tree
use Rattle.text.specs.Bytes.{same}
use Rattle.grammar.specs.Fields.{a_damping}
use Rattle.grammar.specs.Values.{parse_float_in_parens, parse_two_floats_in_parens}
use Rattle.grammar.specs.Grammar.{spring_fields, critical_damping, over_damping, under_damping}
use Rattle.read_spring.proofs.damping_step.Goals as goal

pub returns-in-Refused : goal.returns-in-Refused
unfolding spring_fields critical_damping
returns-in-Refused c =
    step_refused 7 "critically_damped" (λ l. c.in-7.is) parse_float_in_parens (λ s. a_damping (tree.critically_damped s)) refl
    (rw c.in-Refused.is at c.parse_float_in_parens.ensures)

pub returns-in-Is : goal.returns-in-Is
unfolding spring_fields same critical_damping
returns-in-Is c =
    let t = rw c.in-Is.is at c.parse_float_in_parens.ensures in
    a_damping_lem 7 "critically_damped" (λ l. c.in-7.is) parse_float_in_parens (λ (s : ℕ). tree.critically_damped s) 7 _ _ refl refl
    refl refl t.0 t.1

pub returns-in-Refused-parse_two_floats_in_parens : goal.returns-in-Refused-parse_two_floats_in_parens
unfolding spring_fields over_damping
returns-in-Refused-parse_two_floats_in_parens c =
    step_refused 8 "overdamped" (λ l. c.in-8.is) parse_two_floats_in_parens (λ p. a_damping (tree.overdamped p.0 p.1)) refl
    (rw c.in-Refused-parse_two_floats_in_parens.is at c.parse_two_floats_in_parens.ensures)

pub returns-in-Is-parse_two_floats_in_parens : goal.returns-in-Is-parse_two_floats_in_parens
unfolding spring_fields same over_damping
returns-in-Is-parse_two_floats_in_parens c =
    let t = rw c.in-Is-parse_two_floats_in_parens.is at c.parse_two_floats_in_parens.ensures in
    a_damping_lem 8 "overdamped" (λ l. c.in-8.is) parse_two_floats_in_parens (λ (p : ℕ × ℕ). tree.overdamped p.0 p.1) 7 _ _ refl
    refl refl refl t.took (t.first, t.second)

pub returns-in-Refused-parse_two_floats_in_parens-2 : goal.returns-in-Refused-parse_two_floats_in_parens-2
unfolding spring_fields under_damping
returns-in-Refused-parse_two_floats_in_parens-2 c =
    step_refused 9 "underdamped"
    (λ l. omega (arith, l, c.requires.1))
    parse_two_floats_in_parens
    (λ p. a_damping (tree.underdamped p.0 p.1))
    refl
    (rw c.in-Refused-parse_two_floats_in_parens-2.is at c.parse_two_floats_in_parens-in_default.ensures)

pub returns-in-Is-parse_two_floats_in_parens-2 : goal.returns-in-Is-parse_two_floats_in_parens-2
unfolding spring_fields same under_damping
returns-in-Is-parse_two_floats_in_parens-2 c =
    let t = rw c.in-Is-parse_two_floats_in_parens-2.is at c.parse_two_floats_in_parens-in_default.ensures in
    a_damping_lem 9 "underdamped" (λ l. omega (arith, l, c.requires.1)) parse_two_floats_in_parens
    (λ (p : ℕ × ℕ). tree.underdamped p.0 p.1) 7 _ _ refl refl refl refl t.took (t.first, t.second)
