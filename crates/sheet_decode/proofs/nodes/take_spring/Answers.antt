-- `sheet_decode::nodes::take_spring` meets its contract: one field after the other.
use mathlib.Core.Path.{refl}
use Rattle.ast.specs.Means.{opt_case_view, opt_damping_view, opt_float_view, opt_value_view}
use Rattle.codec.specs.Codec.{below}
use Rattle.sheet.specs.Sheet.{damping_form, of_spring, to_spring, value_form, word}
use Rattle.sheet_decode.proofs.ReadLaws.{◌&◌}
use Rattle.sheet_decode.proofs.ReadLaws as laws
use Rattle.sheet_decode.proofs.nodes.take_spring.Goals as goal

pub returns : goal.returns
returns c =
    laws.through to_spring of_spring
    (laws.seen (c.take_span-target.ensures & c.take_value-from.ensures
    & c.take_value-to.ensures & laws.optional (below 5) opt_case_view refl (λ a. refl) c.take_opt-preset.ensures (λ m x r. search laws.given) & laws.optional word opt_float_view refl (λ a. refl) c.take_opt-stiffness.ensures (λ m x r. search laws.given)
    & laws.optional word opt_float_view refl (λ a. refl) c.take_opt-damping.ensures (λ m x r. search laws.given) & laws.optional word opt_float_view refl (λ a. refl) c.take_opt-mass.ensures (λ m x r. search laws.given)
    & laws.optional value_form opt_value_view refl (λ a. refl) c.take_opt-velocity.ensures (λ m x r. search laws.given)
    & laws.optional word opt_float_view refl (λ a. refl) c.take_opt-epsilon.ensures (λ m x r. search laws.given) & laws.optional (below 2) opt_case_view refl (λ a. refl) c.take_opt-integrator.ensures (λ m x r. search laws.given)
    & laws.optional damping_form opt_damping_view refl (λ a. refl) c.take_opt-damping_mode.ensures (λ m x r. search laws.given))
    (λ p e i.
    record {
      target = (e i).0;
      from = (e i).1.0;
      to = (e i).1.1.0;
      preset = (e i).1.1.1.0;
      stiffness = (e i).1.1.1.1.0;
      damping = (e i).1.1.1.1.1.0;
      mass = (e i).1.1.1.1.1.1.0;
      velocity = (e i).1.1.1.1.1.1.1.0;
      epsilon = (e i).1.1.1.1.1.1.1.1.0;
      integrator = (e i).1.1.1.1.1.1.1.1.1.0;
      damping_mode = (e i).1.1.1.1.1.1.1.1.1.1;
    }))
