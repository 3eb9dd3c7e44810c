-- `read_spring::put_spring_fields` meets its contract.
use Prim.Native.Nat.{◌+◌, ◌<◌, ◌^◌}
use native.Mathlib.Omega.{arith}
use Rattle.read_node.proofs.EndsLaws.{case-most, word-most}
use Rattle.sheet_encode.specs.Means.{opt_case_of, opt_float_of}
use Rattle.sheet_encode.proofs.OverLaws.{writes_then}
use Rattle.read_spring.proofs.put_spring_fields.Goals.{After-put_opt_case-mode_at, After-put_opt_case-stiffness_at, After-put_opt_float-damping_at, After-put_opt_float-integrator_at, After-put_opt_float-mass_at, After-put_opt_float-velocity_at, After-put_velocity-epsilon_at}
use Rattle.read_spring.proofs.put_spring_fields.Goals as goal

-- how far each field ends at most
put-opt-case_end : (w : After-put_opt_case-stiffness_at) → w.put_opt_case-stiffness_at.result < 2 ^ 30 + 2 ^ 20 + 2
put-opt-case_end w = omega (arith, w.requires.1, (w.put_opt_case-stiffness_at.ensures 5).place, case-most 5 (opt_case_of w.args.x.preset))

put-opt_float_end : (w : After-put_opt_float-damping_at) → w.put_opt_float-damping_at.result < 2 ^ 30 + 2 ^ 20 + 7
put-opt_float_end w = omega (arith, put-opt-case_end (goal.at.After-put_opt_float-damping_at w).After-put_opt_case-stiffness_at, w.put_opt_float-damping_at.ensures.place, word-most (opt_float_of w.args.x.stiffness))

put-opt_float2_end : (w : After-put_opt_float-mass_at) → w.put_opt_float-mass_at.result < 2 ^ 30 + 2 ^ 20 + 12
put-opt_float2_end w = omega (arith, put-opt_float_end (goal.at.After-put_opt_float-mass_at w).After-put_opt_float-damping_at, w.put_opt_float-mass_at.ensures.place, word-most (opt_float_of w.args.x.damping))

put-opt_float3_end : (w : After-put_opt_float-velocity_at) → w.put_opt_float-velocity_at.result < 2 ^ 30 + 2 ^ 20 + 17
put-opt_float3_end w = omega (arith, put-opt_float2_end (goal.at.After-put_opt_float-velocity_at w).After-put_opt_float-mass_at, w.put_opt_float-velocity_at.ensures.place, word-most (opt_float_of w.args.x.mass))

put_velocity_end : (w : After-put_velocity-epsilon_at) → w.put_velocity-epsilon_at.result < 2 ^ 30 + 2 ^ 20 + 1048594
put_velocity_end w =
    let pre = w.requires in
    omega (arith, put-opt_float3_end (goal.at.After-put_velocity-epsilon_at w).After-put_opt_float-velocity_at, (w.put_velocity-epsilon_at.ensures pre.3.1 pre.3.2 pre.3.0 pre.3.3).most)

put-opt_float4_end : (w : After-put_opt_float-integrator_at) → w.put_opt_float-integrator_at.result < 2 ^ 30 + 2 ^ 20 + 1048599
put-opt_float4_end w = omega (arith, put_velocity_end (goal.at.After-put_opt_float-integrator_at w).After-put_velocity-epsilon_at, w.put_opt_float-integrator_at.ensures.place, word-most (opt_float_of w.args.x.epsilon))

put-opt_case2_end : (w : After-put_opt_case-mode_at) → w.put_opt_case-mode_at.result < 2 ^ 30 + 2 ^ 20 + 1048601
put-opt_case2_end w = omega (arith, put-opt_float4_end (goal.at.After-put_opt_case-mode_at w).After-put_opt_float-integrator_at, (w.put_opt_case-mode_at.ensures 2).place, case-most 2 (opt_case_of w.args.x.integrator))

pub put_opt_float-damping_at-requires : goal.put_opt_float-damping_at-requires
put_opt_float-damping_at-requires c = (omega (arith, put-opt-case_end (goal.at.put_opt_float-damping_at-requires c).After-put_opt_case-stiffness_at), c.requires.2.0)

pub put_opt_float-mass_at-requires : goal.put_opt_float-mass_at-requires
put_opt_float-mass_at-requires c = (omega (arith, put-opt_float_end (goal.at.put_opt_float-mass_at-requires c).After-put_opt_float-damping_at), c.requires.2.1)

pub put_opt_float-velocity_at-requires : goal.put_opt_float-velocity_at-requires
put_opt_float-velocity_at-requires c = (omega (arith, put-opt_float2_end (goal.at.put_opt_float-velocity_at-requires c).After-put_opt_float-mass_at), c.requires.2.2)

pub put_velocity-epsilon_at-requires : goal.put_velocity-epsilon_at-requires
put_velocity-epsilon_at-requires c =
    let pre = c.requires in
    (record { short = pre.0; low = omega (arith, put-opt_float3_end (goal.at.put_velocity-epsilon_at-requires c).After-put_opt_float-velocity_at) }, pre.3)

pub put_opt_float-integrator_at-requires : goal.put_opt_float-integrator_at-requires
put_opt_float-integrator_at-requires c = (omega (arith, put_velocity_end (goal.at.put_opt_float-integrator_at-requires c).After-put_velocity-epsilon_at), c.requires.2.3)

pub put_opt_case-mode_at-requires : goal.put_opt_case-mode_at-requires
put_opt_case-mode_at-requires c = omega (arith, put-opt_float4_end (goal.at.put_opt_case-mode_at-requires c).After-put_opt_float-integrator_at)

pub put_opt_damping-requires : goal.put_opt_damping-requires
put_opt_damping-requires c = (omega (arith, put-opt_case2_end (goal.at.put_opt_damping-requires c).After-put_opt_case-mode_at), c.requires.2.4)

pub returns : goal.returns
returns c =
    λ lo hi v h. writes_then (c.put_opt_case-stiffness_at.ensures 5)
    (writes_then c.put_opt_float-damping_at.ensures
    (writes_then c.put_opt_float-mass_at.ensures
    (writes_then c.put_opt_float-velocity_at.ensures
    (writes_then (c.put_velocity-epsilon_at.ensures lo hi v h).writes
    (writes_then c.put_opt_float-integrator_at.ensures
    (writes_then (c.put_opt_case-mode_at.ensures 2) c.put_opt_damping.ensures))))))
