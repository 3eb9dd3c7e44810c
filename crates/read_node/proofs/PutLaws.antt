-- The most bytes of what a record holds.
use Prim.Native.Nat.{ℕ, ◌≤◌}
use mathlib.Core.Option.{Option}
use mathlib.Core.Bool.{Bool}
use native.Mathlib.Omega.{arith}
use lib.ListN.{length, length-append}
use Rattle.codec.specs.Codec.{opt, ◌▹◌}
use Rattle.ast.specs.Tree.{EasingSpec, LoopSpec}
use Rattle.sheet.specs.Sheet.{word, flag, easing_form, loop_form}
use Rattle.sheet.proofs.FormLaws.{length-word, length-flag}
use Rattle.sheet_encode.proofs.EnumLaws.{opt-most, easing-most, loop_most}

pub opt-word : (o : Option ℕ) → length ((opt word).write o) ≤ 5
opt-word o = opt-most word 4 (λ n. let l = length-word n in omega arith) o

pub opt-flag : (o : Option Bool) → length ((opt flag).write o) ≤ 2
opt-flag o = opt-most flag 1 (λ b. let l = length-flag b in omega arith) o

pub opt_range : (o : Option (ℕ × ℕ)) → length ((opt (word ▹ word)).write o) ≤ 9
opt_range o =
    opt-most
    (word ▹ word)
    8
    (λ p.
    let a = length-word p.0 in
    let b = length-word p.1 in
    let c = length-append (word.write p.0) (word.write p.1) in
    omega arith)
    o

pub opt-easing : (n : ℕ) (o : Option EasingSpec) → length ((opt (easing_form n)).write o) ≤ 18
opt-easing n o = opt-most (easing_form n) 17 (easing-most n) o

pub opt_loop : (o : Option LoopSpec) → length ((opt loop_form).write o) ≤ 6
opt_loop o = opt-most loop_form 5 loop_most o
