use native.Mathlib.Omega.{arith}
use mathlib.Core.Bool.{false, true}
use mathlib.Core.Path.{refl, sym}
use Rattle.read_cursor.proofs.WordLaws.{tok_is}
use borrow.Author.Tests.{lt-ltb, le-ltb}
use Rattle.read_cursor.proofs.kind.Goals as goal

pub returns-then-k-lt256 : goal.returns-then-k-lt256
returns-then-k-lt256 c =
    sym (tok_is c.args.c c.code-k.result c.code-k.ensures true _ _
    (lt-ltb c.code-k.result 256 (omega arith)) refl refl)

pub returns-then-k-lt-NUMBER : goal.returns-then-k-lt-NUMBER
returns-then-k-lt-NUMBER c =
    let k = c.code-k.result in
    sym (tok_is c.args.c k c.code-k.ensures false true _ (le-ltb k 256 (omega arith)) (lt-ltb k 65536 (omega arith)) refl)

pub returns-then-k-lt-STRING : goal.returns-then-k-lt-STRING
returns-then-k-lt-STRING c =
    let k = c.code-k.result in
    sym (tok_is c.args.c k c.code-k.ensures false false true (le-ltb k 256 (omega arith)) (le-ltb k 65536 (omega arith))
    (lt-ltb k 98304 (omega arith)))

pub returns : goal.returns
returns c =
    let k = c.code-k.result in
    sym (tok_is c.args.c k c.code-k.ensures false false false (le-ltb k 256 (omega arith)) (le-ltb k 65536 (omega arith))
    (le-ltb k 98304 (omega arith)))
