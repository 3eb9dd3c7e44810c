-- 02 (d): over scripts put one after another the count of rounded numbers adds up.
use Prim.Native.Nat.{ℕ}
use mathlib.Core.List.{List}
use mathlib.Core.Path.{◌≡◌, ap, ◌∙◌}
use Rattle.number.specs.Time.{Key}
use Rattle.token.specs.Token.{Token}
use Rattle.ast.specs.Tree.{Nodes}
use Rattle.grammar.specs.Rule.{Notes, iterate}
use Rattle.grammar.specs.Grammar.{nodes_step, block}
use Rattle.law_rules.proofs.LoopLaws.{behind_nodes, on_behind}
use Rattle.law_rules.proofs.StayLaws.{plus, plus_out, steps_stay, nodes_stay}

-- "scripts put one after another add up": a reader that has the nodes ns of a script, c numbers of it counted, and goes on with the tokens
-- of a further one gives the nodes of both, and c more than the further one's count
pub one-after_another : (k c : ℕ) (ns : Nodes Key) (l : Notes) (ts : List Token)
    → iterate (nodes_step (block 16)) k ns (plus c l) ts
    ≡ behind_nodes ns (plus_out c (iterate (nodes_step (block 16)) k Nodes.none l ts))
one-after_another k c ns l ts =
    on_behind (block 16) k ns (plus c l) ts
    ∙ ap (behind_nodes ns)
    ((steps_stay 0 (nodes_step (block 16)) (nodes_stay 0 16) k Nodes.none).adds c l ts)
