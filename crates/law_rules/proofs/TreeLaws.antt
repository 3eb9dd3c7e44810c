-- Lists of nodes, one after another.
use mathlib.Core.Path.{◌≡◌, refl, ap}
use Rattle.ast.specs.Tree.{Nodes, leaf, box, append}

pub append_none : {K : Type 0} (ns : Nodes K) → append ns Nodes.none ≡ ns
append_none Nodes.none = refl
append_none (leaf p l rest) = ap (leaf p l) (append_none rest)
append_none (box p b inner rest) = ap (box p b inner) (append_none rest)

pub append-both : {K : Type 0} (ns ms os : Nodes K) → append (append ns ms) os ≡ append ns (append ms os)
append-both Nodes.none ms os = refl
append-both (leaf p l rest) ms os = ap (leaf p l) (append-both rest ms os)
append-both (box p b inner rest) ms os = ap (box p b inner) (append-both rest ms os)
