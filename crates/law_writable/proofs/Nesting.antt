-- A tree that a sheet holds has at most 16 containers around each other.
use Prim.Native.Nat.{ℕ, zero, suc}
use mathlib.Core.List.{List}
use mathlib.Core.Option.{some}
use mathlib.Core.Path.{◌≡◌}
use Rattle.ast.specs.Tree.{KeyframeTime, Container, sequence, parallel, group, stagger, Nodes, holding}
use Rattle.sheet.specs.Sheet.{Forest, decode}
use Rattle.sheet.proofs.Laws.{node_l, OkNodes, inner_l, Fits, decoded}
use Rattle.fresh.specs.Meaning.{sense}
use Rattle.fresh.specs.Reads.{Deep}

-- the nodes in a container are within the limits of their own form
held : (n d start : ℕ) (b : Container) (ns : Forest) → (node_l n (inner_l n d)).ok (holding start b ns) → (inner_l n d).ok ns
held n d start sequence ns h = h.1
held n d start parallel ns h = h.1
held n d start (group m) ns h = h.1.1
held n d start (stagger p t) ns h = h.1.1.1

nested : (t : List ℕ) (n d : ℕ) (ns : Forest) → OkNodes n (inner_l n d) ns → Deep d (sense (λ (k : KeyframeTime). k) t ns)
nested t n d Nodes.none h = tt
nested t n d (Nodes.leaf p l rest) h = nested t n d rest h.1
nested t n zero (Nodes.box p b ns rest) h = absurd (held n zero p b ns h.0)
nested t n (suc d) (Nodes.box p b ns rest) h = (nested t n d ns (held n (suc d) p b ns h.0).1, nested t n (suc d) rest h.1)

pub decoded_nests : (t : List ℕ) (n : ℕ) (bs : List ℕ) (ns : Forest) → decode n bs ≡ some ns
    → Deep 16 (sense (λ (k : KeyframeTime). k) t ns)
unfolding Fits
decoded_nests t n bs ns e = nested t n 16 ns (decoded n bs ns e).fits.1
