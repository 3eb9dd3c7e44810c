-- The laws on checking a converted sheet: it is open, its tree is the one with triangle, and that holds no noise.
use Prim.Native.Nat.{ℕ}
use mathlib.Core.Bool.{Bool, true, false, cond}
use mathlib.Core.Logic.{◌≢◌}
use mathlib.Core.Option.{some-injective}
use mathlib.Core.Path.{◌≡◌, refl, sym, ◌∙◌, ap, subst}
use native.Mathlib.Omega.{arith}
use borrow.Author.Tests.{eqb-false}
use lib.Dec.{eqb}
use Rattle.ast.specs.Tree.{KeyframeTime, Leaf, Nodes}
use Rattle.sheet.specs.Sheet.{Forest}
use Rattle.checking.specs.Checking.{verdict, checking}
use Rattle.checking.proofs.ListLaws.{known}
use Rattle.ast.specs.Tree.{noise}
use Rattle.converting.specs.Convert.{triangle, converting}
use Rattle.converting.specs.Triangled.{triangled_kind, triangled_leaf, triangled}
use Rattle.converting.proofs.ConvertLaws.{converts, decodes_triangled, opens_triangled}
use Rattle.law_converted.specs.NoNoise.{EachLeaf, NotNoise, NoNoise}
use Rattle.law_converted.specs.Converted.{AsWithTriangle, NeverRetired}
use Rattle.law_converted.proofs.RefusalLaws.{never-noise}

pub as_with-triangle : AsWithTriangle
unfolding checking
as_with-triangle list t s ns l o = ap (verdict list t) (known t (converting t s).1 list l ∙ opens_triangled t s ns o)

-- ---- the tree with triangle holds no noise

kind_quiet : (k : ℕ) → triangled_kind k ≢ noise
kind_quiet k = go (eqb k noise) refl
  where
    go : (b : Bool) → eqb k noise ≡ b → cond b triangle k ≢ noise
    go true e = λ z. omega (arith, z)
    go false e = eqb-false k noise e

leaf_quiet : (l : Leaf KeyframeTime) → NotNoise (triangled_leaf l)
leaf_quiet (Leaf.tween x) = tt
leaf_quiet (Leaf.spring x) = tt
leaf_quiet (Leaf.keyframes x) = tt
leaf_quiet (Leaf.path x) = tt
leaf_quiet (Leaf.morph x) = tt
leaf_quiet (Leaf.draw x) = tt
leaf_quiet (Leaf.color x) = tt
leaf_quiet (Leaf.waveform x) = kind_quiet x.kind
leaf_quiet (Leaf.preset x) = tt
leaf_quiet (Leaf.label x) = tt
leaf_quiet (Leaf.at x) = tt

triangled_quiet : (ns : Forest) → NoNoise (triangled ns)
unfolding triangled EachLeaf
triangled_quiet Nodes.none = tt
triangled_quiet (Nodes.leaf p l rest) = (leaf_quiet l, triangled_quiet rest)
triangled_quiet (Nodes.box p b ns rest) = (triangled_quiet ns, triangled_quiet rest)

pub never_retired : NeverRetired
never_retired list t s p a =
    let c = converts t s a in
    let d = decodes_triangled t s c.0 c.1 in
    never-noise list t (converting t s).1 p
    (λ ns e. subst NoNoise (some-injective (triangled c.0) ns (sym d ∙ e)) (triangled_quiet c.0))
