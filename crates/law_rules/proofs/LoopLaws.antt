-- A reader of nodes that has some already gives those and what it gives from none on.
use Prim.Native.Nat.{ℕ, zero, suc}
use mathlib.Core.Bool.{Bool, true, false, cond}
use mathlib.Core.List.{List}
use mathlib.Core.Path.{◌≡◌, refl, sym, ap, ◌∙◌}
use Rattle.number.specs.Time.{Key}
use Rattle.token.specs.Token.{Token, rest}
use Rattle.ast.specs.Tree.{Nodes, MotionNode, push, append}
use Rattle.grammar.specs.Rule.{Notes, Out, got, refused, Rule, after, give, if, sees, ends, skip, ◌>>◌, Next, more, done, iterate}
use Rattle.grammar.specs.Rule.{next as following}
use Rattle.grammar.specs.Grammar.{parse_node, one_node, nodes_step}
use Rattle.law_rules.proofs.TreeLaws.{append_none, append-both}

-- the nodes ns in front of those that were read
abbrev pub behind_nodes : Nodes Key → Out (Nodes Key) → Out (Nodes Key)
behind_nodes ns (got ms l ts) = got (append ns ms) l ts
behind_nodes ns (refused r p) = refused r p

behind-both : (ns ms : Nodes Key) (o : Out (Nodes Key)) → behind_nodes (append ns ms) o ≡ behind_nodes ns (behind_nodes ms o)
behind-both ns ms (got os l ts) = ap (λ (x : Nodes Key). got x l ts) (append-both ns ms os)
behind-both ns ms (refused r p) = refl

module _ (b : Rule (Nodes Key)) where
  -- a reader that goes on behind the nodes ns
  abbrev pub OnBehind : ℕ → Type 0
  OnBehind k =
      (ns : Nodes Key) (l : Notes) (ts : List Token)
      → iterate (nodes_step b) k ns l ts ≡ behind_nodes ns (iterate (nodes_step b) k Nodes.none l ts)

  one_more : (k : ℕ) → OnBehind k → (ns : Nodes Key) (o : Out (MotionNode Key))
      → after (after o (λ n. give (more (append ns (push n Nodes.none))))) (following (λ ms. iterate (nodes_step b) k ms))
      ≡ behind_nodes ns (after (after o (λ n. give (more (push n Nodes.none)))) (following (λ ms. iterate (nodes_step b) k ms)))
  one_more k h ns (got n l ts) =
      h (append ns (push n Nodes.none)) l ts
      ∙ behind-both ns (push n Nodes.none) (iterate (nodes_step b) k Nodes.none l ts)
      ∙ sym (ap (behind_nodes ns) (h (push n Nodes.none) l ts))
  one_more k h ns (refused r p) = refl

  pub on_behind : (k : ℕ) → OnBehind k
  unfolding iterate nodes_step one_node
  on_behind zero ns l ts = ap (λ (x : Nodes Key). got x l ts) (sym (append_none ns))
  on_behind (suc k) ns l ts = go (on_behind k) (ends ts)
    where
      again : Out (Next (Nodes Key)) → Out (Nodes Key)
      again o = after o (following (λ ms. iterate (nodes_step b) k ms))

      node : OnBehind k → (y : Bool)
          → again (cond y (skip >> give (more ns)) (one_node b ns) l ts)
          ≡ behind_nodes ns (again (cond y (skip >> give (more Nodes.none)) (one_node b Nodes.none) l ts))
      node h true = h ns l (rest ts)
      node h false = one_more k h ns (parse_node b l ts)

      go : OnBehind k → (x : Bool)
          → again (cond x (give (done ns)) (if (sees ";") (skip >> give (more ns)) (one_node b ns)) l ts)
          ≡ behind_nodes ns
          (again (cond x (give (done Nodes.none)) (if (sees ";") (skip >> give (more Nodes.none)) (one_node b Nodes.none)) l ts))
      go h true = ap (λ (x : Nodes Key). got x l ts) (sym (append_none ns))
      go h false = node h (sees ";" ts)
