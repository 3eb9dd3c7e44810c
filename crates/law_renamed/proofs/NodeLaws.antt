-- Nodes at two lists of tokens that agree: checking says the same of them.
use Prim.Native.Nat.{ℕ, zero, suc, ◌+◌, ◌≤◌}
use Prim.Native.String.{String}
use mathlib.Core.Bool.{Bool, true, false, cond}
use mathlib.Core.List.{List, [], ◌∷◌, ◌++◌, map}
use mathlib.Core.Option.{Option, none, some}
use mathlib.Core.Path.{◌≡◌, refl, sym, ap, ◌∙◌, subst}
use native.Mathlib.Omega.{arith}
use lib.ListN.{length}
use Rattle.text.specs.Bytes.{bytes, one_of, same}
use Rattle.text.specs.Words.{under}
use Rattle.number.specs.Time.{Key}
use Rattle.token.specs.Token.{Token, kind, rest, is_mark}
use Rattle.ast.specs.Tree.{Leaf, Container, Nodes, leaf, box, MotionNode, single, holding, push, records, map_times}
use Rattle.checking.specs.Rules.{validate_nodes}
use Rattle.error.specs.declared.Refusal.TheVariants.{TooManyNested, Missing}
use Rattle.grammar.specs.Rule.{Notes, Out, got, refused, Rule, after, give, refuse, if, ◌>>=◌, ◌>>◌, skip, sees, sees_byte, ends}
use Rattle.grammar.specs.Rule.{Next, more, done, iterate, repeat}
use Rattle.grammar.specs.Rule.{next as following}
use Rattle.grammar.specs.Grammar.{stored, leaves, containers, or_container, beginning, node_by, parse_node}
use Rattle.grammar.specs.Grammar.{one_node, nodes_step, block, animato_input}
use Rattle.law_rules.proofs.LoopLaws.{behind_nodes, on_behind}
use Rattle.law_renamed.specs.Words.{free_in, free_of}
use Rattle.law_renamed.proofs.StreamLaws.{Fine, fine_some, stay, past, gone_on, Scripts}
use Rattle.law_renamed.proofs.StreamLaws.{Pair, rest-pair, same_length, byte_agrees, ends_agrees}
use Rattle.law_renamed.proofs.StepLaws.{Moves, Twin, Twins, Alike}
use Rattle.law_renamed.proofs.StepLaws.{Any, Alikes, no_place, after_moves, after_twins}
use Rattle.law_renamed.proofs.StepLaws.{then-plain, then-free, within, weaken, by_equal, gives, refuses}
use Rattle.law_renamed.proofs.StepLaws.{tests, a_word_lem, in_group, Found, under-found}
use Rattle.law_renamed.proofs.StepLaws.{not-zero}
use Rattle.law_renamed.proofs.LeafLaws.{parts_both, LeafAlike, LeafRule, LeafRows, leaf_rows, container_rows}

-- ---- the first node, and those behind it

module _ (b : Rule (Nodes Key)) where
  -- at most k steps, from no nodes on
  abbrev loop : ℕ → Rule (Nodes Key)
  loop k = iterate (nodes_step b) k Nodes.none

  abbrev first_of : ℕ → Rule (Nodes Key)
  first_of k = parse_node b >>= λ n. loop k >>= λ ns. give (push n ns)

  pushed : (n : MotionNode Key) (o : Out (Nodes Key)) → behind_nodes (push n Nodes.none) o ≡ after o (λ ns. give (push n ns))
  pushed (single p l) (got ns m ts) = refl
  pushed (single p l) (refused r q) = refl
  pushed (holding p c ms) (got ns m ts) = refl
  pushed (holding p c ms) (refused r q) = refl

  pub loop_is : (k : ℕ) (l : Notes) (ts : List Token)
      → loop (suc k) l ts ≡ cond (ends ts) (give Nodes.none) (if (sees ";") (skip >> loop k) (first_of k)) l ts
  unfolding iterate nodes_step one_node
  loop_is k l ts = go (ends ts)
    where
      again : Out (Next (Nodes Key)) → Out (Nodes Key)
      again o = after o (following (λ ms. iterate (nodes_step b) k ms))

      node : (o : Out (MotionNode Key))
          → again (after o (λ n. give (more (push n Nodes.none)))) ≡ after o (λ n. loop k >>= λ ns. give (push n ns))
      node (got n m us) = on_behind b k (push n Nodes.none) m us ∙ pushed n (loop k m us)
      node (refused r p) = refl

      by : (y : Bool)
          → again (cond y (skip >> give (more Nodes.none)) (one_node b Nodes.none) l ts)
          ≡ cond y (skip >> loop k) (first_of k) l ts
      by true = refl
      by false = node (parse_node b l ts)

      go : (x : Bool)
          → again (cond x (give (done Nodes.none)) (if (sees ";") (skip >> give (more Nodes.none)) (one_node b Nodes.none)) l ts)
          ≡ cond x (give Nodes.none) (if (sees ";") (skip >> loop k) (first_of k)) l ts
      go true = refl
      go false = by (sees ";" ts)

-- ---- what checking says of nodes, and where their free names and strings stand

pub record NodesAlike (x : Scripts) (ns ms : Nodes Key) : Type 0 where
  pub count : records (map_times stored ns) ≡ records (map_times stored ms)
  pub says : (names : List String) (i : ℕ)
      → validate_nodes names x.text i (map_times stored ns) ≡ validate_nodes names x.other i (map_times stored ms)
  pub free : free_of ms ≡ map x.across (free_of ns)

abbrev pub NodeAlike : Scripts → MotionNode Key → MotionNode Key → Type 0
NodeAlike x (single p l) (single q m) = LeafAlike x l m
NodeAlike x (single p l) (holding q c ms) = ⊥
NodeAlike x (holding p b ns) (single q m) = ⊥
NodeAlike x (holding p b ns) (holding q c ms) = (b ≡ c) × NodesAlike x ns ms

none_alike : (x : Scripts) → NodesAlike x Nodes.none Nodes.none
unfolding validate_nodes free_of
none_alike x = record { count = refl; says = λ names i. refl; free = refl }

map_both : (f : ℕ → ℕ) (a b : List ℕ) → map f (a ++ b) ≡ map f a ++ map f b
map_both f [] b = refl
map_both f (p ∷ a) b = ap (λ (l : List ℕ). f p ∷ l) (map_both f a b)

both_across : (f : ℕ → ℕ) (a b c d : List ℕ) → c ≡ map f a → d ≡ map f b → c ++ d ≡ map f (a ++ b)
both_across f a b c d e g = rw (e, g) (sym (map_both f a b))

push_alike : (x : Scripts) (n m : MotionNode Key) (ns ms : Nodes Key) → NodeAlike x n m → NodesAlike x ns ms
    → NodesAlike x (push n ns) (push m ms)
unfolding validate_nodes free_of
push_alike x (single p l) (single q m) ns ms h r = record {
  count = ap suc r.count;
  says = λ names i. rw (h.says names, r.says names (suc i));
  free = both_across x.across (free_in l) (free_of ns) (free_in m) (free_of ms) h.free r.free;
}
push_alike x (single p l) (holding q c ms') ns ms h r = absurd h
push_alike x (holding p b ns') (single q m) ns ms h r = absurd h
push_alike x (holding p b ns') (holding q c ms') ns ms h r = record {
  count = rw (h.1.count, r.count);
  says = λ names i. rw (h.0, h.1.says names (suc i), h.1.count, r.says names (suc i + records (map_times stored ms')));
  free = both_across x.across (free_of ns') (free_of ns) (free_of ms') (free_of ms) h.1.free r.free;
}

-- ---- their free places

abbrev node_free : MotionNode Key → List ℕ
node_free (single p l) = free_in l
node_free (holding p b ns) = free_of ns

-- the nodes behind the first
abbrev behind_first : Nodes Key → Nodes Key
behind_first Nodes.none = Nodes.none
behind_first (leaf p l rest) = rest
behind_first (box p b inner rest) = rest

abbrev later_free : Nodes Key → List ℕ
later_free ns = free_of (behind_first ns)

free-push : (n : MotionNode Key) (ns : Nodes Key) → free_of (push n ns) ≡ node_free n ++ later_free (push n ns)
unfolding free_of
free-push (single p l) ns = refl
free-push (holding p b ms) ns = refl

later_push : (n : MotionNode Key) (ns : Nodes Key) → later_free (push n ns) ≡ free_of ns
later_push (single p l) ns = refl
later_push (holding p b ms) ns = refl

no_free : (y : ℕ) → one_of (free_of {K = Key} Nodes.none) y ≡ true → one_of [] y ≡ true
unfolding free_of
no_free y e = e

module _ (x : Scripts) where
  abbrev pub NodesRule : Type 0 → Rule (Nodes Key) → Type 0
  NodesRule H p = Alike x H p p Any free_of (NodesAlike x)

  abbrev LeafFound : Option (Rule (Leaf Key)) → Type 0
  LeafFound none = Unit {0}
  LeafFound (some p) = LeafRule x Unit p

  leaf_pick : (b : Bool) (p : Rule (Leaf Key)) (o : Option (Rule (Leaf Key))) → LeafRule x Unit p → LeafFound o
      → LeafFound (elim b [ true ↦ some p | false ↦ o ])
  leaf_pick true p o y z = y
  leaf_pick false p o y z = z

  leaf_found : (t : List (String × Rule (Leaf Key))) (w : List ℕ) → LeafRows x t → LeafFound (under t w)
  unfolding under
  leaf_found [] w h = tt
  leaf_found (f ∷ t) w h = leaf_pick (same w (bytes f.0)) f.1 (under t w) h.0 (leaf_found t w h.1)

  module _ (b : Rule (Nodes Key)) (inner : NodesRule Unit b) where
    -- ---- a node

    leaf_node : {H : Type 0} (p : Rule (Leaf Key)) (start begin : ℕ) → LeafRule x Unit p
        → Alike x H (p >>= λ l. give (single start l)) (p >>= λ l. give (single begin l)) Any node_free (NodeAlike x)
    leaf_node p start begin y = then-plain free_in node_free (within (λ h. tt) y) (λ l m. gives refl (λ h. h.1))

    box_node : {H : Type 0} (p : Rule Container) (start begin : ℕ) → Alikes x Unit p p ◌≡◌
        → Alike x H (p >>= λ c. b >>= λ ns. give (holding start c ns)) (p >>= λ c. b >>= λ ns. give (holding begin c ns)) Any node_free
        (NodeAlike x)
    box_node p start begin y =
        then-free node_free (within (λ h. tt) y)
        (λ c d j h. then-plain free_of node_free (within (λ h. tt) inner) (λ ns ms. gives refl (λ h. (h.0.1, h.1))))

    begun : {H : Type 0} (start begin : ℕ) (o : Option (Rule (Leaf Key))) (p : Option (Rule Container)) → LeafFound o → Found x ◌≡◌ p
        → Alike x H (node_by b start (or_container o p)) (node_by b begin (or_container o p)) Any node_free (NodeAlike x)
    begun start begin (some p) c y z = leaf_node p start begin y
    begun start begin none (some p) y z = box_node p start begin z
    begun start begin none none y z = refuses

    node_alike : {H : Type 0} → Alike x H (parse_node b) (parse_node b) (λ n j. 1 ≤ j) node_free (NodeAlike x)
    unfolding parse_node beginning
    node_alike =
        then-free node_free a_word_lem
        (λ w v j h. weaken (λ n k z. omega arith)
        (by_equal (λ (u : List ℕ). node_by b w.0 (beginning u)) (λ (u : List ℕ). node_by b v.0 (beginning u)) w.1 v.1
        (λ h. h.1.0)
        (begun w.0 v.0 (under leaves w.1) (under containers w.1) (leaf_found leaves w.1 (leaf_rows x))
        (under-found x ◌≡◌ containers w.1 (container_rows x)))))

    -- ---- nodes up to the group's end

    push_moves : (n : MotionNode Key) (l : Notes) (ts : List Token) (o : Out (Nodes Key)) → Moves x Any free_of l ts o
        → Moves x (λ c k. free_of c ≡ node_free n ++ later_free c) later_free l ts (after o (λ ns. give (push n ns)))
    push_moves n l ts (got ns m us) v = record {
      bound = v.bound;
      gone = v.gone;
      post = free-push n ns;
      held = λ y e. v.held y (subst (λ (e : List ℕ). one_of e y ≡ true) (later_push n ns) e);
    }
    push_moves n l ts (refused r p) v = tt

    push_twins : (n n' : MotionNode Key) → NodeAlike x n n' → (m : Notes) (ts : List Token) (o o' : Out (Nodes Key))
        → Twins x free_of (NodesAlike x) ts m o o'
        → Twins x later_free (NodesAlike x) ts m (after o (λ ns. give (push n ns))) (after o' (λ ns. give (push n' ns)))
    push_twins n n' h m ts (got ns l us) (got ms l' vs) t =
        λ only.
        let w : Twin x (NodesAlike x) m ns ms l' us vs =
        t (λ y e lo hi. subst (λ (e : List ℕ). one_of e y ≡ true) (later_push n ns) (only y e lo hi)) in
        record { related = push_alike x n n' ns ms h w.related; pair = w.pair; bound = w.bound }
    push_twins n n' h m ts (got ns l us) (refused r p) t = tt
    push_twins n n' h m ts (refused r p) o' t = tt

    over : (l : Notes) (ts : List Token) → Fine x.text ts → Moves {A = Nodes Key} x Any free_of l ts (got Nodes.none l ts)
    over l ts h = record { bound = refl; gone = stay h; post = tt; held = λ y e. no_place y (no_free y e) }

    semicolon : (ts : List Token) → sees_byte 59 ts ≡ true → is_mark (kind ts) 0 ≡ false
    semicolon ts e = not-zero (kind ts) 59 refl e

    -- p from behind the first token
    later_moves : (l : Notes) (ts : List Token) → Fine x.text ts → (o : Out (Nodes Key)) → Moves x Any free_of l (rest ts) o
        → Moves x Any free_of l ts o
    later_moves l ts h (got ns m us) v =
        let g = (past x.text ts h).gone in
        record {
          bound = v.bound;
          gone = gone_on g v.gone;
          post = tt;
          held = λ y e. let z = v.held y e in (omega (arith, z.0, g.low), z.1);
        }
    later_moves l ts h (refused r p) v = tt

    later_twins : (l m : Notes) (ts : List Token) → Fine x.text ts → (o o' : Out (Nodes Key)) → Moves x Any free_of l (rest ts) o
        → Twins x free_of (NodesAlike x) (rest ts) m o o'
        → Twins x free_of (NodesAlike x) ts m o o'
    later_twins l m ts h (got ns n us) (got ms n' vs) v t =
        λ only. t (λ y e lo hi. only y e (omega (arith, (past x.text ts h).gone.low)) hi)
    later_twins l m ts h (got ns n us) (refused r p) v t = tt
    later_twins l m ts h (refused r p) o' v t = tt

    loop_moves : (k : ℕ) (l : Notes) (ts : List Token) → Fine x.text ts → Moves x Any free_of l ts (loop b k l ts)
    unfolding iterate
    loop_moves zero l ts h = over l ts h
    loop_moves (suc k) l ts h = subst (Moves x Any free_of l ts) (sym (loop_is b k l ts)) (go (λ m us f. loop_moves k m us f) (ends ts))
      where
        by : ((m : Notes) (us : List Token) → Fine x.text us → Moves x Any free_of m us (loop b k m us)) → (z : Bool)
            → Moves x Any free_of l ts (cond z (skip >> loop b k) (first_of b k) l ts)
        by ih true = later_moves l ts h (loop b k l (rest ts)) (ih l (rest ts) (past x.text ts h).gone.fine)
        by ih false =
            after_moves x (λ n j. 1 ≤ j) node_free (NodeAlike x) (λ n j c k. free_of c ≡ node_free n ++ later_free c) later_free Any free_of
            (NodesAlike x) (λ n j c k h g. tt) (λ n j c k h g. parts_both (node_free n) (later_free c) (free_of c) g) l ts
            (λ n. loop b k >>= λ ns. give (push n ns)) (parse_node b l ts) ((node_alike {H = Unit}).moves l ts h)
            (λ n m us v. push_moves n m us (loop b k m us) (ih m us v.gone.fine))

        go : ((m : Notes) (us : List Token) → Fine x.text us → Moves x Any free_of m us (loop b k m us)) → (z : Bool)
            → Moves x Any free_of l ts (cond z (give Nodes.none) (if (sees ";") (skip >> loop b k) (first_of b k)) l ts)
        go ih true = over l ts h
        go ih false = by ih (sees ";" ts)

    abbrev LoopTwins : ℕ → ℕ → Type 0
    LoopTwins k k' =
        (l m : Notes) (ts us : List Token) → Pair x ts us → length ts ≤ k → length us ≤ k' → length ts ≤ l.bound → length us ≤ m.bound
        → Twins x free_of (NodesAlike x) ts m (loop b k l ts) (loop b k' m us)

    -- the first node, and those behind it
    first_twins : (k k' : ℕ) → LoopTwins k k' → (l m : Notes) (ts us : List Token) → Pair x ts us
        → length ts ≤ suc k → length us ≤ suc k' → length ts ≤ l.bound → length us ≤ m.bound
        → Twins x free_of (NodesAlike x) ts m (first_of b k l ts) (first_of b k' m us)
    first_twins k k' ih l m ts us i f g c d =
        after_twins x (λ n j. 1 ≤ j) node_free (NodeAlike x) (λ n j c k. free_of c ≡ node_free n ++ later_free c) later_free Any free_of
        (NodesAlike x) (λ n j c k h g. tt) (λ n j c k h g. parts_both (node_free n) (later_free c) (free_of c) g) l m ts
        (λ n. loop b k >>= λ ns. give (push n ns)) (λ n. loop b k' >>= λ ns. give (push n ns)) (parse_node b l ts) (parse_node b m us)
        ((node_alike {H = Unit}).moves l ts i.fine) ((node_alike {H = Unit}).twins tt l m ts us i c d)
        (λ n l' ts' v. push_moves n l' ts' (loop b k l' ts') (loop_moves k l' ts' v.gone.fine))
        (λ n n' l' m' ts' us' v w. push_twins n n' w.related m' ts' (loop b k l' ts') (loop b k' m' us')
        (ih l' m' ts' us' w.pair (omega (arith, v.gone.count, v.post))
        (omega (arith, v.gone.count, v.post, same_length i, same_length w.pair)) (omega (arith, v.gone.count, v.bound))
        (omega (arith, v.gone.count, w.bound, same_length i, same_length w.pair))))

    -- a `;`, and those behind it
    rest_twins : (k k' : ℕ) → LoopTwins k k' → (l m : Notes) (ts us : List Token) → Pair x ts us → is_mark (kind ts) 0 ≡ false
        → length ts ≤ suc k → length us ≤ suc k' → length ts ≤ l.bound → length us ≤ m.bound
        → Twins x free_of (NodesAlike x) ts m (loop b k l (rest ts)) (loop b k' m (rest us))
    rest_twins k k' ih l m ts us i e f g c d =
        let v = past x.text ts i.fine in
        let z = (v.on e).1 in
        let n = v.gone.count in
        let o = same_length i in
        let q = same_length (rest-pair i) in
        later_twins l m ts i.fine (loop b k l (rest ts)) (loop b k' m (rest us)) (loop_moves k l (rest ts) v.gone.fine)
        (ih l m (rest ts) (rest us) (rest-pair i) (omega arith) (omega arith) (omega arith) (omega arith))

    loop_twins : (k k' : ℕ) → LoopTwins k k'
    loop_twins zero k' l m ts us i f g c d = absurd (omega (arith, fine_some x.text ts i.fine))
    loop_twins (suc k) zero l m ts us i f g c d = absurd (omega (arith, fine_some x.other us i.also))
    loop_twins (suc k) (suc k') l m ts us i f g c d =
        subst (λ (o : Out (Nodes Key)). Twins x free_of (NodesAlike x) ts m o (loop b (suc k') m us)) (sym (loop_is b k l ts))
        (subst (λ (o : Out (Nodes Key)). Twins x free_of (NodesAlike x) ts m (body k (ends ts) l ts) o) (sym (loop_is b k' m us))
        (subst (λ (z : Bool). Twins x free_of (NodesAlike x) ts m (body k (ends ts) l ts) (body k' z m us)) (ends_agrees i)
        (go (loop_twins k k') (ends ts))))
      where
        body : ℕ → Bool → Rule (Nodes Key)
        body k z = cond z (give Nodes.none) (if (sees ";") (skip >> loop b k) (first_of b k))

        by : LoopTwins k k' → (z : Bool) → sees ";" ts ≡ z
            → Twins x free_of (NodesAlike x) ts m (cond z (skip >> loop b k) (first_of b k) l ts)
            (cond z (skip >> loop b k') (first_of b k') m us)
        by ih true e = rest_twins k k' ih l m ts us i (semicolon ts e) f g c d
        by ih false e = first_twins k k' ih l m ts us i f g c d

        go : LoopTwins k k' → (z : Bool) → Twins x free_of (NodesAlike x) ts m (body k z l ts) (body k' z m us)
        go ih true = λ only. record { related = none_alike x; pair = i; bound = refl }
        go ih false =
            subst
            (λ (z : Bool).
            Twins x free_of (NodesAlike x) ts m (cond (sees ";" ts) (skip >> loop b k) (first_of b k) l ts)
            (cond z (skip >> loop b k') (first_of b k') m us))
            (byte_agrees i 59)
            (by ih (sees ";" ts) refl)

    nodes_alike : {H : Type 0} → NodesRule H (repeat (nodes_step b) Nodes.none)
    nodes_alike = record {
      moves = λ l ts h. loop_moves l.bound l ts h;
      twins = λ h l m ts us i c d. loop_twins l.bound m.bound l m ts us i c d c d;
    }

  block_alike : (d : ℕ) → NodesRule Unit (block d)
  unfolding block
  block_alike zero =
      let y : NodesRule Unit (if (sees "{") (refuse TooManyNested) (refuse Missing)) =
      tests (sees "{") (sees "{") (λ h ts us i. byte_agrees i 123) refuses refuses in
      record { moves = λ l ts h. y.moves l ts h; twins = λ h l m ts us i c d. y.twins h l m ts us i c d }
  block_alike (suc d) =
      let y = in_group 123 refl (nodes_alike (block d) (block_alike d)) in
      weaken (λ a j h. tt) (record { moves = λ l ts h. y.moves l ts h; twins = λ h l m ts us i c d. y.twins h l m ts us i c d })

  pub input_alike : NodesRule Unit animato_input
  unfolding animato_input
  input_alike = nodes_alike (block 16) (block_alike 16)
