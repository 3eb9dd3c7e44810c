-- What checking refuses with: 28 only where a tree holds noise.
use Prim.Native.Nat.{ℕ, suc, ◌+◌}
use Prim.Native.String.{String}
use mathlib.Core.Bool.{Bool, true, false, ◌&&◌, cond, true≢false}
use mathlib.Core.List.{List, [], ◌∷◌, ◌++◌}
use mathlib.Core.Logic.{◌≢◌}
use mathlib.Core.Option.{Option, none, some}
use mathlib.Core.Path.{◌≡◌, refl, sym, subst}
use borrow.Author.Tests.{eqb-true}
use lib.Dec.{eqb, ltb}
use lib.ListN.{length}
use lib.Ieee.{Float}
use Rattle.text.specs.Bytes.{one_of}
use Rattle.text.specs.Limits.{text_limit}
use Rattle.text.specs.Words.{or_else}
use Rattle.number.specs.Number.{f32}
use Rattle.number.specs.Time.{any_near}
use Rattle.ast.specs.Tree.{KeyframeTime, KeyframeEntry, Leaf, Container, sequence, parallel, group, stagger, Nodes, records}
use Rattle.sheet.specs.Sheet.{Forest, decode}
use Rattle.sheet.specs.Opening.{shut, decoded, unless_foreign, foreign_from}
use Rattle.colors.specs.Css.{names_of}
use Rattle.checking.specs.Rules.{given, unknown_easing, negative, time_of, first, validate_tween, validate_spring}
use Rattle.checking.specs.Rules.{validate_frames, validate_keyframes, validate_path, validate_morph}
use Rattle.checking.specs.Rules.{validate_draw, validate_color, validate_waveform, validate_preset_call, validate_leaf, validate_container}
use Rattle.checking.specs.Rules.{at_ordinal, validate_nodes}
use Rattle.checking.specs.Checking.{answer_of, judged, verdict, is_list, opening_under, checking}
use Rattle.error.specs.Refusal.{number_of}
use Rattle.error.specs.declared.Refusal.{Refusal}
use Rattle.error.specs.declared.Refusal.TheVariants.{TextTooLong, OutOfRange, UnknownEasing, DuplicateTime, TooFewFrames}
use Rattle.error.specs.declared.Refusal.TheVariants.{NoiseHeld, Unwritable, UnknownList}
use Rattle.error.specs.declared.CheckAnswer.{CheckAnswer}
use Rattle.error.specs.declared.CheckAnswer.TheVariants.{Accepted, Refused}
use Rattle.ast.specs.Tree.{noise}
use Rattle.law_converted.specs.NoNoise.{EachLeaf, NotNoise, NoNoise}

-- ---- leaves

pub each_leaf : {K : Type 0} (P Q : Leaf K → Type 0) → ((l : Leaf K) → P l → Q l) → (ns : Nodes K) → EachLeaf P ns → EachLeaf Q ns
unfolding EachLeaf
each_leaf P Q f Nodes.none h = tt
each_leaf P Q f (Nodes.leaf p l rest) h = (f l h.0, each_leaf P Q f rest h.1)
each_leaf P Q f (Nodes.box p b ns rest) h = (each_leaf P Q f ns h.0, each_leaf P Q f rest h.1)

any_leaf : {K : Type 0} (P : Leaf K → Type 0) → ((l : Leaf K) → P l) → (ns : Nodes K) → EachLeaf P ns
unfolding EachLeaf
any_leaf P f Nodes.none = tt
any_leaf P f (Nodes.leaf p l rest) = (f l, any_leaf P f rest)
any_leaf P f (Nodes.box p b ns rest) = (any_leaf P f ns, any_leaf P f rest)

-- ---- checking's numbers, of which 28 is one or is not

module _ (retired : List ℕ) where
  unfoldable known : Refusal → Bool
  known r = one_of (1 ∷ 2 ∷ 20 ∷ 21 ∷ 22 ∷ 23 ∷ 24 ∷ 25 ∷ 26 ∷ 27 ∷ 36 ∷ retired) (number_of r)

  abbrev known_at : Refusal × ℕ → Bool
  known_at f = known f.0

  unfoldable known_if : {A : Type 0} → (A → Bool) → Option A → Bool
  known_if p none = true
  known_if p (some a) = p a

  or_known : {A : Type 0} (p : A → Bool) (a b : Option A) → known_if p a ≡ true → known_if p b ≡ true → known_if p (or_else a b) ≡ true
  or_known p none b h g = g
  or_known p (some r) b h g = h

  -- a test whose refusal is known, and those behind it
  test_known : (b : Bool) (r : Refusal) (cs : List (Bool × Refusal)) → (b ≡ true → known r ≡ true) → known_if known (first cs) ≡ true
      → known_if known (first ((b, r) ∷ cs)) ≡ true
  unfolding first known_if
  test_known true r cs h g = h refl
  test_known false r cs h g = g

  unfoldable all_known : List (Bool × Refusal) → Bool
  all_known [] = true
  all_known (c ∷ cs) = known c.1 && all_known cs

  first_known : (cs : List (Bool × Refusal)) → all_known cs ≡ true → known_if known (first cs) ≡ true
  unfolding first known_if all_known
  first_known [] h = refl
  first_known (c ∷ cs) h = let b = both (known c.1) (all_known cs) h in test_known c.0 c.1 cs (λ e. b.0) (first_known cs b.1)
    where
      both : (a b : Bool) → (a && b) ≡ true → (a ≡ true) × (b ≡ true)
      both true b e = (refl, e)
      both false b e = absurd (true≢false (sym e))

  then_known : (cs : List (Bool × Refusal)) (o : Option Refusal) → all_known cs ≡ true
      → known_if known o ≡ true → known_if known (or_else (first cs) o) ≡ true
  then_known cs o h g = or_known known (first cs) o (first_known cs h) g

  -- ---- the rules

  -- 28 is known where a waveform is noise
  abbrev Passes : Leaf KeyframeTime → Type 0
  Passes l = known NoiseHeld ≡ false → NotNoise l

  box_known : (b : Container) → known_if known (validate_container b) ≡ true
  unfolding validate_container known_if all_known known one_of
  box_known sequence = refl
  box_known parallel = refl
  box_known (group m) = refl
  box_known (stagger p d) = first_known _ refl

  -- a node, and those after it
  node_known : (i : ℕ) (o : Option Refusal) (a : Option (Refusal × ℕ)) → known_if known o ≡ true → known_if known_at a ≡ true
      → known_if known_at (or_else (at_ordinal i o) a) ≡ true
  unfolding known_if
  node_known i none a h g = g
  node_known i (some r) a h g = h

  -- noise, which passes only where 28 is known
  noise_known : (k : ℕ) → (known NoiseHeld ≡ false → k ≢ noise) → eqb k noise ≡ true → known NoiseHeld ≡ true
  noise_known k h e = go (known NoiseHeld) h
    where
      go : (b : Bool) → (b ≡ false → k ≢ noise) → b ≡ true
      go true h = refl
      go false h = absurd (h refl (eqb-true k noise e))

  module _ (t : List ℕ) where
    frames_known : (seen : List Float) (xs : List (KeyframeEntry KeyframeTime)) → known_if known (validate_frames t seen xs) ≡ true
    unfolding validate_frames known_if all_known known one_of
    frames_known seen [] = refl
    frames_known seen (x ∷ xs) =
        let y = f32 (time_of x.time) in
        then_known ((any_near y seen, DuplicateTime) ∷ (given (unknown_easing t) x.easing, UnknownEasing) ∷ []) _ refl
        (frames_known (seen ++ y ∷ []) xs)

    module _ (names : List String) where
      leaf_known : (l : Leaf KeyframeTime) → Passes l → known_if known (validate_leaf names t l) ≡ true
      unfolding validate_leaf validate_tween validate_spring validate_keyframes validate_path validate_morph validate_draw validate_color
          validate_waveform validate_preset_call known_if all_known known one_of
      leaf_known (Leaf.tween x) h = first_known _ refl
      leaf_known (Leaf.spring x) h = first_known _ refl
      leaf_known (Leaf.keyframes x) h = then_known ((ltb (length x.frames) 2, TooFewFrames) ∷ []) _ refl (frames_known [] x.frames)
      leaf_known (Leaf.path x) h = first_known _ refl
      leaf_known (Leaf.morph x) h = first_known _ refl
      leaf_known (Leaf.draw x) h = first_known _ refl
      leaf_known (Leaf.color x) h = first_known _ refl
      leaf_known (Leaf.waveform x) h =
          test_known (eqb x.kind noise) NoiseHeld _ (noise_known x.kind h)
          (first_known ((given negative x.frequency, OutOfRange) ∷ []) refl)
      leaf_known (Leaf.preset x) h = first_known _ refl
      leaf_known (Leaf.label x) h = refl
      leaf_known (Leaf.at x) h = refl

      nodes_known : (i : ℕ) (ns : Forest) → EachLeaf Passes ns → known_if known_at (validate_nodes names t i ns) ≡ true
      unfolding validate_nodes known_if EachLeaf
      nodes_known i Nodes.none h = refl
      nodes_known i (Nodes.leaf p l rest) h =
          node_known i (validate_leaf names t l) _ (leaf_known l h.0) (nodes_known (suc i) rest h.1)
      nodes_known i (Nodes.box p b ns rest) h =
          let a = validate_nodes names t (suc i) ns in
          let c = validate_nodes names t (suc i + records ns) rest in
          node_known i (validate_container b) _ (box_known b)
          (or_known known_at a c (nodes_known (suc i) ns h.0) (nodes_known (suc i + records ns) rest h.1))

  -- ---- the operation

  abbrev Known : CheckAnswer → Type 0
  Known Accepted = Unit {0}
  Known (Refused r p) = known r ≡ true

  answer_known : (o : Option (Refusal × ℕ)) → known_if known_at o ≡ true → Known (answer_of o)
  unfolding known_if
  answer_known none h = tt
  answer_known (some f) h = h

  checking_known : (list : ℕ) (t s : List ℕ) → ((ns : Forest) → decode (length t) s ≡ some ns → EachLeaf Passes ns)
      → Known (checking list t s)
  unfolding checking opening_under judged known one_of
  checking_known list t s h = go (ltb text_limit (length t)) (foreign_from 0 t) (is_list list) (decode (length t) s) refl
    where
      go : (b : Bool) (o : Option ℕ) (k : Bool) (d : Option Forest) → decode (length t) s ≡ d
          → Known (verdict list t (cond b (shut TextTooLong 0) (unless_foreign o (cond k (decoded d) (shut UnknownList 0)))))
      go true o k d e = refl
      go false (some i) k d e = refl
      go false none false d e = refl
      go false none true none e = refl
      go false none true (some ns) e =
          answer_known (validate_nodes (names_of list) t 1 ns) (nodes_known t (names_of list) 1 ns (h ns e))

-- ---- never 34, and never 28 where the tree holds no noise

module _ (list : ℕ) (t s : List ℕ) (p : ℕ) where
  pub never_unwritable : checking list t s ≢ Refused Unwritable p
  unfolding known one_of
  never_unwritable e =
      true≢false (sym (subst (Known (28 ∷ [])) e
      (checking_known (28 ∷ []) list t s (λ ns d. any_leaf (Passes (28 ∷ [])) (λ l n. absurd (true≢false n)) ns))))

  pub never-noise : ((ns : Forest) → decode (length t) s ≡ some ns → NoNoise ns) → checking list t s ≢ Refused NoiseHeld p
  unfolding known one_of
  never-noise h e =
      true≢false (sym (subst (Known []) e
      (checking_known [] list t s (λ ns d. each_leaf NotNoise (Passes []) (λ l q n. q) ns (h ns d)))))
