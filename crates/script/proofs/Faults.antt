-- From the first fault of a tree to the faults of its tracks.
use Prim.Native.Nat.{ℕ, zero, suc, ◌+◌, ◌<◌}
use Prim.Native.String.{String}
use mathlib.Core.Bool.{Bool, true, false, ◌||◌, cond}
use mathlib.Core.List.{List, [], ◌∷◌, ◌++◌}
use mathlib.Core.Option.{Option, none, some, some-injective}
use mathlib.Core.Path.{◌≡◌, refl, sym, ap, ◌∙◌}
use mathlib.Core.Logic.{◌⊎◌, inl, inr, ⊎_elim}
use native.Mathlib.Omega.{arith}
use native.Mathlib.Nat.{zero-add, suc-add}
use lib.Dec.{ltb}
use lib.ListN.{length, get_elem?, length-append}
use lib.Ieee.{Float}
use Rattle.text.specs.Words.{or_else}
use Rattle.number.specs.Number.{f32}
use Rattle.number.specs.Time.{any_near, duplicates}
use Rattle.ast.specs.Tree.{KeyframeTime, KeyframeEntry, KeyframeSpec, Leaf, keyframes, Container, Nodes, leaf, box, records, preorder}
use Rattle.checking.specs.Rules.{time_of, given, unknown_easing, first, validate_frames, validate_keyframes}
use Rattle.checking.specs.Rules.{validate_leaf, validate_container, at_ordinal, validate_nodes}
use Rattle.checking.proofs.FrameLaws.{stamps}
use Rattle.law_rules.proofs.ListLaws.{none≢some}
use Rattle.error.specs.declared.Refusal.{Refusal}
use Rattle.error.specs.declared.Refusal.TheVariants.{DuplicateTime, UnknownEasing, TooFewFrames}

-- ---- the frames of a track

-- a rule's refusal is another
other : {A B : Type 0} (r s : A) → (r ≡ s → ⊥) → some r ≡ some s → B
other r s n e = absurd (n (some-injective r s e))

easing-time : UnknownEasing ≡ DuplicateTime → ⊥
easing-time e = let z : ◌≡◌ {A = ℕ} 0 1 = cc in omega arith

few_time : TooFewFrames ≡ DuplicateTime → ⊥
few_time e = let z : ◌≡◌ {A = ℕ} 0 1 = cc in omega arith

-- a frame with no fault, and one that is refused for its time or has others behind it
frame_clear : (a b d : Bool) (o : Option Refusal) → (o ≡ none → d ≡ false)
    → or_else (cond a (some DuplicateTime) (cond b (some UnknownEasing) none)) o ≡ none
    → (a || d) ≡ false
frame_clear true b d o h e = none≢some (sym e)
frame_clear false true d o h e = none≢some (sym e)
frame_clear false false d o h e = h e

frame-near : (a b d : Bool) (o : Option Refusal) → (o ≡ some DuplicateTime → d ≡ true)
    → or_else (cond a (some DuplicateTime) (cond b (some UnknownEasing) none)) o ≡ some DuplicateTime
    → (a || d) ≡ true
frame-near true b d o h e = refl
frame-near false true d o h e = other UnknownEasing DuplicateTime easing-time e
frame-near false false d o h e = h e

module _ (t : List ℕ) where
  -- a track with no fault has no duplicates
  frames_clear : (seen : List Float) (xs : List (KeyframeEntry KeyframeTime))
      → validate_frames t seen xs ≡ none → duplicates seen (stamps xs) ≡ false
  unfolding validate_frames duplicates first
  frames_clear seen [] e = refl
  frames_clear seen (x ∷ xs) e =
      frame_clear (any_near (f32 (time_of x.time)) seen) (given (unknown_easing t) x.easing) _ _
      (λ q. frames_clear (seen ++ f32 (time_of x.time) ∷ []) xs q) e

  -- one that is refused for a duplicate has some
  frames-near : (seen : List Float) (xs : List (KeyframeEntry KeyframeTime))
      → validate_frames t seen xs ≡ some DuplicateTime → duplicates seen (stamps xs) ≡ true
  unfolding validate_frames duplicates first
  frames-near seen [] e = none≢some e
  frames-near seen (x ∷ xs) e =
      frame-near (any_near (f32 (time_of x.time)) seen) (given (unknown_easing t) x.easing) _ _
      (λ q. frames-near (seen ++ f32 (time_of x.time) ∷ []) xs q) e

  pub track_clear : (names : List String) (y : KeyframeSpec KeyframeTime)
      → validate_leaf names t (keyframes y) ≡ none → duplicates [] (stamps y.frames) ≡ false
  unfolding validate_leaf validate_keyframes first
  track_clear names y e = go (ltb (length y.frames) 2) e
    where
      go : (b : Bool)
          → or_else (cond b (some TooFewFrames) none) (validate_frames t [] y.frames) ≡ none
          → duplicates [] (stamps y.frames) ≡ false
      go true q = none≢some (sym q)
      go false q = frames_clear [] y.frames q

  pub track-near : (names : List String) (y : KeyframeSpec KeyframeTime)
      → validate_leaf names t (keyframes y) ≡ some DuplicateTime
      → duplicates [] (stamps y.frames) ≡ true
  unfolding validate_leaf validate_keyframes first
  track-near names y e = go (ltb (length y.frames) 2) e
    where
      go : (b : Bool)
          → or_else (cond b (some TooFewFrames) none) (validate_frames t [] y.frames) ≡ some DuplicateTime
          → duplicates [] (stamps y.frames) ≡ true
      go true q = other TooFewFrames DuplicateTime few_time q
      go false q = frames-near [] y.frames q

-- ---- the nodes of a tree, in preorder

-- a place in two lists, one after the other
module _ {A : Type 0} where
  in_first : (xs ys : List A) (i : ℕ) → i < length xs → get_elem? (xs ++ ys) i ≡ get_elem? xs i
  in_first [] ys i h = absurd (omega arith)
  in_first (x ∷ xs) ys zero h = refl
  in_first (x ∷ xs) ys (suc i) h = in_first xs ys i (omega arith)

  in_second : (xs ys : List A) (i : ℕ) → get_elem? (xs ++ ys) (length xs + i) ≡ get_elem? ys i
  in_second [] ys i = rw zero-add
  in_second (x ∷ xs) ys i = rw suc-add (in_second xs ys i)

  in_either : (xs ys : List A) (i : ℕ) (v : A) → get_elem? (xs ++ ys) i ≡ some v
      → (get_elem? xs i ≡ some v) ⊎ ((k : ℕ) × (get_elem? ys k ≡ some v))
  in_either [] ys i v h = inr (i, h)
  in_either (x ∷ xs) ys zero v h = inl h
  in_either (x ∷ xs) ys (suc i) v h = in_either xs ys i v h

preorder-length : (ns : Nodes KeyframeTime) → length (preorder ns) ≡ records ns
preorder-length Nodes.none = refl
preorder-length (leaf p l rest) = ap suc (preorder-length rest)
preorder-length (box p b inner rest) =
    ap suc (length-append (preorder inner) (preorder rest) ∙ (rw (preorder-length inner, preorder-length rest)))

no_leaf : {A B : Type 0} {l : A} → Prim.Path (Option (Option A)) (some none) (some (some l)) → B
no_leaf {A} {B} {l} e = none≢some (some-injective none (some l) e)

same_leaf : {A : Type 0} (l m : A) → Prim.Path (Option (Option A)) (some (some l)) (some (some m)) → l ≡ m
same_leaf l m e = some-injective l m (some-injective (some l) (some m) e)

neither : {A : Type 0} (o p : Option A) → or_else o p ≡ none → (o ≡ none) × (p ≡ none)
neither none p e = (refl, e)
neither (some a) p e = none≢some (sym e)

at_none : (j : ℕ) (o : Option Refusal) → at_ordinal j o ≡ none → o ≡ none
at_none j none e = refl
at_none j (some r) e = none≢some (sym e)

module _ (names : List String) (t : List ℕ) where
  -- in a tree with no fault no leaf has one
  pub clear : (j : ℕ) (ns : Nodes KeyframeTime) → validate_nodes names t j ns ≡ none
      → (i : ℕ) (l : Leaf KeyframeTime) → get_elem? (preorder ns) i ≡ some (some l)
      → validate_leaf names t l ≡ none
  unfolding validate_nodes
  clear j Nodes.none e i l h = none≢some h
  clear j (leaf p m rest) e zero l h = rw (sym (same_leaf m l h)) (at_none j _ (neither (at_ordinal j (validate_leaf names t m)) _ e).0)
  clear j (leaf p m rest) e (suc i) l h = clear (suc j) rest (neither (at_ordinal j (validate_leaf names t m)) _ e).1 i l h
  clear j (box p b inner rest) e zero l h = no_leaf h
  clear j (box p b inner rest) e (suc i) l h =
      let f = neither (validate_nodes names t (suc j) inner) _ (neither (at_ordinal j (validate_container b)) _ e).1 in
      ⊎_elim (λ q. clear (suc j) inner f.0 i l q) (λ q. clear (suc j + records inner) rest f.1 q.0 l q.1)
      (in_either (preorder inner) (preorder rest) i (some l) h)

  -- the node that the first fault is at
  pub record Located (j : ℕ) (ns : Nodes KeyframeTime) (r : Refusal) (n : ℕ) : Type 0 where
    pub at : ℕ
    pub is : n ≡ j + at
    pub low : at < length (preorder ns)
    pub fault : (l : Leaf KeyframeTime) → get_elem? (preorder ns) at ≡ some (some l) → validate_leaf names t l ≡ some r

  -- it is at the first node; or at one behind it
  here : (j n : ℕ) (r : Refusal) (o : Option Refusal) → at_ordinal j o ≡ some (r, n) → (o ≡ some r) × (n ≡ j)
  here j n r none e = none≢some e
  here j n r (some s) e =
      let q = some-injective (s, j) (r, n) e in (ap some (ap (λ (p : Refusal × ℕ). p.0) q), sym (ap (λ (p : Refusal × ℕ). p.1) q))

  either : {A : Type 0} (o p : Option A) (a : A) → or_else o p ≡ some a → (o ≡ some a) ⊎ (p ≡ some a)
  either none p a e = inr e
  either (some b) p a e = inl e

  in_box : (p : ℕ) (b : Container) (inner rest : Nodes KeyframeTime) (j n : ℕ) (r : Refusal)
      → Located (suc j) inner r n ⊎ Located (suc j + records inner) rest r n
      → Located j (box p b inner rest) r n
  in_box p b inner rest j n r (inl w) = record {
    at = suc w.at;
    is = omega (arith, w.is);
    low = rw length-append (omega (arith, w.low));
    fault = λ l h. w.fault l (sym (in_first (preorder inner) (preorder rest) w.at w.low) ∙ h);
  }
  in_box p b inner rest j n r (inr w) =
      let q = preorder-length inner in record {
        at = suc (length (preorder inner) + w.at);
        is = omega (arith, w.is);
        low = rw length-append (omega (arith, w.low));
        fault = λ l h. w.fault l (sym (in_second (preorder inner) (preorder rest) w.at) ∙ h);
      }

  pub locate : (j : ℕ) (ns : Nodes KeyframeTime) (r : Refusal) (n : ℕ) → validate_nodes names t j ns ≡ some (r, n) → Located j ns r n
  unfolding validate_nodes
  locate j Nodes.none r n e = none≢some e
  locate j (leaf p m rest) r n e =
      ⊎_elim (λ q.
      let f = here j n r (validate_leaf names t m) q in
      record {
        at = 0;
        is = omega (arith, f.1);
        low = omega arith;
        fault = λ l h. rw (sym (same_leaf m l h)) f.0;
      })
      (λ q.
      let w = locate (suc j) rest r n q in
      record { at = suc w.at; is = omega (arith, w.is); low = omega (arith, w.low); fault = w.fault })
      (either (at_ordinal j (validate_leaf names t m)) _ (r, n) e)
  locate j (box p b inner rest) r n e =
      ⊎_elim (λ q.
      let f = here j n r (validate_container b) q in
      record { at = 0; is = omega (arith, f.1); low = omega arith; fault = λ l h. no_leaf h })
      (λ q. in_box p b inner rest j n r
      (⊎_elim (λ x. inl (locate (suc j) inner r n x)) (λ x. inr (locate (suc j + records inner) rest r n x))
      (either (validate_nodes names t (suc j) inner) _ (r, n) q)))
      (either (at_ordinal j (validate_container b)) _ (r, n) e)
