-- From a text, a list and a sheet's head to the verdict.
use Prim.Native.Nat.{ℕ, ◌≤◌, ◌<◌}
use mathlib.Core.Bool.{Bool, true, false, cond}
use mathlib.Core.List.{List}
use mathlib.Core.Option.{Option, none, some, some-injective}
use mathlib.Core.Logic.{⊎_elim}
use mathlib.Core.Path.{◌≡◌, refl, sym, ◌∙◌, ap}
use native.Mathlib.Omega.{arith}
use lib.Dec.{ltb, eqb}
use lib.ListN.{length, drop}
use borrow.Author.Tests.{eq-eqb, ne_eqb}
use Rattle.text.specs.Limits.{text_limit}
use Rattle.text.specs.Words.{is_some}
use Rattle.codec.specs.Codec.{big}
use Rattle.sheet.specs.Sheet.{Forest, forest, inner, decode}
use Rattle.sheet.specs.Opening.{shut, foreign_from, unless_foreign, decoded}
use Rattle.sheet_decode.specs.Means.{Reads, got, bad, same, passed}
use Rattle.sheet_refusals.specs.Means.{answer_of, earlier, foreign_answer, text_answer, bytes_answer}
use Rattle.sheet_refusals.specs.declared.Opening.{Opening}
use Rattle.sheet_refusals.specs.declared.Opening.TheVariants.{Open, Shut}
use Rattle.error.specs.declared.Refusal.{Refusal}
use Rattle.error.specs.declared.Refusal.TheVariants.{TextTooLong, NotASheet, UnknownList}
use Rattle.error.specs.declared.CheckAnswer.TheVariants.{Refused}
use Rattle.colors.specs.Css.{names_of}
use Rattle.sheet_decode.proofs.ReadLaws.{le_or_lt, mapped}
use Rattle.sheet_records.proofs.WalkLaws.{decides}
use Rattle.sheet_refusals.proofs.OpenLaws.{Tree, text-first, the_tree, the-refusal}
use Rattle.checking.specs.Rules.{validate_nodes}
use Rattle.checking.specs.Checking.{answer_of as verdict_of, judged, verdict, is_list, unless_unknown, opening_under, checking}
use Rattle.checking.proofs.ListLaws.{known}
use Rattle.sheet_nodes.specs.Means.{Stands}
use Rattle.sheet_nodes.proofs.StandLaws.{none≢some, head}
use Rattle.validate.specs.Means.{InLimit, list_answer}
use Rattle.validate.specs.WalkMeans.{nodes_view}

-- ---- the list

pub a_list : (list : ℕ) → 1 ≤ list → list ≤ 2 → Open ≡ list_answer list
unfolding is_list
a_list list h l = ⊎_elim (λ k. rw (one list h k)) (λ k. rw (two list l k)) (le_or_lt list 1)
  where
    one : (n : ℕ) → 1 ≤ n → n ≤ 1 → n ≡ 1
    one n h k = omega arith

    two : (n : ℕ) → n ≤ 2 → 1 < n → n ≡ 2
    two n l k = omega arith

pub no_list : (list : ℕ) → (list ≡ 1 → ⊥) → (list ≡ 2 → ⊥) → Shut UnknownList 0 ≡ list_answer list
unfolding is_list
no_list list n1 n2 = rw (ne_eqb list 1 n1, ne_eqb list 2 n2)

-- ---- the first refusal

-- the first of three answers that is shut
of_three : (a b c : Opening) → earlier (earlier a b) c ≡ earlier a (earlier b c)
of_three Open b c = refl
of_three (Shut r p) b c = refl

module _ (list : ℕ) (t s : List ℕ) where
  -- 1 and 2, then 36, then 20
  in_order : earlier (text_answer t) (earlier (list_answer list) (bytes_answer (length t) s)) ≡ answer_of (opening_under list t s)
  unfolding opening_under bytes_answer
  in_order = ap (earlier (text_answer t)) (go (is_list list)) ∙ text-first t (unless_unknown list (decoded (decode (length t) s)))
    where
      go : (b : Bool) → earlier (cond b Open (Shut UnknownList 0)) (answer_of (decoded (decode (length t) s)))
          ≡ answer_of (cond b (decoded (decode (length t) s)) (shut UnknownList 0))
      go true = refl
      go false = refl

  -- what is shut first of a text a, a list b and bytes c, where o is what is shut first of the first two
  pub first_shut : {a b c o : Opening} → a ≡ text_answer t → b ≡ list_answer list → o ≡ earlier a b → c ≡ bytes_answer (length t) s
      → earlier o c ≡ answer_of (opening_under list t s)
  first_shut {a} {b} {c} ea eb eo ec = rw eo (of_three a b c ∙ rw (ea, eb, ec) in_order)

  pub shut_refused : {r : Refusal} {p : ℕ} → Shut r p ≡ answer_of (opening_under list t s) → Refused r p ≡ checking list t s
  unfolding checking
  shut_refused e = rw (the-refusal (opening_under list t s) e)

  module _ (o : Open ≡ answer_of (opening_under list t s)) where
    is_list_lem : is_list list ≡ true
    is_list_lem = go (text_answer t) (is_list list) refl (o ∙ sym in_order)
      where
        go : (a : Opening) (b : Bool) → is_list list ≡ b
            → Open ≡ earlier a (earlier (cond b Open (Shut UnknownList 0)) (bytes_answer (length t) s)) → is_list list ≡ true
        go a true q e = q
        go Open false q e = let z : ◌≡◌ {A = ℕ} 0 1 = cc in absurd (omega arith)
        go (Shut r p) false q e = let z : ◌≡◌ {A = ℕ} 0 1 = cc in absurd (omega arith)

    pub its_tree : Tree t s
    its_tree = the_tree t s (o ∙ ap answer_of (known t s list is_list_lem))

  -- what is shut of the text and the list is refused so
  pub refused_first : {a b : Opening} {r : Refusal} {p : ℕ} → a ≡ text_answer t → b ≡ list_answer list → Shut r p ≡ earlier a b
      → Refused r p ≡ checking list t s
  refused_first ea eb eo = shut_refused (first_shut ea eb eo refl)

  -- where neither is, the bytes decide
  pub bytes_decide : {a b : Opening} → a ≡ text_answer t → b ≡ list_answer list → Open ≡ earlier a b
      → verdict list t (decoded (decode (length t) s)) ≡ checking list t s
  unfolding checking opening_under text_answer
  bytes_decide ea eb eo = go (ltb text_limit (length t)) (foreign_from 0 t) (is_list list) (eo ∙ (λ i. earlier (ea i) (eb i)))
    where
      go : (b : Bool) (f : Option ℕ) (l : Bool)
          → Open ≡ earlier (cond b (Shut TextTooLong 0) (foreign_answer f)) (cond l Open (Shut UnknownList 0))
          → verdict list t (decoded (decode (length t) s))
          ≡ verdict list t (cond b (shut TextTooLong 0) (unless_foreign f (cond l (decoded (decode (length t) s)) (shut UnknownList 0))))
      go false none true e = refl
      go true f l e = let z : ◌≡◌ {A = ℕ} 0 1 = cc in absurd (omega arith)
      go false (some i) l e = let z : ◌≡◌ {A = ℕ} 0 1 = cc in absurd (omega arith)
      go false none false e = let z : ◌≡◌ {A = ℕ} 0 1 = cc in absurd (omega arith)

-- ---- the bytes

module _ (list : ℕ) (t s : List ℕ) where
  pub no_sheet : false ≡ is_some (decode (length t) s) → Refused NotASheet 0 ≡ verdict list t (decoded (decode (length t) s))
  no_sheet e = go (decode (length t) s) e
    where
      go : (o : Option Forest) → false ≡ is_some o → Refused NotASheet 0 ≡ verdict list t (decoded o)
      go none e = refl
      go (some ns) e = let z : ◌≡◌ {A = ℕ} 0 1 = cc in absurd (omega arith)

  -- the head's count, and the walk over so many nodes
  module _ (short : InLimit s) {c b : ℕ} (r : Reads (big 2) same s 0 c b) {f : Option (Refusal × ℕ)} {z m : ℕ}
      (w : Reads {X = Option (Refusal × ℕ) × ℕ} (forest (length t) (inner (length t) 16) c) (nodes_view list t 1) s b (f, z) m) where
    ends : eqb m (length s) ≡ is_some (decode (length t) s)
    ends = decides (length t) s short r (mapped passed w)

    pub stops : (m ≡ length s → ⊥) → Refused NotASheet 0 ≡ verdict list t (decoded (decode (length t) s))
    stops n = no_sheet (sym (ne_eqb m (length s) n) ∙ ends)

    pub judges : m ≡ length s → verdict_of f ≡ verdict list t (decoded (decode (length t) s))
    unfolding judged
    judges e = go (decode (length t) s) refl (sym (eq-eqb m (length s) e) ∙ ends)
      where
        same_nodes : (ns : Forest) (h : Stands (forest (length t) (inner (length t) 16) c) s b ns)
            → Reads {X = Option (Refusal × ℕ) × ℕ} (forest (length t) (inner (length t) 16) c) (nodes_view list t 1) s b (f, z) m
            → f ≡ validate_nodes (names_of list) t 1 ns
        same_nodes ns h (got ms e q a l) =
            let p = some-injective (ms, drop m s) (ns, h.rest) (sym e ∙ h.reads) in
            sym (λ i. (q i).0) ∙ ap (λ (x : Forest × List ℕ). validate_nodes (names_of list) t 1 x.0) p
        same_nodes ns h (bad o n) = none≢some (sym (n h.within) ∙ h.reads)

        go : (o : Option Forest) → decode (length t) s ≡ o → true ≡ is_some o → verdict_of f ≡ verdict list t (decoded o)
        go none d e = let z : ◌≡◌ {A = ℕ} 0 1 = cc in absurd (omega arith)
        go (some ns) d e = ap verdict_of (same_nodes ns (head (length t) s ns d r) w)

-- ---- what equals checking has its values
