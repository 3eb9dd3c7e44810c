-- What follows from the laws on writing for a text and the sheet that reading gave for it.
use Prim.Native.Nat.{ℕ}
use mathlib.Core.Bool.{Bool, true, false, cond}
use mathlib.Core.List.{List}
use mathlib.Core.Option.{Option, none, some, some-injective}
use mathlib.Core.Path.{◌≡◌, refl, sym, ap, ◌∙◌, subst}
use native.Mathlib.Omega.{arith}
use lib.Dec.{ltb}
use lib.ListN.{length, take}
use Rattle.text.specs.Limits.{text_limit}
use Rattle.number.specs.Time.{Key}
use Rattle.ast.specs.Tree.{Leaf, Nodes, map_leaf, map_times}
use Rattle.sheet.specs.Sheet.{Forest, decode}
use Rattle.sheet.specs.Opening.{shut, decoded, unless_foreign, foreign_from}
use Rattle.grammar.specs.Grammar.{stored}
use Rattle.reading.specs.Reading.{Parsed, tree, wrong, reading}
use Rattle.checking.specs.Checking.{judged, verdict, is_list, opening_under, checking}
use Rattle.checking.proofs.ListLaws.{listed}
use Rattle.error.specs.declared.Refusal.{Refusal}
use Rattle.error.specs.declared.Refusal.TheVariants.{TextTooLong, UnknownList}
use Rattle.error.specs.declared.CheckAnswer.TheVariants as check
use Rattle.fresh.specs.Meaning.{sense}
use Rattle.fresh.proofs.SenseLaws.{stored_same}
use Rattle.writing.specs.Back.{sense_of}
use Rattle.law_converted.specs.NoNoise.{EachLeaf, NotNoise, NoNoise}
use Rattle.law_converted.proofs.RefusalLaws.{never-noise}
use Rattle.law_given_back.specs.Corollaries.{NeverUnwritable, AcceptedAgain, ReadsNoNoise}
use Rattle.law_given_back.proofs.ReadLaws.{parses_to, was_read}
use Rattle.law_given_back.proofs.ReadBack.{fresh, exactly_34}
use Rattle.law_given_back.proofs.JudgeLaws.{judged_alike}
use Rattle.law_given_back.proofs.NoiseLaws.{parses_no_noise}

-- ---- never 34: the text itself reads to the tree

pub never_unwritable : NeverUnwritable
never_unwritable list t scratch room n c k e bare out p w =
    let r = was_read t scratch room n c k e in
    let x = (exactly_34 list t (take n (reading t scratch room).2) out).only p w in
    let same = some-injective (map_times stored r.nodes) x.tree (sym r.holds ∙ x.decodes) in
    x.never t r.nodes r.count r.parses (sym (stored_same stored t r.nodes) ∙ ap (sense_of t) same) bare

-- ---- accepted again

-- what checking accepts, under one of the two lists, the rules accept
accepted_by : (list : ℕ) (t s : List ℕ) (ns : Forest) → decode (length t) s ≡ some ns → checking list t s ≡ check.Accepted
    → (is_list list ≡ true) × (judged list t ns ≡ check.Accepted)
unfolding checking opening_under
accepted_by list t s ns e a = go (ltb text_limit (length t)) (foreign_from 0 t) (is_list list) refl (rw e at a)
  where
    no : {A : Type 0} {r : Refusal} {p : ℕ} → check.Refused r p ≡ check.Accepted → A
    no q = let z : ◌≡◌ {A = ℕ} 0 1 = cc in absurd (omega arith)

    go : (b : Bool) (o : Option ℕ) (k : Bool) → is_list list ≡ k
        → verdict list t (cond b (shut TextTooLong 0) (unless_foreign o (cond k (decoded (some ns)) (shut UnknownList 0)))) ≡ check.Accepted
        → (is_list list ≡ true) × (judged list t ns ≡ check.Accepted)
    go true o k l q = no q
    go false (some i) k l q = no q
    go false none false l q = no q
    go false none true l q = (l, q)

abbrev tree_of : Parsed → Nodes Key
tree_of (tree ns k) = ns
tree_of (wrong r p) = Nodes.none

pub accepted_again : AcceptedAgain
accepted_again list t s out n after w scratch room m c k e =
    let u = take n after in
    let f = fresh list t s out n after w in
    let r = was_read u scratch room m c k e in
    let a = accepted_by list t s f.tree f.decodes f.checks in
    let one : r.nodes ≡ f.reads.tree = ap tree_of (sym r.parses ∙ parses_to f.reads) in
    let same : sense_of u (map_times stored r.nodes) ≡ sense_of t f.tree =
    stored_same stored u r.nodes ∙ ap (sense stored u) one ∙ f.reads.same in
    listed u (take m (reading u scratch room).2) list a.0 ∙ ap (verdict list u) r.opens
    ∙ judged_alike list u t (map_times stored r.nodes) f.tree same ∙ a.1

-- ---- no noise

leaf_quiet : (l : Leaf Key) → NotNoise l → NotNoise (map_leaf stored l)
leaf_quiet (Leaf.tween x) h = tt
leaf_quiet (Leaf.spring x) h = tt
leaf_quiet (Leaf.keyframes x) h = tt
leaf_quiet (Leaf.path x) h = tt
leaf_quiet (Leaf.morph x) h = tt
leaf_quiet (Leaf.draw x) h = tt
leaf_quiet (Leaf.color x) h = tt
leaf_quiet (Leaf.waveform x) h = h
leaf_quiet (Leaf.preset x) h = tt
leaf_quiet (Leaf.label x) h = tt
leaf_quiet (Leaf.at x) h = tt

stored_quiet : (ns : Nodes Key) → NoNoise ns → NoNoise (map_times stored ns)
unfolding EachLeaf
stored_quiet Nodes.none h = tt
stored_quiet (Nodes.leaf p l rest) h = (leaf_quiet l h.0, stored_quiet rest h.1)
stored_quiet (Nodes.box p b inner rest) h = (stored_quiet inner h.0, stored_quiet rest h.1)

pub reads_no_noise : ReadsNoNoise
reads_no_noise t scratch room n c k e =
    let r = was_read t scratch room n c k e in
    let s = take n (reading t scratch room).2 in
    let held = map_times stored r.nodes in
    let quiet : NoNoise held = stored_quiet r.nodes (parses_no_noise t r.nodes r.count r.parses) in
    record {
      held = held;
      decodes = r.holds;
      none = quiet;
      never = λ list p. never-noise list t s p (λ ns d. subst NoNoise (some-injective held ns (sym r.holds ∙ d)) quiet);
    }
