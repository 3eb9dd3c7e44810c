-- 02 (m): renaming cannot change a verdict.
use Prim.Native.Nat.{ℕ, suc}
use mathlib.Core.Bool.{true}
use mathlib.Core.List.{List}
use mathlib.Core.Option.{none}
use mathlib.Core.Path.{◌≡◌, refl, sym, ap, ◌∙◌, subst}
use lib.ListN.{length, take}
use Rattle.number.specs.Time.{Key}
use Rattle.token.specs.Token.{Token, tokens_from}
use Rattle.token.proofs.StreamLaws.{split-reads}
use Rattle.ast.specs.Tree.{Nodes, map_times}
use Rattle.grammar.specs.Rule.{Notes, Out, got}
use Rattle.grammar.specs.Grammar.{stored, animato_input}
use Rattle.reading.specs.Reading.{parse, tree, reading}
use Rattle.law_limits.proofs.Limits.{Parses, parses}
use Rattle.colors.specs.Css.{names_of}
use Rattle.checking.specs.Checking.{answer_of, judged, is_list, checking}
use Rattle.error.specs.declared.ReadAnswer.{ReadAnswer}
use Rattle.error.specs.declared.ReadAnswer.TheVariants.{Accepted, Refused}
use Rattle.script.proofs.Reading.{due}
use Rattle.script.proofs.Closed.{demand3}
use Rattle.law_renamed.specs.Words.{free_of}
use Rattle.law_renamed.specs.Renaming.{Renamed, Renaming}
use Rattle.law_renamed.proofs.StreamLaws.{Across, across_of, across_from, Scripts, Pair}
use Rattle.law_renamed.proofs.TextLaws.{fine_all, few_all}
use Rattle.law_renamed.proofs.StepLaws.{Twins}
use Rattle.law_renamed.proofs.NodeLaws.{NodesAlike, input_alike}

-- ---- the grammar's trees

abbrev at_start : List ℕ → Notes
at_start t = record { leftover = none; rounded = 0; bound = suc (length t) }

-- what the grammar makes of a script's tokens
gives : (t : List ℕ) (ns : Nodes Key) (p : Parses t ns) → animato_input (at_start t) (tokens_from t 0) ≡ got ns p.notes p.left
gives t ns p = ap (animato_input (at_start t)) (split-reads t p.ts p.splits) ∙ p.gives

-- the place in u of the token that stands where the one at a place of t does
abbrev pub across_to : List ℕ → List ℕ → ℕ → ℕ
across_to t u = across_of (tokens_from t 0) (tokens_from u 0)

pub across_all : (t u : List ℕ) → Across (across_to t u) (tokens_from t 0) (tokens_from u 0)
across_all t u = across_from t (across_to t u) (tokens_from t 0) (tokens_from u 0) (fine_all t) (λ p e. refl)

-- trees of scripts that agree
pub alike : (t u : List ℕ) (ns ms : Nodes Key) (j k : ℕ) → parse t ≡ tree ns j → parse u ≡ tree ms k → Renamed t u
    → NodesAlike (record { text = t; other = u; free = free_of ns; across = across_to t u }) ns ms
unfolding Renamed
alike t u ns ms j k e g h =
    let x : Scripts = record { text = t; other = u; free = free_of ns; across = across_to t u } in
    let ts : List Token = tokens_from t 0 in
    let us : List Token = tokens_from u 0 in
    let p = parses t ns e in
    let q = parses u ms g in
    let i : Pair x ts us = record { fine = fine_all t; also = fine_all u; agrees = rw e at h; places = across_all t u } in
    let w = (input_alike x).twins tt (at_start t) (at_start u) ts us i (few_all t) (few_all u) in
    let v = subst (λ (o : Out (Nodes Key)). Twins x free_of (NodesAlike x) ts (at_start u) o (animato_input (at_start u) us)) (gives t ns p) w
    in
    let z = subst (λ (o : Out (Nodes Key)). Twins x free_of (NodesAlike x) ts (at_start u) (got ns p.notes p.left) o) (gives u ms q) v
    in
    (z (λ y e lo hi. e)).related

-- ---- reading, then checking

abbrev length_of : ReadAnswer → ℕ
length_of (Accepted n c k) = n
length_of (Refused r p) = 0

-- the checking rules' answer to the tree
said : (list : ℕ) → is_list list ≡ true → (t scratch sheet : List ℕ) (n c k : ℕ) (e : (reading t scratch sheet).0 ≡ Accepted n c k)
    → checking list t (take n (reading t scratch sheet).2) ≡ judged list t (map_times stored (due t scratch sheet n c k e).0)
said list known t scratch sheet n c k e =
    let d = due t scratch sheet n c k e in
    let v = checking list t (take n (reading t scratch sheet).2) in
    let a = (demand3 list known t scratch sheet v
    (λ m c' k' g. ap (λ (i : ℕ). checking list t (take i (reading t scratch sheet).2)) (ap length_of (sym e ∙ g)))
    ).whenever d.0 k d.1 in
    a.checked ∙ ap (judged list t) a.same

pub renaming : Renaming
unfolding judged
renaming list known t scratch sheet n c k e u scratch' sheet' m d j g h =
    let a = due t scratch sheet n c k e in
    let b = due u scratch' sheet' m d j g in
    let r = alike t u a.0 b.0 k j a.1.parses b.1.parses h in
    said list known t scratch sheet n c k e ∙ ap answer_of (r.says (names_of list) 1) ∙ sym (said list known u scratch' sheet' m d j g)
