-- 02 (f): "34 exactly if no text under 01's rules, its length limit set aside, reads to that tree".
use Prim.Native.Nat.{ℕ, suc, ◌+◌}
use mathlib.Core.Bool.{true}
use mathlib.Core.List.{List, [], ◌∷◌}
use mathlib.Core.Logic.{◌↔◌}
use mathlib.Core.Path.{◌≡◌, refl, ap, ◌∙◌, subst}
use native.Mathlib.Omega.{arith}
use Rattle.number.specs.Time.{Key}
use Rattle.token.specs.Token.{Token, tokens_from}
use Rattle.token.proofs.StreamLaws.{split-reads}
use Rattle.ast.specs.Tree.{Nodes}
use Rattle.grammar.specs.Rule.{Notes, Out, got}
use Rattle.grammar.specs.Grammar.{stored, animato_input}
use Rattle.pieces.specs.Pieces.{Piece, a_word, a_name, a_plain, a_numeral, a_string, a_mark, a_pair, Form, spelt, ahead, laid}
use Rattle.pieces.specs.Means.{AllFit, Complete}
use Rattle.pieces.proofs.FitLaws.{all_fit_lem, fit_all}
use Rattle.pieces.proofs.JoinLaws.{joined_splits}
use Rattle.fresh.proofs.NestLaws.{nodes-nest}
use lib.ListN.{length}
use Rattle.pieces.proofs.FormLaws.{complete}
use Rattle.digits.specs.Fewest as fewest
use Rattle.fresh.specs.Meaning.{Sense, sense}
use Rattle.fresh.specs.Fresh.{pieces, script, has_text}
use Rattle.fresh.specs.Reads.{start, ReadsTo, Deep}
use Rattle.fresh.proofs.Back.{reads_back}
use Rattle.law_rules.specs.Bare.{bare, NoExponent}
use Rattle.law_rules.proofs.RunLaws.{Outcome}
use Rattle.law_writable.proofs.NodeFits.{NodesFit, input_fits}

module _ (form : Form) (complete : Complete form) where
  -- Law C: u is any text, of any length, read with any bound and whatever is left over
  pub all-written : (u : List ℕ) (l m : Notes) (ts : List Token) (a : Nodes Key) → animato_input l (tokens_from u 0) ≡ got a m ts
      → bare (tokens_from u 0) ≡ true → AllFit form (pieces (sense stored u a) [])
  all-written u l m ts a e b =
      let y : Outcome u (got a m ts) (λ a m. NodesFit complete u a) =
      subst (λ (o : Out (Nodes Key)). Outcome u o (λ a m. NodesFit complete u a)) e (((input_fits complete u).runs 0 (omega arith) b).run l)
      in
      y.post.fits [] tt

  -- a text that reads to a tree leaves no cause of 34
  pub some_text : (u : List ℕ) (x : Sense) → ReadsTo u x → NoExponent u → has_text form x ≡ true
  some_text u x r b =
      fit_all form (pieces x [])
      (subst (λ (y : Sense). AllFit form (pieces y [])) r.same
      (all-written u (start u) r.notes r.left r.tree
      (ap (animato_input (start u)) (split-reads u r.cut r.splits) ∙ r.gives) b))

-- where there is no cause, the script of these rules reads to the tree
pub script-reads : (form : Form) (x : Sense) → Deep 16 x → has_text form x ≡ true → ReadsTo (script form x) x
script-reads form x h e = reads_back form x h (all_fit_lem form (pieces x []) e)

-- and it has no exponent
bare_laid : (form : Form) (q : ℕ) (xs : List Piece) → bare (laid form q xs) ≡ true
unfolding bare laid ahead
bare_laid form q [] = refl
bare_laid form q (x ∷ xs) = go x (laid form (suc (q + length (spelt form x))) xs) (bare_laid form (suc (q + length (spelt form x))) xs)
  where
    go : (x : Piece) (ts : List Token) → bare ts ≡ true → bare (ahead form q x ts) ≡ true
    go (a_word w) ts h = h
    go (a_name w) ts h = h
    go (a_plain w) ts h = h
    go (a_numeral k b) ts h = h
    go (a_string s) ts h = h
    go (a_mark b) ts h = h
    go (a_pair b c) ts h = h

script-bare : (form : Form) (x : Sense) → Deep 16 x → has_text form x ≡ true → NoExponent (script form x)
script-bare form x h e =
    let ps = pieces x [] in
    let f = all_fit_lem form ps e in
    rw (split-reads (script form x) (laid form 0 ps)
    (joined_splits form ps f (nodes-nest x 16 h (omega arith) (record { is = refl })).is))
    (bare_laid form 0 ps)

pub exactly : (form : Form) → Complete form → (x : Sense) → Deep 16 x
    → (has_text form x ≡ true) ↔ ((u : List ℕ) × (ReadsTo u x × NoExponent u))
exactly form complete x h = (
  λ e. (script form x, (script-reads form x h e, script-bare form x h e)),
  λ r. some_text form complete r.0 x r.1.0 r.1.1,
)

-- for the digits that these rules have
pub written_exactly : (x : Sense) → Deep 16 x → (has_text fewest.form x ≡ true) ↔ ((u : List ℕ) × (ReadsTo u x × NoExponent u))
written_exactly = exactly fewest.form complete
