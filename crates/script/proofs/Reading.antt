-- Demand 3's first sentence: reading accepts exactly where none of its refusals is due, and what the sheet then holds.
use Prim.Native.Nat.{ℕ, ◌-◌, ◌≤◌}
use mathlib.Core.Bool.{Bool, true, false, cond}
use mathlib.Core.List.{List, [], ◌++◌}
use mathlib.Core.Option.{Option, none, some}
use mathlib.Core.Path.{◌≡◌, refl, sym, ap, ◌∙◌, subst}
use borrow.Author.Tests.{le-ltb, ltb-false}
use lib.Dec.{ltb}
use lib.ListN.{length, replicate}
use Rattle.text.specs.Limits.{text_limit}
use Rattle.number.specs.Time.{Key}
use Rattle.ast.specs.Tree.{Nodes, map_times, records}
use Rattle.sheet.specs.Sheet.{encode}
use Rattle.grammar.specs.Grammar.{stored}
use Rattle.reading.specs.Reading.{Parsed, tree, wrong, parse, early, fitting, answered, unless_early, reading, scratch_words}
use Rattle.law_rules.proofs.ListLaws.{none≢some}
use Rattle.error.specs.declared.Refusal.{Refusal}
use Rattle.error.specs.declared.Refusal.TheVariants.{TextTooLong, ScratchTooShort, SheetTooShort}
use Rattle.error.specs.declared.ReadAnswer.{ReadAnswer}
use Rattle.error.specs.declared.ReadAnswer.TheVariants.{Accepted, Refused}
use Rattle.script.specs.Claim.{Unrefused}

-- ---- no refusal is due

-- the sheet of a text's tree
abbrev pub sheet_of : List ℕ → Nodes Key → List ℕ
sheet_of t ns = encode (length t) (map_times stored ns)

module _ (t scratch sheet : List ℕ) (ns : Nodes Key) (k : ℕ) (h : Unrefused t (length scratch) (length sheet) ns k) where
  -- reading accepts, and the sheet is the tree's encoding and zeros behind it
  pub accepts : reading t scratch sheet
      ≡ (
        Accepted (length (sheet_of t ns)) (records ns) k,
        replicate (length scratch) 0,
        sheet_of t ns ++ replicate (length sheet - length (sheet_of t ns)) 0,
      )
  unfolding reading early
  accepts =
      rw (
        le-ltb text_limit (length t) h.short,
        le-ltb (length scratch) scratch_words h.scratch,
        h.parses,
        le-ltb (length sheet) (length (sheet_of t ns)) h.fits,
      )

-- ---- where reading accepts, no refusal is due

abbrev IsAccepted : ReadAnswer → Type 0
IsAccepted (Accepted n c k) = Unit {0}
IsAccepted (Refused r p) = ⊥

early_due : (size words : ℕ) → early size words ≡ none → (size ≤ text_limit) × (scratch_words ≤ words)
unfolding early
early_due size words e = go (ltb text_limit size) (ltb words scratch_words) refl refl e
  where
    go : (b c : Bool) → ltb text_limit size ≡ b → ltb words scratch_words ≡ c
        → cond {A = Option Refusal} b (some TextTooLong) (cond c (some ScratchTooShort) none) ≡ none
        → (size ≤ text_limit) × (scratch_words ≤ words)
    go true c p q e = none≢some (sym e)
    go false true p q e = none≢some (sym e)
    go false false p q e = (ltb-false text_limit size p, ltb-false words scratch_words q)

fit_due : (room n k : ℕ) (bs : List ℕ) → IsAccepted (fitting room bs n k).0 → length bs ≤ room
fit_due room n k bs h = go (ltb room (length bs)) refl h
  where
    go : (b : Bool) → ltb room (length bs) ≡ b
        → IsAccepted (cond {A = ReadAnswer × List ℕ} b (Refused SheetTooShort 0, []) (Accepted (length bs) n k, bs)).0
        → length bs ≤ room
    go true p h = absurd h
    go false p h = ltb-false room (length bs) p

parsed_due : (t : List ℕ) (room : ℕ) (p : Parsed) → IsAccepted (answered (length t) room p).0
    → (ns : Nodes Key) × (k : ℕ) × (p ≡ tree ns k) × (length (sheet_of t ns) ≤ room)
parsed_due t room (wrong r q) h = absurd h
parsed_due t room (tree ns k) h = (ns, k, refl, fit_due room (records ns) k (sheet_of t ns) h)

abbrev count_of : ReadAnswer → ℕ
count_of (Accepted n c k) = k
count_of (Refused r p) = 0

pub due : (t scratch sheet : List ℕ) (n c k : ℕ) → (reading t scratch sheet).0 ≡ Accepted n c k
    → (ns : Nodes Key) × Unrefused t (length scratch) (length sheet) ns k
unfolding reading
due t scratch sheet n c k e = go (early (length t) (length scratch)) refl (subst IsAccepted (sym e) tt)
  where
    go : (o : Option Refusal) → early (length t) (length scratch) ≡ o
        → IsAccepted (unless_early t scratch sheet o).0
        → (ns : Nodes Key) × Unrefused t (length scratch) (length sheet) ns k
    go (some r) q h = absurd h
    go none q h =
        let d = early_due (length t) (length scratch) q in
        let p = parsed_due t (length sheet) (parse t) h in
        let u : Unrefused t (length scratch) (length sheet) p.0 p.1 = record {
          short = d.0;
          scratch = d.1;
          parses = p.2;
          fits = p.3;
        }
        in
        let a = ap (λ (r : ReadAnswer × List ℕ × List ℕ). r.0) (accepts t scratch sheet p.0 p.1 u) in
        let same : p.1 ≡ k = ap count_of (sym a ∙ e) in
        (p.0, subst (Unrefused t (length scratch) (length sheet) p.0) same u)
