-- What the grammar's tree of a text is to the sheet, for every text that has one: what demand 3 needs of reading.
use Prim.Native.Nat.{ℕ, suc, ◌*◌, ◌≤◌, ◌<◌}
use mathlib.Core.Bool.{false}
use mathlib.Core.List.{List, [], ◌∷◌}
use mathlib.Core.Option.{Option, none, some}
use mathlib.Core.Path.{◌≡◌, refl, ap, ◌∙◌, subst}
use native.Mathlib.Omega.{arith}
use lib.ListN.{length, get_or}
use borrow.Author.Tests.{le-ltb}
use Rattle.text.specs.Limits.{text_limit}
use Rattle.text.specs.Bytes.{is_foreign}
use Rattle.number.specs.Time.{Key}
use Rattle.token.specs.Token.{Token}
use Rattle.token.specs.Split.{Split, unlexed, tokens, split}
use Rattle.token.proofs.StreamLaws.{split-reads, clean}
use Rattle.ast.specs.Tree.{Nodes, records, map_times}
use Rattle.sheet.specs.Sheet.{encode}
use Rattle.sheet.specs.Opening.{foreign_from, opened, opening}
use Rattle.sheet.proofs.Laws.{Fits, inner_l, decodes}
use Rattle.grammar.specs.Rule.{Notes, Out, got, refused}
use Rattle.grammar.specs.Grammar.{stored, block, animato_input}
use Rattle.reading.specs.Reading.{Parsed, tree, wrong, unless_left, finished, parsed, parse}
use Rattle.law_rules.proofs.RunLaws.{Ends, Outcome}
use Rattle.law_limits.proofs.NodeLaws.{Several, nodes-run, sized_ok, block_runs, top_small}

-- ---- a text that parses

-- its tokens, and what the grammar gives, with no leftover
pub record Parses (t : List ℕ) (ns : Nodes Key) : Type 0 where
  pub ts : List Token
  pub splits : split t ≡ tokens ts
  pub notes : Notes
  pub left : List Token
  pub gives : animato_input (record { leftover = none; rounded = 0; bound = suc (length t) }) ts ≡ got ns notes left
  pub whole : notes.leftover ≡ none

abbrev tree_of : Parsed → Nodes Key
tree_of (tree ns k) = ns
tree_of (wrong r p) = Nodes.none

pub parses : (t : List ℕ) (ns : Nodes Key) {k : ℕ} → parse t ≡ tree ns k → Parses t ns
unfolding parse
parses t ns {k} e = by (split t) refl e
  where
    last : (ts : List Token) → split t ≡ tokens ts → (ms : Nodes Key) (l : Notes) (us : List Token)
        → animato_input (record { leftover = none; rounded = 0; bound = suc (length t) }) ts ≡ got ms l us
        → (o : Option ℕ) → l.leftover ≡ o → unless_left ms l.rounded o ≡ tree ns k → Parses t ns
    last ts f ms l us g none w h =
        subst (Parses t) (ap tree_of h) (record { ts = ts; splits = f; notes = l; left = us; gives = g; whole = w })
    last ts f ms l us g (some p) w h = absurd (let z : ◌≡◌ {A = ℕ} 0 1 = cc in omega arith)

    on : (ts : List Token) → split t ≡ tokens ts → (x : Out (Nodes Key))
        → animato_input (record { leftover = none; rounded = 0; bound = suc (length t) }) ts ≡ x
        → finished x ≡ tree ns k → Parses t ns
    on ts f (got ms l us) g h = last ts f ms l us g l.leftover refl h
    on ts f (refused r p) g h = absurd (let z : ◌≡◌ {A = ℕ} 0 1 = cc in omega arith)

    by : (x : Split) → split t ≡ x → parsed (length t) x ≡ tree ns k → Parses t ns
    by (unlexed r p) f h = absurd (let z : ◌≡◌ {A = ℕ} 0 1 = cc in omega arith)
    by (tokens ts) f h = on ts f (animato_input (record { leftover = none; rounded = 0; bound = suc (length t) }) ts) refl h

-- ---- no byte that checking refuses with 2

none_foreign : (t : List ℕ) (i : ℕ) → ((j : ℕ) → j < length t → is_foreign (get_or t j 0) ≡ false) → foreign_from i t ≡ none
unfolding foreign_from
none_foreign [] i h = refl
none_foreign (b ∷ t) i h = rw (h 0 (omega arith), foreign_from) (none_foreign t (suc i) (λ j g. h (suc j) (omega arith)))

pub parses_clean : (t : List ℕ) (ns : Nodes Key) {k : ℕ} → parse t ≡ tree ns k → foreign_from 0 t ≡ none
parses_clean t ns e = let p = parses t ns e in none_foreign t 0 (clean t p.ts p.splits)

-- ---- the tree fits the sheet, and is small

module _ (t : List ℕ) (ns : Nodes Key) (short : length t ≤ text_limit) {k : ℕ} (e : parse t ≡ tree ns k) where
  -- the nodes of the whole text
  whole : Ends t (parses t ns e).left (Several t short (inner_l (length t) 16) (block 16) (block_runs t short 16) 0 ns)
  unfolding animato_input
  whole =
      let p = parses t ns e in
      subst (λ (o : Out (Nodes Key)). Outcome t o (Several t short (inner_l (length t) 16) (block 16) (block_runs t short 16) 0))
      (ap (animato_input (record { leftover = none; rounded = 0; bound = suc (length t) })) (split-reads t p.ts p.splits) ∙ p.gives)
      ((nodes-run t short (inner_l (length t) 16) (block 16) (block_runs t short 16) 0 (omega arith)).run
      (record { leftover = none; rounded = 0; bound = suc (length t) }))

-- the counts, numbers, positions, spans and the nesting are within the sheet's limits
pub parses_fits : (t : List ℕ) (ns : Nodes Key) → length t ≤ text_limit
    → {k : ℕ} → parse t ≡ tree ns k → Fits (length t) (map_times stored ns)
unfolding Fits
parses_fits t ns short e =
    let w = whole t ns short e in sized_ok t short 16 (map_times stored ns) (omega (arith, w.high, w.post.count)) w.post.ok

-- at most 3 bytes of the sheet for each byte that a text may have
pub parses_small : (t : List ℕ) (ns : Nodes Key) → length t ≤ text_limit → {k : ℕ} → parse t ≡ tree ns k
    → length (encode (length t) (map_times stored ns)) ≤ 49152
unfolding encode
parses_small t ns short e = let w = whole t ns short e in top_small t short 16 (map_times stored ns) w.at w.high w.post.paid

-- at least 3 bytes of the text for each record
pub parses_few : (t : List ℕ) (ns : Nodes Key) → length t ≤ text_limit → {k : ℕ} → parse t ≡ tree ns k → 3 * records ns ≤ length t
parses_few t ns short e = let w = whole t ns short e in omega (arith, w.high, w.post.many)

-- so checking and lining, given that text and its sheet, open it: none of 1, 2 and 20 is due
pub parses_opens : (t : List ℕ) (ns : Nodes Key) → length t ≤ text_limit → {k : ℕ} → parse t ≡ tree ns k
    → opening t (encode (length t) (map_times stored ns)) ≡ opened (map_times stored ns)
unfolding opening
parses_opens t ns short e =
    let d = decodes (length t) (map_times stored ns) (parses_fits t ns short e) (omega (arith, parses_small t ns short e)) in
    rw (le-ltb text_limit (length t) short, parses_clean t ns e, d)
