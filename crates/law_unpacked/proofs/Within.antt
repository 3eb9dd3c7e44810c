-- The places, lengths and counts that the operations answer with are small.
use Prim.Native.Nat.{ℕ, zero, suc, ◌+◌, ◌-◌, ◌≤◌}
use mathlib.Core.Bool.{Bool, true, false, ◌||◌, cond}
use mathlib.Core.List.{List, [], ◌∷◌, ◌++◌}
use mathlib.Core.Logic.{◌⊎◌, inl, inr}
use mathlib.Core.Option.{Option, none, some}
use mathlib.Core.Path.{◌≡◌, refl, ap}
use native.Mathlib.Omega.{arith}
use lib.Dec.{leb, ltb}
use lib.IntN.{ℤ}
use lib.ListN.{length, drop, replicate, get_elem?}
use borrow.Author.Tests.{ltb-false}
use Rattle.text.specs.Limits.{text_limit}
use Rattle.number.specs.Time.{Key}
use Rattle.token.specs.Token.{Kind, token}
use Rattle.token.specs.Split.{Split, unlexed, tokens, Step, halt, blank, takes, before, ended, stepped, awaited, step, split_from, split}
use Rattle.token.specs.Split as splitting
use Rattle.ast.specs.Tree.{Nodes, map_times, records}
use Rattle.sheet.specs.Sheet.{Forest, encode, decode}
use Rattle.sheet.specs.Records.{all_records}
use Rattle.sheet.specs.Opening.{Opened, opened, shut, foreign_from, unless_foreign, opening}
use Rattle.sheet.proofs.Laws.{decoded}
use Rattle.planed.specs.Planes.{planed, unplaned}
use Rattle.planed.proofs.PlanedLaws.{length-planed, unplaned_is}
use Rattle.planed.specs.Planing.{tree_or, opened_as, planing, unplaning}
use Rattle.planed.specs.Planing.{answered as written_as}
use Rattle.drawing.specs.Wave.{filled, shifted, drawing}
use Rattle.grammar.specs.Rule.{Notes, Out, got, refused}
use Rattle.grammar.specs.Grammar.{stored, animato_input}
use Rattle.reading.specs.Reading.{Parsed, tree, wrong, unless_left, finished, parsed, parse}
use Rattle.reading.specs.Reading.{answered, early, unless_early, reading, scratch_words}
use Rattle.law_limits.proofs.Limits.{parses_fits, parses_small}
use Rattle.colors.specs.Css.{names_of}
use Rattle.checking.specs.Rules.{validate_nodes}
use Rattle.checking.specs.Checking.{answer_of, judged, verdict, opening_under, checking}
use Rattle.lining.specs.Line.{line}
use Rattle.lining.specs.Lining.{of_record, of_opened, lining}
use Rattle.lining.proofs.LineLaws.{length-line}
use Rattle.converting.specs.Convert.{convert_opened, converting}
use Rattle.script.specs.Output.{printed, paged, page_bytes, line_bytes, printing}
use Rattle.script.proofs.OutputLaws.{records-same, printed_small}
use Rattle.error.specs.declared.Refusal.{Refusal}
use Rattle.error.specs.declared.Refusal.TheVariants.{TextTooLong, ScratchTooShort, SheetTooShort, OutputTooShort}
use Rattle.error.specs.declared.Refusal.TheVariants.{Unwritable, ScriptTooLong, NotASheet, NotPlaned, NotDrawn, PhaseTooLarge}
use Rattle.error.specs.declared.ReadAnswer.{ReadAnswer}
use Rattle.error.specs.declared.ReadAnswer.TheVariants as read
use Rattle.error.specs.declared.CheckAnswer.{CheckAnswer}
use Rattle.error.specs.declared.CheckAnswer.TheVariants as check
use Rattle.error.specs.declared.LineAnswer.{LineAnswer}
use Rattle.error.specs.declared.LineAnswer.TheVariants as lines
use Rattle.digits.specs.Fewest.{form}
use Rattle.fresh.specs.Meaning.{Sense}
use Rattle.fresh.specs.Fresh.{script, has_text}
use Rattle.writing.specs.Back.{refusal, fitted, written, sense_of, of_tree, of_verdict, writing}
use Rattle.law_rules.proofs.StayLaws.{Near, LeftNear, OutNear, input_stays}
use Rattle.law_unpacked.proofs.SheetLaws.{sheet_some, Below, nodes-below, Before}
use Rattle.law_unpacked.proofs.SheetLaws.{foreign_before, Within, opening-within, under-within}

-- ---- reading: a text's tokens, and its refusals 2 to 5

abbrev pub SplitNear : ℕ → Split → Type 0
SplitNear n (unlexed r p) = p ≤ n
SplitNear n (tokens ts) = Near n ts

ended-near : (n p : ℕ) (cs : List ℕ) → p ≤ n → SplitNear n (ended p cs)
unfolding Near
ended-near n p [] h = (h, tt)
ended-near n p (c ∷ cs) h = h

before-near : (n p : ℕ) (k : Kind) (x : Split) → p ≤ n → SplitNear n x → SplitNear n (before (token p k) x)
unfolding Near
before-near n p k (unlexed r q) h g = g
before-near n p k (tokens ts) h g = (h, g)

stepped-near : (n p : ℕ) (s : Step) (x : Split) → p ≤ n → SplitNear n x → SplitNear n (stepped s p x)
stepped-near n p (halt r) x h g = h
stepped-near n p blank x h g = g
stepped-near n p (takes k m cs) x h g = before-near n p k x h g

pub split-near : (n k p : ℕ) (cs t : List ℕ) → p + length t ≤ n → SplitNear n (split_from k p cs t)
unfolding split_from
split-near n k p cs [] h = ended-near n p cs (omega arith)
split-near n (suc k) p cs (b ∷ t) h = split-near n k (suc p) cs t (omega arith)
split-near n zero p cs (b ∷ t) h =
    let s = step cs (b ∷ t) in
    stepped-near n p s (split_from (splitting.more s) (suc p) (awaited cs s) t) (omega arith)
    (split-near n (splitting.more s) (suc p) (awaited cs s) t (omega arith))

-- ---- and the grammar's

abbrev ParsedNear : ℕ → Parsed → Type 0
ParsedNear n (tree ns k) = k ≤ suc n
ParsedNear n (wrong r p) = p ≤ n

left_near : (n : ℕ) (ns : Nodes Key) (k : ℕ) (o : Option ℕ) → k ≤ suc n → LeftNear n o → ParsedNear n (unless_left ns k o)
left_near n ns k none g h = g
left_near n ns k (some p) g h = h

finished-near : (n : ℕ) (o : Out (Nodes Key)) → OutNear n o → ParsedNear n (finished o)
finished-near n (got ns l ts) h = left_near n ns l.rounded l.leftover (omega (arith, h.few)) h.left
finished-near n (refused r p) h = h

-- a text of n bytes has at most n + 1 tokens
abbrev pub SplitFew : ℕ → Split → Type 0
SplitFew n (unlexed r p) = Unit {0}
SplitFew n (tokens ts) = length ts ≤ n

ended_few : (n p : ℕ) (cs : List ℕ) → SplitFew (suc n) (ended p cs)
ended_few n p [] = omega arith
ended_few n p (c ∷ cs) = tt

more_few : (n : ℕ) (x : Split) → SplitFew n x → SplitFew (suc n) x
more_few n (unlexed r p) h = tt
more_few n (tokens ts) h = omega arith

stepped_few : (n p : ℕ) (s : Step) (x : Split) → SplitFew n x → SplitFew (suc n) (stepped s p x)
stepped_few n p (halt r) x h = tt
stepped_few n p blank x h = more_few n x h
stepped_few n p (takes k m cs) (unlexed r q) h = tt
stepped_few n p (takes k m cs) (tokens ts) h = omega arith

pub split_few : (k p : ℕ) (cs t : List ℕ) → SplitFew (suc (length t)) (split_from k p cs t)
unfolding split_from
split_few k p cs [] = ended_few 0 p cs
split_few (suc k) p cs (b ∷ t) = more_few (suc (length t)) (split_from k (suc p) cs t) (split_few k (suc p) cs t)
split_few zero p cs (b ∷ t) =
    let s = step cs (b ∷ t) in
    stepped_few (suc (length t)) p s (split_from (splitting.more s) (suc p) (awaited cs s) t)
    (split_few (splitting.more s) (suc p) (awaited cs s) t)

parsed-near : (n : ℕ) (x : Split) → SplitNear n x → SplitFew (suc n) x → ParsedNear n (parsed n x)
parsed-near n (unlexed r p) h g = h
parsed-near n (tokens ts) h g =
    let l : Notes = record { leftover = none; rounded = 0; bound = suc n } in
    finished-near n (animato_input l ts) ((input_stays n).run l ts (record { left = tt; near = h; few = omega arith }))

pub parse-near : (t : List ℕ) → ParsedNear (length t) (parse t)
unfolding parse split
parse-near t = parsed-near (length t) (split t) (split-near (length t) 0 0 [] t (omega arith)) (split_few 0 0 [] t)

-- ---- reading: "a refusal's place is at most the text's length", a sheet has at most 49,152 bytes, and no more records; no more numbers
-- are rounded than there are tokens

abbrev pub ReadWithin : ReadAnswer → Type 0
ReadWithin (read.Accepted n k j) = (n ≤ 49152) × (k ≤ 49152) × (j ≤ 16385)
ReadWithin (read.Refused r p) = p ≤ text_limit

short_text : (size words : ℕ) → early size words ≡ none → size ≤ text_limit
unfolding early
short_text size words e = go (ltb text_limit size) refl e
  where
    go : (b : Bool) → ltb text_limit size ≡ b
        → cond b (some TextTooLong) (cond (ltb words scratch_words) (some ScratchTooShort) none) ≡ none
        → size ≤ text_limit
    go true f e = absurd (let z : ◌≡◌ {A = ℕ} 0 1 = cc in omega arith)
    go false f e = omega (arith, ltb-false text_limit size f)

fitting-within : (b : Bool) (bs : List ℕ) (k j : ℕ) → length bs ≤ 49152 → k ≤ length bs → j ≤ 16385
    → ReadWithin (cond {A = ReadAnswer × List ℕ} b (read.Refused SheetTooShort 0, []) (read.Accepted (length bs) k j, bs)).0
fitting-within true bs k j h g f = omega arith
fitting-within false bs k j h g f = (h, omega arith, f)

written-within : (t : List ℕ) (room : ℕ) (x : Parsed) → parse t ≡ x → length t ≤ text_limit
    → ParsedNear (length t) x → ReadWithin (answered (length t) room x).0
written-within t room (wrong r p) e l h = omega arith
written-within t room (tree ns k) e l h =
    let bs = encode (length t) (map_times stored ns) in
    fitting-within (ltb room (length bs)) bs (records ns) k (parses_small t ns l e)
    (omega (arith, sheet_some (length t) (map_times stored ns) (parses_fits t ns l e), records-same stored ns)) (omega arith)

pub read-within : (t scratch sheet : List ℕ) → ReadWithin (reading t scratch sheet).0
unfolding reading
read-within t scratch sheet = go (early (length t) (length scratch)) refl
  where
    go : (o : Option Refusal) → early (length t) (length scratch) ≡ o → ReadWithin (unless_early t scratch sheet o).0
    go (some r) e = omega arith
    go none e = written-within t (length sheet) (parse t) refl (short_text (length t) (length scratch) e) (parse-near t)

-- ---- checking: an ordinal is at most 65,535

abbrev pub CheckWithin : CheckAnswer → Type 0
CheckWithin check.Accepted = Unit {0}
CheckWithin (check.Refused r p) = p ≤ 65535

answer_within : (o : Option (Refusal × ℕ)) (m : ℕ) → m ≤ 65536 → Below m o → CheckWithin (answer_of o)
answer_within none m h b = tt
answer_within (some f) m h b = omega arith

verdict-within : (list : ℕ) (t : List ℕ) (o : Opened) → Within (length t) o → CheckWithin (verdict list t o)
unfolding judged
verdict-within list t (shut r p) h = omega arith
verdict-within list t (opened ns) h =
    answer_within (validate_nodes (names_of list) t 1 ns) (1 + records ns) (omega (arith, h.few)) (nodes-below (names_of list) t 1 ns)

pub check_within : (list : ℕ) (t sheet : List ℕ) → CheckWithin (checking list t sheet)
unfolding checking
check_within list t sheet = verdict-within list t (opening_under list t sheet) (under-within list t sheet)

-- ---- converting, which refuses as checking does

pub convert_within : (t sheet : List ℕ) → CheckWithin (converting t sheet).0
unfolding converting
convert_within t sheet = by (opening t sheet) (opening-within t sheet)
  where
    by : (o : Opened) → Within (length t) o → CheckWithin (convert_opened (length t) sheet o).0
    by (shut r p) h = omega arith
    by (opened ns) h = tt

-- ---- drawing a waveform, refused at 0

pub wave_within : (kind phase : ℕ) (hs : List ℤ) → CheckWithin (drawing kind phase hs).0
unfolding drawing
wave_within kind phase hs = go (leb 4 kind) (leb 256 phase) (ltb (length hs) 256)
  where
    go : (a b c : Bool)
        → let x = cond {A = CheckAnswer × List ℤ} a (check.Refused NotDrawn 0, hs)
        (cond b (check.Refused PhaseTooLarge 0, hs)
        (cond c (check.Refused OutputTooShort 0, hs) (check.Accepted, filled (shifted kind phase) 256 hs)))
        in
        CheckWithin x.0
    go true b c = omega arith
    go false true c = omega arith
    go false false true = omega arith
    go false false false = tt

-- ---- lining: a line is at most 131,077 bytes; a refusal's place is the ordinal, or at most 16,384

abbrev pub LineWithin : ℕ → ℕ → LineAnswer → Type 0
LineWithin most i (lines.Accepted n) = n ≤ most
LineWithin most i (lines.Refused r p) = (p ≡ i) ⊎ (p ≤ text_limit)

placed-within : (i : ℕ) (out l : List ℕ) (b : Bool) → length l ≤ 131077
    → LineWithin 131077 i
    (cond {A = LineAnswer × List ℕ} b (lines.Refused OutputTooShort i, out) (lines.Accepted (length l), l ++ drop (length l) out)).0
placed-within i out l true h = inl refl
placed-within i out l false h = h

record_within : (i : ℕ) (out : List ℕ) (o : Option (List ℕ)) → ((r : List ℕ) → o ≡ some r → length r ≤ 65535)
    → LineWithin 131077 i (of_record i out o).0
record_within i out none h = inl refl
record_within i out (some r) h = placed-within i out (line r) (ltb (length out) (length (line r))) (omega (arith, h r refl, length-line r))

opened_within : (n i : ℕ) (out : List ℕ) (o : Opened) → Within n o → LineWithin 131077 i (of_opened n i out o).0
opened_within n i out (shut r p) h = inr h
opened_within n i out (opened ns) h = record_within i out (get_elem? (all_records n ns) i) (λ r e. h.short i r e)

pub line-within : (t sheet : List ℕ) (i : ℕ) (out : List ℕ) → LineWithin 131077 i (lining t sheet i out).0
unfolding lining
line-within t sheet i out = opened_within (length t) i out (opening t sheet) (opening-within t sheet)

-- ---- printing: a page has at most 147,456 bytes of text

pub print_within : (list : ℕ) (t scratch sheet page : List ℕ) → LineWithin page_bytes 0 (printing list t scratch sheet page).0
unfolding printing
print_within list t scratch sheet page = go (ltb (length page) page_bytes)
  where
    bs : List ℕ
    bs = printed list t scratch sheet (replicate line_bytes 0)

    go : (b : Bool)
        → LineWithin page_bytes 0
        (cond {A = LineAnswer × List ℕ × List ℕ × List ℕ} b (lines.Refused OutputTooShort 0, scratch, sheet, page)
        (paged (reading t scratch sheet) bs page)).0
    go true = inl refl
    go false = printed_small list t scratch sheet (replicate line_bytes 0)

-- ---- writing: a text's length, or checking's place, or 0

abbrev pub ScriptWithin : LineAnswer → Type 0
ScriptWithin (lines.Accepted n) = n ≤ text_limit
ScriptWithin (lines.Refused r p) = p ≤ 65535

fitted-within : (out u : List ℕ) → ScriptWithin (fitted out u).0
fitted-within out u = go (ltb text_limit (length u)) (ltb (length out) (length u)) refl
  where
    go : (a b : Bool) → ltb text_limit (length u) ≡ a
        → ScriptWithin
        (cond {A = LineAnswer × List ℕ} (a || b) (refusal ScriptTooLong 0 out)
        (lines.Accepted (length u), u ++ replicate (length out - length u) 0)).0
    go true b e = omega arith
    go false true e = omega arith
    go false false e = ltb-false text_limit (length u) e

script-within : (out : List ℕ) (x : Sense) → ScriptWithin (written out x).0
script-within out x = go (has_text form x)
  where
    go : (b : Bool) → ScriptWithin (cond {A = LineAnswer × List ℕ} b (fitted out (script form x)) (refusal Unwritable 0 out)).0
    go true = fitted-within out (script form x)
    go false = omega arith

pub write_within : (list : ℕ) (t s out : List ℕ) → ScriptWithin (writing list t s out).0
unfolding writing
write_within list t s out = by (checking list t s) (check_within list t s)
  where
    of_tree_lem : (o : Option Forest) → ScriptWithin (of_tree t out o).0
    of_tree_lem none = omega arith
    of_tree_lem (some ns) = script-within out (sense_of t ns)

    by : (a : CheckAnswer) → CheckWithin a → ScriptWithin (of_verdict t s out a).0
    by check.Accepted h = of_tree_lem (decode (length t) s)
    by (check.Refused r p) h = h

-- ---- planing and its inverse: a sheet's length, or a place in the text, or 0

answered-within : (t : List ℕ) (r : Refusal) (o : Option Forest) (write : Forest → List ℕ) (out : List ℕ)
    → ((ns : Forest) → o ≡ some ns → length (write ns) ≤ 65535) → LineWithin 65535 0 (written_as write out (opened_as t r o)).0
answered-within t r o write out h = go (ltb text_limit (length t)) (foreign_from 0 t) o refl (foreign_before 0 t) refl
  where
    put : (b : Bool) (bs : List ℕ) → length bs ≤ 65535
        → LineWithin 65535 0
        (cond {A = LineAnswer × List ℕ} b (lines.Refused OutputTooShort 0, out) (lines.Accepted (length bs), bs ++ drop (length bs) out)).0
    put true bs l = inl refl
    put false bs l = l

    go : (b : Bool) (f : Option ℕ) (x : Option Forest) → ltb text_limit (length t) ≡ b → Before (0 + length t) f → o ≡ x
        → LineWithin 65535 0 (written_as write out (cond b (shut TextTooLong 0) (unless_foreign f (tree_or r x)))).0
    go true f x e g z = inl refl
    go false (some p) x e g z = inr (omega (arith, g, ltb-false text_limit (length t) e))
    go false none none e g z = inl refl
    go false none (some ns) e g z = put (ltb (length out) (length (write ns))) (write ns) (h ns z)

pub plane_within : (t s out : List ℕ) → LineWithin 65535 0 (planing t s out).0
unfolding planing
plane_within t s out = answered-within t NotASheet (decode n s) (planed n) out short
  where
    n : ℕ
    n = length t

    short : (ns : Forest) → decode n s ≡ some ns → length (planed n ns) ≤ 65535
    short ns e = let d = decoded n s ns e in omega (arith, length-planed n ns d.fits, ap length d.encodes, d.short)

pub unplane_within : (t bs out : List ℕ) → LineWithin 65535 0 (unplaning t bs out).0
unfolding unplaning
unplane_within t bs out = answered-within t NotPlaned (unplaned n bs) (encode n) out short
  where
    n : ℕ
    n = length t

    short : (ns : Forest) → unplaned n bs ≡ some ns → length (encode n ns) ≤ 65535
    short ns e = let d = unplaned_is n bs ns e in omega (arith, length-planed n ns d.fits, ap length d.planes, d.short)
