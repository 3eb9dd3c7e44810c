-- Laws of what is printed: words and numbers, lines, the page.
use Prim.Native.Nat.{ℕ, zero, suc, ◌+◌, ◌*◌, ◌-◌, ◌/◌, ◌%◌, ◌≤◌, ◌<◌}
use mathlib.Core.Bool.{Bool, true, false, cond}
use mathlib.Core.List.{List, [], ◌∷◌, ◌++◌}
use mathlib.Core.Option.{none}
use mathlib.Core.Path.{◌≡◌, refl, sym, ap, ◌∙◌}
use native.Mathlib.Omega.{arith}
use native.Mathlib.Numerals.{add-one}
use lib.Dec.{leb, ltb}
use lib.ListN.{length, get_or, get_elem?, take, drop, replicate, length-append, length-replicate}
use lib.Seq.{drop-cons, drop-drop, take_at, take-append_seam}
use borrow.Author.Tests.{le-ltb, lt-ltb, leb-true, leb-false}
use Rattle.error.specs.declared.Refusal.{Refusal}
use Rattle.error.specs.declared.Refusal.TheVariants.{OutputTooShort}
use Rattle.error.specs.declared.ReadAnswer.{ReadAnswer}
use Rattle.error.specs.declared.ReadAnswer.TheVariants as read
use Rattle.error.specs.declared.CheckAnswer.{CheckAnswer}
use Rattle.error.specs.declared.CheckAnswer.TheVariants as check
use Rattle.error.specs.declared.LineAnswer.{LineAnswer}
use Rattle.error.specs.declared.LineAnswer.TheVariants as lined
use Rattle.text.specs.Bytes.{part}
use Rattle.text.specs.WriteMeans.{Puts}
use Rattle.text.proofs.WriteLaws.{puts_then}
use Rattle.sheet.specs.Records.{all_records}
use Rattle.sheet.proofs.Flat.{concat}
use Rattle.sheet_records.proofs.PlaceLaws.{Stands, no_more}
use Rattle.lining.specs.Line.{line}
use Rattle.lining.proofs.LineLaws.{length-line}
use Rattle.line.proofs.PutLaws.{puts_whole}
use Rattle.reading.specs.Reading.{reading, scratch_words}
use Rattle.checking.specs.Checking.{checking}
use Rattle.script.specs.Output.{decimal_out, accept, refusal, when_checked, when_read, printed}
use Rattle.script.specs.Output.{output, paged, printing, line_bytes, sheet_bytes, page_bytes}
use Rattle.script.specs.Means.{lines_of}
use Rattle.script.proofs.OutputLaws.{held, lines-held, printed_small}
use Rattle.page.specs.Means.{Lines}

-- ---- words and numbers

pub word-at : (s : List ℕ) (i : ℕ) → i < length s → drop i s ≡ (get_or s i 0 ∷ []) ++ drop (i + 1) s
word-at s i h = rw (add-one, drop-cons s i 0)

pub decimal_none : (k n : ℕ) → k ≡ 0 → decimal_out k n ≡ []
unfolding decimal_out
decimal_none zero n e = refl
decimal_none (suc k) n e = absurd (omega arith)

pub decimal-one : (k n : ℕ) → 0 < k → n < 10 → decimal_out k n ≡ (48 + n) ∷ []
unfolding decimal_out
decimal-one zero n h l = absurd (omega arith)
decimal-one (suc k) n h l = rw (decimal_out, lt-ltb n 10 l)

pub decimal-more : (k n : ℕ) → 0 < k → 10 ≤ n → decimal_out k n ≡ decimal_out (k - 1) (n / 10) ++ (48 + n % 10) ∷ []
unfolding decimal_out
decimal-more zero n h l = absurd (omega arith)
decimal-more (suc k) n h l = let e : suc k - 1 ≡ k = omega arith in rw (e, decimal_out, le-ltb n 10 l)

-- ---- lines

none_left : (rs : List (List ℕ)) (i : ℕ) → none ≡ get_elem? rs i → drop i rs ≡ []
none_left [] zero e = refl
none_left [] (suc i) e = refl
none_left (r ∷ rs) zero e = absurd (let z : ◌≡◌ {A = ℕ} 0 1 = cc in omega arith)
none_left (r ∷ rs) (suc i) e = none_left rs i e

module _ {n : ℕ} {s : List ℕ} {rs : List (List ℕ)} {i start end : ℕ} (x : Stands n s rs i start end) (room c : ℕ) where
  long : length x.this ≡ end - start
  long = let z = x.long in omega arith

  this_is : part s start (end - start) ≡ x.this
  this_is = ap (take (end - start)) x.here ∙ take_at x.this (concat x.those) (end - start) long

  after_this : drop (i + 1) rs ≡ x.those
  after_this = sym (drop-drop 1 i rs) ∙ ap (drop 1) x.listed

  -- the line of the record that stands there, and what follows it
  line_first : leb (2 * (end - start) + 7) room ≡ true
      → lines_of room c i (drop i rs) ≡ line (part s start (end - start)) ++ lines_of room c (i + 1) (drop (i + 1) rs)
  unfolding lines_of
  line_first e =
      let h : length (line x.this) ≤ room = omega (arith, length-line x.this, long, leb-true (2 * (end - start) + 7) room e) in
      rw (x.listed, lines_of, le-ltb room (length (line x.this)) h, this_is, after_this, add-one)

  -- the program has no room for it
  line_refused : leb (2 * (end - start) + 7) room ≡ false → lines_of room c i (drop i rs) ≡ refusal OutputTooShort i
  unfolding lines_of
  line_refused e =
      let h : room < length (line x.this) = omega (arith, length-line x.this, long, leb-false (2 * (end - start) + 7) room e) in
      rw (x.listed, lines_of, lt-ltb room (length (line x.this)) h)

  -- no record follows
  line-last : length s ≤ end → lines_of room c (i + 1) (drop (i + 1) rs) ≡ accept c
  unfolding lines_of
  line-last h = rw (none_left rs (i + 1) (no_more n s rs x (i + 1) h (omega arith)))

-- the record i stands from start to end, and the page has the lines before it, up to the place `at`: with what follows, it has all that
-- `before` was to have
pub record Going (n : ℕ) (s : List ℕ) (rs : List (List ℕ)) (c : ℕ) (before page : List ℕ) (i start end at : ℕ) : Type 0 where
  pub stands : Stands n s rs i start end
  pub on : (after : List ℕ) (m : ℕ)
      → Puts page at (lines_of line_bytes c i (drop i rs)) after m
      → Puts before 0 (lines_of line_bytes c 0 rs) after m

pub goes : {n : ℕ} {s : List ℕ} {rs : List (List ℕ)} {end : ℕ} (c : ℕ) (page : List ℕ)
    → Stands n s rs 0 0 end → Going n s rs c page page 0 0 end 0
goes c page x = record { stands = x; on = λ after m p. p }

module _ {n : ℕ} {s : List ℕ} {rs : List (List ℕ)} {c : ℕ} {before page : List ℕ} {i start end at : ℕ}
    (x : Going n s rs c before page i start end at) where
  pub goes_refused : {after : List ℕ} {m : ℕ} → leb (2 * (end - start) + 7) line_bytes ≡ false
      → Puts page at (refusal OutputTooShort i) after m
      → Puts before 0 (lines_of line_bytes c 0 rs) after m
  goes_refused e p = x.on _ _ (rw (line_refused x.stands line_bytes c e) p)

  module _ {next : List ℕ} {put : ℕ} (e : leb (2 * (end - start) + 7) line_bytes ≡ true)
      (p : Puts page at (line (part s start (end - start))) next put) where
    lined_on : (after : List ℕ) (m : ℕ) → Puts next put (lines_of line_bytes c (i + 1) (drop (i + 1) rs)) after m
        → Puts before 0 (lines_of line_bytes c 0 rs) after m
    lined_on after m q = x.on after m (rw (line_first x.stands line_bytes c e) (puts_then p q))

    pub goes_last : {after : List ℕ} {m : ℕ} → length s ≤ end → Puts next put (accept c) after m
        → Puts before 0 (lines_of line_bytes c 0 rs) after m
    goes_last h q = lined_on _ _ (rw (line-last x.stands line_bytes c h) q)

    pub goes_on : {m : ℕ} → Stands n s rs (i + 1) end m → Going n s rs c before next (i + 1) end m put
    goes_on y = record { stands = y; on = lined_on }

-- ---- the page

module _ (list : ℕ) (t scratch sheet page : List ℕ) where
  pub page_short : length page < page_bytes → (lined.Refused OutputTooShort 0, scratch, sheet, page) ≡ printing list t scratch sheet page
  unfolding printing
  page_short h = rw (lt-ltb (length page) page_bytes h)

  pub page_long : page_bytes ≤ length page
      → printing list t scratch sheet page ≡ paged (reading t scratch sheet) (printed list t scratch sheet (replicate line_bytes 0)) page
  unfolding printing
  page_long h = rw (le-ltb (length page) page_bytes h)

  -- what is printed once reading has accepted
  checked : {n c k : ℕ} {words left : List ℕ} {v : CheckAnswer} → (read.Accepted n c k, words, left) ≡ reading t scratch sheet
      → v ≡ checking list t (take n left)
      → printed list t scratch sheet (replicate line_bytes 0) ≡ when_checked t (take n left) c (replicate line_bytes 0) v
  checked {n} {c} {left = left} e f =
      ap (when_read list t (replicate line_bytes 0)) (sym e) ∙ ap (when_checked t (take n left) c (replicate line_bytes 0)) (sym f)

  module _ (room : page_bytes ≤ length page) {words left after : List ℕ} {m : ℕ} where
    page_filled : {a : ReadAnswer} {bs : List ℕ} → (a, words, left) ≡ reading t scratch sheet
        → printed list t scratch sheet (replicate line_bytes 0) ≡ bs → Puts page 0 bs after m
        → (lined.Accepted m, words, left, after) ≡ printing list t scratch sheet page
    page_filled e f p =
        let h = printed_small list t scratch sheet (replicate line_bytes 0) in
        let w = puts_whole (omega (arith, ap length f)) p in
        (λ i. (lined.Accepted (w.0 i), words, left, w.1 i)) ∙ (λ i. paged (e i) (sym f i) page) ∙ sym (page_long room)

    pub page_unread : {r : Refusal} {p : ℕ} → (read.Refused r p, words, left) ≡ reading t scratch sheet → Puts page 0 (refusal r p) after m
        → (lined.Accepted m, words, left, after) ≡ printing list t scratch sheet page
    page_unread e p = page_filled e (ap (when_read list t (replicate line_bytes 0)) (sym e)) p

    module _ {n c k : ℕ} (e : (read.Accepted n c k, words, left) ≡ reading t scratch sheet) where
      pub page_refused : {r : Refusal} {p : ℕ} → check.Refused r p ≡ checking list t (take n left) → Puts page 0 (refusal r p) after m
          → (lined.Accepted m, words, left, after) ≡ printing list t scratch sheet page
      page_refused f p = page_filled e (checked e f) p

      pub page_lined : check.Accepted ≡ checking list t (take n left) → Lines (length t) (take n left) c page after m
          → (lined.Accepted m, words, left, after) ≡ printing list t scratch sheet page
      page_lined f p =
          let h = held t scratch sheet e in
          let rs = all_records (length t) h.nodes in
          let l = lines-held t (replicate line_bytes 0) h ∙ ap (λ (k : ℕ). lines_of k c 0 rs) (length-replicate {A = ℕ} line_bytes 0) in
          page_filled e (checked e f ∙ l) (p h.nodes h.decodes)

  -- the length that is given is one of the page
  pub printed-fits : {n : ℕ} {words left after : List ℕ} → (lined.Accepted n, words, left, after) ≡ printing list t scratch sheet page
      → n ≤ length after
  unfolding printing
  printed-fits {n} {words} {left} {after} e = go (ltb (length page) page_bytes) e
    where
      bs : List ℕ
      bs = printed list t scratch sheet (replicate line_bytes 0)

      go : (b : Bool)
          → (lined.Accepted n, words, left, after)
          ≡ cond {A = LineAnswer × List ℕ × List ℕ × List ℕ} b (lined.Refused OutputTooShort 0, scratch, sheet, page)
          (paged (reading t scratch sheet) bs page)
          → n ≤ length after
      go true q =
          let z : ◌≡◌ {A = ℕ} 0 1 = cc (ap (λ (x : LineAnswer × List ℕ × List ℕ × List ℕ). x.0) q) in
          absurd (omega arith)
      go false q =
          let h : lined.Accepted n ≡ lined.Accepted (length bs) = ap (λ (x : LineAnswer × List ℕ × List ℕ × List ℕ). x.0) q in
          let k : n ≡ length bs = cc in
          omega (
            arith,
            k,
            ap (λ (x : LineAnswer × List ℕ × List ℕ × List ℕ). length x.3) q,
            length-append bs (drop (length bs) page),
          )

-- with the program's buffers and the first list the front of the page is the program's output
pub print_whole : (t page : List ℕ) → page_bytes ≤ length page
    → ((printing 1 t (replicate scratch_words 0) (replicate sheet_bytes 0) page).0 ≡ lined.Accepted (length (output t)))
    × (take (length (output t)) (printing 1 t (replicate scratch_words 0) (replicate sheet_bytes 0) page).3 ≡ output t)
unfolding output
print_whole t page h =
    let e = page_long 1 t (replicate scratch_words 0) (replicate sheet_bytes 0) page h in
    let bs = output t in (
      ap (λ (x : LineAnswer × List ℕ × List ℕ × List ℕ). x.0) e,
      ap (λ (x : LineAnswer × List ℕ × List ℕ × List ℕ). take (length bs) x.3) e ∙ take-append_seam bs (drop (length bs) page),
    )
