-- The parts of a packed answer are those of the operation's answer, for every text, sheet and output.
use Prim.Native.Nat.{ℕ, ◌^◌, ◌<◌}
use mathlib.Core.Bool.{Bool, true, false, cond}
use mathlib.Core.List.{List}
use mathlib.Core.Logic.{inl, inr}
use mathlib.Core.Path.{◌≡◌, refl}
use native.Mathlib.Omega.{arith}
use lib.IntN.{ℤ}
use lib.ListN.{take}
use Rattle.reading.specs.Reading.{reading}
use Rattle.checking.specs.Checking.{checking}
use Rattle.lining.specs.Lining.{lining}
use Rattle.converting.specs.Convert.{converting}
use Rattle.script.specs.Output.{page_bytes, printing}
use Rattle.writing.specs.Back.{writing}
use Rattle.books.specs.Lookup.{looking_up}
use Rattle.books.specs.Listing.{listing}
use Rattle.planed.specs.Planing.{planing, unplaning}
use Rattle.drawing.specs.Wave.{drawing}
use Rattle.error.specs.Refusal.{number_of}
use Rattle.error.specs.declared.ReadAnswer.{ReadAnswer}
use Rattle.error.specs.declared.ReadAnswer.TheVariants as read
use Rattle.error.specs.declared.CheckAnswer.{CheckAnswer}
use Rattle.error.specs.declared.CheckAnswer.TheVariants as check
use Rattle.error.specs.declared.LineAnswer.{LineAnswer}
use Rattle.error.specs.declared.LineAnswer.TheVariants as line
use Rattle.error.specs.declared.LookupAnswer.{LookupAnswer}
use Rattle.error.specs.declared.LookupAnswer.TheVariants as lookup
use Rattle.error.specs.declared.OrderAnswer.{OrderAnswer}
use Rattle.error.specs.declared.OrderAnswer.TheVariants as order
use Rattle.packed.specs.Packed.{packed_lookup, packed_order}
use Rattle.packed.specs.Packed.{packed_read, packed_check, packed_line, packed_fed, number_in}
use Rattle.packed.specs.Packed.{value_in, length_in, records_in, rounded_in, script_number_in}
use Rattle.packed.proofs.PackedLaws.{BodyParts, store_body, chain_body, order-number, order-items}
use Rattle.packed.proofs.PackedLaws.{script-number, script-refusal, script-place}
use Rattle.packed.proofs.PackedLaws.{refusal-number, refusal-place, refusal-rounded, sheet-number, sheet-length}
use Rattle.packed.proofs.PackedLaws.{sheet-records, sheet-rounded, line-number, line-length}
use Rattle.error.specs.declared.Refusal.TheVariants.{TooManyScripts}
use Rattle.totals.specs.Totals.{added}
use Rattle.feeding.specs.Feed.{Fed, read_of, when_read, judgement, figure, full, feeding}
use Rattle.error.specs.declared.FeedAnswer.{FeedAnswer}
use Rattle.error.specs.declared.FeedAnswer.TheVariants as feed
use Rattle.law_unpacked.proofs.Within.{ReadWithin, read-within, CheckWithin, check_within, LineWithin, line-within, print_within}
use Rattle.law_unpacked.proofs.BookWithin.{LookupWithin, lookup_within, OrderWithin, order-within}
use Rattle.law_unpacked.proofs.Within.{ScriptWithin, write_within, convert_within, plane_within, unplane_within, wave_within}

-- ---- reading

-- w has the parts of an answer
abbrev pub ReadParts : ReadAnswer → ℕ → Type 0
ReadParts (read.Accepted n k j) w = (number_in w ≡ 0) × (length_in w ≡ n) × (records_in w ≡ k) × (rounded_in w ≡ j)
ReadParts (read.Refused r p) w = (number_in w ≡ number_of r) × (value_in w ≡ p) × (rounded_in w ≡ 0)

read_back : (a : ReadAnswer) → ReadWithin a → ReadParts a (packed_read a)
read_back (read.Accepted n k j) h = (
  sheet-number n k j,
  sheet-length n k j (omega (arith, h.0)),
  sheet-records n k j (omega (arith, h.1)),
  sheet-rounded n k j (omega (arith, h.2)),
)
read_back (read.Refused r p) h = (refusal-number r p, refusal-place r p (omega arith), refusal-rounded r p)

pub read_parts : (t scratch sheet : List ℕ) → ReadParts (reading t scratch sheet).0 (packed_read (reading t scratch sheet).0)
read_parts t scratch sheet = read_back (reading t scratch sheet).0 (read-within t scratch sheet)

-- ---- checking

abbrev pub CheckParts : CheckAnswer → ℕ → Type 0
CheckParts check.Accepted w = w ≡ 0
CheckParts (check.Refused r p) w = (number_in w ≡ number_of r) × (value_in w ≡ p)

check_back : (a : CheckAnswer) → CheckWithin a → CheckParts a (packed_check a)
check_back check.Accepted h = refl
check_back (check.Refused r p) h = (refusal-number r p, refusal-place r p (omega arith))

pub check_parts : (list : ℕ) (t sheet : List ℕ) → CheckParts (checking list t sheet) (packed_check (checking list t sheet))
check_parts list t sheet = check_back (checking list t sheet) (check_within list t sheet)

-- ---- converting

pub convert_parts : (t sheet : List ℕ) → CheckParts (converting t sheet).0 (packed_check (converting t sheet).0)
convert_parts t sheet = check_back (converting t sheet).0 (convert_within t sheet)

-- ---- drawing a waveform

pub wave_parts : (kind phase : ℕ) (hs : List ℤ) → CheckParts (drawing kind phase hs).0 (packed_check (drawing kind phase hs).0)
wave_parts kind phase hs = check_back (drawing kind phase hs).0 (wave_within kind phase hs)

-- ---- lining, whose ordinal is a u32

abbrev pub LineParts : LineAnswer → ℕ → Type 0
LineParts (line.Accepted n) w = (number_in w ≡ 0) × (value_in w ≡ n)
LineParts (line.Refused r p) w = (number_in w ≡ number_of r) × (value_in w ≡ p)

line_back : (most i : ℕ) → most < 2 ^ 32 → i < 2 ^ 32 → (a : LineAnswer) → LineWithin most i a → LineParts a (packed_line a)
line_back most i m g (line.Accepted n) h = (line-number n, line-length n (omega arith))
line_back most i m g (line.Refused r p) (inl h) = (refusal-number r p, refusal-place r p (omega arith))
line_back most i m g (line.Refused r p) (inr h) = (refusal-number r p, refusal-place r p (omega arith))

pub line_parts : (t sheet : List ℕ) (i : ℕ) (out : List ℕ) → i < 2 ^ 32
    → LineParts (lining t sheet i out).0 (packed_line (lining t sheet i out).0)
line_parts t sheet i out g = line_back 131077 i (omega arith) g (lining t sheet i out).0 (line-within t sheet i out)

-- ---- printing

pub print_parts : (list : ℕ) (t scratch sheet page : List ℕ)
    → LineParts (printing list t scratch sheet page).0 (packed_line (printing list t scratch sheet page).0)
print_parts list t scratch sheet page =
    line_back page_bytes 0 (omega arith) (omega arith) (printing list t scratch sheet page).0 (print_within list t scratch sheet page)

-- ---- writing

pub write_parts : (list : ℕ) (t s out : List ℕ) → LineParts (writing list t s out).0 (packed_line (writing list t s out).0)
write_parts list t s out = by (writing list t s out).0 (write_within list t s out)
  where
    by : (a : LineAnswer) → ScriptWithin a → LineParts a (packed_line a)
    by (line.Accepted n) h = (line-number n, line-length n (omega arith))
    by (line.Refused r p) h = (refusal-number r p, refusal-place r p (omega arith))

-- ---- planing and its inverse

pub plane_parts : (t s out : List ℕ) → LineParts (planing t s out).0 (packed_line (planing t s out).0)
plane_parts t s out = line_back 65535 0 (omega arith) (omega arith) (planing t s out).0 (plane_within t s out)

pub unplane_parts : (t bs out : List ℕ) → LineParts (unplaning t bs out).0 (packed_line (unplaning t bs out).0)
unplane_parts t bs out = line_back 65535 0 (omega arith) (omega arith) (unplaning t bs out).0 (unplane_within t bs out)

-- ---- feeding: 0 for an accepted script, else its refusal's number and its place behind the number 0; or a refusal of feeding

abbrev pub ScriptParts : CheckAnswer → ℕ → Type 0
ScriptParts check.Accepted w = w ≡ 0
ScriptParts (check.Refused r p) w = (number_in w ≡ 0) × (script_number_in w ≡ number_of r) × (value_in w ≡ p)

abbrev pub FedParts : FeedAnswer → ℕ → Type 0
FedParts (feed.Counted a) w = ScriptParts a w
FedParts (feed.Refused r p) w = (number_in w ≡ number_of r) × (value_in w ≡ p)

script_back : (a : CheckAnswer) → CheckWithin a → ScriptParts a (packed_fed (feed.Counted a))
script_back check.Accepted h = refl
script_back (check.Refused r p) h = (script-number r p, script-refusal r p, script-place r p (omega arith))

judged-within : (x : Fed) → CheckWithin (judgement x)
judged-within x = by (read_of x) (read-within x.text x.scratch x.sheet)
  where
    by : (y : ReadAnswer × List ℕ × List ℕ) → ReadWithin y.0 → CheckWithin (when_read x.list x.text y)
    by (read.Accepted n c j, words, s) h = check_within x.list x.text (take n s)
    by (read.Refused r p, words, s) h = omega arith

pub feed_parts : (ws : List ℕ) (x : Fed) → FedParts (feeding ws x).0 (packed_fed (feeding ws x).0)
unfolding feeding
feed_parts ws x = go (full ws)
  where
    go : (b : Bool)
        → let a = cond {A = FeedAnswer × List ℕ × List ℕ × List ℕ} b (feed.Refused TooManyScripts 0, ws, x.scratch, x.sheet)
        (feed.Counted (judgement x), added (λ i. figure i x) ws, (read_of x).1, (read_of x).2)
        in
        FedParts a.0 (packed_fed a.0)
    go true = (refusal-number TooManyScripts 0, refusal-place TooManyScripts 0 (omega arith))
    go false = script_back (judgement x) (judged-within x)

-- ---- lookups: the book, where the body starts in it, and its length

abbrev pub LookupParts : LookupAnswer → ℕ → Type 0
LookupParts (lookup.InStore start n) w = BodyParts 0 start n w
LookupParts (lookup.InChain start n) w = BodyParts 1 start n w
LookupParts (lookup.Refused r p) w = (number_in w ≡ number_of r) × (value_in w ≡ p)

pub lookup_parts : (store chain name : List ℕ)
    → LookupParts (looking_up store chain name) (packed_lookup (looking_up store chain name))
lookup_parts store chain name = by (looking_up store chain name) (lookup_within store chain name)
  where
    by : (a : LookupAnswer) → LookupWithin a → LookupParts a (packed_lookup a)
    by (lookup.InStore start n) h = store_body start n (omega (arith, h.0)) (omega (arith, h.1))
    by (lookup.InChain start n) h = chain_body start n (omega (arith, h.0)) (omega (arith, h.1))
    by (lookup.Refused r p) h = (refusal-number r p, refusal-place r p (omega arith))

-- ---- listings

abbrev pub OrderParts : OrderAnswer → ℕ → Type 0
OrderParts (order.Listed n) w = (number_in w ≡ 0) × (value_in w ≡ n)
OrderParts (order.Refused r p) w = (number_in w ≡ number_of r) × (value_in w ≡ p)

pub order_parts : (t out : List ℕ) → OrderParts (listing t out).0 (packed_order (listing t out).0)
order_parts t out = by (listing t out).0 (order-within t out)
  where
    by : (a : OrderAnswer) → OrderWithin a → OrderParts a (packed_order a)
    by (order.Listed n) h = (order-number n, order-items n (omega arith))
    by (order.Refused r p) h = (refusal-number r p, refusal-place r p (omega arith))
