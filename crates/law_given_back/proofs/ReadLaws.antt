-- A text that reads to a tree: reading accepts it, if it is short enough, and gives that tree.
use Prim.Native.Nat.{ℕ, ◌-◌, ◌≤◌}
use mathlib.Core.List.{List}
use mathlib.Core.Option.{some}
use mathlib.Core.Path.{◌≡◌, refl, sym, ap, ◌∙◌}
use native.Mathlib.Omega.{arith}
use lib.ListN.{length, take, replicate}
use lib.Seq.{take_at}
use Rattle.text.specs.Limits.{text_limit}
use Rattle.number.specs.Time.{Key}
use Rattle.ast.specs.Tree.{Nodes, map_times, records}
use Rattle.sheet.specs.Sheet.{decode}
use Rattle.sheet.specs.Opening.{opened, opening}
use Rattle.sheet.proofs.Laws.{decodes}
use Rattle.grammar.specs.Grammar.{stored}
use Rattle.reading.specs.Reading.{tree, parse, reading}
use Rattle.error.specs.declared.ReadAnswer.{ReadAnswer}
use Rattle.error.specs.declared.ReadAnswer.TheVariants.{Accepted, Refused}
use Rattle.law_limits.proofs.Limits.{parses, parses_fits, parses_small, parses_opens}
use Rattle.script.proofs.Reading.{sheet_of, accepts, due}
use Rattle.fresh.specs.Meaning.{Sense, sense}
use Rattle.fresh.specs.Reads.{ReadsTo}
use Rattle.fresh.proofs.SenseLaws.{stored_same}
use Rattle.law_given_back.specs.Given.{Given}

-- ---- it reads to a tree exactly if the grammar's tree of it, as reading has it, has that sense

pub parses_to : {u : List ℕ} {x : Sense} (r : ReadsTo u x) → parse u ≡ tree r.tree r.notes.rounded
unfolding parse
parses_to r = rw (r.splits, r.gives, r.whole)

pub reads_to : (u : List ℕ) (ns : Nodes Key) (k : ℕ) → parse u ≡ tree ns k → ReadsTo u (sense stored u ns)
reads_to u ns k e =
    let p = parses u ns e in
    record {
      cut = p.ts;
      splits = p.splits;
      tree = ns;
      notes = p.notes;
      left = p.left;
      gives = p.gives;
      whole = p.whole;
      same = refl;
    }

-- ---- so reading accepts it

pub given : {u : List ℕ} {x : Sense} → length u ≤ text_limit → ReadsTo u x → Given u x
given {u} {x} short r =
    let e = parses_to r in
    let small = parses_small u r.tree short e in
    record {
      sheet = sheet_of u r.tree;
      count = records r.tree;
      rounded = r.notes.rounded;
      small = small;
      accepts = λ scratch room h l. accepts u scratch room r.tree r.notes.rounded
          (record { short = short; scratch = h; parses = e; fits = l });
      tree = map_times stored r.tree;
      decodes = decodes (length u) (map_times stored r.tree) (parses_fits u r.tree short e) (omega arith);
      same = stored_same stored u r.tree ∙ r.same;
    }

-- ---- what reading gave a text: the sheet of the grammar's tree

pub record Read (t s : List ℕ) : Type 0 where
  pub nodes : Nodes Key
  pub count : ℕ
  pub parses : parse t ≡ tree nodes count
  pub opens : opening t s ≡ opened (map_times stored nodes)
  pub holds : decode (length t) s ≡ some (map_times stored nodes)

abbrev length_of : ReadAnswer → ℕ
length_of (Accepted n c k) = n
length_of (Refused r p) = 0

pub was_read : (t scratch room : List ℕ) (n c k : ℕ) → (reading t scratch room).0 ≡ Accepted n c k
    → Read t (take n (reading t scratch room).2)
was_read t scratch room n c k e =
    let d = due t scratch room n c k e in
    let ns = d.0 in
    let h = d.1 in
    let bs = sheet_of t ns in
    let a = accepts t scratch room ns k h in
    let size : length bs ≡ n = ap length_of (ap (λ (r : ReadAnswer × List ℕ × List ℕ). r.0) (sym a) ∙ e) in
    let is : take n (reading t scratch room).2 ≡ bs =
    ap (λ (r : ReadAnswer × List ℕ × List ℕ). take n r.2) a ∙ take_at bs (replicate (length room - length bs) 0) n size in
    record {
      nodes = ns;
      count = k;
      parses = h.parses;
      opens = ap (opening t) is ∙ parses_opens t ns h.short h.parses;
      holds = ap (decode (length t)) is
          ∙ decodes (length t) (map_times stored ns) (parses_fits t ns h.short h.parses)
          (omega (arith, parses_small t ns h.short h.parses));
    }
