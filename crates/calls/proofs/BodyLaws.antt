-- The sheet of a body, record by record.
use Prim.Native.Nat.{ℕ, ◌+◌, ◌≤◌, ◌<◌}
use mathlib.Core.List.{List, [], ◌∷◌}
use mathlib.Core.Logic.{⊎_elim}
use mathlib.Core.Option.{Option, none, some, some-injective}
use mathlib.Core.Path.{◌≡◌, refl, sym, ap, ◌∙◌, subst}
use native.Mathlib.Omega.{arith}
use lib.ListN.{length, drop, drop_of_length-le, length-append}
use Rattle.text.specs.Limits.{text_limit}
use Rattle.text.specs.Bytes.{part}
use Rattle.text.specs.Words.{find}
use Rattle.ast.specs.Tree as tree
use Rattle.ast.specs.Tree.{Nodes, Span, PresetCall, single, holding, width, map_times}
use Rattle.ast.specs.Means.{span_view}
use Rattle.ast.specs.declared.Span as code
use Rattle.number.specs.Time.{Key}
use Rattle.codec.specs.Codec.{big}
use Rattle.codec.proofs.Laws.{All}
use Rattle.sheet.specs.Sheet.{Node, Forest, span_form, forest, inner, encode, decode}
use Rattle.sheet.specs.Records.{nodes_of, kind_of, entries_of}
use Rattle.sheet.proofs.Laws.{inner_l, Fits, decodes, decoded}
use Rattle.sheet_decode.specs.Means.{Reads, got, bad, same}
use Rattle.sheet_decode.proofs.ReadLaws.{le_or_lt}
use Rattle.sheet_records.specs.Means.{record_form, record_view}
use Rattle.sheet_records.specs.declared.Kind.{Kind}
use Rattle.sheet_records.proofs.PlaceLaws.{Behind, behind_head, behind-next, behind-last}
use Rattle.sheet_encode.proofs.ClearLaws.{written}
use Rattle.sheet.proofs.FormLaws.{length-big}
use Rattle.grammar.specs.Rule.{Out}
use Rattle.grammar.specs.Grammar.{stored, block, animato_input}
use Rattle.read_cursor.specs.WordMeans.{at_of}
use Rattle.read_cursor.specs.Means.{Took, notes, tokens}
use Rattle.read_cursor.specs.declared.Cursor.{Cursor}
use Rattle.law_rules.proofs.RunLaws.{Ends, Outcome}
use Rattle.law_limits.proofs.NodeLaws.{Several, nodes-run, sized_ok, block_runs}
use Rattle.books.specs.Book.{Item, Book, held, names}
use Rattle.book.specs.Means.{ItemWent}
use Rattle.book.specs.declared.Item as item
use Rattle.books.specs.Calls.{presets, ordinals}
use Rattle.calls.specs.Means.{mark, marks, named_by, RecordHere, Sheet}
use Rattle.calls.proofs.MarkLaws.{mark_is, marks-append, ordinals-append}
use Rattle.calls.proofs.NodeLaws.{spoken, presets_are, SpanOk, all_spans, record_here}

-- ---- presets

pub is_preset : (x : Node) → kind_of x ≡ 12 → (p : ℕ) × (q : PresetCall) × (x ≡ single p (tree.preset q))
is_preset (single p (tree.tween x)) e = absurd (omega arith)
is_preset (single p (tree.spring x)) e = absurd (omega arith)
is_preset (single p (tree.keyframes x)) e = absurd (omega arith)
is_preset (single p (tree.path x)) e = absurd (omega arith)
is_preset (single p (tree.morph x)) e = absurd (omega arith)
is_preset (single p (tree.draw x)) e = absurd (omega arith)
is_preset (single p (tree.color x)) e = absurd (omega arith)
is_preset (single p (tree.waveform x)) e = absurd (omega arith)
is_preset (single p (tree.preset x)) e = (p, x, refl)
is_preset (single p (tree.label x)) e = absurd (omega arith)
is_preset (single p (tree.at x)) e = absurd (omega arith)
is_preset (holding p tree.sequence ns) e = absurd (omega arith)
is_preset (holding p tree.parallel ns) e = absurd (omega arith)
is_preset (holding p (tree.group m) ns) e = absurd (omega arith)
is_preset (holding p (tree.stagger q d) ns) e = absurd (omega arith)

not_preset : (t : List ℕ) (x : Node) → (kind_of x ≡ 12 → ⊥) → named_by t x ≡ []
not_preset t (single p (tree.tween x)) e = refl
not_preset t (single p (tree.spring x)) e = refl
not_preset t (single p (tree.keyframes x)) e = refl
not_preset t (single p (tree.path x)) e = refl
not_preset t (single p (tree.morph x)) e = refl
not_preset t (single p (tree.draw x)) e = refl
not_preset t (single p (tree.color x)) e = refl
not_preset t (single p (tree.waveform x)) e = refl
not_preset t (single p (tree.preset x)) e = absurd (e refl)
not_preset t (single p (tree.label x)) e = refl
not_preset t (single p (tree.at x)) e = refl
not_preset t (holding p b ns) e = refl

pub no_call : {n k at : ℕ} {s : List ℕ} (t m : List ℕ) (i : ℕ) (ns : List (List ℕ)) (x : Node) → RecordHere n s at k x → (k ≡ 12 → ⊥)
    → m ≡ marks m i (ordinals ns (named_by t x))
no_call t m i ns x h f = rw (not_preset t x (λ e. f (sym h.kind ∙ e)))

-- the span that is read is the preset's name
span_seen : (n : ℕ) {s : List ℕ} {at next : ℕ} {v : code.Span} {x : Span} {rest : List ℕ} → Reads (span_form n) span_view s at v next
    → (span_form n).read (drop at s) ≡ some (x, rest) → span_view x ≡ v
span_seen n {s} {next = next} {x = x} {rest = rest} (got a e q h l) f =
    let z : Prim.Path (Option (Span × List ℕ)) (some (a, drop next s)) (some (x, rest)) = sym e ∙ f in
    let y : ◌≡◌ {A = Span × List ℕ} (a, drop next s) (x, rest) = some-injective (a, drop next s) (x, rest) z in
    sym (ap (λ (p : Span × List ℕ). span_view p.0) y) ∙ q
span_seen n {s} {at} {x = x} {rest = rest} (bad o k) f =
    absurd (⊎_elim (λ h. no (k h)) (λ h. no (rw (drop_of_length-le s {i = at} (omega arith)))) (le_or_lt at (length s)))
  where
    no : (span_form n).read (drop at s) ≡ none → ⊥
    no e = apart (sym e ∙ f)
      where
        apart : {A : Type 0} {a : A} → Prim.Path (Option A) none (some a) → ⊥
        apart z = let w : ◌≡◌ {A = ℕ} 0 1 = cc in omega arith

pub a_call : {n k at next : ℕ} {s a : List ℕ} {v : code.Span} (t m : List ℕ) (i : ℕ) (ns : List (List ℕ)) (x : Node)
    → RecordHere n s at k x → k ≡ 12
    → Reads (span_form n) span_view s (at + 3) v next → a ≡ mark m i (find ns 0 (part t v.start v.size))
    → a ≡ marks m i (ordinals ns (named_by t x))
a_call {n} {v = v} t m i ns x h f r e =
    let y = is_preset x (h.kind ∙ f) in
    let w = span_seen n r (h.name y.1 y.0 y.2).1 in
    let g : find ns 0 (part t v.start v.size) ≡ find ns 0 (part t y.1.name.start y.1.name.size) =
    ap (λ (z : code.Span). find ns 0 (part t z.start z.size)) (sym w)
    in
    e ∙ ap (mark m i) g ∙ mark_is m i (find ns 0 (part t y.1.name.start y.1.name.size))
    ∙ ap (λ (z : Node). marks m i (ordinals ns (named_by t z))) (sym y.2)

-- ---- the walk over a sheet

-- what the records from `at` on still call
pub record Noting (t s before m : List ℕ) (v : Book) (i at : ℕ) : Type 0 where
  pub tree : Forest
  pub decodes : decode (length t) s ≡ some tree
  pub rest : List Node
  pub behind : Behind (length t) s rest at
  pub spans : All (SpanOk (length t)) rest
  pub size : length m ≡ 16384
  pub short : length s ≤ 65535
  pub same : (xs : List Item) → v ≡ held xs
      → marks m i (ordinals (names xs) (spoken t rest)) ≡ marks before i (ordinals (names xs) (presets t tree))

pub noting-start : {t s m : List ℕ} {v : Book} {i c end : ℕ} → length m ≡ 16384 → Sheet (length t) s → Reads (big 2) same s 0 c end
    → Noting t s m m v i end
unfolding Fits
noting-start {t} {s} {m} {v} {i} {c} {end} l h r =
    let d = decoded (length t) s h.tree h.decodes in
    record {
      tree = h.tree;
      decodes = h.decodes;
      rest = nodes_of h.tree;
      behind = behind_head h.tree h.decodes r;
      spans = all_spans (length t) 16 h.tree d.fits.1;
      size = l;
      short = d.short;
      same = λ xs e. ap (λ (w : List (List ℕ)). marks m i (ordinals (names xs) w)) (sym (presets_are t h.tree));
    }

module _ {t s before m : List ℕ} {v : Book} {i at : ℕ} (g : Noting t s before m v i at) where
  -- the next record
  pub record Next (kind next : ℕ) : Type 0 where
    pub node : Node
    pub here : RecordHere (length t) s at kind node
    pub on : (a : List ℕ) → length a ≡ 16384 → ((xs : List Item) → v ≡ held xs → a ≡ marks m i (ordinals (names xs) (named_by t node)))
        → Noting t s before a v i next

  pub noting-next : {kind entries next : ℕ} {w : Kind} → at < length s
      → Reads (record_form (length t)) record_view s at (w, kind, entries) next
      → Next kind next
  unfolding spoken
  noting-next {kind} {entries} {next} h r = go g.rest refl (behind-next g.rest g.behind h r)
    where
      go : (rest : List Node) → g.rest ≡ rest
          → (x : Node) × (ys : List Node) × (g.rest ≡ x ∷ ys) × (kind_of x ≡ kind) × (entries_of x ≡ entries) × Behind (length t) s ys next
          → Next kind next
      go rest q b =
          let b0 = subst (λ (l : List Node). Behind (length t) s l at) b.2 g.behind in
          let o = subst (λ (l : List Node). All (SpanOk (length t)) l) b.2 g.spans in
          record {
            node = b.0;
            here = record_here b.0 b0 o.0 b.3;
            on = λ a l f. record {
              tree = g.tree;
              decodes = g.decodes;
              rest = b.1;
              behind = b.5;
              spans = o.1;
              size = l;
              short = g.short;
              same = λ xs e. ap (λ (z : List ℕ). marks z i (ordinals (names xs) (spoken t b.1))) (f xs e)
                  ∙ sym (marks-append m i (ordinals (names xs) (named_by t b.0)) (ordinals (names xs) (spoken t b.1)))
                  ∙ ap (marks m i) (sym (ordinals-append (names xs) (named_by t b.0) (spoken t b.1)))
                  ∙ ap (λ (l : List Node). marks m i (ordinals (names xs) (spoken t l))) (sym b.2)
                  ∙ g.same xs e;
            };
          }

  pub noting_done : length s ≤ at → (xs : List Item) → v ≡ held xs → (ns : Forest) → decode (length t) s ≡ some ns
      → m ≡ marks before i (ordinals (names xs) (presets t ns))
  unfolding spoken
  noting_done h xs e ns d =
      let z = behind-last g.rest g.behind h in
      let y : Prim.Path (Option Forest) (some g.tree) (some ns) = sym g.decodes ∙ d in
      let q : g.tree ≡ ns = cc in
      ap (λ (l : List Node). marks m i (ordinals (names xs) (spoken t l))) (sym z) ∙ g.same xs e
      ∙ ap (λ (f : Forest). marks before i (ordinals (names xs) (presets t f))) q

-- ---- the sheet of a body

module _ {s : List ℕ} (short : length s ≤ text_limit) {c m : Cursor} {ns : Nodes Key} (t : Took 0 s c m animato_input ns) where
  several : Ends s (tokens s m) (Several s short (inner_l (length s) 16) (block 16) (block_runs s short 16) (at_of c) ns)
  unfolding animato_input
  several =
      subst (λ (o : Out (Nodes Key)). Outcome s o (Several s short (inner_l (length s) 16) (block 16) (block_runs s short 16) (at_of c)))
      t.is
      ((nodes-run s short (inner_l (length s) 16) (block 16) (block_runs s short 16) (at_of c) (omega (arith, t.low, t.ready.high))).run
      (notes s c))

  body-fits : Fits (length s) (map_times stored ns)
  unfolding Fits
  body-fits =
      let w = several in
      sized_ok s short 16 (map_times stored ns) (omega (arith, w.high, w.post.count)) w.post.ok

  body_small : 1 ≤ at_of c → length (encode (length s) (map_times stored ns)) ≤ 49152
  unfolding encode
  body_small h =
      let w = several in
      let fs = map_times stored ns in
      omega (
        arith,
        w.high,
        w.post.paid,
        short,
        length-append ((big 2).write (width fs)) ((forest (length s) (inner (length s) 16) (width fs)).write fs),
        length-big 2 (width fs),
      )

-- the bytes that were written are that sheet
pub body-sheet : {s b a : List ℕ} {c : Cursor} {x : item.Item} → length s ≤ text_limit → length b ≡ 49152 → (g : ItemWent s b a c x)
    → decode (length s) (part a 0 x.body.bytes) ≡ some (map_times stored g.value.nodes)
body-sheet {s} {b} {a} {x = x} short l g =
    let f = body-fits short g.inner in
    let k = body_small short g.inner g.inside in
    let e : part a 0 x.body.bytes ≡ encode (length s) (map_times stored g.value.nodes) = written g.writes (omega arith) in
    ap (decode (length s)) e ∙ decodes (length s) (map_times stored g.value.nodes) f (omega arith)
