-- `sheet_records::take_record` meets its contract: one case a kind, its start and its fields.
use mathlib.Core.Logic.{⊎_elim}
use native.Mathlib.Omega.{arith}
use mathlib.Core.Path.{ap, refl, ◌∙◌}
use Rattle.ast.specs.Tree.{width}
use Rattle.codec.specs.Codec.{below, big, opt, ◌▹◌}
use Rattle.sheet_records.specs.Means.{blank, count_form}
use Rattle.sheet_records.specs.declared.Kind.TheVariants.{Leaf, Container}
use Rattle.sheet.specs.Sheet.{pattern_form, word}
use Rattle.sheet_decode.proofs.ReadLaws.{◌&◌}
use Rattle.sheet_records.proofs.RecordLaws as records
use Rattle.sheet_records.proofs.take_record.Goals as goal

pub returns-in-2 : goal.returns-in-2
returns-in-2 c =
    let b = c.take_kind-k.ensures in
    records.told 2 b c.in-2.is (b.start_at & c.take_keyframes-t.ensures) (λ x e i. (Leaf, 2, (e i).1.frames))

pub returns-in-5 : goal.returns-in-5
returns-in-5 c =
    let r = records.made (below 2 ▹ big 2) (below 2 ▹ count_form) (λ p. (p.0, blank p.1)) {g = λ p. Container (width p.1)}
    (records.after (below 2) (big 2) count_form blank records.counts) c.take_group-g.ensures
    (λ p e. ap Container (records.width-blank p.1 ∙ ap (λ g. g.nodes) e))
    in
    let b = c.take_kind-k.ensures in
    records.told 5 b c.in-5.is (b.start_at & r) (λ x e i. ((e i).1, 5, 0))

pub returns-in-6 : goal.returns-in-6
returns-in-6 c =
    let r = records.made (opt pattern_form ▹ opt word ▹ big 2) (opt pattern_form ▹ opt word ▹ count_form)
    (λ p. (p.0, (p.1.0, blank p.1.1))) {g = λ p. Container (width p.1.1)}
    (records.after (opt pattern_form) (opt word ▹ big 2) (opt word ▹ count_form) (λ q. (q.0, blank q.1))
    (records.after (opt word) (big 2) count_form blank records.counts))
    c.take_stagger-g.ensures (λ p e. ap Container (records.width-blank p.1.1 ∙ ap (λ g. g.nodes) e))
    in
    let b = c.take_kind-k.ensures in
    records.told 6 b c.in-6.is (b.start_at & r) (λ x e i. ((e i).1, 6, 0))

pub returns-in-3 : goal.returns-in-3
returns-in-3 c =
    let b = c.take_kind-k.ensures in
    let r = records.made (big 2) count_form blank {g = λ ns. Container (width ns)} records.counts c.take_field-c.ensures.reads
    (λ a e. ap Container (records.width-blank a ∙ e))
    in
    ⊎_elim (λ h. records.told 3 b h (b.start_at & r) (λ x e i. ((e i).1, 3, 0)))
    (λ h. records.told 4 b h (b.start_at & r) (λ x e i. ((e i).1, 4, 0)))
    (records.three_or_four c.take_kind-k.result.kind (omega arith) (omega arith) (omega arith) (omega arith))

pub returns-in-0 : goal.returns-in-0
returns-in-0 c =
    let b = c.take_kind-k.ensures in
    records.told 0 b c.in-0.is (b.start_at & c.take_tween.ensures) (λ x e. refl)

pub returns-in-1 : goal.returns-in-1
returns-in-1 c =
    let b = c.take_kind-k.ensures in
    records.told 1 b c.in-1.is (b.start_at & c.take_spring.ensures) (λ x e. refl)

pub returns-in-7 : goal.returns-in-7
returns-in-7 c =
    let b = c.take_kind-k.ensures in
    records.told 7 b c.in-7.is (b.start_at & c.take_path.ensures) (λ x e. refl)

pub returns-in-8 : goal.returns-in-8
returns-in-8 c =
    let b = c.take_kind-k.ensures in
    records.told 8 b c.in-8.is (b.start_at & c.take_morph.ensures) (λ x e. refl)

pub returns-in-9 : goal.returns-in-9
returns-in-9 c =
    let b = c.take_kind-k.ensures in
    records.told 9 b c.in-9.is (b.start_at & c.take_draw.ensures) (λ x e. refl)

pub returns-in-10 : goal.returns-in-10
returns-in-10 c =
    let b = c.take_kind-k.ensures in
    records.told 10 b c.in-10.is (b.start_at & c.take_color.ensures) (λ x e. refl)

pub returns-in-11 : goal.returns-in-11
returns-in-11 c =
    let b = c.take_kind-k.ensures in
    records.told 11 b c.in-11.is (b.start_at & c.take_waveform.ensures) (λ x e. refl)

pub returns-in-12 : goal.returns-in-12
returns-in-12 c =
    let b = c.take_kind-k.ensures in
    records.told 12 b c.in-12.is (b.start_at & c.take_preset.ensures) (λ x e. refl)

pub returns-in-13 : goal.returns-in-13
returns-in-13 c =
    let b = c.take_kind-k.ensures in
    records.told 13 b c.in-13.is (b.start_at & c.take_span.ensures) (λ x e. refl)

pub returns-in_default : goal.returns-in_default
returns-in_default c =
    let b = c.take_kind-k.ensures in
    records.told 14 b
    (records.only_at c.take_kind-k.result.kind (omega arith) b.kind_at.small (omega arith) (omega arith) (omega arith) (omega arith)
    (omega arith) (omega arith) (omega arith) (omega arith) (omega arith))
    (b.start_at & c.take_at.ensures) (λ x e. refl)
