-- `read_fields::parse_field_list` meets its contract.
use Rattle.read_cursor.specs.WordMeans.{tok_of}
use Rattle.read_cursor.specs.declared.Cursor.{Cursor}
use mathlib.Core.List.{[]}
use Rattle.read_fields.specs.declared.Item.{Item}
use Prim.Native.Nat.{◌-◌, ℕ}
use Rattle.grammar.specs.Fields.{item_of}
use mathlib.Core.List.{List}
use Rattle.read_fields.proofs.FieldLaws.{gives_closes, gives_halts, passed-field, passed_on, passed_start, passes_moves}
use Rattle.read_cursor.specs.Means.{Ready, tokens}
use mathlib.Core.Path.{ap, sym, ◌∙◌, ◌≡◌}
use native.Mathlib.Omega.{arith}
use Rattle.read_fields.specs.Means.{item_is}
use Rattle.token.specs.Means.{kind_of}
use Rattle.token.specs.declared.Tok.{Tok}
use Rattle.read_cursor.proofs.CursorLaws.{head_told, moved_low}
use Rattle.token.specs.Token.{kind}
use Rattle.read_fields.proofs.parse_field_list.Goals as goal

-- what the head of m is to the list
item : (s : List ℕ) (m : Cursor) (r : Ready s m) (k : Tok) → k ≡ tok_of m → (x y : Item)
    → ((t : List ℕ) (n : ℕ) → item_is x ≡ item_of (kind_of t n k))
    → x ≡ y → item_of (kind (tokens s m)) ≡ item_is y
item s m r k q x y h e = ap item_of (head_told s m r k q) ∙ sym (h _ _) ∙ ap item_is e

pub loop-m-init : goal.loop-m-init
loop-m-init c = passed_start c.args.text.now c.args.c c.requires

pub returns-in-Halts : goal.returns-in-Halts
returns-in-Halts c t e =
    let args = c.args in (
      c.loop-m.invariant.ready,
      c.loop-m.invariant.low,
      λ fs. c.loop-m.invariant.goes t fs _
          (gives_halts args.text.now t c.loop-m.m c.loop-m.invariant.ready
          (item args.text.now c.loop-m.m c.loop-m.invariant.ready _ c.kind-k.ensures _ _ c.item_of.ensures
          c.in-Halts.is)
          fs),
    )

pub advance-requires : goal.advance-requires
advance-requires c = c.loop-m.invariant.ready

pub returns-in-Closes : goal.returns-in-Closes
returns-in-Closes c t e =
    let args = c.args in (
      c.advance.ensures.ready,
      (let a = moved_low args.text.now c.loop-m.m c.advance.result c.loop-m.invariant.ready c.advance.ensures in
          omega (arith, c.loop-m.invariant.low)),
      λ fs. c.loop-m.invariant.goes t fs _
          (gives_closes args.text.now t c.loop-m.m c.loop-m.invariant.ready c.advance.result c.advance.ensures
          (item args.text.now c.loop-m.m c.loop-m.invariant.ready _ c.kind-k.ensures _ _ c.item_of.ensures
          c.in-Closes.is)
          fs),
    )

pub advance-m-requires : goal.advance-m-requires
advance-m-requires c = c.loop-m.invariant.ready

pub loop-m-smaller : goal.loop-m-smaller
loop-m-smaller c =
    let args = c.args in
    let a = passes_moves args.text.now [] c.loop-m.m c.loop-m.invariant.ready c.advance-m.result c.advance-m.ensures
    (item args.text.now c.loop-m.m c.loop-m.invariant.ready _ c.kind-k.ensures _ _ c.item_of.ensures
    c.in-Passes.is)
    in
    omega (arith, c.advance-m.ensures.ready.high)

pub loop-m-preserved : goal.loop-m-preserved
loop-m-preserved c =
    let args = c.args in
    passed_on
    args.text.now
    args.c
    c.loop-m.m
    c.advance-m.result
    c.loop-m.invariant
    c.advance-m.ensures
    (item args.text.now c.loop-m.m c.loop-m.invariant.ready _ c.kind-k.ensures _ _ c.item_of.ensures
    c.in-Passes.is)

pub start_field-requires : goal.start_field-requires
start_field-requires c = c.loop-m.invariant.ready

pub returns-in-Starts : goal.returns-in-Starts
returns-in-Starts c t e =
    let args = c.args in
    passed-field
    args.text.now
    t
    args.c
    c.loop-m.m
    c.loop-m.invariant
    (item args.text.now c.loop-m.m c.loop-m.invariant.ready _ c.kind-k.ensures _ _ c.item_of.ensures
    c.in-Starts.is)
    c.start_field.result
    (c.start_field.ensures t e)
