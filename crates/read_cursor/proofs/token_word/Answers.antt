use Rattle.text.specs.Bytes.{at}
use borrow.Author.Tests.{eq-eqb, ne_eqb}
use Rattle.token.proofs.PieceLaws.{first_name, first-number, first-quoted, first-mark, first-none, size_high}
use Rattle.token.specs.declared.Tok.TheVariants.{Name, Num, Quoted}
use Rattle.read_cursor.specs.WordMeans.{tok_code}
use native.Mathlib.Omega.{arith}
use mathlib.Core.Path.{refl, sym, ◌∙◌}
use Rattle.read_cursor.proofs.token_word.Goals as goal

pub long_word-requires : goal.long_word-requires
long_word-requires c =
    let f = first_name c.args.t.now
    (rw (sym c.byte_at-b.ensures) (sym c.in_class.ensures ∙ c.if-in_class.true))
    in
    (c.requires.0, omega (arith, c.requires.1, c.name_size.ensures, rw f.1 at (size_high c.args.t.now)), omega arith)

pub returns-then-in_class : goal.returns-then-in_class
unfolding tok_code
returns-then-in_class c =
    let f = first_name c.args.t.now
    (rw (sym c.byte_at-b.ensures) (sym c.in_class.ensures ∙ c.if-in_class.true))
    in
    rw (f.0, f.1, sym c.name_size.ensures) (c.long_word.ensures Name refl)

pub long_word-requires-then-in_class-2 : goal.long_word-requires-then-in_class-2
long_word-requires-then-in_class-2 c =
    let e = sym c.byte_at-b.ensures in
    let f = first-number c.args.t.now (rw e (sym c.in_class.ensures ∙ c.if-in_class.false))
    (rw e (sym c.in_class-2.ensures ∙ c.if-in_class-2.true))
    in
    (c.requires.0, omega (arith, c.requires.1, c.number_size.ensures, rw f.1 at (size_high c.args.t.now)), omega arith)

pub returns-then-in_class-2 : goal.returns-then-in_class-2
unfolding tok_code
returns-then-in_class-2 c =
    let e = sym c.byte_at-b.ensures in
    let f = first-number c.args.t.now (rw e (sym c.in_class.ensures ∙ c.if-in_class.false))
    (rw e (sym c.in_class-2.ensures ∙ c.if-in_class-2.true))
    in
    rw (f.0, f.1, sym c.number_size.ensures) (c.long_word-then-in_class-2.ensures Num refl)

pub long_word-requires-then-b-eq34 : goal.long_word-requires-then-b-eq34
long_word-requires-then-b-eq34 c =
    let e = sym c.byte_at-b.ensures in
    let f = first-quoted c.args.t.now (rw e (sym c.in_class.ensures ∙ c.if-in_class.false))
    (rw e (sym c.in_class-2.ensures ∙ c.if-in_class-2.false))
    (eq-eqb _ 34 (e ∙ c.if-b-eq34.true))
    in
    (c.requires.0, omega (arith, c.requires.1, c.quoted_size.ensures, rw f.1 at (size_high c.args.t.now)), omega arith)

pub returns-then-b-eq34 : goal.returns-then-b-eq34
unfolding tok_code
returns-then-b-eq34 c =
    let e = sym c.byte_at-b.ensures in
    let f = first-quoted c.args.t.now (rw e (sym c.in_class.ensures ∙ c.if-in_class.false))
    (rw e (sym c.in_class-2.ensures ∙ c.if-in_class-2.false))
    (eq-eqb _ 34 (e ∙ c.if-b-eq34.true))
    in
    rw (f.0, f.1, sym c.quoted_size.ensures) (c.long_word-then-b-eq34.ensures Quoted refl)

pub returns-then-is_mark : goal.returns-then-is_mark
returns-then-is_mark c =
    let e = sym c.byte_at-b.ensures in
    let f = first-mark c.args.t.now (rw e (sym c.in_class.ensures ∙ c.if-in_class.false))
    (rw e (sym c.in_class-2.ensures ∙ c.if-in_class-2.false))
    (rw e (ne_eqb _ 34 c.if-b-eq34.false)) (rw e (sym c.is_mark.ensures ∙ c.if-is_mark.true))
    in
    rw (f.0, f.1, e) c.mark_word.ensures

pub returns : goal.returns
returns c =
    let e = sym c.byte_at-b.ensures in
    let f = first-none c.args.t.now (rw e (sym c.in_class.ensures ∙ c.if-in_class.false))
    (rw e (sym c.in_class-2.ensures ∙ c.if-in_class-2.false))
    (rw e (ne_eqb _ 34 c.if-b-eq34.false)) (rw e (sym c.is_mark.ensures ∙ c.if-is_mark.false))
    in
    rw f (c.end_word.ensures _)
