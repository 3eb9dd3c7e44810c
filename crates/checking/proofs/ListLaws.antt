-- What checking is under each list of colours.
use Prim.Native.Nat.{ℕ, ◌≤◌}
use mathlib.Core.Bool.{true, false}
use mathlib.Core.List.{List}
use mathlib.Core.Option.{none}
use mathlib.Core.Path.{◌≡◌, refl, ◌∙◌, ap}
use lib.ListN.{length}
use borrow.Author.Tests.{le-ltb}
use Rattle.text.specs.Limits.{text_limit}
use Rattle.sheet.specs.Sheet.{Forest, decode}
use Rattle.sheet.specs.Opening.{opened, foreign_from, decoded, opening}
use Rattle.law_opened.proofs.OpenedLaws.{text-passes}
use Rattle.error.specs.declared.Refusal.TheVariants.{UnknownList}
use Rattle.presets.specs.Colors.{colors}
use Rattle.colors.specs.Css.{names_of, css_names}
use Rattle.error.specs.declared.CheckAnswer.TheVariants.{Refused}
use Rattle.checking.specs.Rules.{validate_nodes}
use Rattle.checking.specs.Checking.{answer_of, judged, verdict, is_list, unless_unknown, opening_under, checking}

module _ (t s : List ℕ) where
  -- "36 for a list other than the two, after 1 and 2": whatever the sheet is, so before 20
  pub unlisted : (list : ℕ) → is_list list ≡ false → length t ≤ text_limit
      → foreign_from 0 t ≡ none → checking list t s ≡ Refused UnknownList 0
  unfolding checking opening_under
  unlisted list n h f = rw (le-ltb text_limit (length t) h, f, n)

  -- the same of a text with which some bytes are a sheet
  pub unlisted_opened : (list : ℕ) → is_list list ≡ false → {ns : Forest} → opening t s ≡ opened ns
      → checking list t s ≡ Refused UnknownList 0
  unfolding checking opening_under opening
  unlisted_opened list n {ns} e =
      let o = decoded (decode (length t) s) in
      ap (verdict list t) (text-passes t o ns e (unless_unknown list o)) ∙ rw n refl

  -- under one of the two lists
  pub known : (list : ℕ) → is_list list ≡ true → opening_under list t s ≡ opening t s
  unfolding opening_under opening
  known list e = rw e

  -- under either list 1, 2 and 20 come first, then the rules
  pub listed : (list : ℕ) → is_list list ≡ true → checking list t s ≡ verdict list t (opening t s)
  unfolding checking
  listed list e = rw (known list e)

  -- "with the first list checking equals the Rust"
  pub first-list : {ns : Forest} → opening t s ≡ opened ns → checking 1 t s ≡ answer_of (validate_nodes colors t 1 ns)
  unfolding checking opening_under opening is_list judged names_of
  first-list e = ap (verdict 1 t) e

  -- "with the second it equals the standard's names"
  pub second_list : {ns : Forest} → opening t s ≡ opened ns → checking 2 t s ≡ answer_of (validate_nodes css_names t 1 ns)
  unfolding checking opening_under opening is_list judged names_of
  second_list e = ap (verdict 2 t) e
