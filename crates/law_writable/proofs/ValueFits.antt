-- What a rule reads can be written: names, strings, numbers, values and loop modes.
-- u is any text. `form` writes every number that a text can have.
use Prim.Native.Nat.{ℕ, ◌+◌, ◌-◌, ◌<◌}
use mathlib.Core.Bool.{Bool, true, false}
use mathlib.Core.List.{List, [], ◌∷◌, ◌++◌}
use mathlib.Core.Option.{some}
use mathlib.Core.Path.{◌≡◌, refl, ◌∙◌}
use native.Mathlib.Omega.{arith}
use lib.ListN.{length, take, drop}
use lib.Seq.{drop-drop}
use borrow.Author.Tests.{le-leb, lt-leb}
use Rattle.text.specs.Bytes.{part, one_of, is_inside}
use Rattle.number.specs.Number.{Written, nearest, whole, bits}
use Rattle.number.specs.Rounded.{number_rounded}
use Rattle.token.specs.Names.{is_keyword}
use Rattle.codec.proofs.Laws.{All}
use Rattle.ast.specs.Tree.{scalar, array}
use Rattle.error.specs.declared.Refusal.TheVariants.{Missing, Malformed}
use Rattle.grammar.specs.Rule.{sees, sees_number, sees_whole, signed, word, text}
use Rattle.grammar.specs.Values.{ident, string, parse_float, parse_uint, parse_float_in_parens, comma_float, two_floats}
use Rattle.grammar.specs.Values.{parse_two_floats_in_parens, parse_uint_in_parens, array_item, array_items, parse_value}
use Rattle.grammar.specs.Values.{times_mode, ping_pong_mode, loop_modes, parse_loop_mode}
use Rattle.digits.specs.Numeral.{Sort, all, float, with_sign}
use Rattle.pieces.specs.Pieces.{Piece, a_name, a_string, a_mark, a_numeral, Form, word_like}
use Rattle.pieces.specs.Means.{Fits, AllFit, InText, Complete}
use Rattle.pieces.proofs.SignLaws.{nearest-signed, nearest-plain}
use Rattle.pieces.proofs.TextLaws.{lexeme_fine}
use Rattle.ast.specs.Tree.{span_bytes}
use Rattle.fresh.specs.Fresh.{Writer, negative, minus_if, size_of, signed_by, f32, u32, more_floats, floats, value, loop_mode}
use Rattle.fresh.specs.Fresh.{truth as truth_pieces}
use Rattle.law_rules.proofs.RunLaws as run
use Rattle.law_rules.proofs.TakeLaws as tokens
use Rattle.law_rules.proofs.ListLaws.{none≢some, ◌also◌}
use Rattle.law_rules.proofs.AlwaysLaws.{Always, gives, then, and, tallies, weaken, tests, needs}
use Rattle.law_rules.proofs.AlwaysLaws.{the-mark, in_group, items, by_word}

-- the writer's pieces fit, where those that follow do
pub record Fit (form : Form) (w : Writer) : Type 0 where
  pub fits : (us : List Piece) → AllFit form us → AllFit form (w us)

-- ---- writers, one before the other

module _ {form : Form} where
  infixr 5 ◌▸◌
  pub ◌▸◌ : {v w : Writer} → Fit form v → Fit form w → Fit form (λ us. v (w us))
  ◌▸◌ {w = w} x y = record { fits = λ us f. x.fits (w us) (y.fits us f) }

  pub fit-one : {x : Piece} → Fits form x → Fit form (λ us. x ∷ us)
  fit-one h = record { fits = λ us f. (h, f) }

  pub fit_none : Fit form (λ us. us)
  fit_none = record { fits = λ us f. f }

-- a mark
pub fit_mark : {form : Form} (b : ℕ) → Fits form (a_mark b) → Fit form (λ us. a_mark b ∷ us)
fit_mark b h = fit-one h

-- ---- signs

pub signed-fits : (form : Form) (k : Sort) (s : Bool) (m : ℕ) → m < 2147483648 → Fits form (a_numeral k m)
    → Fit form (signed_by k (negative (with_sign s m)) (with_sign s m))
unfolding signed_by negative minus_if size_of one_of
signed-fits form k true m h f =
    let back : m + 2147483648 - 2147483648 ≡ m = omega arith in
    record { fits = λ us g. rw (le-leb 2147483648 (m + 2147483648) (omega arith)) (refl, (rw back f, g)) }
signed-fits form k false m h f = record { fits = λ us g. rw (lt-leb 2147483648 m h) (f, g) }

-- ---- names and strings

-- the name x, with its start
pub record NameIn (u : List ℕ) (x : ℕ × List ℕ) : Type 0 where
  pub bytes : part u x.0 (length x.1) ≡ x.1
  pub word : word_like x.1 ≡ true
  pub plain : is_keyword x.1 ≡ false

module _ {u : List ℕ} where
  pub a_name_lem : Always u word (NameIn u)
  a_name_lem = record { runs = λ q h b. run.weaken (tokens.a_word_lem h) (λ x m w. go x m w) }
    where
      go : {q : ℕ} (x : ℕ × List ℕ) (m : ℕ) → tokens.Word u q x m → NameIn u x
      go x m w = let y = rw w.lexed at (lexeme_fine (drop x.0 u)) in record { bytes = y.1; word = y.0; plain = w.plain }

  a_string_lem : Always u text (λ x. all is_inside (part u x.0 x.1) ≡ true)
  a_string_lem = record { runs = λ q h b. run.weaken (tokens.a_text h) (λ x m w. go x m w) }
    where
      go : {q : ℕ} (x : ℕ × ℕ) (m : ℕ) → tokens.Text u q x m → all is_inside (part u x.0 x.1) ≡ true
      go x m w =
          let e : x.0 ≡ w.quote + 1 = w.start ∙ (omega arith) in
          let y : all is_inside (take x.1 (drop 1 (drop w.quote u))) ≡ true = rw w.lexed at (lexeme_fine (drop w.quote u)) in
          rw (e, ← (drop-drop 1 w.quote u)) y

  -- ---- numbers

  pub a_number_lem : Always u (signed sees_number Malformed) (λ w. InText w.1)
  a_number_lem = record {
    runs = λ q h b. run.weaken (tokens.a_number_lem h Malformed) (λ w m x. (rw x.lexed at (lexeme_fine (drop x.start u))) (x.free b));
  }

  a_whole : Always u (signed sees_whole Missing) (λ w. InText w.1 × (w.1.point ≡ false))
  a_whole = record {
    runs = λ q h b. run.weaken (tokens.a_whole h Missing)
        (λ w m x. ((rw x.0.lexed at (lexeme_fine (drop x.0.start u))) (x.0.free b), x.1));
  }

-- a u32 has no sign
plain-whole : (s : Bool) (w : Written) (n : ℕ) → whole s w ≡ some n → whole false w ≡ some n
unfolding whole
plain-whole true w n e = none≢some e
plain-whole false w n e = e

module _ {form : Form} {u : List ℕ} where
  pub ident-fits : Always u ident (λ x. Fit form (λ us. a_name (span_bytes u x) ∷ us))
  unfolding ident
  ident-fits = then a_name_lem (λ w x. gives (fit-one (rw x.bytes (x.word, x.plain))))

  pub string-fits : Always u string (λ x. Fit form (λ us. a_string (span_bytes u x) ∷ us))
  unfolding string
  string-fits = then a_string_lem (λ s x. gives (fit-one x))

pub nearest-fits : {form : Form} → Complete form → (s : Bool) (w : Written) → InText w → Fit form (f32 (bits (nearest s w)))
unfolding f32
nearest-fits {form} complete s w x =
    rw (nearest-signed s w (bits (nearest false w)) refl) (signed-fits form float s _ (nearest-plain w) (complete.floats w x))

-- ---- how values are written

-- two f32
abbrev pub Two : Form → ℕ × ℕ → Type 0
Two form p = Fit form (f32 p.0) × Fit form (f32 p.1)

abbrev FloatsFit : Form → List ℕ → Type 0
FloatsFit form xs = All (λ x. Fit form (f32 x)) xs

module _ (form : Form) where
  floats-more : (xs : List ℕ) (x : ℕ) → FloatsFit form xs → Fit form (f32 x) → FloatsFit form (xs ++ x ∷ [])
  floats-more [] x h p = (p, tt)
  floats-more (y ∷ xs) x h p = (h.0, floats-more xs x h.1 p)

  more_fit : (xs : List ℕ) → FloatsFit form xs → Fit form (more_floats xs)
  unfolding more_floats one_of
  more_fit [] h = fit_none
  more_fit (x ∷ xs) h = fit_mark 44 refl ▸ h.0 ▸ more_fit xs h.1

  floats_fit : (xs : List ℕ) → FloatsFit form xs → Fit form (floats xs)
  unfolding floats
  floats_fit [] h = fit_none
  floats_fit (x ∷ xs) h = h.0 ▸ more_fit xs h.1

  array_fits : (xs : List ℕ) → FloatsFit form xs → Fit form (value (array xs))
  unfolding value one_of
  array_fits xs h = fit_mark 91 refl ▸ floats_fit xs h ▸ fit_mark 93 refl

  scalar_fits : (x : ℕ) → Fit form (f32 x) → Fit form (value (scalar x))
  unfolding value
  scalar_fits x h = h

  pub truth-fits : (b : Bool) → Fit form (truth_pieces b)
  unfolding truth_pieces word_like all
  truth-fits true = fit-one refl
  truth-fits false = fit-one refl

-- ---- what the rules for numbers, values and loop modes read

module _ {form : Form} (complete : Complete form) {u : List ℕ} where
  pub float_fits : Always u parse_float (λ b. Fit form (f32 b))
  unfolding parse_float
  float_fits = then a_number_lem (λ w x. tallies (number_rounded w.0 w.1) (gives (nearest-fits complete w.0 w.1 x)))

  pub count_fits : Always u parse_uint (λ n. Fit form (u32 n))
  unfolding parse_uint u32
  count_fits =
      then a_whole
      (λ w x. weaken (needs Malformed (whole w.0 w.1))
      (λ n e. fit-one (complete.counts w.1 n x.0 x.1 (plain-whole w.0 w.1 n e))))

  pub float_in_parens : Always u parse_float_in_parens (λ b. Fit form (f32 b))
  unfolding parse_float_in_parens
  float_in_parens = in_group 40 refl float_fits

  pub count_in_parens : Always u parse_uint_in_parens (λ n. Fit form (u32 n))
  unfolding parse_uint_in_parens
  count_in_parens = in_group 40 refl count_fits

  pub two-floats : Always u two_floats (Two form)
  unfolding two_floats comma_float
  two-floats = then float_fits (λ a x. then (and (the-mark 44) float_fits) (λ b y. gives (x, y)))

  pub two_in_parens : Always u parse_two_floats_in_parens (Two form)
  unfolding parse_two_floats_in_parens
  two_in_parens = in_group 40 refl two-floats

  pub value-fits : Always u parse_value (λ v. Fit form (value v))
  unfolding parse_value array_items array_item
  value-fits =
      tests (sees "[")
      (then (in_group 91 refl (items (FloatsFit form) array_item (λ xs h. then float_fits (λ x p. gives (floats-more form xs x h p))) tt))
      (λ xs h. gives (array_fits form xs h)))
      (then float_fits (λ x h. gives (scalar_fits form x h)))

  pub loop_fits : Always u parse_loop_mode (λ m. Fit form (loop_mode m))
  unfolding parse_loop_mode loop_modes times_mode ping_pong_mode loop_mode word_like all one_of
  loop_fits =
      then a_name_lem
      (λ w x.
      by_word Malformed loop_modes w.1 (λ p. p)
      (gives (fit-one refl) also gives (fit-one refl)
      also tests (sees "(") (then count_in_parens (λ n h. gives (fit-one refl ▸ fit_mark 40 refl ▸ h ▸ fit_mark 41 refl)))
      (gives (fit-one refl))
      also then count_in_parens (λ n h. gives (fit-one refl ▸ fit_mark 40 refl ▸ h ▸ fit_mark 41 refl))
      also tt))
