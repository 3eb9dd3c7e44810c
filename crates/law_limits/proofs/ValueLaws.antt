-- Names, strings, numbers and values: they fit the sheet, and what text each takes.
use Prim.Native.Nat.{ℕ, ◌+◌, ◌*◌, ◌≤◌, ◌<◌}
use mathlib.Core.Bool.{Bool, true, false, cond}
use mathlib.Core.List.{List, [], ◌∷◌, ◌++◌}
use mathlib.Core.Option.{Option, none, some, some-injective}
use mathlib.Core.Path.{◌≡◌, refl, sym, ◌∙◌, subst}
use native.Mathlib.Omega.{arith}
use lib.Dec.{T, ltb}
use lib.ListN.{length, get_or, length-append}
use lib.Ieee.{binary32, round}
use lib.Ieee.Fits.{round-fits}
use borrow.Author.Tests.{ltb-false, le-leb}
use Rattle.text.specs.Limits.{text_limit}
use Rattle.text.specs.Bytes.{is_name, bytes}
use Rattle.number.specs.Number.{Written, nearest, whole, bits}
use Rattle.number.specs.Rounded.{number_rounded}
use Rattle.number.proofs.Floats.{nearest-fits, bits_lt}
use Rattle.codec.specs.Codec.{each_out}
use Rattle.codec.proofs.Laws.{Small, All}
use Rattle.sheet.proofs.FormLaws.{small, small_bits, length-word}
use Rattle.ast.specs.Tree.{Span, ValueExpr, array}
use Rattle.sheet.specs.Sheet.{word, value_form}
use Rattle.sheet.proofs.Laws.{span_l, value_l}
use Rattle.token.specs.Token.{name, tokens_from, place, kind, is_mark}
use Rattle.error.specs.declared.Refusal.TheVariants.{Missing, Malformed}
use Rattle.grammar.specs.Rule.{sees, sees_word, give}
use Rattle.grammar.specs.Values.{ident, string, truth, parse_float, parse_uint, parse_float_in_parens, comma_float, two_floats}
use Rattle.grammar.specs.Values.{parse_two_floats_in_parens, parse_uint_in_parens, array_item, array_items, parse_value, f32_of}
use Rattle.law_rules.proofs.RunLaws.{Runs, gives, refuses, then, and, tallies, weaken, tests, needs}
use Rattle.law_rules.proofs.TakeLaws.{a_word_lem, a_text, Number, a_number_lem, a_whole, Inside, in_group, the-mark, skips_word, next_name}
use Rattle.law_rules.proofs.ListLaws.{none≢some, lists}

-- ---- small numbers

f32-below : (b : Bool) (w : Written) → bits (nearest b w) < 4294967296
f32-below b w = bits_lt (nearest b w) (nearest-fits b w)

pub f32_of_small : (n d : ℕ) → Small 4 (f32_of n d)
unfolding f32_of
f32_of_small n d = small_bits (round binary32 false n d) (round-fits binary32 false n d)

whole_below : (b : Bool) (w : Written) (n : ℕ) → whole b w ≡ some n → n < 4294967296
unfolding whole
whole_below true w n e = none≢some e
whole_below false w n e = go (ltb 4294967295 w.digits) refl e
  where
    go : (c : Bool) → ltb 4294967295 w.digits ≡ c → cond {A = Option ℕ} c none (some w.digits) ≡ some n → n < 4294967296
    go true f g = none≢some g
    go false f g = let z = some-injective w.digits n g in omega (arith, ltb-false 4294967295 w.digits f)

pub is_true : {b : Bool} → b ≡ true → T b
is_true e = subst T (sym e) tt

module _ (s : List ℕ) (short : length s ≤ text_limit) where
  -- ---- names and strings as spans

  pub span_fits : (a b : ℕ) → a + b ≤ length s → (span_l (length s)).ok (record { start = a; size = b })
  span_fits a b h = ((small 2 a (omega (arith, short)), small 2 b (omega (arith, short))), is_true (le-leb (a + b) (length s) h))

  pub record Named (q : ℕ) (x : Span) (m : ℕ) : Type 0 where
    pub ok : (span_l (length s)).ok x
    pub on : q < m
    pub apart : is_name (get_or s q 0) ≡ false → q + 2 ≤ m

  pub ident_runs : (q : ℕ) → q ≤ length s → Runs s ident q (Named q)
  unfolding ident
  ident_runs q h =
      then (a_word_lem h) (λ w m g x. gives g (record {
        ok = span_fits w.0 (length w.1) (omega (arith, x.end));
        on = omega (arith, x.end, x.low, x.some);
        apart = λ e. omega (arith, x.apart e, x.end, x.some);
      }))

  pub string_runs : (q : ℕ) → q ≤ length s → Runs s string q (λ x m. (span_l (length s)).ok x × (q + 2 ≤ m))
  unfolding string
  string_runs q h = then (a_text h) (λ x m g y. gives g (span_fits x.0 x.1 (omega (arith, y.end)), omega (arith, y.end, y.low)))

  pub truth_runs : (q : ℕ) → q ≤ length s → Runs s truth q (λ b m. q < m)
  unfolding truth
  truth_runs q h =
      tests (sees_word "true") (λ e. and {f = give true} (skips_word h (bytes "true") e) (λ m g u x. gives g (omega arith)))
      (λ e. tests (sees_word "false") (λ e. and {f = give false} (skips_word h (bytes "false") e) (λ m g u x. gives g (omega arith)))
      (λ e. refuses))

  -- ---- numbers

  -- a number in 4 bytes, from q to m
  pub record Four (q n m : ℕ) : Type 0 where
    pub ok : n < 4294967296
    pub is : Number s q m

  pub float_runs : (q : ℕ) → q ≤ length s → Runs s parse_float q (Four q)
  unfolding parse_float
  float_runs q h =
      then (a_number_lem h Malformed)
      (λ w m g x. tallies (number_rounded w.0 w.1) (gives g (record { ok = f32-below w.0 w.1; is = x.is })))

  pub uint_runs : (q : ℕ) → q ≤ length s → Runs s parse_uint q (λ n m. (n < 4294967296) × (q < m))
  unfolding parse_uint
  uint_runs q h =
      then (a_whole h Missing)
      (λ w m g x. weaken (needs Malformed (whole w.0 w.1) g)
      (λ n o y. (whole_below w.0 w.1 n y.1, let z = y.0 in omega (arith, x.0.is.on))))

  pub float_in_parens : (q : ℕ) → q ≤ length s → Runs s parse_float_in_parens q (λ n m. Small 4 n × (q < m))
  unfolding parse_float_in_parens
  float_in_parens q h =
      weaken (in_group parse_float Four h 40 refl float_runs)
      (λ n m x. (small 4 n x.inner.ok, omega (arith, x.low, x.inner.is.on, x.left.low)))

  pub uint_in_parens : (q : ℕ) → q ≤ length s → Runs s parse_uint_in_parens q (λ n m. (n < 4294967296) × (q < m))
  unfolding parse_uint_in_parens
  uint_in_parens q h =
      weaken (in_group parse_uint (λ i n m. (n < 4294967296) × (i < m)) h 40 refl uint_runs)
      (λ n m x. (x.inner.0, omega (arith, x.low, x.inner.1, x.left.low)))

  pub comma_float_lem : (q : ℕ) → q ≤ length s → Runs s comma_float q (λ n m. Small 4 n × (q < m))
  unfolding comma_float
  comma_float_lem q h =
      and (the-mark h 44 refl) (λ m g u x. weaken (float_runs m g) (λ n o y. (small 4 n y.ok, omega (arith, x, y.is.on))))

  abbrev pub Two : ℕ → ℕ × ℕ → ℕ → Type 0
  Two q p m = (Small 4 p.0 × Small 4 p.1) × (q < m)

  pub two-floats : (q : ℕ) → q ≤ length s → Runs s two_floats q (Two q)
  unfolding two_floats
  two-floats q h =
      then (float_runs q h)
      (λ a m g x. then (comma_float_lem m g) (λ b n f y. gives f ((small 4 a x.ok, y.0), omega (arith, x.is.on, y.1))))

  pub two_in_parens : (q : ℕ) → q ≤ length s → Runs s parse_two_floats_in_parens q (Two q)
  unfolding parse_two_floats_in_parens
  two_in_parens q h =
      weaken (in_group two_floats Two h 40 refl two-floats) (λ p m x. (x.inner.0, omega (arith, x.low, x.inner.1, x.left.low)))

  -- ---- arrays

  pub all_more : {A : Type 0} (P : A → Type 0) (xs : List A) (x : A) → All P xs → P x → All P (xs ++ x ∷ [])
  all_more P [] x h p = (p, tt)
  all_more P (y ∷ xs) x h p = (h.0, all_more P xs x h.1 p)

  -- elements that begin at q: before one, and behind one
  pub record Items (q : ℕ) (k : ℕ) (xs : List ℕ) (m : ℕ) : Type 0 where
    pub ok : All (Small 4) xs
    pub low : q ≤ m
    pub paid : q + 2 * length xs ≤ m + k

  items-run : (q : ℕ) → q ≤ length s → Runs s array_items q (Items q 1)
  unfolding array_items array_item
  items-run q h =
      lists (Items q 0) (Items q 1)
      (λ xs m i. record { ok = i.ok; low = i.low; paid = omega (arith, i.paid) })
      (λ xs m n l c i. record { ok = i.ok; low = omega (arith, i.low); paid = omega (arith, i.paid) })
      array_item
      (λ xs m g i. then (float_runs m g)
      (λ x n f y. gives f
      (record {
        ok = all_more (Small 4) xs x i.ok (small 4 x y.ok);
        low = omega (arith, i.low, y.is.on);
        paid = rw (length-append xs (x ∷ [])) (omega (arith, i.paid, y.is.on));
      })))
      h (record { ok = tt; low = omega arith; paid = omega arith })

  words-length : (xs : List ℕ) → length (each_out word.write xs) ≡ 4 * length xs
  words-length [] = refl
  words-length (x ∷ xs) =
      length-append (word.write x) (each_out word.write xs) ∙ (let e = words-length xs in let f = length-word x in omega arith)

  array_length : (xs : List ℕ) → length (value_form.write (array xs)) ≡ 3 + 4 * length xs
  array_length xs = let e = words-length xs in omega arith

  -- a value from q to m. 3 bytes of the sheet are paid for by each byte of the text, but for 2 of a lone number; where a name follows, by
  -- what stands before that
  pub record Valued (q : ℕ) (v : ValueExpr) (m : ℕ) : Type 0 where
    pub ok : value_l.ok v
    pub on : q < m
    pub paid : length (value_form.write v) + 3 * q ≤ 3 * m + 2
    pub before : (w : List ℕ) → kind (tokens_from s m) ≡ name w → length (value_form.write v) + 3 * q + 1 ≤ 3 * place (tokens_from s m)

  pub value_runs : (q : ℕ) → q ≤ length s → Runs s parse_value q (Valued q)
  unfolding parse_value
  value_runs q h =
      tests (sees "[") (λ e. then (in_group array_items (λ i. Items i 1) h 91 refl items-run) (λ xs m g x. gives g (arrayed xs m g x)))
      (λ e. then (float_runs q h) (λ x m g y. gives g (record {
        ok = small 4 x y.ok;
        on = y.is.on;
        paid = omega (arith, y.is.on, length-word x);
        before = λ w f. let z = (next_name s m g w f).1 y.is.behind in omega (arith, y.is.on, length-word x);
      })))
    where
      arrayed : (xs : List ℕ) (m : ℕ) → m ≤ length s → Inside s (λ i. Items i 1) q xs m → Valued q (array xs) m
      arrayed xs m g x = record {
        ok = (small 2 (length xs) (omega (arith, x.inner.paid, x.left.low, short)), x.inner.ok);
        on = omega (arith, x.low, x.inner.low, x.left.low);
        paid = rw (array_length xs) (omega (arith, x.low, x.inner.low, x.inner.paid, x.left.low));
        before = λ w f.
            let y : is_mark (kind (tokens_from s m)) 0 ≡ false = rw f in
            rw (array_length xs) (omega (arith, (next_name s m g w f).0, x.low, x.inner.low, x.inner.paid, x.left.on y));
      }
