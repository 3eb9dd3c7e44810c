-- Numbers, values, easings and loop modes, as they are written, are read.
use Prim.Native.Nat.{ℕ, suc, ◌-◌}
use Prim.Native.String.{String}
use mathlib.Core.Bool.{Bool, true, false, ◌&&◌}
use mathlib.Core.List.{List, [], ◌∷◌, ◌++◌, append_assoc}
use mathlib.Core.Option.{Option, none, some}
use mathlib.Core.Path.{◌≡◌, refl, ap, ◌∙◌, subst}
use native.Mathlib.Omega.{arith}
use lib.Dec.{eqb, leb}
use borrow.Author.Tests.{eq-eqb, leb-true}
use Rattle.digits.specs.Numeral.{Sort, float, written, with_sign}
use Rattle.text.specs.Bytes.{bytes, same, one_of}
use Rattle.text.specs.Words.{is_one_of, is_some, find, under}
use Rattle.number.specs.Number.{nearest, whole, bits}
use Rattle.number.specs.Rounded.{number_rounded}
use Rattle.token.specs.Names.{is_keyword}
use Rattle.ast.specs.Tree.{ValueExpr, scalar, array, EasingSpec, LoopSpec, once, times, forever, ping_pong, ping_pong_times}
use Rattle.error.specs.declared.Refusal.{Refusal}
use Rattle.error.specs.declared.Refusal.TheVariants.{Missing, Malformed}
use Rattle.grammar.specs.Rule.{Rule, need, signed, sees_number, sees_word, sees_byte, sees_pair, ends, give}
use Rattle.grammar.specs.Rule.{◌>>=◌, word, list_step}
use Rattle.grammar.specs.Fields.{Table, row_of, a_number, a_truth, last, last_number}
use Rattle.grammar.specs.Values.{number, count, flag, f32_of, rough_fields, rough_curve, slow_mo_fields, slow_mo_curve, ident, string}
use Rattle.grammar.specs.Values.{truth, parse_float, parse_uint, comma_float, two_floats, parse_uint_in_parens, array_item, array_items}
use Rattle.grammar.specs.Values.{parse_value, comma_floats, four_floats, bezier_curve, steps_curve, wiggle_curve, curves, variant_easing}
use Rattle.grammar.specs.Values.{named_easing, curve_or, parse_easing, times_mode, ping_pong_mode, loop_modes, parse_loop_mode}
use Rattle.pieces.specs.Pieces.{Piece, a_word, a_name, a_plain, a_string, a_mark}
use Rattle.pieces.specs.Pieces.{Form, ahead, laid, curve_names}
use Rattle.pieces.specs.Means.{Means}
use Rattle.pieces.proofs.SignLaws.{nearest-signed}
use Rattle.ast.specs.Tree.{span_bytes}
use Rattle.fresh.specs.Meaning.{EasingSense, named, cubic_bezier, steps, wiggle, rough, slow_mo, easing_sense}
use Rattle.fresh.specs.Fresh.{pairs, unless, spell, mark, two, negative, minus_if, size_of, signed_by}
use Rattle.fresh.specs.Fresh.{field, Writer, f32, u32, floats, more_floats, value, easing, loop_mode}
use Rattle.fresh.specs.Fresh.{truth as truth_pieces}
use Rattle.fresh.proofs.EntryLaws.{put, opt, Row, puts, keep, rows_unless, puts_unless}
use Rattle.fresh.proofs.EntryLaws.{keep_default, reads-pairs, number_past, number-here, or_none}
use Rattle.fresh.proofs.ReadLaws.{Reads, Loops, gives, then, and, tallies, yes_if, no_if, weaken}
use Rattle.fresh.proofs.ReadLaws.{the-mark, eats_mark, eats_none, skips_word, two-marks, needs, a_name_lem, a_plain_lem}
use Rattle.fresh.proofs.ReadLaws.{a_word_lem, a_text, a_number_lem, a_minus, a_whole, in_group, loops, ends_at, again}

-- a mark other than `-` does not stand first in an f32
pub float_first : (form : Form) (b c : ℕ) (us : List Piece) → eqb 45 c ≡ false → (q : ℕ) → sees_byte c (laid form q (f32 b us)) ≡ false
unfolding f32 signed_by minus_if size_of laid ahead
float_first form b c us e q = go (negative b)
  where
    go : (x : Bool) → sees_byte c (laid form q (signed_by float x b us)) ≡ false
    go true = e
    go false = refl

pub float_ends : (form : Form) (b : ℕ) (us : List Piece) (q : ℕ) → ends (laid form q (f32 b us)) ≡ false
unfolding f32 signed_by minus_if size_of laid ahead one_of
float_ends form b us q = go (negative b)
  where
    go : (x : Bool) → ends (laid form q (signed_by float x b us)) ≡ false
    go true = refl
    go false = refl

-- what follows an easing or a loop mode: it begins with no `:` and no `(`
pub record Quiet (form : Form) (us : List Piece) : Type 0 where
  pub colon : (q : ℕ) → sees_byte 58 (laid form q us) ≡ false
  pub paren : (q : ℕ) → sees_byte 40 (laid form q us) ≡ false

pub quiet_mark : (form : Form) (b : ℕ) (us : List Piece) → eqb b 58 ≡ false → eqb b 40 ≡ false → Quiet form (a_mark b ∷ us)
unfolding laid ahead
quiet_mark form b us e f = record { colon = λ q. e; paren = λ q. f }

pub quiet_word : (form : Form) (w : List ℕ) (us : List Piece) → Quiet form (a_word w ∷ us)
unfolding laid ahead
quiet_word form w us = record { colon = λ q. refl; paren = λ q. refl }

pub quiet_field : {A : Type 0} (form : Form) (n : String) (w : A → Writer) (o : Option A) (us : List Piece)
    → Quiet form us → Quiet form (field n w o us)
unfolding field
quiet_field form n w none us h = h
quiet_field form n w (some a) us h = quiet_word form (bytes n) _

and_false : (a : Bool) → (a && false) ≡ false
and_false true = refl
and_false false = refl

abbrev firsts : {A : Type 0} → List (String × A) → List (List ℕ)
firsts [] = []
firsts (f ∷ fs) = bytes f.0 ∷ firsts fs

not-under : {A : Type 0} (fs : List (String × A)) (i : ℕ) (w : List ℕ) → is_some (find (firsts fs) i w) ≡ false → under fs w ≡ none
unfolding under find
not-under [] i w e = refl
not-under {A = A} (f ∷ fs) i w e = go (same w (bytes f.0)) refl (λ h. not-under fs (suc i) w h)
  where
    go : (a : Bool) → same w (bytes f.0) ≡ a
        → (is_some (find (firsts fs) (suc i) w) ≡ false → under fs w ≡ none)
        → under (f ∷ fs) w ≡ none
    go true q ih = absurd (let y : true ≡ false = rw (q, find) at e in let z : ◌≡◌ {A = ℕ} 0 1 = cc in omega arith)
    go false q ih = rw (q, under) (ih (rw (q, find) at e))

-- no curve has such a name
no_curve : (w : List ℕ) → is_one_of curve_names w ≡ false → under curves w ≡ none
unfolding curves
no_curve w e = not-under curves 0 w e

-- two numbers in parentheses, each written or not
two_fields : (n m : String) (a b : ℕ) (x y : Bool) (v w : Writer) → same (bytes m) (bytes n) ≡ false → same (bytes n) (bytes m) ≡ false
    → (last_number n (puts (unless x (n, v) (unless y (m, w) [])) (unless x (a_number a) (unless y (a_number b) [])) []) ≡ keep x a)
    × (last_number m (puts (unless x (n, v) (unless y (m, w) [])) (unless x (a_number a) (unless y (a_number b) [])) []) ≡ keep y b)
unfolding last
two_fields n m a b x y v w e f =
    let all : puts (unless x (n, v) (unless y (m, w) [])) (unless x (a_number a) (unless y (a_number b) [])) [] ≡ put m
    (opt a_number (keep y b)) (put n (opt a_number (keep x a)) []) = puts_unless
    x (n, v) a_number a (unless y (m, w) []) (unless y (a_number b) []) []
    ∙ puts_unless y (m, w) a_number b [] [] (put n (opt a_number (keep x a)) [])
    in (
      rw all (number_past n m _ (opt a_number (keep y b)) e ∙ number-here n [] (keep x a) ∙ or_none (keep x a)),
      rw all (number-here m _ (keep y b) ∙ (rw (number_past m n [] (opt a_number (keep x a)) f) (or_none (keep y b)))),
    )

module _ {form : Form} {s : List ℕ} where
  -- ---- numbers

  -- with its sign
  pub reads_any : (k : Sort) (r : Refusal) (b : ℕ) (us : List Piece)
      → Reads form s 1 (signed sees_number r) (signed_by k (negative b) b us) us
      (λ w. (m : ℕ) × (w.1 ≡ written (form k m)) × Means k m (written (form k m)) × (with_sign w.0 m ≡ b))
  unfolding signed_by minus_if size_of negative
  reads_any k r b us = go (negative b) refl
    where
      go : (x : Bool) → leb 2147483648 b ≡ x
          → Reads form s 1 (signed sees_number r) (signed_by k x b us) us
          (λ w. (m : ℕ) × (w.1 ≡ written (form k m)) × Means k m (written (form k m)) × (with_sign w.0 m ≡ b))
      go true e =
          weaken (a_minus k (b - 2147483648) r us)
          (λ w h. (b - 2147483648, h.1, h.2, rw h.0 (let i = leb-true 2147483648 b e in omega arith)))
      go false e = weaken (a_number_lem k b r us) (λ w h. (b, h.1, h.2, rw h.0))

  pub reads-signed : (r : Refusal) (b : ℕ) (us : List Piece)
      → Reads form s 1 (signed sees_number r) (f32 b us) us (λ w. bits (nearest w.0 w.1) ≡ b)
  unfolding f32
  reads-signed r b us =
      weaken (reads_any float r b us) (λ w h. rw h.1 (nearest-signed w.0 (written (form float h.0)) h.0 h.2 ∙ h.3))

  pub reads_float : (b : ℕ) (us : List Piece) → Reads form s 1 parse_float (f32 b us) us (λ n. n ≡ b)
  unfolding parse_float
  reads_float b us = then (reads-signed Malformed b us) (λ w h. tallies (number_rounded w.0 w.1) (gives h))

  pub reads-count : (n : ℕ) (us : List Piece) → Reads form s 1 parse_uint (u32 n us) us (λ m. m ≡ n)
  unfolding parse_uint u32
  reads-count n us = then (a_whole n Missing us) (λ w h. needs Malformed (whole w.0 w.1) n (rw (h.0, h.1) h.2.1))

  pub reads-count_in : (n : ℕ) (us : List Piece) → Reads form s 1 parse_uint_in_parens (mark "(" ∷ u32 n (mark ")" ∷ us)) us (λ m. m ≡ n)
  unfolding parse_uint_in_parens one_of
  reads-count_in n us = in_group 40 41 refl refl refl (reads-count n (mark ")" ∷ us))

  pub reads_comma_float : (b : ℕ) (us : List Piece) → Reads form s 1 comma_float (mark "," ∷ f32 b us) us (λ n. n ≡ b)
  unfolding comma_float
  reads_comma_float b us = and (the-mark 44 (f32 b us) refl) (reads_float b us)

  pub reads_two : (a b : ℕ) (us : List Piece) → Reads form s 1 two_floats (f32 a (mark "," ∷ f32 b us)) us (λ p. p ≡ (a, b))
  unfolding two_floats
  reads_two a b us = then (reads_float a _) (λ x h. then (reads_comma_float b us) (λ y g. gives (rw (h, g))))

  -- ---- values

  item : (x : ℕ) (acc : List ℕ) (us : List Piece) → Reads form s 1 (array_item acc) (f32 x us) us (λ xs. xs ≡ acc ++ x ∷ [])
  unfolding array_item
  item x acc us = then (reads_float x us) (λ y h. gives (rw h))

  items : (xs : List ℕ) (x : ℕ) (acc : List ℕ) (us : List Piece)
      → Loops form s (list_step array_item) acc (f32 x (more_floats xs (mark "]" ∷ us))) (mark "]" ∷ us) (λ ys. ys ≡ acc ++ x ∷ xs)
  unfolding more_floats one_of laid ahead
  items [] x acc us =
      ends_at (no_if ends _ _ (float_ends form x _)
      (then (item x acc _) (λ b h. then (eats_none 44 (mark "]" ∷ us) (λ q. refl)) (λ c g. gives (rw g h)))))
  items (y ∷ ys) x acc us =
      again {R = λ b. b ≡ acc ++ x ∷ []}
      (no_if ends _ _ (float_ends form x _)
      (then (item x acc _) (λ b h. then (eats_mark 44 (f32 y (more_floats ys (mark "]" ∷ us))) refl) (λ c g. gives (rw g h)))))
      (λ b h. rw h
      (subst (λ (zs : List ℕ). Loops form s (list_step array_item) (acc ++ x ∷ []) (f32 y (more_floats ys (mark "]" ∷ us))) (mark "]" ∷ us)
      (λ r. r ≡ zs))
      (append_assoc acc (x ∷ []) (y ∷ ys)) (items ys y (acc ++ x ∷ []) us)))

  pub reads-value : (v : ValueExpr) (us : List Piece) → Reads form s 1 parse_value (value v us) us (λ w. w ≡ v)
  unfolding parse_value value array_items floats laid ahead one_of
  reads-value (scalar x) us = no_if (sees_byte 91) _ _ (float_first form x 91 us refl) (then (reads_float x us) (λ y h. gives (rw h)))
  reads-value (array []) us =
      yes_if (sees_byte 91) _ _ (λ q. refl)
      (then {R = λ (ys : List ℕ). ys ≡ []} (in_group 91 93 refl refl refl (loops (ends_at (yes_if ends _ _ (λ q. refl) (gives refl)))))
      (λ ys h. gives (rw h)))
  reads-value (array (x ∷ xs)) us =
      yes_if (sees_byte 91) _ _ (λ q. refl) (then (in_group 91 93 refl refl refl (loops (items xs x [] us))) (λ ys h. gives (rw h)))

  pub reads-truth : (b : Bool) (us : List Piece) → Reads form s 1 truth (truth_pieces b us) us (λ c. c ≡ b)
  unfolding truth truth_pieces laid ahead same
  reads-truth true us = yes_if (sees_word "true") _ _ (λ q. refl) (and (skips_word (bytes "true") us) (gives refl))
  reads-truth false us =
      no_if (sees_word "true") _ _ (λ q. refl) (yes_if (sees_word "false") _ _ (λ q. refl) (and (skips_word (bytes "false") us) (gives refl)))

  -- ---- names and strings as their places

  pub reads-ident : (w : List ℕ) (us : List Piece) → Reads form s 1 ident (a_name w ∷ us) us (λ x. span_bytes s x ≡ w)
  unfolding ident
  reads-ident w us = then (a_name_lem w us) (λ x h. gives (rw h.0 h.1))

  pub reads-string : (w : List ℕ) (us : List Piece) → Reads form s 1 string (a_string w ∷ us) us (λ x. span_bytes s x ≡ w)
  unfolding string
  reads-string w us = then (a_text w us) (λ x h. gives h.1)

  -- ---- the rules of fields

  pub a_float : (b : ℕ) (us : List Piece) → Reads form s 1 number (f32 b us) us (λ c. c ≡ a_number b)
  unfolding number
  a_float b us = then (reads_float b us) (λ n h. gives (rw h))

  pub a_count : (n : ℕ) (us : List Piece) → Reads form s 1 count (u32 n us) us (λ c. c ≡ a_number n)
  unfolding count
  a_count b us = then (reads-count b us) (λ n h. gives (rw h))

  pub a_truth_lem : (b : Bool) (us : List Piece) → Reads form s 1 flag (truth_pieces b us) us (λ c. c ≡ a_truth b)
  unfolding flag
  a_truth_lem b us = then (reads-truth b us) (λ n h. gives (rw h))

  -- ---- loop modes

  -- a word of the grammar, and the rule that a list has under it
  pub under-word : {A : Type 0} {d : ℕ} {Q : A → Type 0} (n : String) (r : Refusal) (fs : List (String × Rule A)) (p : Rule A)
      {ps us : List Piece}
      → is_keyword (bytes n) ≡ false → under fs (bytes n) ≡ some p
      → Reads form s d p ps us Q
      → Reads form s 1 (word >>= λ w. need r (under fs w.1) >>= λ q. q) (spell n ∷ ps) us Q
  under-word {d = d} {Q = Q} n r fs p {ps = ps} {us = us} e f x =
      then (a_word_lem (bytes n) ps e) (λ w h. then {d = d} (needs r (under fs w.1) p (rw h f)) (λ q g. rw g x))

  pub reads_loop : (m : LoopSpec) (us : List Piece) → Quiet form us → Reads form s 1 parse_loop_mode (loop_mode m us) us (λ n. n ≡ m)
  unfolding parse_loop_mode loop_mode loop_modes under same is_keyword find times_mode ping_pong_mode laid ahead
  reads_loop once us h = under-word "once" Malformed loop_modes (give once) refl refl (gives refl)
  reads_loop (times n) us h = under-word "times" Malformed loop_modes times_mode refl refl (then (reads-count_in n us) (λ x g. gives (rw g)))
  reads_loop forever us h = under-word "forever" Malformed loop_modes (give forever) refl refl (gives refl)
  reads_loop ping_pong us h =
      under-word "ping_pong" Malformed loop_modes ping_pong_mode refl refl (no_if (sees_byte 40) _ _ h.paren (gives refl))
  reads_loop (ping_pong_times n) us h =
      under-word "ping_pong" Malformed loop_modes ping_pong_mode refl refl
      (yes_if (sees_byte 40) _ _ (λ q. refl) (then (reads-count_in n us) (λ x g. gives (rw g))))

  -- ---- easings

  -- a curve's word, and its rule
  curve_word : {d : ℕ} {Q : EasingSpec → Type 0} (n : String) (p : Rule EasingSpec) {ps us : List Piece}
      → is_keyword (bytes n) ≡ false → under curves (bytes n) ≡ some p
      → Reads form s d p ps us Q → Reads form s 1 parse_easing (spell n ∷ ps) us Q
  unfolding parse_easing curve_or laid ahead
  curve_word {d = d} {Q = Q} n p {ps = ps} {us = us} e f x =
      no_if (sees_byte 40) _ _ (λ q. refl) (then {d = d} (a_word_lem (bytes n) ps e) (λ w h. rw (h, f) x))

  reads_bezier : (a b c d : ℕ) (us : List Piece)
      → Reads form s 1 bezier_curve (mark "(" ∷ f32 a (mark "," ∷ f32 b (mark "," ∷ f32 c (mark "," ∷ f32 d (mark ")" ∷ us))))) us
      (λ e. e ≡ EasingSpec.cubic_bezier a b c d)
  unfolding bezier_curve four_floats comma_floats one_of
  reads_bezier a b c d us =
      in_group 40 41 refl refl refl
      (then (reads_two a b _) (λ p h. then (and (the-mark 44 _ refl) (reads_two c d _)) (λ q g. gives (rw (h, g)))))

  pub float_row : (table : Table) (n : String) (b : ℕ) → row_of table (bytes n) ≡ some (n, number)
      → is_keyword (bytes n) ≡ false → Row form s table (n, f32 b) (a_number b)
  float_row table n b e f = record { rule = number; row = e; plain = f; reads = λ us. a_float b us }

  pub count_row : (table : Table) (n : String) (b : ℕ) → row_of table (bytes n) ≡ some (n, count)
      → is_keyword (bytes n) ≡ false → Row form s table (n, u32 b) (a_number b)
  count_row table n b e f = record { rule = count; row = e; plain = f; reads = λ us. a_count b us }

  reads_rough : (a n : ℕ) (us : List Piece)
      → Reads form s 1 rough_curve
      (mark "(" ∷ pairs (unless (eqb a (f32_of 1 2)) ("strength", f32 a) (unless (eqb n 8) ("points", u32 n) [])) (mark ")" ∷ us)) us
      (λ e. e ≡ EasingSpec.rough a n)
  unfolding rough_curve rough_fields row_of same is_keyword find one_of
  reads_rough a n us =
      then (in_group 40 41 refl refl refl
      (reads-pairs rough_fields _ (unless (eqb a (f32_of 1 2)) (a_number a) (unless (eqb n 8) (a_number n) [])) us
      (rows_unless form s rough_fields (eqb a (f32_of 1 2)) _ _ _ _ (float_row rough_fields "strength" a refl refl)
      (rows_unless form s rough_fields (eqb n 8) _ _ _ _ (count_row rough_fields "points" n refl refl) tt))))
      (λ gs h.
      let g = two_fields "strength" "points" a n (eqb a (f32_of 1 2)) (eqb n 8) (f32 a) (u32 n) refl refl in
      gives (rw (h, g.0, g.1, keep_default a (f32_of 1 2), keep_default n 8)))

  reads_slow : (a b : ℕ) (us : List Piece)
      → Reads form s 1 slow_mo_curve
      (mark "("
      ∷ pairs (unless (eqb a (f32_of 7 10)) ("linear_ratio", f32 a) (unless (eqb b (f32_of 2 1)) ("power", f32 b) [])) (mark ")" ∷ us))
      us (λ e. e ≡ EasingSpec.slow_mo a b)
  unfolding slow_mo_curve slow_mo_fields row_of same is_keyword find one_of
  reads_slow a b us =
      then (in_group 40 41 refl refl refl
      (reads-pairs slow_mo_fields _ (unless (eqb a (f32_of 7 10)) (a_number a) (unless (eqb b (f32_of 2 1)) (a_number b) [])) us
      (rows_unless form s slow_mo_fields (eqb a (f32_of 7 10)) _ _ _ _ (float_row slow_mo_fields "linear_ratio" a refl refl)
      (rows_unless form s slow_mo_fields (eqb b (f32_of 2 1)) _ _ _ _ (float_row slow_mo_fields "power" b refl refl) tt))))
      (λ gs h.
      let g = two_fields "linear_ratio" "power" a b (eqb a (f32_of 7 10)) (eqb b (f32_of 2 1)) (f32 a) (f32 b) refl refl in
      gives (rw (h, g.0, g.1, keep_default a (f32_of 7 10), keep_default b (f32_of 2 1))))

  -- `Easing::Name`
  reads_variant : (v : List ℕ) (us : List Piece)
      → Reads form s 1 parse_easing (spell "Easing" ∷ two ":" ":" ∷ a_name v ∷ us) us (λ e. easing_sense s e ≡ named true v)
  unfolding parse_easing curve_or named_easing variant_easing curves under same is_keyword find laid ahead
  reads_variant v us =
      no_if (sees_byte 40) _ _ (λ q. refl) (then {d = 1} (a_word_lem (bytes "Easing") _ refl) (λ w h. rw h
      (yes_if (λ ts. same (bytes "Easing") (bytes "Easing") && sees_pair 58 58 ts) _ _ (λ q. rw (eq-eqb (suc q) (suc q) refl))
      (and (two-marks 58 58 _ refl refl) (then (reads-ident v us) (λ y g. gives (ap (named true) g)))))))

  -- a name alone
  reads_plain : (v : List ℕ) (us : List Piece) → Quiet form us
      → Reads form s 1 parse_easing (a_plain v ∷ us) us (λ e. easing_sense s e ≡ named false v)
  unfolding parse_easing curve_or named_easing laid ahead
  reads_plain v us h =
      no_if (sees_byte 40) _ _ (λ q. refl) (then {d = 0} (a_plain_lem v us) (λ w g. rw (g.0, no_curve v g.2)
      (no_if (λ ts. same v (bytes "Easing") && sees_pair 58 58 ts) _ _ (λ q. rw (h.colon q) (and_false (same v (bytes "Easing"))))
      (gives (ap (named false) g.1)))))

  pub reads-easing : (e : EasingSense) (us : List Piece) → Quiet form us
      → Reads form s 1 parse_easing (easing e us) us (λ x. easing_sense s x ≡ e)
  unfolding easing curves under same is_keyword find steps_curve wiggle_curve
  reads-easing (named true x) us h = reads_variant x us
  reads-easing (named false x) us h = reads_plain x us h
  reads-easing (cubic_bezier a b c d) us h = curve_word "cubic_bezier" bezier_curve refl refl (weaken (reads_bezier a b c d us) (λ x g. rw g))
  reads-easing (steps n) us h = curve_word "steps" steps_curve refl refl (then (reads-count_in n us) (λ m g. gives (ap steps g)))
  reads-easing (wiggle n) us h = curve_word "wiggle" wiggle_curve refl refl (then (reads-count_in n us) (λ m g. gives (ap wiggle g)))
  reads-easing (rough a n) us h = curve_word "rough" rough_curve refl refl (weaken (reads_rough a n us) (λ x g. rw g))
  reads-easing (slow_mo a b) us h = curve_word "slowmo" slow_mo_curve refl refl (weaken (reads_slow a b us) (λ x g. rw g))
