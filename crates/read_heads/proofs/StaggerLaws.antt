-- Laws of the fields before the block of `stagger`, read in a loop.
use Prim.Native.Nat.{ℕ, suc, ◌≤◌, ◌<◌}
use Prim.Native.String.{String}
use mathlib.Core.Bool.{true, false}
use mathlib.Core.List.{List}
use mathlib.Core.Option.{Option, none, some}
use mathlib.Core.Path.{◌≡◌, refl}
use native.Mathlib.Omega.{arith}
use lib.ListN.{length}
use Rattle.text.specs.Words.{under}
use Rattle.token.specs.Token.{Token}
use Rattle.ast.specs.Tree.{StaggerPatternSpec, stagger}
use Rattle.error.specs.declared.Refusal.{Refusal}
use Rattle.error.specs.declared.Refusal.TheVariants.{UnknownKeyword}
use Rattle.grammar.specs.Rule.{Notes, Out, got, refused, after, Rule, ◌>>=◌, ◌>>◌, give, need}
use Rattle.grammar.specs.Rule.{sees_byte, the_byte, eat, eat_byte, word, choice_in, Next, repeat, go_on}
use Rattle.grammar.specs.Grammar.{Opening, opening_fields, opening_field, opening_step, parse_stagger}
use Rattle.read_cursor.specs.WordMeans.{at_of}
use Rattle.read_cursor.specs.Means.{Ready, notes, tokens, run, Took}
use Rattle.read_cursor.specs.declared.Cursor.{Cursor}
use Rattle.read_fields.specs.Means.{Gives}
use Rattle.read_fields.proofs.FieldLaws.{by_step}
use Rattle.read_values.specs.Means.{names_of}
use Rattle.read_heads.specs.Means.{opening_of, one_opening, OpeningMeans, ValueMeans}
use Rattle.read_heads.specs.declared.Opening as openings
use Rattle.read_heads.specs.declared.OpeningRead.{OpeningRead}
use Rattle.read_heads.specs.declared.OpeningRead.TheVariants as read
use Rattle.read_values.proofs.NameLaws.{named_row, named_took, named_refused}
use Rattle.read_heads.proofs.RowLaws.{Each, by_row}

-- ---- a field

-- a mark and a value, of which g makes the fields
module _ {A B : Type 0} (s : List ℕ) (b : ℕ) (p : Rule A) (g : A → B) (c m : Cursor) (o : Took 1 s c m (the_byte b) tt) where
  pub marked_took : (n : Cursor) (x : A) → Took 1 s m n p x → Took 1 s c n (the_byte b >> (p >>= λ a. give (g a))) (g x)
  marked_took n x t = record { is = rw (o.is, t.is); low = omega (arith, o.low, t.low); ready = t.ready }

  pub marked_refused : (r : Refusal) (q : ℕ) → run s m p ≡ refused r q → run s c (the_byte b >> (p >>= λ a. give (g a))) ≡ refused r q
  marked_refused r q h = rw (o.is, h)

abbrev pub with_pattern : Opening → StaggerPatternSpec → Opening
with_pattern f p = (some p, f.1)

abbrev pub with_delay : Opening → ℕ → Opening
with_delay f d = (f.0, some d)

-- behind a name, at the row that it names
pub by_opening : (s : List ℕ) (c : Cursor) (f : openings.Opening) (i : ℕ) (a : OpeningRead)
    → Each (λ (row : String × Rule Opening). OpeningMeans s c row.1 a) i 0 (opening_fields (opening_of f))
    → ValueMeans s c f i a
by_opening s c f i a h row e = by_row (λ (row : String × Rule Opening). OpeningMeans s c row.1 a) i (opening_fields (opening_of f)) row e h

-- from the name on
pub named-opening : (s : List ℕ) (c m : Cursor) (f : openings.Opening) (i : ℕ) (a : OpeningRead)
    → Took 1 s c m (choice_in UnknownKeyword (names_of (opening_fields (opening_of f)))) i
    → ValueMeans s m f i a
    → OpeningMeans s c (one_opening (opening_of f)) a
named-opening s c m f i (read.Is x n) k h =
    let t = opening_fields (opening_of f) in (
      named_took s c UnknownKeyword t m i k 1 n (opening_of x) (λ row e. (h row e).0),
      let y = named_row s c UnknownKeyword t m i k in (h y.0 y.1).1,
    )
named-opening s c m f i (read.Refused r q) k h = named_refused s c UnknownKeyword (opening_fields (opening_of f)) m i k r q h

-- a field, and the `,` behind it
abbrev comma : Opening → Rule (Next Opening)
comma f = eat "," >>= λ c. give (go_on c f)

comma_need : (x : Option (Rule Opening)) (l : Notes) (ts : List Token)
    → after (need UnknownKeyword x l ts) (λ p. p >>= comma) ≡ after (after (need UnknownKeyword x l ts) (λ p. p)) comma
comma_need none l ts = refl
comma_need (some p) l ts = refl

comma_word : (f : Opening) (o : Out (ℕ × List ℕ))
    → after o (λ w. need UnknownKeyword (under (opening_fields f) w.1) >>= λ p. p >>= comma)
    ≡ after (after o (λ w. need UnknownKeyword (under (opening_fields f) w.1) >>= λ p. p)) comma
comma_word f (got w l ts) = comma_need (under (opening_fields f) w.1) l ts
comma_word f (refused r q) = refl

field_is : (s : List ℕ) (c : Cursor) (f : Opening) → run s c (opening_field f) ≡ after (run s c (one_opening f)) comma
unfolding opening_field
field_is s c f = comma_word f (run s c word)

-- ---- fields

-- the fields that began at c stand at m with f: what they give from there on they give from c on
pub record Opened (s : List ℕ) (c m : Cursor) (f : Opening) : Type 0 where
  pub low : at_of c ≤ at_of m
  pub ready : Ready s m
  pub goes : (out : Out Opening) → Gives opening_step s m f out → Gives opening_step s c (none, none) out

pub opened_start : (s : List ℕ) (c : Cursor) → Ready s c → Opened s c c (none, none)
opened_start s c r = record { low = omega arith; ready = r; goes = λ out h. h }

took_stagger : (s : List ℕ) (c m : Cursor) (f : Opening)
    → run s c (repeat opening_step (none, none)) ≡ got f (notes s m) (tokens s m)
    → at_of c ≤ at_of m → Ready s m
    → Took 0 s c m parse_stagger (stagger f.0 f.1)
unfolding parse_stagger
took_stagger s c m f e l r = record { is = rw e; low = omega arith; ready = r }

module _ (s : List ℕ) (c m : Cursor) (f : Opening) (o : Opened s c m f) where
  -- the repetition's own bound is enough
  whole : (out : Out Opening) → Gives opening_step s m f out → run s c (repeat opening_step (none, none)) ≡ out
  whole out g = o.goes out g (suc (length s)) (omega arith)

  pub opened_block : sees_byte 123 (tokens s m) ≡ true → Took 0 s c m parse_stagger (stagger f.0 f.1)
  unfolding opening_step
  opened_block e = took_stagger s c m f (whole _ (by_step opening_step f s m _ o.ready (λ k l. rw e))) o.low o.ready

  module _ (e : sees_byte 123 (tokens s m) ≡ false) where
    pub opened_refused : (r : Refusal) (q : ℕ) → run s m (one_opening f) ≡ refused r q → run s c parse_stagger ≡ refused r q
    unfolding opening_step parse_stagger
    opened_refused r q h =
        let g = whole (refused r q) (by_step opening_step f s m (refused r q) o.ready (λ k l. rw (e, field_is s m f, h))) in rw g

    module _ (w u : Cursor) (x : Opening) (y : Took 1 s m w (one_opening f) x) where
      pub opened_more : Took 0 s w u (eat_byte 44) true → Opened s c u x
      unfolding opening_step
      opened_more z = record {
        low = omega (arith, o.low, y.low, z.low);
        ready = z.ready;
        goes = λ out h. o.goes out
            (by_step opening_step f s m out o.ready (λ k l. rw (e, field_is s m f, y.is, z.is) (h k (omega (arith, y.low, z.low)))));
      }

      pub opened_moves : Took 0 s w u (eat_byte 44) true → at_of m < at_of u
      opened_moves z = omega (arith, y.low, z.low)

      pub opened_last : Took 0 s w u (eat_byte 44) false → Took 0 s c u parse_stagger (stagger x.0 x.1)
      unfolding opening_step
      opened_last z =
          took_stagger s c u x (whole _ (by_step opening_step f s m _ o.ready (λ k l. rw (e, field_is s m f, y.is, z.is))))
          (omega (arith, o.low, y.low, z.low)) z.ready
