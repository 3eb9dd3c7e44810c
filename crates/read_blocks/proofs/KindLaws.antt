-- Each rule of the tables gives what is of its kind.
use Prim.Native.Nat.{ℕ, zero, suc, ◌<◌}
use Prim.Native.String.{String}
use mathlib.Core.List.{List, [], ◌∷◌}
use mathlib.Core.Option.{none, some}
use mathlib.Core.Path.{◌≡◌, refl, subst}
use native.Mathlib.Omega.{arith}
use lib.ListN.{length, get_elem?}
use Rattle.number.specs.Number.{nearest, bits}
use Rattle.number.specs.Rounded.{number_rounded}
use Rattle.number.specs.Time.{Key}
use Rattle.token.specs.Token.{Token}
use Rattle.ast.specs.Tree.{Leaf, Container, Nodes}
use Rattle.error.specs.declared.Refusal.TheVariants.{MissingDuration, Malformed}
use Rattle.grammar.specs.Rule.{Notes, Out, got, refused, after, Rule, ◌>>=◌, ◌>>◌, give, need, if, sees, skip, the, both, eat, choice}
use Rattle.grammar.specs.Rule.{signed, counted, sees_number, inside, repeat}
use Rattle.grammar.specs.Fields.{parse_field_list, pairs, last_number}
use Rattle.grammar.specs.Values.{ident, string, parse_value}
use Rattle.grammar.specs.Grammar.{tween_fields, spring_fields, track_step, path_fields, morph_fields, draw_fields, color_fields, waveform_kind}
use Rattle.grammar.specs.Grammar.{waveform_fields, at_sign, turned, opening_step}
use Rattle.grammar.specs.Grammar.{leaves, parse_tween, parse_spring, parse_keyframes, parse_path, parse_morph, parse_draw, parse_color}
use Rattle.grammar.specs.Grammar.{parse_waveform, parse_preset_call, parse_label, parse_at}
use Rattle.grammar.specs.Grammar.{block, containers, parse_sequence, parse_parallel, parse_group, parse_stagger}
use Rattle.grammar.specs.Grammar.{mode_names}
use Rattle.read_values.proofs.NameLaws.{none≢some}
use Rattle.read_heads.proofs.RowLaws.{by_row}
use Rattle.read_node.specs.Means.{leaf_kind}
use Rattle.read_blocks.specs.Means.{leaf_kind_at, container_kind, container_kind_at, Held, held_by}

-- ---- what a rule gives, if it gives anything

abbrev Given : {A : Type 0} → (A → Type 0) → Out A → Type 0
Given P (got a l ts) = P a
Given P (refused r q) = Unit {0}

pub record Always {A : Type 0} (P : A → Type 0) (p : Rule A) : Type 0 where
  pub by : (l : Notes) (ts : List Token) → Given P (p l ts)

always : {A : Type 0} {P : A → Type 0} {a : A} → P a → Always P (give a)
always h = record { by = λ l ts. h }

-- the last of some rules gives it
behind : {A B : Type 0} {P : B → Type 0} (p : Rule A) {f : A → Rule B} → ((a : A) → Always P (f a)) → Always P (p >>= f)
behind {A} {B} {P} p {f} h = record { by = λ l ts. go (p l ts) }
  where
    go : (o : Out A) → Given P (after o f)
    go (got a l ts) = (h a).by l ts
    go (refused r q) = tt

-- what is given
pub the-given : {A : Type 0} {P : A → Type 0} {p : Rule A} → Always P p → (l m : Notes) (ts us : List Token) (a : A)
    → p l ts ≡ got a m us → P a
the-given {P = P} h l m ts us a e = subst (Given P) e (h.by l ts)

-- what is found in a list stands at a place of it
pub place_low : {A : Type 0} (xs : List A) (i : ℕ) (a : A) → get_elem? xs i ≡ some a → i < length xs
place_low [] i a e = none≢some e
place_low (x ∷ xs) zero a e = omega arith
place_low (x ∷ xs) (suc i) a e = let h = place_low xs i a e in omega arith

-- ---- leaves

abbrev LeafOf : ℕ → Rule (Leaf Key) → Type 0
LeafOf k p = Always (λ (l : Leaf Key). leaf_kind l ≡ k) p

tween_kind : LeafOf 0 parse_tween
unfolding parse_tween
tween_kind =
    behind ident
    (λ target. behind (the ":")
    (λ u. behind parse_value
    (λ from. behind (both "=" ">")
    (λ v. behind parse_value
    (λ to. behind (parse_field_list tween_fields [])
    (λ fs. behind (need MissingDuration (last_number "duration" fs)) (λ duration. always refl)))))))

spring_kind : LeafOf 1 parse_spring
unfolding parse_spring
spring_kind =
    behind ident
    (λ target. behind (the ":")
    (λ u. behind parse_value
    (λ from. behind (both "=" ">") (λ v. behind parse_value (λ to. behind (parse_field_list spring_fields []) (λ fs. always refl))))))

keyframes_kind : LeafOf 2 parse_keyframes
unfolding parse_keyframes
keyframes_kind = behind ident (λ target. behind (inside "{" (repeat track_step ([], none))) (λ s. always refl))

path_kind : LeafOf 7 parse_path
unfolding parse_path
path_kind =
    behind ident
    (λ target. behind (choice Malformed ("along" ∷ []))
    (λ k. behind string
    (λ svg. behind (parse_field_list path_fields [])
    (λ fs. behind (need MissingDuration (last_number "duration" fs)) (λ duration. always refl)))))

morph_kind : LeafOf 8 parse_morph
unfolding parse_morph
morph_kind =
    behind string
    (λ from. behind (both "=" ">")
    (λ u. behind string
    (λ to. behind (parse_field_list morph_fields [])
    (λ fs. behind (need MissingDuration (last_number "duration" fs)) (λ duration. always refl)))))

draw_kind : LeafOf 9 parse_draw
unfolding parse_draw
draw_kind =
    behind string
    (λ svg. behind (parse_field_list draw_fields [])
    (λ fs. behind (need MissingDuration (last_number "duration" fs)) (λ duration. always refl)))

color_kind : LeafOf 10 parse_color
unfolding parse_color
color_kind =
    behind ident
    (λ target. behind (the ":")
    (λ u. behind string
    (λ from. behind (both "=" ">")
    (λ v. behind string
    (λ to. behind (parse_field_list color_fields [])
    (λ fs. behind (need MissingDuration (last_number "duration" fs)) (λ duration. always refl)))))))

waveform_kind_lem : LeafOf 11 parse_waveform
unfolding parse_waveform
waveform_kind_lem = behind waveform_kind (λ kind. behind (parse_field_list waveform_fields []) (λ fs. always refl))

preset_kind : LeafOf 12 parse_preset_call
unfolding parse_preset_call
preset_kind =
    behind ident
    (λ name. behind (if (sees "(") (inside "(" (pairs draw_fields)) (give []))
    (λ fs. behind (if (sees ",") (skip >> parse_field_list draw_fields fs) (give fs)) (λ gs. always refl)))

label_kind : LeafOf 13 parse_label
unfolding parse_label
label_kind = behind string (λ s. behind (the ";") (λ u. always refl))

at-kind : LeafOf 14 parse_at
unfolding parse_at
at-kind =
    behind at_sign
    (λ sign. behind (signed sees_number Malformed)
    (λ w.
    let x : Leaf Key = Leaf.at (record { value = bits (nearest (turned sign.1 w.0) w.1); relative = sign.0 }) in
    behind (counted (number_rounded (turned sign.1 w.0) w.1)) (λ u. behind (eat ";") (λ c. always {a = x} refl))))

-- the rule at the place i of the table
pub leaf_kind_lem : (i : ℕ) (row : String × Rule (Leaf Key)) → get_elem? leaves i ≡ some row → LeafOf (leaf_kind_at i) row.1
unfolding leaves
leaf_kind_lem i row e =
    by_row (λ (r : String × Rule (Leaf Key)). LeafOf (leaf_kind_at i) r.1) i leaves row e (
      (λ j. rw j tween_kind),
      (
        (λ j. rw j spring_kind),
        (
          (λ j. rw j keyframes_kind),
          (
            (λ j. rw j path_kind),
            (
              (λ j. rw j morph_kind),
              (
                (λ j. rw j draw_kind),
                (
                  (λ j. rw j color_kind),
                  ((λ j. rw j waveform_kind_lem), ((λ j. rw j preset_kind), ((λ j. rw j label_kind), ((λ j. rw j at-kind), tt)))),
                ),
              ),
            ),
          ),
        ),
      ),
    )

-- ---- containers

abbrev ContainerOf : ℕ → Rule Container → Type 0
ContainerOf k p = Always (λ (c : Container). container_kind c ≡ k) p

sequence_kind : ContainerOf 3 parse_sequence
unfolding parse_sequence
sequence_kind = always refl

parallel_kind : ContainerOf 4 parse_parallel
unfolding parse_parallel
parallel_kind = always refl

group_kind : ContainerOf 5 parse_group
unfolding parse_group
group_kind = behind (choice Malformed mode_names) (λ mode. always refl)

stagger_kind : ContainerOf 6 parse_stagger
unfolding parse_stagger
stagger_kind = behind (repeat opening_step (none, none)) (λ s. always refl)

pub container_kind_lem : (i : ℕ) (row : String × Rule Container) → get_elem? containers i ≡ some row
    → ContainerOf (container_kind_at i) row.1
unfolding containers
container_kind_lem i row e =
    by_row (λ (r : String × Rule Container). ContainerOf (container_kind_at i) r.1) i containers row e
    ((λ j. rw j sequence_kind), ((λ j. rw j parallel_kind), ((λ j. rw j group_kind), ((λ j. rw j stagger_kind), tt))))

-- the container of a rule that reads more behind it
pub held-kind : (k d : ℕ) (p : Rule Container) → ContainerOf k p → (l m : Notes) (ts us : List Token) (x : Held)
    → held_by p d l ts ≡ got x m us
    → container_kind x.0 ≡ k
held-kind k d p h l m ts us x e = the-given held l m ts us x e
  where
    inside : (o : Out (Nodes Key)) (c : Container) → container_kind c ≡ k
        → Given (λ (y : Held). container_kind y.0 ≡ k) (after o (λ ns. give (c, ns)))
    inside (got ns l ts) c z = z
    inside (refused r q) c z = tt

    go : (o : Out Container) → Given (λ (c : Container). container_kind c ≡ k) o
        → Given (λ (y : Held). container_kind y.0 ≡ k) (after o (λ c. block d >>= λ ns. give (c, ns)))
    go (got c l ts) z = inside (block d l ts) c z
    go (refused r q) z = tt

    held : Always (λ (y : Held). container_kind y.0 ≡ k) (held_by p d)
    held = record { by = λ l ts. go (p l ts) (h.by l ts) }
