-- 02 (h): the grammar's tree of a text holds no waveform of noise.
use Prim.Native.Nat.{ℕ, zero, suc}
use mathlib.Core.Bool.{Bool, true, false, cond}
use mathlib.Core.List.{List, [], ◌∷◌}
use mathlib.Core.Logic.{◌≢◌}
use mathlib.Core.Option.{Option, none, some}
use mathlib.Core.Path.{◌≡◌, refl, subst}
use borrow.Author.Tests.{eqb-false}
use lib.Dec.{eqb}
use Rattle.text.specs.Words.{under}
use Rattle.number.specs.Rounded.{number_rounded}
use Rattle.number.specs.Time.{Key}
use Rattle.codec.proofs.Laws.{All}
use Rattle.token.specs.Token.{Token}
use Rattle.ast.specs.Tree.{Leaf, Container, Nodes, MotionNode, push, append}
use Rattle.error.specs.declared.Refusal.{Refusal}
use Rattle.error.specs.declared.Refusal.TheVariants.{Malformed, MissingDuration, NoiseWritten}
use Rattle.grammar.specs.Rule.{Notes, Out, got, refused, Rule, after, ◌>>=◌, ◌>>◌, give, refuse, need, if, sees, sees_number, ends, skip}
use Rattle.grammar.specs.Rule.{the, both, eat, word, choice, signed, counted, leave, inside, Next, more, done, next, iterate, repeat}
use Rattle.grammar.specs.Fields.{last_number, pairs, parse_field_list}
use Rattle.grammar.specs.Values.{ident, string, parse_value}
use Rattle.grammar.specs.Grammar.{tween_fields, spring_fields, track_step, path_fields, morph_fields, draw_fields, color_fields, waveform_fields}
use Rattle.grammar.specs.Grammar.{at_sign, turned}
use Rattle.grammar.specs.Grammar.{parse_tween, parse_spring, parse_keyframes, parse_path, parse_morph, parse_draw, parse_color}
use Rattle.grammar.specs.Grammar.{unless_noise, waveform_kind, parse_waveform, parse_preset_call, parse_label, parse_at}
use Rattle.grammar.specs.Grammar.{leaves, containers, or_container, beginning, node_by, parse_node, one_node, nodes_step}
use Rattle.grammar.specs.Grammar.{block, animato_input}
use Rattle.law_limits.proofs.Limits.{parses}
use Rattle.law_rules.proofs.ListLaws.{◌also◌, under_row}
use Rattle.law_rules.proofs.AlwaysLaws.{Next-of, each}
use Rattle.ast.specs.Tree.{noise}
use Rattle.law_converted.specs.NoNoise.{EachLeaf, NotNoise, NoNoise}
use Rattle.law_given_back.specs.Corollaries.{ParsesNoNoise}

-- ---- what holds of each value that a rule gives, whatever the tokens

abbrev Holds : {A : Type 0} → (A → Type 0) → Out A → Type 0
Holds P (got a l ts) = P a
Holds P (refused r p) = Unit {0}

record Gives {A : Type 0} (p : Rule A) (P : A → Type 0) : Type 0 where
  holds : (l : Notes) (ts : List Token) → Holds P (p l ts)

gives : {A : Type 0} {P : A → Type 0} {a : A} → P a → Gives (give a) P
gives x = record { holds = λ l ts. x }

refuses : {A : Type 0} {P : A → Type 0} {r : Refusal} → Gives (refuse r) P
refuses = record { holds = λ l ts. tt }

-- whatever p gives
any : {A : Type 0} (p : Rule A) → Gives p (λ a. Unit {0})
any {A} p = record { holds = λ l ts. go (p l ts) }
  where
    go : (o : Out A) → Holds (λ a. Unit {0}) o
    go (got a l ts) = tt
    go (refused r q) = tt

goes_on : {A B : Type 0} (R : A → Type 0) (P : B → Type 0) (f : A → Rule B) → ((a : A) → R a → Gives (f a) P) → (o : Out A)
    → Holds R o → Holds P (after o f)
goes_on R P f k (got a l ts) x = (k a x).holds l ts
goes_on R P f k (refused r q) x = tt

then : {A B : Type 0} {p : Rule A} {f : A → Rule B} {R : A → Type 0} {P : B → Type 0} → Gives p R → ((a : A) → R a → Gives (f a) P)
    → Gives (p >>= f) P
then {p = p} {f = f} {R = R} {P = P} x k = record { holds = λ l ts. goes_on R P f k (p l ts) (x.holds l ts) }

on : {A B : Type 0} {f : A → Rule B} {P : B → Type 0} (p : Rule A) → ((a : A) → Gives (f a) P) → Gives (p >>= f) P
on p k = then (any p) (λ a x. k a)

past : {A B : Type 0} {f : Rule B} {P : B → Type 0} (p : Rule A) → Gives f P → Gives (p >> f) P
past p x = record { holds = λ l ts. (on p (λ a. x)).holds l ts }

tests : {A : Type 0} {P : A → Type 0} (test : List Token → Bool) {p q : Rule A} → Gives p P → Gives q P → Gives (if test p q) P
tests {P = P} test {p} {q} x y = record { holds = λ l ts. go l ts (test ts) }
  where
    go : (l : Notes) (ts : List Token) (b : Bool) → Holds P (cond b p q l ts)
    go l ts true = x.holds l ts
    go l ts false = y.holds l ts

module _ {A : Type 0} (P : A → Type 0) (step : A → Rule (Next A)) (k : (a : A) → P a → Gives (step a) (Next-of P)) where
  iterates : (n : ℕ) (a : A) → P a → Gives (iterate step n a) P
  unfolding iterate
  iterates zero a x = gives x
  iterates (suc n) a x = record {
    holds = λ l ts. goes_on (Next-of P) P (next (λ b. iterate step n b)) (follows (iterates n)) (step a l ts) ((k a x).holds l ts);
  }
    where
      follows : ((b : A) → P b → Gives (iterate step n b) P) → (c : Next A) → Next-of P c → Gives (next (λ b. iterate step n b) c) P
      follows ih (more b) y = ih b y
      follows ih (done b) y = gives y

  repeats : (a : A) → P a → Gives (repeat step a) P
  repeats a x = record { holds = λ l ts. (iterates l.bound a x).holds l ts }

-- ---- leaves

abbrev Quiet : Rule (Leaf Key) → Type 0
Quiet p = Gives p NotNoise

tween_quiet : Quiet parse_tween
unfolding parse_tween
tween_quiet =
    on ident
    (λ a. past (the ":")
    (on parse_value
    (λ b. past (both "=" ">")
    (on parse_value
    (λ c. on (parse_field_list tween_fields []) (λ fs. on (need MissingDuration (last_number "duration" fs)) (λ d. gives tt)))))))

spring_quiet : Quiet parse_spring
unfolding parse_spring
spring_quiet =
    on ident (λ a. past (the ":")
    (on parse_value (λ b. past (both "=" ">") (on parse_value (λ c. on (parse_field_list spring_fields []) (λ fs. gives tt))))))

keyframes_quiet : Quiet parse_keyframes
unfolding parse_keyframes
keyframes_quiet = on ident (λ a. on (inside "{" (repeat track_step ([], none))) (λ s. gives tt))

path_quiet : Quiet parse_path
unfolding parse_path
path_quiet =
    on ident (λ a. past (choice Malformed ("along" ∷ []))
    (on string (λ b. on (parse_field_list path_fields []) (λ fs. on (need MissingDuration (last_number "duration" fs)) (λ d. gives tt)))))

morph_quiet : Quiet parse_morph
unfolding parse_morph
morph_quiet =
    on string (λ a. past (both "=" ">")
    (on string (λ b. on (parse_field_list morph_fields []) (λ fs. on (need MissingDuration (last_number "duration" fs)) (λ d. gives tt)))))

draw_quiet : Quiet parse_draw
unfolding parse_draw
draw_quiet =
    on string (λ a. on (parse_field_list draw_fields []) (λ fs. on (need MissingDuration (last_number "duration" fs)) (λ d. gives tt)))

color_quiet : Quiet parse_color
unfolding parse_color
color_quiet =
    on ident (λ a. past (the ":")
    (on string (λ b. past (both "=" ">")
    (on string (λ c. on (parse_field_list color_fields []) (λ fs. on (need MissingDuration (last_number "duration" fs)) (λ d. gives tt)))))))

-- "Reading refuses `noise` as a waveform kind"
kind_quiet : Gives waveform_kind (λ k. k ≢ noise)
unfolding waveform_kind unless_noise
kind_quiet = on (choice Malformed ("sine" ∷ "sawtooth" ∷ "square" ∷ "triangle" ∷ "noise" ∷ [])) (λ k. go k (eqb k noise) refl)
  where
    go : (k : ℕ) (b : Bool) → eqb k noise ≡ b → Gives (cond b (refuse NoiseWritten) (give k)) (λ k. k ≢ noise)
    go k true e = refuses
    go k false e = gives (eqb-false k noise e)

waveform_quiet : Quiet parse_waveform
unfolding parse_waveform
waveform_quiet = then kind_quiet (λ k q. on (parse_field_list waveform_fields []) (λ fs. gives q))

preset_quiet : Quiet parse_preset_call
unfolding parse_preset_call
preset_quiet =
    on ident (λ a. on (if (sees "(") (inside "(" (pairs draw_fields)) (give [])) (λ fs.
    on (if (sees ",") (skip >> parse_field_list draw_fields fs) (give fs)) (λ gs. gives tt)))

label_quiet : Quiet parse_label
unfolding parse_label
label_quiet = on string (λ a. past (the ";") (gives tt))

at_quiet : Quiet parse_at
unfolding parse_at
at_quiet =
    on at_sign (λ s. on (signed sees_number Malformed) (λ w.
    past (counted (number_rounded (turned s.1 w.0) w.1)) (past (eat ";") (gives tt))))

all_quiet : All (λ f. Quiet f.1) leaves
unfolding leaves
all_quiet =
    tween_quiet also spring_quiet also keyframes_quiet also path_quiet also morph_quiet also draw_quiet also color_quiet
    also waveform_quiet also preset_quiet also label_quiet also at_quiet also tt

-- ---- nodes

append_quiet : (ns ms : Nodes Key) → NoNoise ns → NoNoise ms → NoNoise (append ns ms)
unfolding EachLeaf
append_quiet Nodes.none ms h g = g
append_quiet (Nodes.leaf p l rest) ms h g = (h.0, append_quiet rest ms h.1 g)
append_quiet (Nodes.box p b inner rest) ms h g = (h.0, append_quiet rest ms h.1 g)

abbrev NodeQuiet : MotionNode Key → Type 0
NodeQuiet n = NoNoise (push n Nodes.none)

module _ (p : Rule (Nodes Key)) (inner : Gives p NoNoise) where
  begins : (start : ℕ) (w : List ℕ) → Gives (node_by p start (beginning w)) NodeQuiet
  unfolding beginning EachLeaf
  begins start w = go (under leaves w) (under containers w) refl
    where
      go : (o : Option (Rule (Leaf Key))) (c : Option (Rule Container)) → under leaves w ≡ o
          → Gives (node_by p start (or_container o c)) NodeQuiet
      go (some r) c e = then (under_row Quiet leaves w r (each Quiet leaves w all_quiet) e) (λ l q. gives (q, tt))
      go none (some r) e = on r (λ b. then inner (λ ns q. gives (q, tt)))
      go none none e = refuses

  step_quiet : (ns : Nodes Key) → NoNoise ns → Gives (nodes_step p ns) (Next-of NoNoise)
  unfolding nodes_step one_node parse_node
  step_quiet ns h =
      tests ends (gives h)
      (tests (sees ";") (past skip (gives h))
      (then (on word (λ w. begins w.0 w.1)) (λ n q. gives (append_quiet ns (push n Nodes.none) h q))))

  nodes_quiet : Gives (repeat (nodes_step p) Nodes.none) NoNoise
  unfolding EachLeaf
  nodes_quiet = repeats NoNoise (nodes_step p) step_quiet Nodes.none tt

block_quiet : (d : ℕ) → Gives (block d) NoNoise
unfolding block
block_quiet zero = record { holds = λ l ts. (tests (sees "{") refuses refuses).holds l ts }
block_quiet (suc d) = record {
  holds = λ l ts. (past (the "{") (then (nodes_quiet (block d) (block_quiet d)) (λ ns q. past (leave 125) (gives q)))).holds l ts;
}

pub parses_no_noise : ParsesNoNoise
unfolding animato_input
parses_no_noise t ns k e =
    let p = parses t ns e in
    subst (Holds NoNoise) p.gives ((nodes_quiet (block 16) (block_quiet 16)).holds _ p.ts)
