-- 02 (f): a field of a list that is written cannot be left out.
use Prim.Native.Nat.{ℕ, zero, suc}
use Prim.Native.String.{String}
use mathlib.Core.Bool.{Bool, true, false}
use mathlib.Core.List.{List, [], ◌∷◌, ◌++◌}
use mathlib.Core.Logic.{◌≢◌}
use mathlib.Core.Option.{Option, none, some}
use mathlib.Core.Path.{◌≡◌, refl, sym, ap, ◌∙◌, subst}
use borrow.Author.Tests.{ne_eqb, eq-eqb}
use Rattle.text.specs.Words.{default}
use Rattle.ast.specs.Tree.{DampingMode, critically_damped, overdamped, underdamped}
use Rattle.pieces.specs.Pieces.{Piece, a_name, a_string}
use Rattle.fresh.specs.Fresh as pieces
use Rattle.fresh.specs.Fresh.{Writer, f32, u32, value, truth, easing, loop_mode, field, unless_is, only_true, choose, offset, leaf_body}
use Rattle.fresh.specs.Fresh.{wave_names}
use Rattle.grammar.specs.Grammar.{preset_names, integrator_names, space_names}
use Rattle.law_rules.proofs.ListLaws.{◌also◌}
use Rattle.law_given_back.specs.Omitted.{Slot, required, optional, unless, flag, Values, Differs, Given, without, FieldList}
use Rattle.law_given_back.specs.Omitted.{tweens, springs, paths, morphs, draws, colors, waveforms, LeftOut, Omits}
use Rattle.law_given_back.proofs.PutLaws.{Puts, ◌▹◌, one, nothing, Some, starts, some_puts}
use Rattle.law_given_back.proofs.PutLaws.{f32_puts, u32_puts, value_puts, truth_puts}
use Rattle.law_given_back.proofs.PutLaws.{loop_puts, choose_puts, offset_puts, easing_puts, drops, further}

-- ---- something else is left

pub changed : {A : Type 0} (o : Option A) (a : A) → Differs o a → default o a ≢ a
changed none a d = absurd d
changed (some b) a d = λ e. d (sym e)

pub changes : (ss : List Slot) (i : ℕ) (v : Values ss) → Given ss i v → without ss i v ≢ v
changes [] i v g = absurd g
changes (s ∷ ss) zero v g = λ e. changed s.absent v.0 g (ap (λ (x : s.Value × Values ss). x.0) e)
changes (s ∷ ss) (suc i) v g = λ e. changes ss i v.1 g (ap (λ (x : s.Value × Values ss). x.1) e)

-- the parts of what is made are those that it was made of
pub record Made {X : Type 0} (f : FieldList X) : Type 0 where
  pub has : (d : f.Parts) (v : Values f.slots) → f.values (f.having d v) ≡ v
  pub injective : (d e : f.Parts) → f.make d ≡ f.make e → f.values d ≡ f.values e

abbrev pub Leaves : {X : Type 0} → (X → Writer) → FieldList X → Type 0
Leaves w f =
    (d : f.Parts) (i : ℕ) → Given f.slots i (f.values d) → (us : List Piece)
    → LeftOut (w (f.make d) us) (w (f.make (f.having d (without f.slots i (f.values d)))) us)

pub omits : {X : Type 0} (w : X → Writer) {f : FieldList X} → Made f → Leaves w f → Omits w f
omits w {f} m l d i g =
    let v' = without f.slots i (f.values d) in (
      (λ q. changes f.slots i (f.values d) g (sym (m.has d v') ∙ m.injective (f.having d v') d q)),
      λ us. l d i g us,
    )

-- ---- a field of a list

-- it is written exactly if it is not what its absence reads to
record Fair (s : Slot) (put : s.Value → Writer) : Type 0 where
  own : (a : s.Value) → Puts (put a)
  written : (a : s.Value) → Differs s.absent a → Some (put a)
  omitted : (a : s.Value) → Differs s.absent a → (us : List Piece) → put (default s.absent a) us ≡ us

pub field_puts : {A : Type 0} (s : String) (w : A → Writer) → ((a : A) → Puts (w a)) → (o : Option A) → Puts (field s w o)
unfolding field
field_puts s w h none = nothing
field_puts s w h (some a) = one ▹ one ▹ h a

pub field_some : {A : Type 0} (s : String) (w : A → Writer) (a : A) → Puts (w a) → Some (field s w (some a))
unfolding field
field_some s w a h = starts (one ▹ h)

abbrev needed : String → (ℕ → Writer) → ℕ → Writer
needed s w n = field s w (some n)

needed_fair : (s : String) (w : ℕ → Writer) → ((n : ℕ) → Puts (w n)) → Fair (required ℕ) (needed s w)
needed_fair s w h = record { own = λ n. field_puts s w h (some n); written = λ n d. absurd d; omitted = λ n d us. absurd d }

optional_fair : {A : Type 0} (s : String) (w : A → Writer) → ((a : A) → Puts (w a)) → Fair (optional A) (field s w)
unfolding field
optional_fair {A} s w h = record { own = field_puts s w h; written = there; omitted = λ a d us. refl }
  where
    there : (o : Option A) → o ≢ none → Some (field s w o)
    there none d = absurd (d refl)
    there (some a) d = field_some s w a (h a)

default_fair : (s : String) (w : ℕ → Writer) (d : ℕ) → ((n : ℕ) → Puts (w n)) → Fair (unless d) (λ n. field s w (unless_is d n))
unfolding field unless_is
default_fair s w d h = record {
  own = λ n. field_puts s w h (unless_is d n);
  written = λ n e. rw (ne_eqb n d e) (field_some s w n (h n));
  omitted = λ n e us. rw (eq-eqb d d refl);
}

flag_fair : (s : String) → Fair flag (λ b. field s truth (only_true b))
unfolding field
flag_fair s = record { own = λ b. field_puts s truth truth_puts (only_true b); written = there; omitted = λ b d us. refl }
  where
    there : (b : Bool) → b ≢ false → Some (field s truth (only_true b))
    there true d = field_some s truth true (truth_puts true)
    there false d = absurd (d refl)

damping_some : (m : DampingMode) → Some (pieces.damping (some m))
unfolding pieces.damping
damping_some (critically_damped a) = starts (one ▹ one ▹ f32_puts a ▹ one)
damping_some (overdamped a b) = starts (one ▹ one ▹ f32_puts a ▹ one ▹ f32_puts b ▹ one)
damping_some (underdamped a b) = starts (one ▹ one ▹ f32_puts a ▹ one ▹ f32_puts b ▹ one)

damping_fair : Fair (optional DampingMode) pieces.damping
unfolding pieces.damping
damping_fair = record { own = own; written = there; omitted = λ o d us. refl }
  where
    own : (o : Option DampingMode) → Puts (pieces.damping o)
    own none = nothing
    own (some m) = some_puts (damping_some m)

    there : (o : Option DampingMode) → o ≢ none → Some (pieces.damping o)
    there none d = absurd (d refl)
    there (some m) d = damping_some m

-- ---- fields one behind the other

abbrev Writers : List Slot → Type 0
Writers [] = Unit {0}
Writers (s ∷ ss) = (s.Value → Writer) × Writers ss

abbrev AllFair : (ss : List Slot) → Writers ss → Type 0
AllFair [] ws = Unit {0}
AllFair (s ∷ ss) ws = Fair s ws.0 × AllFair ss ws.1

unfoldable puts : (ss : List Slot) → Writers ss → Values ss → Writer
puts [] ws v ps = ps
puts (s ∷ ss) ws v ps = ws.0 v.0 (puts ss ws.1 v.1 ps)

left_out : (ss : List Slot) (ws : Writers ss) → AllFair ss ws → (i : ℕ) (v : Values ss) → Given ss i v → (us : List Piece)
    → LeftOut (puts ss ws v us) (puts ss ws (without ss i v) us)
unfolding puts
left_out [] ws f i v g us = absurd g
left_out (s ∷ ss) ws f zero v g us =
    let ps = puts ss ws.1 v.1 us in
    subst (LeftOut (ws.0 v.0 ps)) (sym (f.0.omitted v.0 g ps)) (drops (f.0.written v.0 g) ps)
left_out (s ∷ ss) ws f (suc i) v g us = further (f.0.own v.0) (left_out ss ws.1 f.1 i v.1 g us)

-- a node with a list of fields: some pieces stand in front of them that are not theirs
pub record Laid {X : Type 0} (w : X → Writer) (f : FieldList X) : Type 0 where
  made : Made f
  writers : Writers f.slots
  fair : AllFair f.slots writers
  front : f.Parts → Writer
  fronts : (d : f.Parts) → Puts (front d)
  body : (d : f.Parts) (us : List Piece) → w (f.make d) us ≡ front d (puts f.slots writers (f.values d) (pieces.mark ";" ∷ us))
  stays : (d : f.Parts) (v : Values f.slots) → front (f.having d v) ≡ front d

pub laid_omits : {X : Type 0} {w : X → Writer} {f : FieldList X} → Laid w f → Omits w f
laid_omits {w = w} {f = f} x = omits w x.made (λ d i g us.
    let v = f.values d in
    let v' = without f.slots i v in
    let e = f.having d v' in
    let ps = pieces.mark ";" ∷ us in
    let b : w (f.make e) us ≡ x.front d (puts f.slots x.writers v' ps) =
    x.body e us ∙ (λ j. x.stays d v' j (puts f.slots x.writers (x.made.has d v' j) ps)) in
    subst (λ (l : List Piece). LeftOut l (w (f.make e) us)) (sym (x.body d us))
    (subst (LeftOut (x.front d (puts f.slots x.writers v ps))) (sym b)
    (further (x.fronts d) (left_out f.slots x.writers x.fair i v g ps))))

puts_own : (ss : List Slot) (ws : Writers ss) → AllFair ss ws → (v : Values ss) → Puts (puts ss ws v)
unfolding puts
puts_own [] ws f v = nothing
puts_own (s ∷ ss) ws f v = f.0.own v.0 ▹ puts_own ss ws.1 f.1 v.1

pub laid_puts : {X : Type 0} {w : X → Writer} {f : FieldList X} → Laid w f → (d : f.Parts) → Puts (w (f.make d))
laid_puts {w = w} {f = f} x d =
    let v : Writer = λ us. x.front d (puts f.slots x.writers (f.values d) (pieces.mark ";" ∷ us)) in
    let h : Puts v = x.fronts d ▹ puts_own f.slots x.writers x.fair (f.values d) ▹ one in
    record { fronts = λ us. x.body d us ∙ h.fronts us ∙ ap (λ (l : List Piece). l ++ us) (sym (x.body d [])) }

-- ---- nodes with a list of fields

pub tweens_laid : Laid leaf_body tweens
unfolding leaf_body puts
tweens_laid = record {
  made = record { has = λ d v. refl; injective = λ d e q. let z : d ≡ e = cc in ap tweens.values z };
  writers = needed "duration" f32 also field "easing" easing also field "delay" f32 also field "time_scale" f32
      also field "loop" loop_mode also field "snap" f32 also field "round" u32 also (λ b. field "reverse" truth (only_true b)) also tt;
  fair = needed_fair _ _ f32_puts also optional_fair _ _ easing_puts also optional_fair _ _ f32_puts also optional_fair _ _ f32_puts
      also optional_fair _ _ loop_puts also optional_fair _ _ f32_puts also optional_fair _ _ u32_puts also flag_fair _ also tt;
  front = λ d us. a_name d.target ∷ pieces.mark ":" ∷ value d.from (pieces.two "=" ">" ∷ value d.to us);
  fronts = λ d. one ▹ one ▹ value_puts d.from ▹ one ▹ value_puts d.to;
  body = λ d us. refl;
  stays = λ d v. refl;
}

pub springs_laid : Laid leaf_body springs
unfolding leaf_body puts
springs_laid = record {
  made = record { has = λ d v. refl; injective = λ d e q. let z : d ≡ e = cc in ap springs.values z };
  writers = field "preset" (choose preset_names) also field "stiffness" f32 also field "damping" f32 also field "mass" f32
      also field "velocity" value also field "epsilon" f32 also field "integrator" (choose integrator_names) also pieces.damping also tt;
  fair = optional_fair _ _ (choose_puts preset_names) also optional_fair _ _ f32_puts
      also optional_fair _ _ f32_puts also optional_fair _ _ f32_puts
      also optional_fair _ _ value_puts also optional_fair _ _ f32_puts
      also optional_fair _ _ (choose_puts integrator_names)
      also damping_fair also tt;
  front = λ d us. a_name d.target ∷ pieces.mark ":" ∷ value d.from (pieces.two "=" ">" ∷ value d.to us);
  fronts = λ d. one ▹ one ▹ value_puts d.from ▹ one ▹ value_puts d.to;
  body = λ d us. refl;
  stays = λ d v. refl;
}

pub paths_laid : Laid leaf_body paths
unfolding leaf_body puts
paths_laid = record {
  made = record { has = λ d v. refl; injective = λ d e q. let z : d ≡ e = cc in ap paths.values z };
  writers = needed "duration" f32 also field "easing" easing also field "auto_rotate" truth also field "offset" offset
      also field "loop" loop_mode also tt;
  fair = needed_fair _ _ f32_puts also optional_fair _ _ easing_puts also optional_fair _ _ truth_puts also optional_fair _ _ offset_puts
      also optional_fair _ _ loop_puts also tt;
  front = λ d us. a_name d.target ∷ pieces.spell "along" ∷ a_string d.svg ∷ us;
  fronts = λ d. one ▹ one ▹ one;
  body = λ d us. refl;
  stays = λ d v. refl;
}

pub morphs_laid : Laid leaf_body morphs
unfolding leaf_body puts
morphs_laid = record {
  made = record { has = λ d v. refl; injective = λ d e q. let z : d ≡ e = cc in ap morphs.values z };
  writers = (λ n. field "samples" u32 (unless_is 32 n)) also needed "duration" f32 also field "easing" easing also tt;
  fair = default_fair _ _ 32 u32_puts also needed_fair _ _ f32_puts also optional_fair _ _ easing_puts also tt;
  front = λ d us. a_string d.from ∷ pieces.two "=" ">" ∷ a_string d.to ∷ us;
  fronts = λ d. one ▹ one ▹ one;
  body = λ d us. refl;
  stays = λ d v. refl;
}

pub draws_laid : Laid leaf_body draws
unfolding leaf_body puts
draws_laid = record {
  made = record { has = λ d v. refl; injective = λ d e q. let z : d ≡ e = cc in ap draws.values z };
  writers = needed "duration" f32 also field "easing" easing also tt;
  fair = needed_fair _ _ f32_puts also optional_fair _ _ easing_puts also tt;
  front = λ d us. a_string d.svg ∷ us;
  fronts = λ d. one;
  body = λ d us. refl;
  stays = λ d v. refl;
}

pub colors_laid : Laid leaf_body colors
unfolding leaf_body puts
colors_laid = record {
  made = record { has = λ d v. refl; injective = λ d e q. let z : d ≡ e = cc in ap colors.values z };
  writers = needed "duration" f32 also (λ n. field "space" (choose space_names) (unless_is 0 n)) also field "easing" easing also tt;
  fair = needed_fair _ _ f32_puts also default_fair _ _ 0 (choose_puts space_names) also optional_fair _ _ easing_puts also tt;
  front = λ d us. a_name d.target ∷ pieces.mark ":" ∷ a_string d.from ∷ pieces.two "=" ">" ∷ a_string d.to ∷ us;
  fronts = λ d. one ▹ one ▹ one ▹ one ▹ one;
  body = λ d us. refl;
  stays = λ d v. refl;
}

pub waveforms_laid : Laid leaf_body waveforms
unfolding leaf_body puts
waveforms_laid = record {
  made = record { has = λ d v. refl; injective = λ d e q. let z : d ≡ e = cc in ap waveforms.values z };
  writers = field "frequency" f32 also field "amplitude" f32 also field "phase" f32 also field "duty_cycle" f32 also field "seed" u32
      also field "smoothness" f32 also field "duration" f32 also tt;
  fair = optional_fair _ _ f32_puts also optional_fair _ _ f32_puts also optional_fair _ _ f32_puts also optional_fair _ _ f32_puts
      also optional_fair _ _ u32_puts also optional_fair _ _ f32_puts also optional_fair _ _ f32_puts also tt;
  front = λ d us. pieces.word_at wave_names d.kind ∷ us;
  fronts = λ d. one;
  body = λ d us. refl;
  stays = λ d v. refl;
}
