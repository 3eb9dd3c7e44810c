-- Nodes, as they are written, are read.
use Prim.Native.Nat.{ℕ, zero, suc}
use Prim.Native.String.{String}
use mathlib.Core.Bool.{true, false}
use mathlib.Core.List.{List, ◌∷◌}
use mathlib.Core.Option.{Option, none, some}
use mathlib.Core.Path.{◌≡◌, refl, sym, ap, ◌∙◌}
use Rattle.text.specs.Bytes.{bytes, same, one_of}
use Rattle.text.specs.Words.{find, under}
use Rattle.number.specs.Time.{Key}
use Rattle.token.specs.Names.{is_keyword}
use Rattle.ast.specs.Tree.{Leaf, Container, sequence, parallel, group, stagger, Nodes, MotionNode, single, holding, push, append}
use Rattle.grammar.specs.Rule.{Rule, ends, sees_byte, more, done, Next, repeat, inside}
use Rattle.grammar.specs.Grammar.{stored, parse_spring, parse_keyframes, parse_path, parse_morph, parse_color}
use Rattle.grammar.specs.Grammar.{parse_waveform, parse_preset_call, parse_group, parse_stagger, parse_tween, parse_draw}
use Rattle.grammar.specs.Grammar.{parse_label, parse_at, parse_sequence, parse_parallel, leaves, containers, a_leaf}
use Rattle.grammar.specs.Grammar.{a_container, beginning, parse_node, one_node, nodes_step, block}
use Rattle.law_rules.proofs.TreeLaws.{append_none, append-both}
use Rattle.pieces.specs.Pieces.{Piece, a_word, a_name, Form, ahead, laid}
use Rattle.fresh.specs.Meaning.{EasingSense, LeafSense, tween, spring, keyframes, path, morph, draw}
use Rattle.fresh.specs.Meaning.{color, waveform, preset, label, at, Sense, no_nodes, leaf, box, leaf_sense, sense}
use Rattle.fresh.specs.Fresh.{comma_if, field, f32, easing, spell, mark, leaf_word, leaf_body, box_word, box_body, pieces}
use Rattle.fresh.specs.Reads.{Deep}
use Rattle.fresh.proofs.ReadLaws.{Reads, Loops, IsMore, gives, then, and, yes_if, no_if}
use Rattle.fresh.proofs.ReadLaws.{weaken, a_word_lem, skips_mark, in_group, loops, ends_at, again, weaken_loops}
use Rattle.fresh.proofs.KindLaws.{reads_spring, reads_path, reads_morph, reads_color, reads_waveform}
use Rattle.fresh.proofs.HeadLaws.{reads_preset_alone, reads_preset, reads_group, reads_stagger}
use Rattle.fresh.proofs.TrackLaws.{reads_keyframes}
use Rattle.fresh.proofs.LeafLaws.{reads_label, reads_draw, reads_at, reads_tween}

-- what is read for a leaf, with the start of its keyword
abbrev LeafIs : List ℕ → LeafSense → MotionNode Key → Type 0
LeafIs s x n = (p : ℕ) × (l : Leaf Key) × (n ≡ single p l) × (leaf_sense stored s l ≡ x)

abbrev BoxIs : List ℕ → Container → Sense → MotionNode Key → Type 0
BoxIs s b inner n = (p : ℕ) × (ns : Nodes Key) × (n ≡ holding p b ns) × (sense stored s ns ≡ inner)

-- what is read for nodes, onto some that were read before
abbrev NodesAre : List ℕ → Nodes Key → Sense → Nodes Key → Type 0
NodesAre s acc x ns = (m : Nodes Key) × (ns ≡ append acc m) × (sense stored s m ≡ x)

leaf_found : (s : List ℕ) (x : LeafSense) (acc : Nodes Key) (n : Next (Nodes Key))
    → IsMore (λ ns. (n : MotionNode Key) × (ns ≡ append acc (push n Nodes.none)) × LeafIs s x n) n
    → IsMore (λ ns. (p : ℕ) × (l : Leaf Key) × (ns ≡ append acc (Nodes.leaf p l Nodes.none)) × (leaf_sense stored s l ≡ x)) n
leaf_found s x acc (more ns) r = (r.2.0, r.2.1, r.1 ∙ (rw r.2.2), r.2.3)
leaf_found s x acc (done ns) r = r

box_found : (s : List ℕ) (b : Container) (inner : Sense) (acc : Nodes Key) (n : Next (Nodes Key))
    → IsMore (λ ns. (n : MotionNode Key) × (ns ≡ append acc (push n Nodes.none)) × BoxIs s b inner n) n
    → IsMore (λ ns. (p : ℕ) × (m : Nodes Key) × (ns ≡ append acc (Nodes.box p b m Nodes.none)) × (sense stored s m ≡ inner)) n
box_found s b inner acc (more ns) r = (r.2.0, r.2.1, r.1 ∙ (rw r.2.2), r.2.3)
box_found s b inner acc (done ns) r = r

leaf_onto : (s : List ℕ) (p : ℕ) (l : Leaf Key) (x : LeafSense) (acc : Nodes Key) (rest : Sense)
    → (leaf_sense stored s l ≡ x) → (ns : Nodes Key)
    → NodesAre s (append acc (Nodes.leaf p l Nodes.none)) rest ns
    → NodesAre s acc (leaf x rest) ns
leaf_onto s p l x acc rest h ns r =
    (Nodes.leaf p l r.0, r.1 ∙ append-both acc (Nodes.leaf p l Nodes.none) r.0, (rw (h, r.2)))

box_onto : (s : List ℕ) (p : ℕ) (b : Container) (m acc : Nodes Key) (inner rest : Sense)
    → (sense stored s m ≡ inner) → (ns : Nodes Key)
    → NodesAre s (append acc (Nodes.box p b m Nodes.none)) rest ns
    → NodesAre s acc (box b inner rest) ns
box_onto s p b m acc inner rest h ns r =
    (Nodes.box p b m r.0, r.1 ∙ append-both acc (Nodes.box p b m Nodes.none) r.0, (rw (h, r.2)))

closer-ends : (form : Form) (us : List Piece) (q : ℕ) → ends (laid form q (mark "}" ∷ us)) ≡ true
unfolding laid ahead one_of
closer-ends form us q = refl

module _ {form : Form} {s : List ℕ} where
  -- ---- leaves

  leaf_word_lem : {d : ℕ} (block : Rule (Nodes Key)) (x : LeafSense) (n : String) (p : Rule (Leaf Key)) {ps us : List Piece}
      → is_keyword (bytes n) ≡ false → beginning (bytes n) ≡ a_leaf p
      → Reads form s d p ps us (λ l. (leaf_sense stored s l ≡ x)) → Reads form s 1 (parse_node block) (spell n ∷ ps) us (LeafIs s x)
  unfolding parse_node
  leaf_word_lem {d = d} block x n p {ps = ps} {us = us} e f y =
      then {d = d} (a_word_lem (bytes n) ps e) (λ w h. rw (h, f) (then y (λ l g. gives (w.0, l, refl, g))))

  -- ---- steps of a list of nodes

  -- a node of which the first piece is a word
  node_step : {R : MotionNode Key → Type 0} (block : Rule (Nodes Key)) (acc : Nodes Key) (w : List ℕ) {ps us : List Piece}
      → Reads form s 1 (parse_node block) (a_word w ∷ ps) us R
      → Reads form s 1 (nodes_step block acc) (a_word w ∷ ps) us
      (IsMore (λ ns. (n : MotionNode Key) × (ns ≡ append acc (push n Nodes.none)) × R n))
  unfolding nodes_step one_node laid ahead
  node_step block acc w x = no_if ends _ _ (λ q. refl) (no_if (sees_byte 59) _ _ (λ q. refl) (then x (λ n r. gives (n, refl, r))))

  -- a `;` between nodes
  semicolon : (block : Rule (Nodes Key)) (acc : Nodes Key) (us : List Piece)
      → Reads form s 1 (nodes_step block acc) (mark ";" ∷ us) us (IsMore (λ ns. ns ≡ acc))
  unfolding nodes_step one_of laid ahead
  semicolon block acc us = no_if ends _ _ (λ q. refl) (yes_if (sees_byte 59) _ _ (λ q. refl) (and (skips_mark 59 us refl) (gives refl)))

  -- ---- containers

  box_word_lem : {d e : ℕ} (rule : Rule (Nodes Key)) (inner : Sense) (n : String) (p : Rule Container) (b : Container) {ps us vs : List Piece}
      → is_keyword (bytes n) ≡ false → beginning (bytes n) ≡ a_container p
      → Reads form s e p ps us (λ c. c ≡ b)
      → Reads form s d rule us vs (λ ns. (sense stored s ns ≡ inner))
      → Reads form s 1 (parse_node rule) (spell n ∷ ps) vs (BoxIs s b inner)
  unfolding parse_node
  box_word_lem {d = d} {e = e} rule inner n p b {ps = ps} h f x y =
      then {d = e} (a_word_lem (bytes n) ps h)
      (λ w g. rw (g, f) (then x (λ c i. then y (λ ns k. gives (w.0, ns, ap (λ (z : Container). holding w.0 z ns) i, k)))))

  reads_box : {d : ℕ} (rule : Rule (Nodes Key)) (b : Container) (inner : Sense) {ps us : List Piece}
      → Reads form s d rule (mark "{" ∷ ps) us (λ ns. (sense stored s ns ≡ inner))
      → Reads form s 1 (parse_node rule) (spell (box_word b) ∷ box_body b (mark "{" ∷ ps)) us (BoxIs s b inner)
  unfolding box_word box_body beginning leaves containers under same is_keyword find parse_sequence parse_parallel
  reads_box rule sequence inner y = box_word_lem rule inner "sequence" parse_sequence sequence refl refl (gives refl) y
  reads_box rule parallel inner y = box_word_lem rule inner "parallel" parse_parallel parallel refl refl (gives refl) y
  reads_box rule (group m) inner y = box_word_lem rule inner "group" parse_group (group m) refl refl (reads_group m _) y
  reads_box rule (stagger p d) inner y = box_word_lem rule inner "stagger" parse_stagger (stagger p d) refl refl (reads_stagger p d _) y

  -- ---- nodes

  box_step : (b : Container) (inner : Sense) (d : ℕ) (acc : Nodes Key) (us : List Piece)
      → Loops form s (nodes_step (block d)) Nodes.none (pieces inner (mark "}" ∷ mark ";" ∷ us)) (mark "}" ∷ mark ";" ∷ us)
      (NodesAre s Nodes.none inner)
      → Reads form s 1 (nodes_step (block (suc d)) acc) (spell (box_word b) ∷ box_body b (mark "{" ∷ pieces inner (mark "}" ∷ mark ";" ∷ us)))
      (mark ";" ∷ us)
      (IsMore (λ ns. (p : ℕ) × (m : Nodes Key) × (ns ≡ append acc (Nodes.box p b m Nodes.none)) × (sense stored s m ≡ inner)))
  unfolding block one_of
  box_step b inner d acc us x =
      let y : Reads form s 1 (block (suc d)) (mark "{" ∷ pieces inner (mark "}" ∷ mark ";" ∷ us)) (mark ";" ∷ us)
      (λ ns. (sense stored s ns ≡ inner)) = record {
        run = λ l q i g f. z.run l q i g f;
      }
      in
      weaken (node_step (block (suc d)) acc (bytes (box_word b)) (reads_box (block (suc d)) b inner y)) (box_found s b inner acc)
    where
      z : Reads form s 1 (inside "{" (repeat (nodes_step (block d)) Nodes.none)) (mark "{" ∷ pieces inner (mark "}" ∷ mark ";" ∷ us))
          (mark ";" ∷ us) (λ ns. (sense stored s ns ≡ inner))
      z = in_group 123 125 refl refl refl (weaken (loops x) (λ ns r. rw r.1 r.2))

  none_case : (rule : Rule (Nodes Key)) (acc : Nodes Key) (us : List Piece)
      → ((q : ℕ) → ends (laid form q us) ≡ true)
      → Loops form s (nodes_step rule) acc us us (NodesAre s acc no_nodes)
  unfolding nodes_step
  none_case rule acc us e = ends_at (yes_if ends _ _ e (gives (Nodes.none, sym (append_none acc), refl)))

  -- a leaf that takes its `;`
  taken : (l : LeafSense) (rest : Sense) (rule : Rule (Nodes Key)) (acc : Nodes Key) (n : String) (p : Rule (Leaf Key))
      {body ps us : List Piece}
      → is_keyword (bytes n) ≡ false → beginning (bytes n) ≡ a_leaf p
      → Reads form s 1 p body ps (λ x. (leaf_sense stored s x ≡ l))
      → ((acc : Nodes Key) → Loops form s (nodes_step rule) acc ps us (NodesAre s acc rest))
      → Loops form s (nodes_step rule) acc (spell n ∷ body) us (NodesAre s acc (leaf l rest))
  taken l rest rule acc n p e f x ih =
      again (weaken (node_step rule acc (bytes n) (leaf_word_lem rule l n p e f x)) (leaf_found s l acc))
      (λ ns r. rw r.2
      (weaken_loops (ih (append acc (Nodes.leaf r.0 r.1 Nodes.none))) (leaf_onto s r.0 r.1 l acc rest r.3)))

  -- one that leaves it
  left : (l : LeafSense) (rest : Sense) (rule : Rule (Nodes Key)) (acc : Nodes Key) (n : String) (p : Rule (Leaf Key))
      {body ps us : List Piece}
      → is_keyword (bytes n) ≡ false → beginning (bytes n) ≡ a_leaf p
      → Reads form s 1 p body (mark ";" ∷ ps) (λ x. (leaf_sense stored s x ≡ l))
      → ((acc : Nodes Key) → Loops form s (nodes_step rule) acc ps us (NodesAre s acc rest))
      → Loops form s (nodes_step rule) acc (spell n ∷ body) us (NodesAre s acc (leaf l rest))
  left l rest rule acc n p {ps = ps} e f x ih =
      taken l rest rule acc n p e f x (λ a. again (semicolon rule a ps) (λ ms g. rw g (ih a)))

  -- a preset with fields or without
  preset_case : (x : List ℕ) (a : Option ℕ) (e : Option EasingSense) (rest : Sense) (rule : Rule (Nodes Key)) (acc : Nodes Key)
      (ps us : List Piece)
      → ((acc : Nodes Key) → Loops form s (nodes_step rule) acc ps us (NodesAre s acc rest))
      → Loops form s (nodes_step rule) acc
      (spell "preset" ∷ a_name x ∷ comma_if a e (field "duration" f32 a (field "easing" easing e (mark ";" ∷ ps)))) us
      (NodesAre s acc (leaf (preset (record { name = x; duration = a; easing = e })) rest))
  unfolding comma_if field beginning leaves containers under same is_keyword find
  preset_case x none none rest rule acc ps us ih =
      left (preset _) rest rule acc "preset" parse_preset_call refl refl
      (reads_preset_alone (record { name = x; duration = none; easing = none }) ps refl refl) ih
  preset_case x none (some e) rest rule acc ps us ih =
      taken (preset _) rest rule acc "preset" parse_preset_call refl refl
      (reads_preset (record { name = x; duration = none; easing = some e }) ps) ih
  preset_case x (some a) e rest rule acc ps us ih =
      taken (preset _) rest rule acc "preset" parse_preset_call refl refl
      (reads_preset (record { name = x; duration = some a; easing = e }) ps) ih

  leaf_case : (l : LeafSense) (rest : Sense) (rule : Rule (Nodes Key)) (acc : Nodes Key) (ps us : List Piece)
      → ((acc : Nodes Key) → Loops form s (nodes_step rule) acc ps us (NodesAre s acc rest))
      → Loops form s (nodes_step rule) acc (spell (leaf_word l) ∷ leaf_body l ps) us (NodesAre s acc (leaf l rest))
  unfolding leaf_word leaf_body beginning leaves containers under same is_keyword find
  leaf_case (tween d) rest rule acc ps us ih = taken (tween d) rest rule acc "tween" parse_tween refl refl (reads_tween d ps) ih
  leaf_case (spring d) rest rule acc ps us ih = taken (spring d) rest rule acc "spring" parse_spring refl refl (reads_spring d ps) ih
  leaf_case (keyframes d) rest rule acc ps us ih =
      left (keyframes d) rest rule acc "keyframes" parse_keyframes refl refl (reads_keyframes d ps) ih
  leaf_case (path d) rest rule acc ps us ih = taken (path d) rest rule acc "path" parse_path refl refl (reads_path d ps) ih
  leaf_case (morph d) rest rule acc ps us ih = taken (morph d) rest rule acc "morph" parse_morph refl refl (reads_morph d ps) ih
  leaf_case (draw d) rest rule acc ps us ih = taken (draw d) rest rule acc "draw" parse_draw refl refl (reads_draw d ps) ih
  leaf_case (color d) rest rule acc ps us ih = taken (color d) rest rule acc "color" parse_color refl refl (reads_color d ps) ih
  leaf_case (waveform d) rest rule acc ps us ih =
      taken (waveform d) rest rule acc "waveform" parse_waveform refl refl (reads_waveform d ps) ih
  leaf_case (preset d) rest rule acc ps us ih = preset_case d.name d.duration d.easing rest rule acc ps us ih
  leaf_case (label d) rest rule acc ps us ih = taken (label d) rest rule acc "label" parse_label refl refl (reads_label d ps) ih
  leaf_case (at d) rest rule acc ps us ih = taken (at d) rest rule acc "at" parse_at refl refl (reads_at d ps) ih

  box_case : (b : Container) (inner rest : Sense) (d : ℕ) (acc : Nodes Key) (ps us : List Piece)
      → Loops form s (nodes_step (block d)) Nodes.none (pieces inner (mark "}" ∷ mark ";" ∷ ps)) (mark "}" ∷ mark ";" ∷ ps)
      (NodesAre s Nodes.none inner)
      → ((acc : Nodes Key) → Loops form s (nodes_step (block (suc d))) acc ps us (NodesAre s acc rest))
      → Loops form s (nodes_step (block (suc d))) acc (spell (box_word b) ∷ box_body b (mark "{" ∷ pieces inner (mark "}" ∷ mark ";" ∷ ps))) us
      (NodesAre s acc (box b inner rest))
  box_case b inner rest d acc ps us x ih =
      again (box_step b inner d acc ps x)
      (λ ns r. again (semicolon (block (suc d)) ns ps)
      (λ ms g. rw (g, r.2)
      (weaken_loops (ih (append acc (Nodes.box r.0 b r.1 Nodes.none))) (box_onto s r.0 b r.1 acc inner rest r.3))))

  pub reads-nodes : (x : Sense) (d : ℕ) (acc : Nodes Key) (us : List Piece)
      → Deep d x → ((q : ℕ) → ends (laid form q us) ≡ true)
      → Loops form s (nodes_step (block d)) acc (pieces x us) us (NodesAre s acc x)
  unfolding pieces
  reads-nodes no_nodes d acc us h e = none_case (block d) acc us e
  reads-nodes (leaf l rest) d acc us h e = leaf_case l rest (block d) acc (pieces rest us) us (λ a. reads-nodes rest d a us h e)
  reads-nodes (box b inner rest) zero acc us h e = absurd h.0
  reads-nodes (box b inner rest) (suc d) acc us h e =
      box_case b inner rest d acc
      (pieces rest us)
      us
      (reads-nodes inner d Nodes.none (mark "}" ∷ mark ";" ∷ pieces rest us) h.0 (closer-ends form (mark ";" ∷ pieces rest us)))
      (λ a. reads-nodes rest (suc d) a us h.1 e)
