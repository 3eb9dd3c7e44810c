-- 02 (f): "Reading the fresh script must give the same tree".
use Prim.Native.Nat.{ℕ}
use mathlib.Core.Bool.{true}
use mathlib.Core.List.{[]}
use mathlib.Core.Path.{◌≡◌, refl}
use native.Mathlib.Omega.{arith}
use Rattle.text.specs.Bytes.{one_of}
use Rattle.ast.specs.Tree.{Nodes}
use Rattle.grammar.specs.Rule.{ends}
use Rattle.grammar.specs.Grammar.{stored, animato_input}
use Rattle.pieces.specs.Pieces.{Form, laid}
use Rattle.pieces.specs.Means.{AllFit}
use Rattle.pieces.proofs.JoinLaws.{joined_splits, joined_bytes}
use Rattle.fresh.specs.Meaning.{Sense, sense}
use Rattle.fresh.specs.Fresh.{pieces, script}
use Rattle.fresh.proofs.ReadLaws.{Reads, loops, weaken}
use Rattle.fresh.specs.Reads.{start, ReadsTo, Deep}
use Rattle.fresh.proofs.NodeLaws.{reads-nodes}
use Rattle.fresh.proofs.NestLaws.{nodes-nest}

text-ends : (form : Form) (q : ℕ) → ends (laid form q []) ≡ true
unfolding laid one_of
text-ends form q = refl

-- Law B: where every piece fits, the script reads to the tree that it was made from
pub reads_back : (form : Form) (x : Sense) → Deep 16 x → AllFit form (pieces x []) → ReadsTo (script form x) x
unfolding animato_input
reads_back form x h f =
    let s = script form x in
    let ps = pieces x [] in
    let r : Reads form s 0 animato_input ps [] (λ ns. sense stored s ns ≡ x) = weaken
    (loops (reads-nodes x 16 Nodes.none [] h (text-ends form))) (λ ns r. rw r.1 r.2)
    in
    let y = r.run (start s) 0 (omega (arith, joined_bytes form ps f)) refl f in
    record {
      cut = laid form 0 ps;
      splits = joined_splits form ps f (nodes-nest x 16 h (omega arith) (record { is = refl })).is;
      tree = y.value;
      notes = y.notes;
      left = laid form y.place [];
      gives = y.is;
      whole = y.kept.leftover;
      same = y.post;
    }
