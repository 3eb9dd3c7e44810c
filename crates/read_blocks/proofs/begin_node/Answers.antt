-- `read_blocks::begin_node` meets its contract.
use Rattle.token.specs.Token.{kind}
use Rattle.read_cursor.specs.Means.{tokens}
use Rattle.read_blocks.specs.Means.{node_words}
use Rattle.text.specs.Bytes.{at}
use Rattle.words.proofs.KeyLaws.{place_some, place_none}
use Rattle.read_cursor.proofs.ListedLaws.{listed-word, took_listed}
use Rattle.read_blocks.proofs.NameLaws.{nodes-free}
use Rattle.read_blocks.proofs.BeginLaws.{from_keyword}
use Rattle.read_blocks.proofs.begin_node.Goals as goal

pub returns-in-None : goal.returns-in-None
returns-in-None c = c.no_node.ensures _ _ _ (place_none c.listed.ensures c.in-None.is)

pub begin_word-requires : goal.begin_word-requires
begin_word-requires c =
    let l = listed-word node_words (kind (tokens c.args.text.now c.args.c)) c.in-Some.i
    (place_some _ c.listed.ensures c.in-Some.is)
    in
    (c.advance.ensures.ready, c.requires.1, (l.word, l.found))

pub returns-in-Some : goal.returns-in-Some
returns-in-Some c =
    let args = c.args in
    let l = listed-word node_words (kind (tokens args.text.now args.c)) c.in-Some.i
    (place_some _ c.listed.ensures c.in-Some.is)
    in
    from_keyword
    args.text.now
    args.sheet.now
    c.begin_word.new.sheet
    args.c
    _
    args.out
    _ _
    c.begin_word.result
    (took_listed c.requires.0 c.advance.ensures l nodes-free)
    (rw c.place.ensures at (c.begin_word.ensures l.word l.found))
