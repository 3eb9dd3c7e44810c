-- `read_cursor::choice` meets its contract.
use Rattle.words.specs.ListMeans.{list_of}
use Rattle.words.proofs.KeyLaws.{place_some, place_none}
use Rattle.read_cursor.proofs.ListedLaws.{listed-word, took_choice}
use Rattle.read_cursor.proofs.choice.Goals as goal

pub returns-in-None : goal.returns-in-None
returns-in-None c = c.unlisted.ensures (list_of c.args.list) (place_none c.listed.ensures c.in-None.is)

pub returns-in-Some : goal.returns-in-Some
returns-in-Some c =
    let l = listed-word _ _ _ (place_some _ c.listed.ensures c.in-Some.is) in
    took_choice c.requires.0 c.advance.ensures l _ c.requires.1
