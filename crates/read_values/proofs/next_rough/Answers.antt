-- `read_values::next_rough` meets its contract.
use mathlib.Core.Path.{refl}
use Rattle.grammar.specs.Values.{rough_fields}
use Rattle.text.specs.Bytes.{same}
use Rattle.text.specs.Words.{find}
use Rattle.token.specs.Names.{is_keyword}
use Rattle.words.specs.ListMeans.{list_of}
use Rattle.read_cursor.specs.Means.{no_keywords}
use Rattle.read_values.proofs.next_rough.Goals as goal

pub next_pair-requires : goal.next_pair-requires
unfolding list_of no_keywords is_keyword find same
next_pair-requires c = (c.requires, refl)

pub returns : goal.returns
unfolding rough_fields list_of
returns c = c.next_pair.ensures rough_fields refl
