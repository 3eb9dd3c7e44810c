-- `read_heads::next_grid` meets its contract.
use Rattle.text.specs.Bytes.{same}
use Rattle.text.specs.Words.{find}
use Rattle.token.specs.Names.{is_keyword}
use Rattle.words.specs.ListMeans.{list_of}
use Rattle.read_cursor.specs.Means.{no_keywords}
use Rattle.grammar.specs.Grammar.{grid_fields}
use mathlib.Core.Path.{refl}
use Rattle.read_heads.proofs.next_grid.Goals as goal

pub next_pair-requires : goal.next_pair-requires
unfolding list_of no_keywords is_keyword find same
next_pair-requires c = (c.requires, refl)

pub returns : goal.returns
unfolding grid_fields list_of
returns c = c.next_pair.ensures grid_fields refl
