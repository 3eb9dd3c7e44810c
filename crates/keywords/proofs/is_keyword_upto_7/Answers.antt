-- `keywords::is_keyword_upto_7` meets its contract: its keys are the numbers of the definition, which is computed.
use borrow.Author.Rules.{rules}
use mathlib.Core.Path.{refl, sym}
use Rattle.law_lengths.specs.Means.{sized}
use Rattle.text.specs.Bytes.{one_of}
use Rattle.keywords.specs.Means.{pack, packs, up_to7, packed_keywords}
use Rattle.token.proofs.WholeLaws.{every}
use Rattle.keywords.proofs.NameLaws.{insert, sorted, keys_among, keys_apart}
use Rattle.keywords.proofs.is_keyword_upto_7.Goals as goal

pub returns-in-1560707166818 : goal.returns-in-1560707166818
unfolding every one_of insert sorted packed_keywords packs pack sized
returns-in-1560707166818 c = sym (keys_among (sorted (packed_keywords up_to7)) (packed_keywords up_to7) c.args.v refl c.in-1560707166818.is)

pub returns-in_default : goal.returns-in_default
unfolding every one_of insert sorted packed_keywords packs pack sized
returns-in_default c = sym (keys_apart (sorted (packed_keywords up_to7)) (packed_keywords up_to7) c.args.v refl (search rules))
