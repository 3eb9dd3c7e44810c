-- Made by tools/words.py. `words::long_easings_ease_in` meets its contract.
use mathlib.Core.Path.{refl}
use native.Mathlib.Omega.{arith}
use Rattle.text.specs.Bytes.{bytes, one_of}
use Rattle.words.specs.declared.List.TheVariants as list
use Rattle.words.specs.ListMeans.{list_of}
use Rattle.words.specs.KeyMeans.{onto, pack, packs, keys_of, seek}
use Rattle.words.proofs.KeyLaws.{every}
use Rattle.words.proofs.ListLaws.{middle, is_middle, tail_in, tails, tail_at, no_tail}
use Rattle.words.proofs.long_easings_ease_in.Goals as goal

pub returns-in-5979075953 : goal.returns-in-5979075953
unfolding list_of keys_of packs onto seek
returns-in-5979075953 c =
    tail_at (keys_of list.Easings) 6876549539486196069 c.args.rest (pack (bytes "ease_in_quad")) 1 c.in-5979075953.is refl refl

pub returns-in-1526481450339 : goal.returns-in-1526481450339
unfolding list_of keys_of packs onto seek
returns-in-1526481450339 c =
    tail_at (keys_of list.Easings) 6876549539486196069 c.args.rest (pack (bytes "ease_in_cubic")) 4 c.in-1526481450339.is refl refl

pub returns-in-1599646823793 : goal.returns-in-1599646823793
unfolding list_of keys_of packs onto seek
returns-in-1599646823793 c =
    tail_at (keys_of list.Easings) 6876549539486196069 c.args.rest (pack (bytes "ease_in_quart")) 7 c.in-1599646823793.is refl refl

pub returns-in-1599580239217 : goal.returns-in-1599580239217
unfolding list_of keys_of packs onto seek
returns-in-1599580239217 c =
    tail_at (keys_of list.Easings) 6876549539486196069 c.args.rest (pack (bytes "ease_in_quint")) 10 c.in-1599580239217.is refl refl

pub returns-in-5996702067 : goal.returns-in-5996702067
unfolding list_of keys_of packs onto seek
returns-in-5996702067 c =
    tail_at (keys_of list.Easings) 6876549539486196069 c.args.rest (pack (bytes "ease_in_sine")) 13 c.in-5996702067.is refl refl

pub returns-in-6164609125 : goal.returns-in-6164609125
unfolding list_of keys_of packs onto seek
returns-in-6164609125 c =
    tail_at (keys_of list.Easings) 6876549539486196069 c.args.rest (pack (bytes "ease_in_expo")) 16 c.in-6164609125.is refl refl

pub returns-in-5963409763 : goal.returns-in-5963409763
unfolding list_of keys_of packs onto seek
returns-in-5963409763 c =
    tail_at (keys_of list.Easings) 6876549539486196069 c.args.rest (pack (bytes "ease_in_circ")) 19 c.in-5963409763.is refl refl

pub returns-in-6096642402 : goal.returns-in-6096642402
unfolding list_of keys_of packs onto seek
returns-in-6096642402 c =
    tail_at (keys_of list.Easings) 6876549539486196069 c.args.rest (pack (bytes "ease_in_back")) 22 c.in-6096642402.is refl refl

pub returns-in-100039565605170277 : goal.returns-in-100039565605170277
unfolding list_of keys_of packs onto seek
returns-in-100039565605170277 c =
    tail_at (keys_of list.Easings) 6876549539486196069 c.args.rest (pack (bytes "ease_in_elastic")) 25 c.in-100039565605170277.is refl refl

pub returns-in-392952706068322 : goal.returns-in-392952706068322
unfolding list_of keys_of packs onto seek
returns-in-392952706068322 c =
    tail_at (keys_of list.Easings) 6876549539486196069 c.args.rest (pack (bytes "ease_in_bounce")) 28 c.in-392952706068322.is refl refl

pub returns-in_default : goal.returns-in_default
unfolding list_of keys_of packs onto seek every one_of middle tail_in tails
returns-in_default c =
    let args = c.args in
    no_tail middle (keys_of list.Easings) 6876549539486196069 args.rest (omega arith) (is_middle args.rest c.requires (omega arith)) refl
    c.in_default.in_default-own.rest
