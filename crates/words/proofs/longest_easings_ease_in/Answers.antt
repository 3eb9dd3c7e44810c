-- Made by tools/words.py. `words::longest_easings_ease_in` meets its contract.
use mathlib.Core.Path.{refl}
use native.Mathlib.Omega.{arith}
use Rattle.text.specs.Bytes.{bytes, one_of}
use Rattle.words.specs.declared.List.TheVariants as list
use Rattle.words.specs.ListMeans.{list_of}
use Rattle.words.specs.KeyMeans.{onto, pack, packs, keys_of, seek}
use Rattle.words.proofs.KeyLaws.{every}
use Rattle.words.proofs.ListLaws.{far, alone, next-at, next_in, nexts, no_next}
use Rattle.words.proofs.longest_easings_ease_in.Goals as goal

pub returns-in-7233191606326949231 : goal.returns-in-7233191606326949231
unfolding list_of keys_of packs onto seek every alone
returns-in-7233191606326949231 c =
    let args = c.args in
    next-at (keys_of list.Easings) 6876549539486196069 args.rest args.last (pack (bytes "ease_in_out_quad")) 3 _ (omega arith) (omega arith)
    refl c.in-7233191606326949231.is c.if_equal.ensures refl refl

pub returns-in-7593760991363757423 : goal.returns-in-7593760991363757423
unfolding list_of keys_of packs onto seek every alone
returns-in-7593760991363757423 c =
    let args = c.args in
    next-at (keys_of list.Easings) 6876549539486196069 args.rest args.last (pack (bytes "ease_in_out_cubic")) 6 _ (omega arith)
    (omega arith) refl c.in-7593760991363757423.is c.if_equal-in-7593760991363757423.ensures refl refl

pub returns-in-8241997922857940335 : goal.returns-in-8241997922857940335
unfolding list_of keys_of packs onto seek every alone
returns-in-8241997922857940335 c =
    let args = c.args in
    next-at (keys_of list.Easings) 6876549539486196069 args.rest args.last (pack (bytes "ease_in_out_quart")) 9 _ (omega arith)
    (omega arith) refl c.in-8241997922857940335.is c.if_equal-in-8241997922857940335.ensures refl refl

pub returns-in-7956019346519913839 : goal.returns-in-7956019346519913839
unfolding list_of keys_of packs onto seek every alone
returns-in-7956019346519913839 c =
    let args = c.args in
    next-at (keys_of list.Easings) 6876549539486196069 args.rest args.last (pack (bytes "ease_in_out_quint")) 12 _ (omega arith)
    (omega arith) refl c.in-7956019346519913839.is c.if_equal-in-7956019346519913839.ensures refl refl

pub returns-in-7308895189512516975 : goal.returns-in-7308895189512516975
unfolding list_of keys_of packs onto seek every alone
returns-in-7308895189512516975 c =
    let args = c.args in
    next-at (keys_of list.Easings) 6876549539486196069 args.rest args.last (pack (bytes "ease_in_out_sine")) 15 _ (omega arith)
    (omega arith) refl c.in-7308895189512516975.is c.if_equal-in-7308895189512516975.ensures refl refl

pub returns-in-8030050512390092143 : goal.returns-in-8030050512390092143
unfolding list_of keys_of packs onto seek every alone
returns-in-8030050512390092143 c =
    let args = c.args in
    next-at (keys_of list.Easings) 6876549539486196069 args.rest args.last (pack (bytes "ease_in_out_expo")) 18 _ (omega arith)
    (omega arith) refl c.in-8030050512390092143.is c.if_equal-in-8030050512390092143.ensures refl refl

pub returns-in-7165905832624026991 : goal.returns-in-7165905832624026991
unfolding list_of keys_of packs onto seek every alone
returns-in-7165905832624026991 c =
    let args = c.args in
    next-at (keys_of list.Easings) 6876549539486196069 args.rest args.last (pack (bytes "ease_in_out_circ")) 21 _ (omega arith)
    (omega arith) refl c.in-7165905832624026991.is c.if_equal-in-7165905832624026991.ensures refl refl

pub returns-in-7738135659888801135 : goal.returns-in-7738135659888801135
unfolding list_of keys_of packs onto seek every alone
returns-in-7738135659888801135 c =
    let args = c.args in
    next-at (keys_of list.Easings) 6876549539486196069 args.rest args.last (pack (bytes "ease_in_out_back")) 24 _ (omega arith)
    (omega arith) refl c.in-7738135659888801135.is c.if_equal-in-7738135659888801135.ensures refl refl

pub returns-in-8314045569751610735 : goal.returns-in-8314045569751610735
unfolding list_of keys_of packs onto seek every alone
returns-in-8314045569751610735 c =
    let args = c.args in
    next-at (keys_of list.Easings) 6876549539486196069 args.rest args.last (pack (bytes "ease_in_out_elastic")) 27 _ (omega arith)
    (omega arith) refl c.in-8314045569751610735.is c.if_equal-in-8314045569751610735.ensures refl refl

pub returns-in-7959390384746165615 : goal.returns-in-7959390384746165615
unfolding list_of keys_of packs onto seek every alone
returns-in-7959390384746165615 c =
    let args = c.args in
    next-at (keys_of list.Easings) 6876549539486196069 args.rest args.last (pack (bytes "ease_in_out_bounce")) 30 _ (omega arith)
    (omega arith) refl c.in-7959390384746165615.is c.if_equal-in-7959390384746165615.ensures refl refl

pub returns-in_default : goal.returns-in_default
unfolding list_of keys_of packs onto seek every one_of far next_in nexts
returns-in_default c =
    let args = c.args in
    no_next (keys_of list.Easings) 6876549539486196069 args.rest args.last (omega arith) (omega arith) c.requires refl
    c.in_default.in_default-own.rest
