-- `feed::feed` meets its contract: by cases of what reading and checking answered.
use Prim.Native.Nat.{ℕ}
use mathlib.Core.List.{List}
use Rattle.error.specs.declared.FeedAnswer.{FeedAnswer}
use Rattle.error.specs.Answer.{feed_values}
use Rattle.error.proofs.AnswerLaws.{and_values}
use Rattle.text.specs.Bytes.{at}
use mathlib.Core.Path.{sym, ◌∙◌}
use Rattle.feeding.proofs.FeedLaws.{words_of, accepted_room, accepted_words, feed_full}
use Rattle.feeding.proofs.FeedLaws.{feed_unread, feed_refused, feed_accepted, is_sheet}
use borrow.Author.Rules.{rules}
use Rattle.feed.proofs.feed.Goals as goal

abbrev values : FeedAnswer × List ℕ × List ℕ × List ℕ → List ℕ
values x = feed_values x.0

pub returns-then-full : goal.returns-then-full
returns-then-full c =
    let the_parts = and_values values (feed_full _ _ _ _ _ (sym c.full.ensures ∙ c.if-full.true)) in record {
      sheet_after = the_parts.0;
      values = the_parts.1;
    }

pub count_refused-requires : goal.count_refused-requires
count_refused-requires c = words_of _ (search rules) (sym c.full.ensures ∙ c.if-full.false)

pub count_refused-requires-in-Refused : goal.count_refused-requires-in-Refused
count_refused-requires-in-Refused c = words_of _ (search rules) (sym c.full.ensures ∙ c.if-full.false)

pub add-requires : goal.add-requires
add-requires c =
    let the_parts = accepted_room (words_of _ (search rules) (sym c.full.ensures ∙ c.if-full.false)) in record {
      i_in_bounds = the_parts.0;
      n_bound = the_parts.1;
    }

pub count_records-requires : goal.count_records-requires
count_records-requires c =
    record {
      words = accepted_words _ (search rules) (sym c.full.ensures ∙ c.if-full.false) c.add.ensures;
      sheet = is_sheet _ _ _ (rw c.in-Checked.is at c.read_and_check.ensures.sheet_after) c.part.ensures;
    }

pub returns-in-Unread : goal.returns-in-Unread
returns-in-Unread c =
    let the_parts = and_values values (feed_unread _ _ _ _ _
    (sym c.full.ensures ∙ c.if-full.false)
    (rw c.in-Unread.is at c.read_and_check.ensures.sheet_after)
    c.count_refused.ensures.totals_after
    c.count_refused.ensures.value) in record {
      sheet_after = the_parts.0;
      values = the_parts.1;
    }

pub returns-in-Refused : goal.returns-in-Refused
returns-in-Refused c =
    let the_parts = and_values values (feed_refused _ _ _ _ _
    (sym c.full.ensures ∙ c.if-full.false)
    (rw c.in-Checked.is at c.read_and_check.ensures.sheet_after)
    (rw (c.in-Checked.is, c.in-Refused.is) at c.read_and_check.ensures.answered)
    c.count_refused-in-Refused.ensures.totals_after
    c.count_refused-in-Refused.ensures.value) in record {
      sheet_after = the_parts.0;
      values = the_parts.1;
    }

pub returns-in-Accepted : goal.returns-in-Accepted
returns-in-Accepted c =
    let the_parts = and_values values (feed_accepted _ _ _ _ _
    (sym c.full.ensures ∙ c.if-full.false)
    (rw c.in-Checked.is at c.read_and_check.ensures.sheet_after)
    (rw (c.in-Checked.is, c.in-Accepted.is) at c.read_and_check.ensures.answered)
    c.add.ensures
    (rw c.part.ensures at c.count_records.ensures)) in record {
      sheet_after = the_parts.0;
      values = the_parts.1;
    }
