-- `listing::list` meets its contract.
use Rattle.error.specs.Answer.{order_values}
use Rattle.error.proofs.AnswerLaws.{with_values}
use Rattle.listing.proofs.ListingLaws.{listing_wrong, listing-held}
use Rattle.listing.proofs.list.Goals as goal

pub list_items-requires : goal.list_items-requires
list_items-requires c = rw c.in-Is.is at c.read.ensures

pub returns-in-Refused : goal.returns-in-Refused
returns-in-Refused c =
    let args = c.args in
    let the_parts = with_values order_values
    (listing_wrong args.text.now args.out.now (rw c.in-Refused.is at c.read.ensures)) in record {
      out_after = the_parts.0;
      values = the_parts.1;
    }

pub returns-in-Is : goal.returns-in-Is
returns-in-Is c =
    let args = c.args in
    let the_parts = with_values order_values (listing-held args.text.now args.out.now c.list_items.ensures) in record {
      out_after = the_parts.0;
      values = the_parts.1;
    }
