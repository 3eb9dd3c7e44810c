-- `stripc::print_page` meets its contract: what is printed fits the page.
use Rattle.std.proofs.Common.{sym, length-take-le}
use Rattle.page.proofs.PageLaws.{printed-fits}
use Rattle.stripc.proofs.print_page.Goals as goal

pub slice_bounds-page-end : goal.slice_bounds-page-end
slice_bounds-page-end g c = printed-fits _ _ _ _ _ c.in-Accepted.ensures.page_after

pub slice_bounds-write_all-end : goal.slice_bounds-write_all-end
slice_bounds-write_all-end g c = sym (length-take-le _ _ (printed-fits _ _ _ _ _ c.in-Accepted.ensures.page_after))
