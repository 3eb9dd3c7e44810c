-- Each promise of the front page, by one application.
use mathlib.Core.Path.{ap}
use Rattle.lining.proofs.CheckLaws.{lined}
use Rattle.script.specs.Table.{lemma}
use Rattle.script.proofs.Closed.{demand3}
use Rattle.script.proofs.ScratchLaws.{reading-same}
use Rattle.law_limits.proofs.Limits.{parses_small}
use Rattle.law_feeds.proofs.History.{morning}
use Rattle.law_feeds.proofs.MeanLaws.{means}
use Rattle.law_given_back.proofs.ReadBack.{read_back, exactly_34}
use Rattle.law_given_back.proofs.Corollaries.{never_unwritable, accepted_again, reads_no_noise}
use Rattle.converting.proofs.KeptLaws.{kept}
use Rattle.converting.proofs.ConvertLaws.{twice}
use Rattle.law_converted.proofs.ConvertedLaws.{as_with-triangle, never_retired}
use Rattle.books.proofs.RingLaws.{ring_refused, refused_ring, listed}
use Rattle.planed.proofs.PlaningLaws.{there_and_back, back_and_there, not-planed_refused, refused_not-planed}
use Rattle.drawing.proofs.TableLaws.{rises, squares}
use Rattle.law_renamed.proofs.Renamed.{renaming}
use Rattle.law_renamed.proofs.BytewiseLaws.{bytewise}
use Rattle.theorems.specs.Theorems.{Theorems}

pub theorems : Theorems
theorems = record {
  demand_3 = demand3;
  shelf = lemma;
  sheet-fits = λ t ns k short e. parses_small t ns short e;
  figures = morning;
  means = means;
  line_told = λ t s i out n after e. lined t s i out e;
  read_back = read_back;
  exactly_34 = exactly_34;
  never_34 = never_unwritable;
  accepted_again = accepted_again;
  no_noise = reads_no_noise;
  kept = kept;
  twice = twice;
  as_with-triangle = as_with-triangle;
  never_retired = never_retired;
  rings = λ t out xs e. (refused_ring t out xs e, λ r. ap (λ a. a.0) (ring_refused t out xs e r));
  listed = λ t out xs e k after f. let l = listed t out xs e k after f in (l.list, l.is, l.count, l.output);
  sixty_four = λ t s s' b h h'. let r = reading-same t s s' b h h' in (r.answer, r.sheet);
  there_and_back = there_and_back;
  back_and_there = back_and_there;
  exactly_40 = λ t bs out p. (refused_not-planed t bs out, λ h. ap (λ a. a.0) (not-planed_refused t bs out p h));
  rises = rises;
  squares = squares;
  renaming = renaming;
  bytewise = bytewise;
}
