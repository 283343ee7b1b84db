use Rattle.segment_store.proofs.GivenPages.{has_given_pages}
use Rattle.segment_store.proofs.ReadBack.{reads_back}
use Rattle.segment_store.proofs.laws.given_pages_are_read_back.Goals as goal

pub returns-clause-pages : goal.returns-clause-pages
returns-clause-pages c = reads_back

pub returns-clause-lanes : goal.returns-clause-lanes
returns-clause-lanes c = has_given_pages
