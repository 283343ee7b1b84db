use Rattle.segment_store.proofs.Extended.{has_new_pages}
use Rattle.segment_store.proofs.laws.grown_segments_are_read_back.Goals as goal

pub returns : goal.returns
returns c = has_new_pages
