-- The pages of a relation have 8192 bytes each.
use Rattle.std.proofs.Common.{ℕ, ◌^◌, List, length, ◌≡◌, ◌-◌}
use Rattle.std.proofs.lemmas.List.Elements.{All-take}
use Rattle.segment_store.specs.Relation.{relation_of, segment_pages}
use Rattle.segment_store.proofs.GivenPages.{pages_whole}
use Rattle.segment_store.proofs.ReadBack.{Whole}

pub relation_whole : (seg_blocks : ℕ) (segments : List (List ℕ)) → Whole (relation_of seg_blocks segments)
unfolding relation_of
relation_whole seg_blocks segments = All-take (λ page. length page ≡ 8192) (2 ^ 32 - 1) (segment_pages seg_blocks segments) (pages_whole seg_blocks segments)
