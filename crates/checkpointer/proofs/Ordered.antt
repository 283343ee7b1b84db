-- Marked frames are written in the order of their list.
use Rattle.std.proofs.Common.{◌≡◌, ℕ, ◌+◌, ◌<◌, List, [], ◌∷◌, ◌++◌, length, take, drop, slice_index_or, sym, ap, ◌∙◌, subst}
use Rattle.std.specs.Prelude.{Option}
use Rattle.std.proofs.lemmas.List.{append_assoc, take-append-drop, take_more}
use Rattle.segment_store.specs.Contents.{Pages}
use Rattle.pin_core.specs.declared.view.View.{View}
use Rattle.frame_table.specs.declared.table.FrameTable.{FrameTable}
use Rattle.backend_pass.specs.declared.marked.MarkedFrame.{MarkedFrame}
use Rattle.checkpointer.specs.Writes.{SyncsUntilPassed, SyncsWhileNeeded, WritesInOrder, WritesUpTo, next}

-- the list, at one of its places
split_at : (place : ℕ) (marked : List MarkedFrame) (first : MarkedFrame) → place < length marked → marked ≡ take place marked ++ slice_index_or marked place first ∷ drop (place + 1) marked
split_at place marked first inside = sym (take-append-drop (place + 1) marked) ∙ ap (λ (l : List MarkedFrame). l ++ drop (place + 1) marked) (take_more marked place first inside) ∙ append_assoc (take place marked) (slice_index_or marked place first ∷ []) (drop (place + 1) marked)

module _ {L G : Type 0} (contents : L → Option Pages) (t : FrameTable L G) (place : ℕ) (marked list : List MarkedFrame) (first : MarkedFrame) (is : list ≡ marked) (inside : place < length marked) where
  -- one more is written
  pub order_more : (v u w : View) → WritesInOrder contents t v (take place marked) u → SyncsUntilPassed contents t (slice_index_or list place first).frame u w → WritesInOrder contents t v (take (place + 1) marked) w
  order_more v u w order here = subst (λ (l : List MarkedFrame). WritesInOrder contents t v l w) (sym (take_more marked place first inside))
      (next (slice_index_or marked place first) order (subst (λ (l : List MarkedFrame). SyncsUntilPassed contents t (slice_index_or l place first).frame u w) is here))

  -- the next one is written as long as it has BM_CHECKPOINT_NEEDED
  pub order_up_to : (v u w : View) → WritesInOrder contents t v (take place marked) u → SyncsWhileNeeded contents t (slice_index_or list place first).frame u w → WritesUpTo contents t marked (slice_index_or list place first).frame v w
  order_up_to v u w order here = record {
    before = take place marked;
    tag = (slice_index_or list place first).tag;
    rest = drop (place + 1) marked;
    split = split_at place marked first inside ∙ ap (λ (l : List MarkedFrame). take place marked ++ slice_index_or l place first ∷ drop (place + 1) marked) (sym is);
    turn = u;
    writes = order;
    needed = here;
  }
