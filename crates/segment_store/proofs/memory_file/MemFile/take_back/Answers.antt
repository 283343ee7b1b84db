use Rattle.std.proofs.Common.{List, Vec, Global, ℕ, sym, ◌∙◌, ap, subst}
use Rattle.std.proofs.lemmas.List.{with_items_is}
use Rattle.segment_store.proofs.Space.{HasRoomFor, capacities, same_room}
use Rattle.segment_store.proofs.memory_file.MemFile.take_back.Goals as goal

pub invariant_of-self-clause-roomy : goal.invariant_of-self-clause-roomy
invariant_of-self-clause-roomy c =
    let file = c.args.self.now in
    let now = c.give_blocks_back.new.segments in
    let items_are = with_items_is file.segments now (c.give_blocks_back.auto.segments ∙ c.as_mut_slice.ensures.len) in
    let same = c.give_blocks_back.ensures.capacities ∙ ap (λ (l : List (Vec ℕ Global)). capacities l) c.as_mut_slice.ensures.value in
    subst (λ (l : List (Vec ℕ Global)). HasRoomFor file.blocks l) (sym items_are) (same_room file.blocks file.segments.items now same file.roomy)
