use Rattle.std.proofs.Common.{◌≡◌, ◌++◌, ◌∷◌, [], ℕ, List, Option, Some, map, ap, ap₂, sym, ◌∙◌, zero-add, subst, arith}
use Rattle.std.proofs.lemmas.List.Elements.{All-push}
use Rattle.std.specs.Prelude.{All}
use Rattle.std.proofs.lemmas.Grind.{common_steps}
use Rattle.std.proofs.lemmas.List.{map-append}
use Rattle.std.proofs.lemmas.List.FromFn.{map-range_with_len_more}
use Rattle.segment_store.specs.Contents.{Marks, Pages, no_marks}
use Rattle.segment_store.specs.Lanes.{own_pages, own_room}
use Rattle.segment_store.specs.MemoryLane.{fresh_lane_plan, marks_of, pages_of, plan_of, room_of, unsynced_of}
use Rattle.segment_store.specs.declared.memory_lane.MemLane.{MemLane}
use Rattle.segment_store.proofs.memory_host.deal_lanes.Goals as goal

pub loop-number-preserved : goal.loop-number-preserved
loop-number-preserved c =
    let own : ℕ → Option Pages = λ number. Some (own_pages c.args.fork c.args.pages.now c.args.count number) in
    let number = c.loop-number.number in
    record {
      contents = ap (λ (lanes : List MemLane). map (λ lane. Some (pages_of lane)) lanes) c.in_ok-push.ensures.items
          ∙ map-append _ c.loop-number.lanes.items _
          ∙ ap₂ (λ (contents : List (Option Pages)) (last : Option Pages). contents ++ last ∷ []) c.loop-number.invariant.contents (ap Some c.in_ok-lane.ensures.pages)
          ∙ sym (map-range_with_len_more own 0 number number (zero-add number));
      rooms = ap (λ (lanes : List MemLane). map (λ lane. room_of lane) lanes) c.in_ok-push.ensures.items
          ∙ map-append _ c.loop-number.lanes.items _
          ∙ ap₂ (λ (rooms : List Marks) (last : Marks). rooms ++ last ∷ []) c.loop-number.invariant.rooms c.in_ok-lane.ensures.room
          ∙ sym (map-range_with_len_more (own_room c.args.fork c.args.room c.args.count) 0 number number (zero-add number));
      failed = subst (λ (lanes : List MemLane). All (λ lane. marks_of lane ≡ no_marks) lanes) (sym c.in_ok-push.ensures.items)
          (All-push (λ lane. marks_of lane ≡ no_marks) c.loop-number.lanes.items c.in_ok-lane.lane c.loop-number.invariant.failed c.in_ok-lane.ensures.failed);
      reads = grind (arith, common_steps);
      writes = grind (arith, common_steps);
      plan = subst (λ (lanes : List MemLane). All (λ lane. plan_of lane ≡ fresh_lane_plan c.args.plan.now) lanes) (sym c.in_ok-push.ensures.items)
          (All-push (λ lane. plan_of lane ≡ fresh_lane_plan c.args.plan.now) c.loop-number.lanes.items c.in_ok-lane.lane c.loop-number.invariant.plan (c.in_ok-lane.ensures.plan ∙ c.in_ok-own.ensures));
      synced = subst (λ (lanes : List MemLane). All (λ lane. unsynced_of lane ≡ no_marks) lanes) (sym c.in_ok-push.ensures.items)
          (All-push (λ lane. unsynced_of lane ≡ no_marks) c.loop-number.lanes.items c.in_ok-lane.lane c.loop-number.invariant.synced c.in_ok-lane.ensures.synced);
    }
