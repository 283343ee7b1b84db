use Rattle.std.proofs.Common.{◌≡◌, Bool, List, ℕ, true, inl, ap, sym, ◌∙◌, Option, Some}
use Rattle.std.specs.Prelude.{is_some, not}
use Rattle.std.specs.Option.{option_and_then}
use Rattle.segment_store.specs.Contents.{with_mark, with_page}
use Rattle.segment_store.specs.MemoryLane.{marks_of, page_there, pages_of}
use Rattle.segment_store.specs.declared.memory_block.MemBlock.{MemBlock}
use Rattle.segment_store.proofs.MemoryLanes.{marks_put, page_held, pages_put, room_stays, some_found}
use Rattle.segment_store.proofs.memory_lane.MemLaneBlockLane.write.Goals as goal
use Rattle.segment_store.proofs.memory_lane.MemLaneBlockLane.write.Goals.{else-fails-via-then-fails+else-is_none, else-fails-via-else-fails}

pub returns-then-fails-2-clause-written : goal.returns-then-fails-2-clause-written
returns-then-fails-2-clause-written c =
    let put = ((c.get_mut.follows.holds c.tear.new.self).3 (sym (ap is_some c.in-Some.ensures.value))).0 in
    let there : c.in-Some.block.now.there ≡ true =
    elim c.else-fails.branch [
      | else-fails-via-then-fails+else-is_none w ↦ page_held c.in-Some.block.now (ap (λ (o : Option MemBlock). is_some (option_and_then page_there o)) c.in-Some.ensures.value ∙ some_found _ w.page.result _ w.page.ensures (w.is_none.ensures ∙ ap not w.if-is_none.false))
      | else-fails-via-else-fails w ↦ absurd (cc (sym w.if-fails.false ∙ c.if-fails-2.true))
    ] in
    inl (
      record {
        left = c.tear.new.self.page;
        size = c.tear.new.self.whole;
        is = pages_put c.args.self.now.blocks (c.get_mut.follows.lender c.tear.new.self) c.args.tag c.tear.new.self put (c.tear.ensures.there ∙ there);
      },
      marks_put c.args.self.now.blocks (c.get_mut.follows.lender c.tear.new.self) c.args.tag c.tear.new.self put
          ∙ ap (λ (mark : Bool). with_mark c.args.tag mark (marks_of c.args.self.now)) c.tear.ensures.failed,
    )

pub returns-then-fails-2-clause-room : goal.returns-then-fails-2-clause-room
returns-then-fails-2-clause-room c =
    let put = ((c.get_mut.follows.holds c.tear.new.self).3 (sym (ap is_some c.in-Some.ensures.value))).0 in
    room_stays c.args.self.now.blocks (c.get_mut.follows.lender c.tear.new.self) c.args.tag c.tear.new.self put (sym (ap is_some c.in-Some.ensures.value))

pub returns-clause-written : goal.returns-clause-written
returns-clause-written c =
    let put = ((c.get_mut.follows.holds c.take.new.self).3 (sym (ap is_some c.in-Some.ensures.value))).0 in (
      ap Some (pages_put c.args.self.now.blocks (c.get_mut.follows.lender c.take.new.self) c.args.tag c.take.new.self put c.take.ensures.there
          ∙ ap (λ (page : List ℕ). with_page c.args.tag page (pages_of c.args.self.now)) c.take.ensures.page),
      marks_put c.args.self.now.blocks (c.get_mut.follows.lender c.take.new.self) c.args.tag c.take.new.self put
          ∙ ap (λ (mark : Bool). with_mark c.args.tag mark (marks_of c.args.self.now)) c.take.ensures.failed,
    )

pub returns-clause-room : goal.returns-clause-room
returns-clause-room c =
    let put = ((c.get_mut.follows.holds c.take.new.self).3 (sym (ap is_some c.in-Some.ensures.value))).0 in
    room_stays c.args.self.now.blocks (c.get_mut.follows.lender c.take.new.self) c.args.tag c.take.new.self put (sym (ap is_some c.in-Some.ensures.value))
