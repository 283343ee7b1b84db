use Rattle.std.proofs.Common.{◌≡◌, ◌+◌, ◌∙◌, ap, subst, sym}
use Rattle.block_tag.specs.declared.tag.Tag.{Tag}
use Rattle.block_tag.specs.declared.tag.Fork.TheVariants.{Main}
use Rattle.block_tag.specs.Names.{lane_number, tag_of_parts}
use Rattle.segment_store.specs.declared.memory_lane.MemLane.{MemLane}
use Rattle.library_example.specs.Files.{HasBlock, HasBlocks, HasOnlyOwn}
use Rattle.library_example.proofs.OldLanes.{one_more, only, still, taken}
use Rattle.library_example.proofs.files.lay_out.Goals as goal
use Rattle.library_example.proofs.files.lay_out.Goals.{then-lane_of-number+in_ok-page+in_ok-hold, else-lane_of-number}

pub loop-at-preserved : goal.loop-at-preserved
loop-at-preserved c =
    let n = c.args.number in
    let rel = c.args.rel.0 in
    let at = c.loop-at.at in
    let old = c.loop-at.lane in
    let tag = c.block-tag.result in
    let before = c.loop-at.invariant in
    elim c.if-lane_of-number.branch [
      | then-lane_of-number+in_ok-page+in_ok-hold w ↦
          let new = w.hold.new.self in
          let e = w.in_ok-hold.ensures in
          let kept : (t : Tag) → HasBlock old t → HasBlock new t = still n old new tag _ e.pages e.failed in
          let own : lane_number tag 2 ≡ n = sym c.lane_of.ensures.value ∙ w.if-lane_of-number.true in
          record {
            only = subst (HasOnlyOwn n) (sym w.lane-is) (only n old new tag _ e.pages e.failed own before.only);
            kept = λ t h. subst (λ (x : MemLane). HasBlock x t) (sym w.lane-is) (kept t (before.kept t h));
            laid = subst (λ (x : MemLane). HasBlocks x n rel (at + 1)) (sym w.lane-is)
                (one_more new n rel at (λ b below own. kept (tag_of_parts rel Main b) (before.laid b below own))
                (λ own. subst (HasBlock new) c.block-tag.ensures (taken n old new tag _ e.pages e.failed)));
          }
      | else-lane_of-number w ↦
          let none = w.if-lane_of-number.false in
          record {
            only = subst (HasOnlyOwn n) (sym w.lane-is) before.only;
            kept = λ t h. subst (λ (x : MemLane). HasBlock x t) (sym w.lane-is) (before.kept t h);
            laid = subst (λ (x : MemLane). HasBlocks x n rel (at + 1)) (sym w.lane-is)
                (one_more old n rel at before.laid (λ own. absurd (none (c.lane_of.ensures.value ∙ ap (λ (t : Tag). lane_number t 2) c.block-tag.ensures ∙ own))));
          }
    ]
