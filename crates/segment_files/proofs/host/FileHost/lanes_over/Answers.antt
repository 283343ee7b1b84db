use Rattle.std.proofs.Common.{arith, ◌≡◌, ◌++◌, ◌∷◌, [], sym, subst}
use Rattle.std.specs.Prelude.{All}
use Rattle.std.proofs.lemmas.Grind.{common_steps}
use Rattle.std.proofs.lemmas.List.Elements.{All-push}
use Rattle.std.proofs.lemmas.List.Sums.{sum_by_push}
use Rattle.segment_store.specs.Contents.{no_marks}
use Rattle.segment_store.specs.History.{unsynced_in}
use Rattle.segment_files.proofs.host.FileHost.lanes_over.Goals as goal

pub loop-i-preserved : goal.loop-i-preserved
loop-i-preserved g c =
    let before = c.loop-i.lanes.items in
    let lane = c.new-in-loop-i.result in
    let pushed : c.push.new.self.items ≡ before ++ lane ∷ [] = grind (arith, common_steps) in
    record {
      count = grind (arith, common_steps, pushed, c.loop-i.invariant.count);
      reads = grind (
        arith,
        common_steps,
        pushed,
        c.loop-i.invariant.reads,
        c.new-in-loop-i.ensures.reads,
        sum_by_push (λ lane. lane.read_faults.count) before lane,
      );
      writes = grind (
        arith,
        common_steps,
        pushed,
        c.loop-i.invariant.writes,
        c.new-in-loop-i.ensures.writes,
        sum_by_push (λ lane. lane.write_faults.count) before lane,
      );
      synced = subst (λ lanes. All (λ lane. unsynced_in lane.history ≡ no_marks) lanes) (sym pushed)
          (All-push (λ lane. unsynced_in lane.history ≡ no_marks) before lane
          c.loop-i.invariant.synced c.new-in-loop-i.ensures.unsynced);
    }
