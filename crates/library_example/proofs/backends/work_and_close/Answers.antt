use Rattle.std.proofs.Common.{◌∙◌, ◌<◌, length, set, slice_index_or, subst, arith}
use Rattle.std.proofs.lemmas.List.{length-set}
use Rattle.table_rule.specs.Shows.{devices}
use Rattle.backend_pass.specs.Between.{AllReturn}
use Rattle.backend_pass.specs.Passes.{KeepsCallers, PassState}
use Rattle.backend_pass.proofs.Between.{all_returned, new_idle_each, returns_kept, same_read, set_back}
use Rattle.library_example.specs.Passes.{AllNoteNone, ClosesReturned, NotesNone, SawLogTakesMore}
use Rattle.library_example.proofs.Returning.{redoes_more, saw_before, set_each}
use Rattle.library_example.proofs.backends.work_and_close.Goals.{After-checkpoint-checkpointed}
use Rattle.library_example.proofs.backends.work_and_close.Given.{Over}
use Rattle.library_example.proofs.backends.work_and_close.Goals as goal

-- the checkpoint kept what callers have of the first pass
first_kept : (g : Over) (c : After-checkpoint-checkpointed g) (d : PassState)
    → KeepsCallers (slice_index_or c.run_backends.new.passes.items 0 d) c.checkpoint-checkpointed.new.pass
first_kept g c d =
    let qs = c.run_backends.new.passes.items in
    let counted = c.requires.counted in
    let same = c.run_backends.ensures.count in
    let left : 0 < length qs = omega arith in
    subst (λ (p : PassState). KeepsCallers p c.checkpoint-checkpointed.new.pass)
    (c.index_mut.ensures.value ∙ same_read qs 0 c.index_mut.result.now d left)
    c.checkpoint-checkpointed.ensures.callers

-- so each pass returned
all_back : (g : Over) (c : After-checkpoint-checkpointed g)
    → AllReturn {L = g.row.L.Denot} {G = g.row.G.Denot} g.L.BlockLane.contents c.args.manager
    c.args.passes.items (set c.run_backends.new.passes.items 0 c.checkpoint-checkpointed.new.pass)
all_back g c =
    let ct = g.L.BlockLane.contents in
    let m = c.args.manager in
    let ps = c.args.passes.items in
    let qs = c.run_backends.new.passes.items in
    let z = c.checkpoint-checkpointed.new.pass in
    let back = c.run_backends.ensures in
    let counted = c.requires.counted in
    let some : 0 < length ps = omega arith in
    set_back ct m ps qs 0 z back.count back.back
    (λ d. returns_kept ct m (slice_index_or qs 0 d) z (back.back 0 d some).idle
    c.checkpoint-checkpointed.ensures.belongs (first_kept g c d))

-- and noted no block, if it saw room in the log
all_note_none : (g : Over) (c : After-checkpoint-checkpointed g)
    → AllNoteNone c.args.passes.items (set c.run_backends.new.passes.items 0 c.checkpoint-checkpointed.new.pass)
all_note_none g c =
    let ps = c.args.passes.items in
    let qs = c.run_backends.new.passes.items in
    let z = c.checkpoint-checkpointed.new.pass in
    let back = c.run_backends.ensures in
    let counted = c.requires.counted in
    let same = back.count in
    let some : 0 < length ps = omega arith in
    let left : 0 < length qs = omega arith in
    set_each (λ p q. SawLogTakesMore q → NotesNone p q) ps qs 0 z left back.takes_more
    (λ d saw. (first_kept g c d).unentered
    ∙ back.takes_more 0 d some (saw_before (slice_index_or qs 0 d) z (first_kept g c d).keeps saw))

pub run_backends-requires-after_bounds : goal.run_backends-requires-after_bounds
run_backends-requires-after_bounds g c κs within = new_idle_each g.L.BlockLane.contents c.args.manager _ c.args.passes.items c.requires

pub close-devices-requires : goal.close-devices-requires
close-devices-requires g c =
    let ps = c.args.passes.items in
    let qs = c.run_backends.new.passes.items in
    let z = c.checkpoint-checkpointed.new.pass in
    let counted = c.requires.counted in
    all_returned g.L.BlockLane.contents c.args.manager _ ps (set qs 0 z) (omega arith) c.requires
    (length-set qs 0 z ∙ c.run_backends.ensures.count)
    (all_back g (goal.at.close-devices-requires g c).After-checkpoint-checkpointed)

pub returns : goal.returns
returns g c =
    let m = c.args.manager in
    let ps = c.args.passes.items in
    let qs = c.run_backends.new.passes.items in
    let z = c.checkpoint-checkpointed.new.pass in
    let d = devices g.L.BlockLane g.G.LogDevice in
    let at = (goal.at.returns g c).After-checkpoint-checkpointed in
    let back : ClosesReturned d m ps (set qs 0 z) c.close-devices.result.0.items c.close-devices.result.1 = record {
      counted = length-set qs 0 z ∙ c.run_backends.ensures.count;
      back = all_back g at;
      closed = c.close-devices.ensures;
    } in (
      set qs 0 z,
      back,
      redoes_more d m _ ps (set qs 0 z) _ _ c.requires back (all_note_none g at),
    )
