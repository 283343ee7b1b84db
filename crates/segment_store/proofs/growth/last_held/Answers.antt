use Rattle.std.proofs.Common.{◌≡◌, ◌+◌, ◌-◌, ℕ, Some, map, sym, ◌∙◌, ap, arith}
use Rattle.segment_store.specs.Growth.{last_held}
use Rattle.segment_store.specs.MemoryLane.{pages_of}
use Rattle.segment_store.proofs.Growing.{held_below, held_here, held_none}
use Rattle.segment_store.proofs.growth.last_held.Goals as goal

pub returns-in-Some : goal.returns-in-Some
returns-in-Some c =
    let held = map (λ lane. Some (pages_of lane)) c.args.lanes.now in
    let end = c.loop-end.end in
    let last : end ≡ end - 1 + 1 = omega arith in
    sym (held_here c.args.fork held (end - 1) end _ last c.in-Some.ensures) ∙ c.loop-end.invariant

pub loop-end-preserved : goal.loop-end-preserved
loop-end-preserved c =
    let held = map (λ lane. Some (pages_of lane)) c.args.lanes.now in
    let end = c.loop-end.end in
    let last : end ≡ end - 1 + 1 = omega arith in
    sym (held_below c.args.fork held (end - 1) end last c.in_default.ensures) ∙ c.loop-end.invariant

pub returns : goal.returns
returns c =
    let held = map (λ lane. Some (pages_of lane)) c.args.lanes.now in
    let none : c.loop-end.end ≡ 0 = omega arith in
    sym (ap (λ (n : ℕ). last_held c.args.fork held n) none ∙ held_none c.args.fork held) ∙ c.loop-end.invariant
