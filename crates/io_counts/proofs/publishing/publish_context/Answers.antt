use Rattle.std.proofs.Common.{◌≡◌, ◌+◌, ◌∙◌, ap, arith}
use Rattle.io_counts.specs.declared.contexts.ContextCounts.{ContextCounts}
use Rattle.io_counts.specs.Additions.{added_in}
use Rattle.io_counts.proofs.Additions.{adds_then, apart, seat_adding, seat_on}
use Rattle.io_counts.proofs.Counts.{same_counts}
use Rattle.io_counts.proofs.publishing.publish_context.Goals as goal

pub publish_count-requires-2-clause-seat : goal.publish_count-requires-2-clause-seat
publish_count-requires-2-clause-seat g c = seat_adding c.args.table.now c.args.seat.now c.publish_count.new.seat _ (c.requires.seat) c.publish_count.ensures.seat c.publish_count.ensures.view

pub publish_count-requires-2-clause-told : goal.publish_count-requires-2-clause-told
publish_count-requires-2-clause-told g c = c.publish_count.ensures.others (c.args.base + 1) (λ e. omega arith) ∙ ap (λ (x : ContextCounts). x.reads) c.requires.told

pub publish_count-requires-3-clause-seat : goal.publish_count-requires-3-clause-seat
publish_count-requires-3-clause-seat g c = seat_adding c.args.table.now c.publish_count.new.seat c.publish_count-2.new.seat _ (seat_adding c.args.table.now c.args.seat.now c.publish_count.new.seat _ (c.requires.seat) c.publish_count.ensures.seat c.publish_count.ensures.view) c.publish_count-2.ensures.seat c.publish_count-2.ensures.view

pub publish_count-requires-3-clause-told : goal.publish_count-requires-3-clause-told
publish_count-requires-3-clause-told g c = c.publish_count-2.ensures.others (c.args.base + 2) (λ e. omega arith) ∙ c.publish_count.ensures.others (c.args.base + 2) (λ e. omega arith) ∙ ap (λ (x : ContextCounts). x.writes) c.requires.told

pub publish_count-requires-4-clause-seat : goal.publish_count-requires-4-clause-seat
publish_count-requires-4-clause-seat g c = seat_adding c.args.table.now c.publish_count-2.new.seat c.publish_count-3.new.seat _ (seat_adding c.args.table.now c.publish_count.new.seat c.publish_count-2.new.seat _ (seat_adding c.args.table.now c.args.seat.now c.publish_count.new.seat _ (c.requires.seat) c.publish_count.ensures.seat c.publish_count.ensures.view) c.publish_count-2.ensures.seat c.publish_count-2.ensures.view) c.publish_count-3.ensures.seat c.publish_count-3.ensures.view

pub publish_count-requires-4-clause-told : goal.publish_count-requires-4-clause-told
publish_count-requires-4-clause-told g c = c.publish_count-3.ensures.others (c.args.base + 3) (λ e. omega arith) ∙ c.publish_count-2.ensures.others (c.args.base + 3) (λ e. omega arith) ∙ c.publish_count.ensures.others (c.args.base + 3) (λ e. omega arith) ∙ ap (λ (x : ContextCounts). x.evictions) c.requires.told

pub publish_count-requires-5-clause-seat : goal.publish_count-requires-5-clause-seat
publish_count-requires-5-clause-seat g c = seat_adding c.args.table.now c.publish_count-3.new.seat c.publish_count-4.new.seat _ (seat_adding c.args.table.now c.publish_count-2.new.seat c.publish_count-3.new.seat _ (seat_adding c.args.table.now c.publish_count.new.seat c.publish_count-2.new.seat _ (seat_adding c.args.table.now c.args.seat.now c.publish_count.new.seat _ (c.requires.seat) c.publish_count.ensures.seat c.publish_count.ensures.view) c.publish_count-2.ensures.seat c.publish_count-2.ensures.view) c.publish_count-3.ensures.seat c.publish_count-3.ensures.view) c.publish_count-4.ensures.seat c.publish_count-4.ensures.view

pub publish_count-requires-5-clause-told : goal.publish_count-requires-5-clause-told
publish_count-requires-5-clause-told g c = c.publish_count-4.ensures.others (c.args.base + 4) (λ e. omega arith) ∙ c.publish_count-3.ensures.others (c.args.base + 4) (λ e. omega arith) ∙ c.publish_count-2.ensures.others (c.args.base + 4) (λ e. omega arith) ∙ c.publish_count.ensures.others (c.args.base + 4) (λ e. omega arith) ∙ ap (λ (x : ContextCounts). x.reuses) c.requires.told

pub returns-clause-seat : goal.returns-clause-seat
returns-clause-seat g c = seat_on c.args.seat.now c.publish_count-4.new.seat c.publish_count-5.new.seat (seat_on c.args.seat.now c.publish_count-3.new.seat c.publish_count-4.new.seat (seat_on c.args.seat.now c.publish_count-2.new.seat c.publish_count-3.new.seat (seat_on c.args.seat.now c.publish_count.new.seat c.publish_count-2.new.seat (c.publish_count.ensures.seat) c.publish_count-2.ensures.seat) c.publish_count-3.ensures.seat) c.publish_count-4.ensures.seat) c.publish_count-5.ensures.seat

pub returns-clause-view : goal.returns-clause-view
returns-clause-view g c = adds_then c.args.seat.now.me.0 c.publish_count.new.seat.me.0 c.publish_count-5.new.seat.me.0 _ _ c.publish_count.ensures.view (adds_then c.publish_count.new.seat.me.0 c.publish_count-2.new.seat.me.0 c.publish_count-5.new.seat.me.0 _ _ c.publish_count-2.ensures.view (adds_then c.publish_count-2.new.seat.me.0 c.publish_count-3.new.seat.me.0 c.publish_count-5.new.seat.me.0 _ _ c.publish_count-3.ensures.view (adds_then c.publish_count-3.new.seat.me.0 c.publish_count-4.new.seat.me.0 c.publish_count-5.new.seat.me.0 _ _ c.publish_count-4.ensures.view (c.publish_count-5.ensures.view))))

pub returns-clause-told : goal.returns-clause-told
returns-clause-told g c = same_counts (added_in c.args.base c.publish_count-5.new.seat.me.0) c.args.counted.now (c.publish_count-5.ensures.others c.args.base (λ e. omega arith) ∙ c.publish_count-4.ensures.others c.args.base (λ e. omega arith) ∙ c.publish_count-3.ensures.others c.args.base (λ e. omega arith) ∙ c.publish_count-2.ensures.others c.args.base (λ e. omega arith) ∙ c.publish_count.ensures.told) (c.publish_count-5.ensures.others (c.args.base + 1) (λ e. omega arith) ∙ c.publish_count-4.ensures.others (c.args.base + 1) (λ e. omega arith) ∙ c.publish_count-3.ensures.others (c.args.base + 1) (λ e. omega arith) ∙ c.publish_count-2.ensures.told) (c.publish_count-5.ensures.others (c.args.base + 2) (λ e. omega arith) ∙ c.publish_count-4.ensures.others (c.args.base + 2) (λ e. omega arith) ∙ c.publish_count-3.ensures.told) (c.publish_count-5.ensures.others (c.args.base + 3) (λ e. omega arith) ∙ c.publish_count-4.ensures.told) (c.publish_count-5.ensures.told)

pub returns-clause-others : goal.returns-clause-others
returns-clause-others g c other outside = c.publish_count-5.ensures.others other (apart other c.args.base 4 (omega arith) outside) ∙ c.publish_count-4.ensures.others other (apart other c.args.base 3 (omega arith) outside) ∙ c.publish_count-3.ensures.others other (apart other c.args.base 2 (omega arith) outside) ∙ c.publish_count-2.ensures.others other (apart other c.args.base 1 (omega arith) outside) ∙ c.publish_count.ensures.others other (λ e. apart other c.args.base 0 (omega arith) outside (let z : other ≡ c.args.base + 0 = omega arith in z))
