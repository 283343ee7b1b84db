use Rattle.std.proofs.Common.{◌∙◌, inl, inr, ap, sym, arith}
use Rattle.io_counts.specs.declared.contexts.ByContext.{ByContext}
use Rattle.io_counts.specs.Additions.{io_added}
use Rattle.io_counts.specs.Tallies.{TallyState}
use Rattle.io_counts.proofs.Additions.{adds_then, context_kept, seat_adding, seat_on}
use Rattle.io_counts.proofs.Counts.{same_io}
use Rattle.io_counts.proofs.publishing.publish.Goals as goal

pub publish_context-requires-clause-told : goal.publish_context-requires-clause-told
publish_context-requires-clause-told g c = ap (λ (x : ByContext). x.no_ring) (c.requires.told ∙ ap (λ (t : TallyState). t.published) (sym c.tally.view_is))

pub publish_context-requires-2-clause-seat : goal.publish_context-requires-2-clause-seat
publish_context-requires-2-clause-seat g c = seat_adding c.args.table.now c.args.seat.now c.publish_context.new.seat _ (c.requires.seat) c.publish_context.ensures.seat c.publish_context.ensures.view

pub publish_context-requires-2-clause-told : goal.publish_context-requires-2-clause-told
publish_context-requires-2-clause-told g c = context_kept 5 c.args.seat.now.me.0 c.publish_context.new.seat.me.0 (λ j low high. c.publish_context.ensures.others j (inr (omega arith))) ∙ ap (λ (x : ByContext). x.bulk_read) (c.requires.told ∙ ap (λ (t : TallyState). t.published) (sym c.tally.view_is))

pub publish_context-requires-3-clause-seat : goal.publish_context-requires-3-clause-seat
publish_context-requires-3-clause-seat g c = seat_adding c.args.table.now c.publish_context.new.seat c.publish_context-2.new.seat _ (seat_adding c.args.table.now c.args.seat.now c.publish_context.new.seat _ (c.requires.seat) c.publish_context.ensures.seat c.publish_context.ensures.view) c.publish_context-2.ensures.seat c.publish_context-2.ensures.view

pub publish_context-requires-3-clause-told : goal.publish_context-requires-3-clause-told
publish_context-requires-3-clause-told g c = context_kept 10 c.publish_context.new.seat.me.0 c.publish_context-2.new.seat.me.0 (λ j low high. c.publish_context-2.ensures.others j (inr (omega arith))) ∙ context_kept 10 c.args.seat.now.me.0 c.publish_context.new.seat.me.0 (λ j low high. c.publish_context.ensures.others j (inr (omega arith))) ∙ ap (λ (x : ByContext). x.bulk_write) (c.requires.told ∙ ap (λ (t : TallyState). t.published) (sym c.tally.view_is))

pub publish_context-requires-4-clause-seat : goal.publish_context-requires-4-clause-seat
publish_context-requires-4-clause-seat g c = seat_adding c.args.table.now c.publish_context-2.new.seat c.publish_context-3.new.seat _ (seat_adding c.args.table.now c.publish_context.new.seat c.publish_context-2.new.seat _ (seat_adding c.args.table.now c.args.seat.now c.publish_context.new.seat _ (c.requires.seat) c.publish_context.ensures.seat c.publish_context.ensures.view) c.publish_context-2.ensures.seat c.publish_context-2.ensures.view) c.publish_context-3.ensures.seat c.publish_context-3.ensures.view

pub publish_context-requires-4-clause-told : goal.publish_context-requires-4-clause-told
publish_context-requires-4-clause-told g c = context_kept 15 c.publish_context-2.new.seat.me.0 c.publish_context-3.new.seat.me.0 (λ j low high. c.publish_context-3.ensures.others j (inr (omega arith))) ∙ context_kept 15 c.publish_context.new.seat.me.0 c.publish_context-2.new.seat.me.0 (λ j low high. c.publish_context-2.ensures.others j (inr (omega arith))) ∙ context_kept 15 c.args.seat.now.me.0 c.publish_context.new.seat.me.0 (λ j low high. c.publish_context.ensures.others j (inr (omega arith))) ∙ ap (λ (x : ByContext). x.vacuum) (c.requires.told ∙ ap (λ (t : TallyState). t.published) (sym c.tally.view_is))

pub returns-clause-seat : goal.returns-clause-seat
returns-clause-seat g c = seat_on c.args.seat.now c.publish_context-3.new.seat c.publish_context-4.new.seat (seat_on c.args.seat.now c.publish_context-2.new.seat c.publish_context-3.new.seat (seat_on c.args.seat.now c.publish_context.new.seat c.publish_context-2.new.seat (c.publish_context.ensures.seat) c.publish_context-2.ensures.seat) c.publish_context-3.ensures.seat) c.publish_context-4.ensures.seat

pub returns-clause-view : goal.returns-clause-view
returns-clause-view g c = rw (sym c.tally.view_is) (adds_then c.args.seat.now.me.0 c.publish_context.new.seat.me.0 c.publish_context-4.new.seat.me.0 _ _ c.publish_context.ensures.view (adds_then c.publish_context.new.seat.me.0 c.publish_context-2.new.seat.me.0 c.publish_context-4.new.seat.me.0 _ _ c.publish_context-2.ensures.view (adds_then c.publish_context-2.new.seat.me.0 c.publish_context-3.new.seat.me.0 c.publish_context-4.new.seat.me.0 _ _ c.publish_context-3.ensures.view (c.publish_context-4.ensures.view))))

pub returns-clause-told : goal.returns-clause-told
returns-clause-told g c = same_io (io_added c.publish_context-4.new.seat.me.0) c.tally.inside.counted (context_kept 0 c.publish_context-3.new.seat.me.0 c.publish_context-4.new.seat.me.0 (λ j low high. c.publish_context-4.ensures.others j (inl (omega arith))) ∙ context_kept 0 c.publish_context-2.new.seat.me.0 c.publish_context-3.new.seat.me.0 (λ j low high. c.publish_context-3.ensures.others j (inl (omega arith))) ∙ context_kept 0 c.publish_context.new.seat.me.0 c.publish_context-2.new.seat.me.0 (λ j low high. c.publish_context-2.ensures.others j (inl (omega arith))) ∙ c.publish_context.ensures.told) (context_kept 5 c.publish_context-3.new.seat.me.0 c.publish_context-4.new.seat.me.0 (λ j low high. c.publish_context-4.ensures.others j (inl (omega arith))) ∙ context_kept 5 c.publish_context-2.new.seat.me.0 c.publish_context-3.new.seat.me.0 (λ j low high. c.publish_context-3.ensures.others j (inl (omega arith))) ∙ c.publish_context-2.ensures.told) (context_kept 10 c.publish_context-3.new.seat.me.0 c.publish_context-4.new.seat.me.0 (λ j low high. c.publish_context-4.ensures.others j (inl (omega arith))) ∙ c.publish_context-3.ensures.told) (c.publish_context-4.ensures.told) ∙ ap (λ (t : TallyState). t.counted) c.tally.view_is
