-- What a pass counts, over the steps of its view.
use Rattle.std.proofs.Common.{◌≡◌, ℕ, ◌+◌, List, [], Option, Some, None, refl, sym, ap, ◌∙◌, arith}
use Rattle.grid.specs.Shape.{total}
use Rattle.access_rings.specs.declared.ring.RingKind.{RingKind}
use Rattle.access_rings.specs.declared.ring.RingKind.TheVariants.{BulkRead, BulkWrite, Vacuum}
use Rattle.pin_core.specs.declared.view.Published.{Published}
use Rattle.pin_core.specs.declared.view.View.{View}
use Rattle.io_counts.specs.declared.contexts.ByContext.{ByContext}
use Rattle.io_counts.specs.declared.contexts.ContextCounts.{ContextCounts}
use Rattle.io_counts.specs.Additions.{io_added}
use Rattle.io_counts.specs.Counts.{counts_sum, io_with, no_io}
use Rattle.io_counts.specs.Tallies.{TallyState, new_tally}
use Rattle.buffer_frames.specs.Counting.{CountsIo, done_by}
use Rattle.buffer_frames.specs.Outside.{shown_count}
use Rattle.backend_pass.specs.Passes.{IsCounted, IsFreshView, taken_in}

-- the latches of partitions that a view took, what it has published, and the tags that it took
abbrev pub told_of : View → ℕ × List Published × ℕ
told_of v = (v.turns, v.published, v.cleared)

-- what a view has added to the counters is what it has published
pub added_same : (v w : View) → w.published ≡ v.published → io_added w ≡ io_added v
added_same v w e = ap (λ (l : List Published). io_added (record v { published = l })) e

-- over what isn't counted
pub counted_kept : (turns : ℕ) (tally : TallyState) (v w : View) → told_of w ≡ told_of v → IsCounted v turns tally → IsCounted w turns tally
counted_kept turns tally v w e i = record {
  turns_are = i.turns_are ∙ ap (λ (x : ℕ × List Published × ℕ). shown_count x.0) (sym e);
  published = added_same v w (ap (λ (x : ℕ × List Published × ℕ). x.1) e) ∙ i.published;
  taken = λ none. ap (λ (x : ℕ × List Published × ℕ). x.2) e ∙ i.taken none;
}

-- if no eviction and no reuse is counted after events, none was before them, and none is among them
taken_apart : (context : Option RingKind) (events : ContextCounts) (io : ByContext) → taken_in (io_with context events io) ≡ 0 → (taken_in io ≡ 0) × (events.evictions + events.reuses ≡ 0)
taken_apart None events io none = (omega arith, omega arith)
taken_apart (Some BulkRead) events io none = (omega arith, omega arith)
taken_apart (Some BulkWrite) events io none = (omega arith, omega arith)
taken_apart (Some Vacuum) events io none = (omega arith, omega arith)

-- over what is
pub counted_more : (context : Option RingKind) (events : ContextCounts) (turns after : ℕ) (tally told : TallyState) (v w : View) → after ≡ shown_count w.turns → w.published ≡ v.published → told.published ≡ tally.published → CountsIo context events v w tally.counted told.counted → IsCounted v turns tally → IsCounted w after told
counted_more context events turns after tally told v w shown same kept counts i = record {
  turns_are = shown;
  published = added_same v w same ∙ i.published ∙ sym kept;
  taken = λ none.
      let parts = taken_apart context (counts_sum events (done_by counts.made)) tally.counted (ap taken_in (sym counts.counted) ∙ none) in
      let before = i.taken parts.0 in
      let more = parts.1 in
      let cleared = counts.cleared in
      omega arith;
}

-- over counts that are published
pub counted_told : (turns : ℕ) (tally told : TallyState) (v w : View) → w.turns ≡ v.turns → w.cleared ≡ v.cleared → io_added w ≡ tally.counted → told ≡ record tally { published = tally.counted } → IsCounted v turns tally → IsCounted w turns told
counted_told turns tally told v w same cleared added is i = record {
  turns_are = i.turns_are ∙ ap shown_count (sym same);
  published = added ∙ ap (λ (t : TallyState). t.published) (sym is);
  taken = λ none. cleared ∙ i.taken (ap (λ (t : TallyState). taken_in t.counted) (sym is) ∙ none);
}

-- before anything was counted
added_none : (v : View) → io_added (record v { published = [] }) ≡ no_io
unfolding total
added_none v = refl

pub counted_fresh : (number id base : ℕ) (v : View) (tally : TallyState) → IsFreshView number id base v → tally ≡ new_tally → IsCounted v 0 tally
counted_fresh number id base v tally fresh new = record {
  turns_are = let none = fresh.turns in omega arith;
  published = ap (λ (l : List Published). io_added (record v { published = l })) fresh.published ∙ added_none v ∙ ap (λ (t : TallyState). t.published) (sym new);
  taken = λ none. fresh.cleared;
}
