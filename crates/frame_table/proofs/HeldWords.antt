-- Operations on state words of content locks, of input and output, of waits and of checkpoints, and what they leave.
use Rattle.std.proofs.Common.{◌≡◌, ◌≢◌, ℕ, ◌<◌, ◌≤◌, eqb, Bool, true, false, Some, sym, refl, ap, ◌∙◌, subst, arith}
use mathlib.Core.Option.{none, some}
use lib.ListN.{get_elem?}
use prog.Atomic.{either}
use Rattle.atomic_table.specs.Table.{Me, step, Allows}
use Rattle.state_word.specs.declared.word.StateWord.{StateWord}
use Rattle.state_word.specs.declared.word.IoEnd.{IoEnd}
use Rattle.state_word.specs.Fields.{fields, unlocked_fields, dirtied_fields, io_started_fields, io_ended_fields, just_dirtied_cleared_fields, checkpoint_needed_fields, waiter_set_fields, waiter_cleared_fields}
use Rattle.pin_core.specs.declared.view.View.{View}
use Rattle.pin_core.specs.declared.view.Link.{Link}
use Rattle.pin_core.specs.declared.view.Content.TheVariants.{Exclusive}
use Rattle.pin_core.specs.State.{Frame, link, no_tag}
use Rattle.pin_core.specs.Tallies.{Tally, settled_headers, weigh, frame_shape}
use Rattle.pin_core.specs.Invariant.{FrameLaw}
use Rattle.grid.specs.Shape.{tallies}
use Rattle.grid.proofs.Sums.{term_le}
use Rattle.page_core.specs.Kinds as paged
use Rattle.page_core.specs.Steps.{HasNoIo, HasNoWriteOut, MayWait}
use Rattle.history_core.specs.Laws.{Laws}
use Rattle.history_core.specs.State.{State}
use Rattle.table_rule.specs.declared.value.Value.{Value}
use Rattle.table_rule.specs.declared.opening.Opening.{Opening}
use Rattle.table_rule.specs.Layout.{state_place}
use Rattle.history_core.proofs.Stepping.{frame_block}
use Rattle.frame_table.specs.Kinds.{FrameKind, pages, state_word, part_of}
use Rattle.table_rule.specs.Shows.{Devices, RuleHolds}
use Rattle.frame_table.specs.Seats.{Looked, Touches}
use Rattle.frame_table.specs.FrameSteps.{Did, SaysOf, Tried, part_place, has_locked, always, if_found, tells}
use Rattle.frame_table.specs.Content.{CanAwait, CanBeginIo, CanClearJust, CanFinishIo, CanNeed, CanWake, begun_link, dirtied_link, start_of}
use Rattle.frame_table.proofs.Frames.{Asks}
use Rattle.frame_table.proofs.Acting.{acts}
use Rattle.frame_table.proofs.Words.{AsksWord, at_word, swaps}
use Rattle.frame_table.proofs.Told.{looks_link, link_is, looked_by, quiet, touches}

-- where a view holds the header, the state word is the word that it holds
pub word_held : (s : State) (id f word : ℕ) (v : View) → Laws s → get_elem? s.pool.core.views id ≡ some v → f < s.pool.core.frames → (link v f).header ≡ Some (fields word) → (s.pool.core.frame f).word ≡ fields word
word_held s id f word v laws there inside held = (laws.invariant.pool.core.grid.cells id v f there inside).header (fields word) held

-- and so the word that a step under the header found
pub as_held : (k : FrameKind) → part_of k ≡ state_word → (f found word : ℕ) (v w : View) → (link v f).header ≡ Some (fields word) → Did k f v w found → Did k f v w word
as_held k part f found word v w held d = record {
  state = d.state;
  laws = d.laws;
  few = d.few;
  spread = d.spread;
  seat = d.seat;
  there = d.there;
  live = d.live;
  inside = d.inside;
  says = subst (λ p. SaysOf p word (d.state.pool.core.frame f)) (sym part) (word_held d.state d.seat f word v d.laws d.there d.inside held);
  allowed = d.allowed;
  around = d.around;
  after = d.after;
}

pub start_part : (input : Bool) → part_of (pages (start_of input)) ≡ state_word
start_part true = refl
start_part false = refl

-- under the header BM_TAG_VALID says that there is a tag
pub tagged_held : (fr : Frame) (l : Link) (t : Tally → ℕ) → FrameLaw fr t → weigh settled_headers l ≤ t settled_headers → l.header ≡ Some fr.word → l.pending ≡ false → fr.word.tag_valid ≡ true → fr.tag ≢ no_tag
tagged_held fr l t q le held settled tagged = grind (arith, q, le, held, settled, tagged)

-- and else that there is none
pub untagged_held : (fr : Frame) (l : Link) (t : Tally → ℕ) → FrameLaw fr t → weigh settled_headers l ≤ t settled_headers → l.header ≡ Some fr.word → l.pending ≡ false → fr.word.tag_valid ≡ false → fr.tag ≡ no_tag
untagged_held fr l t q le held settled untagged = grind (arith, q, le, held, settled, untagged)

module _ {L G : Type 0} (d : Devices L G) (o : Opening L G) where
  -- a step of the kind k under the header, whose word becomes `new`
  pub gives_up : (k : FrameKind) → part_of k ≡ state_word → (slots id f word new : ℕ) (me : Me (Value L G) View) → f < o.config.frames → me.0.emptied ≡ false → (link me.0 f).header ≡ Some (fields word)
      → ((s : State) → Laws s → get_elem? s.pool.core.views id ≡ some me.0 → f < s.pool.core.frames → (s.pool.core.frame f).word ≡ fields word → (link me.0 f).header ≡ Some (s.pool.core.frame f).word → AsksWord k s f new me.0)
      → Allows (RuleHolds d o) slots id me (state_place f) (λ _. new) (tells (always k) (step slots (state_place f) new 0 none) me)
  gives_up k part slots id f word new me below live held asked = subst (λ (i : ℕ). Allows (RuleHolds d o) slots id me i (λ _. new) (tells (always k) (step slots i new 0 none) me)) at (acts d o (always k) slots id f new 0 (λ _. new) me below live
      (λ t s h laws there small. let is = word_held s id f word me.0 laws there (let e = h.fixed.frames in omega arith) held in
      subst (λ (i : ℕ). Asks k t s f i new me.0) (sym at) (at_word d o k t s f new me.0 below h (asked s laws there (let e = h.fixed.frames in omega arith) is (held ∙ ap (λ (w : StateWord). Some w) (sym is))))))
    where
      at : part_place (part_of k) f ≡ state_place f
      at = ap (λ p. part_place p f) part

  pub marks_there : (slots id f was new : ℕ) (me : Me (Value L G) View) → f < o.config.frames → me.0.emptied ≡ false → (link me.0 f).content ≡ Exclusive → has_locked was ≡ false → fields new ≡ dirtied_fields (fields was)
      → Allows (RuleHolds d o) slots id me (state_place f) (λ n. either (eqb n was) new n) (tells (if_found (pages paged.mark_dirty)) (step slots (state_place f) was new none) me)
  marks_there slots id f was new me below live right unlocked made = swaps d o (pages paged.mark_dirty) refl slots id f was new me below live (λ s laws there spread inside is. record {
    allowed = (tt, record { unlocked = ap (λ (w : StateWord). w.locked) is ∙ unlocked; right = right });
    around = tt;
    word = ap dirtied_fields is ∙ sym made;
    rest = record { tag = refl; sharers = refl; exclusive = refl; copying = refl; page = refl };
    out = refl;
  })

  pub begins_there : (input : Bool) (slots id f word new : ℕ) (me : Me (Value L G) View) → f < o.config.frames → me.0.emptied ≡ false → CanBeginIo input word (link me.0 f) → HasNoIo me.0 → fields new ≡ unlocked_fields (io_started_fields (fields word))
      → Allows (RuleHolds d o) slots id me (state_place f) (λ _. new) (tells (always (pages (start_of input))) (step slots (state_place f) new 0 none) me)
  begins_there true slots id f word new me below live may quiet made = gives_up (pages paged.start_input) refl slots id f word new me below live may.held (λ s laws there inside is held. let r = may.to_read refl in record {
    allowed = (tt, record { held = held; settled = may.settled; pinned = may.pinned; clear = ap (λ (w : StateWord). w.in_progress) is ∙ may.clear; tagged = ap (λ (w : StateWord). w.tag_valid) is ∙ r.0; invalid = ap (λ (w : StateWord). w.valid) is ∙ r.1 });
    around = record { block = λ _. frame_block s laws.invariant f inside (tagged_held (s.pool.core.frame f) (link me.0 f) (tallies frame_shape s.pool.core.views f) (laws.invariant.pool.core.grid.columns f inside) (term_le (λ (u : View). weigh settled_headers (link u f)) s.pool.core.views id me.0 there) held may.settled (ap (λ (w : StateWord). w.tag_valid) is ∙ r.0)); none = quiet };
    word = ap (λ (w : StateWord). unlocked_fields (io_started_fields w)) is ∙ sym made;
    rest = record { tag = refl; sharers = refl; exclusive = refl; copying = refl; page = refl };
    out = refl;
  })
  begins_there false slots id f word new me below live may quiet made = gives_up (pages paged.start_output) refl slots id f word new me below live may.held (λ s laws there inside is held. let r = may.to_write refl in record {
    allowed = (tt, record { held = held; settled = may.settled; pinned = may.pinned; clear = ap (λ (w : StateWord). w.in_progress) is ∙ may.clear; dirty = ap (λ (w : StateWord). w.dirty) is ∙ r.0; right = r.1 });
    around = quiet;
    word = ap (λ (w : StateWord). unlocked_fields (io_started_fields w)) is ∙ sym made;
    rest = record { tag = refl; sharers = refl; exclusive = refl; copying = refl; page = refl };
    out = refl;
  })

  pub finishes_there : (end : IoEnd) (slots id f word new : ℕ) (me : Me (Value L G) View) → f < o.config.frames → me.0.emptied ≡ false → CanFinishIo end word (link me.0 f) → HasNoWriteOut me.0 f → fields new ≡ unlocked_fields (io_ended_fields end (fields word))
      → Allows (RuleHolds d o) slots id me (state_place f) (λ _. new) (tells (always (pages (paged.end_io end))) (step slots (state_place f) new 0 none) me)
  finishes_there end slots id f word new me below live may no_write made = gives_up (pages (paged.end_io end)) refl slots id f word new me below live may.held (λ s laws there inside is held. record {
    allowed = (tt, record { held = held; page_home = may.page_home; ends = may.ends });
    around = no_write;
    word = ap (λ (w : StateWord). unlocked_fields (io_ended_fields end w)) is ∙ sym made;
    rest = record { tag = refl; sharers = refl; exclusive = refl; copying = refl; page = refl };
    out = refl;
  })

  pub clears_just_there : (slots id f word new : ℕ) (me : Me (Value L G) View) → f < o.config.frames → me.0.emptied ≡ false → CanClearJust word (link me.0 f) → fields new ≡ unlocked_fields (just_dirtied_cleared_fields (fields word))
      → Allows (RuleHolds d o) slots id me (state_place f) (λ _. new) (tells (always (pages paged.clear_just_dirtied)) (step slots (state_place f) new 0 none) me)
  clears_just_there slots id f word new me below live may made = gives_up (pages paged.clear_just_dirtied) refl slots id f word new me below live may.held (λ s laws there inside is held. record {
    allowed = (tt, record { held = held; right = may.right });
    around = tt;
    word = ap (λ (w : StateWord). unlocked_fields (just_dirtied_cleared_fields w)) is ∙ sym made;
    rest = record { tag = refl; sharers = refl; exclusive = refl; copying = refl; page = refl };
    out = refl;
  })

  pub needs_there : (slots id f word new : ℕ) (me : Me (Value L G) View) → f < o.config.frames → me.0.emptied ≡ false → CanNeed word (link me.0 f) → fields new ≡ unlocked_fields (checkpoint_needed_fields (fields word))
      → Allows (RuleHolds d o) slots id me (state_place f) (λ _. new) (tells (always (pages paged.need_checkpoint)) (step slots (state_place f) new 0 none) me)
  needs_there slots id f word new me below live may made = gives_up (pages paged.need_checkpoint) refl slots id f word new me below live may.held (λ s laws there inside is held. record {
    allowed = (tt, record { held = held; settled = may.settled; dirty = ap (λ (w : StateWord). w.dirty) is ∙ may.dirty });
    around = tt;
    word = ap (λ (w : StateWord). unlocked_fields (checkpoint_needed_fields w)) is ∙ sym made;
    rest = record { tag = refl; sharers = refl; exclusive = refl; copying = refl; page = refl };
    out = refl;
  })

  pub awaits_there : (number slots id f word new : ℕ) (me : Me (Value L G) View) → f < o.config.frames → me.0.emptied ≡ false → CanAwait word (link me.0 f) → MayWait number me.0 → fields new ≡ unlocked_fields (waiter_set_fields number (fields word))
      → Allows (RuleHolds d o) slots id me (state_place f) (λ _. new) (tells (always (pages (paged.set_waiter number))) (step slots (state_place f) new 0 none) me)
  awaits_there number slots id f word new me below live can may made = gives_up (pages (paged.set_waiter number)) refl slots id f word new me below live can.held (λ s laws there inside is held. record {
    allowed = (tt, record { held = held; settled = can.settled; pinned = can.pinned; right = can.right; free = ap (λ (w : StateWord). w.awaited) is ∙ can.free });
    around = may;
    word = ap (λ (w : StateWord). unlocked_fields (waiter_set_fields number w)) is ∙ sym made;
    rest = record { tag = refl; sharers = refl; exclusive = refl; copying = refl; page = refl };
    out = refl;
  })

  pub wakes_there : (slots id f word new : ℕ) (me : Me (Value L G) View) → f < o.config.frames → me.0.emptied ≡ false → CanWake word (link me.0 f) → fields new ≡ unlocked_fields (waiter_cleared_fields (fields word))
      → Allows (RuleHolds d o) slots id me (state_place f) (λ _. new) (tells (always (pages paged.clear_waiter)) (step slots (state_place f) new 0 none) me)
  wakes_there slots id f word new me below live may made = gives_up (pages paged.clear_waiter) refl slots id f word new me below live may.held (λ s laws there inside is held. record {
    allowed = (tt, record { held = held; settled = may.settled; awaited = ap (λ (w : StateWord). w.awaited) is ∙ may.awaited; single = ap (λ (w : StateWord). w.pins) is ∙ may.single });
    around = tt;
    word = ap (λ (w : StateWord). unlocked_fields (waiter_cleared_fields w)) is ∙ sym made;
    rest = record { tag = refl; sharers = refl; exclusive = refl; copying = refl; page = refl };
    out = refl;
  })

-- what the view has after input began, or output
pub begun_after : (input : Bool) (f found : ℕ) (v w : View) → Did (pages (start_of input)) f v w found → link w f ≡ begun_link input (link v f)
begun_after true f found v w d = link_is (pages paged.start_input) f found v w d
begun_after false f found v w d = link_is (pages paged.start_output) f found v w d

pub begun_touches : (input : Bool) (f found : ℕ) (v w : View)
    → Did (pages (start_of input)) f v w found → Touches f v w
begun_touches true f found v w d =
    touches (pages paged.start_input) (λ s g x. refl) f found v w d
begun_touches false f found v w d =
    touches (pages paged.start_output) (λ s g x. refl) f found v w d

dirtied_looked : (l m : Link) → Looked l m → Looked (dirtied_link l) (dirtied_link m)
dirtied_looked l m a = looked_by (dirtied_link l) (dirtied_link m) (ap dirtied_link (quiet l m a)) a.seen_valid a.waits a.visited a.left_to_write

-- and after the frame was marked dirty
pub dirtied_after : (f : ℕ) (v w : View) → Tried (pages paged.mark_dirty) f v w true → Looked (dirtied_link (link v f)) (link w f)
dirtied_after f v w t = subst (Looked (dirtied_link (link v f))) (sym (link_is (pages paged.mark_dirty) f t.1 t.0 w t.3)) (dirtied_looked (link v f) (link t.0 f) (looks_link f v t.0 t.2))
