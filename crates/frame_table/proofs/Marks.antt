-- What steps leave of what a backend has marked, written and ended.
use Rattle.std.proofs.Common.{◌≡◌, ℕ, Bool, true, false, Option, Some, None, sym, refl, ap, ◌∙◌, subst}
use Rattle.std.specs.Prelude.{◌||◌, if◌then◌else◌, not}
use Rattle.std.proofs.Math.Bool.{or-false, or-true}
use Rattle.state_word.specs.declared.word.IoEnd.{IoEnd}
use Rattle.state_word.specs.declared.word.StateWord.{StateWord}
use Rattle.state_word.specs.Fields.{fields, io_ended_fields, unlocked_fields}
use Rattle.pin_core.specs.declared.view.Io.{Io}
use Rattle.pin_core.specs.declared.view.Io.TheVariants.{Quiet, Input, Output}
use Rattle.pin_core.specs.declared.view.Link.{Link}
use Rattle.pin_core.specs.declared.view.View.{View}
use Rattle.pin_core.specs.State.{Frame, Page}
use Rattle.page_core.specs.Kinds.{dirties, starts_output, ended_after}
use Rattle.page_core.specs.Kinds as paged
use Rattle.history_core.specs.State.{State}
use Rattle.frame_table.specs.Content.{start_of}
use Rattle.frame_table.specs.Kinds.{FrameKind, pins, pages, view_after}
use Rattle.frame_table.specs.PageWork.{ReturnsBy, by_input, overwriting}
use Rattle.frame_table.specs.Seats.{ViewMarks, MarksBegun, MarksDirty, MarksEnded, SameMarks, view_marks}
use Rattle.frame_table.specs.FrameSteps.{Did, Looks, Tried, still, again, looking}

-- a kind that marks nothing
pub record IsUnmarked (k : paged.Kind) : Type 0 where
  pub clean : dirties k ≡ false
  pub quiet : starts_output k ≡ false
  pub open_ended : (fr : Frame) (e : Option StateWord) → ended_after k fr e ≡ e

abbrev pub MarksNothing : FrameKind → Type 0
MarksNothing (pins k) = Unit {0}
MarksNothing (pages k) = IsUnmarked k

marks_after : (k : FrameKind) → MarksNothing k → (s : State) (f : ℕ) (v : View) → SameMarks v (view_after k s f v)
marks_after (pins k) m s f v = refl
marks_after (pages k) m s f v = λ i. record {
  dirtied_or_synced = (ap (λ (b : Bool). v.dirtied_or_synced || b) m.clean ∙ or-false v.dirtied_or_synced) i;
  had_output = (ap (λ (b : Bool). v.had_output || b) m.quiet ∙ or-false v.had_output) i;
  last_ended = m.open_ended (s.pool.core.frame f) v.last_ended i;
}

-- a step of such a kind
pub did_marks : (k : FrameKind) → MarksNothing k → (f found : ℕ) (v w : View) → Did k f v w found → SameMarks v w
did_marks k m f found v w d = subst (SameMarks v) (sym d.after) (marks_after k m d.state f v)

pub marks_on : (v u w : View) → SameMarks v u → SameMarks u w → SameMarks v w
marks_on v u w a b = b ∙ a

pub marks_none : (v : View) → SameMarks v v
marks_none v = refl

-- loads, and a step after them
pub looks_marks : (f : ℕ) (v w : View) → Looks f v w → SameMarks v w
looks_marks f v w still = marks_none v
looks_marks f v w (again {u = u} found l d) = marks_on v u w (looks_marks f v u l) (did_marks looking tt f found u w d)

pub tried_marks : (k : FrameKind) → MarksNothing k → (f : ℕ) (v w : View) → Tried k f v w true → SameMarks v w
tried_marks k m f v w t = marks_on v t.0 w (looks_marks f v t.0 t.2) (did_marks k m f t.1 t.0 w t.3)

-- a page comes back, after it was overwritten or as it was
returned : (f found : ℕ) (v w : View) → Did (pages paged.page_back) f v w found → SameMarks v w
returned f found v w d = did_marks (pages paged.page_back) (record { clean = refl; quiet = refl; open_ended = λ fr e. refl }) f found v w d

overwritten : (k : paged.Kind) → IsUnmarked k → (f found : ℕ) (v w : View) → ReturnsBy (Some k) f v w found → SameMarks v w
overwritten k m f found v w (u, d, e) = marks_on v u w (did_marks (pages k) m f found v u d) (returned f found u w e)

back_by : (unapplied : Bool) (io : Io) (read : Option Page) (f found : ℕ) (v w : View) → ReturnsBy (if unapplied then Some paged.overwrite_logged else by_input io read) f v w found → SameMarks v w
back_by true io read f found v w r = overwritten paged.overwrite_logged (record { clean = refl; quiet = refl; open_ended = λ fr e. refl }) f found v w r
back_by false Input (Some p) f found v w r = overwritten (paged.overwrite_read p) (record { clean = refl; quiet = refl; open_ended = λ fr e. refl }) f found v w r
back_by false Input None f found v w r = returned f found v w r
back_by false Output read f found v w r = returned f found v w r
back_by false Quiet read f found v w r = returned f found v w r

pub back_marks : (l : Link) (f found : ℕ) (v w : View) → ReturnsBy (overwriting l) f v w found → SameMarks v w
back_marks l f found v w r = back_by l.unapplied l.io l.read f found v w r

-- a frame is marked dirty, after loads
pub dirtied_marks : (f : ℕ) (v w : View) → Tried (pages paged.mark_dirty) f v w true → MarksDirty v w
dirtied_marks f v w t = ap view_marks t.3.after
    ∙ (λ i. record (view_marks t.0) { dirtied_or_synced = or-true t.0.dirtied_or_synced i; had_output = or-false t.0.had_output i })
    ∙ ap (λ (m : ViewMarks). record m { dirtied_or_synced = true }) (looks_marks f v t.0 t.2)

-- a read or a write of a page begins
pub begun_marks : (input : Bool) (f found : ℕ) (v w : View) → Did (pages (start_of input)) f v w found → MarksBegun input v w
begun_marks true f found v w d = ap view_marks d.after ∙ (λ i. record (view_marks v) { dirtied_or_synced = or-false v.dirtied_or_synced i; had_output = v.had_output || false })
begun_marks false f found v w d = ap view_marks d.after ∙ (λ i. record (view_marks v) { dirtied_or_synced = or-false v.dirtied_or_synced i; had_output = v.had_output || true })

-- and ends
pub ended_marks : (end : IoEnd) (f word : ℕ) (v w : View) → Did (pages (paged.end_io end)) f v w word → MarksEnded (unlocked_fields (io_ended_fields end (fields word))) v w
ended_marks end f word v w d = ap view_marks d.after
    ∙ (λ i. record { dirtied_or_synced = or-false v.dirtied_or_synced i; had_output = or-false v.had_output i; last_ended = Some (unlocked_fields (io_ended_fields end (d.says i))) })

-- after steps that mark nothing
pub begun_marks_on : (input : Bool) (v u w : View) → SameMarks v u → MarksBegun input u w → MarksBegun input v w
begun_marks_on input v u w a b = b ∙ ap (λ (m : ViewMarks). record m { had_output = m.had_output || not input }) a

pub ended_marks_on : (stored : StateWord) (v u w : View) → SameMarks v u → MarksEnded stored u w → MarksEnded stored v w
ended_marks_on stored v u w a b = b ∙ ap (λ (m : ViewMarks). record m { last_ended = Some stored }) a
