-- Calls of devices, and the causes of refusals, over steps before and after.
use Rattle.std.proofs.Common.{◌≡◌, ℕ, List, [], ◌++◌, inr, sym, ap, ◌∙◌, append_assoc}
use Rattle.std.proofs.lemmas.List.{append-nil}
use Rattle.std.proofs.lemmas.List.Elements.{All-append, All-nil}
use Rattle.std.specs.Prelude.{Ok, Err, Option, Bool, Result}
use Rattle.segment_store.specs.Contents.{Pages}
use Rattle.block_tag.specs.declared.tag.Tag.{Tag}
use Rattle.pin_core.specs.declared.view.DeviceCall.{DeviceCall}
use Rattle.pin_core.specs.declared.view.View.{View}
use Rattle.access_rings.specs.RingState.{RingState}
use Rattle.clock_sweep.specs.CensusList.{CensusList}
use Rattle.frame_table.specs.declared.pin.Pin.{Pin}
use Rattle.frame_table.specs.declared.table.FrameTable.{FrameTable}
use Rattle.buffer_frames.specs.declared.flushing.FrameFlushError.{FrameFlushError}
use Rattle.buffer_frames.specs.declared.flushing.VictimPage.{VictimPage}
use Rattle.buffer_frames.specs.declared.flushing.VictimPage.TheVariants.{Clean, Spared}
use Rattle.buffer_frames.specs.declared.victims.VictimError.{VictimError}
use Rattle.buffer_frames.specs.Flushing.{VictimAnswer, locked, rejected}
use Rattle.buffer_frames.specs.Outside.{chosen_of, outside_of, ring_shape, searched_of}
use Rattle.buffer_frames.specs.Reads.{CensusPinned}
use Rattle.buffer_frames.specs.Victims.{CensusClaimed}
use Rattle.buffer_frames.specs.Working.{Calls}
use Rattle.buffer_frames.proofs.Outside.{calls_chosen, calls_outside, calls_searched, shape_rejected}

pub calls_none : (P : DeviceCall → Type 0) (v w : View) → w.device_calls ≡ v.device_calls → Calls P v w
calls_none P v w e = record { made = []; calls = e ∙ sym (append-nil v.device_calls); each = All-nil P }

pub calls_by : (P : DeviceCall → Type 0) (v w : View) → searched_of w ≡ searched_of v → Calls P v w
calls_by P v w e = calls_none P v w (calls_searched v w e)

pub calls_on : (P : DeviceCall → Type 0) (v u w : View) → Calls P v u → Calls P u w → Calls P v w
calls_on P v u w a b = record { made = a.made ++ b.made; calls = b.calls ∙ ap (λ (l : List DeviceCall). l ++ b.made) a.calls ∙ append_assoc v.device_calls a.made b.made; each = All-append P a.made b.made a.each b.each }

-- a call that makes none of its own before and after it
pub calls_through : (P : DeviceCall → Type 0) (v u x w : View) → chosen_of u ≡ chosen_of v → Calls P u x → outside_of w ≡ outside_of x → Calls P v w
calls_through P v u x w before a after = record { made = a.made; calls = calls_outside x w after ∙ a.calls ∙ ap (λ (l : List DeviceCall). l ++ a.made) (calls_chosen v u before); each = a.each }

-- a ring that a flush of a victim leaves
pub shape_answered : {L G : Type 0} (contents : L → Option Pages) (t : FrameTable L G) (q : ℕ) (tag : Tag) (f : ℕ) (from_ring : Bool) (before after : Option RingState) (v w : View) (r : Result VictimPage FrameFlushError) → VictimAnswer contents t q tag f from_ring before after v w r → ring_shape after ≡ ring_shape before
shape_answered contents t q tag f from_ring before after v w (Ok (Clean written)) a = ap ring_shape a.0
shape_answered contents t q tag f from_ring before after v w (Ok Spared) (locked why sees refuses same calls) = ap ring_shape same
shape_answered contents t q tag f from_ring before after v w (Ok Spared) (rejected shares r calls) = shape_rejected before after r.ring r.was r.empty
shape_answered contents t q tag f from_ring before after v w (Err why) a = ap ring_shape a.0

-- what tries to free a frame leave of the census
pub census_claimed : (n : ℕ) (c d : CensusList) (r : Result Pin VictimError) → CensusClaimed n d r → CensusPinned n c d r
census_claimed n c d (Ok pin) e = inr e
census_claimed n c d (Err why) e = e
