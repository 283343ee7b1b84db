-- What calls that work at frames and maps leave of a view, as one equation, and what follows of it.
use Rattle.std.proofs.Common.{◌≡◌, ℕ, ◌+◌, [], Option, Some, None, true, false, Bool, sym, refl, ap, ◌∙◌, arith, length-set}
use Rattle.atomic_table.specs.declared.shared.Seat.{Seat}
use Rattle.pin_core.specs.declared.view.View.{View}
use Rattle.table_rule.specs.declared.value.Value.{Value}
use Rattle.frame_table.specs.declared.table.FrameTable.{FrameTable}
use Rattle.frame_table.specs.Seats.{Grows, OnlyRises, SameMarks, SameSeat, SameSelf}
use Rattle.frame_table.specs.Latches.{SameWork, view_counted}
use Rattle.frame_table.proofs.Rising.{rises_by}
use Rattle.table_rule.specs.declared.turn.Turn.TheVariants.{Partition}
use Rattle.clock_sweep.specs.Keeping.{SameAside}
use Rattle.buffer_frames.specs.Rests.{Stands, kept_by_calls}
use Rattle.buffer_frames.proofs.Keeping.{devices_same, stands_on}
use Rattle.access_rings.specs.RingState.{RingState, ring_after_keep, ring_after_rejection}
use Rattle.clock_sweep.specs.Choosing.{ring_gone_on, ring_keeping}
use Rattle.buffer_frames.specs.Outside.{RingShape, chosen_of, emptying_of, freeing_of, kept_by_block_reads, outside_of, ring_shape, searched_of, shape_of, shown_count}

-- The equations of the layers below, as this one
pub outside_step : (v w : View) → SameSelf v w → SameMarks v w → outside_of w ≡ outside_of v
outside_step v w self marks = λ i. record (self i) { dirtied_or_synced = (marks i).dirtied_or_synced; had_output = (marks i).had_output; last_ended = (marks i).last_ended }

pub chosen_aside : (v w : View) → SameAside v w → chosen_of w ≡ chosen_of v
chosen_aside v w aside = λ i. record (aside i) { partitions = []; residents = [] }

-- a tag was stored, or one was taken away
pub outside_stored : (v w : View) → SameSelf (record v { cleared = w.cleared }) w → w.cleared ≡ v.cleared → SameMarks v w → outside_of w ≡ outside_of v
outside_stored v w self cleared marks = λ i. record (self i) { dirtied_or_synced = (marks i).dirtied_or_synced; had_output = (marks i).had_output; last_ended = (marks i).last_ended; cleared = cleared i }

pub emptying_stored : (v w : View) → SameSelf (record v { cleared = w.cleared }) w → SameMarks v w → emptying_of w ≡ emptying_of v
emptying_stored v w self marks = λ i. record (self i) { dirtied_or_synced = (marks i).dirtied_or_synced; had_output = (marks i).had_output; last_ended = (marks i).last_ended; cleared = 0 }

pub outside_emptying : (v w : View) → outside_of w ≡ outside_of v → emptying_of w ≡ emptying_of v
outside_emptying v w e = ap emptying_of e

pub outside_worked : (v w : View) → SameWork v w → w.lanes ≡ v.lanes → w.log ≡ v.log → outside_of w ≡ outside_of v
outside_worked v w work lanes log = λ i. record (work i) { links = []; loads = []; changes = []; residents = []; lanes = lanes i; log = log i }

pub links_worked : (v w : View) → SameWork v w → w.links ≡ v.links
links_worked v w work = ap (λ (x : View). x.links) work

-- a latch was taken, and counted
pub searched_counted : (p : ℕ) (v w : View) → SameWork (view_counted true (Partition p) v) w → w.lanes ≡ v.lanes → w.log ≡ v.log → searched_of w ≡ searched_of v
searched_counted p v w work lanes log = λ i. record (work i) { links = []; loads = []; changes = []; residents = []; turns = 0; hints = []; lanes = lanes i; log = log i }

-- What follows of it where a victim was chosen
pub kept_chosen : (v w : View) → chosen_of w ≡ chosen_of v → kept_by_block_reads w ≡ kept_by_block_reads v
kept_chosen v w e = ap kept_by_block_reads e

pub calls_chosen : (v w : View) → chosen_of w ≡ chosen_of v → w.device_calls ≡ v.device_calls
calls_chosen v w e = ap (λ (x : View). x.device_calls) e

pub grows_chosen : (v w : View) → Grows v w → chosen_of w ≡ chosen_of v → OnlyRises v w
grows_chosen v w g e = rises_by v w g (ap (λ (x : View). x.lanes) e)
    (let a = ap (λ (x : View). x.end_seen) e in omega arith) (let a = ap (λ (x : View). x.flushed) e in omega arith) (λ d. ap (λ (x : View). x.saw_down) e ∙ d)

pub stands_chosen : {L G : Type 0} (t : FrameTable L G) (s s' : Seat (Value L G) View) → SameSeat s s' → chosen_of s'.me.0 ≡ chosen_of s.me.0 → Stands t s → Stands t s'
stands_chosen t s s' same e k = stands_on t s s' same (devices_same s.me.0 s'.me.0 (ap (λ (x : View). x.emptied) e) (ap (λ (x : View). x.lanes) e) (ap (λ (x : View). x.sizes) e) (ap (λ (x : View). x.log) e) k.quiet) k

-- and also where latches of partitions were taken, and hints stored
pub outside_searched : (v w : View) → outside_of w ≡ outside_of v → searched_of w ≡ searched_of v
outside_searched v w e = ap searched_of e

pub kept_searched : (v w : View) → searched_of w ≡ searched_of v → kept_by_block_reads w ≡ kept_by_block_reads v
kept_searched v w e = ap kept_by_block_reads e

pub met_searched : (v w : View) → searched_of w ≡ searched_of v → w.met ≡ v.met
met_searched v w e = ap (λ (x : View). x.met) e

pub calls_searched : (v w : View) → searched_of w ≡ searched_of v → w.device_calls ≡ v.device_calls
calls_searched v w e = ap (λ (x : View). x.device_calls) e

pub stands_searched : {L G : Type 0} (t : FrameTable L G) (s s' : Seat (Value L G) View) → SameSeat s s' → searched_of s'.me.0 ≡ searched_of s.me.0 → Stands t s → Stands t s'
stands_searched t s s' same e k = stands_on t s s' same (devices_same s.me.0 s'.me.0 (ap (λ (x : View). x.emptied) e) (ap (λ (x : View). x.lanes) e) (ap (λ (x : View). x.sizes) e) (ap (λ (x : View). x.log) e) k.quiet) k

pub grows_searched : (v w : View) → Grows v w → searched_of w ≡ searched_of v → OnlyRises v w
grows_searched v w g e = rises_by v w g (ap (λ (x : View). x.lanes) e)
    (let a = ap (λ (x : View). x.end_seen) e in omega arith) (let a = ap (λ (x : View). x.flushed) e in omega arith) (λ d. ap (λ (x : View). x.saw_down) e ∙ d)

pub rises_counted : (p : ℕ) (v w : View) → SameWork (view_counted true (Partition p) v) w → w.lanes ≡ v.lanes → w.log ≡ v.log → Grows v w → OnlyRises v w
rises_counted p v w work lanes log g = grows_searched v w g (searched_counted p v w work lanes log)

pub outside_chosen : (v w : View) → outside_of w ≡ outside_of v → chosen_of w ≡ chosen_of v
outside_chosen v w e = ap chosen_of e

pub kept_outside : (v w : View) → outside_of w ≡ outside_of v → kept_by_calls w ≡ kept_by_calls v
kept_outside v w e = ap kept_by_calls e

pub calls_outside : (v w : View) → outside_of w ≡ outside_of v → w.device_calls ≡ v.device_calls
calls_outside v w e = calls_searched v w (outside_searched v w e)

pub stands_outside : {L G : Type 0} (t : FrameTable L G) (s s' : Seat (Value L G) View) → SameSeat s s' → outside_of s'.me.0 ≡ outside_of s.me.0 → Stands t s → Stands t s'
stands_outside t s s' same e k = stands_searched t s s' same (outside_searched s.me.0 s'.me.0 e) k

pub grows_outside : (v w : View) → Grows v w → outside_of w ≡ outside_of v → OnlyRises v w
grows_outside v w g e = grows_searched v w g (outside_searched v w e)

-- The view v took a latch, which is counted, and was u then, and it has left the latch, as w
pub record Searched (v u w : View) : Type 0 where
  pub same : searched_of w ≡ searched_of v
  pub turns : w.turns ≡ v.turns + 1
  pub hints : w.hints ≡ v.hints
  pub shown : shown_count u.turns ≡ shown_count w.turns

pub searched_under : (p : ℕ) (v u x w : View) → SameWork (view_counted true (Partition p) v) u → u.lanes ≡ v.lanes → u.log ≡ v.log → outside_of x ≡ outside_of u → SameWork x w → w.lanes ≡ x.lanes → w.log ≡ x.log → Searched v u w
searched_under p v u x w takes lanes log call leaves lanes' log' = let turns : w.turns ≡ u.turns = ap (λ (y : View). y.turns) leaves ∙ ap (λ (y : View). y.turns) call in record {
  same = outside_searched x w (outside_worked x w leaves lanes' log') ∙ outside_searched u x call ∙ searched_counted p v u takes lanes log;
  turns = turns ∙ ap (λ (y : View). y.turns) takes;
  hints = ap (λ (y : View). y.hints) leaves ∙ ap (λ (y : View). y.hints) call ∙ ap (λ (y : View). y.hints) takes;
  shown = ap shown_count (sym turns);
}

-- so it is where a tag may have been taken meanwhile
pub record Freed (v u w : View) : Type 0 where
  pub same : freeing_of w ≡ freeing_of v
  pub turns : w.turns ≡ v.turns + 1
  pub hints : w.hints ≡ v.hints
  pub shown : shown_count u.turns ≡ shown_count w.turns
  pub before : u.cleared ≡ v.cleared

pub freed_under : (p : ℕ) (v u x w : View) → SameWork (view_counted true (Partition p) v) u → u.lanes ≡ v.lanes → u.log ≡ v.log → emptying_of x ≡ emptying_of u → SameWork x w → w.lanes ≡ x.lanes → w.log ≡ x.log → Freed v u w
freed_under p v u x w takes lanes log call leaves lanes' log' = let turns : w.turns ≡ u.turns = ap (λ (y : View). y.turns) leaves ∙ ap (λ (y : View). y.turns) call in record {
  same = ap freeing_of (outside_worked x w leaves lanes' log') ∙ ap freeing_of call ∙ ap freeing_of (searched_counted p v u takes lanes log);
  turns = turns ∙ ap (λ (y : View). y.turns) takes;
  hints = ap (λ (y : View). y.hints) leaves ∙ ap (λ (y : View). y.hints) call ∙ ap (λ (y : View). y.hints) takes;
  shown = ap shown_count (sym turns);
  before = ap (λ (y : View). y.cleared) takes;
}

-- What follows of it
pub stands_freed : {L G : Type 0} (t : FrameTable L G) (s s' : Seat (Value L G) View) → SameSeat s s' → freeing_of s'.me.0 ≡ freeing_of s.me.0 → Stands t s → Stands t s'
stands_freed t s s' same e k = stands_on t s s' same (devices_same s.me.0 s'.me.0 (ap (λ (x : View). x.emptied) e) (ap (λ (x : View). x.lanes) e) (ap (λ (x : View). x.sizes) e) (ap (λ (x : View). x.log) e) k.quiet) k

-- with the count of tags, as it is then
pub freed_searched : (v w : View) → freeing_of w ≡ freeing_of v → w.cleared ≡ v.cleared → searched_of w ≡ searched_of v
freed_searched v w e cleared = λ i. record (e i) { cleared = cleared i }

pub freed_counted : (v w : View) (n : ℕ) → freeing_of w ≡ freeing_of v → w.cleared ≡ n → searched_of w ≡ record (searched_of v) { cleared = n }
freed_counted v w n e cleared = λ i. record (e i) { cleared = cleared i }

-- A ring keeps its kind and its number of places
shape_next : (r : Option RingState) → ring_shape (ring_gone_on r) ≡ ring_shape r
shape_next (Some r) = refl
shape_next None = refl

length_kept : (f : ℕ) (r : RingState) → shape_of (ring_after_keep f r) ≡ shape_of r
length_kept f r = ap (λ (n : ℕ). record { kind = r.kind; places = n }) (length-set r.places r.current (Some f))

shape_kept : (from_ring : Bool) (f : ℕ) (r : Option RingState) → ring_shape (ring_keeping from_ring f r) ≡ ring_shape r
shape_kept true f r = refl
shape_kept false f (Some r) = ap (λ (s : RingShape). Some s) (length_kept f r)
shape_kept false f None = refl

pub shape_keeping : (from_ring : Bool) (f : ℕ) (before after : Option RingState) → after ≡ ring_keeping from_ring f (ring_gone_on before) → ring_shape after ≡ ring_shape before
shape_keeping from_ring f before after e = ap ring_shape e ∙ shape_kept from_ring f (ring_gone_on before) ∙ shape_next before

pub shape_rejected : (before after : Option RingState) (r : RingState) → before ≡ Some r → after ≡ Some (ring_after_rejection r) → ring_shape after ≡ ring_shape before
shape_rejected before after r was empty = ap ring_shape empty ∙ ap (λ (n : ℕ). Some (record { kind = r.kind; places = n })) (length-set r.places r.current None) ∙ sym (ap ring_shape was)
