-- What calls keep, one after another, and what single steps do.
use Rattle.std.proofs.Common.{◌≡◌, ℕ, List, Option, Some, None, true, false, refl, sym, ap, subst, ◌∙◌}
use Rattle.atomic_table.specs.declared.shared.Seat.{Seat}
use Rattle.block_tag.specs.declared.tag.Tag.{Tag}
use Rattle.pin_core.specs.declared.view.Content.TheVariants.{Unlocked}
use Rattle.pin_core.specs.declared.view.MapChange.{MapChange}
use Rattle.pin_core.specs.declared.view.MapChange.TheVariants.{Stable}
use Rattle.pin_core.specs.declared.view.MapEntry.{MapEntry}
use Rattle.pin_core.specs.declared.view.PartitionHold.{PartitionHold}
use Rattle.pin_core.specs.declared.view.View.{View}
use Rattle.pin_core.specs.State.{hold, link}
use Rattle.table_rule.specs.declared.value.Value.{Value}
use Rattle.table_rule.specs.declared.turn.Turn.TheVariants.{Partition}
use Rattle.frame_table.specs.declared.table.FrameTable.{FrameTable}
use Rattle.frame_table.specs.Seats.{Grows, NamesIn, SameMarks, SameSeat, Stores, Touches, victim_link}
use Rattle.frame_table.specs.Latches.{IsTurned, MapStep, SameWork, back_hold, view_counted}
use Rattle.frame_table.proofs.Rising.{rises_none, rises_on, rises_stored}
use Rattle.frame_table.proofs.Told.{grows_on}
use Rattle.clock_sweep.specs.Keeping.{GetsHeader, KeepsFrames}
use Rattle.frame_table.proofs.SameSeats.{same_seat_none, same_seat_on}
use Rattle.map_partitions.specs.Hints.{LoadsHint, StoresHint}
use Rattle.map_partitions.specs.Partition.{HoldsLatch}
use Rattle.buffer_frames.specs.Keeps.{HasLatch, IsReady, Keeps, SameBut}
use Rattle.buffer_frames.specs.Outside.{chosen_of, emptying_of, freeing_of, kept_by_block_reads, outside_of, searched_of}
use Rattle.buffer_frames.specs.Rests.{HasNoLatch, HasOneLatch, Stands}
use Rattle.buffer_frames.specs.Stages.{Pins}
use Rattle.buffer_frames.specs.Tokens.{Tokens}
use Rattle.buffer_frames.specs.Working.{Works}
use Rattle.buffer_frames.proofs.Hints.{load_grows, load_links, load_outside, load_partitions, store_grows, store_links, store_partitions, store_searched}
use Rattle.buffer_frames.proofs.Keeping.{latch_same, latches_same, links_same, same_locks_at, same_locks_linked, same_locks_looked, same_locks_none, same_locks_on}
use Rattle.buffer_frames.proofs.SameLocks.{same_locks_chosen, same_locks_worked}
use Rattle.buffer_frames.proofs.Latching.{latch_changed, latch_left_as}
use Rattle.buffer_frames.proofs.Outside.{chosen_aside, emptying_stored, grows_chosen, grows_outside, grows_searched, kept_chosen, kept_searched, links_worked, outside_chosen, outside_emptying, outside_searched, outside_step, outside_stored, outside_worked, searched_counted, stands_chosen, stands_freed, stands_outside, stands_searched}

pub latch_kept : (latch : Option ℕ) (v w : View) → w.partitions ≡ v.partitions → HasLatch latch v → HasLatch latch w
latch_kept None v w e l = latches_same v w e l
latch_kept (Some p) v w e l = latch_same p v w e l

module _ {L G : Type 0} {t : FrameTable L G} where
  -- over no step
  pub keeps_none : {but : View → View} {l : Option ℕ} {s : Seat (Value L G) View} → Stands t s → HasLatch l s.me.0 → Keeps but l t s s
  keeps_none {but} {l} {s} k latches = record { seat = same_seat_none s; stands = k; same = refl; rises = rises_none s.me.0; locks = same_locks_none s.me.0; latches = latches }

  pub ready_keeps : {but : View → View} {held : Tokens} {s : Seat (Value L G) View} → IsReady t held s → Keeps but None t s s
  ready_keeps r = keeps_none r.stands r.latches

  -- one call after another
  pub keeps_on : {but : View → View} {l m : Option ℕ} {s u w : Seat (Value L G) View} → Keeps but l t s u → Keeps but m t u w → Keeps but m t s w
  keeps_on {but} {l} {m} {s} {u} {w} a b = record {
    seat = same_seat_on s u w a.seat b.seat;
    stands = b.stands;
    same = b.same ∙ a.same;
    rises = rises_on s.me.0 u.me.0 w.me.0 a.rises b.rises;
    locks = same_locks_on s.me.0 u.me.0 w.me.0 a.locks b.locks;
    latches = b.latches;
  }

  -- what keeps more keeps less
  pub keeps_searched : {l : Option ℕ} {s w : Seat (Value L G) View} → Keeps outside_of l t s w → Keeps searched_of l t s w
  keeps_searched {l} {s} {w} a = record { seat = a.seat; stands = a.stands; same = outside_searched s.me.0 w.me.0 a.same; rises = a.rises; locks = a.locks; latches = a.latches }

  -- a call that leaves this out keeps what a read of a block keeps
  pub chosen_keeps : {l : Option ℕ} {s w : Seat (Value L G) View} → Keeps chosen_of l t s w → Keeps kept_by_block_reads l t s w
  chosen_keeps {l} {s} {w} a = record { seat = a.seat; stands = a.stands; same = kept_chosen s.me.0 w.me.0 a.same; rises = a.rises; locks = a.locks; latches = a.latches }

  pub searched_keeps : {l : Option ℕ} {s w : Seat (Value L G) View} → Keeps searched_of l t s w → Keeps kept_by_block_reads l t s w
  searched_keeps {l} {s} {w} a = record { seat = a.seat; stands = a.stands; same = kept_searched s.me.0 w.me.0 a.same; rises = a.rises; locks = a.locks; latches = a.latches }

  pub freeing_keeps : {l : Option ℕ} {s w : Seat (Value L G) View} → Keeps freeing_of l t s w → Keeps kept_by_block_reads l t s w
  freeing_keeps {l} {s} {w} a = record { seat = a.seat; stands = a.stands; same = ap kept_by_block_reads a.same; rises = a.rises; locks = a.locks; latches = a.latches }

  -- and one that takes no tag away keeps what one keeps that may
  pub emptying_keeps : {l : Option ℕ} {s w : Seat (Value L G) View} → Keeps outside_of l t s w → Keeps emptying_of l t s w
  emptying_keeps {l} {s} {w} a = record { seat = a.seat; stands = a.stands; same = outside_emptying s.me.0 w.me.0 a.same; rises = a.rises; locks = a.locks; latches = a.latches }

  pub outside_keeps : {l : Option ℕ} {s w : Seat (Value L G) View} → Keeps outside_of l t s w → Keeps kept_by_block_reads l t s w
  outside_keeps a = searched_keeps (keeps_searched a)

  -- a victim was chosen, and its tag was loaded
  pub keeps_tagged : {s u w : Seat (Value L G) View} → Keeps chosen_of None t s u → Keeps outside_of None t u w → Keeps kept_by_block_reads None t s w
  keeps_tagged a b = keeps_on (chosen_keeps a) (outside_keeps b)

  -- what a backend had at latches it has, where partitions are as they were
  pub and_same : {but : View → View} {l : Option ℕ} {s u w : Seat (Value L G) View} → Keeps but l t s u → SameBut but u w → Stands t w → w.me.0.partitions ≡ u.me.0.partitions → Keeps but l t s w
  and_same {but} {l} {s} {u} {w} a b stands e = keeps_on a record { seat = b.seat; stands = stands; same = b.same; rises = b.rises; locks = b.locks; latches = latch_kept l u.me.0 w.me.0 e a.latches }

  -- work at a frame whose content isn't locked before and after it
  pub keeps_works : (f : ℕ) {s w : Seat (Value L G) View} → HasNoLatch s.me.0 → Works f t s w → (link s.me.0 f).content ≡ Unlocked → (link w.me.0 f).content ≡ Unlocked → Keeps kept_by_block_reads None t s w
  keeps_works f {s} {w} none k before after = record {
    seat = k.seat;
    stands = k.stands;
    same = ap kept_by_block_reads k.work.kept;
    rises = k.work.advances;
    locks = same_locks_worked f s.me.0 w.me.0 k.work before after;
    latches = latches_same s.me.0 w.me.0 k.work.partitions none;
  }

-- One step: at a frame
module _ {L G : Type 0} {s w : Seat (Value L G) View} (same : SameSeat s w) where
  pub at_frame : (f : ℕ) → Touches f s.me.0 w.me.0 → SameMarks s.me.0 w.me.0 → (link w.me.0 f).content ≡ (link s.me.0 f).content → SameBut outside_of s w
  at_frame f d marks content = let e = outside_step s.me.0 w.me.0 d.self marks in record {
    seat = same;
    same = e;
    rises = grows_outside s.me.0 w.me.0 d.grows e;
    locks = same_locks_at f s.me.0 w.me.0 d.others content;
  }

  -- at its tag word, where a tag is stored, or may be taken away
  pub at_tag : (f : ℕ) → Stores f s.me.0 w.me.0 → w.me.0.cleared ≡ s.me.0.cleared → SameMarks s.me.0 w.me.0 → (link w.me.0 f).content ≡ (link s.me.0 f).content → SameBut outside_of s w
  at_tag f d cleared marks content = record {
    seat = same;
    same = outside_stored s.me.0 w.me.0 d.self cleared marks;
    rises = rises_stored f s.me.0 w.me.0 d;
    locks = same_locks_at f s.me.0 w.me.0 d.others content;
  }

  pub at_emptied : (f : ℕ) → Stores f s.me.0 w.me.0 → SameMarks s.me.0 w.me.0 → (link w.me.0 f).content ≡ (link s.me.0 f).content → SameBut emptying_of s w
  at_emptied f d marks content = record {
    seat = same;
    same = emptying_stored s.me.0 w.me.0 d.self marks;
    rises = rises_stored f s.me.0 w.me.0 d;
    locks = same_locks_at f s.me.0 w.me.0 d.others content;
  }

  -- at a map, or a latch that is left
  pub at_map : SameWork s.me.0 w.me.0 → Grows s.me.0 w.me.0 → w.me.0.lanes ≡ s.me.0.lanes → w.me.0.log ≡ s.me.0.log → SameBut outside_of s w
  at_map work grows lanes log = let e = outside_worked s.me.0 w.me.0 work lanes log in record {
    seat = same;
    same = e;
    rises = grows_outside s.me.0 w.me.0 grows e;
    locks = same_locks_linked s.me.0 w.me.0 (links_worked s.me.0 w.me.0 work);
  }

  -- at a hint, which is loaded or stored
  pub at_hint : (n : ℕ) (tag : Tag) (frame : Option ℕ) → LoadsHint n tag frame s.me.0 w.me.0 → SameBut outside_of s w
  at_hint n tag frame d = let e = load_outside n tag frame s.me.0 w.me.0 d in record {
    seat = same;
    same = e;
    rises = grows_outside s.me.0 w.me.0 (load_grows n tag frame s.me.0 w.me.0 d) e;
    locks = same_locks_linked s.me.0 w.me.0 (load_links n tag frame s.me.0 w.me.0 d);
  }

  pub at_stored : (n : ℕ) (tag : Tag) (f : ℕ) → StoresHint n tag f s.me.0 w.me.0 → SameBut searched_of s w
  at_stored n tag f d = let e = store_searched n tag f s.me.0 w.me.0 d in record {
    seat = same;
    same = e;
    rises = grows_searched s.me.0 w.me.0 (store_grows n tag f s.me.0 w.me.0 d) e;
    locks = same_locks_linked s.me.0 w.me.0 (store_links n tag f s.me.0 w.me.0 d);
  }

  -- at a latch that is taken, and counted
  pub at_latch : (p : ℕ) → SameWork (view_counted true (Partition p) s.me.0) w.me.0 → Grows s.me.0 w.me.0 → w.me.0.lanes ≡ s.me.0.lanes → w.me.0.log ≡ s.me.0.log → SameBut searched_of s w
  at_latch p work grows lanes log = let e = searched_counted p s.me.0 w.me.0 work lanes log in record {
    seat = same;
    same = e;
    rises = grows_searched s.me.0 w.me.0 grows e;
    locks = same_locks_linked s.me.0 w.me.0 (links_worked (view_counted true (Partition p) s.me.0) w.me.0 work);
  }

-- Steps one after another
module _ {L G : Type 0} where
  pub same_on : {but : View → View} {s u w : Seat (Value L G) View} → SameBut but s u → SameBut but u w → SameBut but s w
  same_on {but} {s} {u} {w} a b = record {
    seat = same_seat_on s u w a.seat b.seat;
    same = b.same ∙ a.same;
    rises = rises_on s.me.0 u.me.0 w.me.0 a.rises b.rises;
    locks = same_locks_on s.me.0 u.me.0 w.me.0 a.locks b.locks;
  }

  pub same_searched : {s w : Seat (Value L G) View} → SameBut outside_of s w → SameBut searched_of s w
  same_searched {s} {w} a = record { seat = a.seat; same = outside_searched s.me.0 w.me.0 a.same; rises = a.rises; locks = a.locks }

  pub same_emptying : {s w : Seat (Value L G) View} → SameBut outside_of s w → SameBut emptying_of s w
  same_emptying {s} {w} a = record { seat = a.seat; same = outside_emptying s.me.0 w.me.0 a.same; rises = a.rises; locks = a.locks }

  searched_freeing : {s w : Seat (Value L G) View} → SameBut searched_of s w → SameBut freeing_of s w
  searched_freeing {s} {w} a = record { seat = a.seat; same = ap freeing_of a.same; rises = a.rises; locks = a.locks }

  emptying_freeing : {s w : Seat (Value L G) View} → SameBut emptying_of s w → SameBut freeing_of s w
  emptying_freeing {s} {w} a = record { seat = a.seat; same = ap freeing_of a.same; rises = a.rises; locks = a.locks }

  pub same_less : {s w : Seat (Value L G) View} → SameBut outside_of s w → SameBut kept_by_block_reads s w
  same_less {s} {w} a = record { seat = a.seat; same = ap kept_by_block_reads a.same; rises = a.rises; locks = a.locks }

  pub of_keeps : {but : View → View} {l : Option ℕ} {t : FrameTable L G} {s w : Seat (Value L G) View} → Keeps but l t s w → SameBut but s w
  of_keeps a = record { seat = a.seat; same = a.same; rises = a.rises; locks = a.locks }

  -- They are a call's, by a backend that has no device
  pub keeps_searching : {l : Option ℕ} {t : FrameTable L G} {s w : Seat (Value L G) View} → SameBut searched_of s w → Stands t s → HasLatch l w.me.0 → Keeps searched_of l t s w
  keeps_searching {l} {t} {s} {w} a k latches = record { seat = a.seat; stands = stands_searched t s w a.seat a.same k; same = a.same; rises = a.rises; locks = a.locks; latches = latches }

  pub keeps_by : {l : Option ℕ} {t : FrameTable L G} {s w : Seat (Value L G) View} → SameBut outside_of s w → Stands t s → HasLatch l w.me.0 → Keeps outside_of l t s w
  keeps_by {l} {t} {s} {w} a k latches = record { seat = a.seat; stands = stands_outside t s w a.seat a.same k; same = a.same; rises = a.rises; locks = a.locks; latches = latches }

  keeps_emptying : {l : Option ℕ} {t : FrameTable L G} {s w : Seat (Value L G) View} → SameBut emptying_of s w → Stands t s → HasLatch l w.me.0 → Keeps emptying_of l t s w
  keeps_emptying {l} {t} {s} {w} a k latches = record { seat = a.seat; stands = stands_freed t s w a.seat (emptying_freeing a).same k; same = a.same; rises = a.rises; locks = a.locks; latches = latches }

  keeps_freeing : {l : Option ℕ} {t : FrameTable L G} {s w : Seat (Value L G) View} → SameBut freeing_of s w → Stands t s → HasLatch l w.me.0 → Keeps freeing_of l t s w
  keeps_freeing {l} {t} {s} {w} a k latches = record { seat = a.seat; stands = stands_freed t s w a.seat a.same k; same = a.same; rises = a.rises; locks = a.locks; latches = latches }

  -- a call, and then a step that leaves the latches
  module _ {l : Option ℕ} {t : FrameTable L G} {s u w : Seat (Value L G) View} where
    pub and_touched : Keeps outside_of l t s u → (f : ℕ) → SameSeat u w → Touches f u.me.0 w.me.0 → SameMarks u.me.0 w.me.0 → (link w.me.0 f).content ≡ (link u.me.0 f).content → Keeps outside_of l t s w
    and_touched a f same d marks content = let b = at_frame same f d marks content in and_same a b (stands_outside t u w same b.same a.stands) d.partitions

    pub and_loaded : (n : ℕ) (tag : Tag) (frame : Option ℕ) → Keeps outside_of l t s u → SameSeat u w → LoadsHint n tag frame u.me.0 w.me.0 → Keeps outside_of l t s w
    and_loaded n tag frame a same d = let b = at_hint same n tag frame d in and_same a b (stands_outside t u w same b.same a.stands) (load_partitions n tag frame u.me.0 w.me.0 d)

    pub and_stored : {n : ℕ} {tag : Tag} {f : ℕ} → Keeps searched_of l t s u → SameSeat u w → StoresHint n tag f u.me.0 w.me.0 → Keeps searched_of l t s w
    and_stored {n} {tag} {f} a same d = let b = at_stored same n tag f d in and_same a b (stands_searched t u w same b.same a.stands) (store_partitions n tag f u.me.0 w.me.0 d)

  -- a search of a map, under the latch of its partition
  pub and_searched : (p : ℕ) {h : PartitionHold} {t : FrameTable L G} {s u w : Seat (Value L G) View} → Keeps outside_of (Some p) t s u → SameSeat u w → SameWork u.me.0 w.me.0 → Grows u.me.0 w.me.0 → MapStep p h u.me.0 w.me.0 → HoldsLatch Stable w.me.0 p → Keeps outside_of (Some p) t s w
  and_searched p a same work grows step holds = keeps_on a (keeps_by (at_map same work grows step.lanes step.log) a.stands record { held = holds.held; home = holds.home; no_change = holds.named; others = λ q n. step.others q n ∙ a.latches.others q n })

  -- a call under the latch of a partition, which is taken before it, and left after it
  pub keeps_latched : {p q : ℕ} {t : FrameTable L G} {s u x w : Seat (Value L G) View} → p ≡ q → Stands t s → SameSeat s u → SameWork (view_counted true (Partition p) s.me.0) u.me.0 → Grows s.me.0 u.me.0 → IsTurned true (Partition p) s.me.0 u.me.0
      → Keeps outside_of (Some q) t u x → SameSeat x w → SameWork x.me.0 w.me.0 → Grows x.me.0 w.me.0 → IsTurned false (Partition p) x.me.0 w.me.0 → Keeps searched_of None t s w
  keeps_latched {p} {q} {t} {s} {u} {x} {w} at k same takes grows taken call same' leaves grows' left = keeps_searching
      (same_on (at_latch same p takes grows taken.2 taken.3) (same_searched (same_on (of_keeps call) (at_map same' leaves grows' left.2 left.3)))) k
      (latch_left_as p q x.me.0 w.me.0 at call.latches left)

  -- one that may take a tag away
  pub keeps_freed : {p q : ℕ} {t : FrameTable L G} {s u x w : Seat (Value L G) View} → p ≡ q → Stands t s → SameSeat s u → SameWork (view_counted true (Partition p) s.me.0) u.me.0 → Grows s.me.0 u.me.0 → IsTurned true (Partition p) s.me.0 u.me.0
      → Keeps emptying_of (Some q) t u x → SameSeat x w → SameWork x.me.0 w.me.0 → Grows x.me.0 w.me.0 → IsTurned false (Partition p) x.me.0 w.me.0 → Keeps freeing_of None t s w
  keeps_freed {p} {q} {t} {s} {u} {x} {w} at k same takes grows taken call same' leaves grows' left = keeps_freeing
      (same_on (searched_freeing (at_latch same p takes grows taken.2 taken.3)) (emptying_freeing (same_on (of_keeps call) (same_emptying (at_map same' leaves grows' left.2 left.3))))) k
      (latch_left_as p q x.me.0 w.me.0 at call.latches left)

  -- A pair is named and entered, or left out, under the latch of its partition: the header is locked, the tag word stored, the header unlocked, and the map changed
  pub keeps_changed : (p f : ℕ) {change : MapChange} {entries : List MapEntry} {t : FrameTable L G} {s u x y w : Seat (Value L G) View} → Stands t s → HasOneLatch p s.me.0
      → SameBut outside_of s u → u.me.0.partitions ≡ s.me.0.partitions → SameBut outside_of u x → NamesIn p change u.me.0 x.me.0 → SameBut outside_of x y → y.me.0.partitions ≡ x.me.0.partitions
      → SameSeat y w → SameWork y.me.0 w.me.0 → Grows y.me.0 w.me.0 → MapStep p (back_hold entries (hold y.me.0 p)) y.me.0 w.me.0 → Keeps outside_of (Some p) t s w
  keeps_changed p f {change} {entries} {t} {s} {u} {x} {y} {w} k latch a locked b names d after same work grows step = keeps_by (same_on a (same_on b (same_on d (at_map same work grows step.lanes step.log)))) k
      (latch_changed p change entries s.me.0 u.me.0 x.me.0 y.me.0 w.me.0 locked names after step latch)

  pub keeps_erased : (p f : ℕ) {change : MapChange} {entries : List MapEntry} {t : FrameTable L G} {s u x y w : Seat (Value L G) View} → Stands t s → HasOneLatch p s.me.0
      → SameBut outside_of s u → u.me.0.partitions ≡ s.me.0.partitions → SameBut emptying_of u x → NamesIn p change u.me.0 x.me.0 → SameBut outside_of x y → y.me.0.partitions ≡ x.me.0.partitions
      → SameSeat y w → SameWork y.me.0 w.me.0 → Grows y.me.0 w.me.0 → MapStep p (back_hold entries (hold y.me.0 p)) y.me.0 w.me.0 → Keeps emptying_of (Some p) t s w
  keeps_erased p f {change} {entries} {t} {s} {u} {x} {y} {w} k latch a locked b names d after same work grows step = keeps_emptying (same_on (same_emptying a) (same_on b (same_emptying (same_on d (at_map same work grows step.lanes step.log))))) k
      (latch_changed p change entries s.me.0 u.me.0 x.me.0 y.me.0 w.me.0 locked names after step latch)

-- A victim is chosen by a backend that is ready: its header is got, and it is pinned; or none is
module _ {L G : Type 0} {t : FrameTable L G} {held : Tokens} where
  pub keeps_chosen : (f h word : ℕ) {s u w : Seat (Value L G) View} → IsReady t held s → SameSeat s u → h ≡ f → GetsHeader f word s.me.0 u.me.0 → SameSeat u w → Touches h u.me.0 w.me.0 → SameMarks u.me.0 w.me.0 → link w.me.0 h ≡ victim_link (link u.me.0 h) → Keeps chosen_of None t s w
  keeps_chosen f h word {s} {u} {w} r a e gets b d marks pinned =
      let same : chosen_of w.me.0 ≡ chosen_of s.me.0 = outside_chosen u.me.0 w.me.0 (outside_step u.me.0 w.me.0 d.self marks) ∙ chosen_aside s.me.0 u.me.0 gets.aside in
      let seat : SameSeat s w = same_seat_on s u w a b in record {
        seat = seat;
        stands = stands_chosen t s w seat same r.stands;
        same = same;
        rises = grows_chosen s.me.0 w.me.0 (grows_on s.me.0 u.me.0 w.me.0 gets.grows d.grows) same;
        locks = same_locks_chosen f h word s.me.0 u.me.0 w.me.0 e gets d.others pinned;
        latches = latches_same s.me.0 w.me.0 (d.partitions ∙ ap (λ (x : View). x.partitions) gets.aside) r.latches;
      }

  pub keeps_unchosen : {s w : Seat (Value L G) View} → IsReady t held s → SameSeat s w → KeepsFrames s.me.0 w.me.0 → Keeps chosen_of None t s w
  keeps_unchosen {s} {w} r seat k = let same : chosen_of w.me.0 ≡ chosen_of s.me.0 = chosen_aside s.me.0 w.me.0 k.aside in record {
    seat = seat;
    stands = stands_chosen t s w seat same r.stands;
    same = same;
    rises = grows_chosen s.me.0 w.me.0 k.grows same;
    locks = same_locks_looked s.me.0 w.me.0 k.links;
    latches = latches_same s.me.0 w.me.0 (ap (λ (x : View). x.partitions) k.aside) r.latches;
  }

-- A frame that was pinned for a block has its page read
pub keeps_fetched : {L G : Type 0} {t : FrameTable L G} {held : Tokens} {tag : ℕ} (f h : ℕ) {s u w : Seat (Value L G) View} → h ≡ f → Keeps kept_by_block_reads None t s u → Works h t u w → Pins tag f held u.me.0 → Pins tag h held w.me.0 → Keeps kept_by_block_reads None t s w
keeps_fetched f h {s} {u} {w} e a k before after = keeps_on a (keeps_works h a.latches k (subst (λ (x : ℕ). (link u.me.0 x).content ≡ Unlocked) (sym e) before.unlocked) after.unlocked)

-- A hint was loaded by a backend that is ready
pub ready_loaded : {L G : Type 0} {t : FrameTable L G} {held : Tokens} {s w : Seat (Value L G) View} (n : ℕ) (tag : Tag) (frame : Option ℕ) → IsReady t held s → SameSeat s w → LoadsHint n tag frame s.me.0 w.me.0 → IsReady t held w
ready_loaded {L} {G} {t} {held} {s} {w} n tag frame r same d = let k : Keeps outside_of None t s w = and_loaded n tag frame (ready_keeps r) same d in record { stands = k.stands; rests = links_same held s.me.0 w.me.0 (load_links n tag frame s.me.0 w.me.0 d) r.rests; latches = k.latches }
