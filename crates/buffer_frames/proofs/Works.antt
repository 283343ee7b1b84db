-- A call that works at one frame, by its steps, and by calls one after another.
use Rattle.std.proofs.Common.{◌≡◌, ℕ, false, refl, ap, ◌∙◌}
use Rattle.atomic_table.specs.declared.shared.Seat.{Seat}
use Rattle.state_word.specs.declared.word.IoEnd.{IoEnd}
use Rattle.state_word.specs.declared.word.StateWord.{StateWord}
use Rattle.pin_core.specs.declared.view.Link.{Link}
use Rattle.pin_core.specs.declared.view.View.{View}
use Rattle.pin_core.specs.State.{link}
use Rattle.table_rule.specs.declared.value.Value.{Value}
use Rattle.frame_table.specs.declared.table.FrameTable.{FrameTable}
use Rattle.frame_table.specs.Content.{begun_link, finished_link}
use Rattle.frame_table.specs.Seats.{ListsOnly, Looked, MarksBegun, MarksEnded, OnlyRises, SameMarks}
use Rattle.frame_table.specs.Seats.{SameSeat, Touches, ViewMarks, locked_link}
use Rattle.frame_table.proofs.Rising.{rises_none}
use Rattle.frame_table.proofs.SameSeats.{same_seat_none, same_seat_on}
use Rattle.frame_table.proofs.Told.{lists_none}
use Rattle.wal_flush.specs.Latched.{KeepsWork}
use Rattle.buffer_frames.specs.Rests.{Stands}
use Rattle.buffer_frames.specs.Working.{KeepsNotes, Works}
use Rattle.buffer_frames.proofs.Keeping.{stands_self}
use Rattle.buffer_frames.proofs.Notes.{notes_by, notes_looked, notes_on, notes_same}
use Rattle.buffer_frames.proofs.WorkSteps.{works_on, works_touched}
use Rattle.buffer_frames.proofs.Written.{stands_flushed, works_flushed}

module _ {L G : Type 0} {t : FrameTable L G} where
  -- over no step
  pub works_none : {s : Seat (Value L G) View} (f : ℕ) → Stands t s → Works f t s s
  works_none {s} f k = record {
    seat = same_seat_none s;
    stands = k;
    work = record {
      kept = refl;
      advances = rises_none s.me.0;
      lists = lists_none f s.me.0;
      partitions = refl;
      others = λ g n. refl;
    };
    role = refl;
    notes = notes_same (link s.me.0 f) (link s.me.0 f) refl;
  }

  -- one call after another
  pub works_then : {f : ℕ} {s u w : Seat (Value L G) View} → Works f t s u → Works f t u w
      → Works f t s w
  works_then {f} {s} {u} {w} a b = record {
    seat = same_seat_on s u w a.seat b.seat;
    stands = b.stands;
    work = works_on f s.me.0 u.me.0 w.me.0 a.work b.work;
    role = b.role ∙ a.role;
    notes = notes_on (link s.me.0 f) (link u.me.0 f) (link w.me.0 f) a.notes b.notes;
  }

  -- a step at the frame, after a call
  pub and_step : {f : ℕ} {s u w : Seat (Value L G) View} → Works f t s u → SameSeat u w
      → Touches f u.me.0 w.me.0 → w.me.0.dirtied_or_synced ≡ u.me.0.dirtied_or_synced
      → (link w.me.0 f).role ≡ (link u.me.0 f).role → KeepsNotes (link u.me.0 f) (link w.me.0 f)
      → Works f t s w
  and_step {f} {s} {u} {w} a same d marks role notes = works_then a record {
    seat = same;
    stands = stands_self t u w same d.self a.stands;
    work = works_touched f u.me.0
        w.me.0 d marks;
    role = role;
    notes = notes;
  }

  -- loads
  pub and_looked : {f : ℕ} {s u w : Seat (Value L G) View} → Works f t s u → SameSeat u w
      → Touches f u.me.0 w.me.0 → SameMarks u.me.0 w.me.0 → Looked (link u.me.0 f) (link w.me.0 f)
      → Works f t s w
  and_looked {f} {s} {u} {w} a same d marks l = and_step a same d (ap
      (λ (x : ViewMarks). x.dirtied_or_synced) marks) l.role (notes_looked (link u.me.0 f)
      (link w.me.0 f) l)

  -- its header is locked
  pub and_locked : {f : ℕ} {s u w : Seat (Value L G) View} (word : ℕ) → Works f t s u → SameSeat u w
      → Touches f u.me.0 w.me.0 → SameMarks u.me.0 w.me.0 → Looked
      (locked_link word (link u.me.0 f)) (link w.me.0 f) → Works f t s w
  and_locked {f} {s} {u} {w} word a same d marks l = and_step a same d
      (ap (λ (x : ViewMarks). x.dirtied_or_synced) marks) l.role record
      { visited = l.visited; left_to_write = l.left_to_write }

  -- a change of what the view has there, but for its role and these notes
  pub and_changed : {f : ℕ} {x : Link} {s u w : Seat (Value L G) View} → Works f t s u
      → SameSeat u w → Touches f u.me.0 w.me.0 → SameMarks u.me.0 w.me.0 → link w.me.0 f ≡ x
      → x.role ≡ (link u.me.0 f).role → x.visited ≡ (link u.me.0 f).visited
      → x.left_to_write ≡ (link u.me.0 f).left_to_write → Works f t s w
  and_changed {f} {x} {s} {u} {w} a same d marks is role visited left = and_step a same d
      (ap (λ (y : ViewMarks). y.dirtied_or_synced) marks) (ap (λ (l : Link). l.role) is ∙ role)
      (notes_by (link u.me.0 f) (link w.me.0 f) (ap (λ (l : Link). l.visited) is ∙ visited)
      (ap (λ (l : Link). l.left_to_write) is ∙ left))

  -- the right to write the page is taken, and a right is given up
  pub and_begun : {f : ℕ} {s u w : Seat (Value L G) View} → Works f t s u → SameSeat u w
      → Touches f u.me.0 w.me.0 → MarksBegun false u.me.0 w.me.0 → Looked
      (begun_link false (link u.me.0 f)) (link w.me.0 f) → Works f t s w
  and_begun {f} {s} {u} {w} a same d marks l = and_step a same d (ap
      (λ (x : ViewMarks). x.dirtied_or_synced) marks) l.role record
      { visited = l.visited; left_to_write = l.left_to_write }

  pub and_ended : {f : ℕ} {s u w : Seat (Value L G) View} {stored : StateWord} (end : IoEnd)
      → Works f t s u → SameSeat u w → Touches f u.me.0 w.me.0 → MarksEnded stored u.me.0 w.me.0
      → Looked (finished_link end (link u.me.0 f)) (link w.me.0 f) → Works f t s w
  and_ended {f} {s} {u} {w} end a same d marks l = and_step a same d
      (ap (λ (x : ViewMarks). x.dirtied_or_synced) marks) l.role record
      { visited = l.visited; left_to_write = l.left_to_write }

  -- the log is flushed, or a word of its is loaded
  pub and_flushed : {f : ℕ} {s u w : Seat (Value L G) View} → Works f t s u → SameSeat u w
      → KeepsWork u.me.0 w.me.0 → OnlyRises u.me.0 w.me.0 → ListsOnly f u.me.0 w.me.0
      → Works f t s w
  and_flushed {f} {s} {u} {w} a same e rises lists = let here = ap (λ (x : View). link x f) e in
      works_then a record {
        seat = same;
        stands = stands_flushed t u w same e a.stands;
        work = works_flushed f u.me.0 w.me.0 e rises lists;
        role = ap (λ (l : Link). l.role) here;
        notes = notes_same (link u.me.0 f) (link w.me.0 f) here;
      }
