-- A lane's latch is taken, the lane goes out and comes back with one call, and the latch is left.
use Rattle.std.proofs.Common.{◌≡◌, ◌≢◌, ℕ, ◌+◌, Bool, true, false, None, [], List, ◌∷◌, ◌++◌, get_or, sym, refl, ap, ◌∙◌, subst}
use Rattle.std.specs.Prelude.{MatchResult, Option, Result, Ok, Err, ◌||◌}
use Rattle.std.specs.Result.{is_ok}
use Rattle.std.proofs.Math.Bool.{or-false}
use Rattle.std.proofs.Math.Nat.{add-zero}
use mathlib.Core.Logic.{dite}
use native.Mathlib.Decide.{ℕ_discrete}
use Rattle.block_tag.specs.declared.catalogue.RelEntry.{RelEntry}
use Rattle.block_tag.specs.declared.tag.Tag.{Tag}
use Rattle.block_tag.specs.Names.{packed_tag}
use Rattle.segment_store.specs.Contents.{Pages}
use Rattle.pin_core.specs.declared.view.DeviceCall.{DeviceCall}
use Rattle.pin_core.specs.declared.view.DeviceCall.TheVariants.{LaneRead, LaneWrite}
use Rattle.pin_core.specs.declared.view.LaneHold.{LaneHold}
use Rattle.pin_core.specs.declared.view.Link.{Link}
use Rattle.pin_core.specs.declared.view.FailedCalls.{FailedCalls}
use Rattle.pin_core.specs.declared.view.TakenLane.{TakenLane}
use Rattle.pin_core.specs.declared.view.View.{View}
use Rattle.pin_core.specs.State.{Page, idle, lane_hold, link, sum_of_met}
use Rattle.table_rule.specs.declared.noted_lane.LaneCall.{LaneCall}
use Rattle.table_rule.specs.declared.noted_lane.LaneCall.TheVariants as lane_call
use Rattle.table_rule.specs.declared.noted_lane.NotedLane.{NotedLane}
use Rattle.table_rule.specs.declared.turn.Turn.TheVariants.{Lane}
use Rattle.table_rule.specs.LaneCalls.{LaneDevices, LaneDid, NotesRead, NotesWritten, NotesWriteFailed}
use Rattle.table_rule.specs.TakenLanes.{IsBlockOf, page_held, taken_lane}
use Rattle.frame_table.specs.Latches.{DidTurn, IsTurned, SameWork}
use Rattle.frame_table.specs.LaneWork.{IsNoted, IsTakenLane, LaneStep, MayNote, MayNoteRead, MayNoteWrite, MayReturn, back_lane, back_view, is_sync, lane_device_calls, lane_read_link, met_of, out_lane, out_view, swept_lane, unwritten_link, written_link}
use Rattle.frame_table.specs.Seats.{ListsOnly, OnlyRises, SameMarks, view_marks}
use Rattle.buffer_frames.specs.Rests.{HasNoDevice, kept_by_calls}
use Rattle.frame_table.proofs.Rising.{rises_back, rises_on, rises_out, rises_turned}
use Rattle.frame_table.proofs.LogWork.{met_none}
use Rattle.frame_table.proofs.Told.{lists_same}
use Rattle.buffer_frames.specs.Flushing.{CallsLane, met_lane_write}
use Rattle.buffer_frames.specs.Fetching.{met_lane_read}
use Rattle.buffer_frames.specs.Working.{Made, WorksAt, met_read, met_write}

-- A call that is no sync
pub record IsPlainCall (call : LaneCall) : Type 0 where
  pub unsynced : is_sync call ≡ false
  pub unswept : (x : View) (h : LaneHold) → swept_lane call x h ≡ h

module _ {L : Type 0} (d : LaneDevices L) (q : ℕ) (after : L) (call : LaneCall) (plain : IsPlainCall call) (taken : TakenLane) (v u x y w : View)
    (took : SameWork v u) (takes : DidTurn true (Lane q) v u) (turned : IsTurned true (Lane q) v u)
    (out : x ≡ out_view q taken u) (went : LaneStep q (out_lane taken u.flushed (lane_hold u q)) u x)
    (back : y ≡ back_view d q after call x) (came : LaneStep q (back_lane (swept_lane call x (lane_hold x q))) x y)
    (left : SameWork y w) (leaves : DidTurn false (Lane q) y w) (free : IsTurned false (Lane q) y w) where
  pub trip_kept : kept_by_calls w ≡ kept_by_calls v
  trip_kept = ap kept_by_calls left ∙ unmarked ∙ ap kept_by_calls out ∙ ap kept_by_calls took
    where
      unmarked : kept_by_calls y ≡ kept_by_calls x
      unmarked = ap kept_by_calls back ∙ ap (λ (b : Bool). record (kept_by_calls x) { dirtied_or_synced = b }) (ap (λ (b : Bool). x.dirtied_or_synced || b) plain.unsynced ∙ or-false x.dirtied_or_synced)

  pub trip_marks : SameMarks v w
  trip_marks = ap view_marks left ∙ unmarked ∙ ap view_marks out ∙ ap view_marks took
    where
      unmarked : view_marks y ≡ view_marks x
      unmarked = ap view_marks back ∙ ap (λ (b : Bool). record (view_marks x) { dirtied_or_synced = b }) (ap (λ (b : Bool). x.dirtied_or_synced || b) plain.unsynced ∙ or-false x.dirtied_or_synced)

  trip_hold : lane_hold w q ≡ record (back_lane (out_lane taken u.flushed (lane_hold u q))) { held = false }
  trip_hold = free.0 ∙ ap (λ (h : LaneHold). record h { held = false }) (came.here ∙ ap back_lane (plain.unswept x (lane_hold x q) ∙ went.here))

  trip_others : (n : ℕ) → n ≢ q → lane_hold w n ≡ lane_hold v n
  trip_others n o = free.1 n o ∙ came.others n o ∙ went.others n o ∙ turned.1 n o

  pub trip_advances : OnlyRises v w
  trip_advances = rises_on v u w (rises_turned true (Lane q) v u took turned takes) (rises_on u x w (rises_out q taken u x out went) (rises_on x y w (rises_back d q after call x y back came) (rises_turned false (Lane q) y w left free leaves)))

  trip_lists : (f : ℕ) → ListsOnly f v w
  trip_lists f = lists_same f v w
      (ap (λ (z : View). z.loads) left ∙ ap (λ (z : View). z.loads) back ∙ ap (λ (z : View). z.loads) out ∙ ap (λ (z : View). z.loads) took)
      (ap (λ (z : View). z.changes) left ∙ ap (λ (z : View). z.changes) back ∙ ap (λ (z : View). z.changes) out ∙ ap (λ (z : View). z.changes) took)

  pub trip_quiet : HasNoDevice v → HasNoDevice w
  trip_quiet n = record {
    live = ap (λ (z : View). z.emptied) left ∙ ap (λ (z : View). z.emptied) back ∙ ap (λ (z : View). z.emptied) out ∙ ap (λ (z : View). z.emptied) took ∙ n.live;
    free = λ m. dite (ℕ_discrete m q)
        (λ e. subst (λ (z : ℕ). (lane_hold w z).held ≡ false) (sym e) (ap (λ (h : LaneHold). h.held) trip_hold))
        (λ o. ap (λ (h : LaneHold). h.held) (trip_others m o) ∙ n.free m);
    home = λ m. dite (ℕ_discrete m q)
        (λ e. subst (λ (z : ℕ). (lane_hold w z).out ≡ None) (sym e) (ap (λ (h : LaneHold). h.out) trip_hold))
        (λ o. ap (λ (h : LaneHold). h.out) (trip_others m o) ∙ n.home m);
    sizes = ap (λ (z : View). z.sizes) left ∙ ap (λ (z : View). z.sizes) back ∙ ap (λ (z : View). z.sizes) out ∙ ap (λ (z : View). z.sizes) took ∙ n.sizes;
    log = free.3 ∙ came.log ∙ went.log ∙ turned.3 ∙ n.log;
  }

  -- what the view has at frames as the lane goes out, and once the latch is left
  pub trip_went : (g : ℕ) → link x g ≡ link v g
  trip_went g = ap (λ (z : View). link z g) out ∙ ap (λ (z : View). link z g) took

  pub trip_left : (g : ℕ) → link w g ≡ link y g
  trip_left g = ap (λ (z : View). link z g) left

  pub trip_works : (f : ℕ) → ((g : ℕ) → g ≢ f → link y g ≡ link x g) → WorksAt f v w
  trip_works f others = record {
    kept = trip_kept;
    advances = trip_advances;
    lists = trip_lists f;
    partitions = free.2 ∙ came.partitions ∙ went.partitions ∙ turned.2;
    others = λ g n. trip_left g ∙ others g n ∙ trip_went g;
  }

  pub trip_calls : Made (lane_device_calls d q after call) v w
  trip_calls = ap (λ (z : View). z.device_calls) left ∙ ap (λ (z : View). z.device_calls) back ∙ ap (λ (l : List DeviceCall). l ++ lane_device_calls d q after call) (ap (λ (z : View). z.device_calls) out ∙ ap (λ (z : View). z.device_calls) took)

  pub trip_met : w.met ≡ sum_of_met v.met (met_of call)
  trip_met = ap (λ (z : View). z.met) left ∙ ap (λ (z : View). z.met) back ∙ ap (λ (m : FailedCalls). sum_of_met m (met_of call)) (ap (λ (z : View). z.met) out ∙ ap (λ (z : View). z.met) took)

-- a view without a lane may take one out once it has the latch
pub lane_free : (q : ℕ) (v u : View) → HasNoDevice v → IsTurned true (Lane q) v u → ((lane_hold u q).held ≡ true) × ((lane_hold u q).out ≡ None)
lane_free q v u n taken = (ap (λ (h : LaneHold). h.held) taken.0, ap (λ (h : LaneHold). h.out) taken.0 ∙ n.home q)

-- it has nothing noted of the lane as it goes out
pub may_return : {L : Type 0} (d : LaneDevices L) (opened : Option Pages) (relations : List RelEntry)
    (lanes q flushed : ℕ) (v : View) (h : LaneHold) (before : L) (l : NotedLane L) → l.number ≡ q
    → lane_hold v q ≡ out_lane (taken_lane d relations lanes q before) flushed h
    → IsTakenLane d opened relations lanes q before → LaneDid d before l.device l.call
    → MayNote relations lanes q l.call v → MayReturn d opened relations lanes q v l
may_return d opened relations lanes q flushed v h before l number out taken did may = record {
  before = before;
  number = number;
  out = ap (λ (k : LaneHold). k.out) out;
  once = ap (λ (k : LaneHold). k.change) out;
  taken = taken;
  did = did;
  may = may;
}

read_fault : (m : FailedCalls) → sum_of_met m (record { reads = 1; writes = 0; logs = 0 }) ≡ met_read m
read_fault m = let at : ℕ → ℕ → ℕ → FailedCalls = λ a b c. record { reads = a; writes = b; logs = c } in
    ap (λ (n : ℕ). at (m.reads + 1) n (m.logs + 0)) (add-zero m.writes) ∙ ap (λ (n : ℕ). at (m.reads + 1) m.writes n) (add-zero m.logs)

write_fault : (m : FailedCalls) → sum_of_met m (record { reads = 0; writes = 1; logs = 0 }) ≡ met_write m
write_fault m = let at : ℕ → ℕ → ℕ → FailedCalls = λ a b c. record { reads = a; writes = b; logs = c } in
    ap (λ (n : ℕ). at n (m.writes + 1) (m.logs + 0)) (add-zero m.reads) ∙ ap (λ (n : ℕ). at m.reads (m.writes + 1) n) (add-zero m.logs)

-- a read of the lane for the frame f and the tag, done with this page, or failed
abbrev pub IsReadCall : ℕ → Tag → Page → Bool → LaneCall → Type 0
IsReadCall f tag page true (lane_call.Read g t p) = (g ≡ f) × (t ≡ tag) × (p.value ≡ page)
IsReadCall f tag page false (lane_call.ReadFailed t) = t ≡ tag
IsReadCall f tag page _ _ = ⊥

of_notes : (f : ℕ) (tag : Tag) (page : Page) (call : LaneCall) → NotesRead f tag page call → IsReadCall f tag page true call
of_notes f tag page (lane_call.Read g t p) n = n
of_notes f tag page (lane_call.ReadFailed t) n = absurd n
of_notes f tag page lane_call.Untouched n = absurd n
of_notes f tag page (lane_call.Written g t p) n = absurd n
of_notes f tag page (lane_call.WriteFailed g t p) n = absurd n
of_notes f tag page lane_call.Synced n = absurd n
of_notes f tag page lane_call.SyncFailed n = absurd n

pub read_call : {A E : Type 0} (f : ℕ) (tag : Tag) (page : Page) (call : LaneCall) (r : Result A E) → MatchResult r (λ _. NotesRead f tag page call) (λ _. call ≡ lane_call.ReadFailed tag) → IsReadCall f tag page (is_ok r) call
read_call f tag page call (Ok x) n = of_notes f tag page call n
read_call f tag page call (Err x) e = subst (IsReadCall f tag page false) (sym e) refl

pub read_plain : (f : ℕ) (tag : Tag) (page : Page) (done : Bool) (call : LaneCall) → IsReadCall f tag page done call → IsPlainCall call
read_plain f tag page true (lane_call.Read g t p) e = record { unsynced = refl; unswept = λ x h. refl }
read_plain f tag page false (lane_call.ReadFailed t) e = record { unsynced = refl; unswept = λ x h. refl }
read_plain f tag page done call e = absurd e

pub read_others : (f : ℕ) (tag : Tag) (page : Page) (done : Bool) (call : LaneCall) (v w : View) → IsReadCall f tag page done call → IsNoted call v w → (g : ℕ) → g ≢ f → link w g ≡ link v g
read_others f tag page true (lane_call.Read h t p) v w e noted g n = noted.others g (λ same. n (same ∙ e.0))
read_others f tag page false (lane_call.ReadFailed t) v w e noted g n = ap (λ (l : List Link). get_or l g idle) noted
read_others f tag page done call v w e noted g n = absurd e

-- what is noted at its frame: the page that the lane gave
abbrev pub read_noted_link : Bool → Page → Link → Link
read_noted_link true page l = lane_read_link page l
read_noted_link false page l = l

pub read_noted : (f : ℕ) (tag : Tag) (page : Page) (done : Bool) (call : LaneCall) (v w : View) → IsReadCall f tag page done call → IsNoted call v w → link w f ≡ read_noted_link done page (link v f)
read_noted f tag page true (lane_call.Read g t p) v w e noted = subst (λ (x : Page). link w f ≡ lane_read_link x (link v f)) e.2 (subst (λ (x : ℕ). link w x ≡ lane_read_link p.value (link v x)) e.0 noted.here)
read_noted f tag page false (lane_call.ReadFailed t) v w e noted = ap (λ (l : List Link). get_or l f idle) noted
read_noted f tag page done call v w e noted = absurd e

pub read_made : {L : Type 0} (d : LaneDevices L) (q : ℕ) (after : L) (f : ℕ) (tag : Tag) (page : Page) (done : Bool) (call : LaneCall) (v w : View) → IsReadCall f tag page done call → Made (lane_device_calls d q after call) v w → Made (LaneRead q (packed_tag tag) done ∷ []) v w
read_made d q after f tag page true (lane_call.Read g t p) v w e m = subst (λ (x : Tag). Made (LaneRead q (packed_tag x) true ∷ []) v w) e.1 m
read_made d q after f tag page false (lane_call.ReadFailed t) v w e m = subst (λ (x : Tag). Made (LaneRead q (packed_tag x) false ∷ []) v w) e m
read_made d q after f tag page done call v w e m = absurd e

pub read_met : (f : ℕ) (tag : Tag) (page : Page) (done : Bool) (call : LaneCall) (m n : FailedCalls) → IsReadCall f tag page done call → n ≡ sum_of_met m (met_of call) → n ≡ met_lane_read done m
read_met f tag page true (lane_call.Read g t p) m n e s = s ∙ met_none m
read_met f tag page false (lane_call.ReadFailed t) m n e s = s ∙ read_fault m
read_met f tag page done call m n e s = absurd e

-- a write of this page for the frame f and the tag, done or failed
abbrev pub IsWriteCall : ℕ → Tag → Page → Bool → LaneCall → Type 0
IsWriteCall f tag page true (lane_call.Written g t p) = (g ≡ f) × (t ≡ tag) × (p.value ≡ page)
IsWriteCall f tag page false (lane_call.WriteFailed g t p) = (g ≡ f) × (t ≡ tag) × (p.value ≡ page)
IsWriteCall f tag page _ _ = ⊥

of_written : (f : ℕ) (tag : Tag) (page : Page) (call : LaneCall) → NotesWritten f tag page call → IsWriteCall f tag page true call
of_written f tag page (lane_call.Written g t p) n = n
of_written f tag page lane_call.Untouched n = absurd n
of_written f tag page (lane_call.Read g t p) n = absurd n
of_written f tag page (lane_call.ReadFailed t) n = absurd n
of_written f tag page (lane_call.WriteFailed g t p) n = absurd n
of_written f tag page lane_call.Synced n = absurd n
of_written f tag page lane_call.SyncFailed n = absurd n

of_failed : (f : ℕ) (tag : Tag) (page : Page) (call : LaneCall) → NotesWriteFailed f tag page call → IsWriteCall f tag page false call
of_failed f tag page (lane_call.WriteFailed g t p) n = n
of_failed f tag page lane_call.Untouched n = absurd n
of_failed f tag page (lane_call.Read g t p) n = absurd n
of_failed f tag page (lane_call.ReadFailed t) n = absurd n
of_failed f tag page (lane_call.Written g t p) n = absurd n
of_failed f tag page lane_call.Synced n = absurd n
of_failed f tag page lane_call.SyncFailed n = absurd n

pub write_call : {A E : Type 0} (f : ℕ) (tag : Tag) (page : Page) (call : LaneCall) (r : Result A E) → MatchResult r (λ _. NotesWritten f tag page call) (λ _. NotesWriteFailed f tag page call) → IsWriteCall f tag page (is_ok r) call
write_call f tag page call (Ok x) n = of_written f tag page call n
write_call f tag page call (Err x) n = of_failed f tag page call n

pub write_plain : (f : ℕ) (tag : Tag) (page : Page) (done : Bool) (call : LaneCall) → IsWriteCall f tag page done call → IsPlainCall call
write_plain f tag page true (lane_call.Written g t p) e = record { unsynced = refl; unswept = λ x h. refl }
write_plain f tag page false (lane_call.WriteFailed g t p) e = record { unsynced = refl; unswept = λ x h. refl }
write_plain f tag page done call e = absurd e

pub write_others : (f : ℕ) (tag : Tag) (page : Page) (done : Bool) (call : LaneCall) (v w : View) → IsWriteCall f tag page done call → IsNoted call v w → (g : ℕ) → g ≢ f → link w g ≡ link v g
write_others f tag page true (lane_call.Written h t p) v w e noted g n = noted.others g (λ same. n (same ∙ e.0))
write_others f tag page false (lane_call.WriteFailed h t p) v w e noted g n = noted.others g (λ same. n (same ∙ e.0))
write_others f tag page done call v w e noted g n = absurd e

-- what is noted at its frame: whether it was done
abbrev pub write_noted_link : Bool → Link → Link
write_noted_link true l = written_link l
write_noted_link false l = unwritten_link l

pub write_noted : (f : ℕ) (tag : Tag) (page : Page) (done : Bool) (call : LaneCall) (v w : View) → IsWriteCall f tag page done call → IsNoted call v w → link w f ≡ write_noted_link done (link v f)
write_noted f tag page true (lane_call.Written g t p) v w e noted = subst (λ (x : ℕ). link w x ≡ written_link (link v x)) e.0 noted.here
write_noted f tag page false (lane_call.WriteFailed g t p) v w e noted = subst (λ (x : ℕ). link w x ≡ unwritten_link (link v x)) e.0 noted.here
write_noted f tag page done call v w e noted = absurd e

pub write_made : {L : Type 0} (d : LaneDevices L) (q : ℕ) (after : L) (f : ℕ) (tag : Tag) (page : Page) (done : Bool) (call : LaneCall) (v w : View) → IsWriteCall f tag page done call → Made (lane_device_calls d q after call) v w → CallsLane done q (packed_tag tag) page v w
write_made d q after f tag page true (lane_call.Written g t p) v w e m = record { left = page; whole = λ done. refl; calls = subst (λ (x : Page). Made (LaneWrite q (packed_tag tag) x true ∷ []) v w) e.2 (subst (λ (x : Tag). Made (LaneWrite q (packed_tag x) p.value true ∷ []) v w) e.1 m) }
write_made d q after f tag page false (lane_call.WriteFailed g t p) v w e m = record { left = page_held (d.contents after) t p.value; whole = λ done. (let no : false ≡ true = done in absurd (cc)); calls = subst (λ (x : Tag). Made (LaneWrite q (packed_tag x) (page_held (d.contents after) t p.value) false ∷ []) v w) e.1 m }
write_made d q after f tag page done call v w e m = absurd e

pub write_met : (f : ℕ) (tag : Tag) (page : Page) (done : Bool) (call : LaneCall) (m n : FailedCalls) → IsWriteCall f tag page done call → n ≡ sum_of_met m (met_of call) → n ≡ met_lane_write done m
write_met f tag page true (lane_call.Written g t p) m n e s = s ∙ met_none m
write_met f tag page false (lane_call.WriteFailed g t p) m n e s = s ∙ write_fault m
write_met f tag page done call m n e s = absurd e

-- what a call asks of a view that it is noted for
module _ (relations : List RelEntry) (lanes q : ℕ) (v : View) (f : ℕ) (tag : Tag) (page : Page) (block : IsBlockOf relations lanes q tag) where
  may_read : (done : Bool) (call : LaneCall) → MayNoteRead tag (link v f) → IsReadCall f tag page done call → MayNote relations lanes q call v
  may_read true (lane_call.Read g t p) can n = (subst (λ (x : Tag). IsBlockOf relations lanes q x) (sym n.1) block, subst (λ (x : ℕ). MayNoteRead t (link v x)) (sym n.0) (subst (λ (x : Tag). MayNoteRead x (link v f)) (sym n.1) can))
  may_read false (lane_call.ReadFailed t) can n = subst (λ (x : Tag). IsBlockOf relations lanes q x) (sym n) block
  may_read done call can n = absurd n

  pub may_note_read : {A E : Type 0} (call : LaneCall) (r : Result A E) → MayNoteRead tag (link v f) → MatchResult r (λ _. NotesRead f tag page call) (λ _. call ≡ lane_call.ReadFailed tag) → MayNote relations lanes q call v
  may_note_read call r can n = may_read (is_ok r) call can (read_call f tag page call r n)

  -- the page of a write is one whose log was flushed before the lane went out
  written_at : (g : ℕ) (t : Tag) (p : Page) → MayNoteWrite tag page (lane_hold v q).flushed (link v f) → g ≡ f → t ≡ tag → p ≡ page → IsBlockOf relations lanes q t × MayNoteWrite t p (lane_hold v q).flushed (link v g)
  written_at g t p can same_frame same_tag same_page = (
    subst (λ (x : Tag). IsBlockOf relations lanes q x) (sym same_tag) block,
    subst (λ (x : ℕ). MayNoteWrite t p (lane_hold v q).flushed (link v x)) (sym same_frame) (subst (λ (x : Tag). MayNoteWrite x p (lane_hold v q).flushed (link v f)) (sym same_tag) (subst (λ (x : Page). MayNoteWrite tag x (lane_hold v q).flushed (link v f)) (sym same_page) can)),
  )

  may_write : (done : Bool) (call : LaneCall) → MayNoteWrite tag page (lane_hold v q).flushed (link v f) → IsWriteCall f tag page done call → MayNote relations lanes q call v
  may_write true (lane_call.Written g t p) can n = written_at g t p.value can n.0 n.1 n.2
  may_write false (lane_call.WriteFailed g t p) can n = written_at g t p.value can n.0 n.1 n.2
  may_write done call can n = absurd n

  pub may_note_write : {A E : Type 0} (call : LaneCall) (r : Result A E) → MayNoteWrite tag page (lane_hold v q).flushed (link v f) → MatchResult r (λ _. NotesWritten f tag page call) (λ _. NotesWriteFailed f tag page call) → MayNote relations lanes q call v
  may_note_write call r can n = may_write (is_ok r) call can (write_call f tag page call r n)
