use Rattle.std.proofs.Common.{◌≡◌, ◌≤◌, ℕ, Bool, ap, sym, subst, ◌∙◌}
use Rattle.std.proofs.lemmas.Bool.{OnTrue_from}
use Rattle.std.specs.Result.{is_ok}
use Rattle.block_tag.specs.Names.{lane_number, packed_tag}
use Rattle.page_layout.specs.Fields.{lsn_of}
use Rattle.atomic_table.specs.Table.{rest}
use Rattle.pin_core.specs.declared.view.Io.TheVariants.{Output}
use Rattle.pin_core.specs.declared.view.LaneHold.{LaneHold}
use Rattle.pin_core.specs.declared.view.Link.{Link}
use Rattle.pin_core.specs.declared.view.View.{View}
use Rattle.pin_core.specs.State.{lane_hold, link}
use Rattle.table_rule.specs.LaneCalls.{lane_devices}
use Rattle.frame_table.specs.Seats.{SameSeat}
use Rattle.buffer_frames.specs.Flushing.{CallsLane, met_lane_write}
use Rattle.buffer_frames.specs.Stages.{IsSharing}
use Rattle.buffer_frames.proofs.LaneTrips.{lane_free, may_note_write, may_return, trip_calls}
use Rattle.buffer_frames.proofs.LaneTrips.{trip_marks, trip_met, trip_quiet, trip_works, write_call}
use Rattle.buffer_frames.proofs.LaneTrips.{write_made, write_met, write_noted, write_noted_link}
use Rattle.buffer_frames.proofs.LaneTrips.{write_others, write_plain}
use Rattle.buffer_frames.proofs.Keeping.{stands_on}
use Rattle.buffer_frames.proofs.Latching.{may_take_lane}
use Rattle.buffer_frames.proofs.Links.{done_noted, role_noted, sharing_noted}
use Rattle.buffer_frames.proofs.Notes.{notes_noted}
use Rattle.buffer_frames.proofs.flushing.write_lane.Goals as goal

pub lane_out-out-requires-clause-held : goal.lane_out-out-requires-clause-held
lane_out-out-requires-clause-held g c = lane_free _ c.args.seat.now.me.0 c.take_turn.new.seat.me.0
    c.requires.stands.quiet c.take_turn.ensures.turned

pub take_turn-requires-clause-free : goal.take_turn-requires-clause-free
take_turn-requires-clause-free g c = may_take_lane _ c.requires.stands.quiet

pub write-written-requires-clause-log_first : goal.write-written-requires-clause-log_first
write-written-requires-clause-log_first g c = let o = c.lane_out-out.ensures in
    subst (λ (q : ℕ). lsn_of c.args.page.now ≤ (lane_hold c.lane_out-out.new.seat.me.0 q).flushed)
    (sym o.number)
    (subst (λ (n : ℕ). lsn_of c.args.page.now ≤ n) (sym (ap (λ (h : LaneHold). h.flushed) o.out.here
    ∙ ap (λ (x : View). x.flushed) c.take_turn.ensures.work)) c.requires.log_first)

pub lane_back-requires-clause-may : goal.lane_back-requires-clause-may
lane_back-requires-clause-may g c =
    let o = c.lane_out-out.ensures in
    let here : link c.lane_out-out.new.seat.me.0 c.args.frame ≡ link c.args.seat.now.me.0
    c.args.frame = ap (λ v. link v c.args.frame) o.view ∙ ap (λ v. link v c.args.frame)
    c.take_turn.ensures.work in
    let shares = subst (IsSharing Output (packed_tag c.args.tag)) (sym here) c.requires.shares in
    may_return _ _ _ _ _ _ c.lane_out-out.new.seat.me.0 (lane_hold c.take_turn.new.seat.me.0
    c.lane_of-lane.result) c.lane_out-out.result.device c.write-written.new.self
    (c.write-written.ensures.number ∙ o.number) o.out.here o.taken c.write-written.ensures.did
    (may_note_write _ _ _ c.lane_out-out.new.seat.me.0 c.args.frame c.args.tag c.args.page.now
    record {
      named = c.requires.tag;
      listed = c.requires.block;
      placed = ap
          (lane_number c.args.tag) (sym c.lanes.ensures.lanes) ∙ sym c.lane_of-lane.ensures.value;
    }
    c.write-written.new.self.call c.write-written.result record {
      right = shares.right;
      copied = ap (λ (l : Link). l.copied) here ∙ c.requires.copied;
      remembered = shares.remembered;
      log_first = subst (λ (n : ℕ). lsn_of c.args.page.now ≤ n) (sym
          (ap (λ (h : LaneHold). h.flushed) o.out.here ∙ ap (λ (x : View). x.flushed)
          c.take_turn.ensures.work)) c.requires.log_first;
    } c.write-written.ensures.call)

pub returns-clause-works : goal.returns-clause-works
returns-clause-works g c =
    let k = c.take_turn.ensures in
    let o = c.lane_out-out.ensures in
    let b = c.lane_back.ensures in
    let u = c.leave_turn.ensures in
    let call = write_call c.args.frame c.args.tag c.args.page.now c.write-written.new.self.call
    c.write-written.result c.write-written.ensures.call in
    let d = lane_devices g.L.BlockLane in
    let noted : link c.lane_back.new.seat.me.0 c.args.frame ≡ write_noted_link
    (is_ok c.write-written.result) (link c.lane_out-out.new.seat.me.0
    c.args.frame) = write_noted c.args.frame c.args.tag c.args.page.now
    (is_ok c.write-written.result) c.write-written.new.self.call c.lane_out-out.new.seat.me.0
    c.lane_back.new.seat.me.0 call c.lane_back.ensures.noted in
    let went : link c.lane_out-out.new.seat.me.0 c.args.frame ≡ link c.args.seat.now.me.0
    c.args.frame = ap (λ v. link v c.args.frame) c.lane_out-out.ensures.view
    ∙ ap (λ v. link v c.args.frame) c.take_turn.ensures.work in
    let left : link c.leave_turn.new.seat.me.0 c.args.frame ≡ link c.lane_back.new.seat.me.0
    c.args.frame = ap (λ v. link v c.args.frame) c.leave_turn.ensures.work in
    let is : link c.leave_turn.new.seat.me.0 c.args.frame ≡ write_noted_link
    (is_ok c.write-written.result) (link c.args.seat.now.me.0 c.args.frame) = left ∙ noted
    ∙ ap (write_noted_link (is_ok c.write-written.result)) went in
    let same : SameSeat c.args.seat.now c.leave_turn.new.seat = record {
      table = u.seat.table ∙ b.seat.0 ∙ o.seat.0 ∙ k.seat.table;
      id = u.seat.id ∙ b.seat.1
          ∙ o.seat.1 ∙ k.seat.id;
      hand = u.seat.hand ∙ b.hand ∙ ap rest o.hand ∙ k.seat.hand;
    } in
    record {
      seat = same;
      stands = stands_on _ c.args.seat.now c.leave_turn.new.seat same
          (trip_quiet d c.lane_of-lane.result c.write-written.new.self.device
          c.write-written.new.self.call (write_plain c.args.frame c.args.tag c.args.page.now _ _
          call) _ c.args.seat.now.me.0 c.take_turn.new.seat.me.0 c.lane_out-out.new.seat.me.0
          c.lane_back.new.seat.me.0 c.leave_turn.new.seat.me.0 k.work k.did k.turned o.view o.out
          b.view b.back u.work u.did u.turned c.requires.stands.quiet) c.requires.stands;
      work = trip_works d c.lane_of-lane.result c.write-written.new.self.device
          c.write-written.new.self.call (write_plain c.args.frame c.args.tag c.args.page.now _ _
          call) _ c.args.seat.now.me.0 c.take_turn.new.seat.me.0 c.lane_out-out.new.seat.me.0
          c.lane_back.new.seat.me.0 c.leave_turn.new.seat.me.0 k.work k.did k.turned o.view o.out
          b.view b.back u.work u.did u.turned c.args.frame (write_others c.args.frame c.args.tag
          c.args.page.now _ _ c.lane_out-out.new.seat.me.0 c.lane_back.new.seat.me.0 call b.noted);
      role = role_noted (is_ok c.write-written.result) (link c.args.seat.now.me.0 c.args.frame)
          (link c.leave_turn.new.seat.me.0 c.args.frame) is;
      notes = notes_noted (is_ok c.write-written.result) (link c.args.seat.now.me.0 c.args.frame)
          (link c.leave_turn.new.seat.me.0 c.args.frame) is;
    }

pub returns-clause-marks : goal.returns-clause-marks
returns-clause-marks g c =
    let k = c.take_turn.ensures in
    let o = c.lane_out-out.ensures in
    let b = c.lane_back.ensures in
    let u = c.leave_turn.ensures in
    let call = write_call c.args.frame c.args.tag c.args.page.now c.write-written.new.self.call
    c.write-written.result c.write-written.ensures.call in
    let d = lane_devices g.L.BlockLane in
    trip_marks d c.lane_of-lane.result c.write-written.new.self.device c.write-written.new.self.call
    (write_plain c.args.frame c.args.tag c.args.page.now _ _ call) _ c.args.seat.now.me.0
    c.take_turn.new.seat.me.0 c.lane_out-out.new.seat.me.0 c.lane_back.new.seat.me.0
    c.leave_turn.new.seat.me.0 k.work k.did k.turned o.view o.out b.view b.back u.work u.did
    u.turned

pub returns-clause-shares : goal.returns-clause-shares
returns-clause-shares g c =
    let call = write_call c.args.frame c.args.tag c.args.page.now c.write-written.new.self.call
    c.write-written.result c.write-written.ensures.call in
    let noted : link c.lane_back.new.seat.me.0 c.args.frame ≡ write_noted_link
    (is_ok c.write-written.result) (link c.lane_out-out.new.seat.me.0
    c.args.frame) = write_noted c.args.frame c.args.tag c.args.page.now
    (is_ok c.write-written.result) c.write-written.new.self.call c.lane_out-out.new.seat.me.0
    c.lane_back.new.seat.me.0 call c.lane_back.ensures.noted in
    let went : link c.lane_out-out.new.seat.me.0 c.args.frame ≡ link c.args.seat.now.me.0
    c.args.frame = ap (λ v. link v c.args.frame) c.lane_out-out.ensures.view
    ∙ ap (λ v. link v c.args.frame) c.take_turn.ensures.work in
    let left : link c.leave_turn.new.seat.me.0 c.args.frame ≡ link c.lane_back.new.seat.me.0
    c.args.frame = ap (λ v. link v c.args.frame) c.leave_turn.ensures.work in
    let is : link c.leave_turn.new.seat.me.0 c.args.frame ≡ write_noted_link
    (is_ok c.write-written.result) (link c.args.seat.now.me.0 c.args.frame) = left ∙ noted
    ∙ ap (write_noted_link (is_ok c.write-written.result)) went in
    sharing_noted (packed_tag c.args.tag) (is_ok c.write-written.result)
    (link c.args.seat.now.me.0 c.args.frame) (link c.leave_turn.new.seat.me.0 c.args.frame)
    c.requires.shares is

pub returns-clause-done : goal.returns-clause-done
returns-clause-done g c =
    let call = write_call c.args.frame c.args.tag c.args.page.now c.write-written.new.self.call
    c.write-written.result c.write-written.ensures.call in
    let noted : link c.lane_back.new.seat.me.0 c.args.frame ≡ write_noted_link
    (is_ok c.write-written.result) (link c.lane_out-out.new.seat.me.0
    c.args.frame) = write_noted c.args.frame c.args.tag c.args.page.now
    (is_ok c.write-written.result) c.write-written.new.self.call c.lane_out-out.new.seat.me.0
    c.lane_back.new.seat.me.0 call c.lane_back.ensures.noted in
    let went : link c.lane_out-out.new.seat.me.0 c.args.frame ≡ link c.args.seat.now.me.0
    c.args.frame = ap (λ v. link v c.args.frame) c.lane_out-out.ensures.view
    ∙ ap (λ v. link v c.args.frame) c.take_turn.ensures.work in
    let left : link c.leave_turn.new.seat.me.0 c.args.frame ≡ link c.lane_back.new.seat.me.0
    c.args.frame = ap (λ v. link v c.args.frame) c.leave_turn.ensures.work in
    let is : link c.leave_turn.new.seat.me.0 c.args.frame ≡ write_noted_link
    (is_ok c.write-written.result) (link c.args.seat.now.me.0 c.args.frame) = left ∙ noted
    ∙ ap (write_noted_link (is_ok c.write-written.result)) went in
    OnTrue_from _ _ (λ ok. done_noted (is_ok c.write-written.result)
    (link c.args.seat.now.me.0 c.args.frame) (link c.leave_turn.new.seat.me.0 c.args.frame) is
    (sym c.is_ok.ensures.value ∙ ok))

pub returns-clause-calls : goal.returns-clause-calls
returns-clause-calls g c =
    let k = c.take_turn.ensures in
    let o = c.lane_out-out.ensures in
    let b = c.lane_back.ensures in
    let u = c.leave_turn.ensures in
    let call = write_call c.args.frame c.args.tag c.args.page.now c.write-written.new.self.call
    c.write-written.result c.write-written.ensures.call in
    let d = lane_devices g.L.BlockLane in
    let made = write_made d c.lane_of-lane.result c.write-written.new.self.device c.args.frame
    c.args.tag c.args.page.now (is_ok c.write-written.result) c.write-written.new.self.call
    c.args.seat.now.me.0 c.leave_turn.new.seat.me.0 call
    (trip_calls d c.lane_of-lane.result c.write-written.new.self.device
    c.write-written.new.self.call (write_plain c.args.frame c.args.tag c.args.page.now _ _ call)
    _ c.args.seat.now.me.0 c.take_turn.new.seat.me.0 c.lane_out-out.new.seat.me.0
    c.lane_back.new.seat.me.0 c.leave_turn.new.seat.me.0 k.work k.did k.turned o.view o.out
    b.view b.back u.work u.did u.turned) in
    subst (λ (q : ℕ). CallsLane c.is_ok.result q (packed_tag c.args.tag) c.args.page.now
    c.args.seat.now.me.0 c.leave_turn.new.seat.me.0) (c.lane_of-lane.ensures.value
    ∙ ap (lane_number c.args.tag) c.lanes.ensures.lanes)
    (subst (λ (r : Bool). CallsLane r c.lane_of-lane.result (packed_tag c.args.tag) c.args.page.now
    c.args.seat.now.me.0 c.leave_turn.new.seat.me.0) (sym c.is_ok.ensures.value) made)

pub returns-clause-met : goal.returns-clause-met
returns-clause-met g c =
    let k = c.take_turn.ensures in
    let o = c.lane_out-out.ensures in
    let b = c.lane_back.ensures in
    let u = c.leave_turn.ensures in
    let call = write_call c.args.frame c.args.tag c.args.page.now c.write-written.new.self.call
    c.write-written.result c.write-written.ensures.call in
    let d = lane_devices g.L.BlockLane in
    let met = write_met c.args.frame c.args.tag c.args.page.now (is_ok c.write-written.result)
    c.write-written.new.self.call c.args.seat.now.me.0.met c.leave_turn.new.seat.me.0.met call
    (trip_met d c.lane_of-lane.result c.write-written.new.self.device c.write-written.new.self.call
    (write_plain c.args.frame c.args.tag c.args.page.now _ _ call) _ c.args.seat.now.me.0
    c.take_turn.new.seat.me.0 c.lane_out-out.new.seat.me.0 c.lane_back.new.seat.me.0
    c.leave_turn.new.seat.me.0 k.work k.did k.turned o.view o.out b.view b.back u.work u.did
    u.turned) in
    subst (λ (r : Bool). c.leave_turn.new.seat.me.0.met ≡ met_lane_write r c.args.seat.now.me.0.met)
    (sym c.is_ok.ensures.value) met
