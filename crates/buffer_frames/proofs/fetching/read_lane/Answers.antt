use Rattle.std.proofs.Common.{◌≡◌, ℕ, Bool, ◌∷◌, [], ap, sym, subst, ◌∙◌}
use Rattle.std.proofs.lemmas.Bool.{OnTrue_from}
use Rattle.std.specs.Result.{is_ok}
use Rattle.block_tag.specs.Names.{lane_number, packed_tag}
use Rattle.atomic_table.specs.Table.{rest}
use Rattle.pin_core.specs.declared.view.DeviceCall.TheVariants.{LaneRead}
use Rattle.pin_core.specs.State.{lane_hold, link}
use Rattle.table_rule.specs.LaneCalls.{lane_devices}
use Rattle.frame_table.specs.Seats.{SameSeat}
use Rattle.buffer_frames.specs.Fetching.{met_lane_read}
use Rattle.buffer_frames.specs.Stages.{IsReading}
use Rattle.buffer_frames.specs.Working.{Made}
use Rattle.buffer_frames.proofs.Keeping.{stands_on}
use Rattle.buffer_frames.proofs.LaneTrips.{IsPlainCall, IsReadCall, lane_free, may_note_read}
use Rattle.buffer_frames.proofs.LaneTrips.{may_return, read_call, read_made, read_met, read_noted}
use Rattle.buffer_frames.proofs.LaneTrips.{read_noted_link, read_others, read_plain, trip_calls}
use Rattle.buffer_frames.proofs.LaneTrips.{trip_met, trip_quiet, trip_works}
use Rattle.buffer_frames.proofs.Latching.{may_take_lane}
use Rattle.buffer_frames.proofs.Links.{given_noted, reading_noted}
use Rattle.buffer_frames.proofs.Notes.{notes_read}
use Rattle.buffer_frames.proofs.fetching.read_lane.Given.{Over}
use Rattle.buffer_frames.proofs.fetching.read_lane.Goals as goal

pub take_turn-requires-clause-free : goal.take_turn-requires-clause-free
take_turn-requires-clause-free g c = may_take_lane _ c.requires.stands.quiet

pub lane_out-out-requires-clause-held : goal.lane_out-out-requires-clause-held
lane_out-out-requires-clause-held g c = lane_free _ c.args.seat.now.me.0 c.take_turn.new.seat.me.0
    c.requires.stands.quiet c.take_turn.ensures.turned

pub lane_back-requires-clause-may : goal.lane_back-requires-clause-may
lane_back-requires-clause-may g c =
    let o = c.lane_out-out.ensures in
    let here : link c.lane_out-out.new.seat.me.0 c.args.frame ≡ link c.args.seat.now.me.0
    c.args.frame = ap (λ v. link v c.args.frame) o.view ∙ ap (λ v. link v c.args.frame)
    c.take_turn.ensures.work in
    let reads = subst (IsReading (packed_tag c.args.tag)) (sym here) c.requires.reads in
    may_return _ _ _ _ _ _ c.lane_out-out.new.seat.me.0 (lane_hold c.take_turn.new.seat.me.0
    c.lane_of-lane.result) c.lane_out-out.result.device c.read-read.new.self
    (c.read-read.ensures.number ∙ o.number) o.out.here o.taken c.read-read.ensures.did
    (may_note_read _ _ _ c.lane_out-out.new.seat.me.0 c.args.frame c.args.tag c.read-read.new.page
    record {
      named = c.requires.tag;
      listed = c.requires.block;
      placed = ap
          (lane_number c.args.tag) (sym c.lanes.ensures.lanes) ∙ sym c.lane_of-lane.ensures.value;
    }
    c.read-read.new.self.call c.read-read.result
    record { right = reads.right; fresh = reads.fresh; remembered = reads.remembered }
    c.read-read.ensures.call)

-- the call that was made, and what is noted of it
module _ (g : Over) (c : goal.After-is_ok g) where
  call : IsReadCall c.args.frame c.args.tag c.read-read.new.page (is_ok c.read-read.result)
      c.read-read.new.self.call
  call = read_call c.args.frame c.args.tag c.read-read.new.page c.read-read.new.self.call
      c.read-read.result c.read-read.ensures.call

  plain : IsPlainCall c.read-read.new.self.call
  plain = read_plain c.args.frame c.args.tag c.read-read.new.page (is_ok c.read-read.result)
      c.read-read.new.self.call call

  noted : link c.leave_turn.new.seat.me.0 c.args.frame ≡ read_noted_link (is_ok c.read-read.result)
      c.read-read.new.page (link c.args.seat.now.me.0 c.args.frame)
  noted =
      let here : link c.lane_back.new.seat.me.0 c.args.frame ≡ read_noted_link
      (is_ok c.read-read.result) c.read-read.new.page (link c.lane_out-out.new.seat.me.0
      c.args.frame) = read_noted c.args.frame c.args.tag c.read-read.new.page
      (is_ok c.read-read.result) c.read-read.new.self.call c.lane_out-out.new.seat.me.0
      c.lane_back.new.seat.me.0 call c.lane_back.ensures.noted in
      let went : link c.lane_out-out.new.seat.me.0 c.args.frame ≡ link c.args.seat.now.me.0
      c.args.frame = ap (λ v. link v c.args.frame) c.lane_out-out.ensures.view
      ∙ ap (λ v. link v c.args.frame) c.take_turn.ensures.work in
      let left : link c.leave_turn.new.seat.me.0 c.args.frame ≡ link c.lane_back.new.seat.me.0
      c.args.frame = ap (λ v. link v c.args.frame) c.leave_turn.ensures.work in
      left ∙ here ∙ ap (read_noted_link (is_ok c.read-read.result) c.read-read.new.page) went

pub returns-clause-reads : goal.returns-clause-reads
returns-clause-reads g c = reading_noted (packed_tag c.args.tag) (is_ok c.read-read.result)
    c.read-read.new.page (link c.args.seat.now.me.0 c.args.frame) (link c.leave_turn.new.seat.me.0
    c.args.frame) c.requires.reads (noted g c)

pub returns-clause-works : goal.returns-clause-works
returns-clause-works g c =
    let k = c.take_turn.ensures in
    let o = c.lane_out-out.ensures in
    let b = c.lane_back.ensures in
    let u = c.leave_turn.ensures in
    let d = lane_devices g.L.BlockLane in
    let same : SameSeat c.args.seat.now c.leave_turn.new.seat = record {
      table = u.seat.table ∙ b.seat.0 ∙ o.seat.0 ∙ k.seat.table;
      id = u.seat.id ∙ b.seat.1 ∙ o.seat.1 ∙ k.seat.id;
      hand = u.seat.hand ∙ b.hand ∙ ap rest o.hand ∙ k.seat.hand;
    } in
    record {
      seat = same;
      stands = stands_on _ c.args.seat.now c.leave_turn.new.seat same
          (trip_quiet d c.lane_of-lane.result c.read-read.new.self.device c.read-read.new.self.call
          (plain g c) _ c.args.seat.now.me.0 c.take_turn.new.seat.me.0 c.lane_out-out.new.seat.me.0
          c.lane_back.new.seat.me.0 c.leave_turn.new.seat.me.0 k.work k.did k.turned o.view o.out
          b.view b.back u.work u.did u.turned c.requires.stands.quiet) c.requires.stands;
      work = trip_works d c.lane_of-lane.result c.read-read.new.self.device
          c.read-read.new.self.call (plain g c) _ c.args.seat.now.me.0 c.take_turn.new.seat.me.0
          c.lane_out-out.new.seat.me.0 c.lane_back.new.seat.me.0 c.leave_turn.new.seat.me.0 k.work
          k.did k.turned o.view o.out b.view b.back u.work u.did u.turned c.args.frame
          (read_others c.args.frame c.args.tag c.read-read.new.page _ _
          c.lane_out-out.new.seat.me.0 c.lane_back.new.seat.me.0 (call g c) b.noted);
      role = (returns-clause-reads g c).pinned ∙ sym c.requires.reads.pinned;
      notes = notes_read (is_ok c.read-read.result) c.read-read.new.page (link
          c.args.seat.now.me.0 c.args.frame) (link c.leave_turn.new.seat.me.0 c.args.frame)
          (noted g c);
    }

pub returns-clause-given : goal.returns-clause-given
returns-clause-given g c = OnTrue_from _ _ (λ ok. given_noted (is_ok c.read-read.result)
    c.read-read.new.page (link c.args.seat.now.me.0 c.args.frame) (link c.leave_turn.new.seat.me.0
    c.args.frame) (noted g c) (sym c.is_ok.ensures.value ∙ ok))

pub returns-clause-calls : goal.returns-clause-calls
returns-clause-calls g c =
    let k = c.take_turn.ensures in
    let o = c.lane_out-out.ensures in
    let b = c.lane_back.ensures in
    let u = c.leave_turn.ensures in
    let d = lane_devices g.L.BlockLane in
    let made = read_made d c.lane_of-lane.result c.read-read.new.self.device c.args.frame c.args.tag
    c.read-read.new.page (is_ok c.read-read.result) c.read-read.new.self.call c.args.seat.now.me.0
    c.leave_turn.new.seat.me.0 (call g c) (trip_calls d c.lane_of-lane.result
    c.read-read.new.self.device c.read-read.new.self.call (plain g c) _ c.args.seat.now.me.0
    c.take_turn.new.seat.me.0 c.lane_out-out.new.seat.me.0 c.lane_back.new.seat.me.0
    c.leave_turn.new.seat.me.0 k.work k.did k.turned o.view o.out b.view b.back u.work u.did
    u.turned) in
    subst (λ (q : ℕ). Made (LaneRead q (packed_tag c.args.tag) c.is_ok.result ∷ [])
    c.args.seat.now.me.0 c.leave_turn.new.seat.me.0) (c.lane_of-lane.ensures.value
    ∙ ap (lane_number c.args.tag) c.lanes.ensures.lanes)
    (subst (λ (r : Bool). Made (LaneRead c.lane_of-lane.result (packed_tag c.args.tag) r ∷ [])
    c.args.seat.now.me.0 c.leave_turn.new.seat.me.0) (sym c.is_ok.ensures.value) made)

pub returns-clause-met : goal.returns-clause-met
returns-clause-met g c =
    let k = c.take_turn.ensures in
    let o = c.lane_out-out.ensures in
    let b = c.lane_back.ensures in
    let u = c.leave_turn.ensures in
    let met = read_met c.args.frame c.args.tag c.read-read.new.page (is_ok c.read-read.result)
    c.read-read.new.self.call c.args.seat.now.me.0.met c.leave_turn.new.seat.me.0.met (call g c)
    (trip_met (lane_devices g.L.BlockLane) c.lane_of-lane.result c.read-read.new.self.device
    c.read-read.new.self.call (plain g c) _ c.args.seat.now.me.0 c.take_turn.new.seat.me.0
    c.lane_out-out.new.seat.me.0 c.lane_back.new.seat.me.0 c.leave_turn.new.seat.me.0 k.work k.did
    k.turned o.view o.out b.view b.back u.work u.did u.turned) in
    subst (λ (r : Bool). c.leave_turn.new.seat.me.0.met ≡ met_lane_read r c.args.seat.now.me.0.met)
    (sym c.is_ok.ensures.value) met
