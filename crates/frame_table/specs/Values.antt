-- Values go out and come back, by their places.
use Rattle.std.specs.Prelude.{◌≡◌, ℕ, ◌≤◌, true, vec_capacity, map, None}
use Rattle.atomic_table.specs.declared.shared.Seat.{Seat}
use Rattle.pin_core.specs.declared.view.View.{View}
use Rattle.pin_core.specs.State.{link, hold, lane_hold}
use Rattle.pin_core.specs.Turns.{map_out}
use Rattle.page_core.specs.Kinds as kinds
use Rattle.history_core.specs.Log.{record_size}
use Rattle.table_rule.specs.declared.noted_lane.LaneCall.TheVariants as lane_call
use Rattle.table_rule.specs.declared.noted_log.LogCall.TheVariants as log_call
use Rattle.table_rule.specs.declared.value.Value.{Value}
use Rattle.table_rule.specs.declared.value.Value.TheVariants as value
use Rattle.table_rule.specs.declared.turn.Place.{Place}
use Rattle.table_rule.specs.declared.turn.Place.TheVariants as place
use Rattle.table_rule.specs.declared.turn.Turn.TheVariants.{Partition, Lane, Log}
use Rattle.table_rule.specs.Shows.{AreApart, Devices, entry_of}
use Rattle.table_rule.specs.TakenLanes.{lane_devices_of}
use Rattle.frame_table.specs.declared.table.FrameTable.{FrameTable}
use Rattle.frame_table.specs.Kinds.{pages}
use Rattle.frame_table.specs.Seats.{CanStep, CanTurn, SameMarks, Touches, frames_of, relations_of}
use Rattle.frame_table.specs.FrameSteps.{Did}
use Rattle.frame_table.specs.Latches.{AreBelow, ComesBack, DidMap, HasRoomFor, MapStep, MayComeBack, SameWork, back_hold, out_hold}
use Rattle.frame_table.specs.PageWork.{MayReturnPage, MayTakePage, ReturnsBy, overwriting, page_out_link, returned_link}
use Rattle.frame_table.specs.LaneWork.{DidSteps, IsTakenFrom, MayReturnTo, back_events, back_view, out_events, out_view, taken_at}
use Rattle.frame_table.specs.LogWork.{LogCame, LogWent, MayComeHome, view_home}

module _ {L G : Type 0} where
  -- The value of a place may go out with the seat
  abbrev pub MayGoOut : FrameTable L G → Seat (Value L G) View → Place → Type 0
  MayGoOut t s (place.Page f) = CanStep t s f × MayTakePage (link s.me.0 f)
  MayGoOut t s (place.Of (Partition p)) = CanTurn t s (Partition p) × ((hold s.me.0 p).held ≡ true)
      × ((hold s.me.0 p).out ≡ None)
  MayGoOut t s (place.Of (Lane q)) = CanTurn t s (Lane q) × ((lane_hold s.me.0 q).held ≡ true)
      × ((lane_hold s.me.0 q).out ≡ None)
  MayGoOut t s (place.Of Log) = CanTurn t s Log × (s.me.0.log.held ≡ true) × (s.me.0.log.out ≡ None)

  -- what lies there went out as this value, and the view v became w
  abbrev pub WentOutAs : Devices L G → FrameTable L G → Place → Value L G → View → View → Type 0
  WentOutAs d t (place.Page f) (value.Page p) v w = Touches f v w × SameMarks v w
      × (link w f ≡ page_out_link p (link v f)) × ((link w f).overwritten ≡ None)
      × ((found : ℕ) × Did (pages kinds.page_out) f v w found)
  WentOutAs d t (place.Of (Partition p)) (value.Map m) v w = AreApart m.items
      × (frames_of t ≤ vec_capacity m) × HasRoomFor (hold v p) m × SameWork v w
      × MapStep p (out_hold (map entry_of m.items) (hold v p)) v w × AreBelow (frames_of t) m.items
      × DidMap (map_out (map entry_of m.items)) p v w
  WentOutAs d t (place.Of (Lane q)) (value.Lane l) v w = (l.call ≡ lane_call.Untouched)
      × (l.number ≡ q) × IsTakenFrom (lane_devices_of d) t q l.device
      × (w ≡ out_view q (taken_at (lane_devices_of d) t q l.device) v)
      × DidSteps (out_events q (taken_at (lane_devices_of d) t q l.device)) v w
  WentOutAs d t (place.Of Log) (value.Log g) v w = (g.call ≡ log_call.Untouched)
      × (record_size ≤ vec_capacity g.buffer) × LogWent d.bytes d.synced d.log_faults d.log_calls g
      v w
  WentOutAs d t x y v w = ⊥

  -- It may come back as this value
  abbrev pub MayReturnAs : Devices L G → FrameTable L G → Seat (Value L G) View → Place → Value L G
      → Type 0
  MayReturnAs d t s (place.Page f) (value.Page p) = CanStep t s f × MayReturnPage p (link s.me.0 f)
  MayReturnAs d t s (place.Of (Partition p)) (value.Map m) = CanTurn t s (Partition p)
      × AreApart m.items × (frames_of t ≤ vec_capacity m)
      × MayComeBack (map entry_of m.items) p s.me.0
  MayReturnAs d t s (place.Of (Lane q)) (value.Lane l) = CanTurn t s (Lane q)
      × MayReturnTo (lane_devices_of d) t q s.me.0 l
  MayReturnAs d t s (place.Of Log) (value.Log g) = CanTurn t s Log
      × (record_size ≤ vec_capacity g.buffer) × MayComeHome d.bytes d.synced d.log_faults
      d.log_calls (relations_of t) g s.me.0
  MayReturnAs d t s x y = ⊥

  -- as the value came back the view v became w
  abbrev pub CameBackAs : Devices L G → Place → Value L G → View → View → Type 0
  CameBackAs d (place.Page f) (value.Page p) v w = Touches f v w × SameMarks v w
      × (link w f ≡ returned_link p (link v f))
      × ((found : ℕ) × ReturnsBy (overwriting (link v f)) f v w found)
  CameBackAs d (place.Of (Partition p)) (value.Map m) v w = SameWork v w
      × MapStep p (back_hold (map entry_of m.items) (hold v p)) v w
      × ComesBack (map entry_of m.items) p v w (hold v p).change
  CameBackAs d (place.Of (Lane q)) (value.Lane l) v w =
      (w ≡ back_view (lane_devices_of d) q l.device l.call v)
      × DidSteps (back_events (lane_devices_of d) q l.device l.call) v w
  CameBackAs d (place.Of Log) (value.Log g) v w = (w ≡ view_home g.call v)
      × LogCame d.bytes d.synced d.log_faults d.log_calls g v w
  CameBackAs d x y v w = ⊥
