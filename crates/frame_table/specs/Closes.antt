-- What a table gives as it is closed.
use Rattle.std.specs.Prelude.{◌≡◌, ◌≢◌, ◌+◌, ℕ, false, List, [], length, Option}
use mathlib.Core.Option.{some}
use lib.ListN.{get_elem?}
use Rattle.atomic_table.specs.declared.shared.Seat.{Seat}
use Rattle.pin_core.specs.declared.view.View.{View}
use Rattle.pin_core.specs.State.{emptied_view}
use Rattle.pin_core.specs.Steps.{HoldsNothing}
use Rattle.history_core.specs.State.{State, stored_upto, synced_upto}
use Rattle.history_core.specs.Laws.{Laws}
use Rattle.block_tag.specs.declared.tag.Tag.{Tag}
use Rattle.table_rule.specs.declared.opening.Opening.{Opening}
use Rattle.table_rule.specs.declared.value.Value.{Value}
use Rattle.table_rule.specs.Shows.{Devices, IsPlaced, IsLane, IsLog, KeepsOpening, lane_opened}
use Rattle.frame_table.specs.declared.table.FrameTable.{FrameTable}
use Rattle.frame_table.specs.Seats.{Fits}

module _ {L G : Type 0} where
  -- The seat may close the table: it is the first backend's, which holds nothing, and all others
  -- are joined into it
  pub record CanClose (t : FrameTable L G) (s : Seat (Value L G) View) : Type 0 where
    pub fits : Fits t s
    pub first : s.id ≡ 0
    pub hand : s.me.1 ≡ []
    pub live : s.me.0.emptied ≡ false
    pub free : HoldsNothing s.me.0
    pub joined : s.me.0.joined + 1 ≡ s.me.0.next

  -- The lanes and the log are the devices of a state that has the law, in which the first backend's
  -- view is v and the others are joined into it
  pub record Closes (d : Devices L G) (o : Opening L G) (v : View) (lanes : List L) (log : G) :
      Type 0 where
    pub state : State
    pub laws : Laws state
    pub opened : KeepsOpening d o state
    pub first : get_elem? state.pool.core.views 0 ≡ some v
    pub others : (i : ℕ) (u : View) → i ≢ 0 → get_elem? state.pool.core.views i ≡ some u
        → u ≡ emptied_view
    pub counted : length lanes ≡ o.config.lanes
    pub lane : (q : ℕ) (l : L) → get_elem? lanes q ≡ some l
        → IsLane d o.catalog.value state.lanes q (lane_opened d o q) l (state.lane q)
    -- if a lane's own list doesn't have a block, the lane was synced since it took the last of the
    -- block's entries that it has
    pub covered : (q word : ℕ) (l : L) (tag : Tag) → get_elem? lanes q ≡ some l
        → IsPlaced o.catalog.value state.lanes q word tag → d.unsynced l tag ≡ false
        → synced_upto state word ≡ stored_upto state word
    -- None, or Some of where the log ended as a call of it failed
    pub mark : Option ℕ
    pub device : IsLog d log mark state.device
