-- What seats have between the steps of a test.
use Rattle.std.specs.Prelude.{◌≡◌, ℕ, false, []}
use Rattle.atomic_table.specs.declared.shared.Seat.{Seat}
use Rattle.pin_core.specs.declared.view.View.{View}
use Rattle.pin_core.specs.Steps.{HoldsNothing}
use Rattle.table_rule.specs.declared.value.Value.{Value}
use Rattle.frame_table.specs.declared.table.FrameTable.{FrameTable}
use Rattle.frame_table.specs.Seats.{Fits}
use Rattle.buffer_frames.specs.Rests.{OnlyTokens}
use Rattle.buffer_frames.specs.Tokens.{no_tokens}

module _ {L G : Type 0} where
  abbrev pub backends_of : FrameTable L G → ℕ
  backends_of t = t.table.shared.key.config.passes

  -- The seat is one of the table, and holds nothing
  pub record SeatHoldsNothing (t : FrameTable L G) (s : Seat (Value L G) View) : Type 0 where
    pub fits : Fits t s
    pub live : s.me.0.emptied ≡ false
    pub hand : s.me.1 ≡ []
    pub free : HoldsNothing s.me.0

  -- The seat is one of the table, and its backend has no pin and no latch, and took no partition's
  pub record IsFresh (t : FrameTable L G) (s : Seat (Value L G) View) : Type 0 where
    pub fits : Fits t s
    pub hand : s.me.1 ≡ []
    pub rests : OnlyTokens no_tokens s.me.0
    pub turns : s.me.0.turns ≡ 0

  -- after a call the seat is the one before it, and its backend took no seat in or out
  pub record KeepsSeat (s s' : Seat (Value L G) View) : Type 0 where
    pub table : s'.table_id ≡ s.table_id
    pub id : s'.id ≡ s.id
    pub joined : s'.me.0.joined ≡ s.me.0.joined
    pub next : s'.me.0.next ≡ s.me.0.next
