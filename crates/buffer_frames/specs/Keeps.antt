-- What a backend has as a call begins, and what every call keeps.
use Rattle.std.specs.Prelude.{◌≡◌, ℕ, Option, Some, None}
use Rattle.atomic_table.specs.declared.shared.Seat.{Seat}
use Rattle.pin_core.specs.declared.view.View.{View}
use Rattle.table_rule.specs.declared.value.Value.{Value}
use Rattle.frame_table.specs.declared.table.FrameTable.{FrameTable}
use Rattle.frame_table.specs.Seats.{OnlyRises, SameSeat}
use Rattle.buffer_frames.specs.Rests.{HasNoLatch, HasOneLatch, LinksRest, SameLocks, Stands}
use Rattle.buffer_frames.specs.Tokens.{Tokens}

-- The latches of partitions that are held: none, or this one
abbrev pub HasLatch : Option ℕ → View → Type 0
HasLatch None = HasNoLatch
HasLatch (Some p) = HasOneLatch p

module _ {L G : Type 0} where
  -- A backend between two steps of a call: it has what its callers' tokens say, and no latch
  pub record IsReady (t : FrameTable L G) (held : Tokens) (s : Seat (Value L G) View) : Type 0 where
    pub stands : Stands t s
    pub rests : LinksRest held s.me.0
    pub latches : HasNoLatch s.me.0

  -- The seat is the same one, and its view but for what `but` leaves out of it; its content locks
  -- are as they were, and what only rises hasn't fallen
  pub record SameBut (but : View → View) (s s' : Seat (Value L G) View) : Type 0 where
    pub seat : SameSeat s s'
    pub same : but s'.me.0 ≡ but s.me.0
    pub rises : OnlyRises s.me.0 s'.me.0
    pub locks : SameLocks s.me.0 s'.me.0

  -- What a call keeps of a seat and its view: all of the view but what `but` leaves out of it, the
  -- content locks, and what only rises. This latch is held then, or none
  pub record Keeps (but : View → View) (latch : Option ℕ) (t : FrameTable L G)
      (s s' : Seat (Value L G) View) : Type 0 where
    pub seat : SameSeat s s'
    pub stands : Stands t s'
    pub same : but s'.me.0 ≡ but s.me.0
    pub rises : OnlyRises s.me.0 s'.me.0
    pub locks : SameLocks s.me.0 s'.me.0
    pub latches : HasLatch latch s'.me.0
