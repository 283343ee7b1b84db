-- What a backend has between two calls, and what a call keeps of its view.
use Rattle.std.specs.Prelude.{◌≡◌, ◌≢◌, ℕ, true, false, [], Option, Some, None, option_map}
use Rattle.atomic_table.specs.declared.shared.Seat.{Seat}
use Rattle.pin_core.specs.declared.view.View.{View}
use Rattle.pin_core.specs.declared.view.Link.{Link}
use Rattle.pin_core.specs.declared.view.Role.{Role}
use Rattle.pin_core.specs.declared.view.Role.TheVariants.{Absent, HandedOut}
use Rattle.pin_core.specs.declared.view.Content.TheVariants.{Unlocked}
use Rattle.pin_core.specs.declared.view.Io.TheVariants.{Quiet}
use Rattle.pin_core.specs.declared.view.MapChange.TheVariants.{Stable}
use Rattle.pin_core.specs.State.{hold, lane_hold, link, no_log, no_partition}
use Rattle.table_rule.specs.declared.value.Value.{Value}
use Rattle.frame_table.specs.declared.table.FrameTable.{FrameTable}
use Rattle.frame_table.specs.Seats.{Fits}
use Rattle.buffer_frames.specs.Tokens.{HeldFrame, Tokens, held_at}

-- What calls of a backend keep of its view: all but what it has of frames, latches, lanes and the
-- log, what it lists and counts of loads, changes and steps, the positions of the log that it has
-- seen, its calls of devices, the faults that it met, whether it saw the log down, and what it last
-- wrote. What it read and put, its front, its checkpoint and its mark are kept
abbrev pub kept_by_calls : View → View
kept_by_calls v = record v {
  links = [];
  partitions = [];
  lanes = [];
  log = no_log;
  flushed = 0;
  raised_to = 0;
  end_seen = 0;
  steps = 0;
  loads = [];
  changes = [];
  device_calls = [];
  met = record { reads = 0; writes = 0; logs = 0 };
  saw_down = false;
  had_output = false;
  last_ended = None;
  residents = [];
}

-- A backend has nothing at a frame but maybe a pin and a content lock
pub record HasAtMostLock (l : Link) : Type 0 where
  pub no_header : l.header ≡ None
  pub assigned : l.pending ≡ false
  pub no_copy : l.copying ≡ false
  pub applied : l.unapplied ≡ false
  pub no_io : l.io ≡ Quiet
  pub page_home : l.out ≡ None
  pub no_wait : l.waits ≡ None

-- the pin of a frame, by whether callers have tokens of it
abbrev pub role_of : Option HeldFrame → Role
role_of None = Absent
role_of (Some h) = HandedOut

-- A frame between two calls: pinned if callers have tokens, its tag known and BM_VALID seen, and
-- its content unlocked if they have none
pub record LinkRests (o : Option HeldFrame) (l : Link) : Type 0 where
  pub calm : HasAtMostLock l
  pub role : l.role ≡ role_of o
  pub tag : l.tag ≡ option_map HeldFrame.tag o
  pub seen : o ≢ None → l.seen_valid ≡ true
  pub unlocked : o ≡ None → l.content ≡ Unlocked

-- each frame is as it has to be between two calls
abbrev pub LinksRest : Tokens → View → Type 0
LinksRest t v = (f : ℕ) → LinkRests (held_at t f) (link v f)

-- each frame but f is as it has to be between two calls
abbrev pub LinksRestBeside : ℕ → Tokens → View → Type 0
LinksRestBeside f t v = (g : ℕ) → g ≢ f → LinkRests (held_at t g) (link v g)

-- The content locks that a view has are as they were
abbrev pub SameLocks : View → View → Type 0
SameLocks v w = (f : ℕ) → (link w f).content ≡ (link v f).content

-- Neither the log's latch nor that of a lane is held, nor a right on the size of a fork
pub record HasNoDevice (v : View) : Type 0 where
  pub live : v.emptied ≡ false
  pub free : (n : ℕ) → (lane_hold v n).held ≡ false
  pub home : (n : ℕ) → (lane_hold v n).out ≡ None
  pub sizes : v.sizes ≡ []
  pub log : v.log ≡ no_log

-- no partition's latch is held
abbrev pub HasNoLatch : View → Type 0
HasNoLatch v = (p : ℕ) → hold v p ≡ no_partition

-- The latch of the partition p alone is held, whose map is home, with no pair named
pub record HasOneLatch (p : ℕ) (v : View) : Type 0 where
  pub held : (hold v p).held ≡ true
  pub home : (hold v p).out ≡ None
  pub no_change : (hold v p).change ≡ Stable
  pub others : (q : ℕ) → q ≢ p → hold v q ≡ no_partition

-- A view between two calls: it has what its tokens say, and nothing else
pub record OnlyTokens (t : Tokens) (v : View) : Type 0 where
  pub quiet : HasNoDevice v
  pub links : LinksRest t v
  pub latches : HasNoLatch v

module _ {L G : Type 0} where
  -- The seat is one of the table, has no slot in hand, and no device's latch
  pub record Stands (t : FrameTable L G) (s : Seat (Value L G) View) : Type 0 where
    pub fits : Fits t s
    pub hand : s.me.1 ≡ []
    pub quiet : HasNoDevice s.me.0
