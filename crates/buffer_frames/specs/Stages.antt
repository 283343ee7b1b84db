-- What a backend has at a frame while it brings a block there, reads its page or writes it.
use Rattle.std.specs.Prelude.{◌≡◌, ◌≢◌, ℕ, true, false, Some, None}
use Rattle.pin_core.specs.declared.view.Content.TheVariants.{Unlocked, Shared}
use Rattle.pin_core.specs.declared.view.Io.{Io}
use Rattle.pin_core.specs.declared.view.Io.TheVariants.{Input}
use Rattle.pin_core.specs.declared.view.Role.TheVariants.{Absent, HandedOut, Victim}
use Rattle.pin_core.specs.declared.view.Link.{Link}
use Rattle.pin_core.specs.declared.view.View.{View}
use Rattle.pin_core.specs.State.{link}
use Rattle.buffer_frames.specs.Rests.{HasAtMostLock, LinksRestBeside}
use Rattle.buffer_frames.specs.Tokens.{Tokens, held_at}

-- The frame f is pinned for the tag, with no token of the pin given yet
pub record Pins (tag f : ℕ) (t : Tokens) (v : View) : Type 0 where
  pub others : LinksRestBeside f t v
  pub new : held_at t f ≡ None
  pub calm : HasAtMostLock (link v f)
  pub unlocked : (link v f).content ≡ Unlocked
  pub role : (link v f).role ≡ HandedOut
  pub remembered : (link v f).tag ≡ Some tag

-- The frame f is pinned as a victim
pub record HasVictim (f : ℕ) (t : Tokens) (v : View) : Type 0 where
  pub others : LinksRestBeside f t v
  pub new : held_at t f ≡ None
  pub calm : HasAtMostLock (link v f)
  pub unlocked : (link v f).content ≡ Unlocked
  pub role : (link v f).role ≡ Victim

-- The frame f is pinned as a victim, and has this tag
pub record HasVictimOf (tag f : ℕ) (t : Tokens) (v : View) : Type 0 where
  pub victim : HasVictim f t v
  pub remembered : (link v f).tag ≡ Some tag

-- A frame is pinned for the tag, and nothing is done there
pub record IsPinned (tag : ℕ) (l : Link) : Type 0 where
  pub calm : HasAtMostLock l
  pub unlocked : l.content ≡ Unlocked
  pub pinned : l.role ≢ Absent
  pub remembered : l.tag ≡ Some tag

-- So it is, and the pin has seen BM_VALID
pub record IsPinnedValid (tag : ℕ) (l : Link) : Type 0 where
  pub pinned : IsPinned tag l
  pub seen : l.seen_valid ≡ true

-- A frame is pinned for the tag, for callers, and nothing is done there
pub record IsRead (tag : ℕ) (l : Link) : Type 0 where
  pub calm : HasAtMostLock l
  pub unlocked : l.content ≡ Unlocked
  pub role : l.role ≡ HandedOut
  pub remembered : l.tag ≡ Some tag

-- The tag's page is read into a frame: the page is home, and was not overwritten yet
pub record IsReading (tag : ℕ) (l : Link) : Type 0 where
  pub pinned : l.role ≡ HandedOut
  pub remembered : l.tag ≡ Some tag
  pub unlocked : l.content ≡ Unlocked
  pub right : l.io ≡ Input
  pub fresh : l.overwritten ≡ None
  pub home : l.out ≡ None
  pub no_header : l.header ≡ None
  pub no_copy : l.copying ≡ false
  pub applied : l.unapplied ≡ false
  pub assigned : l.pending ≡ false
  pub no_wait : l.waits ≡ None

-- The content lock of a frame that is pinned for the tag is shared, the page is home, and there is
-- this right
pub record IsSharing (io : Io) (tag : ℕ) (l : Link) : Type 0 where
  pub pinned : l.role ≢ Absent
  pub remembered : l.tag ≡ Some tag
  pub shared : l.content ≡ Shared
  pub seen : l.seen_valid ≡ true
  pub right : l.io ≡ io
  pub home : l.out ≡ None
  pub no_header : l.header ≡ None
  pub no_copy : l.copying ≡ false
  pub applied : l.unapplied ≡ false
  pub assigned : l.pending ≡ false
  pub no_wait : l.waits ≡ None
