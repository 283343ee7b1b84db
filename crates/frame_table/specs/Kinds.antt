-- The kinds of step at a frame, of pins and of pages, as one.
use Rattle.std.specs.Prelude.{ℕ}
use Rattle.pin_core.specs.declared.view.View.{View}
use Rattle.pin_core.specs.declared.view.Link.{Link}
use Rattle.pin_core.specs.State.{Frame, link}
use Rattle.pin_core.specs.Kinds as pin
use Rattle.pin_core.specs.Steps as pin_steps
use Rattle.page_core.specs.State as page
use Rattle.page_core.specs.State.{Block, block_of}
use Rattle.page_core.specs.Kinds as paged
use Rattle.page_core.specs.Steps as page_steps
use Rattle.history_core.specs.State.{State}
use Rattle.history_core.specs.Steps.{Event, pool, IsPlain}

-- which of a frame's words a step is at
pub data FrameWord : Type 0 where
  state_word : FrameWord
  tag_word : FrameWord
  content_word : FrameWord

pub data FrameKind : Type 0 where
  pins : pin.Kind → FrameKind
  pages : paged.Kind → FrameKind

abbrev pub pin_word : pin.Kind → FrameWord
pin_word pin.load_tag = tag_word
pin_word (pin.store_tag tag) = tag_word
pin_word (pin.store_new_tag tag) = tag_word
pin_word pin.erase_tag = tag_word
pin_word _ = state_word

abbrev pub page_word : paged.Kind → FrameWord
page_word paged.mark_dirty = state_word
page_word paged.start_input = state_word
page_word paged.start_output = state_word
page_word paged.clear_just_dirtied = state_word
page_word (paged.end_io end) = state_word
page_word (paged.set_waiter number) = state_word
page_word paged.clear_waiter = state_word
page_word paged.need_checkpoint = state_word
page_word _ = content_word

abbrev pub part_of : FrameKind → FrameWord
part_of (pins k) = pin_word k
part_of (pages k) = page_word k

-- a load of the word
abbrev pub load_kind : FrameWord → FrameKind
load_kind state_word = pins pin.load_state
load_kind tag_word = pins pin.load_tag
load_kind content_word = pages paged.load_content

-- what is known of the block of the frame f
abbrev pub block_of_frame : State → ℕ → Block
block_of_frame s f = block_of s.pool.logged (s.pool.core.frame f).tag

-- When a kind is allowed, by the frame f and by what the view v has there
abbrev pub IsAllowed : FrameKind → State → ℕ → View → Type 0
IsAllowed (pins k) s f v = pin.Allowed k (s.pool.core.frame f) (link v f)
IsAllowed (pages k) s f v = IsPlain k × paged.Allowed k (block_of_frame s f) (s.pool.core.frame f)
    (link v f)

-- when a kind is allowed, by the whole view, and the partitions
abbrev pub IsAllowedAround : FrameKind → State → ℕ → View → Type 0
IsAllowedAround (pins k) s f v = pin_steps.AllowedAround k s.pool.core v f
IsAllowedAround (pages k) s f v = page_steps.AllowedAround k s.pool v f

-- What a kind makes of the frame f
abbrev pub frame_after : FrameKind → State → ℕ → Frame
frame_after (pins k) s f = pin.frame_after k (s.pool.core.frame f)
frame_after (pages k) s f = paged.frame_after k (block_of_frame s f) (s.pool.core.frame f)

-- what a kind makes of what the view v has at the frame f
abbrev pub link_after : FrameKind → State → ℕ → View → Link
link_after (pins k) s f v = pin.link_after k (s.pool.core.frame f) (link v f)
link_after (pages k) s f v = paged.link_after k (block_of_frame s f) (s.pool.core.frame f)
    (link v f)

-- what a kind at the frame f makes of the whole view
abbrev pub view_after : FrameKind → State → ℕ → View → View
view_after (pins k) s f v = pin.view_after k s.pool.core.partition_of f (s.pool.core.frame f)
    (link v f) v
view_after (pages k) s f v = paged.view_after k f (block_of_frame s f) (s.pool.core.frame f)
    (link v f) v

-- the state after a step of the kind at the frame f by backend i, whose view is v
abbrev pub pool_after : FrameKind → State → ℕ → ℕ → View → page.State
pool_after (pins k) s i f v = record s.pool { core = pin_steps.state_after k s.pool.core i f v }
pool_after (pages k) s i f v = page_steps.state_after k s.pool i f v

abbrev pub state_after : FrameKind → State → ℕ → ℕ → View → State
state_after k s i f v = record s { pool = pool_after k s i f v }

-- the event that it is
abbrev pub event_of : FrameKind → ℕ → ℕ → Event
event_of (pins k) i f = pool (page_steps.pins_and_maps (pin_steps.at i f k))
event_of (pages k) i f = pool (page_steps.at i f k)
