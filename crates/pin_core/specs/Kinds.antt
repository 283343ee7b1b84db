-- The kinds of step at a frame: when each is allowed, and what it makes of the frame and of what
-- the stepping view has there.
use Rattle.std.specs.Prelude.{◌≡◌, ◌≢◌, ℕ, ◌+◌, ◌<◌, Bool, true, false, List, [], ◌∷◌, ◌++◌, map}
use Rattle.std.specs.Prelude.{slice_set, Option, Some, None, nat_eq, not, ◌||◌, ◌&&◌, if◌then◌else◌}
use Rattle.state_word.specs.declared.word.StateWord.{StateWord}
use Rattle.state_word.specs.Fields.{pinned_fields, unpinned_fields, locked_fields, unlocked_fields}
use Rattle.state_word.specs.Fields.{assigned_fields, cleared_fields, usage_down_fields}
use Rattle.pin_core.specs.declared.view.Role.{Role}
use Rattle.pin_core.specs.declared.view.Role.TheVariants.{Absent, HandedOut, Victim}
use Rattle.pin_core.specs.declared.view.Content.TheVariants.{Unlocked}
use Rattle.pin_core.specs.declared.view.Io.TheVariants.{Quiet}
use Rattle.pin_core.specs.declared.view.MapChange.{MapChange}
use Rattle.pin_core.specs.declared.view.MapChange.TheVariants.{Stable, Entering, Leaving}
use Rattle.pin_core.specs.declared.view.PartitionHold.{PartitionHold}
use Rattle.pin_core.specs.declared.view.LoadedWord.{LoadedWord}
use Rattle.pin_core.specs.declared.view.LoadedWord.TheVariants as seen
use Rattle.pin_core.specs.declared.view.Load.{Load}
use Rattle.pin_core.specs.declared.view.WordChange.{WordChange}
use Rattle.pin_core.specs.declared.view.Resident.{Resident}
use Rattle.pin_core.specs.declared.view.Link.{Link}
use Rattle.pin_core.specs.declared.view.View.{View}
use Rattle.pin_core.specs.State.{Frame, Partition, no_tag, is_tag, hold, is_pin}
use Rattle.grid.specs.Shape.{put}

-- The kinds of step at a frame
pub data Kind : Type 0 where
  -- a load of the state word (`pg_atomic_read_u32`); a compare-exchange that fails and a header
  -- lock that isn't got are such loads
  load_state : Kind
  -- a pin of a frame that has BM_TAG_VALID, for a ring or not (`PinBuffer`)
  pin : Bool → Kind
  -- a pin of the frame that the map gives for the tag, for a ring or not, under the latch of the
  -- tag's partition (`BufferAlloc`, if the block is found)
  pin_mapped : ℕ → Bool → Kind
  -- the backend's pin is given up (`UnpinBuffer`)
  unpin : Kind
  -- the header is locked (`LockBufHdr`)
  lock_header : Kind
  -- the header is unlocked, the word as it was (`UnlockBufHdr`)
  unlock_header : Kind
  -- under the header a frame without a tag is given one (`BufferAlloc`)
  store_tag : ℕ → Kind
  -- under the header a frame without a tag is given that of a new block (`ExtendBufferedRelShared`)
  store_new_tag : ℕ → Kind
  -- under the header a frame's tag is taken away (`InvalidateVictimBuffer`: `ClearBufferTag`)
  erase_tag : Kind
  -- a load of the tag word
  load_tag : Kind
  -- the frame that the clock sweep chose is pinned, and its header unlocked (`GetVictimBuffer`:
  -- `PinBuffer_Locked`)
  pin_victim : Kind
  -- the clock sweep passes the frame: its usage count falls, and its header is unlocked
  -- (`StrategyGetBuffer`)
  lower_usage : Kind
  -- a frame whose tag was stored gets BM_TAG_VALID, and its header is unlocked (`BufferAlloc`)
  assign : Kind
  -- a frame whose tag was taken away loses its flags, and its header is unlocked
  -- (`InvalidateVictimBuffer`)
  clear : Kind

-- whether a pin has seen BM_VALID after a load of the state word: it learns nothing between a store
-- of the tag word and the frame's being assigned or cleared
abbrev pub seen_valid_after : Bool → Role → Bool → Bool → Bool
seen_valid_after true role valid saw = saw
seen_valid_after false Absent valid saw = saw
seen_valid_after false HandedOut valid saw = valid || saw
seen_valid_after false Victim valid saw = valid || saw

-- the tag that a pin remembers after a load of the tag word: it learns nothing between a store of
-- the tag word and the frame's being assigned or cleared
abbrev pub tag_after : Bool → Role → ℕ → Option ℕ → Option ℕ
tag_after true role tag known = known
tag_after false Absent tag known = known
tag_after false HandedOut tag known = if nat_eq tag no_tag then known else Some tag
tag_after false Victim tag known = if nat_eq tag no_tag then known else Some tag

-- a wait goes on while the word has BM_PIN_COUNT_WAITER and the waiter's number
abbrev pub wait_after : StateWord → Option ℕ → Option ℕ
wait_after w None = None
wait_after w (Some number) = if w.awaited && nat_eq w.waiter number then Some number else None

-- A backend may pin a frame by its state word (`PinBuffer`)
pub record CanPin (fr : Frame) (l : Link) : Type 0 where
  -- no backend holds the buffer header (BM_LOCKED is clear)
  pub unlocked : fr.word.locked ≡ false
  -- the backend has no pin there
  pub absent : l.role ≡ Absent
  -- BM_TAG_VALID is set
  pub tagged : fr.word.tag_valid ≡ true

-- A backend may pin the frame that the map gives for a tag (`BufferAlloc`). That the map gives it
-- is asked by `AllowedAround`
pub record CanPinMapped (fr : Frame) (l : Link) : Type 0 where
  -- no backend holds the buffer header (BM_LOCKED is clear)
  pub unlocked : fr.word.locked ≡ false
  -- the backend has no pin there
  pub absent : l.role ≡ Absent

-- A backend may give its pin up (`UnpinBuffer`): it has nothing else at the frame
pub record CanUnpin (fr : Frame) (l : Link) : Type 0 where
  -- no backend holds the buffer header (BM_LOCKED is clear)
  pub unlocked : fr.word.locked ≡ false
  -- the backend pins the frame
  pub pinned : l.role ≢ Absent
  -- the backend has no content lock there
  pub no_content : l.content ≡ Unlocked
  -- the backend has no input or output right there
  pub no_io : l.io ≡ Quiet
  -- the backend doesn't wait there
  pub no_wait : l.waits ≡ None
  -- the backend notes no new block there
  pub unnoted : l.noted ≡ false

-- A backend may lock the header (`LockBufHdr`). That it holds no other is asked by `AllowedAround`
pub record CanLockHeader (fr : Frame) (l : Link) : Type 0 where
  -- no backend holds the buffer header (BM_LOCKED is clear)
  pub unlocked : fr.word.locked ≡ false

-- A backend may unlock the header, the word as it was (`UnlockBufHdr`): it stored no tag word under
-- it
pub record CanUnlockHeader (fr : Frame) (l : Link) : Type 0 where
  -- the backend holds the buffer header, and knows the state word
  pub held : l.header ≡ Some fr.word
  -- no tag word that the backend stored there is still to be assigned or cleared
  pub settled : l.pending ≡ false

-- The view is alone at the frame with its victim pin, under the header, and does nothing else there
-- (with a content lock, a page that it had copied would no longer be of the frame's block)
pub record IsAlone (fr : Frame) (l : Link) : Type 0 where
  -- the backend holds the buffer header, and knows the state word
  pub held : l.header ≡ Some fr.word
  -- no tag word that the backend stored there is still to be assigned or cleared
  pub settled : l.pending ≡ false
  -- the reference count is 1
  pub single : fr.word.pins ≡ 1
  -- the backend's pin is its victim pin
  pub victim : l.role ≡ Victim
  -- the backend has no content lock there
  pub no_content : l.content ≡ Unlocked
  -- the backend has no input or output right there
  pub no_io : l.io ≡ Quiet

-- A frame without a tag may be given this one (`BufferAlloc`). That the view has the latch of the
-- tag's partition, whose map lacks the tag, is asked by `AllowedAround`
pub record CanStoreTag (tag : ℕ) (fr : Frame) (l : Link) : Type 0 where
  -- the backend's victim pin is the only pin, and the backend does nothing else there
  pub alone : IsAlone fr l
  -- the new tag word isn't all ones
  pub named : tag ≢ no_tag
  -- the new tag word is a packed buffer tag
  pub packed : is_tag tag ≡ true
  -- BM_TAG_VALID is clear
  pub untagged : fr.word.tag_valid ≡ false

-- A frame's tag may be taken away (`InvalidateVictimBuffer`). That the view has the latch of the
-- tag's partition is asked by `AllowedAround`
pub record CanEraseTag (fr : Frame) (l : Link) : Type 0 where
  -- the backend's victim pin is the only pin, and the backend does nothing else there
  pub alone : IsAlone fr l
  -- the tag word isn't all ones
  pub named : fr.tag ≢ no_tag
  -- the frame isn't dirty, unless it has a new block that wasn't added after all
  pub clean : l.noted ≡ false → fr.word.dirty ≡ false

-- A backend may load the tag word: it has a pin there, or the header
abbrev pub CanLoadTag : Role → Option StateWord → Type 0
CanLoadTag Absent header = header ≢ None
CanLoadTag HandedOut header = Unit {0}
CanLoadTag Victim header = Unit {0}

-- A backend may pin the frame that the clock sweep chose (`PinBuffer_Locked`). That it has no other
-- victim pin is asked by `AllowedAround`
pub record CanPinVictim (fr : Frame) (l : Link) : Type 0 where
  -- the backend holds the buffer header, and knows the state word
  pub held : l.header ≡ Some fr.word
  -- the backend has no pin there
  pub absent : l.role ≡ Absent
  -- if BM_TAG_VALID is clear, nobody pins the frame
  pub room : fr.word.tag_valid ≡ false → fr.word.pins ≡ 0

-- The clock sweep may lower a usage count (`StrategyGetBuffer`)
pub record CanLowerUsage (fr : Frame) (l : Link) : Type 0 where
  -- the backend holds the buffer header, and knows the state word
  pub held : l.header ≡ Some fr.word
  -- nobody pins the frame
  pub free : fr.word.pins ≡ 0
  -- the usage count isn't 0 yet
  pub used : 0 < fr.word.usage

-- A frame whose tag word was stored may get BM_TAG_VALID (`BufferAlloc`)
pub record CanAssign (fr : Frame) (l : Link) : Type 0 where
  -- the backend holds the buffer header, and knows the state word
  pub held : l.header ≡ Some fr.word
  -- the backend has stored the tag word, and not assigned the frame yet
  pub stored : l.pending ≡ true
  -- the tag word isn't all ones
  pub named : fr.tag ≢ no_tag

-- A frame whose tag word was erased may lose its flags (`InvalidateVictimBuffer`)
pub record CanClear (fr : Frame) (l : Link) : Type 0 where
  -- the backend holds the buffer header, and knows the state word
  pub held : l.header ≡ Some fr.word
  -- the backend has erased the tag word, and not cleared the frame yet
  pub erased : l.pending ≡ true
  -- the tag word is all ones
  pub unnamed : fr.tag ≡ no_tag

-- What a kind asks of the frame and of what the view has there
abbrev pub Allowed : Kind → Frame → Link → Type 0
Allowed load_state fr l = Unit {0}
Allowed (pin ring) fr l = CanPin fr l
Allowed (pin_mapped tag ring) fr l = CanPinMapped fr l
Allowed unpin fr l = CanUnpin fr l
Allowed lock_header fr l = CanLockHeader fr l
Allowed unlock_header fr l = CanUnlockHeader fr l
Allowed (store_tag tag) fr l = CanStoreTag tag fr l
Allowed (store_new_tag tag) fr l = CanStoreTag tag fr l
Allowed erase_tag fr l = CanEraseTag fr l
Allowed load_tag fr l = CanLoadTag l.role l.header
Allowed pin_victim fr l = CanPinVictim fr l
Allowed lower_usage fr l = CanLowerUsage fr l
Allowed assign fr l = CanAssign fr l
Allowed clear fr l = CanClear fr l

-- the frame once the header is given up, with this word stored
abbrev pub released : StateWord → Frame → Frame
released w fr = record fr { word = unlocked_fields w }

-- What a kind makes of the frame
abbrev pub frame_after : Kind → Frame → Frame
frame_after load_state fr = fr
frame_after (pin ring) fr = record fr { word = pinned_fields ring fr.word }
frame_after (pin_mapped tag ring) fr = record fr { word = pinned_fields ring fr.word }
frame_after unpin fr = record fr { word = unpinned_fields fr.word }
frame_after lock_header fr = record fr { word = locked_fields fr.word }
frame_after unlock_header fr = released fr.word fr
frame_after (store_tag tag) fr = record fr { tag = tag }
frame_after (store_new_tag tag) fr = record fr { tag = tag }
frame_after erase_tag fr = record fr { tag = no_tag }
frame_after load_tag fr = fr
frame_after pin_victim fr = released (record fr.word { pins = fr.word.pins + 1 }) fr
frame_after lower_usage fr = released (usage_down_fields fr.word) fr
frame_after assign fr = released (assigned_fields fr.word) fr
frame_after clear fr = released (cleared_fields fr.word) fr

-- the pin of a frame that is assigned is handed out; that of a new block stays a victim pin until
-- the growth is in the log
abbrev pub assigned_role : Bool → Role
assigned_role true = Victim
assigned_role false = HandedOut

-- What a kind makes of what the view has there
abbrev pub link_after : Kind → Frame → Link → Link
link_after load_state fr l = record l {
  seen_valid = seen_valid_after l.pending l.role fr.word.valid l.seen_valid;
  waits = wait_after fr.word l.waits;
  visited = l.visited || not fr.word.dirty;
  left_to_write = l.left_to_write && fr.word.checkpoint_needed;
}
link_after (pin ring) fr l = record l { role = HandedOut; ring = ring }
link_after (pin_mapped tag ring) fr l = record l { role = HandedOut; tag = Some tag; ring = ring }
link_after unpin fr l = record l {
  role = Absent;
  tag = None;
  seen_valid = false;
  ring = false;
  inside = false;
}
link_after lock_header fr l = record l { header = Some (locked_fields fr.word) }
link_after unlock_header fr l = record l { header = None }
link_after (store_tag tag) fr l = record l {
  tag = None;
  seen_valid = false;
  pending = true;
  inside = false;
}
link_after (store_new_tag tag) fr l = record l {
  tag = None;
  seen_valid = false;
  pending = true;
  noted = true;
  inside = false;
}
link_after erase_tag fr l = record l {
  tag = None;
  seen_valid = false;
  pending = true;
  noted = false;
  inside = false;
}
link_after load_tag fr l = record l { tag = tag_after l.pending l.role fr.tag l.tag }
link_after pin_victim fr l = record l { role = Victim; ring = false; header = None }
link_after lower_usage fr l = record l { header = None }
link_after assign fr l = record l {
  role = assigned_role l.noted;
  tag = Some fr.tag;
  header = None;
  pending = false;
}
link_after clear fr l = record l { header = None; pending = false }

-- the word that a kind loads, as it sees it
abbrev pub seen_by : Kind → ℕ → Frame → List LoadedWord
seen_by load_state f fr = seen.State f fr.word ∷ []
seen_by load_tag f fr = seen.Tag f fr.tag ∷ []
seen_by _ f fr = []

-- the changes of state words, with one more: the word of the frame f became `left`
abbrev pub changed : ℕ → Frame → StateWord → List WordChange → List WordChange
changed f fr left changes = changes ++ record { frame = f; found = fr.word; left = left } ∷ []

-- the changes of state words after a kind at the frame f
abbrev pub changes_after : Kind → ℕ → Frame → List WordChange → List WordChange
changes_after load_state f fr changes = changes
changes_after (store_tag tag) f fr changes = changes
changes_after (store_new_tag tag) f fr changes = changes
changes_after erase_tag f fr changes = changes
changes_after load_tag f fr changes = changes
changes_after k f fr changes = changed f fr (frame_after k fr).word changes

-- how many tags the view has erased after a kind
abbrev pub cleared_after : Kind → ℕ → ℕ
cleared_after erase_tag n = n + 1
cleared_after _ n = n

-- the listed blocks, with those of the frame f of which p is true marked as gone
abbrev pub seen_gone : (Resident → Bool) → ℕ → List Resident → List Resident
seen_gone p f rs
    = map (λ (r : Resident). record r { gone = r.gone || (nat_eq r.frame f && p r) }) rs

-- the block that a pin shows at the frame f, if it knows the tag and has seen BM_VALID
abbrev pub sighted : Bool → Option ℕ → ℕ → List Resident
sighted false known f = []
sighted true None f = []
sighted true (Some tag) f = record { frame = f; tag = tag; gone = false } ∷ []

-- the listed blocks after a kind: a load marks those that it shows to be gone, and adds the one
-- that the pin knows by then
abbrev pub residents_after : Kind → ℕ → Frame → Link → List Resident → List Resident
residents_after load_state f fr l rs = seen_gone (λ r. not fr.word.valid) f rs
    ++ sighted (link_after load_state fr l).seen_valid (link_after load_state fr l).tag f
residents_after load_tag f fr l rs = seen_gone (λ r. not (nat_eq r.tag fr.tag)) f rs
    ++ sighted (link_after load_tag fr l).seen_valid (link_after load_tag fr l).tag f
residents_after _ f fr l rs = rs

-- how many steps other than loads a kind is
abbrev pub steps_of : Kind → ℕ
steps_of load_state = 0
steps_of load_tag = 0
steps_of _ = 1

-- a load by the view, with what it saw
abbrev pub load_of : View → LoadedWord → Load
load_of v what = record {
  loaded_word = what;
  pins = map (λ (l : Link). is_pin l.role) v.links;
  steps = v.steps;
}

-- the pair that a kind at the frame f names in change
abbrev pub named_by : Kind → ℕ → Frame → MapChange
named_by (store_tag tag) f fr = Entering tag f
named_by (store_new_tag tag) f fr = Entering tag f
named_by erase_tag f fr = Leaving fr.tag f
named_by _ f fr = Stable

-- the partitions after the holder of a latch has named the pair
abbrev pub partitions_owing : MapChange → (ℕ → ℕ) → (ℕ → Partition) → ℕ → Partition
partitions_owing Stable partition_of parts = parts
partitions_owing (Entering tag f) partition_of parts
    = put parts (partition_of tag) (record (parts (partition_of tag)) { owed = Entering tag f })
partitions_owing (Leaving tag f) partition_of parts
    = put parts (partition_of tag) (record (parts (partition_of tag)) { owed = Leaving tag f })

-- what a view has of the latches after it has named the pair
abbrev pub holds_naming : MapChange → (ℕ → ℕ) → View → List PartitionHold
holds_naming Stable partition_of v = v.partitions
holds_naming (Entering tag f) partition_of v = slice_set v.partitions (partition_of tag)
    (record (hold v (partition_of tag)) { change = Entering tag f })
holds_naming (Leaving tag f) partition_of v = slice_set v.partitions (partition_of tag)
    (record (hold v (partition_of tag)) { change = Leaving tag f })

-- What a kind at the frame f makes of the view
abbrev pub view_after : Kind → (ℕ → ℕ) → ℕ → Frame → Link → View → View
view_after k partition_of f fr l v = record v {
  links = slice_set v.links f (link_after k fr l);
  partitions = holds_naming (named_by k f fr) partition_of v;
  loads = v.loads ++ map (load_of v) (seen_by k f fr);
  changes = changes_after k f fr v.changes;
  steps = v.steps + steps_of k;
  cleared = cleared_after k v.cleared;
  residents = residents_after k f fr l v.residents;
}
