-- What holds of frames whose blocks are noted as ones by which forks are to grow, and of blocks that aren't there, as steps change them.
use Rattle.std.proofs.Common.{◌≡◌, ◌≢◌, ◌⊎◌, ℕ, true, false, Some, None, refl, inl, inr, arith}
use Rattle.state_word.specs.declared.word.IoEnd.TheVariants.{ReadOk, WriteOk, Bad}
use Rattle.pin_core.specs.declared.view.Io.TheVariants.{Quiet, Input}
use Rattle.pin_core.specs.declared.view.Link.{Link}
use Rattle.pin_core.specs.State.{Frame, Page}
use Rattle.pin_core.specs.Tallies as pins
use Rattle.pin_core.specs.Invariant.{FrameLaw, LinkLaw}
use Rattle.pin_core.specs.Kinds as pin_kinds
use Rattle.page_core.specs.State.{Block}
use Rattle.page_core.specs.Invariant.{PageLink, NotedPage}
use Rattle.page_core.specs.Kinds.{Kind, load_content, mark_dirty, share, exclude, unshare, unexclude, take_copy, leave_copy, page_out, overwrite_logged, overwrite_read, page_back, note_read, note_zero, begin_write, note_write, make_entry, start_input, start_output, clear_just_dirtied, end_io, set_waiter, clear_waiter, need_checkpoint, Allowed, frame_after, link_after}

-- what a view notes of a frame, after a step of its own
pub noted_own : (k : Kind) (b : Block) (fr : Frame) (l : Link) → Allowed k b fr l → PageLink b fr l → b.logged ≡ None → l.noted ≡ true → NotedPage fr l → NotedPage (frame_after k b fr) (link_after k b fr l)
noted_own load_content b fr l a c e n h = grind (arith, h)
noted_own mark_dirty b fr l a c e n h = grind (arith, h)
noted_own share b fr l a c e n h = grind (arith, h)
noted_own exclude b fr l a c e n h = grind (arith, h)
noted_own unshare b fr l a c e n h = grind (arith, h)
noted_own unexclude b fr l a c e n h = grind (arith, h)
noted_own take_copy b fr l a c e n h = grind (arith, h)
noted_own leave_copy b fr l a c e n h = grind (arith, h)
noted_own page_out b fr l a c e n h = grind (arith, h)
noted_own overwrite_logged b fr l a c e n h = absurd ((c.unapplied a.unapplied).is_known e)
noted_own (overwrite_read p) b fr l a c e n h = grind (arith, h, a)
noted_own page_back b fr l a c e n h = grind (arith, h)
noted_own (note_read p) b fr l a c e n h = grind (arith, h, a, n)
noted_own note_zero b fr l a c e n h = grind (arith, h, a, n)
noted_own begin_write b fr l a c e n h = grind (arith, h)
noted_own (note_write done) b fr l a c e n h = grind (arith, h)
noted_own (make_entry p) b fr l a c e n h = grind (arith, h)
noted_own start_input b fr l a c e n h = grind (arith, h)
noted_own start_output b fr l a c e n h = grind (arith, h)
noted_own clear_just_dirtied b fr l a c e n h = grind (arith, h)
noted_own (end_io ReadOk) b fr l a c e n h = grind (arith, h, a, c)
noted_own (end_io WriteOk) b fr l a c e n h = grind (arith, h)
noted_own (end_io Bad) b fr l a c e n h = grind (arith, h)
noted_own (set_waiter number) b fr l a c e n h = grind (arith, h)
noted_own clear_waiter b fr l a c e n h = grind (arith, h)
noted_own need_checkpoint b fr l a c e n h = grind (arith, h)

-- what a view notes of a frame, after a step of another view, which has no input right there
pub noted_other : (k : Kind) (b : Block) (fr : Frame) (l m : Link) → Allowed k b fr l → PageLink b fr l → b.logged ≡ None → l.io ≢ Input → NotedPage fr m → NotedPage (frame_after k b fr) m
noted_other load_content b fr l m a c e n h = grind (arith, h)
noted_other mark_dirty b fr l m a c e n h = grind (arith, h)
noted_other share b fr l m a c e n h = grind (arith, h)
noted_other exclude b fr l m a c e n h = grind (arith, h)
noted_other unshare b fr l m a c e n h = grind (arith, h)
noted_other unexclude b fr l m a c e n h = grind (arith, h)
noted_other take_copy b fr l m a c e n h = grind (arith, h)
noted_other leave_copy b fr l m a c e n h = grind (arith, h)
noted_other page_out b fr l m a c e n h = grind (arith, h)
noted_other overwrite_logged b fr l m a c e n h = absurd ((c.unapplied a.unapplied).is_known e)
noted_other (overwrite_read p) b fr l m a c e n h = absurd (n a.right)
noted_other page_back b fr l m a c e n h = grind (arith, h)
noted_other (note_read p) b fr l m a c e n h = grind (arith, h)
noted_other note_zero b fr l m a c e n h = grind (arith, h)
noted_other begin_write b fr l m a c e n h = grind (arith, h)
noted_other (note_write done) b fr l m a c e n h = grind (arith, h)
noted_other (make_entry p) b fr l m a c e n h = grind (arith, h)
noted_other start_input b fr l m a c e n h = grind (arith, h)
noted_other start_output b fr l m a c e n h = grind (arith, h)
noted_other clear_just_dirtied b fr l m a c e n h = grind (arith, h)
noted_other (end_io ReadOk) b fr l m a c e n h = absurd (n a.ends.right)
noted_other (end_io WriteOk) b fr l m a c e n h = grind (arith, h)
noted_other (end_io Bad) b fr l m a c e n h = grind (arith, h)
noted_other (set_waiter number) b fr l m a c e n h = grind (arith, h)
noted_other clear_waiter b fr l m a c e n h = grind (arith, h)
noted_other need_checkpoint b fr l m a c e n h = grind (arith, h)

-- a view has an input right after a step only if it had one, or starts input
pub input_was : (k : Kind) (b : Block) (fr : Frame) (l : Link) → (link_after k b fr l).io ≡ Input → (l.io ≡ Input) ⊎ (k ≡ start_input)
input_was start_input b fr l e = inr refl
input_was start_output b fr l e = absurd (cc)
input_was (end_io end) b fr l e = absurd (cc)
input_was load_content b fr l e = inl e
input_was mark_dirty b fr l e = inl e
input_was share b fr l e = inl e
input_was exclude b fr l e = inl e
input_was unshare b fr l e = inl e
input_was unexclude b fr l e = inl e
input_was take_copy b fr l e = inl e
input_was leave_copy b fr l e = inl e
input_was page_out b fr l e = inl e
input_was overwrite_logged b fr l e = inl e
input_was (overwrite_read p) b fr l e = inl e
input_was page_back b fr l e = inl e
input_was (note_read p) b fr l e = inl e
input_was note_zero b fr l e = inl e
input_was begin_write b fr l e = inl e
input_was (note_write done) b fr l e = inl e
input_was (make_entry p) b fr l e = inl e
input_was clear_just_dirtied b fr l e = inl e
input_was (set_waiter number) b fr l e = inl e
input_was clear_waiter b fr l e = inl e
input_was need_checkpoint b fr l e = inl e

-- The kinds of `pin_core` leave the page; if another view notes the frame, they leave BM_VALID or
-- take it away
pub noted_below : (k : pin_kinds.Kind) (b : Block) (fr : Frame) (l m : Link) (t : pins.Tally → ℕ) → pin_kinds.Allowed k fr l → FrameLaw fr t → LinkLaw fr l → NotedPage fr m → NotedPage (pin_kinds.frame_after k fr) m
noted_below pin_kinds.load_state b fr l m t a q c h = h
noted_below (pin_kinds.pin ring) b fr l m t a q c h = grind (arith, h)
noted_below (pin_kinds.pin_mapped tag ring) b fr l m t a q c h = grind (arith, h)
noted_below pin_kinds.unpin b fr l m t a q c h = grind (arith, h)
noted_below pin_kinds.lock_header b fr l m t a q c h = grind (arith, h)
noted_below pin_kinds.unlock_header b fr l m t a q c h = grind (arith, h)
noted_below (pin_kinds.store_tag tag) b fr l m t a q c h = grind (arith, h)
noted_below (pin_kinds.store_new_tag tag) b fr l m t a q c h = grind (arith, h)
noted_below pin_kinds.erase_tag b fr l m t a q c h = grind (arith, h)
noted_below pin_kinds.load_tag b fr l m t a q c h = h
noted_below pin_kinds.pin_victim b fr l m t a q c h = grind (arith, h)
noted_below pin_kinds.lower_usage b fr l m t a q c h = grind (arith, h)
noted_below pin_kinds.assign b fr l m t a q c h = grind (arith, h, a)
noted_below pin_kinds.clear b fr l m t a q c h = grind (arith, h, a)

-- what a kind of `pin_core` leaves of a view's own page noted as read, and of its input right
pub read_below : (k : pin_kinds.Kind) (fr : Frame) (l : Link) → (pin_kinds.link_after k fr l).read ≡ l.read
read_below pin_kinds.load_state fr l = refl
read_below (pin_kinds.pin ring) fr l = refl
read_below (pin_kinds.pin_mapped tag ring) fr l = refl
read_below pin_kinds.unpin fr l = refl
read_below pin_kinds.lock_header fr l = refl
read_below pin_kinds.unlock_header fr l = refl
read_below (pin_kinds.store_tag tag) fr l = refl
read_below (pin_kinds.store_new_tag tag) fr l = refl
read_below pin_kinds.erase_tag fr l = refl
read_below pin_kinds.load_tag fr l = refl
read_below pin_kinds.pin_victim fr l = refl
read_below pin_kinds.lower_usage fr l = refl
read_below pin_kinds.assign fr l = refl
read_below pin_kinds.clear fr l = refl

pub io_below : (k : pin_kinds.Kind) (fr : Frame) (l : Link) → (pin_kinds.link_after k fr l).io ≡ l.io
io_below pin_kinds.load_state fr l = refl
io_below (pin_kinds.pin ring) fr l = refl
io_below (pin_kinds.pin_mapped tag ring) fr l = refl
io_below pin_kinds.unpin fr l = refl
io_below pin_kinds.lock_header fr l = refl
io_below pin_kinds.unlock_header fr l = refl
io_below (pin_kinds.store_tag tag) fr l = refl
io_below (pin_kinds.store_new_tag tag) fr l = refl
io_below pin_kinds.erase_tag fr l = refl
io_below pin_kinds.load_tag fr l = refl
io_below pin_kinds.pin_victim fr l = refl
io_below pin_kinds.lower_usage fr l = refl
io_below pin_kinds.assign fr l = refl
io_below pin_kinds.clear fr l = refl

-- a kind of `pin_core` notes a frame only if it stores the tag of the new block
pub noted_was : (k : pin_kinds.Kind) (fr : Frame) (l : Link) → (pin_kinds.link_after k fr l).noted ≡ true → (l.noted ≡ true) ⊎ ((tag : ℕ) × (k ≡ pin_kinds.store_new_tag tag))
noted_was pin_kinds.load_state fr l e = inl e
noted_was (pin_kinds.pin ring) fr l e = inl e
noted_was (pin_kinds.pin_mapped tag ring) fr l e = inl e
noted_was pin_kinds.unpin fr l e = inl e
noted_was pin_kinds.lock_header fr l e = inl e
noted_was pin_kinds.unlock_header fr l e = inl e
noted_was (pin_kinds.store_tag tag) fr l e = inl e
noted_was (pin_kinds.store_new_tag tag) fr l e = inr (tag, refl)
noted_was pin_kinds.erase_tag fr l e = absurd (cc)
noted_was pin_kinds.load_tag fr l e = inl e
noted_was pin_kinds.pin_victim fr l e = inl e
noted_was pin_kinds.lower_usage fr l e = inl e
noted_was pin_kinds.assign fr l e = inl e
noted_was pin_kinds.clear fr l e = inl e

-- A frame that is given the tag of a new block isn't valid, and the view has no page noted as read there
pub noted_new : (tag : ℕ) (b : Block) (fr : Frame) (l : Link) (t : pins.Tally → ℕ) → pin_kinds.Allowed (pin_kinds.store_new_tag tag) fr l → FrameLaw fr t → PageLink b fr l → NotedPage (pin_kinds.frame_after (pin_kinds.store_new_tag tag) fr) (pin_kinds.link_after (pin_kinds.store_new_tag tag) fr l)
noted_new tag b fr l t a q c = record { valid = λ e. absurd (never fr t q a.untagged e); read = λ p e. absurd (unread b fr l p c a.alone.no_io e) }
  where
    never : (fr : Frame) (t : pins.Tally → ℕ) → FrameLaw fr t → fr.word.tag_valid ≡ false → fr.word.valid ≡ true → ⊥
    never fr t q e f = grind (arith, q, e, f)

    unread : (b : Block) (fr : Frame) (l : Link) (p : Page) → PageLink b fr l → l.io ≡ Quiet → l.read ≡ Some p → ⊥
    unread b fr l p c e f = let r = c.read p f in let right = r.right in cc
