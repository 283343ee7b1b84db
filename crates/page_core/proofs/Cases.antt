-- What is shown kind by kind.
use Rattle.std.proofs.Common.{◌≡◌, ◌⊎◌, ℕ, Option, Some, None, sym, refl, subst, inl, inr, arith}
use Rattle.state_word.specs.declared.word.StateWord.{StateWord}
use Rattle.state_word.specs.declared.word.IoEnd.TheVariants.{ReadOk, WriteOk, Bad}
use Rattle.pin_core.specs.declared.view.Content.TheVariants.{Exclusive}
use Rattle.pin_core.specs.declared.view.Link.{Link}
use Rattle.pin_core.specs.State.{Frame, Page}
use Rattle.pin_core.specs.Kinds as pin_kinds
use Rattle.page_core.specs.State.{Block}
use Rattle.page_core.specs.Invariant.{page_part, pin_part}
use Rattle.page_core.specs.Kinds.{Kind, load_content, mark_dirty, share, exclude, unshare, unexclude, take_copy, leave_copy, page_out, overwrite_logged, overwrite_read, page_back, note_read, note_zero, begin_write, note_write, make_entry, start_input, start_output, clear_just_dirtied, end_io, set_waiter, clear_waiter, need_checkpoint, Allowed, frame_after, block_after, link_after}
use Rattle.page_core.proofs.KeepingPages as pages
use Rattle.page_core.proofs.KeepingPages.{Keeps_by, Keeps_by_pins}
use Rattle.page_core.proofs.KeepingPins as pins
use Rattle.page_core.proofs.KeepingBelow as below

pub pages_kept : (k : Kind) (b : Block) (fr : Frame) (l : Link) → Allowed k b fr l → Keeps_by page_part k b fr l
pages_kept load_content b fr l a = pages.load_content_keeps b fr l a
pages_kept mark_dirty b fr l a = pages.mark_dirty_keeps b fr l a
pages_kept share b fr l a = pages.share_keeps b fr l a
pages_kept exclude b fr l a = pages.exclude_keeps b fr l a
pages_kept unshare b fr l a = pages.unshare_keeps b fr l a
pages_kept unexclude b fr l a = pages.unexclude_keeps b fr l a
pages_kept take_copy b fr l a = pages.take_copy_keeps b fr l a
pages_kept leave_copy b fr l a = pages.leave_copy_keeps b fr l a
pages_kept page_out b fr l a = pages.page_out_keeps b fr l a
pages_kept overwrite_logged b fr l a = pages.overwrite_logged_keeps b fr l a
pages_kept (overwrite_read p) b fr l a = pages.overwrite_read_keeps b fr l p a
pages_kept page_back b fr l a = pages.page_back_keeps b fr l a
pages_kept (note_read p) b fr l a = pages.note_read_keeps b fr l p a
pages_kept note_zero b fr l a = pages.note_zero_keeps b fr l a
pages_kept begin_write b fr l a = pages.begin_write_keeps b fr l a
pages_kept (note_write done) b fr l a = pages.note_write_keeps b fr l done a
pages_kept (make_entry p) b fr l a = pages.make_entry_keeps b fr l p a
pages_kept start_input b fr l a = pages.start_input_keeps b fr l a
pages_kept start_output b fr l a = pages.start_output_keeps b fr l a
pages_kept clear_just_dirtied b fr l a = pages.clear_just_dirtied_keeps b fr l a
pages_kept (end_io ReadOk) b fr l a = pages.end_read_keeps b fr l a
pages_kept (end_io WriteOk) b fr l a = pages.end_write_keeps b fr l a
pages_kept (end_io Bad) b fr l a = pages.end_badly_keeps b fr l a
pages_kept (set_waiter number) b fr l a = pages.set_waiter_keeps b fr l number a
pages_kept clear_waiter b fr l a = pages.clear_waiter_keeps b fr l a
pages_kept need_checkpoint b fr l a = pages.need_checkpoint_keeps b fr l a

pub pins_kept : (k : Kind) (b : Block) (fr : Frame) (l : Link) → Allowed k b fr l → Keeps_by pin_part k b fr l
pins_kept load_content b fr l a = pins.load_content_keeps b fr l a
pins_kept mark_dirty b fr l a = pins.mark_dirty_keeps b fr l a
pins_kept share b fr l a = pins.share_keeps b fr l a
pins_kept exclude b fr l a = pins.exclude_keeps b fr l a
pins_kept unshare b fr l a = pins.unshare_keeps b fr l a
pins_kept unexclude b fr l a = pins.unexclude_keeps b fr l a
pins_kept take_copy b fr l a = pins.take_copy_keeps b fr l a
pins_kept leave_copy b fr l a = pins.leave_copy_keeps b fr l a
pins_kept page_out b fr l a = pins.page_out_keeps b fr l a
pins_kept overwrite_logged b fr l a = pins.overwrite_logged_keeps b fr l a
pins_kept (overwrite_read p) b fr l a = pins.overwrite_read_keeps b fr l p a
pins_kept page_back b fr l a = pins.page_back_keeps b fr l a
pins_kept (note_read p) b fr l a = pins.note_read_keeps b fr l p a
pins_kept note_zero b fr l a = pins.note_zero_keeps b fr l a
pins_kept begin_write b fr l a = pins.begin_write_keeps b fr l a
pins_kept (note_write done) b fr l a = pins.note_write_keeps b fr l done a
pins_kept (make_entry p) b fr l a = pins.make_entry_keeps b fr l p a
pins_kept start_input b fr l a = pins.start_input_keeps b fr l a
pins_kept start_output b fr l a = pins.start_output_keeps b fr l a
pins_kept clear_just_dirtied b fr l a = pins.clear_just_dirtied_keeps b fr l a
pins_kept (end_io ReadOk) b fr l a = pins.end_read_keeps b fr l a
pins_kept (end_io WriteOk) b fr l a = pins.end_write_keeps b fr l a
pins_kept (end_io Bad) b fr l a = pins.end_badly_keeps b fr l a
pins_kept (set_waiter number) b fr l a = pins.set_waiter_keeps b fr l number a
pins_kept clear_waiter b fr l a = pins.clear_waiter_keeps b fr l a
pins_kept need_checkpoint b fr l a = pins.need_checkpoint_keeps b fr l a

-- no kind of this crate changes the tag word
pub tag_kept : (k : Kind) (b : Block) (fr : Frame) → (frame_after k b fr).tag ≡ fr.tag
tag_kept load_content b fr = refl
tag_kept mark_dirty b fr = refl
tag_kept share b fr = refl
tag_kept exclude b fr = refl
tag_kept unshare b fr = refl
tag_kept unexclude b fr = refl
tag_kept take_copy b fr = refl
tag_kept leave_copy b fr = refl
tag_kept page_out b fr = refl
tag_kept overwrite_logged b fr = refl
tag_kept (overwrite_read p) b fr = refl
tag_kept page_back b fr = refl
tag_kept (note_read p) b fr = refl
tag_kept note_zero b fr = refl
tag_kept begin_write b fr = refl
tag_kept (note_write done) b fr = refl
tag_kept (make_entry p) b fr = refl
tag_kept start_input b fr = refl
tag_kept start_output b fr = refl
tag_kept clear_just_dirtied b fr = refl
tag_kept (end_io end) b fr = refl
tag_kept (set_waiter number) b fr = refl
tag_kept clear_waiter b fr = refl
tag_kept need_checkpoint b fr = refl

-- nor a pin
pub role_kept : (k : Kind) (b : Block) (fr : Frame) (l : Link) → (link_after k b fr l).role ≡ l.role
role_kept load_content b fr l = refl
role_kept mark_dirty b fr l = refl
role_kept share b fr l = refl
role_kept exclude b fr l = refl
role_kept unshare b fr l = refl
role_kept unexclude b fr l = refl
role_kept take_copy b fr l = refl
role_kept leave_copy b fr l = refl
role_kept page_out b fr l = refl
role_kept overwrite_logged b fr l = refl
role_kept (overwrite_read p) b fr l = refl
role_kept page_back b fr l = refl
role_kept (note_read p) b fr l = refl
role_kept note_zero b fr l = refl
role_kept begin_write b fr l = refl
role_kept (note_write done) b fr l = refl
role_kept (make_entry p) b fr l = refl
role_kept start_input b fr l = refl
role_kept start_output b fr l = refl
role_kept clear_just_dirtied b fr l = refl
role_kept (end_io end) b fr l = refl
role_kept (set_waiter number) b fr l = refl
role_kept clear_waiter b fr l = refl
role_kept need_checkpoint b fr l = refl

-- nor what is noted or was seen of its fork's size
pub noted_kept : (k : Kind) (b : Block) (fr : Frame) (l : Link) → (link_after k b fr l).noted ≡ l.noted
noted_kept load_content b fr l = refl
noted_kept mark_dirty b fr l = refl
noted_kept share b fr l = refl
noted_kept exclude b fr l = refl
noted_kept unshare b fr l = refl
noted_kept unexclude b fr l = refl
noted_kept take_copy b fr l = refl
noted_kept leave_copy b fr l = refl
noted_kept page_out b fr l = refl
noted_kept overwrite_logged b fr l = refl
noted_kept (overwrite_read p) b fr l = refl
noted_kept page_back b fr l = refl
noted_kept (note_read p) b fr l = refl
noted_kept note_zero b fr l = refl
noted_kept begin_write b fr l = refl
noted_kept (note_write done) b fr l = refl
noted_kept (make_entry p) b fr l = refl
noted_kept start_input b fr l = refl
noted_kept start_output b fr l = refl
noted_kept clear_just_dirtied b fr l = refl
noted_kept (end_io end) b fr l = refl
noted_kept (set_waiter number) b fr l = refl
noted_kept clear_waiter b fr l = refl
noted_kept need_checkpoint b fr l = refl

pub inside_kept : (k : Kind) (b : Block) (fr : Frame) (l : Link) → (link_after k b fr l).inside ≡ l.inside
inside_kept load_content b fr l = refl
inside_kept mark_dirty b fr l = refl
inside_kept share b fr l = refl
inside_kept exclude b fr l = refl
inside_kept unshare b fr l = refl
inside_kept unexclude b fr l = refl
inside_kept take_copy b fr l = refl
inside_kept leave_copy b fr l = refl
inside_kept page_out b fr l = refl
inside_kept overwrite_logged b fr l = refl
inside_kept (overwrite_read p) b fr l = refl
inside_kept page_back b fr l = refl
inside_kept (note_read p) b fr l = refl
inside_kept note_zero b fr l = refl
inside_kept begin_write b fr l = refl
inside_kept (note_write done) b fr l = refl
inside_kept (make_entry p) b fr l = refl
inside_kept start_input b fr l = refl
inside_kept start_output b fr l = refl
inside_kept clear_just_dirtied b fr l = refl
inside_kept (end_io end) b fr l = refl
inside_kept (set_waiter number) b fr l = refl
inside_kept clear_waiter b fr l = refl
inside_kept need_checkpoint b fr l = refl

-- a kind leaves where the view waits, but for the one that begins a wait
pub wait_kept : (k : Kind) (b : Block) (fr : Frame) (l : Link) → ((number : ℕ) × (k ≡ set_waiter number)) ⊎ ((link_after k b fr l).waits ≡ l.waits)
wait_kept (set_waiter number) b fr l = inl (number, refl)
wait_kept load_content b fr l = inr refl
wait_kept mark_dirty b fr l = inr refl
wait_kept share b fr l = inr refl
wait_kept exclude b fr l = inr refl
wait_kept unshare b fr l = inr refl
wait_kept unexclude b fr l = inr refl
wait_kept take_copy b fr l = inr refl
wait_kept leave_copy b fr l = inr refl
wait_kept page_out b fr l = inr refl
wait_kept overwrite_logged b fr l = inr refl
wait_kept (overwrite_read p) b fr l = inr refl
wait_kept page_back b fr l = inr refl
wait_kept (note_read p) b fr l = inr refl
wait_kept note_zero b fr l = inr refl
wait_kept begin_write b fr l = inr refl
wait_kept (note_write done) b fr l = inr refl
wait_kept (make_entry p) b fr l = inr refl
wait_kept start_input b fr l = inr refl
wait_kept start_output b fr l = inr refl
wait_kept clear_just_dirtied b fr l = inr refl
wait_kept (end_io end) b fr l = inr refl
wait_kept clear_waiter b fr l = inr refl
wait_kept need_checkpoint b fr l = inr refl

-- a wait after a kind of `pin_core` was there before it
pub wait_below : (k : pin_kinds.Kind) (fr : Frame) (l : Link) (number : ℕ) → (pin_kinds.link_after k fr l).waits ≡ Some number → l.waits ≡ Some number
wait_below pin_kinds.load_state fr l number e = goes_on fr.word l.waits e
  where
    goes_on : (w : StateWord) (o : Option ℕ) → pin_kinds.wait_after w o ≡ Some number → o ≡ Some number
    goes_on w None e = e
    goes_on w (Some own) e = grind (arith, e)
wait_below (pin_kinds.pin ring) fr l number e = e
wait_below (pin_kinds.pin_mapped tag ring) fr l number e = e
wait_below pin_kinds.unpin fr l number e = e
wait_below pin_kinds.lock_header fr l number e = e
wait_below pin_kinds.unlock_header fr l number e = e
wait_below (pin_kinds.store_tag tag) fr l number e = e
wait_below (pin_kinds.store_new_tag tag) fr l number e = e
wait_below pin_kinds.erase_tag fr l number e = e
wait_below pin_kinds.load_tag fr l number e = e
wait_below pin_kinds.pin_victim fr l number e = e
wait_below pin_kinds.lower_usage fr l number e = e
wait_below pin_kinds.assign fr l number e = e
wait_below pin_kinds.clear fr l number e = e

-- a kind leaves the block as it is, but for one under the exclusive lock
pub block_kept : (k : Kind) (b : Block) (fr : Frame) (l : Link) → Allowed k b fr l → (block_after k b ≡ b) ⊎ (l.content ≡ Exclusive)
block_kept (make_entry p) b fr l a = inr a.right
block_kept _ b fr l a = inl refl

pub entry_or : (k : Kind) (b : Block) → (block_after k b ≡ b) ⊎ ((p : Page) × (k ≡ make_entry p))
entry_or (make_entry p) b = inr (p, refl)
entry_or _ b = inl refl

-- A kind of `pin_core` leaves the block that the frame names, but for a store of the tag word
pub below_kept : (k : pin_kinds.Kind) (b b' : Block) (fr : Frame) (l : Link) → pin_kinds.Allowed k fr l → ((pin_kinds.frame_after k fr).tag ≡ fr.tag → b' ≡ b) → Keeps_by_pins k b b' fr l
below_kept pin_kinds.load_state b b' fr l a e = subst (λ (x : Block). Keeps_by_pins pin_kinds.load_state b x fr l) (sym (e refl)) (below.load_state_keeps b fr l a)
below_kept (pin_kinds.pin ring) b b' fr l a e = subst (λ (x : Block). Keeps_by_pins (pin_kinds.pin ring) b x fr l) (sym (e refl)) (below.pin_keeps b fr l ring a)
below_kept (pin_kinds.pin_mapped tag ring) b b' fr l a e = subst (λ (x : Block). Keeps_by_pins (pin_kinds.pin_mapped tag ring) b x fr l) (sym (e refl)) (below.pin_mapped_keeps b fr l tag ring a)
below_kept pin_kinds.unpin b b' fr l a e = subst (λ (x : Block). Keeps_by_pins pin_kinds.unpin b x fr l) (sym (e refl)) (below.unpin_keeps b fr l a)
below_kept pin_kinds.lock_header b b' fr l a e = subst (λ (x : Block). Keeps_by_pins pin_kinds.lock_header b x fr l) (sym (e refl)) (below.lock_header_keeps b fr l a)
below_kept pin_kinds.unlock_header b b' fr l a e = subst (λ (x : Block). Keeps_by_pins pin_kinds.unlock_header b x fr l) (sym (e refl)) (below.unlock_header_keeps b fr l a)
below_kept (pin_kinds.store_tag tag) b b' fr l a e = below.store_tag_keeps b fr l tag b' a
below_kept (pin_kinds.store_new_tag tag) b b' fr l a e = below.store_new_tag_keeps b fr l tag b' a
below_kept pin_kinds.erase_tag b b' fr l a e = below.erase_tag_keeps b fr l b' a
below_kept pin_kinds.load_tag b b' fr l a e = subst (λ (x : Block). Keeps_by_pins pin_kinds.load_tag b x fr l) (sym (e refl)) (below.load_tag_keeps b fr l a)
below_kept pin_kinds.pin_victim b b' fr l a e = subst (λ (x : Block). Keeps_by_pins pin_kinds.pin_victim b x fr l) (sym (e refl)) (below.pin_victim_keeps b fr l a)
below_kept pin_kinds.lower_usage b b' fr l a e = subst (λ (x : Block). Keeps_by_pins pin_kinds.lower_usage b x fr l) (sym (e refl)) (below.lower_usage_keeps b fr l a)
below_kept pin_kinds.assign b b' fr l a e = subst (λ (x : Block). Keeps_by_pins pin_kinds.assign b x fr l) (sym (e refl)) (below.assign_keeps b fr l a)
below_kept pin_kinds.clear b b' fr l a e = subst (λ (x : Block). Keeps_by_pins pin_kinds.clear b x fr l) (sym (e refl)) (below.clear_keeps b fr l a)
