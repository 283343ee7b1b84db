-- Each kind of `pin_core` and of `page_core` keeps the law of the blocks' homes.
use Rattle.std.proofs.Common.{◌≡◌, ◌≢◌, ℕ, Bool, true, false, Some, arith}
use Rattle.state_word.specs.declared.word.IoEnd.TheVariants.{ReadOk, WriteOk, Bad}
use Rattle.pin_core.specs.declared.view.Link.{Link}
use Rattle.pin_core.specs.State.{Frame, Page, no_tag}
use Rattle.pin_core.specs.Kinds as pin_kinds
use Rattle.pin_core.specs.declared.view.Io.TheVariants.{Input}
use Rattle.page_core.specs.Tallies.{works}
use Rattle.page_core.specs.Kinds as kinds
use Rattle.page_core.specs.Kinds.{Kind, Allowed, frame_after, block_after, link_after}
use Rattle.page_core.proofs.KeepingPages as pages
use Rattle.history_core.specs.Homes.{Home, IsClean, home_shape, home_part, of_pages}
use Rattle.grid.specs.Shape.{Part}
use Rattle.grid.proofs.Grids.{Keeps, both}

-- what is known of a frame and a link: the laws below, and this one
abbrev pub known : Part home_shape
known = both (of_pages pages.known) home_part

-- the home after a kind, where the lane holds what it held
abbrev pub pages_home_after : Kind → Home → Home
pages_home_after k h = record h { block = block_after k h.block }

abbrev pub Keeps_by : Kind → Home → Home → Frame → Link → Type 0
Keeps_by k h h' fr l = Keeps home_shape known home_part h h' tt tt fr l (frame_after k h.block fr) (link_after k h.block fr l)

abbrev pub Keeps_by_pins : pin_kinds.Kind → Home → Home → Frame → Link → Type 0
Keeps_by_pins k h h' fr l = Keeps home_shape known home_part h h' tt tt fr l (pin_kinds.frame_after k fr) (pin_kinds.link_after k fr l)

module _ (h : Home) (fr : Frame) (l : Link) where
  pub load_state_keeps : pin_kinds.Allowed pin_kinds.load_state fr l → Keeps_by_pins pin_kinds.load_state h h fr l
  load_state_keeps a = record {
    column = λ t t' q c sums le _. grind (arith, q, c, a);
    cell = λ t q le c. grind (arith, q, c, a);
    others = λ t n m q c le d. grind (arith, q, c, d, a);
  }

  pub pin_keeps : (ring : Bool) → pin_kinds.Allowed (pin_kinds.pin ring) fr l → Keeps_by_pins (pin_kinds.pin ring) h h fr l
  pin_keeps ring a = record {
    column = λ t t' q c sums le _. grind (arith, q, c, a);
    cell = λ t q le c. grind (arith, q, c, a);
    others = λ t n m q c le d. grind (arith, q, c, d, a);
  }

  pub pin_mapped_keeps : (tag : ℕ) → (ring : Bool) → pin_kinds.Allowed (pin_kinds.pin_mapped tag ring) fr l → Keeps_by_pins (pin_kinds.pin_mapped tag ring) h h fr l
  pin_mapped_keeps tag ring a = record {
    column = λ t t' q c sums le _. grind (arith, q, c, a);
    cell = λ t q le c. grind (arith, q, c, a);
    others = λ t n m q c le d. grind (arith, q, c, d, a);
  }

  pub unpin_keeps : pin_kinds.Allowed pin_kinds.unpin fr l → Keeps_by_pins pin_kinds.unpin h h fr l
  unpin_keeps a = record {
    column = λ t t' q c sums le _. grind (arith, q, c, a);
    cell = λ t q le c. grind (arith, q, c, a);
    others = λ t n m q c le d. grind (arith, q, c, d, a);
  }

  pub lock_header_keeps : pin_kinds.Allowed pin_kinds.lock_header fr l → Keeps_by_pins pin_kinds.lock_header h h fr l
  lock_header_keeps a = record {
    column = λ t t' q c sums le _. grind (arith, q, c, a);
    cell = λ t q le c. grind (arith, q, c, a);
    others = λ t n m q c le d. grind (arith, q, c, d, a);
  }

  pub unlock_header_keeps : pin_kinds.Allowed pin_kinds.unlock_header fr l → Keeps_by_pins pin_kinds.unlock_header h h fr l
  unlock_header_keeps a = record {
    column = λ t t' q c sums le _. grind (arith, q, c, a);
    cell = λ t q le c. grind (arith, q, c, a);
    others = λ t n m q c le d. grind (arith, q, c, d, a);
  }

  pub store_tag_keeps : (tag : ℕ) → (h' : Home) → IsClean h' → pin_kinds.Allowed (pin_kinds.store_tag tag) fr l → Keeps_by_pins (pin_kinds.store_tag tag) h h' fr l
  store_tag_keeps tag h' clean a = record {
    column = λ t t' q c sums le _. grind (arith, q, c, a, clean);
    cell = λ t q le c. grind (arith, q, c, a, clean);
    others = λ t n m q c le d. grind (arith, q, c, d, a);
  }

  pub store_new_tag_keeps : (tag : ℕ) → (h' : Home) → IsClean h' → pin_kinds.Allowed (pin_kinds.store_new_tag tag) fr l → Keeps_by_pins (pin_kinds.store_new_tag tag) h h' fr l
  store_new_tag_keeps tag h' clean a = record {
    column = λ t t' q c sums le _. grind (arith, q, c, a, clean);
    cell = λ t q le c. grind (arith, q, c, a, clean);
    others = λ t n m q c le d. grind (arith, q, c, d, a);
  }

  pub erase_tag_keeps : (h' : Home) → pin_kinds.Allowed pin_kinds.erase_tag fr l → Keeps_by_pins pin_kinds.erase_tag h h' fr l
  erase_tag_keeps h' a = record {
    column = λ t t' q c sums le _. grind (arith, q, c, a);
    cell = λ t q le c. grind (arith, q, c, a);
    others = λ t n m q c le d. grind (arith, q, c, d, a);
  }

  pub load_tag_keeps : pin_kinds.Allowed pin_kinds.load_tag fr l → Keeps_by_pins pin_kinds.load_tag h h fr l
  load_tag_keeps a = record {
    column = λ t t' q c sums le _. grind (arith, q, c, a);
    cell = λ t q le c. grind (arith, q, c, a);
    others = λ t n m q c le d. grind (arith, q, c, d, a);
  }

  pub pin_victim_keeps : pin_kinds.Allowed pin_kinds.pin_victim fr l → Keeps_by_pins pin_kinds.pin_victim h h fr l
  pin_victim_keeps a = record {
    column = λ t t' q c sums le _. grind (arith, q, c, a);
    cell = λ t q le c. grind (arith, q, c, a);
    others = λ t n m q c le d. grind (arith, q, c, d, a);
  }

  pub lower_usage_keeps : pin_kinds.Allowed pin_kinds.lower_usage fr l → Keeps_by_pins pin_kinds.lower_usage h h fr l
  lower_usage_keeps a = record {
    column = λ t t' q c sums le _. grind (arith, q, c, a);
    cell = λ t q le c. grind (arith, q, c, a);
    others = λ t n m q c le d. grind (arith, q, c, d, a);
  }

  pub assign_keeps : pin_kinds.Allowed pin_kinds.assign fr l → Keeps_by_pins pin_kinds.assign h h fr l
  assign_keeps a = record {
    column = λ t t' q c sums le _. grind (arith, q, c, a);
    cell = λ t q le c. grind (arith, q, c, a);
    others = λ t n m q c le d. grind (arith, q, c, d, a);
  }

  pub clear_keeps : pin_kinds.Allowed pin_kinds.clear fr l → Keeps_by_pins pin_kinds.clear h h fr l
  clear_keeps a = record {
    column = λ t t' q c sums le _. grind (arith, q, c, a);
    cell = λ t q le c. grind (arith, q, c, a);
    others = λ t n m q c le d. grind (arith, q, c, d, a);
  }

  pub load_content_keeps : Allowed kinds.load_content h.block fr l → Keeps_by kinds.load_content h (pages_home_after kinds.load_content h) fr l
  load_content_keeps a = record {
    column = λ t t' q c sums le _. grind (arith, q, c, a);
    cell = λ t q le c. grind (arith, q, c, a);
    others = λ t n m q c le d. grind (arith, q, c, d, a);
  }

  pub mark_dirty_keeps : Allowed kinds.mark_dirty h.block fr l → Keeps_by kinds.mark_dirty h (pages_home_after kinds.mark_dirty h) fr l
  mark_dirty_keeps a = record {
    column = λ t t' q c sums le _. grind (arith, q, c, a);
    cell = λ t q le c. grind (arith, q, c, a);
    others = λ t n m q c le d. grind (arith, q, c, d, a);
  }

  pub share_keeps : Allowed kinds.share h.block fr l → Keeps_by kinds.share h (pages_home_after kinds.share h) fr l
  share_keeps a = record {
    column = λ t t' q c sums le _. grind (arith, q, c, a);
    cell = λ t q le c. grind (arith, q, c, a);
    others = λ t n m q c le d. grind (arith, q, c, d, a);
  }

  pub exclude_keeps : Allowed kinds.exclude h.block fr l → Keeps_by kinds.exclude h (pages_home_after kinds.exclude h) fr l
  exclude_keeps a = record {
    column = λ t t' q c sums le _. grind (arith, q, c, a);
    cell = λ t q le c. grind (arith, q, c, a);
    others = λ t n m q c le d. grind (arith, q, c, d, a);
  }

  pub unshare_keeps : Allowed kinds.unshare h.block fr l → Keeps_by kinds.unshare h (pages_home_after kinds.unshare h) fr l
  unshare_keeps a = record {
    column = λ t t' q c sums le _. grind (arith, q, c, a);
    cell = λ t q le c. grind (arith, q, c, a);
    others = λ t n m q c le d. grind (arith, q, c, d, a);
  }

  pub unexclude_keeps : Allowed kinds.unexclude h.block fr l → Keeps_by kinds.unexclude h (pages_home_after kinds.unexclude h) fr l
  unexclude_keeps a = record {
    column = λ t t' q c sums le _. grind (arith, q, c, a);
    cell = λ t q le c. grind (arith, q, c, a);
    others = λ t n m q c le d. grind (arith, q, c, d, a);
  }

  pub take_copy_keeps : Allowed kinds.take_copy h.block fr l → Keeps_by kinds.take_copy h (pages_home_after kinds.take_copy h) fr l
  take_copy_keeps a = record {
    column = λ t t' q c sums le _. grind (arith, q, c, a);
    cell = λ t q le c. grind (arith, q, c, a);
    others = λ t n m q c le d. grind (arith, q, c, d, a);
  }

  pub leave_copy_keeps : Allowed kinds.leave_copy h.block fr l → Keeps_by kinds.leave_copy h (pages_home_after kinds.leave_copy h) fr l
  leave_copy_keeps a = record {
    column = λ t t' q c sums le _. grind (arith, q, c, a);
    cell = λ t q le c. grind (arith, q, c, a);
    others = λ t n m q c le d. grind (arith, q, c, d, a);
  }

  pub page_out_keeps : Allowed kinds.page_out h.block fr l → Keeps_by kinds.page_out h (pages_home_after kinds.page_out h) fr l
  page_out_keeps a = record {
    column = λ t t' q c sums le _. grind (arith, q, c, a);
    cell = λ t q le c. grind (arith, q, c, a);
    others = λ t n m q c le d. grind (arith, q, c, d, a);
  }

  pub overwrite_logged_keeps : Allowed kinds.overwrite_logged h.block fr l → Keeps_by kinds.overwrite_logged h (pages_home_after kinds.overwrite_logged h) fr l
  overwrite_logged_keeps a = record {
    column = λ t t' q c sums le _. grind (arith, q, c, a);
    cell = λ t q le c. grind (arith, q, c, a);
    others = λ t n m q c le d. grind (arith, q, c, d, a);
  }

  pub overwrite_read_keeps : (p : Page) → Allowed (kinds.overwrite_read p) h.block fr l → Keeps_by (kinds.overwrite_read p) h (pages_home_after (kinds.overwrite_read p) h) fr l
  overwrite_read_keeps p a = record {
    column = λ t t' q c sums le _. grind (arith, q, c, a);
    cell = λ t q le c. grind (arith, q, c, a);
    others = λ t n m q c le d. grind (arith, q, c, d, a);
  }

  pub page_back_keeps : Allowed kinds.page_back h.block fr l → Keeps_by kinds.page_back h (pages_home_after kinds.page_back h) fr l
  page_back_keeps a = record {
    column = λ t t' q c sums le _. grind (arith, q, c, a);
    cell = λ t q le c. grind (arith, q, c, a);
    others = λ t n m q c le d. grind (arith, q, c, d, a);
  }

  -- where the lane's contents aren't known the block's page is forgotten
  pub note_read_keeps : (p : Page) → (h' : Home) → h'.inside ≡ h.inside → h'.failed ≡ h.failed → h'.stored ≡ h.stored → (h'.known ≡ true → (h.known ≡ true) × (h'.block.logged ≡ h.block.logged)) → l.io ≡ Input → Keeps_by (kinds.note_read p) h h' fr l
  note_read_keeps p h' inside failed stored same right = record {
    column = λ t t' q c sums le _. grind (arith, q, inside, failed, stored, same);
    cell = λ t q le c. grind (arith, q, c, right);
    others = λ t n m q c le d. grind (arith, q, c, d, failed, stored);
  }

  pub note_zero_keeps : Allowed kinds.note_zero h.block fr l → Keeps_by kinds.note_zero h (pages_home_after kinds.note_zero h) fr l
  note_zero_keeps a = record {
    column = λ t t' q c sums le _. grind (arith, q, c, a);
    cell = λ t q le c. grind (arith, q, c, a);
    others = λ t n m q c le d. grind (arith, q, c, d, a);
  }

  pub begin_write_keeps : (h' : Home) → h'.block ≡ h.block → Allowed kinds.begin_write h.block fr l → Keeps_by kinds.begin_write h h' fr l
  begin_write_keeps h' same a = record {
    column = λ t t' q c sums le _. grind (arith, q, c, a, same);
    cell = λ t q le c. grind (arith, q, c, a, same);
    others = λ t n m q c le d. grind (arith, q, c, d, a, same);
  }

  pub make_entry_keeps : (p : Page) → Allowed (kinds.make_entry p) h.block fr l → Keeps_by (kinds.make_entry p) h (pages_home_after (kinds.make_entry p) h) fr l
  make_entry_keeps p a = record {
    column = λ t t' q c sums le _. grind (arith, q, c, a);
    cell = λ t q le c. grind (arith, q, c, a);
    others = λ t n m q c le d. grind (arith, q, c, d, a);
  }

  pub start_input_keeps : Allowed kinds.start_input h.block fr l → Keeps_by kinds.start_input h (pages_home_after kinds.start_input h) fr l
  start_input_keeps a = record {
    column = λ t t' q c sums le _. grind (arith, q, c, a);
    cell = λ t q le c. grind (arith, q, c, a);
    others = λ t n m q c le d. grind (arith, q, c, d, a);
  }

  pub start_output_keeps : Allowed kinds.start_output h.block fr l → Keeps_by kinds.start_output h (pages_home_after kinds.start_output h) fr l
  start_output_keeps a = record {
    column = λ t t' q c sums le _. grind (arith, q, c, a);
    cell = λ t q le c. grind (arith, q, c, a);
    others = λ t n m q c le d. grind (arith, q, c, d, a);
  }

  pub clear_just_dirtied_keeps : Allowed kinds.clear_just_dirtied h.block fr l → Keeps_by kinds.clear_just_dirtied h (pages_home_after kinds.clear_just_dirtied h) fr l
  clear_just_dirtied_keeps a = record {
    column = λ t t' q c sums le _. grind (arith, q, c, a);
    cell = λ t q le c. grind (arith, q, c, a);
    others = λ t n m q c le d. grind (arith, q, c, d, a);
  }

  pub end_read_keeps : Allowed (kinds.end_io ReadOk) h.block fr l → Keeps_by (kinds.end_io ReadOk) h (pages_home_after (kinds.end_io ReadOk) h) fr l
  end_read_keeps a = record {
    column = λ t t' q c sums le _. grind (arith, q, c, a);
    cell = λ t q le c. grind (arith, q, c, a);
    others = λ t n m q c le d. grind (arith, q, c, d, a, le works);
  }

  pub end_write_keeps : (p : Page) → (fr.tag ≢ no_tag → h.known ≡ true → h.block.logged ≡ Some p) → Allowed (kinds.end_io WriteOk) h.block fr l → Keeps_by (kinds.end_io WriteOk) h (pages_home_after (kinds.end_io WriteOk) h) fr l
  end_write_keeps p is a = record {
    column = λ t t' q c sums le _. let same = q.0.1.page p in grind (arith, q, c, a, is, same);
    cell = λ t q le c. grind (arith, q, c, a);
    others = λ t n m q c le d. grind (arith, q, c, d, a, le works);
  }

  pub end_badly_keeps : Allowed (kinds.end_io Bad) h.block fr l → Keeps_by (kinds.end_io Bad) h (pages_home_after (kinds.end_io Bad) h) fr l
  end_badly_keeps a = record {
    column = λ t t' q c sums le _. grind (arith, q, c, a);
    cell = λ t q le c. grind (arith, q, c, a);
    others = λ t n m q c le d. grind (arith, q, c, d, a, le works);
  }

  pub note_done_keeps : h.failed ≡ false → h.stored ≡ Some fr.page → Allowed (kinds.note_write true) h.block fr l → Keeps_by (kinds.note_write true) h (pages_home_after (kinds.note_write true) h) fr l
  note_done_keeps done stored a = record {
    column = λ t t' q c sums le _. grind (arith, q, c, a);
    cell = λ t q le c. grind (arith, q, c, a, done, stored);
    others = λ t n m q c le d. grind (arith, d);
  }

  pub note_failed_keeps : Allowed (kinds.note_write false) h.block fr l → Keeps_by (kinds.note_write false) h (pages_home_after (kinds.note_write false) h) fr l
  note_failed_keeps a = record {
    column = λ t t' q c sums le _. grind (arith, q, c, a);
    cell = λ t q le c. grind (arith, q, c, a);
    others = λ t n m q c le d. grind (arith, d);
  }

  pub set_waiter_keeps : (number : ℕ) → Allowed (kinds.set_waiter number) h.block fr l → Keeps_by (kinds.set_waiter number) h (pages_home_after (kinds.set_waiter number) h) fr l
  set_waiter_keeps number a = record {
    column = λ t t' q c sums le _. grind (arith, q, c, a);
    cell = λ t q le c. grind (arith, q, c, a);
    others = λ t n m q c le d. grind (arith, q, c, d, a);
  }

  pub clear_waiter_keeps : Allowed kinds.clear_waiter h.block fr l → Keeps_by kinds.clear_waiter h (pages_home_after kinds.clear_waiter h) fr l
  clear_waiter_keeps a = record {
    column = λ t t' q c sums le _. grind (arith, q, c, a);
    cell = λ t q le c. grind (arith, q, c, a);
    others = λ t n m q c le d. grind (arith, q, c, d, a);
  }

  pub need_checkpoint_keeps : Allowed kinds.need_checkpoint h.block fr l → Keeps_by kinds.need_checkpoint h (pages_home_after kinds.need_checkpoint h) fr l
  need_checkpoint_keeps a = record {
    column = λ t t' q c sums le _. grind (arith, q, c, a);
    cell = λ t q le c. grind (arith, q, c, a);
    others = λ t n m q c le d. grind (arith, q, c, d, a);
  }
