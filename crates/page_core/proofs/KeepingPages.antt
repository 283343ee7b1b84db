-- Each kind keeps the law of content locks, pages, input and output, and this crate's kinds keep that of pins, headers and tags.
use Rattle.std.proofs.Common.{ℕ, Bool, None, eq-eqb, refl, arith}
use Rattle.state_word.specs.declared.word.IoEnd.TheVariants.{ReadOk, WriteOk, Bad}
use Rattle.pin_core.specs.declared.view.Link.{Link}
use Rattle.pin_core.specs.State.{Frame, Page}
use Rattle.pin_core.specs.Kinds as pin_kinds
use Rattle.page_core.specs.State.{Block}
use Rattle.page_core.specs.Tallies.{sharers, applied_locks, unapplied_locks, copies, works, outs, waits_as, page_shape}
use Rattle.page_core.specs.Invariant.{page_part, pin_part}
use Rattle.page_core.proofs.Others.{link_same, mark_dirty_link, header_goes, page_changes, locked_is_logged, page_back_link, end_badly_link, image_sound, takes_alone, exclusive_alone, input_alone, output_alone, just_goes}
use Rattle.page_core.specs.Kinds as kinds
use Rattle.page_core.specs.Kinds.{Kind, image_over, Allowed, frame_after, block_after, link_after}
use Rattle.grid.specs.Shape.{Part}
use Rattle.grid.proofs.Grids.{Keeps, both}

-- what is known of a frame and a link: both laws
abbrev pub known : Part page_shape
known = both pin_part page_part

-- the kind k keeps the law p
abbrev pub Keeps_by : Part page_shape → Kind → Block → Frame → Link → Type 0
Keeps_by p k b fr l = Keeps page_shape known p b (block_after k b) tt tt fr l (frame_after k b fr) (link_after k b fr l)

-- a kind of `pin_core` keeps the law of pages, if the tag word names the block b' after it
abbrev pub Keeps_by_pins : pin_kinds.Kind → Block → Block → Frame → Link → Type 0
Keeps_by_pins k b b' fr l = Keeps page_shape known page_part b b' tt tt fr l (pin_kinds.frame_after k fr) (pin_kinds.link_after k fr l)

module _ (b : Block) (fr : Frame) (l : Link) where
  pub load_content_keeps : Allowed kinds.load_content b fr l → Keeps_by page_part kinds.load_content b fr l
  load_content_keeps a = record {
    column = λ t t' q c sums le _. grind (arith, q, c, a, sums sharers, sums applied_locks, sums unapplied_locks, sums copies, sums works, sums outs, sums (waits_as fr.word.waiter));
    cell = λ t q le c. grind (arith, q, c, a);
    others = λ t n m q c le d. grind (arith, q, c, d, a);
  }

  pub mark_dirty_keeps : Allowed kinds.mark_dirty b fr l → Keeps_by page_part kinds.mark_dirty b fr l
  mark_dirty_keeps a = record {
    column = λ t t' q c sums le _. grind (arith, q, c, a, sums sharers, sums applied_locks, sums unapplied_locks, sums copies, sums works, sums outs, sums (waits_as fr.word.waiter));
    cell = λ t q le c. grind (arith, q, c, a);
    others = λ t n m q c le d. mark_dirty_link b fr m d.1;
  }

  pub share_keeps : Allowed kinds.share b fr l → Keeps_by page_part kinds.share b fr l
  share_keeps a = record {
    column = λ t t' q c sums le _. grind (arith, q, c, a, sums sharers, sums applied_locks, sums unapplied_locks, sums copies, sums works, sums outs, sums (waits_as fr.word.waiter));
    cell = λ t q le c. grind (arith, q, c, a);
    others = λ t n m q c le d. link_same b fr (kinds.frame_after kinds.share b fr) m (record { valid = refl; dirty = refl; just = refl; flagged = refl; tag = refl; page = refl }) d.1;
  }

  pub exclude_keeps : Allowed kinds.exclude b fr l → Keeps_by page_part kinds.exclude b fr l
  exclude_keeps a = record {
    column = λ t t' q c sums le _. grind (arith, q, c, a, sums sharers, sums applied_locks, sums unapplied_locks, sums copies, sums works, sums outs, sums (waits_as fr.word.waiter));
    cell = λ t q le c. grind (arith, q, c, a);
    others = λ t n m q c le d. grind (arith, q, c, d, a);
  }

  pub unshare_keeps : Allowed kinds.unshare b fr l → Keeps_by page_part kinds.unshare b fr l
  unshare_keeps a = record {
    column = λ t t' q c sums le _. grind (arith, q, c, a, sums sharers, sums applied_locks, sums unapplied_locks, sums copies, sums works, sums outs, sums (waits_as fr.word.waiter));
    cell = λ t q le c. grind (arith, q, c, a);
    others = λ t n m q c le d. link_same b fr (kinds.frame_after kinds.unshare b fr) m (record { valid = refl; dirty = refl; just = refl; flagged = refl; tag = refl; page = refl }) d.1;
  }

  pub unexclude_keeps : Allowed kinds.unexclude b fr l → Keeps_by page_part kinds.unexclude b fr l
  unexclude_keeps a = record {
    column = λ t t' q c sums le _. grind (arith, q, c, a, sums sharers, sums applied_locks, sums unapplied_locks, sums copies, sums works, sums outs, sums (waits_as fr.word.waiter));
    cell = λ t q le c. grind (arith, q, c, a);
    others = λ t n m q c le d. link_same b fr (kinds.frame_after kinds.unexclude b fr) m (record { valid = refl; dirty = refl; just = refl; flagged = refl; tag = refl; page = refl }) d.1;
  }

  pub take_copy_keeps : Allowed kinds.take_copy b fr l → Keeps_by page_part kinds.take_copy b fr l
  take_copy_keeps a = record {
    column = λ t t' q c sums le _. grind (arith, q, c, a, sums sharers, sums applied_locks, sums unapplied_locks, sums copies, sums works, sums outs, sums (waits_as fr.word.waiter));
    cell = λ t q le c. grind (arith, q, c, a);
    others = λ t n m q c le d. link_same b fr (kinds.frame_after kinds.take_copy b fr) m (record { valid = refl; dirty = refl; just = refl; flagged = refl; tag = refl; page = refl }) d.1;
  }

  pub leave_copy_keeps : Allowed kinds.leave_copy b fr l → Keeps_by page_part kinds.leave_copy b fr l
  leave_copy_keeps a = record {
    column = λ t t' q c sums le _. grind (arith, q, c, a, sums sharers, sums applied_locks, sums unapplied_locks, sums copies, sums works, sums outs, sums (waits_as fr.word.waiter));
    cell = λ t q le c. grind (arith, q, c, a);
    others = λ t n m q c le d. link_same b fr (kinds.frame_after kinds.leave_copy b fr) m (record { valid = refl; dirty = refl; just = refl; flagged = refl; tag = refl; page = refl }) d.1;
  }

  pub page_out_keeps : Allowed kinds.page_out b fr l → Keeps_by page_part kinds.page_out b fr l
  page_out_keeps a = record {
    column = λ t t' q c sums le alone. let own = alone outs (λ u m d both. takes_alone b fr l m t q.1 c.1 d.1 both a) in grind (arith, q, c, a, own, sums sharers, sums applied_locks, sums unapplied_locks, sums copies, sums works, sums outs, sums (waits_as fr.word.waiter));
    cell = λ t q le c. grind (arith, q, c, a);
    others = λ t n m q c le d. grind (arith, q, c, d, a);
  }

  pub overwrite_logged_keeps : Allowed kinds.overwrite_logged b fr l → Keeps_by page_part kinds.overwrite_logged b fr l
  overwrite_logged_keeps a = record {
    column = λ t t' q c sums le _. let own = c.1.unapplied a.unapplied in let image = image_sound b.logged fr.page own.is_sound (q.1.sound (c.1.content (λ e. absurd (cc))).1) in grind (arith, q, c, a, image, sums sharers, sums applied_locks, sums unapplied_locks, sums copies, sums works, sums outs, sums (waits_as fr.word.waiter));
    cell = λ t q le c. grind (arith, q, c, a);
    others = λ t n m q c le d. let x = exclusive_alone b fr l m t q.1 c.1 d.1 (le applied_locks) (le unapplied_locks) (le sharers) (c.1.unapplied a.unapplied).right in page_changes b fr m (image_over b.logged fr.page) x.0 x.1 x.2 d.1;
  }

  pub overwrite_read_keeps : (p : Page) → Allowed (kinds.overwrite_read p) b fr l → Keeps_by page_part (kinds.overwrite_read p) b fr l
  overwrite_read_keeps p a = record {
    column = λ t t' q c sums le _. grind (arith, q, c, a, sums sharers, sums applied_locks, sums unapplied_locks, sums copies, sums works, sums outs, sums (waits_as fr.word.waiter));
    cell = λ t q le c. grind (arith, q, c, a);
    others = λ t n m q c le d. let x = input_alone b fr l m t q.1 c.1 d.1 (le works) a.right in page_changes b fr m p x.0 x.1 x.2 d.1;
  }

  pub page_back_keeps : Allowed kinds.page_back b fr l → Keeps_by page_part kinds.page_back b fr l
  page_back_keeps a = record {
    column = λ t t' q c sums le _. grind (arith, q, c, a, sums sharers, sums applied_locks, sums unapplied_locks, sums copies, sums works, sums outs, sums (waits_as fr.word.waiter));
    cell = λ t q le c. page_back_link b fr l c.1 a (locked_is_logged b fr l t q.1 c.1 (le sharers) (le applied_locks));
    others = λ t n m q c le d. grind (arith, q, c, d, a);
  }

  pub note_read_keeps : (p : Page) → Allowed (kinds.note_read p) b fr l → Keeps_by page_part (kinds.note_read p) b fr l
  note_read_keeps p a = record {
    column = λ t t' q c sums le _. grind (arith, q, c, a, sums sharers, sums applied_locks, sums unapplied_locks, sums copies, sums works, sums outs, sums (waits_as fr.word.waiter));
    cell = λ t q le c. grind (arith, q, c, a);
    others = λ t n m q c le d. grind (arith, q, c, d, a);
  }

  pub note_zero_keeps : Allowed kinds.note_zero b fr l → Keeps_by page_part kinds.note_zero b fr l
  note_zero_keeps a = record {
    column = λ t t' q c sums le _. grind (arith, q, c, a, sums sharers, sums applied_locks, sums unapplied_locks, sums copies, sums works, sums outs, sums (waits_as fr.word.waiter));
    cell = λ t q le c. grind (arith, q, c, a);
    others = λ t n m q c le d. grind (arith, q, c, d, a);
  }

  pub begin_write_keeps : Allowed kinds.begin_write b fr l → Keeps_by page_part kinds.begin_write b fr l
  begin_write_keeps a = record {
    column = λ t t' q c sums le _. grind (arith, q, c, a, sums sharers, sums applied_locks, sums unapplied_locks, sums copies, sums works, sums outs, sums (waits_as fr.word.waiter));
    cell = λ t q le c. grind (arith, q, c, a);
    others = λ t n m q c le d. grind (arith, q, c, d, a);
  }

  pub note_write_keeps : (done : Bool) → Allowed (kinds.note_write done) b fr l → Keeps_by page_part (kinds.note_write done) b fr l
  note_write_keeps done a = record {
    column = λ t t' q c sums le _. grind (arith, q, c, a, sums sharers, sums applied_locks, sums unapplied_locks, sums copies, sums works, sums outs, sums (waits_as fr.word.waiter));
    cell = λ t q le c. grind (arith, q, c, a);
    others = λ t n m q c le d. grind (arith, q, c, d, a);
  }

  pub make_entry_keeps : (p : Page) → Allowed (kinds.make_entry p) b fr l → Keeps_by page_part (kinds.make_entry p) b fr l
  make_entry_keeps p a = record {
    column = λ t t' q c sums le _. grind (arith, q, c, a, sums sharers, sums applied_locks, sums unapplied_locks, sums copies, sums works, sums outs, sums (waits_as fr.word.waiter));
    cell = λ t q le c. grind (arith, q, c, a);
    others = λ t n m q c le d. grind (arith, q, c, d, a);
  }

  pub start_input_keeps : Allowed kinds.start_input b fr l → Keeps_by page_part kinds.start_input b fr l
  start_input_keeps a = record {
    column = λ t t' q c sums le _. grind (arith, q, c, a, sums sharers, sums applied_locks, sums unapplied_locks, sums copies, sums works, sums outs, sums (waits_as fr.word.waiter));
    cell = λ t q le c. grind (arith, q, c, a);
    others = λ t n m q c le d. grind (arith, q, c, d, a);
  }

  pub start_output_keeps : Allowed kinds.start_output b fr l → Keeps_by page_part kinds.start_output b fr l
  start_output_keeps a = record {
    column = λ t t' q c sums le _. grind (arith, q, c, a, sums sharers, sums applied_locks, sums unapplied_locks, sums copies, sums works, sums outs, sums (waits_as fr.word.waiter));
    cell = λ t q le c. grind (arith, q, c, a);
    others = λ t n m q c le d. grind (arith, q, c, d, a);
  }

  pub clear_just_dirtied_keeps : Allowed kinds.clear_just_dirtied b fr l → Keeps_by page_part kinds.clear_just_dirtied b fr l
  clear_just_dirtied_keeps a = record {
    column = λ t t' q c sums le _. grind (arith, q, c, a, sums sharers, sums applied_locks, sums unapplied_locks, sums copies, sums works, sums outs, sums (waits_as fr.word.waiter));
    cell = λ t q le c. grind (arith, q, c, a);
    others = λ t n m q c le d. just_goes b fr m (output_alone b fr l m t q.1 c.1 d.1 (le sharers) (le applied_locks) (le unapplied_locks) a.right) d.1;
  }

  pub end_read_keeps : Allowed (kinds.end_io ReadOk) b fr l → Keeps_by page_part (kinds.end_io ReadOk) b fr l
  end_read_keeps a = record {
    column = λ t t' q c sums le _. grind (arith, q, c, a, sums sharers, sums applied_locks, sums unapplied_locks, sums copies, sums works, sums outs, sums (waits_as fr.word.waiter));
    cell = λ t q le c. grind (arith, q, c, a);
    others = λ t n m q c le d. grind (arith, q, c, d, a);
  }

  pub end_write_keeps : Allowed (kinds.end_io WriteOk) b fr l → Keeps_by page_part (kinds.end_io WriteOk) b fr l
  end_write_keeps a = record {
    column = λ t t' q c sums le _. grind (arith, q, c, a, sums sharers, sums applied_locks, sums unapplied_locks, sums copies, sums works, sums outs, sums (waits_as fr.word.waiter));
    cell = λ t q le c. grind (arith, q, c, a);
    others = λ t n m q c le d. grind (arith, q, c, d, a);
  }

  pub end_badly_keeps : Allowed (kinds.end_io Bad) b fr l → Keeps_by page_part (kinds.end_io Bad) b fr l
  end_badly_keeps a = record {
    column = λ t t' q c sums le _. grind (arith, q, c, a, sums sharers, sums applied_locks, sums unapplied_locks, sums copies, sums works, sums outs, sums (waits_as fr.word.waiter));
    cell = λ t q le c. end_badly_link b fr l c.1 a;
    others = λ t n m q c le d. link_same b fr (kinds.frame_after (kinds.end_io Bad) b fr) m (record { valid = refl; dirty = refl; just = refl; flagged = refl; tag = refl; page = refl }) d.1;
  }

  pub set_waiter_keeps : (number : ℕ) → Allowed (kinds.set_waiter number) b fr l → Keeps_by page_part (kinds.set_waiter number) b fr l
  set_waiter_keeps number a = record {
    column = λ t t' q c sums le _. grind (arith, q, c, a, eq-eqb number number refl, le (waits_as number), sums (waits_as number), sums sharers, sums applied_locks, sums unapplied_locks, sums copies, sums works, sums outs, sums (waits_as fr.word.waiter));
    cell = λ t q le c. grind (arith, q, c, a);
    others = λ t n m q c le d. link_same b fr (kinds.frame_after (kinds.set_waiter number) b fr) m (record { valid = refl; dirty = refl; just = refl; flagged = refl; tag = refl; page = refl }) d.1;
  }

  pub clear_waiter_keeps : Allowed kinds.clear_waiter b fr l → Keeps_by page_part kinds.clear_waiter b fr l
  clear_waiter_keeps a = record {
    column = λ t t' q c sums le _. grind (arith, q, c, a, sums sharers, sums applied_locks, sums unapplied_locks, sums copies, sums works, sums outs, sums (waits_as fr.word.waiter));
    cell = λ t q le c. link_same b fr (kinds.frame_after kinds.clear_waiter b fr) (record l { header = None }) (record { valid = refl; dirty = refl; just = refl; flagged = refl; tag = refl; page = refl }) (header_goes b fr l c.1);
    others = λ t n m q c le d. link_same b fr (kinds.frame_after kinds.clear_waiter b fr) m (record { valid = refl; dirty = refl; just = refl; flagged = refl; tag = refl; page = refl }) d.1;
  }

  pub need_checkpoint_keeps : Allowed kinds.need_checkpoint b fr l → Keeps_by page_part kinds.need_checkpoint b fr l
  need_checkpoint_keeps a = record {
    column = λ t t' q c sums le _. grind (arith, q, c, a, sums sharers, sums applied_locks, sums unapplied_locks, sums copies, sums works, sums outs, sums (waits_as fr.word.waiter));
    cell = λ t q le c. grind (arith, q, c, a);
    others = λ t n m q c le d. link_same b fr (kinds.frame_after kinds.need_checkpoint b fr) m (record { valid = refl; dirty = refl; just = refl; flagged = refl; tag = refl; page = refl }) d.1;
  }
