-- This crate's kinds keep the law of pins, headers and tags.
use Rattle.std.proofs.Common.{ℕ, Bool, arith}
use Rattle.state_word.specs.declared.word.IoEnd.TheVariants.{ReadOk, WriteOk, Bad}
use Rattle.pin_core.specs.declared.view.Link.{Link}
use Rattle.pin_core.specs.State.{Frame, Page}
use Rattle.pin_core.specs.Tallies as pins
use Rattle.page_core.specs.State.{Block}
use Rattle.page_core.specs.Tallies.{pin}
use Rattle.page_core.specs.Invariant.{pin_part}
use Rattle.page_core.specs.Kinds as kinds
use Rattle.page_core.specs.Kinds.{Allowed}
use Rattle.page_core.proofs.KeepingPages.{Keeps_by}

module _ (b : Block) (fr : Frame) (l : Link) where
  pub load_content_keeps : Allowed kinds.load_content b fr l → Keeps_by pin_part kinds.load_content b fr l
  load_content_keeps a = record {
    column = λ t t' q c sums le _. grind (arith, q, c, a, sums (pin pins.pins), sums (pin pins.headers), sums (pin pins.pendings), sums (pin pins.settled_pins), sums (pin pins.settled_headers));
    cell = λ t q le c. grind (arith, q, c, a);
    others = λ t n m q c le d. grind (arith, q, c, d, a);
  }

  pub mark_dirty_keeps : Allowed kinds.mark_dirty b fr l → Keeps_by pin_part kinds.mark_dirty b fr l
  mark_dirty_keeps a = record {
    column = λ t t' q c sums le _. grind (arith, q, c, a, sums (pin pins.pins), sums (pin pins.headers), sums (pin pins.pendings), sums (pin pins.settled_pins), sums (pin pins.settled_headers));
    cell = λ t q le c. grind (arith, q, c, a);
    others = λ t n m q c le d. grind (arith, q, c, d, a);
  }

  pub share_keeps : Allowed kinds.share b fr l → Keeps_by pin_part kinds.share b fr l
  share_keeps a = record {
    column = λ t t' q c sums le _. grind (arith, q, c, a, sums (pin pins.pins), sums (pin pins.headers), sums (pin pins.pendings), sums (pin pins.settled_pins), sums (pin pins.settled_headers));
    cell = λ t q le c. grind (arith, q, c, a);
    others = λ t n m q c le d. grind (arith, q, c, d, a);
  }

  pub exclude_keeps : Allowed kinds.exclude b fr l → Keeps_by pin_part kinds.exclude b fr l
  exclude_keeps a = record {
    column = λ t t' q c sums le _. grind (arith, q, c, a, sums (pin pins.pins), sums (pin pins.headers), sums (pin pins.pendings), sums (pin pins.settled_pins), sums (pin pins.settled_headers));
    cell = λ t q le c. grind (arith, q, c, a);
    others = λ t n m q c le d. grind (arith, q, c, d, a);
  }

  pub unshare_keeps : Allowed kinds.unshare b fr l → Keeps_by pin_part kinds.unshare b fr l
  unshare_keeps a = record {
    column = λ t t' q c sums le _. grind (arith, q, c, a, sums (pin pins.pins), sums (pin pins.headers), sums (pin pins.pendings), sums (pin pins.settled_pins), sums (pin pins.settled_headers));
    cell = λ t q le c. grind (arith, q, c, a);
    others = λ t n m q c le d. grind (arith, q, c, d, a);
  }

  pub unexclude_keeps : Allowed kinds.unexclude b fr l → Keeps_by pin_part kinds.unexclude b fr l
  unexclude_keeps a = record {
    column = λ t t' q c sums le _. grind (arith, q, c, a, sums (pin pins.pins), sums (pin pins.headers), sums (pin pins.pendings), sums (pin pins.settled_pins), sums (pin pins.settled_headers));
    cell = λ t q le c. grind (arith, q, c, a);
    others = λ t n m q c le d. grind (arith, q, c, d, a);
  }

  pub take_copy_keeps : Allowed kinds.take_copy b fr l → Keeps_by pin_part kinds.take_copy b fr l
  take_copy_keeps a = record {
    column = λ t t' q c sums le _. grind (arith, q, c, a, sums (pin pins.pins), sums (pin pins.headers), sums (pin pins.pendings), sums (pin pins.settled_pins), sums (pin pins.settled_headers));
    cell = λ t q le c. grind (arith, q, c, a);
    others = λ t n m q c le d. grind (arith, q, c, d, a);
  }

  pub leave_copy_keeps : Allowed kinds.leave_copy b fr l → Keeps_by pin_part kinds.leave_copy b fr l
  leave_copy_keeps a = record {
    column = λ t t' q c sums le _. grind (arith, q, c, a, sums (pin pins.pins), sums (pin pins.headers), sums (pin pins.pendings), sums (pin pins.settled_pins), sums (pin pins.settled_headers));
    cell = λ t q le c. grind (arith, q, c, a);
    others = λ t n m q c le d. grind (arith, q, c, d, a);
  }

  pub page_out_keeps : Allowed kinds.page_out b fr l → Keeps_by pin_part kinds.page_out b fr l
  page_out_keeps a = record {
    column = λ t t' q c sums le _. grind (arith, q, c, a, sums (pin pins.pins), sums (pin pins.headers), sums (pin pins.pendings), sums (pin pins.settled_pins), sums (pin pins.settled_headers));
    cell = λ t q le c. grind (arith, q, c, a);
    others = λ t n m q c le d. grind (arith, q, c, d, a);
  }

  pub overwrite_logged_keeps : Allowed kinds.overwrite_logged b fr l → Keeps_by pin_part kinds.overwrite_logged b fr l
  overwrite_logged_keeps a = record {
    column = λ t t' q c sums le _. grind (arith, q, c, a, sums (pin pins.pins), sums (pin pins.headers), sums (pin pins.pendings), sums (pin pins.settled_pins), sums (pin pins.settled_headers));
    cell = λ t q le c. grind (arith, q, c, a);
    others = λ t n m q c le d. grind (arith, q, c, d, a);
  }

  pub overwrite_read_keeps : (p : Page) → Allowed (kinds.overwrite_read p) b fr l → Keeps_by pin_part (kinds.overwrite_read p) b fr l
  overwrite_read_keeps p a = record {
    column = λ t t' q c sums le _. grind (arith, q, c, a, sums (pin pins.pins), sums (pin pins.headers), sums (pin pins.pendings), sums (pin pins.settled_pins), sums (pin pins.settled_headers));
    cell = λ t q le c. grind (arith, q, c, a);
    others = λ t n m q c le d. grind (arith, q, c, d, a);
  }

  pub page_back_keeps : Allowed kinds.page_back b fr l → Keeps_by pin_part kinds.page_back b fr l
  page_back_keeps a = record {
    column = λ t t' q c sums le _. grind (arith, q, c, a, sums (pin pins.pins), sums (pin pins.headers), sums (pin pins.pendings), sums (pin pins.settled_pins), sums (pin pins.settled_headers));
    cell = λ t q le c. grind (arith, q, c, a);
    others = λ t n m q c le d. grind (arith, q, c, d, a);
  }

  pub note_read_keeps : (p : Page) → Allowed (kinds.note_read p) b fr l → Keeps_by pin_part (kinds.note_read p) b fr l
  note_read_keeps p a = record {
    column = λ t t' q c sums le _. grind (arith, q, c, a, sums (pin pins.pins), sums (pin pins.headers), sums (pin pins.pendings), sums (pin pins.settled_pins), sums (pin pins.settled_headers));
    cell = λ t q le c. grind (arith, q, c, a);
    others = λ t n m q c le d. grind (arith, q, c, d, a);
  }

  pub note_zero_keeps : Allowed kinds.note_zero b fr l → Keeps_by pin_part kinds.note_zero b fr l
  note_zero_keeps a = record {
    column = λ t t' q c sums le _. grind (arith, q, c, a, sums (pin pins.pins), sums (pin pins.headers), sums (pin pins.pendings), sums (pin pins.settled_pins), sums (pin pins.settled_headers));
    cell = λ t q le c. grind (arith, q, c, a);
    others = λ t n m q c le d. grind (arith, q, c, d, a);
  }

  pub begin_write_keeps : Allowed kinds.begin_write b fr l → Keeps_by pin_part kinds.begin_write b fr l
  begin_write_keeps a = record {
    column = λ t t' q c sums le _. grind (arith, q, c, a, sums (pin pins.pins), sums (pin pins.headers), sums (pin pins.pendings), sums (pin pins.settled_pins), sums (pin pins.settled_headers));
    cell = λ t q le c. grind (arith, q, c, a);
    others = λ t n m q c le d. grind (arith, q, c, d, a);
  }

  pub note_write_keeps : (done : Bool) → Allowed (kinds.note_write done) b fr l → Keeps_by pin_part (kinds.note_write done) b fr l
  note_write_keeps done a = record {
    column = λ t t' q c sums le _. grind (arith, q, c, a, sums (pin pins.pins), sums (pin pins.headers), sums (pin pins.pendings), sums (pin pins.settled_pins), sums (pin pins.settled_headers));
    cell = λ t q le c. grind (arith, q, c, a);
    others = λ t n m q c le d. grind (arith, q, c, d, a);
  }

  pub make_entry_keeps : (p : Page) → Allowed (kinds.make_entry p) b fr l → Keeps_by pin_part (kinds.make_entry p) b fr l
  make_entry_keeps p a = record {
    column = λ t t' q c sums le _. grind (arith, q, c, a, sums (pin pins.pins), sums (pin pins.headers), sums (pin pins.pendings), sums (pin pins.settled_pins), sums (pin pins.settled_headers));
    cell = λ t q le c. grind (arith, q, c, a);
    others = λ t n m q c le d. grind (arith, q, c, d, a);
  }

  pub start_input_keeps : Allowed kinds.start_input b fr l → Keeps_by pin_part kinds.start_input b fr l
  start_input_keeps a = record {
    column = λ t t' q c sums le _. grind (arith, q, c, a, sums (pin pins.pins), sums (pin pins.headers), sums (pin pins.pendings), sums (pin pins.settled_pins), sums (pin pins.settled_headers));
    cell = λ t q le c. grind (arith, q, c, a);
    others = λ t n m q c le d. grind (arith, q, c, d, a);
  }

  pub start_output_keeps : Allowed kinds.start_output b fr l → Keeps_by pin_part kinds.start_output b fr l
  start_output_keeps a = record {
    column = λ t t' q c sums le _. grind (arith, q, c, a, sums (pin pins.pins), sums (pin pins.headers), sums (pin pins.pendings), sums (pin pins.settled_pins), sums (pin pins.settled_headers));
    cell = λ t q le c. grind (arith, q, c, a);
    others = λ t n m q c le d. grind (arith, q, c, d, a);
  }

  pub clear_just_dirtied_keeps : Allowed kinds.clear_just_dirtied b fr l → Keeps_by pin_part kinds.clear_just_dirtied b fr l
  clear_just_dirtied_keeps a = record {
    column = λ t t' q c sums le _. grind (arith, q, c, a, sums (pin pins.pins), sums (pin pins.headers), sums (pin pins.pendings), sums (pin pins.settled_pins), sums (pin pins.settled_headers));
    cell = λ t q le c. grind (arith, q, c, a);
    others = λ t n m q c le d. grind (arith, q, c, d, a);
  }

  pub end_read_keeps : Allowed (kinds.end_io ReadOk) b fr l → Keeps_by pin_part (kinds.end_io ReadOk) b fr l
  end_read_keeps a = record {
    column = λ t t' q c sums le _. grind (arith, q, c, a, sums (pin pins.pins), sums (pin pins.headers), sums (pin pins.pendings), sums (pin pins.settled_pins), sums (pin pins.settled_headers));
    cell = λ t q le c. grind (arith, q, c, a);
    others = λ t n m q c le d. grind (arith, q, c, d, a);
  }

  pub end_write_keeps : Allowed (kinds.end_io WriteOk) b fr l → Keeps_by pin_part (kinds.end_io WriteOk) b fr l
  end_write_keeps a = record {
    column = λ t t' q c sums le _. grind (arith, q, c, a, sums (pin pins.pins), sums (pin pins.headers), sums (pin pins.pendings), sums (pin pins.settled_pins), sums (pin pins.settled_headers));
    cell = λ t q le c. grind (arith, q, c, a);
    others = λ t n m q c le d. grind (arith, q, c, d, a);
  }

  pub end_badly_keeps : Allowed (kinds.end_io Bad) b fr l → Keeps_by pin_part (kinds.end_io Bad) b fr l
  end_badly_keeps a = record {
    column = λ t t' q c sums le _. grind (arith, q, c, a, sums (pin pins.pins), sums (pin pins.headers), sums (pin pins.pendings), sums (pin pins.settled_pins), sums (pin pins.settled_headers));
    cell = λ t q le c. grind (arith, q, c, a);
    others = λ t n m q c le d. grind (arith, q, c, d, a);
  }

  pub set_waiter_keeps : (number : ℕ) → Allowed (kinds.set_waiter number) b fr l → Keeps_by pin_part (kinds.set_waiter number) b fr l
  set_waiter_keeps number a = record {
    column = λ t t' q c sums le _. grind (arith, q, c, a, sums (pin pins.pins), sums (pin pins.headers), sums (pin pins.pendings), sums (pin pins.settled_pins), sums (pin pins.settled_headers));
    cell = λ t q le c. grind (arith, q, c, a);
    others = λ t n m q c le d. grind (arith, q, c, d, a);
  }

  pub clear_waiter_keeps : Allowed kinds.clear_waiter b fr l → Keeps_by pin_part kinds.clear_waiter b fr l
  clear_waiter_keeps a = record {
    column = λ t t' q c sums le _. grind (arith, q, c, a, sums (pin pins.pins), sums (pin pins.headers), sums (pin pins.pendings), sums (pin pins.settled_pins), sums (pin pins.settled_headers));
    cell = λ t q le c. grind (arith, q, c, a);
    others = λ t n m q c le d. grind (arith, q, c, d, a);
  }

  pub need_checkpoint_keeps : Allowed kinds.need_checkpoint b fr l → Keeps_by pin_part kinds.need_checkpoint b fr l
  need_checkpoint_keeps a = record {
    column = λ t t' q c sums le _. grind (arith, q, c, a, sums (pin pins.pins), sums (pin pins.headers), sums (pin pins.pendings), sums (pin pins.settled_pins), sums (pin pins.settled_headers));
    cell = λ t q le c. grind (arith, q, c, a);
    others = λ t n m q c le d. grind (arith, q, c, d, a);
  }
