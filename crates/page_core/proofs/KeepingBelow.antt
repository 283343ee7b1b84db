-- The kinds of `pin_core` keep the law of content locks, pages, input and output.
use Rattle.std.proofs.Common.{ℕ, Bool, None, refl, arith}
use Rattle.pin_core.specs.declared.view.Link.{Link}
use Rattle.pin_core.specs.State.{Frame}
use Rattle.pin_core.specs.Tallies as pins
use Rattle.pin_core.specs.Kinds as kinds
use Rattle.pin_core.specs.Kinds.{Allowed}
use Rattle.page_core.specs.State.{Block}
use Rattle.page_core.specs.Tallies.{pin, sharers, applied_locks, unapplied_locks, copies, works, outs, waits_as}
use Rattle.page_core.proofs.Others.{load_state_link, lock_header_link, unlock_header_link, load_tag_link, link_same, header_goes, absent_link, others_absent, pending_alone}
use Rattle.page_core.proofs.KeepingPages.{Keeps_by_pins}

module _ (b : Block) (fr : Frame) (l : Link) where
  pub load_state_keeps : Allowed kinds.load_state fr l → Keeps_by_pins kinds.load_state b b fr l
  load_state_keeps a = record {
    column = λ t t' q c sums le _. grind (arith, q, c, a, sums sharers, sums applied_locks, sums unapplied_locks, sums copies, sums works, sums outs, sums (waits_as fr.word.waiter));
    cell = λ t q le c. load_state_link b fr l c.1;
    others = λ t n m q c le d. grind (arith, q, c, d, a);
  }

  pub pin_keeps : (ring : Bool) → Allowed (kinds.pin ring) fr l → Keeps_by_pins (kinds.pin ring) b b fr l
  pin_keeps ring a = record {
    column = λ t t' q c sums le _. grind (arith, q, c, a, sums sharers, sums applied_locks, sums unapplied_locks, sums copies, sums works, sums outs, sums (waits_as fr.word.waiter));
    cell = λ t q le c. grind (arith, q, c, a);
    others = λ t n m q c le d. link_same b fr (kinds.frame_after (kinds.pin ring) fr) m (record { valid = refl; dirty = refl; just = refl; flagged = refl; tag = refl; page = refl }) d.1;
  }

  pub pin_mapped_keeps : (tag : ℕ) (ring : Bool) → Allowed (kinds.pin_mapped tag ring) fr l → Keeps_by_pins (kinds.pin_mapped tag ring) b b fr l
  pin_mapped_keeps tag ring a = record {
    column = λ t t' q c sums le _. grind (arith, q, c, a, sums sharers, sums applied_locks, sums unapplied_locks, sums copies, sums works, sums outs, sums (waits_as fr.word.waiter));
    cell = λ t q le c. grind (arith, q, c, a);
    others = λ t n m q c le d. link_same b fr (kinds.frame_after (kinds.pin_mapped tag ring) fr) m (record { valid = refl; dirty = refl; just = refl; flagged = refl; tag = refl; page = refl }) d.1;
  }

  pub unpin_keeps : Allowed kinds.unpin fr l → Keeps_by_pins kinds.unpin b b fr l
  unpin_keeps a = record {
    column = λ t t' q c sums le _. grind (arith, q, c, a, sums sharers, sums applied_locks, sums unapplied_locks, sums copies, sums works, sums outs, sums (waits_as fr.word.waiter));
    cell = λ t q le c. grind (arith, q, c, a);
    others = λ t n m q c le d. link_same b fr (kinds.frame_after kinds.unpin fr) m (record { valid = refl; dirty = refl; just = refl; flagged = refl; tag = refl; page = refl }) d.1;
  }

  pub lock_header_keeps : Allowed kinds.lock_header fr l → Keeps_by_pins kinds.lock_header b b fr l
  lock_header_keeps a = record {
    column = λ t t' q c sums le _. grind (arith, q, c, a, sums sharers, sums applied_locks, sums unapplied_locks, sums copies, sums works, sums outs, sums (waits_as fr.word.waiter));
    cell = λ t q le c. lock_header_link b fr l c.1;
    others = λ t n m q c le d. link_same b fr (kinds.frame_after kinds.lock_header fr) m (record { valid = refl; dirty = refl; just = refl; flagged = refl; tag = refl; page = refl }) d.1;
  }

  pub unlock_header_keeps : Allowed kinds.unlock_header fr l → Keeps_by_pins kinds.unlock_header b b fr l
  unlock_header_keeps a = record {
    column = λ t t' q c sums le _. grind (arith, q, c, a, sums sharers, sums applied_locks, sums unapplied_locks, sums copies, sums works, sums outs, sums (waits_as fr.word.waiter));
    cell = λ t q le c. unlock_header_link b fr l c.1;
    others = λ t n m q c le d. link_same b fr (kinds.frame_after kinds.unlock_header fr) m (record { valid = refl; dirty = refl; just = refl; flagged = refl; tag = refl; page = refl }) d.1;
  }

  pub store_tag_keeps : (tag : ℕ) → (b' : Block) → Allowed (kinds.store_tag tag) fr l → Keeps_by_pins (kinds.store_tag tag) b b' fr l
  store_tag_keeps tag b' a = record {
    column = λ t t' q c sums le _. grind (arith, q, c, a, sums sharers, sums applied_locks, sums unapplied_locks, sums copies, sums works, sums outs, sums (waits_as fr.word.waiter));
    cell = λ t q le c. grind (arith, q, c, a);
    others = λ t n m q c le d. absent_link b b' fr (kinds.frame_after (kinds.store_tag tag) fr) m (others_absent fr l m t q.0 (le (pin pins.pins)) a.alone.single (λ e. let x = a.alone.victim in absurd (cc))) d.1;
  }

  pub store_new_tag_keeps : (tag : ℕ) → (b' : Block) → Allowed (kinds.store_new_tag tag) fr l → Keeps_by_pins (kinds.store_new_tag tag) b b' fr l
  store_new_tag_keeps tag b' a = record {
    column = λ t t' q c sums le _. grind (arith, q, c, a, sums sharers, sums applied_locks, sums unapplied_locks, sums copies, sums works, sums outs, sums (waits_as fr.word.waiter));
    cell = λ t q le c. grind (arith, q, c, a);
    others = λ t n m q c le d. absent_link b b' fr (kinds.frame_after (kinds.store_new_tag tag) fr) m (others_absent fr l m t q.0 (le (pin pins.pins)) a.alone.single (λ e. let x = a.alone.victim in absurd (cc))) d.1;
  }

  pub erase_tag_keeps : (b' : Block) → Allowed kinds.erase_tag fr l → Keeps_by_pins kinds.erase_tag b b' fr l
  erase_tag_keeps b' a = record {
    column = λ t t' q c sums le _. grind (arith, q, c, a, sums sharers, sums applied_locks, sums unapplied_locks, sums copies, sums works, sums outs, sums (waits_as fr.word.waiter));
    cell = λ t q le c. grind (arith, q, c, a);
    others = λ t n m q c le d. absent_link b b' fr (kinds.frame_after kinds.erase_tag fr) m (others_absent fr l m t q.0 (le (pin pins.pins)) a.alone.single (λ e. let x = a.alone.victim in absurd (cc))) d.1;
  }

  pub load_tag_keeps : Allowed kinds.load_tag fr l → Keeps_by_pins kinds.load_tag b b fr l
  load_tag_keeps a = record {
    column = λ t t' q c sums le _. grind (arith, q, c, a, sums sharers, sums applied_locks, sums unapplied_locks, sums copies, sums works, sums outs, sums (waits_as fr.word.waiter));
    cell = λ t q le c. load_tag_link b fr l c.1;
    others = λ t n m q c le d. grind (arith, q, c, d, a);
  }

  pub pin_victim_keeps : Allowed kinds.pin_victim fr l → Keeps_by_pins kinds.pin_victim b b fr l
  pin_victim_keeps a = record {
    column = λ t t' q c sums le _. grind (arith, q, c, a, sums sharers, sums applied_locks, sums unapplied_locks, sums copies, sums works, sums outs, sums (waits_as fr.word.waiter));
    cell = λ t q le c. grind (arith, q, c, a);
    others = λ t n m q c le d. link_same b fr (kinds.frame_after kinds.pin_victim fr) m (record { valid = refl; dirty = refl; just = refl; flagged = refl; tag = refl; page = refl }) d.1;
  }

  pub lower_usage_keeps : Allowed kinds.lower_usage fr l → Keeps_by_pins kinds.lower_usage b b fr l
  lower_usage_keeps a = record {
    column = λ t t' q c sums le _. grind (arith, q, c, a, sums sharers, sums applied_locks, sums unapplied_locks, sums copies, sums works, sums outs, sums (waits_as fr.word.waiter));
    cell = λ t q le c. link_same b fr (kinds.frame_after kinds.lower_usage fr) (record l { header = None }) (record { valid = refl; dirty = refl; just = refl; flagged = refl; tag = refl; page = refl }) (header_goes b fr l c.1);
    others = λ t n m q c le d. link_same b fr (kinds.frame_after kinds.lower_usage fr) m (record { valid = refl; dirty = refl; just = refl; flagged = refl; tag = refl; page = refl }) d.1;
  }

  pub assign_keeps : Allowed kinds.assign fr l → Keeps_by_pins kinds.assign b b fr l
  assign_keeps a = record {
    column = λ t t' q c sums le _. grind (arith, q, c, a, sums sharers, sums applied_locks, sums unapplied_locks, sums copies, sums works, sums outs, sums (waits_as fr.word.waiter));
    cell = λ t q le c. grind (arith, q, c, a);
    others = λ t n m q c le d. grind (arith, q, c, d, a);
  }

  pub clear_keeps : Allowed kinds.clear fr l → Keeps_by_pins kinds.clear b b fr l
  clear_keeps a = record {
    column = λ t t' q c sums le alone. let idle = alone works (λ u m d both. pending_alone b fr l m t q.0 c.0 d.1 (le (pin pins.pendings)) (both (pin pins.pins)) a.erased) in grind (arith, q, c, a, idle, sums sharers, sums applied_locks, sums unapplied_locks, sums copies, sums works, sums outs, sums (waits_as fr.word.waiter));
    cell = λ t q le c. grind (arith, q, c, a);
    others = λ t n m q c le d. grind (arith, q, c, d, a);
  }
