-- Each kind keeps the law of frames and links.
use Rattle.std.proofs.Common.{◌≡◌, ◌≢◌, ℕ, Bool, arith}
use Rattle.pin_core.specs.declared.view.Link.{Link}
use Rattle.pin_core.specs.State.{Frame, no_tag}
use Rattle.pin_core.specs.Tallies.{pins, headers, pendings, settled_pins, settled_headers, frame_shape}
use Rattle.pin_core.specs.Invariant.{pin_part}
use Rattle.pin_core.specs.Kinds as kinds
use Rattle.pin_core.specs.Kinds.{Kind, Allowed, frame_after, link_after}
use Rattle.grid.proofs.Grids.{Keeps}

-- the kind k keeps the law at the frame fr, if the view that steps has l there
abbrev pub KindKeeps : Kind → Frame → Link → Type 0
KindKeeps k fr l = Keeps frame_shape pin_part pin_part tt tt tt tt fr l (frame_after k fr) (link_after k fr l)

module _ (fr : Frame) (l : Link) where
  pub load_state_keeps : Allowed kinds.load_state fr l → KindKeeps kinds.load_state fr l
  load_state_keeps a = record {
    column = λ t t' q c sums le _. grind (arith, q, c, a, sums pins, sums headers, sums pendings, sums settled_pins, sums settled_headers);
    cell = λ t q le c. grind (arith, q, c, a);
    others = λ t n m q c le d. grind (arith, q, c, d, a);
  }

  pub pin_keeps : (ring : Bool) → Allowed (kinds.pin ring) fr l → KindKeeps (kinds.pin ring) fr l
  pin_keeps ring a = record {
    column = λ t t' q c sums le _. grind (arith, q, c, a, sums pins, sums headers, sums pendings, sums settled_pins, sums settled_headers);
    cell = λ t q le c. grind (arith, q, c, a);
    others = λ t n m q c le d. grind (arith, q, c, d, a);
  }

  -- if the frame has the tag
  pub pin_mapped_keeps : (tag : ℕ) (ring : Bool) → Allowed (kinds.pin_mapped tag ring) fr l → (fr.tag ≡ tag) × (tag ≢ no_tag) → KindKeeps (kinds.pin_mapped tag ring) fr l
  pin_mapped_keeps tag ring a e = record {
    column = λ t t' q c sums le _. grind (arith, q, c, a, e, sums pins, sums headers, sums pendings, sums settled_pins, sums settled_headers);
    cell = λ t q le c. grind (arith, q, c, a, e);
    others = λ t n m q c le d. grind (arith, q, c, d, a, e);
  }

  pub unpin_keeps : Allowed kinds.unpin fr l → KindKeeps kinds.unpin fr l
  unpin_keeps a = record {
    column = λ t t' q c sums le _. grind (arith, q, c, a, sums pins, sums headers, sums pendings, sums settled_pins, sums settled_headers);
    cell = λ t q le c. grind (arith, q, c, a);
    others = λ t n m q c le d. grind (arith, q, c, d, a);
  }

  pub lock_header_keeps : Allowed kinds.lock_header fr l → KindKeeps kinds.lock_header fr l
  lock_header_keeps a = record {
    column = λ t t' q c sums le _. grind (arith, q, c, a, sums pins, sums headers, sums pendings, sums settled_pins, sums settled_headers);
    cell = λ t q le c. grind (arith, q, c, a);
    others = λ t n m q c le d. grind (arith, q, c, d, a);
  }

  pub unlock_header_keeps : Allowed kinds.unlock_header fr l → KindKeeps kinds.unlock_header fr l
  unlock_header_keeps a = record {
    column = λ t t' q c sums le _. grind (arith, q, c, a, sums pins, sums headers, sums pendings, sums settled_pins, sums settled_headers);
    cell = λ t q le c. grind (arith, q, c, a);
    others = λ t n m q c le d. grind (arith, q, c, d, a);
  }

  pub store_tag_keeps : (tag : ℕ) → Allowed (kinds.store_tag tag) fr l → KindKeeps (kinds.store_tag tag) fr l
  store_tag_keeps tag a = record {
    column = λ t t' q c sums le _. grind (arith, q, c, a, sums pins, sums headers, sums pendings, sums settled_pins, sums settled_headers);
    cell = λ t q le c. grind (arith, q, c, a);
    others = λ t n m q c le d. grind (arith, q, c, d, a);
  }

  pub store_new_tag_keeps : (tag : ℕ) → Allowed (kinds.store_new_tag tag) fr l → KindKeeps (kinds.store_new_tag tag) fr l
  store_new_tag_keeps tag a = record {
    column = λ t t' q c sums le _. grind (arith, q, c, a, sums pins, sums headers, sums pendings, sums settled_pins, sums settled_headers);
    cell = λ t q le c. grind (arith, q, c, a);
    others = λ t n m q c le d. grind (arith, q, c, d, a);
  }

  pub erase_tag_keeps : Allowed kinds.erase_tag fr l → KindKeeps kinds.erase_tag fr l
  erase_tag_keeps a = record {
    column = λ t t' q c sums le _. grind (arith, q, c, a, sums pins, sums headers, sums pendings, sums settled_pins, sums settled_headers);
    cell = λ t q le c. grind (arith, q, c, a);
    others = λ t n m q c le d. grind (arith, q, c, d, a);
  }

  pub load_tag_keeps : Allowed kinds.load_tag fr l → KindKeeps kinds.load_tag fr l
  load_tag_keeps a = record {
    column = λ t t' q c sums le _. grind (arith, q, c, a, sums pins, sums headers, sums pendings, sums settled_pins, sums settled_headers);
    cell = λ t q le c. grind (arith, q, c, a);
    others = λ t n m q c le d. grind (arith, q, c, d, a);
  }

  pub pin_victim_keeps : Allowed kinds.pin_victim fr l → KindKeeps kinds.pin_victim fr l
  pin_victim_keeps a = record {
    column = λ t t' q c sums le _. grind (arith, q, c, a, sums pins, sums headers, sums pendings, sums settled_pins, sums settled_headers);
    cell = λ t q le c. grind (arith, q, c, a);
    others = λ t n m q c le d. grind (arith, q, c, d, a);
  }

  pub lower_usage_keeps : Allowed kinds.lower_usage fr l → KindKeeps kinds.lower_usage fr l
  lower_usage_keeps a = record {
    column = λ t t' q c sums le _. grind (arith, q, c, a, sums pins, sums headers, sums pendings, sums settled_pins, sums settled_headers);
    cell = λ t q le c. grind (arith, q, c, a);
    others = λ t n m q c le d. grind (arith, q, c, d, a);
  }

  pub assign_keeps : Allowed kinds.assign fr l → KindKeeps kinds.assign fr l
  assign_keeps a = record {
    column = λ t t' q c sums le _. grind (arith, q, c, a, sums pins, sums headers, sums pendings, sums settled_pins, sums settled_headers);
    cell = λ t q le c. grind (arith, q, c, a);
    others = λ t n m q c le d. grind (arith, q, c, d, a);
  }

  pub clear_keeps : Allowed kinds.clear fr l → KindKeeps kinds.clear fr l
  clear_keeps a = record {
    column = λ t t' q c sums le _. grind (arith, q, c, a, sums pins, sums headers, sums pendings, sums settled_pins, sums settled_headers);
    cell = λ t q le c. grind (arith, q, c, a);
    others = λ t n m q c le d. grind (arith, q, c, d, a);
  }
