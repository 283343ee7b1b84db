-- What is shown kind by kind.
use Rattle.std.proofs.Common.{◌≡◌, ◌≢◌}
use Rattle.pin_core.specs.declared.view.Link.{Link}
use Rattle.pin_core.specs.State.{Frame, no_tag}
use Rattle.pin_core.specs.Kinds.{Kind, load_state, pin, pin_mapped, unpin, lock_header, unlock_header, store_tag, store_new_tag, erase_tag, load_tag, pin_victim, lower_usage, assign, clear, Allowed}
use Rattle.pin_core.proofs.Keeping as keeping
use Rattle.pin_core.proofs.Keeping.{KindKeeps}

-- what a kind has to know of the tag word
abbrev pub TagKnown : Kind → Frame → Type 0
TagKnown (pin_mapped tag ring) fr = (fr.tag ≡ tag) × (tag ≢ no_tag)
TagKnown _ fr = Unit {0}

pub kind_keeps : (k : Kind) (fr : Frame) (l : Link) → Allowed k fr l → TagKnown k fr → KindKeeps k fr l
kind_keeps load_state fr l a e = keeping.load_state_keeps fr l a
kind_keeps (pin ring) fr l a e = keeping.pin_keeps fr l ring a
kind_keeps (pin_mapped tag ring) fr l a e = keeping.pin_mapped_keeps fr l tag ring a e
kind_keeps unpin fr l a e = keeping.unpin_keeps fr l a
kind_keeps lock_header fr l a e = keeping.lock_header_keeps fr l a
kind_keeps unlock_header fr l a e = keeping.unlock_header_keeps fr l a
kind_keeps (store_tag tag) fr l a e = keeping.store_tag_keeps fr l tag a
kind_keeps (store_new_tag tag) fr l a e = keeping.store_new_tag_keeps fr l tag a
kind_keeps erase_tag fr l a e = keeping.erase_tag_keeps fr l a
kind_keeps load_tag fr l a e = keeping.load_tag_keeps fr l a
kind_keeps pin_victim fr l a e = keeping.pin_victim_keeps fr l a
kind_keeps lower_usage fr l a e = keeping.lower_usage_keeps fr l a
kind_keeps assign fr l a e = keeping.assign_keeps fr l a
kind_keeps clear fr l a e = keeping.clear_keeps fr l a
