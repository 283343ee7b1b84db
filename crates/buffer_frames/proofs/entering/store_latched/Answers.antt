use Rattle.std.proofs.Common.{inl, inr, sym}
use Rattle.frame_table.proofs.Rising.{rises_touched}
use Rattle.buffer_frames.specs.VictimChoices.{IsAssigned}
use Rattle.buffer_frames.proofs.Trying.{found_in_use}
use Rattle.buffer_frames.proofs.entering.store_latched.Goals.{then-pins-ne1-via-then-pins-ne1, then-pins-ne1-via-else-pins-ne1+then-has}
use Rattle.std.proofs.Common.{Some, ap, ◌∙◌, refl, rules, false}
use Rattle.block_tag.specs.Names.{packed_tag, partition_number}
use Rattle.frame_table.specs.Seats.{HasFlag}
use Rattle.buffer_frames.proofs.Heading.{knows_word, pins_assigned, victim_unlocked}
use Rattle.buffer_frames.proofs.Latching.{holds_named, lacks_same, may_change}
use Rattle.buffer_frames.proofs.Outside.{links_worked}
use Rattle.buffer_frames.proofs.Keeps.{and_touched, at_frame, at_tag, keeps_changed, keeps_none}
use Rattle.pin_core.specs.declared.view.Link.{Link}
use Rattle.buffer_frames.proofs.entering.store_latched.Goals as goal

pub returns-then-pins-ne1-clause-refused : goal.returns-then-pins-ne1-clause-refused
returns-then-pins-ne1-clause-refused g c = let k = c.lock_header-word.ensures in let u = c.unlock_header.ensures in
    victim_unlocked c.args._held.now c.args.frame _ c.args.seat.now.me.0 c.lock_header-word.new.seat.me.0 c.unlock_header.new.seat.me.0 c.requires.victim k.touches.others k.locked u.touches.others u.unlocked

pub store_tag-requires-clause-tag : goal.store_tag-requires-clause-tag
store_tag-requires-clause-tag g c =
    let k = c.lock_header-word.ensures in
    record {
      named = c.requires.tag;
      listed = c.requires.block;
      word = knows_word _ _ _ k.locked c.requires.victim.calm (HasFlag false) (search rules);
      latch = may_change _ c.args.seat.now.me.0 c.lock_header-word.new.seat.me.0 k.touches.partitions c.requires.latch c.requires.holds;
      map = lacks_same (packed_tag c.args.tag) c.args.seat.now.me.0 c.lock_header-word.new.seat.me.0 k.touches.partitions c.requires.lacks;
    }

pub enter-requires-clause-named : goal.enter-requires-clause-named
enter-requires-clause-named g c = holds_named _ _ c.args.seat.now.me.0 c.lock_header-word.new.seat.me.0 c.store_tag.new.seat.me.0 c.assign.new.seat.me.0 c.lock_header-word.ensures.touches.partitions c.store_tag.ensures.names c.assign.ensures.touches.partitions c.requires.holds

pub returns-clause-stored : goal.returns-clause-stored
returns-clause-stored g c =
    let k = c.lock_header-word.ensures in
    let st = c.store_tag.ensures in
    let a = c.assign.ensures in
    let named = holds_named _ _ c.args.seat.now.me.0 c.lock_header-word.new.seat.me.0 c.store_tag.new.seat.me.0 c.store_tag.new.seat.me.0 k.touches.partitions st.names refl c.requires.holds in
    pins_assigned c.args._held.now c.args.frame _ c.args.seat.now.me.0 c.lock_header-word.new.seat.me.0 c.store_tag.new.seat.me.0 c.assign.new.seat.me.0 c.enter.new.seat.me.0 c.requires.victim k.touches.others k.locked st.stores.others st.stored a.touches.others (links_worked c.assign.new.seat.me.0 c.enter.new.seat.me.0 c.enter.ensures.work) (packed_tag c.args.tag) a.assigned (a.tag _ _ named.named named.unchanged)

pub returns-then-pins-ne1-clause-in_use : goal.returns-then-pins-ne1-clause-in_use
returns-then-pins-ne1-clause-in_use g c = let k = c.lock_header-word in let u = c.unlock_header.ensures in
    found_in_use IsAssigned c.args.frame k.result c.args.seat.now.me.0 k.new.seat.me.0 c.unlock_header.new.seat.me.0 k.ensures.did
    (elim c.then-pins-ne1.branch [ then-pins-ne1-via-then-pins-ne1 w ↦ inl (λ e. w.if-pins-ne1.true (c.pins.ensures ∙ e)) | then-pins-ne1-via-else-pins-ne1+then-has w ↦ inr (sym w.has.ensures ∙ w.if-has.true) ])
    (rises_touched c.args.frame k.new.seat.me.0 c.unlock_header.new.seat.me.0 u.touches)

pub returns-then-pins-ne1-clause-keeps : goal.returns-then-pins-ne1-clause-keeps
returns-then-pins-ne1-clause-keeps g c = let k = c.lock_header-word.ensures in let u = c.unlock_header.ensures in
    and_touched (and_touched (keeps_none {l = Some (partition_number c.args.tag)} c.requires.stands c.requires.latch) c.args.frame k.seat k.touches k.marks k.locked.content) c.args.frame u.seat u.touches u.marks (ap (λ (x : Link). x.content) u.unlocked)

pub returns-clause-keeps : goal.returns-clause-keeps
returns-clause-keeps g c =
    let k = c.lock_header-word.ensures in
    let st = c.store_tag.ensures in
    let d = c.assign.ensures in
    let e = c.enter.ensures in
    keeps_changed (partition_number c.args.tag) c.args.frame c.requires.stands c.requires.latch (at_frame k.seat c.args.frame k.touches k.marks k.locked.content) k.touches.partitions (at_tag st.seat c.args.frame st.stores st.cleared st.marks (ap (λ (x : Link). x.content) st.stored)) c.store_tag.ensures.names
    (at_frame d.seat c.args.frame d.touches d.marks (ap (λ (x : Link). x.content) d.assigned)) d.touches.partitions e.seat e.work e.grows e.step
