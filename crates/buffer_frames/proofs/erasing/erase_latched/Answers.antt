use Rattle.std.proofs.Common.{inl, inr, sym}
use Rattle.frame_table.proofs.Rising.{rises_on, rises_stored, rises_touched}
use Rattle.buffer_frames.specs.VictimChoices.{IsDirtied}
use Rattle.buffer_frames.proofs.Trying.{found_in_use}
use Rattle.buffer_frames.proofs.erasing.erase_latched.Goals.{then-pins-ne1-via-then-pins-ne1, then-pins-ne1-via-else-pins-ne1+then-has}
use Rattle.std.proofs.Common.{◌+◌, Some, ap, sym, subst, ◌∙◌, ◌≡◌, refl, rules, true, false}
use Rattle.pin_core.specs.declared.view.View.{View}
use Rattle.block_tag.specs.Names.{packed_tag, partition_number}
use Rattle.state_word.specs.declared.word.StateWord.{StateWord}
use Rattle.pin_core.specs.declared.view.MapChange.{MapChange}
use Rattle.pin_core.specs.State.{link}
use Rattle.frame_table.specs.Seats.{HasFlag}
use Rattle.frame_table.proofs.TagLoads.{erase_names, may_erase}
use Rattle.map_partitions.specs.Partition.{NamesLeaving}
use Rattle.buffer_frames.proofs.Heading.{knows_word, number_stored, tag_known, victim_cleared, victim_unlocked}
use Rattle.buffer_frames.proofs.Latching.{holds_named, may_change}
use Rattle.buffer_frames.proofs.Outside.{grows_outside, links_worked, outside_worked}
use Rattle.buffer_frames.proofs.Keeps.{and_touched, at_emptied, at_frame, emptying_keeps, keeps_erased, keeps_none}
use Rattle.pin_core.specs.declared.view.Link.{Link}
use Rattle.buffer_frames.proofs.erasing.erase_latched.Goals as goal

pub returns-then-pins-ne1-clause-victim : goal.returns-then-pins-ne1-clause-victim
returns-then-pins-ne1-clause-victim g c = let k = c.lock_header-word.ensures in let u = c.unlock_header.ensures in
    victim_unlocked c.args._held.now c.args.frame _ c.args.seat.now.me.0 c.lock_header-word.new.seat.me.0 c.unlock_header.new.seat.me.0 c.requires.victim k.touches.others k.locked u.touches.others u.unlocked

pub store_tag-requires-clause-tag : goal.store_tag-requires-clause-tag
store_tag-requires-clause-tag g c =
    let k = c.lock_header-word.ensures in
    let remembered = k.locked.tag ∙ c.requires.remembered in
    record {
      read = λ none. let no = sym remembered ∙ none in absurd (cc);
      latch = may_erase c.args.tag.now c.args.frame c.lock_header-word.new.seat.me.0 c.requires.tag remembered (may_change _ c.args.seat.now.me.0 c.lock_header-word.new.seat.me.0 k.touches.partitions c.requires.latch c.requires.holds);
      word = knows_word _ _ _ k.locked c.requires.victim.calm (λ (w : StateWord). w.dirty ≡ false) (search rules);
    }

pub clear-requires-clause-held : goal.clear-requires-clause-held
clear-requires-clause-held g c = let k = c.lock_header-word.ensures in
    number_stored (HasFlag true) (link c.args.seat.now.me.0 c.args.frame) (link c.lock_header-word.new.seat.me.0 c.args.frame) (link c.store_tag.new.seat.me.0 c.args.frame) _ k.locked c.store_tag.ensures.stored (tag_known _ _ _ k.word c.requires.remembered)

pub leave_out-requires-clause-holds : goal.leave_out-requires-clause-holds
leave_out-requires-clause-holds g c =
    let k = c.lock_header-word.ensures in
    let h = holds_named _ _ c.args.seat.now.me.0 c.lock_header-word.new.seat.me.0 c.store_tag.new.seat.me.0 c.clear.new.seat.me.0 k.touches.partitions
    (erase_names c.args.tag.now c.args.frame c.lock_header-word.new.seat.me.0 c.store_tag.new.seat.me.0 c.requires.tag (k.locked.tag ∙ c.requires.remembered) c.store_tag.ensures.names)
    c.clear.ensures.touches.partitions c.requires.holds in
    record { held = h.held; home = h.home; unchanged = h.unchanged; named = refl }

pub leave_out-requires-clause-named : goal.leave_out-requires-clause-named
leave_out-requires-clause-named g c =
    let k = c.lock_header-word.ensures in
    let h = holds_named _ _ c.args.seat.now.me.0 c.lock_header-word.new.seat.me.0 c.store_tag.new.seat.me.0 c.clear.new.seat.me.0 k.touches.partitions
    (erase_names c.args.tag.now c.args.frame c.lock_header-word.new.seat.me.0 c.store_tag.new.seat.me.0 c.requires.tag (k.locked.tag ∙ c.requires.remembered) c.store_tag.ensures.names)
    c.clear.ensures.touches.partitions c.requires.holds in
    subst (λ (x : MapChange). NamesLeaving (packed_tag c.args.tag.now) x) (sym h.named) refl

pub returns-clause-victim : goal.returns-clause-victim
returns-clause-victim g c =
    let k = c.lock_header-word.ensures in
    let st = c.store_tag.ensures in
    victim_cleared c.args._held.now c.args.frame _ c.args.seat.now.me.0 c.lock_header-word.new.seat.me.0 c.store_tag.new.seat.me.0 c.clear.new.seat.me.0 c.leave_out.new.seat.me.0 c.requires.victim k.touches.others k.locked st.stores.others st.stored c.clear.ensures.touches.others (links_worked c.clear.new.seat.me.0 c.leave_out.new.seat.me.0 c.leave_out.ensures.work) c.clear.ensures.cleared

pub returns-then-pins-ne1-clause-in_use : goal.returns-then-pins-ne1-clause-in_use
returns-then-pins-ne1-clause-in_use g c = let k = c.lock_header-word in let u = c.unlock_header.ensures in
    found_in_use IsDirtied c.args.frame k.result c.args.seat.now.me.0 k.new.seat.me.0 c.unlock_header.new.seat.me.0 k.ensures.did
    (elim c.then-pins-ne1.branch [ then-pins-ne1-via-then-pins-ne1 w ↦ inl (λ e. w.if-pins-ne1.true (c.pins.ensures ∙ e)) | then-pins-ne1-via-else-pins-ne1+then-has w ↦ inr (sym w.has.ensures ∙ w.if-has.true) ])
    (rises_touched c.args.frame k.new.seat.me.0 c.unlock_header.new.seat.me.0 u.touches)

pub returns-then-pins-ne1-clause-keeps : goal.returns-then-pins-ne1-clause-keeps
returns-then-pins-ne1-clause-keeps g c = let k = c.lock_header-word.ensures in let u = c.unlock_header.ensures in
    emptying_keeps (and_touched (and_touched (keeps_none {l = Some (partition_number c.args.tag.now)} c.requires.stands c.requires.latch) c.args.frame k.seat k.touches k.marks k.locked.content) c.args.frame u.seat u.touches u.marks (ap (λ (x : Link). x.content) u.unlocked))

pub returns-clause-keeps : goal.returns-clause-keeps
returns-clause-keeps g c =
    let k = c.lock_header-word.ensures in
    let st = c.store_tag.ensures in
    let d = c.clear.ensures in
    let e = c.leave_out.ensures in
    keeps_erased (partition_number c.args.tag.now) c.args.frame c.requires.stands c.requires.latch (at_frame k.seat c.args.frame k.touches k.marks k.locked.content) k.touches.partitions (at_emptied st.seat c.args.frame st.stores st.marks (ap (λ (x : Link). x.content) st.stored)) (erase_names c.args.tag.now c.args.frame c.lock_header-word.new.seat.me.0 c.store_tag.new.seat.me.0 c.requires.tag (k.locked.tag ∙ c.requires.remembered) c.store_tag.ensures.names)
    (at_frame d.seat c.args.frame d.touches d.marks (ap (λ (x : Link). x.content) d.cleared)) d.touches.partitions e.seat e.work e.grows e.step

pub returns-then-pins-ne1-clause-untaken : goal.returns-then-pins-ne1-clause-untaken
returns-then-pins-ne1-clause-untaken g c = ap (λ (v : View). v.cleared) c.unlock_header.ensures.touches.self ∙ ap (λ (v : View). v.cleared) c.lock_header-word.ensures.touches.self

pub returns-clause-taken : goal.returns-clause-taken
returns-clause-taken g c = ap (λ (v : View). v.cleared) c.leave_out.ensures.work ∙ ap (λ (v : View). v.cleared) c.clear.ensures.touches.self ∙ c.store_tag.ensures.cleared ∙ ap (λ (v : View). v.cleared + 1) c.lock_header-word.ensures.touches.self

pub returns-clause-emptied : goal.returns-clause-emptied
returns-clause-emptied g c = let k = c.lock_header-word in let lo = c.leave_out.ensures in record {
  before = c.store_tag.new.seat.me.0;
  after = c.clear.new.seat.me.0;
  since = rises_on _ k.new.seat.me.0 _ (rises_touched c.args.frame _ _ k.ensures.touches) (rises_stored c.args.frame _ _ c.store_tag.ensures.stores);
  work = (_, c.clear.ensures.did);
  until = grows_outside c.clear.new.seat.me.0 c.leave_out.new.seat.me.0 lo.grows (outside_worked c.clear.new.seat.me.0 c.leave_out.new.seat.me.0 lo.work lo.step.lanes lo.step.log);
}
