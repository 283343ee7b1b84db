use Rattle.std.proofs.Common.{refl, ap, ◌∙◌}
use Rattle.block_tag.specs.Names.{packed_tag}
use Rattle.pin_core.specs.declared.view.View.{View}
use Rattle.pin_core.specs.State.{link}
use Rattle.buffer_frames.proofs.Links.{sharing_unlocked}
use Rattle.buffer_frames.proofs.WorkSteps.{headless, made_none}
use Rattle.buffer_frames.proofs.Works.{and_changed, and_locked, works_none}
use Rattle.frame_table.proofs.Rising.{rises_none, rises_touched}
use Rattle.buffer_frames.specs.Flushing.{ClearsJust}
use Rattle.buffer_frames.proofs.WorkSteps.{within_all, within_on}
use Rattle.buffer_frames.proofs.flushing.clear_just.Goals as goal

pub lock_header-word-requires-clause-headless : goal.lock_header-word-requires-clause-headless
lock_header-word-requires-clause-headless g c = headless c.args._held.now c.args.frame
    c.args.seat.now.me.0 c.requires.others c.requires.shares.no_header

pub returns-clause-works : goal.returns-clause-works
returns-clause-works g c = let k = c.lock_header-word.ensures in let u =
    c.clear_just_dirtied.ensures in and_changed (and_locked c.lock_header-word.result
    (works_none c.args.frame c.requires.stands) k.seat k.touches k.marks k.locked) u.seat u.touches
    u.marks u.unlocked refl refl refl

pub returns-clause-shares : goal.returns-clause-shares
returns-clause-shares g c = let f = c.args.frame in
    sharing_unlocked (packed_tag c.args._tag) c.lock_header-word.result
    (link c.args.seat.now.me.0 f) (link c.lock_header-word.new.seat.me.0 f)
    (link c.clear_just_dirtied.new.seat.me.0 f) c.requires.shares
    c.lock_header-word.ensures.locked c.clear_just_dirtied.ensures.unlocked

pub returns-clause-calls : goal.returns-clause-calls
returns-clause-calls g c = made_none c.args.seat.now.me.0 c.clear_just_dirtied.new.seat.me.0
    (ap (λ (x : View). x.device_calls) c.clear_just_dirtied.ensures.touches.self
    ∙ ap (λ (x : View). x.device_calls) c.lock_header-word.ensures.touches.self)

pub returns-clause-clears : goal.returns-clause-clears
returns-clause-clears g c = let f = c.args.frame in let k = c.lock_header-word.ensures in
    within_on (ClearsJust f) c.args.seat.now.me.0 c.lock_header-word.new.seat.me.0
    c.clear_just_dirtied.new.seat.me.0 c.clear_just_dirtied.new.seat.me.0
    (rises_touched f c.args.seat.now.me.0 c.lock_header-word.new.seat.me.0 k.touches)
    (within_all (ClearsJust f) c.lock_header-word.new.seat.me.0
    c.clear_just_dirtied.new.seat.me.0 (
      c.lock_header-word.result,
      c.clear_just_dirtied.ensures.did,
    )) (rises_none c.clear_just_dirtied.new.seat.me.0)
