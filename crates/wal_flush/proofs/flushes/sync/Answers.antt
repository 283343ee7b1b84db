use Rattle.std.proofs.Common.{ap, ◌∙◌}
use Rattle.pin_core.specs.declared.view.LogHold.{LogHold}
use Rattle.pin_core.specs.declared.view.View.{View}
use Rattle.frame_table.proofs.LogCalling.{home_after_sync}
use Rattle.wal_flush.proofs.LogSteps.{down_at_end}
use Rattle.wal_flush.proofs.Records.{came_unsynced}
use Rattle.wal_flush.proofs.flushes.sync.Goals as goal

pub log_back-requires-clause-may : goal.log_back-requires-clause-may
log_back-requires-clause-may g c = let o = c.in-Ok.ensures in let r = c.requires in let w = c.sync-result.ensures in
    home_after_sync g.G.LogDevice.bytes g.G.LogDevice.synced g.G.LogDevice.faults g.G.LogDevice.calls _ c.in-Ok.log c.sync-result.new.self _ _ o.went o.unnoted w.did
    c.args.end c.sync-result.result o.up (ap (λ (v : View). v.log.end) o.went.after ∙ ap (λ (h : LogHold). h.end) r.held) w.call w.down (ap (λ (v : View). v.log.appended) o.went.after ∙ ap (λ (h : LogHold). h.appended) r.held)

pub returns-in-Err-clause-cause : goal.returns-in-Err-clause-cause
returns-in-Err-clause-cause g c = let down = c.in-Err.ensures.down in (down_at_end _ _ _ _ down (ap (λ (h : LogHold). h.end) c.requires.held), down)

pub returns-in-Err-result-clause-cause : goal.returns-in-Err-result-clause-cause
returns-in-Err-result-clause-cause g c = let o = c.in-Ok.ensures in
    came_unsynced g.G.LogDevice.bytes g.G.LogDevice.synced g.G.LogDevice.faults g.G.LogDevice.calls c.in-Ok.log _ c.take_log.new.seat.me.0 o.went o.up c.sync-result.new.self _ c.in-Err-result.ensures.call c.log_back.ensures.came
