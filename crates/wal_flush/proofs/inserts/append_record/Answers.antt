use Rattle.std.proofs.Common.{ap, subst, ◌∙◌}
use Rattle.pin_core.specs.declared.view.LogHold.{LogHold}
use Rattle.pin_core.specs.declared.view.View.{View}
use Rattle.pin_core.specs.State.{Page}
use Rattle.table_rule.specs.LogCalls.{LogDid}
use Rattle.frame_table.specs.Seats.{relations_of}
use Rattle.frame_table.proofs.LogCalling.{appends_out, home_after_append}
use Rattle.wal_flush.specs.Inserts.{FailsToAppend}
use Rattle.wal_flush.proofs.LogSteps.{down_at_end}
use Rattle.wal_flush.proofs.Records.{may_enter, went_up, came_appended, came_torn}
use Rattle.wal_flush.proofs.inserts.append_record.Goals as goal

pub returns-in-Err-clause-cause : goal.returns-in-Err-clause-cause
returns-in-Err-clause-cause g c = let down = c.in-Err.ensures.down in (down_at_end _ _ _ _ down (ap (λ (h : LogHold). h.end) c.requires.held), c.requires.room, down)

pub log_back-requires-clause-may : goal.log_back-requires-clause-may
log_back-requires-clause-may g c = let o = c.in-Ok.ensures in let r = c.requires in let w = c.append-result.ensures in
    home_after_append g.G.LogDevice.bytes g.G.LogDevice.synced g.G.LogDevice.faults g.G.LogDevice.calls _ c.in-Ok.log c.append-result.new.self _ _ o.went o.unnoted
    (subst (λ (d : g.row.G.Denot). LogDid g.G.LogDevice.bytes g.G.LogDevice.synced g.G.LogDevice.faults g.G.LogDevice.calls d c.append-result.new.self.device c.append-result.new.self.call) c.write_record.ensures.device w.did)
    c.args.frame c.args.tag c.set_lsn.new.self c.write_record.new.self.buffer.items c.args.end c.append-result.result o.up (ap (λ (v : View). v.log.end) o.went.after ∙ ap (λ (h : LogHold). h.end) r.held) w.call w.down
    (appends_out _ _ _ _ _ _ _ o.went _ c.args.frame c.args.tag c.set_lsn.new.self c.args.end c.write_record.new.self.buffer.items
    (may_enter _ _ _ _ _ _ _ r.can r.held c.position_of-was.ensures.size r.room c.set_lsn.ensures.bytes c.set_lsn.ensures.reads_back)
    record { entry = c.relation_of-entry.result; listed = c.relation_of-entry.ensures; is = c.write_record.ensures.«record» }
    (ap (λ (h : LogHold). h.appended) r.held) (ap (λ (h : LogHold). h.synced) r.held))

pub returns-in-Ok-result-clause-appended : goal.returns-in-Ok-result-clause-appended
returns-in-Ok-result-clause-appended g c = let o = c.in-Ok.ensures in record {
  out = c.take_log.new.seat.me.0;
  bytes = c.write_record.new.self.buffer.items;
  is_record = record { entry = c.relation_of-entry.result; listed = c.relation_of-entry.ensures; is = c.write_record.ensures.«record» };
  went = went_up _ _ _ _ _ _ _ o.went o.up;
  did = came_appended _ _ _ _ c.log_back.ensures.came.taken _ _ _ _ _ c.in-Ok-result.ensures.call c.log_back.ensures.came.did;
}

pub returns-in-Err-result-clause-cause : goal.returns-in-Err-result-clause-cause
returns-in-Err-result-clause-cause g c = let o = c.in-Ok.ensures in (
  c.requires.room,
  subst (λ (p : Page). FailsToAppend (relations_of c.args.table.now) c.args.frame c.args.tag c.args.end p c.args.seat.now.me.0 c.log_back.new.seat.me.0) c.set_lsn.ensures.bytes
      (came_torn g.G.LogDevice.bytes g.G.LogDevice.synced g.G.LogDevice.faults g.G.LogDevice.calls c.in-Ok.log _ c.take_log.new.seat.me.0 o.went o.up _ c.args.frame c.args.tag c.args.end c.set_lsn.new.self c.write_record.new.self.buffer.items c.append-result.new.self _
      record { entry = c.relation_of-entry.result; listed = c.relation_of-entry.ensures; is = c.write_record.ensures.«record» }
      c.in-Err-result.ensures.call
      (subst (λ (d : g.row.G.Denot). LogDid g.G.LogDevice.bytes g.G.LogDevice.synced g.G.LogDevice.faults g.G.LogDevice.calls d c.append-result.new.self.device c.append-result.new.self.call) c.write_record.ensures.device c.append-result.ensures.did)
      c.log_back.ensures.came),
)
