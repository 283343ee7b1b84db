use Rattle.std.proofs.Common.{arith}
use Rattle.command_line.specs.Request.{rewrite_asked}
use Rattle.relation_commands.proofs.GivenFiles.{told, held_by, refused, rewritten}
use Rattle.relation_commands.proofs.rewrite_command.rewrite_and_give_back.Goals as goal

pub returns-in-Ok-clause-files : goal.returns-in-Ok-clause-files
returns-in-Ok-clause-files g c =
    let opened = c.in-Ok.ensures in
    let back = c.give_back.ensures in
    rewritten g.H.Lane.BlockLane.contents g.H.Lane.BlockLane.failed_writes g.H.Log.LogDevice.bytes g.H.Log.LogDevice.synced g.H.Lane.BlockLane.write_faults g.H.Log.LogDevice.faults (rewrite_asked c.args.request.now)
    g.H.Lane.BlockLane.read_faults c.args.relation c.args.base c.args.lanes.items c.rewrite_lanes-lanes.result.lanes.items
    c.in-Ok.log c.rewrite_lanes-lanes.result.log c.rewrite_lanes-lanes.result.end (told g.H.Host c.args.host.now) (told g.H.Host c.open_log.new.host) (told g.H.Host c.give_back.new.self)
    c.requires.open_at c.args.request.now.main c.requires.surveyed (record { contents = opened.contents; failed = opened.failed; open_at = opened.open_at; writes = opened.writes; faults = opened.later }) opened.logs
    (g.met.H.Host.logs_told c.open_log.new.host c.rewrite_lanes-lanes.result.log)
    (record { paths = back.contents; marks = back.failed; logs = back.logs; writes = back.writes; faults = back.log_faults }) c.rewrite_lanes-lanes.ensures.leaves
    _ _ _ _ c.rewrite_lanes-lanes.ensures.cause

pub returns-in-Err-clause-files : goal.returns-in-Err-clause-files
returns-in-Err-clause-files g c =
    let opened = c.in-Err.ensures in
    let back = c.give_back-in-Err.ensures in
    let surveyed = c.requires.surveyed in
    refused g.H.Lane.BlockLane.contents g.H.Lane.BlockLane.failed_writes g.H.Log.LogDevice.bytes g.H.Log.LogDevice.synced g.H.Lane.BlockLane.write_faults g.H.Log.LogDevice.faults (rewrite_asked c.args.request.now)
    (told g.H.Host c.args.host.now) (told g.H.Host c.open_log.new.host) (told g.H.Host c.give_back-in-Err.new.self) c.args.lanes.items c.args.base c.in-Err.field-0.log _ _ _ c.in-Err.field-0.error
    c.requires.open_at surveyed.unmarked surveyed.there
    (held_by g.H.Lane.BlockLane.contents g.H.Lane.BlockLane.failed_writes g.H.Log.LogDevice.bytes g.H.Log.LogDevice.synced g.H.Lane.BlockLane.write_faults g.H.Log.LogDevice.faults (rewrite_asked c.args.request.now)
    _ c.args.relation c.args.base c.args.lanes.items c.args.request.now.main surveyed.relation_is surveyed.pages)
    (let begins = surveyed.begins.1 in omega arith) surveyed.base_is opened.head
    (record { contents = opened.contents; failed = opened.failed; open_at = opened.open_at; writes = opened.writes; faults = opened.later }) opened.logs (g.met.H.Host.logs_told c.open_log.new.host) opened.cause
    (record { paths = back.contents; marks = back.failed; logs = back.logs; writes = back.writes; faults = back.log_faults })
