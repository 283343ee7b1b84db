use Rattle.command_line.specs.Request.{recover_asked}
use Rattle.relation_commands.proofs.Counting.{least_same}
use Rattle.relation_commands.proofs.GivenFiles.{told}
use Rattle.relation_commands.proofs.RecoverGiven.{unopened_files}
use Rattle.relation_commands.proofs.recover_command.redo_opened.Goals as goal

pub returns-in-Err-clause-files : goal.returns-in-Err-clause-files
returns-in-Err-clause-files g c =
    let refused = c.in-Err.ensures in
    let back = c.give_back.ensures in
    let lane_laws = g.met.H.Lane.BlockLane g.world.𝓛 g.world.𝓜 g.world.𝓡 ((λ s x. x), (λ x. x), (λ x. x), λ x. x) in
    rw c.from_host.ensures
    (unopened_files g.H.Lane.BlockLane.contents g.H.Lane.BlockLane.failed_writes g.H.Lane.BlockLane.unsynced g.H.Lane.BlockLane.room g.H.Lane.BlockLane.read_faults g.H.Lane.BlockLane.write_faults
    g.H.Source.Source.left g.H.Source.Source.faults lane_laws.whole lane_laws.has_room (recover_asked c.args.request.now) c.args.request.now.main c.requires.range.0 c.requires.range.1
    (told g.H.Host c.args.host.now) (g.H.Host.room c.args.host.now) c.args.opened c.requires.opened c.requires.open_at
    (told g.H.Host c.bytes.new.self) (told g.H.Host c.give_back.new.self) (record { contents = refused.contents; failed = refused.failed; open_at = refused.open_at; writes = refused.writes; faults = least_same _ _ refused.log_faults }) refused.logs
    (record { paths = back.contents; marks = back.failed; logs = back.logs }) c.in-Err.error c.args.request.now.log)
