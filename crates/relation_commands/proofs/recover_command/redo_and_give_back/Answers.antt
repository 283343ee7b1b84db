use Rattle.std.proofs.Common.{◌≡◌, ◌+◌, List, Result, drop, length, refl, subst, sym, arith, rules}
use Rattle.std.specs.Prelude.{sum_by}
use Rattle.byte_devices.specs.Faults.{Added}
use Rattle.segment_store.proofs.PutBlocks.{take_prefix}
use Rattle.log_recovery.specs.declared.recovering.Redone.{Redone}
use Rattle.relation_commands.specs.declared.error.ToolError.{ToolError}
use Rattle.relation_commands.specs.Answers.{EndsCommand, counts}
use Rattle.relation_commands.specs.RecoverCommand.{EndsRedo}
use Rattle.relation_commands.specs.RecoverFiles.{catalog_of}
use Rattle.command_line.specs.Request.{recover_asked, recovering}
use Rattle.relation_commands.proofs.Counting.{added_none}
use Rattle.relation_commands.proofs.RecoverCauses.{host_rose, recovery_ends}
use Rattle.relation_commands.proofs.GivenFiles.{told}
use Rattle.relation_commands.proofs.RecoverGiven.{files_by, mapped_error, tells_by}
use Rattle.relation_commands.proofs.recover_command.redo_and_give_back.Goals as goal

pub returns-clause-files : goal.returns-clause-files
returns-clause-files g c =
    let r = recover_asked c.args.request.now in
    let first = c.args.opened.lanes.items in
    let redone = c.redo_lanes-end.new.lanes in
    let back = c.give_back.ensures in
    let ends = subst (λ (ls : List g.row.H-Lane.Denot). EndsRedo g.H.Lane.BlockLane.contents g.H.Lane.BlockLane.failed_writes g.H.Lane.BlockLane.room g.H.Lane.BlockLane.read_faults g.H.Lane.BlockLane.write_faults
    g.H.Source.Source.left g.H.Source.Source.faults (catalog_of r.path) ls redone c.args.source c.redo_lanes-end.new.source c.redo_lanes-end.result) c.deref_mut.ensures.value c.redo_lanes-end.ensures in
    let counted : length redone ≡ c.args.opened.lanes.len = (let size = ends.count in omega arith) in
    let whole = sym (take_prefix redone (drop (length redone) first) c.args.opened.lanes.len counted) in
    let given = subst (λ (ls : List g.row.H-Lane.Denot). EndsRedo g.H.Lane.BlockLane.contents g.H.Lane.BlockLane.failed_writes g.H.Lane.BlockLane.room g.H.Lane.BlockLane.read_faults g.H.Lane.BlockLane.write_faults
    g.H.Source.Source.left g.H.Source.Source.faults (catalog_of r.path) first ls c.args.source c.redo_lanes-end.new.source c.redo_lanes-end.result) whole ends in
    let lane_laws = g.met.H.Lane.BlockLane g.world.𝓛 g.world.𝓜 g.world.𝓡 ((λ s x. x), (λ x. x), (λ x. x), λ x. x) in
    let is = mapped_error c.args.request.now.log _ c.redo_lanes-end.result c.map_err.result (λ e d post. search rules) c.map_err.ensures.cases in
    rw is (files_by g.H.Lane.BlockLane.contents g.H.Lane.BlockLane.failed_writes g.H.Lane.BlockLane.unsynced g.H.Lane.BlockLane.room g.H.Lane.BlockLane.read_faults g.H.Lane.BlockLane.write_faults
    g.H.Source.Source.left g.H.Source.Source.faults lane_laws.whole lane_laws.has_room r c.args.request.now.main c.requires.range.0 c.requires.range.1
    (told g.H.Host c.args.host.now) (g.H.Host.room c.args.host.now) c.args.opened c.requires.opened c.requires.open_at
    (told g.H.Host c.give_back.new.self) _ c.args.source c.redo_lanes-end.new.source
    (record { paths = back.contents; marks = back.failed; logs = back.logs }) c.requires.source c.args.request.now.log c.redo_lanes-end.result given
    (λ is. host_rose g.H.Lane.BlockLane.write_faults first _ (g.H.Host.write_faults c.args.host.now) (g.H.Host.write_faults c.give_back.new.self) given.count back.writes (given.write_fault is)))

pub returns-clause-tells : goal.returns-clause-tells
returns-clause-tells g c =
    let r = recover_asked c.args.request.now in
    let first = c.args.opened.lanes.items in
    let redone = c.redo_lanes-end.new.lanes in
    let back = c.give_back.ensures in
    let ends = subst (λ (ls : List g.row.H-Lane.Denot). EndsRedo g.H.Lane.BlockLane.contents g.H.Lane.BlockLane.failed_writes g.H.Lane.BlockLane.room g.H.Lane.BlockLane.read_faults g.H.Lane.BlockLane.write_faults
    g.H.Source.Source.left g.H.Source.Source.faults (catalog_of r.path) ls redone c.args.source c.redo_lanes-end.new.source c.redo_lanes-end.result) c.deref_mut.ensures.value c.redo_lanes-end.ensures in
    let is = mapped_error c.args.request.now.log _ c.redo_lanes-end.result c.map_err.result (λ e d post. search rules) c.map_err.ensures.cases in
    rw is (tells_by g.H.Lane.BlockLane.contents g.H.Lane.BlockLane.failed_writes g.H.Lane.BlockLane.room g.H.Lane.BlockLane.read_faults g.H.Lane.BlockLane.write_faults
    g.H.Source.Source.left g.H.Source.Source.faults r (g.H.Host.logs c.args.host.now) first redone c.args.source c.redo_lanes-end.new.source c.requires.source c.args.request.now.log c.redo_lanes-end.result ends)

pub returns-clause-ends : goal.returns-clause-ends
returns-clause-ends g c =
    let q = c.args.request.now in
    let known = g.H.Host.contents c.args.host.now in
    let logs = g.H.Host.logs c.args.host.now in
    let lanes = c.redo_lanes-end.new.lanes in
    let source = c.redo_lanes-end.new.source in
    let back = c.give_back.new.self in
    let r₀ = g.H.Host.read_faults c.args.host.now in
    let r₁ = g.H.Host.read_faults back in
    let w₀ = g.H.Host.write_faults c.args.host.now in
    let w₁ = g.H.Host.write_faults back in
    let l₀ = g.H.Host.log_faults c.args.host.now in
    let l₁ = g.H.Host.log_faults back in
    let counted : length lanes ≡ c.args.opened.lanes.len = omega arith in
    let whole = take_prefix lanes (drop (length lanes) c.args.opened.lanes.items) c.args.opened.lanes.len counted in
    let ends = subst (λ (ls : List g.row.H-Lane.Denot). EndsRedo g.H.Lane.BlockLane.contents g.H.Lane.BlockLane.failed_writes g.H.Lane.BlockLane.room g.H.Lane.BlockLane.read_faults g.H.Lane.BlockLane.write_faults
    g.H.Source.Source.left g.H.Source.Source.faults (catalog_of q.path.now) ls lanes c.args.source source c.redo_lanes-end.result) c.deref_mut.ensures.value c.redo_lanes-end.ensures in
    let reads = subst (λ (ls : List g.row.H-Lane.Denot). Added r₀ (sum_by g.H.Lane.BlockLane.read_faults ls + g.H.Source.Source.faults source) r₁) whole c.give_back.ensures.reads in
    let writes = subst (λ (ls : List g.row.H-Lane.Denot). Added w₀ (sum_by g.H.Lane.BlockLane.write_faults ls) w₁) whole c.give_back.ensures.writes in
    let is = mapped_error q.log _ c.redo_lanes-end.result c.map_err.result (λ e d post. search rules) c.map_err.ensures.cases in
    subst (λ (r : Result Redone ToolError). EndsCommand (recovering (recover_asked q)) known logs (counts r₀ w₀ l₀ 0) (counts r₁ w₁ l₁ 0) r) (sym is)
    (recovery_ends g.H.Lane.BlockLane.contents g.H.Lane.BlockLane.failed_writes g.H.Lane.BlockLane.room g.H.Lane.BlockLane.read_faults g.H.Lane.BlockLane.write_faults
    g.H.Source.Source.left g.H.Source.Source.faults (catalog_of q.path.now) c.args.opened.lanes.items lanes c.args.source source q known logs r₀ w₀ l₀ r₁ w₁ l₁
    c.requires.source c.requires.opened.there c.requires.opened.reads c.requires.opened.writes (g.met.H.Host.read_faults_fit c.args.host.now) (g.met.H.Host.write_faults_fit c.args.host.now)
    reads writes (added_none l₀ 0 l₁ c.give_back.ensures.log_faults (g.met.H.Host.log_faults_fit c.args.host.now) refl) c.redo_lanes-end.result ends)
