use Rattle.std.proofs.Common.{List, Option, ℕ, ◌≡◌, ◌∙◌, ap, drop, length, map, subst, sym, unwrap_or, arith}
use Rattle.std.specs.Prelude.{All, IfSome}
use Rattle.block_tag.specs.declared.tag.Fork.TheVariants.{Main}
use Rattle.segment_store.specs.Contents.{no_marks}
use Rattle.segment_store.specs.Lanes.{HoldPages}
use Rattle.segment_store.specs.Paths.{fork_of}
use Rattle.segment_store.proofs.PutBlocks.{take_prefix}
use Rattle.pin_core.specs.State.{Page}
use Rattle.lane_survey.specs.Survey.{AreOnlyRead}
use Rattle.relation_commands.specs.Limits.{log_base}
use Rattle.command_line.specs.Request.{rewrite_asked}
use Rattle.relation_commands.specs.RewriteCommand.{AreSurveyed}
use Rattle.relation_commands.specs.RewriteFiles.{pages_at}
use Rattle.relation_commands.specs.Rewriting.{HavePages}
use Rattle.relation_commands.proofs.Counting.{sum_same}
use Rattle.relation_commands.proofs.GivenFiles.{told, unlogged}
use Rattle.relation_commands.proofs.Stepping.{hold_so, refused_text, still_unmarked, surveyed}
use Rattle.relation_commands.proofs.rewrite_command.rewrite_opened.Goals as goal

pub rewrite_surveyed-requires-clause-surveyed : goal.rewrite_surveyed-requires-clause-surveyed
rewrite_surveyed-requires-clause-surveyed g c κs within =
    let counted : length c.survey_base.new.lanes ≡ c.args.opened.lanes.len = omega arith in
    let known = g.H.Host.contents c.args.host.now in
    let r = rewrite_asked c.args.request.now in
    let opened = c.requires.opened in
    let was = c.deref_mut.ensures.value in
    let same = subst (λ (ls : List g.row.H-Lane.Denot). AreOnlyRead g.H.Lane.BlockLane.contents g.H.Lane.BlockLane.failed_writes g.H.Lane.BlockLane.unsynced g.H.Lane.BlockLane.write_faults ls c.survey_base.new.lanes) was c.in-Ok.ensures.same in
    let number_is = sym (ap (λ (o : Option ℕ). unwrap_or o 0) c.args.request.now.numbered) in
    let begins = subst (λ (ls : List g.row.H-Lane.Denot). (pages : List Page) → HavePages g.H.Lane.BlockLane.contents (record { number = c.args.request.now.number; fork = Main; blocks = c.args.opened.blocks }) ls pages → c.in-Ok.base ≡ log_base pages) was c.in-Ok.ensures.base in
    let so = surveyed g.H.Lane.BlockLane.contents g.H.Lane.BlockLane.failed_writes g.H.Lane.BlockLane.unsynced g.H.Lane.BlockLane.read_faults g.H.Lane.BlockLane.write_faults
    r c.args.request.now.main c.args.opened c.survey_base.new.lanes c.args.request.now.number c.in-Ok.base number_is same begins known _ _ opened c.in-Ok.ensures.quiet
    (sum_same g.H.Lane.BlockLane.write_faults c.args.opened.lanes.items c.survey_base.new.lanes same.writes_same ∙ opened.writes) c.in-Ok.ensures.within in
    subst (λ (ls : List g.row.H-Lane.Denot). AreSurveyed g.H.Lane.BlockLane.contents g.H.Lane.BlockLane.failed_writes g.H.Lane.BlockLane.read_faults g.H.Lane.BlockLane.write_faults known r
    (record { number = c.args.request.now.number; fork = Main; blocks = c.args.opened.blocks }) c.in-Ok.base ls)
    (sym (take_prefix c.survey_base.new.lanes (drop (length c.survey_base.new.lanes) c.args.opened.lanes.items) c.args.opened.lanes.len counted)) so

pub returns-in-Err-clause-files : goal.returns-in-Err-clause-files
returns-in-Err-clause-files g c =
    let counted : length c.survey_base.new.lanes ≡ c.args.opened.lanes.len = omega arith in
    let known = g.H.Host.contents c.args.host.now in
    let r = rewrite_asked c.args.request.now in
    let opened = c.requires.opened in
    let back = c.give_back.ensures in
    let same = subst (λ (ls : List g.row.H-Lane.Denot). AreOnlyRead g.H.Lane.BlockLane.contents g.H.Lane.BlockLane.failed_writes g.H.Lane.BlockLane.unsynced g.H.Lane.BlockLane.write_faults ls c.survey_base.new.lanes) c.deref_mut.ensures.value c.in-Err.ensures.same in
    let whole = sym (take_prefix c.survey_base.new.lanes (drop (length c.survey_base.new.lanes) c.args.opened.lanes.items) c.args.opened.lanes.len counted) in
    let unmarked = subst (λ (ls : List g.row.H-Lane.Denot). All (λ lane. g.H.Lane.BlockLane.failed_writes lane ≡ no_marks) ls) whole
    (still_unmarked g.H.Lane.BlockLane.contents g.H.Lane.BlockLane.failed_writes g.H.Lane.BlockLane.unsynced g.H.Lane.BlockLane.read_faults g.H.Lane.BlockLane.write_faults
    r c.args.opened c.survey_base.new.lanes same opened.unmarked) in
    let held = subst (λ (ls : List g.row.H-Lane.Denot). IfSome known (λ paths. HoldPages (fork_of r.path) (pages_at r paths) (map g.H.Lane.BlockLane.contents ls))) whole
    (hold_so g.H.Lane.BlockLane.contents g.H.Lane.BlockLane.failed_writes g.H.Lane.BlockLane.unsynced g.H.Lane.BlockLane.read_faults g.H.Lane.BlockLane.write_faults
    r c.args.opened c.survey_base.new.lanes same known opened.holds) in
    unlogged g.H.Lane.BlockLane.contents g.H.Lane.BlockLane.failed_writes g.H.Log.LogDevice.bytes g.H.Log.LogDevice.synced g.H.Lane.BlockLane.write_faults g.H.Log.LogDevice.faults r
    (told g.H.Host c.args.host.now) (told g.H.Host c.give_back.new.self) _ _ _ _ c.in-Err.error c.in-Err.ensures.cause c.requires.open_at unmarked opened.there held (record { paths = back.contents; marks = back.failed; logs = back.logs; writes = back.writes; faults = back.log_faults })

pub returns-in-Err-clause-text : goal.returns-in-Err-clause-text
returns-in-Err-clause-text g c = refused_text (rewrite_asked c.args.request.now) (g.H.Host.contents c.args.host.now) (g.O.Sink.bytes c.args.out.now) c.in-Err.error
