use Rattle.std.proofs.Common.{length, rules, ap, ◌∙◌, arith}
use Rattle.std.specs.Prelude.{sum_by}
use Rattle.byte_devices.specs.declared.memory_log.MemLog.{MemLog}
use Rattle.io_counts.specs.Sums.{io_shown, sums_of}
use Rattle.page_layout.specs.Scan.{totals_of}
use Rattle.backend_pass.specs.Counts.{io_in_all}
use Rattle.page_jobs.proofs.Backends.{all_given, new_are_free}
use Rattle.page_jobs.proofs.Starting.{is_origin}
use Rattle.relation_commands.specs.Listings.{counted_text, text_of}
use Rattle.relation_commands.proofs.FoundBlocks.{found_shown}
use Rattle.relation_commands.proofs.IoLines.{cause_behind, counted_behind, text_still, totals_behind}
use Rattle.relation_commands.proofs.Listed.{all_at_base, cause, leaves, totals_as}
use Rattle.relation_commands.proofs.listing.list_and_close.Goals as goal

pub list_blocks-passes-requires-clause-free : goal.list_blocks-passes-requires-clause-free
list_blocks-passes-requires-clause-free g c κs within =
    new_are_free {L = g.row.L.Denot} {G = MemLog} g.L.BlockLane.contents c.args.manager c.args.listed.relation.fork (length c.args.passes.items) c.args.passes.items c.requires.started.passes

pub close_and_end-lanes-requires-clause-all : goal.close_and_end-lanes-requires-clause-all
close_and_end-lanes-requires-clause-all g c =
    let started = c.requires.started in
    all_given {L = g.row.L.Denot} {G = MemLog} g.L.BlockLane.contents c.args.manager c.args.listed.relation.fork (length c.args.passes.items) c.args.passes.items c.list_blocks-passes.result.passes.items
    started.passes started.several.0 c.list_blocks-passes.ensures.passes c.list_blocks-passes.ensures.last

pub close_and_end-lanes-requires-clause-few : goal.close_and_end-lanes-requires-clause-few
close_and_end-lanes-requires-clause-few g c =
    let as_many = c.list_blocks-passes.ensures.last.counted in
    let few = c.requires.started.several.1 in
    let long = c.list_blocks-passes.result.passes.ok.0 in
    omega (arith, as_many, few, long)

pub returns-clause-leaves : goal.returns-clause-leaves
returns-clause-leaves g c =
    let started = c.requires.started in
    leaves {L = g.row.L.Denot} {G = MemLog} _ c.args.manager c.args.listed.relation.fork c.args.listed.relation.blocks c.args.passes.items c.list_blocks-passes.result.passes.items
    c.close_and_end-lanes.result.0.items c.close_and_end-lanes.result.1 started.catalog started.counted started.several.0 started.passes
    c.list_blocks-passes.ensures.passes c.list_blocks-passes.ensures.last c.close_and_end-lanes.ensures.closes (search rules) c.requires.writes

pub returns-clause-cause : goal.returns-clause-cause
returns-clause-cause g c =
    let started = c.requires.started in
    let job = c.list_blocks-passes.ensures in
    let end = c.close_and_end-lanes.ensures in
    let before =
    cause {L = g.row.L.Denot} {G = MemLog} _ c.args.manager c.args.listed.relation.fork c.args.listed.relation.blocks c.args.passes.items c.list_blocks-passes.result.passes.items
    c.close_and_end-lanes.result.0.items c.close_and_end-lanes.result.1 started.catalog started.counted started.several.0 started.passes
    job.passes job.last end.closes c.requires.reads (g.O.Sink.faults c.args.out.now) (g.O.Sink.faults c.list_blocks-passes.new.out) job.later c.list_blocks-passes.result.end job.quiet job.met job.cause in
    cause_behind c.list_blocks-passes.new.out c.close_and_end-lanes.new.out g.O.Sink.faults (sum_by g.L.BlockLane.read_faults c.close_and_end-lanes.result.0.items) (g.O.Sink.faults c.args.out.now)
    c.list_blocks-passes.result.end c.end_of_job-end.result c.close_and_end-lanes.result.2 c.end_of_job-end.ensures before end.stopped end.cause

pub returns-clause-text : goal.returns-clause-text
returns-clause-text g c hidden pages held all =
    let started = c.requires.started in
    let job = c.list_blocks-passes.ensures in
    let m = c.args.manager in
    let fork = c.args.listed.relation.fork in
    let base = all_at_base {L = g.row.L.Denot} {G = MemLog} _ m fork c.args.listed.relation.blocks c.args.passes.items c.list_blocks-passes.result.passes.items
    c.close_and_end-lanes.result.0.items c.close_and_end-lanes.result.1 started.catalog started.counted started.several.0 started.passes job.passes job.last c.close_and_end-lanes.ensures.closes in
    let still = c.close_and_end-lanes.ensures.silent hidden in
    text_still (text_of c.args.listed.listing pages) (g.O.Sink.bytes c.args.out.now) (g.O.Sink.bytes c.list_blocks-passes.new.out) (g.O.Sink.bytes c.close_and_end-lanes.new.out)
    c.list_blocks-passes.result.end c.close_and_end-lanes.result.2 (still.0 ∙ c.end_of_job-end.ensures) (ap g.O.Sink.bytes still.1)
    (job.text pages (is_origin g.L.BlockLane.contents m fork c.args.listed.relation.blocks started.catalog started.counted pages held all) base)

pub returns-clause-counted : goal.returns-clause-counted
returns-clause-counted g c asked pages held all =
    let started = c.requires.started in
    let job = c.list_blocks-passes.ensures in
    let m = c.args.manager in
    let fork = c.args.listed.relation.fork in
    let end = c.close_and_end-lanes.ensures in
    let base = all_at_base {L = g.row.L.Denot} {G = MemLog} _ m fork c.args.listed.relation.blocks c.args.passes.items c.list_blocks-passes.result.passes.items
    c.close_and_end-lanes.result.0.items c.close_and_end-lanes.result.1 started.catalog started.counted started.several.0 started.passes job.passes job.last end.closes in
    let found = found_shown {L = g.row.L.Denot} {G = MemLog} g.L.BlockLane.contents m c.args.listed.relation.blocks c.args.passes.items c.list_blocks-passes.result.passes.items
    started.passes started.several.0 job.last c.list_blocks-passes.result.end (length pages) (search rules) job.found all in
    counted_behind c.list_blocks-passes.new.out c.close_and_end-lanes.new.out g.O.Sink.bytes (counted_text c.args.listed.listing pages) (sums_of (io_shown (io_in_all c.list_blocks-passes.result.passes.items))) (g.O.Sink.bytes c.args.out.now)
    c.list_blocks-passes.result.end c.end_of_job-end.result c.close_and_end-lanes.result.2 c.end_of_job-end.ensures
    (job.text pages (is_origin g.L.BlockLane.contents m fork c.args.listed.relation.blocks started.catalog started.counted pages held all) base)
    found end.stopped (end.line asked)

pub returns-clause-totals : goal.returns-clause-totals
returns-clause-totals g c pages held all =
    let started = c.requires.started in
    let job = c.list_blocks-passes.ensures in
    let m = c.args.manager in
    let fork = c.args.listed.relation.fork in
    let base = all_at_base {L = g.row.L.Denot} {G = MemLog} _ m fork c.args.listed.relation.blocks c.args.passes.items c.list_blocks-passes.result.passes.items
    c.close_and_end-lanes.result.0.items c.close_and_end-lanes.result.1 started.catalog started.counted started.several.0 started.passes job.passes job.last c.close_and_end-lanes.ensures.closes in
    totals_behind (totals_of pages) c.list_blocks-passes.result.end c.end_of_job-end.result c.close_and_end-lanes.result.2 c.end_of_job-end.ensures c.close_and_end-lanes.ensures.totals
    (totals_as _ c.list_blocks-passes.result.end (job.totals pages (is_origin g.L.BlockLane.contents m fork c.args.listed.relation.blocks started.catalog started.counted pages held all) base))
