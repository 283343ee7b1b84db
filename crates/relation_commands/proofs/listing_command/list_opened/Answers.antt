use Rattle.std.proofs.Common.{ℕ, List, map}
use Rattle.byte_devices.specs.Bytes.{Puts}
use Rattle.segment_store.specs.Lanes.{HoldPages}
use Rattle.segment_store.specs.Paths.{OpenAt, fork_of}
use Rattle.segment_store.specs.Relation.{relation_of}
use Rattle.page_jobs.specs.Ending.{as_done}
use Rattle.relation_commands.specs.Listings.{CountedText, PutsCounted, counted_text, text_of}
use Rattle.relation_commands.proofs.IoLines.{counted_if, text_unless}
use Rattle.relation_commands.proofs.Listed.{done_as}
use Rattle.relation_commands.proofs.Paths.{of_relation, paths_stay}
use Rattle.relation_commands.proofs.listing_command.list_opened.Goals as goal

pub returns-clause-contents : goal.returns-clause-contents
returns-clause-contents g c =
    let request = c.args.request.now in
    let path = request.path.now in
    let at : OpenAt = record { path = path; seg_blocks = request.options.seg_blocks } in
    let lanes = map g.H.Lane.BlockLane.contents c.list-lanes.result.lanes.items in
    paths_stay _ _ _ at lanes c.give_back.ensures.contents c.requires.open_at
    (of_relation (λ pages. HoldPages (fork_of path) pages lanes) at (fork_of path) c.args.opened.blocks (map g.H.Lane.BlockLane.contents c.args.opened.lanes.items) _
    c.requires.opened.blocks c.requires.opened.holds (rw c.args.request.now.forked c.list-lanes.ensures.leaves.stay))

pub returns-clause-text : goal.returns-clause-text
returns-clause-text g c =
    let request = c.args.request.now in
    let path = request.path.now in
    let at : OpenAt = record { path = path; seg_blocks = request.options.seg_blocks } in
    rw (done_as _ c.list-lanes.result.end c.map.result c.map.ensures.cases)
    (text_unless request.stats (g.H.Host.contents c.args.host.now) (λ paths. text_of request.listing (relation_of request.options.seg_blocks (paths path)))
    (λ (text : List ℕ). Puts text (g.O.Sink.bytes c.args.out.now) (g.O.Sink.bytes c.list-lanes.new.out) (as_done c.list-lanes.result.end))
    (λ hidden. of_relation (λ pages. Puts (text_of request.listing pages) (g.O.Sink.bytes c.args.out.now) (g.O.Sink.bytes c.list-lanes.new.out) (as_done c.list-lanes.result.end)) at (fork_of path) c.args.opened.blocks (map g.H.Lane.BlockLane.contents c.args.opened.lanes.items) _
    c.requires.opened.blocks c.requires.opened.holds (rw c.args.request.now.forked (c.list-lanes.ensures.text hidden))))

pub returns-clause-counted : goal.returns-clause-counted
returns-clause-counted g c =
    let request = c.args.request.now in
    let path = request.path.now in
    let at : OpenAt = record { path = path; seg_blocks = request.options.seg_blocks } in
    rw (done_as _ c.list-lanes.result.end c.map.result c.map.ensures.cases)
    (counted_if request.stats (g.H.Host.contents c.args.host.now) (λ paths. counted_text request.listing (relation_of request.options.seg_blocks (paths path)))
    (λ (t : CountedText). PutsCounted t (g.O.Sink.bytes c.args.out.now) (g.O.Sink.bytes c.list-lanes.new.out) (as_done c.list-lanes.result.end))
    (λ asked. of_relation (λ pages. PutsCounted (counted_text request.listing pages) (g.O.Sink.bytes c.args.out.now) (g.O.Sink.bytes c.list-lanes.new.out) (as_done c.list-lanes.result.end)) at (fork_of path) c.args.opened.blocks (map g.H.Lane.BlockLane.contents c.args.opened.lanes.items) _
    c.requires.opened.blocks c.requires.opened.holds (rw c.args.request.now.forked (c.list-lanes.ensures.counted asked))))
