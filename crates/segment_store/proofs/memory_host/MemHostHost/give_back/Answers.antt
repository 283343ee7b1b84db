use Rattle.std.proofs.Common.{List, Option, Some, map, option_map, string_bytes, sym, ap, ◌∙◌}
use Rattle.segment_store.specs.Logs.{logs_after}
use Rattle.byte_devices.specs.MemoryLog.{as_stored}
use Rattle.segment_store.specs.MemoryFile.{room_at}
use Rattle.segment_store.specs.MemoryHost.{marks_at, open_now, segments_at}
use Rattle.segment_store.specs.MemoryLane.{marks_of, pages_of}
use Rattle.segment_store.specs.MemoryLog.{logs_at, opened_path}
use Rattle.segment_store.specs.declared.memory_host.MemHost.{MemHost}
use Rattle.segment_store.specs.declared.memory_lane.MemLane.{MemLane}
use Rattle.byte_devices.specs.declared.memory_log.MemLog.{MemLog}
use Rattle.segment_store.proofs.GrownBack.{marks_given, paths_given}
use Rattle.segment_store.proofs.memory_host.MemHostHost.give_back.Goals as goal

pub returns-in-Some-clause-contents : goal.returns-in-Some-clause-contents
returns-in-Some-clause-contents c =
    let host = c.args.self.now in
    let mid = c.grow.new.self in
    let lanes = map (λ lane. Some (pages_of lane)) c.args.lanes.items in
    let seen = map (λ lane. Some (pages_of lane)) c.deref-3.result.now in
    let most = option_map (λ _. room_at host.files.items (string_bytes host.open_path) host.open_seg_blocks) c.args.source in
    let at_is = ap (λ (h : MemHost). open_now h) c.grow.ensures.same in
    let seen_is = ap (λ (l : List MemLane). map (λ lane. Some (pages_of lane)) l) c.deref-3.ensures.value in
    paths_given (open_now host) (open_now mid) most lanes seen (segments_at host.files.items) (segments_at mid.files.items) at_is seen_is c.grow.ensures.contents
    (segments_at c.take_lanes.new.self.files.items) c.take_lanes.ensures.contents

pub returns-in-Some-clause-failed : goal.returns-in-Some-clause-failed
returns-in-Some-clause-failed c =
    let host = c.args.self.now in
    let mid = c.grow.new.self in
    let lanes = map (λ lane. Some (pages_of lane)) c.args.lanes.items in
    let seen = map (λ lane. Some (pages_of lane)) c.deref-3.result.now in
    let most = option_map (λ _. room_at host.files.items (string_bytes host.open_path) host.open_seg_blocks) c.args.source in
    let at_is = ap (λ (h : MemHost). open_now h) c.grow.ensures.same in
    let seen_is = ap (λ (l : List MemLane). map (λ lane. Some (pages_of lane)) l) c.deref-3.ensures.value in
    marks_given (open_now host) (open_now mid) most lanes seen (segments_at host.files.items) (segments_at mid.files.items) at_is seen_is c.grow.ensures.contents
    (map marks_of c.args.lanes.items) (marks_at host.files.items) (marks_at mid.files.items) (marks_at c.take_lanes.new.self.files.items) c.grow.ensures.failed
    c.take_lanes.ensures.failed

pub returns-clause-contents : goal.returns-clause-contents
returns-clause-contents c =
    let host = c.args.self.now in
    let mid = c.grow.new.self in
    let lanes = map (λ lane. Some (pages_of lane)) c.args.lanes.items in
    let seen = map (λ lane. Some (pages_of lane)) c.deref-3.result.now in
    let most = option_map (λ _. room_at host.files.items (string_bytes host.open_path) host.open_seg_blocks) c.args.source in
    let at_is = ap (λ (h : MemHost). open_now h) c.grow.ensures.same in
    let seen_is = ap (λ (l : List MemLane). map (λ lane. Some (pages_of lane)) l) c.deref-3.ensures.value in
    paths_given (open_now host) (open_now mid) most lanes seen (segments_at host.files.items) (segments_at mid.files.items) at_is seen_is c.grow.ensures.contents
    (segments_at c.take_lanes.new.self.files.items) c.take_lanes.ensures.contents

pub returns-clause-failed : goal.returns-clause-failed
returns-clause-failed c =
    let host = c.args.self.now in
    let mid = c.grow.new.self in
    let lanes = map (λ lane. Some (pages_of lane)) c.args.lanes.items in
    let seen = map (λ lane. Some (pages_of lane)) c.deref-3.result.now in
    let most = option_map (λ _. room_at host.files.items (string_bytes host.open_path) host.open_seg_blocks) c.args.source in
    let at_is = ap (λ (h : MemHost). open_now h) c.grow.ensures.same in
    let seen_is = ap (λ (l : List MemLane). map (λ lane. Some (pages_of lane)) l) c.deref-3.ensures.value in
    marks_given (open_now host) (open_now mid) most lanes seen (segments_at host.files.items) (segments_at mid.files.items) at_is seen_is c.grow.ensures.contents
    (map marks_of c.args.lanes.items) (marks_at host.files.items) (marks_at mid.files.items) (marks_at c.take_lanes.new.self.files.items) c.grow.ensures.failed
    c.take_lanes.ensures.failed

pub returns-in-Some-clause-logs : goal.returns-in-Some-clause-logs
returns-in-Some-clause-logs c = c.take_back.ensures.files
    ∙ ap (λ (host : MemHost). logs_after (opened_path host.logs) (Some (as_stored c.in-Some.log)) (logs_at host.logs.files.items)) c.take_lanes.ensures.same
    ∙ ap (λ (host : MemHost). logs_after (opened_path host.logs) (Some (as_stored c.in-Some.log)) (logs_at host.logs.files.items)) c.grow.ensures.same
    ∙ ap (λ (log : Option MemLog). logs_after (opened_path c.args.self.now.logs) (option_map as_stored log) (logs_at c.args.self.now.logs.files.items)) (sym c.in-Some.is)
