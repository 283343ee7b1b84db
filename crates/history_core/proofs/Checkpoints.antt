-- The events of the checkpoint are steps.
use Rattle.std.proofs.Common.{◌≡◌, true, false, None, lit<, refl, arith}
use Rattle.state_word.specs.declared.word.IoEnd.TheVariants.{WriteOk}
use Rattle.pin_core.specs.declared.view.Io.TheVariants.{Quiet}
use Rattle.pin_core.specs.declared.view.Link.{Link}
use Rattle.pin_core.specs.declared.view.LaneHold.{LaneHold}
use Rattle.pin_core.specs.declared.view.PartitionHold.{PartitionHold}
use Rattle.pin_core.specs.State.{Page, split_state, joined_state, kept_checkpoint}
use Rattle.pin_core.specs.Kinds as pins
use Rattle.pin_core.specs.Steps as pin_steps
use Rattle.pin_core.specs.Steps.{HoldsNothingAt, HoldsNothing}
use Rattle.pin_core.proofs.Sample.{at_partition}
use Rattle.page_core.proofs.Sample.{at_frame}
use Rattle.page_core.specs.Kinds.{share, unshare, start_output, clear_just_dirtied, note_write, end_io, need_checkpoint}
use Rattle.page_core.specs.Steps as page_steps
use Rattle.page_core.specs.Steps.{HasNoWriteOut}
use Rattle.history_core.specs.State.{State}
use Rattle.history_core.specs.Lanes.{take_lane, leave_lane, lane_out, write_block, sync_lane, lane_back}
use Rattle.history_core.specs.Steps.{pools, lanes, writes, notes, words, state_after_word, Run, rests, goes}
use Rattle.history_core.specs.Words.{load_flushed, begin_checkpoint}
use Rattle.history_core.specs.Sample.{sample_lane}
use Rattle.history_core.specs.Put.{IsPut}
use Rattle.history_core.specs.Checkpoints.{begin, write, drop, sync, join, HasStored, CheckpointRuns}
use Rattle.history_core.proofs.Miss.{view_of, at_lane_by, noted_by, filled, run_append, below, at_one_lane}
use Rattle.history_core.proofs.Put.{q19, loaded_by, written_by, changes, flushes, is_flushed}
use Rattle.history_core.proofs.Evictions.{second_of, second_pooled, second_paged}

abbrev split_at : State → State
split_at s = record s { pool = record s.pool { core = split_state s.pool.core (view_of s) } }

abbrev begun_at : State → State
begun_at s = state_after_word begin_checkpoint s 1 (second_of s)

abbrev joined_at : State → State
joined_at s = record s { pool = record s.pool { core = joined_state s.pool.core (view_of s) 1 (second_of s) } }

abbrev c1 : Page → State
c1 p = split_at (q19 p)

abbrev c2 : Page → State
c2 p = begun_at (c1 p)

abbrev c3 : Page → State
c3 p = second_pooled pins.lock_header (c2 p)

abbrev c4 : Page → State
c4 p = second_paged need_checkpoint (c3 p)

abbrev c5 : Page → State
c5 p = second_pooled (pins.pin false) (c4 p)

abbrev c6 : Page → State
c6 p = second_pooled pins.load_state (c5 p)

abbrev c7 : Page → State
c7 p = loaded_by 1 (c6 p)

abbrev c8 : Page → State
c8 p = second_paged share (c7 p)

abbrev c9 : Page → State
c9 p = second_pooled pins.lock_header (c8 p)

abbrev c10 : Page → State
c10 p = second_paged start_output (c9 p)

abbrev c11 : Page → State
c11 p = second_pooled pins.lock_header (c10 p)

abbrev c12 : Page → State
c12 p = second_paged clear_just_dirtied (c11 p)

abbrev c13 : Page → State
c13 p = at_lane_by 1 take_lane (c12 p)

abbrev c14 : Page → State
c14 p = at_lane_by 1 (lane_out sample_lane) (c13 p)

abbrev c15 : Page → State
c15 p = written_by 1 p (c14 p)

abbrev c16 : Page → State
c16 p = noted_by 1 (note_write true) (c15 p)

abbrev c17 : Page → State
c17 p = at_lane_by 1 leave_lane (c16 p)

abbrev c18 : Page → State
c18 p = second_pooled pins.lock_header (c17 p)

abbrev c19 : Page → State
c19 p = second_paged (end_io WriteOk) (c18 p)

abbrev c20 : Page → State
c20 p = second_paged unshare (c19 p)

abbrev c21 : Page → State
c21 p = second_pooled pins.unpin (c20 p)

abbrev c22 : Page → State
c22 p = second_pooled pins.load_state (c21 p)

abbrev c23 : Page → State
c23 p = at_lane_by 1 take_lane (c22 p)

abbrev c24 : Page → State
c24 p = at_lane_by 1 (lane_out sample_lane) (c23 p)

abbrev c25 : Page → State
c25 p = at_lane_by 1 sync_lane (c24 p)

abbrev c26 : Page → State
c26 p = at_lane_by 1 (lane_back false) (c25 p)

abbrev c27 : Page → State
c27 p = at_lane_by 1 leave_lane (c26 p)

abbrev c28 : Page → State
c28 p = joined_at (c27 p)

none_out : (p : Page) → HasNoWriteOut (second_of (c18 p)) 0
none_out p n out = absurd (out (at_one_lane (λ (h : LaneHold). h.out ≡ None) (second_of (c18 p)) _ refl refl refl n))

begins_there : (p : Page) → Run begin (q19 p) (c4 p)
begins_there p = goes (pools (page_steps.cores (pin_steps.splits (view_of (q19 p)) refl (lit< tt))) tt)
    (goes (words 1 begin_checkpoint (second_of (c1 p)) refl refl tt)
    (goes (pools (page_steps.cores (pin_steps.touches 1 0 pins.lock_header (second_of (c2 p)) refl refl (lit< tt) (record { unlocked = refl }) (at_frame (λ (l : Link). l.header ≡ None) (second_of (c2 p)) _ refl refl refl))) tt)
    (goes (pools (page_steps.touches 1 0 need_checkpoint (second_of (c3 p)) refl refl (lit< tt) (record { held = refl; settled = refl; dirty = refl }) tt) tt)
    rests)))

writes_there : (p : Page) → IsPut p → Run (write p) (c4 p) (c20 p)
writes_there p is = goes (pools (page_steps.cores (pin_steps.touches 1 0 (pins.pin false) (second_of (c4 p)) refl refl (lit< tt) (record { unlocked = refl; absent = refl; tagged = refl }) tt)) tt)
    (goes (pools (page_steps.cores (pin_steps.touches 1 0 pins.load_state (second_of (c5 p)) refl refl (lit< tt) tt tt)) tt)
    (goes (words 1 load_flushed (second_of (c6 p)) refl refl tt)
    (goes (pools (page_steps.touches 1 0 share (second_of (c7 p)) refl refl (lit< tt) (record { pinned = λ e. cc; seen = refl; none = refl; free = refl }) tt) tt)
    (goes (pools (page_steps.cores (pin_steps.touches 1 0 pins.lock_header (second_of (c8 p)) refl refl (lit< tt) (record { unlocked = refl }) (at_frame (λ (l : Link). l.header ≡ None) (second_of (c8 p)) _ refl refl refl))) tt)
    (goes (pools (page_steps.touches 1 0 start_output (second_of (c9 p)) refl refl (lit< tt) (record { held = refl; settled = refl; pinned = λ e. cc; clear = refl; dirty = refl; right = refl }) (at_frame (λ (l : Link). l.io ≡ Quiet) (second_of (c9 p)) _ refl refl refl)) tt)
    (goes (pools (page_steps.cores (pin_steps.touches 1 0 pins.lock_header (second_of (c10 p)) refl refl (lit< tt) (record { unlocked = refl }) (at_frame (λ (l : Link). l.header ≡ None) (second_of (c10 p)) _ refl refl refl))) tt)
    (goes (pools (page_steps.touches 1 0 clear_just_dirtied (second_of (c11 p)) refl refl (lit< tt) (record { held = refl; right = refl }) tt) tt)
    (goes (lanes 1 0 take_lane (second_of (c12 p)) refl refl (lit< tt) (record { free = refl }) tt)
    (goes (lanes 1 0 (lane_out sample_lane) (second_of (c13 p)) refl refl (lit< tt) (record { held = refl; home = refl; reads = refl; writes = refl; pages = λ blocks k b e at. absurd (cc); marks = λ k m at. absurd (cc) }) tt)
    (goes (writes 1 0 0 (write_block 0 7 p) (second_of (c14 p)) refl refl (lit< tt) (lit< tt) (record { out = λ e. cc; once = refl }) (refl, record { tagged = refl; lane = refl; page = refl; right = record { right = refl }; log_first = is_flushed p is }))
    (goes (notes 1 0 0 false (note_write true) (second_of (c15 p)) refl refl (lit< tt) (lit< tt) (record { out = λ e. cc; counts = λ taken e. record { failed = λ z. absurd (cc); all = λ z. absurd (cc); read_rose = λ z. below taken.read_faults z; write_rose = λ z. below taken.write_faults z } }) (p, record { was_written = refl; lane = refl; page = refl; right = record { right = refl } }))
    (goes (lanes 1 0 leave_lane (second_of (c16 p)) refl refl (lit< tt) (record { held = refl; home = refl }) tt)
    (goes (pools (page_steps.cores (pin_steps.touches 1 0 pins.lock_header (second_of (c17 p)) refl refl (lit< tt) (record { unlocked = refl }) (at_frame (λ (l : Link). l.header ≡ None) (second_of (c17 p)) _ refl refl refl))) tt)
    (goes (pools (page_steps.touches 1 0 (end_io WriteOk) (second_of (c18 p)) refl refl (lit< tt) (record { held = refl; page_home = λ e. absurd (cc); ends = record { right = refl; written = refl } }) (none_out p)) tt)
    (goes (pools (page_steps.touches 1 0 unshare (second_of (c19 p)) refl refl (lit< tt) (record { right = refl; no_copy = refl; no_output = λ e. cc; page_home = refl }) tt) tt)
    rests)))))))))))))))

drops : (p : Page) → Run drop (c20 p) (c22 p)
drops p = goes (pools (page_steps.cores (pin_steps.touches 1 0 pins.unpin (second_of (c20 p)) refl refl (lit< tt) (record { unlocked = refl; pinned = λ e. cc; no_content = refl; no_io = refl; no_wait = refl; unnoted = refl }) tt)) tt)
    (goes (pools (page_steps.cores (pin_steps.touches 1 0 pins.load_state (second_of (c21 p)) refl refl (lit< tt) tt tt)) tt)
    rests)

syncs : (p : Page) → Run sync (c22 p) (c27 p)
syncs p = goes (lanes 1 0 take_lane (second_of (c22 p)) refl refl (lit< tt) (record { free = refl }) tt)
    (goes (lanes 1 0 (lane_out sample_lane) (second_of (c23 p)) refl refl (lit< tt) (record { held = refl; home = refl; reads = refl; writes = refl; pages = λ blocks k b e at. absurd (cc); marks = λ k m at. absurd (cc) }) tt)
    (goes (lanes 1 0 sync_lane (second_of (c24 p)) refl refl (lit< tt) (record { out = λ e. cc; once = refl }) tt)
    (goes (lanes 1 0 (lane_back false) (second_of (c25 p)) refl refl (lit< tt) (record { out = λ e. cc; counts = λ taken e. record { failed = λ z. absurd (cc); all = λ z. absurd (cc); read_rose = λ z. below taken.read_faults z; write_rose = λ z. below taken.write_faults z } }) tt)
    (goes (lanes 1 0 leave_lane (second_of (c26 p)) refl refl (lit< tt) (record { held = refl; home = refl }) tt)
    rests))))

holds_nothing : (p : Page) → HoldsNothing (second_of (c27 p))
holds_nothing p = record { frames = at_frame (λ (l : Link). HoldsNothingAt l) (second_of (c27 p)) _ refl (record { no_pin = refl; no_header = refl; no_content = refl; no_io = refl; page_home = refl; no_wait = refl }) (record { no_pin = refl; no_header = refl; no_content = refl; no_io = refl; page_home = refl; no_wait = refl }); partitions = at_partition (λ (h : PartitionHold). h.held ≡ false) (second_of (c27 p)) _ refl refl refl; lanes = at_one_lane (λ (h : LaneHold). h.held ≡ false) (second_of (c27 p)) _ refl refl refl; sizes = refl; log = refl }

joins_there : (p : Page) → Run join (c27 p) (c28 p)
joins_there p = goes (pools (page_steps.cores (pin_steps.joins 1 (view_of (c27 p)) (second_of (c27 p)) refl (λ e. cc) refl refl (holds_nothing p))) tt) rests

stores : (p : Page) → IsPut p → HasStored p (c28 p)
stores p is = record { lane = refl; durable = (let e = is.ends in omega arith); clean = refl; joined = refl; ended = (view_of (c28 p), kept_checkpoint (second_of (c27 p)), refl, refl, refl, refl, refl, refl) }

pub checkpoints : CheckpointRuns
checkpoints p is = (c28 p, run_append (filled false) (run_append (changes false p is) (run_append (flushes p is) (run_append (begins_there p) (run_append (writes_there p is) (run_append (drops p) (run_append (syncs p) (joins_there p))))))), stores p is)
