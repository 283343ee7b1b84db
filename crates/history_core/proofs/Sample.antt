-- The sample's events are steps.
use Rattle.std.proofs.Common.{false, slice_index_or, lit<, refl, sym, arith}
use Rattle.std.proofs.lemmas.Option.{same_Some}
use Rattle.pin_core.specs.declared.view.View.{View}
use Rattle.pin_core.specs.State.{lane_hold, emptied_view}
use Rattle.history_core.specs.Log.{head_bytes}
use Rattle.history_core.specs.State.{State}
use Rattle.history_core.specs.Lanes.{LaneKind, take_lane, leave_lane, lane_out, read_block, lane_back, CanTakeOut, lane_after}
use Rattle.history_core.specs.Device.{LogKind, take_log, leave_log, log_out, sync_log, log_back, device_after, view_logged}
use Rattle.history_core.specs.Steps.{aside, stepped, laned, rests, goes, lanes, logs, words, state_after_word}
use Rattle.history_core.specs.Words.{load_end, load_flushed, raise_flushed}
use Rattle.history_core.specs.Sample.{short_page, sample_start, sample_lane, sample_log, SampleRuns}
use Rattle.grid.specs.Shape.{put}

abbrev view_of : State → View
view_of s = slice_index_or s.pool.core.views 0 emptied_view

abbrev at_lane : LaneKind → State → State
at_lane k s = record s { pool = aside s.pool 0 (stepped (laned k 0 (view_of s) (view_of s))); lane = put s.lane 0 (lane_after k (s.lane 0)) }

abbrev at_log : LogKind → State → State
at_log k s = record s { pool = aside s.pool 0 (view_logged k (view_of s)); device = device_after k s.end s.device }

abbrev s1 : State
s1 = at_lane take_lane sample_start

abbrev s2 : State
s2 = at_lane (lane_out sample_lane) s1

abbrev s3 : State
s3 = at_lane (read_block 7 short_page) s2

abbrev s4 : State
s4 = at_lane (lane_back false) s3

abbrev s5 : State
s5 = at_lane leave_lane s4

abbrev s6 : State
s6 = at_log take_log s5

abbrev s7 : State
s7 = at_log (log_out sample_log) s6

abbrev s8 : State
s8 = at_log sync_log s7

abbrev s9 : State
s9 = at_log (log_back false) s8

abbrev s10 : State
s10 = state_after_word raise_flushed s9 0 (view_of s9)

abbrev s11 : State
s11 = at_log leave_log s10

abbrev s12 : State
s12 = state_after_word load_flushed s11 0 (view_of s11)

goes_out : CanTakeOut sample_lane (s1.lane 0) (lane_hold (view_of s1) 0)
goes_out = record { held = refl; home = refl; reads = refl; writes = refl; pages = λ blocks k b e at. absurd (cc); marks = λ k m at. absurd (cc) }

pub sample : SampleRuns
sample = (
  record { some_backend = lit< tt; placed = λ tag. lit< tt },
  record { quiet = refl; placed = λ tag. lit< tt; based = omega arith; named = λ tag. refl; synced = omega arith; there = λ tag block known. refl },
  (
    s5,
    state_after_word load_end s12 0 (view_of s12),
    (goes (lanes 0 0 take_lane (view_of sample_start) refl refl (lit< tt) (record { free = refl }) tt)
        (goes (lanes 0 0 (lane_out sample_lane) (view_of s1) refl refl (lit< tt) goes_out tt)
        (goes (lanes 0 0 (read_block 7 short_page) (view_of s2) refl refl (lit< tt) (record { call = record { out = λ e. cc; once = refl }; given = λ e. refl }) refl)
        (goes (lanes 0 0 (lane_back false) (view_of s3) refl refl (lit< tt) (record { out = λ e. cc; counts = λ taken e. record { failed = λ z. absurd (cc); all = λ z. absurd (cc); read_rose = λ z. absurd (grind (arith, e, z)); write_rose = λ z. absurd (grind (arith, e, z)) } }) tt)
        (goes (lanes 0 0 leave_lane (view_of s4) refl refl (lit< tt) (record { held = refl; home = refl }) tt)
        rests))))),
    (goes (logs 0 take_log (view_of s5) refl refl (record { free = refl }) tt)
        (goes (logs 0 (log_out sample_log) (view_of s6) refl refl (record { held = refl; home = refl; faults = refl; synced = refl; down = refl; bytes = λ bytes e. sym (same_Some (head_bytes 0) bytes e) }) tt)
        (goes (logs 0 sync_log (view_of s7) refl refl (record { out = λ e. cc; once = refl; up = refl }) tt)
        (goes (logs 0 (log_back false) (view_of s8) refl refl (record { out = λ e. cc; failed = λ z. absurd (cc); rose = λ taken e z. absurd (grind (arith, e, z)) }) tt)
        (goes (words 0 raise_flushed (view_of s9) refl refl refl)
        (goes (logs 0 leave_log (view_of s10) refl refl (record { held = refl; home = refl; entered = refl }) tt)
        (goes (words 0 load_flushed (view_of s11) refl refl tt)
        (goes (words 0 load_end (view_of s12) refl refl tt)
        rests)))))))),
    record { lane = refl; log = refl; synced = refl; flushed = refl },
  ),
)
