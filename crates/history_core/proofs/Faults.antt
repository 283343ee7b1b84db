-- The events of the calls that fail are steps.
use Rattle.std.proofs.Common.{◌≡◌, ◌<◌, true, false, ◌++◌, Some, None, lit<, refl, ap, arith}
use Rattle.std.proofs.lemmas.Option.{same_Some}
use Rattle.state_word.specs.declared.word.IoEnd.TheVariants.{Bad}
use Rattle.pin_core.specs.declared.view.Link.{Link}
use Rattle.pin_core.specs.declared.view.LaneHold.{LaneHold}
use Rattle.pin_core.specs.declared.view.TakenLane.{TakenLane}
use Rattle.pin_core.specs.Kinds as pins
use Rattle.pin_core.specs.Steps as pin_steps
use Rattle.page_core.proofs.Sample.{at_frame}
use Rattle.page_core.specs.Kinds.{end_io}
use Rattle.page_core.specs.Steps as page_steps
use Rattle.page_core.specs.Steps.{HasNoWriteOut}
use Rattle.history_core.specs.State.{State}
use Rattle.history_core.specs.Lanes.{take_lane, leave_lane, lane_out, fail_read, sync_lane, fail_sync, lane_back, Rises}
use Rattle.history_core.specs.Steps.{pools, lanes, Run, rests, goes}
use Rattle.history_core.specs.Sample.{sample_lane}
use Rattle.history_core.specs.Faults.{faulted_lane, fail_input, sync_twice, FaultRuns}
use Rattle.history_core.proofs.Miss.{view_of, pooled, paged, at_lane, m12, m13, m14, begun, goes_out, run_append, below, at_one_lane}

abbrev f1 : State
f1 = at_lane (fail_read 7 1) (m14 false)

abbrev f2 : State
f2 = at_lane (lane_back true) f1

abbrev f3 : State
f3 = at_lane leave_lane f2

abbrev f4 : State
f4 = pooled pins.lock_header f3

abbrev f5 : State
f5 = paged (end_io Bad) f4

abbrev f6 : State
f6 = at_lane take_lane f5

abbrev f7 : State
f7 = at_lane (lane_out faulted_lane) f6

abbrev f8 : State
f8 = at_lane sync_lane f7

abbrev f9 : State
f9 = at_lane (lane_back false) f8

abbrev f10 : State
f10 = at_lane (lane_out faulted_lane) f9

abbrev f11 : State
f11 = at_lane (fail_sync 1) f10

abbrev f12 : State
f12 = at_lane (lane_back true) f11

abbrev f13 : State
f13 = at_lane leave_lane f12

rose : Rises 0 1
rose = record { least = omega arith; within = omega arith }

-- no further read has failed
read_once : (taken : TakenLane) → Some faulted_lane ≡ Some taken → taken.read_faults < 1 → false ≡ true
read_once taken e less = let x = ap (λ (t : TakenLane). t.read_faults) (same_Some faulted_lane taken e) in absurd (omega arith)

no_write_out : HasNoWriteOut (view_of f4) 0
no_write_out n out = absurd (out (at_one_lane (λ (h : LaneHold). h.out ≡ None) (view_of f4) _ refl refl refl n))

fails : Run (fail_input ++ sync_twice) (m12 false) f13
fails = goes (lanes 0 0 take_lane (view_of (m12 false)) refl refl (lit< tt) (record { free = refl }) tt)
    (goes (lanes 0 0 (lane_out sample_lane) (view_of (m13 false)) refl refl (lit< tt) (goes_out false) tt)
    (goes (lanes 0 0 (fail_read 7 1) (view_of (m14 false)) refl refl (lit< tt) (record { call = record { out = λ e. cc; once = refl }; rises = rose }) refl)
    (goes (lanes 0 0 (lane_back true) (view_of f1) refl refl (lit< tt) (record { out = λ e. cc; counts = λ taken e. record { failed = λ z. refl; all = λ z. refl; read_rose = λ z. refl; write_rose = λ z. refl } }) tt)
    (goes (lanes 0 0 leave_lane (view_of f2) refl refl (lit< tt) (record { held = refl; home = refl }) tt)
    (goes (pools (page_steps.cores (pin_steps.touches 0 0 pins.lock_header (view_of f3) refl refl (lit< tt) (record { unlocked = refl }) (at_frame (λ (l : Link). l.header ≡ None) (view_of f3) _ refl refl refl))) tt)
    (goes (pools (page_steps.touches 0 0 (end_io Bad) (view_of f4) refl refl (lit< tt) (record { held = refl; page_home = λ e. refl; ends = λ e. cc }) no_write_out) tt)
    (goes (lanes 0 0 take_lane (view_of f5) refl refl (lit< tt) (record { free = refl }) tt)
    (goes (lanes 0 0 (lane_out faulted_lane) (view_of f6) refl refl (lit< tt) (record { held = refl; home = refl; reads = refl; writes = refl; pages = λ blocks k b e at. absurd (cc); marks = λ k m at. absurd (cc) }) tt)
    (goes (lanes 0 0 sync_lane (view_of f7) refl refl (lit< tt) (record { out = λ e. cc; once = refl }) tt)
    (goes (lanes 0 0 (lane_back false) (view_of f8) refl refl (lit< tt) (record { out = λ e. cc; counts = λ taken e. record { failed = λ z. absurd (cc); all = λ z. absurd (cc); read_rose = read_once taken e; write_rose = λ z. below taken.write_faults z } }) tt)
    (goes (lanes 0 0 (lane_out faulted_lane) (view_of f9) refl refl (lit< tt) (record { held = refl; home = refl; reads = refl; writes = refl; pages = λ blocks k b e at. absurd (cc); marks = λ k m at. absurd (cc) }) tt)
    (goes (lanes 0 0 (fail_sync 1) (view_of f10) refl refl (lit< tt) (record { call = record { out = λ e. cc; once = refl }; rises = rose }) tt)
    (goes (lanes 0 0 (lane_back true) (view_of f11) refl refl (lit< tt) (record { out = λ e. cc; counts = λ taken e. record { failed = λ z. refl; all = λ z. refl; read_rose = λ z. refl; write_rose = λ z. refl } }) tt)
    (goes (lanes 0 0 leave_lane (view_of f12) refl refl (lit< tt) (record { held = refl; home = refl }) tt)
    rests))))))))))))))

pub faults : FaultRuns
faults = (f13, run_append (begun false) fails, record { word = refl; free = refl; read_faults = refl; write_faults = refl; counted = (view_of f13, refl, refl, refl) })
