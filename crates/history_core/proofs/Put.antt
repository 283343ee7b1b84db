-- The events of the put are steps.
use Rattle.std.proofs.Common.{◌≡◌, ◌≤◌, ◌+◌, ℕ, Bool, true, false, [], ◌∷◌, ◌++◌, List, None, lit<, refl, sym, ap, append-nil, arith}
use Rattle.std.proofs.lemmas.Option.{same_Some}
use Rattle.state_word.specs.declared.word.IoEnd.TheVariants.{WriteOk}
use lib.ListN.{length-replicate}
use Rattle.page_layout.specs.Fields.{header_of, lsn_of}
use Rattle.page_layout.specs.Soundness.{is_new_page, is_sound_page}
use Rattle.pin_core.specs.declared.view.Io.TheVariants.{Quiet}
use Rattle.pin_core.specs.declared.view.Link.{Link}
use Rattle.pin_core.specs.declared.view.LaneHold.{LaneHold}
use Rattle.pin_core.specs.State.{Page, lane_hold, link}
use Rattle.pin_core.specs.Kinds as pins
use Rattle.pin_core.specs.Steps as pin_steps
use Rattle.pin_core.proofs.Sample.{in_fork}
use Rattle.page_core.proofs.Sample.{at_frame}
use Rattle.page_core.specs.Kinds.{share, unshare, exclude, unexclude, mark_dirty, page_out, overwrite_logged, page_back, begin_write, start_output, clear_just_dirtied, make_entry, note_write, end_io}
use Rattle.page_core.specs.Steps as page_steps
use Rattle.page_core.specs.Steps.{HasNoWriteOut}
use Rattle.history_core.specs.Log.{Change, record_size, head_bytes, records, log_bytes, image, change_size}
use Rattle.history_core.specs.State.{State, last_position}
use Rattle.history_core.specs.Lanes.{take_lane, leave_lane, lane_out, write_block, CanTakeOut, lane_after}
use Rattle.history_core.specs.Device.{LogKind, take_log, leave_log, log_out, append, sync_log, log_back, device_after, view_logged}
use Rattle.history_core.specs.Steps.{CanLog, aside, pool_after, laned, new_entry, has_written, pools, lanes, writes, notes, logs, enters, words, state_after_word, Run, rests, goes}
use Rattle.history_core.specs.Words.{load_flushed, raise_flushed}
use Rattle.history_core.specs.Steps as steps
use Rattle.history_core.specs.Sample.{sample_store, sample_lane, sample_log}
use Rattle.history_core.specs.Miss.{miss_start, miss, fill}
use Rattle.history_core.specs.Put.{IsPut, HasPut, some_page, put_entry, put_bytes, log_with, change, flush, write_out, PutRuns}
use Rattle.history_core.proofs.Logs.{record_length}
use Rattle.history_core.proofs.Miss.{view_at, view_of, pooled, paged, at_lane, noted, m22, filled, run_append, below, at_one_lane}
use Rattle.grid.specs.Shape.{put}

has_room : 0 + record_size ≤ last_position
has_room = omega arith

pub is_flushed : (p : Page) → IsPut p → lsn_of p ≤ record_size
is_flushed p is = omega (arith, is.ends)

abbrev pub at_log : LogKind → State → State
at_log k s = record s { pool = aside s.pool 0 (view_logged k (view_of s)); device = device_after k s.end s.device }

-- the entry of the page p, which the change c makes
abbrev pub entered : Change → Page → State → State
entered c p s = let tag = (s.pool.core.frame 0).tag in let end = s.end + change_size c in record s {
  pool = pool_after (make_entry p) s.pool 0 0 (has_written c (link (view_of s) 0).copied end tag p (steps.paged (make_entry p) s.pool 0 (view_of s)));
  log = record s.log { entries = s.log.entries ++ new_entry s (view_of s).number c ∷ [] };
  end = end;
}

abbrev state_raised : State → State
state_raised s = state_after_word raise_flushed s 0 (view_of s)

abbrev pub loaded_by : ℕ → State → State
loaded_by i s = state_after_word load_flushed s i (view_at i s)

abbrev pub written_by : ℕ → Page → State → State
written_by i p s = record s { pool = pool_after begin_write s.pool i 0 (laned (write_block 0 7 p) 0 (view_at i s) (steps.paged begin_write s.pool 0 (view_at i s))); lane = put s.lane 0 (lane_after (write_block 0 7 p) (s.lane 0)) }

abbrev q1 : Bool → Page → State
q1 may p = paged exclude (m22 may)

abbrev q2 : Bool → Page → State
q2 may p = paged mark_dirty (q1 may p)

abbrev q3 : Bool → Page → State
q3 may p = at_log take_log (q2 may p)

abbrev q4 : Bool → Page → State
q4 may p = at_log (log_out sample_log) (q3 may p)

abbrev q5 : Bool → Page → State
q5 may p = at_log (append 0 7 p (put_bytes p)) (q4 may p)

abbrev q6 : Bool → Page → State
q6 may p = at_log (log_back false) (q5 may p)

abbrev q7 : Bool → Page → State
q7 may p = entered (image 7 p) p (q6 may p)

abbrev q8 : Bool → Page → State
q8 may p = at_log leave_log (q7 may p)

abbrev q9 : Bool → Page → State
q9 may p = paged page_out (q8 may p)

abbrev q10 : Bool → Page → State
q10 may p = paged overwrite_logged (q9 may p)

abbrev q11 : Bool → Page → State
q11 may p = paged page_back (q10 may p)

abbrev pub q12 : Bool → Page → State
q12 may p = paged unexclude (q11 may p)

abbrev q13 : Page → State
q13 p = at_log take_log (q12 false p)

abbrev q14 : Page → State
q14 p = at_log (log_out (log_with p)) (q13 p)

abbrev q15 : Page → State
q15 p = at_log sync_log (q14 p)

abbrev q16 : Page → State
q16 p = at_log (log_back false) (q15 p)

abbrev q17 : Page → State
q17 p = state_raised (q16 p)

abbrev q18 : Page → State
q18 p = at_log leave_log (q17 p)

abbrev pub q19 : Page → State
q19 p = loaded_by 0 (q18 p)

abbrev q20 : Page → State
q20 p = paged share (q19 p)

abbrev q21 : Page → State
q21 p = pooled pins.lock_header (q20 p)

abbrev q22 : Page → State
q22 p = paged start_output (q21 p)

abbrev q23 : Page → State
q23 p = pooled pins.lock_header (q22 p)

abbrev q24 : Page → State
q24 p = paged clear_just_dirtied (q23 p)

abbrev q25 : Page → State
q25 p = at_lane take_lane (q24 p)

abbrev q26 : Page → State
q26 p = at_lane (lane_out sample_lane) (q25 p)

abbrev q27 : Page → State
q27 p = written_by 0 p (q26 p)

abbrev q28 : Page → State
q28 p = noted (note_write true) (q27 p)

abbrev q29 : Page → State
q29 p = at_lane leave_lane (q28 p)

abbrev q30 : Page → State
q30 p = pooled pins.lock_header (q29 p)

abbrev q31 : Page → State
q31 p = paged (end_io WriteOk) (q30 p)

abbrev pub q32 : Page → State
q32 p = paged unshare (q31 p)

takes_out : (p : Page) → CanTakeOut sample_lane ((q25 p).lane 0) (lane_hold (view_of (q25 p)) 0)
takes_out p = record { held = refl; home = refl; reads = refl; writes = refl; pages = λ blocks k b e at. absurd (cc); marks = λ k m at. absurd (cc) }

none_out : (p : Page) → HasNoWriteOut (view_of (q30 p)) 0
none_out p n out = absurd (out (at_one_lane (λ (h : LaneHold). h.out ≡ None) (view_of (q30 p)) _ refl refl refl n))

may_log : (may : Bool) (p : Page) → IsPut p → CanLog (q4 may p) 0 7 p (image 7 p) (view_of (q4 may p))
may_log may p is = record { inside = lit< tt; tagged = refl; right = record { right = refl; dirtied = refl; applied = refl; sound = is.sound; used = is.used }; around = record { block = in_fork; none = at_frame (λ (l : Link). l.unapplied ≡ false) (view_of (q4 may p)) _ refl refl refl }; full = is.full; ends = is.ends; room = has_room; makes = (refl, refl); past = tt; allowed = tt }

pub changes : (may : Bool) (p : Page) → IsPut p → Run (change p) (m22 may) (q12 may p)
changes may p is = goes (pools (page_steps.touches 0 0 exclude (view_of (m22 may)) refl refl (lit< tt) (record { pinned = λ e. cc; seen = refl; none = refl; free = refl; alone = refl; no_copy = refl }) tt) tt)
    (goes (pools (page_steps.touches 0 0 mark_dirty (view_of (q1 may p)) refl refl (lit< tt) (record { unlocked = refl; right = refl }) tt) tt)
    (goes (logs 0 take_log (view_of (q2 may p)) refl refl (record { free = refl }) tt)
    (goes (logs 0 (log_out sample_log) (view_of (q3 may p)) refl refl (record { held = refl; home = refl; faults = refl; synced = refl; down = refl; bytes = λ bytes e. sym (same_Some (head_bytes 0) bytes e) }) tt)
    (goes (logs 0 (append 0 7 p (put_bytes p)) (view_of (q4 may p)) refl refl (record { call = record { out = λ e. cc; once = refl; up = refl }; entered = refl; unsynced = refl; short = (let x = record_length sample_store.names 0 record_size (image 7 p) (λ tag. refl) (record { sound = is.sound; used = is.used; full = is.full; ends = is.ends }) in omega arith) }) (image 7 p, may_log may p is, refl))
    (goes (logs 0 (log_back false) (view_of (q5 may p)) refl refl (record { out = λ e. cc; failed = λ z. absurd (cc); rose = λ taken e z. below taken.faults z }) tt)
    (goes (enters 0 0 p (image 7 p) (view_of (q6 may p)) refl refl (lit< tt) (record { right = record { right = refl; dirtied = refl; applied = refl; sound = is.sound; used = is.used }; around = record { block = in_fork; none = at_frame (λ (l : Link). l.unapplied ≡ false) (view_of (q6 may p)) _ refl refl refl }; full = is.full; ends = is.ends; room = has_room; makes = (refl, refl); past = tt; allowed = tt; appended = refl }))
    (goes (logs 0 leave_log (view_of (q7 may p)) refl refl (record { held = refl; home = refl; entered = refl }) tt)
    (goes (pools (page_steps.touches 0 0 page_out (view_of (q8 may p)) refl refl (lit< tt) (record { page_home = refl; shared = λ e. absurd (cc); unlocked = λ e. absurd (cc) }) tt) tt)
    (goes (pools (page_steps.touches 0 0 overwrite_logged (view_of (q9 may p)) refl refl (lit< tt) (record { out = λ e. cc; once = refl; unapplied = refl }) tt) tt)
    (goes (pools (page_steps.touches 0 0 page_back (view_of (q10 may p)) refl refl (lit< tt) (record { out = λ e. cc }) tt) tt)
    (goes (pools (page_steps.touches 0 0 unexclude (view_of (q11 may p)) refl refl (lit< tt) (record { right = refl; applied = refl; page_home = refl }) tt) tt)
    rests)))))))))))

pub flushes : (p : Page) → IsPut p → Run (flush p) (q12 false p) (q19 p)
flushes p is = goes (logs 0 take_log (view_of (q12 false p)) refl refl (record { free = refl }) tt)
    (goes (logs 0 (log_out (log_with p)) (view_of (q13 p)) refl refl (record { held = refl; home = refl; faults = refl; synced = refl; down = refl; bytes = λ bytes e. sym (same_Some (head_bytes 0 ++ put_bytes p) bytes e) }) tt)
    (goes (logs 0 sync_log (view_of (q14 p)) refl refl (record { out = λ e. cc; once = refl; up = refl }) tt)
    (goes (logs 0 (log_back false) (view_of (q15 p)) refl refl (record { out = λ e. cc; failed = λ z. absurd (cc); rose = λ taken e z. below taken.faults z }) tt)
    (goes (words 0 raise_flushed (view_of (q16 p)) refl refl refl)
    (goes (logs 0 leave_log (view_of (q17 p)) refl refl (record { held = refl; home = refl; entered = refl }) tt)
    (goes (words 0 load_flushed (view_of (q18 p)) refl refl tt)
    rests))))))

pub writes_out : (p : Page) → IsPut p → Run (write_out 0 p) (q19 p) (q32 p)
writes_out p is = goes (pools (page_steps.touches 0 0 share (view_of (q19 p)) refl refl (lit< tt) (record { pinned = λ e. cc; seen = refl; none = refl; free = refl }) tt) tt)
    (goes (pools (page_steps.cores (pin_steps.touches 0 0 pins.lock_header (view_of (q20 p)) refl refl (lit< tt) (record { unlocked = refl }) (at_frame (λ (l : Link). l.header ≡ None) (view_of (q20 p)) _ refl refl refl))) tt)
    (goes (pools (page_steps.touches 0 0 start_output (view_of (q21 p)) refl refl (lit< tt) (record { held = refl; settled = refl; pinned = λ e. cc; clear = refl; dirty = refl; right = refl }) (at_frame (λ (l : Link). l.io ≡ Quiet) (view_of (q21 p)) _ refl refl refl)) tt)
    (goes (pools (page_steps.cores (pin_steps.touches 0 0 pins.lock_header (view_of (q22 p)) refl refl (lit< tt) (record { unlocked = refl }) (at_frame (λ (l : Link). l.header ≡ None) (view_of (q22 p)) _ refl refl refl))) tt)
    (goes (pools (page_steps.touches 0 0 clear_just_dirtied (view_of (q23 p)) refl refl (lit< tt) (record { held = refl; right = refl }) tt) tt)
    (goes (lanes 0 0 take_lane (view_of (q24 p)) refl refl (lit< tt) (record { free = refl }) tt)
    (goes (lanes 0 0 (lane_out sample_lane) (view_of (q25 p)) refl refl (lit< tt) (takes_out p) tt)
    (goes (writes 0 0 0 (write_block 0 7 p) (view_of (q26 p)) refl refl (lit< tt) (lit< tt) (record { out = λ e. cc; once = refl }) (refl, record { tagged = refl; lane = refl; page = refl; right = record { right = refl }; log_first = is_flushed p is }))
    (goes (notes 0 0 0 false (note_write true) (view_of (q27 p)) refl refl (lit< tt) (lit< tt) (record { out = λ e. cc; counts = λ taken e. record { failed = λ z. absurd (cc); all = λ z. absurd (cc); read_rose = λ z. below taken.read_faults z; write_rose = λ z. below taken.write_faults z } }) (p, record { was_written = refl; lane = refl; page = refl; right = record { right = refl } }))
    (goes (lanes 0 0 leave_lane (view_of (q28 p)) refl refl (lit< tt) (record { held = refl; home = refl }) tt)
    (goes (pools (page_steps.cores (pin_steps.touches 0 0 pins.lock_header (view_of (q29 p)) refl refl (lit< tt) (record { unlocked = refl }) (at_frame (λ (l : Link). l.header ≡ None) (view_of (q29 p)) _ refl refl refl))) tt)
    (goes (pools (page_steps.touches 0 0 (end_io WriteOk) (view_of (q30 p)) refl refl (lit< tt) (record { held = refl; page_home = λ e. absurd (cc); ends = record { right = refl; written = refl } }) (none_out p)) tt)
    (goes (pools (page_steps.touches 0 0 unshare (view_of (q31 p)) refl refl (lit< tt) (record { right = refl; no_copy = refl; no_output = λ e. cc; page_home = refl }) tt) tt)
    rests))))))))))))

-- the bytes of a log of this one entry
pub one_record : (p : Page) → head_bytes 0 ++ put_bytes p ≡ log_bytes sample_store.names (record { base = 0; entries = put_entry p ∷ [] })
unfolding records
one_record p = ap (λ (l : List ℕ). head_bytes 0 ++ l) (sym (append-nil (put_bytes p)))

pub may_put : IsPut some_page
unfolding is_sound_page is_new_page header_of lsn_of
may_put = record { sound = refl; used = refl; full = omega (arith, length-replicate {A = ℕ} 8168 0); ends = refl }

every_put : (p : Page) → IsPut p → (t : State) × Run (miss ++ fill ++ change p ++ flush p ++ write_out 0 p) miss_start t × HasPut p t
every_put p is = (
  q32 p,
  run_append (filled false) (run_append (changes false p is) (run_append (flushes p is) (writes_out p is))),
  record { lane = refl; held = refl; clean = refl; logged = refl; bytes = one_record p; durable = refl; flushed = refl; called = (_, refl, refl, refl) },
)

pub puts : PutRuns
puts = (may_put, every_put)
