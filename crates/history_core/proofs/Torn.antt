-- The events of the two crashes are steps.
use Rattle.std.proofs.Common.{◌≡◌, inl, ℕ, ◌+◌, ◌<◌, ◌≤◌, true, false, [], ◌∷◌, ◌++◌, List, length, length-append, take, drop, Option, Some, None, lit<, refl, sym, ap, ◌∙◌, subst, arith}
use Rattle.std.proofs.lemmas.Option.{same_Some}
use Rattle.std.proofs.lemmas.List.{take-append-drop, length-take}
use mathlib.Core.Option.{some, some-ne-none}
use lib.ListN.{get_elem?, length-replicate}
use Rattle.state_word.specs.declared.word.IoEnd.TheVariants.{WriteOk}
use Rattle.page_layout.specs.Fields.{header_of, lsn_of}
use Rattle.page_layout.specs.Soundness.{is_new_page, is_sound_page}
use Rattle.pin_core.specs.declared.view.Io.TheVariants.{Quiet}
use Rattle.pin_core.specs.declared.view.Link.{Link}
use Rattle.pin_core.specs.declared.view.LaneHold.{LaneHold}
use Rattle.pin_core.specs.State.{Page, lane_hold}
use Rattle.pin_core.specs.Kinds as pins
use Rattle.pin_core.specs.Steps as pin_steps
use Rattle.pin_core.proofs.Sample.{in_fork}
use Rattle.page_core.proofs.Sample.{at_frame}
use Rattle.page_core.specs.Kinds.{share, unshare, exclude, unexclude, mark_dirty, start_output, clear_just_dirtied, note_write, end_io}
use Rattle.page_core.specs.Sample.{example_page}
use Rattle.page_core.specs.Steps as page_steps
use Rattle.page_core.specs.Steps.{HasNoWriteOut}
use Rattle.history_core.specs.Log.{Entry, Change, image, ranges, resize, record_size, head_bytes, record_bytes, log_bytes, change_size, IsChange, end_of, cell}
use Rattle.history_core.specs.State.{State, last_position, stored}
use Rattle.history_core.specs.Lanes.{take_lane, leave_lane, lane_out, write_block, CanTakeOut}
use Rattle.history_core.specs.Device.{take_log, log_out, fail_append}
use Rattle.history_core.specs.Steps.{CanLog, pools, lanes, writes, notes, logs, Run, rests, goes}
use Rattle.history_core.specs.Sample.{sample_store, sample_lane}
use Rattle.history_core.specs.Put.{put_entry, put_bytes, write_out}
use Rattle.history_core.specs.Crashes.{Survives, first, one_more}
use Rattle.history_core.specs.Torn.{IsNext, later_page, torn_record, synced_log, tear, HasTorn, refuse, HasRefused, TornRuns, RefusedRuns, CrashRuns}
use Rattle.history_core.proofs.Logs.{changed_image, cell_longer, cell_none}
use Rattle.history_core.proofs.Miss.{view_of, pooled, paged, at_lane, noted, m22, filled, run_append, below, at_one_lane}
use Rattle.history_core.proofs.Put.{at_log, q32, written_by, changes, flushes, writes_out, one_record}
use Rattle.grid.specs.Shape.{put}
use Rattle.grid.proofs.Lists.{put_else}

abbrev c1 : Page → State
c1 p = paged exclude (q32 p)

abbrev c2 : Page → State
c2 p = paged mark_dirty (c1 p)

abbrev c3 : Page → State
c3 p = at_log take_log (c2 p)

abbrev c4 : Page → State
c4 p = at_log (log_out (synced_log p)) (c3 p)

abbrev c5 : Page → Page → ℕ → State
c5 p q n = at_log (fail_append 0 7 q (torn_record q n) 1) (c4 p)

abbrev next_entry : Page → Entry
next_entry q = record { start = record_size; backend = 0; change = image 7 q }

next_room : record_size + record_size ≤ last_position
next_room = omega arith

torn_length : (q : Page) (n : ℕ) → length (torn_record q n) ≤ n
torn_length q n = omega (arith, length-take n (record_bytes sample_store.names (next_entry q)))

may_log : (p q : Page) → IsNext q → CanLog (c4 p) 0 7 q (image 7 q) (view_of (c4 p))
may_log p q is = record { inside = lit< tt; tagged = refl; right = record { right = refl; dirtied = refl; applied = refl; sound = is.sound; used = is.used }; around = record { block = in_fork; none = at_frame (λ (l : Link). l.unapplied ≡ false) (view_of (c4 p)) _ refl refl refl }; full = is.full; ends = is.ends; room = next_room; makes = (refl, refl); past = tt; allowed = tt }

tears : (p q : Page) (n : ℕ) → IsNext q → n < 32 → Run (tear p q n) (q32 p) (c5 p q n)
tears p q n is few = goes (pools (page_steps.touches 0 0 exclude (view_of (q32 p)) refl refl (lit< tt) (record { pinned = λ e. cc; seen = refl; none = refl; free = refl; alone = refl; no_copy = refl }) tt) tt)
    (goes (pools (page_steps.touches 0 0 mark_dirty (view_of (c1 p)) refl refl (lit< tt) (record { unlocked = refl; right = refl }) tt) tt)
    (goes (logs 0 take_log (view_of (c2 p)) refl refl (record { free = refl }) tt)
    (goes (logs 0 (log_out (synced_log p)) (view_of (c3 p)) refl refl (record { held = refl; home = refl; faults = refl; synced = refl; down = refl; bytes = λ bytes e. sym (same_Some (head_bytes 0 ++ put_bytes p) bytes e) }) tt)
    (goes (logs 0 (fail_append 0 7 q (torn_record q n) 1) (view_of (c4 p)) refl refl (record { call = record { out = λ e. cc; once = refl; up = refl }; rises = record { least = omega arith; within = omega arith }; entered = refl; unsynced = refl; part = omega (arith, torn_length q n) }) (image 7 q, may_log p q is, record { rest = drop n (record_bytes sample_store.names (next_entry q)); begins = take-append-drop n (record_bytes sample_store.names (next_entry q)) }))
    rests))))

-- only the block 7 was written since the sync
other_block : (written : ℕ → Option Page) (torn : Option Page) (tag : ℕ) → put (λ (z : ℕ). false) 7 true tag ≡ false → put written 7 torn tag ≡ written tag
other_block written torn tag synced = put_else written 7 torn tag (λ e. let is : put (λ (z : ℕ). false) 7 true 7 ≡ false = subst (λ (z : ℕ). put (λ (y : ℕ). false) 7 true z ≡ false) e synced in absurd (cc))

-- an entry's record is no shorter than its head
head_there : (end : ℕ) (c : Change) → IsChange end c → 32 ≤ change_size c
head_there end (image tag p) valid = omega arith
head_there end (ranges tag spans) valid = omega arith
head_there end (resize fork old new) valid = omega arith

module _ (p q : Page) (n : ℕ) (few : n < 32) where
  abbrev t : State
  t = c5 p q n

  device_is : t.device.bytes ≡ log_bytes t.names t.log ++ torn_record q n
  device_is = ap (λ (l : List ℕ). l ++ torn_record q n) (one_record p)

  is_first : (es rest : List Entry) → put_entry p ∷ [] ≡ es ++ rest → ((k : ℕ) (e : Entry) → get_elem? rest k ≡ some e → record_size < end_of e) → es ≡ put_entry p ∷ []
  is_first [] rest is high = let low = high 0 (put_entry p) (subst (λ (l : List Entry). get_elem? l 0 ≡ some (put_entry p)) is refl) in absurd (omega arith)
  is_first (x ∷ []) rest is high = ap (λ (l : List Entry). take 1 l) (sym is)
  is_first (x ∷ y ∷ es) rest is high = absurd (let long = ap (λ (l : List Entry). length l) is in omega arith)

  -- the torn record is none that was appended whole
  none_more : (e : Entry) (rest : List ℕ) → t.device.bytes ≡ log_bytes t.names t.log ++ rest → length rest ≡ change_size e.change → IsChange (end_of e) e.change → ⊥
  none_more e rest bytes whole valid = let same = ap (λ (l : List ℕ). length l) (sym device_is ∙ bytes) in
      let a = length-append (log_bytes t.names t.log) (torn_record q n) in let b = length-append (log_bytes t.names t.log) rest in let c = torn_length q n in let d = head_there (end_of e) e.change valid in omega arith

  only_first : (es : List Entry) → Survives t es → es ≡ put_entry p ∷ []
  only_first _ (first es rest is high) = is_first es rest is high
  only_first _ (one_more e rest bytes whole starts valid follow) = absurd (none_more e rest bytes whole valid)

  put_again : (pages : ℕ → Option Page) → cell pages (put_entry p ∷ []) 7 ≡ Some p
  put_again pages = cell_longer pages [] (put_entry p) 7 ∙ changed_image 7 (end_of (put_entry p)) 7 p (cell pages [] 7) refl

  has_torn : HasTorn p q n t
  has_torn = record {
    held = refl;
    device = device_is;
    crashes = λ torn. record { stays = λ tag synced. other_block (stored t) torn tag synced; log = first (put_entry p ∷ []) [] refl (λ k e at. absurd (some-ne-none e (sym at))) };
    survives = only_first;
    redone = λ pages es c. subst (λ (l : List Entry). cell pages l 7 ≡ Some p) (sym (only_first es c.log)) (put_again pages);
  }

torn_runs : TornRuns
torn_runs p q n is next few = (c5 p q n, run_append (filled false) (run_append (changes false p is) (run_append (flushes p is) (run_append (writes_out p is) (tears p q n next few)))), has_torn p q n few)

abbrev r1 : State
r1 = paged exclude (m22 false)

abbrev r2 : State
r2 = paged mark_dirty r1

abbrev r3 : State
r3 = paged unexclude r2

abbrev r4 : State
r4 = paged share r3

abbrev r5 : State
r5 = pooled pins.lock_header r4

abbrev r6 : State
r6 = paged start_output r5

abbrev r7 : State
r7 = pooled pins.lock_header r6

abbrev r8 : State
r8 = paged clear_just_dirtied r7

abbrev r9 : State
r9 = at_lane take_lane r8

abbrev r10 : State
r10 = at_lane (lane_out sample_lane) r9

abbrev r11 : State
r11 = written_by 0 example_page r10

abbrev r12 : State
r12 = noted (note_write true) r11

abbrev r13 : State
r13 = at_lane leave_lane r12

abbrev r14 : State
r14 = pooled pins.lock_header r13

abbrev r15 : State
r15 = paged (end_io WriteOk) r14

abbrev r16 : State
r16 = paged unshare r15

at_base : lsn_of example_page ≤ 0
unfolding header_of lsn_of
at_base = omega arith

takes_out : CanTakeOut sample_lane (r9.lane 0) (lane_hold (view_of r9) 0)
takes_out = record { held = refl; home = refl; reads = refl; writes = refl; pages = λ blocks k b e at. absurd (cc); marks = λ k m at. absurd (cc) }

none_out : HasNoWriteOut (view_of r14) 0
none_out n out = absurd (out (at_one_lane (λ (h : LaneHold). h.out ≡ None) (view_of r14) _ refl refl refl n))

refuses : Run refuse (m22 false) r3
refuses = goes (pools (page_steps.touches 0 0 exclude (view_of (m22 false)) refl refl (lit< tt) (record { pinned = λ e. cc; seen = refl; none = refl; free = refl; alone = refl; no_copy = refl }) tt) tt)
    (goes (pools (page_steps.touches 0 0 mark_dirty (view_of r1) refl refl (lit< tt) (record { unlocked = refl; right = refl }) tt) tt)
    (goes (pools (page_steps.touches 0 0 unexclude (view_of r2) refl refl (lit< tt) (record { right = refl; applied = refl; page_home = refl }) tt) tt)
    rests))

refused_out : Run (write_out 0 example_page) r3 r16
refused_out = goes (pools (page_steps.touches 0 0 share (view_of r3) refl refl (lit< tt) (record { pinned = λ e. cc; seen = refl; none = refl; free = refl }) tt) tt)
    (goes (pools (page_steps.cores (pin_steps.touches 0 0 pins.lock_header (view_of r4) refl refl (lit< tt) (record { unlocked = refl }) (at_frame (λ (l : Link). l.header ≡ None) (view_of r4) _ refl refl refl))) tt)
    (goes (pools (page_steps.touches 0 0 start_output (view_of r5) refl refl (lit< tt) (record { held = refl; settled = refl; pinned = λ e. cc; clear = refl; dirty = refl; right = refl }) (at_frame (λ (l : Link). l.io ≡ Quiet) (view_of r5) _ refl refl refl)) tt)
    (goes (pools (page_steps.cores (pin_steps.touches 0 0 pins.lock_header (view_of r6) refl refl (lit< tt) (record { unlocked = refl }) (at_frame (λ (l : Link). l.header ≡ None) (view_of r6) _ refl refl refl))) tt)
    (goes (pools (page_steps.touches 0 0 clear_just_dirtied (view_of r7) refl refl (lit< tt) (record { held = refl; right = refl }) tt) tt)
    (goes (lanes 0 0 take_lane (view_of r8) refl refl (lit< tt) (record { free = refl }) tt)
    (goes (lanes 0 0 (lane_out sample_lane) (view_of r9) refl refl (lit< tt) takes_out tt)
    (goes (writes 0 0 0 (write_block 0 7 example_page) (view_of r10) refl refl (lit< tt) (lit< tt) (record { out = λ e. cc; once = refl }) (refl, record { tagged = refl; lane = refl; page = refl; right = record { right = refl }; log_first = at_base }))
    (goes (notes 0 0 0 false (note_write true) (view_of r11) refl refl (lit< tt) (lit< tt) (record { out = λ e. cc; counts = λ taken e. record { failed = λ z. absurd (cc); all = λ z. absurd (cc); read_rose = λ z. below taken.read_faults z; write_rose = λ z. below taken.write_faults z } }) (example_page, record { was_written = refl; lane = refl; page = refl; right = record { right = refl } }))
    (goes (lanes 0 0 leave_lane (view_of r12) refl refl (lit< tt) (record { held = refl; home = refl }) tt)
    (goes (pools (page_steps.cores (pin_steps.touches 0 0 pins.lock_header (view_of r13) refl refl (lit< tt) (record { unlocked = refl }) (at_frame (λ (l : Link). l.header ≡ None) (view_of r13) _ refl refl refl))) tt)
    (goes (pools (page_steps.touches 0 0 (end_io WriteOk) (view_of r14) refl refl (lit< tt) (record { held = refl; page_home = λ e. absurd (cc); ends = record { right = refl; written = refl } }) none_out) tt)
    (goes (pools (page_steps.touches 0 0 unshare (view_of r15) refl refl (lit< tt) (record { right = refl; no_copy = refl; no_output = λ e. cc; page_home = refl }) tt) tt)
    rests))))))))))))

has_refused : HasRefused r16
has_refused = record {
  held = refl;
  noted = (0, 0, view_of r16, refl, refl);
  excepted = record { none = λ k e of. some-ne-none e (sym of.there); lost = inl refl };
  crashes = record { stays = λ tag synced. other_block (stored r16) None tag synced; log = first [] [] refl (λ k e at. absurd (some-ne-none e (sym at))) };
  lost = cell_none (put (stored r16) 7 None) 7;
}

refused_runs : RefusedRuns
refused_runs = (r16, run_append (filled false) (run_append refuses refused_out), has_refused)

may_be_next : IsNext later_page
unfolding is_sound_page is_new_page header_of lsn_of
may_be_next = record { sound = refl; used = refl; full = omega (arith, length-replicate {A = ℕ} 8168 0); ends = refl }

pub crash_runs : CrashRuns
crash_runs = (may_be_next, torn_runs, refused_runs)
