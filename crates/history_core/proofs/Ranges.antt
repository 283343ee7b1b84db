-- The events of the record of byte ranges are steps.
use Rattle.std.proofs.Common.{◌≡◌, ◌≤◌, ◌<◌, ◌+◌, ℕ, true, false, [], ◌∷◌, ◌++◌, length, List, Some, lit<, refl, sym, ap, ◌∙◌, append-nil, append_assoc, arith}
use Rattle.std.proofs.lemmas.Option.{same_Some}
use mathlib.Core.Option.{some}
use lib.ListN.{length-replicate}
use Rattle.page_layout.specs.Fields.{header_of, lsn_of, with_lsn}
use Rattle.page_layout.specs.Soundness.{is_new_page, is_sound_page}
use Rattle.pin_core.specs.declared.view.Call.TheVariants.{Write}
use Rattle.pin_core.specs.declared.view.Link.{Link}
use Rattle.pin_core.specs.State.{Page}
use Rattle.pin_core.proofs.Sample.{in_fork}
use Rattle.page_core.proofs.Sample.{at_frame}
use Rattle.page_core.specs.Kinds.{exclude, unexclude, mark_dirty, page_out, overwrite_logged, page_back}
use Rattle.page_core.specs.Steps as page_steps
use Rattle.history_core.specs.Log.{AreRanges, StandApart, head_bytes, records, log_bytes, record_size, spans_size, change_size, with_spans, changed_page, page_after}
use Rattle.history_core.specs.State.{State, last_position}
use Rattle.history_core.specs.Device.{take_log, leave_log, log_out, append, log_back}
use Rattle.history_core.specs.Steps.{CanLog, pools, logs, enters, words, state_after_word, Run, rests, goes}
use Rattle.history_core.specs.Words.{WordKind, load_end, load_redo, raise_redo}
use Rattle.history_core.specs.Sample.{sample_store}
use Rattle.history_core.specs.Put.{IsPut, some_page, put_entry, put_bytes, log_with, change}
use Rattle.history_core.specs.Miss.{start_with, miss, fill}
use Rattle.history_core.specs.Ranges.{four_bytes, bytes_change, IsEdited, edited_page, bytes_entry, bytes_record, edit, move_redo, HasEdited, RangesRuns}
use Rattle.history_core.proofs.Logs.{record_length}
use Rattle.history_core.proofs.Miss.{view_of, paged, filled, run_append, below}
use Rattle.history_core.proofs.Put.{at_log, entered, q12, changes, may_put}

abbrev at_word : WordKind → State → State
at_word k s = state_after_word k s 0 (view_of s)

abbrev r1 : Page → State
r1 p = paged exclude (q12 true p)

abbrev r2 : Page → State
r2 p = paged page_out (r1 p)

abbrev r3 : Page → State
r3 p = paged page_back (r2 p)

abbrev r4 : Page → State
r4 p = paged mark_dirty (r3 p)

abbrev r5 : Page → State
r5 p = at_log take_log (r4 p)

abbrev r6 : Page → State
r6 p = at_word load_redo (r5 p)

abbrev r7 : Page → State
r7 p = at_log (log_out (log_with p)) (r6 p)

abbrev r8 : Page → Page → State
r8 p q = at_log (append 0 7 q bytes_record) (r7 p)

abbrev r9 : Page → Page → State
r9 p q = at_log (log_back false) (r8 p q)

abbrev r10 : Page → Page → State
r10 p q = entered bytes_change q (r9 p q)

abbrev r11 : Page → Page → State
r11 p q = at_log leave_log (r10 p q)

abbrev r12 : Page → Page → State
r12 p q = paged page_out (r11 p q)

abbrev r13 : Page → Page → State
r13 p q = paged overwrite_logged (r12 p q)

abbrev r14 : Page → Page → State
r14 p q = paged page_back (r13 p q)

abbrev r15 : Page → Page → State
r15 p q = paged unexclude (r14 p q)

abbrev r16 : Page → Page → State
r16 p q = at_log take_log (r15 p q)

abbrev r17 : Page → Page → State
r17 p q = at_word load_end (r16 p q)

abbrev r18 : Page → Page → State
r18 p q = at_word raise_redo (r17 p q)

abbrev r19 : Page → Page → State
r19 p q = at_log leave_log (r18 p q)

bytes_size : change_size bytes_change ≡ 48
unfolding spans_size
bytes_size = refl

has_room : record_size + change_size bytes_change ≤ last_position
has_room = omega (arith, bytes_size)

ends_there : (p q : Page) → IsEdited p q → lsn_of q ≡ record_size + change_size bytes_change
ends_there p q is = omega (arith, is.ends, bytes_size)

are_ranges : AreRanges four_bytes
unfolding spans_size StandApart
are_ranges = record { some = omega arith; few = omega arith; apart = (omega arith, omega arith, omega arith); shorter = omega arith }

makes : (p q : Page) → IsEdited p q → with_lsn (record_size + change_size bytes_change) (with_spans four_bytes p) ≡ q
makes p q is = ap (λ (n : ℕ). with_lsn (record_size + n) (with_spans four_bytes p)) bytes_size ∙ is.made

is_past : (p : Page) → IsPut p → 0 < lsn_of p
is_past p is = omega (arith, is.ends)

short_record : length bytes_record ≤ record_size
short_record = let x = record_length sample_store.names record_size 0 bytes_change (λ tag. refl) are_ranges in omega (arith, x, bytes_size)

may_log : (p q : Page) → IsPut p → IsEdited p q → CanLog (r7 p) 0 7 q bytes_change (view_of (r7 p))
may_log p q put is = record { inside = lit< tt; tagged = refl; right = record { right = refl; dirtied = refl; applied = refl; sound = is.sound; used = is.used }; around = record { block = in_fork; none = at_frame (λ (l : Link). l.unapplied ≡ false) (view_of (r7 p)) _ refl refl refl }; full = is.full; ends = ends_there p q is; room = has_room; makes = (refl, record { before = p; copied = refl; valid = are_ranges; made = makes p q is }); past = record { redo = 0; loaded = refl; before = p; copied = refl; past = is_past p put }; allowed = refl }

edits : (p q : Page) → IsPut p → IsEdited p q → Run (edit p q) (q12 true p) (r15 p q)
edits p q put is = goes (pools (page_steps.touches 0 0 exclude (view_of (q12 true p)) refl refl (lit< tt) (record { pinned = λ e. cc; seen = refl; none = refl; free = refl; alone = refl; no_copy = refl }) tt) tt)
    (goes (pools (page_steps.touches 0 0 page_out (view_of (r1 p)) refl refl (lit< tt) (record { page_home = refl; shared = λ e. absurd (cc); unlocked = λ e. absurd (cc) }) tt) tt)
    (goes (pools (page_steps.touches 0 0 page_back (view_of (r2 p)) refl refl (lit< tt) (record { out = λ e. cc }) tt) tt)
    (goes (pools (page_steps.touches 0 0 mark_dirty (view_of (r3 p)) refl refl (lit< tt) (record { unlocked = refl; right = refl }) tt) tt)
    (goes (logs 0 take_log (view_of (r4 p)) refl refl (record { free = refl }) tt)
    (goes (words 0 load_redo (view_of (r5 p)) refl refl refl)
    (goes (logs 0 (log_out (log_with p)) (view_of (r6 p)) refl refl (record { held = refl; home = refl; faults = refl; synced = refl; down = refl; bytes = λ bytes e. sym (same_Some (head_bytes 0 ++ put_bytes p) bytes e) }) tt)
    (goes (logs 0 (append 0 7 q bytes_record) (view_of (r7 p)) refl refl (record { call = record { out = λ e. cc; once = refl; up = refl }; entered = refl; unsynced = refl; short = short_record }) (bytes_change, may_log p q put is, refl))
    (goes (logs 0 (log_back false) (view_of (r8 p q)) refl refl (record { out = λ e. cc; failed = λ z. absurd (cc); rose = λ taken e z. below taken.faults z }) tt)
    (goes (enters 0 0 q bytes_change (view_of (r9 p q)) refl refl (lit< tt) (let x = may_log p q put is in record { right = x.right; around = record { block = in_fork; none = at_frame (λ (l : Link). l.unapplied ≡ false) (view_of (r9 p q)) _ refl refl refl }; full = x.full; ends = x.ends; room = x.room; makes = x.makes; past = record { redo = 0; loaded = refl; before = p; copied = refl; past = is_past p put }; allowed = refl; appended = refl }))
    (goes (logs 0 leave_log (view_of (r10 p q)) refl refl (record { held = refl; home = refl; entered = refl }) tt)
    (goes (pools (page_steps.touches 0 0 page_out (view_of (r11 p q)) refl refl (lit< tt) (record { page_home = refl; shared = λ e. absurd (cc); unlocked = λ e. absurd (cc) }) tt) tt)
    (goes (pools (page_steps.touches 0 0 overwrite_logged (view_of (r12 p q)) refl refl (lit< tt) (record { out = λ e. cc; once = refl; unapplied = refl }) tt) tt)
    (goes (pools (page_steps.touches 0 0 page_back (view_of (r13 p q)) refl refl (lit< tt) (record { out = λ e. cc }) tt) tt)
    (goes (pools (page_steps.touches 0 0 unexclude (view_of (r14 p q)) refl refl (lit< tt) (record { right = refl; applied = refl; page_home = refl }) tt) tt)
    rests))))))))))))))

moves_redo : (p q : Page) → Run move_redo (r15 p q) (r19 p q)
moves_redo p q = goes (logs 0 take_log (view_of (r15 p q)) refl refl (record { free = refl }) tt)
    (goes (words 0 load_end (view_of (r16 p q)) refl refl tt)
    (goes (words 0 raise_redo (view_of (r17 p q)) refl refl refl)
    (goes (logs 0 leave_log (view_of (r18 p q)) refl refl (record { held = refl; home = refl; entered = refl }) tt)
    rests)))

-- the bytes of a log of these two entries
two_records : (p : Page) → (head_bytes 0 ++ put_bytes p) ++ bytes_record ≡ log_bytes sample_store.names (record { base = 0; entries = put_entry p ∷ bytes_entry ∷ [] })
unfolding records
two_records p = append_assoc (head_bytes 0) (put_bytes p) bytes_record ∙ ap (λ (l : List ℕ). head_bytes 0 ++ (put_bytes p ++ l)) (sym (append-nil bytes_record))

has_edited : (p q : Page) → IsPut p → IsEdited p q → HasEdited p q (r19 p q)
unfolding spans_size page_after changed_page
has_edited p q put is = record {
  held = refl;
  after = ap Some is.made;
  logged = refl;
  bytes = two_records p;
  redo = refl;
  end = refl;
  called = (_, refl, ap (λ (n : ℕ). some (Write 0 7 q 8272 (record { size = 48; test = Some (record { redo = 0; before = n }) }))) put.ends, refl);
}

may_edit : IsEdited some_page edited_page
unfolding is_sound_page is_new_page header_of lsn_of with_lsn with_spans
may_edit = record { sound = refl; used = refl; full = omega (arith, length-replicate {A = ℕ} 8168 0); ends = refl; made = refl }

every_edit : (p q : Page) → IsPut p → IsEdited p q → (t : State) × Run (miss ++ fill ++ change p ++ edit p q ++ move_redo) (start_with true) t × HasEdited p q t
every_edit p q put is = (r19 p q, run_append (filled true) (run_append (changes true p put) (run_append (edits p q put is) (moves_redo p q))), has_edited p q put is)

pub edits_run : RangesRuns
edits_run = (may_put, may_edit, every_edit)
