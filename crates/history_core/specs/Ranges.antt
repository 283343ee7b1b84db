-- An example, a record of byte ranges: after a put of a whole page a backend changes four bytes of
-- it, and logs them alone, since the page's position in the log is past the redo position; then it
-- raises the redo position to the log's end.
use Rattle.std.specs.Prelude.{◌≡◌, ℕ, true, false, List, [], ◌∷◌, ◌++◌, length, Some}
use mathlib.Core.Option.{some}
use lib.ListN.{get_elem?}
use Rattle.page_layout.specs.Fields.{lsn_of, with_lsn}
use Rattle.page_layout.specs.Soundness.{is_new_page, is_sound_page}
use Rattle.pin_core.specs.declared.view.Call.TheVariants.{Write}
use Rattle.pin_core.specs.declared.view.View.{View}
use Rattle.pin_core.specs.State.{Page}
use Rattle.page_core.specs.Kinds.{exclude, unexclude, mark_dirty, page_out, overwrite_logged}
use Rattle.page_core.specs.Kinds.{page_back}
use Rattle.history_core.specs.Log.{Entry, Span, Change, ranges, record_size, record_bytes}
use Rattle.history_core.specs.Log.{with_spans, log_bytes, cell}
use Rattle.history_core.specs.State.{State}
use Rattle.history_core.specs.Device.{take_log, leave_log, log_out, append, log_back}
use Rattle.history_core.specs.Steps.{Event, log, enter, word, Run}
use Rattle.history_core.specs.Words.{load_end, load_redo, raise_redo}
use Rattle.history_core.specs.Sample.{sample_store}
use Rattle.history_core.specs.Miss.{start_with, page, miss, fill}
use Rattle.history_core.specs.Put.{IsPut, some_page, put_entry, log_with, change}

-- four bytes of the page, at the place 20
abbrev pub four_bytes : List Span
four_bytes = record { place = 20; bytes = 1 ∷ 0 ∷ 0 ∷ 0 ∷ [] } ∷ []

-- what the entry of the four bytes changes
abbrev pub bytes_change : Change
bytes_change = ranges 7 four_bytes

-- The page q is p with these bytes, and its position in the log is where their record will end, 48
-- bytes after the whole page's
pub record IsEdited (p q : Page) : Type 0 where
  -- q is sound (`PageIsVerifiedExtended`)
  pub sound : is_sound_page q ≡ true
  -- q isn't new (`PageIsNew`)
  pub used : is_new_page q ≡ false
  -- q has 8192 bytes
  pub full : length q ≡ 8192
  -- q's position in the log is where the record of the four bytes will end
  pub ends : lsn_of q ≡ 8272
  -- q is p with the four bytes, and with this position
  pub made : with_lsn 8272 (with_spans four_bytes p) ≡ q

-- such a page q, made of the page that may be put
abbrev pub edited_page : Page
edited_page = with_lsn 8272 (with_spans four_bytes some_page)

-- the entry of the four bytes, the second of the log
abbrev pub bytes_entry : Entry
bytes_entry = record { start = record_size; backend = 0; change = bytes_change }

-- the bytes of the record of the four bytes
abbrev pub bytes_record : List ℕ
bytes_record = record_bytes sample_store.names bytes_entry

-- under the exclusive content lock the page is copied and marked dirty; under the log's latch the
-- redo position is loaded, and the record of the four bytes is appended and made an entry; then the
-- new page is put into the frame
abbrev pub edit : Page → Page → List Event
edit p q = page exclude ∷ page page_out ∷ page page_back ∷ page mark_dirty ∷ log 0 take_log
    ∷ word 0 load_redo ∷ log 0 (log_out (log_with p)) ∷ log 0 (append 0 7 q bytes_record)
    ∷ log 0 (log_back false) ∷ enter 0 0 q bytes_change ∷ log 0 leave_log ∷ page page_out
    ∷ page overwrite_logged ∷ page page_back ∷ page unexclude ∷ []

-- under the log's latch the log's end is loaded, and the redo position is raised to it
abbrev pub move_redo : List Event
move_redo = log 0 take_log ∷ word 0 load_end ∷ word 0 raise_redo ∷ log 0 leave_log ∷ []

-- After the four bytes were logged and the redo position was raised
pub record HasEdited (p q : Page) (t : State) : Type 0 where
  -- the frame holds the page with the four bytes
  pub held : (t.pool.core.frame 0).page ≡ q
  -- the block's page after all entries is the page with the four bytes
  pub after : cell t.origin t.log.entries 7 ≡ Some q
  -- the log has two entries: the whole page, and the four bytes
  pub logged : t.log.entries ≡ put_entry p ∷ bytes_entry ∷ []
  -- the log's device has the log's bytes, and no more
  pub bytes : t.device.bytes ≡ log_bytes t.names t.log
  -- the redo position is 8272, the log's end
  pub redo : t.redo ≡ 8272
  -- the log ends at 8272
  pub end : t.end ≡ 8272
  -- the backend's second call is the write at the second entry's end, by a record of 48 bytes: the
  -- redo position was 0, and the page's own 8224; the backend raised the redo position once, to
  -- 8272
  pub called : (v : View) × (get_elem? t.pool.core.views 0 ≡ some v)
      × (get_elem? v.calls 1 ≡ some (Write 0 7 q 8272 (record {
        size = 48;
        test = Some (record { redo = 0; before = 8224 });
      })))
      × (v.redo_raised ≡ 8272 ∷ [])

-- there are such pages p and q, and for each such pair the steps lead from the start to the state
-- after them
abbrev pub RangesRuns : Type 0
RangesRuns = IsPut some_page × IsEdited some_page edited_page
    × ((p q : Page) → IsPut p → IsEdited p q
    → (t : State) × Run (miss ++ fill ++ change p ++ edit p q ++ move_redo) (start_with true) t
    × HasEdited p q t)
