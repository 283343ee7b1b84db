-- An example, a put and a flush: a backend changes the page of a frame, whatever sound page of 8192
-- bytes it puts there, makes the log durable, and writes the page to its lane.
use Rattle.std.specs.Prelude.{◌≡◌, ℕ, true, false, List, [], ◌∷◌, ◌++◌, length, replicate, Some}
use Rattle.std.specs.Prelude.{None}
use mathlib.Core.Option.{some}
use lib.ListN.{get_elem?}
use Rattle.state_word.specs.declared.word.IoEnd.TheVariants.{WriteOk}
use Rattle.page_layout.specs.Fields.{lsn_of}
use Rattle.page_layout.specs.Soundness.{is_new_page, is_sound_page}
use Rattle.pin_core.specs.declared.view.Call.TheVariants.{Write}
use Rattle.pin_core.specs.declared.view.TakenLog.{TakenLog}
use Rattle.pin_core.specs.declared.view.View.{View}
use Rattle.pin_core.specs.State.{Page}
use Rattle.pin_core.specs.Kinds as pins
use Rattle.page_core.specs.Kinds.{share, unshare, exclude, unexclude, mark_dirty, page_out}
use Rattle.page_core.specs.Kinds.{overwrite_logged, page_back, start_output, clear_just_dirtied}
use Rattle.page_core.specs.Kinds.{note_write, end_io}
use Rattle.history_core.specs.Log.{Entry, image, record_size, head_bytes, record_bytes}
use Rattle.history_core.specs.Log.{image_record, log_bytes}
use Rattle.history_core.specs.State.{State, stored}
use Rattle.history_core.specs.Lanes.{take_lane, leave_lane, lane_out, write_block, lane_back}
use Rattle.history_core.specs.Device.{take_log, leave_log, log_out, append, sync_log, log_back}
use Rattle.history_core.specs.Steps.{Event, lane, write, note, log, enter, word, Run}
use Rattle.history_core.specs.Words.{load_flushed, raise_flushed}
use Rattle.history_core.specs.Sample.{sample_store, sample_lane, sample_log}
use Rattle.history_core.specs.Miss.{miss_start, pool_by, page_by, page, miss, fill}

-- A page that may be put into the frame: a sound page of 8192 bytes with content, whose position in
-- the log is where its entry will end
pub record IsPut (p : Page) : Type 0 where
  -- the page is sound (`PageIsVerifiedExtended`)
  pub sound : is_sound_page p ≡ true
  -- the page isn't new (`PageIsNew`)
  pub used : is_new_page p ≡ false
  -- the page has 8192 bytes
  pub full : length p ≡ 8192
  -- the page's position in the log is where its entry will end
  pub ends : lsn_of p ≡ record_size

-- a page that may be put: by its header an empty one, with this position
abbrev pub some_page : Page
some_page = (0 ∷ 0 ∷ 0 ∷ 0 ∷ 32 ∷ 32 ∷ 0 ∷ 0 ∷ 0 ∷ 0 ∷ 0 ∷ 0 ∷ 24 ∷ 0 ∷ 0 ∷ 32 ∷ 0 ∷ 32 ∷ 4 ∷ 32 ∷ 0
    ∷ 0 ∷ 0 ∷ 0 ∷ []) ++ replicate 8168 0

-- the page's entry, the first of the log
abbrev pub put_entry : Page → Entry
put_entry p = record { start = 0; backend = 0; change = image 7 p }

-- the bytes of the page's record
abbrev pub put_bytes : Page → List ℕ
put_bytes p = record_bytes sample_store.names (put_entry p)

-- the log's device with these bytes
abbrev pub log_with : Page → TakenLog
log_with p = record {
  bytes = Some (head_bytes 0 ++ put_bytes p);
  synced = 0;
  faults = 0;
  calls = 0;
  down = None;
}

-- under the exclusive content lock the page is marked dirty, its record is appended to the log and
-- made an entry, and the page is put into the frame
abbrev pub change : Page → List Event
change p = page exclude ∷ page mark_dirty ∷ log 0 take_log ∷ log 0 (log_out sample_log)
    ∷ log 0 (append 0 7 p (put_bytes p)) ∷ log 0 (log_back false) ∷ enter 0 0 p (image 7 p)
    ∷ log 0 leave_log ∷ page page_out ∷ page overwrite_logged ∷ page page_back ∷ page unexclude ∷ []

-- the log is made durable, and the flushed position is raised and loaded
abbrev pub flush : Page → List Event
flush p = log 0 take_log ∷ log 0 (log_out (log_with p)) ∷ log 0 sync_log ∷ log 0 (log_back false)
    ∷ word 0 raise_flushed ∷ log 0 leave_log ∷ word 0 load_flushed ∷ []

-- under the shared content lock and the output right backend i writes the page to the block's lane
abbrev pub write_out : ℕ → Page → List Event
write_out i p = page_by i share ∷ pool_by i pins.lock_header ∷ page_by i start_output
    ∷ pool_by i pins.lock_header ∷ page_by i clear_just_dirtied ∷ lane i 0 take_lane
    ∷ lane i 0 (lane_out sample_lane) ∷ write i 0 0 (write_block 0 7 p)
    ∷ note i 0 0 (lane_back false) (note_write true) ∷ lane i 0 leave_lane
    ∷ pool_by i pins.lock_header ∷ page_by i (end_io WriteOk) ∷ page_by i unshare ∷ []

-- After the write of the page to its lane
pub record HasPut (p : Page) (t : State) : Type 0 where
  -- the block's lane holds the page
  pub lane : stored t 7 ≡ Some p
  -- the frame holds the page
  pub held : (t.pool.core.frame 0).page ≡ p
  -- the frame isn't dirty
  pub clean : (t.pool.core.frame 0).word.dirty ≡ false
  -- the log has one entry, the page's
  pub logged : t.log.entries ≡ put_entry p ∷ []
  -- the log's device has the log's bytes, and no more
  pub bytes : t.device.bytes ≡ log_bytes t.names t.log
  -- all bytes of the log's device are durable
  pub durable : t.device.synced ≡ length t.device.bytes
  -- the flushed position is where the entry ends
  pub flushed : t.flushed ≡ record_size
  -- the backend's one call is the write of the page, at the entry's end, which is its front
  pub called : (v : View) × (get_elem? t.pool.core.views 0 ≡ some v)
      × (v.calls ≡ Write 0 7 p record_size image_record ∷ []) × (v.front ≡ record_size)

-- there is a page that may be put, and for each such page the steps lead from the start to the
-- state after its write
abbrev pub PutRuns : Type 0
PutRuns = IsPut some_page
    × ((p : Page) → IsPut p
    → (t : State) × Run (miss ++ fill ++ change p ++ flush p ++ write_out 0 p) miss_start t
    × HasPut p t)
