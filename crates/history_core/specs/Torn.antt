-- An example, two crashes: one after which redo brings a lost page back, and one after which
-- nothing does.
use Rattle.std.specs.Prelude.{◌≡◌, ℕ, ◌+◌, ◌<◌, true, false, List, [], ◌∷◌, ◌++◌, length, replicate}
use Rattle.std.specs.Prelude.{take, Option, Some, None}
use Rattle.page_layout.specs.Fields.{lsn_of}
use Rattle.page_layout.specs.Soundness.{is_new_page, is_sound_page}
use Rattle.pin_core.specs.declared.view.TakenLog.{TakenLog}
use Rattle.pin_core.specs.State.{Page}
use Rattle.page_core.specs.Kinds.{exclude, unexclude, mark_dirty}
use Rattle.page_core.specs.Sample.{example_page}
use Rattle.history_core.specs.Log.{Entry, image, record_size, head_bytes, record_bytes, log_bytes}
use Rattle.history_core.specs.Log.{cell}
use Rattle.history_core.specs.State.{State, stored}
use Rattle.history_core.specs.Device.{take_log, log_out, fail_append}
use Rattle.history_core.specs.Steps.{Event, log, Run}
use Rattle.history_core.specs.Sample.{sample_store}
use Rattle.history_core.specs.Miss.{miss_start, page, miss, fill}
use Rattle.history_core.specs.Put.{IsPut, put_bytes, put_entry, change, flush, write_out}
use Rattle.history_core.specs.Unentered.{IsUnentered}
use Rattle.history_core.specs.Crashes.{Survives, Crashed, IsExcepted}
use Rattle.grid.specs.Shape.{put}

-- A page that may be put after the first one: its position in the log is where the next entry would
-- end
pub record IsNext (p : Page) : Type 0 where
  -- the page is sound (`PageIsVerifiedExtended`)
  pub sound : is_sound_page p ≡ true
  -- the page isn't new (`PageIsNew`)
  pub used : is_new_page p ≡ false
  -- the page has 8192 bytes
  pub full : length p ≡ 8192
  -- the page's position in the log is where the next entry would end
  pub ends : lsn_of p ≡ record_size + record_size

-- such a page: by its header an empty one, with this position
abbrev pub later_page : Page
later_page = (0 ∷ 0 ∷ 0 ∷ 0 ∷ 64 ∷ 64 ∷ 0 ∷ 0 ∷ 0 ∷ 0 ∷ 0 ∷ 0 ∷ 24 ∷ 0 ∷ 0 ∷ 32 ∷ 0 ∷ 32 ∷ 4 ∷ 32
    ∷ 0 ∷ 0 ∷ 0 ∷ 0 ∷ []) ++ replicate 8168 0

-- the first n bytes of the next page's record
abbrev pub torn_record : Page → ℕ → List ℕ
torn_record q n = take n (record_bytes sample_store.names (record {
  start = record_size;
  backend = 0;
  change = image 7 q;
}))

-- the log's device, which holds the entry of the page p and is durable
abbrev pub synced_log : Page → TakenLog
synced_log p = record {
  bytes = Some (head_bytes 0 ++ put_bytes p);
  synced = length (head_bytes 0 ++ put_bytes p);
  faults = 0;
  calls = 0;
  down = None;
}

-- the next page is put, and the append of its record fails after n bytes
abbrev pub tear : Page → Page → ℕ → List Event
tear p q n = page exclude ∷ page mark_dirty ∷ log 0 take_log ∷ log 0 (log_out (synced_log p))
    ∷ log 0 (fail_append 0 7 q (torn_record q n) 1) ∷ []

-- After the put of p was flushed and written to its lane, and the record of the next page was torn
pub record HasTorn (p q : Page) (n : ℕ) (t : State) : Type 0 where
  -- the lane holds the page that was put
  pub held : stored t 7 ≡ Some p
  -- after the log's bytes the device has the first bytes of the next record
  pub device : t.device.bytes ≡ log_bytes t.names t.log ++ torn_record q n
  -- a crash may leave the first entry, and of the block any page or none, since the lane wasn't
  -- synced
  pub crashes : (torn : Option Page) → Crashed t (put (stored t) 7 torn) (put_entry p ∷ [])
  -- a crash leaves the log with the first entry, and no other
  pub survives : (es : List Entry) → Survives t es → es ≡ put_entry p ∷ []
  -- redo brings the page back, whatever is left of it
  pub redone : (pages : ℕ → Option Page) (es : List Entry) → Crashed t pages es
      → cell pages es 7 ≡ Some p

-- under the exclusive lock the page is marked dirty, and the lock is given up with no entry made
abbrev pub refuse : List Event
refuse = page exclude ∷ page mark_dirty ∷ page unexclude ∷ []

-- After a frame was marked dirty with no entry made, and written to its lane
pub record HasRefused (t : State) : Type 0 where
  -- the lane holds the page
  pub held : stored t 7 ≡ Some example_page
  -- the block is noted as dirtied with no entry
  pub noted : IsUnentered t 7
  -- the block is one of the exceptions: no entry of it survives, and it is unsynced or its last
  -- write failed
  pub excepted : IsExcepted t [] 7
  -- a crash may leave nothing of the block
  pub crashes : Crashed t (put (stored t) 7 None) []
  -- redo doesn't bring the block back, of which a crash left nothing
  pub lost : cell (put (stored t) 7 None) [] 7 ≡ None

-- after a put that was flushed and written, the record of a next page is torn within its first 32
-- bytes, before its page: redo brings the first page back
abbrev pub TornRuns : Type 0
TornRuns = (p q : Page) (n : ℕ) → IsPut p → IsNext q → n < 32
    → (t : State)
    × Run (miss ++ fill ++ change p ++ flush p ++ write_out 0 p ++ tear p q n) miss_start t
    × HasTorn p q n t

-- after a frame was marked dirty with no entry made, and written, a crash may lose the block for
-- good
abbrev pub RefusedRuns : Type 0
RefusedRuns = (t : State) × Run (miss ++ fill ++ refuse ++ write_out 0 example_page) miss_start t
    × HasRefused t

-- there is a page that may be put after the first one, and the steps of both examples lead from the
-- start to such states
abbrev pub CrashRuns : Type 0
CrashRuns = IsNext later_page × TornRuns × RefusedRuns
