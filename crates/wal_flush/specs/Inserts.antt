-- A page is inserted into the log, or why not.
use Rattle.std.specs.Prelude.{◌≡◌, ℕ, ◌+◌, ◌<◌, ◌≤◌, true, false, List, [], ◌∷◌, ◌++◌, slice_set, Result, Err, Some, None}
use Rattle.block_tag.specs.declared.tag.Tag.{Tag}
use Rattle.block_tag.specs.declared.catalogue.RelEntry.{RelEntry}
use Rattle.block_tag.specs.Names.{names_block, packed_tag}
use Rattle.page_layout.specs.Fields.{with_lsn}
use Rattle.page_layout.specs.Soundness.{is_new_page, is_sound_page}
use Rattle.pin_core.specs.declared.view.Call.TheVariants.{Write}
use Rattle.pin_core.specs.declared.view.Content.TheVariants.{Exclusive}
use Rattle.pin_core.specs.declared.view.DeviceCall.TheVariants.{LogAppend}
use Rattle.pin_core.specs.declared.view.TornRecord.{TornRecord}
use Rattle.pin_core.specs.declared.view.View.{View}
use Rattle.pin_core.specs.State.{Page, link}
use Rattle.page_core.specs.Steps.{HasNoneUnapplied}
use Rattle.history_core.specs.Device.{append, fail_append, log_back}
use Rattle.history_core.specs.Log.{image_record, record_size}
use Rattle.history_core.specs.State.{last_position}
use Rattle.table_rule.specs.Blocks.{has_block}
use Rattle.frame_table.specs.Entering.{DidEnter, IsRecord, entered_link, view_entered}
use Rattle.frame_table.specs.LogWork.{DidTwo}
use Rattle.wal_flush.specs.declared.inserts.InsertError.{InsertError}
use Rattle.wal_flush.specs.declared.inserts.InsertError.TheVariants.{LogFull, LogDown, LogFault}
use Rattle.wal_flush.specs.Latched.{FindsDown, GoesOutUp, UnderLatch, downed, faulted}

-- The page p may be inserted for the frame f, which has the tag of a block of the relations
pub record CanInsert (relations : List RelEntry) (f : ℕ) (tag : Tag) (p : Page) (v : View) :
    Type 0 where
  pub named : names_block tag ≡ true
  pub listed : has_block relations tag ≡ true
  -- the view's pin remembers the tag
  pub remembered : (link v f).tag ≡ Some (packed_tag tag)
  -- it has the content lock exclusively, and marked the frame dirty under it
  pub right : (link v f).content ≡ Exclusive
  pub dirtied : (link v f).dirtied ≡ true
  -- no entry of its own is unapplied, here or at another frame
  pub applied : HasNoneUnapplied v
  -- the page is sound, and isn't new
  pub sound : is_sound_page p ≡ true
  pub used : is_new_page p ≡ false

-- The record of the page p, which starts at `start`, was appended by the one call of the log
pub record Appends (relations : List RelEntry) (f : ℕ) (tag : Tag) (start : ℕ) (p : Page)
    (v w : View) : Type 0 where
  pub out : View
  pub bytes : List ℕ
  pub is_record : IsRecord relations tag start p bytes
  pub went : GoesOutUp v out
  pub did : DidTwo (append f (packed_tag tag) p bytes) (log_back false) out w

-- The record was appended, and it became an entry of the log
pub record Enters (relations : List RelEntry) (f : ℕ) (tag : Tag) (start : ℕ) (p : Page)
    (v w : View) : Type 0 where
  pub home : View
  pub appends : Appends relations f tag start p v home
  pub did : DidEnter f p home w
  pub after : w ≡ view_entered f (packed_tag tag) p (start + record_size) home

-- The one call of the log was the append of such a record, and it failed: a part, the first bytes
-- of the record, follows the log; if the log's contents aren't known it is []
pub record FailsToAppend (relations : List RelEntry) (f : ℕ) (tag : Tag) (start : ℕ) (p : Page)
    (v w : View) : Type 0 where
  pub out : View
  pub bytes : List ℕ
  pub part : List ℕ
  pub rest : List ℕ
  pub faults : ℕ
  pub is_record : IsRecord relations tag start p bytes
  pub begins : part ++ rest ≡ bytes
  pub went : GoesOutUp v out
  pub unknown : went.taken.bytes ≡ None → part ≡ []
  pub fails : DidTwo (fail_append f (packed_tag tag) p part faults) (log_back true) out w

-- Why the page p is not entered where the log ends at `end`, and what was done
abbrev pub EnterRefused : List RelEntry → ℕ → Tag → Page → ℕ → InsertError → View → View → Type 0
EnterRefused relations f tag p end (LogFull e) v w = (e ≡ end) × (last_position < end + record_size)
    × (w ≡ v)
EnterRefused relations f tag p end (LogDown at) v w = (at ≡ end)
    × (end + record_size ≤ last_position) × FindsDown at v w
EnterRefused relations f tag p end LogFault v w = (end + record_size ≤ last_position)
    × FailsToAppend relations f tag end (with_lsn (end + record_size) p) v w

-- Why the page p was not inserted, and what was done under the log's latch
abbrev pub InsertRefused : List RelEntry → ℕ → Tag → Page → View → View → InsertError → Type 0
InsertRefused relations f tag p v w why = (end : ℕ)
    × UnderLatch end (EnterRefused relations f tag p end why) v w

-- The page p was entered, under the log's latch, at the end as it was loaded there, and the entry
-- ends at `lsn`
pub record Inserts (relations : List RelEntry) (f : ℕ) (tag : Tag) (p : Page) (lsn : ℕ) (v w : View)
    : Type 0 where
  pub start : ℕ
  -- at or past all that the view had seen
  pub later : v.front ≤ start
  pub ends : lsn ≡ start + record_size
  pub room : lsn ≤ last_position
  pub work : UnderLatch start (Enters relations f tag start p) v w

-- What an insert of the page with this answer adds to the records that the view failed to append:
-- after a failed append the page's, as its entry would have made it
abbrev pub AddsTorn : ℕ → Page → Result ℕ InsertError → List TornRecord → List TornRecord → Type 0
AddsTorn tag page (Err LogFault) old new = (lsn : ℕ) × (lsn ≤ last_position)
    × (new ≡ old ++ record { tag = tag; page = with_lsn lsn page } ∷ [])
AddsTorn tag page _ old new = new ≡ old

-- the log end that a refusal names was seen, and is at or past all that the view had seen of it
abbrev pub InsertSeesEnd : InsertError → View → View → Type 0
InsertSeesEnd (LogFull end) v w = (v.end_seen ≤ end) × (end ≤ w.end_seen)
InsertSeesEnd (LogDown at) v w = (v.end_seen ≤ at) × (at ≤ w.end_seen)
InsertSeesEnd LogFault v w = Unit {0}

-- the view then: the write is the last of its calls, whose place is its front, and it has called
-- the log once
abbrev pub inserted_view : ℕ → ℕ → Page → ℕ → View → View
inserted_view f tag p lsn v = record v {
  links = slice_set v.links f (entered_link p (link v f));
  calls = v.calls ++ Write v.number tag p lsn image_record ∷ [];
  front = lsn;
  device_calls = v.device_calls ++ LogAppend true ∷ [];
}

-- the view after an insert was refused
abbrev pub refused_view : InsertError → View → View
refused_view (LogFull end) v = v
refused_view (LogDown at) v = downed v
refused_view LogFault v = record (faulted v) {
  device_calls = v.device_calls ++ LogAppend false ∷ [];
}
