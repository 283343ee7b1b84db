-- A page becomes an entry of the log.
use Rattle.std.specs.Prelude.{◌≡◌, ℕ, ◌+◌, ◌<◌, ◌≤◌, true, false, List, [], ◌∷◌, ◌++◌, length, slice_get, slice_set, Some, None, max}
use mathlib.Core.Option.{some}
use lib.ListN.{get_elem?}
use Rattle.atomic_table.specs.Table.{Me, Step}
use Rattle.block_tag.specs.declared.tag.Tag.{Tag}
use Rattle.block_tag.specs.declared.catalogue.RelEntry.{RelEntry}
use Rattle.block_tag.specs.Names.{names_block, packed_tag}
use Rattle.page_layout.specs.Fields.{lsn_of}
use Rattle.page_layout.specs.Soundness.{is_new_page, is_sound_page}
use Rattle.pin_core.specs.declared.view.Call.TheVariants.{Write}
use Rattle.pin_core.specs.declared.view.Content.TheVariants.{Exclusive}
use Rattle.pin_core.specs.declared.view.Link.{Link}
use Rattle.pin_core.specs.declared.view.View.{View}
use Rattle.pin_core.specs.State.{Page, link}
use Rattle.page_core.specs.Kinds.{make_entry}
use Rattle.page_core.specs.Steps.{HasNoneUnapplied}
use Rattle.history_core.specs.Laws.{Laws}
use Rattle.history_core.specs.Log.{image, record_size}
use Rattle.history_core.specs.State.{State, last_position}
use Rattle.history_core.specs.Steps.{CanEnter, logged_as, has_written, paged}
use Rattle.table_rule.specs.declared.value.Value.{Value}
use Rattle.table_rule.specs.LogCalls.{block_record}

-- The page p of a tag's block may become an entry, by the view v at the frame f, if the log ends at
-- `start`
pub record MayBecomeEntry (f : ℕ) (tag : Tag) (p : Page) (start : ℕ) (v : View) : Type 0 where
  -- this is the end as the view has loaded it under the log's latch
  pub loaded : v.log.end ≡ Some start
  -- the view's pin remembers the tag
  pub named : names_block tag ≡ true
  pub remembered : (link v f).tag ≡ Some (packed_tag tag)
  -- it has the content lock exclusively, and marked the frame dirty under it
  pub right : (link v f).content ≡ Exclusive
  pub dirtied : (link v f).dirtied ≡ true
  -- no entry of its own is unapplied, here or at another frame
  pub applied : HasNoneUnapplied v
  -- the page is whole and sound, isn't new, and has the position of the entry's end
  pub full : length p ≡ 8192
  pub sound : is_sound_page p ≡ true
  pub used : is_new_page p ≡ false
  pub ends : lsn_of p ≡ start + record_size
  pub room : start + record_size ≤ last_position

-- the bytes are the record of the entry, if the relations name the block
pub record IsRecord (relations : List RelEntry) (tag : Tag) (start : ℕ) (p : Page) (bytes : List ℕ)
    : Type 0 where
  pub entry : RelEntry
  pub listed : slice_get relations tag.rel.0 ≡ Some entry
  pub is : bytes ≡ block_record entry tag start p

-- The log's end may be stored as `end`: the view has appended the record of such an entry, and that
-- ends there
pub record MayStoreEnd (relations : List RelEntry) (f : ℕ) (tag : Tag) (p : Page) (end : ℕ)
    (v : View) : Type 0 where
  pub start : ℕ
  pub enters : MayBecomeEntry f tag p start v
  pub next : end ≡ start + record_size
  pub bytes : List ℕ
  pub is_record : IsRecord relations tag start p bytes
  pub appended : v.log.appended ≡ Some bytes

-- The view v became w as the entry of the page p of the frame f became part of the log
pub record DidEnter (f : ℕ) (p : Page) (v w : View) : Type 0 where
  -- the state that it was at, which has the law
  pub state : State
  pub laws : Laws state
  -- the view's place there
  pub seat : ℕ
  pub there : get_elem? state.pool.core.views seat ≡ some v
  pub live : v.emptied ≡ false
  pub inside : f < state.pool.core.frames
  pub allowed : CanEnter state f p (image (state.pool.core.frame f).tag p) v
  pub after : w ≡ has_written (image (state.pool.core.frame f).tag p) (link v f).copied
      (state.end + record_size) (state.pool.core.frame f).tag p
      (paged (make_entry p) state.pool f v)

-- what it has at the frame then: the entry isn't applied yet
abbrev pub entered_link : Page → Link → Link
entered_link p l = record l { entered = true; unapplied = true; image = Some p; copied = None }

-- the view then: a write is the last of its calls, whose place is the log's end
abbrev pub view_entered : ℕ → ℕ → Page → ℕ → View → View
view_entered f tag p end v = record v {
  links = slice_set v.links f (entered_link p (link v f));
  calls = v.calls
      ++ Write v.number tag p end (logged_as (image tag p) v.log.redo (link v f).copied) ∷ [];
  front = end;
  end_seen = max v.end_seen end;
  log = record v.log { appended = None; end = Some end };
  steps = v.steps + 1;
}

module _ {L G : Type 0} where
  -- the entry of such a page became part of the log, and the slots in hand stay
  abbrev pub tells_end : List RelEntry → ℕ → ℕ → Step (Value L G) → Me (Value L G) View → ℕ
      → Me (Value L G) View → Type 0
  tells_end relations f end st m found m' = (m'.1 ≡ m.1)
      × ((tag : Tag) × (p : Page) × MayStoreEnd relations f tag p end m.0 × DidEnter f p m.0 m'.0)
