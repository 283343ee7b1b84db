-- Redo of a log's entries over lanes, and what a recovery leaves.
use Rattle.std.specs.Prelude.{◌≡◌, ℕ, ◌<◌, ◌≤◌, ◌⊎◌, true, false, List, [], ◌∷◌, ◌++◌, length, map}
use Rattle.std.specs.Prelude.{get_or, nat_eq, slice_set, Option, Some, Result, IfSome, is_some}
use Rattle.std.specs.List.{filter_map}
use Rattle.std.specs.Set.{distinct_count}
use Rattle.block_tag.specs.Catalogue.{IsCatalogue}
use Rattle.block_tag.specs.Names.{lane_number, names_block, packed_tag, tag_eq}
use Rattle.block_tag.specs.declared.catalogue.RelEntry.{RelEntry}
use Rattle.block_tag.specs.declared.tag.Tag.{Tag}
use Rattle.byte_devices.specs.Faults.{Rose}
use Rattle.segment_store.specs.Contents.{Marks, Pages, no_marks, AfterWrite}
use Rattle.segment_store.specs.Lanes.{lane_at, mark_in, page_in}
use Rattle.history_core.specs.Log.{AreImages, AreValid, Entry, Log, LogLaw, log_end, page_after}
use Rattle.history_core.specs.Log.{tag_in}
use Rattle.history_core.specs.Unentered.{IsEntered}
use Rattle.log_recovery.specs.Records.{HasBadHead, IsLogOf}
use Rattle.log_recovery.specs.declared.recovering.Redone.{Redone}

-- the blocks whose pages entries change, one for each entry
abbrev pub words_of : List Entry → List ℕ
words_of es = filter_map (λ e. tag_in e.change) es

-- how many different blocks they are
unfoldable pub block_count : List Entry → ℕ
block_count es = distinct_count nat_eq (words_of es)

-- what a recovery tells of a log
pub record Tells (log : Log) (r : Redone) : Type 0 where
  pub base : r.base ≡ log.base
  pub end : r.end ≡ log_end log
  pub entries : r.entries ≡ length log.entries
  pub blocks : r.blocks ≡ block_count log.entries

-- the tag names a block, and one of the entries is of it
abbrev pub IsEnteredBlock : List Entry → Tag → Type 0
IsEnteredBlock es tag = (names_block tag ≡ true) × IsEntered es (packed_tag tag)

module _ (es : List Entry) (old new : List (Option Pages)) (marks marks_now : List Marks) where
  -- Redo of the entries at a tag, if its lane's contents are known
  pub record IsRedone (tag : Tag) : Type 0 where
    pub known : is_some (lane_at new tag) ≡ is_some (lane_at old tag)
    -- a block has its page after the entries, and what is no block is as it was
    pub page : is_some (lane_at old tag) ≡ true → names_block tag ≡ true
        → page_in new tag ≡ page_after (packed_tag tag) es (page_in old tag)
    pub other : is_some (lane_at old tag) ≡ true → names_block tag ≡ false
        → page_in new tag ≡ page_in old tag
    -- a block with an entry isn't marked, and all others are marked as they were
    pub written : is_some (lane_at old tag) ≡ true → IsEnteredBlock es tag
        → mark_in marks_now tag ≡ false
    pub kept : is_some (lane_at old tag) ≡ true → (IsEnteredBlock es tag → ⊥)
        → mark_in marks_now tag ≡ mark_in marks tag

  -- The entries are redone at each tag
  pub record AreRedone : Type 0 where
    pub count : (length new ≡ length old) × (length marks_now ≡ length marks)
    pub each : (tag : Tag) → IsRedone tag

  -- The entries are redone but for one block, whose last write failed
  pub record AreRedoneBut (torn : Tag) : Type 0 where
    pub count : (length new ≡ length old) × (length marks_now ≡ length marks)
    pub each : (tag : Tag) → tag_eq tag torn ≡ false → IsRedone tag
    pub known : is_some (lane_at new torn) ≡ is_some (lane_at old torn)
    pub failed : is_some (lane_at old torn) ≡ true → mark_in marks_now torn ≡ true

-- The page was written to the lane of its block, or that failed; the other lanes are as they were
pub record WritesTo {E : Type 0} (tag : Tag) (page : List ℕ) (old new : List (Option Pages))
    (marks marks_now : List Marks) (result : Result Unit E) : Type 0 where
  pub after : Option Pages
  pub after_marks : Marks
  pub lane : AfterWrite tag page (lane_at old tag)
      (get_or marks (lane_number tag (length marks)) no_marks) after after_marks result
  pub contents : new ≡ slice_set old (lane_number tag (length old)) after
  pub failed : marks_now ≡ slice_set marks (lane_number tag (length marks)) after_marks

-- each tag that was marked since, in any lane, is of this kind
abbrev pub MarksOnly : (Tag → Type 0) → List Marks → List Marks → Type 0
MarksOnly kind old new = (q : ℕ) (tag : Tag) → get_or new q no_marks tag ≡ true
    → (get_or old q no_marks tag ≡ true) ⊎ kind tag

-- some count rose
abbrev pub AnyRose : List ℕ → List ℕ → Type 0
AnyRose old new = (q : ℕ) × (q < length old) × Rose (get_or old q 0) (get_or new q 0)

-- no count fell
pub record NoneFell (old new : List ℕ) : Type 0 where
  pub count : length new ≡ length old
  pub each : (q : ℕ) → get_or old q 0 ≤ get_or new q 0

-- these are the first entries of the log that the bytes are, for a catalogue of relations; none
-- if the head is bad
abbrev pub AreFirstOf : List RelEntry → List ℕ → List Entry → Type 0
AreFirstOf relations bytes es = (HasBadHead bytes → es ≡ []) × (IsCatalogue relations
    → (log : Log) → IsLogOf relations bytes log → (rest : List Entry) × (log.entries ≡ es ++ rest))

-- Each tag that was marked since is the block of an entry, of first ones that lead
pub record MarksFirst (leads : List Entry → Type 0) (old new : List Marks) : Type 0 where
  pub entries : List Entry
  pub first : leads entries
  pub only : MarksOnly (IsEnteredBlock entries) old new

-- what a recovery leaves unsynced that wasn't so before: blocks of first entries of the log alone
abbrev pub LeavesUnsynced : List RelEntry → Option (List ℕ) → List Marks → List Marks → Type 0
LeavesUnsynced relations source old new =
    MarksFirst (λ es. IfSome source (λ bytes. AreFirstOf relations bytes es)) old new

module _ {L : Type 0} (contents : L → Option Pages) (failed : L → Marks) where
  -- no tag was marked since, in a lane whose contents are known
  abbrev pub MarksNone : List L → List L → Type 0
  MarksNone old new = (tag : Tag) → is_some (lane_at (map contents old) tag) ≡ true
      → mark_in (map failed new) tag ≡ true → mark_in (map failed old) tag ≡ true

  abbrev pub Redoes : List Entry → List L → List L → Type 0
  Redoes es old new =
      AreRedone es (map contents old) (map contents new) (map failed old) (map failed new)

  -- What a recovery that ended well has done; the log is what the source's bytes are, if they
  -- are known
  pub record IsRecovered (relations : List RelEntry) (source : Option (List ℕ)) (old new : List L)
      (r : Redone) : Type 0 where
    pub log : Log
    pub is : IfSome source (λ bytes. IsLogOf relations bytes log)
    pub law : LogLaw log × AreImages log.entries
    pub told : Tells log r
    pub lanes : Redoes log.entries old new

  module _ (leads : List Entry → Type 0) where
    -- The last write of the block of the entry behind these ones failed; with it they lead, too
    pub record FailsAt (es : List Entry) (old new : List L) : Type 0 where
      pub entry : Entry
      pub tag : Tag
      pub named : names_block tag ≡ true
      pub of : tag_in entry.change ≡ Some (packed_tag tag)
      pub next : leads (es ++ entry ∷ [])
      pub lanes : AreRedoneBut es (map contents old) (map contents new)
          (map failed old) (map failed new) tag

    -- The redo of some entries that lead; or so but for one block, that of the next
    pub record LeavesFirst (old new : List L) : Type 0 where
      pub entries : List Entry
      pub first : leads entries
      pub valid : AreValid entries × AreImages entries
      pub lanes : Redoes entries old new ⊎ FailsAt entries old new

  -- what a recovery leaves that ended before its end
  abbrev pub LeavesPart : List RelEntry → Option (List ℕ) → List L → List L → Type 0
  LeavesPart relations source old new =
      LeavesFirst (λ es. IfSome source (λ bytes. AreFirstOf relations bytes es)) old new
