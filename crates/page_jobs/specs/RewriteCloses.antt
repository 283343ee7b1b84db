-- What the devices hold when a manager is closed after a rewrite.
use Rattle.std.specs.Prelude.{◌≡◌, ◌≢◌, ◌⊎◌, ℕ, ◌+◌, ◌*◌, ◌<◌, ◌≤◌, true, false, List, [], ◌++◌}
use Rattle.std.specs.Prelude.{length, Option, Some, None, is_some}
use mathlib.Core.Option.{some}
use lib.ListN.{get_elem?}
use Rattle.block_tag.specs.declared.tag.Fork.{Fork}
use Rattle.block_tag.specs.declared.tag.Tag.{Tag}
use Rattle.page_layout.specs.Outcomes.{rewrite_totals_of}
use Rattle.segment_store.specs.Contents.{Pages}
use Rattle.pin_core.specs.declared.view.Call.{Call}
use Rattle.pin_core.specs.State.{Page}
use Rattle.history_core.specs.Log.{Log, end_of, head_size, record_size, writes_in}
use Rattle.history_core.specs.State.{State, last_position}
use Rattle.table_rule.specs.declared.opening.Opening.{Opening}
use Rattle.table_rule.specs.Shows.{Devices, IsPlaced}
use Rattle.frame_table.specs.Seats.{OnlyRises, base_of, lanes_in, opened_of}
use Rattle.backend_pass.specs.declared.manager.Manager.{Manager}
use Rattle.backend_pass.specs.Closing.{ClosesAll, EachPass, HasSwept, PutNothing}
use Rattle.backend_pass.specs.Passes.{PassState}
use Rattle.page_jobs.specs.declared.ending.JobError.{JobError}
use Rattle.page_jobs.specs.declared.ending.JobError.TheVariants.{LogFull}
use Rattle.page_jobs.specs.declared.ending.Totals.{Totals}
use Rattle.page_jobs.specs.Beside.{StaysBeside}
use Rattle.page_jobs.specs.Ending.{totals_of_rewrite}
use Rattle.page_jobs.specs.Jobs.{IsOrigin, workers_in}
use Rattle.page_jobs.specs.Parts.{blocks_in}
use Rattle.page_jobs.specs.Rewrites.{Rule, rule_of}
use Rattle.page_jobs.specs.RewriteEnds.{BeginsRewrite, HasEntry, HasRewrites, IsPageEntry}
use Rattle.page_jobs.specs.RewriteEnds.{IsRewritten}
use Rattle.page_jobs.specs.RewriteJobs.{EndsRewrite, RewriteParts, RewritesFork}

-- a pass failed to append no record
abbrev pub ToreNothing : PassState → Type 0
ToreNothing p = p.view.torn ≡ []

-- A pass has put no page since then, and failed to append none
pub record PutsNoMore (q z : PassState) : Type 0 where
  pub more : List Call
  pub calls : z.view.calls ≡ q.view.calls ++ more
  pub reads : writes_in more ≡ 0
  pub torn : z.view.torn ≡ q.view.torn

-- The log has an entry of this block, whose page is what the rule made of this one, and durable;
-- and that is the page that the block has now
pub record HasEntryPage (r : Rule) (s : State) (packed : ℕ) (page : Page)
    (now : Option Page) : Type 0 where
  pub made : HasEntry s.log packed
  pub entered : IsPageEntry made.entry packed (r.rewritten page (end_of made.entry))
  pub durable : head_size + end_of made.entry ≤ s.log.base + s.device.synced
  pub held : now ≡ Some (r.rewritten page (end_of made.entry))

module _ {L G : Type 0} (contents : L → Option Pages) (m : Manager L G) (rel : ℕ)
    (fork : Fork) where
  -- A rewrite made the passes qs of the passes ps, and they were these, in the same order, as the
  -- manager was closed: none had put a page before it, or put one after it, or failed to append one
  pub record RewritesAlone (ps qs zs : List PassState) : Type 0 where
    pub several : 1 < length ps
    pub parts : RewriteParts contents m rel fork (workers_in ps) (workers_in qs)
    pub beside : StaysBeside contents m ps qs
    pub before : EachPass PutNothing ps
    pub untorn : EachPass ToreNothing ps
    pub counted : length zs ≡ length qs
    pub after : (i : ℕ) (q z : PassState) → get_elem? qs i ≡ some q → get_elem? zs i ≡ some z
        → PutsNoMore q z
    -- the manager was opened with as many lanes as it has, and has some
    pub lanes : length (opened_of m.table) ≡ lanes_in m.table
    pub some_lanes : 0 < lanes_in m.table

  -- A rewrite did all blocks, whose pages are known, and at the close one of the passes has swept
  -- each lane up to a position that is at least the front of each pass
  pub record RewritesAndStores (ps qs zs : List PassState) (totals : Totals)
      (upto : ℕ) : Type 0 where
    pub alone : RewritesAlone ps qs zs
    pub all : RewritesFork contents m rel fork (workers_in ps) (workers_in qs) totals
    pub known : (q : ℕ) (l : L) → get_elem? (opened_of m.table) q ≡ some l
        → is_some (contents l) ≡ true
    pub index : ℕ
    pub checkpointer : PassState
    pub there : get_elem? zs index ≡ some checkpointer
    pub swept : HasSwept (lanes_in m.table) upto checkpointer.view
    pub fronts : EachPass (λ z. z.view.front ≤ upto) zs

  -- A rewrite ended early, for this reason, and what the passes had seen by then they still have
  -- seen, and maybe more
  pub record RewritesAndEnds (ps qs zs : List PassState) (e : JobError) : Type 0 where
    pub alone : RewritesAlone ps qs zs
    pub ends : EndsRewrite contents m rel fork ps qs e
    pub rises : (i : ℕ) (q z : PassState) → get_elem? qs i ≡ some q → get_elem? zs i ≡ some z
        → OnlyRises q.view z.view

module _ {L G : Type 0} (d : Devices L G) (o : Opening L G) (lanes : List L) where
  -- The block of this tag, whose number this is, lies in a lane with these contents as the table
  -- was opened, and with these as it was closed
  pub record IsInLanes (packed : ℕ) (tag : Tag) (before after : Pages) (closed : L) : Type 0 where
    pub lane : ℕ
    pub opened : L
    pub was : get_elem? o.lanes.value.items lane ≡ some opened
    pub is : get_elem? lanes lane ≡ some closed
    pub held : d.contents opened ≡ Some before
    pub holds : d.contents closed ≡ Some after
    pub placed : IsPlaced o.catalog.value o.config.lanes lane packed tag

  -- Each block has the page that it had, or what the rule made of it, or its last write failed
  abbrev pub HoldEither : Rule → State → Type 0
  HoldEither r s =
      (packed : ℕ) (tag : Tag) (before after : Pages) (closed : L) (page : Page)
      → IsInLanes packed tag before after closed → before tag ≡ Some page
      → d.failed_writes closed tag ≡ false
      → (after tag ≡ Some page) ⊎ HasEntryPage r s packed page (after tag)

  -- The lanes have the rewritten relation of n blocks
  pub record HoldRewritten (r : Rule) (n : ℕ) (log : Log) : Type 0 where
    -- of a page that the rule changes the log has an entry, which is what the rule made of it; and
    -- the lane has that page, or the block's last write failed
    pub changed : (block : ℕ) (tag : Tag) (before after : Pages) (closed : L) (page : Page)
        → block < n → IsInLanes (r.tag block) tag before after closed → before tag ≡ Some page
        → r.changes page ≡ true
        → (x : HasEntry log (r.tag block))
        × IsPageEntry x.entry (r.tag block) (r.rewritten page (end_of x.entry))
        × (d.failed_writes closed tag ≡ false
        → after tag ≡ Some (r.rewritten page (end_of x.entry)))
    -- of a page that the rule leaves the log has no entry
    pub same : (block : ℕ) (tag : Tag) (before after : Pages) (closed : L) (page : Page) → block < n
        → IsInLanes (r.tag block) tag before after closed → before tag ≡ Some page
        → r.changes page ≡ false → HasEntry log (r.tag block) → ⊥
    -- a block of which the log has no entry, in the fork or elsewhere, has its page as before, or
    -- its last write failed
    pub others : (packed : ℕ) (tag : Tag) (before after : Pages) (closed : L) (page : Page)
        → IsInLanes packed tag before after closed → before tag ≡ Some page
        → (HasEntry log packed → ⊥) → d.failed_writes closed tag ≡ false → after tag ≡ Some page

module _ {L G : Type 0} (d : Devices L G) (m : Manager L G) where
  -- After a rewrite with any end each entry of the log is what the rule made of a block's page at
  -- the opening, and a block has one at most; each lane has the one page or the other; and what a
  -- failure left after the log begins the record of such a page, of a block that has no entry
  abbrev pub ClosesEither : Type 0
  ClosesEither =
      (rel : ℕ) (fork : Fork) (ps qs zs : List PassState) (lanes : List L) (log : G)
      → RewritesAlone d.contents m rel fork ps qs zs
      → (c : ClosesAll d m.table.table.shared.key zs lanes log)
      → HasRewrites (rule_of rel fork) (blocks_in m rel fork) c.state.known
      c.state.origin c.state.log
      × HoldEither d m.table.table.shared.key lanes (rule_of rel fork) c.state
      × (c.laws.rest.behind.rest ≢ [] → c.mark ≢ None
      → BeginsRewrite (rule_of rel fork) (blocks_in m rel fork) c.state c.laws.rest.behind.rest)

  -- After one of all blocks, and a checkpoint, the log has exactly the entries of the changed
  -- blocks, the totals are those of the pages at the opening, and the lanes have the rewritten
  -- relation
  abbrev pub ClosesRewritten : Type 0
  ClosesRewritten =
      (rel : ℕ) (fork : Fork) (ps qs zs : List PassState) (totals : Totals) (upto : ℕ)
      (lanes : List L) (log : G) → RewritesAndStores d.contents m rel fork ps qs zs totals upto
      → (c : ClosesAll d m.table.table.shared.key zs lanes log)
      → IsRewritten (rule_of rel fork) (blocks_in m rel fork) c.state.known
      c.state.origin c.state.log
      × ((pages : List Page) → IsOrigin d.contents m rel fork pages
      → totals ≡ totals_of_rewrite (rewrite_totals_of pages))
      × HoldRewritten d m.table.table.shared.key lanes (rule_of rel fork)
      (blocks_in m rel fork) c.state.log

  -- After a rewrite that ended because the log was full, a record had no room at this end, and some
  -- block has no record: one more would end where the last of a record for each block does, or
  -- before
  abbrev pub ClosesFull : Type 0
  ClosesFull =
      (rel : ℕ) (fork : Fork) (ps qs zs : List PassState) (end : ℕ) (lanes : List L) (log : G)
      → RewritesAndEnds d.contents m rel fork ps qs zs (LogFull end)
      → ClosesAll d m.table.table.shared.key zs lanes log
      → (last_position < end + record_size)
      × (end + record_size ≤ base_of m.table + record_size * blocks_in m rel fork)
