-- The checkpoint at the end of a rewrite.
use Rattle.std.specs.Prelude.{◌≡◌, ◌⊎◌, ℕ, ◌+◌, ◌-◌, ◌<◌, ◌≤◌, true, List, length, Option, Result}
use Rattle.std.specs.Prelude.{Ok, IfErr, IfOk}
use mathlib.Core.Option.{some}
use lib.ListN.{get_elem?}
use Rattle.block_tag.specs.declared.tag.Fork.{Fork}
use Rattle.block_tag.specs.declared.tag.Tag.{Tag}
use Rattle.block_tag.specs.Names.{names_block}
use Rattle.page_layout.specs.declared.outcomes.RewriteTotals.{RewriteTotals}
use Rattle.page_layout.specs.Fields.{lsn_of}
use Rattle.page_layout.specs.Soundness.{is_sound_page}
use Rattle.segment_store.specs.Contents.{Pages}
use Rattle.pin_core.specs.declared.view.View.{View}
use Rattle.pin_core.specs.State.{Page}
use Rattle.history_core.specs.Log.{record_size}
use Rattle.history_core.specs.State.{last_position}
use Rattle.table_rule.specs.Blocks.{has_block}
use Rattle.frame_table.specs.declared.table.FrameTable.{FrameTable}
use Rattle.frame_table.specs.Opened.{WasAtOpening}
use Rattle.frame_table.specs.Seats.{lanes_in, relations_of}
use Rattle.backend_pass.specs.declared.manager.Manager.{Manager}
use Rattle.backend_pass.specs.Closing.{EachPass, HasSwept}
use Rattle.backend_pass.specs.Managers.{AreAll, Belongs}
use Rattle.backend_pass.specs.Passes.{KeepsCallers, PassState}
use Rattle.checkpointer.specs.declared.ending.CheckpointError.{CheckpointError}
use Rattle.page_jobs.specs.declared.ending.JobError.{JobError}
use Rattle.page_jobs.specs.declared.ending.Totals.{Totals}
use Rattle.page_jobs.specs.Beside.{LastDid}
use Rattle.page_jobs.specs.Jobs.{workers_in}
use Rattle.page_jobs.specs.Relations.{MeetNothing}
use Rattle.page_jobs.specs.RewriteCloses.{RewritesAlone}
use Rattle.page_jobs.specs.RewriteJobs.{EndsRewrite, RewritesFork}
use Rattle.relation_commands.specs.declared.limits.PositionLimit.TheVariants.{OfPages, OfPage}
use Rattle.relation_commands.specs.declared.limits.PositionLimit.TheVariants.{OfLog}
use Rattle.relation_commands.specs.declared.rewriting.RewriteError.{RewriteError}
use Rattle.relation_commands.specs.declared.rewriting.RewriteError.TheVariants.{ReadFault}
use Rattle.relation_commands.specs.declared.rewriting.RewriteError.TheVariants.{WriteFault}
use Rattle.relation_commands.specs.declared.rewriting.RewriteError.TheVariants.{LogFault, OutFault}
use Rattle.relation_commands.specs.declared.rewriting.RewriteError.TheVariants.{Memory, OverLimit}
use Rattle.relation_commands.specs.Rewriting.{checkpoint_error, rewrite_error, rewrite_totals_in}
use Rattle.relation_commands.specs.Rounds.{MakesRounds}

-- The view has swept each of this many lanes up to a position that is at least this one
pub record SweepsPast (lanes front : ℕ) (v : View) : Type 0 where
  pub upto : ℕ
  pub past : front ≤ upto
  pub swept : HasSwept lanes upto v

-- A sound page that the lane of a block can have held as the table was opened has a position past
-- the log's end, which wasn't before one that the view had seen
pub record IsPastEnd {L G : Type 0} (contents : L → Option Pages) (t : FrameTable L G) (v : View)
    (lsn end : ℕ) : Type 0 where
  pub tag : Tag
  pub named : names_block tag ≡ true
  pub listed : has_block (relations_of t) tag ≡ true
  pub page : Page
  pub sound : is_sound_page page ≡ true
  pub was : WasAtOpening contents t tag page
  pub position : lsn ≡ lsn_of page
  pub past : end < lsn
  pub seen : v.end_seen ≤ end

-- why a pass whose view was v, and is w, ends a rewrite: it met a fault, or has seen the log down
abbrev pub PassMeets : {L G : Type 0} → (L → Option Pages) → FrameTable L G → View → View
    → RewriteError → Type 0
PassMeets contents t v w ReadFault = 0 < w.met.reads
PassMeets contents t v w WriteFault = 0 < w.met.writes
PassMeets contents t v w LogFault = w.saw_down ≡ true
PassMeets contents t v w OutFault = ⊥
PassMeets contents t v w Memory = ⊥
PassMeets contents t v w (OverLimit (OfPages largest blocks)) = ⊥
PassMeets contents t v w (OverLimit (OfPage lsn end)) = IsPastEnd contents t v lsn end
PassMeets contents t v w (OverLimit (OfLog end)) =
    (last_position < end + record_size) × (end ≤ w.end_seen)

module _ {L G : Type 0} (contents : L → Option Pages) (m : Manager L G) where
  -- The last pass made a checkpoint, and the others did nothing
  pub record ChecksByLast (ps qs : List PassState) : Type 0 where
    pub counted : length qs ≡ length ps
    pub others : (i : ℕ) → i < length ps - 1 → get_elem? qs i ≡ get_elem? ps i
    pub last : (p q : PassState) → get_elem? ps (length ps - 1) ≡ some p
        → get_elem? qs (length ps - 1) ≡ some q → Belongs contents m q × KeepsCallers p q

-- the last one has swept each of this many lanes past the front of each pass, and met no fault
pub record StoresAll (lanes : ℕ) (ps qs : List PassState) : Type 0 where
  pub upto : ℕ
  pub fronts : EachPass (λ q. q.view.front ≤ upto) qs
  pub last : (p q : PassState) → get_elem? ps (length ps - 1) ≡ some p
      → get_elem? qs (length ps - 1) ≡ some q
      → HasSwept lanes upto q.view × (q.view.met ≡ p.view.met)

-- the last one was refused for this reason
abbrev pub LastMeets : {L G : Type 0} → (L → Option Pages) → FrameTable L G → List PassState
    → List PassState → RewriteError → Type 0
LastMeets contents t ps qs e =
    (p q : PassState) → get_elem? ps (length ps - 1) ≡ some p
    → get_elem? qs (length ps - 1) ≡ some q → PassMeets contents t p.view q.view e

module _ {L G : Type 0} (contents : L → Option Pages) (m : Manager L G) (fork : Fork) where
  -- The job ended early, for this reason, and nothing was done after it; or it was whole, and the
  -- checkpoint was refused
  abbrev pub EndsEarly : List PassState → List PassState → List PassState → RewriteError → Type 0
  EndsEarly ps qs zs e =
      ((why : JobError) × (e ≡ rewrite_error why) × (zs ≡ qs)
      × EndsRewrite contents m 0 fork ps qs why)
      ⊎ ((why : CheckpointError) × (e ≡ checkpoint_error why)
      × LastMeets contents m.table qs zs (checkpoint_error why)
      × ((counts : Totals) × RewritesFork contents m 0 fork (workers_in ps) (workers_in qs) counts))

  module _ (rounds : ℕ) where
    -- The passes `ps`, which were `qs` after the job, rewrote all blocks, beside which the last one
    -- made this many rounds, and then, as `zs`, have stored what was logged; none met a fault
    pub record StoresWhole (ps qs zs : List PassState) (totals : RewriteTotals) : Type 0 where
      pub counts : Totals
      pub all : RewritesFork contents m 0 fork (workers_in ps) (workers_in qs) counts
      pub totals_are : totals ≡ rewrite_totals_in counts
      pub beside : LastDid (λ p q. MakesRounds contents m rounds p q (Ok tt)) ps qs
      pub stores : StoresAll (lanes_in m.table) qs zs
      pub met : MeetNothing ps zs

    -- The passes `ps` made a rewrite, and, if it was whole, the last of them a checkpoint. No other
    -- page was put, and all passes can be given back
    pub record StoresRewrite (ps zs : List PassState)
        (end : Result RewriteTotals RewriteError) : Type 0 where
      -- after the job they were these
      pub qs : List PassState
      pub alone : RewritesAlone contents m 0 fork ps qs zs
      pub given : AreAll m zs
      pub checked : ChecksByLast contents m qs zs
      pub whole : IfOk end (StoresWhole ps qs zs)
      pub early : IfErr end (EndsEarly ps qs zs)
