-- A rewrite and its checkpoint, put together.
use Rattle.std.proofs.Common.{◌≡◌, ℕ, List, Option, Ok, Err, refl, inl, inr, arith}
use Rattle.page_layout.specs.declared.outcomes.RewriteTotals.{RewriteTotals}
use Rattle.segment_store.specs.Contents.{Pages}
use Rattle.frame_table.specs.Seats.{lanes_in}
use Rattle.backend_pass.specs.declared.manager.Manager.{Manager}
use Rattle.backend_pass.specs.Passes.{PassState}
use Rattle.checkpointer.specs.declared.ending.CheckpointError.{CheckpointError}
use Rattle.page_jobs.specs.declared.ending.JobError.{JobError}
use Rattle.page_jobs.specs.declared.ending.Totals.{Totals}
use Rattle.page_jobs.specs.Beside.{LastDid, StaysBeside}
use Rattle.page_jobs.specs.Jobs.{workers_in}
use Rattle.page_jobs.specs.Relations.{MeetNothing}
use Rattle.page_jobs.specs.RewriteJobs.{EndsRewrite, RewriteParts, RewritesFork}
use Rattle.relation_commands.specs.declared.rewriting.RewriteError.{RewriteError}
use Rattle.relation_commands.specs.declared.starting.RelationFork.{RelationFork}
use Rattle.relation_commands.specs.Checkpointing.{ChecksByLast, LastMeets, StoresAll, StoresRewrite}
use Rattle.relation_commands.specs.Rewriting.{checkpoint_error, rewrite_error, rewrite_totals_in}
use Rattle.relation_commands.specs.Rounds.{MakesRounds}
use Rattle.relation_commands.specs.Starting.{IsStarted}
use Rattle.relation_commands.proofs.RewritePasses.{all_given, all_met, alone, checks_none}

module _ {L G : Type 0} (contents : L → Option Pages) (m : Manager L G) (r : RelationFork) (rounds base : ℕ) (ps qs : List PassState) (started : IsStarted contents r base m ps)
    (parts : RewriteParts contents m 0 r.fork (workers_in ps) (workers_in qs)) (stays : StaysBeside contents m ps qs) where
  -- the job ended early
  pub stores_early : (why : JobError) (e : RewriteError) → e ≡ rewrite_error why → EndsRewrite contents m 0 r.fork ps qs why → StoresRewrite contents m r.fork rounds ps qs (Err e)
  stores_early why e is ends =
      let checked = checks_none contents m ps qs stays (let several = started.several.0 in omega arith) in
      record {
        qs = qs;
        alone = alone contents m r.fork ps qs started.passes started.several.0 parts stays qs checked started.counted;
        given = all_given contents m r.fork ps qs started.passes started.several.0 parts stays qs checked;
        checked = checked;
        whole = tt;
        early = inl (why, is, refl, ends);
      }

  module _ (zs : List PassState) (checked : ChecksByLast contents m qs zs) where
    -- it was whole, and so was the checkpoint
    pub stores_whole : (counts : Totals) (totals : RewriteTotals) → totals ≡ rewrite_totals_in counts → RewritesFork contents m 0 r.fork (workers_in ps) (workers_in qs) counts → MeetNothing ps qs
        → LastDid (λ p q. MakesRounds contents m rounds p q (Ok tt)) ps qs → StoresAll (lanes_in m.table) qs zs → StoresRewrite contents m r.fork rounds ps zs (Ok totals)
    stores_whole counts totals is all met beside stores = record {
      qs = qs;
      alone = alone contents m r.fork ps qs started.passes started.several.0 parts stays zs checked started.counted;
      given = all_given contents m r.fork ps qs started.passes started.several.0 parts stays zs checked;
      checked = checked;
      whole = record { counts = counts; all = all; totals_are = is; beside = beside; stores = stores; met = all_met contents m r.fork ps qs started.passes started.several.0 parts stays zs checked met stores };
      early = tt;
    }

    -- the checkpoint was refused
    pub stores_refused : (why : CheckpointError) (e : RewriteError) → e ≡ checkpoint_error why → LastMeets contents m.table qs zs (checkpoint_error why)
        → (counts : Totals) → RewritesFork contents m 0 r.fork (workers_in ps) (workers_in qs) counts → StoresRewrite contents m r.fork rounds ps zs (Err e)
    stores_refused why e is meets counts all = record {
      qs = qs;
      alone = alone contents m r.fork ps qs started.passes started.several.0 parts stays zs checked started.counted;
      given = all_given contents m r.fork ps qs started.passes started.several.0 parts stays zs checked;
      checked = checked;
      whole = tt;
      early = inr (why, is, meets, (counts, all));
    }
