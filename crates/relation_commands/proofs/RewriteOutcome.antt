-- What a rewrite leaves and why it ended, by what its passes did and what the close gives.
use Rattle.std.proofs.Common.{◌≡◌, ℕ, ◌+◌, ◌-◌, ◌*◌, ◌<◌, ◌≤◌, ◌^◌, ◌⊎◌, true, List, length, Result, Ok, Err, sym, ap, ◌∙◌, subst, ⊎_elim, arith}
use Rattle.std.specs.Prelude.{IfSome, is_some, sum_by}
use mathlib.Core.Option.{some-injective}
use lib.ListN.{get_elem?}
use Rattle.page_layout.specs.declared.outcomes.RewriteTotals.{RewriteTotals}
use Rattle.page_layout.specs.Outcomes.{rewrite_totals_of}
use Rattle.segment_store.specs.Contents.{AreFullPages}
use Rattle.pin_core.specs.declared.view.FailedCalls.{FailedCalls}
use Rattle.pin_core.specs.declared.view.View.{View}
use Rattle.pin_core.specs.State.{Page}
use Rattle.table_rule.specs.Shows.{Devices}
use Rattle.frame_table.specs.Seats.{OnlyRises, base_of, opened_of}
use Rattle.frame_table.proofs.Rising.{rises_none}
use Rattle.backend_pass.specs.declared.manager.Manager.{Manager}
use Rattle.backend_pass.specs.Closing.{ClosesAll, met_by_passes}
use Rattle.backend_pass.specs.Passes.{PassState}
use Rattle.checkpointer.specs.declared.ending.CheckpointError.{CheckpointError}
use Rattle.checkpointer.specs.declared.ending.CheckpointError.TheVariants as checkpoint
use Rattle.page_jobs.specs.declared.ending.JobError.{JobError}
use Rattle.page_jobs.specs.declared.ending.JobError.TheVariants as job
use Rattle.page_jobs.specs.RewriteCloses.{ClosesEither, ClosesFull, ClosesRewritten, RewritesAndStores}
use Rattle.page_jobs.specs.RewriteJobs.{EndsRewrite}
use Rattle.table_rule.proofs.Opens.{length_low, there_at}
use Rattle.backend_pass.proofs.Standing.{all_at}
use Rattle.page_jobs.proofs.Starting.{is_origin}
use Rattle.relation_commands.specs.declared.limits.PositionLimit.TheVariants.{OfLog}
use Rattle.relation_commands.specs.declared.rewriting.RewriteError.{RewriteError}
use Rattle.relation_commands.specs.declared.rewriting.RewriteError.TheVariants.{Memory, OverLimit}
use Rattle.relation_commands.specs.declared.starting.RelationFork.{RelationFork}
use Rattle.relation_commands.specs.Checkpointing.{StoresRewrite}
use Rattle.relation_commands.specs.Rewriting.{ArePages, HasPositionsLeft, HasRewriteCause, LeavesRewritten, checkpoint_error, rewrite_error, rewrite_totals_in}
use Rattle.relation_commands.specs.Starting.{IsStarted, log_of}
use Rattle.relation_commands.proofs.PagesAfter.{StaysUsed}
use Rattle.relation_commands.proofs.RewriteCauses.{SomePassMeets, any_meets, err_cause, met_by_none, no_position, ok_cause}
use Rattle.relation_commands.proofs.RewriteLeaves.{leaves_either, pages_held}
use Rattle.relation_commands.proofs.RewritePasses.{all_seen, all_seen_after}
use Rattle.relation_commands.proofs.RewriteWhole.{failed_rose, is_rewritten, unfailed}

-- the end at which a log is full
abbrev full_end : RewriteError → ℕ
full_end (OverLimit (OfLog end)) = end
full_end _ = 0

full_only : (why : JobError) (end : ℕ) → rewrite_error why ≡ OverLimit (OfLog end) → why ≡ job.LogFull end
full_only (job.ReadFault tag) end is = absurd (cc)
full_only (job.WriteFault tag) end is = absurd (cc)
full_only job.LogFault end is = absurd (cc)
full_only (job.LogDown at) end is = absurd (cc)
full_only (job.LogShort lsn at) end is = absurd (cc)
full_only (job.LogFull at) end is = ap job.LogFull (ap full_end is)
full_only job.OutFault end is = absurd (cc)
full_only job.Memory end is = absurd (cc)

never_full : (why : CheckpointError) (end : ℕ) → checkpoint_error why ≡ OverLimit (OfLog end) → ⊥
never_full (checkpoint.WriteFault tag) end is = absurd (cc)
never_full checkpoint.LogFault end is = absurd (cc)
never_full (checkpoint.LogDown at) end is = absurd (cc)
never_full (checkpoint.LogShort lsn at) end is = absurd (cc)
never_full (checkpoint.SyncFault lane) end is = absurd (cc)

module _ {L G : Type 0} {rounds : ℕ} (d : Devices L G) (m : Manager L G) (r : RelationFork) (base : ℕ) (ps zs : List PassState) (started : IsStarted d.contents r base m ps) (few : r.blocks < 2 ^ 32)
    (lanes : List L) (log : G) (c : ClosesAll d m.table.table.shared.key zs lanes log) where
  nothing : (totals : RewriteTotals) (s : StoresRewrite d.contents m r.fork rounds ps zs (Ok totals)) → met_by_passes zs ≡ record { reads = 0; writes = 0; logs = 0 }
  nothing totals s = met_by_none zs (λ i z at.
      let long = s.alone.counted in
      let counted = s.alone.beside.counted in
      let low = length_low zs i z at in
      let p = there_at ps i (omega arith) in
      s.whole.met i p.0 z p.1 at ∙ ap (λ (v : View). v.met) (started.passes.each i p.0 p.1).view)

  why_early : (e : RewriteError) (s : StoresRewrite d.contents m r.fork rounds ps zs (Err e)) → (e ≡ Memory) ⊎ SomePassMeets d.contents m zs e
  why_early e s =
      let several = started.several.0 in
      let counted = s.alone.beside.counted in
      any_meets d.contents m r.fork ps s.qs zs e (omega arith) s.alone.counted
      (all_seen d.contents m r.fork ps s.qs started.passes several s.alone.parts s.alone.beside)
      (all_seen_after d.contents m r.fork ps s.qs started.passes several s.alone.parts s.alone.beside) s.early

  pub cause : sum_by d.read_faults (opened_of m.table) ≡ 0 → sum_by d.write_faults (opened_of m.table) ≡ 0 → (end : Result RewriteTotals RewriteError) → StoresRewrite d.contents m r.fork rounds ps zs end
      → HasRewriteCause (sum_by d.read_faults lanes) (sum_by d.write_faults lanes) (d.log_faults (log_of m)) (d.log_faults log) end
  cause reads writes (Ok totals) s = ok_cause d m r base ps zs started few lanes log c reads writes totals (nothing totals s)
  cause reads writes (Err e) s = err_cause d m r base ps zs started few lanes log c reads writes e (why_early e s)

  module _ (either : ClosesEither d m) (rewritten : ClosesRewritten d m) (full : ClosesFull d m) (room : base_of m.table + 8224 * r.blocks ≤ 2 ^ 62) (none : d.log_faults (log_of m) ≡ 0) (writes : sum_by d.write_faults (opened_of m.table) ≡ 0) (full_pages : (lane : L) → IfSome (d.contents lane) AreFullPages) (stays_used : StaysUsed) where
    -- a whole rewrite, and its checkpoint
    stored : (pages : List Page) → ArePages d.contents r base (opened_of m.table) pages → (totals : RewriteTotals) (s : StoresRewrite d.contents m r.fork rounds ps zs (Ok totals))
        → RewritesAndStores d.contents m 0 r.fork ps s.qs zs s.whole.counts s.whole.stores.upto
    stored pages are totals s =
        let several = started.several.0 in
        let counted = s.alone.beside.counted in
        let long = s.alone.counted in
        let q = there_at s.qs (length s.qs - 1) (omega arith) in
        let z = there_at zs (length s.qs - 1) (omega arith) in
        record {
          alone = s.alone;
          all = s.whole.all;
          known = λ i l at. all_at (λ lane. is_some (d.contents lane) ≡ true) (opened_of m.table) i l are.known at;
          index = length s.qs - 1;
          checkpointer = z.0;
          there = z.1;
          swept = (s.whole.stores.last q.0 z.0 q.1 z.1).0;
          fronts = s.whole.stores.fronts;
        }

    totals_are : (pages : List Page) → ArePages d.contents r base (opened_of m.table) pages → (totals : RewriteTotals) → StoresRewrite d.contents m r.fork rounds ps zs (Ok totals) → totals ≡ rewrite_totals_of pages
    totals_are pages are totals s =
        let x = rewritten 0 r.fork ps s.qs zs s.whole.counts s.whole.stores.upto lanes log (stored pages are totals s) c in
        s.whole.totals_are ∙ ap rewrite_totals_in (x.1 pages (is_origin d.contents m r.fork r.blocks started.catalog started.counted pages are.have.held are.have.counted))

    -- a log with room for each block's record isn't full
    not_full : (e : RewriteError) → StoresRewrite d.contents m r.fork rounds ps zs (Err e) → (end : ℕ) → e ≡ OverLimit (OfLog end) → ⊥
    not_full e s end is = ⊎_elim
        (λ (x : (why : JobError) × (e ≡ rewrite_error why) × (zs ≡ s.qs) × EndsRewrite d.contents m 0 r.fork ps s.qs why).
        let f = full 0 r.fork ps s.qs zs end lanes log record {
          alone = s.alone;
          ends = subst (EndsRewrite d.contents m 0 r.fork ps s.qs) (full_only x.0 end (sym x.1 ∙ is)) x.3;
          rises = λ i q z at now. subst (λ (y : PassState). OnlyRises q.view y.view) (some-injective q z (sym at ∙ ap (λ (l : List PassState). get_elem? l i) (sym x.2) ∙ now)) (rises_none q.view);
        } c in
        let blocks = started.catalog.counted in
        omega arith)
        (λ x. never_full x.0 end (sym x.1 ∙ is))
        s.early

    positions_left : (e : RewriteError) → StoresRewrite d.contents m r.fork rounds ps zs (Err e) → (pages : List Page) → ArePages d.contents r base (opened_of m.table) pages → HasPositionsLeft e
    positions_left e s pages are = ⊎_elim
        (λ (short : e ≡ Memory). subst HasPositionsLeft (sym short) tt)
        (λ (x : SomePassMeets d.contents m zs e). no_position d m r base ps zs started few lanes log c e x (not_full e s) pages are)
        (why_early e s)

    pub leaves : (end : Result RewriteTotals RewriteError) → StoresRewrite d.contents m r.fork rounds ps zs end → LeavesRewritten d.contents d.failed_writes d.bytes d.synced d.write_faults d.log_faults r base (opened_of m.table) lanes log end
    leaves (Ok totals) s =
        let x = either 0 r.fork ps s.qs zs lanes log s.alone c in
        let unmet = nothing totals s in
        record {
          either = λ pages known are told. leaves_either d m r base ps zs started few lanes log c pages are x.1 known told none full_pages x.0 x.2;
          marked = λ pages are block below bad. failed_rose d m r base ps zs started few lanes log c writes pages are block below bad;
          whole = λ pages known are told.
              let y = rewritten 0 r.fork ps s.qs zs s.whole.counts s.whole.stores.upto lanes log (stored pages are totals s) c in
              is_rewritten d m r base ps zs started few lanes log c (ap (λ (k : FailedCalls). k.writes) unmet) pages are y.0 x.1 y.2 none (ap (λ (k : FailedCalls). k.logs) unmet) known told full_pages stays_used;
          totals = λ pages are. totals_are pages are totals s;
          held = λ pages are. pages_held d m r base ps zs started few lanes log c pages are;
          unfailed = λ pages are. unfailed d m r base ps zs started few lanes log c (ap (λ (k : FailedCalls). k.writes) unmet) pages are;
          positions = tt;
        }
    leaves (Err e) s =
        let x = either 0 r.fork ps s.qs zs lanes log s.alone c in
        record {
          either = λ pages known are told. leaves_either d m r base ps zs started few lanes log c pages are x.1 known told none full_pages x.0 x.2;
          marked = λ pages are block below bad. failed_rose d m r base ps zs started few lanes log c writes pages are block below bad;
          whole = tt;
          totals = tt;
          held = λ pages are. pages_held d m r base ps zs started few lanes log c pages are;
          unfailed = tt;
          positions = positions_left e s;
        }
