-- What a whole rewrite leaves of the pages and of the log.
use Rattle.std.proofs.Common.{◌≡◌, ◌≢◌, ℕ, suc, ◌+◌, ◌*◌, ◌<◌, ◌^◌, Bool, true, false, List, [], ◌∷◌, length, map, if◌then◌else◌, Option, Some, None, refl, sym, ap, ◌∙◌, subst, ⊎_elim, unwrap_or, arith}
use Rattle.std.proofs.lemmas.Bool.{both_ways}
use Rattle.std.proofs.lemmas.List.Sums.{sum_by-cons}
use Rattle.std.specs.Prelude.{IfSome, sum_by}
use mathlib.Core.Logic.{dite}
use mathlib.Core.Option.{some, some-injective}
use native.Mathlib.Decide.{ℕ_discrete}
use lib.ListN.{get_elem?}
use Rattle.segment_store.specs.Contents.{AreFullPages}
use Rattle.segment_store.specs.Lanes.{page_in, tag_at}
use Rattle.pin_core.specs.State.{Page}
use Rattle.page_layout.specs.declared.outcomes.PageRewrite.{PageRewrite}
use Rattle.page_layout.specs.declared.outcomes.PageRewrite.TheVariants.{Invalid, New, Used}
use Rattle.page_layout.specs.Fields.{lsn_of}
use Rattle.page_layout.specs.Outcomes.{is_changed_outcome, page_rewrite_of}
use Rattle.page_layout.specs.Rewritten.{rewrite_of}
use Rattle.page_layout.specs.Soundness.{is_new_page, is_sound_page}
use Rattle.history_core.specs.Device.{HasRisen}
use Rattle.history_core.specs.Log.{IsChange, IsImage, end_of, log_bytes, log_end, record_size}
use Rattle.history_core.specs.State.{failed, last_count}
use Rattle.history_core.proofs.Logs.{chain_above, some_size}
use Rattle.table_rule.specs.Layout.{lane_of_tag}
use Rattle.table_rule.specs.Shows.{Devices, IsLog, IsPlaced}
use Rattle.frame_table.specs.Seats.{lanes_in, opened_of, relations_of}
use Rattle.backend_pass.specs.declared.manager.Manager.{Manager}
use Rattle.backend_pass.specs.Closing.{ClosesAll, met_by_passes}
use Rattle.backend_pass.specs.Passes.{PassState}
use Rattle.chunk_claims.specs.Claims.{sum_below}
use Rattle.chunk_claims.proofs.Weights.{sum_first}
use Rattle.page_jobs.specs.Parts.{blocks_in}
use Rattle.page_jobs.specs.RewriteCloses.{HoldEither, HoldRewritten}
use Rattle.page_jobs.specs.RewriteEnds.{HasEntry, change_weight}
use Rattle.page_jobs.specs.RewriteEnds as ends
use Rattle.page_jobs.proofs.Counted.{some_write_failed}
use Rattle.table_rule.proofs.Opens.{length_low, there_at}
use Rattle.relation_commands.specs.declared.starting.RelationFork.{RelationFork}
use Rattle.relation_commands.specs.RewriteResults.{HasDurableEntry, IsRewrittenFile}
use Rattle.relation_commands.specs.RewriteTexts.{changed_pages}
use Rattle.relation_commands.specs.Rewriting.{ArePages, failed_after, pages_after}
use Rattle.relation_commands.specs.Starting.{IsStarted, log_of, names_of}
use Rattle.relation_commands.proofs.PagesAfter.{StaysUsed, differ}
use Rattle.relation_commands.proofs.RewriteLeaves.{InLanes, each_either, file_at, images, in_lanes, names_are, origin_at, page_at, page_within, pages_full, pages_long, rule_at}

-- a page that the rule changes is sound
changed_sound : (page : Page) → is_changed_outcome (page_rewrite_of page) ≡ true → is_sound_page page ≡ true
unfolding page_rewrite_of
changed_sound page changes = from (is_sound_page page) refl
  where
    from : (sound : Bool) → is_sound_page page ≡ sound → is_sound_page page ≡ true
    from true e = e
    from false e = absurd (
        let no : is_changed_outcome Invalid ≡ true = subst (λ (t : Bool). is_changed_outcome (if t then (if is_new_page page then New else Used (rewrite_of page)) else Invalid) ≡ true) e changes in
        let none : false ≡ true = no in
        cc
        )

-- as many pages are changed as the weights of their blocks say
changed_counted : (pages : List Page) (g : ℕ → ℕ) → ((i : ℕ) (page : Page) → get_elem? pages i ≡ some page → g i ≡ (if is_changed_outcome (page_rewrite_of page) then 1 else 0)) → sum_below (length pages) g ≡ changed_pages pages
unfolding sum_below
changed_counted [] g each = refl
changed_counted (page ∷ pages) g each =
    let later = changed_counted pages (λ i. g (suc i)) (λ i. each (suc i)) in
    let first = sum_first (length pages) g in
    let here = each 0 page refl in
    first ∙ omega (arith, later, here, sum_by-cons (λ (w : PageRewrite). if is_changed_outcome w then 1 else 0) (page_rewrite_of page) (map page_rewrite_of pages))

module _ {L G : Type 0} (d : Devices L G) (m : Manager L G) (r : RelationFork) (base : ℕ) (ps zs : List PassState) (started : IsStarted d.contents r base m ps) (few : r.blocks < 2 ^ 32)
    (lanes : List L) (log : G) (c : ClosesAll d m.table.table.shared.key zs lanes log) where
  -- where no fault of the log was met, it isn't down
  not_down : d.log_faults (log_of m) ≡ 0 → (met_by_passes zs).logs ≡ 0 → (mark : Option ℕ) → IsLog d log mark c.state.device → mark ≡ None
  not_down none met None device = refl
  not_down none met (Some p) device = absurd (
      let law = c.laws.invariant.device.columns 0 (omega arith) in
      let risen : HasRisen c.state.log_faults c.state.device.faults = law.rose (λ no. let e = sym device.down ∙ no in absurd (cc)) in
      let first = c.opened.log_faults in
      dite (ℕ_discrete c.state.device.faults last_count)
      (λ (last : c.state.device.faults ≡ last_count). let more = c.logs_met (omega arith) in omega arith)
      (λ (other : c.state.device.faults ≢ last_count). let more = c.logs_met (risen other) in omega arith)
      )

  module _ (unmet : (met_by_passes zs).writes ≡ 0) (pages : List Page) (are : ArePages d.contents r base (opened_of m.table) pages) where
    -- no block's last write failed
    pub unfailed : (block : ℕ) → block < r.blocks → failed_after d.failed_writes r lanes block ≡ false
    unfailed block below =
        let count = are.have.counted in
        let p = there_at pages block (omega arith) in
        let x = in_lanes d m r base ps zs started few lanes log c pages are block p.0 p.1 in
        x.marked ∙ none x
      where
        of_bool : (b : Bool) → (b ≡ true → ⊥) → b ≡ false
        of_bool true never = absurd (never refl)
        of_bool false never = refl

        none : {page : Page} → (x : InLanes d m r base ps zs started few lanes log c block page) → d.failed_writes x.closed (tag_at r.fork block) ≡ false
        none x =
            let word = (rule_at r).tag block in
            let lies = subst (λ (k : ℕ). IsPlaced (relations_of m.table) k x.is.lane word (tag_at r.fork block)) (sym c.opened.lanes) x.is.placed in
            sym ((c.lane x.is.lane x.closed x.is.is).failed x.after word (tag_at r.fork block) x.is.holds lies)
            ∙ of_bool ((c.state.lane x.is.lane).failed word) (λ bad.
            let at : failed c.state word ≡ true = ap (λ (k : ℕ). (c.state.lane k).failed word) (ap (λ (f : ℕ → ℕ). f word) c.opened.lane_of ∙ ap (lane_of_tag (lanes_in m.table)) x.is.placed.named ∙ x.is.placed.placed) ∙ bad in
            let more = c.failed_met word at in
            omega arith)

    module _ (has : ends.IsRewritten (rule_at r) (blocks_in m 0 r.fork) c.state.known c.state.origin c.state.log)
        (either : HoldEither d m.table.table.shared.key lanes (rule_at r) c.state)
        (hold : HoldRewritten d m.table.table.shared.key lanes (rule_at r) (blocks_in m 0 r.fork) c.state.log)
        (none : d.log_faults (log_of m) ≡ 0) (met : (met_by_passes zs).logs ≡ 0) (known : List ℕ) (told : d.bytes log ≡ Some known) where
      weights : (i : ℕ) (page : Page) → get_elem? pages i ≡ some page → change_weight (rule_at r) c.state.origin i ≡ (if is_changed_outcome (page_rewrite_of page) then 1 else 0)
      weights i page at = ap (λ (p : Page). if (rule_at r).changes p then 1 else 0) (sym (origin_at d m r base ps zs started few lanes log c pages are i page at))

      ended : log_end c.state.log ≡ base + record_size * changed_pages pages
      ended =
          let n : blocks_in m 0 r.fork ≡ length pages = started.catalog.counted ∙ are.have.counted in
          has.end
          ∙ ap (λ (b : ℕ). b + record_size * sum_below (blocks_in m 0 r.fork) (change_weight (rule_at r) c.state.origin)) (c.opened.base ∙ started.based)
          ∙ ap (λ (k : ℕ). base + record_size * sum_below k (change_weight (rule_at r) c.state.origin)) n
          ∙ ap (λ (k : ℕ). base + record_size * k) (changed_counted pages (change_weight (rule_at r) c.state.origin) weights)

      -- the page of a block that the rule changes is that of its entry
      changed_at : (block : ℕ) (old new : Page) → get_elem? pages block ≡ some old → get_elem? (pages_after d.contents r lanes pages) block ≡ some new → (rule_at r).changes old ≡ true
          → HasDurableEntry (rule_at r) c.state.log (file_at d.synced log known) block old new
      changed_at block old new was at changes =
          let low : block < r.blocks = let i = length_low pages block old was in let e = are.have.counted in omega arith in
          let ok = unfailed block low in
          let x = in_lanes d m r base ps zs started few lanes log c pages are block old was in
          let y = hold.changed block (tag_at r.fork block) x.before x.after x.closed old (let e = started.catalog.counted in omega arith) x.is x.was changes in
          let made = (rule_at r).rewritten old (end_of y.0.entry) in
          let has_page : x.after (tag_at r.fork block) ≡ Some made = y.2 (sym x.marked ∙ ok) in
          let law = c.laws.invariant.log in
          let starts = chain_above c.state.log.base c.state.log.entries law.chained y.0.index y.0.entry y.0.entered.there in
          let is_made : IsImage (end_of y.0.entry) made = subst (IsChange (end_of y.0.entry)) y.1 (law.valid y.0.index y.0.entry y.0.entered.there) in
          let ends = is_made.ends in
          let within = page_within pages block old was (changed_sound old changes) in
          let largest = are.within in
          let begins : c.state.log.base ≡ base = c.opened.base ∙ started.based in
          ⊎_elim
          (λ (same : new ≡ old). absurd (
          let is : new ≡ made = now block old new x was at ∙ ap (λ (p : Option Page). unwrap_or p old) has_page in
          let position = ap lsn_of (sym same ∙ is) in
          omega (arith, some_size y.0.entry.change)
          ))
          (λ (logged : HasDurableEntry (rule_at r) c.state.log (file_at d.synced log known) block old new). logged)
          (each_either d m r base ps zs started few lanes log c pages are either known told block old new was at ok)
        where
          now : (block : ℕ) (old new : Page) (x : InLanes d m r base ps zs started few lanes log c block old) → get_elem? pages block ≡ some old → get_elem? (pages_after d.contents r lanes pages) block ≡ some new
              → new ≡ unwrap_or (x.after (tag_at r.fork block)) old
          now block old new x was at =
              let y = page_at r.fork (map d.contents lanes) 0 pages block new at in
              let same : y.0 ≡ old = some-injective y.0 old (sym y.1 ∙ was) in
              let here : 0 + block ≡ block = omega arith in
              y.2 ∙ ap (λ (n : ℕ). unwrap_or (page_in (map d.contents lanes) (tag_at r.fork n)) y.0) here ∙ ap (unwrap_or (page_in (map d.contents lanes) (tag_at r.fork block))) same ∙ ap (λ (p : Option Page). unwrap_or p old) x.now

      -- any other block has no entry, and its page as before
      same_at : (block : ℕ) (old new : Page) → get_elem? pages block ≡ some old → get_elem? (pages_after d.contents r lanes pages) block ≡ some new → (rule_at r).changes old ≡ false
          → (HasEntry c.state.log ((rule_at r).tag block) → ⊥) × (new ≡ old)
      same_at block old new was at changes =
          let low : block < r.blocks = let i = length_low pages block old was in let e = are.have.counted in omega arith in
          let x = in_lanes d m r base ps zs started few lanes log c pages are block old was in
          let no : HasEntry c.state.log ((rule_at r).tag block) → ⊥ = hold.same block (tag_at r.fork block) x.before x.after x.closed old (let e = started.catalog.counted in omega arith) x.is x.was changes in (
            no,
            ⊎_elim
                (λ (same : new ≡ old). same)
                (λ (logged : HasDurableEntry (rule_at r) c.state.log (file_at d.synced log known) block old new). absurd (no logged.made))
                (each_either d m r base ps zs started few lanes log c pages are either known told block old new was at (unfailed block low)),
          )

      pub is_rewritten : ((lane : L) → IfSome (d.contents lane) AreFullPages) → StaysUsed → IsRewrittenFile (rule_at r) (names_of r) base pages (pages_after d.contents r lanes pages) (file_at d.synced log known)
      is_rewritten full stays_used = record {
        law = c.laws.invariant.log;
        log = c.state.log;
        based = c.opened.base ∙ started.based;
        low = (let ends = c.laws.invariant.ends in let limit = c.laws.invariant.limit in omega arith);
        is_bytes = sym (c.device.bytes known told) ∙ c.bytes (not_down none met c.mark c.device) ∙ ap (λ (names : ℕ → List ℕ). log_bytes names c.state.log) (names_are d m r base ps zs started few lanes log c);
        images = images d m r base ps zs started few lanes log c pages are has.rewrites;
        end = ended;
        counted = pages_long r.fork (map d.contents lanes) 0 pages;
        full = pages_full d m r base ps zs started few lanes log c pages are full;
        changed = changed_at;
        same = same_at;
        alike = differ stays_used pages (pages_after d.contents r lanes pages) (pages_long r.fork (map d.contents lanes) 0 pages) (pages_full d m r base ps zs started few lanes log c pages are full)
            (λ block old new was at changes. let logged = changed_at block old new was at changes in (end_of logged.made.entry, logged.rewritten))
            (λ block old new was at kept. (same_at block old new was at kept).1);
      }

  -- where a block's last write failed a lane counts it
  pub failed_rose : sum_by d.write_faults (opened_of m.table) ≡ 0 → (pages : List Page) → ArePages d.contents r base (opened_of m.table) pages
      → (block : ℕ) → block < r.blocks → failed_after d.failed_writes r lanes block ≡ true → 0 < sum_by d.write_faults lanes
  failed_rose writes pages are block below bad = dite (ℕ_discrete (met_by_passes zs).writes 0)
      (λ (unmet : (met_by_passes zs).writes ≡ 0). absurd (both_ways (failed_after d.failed_writes r lanes block) (unfailed unmet pages are block below) bad))
      (λ (met : (met_by_passes zs).writes ≢ 0). some_write_failed d m.table.table.shared.key zs lanes log c started.counted writes (omega (arith, met)))
