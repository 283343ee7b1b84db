-- What the devices hold that a manager gives back after a rewrite.
use Rattle.std.proofs.Common.{◌≡◌, ◌≢◌, ℕ, zero, suc, ◌%◌, ◌<◌, ◌≤◌, ◌⊎◌, Bool, true, false, List, [], ◌∷◌, ◌++◌, Option, Some, None, unwrap_or, refl, sym, ap, ◌∙◌, subst, ⊎_elim, inl, inr, arith}
use Rattle.std.specs.Prelude.{is_some, nat_lt}
use Rattle.std.proofs.lemmas.Bool.{lt-ltb}
use mathlib.Core.Option.{some, some-injective, some-ne-none}
use lib.ListN.{get_elem?}
use Rattle.block_tag.specs.declared.tag.Fork.{Fork}
use Rattle.block_tag.specs.declared.tag.Tag.{Tag}
use Rattle.block_tag.specs.Names.{lane_number, packed_tag, tag_of_parts}
use Rattle.page_layout.specs.declared.outcomes.PageRewrite.{PageRewrite}
use Rattle.page_layout.specs.declared.outcomes.PageRewrite.TheVariants.{Invalid}
use Rattle.page_layout.specs.declared.outcomes.RewriteTotals.{RewriteTotals}
use Rattle.page_layout.specs.Outcomes.{is_changed_outcome, page_rewrite_of, rewrite_totals_of, totals_of_outcomes}
use Rattle.page_layout.specs.Rewritten.{rewritten_page}
use Rattle.page_layout.specs.Fields.{lsn_of, with_lsn}
use Rattle.page_layout.specs.Soundness.{is_sound_page}
use Rattle.page_layout.proofs.Positions.{lsn_of-with_lsn}
use Rattle.segment_store.specs.Contents.{Pages}
use Rattle.pin_core.specs.declared.view.Call.{Call}
use Rattle.pin_core.specs.declared.view.TornRecord.{TornRecord}
use Rattle.pin_core.specs.declared.view.View.{View}
use Rattle.pin_core.specs.State.{Page, is_block}
use Rattle.history_core.specs.Log.{Change, Entry, IsChange, MayMake, image, ranges, resize, tag_in, end_of, place_of, writes_in}
use Rattle.history_core.specs.Rest.{BeginsRecord}
use Rattle.history_core.specs.State.{last_position, stored, failed}
use Rattle.history_core.specs.TornRecords.{IsOfPage}
use Rattle.grid.specs.Shape.{total}
use Rattle.chunk_claims.specs.Claims.{sum_below}
use Rattle.grid.proofs.Sums.{total-both}
use Rattle.history_core.proofs.Calls.{at_both}
use Rattle.table_rule.specs.declared.opening.Opening.{Opening}
use Rattle.table_rule.specs.Layout.{lane_of_tag, tag_lane}
use Rattle.table_rule.specs.Shows.{Devices, IsPlaced}
use Rattle.table_rule.proofs.Tags.{packed_is}
use Rattle.frame_table.specs.Seats.{lanes_in, opened_of, relations_of}
use Rattle.buffer_frames.specs.Fetching.{WasUnsoundAtOpening}
use Rattle.backend_pass.specs.declared.manager.Manager.{Manager}
use Rattle.backend_pass.specs.Closing.{ClosesAll, EachPass, PassTore, calls_in_order, calls_of_passes}
use Rattle.backend_pass.specs.Managers.{first_in, is_first, others_in}
use Rattle.backend_pass.specs.Passes.{PassState}
use Rattle.backend_pass.proofs.Joining.{first_here, first_past, others_here, others_past}
use Rattle.page_jobs.specs.declared.ending.Totals.{Totals}
use Rattle.page_jobs.specs.Chunks.{Claimed, CoversAll, blocks_in_all, items_in_all}
use Rattle.page_jobs.specs.Ending.{totals_of_rewrite}
use Rattle.page_jobs.specs.Jobs.{IsOrigin, workers_in}
use Rattle.page_jobs.specs.Parts.{blocks_in}
use Rattle.page_jobs.specs.Rewrites.{AreOf, Outcome, Rule, TornOf, unsound, kept, refused, changed, outcome_block, outcome_totals, rule_of, result_of}
use Rattle.page_jobs.specs.RewriteCloses.{ClosesEither, ClosesRewritten, HasEntryPage, HoldEither, HoldRewritten, IsInLanes, RewritesAlone, RewritesAndStores}
use Rattle.page_jobs.specs.RewriteEnds.{BeginsRewrite, HasRewrites, IsAfter, IsFair, IsPageEntry, page_at_start, IsResult, WroteNothing, BackendCalls, Rewrites, RewritesAll, all_done, block_weight, times}
use Rattle.page_jobs.specs.RewriteJobs.{RewriteParts}
use Rattle.page_jobs.specs.Rewriting.{FollowsRule}
use Rattle.page_jobs.proofs.Measures.{RewriteAddsUp, block_below, outcomes_all, outcomes_by, outcomes_once, rewrite_page_weight, rewrite_pages_by, rewrite_totals_by, times_below, times_one}
use Rattle.page_jobs.proofs.RewriteClosed.{changed_read, has_rewrites, kept_read, refused_new, refused_read}
use Rattle.page_jobs.proofs.RewriteCounts.{Each}
use Rattle.page_jobs.proofs.RewriteCourse.{Parted, all_parted}
use Rattle.page_jobs.proofs.RewriteLanes.{finishes, lanes_hold_either}
use Rattle.page_jobs.proofs.RewriteOrder.{InOrder, calls_ordered, in_order}
use Rattle.table_rule.proofs.Opens.{length_low, there_at}
use Rattle.page_jobs.proofs.ReadersLeave.{placed_there, some_of}

told_invalid : (page : Page) → is_sound_page page ≡ false → page_rewrite_of page ≡ Invalid
unfolding page_rewrite_of
told_invalid page bad = rw bad refl

-- the weight of a page by its block
page_weight_at : (f : RewriteTotals → ℕ) (pages : List Page) (b : ℕ) (page : Page) → get_elem? pages b ≡ some page → rewrite_page_weight f pages b ≡ f (totals_of_outcomes (page_rewrite_of page ∷ []))
page_weight_at f [] b page at = absurd (some-ne-none page (sym at))
page_weight_at f (p ∷ pages) zero page at = ap (λ (q : Page). f (totals_of_outcomes (page_rewrite_of q ∷ []))) (some-injective p page at)
page_weight_at f (p ∷ pages) (suc b) page at = page_weight_at f pages b page at

-- entries of pages that are one
image_tag : (a b : ℕ) (p q : Page) → image a p ≡ image b q → a ≡ b
image_tag a b p q e = cc

image_page : (a b : ℕ) (p q : Page) → image a p ≡ image b q → p ≡ q
image_page a b p q e = cc

-- the image of a page with a position, in an entry that ends at the position `end`, which is the page's
torn_image : (c : Change) (end tag lsn : ℕ) (p : Page) → IsChange end c → MayMake false c → lsn ≤ last_position → IsOfPage c tag (with_lsn lsn p) → (lsn ≡ end) × (c ≡ image tag (with_lsn end p))
torn_image (image t q) end tag lsn p valid may low (same, is) =
    let ends : lsn ≡ end = sym (lsn_of-with_lsn lsn p (omega arith)) ∙ ap lsn_of (sym is) ∙ valid.ends in
    (ends, ap (λ (n : ℕ). image n q) same ∙ ap (image tag) is ∙ ap (λ (n : ℕ). image tag (with_lsn n p)) ends)
torn_image (ranges t spans) end tag lsn p valid may low of = absurd (cc)
torn_image (resize fork old new) end tag lsn p valid may low of = absurd may

lane_below : (h n : ℕ) → 0 < n → h % n < n
lane_below h n more = omega (arith, more)

-- the blocks of a fork have numbers of their own
numbers_apart : (rel : ℕ) (fork : Fork) (a b : ℕ) → packed_tag (tag_of_parts rel fork a) ≡ packed_tag (tag_of_parts rel fork b) → a ≡ b
numbers_apart rel fork a b e = omega (arith, e)

-- what holds of the calls of each pass holds of all
module _ (P : Call → Type 0) where
  both : (l m : List Call) → Each P l → Each P m → Each P (l ++ m)
  both l m first second k c at = ⊎_elim (λ (t : get_elem? l k ≡ some c). first k c t) (λ (t : (j : ℕ) × (get_elem? m j ≡ some c)). second t.0 c t.1) (at_both l m k c at)

  each_pass : (zs : List PassState) → EachPass (λ z. Each P z.view.calls) zs → Each P (calls_of_passes zs)
  each_pass [] each = λ k c at. absurd (some-ne-none c (sym at))
  each_pass (z ∷ zs) each = both z.view.calls (calls_of_passes zs) (each zero z refl) (each_pass zs (λ i. each (suc i)))

  first_by : (b : Bool) (z : PassState) (zs : List PassState) → is_first z ≡ b → Each P z.view.calls → Each P (first_in zs).calls → Each P (first_in (z ∷ zs)).calls
  first_by true z zs is here rest = subst (λ (v : View). Each P v.calls) (sym (first_here z zs is)) here
  first_by false z zs is here rest = subst (λ (v : View). Each P v.calls) (sym (first_past z zs is)) rest

  in_first : (zs : List PassState) → EachPass (λ z. Each P z.view.calls) zs → Each P (first_in zs).calls
  in_first [] each = λ k c at. absurd (some-ne-none c (sym at))
  in_first (z ∷ zs) each = first_by (is_first z) z zs refl (each zero z refl) (in_first zs (λ i. each (suc i)))

  others_by : (b : Bool) (z : PassState) (zs : List PassState) → is_first z ≡ b → Each P z.view.calls → Each P (calls_of_passes zs) → Each P (calls_of_passes (others_in zs)) → Each P (calls_of_passes (others_in (z ∷ zs)))
  others_by true z zs is here all rest = subst (λ (l : List PassState). Each P (calls_of_passes l)) (sym (others_here z zs is)) all
  others_by false z zs is here all rest = subst (λ (l : List PassState). Each P (calls_of_passes l)) (sym (others_past z zs is)) (both z.view.calls (calls_of_passes (others_in zs)) here rest)

  in_others : (zs : List PassState) → EachPass (λ z. Each P z.view.calls) zs → Each P (calls_of_passes (others_in zs))
  in_others [] each = λ k c at. absurd (some-ne-none c (sym at))
  in_others (z ∷ zs) each = others_by (is_first z) z zs refl (each zero z refl) (each_pass zs (λ i. each (suc i))) (in_others zs (λ i. each (suc i)))

  each_in_order : (zs : List PassState) → EachPass (λ z. Each P z.view.calls) zs → Each P (calls_in_order zs)
  each_in_order zs each = both (first_in zs).calls (calls_of_passes (others_in zs)) (in_first zs each) (in_others zs each)

module _ {L G : Type 0} (d : Devices L G) (o : Opening L G) (zs : List PassState) (lanes : List L) (log : G) (c : ClosesAll d o zs lanes log) where
  -- a lane that was given back has what the state says of a block
  module _ (word : ℕ) (tag : Tag) (before after : Pages) (closed : L) (x : IsInLanes d o lanes word tag before after closed) where
    lane_is : c.state.lane_of word ≡ x.lane
    lane_is = ap (λ (f : ℕ → ℕ). f word) c.opened.lane_of ∙ ap (lane_of_tag o.config.lanes) x.placed.named ∙ x.placed.placed

    placed_is : IsPlaced o.catalog.value c.state.lanes x.lane word tag
    placed_is = subst (λ (k : ℕ). IsPlaced o.catalog.value k x.lane word tag) (sym c.opened.lanes) x.placed

    has_page : after tag ≡ stored c.state word
    has_page = (c.lane x.lane closed x.is).pages after word tag x.holds placed_is ∙ ap (λ (k : ℕ). (c.state.lane k).stored word) (sym lane_is)

    has_failed : failed c.state word ≡ d.failed_writes closed tag
    has_failed = ap (λ (k : ℕ). (c.state.lane k).failed word) lane_is ∙ (c.lane x.lane closed x.is).failed after word tag x.holds placed_is

    is_known : c.state.known word ≡ true
    is_known = c.opened.known x.lane x.opened word x.was (ap (lane_of_tag o.config.lanes) x.placed.named ∙ x.placed.placed) ∙ ap (λ (y : Option Pages). is_some y) x.held

    was_page : (page : Page) → before tag ≡ Some page → c.state.origin word ≡ Some page
    was_page page is = sym (c.opened.origin x.lane x.opened before word tag x.was x.held x.placed) ∙ is

    was_first : (page : Page) → before tag ≡ Some page → page ≡ page_at_start c.state.origin word
    was_first page is = sym (ap (λ (o : Option Page). unwrap_or o []) (was_page page is))

  hold_either : (r : Rule) (n : ℕ) → HasRewrites r n c.state.known c.state.origin c.state.log → HoldEither d o lanes r c.state
  hold_either r n has word tag before after closed page x was unfailed = either (lanes_hold_either c.state r n c.laws has word (placed_there d o c.state c.opened c.laws o.config.lanes x.lane word tag x.placed) (is_known word tag before after closed x) (has_failed word tag before after closed x ∙ unfailed))
    where
      now : after tag ≡ stored c.state word
      now = has_page word tag before after closed x

      made : (k : ℕ) (e : Entry) (new : Page) → get_elem? c.state.log.entries k ≡ some e → IsPageEntry e word new → new ≡ r.rewritten page (end_of e)
      made k e new at entered =
          let y = has.each k e at in
          let same = sym y.entered ∙ entered in
          let of : r.tag y.block ≡ word = image_tag (r.tag y.block) word y.page new same in
          sym (image_page (r.tag y.block) word y.page new same) ∙ y.made (ap c.state.known of ∙ is_known word tag before after closed x)
          ∙ ap (λ (p : Page). r.rewritten p (end_of e)) (ap (page_at_start c.state.origin) of ∙ sym (was_first word tag before after closed x page was))

      either : IsAfter c.state word → (after tag ≡ Some page) ⊎ HasEntryPage r c.state word page (after tag)
      either (inl (k, e, new, at, entered, durable, is)) =
          let same = made k e new at entered in
          inr record { made = record { index = k; entry = e; entered = record { there = at; of = ap tag_in entered } }; entered = entered ∙ ap (image word) same; durable = durable; held = now ∙ is ∙ ap (λ (p : Page). Some p) same }
      either (inr is) = inl (now ∙ is ∙ was_page word tag before after closed x page was)

  hold_rewritten : (r : Rule) (n : ℕ) → IsResult r n c.state → HoldRewritten d o lanes r n c.state.log
  hold_rewritten r n result = record {
    changed = λ b tag before after closed page low x was changes.
        let same = was_first (r.tag b) tag before after closed x page was in
        let y = result.changed b low (ap r.changes (sym same) ∙ changes) in (
          y.0,
          y.1 ∙ ap (λ (p : Page). image (r.tag b) (r.rewritten p (end_of y.0.entry))) (sym same),
          λ unfailed. has_page (r.tag b) tag before after closed x ∙ y.2 (has_failed (r.tag b) tag before after closed x ∙ unfailed) ∙ ap (λ (p : Page). Some (r.rewritten p (end_of y.0.entry))) (sym same),
        );
    same = λ b tag before after closed page low x was changes. (result.same b low (ap r.changes (sym (was_first (r.tag b) tag before after closed x page was)) ∙ changes)).0;
    others = λ word tag before after closed page x was none unfailed. ⊎_elim
        (λ (t : (after tag ≡ Some page)). t)
        (λ (t : HasEntryPage r c.state word page (after tag)). absurd (none t.made))
        (hold_either r n result.rewritten.rewrites word tag before after closed page x was unfailed);
  }

-- the outcomes of passes that claimed each chunk once at most are of different blocks
pub claimed_weigh : {L G : Type 0} (contents : L → Option Pages) (m : Manager L G) (rel : ℕ) (fork : Fork) (ps qs : List PassState) (x : RewriteParts contents m rel fork ps qs) (g : ℕ → ℕ)
    → total (λ (u : Outcome). g (outcome_block u)) (items_in_all x.claimed) ≤ sum_below (blocks_in m rel fork) g
claimed_weigh contents m rel fork ps qs x g = outcomes_once (blocks_in m rel fork) x.claimed x.once (λ w c of.
    let below = length_low x.claimed w c of in
    let listed = x.listed in
    let counted = x.counted in
    let p = there_at ps w (omega (arith, below, listed)) in
    let q = there_at qs w (omega (arith, below, listed, counted)) in
    (x.each w p.0 q.0 c p.1 q.1 of).blocks.order) g

module _ {L G : Type 0} (d : Devices L G) (m : Manager L G) (rel : ℕ) (fork : Fork) (ps qs zs : List PassState) (lanes : List L) (log : G) (c : ClosesAll d m.table.table.shared.key zs lanes log) (x : RewritesAlone d.contents m rel fork ps qs zs) where
  abbrev rule : Rule
  rule = rule_of rel fork

  -- the lane of a block, as the manager was opened
  opened_at : (word : ℕ) → (tag : Tag) → (l : L) × (get_elem? (opened_of m.table) (lane_number tag (lanes_in m.table)) ≡ some l)
  opened_at word tag = let wide = x.lanes in let low : lane_number tag (lanes_in m.table) < lanes_in m.table = lane_below _ (lanes_in m.table) x.some_lanes in there_at (opened_of m.table) (lane_number tag (lanes_in m.table)) (omega arith)

  lane_of : (b : ℕ) → b < blocks_in m rel fork → tag_lane (lanes_in m.table) (rule.tag b) ≡ lane_number (tag_of_parts rel fork b) (lanes_in m.table)
  lane_of b low = ap (lane_of_tag (lanes_in m.table)) (packed_is (tag_of_parts rel fork b) (x.parts.named b low))

  -- a block that wasn't sound at the opening has no page that the rule changes
  unsound_told : (b : ℕ) → b < blocks_in m rel fork → WasUnsoundAtOpening d.contents m.table (tag_of_parts rel fork b) → c.state.known (rule.tag b) ≡ true → page_rewrite_of (page_at_start c.state.origin (rule.tag b)) ≡ Invalid
  unsound_told b low u known =
      let tag = tag_of_parts rel fork b in
      let word = rule.tag b in
      let q = lane_number tag (lanes_in m.table) in
      let l = opened_at word tag in
      let pages = some_of (d.contents l.0) (sym (c.opened.known q l.0 word l.1 (lane_of b low)) ∙ known) in
      let named = x.parts.named b low in
      let listed : nat_lt b (blocks_in m rel fork) ≡ true = lt-ltb b (blocks_in m rel fork) low in
      let is : pages.0 tag ≡ Some u.page = u.was q l.0 pages.0 record { named = named; listed = listed; placed = refl } l.1 pages.1 in
      let placed : IsPlaced (relations_of m.table) (lanes_in m.table) q word tag = record { named = packed_is tag named; listed = listed; placed = refl } in
      let same : u.page ≡ page_at_start c.state.origin word = ap (λ (o : Option Page). unwrap_or o []) (sym is ∙ c.opened.origin q l.0 pages.0 word tag l.1 pages.1 placed) in
      told_invalid (page_at_start c.state.origin word) (subst (λ (p : Page). is_sound_page p ≡ false) same u.unsound)

  fair : (number : ℕ) (o : Outcome) → outcome_block o < blocks_in m rel fork → FollowsRule d.contents m rel fork number o → IsFair rule c.state.known c.state.origin o
  fair number (unsound b) low f = λ known. ap is_changed_outcome (unsound_told b low f known)
  fair number (kept b i p n) low f = f.2
  fair number (refused b i p n) low f = f.2
  fair number (changed b i p n k) low f = (f.2, f.3)

  -- However blocks are weighed, the outcomes weigh no more than all blocks
  module _ (W : Type 0) (cs : List (Claimed Outcome)) (t : Parted d.contents m rel fork W zs cs) (once : (g : ℕ → ℕ) → total (λ (u : Outcome). g (outcome_block u)) (items_in_all cs) ≤ sum_below (blocks_in m rel fork) g) where
    ordered : InOrder rule zs t.parts
    ordered = in_order rule zs t.parts t.have t.reads

    abbrev in_turn : List BackendCalls
    in_turn = ordered.first ∷ ordered.others

    times_in_turn : (b : ℕ) → times b (all_done in_turn) ≡ times b (items_in_all cs)
    times_in_turn b = let a = total-both (block_weight b) ordered.first.done (all_done ordered.others) in a ∙ ordered.same b ∙ ap (times b) t.dones

    done_below : (k : ℕ) (u : Outcome) → get_elem? (all_done t.parts) k ≡ some u → outcome_block u < blocks_in m rel fork
    done_below k u at = block_below (blocks_in m rel fork) (items_in_all cs) once k u (ap (λ (os : List Outcome). get_elem? os k) (sym t.dones) ∙ at)

    below_in_turn : (k : ℕ) (u : Outcome) → get_elem? (all_done in_turn) k ≡ some u → outcome_block u < blocks_in m rel fork
    below_in_turn k u at = let y = ordered.among k u at in done_below y.0 u y.1

    rewrites : Rewrites rule (blocks_in m rel fork) c.state.known c.state.origin (calls_in_order zs) in_turn
    rewrites = record {
      calls_are = calls_ordered rule zs t.parts ordered;
      reads = only_reads;
      fair = λ k u at. let y = ordered.among k u at in let f = t.follow y.0 u y.1 in fair f.0 u (below_in_turn k u at) f.1;
      below = below_in_turn;
      once = λ b. let e = times_in_turn b in let l = times_below (blocks_in m rel fork) b (items_in_all cs) once in omega (arith, e, l);
      apart = λ a b low high same. numbers_apart rel fork a b same;
    }
      where
        only_reads : WroteNothing in_turn
        only_reads zero p at = subst (λ (q : BackendCalls). (writes_in q.before ≡ 0) × (writes_in q.after ≡ 0)) (some-injective ordered.first p at) ordered.first_reads
        only_reads (suc k) p at = ordered.other_reads k p at

    rewrites_all : W → ((g : ℕ → ℕ) → total (λ (u : Outcome). g (outcome_block u)) (items_in_all cs) ≡ sum_below (blocks_in m rel fork) g) → RewritesAll rule (blocks_in m rel fork) c.state.known c.state.origin (calls_in_order zs) in_turn
    rewrites_all w all = record {
      rewrites = rewrites;
      all = λ b low. times_in_turn b ∙ times_one (blocks_in m rel fork) b (items_in_all cs) all low;
      ended = λ k u at. let y = ordered.among k u at in t.ended w y.0 u y.1;
    }

    -- what a failure left begins the record of a rewrite of a block that has no entry
    begins_rewrite : (rests : c.laws.rest.behind.rest ≢ []) → c.mark ≢ None → BeginsRewrite rule (blocks_in m rel fork) c.state c.laws.rest.behind.rest
    begins_rewrite rests down = of_pass (c.torn rests down)
      where
        b : BeginsRecord c.state.ranges c.state.names c.state.end c.laws.rest.behind.rest
        b = c.laws.rest.behind.begins rests

        of_record : (x : TornRecord) → IsOfPage b.entry.change x.tag x.page → TornOf rule (all_done t.parts) x → BeginsRewrite rule (blocks_in m rel fork) c.state c.laws.rest.behind.rest
        of_record x of (k, block, backend, place, lsn, page, at, low, is) =
            let y = ordered.onto k (refused block backend page place) at in
            let below = below_in_turn y.0 (refused block backend page place) y.1 in
            let read = refused_read c.history rewrites y.0 block backend page place y.1 in
            let entered = torn_image b.entry.change (end_of b.entry) (rule.tag block) lsn (rewritten_page page) b.valid (subst (λ (may : Bool). MayMake may b.entry.change) c.opened.ranges b.allowed) low (subst (λ (z : TornRecord). IsOfPage b.entry.change z.tag z.page) is of) in
            record {
              entry = b.entry;
              starts = b.starts;
              room = subst (λ (n : ℕ). n ≤ last_position) entered.0 low;
              rewrite = record {
                block = block;
                below = below;
                page = rule.rewritten page (end_of b.entry);
                entered = entered.1;
                made = λ known. ap (λ (q : Page). rule.rewritten q (end_of b.entry)) (read known);
                changes = λ known. ap rule.changes (sym (read known)) ∙ rewrites.fair y.0 (refused block backend page place) y.1;
              };
              new = refused_new c.history rewrites y.0 block backend page place y.1;
              more = b.more;
              begins = b.begins;
            }

        of_pass : PassTore zs b.entry.change → BeginsRewrite rule (blocks_in m rel fork) c.state c.laws.rest.behind.rest
        of_pass (i, k, z, x, at, torn, of) = of_record x of (t.torn i k z x at torn)

  any_parted : Parted d.contents m rel fork ⊥ zs x.parts.claimed
  any_parted = all_parted d.contents m rel fork ⊥ ps qs zs x.parts.claimed x x.parts.listed (λ w p q e at after of. ((x.parts.each w p q e at after of).blocks, λ no. absurd no))

  any_once : (g : ℕ → ℕ) → total (λ (u : Outcome). g (outcome_block u)) (items_in_all x.parts.claimed) ≤ sum_below (blocks_in m rel fork) g
  any_once = claimed_weigh d.contents m rel fork (workers_in ps) (workers_in qs) x.parts

  any_left : c.laws.rest.behind.rest ≢ [] → c.mark ≢ None → BeginsRewrite rule (blocks_in m rel fork) c.state c.laws.rest.behind.rest
  any_left = begins_rewrite ⊥ x.parts.claimed any_parted any_once

  any_end : HasRewrites rule (blocks_in m rel fork) c.state.known c.state.origin c.state.log
  any_end = has_rewrites c.history (rewrites ⊥ x.parts.claimed any_parted any_once)

pub closes_either : {L G : Type 0} (d : Devices L G) (m : Manager L G) → ClosesEither d m
closes_either d m rel fork ps qs zs lanes log x c = let has = any_end d m rel fork ps qs zs lanes log c x in
    (has, hold_either d m.table.table.shared.key zs lanes log c (rule_of rel fork) (blocks_in m rel fork) has, any_left d m rel fork ps qs zs lanes log c x)

module _ {L G : Type 0} (d : Devices L G) (m : Manager L G) (rel : ℕ) (fork : Fork) (ps qs zs : List PassState) (totals : Totals) (upto : ℕ) (lanes : List L) (log : G) (c : ClosesAll d m.table.table.shared.key zs lanes log) (y : RewritesAndStores d.contents m rel fork ps qs zs totals upto) where
  abbrev claimed : List (Claimed Outcome)
  claimed = y.all.claimed

  whole_parts_of : Parted d.contents m rel fork (Unit {0}) zs claimed
  whole_parts_of = all_parted d.contents m rel fork (Unit {0}) ps qs zs claimed y.alone y.all.listed (λ w p q e at after of. let z = y.all.each w p q e at after of in (z.course, λ yes. z.ended))

  each_of : (w : ℕ) (e : Claimed Outcome) → get_elem? claimed w ≡ some e → AreOf (blocks_in_all (blocks_in m rel fork) e.chunks) e.items × CoversAll (blocks_in m rel fork) e
  each_of w e of =
      let below = length_low claimed w e of in
      let listed = y.all.listed in
      let counted = y.alone.parts.counted in
      let p = there_at (workers_in ps) w (omega (arith, below, listed)) in
      let q = there_at (workers_in qs) w (omega (arith, below, listed, counted)) in
      let z = y.all.each w p.0 q.0 e p.1 q.1 of in
      (z.course.order, z.whole)

  -- however blocks are weighed, the outcomes weigh what all blocks do
  weigh_all : (g : ℕ → ℕ) → total (λ (u : Outcome). g (outcome_block u)) (items_in_all claimed) ≡ sum_below (blocks_in m rel fork) g
  weigh_all g = outcomes_all (blocks_in m rel fork) claimed y.all.all each_of g

  weigh_once : (g : ℕ → ℕ) → total (λ (u : Outcome). g (outcome_block u)) (items_in_all claimed) ≤ sum_below (blocks_in m rel fork) g
  weigh_once g = let e = weigh_all g in omega (arith, e)

  all_known : (b : ℕ) → b < blocks_in m rel fork → c.state.known ((rule_of rel fork).tag b) ≡ true
  all_known b low =
      let tag = tag_of_parts rel fork b in
      let q = lane_number tag (lanes_in m.table) in
      let l = opened_at d m rel fork ps qs zs lanes log c y.alone ((rule_of rel fork).tag b) tag in
      c.opened.known q l.0 ((rule_of rel fork).tag b) l.1 (lane_of d m rel fork ps qs zs lanes log c y.alone b low) ∙ y.known q l.0 l.1

  all_there : (b : ℕ) → b < blocks_in m rel fork → is_block c.state.pool.core ((rule_of rel fork).tag b) ≡ true
  all_there b low = let tag = tag_of_parts rel fork b in placed_there d m.table.table.shared.key c.state c.opened c.laws (lanes_in m.table) (lane_number tag (lanes_in m.table)) ((rule_of rel fork).tag b) tag
      record { named = packed_is tag (y.alone.parts.named b low); listed = lt-ltb b (blocks_in m rel fork) low; placed = refl }

  all_reached : (k : ℕ) (e : Call) → get_elem? (calls_in_order zs) k ≡ some e → place_of e ≤ upto
  all_reached = each_in_order (λ (e : Call). place_of e ≤ upto) zs (λ i z at k e there. let f = (c.each i z at).front in let a = f.above k e there in let b = y.fronts i z at in omega arith)

  all_rewrites : RewritesAll (rule_of rel fork) (blocks_in m rel fork) c.state.known c.state.origin (calls_in_order zs) (in_turn d m rel fork ps qs zs lanes log c y.alone (Unit {0}) claimed whole_parts_of weigh_once)
  all_rewrites = rewrites_all d m rel fork ps qs zs lanes log c y.alone (Unit {0}) claimed whole_parts_of weigh_once tt weigh_all

  all_result : IsResult (rule_of rel fork) (blocks_in m rel fork) c.state
  all_result = finishes (rule_of rel fork) (blocks_in m rel fork) c.state (calls_in_order zs) (in_turn d m rel fork ps qs zs lanes log c y.alone (Unit {0}) claimed whole_parts_of weigh_once) upto record {
    laws = c.laws;
    history = c.history;
    rewrites = all_rewrites;
    known = all_known;
    there = all_there;
    stored_all = ((c.each y.index y.checkpointer y.there).swept upto (λ q below. y.swept q (let e = c.opened.lanes in omega arith))).1;
    reached = all_reached;
  }

  -- what is told of a block is what is told of its page at the opening
  told_at : (j : ℕ) (o : Outcome) → get_elem? (all_done whole_parts_of.parts) j ≡ some o → result_of o ≡ page_rewrite_of (page_at_start c.state.origin ((rule_of rel fork).tag (outcome_block o)))
  told_at j o at = by_case o at
    where
      order : InOrder (rule_of rel fork) zs whole_parts_of.parts
      order = ordered d m rel fork ps qs zs lanes log c y.alone (Unit {0}) claimed whole_parts_of weigh_once

      by_case : (u : Outcome) → get_elem? (all_done whole_parts_of.parts) j ≡ some u → result_of u ≡ page_rewrite_of (page_at_start c.state.origin ((rule_of rel fork).tag (outcome_block u)))
      by_case (unsound b) e = let low = done_below d m rel fork ps qs zs lanes log c y.alone (Unit {0}) claimed whole_parts_of weigh_once j (unsound b) e in sym (unsound_told d m rel fork ps qs zs lanes log c y.alone b low (whole_parts_of.follow j (unsound b) e).1 (all_known b low))
      by_case (kept b i p n) e = let k = order.onto j (kept b i p n) e in ap page_rewrite_of (kept_read c.history all_rewrites all_known k.0 b i p n k.1)
      by_case (refused b i p n) e = absurd (let bad : false ≡ true = whole_parts_of.ended tt j (refused b i p n) e in cc)
      by_case (changed b i p n l) e = let k = order.onto j (changed b i p n l) e in ap page_rewrite_of (changed_read c.history all_rewrites all_known k.0 b i p n l k.1)

  -- the page of a block at the opening
  origin_is : (pages : List Page) → IsOrigin d.contents m rel fork pages → (b : ℕ) (page : Page) → get_elem? pages b ≡ some page → page ≡ page_at_start c.state.origin ((rule_of rel fork).tag b)
  origin_is pages origin b page at =
      let w = origin.each b page at in
      let tag = tag_of_parts rel fork b in
      let low : b < blocks_in m rel fork = let i = length_low pages b page at in let e = origin.counted in omega arith in
      let placed : IsPlaced (relations_of m.table) (lanes_in m.table) (lane_number tag (lanes_in m.table)) ((rule_of rel fork).tag b) tag = record { named = packed_is tag (y.alone.parts.named b low); listed = lt-ltb b (blocks_in m rel fork) low; placed = refl } in
      ap (λ (o : Option Page). unwrap_or o []) (sym w.is ∙ c.opened.origin (lane_number tag (lanes_in m.table)) w.lane w.pages ((rule_of rel fork).tag b) tag w.opened w.known placed)

  -- so each outcome weighs what its block's page does
  told_weight : (pages : List Page) → IsOrigin d.contents m rel fork pages → (f : RewriteTotals → ℕ) (k : ℕ) (o : Outcome) → get_elem? (items_in_all claimed) k ≡ some o → f (outcome_totals (o ∷ [])) ≡ rewrite_page_weight f pages (outcome_block o)
  told_weight pages origin f k o at =
      let done : get_elem? (all_done whole_parts_of.parts) k ≡ some o = ap (λ (os : List Outcome). get_elem? os k) whole_parts_of.dones ∙ at in
      let low = done_below d m rel fork ps qs zs lanes log c y.alone (Unit {0}) claimed whole_parts_of weigh_once k o done in
      let counted = origin.counted in
      let page = there_at pages (outcome_block o) (omega (arith, low, counted)) in
      ap (λ (r : PageRewrite). f (totals_of_outcomes (r ∷ []))) (told_at k o done ∙ ap page_rewrite_of (sym (origin_is pages origin (outcome_block o) page.0 page.1)))
      ∙ sym (page_weight_at f pages (outcome_block o) page.0 page.1)

  totals_of_origin : (pages : List Page) → IsOrigin d.contents m rel fork pages → totals ≡ totals_of_rewrite (rewrite_totals_of pages)
  totals_of_origin pages origin = y.all.totals_is ∙ ap totals_of_rewrite (rewrite_totals_by (outcome_totals (items_in_all claimed)) (rewrite_totals_of pages) by)
    where
      by : (f : RewriteTotals → ℕ) → RewriteAddsUp f → f (outcome_totals (items_in_all claimed)) ≡ f (rewrite_totals_of pages)
      by f adds =
          outcomes_by f adds (rewrite_page_weight f pages) (items_in_all claimed) (told_weight pages origin f)
          ∙ weigh_all (rewrite_page_weight f pages)
          ∙ ap (λ (k : ℕ). sum_below k (rewrite_page_weight f pages)) (sym origin.counted)
          ∙ sym (rewrite_pages_by f adds pages)

pub closes_rewritten : {L G : Type 0} (d : Devices L G) (m : Manager L G) → ClosesRewritten d m
closes_rewritten d m rel fork ps qs zs totals upto lanes log y c =
    let result = all_result d m rel fork ps qs zs totals upto lanes log c y in
    (result.rewritten, totals_of_origin d m rel fork ps qs zs totals upto lanes log c y, hold_rewritten d m.table.table.shared.key zs lanes log c (rule_of rel fork) (blocks_in m rel fork) result)
