-- What a rewrite leaves of the pages and of the log, by what the devices hold as the manager is closed.
use Rattle.std.proofs.Common.{◌≡◌, ◌≢◌, ℕ, zero, suc, ◌+◌, ◌-◌, ◌<◌, ◌≤◌, ◌^◌, ◌&&◌, ◌⊎◌, Bool, true, false, List, [], ◌∷◌, append-nil, length, map, get_or, nat_lt, if◌then◌else◌, Option, Some, None, refl, sym, ap, ◌∙◌, subst, inl, inr, ⊎_elim, unwrap_or, arith}
use Rattle.std.specs.Prelude.{IfSome, IsSomeAnd, is_some}
use Rattle.std.specs.Option.{option_and_then}
use Rattle.std.proofs.lemmas.List.{length-map}
use Rattle.std.proofs.lemmas.Bool.{lt-ltb}
use mathlib.Core.Option.{some, some-injective, some-ne-none}
use lib.ListN.{get_elem?}
use Rattle.block_tag.specs.declared.tag.Fork.{Fork}
use Rattle.block_tag.specs.declared.tag.Tag.{Tag}
use Rattle.block_tag.specs.Names.{lane_number, names_block}
use Rattle.byte_devices.specs.MemoryLog.{StoredLog}
use Rattle.page_layout.specs.Fields.{lsn_of}
use Rattle.page_layout.specs.Soundness.{is_sound_page}
use Rattle.segment_store.specs.Contents.{AreFullPages, Marks, Pages, no_marks}
use Rattle.segment_store.specs.Lanes.{HoldPages, lane_at, page_in, tag_at}
use Rattle.segment_store.specs.Restored.{pages_in}
use Rattle.pin_core.specs.State.{Page}
use Rattle.history_core.specs.Device.{HasRisen}
use Rattle.history_core.specs.Log.{Entry, image, end_of, head_size, log_bytes}
use Rattle.table_rule.specs.Blocks.{log_name}
use Rattle.table_rule.specs.Layout.{lane_of_tag, tag_lane}
use Rattle.table_rule.specs.Shows.{Devices, IsLog, IsPlaced}
use Rattle.table_rule.proofs.Tags.{packed_is}
use Rattle.frame_table.specs.Seats.{lanes_in, opened_of, relations_of}
use Rattle.backend_pass.specs.declared.manager.Manager.{Manager}
use Rattle.backend_pass.specs.Closing.{ClosesAll}
use Rattle.backend_pass.specs.Passes.{PassState}
use Rattle.page_jobs.specs.Parts.{blocks_in}
use Rattle.page_jobs.specs.RewriteCloses.{HasEntryPage, HoldEither, IsInLanes}
use Rattle.page_jobs.specs.RewriteEnds.{BeginsRewrite, HasRewrites, IsRewrite, page_at_start}
use Rattle.page_jobs.specs.Rewrites.{Rule, rule_of}
use Rattle.table_rule.proofs.Opens.{length_low, there_at}
use Rattle.backend_pass.proofs.Standing.{found, mapped_or, standing_or}
use Rattle.page_jobs.proofs.ReadersLeave.{some_of}
use Rattle.relation_commands.specs.declared.starting.RelationFork.{RelationFork}
use Rattle.relation_commands.specs.Limits.{largest_lsn, sound_lsn}
use Rattle.relation_commands.specs.RewriteResults.{AreFull, BeginsNext, BeginsWith, HasDurableEntry, HasImages, IsImageOf, LeavesEither}
use Rattle.relation_commands.specs.Rewriting.{ArePages, failed_after, pages_after}
use Rattle.relation_commands.specs.Starting.{IsStarted, log_of, names_of}
use Rattle.relation_commands.proofs.Counting.{risen_rose}

-- what is there
some_else : (o : Option Page) (p : Page) → is_some o ≡ true → o ≡ Some (unwrap_or o p)
some_else None p there = absurd (let no : false ≡ true = there in cc)
some_else (Some q) p there = refl

-- as many pages come back as there were
pub pages_long : (fork : Fork) (lanes : List (Option Pages)) (from : ℕ) (pages : List Page) → length (pages_in fork lanes from pages) ≡ length pages
pages_long fork lanes from [] = refl
pages_long fork lanes from (page ∷ pages) = ap suc (pages_long fork lanes (from + 1) pages)

-- a block's page is what its lane has, or what it was
pub page_at : (fork : Fork) (lanes : List (Option Pages)) (from : ℕ) (pages : List Page) (i : ℕ) (new : Page) → get_elem? (pages_in fork lanes from pages) i ≡ some new
    → (old : Page) × (get_elem? pages i ≡ some old) × (new ≡ unwrap_or (page_in lanes (tag_at fork (from + i))) old)
page_at fork lanes from [] i new at = absurd (some-ne-none new (sym at))
page_at fork lanes from (page ∷ pages) zero new at =
    let here : from ≡ from + 0 = omega arith in
    (page, refl, sym (some-injective _ new at) ∙ ap (λ (n : ℕ). unwrap_or (page_in lanes (tag_at fork n)) page) here)
page_at fork lanes from (page ∷ pages) (suc i) new at =
    let x = page_at fork lanes (from + 1) pages i new at in
    let next : from + 1 + i ≡ from + suc i = omega arith in
    (x.0, x.1, x.2 ∙ ap (λ (n : ℕ). unwrap_or (page_in lanes (tag_at fork n)) x.0) next)

-- a sound page has its position at the largest one or before it
pub page_within : (pages : List Page) (i : ℕ) (page : Page) → get_elem? pages i ≡ some page → is_sound_page page ≡ true → lsn_of page ≤ largest_lsn pages
page_within [] i page at sound = absurd (some-ne-none page (sym at))
page_within (p ∷ pages) zero page at sound =
    let same = some-injective p page at in
    let here : sound_lsn p ≡ lsn_of page = ap sound_lsn same ∙ ap (λ (t : Bool). if t then lsn_of page else 0) sound in
    omega arith
page_within (p ∷ pages) (suc i) page at sound = let later = page_within pages i page at sound in omega arith

-- the rule, and the file of a log whose bytes these are
abbrev pub rule_at : RelationFork → Rule
rule_at r = rule_of 0 r.fork

abbrev pub file_at : {G : Type 0} → (G → ℕ) → G → List ℕ → StoredLog
file_at synced log known = record { bytes = known; synced = synced log }

pub each_full : (pages : List Page) → ((i : ℕ) (page : Page) → get_elem? pages i ≡ some page → length page ≡ 8192) → AreFull pages
each_full pages each i page low = let x = there_at pages i low in ap length (standing_or pages i x.0 page x.1) ∙ each i x.0 x.1

-- a page that a lane has
has_page : (x : Option Pages) (tag : Tag) (page : Page) → option_and_then (λ (pages : Pages). pages tag) x ≡ Some page → IsSomeAnd x (λ pages. pages tag ≡ Some page)
has_page None tag page is = absurd (cc)
has_page (Some pages) tag page is = is

pub block_named : (block : ℕ) → block < 2 ^ 32 - 1 → nat_lt 0 1024 && nat_lt block (2 ^ 32 - 1) ≡ true
block_named block low = grind arith

module _ {L G : Type 0} (d : Devices L G) (m : Manager L G) (r : RelationFork) (base : ℕ) (ps zs : List PassState) (started : IsStarted d.contents r base m ps) (few : r.blocks < 2 ^ 32)
    (lanes : List L) (log : G) (c : ClosesAll d m.table.table.shared.key zs lanes log) where
  -- A block of the relation in its lane, before and after: the page that it had, what the lane has now, and whether the block's last write failed
  pub record InLanes (block : ℕ) (page : Page) : Type 0 where
    pub before : Pages
    pub after : Pages
    pub closed : L
    pub is : IsInLanes d m.table.table.shared.key lanes ((rule_at r).tag block) (tag_at r.fork block) before after closed
    pub was : before (tag_at r.fork block) ≡ Some page
    pub now : page_in (map d.contents lanes) (tag_at r.fork block) ≡ after (tag_at r.fork block)
    pub marked : failed_after d.failed_writes r lanes block ≡ d.failed_writes closed (tag_at r.fork block)

  pub blocks_are : blocks_in m 0 r.fork ≡ r.blocks
  blocks_are = started.catalog.counted

  named : (block : ℕ) → block < r.blocks → names_block (tag_at r.fork block) ≡ true
  named block low = block_named block (omega arith)

  placed : (block : ℕ) → block < r.blocks → IsPlaced (relations_of m.table) (lanes_in m.table) (lane_number (tag_at r.fork block) (lanes_in m.table)) ((rule_at r).tag block) (tag_at r.fork block)
  placed block low = record {
    named = packed_is (tag_at r.fork block) (named block low);
    listed = ap (nat_lt block) started.catalog.counted ∙ lt-ltb block r.blocks low;
    placed = refl;
  }

  pub names_are : c.state.names ≡ names_of r
  names_are = c.opened.names ∙ ap log_name started.entries

  module _ (pages : List Page) (are : ArePages d.contents r base (opened_of m.table) pages) where
    low : (block : ℕ) (page : Page) → get_elem? pages block ≡ some page → block < r.blocks
    low block page at = let i = length_low pages block page at in let e = are.have.counted in omega arith

    -- the lane that has a block's page, as the manager was started
    pub was_there : (block : ℕ) (page : Page) → get_elem? pages block ≡ some page
        → (l : L) × (get_elem? (opened_of m.table) (lane_number (tag_at r.fork block) (lanes_in m.table)) ≡ some l) × ((before : Pages) × (d.contents l ≡ Some before) × (before (tag_at r.fork block) ≡ Some page))
    was_there block page at =
        let tag = tag_at r.fork block in
        let wide : length (map d.contents (opened_of m.table)) ≡ lanes_in m.table = length-map (opened_of m.table) d.contents ∙ started.counted in
        found d.contents (λ before. before tag ≡ Some page) (opened_of m.table) (lane_number tag (lanes_in m.table))
        (subst (λ (p : Page). IsSomeAnd (get_or (map d.contents (opened_of m.table)) (lane_number tag (lanes_in m.table)) None) (λ before. before tag ≡ Some p)) (standing_or pages block page [] at)
        (subst (λ (k : ℕ). IsSomeAnd (get_or (map d.contents (opened_of m.table)) (lane_number tag k) None) (λ before. before tag ≡ Some (get_or pages block []))) wide (are.have.held block (length_low pages block page at))))

    lane_is : (block : ℕ) → block < r.blocks → tag_lane (lanes_in m.table) ((rule_at r).tag block) ≡ lane_number (tag_at r.fork block) (lanes_in m.table)
    lane_is block below = ap (lane_of_tag (lanes_in m.table)) (placed block below).named

    -- a block's lane is known
    pub known_at : (block : ℕ) (page : Page) → get_elem? pages block ≡ some page → c.state.known ((rule_at r).tag block) ≡ true
    known_at block page at = let x = was_there block page at in
        c.opened.known (lane_number (tag_at r.fork block) (lanes_in m.table)) x.0 ((rule_at r).tag block) x.1 (lane_is block (low block page at)) ∙ ap (λ (p : Option Pages). is_some p) x.2.1

    -- the page of a block at the start
    pub origin_at : (block : ℕ) (page : Page) → get_elem? pages block ≡ some page → page ≡ page_at_start c.state.origin ((rule_at r).tag block)
    origin_at block page at = let x = was_there block page at in
        ap (λ (o : Option Page). unwrap_or o [])
        (sym x.2.2 ∙ c.opened.origin (lane_number (tag_at r.fork block) (lanes_in m.table)) x.0 x.2.0 ((rule_at r).tag block) (tag_at r.fork block) x.1 x.2.1 (placed block (low block page at)))

    -- each page had 8192 bytes
    was_full : ((lane : L) → IfSome (d.contents lane) AreFullPages) → (block : ℕ) (page : Page) → get_elem? pages block ≡ some page → length page ≡ 8192
    was_full whole block page at =
        let x = was_there block page at in
        let all : AreFullPages x.2.0 = subst (λ (p : Option Pages). IfSome p AreFullPages) x.2.1 (whole x.0) in
        subst (λ (p : Option Page). IfSome p (λ page. length page ≡ 8192)) x.2.2 (all (tag_at r.fork block))

    pub in_lanes : (block : ℕ) (page : Page) → get_elem? pages block ≡ some page → InLanes block page
    in_lanes block page at =
        let tag = tag_at r.fork block in
        let q = lane_number tag (lanes_in m.table) in
        let x = was_there block page at in
        let i = length_low (opened_of m.table) q x.0 x.1 in
        let many = c.counted in
        let wide = started.counted in
        let l = there_at lanes q (omega arith) in
        let of_word : c.state.lane_of ((rule_at r).tag block) ≡ q = ap (λ (f : ℕ → ℕ). f ((rule_at r).tag block)) c.opened.lane_of ∙ lane_is block (low block page at) in
        let after = some_of (d.contents l.0) (sym (c.lane q l.0 l.1).known ∙ ap (λ (p : ℕ). (c.state.lane p).known) (sym of_word) ∙ c.laws.invariant.known ((rule_at r).tag block) ∙ known_at block page at) in
        record {
          before = x.2.0;
          after = after.0;
          closed = l.0;
          is = record { lane = q; opened = x.0; was = x.1; is = l.1; held = x.2.1; holds = after.1; placed = placed block (low block page at) };
          was = x.2.2;
          now = ap (λ (k : ℕ). option_and_then (λ (p : Pages). p tag) (get_or (map d.contents lanes) (lane_number tag k) None)) (length-map lanes d.contents ∙ c.counted)
              ∙ ap (λ (p : Option Pages). option_and_then (λ (p : Pages). p tag) p) (mapped_or d.contents lanes q l.0 None l.1 ∙ after.1);
          marked = ap (λ (k : ℕ). get_or (map d.failed_writes lanes) (lane_number tag k) no_marks tag) (length-map lanes d.failed_writes ∙ c.counted)
              ∙ ap (λ (k : Marks). k tag) (mapped_or d.failed_writes lanes q l.0 no_marks l.1);
        }

    -- The page of a block now, and the one before
    pub record Both (block : ℕ) (new : Page) : Type 0 where
      pub old : Page
      pub at : get_elem? pages block ≡ some old
      pub of : InLanes block old
      pub new_is : new ≡ unwrap_or (of.after (tag_at r.fork block)) old

    pub both_at : (block : ℕ) (new : Page) → get_elem? (pages_after d.contents r lanes pages) block ≡ some new → Both block new
    both_at block new at =
        let x = page_at r.fork (map d.contents lanes) 0 pages block new at in
        let here : 0 + block ≡ block = omega arith in
        let of = in_lanes block x.0 x.1 in
        record { old = x.0; at = x.1; of = of; new_is = x.2 ∙ ap (λ (n : ℕ). unwrap_or (page_in (map d.contents lanes) (tag_at r.fork n)) x.0) here ∙ ap (λ (p : Option Page). unwrap_or p x.0) of.now }

    pub was_old : (block : ℕ) (old new : Page) (b : Both block new) → get_elem? pages block ≡ some old → b.old ≡ old
    was_old block old new b at = some-injective b.old old (sym b.at ∙ at)

    -- a block's page is in its lane
    lane_has : (block : ℕ) (new : Page) (b : Both block new) → b.of.after (tag_at r.fork block) ≡ Some new
    lane_has block new b =
        let x = b.of.is in
        let tag = tag_at r.fork block in
        let lies = subst (λ (k : ℕ). IsPlaced (relations_of m.table) k x.lane ((rule_at r).tag block) tag) (sym c.opened.lanes) x.placed in
        some_else (b.of.after tag) b.old ((c.lane x.lane b.of.closed x.is).held b.of.after ((rule_at r).tag block) tag x.holds lies) ∙ ap (λ (p : Page). Some p) (sym b.new_is)

    pub pages_held : HoldPages r.fork (pages_after d.contents r lanes pages) (map d.contents lanes)
    pages_held block below =
        let tag = tag_at r.fork block in
        let x = there_at (pages_after d.contents r lanes pages) block below in
        let b = both_at block x.0 x.1 in
        has_page (lane_at (map d.contents lanes) tag) tag (get_or (pages_after d.contents r lanes pages) block [])
        (b.of.now ∙ lane_has block x.0 b ∙ ap (λ (p : Page). Some p) (sym (standing_or (pages_after d.contents r lanes pages) block x.0 [] x.1)))

    -- each page has 8192 bytes
    full_at : ((lane : L) → IfSome (d.contents lane) AreFullPages) → (block : ℕ) (new : Page) → get_elem? (pages_after d.contents r lanes pages) block ≡ some new → length new ≡ 8192
    full_at whole block new at =
        let b = both_at block new at in
        let all : AreFullPages b.of.after = subst (λ (p : Option Pages). IfSome p AreFullPages) b.of.is.holds (whole b.of.closed) in
        subst (λ (p : Option Page). IfSome p (λ page. length page ≡ 8192)) (lane_has block new b) (all (tag_at r.fork block))

    pub pages_full : ((lane : L) → IfSome (d.contents lane) AreFullPages) → AreFull (pages_after d.contents r lanes pages)
    pages_full whole = each_full (pages_after d.contents r lanes pages) (full_at whole)

    module _ (has : HasRewrites (rule_at r) (blocks_in m 0 r.fork) c.state.known c.state.origin c.state.log) where
      image_of : (e : Entry) → IsRewrite (rule_at r) (blocks_in m 0 r.fork) c.state.known c.state.origin e → IsImageOf (rule_at r) pages e
      image_of e x =
          let short = x.below in
          let same = blocks_are in
          let e_count = are.have.counted in
          let p = there_at pages x.block (omega arith) in
          let told = known_at x.block p.0 p.1 in
          let is = origin_at x.block p.0 p.1 in
          record {
            block = x.block;
            page = p.0;
            there = p.1;
            changes = ap (rule_at r).changes is ∙ x.changes told;
            entered = x.entered ∙ ap (image ((rule_at r).tag x.block)) (x.made told ∙ ap (λ (q : Page). (rule_at r).rewritten q (end_of e)) (sym is));
          }

      -- and what a failure left after the log begins the record of such an image
      begins_next : (rest : List ℕ) → BeginsRewrite (rule_at r) (blocks_in m 0 r.fork) c.state rest → BeginsNext (rule_at r) c.state.names pages c.state.log rest
      unfolding image_of
      begins_next rest x = record { entry = x.entry; starts = x.starts ∙ c.laws.invariant.ends; room = x.room; image = image_of x.entry x.rewrite; new = x.new; more = x.more; begins = x.begins }

      pub images : HasImages (rule_at r) pages c.state.log
      images = record { each = λ k e at. image_of e (has.each k e at); one = has.one }

    module _ (hold : HoldEither d m.table.table.shared.key lanes (rule_at r) c.state) (known : List ℕ) (told : d.bytes log ≡ Some known) where
      logged : (block : ℕ) (new : Page) (b : Both block new) → HasEntryPage (rule_at r) c.state ((rule_at r).tag block) b.old (b.of.after (tag_at r.fork block)) → HasDurableEntry (rule_at r) c.state.log (file_at d.synced log known) block b.old new
      logged block new b x = let is = b.new_is ∙ ap (λ (p : Option Page). unwrap_or p b.old) x.held in record {
        made = x.made;
        entered = x.entered ∙ ap (image ((rule_at r).tag block)) (sym is);
        rewritten = is;
        durable = subst (λ (n : ℕ). head_size + end_of x.made.entry ≤ c.state.log.base + n) (c.device.synced known told) x.durable;
      }

      either_at : (block : ℕ) (new : Page) (b : Both block new) → failed_after d.failed_writes r lanes block ≡ false → (new ≡ b.old) ⊎ HasDurableEntry (rule_at r) c.state.log (file_at d.synced log known) block b.old new
      either_at block new b unfailed = ⊎_elim
          (λ (same : b.of.after (tag_at r.fork block) ≡ Some b.old). inl (b.new_is ∙ ap (λ (p : Option Page). unwrap_or p b.old) same))
          (λ (x : HasEntryPage (rule_at r) c.state ((rule_at r).tag block) b.old (b.of.after (tag_at r.fork block))). inr (logged block new b x))
          (hold ((rule_at r).tag block) (tag_at r.fork block) b.of.before b.of.after b.of.closed b.old b.of.is b.of.was (sym b.of.marked ∙ unfailed))

      pub each_either : (block : ℕ) (old new : Page) → get_elem? pages block ≡ some old → get_elem? (pages_after d.contents r lanes pages) block ≡ some new
          → failed_after d.failed_writes r lanes block ≡ false → (new ≡ old) ⊎ HasDurableEntry (rule_at r) c.state.log (file_at d.synced log known) block old new
      each_either block old new was at unfailed = let b = both_at block new at in
          subst (λ (p : Page). (new ≡ p) ⊎ HasDurableEntry (rule_at r) c.state.log (file_at d.synced log known) block p new) (was_old block old new b was) (either_at block new b unfailed)

      first : (block : ℕ) (old new : Page) → get_elem? pages block ≡ some old → get_elem? (pages_after d.contents r lanes pages) block ≡ some new
          → failed_after d.failed_writes r lanes block ≡ false → is_sound_page new ≡ true → base < lsn_of new → HasDurableEntry (rule_at r) c.state.log (file_at d.synced log known) block old new
      first block old new was at unfailed sound past = ⊎_elim
          (λ (same : new ≡ old). absurd (
          let w = page_within pages block old was (ap is_sound_page (sym same) ∙ sound) in
          let e = ap lsn_of same in
          let l = are.within in
          omega arith
          ))
          (λ (x : HasDurableEntry (rule_at r) c.state.log (file_at d.synced log known) block old new). x)
          (each_either block old new was at unfailed)

      -- a log that is down counted a fault
      down_counted : d.log_faults (log_of m) ≡ 0 → (p : ℕ) → IsLog d log (Some p) c.state.device → 0 < d.log_faults log
      down_counted none p device =
          let law = c.laws.invariant.device.columns 0 (omega arith) in
          let risen : HasRisen c.state.log_faults c.state.device.faults = law.rose (λ no. let e = sym device.down ∙ no in absurd (cc)) in
          let rose = risen_rose c.state.log_faults c.state.device.faults risen in
          let first = c.opened.log_faults in
          let last = c.device.faults in
          omega (arith, none, rose, first, last)

      -- The file begins with the log's bytes, and after them there is only what a failure left, which the log counted
      abbrev BeginsCounted : (ℕ → List ℕ) → Type 0
      BeginsCounted names = (x : BeginsWith (rule_at r) names pages c.state.log (file_at d.synced log known)) × (x.rest ≢ [] → 0 < d.log_faults log)

      begins_with : d.log_faults (log_of m) ≡ 0 → (mark : Option ℕ) → IsLog d log mark c.state.device → (mark ≡ None → c.state.device.bytes ≡ log_bytes c.state.names c.state.log) → (mark ≢ None → c.laws.rest.behind.rest ≢ [] → BeginsNext (rule_at r) c.state.names pages c.state.log c.laws.rest.behind.rest)
          → BeginsCounted c.state.names
      begins_with none None device whole next = (
        record { rest = []; begins = λ some. absurd (some refl); short = omega arith; is_bytes = sym (device.bytes known told) ∙ whole refl ∙ sym (append-nil (log_bytes c.state.names c.state.log)) },
        λ some. absurd (some refl),
      )
      begins_with none (Some p) device whole next = (
        record {
          rest = c.laws.rest.behind.rest;
          begins = next (λ empty. absurd (cc));
          short = c.laws.rest.behind.short;
          is_bytes = sym (device.bytes known told) ∙ c.laws.rest.behind.is_bytes;
        },
        λ some. down_counted none p device,
      )

      pub leaves_either : d.log_faults (log_of m) ≡ 0 → ((lane : L) → IfSome (d.contents lane) AreFullPages) → HasRewrites (rule_at r) (blocks_in m 0 r.fork) c.state.known c.state.origin c.state.log
          → (c.laws.rest.behind.rest ≢ [] → c.mark ≢ None → BeginsRewrite (rule_at r) (blocks_in m 0 r.fork) c.state c.laws.rest.behind.rest)
          → (x : LeavesEither (rule_at r) (names_of r) base pages (pages_after d.contents r lanes pages) (failed_after d.failed_writes r lanes) (file_at d.synced log known)) × (x.begins.rest ≢ [] → 0 < d.log_faults log)
      leaves_either none whole has left = by_begins (subst BeginsCounted names_are (begins_with none c.mark c.device c.bytes (λ down some. begins_next has c.laws.rest.behind.rest (left some down))))
        where
          by_begins : (b : BeginsCounted (names_of r))
              → (x : LeavesEither (rule_at r) (names_of r) base pages (pages_after d.contents r lanes pages) (failed_after d.failed_writes r lanes) (file_at d.synced log known)) × (x.begins.rest ≢ [] → 0 < d.log_faults log)
          by_begins b = (
            record {
              law = c.laws.invariant.log;
              log = c.state.log;
              based = c.opened.base ∙ started.based;
              low = (let ends = c.laws.invariant.ends in let limit = c.laws.invariant.limit in omega arith);
              begins = b.0;
              images = images has;
              counted = pages_long r.fork (map d.contents lanes) 0 pages;
              were_full = each_full pages (was_full whole);
              full = pages_full whole;
              each = each_either;
              log_first = first;
            },
            b.1,
          )
