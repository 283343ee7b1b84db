-- Lanes and a log that no rewrite was made of.
use Rattle.std.proofs.Common.{◌≡◌, ◌≢◌, length, ℕ, ◌+◌, ◌<◌, ◌≤◌, append-nil, List, [], map, get_or, Option, Some, None, Err, refl, sym, ap, ◌∙◌, subst, inl, unwrap_or, arith}
use Rattle.std.specs.Prelude.{All, IfSome, IsSomeAnd}
use Rattle.std.specs.Option.{option_and_then}
use Rattle.std.proofs.lemmas.Bool.{both_ways}
use mathlib.Core.Option.{some, some-injective, some-ne-none}
use lib.ListN.{get_elem?}
use Rattle.block_tag.specs.declared.tag.Tag.{Tag}
use Rattle.block_tag.specs.Names.{lane_number}
use Rattle.page_layout.specs.Fields.{lsn_of}
use Rattle.page_layout.specs.Soundness.{is_sound_page}
use Rattle.segment_store.specs.Contents.{AreFullPages, Marks, Pages, no_marks}
use Rattle.segment_store.specs.Lanes.{HasPage, HoldPages, lane_at, page_in, tag_at}
use Rattle.pin_core.specs.State.{Page}
use Rattle.history_core.specs.Log.{AreChained, head_bytes, log_bytes, records}
use Rattle.history_core.specs.State.{last_position}
use Rattle.history_core.proofs.Logs.{end_none}
use Rattle.table_rule.proofs.Opens.{length_low, there_at}
use Rattle.backend_pass.proofs.Standing.{found, standing_or}
use Rattle.relation_commands.specs.declared.rewriting.RewriteError.TheVariants.{Memory}
use Rattle.relation_commands.specs.declared.starting.RelationFork.{RelationFork}
use Rattle.relation_commands.specs.RewriteResults.{LeavesEither}
use Rattle.relation_commands.specs.Rewriting.{ArePages, LeavesRewritten, failed_after, pages_after}
use Rattle.relation_commands.specs.Starting.{names_of}
use Rattle.relation_commands.proofs.GivingBack.{unmarked_in}
use Rattle.relation_commands.proofs.RewriteLeaves.{each_full, file_at, page_at, page_within, pages_long, rule_at}

page_of : (x : Option Pages) (tag : Tag) (page : Page) → IsSomeAnd x (λ pages. pages tag ≡ Some page) → option_and_then (λ (pages : Pages). pages tag) x ≡ Some page
page_of None tag page has = absurd has
page_of (Some pages) tag page has = has

head_only : (names : ℕ → List ℕ) (base : ℕ) → log_bytes names (record { base = base; entries = [] }) ≡ head_bytes base
unfolding records
head_only names base = append-nil (head_bytes base)

module _ {L G : Type 0} (contents : L → Option Pages) (failed : L → Marks) (bytes : G → Option (List ℕ)) (synced : G → ℕ) (write_faults : L → ℕ) (log_faults : G → ℕ)
    (r : RelationFork) (base : ℕ) (lanes : List L) (log : G)
    (head : (known : List ℕ) → bytes log ≡ Some known → known ≡ head_bytes base) (low : base ≤ last_position) (whole : (lane : L) → IfSome (contents lane) AreFullPages)
    (unmarked : All (λ lane. failed lane ≡ no_marks) lanes) where
  module _ (pages : List Page) (are : ArePages contents r base lanes pages) where
    -- each page is as it was
    same : (block : ℕ) (old new : Page) → get_elem? pages block ≡ some old → get_elem? (pages_after contents r lanes pages) block ≡ some new → new ≡ old
    same block old new was at =
        let x = page_at r.fork (map contents lanes) 0 pages block new at in
        let here : 0 + block ≡ block = omega arith in
        let is : x.0 ≡ old = some-injective x.0 old (sym x.1 ∙ was) in
        let has : page_in (map contents lanes) (tag_at r.fork block) ≡ Some old =
        page_of (lane_at (map contents lanes) (tag_at r.fork block)) (tag_at r.fork block) (get_or pages block []) (are.have.held block (length_low pages block old was))
        ∙ ap (λ (p : Page). Some p) (standing_or pages block old [] was) in
        x.2 ∙ ap (λ (n : ℕ). unwrap_or (page_in (map contents lanes) (tag_at r.fork n)) x.0) here ∙ ap (λ (p : Option Page). unwrap_or p x.0) has

    still_held : HoldPages r.fork (pages_after contents r lanes pages) (map contents lanes)
    still_held block below =
        let after = pages_after contents r lanes pages in
        let x = there_at after block below in
        let old = page_at r.fork (map contents lanes) 0 pages block x.0 x.1 in
        let kept : get_or pages block [] ≡ get_or after block [] =
        standing_or pages block old.0 [] old.1
        ∙ sym (standing_or after block x.0 [] x.1 ∙ same block old.0 x.0 old.1 x.1) in
        subst (λ (page : Page). HasPage (tag_at r.fork block) page (map contents lanes)) kept
        (are.have.held block (length_low pages block old.0 old.1))

    was_long : (block : ℕ) (old : Page) → get_elem? pages block ≡ some old → length old ≡ 8192
    was_long block old was =
        let tag = tag_at r.fork block in
        let l = found contents (λ known. known tag ≡ Some (get_or pages block [])) lanes (lane_number tag (length (map contents lanes))) (are.have.held block (length_low pages block old was)) in
        let all : AreFullPages l.2.0 = subst (λ (p : Option Pages). IfSome p AreFullPages) l.2.1 (whole l.0) in
        let long : length (get_or pages block []) ≡ 8192 = subst (λ (p : Option Page). IfSome p (λ page. length page ≡ 8192)) l.2.2 (all tag) in
        ap length (sym (standing_or pages block old [] was)) ∙ long

    full_at : (block : ℕ) (new : Page) → get_elem? (pages_after contents r lanes pages) block ≡ some new → length new ≡ 8192
    full_at block new at =
        let x = page_at r.fork (map contents lanes) 0 pages block new at in
        ap length (same block x.0 new x.1 at) ∙ was_long block x.0 x.1

    either : (known : List ℕ) → bytes log ≡ Some known
        → (x : LeavesEither (rule_at r) (names_of r) base pages (pages_after contents r lanes pages) (failed_after failed r lanes) (file_at synced log known)) × (x.begins.rest ≢ [] → 0 < log_faults log)
    unfolding AreChained
    either known told = (
      record {
        log = record { base = base; entries = [] };
        law = record { chained = tt; valid = λ k e at. absurd (some-ne-none e (sym at)) };
        based = refl;
        low = (let none = end_none base in let within = low in omega arith);
        begins = record { rest = []; begins = λ some. absurd (some refl); short = omega arith; is_bytes = head known told ∙ sym (head_only (names_of r) base) ∙ sym (append-nil (log_bytes (names_of r) (record { base = base; entries = [] }))) };
        images = record { each = λ k e at. absurd (some-ne-none e (sym at)); one = λ j k tag x y of also. absurd (some-ne-none x (sym of.there)) };
        counted = pages_long r.fork (map contents lanes) 0 pages;
        were_full = each_full pages was_long;
        each = λ block old new was at unfailed. inl (same block old new was at);
        full = each_full (pages_after contents r lanes pages) full_at;
        log_first = λ block old new was at unfailed sound past. absurd (
            let is = same block old new was at in
            let within = page_within pages block old was (ap is_sound_page (sym is) ∙ sound) in
            let position = ap lsn_of is in
            let largest = are.within in
            omega arith
            );
      },
      λ some. absurd (some refl),
    )

  pub untouched : LeavesRewritten contents failed bytes synced write_faults log_faults r base lanes lanes log (Err Memory)
  untouched = record {
    either = λ pages known are told. either pages are known told;
    marked = λ pages are block below bad. absurd (both_ways (failed_after failed r lanes block) (unmarked_in failed r.fork lanes block unmarked) bad);
    whole = tt;
    totals = tt;
    held = λ pages are. still_held pages are;
    unfailed = tt;
    positions = λ pages are. tt;
  }
