-- What a rewrite makes of the log, when the table is closed.
use Rattle.std.proofs.Common.{◌≡◌, ℕ, zero, suc, ◌<◌, Bool, true, cond, List, [], ◌∷◌, Option, Some, unwrap_or, sym, refl, ap, ◌∙◌, subst, arith}
use Rattle.std.proofs.lemmas.Option.{same_Some}
use mathlib.Core.Option.{some, some-injective, some-ne-none}
use lib.ListN.{get_elem?}
use Rattle.pin_core.specs.declared.view.Call.{Call}
use Rattle.pin_core.specs.declared.view.Call.TheVariants.{Read, Write}
use Rattle.pin_core.specs.State.{Page}
use Rattle.history_core.specs.Log.{Entry, Change, image, ranges, resize, is_image, tag_in, image_record, IsEntryOf, AreChained, AreOfPages, is_of_page, Log, end_of, cell, cut, IsLegal, IsLegalRead, IsLegalWrite, writes_in, writes_at}
use Rattle.grid.proofs.Sums.{total-same, some_term}
use Rattle.history_core.specs.History.{IsHistory}
use Rattle.page_jobs.specs.Rewrites.{Rule, Outcome, unsound, kept, refused, changed, outcome_block, outcome_calls}
use Rattle.page_jobs.specs.RewriteEnds.{BackendCalls, all_done, block_weight, Rewrites, RewritesAll, HasRewrites, HasEntry, IsPageEntry, IsRewritten, change_weight, page_at_start}
use Rattle.page_jobs.proofs.RewriteCounts.{Each, each_done, test_is, outcome_at, outcome_weight, writes_at_are, writes_are, same_place, total_blocks}
use Rattle.history_core.proofs.Logs.{after_none, chain_above, image_of_size, images_end, some_size}

-- what is there is the page at the start
start_is : (o : Option Page) (q : Page) → o ≡ Some q → q ≡ unwrap_or o []
start_is o q e = sym (ap (λ (x : Option Page). unwrap_or x []) e)

-- a block without an entry up to a place has its page at the start
pub cell_untouched : (origin : ℕ → Option Page) (es : List Entry) (p tag : ℕ) → AreOfPages es → ((k : ℕ) (e : Entry) → IsEntryOf es tag k e → p < end_of e) → cell origin (cut p es) tag ≡ origin tag
cell_untouched origin es p tag of_pages none = after_none tag p es (origin tag) of_pages none

-- entries that follow one another have ends of their own
same_end : (from : ℕ) (es : List Entry) → AreChained from es → (j k : ℕ) (d e : Entry) → get_elem? es j ≡ some d → get_elem? es k ≡ some e → end_of d ≡ end_of e → j ≡ k
unfolding AreChained
same_end from [] h j k d e at to same = absurd (some-ne-none d (sym at))
same_end from (x ∷ es) h zero zero d e at to same = refl
same_end from (x ∷ es) h zero (suc k) d e at to same = absurd (let later = chain_above (end_of x) es h.1 k e to in let is : end_of x ≡ end_of d = ap end_of (some-injective x d at) in omega (arith, some_size e.change))
same_end from (x ∷ es) h (suc j) zero d e at to same = absurd (let later = chain_above (end_of x) es h.1 j d at in let is : end_of x ≡ end_of e = ap end_of (some-injective x e to) in omega (arith, some_size d.change))
same_end from (x ∷ es) h (suc j) (suc k) d e at to same = ap suc (same_end (end_of x) es h.1 j k d e at to same)

-- an entry of a whole page
page_entry : (c : Change) (tag : ℕ) (p : Page) → is_image c ≡ true → tag_in c ≡ Some tag → ((t : ℕ) (q : Page) → c ≡ image t q → q ≡ p) → c ≡ image tag p
page_entry (image t q) tag p whole of is = ap (λ (z : ℕ). image z q) (same_Some t tag of) ∙ ap (image tag) (is t q refl)
page_entry (ranges t spans) tag p whole of is = absurd (cc)
page_entry (resize fork before after) tag p whole of is = absurd (cc)

module _ {r : Rule} {n : ℕ} {known : ℕ → Bool} {origin : ℕ → Option Page} {sizes : ℕ → ℕ} {log : Log} {calls : List Call} {ps : List BackendCalls} (h : IsHistory known origin sizes log calls) (w : Rewrites r n known origin calls ps) where
  legal_done : (k : ℕ) (o : Outcome) → get_elem? (all_done ps) k ≡ some o → Each (IsLegal known origin sizes log) (outcome_calls r o)
  legal_done = each_done r (IsLegal known origin sizes log) ps (subst (Each (IsLegal known origin sizes log)) w.calls_are h.legal)

  -- entries with one end are one
  same_index : (j k : ℕ) (d e : Entry) → get_elem? log.entries j ≡ some d → get_elem? log.entries k ≡ some e → end_of d ≡ end_of e → j ≡ k
  same_index j k d e at to same = same_end log.base log.entries h.law.chained j k d e at to same

  same_entry : (j k : ℕ) (d e : Entry) → get_elem? log.entries j ≡ some d → get_elem? log.entries k ≡ some e → j ≡ k → d ≡ e
  same_entry j k d e at to same = some-injective d e (sym at ∙ ap (get_elem? log.entries) same ∙ to)

  -- The outcome that made an entry
  record MadeBy (e : Entry) : Type 0 where
    block : ℕ
    backend : ℕ
    page : Page
    place : ℕ
    index : ℕ
    there : get_elem? (all_done ps) index ≡ some (changed block backend page place (end_of e))
    entered : IsPageEntry e (r.tag block) (r.rewritten page (end_of e))

  made_by : (k : ℕ) (e : Entry) → get_elem? log.entries k ≡ some e → MadeBy e
  made_by k e at = from (some_term (outcome_at (end_of e)) (all_done ps) (let x = h.once k e at in let y = writes_at_are r ps w.reads (end_of e) in let z = ap (writes_at (end_of e)) w.calls_are in omega arith))
    where
      by_case : (j : ℕ) (o : Outcome) → get_elem? (all_done ps) j ≡ some o → 0 < outcome_at (end_of e) o → MadeBy e
      by_case j (unsound b) t low = absurd (omega arith)
      by_case j (kept b i q p) t low = absurd (omega arith)
      by_case j (refused b i q p) t low = absurd (omega arith)
      by_case j (changed b i q p m) t low = let is : m ≡ end_of e = test_is m (end_of e) low in let l : IsLegalWrite known origin log i (r.tag b) (r.rewritten q m) m image_record = legal_done j (changed b i q p m) t 1 (Write i (r.tag b) (r.rewritten q m) m image_record) refl in
          let same = same_entry l.index k l.entry e l.entered.there at (same_index l.index k l.entry e l.entered.there at (l.ends ∙ is)) in record {
            block = b;
            backend = i;
            page = q;
            place = p;
            index = j;
            there = subst (λ (x : ℕ). get_elem? (all_done ps) j ≡ some (changed b i q p x)) is t;
            entered = ap (λ (x : Entry). x.change) (sym same) ∙ page_entry l.entry.change (r.tag b) (r.rewritten q m) (image_of_size (end_of l.entry) l.entry.change (h.law.valid l.index l.entry l.entered.there) l.sized) l.entered.of l.image_is ∙ ap (λ (z : ℕ). image (r.tag b) (r.rewritten q z)) is;
          }

      from : ((j : ℕ) × (o : Outcome) × (get_elem? (all_done ps) j ≡ some o) × (0 < outcome_at (end_of e) o)) → MadeBy e
      from (j, o, t, low) = by_case j o t low

  of_pages : AreOfPages log.entries
  of_pages k e at = ap is_of_page (made_by k e at).entered

  -- the outcome of a block that has an entry is the one that made it
  outcome_of : (k j : ℕ) (e : Entry) (o : Outcome) → (at : get_elem? log.entries k ≡ some e) → get_elem? (all_done ps) j ≡ some o → tag_in e.change ≡ Some (r.tag (outcome_block o)) → (m : MadeBy e) × (o ≡ changed m.block m.backend m.page m.place (end_of e))
  outcome_of k j e o at to tagged = let m = made_by k e at in let c = changed m.block m.backend m.page m.place (end_of e) in
      let same : outcome_block o ≡ m.block = w.apart (outcome_block o) m.block (w.below j o to) (w.below m.index c m.there) (same_Some (r.tag (outcome_block o)) (r.tag m.block) (sym tagged ∙ ap tag_in m.entered)) in
      let index = same_place (all_done ps) j m.index o c to m.there same (w.once (outcome_block o)) in (m, some-injective o c (sym to ∙ ap (get_elem? (all_done ps)) index ∙ m.there))

  abbrev place_after : Outcome → ℕ
  place_after (changed b i q p m) = m
  place_after _ = 0

  -- a block has one entry at most
  one_entry : (j k tag : ℕ) (d e : Entry) → IsEntryOf log.entries tag j d → IsEntryOf log.entries tag k e → j ≡ k
  one_entry j k tag d e at to = let m = made_by j d at.there in let x = outcome_of k m.index e (changed m.block m.backend m.page m.place (end_of d)) to.there m.there (to.of ∙ sym at.of ∙ ap tag_in m.entered) in
      same_index j k d e at.there to.there (ap place_after x.1)

  -- the page that was read of a block, and not after its entry, is the page at the start
  read_page : (j : ℕ) (o : Outcome) → get_elem? (all_done ps) j ≡ some o → (q : Page) (p : ℕ) → IsLegalRead known origin log (r.tag (outcome_block o)) q p → ((b i t m : ℕ) (x : Page) → o ≡ changed b i x t m → p < m) → known (r.tag (outcome_block o)) ≡ true → q ≡ page_at_start origin (r.tag (outcome_block o))
  read_page j o at q p l before is = start_is (origin (r.tag (outcome_block o))) q (sym (cell_untouched origin log.entries p (r.tag (outcome_block o)) of_pages (λ k e of. let x = outcome_of k j e o of.there at of.of in before x.0.block x.0.backend x.0.place (end_of e) x.0.page x.1)) ∙ l.reads is)

  read_changed : (j b i m : ℕ) (q : Page) (p : ℕ) → get_elem? (all_done ps) j ≡ some (changed b i q p m) → known (r.tag b) ≡ true → q ≡ page_at_start origin (r.tag b)
  read_changed j b i m q p at = read_page j (changed b i q p m) at q p (legal_done j (changed b i q p m) at 0 (Read i (r.tag b) q p) refl) (λ c k t z x e. subst (λ (y : ℕ). p < y) (ap place_after e) (w.fair j (changed b i q p m) at).1)

  pub has_rewrites : HasRewrites r n known origin log
  has_rewrites = record {
    each = λ k e at. let m = made_by k e at in let c = changed m.block m.backend m.page m.place (end_of e) in let before = read_changed m.index m.block m.backend (end_of e) m.page m.place m.there in record {
      block = m.block;
      below = w.below m.index c m.there;
      page = r.rewritten m.page (end_of e);
      entered = m.entered;
      made = λ is. ap (λ (q : Page). r.rewritten q (end_of e)) (before is);
      changes = λ is. ap r.changes (sym (before is)) ∙ (w.fair m.index c m.there).0;
    };
    one = one_entry;
  }

  -- no entry is of a block that was not changed
  no_entry : (j : ℕ) (o : Outcome) → get_elem? (all_done ps) j ≡ some o → outcome_weight o ≡ 0 → HasEntry log (r.tag (outcome_block o)) → ⊥
  no_entry j o at none x = let y = outcome_of x.index j x.entry o x.entered.there at x.entered.of in absurd (let z = ap outcome_weight y.1 in omega arith)

  -- where a put was refused the page that was read is the page at the start, and the block has no entry
  pub refused_read : (j b i : ℕ) (q : Page) (p : ℕ) → get_elem? (all_done ps) j ≡ some (refused b i q p) → known (r.tag b) ≡ true → q ≡ page_at_start origin (r.tag b)
  refused_read j b i q p at = let o = refused b i q p in read_page j o at q p (legal_done j o at 0 (Read i (r.tag b) q p) refl) (λ c k t z x e. absurd (cc))

  pub refused_new : (j b i : ℕ) (q : Page) (p : ℕ) → get_elem? (all_done ps) j ≡ some (refused b i q p) → HasEntry log (r.tag b) → ⊥
  refused_new j b i q p at = no_entry j (refused b i q p) at refl

-- Where all blocks are done
module _ {r : Rule} {n : ℕ} {known : ℕ → Bool} {origin : ℕ → Option Page} {sizes : ℕ → ℕ} {log : Log} {calls : List Call} {ps : List BackendCalls} (h : IsHistory known origin sizes log calls) (w : RewritesAll r n known origin calls ps) (told : (b : ℕ) → b < n → known (r.tag b) ≡ true) where
  pub kept_read : (j b i : ℕ) (q : Page) (p : ℕ) → get_elem? (all_done ps) j ≡ some (kept b i q p) → q ≡ page_at_start origin (r.tag b)
  kept_read j b i q p at = let o = kept b i q p in read_page h w.rewrites j o at q p (legal_done h w.rewrites j o at 0 (Read i (r.tag b) q p) refl) (λ c k t z x e. absurd (cc)) (told b (w.rewrites.below j o at))

  pub changed_read : (j b i : ℕ) (q : Page) (p m : ℕ) → get_elem? (all_done ps) j ≡ some (changed b i q p m) → q ≡ page_at_start origin (r.tag b)
  changed_read j b i q p m at = read_changed h w.rewrites j b i m q p at (told b (w.rewrites.below j (changed b i q p m) at))

  changes_here : (j : ℕ) (o : Outcome) → get_elem? (all_done ps) j ≡ some o → outcome_weight o ≡ change_weight r origin (outcome_block o)
  changes_here j (unsound b) at = ap (λ (t : Bool). cond t 1 0) (sym (w.rewrites.fair j (unsound b) at (told b (w.rewrites.below j (unsound b) at))))
  changes_here j (kept b i q p) at = ap (λ (t : Bool). cond t 1 0) (sym (w.rewrites.fair j (kept b i q p) at) ∙ ap r.changes (kept_read j b i q p at))
  changes_here j (refused b i q p) at = let e = w.ended j (refused b i q p) at in absurd (cc)
  changes_here j (changed b i q p m) at = ap (λ (t : Bool). cond t 1 0) (sym (w.rewrites.fair j (changed b i q p m) at).0 ∙ ap r.changes (changed_read j b i q p m at))

  has_entry : (j : ℕ) (o : Outcome) → get_elem? (all_done ps) j ≡ some o → outcome_weight o ≡ 1 → HasEntry log (r.tag (outcome_block o))
  has_entry j (changed b i q p m) at e = let l : IsLegalWrite known origin log i (r.tag b) (r.rewritten q m) m image_record = legal_done h w.rewrites j (changed b i q p m) at 1 (Write i (r.tag b) (r.rewritten q m) m image_record) refl in record { index = l.index; entry = l.entry; entered = l.entered }
  has_entry j (unsound b) at e = absurd (omega arith)
  has_entry j (kept b i q p) at e = absurd (omega arith)
  has_entry j (refused b i q p) at e = absurd (omega arith)

  pub is_rewritten : IsRewritten r n known origin log
  is_rewritten = record {
    rewrites = has_rewrites h w.rewrites;
    all = λ b low is. let x = some_term (block_weight b) (all_done ps) (let y = w.all b low in omega arith) in let same : outcome_block x.1 ≡ b = test_is (outcome_block x.1) b x.3 in
        subst (λ (t : ℕ). HasEntry log (r.tag t)) same (has_entry x.0 x.1 x.2 (changes_here x.0 x.1 x.2 ∙ ap (λ (t : ℕ). change_weight r origin t) same ∙ ap (λ (t : Bool). cond t 1 0) is));
    end = let x = total_blocks n (change_weight r origin) (all_done ps) w.rewrites.below w.all in let y = total-same outcome_weight (λ (o : Outcome). change_weight r origin (outcome_block o)) (all_done ps) changes_here in
        let z = writes_are r ps w.rewrites.reads in let c = ap writes_in w.rewrites.calls_are in let k = h.counted in
        let pages = images_end log.base log.entries h.law.chained (λ k e at. ap is_image ((has_rewrites h w.rewrites).each k e at).entered) in omega arith;
  }
