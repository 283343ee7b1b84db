-- What a rewrite makes of the lanes.
use Rattle.std.proofs.Common.{◌≡◌, ◌⊎◌, ℕ, zero, suc, ◌<◌, ◌≤◌, Bool, List, [], ◌∷◌, Option, Some, sym, refl, ap, ◌∙◌, subst, inl, inr, ⊎_elim, arith}
use Rattle.std.proofs.lemmas.Option.{same_Some}
use mathlib.Core.Option.{some, some-ne-none, some-injective}
use lib.ListN.{get_elem?}
use Rattle.pin_core.specs.declared.view.Call.{Call}
use Rattle.pin_core.specs.declared.view.Call.TheVariants.{Read, Write, Size, Sized}
use Rattle.pin_core.specs.State.{Page}
use Rattle.history_core.specs.Log.{Entry, Change, image, tag_in, changed_page, page_after, IsEntryOf, Log, AreOfPages, is_of_page, end_of, cell, cut, place_of, weight_at}
use Rattle.history_core.specs.State.{State, stored_upto}
use Rattle.history_core.specs.Laws.{Laws}
use Rattle.history_core.specs.Promises.{IsInLane, IsUnwritten, AreStored}
use Rattle.history_core.proofs.Histories.{durable}
use Rattle.history_core.proofs.Stepping.{lane_cell}
use Rattle.history_core.specs.History.{IsHistory}
use Rattle.page_jobs.specs.Rewrites.{Rule}
use Rattle.page_jobs.specs.RewriteEnds.{HasRewrites, HasEntry, IsPageEntry, page_at_start, LanesHoldEither, LanesHoldAll, BackendCalls, IsRewritten, IsResult, Finishes}
use Rattle.grid.proofs.Sums.{some_term}
use Rattle.page_jobs.proofs.RewriteCounts.{test_is}
use Rattle.page_jobs.proofs.RewriteClosed.{cell_untouched, is_rewritten}
use Rattle.history_core.proofs.Logs.{IsLastUpto, after_none, changed_image, cut_in, cut_out, deeper, in_or_out, last_upto}

-- an entry of which no later one has the block
after_last : (tag : ℕ) (es : List Entry) (p k : ℕ) (e : Entry) (page : Page) (before : Option Page) → AreOfPages es → get_elem? es k ≡ some e → IsPageEntry e tag page → end_of e ≤ p → ((j : ℕ) (d : Entry) → IsEntryOf es tag j d → j ≡ k) → page_after tag (cut p es) before ≡ Some page
unfolding page_after cut
after_last tag [] p k e page before valid at is low one = absurd (some-ne-none e (sym at))
after_last tag (x ∷ es) p zero e page before valid at is low one = let same : x ≡ e = some-injective x e at in
    ap (λ (l : List Entry). page_after tag l before) (cut_in p x es (subst (λ (y : Entry). end_of y ≤ p) (sym same) low))
    ∙ after_none tag p es (changed_page x.change (end_of x) tag before) (λ j d to. valid (suc j) d to) (λ j d of. let z = one (suc j) d (deeper x es tag j d of) in absurd (omega arith))
    ∙ ap (λ (c : Change). changed_page c (end_of x) tag before) (ap (λ (y : Entry). y.change) same ∙ is) ∙ changed_image tag (end_of x) tag page before refl
after_last tag (x ∷ es) p (suc k) e page before valid at is low one =
    let rest : (q : Option Page) → page_after tag (cut p es) q ≡ Some page = (λ q. after_last tag es p k e page q (λ j d to. valid (suc j) d to) at is low (λ j d of. let z = one (suc j) d (deeper x es tag j d of) in omega arith)) in in_or_out p x
    (λ (t : end_of x ≤ p). ap (λ (l : List Entry). page_after tag l before) (cut_in p x es t) ∙ rest (changed_page x.change (end_of x) tag before))
    (λ (t : p < end_of x). ap (λ (l : List Entry). page_after tag l before) (cut_out p x es t) ∙ rest before)

-- In the log of a rewrite
module _ {r : Rule} {n : ℕ} {known : ℕ → Bool} {origin : ℕ → Option Page} {log : Log} (has : HasRewrites r n known origin log) where
  of_pages : AreOfPages log.entries
  of_pages k e at = ap is_of_page (has.each k e at).entered

  -- an entry of a block is a page of it
  entry_page : (k tag : ℕ) (e : Entry) → IsEntryOf log.entries tag k e → (page : Page) × IsPageEntry e tag page
  entry_page k tag e of = let x = has.each k e of.there in (x.page, x.entered ∙ ap (λ (t : ℕ). image t x.page) (same_Some (r.tag x.block) tag (sym (ap tag_in x.entered) ∙ of.of)))

  -- which is the block's page from then on
  cell_last : (p k tag : ℕ) (e : Entry) (page : Page) → get_elem? log.entries k ≡ some e → IsPageEntry e tag page → end_of e ≤ p → cell origin (cut p log.entries) tag ≡ Some page
  cell_last p k tag e page at is low = after_last tag log.entries p k e page (origin tag) of_pages at is low (λ j d of. has.one j k tag d e of (record { there = at; of = ap tag_in is }))

  -- after some entries a block has the page of one of them, or its page at the start
  cell_either : (p tag : ℕ) → ((k : ℕ) × (e : Entry) × (page : Page) × (get_elem? log.entries k ≡ some e) × IsPageEntry e tag page × (end_of e ≤ p) × (cell origin (cut p log.entries) tag ≡ Some page)) ⊎ (cell origin (cut p log.entries) tag ≡ origin tag)
  cell_either p tag = ⊎_elim
      (λ (m : (k : ℕ) × (e : Entry) × IsLastUpto log.entries tag p k e). let x = entry_page m.0 tag m.1 m.2.entered in inl (m.0, m.1, x.0, m.2.entered.there, x.1, m.2.upto, cell_last p m.0 tag m.1 x.0 m.2.entered.there x.1 m.2.upto))
      (λ (none : (k : ℕ) (e : Entry) → IsEntryOf log.entries tag k e → p < end_of e). inr (cell_untouched origin log.entries p tag of_pages none))
      (last_upto log.entries tag p)

-- with any end
pub lanes_hold_either : (s : State) (r : Rule) (n : ℕ) → Laws s → HasRewrites r n s.known s.origin s.log → LanesHoldEither s
lanes_hold_either s r n h has tag block is ok = let x = h.invariant.flushed_cells tag in let holds = lane_cell s h.invariant tag block is ok in ⊎_elim
    (λ (y : (k : ℕ) × (e : Entry) × (page : Page) × (get_elem? s.log.entries k ≡ some e) × IsPageEntry e tag page × (end_of e ≤ stored_upto s tag) × (cell s.origin (cut (stored_upto s tag) s.log.entries) tag ≡ Some page)). let low = x.within in
    inl (y.0, y.1, y.2, y.3, y.4, durable s h.invariant y.0 y.1 y.3 (let z = y.5 in omega arith), holds ∙ y.6))
    (λ (y : cell s.origin (cut (stored_upto s tag) s.log.entries) tag ≡ s.origin tag). inr (holds ∙ y))
    (cell_either has (stored_upto s tag) tag)

-- each entry ends at the front or before it
pub entries_fronted : {known : ℕ → Bool} {origin : ℕ → Option Page} {sizes : ℕ → ℕ} {log : Log} {calls : List Call} → IsHistory known origin sizes log calls → (front : ℕ) → ((k : ℕ) (c : Call) → get_elem? calls k ≡ some c → place_of c ≤ front) → (k : ℕ) (e : Entry) → get_elem? log.entries k ≡ some e → end_of e ≤ front
entries_fronted {calls = calls} h front fronted k e at = from (some_term (weight_at (end_of e)) calls (let x = h.once k e at in omega arith))
  where
    by_call : (c : Call) → 0 < weight_at (end_of e) c → place_of c ≡ end_of e
    by_call (Read i t q p) low = absurd (omega arith)
    by_call (Write i t q p whole) low = test_is p (end_of e) low
    by_call (Size i fork blocks p) low = test_is p (end_of e) low
    by_call (Sized i fork blocks p) low = absurd (omega arith)

    from : ((j : ℕ) × (c : Call) × (get_elem? calls j ≡ some c) × (0 < weight_at (end_of e) c)) → end_of e ≤ front
    from (j, c, t, low) = let x = fronted j c t in let y = by_call c low in omega arith

-- with a checkpoint that stored all entries, where no write failed
pub lanes_hold_all : (s : State) (r : Rule) (n upto : ℕ) → Laws s → HasRewrites r n s.known s.origin s.log → AreStored s upto → ((k : ℕ) (e : Entry) → get_elem? s.log.entries k ≡ some e → end_of e ≤ upto) → LanesHoldAll s
lanes_hold_all s r n upto h w stores low = record {
  written = λ k tag e page at entered is ok. ⊎_elim
      (λ (x : IsInLane s e tag). x.holds is ∙ cell_last w x.place k tag e page at entered x.later)
      (λ (x : IsUnwritten s tag). let bad = x.failed_write in absurd (cc))
      (stores k tag e (record { there = at; of = ap tag_in entered }) (low k e at));
  other = λ tag block is ok none. lane_cell s h.invariant tag block is ok ∙ cell_untouched s.origin s.log.entries (stored_upto s tag) tag (of_pages w) (λ k e of. absurd (none (record { index = k; entry = e; entered = of })));
}

pub finishes : (r : Rule) (n : ℕ) (s : State) (calls : List Call) (ps : List BackendCalls) (upto : ℕ) → Finishes r n s calls ps upto → IsResult r n s
finishes r n s calls ps upto f = record {
  rewritten = rewritten;
  changed = λ b low is. let x = rewritten.all b low is in let entered = made b low x in (x, entered, lanes.written x.index (r.tag b) x.entry _ x.entered.there entered (f.known b low));
  same = λ b low is. let none : HasEntry s.log (r.tag b) → ⊥ = (λ x. let e = rewritten.rewrites.each x.index x.entry x.entered.there in let of = block_of b x in let y = e.changes (ap s.known of ∙ f.known b low) in let z = ap (λ (t : ℕ). r.changes (page_at_start s.origin t)) of in absurd (cc)) in (none, λ ok. lanes.other (r.tag b) (f.there b low) (f.known b low) ok none);
}
  where
    rewritten : IsRewritten r n s.known s.origin s.log
    rewritten = is_rewritten f.history f.rewrites f.known

    -- the block of an entry
    block_of : (b : ℕ) (x : HasEntry s.log (r.tag b)) → r.tag (rewritten.rewrites.each x.index x.entry x.entered.there).block ≡ r.tag b
    block_of b x = let e = rewritten.rewrites.each x.index x.entry x.entered.there in same_Some (r.tag e.block) (r.tag b) (sym (ap tag_in e.entered) ∙ x.entered.of)

    -- and its page
    made : (b : ℕ) → b < n → (x : HasEntry s.log (r.tag b)) → IsPageEntry x.entry (r.tag b) (r.rewritten (page_at_start s.origin (r.tag b)) (end_of x.entry))
    made b low x = let e = rewritten.rewrites.each x.index x.entry x.entered.there in let of = block_of b x in
        e.entered ∙ ap (image (r.tag e.block)) (e.made (ap s.known of ∙ f.known b low)) ∙ ap (λ (t : ℕ). image t (r.rewritten (page_at_start s.origin t) (end_of x.entry))) of

    lanes : LanesHoldAll s
    lanes = lanes_hold_all s r n upto f.laws rewritten.rewrites f.stored_all (λ k e at. entries_fronted f.history upto f.reached k e at)
