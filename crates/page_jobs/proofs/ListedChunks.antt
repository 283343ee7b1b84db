-- What a scan's or a dump's workers did with the chunks that they claimed.
use Rattle.std.proofs.Common.{◌≡◌, ℕ, suc, ◌+◌, ◌-◌, ◌<◌, ◌≤◌, List, [], ◌∷◌, ◌++◌, length, Option, Result, Ok, Err, refl, sym, ap, ◌∙◌, subst, arith, add-zero, append_assoc, inl, inr}
use Rattle.std.specs.Prelude.{All, IfErr, OnOk}
use Rattle.std.proofs.lemmas.List.{append-nil, length-append}
use Rattle.std.proofs.lemmas.Result.{on_ok_weaker}
use Rattle.grid.specs.Shape.{total}
use Rattle.chunk_claims.specs.Claims.{past_weight}
use Rattle.block_tag.specs.declared.tag.Fork.{Fork}
use Rattle.block_tag.specs.Names.{tag_of_parts}
use Rattle.page_layout.specs.declared.scan.ScanTotals.{ScanTotals}
use Rattle.page_layout.specs.Scan.{IsWithin, no_totals}
use Rattle.segment_store.specs.Contents.{Pages}
use Rattle.text_window.specs.declared.shares.Shares.{Shares}
use Rattle.text_window.specs.Shares.{HoldsParts, KeepsParts}
use Rattle.text_window.specs.Texts.{Job}
use Rattle.io_counts.specs.Found.{FoundMore}
use Rattle.backend_pass.specs.declared.manager.Manager.{Manager}
use Rattle.backend_pass.specs.Passes.{PassState}
use Rattle.block_tag.specs.declared.tag.Tag.{Tag}
use Rattle.page_jobs.specs.declared.job_blocks.JobBlocks.{JobBlocks}
use Rattle.page_jobs.specs.declared.job_blocks.JobBlocks.TheVariants as those
use Rattle.page_jobs.specs.declared.ending.JobError.{JobError}
use Rattle.page_jobs.specs.declared.ending.JobError.TheVariants.{Memory}
use Rattle.page_jobs.specs.declared.listing.Lister.{Lister}
use Rattle.page_jobs.specs.declared.printing.Lines.{Lines}
use Rattle.page_jobs.specs.declared.working.Worker.{Worker}
use Rattle.page_jobs.specs.Blocks.{blocks_from}
use Rattle.page_jobs.specs.Chunks.{Ascend, Claimed, CoversAll, blocks_in_all, blocks_of, chunk_count, chunk_size, chunk_start}
use Rattle.page_jobs.specs.ChunkTexts.{ClosesText, IsChunkText, OpensBlocks, OpensText}
use Rattle.page_jobs.specs.JobBlocks.{DoesAt, count_in}
use Rattle.page_jobs.specs.Dealt.{HaveDone}
use Rattle.page_jobs.specs.Jobs.{HaveNoTokens, ReadsChunks}
use Rattle.page_jobs.specs.Parts.{AllReads, AreKnown, EndsFor, ListsBlocks, blocks_in}
use Rattle.page_jobs.specs.Printed.{BlockRead, reads_lines, reads_totals}
use Rattle.backend_pass.specs.Between.{HasNoTokens}
use Rattle.page_jobs.specs.Reads.{IsKnown, IsWithinFront}
use Rattle.page_jobs.specs.Working.{DoesBlocks, DoesChunk, DoesChunks, EndsAfter, FailsAtBlock, IsAtEnd, WorksChunk, WorksChunks}
use Rattle.page_jobs.proofs.Ascending.{ascend_front}
use Rattle.page_jobs.proofs.BlockWork.{HasListed, all_short, listed, listed_none, listed_on, listed_short, listed_whole, lists_none, lists_on, lists_wider, totals_long}
use Rattle.page_jobs.proofs.ClaimedChunks.{IsOfDrawn, blocks_apart, blocks_more, chunks_below, drawn_few, drawn_none, drawn_to_end, drawn_to_fault, drew_past}
use Rattle.page_jobs.proofs.Sums.{sum_none, within_none}

-- the blocks up to one, and those after it
blocks_until : (from many size : ℕ) → many < size → blocks_from from size ≡ (blocks_from from many ++ (from + many) ∷ []) ++ blocks_from (from + many + 1) (size - many - 1)
blocks_until from many size below =
    let all : size ≡ many + suc (size - many - 1) = omega (arith, below) in
    ap (λ (j : ℕ). blocks_from from j) all
    ∙ blocks_apart from many (suc (size - many - 1))
    ∙ sym (append_assoc (blocks_from from many) ((from + many) ∷ []) (blocks_from (from + many + 1) (size - many - 1)))

-- what holds of an end that is well
done_both : {E : Type 0} (A B : Type 0) (end : Result Unit E) → OnOk end A → OnOk end B → OnOk end (A × B)
done_both A B (Ok done) a b = (a, b)
done_both A B (Err e) a b = tt

-- how a lister begins
abbrev pub lister_begins : {N A : Type 0} → Lines → Lister N A → Type 0
lister_begins lines k = (k.lines ≡ lines) × (k.printed.text.items ≡ []) × (k.printed.totals ≡ no_totals) × HoldsParts 1 k.shares

-- what it does at the end of a chunk
abbrev pub closes_text : {N A : Type 0} → ℕ → ℕ → PassState → Lister N A → Lister N A → Result Unit JobError → Type 0
closes_text base chunk q k l end = ClosesText base q.view.front k l end

module _ {N A : Type 0} (base : ℕ) where
  -- The parts of the shares are as they were, and so is what was counted as past the base, if this front isn't past it
  record KeepsShares (front : ℕ) (s t : Shares N A) : Type 0 where
    pub parts : KeepsParts s t
    pub above : front ≤ base → t.above.amount ≡ s.above.amount

  keeps_none : (front : ℕ) (s : Shares N A) → KeepsShares front s s
  keeps_none front s = record { parts = (refl, refl); above = λ low. refl }

  keeps_on : (first last : ℕ) (s t u : Shares N A) → first ≤ last → KeepsShares first s t → KeepsShares last t u → KeepsShares last s u
  keeps_on first last s t u later a b = record {
    parts = (b.parts.0 ∙ a.parts.0, b.parts.1 ∙ a.parts.1);
    above = λ low. b.above low ∙ a.above (omega (arith, later, low));
  }

  keeps_closed : (front : ℕ) (s : Shares N A) (k l : Lister N A) (end : Result Unit JobError) → k.shares ≡ s → ClosesText base front k l end → KeepsShares front s l.shares
  keeps_closed front s k l end same c = subst (λ (x : Shares N A). KeepsShares front x l.shares) same record { parts = c.parts; above = c.above }

  -- There is one part of each share, and nothing is counted as past the base, if this front isn't past it
  record HoldsOne (front : ℕ) (s : Shares N A) : Type 0 where
    pub parts : (s.delivered.parts ≡ 1) × (s.above.parts ≡ 1)
    pub above : front ≤ base → s.above.amount ≡ 0

  holds_first : (front : ℕ) (s t : Shares N A) → HoldsParts 1 s → KeepsShares front s t → HoldsOne front t
  holds_first front s t h k = record { parts = (k.parts.0 ∙ h.parts.0, k.parts.1 ∙ h.parts.1); above = λ low. k.above low ∙ h.amounts.1 }

  holds_on : (first last : ℕ) (s t : Shares N A) → first ≤ last → HoldsOne first s → KeepsShares last s t → HoldsOne last t
  holds_on first last s t later h k = record {
    parts = (k.parts.0 ∙ h.parts.0, k.parts.1 ∙ h.parts.1);
    above = λ low. k.above low ∙ h.above (omega (arith, later, low));
  }

module _ {L G : Type 0} (contents : L → Option Pages) (m : Manager L G) (rel : ℕ) (fork : Fork) where
  free_of : (bs : List ℕ) (p q : PassState) (rs ss : List BlockRead) (t u : ScanTotals) (end : Result Unit JobError) → HasListed contents m rel fork bs p q rs ss t u end → HasNoTokens contents m q
  free_of bs p q rs ss t u end d = record { belongs = d.stays.belongs; spent = d.spent }

module _ {L G N A : Type 0} (contents : L → Option Pages) (m : Manager L G) (rel : ℕ) (fork : Fork) where
  -- what a lister does with blocks, and with one
  abbrev pub lists_them : List ℕ → PassState → PassState → Lister N A → Lister N A → Result Unit JobError → Type 0
  lists_them blocks p q k l end =
      (l.lines ≡ k.lines) × (l.shares ≡ k.shares) × ListsBlocks contents m rel fork k.lines blocks p q k.printed.text.items l.printed.text.items k.printed.totals l.printed.totals end

  abbrev pub lists_block : ℕ → PassState → PassState → Lister N A → Lister N A → Result Unit JobError → Type 0
  lists_block block p q k l end = lists_them (block ∷ []) p q k l end

  -- some blocks after the others
  then_lists : (bs cs : List ℕ) (p q r : PassState) (k l i : Lister N A) (end : Result Unit JobError) → lists_them bs p q k l (Ok tt) → lists_them cs q r l i end → lists_them (bs ++ cs) p r k i end
  then_lists bs cs p q r k l i end a b = (
    b.0 ∙ a.0,
    b.1 ∙ a.1,
    lists_on contents m rel fork k.lines bs cs p q r k.printed.text.items l.printed.text.items i.printed.text.items k.printed.totals l.printed.totals i.printed.totals end a.2
        (subst (λ (x : Lines). ListsBlocks contents m rel fork x cs q r l.printed.text.items i.printed.text.items l.printed.totals i.printed.totals end) a.0 b.2),
  )

  lists_all : (bs : List ℕ) (p q : PassState) (k l : Lister N A) → DoesBlocks lists_block bs p q k l → HasNoTokens contents m p → IsWithin k.printed.totals k.printed.totals.blocks
      → lists_them bs p q k l (Ok tt)
  lists_all [] p q k l did free within =
      subst (λ (x : PassState). lists_them [] p x k l (Ok tt)) (sym did.0)
      (subst (λ (j : Lister N A). lists_them [] p p k j (Ok tt)) (sym did.1) (refl, refl, lists_none contents m rel fork k.lines p k.printed.text.items k.printed.totals free within))
  lists_all (b ∷ bs) p q k l did free within =
      let r = did.0 in
      let i = did.1 in
      let one : lists_them (b ∷ []) p r k i (Ok tt) = did.2 in
      then_lists (b ∷ []) bs p r q k i l (Ok tt) one (lists_all bs r q i l did.3 record { belongs = one.2.stays.belongs; spent = one.2.spent } one.2.counts)

  -- the task failed at a block of a chunk
  lists_failed : (n chunk : ℕ) (p q : PassState) (k l : Lister N A) (e : JobError) → HasNoTokens contents m p → IsWithin k.printed.totals k.printed.totals.blocks
      → FailsAtBlock lists_block n chunk p q k l e → lists_them (blocks_of n chunk) p q k l (Err e)
  lists_failed n chunk p q k l e free within f =
      let from = chunk_start chunk in
      let bs = blocks_from from f.many in
      let rest = blocks_from (from + f.many + 1) (chunk_size n chunk - f.many - 1) in
      let last : lists_them ((from + f.many) ∷ []) f.pass q f.task l (Err e) = f.fails in
      let on = then_lists bs ((from + f.many) ∷ []) p f.pass q k f.task l (Err e) (lists_all bs p f.pass k f.task f.before free within) last in (
        on.0,
        on.1,
        subst (λ (x : List ℕ). ListsBlocks contents m rel fork k.lines x p q k.printed.text.items l.printed.text.items k.printed.totals l.printed.totals (Err e)) (sym (blocks_until from f.many (chunk_size n chunk) f.within))
            (lists_wider contents m rel fork k.lines (bs ++ (from + f.many) ∷ []) rest p q k.printed.text.items l.printed.text.items k.printed.totals l.printed.totals e on.2),
      )

  -- what the text of a chunk is whose blocks were all dealt with
  pub chunk_text_is : (texts : ℕ → ℕ → List ℕ → Type 0) (job : Job) (chunk : ℕ) (q : PassState) (l : Lister N A)
      → (a : IsAtEnd lists_block (HasNoTokens contents m) (OpensText contents m rel fork texts job) (blocks_in m rel fork) chunk q l)
      → IsChunkText contents m rel fork a.task.lines q.view.front chunk l.printed.text.items × lists_them (blocks_of (blocks_in m rel fork) chunk) a.pass q a.task l (Ok tt)
  chunk_text_is texts job chunk q l a =
      let bs = blocks_of (blocks_in m rel fork) chunk in
      let all = lists_all bs a.pass q a.task l a.blocks a.free_then a.opened.counts in
      let h = listed_whole contents m rel fork bs a.pass q all.2.printed all.2.unprinted a.task.printed.totals l.printed.totals
      (listed contents m rel fork a.task.lines bs a.pass q a.task.printed.text.items l.printed.text.items a.task.printed.totals l.printed.totals (Ok tt) all.2) in
      let same : all.2.printed ++ [] ≡ all.2.printed = append-nil all.2.printed in (
        record {
          reads = all.2.printed;
          whole = h.done.1;
          known = subst (AreKnown contents m rel fork bs) same h.known;
          places = subst (AllReads (λ b r. IsWithinFront q.view.front r) bs) same h.places;
          lines_are = all.2.text_is ∙ ap (λ (t : List ℕ). t ++ reads_lines a.task.lines bs all.2.printed) a.opened.none;
        },
        all,
      )

  -- and then it can begin the next one, once that is delivered
  module _ (texts : ℕ → ℕ → List ℕ → Type 0) (job : Job) (chunk : ℕ) (q : PassState) (k : Lister N A)
      (a : IsAtEnd lists_block (HasNoTokens contents m) (OpensText contents m rel fork texts job) (blocks_in m rel fork) chunk q k) where
    pub parts_at_end : (0 < k.shares.delivered.parts) × (0 < k.shares.above.parts)
    parts_at_end = subst (λ (s : Shares N A). (0 < s.delivered.parts) × (0 < s.above.parts)) (sym (chunk_text_is texts job chunk q k a).1.1) a.opened.parts

    pub opens_next : (l : Lister N A) → l.lines ≡ k.lines → l.printed.text.items ≡ [] → l.printed.totals ≡ k.printed.totals → KeepsParts k.shares l.shares → OpensText contents m rel fork texts job l
    opens_next l lines none totals parts =
        let all = (chunk_text_is texts job chunk q k a).1 in
        let some = parts_at_end in
        record {
          none = none;
          counts = subst (λ (t : ScanTotals). IsWithin t t.blocks) (sym totals) all.2.counts;
          parts = (omega (arith, parts.0, some.0), omega (arith, parts.1, some.1));
          chunks = a.opened.chunks;
          takes = λ place n text is. a.opened.takes place n text (subst (λ (x : Lines). IsChunkText contents m rel fork x place n text) (lines ∙ all.0) is);
        }

  -- A chunk was read to its end, and its text delivered
  record ClosesChunk (base n chunk : ℕ) (p q : PassState) (k l : Lister N A) : Type 0 where
    pub reads : List BlockRead
    pub shares : KeepsShares base q.view.front k.shares l.shares
    pub delivered : l.shares.delivered.amount ≡ k.shares.delivered.amount + 1
    pub listed : HasListed contents m rel fork (blocks_of n chunk) p q reads [] k.printed.totals l.printed.totals (Ok tt)

  closes_chunk : (base n chunk : ℕ) (p q : PassState) (k l : Lister N A) → HasNoTokens contents m p → IsWithin k.printed.totals k.printed.totals.blocks
      → DoesChunk lists_block (closes_text base) n chunk p q k l (Ok tt) → ClosesChunk base n chunk p q k l
  closes_chunk base n chunk p q k l free within d =
      let bs = blocks_of n chunk in
      let all = lists_all bs p q k d.task d.blocks free within in
      let s = d.ends in
      let h = listed_whole contents m rel fork bs p q all.2.printed all.2.unprinted k.printed.totals d.task.printed.totals
      (listed contents m rel fork k.lines bs p q k.printed.text.items d.task.printed.text.items k.printed.totals d.task.printed.totals (Ok tt) all.2) in
      record {
        reads = all.2.printed;
        shares = keeps_closed base q.view.front k.shares d.task l (Ok tt) all.1 s;
        delivered = s.delivered ∙ ap (λ (x : Shares N A). x.delivered.amount + 1) all.1;
        listed = subst (λ (t : ScanTotals). HasListed contents m rel fork bs p q all.2.printed [] k.printed.totals t (Ok tt)) (sym s.totals) h;
      }

  -- So were these chunks, one after the other
  record ListsChunks (base n : ℕ) (cs : List ℕ) (p q : PassState) (k l : Lister N A) : Type 0 where
    pub reads : List BlockRead
    pub shares : KeepsShares base q.view.front k.shares l.shares
    pub delivered : l.shares.delivered.amount ≡ k.shares.delivered.amount + length cs
    pub listed : HasListed contents m rel fork (blocks_in_all n cs) p q reads [] k.printed.totals l.printed.totals (Ok tt)

  lists_no_chunk : (base n : ℕ) (p : PassState) (k : Lister N A) → HasNoTokens contents m p → IsWithin k.printed.totals k.printed.totals.blocks → ListsChunks base n [] p p k k
  lists_no_chunk base n p k free within = record {
    reads = [];
    shares = keeps_none base p.view.front k.shares;
    delivered = sym (add-zero k.shares.delivered.amount);
    listed = listed_none contents m rel fork p k.printed.totals free within;
  }

  then_chunks : (base n c : ℕ) (cs : List ℕ) (p r q : PassState) (k i l : Lister N A) → ClosesChunk base n c p r k i → ListsChunks base n cs r q i l → ListsChunks base n (c ∷ cs) p q k l
  then_chunks base n c cs p r q k i l one rest = record {
    reads = one.reads ++ rest.reads;
    shares = keeps_on base r.view.front q.view.front k.shares i.shares l.shares rest.listed.stays.front one.shares rest.shares;
    delivered = let first = one.delivered in let others = rest.delivered in omega (arith, first, others);
    listed = listed_on contents m rel fork (blocks_of n c) (blocks_in_all n cs) p r q one.reads rest.reads [] k.printed.totals i.printed.totals l.printed.totals (Ok tt) one.listed rest.listed;
  }

  lists_chunks : (base n : ℕ) (cs : List ℕ) (p q : PassState) (k l : Lister N A) → HasNoTokens contents m p → IsWithin k.printed.totals k.printed.totals.blocks
      → DoesChunks lists_block (closes_text base) n cs p q k l → ListsChunks base n cs p q k l
  lists_chunks base n [] p q k l free within did =
      subst (λ (x : PassState). ListsChunks base n [] p x k l) (sym did.0) (subst (λ (j : Lister N A). ListsChunks base n [] p p k j) (sym did.1) (lists_no_chunk base n p k free within))
  lists_chunks base n (c ∷ cs) p q k l free within did =
      let r = did.0 in
      let i = did.1 in
      let one = closes_chunk base n c p r k i free within did.3 in
      then_chunks base n c cs p r q k i l one
      (lists_chunks base n cs r q i l (free_of contents m rel fork (blocks_of n c) p r one.reads [] k.printed.totals i.printed.totals (Ok tt) one.listed) one.listed.counts did.4)

  -- A chunk was begun, and its text wasn't delivered
  record EndsChunk (base n chunk : ℕ) (p q : PassState) (k l : Lister N A) (e : JobError) : Type 0 where
    pub printed : List BlockRead
    pub unprinted : List BlockRead
    pub shares : KeepsShares base q.view.front k.shares l.shares
    pub listed : HasListed contents m rel fork (blocks_of n chunk) p q printed unprinted k.printed.totals l.printed.totals (Err e)

  ends_chunk : (base n chunk : ℕ) (p q : PassState) (k l : Lister N A) (e : JobError) → HasNoTokens contents m p → IsWithin k.printed.totals k.printed.totals.blocks
      → WorksChunk lists_block (closes_text base) n chunk p q k l (Err e) → EndsChunk base n chunk p q k l e
  ends_chunk base n chunk p q k l e free within (inl f) =
      let d = lists_failed n chunk p q k l e free within f in record {
        printed = d.2.printed;
        unprinted = d.2.unprinted;
        shares = subst (λ (x : Shares N A). KeepsShares base q.view.front x l.shares) d.1 (keeps_none base q.view.front l.shares);
        listed = listed contents m rel fork k.lines (blocks_of n chunk) p q k.printed.text.items l.printed.text.items k.printed.totals l.printed.totals (Err e) d.2;
      }
  ends_chunk base n chunk p q k l e free within (inr d) =
      let bs = blocks_of n chunk in
      let all = lists_all bs p q k d.task d.blocks free within in
      let s = d.ends in
      let h = listed_short contents m rel fork bs p q all.2.printed all.2.unprinted k.printed.totals d.task.printed.totals
      (listed contents m rel fork k.lines bs p q k.printed.text.items d.task.printed.text.items k.printed.totals d.task.printed.totals (Ok tt) all.2) in
      record {
        printed = all.2.printed;
        unprinted = all.2.unprinted;
        shares = keeps_closed base q.view.front k.shares d.task l (Err e) all.1 s;
        listed = subst (λ (x : JobError). HasListed contents m rel fork bs p q all.2.printed all.2.unprinted k.printed.totals l.printed.totals (Err x)) (sym s.delivered)
            (subst (λ (t : ScanTotals). HasListed contents m rel fork bs p q all.2.printed all.2.unprinted k.printed.totals t (Err Memory)) (sym s.totals) h);
      }

  -- What a worker of a scan or a dump did with the chunks that it claimed, and what it has to show for it
  pub record ListsClaims (base : ℕ) (lines : Lines) (drawn : List ℕ) (p q : PassState) (l : Lister N A) (end : Result Unit JobError) (c : Claimed BlockRead) : Type 0 where
    pub reads : ReadsChunks contents m rel fork c p q
    pub drew : IsOfDrawn (blocks_in m rel fork) c.chunks drawn
    pub few_blocks : length (blocks_in_all (blocks_in m rel fork) c.chunks) ≤ blocks_in m rel fork
    pub counts : IsWithin l.printed.totals l.printed.totals.blocks
    pub few : l.printed.totals.blocks ≤ length c.items
    pub done : OnOk end ((CoversAll (blocks_in m rel fork) c × (l.printed.totals ≡ reads_totals c.items) × (q.view.met ≡ p.view.met)) × (1 ≤ total (past_weight (chunk_count (blocks_in m rel fork))) drawn))
    pub found : OnOk end (FoundMore (length (blocks_in_all (blocks_in m rel fork) c.chunks)) p.io q.io)
    pub cause : IfErr end (EndsFor contents m rel fork p q)
    pub parts : (l.shares.delivered.parts ≡ 1) × (l.shares.above.parts ≡ 1)
    pub above : q.view.front ≤ base → l.shares.above.amount ≡ 0
    pub delivered : OnOk end (l.shares.delivered.amount ≡ length c.chunks)

  -- What it read, chunk by chunk, and delivered
  record HasCourse (base : ℕ) (cs : List ℕ) (p q : PassState) (rs ss : List BlockRead) (l : Lister N A) (end : Result Unit JobError) : Type 0 where
    pub listed : HasListed contents m rel fork (blocks_in_all (blocks_in m rel fork) cs) p q rs ss no_totals l.printed.totals end
    pub shares : HoldsOne base q.view.front l.shares
    pub delivered : OnOk end (l.shares.delivered.amount ≡ length cs)

  claims_of : (base : ℕ) (lines : Lines) (drawn : List ℕ) (p q : PassState) (l : Lister N A) (end : Result Unit JobError) (cs whole last : List ℕ) (rs ss : List BlockRead)
      → HasCourse base cs p q rs ss l end → Ascend cs → cs ≡ whole ++ last → length last ≤ 1
      → length (blocks_in_all (blocks_in m rel fork) whole) ≤ length (rs ++ ss) → IsOfDrawn (blocks_in m rel fork) cs drawn
      → total (chunk_size (blocks_in m rel fork)) drawn ≤ blocks_in m rel fork → OnOk end (1 ≤ total (past_weight (chunk_count (blocks_in m rel fork))) drawn)
      → ListsClaims base lines drawn p q l end record { chunks = cs; items = rs ++ ss }
  claims_of base lines drawn p q l end cs whole last rs ss h up split one covered drew few past =
      let blocks = blocks_in m rel fork in
      let d = h.listed in
      let long = length-append rs ss in
      let totals : l.printed.totals ≡ reads_totals rs = d.totals_is ∙ sum_none (reads_totals rs) in
      let c : Claimed BlockRead = record { chunks = cs; items = rs ++ ss } in
      record {
        reads = record {
          stays = d.stays;
          spent = d.spent;
          calls = d.calls;
          known = d.known;
          places = d.places;
          covers = record {
            whole = whole;
            last = last;
            ascend = up;
            split = split;
            at_most_one = one;
            covered = covered;
            within = all_short (λ b r. IsKnown contents m (tag_of_parts rel fork b) r) (blocks_in_all blocks cs) (rs ++ ss) d.known;
          };
        };
        drew = drew;
        few_blocks = drawn_few blocks cs drawn drew few;
        counts = d.counts;
        few = let t = ap (λ (u : ScanTotals). u.blocks) totals ∙ totals_long rs in omega (arith, t, long);
        done = done_both (CoversAll blocks c × (l.printed.totals ≡ reads_totals (rs ++ ss)) × (q.view.met ≡ p.view.met)) (1 ≤ total (past_weight (chunk_count blocks)) drawn) end
            (on_ok_weaker end (λ x. let all : rs ++ ss ≡ rs = ap (λ (s : List BlockRead). rs ++ s) x.0 ∙ append-nil rs in (ap (λ (s : List BlockRead). length s) all ∙ x.1, totals ∙ ap reads_totals (sym all), x.2)) d.done) past;
        found = d.found;
        cause = d.cause;
        parts = h.shares.parts;
        above = h.shares.above;
        delivered = h.delivered;
      }

  -- A worker that begins, and has read these chunks to their end, and delivered their texts
  record HasBegun (base : ℕ) (cs : List ℕ) (p q : PassState) (l : Lister N A) : Type 0 where
    pub reads : List BlockRead
    pub listed : HasListed contents m rel fork (blocks_in_all (blocks_in m rel fork) cs) p q reads [] no_totals l.printed.totals (Ok tt)
    pub shares : HoldsOne base q.view.front l.shares
    pub delivered : l.shares.delivered.amount ≡ length cs
    pub free : HasNoTokens contents m q

  has_begun : (base : ℕ) (lines : Lines) (cs : List ℕ) (p q : PassState) (k l : Lister N A) → lister_begins lines k → HasNoTokens contents m p
      → DoesChunks lists_block (closes_text base) (blocks_in m rel fork) cs p q k l → HasBegun base cs p q l
  has_begun base lines cs p q k l b free did =
      let bs = blocks_in_all (blocks_in m rel fork) cs in
      let h = lists_chunks base (blocks_in m rel fork) cs p q k l free (within_none k.printed.totals b.2) did in
      record {
        reads = h.reads;
        listed = subst (λ (t : ScanTotals). HasListed contents m rel fork bs p q h.reads [] t l.printed.totals (Ok tt)) b.2 h.listed;
        shares = holds_first base q.view.front k.shares l.shares b.3 h.shares;
        delivered = let more = h.delivered in let none = b.3.amounts.0 in omega (arith, more, none);
        free = free_of contents m rel fork bs p q h.reads [] k.printed.totals l.printed.totals (Ok tt) h.listed;
      }

  -- The chunks that a worker claimed
  record HasClaims (base : ℕ) (lines : Lines) (drawn : List ℕ) (p q : PassState) (l : Lister N A) (end : Result Unit JobError) : Type 0 where
    pub claimed : Claimed BlockRead
    pub lists : ListsClaims base lines drawn p q l end claimed

  -- no chunk was left, or there was no memory to begin with
  ends_between : (base : ℕ) (lines : Lines) (drawn cs : List ℕ) (p q : PassState) (l : Lister N A) (end : Result Unit JobError) (h : HasBegun base cs p q l)
      → HasListed contents m rel fork (blocks_in_all (blocks_in m rel fork) cs) p q h.reads [] no_totals l.printed.totals end
      → OnOk end (l.shares.delivered.amount ≡ length cs) → Ascend cs → IsOfDrawn (blocks_in m rel fork) cs drawn → total (chunk_size (blocks_in m rel fork)) drawn ≤ blocks_in m rel fork
      → OnOk end (1 ≤ total (past_weight (chunk_count (blocks_in m rel fork))) drawn)
      → HasClaims base lines drawn p q l end
  ends_between base lines drawn cs p q l end h listed delivered up drew few past = record {
    claimed = record { chunks = cs; items = h.reads ++ [] };
    lists = claims_of base lines drawn p q l end cs cs [] h.reads [] record { listed = listed; shares = h.shares; delivered = delivered }
        up (sym (append-nil cs)) (omega arith) (let e = h.listed.done.1 in let a = length-append h.reads [] in omega (arith, e, a)) drew few past;
  }

  ends_within : (base : ℕ) (lines : Lines) (drawn cs : List ℕ) (chunk : ℕ) (p r q : PassState) (k l : Lister N A) (e : JobError) → HasBegun base cs p r k
      → EndsChunk base (blocks_in m rel fork) chunk r q k l e
      → Ascend (cs ++ chunk ∷ []) → IsOfDrawn (blocks_in m rel fork) (cs ++ chunk ∷ []) drawn → total (chunk_size (blocks_in m rel fork)) drawn ≤ blocks_in m rel fork
      → HasClaims base lines drawn p q l (Err e)
  ends_within base lines drawn cs chunk p r q k l e h x up drew few =
      let blocks = blocks_in m rel fork in
      let ds = cs ++ chunk ∷ [] in
      let rs = h.reads ++ x.printed in
      record {
        claimed = record { chunks = ds; items = rs ++ x.unprinted };
        lists = claims_of base lines drawn p q l (Err e) ds cs (chunk ∷ []) rs x.unprinted
            record {
              listed = subst (λ (bs : List ℕ). HasListed contents m rel fork bs p q rs x.unprinted no_totals l.printed.totals (Err e)) (sym (blocks_more blocks cs chunk))
                  (listed_on contents m rel fork (blocks_in_all blocks cs) (blocks_of blocks chunk) p r q h.reads x.printed x.unprinted no_totals k.printed.totals l.printed.totals (Err e) h.listed x.listed);
              shares = holds_on base r.view.front q.view.front k.shares l.shares x.listed.stays.front h.shares x.shares;
              delivered = tt;
            }
            up refl (omega arith) (let a = h.listed.done.1 in let b = length-append h.reads x.printed in let c = length-append rs x.unprinted in omega (arith, a, b, c)) drew few tt;
      }

  module _ (base : ℕ) (lines : Lines) (drawn cs : List ℕ) (p r q : PassState) (k l : Lister N A) (h : HasBegun base cs p r k)
      (below : All (λ c. c < chunk_count (blocks_in m rel fork)) cs) (up : Ascend drawn) (few : total (chunk_size (blocks_in m rel fork)) drawn ≤ blocks_in m rel fork) where
    lists_ended : (end : Result Unit JobError) → EndsAfter lists_block (closes_text base) (blocks_in m rel fork) cs drawn r q k l end → HasClaims base lines drawn p q l end
    lists_ended (Ok done) ends =
        let blocks = blocks_in m rel fork in
        let past = ends.0.0 in
        let is : drawn ≡ cs ++ past ∷ [] = ends.0.2 in
        subst (λ (x : PassState). HasClaims base lines drawn p x l (Ok tt)) (sym ends.1) (subst (λ (j : Lister N A). HasClaims base lines drawn p r j (Ok tt)) (sym ends.2)
        (ends_between base lines drawn cs p r k (Ok tt) h h.listed h.delivered (ascend_front cs (past ∷ []) (subst Ascend is up)) (subst (IsOfDrawn blocks cs) (sym is) (drawn_to_end blocks past cs below ends.0.1)) few
        (subst (λ (d : List ℕ). 1 ≤ total (past_weight (chunk_count blocks)) d) (sym is) (drew_past blocks past cs ends.0.1))))
    lists_ended (Err e) (inl short) =
        let blocks = blocks_in m rel fork in
        let none : IsOfDrawn blocks cs drawn = subst (λ (c : List ℕ). IsOfDrawn blocks c drawn) (sym short.2) (subst (IsOfDrawn blocks []) (sym short.1) (drawn_none blocks)) in
        subst (λ (x : JobError). HasClaims base lines drawn p q l (Err x)) (sym short.0)
        (subst (λ (x : PassState). HasClaims base lines drawn p x l (Err Memory)) (sym short.3) (subst (λ (j : Lister N A). HasClaims base lines drawn p r j (Err Memory)) (sym short.4)
        (ends_between base lines drawn cs p r k (Err Memory) h (listed_short contents m rel fork (blocks_in_all blocks cs) p r h.reads [] no_totals k.printed.totals h.listed) tt (subst Ascend (sym short.2) tt) none few tt)))
    lists_ended (Err e) (inr failed) =
        let blocks = blocks_in m rel fork in
        let chunk = failed.0 in
        ends_within base lines drawn cs chunk p r q k l e h (ends_chunk base blocks chunk r q k l e h.free h.listed.counts failed.3) (subst Ascend failed.2 up)
        (subst (IsOfDrawn blocks (cs ++ chunk ∷ [])) (sym failed.2) (drawn_to_fault blocks chunk cs below failed.1)) few

  lists_claims : (base : ℕ) (lines : Lines) (drawn : List ℕ) (p q : PassState) (k l : Lister N A) (end : Result Unit JobError) → lister_begins lines k → HasNoTokens contents m p
      → WorksChunks lists_block (closes_text base) (blocks_in m rel fork) drawn p q k l end → HasClaims base lines drawn p q l end
  lists_claims base lines drawn p q k l end b free w =
      let blocks = blocks_in m rel fork in
      lists_ended base lines drawn w.whole p w.pass q w.task l (has_begun base lines w.whole p w.pass k w.task b free w.does_them)
      (chunks_below lists_block (closes_text base) blocks w.whole p w.pass k w.task w.does_them) w.ascend w.few end w.ends

  -- what the workers that the passes became did with the chunks that they claimed
  abbrev pub DoLists : ℕ → Lines → List PassState → List (Worker (Lister N A)) → List (Claimed BlockRead) → Type 0
  DoLists base lines [] [] [] = Unit {0}
  DoLists base lines (p ∷ ps) (x ∷ xs) (c ∷ cs) = ListsClaims base lines x.seat.me.0.drawn p x.pass x.task x.end c × DoLists base lines ps xs cs
  DoLists base lines ps xs cs = ⊥

  pub record HaveLists (base : ℕ) (lines : Lines) (ps : List PassState) (xs : List (Worker (Lister N A))) : Type 0 where
    pub claimed : List (Claimed BlockRead)
    pub lists : DoLists base lines ps xs claimed

  pub do_lists : (base : ℕ) (lines : Lines) (ps : List PassState) (xs : List (Worker (Lister N A))) → HaveNoTokens contents m ps
      → HaveDone (lister_begins lines) lists_block (closes_text base) (blocks_in m rel fork) ps xs → HaveLists base lines ps xs
  do_lists base lines [] [] free d = record { claimed = []; lists = tt }
  do_lists base lines [] (x ∷ xs) free d = absurd d
  do_lists base lines (p ∷ ps) [] free d = absurd d
  do_lists base lines (p ∷ ps) (x ∷ xs) free d =
      let one = lists_claims base lines x.seat.me.0.drawn p x.pass d.0.0 x.task x.end d.0.1 free.0 d.0.2 in
      let rest = do_lists base lines ps xs free.1 d.1 in
      record { claimed = one.claimed ∷ rest.claimed; lists = (one.lists, rest.lists) }

-- Whatever blocks a lister is given, they are those of a fork
module _ {L G N A : Type 0} (contents : L → Option Pages) (m : Manager L G) (texts : ℕ → ℕ → List ℕ → Type 0) (job : Job) (chunk : ℕ) (q : PassState) (k : Lister N A) where
  abbrev lists_tag : Tag → PassState → PassState → Lister N A → Lister N A → Result Unit JobError → Type 0
  lists_tag tag p r i l end = lists_block contents m tag.rel.0 tag.fork tag.block p r i l end

  abbrev IsListedAtEnd : JobBlocks → Type 0
  IsListedAtEnd blocks = IsAtEnd (DoesAt lists_tag blocks) (HasNoTokens contents m) (OpensBlocks contents m blocks texts job) (count_in m blocks) chunk q k

  pub is_job_chunk : (blocks : JobBlocks) → IsListedAtEnd blocks → chunk < chunk_count (count_in m blocks) → chunk < job.chunks
  is_job_chunk (those.Fork fork) a low = let chunks = a.opened.chunks in omega (arith, low, chunks)
  is_job_chunk (those.Tags tags) a low = absurd a.opened

  pub takes_text : (blocks : JobBlocks) (place : ℕ) → place ≡ q.view.front → IsListedAtEnd blocks → texts place chunk k.printed.text.items
  takes_text (those.Fork fork) place front a =
      let is = chunk_text_is contents m fork.rel.0 fork.fork texts job chunk q k a in
      a.opened.takes place chunk k.printed.text.items (subst (λ (x : ℕ). IsChunkText contents m fork.rel.0 fork.fork a.task.lines x chunk k.printed.text.items) (sym front) is.0)
  takes_text (those.Tags tags) place front a = absurd a.opened

  pub parts_then : (blocks : JobBlocks) → IsListedAtEnd blocks → (0 < k.shares.delivered.parts) × (0 < k.shares.above.parts)
  parts_then (those.Fork fork) a = parts_at_end contents m fork.rel.0 fork.fork texts job chunk q k a
  parts_then (those.Tags tags) a = absurd a.opened

  pub opens_then : (blocks : JobBlocks) → IsListedAtEnd blocks → (l : Lister N A) → l.lines ≡ k.lines → l.printed.text.items ≡ [] → l.printed.totals ≡ k.printed.totals → KeepsParts k.shares l.shares → OpensBlocks contents m blocks texts job l
  opens_then (those.Fork fork) a l lines none totals parts = opens_next contents m fork.rel.0 fork.fork texts job chunk q k a l lines none totals parts
  opens_then (those.Tags tags) a l lines none totals parts = absurd a.opened
