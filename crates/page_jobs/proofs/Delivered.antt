-- What the workers of a scan or a dump delivered, in all.
use Rattle.std.proofs.Common.{◌≡◌, ℕ, ◌<◌, List, [], ◌∷◌, length, map, Option, Result, refl, sym, ◌∙◌, subst, arith}
use Rattle.std.specs.Prelude.{OnOk}
use mathlib.Core.Option.{some}
use lib.ListN.{get_elem?}
use Rattle.grid.specs.Shape.{total}
use Rattle.chunk_claims.proofs.Weights.{sum_ones}
use Rattle.block_tag.specs.declared.tag.Fork.{Fork}
use Rattle.segment_store.specs.Contents.{Pages}
use Rattle.text_window.specs.Shares.{HoldsParts, IsMerged}
use Rattle.frame_table.specs.Seats.{base_of}
use Rattle.backend_pass.specs.declared.manager.Manager.{Manager}
use Rattle.backend_pass.specs.Passes.{PassState}
use Rattle.page_jobs.specs.declared.ending.JobError.{JobError}
use Rattle.page_jobs.specs.declared.listing.Lister.{Lister}
use Rattle.page_jobs.specs.declared.printing.Lines.{Lines}
use Rattle.page_jobs.specs.declared.working.Worker.{Worker}
use Rattle.page_jobs.specs.Chunks.{AreAllClaimed, Claimed, chunk_count}
use Rattle.page_jobs.specs.Dealt.{AllDone, HaveJoined, total_above, total_delivered}
use Rattle.page_jobs.specs.Jobs.{AllAtBase, HaveNoTokens, ReadParts}
use Rattle.page_jobs.specs.Parts.{blocks_in}
use Rattle.page_jobs.specs.Printed.{BlockRead}
use Rattle.page_jobs.proofs.ClaimedChunks.{total_ones}
use Rattle.page_jobs.proofs.ListedChunks.{DoLists}
use Rattle.table_rule.proofs.Opens.{there_at}

module _ {L G N A : Type 0} (contents : L → Option Pages) (m : Manager L G) (rel : ℕ) (fork : Fork) (base : ℕ) (lines : Lines) where
  -- All shares are back
  pub record HasBack (xs : List (Worker (Lister N A))) (l : Lister N A) : Type 0 where
    pub parts : (l.shares.delivered.parts ≡ length xs) × (l.shares.above.parts ≡ length xs)
    pub delivered : l.shares.delivered.amount ≡ total_delivered xs
    pub above : l.shares.above.amount ≡ total_above xs

  pub has_back : (ps : List PassState) (xs : List (Worker (Lister N A))) (cs : List (Claimed BlockRead)) (k l : Lister N A) → DoLists contents m rel fork base lines ps xs cs → HoldsParts 0 k.shares
      → HaveJoined (λ i o j. IsMerged i.shares o.shares j.shares) xs k l → HasBack xs l
  unfolding total
  has_back [] [] [] k l d none same = subst (λ (j : Lister N A). HasBack [] j) (sym same) record { parts = none.parts; delivered = none.amounts.0; above = none.amounts.1 }
  has_back (p ∷ ps) (x ∷ xs) (c ∷ cs) k l d none joined =
      let back = has_back ps xs cs k joined.0 d.1 none joined.1 in
      let merged = joined.2 in
      let one = d.0.parts in
      let parts = merged.parts in
      let amounts = merged.amounts in
      let rest = back.parts in
      let delivered = back.delivered in
      let above = back.above in
      record {
        parts = (omega (arith, parts.0, rest.0, one.0), omega (arith, parts.1, rest.1, one.1));
        delivered = omega (arith, amounts.0, delivered);
        above = omega (arith, amounts.1, above);
      }
  has_back ps xs cs k l d none joined = absurd d

  -- where all workers ended well, a text for each chunk that they claimed
  delivers_claimed : (ps : List PassState) (xs : List (Worker (Lister N A))) (cs : List (Claimed BlockRead)) → DoLists contents m rel fork base lines ps xs cs → AllDone xs
      → total_delivered xs ≡ total (λ (c : Claimed BlockRead). total (λ (chunk : ℕ). 1) c.chunks) cs
  unfolding total
  delivers_claimed [] [] [] d done = refl
  delivers_claimed (p ∷ ps) (x ∷ xs) (c ∷ cs) d done =
      let one : x.task.shares.delivered.amount ≡ length c.chunks = subst (λ (r : Result Unit JobError). OnOk r (x.task.shares.delivered.amount ≡ length c.chunks)) done.0 d.0.delivered in
      omega (arith, one, total_ones c.chunks, delivers_claimed ps xs cs d.1 done.1)
  delivers_claimed ps xs cs d done = absurd d

  pub all_delivered : (ps : List PassState) (xs : List (Worker (Lister N A))) (cs : List (Claimed BlockRead)) → DoLists contents m rel fork base lines ps xs cs → AllDone xs
      → AreAllClaimed (blocks_in m rel fork) cs → total_delivered xs ≡ chunk_count (blocks_in m rel fork)
  all_delivered ps xs cs d done all = delivers_claimed ps xs cs d done ∙ all (λ chunk. 1) ∙ sum_ones (chunk_count (blocks_in m rel fork))

  -- where no pass has seen more of the log than its base, nothing was read past it
  pub none_above : (ps : List PassState) (xs : List (Worker (Lister N A))) (cs : List (Claimed BlockRead)) → DoLists contents m rel fork base lines ps xs cs
      → AllAtBase base (map (λ (x : Worker (Lister N A)). x.pass) xs) → total_above xs ≡ 0
  unfolding total
  none_above [] [] [] d at = refl
  none_above (p ∷ ps) (x ∷ xs) (c ∷ cs) d at =
      let here = at.0 in
      let one : x.task.shares.above.amount ≡ 0 = d.0.above (omega (arith, here)) in
      omega (arith, one, none_above ps xs cs d.1 at.1)
  none_above ps xs cs d at = absurd d

-- the front of the first pass before a job was the log's base, if no pass has seen more of the log after it
pub first_at_base : {L G : Type 0} (contents : L → Option Pages) (m : Manager L G) (rel : ℕ) (fork : Fork) (ps qs : List PassState) (base : ℕ) → 0 < length ps → HaveNoTokens contents m ps
    → ReadParts contents m rel fork ps qs
    → ((p : PassState) → get_elem? ps 0 ≡ some p → base ≡ p.view.front) → AllAtBase (base_of m.table) qs → base ≡ base_of m.table
first_at_base contents m rel fork [] qs base many free parts first at = absurd (omega arith)
first_at_base contents m rel fork (p ∷ ps) [] base many free parts first at = let counted = parts.counted in absurd (omega (arith, counted))
first_at_base contents m rel fork (p ∷ ps) (q ∷ qs) base many free parts first at =
    let listed = parts.listed in
    let claimed = there_at parts.claimed 0 (omega (arith, listed)) in
    let rose = (parts.each 0 p q claimed.0 refl refl claimed.1).stays.front in
    let low = free.0.belongs.front.from_base in
    let here = at.0 in
    let is = first p refl in
    omega (arith, rose, low, here, is)
