-- What a worker reads and prints, block by block.
use Rattle.std.proofs.Common.{◌≡◌, ◌<◌, ◌≤◌, ℕ, suc, List, [], ◌∷◌, ◌++◌, length, Option, Result, Ok, Err, refl, sym, ap, ◌∙◌, subst, arith, append_assoc, inl, inr}
use Rattle.std.specs.Prelude.{IfErr, OnOk}
use Rattle.std.proofs.lemmas.List.{append-nil, length-append}
use Rattle.std.proofs.lemmas.Result.{IfErr-weaker, on_ok_weaker}
use Rattle.block_tag.specs.declared.tag.Fork.{Fork}
use Rattle.block_tag.specs.Names.{packed_tag, tag_of_parts}
use Rattle.page_layout.specs.declared.scan.ScanTotals.{ScanTotals}
use Rattle.page_layout.specs.declared.summary.PageSummary.{PageSummary}
use Rattle.page_layout.specs.Scan.{IsWithin, counted, sum_of_totals, totals_of_summaries}
use Rattle.page_layout.proofs.Sums.{counted-is}
use Rattle.segment_store.specs.Contents.{Pages}
use Rattle.pin_core.specs.declared.view.Call.{Call}
use Rattle.pin_core.specs.declared.view.Call.TheVariants.{Read}
use Rattle.pin_core.specs.declared.view.FailedCalls.{FailedCalls}
use Rattle.pin_core.specs.State.{Page}
use Rattle.frame_table.proofs.Rising.{rises_on}
use Rattle.io_counts.specs.Found.{FoundMore}
use Rattle.io_counts.proofs.Found.{found_none, found_on}
use Rattle.buffer_frames.specs.Tokens.{no_tokens}
use Rattle.backend_pass.specs.declared.manager.Manager.{Manager}
use Rattle.backend_pass.specs.Passes.{PassState}
use Rattle.backend_pass.specs.Reading.{met_read_refused}
use Rattle.page_jobs.specs.declared.ending.JobError.{JobError}
use Rattle.page_jobs.specs.declared.ending.JobError.TheVariants.{Memory}
use Rattle.page_jobs.specs.declared.printing.Lines.{Lines}
use Rattle.page_jobs.specs.declared.reading.PageRead.{PageRead}
use Rattle.page_jobs.specs.declared.reading.PageRead.TheVariants.{Sound, Unsound}
use Rattle.page_jobs.specs.Printed.{BlockRead, copied, unsound, found_lines, found_summary, read_lines, read_summary, reads_lines, reads_totals}
use Rattle.backend_pass.specs.Between.{HasNoTokens}
use Rattle.page_jobs.specs.Reads.{CopiesOrFindsUnsound, IsKnown, IsWithinFront, Stays, StopsAt, calls_of_reads}
use Rattle.page_jobs.specs.Parts.{AllReads, AreKnown, EndsFor, ListsBlocks, blocks_in}
use Rattle.page_jobs.proofs.Staying.{stays_none, stays_on}
use Rattle.page_jobs.proofs.Sums.{none_sum, reads_totals-append, sum_assoc}

pub totals_long : (rs : List BlockRead) → (reads_totals rs).blocks ≡ length rs
totals_long [] = refl
totals_long (r ∷ rs) = ap suc (totals_long rs)

pub all_short : (P : ℕ → BlockRead → Type 0) (bs : List ℕ) (rs : List BlockRead) → AllReads P bs rs → length rs ≤ length bs
all_short P bs [] a = omega arith
all_short P [] (r ∷ rs) a = absurd a
all_short P (b ∷ bs) (r ∷ rs) a = let few = all_short P bs rs a.1 in omega (arith, few)

pub all_append : (P : ℕ → BlockRead → Type 0) (bs cs : List ℕ) (rs ss : List BlockRead) → length rs ≡ length bs → AllReads P bs rs → AllReads P cs ss → AllReads P (bs ++ cs) (rs ++ ss)
all_append P [] cs [] ss e a b = b
all_append P (x ∷ bs) cs [] ss e a b = absurd (omega arith)
all_append P [] cs (r ∷ rs) ss e a b = absurd a
all_append P (x ∷ bs) cs (r ∷ rs) ss e a b = (a.0, all_append P bs cs rs ss (omega arith) a.1 b)

pub all_wider : (P : ℕ → BlockRead → Type 0) (bs cs : List ℕ) (rs : List BlockRead) → AllReads P bs rs → AllReads P (bs ++ cs) rs
all_wider P bs cs [] a = tt
all_wider P [] cs (r ∷ rs) a = absurd a
all_wider P (x ∷ bs) cs (r ∷ rs) a = (a.0, all_wider P bs cs rs a.1)

pub all_weaker : (P Q : ℕ → BlockRead → Type 0) (bs : List ℕ) (rs : List BlockRead) → ((b : ℕ) (r : BlockRead) → P b r → Q b r) → AllReads P bs rs → AllReads Q bs rs
all_weaker P Q bs [] f a = tt
all_weaker P Q [] (r ∷ rs) f a = absurd a
all_weaker P Q (x ∷ bs) (r ∷ rs) f a = (f x r a.0, all_weaker P Q bs rs f a.1)

pub calls-append : (backend rel : ℕ) (fork : Fork) (bs cs : List ℕ) (rs ss : List BlockRead) → length rs ≡ length bs
    → calls_of_reads backend rel fork (bs ++ cs) (rs ++ ss) ≡ calls_of_reads backend rel fork bs rs ++ calls_of_reads backend rel fork cs ss
calls-append backend rel fork [] cs [] ss e = refl
calls-append backend rel fork (x ∷ bs) cs [] ss e = absurd (omega arith)
calls-append backend rel fork [] cs (r ∷ rs) ss e = absurd (omega arith)
calls-append backend rel fork (x ∷ bs) cs (copied page place ∷ rs) ss e =
    ap (λ (l : List Call). Read backend (packed_tag (tag_of_parts rel fork x)) page place ∷ l) (calls-append backend rel fork bs cs rs ss (omega arith))
calls-append backend rel fork (x ∷ bs) cs (unsound ∷ rs) ss e = calls-append backend rel fork bs cs rs ss (omega arith)

pub calls-wider : (backend rel : ℕ) (fork : Fork) (bs cs : List ℕ) (rs : List BlockRead) → length rs ≤ length bs
    → calls_of_reads backend rel fork (bs ++ cs) rs ≡ calls_of_reads backend rel fork bs rs
calls-wider backend rel fork bs cs [] le = refl
calls-wider backend rel fork [] cs (r ∷ rs) le = absurd (omega arith)
calls-wider backend rel fork (x ∷ bs) cs (copied page place ∷ rs) le =
    ap (λ (l : List Call). Read backend (packed_tag (tag_of_parts rel fork x)) page place ∷ l) (calls-wider backend rel fork bs cs rs (omega arith))
calls-wider backend rel fork (x ∷ bs) cs (unsound ∷ rs) le = calls-wider backend rel fork bs cs rs (omega arith)

pub lines-append : (lines : Lines) (bs cs : List ℕ) (rs ss : List BlockRead) → length rs ≡ length bs → reads_lines lines (bs ++ cs) (rs ++ ss) ≡ reads_lines lines bs rs ++ reads_lines lines cs ss
lines-append lines [] cs [] ss e = refl
lines-append lines (x ∷ bs) cs [] ss e = absurd (omega arith)
lines-append lines [] cs (r ∷ rs) ss e = absurd (omega arith)
lines-append lines (x ∷ bs) cs (r ∷ rs) ss e =
    ap (λ (l : List ℕ). read_lines lines x r ++ l) (lines-append lines bs cs rs ss (omega arith))
    ∙ sym (append_assoc (read_lines lines x r) (reads_lines lines bs rs) (reads_lines lines cs ss))

pub lines-wider : (lines : Lines) (bs cs : List ℕ) (rs : List BlockRead) → length rs ≤ length bs → reads_lines lines (bs ++ cs) rs ≡ reads_lines lines bs rs
lines-wider lines bs cs [] le = refl
lines-wider lines [] cs (r ∷ rs) le = absurd (omega arith)
lines-wider lines (x ∷ bs) cs (r ∷ rs) le = ap (λ (l : List ℕ). read_lines lines x r ++ l) (lines-wider lines bs cs rs (omega arith))

pub within_front : (front later : ℕ) → front ≤ later → (b : ℕ) (r : BlockRead) → IsWithinFront front r → IsWithinFront later r
within_front front later le b (copied page place) w = omega arith
within_front front later le b unsound w = tt

calls_joined : (a b c : List Call) (n k rel : ℕ) (fork : Fork) (bs cs : List ℕ) (rs ss : List BlockRead) → k ≡ n → length rs ≡ length bs
    → b ≡ a ++ calls_of_reads n rel fork bs rs → c ≡ b ++ calls_of_reads k rel fork cs ss → c ≡ a ++ calls_of_reads n rel fork (bs ++ cs) (rs ++ ss)
calls_joined a b c n k rel fork bs cs rs ss number whole first second =
    second
    ∙ ap (λ (l : List Call). l ++ calls_of_reads k rel fork cs ss) first
    ∙ append_assoc a (calls_of_reads n rel fork bs rs) (calls_of_reads k rel fork cs ss)
    ∙ ap (λ (j : ℕ). a ++ (calls_of_reads n rel fork bs rs ++ calls_of_reads j rel fork cs ss)) number
    ∙ ap (λ (l : List Call). a ++ l) (sym (calls-append n rel fork bs cs rs ss whole))

texts_joined : (lines : Lines) (a b c : List ℕ) (bs cs : List ℕ) (rs ss : List BlockRead) → length rs ≡ length bs
    → b ≡ a ++ reads_lines lines bs rs → c ≡ b ++ reads_lines lines cs ss → c ≡ a ++ reads_lines lines (bs ++ cs) (rs ++ ss)
texts_joined lines a b c bs cs rs ss whole first second =
    second
    ∙ ap (λ (l : List ℕ). l ++ reads_lines lines cs ss) first
    ∙ append_assoc a (reads_lines lines bs rs) (reads_lines lines cs ss)
    ∙ ap (λ (l : List ℕ). a ++ l) (sym (lines-append lines bs cs rs ss whole))

totals_joined : (t u v : ScanTotals) (rs ss : List BlockRead) → u ≡ sum_of_totals t (reads_totals rs) → v ≡ sum_of_totals u (reads_totals ss) → v ≡ sum_of_totals t (reads_totals (rs ++ ss))
totals_joined t u v rs ss first second =
    second
    ∙ ap (λ (x : ScanTotals). sum_of_totals x (reads_totals ss)) first
    ∙ sum_assoc t (reads_totals rs) (reads_totals ss)
    ∙ ap (λ (x : ScanTotals). sum_of_totals t x) (sym (reads_totals-append rs ss))

module _ {L G : Type 0} (contents : L → Option Pages) (m : Manager L G) (rel : ℕ) (fork : Fork) where
  -- These blocks were read one after the other, or the first of them. The first reads were printed, and counted, and the others weren't
  pub record HasListed (blocks : List ℕ) (p q : PassState) (printed unprinted : List BlockRead) (t u : ScanTotals) (end : Result Unit JobError) : Type 0 where
    pub stays : Stays contents m p q
    pub spent : q.tokens ≡ no_tokens
    pub calls : q.view.calls ≡ p.view.calls ++ calls_of_reads p.view.number rel fork blocks (printed ++ unprinted)
    pub known : AreKnown contents m rel fork blocks (printed ++ unprinted)
    pub places : AllReads (λ b r. IsWithinFront q.view.front r) blocks (printed ++ unprinted)
    pub totals_is : u ≡ sum_of_totals t (reads_totals printed)
    pub counts : IsWithin u u.blocks
    pub done : OnOk end ((unprinted ≡ []) × (length printed ≡ length blocks) × (q.view.met ≡ p.view.met))
    pub found : OnOk end (FoundMore (length blocks) p.io q.io)
    pub cause : IfErr end (EndsFor contents m rel fork p q)

  pub listed : (lines : Lines) (bs : List ℕ) (p q : PassState) (text text' : List ℕ) (t u : ScanTotals) (end : Result Unit JobError) → (d : ListsBlocks contents m rel fork lines bs p q text text' t u end) → HasListed bs p q d.printed d.unprinted t u end
  listed lines bs p q text text' t u end d = record {
    stays = d.stays;
    spent = d.spent;
    calls = d.calls;
    known = d.known;
    places = d.places;
    totals_is = d.totals_is;
    counts = d.counts;
    done = d.done;
    found = d.found;
    cause = d.cause;
  }

  -- with the text that was printed
  pub lists_of : (lines : Lines) (bs : List ℕ) (p q : PassState) (rs ss : List BlockRead) (text text' : List ℕ) (t u : ScanTotals) (end : Result Unit JobError) → HasListed bs p q rs ss t u end → text' ≡ text ++ reads_lines lines bs rs
      → ListsBlocks contents m rel fork lines bs p q text text' t u end
  lists_of lines bs p q rs ss text text' t u end d is = record {
    stays = d.stays;
    spent = d.spent;
    printed = rs;
    unprinted = ss;
    calls = d.calls;
    known = d.known;
    places = d.places;
    text_is = is;
    totals_is = d.totals_is;
    counts = d.counts;
    done = d.done;
    found = d.found;
    cause = d.cause;
  }

  -- what all was read is printed
  pub listed_whole : (bs : List ℕ) (p q : PassState) (rs ss : List BlockRead) (t u : ScanTotals) → HasListed bs p q rs ss t u (Ok tt) → HasListed bs p q rs [] t u (Ok tt)
  listed_whole bs p q rs ss t u d = subst (λ (l : List BlockRead). HasListed bs p q rs l t u (Ok tt)) d.done.0 d

  -- nothing was read
  pub listed_none : (p : PassState) (t : ScanTotals) → HasNoTokens contents m p → IsWithin t t.blocks → HasListed [] p p [] [] t t (Ok tt)
  listed_none p t free within = record {
    stays = stays_none contents m p free.belongs;
    spent = free.spent;
    calls = sym (append-nil p.view.calls);
    known = tt;
    places = tt;
    totals_is = sym (none_sum t);
    counts = within;
    done = (refl, refl, refl);
    found = found_none p.io;
    cause = tt;
  }

  pub lists_none : (lines : Lines) (p : PassState) (text : List ℕ) (t : ScanTotals) → HasNoTokens contents m p → IsWithin t t.blocks → ListsBlocks contents m rel fork lines [] p p text text t t (Ok tt)
  lists_none lines p text t free within = lists_of lines [] p p [] [] text text t t (Ok tt) (listed_none p t free within) (sym (append-nil text))

  -- and then there was no memory
  pub listed_short : (bs : List ℕ) (p q : PassState) (rs ss : List BlockRead) (t u : ScanTotals) → HasListed bs p q rs ss t u (Ok tt) → HasListed bs p q rs ss t u (Err Memory)
  listed_short bs p q rs ss t u d = record {
    stays = d.stays;
    spent = d.spent;
    calls = d.calls;
    known = d.known;
    places = d.places;
    totals_is = d.totals_is;
    counts = d.counts;
    done = tt;
    found = tt;
    cause = inl (refl, d.done.2);
  }

  meets_after : (p q r : PassState) (e : JobError) → Stays contents m p q → q.view.met ≡ p.view.met → EndsFor contents m rel fork q r e → EndsFor contents m rel fork p r e
  meets_after p q r e s met (inl memory) = inl (memory.0, memory.1 ∙ met)
  meets_after p q r e s met (inr x) = inr record {
    block = x.block;
    inside = x.inside;
    why = x.why;
    fault = x.fault;
    before = x.before;
    since = rises_on p.view q.view x.before.view s.same.keeps.advances x.since;
    refused = x.refused;
    last = x.last;
    met = x.met ∙ ap (λ (n : FailedCalls). met_read_refused x.why n) met;
  }

  -- some blocks after the others
  pub listed_on : (bs cs : List ℕ) (p q r : PassState) (rs ss us : List BlockRead) (t u v : ScanTotals) (end : Result Unit JobError)
      → HasListed bs p q rs [] t u (Ok tt) → HasListed cs q r ss us u v end → HasListed (bs ++ cs) p r (rs ++ ss) us t v end
  listed_on bs cs p q r rs ss us t u v end a b =
      let none : rs ++ [] ≡ rs = append-nil rs in
      let all : rs ++ (ss ++ us) ≡ (rs ++ ss) ++ us = sym (append_assoc rs ss us) in
      let whole : length rs ≡ length bs = a.done.1 in
      let known : AreKnown contents m rel fork bs rs = subst (AreKnown contents m rel fork bs) none a.known in
      let first : AllReads (λ _ x. IsWithinFront q.view.front x) bs rs = subst (AllReads (λ _ x. IsWithinFront q.view.front x) bs) none a.places in
      let places : AllReads (λ _ x. IsWithinFront r.view.front x) bs rs = all_weaker (λ _ x. IsWithinFront q.view.front x) (λ _ x. IsWithinFront r.view.front x) bs rs (within_front q.view.front r.view.front b.stays.front) first in
      record {
        stays = stays_on contents m p q r a.stays b.stays;
        spent = b.spent;
        calls = calls_joined p.view.calls q.view.calls r.view.calls p.view.number q.view.number rel fork bs cs rs (ss ++ us) a.stays.same.keeps.number whole
            (a.calls ∙ ap (λ (l : List BlockRead). p.view.calls ++ calls_of_reads p.view.number rel fork bs l) none) b.calls
            ∙ ap (λ (l : List BlockRead). p.view.calls ++ calls_of_reads p.view.number rel fork (bs ++ cs) l) all;
        known = subst (AreKnown contents m rel fork (bs ++ cs)) all (all_append (λ x y. IsKnown contents m (tag_of_parts rel fork x) y) bs cs rs (ss ++ us) whole known b.known);
        places = subst (AllReads (λ _ x. IsWithinFront r.view.front x) (bs ++ cs)) all (all_append (λ _ x. IsWithinFront r.view.front x) bs cs rs (ss ++ us) whole places b.places);
        totals_is = totals_joined t u v rs ss a.totals_is b.totals_is;
        counts = b.counts;
        done = on_ok_weaker end (λ d. (d.0, (let l = length-append rs ss in let k = length-append bs cs in let x = d.1 in omega (arith, l, k, x, whole)), d.2 ∙ a.done.2)) b.done;
        found = on_ok_weaker end (λ (f : FoundMore (length cs) q.io r.io). subst (λ (n : ℕ). FoundMore n p.io r.io) (sym (length-append bs cs)) (found_on (length bs) (length cs) p.io q.io r.io a.found f)) b.found;
        cause = IfErr-weaker end (EndsFor contents m rel fork q r) (EndsFor contents m rel fork p r) (λ e. meets_after p q r e a.stays a.done.2) b.cause;
      }

  pub lists_on : (lines : Lines) (bs cs : List ℕ) (p q r : PassState) (text text' text'' : List ℕ) (t u v : ScanTotals) (end : Result Unit JobError)
      → ListsBlocks contents m rel fork lines bs p q text text' t u (Ok tt) → ListsBlocks contents m rel fork lines cs q r text' text'' u v end → ListsBlocks contents m rel fork lines (bs ++ cs) p r text text'' t v end
  lists_on lines bs cs p q r text text' text'' t u v end a b = lists_of lines (bs ++ cs) p r (a.printed ++ b.printed) b.unprinted text text'' t v end
      (listed_on bs cs p q r a.printed b.printed b.unprinted t u v end (listed_whole bs p q a.printed a.unprinted t u (listed lines bs p q text text' t u (Ok tt) a)) (listed lines cs q r text' text'' u v end b))
      (texts_joined lines text text' text'' bs cs a.printed b.printed a.done.1 a.text_is b.text_is)

  -- it ended before the blocks after these
  pub lists_wider : (lines : Lines) (bs cs : List ℕ) (p q : PassState) (text text' : List ℕ) (t u : ScanTotals) (e : JobError)
      → ListsBlocks contents m rel fork lines bs p q text text' t u (Err e) → ListsBlocks contents m rel fork lines (bs ++ cs) p q text text' t u (Err e)
  lists_wider lines bs cs p q text text' t u e a =
      let few : length (a.printed ++ a.unprinted) ≤ length bs = all_short (λ x y. IsKnown contents m (tag_of_parts rel fork x) y) bs (a.printed ++ a.unprinted) a.known in
      let long = length-append a.printed a.unprinted in
      record {
        stays = a.stays;
        spent = a.spent;
        printed = a.printed;
        unprinted = a.unprinted;
        calls = a.calls ∙ ap (λ (l : List Call). p.view.calls ++ l) (sym (calls-wider p.view.number rel fork bs cs (a.printed ++ a.unprinted) few));
        known = all_wider (λ x y. IsKnown contents m (tag_of_parts rel fork x) y) bs cs (a.printed ++ a.unprinted) a.known;
        places = all_wider (λ _ x. IsWithinFront q.view.front x) bs cs (a.printed ++ a.unprinted) a.places;
        text_is = a.text_is ∙ ap (λ (l : List ℕ). text ++ l) (sym (lines-wider lines bs cs a.printed (omega (arith, few, long))));
        totals_is = a.totals_is;
        counts = a.counts;
        done = tt;
        found = tt;
        cause = a.cause;
      }

  -- what was found of a block
  abbrev read_found : PageRead → Page → ℕ → BlockRead
  read_found Sound page front = copied page front
  read_found Unsound page front = unsound

  record ReadsOne (block : ℕ) (p q : PassState) (r : BlockRead) : Type 0 where
    pub stays : Stays contents m p q
    pub spent : q.tokens ≡ no_tokens
    pub calls : q.view.calls ≡ p.view.calls ++ calls_of_reads p.view.number rel fork (block ∷ []) (r ∷ [])
    pub known : IsKnown contents m (tag_of_parts rel fork block) r
    pub place : IsWithinFront q.view.front r
    pub met : q.view.met ≡ p.view.met

  one_read : (block : ℕ) (p q : PassState) (found : PageRead) (page : Page) → HasNoTokens contents m p → CopiesOrFindsUnsound contents m (tag_of_parts rel fork block) page p q found → ReadsOne block p q (read_found found page q.view.front)
  one_read block p q Sound page free c = record {
    stays = c.stays;
    spent = c.spent;
    calls = c.reads.calls;
    known = (c.reads.sound, (let x = free.belongs.front.from_base in let y = c.reads.later in omega arith), c.reads.opening);
    place = omega arith;
    met = c.met;
  }
  one_read block p q Unsound page free c = record { stays = c.stays; spent = c.spent; calls = c.calls ∙ sym (append-nil p.view.calls); known = c.unsound; place = tt; met = c.met }

  lines_of_one : (lines : Lines) (block : ℕ) (found : PageRead) (page : Page) (front : ℕ) → found_lines lines block found page ≡ reads_lines lines (block ∷ []) (read_found found page front ∷ [])
  lines_of_one lines block Sound page front = sym (append-nil (found_lines lines block Sound page))
  lines_of_one lines block Unsound page front = sym (append-nil (found_lines lines block Unsound page))

  summary_of_one : (found : PageRead) (page : Page) (front : ℕ) → found_summary found page ≡ read_summary (read_found found page front)
  summary_of_one Sound page front = refl
  summary_of_one Unsound page front = refl

  -- the block was read, and printed
  pub block_done : (lines : Lines) (block : ℕ) (p q : PassState) (found : PageRead) (page : Page) (text text' : List ℕ) (t u : ScanTotals) → HasNoTokens contents m p → CopiesOrFindsUnsound contents m (tag_of_parts rel fork block) page p q found → FoundMore 1 p.io q.io
      → text' ≡ text ++ found_lines lines block found page → u ≡ counted t (found_summary found page) → IsWithin u u.blocks → ListsBlocks contents m rel fork lines (block ∷ []) p q text text' t u (Ok tt)
  block_done lines block p q found page text text' t u free reads more line total within = let o = one_read block p q found page free reads in let r = read_found found page q.view.front in record {
    stays = o.stays;
    spent = o.spent;
    printed = r ∷ [];
    unprinted = [];
    calls = o.calls;
    known = (o.known, tt);
    places = (o.place, tt);
    text_is = line ∙ ap (λ (l : List ℕ). text ++ l) (lines_of_one lines block found page q.view.front);
    totals_is = total ∙ counted-is t (found_summary found page) ∙ ap (λ (s : PageSummary). sum_of_totals t (totals_of_summaries (s ∷ []))) (summary_of_one found page q.view.front);
    counts = within;
    done = (refl, refl, o.met);
    found = more;
    cause = tt;
  }

  -- it was read, and there was no memory to print it
  pub block_short : (lines : Lines) (block : ℕ) (p q : PassState) (found : PageRead) (page : Page) (text text' : List ℕ) (t u : ScanTotals) → HasNoTokens contents m p → CopiesOrFindsUnsound contents m (tag_of_parts rel fork block) page p q found
      → text' ≡ text → u ≡ t → IsWithin t t.blocks → ListsBlocks contents m rel fork lines (block ∷ []) p q text text' t u (Err Memory)
  block_short lines block p q found page text text' t u free reads line total within = let o = one_read block p q found page free reads in let r = read_found found page q.view.front in record {
    stays = o.stays;
    spent = o.spent;
    printed = [];
    unprinted = r ∷ [];
    calls = o.calls;
    known = (o.known, tt);
    places = (o.place, tt);
    text_is = line ∙ sym (append-nil text);
    totals_is = total ∙ sym (none_sum t);
    counts = subst (λ (x : ScanTotals). IsWithin x x.blocks) (sym total) within;
    done = tt;
    found = tt;
    cause = inl (refl, o.met);
  }

  -- it was not read
  pub block_stopped : (lines : Lines) (block : ℕ) (p q : PassState) (text : List ℕ) (t : ScanTotals) (e : JobError) → block < blocks_in m rel fork → StopsAt contents m (tag_of_parts rel fork block) p q e → IsWithin t t.blocks
      → ListsBlocks contents m rel fork lines (block ∷ []) p q text text t t (Err e)
  block_stopped lines block p q text t e inside s within = let x = s.refuses in record {
    stays = x.stays;
    spent = x.spent;
    printed = [];
    unprinted = [];
    calls = x.calls ∙ sym (append-nil p.view.calls);
    known = tt;
    places = tt;
    text_is = sym (append-nil text);
    totals_is = sym (none_sum t);
    counts = within;
    done = tt;
    found = tt;
    cause = inr record { block = block; inside = inside; why = s.why; fault = s.fault; before = x.before; since = x.since; refused = x.refused; last = x.last; met = x.met };
  }
