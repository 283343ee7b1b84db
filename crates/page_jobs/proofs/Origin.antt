-- Where no worker has seen more of the log than its beginning, what was read are the pages of the blocks as the table was opened.
use Rattle.std.proofs.Common.{◌≡◌, ℕ, zero, suc, ◌+◌, ◌-◌, ◌*◌, ◌<◌, ◌≤◌, ◌⊎◌, true, false, List, [], ◌∷◌, ◌++◌, length, take, drop, Option, Some, Result, Ok, Err, refl, sym, ap, ap₂, ◌∙◌, subst, arith, append_assoc, add-zero, inl, inr, length-drop}
use Rattle.std.specs.Prelude.{IfOk, OnOk, min}
use Rattle.std.proofs.lemmas.List.{append-nil}
use Rattle.std.proofs.lemmas.Bool.{cases_lt, lt-ltb}
use mathlib.Core.Option.{some, some-injective, some-ne-none}
use lib.ListN.{get_elem?}
use Rattle.chunk_claims.specs.Claims.{sum_below}
use Rattle.block_tag.specs.declared.tag.Fork.{Fork}
use Rattle.block_tag.specs.declared.tag.Tag.{Tag}
use Rattle.block_tag.specs.Names.{lane_number, names_block, tag_of_parts}
use Rattle.byte_devices.specs.Bytes.{Puts}
use Rattle.page_layout.specs.declared.scan.ScanTotals.{ScanTotals}
use Rattle.page_layout.specs.declared.summary.PageSummary.{PageSummary}
use Rattle.page_layout.specs.declared.summary.PageSummary.TheVariants.{Invalid}
use Rattle.page_layout.specs.Dump.{dump_lines_from, dump_lines_of, dump_text, used_lines}
use Rattle.page_layout.specs.Scan.{scan_lines_from, scan_text, totals_of, totals_of_summaries}
use Rattle.page_layout.specs.Soundness.{is_sound_page}
use Rattle.page_layout.specs.Summary.{summary_of}
use Rattle.page_layout.specs.Text.{line_of, scan_line_of}
use Rattle.segment_store.specs.Contents.{Pages}
use Rattle.pin_core.specs.State.{Page}
use Rattle.table_rule.specs.TakenLanes.{IsBlockOf}
use Rattle.text_window.specs.Texts.{AreFirstTexts, IsTextBy}
use Rattle.text_window.proofs.Streams.{front_of}
use Rattle.frame_table.specs.Seats.{base_of, lanes_in, relations_of}
use Rattle.frame_table.specs.Opened.{WasAtOpening}
use Rattle.backend_pass.specs.declared.manager.Manager.{Manager}
use Rattle.backend_pass.specs.Passes.{PassState}
use Rattle.page_jobs.specs.declared.ending.JobError.{JobError}
use Rattle.page_jobs.specs.declared.ending.Totals.{Totals}
use Rattle.page_jobs.specs.declared.printing.Lines.{Lines}
use Rattle.page_jobs.specs.declared.printing.Lines.TheVariants.{Dump, Scan}
use Rattle.page_jobs.specs.declared.listing.Lister.{Lister}
use Rattle.page_jobs.specs.declared.working.Worker.{Worker}
use Rattle.page_jobs.specs.Blocks.{blocks_from}
use Rattle.page_jobs.specs.Chunks.{Claimed, blocks_in_all, blocks_of, chunk_count, chunk_size, chunk_start, items_in_all}
use Rattle.page_jobs.specs.ChunkTexts.{IsChunkText}
use Rattle.page_jobs.specs.Ending.{as_done, totals_of_scan}
use Rattle.page_jobs.specs.Printed.{BlockRead, copied, unsound, lines_from, page_lines, read_lines, read_summary, reads_lines, reads_totals, text_of_pages, totals_line}
use Rattle.page_jobs.specs.Reads.{IsKnown, IsWithinFront}
use Rattle.page_jobs.specs.Parts.{AllReads, AreKnown, blocks_in}
use Rattle.page_jobs.specs.Dealt.{AllDone, PutsAll, job_totals}
use Rattle.page_jobs.specs.Jobs.{AllAtBase, IsOrigin, WasKnownAtOpening}
use Rattle.page_jobs.proofs.BlockWork.{all_weaker, within_front}
use Rattle.page_jobs.proofs.ClaimedChunks.{length_chunk}
use Rattle.page_jobs.proofs.ListedChunks.{DoLists}
use Rattle.page_jobs.proofs.Measures.{AddsUp, page_weight, pages_by, reads_all_by, totals_by}
use Rattle.table_rule.proofs.Opens.{there_at}
use Rattle.page_jobs.proofs.Texts.{PutsSome, stopped_in}
use Rattle.page_jobs.proofs.Whole.{DrewOnce, all_claimed, claimed_at, covers_at, passes_of, totals_read}

-- the lines of a page that isn't sound
unsound_summary : (page : Page) → is_sound_page page ≡ false → summary_of page ≡ Invalid
unfolding summary_of
unsound_summary page e = rw e refl

unsound_used : (page : Page) → is_sound_page page ≡ false → used_lines page ≡ []
unfolding used_lines
unsound_used page e = rw e refl

unsound_dump : (block : ℕ) (page : Page) → is_sound_page page ≡ false → dump_lines_of block page ≡ scan_line_of block page
unfolding dump_lines_of
unsound_dump block page e = ap (λ (l : List ℕ). scan_line_of block page ++ l) (unsound_used page e) ∙ append-nil (scan_line_of block page)

unsound_lines : (lines : Lines) (block : ℕ) (page : Page) → is_sound_page page ≡ false → line_of block Invalid ≡ page_lines lines block page
unsound_lines Scan block page e = ap (λ (s : PageSummary). line_of block s) (sym (unsound_summary page e))
unsound_lines Dump block page e = ap (λ (s : PageSummary). line_of block s) (sym (unsound_summary page e)) ∙ sym (unsound_dump block page e)

lines_are : (block : ℕ) (pages : List Page) → lines_from Scan block pages ≡ scan_lines_from block pages
lines_are block [] = refl
lines_are block (p ∷ pages) = ap (λ (l : List ℕ). scan_line_of block p ++ l) (lines_are (block + 1) pages)

dumps_are : (block : ℕ) (pages : List Page) → lines_from Dump block pages ≡ dump_lines_from block pages
dumps_are block [] = refl
dumps_are block (p ∷ pages) = ap (λ (l : List ℕ). dump_lines_of block p ++ l) (dumps_are (block + 1) pages)

scan_text_is : (pages : List Page) → scan_text pages ≡ scan_lines_from 0 pages ++ totals_line (totals_of pages)
unfolding scan_text
scan_text_is pages = refl

dump_text_is : (pages : List Page) → dump_text pages ≡ dump_lines_from 0 pages ++ totals_line (totals_of pages)
unfolding dump_text
dump_text_is pages = refl

text_is : (lines : Lines) (pages : List Page) → text_of_pages lines pages ≡ lines_from lines 0 pages ++ totals_line (totals_of pages)
text_is Scan pages = scan_text_is pages ∙ ap (λ (l : List ℕ). l ++ totals_line (totals_of pages)) (sym (lines_are 0 pages))
text_is Dump pages = dump_text_is pages ∙ ap (λ (l : List ℕ). l ++ totals_line (totals_of pages)) (sym (dumps_are 0 pages))

-- the lines of the first pages, and of those after them
lines_split : (lines : Lines) (block i : ℕ) (pages : List Page) → i ≤ length pages → lines_from lines block pages ≡ lines_from lines block (take i pages) ++ lines_from lines (block + i) (drop i pages)
lines_split lines block zero pages le = ap (λ (b : ℕ). lines_from lines b pages) (sym (add-zero block))
lines_split lines block (suc i) [] le = absurd (omega arith)
lines_split lines block (suc i) (page ∷ pages) le =
    let at : block + 1 + i ≡ block + suc i = omega arith in
    ap (λ (l : List ℕ). page_lines lines block page ++ l) (lines_split lines (block + 1) i pages (omega arith))
    ∙ sym (append_assoc (page_lines lines block page) (lines_from lines (block + 1) (take i pages)) (lines_from lines (block + 1 + i) (drop i pages)))
    ∙ ap (λ (b : ℕ). (page_lines lines block page ++ lines_from lines (block + 1) (take i pages)) ++ lines_from lines b (drop i pages)) at

lines_taken : (lines : Lines) (block i j : ℕ) (pages : List Page) → i ≤ length pages → lines_from lines block (take (i + j) pages) ≡ lines_from lines block (take i pages) ++ lines_from lines (block + i) (take j (drop i pages))
lines_taken lines block zero j pages le =
    let none : zero + j ≡ j = omega arith in
    ap (λ (k : ℕ). lines_from lines block (take k pages)) none ∙ ap (λ (b : ℕ). lines_from lines b (take j pages)) (sym (add-zero block))
lines_taken lines block (suc i) j [] le = absurd (omega arith)
lines_taken lines block (suc i) j (page ∷ pages) le =
    let more : suc i + j ≡ suc (i + j) = omega arith in
    let at : block + 1 + i ≡ block + suc i = omega arith in
    ap (λ (k : ℕ). lines_from lines block (take k (page ∷ pages))) more
    ∙ ap (λ (l : List ℕ). page_lines lines block page ++ l) (lines_taken lines (block + 1) i j pages (omega arith))
    ∙ sym (append_assoc (page_lines lines block page) (lines_from lines (block + 1) (take i pages)) (lines_from lines (block + 1 + i) (take j (drop i pages))))
    ∙ ap (λ (b : ℕ). (page_lines lines block page ++ lines_from lines (block + 1) (take i pages)) ++ lines_from lines b (take j (drop i pages))) at

take_all : (pages : List Page) → take (length pages) pages ≡ pages
take_all [] = refl
take_all (page ∷ pages) = ap (λ (l : List Page). page ∷ l) (take_all pages)

weight_at : (f : ScanTotals → ℕ) (pages : List Page) (b : ℕ) (page : Page) → get_elem? pages b ≡ some page → page_weight f pages b ≡ f (totals_of (page ∷ []))
weight_at f [] b page at = absurd (some-ne-none page (sym at))
weight_at f (p ∷ pages) zero page at = ap (λ (x : Page). f (totals_of (x ∷ []))) (some-injective p page at)
weight_at f (p ∷ pages) (suc b) page at = weight_at f pages b page at

-- blocks of chunks of n blocks are below n
abbrev AllBelow : ℕ → List ℕ → Type 0
AllBelow n [] = Unit {0}
AllBelow n (b ∷ bs) = (b < n) × AllBelow n bs

below_from : (n block k : ℕ) → k ≤ n - block → AllBelow n (blocks_from block k)
below_from n block zero le = tt
below_from n block (suc k) le = (omega (arith, le), below_from n (block + 1) k (omega (arith, le)))

below_append : (n : ℕ) (bs cs : List ℕ) → AllBelow n bs → AllBelow n cs → AllBelow n (bs ++ cs)
below_append n [] cs a b = b
below_append n (x ∷ bs) cs a b = (a.0, below_append n bs cs a.1 b)

below_all : (n : ℕ) (chunks : List ℕ) → AllBelow n (blocks_in_all n chunks)
below_all n [] = tt
below_all n (c ∷ chunks) = below_append n (blocks_of n c) (blocks_in_all n chunks) (below_from n (chunk_start c) (chunk_size n c) (omega arith)) (below_all n chunks)

all_inside : (P : ℕ → BlockRead → Type 0) (n : ℕ) (bs : List ℕ) (rs : List BlockRead) → AllBelow n bs → AllReads P bs rs → AllReads (λ b r. (b < n) × P b r) bs rs
all_inside P n bs [] below a = tt
all_inside P n [] (r ∷ rs) below a = absurd a
all_inside P n (x ∷ bs) (r ∷ rs) below a = ((below.0, a.0), all_inside P n bs rs below.1 a.1)

front_at : {N A : Type 0} (base w : ℕ) (xs : List (Worker (Lister N A))) (x : Worker (Lister N A)) → AllAtBase base (passes_of xs) → get_elem? xs w ≡ some x → x.pass.view.front ≡ base
front_at base w [] x all at = absurd (some-ne-none x (sym at))
front_at {N = N} {A = A} base zero (y ∷ xs) x all at = subst (λ (z : Worker (Lister N A)). z.pass.view.front ≡ base) (some-injective y x at) all.0
front_at base (suc w) (y ∷ xs) x all at = front_at base w xs x all.1 at

module _ {L G : Type 0} (contents : L → Option Pages) (m : Manager L G) where
  -- the page at the opening is one
  one_page : (tag : Tag) (page other : Page) → IsBlockOf (relations_of m.table) (lanes_in m.table) (lane_number tag (lanes_in m.table)) tag → WasAtOpening contents m.table tag page → WasKnownAtOpening contents m tag other → page ≡ other
  one_page tag page other block was known = let e : Some page ≡ Some other = sym (was (lane_number tag (lanes_in m.table)) known.lane known.pages block known.opened known.known) ∙ known.is in cc

  -- what was read at the log's base
  abbrev pub IsAtBase : Tag → BlockRead → Type 0
  IsAtBase tag r = IsKnown contents m tag r × IsWithinFront (base_of m.table) r

  read_is : (lines : Lines) (block : ℕ) (tag : Tag) (page : Page) (r : BlockRead) → IsBlockOf (relations_of m.table) (lanes_in m.table) (lane_number tag (lanes_in m.table)) tag → IsAtBase tag r → WasKnownAtOpening contents m tag page
      → (read_lines lines block r ≡ page_lines lines block page) × (read_summary r ≡ summary_of page)
  read_is lines block tag page (copied given place) is at known =
      let same = one_page tag given page is (at.0.2 (let x = at.0.1 in let y = at.1 in omega arith)) known in
      (ap (page_lines lines block) same, ap summary_of same)
  read_is lines block tag page unsound is at known =
      let same = one_page tag at.0.page page is at.0.was known in
      let bad : is_sound_page page ≡ false = subst (λ (x : Page). is_sound_page x ≡ false) same at.0.unsound in
      (unsound_lines lines block page bad, sym (unsound_summary page bad))

module _ {L G : Type 0} (contents : L → Option Pages) (m : Manager L G) (rel : ℕ) (fork : Fork) where
  -- these pages, from the block on, were there at the opening
  abbrev pub Origins : ℕ → List Page → Type 0
  Origins block [] = Unit {0}
  Origins block (page ∷ pages) = IsBlockOf (relations_of m.table) (lanes_in m.table) (lane_number (tag_of_parts rel fork block) (lanes_in m.table)) (tag_of_parts rel fork block) × WasKnownAtOpening contents m (tag_of_parts rel fork block) page × Origins (block + 1) pages

  abbrev pub AtBase : List ℕ → List BlockRead → Type 0
  AtBase bs rs = AllReads (λ b r. IsAtBase contents m (tag_of_parts rel fork b) r) bs rs

  pub origins : (pages : List Page) (block : ℕ) → ((b : ℕ) → b < block + length pages → IsBlockOf (relations_of m.table) (lanes_in m.table) (lane_number (tag_of_parts rel fork b) (lanes_in m.table)) (tag_of_parts rel fork b))
      → ((i b : ℕ) (page : Page) → b ≡ block + i → get_elem? pages i ≡ some page → WasKnownAtOpening contents m (tag_of_parts rel fork b) page) → Origins block pages
  origins [] block named known = tt
  origins (page ∷ pages) block named known =
      (named block (omega arith), known 0 block page (omega arith) refl, origins pages (block + 1) (λ b lt. named b (omega arith)) (λ i b p e at. known (suc i) b p (omega arith) at))

  origins_after : (i block : ℕ) (pages : List Page) → Origins block pages → Origins (block + i) (drop i pages)
  origins_after zero block pages o = subst (λ (b : ℕ). Origins b pages) (sym (add-zero block)) o
  origins_after (suc i) block [] o = tt
  origins_after (suc i) block (page ∷ pages) o =
      let at : block + 1 + i ≡ block + suc i = omega arith in
      subst (λ (b : ℕ). Origins b (drop i pages)) at (origins_after i (block + 1) pages o.2)

  -- the page that a block had, and that it is one of the relation
  pub record HadPage (block : ℕ) (page : Page) : Type 0 where
    pub block_of : IsBlockOf (relations_of m.table) (lanes_in m.table) (lane_number (tag_of_parts rel fork block) (lanes_in m.table)) (tag_of_parts rel fork block)
    pub known : WasKnownAtOpening contents m (tag_of_parts rel fork block) page

  had_page : (i block b : ℕ) (pages : List Page) (page : Page) → Origins block pages → block + i ≡ b → get_elem? pages i ≡ some page → HadPage b page
  had_page i block b [] page o e at = absurd (some-ne-none page (sym at))
  had_page zero block b (first ∷ pages) page o e at =
      let same : block ≡ b = omega (arith, e) in
      subst (λ (k : ℕ). HadPage k page) same (subst (λ (x : Page). HadPage block x) (some-injective first page at) record { block_of = o.0; known = o.1 })
  had_page (suc i) block b (first ∷ pages) page o e at = had_page i (block + 1) b pages page o.2 (omega (arith, e)) at

  -- the lines of blocks that were read are those of their pages
  lines_origin : (lines : Lines) (block k : ℕ) (rs : List BlockRead) (pages : List Page) → AtBase (blocks_from block k) rs → Origins block pages → length rs ≡ k → k ≤ length pages → reads_lines lines (blocks_from block k) rs ≡ lines_from lines block (take k pages)
  lines_origin lines block zero [] pages at o e le = refl
  lines_origin lines block zero (r ∷ rs) pages at o e le = absurd (omega arith)
  lines_origin lines block (suc k) [] pages at o e le = absurd (omega arith)
  lines_origin lines block (suc k) (r ∷ rs) [] at o e le = absurd (omega arith)
  lines_origin lines block (suc k) (r ∷ rs) (page ∷ pages) at o e le =
      let one = read_is contents m lines block (tag_of_parts rel fork block) page r o.0 at.0 o.1 in
      ap₂ (λ (a b : List ℕ). a ++ b) one.0 (lines_origin lines (block + 1) k rs pages at.1 o.2 (omega arith) (omega arith))

  at_base : (front : ℕ) (bs : List ℕ) (rs : List BlockRead) → front ≤ base_of m.table → AreKnown contents m rel fork bs rs → AllReads (λ b r. IsWithinFront front r) bs rs → AtBase bs rs
  at_base front bs [] low known places = tt
  at_base front [] (r ∷ rs) low known places = absurd known
  at_base front (b ∷ bs) (r ∷ rs) low known places = ((known.0, within_front front (base_of m.table) low b r places.0), at_base front bs rs low known.1 places.1)

  -- the lines of the pages of a chunk of n blocks
  abbrev chunk_lines : Lines → ℕ → List Page → ℕ → List ℕ
  chunk_lines lines n pages chunk = lines_from lines (chunk_start chunk) (take (chunk_size n chunk) (drop (chunk_start chunk) pages))

  -- the pages of chunks, one after the other
  join_chunk : (lines : Lines) (n many : ℕ) (pages : List Page) → length pages ≡ n → (8 * many < n) ⊎ (n ≤ 8 * many) → lines_from lines 0 (take (min (8 * many) n) pages) ++ chunk_lines lines n pages many ≡ lines_from lines 0 (take (min (8 * suc many) n) pages)
  join_chunk lines n many pages long (inl below) =
      let first : min (8 * many) n ≡ 8 * many = omega (arith, below) in
      let start : 8 * many ≡ 0 + 8 * many = omega arith in
      let next : 8 * many + chunk_size n many ≡ min (8 * suc many) n = omega (arith, below) in
      ap (λ (k : ℕ). lines_from lines 0 (take k pages) ++ chunk_lines lines n pages many) first
      ∙ ap (λ (b : ℕ). lines_from lines 0 (take (8 * many) pages) ++ lines_from lines b (take (chunk_size n many) (drop (8 * many) pages))) start
      ∙ sym (lines_taken lines 0 (8 * many) (chunk_size n many) pages (omega (arith, below, long)))
      ∙ ap (λ (k : ℕ). lines_from lines 0 (take k pages)) next
  join_chunk lines n many pages long (inr past) =
      let none : chunk_size n many ≡ 0 = omega (arith, past) in
      let same : min (8 * many) n ≡ min (8 * suc many) n = omega (arith, past) in
      ap (λ (k : ℕ). lines_from lines 0 (take (min (8 * many) n) pages) ++ lines_from lines (8 * many) (take k (drop (8 * many) pages))) none
      ∙ append-nil (lines_from lines 0 (take (min (8 * many) n) pages))
      ∙ ap (λ (k : ℕ). lines_from lines 0 (take k pages)) same

  front_origin : (lines : Lines) (n many : ℕ) (pages : List Page) (t : List ℕ) → length pages ≡ n → AreFirstTexts (λ c s. s ≡ chunk_lines lines n pages c) many t → t ≡ lines_from lines 0 (take (min (8 * many) n) pages)
  front_origin lines n zero pages t long h = let none : 0 ≡ min (8 * zero) n = omega arith in h ∙ ap (λ (k : ℕ). lines_from lines 0 (take k pages)) none
  front_origin lines n (suc many) pages t long h =
      h.2 ∙ ap₂ (λ (a b : List ℕ). a ++ b) (front_origin lines n many pages h.0 long h.3) h.4 ∙ join_chunk lines n many pages long (cases_lt (8 * many) n)

  -- the blocks of the fork
  abbrev blocks : ℕ
  blocks = blocks_in m rel fork

  -- What is read at the base of the fork's pages
  module _ (lines : Lines) (named : (b : ℕ) → b < blocks_in m rel fork → names_block (tag_of_parts rel fork b) ≡ true) (pages : List Page) (origin : IsOrigin contents m rel fork pages) where
    are_origins : Origins 0 pages
    are_origins =
        let block : (b : ℕ) → b < 0 + length pages → IsBlockOf (relations_of m.table) (lanes_in m.table) (lane_number (tag_of_parts rel fork b) (lanes_in m.table)) (tag_of_parts rel fork b) =
        λ b lt. record { named = named b (let c = origin.counted in omega (arith, c, lt)); listed = lt-ltb b blocks (let c = origin.counted in omega (arith, c, lt)); placed = refl } in
        origins pages 0 block (λ i b page e there. subst (λ (k : ℕ). WasKnownAtOpening contents m (tag_of_parts rel fork k) page) (let s : i ≡ b = omega arith in s) (origin.each i page there))

    abbrev IsText : ℕ → List ℕ → Type 0
    IsText = IsTextBy (IsChunkText contents m rel fork lines) (base_of m.table)

    chunk_origin : (chunk : ℕ) (text : List ℕ) → IsText chunk text → text ≡ chunk_lines lines blocks pages chunk
    chunk_origin chunk text h =
        let t = h.2 in
        let at : AtBase (blocks_of blocks chunk) t.reads = at_base h.0 (blocks_of blocks chunk) t.reads h.1 t.known t.places in
        let first : 0 + chunk_start chunk ≡ chunk_start chunk = omega arith in
        let left : length (drop (chunk_start chunk) pages) ≡ length pages - chunk_start chunk = length-drop (chunk_start chunk) pages in
        let few : chunk_size blocks chunk ≤ blocks - chunk_start chunk = omega arith in
        let all = origin.counted in
        t.lines_are ∙ lines_origin lines (chunk_start chunk) (chunk_size blocks chunk) t.reads (drop (chunk_start chunk) pages) at
        (subst (λ (b : ℕ). Origins b (drop (chunk_start chunk) pages)) first (origins_after (chunk_start chunk) 0 pages are_origins)) (t.whole ∙ length_chunk blocks chunk) (omega (arith, left, few, all))

    front_is : (many : ℕ) (front : List ℕ) → AreFirstTexts IsText many front → front ≡ lines_from lines 0 (take (min (8 * many) blocks) pages)
    front_is many front h = front_origin lines blocks many pages front origin.counted (front_of IsText (λ c s. s ≡ chunk_lines lines blocks pages c) many front chunk_origin h)

    text_begins : (front : List ℕ) (count : ℕ) → AreFirstTexts IsText count front
        → text_of_pages lines pages ≡ front ++ (lines_from lines (0 + min (8 * count) blocks) (drop (min (8 * count) blocks) pages) ++ totals_line (totals_of pages))
    text_begins front count h =
        let k = min (8 * count) blocks in
        let rest = lines_from lines (0 + k) (drop k pages) in
        let end = totals_line (totals_of pages) in
        text_is lines pages
        ∙ ap (λ (l : List ℕ). l ++ end) (lines_split lines 0 k pages (let c = origin.counted in omega (arith, c)) ∙ ap (λ (l : List ℕ). l ++ rest) (sym (front_is count front h)))
        ∙ append_assoc front rest end

    text_ends : (front last : List ℕ) (count : ℕ) → AreFirstTexts IsText count front → count ≡ chunk_count blocks → last ≡ totals_line (totals_of pages) → text_of_pages lines pages ≡ front ++ last
    text_ends front last count h all is =
        let whole : min (8 * count) blocks ≡ length pages = let c = origin.counted in omega (arith, c, all) in
        text_is lines pages
        ∙ ap₂ (λ (a b : List ℕ). a ++ b) (sym (front_is count front h ∙ ap (λ (k : ℕ). lines_from lines 0 (take k pages)) whole ∙ ap (lines_from lines 0) (take_all pages))) (sym is)

    -- a prefix of the first texts is a prefix of the text of the pages
    text_stops : (front : List ℕ) (count : ℕ) (old new : Option (List ℕ)) (e : JobError) → AreFirstTexts IsText count front → Puts front old new (Err e) → Puts (text_of_pages lines pages) old new (Err e)
    text_stops front count old new e h puts =
        stopped_in (text_of_pages lines pages) front (lines_from lines (0 + min (8 * count) blocks) (drop (min (8 * count) blocks) pages) ++ totals_line (totals_of pages)) old new e e (text_begins front count h) puts

    -- where no worker began
    pub text_of_some : (place : ℕ) → place ≡ base_of m.table → (old new : Option (List ℕ)) (e : JobError)
        → PutsSome (IsTextBy (IsChunkText contents m rel fork lines) place) (chunk_count (blocks_in m rel fork)) old new e → Puts (text_of_pages lines pages) old new (Err e)
    text_of_some place at old new e h =
        let s = subst (λ (p : ℕ). PutsSome (IsTextBy (IsChunkText contents m rel fork lines) p) (chunk_count blocks) old new e) at h in
        text_stops s.text s.many old new e s.texts_are s.puts

  -- And what workers read of them
  module _ {N A : Type 0} (base : ℕ) (lines : Lines) (ps : List PassState) (xs : List (Worker (Lister N A))) (cs : List (Claimed BlockRead)) (pages : List Page) (d : DoLists contents m rel fork base lines ps xs cs)
      (named : (b : ℕ) → b < blocks_in m rel fork → names_block (tag_of_parts rel fork b) ≡ true) (origin : IsOrigin contents m rel fork pages) (fronts : AllAtBase (base_of m.table) (passes_of xs)) where
    claimed_base : (w : ℕ) (c : Claimed BlockRead) → get_elem? cs w ≡ some c → AtBase (blocks_in_all blocks c.chunks) c.items
    claimed_base w c at =
        let h = claimed_at contents m rel fork base lines w ps xs cs c d at in
        let front = front_at (base_of m.table) w xs h.worker fronts h.there in
        at_base h.worker.pass.view.front (blocks_in_all blocks c.chunks) c.items (omega (arith, front)) h.did.reads.known h.did.reads.places

    -- what a block that was read weighs
    weigh : (f : ScanTotals → ℕ) (block : ℕ) (r : BlockRead) → (block < blocks) × IsAtBase contents m (tag_of_parts rel fork block) r → f (reads_totals (r ∷ [])) ≡ page_weight f pages block
    weigh f block r h =
        let p = there_at pages block (let c = origin.counted in let b = h.0 in omega (arith, c, b)) in
        let had = had_page block 0 block pages p.0 (are_origins lines named pages origin) (omega arith) p.1 in
        let one = read_is contents m lines block (tag_of_parts rel fork block) p.0 r had.block_of h.1 had.known in
        ap (λ (s : PageSummary). f (totals_of_summaries (s ∷ []))) one.1 ∙ sym (weight_at f pages block p.0 p.1)

    weighed : (f : ScanTotals → ℕ) (w : ℕ) (c : Claimed BlockRead) → get_elem? cs w ≡ some c → AllReads (λ b r. f (reads_totals (r ∷ [])) ≡ page_weight f pages b) (blocks_in_all blocks c.chunks) c.items
    weighed f w c at = all_weaker (λ b r. (b < blocks) × IsAtBase contents m (tag_of_parts rel fork b) r) (λ b r. f (reads_totals (r ∷ [])) ≡ page_weight f pages b) (blocks_in_all blocks c.chunks) c.items (weigh f)
        (all_inside (λ b r. IsAtBase contents m (tag_of_parts rel fork b) r) blocks (blocks_in_all blocks c.chunks) c.items (below_all blocks c.chunks) (claimed_base w c at))

    module _ (many : 0 < length ps) (once : DrewOnce xs) (done : AllDone xs) where
      totals_by_weight : (f : ScanTotals → ℕ) → AddsUp f → f (reads_totals (items_in_all cs)) ≡ f (totals_of pages)
      totals_by_weight f adds =
          reads_all_by f adds blocks (page_weight f pages) cs (all_claimed contents m rel fork base lines ps xs cs many d once done) (λ w c at. (covers_at contents m rel fork base lines w ps xs cs c d done at, weighed f w c at))
          ∙ ap (λ (n : ℕ). sum_below n (page_weight f pages)) (sym origin.counted)
          ∙ sym (pages_by f adds pages)

      totals_origin : job_totals xs ≡ totals_of pages
      totals_origin = totals_read contents m rel fork base lines ps xs cs d done ∙ totals_by (reads_totals (items_in_all cs)) (totals_of pages) totals_by_weight

      text_whole : (front last : List ℕ) (count : ℕ) → AreFirstTexts (IsTextBy (IsChunkText contents m rel fork lines) (base_of m.table)) count front → count ≡ chunk_count blocks
          → last ≡ totals_line (job_totals xs) → text_of_pages lines pages ≡ front ++ last
      text_whole front last count h all is = text_ends lines named pages origin front last count h all (is ∙ ap totals_line totals_origin)

    abbrev PutsAllBy : ℕ → Option (List ℕ) → Option (List ℕ) → Result Unit JobError → Type 0
    PutsAllBy place old new end = PutsAll (IsTextBy (IsChunkText contents m rel fork lines) place) xs (chunk_count (blocks_in m rel fork)) old new end

    stopped : (many : 0 < length ps) (once : DrewOnce xs) (old new : Option (List ℕ)) (e : JobError) (h : PutsAllBy (base_of m.table) old new (Err e))
        → (h.last ≡ []) ⊎ ((h.many ≡ chunk_count blocks) × AllDone xs × (h.last ≡ totals_line (job_totals xs)))
        → Puts (text_of_pages lines pages) old new (Err e)
    stopped many once old new e h (inl none) =
        text_stops lines named pages origin h.text h.many old new e h.texts_are
        (subst (λ (l : List ℕ). Puts {E = JobError} l old new (Err e)) (ap (λ (l : List ℕ). h.text ++ l) none ∙ append-nil h.text) h.puts)
    stopped many once old new e h (inr all) =
        subst (λ (l : List ℕ). Puts {E = JobError} l old new (Err e)) (sym (text_whole many once all.1 h.text h.last h.many h.texts_are all.0 all.2)) h.puts

    -- the text of the job is that of the pages, or a prefix of it
    text_at_base : {B : Type 0} (old new : Option (List ℕ)) (r : Result B JobError) → 0 < length ps → DrewOnce xs → OnOk r (AllDone xs) → PutsAllBy (base_of m.table) old new (as_done r)
        → Puts (text_of_pages lines pages) old new (as_done r)
    text_at_base old new (Ok a) many once ok h =
        subst (λ (l : List ℕ). Puts {E = JobError} l old new (Ok tt)) (sym (text_whole many once ok h.text h.last h.many h.texts_are h.whole.0 h.whole.1)) h.puts
    text_at_base old new (Err e) many once ok h = stopped many once old new e h h.ending

    pub text_of_origin : {B : Type 0} (place : ℕ) → place ≡ base_of m.table → (old new : Option (List ℕ)) (r : Result B JobError) → 0 < length ps → DrewOnce xs → OnOk r (AllDone xs)
        → PutsAll (IsTextBy (IsChunkText contents m rel fork lines) place) xs (chunk_count (blocks_in m rel fork)) old new (as_done r)
        → Puts (text_of_pages lines pages) old new (as_done r)
    text_of_origin place at old new r many once ok put = text_at_base old new r many once ok (subst (λ (p : ℕ). PutsAllBy p old new (as_done r)) at put)

    -- and so are its totals
    pub totals_of_origin : (r : Result Totals JobError) → 0 < length ps → DrewOnce xs → OnOk r (AllDone xs) → IfOk r (λ totals. totals ≡ totals_of_scan (job_totals xs)) → IfOk r (λ totals. totals ≡ totals_of_scan (totals_of pages))
    totals_of_origin (Ok totals) many once ok is = is ∙ ap totals_of_scan (totals_origin many once ok)
    totals_of_origin (Err e) many once ok is = tt
