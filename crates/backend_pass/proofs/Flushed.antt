-- A pass writes the page of a frame.
use Rattle.std.proofs.Common.{◌≡◌, ◌≢◌, ◌<◌, ◌+◌, ◌^◌, ℕ, List, Bool, Option, Some, None, Result}
use Rattle.std.proofs.Common.{Ok, Err, refl, sym, ap, ◌∙◌, subst, true, false, arith}
use Rattle.std.specs.Prelude.{IfErr, IfOk, IsOk, if◌then◌else◌}
use Rattle.std.proofs.lemmas.Grind.{common_steps}
use Rattle.block_tag.specs.declared.catalogue.RelEntry.{RelEntry}
use Rattle.block_tag.specs.declared.tag.Tag.{Tag}
use Rattle.block_tag.specs.Names.{names_block, packed_tag, tag_if_named, unpacked_tag}
use Rattle.segment_store.specs.Contents.{Pages}
use Rattle.pin_core.specs.declared.view.FailedCalls.{FailedCalls}
use Rattle.pin_core.specs.declared.view.View.{View}
use Rattle.table_rule.specs.Blocks.{has_block, has_named, is_block}
use Rattle.frame_table.specs.declared.table.FrameTable.{FrameTable}
use Rattle.frame_table.specs.Seats.{frames_of, relations_of}
use Rattle.buffer_frames.specs.Tokens.{IsPinnedFor}
use Rattle.buffer_frames.specs.declared.flushing.FlushedPage.TheVariants.{Written}
use Rattle.buffer_frames.specs.Flushing.{FlushAnswer, met_flushing}
use Rattle.buffer_frames.specs.Working.{met_log}
use Rattle.backend_pass.specs.declared.errors.FlushError.{FlushError}
use Rattle.backend_pass.specs.declared.errors.FlushError.TheVariants.{WriteFault, LogFault, LogDown}
use Rattle.backend_pass.specs.declared.errors.FlushError.TheVariants.{LogShort}
use Rattle.backend_pass.specs.declared.manager.Manager.{Manager}
use Rattle.backend_pass.specs.declared.met.Shown.{Shown}
use Rattle.backend_pass.specs.FrameFlushes.{IsOkOrShort, WasWithin, frame_refusal, page_answer}
use Rattle.backend_pass.specs.FrameFlushes.{shown_page, shown_unflushed}
use Rattle.backend_pass.specs.Managers.{Belongs}
use Rattle.buffer_frames.specs.Outside.{shown_count}
use Rattle.backend_pass.specs.Passes.{IsShown, PassState, shown_log}
use Rattle.backend_pass.proofs.BlockReads.{count_on, shown_met}

-- a tag whose number is a block's
packed_named : (tag : Tag) → tag.block < 2 ^ 32 → unpacked_tag (packed_tag tag) ≡ tag_if_named tag
unfolding unpacked_tag
packed_named tag low = grind (arith, common_steps)

named_and_listed : (relations : List RelEntry) (tag : Tag) (b : Bool) → names_block tag ≡ b
    → has_named relations (if b then Some tag else None) ≡ true
    → (names_block tag ≡ true) × (has_block relations tag ≡ true)
named_and_listed relations tag true e is = (e, is)
named_and_listed relations tag false e is = absurd (cc)

pub tag_of_block : (relations : List RelEntry) (tag : Tag) → tag.block < 2 ^ 32
    → is_block relations (packed_tag tag) ≡ true
    → (names_block tag ≡ true) × (has_block relations tag ≡ true)
unfolding is_block
tag_of_block relations tag low is = named_and_listed relations tag (names_block tag) refl
    (ap (has_named relations) (sym (packed_named tag low)) ∙ is)

-- what is shown after a refusal
pub shown_logged : (v w : View) (s : Shown) → w.front ≡ v.front → w.met ≡ met_log v.met
    → IsShown v s → IsShown w (shown_log s)
shown_logged v w s front met n = record {
  front = n.front ∙ sym front;
  reads = n.reads ∙ ap (λ (m : FailedCalls). shown_count m.reads) (sym met);
  writes = n.writes ∙ ap (λ (m : FailedCalls). shown_count m.writes) (sym met);
  logs = count_on v.met.logs s.met.logs n.logs
      ∙ ap (λ (m : FailedCalls). shown_count m.logs) (sym met);
}

pub shown_not_flushed : (v w : View) (s : Shown) (why : FlushError) → w.front ≡ v.front
    → w.met ≡ met_flushing {A = Bool} (Err (frame_refusal why)) v.met → IsShown v s
    → IsShown w (shown_unflushed why s)
shown_not_flushed v w s (WriteFault tag) front met n = record {
  front = n.front ∙ sym front;
  reads = n.reads ∙ ap (λ (m : FailedCalls). shown_count m.reads) (sym met);
  writes = count_on v.met.writes s.met.writes n.writes
      ∙ ap (λ (m : FailedCalls). shown_count m.writes) (sym met);
  logs = n.logs ∙ ap (λ (m : FailedCalls). shown_count m.logs) (sym met);
}
shown_not_flushed v w s LogFault front met n = shown_logged v w s front met n
shown_not_flushed v w s (LogDown at) front met n = shown_met v w s front met n
shown_not_flushed v w s (LogShort lsn end) front met n = shown_met v w s front met n

-- and after any answer
pub shown_flush_of_page : (v w : View) (s : Shown) (r : Result Bool FlushError) → w.front ≡ v.front
    → w.met ≡ met_flushing (page_answer r) v.met → IsShown v s → IsShown w (shown_page r s)
shown_flush_of_page v w s (Ok true) front met n = shown_met v w s front met n
shown_flush_of_page v w s (Ok false) front met n = shown_met v w s front met n
shown_flush_of_page v w s (Err why) front met n = shown_not_flushed v w s why front met n

-- how the frames ended it, by the pass's answer
pub ended_page : (P : Type 0) (r : Result Bool FlushError) → IfErr (page_answer r) (λ _. P)
    → IfErr r (λ _. P)
ended_page P (Ok wrote) e = tt
ended_page P (Err why) e = e

pub written_page : (P : Type 0) (r : Result Bool FlushError)
    → IfOk (page_answer r) (λ flushed. flushed ≡ Written → P) → IfOk r (λ wrote. wrote ≡ true → P)
written_page P (Ok true) e = λ is. e refl
written_page P (Ok false) e = λ is. (let no : false ≡ true = is in absurd (cc))
written_page P (Err why) e = tt

one_more : (m : FailedCalls) → m.writes + 1 ≢ m.writes
one_more m e = omega arith

module _ {L G : Type 0} (contents : L → Option Pages) (t : FrameTable L G) where
  pub flush_short : (lane : ℕ) (tag : Tag) (f : ℕ) (v w : View) (r : Result Bool FlushError)
      → FlushAnswer contents t lane tag f v w (page_answer r)
      → w.met ≡ met_flushing (page_answer r) v.met → w.saw_down ≡ false → w.met ≡ v.met
      → IsOkOrShort r
  flush_short lane tag f v w (Ok wrote) a met up none = tt
  flush_short lane tag f v w (Err (WriteFault failed)) a met up none = one_more v.met
      (ap (λ (m : FailedCalls). m.writes) (sym met ∙ none))
  flush_short lane tag f v w (Err LogFault) a met up none = let e = a.work.shows in absurd (cc)
  flush_short lane tag f v w (Err (LogDown at)) a met up none = let e = a.work.shows.2 in
      absurd (cc)
  flush_short lane tag f v w (Err (LogShort lsn end)) a met up none = tt

  pub flush_complete : (lane : ℕ) (tag : Tag) (f : ℕ) (v w : View) (r : Result Bool FlushError)
      → FlushAnswer contents t lane tag f v w (page_answer r)
      → w.met ≡ met_flushing (page_answer r) v.met
      → WasWithin contents t tag v.end_seen → w.saw_down ≡ false → w.met ≡ v.met → IsOk r
  flush_complete lane tag f v w (Ok wrote) a met within up none = refl
  flush_complete lane tag f v w (Err (WriteFault failed)) a met within up none = absurd
      (one_more v.met (ap (λ (m : FailedCalls). m.writes) (sym met ∙ none)))
  flush_complete lane tag f v w (Err LogFault) a met within up none = absurd
      (let e = a.work.shows in cc)
  flush_complete lane tag f v w (Err (LogDown at)) a met within up none = absurd
      (let e = a.work.shows.2 in cc)
  flush_complete lane tag f v w (Err (LogShort lsn end)) a met within up none = absurd (
      let shows = a.work.shows in
      let low = within a.page a.sound shows.4 in
      let is = shows.0 in
      let short = shows.1 in
      let from = shows.2 in
      omega arith)

-- a token's frame and its block
pub frame_of_token : {L G : Type 0} (contents : L → Option Pages) (m : Manager L G) (p : PassState)
    (tag : Tag) (f : ℕ) → IsPinnedFor tag f p.tokens → Belongs contents m p → f < frames_of m.table
frame_of_token contents m p tag f i b = b.inside f i.held i.there

pub block_of_token : {L G : Type 0} (contents : L → Option Pages) (m : Manager L G) (p : PassState)
    (tag : Tag) (f : ℕ) → IsPinnedFor tag f p.tokens → Belongs contents m p
    → is_block (relations_of m.table) (packed_tag tag) ≡ true
block_of_token contents m p tag f i b = subst
    (λ (x : ℕ). is_block (relations_of m.table) x ≡ true) i.same (b.blocks f i.held i.there)
