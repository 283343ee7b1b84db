-- A block is read where nothing fails.
use Rattle.std.proofs.Common.{◌≡◌, ◌+◌, ◌<◌, ℕ, List, Option, None, Result, Ok, Err, refl, sym, subst, ap, ◌∙◌, true, false, arith}
use Rattle.std.proofs.lemmas.Bool.Decides.{nat_tests}
use Rattle.access_rings.specs.RingState.{RingState}
use Rattle.block_tag.specs.declared.catalogue.RelEntry.{RelEntry}
use Rattle.block_tag.specs.declared.tag.Tag.{Tag}
use Rattle.block_tag.specs.Catalogue.{blocks_at}
use Rattle.segment_store.specs.Contents.{Pages}
use Rattle.pin_core.specs.declared.view.FailedCalls.{FailedCalls}
use Rattle.pin_core.specs.declared.view.View.{View}
use Rattle.frame_table.specs.declared.table.FrameTable.{FrameTable}
use Rattle.wal_flush.specs.declared.flushes.FlushLog.TheVariants as log
use Rattle.buffer_frames.specs.Tokens.{Tokens, count_of}
use Rattle.buffer_frames.specs.declared.flushing.FrameFlushError.TheVariants as flush
use Rattle.buffer_frames.specs.Fetching.{WasUnsoundAtOpening}
use Rattle.buffer_frames.specs.VictimChoices.{ChoiceState, LeavesDirty}
use Rattle.backend_pass.specs.declared.errors.ReadError.{ReadError}
use Rattle.backend_pass.specs.declared.errors.ReadError.TheVariants.{PastEnd, PinsFull, NoUnpinned, ReadFault, WriteFault, LogFault, LogDown, LogShort, Unsound}
use Rattle.backend_pass.specs.declared.pinned.Pinned.{Pinned}
use Rattle.backend_pass.specs.Passes.{NoDeviceFails, PassState}
use Rattle.backend_pass.specs.Reading.{IsReadUnsoundAllPinnedOrShort, IsReadUnsoundOrAllPinned, NothingFails, ReadsBlock, at_once_of, met_reading, refused_at_once}

-- a fault that was met shows
pub one_more : (n m : ℕ) → m ≡ n + 1 → m ≡ n → ⊥
one_more n m more same = omega arith

-- and so does the log's mark
not_up : (v w : View) → w.saw_down ≡ true → v.saw_down ≡ w.saw_down → v.saw_down ≡ false → ⊥
not_up v w down same up = let no : true ≡ false = sym down ∙ sym same ∙ up in absurd (cc)

module _ {L G : Type 0} (contents : L → Option Pages) (t : FrameTable L G) where
  -- a victim's page was sound, and is in the log
  logged_none : (p q : PassState) (v : View) (c d : ChoiceState) (lsn end : ℕ) → NothingFails contents t p q → LeavesDirty contents t (flush.Log (log.LogShort lsn end)) p.view v c q.view d → ⊥
  logged_none p q v c d lsn end n x =
      let flushes = x.tried.answers.1 in
      let copies = flushes.flush in
      let shows = copies.work.shows in
      let low = n.within x.tried.tag x.tried.named x.tried.listed copies.page copies.sound shows.4 in
      let since = x.since.end_seen in
      let tried = x.tried.since.end_seen in
      let kept = flushes.since.end_seen in
      let at = shows.0 in
      let short = shows.1 in
      let seen = shows.2 in
      omega arith

  -- where no device fails, a read is refused only so
  pub read_short : (tag : Tag) (ring after : Option RingState) (p q : PassState) (r : Result Pinned ReadError) → q.view.met ≡ met_reading r p.view.met → ReadsBlock contents t tag ring after p q r → NoDeviceFails p q → IsReadUnsoundAllPinnedOrShort r
  read_short tag ring after p q (Ok pinned) met b n = tt
  read_short tag ring after p q (Err (PastEnd block blocks)) met b n = b.calls
  read_short tag ring after p q (Err PinsFull) met b n = b.calls
  read_short tag ring after p q (Err (NoUnpinned frames)) met b n = tt
  read_short tag ring after p q (Err (ReadFault failed)) met b n = one_more p.view.met.reads q.view.met.reads (ap (λ (m : FailedCalls). m.reads) met) (ap (λ (m : FailedCalls). m.reads) n.met)
  read_short tag ring after p q (Err (WriteFault failed)) met b n = one_more p.view.met.writes q.view.met.writes (ap (λ (m : FailedCalls). m.writes) met) (ap (λ (m : FailedCalls). m.writes) n.met)
  read_short tag ring after p q (Err LogFault) met b n = one_more p.view.met.logs q.view.met.logs (ap (λ (m : FailedCalls). m.logs) met) (ap (λ (m : FailedCalls). m.logs) n.met)
  read_short tag ring after p q (Err (LogDown at)) met b n = let x = b.calls.2 in not_up q.view x.after x.tried.answers.1.flush.work.shows.2 (ap (λ (y : View). y.saw_down) x.until) n.up
  read_short tag ring after p q (Err (LogShort lsn end)) met b n = tt
  read_short tag ring after p q (Err (Unsound failed)) met b n = tt

  pub read_complete : (tag : Tag) (ring after : Option RingState) (p q : PassState) (r : Result Pinned ReadError) → q.view.met ≡ met_reading r p.view.met → ReadsBlock contents t tag ring after p q r → NothingFails contents t p q → IsReadUnsoundOrAllPinned r
  read_complete tag ring after p q (Err (LogShort lsn end)) met b n = logged_none p q b.calls.0.searched _ _ lsn end n b.calls.2
  read_complete tag ring after p q (Ok pinned) met b n = tt
  read_complete tag ring after p q (Err (PastEnd block blocks)) met b n = b.calls
  read_complete tag ring after p q (Err PinsFull) met b n = b.calls
  read_complete tag ring after p q (Err (NoUnpinned frames)) met b n = tt
  read_complete tag ring after p q (Err (ReadFault failed)) met b n = read_short tag ring after p q (Err (ReadFault failed)) met b n.devices
  read_complete tag ring after p q (Err (WriteFault failed)) met b n = read_short tag ring after p q (Err (WriteFault failed)) met b n.devices
  read_complete tag ring after p q (Err LogFault) met b n = read_short tag ring after p q (Err LogFault) met b n.devices
  read_complete tag ring after p q (Err (LogDown at)) met b n = read_short tag ring after p q (Err (LogDown at)) met b n.devices
  read_complete tag ring after p q (Err (Unsound failed)) met b n = tt

  -- what is called unsound was
  pub unsound_was : (tag failed : Tag) (ring after : Option RingState) (p q : PassState) (r : Result Pinned ReadError) → ReadsBlock contents t tag ring after p q r → r ≡ Err (Unsound failed) → (failed ≡ tag) × WasUnsoundAtOpening contents t tag
  unsound_was tag failed ring after p q r b e = (subst (ReadsBlock contents t tag ring after p q) e b).answer.1

  -- what was looked up isn't refused at once
  pub at_once_none : (tag : Tag) (ring after : Option RingState) (p q : PassState) (r : Result Pinned ReadError) → ReadsBlock contents t tag ring after p q r → at_once_of r ≡ None
  at_once_none tag ring after p q (Ok pinned) b = refl
  at_once_none tag ring after p q (Err (PastEnd block blocks)) b = absurd b.answer.1
  at_once_none tag ring after p q (Err PinsFull) b = absurd b.answer.1
  at_once_none tag ring after p q (Err (NoUnpinned frames)) b = refl
  at_once_none tag ring after p q (Err (ReadFault failed)) b = refl
  at_once_none tag ring after p q (Err (WriteFault failed)) b = refl
  at_once_none tag ring after p q (Err LogFault) b = refl
  at_once_none tag ring after p q (Err (LogDown at)) b = refl
  at_once_none tag ring after p q (Err (LogShort lsn end)) b = refl
  at_once_none tag ring after p q (Err (Unsound failed)) b = refl

-- a block below the end, with a token to spare
pub not_at_once : (relations : List RelEntry) (tokens : Tokens) (tag : Tag) (blocks : ℕ) → blocks ≡ blocks_at relations tag.rel.0 tag.fork → tag.block < blocks → count_of tokens < 8 → refused_at_once relations tokens tag ≡ None
not_at_once relations tokens tag blocks e below room = grind (arith, nat_tests)
