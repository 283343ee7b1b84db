-- What redo makes of what a crash leaves.
use Rattle.std.proofs.Common.{◌≡◌, ◌≢◌, ◌⊎◌, inl, inr, ℕ, zero, suc, ◌<◌, ◌≤◌, Bool, true, false, List, [], ◌∷◌, ◌++◌, length, Option, Some, sym, refl, ap, ◌∙◌, subst, ⊎_elim, arith}
use Rattle.std.proofs.lemmas.Option.{same_Some}
use Rattle.std.proofs.lemmas.Bool.{cases_lt, cases_Bool}
use mathlib.Core.Logic.{dite}
use native.Mathlib.Decide.{ℕ_discrete}
use mathlib.Core.Option.{some, some-ne-none, some-injective}
use lib.ListN.{get_elem?}
use Rattle.page_layout.specs.Fields.{lsn_of}
use Rattle.pin_core.specs.declared.view.Content.TheVariants.{Shared, Exclusive}
use Rattle.pin_core.specs.declared.view.Io.TheVariants.{Output}
use Rattle.pin_core.specs.declared.view.LaneHold.{LaneHold}
use Rattle.pin_core.specs.declared.view.Link.{Link}
use Rattle.pin_core.specs.declared.view.View.{View}
use Rattle.pin_core.specs.State.{Config, Frame, Page, link, lane_hold, is_block}
use Rattle.page_core.specs.State.{Block, block_of}
use Rattle.page_core.specs.Tallies.{Tally, sharers, applied_locks, unapplied_locks, weigh, page_shape}
use Rattle.page_core.specs.Invariant.{PageFrame}
use Rattle.history_core.specs.Log.{is_of_page, AreOfPages, Entry, Change, Span, image, ranges, resize, IsEntryOf, end_of, tag_in, changed_page, page_after, cell}
use Rattle.history_core.specs.State.{Lane, State, Store, opening, stored_upto, failed, unsynced}
use Rattle.history_core.specs.Lanes as lane_kinds
use Rattle.history_core.specs.Lanes.{LaneKind, lane_after}
use Rattle.history_core.specs.Invariant.{HistoryInvariant}
use Rattle.history_core.specs.Laws.{Laws}
use Rattle.history_core.specs.Steps.{Event, MayWriteLane, LaneAlone, new_entry, Step, pools, lanes, writes, notes, logs, enters, reads, words, reads_size}
use Rattle.history_core.specs.Unentered.{IsEntered, IsFlushedEntered, IsUnentered, IsHeldUnentered, DirtyHaveEntries, WrittenHaveEntries}
use Rattle.history_core.specs.Redo.{CanFollow, HasWholePage, StartsAtBase, RedoLaw}
use Rattle.history_core.specs.Crashes.{Survives, first, one_more, Crashed, IsExcepted, CrashesRedo, StartsSynced}
use Rattle.history_core.proofs.Calls.{at_both}
use Rattle.history_core.proofs.Histories.{loaded, is_out}
use Rattle.history_core.proofs.Lasting.{flushed_more}
use Rattle.history_core.proofs.Logs.{is_of, changed_image, cell_absent, after_none, each_entry, starts_above}
use Rattle.history_core.proofs.Owing.{output_position}
use Rattle.history_core.proofs.Always.{KeptByLaws, always}
use Rattle.history_core.proofs.Unentered.{noted_kept, IsUnenteredLaw, unentered_kept, unentered_open}
use Rattle.history_core.proofs.Stepping.{plain, lane_cell}
use Rattle.grid.specs.Shape.{put, tallies}
use Rattle.grid.proofs.Lists.{at_longer, at_end, put_at, put_else}
use Rattle.grid.proofs.Sums.{term_le}

-- beside a shared content lock no view has the exclusive one
no_share : (b : Block) (fr : Frame) (l m : Link) (t : Tally → ℕ) → PageFrame b fr t → ((k : Tally) → weigh k l ≤ t k) → ((k : Tally) → weigh k m ≤ t k) → l.content ≡ Exclusive → m.content ≡ Shared → ⊥
no_share b fr l m t q x y e shared = grind (arith, q, x applied_locks, x unapplied_locks, y sharers, e, shared)

-- a write to a lane is made under the output right
output_of : (k : LaneKind) (s : State) (n f : ℕ) (h : LaneHold) (l : Link) → MayWriteLane k s n f h l → l.io ≡ Output
output_of (lane_kinds.write_block g tag p) s n f h l (at, x) = x.right.right
output_of (lane_kinds.fail_write g tag p faults) s n f h l (at, x) = x.right.right
output_of _ s n f h l x = absurd x

-- the block was written since its lane's last sync, or, where `fails` says so, its last write failed
abbrev IsLost : Bool → Lane → ℕ → Type 0
IsLost false ln tag = ln.unsynced tag ≡ true
IsLost true ln tag = ln.failed tag ≡ true

-- it was to be synced at the start already; this excuses no write that failed
abbrev IsExcused : Bool → (ℕ → Bool) → ℕ → Type 0
IsExcused false at_start tag = at_start tag ≡ true
IsExcused true at_start tag = ⊥

-- it has an entry that is flushed, or a backend changed it and made none, or it is excused
abbrev HasEntry : Bool → State → ℕ → Type 0
HasEntry fails s tag = IsFlushedEntered s.log.entries s.flushed tag ⊎ (IsUnentered s tag ⊎ IsExcused fails s.unsynced_at_start tag)

abbrev HaveEntries : Bool → State → Type 0
HaveEntries fails s = (tag : ℕ) → IsLost fails (s.lane (s.lane_of tag)) tag → HasEntry fails s tag

-- what a kind that is no write does to that
lost_before : (fails : Bool) (k : LaneKind) (s : State) (n : ℕ) (h : LaneHold) (ln : Lane) (tag : ℕ) → LaneAlone k s n h → IsLost fails (lane_after k ln) tag → IsLost fails ln tag
lost_before fails (lane_kinds.write_block g z p) s n h ln tag a x = absurd a
lost_before fails (lane_kinds.fail_write g z p faults) s n h ln tag a x = absurd a
lost_before false lane_kinds.sync_lane s n h ln tag a x = absurd (cc)
lost_before false _ s n h ln tag a x = x
lost_before true _ s n h ln tag a x = x

module _ (s : State) (h : Laws s) (dirty : DirtyHaveEntries s) (fails : Bool) (m : HaveEntries fails s) where
  -- a block that is written has an entry that is flushed, or it is noted
  written_now : (i q f : ℕ) (k : LaneKind) (v : View) → get_elem? s.pool.core.views i ≡ some v → q < s.lanes → f < s.pool.core.frames → (lane_hold v q).flushed ≤ s.flushed → MayWriteLane k s q f (lane_hold v q) (link v f) → IsFlushedEntered s.log.entries s.flushed (s.pool.core.frame f).tag ⊎ IsUnentered s (s.pool.core.frame f).tag
  written_now i q f k v there low inside by x = by_case (dirty f inside right.0)
    where
      tag : ℕ
      tag = (s.pool.core.frame f).tag

      output : (link v f).io ≡ Output
      output = output_of k s q f (lane_hold v q) (link v f) x

      right : ((s.pool.core.frame f).word.dirty ≡ true) × ((link v f).content ≡ Shared)
      right = (h.invariant.pool.pages.cells i v f there inside).output output

      by_case : IsEntered s.log.entries (s.pool.core.frame f).tag ⊎ (IsUnentered s (s.pool.core.frame f).tag ⊎ IsHeldUnentered s.pool.core.views f) → IsFlushedEntered s.log.entries s.flushed (s.pool.core.frame f).tag ⊎ IsUnentered s (s.pool.core.frame f).tag
      by_case (inl (n, e, of)) = inl (
        n,
        e,
        of,
        ⊎_elim
            (λ (y : end_of e ≤ lsn_of (s.pool.core.frame f).page). let z = loaded k s q f (lane_hold v q) (link v f) x in omega arith)
            (λ (y : end_of e ≤ stored_upto s (s.pool.core.frame f).tag). let z = (h.invariant.flushed_cells (s.pool.core.frame f).tag).within in omega arith)
            (output_position s h.invariant h.debts i f v there inside output n e of),
      )
      by_case (inr (inl z)) = inr z
      by_case (inr (inr (j, u, at, is))) = absurd (no_share (block_of s.pool.logged (s.pool.core.frame f).tag) (s.pool.core.frame f) (link u f) (link v f) (tallies page_shape s.pool.core.views f) (h.invariant.pool.pages.columns f inside)
          (λ k. term_le (λ (w : View). weigh k (link w f)) s.pool.core.views j u at) (λ k. term_le (λ (w : View). weigh k (link w f)) s.pool.core.views i v there) is.right right.1)

  -- what a block had, it has after a step
  later : (t : State) → ((tag : ℕ) → IsUnentered s tag → IsUnentered t tag) → (tag : ℕ) → ((k : ℕ) (x : Entry) → IsEntryOf s.log.entries tag k x → IsEntryOf t.log.entries tag k x) → s.flushed ≤ t.flushed
      → HasEntry fails s tag → IsFlushedEntered t.log.entries t.flushed tag ⊎ (IsUnentered t tag ⊎ IsExcused fails s.unsynced_at_start tag)
  later t noted tag more up (inl (k, e, of, low)) = inl (k, e, more k e of, omega arith)
  later t noted tag more up (inr (inl x)) = inr (inl (noted tag x))
  later t noted tag more up (inr (inr x)) = inr (inr x)

  -- a lane that changed
  at_lane : (q : ℕ) (ln : Lane) (tag : ℕ) → IsLost fails (put s.lane q ln (s.lane_of tag)) tag → (s.lane_of tag ≡ q → IsLost fails ln tag → IsLost fails (s.lane q) tag) → IsLost fails (s.lane (s.lane_of tag)) tag
  at_lane q ln tag x was = dite (ℕ_discrete (s.lane_of tag) q)
      (λ (e : s.lane_of tag ≡ q). subst (λ (n : ℕ). IsLost fails (s.lane n) tag) (sym e) (was e (subst (λ (y : Lane). IsLost fails y tag) (put_at s.lane q ln (s.lane_of tag) e) x)))
      (λ (o : s.lane_of tag ≢ q). subst (λ (y : Lane). IsLost fails y tag) (put_else s.lane q ln (s.lane_of tag) o) x)

  -- a write changes this of no other block
  lost_else : (b : Bool) (k : LaneKind) (q f : ℕ) (a : LaneHold) (l : Link) (ln : Lane) (tag : ℕ) → MayWriteLane k s q f a l → tag ≢ (s.pool.core.frame f).tag → IsLost b (lane_after k ln) tag → IsLost b ln tag
  lost_else false (lane_kinds.write_block g z p) q f a l ln tag (at, x) other y = sym (put_else ln.unsynced z true tag (λ e. other (e ∙ sym x.tagged))) ∙ y
  lost_else true (lane_kinds.write_block g z p) q f a l ln tag (at, x) other y = sym (put_else ln.failed z false tag (λ e. other (e ∙ sym x.tagged))) ∙ y
  lost_else false (lane_kinds.fail_write g z p faults) q f a l ln tag (at, x) other y = sym (put_else ln.unsynced z true tag (λ e. other (e ∙ sym x.tagged))) ∙ y
  lost_else true (lane_kinds.fail_write g z p faults) q f a l ln tag (at, x) other y = sym (put_else ln.failed z true tag (λ e. other (e ∙ sym x.tagged))) ∙ y
  lost_else b _ q f a l ln tag x other y = absurd x

  writes_law : (t : State) → ((tag : ℕ) → IsUnentered s tag → IsUnentered t tag) → (i q f : ℕ) (k : LaneKind) (v : View) → t.lane_of ≡ s.lane_of → t.lane ≡ put s.lane q (lane_after k (s.lane q)) → t.log.entries ≡ s.log.entries → t.flushed ≡ s.flushed → get_elem? s.pool.core.views i ≡ some v → q < s.lanes → f < s.pool.core.frames → (lane_hold v q).flushed ≤ s.flushed → MayWriteLane k s q f (lane_hold v q) (link v f)
      → (tag : ℕ) → IsLost fails (t.lane (t.lane_of tag)) tag → IsFlushedEntered t.log.entries t.flushed tag ⊎ (IsUnentered t tag ⊎ IsExcused fails s.unsynced_at_start tag)
  writes_law t noted i q f k v lane_of lane entries flushed there low inside by x tag lost = later t noted tag (λ n e of. subst (λ (es : List Entry). IsEntryOf es tag n e) (sym entries) of) (omega arith) (dite (ℕ_discrete tag (s.pool.core.frame f).tag)
      (λ (e : tag ≡ (s.pool.core.frame f).tag). subst (HasEntry fails s) (sym e) (⊎_elim (λ (y : IsFlushedEntered s.log.entries s.flushed (s.pool.core.frame f).tag). inl y) (λ (y : IsUnentered s (s.pool.core.frame f).tag). inr (inl y)) (written_now i q f k v there low inside by x)))
      (λ (o : tag ≢ (s.pool.core.frame f).tag). m tag (at_lane q (lane_after k (s.lane q)) tag (subst (λ (y : Lane). IsLost fails y tag) (λ j. lane j (lane_of j tag)) lost) (λ e y. lost_else fails k q f (lane_hold v q) (link v f) (s.lane q) tag x o y))))

by_step : (fails : Bool) {e : Event} {s t : State} → Step e s t → ((tag : ℕ) → IsUnentered s tag → IsUnentered t tag) → Laws s → DirtyHaveEntries s → HaveEntries fails s → HaveEntries fails t
by_step fails {t = t} (pools {s = s} x a) noted h d m = λ tag lost. later s h d fails m t noted tag (λ k e of. of) (omega arith) (m tag lost)
by_step fails {t = t} (lanes {s = s} i q k v there live low a alone) noted h d m = λ tag lost. later s h d fails m t noted tag (λ n e of. of) (omega arith) (m tag (at_lane s h d fails m q (lane_after k (s.lane q)) tag lost (λ e y. lost_before fails k s q (lane_hold v q) (s.lane q) tag alone y)))
by_step fails {t = t} (writes {s = s} i q f k v there live low inside a x) noted h d m = writes_law s h d fails m t noted i q f k v refl refl refl refl there low inside ((h.invariant.lanes.cells i v q there low).hold.flushed_by (is_out k s q f (lane_hold v q) (link v f) x a)) x
by_step fails {t = t} (notes {s = s} i q f done k v there live low inside a x) noted h d m = λ tag lost. later s h d fails m t noted tag (λ n e of. of) (omega arith) (m tag (at_lane s h d fails m q (s.lane q) tag lost (λ e y. y)))
by_step fails {t = t} (logs {s = s} i k v there live a record_is) noted h d m = λ tag lost. later s h d fails m t noted tag (λ n e of. of) (omega arith) (m tag lost)
by_step fails {t = t} (enters {s = s} i f p c v there live inside x) noted h d m = λ tag lost. later s h d fails m t noted tag (λ n e of. record { there = at_longer s.log.entries (new_entry s v.number c ∷ []) n e of.there; of = of.of }) (omega arith) (m tag lost)
by_step fails {t = t} (reads {s = s} i f z p v there live inside a) noted h d m = λ tag lost. later s h d fails m t noted tag (λ n e of. of) (omega arith) (m tag lost)
by_step fails {t = t} (reads_size {s = s} i fork v there live a) noted h d m = λ tag lost. later s h d fails m t noted tag (λ n e of. of) (omega arith) (m tag lost)
by_step fails {t = t} (words {s = s} i k v there live a) noted h d m = λ tag lost. later s h d fails m t noted tag (λ n e of. of) (flushed_more k s) (m tag lost)

-- what is shown by induction: of dirty frames, and of what was written
record BothHaveEntries (s : State) : Type 0 where
  unentered : IsUnenteredLaw s
  written : (fails : Bool) → HaveEntries fails s

both_kept : KeptByLaws BothHaveEntries
both_kept e s t step h x = record { unentered = unentered_kept step h.invariant x.unentered; written = λ fails. by_step fails step (noted_kept step) h x.unentered.dirty (x.written fails) }

written_open : (fails : Bool) (c : Config) (store : Store) (page : Page) → HaveEntries fails (opening c store page)
written_open false c store page = λ tag lost. inr (inr lost)
written_open true c store page = λ tag lost. absurd (cc)

both_open : (c : Config) (store : Store) (page : Page) → BothHaveEntries (opening c store page)
both_open c store page = record {
  unentered = unentered_open c store page;
  written = λ fails. written_open fails c store page;
}

both_have : (s : State) → Laws s → BothHaveEntries s
both_have s h = let r = h.reached in always BothHaveEntries both_kept s r (both_open r.config r.store r.page)

pub dirty_have : (s : State) → Laws s → DirtyHaveEntries s
dirty_have s h = (both_have s h).unentered.dirty

pub written_have : (s : State) → Laws s → WrittenHaveEntries s
written_have s h = record {
  of_unsynced = (both_have s h).written false;
  of_failed = λ tag lost. ⊎_elim
      (λ (x : IsFlushedEntered s.log.entries s.flushed tag). inl x)
      (λ (x : IsUnentered s tag ⊎ ⊥). ⊎_elim (λ (y : IsUnentered s tag). inr y) (λ (y : ⊥). absurd y) x)
      ((both_have s h).written true tag lost);
}

-- where an image of the block is among the entries its page after them is the same, whatever it was before
pub same_after : (tag k : ℕ) (es : List Entry) (e : Entry) (p : Page) (x y : Option Page) → get_elem? es k ≡ some e → e.change ≡ image tag p → page_after tag es x ≡ page_after tag es y
unfolding page_after
same_after tag k [] e p x y at is = absurd (some-ne-none e (sym at))
same_after tag zero (d ∷ es) e p x y at is = let change : d.change ≡ image tag p = ap (λ (z : Entry). z.change) (some-injective d e at) ∙ is in
    let to : (z : Option Page) → changed_page d.change (end_of d) tag z ≡ Some p = (λ z. ap (λ (c : Change). changed_page c (end_of d) tag z) change ∙ changed_image tag (end_of d) tag p z refl) in
    ap (page_after tag es) (to x ∙ sym (to y))
same_after tag (suc k) (d ∷ es) e p x y at is = same_after tag k es e p (changed_page d.change (end_of d) tag x) (changed_page d.change (end_of d) tag y) at is

-- a block has an entry, or none
pub entry_or_none : (es : List Entry) (tag : ℕ) → IsEntered es tag ⊎ ((k : ℕ) (e : Entry) → IsEntryOf es tag k e → ⊥)
entry_or_none [] tag = inr (λ k e h. some-ne-none e (sym h.there))
entry_or_none (x ∷ es) tag = ⊎_elim
    (λ (here : tag_in x.change ≡ Some tag). inl (0, x, record { there = refl; of = here }))
    (λ (other : tag_in x.change ≢ Some tag). ⊎_elim
    (λ (t : IsEntered es tag). inl (suc t.0, t.1, record { there = t.2.there; of = t.2.of }))
    (λ (none : (k : ℕ) (e : Entry) → IsEntryOf es tag k e → ⊥). inr (each_entry x es tag (λ (d : Entry). ⊥) (λ of. other of) none))
    (entry_or_none es tag))
    (is_of x.change tag)

-- what is at a place before another one of the first list
at_shorter : (l m : List Entry) (j k : ℕ) (x y : Entry) → get_elem? (l ++ m) j ≡ some x → j < k → get_elem? l k ≡ some y → get_elem? l j ≡ some x
at_shorter [] m j k x y at lt there = absurd (some-ne-none y (sym there))
at_shorter (z ∷ l) m zero k x y at lt there = at
at_shorter (z ∷ l) m (suc j) zero x y at lt there = absurd (omega arith)
at_shorter (z ∷ l) m (suc j) (suc k) x y at lt there = at_shorter l m j k x y at (omega arith) there

-- what redo can do after the log's entries is of a page, since no resize is appended yet
follows_page : (s : State) (c : Change) → CanFollow s c → is_of_page c ≡ true
follows_page s (image t q) x = refl
follows_page s (ranges t spans) x = refl
follows_page s (resize fork old new) x = absurd x

module _ (s : State) (h : HistoryInvariant s) where
  -- what survives are entries as entries may be
  pages_left : (es : List Entry) → Survives s es → AreOfPages es
  pages_left _ (first es rest is high) k e at = plain s h k e (subst (λ (l : List Entry). get_elem? l k ≡ some e) (sym is) (at_longer es rest k e at))
  pages_left _ (one_more x more bytes whole starts valid follow) k e at = ⊎_elim (λ (t : get_elem? s.log.entries k ≡ some e). plain s h k e t) (λ (t : (x ≡ e) × (k ≡ length s.log.entries)). subst (λ (y : Entry). is_of_page y.change ≡ true) t.0 (follows_page s x.change follow)) (at_end s.log.entries x e k at)

  -- an entry that is flushed survives
  early_left : (es : List Entry) → Survives s es → (tag k : ℕ) (e : Entry) → IsEntryOf s.log.entries tag k e → end_of e ≤ s.flushed → IsEntered es tag
  early_left _ (first es rest is high) tag k e of low = ⊎_elim
      (λ (t : get_elem? es k ≡ some e). (k, e, record { there = t; of = of.of }))
      (λ (t : (n : ℕ) × (get_elem? rest n ≡ some e)). absurd (let x = high t.0 e t.1 in omega arith))
      (at_both es rest k e (subst (λ (l : List Entry). get_elem? l k ≡ some e) is of.there))
  early_left _ (one_more x more bytes whole starts valid follow) tag k e of low = (k, e, record { there = at_longer s.log.entries (x ∷ []) k e of.there; of = of.of })

  -- where an entry of ranges survives, a whole page of its block does
  whole_left : RedoLaw s → (es : List Entry) → Survives s es → (tag k : ℕ) (e : Entry) (spans : List Span) → s.known tag ≡ true → get_elem? es k ≡ some e → e.change ≡ ranges tag spans → StartsAtBase s → HasWholePage es tag
  whole_left m _ (first es rest is high) tag k e spans known at change based = let there = subst (λ (l : List Entry). get_elem? l k ≡ some e) (sym is) (at_longer es rest k e at) in
      let x = m.follows based tag s.log.base k e spans (inl refl) there change known (starts_above s.log e h.log k e there) in (x.index, x.entry, x.page, at_shorter es rest x.index k x.entry e (subst (λ (l : List Entry). get_elem? l x.index ≡ some x.entry) is x.there) x.before at, x.is)
  whole_left m _ (one_more y more bytes whole starts valid follow) tag k e spans known at change based = ⊎_elim
      (λ (t : get_elem? s.log.entries k ≡ some e). let x = m.follows based tag s.log.base k e spans (inl refl) t change known (starts_above s.log e h.log k e t) in (x.index, x.entry, x.page, at_longer s.log.entries (y ∷ []) x.index x.entry x.there, x.is))
      (λ (t : (y ≡ e) × (k ≡ length s.log.entries)). let x = subst (CanFollow s) (ap (λ (z : Entry). z.change) t.0 ∙ change) follow based known in (x.0, x.1, x.2, at_longer s.log.entries (y ∷ []) x.0 x.1 x.3, x.4))
      (at_end s.log.entries y e k at)

  -- an entry of a block survives: its whole page does
  by_entry : (pages : ℕ → Option Page) (es : List Entry) (tag : ℕ) → ((k : ℕ) (e : Entry) (spans : List Span) → get_elem? es k ≡ some e → e.change ≡ ranges tag spans → HasWholePage es tag) → (k : ℕ) (e : Entry) (c : Change) → e.change ≡ c → get_elem? es k ≡ some e → tag_in c ≡ Some tag → cell pages es tag ≡ cell s.origin es tag
  by_entry pages es tag whole k e (image t p) is at of = same_after tag k es e p (pages tag) (s.origin tag) at (is ∙ ap (λ (z : ℕ). image z p) (same_Some t tag of))
  by_entry pages es tag whole k e (ranges t spans) is at of = let x = whole k e spans at (is ∙ ap (λ (z : ℕ). ranges z spans) (same_Some t tag of)) in same_after tag x.0 es x.1 x.2 (pages tag) (s.origin tag) x.3 x.4
  by_entry pages es tag whole k e (resize fork old new) is at of = absurd (cc)

  -- none does, and the block was not written since the last sync, nor did its last write fail: it is as at the start
  by_none : (pages : ℕ → Option Page) (es : List Entry) → Crashed s pages es → (tag : ℕ) → is_block s.pool.core tag ≡ true → s.known tag ≡ true → ((k : ℕ) (e : Entry) → IsEntryOf es tag k e → ⊥) → unsynced s tag ≡ false → failed s tag ≡ false → cell pages es tag ≡ cell s.origin es tag
  by_none pages es c tag block known none synced done = let valid = pages_left es c.log in let cells = h.flushed_cells tag in
      cell_absent pages es tag valid none ∙ c.stays tag synced ∙ lane_cell s h tag block known done
      ∙ after_none tag (stored_upto s tag) s.log.entries (s.origin tag) (plain s h) (λ k e of. ⊎_elim (λ (high : stored_upto s tag < end_of e). high) (λ (low : end_of e ≤ stored_upto s tag). absurd (let x = early_left es c.log tag k e of (let w = cells.within in omega arith) in none x.0 x.1 x.2)) (cases_lt (stored_upto s tag) (end_of e)))
      ∙ sym (cell_absent s.origin es tag valid none)

  module _ (m : WrittenHaveEntries s) (redo : RedoLaw s) where
    -- an excepted block has no entry that is flushed
    excepted : (pages : ℕ → Option Page) (es : List Entry) → Crashed s pages es → (tag : ℕ) → StartsSynced s tag → ((k : ℕ) (e : Entry) → IsEntryOf es tag k e → ⊥) → (unsynced s tag ≡ true) ⊎ (failed s tag ≡ true) → IsExcepted s es tag × IsUnentered s tag
    excepted pages es c tag synced none lost = (record { none = none; lost = lost }, ⊎_elim (λ (x : unsynced s tag ≡ true). by_case (m.of_unsynced tag x)) (λ (x : failed s tag ≡ true). by_failure (m.of_failed tag x)) lost)
      where
        by_case : IsFlushedEntered s.log.entries s.flushed tag ⊎ (IsUnentered s tag ⊎ (s.unsynced_at_start tag ≡ true)) → IsUnentered s tag
        by_case (inl (k, e, of, low)) = absurd (let x = early_left es c.log tag k e of low in none x.0 x.1 x.2)
        by_case (inr (inl x)) = x
        by_case (inr (inr x)) = absurd (let y = synced in cc)

        by_failure : IsFlushedEntered s.log.entries s.flushed tag ⊎ IsUnentered s tag → IsUnentered s tag
        by_failure (inl (k, e, of, low)) = absurd (let x = early_left es c.log tag k e of low in none x.0 x.1 x.2)
        by_failure (inr x) = x

    redone : CrashesRedo s
    redone pages es c tag (inl (k, e, p, at, is)) = inl (same_after tag k es e p (pages tag) (s.origin tag) at is)
    redone pages es c tag (inr (block, known, synced, based)) = ⊎_elim
        (λ (t : IsEntered es tag). inl (by_entry pages es tag (λ k e spans at is. whole_left redo es c.log tag k e spans known at is (based k e spans at is)) t.0 t.1 t.1.change refl t.2.there t.2.of))
        (λ (none : (k : ℕ) (e : Entry) → IsEntryOf es tag k e → ⊥). ⊎_elim
        (λ (written : unsynced s tag ≡ true). inr (excepted pages es c tag synced none (inl written)))
        (λ (kept : unsynced s tag ≡ false). ⊎_elim (λ (bad : failed s tag ≡ true). inr (excepted pages es c tag synced none (inr bad))) (λ (done : failed s tag ≡ false). inl (by_none pages es c tag block known none kept done)) (cases_Bool (failed s tag)))
        (cases_Bool (unsynced s tag)))
        (entry_or_none es tag)

pub crashes_redo : (s : State) → Laws s → CrashesRedo s
crashes_redo s h = redone s h.invariant (written_have s h) h.redo
