-- What the law says in the field's words.
use Rattle.std.proofs.Common.{◌≡◌, ◌≢◌, ◌⊎◌, ℕ, zero, suc, ◌+◌, ◌<◌, ◌≤◌, Bool, true, false, List, [], ◌∷◌, ◌++◌, length, Option, Some, None, get_or-set_same, inl, inr, sym, refl, ◌∙◌, subst, ⊎_elim, arith, lit<, ap}
use mathlib.Core.Logic.{dite}
use mathlib.Core.Option.{some}
use native.Mathlib.Decide.{ℕ_discrete}
use lib.ListN.{get_elem?}
use Rattle.page_layout.specs.Fields.{lsn_of}
use Rattle.pin_core.specs.declared.view.LaneHold.{LaneHold}
use Rattle.pin_core.specs.declared.view.Link.{Link}
use Rattle.pin_core.specs.declared.view.View.{View}
use Rattle.pin_core.specs.declared.view.Call.TheVariants.{Read, Sized}
use Rattle.pin_core.specs.State.{Frame, Page, link, lane_hold, no_lane, is_block, size_hold}
use Rattle.pin_core.specs.Tallies.{flag_weight, some_weight}
use Rattle.pin_core.specs.declared.view.LoadedWord.TheVariants as seen
use Rattle.page_core.specs.Kinds.{make_entry}
use Rattle.page_core.proofs.Histories as pages
use Rattle.pin_core.proofs.Tallies.{flag_count}
use Rattle.pin_core.proofs.Sizing.{shared_finds}
use Rattle.history_core.specs.Log.{sizes_after, Entry, head_size, Change, image, ranges, resize, is_image, change_size, changed_page, end_of, cell, cut}
use Rattle.history_core.specs.State.{Lane, State, stored}
use Rattle.history_core.specs.Lanes as lane_kinds
use Rattle.history_core.specs.Lanes.{swept_by, LaneKind, LaneAllowed, lane_after, lane_hold_after}
use Rattle.history_core.specs.Device.{appenders, log_weigh, resting_weight}
use Rattle.history_core.specs.Device as log
use Rattle.history_core.specs.Homes.{IsUnframed}
use Rattle.history_core.specs.Invariant.{HistoryInvariant}
use Rattle.history_core.specs.Steps.{looked, stepped, laned, lanes, paged, has_read, has_written, new_entry, MakesPage, MayWriteLane, writes, enters, reads, reads_size, has_seen_size}
use Rattle.history_core.specs.Histories.{IsReached, CallsAreLegal, ReadsAtBase, SyncsMakeDurable, JoinedAreApart, CallsAreOwn, FrontsAreReached, CallsAreInOrder, LoadedIsFlushed, LanesGoOutFlushed, NotedWritesAreDone, holds_log, LogIsHeld, WritesAreEntries, ReadsStand, WritesStand, LogBeforeData, LanesHoldFlushedPages, IsStored, CleanBlocksAreStored, FramesAreSound, FramesHoldCells, LogWords, holds_lane, LanesAreHeld, EntriesAreDurable, DeviceHoldsLog, SizesStand}
use Rattle.history_core.specs.Redo.{RedoLaw}
use Rattle.history_core.specs.Rest.{RestLaw}
use Rattle.history_core.proofs.Logs.{some_size, cell_longer, cell_none, changed_image, cut_none_below, starts_above, end_longer, bytes_length}
use Rattle.history_core.proofs.Opening.{opens}
use Rattle.history_core.proofs.Stepping.{step_keeps, run_keeps, makes_of, makes_whole, page_of, logged_there, cell_now, frame_block}
use Rattle.grid.proofs.Lists.{set_here, put_at}
use Rattle.grid.proofs.Sums.{total-count, total-none, total-same, total-add}

pub reached : (s : State) → IsReached s → HistoryInvariant s
reached s r = run_keeps r.run (opens r.config r.store r.page r.opens r.stores)

-- a view with a record appended holds the latch
weigh_split : (a : Option (List ℕ)) (b : Bool) → (b ≡ false → a ≡ None) → flag_weight b ≡ resting_weight a b + some_weight a
weigh_split None b rests = omega arith
weigh_split (Some x) true rests = refl
weigh_split (Some x) false rests = let e = rests refl in absurd (cc)

-- a frame below n has the tag, or none has
pub framed : (n : ℕ) (frame : ℕ → Frame) (tag : ℕ) → ((f : ℕ) × (f < n) × ((frame f).tag ≡ tag)) ⊎ IsUnframed n frame tag
framed zero frame tag = inr (λ f below. absurd (omega arith))
framed (suc n) frame tag = ⊎_elim
    (λ (x : (f : ℕ) × (f < n) × ((frame f).tag ≡ tag)). inl (x.0, (let b = x.1 in omega arith), x.2))
    (λ (none : IsUnframed n frame tag). dite (ℕ_discrete (frame n).tag tag) (λ e. inl (n, omega arith, e)) (λ o. inr (λ f below. dite (ℕ_discrete f n) (λ e. subst (λ (z : ℕ). (frame z).tag ≢ tag) (sym e) o) (λ other. none f (omega arith)))))
    (framed n frame tag)

pub at_last : {A : Type 0} (l : List A) (a : A) → get_elem? (l ++ a ∷ []) (length l) ≡ some a
at_last [] a = refl
at_last (x ∷ l) a = at_last l a

-- a write of a frame's page asks for the log to be flushed, and is made while the lane is out
pub loaded : (k : LaneKind) (s : State) (n f : ℕ) (h : LaneHold) (l : Link) → MayWriteLane k s n f h l → lsn_of (s.pool.core.frame f).page ≤ h.flushed
loaded (lane_kinds.write_block g tag p) s n f h l (at, x) = subst (λ (z : Page). lsn_of z ≤ h.flushed) (sym x.page) x.log_first
loaded (lane_kinds.fail_write g tag p faults) s n f h l (at, x) = x.log_first
loaded lane_kinds.take_lane s n f h l x = absurd x
loaded lane_kinds.leave_lane s n f h l x = absurd x
loaded (lane_kinds.lane_out taken) s n f h l x = absurd x
loaded (lane_kinds.read_block tag p) s n f h l x = absurd x
loaded (lane_kinds.fail_read tag faults) s n f h l x = absurd x
loaded lane_kinds.sync_lane s n f h l x = absurd x
loaded (lane_kinds.fail_sync faults) s n f h l x = absurd x
loaded (lane_kinds.lane_back noted) s n f h l x = absurd x

pub is_out : (k : LaneKind) (s : State) (n f : ℕ) (h : LaneHold) (l : Link) → MayWriteLane k s n f h l → LaneAllowed k (s.lane n) h → h.out ≢ None
is_out (lane_kinds.write_block g tag p) s n f h l x a = a.out
is_out (lane_kinds.fail_write g tag p faults) s n f h l x a = a.call.out
is_out lane_kinds.take_lane s n f h l x a = absurd x
is_out lane_kinds.leave_lane s n f h l x a = absurd x
is_out (lane_kinds.lane_out taken) s n f h l x a = absurd x
is_out (lane_kinds.read_block tag p) s n f h l x a = absurd x
is_out (lane_kinds.fail_read tag faults) s n f h l x a = absurd x
is_out lane_kinds.sync_lane s n f h l x a = absurd x
is_out (lane_kinds.fail_sync faults) s n f h l x a = absurd x
is_out (lane_kinds.lane_back noted) s n f h l x a = absurd x

-- a lane's sync makes what it holds durable
pub syncs : (s : State) → SyncsMakeDurable s
syncs s _ _ tag t (lanes i n k v there live low a alone) same = ap (λ (y : Lane). y.synced_upto tag) (put_at s.lane n (lane_after k (s.lane n)) (s.lane_of tag) same) ∙ ap (λ (z : ℕ). (s.lane z).stored_upto tag) (sym same)

-- a whole page is the block's page once it is entered
cell_made : (origin : ℕ → Option Page) (es : List Entry) (e : Entry) (tag : ℕ) (p : Page) (l : Link) → is_image e.change ≡ true → MakesPage e.change (end_of e) tag p l → cell origin (es ++ e ∷ []) tag ≡ Some p
cell_made origin es e tag p l whole makes = cell_longer origin es e tag ∙ by_change e.change whole makes
  where
    by_change : (c : Change) → is_image c ≡ true → MakesPage c (end_of e) tag p l → changed_page c (end_of e) tag (cell origin es tag) ≡ Some p
    by_change (image t q) whole makes = changed_image t (end_of e) tag q (cell origin es tag) (sym makes.0) ∙ ap (λ (x : Page). Some x) makes.1
    by_change (ranges t spans) whole makes = absurd (cc)
    by_change (resize fork old new) whole makes = absurd makes

module _ (s : State) (h : HistoryInvariant s) where
  pub legal : CallsAreLegal s
  legal i k v c there at = (h.history.calls i v there).legal k c at

  pub own : CallsAreOwn s
  own i k v c there at = (h.history.calls i v there).own k c at

  pub apart : JoinedAreApart s
  apart = h.history.kept

  pub fronts : FrontsAreReached s
  fronts i v there live = let c = h.history.calls i v there in record { from_base = c.from_base live; above = c.fronted; reached = c.reached live }

  pub entries : WritesAreEntries s
  entries = record { counted = h.history.counted; once = h.history.once }

  pub reads_stand : ReadsStand s
  reads_stand _ _ t (reads i f tag p v there live inside a) = let w : View = looked (seen.LogEnd s.end) (has_read s.end tag p v) in let here = set_here s.pool.core.views i v w there in let k = step_keeps (reads i f tag p v there live inside a) h in
      let c = h.history.calls i v there in let e = h.ends in let is : tag ≡ (s.pool.core.frame f).tag = sym ((h.pool.core.grid.cells i v f there inside).remembers tag a.remembered).1 in
      let cell_is : s.known tag ≡ true → cell s.origin (cut s.end s.log.entries) tag ≡ Some p = ((k.history.calls i w here).legal (length v.calls) (Read v.number tag p s.end) (at_last v.calls (Read v.number tag p s.end))).reads in (
        v,
        w,
        there,
        here,
        record {
          page = p;
          copied = a.copied;
          remembered = a.remembered ∙ ap (λ (z : ℕ). Some z) is;
          added = ap (λ (z : ℕ). v.calls ++ Read v.number z p s.end ∷ []) is;
          front = refl;
          place_loads = refl;
          is_cell = subst (λ (z : ℕ). s.known z ≡ true → cell s.origin (cut s.end s.log.entries) z ≡ Some p) is cell_is;
          later = λ j x at. let y = c.fronted j x at in let z = c.within in omega arith;
          above = let z = c.within in omega arith;
        },
      )

  pub sizes_stand : SizesStand s
  sizes_stand _ _ t (reads_size i fork v there live a) = let n : ℕ = (size_hold v fork).blocks in let w : View = looked (seen.LogEnd s.end) (has_seen_size s.end fork n v) in let here = set_here s.pool.core.views i v w there in let k = step_keeps (reads_size i fork v there live a) h in
      let c = h.history.calls i v there in let e = h.ends in let finds = shared_finds s.pool.core h.pool.sizes i fork v there a in
      let sees : sizes_after (cut s.end s.log.entries) s.opened_sizes fork ≡ n = ((k.history.calls i w here).legal (length v.calls) (Sized v.number fork n s.end) (at_last v.calls (Sized v.number fork n s.end))).sees in (
        v,
        w,
        there,
        here,
        record {
          blocks = n;
          shared = a;
          found = refl;
          added = refl;
          front = refl;
          place_loads = refl;
          sees = sees;
          later = λ j x at. let y = c.fronted j x at in let z = c.within in omega arith;
          above = let z = c.within in omega arith;
        },
      )

  -- no entry ends at the base
  none_cut : cut s.log.base s.log.entries ≡ []
  none_cut = cut_none_below s.log.base s.log.entries (λ k e at. let x = starts_above s.log e h.log k e at in omega (arith, some_size e.change))

  pub at_base : ReadsAtBase s
  at_base i k backend tag page v there at known = sym (cell_none s.origin tag) ∙ ap (λ (es : List Entry). cell s.origin es tag) (sym none_cut) ∙ ((h.history.calls i v there).legal k (Read backend tag page s.log.base) at).reads known

  pub writes_stand : WritesStand s
  writes_stand _ _ _ _ t (enters i f p ch v there live inside a) = let tag = (s.pool.core.frame f).tag in let w : View = has_written ch (link v f).copied (s.end + change_size ch) tag p (paged (make_entry p) s.pool f v) in let here = set_here s.pool.core.views i v w there in
      let c = h.history.calls i v there in let e = h.ends in let entry = new_entry s v.number ch in let end' = s.end + change_size ch in let l = link v f in (
        v,
        w,
        there,
        here,
        record {
          of = makes_of ch end' tag p l a.makes;
          logged = refl;
          end = sym (end_longer s.log entry h.log);
          longer = refl;
          added = refl;
          front = refl;
          image_is = λ q is. makes_whole ch end' tag p l a.makes tag q is;
          position = a.ends;
          is_cell = ⊎_elim (λ (whole : is_image ch ≡ true). cell_made s.origin s.log.entries (new_entry s v.number ch) tag p l whole a.makes) (λ (known : s.known tag ≡ true). cell_now s h i f p ch v there live inside a known);
          above = let z = c.within in omega (arith, some_size ch);
        },
      )

  pub durable : EntriesAreDurable s
  durable k e there low = let starts = starts_above s.log e h.log k e there in let x = h.durable (omega (arith, some_size e.change)) in omega arith

  pub log_first : LogBeforeData s
  log_first _ _ _ _ t (writes i n f k v there live low inside back x) = let before = loaded k s n f (lane_hold v n) (link v f) x in let by = (h.lanes.cells i v n there low).hold.flushed_by (is_out k s n f (lane_hold v n) (link v f) x back) in (
    v,
    there,
    record { loaded = before; flushed = by; durable = λ j e at upto. durable j e at (omega arith) },
  )

  pub go_out_flushed : LanesGoOutFlushed s
  go_out_flushed _ _ taken t (lanes i n k v there live low a alone) = let l : LaneHold = lane_hold_after k v.flushed (swept_by v) (lane_hold v n) in let w : View = stepped (laned k n v v) in (
    v,
    w,
    there,
    set_here s.pool.core.views i v w there,
    ap (λ (x : LaneHold). x.flushed) (get_or-set_same v.lanes n l no_lane (subst (λ (m : ℕ). n < m) (sym (h.wide i v there live)) low)),
  )

  pub loaded_flushed : LoadedIsFlushed s
  loaded_flushed i v there = (h.history.calls i v there).loaded

  pub in_order : CallsAreInOrder s
  in_order i v there = (h.history.calls i v there).in_order

  pub noted_done : NotedWritesAreDone s
  noted_done i f v there below done = let x = (h.homes.cells i v f there below).written done in record { done = x.done; stored_is = x.stored }

  pub log_held : LogIsHeld s
  log_held = let views = s.pool.core.views in let column = h.device.columns 0 (lit< tt) in
      let same = total-same (λ (v : View). flag_weight v.log.held) (λ (v : View). log_weigh log.holders v.log + log_weigh appenders v.log) views (λ i v there. weigh_split v.log.appended v.log.held (λ e. ((h.device.cells i v 0 there (lit< tt)).resting e).1)) in
      let sums = total-add (λ (v : View). log_weigh log.holders v.log + log_weigh appenders v.log) (λ (v : View). log_weigh log.holders v.log) (λ (v : View). log_weigh appenders v.log) (λ v. refl) views in
      sym (total-count (λ (v : View). flag_weight v.log.held) holds_log (λ v. flag_count v.log.held) views) ∙ same ∙ sums ∙ sym column.taken ∙ flag_count s.device.taken

  pub lanes_hold : LanesHoldFlushedPages s
  lanes_hold = h.flushed_cells

  stored_is : (tag : ℕ) → (s.known tag ≡ true → s.pool.logged tag ≡ stored s tag) → s.known tag ≡ true → stored s tag ≡ cell s.origin s.log.entries tag
  stored_is tag e known = sym (e known) ∙ h.logged tag known

  pub clean_stored : CleanBlocksAreStored s
  clean_stored tag named block none = ⊎_elim
      (λ (x : (f : ℕ) × (f < s.pool.core.frames) × ((s.pool.core.frame f).tag ≡ tag)). let c = (h.homes.columns x.0 x.1).clean (λ e. named (sym x.2 ∙ e)) (none x.0 x.1 x.2) in let there = ap (is_block s.pool.core) x.2 ∙ block in subst (IsStored s) x.2 (record { done = c.done there; stored_is = stored_is (s.pool.core.frame x.0).tag (c.stored there) }))
      (λ (free : IsUnframed s.pool.core.frames s.pool.core.frame tag). let c = h.unframed tag named free in record { done = c.done block; stored_is = stored_is tag (c.stored block) })
      (framed s.pool.core.frames s.pool.core.frame tag)

  pub sound : FramesAreSound s
  sound = pages.sound s.pool h.pool

  pub hold_cells : FramesHoldCells s
  hold_cells f known below tag valid none = let t = (s.pool.core.frame f).tag in let e = logged_there s h t (frame_block s h f below tag.named) known in sym (h.logged t known) ∙ e ∙ ap (λ (q : Page). Some q) (sym (pages.frames_hold s.pool h.pool f (page_of s t) below tag valid none e))

  pub words : RedoLaw s → LogWords s
  words m = record { ends = h.ends; bytes = bytes_length s.names s.log h.named h.log ∙ ap (λ (n : ℕ). head_size + n) (sym h.ends); limit = h.limit; flushed_from = h.flushed_from; flushed_to = h.flushed_to; redo_from = m.highest.from; redo_to = m.within }

  pub held : LanesAreHeld s
  held n below = sym (total-count (λ (v : View). flag_weight (lane_hold v n).held) (holds_lane n) (λ v. flag_count (lane_hold v n).held) s.pool.core.views) ∙ sym (h.lanes.columns n below).taken ∙ flag_count (s.lane n).taken

  pub device_holds : RestLaw s → DeviceHoldsLog s
  device_holds m = let d = h.device.columns 0 (lit< tt) in record {
    whole = λ up none. d.bytes (total-none (λ (v : View). log_weigh appenders v.log) s.pool.core.views (λ i v there. ap some_weight (none i v there))) up;
    left = λ e. m.behind;
    down = d.down;
    rose = d.rose;
    saw = λ i v there. (h.device.cells i v 0 there (lit< tt)).saw;
  }
