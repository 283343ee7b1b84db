-- Each step keeps the law, and so does each list of steps.
use Rattle.std.proofs.Common.{◌≡◌, ◌≢◌, ℕ, inl, inr, ◌+◌, ◌<◌, ◌≤◌, cond, Bool, true, false, List, [], ◌∷◌, ◌++◌, length, set, Option, Some, None, length-set, get_or-set_same, get_or-set_other, sym, refl, ap, ◌∙◌, subst, arith, lit<, ⊎_elim}
use Rattle.std.proofs.lemmas.Bool.{both_ways, false≢true}
use Rattle.std.proofs.lemmas.Option.{same_Some}
use Rattle.std.specs.Prelude.{max, unwrap_or, nat_lt}
use Rattle.std.specs.Option.{is_some}
use mathlib.Core.Logic.{dite}
use mathlib.Core.Option.{some}
use native.Mathlib.Decide.{ℕ_discrete}
use lib.ListN.{get_elem?}
use Rattle.page_layout.specs.Fields.{lsn_of}
use Rattle.pin_core.specs.declared.view.Content.TheVariants.{Unlocked, Exclusive}
use Rattle.pin_core.specs.declared.view.Io.TheVariants.{Input}
use Rattle.pin_core.specs.declared.view.LaneHold.{LaneHold}
use Rattle.pin_core.specs.declared.view.LogHold.{LogHold}
use Rattle.pin_core.specs.declared.view.Link.{Link}
use Rattle.pin_core.specs.declared.view.View.{View}
use Rattle.pin_core.specs.declared.view.ImageTest.{ImageTest}
use Rattle.pin_core.specs.declared.view.Call.TheVariants.{Read, Sized}
use Rattle.pin_core.specs.declared.view.SizeRight.TheVariants as size_right
use Rattle.pin_core.proofs.Sizing.{shared_finds}
use Rattle.pin_core.specs.declared.view.LoadedWord.TheVariants as seen
use Rattle.pin_core.specs.State.{Frame, Page, no_tag, tag_fork, tag_block, is_block, idle, link, hold, lane_hold, new_view, emptied_view, joined_view, size_hold}
use Rattle.pin_core.specs.State as pins
use Rattle.pin_core.specs.Tallies as pin_tallies
use Rattle.pin_core.specs.Tallies.{frame_shape}
use Rattle.pin_core.specs.Invariant.{FrameLaw, LinkLaw, HasTag}
use Rattle.pin_core.specs.Kinds as pin_kinds
use Rattle.pin_core.specs.Turns.{view_turned}
use Rattle.pin_core.specs.Sizes.{SizeKind, SizeAllowed, view_sized, state_sized}
use Rattle.pin_core.specs.Steps as pin_steps
use Rattle.pin_core.proofs.Views.{link_new}
use Rattle.pin_core.proofs.Stepping as pin_stepping
use Rattle.page_core.specs.State as page
use Rattle.page_core.specs.State.{Block, block_of, zero_page}
use Rattle.page_core.specs.Tallies.{sharers, weigh, page_shape}
use Rattle.page_core.specs.Invariant as page_law
use Rattle.page_core.specs.Invariant.{PageLink}
use Rattle.page_core.specs.Kinds as kinds
use Rattle.page_core.specs.Kinds.{Kind, note_read, begin_write, note_write, make_entry, Allowed, frame_after, block_after, link_after}
use Rattle.page_core.specs.Steps as page_steps
use Rattle.page_core.specs.Steps.{logged_after, logged_sized, logged_by}
use Rattle.pin_core.proofs.Stepping.{sized_links}
use Rattle.pin_core.proofs.SizeSchedules.{tag_words, same_sizes}
use Rattle.page_core.proofs.Stepping.{quiet_logged}
use Rattle.page_core.proofs.Cases.{tag_kept}
use Rattle.page_core.proofs.Stepping as page_stepping
use Rattle.page_core.proofs.Stepping.{new_none}
use Rattle.history_core.specs.Log.{is_of_page, record_size, AreOfPages, Entry, IsImage, change_size, cell, log_bytes, record_bytes, Change, image, ranges, resize, IsChange, IsEntryOf, HasImage, end_of, log_end, tag_in, changed_page, cut}
use Rattle.history_core.specs.State.{Lane, Device, State, stored, stored_upto, failed}
use Rattle.history_core.specs.Lanes as lane_kinds
use Rattle.history_core.specs.Lanes.{swept_by, LaneKind, LaneAllowed, lane_after, lane_hold_after, lane_shape, lane_part}
use Rattle.history_core.specs.Homes.{Home, home_of, IsClean, HomeLink, home_shape, home_part, IsUnframed, AddsBlock, IsUnwrittenNew, IsFlushedCell}
use Rattle.history_core.specs.Invariant.{HistoryLaw, written_of, HistoryInvariant}
use Rattle.history_core.specs.Steps.{has_seen_size, Event, IsPlain, PoolAllowed, stepped, looked, aside, pool_after, pool_noting, CanNoteLaneRead, paged, laned, LaneAlone, CanWrite, MayWriteLane, Notes, new_entry, CanEnter, CanRead, has_read, logged_as, test_of, MaySkipImage, has_written, Step, pools, lanes, writes, notes, enters, reads, logs, Run, rests, goes, words, after_word, state_after_word, has_raised, MakesPage, reads_size}
use Rattle.history_core.specs.Words.{WordKind, load_end, begin_checkpoint, load_flushed, raise_flushed, load_redo, raise_redo, WordAllowed}
use Rattle.history_core.specs.Device.{LogKind, take_log, leave_log, log_out, append, fail_append, sync_log, fail_sync, log_back, see_down, LogAllowed, device_after, view_logged, log_weigh, log_shape, log_part}
use Rattle.history_core.proofs.Device.{log_keeps, enter_keeps, end_keeps, redo_keeps, synced_all}
use Rattle.history_core.proofs.Calls.{SameCalls, history_same, history_read, history_sized, history_written, history_loaded, history_raised}
use Rattle.history_core.proofs.Logs.{bytes_longer, bytes_length, cell_longer, cut_longer, cell_at_position, end_longer, log_longer, some_size, changed_else, changed_image, changed_ranges, cut_all, entry_longer, ends_below, end_above}
use Rattle.history_core.proofs.Lanes.{lane_later}
use Rattle.history_core.proofs.Forgetting.{forgets}
use Rattle.history_core.proofs.Homes as homes
use Rattle.history_core.proofs.Homes.{known, pages_home_after, Keeps_by}
use Rattle.history_core.proofs.Pools.{SameHere, pool_aside, pool_touched}
use Rattle.history_core.proofs.Beginning.{BegunHere, pool_begun, homes_begun}
use Rattle.history_core.proofs.Outer.{Outer, outer_same, outer_grows, outer_joins, lanes_touched, wide_set}
use Rattle.history_core.proofs.Blocks.{plain_keeps, plain_block, StoresClean, pins_keep, tag_goes, lacked, written_is_logged, Blocks, no_link, home_forgets, unframed_put, still_unframed}
use Rattle.grid.specs.Shape.{Grid, put, tallies}
use Rattle.grid.proofs.Lists.{at_longer, put_here, put_at, put_else, put_same, set_else, at_end}
use Rattle.grid.proofs.Sums.{term_le}
use Rattle.grid.proofs.Grids.{Keeps, Relinks, both_grids, touch, sweep, steady, steady_alike, reblock, grows}
use Rattle.history_core.proofs.Sizes.{sizes_longer, sizes_still}

-- each entry is of a page, since forks don't grow and shrink yet
pub plain : (s : State) → HistoryInvariant s → AreOfPages s.log.entries
plain s h = h.of_pages h.quiet

-- the laws of a state, by what they speak of
pub outer_of : (s : State) → HistoryInvariant s → Outer s.known s.origin s.opened_sizes s.log s.lanes s.lane s.flushed (written_of s) s.device s.pool.core.views
outer_of s h = record { device = h.device; history = h.history; lanes = h.lanes; wide = h.wide }

pub blocks_of : (s : State) → HistoryInvariant s → Blocks s.pool.core.frames s.pool.core.frame s.pool.core.views s.origin s.log s.flushed (home_of s)
blocks_of s h = record { homes = h.homes; unframed = h.unframed; flushed_cells = h.flushed_cells }

knows : (s : State) → HistoryInvariant s → Grid home_shape known s.pool.core.frames s.pool.core.frame (home_of s) s.pool.core.views
knows s h = let g = page_stepping.knows s.pool h.pool in both_grids (record { columns = g.columns; cells = g.cells }) h.homes

-- what is known of each block with these pages after the log, and these lanes
abbrev homes_with : State → (ℕ → Option Page) → (ℕ → Lane) → ℕ → Home
homes_with s logged lane tag = record { inside = is_block s.pool.core tag; block = block_of logged tag; known = s.known tag; stored = (lane (s.lane_of tag)).stored tag; stored_upto = (lane (s.lane_of tag)).stored_upto tag; failed = (lane (s.lane_of tag)).failed tag; held = s.held tag }

-- what pools begin with, and the sizes of forks by the log, are the same
record SameSizes (s t : pins.State) : Type 0 where
  base : t.base ≡ s.base
  resizes : t.resizes ≡ s.resizes
  sizes : (fork : ℕ) → (t.size fork).logged ≡ (s.size fork).logged

all_same : (s t : pins.State) → t.base ≡ s.base → t.resizes ≡ s.resizes → t.size ≡ s.size → SameSizes s t
all_same s t base resizes sizes = record { base = base; resizes = resizes; sizes = λ fork. ap (λ (g : ℕ → pins.SizeWord). (g fork).logged) sizes }

-- a state with another buffer pool and other lanes, where the log stays
assemble : (s : State) → HistoryInvariant s → (pool' : page.State) (lane' : ℕ → Lane) → page_law.PageInvariant pool' → ((tag : ℕ) → s.known tag ≡ true → pool'.logged tag ≡ cell s.origin s.log.entries tag) → ((tag : ℕ) → (lane' (s.lane_of tag)).known ≡ s.known tag) → SameSizes s.pool.core pool'.core
    → Outer s.known s.origin s.opened_sizes s.log s.lanes lane' s.flushed (written_of s) s.device pool'.core.views → Blocks pool'.core.frames pool'.core.frame pool'.core.views s.origin s.log s.flushed (homes_with s pool'.logged lane') → HistoryInvariant (record s { pool = pool'; lane = lane' })
assemble s h pool' lane' law logged known kept outer blocks = record {
  pool = law;
  logged = logged;
  sizes = λ fork. kept.sizes fork ∙ h.sizes fork;
  quiet = kept.resizes ∙ h.quiet;
  of_pages = λ e. h.of_pages (sym kept.resizes ∙ e);
  there = λ tag block is. h.there tag (ap (λ (n : ℕ). nat_lt (tag_block tag) n) (sym (kept.sizes (tag_fork tag))) ∙ block) is;
  pages = h.pages;
  known = known;
  log = h.log;
  based = kept.base ∙ h.based;
  ends = h.ends;
  limit = h.limit;
  flushed_from = h.flushed_from;
  flushed_to = h.flushed_to;
  named = h.named;
  durable = h.durable;
  device = outer.device;
  history = outer.history;
  lanes = outer.lanes;
  wide = outer.wide;
  placed = h.placed;
  homes = now.homes;
  unframed = now.unframed;
  flushed_cells = now.flushed_cells;
}
  where
    now : Blocks pool'.core.frames pool'.core.frame pool'.core.views s.origin s.log s.flushed (home_of (record s { pool = pool'; lane = lane' }))
    now = subst (λ (g : ℕ → Home). Blocks pool'.core.frames pool'.core.frame pool'.core.views s.origin s.log s.flushed g)
        (λ j tag. record (homes_with s pool'.logged lane' tag) { inside = nat_lt (tag_block tag) (sym (kept.sizes (tag_fork tag)) j) }) blocks

-- and where each block's page after the log stays
assemble_same : (s : State) → HistoryInvariant s → (pool' : page.State) (lane' : ℕ → Lane) → page_law.PageInvariant pool' → pool'.logged ≡ s.pool.logged → ((tag : ℕ) → (lane' (s.lane_of tag)).known ≡ s.known tag) → SameSizes s.pool.core pool'.core
    → Outer s.known s.origin s.opened_sizes s.log s.lanes lane' s.flushed (written_of s) s.device pool'.core.views → Blocks pool'.core.frames pool'.core.frame pool'.core.views s.origin s.log s.flushed (homes_with s s.pool.logged lane') → HistoryInvariant (record s { pool = pool'; lane = lane' })
assemble_same s h pool' lane' law same known kept outer blocks = assemble s h pool' lane' law (λ tag is. (λ j. same j tag) ∙ h.logged tag is) known kept outer
    (subst (λ (g : ℕ → Option Page). Blocks pool'.core.frames pool'.core.frame pool'.core.views s.origin s.log s.flushed (homes_with s g lane')) (sym same) blocks)

-- what a lane that takes another's place has alike
pub lane_put : {A : Type 0} (g : Lane → A) (lane : ℕ → Lane) (q : ℕ) (ln : Lane) → g ln ≡ g (lane q) → (x : ℕ) → g (put lane q ln x) ≡ g (lane x)
lane_put g lane q ln same x = dite (ℕ_discrete x q) (λ e. ap g (put_at lane q ln x e) ∙ same ∙ ap (λ (z : ℕ). g (lane z)) (sym e)) (λ o. ap g (put_else lane q ln x o))

-- a lane takes another's place, which holds something else for one block
pub lane_written : {A : Type 0} (lane_of : ℕ → ℕ) (lane : ℕ → Lane) (q : ℕ) (ln : Lane) (tag : ℕ) (g : Lane → ℕ → A) (a : A) → lane_of tag ≡ q → g ln ≡ put (g (lane q)) tag a → (t : ℕ) → g (put lane q ln (lane_of t)) t ≡ put (λ (z : ℕ). g (lane (lane_of z)) z) tag a t
lane_written lane_of lane q ln tag g a is e t = let all = (λ (z : ℕ). g (lane (lane_of z)) z) in dite (ℕ_discrete t tag)
    (λ (same : t ≡ tag). ap (λ (y : Lane). g y t) (put_at lane q ln (lane_of t) (ap lane_of same ∙ is)) ∙ (λ j. e j t) ∙ put_at (g (lane q)) tag a t same ∙ sym (put_at all tag a t same))
    (λ (other : t ≢ tag). dite (ℕ_discrete (lane_of t) q)
    (λ (at : lane_of t ≡ q). ap (λ (y : Lane). g y t) (put_at lane q ln (lane_of t) at) ∙ (λ j. e j t) ∙ put_else (g (lane q)) tag a t other ∙ ap (λ (z : ℕ). g (lane z) t) (sym at) ∙ sym (put_else all tag a t other))
    (λ (o : lane_of t ≢ q). ap (λ (y : Lane). g y t) (put_else lane q ln (lane_of t) o) ∙ sym (put_else all tag a t other)))

-- The lane holds what it held
pub record HoldsSame (a b : Lane) : Type 0 where
  pub stored : a.stored ≡ b.stored
  pub upto : a.stored_upto ≡ b.stored_upto
  pub failed : a.failed ≡ b.failed

homes_same : (s : State) (logged : ℕ → Option Page) (q : ℕ) (ln : Lane) → HoldsSame ln (s.lane q) → homes_with s logged s.lane ≡ homes_with s logged (put s.lane q ln)
homes_same s logged q ln same = λ j tag. record {
  inside = is_block s.pool.core tag;
  block = block_of logged tag;
  known = s.known tag;
  stored = sym (lane_put (λ (x : Lane). x.stored tag) s.lane q ln (λ i. same.stored i tag) (s.lane_of tag)) j;
  stored_upto = sym (lane_put (λ (x : Lane). x.stored_upto tag) s.lane q ln (λ i. same.upto i tag) (s.lane_of tag)) j;
  failed = sym (lane_put (λ (x : Lane). x.failed tag) s.lane q ln (λ i. same.failed i tag) (s.lane_of tag)) j;
  held = s.held tag;
}

-- a kind at a lane that is no write leaves what the lane holds
pub no_write_holds : (k : LaneKind) (s : State) (q : ℕ) (x : LaneHold) (ln : Lane) → LaneAlone k s q x → HoldsSame (lane_after k ln) ln
no_write_holds (lane_kinds.write_block f tag p) s q x ln a = absurd a
no_write_holds (lane_kinds.fail_write f tag p faults) s q x ln a = absurd a
no_write_holds _ s q x ln a = record { stored = refl; upto = refl; failed = refl }

-- whether a lane's contents are known stays
still_known : (k : LaneKind) (ln : Lane) → (lane_after k ln).known ≡ ln.known
still_known lane_kinds.take_lane ln = refl
still_known lane_kinds.leave_lane ln = refl
still_known (lane_kinds.fail_read tag faults) ln = refl
still_known (lane_kinds.write_block f tag p) ln = refl
still_known (lane_kinds.fail_write f tag p faults) ln = refl
still_known (lane_kinds.fail_sync faults) ln = refl
still_known _ ln = refl

known_after : (s : State) → HistoryInvariant s → (k : LaneKind) (q tag : ℕ) → (put s.lane q (lane_after k (s.lane q)) (s.lane_of tag)).known ≡ s.known tag
known_after s h k q tag = lane_put (λ (x : Lane). x.known) s.lane q (lane_after k (s.lane q)) (still_known k (s.lane q)) (s.lane_of tag) ∙ h.known tag

some_of : (o : Option Page) → is_some o ≡ true → o ≡ Some (unwrap_or o [])
some_of None e = absurd (cc)
some_of (Some p) e = refl

-- the page of a block after the log
abbrev pub page_of : State → ℕ → Page
page_of s tag = unwrap_or (cell s.origin s.log.entries tag) []

-- it is known of a block of the relations, where the contents of its lane are
pub logged_there : (s : State) → HistoryInvariant s → (tag : ℕ) → is_block s.pool.core tag ≡ true → s.known tag ≡ true → s.pool.logged tag ≡ Some (page_of s tag)
logged_there s h tag block known = h.logged tag known ∙ some_of (cell s.origin s.log.entries tag) (h.there tag block known)

pub exclusive_not_unlocked : {c : _} → c ≡ Exclusive → c ≡ Unlocked → ⊥
exclusive_not_unlocked a e = cc

no_resize : (g o n : ℕ) → is_of_page (resize g o n) ≡ true → ⊥
no_resize g o n x = absurd (cc)

-- a block that was fresh stays so, where the log has one entry more, of a page
fresh_longer : (es : List Entry) (x : Entry) (tag : ℕ) (a b : Home) → is_of_page x.change ≡ true → b.inside ≡ a.inside → b.stored_upto ≡ a.stored_upto → b.stored ≡ a.stored → b.held ≡ a.held → IsUnwrittenNew es tag a → IsUnwrittenNew (es ++ x ∷ []) tag b
fresh_longer es x tag a b of_page inside upto stored held is = record {
  fresh = ⊎_elim (λ (y : a.inside ≡ false). inl (inside ∙ y)) (λ (y : AddsBlock es a.stored_upto tag). inr (record {
    index = y.index;
    entry = y.entry;
    there = at_longer es (x ∷ []) y.index y.entry y.there;
    grows = y.grows;
    past = subst (λ (n : ℕ). n < end_of y.entry) (sym upto) y.past;
    kept = λ j d fork old new lt at c less. ⊎_elim (λ (t : get_elem? es j ≡ some d). y.kept j d fork old new lt t c less) (λ (t : (x ≡ d) × (j ≡ length es)). absurd (no_resize fork old new (subst (λ (z : Change). is_of_page z ≡ true) (ap (λ (z : Entry). z.change) t.0 ∙ c) of_page))) (at_end es x d j at);
  })) is.fresh;
  page = ⊎_elim (λ (y : a.stored ≡ Some zero_page). inl (stored ∙ y)) (λ (y : a.stored ≡ a.held). inr (stored ∙ y ∙ sym held)) is.page;
}

-- What a change makes
pub makes_of : (c : Change) (end tag : ℕ) (p : Page) (l : Link) → MakesPage c end tag p l → tag_in c ≡ Some tag
makes_of (image t q) end tag p l m = ap (λ (z : ℕ). Some z) m.0
makes_of (ranges t spans) end tag p l m = ap (λ (z : ℕ). Some z) m.0
makes_of (resize fork old new) end tag p l m = absurd m

pub makes_valid : (c : Change) (end tag : ℕ) (p : Page) (l : Link) → IsImage end p → MakesPage c end tag p l → IsChange end c
makes_valid (image t q) end tag p l v m = subst (IsImage end) (sym m.1) v
makes_valid (ranges t spans) end tag p l v m = m.1.valid
makes_valid (resize fork old new) end tag p l v m = absurd m

pub makes_page_entry : (c : Change) (end tag : ℕ) (p : Page) (l : Link) → MakesPage c end tag p l → is_of_page c ≡ true
makes_page_entry (image t q) end tag p l m = refl
makes_page_entry (ranges t spans) end tag p l m = refl
makes_page_entry (resize fork old new) end tag p l m = absurd m

pub makes_whole : (c : Change) (end tag : ℕ) (p : Page) (l : Link) → MakesPage c end tag p l → (t : ℕ) (q : Page) → c ≡ image t q → q ≡ p
makes_whole (image u r) end tag p l m t q e = let same : r ≡ p = m.1 in cc
makes_whole (ranges u spans) end tag p l m t q e = absurd (cc)
makes_whole (resize fork old new) end tag p l m t q e = absurd m

module _ (s : State) (h : HistoryInvariant s) where
  abbrev views : List View
  views = s.pool.core.views

  abbrev n : ℕ
  n = s.pool.core.frames

  abbrev frame : ℕ → Frame
  frame = s.pool.core.frame

  wide_links : (i f : ℕ) (v : View) → get_elem? views i ≡ some v → v.emptied ≡ false → f < n → f < length v.links
  wide_links i f v there live inside = subst (λ (m : ℕ). f < m) (sym (h.pool.core.views.wide i v there live).0) inside

  -- the frame f and the view of backend i change, where the view's link there becomes l
  pub relinks : (i f : ℕ) (v w : View) (l : Link) → get_elem? views i ≡ some v → v.emptied ≡ false → f < n → w.links ≡ set v.links f l → Relinks home_shape v w f l
  relinks i f v w l there live inside e = record {
    own = refl;
    here = ap (λ (x : List Link). link (record w { links = x }) f) e ∙ get_or-set_same v.links f l idle (wide_links i f v there live inside);
    else = λ g other. ap (λ (x : List Link). link (record w { links = x }) g) e ∙ get_or-set_other v.links f g l idle other;
  }

  touched : (i f : ℕ) (v w : View) (fr : Frame) (l : Link) → get_elem? views i ≡ some v → v.emptied ≡ false → f < n → w.links ≡ set v.links f l → (home' : ℕ → Home) → ((g : ℕ) → g < n → g ≢ f → home' (frame g).tag ≡ home_of s (frame g).tag)
      → Keeps home_shape known home_part (home_of s (frame f).tag) (home' fr.tag) tt tt (frame f) (link v f) fr l → Grid home_shape home_part n (put frame f fr) home' (set views i w)
  touched i f v w fr l there live inside e home' same keeps = touch home_shape known home_part n frame (home_of s) home' views i f v w fr l (knows s h) h.homes there inside (relinks i f v w l there live inside e) same keeps

  clean_at : (f : ℕ) → f < n → (frame f).tag ≢ no_tag → (frame f).word.dirty ≡ false → IsClean (home_of s (frame f).tag)
  clean_at f inside named = (h.homes.columns f inside).clean named

  -- no frame has a tag that a backend may name
  pub unframed_name : (i tag : ℕ) (v : View) → get_elem? views i ≡ some v → tag ≢ no_tag → pin_steps.MayName s.pool.core v tag → (s.pool.core.partition (s.pool.core.partition_of tag)).map tag ≡ None → IsUnframed n frame tag
  unframed_name i tag v there named m lacking g below = let p = s.pool.core.partition_of tag in
      lacked (s.pool.core.partition p) (hold v p) (frame g).tag tag g (h.pool.core.turns.cells i v p there (h.pool.core.placed tag)) (h.pool.core.maps.pairs tag g named below) m.held m.unchanged (m.no_change p) lacking

  pub unframed_tag : (i f tag : ℕ) (v : View) → get_elem? views i ≡ some v → pin_kinds.Allowed (pin_kinds.store_tag tag) (frame f) (link v f) → pin_steps.AllowedAround (pin_kinds.store_tag tag) s.pool.core v f → IsUnframed n frame tag
  unframed_tag i f tag v there a around = unframed_name i tag v there a.named around.naming around.lacking

  -- a frame's tag is a block's, since forks don't grow yet
  pub frame_block : (f : ℕ) → f < n → (frame f).tag ≢ no_tag → is_block s.pool.core (frame f).tag ≡ true
  frame_block f below named = (tag_words s.pool.core h.pool.sizes).quiet h.quiet f below named

  -- a block that isn't there is clean
  outside : (tag : ℕ) → is_block s.pool.core tag ≡ false → IsClean (home_of s tag)
  outside tag e = record { done = λ x. absurd (false≢true (sym e ∙ x)); stored = λ x. absurd (false≢true (sym e ∙ x)) }

  -- a tag that no frame has, as a backend names it
  fresh : (i f : ℕ) (k : pin_kinds.Kind) (v : View) → get_elem? views i ≡ some v → pin_kinds.Allowed k (frame f) (link v f) → pin_steps.AllowedAround k s.pool.core v f → StoresClean k (home_of s (pin_kinds.frame_after k (frame f)).tag)
  fresh i f (pin_kinds.store_tag tag) v there a around = h.unframed tag a.named (unframed_tag i f tag v there a around)
  fresh i f (pin_kinds.store_new_tag tag) v there a around = h.unframed tag a.named (unframed_name i tag v there a.named around.naming around.lacking)
  fresh i f _ v there a around = tt

  -- a step of a kind of `pin_core` at a frame
  pins_step : (i f : ℕ) (k : pin_kinds.Kind) (v : View) → get_elem? views i ≡ some v → v.emptied ≡ false → f < n → pin_kinds.Allowed k (frame f) (link v f) → pin_steps.AllowedAround k s.pool.core v f → HistoryInvariant (record s { pool = record s.pool { core = pin_steps.state_after k s.pool.core i f v } })
  pins_step i f k v there live inside a around = let w : View = pin_stepping.after k s.pool.core f v in let fr : Frame = pin_kinds.frame_after k (frame f) in let l : Link = pin_kinds.link_after k (frame f) (link v f) in
      let law = page_stepping.step_keeps (page_steps.cores (pin_steps.touches i f k v there live inside a around)) h.pool in
      assemble_same s h (record s.pool { core = pin_steps.state_after k s.pool.core i f v }) s.lane law refl h.known (record { base = refl; resizes = refl; sizes = λ fork. refl }) (outer_same s.known s.origin s.opened_sizes s.log s.lanes s.lane s.flushed (written_of s) s.device views (outer_of s h) i v w there (record { calls = refl; front = refl; joined = refl; flushed = refl; emptied = refl; number = refl; kept = refl }) refl refl refl refl)
      (record {
        homes = touched i f v w fr l there live inside refl (home_of s) (λ g below other. refl) (pins_keep k (home_of s (frame f).tag) (home_of s fr.tag) (frame f) (link v f) a (λ e. ap (home_of s) e) (fresh i f k v there a around));
        unframed = unframed_put (λ (t : ℕ). IsClean (home_of s t)) n frame f fr inside h.unframed (λ named goes. ⊎_elim (λ (clean : (frame f).word.dirty ≡ false). clean_at f inside named clean)
            (λ (noted : (link v f).noted ≡ true). outside (frame f).tag (page_stepping.noted_outside s.pool h.pool i f v there inside noted)) (tag_goes k (frame f) (link v f) (tallies frame_shape views f) (h.pool.core.grid.columns f inside) a goes));
        flushed_cells = h.flushed_cells;
      })

  -- The page kind k at the frame f leaves each block's page after the log, and what is known of it is kept
  module _ (i f : ℕ) (k : Kind) (v : View) (there : get_elem? views i ≡ some v) (live : v.emptied ≡ false) (inside : f < n) (stays : block_after k (block_of s.pool.logged (frame f).tag) ≡ block_of s.pool.logged (frame f).tag) where
    abbrev b : Block
    b = block_of s.pool.logged (frame f).tag

    abbrev fr : Frame
    fr = frame_after k b (frame f)

    abbrev l : Link
    l = link_after k b (frame f) (link v f)

    pub logged_same : logged_after k s.pool.logged (frame f).tag ≡ s.pool.logged
    logged_same = λ j g. put_same s.pool.logged (frame f).tag (block_after k b).logged g (ap (λ (x : Block). x.logged) stays) j

    pub blocks_touched : (w : View) → w.links ≡ set v.links f l → Keeps_by k (home_of s (frame f).tag) (pages_home_after k (home_of s (frame f).tag)) (frame f) (link v f) → Blocks n (put frame f fr) (set views i w) s.origin s.log s.flushed (home_of s)
    blocks_touched w e keeps = let is : pages_home_after k (home_of s (frame f).tag) ≡ home_of s fr.tag = ap (λ (x : Block). record (home_of s (frame f).tag) { block = x }) stays ∙ ap (home_of s) (sym (tag_kept k b (frame f))) in record {
      homes = touched i f v w fr l there live inside e (home_of s) (λ g below other. refl) (subst (λ (x : Home). Keeps home_shape known home_part (home_of s (frame f).tag) x tt tt (frame f) (link v f) fr l) is keeps);
      unframed = unframed_put (λ (t : ℕ). IsClean (home_of s t)) n frame f fr inside h.unframed (λ named goes. absurd (goes (tag_kept k b (frame f))));
      flushed_cells = h.flushed_cells;
    }

  -- a step of a plain kind of `page_core`
  page_step : (i f : ℕ) (k : Kind) (v : View) → get_elem? views i ≡ some v → v.emptied ≡ false → f < n → Allowed k (block_of s.pool.logged (frame f).tag) (frame f) (link v f) → page_steps.AllowedAround k s.pool v f → IsPlain k → HistoryInvariant (record s { pool = page_steps.state_after k s.pool i f v })
  page_step i f k v there live inside a around plain = let stays = plain_block k (block_of s.pool.logged (frame f).tag) plain in let w : View = paged k s.pool f v in
      assemble_same s h (page_steps.state_after k s.pool i f v) s.lane (page_stepping.step_keeps (page_steps.touches i f k v there live inside a around) h.pool) (logged_same i f k v there live inside stays) h.known (record { base = refl; resizes = refl; sizes = λ fork. refl })
      (outer_same s.known s.origin s.opened_sizes s.log s.lanes s.lane s.flushed (written_of s) s.device views (outer_of s h) i v w there (record { calls = refl; front = refl; joined = refl; flushed = refl; emptied = refl; number = refl; kept = refl }) refl refl refl refl)
      (blocks_touched i f k v there live inside stays w refl (plain_keeps k (home_of s (frame f).tag) (frame f) (link v f) (page_of s (frame f).tag) (λ named known. logged_there s h (frame f).tag (frame_block f inside named) known) plain a))

  -- the blocks where a view changes beside its links
  blocks_aside : (i : ℕ) (v w : View) → get_elem? views i ≡ some v → w.links ≡ v.links → Blocks n frame (set views i w) s.origin s.log s.flushed (home_of s)
  blocks_aside i v w there e = record { homes = steady home_shape home_part n frame (home_of s) views h.homes i v w there refl (λ g. ap (λ (x : List Link). link (record w { links = x }) g) e); unframed = h.unframed; flushed_cells = h.flushed_cells }

  -- a step at the size of a fork, which leaves the sizes by the log, since forks don't grow or shrink yet
  sized_step : (i fork : ℕ) (k : SizeKind) (v : View) → get_elem? s.pool.core.views i ≡ some v → v.emptied ≡ false → SizeAllowed k s.pool.core v fork → HistoryInvariant (record s { pool = record { core = state_sized k s.pool.core i fork v; logged = logged_sized k fork s.pool } })
  sized_step i fork k v there live a = let w : View = view_sized k fork s.pool.core v in let x : pin_steps.Step (pin_steps.size_at i fork k) s.pool.core (state_sized k s.pool.core i fork v) = pin_steps.sized i fork k v there live a in
      assemble_same s h (record { core = state_sized k s.pool.core i fork v; logged = logged_sized k fork s.pool }) s.lane (page_stepping.step_keeps (page_steps.cores x) h.pool) (quiet_logged s.pool h.pool.sizes h.quiet i fork v k there a) h.known
      (record { base = refl; resizes = refl; sizes = same_sizes s.pool.core h.pool.sizes h.quiet i fork v k there a })
      (outer_same s.known s.origin s.opened_sizes s.log s.lanes s.lane s.flushed (written_of s) s.device s.pool.core.views (outer_of s h) i v w there (record { calls = refl; front = refl; joined = refl; flushed = refl; emptied = refl; number = refl; kept = refl }) refl refl refl refl)
      (record {
        homes = steady_alike home_shape home_part s.pool.core.frames s.pool.core.frame (home_of s) s.pool.core.views h.homes i v w there refl (page_stepping.sized_weight s.pool h.pool i fork v there live k a)
            (λ g b c o. sized_links s.pool.core h.pool.core i fork v there live (λ l m. HomeLink b c l → HomeLink b c m) k a (λ l y. y) (λ l known y. record { written = y.written }) (λ f end e z y. record { written = y.written }) g);
        unframed = h.unframed;
        flushed_cells = h.flushed_cells;
      })

  -- a step of `pin_core` that is no step at a frame
  others_step : {e : pin_steps.Event} {core' : pins.State} → pin_steps.Step e s.pool.core core' → HistoryInvariant (record s { pool = record { core = core'; logged = logged_by e s.pool } })
  others_step (pin_steps.touches i f k v there live inside a around) = pins_step i f k v there live inside a around
  others_step (pin_steps.turns i p k v there live below a) = let x : pin_steps.Step (pin_steps.turn i p k) s.pool.core (pin_steps.state_turned k s.pool.core i p v) = pin_steps.turns i p k v there live below a in let w : View = view_turned k p (hold v p) v in
      assemble_same s h (record s.pool { core = pin_steps.state_turned k s.pool.core i p v }) s.lane (page_stepping.step_keeps (page_steps.cores x) h.pool) refl h.known (record { base = refl; resizes = refl; sizes = λ fork. refl })
      (outer_same s.known s.origin s.opened_sizes s.log s.lanes s.lane s.flushed (written_of s) s.device views (outer_of s h) i v w there (record { calls = refl; front = refl; joined = refl; flushed = refl; emptied = refl; number = refl; kept = refl }) refl refl refl refl) (blocks_aside i v w there refl)
  others_step (pin_steps.sized i fork k v there live a) = sized_step i fork k v there live a
  others_step (pin_steps.splits v there room) = let x : pin_steps.Step pin_steps.split s.pool.core (pins.split_state s.pool.core v) = pin_steps.splits v there room in let w : View = record v { next = v.next + 1 } in
      let a = length v.links in let p = length v.partitions in let m = length v.lanes in let first = h.pool.core.views.first v there in
      let outer = outer_grows s.known s.origin s.opened_sizes s.log s.lanes s.lane s.flushed (written_of s) s.device (set views 0 w) (outer_same s.known s.origin s.opened_sizes s.log s.lanes s.lane s.flushed (written_of s) s.device views (outer_of s h) 0 v w there (record { calls = refl; front = refl; joined = refl; flushed = refl; emptied = refl; number = refl; kept = refl }) refl refl refl refl) v.next s.pool.core.base a p h.based h.flushed_from (end_above s.log (new_entry s 0 (image 0 [])) h.log) in
      let blocks = blocks_aside 0 v w there refl in
      assemble_same s h (record s.pool { core = pins.split_state s.pool.core v }) s.lane (page_stepping.step_keeps (page_steps.cores x) h.pool) refl h.known (record { base = refl; resizes = refl; sizes = λ fork. refl })
      (subst (λ (z : ℕ). Outer s.known s.origin s.opened_sizes s.log s.lanes s.lane s.flushed (written_of s) s.device (set views 0 w ++ new_view v.next s.pool.core.base a p z ∷ [])) (sym (h.wide 0 v there first.0)) outer)
      (record {
        homes = grows home_shape home_part n frame (home_of s) (set views 0 w) blocks.homes (new_view v.next s.pool.core.base a p m) (new_none v.next s.pool.core.base a p m) (λ g inside. subst (HomeLink (home_of s (frame g).tag) (frame g)) (sym (link_new a p m v.next s.pool.core.base g)) (no_link (home_of s (frame g).tag) (frame g)));
        unframed = h.unframed;
        flushed_cells = h.flushed_cells;
      })
  others_step (pin_steps.joins j v u there other here live free) = let x : pin_steps.Step (pin_steps.join j) s.pool.core (pins.joined_state s.pool.core v j u) = pin_steps.joins j v u there other here live free in let w : View = joined_view v u in let alive = (h.pool.core.views.first v there).0 in
      let first = steady home_shape known n frame (home_of s) views (knows s h) 0 v w there refl (λ g. refl) in
      assemble_same s h (record s.pool { core = pins.joined_state s.pool.core v j u }) s.lane (page_stepping.step_keeps (page_steps.cores x) h.pool) refl h.known (record { base = refl; resizes = refl; sizes = λ fork. refl })
      (outer_joins s.known s.origin s.opened_sizes s.log s.lanes s.lane s.flushed (written_of s) s.device views (outer_of s h) j v u there alive (h.pool.core.views.numbered 0 v there alive) other here live (h.pool.core.views.numbered j u here live) free.lanes free.log)
      (record {
        homes = sweep home_shape known home_part n frame frame (home_of s) (home_of s) (set views 0 w) j u emptied_view first (set_else views 0 j w other ∙ here) (λ g inside. home_forgets (home_of s (frame g).tag) (frame g) (link u g));
        unframed = h.unframed;
        flushed_cells = h.flushed_cells;
      })

-- a block is below its fork's size at the start
pub below_opened : (s : State) → HistoryInvariant s → (tag : ℕ) → is_block s.pool.core tag ≡ true → pins.is_below s.opened_sizes tag ≡ true
below_opened s h tag block = ap (λ (n : ℕ). nat_lt (tag_block tag) n) (sym (h.sizes (tag_fork tag) ∙ sizes_still s.log.entries s.opened_sizes (tag_fork tag) (λ k e at g o n is. no_resize g o n (subst (λ (c : Change). is_of_page c ≡ true) is (plain s h k e at))))) ∙ block

-- and so do the blocks' pages after the log, but for an entry
pub logged_stays : (s : State) → HistoryInvariant s → {e : pin_steps.Event} {core' : pins.State} → pin_steps.Step e s.pool.core core' → logged_by e s.pool ≡ s.pool.logged
logged_stays s h (pin_steps.touches i f k v there live inside a around) = refl
logged_stays s h (pin_steps.turns i p k v there live below a) = refl
logged_stays s h (pin_steps.sized i fork k v there live a) = quiet_logged s.pool h.pool.sizes h.quiet i fork v k there a
logged_stays s h (pin_steps.splits v there room) = refl
logged_stays s h (pin_steps.joins j v u there other here live free) = refl

-- the sizes of forks by the log stay
pub pool_sizes : (s : State) → HistoryInvariant s → {e : page_steps.Event} {pool' : page.State} → page_steps.Step e s.pool pool' → (fork : ℕ) → (pool'.core.size fork).logged ≡ (s.pool.core.size fork).logged
pool_sizes s h (page_steps.cores (pin_steps.touches i f k v there live inside a around)) g = refl
pool_sizes s h (page_steps.cores (pin_steps.turns i p k v there live below a)) g = refl
pool_sizes s h (page_steps.cores (pin_steps.sized i fork k v there live a)) g = same_sizes s.pool.core h.pool.sizes h.quiet i fork v k there a g
pool_sizes s h (page_steps.cores (pin_steps.splits v there room)) g = refl
pool_sizes s h (page_steps.cores (pin_steps.joins j v u there other here live free)) g = refl
pool_sizes s h (page_steps.touches i f k v there live inside a around) g = refl

pools_step : (s : State) → HistoryInvariant s → {e : page_steps.Event} {pool' : page.State} → page_steps.Step e s.pool pool' → PoolAllowed e → HistoryInvariant (record s { pool = pool' })
pools_step s h (page_steps.cores x) a = others_step s h x
pools_step s h (page_steps.touches i f k v there live inside a around) plain = page_step s h i f k v there live inside a around plain

-- the laws of the calls and the lanes after a step at a lane
laned_outer : (s : State) (h : HistoryInvariant s) (i q : ℕ) (k : LaneKind) (v w : View) → get_elem? s.pool.core.views i ≡ some v → v.emptied ≡ false → q < s.lanes → LaneAllowed k (s.lane q) (lane_hold v q) → SameCalls v w → w.emptied ≡ v.emptied → w.lanes ≡ set v.lanes q (lane_hold_after k v.flushed (swept_by v) (lane_hold v q)) → w.log ≡ v.log → w.saw_down ≡ v.saw_down
    → Outer s.known s.origin s.opened_sizes s.log s.lanes (put s.lane q (lane_after k (s.lane q))) s.flushed (written_of s) s.device (set s.pool.core.views i w)
laned_outer s h i q k v w there live low a same emptied holds unlogged saw = record {
  device = steady log_shape log_part 1 (λ _. s.device) (λ _. written_of s) s.pool.core.views h.device i v w there saw (λ g. unlogged);
  history = history_same s.known s.origin s.opened_sizes s.log s.flushed s.pool.core.views h.history i v w there same;
  lanes = lanes_touched s.known s.origin s.opened_sizes s.log s.lanes s.lane s.flushed (written_of s) s.device s.pool.core.views (outer_of s h) i q k v w there live low a holds;
  wide = wide_set s.lanes s.pool.core.views h.wide i v w there emptied (ap (λ (x : List LaneHold). length x) holds ∙ length-set v.lanes q (lane_hold_after k v.flushed (swept_by v) (lane_hold v q)));
}

-- The kind k notes something at the frame f, where `logged` is what is known of the blocks' pages by then
module _ (s : State) (h : HistoryInvariant s) (i q f : ℕ) (noted : Bool) (k : Kind) (v : View) (there : get_elem? s.pool.core.views i ≡ some v) (live : v.emptied ≡ false) (low : q < s.lanes) (inside : f < s.pool.core.frames) (back : LaneAllowed (lane_kinds.lane_back noted) (s.lane q) (lane_hold v q)) (logged : ℕ → Option Page) where
  abbrev noting : page.State
  noting = record s.pool { logged = logged }

  abbrev noting_frame : Frame
  noting_frame = s.pool.core.frame f

  abbrev noting_block : Block
  noting_block = block_of logged noting_frame.tag

  noted_keeps : page_law.PageInvariant noting → ((tag : ℕ) → s.known tag ≡ true → logged tag ≡ s.pool.logged tag) → ((tag : ℕ) → tag ≢ noting_frame.tag → homes_with s logged s.lane tag ≡ home_of s tag) → ((g : ℕ) → g < s.pool.core.frames → g ≢ f → homes_with s logged s.lane (s.pool.core.frame g).tag ≡ home_of s (s.pool.core.frame g).tag)
      → Allowed k noting_block noting_frame (link v f) → page_steps.AllowedAround k noting v f → block_after k noting_block ≡ noting_block
      → Keeps home_shape known home_part (home_of s noting_frame.tag) (homes_with s logged s.lane noting_frame.tag) tt tt noting_frame (link v f) (frame_after k noting_block noting_frame) (link_after k noting_block noting_frame (link v f))
      → HistoryInvariant (record s { pool = pool_after k noting i f (laned (lane_kinds.lane_back noted) q v (paged k noting f v)); lane = put s.lane q (s.lane q) })
  noted_keeps law same free else a around stays keeps = let fr : Frame = frame_after k noting_block noting_frame in let w : View = laned (lane_kinds.lane_back noted) q v (paged k noting f v) in let views = s.pool.core.views in
      let is : logged_after k logged noting_frame.tag ≡ logged = (λ j g. put_same logged noting_frame.tag (block_after k noting_block).logged g (ap (λ (x : Block). x.logged) stays) j) in
      let here : SameHere (paged k noting f v) w = record { backend = record { emptied = refl; number = refl; next = refl; links = refl; partitions = refl }; joined = refl; links = refl; partitions = refl; sizes = refl } in
      let tag_same = tag_kept k noting_block noting_frame in
      assemble s h (pool_after k noting i f w) (put s.lane q (s.lane q)) (pool_touched noting law i f k v w there live inside a around here) (λ tag e. (λ j. is j tag) ∙ same tag e ∙ h.logged tag e) (known_after s h (lane_kinds.lane_back noted) q) (record { base = refl; resizes = refl; sizes = λ fork. refl })
      (laned_outer s h i q (lane_kinds.lane_back noted) v w there live low back (record { calls = refl; front = refl; joined = refl; flushed = refl; emptied = refl; number = refl; kept = refl }) refl refl refl refl)
      (subst (λ (y : ℕ → Option Page). Blocks s.pool.core.frames (put s.pool.core.frame f fr) (set views i w) s.origin s.log s.flushed (homes_with s y (put s.lane q (s.lane q)))) (sym is)
      (subst (λ (y : ℕ → Home). Blocks s.pool.core.frames (put s.pool.core.frame f fr) (set views i w) s.origin s.log s.flushed y) (homes_same s logged q (s.lane q) (record { stored = refl; upto = refl; failed = refl }))
      (record {
        homes = touched s h i f v w fr (link_after k noting_block noting_frame (link v f)) there live inside refl (homes_with s logged s.lane) else
            (subst (λ (y : ℕ). Keeps home_shape known home_part (home_of s noting_frame.tag) (homes_with s logged s.lane y) tt tt noting_frame (link v f) fr (link_after k noting_block noting_frame (link v f))) (sym tag_same) keeps);
        unframed = λ t given none. let was = still_unframed s.pool.core.frames s.pool.core.frame f fr t tag_same inside none in subst IsClean (sym (free t (λ e. was f inside (sym e)))) (h.unframed t given was);
        flushed_cells = λ t. let x = h.flushed_cells t in record {
          based = x.based;
          within = x.within;
          is_cell = λ known ok. ⊎_elim (λ (is : stored s t ≡ cell s.origin (cut (stored_upto s t) s.log.entries) t). inl is) (λ (is : IsUnwrittenNew s.log.entries t (home_of s t)). inr (record { fresh = is.fresh; page = is.page })) (x.is_cell known ok);
        };
      })))

-- a frame for input has a tag, and is neither valid nor dirty
pub for_input : (b : Block) (fr : Frame) (l : Link) (t : pin_tallies.Tally → ℕ) → FrameLaw fr t → PageLink b fr l → l.io ≡ Input → (fr.tag ≢ no_tag) × (fr.word.dirty ≡ false) × (fr.word.valid ≡ false)
for_input b fr l t c d e = let x = d.input e in (x.0.named, grind (arith, c, x.1), x.1)

-- what a lane gave is noted at a frame
module _ (s : State) (h : HistoryInvariant s) (i q f : ℕ) (noted : Bool) (v : View) (there : get_elem? s.pool.core.views i ≡ some v) (live : v.emptied ≡ false) (low : q < s.lanes) (inside : f < s.pool.core.frames) (back : LaneAllowed (lane_kinds.lane_back noted) (s.lane q) (lane_hold v q)) (p : Page) (x : CanNoteLaneRead s q f p (lane_hold v q) (link v f)) where
  abbrev read_frame : Frame
  read_frame = s.pool.core.frame f

  is_input : (read_frame.tag ≢ no_tag) × (read_frame.word.dirty ≡ false) × (read_frame.word.valid ≡ false)
  is_input = for_input (block_of s.pool.logged read_frame.tag) read_frame (link v f) (tallies frame_shape s.pool.core.views f) (h.pool.core.grid.columns f inside) (h.pool.pages.cells i v f there inside) x.right

  note_known : s.known read_frame.tag ≡ true → HistoryInvariant (record s { pool = pool_after (note_read p) s.pool i f (laned (lane_kinds.lane_back noted) q v (paged (note_read p) s.pool f v)); lane = put s.lane q (s.lane q) })
  note_known e = let hm = home_of s read_frame.tag in let clean = (h.homes.columns f inside).clean is_input.0 is_input.1 in
      let held = (h.lanes.cells i v q there low).hold.read read_frame.tag p x.was_read (ap (λ (z : ℕ). (s.lane z).known) (sym x.lane) ∙ h.known read_frame.tag ∙ e) in let is : hm.stored ≡ Some p = ap (λ (z : ℕ). (s.lane z).stored read_frame.tag) x.lane ∙ held in
      noted_keeps s h i q f noted (note_read p) v there live low inside back s.pool.logged h.pool (λ tag z. refl) (λ tag z. refl) (λ g below other. refl) (record { right = x.right; fresh = x.fresh; given = λ r z. same_Some r p (sym z ∙ clean.stored (frame_block s h f inside is_input.0) e ∙ is); unnoted = x.unnoted }) tt refl
      (homes.note_read_keeps hm read_frame (link v f) p hm refl refl refl (λ z. (z, refl)) x.right)

  -- where the contents aren't known the block's page is forgotten
  note_unknown : s.known read_frame.tag ≡ false → HistoryInvariant (record s { pool = pool_after (note_read p) (record s.pool { logged = put s.pool.logged read_frame.tag None }) i f (laned (lane_kinds.lane_back noted) q v (paged (note_read p) (record s.pool { logged = put s.pool.logged read_frame.tag None }) f v)); lane = put s.lane q (s.lane q) })
  note_unknown e = let tag = read_frame.tag in let g : ℕ → Option Page = put s.pool.logged tag None in let hm = home_of s tag in
      let else : (t : ℕ) → t ≢ tag → homes_with s g s.lane t ≡ home_of s t = (λ t other. ap (λ (o : Option Page). record (home_of s t) { block = record { logged = o } }) (put_else s.pool.logged tag None t other)) in
      noted_keeps s h i q f noted (note_read p) v there live low inside back g (forgets s.pool f h.pool inside is_input.0 is_input.2) (λ t z. put_else s.pool.logged tag None t (λ same. absurd (both_ways _ e (sym (ap s.known same) ∙ z)))) else
      (λ k below other. else (s.pool.core.frame k).tag (λ same. other (sym (h.pool.core.apart f k inside below is_input.0 (sym same)))))
      (record { right = x.right; fresh = x.fresh; given = λ r z. let none = sym z ∙ put_here s.pool.logged tag None in absurd (cc); unnoted = x.unnoted }) tt refl
      (homes.note_read_keeps hm read_frame (link v f) p (homes_with s g s.lane tag) refl refl refl (λ z. absurd (both_ways _ e z)) x.right)

  note_either : (b : Bool) → s.known read_frame.tag ≡ b → HistoryInvariant (record s { pool = pool_after (note_read p) (record s.pool { logged = cond b s.pool.logged (put s.pool.logged read_frame.tag None) }) i f (laned (lane_kinds.lane_back noted) q v (paged (note_read p) (record s.pool { logged = cond b s.pool.logged (put s.pool.logged read_frame.tag None) }) f v)); lane = put s.lane q (s.lane q) })
  note_either true e = note_known e
  note_either false e = note_unknown e

-- what comes back is noted at a frame
notes_step : (s : State) → HistoryInvariant s → (i q f : ℕ) (noted : Bool) (k : Kind) (v : View) → get_elem? s.pool.core.views i ≡ some v → v.emptied ≡ false → q < s.lanes → f < s.pool.core.frames → LaneAllowed (lane_kinds.lane_back noted) (s.lane q) (lane_hold v q) → Notes k s q f (lane_hold v q) (link v f)
    → HistoryInvariant (record s { pool = pool_after k (pool_noting k s f) i f (laned (lane_kinds.lane_back noted) q v (paged k (pool_noting k s f) f v)); lane = put s.lane q (s.lane q) })
notes_step s h i q f noted (note_read p) v there live low inside back x = note_either s h i q f noted v there live low inside back p x (s.known (s.pool.core.frame f).tag) refl
notes_step s h i q f noted (note_write true) v there live low inside back (p, x) = let fr = s.pool.core.frame f in let hm = home_of s fr.tag in let held = (h.lanes.cells i v q there low).hold.written f fr.tag p x.was_written in
    noted_keeps s h i q f noted (note_write true) v there live low inside back s.pool.logged h.pool (λ tag z. refl) (λ tag z. refl) (λ g below other. refl) x.right tt refl
    (homes.note_done_keeps hm fr (link v f) (ap (λ (z : ℕ). (s.lane z).failed fr.tag) x.lane ∙ held.done) (ap (λ (z : ℕ). (s.lane z).stored fr.tag) x.lane ∙ held.stored ∙ ap (λ (y : Page). Some y) (sym x.page)) x.right)
notes_step s h i q f noted (note_write false) v there live low inside back x = let fr = s.pool.core.frame f in
    noted_keeps s h i q f noted (note_write false) v there live low inside back s.pool.logged h.pool (λ tag z. refl) (λ tag z. refl) (λ g below other. refl) x.right tt refl (homes.note_failed_keeps (home_of s fr.tag) fr (link v f) x.right)
notes_step s h i q f noted begin_write v there live low inside back x = absurd x
notes_step s h i q f noted kinds.note_zero v there live low inside back x = absurd x
notes_step s h i q f noted (make_entry p) v there live low inside back x = absurd x
notes_step s h i q f noted kinds.load_content v there live low inside back x = absurd x
notes_step s h i q f noted kinds.mark_dirty v there live low inside back x = absurd x
notes_step s h i q f noted kinds.share v there live low inside back x = absurd x
notes_step s h i q f noted kinds.exclude v there live low inside back x = absurd x
notes_step s h i q f noted kinds.unshare v there live low inside back x = absurd x
notes_step s h i q f noted kinds.unexclude v there live low inside back x = absurd x
notes_step s h i q f noted kinds.take_copy v there live low inside back x = absurd x
notes_step s h i q f noted kinds.leave_copy v there live low inside back x = absurd x
notes_step s h i q f noted kinds.page_out v there live low inside back x = absurd x
notes_step s h i q f noted kinds.overwrite_logged v there live low inside back x = absurd x
notes_step s h i q f noted (kinds.overwrite_read p) v there live low inside back x = absurd x
notes_step s h i q f noted kinds.page_back v there live low inside back x = absurd x
notes_step s h i q f noted kinds.start_input v there live low inside back x = absurd x
notes_step s h i q f noted kinds.start_output v there live low inside back x = absurd x
notes_step s h i q f noted kinds.clear_just_dirtied v there live low inside back x = absurd x
notes_step s h i q f noted (kinds.set_waiter number) v there live low inside back x = absurd x
notes_step s h i q f noted kinds.clear_waiter v there live low inside back x = absurd x
notes_step s h i q f noted kinds.need_checkpoint v there live low inside back x = absurd x
notes_step s h i q f noted (kinds.end_io end) v there live low inside back x = absurd x

-- a step at a lane that touches no frame
lanes_step : (s : State) → HistoryInvariant s → (i q : ℕ) (k : LaneKind) (v : View) → get_elem? s.pool.core.views i ≡ some v → v.emptied ≡ false → q < s.lanes → LaneAllowed k (s.lane q) (lane_hold v q) → LaneAlone k s q (lane_hold v q)
    → HistoryInvariant (record s { pool = aside s.pool i (stepped (laned k q v v)); lane = put s.lane q (lane_after k (s.lane q)) })
lanes_step s h i q k v there live inside a alone = let w : View = stepped (laned k q v v) in let views = s.pool.core.views in let holds = no_write_holds k s q (lane_hold v q) (s.lane q) alone in
    let same : SameHere v w = record { backend = record { emptied = refl; number = refl; next = refl; links = refl; partitions = refl }; joined = refl; links = refl; partitions = refl; sizes = refl } in
    assemble_same s h (aside s.pool i w) (put s.lane q (lane_after k (s.lane q))) (pool_aside s.pool i v w h.pool there same) refl (known_after s h k q) (record { base = refl; resizes = refl; sizes = λ fork. refl })
    (laned_outer s h i q k v w there live inside a (record { calls = refl; front = refl; joined = refl; flushed = refl; emptied = refl; number = refl; kept = refl }) refl refl refl refl)
    (subst (λ (x : ℕ → Home). Blocks s.pool.core.frames s.pool.core.frame (set views i w) s.origin s.log s.flushed x) (homes_same s s.pool.logged q (lane_after k (s.lane q)) holds) (blocks_aside s h i v w there refl))

-- The page p of the frame f goes to its lane q, or fails to
module _ (s : State) (h : HistoryInvariant s) (i q f : ℕ) (v : View) (there : get_elem? s.pool.core.views i ≡ some v) (live : v.emptied ≡ false) (low : q < s.lanes) (inside : f < s.pool.core.frames) (tag : ℕ) (x : CanWrite s q f tag (s.pool.core.frame f).page (lane_hold v q) (link v f)) where
  abbrev written_frame : Frame
  written_frame = s.pool.core.frame f

  named_logged : HasTag written_frame × ((p : Page) → s.pool.logged written_frame.tag ≡ Some p → p ≡ written_frame.page)
  named_logged = written_is_logged (block_of s.pool.logged written_frame.tag) written_frame (link v f) (tallies page_shape s.pool.core.views f) (h.pool.pages.columns f inside) (h.pool.pages.cells i v f there inside) (term_le (λ (u : View). weigh sharers (link u f)) s.pool.core.views i v there) x.right.right

  -- the block is another one than that of each other frame
  other_tag : (g : ℕ) → g < s.pool.core.frames → g ≢ f → (s.pool.core.frame g).tag ≢ tag
  other_tag g below other same = other (sym (h.pool.core.apart f g inside below named_logged.0.named (x.tagged ∙ sym same)))

  -- the page's position in the log is flushed
  is_early : (lane_hold v q).out ≢ None → lsn_of written_frame.page ≤ s.flushed
  is_early out = let a = x.log_first in let b = (h.lanes.cells i v q there low).hold.flushed_by out in omega arith

  -- the page is the block's after the entries up to its position
  abbrev upto : ℕ
  upto = max ((s.lane q).stored_upto tag) (lsn_of written_frame.page)

  -- the block's page after the log is the frame's, where the contents of its lane are known
  is_cell_now : s.known tag ≡ true → cell s.origin s.log.entries tag ≡ Some written_frame.page
  is_cell_now known = let block = subst (λ (z : ℕ). is_block s.pool.core z ≡ true) x.tagged (frame_block s h f inside named_logged.0.named) in let e = logged_there s h tag block known in
      sym (h.logged tag known) ∙ e ∙ ap (λ (y : Page). Some y) (named_logged.1 (page_of s tag) (ap s.pool.logged x.tagged ∙ e))

  is_flushed : (lane_hold v q).out ≢ None → IsFlushedCell s.origin s.log s.flushed tag (record (home_of s tag) { stored = Some written_frame.page; stored_upto = upto; failed = false })
  is_flushed out = let early = is_early out in let was = h.flushed_cells tag in let same : (s.lane q).stored_upto tag ≡ stored_upto s tag = ap (λ (z : ℕ). (s.lane z).stored_upto tag) (sym x.lane) in record {
    based = (let z = was.based in omega arith);
    within = (let z = was.within in omega arith);
    is_cell = λ known ok. inl (sym (cell_at_position s.origin s.log.entries tag upto (log_end s.log) written_frame.page (plain s h) (ends_below s.log (new_entry s 0 (image tag [])) h.log) (λ k e of. h.pages k tag e of known) (is_cell_now known) (omega arith)));
  }

  -- the lane after the write holds the page p for the block, and the block's entries up to u
  module _ (k : LaneKind) (p : Option Page) (u : ℕ) (done : Bool) (back : LaneAllowed k (s.lane q) (lane_hold v q)) (stores : (lane_after k (s.lane q)).stored ≡ put (s.lane q).stored tag p) (uptos : (lane_after k (s.lane q)).stored_upto ≡ put (s.lane q).stored_upto tag u) (fails : (lane_after k (s.lane q)).failed ≡ put (s.lane q).failed tag done)
      (good : IsFlushedCell s.origin s.log s.flushed tag (record (home_of s tag) { stored = p; stored_upto = u; failed = done })) where
    abbrev lane' : ℕ → Lane
    lane' = put s.lane q (lane_after k (s.lane q))

    abbrev home' : ℕ → Home
    home' = homes_with s s.pool.logged lane'

    written_at : {A : Type 0} (g : Lane → ℕ → A) (a : A) → g (lane_after k (s.lane q)) ≡ put (g (s.lane q)) tag a → (t : ℕ) → g (lane' (s.lane_of t)) t ≡ put (λ (z : ℕ). g (s.lane (s.lane_of z)) z) tag a t
    written_at g a e t = lane_written s.lane_of s.lane q (lane_after k (s.lane q)) tag g a x.lane e t

    else : (t : ℕ) → t ≢ tag → home' t ≡ home_of s t
    else t other = λ j. record {
      inside = is_block s.pool.core t;
      block = block_of s.pool.logged t;
      known = s.known t;
      stored = (written_at (λ (y : Lane). y.stored) p stores t ∙ put_else (stored s) tag p t other) j;
      stored_upto = (written_at (λ (y : Lane). y.stored_upto) u uptos t ∙ put_else (stored_upto s) tag u t other) j;
      failed = (written_at (λ (y : Lane). y.failed) done fails t ∙ put_else (failed s) tag done t other) j;
      held = s.held t;
    }

    here : home' tag ≡ record (home_of s tag) { stored = p; stored_upto = u; failed = done }
    here = λ j. record {
      inside = is_block s.pool.core tag;
      block = block_of s.pool.logged tag;
      known = s.known tag;
      stored = (written_at (λ (y : Lane). y.stored) p stores tag ∙ put_here (stored s) tag p) j;
      stored_upto = (written_at (λ (y : Lane). y.stored_upto) u uptos tag ∙ put_here (stored_upto s) tag u) j;
      failed = (written_at (λ (y : Lane). y.failed) done fails tag ∙ put_here (failed s) tag done) j;
      held = s.held tag;
    }

    pub write_keeps : HistoryInvariant (record s { pool = pool_after begin_write s.pool i f (laned k q v (paged begin_write s.pool f v)); lane = lane' })
    write_keeps = let b : Block = block_of s.pool.logged written_frame.tag in let w : View = laned k q v (paged begin_write s.pool f v) in let views = s.pool.core.views in let a : Allowed begin_write b written_frame (link v f) = record { right = x.right.right } in
        let same : SameHere (paged begin_write s.pool f v) w = record { backend = record { emptied = refl; number = refl; next = refl; links = refl; partitions = refl }; joined = refl; links = refl; partitions = refl; sizes = refl } in
        assemble_same s h (pool_after begin_write s.pool i f w) lane' (pool_touched s.pool h.pool i f begin_write v w there live inside a tt same) (logged_same s h i f begin_write v there live inside refl) (known_after s h k q) (record { base = refl; resizes = refl; sizes = λ fork. refl })
        (laned_outer s h i q k v w there live low back (record { calls = refl; front = refl; joined = refl; flushed = refl; emptied = refl; number = refl; kept = refl }) refl refl refl refl)
        (record {
          homes = touched s h i f v w written_frame (link_after begin_write b written_frame (link v f)) there live inside refl home' (λ g below other. else (s.pool.core.frame g).tag (other_tag g below other))
              (homes.begin_write_keeps (home_of s written_frame.tag) written_frame (link v f) (home' written_frame.tag) refl a);
          unframed = λ t named none. dite (ℕ_discrete t tag)
              (λ (e : t ≡ tag). absurd (still_unframed s.pool.core.frames s.pool.core.frame f written_frame t refl inside none f inside (x.tagged ∙ sym e)))
              (λ (o : t ≢ tag). subst IsClean (sym (else t o)) (h.unframed t named (still_unframed s.pool.core.frames s.pool.core.frame f written_frame t refl inside none)));
          flushed_cells = λ t. dite (ℕ_discrete t tag)
              (λ (e : t ≡ tag). subst (λ (z : ℕ). IsFlushedCell s.origin s.log s.flushed z (home' z)) (sym e) (subst (IsFlushedCell s.origin s.log s.flushed tag) (sym here) good))
              (λ (o : t ≢ tag). subst (IsFlushedCell s.origin s.log s.flushed t) (sym (else t o)) (h.flushed_cells t));
        })

writes_step : (s : State) → HistoryInvariant s → (i q f : ℕ) (k : LaneKind) (v : View) → get_elem? s.pool.core.views i ≡ some v → v.emptied ≡ false → q < s.lanes → f < s.pool.core.frames → LaneAllowed k (s.lane q) (lane_hold v q) → MayWriteLane k s q f (lane_hold v q) (link v f)
    → HistoryInvariant (record s { pool = pool_after begin_write s.pool i f (laned k q v (paged begin_write s.pool f v)); lane = put s.lane q (lane_after k (s.lane q)) })
writes_step s h i q f (lane_kinds.write_block g tag p) v there live low inside back (at, x) = let page = (s.pool.core.frame f).page in let upto_of = (λ (z : Page). max ((s.lane q).stored_upto tag) (lsn_of z)) in
    let y : CanWrite s q f tag page (lane_hold v q) (link v f) = record { tagged = x.tagged; lane = x.lane; page = refl; right = x.right; log_first = subst (λ (z : Page). lsn_of z ≤ (lane_hold v q).flushed) (sym x.page) x.log_first } in
    write_keeps s h i q f v there live low inside tag y (lane_kinds.write_block g tag p) (Some p) (upto_of p) false back refl refl refl (subst (λ (z : Page). IsFlushedCell s.origin s.log s.flushed tag (record (home_of s tag) { stored = Some z; stored_upto = upto_of z; failed = false })) x.page (is_flushed s h i q f v there live low inside tag y back.out))
writes_step s h i q f (lane_kinds.fail_write g tag p faults) v there live low inside back (at, x) = let was = h.flushed_cells tag in let u = (s.lane q).stored_upto tag in let same : u ≡ stored_upto s tag = ap (λ (z : ℕ). (s.lane z).stored_upto tag) (sym x.lane) in
    write_keeps s h i q f v there live low inside tag x (lane_kinds.fail_write g tag p faults) (Some p) u true back refl (λ j t. sym (put_same (s.lane q).stored_upto tag u t refl) j) refl (record { based = (let z = was.based in omega arith); within = (let z = was.within in omega arith); is_cell = λ known ok. absurd (cc) })
writes_step s h i q f lane_kinds.take_lane v there live low inside back x = absurd x
writes_step s h i q f lane_kinds.leave_lane v there live low inside back x = absurd x
writes_step s h i q f (lane_kinds.lane_out taken) v there live low inside back x = absurd x
writes_step s h i q f (lane_kinds.read_block tag p) v there live low inside back x = absurd x
writes_step s h i q f (lane_kinds.fail_read tag faults) v there live low inside back x = absurd x
writes_step s h i q f lane_kinds.sync_lane v there live low inside back x = absurd x
writes_step s h i q f (lane_kinds.fail_sync faults) v there live low inside back x = absurd x
writes_step s h i q f (lane_kinds.lane_back noted) v there live low inside back x = absurd x

-- the note that a view makes of a page copied is that of the block
copied_is_logged : (b : Block) (fr : Frame) (l : Link) (tag : ℕ) (p : Page) → PageLink b fr l → LinkLaw fr l → CanRead tag p l → ((q : Page) → b.logged ≡ Some q → q ≡ p) × (fr.tag ≡ tag) × HasTag fr
copied_is_logged _ _ _ tag p c d a = let y = d.remembers tag a.remembered in ((c.copied p a.copied).is_logged, y.1, y.0)

-- a state where a view changes beside all that the pool and the lanes know of it
with_view : (s : State) (h : HistoryInvariant s) (i : ℕ) (v w : View) → get_elem? s.pool.core.views i ≡ some v → SameHere v w → w.lanes ≡ v.lanes → w.log ≡ v.log → w.saw_down ≡ v.saw_down → HistoryLaw s.known s.origin s.opened_sizes s.log s.flushed (set s.pool.core.views i w) → HistoryInvariant (record s { pool = aside s.pool i w })
with_view s h i v w there same holds unlogged saw history = assemble_same s h (aside s.pool i w) s.lane (pool_aside s.pool i v w h.pool there same) refl h.known (record { base = refl; resizes = refl; sizes = λ fork. refl })
    (record {
      device = steady log_shape log_part 1 (λ _. s.device) (λ _. written_of s) s.pool.core.views h.device i v w there saw (λ g. unlogged);
      history = history;
      lanes = steady lane_shape lane_part s.lanes s.lane (λ _. s.flushed) s.pool.core.views h.lanes i v w there refl (λ q. ap (λ (x : List LaneHold). lane_hold (record w { lanes = x }) q) holds);
      wide = wide_set s.lanes s.pool.core.views h.wide i v w there same.backend.emptied (ap (λ (x : List LaneHold). length x) holds);
    })
    (blocks_aside s h i v w there same.links)

reads_step : (s : State) → HistoryInvariant s → (i f tag : ℕ) (p : Page) (v : View) → get_elem? s.pool.core.views i ≡ some v → f < s.pool.core.frames → CanRead tag p (link v f) → HistoryInvariant (record s { pool = aside s.pool i (looked (seen.LogEnd s.end) (has_read s.end tag p v)) })
reads_step s h i f tag p v there inside a = let w : View = looked (seen.LogEnd s.end) (has_read s.end tag p v) in
    let x = copied_is_logged (block_of s.pool.logged (s.pool.core.frame f).tag) (s.pool.core.frame f) (link v f) tag p (h.pool.pages.cells i v f there inside) (h.pool.core.grid.cells i v f there inside) a in
    let is : s.known tag ≡ true → cell s.origin s.log.entries tag ≡ Some p = (λ known. let block = subst (λ (z : ℕ). is_block s.pool.core z ≡ true) x.1 (frame_block s h f inside x.2.named) in let e = logged_there s h tag block known in sym (h.logged tag known) ∙ e ∙ ap (λ (y : Page). Some y) (x.0 (page_of s tag) (ap s.pool.logged x.1 ∙ e))) in
    with_view s h i v w there (record { backend = record { emptied = refl; number = refl; next = refl; links = refl; partitions = refl }; joined = refl; links = refl; partitions = refl; sizes = refl }) refl refl refl
    (history_read s.known s.origin s.opened_sizes s.log s.flushed s.pool.core.views h.history h.log i v w there tag p is (new_entry s 0 (image tag p)) (ap (λ (z : ℕ). v.calls ++ Read v.number tag p z ∷ []) h.ends) h.ends refl refl refl refl)

-- a size that a view has seen under its shared right is the fork's by the log
reads_size_step : (s : State) → HistoryInvariant s → (i fork : ℕ) (v : View) → get_elem? s.pool.core.views i ≡ some v → (size_hold v fork).right ≡ size_right.Shared → HistoryInvariant (record s { pool = aside s.pool i (looked (seen.LogEnd s.end) (has_seen_size s.end fork (size_hold v fork).blocks v)) })
reads_size_step s h i fork v there right = let w : View = looked (seen.LogEnd s.end) (has_seen_size s.end fork (size_hold v fork).blocks v) in
    with_view s h i v w there (record { backend = record { emptied = refl; number = refl; next = refl; links = refl; partitions = refl }; joined = refl; links = refl; partitions = refl; sizes = refl }) refl refl refl
    (history_sized s.known s.origin s.opened_sizes s.log s.flushed s.pool.core.views h.history h.log i v w there fork (size_hold v fork).blocks (sym (h.sizes fork) ∙ sym (shared_finds s.pool.core h.pool.sizes i fork v there right)) (new_entry s 0 (image 0 [])) (ap (λ (z : ℕ). v.calls ++ Sized v.number fork (size_hold v fork).blocks z ∷ []) h.ends) h.ends refl refl refl refl)

-- The lane holds the block's page after the entries up to what it is noted to have, since forks don't grow yet
pub lane_cell : (s : State) → HistoryInvariant s → (tag : ℕ) → is_block s.pool.core tag ≡ true → s.known tag ≡ true → failed s tag ≡ false → stored s tag ≡ cell s.origin (cut (stored_upto s tag) s.log.entries) tag
lane_cell s h tag block known ok = ⊎_elim (λ (is : stored s tag ≡ cell s.origin (cut (stored_upto s tag) s.log.entries) tag). is) (λ (x : IsUnwrittenNew s.log.entries tag (home_of s tag)). absurd (⊎_elim
    (λ (out : is_block s.pool.core tag ≡ false). false≢true (sym out ∙ block))
    (λ (y : AddsBlock s.log.entries (stored_upto s tag) tag). no_resize (tag_fork tag) (tag_block tag) (tag_block tag + 1) (subst (λ (c : Change). is_of_page c ≡ true) y.grows (plain s h y.index y.entry y.there))) x.fresh)) ((h.flushed_cells tag).is_cell known ok)

-- the flushed position rises to the log's end, whose bytes are durable
raised_state : (t : State) → HistoryInvariant t → length (log_bytes t.names t.log) ≤ t.device.synced → HistoryInvariant (record t { flushed = max t.flushed t.end })
raised_state t k durable = let more : t.flushed ≤ max t.flushed t.end = omega arith in record {
  pool = k.pool;
  logged = k.logged;
  sizes = k.sizes;
  quiet = k.quiet;
  of_pages = k.of_pages;
  there = k.there;
  pages = k.pages;
  known = k.known;
  log = k.log;
  based = k.based;
  ends = k.ends;
  limit = k.limit;
  flushed_from = let x = k.flushed_from in omega arith;
  flushed_to = let x = k.flushed_to in omega arith;
  named = k.named;
  durable = λ lt. let x = bytes_length t.names t.log k.named k.log in let y = k.ends in let z = k.flushed_to in omega arith;
  device = k.device;
  history = history_raised t.known t.origin t.opened_sizes t.log t.flushed t.pool.core.views k.history (max t.flushed t.end) more;
  lanes = reblock lane_shape lane_part t.lanes t.lane (λ _. t.flushed) t.pool.core.views k.lanes (λ _. max t.flushed t.end) (λ g below sums c. c) (λ g o l below c. lane_later t.flushed (max t.flushed t.end) (t.lane g) l more c);
  wide = k.wide;
  placed = k.placed;
  homes = k.homes;
  unframed = k.unframed;
  flushed_cells = λ tag. let x = k.flushed_cells tag in record { based = x.based; within = (let y = x.within in omega arith); is_cell = x.is_cell };
}

raises_step : (s : State) → HistoryInvariant s → (i : ℕ) (v : View) → get_elem? s.pool.core.views i ≡ some v → v.log.synced ≡ true → HistoryInvariant (record s { pool = aside s.pool i (has_raised s.end v); flushed = max s.flushed s.end })
raises_step s h i v there synced = raised_state (record s { pool = aside s.pool i (has_raised s.end v) }) (with_view s h i v (has_raised s.end v) there (record { backend = record { emptied = refl; number = refl; next = refl; links = refl; partitions = refl }; joined = refl; links = refl; partitions = refl; sizes = refl }) refl refl refl (history_same s.known s.origin s.opened_sizes s.log s.flushed s.pool.core.views h.history i v (has_raised s.end v) there (record { calls = refl; front = refl; joined = refl; flushed = refl; emptied = refl; number = refl; kept = refl })))
    (synced_all (written_of s) s.device v.saw_down v.log (tallies log_shape s.pool.core.views 0) (h.device.columns 0 (lit< tt)) (h.device.cells i v 0 there (lit< tt)) (λ k. term_le (λ (u : View). log_weigh k u.log) s.pool.core.views i v there) synced)

-- what is durable stays so
durable_later : (k : LogKind) (end : ℕ) (d : Device) (h : LogHold) → LogAllowed k d h → d.synced ≤ length d.bytes → d.synced ≤ (device_after k end d).synced
durable_later sync_log end d h a low = low
durable_later take_log end d h a low = omega arith
durable_later leave_log end d h a low = omega arith
durable_later (log_out taken) end d h a low = omega arith
durable_later (append f tag p bytes) end d h a low = omega arith
durable_later (fail_append f tag p bytes faults) end d h a low = omega arith
durable_later (fail_sync synced faults) end d h a low = a.later
durable_later (log_back noted) end d h a low = omega arith
durable_later see_down end d h a low = omega arith

-- a step at the log
logs_step : (s : State) → HistoryInvariant s → (i : ℕ) (k : LogKind) (v : View) → get_elem? s.pool.core.views i ≡ some v → LogAllowed k s.device v.log → HistoryInvariant (record s { pool = aside s.pool i (view_logged k v); device = device_after k s.end s.device })
logs_step s h i k v there a = let w : View = view_logged k v in let views = s.pool.core.views in let later = durable_later k s.end s.device v.log a (h.device.columns 0 (lit< tt)).synced in
    let same : SameHere v w = record { backend = record { emptied = refl; number = refl; next = refl; links = refl; partitions = refl }; joined = refl; links = refl; partitions = refl; sizes = refl } in let blocks = blocks_aside s h i v w there refl in record {
      pool = pool_aside s.pool i v w h.pool there same;
      logged = h.logged;
      sizes = h.sizes;
      quiet = h.quiet;
      of_pages = h.of_pages;
      there = h.there;
      pages = h.pages;
      known = h.known;
      log = h.log;
      based = h.based;
      ends = h.ends;
      limit = h.limit;
      flushed_from = h.flushed_from;
      flushed_to = h.flushed_to;
      named = h.named;
      durable = λ lt. let x = h.durable lt in omega arith;
      device = sweep log_shape log_part log_part 1 (λ _. s.device) (λ _. device_after k s.end s.device) (λ _. written_of s) (λ _. written_of s) views i v w h.device there (λ g below. log_keeps (written_of s) s.device v.saw_down v.log k a);
      history = history_same s.known s.origin s.opened_sizes s.log s.flushed views h.history i v w there (record { calls = refl; front = refl; joined = refl; flushed = refl; emptied = refl; number = refl; kept = refl });
      lanes = steady lane_shape lane_part s.lanes s.lane (λ _. s.flushed) views h.lanes i v w there refl (λ q. refl);
      wide = wide_set s.lanes views h.wide i v w there refl refl;
      placed = h.placed;
      homes = blocks.homes;
      unframed = blocks.unframed;
      flushed_cells = blocks.flushed_cells;
    }

-- a page that a backend has copied is the block's, where the contents of its lane are known
pub copied_cell : (s : State) (h : HistoryInvariant s) (i f : ℕ) (v : View) → get_elem? s.pool.core.views i ≡ some v → f < s.pool.core.frames → (s.pool.core.frame f).tag ≢ no_tag → (q : Page) → (link v f).copied ≡ Some q → s.known (s.pool.core.frame f).tag ≡ true → cell s.origin s.log.entries (s.pool.core.frame f).tag ≡ Some q
copied_cell s h i f v there inside named q copied known = let tag = (s.pool.core.frame f).tag in let e = logged_there s h tag (frame_block s h f inside named) known in let same : page_of s tag ≡ q = ((h.pool.pages.cells i v f there inside).copied q copied).is_logged (page_of s tag) e in
    sym (h.logged tag known) ∙ e ∙ ap (λ (y : Page). Some y) same

-- An entry of the page p of the frame f is made
module _ (s : State) (h : HistoryInvariant s) (i f : ℕ) (p : Page) (ch : Change) (v : View) (there : get_elem? s.pool.core.views i ≡ some v) (live : v.emptied ≡ false) (inside : f < s.pool.core.frames) (x : CanEnter s f p ch v) where
  abbrev old : Frame
  old = s.pool.core.frame f

  abbrev tag_of : ℕ
  tag_of = old.tag

  abbrev at_block : Block
  at_block = block_of s.pool.logged tag_of

  abbrev entry : Entry
  entry = new_entry s v.number ch

  abbrev end' : ℕ
  end' = s.end + change_size ch

  abbrev after : View
  after = has_written ch (link v f).copied end' tag_of p (paged (make_entry p) s.pool f v)

  abbrev entered : State
  entered = record s { pool = pool_after (make_entry p) s.pool i f after; log = record s.log { entries = s.log.entries ++ entry ∷ [] }; end = end' }

  is_image : IsImage end' p
  is_image = record { sound = x.right.sound; used = x.right.used; full = x.full; ends = x.ends }

  valid : IsChange end' ch
  valid = makes_valid ch end' tag_of p (link v f) is_image x.makes

  of_page : is_of_page ch ≡ true
  of_page = makes_page_entry ch end' tag_of p (link v f) x.makes

  pub of_block : tag_in ch ≡ Some tag_of
  of_block = makes_of ch end' tag_of p (link v f) x.makes

  other_block : (t : ℕ) → t ≢ tag_of → tag_in ch ≢ Some t
  other_block t other e = other (same_Some t tag_of (sym e ∙ of_block))

  pub named : tag_of ≢ no_tag
  named = (((h.pool.pages.cells i v f there inside).content (λ e. exclusive_not_unlocked x.right.right e)).2).named

  block_else : (t : ℕ) → t ≢ tag_of → home_of entered t ≡ home_of s t
  block_else t other = let e : logged_after (make_entry p) s.pool.logged tag_of t ≡ s.pool.logged t = put_else s.pool.logged tag_of (Some p) t other in ap (λ (o : Option Page). record (home_of s t) { block = record { logged = o } }) e

  block_here : home_of entered tag_of ≡ pages_home_after (make_entry p) (home_of s tag_of)
  block_here = let e : logged_after (make_entry p) s.pool.logged tag_of tag_of ≡ Some p = put_here s.pool.logged tag_of (Some p) in ap (λ (o : Option Page). record (home_of s tag_of) { block = record { logged = o } }) e

  -- the page whose position was tested is the block's
  tested_now : (t : ImageTest) → test_of v.log.redo (link v f).copied ≡ Some t → s.known tag_of ≡ true → (q : Page) × (cell s.origin s.log.entries tag_of ≡ Some q) × (lsn_of q ≡ t.before)
  tested_now t = by_test v.log.redo (link v f).copied refl
    where
      by_test : (r : Option ℕ) (o : Option Page) → (link v f).copied ≡ o → test_of r o ≡ Some t → s.known tag_of ≡ true → (q : Page) × (cell s.origin s.log.entries tag_of ≡ Some q) × (lsn_of q ≡ t.before)
      by_test None o e is known = absurd (cc)
      by_test (Some r) None e is known = absurd (cc)
      by_test (Some r) (Some q) e is known = (q, copied_cell s h i f v there inside named q e known, ap (λ (x : ImageTest). x.before) (same_Some (record { redo = r; before = lsn_of q }) t is))

  -- a record shorter than that of a whole page passed the redo position
  past_now : (c : Change) → MaySkipImage c v.log (link v f) → change_size c < record_size → (t : ImageTest) × (test_of v.log.redo (link v f).copied ≡ Some t) × (t.redo < t.before)
  past_now (image t q) y short = absurd (omega arith)
  past_now (ranges t spans) y short = (record { redo = y.redo; before = lsn_of y.before }, ap (λ (r : Option ℕ). test_of r (link v f).copied) y.loaded ∙ ap (test_of (Some y.redo)) y.copied, y.past)
  past_now (resize fork o n) y short = absurd y

  -- the change makes the page, where the contents of the block's lane are known
  makes_page : (c : Change) → MakesPage c end' tag_of p (link v f) → s.known tag_of ≡ true → changed_page c end' tag_of (cell s.origin s.log.entries tag_of) ≡ Some p
  makes_page (image t q) m _ = changed_image t end' tag_of q (cell s.origin s.log.entries tag_of) (sym m.0) ∙ ap (λ (y : Page). Some y) m.1
  makes_page (ranges t spans) m known = let r = m.1 in
      ap (changed_page (ranges t spans) end' tag_of) (copied_cell s h i f v there inside named r.before r.copied known) ∙ changed_ranges t end' tag_of spans r.before (sym m.0) ∙ ap (λ (y : Page). Some y) r.made
  makes_page (resize fork o n) m _ = absurd m

  pub cell_now : s.known tag_of ≡ true → cell s.origin (s.log.entries ++ entry ∷ []) tag_of ≡ Some p
  cell_now known = cell_longer s.origin s.log.entries entry tag_of ∙ makes_page ch x.makes known

  cell_else : (t : ℕ) → t ≢ tag_of → cell s.origin (s.log.entries ++ entry ∷ []) t ≡ cell s.origin s.log.entries t
  cell_else t other = cell_longer s.origin s.log.entries entry t ∙ changed_else ch end' t (cell s.origin s.log.entries t) of_page (other_block t other)

  logged_longer : (t : ℕ) → s.known t ≡ true → put s.pool.logged tag_of (Some p) t ≡ cell s.origin (s.log.entries ++ entry ∷ []) t
  logged_longer t known = dite (ℕ_discrete t tag_of)
      (λ (e : t ≡ tag_of). put_at s.pool.logged tag_of (Some p) t e ∙ sym (subst (λ (z : ℕ). s.known z ≡ true → cell s.origin (s.log.entries ++ entry ∷ []) z ≡ Some p) (sym e) cell_now known))
      (λ (o : t ≢ tag_of). put_else s.pool.logged tag_of (Some p) t o ∙ h.logged t known ∙ sym (cell_else t o))

  there_longer : (t : ℕ) → is_block s.pool.core t ≡ true → s.known t ≡ true → is_some (cell s.origin (s.log.entries ++ entry ∷ []) t) ≡ true
  there_longer t block known = dite (ℕ_discrete t tag_of)
      (λ (e : t ≡ tag_of). ap (λ (o : Option Page). is_some o) (subst (λ (z : ℕ). s.known z ≡ true → cell s.origin (s.log.entries ++ entry ∷ []) z ≡ Some p) (sym e) cell_now known))
      (λ (o : t ≢ tag_of). ap (λ (y : Option Page). is_some y) (cell_else t o) ∙ h.there t block known)

  all_within : (k : ℕ) (e : Entry) → get_elem? (s.log.entries ++ entry ∷ []) k ≡ some e → end_of e ≤ end'
  all_within k e at = ⊎_elim (λ (t : get_elem? s.log.entries k ≡ some e). let low = ends_below s.log entry h.log k e t in let ends = h.ends in omega arith) (λ (t : (entry ≡ e) × (k ≡ length s.log.entries)). let same : end' ≡ end_of e = ap end_of t.0 in omega arith) (at_end s.log.entries entry e k at)

  pages_longer : (k t : ℕ) (e : Entry) → IsEntryOf (s.log.entries ++ entry ∷ []) t k e → s.known t ≡ true → HasImage (end_of e) (cell s.origin (cut (end_of e) (s.log.entries ++ entry ∷ [])) t)
  pages_longer k t e of known = ⊎_elim
      (λ (y : IsEntryOf s.log.entries t k e). let low = ends_below s.log entry h.log k e y.there in let ends = h.ends in
      subst (λ (es : List Entry). HasImage (end_of e) (cell s.origin es t)) (sym (cut_longer (end_of e) s.log.entries entry (omega (arith, some_size ch)))) (h.pages k t e y known))
      (λ (y : (entry ≡ e) × (tag_in ch ≡ Some t)). subst (λ (d : Entry). HasImage (end_of d) (cell s.origin (cut (end_of d) (s.log.entries ++ entry ∷ [])) t)) y.0 (here t (same_Some tag_of t (sym of_block ∙ y.1)) known))
      (entry_longer s.log.entries entry t k e of)
    where
      here : (t : ℕ) → tag_of ≡ t → s.known t ≡ true → HasImage end' (cell s.origin (cut end' (s.log.entries ++ entry ∷ [])) t)
      here t same known = record { shown = p; is = ap (λ (es : List Entry). cell s.origin es t) (cut_all end' (s.log.entries ++ entry ∷ []) all_within) ∙ subst (λ (z : ℕ). s.known z ≡ true → cell s.origin (s.log.entries ++ entry ∷ []) z ≡ Some p) same cell_now known; valid = is_image }

  pub enters_step : HistoryInvariant entered
  enters_step = let views = s.pool.core.views in let n = s.pool.core.frames in let frame = s.pool.core.frame in let l : Link = link_after (make_entry p) at_block old (link v f) in
      let same : SameHere (paged (make_entry p) s.pool f v) after = record { backend = record { emptied = refl; number = refl; next = refl; links = refl; partitions = refl }; joined = refl; links = refl; partitions = refl; sizes = refl } in record {
        pool = pool_touched s.pool h.pool i f (make_entry p) v after there live inside x.right x.around same;
        logged = logged_longer;
        there = there_longer;
        sizes = λ fork. h.sizes fork ∙ sym (sizes_longer s.log.entries entry s.opened_sizes fork (λ g o n e. no_resize g o n (subst (λ (c : Change). is_of_page c ≡ true) e of_page)));
        quiet = h.quiet;
        of_pages = λ _ k e at. ⊎_elim (λ (t : get_elem? s.log.entries k ≡ some e). plain s h k e t) (λ (t : (entry ≡ e) × (k ≡ length s.log.entries)). subst (λ (y : Entry). is_of_page y.change ≡ true) t.0 of_page) (at_end s.log.entries entry e k at);
        pages = pages_longer;
        known = h.known;
        log = log_longer s.log entry h.log h.ends valid;
        based = h.based;
        ends = sym (end_longer s.log entry h.log);
        limit = x.room;
        flushed_from = h.flushed_from;
        flushed_to = let y = h.flushed_to in omega arith;
        named = h.named;
        durable = h.durable;
        device = sweep log_shape log_part log_part 1 (λ _. s.device) (λ _. s.device) (λ _. written_of s) (λ _. written_of entered) views i v after h.device there
            (λ g below. enter_keeps (written_of s) s.device v.saw_down v.log (record_bytes s.names entry) end' (log_bytes s.names entered.log) x.appended (bytes_longer s.names s.log entry));
        history = history_written s.known s.origin s.opened_sizes s.log s.flushed views h.history h.log i v after there entry h.ends tag_of p (logged_as ch v.log.redo (link v f).copied) of_block (makes_whole ch end' tag_of p (link v f) x.makes) refl tested_now (past_now ch x.past) cell_now refl refl refl refl refl refl refl;
        lanes = steady lane_shape lane_part s.lanes s.lane (λ _. s.flushed) views h.lanes i v after there refl (λ q. refl);
        wide = wide_set s.lanes views h.wide i v after there refl refl;
        placed = h.placed;
        homes = touched s h i f v after old l there live inside refl (home_of entered) (λ g below other. block_else (frame g).tag (λ e. other (sym (h.pool.core.apart f g inside below named (sym e)))))
            (subst (λ (y : Home). Keeps home_shape known home_part (home_of s tag_of) y tt tt old (link v f) old l) (sym block_here) (homes.make_entry_keeps (home_of s tag_of) old (link v f) p x.right));
        unframed = λ t given none. let free = still_unframed n frame f old t refl inside none in subst IsClean (sym (block_else t (λ e. free f inside (sym e)))) (h.unframed t given free);
        flushed_cells = λ t. let y = h.flushed_cells t in record {
          based = y.based;
          within = y.within;
          is_cell = λ known ok. ⊎_elim (λ (is : stored s t ≡ cell s.origin (cut (stored_upto s t) s.log.entries) t). inl (is ∙ ap (λ (es : List Entry). cell s.origin es t) (sym (cut_longer (stored_upto s t) s.log.entries entry (let a = y.within in let c = h.flushed_to in omega (arith, some_size ch))))))
              (λ (is : IsUnwrittenNew s.log.entries t (home_of s t)). inr (fresh_longer s.log.entries entry t (home_of s t) (home_of entered t) of_page refl refl refl refl is)) (y.is_cell known ok);
        };
      }

-- the invariant doesn't speak of the redo position, the clock's hand, the counters and the hint words
other_words : (s : State) → HistoryInvariant s → (redo hand : ℕ) (counter hint : ℕ → ℕ) → HistoryInvariant (record s { redo = redo; hand = hand; counter = counter; hint = hint })
other_words s h redo hand counter hint = record {
  pool = h.pool;
  logged = h.logged;
  sizes = h.sizes;
  quiet = h.quiet;
  of_pages = h.of_pages;
  there = h.there;
  pages = h.pages;
  known = h.known;
  log = h.log;
  based = h.based;
  ends = h.ends;
  limit = h.limit;
  flushed_from = h.flushed_from;
  flushed_to = h.flushed_to;
  named = h.named;
  durable = h.durable;
  device = h.device;
  history = h.history;
  lanes = h.lanes;
  wide = h.wide;
  placed = h.placed;
  homes = h.homes;
  unframed = h.unframed;
  flushed_cells = h.flushed_cells;
}

-- A kind at a word, by backend i
module _ (s : State) (h : HistoryInvariant s) (i : ℕ) (v : View) (there : get_elem? s.pool.core.views i ≡ some v) where
  -- the holder of the log's latch keeps the log end that it loads
  loads_end_step : HistoryInvariant (state_after_word load_end s i v)
  loads_end_step = let w : View = after_word load_end s v in let same : SameHere v w = record { backend = record { emptied = refl; number = refl; next = refl; links = refl; partitions = refl }; joined = refl; links = refl; partitions = refl; sizes = refl } in
      assemble_same s h (aside s.pool i w) s.lane (pool_aside s.pool i v w h.pool there same) refl h.known (record { base = refl; resizes = refl; sizes = λ fork. refl })
      (record {
        device = sweep log_shape log_part log_part 1 (λ _. s.device) (λ _. s.device) (λ _. written_of s) (λ _. written_of s) s.pool.core.views i v w h.device there (λ g below. end_keeps (written_of s) s.device v.saw_down v.log);
        history = history_same s.known s.origin s.opened_sizes s.log s.flushed s.pool.core.views h.history i v w there (record { calls = refl; front = refl; joined = refl; flushed = refl; emptied = refl; number = refl; kept = refl });
        lanes = steady lane_shape lane_part s.lanes s.lane (λ _. s.flushed) s.pool.core.views h.lanes i v w there refl (λ q. refl);
        wide = wide_set s.lanes s.pool.core.views h.wide i v w there refl refl;
      })
      (blocks_aside s h i v w there refl)

  begins_step : HistoryInvariant (state_after_word begin_checkpoint s i v)
  begins_step = let w : View = after_word begin_checkpoint s v in let begun : BegunHere v w = record { emptied = refl; number = refl; next = refl; joined = refl; links = refl; partitions = refl; sizes = refl } in
      assemble_same s h (aside s.pool i w) s.lane (pool_begun i v w begun s.pool h.pool there) refl h.known (record { base = refl; resizes = refl; sizes = λ fork. refl })
      (outer_same s.known s.origin s.opened_sizes s.log s.lanes s.lane s.flushed (written_of s) s.device s.pool.core.views (outer_of s h) i v w there (record { calls = refl; front = refl; joined = refl; flushed = refl; emptied = refl; number = refl; kept = refl }) refl refl refl refl)
      (record { homes = homes_begun i v w begun s.pool.core.frames s.pool.core.frame (home_of s) s.pool.core.views h.homes there; unframed = h.unframed; flushed_cells = h.flushed_cells })

  -- the holder of the log's latch keeps the redo position that it loads
  loads_redo_step : v.log.held ≡ true → HistoryInvariant (state_after_word load_redo s i v)
  loads_redo_step held = let w : View = after_word load_redo s v in let same : SameHere v w = record { backend = record { emptied = refl; number = refl; next = refl; links = refl; partitions = refl }; joined = refl; links = refl; partitions = refl; sizes = refl } in
      assemble_same s h (aside s.pool i w) s.lane (pool_aside s.pool i v w h.pool there same) refl h.known (record { base = refl; resizes = refl; sizes = λ fork. refl })
      (record {
        device = sweep log_shape log_part log_part 1 (λ _. s.device) (λ _. s.device) (λ _. written_of s) (λ _. written_of s) s.pool.core.views i v w h.device there (λ g below. redo_keeps (written_of s) s.device v.saw_down v.log (Some s.redo) (λ free. absurd (let x = held in cc)));
        history = history_same s.known s.origin s.opened_sizes s.log s.flushed s.pool.core.views h.history i v w there (record { calls = refl; front = refl; joined = refl; flushed = refl; emptied = refl; number = refl; kept = refl });
        lanes = steady lane_shape lane_part s.lanes s.lane (λ _. s.flushed) s.pool.core.views h.lanes i v w there refl (λ q. refl);
        wide = wide_set s.lanes s.pool.core.views h.wide i v w there refl refl;
      })
      (blocks_aside s h i v w there refl)

  -- and forgets it once it is raised
  forgets_redo_step : HistoryInvariant (record s { pool = aside s.pool i (after_word raise_redo s v) })
  forgets_redo_step = let w : View = after_word raise_redo s v in let same : SameHere v w = record { backend = record { emptied = refl; number = refl; next = refl; links = refl; partitions = refl }; joined = refl; links = refl; partitions = refl; sizes = refl } in
      assemble_same s h (aside s.pool i w) s.lane (pool_aside s.pool i v w h.pool there same) refl h.known (record { base = refl; resizes = refl; sizes = λ fork. refl })
      (record {
        device = sweep log_shape log_part log_part 1 (λ _. s.device) (λ _. s.device) (λ _. written_of s) (λ _. written_of s) s.pool.core.views i v w h.device there (λ g below. redo_keeps (written_of s) s.device v.saw_down v.log (None) (λ free. refl));
        history = history_same s.known s.origin s.opened_sizes s.log s.flushed s.pool.core.views h.history i v w there (record { calls = refl; front = refl; joined = refl; flushed = refl; emptied = refl; number = refl; kept = refl });
        lanes = steady lane_shape lane_part s.lanes s.lane (λ _. s.flushed) s.pool.core.views h.lanes i v w there refl (λ q. refl);
        wide = wide_set s.lanes s.pool.core.views h.wide i v w there refl refl;
      })
      (blocks_aside s h i v w there refl)

  raises_redo_step : HistoryInvariant (state_after_word raise_redo s i v)
  raises_redo_step = let t : State = state_after_word raise_redo s i v in other_words (record s { pool = aside s.pool i (after_word raise_redo s v) }) forgets_redo_step t.redo t.hand t.counter t.hint

  words_step : (k : WordKind) → WordAllowed k s v → HistoryInvariant (state_after_word k s i v)
  words_step load_end a = loads_end_step
  words_step begin_checkpoint a = begins_step
  words_step load_flushed a = let w : View = after_word load_flushed s v in with_view s h i v w there (record { backend = record { emptied = refl; number = refl; next = refl; links = refl; partitions = refl }; joined = refl; links = refl; partitions = refl; sizes = refl }) refl refl refl
      (history_loaded s.known s.origin s.opened_sizes s.log s.flushed s.pool.core.views h.history i v w there refl refl refl refl refl refl refl)
  words_step raise_flushed synced = raises_step s h i v there synced
  words_step load_redo held = loads_redo_step held
  words_step raise_redo ended = raises_redo_step
  -- the others leave the flushed position
  words_step k a = let w : View = after_word k s v in let t : State = state_after_word k s i v in other_words (record s { pool = aside s.pool i w })
      (with_view s h i v w there (record { backend = record { emptied = refl; number = refl; next = refl; links = refl; partitions = refl }; joined = refl; links = refl; partitions = refl; sizes = refl }) refl refl refl
      (history_same s.known s.origin s.opened_sizes s.log s.flushed s.pool.core.views h.history i v w there (record { calls = refl; front = refl; joined = refl; flushed = refl; emptied = refl; number = refl; kept = refl })))
      t.redo t.hand t.counter t.hint

pub step_keeps : {e : Event} {s t : State} → Step e s t → HistoryInvariant s → HistoryInvariant t
step_keeps (pools {s = s} x a) h = pools_step s h x a
step_keeps (lanes {s = s} i q k v there live low a alone) h = lanes_step s h i q k v there live low a alone
step_keeps (writes {s = s} i q f k v there live low inside a x) h = writes_step s h i q f k v there live low inside a x
step_keeps (notes {s = s} i q f noted k v there live low inside a x) h = notes_step s h i q f noted k v there live low inside a x
step_keeps (enters {s = s} i f p ch v there live inside x) h = enters_step s h i f p ch v there live inside x
step_keeps (reads {s = s} i f tag p v there live inside a) h = reads_step s h i f tag p v there inside a
step_keeps (reads_size {s = s} i fork v there live a) h = reads_size_step s h i fork v there a
step_keeps (words {s = s} i k v there live a) h = words_step s h i v there k a
step_keeps (logs {s = s} i k v there live a record_is) h = logs_step s h i k v there a

pub run_keeps : {es : List Event} {s t : State} → Run es s t → HistoryInvariant s → HistoryInvariant t
run_keeps rests h = h
run_keeps (goes x r) h = run_keeps r (step_keeps x h)
