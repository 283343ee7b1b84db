-- Each step keeps that only blocks whose pages were sound at the start are read and written.
use Rattle.std.proofs.Common.{◌≡◌, ◌≢◌, ◌⊎◌, inl, inr, ℕ, ◌+◌, ◌<◌, Bool, true, false, List, [], ◌∷◌, ◌++◌, length, set, Some, None, sym, refl, ap, ◌∙◌, subst, ⊎_elim, arith}
use Rattle.std.proofs.lemmas.Bool.{both_ways, cases_Bool, true_from_ne_false, false_from_ne_true}
use Rattle.std.proofs.lemmas.Option.{same_Some, none-some}
use mathlib.Core.Logic.{dite}
use mathlib.Core.Option.{some, some-ne-none}
use native.Mathlib.Decide.{ℕ_discrete}
use lib.ListN.{get_elem?}
use Rattle.page_layout.specs.Soundness.{is_sound_page}
use Rattle.pin_core.specs.declared.view.Call.{Call}
use Rattle.pin_core.specs.declared.view.Content.TheVariants.{Unlocked}
use Rattle.pin_core.specs.declared.view.LoadedWord.TheVariants as seen
use Rattle.pin_core.specs.declared.view.View.{View}
use Rattle.pin_core.specs.State.{Config, Frame, Page, no_tag, link, hold, first_view, new_view, emptied_view, joined_view, is_block, size_hold}
use Rattle.pin_core.specs.State as pins
use Rattle.pin_core.specs.Tallies.{flag_weight}
use Rattle.pin_core.specs.Kinds as pin_kinds
use Rattle.pin_core.specs.Turns.{view_turned}
use Rattle.pin_core.specs.Sizes.{view_sized}
use Rattle.pin_core.specs.Steps as pin_steps
use Rattle.page_core.specs.Steps as page_steps
use Rattle.page_core.specs.Kinds.{begin_write, make_entry}
use Rattle.page_core.specs.Tallies.{unapplied_locks, weigh}
use Rattle.history_core.specs.Log.{Entry, image, IsEntryOf, change_size, end_of, log_end, cell, cut, read_or_written, tag_in}
use Rattle.history_core.specs.Lanes.{lane_back}
use Rattle.history_core.specs.Device.{view_logged}
use Rattle.history_core.specs.State.{State, Store, opening}
use Rattle.history_core.specs.Invariant.{HistoryInvariant}
use Rattle.history_core.specs.Histories.{IsStored, ImagesAlone}
use Rattle.history_core.specs.Sound.{WasSound, SoundLaw, ShowsSound, UnsoundStay, UnsoundAreFirst}
use Rattle.history_core.specs.Steps.{Event, new_entry, stepped, looked, pool_noting, paged, laned, has_read, has_written, Step, pools, lanes, writes, notes, logs, enters, reads, words, after_word, reads_size, has_seen_size}
use Rattle.history_core.proofs.Calls.{at_both}
use Rattle.history_core.proofs.Histories.{clean_stored}
use Rattle.history_core.proofs.Logs.{cut_all, ends_below, cell_absent, after_none, after_images, entry_longer, IsLastUpto, last_upto, cell_upto}
use Rattle.history_core.proofs.Stepping.{makes_of, page_of, logged_there, frame_block, plain, exclusive_not_unlocked}
use Rattle.grid.specs.Shape.{total}
use Rattle.grid.proofs.Lists.{at_set, at_end, at_only}
use Rattle.grid.proofs.Sums.{some_term}

pub weighs_flag : (b : Bool) → 0 < flag_weight b → b ≡ true
weighs_flag true lt = refl
weighs_flag false lt = absurd (omega arith)

module _ (s : State) (h : HistoryInvariant s) (entries : (k tag : ℕ) (e : Entry) → IsEntryOf s.log.entries tag k e → WasSound s tag) where
  -- no entry is of a block whose page was not sound
  none_of : (tag : ℕ) (p : Page) → s.known tag ≡ true → s.origin tag ≡ Some p → is_sound_page p ≡ false → (k : ℕ) (e : Entry) → IsEntryOf s.log.entries tag k e → ⊥
  none_of tag p known is unsound k e of = both_ways _ unsound (entries k tag e of p known is)

  -- the page after the log of such a block
  first_page : (tag : ℕ) (p : Page) → s.known tag ≡ true → s.origin tag ≡ Some p → is_sound_page p ≡ false → s.pool.logged tag ≡ Some p
  first_page tag p known is unsound = h.logged tag known ∙ cell_absent s.origin s.log.entries tag (plain s h) (none_of tag p known is unsound) ∙ is

  -- the block of a valid frame
  valid_sound : (f : ℕ) → f < s.pool.core.frames → (s.pool.core.frame f).tag ≢ no_tag → (s.pool.core.frame f).word.valid ≡ true → WasSound s (s.pool.core.frame f).tag
  valid_sound f below named valid p known is = let fr : Frame = s.pool.core.frame f in let c = h.pool.pages.columns f below in let locks : ℕ = total (λ (v : View). weigh unapplied_locks (link v f)) s.pool.core.views in
      ⊎_elim (λ (e : is_sound_page p ≡ true). e) (λ (unsound : is_sound_page p ≡ false). let first = first_page fr.tag p known is unsound in dite (ℕ_discrete locks 0)
      (λ (none : locks ≡ 0). ap is_sound_page (c.page p valid named none first) ∙ c.sound valid)
      (λ (more : locks ≢ 0). let x = some_term (λ (v : View). weigh unapplied_locks (link v f)) s.pool.core.views (omega arith) in
      ((h.pool.pages.cells x.0 x.1 f x.2 below).unapplied (weighs_flag (link x.1 f).unapplied x.3)).is_sound p first))
      (cases_Bool (is_sound_page p))

  -- the block of a frame that a view has locked
  pub locked_sound : (i f : ℕ) (v : View) → get_elem? s.pool.core.views i ≡ some v → f < s.pool.core.frames → (link v f).content ≢ Unlocked → WasSound s (s.pool.core.frame f).tag
  locked_sound i f v there below locked = let x = (h.pool.pages.cells i v f there below).content locked in valid_sound f below (x.2).named x.1

  -- and where its pin remembers the block
  remembered : (i f tag : ℕ) (v : View) → get_elem? s.pool.core.views i ≡ some v → f < s.pool.core.frames → (link v f).tag ≡ Some tag → WasSound s (s.pool.core.frame f).tag → WasSound s tag
  remembered i f tag v there below is = subst (WasSound s) ((h.pool.core.grid.cells i v f there below).remembers tag is).1

-- the calls of a list of views
abbrev AreSound : State → List View → Type 0
AreSound s views = (i k tag : ℕ) (v : View) (c : Call) → get_elem? views i ≡ some v → get_elem? v.calls k ≡ some c → read_or_written c ≡ Some tag → WasSound s tag

module _ (s : State) (views : List View) (m : AreSound s views) where
  -- a view changes, whose calls are sound
  calls_set : (i : ℕ) (w : View) → ((k tag : ℕ) (c : Call) → get_elem? w.calls k ≡ some c → read_or_written c ≡ Some tag → WasSound s tag) → AreSound s (set views i w)
  calls_set i w x j k tag u c at is = ⊎_elim (λ (y : (j ≡ i) × (w ≡ u)). x k tag c (subst (λ (z : View). get_elem? z.calls k ≡ some c) (sym y.1) is)) (λ (y : (j ≢ i) × (get_elem? views j ≡ some u)). m j k tag u c y.1 is) (at_set views i j w u at)

  calls_same : (i : ℕ) (v w : View) → get_elem? views i ≡ some v → w.calls ≡ v.calls → AreSound s (set views i w)
  calls_same i v w there same = calls_set i w (λ k tag c at. m i k tag v c there (subst (λ (l : List Call). get_elem? l k ≡ some c) same at))

  -- with one call more
  calls_added : (i : ℕ) (v w : View) (c : Call) → get_elem? views i ≡ some v → w.calls ≡ v.calls ++ c ∷ [] → ((tag : ℕ) → read_or_written c ≡ Some tag → WasSound s tag) → AreSound s (set views i w)
  calls_added i v w c there more is = calls_set i w (λ k tag d at. ⊎_elim (λ (y : get_elem? v.calls k ≡ some d). m i k tag v d there y) (λ (y : (c ≡ d) × (k ≡ length v.calls)). subst (λ (z : Call). read_or_written z ≡ Some tag → WasSound s tag) y.0 (is tag)) (at_end v.calls c d k (subst (λ (l : List Call). get_elem? l k ≡ some d) more at)))

no_calls : {c : Call} (k : ℕ) → get_elem? [] k ≡ some c → ⊥
no_calls {c = c} k at = some-ne-none c (sym at)

pools_sound : (s : State) → AreSound s s.pool.core.views → {e : pin_steps.Event} {core' : pins.State} → pin_steps.Step e s.pool.core core' → AreSound s core'.views
pools_sound s m (pin_steps.touches i f k v there live inside a around) = calls_same s s.pool.core.views m i v (pin_kinds.view_after k s.pool.core.partition_of f (s.pool.core.frame f) (link v f) v) there refl
pools_sound s m (pin_steps.turns i p k v there live below a) = calls_same s s.pool.core.views m i v (view_turned k p (hold v p) v) there refl
pools_sound s m (pin_steps.sized i fork k v there live a) = calls_same s s.pool.core.views m i v (view_sized k fork s.pool.core v) there refl
pools_sound s m (pin_steps.splits v there room) = let w : View = record v { next = v.next + 1 } in let b : View = new_view v.next s.pool.core.base (length v.links) (length v.partitions) (length v.lanes) in let x = calls_same s s.pool.core.views m 0 v w there refl in
    λ j k tag u c at is. ⊎_elim (λ (y : get_elem? (set s.pool.core.views 0 w) j ≡ some u). x j k tag u c y is) (λ (y : (b ≡ u) × (j ≡ length (set s.pool.core.views 0 w))). absurd (no_calls k (subst (λ (z : View). get_elem? z.calls k ≡ some c) (sym y.0) is))) (at_end (set s.pool.core.views 0 w) b u j at)
pools_sound s m (pin_steps.joins j v u there other here live free) = let w : View = joined_view v u in
    let x = calls_set s s.pool.core.views m 0 w (λ k tag c at. ⊎_elim (λ (y : get_elem? v.calls k ≡ some c). m 0 k tag v c there y) (λ (y : (n : ℕ) × (get_elem? u.calls n ≡ some c)). m j y.0 tag u c here y.1) (at_both v.calls u.calls k c at)) in
    calls_set s (set s.pool.core.views 0 w) x j emptied_view (λ k tag c at. absurd (no_calls k at))

pub sound_kept : {e : Event} {s t : State} → Step e s t → HistoryInvariant s → SoundLaw s → SoundLaw t
sound_kept (pools {s = s} (page_steps.cores x) a) h m = record { entries = m.entries; calls = pools_sound s m.calls x }
sound_kept (pools {s = s} (page_steps.touches i f k v there live inside a around) plain) h m = record { entries = m.entries; calls = calls_same s s.pool.core.views m.calls i v (paged k s.pool f v) there refl }
sound_kept (lanes {s = s} i q k v there live low a alone) h m = record { entries = m.entries; calls = calls_same s s.pool.core.views m.calls i v (stepped (laned k q v v)) there refl }
sound_kept (writes {s = s} i q f k v there live low inside a x) h m = record { entries = m.entries; calls = calls_same s s.pool.core.views m.calls i v (laned k q v (paged begin_write s.pool f v)) there refl }
sound_kept (notes {s = s} i q f noted k v there live low inside a x) h m = record { entries = m.entries; calls = calls_same s s.pool.core.views m.calls i v (laned (lane_back noted) q v (paged k (pool_noting k s f) f v)) there refl }
sound_kept (logs {s = s} i k v there live a record_is) h m = record { entries = m.entries; calls = calls_same s s.pool.core.views m.calls i v (view_logged k v) there refl }
sound_kept (enters {s = s} i f p ch v there live inside x) h m = let tag = (s.pool.core.frame f).tag in let end = s.end + change_size ch in let entry = new_entry s v.number ch in let was : WasSound s tag = locked_sound s h m.entries i f v there inside (exclusive_not_unlocked x.right.right) in record {
  entries = λ k z e of. ⊎_elim (λ (y : IsEntryOf s.log.entries z k e). m.entries k z e y) (λ (y : (entry ≡ e) × (tag_in ch ≡ Some z)). subst (WasSound s) (same_Some tag z (sym (makes_of ch end tag p (link v f) x.makes) ∙ y.1)) was) (entry_longer s.log.entries entry z k e of);
  calls = calls_added s s.pool.core.views m.calls i v (has_written ch (link v f).copied end tag p (paged (make_entry p) s.pool f v)) _ there refl (λ z e. subst (WasSound s) (same_Some tag z e) was);
}
sound_kept (reads {s = s} i f tag p v there live inside a) h m = record { entries = m.entries; calls = calls_added s s.pool.core.views m.calls i v (looked (seen.LogEnd s.end) (has_read s.end tag p v)) _ there refl (λ z e. subst (WasSound s) (same_Some tag z e) (remembered s h m.entries i f tag v there inside a.remembered (locked_sound s h m.entries i f v there inside a.right))) }
sound_kept (reads_size {s = s} i fork v there live a) h m = record { entries = m.entries; calls = calls_added s s.pool.core.views m.calls i v (looked (seen.LogEnd s.end) (has_seen_size s.end fork (size_hold v fork).blocks v)) _ there refl (λ z e. absurd (cc)) }
sound_kept (words {s = s} i k v there live a) h m = record { entries = m.entries; calls = calls_same s s.pool.core.views m.calls i v (after_word k s v) there refl }

pub sound_open : (c : Config) (store : Store) (page : Page) → SoundLaw (opening c store page)
sound_open c store page = record {
  entries = λ k tag e of. absurd (some-ne-none e (sym of.there));
  calls = λ i k tag v d there at. absurd (no_calls k (subst (λ (z : View). get_elem? z.calls k ≡ some d) (sym (at_only (first_view c.base c.frames c.partitions c.lanes) v i there).0) at));
}

-- what shows that a block's page was sound
pub shows : (s : State) → HistoryInvariant s → SoundLaw s → ShowsSound s
shows s h m = record {
  seen = λ i f tag v there below is valid. let x = h.pool.core.grid.cells i v f there below in remembered s h m.entries i f tag v there below is (valid_sound s h m.entries f below ((x.remembers tag is).0).named (x.seen valid));
  copied = λ i f tag v there below is copied. remembered s h m.entries i f tag v there below is (locked_sound s h m.entries i f v there below (by_copy (link v f).copied copied (λ p e. ((h.pool.pages.cells i v f there below).copied p e).right)));
  called = m.calls;
}
  where
    by_copy : (o : _) → o ≢ None → {A : Type 0} → ((p : Page) → o ≡ Some p → A) → A
    by_copy None there is = absurd (there refl)
    by_copy (Some p) there is = is p refl

-- a block whose page was not sound is as it was
pub stay_untouched : (s : State) → HistoryInvariant s → SoundLaw s → UnsoundStay s
stay_untouched s h m tag p named known is unsound = record { unentered = none; is_cell = cell_is; invalid = invalid; done = stored_is.done; stored_is = stored_is.stored_is known ∙ cell_is }
  where
    none : (k : ℕ) (e : Entry) → IsEntryOf s.log.entries tag k e → ⊥
    none = none_of s h m.entries tag p known is unsound

    cell_is : cell s.origin s.log.entries tag ≡ s.origin tag
    cell_is = cell_absent s.origin s.log.entries tag (plain s h) none

    invalid : (f : ℕ) → f < s.pool.core.frames → (s.pool.core.frame f).tag ≡ tag → (s.pool.core.frame f).word.valid ≡ false
    invalid f below same = false_from_ne_true (s.pool.core.frame f).word.valid (λ valid. both_ways _ unsound (subst (WasSound s) same (valid_sound s h m.entries f below (λ e. named (sym same ∙ e)) valid) p known is))

    clean : (f : ℕ) → f < s.pool.core.frames → (s.pool.core.frame f).tag ≡ tag → (s.pool.core.frame f).word.dirty ≡ false
    clean f below same = false_from_ne_true (s.pool.core.frame f).word.dirty (λ dirty. both_ways _ (invalid f below same) ((h.pool.core.grid.columns f below).dirty dirty))

    there : is_block s.pool.core tag ≡ true
    there = true_from_ne_false (is_block s.pool.core tag) (λ e. none-some p (sym (h.pool.gone tag e) ∙ h.logged tag known ∙ cell_is ∙ is))

    stored_is : IsStored s tag
    stored_is = clean_stored s h tag named there clean

-- a page that isn't sound is the first one of its block, for after an entry a page is sound
pub unsound_first : (s : State) → HistoryInvariant s → ImagesAlone s → UnsoundAreFirst s
unsound_first s h alone = record {
  cells = cells;
  last_cells = last_cells;
  reads = λ i f v p there below is unsound known. let tag = (s.pool.core.frame f).tag in let r = (h.pool.pages.cells i v f there below).read p is in let named = (((h.pool.pages.cells i v f there below).input r.right).0).named in
      let e = logged_there s h tag (frame_block s h f below named) known in last_cells tag p (inl known) (sym (h.logged tag known) ∙ e ∙ ap (λ (y : Page). Some y) (r.is_logged (page_of s tag) e)) unsound;
}
  where
    known_cells : (tag place : ℕ) (p : Page) → s.known tag ≡ true → cell s.origin (cut place s.log.entries) tag ≡ Some p → is_sound_page p ≡ false → s.origin tag ≡ Some p
    known_cells tag place p known is unsound = ⊎_elim
        (λ (m : (k : ℕ) × (e : Entry) × IsLastUpto s.log.entries tag place k e). let x = h.pages m.0 tag m.1 m.2.entered known in
        let same : x.shown ≡ p = same_Some x.shown p (sym x.is ∙ cell_upto s.origin s.log.entries tag place m.0 m.1 (plain s h) m.2 ∙ is) in absurd (both_ways _ unsound (ap is_sound_page (sym same) ∙ x.valid.sound)))
        (λ (none : (k : ℕ) (e : Entry) → IsEntryOf s.log.entries tag k e → place < end_of e). sym (after_none tag place s.log.entries (s.origin tag) (plain s h) none) ∙ is)
        (last_upto s.log.entries tag place)

    cells : (tag place : ℕ) (p : Page) → (s.known tag ≡ true) ⊎ (s.ranges ≡ false) → cell s.origin (cut place s.log.entries) tag ≡ Some p → is_sound_page p ≡ false → s.origin tag ≡ Some p
    cells tag place p (inl known) is unsound = known_cells tag place p known is unsound
    cells tag place p (inr none) is unsound = after_images tag place s.log.entries (s.origin tag) p h.log.valid (alone none) is unsound

    last_cells : (tag : ℕ) (p : Page) → (s.known tag ≡ true) ⊎ (s.ranges ≡ false) → cell s.origin s.log.entries tag ≡ Some p → is_sound_page p ≡ false → s.origin tag ≡ Some p
    last_cells tag p either is unsound = cells tag (log_end s.log) p either (ap (λ (es : List Entry). cell s.origin es tag) (cut_all (log_end s.log) s.log.entries (ends_below s.log (new_entry s 0 (image tag [])) h.log)) ∙ is) unsound
