-- What loads show of the pages that the lanes held at the start.
use Rattle.std.proofs.Common.{◌≡◌, ◌⊎◌, inl, inr, ℕ, ◌<◌, ◌≤◌, Bool, true, false, Option, Some, List, [], ◌∷◌, map, get_or, sym, refl, ap, ◌∙◌, subst, ⊎_elim, arith}
use Rattle.std.specs.Prelude.{is_some}
use Rattle.std.proofs.lemmas.Option.{same_Some}
use Rattle.std.proofs.lemmas.Bool.{both_ways}
use mathlib.Core.Option.{none, some}
use lib.ListN.{get_elem?}
use Rattle.atomic_table.specs.Table.{Me, step, Allows}
use Rattle.atomic_table.proofs.Lists.{at_map}
use Rattle.block_tag.specs.declared.tag.Tag.{Tag}
use Rattle.block_tag.specs.Names.{packed_tag}
use Rattle.state_word.specs.declared.word.StateWord.{StateWord}
use Rattle.state_word.specs.Fields.{fields}
use Rattle.page_layout.specs.Fields.{lsn_of}
use Rattle.page_layout.specs.Soundness.{is_sound_page}
use Rattle.segment_store.specs.Contents.{Pages}
use Rattle.pin_core.specs.declared.view.Link.{Link}
use Rattle.pin_core.specs.declared.view.View.{View}
use Rattle.pin_core.specs.State.{Page, link, is_block}
use Rattle.history_core.specs.Laws.{Laws}
use Rattle.history_core.specs.Log.{Entry, AreChained, HasImage, cell, end_from, end_of}
use Rattle.history_core.specs.State.{State}
use Rattle.history_core.specs.Words.{end_word}
use Rattle.history_core.proofs.Logs.{cell_absent, cell_none, cell_upto, chain_below, cut_all, last_upto, some_size, IsLastUpto}
use Rattle.history_core.proofs.Stepping.{page_of, logged_there, frame_block, plain}
use Rattle.history_core.proofs.Sound.{stay_untouched}
use Rattle.table_rule.specs.declared.value.Value.{Value}
use Rattle.table_rule.specs.declared.opening.Opening.{Opening}
use Rattle.table_rule.specs.Layout.{end_place, lane_of_tag, state_place}
use Rattle.table_rule.specs.Shows.{Devices, RuleHolds, KeepsOpening, IsPlaced}
use Rattle.table_rule.specs.TakenLanes.{IsBlockOf}
use Rattle.table_rule.proofs.LanesOut.{block_number, map_at}
use Rattle.frame_table.specs.declared.log_words.EndLoad.{EndLoad}
use Rattle.frame_table.specs.declared.log_words.EndLoad.TheVariants.{Plain, Read, Checkpoint}
use Rattle.frame_table.specs.declared.table.FrameTable.{FrameTable}
use Rattle.frame_table.specs.Opened.{CopiesAreLogged, FitsHeld, FitsOpening, LoggedOrOpening, tells_look}
use Rattle.frame_table.specs.WordSteps.{tells_word}
use Rattle.frame_table.specs.EndLoads.{IsEndAllowed, ReadsHeld, ReadsOpening, end_kind, tells_end_load}
use Rattle.frame_table.specs.Seats.{base_of, lanes_in, opened_of, relations_of}
use Rattle.frame_table.specs.FrameSteps.{always, looking, tells}
use Rattle.frame_table.proofs.Allowing.{allows_with}
use Rattle.frame_table.proofs.WordSteps.{loads_end_there}
use Rattle.frame_table.proofs.Words.{looks}

-- a log that ends where it begins has no entry
no_entries : (base : ℕ) (es : List Entry) → AreChained base es → end_from base es ≡ base → es ≡ []
unfolding AreChained
no_entries base [] chain e = refl
no_entries base (x ∷ es) chain e = absurd (let long = some_size x.change in let low = chain_below base (x ∷ es) chain 0 x refl in let starts : x.start ≡ base = chain.0 in omega (arith, e))

module _ {L G : Type 0} (d : Devices L G) (o : Opening L G) (s : State) (h : KeepsOpening d o s) (laws : Laws s) where
  -- A block of a lane whose contents were known at the start
  module _ (tag : Tag) (q : ℕ) (l : L) (known : Pages) (block : IsBlockOf o.catalog.value o.config.lanes q tag) (at : get_elem? o.lanes.value.items q ≡ some l) (told : d.contents l ≡ Some known) where
    abbrev word : ℕ
    word = packed_tag tag

    placed : IsPlaced o.catalog.value o.config.lanes q word tag
    placed = block_number d o.catalog.value o.config.lanes q tag block

    is_known : s.known word ≡ true
    is_known = h.known q l word at (ap (lane_of_tag o.config.lanes) placed.named ∙ placed.placed) ∙ ap (λ (x : Option Pages). is_some x) told

    first : known tag ≡ s.origin word
    first = h.origin q l known word tag at told placed

    abbrev now : Page
    now = page_of s word

    within : (k : ℕ) (e : Entry) → get_elem? s.log.entries k ≡ some e → end_of e ≤ s.end
    within k e at = let low = chain_below s.log.base s.log.entries laws.invariant.log.chained k e at in let end = laws.invariant.ends in omega arith

    -- the page is the one at the start, or one with content whose position is at most the log's end
    now_is : (cell s.origin s.log.entries word ≡ s.origin word) ⊎ ((end : ℕ) × (end ≤ s.end) × HasImage end (cell s.origin s.log.entries word))
    now_is = ⊎_elim
        (λ (m : (k : ℕ) × (e : Entry) × IsLastUpto s.log.entries word s.end k e). inr (end_of m.1, m.2.upto, subst (HasImage (end_of m.1)) (cell_upto s.origin s.log.entries word s.end m.0 m.1 (plain s laws.invariant) m.2 ∙ ap (λ (l : List Entry). cell s.origin l word) (cut_all s.end s.log.entries within)) (laws.invariant.pages m.0 word m.1 m.2.entered is_known)))
        (λ none. inl (cell_absent s.origin s.log.entries word (plain s laws.invariant) (λ k e of. absurd (let a = none k e of in let b = within k e of.there in omega arith))))
        (last_upto s.log.entries word s.end)

    -- at a frame whose tag the pin remembers
    module _ (id f : ℕ) (v : View) (there : get_elem? s.pool.core.views id ≡ some v) (inside : f < s.pool.core.frames) (remembers : (link v f).tag ≡ Some word) where
      tagged : (s.pool.core.frame f).tag ≡ word
      tagged = ((laws.invariant.pool.core.grid.cells id v f there inside).remembers word remembers).1

      logged : s.pool.logged word ≡ Some now
      logged = logged_there s laws.invariant word (subst (λ (z : ℕ). is_block s.pool.core z ≡ true) tagged (frame_block s laws.invariant f inside ((laws.invariant.pool.core.grid.cells id v f there inside).remembers word remembers).0.named)) is_known

      frame_logged : s.pool.logged (s.pool.core.frame f).tag ≡ Some now
      frame_logged = ap s.pool.logged tagged ∙ logged

      cell_now : cell s.origin s.log.entries word ≡ Some now
      cell_now = sym (laws.invariant.logged word is_known) ∙ logged

      copied_is : (page : Page) → (link v f).copied ≡ Some page → now ≡ page
      copied_is page copied = ((laws.invariant.pool.pages.cells id v f there inside).copied page copied).is_logged now frame_logged

      read_is : (page : Page) → (link v f).read ≡ Some page → now ≡ page
      read_is page read = ((laws.invariant.pool.pages.cells id v f there inside).read page read).is_logged now frame_logged

      -- a page that was copied is at the log's end or before it, or the one at the start
      copied_logged : (page : Page) → (link v f).copied ≡ Some page → (lsn_of page ≤ s.end) ⊎ (known tag ≡ Some page)
      copied_logged page copied = ⊎_elim
          (λ (is : cell s.origin s.log.entries word ≡ s.origin word). inr (first ∙ sym is ∙ cell_now ∙ ap (λ (p : Page). Some p) (copied_is page copied)))
          (λ (x : (end : ℕ) × (end ≤ s.end) × HasImage end (cell s.origin s.log.entries word)). inl (let same : x.2.shown ≡ page = same_Some x.2.shown page (sym x.2.is ∙ cell_now ∙ ap (λ (p : Page). Some p) (copied_is page copied)) in let ends : lsn_of page ≡ x.0 = ap lsn_of (sym same) ∙ x.2.valid.ends in let low = x.1 in omega arith))
          now_is

      -- a page that the lane gave and that isn't sound is the one at the start
      unsound_first : (page : Page) → (link v f).read ≡ Some page → is_sound_page page ≡ false → known tag ≡ Some page
      unsound_first page read unsound = ⊎_elim
          (λ (is : cell s.origin s.log.entries word ≡ s.origin word). first ∙ sym is ∙ cell_now ∙ ap (λ (p : Page). Some p) (read_is page read))
          (λ (x : (end : ℕ) × (end ≤ s.end) × HasImage end (cell s.origin s.log.entries word)). absurd (let same : x.2.shown ≡ page = same_Some x.2.shown page (sym x.2.is ∙ cell_now ∙ ap (λ (p : Page). Some p) (read_is page read)) in both_ways _ unsound (ap is_sound_page (sym same) ∙ x.2.valid.sound)))
          now_is

      -- the page at the start of a block with a valid frame was sound
      valid_first : (s.pool.core.frame f).word.valid ≡ true → (page : Page) → known tag ≡ Some page → is_sound_page page ≡ true
      valid_first valid page is = of_sound (is_sound_page page) refl
        where
          of_sound : (b : Bool) → is_sound_page page ≡ b → is_sound_page page ≡ true
          of_sound true e = e
          of_sound false e = absurd (both_ways _ ((stay_untouched s laws.invariant laws.sound word page (λ none. ((laws.invariant.pool.core.grid.cells id v f there inside).remembers word remembers).0.named (tagged ∙ none)) is_known (sym first ∙ is) e).invalid f inside tagged) valid)

  -- while the log has no entry the page is the one at the start
  none_yet : s.end ≡ o.base → s.log.entries ≡ []
  none_yet at_base = no_entries s.log.base s.log.entries laws.invariant.log.chained (sym laws.invariant.ends ∙ at_base ∙ sym h.base)

  -- by the pages that each lane held
  module _ (id : ℕ) (v : View) (there : get_elem? s.pool.core.views id ≡ some v) where
    reads_held : (what : EndLoad) → IsEndAllowed o.config.frames what v → s.end ≡ o.base → ReadsHeld o.catalog.value o.config.lanes (map d.contents o.lanes.value.items) what v
    reads_held Plain allowed at_base = tt
    reads_held Checkpoint allowed at_base = tt
    reads_held (Read f) allowed at_base = λ tag page remembers copied q known block at. let l = map_at d.contents o.lanes.value.items q (Some known) at in let inside : f < s.pool.core.frames = (let e = h.frames in let low = allowed.0 in omega arith) in
        first tag q l.0 known block l.1 l.2 ∙ sym (ap (λ (es : List Entry). cell s.origin es (packed_tag tag)) (none_yet at_base) ∙ cell_none s.origin (packed_tag tag)) ∙ cell_now tag q l.0 known block l.1 l.2 id f v there inside remembers ∙ ap (λ (p : Page). Some p) (copied_is tag q l.0 known block l.1 l.2 id f v there inside remembers page copied)

    copies_logged : CopiesAreLogged o.catalog.value o.config.lanes (map d.contents o.lanes.value.items) o.config.frames s.end v
    copies_logged f tag page low remembers copied q known block at = let l = map_at d.contents o.lanes.value.items q (Some known) at in
        copied_logged tag q l.0 known block l.1 l.2 id f v there (let e = h.frames in omega arith) remembers page copied

    fits_held : (f : ℕ) (w : StateWord) → f < s.pool.core.frames → (s.pool.core.frame f).word ≡ w → FitsHeld o.catalog.value o.config.lanes (map d.contents o.lanes.value.items) (link v f) w
    fits_held f w inside is = record {
      unsound = λ tag page remembers read unsound q known block at. let l = map_at d.contents o.lanes.value.items q (Some known) at in unsound_first tag q l.0 known block l.1 l.2 id f v there inside remembers page read unsound;
      valid = λ tag remembers valid q known page block at held. let l = map_at d.contents o.lanes.value.items q (Some known) at in valid_first tag q l.0 known block l.1 l.2 id f v there inside remembers (ap (λ (x : StateWord). x.valid) is ∙ valid) page held;
    }

module _ {L G : Type 0} (d : Devices L G) (o : Opening L G) where
  pub loads_end_held : (slots id : ℕ) (me : Me (Value L G) View) → me.0.emptied ≡ false → (what : EndLoad) → IsEndAllowed o.config.frames what me.0
      → Allows (RuleHolds d o) slots id me (end_place o.config.frames) (λ n. n) (tells_end_load what o.config.frames o.base o.catalog.value o.config.lanes (map d.contents o.lanes.value.items) (step slots (end_place o.config.frames) 0 0 none) me)
  loads_end_held slots id me live what allowed = allows_with (RuleHolds d o) slots id me (end_place o.config.frames) (λ n. n) (tells_word (end_kind what) (step slots (end_place o.config.frames) 0 0 none) me)
      (λ found. (o.base ≤ found) × (found ≡ o.base → ReadsHeld o.catalog.value o.config.lanes (map d.contents o.lanes.value.items) what me.0) × CopiesAreLogged o.catalog.value o.config.lanes (map d.contents o.lanes.value.items) o.config.frames found me.0)
      (loads_end_there d o slots id me live what allowed)
      (λ t h there. let here : get_elem? h.state.pool.core.views id ≡ some me.0 = ap (λ (l : List View). get_elem? l id) (sym h.shows.views) ∙ there in let says : get_or t.words (end_place o.config.frames) 0 ≡ h.state.end = h.shows.latches.word end_word tt in (
        (let from = h.laws.invariant.flushed_from in let to = h.laws.invariant.flushed_to in let base = h.shows.fixed.base in omega arith),
        (λ e. reads_held d o h.state h.shows.fixed h.laws id me.0 here what allowed (sym says ∙ e)),
        subst (λ (end : ℕ). CopiesAreLogged o.catalog.value o.config.lanes (map d.contents o.lanes.value.items) o.config.frames end me.0) (sym says) (copies_logged d o h.state h.shows.fixed h.laws id me.0 here),
      ))

  pub looks_held : (slots id f : ℕ) (me : Me (Value L G) View) → f < o.config.frames → me.0.emptied ≡ false
      → Allows (RuleHolds d o) slots id me (state_place f) (λ n. n) (tells_look f o.catalog.value o.config.lanes (map d.contents o.lanes.value.items) (step slots (state_place f) 0 0 none) me)
  looks_held slots id f me below live = allows_with (RuleHolds d o) slots id me (state_place f) (λ n. n) (tells (always looking) (step slots (state_place f) 0 0 none) me)
      (λ found. FitsHeld o.catalog.value o.config.lanes (map d.contents o.lanes.value.items) (link me.0 f) (fields found))
      (looks d o slots id f me below live)
      (λ t h there. let here : get_elem? h.state.pool.core.views id ≡ some me.0 = ap (λ (l : List View). get_elem? l id) (sym h.shows.views) ∙ there in
      fits_held d o h.state h.shows.fixed h.laws id me.0 here f (fields (get_or t.words (state_place f) 0)) (let e = h.shows.fixed.frames in omega arith) (h.shows.frame f below).word)

-- the same by the lanes that the table was opened with
module _ {L G : Type 0} (contents : L → Option Pages) (t : FrameTable L G) where
  pub opened_held : (what : EndLoad) (place : ℕ) (v : View) → (place ≡ base_of t → ReadsHeld (relations_of t) (lanes_in t) (map contents (opened_of t)) what v) → ReadsOpening contents t what place v
  opened_held Plain place v h = tt
  opened_held Checkpoint place v h = tt
  opened_held (Read f) place v h = λ e tag page remembers copied q l known block at told. h e tag page remembers copied q known block (at_map contents (opened_of t) q l at ∙ ap (λ (x : Option Pages). some x) told)

  pub opened_logged : (end : ℕ) (v : View) → CopiesAreLogged (relations_of t) (lanes_in t) (map contents (opened_of t)) t.table.shared.key.config.frames end v → LoggedOrOpening contents t end v
  opened_logged end v h f tag page low remembers copied q l known block at told = h f tag page low remembers copied q known block (at_map contents (opened_of t) q l at ∙ ap (λ (x : Option Pages). some x) told)

  pub opened_fits : (l : Link) (w : StateWord) → FitsHeld (relations_of t) (lanes_in t) (map contents (opened_of t)) l w → FitsOpening contents t l w
  opened_fits l w h = record {
    unsound = λ tag page remembers read unsound q lane known block at told. h.unsound tag page remembers read unsound q known block (at_map contents (opened_of t) q lane at ∙ ap (λ (x : Option Pages). some x) told);
    valid = λ tag remembers valid page q lane known block at told held. h.valid tag remembers valid q known page block (at_map contents (opened_of t) q lane at ∙ ap (λ (x : Option Pages). some x) told) held;
  }
