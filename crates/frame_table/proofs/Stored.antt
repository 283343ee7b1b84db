-- What a step stores: whatever the proof of an operation on a state word, where it tells a kind the word becomes what the kind makes of it.
use Rattle.std.proofs.Common.{◌≡◌, ◌≢◌, ℕ, ◌+◌, ◌≤◌, ◌*◌, ◌%◌, Bool, lit<, Option, List, [], ◌∷◌, ◌++◌, get_or, set, get_or-set_same, sym, refl, ap, ◌∙◌, subst, arith}
use Rattle.std.specs.Prelude.{max, unwrap_or}
use mathlib.Core.Option.{some}
use lib.ListN.{get_elem?}
use Rattle.state_word.specs.declared.word.StateWord.{StateWord}
use Rattle.state_word.specs.declared.word.IoEnd.{IoEnd}
use Rattle.state_word.specs.Fields.{fields, pinned_fields, unlocked_fields, usage_down_fields, io_ended_fields, dirtied_fields}
use Rattle.pin_core.specs.declared.view.View.{View}
use Rattle.pin_core.specs.Kinds as pin
use Rattle.page_core.specs.Kinds as paged
use Rattle.history_core.specs.State.{State, next_hand}
use Rattle.history_core.specs.Words.{end_word, flushed_word, redo_word, hand_word, counter_word, hint_word}
use Rattle.history_core.specs.Trail.{Follows}
use Rattle.history_core.proofs.Trail.{Ticks, listed_made, next_tick, next_word}
use Rattle.table_rule.specs.declared.opening.Opening.{Opening}
use Rattle.table_rule.specs.Layout.{end_place, flushed_place, redo_place, hand_place, counter_place, hint_place}
use Rattle.table_rule.specs.Shows.{Devices}
use Rattle.frame_table.specs.WordSteps.{DidWord, add_hand, raise_flushed, raise_redo, add_counter, store_hint}
use Rattle.frame_table.specs.Kinds.{FrameWord, state_word, FrameKind, pins, pages, part_of, frame_after, view_after}
use Rattle.frame_table.specs.Stores.{Makes, MustStore, HandMustMove, FlushedMustRise, RedoMustRise, CounterMustRise, HintMustBeStored}
use Rattle.frame_table.specs.FrameSteps.{part_place, SaysOf, Did}
use Rattle.grid.proofs.Lists.{put_at}

-- each kind at the state word but a load lists the change
lists_change : (k : FrameKind) → part_of k ≡ state_word → k ≢ pins pin.load_state → (s : State) (f : ℕ) (v : View) → (view_after k s f v).changes ≡ v.changes ++ record { frame = f; found = (s.pool.core.frame f).word; left = (frame_after k s f).word } ∷ []
lists_change (pins pin.load_state) at loads s f v = absurd (loads refl)
lists_change (pins (pin.pin ring)) at loads s f v = refl
lists_change (pins (pin.pin_mapped tag ring)) at loads s f v = refl
lists_change (pins pin.unpin) at loads s f v = refl
lists_change (pins pin.lock_header) at loads s f v = refl
lists_change (pins pin.unlock_header) at loads s f v = refl
lists_change (pins (pin.store_tag tag)) at loads s f v = absurd (cc)
lists_change (pins (pin.store_new_tag tag)) at loads s f v = absurd (cc)
lists_change (pins pin.erase_tag) at loads s f v = absurd (cc)
lists_change (pins pin.load_tag) at loads s f v = absurd (cc)
lists_change (pins pin.pin_victim) at loads s f v = refl
lists_change (pins pin.lower_usage) at loads s f v = refl
lists_change (pins pin.assign) at loads s f v = refl
lists_change (pins pin.clear) at loads s f v = refl
lists_change (pages paged.load_content) at loads s f v = absurd (cc)
lists_change (pages paged.mark_dirty) at loads s f v = refl
lists_change (pages paged.share) at loads s f v = absurd (cc)
lists_change (pages paged.exclude) at loads s f v = absurd (cc)
lists_change (pages paged.unshare) at loads s f v = absurd (cc)
lists_change (pages paged.unexclude) at loads s f v = absurd (cc)
lists_change (pages paged.take_copy) at loads s f v = absurd (cc)
lists_change (pages paged.leave_copy) at loads s f v = absurd (cc)
lists_change (pages paged.page_out) at loads s f v = absurd (cc)
lists_change (pages paged.overwrite_logged) at loads s f v = absurd (cc)
lists_change (pages (paged.overwrite_read p)) at loads s f v = absurd (cc)
lists_change (pages paged.page_back) at loads s f v = absurd (cc)
lists_change (pages (paged.note_read p)) at loads s f v = absurd (cc)
lists_change (pages paged.note_zero) at loads s f v = absurd (cc)
lists_change (pages paged.begin_write) at loads s f v = absurd (cc)
lists_change (pages (paged.note_write done)) at loads s f v = absurd (cc)
lists_change (pages (paged.make_entry p)) at loads s f v = absurd (cc)
lists_change (pages paged.start_input) at loads s f v = refl
lists_change (pages paged.start_output) at loads s f v = refl
lists_change (pages paged.clear_just_dirtied) at loads s f v = refl
lists_change (pages (paged.end_io end)) at loads s f v = refl
lists_change (pages (paged.set_waiter number)) at loads s f v = refl
lists_change (pages paged.clear_waiter) at loads s f v = refl
lists_change (pages paged.need_checkpoint) at loads s f v = refl

module _ {L G : Type 0} (d : Devices L G) (o : Opening L G) where
  -- What an operation on a state word stores, if it keeps the rule and tells the kind k, in any table: what k makes of a frame with the word found
  pub must_store : (k : FrameKind) → part_of k ≡ state_word → k ≢ pins pin.load_state → MustStore d o k (Makes k)
  must_store k part moves choice slots id f a b g me t at below h0 allows is =
      let n : ℕ = get_or t.words (8 * f) 0 in
      let h = h0.held in
      let r = allows t h h0.wide h0.there h0.small in
      let w : View = r.0 in
      let h' = r.3 in
      let did : Did k f me.0 w n = subst (λ (j : FrameKind). Did j f me.0 w n) is (r.4.1 f (ap (λ (p : FrameWord). part_place p f) (sym at))) in
      let was : (did.state.pool.core.frame f).word ≡ fields n = subst (λ (p : FrameWord). SaysOf p n (did.state.pool.core.frame f)) part did.says in
      let listed : w.changes ≡ me.0.changes ++ record { frame = f; found = (did.state.pool.core.frame f).word; left = (frame_after k did.state f).word } ∷ [] = ap (λ (v : View). v.changes) did.after ∙ lists_change k part moves did.state f me.0 in
      let here : get_elem? h.state.pool.core.views id ≡ some me.0 = ap (λ (l : List View). get_elem? l id) (sym h.shows.views) ∙ h0.there in
      let trail : Follows h'.state.pool.core.frame (set h.state.pool.core.views id w) = subst (Follows h'.state.pool.core.frame) (sym h'.shows.views ∙ ap (λ (l : List View). set l id w) h.shows.views) h'.laws.trail.words in
      let shown : (h'.state.pool.core.frame f).word ≡ fields (g n) = (h'.shows.frame f below).word ∙ ap fields (get_or-set_same t.words (8 * f) (g n) 0 (let e = h.shows.words in omega arith)) in
      record {
        state = did.state;
        was = was;
        is = sym shown ∙ next_word h.state.pool.core.frame h'.state.pool.core.frame h.state.pool.core.views id f me.0 w (did.state.pool.core.frame f).word (frame_after k did.state f).word h.laws.trail.words trail here listed (was ∙ sym (h.shows.frame f below).word);
      }

  -- a pin, a pass of the clock, the end of input or output, and a change of the page
  pub pin_stores : (ring : Bool) → MustStore d o (pins (pin.pin ring)) (λ f found left. left ≡ pinned_fields ring found)
  pin_stores ring choice slots id f a b g me t at below h allows is = let m = must_store (pins (pin.pin ring)) refl (λ x. cc) choice slots id f a b g me t at below h allows is in m.is ∙ ap (pinned_fields ring) m.was

  pub lower_stores : MustStore d o (pins pin.lower_usage) (λ f found left. left ≡ unlocked_fields (usage_down_fields found))
  lower_stores choice slots id f a b g me t at below h allows is = let m = must_store (pins pin.lower_usage) refl (λ x. cc) choice slots id f a b g me t at below h allows is in m.is ∙ ap (λ (w : StateWord). unlocked_fields (usage_down_fields w)) m.was

  pub end_stores : (end : IoEnd) → MustStore d o (pages (paged.end_io end)) (λ f found left. left ≡ unlocked_fields (io_ended_fields end found))
  end_stores end choice slots id f a b g me t at below h allows is = let m = must_store (pages (paged.end_io end)) refl (λ x. cc) choice slots id f a b g me t at below h allows is in m.is ∙ ap (λ (w : StateWord). unlocked_fields (io_ended_fields end w)) m.was

  pub dirty_stores : MustStore d o (pages paged.mark_dirty) (λ f found left. left ≡ dirtied_fields found)
  dirty_stores choice slots id f a b g me t at below h allows is = let m = must_store (pages paged.mark_dirty) refl (λ x. cc) choice slots id f a b g me t at below h allows is in m.is ∙ ap dirtied_fields m.was

  -- and what an operation on the clock's hand stores, if it keeps the rule and tells a move of the hand
  pub hand_moves : HandMustMove d o
  hand_moves slots id a b g me t h0 allows =
      let at : ℕ = hand_place o.config.frames in
      let n : ℕ = get_or t.words at 0 in
      let h = h0.held in
      let r = allows t h h0.wide h0.there h0.small in
      let w : View = r.0 in
      let h' = r.3 in
      let did : DidWord add_hand me.0 w n = r.4.1 in
      let here : get_elem? h.state.pool.core.views id ≡ some me.0 = ap (λ (l : List View). get_elem? l id) (sym h.shows.views) ∙ h0.there in
      let moved : h'.state.hand ≡ Ticks (set h.state.pool.core.views id w) % 18446744073709551616 = h'.laws.trail.hand ∙ ap (λ (l : List View). Ticks l % 18446744073709551616) (sym h'.shows.views ∙ ap (λ (l : List View). set l id w) h.shows.views) in
      let shown : g n ≡ h'.state.hand = sym (get_or-set_same t.words at (g n) 0 (let e = h.shows.words in omega arith)) ∙ h'.shows.latches.word hand_word tt in
      shown ∙ next_tick h.state.hand h'.state.hand h.state.pool.core.views id me.0 w h.laws.trail.hand moved here (ap (λ (v : View). v.ticks) did.after) ∙ ap next_hand (sym (h.shows.latches.word hand_word tt))

  -- and what an operation on the word of the flushed position stores, if it keeps the rule and tells that the position was raised
  pub flushed_rises : FlushedMustRise d o
  flushed_rises slots id a b g me t h0 allows =
      let at : ℕ = flushed_place o.config.frames in
      let n : ℕ = get_or t.words at 0 in
      let h = h0.held in
      let s = h.state in
      let r = allows t h h0.wide h0.there h0.small in
      let w : View = r.0 in
      let h' = r.3 in
      let did : DidWord raise_flushed me.0 w n = r.4.1 in
      let here : get_elem? s.pool.core.views id ≡ some me.0 = ap (λ (l : List View). get_elem? l id) (sym h.shows.views) ∙ h0.there in
      let raised : w.raised_to ≡ max me.0.raised_to s.end = ap (λ (v : View). v.raised_to) did.after ∙ ap (λ (e : Option ℕ). max me.0.raised_to (unwrap_or e 0)) did.allowed.1
      ∙ ap (max me.0.raised_to) (((h.laws.invariant.device.cells id me.0 0 here (lit< tt)).end did.state.end did.allowed.1).1) in
      let more : me.0.raised_to ≤ w.raised_to = omega arith in
      let made = (listed_made s h'.state h.laws h'.laws id me.0 w here (sym h'.shows.views ∙ ap (λ (l : List View). set l id w) h.shows.views)).raised more in
      let shown : g n ≡ h'.state.flushed = sym (get_or-set_same t.words at (g n) 0 (let e = h.shows.words in omega arith)) ∙ h'.shows.latches.word flushed_word tt in
      let highest = h.laws.trail.flushed.above id me.0 here in
      let is_flushed : n ≡ s.flushed = h.shows.latches.word flushed_word tt in
      let is_end : get_or t.words (end_place o.config.frames) 0 ≡ s.end = h.shows.latches.word end_word tt in
      omega arith

  -- and what an operation on the word of the redo position stores, if it keeps the rule and tells that the position was raised
  pub redo_rises : RedoMustRise d o
  redo_rises slots id a b g me t h0 allows =
      let at : ℕ = redo_place o.config.frames in
      let n : ℕ = get_or t.words at 0 in
      let h = h0.held in
      let s = h.state in
      let r = allows t h h0.wide h0.there h0.small in
      let w : View = r.0 in
      let h' = r.3 in
      let did : DidWord raise_redo me.0 w n = r.4.1 in
      let here : get_elem? s.pool.core.views id ≡ some me.0 = ap (λ (l : List View). get_elem? l id) (sym h.shows.views) ∙ h0.there in
      let raised : w.redo_raised ≡ me.0.redo_raised ++ s.end ∷ [] = ap (λ (v : View). v.redo_raised) did.after ∙ ap (λ (e : Option ℕ). me.0.redo_raised ++ unwrap_or e 0 ∷ []) did.allowed
      ∙ ap (λ (z : ℕ). me.0.redo_raised ++ z ∷ []) (((h.laws.invariant.device.cells id me.0 0 here (lit< tt)).end did.state.end did.allowed).1) in
      let base : h'.state.log.base ≡ s.log.base = h'.shows.fixed.base ∙ sym h.shows.fixed.base in
      let made = (listed_made s h'.state h.laws h'.laws id me.0 w here (sym h'.shows.views ∙ ap (λ (l : List View). set l id w) h.shows.views)).raised_redo base s.end raised in
      let shown : g n ≡ h'.state.redo = sym (get_or-set_same t.words at (g n) 0 (let e = h.shows.words in omega arith)) ∙ h'.shows.latches.word redo_word tt in
      let is_redo : n ≡ s.redo = h.shows.latches.word redo_word tt in
      let is_end : get_or t.words (end_place o.config.frames) 0 ≡ s.end = h.shows.latches.word end_word tt in
      omega arith

  -- and what an operation on a counter stores, if it keeps the rule and tells that so much was added
  pub counter_rises : CounterMustRise d o
  counter_rises number more slots id a b g me t below h0 allows =
      let at : ℕ = counter_place o.config.frames number in
      let n : ℕ = get_or t.words at 0 in
      let h = h0.held in
      let s = h.state in
      let r = allows t h h0.wide h0.there h0.small in
      let w : View = r.0 in
      let h' = r.3 in
      let did : DidWord (add_counter number more) me.0 w n = r.4.1 in
      let here : get_elem? s.pool.core.views id ≡ some me.0 = ap (λ (l : List View). get_elem? l id) (sym h.shows.views) ∙ h0.there in
      let made = (listed_made s h'.state h.laws h'.laws id me.0 w here (sym h'.shows.views ∙ ap (λ (l : List View). set l id w) h.shows.views)).added
      (record { count = number; more = more }) (ap (λ (v : View). v.published) did.after) number in
      let shown : g n ≡ h'.state.counter number = sym (get_or-set_same t.words at (g n) 0 (let e = h.shows.words in omega arith)) ∙ h'.shows.latches.word (counter_word number) below in
      let was : n ≡ s.counter number = h.shows.latches.word (counter_word number) below in
      let risen = put_at s.counter number (s.counter number + more) number refl in
      omega arith

  -- and what an operation on a hint word stores, if it keeps the rule and tells that the word got a value
  pub hint_stored : HintMustBeStored d o
  hint_stored number value slots id a b g me t below h0 allows =
      let at : ℕ = hint_place o.config.frames number in
      let n : ℕ = get_or t.words at 0 in
      let h = h0.held in
      let s = h.state in
      let r = allows t h h0.wide h0.there h0.small in
      let w : View = r.0 in
      let h' = r.3 in
      let did : DidWord (store_hint number value) me.0 w n = r.4.1 in
      let here : get_elem? s.pool.core.views id ≡ some me.0 = ap (λ (l : List View). get_elem? l id) (sym h.shows.views) ∙ h0.there in
      let made = (listed_made s h'.state h.laws h'.laws id me.0 w here (sym h'.shows.views ∙ ap (λ (l : List View). set l id w) h.shows.views)).stored
      (record { number = number; found = n; left = value }) (ap (λ (v : View). v.hints) did.after) (h.shows.latches.word (hint_word number) below) number in
      sym (get_or-set_same t.words at (g n) 0 (let e = h.shows.words in omega arith)) ∙ h'.shows.latches.word (hint_word number) below ∙ made ∙ put_at s.hint number value number refl
